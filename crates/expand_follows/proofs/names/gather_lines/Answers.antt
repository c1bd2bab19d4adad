use Rattle.std.proofs.Common.{List, map, refl, ap, ◌∙◌}
use Rattle.std.specs.List.{flat_map}
use Rattle.core_language.specs.Core.{PlainCore}
use Rattle.core_language.specs.declared.record.Line.{Line}
use Rattle.law_core.specs.Parts.{parts}
use Rattle.law_core.specs.Records.{line_core}
use Rattle.core_well_made.specs.Parts.{noted_all}
use Rattle.core_well_made.proofs.Lists.{noted_on}
use Rattle.expand_follows.proofs.names.gather_lines.Goals as goal

pub loop-line-preserved : goal.loop-line-preserved
loop-line-preserved c =
    noted_on (λ (ls : List Line). flat_map parts (map line_core ls)) (λ (l : Line). parts (line_core l)) (λ l ls. refl) c.args.lines.now c.loop-line.line-index c.line-item.result
    c.loop-line.all c.gather.new.all _ c.loop-line-test.true c.line-item.is
    (c.in_ok-gather.ensures ∙ ap (λ (d : PlainCore). noted_all c.loop-line.all (parts d)) c.line_core.ensures) c.loop-line.invariant
