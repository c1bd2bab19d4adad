use Rattle.std.proofs.Common.{◌∙◌, ap, sym}
use Rattle.std.proofs.lemmas.List.{drop_all}
use Rattle.core_well_made.specs.declared.parts.NotedParts.{NotedParts}
use Rattle.expand_follows.specs.Pieces.{with_lines}
use Rattle.expand_follows.proofs.CodeLemmas.{variables_of_lines}
use Rattle.expand_follows.proofs.code.run_variables.Goals as goal

pub returns : goal.returns
returns c =
    ap (λ (all : NotedParts). all.variables)
    (ap (with_lines c.loop-line.all) (sym (drop_all c.loop-line.line-index c.args.lines.now c.loop-line-test.false)) ∙ c.loop-line.invariant)
    ∙ variables_of_lines c.args.lines.now
