use Rattle.std.proofs.Common.{List}
use Rattle.std.specs.List.{flat_map}
use Rattle.base_data.specs.declared.name.Label.{Label}
use Rattle.core_language.specs.declared.binding.Binding.{Binding}
use Rattle.law_core.specs.Follows.{keyword_of}
use Rattle.law_core.specs.Parts.{parts}
use Rattle.core_well_made.proofs.Lists.{noted_on}
use Rattle.expand_follows.specs.Pieces.{expand_transformer_in, parts_in}
use Rattle.expand_follows.proofs.CodeLemmas.{keyword_parts_more}
use Rattle.expand_follows.proofs.names.gather_keywords.Goals as goal

pub loop-row-preserved : goal.loop-row-preserved
loop-row-preserved c =
    noted_on (λ (bs : List (Label × Binding)). flat_map parts (flat_map keyword_of bs)) (λ (b : Label × Binding). parts_in (expand_transformer_in b.1)) keyword_parts_more
    c.args.bindings.now c.loop-row.row-index c.row-item.result
    c.loop-row.all c.gather_keyword.new.all _ c.loop-row-test.true c.row-item.is c.in_ok-gather_keyword.ensures c.loop-row.invariant
