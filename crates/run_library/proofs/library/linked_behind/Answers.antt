use Rattle.std.proofs.Common.{◌≡◌, ◌+◌, List, ap, subst, ◌∙◌}
use Rattle.std.specs.Prelude.{OnOk}
use Rattle.base_data.specs.Gives.{Gives}
use Rattle.core_language.specs.declared.record.CompiledLibrary.{CompiledLibrary}
use Rattle.expand_forms.specs.Expanding.{library_linked, library_spent}
use Rattle.expand_forms.specs.declared.top.Linked.{Linked}
use Rattle.eval_stage.specs.Libraries.{needed_records}
use Rattle.run_library.proofs.PlaceLemmas.{at_stage}
use Rattle.run_library.proofs.library.linked_behind.Goals as goal

pub returns-clause-linked : goal.returns-clause-linked
returns-clause-linked g c =
    subst (λ (rs : List CompiledLibrary). Gives (λ (l : Linked). l) c.top_linked.result (library_linked c.args.begun rs c.args.body))
    (ap (needed_records c.args.needed.now.marks.now) (c.as_slice.ensures ∙ c.ready.ensures) ∙ at_stage c.args.needed.now.marks.now c.args.needed.now.records.now) c.top_linked.ensures.linked

pub returns-clause-fuel : goal.returns-clause-fuel
returns-clause-fuel g c =
    subst (λ (rs : List CompiledLibrary). OnOk c.top_linked.result (c.top_linked.new.tally.fuel ≡ c.args.tally.now.fuel + library_spent c.args.begun rs c.args.body))
    (ap (needed_records c.args.needed.now.marks.now) (c.as_slice.ensures ∙ c.ready.ensures) ∙ at_stage c.args.needed.now.marks.now c.args.needed.now.records.now) c.top_linked.ensures.fuel
