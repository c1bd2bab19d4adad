-- The use of a keyword that is one too many is refused.
use Rattle.std.proofs.Common.{◌≡◌, ℕ, zero, List, [], Ok, Err, sym, ap, ◌∙◌}
use Rattle.base_data.specs.Act.{after}
use Rattle.base_data.specs.declared.fault.Fault.{Fault}
use Rattle.base_data.specs.declared.fault.FaultKind.TheVariants as kind
use Rattle.base_data.specs.declared.span.Span.{Span}
use Rattle.stx_tree.specs.Tree.{Tree}
use Rattle.core_language.specs.declared.record.CompiledLibrary.{CompiledLibrary}
use Rattle.expand_standing.specs.State.{State}
use Rattle.expand_heads.specs.declared.plan.KeywordUse.{KeywordUse}
use Rattle.expand_heads.specs.declared.taken.BodyAt.{BodyAt}
use Rattle.expand_heads.specs.declared.taken.Taken.{Taken}
use Rattle.expand_forms.specs.ExpandUses.{too_many, step, planned_by, expand_uses_to, item_step, item_by, expand_item_uses_to}
use Rattle.expand_forms.specs.declared.expand_uses.ItemOrUse.TheVariants as item_steps
use Rattle.expand_forms.specs.declared.expand_uses.PlanOrUse.TheVariants as steps
use Rattle.law_expand_faults.specs.Told.{TellsFault}
use Rattle.law_expand_faults.specs.Uses.{UsesTooManyAreTold}
use Rattle.law_expand_faults.proofs.Told.{told}

none-left : (rs : List CompiledLibrary) (place : Span) (level : ℕ) (t : Tree) (s u : State) (k : KeywordUse) (f : Fault) → step rs place level t s ≡ Ok (steps.Use k, u) → TellsFault kind.TooManyExpansions t place [] f
    → expand_uses_to rs zero place level t s ≡ Err f
unfolding expand_uses_to
none-left rs place level t s u k f e h = ap (λ r. after r (planned_by (λ j. too_many t place) place t)) e ∙ ap Err (sym (told kind.TooManyExpansions t place [] f h))

no-item-left : (rs : List CompiledLibrary) (at : BodyAt) (depth : ℕ) (done taken : Taken) (t : Tree) (s u : State) (k : KeywordUse) (f : Fault) → item_step rs at depth done t s ≡ Ok ((taken, item_steps.Use k), u)
    → TellsFault kind.TooManyExpansions t at.place [] f → expand_item_uses_to rs zero at depth done t s ≡ Err f
unfolding expand_item_uses_to
no-item-left rs at depth done taken t s u k f e h = ap (λ r. after r (item_by (λ d j. too_many t at.place) at t)) e ∙ ap Err (sym (told kind.TooManyExpansions t at.place [] f h))

pub uses-too-many : UsesTooManyAreTold
uses-too-many = record {
  expressions = λ rs place level t s u k f e h. none-left rs place level t s u k f e h;
  items = λ rs at depth done taken t s u k f e h. no-item-left rs at depth done taken t s u k f e h;
}
