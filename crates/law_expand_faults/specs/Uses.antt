-- The use of a keyword that is one too many.
use Rattle.std.specs.Prelude.{◌≡◌, ℕ, zero, List, [], Ok, Err}
use Rattle.base_data.specs.declared.fault.Fault.{Fault}
use Rattle.base_data.specs.declared.fault.FaultKind.TheVariants as kind
use Rattle.base_data.specs.declared.span.Span.{Span}
use Rattle.stx_tree.specs.Tree.{Tree}
use Rattle.core_language.specs.declared.record.CompiledLibrary.{CompiledLibrary}
use Rattle.expand_standing.specs.State.{State}
use Rattle.expand_heads.specs.declared.plan.KeywordUse.{KeywordUse}
use Rattle.expand_heads.specs.declared.taken.BodyAt.{BodyAt}
use Rattle.expand_heads.specs.declared.taken.Taken.{Taken}
use Rattle.expand_forms.specs.ExpandUses.{step, expand_uses_to, item_step, expand_item_uses_to}
use Rattle.expand_forms.specs.declared.expand_uses.ItemOrUse.TheVariants as item_steps
use Rattle.expand_forms.specs.declared.expand_uses.PlanOrUse.TheVariants as steps
use Rattle.law_expand_faults.specs.Told.{TellsFault}

-- Where no use is left, a form that is one is TooManyExpansions, which has no words; so is a form of a body.
pub record UsesTooManyAreTold : Type 0 where
  pub expressions : (rs : List CompiledLibrary) (place : Span) (level : ℕ) (t : Tree) (s u : State) (k : KeywordUse) (f : Fault)
      → step rs place level t s ≡ Ok (steps.Use k, u) → TellsFault kind.TooManyExpansions t place [] f
      → expand_uses_to rs zero place level t s ≡ Err f
  pub items : (rs : List CompiledLibrary) (at : BodyAt) (depth : ℕ) (done taken : Taken) (t : Tree) (s u : State) (k : KeywordUse)
      (f : Fault) → item_step rs at depth done t s ≡ Ok ((taken, item_steps.Use k), u)
      → TellsFault kind.TooManyExpansions t at.place [] f → expand_item_uses_to rs zero at depth done t s ≡ Err f
