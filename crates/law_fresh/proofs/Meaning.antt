-- What an evaluation comes to has no leaves but those that may be met when it is done.
use Rattle.std.proofs.Common.{ℕ, List}
use Rattle.base_data.specs.declared.library.LibName.{LibName}
use Rattle.base_region.specs.declared.region.Place.{Place}
use Rattle.stx_tree.specs.Context.{LeafContext}
use Rattle.core_language.specs.Core.{PlainCore}
use Rattle.core_language.specs.declared.record.Line.{Line}
use Rattle.eval_value.specs.declared.value.Value.{Value}
use Rattle.eval_code.specs.Lines.{lines_from}
use Rattle.eval_code.specs.Meaning.{eval_of, applied}
use Rattle.eval_code.specs.Setting.{PlainSetting}
use Rattle.eval_code.specs.State.{WorldState}
use Rattle.law_invariants.specs.Invariant.{Invariant}
use Rattle.law_invariants.proofs.Meaning as meaning
use Rattle.law_fresh.specs.Leaves.{ValuesHold, CoreHolds, LinesHold, leaves}
use Rattle.law_fresh.specs.Names.{FreshRises, SettingHolds, StateHolds, OutcomeHolds}
use Rattle.law_fresh.proofs.Closed.{leaves-rise}

module _ (own : LibName) (m : ℕ) (P : ℕ → LeafContext → Type 0) (rises : FreshRises own m P) (w : PlainSetting) (setting : SettingHolds (P m) w) where
  abbrev I : ℕ → Invariant
  I n = leaves (P n)

  pub holds-eval : (c : PlainCore) (scope : Place) (s : WorldState) (n : ℕ) → CoreHolds (P m) c → StateHolds own P m s → OutcomeHolds own P s.names.number (eval_of w c scope s n)
  holds-eval c scope s n k h = meaning.holds-eval own m I (leaves-rise own m P rises) w setting c scope s n k h

  pub holds-call : (vs : List Value) (s : WorldState) (n : ℕ) → StateHolds own P m s → ValuesHold (P s.names.number) vs → OutcomeHolds own P s.names.number (applied w (eval_of w) vs s n)
  holds-call vs s n h k = meaning.holds-call own m I (leaves-rise own m P rises) w setting vs s n h k

  pub holds-lines : (ls : List Line) (scope : Place) (s : WorldState) (n : ℕ) → LinesHold (P m) ls → StateHolds own P m s → OutcomeHolds own P s.names.number (lines_from (eval_of w) ls scope s n)
  holds-lines ls scope s n k h = meaning.holds-lines own m I (leaves-rise own m P rises) w setting ls scope s n k h
