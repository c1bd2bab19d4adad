-- Evaluation in a whole world, and calls there, keep it whole.
use Rattle.std.proofs.Common.{◌≡◌, ℕ, List, [], ◌∷◌, ◌++◌, Option, Some, None, refl, subst}
use Rattle.base_data.specs.Elements.{Each}
use Rattle.base_data.specs.declared.name.Label.{Label}
use Rattle.base_region.specs.declared.region.Place.{Place}
use Rattle.core_language.specs.Core.{PlainCore}
use Rattle.eval_value.specs.declared.value.Value.{Value}
use Rattle.eval_value.specs.declared.cell.Cell.{Cell}
use Rattle.eval_value.specs.declared.cell.Cell.TheVariants as cell
use Rattle.eval_code.specs.Codes.{Codes, code_at, with_codes}
use Rattle.eval_code.specs.Evals.{setting_of, state_of, evaluated}
use Rattle.eval_code.specs.Procedures.{text_number}
use Rattle.eval_code.specs.Setting.{PlainSetting}
use Rattle.eval_code.specs.State.{WorldState, with_cell, next_place}
use Rattle.law_whole.specs.Evaluated.{EvalsNeverStuck, CallsNeverStuck, ScopeThere, codes_of}
use Rattle.law_whole.specs.Extends.{Stay, Extends}
use Rattle.law_whole.specs.Ready.{FoundFrom, BoundFrom, ReadyIn}
use Rattle.law_whole.specs.WholeWorld.{ValueReady, WholeWorld, WholeEnding}
use Rattle.law_whole.proofs.Growth.{grows_refl}
use Rattle.law_whole.proofs.Steady.{ready_map, cell_later, globals_later, text_later}
use Rattle.law_whole.proofs.Stuck.{never_stuck, applied_never_stuck}
use Rattle.law_whole.proofs.Worlds.{first_scope_added, has_added, scope_finds_all, scope_binds}

-- A world stays whole where what is read comes to hold more.
pub world_extended : (w v : PlainSetting) → Extends w v → (cells : List Cell) → WholeWorld w cells → Each (λ (e : Label × Value). ValueReady v cells e.1) v.globals → WholeWorld v cells
world_extended w v x cells world globals = record {
  whole = world.whole;
  values = λ n c e. cell_later w v x cells cells (grows_refl cells) c (world.values n c e);
  globals = globals;
  texts = λ op e. text_later w v x cells cells (grows_refl cells) (text_number op) (code_at w.codes (text_number op)) refl (world.texts op e);
}

-- Codes are added.

pub with_codes_whole : (w v : PlainSetting) → Extends w v → w.globals ≡ v.globals → (cells : List Cell) → WholeWorld w cells → WholeWorld v cells
with_codes_whole w v x e cells world =
    world_extended w v x cells world
    (subst (λ gs. Each (λ (e : Label × Value). ValueReady v cells e.1) gs) e (globals_later w v x cells cells (grows_refl cells) w.globals world.globals))

-- an expression, after codes were added that give no number to another code
pub expressions_never_stuck : (w : PlainSetting) (codes : Codes) (c : PlainCore) (scope : Option Place) (s : WorldState) (n : ℕ) → WholeWorld w s.cells → ScopeThere s.cells scope → Stay w.codes codes
    → ReadyIn (record w { codes = codes }) s.cells scope c → WholeEnding (record w { codes = codes }) (evaluated (record w { codes = codes }) c scope s n)
expressions_never_stuck w codes c scope s n world there stay ready = by_scope scope there ready
  where
    v : PlainSetting
    v = record w { codes = codes }

    whole : WholeWorld v s.cells
    whole = with_codes_whole w v (record { codes = stay; globals = λ l h. h }) refl s.cells world

    by_scope : (o : Option Place) → ScopeThere s.cells o → ReadyIn v s.cells o c → WholeEnding v (evaluated v c o s n)
    by_scope (Some place) h r = never_stuck v c place s n whole h r
    by_scope None h r =
        let first = cell.Scope [] None in
        let new = s.cells ++ first ∷ [] in
        never_stuck v c (next_place s) (with_cell first s) n (first_scope_added v s.cells whole) (has_added s.cells first refl)
        (ready_map v v (λ number code k. k) (FoundFrom v s.cells None) (FoundFrom v new (Some (next_place s))) (BoundFrom s.cells None) (BoundFrom new (Some (next_place s)))
        (scope_finds_all v s.cells [] None) (scope_binds v s.cells [] None) c r)

pub evals_never_stuck : EvalsNeverStuck
evals_never_stuck w c scope n world there stay ready = expressions_never_stuck (setting_of w) (with_codes c (codes_of w)) c scope (state_of w) n world there stay ready

pub calls_never_stuck : CallsNeverStuck
calls_never_stuck w f args n world r = applied_never_stuck (setting_of w) f args (state_of w) n world r
