-- What the parts of an evaluation leave and give in a whole world.
use Rattle.std.specs.Prelude.{◌≡◌, List, [], ◌∷◌}
use Rattle.base_data.specs.Elements.{Each}
use Rattle.base_data.specs.declared.name.Label.{Label}
use Rattle.core_language.specs.Pattern.{PlainPattern}
use Rattle.law_core.specs.Templates.{Depths, depths}
use Rattle.eval_value.specs.Bind.{PlainBind}
use Rattle.eval_value.specs.declared.cell.Cell.{Cell}
use Rattle.eval_pattern.specs.declared.columns.PatternBinds.{PatternBinds}
use Rattle.eval_code.specs.Setting.{PlainSetting}
use Rattle.eval_code.specs.State.{Outcome, done, faulted, unfit}
use Rattle.law_whole.specs.Grows.{WorldGrowth}
use Rattle.law_whole.specs.Ready.{HasDepth}
use Rattle.law_whole.specs.WholeWorld.{ValueReady, BindReady, WholeWorld}

-- a value or a fault in a world that is whole still
abbrev pub EndsWell : PlainSetting → List Cell → Outcome → Type 0
EndsWell w cells (done v s n) = WorldGrowth cells s.cells × (WholeWorld w s.cells × ValueReady w s.cells v)
EndsWell w cells (faulted f s n) = WorldGrowth cells s.cells × WholeWorld w s.cells
EndsWell w cells unfit = ⊥

-- the binds of a pattern: its variables, each with a bind of its depth
abbrev pub Bound : Depths → List (Label × PlainBind) → Type 0
Bound [] [] = Unit {0}
Bound [] (b ∷ bs) = ⊥
Bound (d ∷ ds) [] = ⊥
Bound (d ∷ ds) (b ∷ bs) = (d.0 ≡ b.0) × (HasDepth d.1 b.1 × Bound ds bs)

pub record MatchReady (w : PlainSetting) (cells : List Cell) (p : PlainPattern) (f : PatternBinds) : Type 0 where
  pub bound : Bound (depths 0 p) f.binds
  pub ready : Each (λ (b : Label × PlainBind). BindReady w cells b.1) f.binds
