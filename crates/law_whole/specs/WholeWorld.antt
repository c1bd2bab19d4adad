-- Whole worlds, in which no evaluation meets cells that don't fit.
use Rattle.std.specs.Prelude.{◌≡◌, ℕ, true, List, ◌∷◌, Option, None, Some, slice_get, IsTrue}
use Rattle.base_data.specs.Elements.{Each}
use Rattle.base_data.specs.declared.name.Label.{Label}
use Rattle.base_region.specs.declared.region.Place.{Place}
use Rattle.core_language.specs.Core.{PlainCore, PlainCode, procedure, letrec, variable, no_init, init}
use Rattle.eval_value.specs.Bind.{PlainBind, one, many, PlainBinds, none, more}
use Rattle.eval_value.specs.Cells.{WholeCells, FitsIn, has_variables}
use Rattle.eval_value.specs.declared.value.Value.{Value}
use Rattle.eval_value.specs.declared.value.Value.TheVariants as value
use Rattle.eval_value.specs.declared.cell.Cell.{Cell}
use Rattle.eval_value.specs.declared.cell.Cell.TheVariants as cell
use Rattle.eval_code.specs.Codes.{code_at}
use Rattle.eval_code.specs.Meaning.{eval_of, applied}
use Rattle.eval_code.specs.Procedures.{has_text, text_number, text_body}
use Rattle.eval_code.specs.Setting.{PlainSetting}
use Rattle.eval_code.specs.State.{WorldState, Outcome, done, faulted, unfit}
use Rattle.law_whole.specs.Ready.{ReadyIn, CasesReadyIn}

-- the body of a text gives a procedure: it is one, or names one that it binds
abbrev pub GivesProcedure : PlainCore → Type 0
GivesProcedure (procedure number cs plain) = Unit {0}
GivesProcedure (letrec o is (procedure number cs plain)) = Unit {0}
GivesProcedure (letrec o (init l (procedure number cs plain) no_init) (variable m)) = l ≡ m
GivesProcedure _ = ⊥

module _ (w : PlainSetting) (cells : List Cell) where
  abbrev pub CodeReady : Place → Option PlainCode → Type 0
  CodeReady place None = ⊥
  CodeReady place (Some code) = CasesReadyIn w cells (Some place) code.cases

  -- the code of a procedure is there, and ready where the procedure was made
  abbrev pub ProcedureReady : Value → Type 0
  ProcedureReady (value.Closure number place) = CodeReady place (code_at w.codes number)
  ProcedureReady _ = Unit {0}

-- a value that fits, and whose code is ready where it is that of a procedure
pub record ValueReady (w : PlainSetting) (cells : List Cell) (v : Value) : Type 0 where
  pub fits : FitsIn cells v
  pub ready : ProcedureReady w cells v

module _ (w : PlainSetting) (cells : List Cell) where
  abbrev pub ValuesReady : List Value → Type 0
  ValuesReady vs = Each (ValueReady w cells) vs

  abbrev pub OptionReady : Option Value → Type 0
  OptionReady None = Unit {0}
  OptionReady (Some v) = ValueReady w cells v

  abbrev mutual
    pub BindReady : PlainBind → Type 0
    BindReady (one v) = ValueReady w cells v
    BindReady (many bs) = BindsReady bs

    pub BindsReady : PlainBinds → Type 0
    BindsReady none = Unit {0}
    BindsReady (more b bs) = BindReady b × BindsReady bs

  abbrev pub CellReady : Cell → Type 0
  CellReady (cell.Pair x y) = ValueReady w cells x × ValueReady w cells y
  CellReady (cell.Vector xs) = ValuesReady xs
  CellReady (cell.Str text) = Unit {0}
  CellReady (cell.Scope es parent) = Each (λ (e : Label × Option Value). OptionReady e.1) es
  CellReady (cell.Binds bs parent) = Each (λ (b : Label × PlainBind). BindReady b.1) bs
  CellReady (cell.Transformer x) = ValueReady w cells x

  abbrev pub TextReady : Option PlainCore → Type 0
  TextReady None = ⊥
  TextReady (Some c) = GivesProcedure c × ReadyIn w cells None c

-- A world is whole where its cells are, its values are ready, and so are the texts of the ops that have one.
pub record WholeWorld (w : PlainSetting) (cells : List Cell) : Type 0 where
  pub whole : WholeCells cells
  pub values : (n : ℕ) (c : Cell) → slice_get cells n ≡ Some c → CellReady w cells c
  pub globals : Each (λ (e : Label × Value). ValueReady w cells e.1) w.globals
  pub texts : (op : ℕ) → has_text op ≡ true → TextReady w cells (text_body (code_at w.codes (text_number op)))

-- an outcome in a whole world, with a value that is ready
abbrev pub WholeEnding : PlainSetting → Outcome → Type 0
WholeEnding w (done v s n) = WholeWorld w s.cells × ValueReady w s.cells v
WholeEnding w (faulted f s n) = WholeWorld w s.cells
WholeEnding w unfit = ⊥

-- In a whole world code that is ready comes to a value or a fault, and leaves the world whole.
abbrev pub NeverStuck : Type 0
NeverStuck = (w : PlainSetting) (c : PlainCore) (scope : Place) (s : WorldState) (n : ℕ) → WholeWorld w s.cells
    → IsTrue (has_variables (slice_get s.cells scope.0)) → ReadyIn w s.cells (Some scope) c
    → WholeEnding w (eval_of w c scope s n)

abbrev pub AppliedNeverStuck : Type 0
AppliedNeverStuck = (w : PlainSetting) (v : Value) (vs : List Value) (s : WorldState) (n : ℕ) → WholeWorld w s.cells → ValuesReady w s.cells (v ∷ vs)
    → WholeEnding w (applied w (eval_of w) (v ∷ vs) s n)
