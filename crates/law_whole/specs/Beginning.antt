-- Which worlds are whole to begin with, and which never are.
use Rattle.std.specs.Prelude.{◌≡◌, ℕ, true, List, [], ◌∷◌, Option, None, Some, slice_get, map}
use Rattle.std.specs.List.{flat_map}
use Rattle.base_data.specs.Datum as datum
use Rattle.base_data.specs.Elements.{Each, Among, Once}
use Rattle.base_data.specs.declared.atom.Atom.TheVariants as a
use Rattle.base_data.specs.declared.library.LibName.TheVariants as library
use Rattle.base_data.specs.declared.name.CodeNo.{CodeNo}
use Rattle.base_data.specs.declared.name.Label.{Label}
use Rattle.base_data.specs.declared.op.names.TheConstants as names
use Rattle.base_region.specs.declared.region.Place.{Place}
use Rattle.stx_frames.specs.Scope.{Scope}
use Rattle.core_language.specs.Core.{PlainCore, quoted, procedure, PlainCases, case, no_case}
use Rattle.law_core.specs.Parts.{code_numbers}
use Rattle.law_core.specs.Scope.{Closed}
use Rattle.law_core.specs.WellMade.{IsWellMade}
use Rattle.eval_value.specs.declared.value.Value.{Value}
use Rattle.eval_value.specs.declared.value.Value.TheVariants as value
use Rattle.eval_value.specs.declared.cell.Cell.{Cell}
use Rattle.eval_value.specs.declared.cell.Cell.TheVariants as cell
use Rattle.eval_code.specs.Codes.{Codes, code_at, with_codes}
use Rattle.eval_code.specs.Procedures.{has_text, text_number}
use Rattle.eval_code.specs.Setting.{PlainSetting}
use Rattle.eval_code.specs.Variables.{Entries}
use Rattle.law_whole.specs.WholeWorld.{GivesProcedure, WholeWorld}

-- A first world has the codes of some procedures, and neither cells nor variables of libraries.
abbrev pub codes_in : List PlainCore → Codes → Codes
codes_in [] old = old
codes_in (c ∷ cs) old = codes_in cs (with_codes c old)

abbrev pub first_world : List PlainCore → Scope → PlainSetting
first_world cs frames = record { codes = codes_in cs []; globals = []; frames = frames }

-- that takes nothing
abbrev pub one_case : PlainCore → PlainCases
one_case body = case (record { required = []; rest = None }) body no_case

-- the procedure whose body is the text of an op
abbrev pub text_code : ℕ → PlainCore → PlainCore
text_code op body = procedure (text_number op) (one_case body) true

pub record HasText (cs : List PlainCore) (op : ℕ) : Type 0 where
  pub body : PlainCore
  pub among : Among cs (text_code op body)
  pub gives : GivesProcedure body

-- It is whole where the texts of all ops that have one are among them, and all are closed, well made and of numbers of their own.
abbrev pub FirstWorldsAreWhole : Type 0
FirstWorldsAreWhole = (cs : List PlainCore) (frames : Scope) → ((op : ℕ) → has_text op ≡ true → HasText cs op) → Each (Closed []) cs → Each (IsWellMade []) cs
    → Once (flat_map code_numbers cs) → WholeWorld (first_world cs frames) []

-- There is one: each text is here (lambda () #t).
abbrev pub lambda_number : ℕ → CodeNo
lambda_number n = record { 0 = record { library = library.Program; number = n } }

abbrev pub lambda_of : ℕ → PlainCore
lambda_of n = procedure (lambda_number n) (one_case (quoted (datum.atom None (a.Bool true)))) true

abbrev pub example_text : ℕ → PlainCore
example_text op = text_code op (lambda_of op)

abbrev pub ops_with_text : List ℕ
ops_with_text = names.FOR_EACH ∷ names.MAP ∷ names.FIND ∷ names.FOR_ALL ∷ names.EXISTS ∷ names.FILTER ∷ names.FOLD_LEFT ∷ names.FOLD_RIGHT
    ∷ names.REMP ∷ names.MEMP ∷ []

abbrev pub OneIsWhole : Type 0
OneIsWhole = WholeWorld (first_world (map example_text ops_with_text) []) []

-- No world is whole in which a value of a variable is a procedure without code, variables have others round them that are nowhere,
-- or the text of an op has no code.
pub record BrokenWorlds (w : PlainSetting) (cells : List Cell) : Type 0 where
  pub no_code : (n : ℕ) (l : Label) (number : CodeNo) (place : Place) (es : Entries) (parent : Option Place)
      → slice_get cells n ≡ Some (cell.Scope ((l, Some (value.Closure number place)) ∷ es) parent) → code_at w.codes number ≡ None → WholeWorld w cells → ⊥
  pub no_parent : (n : ℕ) (es : Entries) (place : Place) → slice_get cells n ≡ Some (cell.Scope es (Some place))
      → slice_get cells place.0 ≡ None → WholeWorld w cells → ⊥
  pub no_pair : (n : ℕ) (place : Place) (x : Value) → slice_get cells n ≡ Some (cell.Pair (value.Pair place) x)
      → slice_get cells place.0 ≡ None → WholeWorld w cells → ⊥
  pub no_text : (op : ℕ) → has_text op ≡ true → code_at w.codes (text_number op) ≡ None → WholeWorld w cells → ⊥

abbrev pub BrokenAreNotWhole : Type 0
BrokenAreNotWhole = (w : PlainSetting) (cells : List Cell) → BrokenWorlds w cells
