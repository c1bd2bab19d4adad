-- What evaluation in a whole world, calls there, and the evaluation of a library leave.
use Rattle.std.specs.Prelude.{List, ◌∷◌, Option, None, Some, ℕ, length, slice_get, IsTrue}
use Rattle.std.specs.List.{flat_map}
use Rattle.std.specs.Map.{lookup}
use Rattle.base_data.specs.Elements.{Each}
use Rattle.base_data.specs.declared.name.Label.{Label}
use Rattle.base_region.specs.declared.region.Place.{Place}
use Rattle.core_language.specs.Core.{PlainCore}
use Rattle.core_language.specs.Labels.{same_label}
use Rattle.core_language.specs.declared.record.Line.{Line}
use Rattle.law_core.specs.Records.{line_labels, line_core}
use Rattle.eval_value.specs.Cells.{has_variables, is_found}
use Rattle.eval_value.specs.declared.value.Value.{Value}
use Rattle.eval_value.specs.declared.cell.Cell.{Cell}
use Rattle.eval_prims.specs.declared.world.World.{World}
use Rattle.eval_code.specs.Codes as table
use Rattle.eval_code.specs.Codes.{Codes, with_codes}
use Rattle.eval_code.specs.Evals.{setting_with, setting_of, evals, calls}
use Rattle.eval_code.specs.Lines.{with_lines, library_evaluated, with_values_in}
use Rattle.eval_code.specs.Setting.{PlainSetting}
use Rattle.eval_code.specs.State.{Outcome, done, faulted, unfit}
use Rattle.law_whole.specs.Extends.{Stay, Extends}
use Rattle.law_whole.specs.Ready.{Variables, PatternVariables, Besides, Ready, FoundFrom, BoundFrom, ReadyIn}
use Rattle.law_whole.specs.WholeWorld.{ValuesReady, WholeWorld, WholeEnding}

abbrev pub IsWhole : World → Type 0
IsWhole w = WholeWorld (setting_of w) w.store.cells.list

abbrev pub codes_of : World → Codes
codes_of w = table.seen w.codes.entries

-- the world that an evaluation of this code reads: its codes are added first
abbrev pub setting_for : World → PlainCore → PlainSetting
setting_for w c = setting_with (with_codes c (codes_of w)) w

-- a cell of variables, where one is given
abbrev pub ScopeThere : List Cell → Option Place → Type 0
ScopeThere cells None = Unit {0}
ScopeThere cells (Some scope) = IsTrue (has_variables (slice_get cells scope.0))

-- Code that is ready where its own codes have been added, and takes no other code's number, comes to a value or a fault.
abbrev pub EvalsNeverStuck : Type 0
EvalsNeverStuck = (w : World) (c : PlainCore) (scope : Option Place) (n : ℕ) → IsWhole w → ScopeThere w.store.cells.list scope
    → Stay (codes_of w) (with_codes c (codes_of w))
    → ReadyIn (setting_for w c) w.store.cells.list scope c → WholeEnding (setting_for w c) (evals w c scope n)

abbrev pub CallsNeverStuck : Type 0
CallsNeverStuck = (w : World) (f : Value) (args : List Value) (n : ℕ) → IsWhole w
    → ValuesReady (setting_of w) w.store.cells.list (f ∷ args) → WholeEnding (setting_of w) (calls w f args n)

-- Libraries.

abbrev pub setting_for_lines : World → List Line → PlainSetting
setting_for_lines w ls = setting_with (with_lines ls (codes_of w)) w

abbrev pub lines_labels : List Line → List Label
lines_labels ls = flat_map line_labels ls

abbrev pub LinesReady : PlainSetting → Variables → PatternVariables → List Line → Type 0
LinesReady w F G ls = Each (λ (l : Line). Ready w F G (line_core l)) ls

-- Each line finds the variables that the lines define besides those of libraries.
abbrev pub LibraryReady : PlainSetting → List Cell → List Line → Type 0
LibraryReady w cells ls = LinesReady w (Besides (lines_labels ls) (FoundFrom w cells None)) (BoundFrom cells None) ls

-- with the values of the cell at a place among those of the variables of libraries
abbrev pub with_globals_from : PlainSetting → Option Cell → PlainSetting
with_globals_from w c = record { codes = w.codes; globals = with_values_in c w.globals; frames = w.frames }

abbrev pub AreFound : List (Label × Value) → List Label → Type 0
AreFound gs ls = Each (λ l. IsTrue (is_found (lookup (same_label l) gs))) ls

-- what a library leaves: a whole world in which its variables are among those of libraries, and those that were there are still
pub record LeavesLibrary (w v : PlainSetting) (cells : List Cell) (ls : List Label) : Type 0 where
  pub whole : WholeWorld v cells
  pub defined : AreFound v.globals ls
  pub kept : Extends w v

abbrev pub LibraryEnding : PlainSetting → List Label → ℕ → Outcome → Type 0
LibraryEnding w ls place (done v s n) = LeavesLibrary w (with_globals_from w (slice_get s.cells place)) s.cells ls
LibraryEnding w ls place (faulted f s n) = WholeWorld w s.cells
LibraryEnding w ls place unfit = ⊥

-- The world is whole too once the values of the library's variables stand among those of libraries.
abbrev pub LibrariesNeverStuck : Type 0
LibrariesNeverStuck = (w : World) (ls : List Line) (n : ℕ) → IsWhole w → Stay (codes_of w) (with_lines ls (codes_of w))
    → LibraryReady (setting_for_lines w ls) w.store.cells.list ls
    → LibraryEnding (setting_for_lines w ls) (lines_labels ls) (length w.store.cells.list) (library_evaluated w ls n)
