-- What is closed and well made is ready, so it never gets stuck.
use Rattle.std.specs.Prelude.{◌≡◌, ℕ, List, [], ◌++◌, None, length}
use Rattle.std.specs.List.{flat_map}
use Rattle.base_data.specs.Elements.{Each, Once}
use Rattle.base_data.specs.declared.name.CodeNo.{CodeNo}
use Rattle.base_data.specs.declared.name.Label.{Label}
use Rattle.core_language.specs.Core.{PlainCore}
use Rattle.core_language.specs.declared.record.CompiledLibrary.{CompiledLibrary}
use Rattle.law_core.specs.Parts.{code_numbers}
use Rattle.law_core.specs.Scope.{Closed}
use Rattle.law_core.specs.WellMade.{IsWellMade}
use Rattle.law_core.specs.Records.{defined, LinesClosed}
use Rattle.law_core.specs.Follows.{line_cores}
use Rattle.eval_prims.specs.declared.world.World.{World}
use Rattle.eval_code.specs.Codes.{Codes, code_at}
use Rattle.eval_code.specs.Evals.{evals}
use Rattle.eval_code.specs.Lines.{library_evaluated}
use Rattle.law_whole.specs.Evaluated.{IsWhole, codes_of, setting_for, setting_for_lines, AreFound, LibraryEnding}
use Rattle.law_whole.specs.WholeWorld.{WholeEnding}

-- the numbers of codes that aren't there yet
abbrev pub AreNew : Codes → List CodeNo → Type 0
AreNew codes ns = Each (λ n. code_at codes n ≡ None) ns

-- variables of libraries that have values
abbrev pub AreGlobals : World → List Label → Type 0
AreGlobals w ls = AreFound w.globals.entries ls

-- code that is closed under variables of libraries and well made, and whose codes have new numbers
abbrev pub WellMadeNeverStuck : Type 0
WellMadeNeverStuck = (w : World) (ls : List Label) (c : PlainCore) (n : ℕ) → IsWhole w → AreGlobals w ls → Closed ls c → IsWellMade [] c
    → AreNew (codes_of w) (code_numbers c)
    → WholeEnding (setting_for w c) (evals w c None n)

-- A record as expansion gives it: its lines are closed under such variables and its own, each is well made, and no two of its
-- codes have one number.
abbrev pub RecordsNeverStuck : Type 0
RecordsNeverStuck = (w : World) (ls : List Label) (r : CompiledLibrary) (n : ℕ) → IsWhole w → AreGlobals w ls
    → LinesClosed (ls ++ defined r) r → Each (IsWellMade []) (line_cores r)
    → Once (flat_map code_numbers (line_cores r)) → AreNew (codes_of w) (flat_map code_numbers (line_cores r))
    → LibraryEnding (setting_for_lines w r.run) (defined r) (length w.store.cells.list) (library_evaluated w r.run n)
