-- No expansion of a library gets stuck.
use Rattle.std.specs.Prelude.{◌≡◌, List, [], Result, Ok, Err, IsTrue}
use Rattle.base_data.specs.Elements.{Each, Among}
use Rattle.base_data.specs.declared.fault.Fault.{Fault}
use Rattle.base_data.specs.declared.imported_name.ImportedName.{ImportedName}
use Rattle.base_data.specs.declared.library.LibName.{LibName}
use Rattle.base_data.specs.declared.name.CodeNo.{CodeNo}
use Rattle.core_language.specs.declared.record.CompiledLibrary.{CompiledLibrary}
use Rattle.law_core.specs.Follows.{names_of}
use Rattle.eval_value.specs.Cells.{is_found}
use Rattle.eval_code.specs.Codes.{Codes, code_at}
use Rattle.law_whole.specs.WholeWorld.{WholeWorld}
use Rattle.expand_forms.specs.Expanding.{ready, library_record}
use Rattle.expand_forms.specs.declared.top.LibraryBody.{LibraryBody}
use Rattle.law_expand.specs.Ready.{IsReady}
use Rattle.law_expand.specs.Serves.{IsThere}
use Rattle.law_stuck.specs.Behind.{IsOfTexts, IsBehind, AllBehind}
use Rattle.law_stuck.specs.Kinds.{NotStuck}

-- The codes of the procedures that are texts: a world with them and nothing else is whole, and they are named as texts are.
pub record AreTexts (codes : Codes) : Type 0 where
  pub whole : WholeWorld (record { codes = codes; globals = []; frames = [] }) []
  pub named : (n : CodeNo) → IsTrue (is_found (code_at codes n)) → IsOfTexts n.0.library

-- where there is a fault, it isn't that of cells that don't fit
abbrev pub IsNotStuck : {A : Type 0} → Result A Fault → Type 0
IsNotStuck (Ok x) = Unit {0}
IsNotStuck (Err f) = NotStuck f.kind

-- A library or program whose name is new, behind records that stand behind one another. Nothing is asked of its imports and forms.
abbrev pub ExpansionsNeverStuck : Type 0
ExpansionsNeverStuck = (own : LibName) (records : List CompiledLibrary) (imports : List ImportedName) (body : LibraryBody) (codes : Codes)
    → IsReady own records → AllBehind [] records → (IsOfTexts own → ⊥) → AreTexts codes
    → IsNotStuck (library_record (ready own records imports codes) records body)

-- The record that expansion gives stands behind them too, so the law applies to one library after another.
abbrev pub RecordsStandBehind : Type 0
RecordsStandBehind = (own : LibName) (records : List CompiledLibrary) (imports : List ImportedName) (body : LibraryBody) (codes : Codes) (r : CompiledLibrary)
    → IsReady own records → AllBehind [] records → (IsOfTexts own → ⊥)
    → Each (λ (e : ImportedName). IsThere records e.label.0.library) imports
    → library_record (ready own records imports codes) records body ≡ Ok r → IsBehind records r

-- One that stands behind some records stands behind more, if none of them has its name.
abbrev pub MoreStandBefore : Type 0
MoreStandBefore = (few many : List CompiledLibrary) (r : CompiledLibrary) → ((q : CompiledLibrary) → Among few q → Among many q)
    → (Among (names_of many) r.name → ⊥) → IsBehind few r → IsBehind many r
