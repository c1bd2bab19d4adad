-- Expansion keeps what passes tests that evaluation, quasi forms and record forms keep.
use Rattle.std.specs.Prelude.{◌≡◌, ℕ, List, Ok, IsTrue}
use Rattle.base_data.specs.Elements.{Each}
use Rattle.base_data.specs.declared.imported_name.ImportedName.{ImportedName}
use Rattle.base_data.specs.declared.library.LibName.{LibName}
use Rattle.base_data.specs.declared.span.Span.{Span}
use Rattle.stx_tree.specs.Tree.{Tree}
use Rattle.stx_frames.specs.Scope.{Scope}
use Rattle.core_language.specs.declared.core_form.CoreForm.{CoreForm}
use Rattle.core_language.specs.declared.record.CompiledLibrary.{CompiledLibrary}
use Rattle.eval_code.specs.Codes.{Codes}
use Rattle.core_quasi.specs.QuasiSyntax.{insert_leaf}
use Rattle.expand_quasi.specs.Inserted.{dots}
use Rattle.core_records.specs.Forms.{record_forms}
use Rattle.core_records.specs.Names.{record_uid}
use Rattle.expand_forms.specs.Expanding.{ready, library_record}
use Rattle.expand_forms.specs.declared.top.LibraryBody.{LibraryBody}
use Rattle.law_invariants.specs.Holds.{CodesHold}
use Rattle.law_invariants.specs.Laws.{Tests, passing, AreKept}
use Rattle.law_invariants.proofs.Trees.{OkHolds}
use Rattle.law_invariant_expansion.specs.Kept.{IsBuilt}
use Rattle.law_invariant_expansion.specs.Records.{RecordHolds}

-- Forms, evaluations and record forms come to what passes, from what passes.
pub record AreKeptByForms (t : Tests) : Type 0 where
  pub evaluation : AreKept t
  pub built : IsBuilt (passing t)
  pub insert : (k : ℕ) → IsTrue (t.trees (insert_leaf k))
  pub ellipsis : IsTrue (t.trees dots)
  pub records : (fs : Scope) (u : Tree) (f : CoreForm) (place : Span) (own : LibName) (count : ℕ) → IsTrue (t.trees u)
      → OkHolds (λ (v : Tree). IsTrue (t.trees v)) (record_forms fs u f place (record_uid own u count))

-- If the forms of a library pass, the records before it and the codes of texts, so does its record: the constants of its lines and of its keywords'
-- expressions, and the symbols of its variables.
abbrev pub ExpansionKeeps : Type 0
ExpansionKeeps = (t : Tests) (own : LibName) (records : List CompiledLibrary) (imports : List ImportedName)
    (body : LibraryBody) (codes : Codes) (r : CompiledLibrary)
    → AreKeptByForms t → Each (RecordHolds (passing t)) records → CodesHold (passing t) codes → Each (λ (u : Tree). IsTrue (t.trees u)) body.forms
    → library_record (ready own records imports codes) records body ≡ Ok r → RecordHolds (passing t) r
