-- A free label that a line mentions makes its library one of the record's references, where it is another's.
use Rattle.std.proofs.Common.{◌≡◌, Bool, true, false, cond, List, [], ◌∷◌, refl, sym, ap, ◌∙◌, subst, inl, inr}
use Rattle.std.specs.Prelude.{not, if◌then◌else◌}
use Rattle.base_data.specs.Elements.{Among}
use Rattle.base_data.specs.Same.{same_library, same_library_decides}
use Rattle.base_data.specs.declared.library.LibName.{LibName}
use Rattle.base_data.specs.declared.name.Label.{Label}
use Rattle.core_language.specs.Core.{PlainCore}
use Rattle.core_language.specs.Labels.{same_label, has_label, with_label, with_labels, without}
use Rattle.core_language.specs.References.{binders, mentions, references}
use Rattle.core_language.specs.declared.record.Line.{Line}
use Rattle.core_language.specs.declared.record.Line.TheVariants as line
use Rattle.law_core.specs.Records.{line_core}
use Rattle.law_core.proofs.Decisions.{label_decides}
use Rattle.eval_stage.specs.Libraries.{has_library, with_library}
use Rattle.expand_forms.specs.Top.{with_label_of, with_labels_of, code_of, with_lines_of, refs_of}
use Rattle.law_expand.proofs.RunReferences.{free-referenced}
use Rattle.law_text.proofs.Words.{any-among, put-there, put-stays}

-- ---- the libraries of what is referenced

module _ (own : LibName) where
  label-stays : (done : List LibName) (m : Label) (k : LibName) → Among done k → Among (with_label_of own done m) k
  label-stays done m k a = by (same_library m.0.library own)
    where
      by : (b : Bool) → Among (if b then done else with_library done m.0.library) k
      by true = a
      by false = put-stays (has_library done m.0.library) done m.0.library k a

  label-there : (done : List LibName) (m : Label) → (m.0.library ≡ own → ⊥) → Among (with_label_of own done m) m.0.library
  label-there done m foreign = by (same_library m.0.library own) (same_library_decides m.0.library own).0
    where
      by : (b : Bool) → (b ≡ true → m.0.library ≡ own) → Among (if b then done else with_library done m.0.library) m.0.library
      by true is = absurd (foreign (is refl))
      by false is = put-there same_library same_library_decides done m.0.library

  labels-stay : (done : List LibName) (ms : List Label) (k : LibName) → Among done k → Among (with_labels_of own done ms) k
  labels-stay done [] k a = a
  labels-stay done (m ∷ ms) k a = labels-stay (with_label_of own done m) ms k (label-stays done m k a)

  labels-there : (done : List LibName) (ms : List Label) (l : Label) → (l.0.library ≡ own → ⊥) → Among ms l → Among (with_labels_of own done ms) l.0.library
  labels-there done [] l foreign a = elim a [ ]
  labels-there done (m ∷ ms) l foreign (inl e) =
      let next : List LibName = with_label_of own done m in
      let same : l.0.library ≡ m.0.library = ap (λ (x : Label). x.0.library) e in
      subst (Among (with_labels_of own next ms)) (sym same) (labels-stay next ms m.0.library (label-there done m (λ d. foreign (same ∙ d))))
  labels-there done (m ∷ ms) l foreign (inr a) = labels-there (with_label_of own done m) ms l foreign a

  lines-stay : (done : List LibName) (xs : List Line) (k : LibName) → Among done k → Among (with_lines_of own done xs) k
  lines-stay done [] k a = a
  lines-stay done (x ∷ xs) k a = lines-stay (with_labels_of own done (references (code_of x))) xs k (labels-stay done (references (code_of x)) k a)

  lines-there : (done : List LibName) (xs : List Line) (x : Line) (l : Label) → (l.0.library ≡ own → ⊥) → Among xs x → Among (references (code_of x)) l
      → Among (with_lines_of own done xs) l.0.library
  lines-there done [] x l foreign a b = elim a [ ]
  lines-there done (y ∷ xs) x l foreign (inl e) b =
      let there = labels-there done (references (code_of y)) l foreign (subst (λ (z : Line). Among (references (code_of z)) l) e b) in
      lines-stay (with_labels_of own done (references (code_of y))) xs l.0.library there
  lines-there done (y ∷ xs) x l foreign (inr a) b = lines-there (with_labels_of own done (references (code_of y))) xs x l foreign a b

-- the code of a line is told twice
one-code : (x : Line) → line_core x ≡ code_of x
one-code (line.Define l c) = refl
one-code (line.Expr c) = refl

pub mention-referred : (own : LibName) (xs : List Line) (x : Line) (l : Label) → (l.0.library ≡ own → ⊥) → (Among (binders (line_core x)) l → ⊥)
    → Among xs x → Among (mentions (line_core x)) l → Among (refs_of own xs) l.0.library
mention-referred own xs x l foreign free a b =
    lines-there own [] xs x l foreign a (subst (λ (c : PlainCore). Among (references c) l) (one-code x) (free-referenced (line_core x) l free b))
