-- The references of a follower.
use Rattle.std.proofs.Common.{◌≡◌, Bool, true, false, true≢false, List, [], ◌∷◌, map, refl, sym, ap, subst, ◌∙◌, inl, inr}
use Rattle.std.specs.Prelude.{◌⊎◌, ◌||◌}
use Rattle.std.specs.List.{flat_map}
use Rattle.base_data.proofs.ElementLemmas.{each-at, each-of, each-first}
use Rattle.base_data.specs.Elements.{Among, Each}
use Rattle.base_data.specs.Same.{same_library, same_library_decides}
use Rattle.base_data.specs.declared.library.LibName.{LibName}
use Rattle.base_data.specs.declared.name.Label.{Label}
use Rattle.core_language.specs.Core.{PlainCore}
use Rattle.core_language.specs.References.{references, binders}
use Rattle.core_language.specs.declared.record.CompiledLibrary.{CompiledLibrary}
use Rattle.core_language.specs.declared.record.Line.{Line}
use Rattle.core_language.specs.declared.record.Line.TheVariants as line
use Rattle.law_core.specs.Follows.{keywords, IsOwn, Follows}
use Rattle.law_core.specs.Records.{line_core, run_binders}
use Rattle.eval_stage.specs.Libraries.{has_library}
use Rattle.law_stuck.specs.Behind.{IsReferred}
use Rattle.expand_forms.specs.Top.{with_labels_of, code_of, with_lines_of, refs_of}
use Rattle.law_expand.proofs.RunReferences.{references-owed}
use Rattle.law_steady.proofs.Standing.{label-there, line-first}

-- they are those that expansion tells of its lines
pub refs-are : (earlier : List CompiledLibrary) (r : CompiledLibrary) → Follows r earlier → r.refs ≡ refs_of r.name r.run
refs-are earlier r h = h.references.references ∙ sym (references-owed r mine)
  where
    mine : (l : Label) → Among (run_binders r) l → l.0.library ≡ r.name
    mine l a = each-at (λ (m : Label). IsOwn r m.0) (run_binders r) l (each-first (λ (m : Label). IsOwn r m.0) (run_binders r) (flat_map binders (keywords r)) h.own.own_binders) a

-- ---- each library of a label that a line refers to is its own, or one of them

module _ (own : LibName) where
  one-code : (x : Line) → code_of x ≡ line_core x
  one-code (line.Define l c) = refl
  one-code (line.Expr c) = refl

  line-there : (xs : List Line) (ks : List LibName) (c : PlainCore) (l : Label) → Among (map line_core xs) c → Among (references c) l
      → (l.0.library ≡ own) ⊎ (has_library (with_lines_of own ks xs) l.0.library ≡ true)
  line-there [] ks c l a b = elim a [ ]
  line-there (y ∷ xs) ks c l (inr a) b = line-there xs (with_labels_of own ks (references (code_of y))) c l a b
  line-there (y ∷ xs) ks c l (inl e) b =
      by ((label-there own) (references (code_of y)) ks l (subst (λ (d : PlainCore). Among (references d) l) (e ∙ sym (one-code y)) b))
    where
      by : (l.0.library ≡ own) ⊎ (has_library (with_labels_of own ks (references (code_of y))) l.0.library ≡ true) → (l.0.library ≡ own) ⊎ (has_library (with_lines_of own ks (y ∷ xs)) l.0.library ≡ true)
      by (inl o) = inl o
      by (inr h) = inr ((line-first own) xs (with_labels_of own ks (references (code_of y))) l.0.library h)

pub referred : (earlier : List CompiledLibrary) (r : CompiledLibrary) → Follows r earlier → Each (λ c. Each (IsReferred r) (references c)) (map line_core r.run)
referred earlier r h =
    each-of (λ c. Each (IsReferred r) (references c)) (map line_core r.run)
    (λ c a. each-of (IsReferred r) (references c) (λ l b. by l (line-there r.name r.run [] c l a b)))
  where
    by : (l : Label) → (l.0.library ≡ r.name) ⊎ (has_library (refs_of r.name r.run) l.0.library ≡ true) → IsReferred r l
    by l (inl e) = inl e
    by l (inr e) = inr (ap (λ ks. has_library ks l.0.library) (refs-are earlier r h) ∙ e)

-- ---- they are earlier ones

has-among : (ks : List LibName) (k : LibName) → has_library ks k ≡ true → Among ks k
has-among [] k h = absurd (true≢false (sym h))
has-among (j ∷ ks) k h = by (same_library k j) refl h (has-among ks k)
  where
    by : (b : Bool) → same_library k j ≡ b → (b || has_library ks k) ≡ true → (has_library ks k ≡ true → Among ks k) → Among (j ∷ ks) k
    by true is g rest = inl ((same_library_decides k j).0 is)
    by false is g rest = inr (rest g)

pub known : (earlier : List CompiledLibrary) (r : CompiledLibrary) → Follows r earlier → (k : LibName) → has_library r.refs k ≡ true → Among (map (λ (q : CompiledLibrary). q.name) earlier) k
known earlier r h k e = each-at (Among (map (λ (q : CompiledLibrary). q.name) earlier)) r.refs k h.references.known (has-among r.refs k e)
