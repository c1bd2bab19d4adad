-- When leaves are the same.
use Rattle.std.specs.Prelude.{◌≡◌, ℕ, Bool, true, false, ◌&&◌, nat_eq, List, map, Option, None, Some, refl}
use Rattle.std.proofs.Common.{sym, ◌∙◌, ap}
use Rattle.std.specs.Bool.{Decides}
use Rattle.std.specs.Cmp.{IsEquivalence, decided, on_equiv, first_so, second_so}
use Rattle.std.specs.Cmp.Lexicographic.{pointwise}
use Rattle.base_data.specs.Named.{Named}
use Rattle.base_data.specs.Same.{same_name, same_name_cases, texts_decides}
use Rattle.base_data.specs.declared.name.FrameNo.{FrameNo}
use Rattle.base_data.specs.declared.name.Label.{Label}
use Rattle.base_data.specs.declared.name.Mark.{Mark}
use Rattle.stx_tree.specs.Leaves.{marks_of, stamps_of}
use Rattle.stx_tree.specs.Renaming.{IsOneToOne, renamed}
use Rattle.stx_tree.specs.SameMarks.{same_marks, same_marks_decides}
use Rattle.stx_tree.specs.Tree.{Tree, atom, leaf, pair, vector}
use Rattle.stx_frames.specs.Renaming.{renamed_scope}
use Rattle.stx_frames.specs.Scope.{Scope, label_at, label_by}
use Rattle.stx_frames.proofs.RenamingLaws.{same_marks-renamed, label_by-renamed}
use Rattle.stx_scope.specs.Same.{same_binder, Meaning, bound, free, meant, meaning, same_meaning, same_binding}
use Rattle.stx_scope.specs.Stands.{symbol_of, stands, is_for}

label_is : (l m : Label) → same_name l.0 m.0 ≡ true → l ≡ m
label_is l m h = ap (λ (n : Named). let x : Label = record { 0 = n } in x) ((same_name_cases l.0 m.0).0 h)

pub is_for_decides : (l : Label) (o : Option Label) → Decides (is_for l o) (o ≡ Some l)
is_for_decides l None = (λ h. cc, λ e. cc)
is_for_decides l (Some m) = (λ h. ap Some (label_is m l h), λ e. let k : m ≡ l = cc in (same_name_cases m.0 l.0).1 (ap (λ (x : Label). x.0) k))

pub same_meaning_decides : (m n : Meaning) → Decides (same_meaning m n) (m ≡ n)
same_meaning_decides (bound l) (bound m) = (λ h. ap bound (label_is l m h), λ e. let k : l ≡ m = cc in (same_name_cases l.0 m.0).1 (ap (λ (x : Label). x.0) k))
same_meaning_decides (bound l) (free t) = (λ h. cc, λ e. cc)
same_meaning_decides (free s) (bound m) = (λ h. cc, λ e. cc)
same_meaning_decides (free s) (free t) = (λ h. ap free ((texts_decides s t).0 h), λ e. let k : s ≡ t = cc in (texts_decides s t).1 k)

pub same_binding_equiv : (fs : Scope) → IsEquivalence (same_binding fs)
same_binding_equiv fs = on_equiv (meaning fs) (decided same_meaning same_meaning_decides)

-- a symbol with marks
abbrev Binder : Type 0
Binder = List ℕ × List Mark

abbrev binder_of : Tree → Binder
binder_of t = (symbol_of t, marks_of t)

abbrev same_key : Binder → Binder → Bool
same_key a b = pointwise nat_eq a.0 b.0 && same_marks a.1 b.1

same_key_decides : (a b : Binder) → Decides (same_key a b) (a ≡ b)
same_key_decides a b = (
  (λ h.
      let s = (texts_decides a.0 b.0).0 (first_so (pointwise nat_eq a.0 b.0) (same_marks a.1 b.1) h) in
      let m = (same_marks_decides a.1 b.1).0 (second_so (pointwise nat_eq a.0 b.0) (same_marks a.1 b.1) h) in
      λ i. (s i, m i)),
  (λ e.
      let s = (texts_decides a.0 b.0).1 (ap (λ (x : Binder). x.0) e) in
      let m = (same_marks_decides a.1 b.1).1 (ap (λ (x : Binder). x.1) e) in
      ap (λ v. v && same_marks a.1 b.1) s ∙ m),
)

pub same_binder_equiv : IsEquivalence same_binder
same_binder_equiv = on_equiv binder_of (decided same_key same_key_decides)

binder_is : (a b : Tree) → same_binder a b ≡ true → binder_of a ≡ binder_of b
binder_is a b h = (same_key_decides (binder_of a) (binder_of b)).0 h

pub one_row : (fs : Scope) (f : FrameNo) (a b : Tree) → same_binder a b ≡ true → label_at fs f (symbol_of a) (marks_of a) ≡ label_at fs f (symbol_of b) (marks_of b)
one_row fs f a b h = ap (λ (x : Binder). label_at fs f x.0 x.1) (binder_is a b h)

pub one_binding : (fs : Scope) (a b : Tree) → same_binder a b ≡ true → stamps_of a ≡ stamps_of b → same_binding fs a b ≡ true
one_binding fs a b h e =
    let s : symbol_of a ≡ symbol_of b = ap (λ (x : Binder). x.0) (binder_is a b h) in
    (same_meaning_decides (meaning fs a) (meaning fs b)).1 (λ i. meant (label_by fs (s i) (e i)) (s i))

module _ (r : Mark → Mark) (one : IsOneToOne r) where
  pub symbol_of-renamed : (t : Tree) → symbol_of (renamed r t) ≡ symbol_of t
  symbol_of-renamed (atom s a) = refl
  symbol_of-renamed (leaf s x c) = refl
  symbol_of-renamed (pair s a d) = refl
  symbol_of-renamed (vector s d) = refl

  pub stands-renamed : (fs : Scope) (t : Tree) → stands (renamed_scope r fs) (renamed r t) ≡ stands fs t
  stands-renamed fs (atom s a) = refl
  stands-renamed fs (leaf s x c) = label_by-renamed r one fs x c.stamps
  stands-renamed fs (pair s a d) = refl
  stands-renamed fs (vector s d) = refl

  meaning-renamed : (fs : Scope) (t : Tree) → meaning (renamed_scope r fs) (renamed r t) ≡ meaning fs t
  meaning-renamed fs t = λ i. meant (stands-renamed fs t i) (symbol_of-renamed t i)

  pub same_binding-renamed : (fs : Scope) (a b : Tree) → same_binding (renamed_scope r fs) (renamed r a) (renamed r b) ≡ same_binding fs a b
  same_binding-renamed fs a b = λ i. same_meaning (meaning-renamed fs a i) (meaning-renamed fs b i)

  marks_of-renamed : (a b : Tree) → same_marks (marks_of (renamed r a)) (marks_of (renamed r b)) ≡ same_marks (marks_of a) (marks_of b)
  marks_of-renamed a b = (λ i. same_marks (map_is a i) (map_is b i)) ∙ same_marks-renamed r one (marks_of a) (marks_of b)
    where
      map_is : (t : Tree) → marks_of (renamed r t) ≡ map r (marks_of t)
      map_is (atom s a) = refl
      map_is (leaf s x c) = refl
      map_is (pair s a d) = refl
      map_is (vector s d) = refl

  pub same_binder-renamed : (a b : Tree) → same_binder (renamed r a) (renamed r b) ≡ same_binder a b
  same_binder-renamed a b = λ i. pointwise nat_eq (symbol_of-renamed a i) (symbol_of-renamed b i) && marks_of-renamed a b i
