-- One level of a tree: what stands behind an element, what a tree is, and what is made of parts.
use Rattle.std.proofs.Common.{◌≡◌, ℕ, ◌<◌, Bool, true, false, cond, List, [], ◌∷◌, ◌++◌, Option, Some, None, Result, Ok, Err, refl, ap, sym, ◌∙◌, append_assoc, arith, inl, inr}
use Rattle.std.proofs.lemmas.List.{append-nil}
use Rattle.std.specs.Global.{Global}
use Rattle.std.specs.Prelude.{is_some, Vec}
use Rattle.base_data.specs.declared.atom.Atom.{Atom}
use Rattle.base_data.specs.declared.atom.Atom.TheVariants as a
use Rattle.base_data.specs.declared.fault.Bare.{Bare}
use Rattle.base_data.specs.declared.span.Span.{Span}
use Rattle.core_codec.specs.TreeLaws.{tree_vector_parts, tree_tail_alone}
use Rattle.core_codec.specs.Trees.{tree_to, is_tree, is_rest, is_tail, is_tree_list, elements, tail_of, are_elements}
use Rattle.stx_object.specs.Opens.{Opens}
use Rattle.stx_object.specs.declared.syn.OpenedTree.TheVariants as opened
use Rattle.stx_tree.proofs.MeasureLaws.{size-some}
use Rattle.stx_tree.specs.Context.{LeafContext}
use Rattle.stx_tree.specs.Leaves.{marks_of, stamps_of}
use Rattle.stx_tree.specs.Measures.{fits, size, within, too_deep}
use Rattle.stx_tree.specs.Tree as t
use Rattle.stx_tree.specs.Tree.{Tree, span_of, chain, spanned, list_of, vector_of, rest_of, nil}
use Rattle.core_tree_bytes.specs.Parts.{PartsOf, within_limits}
use Rattle.core_tree_bytes.specs.Contexts.{context_of}
use Rattle.core_tree_bytes.specs.declared.contexts.ContextLists.{ContextLists}
use Rattle.core_tree_bytes.specs.declared.parts.ElementsAndTail.{ElementsAndTail}
use Rattle.core_tree_bytes.specs.declared.parts.TreeParts.TheVariants as p

-- ---- what stands behind an element

pub spanned_pair : (x y r : Tree) → Opens (opened.Pair x y) r → true ≡ is_some (span_of r) → is_rest r ≡ false
spanned_pair x y (t.atom s b) o h = absurd o
spanned_pair x y (t.leaf s b c) o h = absurd o
spanned_pair x y (t.pair None b e) o h = absurd cc
spanned_pair x y (t.pair (Some s) b e) o h = refl
spanned_pair x y (t.vector s e) o h = absurd o

pub plain_pair : (x y r : Tree) → Opens (opened.Pair x y) r → false ≡ is_some (span_of r) → r ≡ t.pair None x y
plain_pair x y (t.atom s b) o h = absurd o
plain_pair x y (t.leaf s b c) o h = absurd o
plain_pair x y (t.pair None b e) o h = λ i. t.pair None (sym o.0 i) (sym o.1 i)
plain_pair x y (t.pair (Some s) b e) o h = absurd cc
plain_pair x y (t.vector s e) o h = absurd o

pub spanned_nil : (r : Tree) → Opens (opened.Atom a.Nil) r → true ≡ is_some (span_of r) → is_rest r ≡ false
spanned_nil (t.atom None b) o h = absurd cc
spanned_nil (t.atom (Some s) b) o h = rw (← o) refl
spanned_nil (t.leaf s b c) o h = absurd o
spanned_nil (t.pair s b e) o h = absurd o
spanned_nil (t.vector s e) o h = absurd o

pub plain_nil : (r : Tree) → Opens (opened.Atom a.Nil) r → false ≡ is_some (span_of r) → is_tail r ≡ true
plain_nil (t.atom None b) o h = refl
plain_nil (t.atom (Some s) b) o h = absurd cc
plain_nil (t.leaf s b c) o h = absurd o
plain_nil (t.pair s b e) o h = absurd o
plain_nil (t.vector s e) o h = absurd o

abbrev pub is_nil_atom : Atom → Bool
is_nil_atom a.Nil = true
is_nil_atom _ = false

atom_alone : (s : Option Span) (b : Atom) → is_nil_atom b ≡ false → is_tail (t.atom s b) ≡ true
atom_alone None b h = refl
atom_alone (Some s) a.Nil h = absurd cc
atom_alone (Some s) (a.Bool b) h = refl
atom_alone (Some s) (a.Int b) h = refl
atom_alone (Some s) (a.Spelt b) h = refl
atom_alone (Some s) (a.Char b) h = refl
atom_alone (Some s) (a.Str b) h = refl
atom_alone (Some s) (a.Bytes b) h = refl

pub atom_tail : (b : Atom) (r : Tree) → Opens (opened.Atom b) r → is_nil_atom b ≡ false → is_tail r ≡ true
atom_tail b (t.atom s c) o h = atom_alone s c (ap is_nil_atom (sym o) ∙ h)
atom_tail b (t.leaf s x c) o h = absurd o
atom_tail b (t.pair s x e) o h = absurd o
atom_tail b (t.vector s e) o h = absurd o

pub leaf_tail : (x : List ℕ) (r : Tree) → Opens (opened.Symbol x) r → is_tail r ≡ true
leaf_tail x (t.atom s c) o = absurd o
leaf_tail x (t.leaf s y c) o = refl
leaf_tail x (t.pair s y e) o = absurd o
leaf_tail x (t.vector s e) o = absurd o

pub not_tail : (r : Tree) → is_rest r ≡ false → is_tail r ≡ false
not_tail (t.atom s c) h = h
not_tail (t.leaf s y c) h = absurd cc
not_tail (t.pair s y e) h = refl
not_tail (t.vector s e) h = absurd cc

-- ---- what a tree is

pub atom_parts : (b : Atom) (r : Tree) → Opens (opened.Atom b) r → PartsOf (Some (p.Atom b)) r
atom_parts b (t.atom s c) o = (λ i. (s, inl (sym o i)), refl)
atom_parts b (t.leaf s x c) o = absurd o
atom_parts b (t.pair s x e) o = absurd o
atom_parts b (t.vector s e) o = absurd o

pub leaf_parts : (x : List ℕ) (k : ContextLists) (r : Tree) → Opens (opened.Symbol x) r → context_of k ≡ record { marks = marks_of r; stamps = stamps_of r } → PartsOf (Some (p.Leaf x k)) r
leaf_parts x k (t.atom s c) o e = absurd o
leaf_parts x k (t.leaf s y c) o e = (λ i. (s, inr (inl (sym o i, sym e i))), refl)
leaf_parts x k (t.pair s y d) o e = absurd o
leaf_parts x k (t.vector s d) o e = absurd o

pub no_parts : (x y r : Tree) → Opens (opened.Pair x y) r → is_rest y ≡ false → is_tree r ≡ false
no_parts x y (t.atom s c) o h = absurd o
no_parts x y (t.leaf s b c) o h = absurd o
no_parts x y (t.pair s b e) o h = ap is_rest (sym o.1) ∙ h
no_parts x y (t.vector s e) o h = absurd o

pub list_parts : (x y : Tree) (l : ElementsAndTail) (r : Tree) → Opens (opened.Pair x y) r → l.items.items ≡ x ∷ elements y → l.tail ≡ tail_of y → is_rest y ≡ true → PartsOf (Some (p.List l.items l.tail)) r
list_parts x y l (t.atom s c) o e f h = absurd o
list_parts x y l (t.leaf s b c) o e f h = absurd o
list_parts x y l (t.pair s b d) o e f h = (
  λ i. (s, inr (inr (inl (sym (e ∙ (λ j. o.0 j ∷ elements (o.1 j))) i, sym (f ∙ ap tail_of o.1) i)))),
  ap is_rest (sym o.1) ∙ h,
)
list_parts x y l (t.vector s d) o e f h = absurd o

pub elements_parts : (v : Vec Tree Global) (r : Tree) → Opens (opened.Vector v) r → PartsOf (Some (p.Vector v)) r
elements_parts v (t.atom s c) o = absurd o
elements_parts v (t.leaf s b c) o = absurd o
elements_parts v (t.pair s b d) o = absurd o
elements_parts v (t.vector s d) o =
    let q = tree_vector_parts v.items in
    (λ i. (s, inr (inr (inr ((ap elements (sym o) ∙ q.0) i)))), ap are_elements (sym o) ∙ q.1)

-- ---- what is made

fits_spanned : (s : Option Span) (r : Tree) → fits (spanned s r) ≡ fits r
fits_spanned s (t.atom q c) = refl
fits_spanned s (t.leaf q x c) = refl
fits_spanned s (t.pair q x e) = refl
fits_spanned s (t.vector q e) = refl

within_ok : (s : Option Span) (r x : Tree) → within r ≡ Ok x → within_limits (spanned s r) ≡ Some (spanned s x)
unfolding within
within_ok s r x e = ap (λ (v : Bool). cond v (Option.Some (spanned s r)) None) (fits_spanned s r) ∙ by (fits r) e
  where
    by : (v : Bool) → cond v (Result.Ok r) (Err too_deep) ≡ Ok x → cond v (Option.Some (spanned s r)) None ≡ Some (spanned s x)
    by true h = ap (λ (y : Tree). Option.Some (spanned s y)) cc
    by false h = absurd cc

within_err : (s : Option Span) (r : Tree) (f : Bare) → within r ≡ Err f → within_limits (spanned s r) ≡ None
unfolding within
within_err s r f e = ap (λ (v : Bool). cond v (Option.Some (spanned s r)) None) (fits_spanned s r) ∙ by (fits r) e
  where
    by : (v : Bool) → cond v (Result.Ok r) (Err too_deep) ≡ Err f → cond v (Option.Some (spanned s r)) None ≡ None
    by true h = absurd cc
    by false h = refl

own_rest : (r : Tree) → is_tail r ≡ true → rest_of r ≡ r
own_rest (t.atom None a.Nil) h = refl
own_rest (t.atom None (a.Bool b)) h = refl
own_rest (t.atom None (a.Int b)) h = refl
own_rest (t.atom None (a.Spelt b)) h = refl
own_rest (t.atom None (a.Char b)) h = refl
own_rest (t.atom None (a.Str b)) h = refl
own_rest (t.atom None (a.Bytes b)) h = refl
own_rest (t.atom (Some s) a.Nil) h = absurd cc
own_rest (t.atom (Some s) (a.Bool b)) h = refl
own_rest (t.atom (Some s) (a.Int b)) h = refl
own_rest (t.atom (Some s) (a.Spelt b)) h = refl
own_rest (t.atom (Some s) (a.Char b)) h = refl
own_rest (t.atom (Some s) (a.Str b)) h = refl
own_rest (t.atom (Some s) (a.Bytes b)) h = refl
own_rest (t.leaf s x c) h = refl
own_rest (t.pair s x e) h = absurd cc
own_rest (t.vector s e) h = refl

listed : (xs : List Tree) (r : Tree) → is_tree_list (xs, r) ≡ true → list_of xs (Some r) ≡ chain xs r
listed [] r h = absurd cc
listed (x ∷ xs) r h = ap (λ (y : Tree). chain (x ∷ xs) y) (own_rest r h)

pub list_ok : (s : Option Span) (xs : List Tree) (r x : Tree) → is_tree_list (xs, r) ≡ true → within (list_of xs (Some r)) ≡ Ok x → Some (spanned s x) ≡ within_limits (spanned s (chain xs r))
list_ok s xs r x h e = sym (within_ok s (chain xs r) x (ap within (sym (listed xs r h)) ∙ e))

pub list_err : (s : Option Span) (xs : List Tree) (r : Tree) (f : Bare) → is_tree_list (xs, r) ≡ true → within (list_of xs (Some r)) ≡ Err f → None ≡ within_limits (spanned s (chain xs r))
list_err s xs r f h e = sym (within_err s (chain xs r) f (ap within (sym (listed xs r h)) ∙ e))

pub vector_ok : (s : Option Span) (xs : List Tree) (x : Tree) → within (vector_of xs) ≡ Ok x → Some (spanned s x) ≡ within_limits (t.vector s (chain xs nil))
vector_ok s xs x e = sym (within_ok s (vector_of xs) x e)

pub vector_err : (s : Option Span) (xs : List Tree) (f : Bare) → within (vector_of xs) ≡ Err f → None ≡ within_limits (t.vector s (chain xs nil))
vector_err s xs f e = sym (within_err s (vector_of xs) f e)

-- ---- the elements of a list

pub one_more : (xs total : List Tree) (x y left rest : Tree) → left ≡ t.pair None x y → xs ++ elements left ≡ total → tail_of left ≡ tail_of rest → is_rest left ≡ is_rest rest
    → ((xs ++ x ∷ []) ++ elements y ≡ total) × (tail_of y ≡ tail_of rest) × (is_rest y ≡ is_rest rest)
one_more xs total x y left rest same so_far tail is =
    (append_assoc xs (x ∷ []) (elements y) ∙ sym (ap (λ (z : Tree). xs ++ elements z) same) ∙ so_far, sym (ap tail_of same) ∙ tail, sym (ap is_rest same) ∙ is)

pub all_there : (xs total : List Tree) (left rest : Tree) → is_tail left ≡ true → xs ++ elements left ≡ total → tail_of left ≡ tail_of rest → is_rest left ≡ is_rest rest
    → (xs ≡ total) × (left ≡ tail_of rest) × (is_rest rest ≡ true)
all_there xs total left rest h so_far tail is =
    let alone = tree_tail_alone left h in
    (sym (append-nil xs) ∙ sym (ap (λ (z : List Tree). xs ++ z) alone.0) ∙ so_far, sym alone.1 ∙ tail, sym is ∙ alone.2)

pub rest_smaller : (x y left : Tree) → left ≡ t.pair None x y → size y < size left
rest_smaller x y left same = rw same (omega (arith, size-some x))
