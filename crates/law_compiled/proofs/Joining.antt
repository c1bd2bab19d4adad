-- What comes of the parts of a list or vector in a template.
use Rattle.std.proofs.Common.{◌≡◌, ℕ, ◌≤◌, ◌<◌, Bool, true, false, List, [], ◌∷◌, map, Option, None, Some, Result, Ok, Err, refl, sym, ◌∙◌, ap, subst, arith, inl, inr, nat_lt, if◌then◌else◌}
use Rattle.std.specs.Prelude.{◌⊎◌, ◌||◌, max}
use Rattle.std.proofs.Math.Nat.{le-max_left, le-max_right}
use Rattle.std.proofs.lemmas.Bool.Decides.{nat_tests}
use Rattle.base_data.specs.Gives.{◌>>=◌}
use Rattle.base_data.specs.declared.fault.Bare.{Bare}
use Rattle.base_data.specs.declared.fault.Fault.{Fault}
use Rattle.base_data.specs.declared.fault.FaultKind.TheVariants as kind
use Rattle.base_data.specs.declared.span.Span.{Span}
use Rattle.stx_tree.specs.Measures.{fits, within, too_deep}
use Rattle.stx_tree.specs.Tree as tree
use Rattle.stx_tree.specs.Tree.{Tree, nil, chain, span_of, spanned, unspanned, is_list, rest_of, list_of, vector_of}
use Rattle.stx_tree.proofs.TreeLaws.{unspanned-spanned}
use Rattle.core_language.specs.Template.{PlainTemplate, variable, constant, list, vector, PlainItems}
use Rattle.law_core.specs.Templates.{HasDepth, ItemHasDepth}
use Rattle.core_shapes.specs.At.{fault_at}
use Rattle.eval_template.specs.Compile.{reach, constant_of, template_of, items_of, reaches, is_fixed, all_fixed, is_changed, any_changed, tree_before, trees, rebuilt, placed, fixed_list, list_joined, fixed_vector, vector_joined, unescaped}
use Rattle.law_compiled.specs.Templates.{constants, list_by, vector_by}

-- The types of what is made of a form and of an item, which their crate keeps to itself. Of the first only what is said of it is known:
-- whether it is fixed or changed, its tree, its template, and how far it reaches.

abbrev pub Argument : {A B : Type 0} → (A → B) → Type 0
Argument {A} {B} f = A

abbrev pub Member : {A B : Type 0} → (List A → B) → Type 0
Member {A} {B} f = A

abbrev pub Made : Type 0
Made = Argument reach

abbrev pub MadeItem : Type 0
MadeItem = Member items_of

abbrev pub first : List Tree → Tree
first [] = nil
first (t ∷ ts) = t

-- the tree of what is fixed
abbrev pub tree_in : Made → Tree
tree_in m = first (tree_before m [])

abbrev pub is_constant : PlainTemplate → Bool
is_constant (variable l d) = false
is_constant (constant t) = true
is_constant (list is t) = false
is_constant (vector is) = false

pub fixed-template : (m : Made) → is_fixed m ≡ true → template_of m ≡ constant (unspanned (tree_in m))
fixed-template m h = grind (arith, template_of, constant_of, is_fixed, tree_in, tree_before, first)

pub fixed-before : (m : Made) (ts : List Tree) → is_fixed m ≡ true → tree_before m ts ≡ tree_in m ∷ ts
fixed-before m ts h = grind (arith, is_fixed, tree_in, tree_before, first)

pub fixed-reach : (m : Made) → is_fixed m ≡ true → reach m ≡ 0
fixed-reach m h = grind (arith, is_fixed, reach)

pub unescaped-fixed : (m : Made) → is_fixed (unescaped m) ≡ is_fixed m
unescaped-fixed m = grind (arith, is_fixed, unescaped)

pub unescaped-changed : (m : Made) → is_fixed m ≡ true → is_changed (unescaped m) ≡ true
unescaped-changed m h = grind (arith, is_fixed, is_changed, unescaped)

pub unescaped-template : (m : Made) → template_of (unescaped m) ≡ template_of m
unescaped-template m = grind (arith, template_of, constant_of, unescaped)

pub unescaped-reach : (m : Made) → reach (unescaped m) ≡ reach m
unescaped-reach m = grind (arith, reach, unescaped)

-- Values and faults.

abbrev pub Tells : {A : Type 0} → (A → Type 0) → (Fault → Type 0) → Result A Fault → Type 0
Tells P Q (Ok x) = P x
Tells P Q (Err f) = Q f

pub then-tells : {A B : Type 0} (P : A → Type 0) (Q : Fault → Type 0) (R : B → Type 0) (S : Fault → Type 0) (r : Result A Fault) (k : A → Result B Fault)
    → Tells P Q r → ((a : A) → P a → Tells R S (k a)) → ((f : Fault) → Q f → S f) → Tells R S (r >>= k)
then-tells P Q R S (Ok x) k h next bad = next x h
then-tells P Q R S (Err f) k h next bad = bad f h

pub tells-if : {A : Type 0} (P : A → Type 0) (Q : Fault → Type 0) (b : Bool) (r q : Result A Fault) → (b ≡ true → Tells P Q r) → (b ≡ false → Tells P Q q) → Tells P Q (if b then r else q)
tells-if P Q true r q h k = h refl
tells-if P Q false r q h k = k refl

pub tells-of : {A : Type 0} (P : A → Type 0) (Q : Fault → Type 0) (r : Result A Fault) → ((a : A) → r ≡ Ok a → P a) → ((f : Fault) → r ≡ Err f → Q f) → Tells P Q r
tells-of P Q (Ok x) h k = h x refl
tells-of P Q (Err f) h k = k f refl

pub both-tell : {A : Type 0} (P R : A → Type 0) (Q S : Fault → Type 0) (r : Result A Fault) → Tells P Q r → Tells R S r → Tells (λ a. P a × R a) S r
both-tell P R Q S (Ok x) h k = (h, k)
both-tell P R Q S (Err f) h k = k

-- Trees without spans.

pub chain-is : (ts : List Tree) (r : Tree) → unspanned (chain ts r) ≡ chain (map unspanned ts) (unspanned r)
chain-is [] r = refl
chain-is (t ∷ ts) r = ap (tree.pair None (unspanned t)) (chain-is ts r)

rest-is : (t : Tree) → unspanned (rest_of t) ≡ unspanned t
rest-is t = by (is_list t)
  where
    by : (b : Bool) → unspanned (if b then spanned None t else t) ≡ unspanned t
    by true = unspanned-spanned None t
    by false = refl

list-is : (ts : List Tree) (r : Tree) → unspanned (list_of ts (Some r)) ≡ chain (map unspanned ts) (unspanned r)
list-is [] r = refl
list-is (t ∷ ts) r = chain-is (t ∷ ts) (rest_of r) ∙ ap (chain (map unspanned (t ∷ ts))) (rest-is r)

within-tells : {A : Type 0} (P : A → Type 0) (Q : Fault → Type 0) (w : Tree) (k : Result Tree Bare → Result A Fault) → Tells P Q (k (Ok w)) → Tells P Q (k (Err too_deep)) → Tells P Q (k (within w))
unfolding within
within-tells P Q w k good bad = by (fits w)
  where
    by : (b : Bool) → Tells P Q (k (if b then Ok w else Err too_deep))
    by true = good
    by false = bad

-- What is told of a part that comes of this form: it is the form where nothing in it is changed, and it reaches so far as its template has
-- variables of depth.
pub record Part (t : Tree) (p : PlainTemplate) (m : Made) : Type 0 where
  pub template : template_of m ≡ p
  pub kept : is_fixed m ≡ true → is_changed m ≡ false → tree_in m ≡ t
  pub varied : is_fixed m ≡ false → is_constant (template_of m) ≡ false
  pub reached : (k : ℕ) → 1 ≤ k → k ≤ reach m → HasDepth k (template_of m)
  pub deep : (k : ℕ) → 1 ≤ k → HasDepth k (template_of m) → k ≤ reach m

-- and of items that come of these forms
pub record Parts (ts : List Tree) (is : List MadeItem) : Type 0 where
  pub all : all_fixed is ≡ true → constants (items_of is) ≡ Some (map unspanned (trees is))
  pub some : all_fixed is ≡ false → constants (items_of is) ≡ None
  pub kept : all_fixed is ≡ true → any_changed is ≡ false → trees is ≡ ts
  pub reached : (k : ℕ) → 1 ≤ k → k ≤ reaches is → ItemHasDepth k (items_of is)
  pub deep : (k : ℕ) → 1 ≤ k → ItemHasDepth k (items_of is) → k ≤ reaches is

pub max-parts : (a b k : ℕ) → k ≤ max a b → (k ≤ a) ⊎ (k ≤ b)
max-parts a b k le = by (nat_lt a k) refl
  where
    by : (t : Bool) → nat_lt a k ≡ t → (k ≤ a) ⊎ (k ≤ b)
    by true e = inr (let lt : a < k = grind (arith, nat_tests) in omega (arith, lt, le))
    by false e = inl (grind (arith, nat_tests))

none-reached : (k : ℕ) → 1 ≤ k → k ≤ 0 → ⊥
none-reached k one le = omega (arith, one, le)

-- a constant
pub fixed-part : (t u : Tree) (p : PlainTemplate) (m : Made) → is_fixed m ≡ true → tree_in m ≡ u → constant (unspanned u) ≡ p → (is_changed m ≡ false → u ≡ t) → Part t p m
fixed-part t u p m f e q k = record {
  template = fixed-template m f ∙ ap (λ v. constant (unspanned v)) e ∙ q;
  kept = λ h c. e ∙ k c;
  varied = λ h. let a = sym f ∙ h in absurd (cc);
  reached = λ k one le. absurd (none-reached k one (subst (λ n. k ≤ n) (fixed-reach m f) le));
  deep = λ k one h. absurd (subst (HasDepth k) (fixed-template m f) h);
}

list-varied : (is : PlainItems) (o : Option (List Tree)) (p : PlainTemplate) → is_constant p ≡ false → list_by is o p ≡ list is p
list-varied is None p h = refl
list-varied is (Some us) (variable l d) h = refl
list-varied is (Some us) (constant t) h = absurd (cc)
list-varied is (Some us) (list js t) h = refl
list-varied is (Some us) (vector js) h = refl

both-same : (a b : Bool) → (a || b) ≡ false → (a ≡ false) × (b ≡ false)
both-same true b h = absurd (cc)
both-same false b h = (refl, h)

-- Lists.

module _ (place : Span) (t : Tree) (is : List MadeItem) (m : Made) where
  joined-fixed : is_fixed m ≡ true → all_fixed is ≡ true → list_joined place t is m ≡ fixed_list place t is (is_changed m) (tree_in m)
  joined-fixed h k = grind (arith, list_joined, is_fixed, is_changed, tree_in, tree_before, first)

  varied-tail : (y : Made) → list_joined place t is m ≡ Ok y → is_fixed m ≡ false → is_fixed y ≡ false
  varied-tail y e h = grind (arith, list_joined, is_fixed)

  varied-items : (y : Made) → list_joined place t is m ≡ Ok y → all_fixed is ≡ false → is_fixed y ≡ false
  varied-items y e h = grind (arith, list_joined, is_fixed)

  varied-template : (y : Made) → list_joined place t is m ≡ Ok y → is_fixed y ≡ false → template_of y ≡ list (items_of is) (template_of m)
  varied-template y e h = grind (arith, list_joined, fixed_list, rebuilt, placed, ◌>>=◌, template_of, constant_of, is_fixed)

  varied-reach : (y : Made) → list_joined place t is m ≡ Ok y → is_fixed y ≡ false → reach y ≡ max (reaches is) (reach m)
  varied-reach y e h = grind (arith, list_joined, fixed_list, rebuilt, placed, ◌>>=◌, reach, is_fixed)

  no-fault-tail : (f : Fault) → list_joined place t is m ≡ Err f → is_fixed m ≡ false → f ≡ fault_at kind.TooDeep t place []
  no-fault-tail f e h = grind (arith, list_joined, is_fixed)

  no-fault-items : (f : Fault) → list_joined place t is m ≡ Err f → all_fixed is ≡ false → f ≡ fault_at kind.TooDeep t place []
  no-fault-items f e h = grind (arith, list_joined, is_fixed)

  module _ (ts : List Tree) (r : Tree) (p : PlainTemplate) (form : unspanned t ≡ chain (map unspanned ts) (unspanned r)) (items : Parts ts is) (tail : Part r p m) where
    abbrev joins : PlainTemplate
    joins = list_by (items_of is) (constants (items_of is)) (template_of m)

    abbrev IsDeep : Fault → Type 0
    IsDeep f = f ≡ fault_at kind.TooDeep t place []

    constant-is : is_fixed m ≡ true → all_fixed is ≡ true → constant (chain (map unspanned (trees is)) (unspanned (tree_in m))) ≡ joins
    constant-is h k = sym (ap (λ o. list_by (items_of is) o (template_of m)) (items.all k) ∙ ap (list_by (items_of is) (Some (map unspanned (trees is)))) (fixed-template m h))

    same-tree : is_fixed m ≡ true → all_fixed is ≡ true → any_changed is ≡ false → is_changed m ≡ false → unspanned t ≡ chain (map unspanned (trees is)) (unspanned (tree_in m))
    same-tree h k a b = form ∙ sym (λ i. chain (map unspanned (items.kept k a i)) (unspanned (tail.kept h b i)))

    fixed-joins : is_fixed m ≡ true → all_fixed is ≡ true → Tells (Part t joins) IsDeep (fixed_list place t is (is_changed m) (tree_in m))
    fixed-joins h k = tells-if (Part t joins) IsDeep (is_changed m || any_changed is) _ _
        (λ c. within-tells (Part t joins) IsDeep (list_of (trees is) (Some (tree_in m))) (λ x. rebuilt place t x)
        (fixed-part t (spanned (span_of t) (list_of (trees is) (Some (tree_in m)))) joins _ refl refl
        (ap constant (unspanned-spanned (span_of t) (list_of (trees is) (Some (tree_in m))) ∙ list-is (trees is) (tree_in m)) ∙ constant-is h k) (λ no. absurd (cc)))
        refl)
        (λ c. let b = both-same (is_changed m) (any_changed is) c in fixed-part t t joins _ refl refl (ap constant (same-tree h k b.1 b.0) ∙ constant-is h k) (λ no. refl))

    varied-joins : (y : Made) → list_joined place t is m ≡ Ok y → is_fixed y ≡ false → list (items_of is) (template_of m) ≡ joins → Part t joins y
    varied-joins y e v q =
        let n = varied-reach y e v in
        let x = varied-template y e v in
        record {
          template = x ∙ q;
          kept = λ h c. let a = sym h ∙ v in absurd (cc);
          varied = λ h. ap is_constant x;
          reached = λ k one le. subst (HasDepth k) (sym x) (by k one (max-parts (reaches is) (reach m) k (subst (λ i. k ≤ i) n le)));
          deep = λ k one h. subst (λ i. k ≤ i) (sym n) (low k one (subst (HasDepth k) x h));
        }
      where
        by : (k : ℕ) → 1 ≤ k → (k ≤ reaches is) ⊎ (k ≤ reach m) → ItemHasDepth k (items_of is) ⊎ HasDepth k (template_of m)
        by k one (inl le) = inl (items.reached k one le)
        by k one (inr le) = inr (tail.reached k one le)

        low : (k : ℕ) → 1 ≤ k → ItemHasDepth k (items_of is) ⊎ HasDepth k (template_of m) → k ≤ max (reaches is) (reach m)
        low k one (inl h) = let a = items.deep k one h in let b = le-max_left (reaches is) (reach m) in omega (arith, a, b)
        low k one (inr h) = let a = tail.deep k one h in let b = le-max_right (reaches is) (reach m) in omega (arith, a, b)

    pub list-joins : Tells (Part t joins) IsDeep (list_joined place t is m)
    list-joins = by (is_fixed m) (all_fixed is) refl refl
      where
        by : (a b : Bool) → is_fixed m ≡ a → all_fixed is ≡ b → Tells (Part t joins) IsDeep (list_joined place t is m)
        by true true h k = subst (Tells (Part t joins) IsDeep) (sym (joined-fixed h k)) (fixed-joins h k)
        by true false h k = tells-of (Part t joins) IsDeep (list_joined place t is m)
            (λ y e. varied-joins y e (varied-items y e k) (sym (ap (λ o. list_by (items_of is) o (template_of m)) (items.some k)))) (λ f e. no-fault-items f e k)
        by false b h k = tells-of (Part t joins) IsDeep (list_joined place t is m)
            (λ y e. varied-joins y e (varied-tail y e h) (sym (list-varied (items_of is) (constants (items_of is)) (template_of m) (tail.varied h)))) (λ f e. no-fault-tail f e h)

-- Vectors.

module _ (place : Span) (s : Option Span) (d : Tree) (is : List MadeItem) (ts : List Tree) (form : unspanned d ≡ chain (map unspanned ts) nil) (items : Parts ts is) where
  abbrev whole : Tree
  whole = tree.vector s d

  abbrev vector-made : PlainTemplate
  vector-made = vector_by (items_of is) (constants (items_of is))

  abbrev IsDeepVector : Fault → Type 0
  IsDeepVector f = f ≡ fault_at kind.TooDeep whole place []

  vector-constant : all_fixed is ≡ true → constant (tree.vector None (chain (map unspanned (trees is)) nil)) ≡ vector-made
  vector-constant k = sym (ap (vector_by (items_of is)) (items.all k))

  fixed-vector-joins : all_fixed is ≡ true → Tells (Part whole vector-made) IsDeepVector (fixed_vector place whole is)
  fixed-vector-joins k = tells-if (Part whole vector-made) IsDeepVector (any_changed is) _ _
      (λ c. within-tells (Part whole vector-made) IsDeepVector (vector_of (trees is)) (λ x. rebuilt place whole x)
      (fixed-part whole (spanned s (vector_of (trees is))) vector-made _ refl refl (ap (λ u. constant (tree.vector None u)) (chain-is (trees is) nil) ∙ vector-constant k) (λ no. absurd (cc))) refl)
      (λ c. fixed-part whole whole vector-made _ refl refl (ap (λ u. constant (tree.vector None u)) (form ∙ sym (ap (λ us. chain (map unspanned us) nil) (items.kept k c))) ∙ vector-constant k) (λ no. refl))

  pub vector-joins : Tells (Part whole vector-made) IsDeepVector (vector_joined place whole is)
  vector-joins = tells-if (Part whole vector-made) IsDeepVector (all_fixed is) _ _ (λ k. fixed-vector-joins k)
      (λ k. record {
        template = sym (ap (vector_by (items_of is)) (items.some k));
        kept = λ h c. absurd (cc);
        varied = λ h. refl;
        reached = items.reached;
        deep = items.deep;
      })
