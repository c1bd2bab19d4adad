-- The template that a form compiles to is kept where the form is.
use Rattle.std.proofs.Common.{◌≡◌, ℕ, zero, suc, ◌+◌, Bool, true, false, List, [], ◌∷◌, ◌++◌, length, Option, None, Some, Result, Ok, Err, refl, sym, subst, arith, slice_get, nat_lt, if◌then◌else◌}
use Rattle.std.specs.Prelude.{◌||◌, nat_eq}
use Rattle.base_data.proofs.ElementLemmas.{each-append, each-and}
use Rattle.base_data.specs.Elements.{Each}
use Rattle.base_data.specs.declared.atom.Atom.TheVariants as a
use Rattle.base_data.specs.Gives.{◌>>=◌}
use Rattle.base_data.specs.declared.fault.Bare.{Bare}
use Rattle.base_data.specs.declared.fault.Fault.{Fault}
use Rattle.base_data.specs.declared.name.Label.{Label}
use Rattle.base_data.specs.declared.span.Span.{Span}
use Rattle.stx_tree.specs.Measures.{within}
use Rattle.stx_tree.specs.Tree as tree
use Rattle.stx_tree.specs.Tree.{Tree, nil, span_of, spanned, list_of, vector_of}
use Rattle.stx_scope.specs.Stands.{stands}
use Rattle.core_language.specs.Bindings.{bound_to}
use Rattle.core_language.specs.Template.{PlainTemplate, list, vector}
use Rattle.core_language.specs.declared.binding.Binding.{Binding}
use Rattle.core_language.specs.declared.binding.Binding.TheVariants as binding
use Rattle.core_shapes.specs.Lists.{is_nil, tail_of}
use Rattle.eval_template.specs.Compile.{TemplateScope, variable_made, bound_made, label_made, is_special, leaf_made, TemplateElement, dots_behind, reach, with_ellipses, fitted, item_made, WalkedItems, step, walked, constant_of, template_of, items_of, is_fixed, is_changed, any_changed, tree_before, trees, rebuilt, placed, fixed_list, list_joined, fixed_vector, vector_joined, escape_of, unescaped, list_parts, list_made, vector_made, template, elements_made, tail_made, compiled}
use Rattle.eval_pattern.specs.Keywords.{is_ellipsis}
use Rattle.law_invariants.specs.Holds.{TemplateHolds, ItemsHold}
use Rattle.law_invariants.proofs.Trees.{OkHolds, within_all}
use Rattle.law_invariants.specs.Invariant.{Invariant}
use Rattle.law_invariant_expansion.specs.Kept.{IsBuilt}

module _ (I : Invariant) (built : IsBuilt I) where
  -- The types of what is made of a form and of an item, which their crate keeps to itself. Of the first only what is said of it is
  -- known: whether it is fixed, its template, and its tree where it is fixed.

  abbrev Given : {A B : Type 0} → (A → B) → Type 0
  Given {A} {B} f = A

  abbrev Member : {A B : Type 0} → (List A → B) → Type 0
  Member {A} {B} f = A

  abbrev Made : Type 0
  Made = Given reach

  abbrev MadeItem : Type 0
  MadeItem = Member items_of

  abbrev only : List Tree → Tree
  only [] = nil
  only (t ∷ ts) = t

  abbrev trees_in : Made → List Tree
  trees_in m = tree_before m []

  -- the tree of a list or vector, where it is fixed
  abbrev joined_trees : Tree → Bool → Bool → Result Tree Bare → List Tree
  joined_trees t false changed r = []
  joined_trees t true false r = t ∷ []
  joined_trees t true true (Ok u) = spanned (span_of t) u ∷ []
  joined_trees t true true (Err f) = []

  fixed-template : (m : Made) → is_fixed m ≡ true → template_of m ≡ constant_of (only (trees_in m))
  fixed-template m h = grind (arith, template_of, is_fixed, tree_before, only)

  before-trees : (m : Made) (ts : List Tree) → tree_before m ts ≡ trees_in m ++ ts
  before-trees m ts = grind (arith, tree_before, ◌++◌)

  unescaped-template : (m : Made) → template_of (unescaped m) ≡ template_of m
  unescaped-template m = grind (arith, template_of, unescaped)

  unescaped-trees : (m : Made) → trees_in (unescaped m) ≡ trees_in m
  unescaped-trees m = grind (arith, tree_before, unescaped)

  list-template : (place : Span) (t : Tree) (is : List MadeItem) (m y : Made) → list_joined place t is m ≡ Ok y → is_fixed y ≡ false → template_of y ≡ list (items_of is) (template_of m)
  list-template place t is m y e h = grind (arith, list_joined, fixed_list, rebuilt, placed, ◌>>=◌, template_of, constant_of, is_fixed)

  list-trees : (place : Span) (t : Tree) (is : List MadeItem) (m y : Made) → list_joined place t is m ≡ Ok y → trees_in y ≡ joined_trees t (is_fixed y) (is_changed m || any_changed is) (within (list_of (trees is) (Some (only (trees_in m)))))
  list-trees place t is m y e = grind (arith, list_joined, fixed_list, rebuilt, placed, ◌>>=◌, tree_before, is_fixed, is_changed, only, joined_trees, ◌||◌)

  vector-template : (place : Span) (t : Tree) (is : List MadeItem) (y : Made) → vector_joined place t is ≡ Ok y → is_fixed y ≡ false → template_of y ≡ vector (items_of is)
  vector-template place t is y e h = grind (arith, vector_joined, fixed_vector, rebuilt, placed, ◌>>=◌, template_of, is_fixed)

  vector-trees : (place : Span) (t : Tree) (is : List MadeItem) (y : Made) → vector_joined place t is ≡ Ok y → trees_in y ≡ joined_trees t (is_fixed y) (any_changed is) (within (vector_of (trees is)))
  vector-trees place t is y e = grind (arith, vector_joined, fixed_vector, rebuilt, placed, ◌>>=◌, tree_before, is_fixed, joined_trees)

  -- where there is a value, this holds of it
  good-then : {A B : Type 0} (P : A → Type 0) (Q : B → Type 0) (r : Result A Fault) (k : A → Result B Fault) → OkHolds P r → ((a : A) → P a → OkHolds Q (k a)) → OkHolds Q (r >>= k)
  good-then P Q (Ok x) k h next = next x h
  good-then P Q (Err e) k h next = tt

  good-if : {A : Type 0} (P : A → Type 0) (b : Bool) (r q : Result A Fault) → OkHolds P r → OkHolds P q → OkHolds P (if b then r else q)
  good-if P true r q h k = h
  good-if P false r q h k = k

  good-of : {A : Type 0} (P : A → Type 0) (r : Result A Fault) → ((a : A) → r ≡ Ok a → P a) → OkHolds P r
  good-of P (Ok x) h = h x refl
  good-of P (Err e) h = tt

  abbrev MadeHolds : Made → Type 0
  MadeHolds m = TemplateHolds I (template_of m) × Each I.trees (trees_in m)

  only-holds : (ts : List Tree) → Each I.trees ts → I.trees (only ts)
  only-holds [] h = built.closed.atom a.Nil built.closed.nil
  only-holds (t ∷ ts) h = h.0

  -- a form that is fixed, and one with variables
  fixed-holds : (m : Made) → is_fixed m ≡ true → Each I.trees (trees_in m) → MadeHolds m
  fixed-holds m e h = (subst (TemplateHolds I) (sym (fixed-template m e)) (built.unspanned (only (trees_in m)) (only-holds (trees_in m) h)), h)

  joined-hold : (t : Tree) (fixed changed : Bool) (r : Result Tree Bare) → I.trees t → OkHolds I.trees r → Each I.trees (joined_trees t fixed changed r)
  joined-hold t false changed r h k = tt
  joined-hold t true false r h k = (h, tt)
  joined-hold t true true (Ok u) h k = (built.spanned (span_of t) u k, tt)
  joined-hold t true true (Err f) h k = tt

  either-holds : (m : Made) (x : PlainTemplate) → Each I.trees (trees_in m) → (is_fixed m ≡ false → template_of m ≡ x) → TemplateHolds I x → MadeHolds m
  either-holds m x h e k = by (is_fixed m) refl
    where
      by : (b : Bool) → is_fixed m ≡ b → MadeHolds m
      by true is = fixed-holds m is h
      by false is = (subst (TemplateHolds I) (sym (e is)) k, h)

  abbrev ItemHolds : MadeItem → Type 0
  ItemHolds i = MadeHolds i.made

  items-hold : (is : List MadeItem) → Each ItemHolds is → ItemsHold I (items_of is)
  items-hold [] h = tt
  items-hold (i ∷ is) h = (h.0.0, items-hold is h.1)

  trees-hold : (is : List MadeItem) → Each ItemHolds is → Each I.trees (trees is)
  trees-hold [] h = tt
  trees-hold (i ∷ is) h = subst (λ (ts : List Tree). Each I.trees ts) (sym (before-trees i.made (trees is))) (each-append I.trees (trees_in i.made) (trees is) h.0.1 (trees-hold is h.1))

  list-joins : (place : Span) (t : Tree) (is : List MadeItem) (m : Made) → I.trees t → Each ItemHolds is → MadeHolds m → OkHolds MadeHolds (list_joined place t is m)
  list-joins place t is m g h k = good-of MadeHolds (list_joined place t is m) (λ y e.
      let u = list_of (trees is) (Some (only (trees_in m))) in
      either-holds y (list (items_of is) (template_of m))
      (subst (λ (ts : List Tree). Each I.trees ts) (sym (list-trees place t is m y e)) (joined-hold t (is_fixed y) (is_changed m || any_changed is) (within u) g (within_all I.trees u (λ v q. built.closed.list (trees is) (only (trees_in m)) v (trees-hold is h) (only-holds (trees_in m) k.1) q))))
      (list-template place t is m y e) (items-hold is h, k.0))

  vector-joins : (place : Span) (t : Tree) (is : List MadeItem) → I.trees t → Each ItemHolds is → OkHolds MadeHolds (vector_joined place t is)
  vector-joins place t is g h = good-of MadeHolds (vector_joined place t is) (λ y e.
      let u = vector_of (trees is) in
      either-holds y (vector (items_of is))
      (subst (λ (ts : List Tree). Each I.trees ts) (sym (vector-trees place t is y e)) (joined-hold t (is_fixed y) (any_changed is) (within u) g (within_all I.trees u (λ v q. built.closed.vector (trees is) v (trees-hold is h) q))))
      (vector-template place t is y e) (items-hold is h))

  unescaped-holds : (m : Made) → MadeHolds m → MadeHolds (unescaped m)
  unescaped-holds m h = (subst (TemplateHolds I) (sym (unescaped-template m)) h.0, subst (λ (ts : List Tree). Each I.trees ts) (sym (unescaped-trees m)) h.1)

  form-holds : (t : Tree) → I.trees t → TemplateHolds I (constant_of t) × (I.trees t × Unit {0})
  form-holds t h = (built.unspanned t h, (h, tt))

  abbrev IsElement : TemplateElement → Type 0
  IsElement x = (escaped : Bool) (under : ℕ) → OkHolds MadeHolds (x.1 escaped under)

  module _ (c : TemplateScope) where
    variable-holds : (under : ℕ) (x : List ℕ) (t : Tree) (l : Label) (level depth : ℕ) → OkHolds MadeHolds (variable_made c under (record { symbol = x; form = t }) (record { label = l; level = level; depth = depth }))
    variable-holds under x t l level depth = good-if MadeHolds (nat_eq level c.level) _ _ (good-if MadeHolds (nat_lt under depth) _ _ tt (tt, tt)) tt

    bound-holds : (under : ℕ) (x : List ℕ) (t : Tree) (l : Label) (o : Option Binding) → I.trees t → OkHolds MadeHolds (bound_made c under (record { symbol = x; form = t }) l o)
    bound-holds under x t l None h = form-holds t h
    bound-holds under x t l (Some (binding.Variable v)) h = form-holds t h
    bound-holds under x t l (Some (binding.PatternVariable level depth)) h = variable-holds under x t l level depth
    bound-holds under x t l (Some (binding.Macro level expression)) h = form-holds t h
    bound-holds under x t l (Some (binding.Core f)) h = form-holds t h
    bound-holds under x t l (Some (binding.Primitive o)) h = form-holds t h

    label-holds : (under : ℕ) (x : List ℕ) (t : Tree) (o : Option Label) → I.trees t → OkHolds MadeHolds (label_made c under (record { symbol = x; form = t }) o)
    label-holds under x t None h = form-holds t h
    label-holds under x t (Some l) h = bound-holds under x t l (bound_to c.bindings l) h

    leaf-holds : (escaped : Bool) (x : List ℕ) (t : Tree) (under : ℕ) → I.trees t → OkHolds MadeHolds (leaf_made c escaped (record { symbol = x; form = t }) under)
    leaf-holds escaped x t under h = good-if MadeHolds (is_special escaped (stands c.frames t)) _ _ tt (label-holds under x t (stands c.frames t) h)

    fitted-holds : (place : Span) (es : List Tree) (m : Made) → MadeHolds m → OkHolds ItemHolds (fitted place es m)
    fitted-holds place es m h = by (slice_get es (reach m))
      where
        by : (o : Option Tree) → OkHolds ItemHolds (with_ellipses place es m o)
        by None = h
        by (Some x) = tt

    item-holds : (escaped : Bool) (under : ℕ) (x : TemplateElement) (es : List Tree) → IsElement x → OkHolds ItemHolds (item_made c escaped under x es)
    item-holds escaped under x es one = good-then MadeHolds ItemHolds (x.1 escaped (under + length es)) (fitted c.place es) (one escaped (under + length es)) (λ m h. fitted-holds c.place es m h)

    abbrev AllHold : List MadeItem → Type 0
    AllHold is = Each ItemHolds is

    step-holds : (escaped : Bool) (under skips : ℕ) (x : TemplateElement) (es : List Tree) (is : List MadeItem) → IsElement x → AllHold is → OkHolds (λ (w : WalkedItems). AllHold w.1) (step c escaped under skips x es is)
    step-holds escaped under (suc skips) x es is one h = h
    step-holds escaped under zero x es is one h = good-then ItemHolds (λ (w : WalkedItems). AllHold w.1) (item_made c escaped under x es) (λ i. Ok (length es, is ++ i ∷ [])) (item-holds escaped under x es one) (λ i k. each-and ItemHolds is i h k)

    walked-holds : (escaped : Bool) (under skips : ℕ) (is : List MadeItem) (xs : List TemplateElement) → Each IsElement xs → AllHold is → OkHolds AllHold (walked c escaped under skips is xs)
    walked-holds escaped under skips is [] all h = h
    walked-holds escaped under skips is (x ∷ xs) all h =
        good-then (λ (w : WalkedItems). AllHold w.1) AllHold (step c escaped under skips x (dots_behind c.frames escaped xs) is) (λ w. walked c escaped under w.0 w.1 xs)
        (step-holds escaped under skips x (dots_behind c.frames escaped xs) is all.0 h) (λ w k. walked-holds escaped under w.0 w.1 xs all.1 k)

    parts-hold : (escaped : Bool) (t : Tree) (xs : List TemplateElement) (tail : Bool → ℕ → Result Made Fault) (under : ℕ) → I.trees t → Each IsElement xs → ((e : Bool) (n : ℕ) → OkHolds MadeHolds (tail e n)) → OkHolds MadeHolds (list_parts c escaped (record { form = t; elements = xs; tail = tail }) under)
    parts-hold escaped t xs tail under g all last =
        good-then AllHold MadeHolds (walked c escaped under 0 [] xs) (λ items. tail escaped under >>= list_joined c.place t items) (walked-holds escaped under 0 [] xs all tt)
        (λ is h. good-then MadeHolds MadeHolds (tail escaped under) (list_joined c.place t is) (last escaped under) (λ m k. list-joins c.place t is m g h k))

    abbrev IsEscape : Option TemplateElement → Type 0
    IsEscape None = Unit {0}
    IsEscape (Some y) = IsElement y

    escape-is : (escaped : Bool) (xs : List TemplateElement) (ends : Bool) → Each IsElement xs → IsEscape (escape_of c.frames escaped xs ends)
    escape-is false (x ∷ (y ∷ [])) true all = by (is_ellipsis c.frames x.0)
      where
        by : (b : Bool) → IsEscape (if b then Some y else None)
        by true = all.1.0
        by false = tt
    escape-is false (x ∷ (y ∷ [])) false all = tt
    escape-is false [] ends all = tt
    escape-is false (x ∷ []) ends all = tt
    escape-is false (x ∷ (y ∷ (z ∷ xs))) ends all = tt
    escape-is true xs ends all = tt

    list-holds : (escaped : Bool) (t : Tree) (xs : List TemplateElement) (tail : Bool → ℕ → Result Made Fault) (under : ℕ) (o : Option TemplateElement) → I.trees t → Each IsElement xs → ((e : Bool) (n : ℕ) → OkHolds MadeHolds (tail e n)) → IsEscape o
        → OkHolds MadeHolds (list_made c escaped (record { form = t; elements = xs; tail = tail }) under o)
    list-holds escaped t xs tail under None g all last esc = parts-hold escaped t xs tail under g all last
    list-holds escaped t xs tail under (Some y) g all last esc = good-then MadeHolds MadeHolds (y.1 true under) (λ m. Ok (unescaped m)) (esc true under) (λ m h. unescaped-holds m h)

    vector-holds : (escaped : Bool) (t : Tree) (xs : List TemplateElement) (under : ℕ) → I.trees t → Each IsElement xs → OkHolds MadeHolds (vector_made c escaped t xs under)
    vector-holds escaped t xs under g all = good-then AllHold MadeHolds (walked c escaped under 0 [] xs) (vector_joined c.place t) (walked-holds escaped under 0 [] xs all tt) (λ is h. vector-joins c.place t is g h)

    mutual
      template-holds : (t : Tree) → I.trees t → (escaped : Bool) (under : ℕ) → OkHolds MadeHolds (template c t escaped under)
      template-holds (tree.atom s a) g escaped under = form-holds (tree.atom s a) g
      template-holds (tree.leaf s x k) g escaped under = leaf-holds escaped x (tree.leaf s x k) under g
      template-holds (tree.pair s a d) g escaped under =
          list-holds escaped (tree.pair s a d) ((a, template c a) ∷ elements_made c d) (tail_made c d) under (escape_of c.frames escaped ((a, template c a) ∷ elements_made c d) (is_nil (tail_of d))) g
          ((λ e n. template-holds a (built.closed.first s a d g) e n), elements-hold d (built.closed.rest s a d g)) (λ e n. tail-holds d (built.closed.rest s a d g) e n) (escape-is escaped ((a, template c a) ∷ elements_made c d) (is_nil (tail_of d)) ((λ e n. template-holds a (built.closed.first s a d g) e n), elements-hold d (built.closed.rest s a d g)))
      template-holds (tree.vector s d) g escaped under = vector-holds escaped (tree.vector s d) (elements_made c d) under g (elements-hold d (built.closed.elements s d g))

      elements-hold : (t : Tree) → I.trees t → Each IsElement (elements_made c t)
      elements-hold (tree.atom s a) g = tt
      elements-hold (tree.leaf s x k) g = tt
      elements-hold (tree.pair s a d) g = ((λ e n. template-holds a (built.closed.first s a d g) e n), elements-hold d (built.closed.rest s a d g))
      elements-hold (tree.vector s d) g = tt

      tail-holds : (t : Tree) → I.trees t → (escaped : Bool) (under : ℕ) → OkHolds MadeHolds (tail_made c t escaped under)
      tail-holds (tree.atom s a) g escaped under = form-holds (tree.atom s a) g
      tail-holds (tree.leaf s x k) g escaped under = leaf-holds escaped x (tree.leaf s x k) under g
      tail-holds (tree.pair s a d) g escaped under = tail-holds d (built.closed.rest s a d g) escaped under
      tail-holds (tree.vector s d) g escaped under = vector-holds escaped (tree.vector s d) (elements_made c d) under g (elements-hold d (built.closed.elements s d g))

    pub compiled-holds : (t : Tree) → I.trees t → OkHolds (TemplateHolds I) (compiled c t)
    compiled-holds t g = good-then MadeHolds (TemplateHolds I) (template c t false 0) (λ m. Ok (template_of m)) (template-holds t g false 0) (λ m h. h.0)
