-- The pattern variables of a template are those that identifiers of its form stand for; its other identifiers are those of the form.
use Rattle.std.proofs.Common.{◌≡◌, ℕ, zero, suc, ◌+◌, Bool, true, false, List, [], ◌∷◌, ◌++◌, length, Option, None, Some, Result, Ok, Err, refl, sym, ap, ◌∙◌, subst, arith, slice_get, nat_lt, append-nil, append_assoc, inl, inr, true≢false, if◌then◌else◌}
use Rattle.std.specs.Prelude.{◌||◌, nat_eq}
use Rattle.std.specs.Cmp.{unsigned_Decides}
use Rattle.base_data.proofs.ElementLemmas.{each-first, each-last, each-append}
use Rattle.base_data.specs.Elements.{Each}
use Rattle.base_data.specs.Gives.{◌>>=◌}
use Rattle.base_data.specs.declared.fault.Bare.{Bare}
use Rattle.base_data.specs.declared.fault.Fault.{Fault}
use Rattle.base_data.specs.declared.name.Label.{Label}
use Rattle.base_data.specs.declared.span.Span.{Span}
use Rattle.stx_tree.specs.Context.{LeafContext}
use Rattle.stx_tree.specs.Measures.{fits, too_deep, within}
use Rattle.stx_tree.specs.Tree as tree
use Rattle.stx_tree.specs.Tree.{Tree, nil, chain, span_of, spanned, unspanned, is_list, rest_of, list_of, vector_of}
use Rattle.stx_scope.specs.Stands.{stands}
use Rattle.core_language.specs.Bindings.{bound_to}
use Rattle.core_language.specs.Core.{instance}
use Rattle.core_language.specs.Template.{PlainTemplate, variable, list, vector}
use Rattle.core_language.specs.declared.binding.Binding.{Binding}
use Rattle.core_language.specs.declared.binding.Binding.TheVariants as binding
use Rattle.eval_pattern.specs.Keywords.{is_ellipsis}
use Rattle.core_shapes.specs.Lists.{is_nil, is_nil_atom, tail_of}
use Rattle.expand_standing.specs.Patterns.{has_variables, first_outside, outside_fault, template_in}
use Rattle.expand_standing.specs.Patterns as patterns
use Rattle.expand_standing.specs.State.{State}
use Rattle.eval_template.specs.Compile.{TemplateScope, variable_made, bound_made, label_made, is_special, leaf_made, TemplateElement, dots, dots_behind, reach, with_ellipses, fitted, item_made, WalkedItems, step, walked, constant_of, template_of, items_of, is_fixed, is_changed, any_changed, tree_before, trees, rebuilt, placed, all_fixed, fixed_list, list_joined, fixed_vector, vector_joined, escape_of, unescaped, list_parts, list_made, vector_made, template, elements_made, tail_made, compiled}
use Rattle.law_expand.proofs.Acts.{Gave, gave-if}
use Rattle.law_expand.proofs.Templated.{list-template, vector-template}
use Rattle.law_fresh.proofs.Trees.{OkHolds}
use Rattle.law_references.specs.Changes.{placed as form_placed}
use Rattle.law_references.specs.Namings.{namings, template_namings, item_namings}
use Rattle.law_references.specs.Noted.{Reference, named}
use Rattle.law_references.specs.Templates.{leaves, AreSome, no_more, taken, passed, leaves_of, HasIdentifier, LeavesHold, ConstantsHold, ItemConstantsHold, of_binding, of_label, of_leaf, is_escape, variables_in, variables_behind, element_variables, IsPatternVariable, IsTemplateOf}

pub named-joined : (xs ys : List Reference) → named (xs ++ ys) ≡ named xs ++ named ys
named-joined [] ys = refl
named-joined (x ∷ xs) ys = ap (λ ns. namings x.code ++ ns) (named-joined xs ys) ∙ sym (append_assoc (namings x.code) (named xs) (named ys))

-- The types of what is made of a form and of an item, which their crate keeps to itself. Of the first only what is said of it is
-- known: whether it is fixed, its template, and its tree where it is fixed.

abbrev Given : {A B : Type 0} → (A → B) → Type 0
Given {A} {B} f = A

abbrev Member : {A B : Type 0} → (List A → B) → Type 0
Member {A} {B} f = A

abbrev Made : Type 0
Made = Given reach

abbrev MadeItem : Type 0
MadeItem = Member items_of

abbrev first : List Tree → Tree
first [] = nil
first (t ∷ ts) = t

abbrev trees_in : Made → List Tree
trees_in m = tree_before m []

-- the tree of a list or vector, where it is fixed
abbrev joined_trees : Tree → Bool → Bool → Result Tree Bare → List Tree
joined_trees t false changed r = []
joined_trees t true false r = t ∷ []
joined_trees t true true (Ok u) = spanned (span_of t) u ∷ []
joined_trees t true true (Err f) = []

fixed-template : (m : Made) → is_fixed m ≡ true → template_of m ≡ constant_of (first (trees_in m))
fixed-template m h = grind (arith, template_of, is_fixed, tree_before, first)

before-trees : (m : Made) (ts : List Tree) → tree_before m ts ≡ trees_in m ++ ts
before-trees m ts = grind (arith, tree_before, ◌++◌)

unescaped-template : (m : Made) → template_of (unescaped m) ≡ template_of m
unescaped-template m = grind (arith, template_of, unescaped)

unescaped-trees : (m : Made) → trees_in (unescaped m) ≡ trees_in m
unescaped-trees m = grind (arith, tree_before, unescaped)

list-trees : (place : Span) (t : Tree) (is : List MadeItem) (m y : Made) → list_joined place t is m ≡ Ok y → trees_in y ≡ joined_trees t (is_fixed y) (is_changed m || any_changed is) (within (list_of (trees is) (Some (first (trees_in m)))))
list-trees place t is m y e = grind (arith, list_joined, fixed_list, rebuilt, placed, ◌>>=◌, tree_before, is_fixed, is_changed, first, joined_trees, ◌||◌)

list-items-fixed : (place : Span) (t : Tree) (is : List MadeItem) (m y : Made) → list_joined place t is m ≡ Ok y → is_fixed y ≡ true → all_fixed is ≡ true
list-items-fixed place t is m y e h = grind (arith, list_joined, fixed_list, rebuilt, placed, ◌>>=◌, is_fixed)

list-tail-fixed : (place : Span) (t : Tree) (is : List MadeItem) (m y : Made) → list_joined place t is m ≡ Ok y → is_fixed y ≡ true → is_fixed m ≡ true
list-tail-fixed place t is m y e h = grind (arith, list_joined, fixed_list, rebuilt, placed, ◌>>=◌, is_fixed)

vector-trees : (place : Span) (t : Tree) (is : List MadeItem) (y : Made) → vector_joined place t is ≡ Ok y → trees_in y ≡ joined_trees t (is_fixed y) (any_changed is) (within (vector_of (trees is)))
vector-trees place t is y e = grind (arith, vector_joined, fixed_vector, rebuilt, placed, ◌>>=◌, tree_before, is_fixed, joined_trees)

vector-items-fixed : (place : Span) (t : Tree) (is : List MadeItem) (y : Made) → vector_joined place t is ≡ Ok y → is_fixed y ≡ true → all_fixed is ≡ true
vector-items-fixed place t is y e h = grind (arith, vector_joined, fixed_vector, rebuilt, placed, ◌>>=◌, is_fixed)

-- What is fixed has no pattern variables.

fixed-none : (m : Made) → is_fixed m ≡ true → template_namings (template_of m) ≡ []
fixed-none m h = ap template_namings (fixed-template m h)

both-true : (b c : Bool) → (if b then c else false) ≡ true → (b ≡ true) × (c ≡ true)
both-true true c e = (refl, e)
both-true false c e = absurd (true≢false (sym e))

items-none : (is : List MadeItem) → all_fixed is ≡ true → item_namings (items_of is) ≡ []
items-none [] h = refl
items-none (i ∷ is) h = let k = both-true (is_fixed i.made) (all_fixed is) h in λ j. fixed-none i.made k.0 j ++ items-none is k.1 j

-- where there is a value, this holds of it
good-then : {A B : Type 0} (P : A → Type 0) (Q : B → Type 0) (r : Result A Fault) (k : A → Result B Fault) → OkHolds P r → ((a : A) → P a → OkHolds Q (k a)) → OkHolds Q (r >>= k)
good-then P Q (Ok x) k h next = next x h
good-then P Q (Err e) k h next = tt

good-if : {A : Type 0} (P : A → Type 0) (b : Bool) (r q : Result A Fault) → (b ≡ true → OkHolds P r) → (b ≡ false → OkHolds P q) → OkHolds P (if b then r else q)
good-if P true r q h k = h refl
good-if P false r q h k = k refl

-- and of this identifier or that, as the value was chosen
good-choice : {A X : Type 0} (P : X → A → Type 0) (b : Bool) (x y : X) (r q : Result A Fault) → (b ≡ true → OkHolds (P x) r) → (b ≡ false → OkHolds (P y) q) → OkHolds (P (if b then x else y)) (if b then r else q)
good-choice P true x y r q h k = h refl
good-choice P false x y r q h k = k refl

good-of : {A : Type 0} (P : A → Type 0) (r : Result A Fault) → ((a : A) → r ≡ Ok a → P a) → OkHolds P r
good-of P (Ok x) h = h x refl
good-of P (Err e) h = tt

-- The leaves of trees that are made of others.

module _ (Q : List ℕ → LeafContext → Type 0) where
  abbrev L : Tree → Type 0
  L t = LeavesHold Q t

  spanned-so : (p : Option Span) (t : Tree) → L t → L (spanned p t)
  spanned-so p (tree.atom r a) h = tt
  spanned-so p (tree.leaf r x c) h = h
  spanned-so p (tree.pair r a d) h = h
  spanned-so p (tree.vector r d) h = h

  unspanned-so : (t : Tree) → L t → L (unspanned t)
  unspanned-so (tree.atom r a) h = tt
  unspanned-so (tree.leaf r x c) h = h
  unspanned-so (tree.pair r a d) h = (unspanned-so a h.0, unspanned-so d h.1)
  unspanned-so (tree.vector r d) h = unspanned-so d h

  rest-so : (t : Tree) → L t → L (rest_of t)
  rest-so t h = by (is_list t)
    where
      by : (b : Bool) → L (if b then spanned None t else t)
      by true = spanned-so None t h
      by false = h

  chained-so : (ts : List Tree) (t : Tree) → Each L ts → L t → L (chain ts t)
  chained-so [] t h k = k
  chained-so (x ∷ ts) t h k = (h.0, chained-so ts t h.1 k)

  list-so : (ts : List Tree) (t : Tree) → Each L ts → L t → L (list_of ts (Some t))
  list-so [] t h k = k
  list-so (x ∷ ts) t h k = chained-so (x ∷ ts) (rest_of t) h (rest-so t k)

  within-so : (t : Tree) → L t → OkHolds L (within t)
  unfolding within
  within-so t h = by (fits t)
    where
      by : (b : Bool) → OkHolds L (if b then Ok t else Err too_deep)
      by true = h
      by false = tt

-- Leaves in their order.

none-of : (ys : List Tree) → AreSome [] ys
none-of [] = no_more
none-of (y ∷ ys) = passed (none-of ys)

some-joined : {xs zs : List Tree} (ys ws : List Tree) → AreSome xs ys → AreSome zs ws → AreSome (xs ++ zs) (ys ++ ws)
some-joined [] ws no_more k = k
some-joined (y ∷ ys) ws (taken h) k = taken (some-joined ys ws h k)
some-joined (y ∷ ys) ws (passed h) k = passed (some-joined ys ws h k)

-- others stand before them
some-behind : {xs : List Tree} (ys ws : List Tree) → AreSome xs ws → AreSome xs (ys ++ ws)
some-behind [] ws h = h
some-behind (y ∷ ys) ws h = passed (some-behind ys ws h)

leaves-joined : (xs ys : List Reference) → leaves_of (xs ++ ys) ≡ leaves_of xs ++ leaves_of ys
leaves-joined [] ys = refl
leaves-joined (x ∷ xs) ys = ap (λ ts. x.leaf ∷ ts) (leaves-joined xs ys)

-- each identifier of a part is one of the whole
module _ (root : Tree) where
  abbrev Identifies : Tree → Type 0
  Identifies t = (x : List ℕ) (k : LeafContext) → HasIdentifier t x k → HasIdentifier root x k

-- The pattern variables of a tree, as its leaves have them.
module _ (s : State) (place : Span) (level : ℕ) where
  abbrev pub V : Reference → Type 0
  V r = IsPatternVariable s place level r

  -- they are pattern variables

  binding-hold : (t : Tree) (l : Label) (o : Option Binding) → stands s.frames t ≡ Some l → bound_to s.bindings l ≡ o → Each V (of_binding s place level t l o)
  binding-hold t l None e b = tt
  binding-hold t l (Some (binding.Variable v)) e b = tt
  binding-hold t l (Some (binding.Macro at expression)) e b = tt
  binding-hold t l (Some (binding.Core f)) e b = tt
  binding-hold t l (Some (binding.Primitive o)) e b = tt
  binding-hold t l (Some (binding.PatternVariable at depth)) e b = by (nat_eq at level) refl
    where
      by : (same : Bool) → nat_eq at level ≡ same → Each V (if same then record { leaf = t; state = s; label = l; code = instance (variable l depth) place } ∷ [] else [])
      by true same = (record { state = refl; stood = e; depth = depth; bound = b ∙ ap (λ n. Some (binding.PatternVariable n depth)) ((unsigned_Decides at level).0 same); code = refl }, tt)
      by false other = tt

  label-hold : (t : Tree) (o : Option Label) → stands s.frames t ≡ o → Each V (of_label s place level t o)
  label-hold t None e = tt
  label-hold t (Some l) e = binding-hold t l (bound_to s.bindings l) e refl

  leaf-hold : (escaped : Bool) (t : Tree) → Each V (of_leaf s place level escaped t)
  leaf-hold escaped t = by (is_special escaped (stands s.frames t))
    where
      by : (b : Bool) → Each V (if b then [] else of_label s place level t (stands s.frames t))
      by true = tt
      by false = label-hold t (stands s.frames t) refl

  either-hold : (b : Bool) (xs ys : List Reference) → Each V xs → Each V ys → Each V (if b then xs else ys)
  either-hold true xs ys h k = h
  either-hold false xs ys h k = k

  mutual
    pub variables-hold : (escaped : Bool) (t : Tree) → Each V (variables_in s place level escaped t)
    variables-hold escaped (tree.atom p a) = tt
    variables-hold escaped (tree.leaf p x k) = leaf-hold escaped (tree.leaf p x k)
    variables-hold escaped (tree.pair p a d) =
        either-hold (is_escape s place level escaped a d) (variables_behind s place level true d) (variables_in s place level escaped a ++ variables_behind s place level escaped d) (behind-hold true d)
        (each-append V (variables_in s place level escaped a) (variables_behind s place level escaped d) (variables-hold escaped a) (behind-hold escaped d))
    variables-hold escaped (tree.vector p d) = elements-hold escaped d

    behind-hold : (escaped : Bool) (t : Tree) → Each V (variables_behind s place level escaped t)
    behind-hold escaped (tree.atom p a) = tt
    behind-hold escaped (tree.leaf p x k) = leaf-hold escaped (tree.leaf p x k)
    behind-hold escaped (tree.pair p a d) = each-append V (variables_in s place level escaped a) (variables_behind s place level escaped d) (variables-hold escaped a) (behind-hold escaped d)
    behind-hold escaped (tree.vector p d) = elements-hold escaped d

    elements-hold : (escaped : Bool) (t : Tree) → Each V (element_variables s place level escaped t)
    elements-hold escaped (tree.atom p a) = tt
    elements-hold escaped (tree.leaf p x k) = tt
    elements-hold escaped (tree.pair p a d) = each-append V (variables_in s place level escaped a) (element_variables s place level escaped d) (variables-hold escaped a) (elements-hold escaped d)
    elements-hold escaped (tree.vector p d) = tt

  -- and some of its leaves, in their order

  abbrev AreIn : List Reference → List Tree → Type 0
  AreIn refs ls = AreSome (leaves_of refs) ls

  some-both : (xs ys : List Reference) (ls ms : List Tree) → AreIn xs ls → AreIn ys ms → AreIn (xs ++ ys) (ls ++ ms)
  some-both xs ys ls ms h k = subst (λ (ts : List Tree). AreSome ts (ls ++ ms)) (sym (leaves-joined xs ys)) (some-joined ls ms h k)

  binding-some : (t : Tree) (l : Label) (o : Option Binding) → AreIn (of_binding s place level t l o) (t ∷ [])
  binding-some t l None = passed no_more
  binding-some t l (Some (binding.Variable v)) = passed no_more
  binding-some t l (Some (binding.Macro at expression)) = passed no_more
  binding-some t l (Some (binding.Core f)) = passed no_more
  binding-some t l (Some (binding.Primitive o)) = passed no_more
  binding-some t l (Some (binding.PatternVariable at depth)) = by (nat_eq at level)
    where
      by : (same : Bool) → AreIn (if same then record { leaf = t; state = s; label = l; code = instance (variable l depth) place } ∷ [] else []) (t ∷ [])
      by true = taken no_more
      by false = passed no_more

  label-some : (t : Tree) (o : Option Label) → AreIn (of_label s place level t o) (t ∷ [])
  label-some t None = passed no_more
  label-some t (Some l) = binding-some t l (bound_to s.bindings l)

  leaf-some : (escaped : Bool) (t : Tree) → AreIn (of_leaf s place level escaped t) (t ∷ [])
  leaf-some escaped t = by (is_special escaped (stands s.frames t))
    where
      by : (b : Bool) → AreIn (if b then [] else of_label s place level t (stands s.frames t)) (t ∷ [])
      by true = passed no_more
      by false = label-some t (stands s.frames t)

  either-some : (b : Bool) (xs ys : List Reference) (ls : List Tree) → AreIn xs ls → AreIn ys ls → AreIn (if b then xs else ys) ls
  either-some true xs ys ls h k = h
  either-some false xs ys ls h k = k

  mutual
    pub variables-some : (escaped : Bool) (t : Tree) → AreIn (variables_in s place level escaped t) (leaves t)
    variables-some escaped (tree.atom p a) = no_more
    variables-some escaped (tree.leaf p x k) = leaf-some escaped (tree.leaf p x k)
    variables-some escaped (tree.pair p a d) =
        either-some (is_escape s place level escaped a d) (variables_behind s place level true d) (variables_in s place level escaped a ++ variables_behind s place level escaped d) (leaves a ++ leaves d)
        (some-behind (leaves a) (leaves d) (behind-some true d))
        (some-both (variables_in s place level escaped a) (variables_behind s place level escaped d) (leaves a) (leaves d) (variables-some escaped a) (behind-some escaped d))
    variables-some escaped (tree.vector p d) = elements-some escaped d

    behind-some : (escaped : Bool) (t : Tree) → AreIn (variables_behind s place level escaped t) (leaves t)
    behind-some escaped (tree.atom p a) = no_more
    behind-some escaped (tree.leaf p x k) = leaf-some escaped (tree.leaf p x k)
    behind-some escaped (tree.pair p a d) = some-both (variables_in s place level escaped a) (variables_behind s place level escaped d) (leaves a) (leaves d) (variables-some escaped a) (behind-some escaped d)
    behind-some escaped (tree.vector p d) = elements-some escaped d

    elements-some : (escaped : Bool) (t : Tree) → AreIn (element_variables s place level escaped t) (leaves t)
    elements-some escaped (tree.atom p a) = no_more
    elements-some escaped (tree.leaf p x k) = passed no_more
    elements-some escaped (tree.pair p a d) = some-both (variables_in s place level escaped a) (element_variables s place level escaped d) (leaves a) (leaves d) (variables-some escaped a) (elements-some escaped d)
    elements-some escaped (tree.vector p d) = none-of (leaves d)

  -- an ellipsis is none
  ellipsis-none : (t : Tree) → is_ellipsis s.frames t ≡ true → variables_in s place level false t ≡ []
  ellipsis-none (tree.atom p a) e = refl
  ellipsis-none (tree.leaf p x k) e = ap (λ b. if b then [] else of_label s place level (tree.leaf p x k) (stands s.frames (tree.leaf p x k))) e
  ellipsis-none (tree.pair p a d) e = absurd (true≢false (sym e))
  ellipsis-none (tree.vector p d) e = absurd (true≢false (sym e))

module _ (s : State) (place : Span) (level : ℕ) (root : Tree) where
  abbrev c : TemplateScope
  c = record { frames = s.frames; bindings = s.bindings; level = level; place = place }

  abbrev Q : List ℕ → LeafContext → Type 0
  Q x k = HasIdentifier root x k

  abbrev refs_in : Bool → Tree → List Reference
  refs_in escaped t = variables_in s place level escaped t

  abbrev refs_behind : Bool → Tree → List Reference
  refs_behind escaped t = variables_behind s place level escaped t

  abbrev refs_of_elements : Bool → Tree → List Reference
  refs_of_elements escaped t = element_variables s place level escaped t

  -- a part of the form
  abbrev In : Tree → Type 0
  In t = Identifies root t

  leaves-so : (t : Tree) → In t → LeavesHold Q t
  leaves-so (tree.atom p a) h = tt
  leaves-so (tree.leaf p x k) h = h x k (refl, refl)
  leaves-so (tree.pair p a d) h = (leaves-so a (λ x k i. h x k (inl i)), leaves-so d (λ x k i. h x k (inr i)))
  leaves-so (tree.vector p d) h = leaves-so d h

  -- what a template names, by these identifiers
  abbrev Names : List Reference → PlainTemplate → Type 0
  Names refs x = (template_namings x ≡ named refs) × ConstantsHold Q x

  abbrev MadeNames : List Reference → Made → Type 0
  MadeNames refs m = Names refs (template_of m) × Each (LeavesHold Q) (trees_in m)

  first-so : (ts : List Tree) → Each (LeavesHold Q) ts → LeavesHold Q (first ts)
  first-so [] h = tt
  first-so (t ∷ ts) h = h.0

  joined-so : (t : Tree) (fixed changed : Bool) (r : Result Tree Bare) → LeavesHold Q t → OkHolds (LeavesHold Q) r → Each (LeavesHold Q) (joined_trees t fixed changed r)
  joined-so t false changed r h k = tt
  joined-so t true false r h k = (h, tt)
  joined-so t true true (Ok u) h k = (spanned-so Q (span_of t) u k, tt)
  joined-so t true true (Err f) h k = tt

  -- a form that is fixed, where these are none, and one with variables
  either-names : (refs : List Reference) (m : Made) (x : PlainTemplate) → Each (LeavesHold Q) (trees_in m) → (is_fixed m ≡ true → template_namings x ≡ []) → (is_fixed m ≡ false → template_of m ≡ x) → Names refs x → MadeNames refs m
  either-names refs m x h none e k = by (is_fixed m) refl
    where
      by : (b : Bool) → is_fixed m ≡ b → MadeNames refs m
      by true is =
          let t = first (trees_in m) in (
            (fixed-none m is ∙ sym (none is) ∙ k.0, subst (ConstantsHold Q) (sym (fixed-template m is)) (unspanned-so Q t (first-so (trees_in m) h))),
            h,
          )
      by false is = (subst (Names refs) (sym (e is)) k, h)

  abbrev ItemNames : List Reference → MadeItem → Type 0
  ItemNames refs i = MadeNames refs i.made

  -- of items, by the identifiers that were passed
  abbrev AllNames : List Reference → List MadeItem → Type 0
  AllNames refs is = ((item_namings (items_of is) ≡ named refs) × ItemConstantsHold Q (items_of is)) × Each (LeavesHold Q) (trees is)

  no-names : AllNames [] []
  no-names = ((refl, tt), tt)

  item-namings-more : (is : List MadeItem) (i : MadeItem) → item_namings (items_of (is ++ i ∷ [])) ≡ item_namings (items_of is) ++ template_namings (template_of i.made)
  item-namings-more [] i = append-nil (template_namings (template_of i.made))
  item-namings-more (j ∷ is) i = ap (λ ns. template_namings (template_of j.made) ++ ns) (item-namings-more is i) ∙ sym (append_assoc (template_namings (template_of j.made)) (item_namings (items_of is)) (template_namings (template_of i.made)))

  constants-more : (is : List MadeItem) (i : MadeItem) → ItemConstantsHold Q (items_of is) → ConstantsHold Q (template_of i.made) → ItemConstantsHold Q (items_of (is ++ i ∷ []))
  constants-more [] i h k = (k, tt)
  constants-more (j ∷ is) i h k = (h.0, constants-more is i h.1 k)

  trees-more : (is : List MadeItem) (i : MadeItem) → Each (LeavesHold Q) (trees is) → Each (LeavesHold Q) (trees_in i.made) → Each (LeavesHold Q) (trees (is ++ i ∷ []))
  trees-more [] i h k = k
  trees-more (j ∷ is) i h k =
      let parts = subst (λ (ts : List Tree). Each (LeavesHold Q) ts) (before-trees j.made (trees is)) h in
      subst (λ (ts : List Tree). Each (LeavesHold Q) ts) (sym (before-trees j.made (trees (is ++ i ∷ []))))
      (each-append (LeavesHold Q) (trees_in j.made) (trees (is ++ i ∷ [])) (each-first (LeavesHold Q) (trees_in j.made) (trees is) parts) (trees-more is i (each-last (LeavesHold Q) (trees_in j.made) (trees is) parts) k))

  more-names : (refs more : List Reference) (is : List MadeItem) (i : MadeItem) → AllNames refs is → ItemNames more i → AllNames (refs ++ more) (is ++ i ∷ [])
  more-names refs more is i h k = (
    (item-namings-more is i ∙ (λ j. h.0.0 j ++ k.0.0 j) ∙ sym (named-joined refs more), constants-more is i h.0.1 k.0.1),
    trees-more is i h.1 k.1,
  )

  list-names : (refs more : List Reference) (is : List MadeItem) (x : PlainTemplate) → AllNames refs is → Names more x → Names (refs ++ more) (list (items_of is) x)
  list-names refs more is x h k = ((λ j. h.0.0 j ++ k.0 j) ∙ sym (named-joined refs more), (h.0.1, k.1))

  list-joins : (refs more : List Reference) (t : Tree) (is : List MadeItem) (m : Made) → In t → AllNames refs is → MadeNames more m → OkHolds (MadeNames (refs ++ more)) (list_joined place t is m)
  list-joins refs more t is m g h k = good-of (MadeNames (refs ++ more)) (list_joined place t is m) (λ y e.
      let u = list_of (trees is) (Some (first (trees_in m))) in
      either-names (refs ++ more) y (list (items_of is) (template_of m))
      (subst (λ (ts : List Tree). Each (LeavesHold Q) ts) (sym (list-trees place t is m y e)) (joined-so t (is_fixed y) (is_changed m || any_changed is) (within u) (leaves-so t g) (within-so Q u (list-so Q (trees is) (first (trees_in m)) h.1 (first-so (trees_in m) k.1)))))
      (λ f. λ j. items-none is (list-items-fixed place t is m y e f) j ++ fixed-none m (list-tail-fixed place t is m y e f) j)
      (list-template place t is m y e) (list-names refs more is (template_of m) h k.0))

  vector-joins : (refs : List Reference) (t : Tree) (is : List MadeItem) → In t → AllNames refs is → OkHolds (MadeNames refs) (vector_joined place t is)
  vector-joins refs t is g h = good-of (MadeNames refs) (vector_joined place t is) (λ y e.
      let u = vector_of (trees is) in
      either-names refs y (vector (items_of is))
      (subst (λ (ts : List Tree). Each (LeavesHold Q) ts) (sym (vector-trees place t is y e)) (joined-so t (is_fixed y) (any_changed is) (within u) (leaves-so t g) (within-so Q u (chained-so Q (trees is) nil h.1 tt))))
      (λ f. items-none is (vector-items-fixed place t is y e f))
      (vector-template place t is y e) h.0)

  unescaped-names : (refs : List Reference) (m : Made) → MadeNames refs m → MadeNames refs (unescaped m)
  unescaped-names refs m h = (subst (Names refs) (sym (unescaped-template m)) h.0, subst (λ (ts : List Tree). Each (LeavesHold Q) ts) (sym (unescaped-trees m)) h.1)

  form-names : (t : Tree) → In t → Names [] (constant_of t) × (LeavesHold Q t × Unit {0})
  form-names t h = ((refl, unspanned-so Q t (leaves-so t h)), (leaves-so t h, tt))

  abbrev IsElement : TemplateElement → Type 0
  IsElement x = (escaped : Bool) (under : ℕ) → OkHolds (MadeNames (refs_in escaped x.0)) (x.1 escaped under)

  abbrev all_refs : Bool → List TemplateElement → List Reference
  all_refs escaped [] = []
  all_refs escaped (x ∷ xs) = refs_in escaped x.0 ++ all_refs escaped xs

  -- those of the end of a list
  abbrev tail_refs : Bool → Tree → List Reference
  tail_refs escaped (tree.atom p a) = []
  tail_refs escaped (tree.leaf p x k) = of_leaf s place level escaped (tree.leaf p x k)
  tail_refs escaped (tree.pair p a d) = tail_refs escaped d
  tail_refs escaped (tree.vector p d) = refs_of_elements escaped d

  list-refs : (escaped : Bool) (t : Tree) → all_refs escaped (elements_made c t) ++ tail_refs escaped t ≡ refs_behind escaped t
  list-refs escaped (tree.atom p a) = refl
  list-refs escaped (tree.leaf p x k) = refl
  list-refs escaped (tree.pair p a d) = append_assoc (refs_in escaped a) (all_refs escaped (elements_made c d)) (tail_refs escaped d) ∙ ap (λ rs. refs_in escaped a ++ rs) (list-refs escaped d)
  list-refs escaped (tree.vector p d) = refl

  elements-refs : (escaped : Bool) (t : Tree) → all_refs escaped (elements_made c t) ≡ refs_of_elements escaped t
  elements-refs escaped (tree.atom p a) = refl
  elements-refs escaped (tree.leaf p x k) = refl
  elements-refs escaped (tree.pair p a d) = ap (λ rs. refs_in escaped a ++ rs) (elements-refs escaped d)
  elements-refs escaped (tree.vector p d) = refl

  -- so many of the next elements are ellipses
  abbrev Skips : Bool → ℕ → List TemplateElement → Type 0
  Skips escaped zero xs = Unit {0}
  Skips escaped (suc n) [] = Unit {0}
  Skips escaped (suc n) (x ∷ xs) = (refs_in escaped x.0 ≡ []) × Skips escaped n xs

  dots-skip : (xs : List TemplateElement) → Skips false (length (dots s.frames xs)) xs
  dots-skip [] = tt
  dots-skip (x ∷ xs) = by (is_ellipsis s.frames x.0) refl (dots-skip xs)
    where
      by : (b : Bool) → is_ellipsis s.frames x.0 ≡ b → Skips false (length (dots s.frames xs)) xs → Skips false (length (if b then x.0 ∷ dots s.frames xs else [])) (x ∷ xs)
      by true e h = (ellipsis-none s place level x.0 e, h)
      by false e h = tt

  behind-skip : (escaped : Bool) (xs : List TemplateElement) → Skips escaped (length (dots_behind s.frames escaped xs)) xs
  behind-skip true xs = tt
  behind-skip false xs = dots-skip xs

  -- Leaves.

  variable-names : (under : ℕ) (x : List ℕ) (t : Tree) (l : Label) (at depth : ℕ) → OkHolds (MadeNames (of_binding s place level t l (Some (binding.PatternVariable at depth)))) (variable_made c under (record { symbol = x; form = t }) (record { label = l; level = at; depth = depth }))
  variable-names under x t l at depth =
      let r : Reference = record { leaf = t; state = s; label = l; code = instance (variable l depth) place } in
      good-choice MadeNames (nat_eq at level) (r ∷ []) [] _ _ (λ same. good-if (MadeNames (r ∷ [])) (nat_lt under depth) _ _ (λ lt. tt) (λ le. ((refl, tt), tt))) (λ other. tt)

  bound-names : (under : ℕ) (x : List ℕ) (t : Tree) (l : Label) (o : Option Binding) → In t → OkHolds (MadeNames (of_binding s place level t l o)) (bound_made c under (record { symbol = x; form = t }) l o)
  bound-names under x t l None g = form-names t g
  bound-names under x t l (Some (binding.Variable v)) g = form-names t g
  bound-names under x t l (Some (binding.PatternVariable at depth)) g = variable-names under x t l at depth
  bound-names under x t l (Some (binding.Macro at expression)) g = form-names t g
  bound-names under x t l (Some (binding.Core f)) g = form-names t g
  bound-names under x t l (Some (binding.Primitive o)) g = form-names t g

  label-names : (under : ℕ) (x : List ℕ) (t : Tree) (o : Option Label) → In t → OkHolds (MadeNames (of_label s place level t o)) (label_made c under (record { symbol = x; form = t }) o)
  label-names under x t None g = form-names t g
  label-names under x t (Some l) g = bound-names under x t l (bound_to s.bindings l) g

  leaf-names : (escaped : Bool) (x : List ℕ) (t : Tree) (under : ℕ) → In t → OkHolds (MadeNames (of_leaf s place level escaped t)) (leaf_made c escaped (record { symbol = x; form = t }) under)
  leaf-names escaped x t under g =
      good-choice MadeNames (is_special escaped (stands s.frames t)) [] (of_label s place level t (stands s.frames t)) _ _ (λ e. tt) (λ e. label-names under x t (stands s.frames t) g)

  -- Items.

  fitted-names : (refs : List Reference) (es : List Tree) (m : Made) → MadeNames refs m → OkHolds (ItemNames refs) (fitted place es m)
  fitted-names refs es m h = by (slice_get es (reach m))
    where
      by : (o : Option Tree) → OkHolds (ItemNames refs) (with_ellipses place es m o)
      by None = h
      by (Some x) = tt

  item-names : (escaped : Bool) (under : ℕ) (x : TemplateElement) (es : List Tree) → IsElement x → OkHolds (ItemNames (refs_in escaped x.0)) (item_made c escaped under x es)
  item-names escaped under x es one =
      good-then (MadeNames (refs_in escaped x.0)) (ItemNames (refs_in escaped x.0)) (x.1 escaped (under + length es)) (fitted place es) (one escaped (under + length es)) (λ m h. fitted-names (refs_in escaped x.0) es m h)

  -- an element is taken with the ellipses behind it
  step-names : (refs : List Reference) (escaped : Bool) (under : ℕ) (x : TemplateElement) (xs : List TemplateElement) (is : List MadeItem) → IsElement x → AllNames refs is
      → OkHolds (λ (w : WalkedItems). AllNames (refs ++ refs_in escaped x.0) w.1 × Skips escaped w.0 xs) (step c escaped under zero x (dots_behind s.frames escaped xs) is)
  step-names refs escaped under x xs is one h =
      let es = dots_behind s.frames escaped xs in
      good-then (ItemNames (refs_in escaped x.0)) (λ (w : WalkedItems). AllNames (refs ++ refs_in escaped x.0) w.1 × Skips escaped w.0 xs) (item_made c escaped under x es) (λ i. Ok (length es, is ++ i ∷ [])) (item-names escaped under x es one)
      (λ i k. (more-names refs (refs_in escaped x.0) is i h k, behind-skip escaped xs))

  walked-names : (refs : List Reference) (escaped : Bool) (under skips : ℕ) (is : List MadeItem) (xs : List TemplateElement) → Each IsElement xs → Skips escaped skips xs → AllNames refs is → OkHolds (AllNames (refs ++ all_refs escaped xs)) (walked c escaped under skips is xs)
  walked-names refs escaped under skips is [] all k h = subst (λ (rs : List Reference). AllNames rs is) (sym (append-nil refs)) h
  walked-names refs escaped under (suc skips) is (x ∷ xs) all k h =
      subst (λ (rs : List Reference). OkHolds (AllNames (refs ++ (rs ++ all_refs escaped xs))) (walked c escaped under skips is xs)) (sym k.0) (walked-names refs escaped under skips is xs all.1 k.1 h)
  walked-names refs escaped under zero is (x ∷ xs) all k h =
      good-then (λ (w : WalkedItems). AllNames (refs ++ refs_in escaped x.0) w.1 × Skips escaped w.0 xs) (AllNames (refs ++ (refs_in escaped x.0 ++ all_refs escaped xs))) (step c escaped under zero x (dots_behind s.frames escaped xs) is) (λ w. walked c escaped under w.0 w.1 xs)
      (step-names refs escaped under x xs is all.0 h)
      (λ w j. subst (λ (rs : List Reference). OkHolds (AllNames rs) (walked c escaped under w.0 w.1 xs)) (append_assoc refs (refs_in escaped x.0) (all_refs escaped xs)) (walked-names (refs ++ refs_in escaped x.0) escaped under w.0 w.1 xs all.1 j.1 j.0))

  parts-names : (last : List Reference) (escaped : Bool) (t : Tree) (xs : List TemplateElement) (tail : Bool → ℕ → Result Made Fault) (under : ℕ) → In t → Each IsElement xs → OkHolds (MadeNames last) (tail escaped under) → OkHolds (MadeNames (all_refs escaped xs ++ last)) (list_parts c escaped (record { form = t; elements = xs; tail = tail }) under)
  parts-names last escaped t xs tail under g all end =
      good-then (AllNames (all_refs escaped xs)) (MadeNames (all_refs escaped xs ++ last)) (walked c escaped under 0 [] xs) (λ items. tail escaped under >>= list_joined place t items) (walked-names [] escaped under 0 [] xs all tt no-names)
      (λ is h. good-then (MadeNames last) (MadeNames (all_refs escaped xs ++ last)) (tail escaped under) (list_joined place t is) end (λ m k. list-joins (all_refs escaped xs) last t is m g h k))

  -- what an ellipsis escapes has these identifiers, and else the parts have them
  abbrev Escapes : List Reference → List Reference → Option TemplateElement → Type 0
  Escapes parts refs None = parts ≡ refs
  Escapes parts refs (Some y) = IsElement y × (refs_in true y.0 ≡ refs)

  escape-is : (escaped : Bool) (p : Option Span) (a d : Tree) → Each IsElement ((a, template c a) ∷ elements_made c d)
      → Escapes (all_refs escaped ((a, template c a) ∷ elements_made c d) ++ tail_refs escaped d) (refs_in escaped (tree.pair p a d)) (escape_of s.frames escaped ((a, template c a) ∷ elements_made c d) (is_nil (tail_of d)))
  escape-is true p a d all = append_assoc (refs_in true a) (all_refs true (elements_made c d)) (tail_refs true d) ∙ ap (λ rs. refs_in true a ++ rs) (list-refs true d)
  escape-is false p a (tree.atom q z) all = append_assoc (refs_in false a) [] []
  escape-is false p a (tree.leaf q x k) all = append_assoc (refs_in false a) [] (tail_refs false (tree.leaf q x k))
  escape-is false p a (tree.vector q e) all = append_assoc (refs_in false a) [] (tail_refs false (tree.vector q e))
  escape-is false p a (tree.pair q b (tree.atom r z)) all = by (is_nil_atom z)
    where
      parts : all_refs false ((a, template c a) ∷ ((b, template c b) ∷ [])) ++ [] ≡ refs_in false a ++ (refs_in false b ++ [])
      parts = append-nil (refs_in false a ++ (refs_in false b ++ []))

      chosen : (g : Bool) → Escapes (all_refs false ((a, template c a) ∷ ((b, template c b) ∷ [])) ++ []) (if g then refs_in true b ++ [] else refs_in false a ++ (refs_in false b ++ [])) (if g then Some (b, template c b) else None)
      chosen true = (all.1.0, sym (append-nil (refs_in true b)))
      chosen false = parts

      by : (n : Bool) → Escapes (all_refs false ((a, template c a) ∷ ((b, template c b) ∷ [])) ++ []) (if (if n then is_ellipsis s.frames a else false) then refs_in true b ++ [] else refs_in false a ++ (refs_in false b ++ [])) (escape_of s.frames false ((a, template c a) ∷ ((b, template c b) ∷ [])) n)
      by true = chosen (is_ellipsis s.frames a)
      by false = parts
  escape-is false p a (tree.pair q b (tree.leaf r x k)) all = append_assoc (refs_in false a) (refs_in false b ++ []) (tail_refs false (tree.leaf r x k)) ∙ ap (λ rs. refs_in false a ++ rs) (append_assoc (refs_in false b) [] (tail_refs false (tree.leaf r x k)))
  escape-is false p a (tree.pair q b (tree.vector r e)) all = append_assoc (refs_in false a) (refs_in false b ++ []) (tail_refs false (tree.vector r e)) ∙ ap (λ rs. refs_in false a ++ rs) (append_assoc (refs_in false b) [] (tail_refs false (tree.vector r e)))
  escape-is false p a (tree.pair q b (tree.pair r e f)) all =
      let d : Tree = tree.pair q b (tree.pair r e f) in append_assoc (refs_in false a) (all_refs false (elements_made c d)) (tail_refs false d) ∙ ap (λ rs. refs_in false a ++ rs) (list-refs false d)

  list-made-names : (last refs : List Reference) (escaped : Bool) (t : Tree) (xs : List TemplateElement) (tail : Bool → ℕ → Result Made Fault) (under : ℕ) (o : Option TemplateElement) → In t → Each IsElement xs → OkHolds (MadeNames last) (tail escaped under) → Escapes (all_refs escaped xs ++ last) refs o
      → OkHolds (MadeNames refs) (list_made c escaped (record { form = t; elements = xs; tail = tail }) under o)
  list-made-names last refs escaped t xs tail under None g all end esc = subst (λ (rs : List Reference). OkHolds (MadeNames rs) (list_parts c escaped (record { form = t; elements = xs; tail = tail }) under)) esc (parts-names last escaped t xs tail under g all end)
  list-made-names last refs escaped t xs tail under (Some y) g all end esc =
      good-then (MadeNames (refs_in true y.0)) (MadeNames refs) (y.1 true under) (λ m. Ok (unescaped m)) (esc.0 true under)
      (λ m h. unescaped-names refs m (subst (λ (rs : List Reference). MadeNames rs m) esc.1 h))

  vector-names : (escaped : Bool) (p : Option Span) (d : Tree) (under : ℕ) → In (tree.vector p d) → Each IsElement (elements_made c d) → OkHolds (MadeNames (refs_of_elements escaped d)) (vector_made c escaped (tree.vector p d) (elements_made c d) under)
  vector-names escaped p d under g all =
      let t : Tree = tree.vector p d in
      let xs = elements_made c d in
      subst (λ (rs : List Reference). OkHolds (MadeNames rs) (vector_made c escaped t xs under)) (elements-refs escaped d)
      (good-then (AllNames (all_refs escaped xs)) (MadeNames (all_refs escaped xs)) (walked c escaped under 0 [] xs) (vector_joined place t) (walked-names [] escaped under 0 [] xs all tt no-names) (λ is h. vector-joins (all_refs escaped xs) t is g h))

  mutual
    template-names : (t : Tree) → In t → (escaped : Bool) (under : ℕ) → OkHolds (MadeNames (refs_in escaped t)) (template c t escaped under)
    template-names (tree.atom p a) g escaped under = ((refl, tt), (tt, tt))
    template-names (tree.leaf p x k) g escaped under = leaf-names escaped x (tree.leaf p x k) under g
    template-names (tree.pair p a d) g escaped under =
        let xs : List TemplateElement = (a, template c a) ∷ elements_made c d in
        let all : Each IsElement xs = ((λ e n. template-names a (λ x k i. g x k (inl i)) e n), elements-names d (λ x k i. g x k (inr i))) in
        list-made-names (tail_refs escaped d) (refs_in escaped (tree.pair p a d)) escaped (tree.pair p a d) xs (tail_made c d) under (escape_of s.frames escaped xs (is_nil (tail_of d))) g all
        (tail-names d (λ x k i. g x k (inr i)) escaped under) (escape-is escaped p a d all)
    template-names (tree.vector p d) g escaped under = vector-names escaped p d under g (elements-names d g)

    elements-names : (t : Tree) → In t → Each IsElement (elements_made c t)
    elements-names (tree.atom p a) g = tt
    elements-names (tree.leaf p x k) g = tt
    elements-names (tree.pair p a d) g = ((λ e n. template-names a (λ x k i. g x k (inl i)) e n), elements-names d (λ x k i. g x k (inr i)))
    elements-names (tree.vector p d) g = tt

    tail-names : (t : Tree) → In t → (escaped : Bool) (under : ℕ) → OkHolds (MadeNames (tail_refs escaped t)) (tail_made c t escaped under)
    tail-names (tree.atom p a) g escaped under = ((refl, tt), (tt, tt))
    tail-names (tree.leaf p x k) g escaped under = leaf-names escaped x (tree.leaf p x k) under g
    tail-names (tree.pair p a d) g escaped under = tail-names d (λ x k i. g x k (inr i)) escaped under
    tail-names (tree.vector p d) g escaped under = vector-names escaped p d under g (elements-names d g)

  compiled-names : OkHolds (Names (refs_in false root)) (compiled c root)
  compiled-names = good-then (MadeNames (refs_in false root)) (Names (refs_in false root)) (template c root false 0) (λ m. Ok (template_of m)) (template-names root (λ x k h. h) false 0) (λ m h. h.0)

-- the template of a form, and the state stays
abbrev pub TemplateNames : Span → ℕ → Tree → State → PlainTemplate → State → Type 0
TemplateNames place level t s x u = (u ≡ s) × ((refs : List Reference) × IsTemplateOf s (form_placed place level) t x refs)

pub template-of-names : (place : Span) (level : ℕ) (t : Tree) (s : State) → Gave (TemplateNames place level t s) (patterns.template_of place level t s)
unfolding patterns.template_of
template-of-names place level t s = by (compiled (record { frames = s.frames; bindings = s.bindings; level = level; place = place }) t) (compiled-names s place level t)
  where
    outside : (o : Option Tree) → Gave (TemplateNames place level t s) (outside_fault place t o s)
    outside None = tt
    outside (Some id) = tt

    by : (r : Result PlainTemplate Fault) → OkHolds (Names s place level t (variables_in s place level false t)) r → Gave (TemplateNames place level t s) (template_in place t s r)
    by (Err f) h = tt
    by (Ok x) h =
        gave-if (TemplateNames place level t s) (has_variables s.scope x) (Ok (x, s)) (outside_fault place t (first_outside s t) s)
        (λ e. (refl, (variables_in s place level false t, record { are = refl; all = h.0; variables = variables-hold s place level false t; places = variables-some s place level false t; constants = h.1 })))
        (λ e. outside (first_outside s t))
