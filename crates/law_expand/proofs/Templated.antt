-- What the template of a form is: its pattern variables are those that are bound, with their depths, and each ellipsis has a variable of
-- depth before it.
use Rattle.std.proofs.Common.{◌≡◌, ℕ, zero, suc, ◌+◌, ◌-◌, ◌≤◌, ◌<◌, Bool, true, false, List, [], ◌∷◌, ◌++◌, length, Option, None, Some, Result, Ok, Err, refl, sym, ◌∙◌, ap, subst, arith, inl, inr, slice_get, nat_lt, if◌then◌else◌}
use Rattle.std.specs.Prelude.{◌⊎◌, max, nat_eq}
use Rattle.std.specs.Cmp.{unsigned_Decides}
use Rattle.std.proofs.lemmas.Bool.Decides.{nat_tests}
use Rattle.base_data.proofs.ElementLemmas.{each-append}
use Rattle.base_data.specs.Elements.{Each, Among}
use Rattle.base_data.specs.Gives.{◌>>=◌}
use Rattle.base_data.specs.declared.fault.Fault.{Fault}
use Rattle.base_data.specs.declared.name.Label.{Label}
use Rattle.base_data.specs.declared.span.Span.{Span}
use Rattle.stx_tree.specs.Tree as tree
use Rattle.stx_tree.specs.Tree.{Tree}
use Rattle.stx_scope.specs.Stands.{stands}
use Rattle.core_language.specs.Bindings.{bound_to}
use Rattle.core_language.specs.Template.{PlainTemplate, variable, constant, list, vector, PlainItems, none, more}
use Rattle.core_language.specs.declared.binding.Binding.{Binding}
use Rattle.core_language.specs.declared.binding.Binding.TheVariants as binding
use Rattle.law_core.specs.Scope.{template_labels, item_labels}
use Rattle.law_core.specs.Templates.{Depths, HasDepth, ItemHasDepth, Suits, ItemsSuit}
use Rattle.law_core.proofs.LabelLemmas.{label-there}
use Rattle.core_shapes.specs.Lists.{is_nil, tail_of}
use Rattle.expand_standing.specs.Patterns.{has_variables, has_item_variables}
use Rattle.eval_template.specs.Compile.{TemplateScope, variable_made, bound_made, label_made, is_special, leaf_made, TemplateElement, dots_behind, reach, with_ellipses, fitted, item_made, WalkedItems, step, walked, constant_of, template_of, items_of, reaches, is_fixed, rebuilt, placed, fixed_list, list_joined, fixed_vector, vector_joined, escape_of, unescaped, list_parts, list_made, vector_made, template, elements_made, tail_made, compiled}
use Rattle.eval_pattern.specs.Keywords.{is_ellipsis}
use Rattle.law_expand.proofs.Compiled.{Given}

-- The types of what is made of a form and of an item, which their crate keeps to itself. Of the first only what is said of it is
-- known: whether it is fixed, its template, and how far it reaches.

abbrev Member : {A B : Type 0} → (List A → B) → Type 0
Member {A} {B} f = A

abbrev Made : Type 0
Made = Given reach

abbrev MadeItem : Type 0
MadeItem = Member items_of

abbrev is_constant : PlainTemplate → Bool
is_constant (variable l d) = false
is_constant (constant t) = true
is_constant (list is t) = false
is_constant (vector is) = false

fixed-constant : (m : Made) → is_fixed m ≡ true → is_constant (template_of m) ≡ true
fixed-constant m h = grind (arith, template_of, constant_of, is_fixed, is_constant)

fixed-reach : (m : Made) → is_fixed m ≡ true → reach m ≡ 0
fixed-reach m h = grind (arith, is_fixed, reach)

unescaped-fixed : (m : Made) → is_fixed (unescaped m) ≡ is_fixed m
unescaped-fixed m = grind (arith, is_fixed, unescaped)

unescaped-template : (m : Made) → is_fixed m ≡ false → template_of (unescaped m) ≡ template_of m
unescaped-template m h = grind (arith, template_of, unescaped, is_fixed)

unescaped-reach : (m : Made) → reach (unescaped m) ≡ reach m
unescaped-reach m = grind (arith, reach, unescaped)

pub list-template : (place : Span) (t : Tree) (is : List MadeItem) (m y : Made) → list_joined place t is m ≡ Ok y → is_fixed y ≡ false → template_of y ≡ list (items_of is) (template_of m)
list-template place t is m y e h = grind (arith, list_joined, fixed_list, rebuilt, placed, ◌>>=◌, template_of, constant_of, is_fixed)

list-reach : (place : Span) (t : Tree) (is : List MadeItem) (m y : Made) → list_joined place t is m ≡ Ok y → is_fixed y ≡ false → reach y ≡ max (reaches is) (reach m)
list-reach place t is m y e h = grind (arith, list_joined, fixed_list, rebuilt, placed, ◌>>=◌, reach, is_fixed)

pub vector-template : (place : Span) (t : Tree) (is : List MadeItem) (y : Made) → vector_joined place t is ≡ Ok y → is_fixed y ≡ false → template_of y ≡ vector (items_of is)
vector-template place t is y e h = grind (arith, vector_joined, fixed_vector, rebuilt, placed, ◌>>=◌, template_of, is_fixed)

vector-reach : (place : Span) (t : Tree) (is : List MadeItem) (y : Made) → vector_joined place t is ≡ Ok y → is_fixed y ≡ false → reach y ≡ reaches is
vector-reach place t is y e h = grind (arith, vector_joined, fixed_vector, rebuilt, placed, ◌>>=◌, reach, is_fixed)

-- where there is a value, this holds of it
abbrev pub IfGood : {A : Type 0} → (A → Type 0) → Result A Fault → Type 0
IfGood P (Ok x) = P x
IfGood P (Err e) = Unit {0}

good-then : {A B : Type 0} (P : A → Type 0) (Q : B → Type 0) (r : Result A Fault) (k : A → Result B Fault) → IfGood P r → ((a : A) → P a → IfGood Q (k a)) → IfGood Q (r >>= k)
good-then P Q (Ok x) k h next = next x h
good-then P Q (Err e) k h next = tt

good-if : {A : Type 0} (P : A → Type 0) (b : Bool) (r q : Result A Fault) → (b ≡ true → IfGood P r) → (b ≡ false → IfGood P q) → IfGood P (if b then r else q)
good-if P true r q h k = h refl
good-if P false r q h k = k refl

-- of a value that is there
good-of : {A : Type 0} (P : A → Type 0) (r : Result A Fault) → ((a : A) → r ≡ Ok a → P a) → IfGood P r
good-of P (Ok x) h = h x refl
good-of P (Err e) h = tt

-- Each variable is bound so, under at least as many ellipses as its depth, and each ellipsis has a variable of depth before it.
module _ (Is : Label → ℕ → Type 0) where
  abbrev mutual
    pub TemplateFits : ℕ → PlainTemplate → Type 0
    TemplateFits n (variable l d) = Is l d × (d ≤ n)
    TemplateFits n (constant t) = Unit {0}
    TemplateFits n (list is t) = ItemsFit n is × TemplateFits n t
    TemplateFits n (vector is) = ItemsFit n is

    pub ItemsFit : ℕ → PlainItems → Type 0
    ItemsFit n none = Unit {0}
    ItemsFit n (more t e is) = ((k : ℕ) → k < e → HasDepth (suc k) t) × (TemplateFits (n + e) t × ItemsFit n is)

  -- so many ellipses have a variable of depth before them
  abbrev Reaches : ℕ → PlainTemplate → Type 0
  Reaches r t = (k : ℕ) → 1 ≤ k → k ≤ r → HasDepth k t

  abbrev MadeFits : ℕ → Made → Type 0
  MadeFits n m = TemplateFits n (template_of m) × Reaches (reach m) (template_of m)

  constant-fits : (n : ℕ) (t : PlainTemplate) → is_constant t ≡ true → TemplateFits n t
  constant-fits n (variable l d) e = absurd (cc)
  constant-fits n (constant t) e = tt
  constant-fits n (list is t) e = absurd (cc)
  constant-fits n (vector is) e = absurd (cc)

  -- what is fixed has no variables and reaches nothing
  none-reached : (t : PlainTemplate) (r : ℕ) → r ≡ 0 → Reaches r t
  none-reached t r e k one le = absurd (omega (arith, e, one, le))

  form-fits : (k : ℕ) → 1 ≤ k → k ≤ 0 → ⊥
  form-fits k one le = omega (arith, one, le)

  fixed-fits : (n : ℕ) (m : Made) → is_fixed m ≡ true → MadeFits n m
  fixed-fits n m e = (constant-fits n (template_of m) (fixed-constant m e), none-reached (template_of m) (reach m) (fixed-reach m e))

  varied-fits : (n r : ℕ) (t : PlainTemplate) (m : Made) → template_of m ≡ t → reach m ≡ r → TemplateFits n t → Reaches r t → MadeFits n m
  varied-fits n r t m e f h k = (subst (TemplateFits n) (sym e) h, (λ j one le. subst (HasDepth j) (sym e) (k j one (omega (arith, le, f)))))

  -- fixed, or with this template and reach
  either-fits : (n r : ℕ) (t : PlainTemplate) (m : Made) → (is_fixed m ≡ false → template_of m ≡ t) → (is_fixed m ≡ false → reach m ≡ r) → TemplateFits n t → Reaches r t → MadeFits n m
  either-fits n r t m e f h k = by (is_fixed m) refl
    where
      by : (b : Bool) → is_fixed m ≡ b → MadeFits n m
      by true is = fixed-fits n m is
      by false is = varied-fits n r t m (e is) (f is) h k

  record ItemFits (n : ℕ) (i : MadeItem) : Type 0 where
    pub made : MadeFits (n + i.ellipses) i.made
    pub reached : i.ellipses ≤ reach i.made

  -- Items.

  made-depth : (n e : ℕ) (m : Made) → MadeFits n m → e ≤ reach m → (k : ℕ) → k < e → HasDepth (suc k) (template_of m)
  made-depth n e m h le k lt = h.1 (suc k) (omega arith) (omega (arith, le, lt))

  items-fit : (n : ℕ) (is : List MadeItem) → Each (ItemFits n) is → ItemsFit n (items_of is)
  items-fit n [] h = tt
  items-fit n (i ∷ is) h = (made-depth (n + i.ellipses) i.ellipses i.made h.0.made h.0.reached, (h.0.made.0, items-fit n is h.1))

  -- by an item, or by one after it
  item-depth : (n e : ℕ) (m : Made) → MadeFits n m → (k : ℕ) → 1 ≤ k → k ≤ reach m - e → HasDepth (k + e) (template_of m)
  item-depth n e m h k one le = h.1 (k + e) (omega (arith, one)) (omega (arith, one, le))

  max-parts : (a b k : ℕ) → k ≤ max a b → (k ≤ a) ⊎ (k ≤ b)
  max-parts a b k le = by (nat_lt a k) refl
    where
      by : (t : Bool) → nat_lt a k ≡ t → (k ≤ a) ⊎ (k ≤ b)
      by true e = inr (let lt : a < k = grind (arith, nat_tests) in omega (arith, lt, le))
      by false e = inl (grind (arith, nat_tests))

  items-reach : (n : ℕ) (is : List MadeItem) → Each (ItemFits n) is → (k : ℕ) → 1 ≤ k → k ≤ reaches is → ItemHasDepth k (items_of is)
  items-reach n [] h k one le = absurd (omega (arith, one, le))
  items-reach n (i ∷ is) h k one le = by (max-parts (reach i.made - i.ellipses) (reaches is) k le) (λ x. items-reach n is h.1 k one x)
    where
      by : (k ≤ reach i.made - i.ellipses) ⊎ (k ≤ reaches is) → (k ≤ reaches is → ItemHasDepth k (items_of is)) → ItemHasDepth k (items_of (i ∷ is))
      by (inl x) rest = inl (item-depth (n + i.ellipses) i.ellipses i.made h.0.made k one x)
      by (inr x) rest = inr (rest x)

  -- Lists and vectors.

  list-joins : (n : ℕ) (place : Span) (t : Tree) (is : List MadeItem) (tail : Made) → Each (ItemFits n) is → MadeFits n tail → IfGood (MadeFits n) (list_joined place t is tail)
  list-joins n place t is tail h k =
      good-of (MadeFits n) (list_joined place t is tail)
      (λ y e. either-fits n (max (reaches is) (reach tail)) (list (items_of is) (template_of tail)) y (list-template place t is tail y e) (list-reach place t is tail y e) (items-fit n is h, k.0) depth)
    where
      depth : (j : ℕ) → 1 ≤ j → j ≤ max (reaches is) (reach tail) → ItemHasDepth j (items_of is) ⊎ HasDepth j (template_of tail)
      depth j one le = by (max-parts (reaches is) (reach tail) j le)
        where
          by : (j ≤ reaches is) ⊎ (j ≤ reach tail) → ItemHasDepth j (items_of is) ⊎ HasDepth j (template_of tail)
          by (inl x) = inl (items-reach n is h j one x)
          by (inr x) = inr (k.1 j one x)

  vector-joins : (n : ℕ) (place : Span) (t : Tree) (is : List MadeItem) → Each (ItemFits n) is → IfGood (MadeFits n) (vector_joined place t is)
  vector-joins n place t is h =
      good-of (MadeFits n) (vector_joined place t is)
      (λ y e. either-fits n (reaches is) (vector (items_of is)) y (vector-template place t is y e) (vector-reach place t is y e) (items-fit n is h) (λ j one le. items-reach n is h j one le))

  unescaped-fits : (n : ℕ) (m : Made) → MadeFits n m → MadeFits n (unescaped m)
  unescaped-fits n m h = either-fits n (reach m) (template_of m) (unescaped m) (λ e. unescaped-template m (sym (unescaped-fixed m) ∙ e)) (λ e. unescaped-reach m) h.0 h.1

  -- Forms.

  abbrev IsElement : TemplateElement → Type 0
  IsElement x = (escaped : Bool) (under : ℕ) → IfGood (MadeFits under) (x.1 escaped under)

  module _ (c : TemplateScope) (bound : (l : Label) (depth : ℕ) → bound_to c.bindings l ≡ Some (binding.PatternVariable c.level depth) → Is l depth) where
    variable-fits : (under : ℕ) (x : List ℕ) (t : Tree) (l : Label) (level depth : ℕ) → bound_to c.bindings l ≡ Some (binding.PatternVariable level depth) → IfGood (MadeFits under) (variable_made c under (record { symbol = x; form = t }) (record { label = l; level = level; depth = depth }))
    variable-fits under x t l level depth e =
        good-if (MadeFits under) (nat_eq level c.level) _ _
        (λ at. good-if (MadeFits under) (nat_lt under depth) _ _ (λ lt. tt)
        (λ le. ((bound l depth (e ∙ ap (λ n. Some (binding.PatternVariable n depth)) (same-level level c.level at)), not-less under depth le), (λ k one h. h))))
        (λ other. tt)
      where
        same-level : (m n : ℕ) → nat_eq m n ≡ true → m ≡ n
        same-level m n h = (unsigned_Decides m n).0 h

        not-less : (m n : ℕ) → nat_lt m n ≡ false → n ≤ m
        not-less m n h = grind (arith, nat_tests)

    bound-fits : (under : ℕ) (x : List ℕ) (t : Tree) (l : Label) (o : Option Binding) → bound_to c.bindings l ≡ o → IfGood (MadeFits under) (bound_made c under (record { symbol = x; form = t }) l o)
    bound-fits under x t l None e = (tt, form-fits)
    bound-fits under x t l (Some (binding.Variable v)) e = (tt, form-fits)
    bound-fits under x t l (Some (binding.PatternVariable level depth)) e = variable-fits under x t l level depth e
    bound-fits under x t l (Some (binding.Macro level expression)) e = (tt, form-fits)
    bound-fits under x t l (Some (binding.Core f)) e = (tt, form-fits)
    bound-fits under x t l (Some (binding.Primitive o)) e = (tt, form-fits)

    label-fits : (under : ℕ) (x : List ℕ) (t : Tree) (o : Option Label) → IfGood (MadeFits under) (label_made c under (record { symbol = x; form = t }) o)
    label-fits under x t None = (tt, form-fits)
    label-fits under x t (Some l) = bound-fits under x t l (bound_to c.bindings l) refl

    leaf-fits : (escaped : Bool) (x : List ℕ) (t : Tree) (under : ℕ) → IfGood (MadeFits under) (leaf_made c escaped (record { symbol = x; form = t }) under)
    leaf-fits escaped x t under = good-if (MadeFits under) (is_special escaped (stands c.frames t)) _ _ (λ e. tt) (λ e. label-fits under x t (stands c.frames t))

    -- the ellipses behind an item are no more than it reaches
    none-left : (es : List Tree) (n : ℕ) → slice_get es n ≡ None → length es ≤ n
    none-left [] n h = omega arith
    none-left (e ∷ es) zero h = absurd (cc)
    none-left (e ∷ es) (suc n) h = let le = none-left es n h in omega (arith, le)

    fitted-fits : (under : ℕ) (place : Span) (es : List Tree) (m : Made) → MadeFits (under + length es) m → IfGood (ItemFits under) (fitted place es m)
    fitted-fits under place es m h = by (slice_get es (reach m)) refl
      where
        by : (o : Option Tree) → slice_get es (reach m) ≡ o → IfGood (ItemFits under) (with_ellipses place es m o)
        by None e = record { made = h; reached = none-left es (reach m) e }
        by (Some x) e = tt

    item-fits : (escaped : Bool) (under : ℕ) (x : TemplateElement) (es : List Tree) → IsElement x → IfGood (ItemFits under) (item_made c escaped under x es)
    item-fits escaped under x es one = good-then (MadeFits (under + length es)) (ItemFits under) (x.1 escaped (under + length es)) (fitted c.place es) (one escaped (under + length es)) (λ m h. fitted-fits under c.place es m h)

    abbrev AllFit : ℕ → List MadeItem → Type 0
    AllFit under is = Each (ItemFits under) is

    step-fits : (escaped : Bool) (under skips : ℕ) (x : TemplateElement) (es : List Tree) (is : List MadeItem) → IsElement x → AllFit under is → IfGood (λ (w : WalkedItems). AllFit under w.1) (step c escaped under skips x es is)
    step-fits escaped under (suc skips) x es is one h = h
    step-fits escaped under zero x es is one h = good-then (ItemFits under) (λ (w : WalkedItems). AllFit under w.1) (item_made c escaped under x es) (λ i. Ok (length es, is ++ i ∷ [])) (item-fits escaped under x es one) (λ i k. each-append (ItemFits under) is (i ∷ []) h (k, tt))

    walked-fits : (escaped : Bool) (under skips : ℕ) (is : List MadeItem) (xs : List TemplateElement) → Each IsElement xs → AllFit under is → IfGood (AllFit under) (walked c escaped under skips is xs)
    walked-fits escaped under skips is [] all h = h
    walked-fits escaped under skips is (x ∷ xs) all h =
        good-then (λ (w : WalkedItems). AllFit under w.1) (AllFit under) (step c escaped under skips x (dots_behind c.frames escaped xs) is) (λ w. walked c escaped under w.0 w.1 xs)
        (step-fits escaped under skips x (dots_behind c.frames escaped xs) is all.0 h) (λ w k. walked-fits escaped under w.0 w.1 xs all.1 k)

    parts-fit : (escaped : Bool) (t : Tree) (xs : List TemplateElement) (tail : Bool → ℕ → Result Made Fault) (under : ℕ) → Each IsElement xs → ((e : Bool) (n : ℕ) → IfGood (MadeFits n) (tail e n)) → IfGood (MadeFits under) (list_parts c escaped (record { form = t; elements = xs; tail = tail }) under)
    parts-fit escaped t xs tail under all last =
        good-then (AllFit under) (MadeFits under) (walked c escaped under 0 [] xs) (λ items. tail escaped under >>= list_joined c.place t items) (walked-fits escaped under 0 [] xs all tt)
        (λ is h. good-then (MadeFits under) (MadeFits under) (tail escaped under) (list_joined c.place t is) (last escaped under) (λ m k. list-joins under c.place t is m h k))

    abbrev IsEscape : Option TemplateElement → Type 0
    IsEscape None = Unit {0}
    IsEscape (Some y) = IsElement y

    escape-is : (escaped : Bool) (xs : List TemplateElement) (ends : Bool) → Each IsElement xs → IsEscape (escape_of c.frames escaped xs ends)
    escape-is false (x ∷ (y ∷ [])) true all = by (is_ellipsis c.frames x.0)
      where
        by : (b : Bool) → IsEscape (if b then Some y else None)
        by true = all.1.0
        by false = tt
    escape-is false (x ∷ (y ∷ [])) false all = tt
    escape-is false [] ends all = tt
    escape-is false (x ∷ []) ends all = tt
    escape-is false (x ∷ (y ∷ (z ∷ xs))) ends all = tt
    escape-is true xs ends all = tt

    list-fits : (escaped : Bool) (t : Tree) (xs : List TemplateElement) (tail : Bool → ℕ → Result Made Fault) (under : ℕ) (o : Option TemplateElement) → Each IsElement xs → ((e : Bool) (n : ℕ) → IfGood (MadeFits n) (tail e n)) → IsEscape o
        → IfGood (MadeFits under) (list_made c escaped (record { form = t; elements = xs; tail = tail }) under o)
    list-fits escaped t xs tail under None all last esc = parts-fit escaped t xs tail under all last
    list-fits escaped t xs tail under (Some y) all last esc = good-then (MadeFits under) (MadeFits under) (y.1 true under) (λ m. Ok (unescaped m)) (esc true under) (λ m h. unescaped-fits under m h)

    vector-fits : (escaped : Bool) (t : Tree) (xs : List TemplateElement) (under : ℕ) → Each IsElement xs → IfGood (MadeFits under) (vector_made c escaped t xs under)
    vector-fits escaped t xs under all = good-then (AllFit under) (MadeFits under) (walked c escaped under 0 [] xs) (vector_joined c.place t) (walked-fits escaped under 0 [] xs all tt) (λ is h. vector-joins under c.place t is h)

    mutual
      template-fits : (t : Tree) (escaped : Bool) (under : ℕ) → IfGood (MadeFits under) (template c t escaped under)
      template-fits (tree.atom s a) escaped under = (tt, form-fits)
      template-fits (tree.leaf s x k) escaped under = leaf-fits escaped x (tree.leaf s x k) under
      template-fits (tree.pair s a d) escaped under =
          list-fits escaped (tree.pair s a d) ((a, template c a) ∷ elements_made c d) (tail_made c d) under (escape_of c.frames escaped ((a, template c a) ∷ elements_made c d) (is_nil (tail_of d)))
          ((λ e n. template-fits a e n), elements-fit d) (λ e n. tail-fits d e n) (escape-is escaped ((a, template c a) ∷ elements_made c d) (is_nil (tail_of d)) ((λ e n. template-fits a e n), elements-fit d))
      template-fits (tree.vector s d) escaped under = vector-fits escaped (tree.vector s d) (elements_made c d) under (elements-fit d)

      elements-fit : (t : Tree) → Each IsElement (elements_made c t)
      elements-fit (tree.atom s a) = tt
      elements-fit (tree.leaf s x k) = tt
      elements-fit (tree.pair s a d) = ((λ e n. template-fits a e n), elements-fit d)
      elements-fit (tree.vector s d) = tt

      tail-fits : (t : Tree) (escaped : Bool) (under : ℕ) → IfGood (MadeFits under) (tail_made c t escaped under)
      tail-fits (tree.atom s a) escaped under = (tt, form-fits)
      tail-fits (tree.leaf s x k) escaped under = leaf-fits escaped x (tree.leaf s x k) under
      tail-fits (tree.pair s a d) escaped under = tail-fits d escaped under
      tail-fits (tree.vector s d) escaped under = vector-fits escaped (tree.vector s d) (elements_made c d) under (elements-fit d)

    pub compiled-fits : (t : Tree) → IfGood (TemplateFits 0) (compiled c t)
    compiled-fits t = good-then (MadeFits 0) (TemplateFits 0) (template c t false 0) (λ m. Ok (template_of m)) (template-fits t false 0) (λ m h. h.0)

-- Where what is bound so and in scope is among some pattern variables, the template suits them, and mentions only labels in scope.
module _ (Is : Label → ℕ → Type 0) (scope : List Label) (vs : Depths) (there : (l : Label) (d : ℕ) → Among scope l → Is l d → Among vs (l, d)) where
  both : (a b : Bool) → (if a then b else false) ≡ true → (a ≡ true) × (b ≡ true)
  both true b h = (refl, h)
  both false b h = absurd (cc)

  mutual
    pub fits-suit : (n : ℕ) (t : PlainTemplate) → has_variables scope t ≡ true → TemplateFits Is n t → Suits vs n t × Each (Among scope) (template_labels t)
    fits-suit n (variable l d) e h = ((there l d (label-there scope l e) h.0, h.1), (label-there scope l e, tt))
    fits-suit n (constant t) e h = (tt, tt)
    fits-suit n (list is t) e h =
        let b = both (has_item_variables scope is) (has_variables scope t) e in
        let x = items-suit n is b.0 h.0 in
        let y = fits-suit n t b.1 h.1 in
        ((x.0, y.0), each-append (Among scope) (item_labels is) (template_labels t) x.1 y.1)
    fits-suit n (vector is) e h = items-suit n is e h

    items-suit : (n : ℕ) (is : PlainItems) → has_item_variables scope is ≡ true → ItemsFit Is n is → ItemsSuit vs n is × Each (Among scope) (item_labels is)
    items-suit n none e h = (tt, tt)
    items-suit n (more t e is) q h =
        let b = both (has_variables scope t) (has_item_variables scope is) q in
        let x = fits-suit (n + e) t b.0 h.1.0 in
        let y = items-suit n is b.1 h.1.1 in
        ((h.0, (x.0, y.0)), each-append (Among scope) (template_labels t) (item_labels is) x.1 y.1)
