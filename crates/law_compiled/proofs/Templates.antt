-- What is compiled is a template by the cases of the report.
use Rattle.std.proofs.Common.{◌≡◌, ℕ, zero, suc, ◌+◌, ◌-◌, ◌≤◌, ◌<◌, Bool, true, false, List, [], ◌∷◌, ◌++◌, length, map, Option, None, Some, Result, Ok, Err, refl, sym, ◌∙◌, ap, subst, arith, inl, inr, slice_get, nat_lt, append-nil, append_assoc, if◌then◌else◌}
use Rattle.std.specs.Prelude.{◌⊎◌, max, nat_eq}
use Rattle.std.specs.Cmp.{unsigned_Decides}
use Rattle.std.proofs.Math.Nat.{le-max_left, le-max_right}
use Rattle.std.proofs.lemmas.Bool.Decides.{nat_tests}
use Rattle.base_data.specs.Elements.{Each}
use Rattle.base_data.specs.Gives.{◌>>=◌}
use Rattle.base_data.specs.declared.atom.Atom.{Atom}
use Rattle.base_data.specs.declared.fault.Fault.{Fault}
use Rattle.base_data.specs.declared.fault.FaultKind.TheVariants as kind
use Rattle.base_data.specs.declared.name.Label.{Label}
use Rattle.base_data.specs.declared.span.Span.{Span}
use Rattle.stx_tree.specs.Context.{LeafContext}
use Rattle.stx_tree.specs.Tree.{Tree, atom, leaf, pair, vector, nil, chain, unspanned}
use Rattle.stx_scope.specs.Stands.{stands}
use Rattle.core_language.specs.Bindings.{bound_to}
use Rattle.core_language.specs.Template as template_of_core
use Rattle.core_language.specs.Template.{PlainTemplate, PlainItems}
use Rattle.core_language.specs.declared.binding.Binding.{Binding}
use Rattle.core_language.specs.declared.binding.Binding.TheVariants as binding
use Rattle.core_language.specs.declared.core_form.CoreForm.TheVariants as form
use Rattle.law_core.specs.Templates.{HasDepth, ItemHasDepth}
use Rattle.core_shapes.specs.At.{fault_at}
use Rattle.core_shapes.specs.Lists.{is_nil, elements, tail_of}
use Rattle.law_shapes.specs.Grammar.{IsId, IsList}
use Rattle.law_shapes.specs.Grammar as g
use Rattle.law_shapes.specs.Records.{IsKeywordIdentifier}
use Rattle.law_shapes.proofs.Sound.{proper, some-is}
use Rattle.law_shapes.proofs.Complete.{list-elements}
use Rattle.eval_pattern.specs.Keywords.{is_ellipsis}
use Rattle.eval_template.specs.Compile.{TemplateScope, bad, variable_made, bound_made, label_made, is_special, TemplateElement, dots, dots_behind, reach, with_ellipses, fitted, item_made, walked, template_of, items_of, reaches, is_fixed, all_fixed, is_changed, any_changed, trees, list_joined, vector_joined, escape_of, unescaped, list_parts, list_made, vector_made, template, tail_made, with_template}
use Rattle.eval_template.proofs.Levels.{elements_are, tail_is}
use Rattle.law_patterns.specs.Patterns.{IsChain, IsPartOfForm, IsIn}
use Rattle.law_patterns.specs.Patterns as p
use Rattle.law_compiled.specs.Templates.{IsBoundAt, IsOther, IsFree, AreFree, AreDotted, IsRepeated, before, constants, list_by, vector_by, IsTemplate, AreSubtemplates, IsBadPart, IsBadTemplate, HoldsLists, IsMade, OthersAreBadTemplates}
use Rattle.law_compiled.specs.Templates as r
use Rattle.law_patterns.proofs.Words.{form-is, ellipsis-is}
use Rattle.law_patterns.proofs.Patterns.{chain-of, chain-elements, chain-tail, element-part, tail-part}
use Rattle.law_compiled.proofs.Joining.{Made, MadeItem, tree_in, is_constant, fixed-template, fixed-before, fixed-reach, unescaped-fixed, unescaped-changed, unescaped-template, unescaped-reach, Tells, then-tells, tells-if, Part, Parts, max-parts, list-joins, vector-joins}

-- Forms without spans.

pub unspanned-chain : {xs : List Tree} {e t : Tree} → IsChain xs e t → unspanned t ≡ chain (map unspanned xs) (unspanned e)
unspanned-chain (p.chain_ends h) = refl
unspanned-chain (p.chain_next {x = x} h) = ap (pair None (unspanned x)) (unspanned-chain h)

pub unspanned-list : {xs : List Tree} {t : Tree} → IsList xs t → unspanned t ≡ chain (map unspanned xs) nil
unspanned-list g.end = refl
unspanned-list (g.next {x = x} h) = ap (pair None (unspanned x)) (unspanned-list h)

chain-list : {xs : List Tree} {e t : Tree} → IsChain xs e t → is_nil e ≡ true → IsList xs t
chain-list {xs} {e} {t} h n = proper t xs (ap (λ b. if b then Some (elements t) else None) (ap is_nil (chain-tail h) ∙ n) ∙ ap Some (chain-elements h))

module _ (c : TemplateScope) where
  -- What is told of a form.

  pub record Gave (escaped : Bool) (under : ℕ) (t : Tree) (m : Made) : Type 0 where
    pub is : IsTemplate c escaped under t (template_of m)
    pub part : Part t (template_of m) m

  abbrev pub Told : Tree → Type 0
  Told t = (escaped : Bool) (under : ℕ) → Tells (Gave escaped under t) (IsBadTemplate c t) (template c t escaped under)

  bad-at : (t : Tree) (f : Fault) → IsBadPart c t f → IsBadTemplate c t f
  bad-at t f h = record { at = t; part = p.itself; is = h }

  -- Identifiers.

  pub is-free : (escaped : Bool) (t : Tree) → is_special escaped (stands c.frames t) ≡ false → IsFree c.frames escaped t
  is-free true t h = tt
  is-free false t h = λ w. let k = sym h ∙ ellipsis-is c.frames t w in absurd (cc)

  is-dot : (escaped : Bool) (t : Tree) → is_special escaped (stands c.frames t) ≡ true → IsKeywordIdentifier c.frames form.Ellipsis t
  is-dot true t h = absurd (cc)
  is-dot false t h = form-is c.frames form.Ellipsis t h

  -- no pattern variable
  abbrev pub IsNone : Option Binding → Type 0
  IsNone None = Unit {0}
  IsNone (Some (binding.Variable v)) = Unit {0}
  IsNone (Some (binding.PatternVariable level depth)) = ⊥
  IsNone (Some (binding.Macro level e)) = Unit {0}
  IsNone (Some (binding.Core f)) = Unit {0}
  IsNone (Some (binding.Primitive o)) = Unit {0}

  module _ (t : Tree) (id : IsId t) (escaped : Bool) (under : ℕ) (free : IsFree c.frames escaped t) where
    unbound : (l : Label) (o : Option Binding) → stands c.frames t ≡ Some l → bound_to c.bindings l ≡ o → IsNone o → IsOther c t
    unbound l o e k n = record {
      is_id = id;
      other = λ m level depth b.
          let same : l ≡ m = some-is l m (sym e ∙ b.label) in
          subst IsNone (sym k ∙ ap (bound_to c.bindings) same ∙ b.bound) n;
    }

    stands-for-nothing : stands c.frames t ≡ None → IsOther c t
    stands-for-nothing e = record { is_id = id; other = λ m level depth b. let f : None ≡ Some m = sym e ∙ b.label in absurd (cc) }

    itself-gave : IsOther c t → (m : Made) → is_fixed m ≡ true → tree_in m ≡ t → Gave escaped under t m
    itself-gave o m f e = record {
      is = subst (IsTemplate c escaped under t) (sym (fixed-template m f ∙ ap (λ u. template_of_core.constant (unspanned u)) e)) (r.an_identifier free o);
      part = record {
        template = refl;
        kept = λ h k. e;
        varied = λ h. let a = sym f ∙ h in absurd (cc);
        reached = λ k one le. absurd (let n = fixed-reach m f in omega (arith, one, le, n));
        deep = λ k one h. absurd (subst (HasDepth k) (fixed-template m f) h);
      };
    }

    not-less : (m n : ℕ) → nat_lt m n ≡ false → n ≤ m
    not-less m n h = grind (arith, nat_tests)

    some-less : (m n : ℕ) → nat_lt m n ≡ true → 1 ≤ n
    some-less m n h = let lt : m < n = grind (arith, nat_tests) in omega (arith, lt)

    abbrev Leaves : Result Made Fault → Type 0
    Leaves x = Tells (Gave escaped under t) (IsBadTemplate c t) x

    module _ (x : List ℕ) (distant : (l : Label) (level depth : ℕ) → IsBoundAt c t l level depth → (level ≡ c.level → ⊥) → IsBadPart c t (fault_at kind.OutOfContext t c.place (x ∷ []))) where
      variable-told : (l : Label) (level depth : ℕ) → IsBoundAt c t l level depth → Leaves (variable_made c under (record { symbol = x; form = t }) (record { label = l; level = level; depth = depth }))
      variable-told l level depth b =
          tells-if (Gave escaped under t) (IsBadTemplate c t) (nat_eq level c.level) _ _
          (λ at. let same = (unsigned_Decides level c.level).0 at in
          let here = subst (λ n. IsBoundAt c t l n depth) same b in
          tells-if (Gave escaped under t) (IsBadTemplate c t) (nat_lt under depth) _ _
          (λ lt. bad-at t (bad c.place t) (r.a_shallow_variable here (some-less under depth lt)))
          (λ le. record {
            is = r.a_variable id free here (not-less under depth le);
            part = record { template = refl; kept = λ h k. absurd (cc); varied = λ h. refl; reached = λ k one h. h; deep = λ k one h. h };
          }))
          (λ other. bad-at t (fault_at kind.OutOfContext t c.place (x ∷ [])) (distant l level depth b (λ e. let a = sym other ∙ (unsigned_Decides level c.level).1 e in absurd (cc))))

      bound-told : (l : Label) (o : Option Binding) → stands c.frames t ≡ Some l → bound_to c.bindings l ≡ o → Leaves (bound_made c under (record { symbol = x; form = t }) l o)
      bound-told l None e k = itself-gave (unbound l None e k tt) _ refl refl
      bound-told l (Some (binding.Variable v)) e k = itself-gave (unbound l (Some (binding.Variable v)) e k tt) _ refl refl
      bound-told l (Some (binding.PatternVariable level depth)) e k = variable-told l level depth (record { label = e; bound = k })
      bound-told l (Some (binding.Macro level expression)) e k = itself-gave (unbound l (Some (binding.Macro level expression)) e k tt) _ refl refl
      bound-told l (Some (binding.Core f)) e k = itself-gave (unbound l (Some (binding.Core f)) e k tt) _ refl refl
      bound-told l (Some (binding.Primitive q)) e k = itself-gave (unbound l (Some (binding.Primitive q)) e k tt) _ refl refl

      label-told : (o : Option Label) → stands c.frames t ≡ o → Leaves (label_made c under (record { symbol = x; form = t }) o)
      label-told None e = itself-gave (stands-for-nothing e) _ refl refl
      label-told (Some l) e = bound-told l (bound_to c.bindings l) e refl

  leaf-told : (s : Option Span) (x : List ℕ) (k : LeafContext) → Told (leaf s x k)
  leaf-told s x k escaped under = let t = leaf s x k in
      tells-if (Gave escaped under t) (IsBadTemplate c t) (is_special escaped (stands c.frames t)) _ _
      (λ h. bad-at t (bad c.place t) (r.a_bad_ellipsis (is-dot escaped t h)))
      (λ h. label-told t g.id escaped under (is-free escaped t h) x (λ l level depth b o. r.a_distant_variable b o) (stands c.frames t) refl)

  atom-told : (s : Option Span) (a : Atom) → Told (atom s a)
  atom-told s a escaped under = record {
    is = r.a_datum;
    part = record { template = refl; kept = λ h k. refl; varied = λ h. absurd (cc); reached = λ k one le. absurd (omega (arith, one, le)); deep = λ k one h. absurd h };
  }

  -- Ellipses.

  pub data Skips : List Tree → ℕ → List Tree → Type 0 where
    none_skipped : {ts : List Tree} → Skips ts 0 ts
    one_skipped : {t : Tree} {ts rest : List Tree} {n : ℕ} → Skips ts n rest → Skips (t ∷ ts) (suc n) rest

  -- the ellipses that these begin with, and what stands behind
  record Dotted (escaped : Bool) (ts es : List Tree) : Type 0 where
    pub rest : List Tree
    pub are : AreDotted c.frames escaped ts (length es) rest
    pub skipped : Skips ts (length es) rest
    pub ellipses : Each (λ e. IsIn e ts × IsKeywordIdentifier c.frames form.Ellipsis e) es

  abbrev behind : Bool → List Tree → List Tree
  behind escaped ts = dots_behind c.frames escaped (map (with_template c) ts)

  each-behind : (x : Tree) (ts es : List Tree) → Each (λ e. IsIn e ts × IsKeywordIdentifier c.frames form.Ellipsis e) es → Each (λ e. IsIn e (x ∷ ts) × IsKeywordIdentifier c.frames form.Ellipsis e) es
  each-behind x ts [] h = tt
  each-behind x ts (e ∷ es) h = ((p.is_behind h.0.0, h.0.1), each-behind x ts es h.1)

  are-dotted : (escaped : Bool) (ts : List Tree) → Dotted escaped ts (behind escaped ts)
  are-dotted true [] = record { rest = []; are = r.undotted tt; skipped = none_skipped; ellipses = tt }
  are-dotted true (t ∷ ts) = record { rest = t ∷ ts; are = r.undotted tt; skipped = none_skipped; ellipses = tt }
  are-dotted false [] = record { rest = []; are = r.undotted tt; skipped = none_skipped; ellipses = tt }
  are-dotted false (t ∷ ts) = by (is_ellipsis c.frames t) refl (are-dotted false ts)
    where
      by : (b : Bool) → is_ellipsis c.frames t ≡ b → Dotted false ts (dots c.frames (map (with_template c) ts)) → Dotted false (t ∷ ts) (if b then t ∷ dots c.frames (map (with_template c) ts) else [])
      by true e d = let w = form-is c.frames form.Ellipsis t e in record {
        rest = d.rest;
        are = r.dotted refl w d.are;
        skipped = one_skipped d.skipped;
        ellipses = ((p.is_first, w), each-behind t ts (dots c.frames (map (with_template c) ts)) d.ellipses);
      }
      by false e d = record { rest = t ∷ ts; are = r.undotted (is-free false t e); skipped = none_skipped; ellipses = tt }

  none-left : (es : List Tree) (n : ℕ) → slice_get es n ≡ None → length es ≤ n
  none-left [] n h = omega arith
  none-left (e ∷ es) zero h = absurd (cc)
  none-left (e ∷ es) (suc n) h = let le = none-left es n h in omega (arith, le)

  one-left : (P : Tree → Type 0) (es : List Tree) (n : ℕ) (e : Tree) → slice_get es n ≡ Some e → Each P es → P e
  one-left P [] n e h k = absurd (cc)
  one-left P (x ∷ es) zero e h k = subst P (some-is x e h) k.0
  one-left P (x ∷ es) (suc n) e h k = one-left P es n e h k.1

  -- Items.

  pub record IsBadIn (ts : List Tree) (f : Fault) : Type 0 where
    pub form : Tree
    pub among : IsIn form ts
    pub bad : IsBadTemplate c form f

  bad-first : (x : Tree) (ts : List Tree) (f : Fault) → IsBadTemplate c x f → IsBadIn (x ∷ ts) f
  bad-first x ts f h = record { form = x; among = p.is_first; bad = h }

  bad-behind : (x : Tree) (ts : List Tree) (f : Fault) → IsBadIn ts f → IsBadIn (x ∷ ts) f
  bad-behind x ts f h = record { form = h.form; among = p.is_behind h.among; bad = h.bad }

  record GaveItem (escaped : Bool) (under : ℕ) (x : Tree) (n : ℕ) (i : MadeItem) : Type 0 where
    pub ellipses : i.ellipses ≡ n
    pub gave : Gave escaped (under + n) x i.made
    pub reached : n ≤ reach i.made

  pub record GaveItems (escaped : Bool) (under : ℕ) (ts : List Tree) (is : List MadeItem) : Type 0 where
    pub are : AreSubtemplates c escaped under ts (items_of is)
    pub parts : Parts ts is

  no-items : (escaped : Bool) (under : ℕ) → GaveItems escaped under [] []
  no-items escaped under = record {
    are = r.no_item;
    parts = record { all = λ h. refl; some = λ h. absurd (cc); kept = λ h k. refl; reached = λ k one le. absurd (omega (arith, one, le)); deep = λ k one h. absurd h };
  }

  is-repeated : (n : ℕ) (m : Made) → ((k : ℕ) → 1 ≤ k → k ≤ reach m → HasDepth k (template_of m)) → n ≤ reach m → IsRepeated n (template_of m)
  is-repeated zero m h le = tt
  is-repeated (suc n) m h le = h (suc n) (omega arith) le

  same-rest : {escaped : Bool} {ts rest : List Tree} {n : ℕ} → AreDotted c.frames escaped ts n rest → n ≡ 0 → rest ≡ ts
  same-rest (r.undotted h) e = refl
  same-rest (r.dotted f w h) e = absurd (omega (arith, e))

  varied-first : (q : PlainTemplate) (n : ℕ) (is : PlainItems) → is_constant q ≡ false → constants (template_of_core.more q n is) ≡ None
  varied-first (template_of_core.variable l d) n is h = refl
  varied-first (template_of_core.constant t) n is h = absurd (cc)
  varied-first (template_of_core.list js t) n is h = refl
  varied-first (template_of_core.vector js) n is h = refl

  constant-first : (q : PlainTemplate) (u : Tree) (n : ℕ) (is : PlainItems) → q ≡ template_of_core.constant u → constants (template_of_core.more q n is) ≡ before u (constants is)
  constant-first q u n is e = ap (λ x. constants (template_of_core.more x n is)) e

  module _ (escaped : Bool) (under : ℕ) (x : Tree) (xs rest : List Tree) (i : MadeItem) (is : List MadeItem) (dotted : AreDotted c.frames escaped xs i.ellipses rest) (gave : Gave escaped (under + i.ellipses) x i.made) (le : i.ellipses ≤ reach i.made) (b : GaveItems escaped under rest is) where
    more-parts : Parts (x ∷ xs) (i ∷ is)
    more-parts = record {
      all = λ h. let f = fixed-both (is_fixed i.made) (all_fixed is) h in
          constant-first (template_of i.made) (unspanned (tree_in i.made)) i.ellipses (items_of is) (fixed-template i.made f.0)
          ∙ ap (before (unspanned (tree_in i.made))) (b.parts.all f.1)
          ∙ sym (ap (λ us. Some (map unspanned us)) (fixed-before i.made (trees is) f.0));
      some = λ h. some-varied (is_fixed i.made) (all_fixed is) refl refl h;
      kept = λ h k. let f = fixed-both (is_fixed i.made) (all_fixed is) h in
          let u = unchanged-both (is_changed i.made) (any_changed is) k in
          let n : i.ellipses ≡ 0 = (let z = fixed-reach i.made f.0 in omega (arith, le, z)) in
          fixed-before i.made (trees is) f.0 ∙ (λ j. gave.part.kept f.0 u.0 j ∷ (b.parts.kept f.1 u.1 ∙ same-rest dotted n) j);
      reached = λ k one h. reached-by k one (max-parts (reach i.made - i.ellipses) (reaches is) k h);
      deep = λ k one h. low k one h;
    }
      where
        fixed-both : (a b : Bool) → (if a then b else false) ≡ true → (a ≡ true) × (b ≡ true)
        fixed-both true b h = (refl, h)
        fixed-both false b h = absurd (cc)

        unchanged-both : (a b : Bool) → (if a then true else b) ≡ false → (a ≡ false) × (b ≡ false)
        unchanged-both true b h = absurd (cc)
        unchanged-both false b h = (refl, h)

        some-varied : (a d : Bool) → is_fixed i.made ≡ a → all_fixed is ≡ d → (if a then d else false) ≡ false → constants (items_of (i ∷ is)) ≡ None
        some-varied true true e k h = absurd (cc)
        some-varied true false e k h = constant-first (template_of i.made) (unspanned (tree_in i.made)) i.ellipses (items_of is) (fixed-template i.made e) ∙ ap (before (unspanned (tree_in i.made))) (b.parts.some k)
        some-varied false d e k h = varied-first (template_of i.made) i.ellipses (items_of is) (gave.part.varied e)

        reached-by : (k : ℕ) → 1 ≤ k → (k ≤ reach i.made - i.ellipses) ⊎ (k ≤ reaches is) → ItemHasDepth k (items_of (i ∷ is))
        reached-by k one (inl h) = inl (gave.part.reached (k + i.ellipses) (omega (arith, one)) (omega (arith, one, h)))
        reached-by k one (inr h) = inr (b.parts.reached k one h)

        low : (k : ℕ) → 1 ≤ k → ItemHasDepth k (items_of (i ∷ is)) → k ≤ max (reach i.made - i.ellipses) (reaches is)
        low k one (inl h) =
            let a = gave.part.deep (k + i.ellipses) (omega (arith, one)) h in
            let m = le-max_left (reach i.made - i.ellipses) (reaches is) in
            omega (arith, a, m)
        low k one (inr h) = let a = b.parts.deep k one h in let m = le-max_right (reach i.made - i.ellipses) (reaches is) in omega (arith, a, m)

    more-items : GaveItems escaped under (x ∷ xs) (i ∷ is)
    more-items = record {
      are = r.an_item dotted gave.is (is-repeated i.ellipses i.made gave.part.reached le) b.are;
      parts = more-parts;
    }

  -- the items behind those so far
  pub record Walks (escaped : Bool) (under : ℕ) (ts : List Tree) (items all : List MadeItem) : Type 0 where
    pub others : List MadeItem
    pub is : all ≡ items ++ others
    pub gave : GaveItems escaped under ts others

  module _ (escaped : Bool) (under : ℕ) where
    fitted-told : (x : Tree) (ts es : List Tree) → Each (λ e. IsIn e ts × IsKeywordIdentifier c.frames form.Ellipsis e) es → (m : Made) → Gave escaped (under + length es) x m → Tells (GaveItem escaped under x (length es)) (IsBadIn (x ∷ ts)) (fitted c.place es m)
    fitted-told x ts es words m h = by (slice_get es (reach m)) refl
      where
        by : (o : Option Tree) → slice_get es (reach m) ≡ o → Tells (GaveItem escaped under x (length es)) (IsBadIn (x ∷ ts)) (with_ellipses c.place es m o)
        by None e = record { ellipses = refl; gave = h; reached = none-left es (reach m) e }
        by (Some y) e = let w = one-left (λ u. IsIn u ts × IsKeywordIdentifier c.frames form.Ellipsis u) es (reach m) y e words in
            record { form = y; among = p.is_behind w.0; bad = bad-at y (bad c.place y) (r.a_bad_ellipsis w.1) }

    item-told : (x : Tree) (ts es : List Tree) → Told x → Each (λ e. IsIn e ts × IsKeywordIdentifier c.frames form.Ellipsis e) es → Tells (GaveItem escaped under x (length es)) (IsBadIn (x ∷ ts)) (item_made c escaped under (with_template c x) es)
    item-told x ts es told words = then-tells (Gave escaped (under + length es) x) (IsBadTemplate c x) (GaveItem escaped under x (length es)) (IsBadIn (x ∷ ts)) (template c x escaped (under + length es)) (fitted c.place es)
        (told escaped (under + length es)) (λ m h. fitted-told x ts es words m h) (λ f h. bad-first x ts f h)

    pub after-item : {A B C : Type 0} (P : A → Type 0) (Q : Fault → Type 0) (R : C → Type 0) (S : Fault → Type 0) (x : Result A Fault) (f : A → B) (k : B → Result C Fault)
        → Tells P Q x → ((a : A) → P a → Tells R S (k (f a))) → ((e : Fault) → Q e → S e) → Tells R S ((x >>= λ a. Ok (f a)) >>= k)
    after-item P Q R S (Ok a) f k h next bad = next a h
    after-item P Q R S (Err e) f k h next bad = bad e h

    pub weaker : {A : Type 0} (P R : A → Type 0) (Q S : Fault → Type 0) (x : Result A Fault) → Tells P Q x → ((a : A) → P a → R a) → ((f : Fault) → Q f → S f) → Tells R S x
    weaker P R Q S (Ok a) h good bad = good a h
    weaker P R Q S (Err f) h good bad = bad f h

    with-item : (x : Tree) (xs rest : List Tree) (items : List MadeItem) (i : MadeItem) (n : ℕ) → AreDotted c.frames escaped xs n rest → GaveItem escaped under x n i → (all : List MadeItem)
        → Walks escaped under rest (items ++ i ∷ []) all → Walks escaped under (x ∷ xs) items all
    with-item x xs rest items i n d a all w = record {
      others = i ∷ w.others;
      is = w.is ∙ append_assoc items (i ∷ []) w.others;
      gave = more-items escaped under x xs rest i w.others (subst (λ k. AreDotted c.frames escaped xs k rest) (sym a.ellipses) d) (subst (λ k. Gave escaped (under + k) x i.made) (sym a.ellipses) a.gave)
          (let e = a.ellipses in let le = a.reached in omega (arith, e, le)) w.gave;
    }

    pub walk-told : (ts : List Tree) → Each Told ts → {n : ℕ} {rest : List Tree} → Skips ts n rest → (items : List MadeItem) → Tells (Walks escaped under rest items) (IsBadIn ts) (walked c escaped under n items (map (with_template c) ts))
    walk-told [] told none_skipped items = record { others = []; is = sym (append-nil items); gave = no-items escaped under }
    walk-told (t ∷ ts) told (one_skipped {rest = rest} {n = n} s) items =
        weaker (Walks escaped under rest items) (Walks escaped under rest items) (IsBadIn ts) (IsBadIn (t ∷ ts)) (walked c escaped under n items (map (with_template c) ts)) (walk-told ts told.1 s items) (λ a h. h) (λ f h. bad-behind t ts f h)
    walk-told (t ∷ ts) told none_skipped items =
        let es = behind escaped ts in
        let d = are-dotted escaped ts in
        after-item (GaveItem escaped under t (length es)) (IsBadIn (t ∷ ts)) (Walks escaped under (t ∷ ts) items) (IsBadIn (t ∷ ts)) (item_made c escaped under (with_template c t) es) (λ i. (length es, items ++ i ∷ []))
        (λ w. walked c escaped under w.0 w.1 (map (with_template c) ts)) (item-told t ts es told.0 d.ellipses)
        (λ i a. weaker (Walks escaped under d.rest (items ++ i ∷ [])) (Walks escaped under (t ∷ ts) items) (IsBadIn ts) (IsBadIn (t ∷ ts)) (walked c escaped under (length es) (items ++ i ∷ []) (map (with_template c) ts))
        (walk-told ts told.1 d.skipped (items ++ i ∷ [])) (λ all w. with-item t ts d.rest items i (length es) d.are a all w) (λ f h. bad-behind t ts f h))
        (λ f h. h)

  pub all-items : (escaped : Bool) (under : ℕ) (ts : List Tree) (is : List MadeItem) → Walks escaped under ts [] is → GaveItems escaped under ts is
  all-items escaped under ts is w = subst (GaveItems escaped under ts) (sym w.is) w.gave

  bad-element : (t : Tree) (ts : List Tree) (f : Fault) → elements t ≡ ts → IsBadIn ts f → IsBadTemplate c t f
  bad-element t ts f e h = record { at = h.bad.at; part = element-part h.bad.at h.form t (subst (IsIn h.form) (sym e) h.among) h.bad.part; is = h.bad.is }

  bad-tail : (t u : Tree) (f : Fault) → tail_of t ≡ u → IsBadTemplate c u f → IsBadTemplate c t f
  bad-tail t u f e h = record { at = h.at; part = tail-part h.at t (subst (IsPartOfForm h.at) (sym e) h.part); is = h.is }

  -- Lists.

  -- the list of these elements and this tail
  abbrev pub list-template : Tree → List Tree → Tree → Bool → ℕ → Result Made Fault
  list-template t ts u escaped under = list_made c escaped (record { form = t; elements = map (with_template c) ts; tail = template c u }) under (escape_of c.frames escaped (map (with_template c) ts) (is_nil u))

  pub list-template-is : (s : Option Span) (a d : Tree) (escaped : Bool) (under : ℕ) → template c (pair s a d) escaped under ≡ list-template (pair s a d) (a ∷ elements d) (tail_of d) escaped under
  list-template-is s a d escaped under =
      ap (λ (xs : List TemplateElement). list_made c escaped (record { form = pair s a d; elements = (a, template c a) ∷ xs; tail = tail_made c d }) under (escape_of c.frames escaped ((a, template c a) ∷ xs) (is_nil (tail_of d)))) (elements_are c d)
      ∙ ap (λ (go : Bool → ℕ → Result Made Fault). list_made c escaped (record { form = pair s a d; elements = map (with_template c) (a ∷ elements d); tail = go }) under (escape_of c.frames escaped (map (with_template c) (a ∷ elements d)) (is_nil (tail_of d)))) (tail_is c d)

  module _ (t u x : Tree) (xs : List Tree) (ch : IsChain (x ∷ xs) u t) (all : Each Told (x ∷ xs)) (last : Told u) where
    abbrev Lists : Bool → ℕ → Result Made Fault → Type 0
    Lists escaped under y = Tells (Gave escaped under t) (IsBadTemplate c t) y

    too-large : (f : Fault) → f ≡ fault_at kind.TooDeep t c.place [] → IsBadTemplate c t f
    too-large f e = subst (IsBadTemplate c t) (sym e) (bad-at t (fault_at kind.TooDeep t c.place []) r.too_large)

    join-told : (escaped : Bool) (under : ℕ) (is : List MadeItem) → GaveItems escaped under (x ∷ xs) is → (m : Made) → Gave escaped under u m → Lists escaped under (list_joined c.place t is m)
    join-told escaped under is h m k = weaker escaped under (Part t (list_by (items_of is) (constants (items_of is)) (template_of m))) (Gave escaped under t) (λ f. f ≡ fault_at kind.TooDeep t c.place []) (IsBadTemplate c t) (list_joined c.place t is m)
        (list-joins c.place t is m (x ∷ xs) u (template_of m) (unspanned-chain ch) h.parts k.part)
        (λ y q. record { is = subst (IsTemplate c escaped under t) (sym q.template) (r.a_list ch h.are k.is); part = record { template = refl; kept = q.kept; varied = q.varied; reached = q.reached; deep = q.deep } })
        (λ f e. too-large f e)

    parts-told : (escaped : Bool) (under : ℕ) → Lists escaped under (list_parts c escaped (record { form = t; elements = map (with_template c) (x ∷ xs); tail = template c u }) under)
    parts-told escaped under =
        then-tells (Walks escaped under (x ∷ xs) []) (IsBadIn (x ∷ xs)) (Gave escaped under t) (IsBadTemplate c t) (walked c escaped under 0 [] (map (with_template c) (x ∷ xs))) (λ is. template c u escaped under >>= list_joined c.place t is)
        (walk-told escaped under (x ∷ xs) all none_skipped [])
        (λ is w. then-tells (Gave escaped under u) (IsBadTemplate c u) (Gave escaped under t) (IsBadTemplate c t) (template c u escaped under) (list_joined c.place t is) (last escaped under)
        (λ m k. join-told escaped under is (all-items escaped under (x ∷ xs) is w) m k) (λ f h. bad-tail t u f (chain-tail ch) h))
        (λ f h. bad-element t (x ∷ xs) f (chain-elements ch) h)

  escape-told : (t e y : Tree) (under : ℕ) → IsKeywordIdentifier c.frames form.Ellipsis e → IsList (e ∷ y ∷ []) t → Told y → Tells (Gave false under t) (IsBadTemplate c t) (template c y true under >>= λ m. Ok (unescaped m))
  escape-told t e y under w l told = then-tells (Gave true under y) (IsBadTemplate c y) (Gave false under t) (IsBadTemplate c t) (template c y true under) (λ m. Ok (unescaped m)) (told true under)
      (λ m k. record {
        is = subst (IsTemplate c false under t) (sym (unescaped-template m)) (r.an_escape w l k.is);
        part = record {
          template = refl;
          kept = λ h n. let a = sym (unescaped-changed m (sym (unescaped-fixed m) ∙ h)) ∙ n in absurd (cc);
          varied = λ h. ap is_constant (unescaped-template m) ∙ k.part.varied (sym (unescaped-fixed m) ∙ h);
          reached = λ i one le. subst (HasDepth i) (sym (unescaped-template m)) (k.part.reached i one (subst (λ n. i ≤ n) (unescaped-reach m) le));
          deep = λ i one h. subst (λ n. i ≤ n) (sym (unescaped-reach m)) (k.part.deep i one (subst (HasDepth i) (unescaped-template m) h));
        };
      })
      (λ f h. bad-element t (e ∷ y ∷ []) f (list-elements l) (bad-behind e (y ∷ []) f (bad-first y [] f h)))

  list-told : (t u x : Tree) (xs : List Tree) → IsChain (x ∷ xs) u t → Each Told (x ∷ xs) → Told u → (escaped : Bool) (under : ℕ) → Tells (Gave escaped under t) (IsBadTemplate c t) (list-template t (x ∷ xs) u escaped under)
  list-told t u x xs ch all last true under = parts-told t u x xs ch all last true under
  list-told t u x [] ch all last false under = parts-told t u x [] ch all last false under
  list-told t u x (y ∷ (z ∷ zs)) ch all last false under = parts-told t u x (y ∷ (z ∷ zs)) ch all last false under
  list-told t u x (y ∷ []) ch all last false under = ends (is_nil u) refl
    where
      by : (b : Bool) → is_ellipsis c.frames x ≡ b → is_nil u ≡ true → Tells (Gave false under t) (IsBadTemplate c t) (list_made c false (record { form = t; elements = map (with_template c) (x ∷ (y ∷ [])); tail = template c u }) under (if b then Some (with_template c y) else None))
      by true e n = escape-told t x y under (form-is c.frames form.Ellipsis x e) (chain-list ch n) all.1.0
      by false e n = parts-told t u x (y ∷ []) ch all last false under

      ends : (b : Bool) → is_nil u ≡ b → Tells (Gave false under t) (IsBadTemplate c t) (list_made c false (record { form = t; elements = map (with_template c) (x ∷ (y ∷ [])); tail = template c u }) under (escape_of c.frames false (map (with_template c) (x ∷ (y ∷ []))) b))
      ends true n = by (is_ellipsis c.frames x) refl n
      ends false n = parts-told t u x (y ∷ []) ch all last false under

  -- Vectors.

  vector-told : (s : Option Span) (d : Tree) → IsList (elements d) d → Each Told (elements d) → Told (vector s d)
  vector-told s d l all escaped under =
      let t = vector s d in
      subst (λ (xs : List TemplateElement). Tells (Gave escaped under t) (IsBadTemplate c t) (vector_made c escaped t xs under)) (sym (elements_are c d))
      (then-tells (Walks escaped under (elements d) []) (IsBadIn (elements d)) (Gave escaped under t) (IsBadTemplate c t) (walked c escaped under 0 [] (map (with_template c) (elements d))) (vector_joined c.place t)
      (walk-told escaped under (elements d) all none_skipped [])
      (λ is w. let h = all-items escaped under (elements d) is w in
      weaker escaped under (Part t (vector_by (items_of is) (constants (items_of is)))) (Gave escaped under t) (λ f. f ≡ fault_at kind.TooDeep t c.place []) (IsBadTemplate c t) (vector_joined c.place t is)
      (vector-joins c.place s d is (elements d) (unspanned-list l) h.parts)
      (λ y q. record { is = subst (IsTemplate c escaped under t) (sym q.template) (r.a_vector l h.are); part = record { template = refl; kept = q.kept; varied = q.varied; reached = q.reached; deep = q.deep } })
      (λ f e. subst (IsBadTemplate c t) (sym e) (bad-at t (fault_at kind.TooDeep t c.place []) r.too_large)))
      (λ f h. let b = bad-element d (elements d) f refl h in record { at = b.at; part = p.in_vector b.part; is = b.is }))

  -- Forms.

  mutual
    pub told : (t : Tree) → HoldsLists t → Told t
    told (atom s a) h = atom-told s a
    told (leaf s x k) h = leaf-told s x k
    told (pair s a d) h = λ escaped under. subst (Tells (Gave escaped under (pair s a d)) (IsBadTemplate c (pair s a d))) (sym (list-template-is s a d escaped under))
        (list-told (pair s a d) (tail_of d) a (elements d) (p.chain_next (chain-of d)) (told a h.0, all-told d h.1) (tail-told d h.1) escaped under)
    told (vector s d) h = vector-told s d h.0 (all-told d h.1)

    pub all-told : (t : Tree) → HoldsLists t → Each Told (elements t)
    all-told (atom s a) h = tt
    all-told (leaf s x k) h = tt
    all-told (pair s a d) h = (told a h.0, all-told d h.1)
    all-told (vector s d) h = tt

    pub tail-told : (t : Tree) → HoldsLists t → Told (tail_of t)
    tail-told (atom s a) h = atom-told s a
    tail-told (leaf s x k) h = leaf-told s x k
    tail-told (pair s a d) h = tail-told d h.1
    tail-told (vector s d) h = vector-told s d h.0 (all-told d h.1)

pub others-are-bad-templates : OthersAreBadTemplates
others-are-bad-templates c t h = by (template c t false 0) (told c t h false 0)
  where
    by : (x : Result Made Fault) → Tells (Gave c false 0 t) (IsBadTemplate c t) x → IsMade c t (x >>= λ m. Ok (template_of m))
    by (Ok m) k = k.is
    by (Err f) k = k
