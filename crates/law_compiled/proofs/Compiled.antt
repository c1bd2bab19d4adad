-- What is a template by the cases of the report is compiled to it.
use Rattle.std.proofs.Common.{◌≡◌, ℕ, zero, suc, ◌+◌, ◌≤◌, Bool, true, false, List, [], ◌∷◌, ◌++◌, length, map, Option, None, Some, Result, Ok, Err, refl, sym, ◌∙◌, ap, subst, arith, slice_get, nat_lt, append-nil, append_assoc, if◌then◌else◌}
use Rattle.std.specs.Prelude.{nat_eq}
use Rattle.std.specs.Cmp.{unsigned_Decides}
use Rattle.std.proofs.lemmas.Bool.Decides.{nat_tests}
use Rattle.base_data.specs.Elements.{Each}
use Rattle.base_data.specs.Gives.{◌>>=◌}
use Rattle.base_data.specs.declared.atom.Atom.TheVariants.{Nil}
use Rattle.base_data.specs.declared.fault.Fault.{Fault}
use Rattle.base_data.specs.declared.fault.FaultKind.TheVariants as kind
use Rattle.base_data.specs.declared.name.Label.{Label}
use Rattle.base_data.specs.declared.span.Span.{Span}
use Rattle.stx_tree.specs.Context.{LeafContext}
use Rattle.stx_tree.specs.Tree.{Tree, atom, leaf, pair, vector, unspanned}
use Rattle.stx_scope.specs.Stands.{stands}
use Rattle.core_language.specs.Bindings.{bound_to}
use Rattle.core_language.specs.Template as template_of_core
use Rattle.core_language.specs.Template.{PlainTemplate, PlainItems}
use Rattle.core_language.specs.declared.binding.Binding.{Binding}
use Rattle.core_language.specs.declared.binding.Binding.TheVariants as binding
use Rattle.core_language.specs.declared.core_form.CoreForm.TheVariants as form
use Rattle.law_core.specs.Templates.{HasDepth}
use Rattle.core_shapes.specs.At.{fault_at}
use Rattle.core_shapes.specs.Lists.{is_nil, elements, tail_of}
use Rattle.law_shapes.specs.Grammar.{IsId, IsList}
use Rattle.law_shapes.specs.Grammar as g
use Rattle.law_shapes.specs.Records.{IsKeywordIdentifier}
use Rattle.law_shapes.proofs.Complete.{list-elements}
use Rattle.eval_pattern.specs.Keywords.{is_form, is_ellipsis}
use Rattle.eval_template.specs.Compile.{TemplateScope, bound_made, label_made, is_special, TemplateElement, dots, dots_behind, reach, with_ellipses, fitted, item_made, walked, template_of, items_of, list_joined, vector_joined, escape_of, unescaped, list_parts, list_made, vector_made, template, tail_made, with_template}
use Rattle.eval_template.proofs.Levels.{elements_are}
use Rattle.law_patterns.specs.Patterns.{IsChain}
use Rattle.law_patterns.specs.Patterns as p
use Rattle.law_compiled.specs.Templates.{IsBoundAt, IsOther, IsFree, AreDotted, IsRepeated, constants, list_by, vector_by, IsTemplate, AreSubtemplates, IsBadTemplate, HoldsLists, Comes, TemplatesAreCompiled}
use Rattle.law_compiled.specs.Templates as r
use Rattle.law_patterns.proofs.Words.{form-is, ellipsis-is, untold}
use Rattle.law_patterns.proofs.Patterns.{chain-elements, chain-tail}
use Rattle.law_compiled.proofs.Joining.{Made, MadeItem, unescaped-template, Tells, then-tells, tells-if, both-tell, Part, list-joins, vector-joins}
use Rattle.law_compiled.proofs.Templates.{unspanned-chain, unspanned-list, Gave, Told, IsBadIn, Skips, none_skipped, one_skipped, Walks, all-items, after-item, walk-told, list-template, list-template-is, told, all-told, tail-told}

-- no ellipsis is left
past : (es : List Tree) (n : ℕ) → length es ≤ n → slice_get es n ≡ None
past [] n le = refl
past (e ∷ es) zero le = absurd (omega (arith, le))
past (e ∷ es) (suc n) le = past es n (omega (arith, le))

not-less : (m n : ℕ) → n ≤ m → nat_lt m n ≡ false
not-less m n le = grind (arith, nat_tests)

-- A form with vectors of lists holds such.

each-holds : (t : Tree) → HoldsLists t → Each HoldsLists (elements t)
each-holds (atom s a) h = tt
each-holds (leaf s x k) h = tt
each-holds (pair s a d) h = (h.0, each-holds d h.1)
each-holds (vector s d) h = tt

tail-holds : (t : Tree) → HoldsLists t → HoldsLists (tail_of t)
tail-holds (atom s a) h = h
tail-holds (leaf s x k) h = h
tail-holds (pair s a d) h = tail-holds d h.1
tail-holds (vector s d) h = h

each-rest : {c : TemplateScope} {ts rest : List Tree} {n : ℕ} (P : Tree → Type 0) → Skips c ts n rest → Each P ts → Each P rest
each-rest P none_skipped h = h
each-rest P (one_skipped s) h = each-rest P s h.1

abbrev IsDeep : Fault → Type 0
IsDeep f = f.kind ≡ kind.TooDeep

deep-is : (f : Fault) (t : Tree) (place : Span) → f ≡ fault_at kind.TooDeep t place [] → IsDeep f
deep-is f t place e = ap (λ (x : Fault). x.kind) e

module _ (c : TemplateScope) where
  abbrev Is : PlainTemplate → Made → Type 0
  Is q m = template_of m ≡ q

  abbrev ComesTo : Bool → ℕ → Tree → PlainTemplate → Type 0
  ComesTo escaped under t q = Tells (Is q) IsDeep (template c t escaped under)

  -- Identifiers.

  not-special : (escaped : Bool) (t : Tree) → IsFree c.frames escaped t → is_special escaped (stands c.frames t) ≡ false
  not-special true t h = refl
  not-special false t h = untold (is_form form.Ellipsis (stands c.frames t)) (λ k. h (form-is c.frames form.Ellipsis t k))

  special-tells : (escaped : Bool) (t : Tree) (q : PlainTemplate) (bad made : Result Made Fault) → IsFree c.frames escaped t → Tells (Is q) IsDeep made → Tells (Is q) IsDeep (if is_special escaped (stands c.frames t) then bad else made)
  special-tells escaped t q bad made free h = subst (λ b. Tells (Is q) IsDeep (if b then bad else made)) (sym (not-special escaped t free)) h

  module _ (escaped : Bool) (under : ℕ) (s : Option Span) (x : List ℕ) (k : LeafContext) (free : IsFree c.frames escaped (leaf s x k)) where
    abbrev t : Tree
    t = leaf s x k

    module _ (other : IsOther c (leaf s x k)) where
      abbrev itself : PlainTemplate
      itself = template_of_core.constant (unspanned t)

      by-binding : (l : Label) (o : Option Binding) → stands c.frames t ≡ Some l → bound_to c.bindings l ≡ o → Tells (Is itself) IsDeep (bound_made c under (record { symbol = x; form = t }) l o)
      by-binding l None e b = refl
      by-binding l (Some (binding.Variable v)) e b = refl
      by-binding l (Some (binding.PatternVariable level depth)) e b = absurd (other.other l level depth (record { label = e; bound = b }))
      by-binding l (Some (binding.Macro level expression)) e b = refl
      by-binding l (Some (binding.Core f)) e b = refl
      by-binding l (Some (binding.Primitive o)) e b = refl

      by-label : (o : Option Label) → stands c.frames t ≡ o → Tells (Is itself) IsDeep (label_made c under (record { symbol = x; form = t }) o)
      by-label None e = refl
      by-label (Some l) e = by-binding l (bound_to c.bindings l) e refl

      leaf-comes : ComesTo escaped under t itself
      leaf-comes = special-tells escaped t itself _ _ free (by-label (stands c.frames t) refl)

    module _ (l : Label) (depth : ℕ) (b : IsBoundAt c (leaf s x k) l c.level depth) (le : depth ≤ under) where
      abbrev this : PlainTemplate
      this = template_of_core.variable l depth

      leaf-varies : ComesTo escaped under t this
      leaf-varies = special-tells escaped t this _ _ free
          (subst (λ o. Tells (Is this) IsDeep (label_made c under (record { symbol = x; form = t }) o)) (sym b.label)
          (subst (λ o. Tells (Is this) IsDeep (bound_made c under (record { symbol = x; form = t }) l o)) (sym b.bound)
          (tells-if (Is this) IsDeep (nat_eq c.level c.level) _ _
          (λ e. tells-if (Is this) IsDeep (nat_lt under depth) _ _ (λ lt. let a = sym lt ∙ not-less under depth le in absurd (cc)) (λ h. refl))
          (λ e. let a = sym e ∙ (unsigned_Decides c.level c.level).1 refl in absurd (cc)))))

  identifier-comes : (escaped : Bool) (under : ℕ) (t : Tree) → IsId t → IsFree c.frames escaped t → IsOther c t → ComesTo escaped under t (template_of_core.constant (unspanned t))
  identifier-comes escaped under _ (g.id {span = s} {x = x} {c = k}) free other = leaf-comes escaped under s x k free other

  variable-comes : (escaped : Bool) (under : ℕ) (t : Tree) (l : Label) (depth : ℕ) → IsId t → IsFree c.frames escaped t → IsBoundAt c t l c.level depth → depth ≤ under → ComesTo escaped under t (template_of_core.variable l depth)
  variable-comes escaped under _ l depth (g.id {span = s} {x = x} {c = k}) free b le = leaf-varies escaped under s x k free l depth b le

  -- Ellipses.

  skips-of : {escaped : Bool} {ts rest : List Tree} {n : ℕ} → AreDotted c.frames escaped ts n rest → Skips c ts n rest
  skips-of (r.undotted h) = none_skipped
  skips-of (r.dotted f w h) = one_skipped (skips-of h)

  dots-length : (escaped : Bool) {ts rest : List Tree} {n : ℕ} → AreDotted c.frames escaped ts n rest → length (dots_behind c.frames escaped (map (with_template c) ts)) ≡ n
  dots-length true (r.undotted h) = refl
  dots-length true (r.dotted f w h) = absurd (cc)
  dots-length false (r.undotted {ts = []} h) = refl
  dots-length false (r.undotted {ts = t ∷ ts} h) = ap (λ b. length (if b then t ∷ dots c.frames (map (with_template c) ts) else [])) (not-special false t h)
  dots-length false (r.dotted {e = x} {ts = ts} f w h) = ap (λ b. length (if b then x ∷ dots c.frames (map (with_template c) ts) else [])) (ellipsis-is c.frames x w) ∙ ap suc (dots-length false h)

  skipped-is : (escaped : Bool) (under : ℕ) {ts rest : List Tree} {n : ℕ} → Skips c ts n rest → (items : List MadeItem)
      → walked c escaped under n items (map (with_template c) ts) ≡ walked c escaped under 0 items (map (with_template c) rest)
  skipped-is escaped under none_skipped items = refl
  skipped-is escaped under (one_skipped s) items = skipped-is escaped under s items

  -- Items.

  record IsItem (q : PlainTemplate) (n : ℕ) (i : MadeItem) : Type 0 where
    pub made : template_of i.made ≡ q
    pub ellipses : i.ellipses ≡ n

  record AreAll (js : PlainItems) (items all : List MadeItem) : Type 0 where
    pub others : List MadeItem
    pub is : all ≡ items ++ others
    pub made : items_of others ≡ js

  item-comes : (escaped : Bool) (under n : ℕ) (x : Tree) (es : List Tree) (q : PlainTemplate) → length es ≡ n → IsRepeated n q → Told c x → ComesTo escaped (under + n) x q → Tells (IsItem q n) IsDeep (item_made c escaped under (with_template c x) es)
  item-comes escaped under n x es q len rep told h =
      then-tells (λ m. Gave c escaped (under + length es) x m × Is q m) IsDeep (IsItem q n) IsDeep (template c x escaped (under + length es)) (fitted c.place es)
      (both-tell (Gave c escaped (under + length es) x) (Is q) (IsBadTemplate c x) IsDeep (template c x escaped (under + length es)) (told escaped (under + length es))
      (subst (λ k. ComesTo escaped (under + k) x q) (sym len) h)) (λ m k. fits m k.0 k.1 (reaches n m k.0 k.1 rep)) (λ f k. k)
    where
      reaches : (j : ℕ) (m : Made) → Gave c escaped (under + length es) x m → Is q m → IsRepeated j q → j ≤ reach m
      reaches zero m k e d = omega arith
      reaches (suc j) m k e d = k.part.deep (suc j) (omega arith) (subst (HasDepth (suc j)) (sym e) d)

      fits : (m : Made) → Gave c escaped (under + length es) x m → Is q m → n ≤ reach m → Tells (IsItem q n) IsDeep (fitted c.place es m)
      fits m k e le = subst (λ o. Tells (IsItem q n) IsDeep (with_ellipses c.place es m o)) (sym (past es (reach m) (omega (arith, len, le)))) (record { made = e; ellipses = len })

  -- Lists.

  free-first : {under : ℕ} {t : Tree} {q : PlainTemplate} → IsTemplate c false under t q → is_ellipsis c.frames t ≡ false
  free-first r.a_datum = refl
  free-first (r.an_identifier {t = t} free other) = not-special false t free
  free-first (r.a_variable {t = t} i free b le) = not-special false t free
  free-first (r.an_escape w (g.next l) i) = refl
  free-first (r.a_list (p.chain_next h) are i) = refl
  free-first (r.a_vector l are) = refl

  no-escape : (escaped : Bool) (under : ℕ) (x : Tree) (xs : List Tree) (is : PlainItems) (ends : Bool) → AreSubtemplates c escaped under (x ∷ xs) is → escape_of c.frames escaped (map (with_template c) (x ∷ xs)) ends ≡ None
  no-escape true under x xs is ends h = refl
  no-escape false under x [] is ends h = refl
  no-escape false under x (y ∷ (z ∷ zs)) is ends h = refl
  no-escape false under x (y ∷ []) is false h = refl
  no-escape false under x (y ∷ []) _ true (r.an_item d i rep more) = ap (λ b. if b then Some (with_template c y) else None) (free-first i)

  module _ (escaped : Bool) (under : ℕ) (t u x : Tree) (xs : List Tree) (is : PlainItems) (q : PlainTemplate) (ch : IsChain (x ∷ xs) u t) (are : AreSubtemplates c escaped under (x ∷ xs) is) (all : Each (Told c) (x ∷ xs)) (last : Told c u) where
    abbrev made-list : PlainTemplate
    made-list = list_by is (constants is) q

    join-comes : (items : List MadeItem) → Walks c escaped under (x ∷ xs) [] items → AreAll is [] items → (m : Made) → Gave c escaped under u m → Is q m → Tells (Is made-list) IsDeep (list_joined c.place t items m)
    join-comes items w a m k e = weaken (list_joined c.place t items m) (list-joins c.place t items m (x ∷ xs) u (template_of m) (unspanned-chain ch) (all-items c escaped under (x ∷ xs) items w).parts k.part)
      where
        same : items_of items ≡ is
        same = ap items_of a.is ∙ a.made

        weaken : (y : Result Made Fault) → Tells (Part t (list_by (items_of items) (constants (items_of items)) (template_of m))) (λ f. f ≡ fault_at kind.TooDeep t c.place []) y → Tells (Is made-list) IsDeep y
        weaken (Ok y) h = h.template ∙ (λ j. list_by (same j) (constants (same j)) (e j))
        weaken (Err f) h = deep-is f t c.place h

    parts-come : Tells (AreAll is []) IsDeep (walked c escaped under 0 [] (map (with_template c) (x ∷ xs))) → ComesTo escaped under u q → Tells (Is made-list) IsDeep (list_parts c escaped (record { form = t; elements = map (with_template c) (x ∷ xs); tail = template c u }) under)
    parts-come items tail =
        then-tells (λ i. Walks c escaped under (x ∷ xs) [] i × AreAll is [] i) IsDeep (Is made-list) IsDeep (walked c escaped under 0 [] (map (with_template c) (x ∷ xs))) (λ i. template c u escaped under >>= list_joined c.place t i)
        (both-tell (Walks c escaped under (x ∷ xs) []) (AreAll is []) (IsBadIn c (x ∷ xs)) IsDeep (walked c escaped under 0 [] (map (with_template c) (x ∷ xs))) (walk-told c escaped under (x ∷ xs) all none_skipped []) items)
        (λ i w. then-tells (λ m. Gave c escaped under u m × Is q m) IsDeep (Is made-list) IsDeep (template c u escaped under) (list_joined c.place t i)
        (both-tell (Gave c escaped under u) (Is q) (IsBadTemplate c u) IsDeep (template c u escaped under) (last escaped under) tail) (λ m k. join-comes i w.0 w.1 m k.0 k.1) (λ f h. h))
        (λ f h. h)

    list-comes : Tells (AreAll is []) IsDeep (walked c escaped under 0 [] (map (with_template c) (x ∷ xs))) → ComesTo escaped under u q → Tells (Is made-list) IsDeep (list-template c t (x ∷ xs) u escaped under)
    list-comes items tail =
        subst (λ o. Tells (Is made-list) IsDeep (list_made c escaped (record { form = t; elements = map (with_template c) (x ∷ xs); tail = template c u }) under o)) (sym (no-escape escaped under x xs is (is_nil u) are)) (parts-come items tail)

  vector-comes : (escaped : Bool) (under : ℕ) (s : Option Span) (d : Tree) (xs : List Tree) (is : PlainItems) → IsList xs d → Each (Told c) xs → Tells (AreAll is []) IsDeep (walked c escaped under 0 [] (map (with_template c) xs))
      → Tells (Is (vector_by is (constants is))) IsDeep (vector_made c escaped (vector s d) (map (with_template c) xs) under)
  vector-comes escaped under s d xs is l all items =
      then-tells (λ i. Walks c escaped under xs [] i × AreAll is [] i) IsDeep (Is (vector_by is (constants is))) IsDeep (walked c escaped under 0 [] (map (with_template c) xs)) (vector_joined c.place (vector s d))
      (both-tell (Walks c escaped under xs []) (AreAll is []) (IsBadIn c xs) IsDeep (walked c escaped under 0 [] (map (with_template c) xs)) (walk-told c escaped under xs all none_skipped []) items)
      (λ i w. weaken i w.1 (vector_joined c.place (vector s d) i) (vector-joins c.place s d i xs (unspanned-list l) (all-items c escaped under xs i w.0).parts))
      (λ f h. h)
    where
      weaken : (i : List MadeItem) → AreAll is [] i → (y : Result Made Fault) → Tells (Part (vector s d) (vector_by (items_of i) (constants (items_of i)))) (λ f. f ≡ fault_at kind.TooDeep (vector s d) c.place []) y → Tells (Is (vector_by is (constants is))) IsDeep y
      weaken i a (Ok y) h = h.template ∙ ap (λ js. vector_by js (constants js)) (ap items_of a.is ∙ a.made)
      weaken i a (Err f) h = deep-is f (vector s d) c.place h

  -- Escapes.

  second-holds : {e u t : Tree} → IsList (e ∷ (u ∷ [])) t → HoldsLists t → HoldsLists u
  second-holds (g.next (g.next l)) h = h.1.0

  escape-comes : (under : ℕ) (t e u : Tree) (q : PlainTemplate) → IsKeywordIdentifier c.frames form.Ellipsis e → IsList (e ∷ (u ∷ [])) t → ComesTo true under u q → ComesTo false under t q
  escape-comes under _ e u q w (g.next {span = s} (g.next {span = o} (g.end {span = z}))) h =
      subst (λ b. Tells (Is q) IsDeep (list_made c false (record { form = pair s e (pair o u (atom z Nil)); elements = map (with_template c) (e ∷ (u ∷ [])); tail = tail_made c (pair o u (atom z Nil)) }) under (if b then Some (with_template c u) else None)))
      (sym (ellipsis-is c.frames e w))
      (then-tells (Is q) IsDeep (Is q) IsDeep (template c u true under) (λ m. Ok (unescaped m)) h (λ m k. unescaped-template m ∙ k) (λ f k. k))

  -- Forms.

  mutual
    comes : {escaped : Bool} {under : ℕ} {t : Tree} {q : PlainTemplate} → IsTemplate c escaped under t q → HoldsLists t → ComesTo escaped under t q
    comes r.a_datum holds = refl
    comes (r.an_identifier {escaped = escaped} {under = under} {t = t} free other) holds = identifier-comes escaped under t other.is_id free other
    comes (r.a_variable {escaped = escaped} {under = under} {t = t} {l = l} {depth = depth} i free b le) holds = variable-comes escaped under t l depth i free b le
    comes (r.an_escape {under = under} {e = e} {t = t} {u = u} {p = q} w l i) holds = escape-comes under t e u q w l (comes i (second-holds l holds))
    comes (r.a_list {escaped = escaped} {under = under} {r = u} {x = x} {xs = xs} {is = is} {p = q} (p.chain_next {span = s} {rest = d} ch) are i) holds =
        let t = pair s x d in
        let all : Each (Told c) (x ∷ xs) = (told c x holds.0, subst (Each (Told c)) (chain-elements ch) (all-told c d holds.1)) in
        let last : Told c u = subst (Told c) (chain-tail ch) (tail-told c d holds.1) in
        let each : Each HoldsLists (x ∷ xs) = (holds.0, subst (Each HoldsLists) (chain-elements ch) (each-holds d holds.1)) in
        subst (Tells (Is (list_by is (constants is) q)) IsDeep)
        (sym (list-template-is c s x d escaped under ∙ ap (λ ys. list-template c t (x ∷ ys) (tail_of d) escaped under) (chain-elements ch) ∙ ap (λ y. list-template c t (x ∷ xs) y escaped under) (chain-tail ch)))
        (list-comes escaped under t u x xs is q (p.chain_next ch) are all last (items-come are all each []) (comes i (subst HoldsLists (chain-tail ch) (tail-holds d holds.1))))
    comes (r.a_vector {escaped = escaped} {under = under} {span = s} {t = d} {xs = xs} {is = is} l are) holds =
        let all : Each (Told c) xs = subst (Each (Told c)) (list-elements l) (all-told c d holds.1) in
        let each : Each HoldsLists xs = subst (Each HoldsLists) (list-elements l) (each-holds d holds.1) in
        subst (λ (ys : List TemplateElement). Tells (Is (vector_by is (constants is))) IsDeep (vector_made c escaped (vector s d) ys under)) (sym (elements_are c d ∙ ap (map (with_template c)) (list-elements l)))
        (vector-comes escaped under s d xs is l all (items-come are all each []))

    items-come : {escaped : Bool} {under : ℕ} {ts : List Tree} {is : PlainItems} → AreSubtemplates c escaped under ts is → Each (Told c) ts → Each HoldsLists ts → (items : List MadeItem) → Tells (AreAll is items) IsDeep (walked c escaped under 0 items (map (with_template c) ts))
    items-come r.no_item all holds items = record { others = []; is = sym (append-nil items); made = refl }
    items-come (r.an_item {escaped = escaped} {under = under} {n = n} {x = x} {xs = xs} {rest = rest} {p = q} {is = is} dots-are i rep more) all holds items =
        let es = dots_behind c.frames escaped (map (with_template c) xs) in
        let s = skips-of dots-are in
        let len : length es ≡ n = dots-length escaped dots-are in
        after-item c escaped under (IsItem q n) IsDeep (AreAll (template_of_core.more q n is) items) IsDeep (item_made c escaped under (with_template c x) es) (λ j. (length es, items ++ j ∷ []))
        (λ w. walked c escaped under w.0 w.1 (map (with_template c) xs)) (item-comes escaped under n x es q len rep all.0 (comes i holds.0))
        (λ j a. behind j a (walked c escaped under (length es) (items ++ j ∷ []) (map (with_template c) xs)) (ap (λ k. walked c escaped under k (items ++ j ∷ []) (map (with_template c) xs)) len ∙ skipped-is escaped under s (items ++ j ∷ []))
        (items-come more (each-rest (Told c) s all.1) (each-rest HoldsLists s holds.1) (items ++ j ∷ [])))
        (λ f h. h)
      where
        behind : (j : MadeItem) → IsItem q n j → (y : Result (List MadeItem) Fault) → y ≡ walked c escaped under 0 (items ++ j ∷ []) (map (with_template c) rest) → Tells (AreAll is (items ++ j ∷ [])) IsDeep (walked c escaped under 0 (items ++ j ∷ []) (map (with_template c) rest)) → Tells (AreAll (template_of_core.more q n is) items) IsDeep y
        behind j a y e h = grow y (subst (Tells (AreAll is (items ++ j ∷ [])) IsDeep) (sym e) h)
          where
            grow : (z : Result (List MadeItem) Fault) → Tells (AreAll is (items ++ j ∷ [])) IsDeep z → Tells (AreAll (template_of_core.more q n is) items) IsDeep z
            grow (Ok all) k = record {
              others = j ∷ k.others;
              is = k.is ∙ append_assoc items (j ∷ []) k.others;
              made = λ i. template_of_core.more (a.made i) (a.ellipses i) (k.made i);
            }
            grow (Err f) k = k

pub templates-are-compiled : TemplatesAreCompiled
templates-are-compiled c t q holds i = by (template c t false 0) (comes c i holds)
  where
    by : (x : Result Made Fault) → Tells (λ m. template_of m ≡ q) IsDeep x → Comes q (x >>= λ m. Ok (template_of m))
    by (Ok m) h = h
    by (Err f) h = h
