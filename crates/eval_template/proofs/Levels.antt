-- What one level of a form tells of what is made of it.
use Rattle.std.proofs.Common.{◌≡◌, ℕ, suc, Bool, true, false, List, [], ◌∷◌, map, take, Option, None, Some, Ok, refl, Vec, ap, sym, ◌∙◌}
use Rattle.std.specs.Prelude.{Result, if◌then◌else◌}
use Rattle.std.specs.declared.alloc.Global.{Global}
use Rattle.base_data.specs.Gives.{◌>>=◌, Stops}
use Rattle.base_data.specs.declared.atom.Atom.{Atom}
use Rattle.base_data.specs.declared.fault.Fault.{Fault}
use Rattle.base_data.specs.declared.fault.Stop.{Stop}
use Rattle.base_data.specs.declared.fault.Stop.TheVariants as stops
use Rattle.stx_tree.specs.Tree.{Tree, atom, leaf, pair, vector, is_pair}
use Rattle.base_data.specs.declared.name.Label.{Label}
use Rattle.stx_object.specs.Opens.{Opens}
use Rattle.stx_object.specs.declared.syn.OpenedTree.TheVariants as opened
use Rattle.core_shapes.specs.Lists.{is_nil, elements, tail_of}
use Rattle.eval_pattern.specs.Keywords.{is_ellipsis}
use Rattle.eval_pattern.proofs.Levels.{elements_chain}
use Rattle.eval_template.specs.declared.compile.CompiledForm.{CompiledForm}
use Rattle.eval_template.specs.declared.compile.CompiledForm.TheVariants.{Fixed}
use Rattle.eval_template.specs.Compile.{TemplateScope, TemplateElement, template, elements_made, tail_made, with_template, forms_walked, leaf_made, list_made, unescaped, vector_made, vector_template, list_joined, escape_of, escaped_form, list_template, dots, dots_behind, dot_count, first_label}

module _ (c : TemplateScope) where
  pub elements_are : (t : Tree) → elements_made c t ≡ map (with_template c) (elements t)
  elements_are (atom s a) = refl
  elements_are (leaf s x k) = refl
  elements_are (pair s a d) = ap (λ (xs : List TemplateElement). (a, template c a) ∷ xs) (elements_are d)
  elements_are (vector s d) = refl

  pub tail_is : (t : Tree) → tail_made c t ≡ template c (tail_of t)
  tail_is (atom s a) = refl
  tail_is (leaf s x k) = refl
  tail_is (pair s a d) = tail_is d
  tail_is (vector s d) = refl

  pub dots_are : (escaped : Bool) (ts : List Tree) → dots_behind c.frames escaped (map (with_template c) ts) ≡ take (dot_count c.frames escaped ts) ts
  dots_are true [] = refl
  dots_are true (t ∷ ts) = refl
  dots_are false [] = refl
  dots_are false (t ∷ ts) = go (dots_are false ts) (is_ellipsis c.frames t)
    where
      go : dots c.frames (map (with_template c) ts) ≡ take (dot_count c.frames false ts) ts → (b : Bool)
          → (if b then t ∷ dots c.frames (map (with_template c) ts) else []) ≡ take (if b then suc (dot_count c.frames false ts) else 0) (t ∷ ts)
      go ih true = ap (λ us. t ∷ us) ih
      go ih false = refl

  module _ (escaped : Bool) (under : ℕ) where
    pub made_atom : (e : Atom) (t : Tree) → Opens (opened.Atom e) t → template c t escaped under ≡ Ok (Fixed false t)
    made_atom e (atom p b) h = refl
    made_atom e (leaf p y k) h = absurd h
    made_atom e (pair p a d) h = absurd h
    made_atom e (vector p d) h = absurd h

    pub made_leaf : (x : List ℕ) (t : Tree) → Opens (opened.Symbol x) t → template c t escaped under ≡ leaf_made c escaped (record { symbol = x; form = t }) under
    made_leaf x (atom p b) h = absurd h
    made_leaf x (leaf p y k) h = ap (λ z. leaf_made c escaped (record { symbol = z; form = leaf p y k }) under) (sym h)
    made_leaf x (pair p a d) h = absurd h
    made_leaf x (vector p d) h = absurd h

    pub made_vector : (v : Vec Tree Global) (t : Tree) → Opens (opened.Vector v) t → template c t escaped under ≡ vector_template c t v.items escaped under
    made_vector v (atom p b) h = absurd h
    made_vector v (leaf p y k) h = absurd h
    made_vector v (pair p a d) h = absurd h
    made_vector v (vector p d) h =
        let same : elements_made c d ≡ map (with_template c) v.items = elements_are d ∙ ap (map (with_template c)) (ap elements (sym h) ∙ elements_chain v.items) in
        ap (λ (xs : List TemplateElement). vector_made c escaped (vector p d) xs under) same

  abbrev on_form : Bool → ℕ → Tree → List Tree → Option Tree → Result CompiledForm Fault
  on_form escaped under t ts None = forms_walked c escaped under ts >>= λ items. template c (tail_of t) escaped under >>= list_joined c.place t items
  on_form escaped under t ts (Some u) = template c u true under >>= λ m. Ok (unescaped m)

  by_form : (escaped : Bool) (under : ℕ) (t : Tree) (ts : List Tree) (ends : Bool)
      → list_made c escaped (record { form = t; elements = map (with_template c) ts; tail = template c (tail_of t) }) under (escape_of c.frames escaped (map (with_template c) ts) ends)
      ≡ on_form escaped under t ts (escaped_form (first_label c.frames ts) escaped ts ends)
  by_form true under t ts ends = refl
  by_form false under t [] ends = refl
  by_form false under t (x ∷ []) ends = refl
  by_form false under t (x ∷ (y ∷ [])) false = refl
  by_form false under t (x ∷ (y ∷ [])) true = go (is_ellipsis c.frames x)
    where
      go : (b : Bool) → list_made c false (record { form = t; elements = map (with_template c) (x ∷ (y ∷ [])); tail = template c (tail_of t) }) under (if b then Some (with_template c y) else None)
          ≡ on_form false under t (x ∷ (y ∷ [])) (if b then Some y else None)
      go true = refl
      go false = refl
  by_form false under t (x ∷ (y ∷ (z ∷ zs))) ends = refl

  made_list : (escaped : Bool) (under : ℕ) (t : Tree) → is_pair t ≡ true
      → template c t escaped under ≡ on_form escaped under t (elements t) (escaped_form (first_label c.frames (elements t)) escaped (elements t) (is_nil (tail_of t)))
  made_list escaped under (atom p b) h = absurd (cc)
  made_list escaped under (leaf p y k) h = absurd (cc)
  made_list escaped under (pair p a d) h =
      ap (λ (xs : List TemplateElement). list_made c escaped (record { form = pair p a d; elements = (a, template c a) ∷ xs; tail = tail_made c d }) under (escape_of c.frames escaped ((a, template c a) ∷ xs) (is_nil (tail_of d)))) (elements_are d)
      ∙ ap (λ (go : Bool → ℕ → Result CompiledForm Fault). list_made c escaped (record { form = pair p a d; elements = map (with_template c) (a ∷ elements d); tail = go }) under (escape_of c.frames escaped (map (with_template c) (a ∷ elements d)) (is_nil (tail_of d)))) (tail_is d)
      ∙ by_form escaped under (pair p a d) (a ∷ elements d) (is_nil (tail_of d))
  made_list escaped under (vector p d) h = absurd (cc)

  module _ (escaped : Bool) (under : ℕ) (t : Tree) (h : is_pair t ≡ true) where
    pub list_escaped : (u : Tree) → escaped_form (first_label c.frames (elements t)) escaped (elements t) (is_nil (tail_of t)) ≡ Some u
        → template c t escaped under ≡ (template c u true under >>= λ m. Ok (unescaped m))
    list_escaped u e = made_list escaped under t h ∙ ap (on_form escaped under t (elements t)) e

    pub list_plain : escaped_form (first_label c.frames (elements t)) escaped (elements t) (is_nil (tail_of t)) ≡ None → template c t escaped under ≡ list_template c t escaped under
    list_plain e = made_list escaped under t h ∙ ap (on_form escaped under t (elements t)) e

    -- what an escaped form gives, the whole gives
    pub escaped_gives : (u : Tree) (first : Option Label) (ts : List Tree) (tail : Tree) (ends : Bool) (m : CompiledForm) → first ≡ first_label c.frames ts → ts ≡ elements t → tail ≡ tail_of t
        → ends ≡ is_nil tail → Some u ≡ escaped_form first escaped ts ends → template c u true under ≡ Ok m → template c t escaped under ≡ Ok (unescaped m)
    escaped_gives u first ts tail ends m label are last ended e k =
        let nil : is_nil (tail_of t) ≡ ends = ap is_nil (sym last) ∙ sym ended in
        let by_label : escaped_form (first_label c.frames (elements t)) escaped (elements t) (is_nil (tail_of t)) ≡ escaped_form first escaped ts ends =
        (λ i. escaped_form (first_label c.frames (sym are i)) escaped (sym are i) (nil i)) ∙ ap (λ o. escaped_form o escaped ts ends) (sym label) in
        list_escaped u (by_label ∙ sym e) ∙ ap (λ r. r >>= λ n. Ok (unescaped n)) k

    -- what is at fault in an escaped form is at fault in the whole
    pub escaped_stops : (u : Tree) (first : Option Label) (ts : List Tree) (tail : Tree) (ends : Bool) (stop : Stop) → first ≡ first_label c.frames ts → ts ≡ elements t → tail ≡ tail_of t
        → ends ≡ is_nil tail → Some u ≡ escaped_form first escaped ts ends → Stops stop (template c u true under) → Stops stop (template c t escaped under)
    escaped_stops u first ts tail ends stops.Memory label are last ended e k = tt
    escaped_stops u first ts tail ends (stops.Fault f) label are last ended e k =
        let nil : is_nil (tail_of t) ≡ ends = ap is_nil (sym last) ∙ sym ended in
        let by_label : escaped_form (first_label c.frames (elements t)) escaped (elements t) (is_nil (tail_of t)) ≡ escaped_form first escaped ts ends =
        (λ i. escaped_form (first_label c.frames (sym are i)) escaped (sym are i) (nil i)) ∙ ap (λ o. escaped_form o escaped ts ends) (sym label) in
        list_escaped u (by_label ∙ sym e) ∙ ap (λ r. r >>= λ m. Ok (unescaped m)) k
