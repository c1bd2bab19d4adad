-- No template is refused for cells that don't fit.
use Rattle.std.proofs.Common.{◌≡◌, ℕ, zero, suc, ◌+◌, nat_lt, nat_eq, Bool, true, false, List, [], ◌∷◌, ◌++◌, length, Option, None, Some, Result, Ok, Err, if◌then◌else◌, refl, sym, subst, arith}
use Rattle.base_data.specs.Elements.{Each}
use Rattle.base_data.specs.Gives.{◌>>=◌}
use Rattle.base_data.specs.declared.fault.Bare.{Bare}
use Rattle.base_data.specs.declared.fault.Fault.{Fault}
use Rattle.base_data.specs.declared.fault.FaultKind.TheVariants as kind
use Rattle.base_data.specs.declared.name.Label.{Label}
use Rattle.base_data.specs.declared.span.Span.{Span}
use Rattle.stx_tree.specs.Tree as tree
use Rattle.stx_tree.specs.Tree.{Tree, span_of, spanned, list_of, vector_of}
use Rattle.stx_tree.specs.Measures.{within, fits, too_deep}
use Rattle.stx_scope.specs.Stands.{stands}
use Rattle.core_language.specs.Bindings.{bound_to}
use Rattle.core_language.specs.declared.binding.Binding.{Binding}
use Rattle.core_language.specs.declared.binding.Binding.TheVariants as binding
use Rattle.core_shapes.specs.Lists.{is_nil, tail_of}
use Rattle.eval_pattern.specs.Keywords.{is_ellipsis}
use Rattle.eval_template.specs.Compile.{TemplateScope, fault_of, reach, items_of, variable_made, bound_made, label_made, is_special, leaf_made, TemplateElement, dots_behind, with_ellipses, fitted, item_made, step, walked, placed, rebuilt, fixed_list, list_joined, fixed_vector, vector_joined, escape_of, unescaped, list_parts, list_made, vector_made, template, elements_made, tail_made, template_of, compiled}
use Rattle.law_stuck.specs.Kinds.{NotStuck}
use Rattle.law_steady.proofs.Says.{Says, says-if, says-then}

-- an element whose template isn't
abbrev Quiet : TemplateElement → Type 0
Quiet x = (escaped : Bool) (under : ℕ) → Says (x.1 escaped under)

-- The types of what is made of a form and of an item, which their crate keeps to itself.

abbrev Given : {A B : Type 0} → (A → B) → Type 0
Given {A} {B} f = A

abbrev Member : {A B : Type 0} → (List A → B) → Type 0
Member {A} {B} f = A

abbrev Made : Type 0
Made = Given reach

abbrev MadeItem : Type 0
MadeItem = Member items_of

deep-if : (c : Bool) (t : Tree) (b : Bare) → (if c then Ok t else Err too_deep) ≡ Err b → b.kind ≡ kind.TooDeep
deep-if true t b e = grind (arith)
deep-if false t b e = grind (arith, too_deep)

deep : (t : Tree) (b : Bare) → within t ≡ Err b → b.kind ≡ kind.TooDeep
unfolding within
deep t b e = deep-if (fits t) t b e

list-joined : (place : Span) (t : Tree) (is : List MadeItem) (m : Made) (f : Fault) → list_joined place t is m ≡ Err f → f.kind ≡ kind.TooDeep
list-joined place t is m f e = grind (arith, list_joined, fixed_list, rebuilt, placed, fault_of, ◌>>=◌, deep)

vector-joined : (place : Span) (t : Tree) (is : List MadeItem) (f : Fault) → vector_joined place t is ≡ Err f → f.kind ≡ kind.TooDeep
vector-joined place t is f e = grind (arith, vector_joined, fixed_vector, rebuilt, placed, fault_of, ◌>>=◌, deep)

says-deep : {A : Type 0} (r : Result A Fault) → ((f : Fault) → r ≡ Err f → f.kind ≡ kind.TooDeep) → Says r
says-deep (Ok x) h = tt
says-deep (Err f) h = subst NotStuck (sym (h f refl)) tt

module _ (c : TemplateScope) where
  says-variable : (under : ℕ) (x : List ℕ) (t : Tree) (l : Label) (level depth : ℕ) → Says (variable_made c under (record { symbol = x; form = t }) (record { label = l; level = level; depth = depth }))
  says-variable under x t l level depth = says-if (nat_eq level c.level) _ _ (says-if (nat_lt under depth) _ _ tt tt) tt

  says-bound : (under : ℕ) (x : List ℕ) (t : Tree) (l : Label) (o : Option Binding) → Says (bound_made c under (record { symbol = x; form = t }) l o)
  says-bound under x t l None = tt
  says-bound under x t l (Some (binding.Variable v)) = tt
  says-bound under x t l (Some (binding.PatternVariable level depth)) = says-variable under x t l level depth
  says-bound under x t l (Some (binding.Macro level e)) = tt
  says-bound under x t l (Some (binding.Core f)) = tt
  says-bound under x t l (Some (binding.Primitive op)) = tt

  says-label : (under : ℕ) (x : List ℕ) (t : Tree) (o : Option Label) → Says (label_made c under (record { symbol = x; form = t }) o)
  says-label under x t None = tt
  says-label under x t (Some l) = says-bound under x t l (bound_to c.bindings l)

  says-leaf : (escaped : Bool) (x : List ℕ) (t : Tree) (under : ℕ) → Says (leaf_made c escaped (record { symbol = x; form = t }) under)
  says-leaf escaped x t under = says-if (is_special escaped (stands c.frames t)) _ _ tt (says-label under x t (stands c.frames t))

  says-ellipses : (es : List Tree) (m : Made) (o : Option Tree) → Says (with_ellipses c.place es m o)
  says-ellipses es m None = tt
  says-ellipses es m (Some e) = tt

  says-step : (escaped : Bool) (under skips : ℕ) (x : TemplateElement) (es : List Tree) (items : List MadeItem) → Quiet x → Says (step c escaped under skips x es items)
  says-step escaped under (suc skips) x es items h = tt
  says-step escaped under zero x es items h =
      says-then (item_made c escaped under x es) (λ i. Ok (length es, items ++ i ∷ []))
      (says-then (x.1 escaped (under + length es)) (fitted c.place es) (h escaped (under + length es)) (λ m. says-ellipses es m _)) (λ i. tt)

  says-walked : (escaped : Bool) (under skips : ℕ) (items : List MadeItem) (xs : List TemplateElement) → Each Quiet xs → Says (walked c escaped under skips items xs)
  says-walked escaped under skips items [] h = tt
  says-walked escaped under skips items (x ∷ xs) h =
      says-then (step c escaped under skips x (dots_behind c.frames escaped xs) items) (λ w. walked c escaped under w.0 w.1 xs)
      (says-step escaped under skips x (dots_behind c.frames escaped xs) items h.0) (λ w. says-walked escaped under w.0 w.1 xs h.1)

  says-list_joined : (t : Tree) (items : List MadeItem) (m : Made) → Says (list_joined c.place t items m)
  says-list_joined t items m = says-deep (list_joined c.place t items m) (list-joined c.place t items m)

  says-vector_joined : (t : Tree) (items : List MadeItem) → Says (vector_joined c.place t items)
  says-vector_joined t items = says-deep (vector_joined c.place t items) (vector-joined c.place t items)

  says-list_parts : (escaped : Bool) (t : Tree) (xs : List TemplateElement) (tail : Bool → ℕ → Result Made Fault) (under : ℕ) → Each Quiet xs → ((e : Bool) (n : ℕ) → Says (tail e n)) → Says (list_parts c escaped (record { form = t; elements = xs; tail = tail }) under)
  says-list_parts escaped t xs tail under h k =
      says-then (walked c escaped under 0 [] xs) (λ items. tail escaped under >>= list_joined c.place t items) (says-walked escaped under 0 [] xs h)
      (λ items. says-then (tail escaped under) (list_joined c.place t items) (k escaped under) (λ m. says-list_joined t items m))

  abbrev QuietIf : Option TemplateElement → Type 0
  QuietIf None = Unit {0}
  QuietIf (Some y) = Quiet y

  quiet-if : (b : Bool) (y : TemplateElement) → Quiet y → QuietIf (if b then Some y else None)
  quiet-if true y h = h
  quiet-if false y h = tt

  quiet-escape : (escaped : Bool) (xs : List TemplateElement) (ends : Bool) → Each Quiet xs → QuietIf (escape_of c.frames escaped xs ends)
  quiet-escape true [] ends h = tt
  quiet-escape true (x ∷ xs) ends h = tt
  quiet-escape false [] ends h = tt
  quiet-escape false (x ∷ []) ends h = tt
  quiet-escape false (x ∷ (y ∷ [])) true h = quiet-if (is_ellipsis c.frames x.0) y h.1.0
  quiet-escape false (x ∷ (y ∷ [])) false h = tt
  quiet-escape false (x ∷ (y ∷ (z ∷ xs))) ends h = tt

  says-list_made : (escaped : Bool) (t : Tree) (xs : List TemplateElement) (tail : Bool → ℕ → Result Made Fault) (under : ℕ) (o : Option TemplateElement) → Each Quiet xs → ((e : Bool) (n : ℕ) → Says (tail e n)) → QuietIf o
      → Says (list_made c escaped (record { form = t; elements = xs; tail = tail }) under o)
  says-list_made escaped t xs tail under None h k q = says-list_parts escaped t xs tail under h k
  says-list_made escaped t xs tail under (Some y) h k q = says-then (y.1 true under) (λ m. Ok (unescaped m)) (q true under) (λ m. tt)

  says-vector_made : (escaped : Bool) (t : Tree) (xs : List TemplateElement) (under : ℕ) → Each Quiet xs → Says (vector_made c escaped t xs under)
  says-vector_made escaped t xs under h = says-then (walked c escaped under 0 [] xs) (vector_joined c.place t) (says-walked escaped under 0 [] xs h) (says-vector_joined t)

  mutual
    says-template : (t : Tree) → (escaped : Bool) (under : ℕ) → Says (template c t escaped under)
    says-template (tree.atom s a) escaped under = tt
    says-template (tree.leaf s x k) escaped under = says-leaf escaped x (tree.leaf s x k) under
    says-template (tree.pair s a d) escaped under =
        says-list_made escaped (tree.pair s a d) ((a, template c a) ∷ elements_made c d) (tail_made c d) under (escape_of c.frames escaped ((a, template c a) ∷ elements_made c d) (is_nil (tail_of d)))
        (says-template a, says-elements d) (says-tail d) (quiet-escape escaped ((a, template c a) ∷ elements_made c d) (is_nil (tail_of d)) (says-template a, says-elements d))
    says-template (tree.vector s d) escaped under = says-vector_made escaped (tree.vector s d) (elements_made c d) under (says-elements d)

    says-elements : (t : Tree) → Each Quiet (elements_made c t)
    says-elements (tree.atom s a) = tt
    says-elements (tree.leaf s x k) = tt
    says-elements (tree.pair s a d) = (says-template a, says-elements d)
    says-elements (tree.vector s d) = tt

    says-tail : (t : Tree) → (escaped : Bool) (under : ℕ) → Says (tail_made c t escaped under)
    says-tail (tree.atom s a) escaped under = tt
    says-tail (tree.leaf s x k) escaped under = says-leaf escaped x (tree.leaf s x k) under
    says-tail (tree.pair s a d) escaped under = says-tail d escaped under
    says-tail (tree.vector s d) escaped under = says-vector_made escaped (tree.vector s d) (elements_made c d) under (says-elements d)

  pub says-compiled : (t : Tree) → Says (compiled c t)
  says-compiled t = says-then (template c t false 0) (λ m. Ok (template_of m)) (says-template t false 0) (λ m. tt)
