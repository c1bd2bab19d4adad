-- The template of a form (libraries report 12.4). What is at fault first is the fault.
use Rattle.std.specs.Prelude.{◌≡◌, ℕ, zero, suc, ◌+◌, ◌-◌, max, nat_lt, nat_eq, slice_get, Bool, true, false, ◌||◌, List, [], ◌∷◌, ◌++◌, length, map, Option, None, Some, Result, Ok, Err, if◌then◌else◌}
use Rattle.base_data.specs.Gives.{◌>>=◌}
use Rattle.base_data.specs.declared.fault.Bare.{Bare}
use Rattle.base_data.specs.declared.fault.BareStop.{BareStop}
use Rattle.base_data.specs.declared.fault.BareStop.TheVariants as bare_stop
use Rattle.base_data.specs.declared.fault.Fault.{Fault}
use Rattle.base_data.specs.declared.fault.FaultKind.TheVariants as kind
use Rattle.base_data.specs.declared.fault.Stop.{Stop}
use Rattle.base_data.specs.declared.fault.Stop.TheVariants as stop
use Rattle.base_data.specs.declared.name.Label.{Label}
use Rattle.base_data.specs.declared.span.Span.{Span}
use Rattle.stx_tree.specs.Tree as tree
use Rattle.stx_tree.specs.Tree.{Tree, span_of, spanned, unspanned, list_of, vector_of}
use Rattle.stx_tree.specs.Measures.{within}
use Rattle.stx_frames.specs.Scope.{Scope}
use Rattle.stx_scope.specs.Stands.{stands}
use Rattle.core_language.specs.Bindings.{bound_to}
use Rattle.core_language.specs.Template.{PlainTemplate, variable, constant, list, vector, PlainItems, none, more}
use Rattle.core_language.specs.declared.binding.Binding.{Binding}
use Rattle.core_language.specs.declared.binding.Binding.TheVariants as binding
use Rattle.core_language.specs.declared.core_form.CoreForm.TheVariants as form
use Rattle.core_shapes.specs.At.{fault_at, place_of}
use Rattle.core_shapes.specs.Lists.{is_nil, elements, tail_of}
use Rattle.eval_pattern.specs.Keywords.{is_form, is_ellipsis}
use Rattle.eval_template.specs.declared.compile.CompiledForm.{CompiledForm}
use Rattle.eval_template.specs.declared.compile.CompiledForm.TheVariants.{Fixed, Varied}
use Rattle.eval_template.specs.declared.compile.Identifier.{Identifier}
use Rattle.eval_template.specs.declared.compile.MadeItem.{MadeItem}
use Rattle.eval_template.specs.declared.compile.TemplateContext.{TemplateContext}
use Rattle.eval_template.specs.declared.compile.TemplateVariable.{TemplateVariable}

-- what is known round a template: frames, bindings, the level of the template, and the place round it
pub record TemplateScope : Type 0 where
  pub frames : Scope
  pub bindings : List (Label × Binding)
  pub level : ℕ
  pub place : Span

abbrev pub seen : TemplateContext → TemplateScope
seen c = record { frames = c.frames.now; bindings = c.bindings.now; level = c.level; place = c.place.now }

abbrev pub bad : Span → Tree → Fault
bad place t = fault_at kind.BadTemplate t place []

-- Identifiers.

-- an identifier of a template, and its symbol
pub record PlainIdentifier : Type 0 where
  pub symbol : List ℕ
  pub form : Tree

abbrev pub seen_id : Identifier → PlainIdentifier
seen_id id = record { symbol = id.symbol.now; form = id.form.now }

-- a variable of another level is the fault before one under too few ellipses
abbrev pub variable_made : TemplateScope → ℕ → PlainIdentifier → TemplateVariable → Result CompiledForm Fault
variable_made c under id v =
    if nat_eq v.level c.level
    then (if nat_lt under v.depth then Err (bad c.place id.form) else Ok (Varied (variable v.label v.depth) v.depth))
    else Err (fault_at kind.OutOfContext id.form c.place (id.symbol ∷ []))

abbrev pub bound_made : TemplateScope → ℕ → PlainIdentifier → Label → Option Binding → Result CompiledForm Fault
bound_made c under id l (Some (binding.PatternVariable level depth)) =
    variable_made c under id (record { label = l; level = level; depth = depth })
bound_made c under id l _ = Ok (Fixed false id.form)

abbrev pub label_made : TemplateScope → ℕ → PlainIdentifier → Option Label → Result CompiledForm Fault
label_made c under id None = Ok (Fixed false id.form)
label_made c under id (Some l) = bound_made c under id l (bound_to c.bindings l)

-- in an escaped template an ellipsis is an identifier as any other
abbrev pub is_special : Bool → Option Label → Bool
is_special escaped o = if escaped then false else is_form form.Ellipsis o

abbrev pub leaf_made : TemplateScope → Bool → PlainIdentifier → ℕ → Result CompiledForm Fault
leaf_made c escaped id under =
    if is_special escaped (stands c.frames id.form) then Err (bad c.place id.form) else label_made c under id (stands c.frames id.form)

-- Elements.

-- a form with what is made of it: in an escaped template or not, under so many ellipses
abbrev pub TemplateElement : Type 0
TemplateElement = Tree × (Bool → ℕ → Result CompiledForm Fault)

-- the ellipses that these begin with
abbrev pub dots : Scope → List TemplateElement → List Tree
dots fs [] = []
dots fs (x ∷ xs) = if is_ellipsis fs x.0 then x.0 ∷ dots fs xs else []

abbrev pub dots_behind : Scope → Bool → List TemplateElement → List Tree
dots_behind fs escaped xs = if escaped then [] else dots fs xs

-- as trees alone: how many there are, and what the form behind them stands for
abbrev pub dot_count : Scope → Bool → List Tree → ℕ
dot_count fs escaped [] = 0
dot_count fs escaped (t ∷ ts) = if is_special escaped (stands fs t) then suc (dot_count fs escaped ts) else 0

abbrev pub first_label : Scope → List Tree → Option Label
first_label fs [] = None
first_label fs (t ∷ ts) = stands fs t

-- how many ellipses behind it have a variable of depth before them
abbrev pub reach : CompiledForm → ℕ
reach (Fixed changed t) = 0
reach (Varied t r) = r

abbrev pub with_ellipses : Span → List Tree → CompiledForm → Option Tree → Result MadeItem Fault
with_ellipses place es m None = Ok (record { made = m; ellipses = length es })
with_ellipses place es m (Some e) = Err (bad place e)

-- the first ellipsis without a variable of depth before it is the fault
abbrev pub fitted : Span → List Tree → CompiledForm → Result MadeItem Fault
fitted place es m = with_ellipses place es m (slice_get es (reach m))

-- how many of the next elements are ellipses that were taken with one before them, and the items so far
abbrev pub WalkedItems : Type 0
WalkedItems = ℕ × List MadeItem

-- The elements of one list or vector, in an escaped template or not, under so many ellipses.
module _ (c : TemplateScope) (escaped : Bool) (under : ℕ) where
  -- an element with the ellipses behind it
  abbrev pub item_made : TemplateElement → List Tree → Result MadeItem Fault
  item_made x es = x.1 escaped (under + length es) >>= fitted c.place es

  abbrev pub step : ℕ → TemplateElement → List Tree → List MadeItem → Result WalkedItems Fault
  step (suc skips) x es items = Ok (skips, items)
  step zero x es items = item_made x es >>= λ i. Ok (length es, items ++ i ∷ [])

  abbrev pub walked : ℕ → List MadeItem → List TemplateElement → Result (List MadeItem) Fault
  walked skips items [] = Ok items
  walked skips items (x ∷ xs) = step skips x (dots_behind c.frames escaped xs) items >>= λ w. walked w.0 w.1 xs

-- Lists and vectors.

-- what a template adds has no span, so that a fault there has the place of the use
abbrev pub constant_of : Tree → PlainTemplate
constant_of t = constant (unspanned t)

abbrev pub template_of : CompiledForm → PlainTemplate
template_of (Fixed changed t) = constant_of t
template_of (Varied t r) = t

abbrev pub items_of : List MadeItem → PlainItems
items_of [] = none
items_of (i ∷ is) = more (template_of i.made) i.ellipses (items_of is)

-- of the items as one part: at each ellipsis behind an item, one less
abbrev pub reaches : List MadeItem → ℕ
reaches [] = 0
reaches (i ∷ is) = max (reach i.made - i.ellipses) (reaches is)

abbrev pub is_fixed : CompiledForm → Bool
is_fixed (Fixed changed t) = true
is_fixed (Varied t r) = false

abbrev pub all_fixed : List MadeItem → Bool
all_fixed [] = true
all_fixed (i ∷ is) = if is_fixed i.made then all_fixed is else false

abbrev pub is_changed : CompiledForm → Bool
is_changed (Fixed changed t) = changed
is_changed (Varied t r) = false

abbrev pub any_changed : List MadeItem → Bool
any_changed [] = false
any_changed (i ∷ is) = if is_changed i.made then true else any_changed is

abbrev pub tree_before : CompiledForm → List Tree → List Tree
tree_before (Fixed changed t) ts = t ∷ ts
tree_before (Varied t r) ts = ts

abbrev pub trees : List MadeItem → List Tree
trees [] = []
trees (i ∷ is) = tree_before i.made (trees is)

-- a fault of a form, at its place
abbrev pub fault_of : Span → Tree → Bare → Fault
fault_of place t f = record { kind = f.kind; span = place_of t place; words = f.words }

abbrev pub placed : {A : Type 0} → Span → Tree → Result A Bare → Result A Fault
placed place t (Ok x) = Ok x
placed place t (Err f) = Err (fault_of place t f)

abbrev pub StopsAt : Span → Tree → Stop → BareStop → Type 0
StopsAt place t (stop.Fault f) (bare_stop.Fault g) = fault_of place t g ≡ f
StopsAt place t (stop.Fault f) bare_stop.Memory = ⊥
StopsAt place t stop.Memory s = Unit {0}

-- A part without pattern variables is the form itself, or where escapes were taken out of it, the form that is left.
abbrev pub rebuilt : Span → Tree → Result Tree Bare → Result CompiledForm Fault
rebuilt place t r = placed place t r >>= λ u. Ok (Fixed true (spanned (span_of t) u))

abbrev pub fixed_list : Span → Tree → List MadeItem → Bool → Tree → Result CompiledForm Fault
fixed_list place t items changed tail =
    if changed || any_changed items then rebuilt place t (within (list_of (trees items) (Some tail))) else Ok (Fixed false t)

abbrev pub list_joined : Span → Tree → List MadeItem → CompiledForm → Result CompiledForm Fault
list_joined place t items (Varied tail r) = Ok (Varied (list (items_of items) tail) (max (reaches items) r))
list_joined place t items (Fixed changed tail) =
    if all_fixed items then fixed_list place t items changed tail else Ok (Varied (list (items_of items) (constant_of tail)) (reaches items))

abbrev pub fixed_vector : Span → Tree → List MadeItem → Result CompiledForm Fault
fixed_vector place t items = if any_changed items then rebuilt place t (within (vector_of (trees items))) else Ok (Fixed false t)

abbrev pub vector_joined : Span → Tree → List MadeItem → Result CompiledForm Fault
vector_joined place t items = if all_fixed items then fixed_vector place t items else Ok (Varied (vector (items_of items)) (reaches items))

-- Forms.

-- the template that an ellipsis before it escapes: of a list of just these two
abbrev pub escape_of : Scope → Bool → List TemplateElement → Bool → Option TemplateElement
escape_of fs false (x ∷ (y ∷ [])) true = if is_ellipsis fs x.0 then Some y else None
escape_of fs escaped xs ends = None

abbrev pub unescaped : CompiledForm → CompiledForm
unescaped (Fixed changed t) = Fixed true t
unescaped (Varied t r) = Varied t r

-- a list, with its elements and what is made of its end
pub record TemplateList : Type 0 where
  pub form : Tree
  pub elements : List TemplateElement
  pub tail : Bool → ℕ → Result CompiledForm Fault

abbrev pub list_parts : TemplateScope → Bool → TemplateList → ℕ → Result CompiledForm Fault
list_parts c escaped l under =
    walked c escaped under 0 [] l.elements >>= λ items. l.tail escaped under >>= list_joined c.place l.form items

abbrev pub list_made : TemplateScope → Bool → TemplateList → ℕ → Option TemplateElement → Result CompiledForm Fault
list_made c escaped l under None = list_parts c escaped l under
list_made c escaped l under (Some y) = y.1 true under >>= λ m. Ok (unescaped m)

abbrev pub vector_made : TemplateScope → Bool → Tree → List TemplateElement → ℕ → Result CompiledForm Fault
vector_made c escaped t xs under = walked c escaped under 0 [] xs >>= vector_joined c.place t

abbrev mutual
  pub template : TemplateScope → Tree → Bool → ℕ → Result CompiledForm Fault
  template c (tree.atom s a) escaped under = Ok (Fixed false (tree.atom s a))
  template c (tree.leaf s x k) escaped under = leaf_made c escaped (record { symbol = x; form = tree.leaf s x k }) under
  template c (tree.pair s a d) escaped under =
      list_made c escaped (record { form = tree.pair s a d; elements = (a, template c a) ∷ elements_made c d; tail = tail_made c d }) under
      (escape_of c.frames escaped ((a, template c a) ∷ elements_made c d) (is_nil (tail_of d)))
  template c (tree.vector s d) escaped under = vector_made c escaped (tree.vector s d) (elements_made c d) under

  -- the elements of a list, each with what is made of it
  pub elements_made : TemplateScope → Tree → List TemplateElement
  elements_made c (tree.atom s a) = []
  elements_made c (tree.leaf s x k) = []
  elements_made c (tree.pair s a d) = (a, template c a) ∷ elements_made c d
  elements_made c (tree.vector s d) = []

  -- what is made of the end of a list
  pub tail_made : TemplateScope → Tree → Bool → ℕ → Result CompiledForm Fault
  tail_made c (tree.atom s a) escaped under = Ok (Fixed false (tree.atom s a))
  tail_made c (tree.leaf s x k) escaped under = leaf_made c escaped (record { symbol = x; form = tree.leaf s x k }) under
  tail_made c (tree.pair s a d) escaped under = tail_made c d escaped under
  tail_made c (tree.vector s d) escaped under = vector_made c escaped (tree.vector s d) (elements_made c d) under

abbrev pub with_template : TemplateScope → Tree → TemplateElement
with_template c t = (t, template c t)

abbrev pub forms_walked : TemplateScope → Bool → ℕ → List Tree → Result (List MadeItem) Fault
forms_walked c escaped under ts = walked c escaped under 0 [] (map (with_template c) ts)

-- where the first of the forms stands for this
abbrev pub escaped_form : Option Label → Bool → List Tree → Bool → Option Tree
escaped_form first false (t ∷ (u ∷ [])) true = if is_form form.Ellipsis first then Some u else None
escaped_form first escaped ts ends = None

abbrev pub list_template : TemplateScope → Tree → Bool → ℕ → Result CompiledForm Fault
list_template c t escaped under =
    forms_walked c escaped under (elements t) >>= λ items. template c (tail_of t) escaped under >>= list_joined c.place t items

abbrev pub escaped_template : TemplateScope → Tree → Bool → ℕ → Option Tree → Result CompiledForm Fault
escaped_template c t escaped under None = list_template c t escaped under
escaped_template c t escaped under (Some u) = template c u true under >>= λ m. Ok (unescaped m)

abbrev pub vector_template : TemplateScope → Tree → List Tree → Bool → ℕ → Result CompiledForm Fault
vector_template c t ts escaped under = forms_walked c escaped under ts >>= vector_joined c.place t

abbrev pub compiled : TemplateScope → Tree → Result PlainTemplate Fault
compiled c t = template c t false 0 >>= λ m. Ok (template_of m)
