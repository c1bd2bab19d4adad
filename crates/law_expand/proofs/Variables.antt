-- The variables that the lines of a record define and bind have indices.
use Rattle.std.proofs.Common.{◌≡◌, ℕ, zero, suc, ◌<◌, Bool, true, false, List, [], ◌∷◌, ◌++◌, map, Option, None, Some, refl, sym, ◌∙◌, ap, subst, arith, inl, inr, if◌then◌else◌}
use Rattle.std.specs.Prelude.{◌⊎◌}
use Rattle.std.specs.List.{flat_map}
use Rattle.std.specs.Map.{lookup}
use Rattle.std.proofs.lemmas.List.{map-append}
use Rattle.std.proofs.Math.Nat.{eq-or-lt_of_le}
use Rattle.base_data.proofs.ElementLemmas.{each-at, each-of, each-append, among-first, among-second, among-parts}
use Rattle.base_data.specs.Elements.{Each, Among, Once}
use Rattle.base_data.specs.declared.library.LibName.{LibName}
use Rattle.base_data.specs.declared.name.Label.{Label}
use Rattle.core_language.specs.Bindings.{bound_to}
use Rattle.core_language.specs.Labels.{same_label}
use Rattle.core_language.specs.References.{binders}
use Rattle.core_language.specs.declared.binding.Binding.{Binding}
use Rattle.core_language.specs.declared.binding.Binding.TheVariants as binding
use Rattle.core_language.specs.declared.binding.VarInfo.{VarInfo}
use Rattle.core_language.specs.declared.record.CompiledLibrary.{CompiledLibrary}
use Rattle.core_language.specs.declared.record.Line.{Line}
use Rattle.law_core.specs.Follows.{IsThere, bound_labels, index_in, index_of, line_variables, run_variables, top_label, tops}
use Rattle.law_core.specs.Parts.{parts, own_variables, bound_variables}
use Rattle.law_core.specs.Records.{defined, line_core, line_labels, line_binders, run_binders}
use Rattle.law_core.proofs.Decisions.{label_decides}
use Rattle.expand_standing.specs.Own.{completed, row_at, own_label, own_row, own_below, own_bindings}
use Rattle.expand_standing.specs.Start.{started}
use Rattle.expand_standing.specs.State.{State}
use Rattle.law_expand.specs.States.{IsOwn, IsNumbered, IndicesApart}
use Rattle.law_expand.specs.Variables.{HasIndices, VariablesHaveIndices}
use Rattle.law_expand.specs.Shallow.{deepest}
use Rattle.law_expand.proofs.BoundVariables.{IsWithin, same-within, once-within, variables-within}
use Rattle.law_expand.proofs.Fresh.{once-append}
use Rattle.law_expand.proofs.Nesting.{IsDefined, IsLeveled, Within}
use Rattle.law_expand.proofs.Records.{Runs, record-runs, records-good}
use Rattle.law_expand.proofs.Started.{started-sound, started-indices}

-- Lists.

abbrev label_of : Label × Binding → Label
label_of b = b.0

among-map : {A B : Type 0} (g : A → B) (xs : List A) (x : A) → Among xs x → Among (map g xs) (g x)
among-map g [] x a = elim a [ ]
among-map g (y ∷ xs) x (inl e) = inl (ap g e)
among-map g (y ∷ xs) x (inr a) = inr (among-map g xs x a)

map-among : {A B : Type 0} (g : A → B) (xs : List A) (y : B) → Among (map g xs) y → (x : A) × (Among xs x × (y ≡ g x))
map-among g [] y a = elim a [ ]
map-among g (x ∷ xs) y (inl e) = (x, (inl refl, e))
map-among g (x ∷ xs) y (inr a) = let k = map-among g xs y a in (k.0, (inr k.1.0, k.1.1))

among-flat : {A B : Type 0} (g : A → List B) (xs : List A) (x : A) (y : B) → Among xs x → Among (g x) y → Among (flat_map g xs) y
among-flat {A} {B} g [] x y a b = elim a [ ]
among-flat {A} {B} g (z ∷ xs) x y (inl e) b = among-first (g z) (flat_map g xs) y (subst (λ (w : A). Among (g w) y) e b)
among-flat {A} {B} g (z ∷ xs) x y (inr a) b = among-second (g z) (flat_map g xs) y (among-flat g xs x y a b)

each-flat : {A B : Type 0} (P : B → Type 0) (g : A → List B) (xs : List A) → Each (λ x. Each P (g x)) xs → Each P (flat_map g xs)
each-flat P g [] h = tt
each-flat P g (x ∷ xs) h = each-append P (g x) (flat_map g xs) h.0 (each-flat P g xs h.1)

each-mapped : {A B : Type 0} (P : B → Type 0) (g : A → B) (xs : List A) → Each (λ x. P (g x)) xs → Each P (map g xs)
each-mapped P g [] h = tt
each-mapped P g (x ∷ xs) h = (h.0, each-mapped P g xs h.1)

-- what differs has different images
pub once-map : {A B : Type 0} (g : A → B) (xs : List A) → Once xs → ((x y : A) → Among xs x → Among xs y → g x ≡ g y → x ≡ y) → Once (map g xs)
once-map g [] once same = tt
once-map {A} g (x ∷ xs) once same =
    ((λ a. let k = map-among g xs (g x) a in once.0 (subst (Among xs) (sym (same x k.0 (inl refl) (inr k.1.0) k.1.1)) k.1.0)), once-map g xs once.1 (λ y z a b e. same y z (inr a) (inr b) e))

-- what a label is bound to in a list in which it stands once
lookup-there : (es : List (Label × Binding)) (l : Label) (b : Binding) → Once (map label_of es) → Among es (l, b) → lookup (same_label l) es ≡ Some b
lookup-there [] l b once a = elim a [ ]
lookup-there (e ∷ es) l b once a = by (same_label l e.0) refl a (lookup-there es l b once.1)
  where
    by : (t : Bool) → same_label l e.0 ≡ t → ((l, b) ≡ e) ⊎ Among es (l, b) → (Among es (l, b) → lookup (same_label l) es ≡ Some b) → (if t then Some e.1 else lookup (same_label l) es) ≡ Some b
    by true is (inl d) rest = ap (λ (x : Label × Binding). Some x.1) (sym d)
    by true is (inr d) rest = absurd (once.0 (subst (Among (map label_of es)) ((label_decides l e.0).0 is) (among-map label_of es (l, b) d)))
    by false is (inl d) rest = let same = (label_decides l e.0).1 (ap label_of d) in let bad : false ≡ true = sym is ∙ same in absurd (cc)
    by false is (inr d) rest = rest d

-- What a library binds.

module _ (v : State) where
  -- the row of a number
  own-there : (n m : ℕ) (b : Binding) → m < n → bound_to v.bindings (own_label v m) ≡ Some b → Among (own_below v n) (own_label v m, completed v (own_label v m) b)
  own-there zero m b lt e = absurd (omega (arith, lt))
  own-there (suc n) m b lt e = by (eq-or-lt_of_le (omega (arith, lt))) (λ k. own-there n m b k e)
    where
      here : (o : Option Binding) → o ≡ Some b → Among (row_at v (own_label v m) o) (own_label v m, completed v (own_label v m) b)
      here None k = absurd (cc)
      here (Some c) k = let is : c ≡ b = cc in inl (ap (λ (x : Binding). (own_label v m, completed v (own_label v m) x)) (sym is))

      by : (m ≡ n) ⊎ (m < n) → (m < n → Among (own_below v n) (own_label v m, completed v (own_label v m) b)) → Among (own_below v n ++ own_row v n) (own_label v m, completed v (own_label v m) b)
      by (inr k) before = among-first (own_below v n) (own_row v n) (own_label v m, completed v (own_label v m) b) (before k)
      by (inl k) before =
          among-second (own_below v n) (own_row v n) (own_label v m, completed v (own_label v m) b)
          (subst (λ (i : ℕ). Among (own_row v i) (own_label v m, completed v (own_label v m) b)) k (here (bound_to v.bindings (own_label v m)) e))

  row-label : (n : ℕ) (l : Label) (o : Option Binding) → Among (map label_of (row_at v (own_label v n) o)) l → l ≡ own_label v n
  row-label n l None a = elim a [ ]
  row-label n l (Some b) (inl e) = e
  row-label n l (Some b) (inr a) = elim a [ ]

  row-once : (n : ℕ) (o : Option Binding) → Once (map label_of (row_at v (own_label v n) o))
  row-once n None = tt
  row-once n (Some b) = ((λ a. a), tt)

  below-label : (n : ℕ) (l : Label) → Among (map label_of (own_below v n)) l → l.0.number < n
  below-label zero l a = elim a [ ]
  below-label (suc n) l a =
      by (λ b. below-label n l b) (among-parts (map label_of (own_below v n)) (map label_of (own_row v n)) l (subst (λ (ls : List Label). Among ls l) (map-append label_of (own_below v n) (own_row v n)) a))
    where
      by : (Among (map label_of (own_below v n)) l → l.0.number < n) → Among (map label_of (own_below v n)) l ⊎ Among (map label_of (own_row v n)) l → l.0.number < suc n
      by before (inl b) = let lt = before b in omega (arith, lt)
      by before (inr b) = let e = ap (λ (m : Label). m.0.number) (row-label n l (bound_to v.bindings (own_label v n)) b) in omega (arith, e)

  below-once : (n : ℕ) → Once (map label_of (own_below v n))
  below-once zero = tt
  below-once (suc n) = subst Once (sym (map-append label_of (own_below v n) (own_row v n)))
      (once-append (map label_of (own_below v n)) (map label_of (own_row v n)) (below-once n) (row-once n (bound_to v.bindings (own_label v n)))
      (λ l a b. let lt = below-label n l a in let e = ap (λ (m : Label). m.0.number) (row-label n l (bound_to v.bindings (own_label v n)) b) in omega (arith, lt, e)))

  pub own-once : Once (map label_of (own_bindings v))
  unfolding own_bindings
  own-once = below-once v.names.number

  -- a label of the library, by its number
  is-own : (l : Label) → l.0.library ≡ v.names.library → l ≡ own_label v l.0.number
  is-own l e = λ i. record { 0 = record { library = e i; number = l.0.number } }

  pub own-bound : (l : Label) (b : Binding) → l.0.library ≡ v.names.library → l.0.number < v.names.number → bound_to v.bindings l ≡ Some b → Among (own_bindings v) (l, completed v l b)
  unfolding own_bindings
  own-bound l b e lt k =
      let is = is-own l e in
      subst (λ (m : Label). Among (own_below v v.names.number) (m, completed v m b)) (sym is) (own-there v.names.number l.0.number b lt (subst (λ (m : Label). bound_to v.bindings m ≡ Some b) is k))

-- The lines of a record.

run-within : (xs : List Line) → IsWithin (flat_map line_variables xs) (flat_map line_binders xs)
run-within [] = same-within []
run-within (x ∷ xs) =
    once-within (line_variables x) (flat_map line_variables xs) (line_binders x) (flat_map line_binders xs)
    (once-within (line_labels x) (bound_variables (line_core x)) (line_labels x) (binders (line_core x)) (same-within (line_labels x)) (variables-within (line_core x))) (run-within xs)

module _ (own : LibName) (given : List Label) (start : State) (r : CompiledLibrary) (runs : Runs own given start r) (numbered : IsNumbered own runs.ended) (apart : IndicesApart own runs.ended) (once : Once (run_binders r)) (mine : Each (λ l. l.0.library ≡ r.name) (run_binders r)) where
  abbrev v : State
  v = runs.ended

  bindings-once : Once (bound_labels r)
  bindings-once = subst (λ (bs : List (Label × Binding)). Once (map label_of bs)) (sym runs.bindings) (own-once v)

  -- what is known of a variable
  abbrev Known : Label → Type 0
  Known l = IsOwn own l.0 × IsLeveled v.bindings 0 l

  found : (l : Label) (b : Binding) → IsOwn own l.0 → bound_to v.bindings l ≡ Some b → Among r.bindings (l, completed v l b)
  found l b o e = subst (λ (bs : List (Label × Binding)). Among bs (l, completed v l b)) (sym runs.bindings) (own-bound v l b (o ∙ sym runs.next) (numbered l b o e) e)

  index-is : (l : Label) (w : VarInfo) → IsOwn own l.0 → bound_to v.bindings l ≡ Some (binding.Variable w) → index_of r l ≡ w.index
  index-is l w o e = ap index_in (lookup-there r.bindings l (completed v l (binding.Variable w)) bindings-once (found l (binding.Variable w) o e))

  lines-leveled : (xs : List Line) → Each (λ x. Within v.bindings 0 0 deepest (line_core x)) xs → Each (IsDefined v.bindings 0 true) (flat_map line_labels xs) → Each (IsLeveled v.bindings 0) (flat_map line_variables xs)
  lines-leveled [] h k = tt
  lines-leveled (x ∷ xs) h k =
      each-append (IsLeveled v.bindings 0) (line_variables x) (flat_map line_variables xs)
      (each-append (IsLeveled v.bindings 0) (line_labels x) (bound_variables (line_core x))
      (each-of (IsLeveled v.bindings 0) (line_labels x) (λ l a. (true, each-at (IsDefined v.bindings 0 true) (flat_map line_labels (x ∷ xs)) l k (among-first (line_labels x) (flat_map line_labels xs) l a))))
      (each-flat (IsLeveled v.bindings 0) own_variables (parts (line_core x)) h.0.indexed))
      (lines-leveled xs h.1 (each-of (IsDefined v.bindings 0 true) (flat_map line_labels xs) (λ l a. each-at (IsDefined v.bindings 0 true) (flat_map line_labels (x ∷ xs)) l k (among-second (line_labels x) (flat_map line_labels xs) l a))))

  all-leveled : Each (IsLeveled v.bindings 0) (run_variables r)
  all-leveled = lines-leveled r.run runs.nests runs.labels

  known : (l : Label) → Among (run_variables r) l → Known l
  known l a = (each-at (λ (m : Label). m.0.library ≡ r.name) (run_binders r) l mine ((run-within r.run).among l a) ∙ runs.name, each-at (IsLeveled v.bindings 0) (run_variables r) l all-leveled a)

  there : (o : Option ℕ) → IsThere o → (n : ℕ) × (o ≡ Some n)
  there None h = elim h [ ]
  there (Some n) h = (n, refl)

  has-index : (l : Label) → Among (run_variables r) l → IsThere (index_of r l)
  has-index l a =
      let k = known l a in
      let d = k.1.1 in
      subst IsThere (sym (index-is l d.variable k.0 d.bound)) (d.indexed refl)

  same-index : (l m : Label) → Among (run_variables r) l → Among (run_variables r) m → index_of r l ≡ index_of r m → l ≡ m
  same-index l m a b e =
      let k = known l a in
      let j = known m b in
      let x = index-is l k.1.1.variable k.0 k.1.1.bound in
      let y = index-is m j.1.1.variable j.0 j.1.1.bound in
      let n = there k.1.1.variable.index (k.1.1.indexed refl) in
      apart.apart l m k.1.1.variable j.1.1.variable n.0 k.0 j.0 k.1.1.bound j.1.1.bound n.1 (sym y ∙ sym e ∙ x ∙ n.1)

  is-top : (l : Label) → Among (defined r) l → Among (tops r) l
  is-top l a =
      let d = each-at (IsDefined v.bindings 0 true) (defined r) l runs.labels a in
      let o : IsOwn own l.0 = each-at (λ (m : Label). m.0.library ≡ r.name) (run_binders r) l mine (defined-bound r.run l a) ∙ runs.name in
      among-flat top_label r.bindings (l, completed v l (binding.Variable d.variable)) l (found l (binding.Variable d.variable) o d.bound) (shown d.variable.top d.at_top)
    where
      shown : (t : Bool) → t ≡ true → Among (if t then l ∷ [] else []) l
      shown true e = inl refl
      shown false e = absurd (cc)

      defined-bound : (xs : List Line) (m : Label) → Among (flat_map line_labels xs) m → Among (flat_map line_binders xs) m
      defined-bound [] m b = elim b [ ]
      defined-bound (x ∷ xs) m b = by (among-parts (line_labels x) (flat_map line_labels xs) m b) (λ c. defined-bound xs m c)
        where
          by : Among (line_labels x) m ⊎ Among (flat_map line_labels xs) m → (Among (flat_map line_labels xs) m → Among (flat_map line_binders xs) m) → Among (line_binders x ++ flat_map line_binders xs) m
          by (inl c) rest = among-first (line_binders x) (flat_map line_binders xs) m (among-first (line_labels x) (binders (line_core x)) m c)
          by (inr c) rest = among-second (line_binders x) (flat_map line_binders xs) m (rest c)

  pub has-indices : HasIndices r
  has-indices = record {
    bindings_once = bindings-once;
    indexed = each-mapped IsThere (index_of r) (run_variables r) (each-of (λ l. IsThere (index_of r l)) (run_variables r) has-index);
    variables_once = (run-within r.run).once once;
    indexed_once = once-map (index_of r) (run_variables r) ((run-within r.run).once once) same-index;
    defined_top = each-of (Among (tops r)) (defined r) is-top;
  }

pub variables-indexed : VariablesHaveIndices
variables-indexed own records imports body codes r h e =
    let runs = record-runs own records imports body codes r h e in
    let good = records-good own records imports body codes r h e in
    let start = started own records imports codes in
    has-indices own (flat_map defined records) start r runs (runs.grows.numbered (started-sound own records imports codes h).numbered) (runs.grows.indices (started-indices own records imports codes h)) good.0.bound_once good.0.bound_here
