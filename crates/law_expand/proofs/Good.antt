-- What holds of core code that expansion gives: it is closed, binds and numbers only what was made meanwhile, each once, and is of its form.
use Rattle.std.proofs.Common.{◌≡◌, ℕ, suc, ◌≤◌, ◌<◌, Bool, true, false, List, [], ◌∷◌, ◌++◌, map, Option, None, Some, refl, sym, ◌∙◌, ap, subst, arith, inl, inr, append-nil, append_assoc}
use Rattle.std.specs.Prelude.{◌⊎◌}
use Rattle.std.specs.List.{flat_map}
use Rattle.std.proofs.lemmas.Grind.{flat_map-append}
use Rattle.base_data.proofs.ElementLemmas.{each-at, each-append, among-parts}
use Rattle.base_data.specs.Datum.{PlainDatum}
use Rattle.base_data.specs.Elements.{Each, Among, Once}
use Rattle.base_data.specs.Named.{Named}
use Rattle.base_data.specs.declared.library.LibName.{LibName}
use Rattle.base_data.specs.declared.name.CodeNo.{CodeNo}
use Rattle.base_data.specs.declared.name.Label.{Label}
use Rattle.base_data.specs.declared.op.Op.{Op}
use Rattle.base_data.specs.declared.span.Span.{Span}
use Rattle.core_language.specs.Core.{PlainCore, quoted, variable, primitive, one_armed, two_armed, assignment, sequence, procedure, letrec, call, instance, matching}
use Rattle.core_language.specs.Core.{PlainCores, more, PlainInits, no_init, init, PlainCases, PlainClauses, no_clause, cores}
use Rattle.core_language.specs.Bindings.{bound_to}
use Rattle.core_language.specs.CoreView.{inits, cases, clause_on, clauses}
use Rattle.core_language.specs.Pattern.{PlainPattern}
use Rattle.core_language.specs.Template.{PlainTemplate}
use Rattle.core_language.specs.declared.binding.Binding.{Binding}
use Rattle.core_language.specs.declared.binding.Binding.TheVariants as binding
use Rattle.core_language.specs.declared.binding.VarInfo.{VarInfo}
use Rattle.core_language.specs.declared.code.Clause.{Clause}
use Rattle.core_language.specs.References.{variables, formals_labels, binders, all_binders, init_binders, case_binders, clause_binders}
use Rattle.core_language.specs.declared.code.Init.{Init}
use Rattle.core_language.specs.declared.code.Lambda.{Lambda}
use Rattle.law_core.specs.Parts.{parts, all_parts, init_parts, case_parts, clause_parts, core_count, case_count, init_labels, clause_patterns, literals, own_number}
use Rattle.law_core.specs.Scope.{Closed, AllClosed, InitsClosed, CasesClosed, ClausesClosed, template_labels}
use Rattle.law_core.specs.Templates.{Depths, Suits, TemplatesSuit, AllSuit, InitsSuit, CasesSuit, ClausesSuit, depths}
use Rattle.law_core.specs.WellMade.{IsLeaf}
use Rattle.law_expand.specs.States.{IsPrimitive}
use Rattle.law_expand.proofs.Fresh.{Made, FreshLabels, FreshCodes, label_name, code_name, Apart, each-map, once-append, fresh-none, fresh-one, fresh-wider, fresh-append}

-- one thing behind another, each made from where the one before it ended
abbrev pub InTurn : {A : Type 0} → (ℕ → ℕ → A → Type 0) → ℕ → ℕ → List A → Type 0
InTurn P a b [] = a ≤ b
InTurn P a b (x ∷ xs) = (m : ℕ) × (P a m x × InTurn P m b xs)

abbrev pub Bindings : Type 0
Bindings = List (Label × Binding)

-- what is bound so stays so
abbrev pub Extends : Bindings → Bindings → Type 0
Extends bs cs = (l : Label) (b : Binding) → bound_to bs l ≡ Some b → bound_to cs l ≡ Some b

abbrev pub IsVariableIn : Bindings → Label → Type 0
IsVariableIn bs l = (v : VarInfo) × (bound_to bs l ≡ Some (binding.Variable v))

abbrev pub IsPatternIn : Bindings → Label → Type 0
IsPatternIn bs l = (level : ℕ) × ((depth : ℕ) × (bound_to bs l ≡ Some (binding.PatternVariable level depth)))

-- a pattern: its literals are identifiers, and its variables are bound to pattern variables
pub record PatternFits (bs : Bindings) (p : PlainPattern) : Type 0 where
  pub leaves : Each IsLeaf (literals p)
  pub bound : Each (IsPatternIn bs) (variables p)

-- A sequence has two parts or more, and a `lambda` one case. References and assignments are of variables.
abbrev pub IsBasic : Bindings → PlainCore → Type 0
IsBasic bs (quoted d) = Unit {0}
IsBasic bs (variable l) = IsVariableIn bs l
IsBasic bs (primitive o) = IsPrimitive o
IsBasic bs (one_armed c d) = Unit {0}
IsBasic bs (two_armed c d e) = Unit {0}
IsBasic bs (assignment l c) = IsVariableIn bs l
IsBasic bs (sequence cs) = 2 ≤ core_count cs
IsBasic bs (procedure n cs true) = case_count cs ≡ 1
IsBasic bs (procedure n cs false) = Unit {0}
IsBasic bs (letrec o is c) = Unit {0}
IsBasic bs (call c cs) = Unit {0}
IsBasic bs (instance t s) = Unit {0}
IsBasic bs (matching c cs s) = Each (PatternFits bs) (clause_patterns cs)

-- the expressions in core code: their codes were made meanwhile, and each is of its form
pub record Inner (own : LibName) (bs : Bindings) (a b : ℕ) (ps : List PlainCore) : Type 0 where
  pub up : a ≤ b
  pub codes : FreshCodes own a b (flat_map own_number ps)
  pub basic : Each (IsBasic bs) ps

pub record Good (own : LibName) (bs : Bindings) (vs : Depths) (ls : List Label) (a b : ℕ) (c : PlainCore) : Type 0 where
  pub closed : Closed ls c
  pub suits : TemplatesSuit vs c
  pub binders : FreshLabels own a b (binders c)
  pub inner : Inner own bs a b (parts c)

pub record GoodCores (own : LibName) (bs : Bindings) (vs : Depths) (ls : List Label) (a b : ℕ) (cs : PlainCores) : Type 0 where
  pub closed : AllClosed ls cs
  pub suits : AllSuit vs cs
  pub binders : FreshLabels own a b (all_binders cs)
  pub inner : Inner own bs a b (all_parts cs)

-- one case of a procedure
pub record GoodCase (own : LibName) (bs : Bindings) (vs : Depths) (ls : List Label) (a b : ℕ) (c : Lambda) : Type 0 where
  pub closed : Closed (formals_labels c.formals ++ ls) c.body
  pub suits : TemplatesSuit vs c.body
  pub binders : FreshLabels own a b (formals_labels c.formals ++ binders c.body)
  pub inner : Inner own bs a b (parts c.body)

pub record GoodCases (own : LibName) (bs : Bindings) (vs : Depths) (ls : List Label) (a b : ℕ) (cs : PlainCases) : Type 0 where
  pub closed : CasesClosed ls cs
  pub suits : CasesSuit vs cs
  pub binders : FreshLabels own a b (case_binders cs)
  pub inner : Inner own bs a b (case_parts cs)

module _ (own : LibName) (bs : Bindings) where
  pub labels-append : (a b c : ℕ) (xs ys : List Label) → a ≤ b → b ≤ c → FreshLabels own a b xs → FreshLabels own b c ys → FreshLabels own a c (xs ++ ys)
  labels-append a b c xs ys = fresh-append label_name own a b c xs ys

  pub no-labels : (a b : ℕ) → FreshLabels own a b []
  no-labels a b = fresh-none label_name own a b

  pub inner-none : (a b : ℕ) → a ≤ b → Inner own bs a b []
  inner-none a b le = record { up = le; codes = fresh-none code_name own a b; basic = tt }

  pub inner-append : (a b c : ℕ) (ps qs : List PlainCore) → Inner own bs a b ps → Inner own bs b c qs → Inner own bs a c (ps ++ qs)
  inner-append a b c ps qs h k = record {
    up = omega (arith, h.up, k.up);
    codes = subst (FreshCodes own a c) (sym (flat_map-append own_number ps qs)) (fresh-append code_name own a b c (flat_map own_number ps) (flat_map own_number qs) h.up k.up h.codes k.codes);
    basic = each-append (IsBasic bs) ps qs h.basic k.basic;
  }

  -- an expression round others, which has no number itself
  pub inner-round : (a b : ℕ) (p : PlainCore) (ps : List PlainCore) → own_number p ≡ [] → IsBasic bs p → Inner own bs a b ps → Inner own bs a b (p ∷ ps)
  inner-round a b p ps e k h = record { up = h.up; codes = subst (λ ns. FreshCodes own a b (ns ++ flat_map own_number ps)) (sym e) h.codes; basic = (k, h.basic) }

  module _ (vs : Depths) (ls : List Label) where
    pub good-quoted : (a b : ℕ) (d : PlainDatum) → a ≤ b → Good own bs vs ls a b (quoted d)
    good-quoted a b d le = record { closed = tt; suits = tt; binders = no-labels a b; inner = inner-round a b (quoted d) [] refl tt (inner-none a b le) }

    pub good-variable : (a b : ℕ) (l : Label) → a ≤ b → IsVariableIn bs l → Among ls l → Good own bs vs ls a b (variable l)
    good-variable a b l le at h = record { closed = h; suits = tt; binders = no-labels a b; inner = inner-round a b (variable l) [] refl at (inner-none a b le) }

    pub good-primitive : (a b : ℕ) (o : Op) → a ≤ b → IsPrimitive o → Good own bs vs ls a b (primitive o)
    good-primitive a b o le h = record { closed = tt; suits = tt; binders = no-labels a b; inner = inner-round a b (primitive o) [] refl h (inner-none a b le) }

    pub good-one_armed : (a m b : ℕ) (c d : PlainCore) → Good own bs vs ls a m c → Good own bs vs ls m b d → Good own bs vs ls a b (one_armed c d)
    good-one_armed a m b c d h k = record {
      closed = (h.closed, k.closed);
      suits = (h.suits, k.suits);
      binders = labels-append a m b (binders c) (binders d) h.inner.up k.inner.up h.binders k.binders;
      inner = inner-round a b (one_armed c d) (parts c ++ parts d) refl tt (inner-append a m b (parts c) (parts d) h.inner k.inner);
    }

    pub good-two_armed : (a m n b : ℕ) (c d e : PlainCore) → Good own bs vs ls a m c → Good own bs vs ls m n d → Good own bs vs ls n b e → Good own bs vs ls a b (two_armed c d e)
    good-two_armed a m n b c d e h k j =
        let both = labels-append m n b (binders d) (binders e) k.inner.up j.inner.up k.binders j.binders in
        let within = inner-append m n b (parts d) (parts e) k.inner j.inner in
        record {
          closed = (h.closed, (k.closed, j.closed));
          suits = (h.suits, (k.suits, j.suits));
          binders = labels-append a m b (binders c) (binders d ++ binders e) h.inner.up within.up h.binders both;
          inner = inner-round a b (two_armed c d e) (parts c ++ (parts d ++ parts e)) refl tt (inner-append a m b (parts c) (parts d ++ parts e) h.inner within);
        }

    pub good-assignment : (a b : ℕ) (l : Label) (c : PlainCore) → IsVariableIn bs l → Among ls l → Good own bs vs ls a b c → Good own bs vs ls a b (assignment l c)
    good-assignment a b l c at h k = record { closed = (h, k.closed); suits = k.suits; binders = k.binders; inner = inner-round a b (assignment l c) (parts c) refl at k.inner }

    pub good-cores : (a b : ℕ) (cs : List PlainCore) → InTurn (Good own bs vs ls) a b cs → GoodCores own bs vs ls a b (cores cs)
    good-cores a b [] h = record { closed = tt; suits = tt; binders = no-labels a b; inner = inner-none a b h }
    good-cores a b (c ∷ cs) (m, (h, k)) =
        let rest = good-cores m b cs k in
        record {
          closed = (h.closed, rest.closed);
          suits = (h.suits, rest.suits);
          binders = labels-append a m b (binders c) (all_binders (cores cs)) h.inner.up rest.inner.up h.binders rest.binders;
          inner = inner-append a m b (parts c) (all_parts (cores cs)) h.inner rest.inner;
        }

    pub good-sequence : (a b : ℕ) (c d : PlainCore) (cs : List PlainCore) → InTurn (Good own bs vs ls) a b (c ∷ (d ∷ cs)) → Good own bs vs ls a b (sequence (cores (c ∷ (d ∷ cs))))
    good-sequence a b c d cs h =
        let all = good-cores a b (c ∷ (d ∷ cs)) h in
        record { closed = all.closed; suits = all.suits; binders = all.binders; inner = inner-round a b (sequence (cores (c ∷ (d ∷ cs)))) (all_parts (cores (c ∷ (d ∷ cs)))) refl (omega arith) all.inner }

    pub good-call : (a m b : ℕ) (c : PlainCore) (cs : List PlainCore) → Good own bs vs ls a m c → InTurn (Good own bs vs ls) m b cs → Good own bs vs ls a b (call c (cores cs))
    good-call a m b c cs h k =
        let all = good-cores m b cs k in
        record {
          closed = (h.closed, all.closed);
          suits = (h.suits, all.suits);
          binders = labels-append a m b (binders c) (all_binders (cores cs)) h.inner.up all.inner.up h.binders all.binders;
          inner = inner-round a b (call c (cores cs)) (parts c ++ all_parts (cores cs)) refl tt (inner-append a m b (parts c) (all_parts (cores cs)) h.inner all.inner);
        }

    pub good-cases : (a b : ℕ) (cs : List Lambda) → InTurn (GoodCase own bs vs ls) a b cs → GoodCases own bs vs ls a b (cases cs)
    good-cases a b [] h = record { closed = tt; suits = tt; binders = no-labels a b; inner = inner-none a b h }
    good-cases a b (c ∷ cs) (m, (h, k)) =
        let rest = good-cases m b cs k in
        record {
          closed = (h.closed, rest.closed);
          suits = (h.suits, rest.suits);
          binders = subst (FreshLabels own a b) (append_assoc (formals_labels c.formals) (binders c.body) (case_binders (cases cs)))
              (labels-append a m b (formals_labels c.formals ++ binders c.body) (case_binders (cases cs)) h.inner.up rest.inner.up h.binders rest.binders);
          inner = inner-append a m b (parts c.body) (case_parts (cases cs)) h.inner rest.inner;
        }

    -- the number of a procedure's code comes first
    numbered : (a b : ℕ) (n : CodeNo) (cs : PlainCases) (plain : Bool) → Made own a (suc a) n.0 → IsBasic bs (procedure n cs plain) → GoodCases own bs vs ls (suc a) b cs → Good own bs vs ls a b (procedure n cs plain)
    numbered a b n cs plain made form h = record {
      closed = h.closed;
      suits = h.suits;
      binders = fresh-wider label_name own (suc a) b a b (case_binders cs) (omega arith) (omega arith) h.binders;
      inner = record {
        up = let le = h.inner.up in omega (arith, le);
        codes = fresh-append code_name own a (suc a) b (n ∷ []) (flat_map own_number (case_parts cs)) (omega arith) h.inner.up (fresh-one code_name own a (suc a) n made) h.inner.codes;
        basic = (form, h.inner.basic);
      };
    }

    pub good-lambda : (a b : ℕ) (n : CodeNo) (c : Lambda) → Made own a (suc a) n.0 → GoodCase own bs vs ls (suc a) b c → Good own bs vs ls a b (procedure n (cases (c ∷ [])) true)
    good-lambda a b n c made h = numbered a b n (cases (c ∷ [])) true made refl (good-cases (suc a) b (c ∷ []) (b, (h, omega arith)))

    pub good-case_lambda : (a b : ℕ) (n : CodeNo) (cs : List Lambda) → Made own a (suc a) n.0 → InTurn (GoodCase own bs vs ls) (suc a) b cs → Good own bs vs ls a b (procedure n (cases cs) false)
    good-case_lambda a b n cs made h = numbered a b n (cases cs) false made tt (good-cases (suc a) b cs h)

-- The values of a `letrec`, whose variables were made before all of them.

abbrev pub label_of : Init → Label
label_of i = i.label

abbrev pub GoodInit : LibName → Bindings → Depths → List Label → ℕ → ℕ → Init → Type 0
GoodInit own bs vs ls a b i = Good own bs vs ls a b i.value

-- one of some labels, or made later
abbrev pub IsFrom : LibName → List Label → ℕ → ℕ → Label → Type 0
IsFrom own ls a b l = Among ls l ⊎ Made own a b l.0

pub record GoodInits (own : LibName) (bs : Bindings) (vs : Depths) (ls : List Label) (labels : List Label) (a b : ℕ) (is : PlainInits) : Type 0 where
  pub closed : InitsClosed ls is
  pub suits : InitsSuit vs is
  pub from : Each (IsFrom own labels a b) (init_binders is)
  pub once : Once (init_binders is)
  pub inner : Inner own bs a b (init_parts is)

-- made before a number
abbrev pub Before : ℕ → Label → Type 0
Before n l = l.0.number < n

module _ (own : LibName) (bs : Bindings) (vs : Depths) (ls : List Label) where
  made-wider : (a b c d : ℕ) (n : Named) → c ≤ a → b ≤ d → Made own a b n → Made own c d n
  made-wider a b c d n low high x = record { library = x.library; low = omega (arith, low, x.low); high = omega (arith, high, x.high) }

  pub inner-wider : (a b c d : ℕ) (ps : List PlainCore) → c ≤ a → b ≤ d → Inner own bs a b ps → Inner own bs c d ps
  inner-wider a b c d ps low high h = record {
    up = let u = h.up in omega (arith, u, low, high);
    codes = fresh-wider code_name own a b c d (flat_map own_number ps) low high h.codes;
    basic = h.basic;
  }

  pub good-wider : (a b c d : ℕ) (x : PlainCore) → c ≤ a → b ≤ d → Good own bs vs ls a b x → Good own bs vs ls c d x
  good-wider a b c d x low high h = record {
    closed = h.closed;
    suits = h.suits;
    binders = fresh-wider label_name own a b c d (binders x) low high h.binders;
    inner = inner-wider a b c d (parts x) low high h.inner;
  }

  pub cores-wider : (a b c d : ℕ) (xs : PlainCores) → c ≤ a → b ≤ d → GoodCores own bs vs ls a b xs → GoodCores own bs vs ls c d xs
  cores-wider a b c d xs low high h = record {
    closed = h.closed;
    suits = h.suits;
    binders = fresh-wider label_name own a b c d (all_binders xs) low high h.binders;
    inner = inner-wider a b c d (all_parts xs) low high h.inner;
  }

  from-wider : (labels wide : List Label) (a b c d : ℕ) → ((l : Label) → Among labels l → Among wide l) → c ≤ a → b ≤ d → (l : Label) → IsFrom own labels a b l → IsFrom own wide c d l
  from-wider labels wide a b c d w low high l (inl x) = inl (w l x)
  from-wider labels wide a b c d w low high l (inr x) = inr (made-wider a b c d l.0 low high x)

  pub inits-wider : (labels : List Label) (a b c d : ℕ) (is : PlainInits) → c ≤ a → b ≤ d → GoodInits own bs vs ls labels a b is → GoodInits own bs vs ls labels c d is
  inits-wider labels a b c d is low high h = record {
    closed = h.closed;
    suits = h.suits;
    from = each-map (IsFrom own labels a b) (IsFrom own labels c d) (init_binders is) h.from (from-wider labels labels a b c d (λ l x. x) low high);
    once = h.once;
    inner = inner-wider a b c d (init_parts is) low high h.inner;
  }

  -- what is among labels that were made before a number, or made from a later one, isn't made in between
  pub not-between : (labels : List Label) (first a m b : ℕ) (l : Label) → first ≤ a → Each (Before first) labels → IsFrom own labels m b l → Made own a m l.0 → ⊥
  not-between labels first a m b l le before (inl x) y = let z = each-at (Before first) labels l before x in omega (arith, z, le, y.low)
  not-between labels first a m b l le before (inr x) y = omega (arith, x.low, y.high)

  not-again : (labels : List Label) (m b : ℕ) (l : Label) → (Among labels l → ⊥) → l.0.number < m → IsFrom own labels m b l → ⊥
  not-again labels m b l new low (inl x) = new x
  not-again labels m b l new low (inr x) = omega (arith, x.low, low)

  pub inits-none : (labels : List Label) (a b : ℕ) → a ≤ b → GoodInits own bs vs ls labels a b no_init
  inits-none labels a b le = record { closed = tt; suits = tt; from = tt; once = tt; inner = inner-none own bs a b le }

  -- one more at the front
  pub inits-cons : (first a m b : ℕ) (l : Label) (c : PlainCore) (labels : List Label) (is : PlainInits) → first ≤ a → Each (Before first) (l ∷ labels) → Once (l ∷ labels)
      → Good own bs vs ls a m c → GoodInits own bs vs ls labels m b is → GoodInits own bs vs ls (l ∷ labels) a b (init l c is)
  inits-cons first a m b l c labels is le before once h rest = record {
    closed = (h.closed, rest.closed);
    suits = (h.suits, rest.suits);
    from = (
      inl (inl refl),
      each-append (IsFrom own (l ∷ labels) a b) (binders c) (init_binders is)
          (each-map (λ n. Made own a m n.0) (IsFrom own (l ∷ labels) a b) (binders c) h.binders.made (λ n d. inr (made-wider a m a b n.0 (omega arith) rest.inner.up d)))
          (each-map (IsFrom own labels m b) (IsFrom own (l ∷ labels) a b) (init_binders is) rest.from (from-wider labels (l ∷ labels) m b a b (λ n x. inr x) h.inner.up (omega arith))),
    );
    once = (
      (λ d. new (among-parts (binders c) (init_binders is) l d)),
      once-append (binders c) (init_binders is) h.binders.once rest.once
          (λ n d e. not-between labels first a m b n le before.1 (each-at (IsFrom own labels m b) (init_binders is) n rest.from e) (each-at (λ (x : Label). Made own a m x.0) (binders c) n h.binders.made d)),
    );
    inner = inner-append own bs a m b (parts c) (init_parts is) h.inner rest.inner;
  }
    where
      new : Among (binders c) l ⊎ Among (init_binders is) l → ⊥
      new (inl d) = let x = each-at (λ (n : Label). Made own a m n.0) (binders c) l h.binders.made d in omega (arith, x.low, before.0, le)
      new (inr d) = not-again labels m b l once.0 (let u = h.inner.up in omega (arith, before.0, le, u)) (each-at (IsFrom own labels m b) (init_binders is) l rest.from d)

  pub good-inits : (first a b : ℕ) (is : List Init) → first ≤ a → Each (Before first) (map label_of is) → Once (map label_of is) → InTurn (GoodInit own bs vs ls) a b is → GoodInits own bs vs ls (map label_of is) a b (inits is)
  good-inits first a b [] le before once h = inits-none [] a b h
  good-inits first a b (i ∷ is) le before once (m, (h, k)) =
      inits-cons first a m b i.label i.value (map label_of is) (inits is) le before once h (good-inits first m b is (let u = h.inner.up in omega (arith, le, u)) before.1 once.1 k)

  -- one more expression at the front
  pub cores-cons : (a m b : ℕ) (c : PlainCore) (cs : PlainCores) → Good own bs vs ls a m c → GoodCores own bs vs ls m b cs → GoodCores own bs vs ls a b (more c cs)
  cores-cons a m b c cs h rest = record {
    closed = (h.closed, rest.closed);
    suits = (h.suits, rest.suits);
    binders = labels-append own bs a m b (binders c) (all_binders cs) h.inner.up rest.inner.up h.binders rest.binders;
    inner = inner-append own bs a m b (parts c) (all_parts cs) h.inner rest.inner;
  }

-- A `letrec`: its variables were made first, and no value shares a name with its body.
module _ (own : LibName) (bs : Bindings) (vs : Depths) (ls : List Label) where
  pub good-letrec : (a m b : ℕ) (o : Bool) (labels : List Label) (is : PlainInits) (c : PlainCore) → init_labels is ≡ labels → a ≤ m → FreshLabels own a m labels
      → GoodInits own bs vs (labels ++ ls) labels m b is → Good own bs vs (labels ++ ls) m b c → Apart (init_binders is) (binders c) → Apart (flat_map own_number (init_parts is)) (flat_map own_number (parts c))
      → Good own bs vs ls a b (letrec o is c)
  good-letrec a m b o labels is c e le fresh h k apart codes = record {
    closed = (subst (λ (ns : List Label). InitsClosed (ns ++ ls) is) (sym e) h.closed, subst (λ (ns : List Label). Closed (ns ++ ls) c) (sym e) k.closed);
    suits = (h.suits, k.suits);
    binders = record {
      made = each-append (λ l. Made own a b l.0) (init_binders is) (binders c)
          (each-map (IsFrom own labels m b) (λ l. Made own a b l.0) (init_binders is) h.from made)
          (each-map (λ l. Made own m b l.0) (λ l. Made own a b l.0) (binders c) k.binders.made (λ l. later l));
      once = once-append (init_binders is) (binders c) h.once k.binders.once apart;
    };
    inner = inner-round own bs a b (letrec o is c) (init_parts is ++ parts c) refl tt (record {
      up = let u = h.inner.up in omega (arith, le, u);
      codes = subst (FreshCodes own a b) (sym (flat_map-append own_number (init_parts is) (parts c))) (record {
        made = each-append (λ n. Made own a b n.0) (flat_map own_number (init_parts is)) (flat_map own_number (parts c))
            (each-map (λ n. Made own m b n.0) (λ n. Made own a b n.0) (flat_map own_number (init_parts is)) h.inner.codes.made (λ n. sooner n.0))
            (each-map (λ n. Made own m b n.0) (λ n. Made own a b n.0) (flat_map own_number (parts c)) k.inner.codes.made (λ n. sooner n.0));
        once = once-append (flat_map own_number (init_parts is)) (flat_map own_number (parts c)) h.inner.codes.once k.inner.codes.once codes;
      });
      basic = each-append (IsBasic bs) (init_parts is) (parts c) h.inner.basic k.inner.basic;
    });
  }
    where
      sooner : (n : Named) → Made own m b n → Made own a b n
      sooner n x = record { library = x.library; low = omega (arith, x.low, le); high = x.high }

      later : (l : Label) → Made own m b l.0 → Made own a b l.0
      later l x = sooner l.0 x

      made : (l : Label) → IsFrom own labels m b l → Made own a b l.0
      made l (inl x) =
          let y = each-at (λ (n : Label). Made own a m n.0) labels l fresh.made x in
          record { library = y.library; low = y.low; high = let u = h.inner.up in omega (arith, y.high, u) }
      made l (inr x) = later l x

-- Clauses.

pub record GoodClauses (own : LibName) (bs : Bindings) (vs : Depths) (ls : List Label) (a b : ℕ) (cs : PlainClauses) : Type 0 where
  pub closed : ClausesClosed ls cs
  pub suits : ClausesSuit vs cs
  pub binders : FreshLabels own a b (clause_binders cs)
  pub inner : Inner own bs a b (clause_parts cs)
  pub patterns : Each (PatternFits bs) (clause_patterns cs)

module _ (own : LibName) (bs : Bindings) (vs : Depths) (ls : List Label) where
  abbrev pub GoodFender : ℕ → ℕ → Option PlainCore → Type 0
  GoodFender a b None = a ≤ b
  GoodFender a b (Some c) = Good own bs vs ls a b c

  -- one clause alone
  abbrev pub GoodClause : ℕ → ℕ → Clause → Type 0
  GoodClause a b c = GoodClauses own bs vs ls a b (clause_on c.pattern c.fender c.output no_clause)

  append-last : {A : Type 0} (xs ys zs : List A) → (xs ++ (ys ++ [])) ++ zs ≡ xs ++ (ys ++ zs)
  append-last xs ys zs = append_assoc xs (ys ++ []) zs ∙ ap (λ ws. xs ++ (ws ++ zs)) (append-nil ys)

  pub clauses-sooner : (a m b : ℕ) (cs : PlainClauses) → a ≤ m → GoodClauses own bs vs ls m b cs → GoodClauses own bs vs ls a b cs
  clauses-sooner a m b cs le h = record {
    closed = h.closed;
    suits = h.suits;
    binders = fresh-wider label_name own m b a b (clause_binders cs) le (omega arith) h.binders;
    inner = inner-wider own bs vs ls m b a b (clause_parts cs) le (omega arith) h.inner;
    patterns = h.patterns;
  }

  pub clauses-none : (a b : ℕ) → a ≤ b → GoodClauses own bs vs ls a b no_clause
  clauses-none a b le = record { closed = tt; suits = tt; binders = no-labels own bs a b; inner = inner-none own bs a b le; patterns = tt }

  -- a clause, and those after it
  pub clause-then : (a m b : ℕ) (p : PlainPattern) (f : Option PlainCore) (o : PlainCore) (cs : PlainClauses) → GoodClauses own bs vs ls a m (clause_on p f o no_clause) → GoodClauses own bs vs ls m b cs → GoodClauses own bs vs ls a b (clause_on p f o cs)
  clause-then a m b p None o cs h k = record {
    closed = (h.closed.0, k.closed);
    suits = (h.suits.0, k.suits);
    binders = subst (FreshLabels own a b) (append-last (variables p) (binders o) (clause_binders cs)) (labels-append own bs a m b (variables p ++ (binders o ++ [])) (clause_binders cs) h.inner.up k.inner.up h.binders k.binders);
    inner = subst (Inner own bs a b) (append-last [] (parts o) (clause_parts cs)) (inner-append own bs a m b (parts o ++ []) (clause_parts cs) h.inner k.inner);
    patterns = (h.patterns.0, k.patterns);
  }
  clause-then a m b p (Some f) o cs h k = record {
    closed = (h.closed.0, (h.closed.1.0, k.closed));
    suits = (h.suits.0, (h.suits.1.0, k.suits));
    binders = subst (FreshLabels own a b) (append_assoc (variables p) (binders f ++ (binders o ++ [])) (clause_binders cs) ∙ ap (λ xs. variables p ++ xs) (append-last (binders f) (binders o) (clause_binders cs)))
        (labels-append own bs a m b (variables p ++ (binders f ++ (binders o ++ []))) (clause_binders cs) h.inner.up k.inner.up h.binders k.binders);
    inner = subst (Inner own bs a b) (append-last (parts f) (parts o) (clause_parts cs)) (inner-append own bs a m b (parts f ++ (parts o ++ [])) (clause_parts cs) h.inner k.inner);
    patterns = (h.patterns.0, k.patterns);
  }

  pub good-clauses : (a b : ℕ) (xs : List Clause) → InTurn GoodClause a b xs → GoodClauses own bs vs ls a b (clauses xs)
  good-clauses a b [] h = clauses-none a b h
  good-clauses a b (c ∷ xs) (m, (h, k)) = clause-then a m b c.pattern c.fender c.output (clauses xs) h (good-clauses m b xs k)

  pub good-matching : (a m b : ℕ) (c : PlainCore) (cs : PlainClauses) (span : Span) → Good own bs vs ls a m c → GoodClauses own bs vs ls m b cs → Good own bs vs ls a b (matching c cs span)
  good-matching a m b c cs span h k = record {
    closed = (h.closed, k.closed);
    suits = (h.suits, k.suits);
    binders = labels-append own bs a m b (binders c) (clause_binders cs) h.inner.up k.inner.up h.binders k.binders;
    inner = inner-round own bs a b (matching c cs span) (parts c ++ clause_parts cs) refl k.patterns (inner-append own bs a m b (parts c) (clause_parts cs) h.inner k.inner);
  }

  pub good-instance : (a b : ℕ) (t : PlainTemplate) (span : Span) → a ≤ b → Each (Among ls) (template_labels t) → Suits vs 0 t → Good own bs vs ls a b (instance t span)
  good-instance a b t span le h k = record { closed = h; suits = k; binders = no-labels own bs a b; inner = inner-round own bs a b (instance t span) [] refl tt (inner-none own bs a b le) }

-- a clause, from its pattern, its fender and its output
pub good-clause : (own : LibName) (bs : Bindings) (vs : Depths) (ls : List Label) (a m n b : ℕ) (p : PlainPattern) (f : Option PlainCore) (o : PlainCore) → a ≤ m → FreshLabels own a m (variables p) → PatternFits bs p
    → GoodFender own bs (depths 0 p ++ vs) (variables p ++ ls) m n f → Good own bs (depths 0 p ++ vs) (variables p ++ ls) n b o → GoodClauses own bs vs ls a b (clause_on p f o no_clause)
good-clause own bs vs ls a m n b p None o le fresh fits h k = record {
  closed = (k.closed, tt);
  suits = (k.suits, tt);
  binders = subst (λ xs. FreshLabels own a b (variables p ++ xs)) (sym (append-nil (binders o)))
      (labels-append own bs a m b (variables p) (binders o) le (let u = k.inner.up in omega (arith, h, u)) fresh (fresh-wider label_name own n b m b (binders o) h (omega arith) k.binders));
  inner = subst (Inner own bs a b) (sym (append-nil (parts o))) (inner-wider own bs vs ls n b a b (parts o) (omega (arith, le, h)) (omega arith) k.inner);
  patterns = (fits, tt);
}
good-clause own bs vs ls a m n b p (Some f) o le fresh fits h k = record {
  closed = (h.closed, (k.closed, tt));
  suits = (h.suits, (k.suits, tt));
  binders = subst (λ xs. FreshLabels own a b (variables p ++ (binders f ++ xs))) (sym (append-nil (binders o)))
      (labels-append own bs a m b (variables p) (binders f ++ binders o) le (let u = k.inner.up in let v = h.inner.up in omega (arith, v, u)) fresh (labels-append own bs m n b (binders f) (binders o) h.inner.up k.inner.up h.binders k.binders));
  inner = subst (λ xs. Inner own bs a b (parts f ++ xs)) (sym (append-nil (parts o))) (inner-wider own bs vs ls m b a b (parts f ++ parts o) le (omega arith) (inner-append own bs m n b (parts f) (parts o) h.inner k.inner));
  patterns = (fits, tt);
}

-- More bindings.

module _ (own : LibName) (bs cs : Bindings) (ext : Extends bs cs) where
  variable-grown : (l : Label) → IsVariableIn bs l → IsVariableIn cs l
  variable-grown l (v, e) = (v, ext l (binding.Variable v) e)

  pattern-grown : (p : PlainPattern) → PatternFits bs p → PatternFits cs p
  pattern-grown p h = record { leaves = h.leaves; bound = each-map (IsPatternIn bs) (IsPatternIn cs) (variables p) h.bound (λ l x. (x.0, (x.1.0, ext l (binding.PatternVariable x.0 x.1.0) x.1.1))) }

  basic-grown : (p : PlainCore) → IsBasic bs p → IsBasic cs p
  basic-grown (quoted d) h = tt
  basic-grown (variable l) h = variable-grown l h
  basic-grown (primitive o) h = h
  basic-grown (one_armed c d) h = tt
  basic-grown (two_armed c d e) h = tt
  basic-grown (assignment l c) h = variable-grown l h
  basic-grown (sequence xs) h = h
  basic-grown (procedure n xs true) h = h
  basic-grown (procedure n xs false) h = tt
  basic-grown (letrec o is c) h = tt
  basic-grown (call c xs) h = tt
  basic-grown (instance t s) h = tt
  basic-grown (matching c xs s) h = each-map (PatternFits bs) (PatternFits cs) (clause_patterns xs) h pattern-grown

  inner-grown : (a b : ℕ) (ps : List PlainCore) → Inner own bs a b ps → Inner own cs a b ps
  inner-grown a b ps h = record { up = h.up; codes = h.codes; basic = each-map (IsBasic bs) (IsBasic cs) ps h.basic basic-grown }

  module _ (vs : Depths) (ls : List Label) where
    pub good-grown : (a b : ℕ) (c : PlainCore) → Good own bs vs ls a b c → Good own cs vs ls a b c
    good-grown a b c h = record { closed = h.closed; suits = h.suits; binders = h.binders; inner = inner-grown a b (parts c) h.inner }

    pub case-grown : (a b : ℕ) (c : Lambda) → GoodCase own bs vs ls a b c → GoodCase own cs vs ls a b c
    case-grown a b c h = record { closed = h.closed; suits = h.suits; binders = h.binders; inner = inner-grown a b (parts c.body) h.inner }

    pub clauses-grown : (a b : ℕ) (xs : PlainClauses) → GoodClauses own bs vs ls a b xs → GoodClauses own cs vs ls a b xs
    clauses-grown a b xs h = record { closed = h.closed; suits = h.suits; binders = h.binders; inner = inner-grown a b (clause_parts xs) h.inner; patterns = each-map (PatternFits bs) (PatternFits cs) (clause_patterns xs) h.patterns pattern-grown }
