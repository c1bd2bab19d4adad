-- Names of the expressions of keywords that are kept, and core code that has none of them.
use Rattle.std.proofs.Common.{◌≡◌, ◌≤◌, ◌<◌, List, [], ◌∷◌, ◌++◌, Option, None, Some, refl, sym, subst, arith, inl, inr, append_assoc}
use Rattle.std.specs.Prelude.{◌⊎◌}
use Rattle.std.specs.List.{flat_map}
use Rattle.base_data.proofs.ElementLemmas.{each-at, each-append, among-parts}
use Rattle.base_data.specs.Elements.{Each, Among}
use Rattle.base_data.specs.Named.{Named}
use Rattle.base_data.specs.declared.library.LibName.{LibName}
use Rattle.base_data.specs.declared.name.CodeNo.{CodeNo}
use Rattle.base_data.specs.declared.name.Label.{Label}
use Rattle.core_language.specs.Core.{PlainCore, cores}
use Rattle.core_language.specs.CoreView.{inits, cases, clauses}
use Rattle.core_language.specs.References.{variables, formals_labels, binders, all_binders, init_binders, case_binders, clause_binders}
use Rattle.core_language.specs.declared.code.Clause.{Clause}
use Rattle.core_language.specs.declared.code.Init.{Init}
use Rattle.core_language.specs.declared.code.Lambda.{Lambda}
use Rattle.law_core.specs.Parts.{parts, all_parts, init_parts, case_parts, clause_parts, own_number}
use Rattle.eval_stage.specs.declared.keyword.Keyword.{Keyword}
use Rattle.expand_standing.specs.State.{State}
use Rattle.law_expand.specs.Kept.{code_named, MakesName, IsKeptWith, IsNameOfKept, KeptAreGood, IsGoodState}
use Rattle.law_expand.specs.States.{IsOwn}
use Rattle.law_expand.proofs.Fresh.{Made, FreshLabels, each-map}
use Rattle.law_expand.proofs.Naming.{as_label, counted}

module _ (own : LibName) where
  abbrev pub IsSpent : State → Named → Type 0
  IsSpent s n = IsNameOfKept own s.keywords n

  -- a name that was made, and that no keyword has
  abbrev pub Unspent : State → Named → Type 0
  Unspent s n = (n.number < s.names.number) × (IsSpent s n → ⊥)

  -- what keywords get between two states was made between them
  pub record Tracks (s t : State) : Type 0 where
    pub up : s.names.number ≤ t.names.number
    pub spent : (n : Named) → IsSpent t n → IsSpent s n ⊎ (s.names.number ≤ n.number)

  pub tracks-self : (s : State) → Tracks s s
  tracks-self s = record { up = omega arith; spent = λ n x. inl x }

  pub tracks-then : (s t u : State) → Tracks s t → Tracks t u → Tracks s u
  tracks-then s t u h k = record { up = omega (arith, h.up, k.up); spent = λ n x. by n (k.spent n x) }
    where
      by : (n : Named) → IsSpent t n ⊎ (t.names.number ≤ n.number) → IsSpent s n ⊎ (s.names.number ≤ n.number)
      by n (inl x) = h.spent n x
      by n (inr le) = inr (omega (arith, h.up, le))

  pub unspent-later : (s t : State) (n : Named) → Tracks s t → Unspent s n → Unspent t n
  unspent-later s t n h k = (let lt = k.0 in omega (arith, lt, h.up), (λ x. by (h.spent n x)))
    where
      by : IsSpent s n ⊎ (s.names.number ≤ n.number) → ⊥
      by (inl x) = k.1 x
      by (inr le) = let lt = k.0 in omega (arith, lt, le)

  -- Core code whose binders and codes no keyword has.

  abbrev pub AreUnspent : State → List Label → Type 0
  AreUnspent s ls = Each (λ (l : Label). Unspent s l.0) ls

  abbrev pub CodesUnspent : State → PlainCore → Type 0
  CodesUnspent s p = Each (λ (n : CodeNo). Unspent s n.0) (own_number p)

  pub record Away (s : State) (ls : List Label) (ps : List PlainCore) : Type 0 where
    pub labels : AreUnspent s ls
    pub codes : Each (CodesUnspent s) ps

  abbrev pub AwayCore : State → PlainCore → Type 0
  AwayCore s c = Away s (binders c) (parts c)

  pub away-none : (s : State) → Away s [] []
  away-none s = record { labels = tt; codes = tt }

  pub away-append : (s : State) (ls ms : List Label) (ps qs : List PlainCore) → Away s ls ps → Away s ms qs → Away s (ls ++ ms) (ps ++ qs)
  away-append s ls ms ps qs h k = record {
    labels = each-append (λ (l : Label). Unspent s l.0) ls ms h.labels k.labels;
    codes = each-append (CodesUnspent s) ps qs h.codes k.codes;
  }

  -- an expression round others, which has no number itself
  pub away-round : (s : State) (ls : List Label) (p : PlainCore) (ps : List PlainCore) → own_number p ≡ [] → Away s ls ps → Away s ls (p ∷ ps)
  away-round s ls p ps e h = record { labels = h.labels; codes = (subst (λ (ns : List CodeNo). Each (λ (n : CodeNo). Unspent s n.0) ns) (sym e) tt, h.codes) }

  pub labels-away : (s : State) (ls : List Label) → AreUnspent s ls → Away s ls []
  labels-away s ls h = record { labels = h; codes = tt }

  pub unspent-all : (s t : State) (ls : List Label) → Tracks s t → AreUnspent s ls → AreUnspent t ls
  unspent-all s t ls k h = each-map (λ (l : Label). Unspent s l.0) (λ (l : Label). Unspent t l.0) ls h (λ l x. unspent-later s t l.0 k x)

  pub away-later : (s t : State) (ls : List Label) (ps : List PlainCore) → Tracks s t → Away s ls ps → Away t ls ps
  away-later s t ls ps k h = record {
    labels = unspent-all s t ls k h.labels;
    codes = each-map (CodesUnspent s) (CodesUnspent t) ps h.codes (λ p x. each-map (λ (n : CodeNo). Unspent s n.0) (λ (n : CodeNo). Unspent t n.0) (own_number p) x (λ n y. unspent-later s t n.0 k y));
  }

  -- Parts of core code.

  abbrev pub AwayCase : State → Lambda → Type 0
  AwayCase s c = Away s (formals_labels c.formals ++ binders c.body) (parts c.body)

  abbrev pub AwayInit : State → Init → Type 0
  AwayInit s i = Unspent s i.label.0 × AwayCore s i.value

  abbrev pub AwayFender : State → Option PlainCore → Type 0
  AwayFender s None = Unit {0}
  AwayFender s (Some c) = AwayCore s c

  abbrev pub AwayClause : State → Clause → Type 0
  AwayClause s c = AreUnspent s (variables c.pattern) × (AwayFender s c.fender × AwayCore s c.output)

  pub all-away : (s : State) (cs : List PlainCore) → Each (AwayCore s) cs → Away s (all_binders (cores cs)) (all_parts (cores cs))
  all-away s [] h = away-none s
  all-away s (c ∷ cs) h = away-append s (binders c) (all_binders (cores cs)) (parts c) (all_parts (cores cs)) h.0 (all-away s cs h.1)

  pub cases-away : (s : State) (xs : List Lambda) → Each (AwayCase s) xs → Away s (case_binders (cases xs)) (case_parts (cases xs))
  cases-away s [] h = away-none s
  cases-away s (c ∷ xs) h =
      subst (λ (ls : List Label). Away s ls (parts c.body ++ case_parts (cases xs))) (append_assoc (formals_labels c.formals) (binders c.body) (case_binders (cases xs)))
      (away-append s (formals_labels c.formals ++ binders c.body) (case_binders (cases xs)) (parts c.body) (case_parts (cases xs)) h.0 (cases-away s xs h.1))

  pub inits-away : (s : State) (is : List Init) → Each (AwayInit s) is → Away s (init_binders (inits is)) (init_parts (inits is))
  inits-away s [] h = away-none s
  inits-away s (i ∷ is) h =
      let rest = away-append s (binders i.value) (init_binders (inits is)) (parts i.value) (init_parts (inits is)) h.0.1 (inits-away s is h.1) in
      record { labels = (h.0.0, rest.labels); codes = rest.codes }

  clause-away : (s : State) (c : Clause) (xs : List Clause) (o : Option PlainCore) → c.fender ≡ o → AwayClause s c → Away s (clause_binders (clauses xs)) (clause_parts (clauses xs)) → Away s (clause_binders (clauses (c ∷ xs))) (clause_parts (clauses (c ∷ xs)))
  clause-away s c xs o e h k = subst (λ (f : Option PlainCore). Away s (clause_binders (clauses ((record c { fender = f }) ∷ xs))) (clause_parts (clauses ((record c { fender = f }) ∷ xs)))) (sym e) (by o (subst (AwayFender s) e h.1.0))
    where
      rest : Away s (binders c.output ++ clause_binders (clauses xs)) (parts c.output ++ clause_parts (clauses xs))
      rest = away-append s (binders c.output) (clause_binders (clauses xs)) (parts c.output) (clause_parts (clauses xs)) h.1.1 k

      by : (f : Option PlainCore) → AwayFender s f → Away s (clause_binders (clauses ((record c { fender = f }) ∷ xs))) (clause_parts (clauses ((record c { fender = f }) ∷ xs)))
      by None x = away-append s (variables c.pattern) (binders c.output ++ clause_binders (clauses xs)) [] (parts c.output ++ clause_parts (clauses xs)) (labels-away s (variables c.pattern) h.0) rest
      by (Some f) x =
          away-append s (variables c.pattern) (binders f ++ (binders c.output ++ clause_binders (clauses xs))) [] (parts f ++ (parts c.output ++ clause_parts (clauses xs))) (labels-away s (variables c.pattern) h.0)
          (away-append s (binders f) (binders c.output ++ clause_binders (clauses xs)) (parts f) (parts c.output ++ clause_parts (clauses xs)) x rest)

  pub clauses-away : (s : State) (xs : List Clause) → Each (AwayClause s) xs → Away s (clause_binders (clauses xs)) (clause_parts (clauses xs))
  clauses-away s [] h = away-none s
  clauses-away s (c ∷ xs) h = clause-away s c xs c.fender refl h.0 (clauses-away s xs h.1)

  -- a name that core code has is one of those
  has-unspent : (s : State) (ps : List PlainCore) (n : CodeNo) → Each (CodesUnspent s) ps → Among (flat_map own_number ps) n → Unspent s n.0
  has-unspent s [] n h a = elim a [ ]
  has-unspent s (p ∷ ps) n h a = by (among-parts (own_number p) (flat_map own_number ps) n a) (λ b. has-unspent s ps n h.1 b)
    where
      by : Among (own_number p) n ⊎ Among (flat_map own_number ps) n → (Among (flat_map own_number ps) n → Unspent s n.0) → Unspent s n.0
      by (inl b) rest = each-at (λ (m : CodeNo). Unspent s m.0) (own_number p) n h.0 b
      by (inr b) rest = rest b

  pub away-has : (s : State) (c : PlainCore) (n : Named) → AwayCore s c → MakesName c n → Unspent s n
  away-has s c n h (inl a) = each-at (λ (l : Label). Unspent s l.0) (binders c) (as_label n) h.labels a
  away-has s c n h (inr a) = has-unspent s (parts c) (code_named n) h.codes a

  -- The keywords of the library that are kept.

  module _ (given : List Label) where
    -- where no keyword comes
    pub kept-less : (s t : State) → s.names.number ≤ t.names.number → ((k : Label) (c : PlainCore) → IsOwn own k.0 → IsKeptWith t.keywords k c → IsKeptWith s.keywords k c) → KeptAreGood own given s → KeptAreGood own given t × Tracks s t
    kept-less s t up less h = (
      record {
        below = λ n x. let lt = h.below n (before n x) in omega (arith, lt, up);
        good = λ k c o e. h.good k c o (less k c o e);
        apart = λ k m c d n o p e f x y. h.apart k m c d n o p (less k c o e) (less m d p f) x y;
      },
      record { up = up; spent = λ n x. inl (before n x) },
    )
      where
        before : (n : Named) → IsSpent t n → IsSpent s n
        before n (k, (c, (o, (e, x)))) = (k, (c, (o, (less k c o e, x))))

    abbrev pub Onward : State → State → Type 0
    Onward s t = IsGoodState own given t × Tracks s t

    -- a new name
    pub counted-unspent : (s : State) → KeptAreGood own given s → Unspent (counted s) s.names
    counted-unspent s h = (omega arith, (λ x. let lt = h.below s.names x in omega (arith, lt)))

    -- new labels
    pub bound-unspent : (s u : State) (ls : List Label) → u.keywords ≡ s.keywords → KeptAreGood own given s → FreshLabels own s.names.number u.names.number ls → AreUnspent u ls
    bound-unspent s u ls same h fresh =
        each-map (λ (l : Label). Made own s.names.number u.names.number l.0) (λ (l : Label). Unspent u l.0) ls fresh.made
        (λ l m. (m.high, (λ x. let lt = h.below l.0 (subst (λ (ks : List (Label × Keyword)). IsNameOfKept own ks l.0) same x) in omega (arith, lt, m.low))))
