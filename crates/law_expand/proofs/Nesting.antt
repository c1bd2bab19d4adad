-- How deep core code nests that expansion gives, and the variables that it binds.
use Rattle.std.proofs.Common.{◌≡◌, ℕ, ◌+◌, ◌-◌, ◌*◌, ◌≤◌, max, Bool, true, false, List, [], ◌∷◌, ◌++◌, Option, None, Some, refl, arith, if◌then◌else◌}
use Rattle.std.specs.Prelude.{nat_lt}
use Rattle.std.proofs.Math.Nat.{max-le}
use Rattle.std.proofs.lemmas.Bool.Decides.{nat_tests}
use Rattle.base_data.proofs.ElementLemmas.{each-append}
use Rattle.base_data.specs.Datum.{PlainDatum}
use Rattle.base_data.specs.Elements.{Each}
use Rattle.base_data.specs.declared.name.CodeNo.{CodeNo}
use Rattle.base_data.specs.declared.name.Label.{Label}
use Rattle.base_data.specs.declared.span.Span.{Span}
use Rattle.core_language.specs.Bindings.{bound_to}
use Rattle.core_language.specs.Core.{PlainCore, quoted, variable, primitive, one_armed, two_armed, assignment, sequence, procedure, letrec, call, instance, matching}
use Rattle.core_language.specs.Core.{cores}
use Rattle.core_language.specs.CoreView.{inits, cases, clause_on, clauses}
use Rattle.core_language.specs.Height.{height, highest, highest_init, highest_case, highest_clause}
use Rattle.core_language.specs.References.{formals_labels}
use Rattle.core_language.specs.declared.binding.Binding.TheVariants as binding
use Rattle.core_language.specs.declared.binding.VarInfo.{VarInfo}
use Rattle.core_language.specs.declared.code.Clause.{Clause}
use Rattle.core_language.specs.declared.code.Init.{Init}
use Rattle.core_language.specs.declared.code.Lambda.{Lambda}
use Rattle.law_core.specs.Follows.{IsThere}
use Rattle.law_core.specs.Parts.{parts, all_parts, init_parts, case_parts, clause_parts, init_labels, case_labels, own_variables}
use Rattle.expand_heads.specs.Depth.{deeper, most_round}
use Rattle.expand_forms.specs.Body.{sequence_of}
use Rattle.law_expand.proofs.Fresh.{each-map}
use Rattle.law_expand.proofs.Good.{Bindings, Extends}

-- Numbers.

pub max-low : (a b d n : ℕ) → a + d ≤ n → b + d ≤ n → max a b + d ≤ n
max-low a b d n h k = let m : max a b ≤ n - d = max-le (omega (arith, h)) (omega (arith, k)) in omega (arith, m, h)

pub not-deep : (depth : ℕ) → nat_lt most_round depth ≡ false → depth ≤ most_round
not-deep depth e = grind (arith, nat_tests)

pub too-deep : (depth : ℕ) → nat_lt most_round depth ≡ true → depth ≤ most_round → ⊥
too-deep depth e le = grind (arith, nat_tests)

-- what isn't too deep is one deeper inside
pub deeper-next : (depth : ℕ) → depth ≤ most_round → deeper depth ≡ depth + 1
deeper-next depth le = by (nat_lt most_round depth) refl
  where
    by : (b : Bool) → nat_lt most_round depth ≡ b → (if b then depth else depth + 1) ≡ depth + 1
    by true e = absurd (too-deep depth e le)
    by false e = refl

pub deeper-up : (depth : ℕ) → depth ≤ deeper depth
deeper-up depth = by (nat_lt most_round depth)
  where
    by : (b : Bool) → depth ≤ (if b then depth else depth + 1)
    by true = omega arith
    by false = omega arith

-- A label is bound to a variable, which has an index if it is of level 0; a definition of the top bound it, or it did not.
pub record IsDefined (bs : Bindings) (level : ℕ) (top : Bool) (l : Label) : Type 0 where
  pub variable : VarInfo
  pub bound : bound_to bs l ≡ Some (binding.Variable variable)
  pub at_top : variable.top ≡ top
  pub indexed : level ≡ 0 → IsThere variable.index

abbrev pub IsLeveled : Bindings → ℕ → Label → Type 0
IsLeveled bs level l = (top : Bool) × IsDefined bs level top l

abbrev pub IsIndexed : Bindings → ℕ → PlainCore → Type 0
IsIndexed bs level p = Each (IsLeveled bs level) (own_variables p)

-- expressions of which each binds such variables alone
abbrev pub AreIndexed : Bindings → ℕ → List PlainCore → Type 0
AreIndexed bs level ps = Each (IsIndexed bs level) ps

-- core code at a depth: what it binds, and how high it is; each form may add four
pub record Within (bs : Bindings) (level depth limit : ℕ) (c : PlainCore) : Type 0 where
  pub indexed : AreIndexed bs level (parts c)
  pub low : height c + 4 * depth ≤ limit

pub record WithinCase (bs : Bindings) (level depth limit : ℕ) (c : Lambda) : Type 0 where
  pub formals : Each (IsLeveled bs level) (formals_labels c.formals)
  pub body : Within bs level depth limit c.body

pub record WithinInit (bs : Bindings) (level depth limit : ℕ) (i : Init) : Type 0 where
  pub label : IsLeveled bs level i.label
  pub value : Within bs level depth limit i.value

abbrev pub WithinFender : Bindings → ℕ → ℕ → ℕ → Option PlainCore → Type 0
WithinFender bs level depth limit None = Unit {0}
WithinFender bs level depth limit (Some c) = Within bs level depth limit c

pub record WithinClause (bs : Bindings) (level depth limit : ℕ) (c : Clause) : Type 0 where
  pub fender : WithinFender bs level depth limit c.fender
  pub output : Within bs level depth limit c.output

-- no core code is of height 0
pub some-height : (c : PlainCore) → 1 ≤ height c
some-height (quoted d) = omega arith
some-height (variable l) = omega arith
some-height (primitive o) = omega arith
some-height (one_armed c d) = omega arith
some-height (two_armed c d e) = omega arith
some-height (assignment l c) = omega arith
some-height (sequence cs) = omega arith
some-height (procedure n cs p) = omega arith
some-height (letrec o is c) = omega arith
some-height (call c cs) = omega arith
some-height (instance t s) = omega arith
some-height (matching c cs s) = omega arith

-- More bindings.

module _ (bs cs : Bindings) (ext : Extends bs cs) (level : ℕ) where
  pub defined-grown : (top : Bool) (l : Label) → IsDefined bs level top l → IsDefined cs level top l
  defined-grown top l h = record { variable = h.variable; bound = ext l (binding.Variable h.variable) h.bound; at_top = h.at_top; indexed = h.indexed }

  pub leveled-grown : (l : Label) → IsLeveled bs level l → IsLeveled cs level l
  leveled-grown l h = (h.0, defined-grown h.0 l h.1)

  pub labels-grown : (ls : List Label) → Each (IsLeveled bs level) ls → Each (IsLeveled cs level) ls
  labels-grown ls h = each-map (IsLeveled bs level) (IsLeveled cs level) ls h leveled-grown

  indexed-grown : (ps : List PlainCore) → AreIndexed bs level ps → AreIndexed cs level ps
  indexed-grown ps h = each-map (IsIndexed bs level) (IsIndexed cs level) ps h (λ p k. labels-grown (own_variables p) k)

  module _ (depth limit : ℕ) where
    pub within-grown : (c : PlainCore) → Within bs level depth limit c → Within cs level depth limit c
    within-grown c h = record { indexed = indexed-grown (parts c) h.indexed; low = h.low }

    pub all-grown : (xs : List PlainCore) → Each (Within bs level depth limit) xs → Each (Within cs level depth limit) xs
    all-grown xs h = each-map (Within bs level depth limit) (Within cs level depth limit) xs h within-grown

    pub case-grown : (c : Lambda) → WithinCase bs level depth limit c → WithinCase cs level depth limit c
    case-grown c h = record { formals = labels-grown (formals_labels c.formals) h.formals; body = within-grown c.body h.body }

    pub init-grown : (i : Init) → WithinInit bs level depth limit i → WithinInit cs level depth limit i
    init-grown i h = record { label = leveled-grown i.label h.label; value = within-grown i.value h.value }

    pub fender-grown : (o : Option PlainCore) → WithinFender bs level depth limit o → WithinFender cs level depth limit o
    fender-grown None h = tt
    fender-grown (Some c) h = within-grown c h

    pub clause-grown : (c : Clause) → WithinClause bs level depth limit c → WithinClause cs level depth limit c
    clause-grown c h = record { fender = fender-grown c.fender h.fender; output = within-grown c.output h.output }

-- Core code, form by form.

module _ (bs : Bindings) (level : ℕ) where
  -- at another depth, under another limit
  pub within-at : (d n e m : ℕ) (c : PlainCore) → n + 4 * e ≤ m + 4 * d → Within bs level d n c → Within bs level e m c
  within-at d n e m c le h = record { indexed = h.indexed; low = let low = h.low in omega (arith, low, le) }

  module _ (depth : ℕ) where
    pub quoted-within : (m : ℕ) (d : PlainDatum) → 1 + 4 * depth ≤ m → Within bs level depth m (quoted d)
    quoted-within m d le = record { indexed = (tt, tt); low = le }

    module _ (n m : ℕ) (up : 1 + n ≤ m) where
      pub one_armed-within : (c d : PlainCore) → Within bs level depth n c → Within bs level depth n d → Within bs level depth m (one_armed c d)
      one_armed-within c d h k = record {
        indexed = (tt, each-append (IsIndexed bs level) (parts c) (parts d) h.indexed k.indexed);
        low = let low = max-low (height c) (height d) (4 * depth) n h.low k.low in omega (arith, low, up);
      }

      pub two_armed-within : (c d e : PlainCore) → Within bs level depth n c → Within bs level depth n d → Within bs level depth n e → Within bs level depth m (two_armed c d e)
      two_armed-within c d e h k j = record {
        indexed = (tt, each-append (IsIndexed bs level) (parts c) (parts d ++ parts e) h.indexed (each-append (IsIndexed bs level) (parts d) (parts e) k.indexed j.indexed));
        low = let low = max-low (height c) (max (height d) (height e)) (4 * depth) n h.low (max-low (height d) (height e) (4 * depth) n k.low j.low) in omega (arith, low, up);
      }

      pub assignment-within : (l : Label) (c : PlainCore) → Within bs level depth n c → Within bs level depth m (assignment l c)
      assignment-within l c h = record { indexed = (tt, h.indexed); low = let low = h.low in omega (arith, low, up) }

    -- of a chain
    all-indexed : (n : ℕ) (cs : List PlainCore) → Each (Within bs level depth n) cs → AreIndexed bs level (all_parts (cores cs))
    all-indexed n [] h = tt
    all-indexed n (c ∷ cs) h = each-append (IsIndexed bs level) (parts c) (all_parts (cores cs)) h.0.indexed (all-indexed n cs h.1)

    all-low : (n : ℕ) (cs : List PlainCore) → 4 * depth ≤ n → Each (Within bs level depth n) cs → highest (cores cs) + 4 * depth ≤ n
    all-low n [] le h = omega (arith, le)
    all-low n (c ∷ cs) le h = max-low (height c) (highest (cores cs)) (4 * depth) n h.0.low (all-low n cs le h.1)

    module _ (n m : ℕ) (up : 1 + n ≤ m) (le : 4 * depth ≤ n) where
      pub sequence-within : (cs : List PlainCore) → Each (Within bs level depth n) cs → Within bs level depth m (sequence (cores cs))
      sequence-within cs h = record { indexed = (tt, all-indexed n cs h); low = let low = all-low n cs le h in omega (arith, low, up) }

      pub in-sequence-within : (cs : List PlainCore) → Each (Within bs level depth n) cs → Within bs level depth m (sequence_of cs)
      in-sequence-within [] h = sequence-within [] h
      in-sequence-within (c ∷ []) h = within-at depth n depth m c (omega (arith, up)) h.0
      in-sequence-within (c ∷ (d ∷ cs)) h = sequence-within (c ∷ (d ∷ cs)) h

      pub call-within : (c : PlainCore) (cs : List PlainCore) → Within bs level depth n c → Each (Within bs level depth n) cs → Within bs level depth m (call c (cores cs))
      call-within c cs h k = record {
        indexed = (tt, each-append (IsIndexed bs level) (parts c) (all_parts (cores cs)) h.indexed (all-indexed n cs k));
        low = let low = max-low (height c) (highest (cores cs)) (4 * depth) n h.low (all-low n cs le k) in omega (arith, low, up);
      }

      cases-labels : (xs : List Lambda) → Each (WithinCase bs level depth n) xs → Each (IsLeveled bs level) (case_labels (cases xs))
      cases-labels [] h = tt
      cases-labels (x ∷ xs) h = each-append (IsLeveled bs level) (formals_labels x.formals) (case_labels (cases xs)) h.0.formals (cases-labels xs h.1)

      cases-indexed : (xs : List Lambda) → Each (WithinCase bs level depth n) xs → AreIndexed bs level (case_parts (cases xs))
      cases-indexed [] h = tt
      cases-indexed (x ∷ xs) h = each-append (IsIndexed bs level) (parts x.body) (case_parts (cases xs)) h.0.body.indexed (cases-indexed xs h.1)

      cases-low : (xs : List Lambda) → Each (WithinCase bs level depth n) xs → highest_case (cases xs) + 4 * depth ≤ n
      cases-low [] h = omega (arith, le)
      cases-low (x ∷ xs) h = max-low (height x.body) (highest_case (cases xs)) (4 * depth) n h.0.body.low (cases-low xs h.1)

      pub procedure-within : (k : CodeNo) (xs : List Lambda) (plain : Bool) → Each (WithinCase bs level depth n) xs → Within bs level depth m (procedure k (cases xs) plain)
      procedure-within k xs plain h = record { indexed = (cases-labels xs h, cases-indexed xs h); low = let low = cases-low xs h in omega (arith, low, up) }

      inits-labels : (is : List Init) → Each (WithinInit bs level depth n) is → Each (IsLeveled bs level) (init_labels (inits is))
      inits-labels [] h = tt
      inits-labels (i ∷ is) h = (h.0.label, inits-labels is h.1)

      inits-indexed : (is : List Init) → Each (WithinInit bs level depth n) is → AreIndexed bs level (init_parts (inits is))
      inits-indexed [] h = tt
      inits-indexed (i ∷ is) h = each-append (IsIndexed bs level) (parts i.value) (init_parts (inits is)) h.0.value.indexed (inits-indexed is h.1)

      inits-low : (is : List Init) → Each (WithinInit bs level depth n) is → highest_init (inits is) + 4 * depth ≤ n
      inits-low [] h = omega (arith, le)
      inits-low (i ∷ is) h = max-low (height i.value) (highest_init (inits is)) (4 * depth) n h.0.value.low (inits-low is h.1)

      pub letrec-within : (star : Bool) (is : List Init) (c : PlainCore) → Each (WithinInit bs level depth n) is → Within bs level depth n c → Within bs level depth m (letrec star (inits is) c)
      letrec-within star is c h k = record {
        indexed = (inits-labels is h, each-append (IsIndexed bs level) (init_parts (inits is)) (parts c) (inits-indexed is h) k.indexed);
        low = let low = max-low (highest_init (inits is)) (height c) (4 * depth) n (inits-low is h) k.low in omega (arith, low, up);
      }

      clauses-indexed : (xs : List Clause) → Each (WithinClause bs level depth n) xs → AreIndexed bs level (clause_parts (clauses xs))
      clauses-indexed [] h = tt
      clauses-indexed (x ∷ xs) h = by x.fender h.0.fender (clauses-indexed xs h.1)
        where
          by : (o : Option PlainCore) → WithinFender bs level depth n o → AreIndexed bs level (clause_parts (clauses xs)) → AreIndexed bs level (clause_parts (clause_on x.pattern o x.output (clauses xs)))
          by None f k = each-append (IsIndexed bs level) (parts x.output) (clause_parts (clauses xs)) h.0.output.indexed k
          by (Some c) f k = each-append (IsIndexed bs level) (parts c) (parts x.output ++ clause_parts (clauses xs)) f.indexed (each-append (IsIndexed bs level) (parts x.output) (clause_parts (clauses xs)) h.0.output.indexed k)

      clauses-low : (xs : List Clause) → Each (WithinClause bs level depth n) xs → highest_clause (clauses xs) + 4 * depth ≤ n
      clauses-low [] h = omega (arith, le)
      clauses-low (x ∷ xs) h = by x.fender h.0.fender (clauses-low xs h.1)
        where
          by : (o : Option PlainCore) → WithinFender bs level depth n o → highest_clause (clauses xs) + 4 * depth ≤ n → highest_clause (clause_on x.pattern o x.output (clauses xs)) + 4 * depth ≤ n
          by None f k = max-low (height x.output) (highest_clause (clauses xs)) (4 * depth) n h.0.output.low k
          by (Some c) f k = max-low (height c) (max (height x.output) (highest_clause (clauses xs))) (4 * depth) n f.low (max-low (height x.output) (highest_clause (clauses xs)) (4 * depth) n h.0.output.low k)

      pub matching-within : (c : PlainCore) (xs : List Clause) (s : Span) → Within bs level depth n c → Each (WithinClause bs level depth n) xs → Within bs level depth m (matching c (clauses xs) s)
      matching-within c xs s h k = record {
        indexed = (tt, each-append (IsIndexed bs level) (parts c) (clause_parts (clauses xs)) h.indexed (clauses-indexed xs k));
        low = let low = max-low (height c) (highest_clause (clauses xs)) (4 * depth) n h.low (clauses-low xs k) in omega (arith, low, up);
      }

-- What stands alone.

abbrev pub IsAlone : PlainCore → Type 0
IsAlone (quoted d) = Unit {0}
IsAlone (variable l) = Unit {0}
IsAlone (primitive o) = Unit {0}
IsAlone (one_armed c d) = ⊥
IsAlone (two_armed c d e) = ⊥
IsAlone (assignment l c) = ⊥
IsAlone (sequence cs) = ⊥
IsAlone (procedure n cs p) = ⊥
IsAlone (letrec o is c) = ⊥
IsAlone (call c cs) = ⊥
IsAlone (instance t s) = Unit {0}
IsAlone (matching c cs s) = ⊥

pub alone-within : (bs : Bindings) (level depth limit : ℕ) (c : PlainCore) → IsAlone c → 1 + 4 * depth ≤ limit → Within bs level depth limit c
alone-within bs level depth limit (quoted d) h le = record { indexed = (tt, tt); low = le }
alone-within bs level depth limit (variable l) h le = record { indexed = (tt, tt); low = le }
alone-within bs level depth limit (primitive o) h le = record { indexed = (tt, tt); low = le }
alone-within bs level depth limit (one_armed c d) h le = elim h [ ]
alone-within bs level depth limit (two_armed c d e) h le = elim h [ ]
alone-within bs level depth limit (assignment l c) h le = elim h [ ]
alone-within bs level depth limit (sequence cs) h le = elim h [ ]
alone-within bs level depth limit (procedure n cs p) h le = elim h [ ]
alone-within bs level depth limit (letrec o is c) h le = elim h [ ]
alone-within bs level depth limit (call c cs) h le = elim h [ ]
alone-within bs level depth limit (instance t s) h le = record { indexed = (tt, tt); low = le }
alone-within bs level depth limit (matching c cs s) h le = elim h [ ]
