-- A part of a list of parts is smaller than the list.
use Rattle.std.proofs.Common.{◌≡◌, ℕ, zero, suc, ◌<◌, ◌≤◌, List, [], ◌∷◌, length, get_or, arith, max}
use Rattle.std.specs.Prelude.{Option, None, Some}
use Rattle.core_language.specs.Pattern.{PlainPattern, PlainPatterns, none, more, dots, patterns, patterns_on, pattern_size, patterns_size}
use Rattle.core_language.specs.Core.{PlainCore, cores, core_size, cores_size, inits_size, cases_size, clauses_size}
use Rattle.core_language.specs.CoreView.{inits, cases, clauses}
use Rattle.core_language.specs.Height.{height, highest, highest_init, highest_case, highest_clause}
use Rattle.core_language.specs.declared.code.Init.{Init}
use Rattle.core_language.specs.declared.code.Lambda.{Lambda}
use Rattle.core_language.specs.declared.code.Clause.{Clause}

pub core_below : (cs : List PlainCore) (i : ℕ) (d : PlainCore) → i < length cs → core_size (get_or cs i d) < cores_size (cores cs)
core_below [] i d h = absurd (omega arith)
core_below (c ∷ cs) zero d h = omega arith
core_below (c ∷ cs) (suc i) d h = omega (arith, core_below cs i d (omega arith))

pub init_below : (is : List Init) (i : ℕ) (d : Init) → i < length is → core_size (get_or is i d).value < inits_size (inits is)
init_below [] i d h = absurd (omega arith)
init_below (c ∷ cs) zero d h = omega arith
init_below (c ∷ cs) (suc i) d h = omega (arith, init_below cs i d (omega arith))

pub case_below : (ls : List Lambda) (i : ℕ) (d : Lambda) → i < length ls → core_size (get_or ls i d).body < cases_size (cases ls)
case_below [] i d h = absurd (omega arith)
case_below (c ∷ cs) zero d h = omega arith
case_below (c ∷ cs) (suc i) d h = omega (arith, case_below cs i d (omega arith))

clauses_some : (c : Clause) (cs : List Clause) → (clauses_size (clauses (c ∷ [])) ≤ clauses_size (clauses (c ∷ cs))) × (clauses_size (clauses cs) ≤ clauses_size (clauses (c ∷ cs)))
clauses_some c cs = go c.fender
  where
    some : (ds : List Clause) → 1 ≤ clauses_size (clauses ds)
    some [] = omega arith
    some (d ∷ ds) = more d.fender
      where
        more : (f : Option PlainCore) → 1 ≤ clauses_size (clauses (record d { fender = f } ∷ ds))
        more None = omega arith
        more (Some f) = omega arith

    go : (f : Option PlainCore) → (clauses_size (clauses (record c { fender = f } ∷ [])) ≤ clauses_size (clauses (record c { fender = f } ∷ cs))) × (clauses_size (clauses cs) ≤ clauses_size (clauses (record c { fender = f } ∷ cs)))
    go None = (omega (arith, some cs), omega arith)
    go (Some f) = (omega (arith, some cs), omega arith)

pub clause_below : (cs : List Clause) (i : ℕ) (d : Clause) → i < length cs → clauses_size (clauses (get_or cs i d ∷ [])) ≤ clauses_size (clauses cs)
clause_below [] i d h = absurd (omega arith)
clause_below (c ∷ cs) zero d h = (clauses_some c cs).0
clause_below (c ∷ cs) (suc i) d h = omega (arith, clause_below cs i d (omega arith), (clauses_some c cs).1)

pub pattern_below : (ps : List PlainPattern) (i : ℕ) (d : PlainPattern) → i < length ps → pattern_size (get_or ps i d) < patterns_size (patterns ps)
pattern_below [] i d h = absurd (omega arith)
pattern_below (p ∷ ps) zero d h = omega arith
pattern_below (p ∷ ps) (suc i) d h = omega (arith, pattern_below ps i d (omega arith))

pub height_at : (cs : List PlainCore) (i : ℕ) (d : PlainCore) → i < length cs → height (get_or cs i d) ≤ highest (cores cs)
height_at [] i d h = absurd (omega arith)
height_at (c ∷ cs) zero d h = omega arith
height_at (c ∷ cs) (suc i) d h = omega (arith, height_at cs i d (omega arith))

pub height_at_init : (is : List Init) (i : ℕ) (d : Init) → i < length is → height (get_or is i d).value ≤ highest_init (inits is)
height_at_init [] i d h = absurd (omega arith)
height_at_init (c ∷ cs) zero d h = omega arith
height_at_init (c ∷ cs) (suc i) d h = omega (arith, height_at_init cs i d (omega arith))

pub height_at_case : (ls : List Lambda) (i : ℕ) (d : Lambda) → i < length ls → height (get_or ls i d).body ≤ highest_case (cases ls)
height_at_case [] i d h = absurd (omega arith)
height_at_case (c ∷ cs) zero d h = omega arith
height_at_case (c ∷ cs) (suc i) d h = omega (arith, height_at_case cs i d (omega arith))

pub highest_more : (c : Clause) (cs : List Clause) → highest_clause (clauses (c ∷ cs)) ≡ max (highest_clause (clauses (c ∷ []))) (highest_clause (clauses cs))
highest_more c cs = go c.fender
  where
    go : (f : Option PlainCore) → highest_clause (clauses (record c { fender = f } ∷ cs)) ≡ max (highest_clause (clauses (record c { fender = f } ∷ []))) (highest_clause (clauses cs))
    go None = omega arith
    go (Some f) = omega arith

pub height_at_clause : (cs : List Clause) (i : ℕ) (d : Clause) → i < length cs → highest_clause (clauses (get_or cs i d ∷ [])) ≤ highest_clause (clauses cs)
height_at_clause [] i d h = absurd (omega arith)
height_at_clause (c ∷ cs) zero d h = omega (arith, highest_more c cs)
height_at_clause (c ∷ cs) (suc i) d h = omega (arith, highest_more c cs, height_at_clause cs i d (omega arith))

pub before_below : (ps : List PlainPattern) (q : PlainPatterns) → patterns_size (patterns ps) ≤ patterns_size (patterns_on ps q)
before_below [] q = some q
  where
    some : (r : PlainPatterns) → 1 ≤ patterns_size r
    some none = omega arith
    some (more p ps) = omega arith
    some (dots p ps) = omega arith
before_below (p ∷ ps) q = omega (arith, before_below ps q)
