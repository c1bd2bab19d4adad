-- The record of a library is spelled, and its patterns and templates have few levels.
use Rattle.std.proofs.Common.{◌≤◌, ◌+◌, List, [], ◌∷◌, ◌++◌, map, None, Some}
use Rattle.std.specs.List.{flat_map}
use Rattle.base_data.specs.Elements.{Each}
use Rattle.base_data.specs.declared.name.Label.{Label}
use Rattle.core_language.specs.Core.{PlainCore, PlainCores, PlainInits, PlainCases, PlainClauses, quoted, one_armed, two_armed, assignment, sequence, procedure, letrec, call, instance, matching}
use Rattle.core_language.specs.Core as c
use Rattle.core_language.specs.declared.binding.Binding.{Binding}
use Rattle.core_language.specs.declared.binding.Binding.TheVariants as b
use Rattle.core_language.specs.declared.record.Line.{Line}
use Rattle.core_language.specs.declared.record.Line.TheVariants as l
use Rattle.law_core.specs.Follows.{keyword_of, keywords, line_cores}
use Rattle.law_core.specs.Parts.{parts, all_parts, init_parts, case_parts, clause_parts, clause_patterns}
use Rattle.law_core.specs.Records.{line_core}
use Rattle.law_invariants.specs.Holds.{CoreHolds, CoresHold, InitsHold, CasesHold, ClausesHold, LinesHold}
use Rattle.law_invariant_expansion.specs.States.{BindingsHold}
use Rattle.law_invariant_expansion.proofs.Recorded as recorded
use Rattle.law_levels.specs.Levels.{pattern_levels}
use Rattle.stx_tree.specs.Measures.{max_height}
use Rattle.law_spellings.specs.Levels.{HasLevels, AreNoHigher, LevelsStayWithin}
use Rattle.law_spellings.specs.Spelled.{spelled}
use Rattle.law_spellings.specs.Spellings.{RecordsStaySpelled}
use Rattle.law_spellings.proofs.Kept.{spelled-kept}
use Rattle.law_spellings.proofs.Nested.{reached}
use Rattle.law_spellings.proofs.Patterns as patterns
use Rattle.law_spellings.proofs.Templates as templates

pub stay : RecordsStaySpelled
stay = recorded.records-stay spelled spelled-kept

-- Levels.

pub no-higher : AreNoHigher
no-higher = record { patterns = patterns.compiled-levels; reached = reached; templates = templates.compiled-levels }

abbrev Low : PlainCore → Type 0
Low x = HasLevels max_height x

abbrev AllLow : List PlainCore → Type 0
AllLow xs = Each Low xs

both : (xs ys : List PlainCore) → AllLow xs → AllLow ys → AllLow (xs ++ ys)
both [] ys h k = k
both (x ∷ xs) ys h k = (h.0, both xs ys h.1 k)

patterns-low : (xs : PlainClauses) → ClausesHold spelled xs → Each (λ p. pattern_levels p ≤ max_height) (clause_patterns xs)
patterns-low c.no_clause h = tt
patterns-low (c.clause p x xs) h = (h.0.0, patterns-low xs h.1.1)
patterns-low (c.fended p f x xs) h = (h.0.0, patterns-low xs h.1.1.1)

mutual
  core-low : (x : PlainCore) → CoreHolds spelled x → AllLow (parts x)
  core-low (quoted d) h = (tt, tt)
  core-low (c.variable l) h = (tt, tt)
  core-low (c.primitive o) h = (tt, tt)
  core-low (one_armed x y) h = (tt, both (parts x) (parts y) (core-low x h.0) (core-low y h.1))
  core-low (two_armed x y z) h = (tt, both (parts x) (parts y ++ parts z) (core-low x h.0) (both (parts y) (parts z) (core-low y h.1.0) (core-low z h.1.1)))
  core-low (assignment l x) h = (tt, core-low x h)
  core-low (sequence xs) h = (tt, cores-low xs h)
  core-low (procedure n xs plain) h = (tt, cases-low xs h)
  core-low (letrec star is x) h = (tt, both (init_parts is) (parts x) (inits-low is h.0) (core-low x h.1))
  core-low (call x xs) h = (tt, both (parts x) (all_parts xs) (core-low x h.0) (cores-low xs h.1))
  core-low (instance x s) h = (h.0, tt)
  core-low (matching x xs s) h = (patterns-low xs h.1, both (parts x) (clause_parts xs) (core-low x h.0) (clauses-low xs h.1))

  cores-low : (xs : PlainCores) → CoresHold spelled xs → AllLow (all_parts xs)
  cores-low c.none h = tt
  cores-low (c.more x xs) h = both (parts x) (all_parts xs) (core-low x h.0) (cores-low xs h.1)

  inits-low : (is : PlainInits) → InitsHold spelled is → AllLow (init_parts is)
  inits-low c.no_init h = tt
  inits-low (c.init l x is) h = both (parts x) (init_parts is) (core-low x h.0) (inits-low is h.1)

  cases-low : (xs : PlainCases) → CasesHold spelled xs → AllLow (case_parts xs)
  cases-low c.no_case h = tt
  cases-low (c.case f x xs) h = both (parts x) (case_parts xs) (core-low x h.0) (cases-low xs h.1)

  clauses-low : (xs : PlainClauses) → ClausesHold spelled xs → AllLow (clause_parts xs)
  clauses-low c.no_clause h = tt
  clauses-low (c.clause p x xs) h = both (parts x) (clause_parts xs) (core-low x h.1.0) (clauses-low xs h.1.1)
  clauses-low (c.fended p f x xs) h = both (parts f) (parts x ++ clause_parts xs) (core-low f h.1.0) (both (parts x) (clause_parts xs) (core-low x h.1.1.0) (clauses-low xs h.1.1.1))

abbrev Lows : List PlainCore → Type 0
Lows xs = Each (λ x. AllLow (parts x)) xs

append-low : (xs ys : List PlainCore) → Lows xs → Lows ys → Lows (xs ++ ys)
append-low [] ys h k = k
append-low (x ∷ xs) ys h k = (h.0, append-low xs ys h.1 k)

lines-low : (xs : List Line) → LinesHold spelled xs → Lows (map line_core xs)
lines-low [] h = tt
lines-low (l.Define x y ∷ xs) h = (core-low y h.0, lines-low xs h.1)
lines-low (l.Expr y ∷ xs) h = (core-low y h.0, lines-low xs h.1)

keywords-low : (bs : List (Label × Binding)) → BindingsHold spelled bs → Lows (flat_map keyword_of bs)
keywords-low [] h = tt
keywords-low ((x, b.Variable v) ∷ bs) h = keywords-low bs h.1
keywords-low ((x, b.PatternVariable level depth) ∷ bs) h = keywords-low bs h.1
keywords-low ((x, b.Macro level None) ∷ bs) h = keywords-low bs h.1
keywords-low ((x, b.Macro level (Some y)) ∷ bs) h = (core-low y h.0, keywords-low bs h.1)
keywords-low ((x, b.Core f) ∷ bs) h = keywords-low bs h.1
keywords-low ((x, b.Primitive o) ∷ bs) h = keywords-low bs h.1

pub within-levels : LevelsStayWithin
within-levels own records imports body codes r before texts read e =
    let h = stay own records imports body codes r before texts read e in
    append-low (line_cores r) (keywords r) (lines-low r.run h.run) (keywords-low r.bindings h.bindings)
