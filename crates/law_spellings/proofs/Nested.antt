-- The pattern of lists in one another has a level for each.
use Rattle.std.proofs.Common.{◌≡◌, ◌+◌, ℕ, zero, suc, max, false, [], None, Result, Ok, refl, ap, arith}
use Rattle.base_data.specs.Act.{after}
use Rattle.base_data.specs.Named.{Named}
use Rattle.base_data.specs.declared.atom.Atom.TheVariants.{Nil}
use Rattle.base_data.specs.declared.fault.Fault.{Fault}
use Rattle.base_data.specs.declared.span.Span.{Span}
use Rattle.stx_tree.specs.Measures.{height}
use Rattle.stx_tree.specs.Tree.{nil}
use Rattle.stx_frames.specs.Scope.{Scope}
use Rattle.core_language.specs.Pattern.{PlainPattern, atom, list, none, more}
use Rattle.eval_pattern.specs.Compile.{PatternScope, TakenVariables, WalkedPatterns, no_parts, with_part, parts_of, walked, pattern, tail_pattern, with_variables, compiled}
use Rattle.eval_pattern.specs.declared.compile.Compiled.{Compiled}
use Rattle.law_levels.specs.Levels.{pattern_levels}
use Rattle.law_spellings.specs.Levels.{nest}

abbrev nested : ℕ → PlainPattern
nested zero = atom Nil
nested (suc n) = list (more (nested n) none) (atom Nil)

-- the pattern of its element, and nothing else
abbrev kept : PlainPattern → TakenVariables → Result (WalkedPatterns × TakenVariables) Fault
kept p s = Ok ((false, with_part None no_parts p), s)

-- a list of one element, by what comes of that
abbrev around : PatternScope → ℕ → Result (PlainPattern × TakenVariables) Fault → Result (PlainPattern × TakenVariables) Fault
around c depth r =
    after (after (after r kept) (λ w. walked c depth w.0 w.1 [])) (λ parts u. after (tail_pattern c nil depth u) (λ p v. Ok (list (parts_of parts) p, v)))

comes : (c : PatternScope) (n depth : ℕ) (s : TakenVariables) → pattern c (nest n) depth s ≡ Ok (nested n, s)
comes c zero depth s = refl
comes c (suc n) depth s = ap (around c depth) (comes c n depth s)

more-levels : (k n : ℕ) → k ≡ suc n → suc (max (max k 0) 1) ≡ suc (suc n)
more-levels k n e = omega (arith, e)

more-high : (k n : ℕ) → k ≡ suc n → max (k + 1) 1 ≡ suc (suc n)
more-high k n e = omega (arith, e)

levels : (n : ℕ) → pattern_levels (nested n) ≡ suc n
levels zero = refl
levels (suc n) = more-levels (pattern_levels (nested n)) n (levels n)

high : (n : ℕ) → height (nest n) ≡ suc n
high zero = refl
high (suc n) = more-high (height (nest n)) n (high n)

pub reached : (fs : Scope) (place : Span) (n : ℕ) (names : Named)
    → (r : Compiled × Named) × ((compiled (record { frames = fs; literals = []; place = place }) (nest n) names ≡ Ok r) × ((pattern_levels r.0.pattern ≡ suc n) × (height (nest n) ≡ suc n)))
reached fs place n names =
    ((record { pattern = nested n; variables = [] }, names), (ap with_variables (comes (record { frames = fs; literals = []; place = place }) n 0 ([], names)), (levels n, high n)))
