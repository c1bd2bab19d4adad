-- Codes that are added stand at their numbers, where no two of them have one, and those that were there stay.
use Rattle.std.proofs.Common.{◌≡◌, Bool, true, false, List, [], ◌∷◌, ◌++◌, Option, None, Some, cond, refl, ap, sym, ◌∙◌, inl}
use Rattle.std.specs.List.{flat_map}
use Rattle.indexmap.specs.IndexMap.{insert_entry}
use Rattle.base_data.proofs.ElementLemmas.{each-at, among-first, among-second, once-second}
use Rattle.base_data.specs.Elements.{Each, Among, Once}
use Rattle.base_data.specs.declared.name.CodeNo.{CodeNo}
use Rattle.core_language.specs.Core.{PlainCore, quoted, variable, primitive, one_armed, two_armed, assignment, sequence, procedure, letrec, call, instance, matching, PlainCode}
use Rattle.core_language.specs.Core.{PlainCores, none, more, PlainInits, no_init, init, PlainCases, no_case, case, PlainClauses, no_clause, clause, fended}
use Rattle.core_language.specs.declared.record.Line.{Line}
use Rattle.core_language.specs.declared.record.Line.TheVariants as line
use Rattle.law_core.specs.Parts.{parts, all_parts, init_parts, case_parts, clause_parts, own_number}
use Rattle.law_core.specs.Records.{line_core}
use Rattle.law_core.proofs.Decisions.{code_decides}
use Rattle.eval_code.specs.Codes.{Codes, same_code, code_at, with_code, procedure_code, with_codes, with_all, with_inits, with_cases, with_clauses}
use Rattle.eval_code.specs.Lines.{with_lines}
use Rattle.law_whole.specs.Extends.{Stay}

-- the code of this expression alone is added
abbrev own_added : PlainCore → Codes → Codes
own_added (procedure number cs plain) codes = with_code (procedure_code number cs plain) codes
own_added _ codes = codes

abbrev pub added : List PlainCore → Codes → Codes
added [] codes = codes
added (e ∷ es) codes = added es (own_added e codes)

added_both : (xs ys : List PlainCore) (codes : Codes) → added (xs ++ ys) codes ≡ added ys (added xs codes)
added_both [] ys codes = refl
added_both (x ∷ xs) ys codes = added_both xs ys (own_added x codes)

-- The codes of core code are those of its parts.

pub then_added : (f : Codes → Codes) (xs ys : List PlainCore) (codes next : Codes) → next ≡ added xs codes → ((cs : Codes) → f cs ≡ added ys cs) → f next ≡ added (xs ++ ys) codes
then_added f xs ys codes next h k = ap f h ∙ k (added xs codes) ∙ sym (added_both xs ys codes)

mutual
  pub codes_added : (c : PlainCore) (codes : Codes) → with_codes c codes ≡ added (parts c) codes
  codes_added (quoted d) codes = refl
  codes_added (variable l) codes = refl
  codes_added (primitive o) codes = refl
  codes_added (one_armed c d) codes = then_added (with_codes d) (parts c) (parts d) codes (with_codes c codes) (codes_added c codes) (codes_added d)
  codes_added (two_armed c d e) codes =
      then_added (λ cs. with_codes e (with_codes d cs)) (parts c) (parts d ++ parts e) codes (with_codes c codes) (codes_added c codes)
      (λ cs. then_added (with_codes e) (parts d) (parts e) cs (with_codes d cs) (codes_added d cs) (codes_added e))
  codes_added (assignment l c) codes = codes_added c codes
  codes_added (sequence xs) codes = all_added xs codes
  codes_added (procedure number xs plain) codes = cases_added xs (with_code (procedure_code number xs plain) codes)
  codes_added (letrec o is c) codes = then_added (with_codes c) (init_parts is) (parts c) codes (with_inits is codes) (inits_added is codes) (codes_added c)
  codes_added (call c xs) codes = then_added (with_all xs) (parts c) (all_parts xs) codes (with_codes c codes) (codes_added c codes) (all_added xs)
  codes_added (instance t s) codes = refl
  codes_added (matching c xs s) codes = then_added (with_clauses xs) (parts c) (clause_parts xs) codes (with_codes c codes) (codes_added c codes) (clauses_added xs)

  all_added : (xs : PlainCores) (codes : Codes) → with_all xs codes ≡ added (all_parts xs) codes
  all_added none codes = refl
  all_added (more c xs) codes = then_added (with_all xs) (parts c) (all_parts xs) codes (with_codes c codes) (codes_added c codes) (all_added xs)

  inits_added : (is : PlainInits) (codes : Codes) → with_inits is codes ≡ added (init_parts is) codes
  inits_added no_init codes = refl
  inits_added (init l c is) codes = then_added (with_inits is) (parts c) (init_parts is) codes (with_codes c codes) (codes_added c codes) (inits_added is)

  cases_added : (xs : PlainCases) (codes : Codes) → with_cases xs codes ≡ added (case_parts xs) codes
  cases_added no_case codes = refl
  cases_added (case f c xs) codes = then_added (with_cases xs) (parts c) (case_parts xs) codes (with_codes c codes) (codes_added c codes) (cases_added xs)

  clauses_added : (xs : PlainClauses) (codes : Codes) → with_clauses xs codes ≡ added (clause_parts xs) codes
  clauses_added no_clause codes = refl
  clauses_added (clause p c xs) codes = then_added (with_clauses xs) (parts c) (clause_parts xs) codes (with_codes c codes) (codes_added c codes) (clauses_added xs)
  clauses_added (fended p f c xs) codes =
      then_added (λ cs. with_clauses xs (with_codes c cs)) (parts f) (parts c ++ clause_parts xs) codes (with_codes f codes) (codes_added f codes)
      (λ cs. then_added (with_clauses xs) (parts c) (clause_parts xs) cs (with_codes c cs) (codes_added c cs) (clauses_added xs))

-- the parts of lines
abbrev pub lines_parts : List Line → List PlainCore
lines_parts ls = flat_map (λ l. parts (line_core l)) ls

pub lines_added : (ls : List Line) (codes : Codes) → with_lines ls codes ≡ added (lines_parts ls) codes
lines_added [] codes = refl
lines_added (line.Define l c ∷ ls) codes = then_added (with_lines ls) (parts c) (lines_parts ls) codes (with_codes c codes) (codes_added c codes) (lines_added ls)
lines_added (line.Expr c ∷ ls) codes = then_added (with_lines ls) (parts c) (lines_parts ls) codes (with_codes c codes) (codes_added c codes) (lines_added ls)

-- One code is added.

placed : (number : CodeNo) (c : PlainCode) (codes : Codes) → code_at (insert_entry same_code codes number c) number ≡ Some c
placed number c [] = ap (λ t. cond t (Some c) None) ((code_decides number number).1 refl)
placed number c (e ∷ codes) = by_own (same_code number e.0) refl (placed number c codes)
  where
    by_own : (t : Bool) → same_code number e.0 ≡ t → code_at (insert_entry same_code codes number c) number ≡ Some c
        → code_at (cond t ((e.0, c) ∷ codes) (e ∷ insert_entry same_code codes number c)) number ≡ Some c
    by_own true h k = ap (λ t. cond t (Some c) (code_at codes number)) h
    by_own false h k = ap (λ t. cond t (Some e.1) (code_at (insert_entry same_code codes number c) number)) h ∙ k

passed_by : (a r : Option PlainCode) (t : Bool) → (t ≡ true → ⊥) → cond t a r ≡ r
passed_by a r true h = absurd (h refl)
passed_by a r false h = refl

passed : (number other : CodeNo) (c : PlainCode) (codes : Codes) → (number ≡ other → ⊥) → code_at (insert_entry same_code codes other c) number ≡ code_at codes number
passed number other c [] h = passed_by (Some c) None (same_code number other) (λ e. h ((code_decides number other).0 e))
passed number other c (e ∷ codes) h = by_own (same_code other e.0) refl (passed number other c codes h)
  where
    by_own : (t : Bool) → same_code other e.0 ≡ t → code_at (insert_entry same_code codes other c) number ≡ code_at codes number
        → code_at (cond t ((e.0, c) ∷ codes) (e ∷ insert_entry same_code codes other c)) number ≡ code_at (e ∷ codes) number
    by_own true k again =
        let apart : same_code number e.0 ≡ true → ⊥ = λ j. h ((code_decides number e.0).0 j ∙ sym ((code_decides other e.0).0 k)) in
        passed_by (Some c) (code_at codes number) (same_code number e.0) apart ∙ sym (passed_by (Some e.1) (code_at codes number) (same_code number e.0) apart)
    by_own false k again = ap (λ r. cond (same_code number e.0) (Some e.1) r) again

-- Codes of numbers that no other code has.

own_passed : (e : PlainCore) (number : CodeNo) (codes : Codes) → (Among (own_number e) number → ⊥) → code_at (own_added e codes) number ≡ code_at codes number
own_passed (procedure other cs plain) number codes h = passed number other (procedure_code other cs plain) codes (λ e. h (inl e))
own_passed _ number codes h = refl

pub all_passed : (es : List PlainCore) (number : CodeNo) (codes : Codes) → (Among (flat_map own_number es) number → ⊥) → code_at (added es codes) number ≡ code_at codes number
all_passed [] number codes h = refl
all_passed (e ∷ es) number codes h =
    all_passed es number (own_added e codes) (λ a. h (among-second (own_number e) (flat_map own_number es) number a))
    ∙ own_passed e number codes (λ a. h (among-first (own_number e) (flat_map own_number es) number a))

-- the code of an expression stands at its number
abbrev pub CodeStands : Codes → PlainCore → Type 0
CodeStands codes (procedure number cs plain) = code_at codes number ≡ Some (procedure_code number cs plain)
CodeStands codes _ = Unit {0}

own_stands : (e : PlainCore) (es : List PlainCore) (codes : Codes) → Once (own_number e ++ flat_map own_number es) → CodeStands (added es (own_added e codes)) e
own_stands (procedure number cs plain) es codes h =
    all_passed es number (with_code (procedure_code number cs plain) codes) h.0 ∙ placed number (procedure_code number cs plain) codes
own_stands _ es codes h = tt

pub all_stand : (es : List PlainCore) (codes : Codes) → Once (flat_map own_number es) → Each (CodeStands (added es codes)) es
all_stand [] codes h = tt
all_stand (e ∷ es) codes h = (own_stands e es codes h, all_stand es (own_added e codes) (once-second (own_number e) (flat_map own_number es) h))

-- New numbers leave all codes at theirs.

pub all_stay : (es : List PlainCore) (codes : Codes) → Each (λ n. code_at codes n ≡ None) (flat_map own_number es) → Stay codes (added es codes)
all_stay es codes new number code e =
    all_passed es number codes (λ a. no_code code (sym (each-at (λ n. code_at codes n ≡ None) (flat_map own_number es) number new a) ∙ e)) ∙ e
  where
    no_code : (code : PlainCode) → None ≡ Some code → ⊥
    no_code code e = cc
