-- The text of core code is refused only for `syntax` in it.
use Rattle.std.proofs.Common.{ℕ, List, [], ◌∷◌, Option, Some, None, Ok}
use Rattle.std.specs.Prelude.{slice_get}
use Rattle.base_data.specs.Gives.{◌>>=◌}
use Rattle.core_language.specs.Core as core
use Rattle.core_language.specs.Core.{PlainCore, PlainCores, PlainInits, PlainCases}
use Rattle.core_language.specs.declared.record.CompiledLibrary.{CompiledLibrary}
use Rattle.core_language.specs.declared.record.Line.{Line}
use Rattle.core_language.specs.declared.record.Line.TheVariants as line
use Rattle.core_output.specs.Syntax.{checked, all_checked, inits_checked, cases_checked, line_checked, lines_checked}
use Rattle.core_output.specs.Whole.{record_checked, plan_checked, all_names, all_text, core_text}
use Rattle.law_kinds.specs.Kinds.{Tells}
use Rattle.law_run.specs.Stuck.{IsOther}
use Rattle.law_run.proofs.OtherFaults.{o-then, syntax-other}

mutual
  code : (c : PlainCore) → Tells IsOther (checked c)
  code (core.quoted d) = tt
  code (core.variable l) = tt
  code (core.primitive o) = tt
  code (core.one_armed c d) = o-then (checked c) (λ _. checked d) (code c) (λ _. code d)
  code (core.two_armed c d e) = o-then (checked c) (λ _. checked d >>= λ _. checked e) (code c) (λ _. o-then (checked d) (λ _. checked e) (code d) (λ _. code e))
  code (core.assignment l c) = code c
  code (core.sequence cs) = all-codes cs
  code (core.procedure n cs plain) = all-cases cs
  code (core.letrec ordered is c) = o-then (inits_checked is) (λ _. checked c) (all-inits is) (λ _. code c)
  code (core.call c cs) = o-then (checked c) (λ _. all_checked cs) (code c) (λ _. all-codes cs)
  code (core.instance t s) = syntax-other
  code (core.matching c cs s) = syntax-other

  all-codes : (cs : PlainCores) → Tells IsOther (all_checked cs)
  all-codes core.none = tt
  all-codes (core.more c cs) = o-then (checked c) (λ _. all_checked cs) (code c) (λ _. all-codes cs)

  all-inits : (is : PlainInits) → Tells IsOther (inits_checked is)
  all-inits core.no_init = tt
  all-inits (core.init l c is) = o-then (checked c) (λ _. inits_checked is) (code c) (λ _. all-inits is)

  all-cases : (cs : PlainCases) → Tells IsOther (cases_checked cs)
  all-cases core.no_case = tt
  all-cases (core.case f c cs) = o-then (checked c) (λ _. cases_checked cs) (code c) (λ _. all-cases cs)

one-line : (x : Line) → Tells IsOther (line_checked x)
one-line (line.Define l c) = code c
one-line (line.Expr c) = code c

lines : (xs : List Line) → Tells IsOther (lines_checked xs)
lines [] = tt
lines (x ∷ xs) = o-then (line_checked x) (λ _. lines_checked xs) (one-line x) (λ _. lines xs)

of-record : (o : Option CompiledLibrary) → Tells IsOther (record_checked o)
of-record None = tt
of-record (Some r) = lines r.run

plan : (records : List CompiledLibrary) (ps : List ℕ) → Tells IsOther (plan_checked records ps)
plan records [] = tt
plan records (p ∷ ps) = o-then (record_checked (slice_get records p)) (λ _. plan_checked records ps) (of-record (slice_get records p)) (λ _. plan records ps)

pub text-other : (records : List CompiledLibrary) (ps : List ℕ) (program : CompiledLibrary) → Tells IsOther (core_text records ps program)
text-other records ps program =
    o-then (plan_checked records ps) _ (plan records ps) (λ _. o-then (lines_checked program.run) (λ _. Ok (all_text (all_names records ps program) records ps program)) (lines program.run) (λ _. tt))
