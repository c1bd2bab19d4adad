-- What of core code has no text: forms of `syntax` and `syntax-case`.
use Rattle.std.specs.Prelude.{List, [], ◌∷◌, Result, Ok, Err}
use Rattle.base_data.specs.Gives.{◌>>=◌}
use Rattle.base_data.specs.declared.fault.Fault.{Fault}
use Rattle.base_data.specs.declared.fault.FaultKind.TheVariants as kind
use Rattle.base_data.specs.declared.span.Span.{Span}
use Rattle.core_language.specs.declared.record.Line.{Line}
use Rattle.core_language.specs.declared.record.Line.TheVariants as line
use Rattle.core_language.specs.Core.{PlainCore, quoted, variable, primitive, one_armed, two_armed, assignment, sequence, procedure, letrec, call, instance, matching}
use Rattle.core_language.specs.Core.{PlainCores, none, more, PlainInits, no_init, init, PlainCases, no_case, case}

abbrev pub Checked : Type 0
Checked = Result (Unit {0}) Fault

abbrev pub written : Checked
written = Ok tt

abbrev pub unwritten : Span → Fault
unwritten s = record { kind = kind.SyntaxInRunCode; span = s; words = [] }

-- the fault of the first such form
abbrev mutual
  pub checked : PlainCore → Checked
  checked (quoted d) = written
  checked (variable l) = written
  checked (primitive o) = written
  checked (one_armed c d) = checked c >>= λ _. checked d
  checked (two_armed c d e) = checked c >>= λ _. (checked d >>= λ _. checked e)
  checked (assignment l c) = checked c
  checked (sequence cs) = all_checked cs
  checked (procedure n cs plain) = cases_checked cs
  checked (letrec ordered is c) = inits_checked is >>= λ _. checked c
  checked (call c cs) = checked c >>= λ _. all_checked cs
  checked (instance t s) = Err (unwritten s)
  checked (matching c cs s) = Err (unwritten s)

  pub all_checked : PlainCores → Checked
  all_checked none = written
  all_checked (more c cs) = checked c >>= λ _. all_checked cs

  pub inits_checked : PlainInits → Checked
  inits_checked no_init = written
  inits_checked (init l c is) = checked c >>= λ _. inits_checked is

  pub cases_checked : PlainCases → Checked
  cases_checked no_case = written
  cases_checked (case f c cs) = checked c >>= λ _. cases_checked cs

abbrev pub line_checked : Line → Checked
line_checked (line.Define l c) = checked c
line_checked (line.Expr c) = checked c

abbrev pub lines_checked : List Line → Checked
lines_checked [] = written
lines_checked (l ∷ ls) = line_checked l >>= λ _. lines_checked ls
