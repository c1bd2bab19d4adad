-- The text of core code.
use Rattle.std.specs.Prelude.{ℕ, Bool, true, false, List, [], ◌∷◌, ◌++◌, Option, None, Some, unwrap_or, nat_lt, if◌then◌else◌, codes}
use Rattle.std.specs.Map.{lookup}
use Rattle.base_data.specs.Datum as datum
use Rattle.base_data.specs.Datum.{PlainDatum}
use Rattle.base_data.specs.Op.{name_count, op_text}
use Rattle.base_data.specs.declared.atom.Atom.{Atom}
use Rattle.base_data.specs.declared.atom.Atom.TheVariants as a
use Rattle.base_data.specs.declared.name.Label.{Label}
use Rattle.read_printer.specs.DatumText.{datum_text, atom_text}
use Rattle.core_language.specs.declared.formals.Formals.{Formals}
use Rattle.core_language.specs.declared.record.Line.{Line}
use Rattle.core_language.specs.declared.record.Line.TheVariants as line
use Rattle.core_language.specs.Labels.{same_label}
use Rattle.core_language.specs.Core.{PlainCore, quoted, variable, primitive, one_armed, two_armed, assignment, sequence, procedure, letrec, call, instance, matching}
use Rattle.core_language.specs.Core.{PlainCores, none, more, PlainInits, no_init, init, PlainCases, no_case, case}

-- the text of each variable's name
abbrev pub VariableNames : Type 0
VariableNames = List (Label × List ℕ)

-- the name of a variable; one that has none is written as nothing
abbrev pub name_of : VariableNames → Label → List ℕ
name_of names l = unwrap_or (lookup (same_label l) names) []

-- the report name of a primitive; past the table of names there is none
abbrev pub report_name : ℕ → List ℕ
report_name n = if nat_lt n name_count then op_text n else []

abbrev pub quote_text : List ℕ → List ℕ
quote_text text = codes "(quote " ++ text ++ codes ")"

-- the empty list is quoted, and other atoms stand alone
abbrev pub quoted_atom : Atom → List ℕ
quoted_atom a.Nil = quote_text (atom_text a.Nil)
quoted_atom x = atom_text x

-- symbols, lists and vectors are quoted
abbrev pub quoted_text : PlainDatum → List ℕ
quoted_text (datum.atom s x) = quoted_atom x
quoted_text (datum.symbol s x) = quote_text (datum_text (datum.symbol s x))
quoted_text (datum.pair s d e) = quote_text (datum_text (datum.pair s d e))
quoted_text (datum.vector s d) = quote_text (datum_text (datum.vector s d))

-- names, each behind a space
abbrev pub further_names : VariableNames → List Label → List ℕ
further_names names [] = []
further_names names (l ∷ ls) = codes " " ++ name_of names l ++ further_names names ls

-- the name of the rest behind those that are required
abbrev pub rest_name : VariableNames → Option Label → List ℕ
rest_name names None = []
rest_name names (Some l) = codes " . " ++ name_of names l

abbrev pub lone_rest : VariableNames → Option Label → List ℕ
lone_rest names None = codes "()"
lone_rest names (Some l) = name_of names l

-- (N ...), (N ... . N) or N
abbrev pub formals_of : VariableNames → List Label → Option Label → List ℕ
formals_of names [] rest = lone_rest names rest
formals_of names (l ∷ ls) rest = codes "(" ++ name_of names l ++ further_names names ls ++ rest_name names rest ++ codes ")"

abbrev pub formals_text : VariableNames → Formals → List ℕ
formals_text names f = formals_of names f.required f.rest

abbrev pub letrec_word : Bool → List ℕ
letrec_word true = codes "(letrec* ("
letrec_word false = codes "(letrec ("

abbrev pub lambda_word : Bool → List ℕ
lambda_word true = codes "(lambda"
lambda_word false = codes "(case-lambda"

abbrev pub case_open : Bool → List ℕ
case_open true = codes " "
case_open false = codes " ("

abbrev pub case_close : Bool → List ℕ
case_close true = []
case_close false = codes ")"

-- forms of `syntax` and `syntax-case` have no text
abbrev mutual
  pub text : VariableNames → PlainCore → List ℕ
  text names (quoted d) = quoted_text d
  text names (variable l) = name_of names l
  text names (primitive o) = report_name o.0
  text names (one_armed c d) = codes "(if " ++ text names c ++ codes " " ++ text names d ++ codes ")"
  text names (two_armed c d e) = codes "(if " ++ text names c ++ codes " " ++ text names d ++ codes " " ++ text names e ++ codes ")"
  text names (assignment l c) = codes "(set! " ++ name_of names l ++ codes " " ++ text names c ++ codes ")"
  text names (sequence cs) = codes "(begin" ++ further_text names cs ++ codes ")"
  text names (procedure n cs plain) = lambda_word plain ++ cases_text names plain cs ++ codes ")"
  text names (letrec ordered is c) = letrec_word ordered ++ inits_text names is ++ codes ") " ++ text names c ++ codes ")"
  text names (call c cs) = codes "(" ++ text names c ++ further_text names cs ++ codes ")"
  text names (instance t s) = []
  text names (matching c cs s) = []

  -- each behind a space
  pub further_text : VariableNames → PlainCores → List ℕ
  further_text names none = []
  further_text names (more c cs) = codes " " ++ text names c ++ further_text names cs

  pub inits_text : VariableNames → PlainInits → List ℕ
  inits_text names no_init = []
  inits_text names (init l c is) = codes "(" ++ name_of names l ++ codes " " ++ text names c ++ codes ")" ++ further_inits names is

  pub further_inits : VariableNames → PlainInits → List ℕ
  further_inits names no_init = []
  further_inits names (init l c is) = codes " (" ++ name_of names l ++ codes " " ++ text names c ++ codes ")" ++ further_inits names is

  -- the one case of a `lambda` has no parentheses of its own
  pub cases_text : VariableNames → Bool → PlainCases → List ℕ
  cases_text names plain no_case = []
  cases_text names plain (case f c cs) = case_open plain ++ formals_text names f ++ codes " " ++ text names c ++ case_close plain ++ cases_text names plain cs

abbrev pub line_text : VariableNames → Line → List ℕ
line_text names (line.Define l c) = codes "(define " ++ name_of names l ++ codes " " ++ text names c ++ codes ")\n"
line_text names (line.Expr c) = text names c ++ codes "\n"

abbrev pub lines_text : VariableNames → List Line → List ℕ
lines_text names [] = []
lines_text names (l ∷ ls) = line_text names l ++ lines_text names ls
