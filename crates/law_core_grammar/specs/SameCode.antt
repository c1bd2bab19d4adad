-- What a text tells of core code: all but the spans of constants, the numbers of codes, and what labels its names stand for.
use Rattle.std.specs.Prelude.{ℕ, List, [], ◌∷◌, map, option_map}
use Rattle.base_data.specs.Datum.{unspanned}
use Rattle.base_data.specs.declared.library.LibName.TheVariants as library
use Rattle.base_data.specs.declared.name.CodeNo.{CodeNo}
use Rattle.base_data.specs.declared.name.Label.{Label}
use Rattle.core_language.specs.declared.formals.Formals.{Formals}
use Rattle.core_language.specs.declared.record.Line.{Line}
use Rattle.core_language.specs.declared.record.Line.TheVariants as line
use Rattle.core_language.specs.Core.{PlainCore, quoted, variable, primitive, one_armed, two_armed, assignment, sequence, procedure, letrec, call, instance, matching}
use Rattle.core_language.specs.Core.{PlainCores, none, more, PlainInits, no_init, init, PlainCases, no_case, case}
use Rattle.core_output.specs.CoreText.{VariableNames, name_of}

-- a number that all codes share
abbrev pub any_number : CodeNo
any_number = record { 0 = record { library = library.Program; number = 0 } }

-- each label in core code by this one
module _ (put : Label → Label) where
  abbrev pub told_formals : Formals → Formals
  told_formals f = record { required = map put f.required; rest = option_map put f.rest }

  abbrev mutual
    pub told : PlainCore → PlainCore
    told (quoted d) = quoted (unspanned d)
    told (variable l) = variable (put l)
    told (primitive o) = primitive o
    told (one_armed c d) = one_armed (told c) (told d)
    told (two_armed c d e) = two_armed (told c) (told d) (told e)
    told (assignment l c) = assignment (put l) (told c)
    told (sequence cs) = sequence (all_told cs)
    told (procedure n cs plain) = procedure any_number (cases_told cs) plain
    told (letrec ordered is c) = letrec ordered (inits_told is) (told c)
    told (call c cs) = call (told c) (all_told cs)
    told (instance t s) = instance t s
    told (matching c cs s) = matching c cs s

    pub all_told : PlainCores → PlainCores
    all_told none = none
    all_told (more c cs) = more (told c) (all_told cs)

    pub inits_told : PlainInits → PlainInits
    inits_told no_init = no_init
    inits_told (init l c is) = init (put l) (told c) (inits_told is)

    pub cases_told : PlainCases → PlainCases
    cases_told no_case = no_case
    cases_told (case f c cs) = case (told_formals f) (told c) (cases_told cs)

  abbrev pub line_told : Line → Line
  line_told (line.Define l c) = line.Define (put l) (told c)
  line_told (line.Expr c) = line.Expr (told c)

-- a label that stands for a name
abbrev pub label_called : List ℕ → Label
label_called x = record { 0 = record { library = library.User (x ∷ []); number = 0 } }

-- with its names for its variables
abbrev pub by_names : VariableNames → PlainCore → PlainCore
by_names names c = told (λ l. label_called (name_of names l)) c

abbrev pub line_by_names : VariableNames → Line → Line
line_by_names names l = line_told (λ m. label_called (name_of names m)) l

-- with its own variables
abbrev pub bare : PlainCore → PlainCore
bare c = told (λ l. l) c

abbrev pub bare_line : Line → Line
bare_line l = line_told (λ m. m) l
