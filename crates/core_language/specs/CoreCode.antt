-- How the logic tells two core expressions apart.
use Rattle.std.specs.Prelude.{◌≡◌, Bool, refl, ◌⊎◌}
use Rattle.std.proofs.Common.{inl, inr}
use Rattle.std.specs.Coded.{Coded, code_by, coded⊎, coded×, coded_bool}
use base.Stored.{coded_unit}
use Rattle.base_data.specs.Datum.{PlainDatum}
use Rattle.base_data.specs.DatumCode.{datum_code}
use Rattle.base_data.specs.declared.name.Label.{Label}
use Rattle.base_data.specs.declared.name.CodeNo.{CodeNo}
use Rattle.base_data.specs.declared.op.Op.{Op}
use Rattle.base_data.specs.declared.span.Span.{Span}
use Rattle.base_data.specs.contracts.name.Label as labels
use Rattle.base_data.specs.contracts.name.CodeNo as numbers
use Rattle.base_data.specs.contracts.op.Op as ops
use Rattle.base_data.specs.contracts.span.Span as spans
use Rattle.core_language.specs.declared.formals.Formals.{Formals}
use Rattle.core_language.specs.contracts.formals.Formals as formals
use Rattle.core_language.specs.Bush.{Bush, tip, fork, twig, bush_code}
use Rattle.core_language.specs.Pattern.{PlainPattern}
use Rattle.core_language.specs.PatternCode.{pattern_code}
use Rattle.core_language.specs.Template.{PlainTemplate}
use Rattle.core_language.specs.TemplateCode.{template_code}
use Rattle.core_language.specs.Core.{PlainCore, quoted, variable, primitive, one_armed, two_armed, assignment, sequence, procedure, letrec, call, instance, matching}
use Rattle.core_language.specs.Core.{PlainCores, none, more, PlainInits, no_init, init, PlainCases, no_case, case, PlainClauses, no_clause, clause, fended, PlainCode}

-- what an expression, or a chain of parts of one, begins with
pub data Head : Type 0 where
  is_quoted : PlainDatum → Head
  is_variable : Label → Head
  is_primitive : Op → Head
  is_one_armed : Head
  is_two_armed : Head
  is_assignment : Label → Head
  is_sequence : Head
  is_procedure : CodeNo → Bool → Head
  is_letrec : Bool → Head
  is_call : Head
  is_instance : PlainTemplate → Span → Head
  is_matching : Span → Head
  is_more : Head
  is_init : Label → Head
  is_case : Formals → Head
  is_clause : PlainPattern → Head
  is_fended : PlainPattern → Head

abbrev U : Type 0
U = Unit {0}

-- the expressions that hold no others
abbrev Atoms : Type 0
Atoms = PlainDatum ⊎ (Label ⊎ (Op ⊎ (PlainTemplate × Span)))

-- those that hold others
abbrev Forms : Type 0
Forms = U ⊎ (U ⊎ (Label ⊎ (U ⊎ ((CodeNo × Bool) ⊎ (Bool ⊎ (U ⊎ Span))))))

abbrev Chains : Type 0
Chains = U ⊎ (Label ⊎ (Formals ⊎ (PlainPattern ⊎ PlainPattern)))

abbrev Parts : Type 0
Parts = Atoms ⊎ (Forms ⊎ Chains)

abbrev to_parts : Head → Parts
to_parts (is_quoted d) = inl (inl d)
to_parts (is_variable l) = inl (inr (inl l))
to_parts (is_primitive o) = inl (inr (inr (inl o)))
to_parts (is_instance t s) = inl (inr (inr (inr (t, s))))
to_parts is_one_armed = inr (inl (inl tt))
to_parts is_two_armed = inr (inl (inr (inl tt)))
to_parts (is_assignment l) = inr (inl (inr (inr (inl l))))
to_parts is_sequence = inr (inl (inr (inr (inr (inl tt)))))
to_parts (is_procedure n p) = inr (inl (inr (inr (inr (inr (inl (n, p)))))))
to_parts (is_letrec o) = inr (inl (inr (inr (inr (inr (inr (inl o)))))))
to_parts is_call = inr (inl (inr (inr (inr (inr (inr (inr (inl tt))))))))
to_parts (is_matching s) = inr (inl (inr (inr (inr (inr (inr (inr (inr s))))))))
to_parts is_more = inr (inr (inl tt))
to_parts (is_init l) = inr (inr (inr (inl l)))
to_parts (is_case f) = inr (inr (inr (inr (inl f))))
to_parts (is_clause p) = inr (inr (inr (inr (inr (inl p)))))
to_parts (is_fended p) = inr (inr (inr (inr (inr (inr p)))))

abbrev of_parts : Parts → Head
of_parts (inl (inl d)) = is_quoted d
of_parts (inl (inr (inl l))) = is_variable l
of_parts (inl (inr (inr (inl o)))) = is_primitive o
of_parts (inl (inr (inr (inr p)))) = is_instance p.0 p.1
of_parts (inr (inl (inl u))) = is_one_armed
of_parts (inr (inl (inr (inl u)))) = is_two_armed
of_parts (inr (inl (inr (inr (inl l))))) = is_assignment l
of_parts (inr (inl (inr (inr (inr (inl u)))))) = is_sequence
of_parts (inr (inl (inr (inr (inr (inr (inl p))))))) = is_procedure p.0 p.1
of_parts (inr (inl (inr (inr (inr (inr (inr (inl o)))))))) = is_letrec o
of_parts (inr (inl (inr (inr (inr (inr (inr (inr (inl u))))))))) = is_call
of_parts (inr (inl (inr (inr (inr (inr (inr (inr (inr s))))))))) = is_matching s
of_parts (inr (inr (inl u))) = is_more
of_parts (inr (inr (inr (inl l)))) = is_init l
of_parts (inr (inr (inr (inr (inl f))))) = is_case f
of_parts (inr (inr (inr (inr (inr (inl p)))))) = is_clause p
of_parts (inr (inr (inr (inr (inr (inr p)))))) = is_fended p

pub of_parts-to_parts : (h : Head) → of_parts (to_parts h) ≡ h
of_parts-to_parts (is_quoted d) = refl
of_parts-to_parts (is_variable l) = refl
of_parts-to_parts (is_primitive o) = refl
of_parts-to_parts (is_instance t s) = refl
of_parts-to_parts is_one_armed = refl
of_parts-to_parts is_two_armed = refl
of_parts-to_parts (is_assignment l) = refl
of_parts-to_parts is_sequence = refl
of_parts-to_parts (is_procedure n p) = refl
of_parts-to_parts (is_letrec o) = refl
of_parts-to_parts is_call = refl
of_parts-to_parts (is_matching s) = refl
of_parts-to_parts is_more = refl
of_parts-to_parts (is_init l) = refl
of_parts-to_parts (is_case f) = refl
of_parts-to_parts (is_clause p) = refl
of_parts-to_parts (is_fended p) = refl

abbrev atoms_code : Coded Atoms
atoms_code = coded⊎ datum_code (coded⊎ labels.the_row.coded (coded⊎ ops.the_row.coded (coded× template_code spans.the_row.coded)))

abbrev forms_code : Coded Forms
forms_code =
    coded⊎ coded_unit (coded⊎ coded_unit (coded⊎ labels.the_row.coded (coded⊎ coded_unit
    (coded⊎ (coded× numbers.the_row.coded coded_bool) (coded⊎ coded_bool (coded⊎ coded_unit spans.the_row.coded))))))

abbrev chains_code : Coded Chains
chains_code = coded⊎ coded_unit (coded⊎ labels.the_row.coded (coded⊎ formals.the_row.coded (coded⊎ pattern_code pattern_code)))

abbrev head_code : Coded Head
head_code = code_by Parts (coded⊎ atoms_code (coded⊎ forms_code chains_code)) to_parts of_parts of_parts-to_parts

abbrev mutual
  grown : PlainCore → Bush Head
  grown (quoted d) = twig (is_quoted d)
  grown (variable l) = twig (is_variable l)
  grown (primitive o) = twig (is_primitive o)
  grown (one_armed c d) = fork is_one_armed (grown c) (grown d)
  grown (two_armed c d e) = fork is_two_armed (grown c) (fork is_more (grown d) (grown e))
  grown (assignment l c) = fork (is_assignment l) (grown c) tip
  grown (sequence cs) = fork is_sequence (grown_cores cs) tip
  grown (procedure n cs p) = fork (is_procedure n p) (grown_cases cs) tip
  grown (letrec o is c) = fork (is_letrec o) (grown_inits is) (grown c)
  grown (call c cs) = fork is_call (grown c) (grown_cores cs)
  grown (instance t s) = twig (is_instance t s)
  grown (matching c cs s) = fork (is_matching s) (grown c) (grown_clauses cs)

  grown_cores : PlainCores → Bush Head
  grown_cores none = tip
  grown_cores (more c cs) = fork is_more (grown c) (grown_cores cs)

  grown_inits : PlainInits → Bush Head
  grown_inits no_init = tip
  grown_inits (init l c is) = fork (is_init l) (grown c) (grown_inits is)

  grown_cases : PlainCases → Bush Head
  grown_cases no_case = tip
  grown_cases (case f c cs) = fork (is_case f) (grown c) (grown_cases cs)

  grown_clauses : PlainClauses → Bush Head
  grown_clauses no_clause = tip
  grown_clauses (clause p c cs) = fork (is_clause p) (grown c) (grown_clauses cs)
  grown_clauses (fended p f c cs) = fork (is_fended p) (grown f) (fork is_more (grown c) (grown_clauses cs))

-- what the logic never meets
abbrev stray : PlainCore
stray = sequence none

abbrev mutual
  read : Bush Head → PlainCore
  read (fork (is_quoted d) x y) = quoted d
  read (fork (is_variable l) x y) = variable l
  read (fork (is_primitive o) x y) = primitive o
  read (fork is_one_armed x y) = one_armed (read x) (read y)
  read (fork is_two_armed x (fork h y z)) = two_armed (read x) (read y) (read z)
  read (fork (is_assignment l) x y) = assignment l (read x)
  read (fork is_sequence x y) = sequence (read_cores x)
  read (fork (is_procedure n p) x y) = procedure n (read_cases x) p
  read (fork (is_letrec o) x y) = letrec o (read_inits x) (read y)
  read (fork is_call x y) = call (read x) (read_cores y)
  read (fork (is_instance t s) x y) = instance t s
  read (fork (is_matching s) x y) = matching (read x) (read_clauses y) s
  read _ = stray

  read_cores : Bush Head → PlainCores
  read_cores (fork is_more x y) = more (read x) (read_cores y)
  read_cores _ = none

  read_inits : Bush Head → PlainInits
  read_inits (fork (is_init l) x y) = init l (read x) (read_inits y)
  read_inits _ = no_init

  read_cases : Bush Head → PlainCases
  read_cases (fork (is_case f) x y) = case f (read x) (read_cases y)
  read_cases _ = no_case

  read_clauses : Bush Head → PlainClauses
  read_clauses (fork (is_clause p) x y) = clause p (read x) (read_clauses y)
  read_clauses (fork (is_fended p) x (fork h y z)) = fended p (read x) (read y) (read_clauses z)
  read_clauses _ = no_clause

mutual
  pub read-grown : (c : PlainCore) → read (grown c) ≡ c
  read-grown (quoted d) = refl
  read-grown (variable l) = refl
  read-grown (primitive o) = refl
  read-grown (one_armed c d) = λ i. one_armed (read-grown c i) (read-grown d i)
  read-grown (two_armed c d e) = λ i. two_armed (read-grown c i) (read-grown d i) (read-grown e i)
  read-grown (assignment l c) = λ i. assignment l (read-grown c i)
  read-grown (sequence cs) = λ i. sequence (read_cores-grown cs i)
  read-grown (procedure n cs p) = λ i. procedure n (read_cases-grown cs i) p
  read-grown (letrec o is c) = λ i. letrec o (read_inits-grown is i) (read-grown c i)
  read-grown (call c cs) = λ i. call (read-grown c i) (read_cores-grown cs i)
  read-grown (instance t s) = refl
  read-grown (matching c cs s) = λ i. matching (read-grown c i) (read_clauses-grown cs i) s

  pub read_cores-grown : (cs : PlainCores) → read_cores (grown_cores cs) ≡ cs
  read_cores-grown none = refl
  read_cores-grown (more c cs) = λ i. more (read-grown c i) (read_cores-grown cs i)

  pub read_inits-grown : (is : PlainInits) → read_inits (grown_inits is) ≡ is
  read_inits-grown no_init = refl
  read_inits-grown (init l c is) = λ i. init l (read-grown c i) (read_inits-grown is i)

  pub read_cases-grown : (cs : PlainCases) → read_cases (grown_cases cs) ≡ cs
  read_cases-grown no_case = refl
  read_cases-grown (case f c cs) = λ i. case f (read-grown c i) (read_cases-grown cs i)

  pub read_clauses-grown : (cs : PlainClauses) → read_clauses (grown_clauses cs) ≡ cs
  read_clauses-grown no_clause = refl
  read_clauses-grown (clause p c cs) = λ i. clause p (read-grown c i) (read_clauses-grown cs i)
  read_clauses-grown (fended p f c cs) = λ i. fended p (read-grown f i) (read-grown c i) (read_clauses-grown cs i)

abbrev pub core_code : Coded PlainCore
core_code = code_by (Bush Head) (bush_code head_code) grown read read-grown

abbrev pub cases_code : Coded PlainCases
cases_code = code_by (Bush Head) (bush_code head_code) grown_cases read_cases read_cases-grown

abbrev pub procedure_code : Coded PlainCode
procedure_code =
    code_by (CodeNo × (PlainCases × Bool)) (coded× numbers.the_row.coded (coded× cases_code coded_bool))
    (λ c. (c.number, (c.cases, c.plain))) (λ p. record { number = p.0; cases = p.1.0; plain = p.1.1 }) (λ _. refl)
