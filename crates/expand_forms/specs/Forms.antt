-- Core forms, each with its parts.
use Rattle.std.specs.Prelude.{Bool, List, Option, refl}
use Rattle.std.specs.Coded.{Coded, code_by, coded×, coded_list, coded_bool, coded_option}
use Rattle.base_data.specs.contracts.span.Span as spans
use Rattle.base_data.specs.declared.span.Span.{Span}
use Rattle.stx_tree.specs.Tree.{Tree}
use Rattle.stx_tree.specs.TreeCode.{tree_code}
use Rattle.core_shapes.specs.contracts.shape.BindingSpec as binding_specs
use Rattle.core_shapes.specs.contracts.shape.FormalIds as formal_ids
use Rattle.core_shapes.specs.contracts.shape.PatternCase as pattern_cases
use Rattle.core_shapes.specs.declared.shape.BindingSpec.{BindingSpec}
use Rattle.core_shapes.specs.declared.shape.FormalIds.{FormalIds}
use Rattle.core_shapes.specs.declared.shape.PatternCase.{PatternCase}
use Rattle.core_quasi.specs.contracts.word.Family as families
use Rattle.core_quasi.specs.declared.word.Family.{Family}

pub record IfForm : Type 0 where
  pub test : Tree
  pub consequent : Tree
  pub alternate : Option Tree

abbrev pub if_code : Coded IfForm
if_code = code_by (Tree × (Tree × Option Tree)) (coded× tree_code (coded× tree_code (coded_option tree_code)))
    (λ f. (f.test, (f.consequent, f.alternate))) (λ p. record { test = p.0; consequent = p.1.0; alternate = p.1.1 }) (λ _. refl)

abbrev pub if_parts : Tree → Tree → Option Tree → IfForm
if_parts test consequent other = record { test = test; consequent = consequent; alternate = other }

-- a form that makes a procedure, and the formals and the body of one of its cases
pub record ProcedureForm : Type 0 where
  pub form : Tree
  pub ids : FormalIds
  pub forms : List Tree

abbrev pub procedure_code : Coded ProcedureForm
procedure_code = code_by (Tree × (FormalIds × List Tree)) (coded× tree_code (coded× formal_ids.the_row.coded (coded_list tree_code)))
    (λ f. (f.form, (f.ids, f.forms))) (λ p. record { form = p.0; ids = p.1.0; forms = p.1.1 }) (λ _. refl)

abbrev pub procedure_parts : Tree → FormalIds → List Tree → ProcedureForm
procedure_parts t ids forms = record { form = t; ids = ids; forms = forms }

-- a `letrec`, or a `letrec*` where `star` is true, with its variables and its body
pub record LetrecForm : Type 0 where
  pub form : Tree
  pub star : Bool
  pub specs : List BindingSpec
  pub forms : List Tree

abbrev pub letrec_code : Coded LetrecForm
letrec_code = code_by (Tree × (Bool × (List BindingSpec × List Tree)))
    (coded× tree_code (coded× coded_bool (coded× (coded_list binding_specs.the_row.coded) (coded_list tree_code))))
    (λ f. (f.form, (f.star, (f.specs, f.forms)))) (λ p. record { form = p.0; star = p.1.0; specs = p.1.1.0; forms = p.1.1.1 }) (λ _. refl)

abbrev pub letrec_parts : Tree → Bool → List BindingSpec → List Tree → LetrecForm
letrec_parts t star bs forms = record { form = t; star = star; specs = bs; forms = forms }

-- a `let-syntax`, or a `letrec-syntax` where `recursive` is true, with its keywords and the forms that see them
pub record LetSyntaxForm : Type 0 where
  pub recursive : Bool
  pub specs : List BindingSpec
  pub forms : List Tree

abbrev pub let_syntax_code : Coded LetSyntaxForm
let_syntax_code = code_by (Bool × (List BindingSpec × List Tree)) (coded× coded_bool (coded× (coded_list binding_specs.the_row.coded) (coded_list tree_code)))
    (λ f. (f.recursive, (f.specs, f.forms))) (λ p. record { recursive = p.0; specs = p.1.0; forms = p.1.1 }) (λ _. refl)

abbrev pub let_syntax_parts : Bool → List BindingSpec → List Tree → LetSyntaxForm
let_syntax_parts recursive bs forms = record { recursive = recursive; specs = bs; forms = forms }

-- a `syntax-case`, and where it stands
pub record SyntaxCaseForm : Type 0 where
  pub subject : Tree
  pub literals : List Tree
  pub cases : List PatternCase
  pub span : Span

abbrev pub syntax_case_code : Coded SyntaxCaseForm
syntax_case_code = code_by (Tree × (List Tree × (List PatternCase × Span)))
    (coded× tree_code (coded× (coded_list tree_code) (coded× (coded_list pattern_cases.the_row.coded) spans.the_row.coded)))
    (λ f. (f.subject, (f.literals, (f.cases, f.span)))) (λ p. record { subject = p.0; literals = p.1.0; cases = p.1.1.0; span = p.1.1.1 }) (λ _. refl)

abbrev pub syntax_case_parts : Tree → List Tree → List PatternCase → Span → SyntaxCaseForm
syntax_case_parts subject literals cs span = record { subject = subject; literals = literals; cases = cs; span = span }

-- a `quasiquote` or `quasisyntax`, and its template
pub record TemplateForm : Type 0 where
  pub form : Tree
  pub which : Family
  pub template : Tree

abbrev pub template_code : Coded TemplateForm
template_code = code_by (Tree × (Family × Tree)) (coded× tree_code (coded× families.the_row.coded tree_code))
    (λ f. (f.form, (f.which, f.template))) (λ p. record { form = p.0; which = p.1.0; template = p.1.1 }) (λ _. refl)

abbrev pub template_parts : Tree → Family → Tree → TemplateForm
template_parts t which template = record { form = t; which = which; template = template }

-- a form of a body that defines a keyword
pub record KeywordDefinition : Type 0 where
  pub form : Tree
  pub spec : BindingSpec

abbrev pub definition_code : Coded KeywordDefinition
definition_code = code_by (Tree × BindingSpec) (coded× tree_code binding_specs.the_row.coded)
    (λ f. (f.form, f.spec)) (λ p. record { form = p.0; spec = p.1 }) (λ _. refl)

abbrev pub definition_parts : Tree → BindingSpec → KeywordDefinition
definition_parts t b = record { form = t; spec = b }
