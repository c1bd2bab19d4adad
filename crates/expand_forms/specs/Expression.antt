-- What an expression expands to, and the state that is left (R6RS 10 and 11).
use Rattle.std.specs.Prelude.{ℕ, zero, suc, ◌+◌, Bool, true, false, nat_lt, List, [], ◌∷◌, ◌++◌, map, Option, None, Some, if◌then◌else◌}
use Rattle.base_data.specs.Act.{after, give, each}
use Rattle.base_data.specs.declared.fault.FaultKind.TheVariants as kind
use Rattle.base_data.specs.declared.name.Label.{Label}
use Rattle.base_data.specs.declared.name.FrameNo.{FrameNo}
use Rattle.stx_tree.specs.Tree.{Tree}
use Rattle.stx_tree.specs.Changes.{stamp}
use Rattle.core_language.specs.Core.{PlainCore, one_armed, two_armed, assignment, procedure, letrec, call, matching, cores}
use Rattle.core_language.specs.CoreView.{inits, cases, clauses}
use Rattle.core_language.specs.declared.code.Clause.{Clause}
use Rattle.core_language.specs.declared.code.Init.{Init}
use Rattle.core_language.specs.declared.code.Lambda.{Lambda}
use Rattle.core_language.specs.declared.record.CompiledLibrary.{CompiledLibrary}
use Rattle.core_shapes.specs.declared.shape.LambdaCase.{LambdaCase}
use Rattle.core_shapes.specs.declared.shape.PatternCase.{PatternCase}
use Rattle.expand_standing.specs.State.{Does, fresh, fresh_frame, fault_form}
use Rattle.expand_standing.specs.InScope.{within}
use Rattle.expand_standing.specs.Binders.{bind_specs, bind_formals}
use Rattle.expand_standing.specs.Patterns.{pattern_of, check_literals, bind_pattern}
use Rattle.expand_heads.specs.Depth.{most_round}
use Rattle.expand_forms.specs.Inside.{Inside}
use Rattle.expand_forms.specs.Body.{body, item, sequence_of}
use Rattle.expand_forms.specs.Forms.{IfForm, LetSyntaxForm, LetrecForm, ProcedureForm, SyntaxCaseForm, if_parts, let_syntax_parts, letrec_parts, procedure_parts, syntax_case_parts, template_parts}
use Rattle.expand_forms.specs.Keywords.{with_keywords}
use Rattle.expand_forms.specs.Quasi.{quasi_form}
use Rattle.expand_forms.specs.ExpandUses.{expand_uses}
use Rattle.expand_forms.specs.Site.{Site, one_deeper, site_at}
use Rattle.expand_forms.specs.declared.expand_uses.PlannedForm.{PlannedForm}
use Rattle.expand_heads.specs.declared.plan.Plan.{Plan}
use Rattle.expand_heads.specs.declared.plan.Plan.TheVariants as plans
use Rattle.expand_standing.specs.declared.binders.BoundSpec.{BoundSpec}

-- expressions in order
abbrev pub in_order : Inside → Site → List Tree → Does (List PlainCore)
in_order go site = each (go.form site) []

-- a case of a procedure: its formals have a frame, and so has its body
abbrev pub case_in : Inside → Site → ProcedureForm → FrameNo → Does Lambda
case_in go site p frame s =
    after (bind_formals frame site.place site.level p.ids s)
    (λ formals s'. after (body go site p.form (map (stamp frame) p.forms) s') (λ c. give (record { formals = formals; body = c })))

unfoldable pub lambda_case : Inside → Site → ProcedureForm → Does Lambda
lambda_case go site p = within (λ s. after (fresh_frame s) (case_in go site p))

-- the number of the code comes before the names of its cases
unfoldable pub lambda : Inside → Site → ProcedureForm → Does PlainCore
lambda go site p s =
    after (fresh s) (λ n s'. after (lambda_case go site p s') (λ c. give (procedure (record { 0 = n }) (cases (c ∷ [])) true)))

abbrev pub one_case : Inside → Site → Tree → LambdaCase → Does Lambda
one_case go site t c = lambda_case go site (procedure_parts t c.formals c.body)

abbrev pub all_cases : Inside → Site → Tree → List LambdaCase → Does (List Lambda)
all_cases go site t = each (one_case go site t) []

unfoldable pub case_lambda : Inside → Site → Tree → List LambdaCase → Does PlainCore
case_lambda go site t cs s =
    after (fresh s) (λ n s'. after (all_cases go site t cs s') (λ xs. give (procedure (record { 0 = n }) (cases xs) false)))

-- the expression of a variable's value, in the frame of all of them
unfoldable pub one_init : Inside → Site → FrameNo → BoundSpec → Does Init
one_init go site frame b s = after (go.form site (stamp frame b.init) s) (λ c. give (record { label = b.label; value = c }))

abbrev pub all_inits : Inside → Site → FrameNo → List BoundSpec → Does (List Init)
all_inits go site frame = each (one_init go site frame) []

abbrev pub letrec_in : Inside → Site → LetrecForm → FrameNo → Does PlainCore
letrec_in go site f frame s =
    after (bind_specs frame site.place site.level f.specs s) (λ ls s'.
    after (all_inits go site frame ls s') (λ is s''.
    after (body go site f.form (map (stamp frame) f.forms) s'') (λ c. give (letrec f.star (inits is) c))))

unfoldable pub letrec_form : Inside → Site → LetrecForm → Does PlainCore
letrec_form go site f = within (λ s. after (fresh_frame s) (letrec_in go site f))

-- the operator and the operands, from left to right
unfoldable pub application : Inside → Site → Tree → List Tree → Does PlainCore
application go site operator operands s =
    after (go.form site operator s) (λ c s'. after (in_order go site operands s') (λ cs. give (call c (cores cs))))

abbrev pub alternate : Inside → Site → PlainCore → PlainCore → Option Tree → Does PlainCore
alternate go site c d None s = give (one_armed c d) s
alternate go site c d (Some t) s = after (go.form site t s) (λ e. give (two_armed c d e))

unfoldable pub conditional : Inside → Site → IfForm → Does PlainCore
conditional go site f s =
    after (go.form site f.test s) (λ c s'. after (go.form site f.consequent s') (λ d. alternate go site c d f.alternate))

unfoldable pub set : Inside → Site → Label → Tree → Does PlainCore
set go site l value s = after (go.form site value s) (λ c. give (assignment l c))

unfoldable pub in_sequence : Inside → Site → List Tree → Does PlainCore
in_sequence go site forms s = after (in_order go site forms s) (λ cs. give (sequence_of cs))

-- `syntax-case` (libraries report 12.4). The variables of a clause's pattern have a frame, in which its fender and its output stand.

abbrev pub fender : Inside → Site → FrameNo → Option Tree → Does (Option PlainCore)
fender go site frame None s = give None s
fender go site frame (Some t) s = after (go.form site (stamp frame t) s) (λ c. give (Some c))

abbrev pub clause_in : Inside → Site → List Tree → PatternCase → FrameNo → Does Clause
clause_in go site literals c frame s =
    after (pattern_of literals site.place c.pattern s) (λ p s'.
    after (bind_pattern frame site.place site.level p.variables s') (λ _ s''.
    after (fender go site frame c.fender s'') (λ f w.
    after (go.form site (stamp frame c.output) w) (λ o. give (record { pattern = p.pattern; fender = f; output = o })))))

unfoldable pub pattern_clause : Inside → Site → List Tree → PatternCase → Does Clause
pattern_clause go site literals c = within (λ s. after (fresh_frame s) (clause_in go site literals c))

abbrev pub all_clauses : Inside → Site → List Tree → List PatternCase → Does (List Clause)
all_clauses go site literals = each (pattern_clause go site literals) []

-- the subject, the literals and the clauses, in this order
unfoldable pub syntax_case : Inside → Site → SyntaxCaseForm → Does PlainCore
syntax_case go site f s =
    after (go.form site f.subject s) (λ c s'.
    after (check_literals site.place f.literals s') (λ _ s''.
    after (all_clauses go site f.literals f.cases s'') (λ xs. give (matching c (clauses xs) f.span))))

-- expressions among the keywords of `let-syntax` or `letrec-syntax`
unfoldable pub keywords_form : Inside → Site → LetSyntaxForm → Does PlainCore
keywords_form go site f s = after (with_keywords go site f s) (in_sequence go site)

-- what lies in a form is one deeper
unfoldable pub perform : Inside → Site → Tree → Plan → Does PlainCore
perform go site t (plans.Done c) = give c
perform go site t (plans.Call operator operands) = application go (one_deeper site) operator operands
perform go site t (plans.Conditional test consequent other) = conditional go (one_deeper site) (if_parts test consequent other)
perform go site t (plans.Assignment l value) = set go (one_deeper site) l value
perform go site t (plans.Sequence forms) = in_sequence go (one_deeper site) forms
perform go site t (plans.Lambda ids forms) = lambda go (one_deeper site) (procedure_parts t ids forms)
perform go site t (plans.CaseLambda cs) = case_lambda go (one_deeper site) t cs
perform go site t (plans.Letrec star bs forms) = letrec_form go (one_deeper site) (letrec_parts t star bs forms)
perform go site t (plans.Matching subject literals cs span) = syntax_case go (one_deeper site) (syntax_case_parts subject literals cs span)
perform go site t (plans.Keywords recursive bs forms) = keywords_form go (one_deeper site) (let_syntax_parts recursive bs forms)
perform go site t (plans.Quasi which template) = quasi_form go (one_deeper site) (template_parts t which template)

abbrev pub perform_settled : Inside → ℕ → ℕ → PlannedForm → Does PlainCore
perform_settled go level depth d = perform go (site_at d.place level depth) d.form d.plan

-- at most so many forms may stand round one
unfoldable pub form_at : Inside → Site → Tree → Does PlainCore
form_at go site t s = if nat_lt most_round site.depth then fault_form kind.TooDeep t site.place s else after
    (expand_uses go.earlier site.place site.level t s) (perform_settled go site.level site.depth)

-- in so much room no form is refused but for its depth
abbrev pub full_room : ℕ
full_room = most_round + 2

-- what is done with forms inside which so many more may nest, behind these records
unfoldable pub inside : List CompiledLibrary → ℕ → Inside
inside rs zero = record {
  earlier = rs;
  form = λ site t. fault_form kind.TooDeep t site.place;
  procedure = λ site p. fault_form kind.TooDeep p.form site.place;
  item = λ at depth done t. fault_form kind.TooDeep t at.place;
}
inside rs (suc room) = record { earlier = rs; form = form_at (inside rs room); procedure = lambda_case (inside rs room); item = item (inside rs room) }

abbrev pub expression : List CompiledLibrary → Site → Tree → ℕ → Does PlainCore
expression rs site t room = (inside rs room).form site t
