use Rattle.std.proofs.Common.{◌≡◌, ◌+◌, ◌*◌, drop, map}
use Rattle.base_data.specs.Act.{each, gather}
use Rattle.expand_forms.specs.Body.{splice, finish_one, finish_all}
use Rattle.expand_forms.specs.Expression.{inside, in_order, one_case, all_cases, one_init, all_inits, pattern_clause, all_clauses}
use Rattle.expand_forms.specs.Keywords.{expand_transformer_in, expand_transformers}
use Rattle.expand_forms.specs.Quasi.{part_core, parts_in_order}
use Rattle.expand_forms.proofs.+form.Given as goal

abbrev pub invariant-expression::in_order-loop-form : goal.invariant-expression::in_order-loop-form
invariant-expression::in_order-loop-form g l = each ((inside (g.M.Transformers.records l.at.means.now) l.at.room).form l.at.site.now) l.done.items (map (λ t. t) (drop l.form-index l.forms)) l.state ≡ in_order (inside (g.M.Transformers.records l.at.means.now) l.at.room) l.at.site.now l.forms l.fn.state

abbrev pub invariant-expression::all_cases-loop-case : goal.invariant-expression::all_cases-loop-case
invariant-expression::all_cases-loop-case g l = each (one_case (inside (g.M.Transformers.records l.at.means.now) l.at.room) l.at.site.now l.form) l.done.items (map (λ c. c) (drop l.case-index l.cases)) l.state ≡ all_cases (inside (g.M.Transformers.records l.at.means.now) l.at.room) l.at.site.now l.form l.cases l.fn.state

abbrev pub invariant-expression::all_inits-loop-one : goal.invariant-expression::all_inits-loop-one
invariant-expression::all_inits-loop-one g l = each (one_init (inside (g.M.Transformers.records l.at.means.now) l.at.room) l.at.site.now l.frame) l.done.items (map (λ b. b) (drop l.one-index l.bound)) l.state ≡ all_inits (inside (g.M.Transformers.records l.at.means.now) l.at.room) l.at.site.now l.frame l.bound l.fn.state

abbrev pub invariant-body::finish_all-loop-one : goal.invariant-body::finish_all-loop-one
invariant-body::finish_all-loop-one g l = each (finish_one (inside (g.M.Transformers.records l.at.means.now) l.at.room) l.at.site.now.level) l.lines.items (map (λ w. w) (drop l.one-index l.waiting)) l.state ≡ finish_all (inside (g.M.Transformers.records l.at.means.now) l.at.room) l.at.site.now.level l.waiting l.fn.state

abbrev pub decreases-expression::expression : goal.decreases-expression::expression
decreases-expression::expression g l = 32 * l.at.now.room + 0

abbrev pub decreases-expression::procedure : goal.decreases-expression::procedure
decreases-expression::procedure g l = 32 * l.at.now.room + 0

abbrev pub decreases-expression::in_order : goal.decreases-expression::in_order
decreases-expression::in_order g l = 32 * l.at.now.room + 1

abbrev pub decreases-expression::application : goal.decreases-expression::application
decreases-expression::application g l = 32 * l.at.now.room + 2

abbrev pub decreases-expression::alternate : goal.decreases-expression::alternate
decreases-expression::alternate g l = 32 * l.at.now.room + 2

abbrev pub decreases-expression::conditional : goal.decreases-expression::conditional
decreases-expression::conditional g l = 32 * l.at.now.room + 3

abbrev pub decreases-expression::set : goal.decreases-expression::set
decreases-expression::set g l = 32 * l.at.now.room + 2

abbrev pub decreases-expression::in_sequence : goal.decreases-expression::in_sequence
decreases-expression::in_sequence g l = 32 * l.at.now.room + 2

abbrev pub decreases-expression::all_inits : goal.decreases-expression::all_inits
decreases-expression::all_inits g l = 32 * l.at.now.room + 3

abbrev pub decreases-expression::one_init : goal.decreases-expression::one_init
decreases-expression::one_init g l = 32 * l.at.now.room + 2

abbrev pub decreases-body::finish_one : goal.decreases-body::finish_one
decreases-body::finish_one g l = 32 * l.at.now.room + 2

abbrev pub decreases-body::value_of : goal.decreases-body::value_of
decreases-body::value_of g l = 32 * l.at.now.room + 1

abbrev pub decreases-body::finish_all : goal.decreases-body::finish_all
decreases-body::finish_all g l = 32 * l.at.now.room + 3

abbrev pub decreases-body::finish : goal.decreases-body::finish
decreases-body::finish g l = 32 * l.at.now.room + 4

abbrev pub decreases-body::body : goal.decreases-body::body
decreases-body::body g l = 32 * l.at.now.room + 6

abbrev pub decreases-expression::lambda_case : goal.decreases-expression::lambda_case
decreases-expression::lambda_case g l = 32 * l.at.now.room + 9

abbrev pub decreases-expression::all_cases : goal.decreases-expression::all_cases
decreases-expression::all_cases g l = 32 * l.at.now.room + 10

abbrev pub decreases-expression::case_lambda : goal.decreases-expression::case_lambda
decreases-expression::case_lambda g l = 32 * l.at.now.room + 11

abbrev pub decreases-expression::lambda : goal.decreases-expression::lambda
decreases-expression::lambda g l = 32 * l.at.now.room + 11

abbrev pub decreases-expression::letrec_form : goal.decreases-expression::letrec_form
decreases-expression::letrec_form g l = 32 * l.at.now.room + 9

abbrev pub decreases-expression::perform : goal.decreases-expression::perform
decreases-expression::perform g l = 32 * l.at.now.room + 13

abbrev pub decreases-expression::perform_plan : goal.decreases-expression::perform_plan
decreases-expression::perform_plan g l = 32 * l.at.now.room + 12

abbrev pub decreases-expression::form_at : goal.decreases-expression::form_at
decreases-expression::form_at g l = 32 * l.at.now.room + 14

abbrev pub invariant-body::splice-loop-form : goal.invariant-body::splice-loop-form
invariant-body::splice-loop-form g l = gather ((inside (g.M.Transformers.records l.at.means.now) l.at.room).item l.at.body.now l.at.depth) l.taken (map (λ t. t) (drop l.form-index l.forms)) l.state ≡ splice (inside (g.M.Transformers.records l.at.means.now) l.at.room) l.at.body.now l.at.depth l.fn.taken l.forms l.fn.state

abbrev pub decreases-body::item : goal.decreases-body::item
decreases-body::item g l = 32 * l.at.now.room + 0

abbrev pub decreases-body::splice : goal.decreases-body::splice
decreases-body::splice g l = 32 * l.at.now.room + 1

abbrev pub decreases-body::item_at : goal.decreases-body::item_at
decreases-body::item_at g l = 32 * l.at.now.room + 8

abbrev pub decreases-body::perform_item : goal.decreases-body::perform_item
decreases-body::perform_item g l = 32 * l.at.now.room + 7

abbrev pub decreases-keywords::expand_transformer : goal.decreases-keywords::expand_transformer
decreases-keywords::expand_transformer g l = 32 * l.at.now.room + 2

abbrev pub decreases-keywords::expand_transformer_in : goal.decreases-keywords::expand_transformer_in
decreases-keywords::expand_transformer_in g l = 32 * l.at.now.room + 3

abbrev pub decreases-keywords::expand_transformers : goal.decreases-keywords::expand_transformers
decreases-keywords::expand_transformers g l = 32 * l.at.now.room + 4

abbrev pub decreases-keywords::keywords : goal.decreases-keywords::keywords
decreases-keywords::keywords g l = 32 * l.at.now.room + 5

abbrev pub decreases-keywords::with_keywords : goal.decreases-keywords::with_keywords
decreases-keywords::with_keywords g l = 32 * l.at.now.room + 6

abbrev pub decreases-keywords::keywords_form : goal.decreases-keywords::keywords_form
decreases-keywords::keywords_form g l = 32 * l.at.now.room + 7

abbrev pub decreases-keywords::define_syntax : goal.decreases-keywords::define_syntax
decreases-keywords::define_syntax g l = 32 * l.at.now.room + 3

abbrev pub decreases-patterns::fender : goal.decreases-patterns::fender
decreases-patterns::fender g l = 32 * l.at.now.room + 2

abbrev pub decreases-patterns::pattern_clause : goal.decreases-patterns::pattern_clause
decreases-patterns::pattern_clause g l = 32 * l.at.now.room + 5

abbrev pub decreases-patterns::all_clauses : goal.decreases-patterns::all_clauses
decreases-patterns::all_clauses g l = 32 * l.at.now.room + 6

abbrev pub decreases-patterns::syntax_case : goal.decreases-patterns::syntax_case
decreases-patterns::syntax_case g l = 32 * l.at.now.room + 7

abbrev pub invariant-keywords::expand_transformers-loop-one : goal.invariant-keywords::expand_transformers-loop-one
invariant-keywords::expand_transformers-loop-one g l = gather (expand_transformer_in (inside (g.M.Transformers.records l.at.means.now) l.at.room) l.at.site.now l.scope.recursive l.scope.frame.now) tt (map (λ b. b) (drop l.one-index l.bound)) l.state ≡ expand_transformers (inside (g.M.Transformers.records l.at.means.now) l.at.room) l.at.site.now l.scope.recursive l.scope.frame.now l.bound l.fn.state

abbrev pub invariant-patterns::all_clauses-loop-case : goal.invariant-patterns::all_clauses-loop-case
invariant-patterns::all_clauses-loop-case g l = each (pattern_clause (inside (g.M.Transformers.records l.at.means.now) l.at.room) l.at.site.now l.literals) l.done.items (map (λ c. c) (drop l.case-index l.cases)) l.state ≡ all_clauses (inside (g.M.Transformers.records l.at.means.now) l.at.room) l.at.site.now l.literals l.cases l.fn.state

abbrev pub invariant-quasi::parts_in_order-loop-part : goal.invariant-quasi::parts_in_order-loop-part
invariant-quasi::parts_in_order-loop-part g l = each (part_core (inside (g.M.Transformers.records l.at.means.now) l.at.room) l.at.site.now.place l.at.site.now.level) l.done.items (map (λ p. p) (drop l.part-index l.parts)) l.state ≡ parts_in_order (inside (g.M.Transformers.records l.at.means.now) l.at.room) l.at.site.now.place l.at.site.now.level l.parts l.fn.state

abbrev pub decreases-quasi::parts_in_order : goal.decreases-quasi::parts_in_order
decreases-quasi::parts_in_order g l = 32 * l.at.now.room + 1

abbrev pub decreases-quasi::quasi_form : goal.decreases-quasi::quasi_form
decreases-quasi::quasi_form g l = 32 * l.at.now.room + 4

abbrev pub decreases-expression::boxed : goal.decreases-expression::boxed
decreases-expression::boxed g l = 32 * l.at.now.room + 1

abbrev pub decreases-expression::expression_in : goal.decreases-expression::expression_in
decreases-expression::expression_in g l = 32 * l.at.now.room + 1

abbrev pub decreases-patterns::clause_in : goal.decreases-patterns::clause_in
decreases-patterns::clause_in g l = 32 * l.at.now.room + 4

abbrev pub decreases-body::taken_of : goal.decreases-body::taken_of
decreases-body::taken_of g l = 32 * l.at.now.room + 2

abbrev pub decreases-body::body_in : goal.decreases-body::body_in
decreases-body::body_in g l = 32 * l.at.now.room + 5

abbrev pub decreases-expression::body_under : goal.decreases-expression::body_under
decreases-expression::body_under g l = 32 * l.at.now.room + 7

abbrev pub decreases-expression::case_in : goal.decreases-expression::case_in
decreases-expression::case_in g l = 32 * l.at.now.room + 8

abbrev pub decreases-expression::letrec_in : goal.decreases-expression::letrec_in
decreases-expression::letrec_in g l = 32 * l.at.now.room + 8

abbrev pub decreases-keywords::expression_apart : goal.decreases-keywords::expression_apart
decreases-keywords::expression_apart g l = 32 * l.at.now.room + 1

abbrev pub decreases-quasi::cores_of : goal.decreases-quasi::cores_of
decreases-quasi::cores_of g l = 32 * l.at.now.room + 2

abbrev pub decreases-patterns::clause_of : goal.decreases-patterns::clause_of
decreases-patterns::clause_of g l = 32 * l.at.now.room + 3

abbrev pub decreases-quasi::quasi_made : goal.decreases-quasi::quasi_made
decreases-quasi::quasi_made g l = 32 * l.at.now.room + 3
