-- How many uses of keywords are made in the expansion of a form, of a body, and of all that stands in them.
use Rattle.std.specs.Prelude.{ℕ, ◌+◌, ◌-◌, Bool, List, Option}
use Rattle.base_data.specs.declared.name.FrameNo.{FrameNo}
use Rattle.base_data.specs.declared.span.Span.{Span}
use Rattle.stx_tree.specs.Tree.{Tree}
use Rattle.core_language.specs.Core.{PlainCore}
use Rattle.core_language.specs.declared.code.Clause.{Clause}
use Rattle.core_language.specs.declared.code.Init.{Init}
use Rattle.core_language.specs.declared.code.Lambda.{Lambda}
use Rattle.core_language.specs.declared.record.CompiledLibrary.{CompiledLibrary}
use Rattle.core_shapes.specs.declared.shape.BindingSpec.{BindingSpec}
use Rattle.core_shapes.specs.declared.shape.FormalIds.{FormalIds}
use Rattle.core_shapes.specs.declared.shape.LambdaCase.{LambdaCase}
use Rattle.core_shapes.specs.declared.shape.PatternCase.{PatternCase}
use Rattle.expand_standing.specs.State.{State}
use Rattle.expand_standing.specs.declared.binders.BoundSpec.{BoundSpec}
use Rattle.expand_heads.specs.declared.item.Item.{Item}
use Rattle.expand_heads.specs.declared.plan.Plan.{Plan}
use Rattle.expand_heads.specs.declared.taken.BodyAt.{BodyAt}
use Rattle.expand_heads.specs.declared.taken.Taken.{Taken}
use Rattle.expand_heads.specs.declared.taken.Waiting.{Waiting}
use Rattle.expand_heads.specs.declared.taken.Waits.{Waits}
use Rattle.expand_forms.specs.Forms.{procedure_parts, let_syntax_parts}
use Rattle.law_references.specs.Changes.{placed, between, body_change}
use Rattle.law_references.specs.Expands as derivation
use Rattle.law_references.specs.Expands.{Expands, settles, Performs, refers, is_done, is_template, calls, tests, chooses, assigns}
use Rattle.law_references.specs.Expands.{follows, makes, makes_cases, binds_all, matches_one, has_keywords, fills, Expand, CaseBinds}
use Rattle.law_references.specs.Expands.{binds_formals, ExpandedBind, Starts, starts_with, ExpansionStart, ExpandsClause, matches_pattern, Match, Asks, KeywordMeans}
use Rattle.law_references.specs.Expands.{means, Mean, BindsKeywords, binds_keywords, TakesForm, takes, Acts, is_taken, takes_forms}
use Rattle.law_references.specs.Expands.{defines_keyword, takes_among, Take, IsBody, is_body, Finish, Ends, declares, defines}
use Rattle.law_references.specs.Expands.{defines_procedure, is_expression}
use Rattle.law_references.specs.Noted.{KeywordExpression, Noted, NotedLine}

-- A form whose uses are expanded was as many, one behind another, as there are fewer left then.
module _ {rs : List CompiledLibrary} where
  abbrev mutual
    -- a form: those of what it was until it was none, and those in what came of it
    pub made : {place : Span} {level : ℕ} {t : Tree} {s u : State} {c : PlainCore} {x : Noted} → Expands rs (placed place level) t c (between s u x) → ℕ
    made (settles {s = s} {v = v} e h) = (s.uses_left - v.uses_left) + made_of h

    pub made_of : {place : Span} {level : ℕ} {t : Tree} {p : Plan} {s u : State} {c : PlainCore} {x : Noted}
        → Performs rs (placed place level) t p c (between s u x) → ℕ
    made_of (refers a e r) = 0
    made_of (is_done a b) = 0
    made_of (is_template a b h) = 0
    made_of (calls h g) = made h + all_made g
    made_of (tests h g) = made h + made g
    made_of (chooses h g j) = made h + (made g + made j)
    made_of (assigns a b h) = made h
    made_of (follows h) = all_made h
    made_of (makes h) = case_made h
    made_of (makes_cases h) = cases_made h
    made_of (binds_all e h g) = inits_made h + body_made g
    made_of (matches_one h e g) = made h + clauses_made g
    made_of (has_keywords h g) = scope_made h + all_made g
    made_of (fills e h g) = all_made h

    pub all_made : {place : Span} {level : ℕ} {ts : List Tree} {s u : State} {cs : List PlainCore} {x : Noted}
        → Expand rs (placed place level) ts cs (between s u x) → ℕ
    all_made derivation.none = 0
    all_made (derivation.more h g) = made h + all_made g

    pub case_made : {place : Span} {level : ℕ} {t : Tree} {ids : FormalIds} {forms : List Tree} {s u : State} {c : Lambda} {x : Noted}
        → CaseBinds rs (placed place level) (procedure_parts t ids forms) c (between s u x) → ℕ
    case_made (binds_formals e h) = body_made h

    pub cases_made : {place : Span} {level : ℕ} {t : Tree} {xs : List LambdaCase} {s u : State} {cs : List Lambda} {x : Noted}
        → ExpandedBind rs (placed place level) t xs cs (between s u x) → ℕ
    cases_made derivation.no_case = 0
    cases_made (derivation.case h g) = case_made h + cases_made g

    pub init_made : {place : Span} {level : ℕ} {f : FrameNo} {b : BoundSpec} {s u : State} {i : Init} {x : Noted}
        → Starts rs (placed place level) f b i (between s u x) → ℕ
    init_made (starts_with h) = made h

    pub inits_made : {place : Span} {level : ℕ} {f : FrameNo} {bs : List BoundSpec} {s u : State} {is : List Init} {x : Noted}
        → ExpansionStart rs (placed place level) f bs is (between s u x) → ℕ
    inits_made derivation.no_init = 0
    inits_made (derivation.init h g) = init_made h + inits_made g

    pub clause_made : {place : Span} {level : ℕ} {literals : List Tree} {c : PatternCase} {s u : State} {k : Clause} {x : Noted}
        → ExpandsClause rs (placed place level) literals c k (between s u x) → ℕ
    clause_made (matches_pattern e f h g) = fender_made h + made g

    pub clauses_made : {place : Span} {level : ℕ} {literals : List Tree} {xs : List PatternCase} {s u : State} {cs : List Clause} {x : Noted}
        → Match rs (placed place level) literals xs cs (between s u x) → ℕ
    clauses_made derivation.no_clause = 0
    clauses_made (derivation.clause h g) = clause_made h + clauses_made g

    pub fender_made : {place : Span} {level : ℕ} {f : FrameNo} {o : Option Tree} {s u : State} {c : Option PlainCore} {x : Noted}
        → Asks rs (placed place level) f o c (between s u x) → ℕ
    fender_made derivation.asks_nothing = 0
    fender_made (derivation.asks_first h) = made h

    pub keyword_made : {place : Span} {level : ℕ} {b : BoundSpec} {s u : State} {es : List KeywordExpression}
        → KeywordMeans rs (placed place level) b (between s u es) → ℕ
    keyword_made (means h e) = made h

    pub keywords_made : {place : Span} {level : ℕ} {recursive : Bool} {f : FrameNo} {bs : List BoundSpec} {s u : State} {es : List KeywordExpression}
        → Mean rs (placed place level) recursive f bs (between s u es) → ℕ
    keywords_made derivation.no_keyword = 0
    keywords_made (derivation.keyword h g) = keyword_made h + keywords_made g

    pub scope_made : {place : Span} {level : ℕ} {recursive : Bool} {bs : List BindingSpec} {forms stamped : List Tree} {s u : State}
        {es : List KeywordExpression}
        → BindsKeywords rs (placed place level) (let_syntax_parts recursive bs forms) stamped (between s u es) → ℕ
    scope_made (binds_keywords e h) = keywords_made h

    pub item_made : {at : BodyAt} {depth : ℕ} {done end : Taken} {t : Tree} {s u : State} {es : List KeywordExpression}
        → TakesForm rs at depth t (body_change done s end u es) → ℕ
    item_made (takes {s = s} {v = v} e h) = (s.uses_left - v.uses_left) + made_of_item h

    pub made_of_item : {at : BodyAt} {depth : ℕ} {done end : Taken} {t : Tree} {i : Item} {s u : State} {es : List KeywordExpression}
        → Acts rs at depth t i (body_change done s end u es) → ℕ
    made_of_item is_taken = 0
    made_of_item (takes_forms h) = items_made h
    made_of_item (defines_keyword e h) = keyword_made h
    made_of_item (takes_among h g) = scope_made h + items_made g

    -- the first pass over a body
    pub items_made : {at : BodyAt} {depth : ℕ} {done end : Taken} {ts : List Tree} {s u : State} {es : List KeywordExpression}
        → Take rs at depth ts (body_change done s end u es) → ℕ
    items_made derivation.none_taken = 0
    items_made (derivation.more_taken h g) = item_made h + items_made g

    pub body_made : {place : Span} {level : ℕ} {t : Tree} {forms : List Tree} {s u : State} {c : PlainCore} {x : Noted}
        → IsBody rs (placed place level) t forms c (between s u x) → ℕ
    body_made (is_body depth h g) = items_made h + lines_made g

    -- the second pass
    pub lines_made : {level : ℕ} {ws : List Waiting} {s u : State} {xs : List NotedLine} → Finish rs level ws s xs u → ℕ
    lines_made derivation.no_line = 0
    lines_made (derivation.next_line h g) = line_made h + lines_made g

    pub line_made : {level : ℕ} {place : Span} {w : Waits} {s u : State} {x : NotedLine} → Ends rs (placed place level) w s x u → ℕ
    line_made declares = 0
    line_made (defines h) = made h
    line_made (defines_procedure h) = case_made h
    line_made (is_expression h) = made h
