-- All uses that are made in an expansion are counted.
use Rattle.std.proofs.Common.{◌≡◌, ◌+◌, ℕ, Bool, List, Option, refl, ◌∙◌, arith}
use Rattle.base_data.specs.declared.name.FrameNo.{FrameNo}
use Rattle.base_data.specs.declared.span.Span.{Span}
use Rattle.stx_tree.specs.Tree.{Tree}
use Rattle.core_language.specs.Core.{PlainCore}
use Rattle.core_language.specs.declared.code.Clause.{Clause}
use Rattle.core_language.specs.declared.code.Init.{Init}
use Rattle.core_language.specs.declared.code.Lambda.{Lambda}
use Rattle.core_language.specs.declared.record.CompiledLibrary.{CompiledLibrary}
use Rattle.core_shapes.specs.declared.shape.BindingSpec.{BindingSpec}
use Rattle.core_shapes.specs.declared.shape.FormalIds.{FormalIds}
use Rattle.core_shapes.specs.declared.shape.LambdaCase.{LambdaCase}
use Rattle.core_shapes.specs.declared.shape.PatternCase.{PatternCase}
use Rattle.expand_standing.specs.State.{State}
use Rattle.expand_standing.specs.declared.binders.BoundSpec.{BoundSpec}
use Rattle.expand_heads.specs.declared.item.Item.{Item}
use Rattle.expand_heads.specs.declared.plan.Plan.{Plan}
use Rattle.expand_heads.specs.declared.taken.BodyAt.{BodyAt}
use Rattle.expand_heads.specs.declared.taken.Taken.{Taken}
use Rattle.expand_heads.specs.declared.taken.Waiting.{Waiting}
use Rattle.expand_heads.specs.declared.taken.Waits.{Waits}
use Rattle.expand_forms.specs.Forms.{procedure_parts, let_syntax_parts}
use Rattle.law_references.specs.Changes.{placed, between, body_change}
use Rattle.law_references.specs.Expands as derivation
use Rattle.law_references.specs.Expands.{counted, QuasiCodes, quotes, has_no_insert, has_inserts, Expands, settles, Performs, refers, is_done, is_template, calls, tests, chooses, assigns, follows, makes, makes_cases, binds_all, matches_one, has_keywords, fills, Expand, CaseBinds, binds_formals, ExpandedBind, Starts, starts_with, ExpansionStart, ExpandsClause, matches_pattern, Match, Asks, KeywordMeans, means, Mean, BindsKeywords, binds_keywords, TakesForm, takes, Acts, is_taken, takes_forms, defines_keyword, takes_among, Take, IsBody, is_body, Finish, Ends, declares, defines, defines_procedure, is_expression}
use Rattle.law_references.specs.Noted.{KeywordExpression, Noted, NotedLine}
use Rattle.expand_quasi.specs.declared.form.QuasiForm.{QuasiForm}
use Rattle.core_shapes.specs.At.{place_of}
use Rattle.law_counts.specs.Made.{made, made_of, all_made, case_made, cases_made, init_made, inits_made, clause_made, clauses_made, fender_made, keyword_made, keywords_made, scope_made, item_made, made_of_item, items_made, body_made, lines_made, line_made}
use Rattle.law_counts.proofs.Items.{define-keyword-keeps}
use Rattle.law_counts.proofs.Settling.{settled-by, item-by}
use Rattle.law_counts.proofs.Standing.{keeps-given, bind-specs-keeps, bind-formals-keeps, bind-keywords-keeps, finish-keyword-keeps, bind-pattern-keeps, pattern-keeps, literals-keeps, insert-variables-keeps, bind-inserts-keeps, quasi-keeps}

module _ (rs : List CompiledLibrary) where
  codes-keep : {place : Span} {level : ℕ} {t : Tree} {q : QuasiForm} {cs : List PlainCore} {s u : State} {c : PlainCore} {x : Noted} → QuasiCodes (placed place level) t q cs c (between s u x) → u.uses_left ≡ s.uses_left
  codes-keep quotes = refl
  codes-keep (has_no_insert none e h) = refl
  codes-keep {place} {level} (has_inserts {q = q} {s = s} {v = v} {vs = vs} some f g k h) =
      keeps-given v g (bind-inserts-keeps (record { 0 = s.names }) place level vs v) ∙ keeps-given (counted s) f (insert-variables-keeps q.inserts (counted s))

  mutual
    pub count-made : {place : Span} {level : ℕ} {t : Tree} {s u : State} {c : PlainCore} {x : Noted} (d : Expands rs (placed place level) t c (between s u x)) → made d + u.uses_left ≡ s.uses_left
    count-made (settles {at = at} {t = t} {s = s} {v = v} {d = d} e h) =
        let a = settled-by rs at.level at.place t s v d e in
        let now = a.left in
        let k = count-made_of h in
        omega (arith, now, k)

    count-made_of : {place : Span} {level : ℕ} {t : Tree} {p : Plan} {s u : State} {c : PlainCore} {x : Noted} (d : Performs rs (placed place level) t p c (between s u x)) → made_of d + u.uses_left ≡ s.uses_left
    count-made_of (refers a e r) = omega arith
    count-made_of (is_done a b) = omega arith
    count-made_of (is_template a b h) = omega arith
    count-made_of (calls h g) = let k = count-made h in let j = count-all_made g in omega (arith, k, j)
    count-made_of (tests h g) = let k = count-made h in let j = count-made g in omega (arith, k, j)
    count-made_of (chooses h g l) = let k = count-made h in let j = count-made g in let i = count-made l in omega (arith, k, j, i)
    count-made_of (assigns a b h) = count-made h
    count-made_of (follows h) = count-all_made h
    count-made_of (makes h) = count-case_made h
    count-made_of (makes_cases h) = count-cases_made h
    count-made_of (binds_all {at = at} {bs = bs} {s = s} e h g) =
        let a = keeps-given (counted s) e (bind-specs-keeps (record { 0 = s.names }) at.place at.level bs (counted s)) in
        let k = count-inits_made h in
        let j = count-body_made g in
        omega (arith, a, k, j)
    count-made_of (matches_one {at = at} {literals = literals} {v = v} h e g) =
        let a = keeps-given v e (literals-keeps literals at.place v) in
        let k = count-made h in
        let j = count-clauses_made g in
        omega (arith, a, k, j)
    count-made_of (has_keywords h g) = let k = count-scope_made h in let j = count-all_made g in omega (arith, k, j)
    count-made_of (fills {at = at} {t = t} {template = x} {which = which} {s = s} e h g) =
        let a = keeps-given s e (quasi-keeps at.place t which x s) in
        let k = count-all_made h in
        let j = codes-keep g in
        omega (arith, a, k, j)

    count-all_made : {place : Span} {level : ℕ} {ts : List Tree} {s u : State} {cs : List PlainCore} {x : Noted} (d : Expand rs (placed place level) ts cs (between s u x)) → all_made d + u.uses_left ≡ s.uses_left
    count-all_made derivation.none = omega arith
    count-all_made (derivation.more h g) = let k = count-made h in let j = count-all_made g in omega (arith, k, j)

    count-case_made : {place : Span} {level : ℕ} {t : Tree} {ids : FormalIds} {forms : List Tree} {s u : State} {c : Lambda} {x : Noted} (d : CaseBinds rs (placed place level) (procedure_parts t ids forms) c (between s u x)) → case_made d + u.uses_left ≡ s.uses_left
    count-case_made (binds_formals {at = at} {ids = ids} {s = s} e h) =
        let a = keeps-given (counted s) e (bind-formals-keeps (record { 0 = s.names }) at.place at.level ids (counted s)) in
        let k = count-body_made h in
        omega (arith, a, k)

    count-cases_made : {place : Span} {level : ℕ} {t : Tree} {xs : List LambdaCase} {s u : State} {cs : List Lambda} {x : Noted} (d : ExpandedBind rs (placed place level) t xs cs (between s u x)) → cases_made d + u.uses_left ≡ s.uses_left
    count-cases_made derivation.no_case = omega arith
    count-cases_made (derivation.case h g) = let k = count-case_made h in let j = count-cases_made g in omega (arith, k, j)

    count-init_made : {place : Span} {level : ℕ} {f : FrameNo} {b : BoundSpec} {s u : State} {i : Init} {x : Noted} (d : Starts rs (placed place level) f b i (between s u x)) → init_made d + u.uses_left ≡ s.uses_left
    count-init_made (starts_with h) = count-made h

    count-inits_made : {place : Span} {level : ℕ} {f : FrameNo} {bs : List BoundSpec} {s u : State} {is : List Init} {x : Noted} (d : ExpansionStart rs (placed place level) f bs is (between s u x)) → inits_made d + u.uses_left ≡ s.uses_left
    count-inits_made derivation.no_init = omega arith
    count-inits_made (derivation.init h g) = let k = count-init_made h in let j = count-inits_made g in omega (arith, k, j)

    count-clause_made : {place : Span} {level : ℕ} {literals : List Tree} {c : PatternCase} {s u : State} {k : Clause} {x : Noted} (d : ExpandsClause rs (placed place level) literals c k (between s u x)) → clause_made d + u.uses_left ≡ s.uses_left
    count-clause_made (matches_pattern {at = at} {literals = literals} {x = c} {s = s} {v = v} {p = p} e f h g) =
        let a = keeps-given (counted s) e (pattern-keeps literals at.place c.pattern (counted s)) in
        let b = keeps-given v f (bind-pattern-keeps (record { 0 = s.names }) at.place at.level p.variables v) in
        let k = count-fender_made h in
        let j = count-made g in
        omega (arith, a, b, k, j)

    count-clauses_made : {place : Span} {level : ℕ} {literals : List Tree} {xs : List PatternCase} {s u : State} {cs : List Clause} {x : Noted} (d : Match rs (placed place level) literals xs cs (between s u x)) → clauses_made d + u.uses_left ≡ s.uses_left
    count-clauses_made derivation.no_clause = omega arith
    count-clauses_made (derivation.clause h g) = let k = count-clause_made h in let j = count-clauses_made g in omega (arith, k, j)

    count-fender_made : {place : Span} {level : ℕ} {f : FrameNo} {o : Option Tree} {s u : State} {c : Option PlainCore} {x : Noted} (d : Asks rs (placed place level) f o c (between s u x)) → fender_made d + u.uses_left ≡ s.uses_left
    count-fender_made derivation.asks_nothing = omega arith
    count-fender_made (derivation.asks_first h) = count-made h

    count-keyword_made : {place : Span} {level : ℕ} {b : BoundSpec} {s u : State} {es : List KeywordExpression} (d : KeywordMeans rs (placed place level) b (between s u es)) → keyword_made d + u.uses_left ≡ s.uses_left
    count-keyword_made (means {at = at} {b = b} {s = s} {v = v} {c = c} h e) =
        let back : State = record v { scope = s.scope } in
        let a = keeps-given back e (finish-keyword-keeps rs (place_of b.init at.place) b.label c back) in
        let k = count-made h in
        omega (arith, a, k)

    count-keywords_made : {place : Span} {level : ℕ} {recursive : Bool} {f : FrameNo} {bs : List BoundSpec} {s u : State} {es : List KeywordExpression} (d : Mean rs (placed place level) recursive f bs (between s u es)) → keywords_made d + u.uses_left ≡ s.uses_left
    count-keywords_made derivation.no_keyword = omega arith
    count-keywords_made (derivation.keyword h g) = let k = count-keyword_made h in let j = count-keywords_made g in omega (arith, k, j)

    count-scope_made : {place : Span} {level : ℕ} {recursive : Bool} {bs : List BindingSpec} {forms stamped : List Tree} {s u : State} {es : List KeywordExpression} (d : BindsKeywords rs (placed place level) (let_syntax_parts recursive bs forms) stamped (between s u es)) → scope_made d + u.uses_left ≡ s.uses_left
    count-scope_made (binds_keywords {at = at} {bs = bs} {s = s} e h) =
        let a = keeps-given (counted s) e (bind-keywords-keeps (record { 0 = s.names }) at.place at.level bs (counted s)) in
        let k = count-keywords_made h in
        omega (arith, a, k)

    count-item_made : {at : BodyAt} {depth : ℕ} {done end : Taken} {t : Tree} {s u : State} {es : List KeywordExpression} (d : TakesForm rs at depth t (body_change done s end u es)) → item_made d + u.uses_left ≡ s.uses_left
    count-item_made (takes {at = at} {depth = depth} {done = done} {after = between} {t = t} {d = d} {s = s} {v = v} e h) =
        let a = item-by rs depth at done between t s v d e in
        let now = a.left in
        let k = count-made_of_item h in
        omega (arith, now, k)

    count-made_of_item : {at : BodyAt} {depth : ℕ} {done end : Taken} {t : Tree} {i : Item} {s u : State} {es : List KeywordExpression} (d : Acts rs at depth t i (body_change done s end u es)) → made_of_item d + u.uses_left ≡ s.uses_left
    count-made_of_item is_taken = omega arith
    count-made_of_item (takes_forms h) = count-items_made h
    count-made_of_item (defines_keyword {at = at} {done = done} {t = t} {b = b} {s = s} e h) =
        let a = keeps-given s e (define-keyword-keeps at done t b s) in
        let k = count-keyword_made h in
        omega (arith, a, k)
    count-made_of_item (takes_among h g) = let k = count-scope_made h in let j = count-items_made g in omega (arith, k, j)

    pub count-items_made : {at : BodyAt} {depth : ℕ} {done end : Taken} {ts : List Tree} {s u : State} {es : List KeywordExpression} (d : Take rs at depth ts (body_change done s end u es)) → items_made d + u.uses_left ≡ s.uses_left
    count-items_made derivation.none_taken = omega arith
    count-items_made (derivation.more_taken h g) = let k = count-item_made h in let j = count-items_made g in omega (arith, k, j)

    count-body_made : {place : Span} {level : ℕ} {t : Tree} {forms : List Tree} {s u : State} {c : PlainCore} {x : Noted} (d : IsBody rs (placed place level) t forms c (between s u x)) → body_made d + u.uses_left ≡ s.uses_left
    count-body_made (is_body depth h g) = let k = count-items_made h in let j = count-lines_made g in omega (arith, k, j)

    pub count-lines_made : {level : ℕ} {ws : List Waiting} {s u : State} {xs : List NotedLine} (d : Finish rs level ws s xs u) → lines_made d + u.uses_left ≡ s.uses_left
    count-lines_made derivation.no_line = omega arith
    count-lines_made (derivation.next_line h g) = let k = count-line_made h in let j = count-lines_made g in omega (arith, k, j)

    count-line_made : {level : ℕ} {place : Span} {w : Waits} {s u : State} {x : NotedLine} (d : Ends rs (placed place level) w s x u) → line_made d + u.uses_left ≡ s.uses_left
    count-line_made declares = omega arith
    count-line_made (defines h) = count-made h
    count-line_made (defines_procedure h) = count-case_made h
    count-line_made (is_expression h) = count-made h
