-- What is noted of forms is linked, and their links are those of identifiers.
use Rattle.std.proofs.Common.{ℕ, Bool, List, [], ◌∷◌, ◌++◌, length, Option, Result, Ok, Err, refl, sym, subst, ◌∙◌, append-nil}
use Rattle.base_data.proofs.ElementLemmas.{each-append, each-implied}
use Rattle.base_data.specs.Elements.{Each}
use Rattle.base_data.specs.declared.fault.Fault.{Fault}
use Rattle.base_data.specs.declared.name.FrameNo.{FrameNo}
use Rattle.base_data.specs.declared.span.Span.{Span}
use Rattle.stx_tree.specs.Tree.{Tree}
use Rattle.core_language.specs.Core.{PlainCore, variable}
use Rattle.core_language.specs.declared.code.Clause.{Clause}
use Rattle.core_language.specs.declared.code.Init.{Init}
use Rattle.core_language.specs.declared.code.Lambda.{Lambda}
use Rattle.core_language.specs.declared.link.Link.{Link}
use Rattle.core_language.specs.declared.record.CompiledLibrary.{CompiledLibrary}
use Rattle.core_language.specs.declared.record.Line.{Line}
use Rattle.core_language.specs.declared.record.Line.TheVariants as line
use Rattle.core_language.specs.Template.{PlainTemplate}
use Rattle.core_quasi.specs.Plan.{PlainQuasi}
use Rattle.core_quasi.specs.declared.quasi_syntax.Insert.{Insert}
use Rattle.core_quasi.specs.declared.quasi_syntax.QuasiSyntax.{QuasiSyntax}
use Rattle.core_quasi.specs.declared.word.Family.{Family}
use Rattle.core_quasi.specs.declared.word.Family.TheVariants as family
use Rattle.expand_quasi.specs.Form as quasi_form
use Rattle.expand_quasi.specs.Inserted.{dots, ellipsis, insert_variable, insert_variables, bind_inserts}
use Rattle.expand_quasi.specs.declared.form.QuasiForm.{QuasiForm}
use Rattle.eval_pattern.specs.declared.compile.PatternVariable.{PatternVariable}
use Rattle.core_shapes.specs.At.{place_of}
use Rattle.core_shapes.specs.declared.shape.BindingSpec.{BindingSpec}
use Rattle.core_shapes.specs.declared.shape.FormalIds.{FormalIds}
use Rattle.core_shapes.specs.declared.shape.LambdaCase.{LambdaCase}
use Rattle.core_shapes.specs.declared.shape.PatternCase.{PatternCase}
use Rattle.eval_stage.specs.Patterns as stage_patterns
use Rattle.stx_tree.specs.Changes.{stamp}
use Rattle.expand_standing.specs.InScope.{cut}
use Rattle.expand_standing.specs.Patterns.{pattern_of, check_literals, bind_pattern}
use Rattle.expand_standing.specs.State.{State, fresh, stage_of}
use Rattle.expand_standing.specs.declared.binders.BoundSpec.{BoundSpec}
use Rattle.expand_heads.specs.declared.item.Item.{Item}
use Rattle.expand_heads.specs.declared.plan.Plan.{Plan}
use Rattle.expand_heads.specs.declared.taken.BodyAt.{BodyAt}
use Rattle.expand_heads.specs.declared.taken.Taken.{Taken}
use Rattle.expand_heads.specs.declared.taken.Waiting.{Waiting}
use Rattle.expand_heads.specs.declared.taken.Waits.{Waits}
use Rattle.expand_forms.specs.Forms.{procedure_parts, let_syntax_parts}
use Rattle.law_references.specs.Changes.{placed, between, body_change}
use Rattle.law_references.specs.Expands.{counted, QuasiCodes, quotes, has_no_insert, has_inserts, Expands, settles, Performs, refers, is_done, is_template, calls, tests, chooses, assigns, follows, makes, makes_cases, binds_all, matches_one, has_keywords, fills, Expand, CaseBinds, binds_formals, ExpandedBind, Starts, starts_with, ExpansionStart, ExpandsClause, matches_pattern, Match, Asks, KeywordMeans, means, Mean, BindsKeywords, binds_keywords, TakesForm, takes, Acts, is_taken, takes_forms, defines_keyword, takes_among, Take, IsBody, is_body, Finish, Ends, declares, defines, defines_procedure, is_expression}
use Rattle.law_references.specs.Expands as derivation
use Rattle.law_references.specs.Noted.{Reference, KeywordExpression, Noted, nothing, only, of_references, of_keywords, both, NotedLine, if_definition, if_expression, of_definitions, of_expressions, of_lines}
use Rattle.law_references.specs.Templates.{IsPatternVariable, IsTemplateOf}
use Rattle.law_links.specs.Links.{CodeLinked, IsLinked, AreLinked, ExpressionsLinked}
use Rattle.law_links.proofs.Grown.{Grows, grows-same, grows-then, grows-to, grows-from, Grew, grew-after, grew-each, grew-staged, grew-given, expressions-later, linked-later, Went, Kept, went-both, went-from, kept-both, kept-from}
use Rattle.law_links.proofs.Items.{define-keyword-grew, expand_uses-item-grew}
use Rattle.law_links.proofs.Planning.{target-is}
use Rattle.law_links.proofs.Settling.{PlanLinked, settled-so}
use Rattle.law_links.proofs.Standing.{put-row-grew, bind-specs-grew, bind-formals-grew, bind-keywords-grew, finish-keyword-grew, bind-pattern-grew}

-- Templates of pattern variables have no links.

template-linked : (ls : List Link) (s : State) (place : Span) (level : ℕ) (refs : List Reference) → Each (IsPatternVariable s place level) refs → AreLinked ls refs
template-linked ls s place level refs h = each-implied (IsPatternVariable s place level) (IsLinked ls) (λ r k. λ p e. subst (λ (c : PlainCore). CodeLinked ls p c) (sym k.code) tt) refs h

went-none : (s : State) → Went s s nothing
went-none s = record { grows = grows-same s s refl; linked = (tt, tt) }

went-template : (s : State) (place : Span) (level : ℕ) (t : Tree) (x : PlainTemplate) (refs : List Reference) → IsTemplateOf s (placed place level) t x refs → Went s s (of_references refs)
went-template s place level t x refs h = record { grows = grows-same s s refl; linked = (template-linked s.links s place level refs h.variables, tt) }

-- Actions between forms.

pattern-grew : (literals : List Tree) (place : Span) (t : Tree) (s : State) → Grew s (pattern_of literals place t s)
pattern-grew literals place t s = grew-staged s (stage_patterns.pattern_of literals place t (stage_of s))

literals-grew : (literals : List Tree) (place : Span) (s : State) → Grew s (check_literals place literals s)
literals-grew literals place s = grew-staged s (stage_patterns.check_literals place literals (stage_of s))

insert-variable-grew : (i : Insert) (s : State) → Grew s (insert_variable i s)
unfolding fresh
insert-variable-grew i s = record { new = []; are = sym (append-nil s.links); all = tt }

insert-variables-grew : (is : List Insert) (s : State) → Grew s (insert_variables is s)
insert-variables-grew is s = grew-each insert_variable (λ i t. insert-variable-grew i t) [] is s

bind-inserts-grew : (f : FrameNo) (place : Span) (level : ℕ) (vs : List PatternVariable) (s : State) → Grew s (bind_inserts f place level vs s)
bind-inserts-grew f place level vs s = grew-after s (bind_pattern f place level vs s) _ (bind-pattern-grew f place level vs s) (λ x t. put-row-grew dots place f ellipsis t)

quote-grew : (r : Result PlainQuasi Fault) (s : State) → Grew s (quasi_form.quote_by r s)
quote-grew (Ok q) s = grows-same s s refl
quote-grew (Err e) s = tt

syntax-grew : (r : Result QuasiSyntax Fault) (s : State) → Grew s (quasi_form.syntax_by r s)
syntax-grew (Ok q) s = grows-same s s refl
syntax-grew (Err e) s = tt

quasi-grew : (place : Span) (t : Tree) (which : Family) (x : Tree) (s : State) → Grew s (quasi_form.form_of place t which x s)
quasi-grew place t family.Quote x s = quote-grew _ s
quasi-grew place t family.Syntax x s = syntax-grew _ s

counted-grows : (s : State) → Grows s (counted s)
counted-grows s = grows-same s (counted s) refl

-- behind one more name
from-counted : (s u : State) → Grows (counted s) u → Grows s u
from-counted s u g = grows-from s (counted s) u refl g

went-counted : (s u : State) (x : Noted) → Went (counted s) u x → Went s u x
went-counted s u x h = record { grows = from-counted s u h.grows; linked = h.linked }

went-cut : (s u : State) (n : ℕ) (x : Noted) → Went s u x → Went s (cut n u) x
went-cut s u n x h = record { grows = grows-to s u (cut n u) refl h.grows; linked = h.linked }

-- The lines of a body, with what is noted of them.
pub record Finished (s u : State) (xs : List NotedLine) : Type 0 where
  pub grows : Grows s u
  pub lines : Each (λ (x : NotedLine). AreLinked u.links x.noted.references) xs
  pub expressions : ExpressionsLinked u.links (of_lines xs)

module _ (ls : List Link) where
  abbrev LineLinked : NotedLine → Type 0
  LineLinked x = AreLinked ls x.noted.references

  definition-linked : (l : Line) (refs : List Reference) → AreLinked ls refs → AreLinked ls (if_definition l refs)
  definition-linked (line.Define l c) refs h = h
  definition-linked (line.Expr c) refs h = tt

  expression-linked : (l : Line) (refs : List Reference) → AreLinked ls refs → AreLinked ls (if_expression l refs)
  expression-linked (line.Define l c) refs h = tt
  expression-linked (line.Expr c) refs h = h

  definitions-linked : (xs : List NotedLine) → Each LineLinked xs → AreLinked ls (of_definitions xs)
  definitions-linked [] h = tt
  definitions-linked (x ∷ xs) h = each-append (IsLinked ls) (if_definition x.line x.noted.references) (of_definitions xs) (definition-linked x.line x.noted.references h.0) (definitions-linked xs h.1)

  last-linked : (xs : List NotedLine) → Each LineLinked xs → AreLinked ls (of_expressions xs)
  last-linked [] h = tt
  last-linked (x ∷ xs) h = each-append (IsLinked ls) (if_expression x.line x.noted.references) (of_expressions xs) (expression-linked x.line x.noted.references h.0) (last-linked xs h.1)

  told-linked : (xs : List NotedLine) → Each LineLinked xs → AreLinked ls (of_definitions xs ++ of_expressions xs)
  told-linked xs h = each-append (IsLinked ls) (of_definitions xs) (of_expressions xs) (definitions-linked xs h) (last-linked xs h)

module _ (rs : List CompiledLibrary) where
  codes-went : {place : Span} {level : ℕ} {t : Tree} {q : QuasiForm} {cs : List PlainCore} {s u : State} {c : PlainCore} {x : Noted} → QuasiCodes (placed place level) t q cs c (between s u x) → Went s u x
  codes-went (quotes {s = s}) = went-none s
  codes-went {place} {level} (has_no_insert {q = q} {s = s} {x = x} {refs = refs} none e h) = went-template s place level q.template x refs h
  codes-went {place} {level} (has_inserts {q = q} {s = s} {v = v} {w = w} {vs = vs} {e = e} {x = x} {refs = refs} some f g k h) =
      let a = grew-given (counted s) f (insert-variables-grew q.inserts (counted s)) in
      let b = grew-given v g (bind-inserts-grew (record { 0 = s.names }) place level vs v) in
      let all = from-counted s w (grows-then (counted s) v w a b) in
      went-cut s w (length s.scope) (of_references refs) (went-from s w w (of_references refs) all (went-template w place level (stamp (record { 0 = s.names }) q.template) x refs h))

  mutual
    pub expands-went : {place : Span} {level : ℕ} {t : Tree} {s u : State} {c : PlainCore} {x : Noted} → Expands rs (placed place level) t c (between s u x) → Went s u x
    expands-went (settles {at = at} {t = t} {s = s} {v = v} {u = u} {d = d} {refs = refs} e h) =
        let k = settled-so rs at.place at.level t s v d e in
        went-from s v u refs k.grows (performs-went h k.link)

    performs-went : {place : Span} {level : ℕ} {t : Tree} {p : Plan} {s u : State} {c : PlainCore} {x : Noted} → Performs rs (placed place level) t p c (between s u x) → PlanLinked t p s → Went s u x
    performs-went (refers {s = s} leafy e r) k = record { grows = grows-same s s refl; linked = ((k, tt), tt) }
    performs-went (is_done {s = s} a b) k = went-none s
    performs-went (is_template {at = at} {operand = operand} {s = s} {x = x} {refs = refs} a b h) k = went-template s at.place at.level operand x refs h
    performs-went (calls {s = s} {v = v} {u = u} {refs = refs} {more = more} h g) k = went-both s v u refs more (expands-went h) (expand-went g)
    performs-went (tests {s = s} {v = v} {u = u} {refs = refs} {more = more} h g) k = went-both s v u refs more (expands-went h) (expands-went g)
    performs-went (chooses {s = s} {v = v} {w = w} {u = u} {refs = refs} {more = more} {last = last} h g j) k =
        went-both s v u refs (both more last) (expands-went h) (went-both v w u more last (expands-went g) (expands-went j))
    performs-went (assigns {at = at} {t = t} {id = id} {value = value} {s = s} {u = u} {l = l} {refs = refs} a b h) k =
        let first : Went s s (only (record { leaf = id; state = s; label = l; code = variable l })) = record { grows = grows-same s s refl; linked = (((λ p e. k p (target-is t at.place id value a ∙ e)), tt), tt) } in
        went-both s s u (only (record { leaf = id; state = s; label = l; code = variable l })) refs first (expands-went h)
    performs-went (follows h) k = expand-went h
    performs-went (makes {s = s} {u = u} {refs = refs} h) k = went-counted s u refs (binds-went h)
    performs-went (makes_cases {s = s} {u = u} {refs = refs} h) k = went-counted s u refs (bind-went h)
    performs-went (binds_all {at = at} {bs = bs} {s = s} {v = v} {w = w} {u = u} {ls = ls} {refs = refs} {more = more} e h g) k =
        let a = from-counted s v (grew-given (counted s) e (bind-specs-grew (record { 0 = s.names }) at.place at.level bs (counted s))) in
        went-cut s u (length s.scope) (both refs more) (went-from s v u (both refs more) a (went-both v w u refs more (start-went h) (body-went g)))
    performs-went (matches_one {at = at} {literals = literals} {s = s} {v = v} {w = w} {u = u} {x = x} {refs = refs} {more = more} h e g) k =
        let a = grew-given v e (literals-grew literals at.place v) in
        went-both s v u refs more (expands-went h) (went-from v w u more a (match-went g))
    performs-went (has_keywords {s = s} {v = v} {u = u} {es = es} {refs = refs} h g) k =
        let a = keywords-kept h in
        went-both s v u (of_keywords es) refs (record { grows = a.grows; linked = (tt, a.linked) }) (expand-went g)
    performs-went (fills {at = at} {t = t} {template = x} {which = which} {s = s} {v = v} {w = w} {u = u} {q = q} {refs = refs} {others = others} e h g) k =
        let a = grew-given s e (quasi-grew at.place t which x s) in
        went-from s v u (both refs others) a (went-both v w u refs others (expand-went h) (codes-went g))

    expand-went : {place : Span} {level : ℕ} {ts : List Tree} {s u : State} {cs : List PlainCore} {x : Noted} → Expand rs (placed place level) ts cs (between s u x) → Went s u x
    expand-went (derivation.none {s = s}) = went-none s
    expand-went (derivation.more {s = s} {v = v} {u = u} {refs = refs} {others = others} h g) = went-both s v u refs others (expands-went h) (expand-went g)

    binds-went : {place : Span} {level : ℕ} {t : Tree} {ids : FormalIds} {forms : List Tree} {s u : State} {c : Lambda} {x : Noted} → CaseBinds rs (placed place level) (procedure_parts t ids forms) c (between s u x) → Went s u x
    binds-went (binds_formals {at = at} {ids = ids} {s = s} {v = v} {u = u} {formals = formals} {refs = refs} e h) =
        let a = from-counted s v (grew-given (counted s) e (bind-formals-grew (record { 0 = s.names }) at.place at.level ids (counted s))) in
        went-cut s u (length s.scope) refs (went-from s v u refs a (body-went h))

    bind-went : {place : Span} {level : ℕ} {t : Tree} {xs : List LambdaCase} {s u : State} {cs : List Lambda} {x : Noted} → ExpandedBind rs (placed place level) t xs cs (between s u x) → Went s u x
    bind-went (derivation.no_case {s = s}) = went-none s
    bind-went (derivation.case {s = s} {v = v} {u = u} {refs = refs} {others = others} h g) = went-both s v u refs others (binds-went h) (bind-went g)

    starts-went : {place : Span} {level : ℕ} {f : FrameNo} {b : BoundSpec} {s u : State} {i : Init} {x : Noted} → Starts rs (placed place level) f b i (between s u x) → Went s u x
    starts-went (starts_with h) = expands-went h

    start-went : {place : Span} {level : ℕ} {f : FrameNo} {bs : List BoundSpec} {s u : State} {is : List Init} {x : Noted} → ExpansionStart rs (placed place level) f bs is (between s u x) → Went s u x
    start-went (derivation.no_init {s = s}) = went-none s
    start-went (derivation.init {s = s} {v = v} {u = u} {refs = refs} {others = others} h g) = went-both s v u refs others (starts-went h) (start-went g)

    matches-went : {place : Span} {level : ℕ} {literals : List Tree} {c : PatternCase} {s u : State} {k : Clause} {x : Noted} → ExpandsClause rs (placed place level) literals c k (between s u x) → Went s u x
    matches-went (matches_pattern {at = at} {literals = literals} {x = c} {s = s} {v = v} {w = w} {y = y} {u = u} {p = p} {e = e} {refs = refs} {others = others} f g h j) =
        let a = from-counted s v (grew-given (counted s) f (pattern-grew literals at.place c.pattern (counted s))) in
        let b = grew-given v g (bind-pattern-grew (record { 0 = s.names }) at.place at.level p.variables v) in
        went-cut s u (length s.scope) (both refs others) (went-from s w u (both refs others) (grows-then s v w a b) (went-both w y u refs others (asks-went h) (expands-went j)))

    match-went : {place : Span} {level : ℕ} {literals : List Tree} {xs : List PatternCase} {s u : State} {cs : List Clause} {x : Noted} → Match rs (placed place level) literals xs cs (between s u x) → Went s u x
    match-went (derivation.no_clause {s = s}) = went-none s
    match-went (derivation.clause {s = s} {v = v} {u = u} {refs = refs} {others = others} h g) = went-both s v u refs others (matches-went h) (match-went g)

    asks-went : {place : Span} {level : ℕ} {f : FrameNo} {o : Option Tree} {s u : State} {c : Option PlainCore} {x : Noted} → Asks rs (placed place level) f o c (between s u x) → Went s u x
    asks-went (derivation.asks_nothing {s = s}) = went-none s
    asks-went (derivation.asks_first h) = expands-went h

    means-kept : {place : Span} {level : ℕ} {b : BoundSpec} {s u : State} {es : List KeywordExpression} → KeywordMeans rs (placed place level) b (between s u es) → Kept s u es
    means-kept (means {at = at} {b = b} {s = s} {v = v} {u = u} {c = c} {x = x} {refs = refs} h e) =
        let a : Went (record s { scope = [] }) v refs = expands-went h in
        let first : Grows s v = grows-from s (record s { scope = [] }) v refl a.grows in
        let back : State = record v { scope = s.scope } in
        let k : Grows back u = grew-given back e (finish-keyword-grew rs (place_of b.init at.place) b.label c back) in
        let last : Grows v u = grows-from v back u refl k in
        let kept = linked-later v u last refs a.linked in
        record { grows = grows-then s v u first last; linked = each-append (λ (y : KeywordExpression). AreLinked u.links y.references) refs.expressions (record { keyword = b.label; code = c; references = refs.references; state = v } ∷ []) kept.1 (kept.0, tt) }

    mean-kept : {place : Span} {level : ℕ} {recursive : Bool} {f : FrameNo} {bs : List BoundSpec} {s u : State} {es : List KeywordExpression} → Mean rs (placed place level) recursive f bs (between s u es) → Kept s u es
    mean-kept (derivation.no_keyword {s = s}) = record { grows = grows-same s s refl; linked = tt }
    mean-kept (derivation.keyword {s = s} {v = v} {u = u} {es = es} {others = others} h g) = kept-both s v u es others (means-kept h) (mean-kept g)

    keywords-kept : {place : Span} {level : ℕ} {recursive : Bool} {bs : List BindingSpec} {forms stamped : List Tree} {s u : State} {es : List KeywordExpression}
        → BindsKeywords rs (placed place level) (let_syntax_parts recursive bs forms) stamped (between s u es) → Kept s u es
    keywords-kept (binds_keywords {at = at} {bs = bs} {s = s} {v = v} {u = u} {xs = xs} {es = es} e h) =
        let a = from-counted s v (grew-given (counted s) e (bind-keywords-grew (record { 0 = s.names }) at.place at.level bs (counted s))) in
        kept-from s v u es a (mean-kept h)

    takes-kept : {at : BodyAt} {depth : ℕ} {done end : Taken} {t : Tree} {s u : State} {es : List KeywordExpression} → TakesForm rs at depth t (body_change done s end u es) → Kept s u es
    takes-kept (takes {at = at} {depth = depth} {done = done} {t = t} {s = s} {v = v} {u = u} {es = es} e h) =
        let a = grew-given s e (expand_uses-item-grew rs at depth done t s) in
        kept-from s v u es a (acts-kept h)

    acts-kept : {at : BodyAt} {depth : ℕ} {done end : Taken} {t : Tree} {i : Item} {s u : State} {es : List KeywordExpression} → Acts rs at depth t i (body_change done s end u es) → Kept s u es
    acts-kept (is_taken {s = s}) = record { grows = grows-same s s refl; linked = tt }
    acts-kept (takes_forms h) = take-kept h
    acts-kept (defines_keyword {at = at} {done = done} {t = t} {b = b} {x = x} {s = s} {v = v} {u = u} {es = es} e h) =
        kept-from s v u es (grew-given s e (define-keyword-grew at done t b s)) (means-kept h)
    acts-kept (takes_among {s = s} {v = v} {u = u} {es = es} {others = others} h g) = kept-both s v u es others (keywords-kept h) (take-kept g)

    pub take-kept : {at : BodyAt} {depth : ℕ} {done end : Taken} {ts : List Tree} {s u : State} {es : List KeywordExpression} → Take rs at depth ts (body_change done s end u es) → Kept s u es
    take-kept (derivation.none_taken {s = s}) = record { grows = grows-same s s refl; linked = tt }
    take-kept (derivation.more_taken {s = s} {v = v} {u = u} {es = es} {others = others} h g) = kept-both s v u es others (takes-kept h) (take-kept g)

    body-went : {place : Span} {level : ℕ} {t : Tree} {forms : List Tree} {s u : State} {c : PlainCore} {x : Noted} → IsBody rs (placed place level) t forms c (between s u x) → Went s u x
    body-went (is_body {s = s} {v = v} {u = u} {es = es} {xs = xs} depth h g) =
        let a = take-kept h in
        let b = finish-went g in
        record {
          grows = grows-to s u (cut (length s.scope) u) refl (from-counted s u (grows-then (counted s) v u a.grows b.grows));
          linked = (told-linked u.links xs b.lines, each-append (λ (e : KeywordExpression). AreLinked u.links e.references) es (of_lines xs) (expressions-later v u b.grows es a.linked) b.expressions);
        }

    pub finish-went : {level : ℕ} {ws : List Waiting} {s u : State} {xs : List NotedLine} → Finish rs level ws s xs u → Finished s u xs
    finish-went (derivation.no_line {s = s}) = record { grows = grows-same s s refl; lines = tt; expressions = tt }
    finish-went (derivation.next_line {s = s} {v = v} {u = u} {x = x} {xs = xs} h g) =
        let a = ends-went h in
        let b = finish-went g in
        let k = linked-later v u b.grows x.noted a.linked in
        record {
          grows = grows-then s v u a.grows b.grows;
          lines = (k.0, b.lines);
          expressions = each-append (λ (e : KeywordExpression). AreLinked u.links e.references) x.noted.expressions (of_lines xs) k.1 b.expressions;
        }

    ends-went : {level : ℕ} {place : Span} {w : Waits} {s u : State} {x : NotedLine} → Ends rs (placed place level) w s x u → Went s u x.noted
    ends-went (declares {s = s}) = went-none s
    ends-went (defines h) = expands-went h
    ends-went (defines_procedure {s = s} {u = u} {refs = refs} h) = went-counted s u refs (binds-went h)
    ends-went (is_expression h) = expands-went h
