-- Expansion as a relation: which core code comes of a form in a state, which state is left, and what is noted of it: which
-- identifiers its references were, in the order of their places, and the expressions of the keywords that were bound in it.
use Rattle.std.specs.Prelude.{◌≡◌, ◌+◌, ℕ, Bool, true, false, List, [], ◌∷◌, ◌++◌, map, length, Option, None, Some, Ok}
use Rattle.base_data.specs.declared.name.FrameNo.{FrameNo}
use Rattle.base_data.specs.declared.name.Label.{Label}
use Rattle.base_data.specs.declared.span.Span.{Span}
use Rattle.stx_tree.specs.Changes.{stamp}
use Rattle.stx_tree.specs.Tree.{Tree}
use Rattle.stx_scope.specs.Stands.{stands}
use Rattle.core_language.specs.Core.{PlainCore, variable, instance, one_armed, two_armed, assignment, procedure, letrec, call, matching, cores}
use Rattle.core_language.specs.CoreView.{inits, cases, clauses}
use Rattle.core_language.specs.Template.{PlainTemplate}
use Rattle.core_language.specs.declared.code.Clause.{Clause}
use Rattle.core_language.specs.declared.code.Init.{Init}
use Rattle.core_language.specs.declared.code.Lambda.{Lambda}
use Rattle.core_language.specs.declared.core_form.CoreForm.TheVariants as core_forms
use Rattle.core_language.specs.declared.formals.Formals.{Formals}
use Rattle.core_language.specs.declared.record.CompiledLibrary.{CompiledLibrary}
use Rattle.core_language.specs.declared.record.Line.TheVariants as line
use Rattle.eval_pattern.specs.declared.compile.Compiled.{Compiled}
use Rattle.eval_pattern.specs.declared.compile.PatternVariable.{PatternVariable}
use Rattle.core_quasi.specs.Plan.{PlainQuasi}
use Rattle.core_quasi.specs.declared.quasi_syntax.QuasiSyntax.{QuasiSyntax}
use Rattle.core_quasi.specs.declared.word.Family.{Family}
use Rattle.expand_quasi.specs.Form as quasi
use Rattle.expand_quasi.specs.Filled.{filled}
use Rattle.expand_quasi.specs.Inserted.{insert_variables, match_of, bind_inserts}
use Rattle.expand_quasi.specs.declared.form.QuasiForm.{QuasiForm}
use Rattle.expand_quasi.specs.declared.form.QuasiForm.TheVariants as quasi_forms
use Rattle.core_shapes.specs.At.{place_of}
use Rattle.core_shapes.specs.Forms.{shape}
use Rattle.core_shapes.specs.Lists.{is_leaf}
use Rattle.core_shapes.specs.declared.shape.BindingSpec.{BindingSpec}
use Rattle.core_shapes.specs.declared.shape.FormalIds.{FormalIds}
use Rattle.core_shapes.specs.declared.shape.LambdaCase.{LambdaCase}
use Rattle.core_shapes.specs.declared.shape.PatternCase.{PatternCase}
use Rattle.core_shapes.specs.declared.shape.Shape.TheVariants as shapes
use Rattle.expand_standing.specs.Binders.{bind_specs, bind_formals}
use Rattle.expand_standing.specs.InScope.{cut}
use Rattle.expand_standing.specs.Patterns.{pattern_of, check_literals, bind_pattern, template_of}
use Rattle.expand_standing.specs.State.{State}
use Rattle.expand_standing.specs.Uses.{bind_keywords, evaluate_transformer}
use Rattle.expand_standing.specs.declared.binders.BoundSpec.{BoundSpec}
use Rattle.expand_heads.specs.Depth.{deeper}
use Rattle.expand_heads.specs.Items.{begun, define_keyword}
use Rattle.expand_heads.specs.declared.item.Item.{Item}
use Rattle.expand_heads.specs.declared.item.Item.TheVariants as items
use Rattle.expand_heads.specs.declared.plan.Plan.{Plan}
use Rattle.expand_heads.specs.declared.plan.Plan.TheVariants as plans
use Rattle.expand_heads.specs.declared.taken.BodyAt.{BodyAt}
use Rattle.expand_heads.specs.declared.taken.Taken.{Taken}
use Rattle.expand_heads.specs.declared.taken.Waiting.{Waiting}
use Rattle.expand_heads.specs.declared.taken.Waits.{Waits}
use Rattle.expand_heads.specs.declared.taken.Waits.TheVariants as waits
use Rattle.expand_forms.specs.Body.{no_value, sequence_of, body_core, lambda_at}
use Rattle.expand_forms.specs.Keywords.{seen_in}
use Rattle.expand_forms.specs.ExpandUses.{expand_uses, expand_item_uses}
use Rattle.expand_forms.specs.Forms.{ProcedureForm, procedure_parts, LetSyntaxForm, let_syntax_parts}
use Rattle.expand_forms.specs.declared.expand_uses.PlannedForm.{PlannedForm}
use Rattle.expand_forms.specs.declared.expand_uses.PlannedItem.{PlannedItem}
use Rattle.law_expand.specs.Named.{RefersTo}
use Rattle.law_references.specs.Changes.{FormPlace, placed, StateChange, between, BodyChange, body_change}
use Rattle.law_references.specs.Namings.{namings}
use Rattle.law_references.specs.Noted.{Reference, KeywordExpression, Noted, nothing, only, of_references, of_keywords, both, NotedLine, lines, of_body}
use Rattle.law_references.specs.Parts.{expressions_of}
use Rattle.law_references.specs.Templates.{IsTemplateOf}

-- the state with the next name taken
abbrev pub counted : State → State
counted s = record s { names = record { library = s.names.library; number = s.names.number + 1 } }

module _ (at : FormPlace) (t : Tree) where
  -- The code of a quasi form, whose expressions have these codes. A template with inserts stands in a frame of its own, in which the inserts are pattern variables.
  pub data QuasiCodes : QuasiForm → List PlainCore → PlainCore → StateChange Noted → Type 0 where
    quotes : {q : PlainQuasi} {cs : List PlainCore} {s : State}
        → QuasiCodes (quasi_forms.Quote q) cs (filled q cs).0 (between s s nothing)
    has_no_insert : {q : QuasiSyntax} {cs : List PlainCore} {s : State} {x : PlainTemplate} {refs : List Reference}
        → q.inserts ≡ [] → template_of at.place at.level q.template s ≡ Ok (x, s) → IsTemplateOf s at q.template x refs
        → QuasiCodes (quasi_forms.Syntax q) cs (instance x (place_of t at.place)) (between s s (of_references refs))
    has_inserts : {q : QuasiSyntax} {cs : List PlainCore} {s v w : State} {vs : List PatternVariable}
        {e : Unit {0}} {x : PlainTemplate} {refs : List Reference}
        → (q.inserts ≡ [] → ⊥) → insert_variables q.inserts (counted s) ≡ Ok (vs, v) → bind_inserts (record { 0 = s.names }) at.place at.level vs v ≡ Ok (e, w)
        → template_of at.place at.level (stamp (record { 0 = s.names }) q.template) w ≡ Ok (x, w)
        → IsTemplateOf w at (stamp (record { 0 = s.names }) q.template) x refs
        → QuasiCodes (quasi_forms.Syntax q) cs (match_of vs x (place_of t at.place) cs) (between s (cut (length s.scope) w) (of_references refs))

module _ (rs : List CompiledLibrary) where
  mutual
    -- a form, at a place and a level: uses of keywords give other forms in its place until it is no use
    pub data Expands : FormPlace → Tree → PlainCore → StateChange Noted → Type 0 where
      settles : {at : FormPlace} {t : Tree} {s v u : State} {d : PlannedForm} {c : PlainCore} {refs : Noted}
          → expand_uses rs at.place at.level t s ≡ Ok (d, v) → Performs (placed d.place at.level) d.form d.plan c (between v u refs)
          → Expands at t c (between s u refs)

    -- what is to be done with a form
    pub data Performs : FormPlace → Tree → Plan → PlainCore → StateChange Noted → Type 0 where
      refers : {at : FormPlace} {t : Tree} {s : State} {l : Label} {c : PlainCore}
          → is_leaf t ≡ true → stands s.frames t ≡ Some l → RefersTo s (Some l) c
          → Performs at t (plans.Done c) c (between s s (only (record { leaf = t; state = s; label = l; code = c })))
      -- constants and data name nothing
      is_done : {at : FormPlace} {t : Tree} {s : State} {c : PlainCore}
          → is_leaf t ≡ false → namings c ≡ [] → Performs at t (plans.Done c) c (between s s nothing)
      -- each pattern variable of a template was an identifier that stands for it
      is_template : {at : FormPlace} {t operand : Tree} {s : State} {x : PlainTemplate} {refs : List Reference}
          → shape core_forms.Syntax t at.place ≡ Ok (shapes.Operand operand) → template_of at.place at.level operand s ≡ Ok (x, s)
          → IsTemplateOf s at operand x refs
          → Performs at t (plans.Done (instance x (place_of t at.place))) (instance x (place_of t at.place)) (between s s (of_references refs))
      calls : {at : FormPlace} {t operator : Tree} {operands : List Tree} {s v u : State} {c : PlainCore} {cs : List PlainCore} {refs more : Noted}
          → Expands at operator c (between s v refs) → Expand at operands cs (between v u more)
          → Performs at t (plans.Call operator operands) (call c (cores cs)) (between s u (both refs more))
      tests : {at : FormPlace} {t test consequent : Tree} {s v u : State} {c d : PlainCore} {refs more : Noted}
          → Expands at test c (between s v refs) → Expands at consequent d (between v u more)
          → Performs at t (plans.Conditional test consequent None) (one_armed c d) (between s u (both refs more))
      chooses : {at : FormPlace} {t test consequent other : Tree} {s v w u : State} {c d e : PlainCore} {refs more last : Noted}
          → Expands at test c (between s v refs) → Expands at consequent d (between v w more) → Expands at other e (between w u last)
          → Performs at t (plans.Conditional test consequent (Some other)) (two_armed c d e) (between s u (both refs (both more last)))
      assigns : {at : FormPlace} {t id value : Tree} {s u : State} {l : Label} {c : PlainCore} {refs : Noted}
          → shape core_forms.Set t at.place ≡ Ok (shapes.Set id value) → stands s.frames id ≡ Some l → Expands at value c (between s u refs)
          → Performs at t (plans.Assignment l value) (assignment l c)
          (between s u (both (only (record { leaf = id; state = s; label = l; code = variable l })) refs))
      follows : {at : FormPlace} {t : Tree} {forms : List Tree} {s u : State} {cs : List PlainCore} {refs : Noted}
          → Expand at forms cs (between s u refs) → Performs at t (plans.Sequence forms) (sequence_of cs) (between s u refs)
      -- the number of the code is the next name, and the next one is that of the frame of the formals
      makes : {at : FormPlace} {t : Tree} {ids : FormalIds} {forms : List Tree} {s u : State} {c : Lambda} {refs : Noted}
          → CaseBinds at (procedure_parts t ids forms) c (between (counted s) u refs)
          → Performs at t (plans.Lambda ids forms) (procedure (record { 0 = s.names }) (cases (c ∷ [])) true) (between s u refs)
      makes_cases : {at : FormPlace} {t : Tree} {xs : List LambdaCase} {s u : State} {cs : List Lambda} {refs : Noted}
          → ExpandedBind at t xs cs (between (counted s) u refs)
          → Performs at t (plans.CaseLambda xs) (procedure (record { 0 = s.names }) (cases cs) false) (between s u refs)
      -- all variables are bound in one frame, which is stamped on their expressions and on the body
      binds_all : {at : FormPlace} {t : Tree} {star : Bool} {bs : List BindingSpec} {forms : List Tree} {s v w u : State}
          {ls : List BoundSpec} {is : List Init} {c : PlainCore} {refs more : Noted}
          → bind_specs (record { 0 = s.names }) at.place at.level bs (counted s) ≡ Ok (ls, v)
          → ExpansionStart at (record { 0 = s.names }) ls is (between v w refs)
          → IsBody at t (map (stamp (record { 0 = s.names })) forms) c (between w u more)
          → Performs at t (plans.Letrec star bs forms) (letrec star (inits is) c) (between s (cut (length s.scope) u) (both refs more))
      matches_one : {at : FormPlace} {t subject : Tree} {literals : List Tree} {xs : List PatternCase} {span : Span}
          {s v w u : State} {c : PlainCore} {cs : List Clause} {x : Unit {0}} {refs more : Noted}
          → Expands at subject c (between s v refs) → check_literals at.place literals v ≡ Ok (x, w) → Match at literals xs cs (between w u more)
          → Performs at t (plans.Matching subject literals xs span) (matching c (clauses cs) span) (between s u (both refs more))
      -- the keywords are bound, and their expressions expanded and evaluated, before the forms
      has_keywords : {at : FormPlace} {t : Tree} {recursive : Bool} {bs : List BindingSpec} {forms stamped : List Tree}
          {s v u : State} {es : List KeywordExpression} {cs : List PlainCore} {refs : Noted}
          → BindsKeywords at (let_syntax_parts recursive bs forms) stamped (between s v es) → Expand at stamped cs (between v u refs)
          → Performs at t (plans.Keywords recursive bs forms) (sequence_of cs) (between s u (both (of_keywords es) refs))
      -- all variables in the code are those of the expressions in the form, and all pattern variables behind them those of the template
      fills : {at : FormPlace} {t template : Tree} {which : Family} {s v w u : State} {q : QuasiForm} {c : PlainCore}
          {cs : List PlainCore} {refs others : Noted}
          → quasi.form_of at.place t which template s ≡ Ok (q, v) → Expand at (expressions_of q) cs (between v w refs)
          → QuasiCodes at t q cs c (between w u others)
          → Performs at t (plans.Quasi which template) c (between s u (both refs others))

    -- forms, one after another
    pub data Expand : FormPlace → List Tree → List PlainCore → StateChange Noted → Type 0 where
      none : {at : FormPlace} {s : State} → Expand at [] [] (between s s nothing)
      more : {at : FormPlace} {t : Tree} {ts : List Tree} {s v u : State} {c : PlainCore} {cs : List PlainCore} {refs others : Noted}
          → Expands at t c (between s v refs) → Expand at ts cs (between v u others) → Expand at (t ∷ ts) (c ∷ cs) (between s u (both refs others))

    -- a case of a procedure: its formals are bound in a new frame, which is stamped on its body
    pub data CaseBinds : FormPlace → ProcedureForm → Lambda → StateChange Noted → Type 0 where
      binds_formals : {at : FormPlace} {t : Tree} {ids : FormalIds} {forms : List Tree} {s v u : State} {formals : Formals}
          {c : PlainCore} {refs : Noted}
          → bind_formals (record { 0 = s.names }) at.place at.level ids (counted s) ≡ Ok (formals, v)
          → IsBody at t (map (stamp (record { 0 = s.names })) forms) c (between v u refs)
          → CaseBinds at (procedure_parts t ids forms) (record { formals = formals; body = c }) (between s (cut (length s.scope) u) refs)

    pub data ExpandedBind : FormPlace → Tree → List LambdaCase → List Lambda → StateChange Noted → Type 0 where
      no_case : {at : FormPlace} {t : Tree} {s : State} → ExpandedBind at t [] [] (between s s nothing)
      case : {at : FormPlace} {t : Tree} {x : LambdaCase} {xs : List LambdaCase} {s v u : State} {c : Lambda} {cs : List Lambda} {refs others : Noted}
          → CaseBinds at (procedure_parts t x.formals x.body) c (between s v refs) → ExpandedBind at t xs cs (between v u others)
          → ExpandedBind at t (x ∷ xs) (c ∷ cs) (between s u (both refs others))

    -- the expression of a variable
    pub data Starts : FormPlace → FrameNo → BoundSpec → Init → StateChange Noted → Type 0 where
      starts_with : {at : FormPlace} {f : FrameNo} {b : BoundSpec} {s u : State} {c : PlainCore} {refs : Noted}
          → Expands at (stamp f b.init) c (between s u refs) → Starts at f b (record { label = b.label; value = c }) (between s u refs)

    pub data ExpansionStart : FormPlace → FrameNo → List BoundSpec → List Init → StateChange Noted → Type 0 where
      no_init : {at : FormPlace} {f : FrameNo} {s : State} → ExpansionStart at f [] [] (between s s nothing)
      init : {at : FormPlace} {f : FrameNo} {b : BoundSpec} {bs : List BoundSpec} {s v u : State} {i : Init} {is : List Init} {refs others : Noted}
          → Starts at f b i (between s v refs) → ExpansionStart at f bs is (between v u others)
          → ExpansionStart at f (b ∷ bs) (i ∷ is) (between s u (both refs others))

    -- a clause of `syntax-case`: the variables of its pattern have a frame, which is stamped on its fender and its output
    pub data ExpandsClause : FormPlace → List Tree → PatternCase → Clause → StateChange Noted → Type 0 where
      matches_pattern : {at : FormPlace} {literals : List Tree} {x : PatternCase} {s v w y u : State} {p : Compiled} {e : Unit {0}}
          {o : Option PlainCore} {c : PlainCore} {refs others : Noted}
          → pattern_of literals at.place x.pattern (counted s) ≡ Ok (p, v) → bind_pattern (record { 0 = s.names }) at.place at.level p.variables v ≡ Ok (e, w)
          → Asks at (record { 0 = s.names }) x.fender o (between w y refs) → Expands at (stamp (record { 0 = s.names }) x.output) c (between y u others)
          → ExpandsClause at literals x (record { pattern = p.pattern; fender = o; output = c }) (between s (cut (length s.scope) u) (both refs others))

    pub data Match : FormPlace → List Tree → List PatternCase → List Clause → StateChange Noted → Type 0 where
      no_clause : {at : FormPlace} {literals : List Tree} {s : State} → Match at literals [] [] (between s s nothing)
      clause : {at : FormPlace} {literals : List Tree} {x : PatternCase} {xs : List PatternCase} {s v u : State} {c : Clause}
          {cs : List Clause} {refs others : Noted}
          → ExpandsClause at literals x c (between s v refs) → Match at literals xs cs (between v u others)
          → Match at literals (x ∷ xs) (c ∷ cs) (between s u (both refs others))

    -- a fender
    pub data Asks : FormPlace → FrameNo → Option Tree → Option PlainCore → StateChange Noted → Type 0 where
      asks_nothing : {at : FormPlace} {f : FrameNo} {s : State} → Asks at f None None (between s s nothing)
      asks_first : {at : FormPlace} {f : FrameNo} {t : Tree} {s u : State} {c : PlainCore} {refs : Noted}
          → Expands at (stamp f t) c (between s u refs) → Asks at f (Some t) (Some c) (between s u refs)

    -- The expression of a keyword is expanded one level up, with nothing in scope, and then evaluated and kept. The keywords that it binds itself come first.
    pub data KeywordMeans : FormPlace → BoundSpec → StateChange (List KeywordExpression) → Type 0 where
      means : {at : FormPlace} {b : BoundSpec} {s v u : State} {c : PlainCore} {x : Unit {0}} {refs : Noted}
          → Expands (placed at.place (at.level + 1)) b.init c (between (record s { scope = [] }) v refs)
          → evaluate_transformer rs (place_of b.init at.place) b.label c (record v { scope = s.scope }) ≡ Ok (x, u)
          → KeywordMeans at b (between s u (refs.expressions ++ record { keyword = b.label; code = c; references = refs.references; state = v } ∷ []))

    -- one after another; those of `letrec-syntax` see the keywords
    pub data Mean : FormPlace → Bool → FrameNo → List BoundSpec → StateChange (List KeywordExpression) → Type 0 where
      no_keyword : {at : FormPlace} {recursive : Bool} {f : FrameNo} {s : State} → Mean at recursive f [] (between s s [])
      keyword : {at : FormPlace} {recursive : Bool} {f : FrameNo} {b : BoundSpec} {bs : List BoundSpec} {s v u : State}
          {es others : List KeywordExpression}
          → KeywordMeans at (seen_in recursive f b) (between s v es) → Mean at recursive f bs (between v u others)
          → Mean at recursive f (b ∷ bs) (between s u (es ++ others))

    -- All keywords of `let-syntax` or `letrec-syntax` are bound in one frame, which is stamped on the forms.
    pub data BindsKeywords : FormPlace → LetSyntaxForm → List Tree → StateChange (List KeywordExpression) → Type 0 where
      binds_keywords : {at : FormPlace} {recursive : Bool} {bs : List BindingSpec} {forms : List Tree} {s v u : State}
          {xs : List BoundSpec} {es : List KeywordExpression}
          → bind_keywords (record { 0 = s.names }) at.place at.level bs (counted s) ≡ Ok (xs, v)
          → Mean at recursive (record { 0 = s.names }) xs (between v u es)
          → BindsKeywords at (let_syntax_parts recursive bs forms) (map (stamp (record { 0 = s.names })) forms) (between s u es)

    -- a form of a body, in the first pass: uses of keywords give other forms in its place until it is no use
    pub data TakesForm : BodyAt → ℕ → Tree → BodyChange → Type 0 where
      takes : {at : BodyAt} {depth : ℕ} {done after end : Taken} {t : Tree} {d : PlannedItem} {s v u : State} {es : List KeywordExpression}
          → expand_item_uses rs at depth done t s ≡ Ok ((after, d), v) → Acts d.at depth d.form d.item (body_change after v end u es)
          → TakesForm at depth t (body_change done s end u es)

    -- what is to be done with a form of a body; it waits for the second pass, or is no more than its definition, where nothing is
    pub data Acts : BodyAt → ℕ → Tree → Item → BodyChange → Type 0 where
      is_taken : {at : BodyAt} {depth : ℕ} {done : Taken} {t : Tree} {s : State} → Acts at depth t items.Nothing (body_change done s done s [])
      takes_forms : {at : BodyAt} {depth : ℕ} {done end : Taken} {t : Tree} {forms : List Tree} {s u : State} {es : List KeywordExpression}
          → Take at (deeper depth) forms (body_change done s end u es) → Acts at depth t (items.Forms forms) (body_change done s end u es)
      defines_keyword : {at : BodyAt} {depth : ℕ} {done : Taken} {t : Tree} {b : BindingSpec} {x : BoundSpec} {s v u : State} {es : List KeywordExpression}
          → define_keyword at done t b s ≡ Ok (x, v) → KeywordMeans (placed at.place at.level) x (between v u es)
          → Acts at depth t (items.Keyword b) (body_change done s done u es)
      takes_among : {at : BodyAt} {depth : ℕ} {done end : Taken} {t : Tree} {recursive : Bool} {bs : List BindingSpec}
          {forms stamped : List Tree} {s v u : State} {es others : List KeywordExpression}
          → BindsKeywords (placed at.place at.level) (let_syntax_parts recursive bs forms) stamped (between s v es)
          → Take at (deeper depth) stamped (body_change done v end u others)
          → Acts at depth t (items.Keywords recursive bs forms) (body_change done s end u (es ++ others))

    pub data Take : BodyAt → ℕ → List Tree → BodyChange → Type 0 where
      none_taken : {at : BodyAt} {depth : ℕ} {done : Taken} {s : State} → Take at depth [] (body_change done s done s [])
      more_taken : {at : BodyAt} {depth : ℕ} {done after end : Taken} {t : Tree} {ts : List Tree} {s v u : State} {es others : List KeywordExpression}
          → TakesForm at depth t (body_change done s after v es) → Take at depth ts (body_change after v end u others)
          → Take at depth (t ∷ ts) (body_change done s end u (es ++ others))

    -- A body: its frame is stamped on its forms, of which the first pass takes what waits for the second.
    pub data IsBody : FormPlace → Tree → List Tree → PlainCore → StateChange Noted → Type 0 where
      is_body : {at : FormPlace} {t : Tree} {forms : List Tree} {s v u : State} {d : Taken} {es : List KeywordExpression} {xs : List NotedLine}
          → (depth : ℕ)
          → Take (lambda_at (record { 0 = s.names }) at.place at.level) depth (map (stamp (record { 0 = s.names })) forms)
          (body_change begun (counted s) d v es)
          → Finish at.level d.waiting v xs u → IsBody at t forms (body_core (lines xs)) (between s (cut (length s.scope) u) (of_body es xs))

    pub data Finish : ℕ → List Waiting → State → List NotedLine → State → Type 0 where
      no_line : {level : ℕ} {s : State} → Finish level [] s [] s
      next_line : {level : ℕ} {w : Waiting} {ws : List Waiting} {s v u : State} {x : NotedLine} {xs : List NotedLine}
          → Ends (placed w.place level) w.what s x v → Finish level ws v xs u → Finish level (w ∷ ws) s (x ∷ xs) u

    -- what waits, at a place, becomes a line
    pub data Ends : FormPlace → Waits → State → NotedLine → State → Type 0 where
      declares : {at : FormPlace} {s : State} {l : Label}
          → Ends at (waits.Variable l None) s (record { line = line.Define l no_value; noted = nothing }) s
      defines : {at : FormPlace} {t : Tree} {s u : State} {l : Label} {c : PlainCore} {refs : Noted}
          → Expands at t c (between s u refs) → Ends at (waits.Variable l (Some t)) s (record { line = line.Define l c; noted = refs }) u
      defines_procedure : {at : FormPlace} {t : Tree} {ids : FormalIds} {forms : List Tree} {s u : State} {l : Label} {c : Lambda} {refs : Noted}
          → CaseBinds at (procedure_parts t ids forms) c (between (counted s) u refs)
          → Ends at (waits.Procedure l t ids forms) s
          (record { line = line.Define l (procedure (record { 0 = s.names }) (cases (c ∷ [])) true); noted = refs }) u
      is_expression : {at : FormPlace} {t : Tree} {s u : State} {c : PlainCore} {refs : Noted}
          → Expands at t c (between s u refs) → Ends at (waits.Expression t) s (record { line = line.Expr c; noted = refs }) u
