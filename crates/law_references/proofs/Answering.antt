-- The relation has one answer: by the first derivation, with the second taken apart beside it.
use Rattle.std.proofs.Common.{◌≡◌, ◌+◌, ℕ, Bool, true, false, List, [], ◌∷◌, ◌++◌, map, length, Option, None, Some, Result, Ok, Err, refl, sym, ap, ◌∙◌, subst, inl, inr, true≢false}
use Rattle.std.specs.Prelude.{◌⊎◌}
use Rattle.base_data.specs.Elements.{Each}
use Rattle.base_data.specs.declared.fault.Fault.{Fault}
use Rattle.base_data.specs.declared.name.FrameNo.{FrameNo}
use Rattle.base_data.specs.declared.name.Label.{Label}
use Rattle.base_data.specs.declared.span.Span.{Span}
use Rattle.stx_tree.specs.Changes.{stamp}
use Rattle.stx_tree.specs.Tree.{Tree}
use Rattle.stx_scope.specs.Stands.{stands}
use Rattle.core_language.specs.Core.{PlainCore, variable, instance, one_armed, two_armed, assignment, procedure, letrec, call, matching, cores}
use Rattle.core_language.specs.CoreView.{inits, cases, clauses}
use Rattle.core_language.specs.Template.{PlainTemplate}
use Rattle.core_language.specs.declared.code.Clause.{Clause}
use Rattle.core_language.specs.declared.code.Init.{Init}
use Rattle.core_language.specs.declared.code.Lambda.{Lambda}
use Rattle.core_language.specs.declared.core_form.CoreForm.TheVariants as core_forms
use Rattle.core_language.specs.declared.record.CompiledLibrary.{CompiledLibrary}
use Rattle.core_language.specs.declared.record.Line.TheVariants as line
use Rattle.eval_pattern.specs.declared.compile.Compiled.{Compiled}
use Rattle.eval_pattern.specs.declared.compile.PatternVariable.{PatternVariable}
use Rattle.expand_quasi.specs.Inserted.{match_of, bind_inserts}
use Rattle.expand_quasi.specs.declared.form.QuasiForm.{QuasiForm}
use Rattle.core_shapes.specs.At.{place_of}
use Rattle.core_shapes.specs.Forms.{shape}
use Rattle.core_shapes.specs.Lists.{is_leaf}
use Rattle.core_shapes.specs.declared.shape.BindingSpec.{BindingSpec}
use Rattle.core_shapes.specs.declared.shape.FormalIds.{FormalIds}
use Rattle.core_shapes.specs.declared.shape.LambdaCase.{LambdaCase}
use Rattle.core_shapes.specs.declared.shape.PatternCase.{PatternCase}
use Rattle.core_shapes.specs.declared.shape.Shape.{Shape}
use Rattle.core_shapes.specs.declared.shape.Shape.TheVariants as shapes
use Rattle.expand_standing.specs.InScope.{cut}
use Rattle.expand_standing.specs.Patterns.{check_literals, bind_pattern, template_of}
use Rattle.expand_standing.specs.State.{State}
use Rattle.expand_standing.specs.Uses.{evaluate_transformer}
use Rattle.expand_standing.specs.declared.binders.BoundSpec.{BoundSpec}
use Rattle.expand_heads.specs.Items.{define_keyword}
use Rattle.expand_heads.specs.declared.item.Item.{Item}
use Rattle.expand_heads.specs.declared.plan.Plan.{Plan}
use Rattle.expand_heads.specs.declared.plan.Plan.TheVariants as plans
use Rattle.expand_heads.specs.declared.taken.BodyAt.{BodyAt}
use Rattle.expand_heads.specs.declared.taken.Taken.{Taken}
use Rattle.expand_heads.specs.declared.taken.Waiting.{Waiting}
use Rattle.expand_heads.specs.declared.taken.Waits.{Waits}
use Rattle.expand_forms.specs.Body.{sequence_of, body_core}
use Rattle.expand_forms.specs.ExpandUses.{expand_item_uses}
use Rattle.expand_forms.specs.Forms.{procedure_parts, let_syntax_parts}
use Rattle.expand_forms.specs.declared.expand_uses.PlannedForm.{PlannedForm}
use Rattle.expand_forms.specs.declared.expand_uses.PlannedItem.{PlannedItem}
use Rattle.law_references.specs.Changes.{placed, between, body_change}
use Rattle.law_references.specs.Expands.{counted, QuasiCodes, quotes, has_no_insert, has_inserts, Expands, settles, Performs, refers, is_done, is_template, calls, tests, chooses, assigns, follows, makes, makes_cases, binds_all, matches_one, has_keywords, fills, Expand, none, more, CaseBinds, binds_formals, ExpandedBind, no_case, case}
use Rattle.law_references.specs.Expands.{Starts, starts_with, ExpansionStart, no_init, init, ExpandsClause, matches_pattern, Match, no_clause, clause, Asks, asks_nothing, asks_first, KeywordMeans, means, Mean, no_keyword, keyword, BindsKeywords, binds_keywords, TakesForm, takes, Acts, is_taken, takes_forms, defines_keyword, takes_among, Take, none_taken, more_taken}
use Rattle.law_references.specs.Expands.{IsBody, is_body, Finish, no_line, next_line, Ends, declares, defines, defines_procedure, is_expression}
use Rattle.law_references.specs.Namings.{namings, template_namings}
use Rattle.law_references.specs.Noted.{Reference, KeywordExpression, Noted, nothing, only, of_references, of_keywords, both, NotedLine, lines, of_body, named}
use Rattle.law_references.specs.Parts.{expressions_of}
use Rattle.law_references.specs.Single.{RelationHasOneAnswer}
use Rattle.law_references.specs.Templates.{variables_in, IsPatternVariable, IsTemplateOf}
use Rattle.law_references.proofs.Depths.{shallow, shallow_with, keyword-shallow, expand_uses-shallow, SameWaits, same-waits}
use Rattle.law_references.proofs.Shaping.{syntax-compound}

-- What a definition gives is one.

abbrev value_or : {A : Type 0} → A → Result A Fault → A
value_or x (Ok y) = y
value_or x (Err e) = x

ok-same : {A : Type 0} (x y : A) → ◌≡◌ {A = Result A Fault} (Ok x) (Ok y) → x ≡ y
ok-same x y e = ap (value_or x) e

same-of : {A : Type 0} {r : Result A Fault} {x y : A} → r ≡ Ok x → r ≡ Ok y → x ≡ y
same-of {A} {r} {x} {y} e f = ok-same x y (sym e ∙ f)

abbrev some_or : {A : Type 0} → A → Option A → A
some_or x (Some y) = y
some_or x None = x

same-some : {A : Type 0} {o : Option A} {x y : A} → o ≡ Some x → o ≡ Some y → x ≡ y
same-some {A} {o} {x} {y} e f = ap (some_or x) (sym e ∙ f)

-- of two answers, the value, the state that is left and what is noted are the same
abbrev Same : {A N : Type 0} → A → A → State → State → N → N → Type 0
Same c d u v x y = (c ≡ d) × ((u ≡ v) × (x ≡ y))

-- Forms that are core code already, and templates.

none-named : (s : State) (place : Span) (level : ℕ) (refs : List Reference) → Each (IsPatternVariable s place level) refs → named refs ≡ [] → refs ≡ []
none-named s place level [] h e = refl
none-named s place level (r ∷ refs) h e = let f = sym (ap (λ (c : PlainCore). namings c ++ named refs) h.0.code) ∙ e in absurd (cc)

-- the operand of a `syntax` form, and the target of an assignment
abbrev operand_or : Tree → Result Shape Fault → Tree
operand_or t (Ok (shapes.Operand operand)) = operand
operand_or t (Ok x) = t
operand_or t (Err e) = t

abbrev target_or : Tree → Result Shape Fault → Tree
target_or t (Ok (shapes.Set id value)) = id
target_or t (Ok x) = t
target_or t (Err e) = t

record IsReference (t : Tree) (s : State) (c : PlainCore) (y : Noted) : Type 0 where
  label : Label
  leafy : is_leaf t ≡ true
  stood : stands s.frames t ≡ Some label
  noted : y ≡ only (record { leaf = t; state = s; label = label; code = c })

record IsConstant (t : Tree) (c : PlainCore) (y : Noted) : Type 0 where
  compound : is_leaf t ≡ false
  empty : namings c ≡ []
  noted : y ≡ nothing

record IsSyntax (place : Span) (level : ℕ) (t : Tree) (s : State) (c : PlainCore) (y : Noted) : Type 0 where
  operand : Tree
  template : PlainTemplate
  references : List Reference
  shaped : shape core_forms.Syntax t place ≡ Ok (shapes.Operand operand)
  is : IsTemplateOf s (placed place level) operand template references
  code : c ≡ instance template (place_of t place)
  noted : y ≡ of_references references

abbrev IsNoted : Span → ℕ → Tree → State → PlainCore → Noted → Type 0
IsNoted place level t s c y = IsReference t s c y ⊎ (IsConstant t c y ⊎ IsSyntax place level t s c y)

record IsDone (place : Span) (level : ℕ) (t : Tree) (s : State) (c d : PlainCore) (v : State) (y : Noted) : Type 0 where
  value : d ≡ c
  state : v ≡ s
  noted : IsNoted place level t s c y

constant-or-syntax : (place : Span) (level : ℕ) (t : Tree) (s : State) (c : PlainCore) (x y : Noted) → IsConstant t c x → IsSyntax place level t s c y → x ≡ y
constant-or-syntax place level t s c x y a b =
    let e : named b.references ≡ [] = sym b.is.all ∙ sym (ap namings b.code) ∙ a.empty in
    a.noted ∙ sym (ap of_references (none-named s place level b.references b.is.variables e)) ∙ sym b.noted

noted-same : (place : Span) (level : ℕ) (t : Tree) (s : State) (c : PlainCore) (x y : Noted) → IsNoted place level t s c x → IsNoted place level t s c y → x ≡ y
noted-same place level t s c x y (inl a) (inl b) = a.noted ∙ ap (λ l. only (record { leaf = t; state = s; label = l; code = c })) (same-some a.stood b.stood) ∙ sym b.noted
noted-same place level t s c x y (inl a) (inr (inl b)) = absurd (true≢false (sym a.leafy ∙ b.compound))
noted-same place level t s c x y (inl a) (inr (inr b)) = absurd (true≢false (sym a.leafy ∙ syntax-compound t place (shapes.Operand b.operand) b.shaped))
noted-same place level t s c x y (inr (inl a)) (inl b) = absurd (true≢false (sym b.leafy ∙ a.compound))
noted-same place level t s c x y (inr (inr a)) (inl b) = absurd (true≢false (sym b.leafy ∙ syntax-compound t place (shapes.Operand a.operand) a.shaped))
noted-same place level t s c x y (inr (inl a)) (inr (inl b)) = a.noted ∙ sym b.noted
noted-same place level t s c x y (inr (inl a)) (inr (inr b)) = constant-or-syntax place level t s c x y a b
noted-same place level t s c x y (inr (inr a)) (inr (inl b)) = sym (constant-or-syntax place level t s c y x b a)
noted-same place level t s c x y (inr (inr a)) (inr (inr b)) =
    let e : a.operand ≡ b.operand = ap (operand_or a.operand) (sym a.shaped ∙ b.shaped) in
    a.noted ∙ ap of_references (a.is.are ∙ ap (λ o. variables_in s place level false o) e ∙ sym b.is.are) ∙ sym b.noted

done-same : {place : Span} {level : ℕ} {t : Tree} {s : State} {c d e : PlainCore} {u v : State} {x y : Noted} → IsDone place level t s c d u x → IsDone place level t s c e v y → Same d e u v x y
done-same {place} {level} {t} {s} {c} {d} {e} {u} {v} {x} {y} h k = (h.value ∙ sym k.value, (h.state ∙ sym k.state, noted-same place level t s c x y h.noted k.noted))

-- what a plan tells, where it is core code already
abbrev DoneOf : Span → ℕ → Tree → State → Plan → PlainCore → State → Noted → Type 0
DoneOf place level t s (plans.Done c) d v y = IsDone place level t s c d v y
DoneOf place level t s p d v y = Unit {0}

done-of : (rs : List CompiledLibrary) {place : Span} {level : ℕ} {t : Tree} {p : Plan} {s : State} {d : PlainCore} {v : State} {y : Noted} → Performs rs (placed place level) t p d (between s v y) → DoneOf place level t s p d v y
done-of rs (refers {l = l} a b r) = record { value = refl; state = refl; noted = inl (record { label = l; leafy = a; stood = b; noted = refl }) }
done-of rs (is_done a b) = record { value = refl; state = refl; noted = inr (inl (record { compound = a; empty = b; noted = refl })) }
done-of rs (is_template {operand = operand} {x = x} {refs = refs} a b i) = record { value = refl; state = refl; noted = inr (inr (record { operand = operand; template = x; references = refs; shaped = a; is = i; code = refl; noted = refl })) }
done-of rs (calls a b) = tt
done-of rs (tests a b) = tt
done-of rs (chooses a b c) = tt
done-of rs (assigns a b c) = tt
done-of rs (follows a) = tt
done-of rs (makes a) = tt
done-of rs (makes_cases a) = tt
done-of rs (binds_all a b c) = tt
done-of rs (matches_one a b c) = tt
done-of rs (has_keywords a b) = tt
done-of rs (fills a b c) = tt

-- The code of a quasi form.

module _ (place : Span) (level : ℕ) (t : Tree) where
  inserted-same : (f : FrameNo) (operand : Tree) (cs : List PlainCore) (n : ℕ) (vs vs' : List PatternVariable) (v v' w w' : State) (e e' : Unit {0}) (x x' : PlainTemplate) (refs refs' : List Reference)
      → ◌≡◌ {A = List PatternVariable × State} (vs, v) (vs', v') → bind_inserts f place level vs v ≡ Ok (e, w) → bind_inserts f place level vs' v' ≡ Ok (e', w')
      → template_of place level operand w ≡ Ok (x, w) → template_of place level operand w' ≡ Ok (x', w') → IsTemplateOf w (placed place level) operand x refs → IsTemplateOf w' (placed place level) operand x' refs'
      → Same (match_of vs x (place_of t place) cs) (match_of vs' x' (place_of t place) cs) (cut n w) (cut n w') (of_references refs) (of_references refs')
  inserted-same f operand cs n vs vs' v v' w w' e e' x x' refs refs' p b b' m m' i i' =
      let q : ◌≡◌ {A = Unit {0} × State} (e, w) (e', w') = ok-same (e, w) (e', w') (sym b ∙ ap (λ (z : List PatternVariable × State). bind_inserts f place level z.0 z.1) p ∙ b') in
      let left : w ≡ w' = ap (λ (z : Unit {0} × State). z.1) q in
      let made : ◌≡◌ {A = PlainTemplate × State} (x, w) (x', w') = ok-same (x, w) (x', w') (sym m ∙ ap (template_of place level operand) left ∙ m') in (
        λ j. match_of (p j).0 (made j).0 (place_of t place) cs,
        (ap (cut n) left, ap of_references (i.are ∙ ap (λ (z : State). variables_in z place level false operand) left ∙ sym i'.are)),
      )

  plain-same : (operand : Tree) (s : State) (x x' : PlainTemplate) (refs refs' : List Reference) → template_of place level operand s ≡ Ok (x, s) → template_of place level operand s ≡ Ok (x', s) → IsTemplateOf s (placed place level) operand x refs → IsTemplateOf s (placed place level) operand x' refs'
      → Same (instance x (place_of t place)) (instance x' (place_of t place)) s s (of_references refs) (of_references refs')
  plain-same operand s x x' refs refs' m m' i i' =
      let made : ◌≡◌ {A = PlainTemplate × State} (x, s) (x', s) = ok-same (x, s) (x', s) (sym m ∙ m') in
      (λ j. instance (made j).0 (place_of t place), (refl, ap of_references (i.are ∙ sym i'.are)))

codes-same : {place : Span} {level : ℕ} {t : Tree} {q : QuasiForm} {cs : List PlainCore} {s u v : State} {c d : PlainCore} {x y : Noted} → QuasiCodes (placed place level) t q cs c (between s u x) → QuasiCodes (placed place level) t q cs d (between s v y) → Same c d u v x y
codes-same quotes quotes = (refl, (refl, refl))
codes-same {place} {level} {t} (has_no_insert {q = q} {s = s} {x = x} {refs = refs} e m i) (has_no_insert {x = x'} {refs = refs'} e' m' i') = plain-same place level t q.template s x x' refs refs' m m' i i'
codes-same (has_no_insert e m i) (has_inserts e' a b m' i') = absurd (e' e)
codes-same (has_inserts e a b m i) (has_no_insert e' m' i') = absurd (e e')
codes-same {place} {level} {t} (has_inserts {q = q} {cs = cs} {s = s} {v = v} {w = w} {vs = vs} {e = z} {x = x} {refs = refs} e a b m i) (has_inserts {v = v'} {w = w'} {vs = vs'} {e = z'} {x = x'} {refs = refs'} e' a' b' m' i') =
    inserted-same place level t (record { 0 = s.names }) (stamp (record { 0 = s.names }) q.template) cs (length s.scope) vs vs' v v' w w' z z' x x' refs refs' (ok-same (vs, v) (vs', v') (sym a ∙ a')) b b' m m' i i'

-- What is related to what was given in another way is related to what was given in this.
module _ (rs : List CompiledLibrary) where
  plan-from : {level : ℕ} {c : PlainCore} {u : State} {x : Noted} (p q : PlannedForm × State) → p ≡ q → Performs rs (placed q.0.place level) q.0.form q.0.plan c (between q.1 u x) → Performs rs (placed p.0.place level) p.0.form p.0.plan c (between p.1 u x)
  plan-from {level} {c} {u} {x} p q e h = subst (λ (z : PlannedForm × State). Performs rs (placed z.0.place level) z.0.form z.0.plan c (between z.1 u x)) (sym e) h

  form-from : {place : Span} {level : ℕ} {t : Tree} {s v u : State} {c : PlainCore} {x : Noted} → s ≡ v → Expands rs (placed place level) t c (between v u x) → Expands rs (placed place level) t c (between s u x)
  form-from {place} {level} {t} {s} {v} {u} {c} {x} e h = subst (λ (z : State). Expands rs (placed place level) t c (between z u x)) (sym e) h

  forms-from : {place : Span} {level : ℕ} {ts ys : List Tree} {s v u : State} {cs : List PlainCore} {x : Noted} → ts ≡ ys → s ≡ v → Expand rs (placed place level) ys cs (between v u x) → Expand rs (placed place level) ts cs (between s u x)
  forms-from {place} {level} {ts} {ys} {s} {v} {u} {cs} {x} e f h = subst (λ (z : List Tree). Expand rs (placed place level) z cs (between s u x)) (sym e) (subst (λ (z : State). Expand rs (placed place level) ys cs (between z u x)) (sym f) h)

  codes-from : {place : Span} {level : ℕ} {t : Tree} {q r : QuasiForm} {cs ds : List PlainCore} {s v u : State} {c : PlainCore} {x : Noted} → q ≡ r → cs ≡ ds → s ≡ v → QuasiCodes (placed place level) t r ds c (between v u x) → QuasiCodes (placed place level) t q cs c (between s u x)
  codes-from {place} {level} {t} {q} {r} {cs} {ds} {s} {v} {u} {c} {x} e f g h =
      subst (λ (z : QuasiForm). QuasiCodes (placed place level) t z cs c (between s u x)) (sym e) (subst (λ (z : List PlainCore). QuasiCodes (placed place level) t r z c (between s u x)) (sym f) (subst (λ (z : State). QuasiCodes (placed place level) t r ds c (between z u x)) (sym g) h))

  case-from : {place : Span} {level : ℕ} {t : Tree} {xs : List LambdaCase} {s v u : State} {cs : List Lambda} {x : Noted} → s ≡ v → ExpandedBind rs (placed place level) t xs cs (between v u x) → ExpandedBind rs (placed place level) t xs cs (between s u x)
  case-from {place} {level} {t} {xs} {s} {v} {u} {cs} {x} e h = subst (λ (z : State). ExpandedBind rs (placed place level) t xs cs (between z u x)) (sym e) h

  body-from : {place : Span} {level : ℕ} {t : Tree} {forms : List Tree} {s v u : State} {c : PlainCore} {x : Noted} → s ≡ v → IsBody rs (placed place level) t forms c (between v u x) → IsBody rs (placed place level) t forms c (between s u x)
  body-from {place} {level} {t} {forms} {s} {v} {u} {c} {x} e h = subst (λ (z : State). IsBody rs (placed place level) t forms c (between z u x)) (sym e) h

  inits-from : {place : Span} {level : ℕ} {f : FrameNo} {bs cs : List BoundSpec} {s v u : State} {is : List Init} {x : Noted} → bs ≡ cs → s ≡ v → ExpansionStart rs (placed place level) f cs is (between v u x) → ExpansionStart rs (placed place level) f bs is (between s u x)
  inits-from {place} {level} {f} {bs} {cs} {s} {v} {u} {is} {x} e g h = subst (λ (z : List BoundSpec). ExpansionStart rs (placed place level) f z is (between s u x)) (sym e) (subst (λ (z : State). ExpansionStart rs (placed place level) f cs is (between z u x)) (sym g) h)

  clauses-from : {place : Span} {level : ℕ} {literals : List Tree} {xs : List PatternCase} {s v u : State} {cs : List Clause} {x : Noted} → s ≡ v → Match rs (placed place level) literals xs cs (between v u x) → Match rs (placed place level) literals xs cs (between s u x)
  clauses-from {place} {level} {literals} {xs} {s} {v} {u} {cs} {x} e h = subst (λ (z : State). Match rs (placed place level) literals xs cs (between z u x)) (sym e) h

  fender-from : {place : Span} {level : ℕ} {f : FrameNo} {o : Option Tree} {s v u : State} {p : Option PlainCore} {x : Noted} → s ≡ v → Asks rs (placed place level) f o p (between v u x) → Asks rs (placed place level) f o p (between s u x)
  fender-from {place} {level} {f} {o} {s} {v} {u} {p} {x} e h = subst (λ (z : State). Asks rs (placed place level) f o p (between z u x)) (sym e) h

  keyword-from : {place : Span} {level : ℕ} {b c : BoundSpec} {s v u : State} {es : List KeywordExpression} → b ≡ c → s ≡ v → KeywordMeans rs (placed place level) c (between v u es) → KeywordMeans rs (placed place level) b (between s u es)
  keyword-from {place} {level} {b} {c} {s} {v} {u} {es} e g h = subst (λ (z : BoundSpec). KeywordMeans rs (placed place level) z (between s u es)) (sym e) (subst (λ (z : State). KeywordMeans rs (placed place level) c (between z u es)) (sym g) h)

  keywords-from : {place : Span} {level : ℕ} {recursive : Bool} {f : FrameNo} {bs cs : List BoundSpec} {s v u : State} {es : List KeywordExpression} → bs ≡ cs → s ≡ v → Mean rs (placed place level) recursive f cs (between v u es) → Mean rs (placed place level) recursive f bs (between s u es)
  keywords-from {place} {level} {recursive} {f} {bs} {cs} {s} {v} {u} {es} e g h = subst (λ (z : List BoundSpec). Mean rs (placed place level) recursive f z (between s u es)) (sym e) (subst (λ (z : State). Mean rs (placed place level) recursive f cs (between z u es)) (sym g) h)

  item-from : {depth : ℕ} {done end : Taken} {u : State} {es : List KeywordExpression} (p q : PlannedItem × State) → p ≡ q → Acts rs q.0.at depth q.0.form q.0.item (body_change done q.1 end u es) → Acts rs p.0.at depth p.0.form p.0.item (body_change done p.1 end u es)
  item-from {depth} {done} {end} {u} {es} p q e h = subst (λ (z : PlannedItem × State). Acts rs z.0.at depth z.0.form z.0.item (body_change done z.1 end u es)) (sym e) h

  take-from : {at : BodyAt} {depth : ℕ} {done end : Taken} {ts ys : List Tree} {s v u : State} {es : List KeywordExpression} → ts ≡ ys → s ≡ v → Take rs at depth ys (body_change done v end u es) → Take rs at depth ts (body_change done s end u es)
  take-from {at} {depth} {done} {end} {ts} {ys} {s} {v} {u} {es} e f h = subst (λ (z : List Tree). Take rs at depth z (body_change done s end u es)) (sym e) (subst (λ (z : State). Take rs at depth ys (body_change done z end u es)) (sym f) h)

  lines-from : {level : ℕ} {ws : List Waiting} {s v u : State} {xs : List NotedLine} → s ≡ v → Finish rs level ws v xs u → Finish rs level ws s xs u
  lines-from {level} {ws} {s} {v} {u} {xs} e h = subst (λ (z : State). Finish rs level ws z xs u) (sym e) h

  line-from : {level : ℕ} {p q : Span} {w z : Waits} {s u : State} {x : NotedLine} → p ≡ q → w ≡ z → Ends rs (placed q level) z s x u → Ends rs (placed p level) w s x u
  line-from {level} {p} {q} {w} {z} {s} {u} {x} e f h = subst (λ (a : Span). Ends rs (placed a level) w s x u) (sym e) (subst (λ (b : Waits). Ends rs (placed q level) b s x u) (sym f) h)

  -- The planned item of a form of a body, and what was taken with it up to depths.
  items-same : (at : BodyAt) (depth depth' : ℕ) (done done' after after' : Taken) (t : Tree) (d d' : PlannedItem) (s v v' : State) → expand_item_uses rs at depth done t s ≡ Ok ((after, d), v) → expand_item_uses rs at depth' done' t s ≡ Ok ((after', d'), v')
      → shallow done ≡ shallow done' → ◌≡◌ {A = (Taken × PlannedItem) × State} ((shallow after, d), v) ((shallow after', d'), v')
  items-same at depth depth' done done' after after' t d d' s v v' e e' same =
      ok-same ((shallow after, d), v) ((shallow after', d'), v')
      (ap (λ (r : Result ((Taken × PlannedItem) × State) Fault). shallow_with r) (sym e) ∙ expand_uses-shallow depth rs at done t s ∙ ap (λ (z : Taken). expand_item_uses rs at 0 z t s) same ∙ sym (expand_uses-shallow depth' rs at done' t s) ∙ ap (λ (r : Result ((Taken × PlannedItem) × State) Fault). shallow_with r) e')

  keyword-same : (at : BodyAt) (done done' : Taken) (t : Tree) (b : BindingSpec) (x x' : BoundSpec) (s v v' : State) → define_keyword at done t b s ≡ Ok (x, v) → define_keyword at done' t b s ≡ Ok (x', v') → shallow done ≡ shallow done'
      → ◌≡◌ {A = BoundSpec × State} (x, v) (x', v')
  keyword-same at done done' t b x x' s v v' e e' same =
      ok-same (x, v) (x', v') (sym e ∙ sym (keyword-shallow at done t b s) ∙ ap (λ (z : Taken). define_keyword at z t b s) same ∙ keyword-shallow at done' t b s ∙ e')

  mutual
    one-form : {place : Span} {level : ℕ} {t : Tree} {s u v : State} {c d : PlainCore} {x y : Noted} → Expands rs (placed place level) t c (between s u x) → Expands rs (placed place level) t d (between s v y) → Same c d u v x y
    one-form (settles {v = v} {d = d} e p) (settles {v = v'} {d = d'} e' p') = one-plan p (plan-from (d, v) (d', v') (ok-same (d, v) (d', v') (sym e ∙ e')) p')

    one-plan : {place : Span} {level : ℕ} {t : Tree} {p : Plan} {s u v : State} {c d : PlainCore} {x y : Noted} → Performs rs (placed place level) t p c (between s u x) → Performs rs (placed place level) t p d (between s v y) → Same c d u v x y
    one-plan (refers {at = at} {t = t} {s = s} {l = l} {c = c} a b r) h = done-same (done-of rs (refers {at = at} {t = t} {s = s} {l = l} {c = c} a b r)) (done-of rs h)
    one-plan (is_done {at = at} {t = t} {s = s} {c = c} a b) h = done-same (done-of rs (is_done {at = at} {t = t} {s = s} {c = c} a b)) (done-of rs h)
    one-plan (is_template {at = at} {t = t} {operand = operand} {s = s} {x = x} {refs = refs} a b i) h = done-same (done-of rs (is_template {at = at} {t = t} {operand = operand} {s = s} {x = x} {refs = refs} a b i)) (done-of rs h)
    one-plan (calls a b) (calls a' b') =
        let x = one-form a a' in
        let y = one-forms b (forms-from refl x.1.0 b') in
        (λ i. call (x.0 i) (cores (y.0 i)), (y.1.0, λ i. both (x.1.1 i) (y.1.1 i)))
    one-plan (tests a b) (tests a' b') =
        let x = one-form a a' in
        let y = one-form b (form-from x.1.0 b') in
        (λ i. one_armed (x.0 i) (y.0 i), (y.1.0, λ i. both (x.1.1 i) (y.1.1 i)))
    one-plan (chooses a b c) (chooses a' b' c') =
        let x = one-form a a' in
        let y = one-form b (form-from x.1.0 b') in
        let z = one-form c (form-from y.1.0 c') in
        (λ i. two_armed (x.0 i) (y.0 i) (z.0 i), (z.1.0, λ i. both (x.1.1 i) (both (y.1.1 i) (z.1.1 i))))
    one-plan (assigns {id = id} {s = s} {l = l} e st a) (assigns e' st' a') =
        let j = ap (target_or id) (sym e ∙ e') in
        let x = one-form a a' in
        (λ i. assignment l (x.0 i), (x.1.0, λ i. both (only (record { leaf = j i; state = s; label = l; code = variable l })) (x.1.1 i)))
    one-plan (follows a) (follows a') = let x = one-forms a a' in (ap sequence_of x.0, x.1)
    one-plan (makes {s = s} a) (makes a') = let x = one-case a a' in (λ i. procedure (record { 0 = s.names }) (cases (x.0 i ∷ [])) true, x.1)
    one-plan (makes_cases {s = s} a) (makes_cases a') = let x = one-cases a a' in (λ i. procedure (record { 0 = s.names }) (cases (x.0 i)) false, x.1)
    one-plan (binds_all {star = star} {s = s} {v = v} {ls = ls} e a b) (binds_all {v = v'} {ls = ls'} e' a' b') =
        let p = ok-same (ls, v) (ls', v') (sym e ∙ e') in
        let x = one-inits a (inits-from (λ i. (p i).0) (λ i. (p i).1) a') in
        let y = one-body b (body-from x.1.0 b') in
        (λ i. letrec star (inits (x.0 i)) (y.0 i), (λ i. cut (length s.scope) (y.1.0 i), λ i. both (x.1.1 i) (y.1.1 i)))
    one-plan (matches_one {at = at} {literals = literals} {span = span} {w = w} {x = m} a e b) (matches_one {w = w'} {x = m'} a' e' b') =
        let x = one-form a a' in
        let p = ok-same (m, w) (m', w') (sym e ∙ ap (check_literals at.place literals) x.1.0 ∙ e') in
        let y = one-clauses b (clauses-from (λ i. (p i).1) b') in
        (λ i. matching (x.0 i) (clauses (y.0 i)) span, (y.1.0, λ i. both (x.1.1 i) (y.1.1 i)))
    one-plan (has_keywords a b) (has_keywords a' b') =
        let x = one-keywords a a' in
        let y = one-forms b (forms-from x.0 x.1.0 b') in
        (ap sequence_of y.0, (y.1.0, λ i. both (of_keywords (x.1.1 i)) (y.1.1 i)))
    one-plan (fills {v = v} {q = q} e a b) (fills {v = v'} {q = q'} e' a' b') =
        let p = ok-same (q, v) (q', v') (sym e ∙ e') in
        let x = one-forms a (forms-from (λ i. expressions_of (p i).0) (λ i. (p i).1) a') in
        let y = codes-same b (codes-from (λ i. (p i).0) x.0 x.1.0 b') in
        (y.0, (y.1.0, λ i. both (x.1.1 i) (y.1.1 i)))

    one-forms : {place : Span} {level : ℕ} {ts : List Tree} {s u v : State} {cs ds : List PlainCore} {x y : Noted} → Expand rs (placed place level) ts cs (between s u x) → Expand rs (placed place level) ts ds (between s v y) → Same cs ds u v x y
    one-forms none none = (refl, (refl, refl))
    one-forms (more a b) (more a' b') =
        let x = one-form a a' in
        let y = one-forms b (forms-from refl x.1.0 b') in
        (λ i. x.0 i ∷ y.0 i, (y.1.0, λ i. both (x.1.1 i) (y.1.1 i)))

    one-case : {place : Span} {level : ℕ} {t : Tree} {ids : FormalIds} {forms : List Tree} {s u v : State} {c d : Lambda} {x y : Noted} → CaseBinds rs (placed place level) (procedure_parts t ids forms) c (between s u x) → CaseBinds rs (placed place level) (procedure_parts t ids forms) d (between s v y) → Same c d u v x y
    one-case (binds_formals {s = s} {v = v} {formals = formals} e a) (binds_formals {v = v'} {formals = formals'} e' a') =
        let p = ok-same (formals, v) (formals', v') (sym e ∙ e') in
        let x = one-body a (body-from (λ i. (p i).1) a') in
        (λ i. record { formals = (p i).0; body = x.0 i }, (λ i. cut (length s.scope) (x.1.0 i), x.1.1))

    one-cases : {place : Span} {level : ℕ} {t : Tree} {xs : List LambdaCase} {s u v : State} {cs ds : List Lambda} {x y : Noted} → ExpandedBind rs (placed place level) t xs cs (between s u x) → ExpandedBind rs (placed place level) t xs ds (between s v y) → Same cs ds u v x y
    one-cases no_case no_case = (refl, (refl, refl))
    one-cases (case a b) (case a' b') =
        let x = one-case a a' in
        let y = one-cases b (case-from x.1.0 b') in
        (λ i. x.0 i ∷ y.0 i, (y.1.0, λ i. both (x.1.1 i) (y.1.1 i)))

    one-init : {place : Span} {level : ℕ} {f : FrameNo} {b : BoundSpec} {s u v : State} {c d : Init} {x y : Noted} → Starts rs (placed place level) f b c (between s u x) → Starts rs (placed place level) f b d (between s v y) → Same c d u v x y
    one-init (starts_with {b = b} a) (starts_with a') = let x = one-form a a' in (λ i. record { label = b.label; value = x.0 i }, x.1)

    one-inits : {place : Span} {level : ℕ} {f : FrameNo} {bs : List BoundSpec} {s u v : State} {cs ds : List Init} {x y : Noted} → ExpansionStart rs (placed place level) f bs cs (between s u x) → ExpansionStart rs (placed place level) f bs ds (between s v y) → Same cs ds u v x y
    one-inits no_init no_init = (refl, (refl, refl))
    one-inits (init a b) (init a' b') =
        let x = one-init a a' in
        let y = one-inits b (inits-from refl x.1.0 b') in
        (λ i. x.0 i ∷ y.0 i, (y.1.0, λ i. both (x.1.1 i) (y.1.1 i)))

    one-clause : {place : Span} {level : ℕ} {literals : List Tree} {z : PatternCase} {s u v : State} {c d : Clause} {x y : Noted} → ExpandsClause rs (placed place level) literals z c (between s u x) → ExpandsClause rs (placed place level) literals z d (between s v y) → Same c d u v x y
    one-clause (matches_pattern {at = at} {s = s} {v = v} {w = w} {p = p} {e = m} e f a b) (matches_pattern {v = v'} {w = w'} {p = p'} {e = m'} e' f' a' b') =
        let made = ok-same (p, v) (p', v') (sym e ∙ e') in
        let bound = ok-same (m, w) (m', w') (sym f ∙ ap (λ (z : Compiled × State). bind_pattern (record { 0 = s.names }) at.place at.level z.0.variables z.1) made ∙ f') in
        let x = one-fender a (fender-from (λ i. (bound i).1) a') in
        let y = one-form b (form-from x.1.0 b') in
        (λ i. record { pattern = (made i).0.pattern; fender = x.0 i; output = y.0 i }, (λ i. cut (length s.scope) (y.1.0 i), λ i. both (x.1.1 i) (y.1.1 i)))

    one-clauses : {place : Span} {level : ℕ} {literals : List Tree} {xs : List PatternCase} {s u v : State} {cs ds : List Clause} {x y : Noted} → Match rs (placed place level) literals xs cs (between s u x) → Match rs (placed place level) literals xs ds (between s v y) → Same cs ds u v x y
    one-clauses no_clause no_clause = (refl, (refl, refl))
    one-clauses (clause a b) (clause a' b') =
        let x = one-clause a a' in
        let y = one-clauses b (clauses-from x.1.0 b') in
        (λ i. x.0 i ∷ y.0 i, (y.1.0, λ i. both (x.1.1 i) (y.1.1 i)))

    one-fender : {place : Span} {level : ℕ} {f : FrameNo} {o : Option Tree} {s u v : State} {c d : Option PlainCore} {x y : Noted} → Asks rs (placed place level) f o c (between s u x) → Asks rs (placed place level) f o d (between s v y) → Same c d u v x y
    one-fender asks_nothing asks_nothing = (refl, (refl, refl))
    one-fender (asks_first a) (asks_first a') = let x = one-form a a' in (λ i. Some (x.0 i), x.1)

    one-keyword : {place : Span} {level : ℕ} {b : BoundSpec} {s u v : State} {es fs : List KeywordExpression} → KeywordMeans rs (placed place level) b (between s u es) → KeywordMeans rs (placed place level) b (between s v fs) → (u ≡ v) × (es ≡ fs)
    one-keyword (means {at = at} {b = b} {s = s} {u = u} {x = m} a e) (means {u = u'} {x = m'} a' e') =
        let x = one-form a a' in
        let p = ok-same (m, u) (m', u') (sym e ∙ (λ i. evaluate_transformer rs (place_of b.init at.place) b.label (x.0 i) (record (x.1.0 i) { scope = s.scope })) ∙ e') in
        (λ i. (p i).1, λ i. (x.1.1 i).expressions ++ record { keyword = b.label; code = x.0 i; references = (x.1.1 i).references; state = x.1.0 i } ∷ [])

    one-mean : {place : Span} {level : ℕ} {recursive : Bool} {f : FrameNo} {bs : List BoundSpec} {s u v : State} {es fs : List KeywordExpression} → Mean rs (placed place level) recursive f bs (between s u es) → Mean rs (placed place level) recursive f bs (between s v fs) → (u ≡ v) × (es ≡ fs)
    one-mean no_keyword no_keyword = (refl, refl)
    one-mean (keyword a b) (keyword a' b') =
        let x = one-keyword a a' in
        let y = one-mean b (keywords-from refl x.0 b') in
        (y.0, λ i. x.1 i ++ y.1 i)

    one-keywords : {place : Span} {level : ℕ} {recursive : Bool} {bs : List BindingSpec} {forms : List Tree} {s u v : State} {ts ys : List Tree} {es fs : List KeywordExpression}
        → BindsKeywords rs (placed place level) (let_syntax_parts recursive bs forms) ts (between s u es) → BindsKeywords rs (placed place level) (let_syntax_parts recursive bs forms) ys (between s v fs) → Same ts ys u v es fs
    one-keywords (binds_keywords {v = v} {xs = xs} e a) (binds_keywords {v = v'} {xs = xs'} e' a') =
        let p = ok-same (xs, v) (xs', v') (sym e ∙ e') in
        (refl, one-mean a (keywords-from (λ i. (p i).0) (λ i. (p i).1) a'))

    one-taken : {at : BodyAt} {depth depth' : ℕ} {done done' end end' : Taken} {t : Tree} {s u v : State} {es fs : List KeywordExpression} → TakesForm rs at depth t (body_change done s end u es) → TakesForm rs at depth' t (body_change done' s end' v fs) → shallow done ≡ shallow done' → Same (shallow end) (shallow end') u v es fs
    one-taken (takes {at = at} {depth = depth} {done = done} {after = after} {t = t} {d = d} {s = s} {v = v} e a) (takes {depth = depth'} {done = done'} {after = after'} {d = d'} {v = v'} e' a') same =
        let p = items-same at depth depth' done done' after after' t d d' s v v' e e' same in
        one-act a (item-from (d, v) (d', v') (λ i. ((p i).0.1, (p i).1)) a') (λ i. (p i).0.0)

    one-act : {at : BodyAt} {depth depth' : ℕ} {done done' end end' : Taken} {t : Tree} {z : Item} {s u v : State} {es fs : List KeywordExpression} → Acts rs at depth t z (body_change done s end u es) → Acts rs at depth' t z (body_change done' s end' v fs) → shallow done ≡ shallow done' → Same (shallow end) (shallow end') u v es fs
    one-act is_taken is_taken same = (same, (refl, refl))
    one-act (takes_forms a) (takes_forms a') same = one-take a a' same
    one-act (defines_keyword {at = at} {done = done} {t = t} {b = b} {x = x} {s = s} {v = v} e a) (defines_keyword {done = done'} {x = x'} {v = v'} e' a') same =
        let p = keyword-same at done done' t b x x' s v v' e e' same in
        (same, one-keyword a (keyword-from (λ i. (p i).0) (λ i. (p i).1) a'))
    one-act (takes_among a b) (takes_among a' b') same =
        let x = one-keywords a a' in
        let y = one-take b (take-from x.0 x.1.0 b') same in
        (y.0, (y.1.0, λ i. x.1.1 i ++ y.1.1 i))

    one-take : {at : BodyAt} {depth depth' : ℕ} {done done' end end' : Taken} {ts : List Tree} {s u v : State} {es fs : List KeywordExpression} → Take rs at depth ts (body_change done s end u es) → Take rs at depth' ts (body_change done' s end' v fs) → shallow done ≡ shallow done' → Same (shallow end) (shallow end') u v es fs
    one-take none_taken none_taken same = (same, (refl, refl))
    one-take (more_taken a b) (more_taken a' b') same =
        let x = one-taken a a' same in
        let y = one-take b (take-from refl x.1.0 b') x.0 in
        (y.0, (y.1.0, λ i. x.1.1 i ++ y.1.1 i))

    one-body : {place : Span} {level : ℕ} {t : Tree} {forms : List Tree} {s u v : State} {c d : PlainCore} {x y : Noted} → IsBody rs (placed place level) t forms c (between s u x) → IsBody rs (placed place level) t forms d (between s v y) → Same c d u v x y
    one-body (is_body {s = s} {d = d} depth a b) (is_body {d = d'} depth' a' b') =
        let x = one-take a a' refl in
        let y = one-lines b (lines-from x.1.0 b') (same-waits d.waiting d'.waiting (λ i. (x.0 i).waiting)) in
        (λ i. body_core (lines (y.0 i)), (λ i. cut (length s.scope) (y.1 i), λ i. of_body (x.1.1 i) (y.0 i)))

    one-lines : {level : ℕ} {ws zs : List Waiting} {s u v : State} {xs ys : List NotedLine} → Finish rs level ws s xs u → Finish rs level zs s ys v → SameWaits ws zs → (xs ≡ ys) × (u ≡ v)
    one-lines no_line no_line same = (refl, refl)
    one-lines no_line (next_line a' b') same = absurd same
    one-lines (next_line a b) no_line same = absurd same
    one-lines (next_line a b) (next_line a' b') same =
        let x = one-line a (line-from same.0 same.1.0 a') in
        let y = one-lines b (lines-from x.1 b') same.1.1 in
        (λ i. x.0 i ∷ y.0 i, y.1)

    one-line : {level : ℕ} {place : Span} {w : Waits} {s u v : State} {x y : NotedLine} → Ends rs (placed place level) w s x u → Ends rs (placed place level) w s y v → (x ≡ y) × (u ≡ v)
    one-line declares declares = (refl, refl)
    one-line (defines {l = l} a) (defines a') = let x = one-form a a' in (λ i. record { line = line.Define l (x.0 i); noted = x.1.1 i }, x.1.0)
    one-line (defines_procedure {s = s} {l = l} a) (defines_procedure a') = let x = one-case a a' in (λ i. record { line = line.Define l (procedure (record { 0 = s.names }) (cases (x.0 i ∷ [])) true); noted = x.1.1 i }, x.1.0)
    one-line (is_expression a) (is_expression a') = let x = one-form a a' in (λ i. record { line = line.Expr (x.0 i); noted = x.1.1 i }, x.1.0)

pub one-answer : RelationHasOneAnswer
one-answer records place level t s u v c d x y h k = one-form records h k
