-- Identifiers are at fault exactly where their cases say so.
use Rattle.std.proofs.Common.{◌≡◌, ℕ, Bool, true, false, List, [], ◌∷◌, Option, Result, Ok, Err, refl, sym, ap, ◌∙◌, subst, arith, if◌then◌else◌}
use Rattle.std.specs.Prelude.{nat_eq, ◌||◌}
use Rattle.std.proofs.lemmas.Bool.Decides.{nat_tests}
use Rattle.base_data.specs.Act.{after}
use Rattle.base_data.specs.Same.{same_name_cases}
use Rattle.base_data.specs.declared.fault.Fault.{Fault}
use Rattle.base_data.specs.declared.fault.FaultKind.TheVariants as kind
use Rattle.base_data.specs.declared.name.Label.{Label}
use Rattle.base_data.specs.declared.span.Span.{Span}
use Rattle.stx_tree.specs.Context.{LeafContext}
use Rattle.stx_tree.specs.Tree.{Tree, leaf, pair}
use Rattle.stx_scope.specs.Stands.{symbol_of}
use Rattle.core_language.specs.Core.{variable}
use Rattle.core_language.specs.Labels.{same_label, has_label}
use Rattle.core_language.specs.declared.core_form.CoreForm.{CoreForm}
use Rattle.core_language.specs.declared.core_form.CoreForm.TheVariants as core_forms
use Rattle.core_language.specs.declared.record.CompiledLibrary.{CompiledLibrary}
use Rattle.core_shapes.specs.At.{place_of, fault_at}
use Rattle.core_shapes.specs.Forms.{shape}
use Rattle.core_shapes.specs.Lists.{is_leaf}
use Rattle.core_shapes.specs.declared.shape.Shape.TheVariants as shapes
use Rattle.expand_standing.specs.InScope.{is_in_scope}
use Rattle.expand_standing.specs.Own.{mark_assigned}
use Rattle.expand_standing.specs.State.{State}
use Rattle.expand_standing.specs.Standing.{standing_of, role_of}
use Rattle.expand_standing.specs.Uses.{asks_variable}
use Rattle.expand_standing.specs.declared.standing.Standing.{Standing}
use Rattle.expand_standing.specs.declared.standing.Standing.TheVariants as standing
use Rattle.expand_standing.specs.declared.standing.Variable.{Variable}
use Rattle.expand_heads.specs.declared.plan.HeadPlan.{HeadPlan}
use Rattle.expand_heads.specs.declared.plan.HeadPlan.TheVariants as head_plans
use Rattle.expand_heads.specs.Plan.{variable_at, refer, reference, target_variable, assign_to, assign_by, assign, application, with_shape, keyword_plan, by_head, list_plan, shape_plan, plan_of}
use Rattle.expand_heads.specs.declared.plan.Plan.TheVariants as plans
use Rattle.expand_forms.specs.ExpandUses.{set_step, step_of, step}
use Rattle.expand_forms.specs.declared.expand_uses.PlanOrUse.{PlanOrUse}
use Rattle.law_expand_faults.specs.Told.{TellsFault}
use Rattle.law_expand_faults.specs.Identifiers.{IsAmongForms, IsVisible, IsBadReference, IsBadTarget, IsAssignment, IsBadAssignment, IsAuxiliary, IdentifiersAreTold}
use Rattle.law_expand_faults.specs.Identifiers as i
use Rattle.law_expand_faults.proofs.Told.{tells, told}

-- Tests.

label-is : (l m : Label) → same_label l m ≡ true → l ≡ m
label-is l m h = let e = (same_name_cases l.0 m.0).0 h in λ k. record { 0 = e k }

label-self : (l : Label) → same_label l l ≡ true
label-self l = (same_name_cases l.0 l.0).1 refl

is-among : (ls : List Label) (l : Label) → has_label ls l ≡ true → IsAmongForms l ls
is-among [] l h = absurd (cc)
is-among (m ∷ ms) l h = by (is-among ms l) (same_label l m) refl h
  where
    by : (has_label ms l ≡ true → IsAmongForms l ms) → (b : Bool) → same_label l m ≡ b → (b || has_label ms l) ≡ true → IsAmongForms l (m ∷ ms)
    by rest true e k = subst (λ n. IsAmongForms l (n ∷ ms)) (label-is l m e) i.first_label
    by rest false e k = i.later_label (rest k)

or-true : (b : Bool) → (b || true) ≡ true
or-true true = refl
or-true false = refl

among-is : (l : Label) (ls : List Label) → IsAmongForms l ls → has_label ls l ≡ true
among-is l _ (i.first_label {ls}) = ap (λ b. b || has_label ls l) (label-self l)
among-is l _ (i.later_label {m} {ls} h) = ap (λ b. same_label l m || b) (among-is l ls h) ∙ or-true (same_label l m)

not-both : (b : Bool) → b ≡ true → b ≡ false → ⊥
not-both b h k = let e : true ≡ false = sym h ∙ k in let z : ⊥ = cc in z

-- Where a variable can be used: as the definition tests it.

abbrev seen : State → ℕ → Variable → Bool
seen s level v = if v.own then (if nat_eq v.level level then is_in_scope s v else false) else v.top

same-level : (m n : ℕ) → nat_eq m n ≡ true → m ≡ n
same-level m n h = grind (arith, nat_tests, h)

level-same : (m n : ℕ) → m ≡ n → nat_eq m n ≡ true
level-same m n h = grind (arith, nat_tests, h)

seen-visible : (s : State) (level : ℕ) (v : Variable) → seen s level v ≡ true → IsVisible s level v
seen-visible s level v h = by v.own refl h
  where
    in-scope : (t : Bool) → v.top ≡ t → v.own ≡ true → v.level ≡ level → (t || has_label s.scope v.label) ≡ true → IsVisible s level v
    in-scope true e own same k = i.of_the_top own same e
    in-scope false e own same k = i.of_a_form_round own same (is-among s.scope v.label k)

    at-level : (b : Bool) → nat_eq v.level level ≡ b → v.own ≡ true → (if b then is_in_scope s v else false) ≡ true → IsVisible s level v
    at-level true e own k = in-scope v.top refl own (same-level v.level level e) k
    at-level false e own k = absurd (cc)

    by : (b : Bool) → v.own ≡ b → (if b then (if nat_eq v.level level then is_in_scope s v else false) else v.top) ≡ true → IsVisible s level v
    by true own k = at-level (nat_eq v.level level) refl own k
    by false own k = i.of_another_library own k

visible-seen : (s : State) (level : ℕ) (v : Variable) → IsVisible s level v → seen s level v ≡ true
visible-seen s level v (i.of_the_top own same top) =
    ap (λ b. if b then (if nat_eq v.level level then is_in_scope s v else false) else v.top) own
    ∙ ap (λ b. if b then is_in_scope s v else false) (level-same v.level level same) ∙ ap (λ b. b || has_label s.scope v.label) top
visible-seen s level v (i.of_a_form_round own same among) =
    ap (λ b. if b then (if nat_eq v.level level then is_in_scope s v else false) else v.top) own
    ∙ ap (λ b. if b then is_in_scope s v else false) (level-same v.level level same) ∙ ap (λ b. v.top || b) (among-is v.label s.scope among) ∙ or-true v.top
visible-seen s level v (i.of_another_library own top) = ap (λ b. if b then (if nat_eq v.level level then is_in_scope s v else false) else v.top) own ∙ top

unseen : (s : State) (level : ℕ) (v : Variable) → seen s level v ≡ false → IsVisible s level v → ⊥
unseen s level v h k = not-both (seen s level v) (visible-seen s level v k) h

invisible : (s : State) (level : ℕ) (v : Variable) → (IsVisible s level v → ⊥) → seen s level v ≡ false
invisible s level v h = by (seen s level v) refl
  where
    by : (b : Bool) → seen s level v ≡ b → seen s level v ≡ false
    by true e = absurd (h (seen-visible s level v e))
    by false e = e

seen-by : (s : State) (level : ℕ) (v : Variable) (own same in_it top : Bool) → v.own ≡ own → nat_eq v.level level ≡ same → is_in_scope s v ≡ in_it → v.top ≡ top
    → seen s level v ≡ (if own then (if same then in_it else false) else top)
seen-by s level v own same in_it top a b c d =
    ap (λ x. if x then (if nat_eq v.level level then is_in_scope s v else false) else v.top) a
    ∙ ap (λ x. if own then (if x then is_in_scope s v else false) else v.top) b
    ∙ ap (λ x. if own then (if same then x else false) else v.top) c
    ∙ ap (λ x. if own then (if same then in_it else false) else x) d

-- a fault that tells as asked
tells-of : (k : kind.the_data) (form : Tree) (place : Span) (words : List (List ℕ)) (f : Fault) → fault_at k form place words ≡ f → TellsFault k form place words f
tells-of k form place words f e = subst (λ g. TellsFault k form place words g) e (tells k form place words)

-- References.

abbrev by_tests : {A : Type 0} → (own same in_it top assigned : Bool) → (fine elsewhere out : A) → A
by_tests own same in_it top assigned fine elsewhere out = if own then (if same then (if in_it then fine else out) else out) else (if top then (if assigned then elsewhere else fine) else out)

module _ (rs : List CompiledLibrary) (place : Span) (level : ℕ) (id : Tree) (s : State) where
  abbrev Fault-of : kind.the_data → Fault
  Fault-of k = fault_at k id place (symbol_of id ∷ [])

  abbrev Fine : Variable → Result (HeadPlan × State) Fault
  Fine v = Ok (head_plans.Plan (plans.Done (variable v.label)), s)

  abbrev Tested : Variable → Bool → Bool → Bool → Bool → Bool → Result (HeadPlan × State) Fault
  Tested v own same in_it top assigned = by_tests own same in_it top assigned (Fine v) (Err (Fault-of kind.AssignedElsewhere)) (Err (Fault-of kind.OutOfContext))

  tested : (v : Variable) → variable_at place level id v s ≡ Tested v v.own (nat_eq v.level level) (is_in_scope s v) v.top v.assigned
  unfolding variable_at
  tested v = refl

  tested-as : (v : Variable) (own same in_it top assigned : Bool) → v.own ≡ own → nat_eq v.level level ≡ same → is_in_scope s v ≡ in_it → v.top ≡ top → v.assigned ≡ assigned → variable_at place level id v s ≡ Tested v own same in_it top assigned
  tested-as v own same in_it top assigned a b c d e =
      tested v
      ∙ ap (λ x. Tested v x (nat_eq v.level level) (is_in_scope s v) v.top v.assigned) a
      ∙ ap (λ x. Tested v own x (is_in_scope s v) v.top v.assigned) b
      ∙ ap (λ x. Tested v own same x v.top v.assigned) c
      ∙ ap (λ x. Tested v own same in_it x v.assigned) d
      ∙ ap (λ x. Tested v own same in_it top x) e

  out : (v : Variable) (f : Fault) → standing_of s id ≡ standing.Variable v → seen s level v ≡ false → Fault-of kind.OutOfContext ≡ f → IsBadReference s place level id f
  out v f stand h e = i.out_of_context stand (unseen s level v h) (tells-of kind.OutOfContext id place (symbol_of id ∷ []) f e)

  same-fault : (g f : Fault) → after (Err g) (step_of rs place id) ≡ Err f → g ≡ f
  same-fault g f h = cc

  variable-only : (v : Variable) (f : Fault) → standing_of s id ≡ standing.Variable v → (own same in_it top assigned : Bool) → v.own ≡ own → nat_eq v.level level ≡ same → is_in_scope s v ≡ in_it → v.top ≡ top → v.assigned ≡ assigned
      → after (Tested v own same in_it top assigned) (step_of rs place id) ≡ Err f → IsBadReference s place level id f
  variable-only v f stand true true true top assigned a b c d e h = absurd (cc)
  variable-only v f stand true true false top assigned a b c d e h = out v f stand (seen-by s level v true true false top a b c d) (same-fault (Fault-of kind.OutOfContext) f h)
  variable-only v f stand true false in_it top assigned a b c d e h = out v f stand (seen-by s level v true false in_it top a b c d) (same-fault (Fault-of kind.OutOfContext) f h)
  variable-only v f stand false same in_it true true a b c d e h =
      i.assigned_elsewhere stand a d e (tells-of kind.AssignedElsewhere id place (symbol_of id ∷ []) f (same-fault (Fault-of kind.AssignedElsewhere) f h))
  variable-only v f stand false same in_it true false a b c d e h = absurd (cc)
  variable-only v f stand false same in_it false assigned a b c d e h = out v f stand (seen-by s level v false same in_it false a b c d) (same-fault (Fault-of kind.OutOfContext) f h)

  out-tested : (v : Variable) (own same in_it top assigned : Bool) → (if own then (if same then in_it else false) else top) ≡ false → Tested v own same in_it top assigned ≡ Err (Fault-of kind.OutOfContext)
  out-tested v true true true top assigned h = absurd (cc)
  out-tested v true true false top assigned h = refl
  out-tested v true false in_it top assigned h = refl
  out-tested v false same in_it true assigned h = absurd (cc)
  out-tested v false same in_it false assigned h = refl

  refer-only : (st : Standing) → standing_of s id ≡ st → (f : Fault) → after (refer place level id st s) (step_of rs place id) ≡ Err f → IsBadReference s place level id f
  refer-only standing.Nothing e f h = i.unbound e (tells-of kind.Unbound id place (symbol_of id ∷ []) f (same-fault (Fault-of kind.Unbound) f h))
  refer-only (standing.Variable v) e f h =
      variable-only v f e v.own (nat_eq v.level level) (is_in_scope s v) v.top v.assigned refl refl refl refl refl (sym (ap (λ r. after r (step_of rs place id)) (tested v)) ∙ h)
  refer-only standing.PatternVariable e f h = i.pattern_variable e (tells-of kind.KeywordMisuse id place (symbol_of id ∷ []) f (same-fault (Fault-of kind.KeywordMisuse) f h))
  refer-only (standing.Primitive op) e f h = absurd (cc)
  refer-only (standing.Core k) e f h = i.keyword e (tells-of kind.KeywordMisuse id place (symbol_of id ∷ []) f (same-fault (Fault-of kind.KeywordMisuse) f h))
  refer-only (standing.Keyword l) e f h = absurd (cc)

  refer-told : (f : Fault) → IsBadReference s place level id f → after (refer place level id (standing_of s id) s) (step_of rs place id) ≡ Err f
  refer-told f (i.unbound e t) = ap (λ st. after (refer place level id st s) (step_of rs place id)) e ∙ ap Err (sym (told kind.Unbound id place (symbol_of id ∷ []) f t))
  refer-told f (i.pattern_variable e t) = ap (λ st. after (refer place level id st s) (step_of rs place id)) e ∙ ap Err (sym (told kind.KeywordMisuse id place (symbol_of id ∷ []) f t))
  refer-told f (i.keyword e t) = ap (λ st. after (refer place level id st s) (step_of rs place id)) e ∙ ap Err (sym (told kind.KeywordMisuse id place (symbol_of id ∷ []) f t))
  refer-told f (i.out_of_context {v} e h t) =
      ap (λ st. after (refer place level id st s) (step_of rs place id)) e
      ∙ ap (λ r. after r (step_of rs place id)) (tested v ∙ out-tested v v.own (nat_eq v.level level) (is_in_scope s v) v.top v.assigned (invisible s level v h))
      ∙ ap Err (sym (told kind.OutOfContext id place (symbol_of id ∷ []) f t))
  refer-told f (i.assigned_elsewhere {v} e own top assigned t) =
      ap (λ st. after (refer place level id st s) (step_of rs place id)) e
      ∙ ap (λ r. after r (step_of rs place id)) (tested-as v false (nat_eq v.level level) (is_in_scope s v) true true own refl refl top assigned)
      ∙ ap Err (sym (told kind.AssignedElsewhere id place (symbol_of id ∷ []) f t))

leaf-step : (rs : List CompiledLibrary) (place : Span) (level : ℕ) (span : Option Span) (x : List ℕ) (c : LeafContext) (s : State)
    → step rs place level (leaf span x c) s ≡ after (refer place level (leaf span x c) (standing_of s (leaf span x c)) s) (step_of rs place (leaf span x c))
unfolding step reference
leaf-step rs place level span x c s = refl

-- Assignments.

abbrev by_target : {A : Type 0} → (own same in_it top exported : Bool) → (fine told_export told_import out : A) → A
by_target own same in_it top exported fine told_export told_import out =
    if own then (if same then (if in_it then (if exported then told_export else fine) else out) else out) else (if top then (if exported then told_export else told_import) else out)

module _ (rs : List CompiledLibrary) (place : Span) (level : ℕ) (form id value : Tree) (s : State) where
  abbrev At-form : kind.the_data → Fault
  At-form k = fault_at k form place (symbol_of id ∷ [])

  abbrev At-target : kind.the_data → Fault
  At-target k = fault_at k id place (symbol_of id ∷ [])

  abbrev Aimed : Variable → Bool → Bool → Bool → Bool → Bool → Result (Label × State) Fault
  Aimed v own same in_it top exported =
      by_target own same in_it top exported (mark_assigned v.label s) (Err (At-form kind.AssignedExport)) (Err (At-form kind.AssignedImport)) (Err (At-target kind.OutOfContext))

  aimed : (v : Variable) → target_variable place level form id v s ≡ Aimed v v.own (nat_eq v.level level) (is_in_scope s v) v.top (has_label s.exports v.label)
  unfolding target_variable
  aimed v = refl

  aimed-as : (v : Variable) (own same in_it top exported : Bool) → v.own ≡ own → nat_eq v.level level ≡ same → is_in_scope s v ≡ in_it → v.top ≡ top → has_label s.exports v.label ≡ exported
      → target_variable place level form id v s ≡ Aimed v own same in_it top exported
  aimed-as v own same in_it top exported a b c d e =
      aimed v
      ∙ ap (λ x. Aimed v x (nat_eq v.level level) (is_in_scope s v) v.top (has_label s.exports v.label)) a
      ∙ ap (λ x. Aimed v own x (is_in_scope s v) v.top (has_label s.exports v.label)) b
      ∙ ap (λ x. Aimed v own same x v.top (has_label s.exports v.label)) c
      ∙ ap (λ x. Aimed v own same in_it x (has_label s.exports v.label)) d
      ∙ ap (λ x. Aimed v own same in_it top x) e

  -- what comes of the form after its target was looked at
  abbrev Then : Result (Label × State) Fault → Result (PlanOrUse × State) Fault
  Then r = after (after r (assign_to value)) (step_of rs place form)

  the-fault : (g f : Fault) → Then (Err g) ≡ Err f → g ≡ f
  the-fault g f h = cc

  target-out : (v : Variable) (f : Fault) → standing_of s id ≡ standing.Variable v → seen s level v ≡ false → At-target kind.OutOfContext ≡ f → IsBadTarget s place level form id f
  target-out v f stand h e = i.target_out_of_context stand (unseen s level v h) (tells-of kind.OutOfContext id place (symbol_of id ∷ []) f e)

  not-among : (l : Label) → has_label s.exports l ≡ false → IsAmongForms l s.exports → ⊥
  not-among l h k = not-both (has_label s.exports l) (among-is l s.exports k) h

  target-exported : (v : Variable) (f : Fault) → standing_of s id ≡ standing.Variable v → seen s level v ≡ true → has_label s.exports v.label ≡ true → At-form kind.AssignedExport ≡ f → IsBadTarget s place level form id f
  target-exported v f stand h among e = i.exported_target stand (seen-visible s level v h) (is-among s.exports v.label among) (tells-of kind.AssignedExport form place (symbol_of id ∷ []) f e)

  variable-target : (v : Variable) (f : Fault) → standing_of s id ≡ standing.Variable v → (own same in_it top exported : Bool) → v.own ≡ own → nat_eq v.level level ≡ same → is_in_scope s v ≡ in_it → v.top ≡ top
      → has_label s.exports v.label ≡ exported → Then (Aimed v own same in_it top exported) ≡ Err f → IsBadTarget s place level form id f
  variable-target v f stand true true true top true a b c d e h = target-exported v f stand (seen-by s level v true true true top a b c d) e (the-fault (At-form kind.AssignedExport) f h)
  variable-target v f stand true true true top false a b c d e h = absurd (cc)
  variable-target v f stand true true false top exported a b c d e h = target-out v f stand (seen-by s level v true true false top a b c d) (the-fault (At-target kind.OutOfContext) f h)
  variable-target v f stand true false in_it top exported a b c d e h = target-out v f stand (seen-by s level v true false in_it top a b c d) (the-fault (At-target kind.OutOfContext) f h)
  variable-target v f stand false same in_it true true a b c d e h = target-exported v f stand (seen-by s level v false same in_it true a b c d) e (the-fault (At-form kind.AssignedExport) f h)
  variable-target v f stand false same in_it true false a b c d e h =
      i.imported_target stand a d (not-among v.label e) (tells-of kind.AssignedImport form place (symbol_of id ∷ []) f (the-fault (At-form kind.AssignedImport) f h))
  variable-target v f stand false same in_it false exported a b c d e h = target-out v f stand (seen-by s level v false same in_it false a b c d) (the-fault (At-target kind.OutOfContext) f h)

  out-aimed : (v : Variable) (own same in_it top exported : Bool) → (if own then (if same then in_it else false) else top) ≡ false → Aimed v own same in_it top exported ≡ Err (At-target kind.OutOfContext)
  out-aimed v true true true top exported h = absurd (cc)
  out-aimed v true true false top exported h = refl
  out-aimed v true false in_it top exported h = refl
  out-aimed v false same in_it true exported h = absurd (cc)
  out-aimed v false same in_it false exported h = refl

  export-aimed : (v : Variable) (own same in_it top : Bool) → (if own then (if same then in_it else false) else top) ≡ true → Aimed v own same in_it top true ≡ Err (At-form kind.AssignedExport)
  export-aimed v true true true top h = refl
  export-aimed v true true false top h = absurd (cc)
  export-aimed v true false in_it top h = absurd (cc)
  export-aimed v false same in_it true h = refl
  export-aimed v false same in_it false h = absurd (cc)

  -- an assignment, whatever its target stands for
  abbrev Assigned : Standing → Result (PlanOrUse × State) Fault
  Assigned st = after (assign_by place level form id value st s) (step_of rs place form)

  asked : (l : Label) → standing_of s id ≡ standing.Keyword l → (r : Result (Bool × State) Fault) → asks_variable rs (place_of form place) l s ≡ r → (f : Fault) → after r (set_step place form l id) ≡ Err f → IsBadAssignment rs s place level form id f
  asked l stand (Ok (true, u)) e f h = absurd (cc)
  asked l stand (Ok (false, u)) e f h =
      let same : At-form kind.KeywordMisuse ≡ f = cc in
      i.no_variable_transformer stand e (tells-of kind.KeywordMisuse form place (symbol_of id ∷ []) f same)
  asked l stand (Err g) e f h = i.bad_keyword stand (e ∙ (let k : ◌≡◌ {A = Result (Bool × State) Fault} (Err g) (Err f) = (let same : g ≡ f = cc in ap Err same) in k))

  assigned-only : (st : Standing) → standing_of s id ≡ st → (f : Fault) → Assigned st ≡ Err f → IsBadAssignment rs s place level form id f
  assigned-only standing.Nothing e f h = i.bad_target (i.unbound_target e (tells-of kind.Unbound form place (symbol_of id ∷ []) f (the-fault (At-form kind.Unbound) f h)))
  assigned-only (standing.Variable v) e f h =
      i.bad_target (variable-target v f e v.own (nat_eq v.level level) (is_in_scope s v) v.top (has_label s.exports v.label) refl refl refl refl refl (sym (ap (λ r. Then r) (aimed v)) ∙ h))
  assigned-only standing.PatternVariable e f h = i.bad_target (i.pattern_target e (tells-of kind.KeywordMisuse id place (symbol_of id ∷ []) f (the-fault (At-target kind.KeywordMisuse) f h)))
  assigned-only (standing.Primitive op) e f h = i.bad_target (i.primitive_target e (tells-of kind.AssignedImport form place (symbol_of id ∷ []) f (the-fault (At-form kind.AssignedImport) f h)))
  assigned-only (standing.Core k) e f h = i.bad_target (i.keyword_target e (tells-of kind.KeywordMisuse form place (symbol_of id ∷ []) f (the-fault (At-form kind.KeywordMisuse) f h)))
  assigned-only (standing.Keyword l) e f h = asked l e (asks_variable rs (place_of form place) l s) refl f h

  target-told : (f : Fault) → IsBadTarget s place level form id f → Assigned (standing_of s id) ≡ Err f
  target-told f (i.unbound_target e t) = ap Assigned e ∙ ap Err (sym (told kind.Unbound form place (symbol_of id ∷ []) f t))
  target-told f (i.pattern_target e t) = ap Assigned e ∙ ap Err (sym (told kind.KeywordMisuse id place (symbol_of id ∷ []) f t))
  target-told f (i.keyword_target e t) = ap Assigned e ∙ ap Err (sym (told kind.KeywordMisuse form place (symbol_of id ∷ []) f t))
  target-told f (i.primitive_target e t) = ap Assigned e ∙ ap Err (sym (told kind.AssignedImport form place (symbol_of id ∷ []) f t))
  target-told f (i.target_out_of_context {v} e h t) =
      ap Assigned e ∙ ap (λ r. Then r) (aimed v ∙ out-aimed v v.own (nat_eq v.level level) (is_in_scope s v) v.top (has_label s.exports v.label) (invisible s level v h))
      ∙ ap Err (sym (told kind.OutOfContext id place (symbol_of id ∷ []) f t))
  target-told f (i.exported_target {v} e h among t) =
      ap Assigned e
      ∙ ap (λ r. Then r) (aimed-as v v.own (nat_eq v.level level) (is_in_scope s v) v.top true refl refl refl refl (among-is v.label s.exports among)
      ∙ export-aimed v v.own (nat_eq v.level level) (is_in_scope s v) v.top (visible-seen s level v h))
      ∙ ap Err (sym (told kind.AssignedExport form place (symbol_of id ∷ []) f t))
  target-told f (i.imported_target {v} e own top among t) =
      ap Assigned e ∙ ap (λ r. Then r) (aimed-as v false (nat_eq v.level level) (is_in_scope s v) true false own refl refl top (none-among v.label among))
      ∙ ap Err (sym (told kind.AssignedImport form place (symbol_of id ∷ []) f t))
    where
      none-among : (l : Label) → (IsAmongForms l s.exports → ⊥) → has_label s.exports l ≡ false
      none-among l h = by (has_label s.exports l) refl
        where
          by : (b : Bool) → has_label s.exports l ≡ b → has_label s.exports l ≡ false
          by true e = absurd (h (is-among s.exports l e))
          by false e = e

  assigned-told : (f : Fault) → IsBadAssignment rs s place level form id f → Assigned (standing_of s id) ≡ Err f
  assigned-told f (i.bad_target h) = target-told f h
  assigned-told f (i.bad_keyword {l} e h) = ap Assigned e ∙ ap (λ r. after r (set_step place form l id)) h
  assigned-told f (i.no_variable_transformer {l} {t = u} e h t) =
      ap Assigned e ∙ ap (λ r. after r (set_step place form l id)) h ∙ ap Err (sym (told kind.KeywordMisuse form place (symbol_of id ∷ []) f t))

headed : (place : Span) (level : ℕ) (span : Option Span) (head rest : Tree) (k : CoreForm) (s : State) → is_leaf head ≡ true → standing_of s head ≡ standing.Core k
    → plan_of place level (pair span head rest) s ≡ keyword_plan place level (pair span head rest) head k s
unfolding list_plan
headed place level span head rest k s leaf-is stand =
    ap (λ b. if b then by_head place level (pair span head rest) head rest (standing_of s head) s else application place (pair span head rest) head rest s) leaf-is
    ∙ ap (λ st. by_head place level (pair span head rest) head rest st s) stand

set-plan : (place : Span) (level : ℕ) (form head id value : Tree) (s : State) → shape core_forms.Set form place ≡ Ok (shapes.Set id value) → keyword_plan place level form head core_forms.Set s ≡ assign_by place level form id value (standing_of s id) s
unfolding keyword_plan role_of shape_plan assign
set-plan place level form head id value s e = ap (λ r. with_shape place level form core_forms.Set r s) e

stepped : (rs : List CompiledLibrary) (place : Span) (level : ℕ) (form : Tree) (s : State) → step rs place level form s ≡ after (plan_of place level form s) (step_of rs place form)
unfolding step
stepped rs place level form s = refl

assignment-step : (rs : List CompiledLibrary) (place : Span) (level : ℕ) (form id value : Tree) (s : State) → IsAssignment s place id value form → step rs place level form s ≡ Assigned rs place level form id value s (standing_of s id)
assignment-step rs place level _ id value s (i.a_set {span} {head} {rest} leaf-is stand e) =
    stepped rs place level (pair span head rest) s
    ∙ ap (λ r. after r (step_of rs place (pair span head rest))) (headed place level span head rest core_forms.Set s leaf-is stand ∙ set-plan place level (pair span head rest) head id value s e)

-- Auxiliary keywords.

misused : (place : Span) (level : ℕ) (form head : Tree) (k : CoreForm) (s : State) → IsAuxiliary k → keyword_plan place level form head k s ≡ Err (fault_at kind.KeywordMisuse head place (symbol_of head ∷ []))
unfolding keyword_plan role_of
misused place level form head _ s i.else_ = refl
misused place level form head _ s i.arrow = refl
misused place level form head _ s i.ellipsis = refl
misused place level form head _ s i.underscore = refl
misused place level form head _ s i.unquote = refl
misused place level form head _ s i.unquote_splicing = refl
misused place level form head _ s i.unsyntax = refl
misused place level form head _ s i.unsyntax_splicing = refl
misused place level form head _ s i.fields = refl
misused place level form head _ s i.mutable = refl
misused place level form head _ s i.immutable = refl
misused place level form head _ s i.parent = refl
misused place level form head _ s i.protocol = refl
misused place level form head _ s i.sealed = refl
misused place level form head _ s i.opaque = refl
misused place level form head _ s i.nongenerative = refl
misused place level form head _ s i.parent_rtd = refl

pub identifiers-are-told : IdentifiersAreTold
identifiers-are-told = record {
  references = λ rs place level span x c s f h. leaf-step rs place level span x c s ∙ refer-told rs place level (leaf span x c) s f h;
  references_only = λ rs place level span x c s f h. refer-only rs place level (leaf span x c) s (standing_of s (leaf span x c)) refl f (sym (leaf-step rs place level span x c s) ∙ h);
  assignments = λ rs place level form id value s f a h. assignment-step rs place level form id value s a ∙ assigned-told rs place level form id value s f h;
  assignments_only = λ rs place level form id value s f a h. assigned-only rs place level form id value s (standing_of s id) refl f (sym (assignment-step rs place level form id value s a) ∙ h);
  auxiliaries = λ rs place level span head rest k s f leaf-is stand aux t.
      stepped rs place level (pair span head rest) s
      ∙ ap (λ r. after r (step_of rs place (pair span head rest))) (headed place level span head rest k s leaf-is stand ∙ misused place level (pair span head rest) head k s aux)
      ∙ ap Err (sym (told kind.KeywordMisuse head place (symbol_of head ∷ []) f t));
}
