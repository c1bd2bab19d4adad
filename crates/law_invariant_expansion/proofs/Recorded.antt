-- The record of a library keeps an invariant.
use Rattle.std.proofs.Common.{◌≡◌, ℕ, zero, suc, Bool, List, [], ◌∷◌, map, Option, None, Some, Result, Ok, Err, subst}
use Rattle.base_data.proofs.ElementLemmas.{each-append}
use Rattle.base_data.specs.Act.{after, give}
use Rattle.base_data.specs.Elements.{Each}
use Rattle.base_data.specs.declared.fault.Fault.{Fault}
use Rattle.base_data.specs.declared.imported_name.ImportedName.{ImportedName}
use Rattle.base_data.specs.declared.library.LibName.{LibName}
use Rattle.base_data.specs.declared.name.Label.{Label}
use Rattle.base_data.specs.declared.span.Span.{Span}
use Rattle.stx_tree.specs.Changes.{stamp}
use Rattle.stx_tree.specs.Tree.{Tree}
use Rattle.stx_scope.specs.Stands.{stands}
use Rattle.core_language.specs.Bindings.{bound_to}
use Rattle.core_language.specs.Labels.{same_label, has_label}
use Rattle.core_language.specs.declared.binding.Binding.{Binding}
use Rattle.core_language.specs.declared.binding.Binding.TheVariants as binding
use Rattle.core_language.specs.declared.record.CompiledLibrary.{CompiledLibrary}
use Rattle.eval_code.specs.Codes.{Codes}
use Rattle.eval_stage.specs.Stage.{keyword_at, expression_in, expression_of}
use Rattle.eval_stage.specs.declared.keyword.Keyword.{Keyword}
use Rattle.eval_stage.specs.declared.keyword.Keyword.TheVariants as keyword
use Rattle.expand_standing.specs.Own.{export_labels, with_assigned, with_expression, completed, row_at, own_label, own_row, own_below, own_bindings}
use Rattle.expand_standing.specs.Start.{bindings_of, started, first_frame}
use Rattle.expand_standing.specs.State.{State, stage_of}
use Rattle.expand_heads.specs.Items.{begun}
use Rattle.expand_heads.specs.declared.taken.Taken.{Taken}
use Rattle.expand_forms.specs.Body.{finish_all}
use Rattle.expand_forms.specs.Expression.{inside, full_room}
use Rattle.expand_forms.specs.Inside.{Inside}
use Rattle.expand_forms.specs.Top.{stands_for, export, all_exports, exports, give_record, record_in, body_at, second_pass, first_pass, top, top_at}
use Rattle.expand_forms.specs.declared.top.TopAt.{TopAt}
use Rattle.law_invariants.specs.Invariant.{OptionHolds}
use Rattle.law_invariants.specs.Holds.{CodesHold, LineHolds}
use Rattle.law_invariants.specs.Stages.{ExpressionHolds, KeywordHolds, RecordsHold}
use Rattle.law_invariants.proofs.Variables.{looked_up}
use Rattle.law_invariant_expansion.specs.Records.{RecordHolds, RecordsStay}
use Rattle.law_invariant_expansion.specs.States.{BindingHolds, BindingsHold, StateHoldsIn}
use Rattle.law_invariant_expansion.proofs.Forms.{Keeps, stamps-hold, splice-holds, lines-hold}
use Rattle.law_invariant_expansion.proofs.Items.{TakenAt}
use Rattle.law_invariant_expansion.proofs.PlannedForm.{inside-keeps}
use Rattle.law_invariant_expansion.proofs.Standing.{F, Ts, Gave, gave-after, gave-each}
use Rattle.law_invariants.specs.Invariant.{Invariant}
use Rattle.law_invariant_expansion.specs.Kept.{IsKeptByExpansion}

module _ (I : Invariant) (kept : IsKeptByExpansion I) where
  abbrev Any : {A : Type 0} → A → Type 0
  Any x = Unit {0}

  -- Its own bindings.

  kept-holds : (o : Option Keyword) → OptionHolds (KeywordHolds I) o → ExpressionHolds I (expression_in o)
  kept-holds None h = tt
  kept-holds (Some (keyword.Waiting place)) h = tt
  kept-holds (Some (keyword.Kept e v)) h = h.0

  completed-holds : (s : State) (l : Label) (b : Binding) → F I kept s → BindingHolds I b → BindingHolds I (completed s l b)
  completed-holds s l b h k = by (has_label s.assigned l) b k
    where
      by : (a : Bool) (b : Binding) → BindingHolds I b → BindingHolds I (with_expression (expression_of l (stage_of s)) (with_assigned a b))
      by a (binding.Variable v) k = k
      by a (binding.PatternVariable level depth) k = tt
      by a (binding.Macro level e) k = kept-holds (keyword_at s.keywords l) (looked_up (KeywordHolds I) (same_label l) s.keywords h.stage.keywords)
      by a (binding.Core f) k = tt
      by a (binding.Primitive op) k = tt

  row-at-holds : (s : State) (l : Label) (o : Option Binding) → F I kept s → OptionHolds (BindingHolds I) o → BindingsHold I (row_at s l o)
  row-at-holds s l None h k = tt
  row-at-holds s l (Some b) h k = (completed-holds s l b h k, tt)

  below-holds : (s : State) (n : ℕ) → F I kept s → BindingsHold I (own_below s n)
  below-holds s zero h = tt
  below-holds s (suc n) h =
      let l = own_label s n in
      each-append (λ (b : Label × Binding). BindingHolds I b.1) (own_below s n) (own_row s n) (below-holds s n h) (row-at-holds s l (bound_to s.bindings l) h (looked_up (BindingHolds I) (same_label l) s.bindings h.bindings))

  own-holds : (s : State) → F I kept s → BindingsHold I (own_bindings s)
  unfolding own_bindings
  own-holds s h = below-holds s s.names.number h

  -- Exports change nothing.

  stands-for-holds : (place : Span) (external : List ℕ) (id : Tree) (o : Option Label) (s : State) → F I kept s → Gave I kept Any (stands_for place external id o s)
  stands-for-holds place external id None s h = tt
  stands-for-holds place external id (Some l) s h = (h, tt)

  export-holds : (at : TopAt) (e : List ℕ × Tree) (s : State) → F I kept s → Gave I kept Any (export at e s)
  unfolding export
  export-holds at e s h = stands-for-holds at.place e.0 (stamp at.frame e.1) (stands s.frames (stamp at.frame e.1)) s h

  all-any : {A : Type 0} (xs : List A) → Each (Any {A = A}) xs
  all-any [] = tt
  all-any (x ∷ xs) = (tt, all-any xs)

  exports-hold : (at : TopAt) (es : List (List ℕ × Tree)) (s : State) → F I kept s → Gave I kept Any (exports at es s)
  unfolding exports
  exports-hold at es s h =
      gave-after I kept (λ ls. Each (Any {A = ImportedName}) ls) Any (all_exports at es s) (λ ls s'. after (export_labels ls s') (λ _. give ls))
      (gave-each I kept (Any {A = List ℕ × Tree}) (Any {A = ImportedName}) (export at) (λ e t i j. export-holds at e t i) [] es s h tt (all-any es))
      (λ ls u i y. (record { stage = i.stage; bindings = i.bindings }, tt))

  -- The body of a library.

  module _ (go : Inside) (keeps : Keeps I kept go) where
    finished-holds : (at : TopAt) (es : List (List ℕ × Tree)) (d : Taken) (s : State) → F I kept s → TakenAt I kept d → Gave I kept (RecordHolds I) (second_pass go at es d s)
    unfolding second_pass
    finished-holds at es d s h k =
        gave-after I kept Any (RecordHolds I) (exports at es s) (λ ls s'. after (finish_all go 0 d.waiting s') (λ lines. give_record at ls lines)) (exports-hold at es s h)
        (λ ls u i y. gave-after I kept (λ xs. Each (LineHolds I) xs) (RecordHolds I) (finish_all go 0 d.waiting u) (λ lines. give_record at ls lines) (lines-hold I kept go keeps 0 d.waiting u i k)
        (λ lines v j z. (j, record { run = z; bindings = own-holds v j })))

    top-holds : (at : TopAt) (es : List (List ℕ × Tree)) (forms : List Tree) (s : State) → F I kept s → Ts I kept forms → Gave I kept (RecordHolds I) (top go at es forms s)
    unfolding top first_pass
    top-holds at es forms s h k =
        gave-after I kept (TakenAt I kept) (RecordHolds I) (first_pass go at forms s) (second_pass go at es) (splice-holds I kept go keeps (body_at at s.library) 0 begun (map (stamp at.frame) forms) s h tt (stamps-hold I kept at.frame forms k))
        (λ d u i y. finished-holds at es d u i y)

  -- The law.

  all-bindings : (rs : List CompiledLibrary) → Each (RecordHolds I) rs → BindingsHold I (bindings_of rs)
  all-bindings [] h = tt
  all-bindings (r ∷ rs) h = each-append (λ (b : Label × Binding). BindingHolds I b.1) r.bindings (bindings_of rs) h.0.bindings (all-bindings rs h.1)

  all-lines : (rs : List CompiledLibrary) → Each (RecordHolds I) rs → RecordsHold I rs
  all-lines [] h = tt
  all-lines (r ∷ rs) h = (h.0.run, all-lines rs h.1)

  of-record : (r : CompiledLibrary) (q : Result (CompiledLibrary × State) Fault) → Gave I kept (RecordHolds I) q → record_in q ≡ Ok r → RecordHolds I r
  of-record r (Err f) h e = absurd (cc)
  of-record r (Ok p) h e =
      let is : p.0 ≡ r = cc in
      subst (RecordHolds I) is h.1

  pub started-holds : (own : LibName) (records : List CompiledLibrary) (imports : List ImportedName) (codes : Codes) → Each (RecordHolds I) records → CodesHold I codes → StateHoldsIn I (started own records imports codes)
  unfolding started
  started-holds own records imports codes before texts = record { stage = record { cells = tt; codes = texts; globals = tt; keywords = tt }; bindings = all-bindings records before }

  pub records-stay : RecordsStay I
  records-stay own records imports body codes r before texts read e =
      of-record r (top (inside records full_room) (top_at (first_frame own) body) body.exports body.forms (started own records imports codes))
      (top-holds (inside records full_room) (inside-keeps I kept records full_room (all-lines records before)) (top_at (first_frame own) body) body.exports body.forms (started own records imports codes)
      (started-holds own records imports codes before texts) read) e
