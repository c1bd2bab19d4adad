-- Binders and exports are at fault exactly where their cases say so.
use Rattle.std.proofs.Common.{◌≡◌, ◌+◌, ℕ, Bool, true, false, List, [], ◌∷◌, ◌++◌, Option, None, Some, Result, Ok, Err, refl, sym, ap, ◌∙◌, subst, if◌then◌else◌}
use Rattle.std.specs.Prelude.{nat_eq, ◌&&◌, is_some}
use Rattle.std.specs.Cmp.Lexicographic.{pointwise}
use Rattle.base_data.specs.Act.{after, give, each}
use Rattle.base_data.specs.Same.{texts_decides}
use Rattle.base_data.specs.declared.fault.Fault.{Fault}
use Rattle.base_data.specs.declared.fault.FaultKind.TheVariants as kind
use Rattle.base_data.specs.declared.imported_name.ImportedName.{ImportedName}
use Rattle.base_data.specs.declared.name.FrameNo.{FrameNo}
use Rattle.base_data.specs.declared.name.Label.{Label}
use Rattle.base_data.specs.declared.name.Mark.{Mark}
use Rattle.base_data.specs.declared.span.Span.{Span}
use Rattle.stx_tree.specs.Changes.{stamp}
use Rattle.stx_tree.specs.Leaves.{marks_of}
use Rattle.stx_tree.specs.SameMarks.{same_marks, same_marks_decides}
use Rattle.stx_tree.specs.Tree.{Tree, span_of, atom, leaf, pair, vector}
use Rattle.stx_frames.specs.Rows.{Row, is_of, label_in, second_binder}
use Rattle.stx_frames.specs.Scope.{rows_at, with_row}
use Rattle.stx_scope.specs.Stands.{symbol_of, row_for, stands}
use Rattle.core_shapes.specs.At.{place_of, fault_at}
use Rattle.core_shapes.specs.Lists.{is_leaf}
use Rattle.core_shapes.specs.declared.shape.BindingSpec.{BindingSpec}
use Rattle.core_language.specs.declared.link.LinkKind.TheVariants as link
use Rattle.eval_stage.specs.Transformers.{begin_keyword}
use Rattle.expand_standing.specs.Binders.{row_put, put_row, variable_for, put_variable, bind_variable}
use Rattle.expand_standing.specs.Own.{export_labels}
use Rattle.expand_standing.specs.State.{State, fresh, note, on_stage}
use Rattle.expand_standing.specs.Uses.{put_keyword, bind_keyword}
use Rattle.expand_standing.specs.declared.binders.BoundSpec.{BoundSpec}
use Rattle.expand_forms.specs.Top.{stands_for, export, exports}
use Rattle.expand_forms.specs.declared.top.TopAt.{TopAt}
use Rattle.law_expand_faults.specs.Told.{TellsFault}
use Rattle.law_expand_faults.specs.Bindings.{IsBoundName, IsBadBinder, IsBadExport, BindingsAreTold}
use Rattle.law_expand_faults.specs.Bindings as b
use Rattle.law_expand_faults.proofs.Told.{tells, told}

tells-of : (k : kind.the_data) (form : Tree) (place : Span) (words : List (List ℕ)) (f : Fault) → fault_at k form place words ≡ f → TellsFault k form place words f
tells-of k form place words f e = subst (λ g. TellsFault k form place words g) e (tells k form place words)

-- Rows.

first-so : (p q : Bool) → (p && q) ≡ true → p ≡ true
first-so true q h = refl
first-so false q h = h

second-so : (p q : Bool) → (p && q) ≡ true → q ≡ true
second-so true q h = h
second-so false q h = absurd (cc)

bound-is : (x : List ℕ) (ms : List Mark) (rs : List Row) → is_some (label_in rs x ms) ≡ true → IsBoundName x ms rs
bound-is x ms [] h = absurd (cc)
bound-is x ms (r ∷ rs) h = by (bound-is x ms rs) (is_of x ms r) refl h
  where
    by : (is_some (label_in rs x ms) ≡ true → IsBoundName x ms rs) → (t : Bool) → is_of x ms r ≡ t → is_some (if t then Some r.label else label_in rs x ms) ≡ true → IsBoundName x ms (r ∷ rs)
    by rest true e k =
        b.by_this_row (sym ((texts_decides x r.symbol).0 (first-so (pointwise nat_eq x r.symbol) (same_marks ms r.marks) e)))
        (sym ((same_marks_decides ms r.marks).0 (second-so (pointwise nat_eq x r.symbol) (same_marks ms r.marks) e)))
    by rest false e k = b.by_another_row (rest k)

is-bound : (x : List ℕ) (ms : List Mark) (rs : List Row) → IsBoundName x ms rs → is_some (label_in rs x ms) ≡ true
is-bound x ms _ (b.by_this_row {r} {rs} s m) =
    ap (λ t. is_some (if t && same_marks ms r.marks then Some r.label else label_in rs x ms)) ((texts_decides x r.symbol).1 (sym s))
    ∙ ap (λ t. is_some (if t then Some r.label else label_in rs x ms)) ((same_marks_decides ms r.marks).1 (sym m))
is-bound x ms _ (b.by_another_row {r} {rs} h) = by (is_of x ms r) (is-bound x ms rs h)
  where
    by : (t : Bool) → is_some (label_in rs x ms) ≡ true → is_some (if t then Some r.label else label_in rs x ms) ≡ true
    by true e = refl
    by false e = e

-- Binders.

module _ (frame : FrameNo) (id : Tree) (place : Span) where
  abbrev Second : Fault
  Second = fault_at kind.Duplicate id place (symbol_of id ∷ [])

  abbrev Has : State → Bool
  Has s = is_some (label_in (rows_at frame s.frames) (symbol_of id) (marks_of id))

  abbrev Put : Bool → Label → State → Result (Unit {0} × State) Fault
  Put t l s = row_put id place s (if t then Err (second_binder (symbol_of id)) else Ok (with_row s.frames frame (row_for id l)))

module _ {A : Type 0} (frame : FrameNo) (id : Tree) (place : Span) (s : State) (leaf-is : is_leaf id ≡ true) (l : Label) (t : State) (same : Has frame id place t ≡ Has frame id place s) (go : Unit {0} → State → Result (A × State) Fault)
    (gives : (u : State) (f : Fault) → go tt u ≡ Err f → ⊥) where
  bind-only : (h : Bool) → Has frame id place s ≡ h → (f : Fault) → after (Put frame id place h l t) go ≡ Err f → IsBadBinder s frame id place f
  bind-only true has f e =
      let is : Second frame id place ≡ f = cc in
      b.second leaf-is (bound-is (symbol_of id) (marks_of id) (rows_at frame s.frames) has) (tells-of kind.Duplicate id place (symbol_of id ∷ []) f is)
  bind-only false has f e = absurd (gives (record t { frames = with_row t.frames frame (row_for id l) }) f e)

  bind-told : (f : Fault) → IsBoundName (symbol_of id) (marks_of id) (rows_at frame s.frames) → TellsFault kind.Duplicate id place (symbol_of id ∷ []) f → after (put_row id place frame l t) go ≡ Err f
  bind-told f h told-so =
      ap (λ x. after (Put frame id place x l t) go) (same ∙ is-bound (symbol_of id) (marks_of id) (rows_at frame s.frames) h)
      ∙ ap Err (sym (told kind.Duplicate id place (symbol_of id ∷ []) f told-so))

  bind-refused : (f : Fault) → after (put_row id place frame l t) go ≡ Err f → IsBadBinder s frame id place f
  bind-refused f e = bind-only (Has frame id place s) refl f (sym (ap (λ x. after (Put frame id place x l t) go) same) ∙ e)

module _ (frame : FrameNo) (id : Tree) (place : Span) (s : State) where
  abbrev Next : State
  Next = record s { names = record { library = s.names.library; number = s.names.number + 1 } }

  abbrev New : Label
  New = record { 0 = s.names }

  not-both : (t : Bool) → t ≡ true → t ≡ false → ⊥
  not-both t h k = let e : true ≡ false = sym h ∙ k in let z : ⊥ = cc in z

  no-binder : (f : Fault) → is_leaf id ≡ false → TellsFault kind.BadForm id place [] f → fault_at kind.BadForm id place [] ≡ f
  no-binder f h t = sym (told kind.BadForm id place [] f t)

  -- Variables.
  module _ (level : ℕ) (top : Bool) where
    abbrev Variable-bound : Unit {0} → State → Result (Label × State) Fault
    Variable-bound _ t = after (put_variable New (variable_for id level top s.index) t) (λ _. note New (span_of id) New link.Bind)

    abbrev Binds-variable : Bool → Result (Label × State) Fault
    Binds-variable t = if t then after (put_row id place frame New Next) Variable-bound else Err (fault_at kind.BadForm id place [])

    variable-bound : bind_variable frame place level top id s ≡ Binds-variable (is_leaf id)
    unfolding bind_variable fresh
    variable-bound = refl

    variable-given : (u : State) (f : Fault) → Variable-bound tt u ≡ Err f → ⊥
    variable-given u f h = cc

    variable-told : (f : Fault) → IsBadBinder s frame id place f → bind_variable frame place level top id s ≡ Err f
    variable-told f (b.second leaf-is h t) =
        variable-bound ∙ ap Binds-variable leaf-is ∙ bind-told frame id place s leaf-is New Next refl Variable-bound variable-given f h t
    variable-told f (b.no_identifier leaf-is t) = variable-bound ∙ ap Binds-variable leaf-is ∙ ap Err (no-binder f leaf-is t)

    variable-only : (f : Fault) → bind_variable frame place level top id s ≡ Err f → IsBadBinder s frame id place f
    variable-only f h = by (is_leaf id) refl (sym variable-bound ∙ h)
      where
        by : (t : Bool) → is_leaf id ≡ t → Binds-variable t ≡ Err f → IsBadBinder s frame id place f
        by true leaf-is k = bind-refused frame id place s leaf-is New Next refl Variable-bound variable-given f k
        by false leaf-is k = let is : fault_at kind.BadForm id place [] ≡ f = cc in b.no_identifier leaf-is (tells-of kind.BadForm id place [] f is)

  -- Keywords.
  module _ (level : ℕ) (init : Tree) where
    abbrev Spec : BindingSpec
    Spec = record { id = id; init = init }

    abbrev Keyword-bound : Unit {0} → State → Result (BoundSpec × State) Fault
    Keyword-bound _ t = after (put_keyword New level t) (λ _ u. after (on_stage (begin_keyword New (place_of init place)) u) (λ _. give (record { label = New; init = init })))

    abbrev Binds-keyword : Bool → Result (BoundSpec × State) Fault
    Binds-keyword t = if t then after (put_row id place frame New Next) Keyword-bound else Err (fault_at kind.BadForm id place [])

    keyword-bound : bind_keyword frame place level Spec s ≡ Binds-keyword (is_leaf id)
    unfolding bind_keyword fresh
    keyword-bound = refl

    keyword-given : (u : State) (f : Fault) → Keyword-bound tt u ≡ Err f → ⊥
    unfolding begin_keyword
    keyword-given u f h = cc

    keyword-told : (f : Fault) → IsBadBinder s frame id place f → bind_keyword frame place level Spec s ≡ Err f
    keyword-told f (b.second leaf-is h t) = keyword-bound ∙ ap Binds-keyword leaf-is ∙ bind-told frame id place s leaf-is New Next refl Keyword-bound keyword-given f h t
    keyword-told f (b.no_identifier leaf-is t) = keyword-bound ∙ ap Binds-keyword leaf-is ∙ ap Err (no-binder f leaf-is t)

    keyword-only : (f : Fault) → bind_keyword frame place level Spec s ≡ Err f → IsBadBinder s frame id place f
    keyword-only f h = by (is_leaf id) refl (sym keyword-bound ∙ h)
      where
        by : (t : Bool) → is_leaf id ≡ t → Binds-keyword t ≡ Err f → IsBadBinder s frame id place f
        by true leaf-is k = bind-refused frame id place s leaf-is New Next refl Keyword-bound keyword-given f k
        by false leaf-is k = let is : fault_at kind.BadForm id place [] ≡ f = cc in b.no_identifier leaf-is (tells-of kind.BadForm id place [] f is)

-- Exports.

stamped-fault : (f : FrameNo) (t : Tree) (place : Span) → fault_at kind.ExportUnbound (stamp f t) place (symbol_of (stamp f t) ∷ []) ≡ fault_at kind.ExportUnbound t place (symbol_of t ∷ [])
stamped-fault f (atom o a) place = refl
stamped-fault f (leaf o x c) place = refl
stamped-fault f (pair o a d) place = refl
stamped-fault f (vector o d) place = refl

module _ (at : TopAt) (s : State) where
  abbrev Exported : Type 0
  Exported = ImportedName

  abbrev exporting : List ℕ → Label → Exported
  exporting name label = record { name = name; label = label }

  abbrev Unbound-export : Tree → Fault
  Unbound-export id = fault_at kind.ExportUnbound (stamp at.frame id) at.place (symbol_of (stamp at.frame id) ∷ [])

  abbrev Each-by : List Exported → List ℕ → Tree → List (List ℕ × Tree) → Option Label → Result (List Exported × State) Fault
  Each-by done x id es o = after (stands_for at.place x (stamp at.frame id) o s) (λ a. each (export at) (done ++ a ∷ []) es)

  each-step : (done : List Exported) (x : List ℕ) (id : Tree) (es : List (List ℕ × Tree)) → each (export at) done ((x, id) ∷ es) s ≡ Each-by done x id es (stands s.frames (stamp at.frame id))
  unfolding each export
  each-step done x id es = refl

  each-none : (done : List Exported) → each (export at) done [] s ≡ Ok (done, s)
  unfolding each
  each-none done = refl

  each-told : (f : Fault) (done : List Exported) (es : List (List ℕ × Tree)) → IsBadExport s at f es → each (export at) done es s ≡ Err f
  each-told f done _ (b.this_export {external} {id} {es} none t) =
      each-step done external id es ∙ ap (Each-by done external id es) none
      ∙ ap Err (stamped-fault at.frame id at.place ∙ sym (told kind.ExportUnbound id at.place (symbol_of id ∷ []) f t))
  each-told f done _ (b.another_export {external} {id} {l} {es} some h) =
      each-step done external id es ∙ ap (Each-by done external id es) some ∙ each-told f (done ++ exporting external l ∷ []) es h

  each-only : (done : List Exported) (f : Fault) (es : List (List ℕ × Tree)) → each (export at) done es s ≡ Err f → IsBadExport s at f es
  each-only done f [] h = let k : ◌≡◌ {A = Result (List Exported × State) Fault} (Ok (done, s)) (Err f) = sym (each-none done) ∙ h in absurd (cc)
  each-only done f ((x, id) ∷ es) h = by (λ l. each-only (done ++ exporting x l ∷ []) f es) (stands s.frames (stamp at.frame id)) refl (sym (each-step done x id es) ∙ h)
    where
      by : ((l : Label) → each (export at) (done ++ exporting x l ∷ []) es s ≡ Err f → IsBadExport s at f es) → (o : Option Label) → stands s.frames (stamp at.frame id) ≡ o → Each-by done x id es o ≡ Err f → IsBadExport s at f ((x, id) ∷ es)
      by rest None e k =
          let is : Unbound-export id ≡ f = cc in
          b.this_export e (tells-of kind.ExportUnbound id at.place (symbol_of id ∷ []) f (sym (stamped-fault at.frame id at.place) ∙ is))
      by rest (Some l) e k = b.another_export e (rest l k)

  abbrev Kept : Result (List Exported × State) Fault → Result (List Exported × State) Fault
  Kept r = after r (λ ls t. after (export_labels ls t) (λ _. give ls))

  exported : (es : List (List ℕ × Tree)) → exports at es s ≡ Kept (each (export at) [] es s)
  unfolding exports
  exported es = refl

  kept-fault : (r : Result (List Exported × State) Fault) (f : Fault) → Kept r ≡ Err f → r ≡ Err f
  kept-fault (Ok p) f h = absurd (cc)
  kept-fault (Err g) f h = h

pub bindings-are-told : BindingsAreTold
bindings-are-told = record {
  variable_binders = λ frame place level top id s f h. variable-told frame id place s level top f h;
  variable_binders_only = λ frame place level top id s f h. variable-only frame id place s level top f h;
  keyword_binders = λ frame place level spec s f h. keyword-told frame spec.id place s level spec.init f h;
  keyword_binders_only = λ frame place level spec s f h. keyword-only frame spec.id place s level spec.init f h;
  unbound_exports = λ at es s f h. exported at s es ∙ ap (Kept at s) (each-told at s f [] es h);
  unbound_exports_only = λ at es s f h. each-only at s [] f es (kept-fault at s (each (export at) [] es s) f (sym (exported at s es) ∙ h));
}
