-- The marks in the record of a library: of the libraries before, or its own.
use Rattle.std.proofs.Common.{◌≡◌, ℕ, zero, suc, Bool, true, false, List, [], ◌∷◌, ◌++◌, map, Option, None, Some, Result, Ok, Err, refl, sym, subst, arith, inl, inr, if◌then◌else◌}
use Rattle.std.specs.BTreeMap.{insert_entry}
use Rattle.std.specs.Ordering.{nat_cmp, match_ordering}
use Rattle.std.specs.declared.cmp.Ordering.{Ordering}
use Rattle.std.specs.declared.cmp.Ordering.TheVariants as ordering
use Rattle.base_data.proofs.ElementLemmas.{each-append, each-implied}
use Rattle.base_data.specs.Act.{after, give}
use Rattle.base_data.specs.Elements.{Among, Each}
use Rattle.base_data.specs.Named.{Named}
use Rattle.base_data.specs.Same.{same_library}
use Rattle.base_data.specs.declared.fault.Fault.{Fault}
use Rattle.base_data.specs.declared.imported_name.ImportedName.{ImportedName}
use Rattle.base_data.specs.declared.library.LibName.{LibName}
use Rattle.base_data.specs.declared.name.FrameNo.{FrameNo}
use Rattle.base_data.specs.declared.name.Label.{Label}
use Rattle.base_data.specs.declared.name.Mark.{Mark}
use Rattle.base_data.specs.declared.span.Span.{Span}
use Rattle.stx_tree.specs.Changes.{stamp}
use Rattle.stx_tree.specs.Context.{LeafContext, blank}
use Rattle.stx_tree.specs.Tree.{Tree}
use Rattle.stx_tree.specs.declared.frame_row.FrameRow.{FrameRow}
use Rattle.stx_frames.specs.Listed.{rows_from, placed, joined, rows_in}
use Rattle.stx_frames.specs.Rows.{Row}
use Rattle.stx_frames.specs.Scope.{Scope, row_in, with_row, adopted}
use Rattle.stx_scope.specs.Stands.{stands}
use Rattle.core_language.specs.Bindings.{bound_to}
use Rattle.core_language.specs.Labels.{same_label, has_label}
use Rattle.core_language.specs.declared.binding.Binding.{Binding}
use Rattle.core_language.specs.declared.binding.Binding.TheVariants as binding
use Rattle.core_language.specs.declared.record.CompiledLibrary.{CompiledLibrary}
use Rattle.core_records.specs.Frame.{rows_for, introduced_numbers, record_frame}
use Rattle.eval_code.specs.Codes.{Codes}
use Rattle.eval_stage.specs.Stage.{keyword_at, expression_in, expression_of}
use Rattle.eval_stage.specs.declared.keyword.Keyword.{Keyword}
use Rattle.eval_stage.specs.declared.keyword.Keyword.TheVariants as keyword
use Rattle.expand_standing.specs.Own.{export_labels, with_assigned, with_expression, completed, row_at, own_label, own_row, own_below, own_bindings}
use Rattle.expand_standing.specs.Start.{bindings_of, rows_of, first_frame, import_row, started}
use Rattle.expand_standing.specs.State.{State, stage_of}
use Rattle.expand_heads.specs.Items.{begun}
use Rattle.expand_heads.specs.declared.taken.Taken.{Taken}
use Rattle.expand_forms.specs.Body.{finish_all}
use Rattle.expand_forms.specs.Expanding.{ready, library_record}
use Rattle.expand_forms.specs.Expression.{inside, full_room}
use Rattle.expand_forms.specs.Inside.{Inside}
use Rattle.expand_forms.specs.Top.{stands_for, export, all_exports, exports, give_record, record_in, body_at, second_pass, first_pass, top, top_at}
use Rattle.expand_forms.specs.declared.top.LibraryBody.{LibraryBody}
use Rattle.expand_forms.specs.declared.top.TopAt.{TopAt}
use Rattle.law_fresh.specs.Leaves.{OptionHolds, TreeHolds, CodesHold, LineHolds, LinesHold}
use Rattle.law_fresh.proofs.Variables.{looked_up}
use Rattle.law_fresh.proofs.Wider.{tree_wider, codes_wider, lines_wider}
use Rattle.law_fresh_expansion.specs.Events.{HasEvents, EventsStay}
use Rattle.law_fresh_expansion.specs.History.{HasHistory}
use Rattle.law_fresh_expansion.specs.Known.{IsKnownName, IsKnown, IsKnownFrame, HasMarks, libraries_of}
use Rattle.law_fresh_expansion.specs.Living.{Lives, RowsHold}
use Rattle.law_fresh_expansion.specs.RecordMarks.{IsOfOne, IsFrameOfOne, HasOnly, KnownBy, RecordHasOnly, WasRead, StartsAreKnown, RecordsHaveOwnMarks}
use Rattle.law_fresh_expansion.specs.States.{ExpressionHolds, KeywordHolds, BindingHolds, BindingsHold, RecordsHold, FreshStateHolds}
use Rattle.law_fresh_expansion.proofs.Changing.{rise, with-row-holds, stamps-hold}
use Rattle.law_fresh_expansion.proofs.Forms.{KeepsFresh, splice-holds, lines-hold}
use Rattle.law_fresh_expansion.proofs.Items.{TakenAt, taken-up}
use Rattle.law_fresh_expansion.proofs.Having.{has-wider, history-wider}
use Rattle.law_fresh_expansion.proofs.Around.{around-once, inside-once}
use Rattle.law_fresh_expansion.proofs.Once.{events-wider, lives-once}
use Rattle.law_fresh_expansion.proofs.Knowing.{lives-known, lives-on}
use Rattle.law_fresh_expansion.proofs.PlannedForm.{inside-keeps}
use Rattle.law_fresh_expansion.proofs.Runs.{records-wider}
use Rattle.law_fresh_expansion.proofs.Standing.{F, Ts, Gave, gave-after, gave-each, state-self, state-then, bindings-wider}

-- Rows.

pub adopted-holds : (K : Mark → Type 0) (fs : Scope) (rs : List FrameRow) → RowsHold K fs → Each (λ (r : FrameRow). Each K r.marks) rs → RowsHold K (adopted fs rs)
adopted-holds K fs [] h k = h
adopted-holds K fs (r ∷ rs) h k = adopted-holds K (with_row fs r.frame (row_in r)) rs (with-row-holds K fs r.frame (row_in r) h k.0) k.1

module _ (K : Mark → Type 0) where
  abbrev RowOk : FrameRow → Type 0
  RowOk r = Each K r.marks

  abbrev PlacesOk : List (ℕ × List FrameRow) → Type 0
  PlacesOk ps = Each (λ (p : ℕ × List FrameRow). Each RowOk p.1) ps

  from-rows : (f : FrameNo) (rs : List Row) → Each (λ (r : Row). Each K r.marks) rs → Each RowOk (rows_from f rs)
  from-rows f [] h = tt
  from-rows f (r ∷ rs) h = (h.0, from-rows f rs h.1)

  put-in : (ps : List (ℕ × List FrameRow)) (k : ℕ) (rs : List FrameRow) → PlacesOk ps → Each RowOk rs → PlacesOk (insert_entry nat_cmp ps k rs)
  put-in [] k rs h j = (j, tt)
  put-in (p ∷ ps) k rs h j = by (nat_cmp k p.0) (put-in ps k rs h.1 j)
    where
      by : (o : Ordering) → PlacesOk (insert_entry nat_cmp ps k rs) → PlacesOk (match_ordering o ((k, rs) ∷ p ∷ ps) ((p.0, rs) ∷ ps) (p ∷ insert_entry nat_cmp ps k rs))
      by ordering.Less i = (j, h)
      by ordering.Equal i = (j, h.1)
      by ordering.Greater i = (h.0, i)

  placed-ok : (l : LibName) (fs : Scope) → RowsHold K fs → PlacesOk (placed l fs)
  placed-ok l [] h = tt
  placed-ok l (e ∷ es) h = by (same_library e.0.0.library l) (placed-ok l es h.1)
    where
      by : (b : Bool) → PlacesOk (placed l es) → PlacesOk (if b then insert_entry nat_cmp (placed l es) e.0.0.number (rows_from e.0 e.1) else placed l es)
      by true i = put-in (placed l es) e.0.0.number (rows_from e.0 e.1) i (from-rows e.0 e.1 h.0)
      by false i = i

  joined-ok : (ps : List (ℕ × List FrameRow)) → PlacesOk ps → Each RowOk (joined ps)
  joined-ok [] h = tt
  joined-ok (p ∷ ps) h = each-append RowOk p.1 (joined ps) h.0 (joined-ok ps h.1)

  pub rows-in-ok : (l : LibName) (fs : Scope) → RowsHold K fs → Each RowOk (rows_in l fs)
  rows-in-ok l fs h = joined-ok (placed l fs) (placed-ok l fs h)

  core-rows-ok : (ns : List ℕ) → Each RowOk (rows_for ns)
  unfolding rows_for
  core-rows-ok [] = tt
  core-rows-ok (n ∷ ns) = (tt, core-rows-ok ns)

  pub record-frame-ok : Each RowOk record_frame
  unfolding record_frame
  record-frame-ok = core-rows-ok introduced_numbers

  pub import-rows-ok : (f : FrameNo) (is : List ImportedName) → Each RowOk (map (import_row f) is)
  import-rows-ok f [] = tt
  import-rows-ok f (i ∷ is) = (tt, import-rows-ok f is)

-- The body of a library.

module _ (own : LibName) (K : ℕ → Mark → Type 0) (J : ℕ → FrameNo → Type 0) (P : ℕ → LeafContext → Type 0) (lives : Lives own K J P) (first : ℕ) where
  abbrev Any : {A : Type 0} → ℕ → A → Type 0
  Any n x = Unit {0}

  -- what is in a record
  pub record RecordAt (n : ℕ) (r : CompiledLibrary) : Type 0 where
    pub run : LinesHold (P n) r.run
    pub bindings : BindingsHold (P n) r.bindings
    pub frames : Each (λ (f : FrameRow). Each (K n) f.marks) r.frames

  -- Its own bindings.

  kept-holds : (n : ℕ) (o : Option Keyword) → OptionHolds (KeywordHolds (P n)) o → ExpressionHolds (P n) (expression_in o)
  kept-holds n None h = tt
  kept-holds n (Some (keyword.Waiting place)) h = tt
  kept-holds n (Some (keyword.Kept e v)) h = h.0

  completed-holds : (s : State) (l : Label) (b : Binding) → (F own K J P lives first) s → BindingHolds (P s.names.number) (completed s l b)
  completed-holds s l b h = by (has_label s.assigned l) b
    where
      by : (a : Bool) (b : Binding) → BindingHolds (P s.names.number) (with_expression (expression_of l (stage_of s)) (with_assigned a b))
      by a (binding.Variable v) = tt
      by a (binding.PatternVariable level depth) = tt
      by a (binding.Macro level e) = kept-holds s.names.number (keyword_at s.keywords l) (looked_up (KeywordHolds (P s.names.number)) (same_label l) s.keywords h.stage.keywords)
      by a (binding.Core f) = tt
      by a (binding.Primitive op) = tt

  row-at-holds : (s : State) (l : Label) (o : Option Binding) → (F own K J P lives first) s → BindingsHold (P s.names.number) (row_at s l o)
  row-at-holds s l None h = tt
  row-at-holds s l (Some b) h = (completed-holds s l b h, tt)

  below-holds : (s : State) (n : ℕ) → (F own K J P lives first) s → BindingsHold (P s.names.number) (own_below s n)
  below-holds s zero h = tt
  below-holds s (suc n) h =
      each-append (λ (b : Label × Binding). BindingHolds (P s.names.number) b.1) (own_below s n) (own_row s n) (below-holds s n h) (row-at-holds s (own_label s n) (bound_to s.bindings (own_label s n)) h)

  own-holds : (s : State) → (F own K J P lives first) s → BindingsHold (P s.names.number) (own_bindings s)
  unfolding own_bindings
  own-holds s h = below-holds s s.names.number h

  -- Exports.

  stands-for-holds : (place : Span) (external : List ℕ) (id : Tree) (o : Option Label) (s : State) → (F own K J P lives first) s → (Gave own K J P lives first) Any s (stands_for place external id o s)
  stands-for-holds place external id None s h = tt
  stands-for-holds place external id (Some l) s h = ((state-self own K J P lives first) s h, tt)

  export-holds : (at : TopAt) (e : List ℕ × Tree) (s : State) → (F own K J P lives first) s → (Gave own K J P lives first) Any s (export at e s)
  unfolding export
  export-holds at e s h = stands-for-holds at.place e.0 (stamp at.frame e.1) (stands s.frames (stamp at.frame e.1)) s h

  no-leaves : (es : List (List ℕ × Tree)) → Each (λ (e : List ℕ × Tree). Unit {0}) es
  no-leaves [] = tt
  no-leaves (e ∷ es) = (tt, no-leaves es)

  pub exports-hold : (at : TopAt) (es : List (List ℕ × Tree)) (s : State) → (F own K J P lives first) s → (Gave own K J P lives first) Any s (exports at es s)
  unfolding exports
  exports-hold at es s h =
      (gave-after own K J P lives first) (λ n ls. Each (λ (l : ImportedName). Unit {0}) ls) Any s (all_exports at es s) (λ ls s'. after (export_labels ls s') (λ _. give ls))
      ((gave-each own K J P lives first) (λ n e. Unit {0}) (λ n l. Unit {0}) (λ m n le e k. tt) (λ m n le l k. tt) (export at) (λ e t i j. export-holds at e t i) [] es s h tt (no-leaves es))
      (λ ls u i y. let j = (state-self own K J P lives first) u ((state-then own K J P lives first) s u h i) in (record { stage = j.stage; bindings = j.bindings }, tt))

  module _ (go : Inside) (keeps : (KeepsFresh own K J P lives first) go) where
    finished-holds : (at : TopAt) (es : List (List ℕ × Tree)) (d : Taken) (s : State) → (F own K J P lives first) s → (TakenAt own K J P lives first) s.names.number d → (Gave own K J P lives first) RecordAt s (second_pass go at es d s)
    unfolding second_pass
    finished-holds at es d s h k =
        (gave-after own K J P lives first) Any RecordAt s (exports at es s) (λ ls s'. after (finish_all go 0 d.waiting s') (λ lines. give_record at ls lines)) (exports-hold at es s h)
        (λ ls u i y. let hu = (state-then own K J P lives first) s u h i in
        (gave-after own K J P lives first) (λ n xs. Each (LineHolds (P n)) xs) RecordAt u (finish_all go 0 d.waiting u) (λ lines. give_record at ls lines) ((lines-hold own K J P lives first) go keeps 0 d.waiting u hu ((taken-up own K J P lives first) s.names.number u.names.number i.stage.up d k))
        (λ lines v j z. let hv = (state-then own K J P lives first) u v hu j in
        ((state-self own K J P lives first) v hv, record { run = z; bindings = own-holds v hv; frames = rows-in-ok (K v.names.number) v.library v.frames hv.stage.frames })))

    pub top-holds : (at : TopAt) (es : List (List ℕ × Tree)) (forms : List Tree) (s : State) → (F own K J P lives first) s → (Ts own K J P lives first) s.names.number forms → J s.names.number at.frame → (Gave own K J P lives first) RecordAt s (top go at es forms s)
    unfolding top first_pass
    top-holds at es forms s h k q =
        (gave-after own K J P lives first) (TakenAt own K J P lives first) RecordAt s (first_pass go at forms s) (second_pass go at es) ((splice-holds own K J P lives first) go keeps (body_at at s.library) 0 begun (map (stamp at.frame) forms) s h tt (stamps-hold own K J P lives s.names.number at.frame forms q k) q)
        (λ d u i y. finished-holds at es d u ((state-then own K J P lives first) s u h i) y)

-- The law.

module _ (own : LibName) (records : List CompiledLibrary) where
  abbrev L : List LibName
  L = libraries_of records

  abbrev Kn : ℕ → Mark → Type 0
  Kn n m = IsKnown L own n m

  abbrev Jn : ℕ → FrameNo → Type 0
  Jn n f = IsKnownFrame L own n f

  pub own-or : (n : ℕ) (x : Named) → IsKnownName L own n x → Among (own ∷ L) x.library
  own-or n x (inl a) = inr a
  own-or n x (inr p) = inl p.0

  -- so it is of leaves, as Q says it of them
  module _ (Q : (Mark → Type 0) → (FrameNo → Type 0) → LeafContext → Type 0) (lives : Lives own Kn Jn (KnownBy Q L own)) (as-known : (n : ℕ) (c : LeafContext) → HasOnly Q L c → KnownBy Q L own n c) (as-only : (n : ℕ) (c : LeafContext) → KnownBy Q L own n c → HasOnly Q (own ∷ L) c) where
    abbrev Pn : ℕ → LeafContext → Type 0
    Pn n c = KnownBy Q L own n c

    known-marks : (n : ℕ) (ms : List Mark) → Each (IsOfOne L) ms → Each (Kn n) ms
    known-marks n ms h = each-implied (IsOfOne L) (Kn n) (λ m k. inl k) ms h

    own-marks : (n : ℕ) (ms : List Mark) → Each (Kn n) ms → Each (IsOfOne (own ∷ L)) ms
    own-marks n ms h = each-implied (Kn n) (IsOfOne (own ∷ L)) (λ m k. own-or n m.0 k) ms h

    -- what the records before bind, their lines, their rows
    all-bindings : (rs : List CompiledLibrary) → Each (RecordHasOnly Q L) rs → BindingsHold (Pn 1) (bindings_of rs)
    all-bindings [] h = tt
    all-bindings (r ∷ rs) h = each-append (λ (b : Label × Binding). BindingHolds (Pn 1) b.1) r.bindings (bindings_of rs) (bindings-wider (HasOnly Q L) (Pn 1) (as-known 1) r.bindings h.0.bindings) (all-bindings rs h.1)

    all-lines : (rs : List CompiledLibrary) → Each (RecordHasOnly Q L) rs → RecordsHold (Pn 1) rs
    all-lines [] h = tt
    all-lines (r ∷ rs) h = (lines_wider (HasOnly Q L) (Pn 1) (as-known 1) r.run h.0.run, all-lines rs h.1)

    all-rows : (rs : List CompiledLibrary) → Each (RecordHasOnly Q L) rs → Each (λ (f : FrameRow). Each (Kn 1) f.marks) (rows_of rs)
    all-rows [] h = tt
    all-rows (r ∷ rs) h =
        each-append (λ (f : FrameRow). Each (Kn 1) f.marks) r.frames (rows_of rs)
        (each-implied (λ (f : FrameRow). Each (IsOfOne L) f.marks) (λ (f : FrameRow). Each (Kn 1) f.marks) (λ f k. known-marks 1 f.marks k) r.frames h.0.frames) (all-rows rs h.1)

    module _ (imports : List ImportedName) (codes : Codes) (only : Each (RecordHasOnly Q L) records) (texts : CodesHold (HasOnly Q L) codes) where
      start-holds : FreshStateHolds own Kn Pn 1 (started own records imports codes)
      unfolding started
      start-holds = record {
        stage = record {
          up = omega arith;
          library = refl;
          frames = adopted-holds (Kn 1) [] (rows_of records ++ (record_frame ++ map (import_row (first_frame own)) imports)) tt
              (each-append (λ (f : FrameRow). Each (Kn 1) f.marks) (rows_of records) (record_frame ++ map (import_row (first_frame own)) imports) (all-rows records only)
              (each-append (λ (f : FrameRow). Each (Kn 1) f.marks) record_frame (map (import_row (first_frame own)) imports) (record-frame-ok (Kn 1)) (import-rows-ok (Kn 1) (first_frame own) imports)));
          cells = tt;
          codes = codes_wider (HasOnly Q L) (Pn 1) (as-known 1) codes texts;
          globals = tt;
          keywords = tt;
        };
        bindings = all-bindings records only;
      }

      pub start-known : FreshStateHolds own Kn Pn (started own records imports codes).names.number (started own records imports codes) × RecordsHold (Pn (started own records imports codes).names.number) records
      start-known =
          let s = started own records imports codes in
          (state-self own Kn Jn Pn lives 1 s start-holds, records-wider (Pn 1) (Pn s.names.number) (rise own Kn Jn Pn lives 1 s.names.number start-holds.stage.up) records (all-lines records only))

      first-made : Jn (started own records imports codes).names.number (first_frame own)
      unfolding started
      first-made = inr (refl, omega arith)

      read-holds : (n : ℕ) (c : LeafContext) → c ≡ blank → Pn n c
      read-holds n c e = subst (Pn n) (sym e) (rise own Kn Jn Pn lives 0 n (omega arith) blank lives.read)

      forms-hold : (n : ℕ) (ts : List Tree) → Each WasRead ts → Each (TreeHolds (Pn n)) ts
      forms-hold n ts h = each-implied WasRead (TreeHolds (Pn n)) (λ t k. tree_wider (λ c. c ≡ blank) (Pn n) (read-holds n) t k) ts h

      of-record : (r : CompiledLibrary) (q : Result (CompiledLibrary × State) Fault) → Gave own Kn Jn Pn lives 1 (RecordAt own Kn Jn Pn lives 1) (started own records imports codes) q → record_in q ≡ Ok r → RecordHasOnly Q (own ∷ L) r
      of-record r (Err f) h e = absurd (cc)
      of-record r (Ok p) h e =
          let is : p.0 ≡ r = cc in
          let n = p.1.names.number in
          subst (RecordHasOnly Q (own ∷ L)) is (record {
            run = lines_wider (Pn n) (HasOnly Q (own ∷ L)) (as-only n) p.0.run h.1.run;
            bindings = bindings-wider (Pn n) (HasOnly Q (own ∷ L)) (as-only n) p.0.bindings h.1.bindings;
            frames = each-implied (λ (f : FrameRow). Each (Kn n) f.marks) (λ (f : FrameRow). Each (IsOfOne (own ∷ L)) f.marks) (λ f k. own-marks n f.marks k) p.0.frames h.1.frames;
          })

      pub record-law : (body : LibraryBody) (r : CompiledLibrary) → Each WasRead body.forms
          → library_record (ready own records imports codes) records body ≡ Ok r → RecordHasOnly Q (own ∷ L) r
      record-law body r was e =
          of-record r (top (inside records full_room) (top_at (first_frame own) body) body.exports body.forms (started own records imports codes))
          (top-holds own Kn Jn Pn lives 1 (inside records full_room) (inside-keeps own Kn Jn Pn lives 1 records full_room (all-lines records only)) (top_at (first_frame own) body) body.exports body.forms (started own records imports codes) start-holds
          (forms-hold (started own records imports codes).names.number body.forms was) first-made) e

  pub marks-known : (n : ℕ) (c : LeafContext) → HasOnly HasMarks L c → KnownBy HasMarks L own n c
  marks-known n c h = has-wider (IsOfOne L) (Kn n) (IsFrameOfOne L) (Jn n) (λ m k. inl k) (λ f k. inl k) c h

  pub marks-only : (n : ℕ) (c : LeafContext) → KnownBy HasMarks L own n c → HasOnly HasMarks (own ∷ L) c
  marks-only n c h = has-wider (Kn n) (IsOfOne (own ∷ L)) (Jn n) (IsFrameOfOne (own ∷ L)) (λ m k. own-or n m.0 k) (λ f k. own-or n f.0 k) c h

  pub history-known : (n : ℕ) (c : LeafContext) → HasOnly HasHistory L c → KnownBy HasHistory L own n c
  history-known n c h = history-wider (IsOfOne L) (Kn n) (IsFrameOfOne L) (Jn n) (λ m k. inl k) (λ f k. inl k) c h

  pub history-only : (n : ℕ) (c : LeafContext) → KnownBy HasHistory L own n c → HasOnly HasHistory (own ∷ L) c
  history-only n c h = history-wider (Kn n) (IsOfOne (own ∷ L)) (Jn n) (IsFrameOfOne (own ∷ L)) (λ m k. own-or n m.0 k) (λ f k. own-or n f.0 k) c h

  pub events-known : (n : ℕ) (c : LeafContext) → HasOnly HasEvents L c → KnownBy HasEvents L own n c
  events-known n c h = events-wider (IsOfOne L) (Kn n) (IsFrameOfOne L) (Jn n) (λ m k. inl k) (λ f k. inl k) c h

  pub events-only : (n : ℕ) (c : LeafContext) → KnownBy HasEvents L own n c → HasOnly HasEvents (own ∷ L) c
  events-only n c h = events-wider (Kn n) (IsOfOne (own ∷ L)) (Jn n) (IsFrameOfOne (own ∷ L)) (λ m k. own-or n m.0 k) (λ f k. own-or n f.0 k) c h

pub starts-known : StartsAreKnown
starts-known = record {
  leaves = λ own records imports codes only texts. start-known own records HasMarks (lives-known (libraries_of records) own (inl refl)) (marks-known own records) (marks-only own records) imports codes only texts;
  histories = λ own records imports codes only texts. start-known own records HasHistory (lives-on (libraries_of records) own (inl refl)) (history-known own records) (history-only own records) imports codes only texts;
}

pub records-own : RecordsHaveOwnMarks
records-own = record {
  leaves = λ own records imports body codes r new only texts was e.
      record-law own records HasMarks (lives-known (libraries_of records) own (inl refl)) (marks-known own records) (marks-only own records) imports codes only texts body r was e;
  histories = λ own records imports body codes r new only texts was e.
      record-law own records HasHistory (lives-on (libraries_of records) own (inl refl)) (history-known own records) (history-only own records) imports codes only texts body r was e;
}

pub events-stay : EventsStay
events-stay = record {
  around_keeps = around-once;
  inside_keeps = inside-once;
  starts = λ own records imports codes new only texts.
      start-known own records HasEvents (lives-once (libraries_of records) own new (inl refl)) (events-known own records) (events-only own records) imports codes only texts;
  records = λ own records imports body codes r new only texts was e.
      record-law own records HasEvents (lives-once (libraries_of records) own new (inl refl)) (events-known own records) (events-only own records) imports codes only texts body r was e;
}
