-- The references of a library's record.
use Rattle.std.proofs.Common.{◌≡◌, ℕ, zero, suc, List, [], ◌∷◌, ◌++◌, map, Option, None, Some, Result, Ok, Err, refl, sym, ap, ◌∙◌, subst, arith, inl, inr}
use Rattle.std.specs.Prelude.{◌⊎◌}
use Rattle.base_data.proofs.ElementLemmas.{each-append, each-implied}
use Rattle.base_data.specs.Act.{after, give, each}
use Rattle.base_data.specs.Elements.{Among, Each}
use Rattle.base_data.specs.declared.fault.Fault.{Fault}
use Rattle.base_data.specs.declared.imported_name.ImportedName.{ImportedName}
use Rattle.base_data.specs.declared.library.LibName.{LibName}
use Rattle.base_data.specs.declared.library.LibName.TheVariants as library
use Rattle.base_data.specs.declared.name.FrameNo.{FrameNo}
use Rattle.base_data.specs.declared.name.Label.{Label}
use Rattle.base_data.specs.declared.name.Mark.{Mark}
use Rattle.stx_tree.specs.Changes.{stamp}
use Rattle.stx_tree.specs.Context.{LeafContext, blank}
use Rattle.stx_tree.specs.Leaves.{stamps_of}
use Rattle.stx_tree.specs.Tree.{Tree, atom, leaf, pair, vector}
use Rattle.stx_tree.specs.declared.stamp.Stamp.{Stamp}
use Rattle.stx_frames.specs.Rows.{Row}
use Rattle.stx_frames.specs.Scope.{Scope}
use Rattle.stx_scope.specs.Stands.{stands}
use Rattle.core_language.specs.Bindings.{bound_to}
use Rattle.core_language.specs.Core.{PlainCore}
use Rattle.core_language.specs.declared.binding.Binding.{Binding}
use Rattle.core_language.specs.declared.binding.Binding.TheVariants as binding
use Rattle.core_language.specs.declared.record.CompiledLibrary.{CompiledLibrary}
use Rattle.eval_code.specs.Codes.{Codes}
use Rattle.expand_standing.specs.Start.{started, first_frame}
use Rattle.eval_stage.specs.Stage.{expression_of}
use Rattle.expand_standing.specs.Own.{labels_with, export_labels, completed, row_at, own_label, own_row, own_below, own_bindings}
use Rattle.expand_standing.specs.State.{State, stage_of}
use Rattle.expand_heads.specs.Items.{begun}
use Rattle.expand_heads.specs.declared.taken.BodyAt.{BodyAt}
use Rattle.expand_heads.specs.declared.taken.Taken.{Taken}
use Rattle.law_hygiene.specs.Binder.{Captures, IsRowAt}
use Rattle.law_hygiene.proofs.Rowing.{by_a_stamp}
use Rattle.expand_forms.specs.Body.{splice, finish_all}
use Rattle.expand_forms.specs.Expression.{inside, full_room}
use Rattle.expand_forms.specs.Inside.{Inside}
use Rattle.expand_forms.specs.Top.{stands_for, export, all_exports, give_record, record_in, body_at, exports, first_pass, second_pass, top, top_at}
use Rattle.expand_forms.specs.declared.top.TopAt.{TopAt}
use Rattle.law_expand.proofs.Acts.{Gave, gave-both, gave-after, gave-each, told, each-nil, each-cons}
use Rattle.law_expand.specs.Kept.{IsKeptWith}
use Rattle.law_expand.proofs.SpentOnStage.{Tells}
use Rattle.law_fresh.specs.Leaves.{TreeHolds}
use Rattle.law_fresh.proofs.Wider.{tree_wider}
use Rattle.law_fresh_expansion.specs.Events.{HasKnownEvents}
use Rattle.law_fresh_expansion.specs.Forms.{TakenHolds}
use Rattle.law_fresh_expansion.specs.Known.{IsKnown, IsKnownFrame, libraries_of, IsNewAmong}
use Rattle.law_fresh_expansion.specs.Living.{Lives}
use Rattle.law_fresh_expansion.specs.RecordMarks.{WasRead}
use Rattle.law_fresh_expansion.specs.States.{RecordsHold, FreshStateHolds}
use Rattle.law_fresh_expansion.proofs.Changing.{stamp-holds, stamps-hold}
use Rattle.law_fresh_expansion.proofs.Forms as forms
use Rattle.law_fresh_expansion.proofs.Items as items
use Rattle.law_fresh_expansion.proofs.Recorded.{exports-hold, events-stay}
use Rattle.law_fresh_expansion.proofs.Standing as standing
use Rattle.core_language.specs.declared.record.Line.{Line}
use Rattle.core_language.specs.declared.record.Line.TheVariants as line
use Rattle.law_references.specs.Namings.{Naming}
use Rattle.law_references.specs.Noted.{Reference, KeywordExpression, NotedLine, of_lines, mentioned, named, IsExpression}
use Rattle.law_references.specs.Records.{line_mentions, line_namings, IsRightLine, IsBoundTo, IsRightExport, AreRightExports, RunIsRight, RecordsAreHygienic}
use Rattle.law_references.specs.Whole.{KeepsOnly}
use Rattle.law_references.proofs.Naming.{mentions-named}
use Rattle.law_references.proofs.Performing.{leaf-stands, all-traced}
use Rattle.law_references.proofs.Staying as staying
use Rattle.law_references.proofs.Telling.{Untold, told-self, told-then, then-told}
use Rattle.law_references.proofs.Walking as walking
use Rattle.law_references.proofs.Wholly.{captured-so, all-right, all-expressions}

-- a leaf as it is read
pub read-at : (libs : List LibName) (own : LibName) (core : Among libs library.Core) (new : IsNewAmong libs own) (n : ℕ) (c : LeafContext) → c ≡ blank → HasKnownEvents libs own n c
read-at libs own core new n c e =
    let alive = staying.lives libs own core new in
    subst (HasKnownEvents libs own n) (sym e) (alive.rises.later 0 n blank (omega arith) alive.read)

-- an identifier that was read has no marks, and neither has its binder
read-unmarked : (fs : Scope) (t : Tree) (f : FrameNo) (r : Row) → WasRead t → Captures fs r (stamp f t) → r.marks ≡ []
read-unmarked fs (atom p a) f r h is = absurd (cc)
read-unmarked fs (leaf p x c) f r h is = by (by_a_stamp fs x (stamps_of (stamp f (leaf p x c))) r is)
  where
    by : (t : Stamp) × Among (stamps_of (stamp f (leaf p x c))) t × IsRowAt fs r x t → r.marks ≡ []
    by k = k.2.marks ∙ none k.0 (subst (λ (d : LeafContext). Among (stamps_of (stamp f (leaf p x d))) k.0) h k.1)
      where
        none : (t : Stamp) → Among (record { frame = f; marks = [] } ∷ []) t → t.marks ≡ []
        none t (inl e) = ap (λ (y : Stamp). y.marks) e
        none t (inr a) = absurd a
read-unmarked fs (pair p a d) f r h is = absurd (cc)
read-unmarked fs (vector p d) f r h is = absurd (cc)

-- what a line names
line-named : (l : Line) (ns : List Naming) → walking.line-said l ≡ ns → line_namings l ≡ ns
line-named (line.Define l c) ns e = e
line-named (line.Expr c) ns e = e

line-mentioned : (l : Line) (refs : List Reference) → walking.line-said l ≡ named refs → line_mentions l ≡ mentioned refs
line-mentioned (line.Define l c) refs e = mentions-named c refs e
line-mentioned (line.Expr c) refs e = mentions-named c refs e

-- no expression of a keyword is kept
abbrev KeepsNone : State → Type 0
KeepsNone s = (l : Label) (c : PlainCore) → IsKeptWith s.keywords l c → ⊥

-- what was kept before an action that keeps no more
before : (v w : State) (es : List KeywordExpression) → Tells v.keywords w.keywords → (l : Label) (c : PlainCore) → IsKeptWith w.keywords l c ⊎ IsExpression es l c → IsKeptWith v.keywords l c ⊎ IsExpression es l c
before v w es h l c (inl k) = inl (h l c k)
before v w es h l c (inr a) = inr a

-- The bindings of a record have the expressions that are kept in the last state.
module _ (es : List KeywordExpression) (s u : State) (none : KeepsNone s) (kept : KeepsOnly es s u) where
  abbrev Has : Label × Binding → Type 0
  Has b = IsBoundTo es b.0 b.1

  only-new : (l : Label) (c : PlainCore) → IsKeptWith s.keywords l c ⊎ IsExpression es l c → IsExpression es l c
  only-new l c (inl k) = absurd (none l c k)
  only-new l c (inr a) = a

  macro-kept : (l : Label) (level : ℕ) (o : Option PlainCore) → expression_of l (stage_of u) ≡ o → IsBoundTo es l (binding.Macro level o)
  macro-kept l level None e = tt
  macro-kept l level (Some c) e = only-new l c (kept l c e)

  binding-kept : (l : Label) (b : Binding) → IsBoundTo es l (completed u l b)
  binding-kept l (binding.Variable v) = tt
  binding-kept l (binding.PatternVariable level depth) = tt
  binding-kept l (binding.Macro level e) = macro-kept l level (expression_of l (stage_of u)) refl
  binding-kept l (binding.Core f) = tt
  binding-kept l (binding.Primitive op) = tt

  row-kept : (l : Label) (o : Option Binding) → Each Has (row_at u l o)
  row-kept l None = tt
  row-kept l (Some b) = (binding-kept l b, tt)

  below-kept : (n : ℕ) → Each Has (own_below u n)
  below-kept zero = tt
  below-kept (suc n) = each-append Has (own_below u n) (own_row u n) (below-kept n) (row-kept (own_label u n) (bound_to u.bindings (own_label u n)))

  bindings-kept : Each Has (own_bindings u)
  unfolding own_bindings
  bindings-kept = below-kept u.names.number

-- the exports keep no more
exports-told : (at : TopAt) (es : List (List ℕ × Tree)) (s : State) → Gave (Untold s) (exports at es s)
unfolding exports export
exports-told at es s =
    then-told s (all_exports at es s) (λ ls s'. after (export_labels ls s') (λ _. give ls))
    (gave-each (export at) (λ e t x u. Untold t x u) (λ xs t ys u. Untold t ys u) (λ t. Unit {0}) (λ t k. told-self t) (λ e t k. by e t (stands t.frames (stamp at.frame e.1))) (λ e t u x k h. tt) (λ e xs t u v x ys k h j. told-then t u v h j) es s tt)
    (λ ls v. told-self v)
  where
    by : (e : List ℕ × Tree) (t : State) (o : Option Label) → Gave (Untold t) (stands_for at.place e.0 (stamp at.frame e.1) o t)
    by e t None = tt
    by e t (Some l) = told-self t

module _ (libs : List LibName) (own : LibName) (core : Among libs library.Core) (new : IsNewAmong libs own) where
  abbrev K : ℕ → Mark → Type 0
  K n m = IsKnown libs own n m

  abbrev J : ℕ → FrameNo → Type 0
  J n f = IsKnownFrame libs own n f

  abbrev P : ℕ → LeafContext → Type 0
  P n c = HasKnownEvents libs own n c

  abbrev lives : Lives own K J P
  lives = staying.lives libs own core new

  line-right : (u : State) (x : NotedLine) → walking.TellsLine libs own core new u x → IsRightLine libs own u x
  line-right u x h = record { all = line-named x.line (named x.noted.references) h.0; mentions = line-mentioned x.line x.noted.references h.0; right = all-right libs own core new u x.noted.references h.1 }

  abbrev KeptExpression : KeywordExpression → Type 0
  KeptExpression e = staying.KeptExpression libs own core new e

  module _ (records : List CompiledLibrary) (first : ℕ) (held : RecordsHold (P first) records) (at : TopAt) (es : List (List ℕ × Tree)) (fs : List Tree) (s : State) where
    abbrev go : Inside
    go = inside records full_room

    abbrev Right : CompiledLibrary → State → Type 0
    Right r u = RunIsRight libs own records s at es fs r

    abbrev here : BodyAt
    here = body_at at s.library

    -- An export is the label of the binder that captures its identifier.

    abbrev RightExports : State → State → List (List ℕ × Tree) → List ImportedName → Type 0
    RightExports v u es ls = AreRightExports libs own v u at.frame es ls

    abbrev Looked : State → List (List ℕ × Tree) → List ImportedName → Type 0
    Looked v [] [] = Unit {0}
    Looked v (e ∷ es) (x ∷ xs) = ((x.name ≡ e.0) × (stands v.frames (stamp at.frame e.1) ≡ Some x.label)) × Looked v es xs
    Looked v [] (x ∷ xs) = ⊥
    Looked v (e ∷ es) [] = ⊥

    -- from the exports on
    abbrev Since : State → List Label → State → Type 0
    Since v xs u = staying.Went libs own core new (record v { exports = xs }) u

    export-right : (v u : State) (xs : List Label) → J v.names.number at.frame → Since v xs u → (e : List ℕ × Tree) (x : ImportedName) → WasRead e.1 → x.name ≡ e.0 → stands v.frames (stamp at.frame e.1) ≡ Some x.label
        → IsRightExport libs own v u at.frame e x
    export-right v u xs q w e x read name stood =
        let n = v.names.number in
        let known = stamp-holds own K J P lives n at.frame e.1 q (tree_wider (λ c. c ≡ blank) (P n) (read-at libs own core new n) e.1 read) in
        let now = staying.stays libs own core new n (record v { exports = xs }) u (omega arith) w.later (stamp at.frame e.1) known ∙ stood in
        let captured = captured-so libs own core new n u (stamp at.frame e.1) x.label (leaf-stands (stamp at.frame e.1) v x.label stood) known now in
        record { name = name; stood = stood; captured = captured; unmarked = read-unmarked u.frames e.1 at.frame captured.row read captured.captures }

    exports-right : (v u : State) (xs : List Label) → J v.names.number at.frame → Since v xs u → (es : List (List ℕ × Tree)) (ls : List ImportedName) → Each (λ (e : List ℕ × Tree). WasRead e.1) es → Looked v es ls → RightExports v u es ls
    exports-right v u xs q w [] [] read h = tt
    exports-right v u xs q w (e ∷ es) (x ∷ ls) read h = (export-right v u xs q w e x read.0 h.0.0 h.0.1, exports-right v u xs q w es ls read.1 h.1)
    exports-right v u xs q w [] (x ∷ ls) read h = h
    exports-right v u xs q w (e ∷ es) [] read h = h

    exports-looked : (es : List (List ℕ × Tree)) (v : State) → Gave (λ ls w. Looked v es ls × (w ≡ record v { exports = w.exports })) (exports at es v)
    unfolding exports export
    exports-looked es v =
        gave-after (λ ls w. Looked v es ls × (w ≡ v)) (λ ls w. Looked v es ls × (w ≡ record v { exports = w.exports })) (all_exports at es v) (λ ls w. after (export_labels ls w) (λ _. give ls)) (all-looked es v)
        (λ ls w k. (k.0, ap (λ (y : State). record y { exports = labels_with [] ls }) k.1))
      where
        looked-one : (e : List ℕ × Tree) (v : State) → Gave (λ x w. ((x.name ≡ e.0) × (stands v.frames (stamp at.frame e.1) ≡ Some x.label)) × (w ≡ v)) (export at e v)
        looked-one e v = by (stands v.frames (stamp at.frame e.1)) refl
          where
            by : (o : Option Label) → stands v.frames (stamp at.frame e.1) ≡ o → Gave (λ x w. ((x.name ≡ e.0) × (stands v.frames (stamp at.frame e.1) ≡ Some x.label)) × (w ≡ v)) (stands_for at.place e.0 (stamp at.frame e.1) o v)
            by None h = tt
            by (Some l) h = ((refl, h), refl)

        all-looked : (es : List (List ℕ × Tree)) (v : State) → Gave (λ ls w. Looked v es ls × (w ≡ v)) (all_exports at es v)
        all-looked [] v = subst (λ (r : Result (List ImportedName × State) Fault). Gave (λ ls w. Looked v [] ls × (w ≡ v)) r) (sym (each-nil (export at) v)) (tt, refl)
        all-looked (e ∷ es) v =
            subst (λ (r : Result (List ImportedName × State) Fault). Gave (λ ls w. Looked v (e ∷ es) ls × (w ≡ v)) r) (sym (each-cons (export at) e es v))
            (gave-after (λ x w. ((x.name ≡ e.0) × (stands v.frames (stamp at.frame e.1) ≡ Some x.label)) × (w ≡ v)) (λ ls w. Looked v (e ∷ es) ls × (w ≡ v)) (export at e v) (λ a t. after (each (export at) [] es t) (λ ys. give (a ∷ ys))) (looked-one e v)
            (λ x w k. gave-after (λ ls y. Looked v es ls × (y ≡ v)) (λ ls y. Looked v (e ∷ es) ls × (y ≡ v)) (all_exports at es w) (λ ys. give (x ∷ ys))
            (subst (λ (y : State). Gave (λ ls z. Looked v es ls × (z ≡ v)) (all_exports at es y)) (sym k.1) (all-looked es v)) (λ ls y j. ((k.0, j.0), j.1))))

    -- the first pass, and what it kept of keywords
    abbrev Took : Taken → State → Type 0
    Took d v = walking.TakeMade libs own core new records here 0 begun (map (stamp at.frame) fs) s d v

    finished-right : (d : Taken) (v : State) → J v.names.number at.frame → Each (λ (e : List ℕ × Tree). WasRead e.1) es → FreshStateHolds own K P first v → TakenHolds (P v.names.number) d → first_pass go at fs s ≡ Ok (d, v) → Took d v → KeepsNone s → Gave Right (second_pass go at es d v)
    unfolding second_pass
    finished-right d v q read h k e took none =
        gave-after (λ ls w. ((FreshStateHolds own K P v.names.number w × Unit {0}) × (exports at es v ≡ Ok (ls, w))) × (Looked v es ls × (w ≡ record v { exports = w.exports }))) Right (exports at es v) _
        (gave-both (λ ls w. (FreshStateHolds own K P v.names.number w × Unit {0}) × (exports at es v ≡ Ok (ls, w))) (λ ls w. Looked v es ls × (w ≡ record v { exports = w.exports })) (exports at es v)
        (staying.gave-from libs own core new first (λ n ls. Unit {0}) v (exports at es v) (exports-hold own K J P lives first at es v h)) (exports-looked es v))
        (λ ls w y.
        let hw = standing.state-then own K J P lives first v w h y.0.0.0 in
        gave-after (λ xs u. staying.Went libs own core new w u × walking.LinesMade libs own core new records 0 d.waiting w xs u) Right (finish_all go 0 d.waiting w) (λ xs. give_record at ls xs)
        (walking.lines-made libs own core new records first held full_room (all-traced libs own core new records first held full_room) 0 d.waiting w hw (items.waiting-up own K J P lives first v.names.number w.names.number y.0.0.0.stage.up d.waiting k))
        (λ xs u z.
        let bound = took.expressions in
        let others = of_lines z.1.told in
        let tells = told (Untold v) (exports at es v) ls w (exports-told at es v) y.0.1 in
        let kept = staying.only-joined libs own core new bound others s v u took.told (λ l c q. before v w others tells l c (z.1.kept l c q)) in
        record {
          taken = d;
          first = v;
          bound = bound;
          exported = ls;
          between = w;
          told = z.1.told;
          last = u;
          takes = e;
          taking = took.is;
          looks = y.0.1;
          ends = z.1.ends;
          run = z.1.lines;
          frames = refl;
          right = each-implied (walking.TellsLine libs own core new u) (IsRightLine libs own u) (line-right u) z.1.told z.1.right;
          expressions = all-expressions libs own core new (bound ++ others) (each-append KeptExpression bound others took.kept z.1.expressions);
          keywords = bindings-kept (bound ++ others) s u none kept;
          exports_are = refl;
          exports_right = exports-right v u w.exports q (subst (λ (x : State). staying.Went libs own core new x u) y.1.1 z.0) es ls read y.1.0;
        }))

    pub top-right : FreshStateHolds own K P first s → Each (TreeHolds (P s.names.number)) fs → J s.names.number at.frame → Each (λ (e : List ℕ × Tree). WasRead e.1) es → KeepsNone s → Gave Right (top go at es fs s)
    unfolding top first_pass
    top-right h k q read none =
        let stamped = map (stamp at.frame) fs in
        let all = stamps-hold own K J P lives s.names.number at.frame fs q k in
        let pass = splice go here 0 begun stamped s in
        gave-after (λ d v. ((FreshStateHolds own K P s.names.number v × TakenHolds (P v.names.number) d) × (pass ≡ Ok (d, v))) × Took d v) Right pass (second_pass go at es)
        (gave-both (λ d v. (FreshStateHolds own K P s.names.number v × TakenHolds (P v.names.number) d) × (pass ≡ Ok (d, v))) Took pass
        (staying.gave-from libs own core new first (λ n d. TakenHolds (P n) d) s pass (forms.splice-holds own K J P lives first go (walking.keeps libs own core new records first held full_room) here 0 begun stamped s h tt all q))
        (walking.take-made libs own core new records first held full_room (all-traced libs own core new records first held full_room) here 0 begun stamped s h tt all q))
        (λ d v z. finished-right d v (lives.frames s.names.number v.names.number at.frame z.0.0.0.stage.up q) read (standing.state-then own K J P lives first s v h z.0.0.0) z.0.0.1 z.0.1 z.1 none)

-- what is given of a record
given : (P : CompiledLibrary → Type 0) (q : Result (CompiledLibrary × State) Fault) (r : CompiledLibrary) → Gave (λ x u. P x) q → record_in q ≡ Ok r → P r
given P (Ok p) r h e = let same : p.0 ≡ r = cc in subst P same h
given P (Err f) r h e = absurd (cc)

-- nothing is kept at first
kept-first : (own : LibName) (records : List CompiledLibrary) (imports : List ImportedName) (codes : Codes) → KeepsNone (started own records imports codes)
unfolding started
kept-first own records imports codes l c e = absurd (cc)

pub first-made : (own : LibName) (records : List CompiledLibrary) (imports : List ImportedName) (codes : Codes) → IsKnownFrame (libraries_of records) own (started own records imports codes).names.number (first_frame own)
unfolding started
first-made own records imports codes = inr (refl, omega arith)

pub records-hygienic : RecordsAreHygienic
records-hygienic own records imports body codes r new only texts was read e =
    let libs = libraries_of records in
    let s = started own records imports codes in
    let at = top_at (first_frame own) body in
    let starts = events-stay.starts own records imports codes new only texts in
    let n = s.names.number in
    given (RunIsRight libs own records s at body.exports body.forms) (top (inside records full_room) at body.exports body.forms s) r
    (top-right libs own (inl refl) new records n starts.1 at body.exports body.forms s starts.0
    (each-implied WasRead (TreeHolds (HasKnownEvents libs own n)) (λ t k. tree_wider (λ c. c ≡ blank) (HasKnownEvents libs own n) (read-at libs own (inl refl) new n) t k) body.forms was) (first-made own records imports codes) read (kept-first own records imports codes)) e
