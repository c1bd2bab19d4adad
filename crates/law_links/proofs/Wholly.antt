-- The links of a library.
use Rattle.std.proofs.Common.{◌≡◌, ℕ, ◌+◌, Bool, true, false, if◌then◌else◌, List, [], ◌∷◌, ◌++◌, map, Option, None, Some, Result, Ok, Err, refl, sym, ap, ◌∙◌, subst, inl, append-nil}
use Rattle.base_data.proofs.ElementLemmas.{each-append, each-implied}
use Rattle.base_data.specs.Act.{after, give}
use Rattle.base_data.specs.Elements.{Among, Each}
use Rattle.base_data.specs.declared.fault.Bare.{Bare}
use Rattle.base_data.specs.declared.fault.Fault.{Fault}
use Rattle.base_data.specs.declared.fault.FaultKind.TheVariants as kind
use Rattle.base_data.specs.declared.imported_name.ImportedName.{ImportedName}
use Rattle.base_data.specs.declared.library.LibName.{LibName}
use Rattle.base_data.specs.declared.library.LibName.TheVariants as library
use Rattle.base_data.specs.declared.name.FrameNo.{FrameNo}
use Rattle.base_data.specs.declared.name.Label.{Label}
use Rattle.base_data.specs.declared.name.Mark.{Mark}
use Rattle.base_data.specs.declared.span.Span.{Span}
use Rattle.stx_tree.specs.Changes.{stamp}
use Rattle.stx_tree.specs.Context.{LeafContext, blank}
use Rattle.stx_tree.specs.Tree.{Tree, span_of}
use Rattle.stx_frames.specs.Scope.{Scope, bound}
use Rattle.stx_scope.specs.Stands.{row_for, stands}
use Rattle.core_language.specs.declared.binding.Binding.TheVariants as binding
use Rattle.core_language.specs.declared.link.Link.{Link}
use Rattle.core_language.specs.declared.link.LinkKind.TheVariants as kinds
use Rattle.core_language.specs.declared.record.CompiledLibrary.{CompiledLibrary}
use Rattle.eval_code.specs.Codes.{Codes}
use Rattle.core_shapes.specs.Lists.{is_leaf}
use Rattle.expand_standing.specs.InScope.{with_local}
use Rattle.expand_standing.specs.Binders.{next_index, row_put, put_variable, variable_for, bind_as, bind_variable}
use Rattle.expand_standing.specs.Own.{export_labels}
use Rattle.expand_standing.specs.Start.{started, first_frame}
use Rattle.expand_standing.specs.State.{State, noted, note, fresh, fault_form}
use Rattle.expand_heads.specs.Items.{begun}
use Rattle.expand_heads.specs.declared.taken.BodyAt.{BodyAt}
use Rattle.expand_heads.specs.declared.taken.Taken.{Taken}
use Rattle.expand_forms.specs.Body.{splice, finish_all}
use Rattle.expand_forms.specs.Expression.{inside, full_room}
use Rattle.expand_forms.specs.Inside.{Inside}
use Rattle.expand_forms.specs.Top.{stands_for, export, all_exports, give_record, linked_in, body_at, exports, first_pass, second_pass, top, top_at}
use Rattle.expand_forms.specs.declared.top.Linked.{Linked}
use Rattle.expand_forms.specs.declared.top.TopAt.{TopAt}
use Rattle.law_expand.proofs.Acts.{Gave, gave-both, gave-after, told}
use Rattle.law_fresh.specs.Leaves.{TreeHolds}
use Rattle.law_fresh.proofs.Wider.{tree_wider}
use Rattle.law_fresh_expansion.specs.Events.{HasKnownEvents}
use Rattle.law_fresh_expansion.specs.Forms.{TakenHolds}
use Rattle.law_fresh_expansion.specs.Known.{IsKnown, IsKnownFrame, libraries_of, IsNewAmong}
use Rattle.law_fresh_expansion.specs.Living.{Lives}
use Rattle.law_fresh_expansion.specs.RecordMarks.{WasRead}
use Rattle.law_fresh_expansion.specs.States.{RecordsHold, FreshStateHolds}
use Rattle.law_fresh_expansion.proofs.Changing.{stamps-hold}
use Rattle.law_fresh_expansion.proofs.Forms as forms
use Rattle.law_fresh_expansion.proofs.Items as items
use Rattle.law_fresh_expansion.proofs.Recorded.{exports-hold, events-stay}
use Rattle.law_fresh_expansion.proofs.Standing as standing
use Rattle.law_references.specs.Noted.{KeywordExpression, of_lines}
use Rattle.law_references.proofs.Performing.{all-traced}
use Rattle.law_references.proofs.Staying as staying
use Rattle.law_references.proofs.Walking as walking
use Rattle.law_references.proofs.Recording.{read-at, first-made}
use Rattle.law_links.specs.Links.{link_to, IsLink, AreLinked}
use Rattle.law_links.specs.Whole.{BindersAreLinked, RunIsLinked, LinksAreOfIdentifiers}
use Rattle.law_links.proofs.Grown.{grows-same, grows-then, Grew, grew-after, grew-each, grew-given, expressions-later}
use Rattle.law_links.proofs.Walking as links

-- Binders.

noted-is : (o : Option Span) (l : Label) (s w : State) (p : Span) → o ≡ Some p → w.links ≡ s.links → (noted o l kinds.Bind w).links ≡ s.links ++ link_to p l kinds.Bind ∷ []
noted-is None l s w p e k = absurd (cc)
noted-is (Some q) l s w p e k =
    let same : q ≡ p = cc in
    λ i. k i ++ link_to (same i) l kinds.Bind ∷ []

module _ (f : FrameNo) (place : Span) (level : ℕ) (top : Bool) (id : Tree) (s : State) (p : Span) (e : span_of id ≡ Some p) where
  abbrev named : State
  named = record s { names = record { library = s.names.library; number = s.names.number + 1 } }

  abbrev label : Label
  label = record { 0 = s.names }

  abbrev Linked-by : Label → State → Type 0
  Linked-by l u = u.links ≡ s.links ++ link_to p l kinds.Bind ∷ []

  bound-so : (r : Result Scope Bare) → Gave Linked-by (after (row_put id place named r) (λ _ t. after (put_variable label (variable_for id level top named.index) t) (λ _. note label (span_of id) label kinds.Bind)))
  bound-so (Err b) = tt
  bound-so (Ok fs) =
      let t : State = record named { frames = fs } in
      let v = variable_for id level top named.index in
      let u : State = record t { bindings = t.bindings ++ (label, binding.Variable v) ∷ []; index = next_index v.level t.index; scope = with_local v.top label t.scope } in
      noted-is (span_of id) label s u p e refl

  leaf-so : (b : Bool) (r : Result (Label × State) Fault) (q : Result (Label × State) Fault) → Gave Linked-by r → Gave Linked-by q → Gave Linked-by (if b then r else q)
  leaf-so true r q h k = h
  leaf-so false r q h k = k

  binder-so : Gave Linked-by (bind_variable f place level top id s)
  unfolding bind_variable fresh
  binder-so = leaf-so (is_leaf id) (bind_as f place level id top s.names named) (fault_form kind.BadForm id place s) (bound-so (bound named.frames f (row_for id label))) tt

pub binders-linked : BindersAreLinked
binders-linked f place level top id s u l p h e =
    told (λ l u. u.links ≡ s.links ++ link_to p l kinds.Bind ∷ []) (bind_variable f place level top id s) l u (binder-so f place level top id s p e) h

-- Exports have none.

export-grew : (at : TopAt) (e : List ℕ × Tree) (s : State) → Grew s (export at e s)
unfolding export
export-grew at e s = by (stands s.frames (stamp at.frame e.1))
  where
    by : (o : Option Label) → Grew s (stands_for at.place e.0 (stamp at.frame e.1) o s)
    by None = tt
    by (Some l) = grows-same s s refl

exports-grew : (at : TopAt) (es : List (List ℕ × Tree)) (s : State) → Grew s (exports at es s)
unfolding exports
exports-grew at es s = grew-after s (all_exports at es s) (λ ls t. after (export_labels ls t) (λ _. give ls)) (grew-each (export at) (λ e t. export-grew at e t) [] es s) (λ ls t. record { new = []; are = sym (append-nil t.links); all = tt })

-- The record of a library, and the state that is left.

module _ (libs : List LibName) (own : LibName) (core : Among libs library.Core) (new : IsNewAmong libs own) where
  abbrev K : ℕ → Mark → Type 0
  K n m = IsKnown libs own n m

  abbrev J : ℕ → FrameNo → Type 0
  J n f = IsKnownFrame libs own n f

  abbrev P : ℕ → LeafContext → Type 0
  P n c = HasKnownEvents libs own n c

  abbrev lives : Lives own K J P
  lives = staying.lives libs own core new

  module _ (records : List CompiledLibrary) (first : ℕ) (held : RecordsHold (P first) records) (at : TopAt) (es : List (List ℕ × Tree)) (fs : List Tree) (s : State) (empty : s.links ≡ []) where
    abbrev go : Inside
    go = inside records full_room

    abbrev here : BodyAt
    here = body_at at s.library

    abbrev Right : CompiledLibrary → State → Type 0
    Right r u = RunIsLinked records s at es fs (record { library = r; links = u.links })

    abbrev Took : Taken → State → Type 0
    Took d v = walking.TakeMade libs own core new records here 0 begun (map (stamp at.frame) fs) s d v

    finished-so : (d : Taken) (v : State) → FreshStateHolds own K P first v → TakenHolds (P v.names.number) d → Took d v → Gave Right (second_pass go at es d v)
    unfolding second_pass
    finished-so d v h k took =
        gave-after (λ ls w. (FreshStateHolds own K P v.names.number w × Unit {0}) × (exports at es v ≡ Ok (ls, w))) Right (exports at es v) _
        (staying.gave-from libs own core new first (λ n ls. Unit {0}) v (exports at es v) (exports-hold own K J P lives first at es v h))
        (λ ls w y.
        let hw = standing.state-then own K J P lives first v w h y.0.0 in
        gave-after (λ xs u. staying.Went libs own core new w u × walking.LinesMade libs own core new records 0 d.waiting w xs u) Right (finish_all go 0 d.waiting w) (λ xs. give_record at ls xs)
        (walking.lines-made libs own core new records first held full_room (all-traced libs own core new records first held full_room) 0 d.waiting w hw (items.waiting-up own K J P lives first v.names.number w.names.number y.0.0.stage.up d.waiting k))
        (λ xs u z.
        let a = links.take-kept records took.is in
        let b = grew-given v y.1 (exports-grew at es v) in
        let c = links.finish-went records z.1.ends in
        let all = grows-then s w u (grows-then s v w a.grows b) c.grows in
        let from = grows-then v w u b c.grows in
        record {
          taken = d;
          first = v;
          bound = took.expressions;
          exported = ls;
          between = w;
          told = z.1.told;
          last = u;
          taking = took.is;
          looks = y.1;
          ends = z.1.ends;
          run = z.1.lines;
          are = subst (λ (ls : List Link). Each IsLink ls) (sym (all.are ∙ ap (λ (ls : List Link). ls ++ all.new) empty)) all.all;
          lines_linked = c.lines;
          expressions_linked = each-append (λ (e : KeywordExpression). AreLinked u.links e.references) took.expressions (of_lines z.1.told) (expressions-later v u from took.expressions a.linked) c.expressions;
        }))

    pub top-so : FreshStateHolds own K P first s → Each (TreeHolds (P s.names.number)) fs → J s.names.number at.frame → Gave Right (top go at es fs s)
    unfolding top first_pass
    top-so h k q =
        let stamped = map (stamp at.frame) fs in
        let all = stamps-hold own K J P lives s.names.number at.frame fs q k in
        let pass = splice go here 0 begun stamped s in
        gave-after (λ d v. ((FreshStateHolds own K P s.names.number v × TakenHolds (P v.names.number) d) × (pass ≡ Ok (d, v))) × Took d v) Right pass (second_pass go at es)
        (gave-both (λ d v. (FreshStateHolds own K P s.names.number v × TakenHolds (P v.names.number) d) × (pass ≡ Ok (d, v))) Took pass
        (staying.gave-from libs own core new first (λ n d. TakenHolds (P n) d) s pass (forms.splice-holds own K J P lives first go (walking.keeps libs own core new records first held full_room) here 0 begun stamped s h tt all q))
        (walking.take-made libs own core new records first held full_room (all-traced libs own core new records first held full_room) here 0 begun stamped s h tt all q))
        (λ d v z. finished-so d v (standing.state-then own K J P lives first s v h z.0.0.0) z.0.0.1 z.1)

-- what is given of a record and its links
given : (P : Linked → Type 0) (q : Result (CompiledLibrary × State) Fault) (l : Linked) → Gave (λ r u. P (record { library = r; links = u.links })) q → linked_in q ≡ Ok l → P l
given P (Ok p) l h e = let same : ◌≡◌ {A = Linked} (record { library = p.0; links = p.1.links }) l = cc in subst P same h
given P (Err f) l h e = absurd (cc)

first-links : (own : LibName) (records : List CompiledLibrary) (imports : List ImportedName) (codes : Codes) → (started own records imports codes).links ≡ []
unfolding started
first-links own records imports codes = refl

pub links-of-identifiers : LinksAreOfIdentifiers
links-of-identifiers own records imports body codes l new only texts was read e =
    let libs = libraries_of records in
    let s = started own records imports codes in
    let at = top_at (first_frame own) body in
    let starts = events-stay.starts own records imports codes new only texts in
    let n = s.names.number in
    given (RunIsLinked records s at body.exports body.forms) (top (inside records full_room) at body.exports body.forms s) l
    (top-so libs own (inl refl) new records n starts.1 at body.exports body.forms s (first-links own records imports codes) starts.0
    (each-implied WasRead (TreeHolds (HasKnownEvents libs own n)) (λ t k. tree_wider (λ c. c ≡ blank) (HasKnownEvents libs own n) (read-at libs own (inl refl) new n) t k) body.forms was) (first-made own records imports codes)) e
