-- What a use gives has leaves of its form, and others with its mark.
use Rattle.std.proofs.Common.{◌≡◌, ◌≢◌, ◌≤◌, ◌+◌, ℕ, List, [], ◌∷◌, ◌++◌, length, Option, None, Some, Result, Ok, Err, refl, sym, ap, ◌∙◌, subst, arith, slice_get, inl, inr}
use Rattle.std.specs.Prelude.{◌⊎◌, IsFalse}
use Rattle.base_data.specs.Act.{after, give}
use Rattle.base_data.specs.Elements.{Among}
use Rattle.base_data.specs.declared.fault.Fault.{Fault}
use Rattle.base_data.specs.declared.library.LibName.{LibName}
use Rattle.base_data.specs.declared.library.LibName.TheVariants as library
use Rattle.base_data.specs.declared.name.FrameNo.{FrameNo}
use Rattle.base_data.specs.declared.name.Mark.{Mark}
use Rattle.base_data.specs.declared.span.Span.{Span}
use Rattle.stx_tree.specs.Changes.{enter, leave}
use Rattle.stx_tree.specs.Context.{LeafContext, entered, left}
use Rattle.stx_tree.specs.Leaves.{contexts}
use Rattle.stx_tree.specs.Marks.{is_first}
use Rattle.stx_tree.specs.Tree.{Tree, atom, leaf, pair, vector}
use Rattle.core_language.specs.declared.core_form.CoreForm.{CoreForm}
use Rattle.core_records.specs.Forms.{record_forms}
use Rattle.core_records.specs.Names.{record_uid}
use Rattle.eval_value.specs.Cells.{transformer_in}
use Rattle.eval_value.specs.ToSyntax.{Reading, to_syntax}
use Rattle.eval_value.specs.declared.cell.Cell.{Cell}
use Rattle.eval_value.specs.declared.cell.Cell.TheVariants as cell
use Rattle.eval_value.specs.declared.value.Value.{Value}
use Rattle.eval_value.specs.declared.value.Value.TheVariants as value
use Rattle.eval_code.specs.State.{Outcome, done, faulted, unfit}
use Rattle.eval_stage.specs.Running as running
use Rattle.eval_stage.specs.Running.{setting_on, state_on, ended_at, outcome_of_call}
use Rattle.eval_stage.specs.Stage.{PlainStage, name_after}
use Rattle.eval_stage.specs.Uses.{procedure_in, call_procedure, tree_at, read_answer, transform, cut, transform_and_cut, transform_marked}
use Rattle.eval_stage.specs.Fuel.{most_fuel}
use Rattle.expand_standing.specs.RecordUses.{at_state, count_record_type, record_tree, record_marked}
use Rattle.expand_standing.specs.State.{State}
use Rattle.law_hygiene.proofs.Marking.{same_mark-self, same_mark-differs, lacks_first}
use Rattle.law_hygiene.proofs.Using.{left_came_in, marks_introduced}
use Rattle.law_fresh.specs.Leaves.{OptionHolds, TreeHolds, ValueHolds, CellHolds, CellsHold}
use Rattle.law_fresh.specs.Names.{FreshRises, SettingHolds, OutcomeHolds}
use Rattle.law_fresh.proofs.Eachs.{each_at}
use Rattle.law_fresh.proofs.Meaning.{holds-call}
use Rattle.law_fresh.proofs.Read.{ReadHolds, read-holds}
use Rattle.law_fresh.proofs.Trees.{OkHolds}
use Rattle.law_fresh.proofs.Wider.{value_wider, cells_wider, codes_wider, globals_wider}
use Rattle.law_fresh_expansion.specs.Known.{IsKnown, HasKnown, IsNewAmong}
use Rattle.law_fresh_expansion.specs.States.{StageHolds, FreshStateHolds}
use Rattle.law_fresh_expansion.proofs.Knowing.{lacks-it}
use Rattle.law_fresh_expansion.proofs.Records.{record-holds}
use Rattle.law_references.specs.Introduced.{IsOfFormOrUse, UsesIntroduceTheRest}

-- the mark of a use, and its form
module _ (m : Mark) (t : Tree) where
  -- a leaf that the transformer gives came in with the form, or it doesn't begin with the mark
  abbrev CameOrNot : LeafContext → Type 0
  CameOrNot c = IsFalse (is_first m c.marks) ⊎ ((d : LeafContext) × (Among (contexts t) d × (c ≡ entered m d)))

  among-left : (xs ys : List LeafContext) (c : LeafContext) → Among xs c → Among (xs ++ ys) c
  among-left [] ys c a = absurd a
  among-left (x ∷ xs) ys c (inl e) = inl e
  among-left (x ∷ xs) ys c (inr a) = inr (among-left xs ys c a)

  among-right : (xs ys : List LeafContext) (c : LeafContext) → Among ys c → Among (xs ++ ys) c
  among-right [] ys c a = a
  among-right (x ∷ xs) ys c a = inr (among-right xs ys c a)

  -- a part of the form, entered
  came-in : (u : Tree) → ((c : LeafContext) → Among (contexts u) c → Among (contexts t) c) → TreeHolds CameOrNot (enter m u)
  came-in (atom p a) f = tt
  came-in (leaf p x c) f = inr (c, (f c (inl refl), refl))
  came-in (pair p a d) f = (came-in a (λ c k. f c (among-left (contexts a) (contexts d) c k)), came-in d (λ c k. f c (among-right (contexts a) (contexts d) c k)))
  came-in (vector p d) f = came-in d f

  came-out-leaf : (f : Option FrameNo) (c : LeafContext) → CameOrNot c → IsOfFormOrUse m t (left m f c)
  came-out-leaf f c (inl lacking) = inr (ap (is_first m) (marks_introduced m f c lacking) ∙ same_mark-self m)
  came-out-leaf f c (inr (d, (a, e))) = inl (subst (Among (contexts t)) (sym (left_came_in m f (entered m d) (same_mark-self m)) ∙ ap (left m f) (sym e)) a)

  came-out : (f : Option FrameNo) (o : Tree) → TreeHolds CameOrNot o → TreeHolds (IsOfFormOrUse m t) (leave m f o)
  came-out f (atom p a) h = tt
  came-out f (leaf p x c) h = came-out-leaf f c h
  came-out f (pair p a d) h = (came-out f a h.0, came-out f d h.1)
  came-out f (vector p d) h = came-out f d h

procedure-in-holds : (P : LeafContext → Type 0) (cells : List Cell) (v : Value) → CellsHold P cells → ValueHolds P v → OptionHolds (ValueHolds P) (procedure_in cells v)
procedure-in-holds P cells (value.Transformer place) h k = by (slice_get cells place.0) (each_at (CellHolds P) cells place.0 h)
  where
    by : (o : Option Cell) → OptionHolds (CellHolds P) o → OptionHolds (ValueHolds P) (transformer_in o)
    by None j = tt
    by (Some (cell.Transformer x)) j = j
    by (Some (cell.Pair x y)) j = tt
    by (Some (cell.Vector xs)) j = tt
    by (Some (cell.Str text)) j = tt
    by (Some (cell.Scope es p)) j = tt
    by (Some (cell.Binds bs p)) j = tt
procedure-in-holds P cells value.Unspecified h k = k
procedure-in-holds P cells (value.Atom x) h k = k
procedure-in-holds P cells (value.Symbol s) h k = k
procedure-in-holds P cells (value.Pair p) h k = k
procedure-in-holds P cells (value.Vector p) h k = k
procedure-in-holds P cells (value.Str p) h k = k
procedure-in-holds P cells (value.Closure c p) h k = k
procedure-in-holds P cells (value.Prim op) h k = k
procedure-in-holds P cells (value.Syn t) h k = k

-- a tree that is given has such leaves
abbrev Gives : {S : Type 0} → (LeafContext → Type 0) → Result (Tree × S) Fault → Type 0
Gives Q (Ok p) = TreeHolds Q p.0
Gives Q (Err e) = Unit {0}

gives-after : {S : Type 0} (Q R : LeafContext → Type 0) (r : Result (Tree × S) Fault) (f : Tree → Tree) (k : S → S) → Gives Q r → ((o : Tree) → TreeHolds Q o → TreeHolds R (f o)) → Gives R (after r (λ o s. give (f o) (k s)))
gives-after Q R (Ok p) f k h j = j p.0 h
gives-after Q R (Err e) f k h j = tt

gives-told : {S : Type 0} (Q : LeafContext → Type 0) (r : Result (Tree × S) Fault) (o : Tree) (s : S) → Gives Q r → r ≡ Ok (o, s) → TreeHolds Q o
gives-told {S} Q r o s h e = let k : Gives Q (Ok (o, s)) = subst (λ (x : Result (Tree × S) Fault). Gives Q x) e h in k

module _ (libs : List LibName) (own : LibName) (new : IsNewAmong libs own) where
  module _ (g : PlainStage) (holds : StageHolds own (IsKnown libs own) (HasKnown libs own) g.names.number g) (place : Span) (v : Value) (t : Tree) (known : ValueHolds (HasKnown libs own g.names.number) v) where
    abbrev M : Mark
    M = record { 0 = g.names }

    abbrev next : PlainStage
    next = record g { names = name_after g.names }

    abbrev Q : LeafContext → Type 0
    Q = CameOrNot M t

    was-there : (c : LeafContext) → HasKnown libs own g.names.number c → Q c
    was-there c h = inl (lacks_first M c.marks (lacks-it libs own new g.names holds.library c h).marks)

    later-name : (a : ℕ) → g.names.number + 1 ≤ a → record { 0 = record { library = own; number = a } } ≢ M
    later-name a low e = let same : a ≡ g.names.number = ap (λ (x : Mark). x.0.number) e in omega (arith, low, same)

    rises : FreshRises own (g.names.number + 1) (λ n c. Q c)
    rises = record { later = λ a b c le h. h; temporary = λ a n low lt. inl (same_mark-differs (record { 0 = record { library = own; number = a } }) M (later-name a low)) }

    setting : SettingHolds Q (setting_on g.codes next)
    setting = record {
      codes = codes_wider (HasKnown libs own g.names.number) Q was-there g.codes holds.codes;
      globals = globals_wider (HasKnown libs own g.names.number) Q was-there g.globals holds.globals;
    }

    cells : CellsHold Q g.cells
    cells = cells_wider (HasKnown libs own g.names.number) Q was-there g.cells holds.cells

    answered : (r : Outcome) → OutcomeHolds own (λ n c. Q c) (g.names.number + 1) r → Gives Q (after (ended_at place next r) (read_answer place))
    unfolding read_answer
    answered (done w new left) h = by (to_syntax new.cells w left) (read-holds Q new.cells h.0.cells w left h.1)
      where
        by : (x : Reading Tree) → ReadHolds Q x → Gives Q (tree_at place (running.left_by next new left) x)
        by (Ok p) k = k
        by (Err f) k = tt
    answered (faulted f new left) h = tt
    answered unfit h = tt

    called : (o : Option Value) → OptionHolds (ValueHolds Q) o → Gives Q (after (call_procedure place (enter M t) o next) (read_answer place))
    unfolding running.call
    called None h = tt
    called (Some f) h =
        answered (outcome_of_call f (value.Syn (enter M t)) next)
        (holds-call own (g.names.number + 1) (λ n c. Q c) rises (setting_on g.codes next) setting (f ∷ value.Syn (enter M t) ∷ []) (state_on next) most_fuel
        (record { up = omega arith; library = holds.library; cells = cells }) (h, (came-in M t t (λ c a. a), tt)))

    transformed : Gives Q (transform place v (enter M t) next)
    unfolding transform
    transformed = called (procedure_in g.cells v) (procedure-in-holds Q g.cells v cells (value_wider (HasKnown libs own g.names.number) Q was-there v known))

    transformed-and-cut : Gives Q (transform_and_cut place v (enter M t) next)
    unfolding transform_and_cut
    transformed-and-cut = gives-after Q Q (transform place v (enter M t) next) (λ o. o) (cut (length g.cells)) transformed (λ o h. h)

    pub given : (frame : Option FrameNo) → Gives (IsOfFormOrUse M t) (transform_marked place v t frame M next)
    unfolding transform_marked
    given frame = gives-after Q (IsOfFormOrUse M t) (transform_and_cut place v (enter M t) next) (leave M frame) (λ h. h) transformed-and-cut (came-out M t frame)

  module _ (core : Among libs library.Core) (s : State) (holds : FreshStateHolds own (IsKnown libs own) (HasKnown libs own) s.names.number s) (place : Span) (t : Tree) (f : CoreForm) (frame : Option FrameNo) where
    abbrev N : Mark
    N = record { 0 = s.names }

    abbrev following : State
    following = record s { names = name_after s.names }

    -- what record forms introduce has no marks
    read-tree : (count : ℕ) (u : State) → Gives (CameOrNot N t) (record_tree place (enter N t) f count u)
    unfolding record_tree
    read-tree count u = by (record_forms u.frames (enter N t) f place (record_uid u.library (enter N t) count)) (record-holds (CameOrNot N t) (inl refl) (inl refl) u.frames (enter N t) f place (record_uid u.library (enter N t) count) (came-in N t t (λ c a. a)))
      where
        by : (r : Result Tree Fault) → OkHolds (TreeHolds (CameOrNot N t)) r → Gives (CameOrNot N t) (at_state u r)
        by (Ok o) h = h
        by (Err e) h = tt

    pub read : Gives (IsOfFormOrUse N t) (record_marked place t f frame N following)
    unfolding record_marked
    read = by (count_record_type f following)
      where
        by : (r : Result (ℕ × State) Fault) → Gives (IsOfFormOrUse N t) (after r (λ n s'. after (record_tree place (enter N t) f n s') (λ u. give (leave N frame u))))
        by (Ok p) = gives-after (CameOrNot N t) (IsOfFormOrUse N t) (record_tree place (enter N t) f p.0 p.1) (leave N frame) (λ u. u) (read-tree p.0 p.1) (came-out N t frame)
        by (Err e) = tt

pub uses-introduce : UsesIntroduceTheRest
uses-introduce = record {
  keywords = λ libs own place v t frame g h o new holds known tree e. gives-told (IsOfFormOrUse (record { 0 = g.names }) t) _ o h (given libs own new g holds place v t known frame) e;
  records = λ libs own place t f frame s u o core new holds tree e. gives-told (IsOfFormOrUse (record { 0 = s.names }) t) _ o u (read libs own new core s holds place t f frame) e;
}
