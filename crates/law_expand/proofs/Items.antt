-- Forms of a body in the first pass: the frame gets the variables of what waits, and only these come into scope.
use Rattle.std.proofs.Common.{◌≡◌, ℕ, zero, suc, ◌≤◌, Bool, true, false, List, [], ◌∷◌, ◌++◌, map, Option, None, Some, Result, Ok, Err, refl, sym, ◌∙◌, ap, subst, arith, append-nil, if◌then◌else◌}
use Rattle.std.specs.Prelude.{◌&&◌, ◌||◌, not}
use Rattle.base_data.specs.Act.{after, give}
use Rattle.base_data.specs.declared.fault.Fault.{Fault}
use Rattle.base_data.specs.declared.fault.FaultKind.TheVariants as kind
use Rattle.base_data.specs.declared.library.LibName.{LibName}
use Rattle.base_data.specs.declared.name.FrameNo.{FrameNo}
use Rattle.base_data.specs.declared.name.Label.{Label}
use Rattle.base_data.specs.declared.span.Span.{Span}
use Rattle.stx_tree.specs.Tree.{Tree, atom, leaf, pair, vector}
use Rattle.core_language.specs.declared.core_form.CoreForm.{CoreForm}
use Rattle.core_language.specs.declared.record.CompiledLibrary.{CompiledLibrary}
use Rattle.core_shapes.specs.At.{place_of}
use Rattle.core_shapes.specs.Forms.{shape}
use Rattle.core_shapes.specs.Lists.{is_leaf}
use Rattle.core_shapes.specs.declared.shape.BindingSpec.{BindingSpec}
use Rattle.core_shapes.specs.declared.shape.Shape.{Shape}
use Rattle.core_shapes.specs.declared.shape.Shape.TheVariants as shapes
use Rattle.expand_standing.specs.Binders.{bind_variable}
use Rattle.expand_standing.specs.Standing.{standing_of, role_of}
use Rattle.expand_standing.specs.State.{State, fault_word}
use Rattle.expand_standing.specs.Uses.{bind_keyword, asks_variable}
use Rattle.expand_standing.specs.declared.binders.BoundSpec.{BoundSpec}
use Rattle.expand_standing.specs.declared.standing.Role.{Role}
use Rattle.expand_standing.specs.declared.standing.Role.TheVariants as role
use Rattle.expand_standing.specs.declared.standing.Standing.{Standing}
use Rattle.expand_standing.specs.declared.standing.Standing.TheVariants as standing
use Rattle.expand_heads.specs.declared.item.HeadItem.{HeadItem}
use Rattle.expand_heads.specs.declared.item.HeadItem.TheVariants as head_items
use Rattle.expand_heads.specs.Items.{waiting_at, kept_head, keep, any_changed, is_mixed, is_top, with_waiting, heads_like, in_time, keyword_in_time, define, define_keyword, define_item, target_item, set_item, Taking, alone, begin_item, keywords_item, with_shape, item_by, core_item, headed_item, list_item, leaf_by, leaf_item, item_plan}
use Rattle.expand_heads.specs.Kept.{with_head}
use Rattle.expand_heads.specs.Plan.{is_letrec_syntax}
use Rattle.expand_heads.specs.declared.item.Item.TheVariants as items
use Rattle.expand_heads.specs.declared.plan.KeywordUse.TheVariants as keyword_use
use Rattle.expand_heads.specs.declared.taken.BodyAt.{BodyAt}
use Rattle.expand_heads.specs.declared.taken.Taken.{Taken}
use Rattle.expand_heads.specs.declared.taken.Waiting.{Waiting}
use Rattle.expand_heads.specs.declared.taken.Waits.{Waits}
use Rattle.expand_heads.specs.declared.taken.Waits.TheVariants as waits
use Rattle.expand_forms.specs.ExpandUses as expand_uses
use Rattle.expand_forms.specs.ExpandUses.{next_form, too_many, at_use, set_item_step, item_step_of, item_step, expand_item_uses_to}
use Rattle.expand_forms.specs.declared.expand_uses.ItemOrUse.{ItemOrUse}
use Rattle.expand_forms.specs.declared.expand_uses.ItemOrUse.TheVariants as item_steps
use Rattle.expand_forms.specs.declared.expand_uses.PlannedItem.{PlannedItem}
use Rattle.law_expand.specs.States.{Keeps, Adds, Later, LaterBut}
use Rattle.law_expand.proofs.Acts.{Gave, gave-after, gave-less, gave-if}
use Rattle.law_expand.proofs.BindingKeywords.{BindsKeywords, binds-keyword}
use Rattle.law_expand.proofs.Fresh.{Made, FreshLabels, label_name, fresh-one, fresh-append, fresh-wider}
use Rattle.law_expand.proofs.Scope.{adds-then, adds-later}
use Rattle.law_expand.proofs.Later.{keeps-self, keeps-then, but-self, but-then, but-later}
use Rattle.law_expand.proofs.Naming.{Binds, binds, next-made}
use Rattle.law_expand.proofs.LineLabels.{kind_labels, HasValue}
use Rattle.law_expand.proofs.Uses.{asks-later, next-later}

-- the variable that waits for its value, where that is what waits
abbrev pub wait_kind : Waits → Option Label
wait_kind (waits.Variable l value) = Some l
wait_kind (waits.Procedure l t ids forms) = Some l
wait_kind (waits.Expression t) = None

abbrev pub waiting_kind : Waiting → Option Label
waiting_kind w = wait_kind w.what

abbrev pub wait_kinds : List Waiting → List (Option Label)
wait_kinds ws = map waiting_kind ws

-- what was taken of a body since a state
pub record Took (own : LibName) (top : Bool) (start : State) (d : Taken) (s : State) : Type 0 where
  pub labels : FreshLabels own start.names.number s.names.number (kind_labels (wait_kinds d.waiting))
  pub up : start.names.number ≤ s.names.number
  pub adds : Adds own top (kind_labels (wait_kinds d.waiting)) [] start s
  pub value : d.has_expression ≡ true → HasValue (wait_kinds d.waiting)

-- from what was taken to more, and a state with more in one frame alone
pub record Takes (own : LibName) (f : FrameNo) (top : Bool) (start s : State) (d : Taken) (t : State) : Type 0 where
  pub later : LaterBut own f s t
  pub took : Took own top start d t
  pub keeps : Keeps own s t

pub map-append : {A B : Type 0} (g : A → B) (xs ys : List A) → map g (xs ++ ys) ≡ map g xs ++ map g ys
map-append g [] ys = refl
map-append g (x ∷ xs) ys = ap (λ zs. g x ∷ zs) (map-append g xs ys)

pub kinds-none : (ks : List (Option Label)) → kind_labels (ks ++ None ∷ []) ≡ kind_labels ks
kinds-none [] = refl
kinds-none (None ∷ ks) = kinds-none ks
kinds-none (Some l ∷ ks) = ap (λ ls. l ∷ ls) (kinds-none ks)

pub kinds-some : (ks : List (Option Label)) (l : Label) → kind_labels (ks ++ Some l ∷ []) ≡ kind_labels ks ++ l ∷ []
kinds-some [] l = refl
kinds-some (None ∷ ks) l = kinds-some ks l
kinds-some (Some m ∷ ks) l = ap (λ ls. m ∷ ls) (kinds-some ks l)

value-behind : (ks js : List (Option Label)) → HasValue ks → HasValue (ks ++ js)
value-behind [] js h = elim h [ ]
value-behind (None ∷ ks) js h = tt
value-behind (Some l ∷ ks) js h = value-behind ks js h

value-last : (ks : List (Option Label)) → HasValue (ks ++ None ∷ [])
value-last [] = tt
value-last (None ∷ ks) = tt
value-last (Some l ∷ ks) = value-last ks

-- What holds where a form waits, where a definition is taken, and where something else is to be done with a form, holds of each
-- form; heads that are kept change nothing.
abbrev pub with_kept : State → Taken → Tree → Taken
with_kept s d id = record d { kept = with_head d.kept (kept_head s id) }

abbrev pub with_expression : BodyAt → ℕ → Taken → Tree → Taken
with_expression at depth d t = record d { waiting = d.waiting ++ waiting_at at depth (waits.Expression t) ∷ []; has_expression = true }

module _ (Q : Taken → Type 0) (P : Taken × HeadItem → State → Type 0) (at : BodyAt) (depth : ℕ) (s : State) (keeps : (d : Taken) (id : Tree) → Q d → Q (with_kept s d id))
    (waits-so : (d : Taken) (t : Tree) → Q d → P (with_expression at depth d t, head_items.Item items.Nothing) s)
    (defines : (d : Taken) (t : Tree) (x : Shape) → Q d → Gave P (alone (define_item at depth d t x) s)) (comes : (d : Taken) (i : HeadItem) → Q d → P (d, i) s) where
  by-begin : (d : Taken) (t : Tree) (x : Shape) → Q d → Gave P (begin_item at d t x s)
  unfolding begin_item
  by-begin d t (shapes.Begin forms) k = comes d (head_items.Item (items.Forms forms)) k
  by-begin d t _ k = tt

  by-keywords : (d : Taken) (t : Tree) (g : CoreForm) (x : Shape) → Q d → Gave P (keywords_item at d t g x s)
  unfolding keywords_item
  by-keywords d t g (shapes.DefineSyntax id value) k = comes d (head_items.Item (items.Keyword (record { id = id; init = value }))) k
  by-keywords d t g (shapes.LetSyntax bs forms) k = comes d (head_items.Item (items.Keywords (is_letrec_syntax g) bs forms)) k
  by-keywords d t g _ k = tt

  by-target : (d : Taken) (t : Tree) (st : Standing) → Q d → Gave P (target_item at depth d t st s)
  by-target d t standing.Nothing k = waits-so d t k
  by-target d t (standing.Variable v) k = waits-so d t k
  by-target d t standing.PatternVariable k = waits-so d t k
  by-target d t (standing.Primitive op) k = waits-so d t k
  by-target d t (standing.Core g) k = waits-so d t k
  by-target d t (standing.Keyword l) k = comes d (head_items.SetUse l) k

  by-set : (d : Taken) (t : Tree) (r : Result Shape Fault) → Q d → Gave P (set_item at depth d t r s)
  unfolding keep
  by-set d t (Ok (shapes.Set id value)) k = by-target (with_kept s d id) t (standing_of s id) (keeps d id k)
  by-set d t (Ok x) k = waits-so d t k
  by-set d t (Err e) k = waits-so d t k

  by-shape : (r : Result Shape Fault) (go : Shape → Taking) → ((x : Shape) → Gave P (go x s)) → Gave P (with_shape r go s)
  by-shape (Err e) go h = tt
  by-shape (Ok x) go h = h x

  by-role : (d : Taken) (t : Tree) (g : CoreForm) (r : Role) → Q d → Gave P (item_by at depth d t g r s)
  by-role d t g role.Expression k = waits-so d t k
  by-role d t g role.Assignment k = by-set d t (shape g t at.place) k
  by-role d t g role.Sequence k = by-shape (shape g t at.place) (begin_item at d t) (λ x. by-begin d t x k)
  by-role d t g role.Definition k = by-shape (shape g t at.place) (λ x. alone (define_item at depth d t x)) (λ x. defines d t x k)
  by-role d t g role.Keywords k = by-shape (shape g t at.place) (keywords_item at d t g) (λ x. by-keywords d t g x k)
  by-role d t g role.Record k = comes d (head_items.Use (keyword_use.Record g)) k
  by-role d t g role.RecordValue k = comes d (head_items.Use (keyword_use.Record g)) k
  by-role d t g role.Auxiliary k = waits-so d t k

  by-core : (d : Taken) (t : Tree) (g : CoreForm) → Q d → Gave P (core_item at depth d t g s)
  unfolding core_item
  by-core d t g k = by-role d t g (role_of g) k

  by-standing : (d : Taken) (t : Tree) (st : Standing) → Q d → Gave P (headed_item at depth d t st s)
  by-standing d t standing.Nothing k = waits-so d t k
  by-standing d t (standing.Variable v) k = waits-so d t k
  by-standing d t standing.PatternVariable k = waits-so d t k
  by-standing d t (standing.Primitive op) k = waits-so d t k
  by-standing d t (standing.Core g) k = by-core d t g k
  by-standing d t (standing.Keyword l) k = comes d (head_items.Use (keyword_use.Macro l)) k

  by-leaf : (d : Taken) (t : Tree) (st : Standing) → Q d → Gave P (leaf_by at depth d t st s)
  by-leaf d t standing.Nothing k = waits-so d t k
  by-leaf d t (standing.Variable v) k = waits-so d t k
  by-leaf d t standing.PatternVariable k = waits-so d t k
  by-leaf d t (standing.Primitive op) k = waits-so d t k
  by-leaf d t (standing.Core g) k = waits-so d t k
  by-leaf d t (standing.Keyword l) k = comes d (head_items.Use (keyword_use.Macro l)) k

  by-list : (d : Taken) (t head : Tree) → Q d → Gave P (list_item at depth d t head s)
  unfolding list_item keep
  by-list d t head k = gave-if P (is_leaf head) _ _ (λ e. by-standing (with_kept s d head) t (standing_of s head) (keeps d head k)) (λ e. waits-so d t k)

  pub item-cases : (d : Taken) (t : Tree) → Q d → Gave P (item_plan at depth d t s)
  unfolding leaf_item keep
  item-cases d (atom r a) k = waits-so d (atom r a) k
  item-cases d (leaf r x c) k = by-leaf (with_kept s d (leaf r x c)) (leaf r x c) (standing_of s (leaf r x c)) (keeps d (leaf r x c) k)
  item-cases d (pair r a e) k = by-list d (pair r a e) a k
  item-cases d (vector r e) k = waits-so d (vector r e) k

-- what was taken stays so in a later state
pub took-later : (own : LibName) (top : Bool) (start : State) (d : Taken) (s u : State) → s.names.number ≤ u.names.number → Adds own top [] [] s u → Took own top start d s → Took own top start d u
took-later own top start d s u up adds k = record {
  labels = fresh-wider label_name own start.names.number s.names.number start.names.number u.names.number (kind_labels (wait_kinds d.waiting)) (omega arith) up k.labels;
  up = let v = k.up in omega (arith, v, up);
  adds = subst (λ (ls : List Label). Adds own top ls [] start u) (append-nil (kind_labels (wait_kinds d.waiting))) (adds-then own top (kind_labels (wait_kinds d.waiting)) [] [] [] start s u k.adds adds);
  value = k.value;
}

module _ (own : LibName) (start : State) (at : BodyAt) where
  abbrev TK : State → Taken → State → Type 0
  TK = Takes own at.frame (is_top at.kind) start

  -- a form that waits as an expression
  took-wait : (depth : ℕ) (d : Taken) (t : Tree) (s : State) → Took own (is_top at.kind) start d s
      → Took own (is_top at.kind) start (with_expression at depth d t) s
  took-wait depth d t s k =
      let w = waiting_at at depth (waits.Expression t) in
      let is : kind_labels (wait_kinds (d.waiting ++ w ∷ [])) ≡ kind_labels (wait_kinds d.waiting) = ap kind_labels (map-append waiting_kind d.waiting (w ∷ [])) ∙ kinds-none (wait_kinds d.waiting) in
      record {
        labels = subst (FreshLabels own start.names.number s.names.number) (sym is) k.labels;
        up = k.up;
        adds = subst (λ (ls : List Label). Adds own (is_top at.kind) ls [] start s) (sym is) k.adds;
        value = λ e. subst HasValue (sym (map-append waiting_kind d.waiting (w ∷ []))) (value-last (wait_kinds d.waiting));
      }

  -- a variable that waits, which was just bound
  took-bound : (depth : ℕ) (d : Taken) (what : Waits) (l : Label) (s t : State) → wait_kind what ≡ Some l → s.names.library ≡ own → Binds own at.frame (is_top at.kind) s l t → Took own (is_top at.kind) start d s
      → Took own (is_top at.kind) start (with_waiting at depth d what) t
  took-bound depth d what l s t kind next b k =
      let w = waiting_at at depth what in
      let ks : wait_kinds (d.waiting ++ w ∷ []) ≡ wait_kinds d.waiting ++ Some l ∷ [] = map-append waiting_kind d.waiting (w ∷ []) ∙ ap (λ o. wait_kinds d.waiting ++ o ∷ []) kind in
      let is : kind_labels (wait_kinds (d.waiting ++ w ∷ [])) ≡ kind_labels (wait_kinds d.waiting) ++ l ∷ [] = ap kind_labels ks ∙ kinds-some (wait_kinds d.waiting) l in
      let made : Made own s.names.number t.names.number l.0 = subst (λ (m : Label). Made own s.names.number t.names.number m.0) (sym b.label) (subst (λ n. Made own s.names.number n s.names) (sym b.up) (next-made own s next)) in
      record {
        labels = subst (FreshLabels own start.names.number t.names.number) (sym is)
            (fresh-append label_name own start.names.number s.names.number t.names.number (kind_labels (wait_kinds d.waiting)) (l ∷ []) k.up b.later.up k.labels (fresh-one label_name own s.names.number t.names.number l made));
        up = let u = k.up in let v = b.later.up in omega (arith, u, v);
        adds = subst (λ (ls : List Label). Adds own (is_top at.kind) ls [] start t) (sym is) (adds-then own (is_top at.kind) (kind_labels (wait_kinds d.waiting)) (l ∷ []) [] [] start s t k.adds b.adds);
        value = λ e. subst HasValue (sym (map-append waiting_kind d.waiting (w ∷ []))) (value-behind (wait_kinds d.waiting) (map waiting_kind (w ∷ [])) (k.value e));
      }

  -- what comes of a form: what was taken, and what else is to be done
  abbrev pub Comes : State → Taken × HeadItem → State → Type 0
  Comes s p t = Takes own at.frame (is_top at.kind) start s p.0 t

  -- only whether a head has moved is told anew
  took-told : (d : Taken) (m : Bool) (s : State) → Took own (is_top at.kind) start d s → Took own (is_top at.kind) start (record d { moved = m }) s
  took-told d m s k = record { labels = k.labels; up = k.up; adds = k.adds; value = k.value }

  module _ (s : State) (next : s.names.library ≡ own) (low : is_top at.kind ≡ true → at.level ≡ 0) where
    -- a definition, with what was taken before it
    abbrev Defines : Taken → Taken × Label → State → Type 0
    Defines done d u = Binds own at.frame (is_top at.kind) s d.1 u × ((m : Bool) × (d.0 ≡ record done { moved = m }))

    in-time : (done : Taken) (id : Tree) (l : Label) (t : State) → Binds own at.frame (is_top at.kind) s l t → Gave (Defines done) (after (in_time at done id t) (λ taken. give (taken, l)))
    unfolding in_time
    in-time done id l t b = by (any_changed false t (heads_like done id))
      where
        m : Bool
        m = done.moved || any_changed true t (heads_like done id)

        by : (c : Bool) → Gave (Defines done) (after (if c then fault_word kind.LateDefinition id id at.place t else Ok (record done { moved = m }, t)) (λ taken. give (taken, l)))
        by true = tt
        by false = (b, (m, refl))

    defines : (done : Taken) (t id : Tree) → Gave (Defines done) (define at done t id s)
    unfolding define
    defines done t id = gave-if (Defines done) (done.has_expression && not (is_mixed at.kind)) _ _ (λ e. tt)
        (λ e. gave-after (Binds own at.frame (is_top at.kind) s) (Defines done) (bind_variable at.frame at.place at.level (is_top at.kind) id s) (λ l s'. after (in_time at done id s') (λ taken. give (taken, l)))
        (binds own at.frame at.place at.level (is_top at.kind) id s low next)
        (in-time done id))

    took-defined : (depth : ℕ) (d : Taken) (what : Waits) (x : Taken × Label) (u : State) → wait_kind what ≡ Some x.1 → Took own (is_top at.kind) start d s → Defines d x u → Takes own at.frame (is_top at.kind) start s (with_waiting at depth x.0 what) u
    took-defined depth d what x u kind k b = record {
      later = b.0.later;
      keeps = b.0.keeps;
      took = subst (λ (y : Taken). Took own (is_top at.kind) start (with_waiting at depth y what) u) (sym b.1.1) (took-bound depth (record d { moved = b.1.0 }) what x.1 s u kind next b.0 (took-told d b.1.0 s k));
    }

    takes-define : (depth : ℕ) (d : Taken) (t : Tree) (x : Shape) → Took own (is_top at.kind) start d s → Gave (TK s) (define_item at depth d t x s)
    unfolding define_item
    takes-define depth d t (shapes.Define id value) k =
        gave-after (Defines d) (TK s) (define at d t id s) (λ e. give (with_waiting at depth e.0 (waits.Variable e.1 value))) (defines d t id)
        (λ e u b. took-defined depth d (waits.Variable e.1 value) e u refl k b)
    takes-define depth d t (shapes.DefineProcedure id ids forms) k =
        gave-after (Defines d) (TK s) (define at d t id s) (λ e. give (with_waiting at depth e.0 (waits.Procedure e.1 t ids forms))) (defines d t id)
        (λ e u b. took-defined depth d (waits.Procedure e.1 t ids forms) e u refl k b)
    takes-define depth d t _ k = tt

    pub takes-item : (depth : ℕ) (d : Taken) (t : Tree) → Took own (is_top at.kind) start d s → Gave (Comes s) (item_plan at depth d t s)
    takes-item depth d t k = item-cases (λ e. Took own (is_top at.kind) start e s) (Comes s) at depth s (λ e id j. record { labels = j.labels; up = j.up; adds = j.adds; value = j.value })
        (λ e x j. record { later = but-self own at.frame s next; took = took-wait depth e x s j; keeps = keeps-self own s })
        (λ e x y j. gave-after (TK s) (Comes s) (define_item at depth e x y s) (λ z. give (z, head_items.Item items.Nothing)) (takes-define depth e x y j) (λ z u l. l))
        (λ e i j. record { later = but-self own at.frame s next; took = j; keeps = keeps-self own s }) d t k

    -- the definition of a keyword
    abbrev pub BindsOne : BoundSpec → State → Type 0
    BindsOne x u = BindsKeywords own at.frame s (x ∷ []) u

    keyword-in-time : (done : Taken) (id : Tree) (x : BoundSpec) (t : State) → BindsOne x t → Gave BindsOne (after (keyword_in_time at done id t) (λ _. give x))
    unfolding keyword_in_time
    keyword-in-time done id x t b = by (done.moved || any_changed true t (heads_like done id))
      where
        by : (c : Bool) → Gave BindsOne (after (if c then fault_word kind.LateDefinition id id at.place t else Ok (tt {0}, t)) (λ _. give x))
        by true = tt
        by false = b

    pub defines-keyword : (done : Taken) (t : Tree) (b : BindingSpec) → Gave BindsOne (define_keyword at done t b s)
    unfolding define_keyword
    defines-keyword done t b = gave-if BindsOne (done.has_expression && not (is_mixed at.kind)) _ _ (λ e. tt)
        (λ e. gave-after BindsOne BindsOne (bind_keyword at.frame at.place at.level b s) (λ x s'. after (keyword_in_time at done b.id s') (λ _. give x))
        (binds-keyword own at.frame at.place at.level b s next) (keyword-in-time done b.id))

-- Uses in a body are expanded: each use gives one for the same body.

-- the same body, at another place
abbrev pub IsPlaced : BodyAt → BodyAt → Type 0
IsPlaced at other = (place : Span) × (other ≡ record at { place = place })

module _ (own : LibName) (rs : List CompiledLibrary) (start : State) where
  -- from what was taken to more
  abbrev pub Steps : {A : Type 0} → BodyAt → State → Taken × A → State → Type 0
  Steps at s p u = Takes own at.frame (is_top at.kind) start s p.0 u

  pub takes-moved : (at : BodyAt) (s t u : State) (d : Taken) → Takes own at.frame (is_top at.kind) start s d t → Later own t u → Takes own at.frame (is_top at.kind) start s d u
  takes-moved at s t u d h k = record { later = but-then own at.frame s t u h.later (but-later own at.frame t u k); took = took-later own (is_top at.kind) start d t u k.up (adds-later own (is_top at.kind) t u k) h.took; keeps = keeps-then own s t u h.later.up k.up h.keeps k.keeps }

  module _ (depth : ℕ) where
    set-steps : (at : BodyAt) (d : Taken) (t : Tree) (l : Label) (b : Bool) (s u : State) → Takes own at.frame (is_top at.kind) start s d u → Gave (Steps {A = ItemOrUse} at s) (set_item_step at depth d t l b u)
    set-steps at d t l true s u h = h
    set-steps at d t l false s u h = record { later = h.later; took = took-wait own start at depth d t u h.took; keeps = h.keeps }

    steps-of : (at : BodyAt) (t : Tree) (d : Taken) (i : HeadItem) (s u : State) → Takes own at.frame (is_top at.kind) start s d u → Gave (Steps {A = ItemOrUse} at s) (item_step_of rs at depth t d i u)
    steps-of at t d (head_items.Item i) s u h = h
    steps-of at t d (head_items.Use l) s u h = h
    steps-of at t d (head_items.SetUse l) s u h =
        gave-after (λ b v. Later own u v) (Steps {A = ItemOrUse} at s) (asks_variable rs (place_of t at.place) l u) (set_item_step at depth d t l) (asks-later own rs (place_of t at.place) l u h.later.next)
        (λ b v k. set-steps at d t l b s v (takes-moved at s u v d h k))

    pub step-takes : (at : BodyAt) (d : Taken) (t : Tree) (s : State) → s.names.library ≡ own → (is_top at.kind ≡ true → at.level ≡ 0) → Took own (is_top at.kind) start d s → Gave (Steps {A = ItemOrUse} at s) (item_step rs at depth d t s)
    unfolding item_step
    step-takes at d t s n low k =
        gave-after (Comes own start at s) (Steps {A = ItemOrUse} at s) (item_plan at depth d t s) (λ p. item_step_of rs at depth t p.0 p.1) (takes-item own start at s n low depth d t k) (λ p u h. steps-of at t p.0 p.1 s u h)

    -- where the form stands is the same body
    abbrev pub Settles : BodyAt → State → Taken × PlannedItem → State → Type 0
    Settles at s p u = Takes own at.frame (is_top at.kind) start s p.0 u × IsPlaced at p.1.at

    pub expand_uses-takes : (left : ℕ) (at : BodyAt) (d : Taken) (t : Tree) (s : State) → s.names.library ≡ own → (is_top at.kind ≡ true → at.level ≡ 0) → Took own (is_top at.kind) start d s
        → Gave (Settles at s) (expand_item_uses_to rs left at depth d t s)
    unfolding expand_item_uses_to
    expand_uses-takes zero at d t s n low k =
        gave-after (Steps {A = ItemOrUse} at s) (Settles at s) (item_step rs at depth d t s) (expand_uses.item_by (λ done l. too_many t at.place) at t) (step-takes at d t s n low k) by
      where
        by : (p : Taken × ItemOrUse) (u : State) → Steps {A = ItemOrUse} at s p u → Gave (Settles at s) (expand_uses.item_by (λ done l. too_many t at.place) at t p u)
        by (e, item_steps.Item i) u h = (h, (at.place, refl))
        by (e, item_steps.Use l) u h = tt
    expand_uses-takes (suc left) at d t s n low k =
        gave-after (Steps {A = ItemOrUse} at s) (Settles at s) (item_step rs at depth d t s) (expand_uses.item_by (λ taken l s'. after (next_form rs left at.place t l (Some at.frame) s') (expand_item_uses_to rs left (at_use at t) depth taken)) at t) (step-takes at d t s n low k)
        (λ p u h. by p u h (λ e x v m j. expand_uses-takes left (at_use at t) e x v m low j))
      where
        by : (p : Taken × ItemOrUse) (u : State) → Steps {A = ItemOrUse} at s p u
            → ((e : Taken) (x : Tree) (v : State) → v.names.library ≡ own → Took own (is_top at.kind) start e v → Gave (Settles (at_use at t) v) (expand_item_uses_to rs left (at_use at t) depth e x v))
            → Gave (Settles at s) (expand_uses.item_by (λ taken l s'. after (next_form rs left at.place t l (Some at.frame) s') (expand_item_uses_to rs left (at_use at t) depth taken)) at t p u)
        by (e, item_steps.Item i) u h next = (h, (at.place, refl))
        by (e, item_steps.Use l) u h next =
            gave-after (λ x v. Later own u v) (Settles at s) (next_form rs left at.place t l (Some at.frame) u) (expand_item_uses_to rs left (at_use at t) depth e) (next-later own rs left at.place t l (Some at.frame) u h.later.next)
            (λ x v j. let g = takes-moved at s u v e h j in
            gave-less (Settles (at_use at t) v) (Settles at s) (expand_item_uses_to rs left (at_use at t) depth e x v) (next e x v j.next g.took)
            (λ y w z. (record { later = but-then own at.frame s v w g.later z.0.later; took = z.0.took; keeps = keeps-then own s v w g.later.up z.0.later.up g.keeps z.0.keeps }, (z.1.0, z.1.1))))
