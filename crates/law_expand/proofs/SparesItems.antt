-- Forms of a body spare the names of keywords in the first pass.
use Rattle.std.proofs.Common.{◌≡◌, ℕ, zero, suc, ◌+◌, Bool, true, false, List, [], ◌∷◌, ◌++◌, Option, None, Some, Ok, refl, sym, ap, subst, arith, if◌then◌else◌}
use Rattle.std.specs.Prelude.{◌||◌, ◌&&◌, not, nat_lt}
use Rattle.base_data.specs.Act.{after, give}
use Rattle.base_data.specs.declared.fault.FaultKind.TheVariants as kind
use Rattle.base_data.specs.declared.library.LibName.{LibName}
use Rattle.base_data.specs.declared.name.Label.{Label}
use Rattle.stx_tree.specs.Tree.{Tree}
use Rattle.core_language.specs.declared.record.CompiledLibrary.{CompiledLibrary}
use Rattle.core_shapes.specs.At.{place_of}
use Rattle.core_shapes.specs.declared.shape.BindingSpec.{BindingSpec}
use Rattle.core_shapes.specs.declared.shape.Shape.{Shape}
use Rattle.core_shapes.specs.declared.shape.Shape.TheVariants as shapes
use Rattle.eval_stage.specs.declared.keyword.Keyword.{Keyword}
use Rattle.expand_standing.specs.Binders.{bind_variable}
use Rattle.expand_standing.specs.State.{State, fault_word}
use Rattle.expand_standing.specs.Uses.{asks_variable, bind_keyword}
use Rattle.expand_standing.specs.declared.binders.BoundSpec.{BoundSpec}
use Rattle.expand_heads.specs.declared.item.HeadItem.{HeadItem}
use Rattle.expand_heads.specs.declared.item.HeadItem.TheVariants as head_items
use Rattle.expand_heads.specs.Items.{is_top, is_mixed, any_changed, heads_like, with_waiting, waiting_at, in_time, keyword_in_time, define, define_keyword, define_item, item_plan}
use Rattle.expand_heads.specs.declared.item.Item.{Item}
use Rattle.expand_heads.specs.declared.item.Item.TheVariants as items
use Rattle.expand_heads.specs.declared.taken.BodyAt.{BodyAt}
use Rattle.expand_heads.specs.declared.taken.Taken.{Taken}
use Rattle.expand_heads.specs.declared.taken.Waiting.{Waiting}
use Rattle.expand_heads.specs.declared.taken.Waits.{Waits}
use Rattle.expand_heads.specs.declared.taken.Waits.TheVariants as waits
use Rattle.expand_forms.specs.Body.{splice, perform_item, item}
use Rattle.expand_forms.specs.Body as expand_body
use Rattle.expand_heads.specs.Depth.{deeper, most_round}
use Rattle.expand_forms.specs.Inside.{Inside}
use Rattle.expand_forms.specs.Keywords.{expand_transformer, with_keywords, define_syntax}
use Rattle.expand_forms.specs.ExpandUses.{next_form, too_many, at_use, set_item_step, item_step_of, item_step, expand_item_uses_to, expand_item_uses}
use Rattle.expand_forms.specs.ExpandUses as expand_uses
use Rattle.expand_forms.specs.declared.expand_uses.ItemOrUse.{ItemOrUse}
use Rattle.expand_forms.specs.declared.expand_uses.ItemOrUse.TheVariants as item_steps
use Rattle.expand_forms.specs.declared.expand_uses.PlannedItem.{PlannedItem}
use Rattle.expand_forms.specs.Site.{site_at}
use Rattle.expand_forms.specs.Forms.{definition_parts, let_syntax_parts}
use Rattle.law_expand.specs.States.{Later}
use Rattle.law_expand.proofs.Acts.{Gave, gave-after, gave-less, gave-both, gave-if}
use Rattle.law_expand.proofs.BindingKeywords.{BindsKeywords}
use Rattle.law_expand.proofs.Items.{waiting_kind, wait_kinds, wait_kind, with_expression, item-cases, defines-keyword, IsPlaced}
use Rattle.law_expand.proofs.LineLabels.{kind_labels}
use Rattle.law_expand.proofs.Naming.{as_label, Binds, binds}
use Rattle.law_expand.proofs.Uses.{asks-later, next-later}
use Rattle.law_expand.specs.Kept.{IsKeptWith, IsNameOfKept, KeptAreGood, IsGoodState}
use Rattle.law_expand.proofs.Spent.{Unspent, AreUnspent, unspent-all, Onward}
use Rattle.law_expand.proofs.SpentOnStage.{Tells, next-told, variable-told}
use Rattle.law_expand.proofs.SpentBinding.{Same, variable-same, keyword-told, onward-self, onward-then, onward-later, onward-but}
use Rattle.law_expand.proofs.Spares.{taken_labels, Spares, Gives, goes, N, spares-keyword, spares-keywords}
use Rattle.law_expand.proofs.SparesBodies.{spares-splice}

module _ (own : LibName) (given : List Label) where
  abbrev B : State → Type 0
  B = IsGoodState own given

  abbrev O : State → State → Type 0
  O = Onward own given

  abbrev W : State → Taken → Type 0
  W u e = AreUnspent own u (taken_labels e)

  -- one more that waits
  labels-more : (u : State) (ws : List Waiting) (w : Waiting) → AreUnspent own u (kind_labels (wait_kinds ws)) → AreUnspent own u (kind_labels (waiting_kind w ∷ [])) → AreUnspent own u (kind_labels (wait_kinds (ws ++ w ∷ [])))
  labels-more u [] w h k = k
  labels-more u (x ∷ ws) w h k = by (waiting_kind x) h (λ j. labels-more u ws w j k)
    where
      by : (o : Option Label) → AreUnspent own u (kind_labels (o ∷ wait_kinds ws)) → (AreUnspent own u (kind_labels (wait_kinds ws)) → AreUnspent own u (kind_labels (wait_kinds (ws ++ w ∷ [])))) → AreUnspent own u (kind_labels (o ∷ wait_kinds (ws ++ w ∷ [])))
      by None j rest = rest j
      by (Some l) j rest = (j.0, rest j.1)

  -- the label of a binder
  bound-one : (s u : State) (l : Label) → l ≡ as_label s.names → u.names.number ≡ s.names.number + 1 → u.keywords ≡ s.keywords → KeptAreGood own given s → Unspent own u l.0
  bound-one s u l is up same h =
      let e : l.0.number ≡ s.names.number = ap (λ (m : Label). m.0.number) is in
      (omega (arith, e, up), (λ x. let lt = h.below l.0 (subst (λ (ks : List (Label × Keyword)). IsNameOfKept own ks l.0) same x) in omega (arith, e, lt)))

  module _ (at : BodyAt) (low : is_top at.kind ≡ true → at.level ≡ 0) where
    -- a definition, with what was taken before it
    abbrev Defines : State → Taken → Taken × Label → State → Type 0
    Defines s done d u = O s u × (Unspent own u d.1.0 × (taken_labels d.0 ≡ taken_labels done))

    in-time : (s : State) (done : Taken) (id : Tree) (l : Label) (t : State) → O s t → Unspent own t l.0 → Gave (Defines s done) (after (in_time at done id t) (λ taken. give (taken, l)))
    unfolding in_time
    in-time s done id l t o h = by (any_changed false t (heads_like done id))
      where
        m : Bool
        m = done.moved || any_changed true t (heads_like done id)

        by : (c : Bool) → Gave (Defines s done) (after (if c then fault_word kind.LateDefinition id id at.place t else Ok (record done { moved = m }, t)) (λ taken. give (taken, l)))
        by true = tt
        by false = (o, (h, refl))

    spares-define : (done : Taken) (t id : Tree) (s : State) → B s → Gave (Defines s done) (define at done t id s)
    unfolding define
    spares-define done t id s b = gave-if (Defines s done) (done.has_expression && not (is_mixed at.kind)) _ _ (λ e. tt)
        (λ e. gave-after (λ l u. Binds own at.frame (is_top at.kind) s l u × Same s l u) (Defines s done) (bind_variable at.frame at.place at.level (is_top at.kind) id s) (λ l s'. after (in_time at done id s') (λ taken. give (taken, l)))
        (gave-both (Binds own at.frame (is_top at.kind) s) (Same s) (bind_variable at.frame at.place at.level (is_top at.kind) id s) (binds own at.frame at.place at.level (is_top at.kind) id s low b.sound.next) (variable-same at.frame at.place at.level (is_top at.kind) id s))
        (λ l u k. in-time s done id l u
        (onward-but own given at.frame (is_top at.kind) (l ∷ []) [] s u k.0.later k.0.adds (λ x c e. subst (λ (ks : List (Label × Keyword)). IsKeptWith ks x c) k.1 e) b)
        (bound-one s u l k.0.label k.0.up k.1 b.kept)))

    defined : (depth : ℕ) (d : Taken) (what : Waits) (x : Taken × Label) (s u : State) → wait_kind what ≡ Some x.1 → W s d → Defines s d x u → Gives own given W s (with_waiting at depth x.0 what) u
    defined depth d what x s u is k h = (
      h.0,
      labels-more u x.0.waiting (waiting_at at depth what) (subst (AreUnspent own u) (sym h.1.1) (unspent-all own s u (taken_labels d) h.0.1 k))
          (subst (λ (o : Option Label). AreUnspent own u (kind_labels (o ∷ []))) (sym is) (h.1.0, tt)),
    )

    spares-definition : (depth : ℕ) (d : Taken) (t : Tree) (x : Shape) (s : State) → B s → W s d → Gave (Gives own given W s) (define_item at depth d t x s)
    unfolding define_item
    spares-definition depth d t (shapes.Define id value) s b k =
        gave-after (Defines s d) (Gives own given W s) (define at d t id s) (λ e. give (with_waiting at depth e.0 (waits.Variable e.1 value))) (spares-define d t id s b)
        (λ e u h. defined depth d (waits.Variable e.1 value) e s u refl k h)
    spares-definition depth d t (shapes.DefineProcedure id ids forms) s b k =
        gave-after (Defines s d) (Gives own given W s) (define at d t id s) (λ e. give (with_waiting at depth e.0 (waits.Procedure e.1 t ids forms))) (spares-define d t id s b)
        (λ e u h. defined depth d (waits.Procedure e.1 t ids forms) e s u refl k h)
    spares-definition depth d t _ s b k = tt

    abbrev pub P : {A : Type 0} → State → Taken × A → Type 0
    P u p = W u p.0

    waits-so : (depth : ℕ) (d : Taken) (t : Tree) (s : State) → W s d → W s (with_expression at depth d t)
    waits-so depth d t s k = labels-more s d.waiting (waiting_at at depth (waits.Expression t)) k tt

    pub spares-plan : (depth : ℕ) (d : Taken) (t : Tree) (s : State) → B s → W s d → Gave (Gives own given (P {A = HeadItem}) s) (item_plan at depth d t s)
    spares-plan depth d t s b k = item-cases (W s) (Gives own given (P {A = HeadItem}) s) at depth s (λ e id j. j) (λ e x j. (onward-self own given s b, waits-so depth e x s j))
        (λ e x y j. gave-after (Gives own given W s) (Gives own given (P {A = HeadItem}) s) (define_item at depth e x y s) (λ z. give (z, head_items.Item items.Nothing)) (spares-definition depth e x y s b j) (λ z u l. l))
        (λ e i j. (onward-self own given s b, j)) d t k

    -- the definition of a keyword
    keyword-in-time : (s : State) (done : Taken) (id : Tree) (x : BoundSpec) (t : State) → Tells s.keywords t.keywords → Gave (λ y u. Tells s.keywords u.keywords) (after (keyword_in_time at done id t) (λ _. give x))
    unfolding keyword_in_time
    keyword-in-time s done id x t h = by (done.moved || any_changed true t (heads_like done id))
      where
        by : (c : Bool) → Gave {A = BoundSpec} (λ y u. Tells s.keywords u.keywords) (after {A = Unit {0}} (if c then fault_word kind.LateDefinition id id at.place t else Ok (tt, t)) (λ _. give x))
        by true = tt
        by false = h

    pub defined-told : (done : Taken) (t : Tree) (b : BindingSpec) (s : State) → Gave (λ x u. Tells s.keywords u.keywords) (define_keyword at done t b s)
    unfolding define_keyword
    defined-told done t b s = gave-if (λ x u. Tells s.keywords u.keywords) (done.has_expression && not (is_mixed at.kind)) _ _ (λ e. tt)
        (λ e. gave-after (λ x u. Tells s.keywords u.keywords) (λ x u. Tells s.keywords u.keywords) (bind_keyword at.frame at.place at.level b s) (λ x s'. after (keyword_in_time at done b.id s') (λ _. give x))
        (keyword-told at.frame at.place at.level b s) (keyword-in-time s done b.id))

    module _ (go : Inside) (spares : Spares own given go) where
      spares-keyword-item : (depth : ℕ) (d : Taken) (t : Tree) (b : BindingSpec) (s : State) → B s → W s d → Gave (Gives own given W s) (after (define_syntax go at depth d (definition_parts t b) s) (λ _. give d))
      unfolding define_syntax
      spares-keyword-item depth d t b s h k =
          gave-after (λ x u. O s u) (Gives own given W s) (after (define_keyword at d t b s) (expand_transformer go (site_at at.place at.level depth))) (λ _. give d)
          (gave-after (λ x u. BindsKeywords own at.frame s (x ∷ []) u × Tells s.keywords u.keywords) (λ x u. O s u) (define_keyword at d t b s) (expand_transformer go (site_at at.place at.level depth))
          (gave-both (λ x u. BindsKeywords own at.frame s (x ∷ []) u) (λ x u. Tells s.keywords u.keywords) (define_keyword at d t b s) (defines-keyword own s at s h.sound.next low d t b) (defined-told d t b s))
          (λ x u j.
          let o = onward-but own given at.frame (is_top at.kind) [] [] s u j.0.later (j.0.adds (is_top at.kind)) j.1 h in
          gave-less (Gives own given (N own given go spares) u) (λ y v. O s v) (expand_transformer go (site_at at.place at.level depth) x u) (spares-keyword own given go spares at.place at.level depth x u o.0) (λ y v g. onward-then own given s u v o g.0)))
          (λ x u o. (o, unspent-all own s u (taken_labels d) o.1 k))

      spares-performs : (depth : ℕ) (d : Taken) (t : Tree) (i : Item) (s : State) → B s → W s d → Gave (Gives own given W s) (perform_item go at depth d t i s)
      unfolding perform_item
      spares-performs depth d t items.Nothing s h k = (onward-self own given s h, k)
      spares-performs depth d t (items.Forms forms) s h k = spares-splice own given go spares at (deeper depth) d forms s low h k
      spares-performs depth d t (items.Keyword b) s h k = spares-keyword-item (deeper depth) d t b s h k
      spares-performs depth d t (items.Keywords recursive bs forms) s h k =
          goes own given (N own given go spares) W s (with_keywords go (site_at at.place at.level (deeper depth)) (let_syntax_parts recursive bs forms) s) (splice go at (deeper depth) d) (spares-keywords own given go spares at.place at.level (deeper depth) recursive bs forms s h)
          (λ xs u o w. spares-splice own given go spares at (deeper depth) d xs u low o.0 (unspent-all own s u (taken_labels d) o.1 k))

  -- Uses in a body are expanded.

  module _ (rs : List CompiledLibrary) (depth : ℕ) where
    set-spares : (at : BodyAt) (d : Taken) (t : Tree) (l : Label) (b : Bool) (s : State) → (is_top at.kind ≡ true → at.level ≡ 0) → B s → W s d → Gave (Gives own given (λ u (p : Taken × ItemOrUse). W u p.0) s) (set_item_step at depth d t l b s)
    set-spares at d t l true s low h k = (onward-self own given s h, k)
    set-spares at d t l false s low h k = (onward-self own given s h, waits-so at low depth d t s k)

    steps-spare : (at : BodyAt) (t : Tree) (d : Taken) (i : HeadItem) (s : State) → (is_top at.kind ≡ true → at.level ≡ 0) → B s → W s d → Gave (Gives own given (λ u (p : Taken × ItemOrUse). W u p.0) s) (item_step_of rs at depth t d i s)
    steps-spare at t d (head_items.Item i) s low h k = (onward-self own given s h, k)
    steps-spare at t d (head_items.Use l) s low h k = (onward-self own given s h, k)
    steps-spare at t d (head_items.SetUse l) s low h k =
        gave-after (λ b u. Later own s u × Tells s.keywords u.keywords) (Gives own given (λ u (p : Taken × ItemOrUse). W u p.0) s) (asks_variable rs (place_of t at.place) l s) (set_item_step at depth d t l)
        (gave-both (λ b u. Later own s u) (λ b u. Tells s.keywords u.keywords) (asks_variable rs (place_of t at.place) l s) (asks-later own rs (place_of t at.place) l s h.sound.next) (variable-told rs (place_of t at.place) l s))
        (λ b u j. let o = onward-later own given s u j.0 j.1 h in
        gave-less (Gives own given (λ v (p : Taken × ItemOrUse). W v p.0) u) (Gives own given (λ v (p : Taken × ItemOrUse). W v p.0) s) (set_item_step at depth d t l b u)
        (set-spares at d t l b u low o.0 (unspent-all own s u (taken_labels d) o.1 k)) (λ p v g. (onward-then own given s u v o g.0, g.1)))

    pub step-spares : (at : BodyAt) (d : Taken) (t : Tree) (s : State) → (is_top at.kind ≡ true → at.level ≡ 0) → B s → W s d → Gave (Gives own given (λ u (p : Taken × ItemOrUse). W u p.0) s) (item_step rs at depth d t s)
    unfolding item_step
    step-spares at d t s low h k =
        goes own given (λ u (p : Taken × HeadItem). W u p.0) (λ u (p : Taken × ItemOrUse). W u p.0) s (item_plan at depth d t s) (λ p. item_step_of rs at depth t p.0 p.1) (spares-plan at low depth d t s h k)
        (λ p u o w. steps-spare at t p.0 p.1 u low o.0 w)

    -- where the form stands is the same body
    abbrev pub Settles : BodyAt → State → Taken × PlannedItem → Type 0
    Settles at u p = W u p.0 × IsPlaced at p.1.at

    pub expand_uses-spares : (left : ℕ) (at : BodyAt) (d : Taken) (t : Tree) (s : State) → (is_top at.kind ≡ true → at.level ≡ 0) → B s → W s d → Gave (Gives own given (Settles at) s) (expand_item_uses_to rs left at depth d t s)
    unfolding expand_item_uses_to
    expand_uses-spares zero at d t s low h k =
        goes own given (λ u (p : Taken × ItemOrUse). W u p.0) (Settles at) s (item_step rs at depth d t s) (expand_uses.item_by (λ done l. too_many t at.place) at t) (step-spares at d t s low h k) by
      where
        by : (p : Taken × ItemOrUse) (u : State) → O s u → W u p.0 → Gave (Gives own given (Settles at) u) (expand_uses.item_by (λ done l. too_many t at.place) at t p u)
        by (e, item_steps.Item i) u o w = (onward-self own given u o.0, (w, (at.place, refl)))
        by (e, item_steps.Use l) u o w = tt
    expand_uses-spares (suc left) at d t s low h k =
        goes own given (λ u (p : Taken × ItemOrUse). W u p.0) (Settles at) s (item_step rs at depth d t s) (expand_uses.item_by (λ taken l s'. after (next_form rs left at.place t l (Some at.frame) s') (expand_item_uses_to rs left (at_use at t) depth taken)) at t) (step-spares at d t s low h k)
        (λ p u o w. by p u o w (λ e x v b j. expand_uses-spares left (at_use at t) e x v low b j))
      where
        by : (p : Taken × ItemOrUse) (u : State) → O s u → W u p.0 → ((e : Taken) (x : Tree) (v : State) → B v → W v e → Gave (Gives own given (Settles (at_use at t)) v) (expand_item_uses_to rs left (at_use at t) depth e x v))
            → Gave (Gives own given (Settles at) u) (expand_uses.item_by (λ taken l s'. after (next_form rs left at.place t l (Some at.frame) s') (expand_item_uses_to rs left (at_use at t) depth taken)) at t p u)
        by (e, item_steps.Item i) u o w next = (onward-self own given u o.0, (w, (at.place, refl)))
        by (e, item_steps.Use l) u o w next =
            gave-after (λ x v. Later own u v × Tells u.keywords v.keywords) (Gives own given (Settles at) u) (next_form rs left at.place t l (Some at.frame) u) (expand_item_uses_to rs left (at_use at t) depth e)
            (gave-both (λ x v. Later own u v) (λ x v. Tells u.keywords v.keywords) (next_form rs left at.place t l (Some at.frame) u) (next-later own rs left at.place t l (Some at.frame) u o.0.sound.next) (next-told rs left at.place t l (Some at.frame) u))
            (λ x v j. let n = onward-later own given u v j.0 j.1 o.0 in
            gave-less (Gives own given (Settles (at_use at t)) v) (Gives own given (Settles at) u) (expand_item_uses_to rs left (at_use at t) depth e x v) (next e x v n.0 (unspent-all own u v (taken_labels e) n.1 w))
            (λ y z g. (onward-then own given u v z n g.0, (g.1.0, (g.1.1.0, g.1.1.1)))))

  module _ (go : Inside) (spares : Spares own given go) where
    pub spares-item : (at : BodyAt) (depth : ℕ) (d : Taken) (t : Tree) (s : State) → (is_top at.kind ≡ true → at.level ≡ 0) → B s → W s d → Gave (Gives own given W s) (item go at depth d t s)
    unfolding item
    spares-item at depth d t s low h k =
        gave-if (Gives own given W s) (nat_lt most_round depth) _ (after (expand_item_uses go.earlier at depth d t s) (expand_body.perform_settled go depth)) (λ e. tt)
        (λ e. goes own given (Settles go.earlier depth at) W s (expand_item_uses go.earlier at depth d t s) (expand_body.perform_settled go depth) (expand_uses-spares go.earlier depth s.uses_left at d t s low h k)
        (λ p u o w. subst (λ (other : BodyAt). Gave (Gives own given W u) (perform_item go other depth p.0 p.1.form p.1.item u)) (sym w.1.1) (spares-performs (record at { place = w.1.0 }) low go spares depth p.0 p.1.form p.1.item u o.0 w.0)))
