-- What forms expand to has no name of a keyword's expression that is kept, given that what is done inside forms does not.
use Rattle.std.proofs.Common.{◌≡◌, ℕ, ◌+◌, ◌≤◌, ◌<◌, Bool, true, false, List, [], ◌∷◌, ◌++◌, map, length, Option, None, Some, Result, refl, sym, ◌∙◌, subst, arith, inl, inr}
use Rattle.std.specs.Prelude.{◌⊎◌}
use Rattle.base_data.proofs.ElementLemmas.{each-at}
use Rattle.base_data.specs.Act.{after, give, each, gather}
use Rattle.base_data.specs.Elements.{Each}
use Rattle.base_data.specs.Named.{Named}
use Rattle.base_data.specs.declared.fault.Fault.{Fault}
use Rattle.base_data.specs.declared.library.LibName.{LibName}
use Rattle.base_data.specs.declared.name.CodeNo.{CodeNo}
use Rattle.base_data.specs.declared.name.FrameNo.{FrameNo}
use Rattle.base_data.specs.declared.name.Label.{Label}
use Rattle.base_data.specs.declared.span.Span.{Span}
use Rattle.stx_tree.specs.Changes.{stamp}
use Rattle.stx_tree.specs.Tree.{Tree}
use Rattle.core_language.specs.Core.{PlainCore, one_armed, two_armed, assignment, sequence, call, cores}
use Rattle.core_language.specs.References.{binders, all_binders}
use Rattle.law_core.specs.Parts.{parts, all_parts, code_numbers}
use Rattle.core_shapes.specs.At.{place_of}
use Rattle.core_shapes.specs.declared.shape.BindingSpec.{BindingSpec}
use Rattle.core_shapes.specs.declared.shape.FormalIds.{FormalIds}
use Rattle.expand_standing.specs.InScope.{cut, within, apart, restoring}
use Rattle.expand_standing.specs.State.{State, Does, fresh_frame}
use Rattle.expand_standing.specs.Uses.{bind_keywords, evaluate_transformer}
use Rattle.expand_standing.specs.declared.binders.BoundSpec.{BoundSpec}
use Rattle.expand_heads.specs.declared.taken.BodyAt.{BodyAt}
use Rattle.expand_heads.specs.declared.taken.Taken.{Taken}
use Rattle.expand_heads.specs.Items.{is_top}
use Rattle.expand_forms.specs.Body.{sequence_of}
use Rattle.expand_forms.specs.Expression.{in_order, application, alternate, conditional, set, in_sequence}
use Rattle.expand_forms.specs.Inside.{Inside}
use Rattle.expand_forms.specs.Keywords.{expand_transformer, seen_in, expand_transformer_in, expand_transformers, keywords, with_keywords}
use Rattle.expand_forms.specs.Site.{site_at}
use Rattle.expand_forms.specs.Forms.{if_parts, let_syntax_parts, procedure_parts}
use Rattle.law_expand.specs.Shallow.{deepest, IsShallow}
use Rattle.law_expand.specs.States.{IsOwn, ReachOfCode, Later}
use Rattle.law_expand.proofs.Acts.{Gave, gave-after, gave-less, gave-both, gave-each, gave-within}
use Rattle.law_expand.proofs.BindingKeywords.{BindsKeywords, binds-keywords}
use Rattle.law_expand.proofs.Expand.{GivesGood, Safe}
use Rattle.law_expand.proofs.Fresh.{Made}
use Rattle.law_expand.proofs.Good.{Good}
use Rattle.law_expand.proofs.Items.{wait_kinds}
use Rattle.law_expand.proofs.LineLabels.{kind_labels}
use Rattle.law_expand.proofs.Naming.{as_frame, as_label, counted}
use Rattle.law_expand.proofs.Nesting.{Within}
use Rattle.law_expand.proofs.Uses.{later-apart, finish-later}
use Rattle.law_expand.proofs.WellMade.{good-well-made, good-primitives}
use Rattle.law_expand.specs.Kept.{IsKeptWith, MakesName, code_named, IsKeptExpression, KeptAreGood, IsGoodState}
use Rattle.law_expand.proofs.Spent.{IsSpent, Tracks, AreUnspent, AwayCore, away-append, away-round, away-later, AwayCase, all-away, away-has, kept-less, Onward}
use Rattle.law_expand.proofs.SpentOnStage.{Tells, TellsBut, finish-told}
use Rattle.law_expand.proofs.SpentBinding.{keywords-told, begins-later, onward-self, onward-then, onward-but, onward-counted, onward-cut}

-- the labels that wait for their values
abbrev pub taken_labels : Taken → List Label
taken_labels d = kind_labels (wait_kinds d.waiting)

-- what is done inside forms spares the names of keywords
pub record Spares (own : LibName) (given : List Label) (go : Inside) : Type 0 where
  pub safe : Safe own given go
  pub form : (place : Span) (level depth : ℕ) (t : Tree) (s : State) → IsGoodState own given s → Gave (λ c u. Onward own given s u × AwayCore own u c) (go.form (site_at place level depth) t s)
  pub procedure : (place : Span) (level depth : ℕ) (t : Tree) (ids : FormalIds) (forms : List Tree) (s : State) → IsGoodState own given s → Gave (λ c u. Onward own given s u × AwayCase own u c) (go.procedure (site_at place level depth) (procedure_parts t ids forms) s)
  pub item : (at : BodyAt) (depth : ℕ) (d : Taken) (t : Tree) (s : State) → (is_top at.kind ≡ true → at.level ≡ 0) → IsGoodState own given s → AreUnspent own s (taken_labels d)
      → Gave (λ e u. Onward own given s u × AreUnspent own u (taken_labels e)) (go.item at depth d t s)

module _ (own : LibName) (given : List Label) where
  abbrev B : State → Type 0
  B = IsGoodState own given

  abbrev O : State → State → Type 0
  O = Onward own given

  -- from a state on, with what holds of a value
  abbrev pub Gives : {A : Type 0} → (State → A → Type 0) → State → A → State → Type 0
  Gives W s a u = O s u × W u a

  pub goes : {A C : Type 0} (W : State → A → Type 0) (V : State → C → Type 0) (s : State) (r : Result (A × State) Fault) (k : A → Does C) → Gave (Gives W s) r → ((a : A) (t : State) → O s t → W t a → Gave (Gives V t) (k a t)) → Gave (Gives V s) (after r k)
  goes W V s r k h next = gave-after (Gives W s) (Gives V s) r k h (λ a t g. gave-less (Gives V t) (Gives V s) (k a t) (next a t g.0 g.1) (λ c u j. (onward-then own given s t u g.0 j.0, j.1)))

  pub goes-each : {X A : Type 0} (step : X → Does A) (W : State → A → Type 0) → ((t u : State) (a : A) → Tracks own t u → W t a → W u a) → ((x : X) (s : State) → B s → Gave (Gives W s) (step x s))
      → (xs : List X) (s : State) → B s → Gave (Gives (λ u ys. Each (W u) ys) s) (each step [] xs s)
  goes-each step W lift one xs s b =
      gave-each step (λ x t a u. Gives W t a u) (λ xs t ys u. Gives (λ v zs. Each (W v) zs) t ys u) B (λ t k. (onward-self own given t k, tt)) one (λ x t u a k h. h.0.0)
      (λ x xs t u v a ys k h j. (onward-then own given t u v h.0 j.0, (lift u v a j.0.1 h.1, j.1))) xs s b

  -- what comes into scope goes
  pub goes-within : {A : Type 0} (W : State → A → Type 0) → ((t u : State) (a : A) → Tracks own t u → W t a → W u a) → (m : Does A) (s : State) → Gave (Gives W s) (m s) → Gave (Gives W s) (within m s)
  goes-within W lift m s h = gave-within (Gives W s) m s (gave-less (Gives W s) (λ a t. Gives W s a (cut (length s.scope) t)) (m s) h (λ a t g.
      let c = onward-cut own given (length s.scope) t g.0.0 in (onward-then own given s t (cut (length s.scope) t) g.0 c, lift t (cut (length s.scope) t) a c.1 g.1)))

  abbrev pub C : State → PlainCore → Type 0
  C u c = AwayCore own u c

  pub core-lift : (t u : State) (c : PlainCore) → Tracks own t u → C t c → C u c
  core-lift t u c k h = away-later own t u (binders c) (parts c) k h

  module _ (go : Inside) (spares : Spares own given go) where
    module _ (place : Span) (level depth : ℕ) where
      spares-order : (forms : List Tree) (s : State) → B s → Gave (Gives (λ u cs. Each (C u) cs) s) (in_order go (site_at place level depth) forms s)
      spares-order forms s b = goes-each (go.form (site_at place level depth)) C core-lift (λ x t k. spares.form place level depth x t k) forms s b

      pub spares-application : (operator : Tree) (operands : List Tree) (s : State) → B s → Gave (Gives C s) (application go (site_at place level depth) operator operands s)
      unfolding application
      spares-application operator operands s b =
          goes C C s (go.form (site_at place level depth) operator s) (λ c s'. after (in_order go (site_at place level depth) operands s') (λ cs. give (call c (cores cs)))) (spares.form place level depth operator s b)
          (λ c t o w. goes (λ u cs. Each (C u) cs) C t (in_order go (site_at place level depth) operands t) (λ cs. give (call c (cores cs))) (spares-order operands t o.0)
          (λ cs u j x. (
            onward-self own given u j.0,
            away-round own u (binders c ++ all_binders (cores cs)) (call c (cores cs)) (parts c ++ all_parts (cores cs)) refl (away-append own u (binders c) (all_binders (cores cs)) (parts c) (all_parts (cores cs)) (core-lift t u c j.1 w) (all-away own u cs x)),
          )))

      spares-alternate : (c d : PlainCore) (o : Option Tree) (s : State) → B s → C s c → C s d → Gave (Gives C s) (alternate go (site_at place level depth) c d o s)
      spares-alternate c d None s b w x = (onward-self own given s b, away-round own s (binders c ++ binders d) (one_armed c d) (parts c ++ parts d) refl (away-append own s (binders c) (binders d) (parts c) (parts d) w x))
      spares-alternate c d (Some t) s b w x =
          goes C C s (go.form (site_at place level depth) t s) (λ e. give (two_armed c d e)) (spares.form place level depth t s b)
          (λ e u o y. (
            onward-self own given u o.0,
            away-round own u (binders c ++ (binders d ++ binders e)) (two_armed c d e) (parts c ++ (parts d ++ parts e)) refl
                (away-append own u (binders c) (binders d ++ binders e) (parts c) (parts d ++ parts e) (core-lift s u c o.1 w) (away-append own u (binders d) (binders e) (parts d) (parts e) (core-lift s u d o.1 x) y)),
          ))

      pub spares-conditional : (test consequent : Tree) (other : Option Tree) (s : State) → B s → Gave (Gives C s) (conditional go (site_at place level depth) (if_parts test consequent other) s)
      unfolding conditional
      spares-conditional test consequent other s b =
          goes C C s (go.form (site_at place level depth) test s) (λ c s'. after (go.form (site_at place level depth) consequent s') (λ d. alternate go (site_at place level depth) c d other)) (spares.form place level depth test s b)
          (λ c t o w. goes C C t (go.form (site_at place level depth) consequent t) (λ d. alternate go (site_at place level depth) c d other) (spares.form place level depth consequent t o.0)
          (λ d u j x. spares-alternate c d other u j.0 (core-lift t u c j.1 w) x))

      pub spares-set : (l : Label) (value : Tree) (s : State) → B s → Gave (Gives C s) (set go (site_at place level depth) l value s)
      unfolding set
      spares-set l value s b = goes C C s (go.form (site_at place level depth) value s) (λ c. give (assignment l c)) (spares.form place level depth value s b)
          (λ c u o w. (onward-self own given u o.0, away-round own u (binders c) (assignment l c) (parts c) refl w))

      pub sequence-away : (u : State) (cs : List PlainCore) → Each (C u) cs → C u (sequence_of cs)
      sequence-away u [] h = away-round own u [] (sequence (cores [])) [] refl (all-away own u [] h)
      sequence-away u (c ∷ []) h = h.0
      sequence-away u (c ∷ (d ∷ cs)) h = away-round own u (all_binders (cores (c ∷ (d ∷ cs)))) (sequence (cores (c ∷ (d ∷ cs)))) (all_parts (cores (c ∷ (d ∷ cs)))) refl (all-away own u (c ∷ (d ∷ cs)) h)

      pub spares-sequence : (forms : List Tree) (s : State) → B s → Gave (Gives C s) (in_sequence go (site_at place level depth) forms s)
      unfolding in_sequence
      spares-sequence forms s b = goes (λ u cs. Each (C u) cs) C s (in_order go (site_at place level depth) forms s) (λ cs. give (sequence_of cs)) (spares-order forms s b)
          (λ cs u o w. (onward-self own given u o.0, sequence-away u cs w))

    -- Keywords.

    -- the expression of a keyword
    abbrev pub Expressed : State → PlainCore → State → Type 0
    Expressed s c w = O s w × ((C w c × IsShallow c) × Good own w.bindings [] given s.names.number w.names.number c)

    pub has-made : (w : State) (a b : ℕ) (c : PlainCore) (n : Named) → Good own w.bindings [] given a b c → MakesName c n → Made own a b n
    has-made w a b c n h (inl x) = each-at (λ (l : Label). Made own a b l.0) (binders c) (as_label n) h.binders.made x
    has-made w a b c n h (inr x) = each-at (λ (m : CodeNo). Made own a b m.0) (code_numbers c) (code_named n) h.inner.codes.made x

    -- with nothing in scope
    pub nothing-begins : (s : State) → B s → B (record s { scope = [] })
    nothing-begins s b = record {
      sound = record { here = b.sound.here; next = b.sound.next; defined = b.sound.defined; primitives = b.sound.primitives; in_scope = tt; numbered = b.sound.numbered };
      level = b.level;
      kept = (kept-less own given s (record s { scope = [] }) (omega arith) (λ k c o e. e) b.kept).0;
    }

    nothing-reached : (level : ℕ) (s : State) → B s → ReachOfCode own given [] (level + 1) (record s { scope = [] }) given
    nothing-reached level s b = record {
      scope = tt;
      top = λ l v o t. (b.level l v o t, (λ e. absurd (omega (arith, e))));
      foreign = λ l a. a;
      depths = λ l at depth a p. elim a [ ];
      patterns = tt;
    }

    pub expresses : (place : Span) (level depth : ℕ) (t : Tree) (s : State) → B s → Gave (Expressed s) (apart (go.form (site_at place (level + 1) depth) t) s)
    expresses place level depth t s b =
        let z : State = record s { scope = [] } in
        let start = nothing-begins s b in
        gave-after (λ c u. (Later own z u × Within u.bindings (level + 1) depth deepest c) × (GivesGood own [] given z c u × Gives C z c u)) (Expressed s) (go.form (site_at place (level + 1) depth) t z) (restoring s.scope)
        (gave-both (λ c u. Later own z u × Within u.bindings (level + 1) depth deepest c) (λ c u. GivesGood own [] given z c u × Gives C z c u) (go.form (site_at place (level + 1) depth) t z)
        (gave-both (λ c u. Later own z u) (λ c u. Within u.bindings (level + 1) depth deepest c) (go.form (site_at place (level + 1) depth) t z) (spares.safe.moves.form place (level + 1) depth t z b.sound.next) (spares.safe.nests.form place (level + 1) depth t z (b.sound.next, b.sound.numbered)))
        (gave-both (GivesGood own [] given z) (Gives C z) (go.form (site_at place (level + 1) depth) t z) (spares.safe.form place (level + 1) depth t z [] given start.sound (nothing-reached level s b)) (spares.form place (level + 1) depth t z start)))
        (λ c u h.
        let w : State = record u { scope = s.scope } in
        let later : Later own s w = later-apart own s u h.0.0 in
        let same = kept-less own given u w (omega arith) (λ k d o e. e) h.1.1.0.0.kept in
        ((begins-later own given s w later same.0 b, record { up = h.1.1.0.1.up; spent = h.1.1.0.1.spent }), ((core-lift u w c same.1 h.1.1.1, (let low = h.0.1.low in omega (arith, low))), h.1.0)))

    -- what is kept then
    finished : (s w v : State) (l : Label) (c : PlainCore) → Expressed s c w → Later own w v → TellsBut l c w.keywords v.keywords → O s v
    finished s w v l c x later tells = (begins-later own given w v later kept x.0.0, record { up = let u = x.0.1.up in omega (arith, u, later.up); spent = λ n y. spent n y })
      where
        below : (n : Named) → IsSpent own v n → n.number < v.names.number
        below n (k, (d, (o, (e, y)))) = by (tells k d e)
          where
            by : IsKeptWith w.keywords k d ⊎ ((k ≡ l) × (d ≡ c)) → n.number < v.names.number
            by (inl f) = let lt = x.0.0.kept.below n (k, (d, (o, (f, y)))) in omega (arith, lt, later.up)
            by (inr i) = let m = has-made w s.names.number w.names.number c n x.1.1 (subst (λ (z : PlainCore). MakesName z n) i.1 y) in omega (arith, m.high, later.up)

        new-good : IsKeptExpression own given c
        new-good = record {
          closed = x.1.1.closed;
          well_made = good-well-made own w.bindings [] given s.names.number w.names.number c tt x.1.1;
          primitives = good-primitives own w.bindings [] given s.names.number w.names.number c x.1.1;
          names_here = λ n y. (has-made w s.names.number w.names.number c n x.1.1 y).library;
          shallow = x.1.0.1;
        }

        good : (k : Label) (d : PlainCore) → IsOwn own k.0 → IsKeptWith w.keywords k d ⊎ ((k ≡ l) × (d ≡ c)) → IsKeptExpression own given d
        good k d o (inl e) = x.0.0.kept.good k d o e
        good k d o (inr i) = subst (IsKeptExpression own given) (sym i.1) new-good

        -- the new expression shares no name with an old one
        never : (k : Label) (d : PlainCore) (n : Named) → IsOwn own k.0 → IsKeptWith w.keywords k d → MakesName d n → MakesName c n → ⊥
        never k d n o e y z = (away-has own w c n x.1.0.0 z).1 (k, (d, (o, (e, y))))

        apart-so : (k m : Label) (d e : PlainCore) (n : Named) → IsOwn own k.0 → IsOwn own m.0 → IsKeptWith w.keywords k d ⊎ ((k ≡ l) × (d ≡ c)) → IsKeptWith w.keywords m e ⊎ ((m ≡ l) × (e ≡ c)) → MakesName d n → MakesName e n → k ≡ m
        apart-so k m d e n o p (inl f) (inl g) y z = x.0.0.kept.apart k m d e n o p f g y z
        apart-so k m d e n o p (inl f) (inr i) y z = absurd (never k d n o f y (subst (λ (q : PlainCore). MakesName q n) i.1 z))
        apart-so k m d e n o p (inr i) (inl g) y z = absurd (never m e n p g z (subst (λ (q : PlainCore). MakesName q n) i.1 y))
        apart-so k m d e n o p (inr i) (inr j) y z = i.0 ∙ sym j.0

        kept : KeptAreGood own given v
        kept = record {
          below = below;
          good = λ k d o e. good k d o (tells k d e);
          apart = λ k m d e n o p f g y z. apart-so k m d e n o p (tells k d f) (tells m e g) y z;
        }

        spent : (n : Named) → IsSpent own v n → IsSpent own s n ⊎ (s.names.number ≤ n.number)
        spent n (k, (d, (o, (e, y)))) = by (tells k d e)
          where
            by : IsKeptWith w.keywords k d ⊎ ((k ≡ l) × (d ≡ c)) → IsSpent own s n ⊎ (s.names.number ≤ n.number)
            by (inl f) = x.0.1.spent n (k, (d, (o, (f, y))))
            by (inr i) = inr (has-made w s.names.number w.names.number c n x.1.1 (subst (λ (z : PlainCore). MakesName z n) i.1 y)).low

    -- nothing is said of what is given
    abbrev pub N : {A : Type 0} → State → A → Type 0
    N u a = Unit {0}

    pub spares-keyword : (place : Span) (level depth : ℕ) (b : BoundSpec) (s : State) → B s → Gave (Gives (N {A = Unit {0}}) s) (expand_transformer go (site_at place level depth) b s)
    unfolding expand_transformer
    spares-keyword place level depth b s h =
        gave-after (Expressed s) (Gives (N {A = Unit {0}}) s) (apart (go.form (site_at place (level + 1) depth) b.init) s) (evaluate_transformer go.earlier (place_of b.init place) b.label) (expresses place level depth b.init s h)
        (λ c w x. gave-less (λ a v. Later own w v × TellsBut b.label c w.keywords v.keywords) (Gives (N {A = Unit {0}}) s) (evaluate_transformer go.earlier (place_of b.init place) b.label c w)
        (gave-both (λ a v. Later own w v) (λ a v. TellsBut b.label c w.keywords v.keywords) (evaluate_transformer go.earlier (place_of b.init place) b.label c w)
        (finish-later own go.earlier (place_of b.init place) b.label c w x.0.0.sound.next) (finish-told go.earlier (place_of b.init place) b.label c w))
        (λ a v k. (finished s w v b.label c x k.0 k.1, tt)))

    spares-all : (place : Span) (level depth : ℕ) (recursive : Bool) (f : FrameNo) (bs : List BoundSpec) (s : State) → B s → Gave (Gives (N {A = Unit {0}}) s) (expand_transformers go (site_at place level depth) recursive f bs s)
    unfolding gather
    spares-all place level depth recursive f [] s h = (onward-self own given s h, tt)
    spares-all place level depth recursive f (b ∷ bs) s h =
        goes N N s (expand_transformer_in go (site_at place level depth) recursive f tt b s) (λ e. gather (expand_transformer_in go (site_at place level depth) recursive f) e bs) (spares-keyword place level depth (seen_in recursive f b) s h)
        (λ e u o w. spares-all place level depth recursive f bs u o.0)

    pub spares-keywords : (place : Span) (level depth : ℕ) (recursive : Bool) (bs : List BindingSpec) (forms : List Tree) (s : State) → B s → Gave (Gives (N {A = List Tree}) s) (with_keywords go (site_at place level depth) (let_syntax_parts recursive bs forms) s)
    unfolding fresh_frame keywords
    spares-keywords place level depth recursive bs forms s h =
        let f = as_frame s.names in
        let z = counted s in
        let start = onward-counted own given s h in
        gave-less (Gives (N {A = List Tree}) z) (Gives (N {A = List Tree}) s) (after (keywords go (site_at place level depth) recursive bs f z) (λ _. give (map (stamp f) forms)))
        (goes (N {A = Unit {0}}) N z (keywords go (site_at place level depth) recursive bs f z) (λ _. give (map (stamp f) forms))
        (gave-after (λ xs u. BindsKeywords own f z xs u × Tells z.keywords u.keywords) (Gives N z) (bind_keywords f place level bs z) (expand_transformers go (site_at place level depth) recursive f)
        (gave-both (BindsKeywords own f z) (λ xs u. Tells z.keywords u.keywords) (bind_keywords f place level bs z) (binds-keywords own f place level bs z h.sound.next) (keywords-told f place level bs z))
        (λ xs u k.
        let o = onward-but own given f false [] [] z u k.0.later (k.0.adds false) k.1 start.0 in
        gave-less (Gives N u) (Gives N z) (expand_transformers go (site_at place level depth) recursive f xs u) (spares-all place level depth recursive f xs u o.0) (λ a v j. (onward-then own given z u v o j.0, tt))))
        (λ a u o w. (onward-self own given u o.0, tt)))
        (λ a u j. (onward-then own given s z u start j.0, tt))
