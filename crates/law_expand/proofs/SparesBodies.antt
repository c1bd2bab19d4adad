-- Bodies spare the names of keywords, given that what is done inside forms does.
use Rattle.std.proofs.Common.{◌≡◌, ℕ, Bool, true, List, [], ◌∷◌, ◌++◌, map, Option, None, Some, refl, sym, subst}
use Rattle.base_data.specs.Act.{after, give}
use Rattle.base_data.specs.Elements.{Each}
use Rattle.base_data.specs.declared.library.LibName.{LibName}
use Rattle.base_data.specs.declared.name.CodeNo.{CodeNo}
use Rattle.base_data.specs.declared.name.Label.{Label}
use Rattle.base_data.specs.declared.span.Span.{Span}
use Rattle.stx_tree.specs.Changes.{stamp}
use Rattle.stx_tree.specs.Tree.{Tree}
use Rattle.core_language.specs.Core.{PlainCore, procedure, letrec}
use Rattle.core_language.specs.CoreView.{inits, cases}
use Rattle.core_language.specs.References.{binders, init_binders}
use Rattle.core_language.specs.declared.code.Init.{Init}
use Rattle.core_language.specs.declared.code.Lambda.{Lambda}
use Rattle.core_language.specs.declared.record.Line.{Line}
use Rattle.core_language.specs.declared.record.Line.TheVariants as line
use Rattle.law_core.specs.Parts.{parts, init_parts}
use Rattle.law_core.specs.Records.{line_core}
use Rattle.expand_standing.specs.State.{State, fresh, fresh_frame}
use Rattle.expand_heads.specs.Items.{begun, is_top}
use Rattle.expand_heads.specs.declared.taken.BodyAt.{BodyAt}
use Rattle.expand_heads.specs.declared.taken.Taken.{Taken}
use Rattle.expand_heads.specs.declared.taken.Waiting.{Waiting}
use Rattle.expand_heads.specs.declared.taken.Waits.{Waits}
use Rattle.expand_heads.specs.declared.taken.Waits.TheVariants as waits
use Rattle.expand_forms.specs.Body.{splice, no_value, value_of, finish_as, finish_one, finish_all, sequence_of, inits_in, values_in, with_inits, body_core, finish, lambda_at, body_in, body}
use Rattle.expand_heads.specs.Depth.{deeper}
use Rattle.expand_forms.specs.Inside.{Inside}
use Rattle.expand_forms.specs.Site.{site_at}
use Rattle.expand_forms.specs.Forms.{procedure_parts}
use Rattle.law_expand.proofs.Acts.{Gave, gave-less, gave-if, gave-each, gave-gather}
use Rattle.law_expand.proofs.Items.{wait_kind, wait_kinds}
use Rattle.law_expand.proofs.LineLabels.{kind_labels}
use Rattle.law_expand.proofs.Lines.{line_kind, kinds}
use Rattle.law_expand.proofs.Naming.{as_frame, counted}
use Rattle.law_expand.specs.Kept.{IsGoodState}
use Rattle.law_expand.proofs.Spent.{Unspent, Tracks, AreUnspent, away-append, away-round, AwayCase, AwayInit, cases-away, inits-away, unspent-later, unspent-all, Onward, counted-unspent}
use Rattle.law_expand.proofs.SpentBinding.{onward-self, onward-then, onward-counted}
use Rattle.law_expand.proofs.Spares.{taken_labels, Spares, Gives, goes, goes-within, C, core-lift, sequence-away}

module _ (own : LibName) (given : List Label) where
  abbrev B : State → Type 0
  B = IsGoodState own given

  abbrev O : State → State → Type 0
  O = Onward own given

  -- a procedure, whose number is new
  pub procedure-away : (u : State) (n : CodeNo) (xs : List Lambda) (plain : Bool) → Unspent own u n.0 → Each (AwayCase own u) xs → C own given u (procedure n (cases xs) plain)
  procedure-away u n xs plain h k = let r = cases-away own u xs k in record { labels = r.labels; codes = ((h, tt), r.codes) }

  with-inits-away : (u : State) (is : List Init) (c : PlainCore) → Each (AwayInit own u) is → C own given u c → C own given u (with_inits is c)
  with-inits-away u [] c h k = k
  with-inits-away u (i ∷ is) c h k =
      away-round own u (init_binders (inits (i ∷ is)) ++ binders c) (letrec true (inits (i ∷ is)) c) (init_parts (inits (i ∷ is)) ++ parts c) refl
      (away-append own u (init_binders (inits (i ∷ is))) (binders c) (init_parts (inits (i ∷ is))) (parts c) (inits-away own u (i ∷ is) h) k)

  -- Lines.

  abbrev pub LinesAway : State → List Line → Type 0
  LinesAway u xs = Each (λ (x : Line). C own given u (line_core x)) xs

  pub lines-lift : (t u : State) (xs : List Line) → Tracks own t u → LinesAway t xs → LinesAway u xs
  lines-lift t u [] k h = tt
  lines-lift t u (x ∷ xs) k h = (core-lift own given t u (line_core x) k h.0, lines-lift t u xs k h.1)

  lines-inits : (u : State) (xs : List Line) → LinesAway u xs → AreUnspent own u (kind_labels (kinds xs)) → Each (AwayInit own u) (inits_in xs)
  lines-inits u [] h k = tt
  lines-inits u (line.Define l c ∷ xs) h k = ((k.0, h.0), lines-inits u xs h.1 k.1)
  lines-inits u (line.Expr c ∷ xs) h k = lines-inits u xs h.1 k

  lines-values : (u : State) (xs : List Line) → LinesAway u xs → Each (C own given u) (values_in xs)
  lines-values u [] h = tt
  lines-values u (line.Define l c ∷ xs) h = lines-values u xs h.1
  lines-values u (line.Expr c ∷ xs) h = (h.0, lines-values u xs h.1)

  module _ (go : Inside) (spares : Spares own given go) where
    -- The first pass.

    abbrev pub T : State → Taken → Type 0
    T u e = AreUnspent own u (taken_labels e)

    pub spares-splice : (at : BodyAt) (depth : ℕ) (d : Taken) (forms : List Tree) (s : State) → (is_top at.kind ≡ true → at.level ≡ 0) → B s → T s d → Gave (Gives own given T s) (splice go at depth d forms s)
    spares-splice at depth d forms s low b k =
        gave-gather (go.item at depth) (λ e t. Gives own given T s e t)
        (λ e x t h. gave-less (Gives own given T t) (Gives own given T s) (go.item at depth e x t) (spares.item at depth e x t low h.0.0 h.1) (λ y u j. (onward-then own given s t u h.0 j.0, j.1)))
        d forms s (onward-self own given s b, k)

    -- The second pass.

    module _ (level : ℕ) where
      abbrev Kind : Waits → State → Line → Type 0
      Kind w u x = C own given u (line_core x) × (line_kind x ≡ wait_kind w)

      no-value-away : (u : State) → C own given u no_value
      no-value-away u = record { labels = tt; codes = (tt, (tt, (tt, tt))) }

      spares-value : (place : Span) (depth : ℕ) (o : Option Tree) (s : State) → B s → Gave (Gives own given (C own given) s) (value_of go (site_at place level depth) o s)
      spares-value place depth None s b = (onward-self own given s b, no-value-away s)
      spares-value place depth (Some t) s b = spares.form place level depth t s b

      spares-line : (place : Span) (depth : ℕ) (w : Waits) (s : State) → B s → Gave (Gives own given (Kind w) s) (finish_as go (site_at place level depth) w s)
      unfolding finish_as fresh
      spares-line place depth (waits.Variable l value) s b =
          goes own given (C own given) (Kind (waits.Variable l value)) s (value_of go (site_at place level (deeper depth)) value s) (λ c. give (line.Define l c)) (spares-value place (deeper depth) value s b) (λ c t o x. (onward-self own given t o.0, (x, refl)))
      spares-line place depth (waits.Procedure l t ids forms) s b =
          let start = onward-counted own given s b in
          let n : CodeNo = record { 0 = s.names } in
          gave-less (Gives own given (Kind (waits.Procedure l t ids forms)) (counted s)) (Gives own given (Kind (waits.Procedure l t ids forms)) s) (after (go.procedure (site_at place level (deeper depth)) (procedure_parts t ids forms) (counted s)) (λ c. give (line.Define l (procedure n (cases (c ∷ [])) true))))
          (goes own given (AwayCase own) (Kind (waits.Procedure l t ids forms)) (counted s) (go.procedure (site_at place level (deeper depth)) (procedure_parts t ids forms) (counted s)) (λ c. give (line.Define l (procedure n (cases (c ∷ [])) true)))
          (spares.procedure place level (deeper depth) t ids forms (counted s) start.0)
          (λ c u o x. (onward-self own given u o.0, (procedure-away u n (c ∷ []) true (unspent-later own (counted s) u s.names o.1 (counted-unspent own given s b.kept)) (x, tt), refl))))
          (λ x u j. (onward-then own given s (counted s) u start j.0, j.1))
      spares-line place depth (waits.Expression t) s b =
          goes own given (C own given) (Kind (waits.Expression t)) s (go.form (site_at place level depth) t s) (λ c. give (line.Expr c)) (spares.form place level depth t s b) (λ c u o x. (onward-self own given u o.0, (x, refl)))

      -- lines of the kinds that waited
      abbrev pub Lines : List Waiting → State → List Line → Type 0
      Lines ws u xs = LinesAway u xs × (kinds xs ≡ wait_kinds ws)

      pub spares-lines : (ws : List Waiting) (s : State) → B s → Gave (Gives own given (Lines ws) s) (finish_all go level ws s)
      spares-lines ws s b =
          gave-each (finish_one go level) (λ w t x u. Gives own given (Kind w.what) t x u) (λ vs t xs u. Gives own given (Lines vs) t xs u) B (λ t k. (onward-self own given t k, (tt, refl)))
          (λ w t k. spares-line w.place w.depth w.what t k) (λ w t u x k h. h.0.0)
          (λ w vs t u v x xs k h j. (onward-then own given t u v h.0 j.0, ((core-lift own given u v (line_core x) j.0.1 h.1.0, j.1.0), (λ i. h.1.1 i ∷ j.1.1 i))))
          ws s b

    -- A body.

    module _ (place : Span) (level depth : ℕ) (t : Tree) where
      body-away : (u : State) (xs : List Line) → LinesAway u xs → AreUnspent own u (kind_labels (kinds xs)) → C own given u (body_core xs)
      body-away u xs h k = with-inits-away u (inits_in xs) (sequence_of (values_in xs)) (lines-inits u xs h k) (sequence-away own given go spares place level depth u (values_in xs) (lines-values u xs h))

      spares-finish : (d : Taken) (s : State) → B s → T s d → Gave (Gives own given (C own given) s) (finish go place level t d s)
      unfolding finish
      spares-finish d s b k =
          gave-if (Gives own given (C own given) s) d.has_expression (after (finish_all go level d.waiting s) (λ xs. give (body_core xs))) _
          (λ some. goes own given (Lines level d.waiting) (C own given) s (finish_all go level d.waiting s) (λ xs. give (body_core xs)) (spares-lines level d.waiting s b)
          (λ xs u o x. (onward-self own given u o.0, body-away u xs x.0 (subst (λ (ks : List (Option Label)). AreUnspent own u (kind_labels ks)) (sym x.1) (unspent-all own s u (taken_labels d) o.1 k)))))
          (λ e. tt)

      pub spares-body : (forms : List Tree) (s : State) → B s → Gave (Gives own given (C own given) s) (body go (site_at place level depth) t forms s)
      unfolding body fresh_frame
      spares-body forms s b =
          let f = as_frame s.names in
          let z = counted s in
          let start = onward-counted own given s b in
          let first = splice go (lambda_at f place level) depth begun (map (stamp f) forms) z in
          goes-within own given (C own given) (core-lift own given) (λ u. after (fresh_frame u) (body_in go (site_at place level depth) t forms)) s
          (gave-less (Gives own given (C own given) z) (Gives own given (C own given) s) (after first (finish go place level t))
          (goes own given T (C own given) z first (finish go place level t) (spares-splice (lambda_at f place level) depth begun (map (stamp f) forms) z (λ e. absurd (cc)) start.0 tt) (λ d u o k. spares-finish d u o.0 k))
          (λ c u j. (onward-then own given s z u start j.0, j.1)))
