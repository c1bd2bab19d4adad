-- Bodies nest as deep as they may, given that forms do inside.
use Rattle.std.proofs.Common.{◌≡◌, ℕ, ◌+◌, ◌≤◌, true, false, List, [], ◌∷◌, map, Option, None, Some, refl, sym, subst, arith}
use Rattle.base_data.specs.Act.{after, give}
use Rattle.base_data.specs.Datum as datum
use Rattle.base_data.specs.Elements.{Each}
use Rattle.base_data.specs.declared.atom.Atom.TheVariants as atoms
use Rattle.base_data.specs.declared.library.LibName.{LibName}
use Rattle.base_data.specs.declared.span.Span.{Span}
use Rattle.stx_tree.specs.Changes.{stamp}
use Rattle.stx_tree.specs.Tree.{Tree}
use Rattle.core_language.specs.Core.{PlainCore, quoted, procedure}
use Rattle.core_language.specs.CoreView.{cases}
use Rattle.core_language.specs.declared.code.Init.{Init}
use Rattle.core_language.specs.declared.record.Line.{Line}
use Rattle.core_language.specs.declared.record.Line.TheVariants as line
use Rattle.law_core.specs.Records.{line_core}
use Rattle.core_shapes.specs.declared.shape.FormalIds.{FormalIds}
use Rattle.expand_standing.specs.State.{State, fresh, fresh_frame}
use Rattle.expand_heads.specs.Depth.{deeper, most_round}
use Rattle.expand_heads.specs.Items.{begun, is_top}
use Rattle.expand_heads.specs.declared.taken.BodyAt.{BodyAt}
use Rattle.expand_heads.specs.declared.taken.Taken.{Taken}
use Rattle.expand_heads.specs.declared.taken.Waiting.{Waiting}
use Rattle.expand_heads.specs.declared.taken.Waits.{Waits}
use Rattle.expand_heads.specs.declared.taken.Waits.TheVariants as waits
use Rattle.expand_forms.specs.Body.{splice, no_value, value_of, finish_as, finish_one, finish_all, sequence_of, inits_in, values_in, with_inits, body_core, finish, lambda_at, body_in, body}
use Rattle.expand_forms.specs.Inside.{Inside}
use Rattle.expand_forms.specs.Site.{site_at}
use Rattle.expand_forms.specs.Forms.{procedure_parts}
use Rattle.law_expand.specs.States.{Later}
use Rattle.law_expand.specs.Shallow.{deepest}
use Rattle.law_expand.proofs.Acts.{Gave, gave-after, gave-both, gave-gather, gave-if, gave-less, gave-within}
use Rattle.law_expand.proofs.Changes.{Moves, moved-line, took-none}
use Rattle.law_expand.proofs.Fresh.{each-map}
use Rattle.law_expand.proofs.Good.{Bindings, Extends}
use Rattle.law_expand.proofs.Items.{wait_kind, waiting_kind, wait_kinds, Took, Takes}
use Rattle.law_expand.proofs.Later.{but-self, but-then, keeps-self, keeps-then}
use Rattle.law_expand.proofs.LineLabels.{kind_labels}
use Rattle.law_expand.proofs.Lines.{line_kind, kinds}
use Rattle.law_expand.proofs.Naming.{as_frame, counted}
use Rattle.law_expand.proofs.Nesting.{deeper-next, IsDefined, IsLeveled, Within, WithinCase, WithinInit, within-at, within-grown, quoted-within, one_armed-within, in-sequence-within, procedure-within, letrec-within}
use Rattle.law_expand.proofs.NestingBinding.{Here, here-but, here-counted, Pairs, pairs-each, gave-pairs}
use Rattle.law_expand.proofs.NestingItems.{IsDeep, AreWaiting, waiting-grown}

-- what is done inside forms nests so
pub record Nests (own : LibName) (go : Inside) : Type 0 where
  pub moves : Moves own go
  pub form : (place : Span) (level depth : ℕ) (t : Tree) (s : State) → Here own s → Gave (λ c u. Within u.bindings level depth deepest c) (go.form (site_at place level depth) t s)
  pub procedure : (place : Span) (level depth : ℕ) (t : Tree) (ids : FormalIds) (forms : List Tree) (s : State) → depth ≤ most_round + 1 → Here own s → Gave (λ c u. WithinCase u.bindings level depth (deepest + 2) c) (go.procedure (site_at place level depth) (procedure_parts t ids forms) s)
  pub item : (at : BodyAt) (base depth : ℕ) (d : Taken) (t : Tree) (start s : State) → base ≤ depth → Here own s → (is_top at.kind ≡ true → at.level ≡ 0) → Took own (is_top at.kind) start d s → AreWaiting at base d s.bindings
      → Gave (λ e u. AreWaiting at base e u.bindings) (go.item at depth d t s)

-- the lines that a body comes to

abbrev pub LineWithin : Bindings → ℕ → ℕ → Waiting → Line → Type 0
LineWithin bs level base w x = Within bs level base deepest (line_core x) × (line_kind x ≡ waiting_kind w)

pub line-grown : (level base : ℕ) (w : Waiting) (x : Line) (bs cs : Bindings) → Extends bs cs → LineWithin bs level base w x → LineWithin cs level base w x
line-grown level base w x bs cs ext h = (within-grown bs cs ext level base deepest (line_core x) h.0, h.1)

pub lines-kinds : (bs : Bindings) (level base : ℕ) (ws : List Waiting) (xs : List Line) → Pairs (LineWithin bs level base) ws xs → kinds xs ≡ wait_kinds ws
lines-kinds bs level base [] [] h = refl
lines-kinds bs level base [] (x ∷ xs) h = elim h [ ]
lines-kinds bs level base (w ∷ ws) [] h = elim h [ ]
lines-kinds bs level base (w ∷ ws) (x ∷ xs) h = let k = lines-kinds bs level base ws xs h.1 in λ i. h.0.1 i ∷ k i

module _ (bs : Bindings) (level base : ℕ) (room : base ≤ most_round + 1) where
  inits-within : (xs : List Line) → Each (λ x. Within bs level base deepest (line_core x)) xs → Each (IsLeveled bs level) (kind_labels (kinds xs)) → Each (WithinInit bs level base (deepest + 1)) (inits_in xs)
  inits-within [] h k = tt
  inits-within (line.Define l c ∷ xs) h k = (record { label = k.0; value = within-at bs level base deepest base (deepest + 1) c (omega arith) h.0 }, inits-within xs h.1 k.1)
  inits-within (line.Expr c ∷ xs) h k = inits-within xs h.1 k

  values-within : (xs : List Line) → Each (λ x. Within bs level base deepest (line_core x)) xs → Each (Within bs level base deepest) (values_in xs)
  values-within [] h = tt
  values-within (line.Define l c ∷ xs) h = values-within xs h.1
  values-within (line.Expr c ∷ xs) h = (h.0, values-within xs h.1)

  with-inits-within : (is : List Init) (c : PlainCore) → Each (WithinInit bs level base (deepest + 1)) is → Within bs level base (deepest + 1) c → Within bs level base (deepest + 2) (with_inits is c)
  with-inits-within [] c h k = within-at bs level base (deepest + 1) base (deepest + 2) c (omega arith) k
  with-inits-within (i ∷ is) c h k = letrec-within bs level base (deepest + 1) (deepest + 2) (omega arith) (omega (arith, room)) true (i ∷ is) c h k

  pub body-within : (xs : List Line) → Each (λ x. Within bs level base deepest (line_core x)) xs → Each (IsLeveled bs level) (kind_labels (kinds xs)) → Within bs level base (deepest + 2) (body_core xs)
  body-within xs h k = with-inits-within (inits_in xs) (sequence_of (values_in xs)) (inits-within xs h k) (in-sequence-within bs level base deepest (deepest + 1) (omega arith) (omega (arith, room)) (values_in xs) (values-within xs h))

module _ (own : LibName) (go : Inside) (nests : Nests own go) where
  -- The second pass.

  no-value-within : (bs : Bindings) (level depth : ℕ) → depth ≤ most_round + 1 → Within bs level depth (deepest + 2) no_value
  no-value-within bs level depth le =
      let f = datum.atom None (atoms.Bool false) in
      one_armed-within bs level depth (deepest + 1) (deepest + 2) (omega arith) (quoted f) (quoted f) (quoted-within bs level depth (deepest + 1) f (omega (arith, le))) (quoted-within bs level depth (deepest + 1) f (omega (arith, le)))

  value-nests : (place : Span) (level depth : ℕ) (o : Option Tree) (s : State) → depth ≤ most_round + 1 → Here own s → Gave (λ c u. Within u.bindings level depth (deepest + 2) c) (value_of go (site_at place level depth) o s)
  value-nests place level depth None s le h = no-value-within s.bindings level depth le
  value-nests place level depth (Some t) s le h =
      gave-less (λ c u. Within u.bindings level depth deepest c) (λ c u. Within u.bindings level depth (deepest + 2) c) (go.form (site_at place level depth) t s) (nests.form place level depth t s h) (λ c u k. within-at u.bindings level depth deepest depth (deepest + 2) c (omega arith) k)

  -- what stands one deeper, nearer
  nearer : (bs : Bindings) (level base depth n : ℕ) (c : PlainCore) → base ≤ depth → depth ≤ most_round → n ≤ (deepest + 4) → Within bs level (deeper depth) n c → Within bs level base deepest c
  nearer bs level base depth n c le room most h =
      let next = deeper-next depth room in
      within-at bs level (depth + 1) n base deepest c (omega (arith, le, most)) (subst (λ d. Within bs level d n c) next h)

  line-nests : (level base depth : ℕ) (place : Span) (w : Waits) (s : State) → base ≤ depth → depth ≤ most_round → Here own s
      → Gave (λ x u. Within u.bindings level base deepest (line_core x) × (line_kind x ≡ wait_kind w)) (finish_as go (site_at place level depth) w s)
  unfolding finish_as fresh
  line-nests level base depth place (waits.Variable l value) s le room h =
      gave-after (λ c u. Within u.bindings level (deeper depth) (deepest + 2) c) (λ x u. Within u.bindings level base deepest (line_core x) × (line_kind x ≡ wait_kind (waits.Variable l value))) (value_of go (site_at place level (deeper depth)) value s) (λ c. give (line.Define l c))
      (value-nests place level (deeper depth) value s (let e = deeper-next depth room in omega (arith, e, room)) h)
      (λ c u k. (nearer u.bindings level base depth (deepest + 2) c le room (omega arith) k, refl))
  line-nests level base depth place (waits.Procedure l x ids forms) s le room h =
      let n = s.names in
      let up : deeper depth ≤ most_round + 1 = let e = deeper-next depth room in omega (arith, e, room) in
      gave-after (λ c u. WithinCase u.bindings level (deeper depth) (deepest + 2) c) (λ y u. Within u.bindings level base deepest (line_core y) × (line_kind y ≡ wait_kind (waits.Procedure l x ids forms))) (go.procedure (site_at place level (deeper depth)) (procedure_parts x ids forms) (counted s))
      (λ c. give (line.Define l (procedure (record { 0 = n }) (cases (c ∷ [])) true)))
      (nests.procedure place level (deeper depth) x ids forms (counted s) up (here-counted own s h))
      (λ c u k. (nearer u.bindings level base depth (deepest + 3) (procedure (record { 0 = n }) (cases (c ∷ [])) true) le room (omega arith) (procedure-within u.bindings level (deeper depth) (deepest + 2) (deepest + 3) (omega arith) (omega (arith, up)) (record { 0 = n }) (c ∷ []) true (k, tt)), refl))
  line-nests level base depth place (waits.Expression x) s le room h =
      gave-after (λ c u. Within u.bindings level depth deepest c) (λ y u. Within u.bindings level base deepest (line_core y) × (line_kind y ≡ wait_kind (waits.Expression x))) (go.form (site_at place level depth) x s) (λ c. give (line.Expr c)) (nests.form place level depth x s h)
      (λ c u k. (within-at u.bindings level depth deepest base deepest c (omega (arith, le)) k, refl))

  one-nests : (level base : ℕ) (w : Waiting) (s : State) → IsDeep base w → Here own s → Gave (λ x u. Later own s u × LineWithin u.bindings level base w x) (finish_one go level w s)
  one-nests level base w s deep h =
      gave-both (λ x u. Later own s u) (λ x u. LineWithin u.bindings level base w x) (finish_as go (site_at w.place level w.depth) w.what s) (moved-line own go nests.moves level w.place w.depth w.what s h.0) (line-nests level base w.depth w.place w.what s deep.0 deep.1 h)

  pub lines-nest : (level base : ℕ) (ws : List Waiting) (s : State) → Each (IsDeep base) ws → Here own s → Gave (λ xs u. Later own s u × Pairs (LineWithin u.bindings level base) ws xs) (finish_all go level ws s)
  lines-nest level base ws s deep h =
      gave-pairs own (finish_one go level) (IsDeep base) (λ bs w x. LineWithin bs level base w x) (λ bs cs ext w x k. line-grown level base w x bs cs ext k) (λ w t d k. one-nests level base w t d k) ws s deep h

  finish-nests : (at : BodyAt) (place : Span) (depth : ℕ) (t : Tree) (d : Taken) (s : State) → depth ≤ most_round + 1 → Here own s → AreWaiting at depth d s.bindings → Gave (λ c u. Within u.bindings at.level depth (deepest + 2) c) (finish go place at.level t d s)
  unfolding finish
  finish-nests at place depth t d s room h w =
      gave-if (λ c u. Within u.bindings at.level depth (deepest + 2) c) d.has_expression (after (finish_all go at.level d.waiting s) (λ xs. give (body_core xs))) _
      (λ e. gave-after (λ xs u. Later own s u × Pairs (LineWithin u.bindings at.level depth) d.waiting xs) (λ c u. Within u.bindings at.level depth (deepest + 2) c) (finish_all go at.level d.waiting s) (λ xs. give (body_core xs))
      (lines-nest at.level depth d.waiting s w.deep h)
      (λ xs u k.
      let grown = waiting-grown at depth d s.bindings u.bindings k.0.grows.bound w in
      let is : kinds xs ≡ wait_kinds d.waiting = lines-kinds u.bindings at.level depth d.waiting xs k.1 in
      body-within u.bindings at.level depth room xs
      (pairs-each (LineWithin u.bindings at.level depth) (λ x. Within u.bindings at.level depth deepest (line_core x)) (λ v x j. j.0) d.waiting xs k.1)
      (subst (λ ks. Each (IsLeveled u.bindings at.level) (kind_labels ks)) (sym is)
      (each-map (IsDefined u.bindings at.level (is_top at.kind)) (IsLeveled u.bindings at.level) (kind_labels (wait_kinds d.waiting)) grown.labels (λ l j. (is_top at.kind, j))))))
      (λ e. tt)

  -- The first pass.

  pub record Splices (at : BodyAt) (base : ℕ) (start s : State) (d : Taken) (t : State) : Type 0 where
    pub takes : Takes own at.frame (is_top at.kind) start s d t
    pub waiting : AreWaiting at base d t.bindings

  pub splice-nests : (at : BodyAt) (base depth : ℕ) (start : State) (d : Taken) (forms : List Tree) (s : State) → base ≤ depth → Here own s → (is_top at.kind ≡ true → at.level ≡ 0) → Took own (is_top at.kind) start d s → AreWaiting at base d s.bindings
      → Gave (λ e t. Splices at base start s e t) (splice go at depth d forms s)
  splice-nests at base depth start d forms s le h low k w =
      gave-gather (go.item at depth) (λ e t. Splices at base start s e t)
      (λ e x t j.
      let here = here-but own at.frame s t h j.takes.later in
      gave-less (λ y u. Takes own at.frame (is_top at.kind) start t y u × AreWaiting at base y u.bindings) (λ y u. Splices at base start s y u) (go.item at depth e x t)
      (gave-both (Takes own at.frame (is_top at.kind) start t) (λ y u. AreWaiting at base y u.bindings) (go.item at depth e x t)
      (nests.moves.item at depth e x start t here.0 low j.takes.took)
      (nests.item at base depth e x start t le here low j.takes.took j.waiting))
      (λ y u l. record {
        takes = record { later = but-then own at.frame s t u j.takes.later l.0.later; took = l.0.took; keeps = keeps-then own s t u j.takes.later.up l.0.later.up j.takes.keeps l.0.keeps };
        waiting = l.1;
      }))
      d forms s (record { takes = record { later = but-self own at.frame s h.0; took = k; keeps = keeps-self own s }; waiting = w })

  -- from its start
  pub first-nests : (at : BodyAt) (depth : ℕ) (forms : List Tree) (s : State) → Here own s → (is_top at.kind ≡ true → at.level ≡ 0) → Gave (λ e t. Splices at depth s s e t) (splice go at depth begun forms s)
  first-nests at depth forms s h low = splice-nests at depth depth s begun forms s (omega arith) h low (took-none own (is_top at.kind) s) (record { deep = tt; labels = tt })

  pub body-nests : (place : Span) (level depth : ℕ) (t : Tree) (forms : List Tree) (s : State) → depth ≤ most_round + 1 → Here own s → Gave (λ c u. Within u.bindings level depth (deepest + 2) c) (body go (site_at place level depth) t forms s)
  unfolding body fresh_frame
  body-nests place level depth t forms s room h =
      let at = lambda_at (as_frame s.names) place level in
      let some = map (stamp (as_frame s.names)) forms in
      let next = here-counted own s h in
      gave-within (λ c u. Within u.bindings level depth (deepest + 2) c) (λ u. after (fresh_frame u) (body_in go (site_at place level depth) t forms)) s
      (gave-after (λ d u. Splices at depth (counted s) (counted s) d u) (λ c u. Within u.bindings level depth (deepest + 2) c) (splice go at depth begun some (counted s)) (finish go place level t)
      (first-nests at depth some (counted s) next (λ e. absurd (cc)))
      (λ d u k. finish-nests at place depth t d u room (here-but own at.frame (counted s) u next k.takes.later) k.waiting))
