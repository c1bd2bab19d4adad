-- Bodies nest as deep as they may, given that forms do inside.
use Rattle.std.proofs.Common.{◌≡◌, ℕ, ◌+◌, ◌*◌, ◌≤◌, true, false, List, [], ◌∷◌, map, Option, None, Some, Result, Ok, Err, subst, arith}
use Rattle.base_data.specs.Act.{after, give, each}
use Rattle.base_data.specs.Datum as datum
use Rattle.base_data.specs.Elements.{Each}
use Rattle.base_data.specs.declared.atom.Atom.TheVariants as atoms
use Rattle.base_data.specs.declared.fault.Fault.{Fault}
use Rattle.base_data.specs.declared.span.Span.{Span}
use Rattle.stx_tree.specs.Changes.{stamp}
use Rattle.stx_tree.specs.Tree.{Tree}
use Rattle.core_language.specs.Core.{PlainCore, quoted, procedure}
use Rattle.core_language.specs.CoreView.{cases}
use Rattle.core_language.specs.declared.code.Init.{Init}
use Rattle.core_language.specs.declared.record.Line.{Line}
use Rattle.core_language.specs.declared.record.Line.TheVariants as line
use Rattle.law_core.specs.Records.{line_core}
use Rattle.core_shapes.specs.declared.shape.FormalIds.{FormalIds}
use Rattle.expand_standing.specs.State.{State, Does, fresh, fresh_frame}
use Rattle.expand_heads.specs.Depth.{deeper, most_round}
use Rattle.expand_heads.specs.Items.{begun}
use Rattle.expand_heads.specs.declared.taken.BodyAt.{BodyAt}
use Rattle.expand_heads.specs.declared.taken.Taken.{Taken}
use Rattle.expand_heads.specs.declared.taken.Waiting.{Waiting}
use Rattle.expand_heads.specs.declared.taken.Waits.{Waits}
use Rattle.expand_heads.specs.declared.taken.Waits.TheVariants as waits
use Rattle.expand_forms.specs.Body.{splice, no_value, value_of, finish_as, finish_one, finish_all, sequence_of, inits_in, values_in, with_inits, body_core, finish, lambda_at, body_in, body}
use Rattle.expand_forms.specs.Inside.{Inside}
use Rattle.expand_forms.specs.Site.{site_at}
use Rattle.expand_forms.specs.Forms.{procedure_parts}
use Rattle.law_expand.proofs.Acts.{Gave, gave-after, gave-each, gave-gather, gave-if, gave-less, gave-within}
use Rattle.law_expand.proofs.Naming.{as_frame, counted}
use Rattle.law_expand.proofs.Nesting.{deeper-next}
use Rattle.law_expand.proofs.NestingBinding.{Pairs}
use Rattle.law_expand.proofs.NestingItems.{IsDeep}
use Rattle.law_nesting.specs.Heights.{Between}
use Rattle.law_nesting.specs.Nesting.{deepest, IsAtMostText}
use Rattle.law_nesting.proofs.Heights.{Low, LowCase, LowInit, low-at, one_armed-low, in-sequence-low, lambda-low, letrec-low}

-- each gives what is so of it
pub gave-all : {X A : Type 0} (step : X → Does A) (P : X → A → Type 0) → ((x : X) (s : State) → Gave (λ a t. P x a) (step x s)) → (xs : List X) (s : State) → Gave (λ ys t. Pairs P xs ys) (each step [] xs s)
gave-all {X} {A} step P one xs s =
    gave-each step (λ x t a u. P x a) (λ ys t zs u. Pairs P ys zs) (λ t. Unit {0}) (λ t k. tt) (λ x t k. one x t) (λ x t u a k j. tt) (λ x ys t u v a zs k j i. (j, i)) xs s tt

-- what holds under a premise
pub gave-where : {A : Type 0} (Q : Type 0) (P : A → Type 0) (r : Result (A × State) Fault) → (Q → Gave (λ a t. P a) r) → Gave (λ a t. Q → P a) r
gave-where Q P (Ok x) h = h
gave-where Q P (Err e) h = tt

-- what waits stands at least so deep, and not too deep
abbrev pub AreDeep : ℕ → Taken → Type 0
AreDeep base d = Each (IsDeep base) d.waiting

module _ (between : Between) (few : IsAtMostText between) where
  -- what is done inside forms nests so
  pub record Nests (go : Inside) : Type 0 where
    pub form : (place : Span) (level depth : ℕ) (t : Tree) (s : State) → Gave (λ c u. Low between few depth deepest c) (go.form (site_at place level depth) t s)
    pub procedure : (place : Span) (level depth : ℕ) (t : Tree) (ids : FormalIds) (forms : List Tree) (s : State) → depth ≤ most_round + 1 → Gave (λ c u. LowCase between few depth (deepest + 2) c) (go.procedure (site_at place level depth) (procedure_parts t ids forms) s)
    pub item : (at : BodyAt) (base depth : ℕ) (d : Taken) (t : Tree) (s : State) → base ≤ depth → AreDeep base d → Gave (λ e u. AreDeep base e) (go.item at depth d t s)

  -- The lines that a body comes to. What a definition binds is one lower, since three lists stand round it.

  abbrev pub below : ℕ
  below = 4 * most_round + 3

  abbrev pub LowLine : ℕ → Line → Type 0
  LowLine base (line.Define l c) = Low between few base below c
  LowLine base (line.Expr c) = Low between few base deepest c

  pub line-low : (base : ℕ) (x : Line) → LowLine base x → Low between few base deepest (line_core x)
  line-low base (line.Define l c) h = low-at between few base below base deepest c (omega arith) h
  line-low base (line.Expr c) h = h

  module _ (base : ℕ) (room : base ≤ most_round + 1) where
    inits-low : (xs : List Line) → Each (LowLine base) xs → Each (LowInit between few base below) (inits_in xs)
    inits-low [] h = tt
    inits-low (line.Define l c ∷ xs) h = (h.0, inits-low xs h.1)
    inits-low (line.Expr c ∷ xs) h = inits-low xs h.1

    values-low : (xs : List Line) → Each (LowLine base) xs → Each (Low between few base deepest) (values_in xs)
    values-low [] h = tt
    values-low (line.Define l c ∷ xs) h = values-low xs h.1
    values-low (line.Expr c ∷ xs) h = (h.0, values-low xs h.1)

    -- a body in which a variable is defined has an expression, so it is not as deep as forms may be
    with-inits-low : (is : List Init) (c : PlainCore) → Each (LowInit between few base below) is → Low between few base (deepest + 1) c → Low between few base (deepest + 2) (with_inits is c)
    with-inits-low [] c h k = low-at between few base (deepest + 1) base (deepest + 2) c (omega arith) k
    with-inits-low (i ∷ is) c h k = letrec-low between few base below (deepest + 1) (deepest + 2) (omega arith) (omega arith) (some i h.0) true (i ∷ is) c h k
      where
        some : (j : Init) → Low between few base below j.value → 4 * base ≤ below
        some j l = omega (arith, l)

    pub body-low : (xs : List Line) → Each (LowLine base) xs → Low between few base (deepest + 2) (body_core xs)
    body-low xs h = with-inits-low (inits_in xs) (sequence_of (values_in xs)) (inits-low xs h) (in-sequence-low between few base deepest (deepest + 1) (omega arith) (omega (arith, room)) (values_in xs) (values-low xs h))

  module _ (go : Inside) (nests : Nests go) where
    -- The second pass.

    no-value-low : (depth : ℕ) → depth ≤ most_round + 1 → Low between few depth (deepest + 2) no_value
    no-value-low depth le =
        let f = datum.atom None (atoms.Bool false) in
        one_armed-low between few depth (deepest + 1) (deepest + 2) (omega arith) (quoted f) (quoted f) (omega (arith, le)) (omega (arith, le))

    value-low : (place : Span) (level depth : ℕ) (o : Option Tree) (s : State) → depth ≤ most_round + 1 → Gave (λ c u. Low between few depth (deepest + 2) c) (value_of go (site_at place level depth) o s)
    value-low place level depth None s le = no-value-low depth le
    value-low place level depth (Some t) s le =
        gave-less (λ c u. Low between few depth deepest c) (λ c u. Low between few depth (deepest + 2) c) (go.form (site_at place level depth) t s) (nests.form place level depth t s) (λ c u k. low-at between few depth deepest depth (deepest + 2) c (omega arith) k)

    -- what stands one deeper, nearer
    nearer : (base depth : ℕ) (c : PlainCore) → base ≤ depth → depth ≤ most_round → Low between few (deeper depth) (deepest + 3) c → Low between few base below c
    nearer base depth c le room h =
        low-at between few (depth + 1) (deepest + 3) base below c (omega (arith, le)) (subst (λ d. Low between few d (deepest + 3) c) (deeper-next depth room) h)

    line-nests : (level base depth : ℕ) (place : Span) (w : Waits) (s : State) → base ≤ depth → depth ≤ most_round → Gave (λ x u. LowLine base x) (finish_as go (site_at place level depth) w s)
    unfolding finish_as fresh
    line-nests level base depth place (waits.Variable l value) s le room =
        gave-after (λ c u. Low between few (deeper depth) (deepest + 2) c) (λ x u. LowLine base x) (value_of go (site_at place level (deeper depth)) value s) (λ c. give (line.Define l c))
        (value-low place level (deeper depth) value s (let e = deeper-next depth room in omega (arith, e, room)))
        (λ c u k. nearer base depth c le room (low-at between few (deeper depth) (deepest + 2) (deeper depth) (deepest + 3) c (omega arith) k))
    line-nests level base depth place (waits.Procedure l x ids forms) s le room =
        let n = s.names in
        let up : deeper depth ≤ most_round + 1 = let e = deeper-next depth room in omega (arith, e, room) in
        gave-after (λ c u. LowCase between few (deeper depth) (deepest + 2) c) (λ y u. LowLine base y) (go.procedure (site_at place level (deeper depth)) (procedure_parts x ids forms) (counted s))
        (λ c. give (line.Define l (procedure (record { 0 = n }) (cases (c ∷ [])) true)))
        (nests.procedure place level (deeper depth) x ids forms (counted s) up)
        (λ c u k. nearer base depth (procedure (record { 0 = n }) (cases (c ∷ [])) true) le room (lambda-low between few (deeper depth) (deepest + 2) (deepest + 3) (omega arith) (omega (arith, up)) (record { 0 = n }) (c ∷ []) (k, tt)))
    line-nests level base depth place (waits.Expression x) s le room =
        gave-after (λ c u. Low between few depth deepest c) (λ y u. LowLine base y) (go.form (site_at place level depth) x s) (λ c. give (line.Expr c)) (nests.form place level depth x s)
        (λ c u k. low-at between few depth deepest base deepest c (omega (arith, le)) k)

    pub lines-nest : (level base : ℕ) (ws : List Waiting) (s : State) → Each (IsDeep base) ws → Gave (λ xs u. Each (LowLine base) xs) (finish_all go level ws s)
    lines-nest level base ws s deep =
        gave-less (λ xs u. Pairs (λ (w : Waiting) x. IsDeep base w → LowLine base x) ws xs) (λ xs u. Each (LowLine base) xs) (finish_all go level ws s)
        (gave-all (finish_one go level) (λ w x. IsDeep base w → LowLine base x) (λ w t. one w t) ws s) (λ xs u k. each-line ws xs deep k)
      where
        one : (w : Waiting) (t : State) → Gave (λ x u. IsDeep base w → LowLine base x) (finish_one go level w t)
        one w t = gave-where (IsDeep base w) (LowLine base) (finish_one go level w t) (λ d. line-nests level base w.depth w.place w.what t d.0 d.1)

        each-line : (vs : List Waiting) (xs : List Line) → Each (IsDeep base) vs → Pairs (λ (w : Waiting) x. IsDeep base w → LowLine base x) vs xs → Each (LowLine base) xs
        each-line [] [] d k = tt
        each-line [] (x ∷ xs) d k = elim k [ ]
        each-line (v ∷ vs) [] d k = tt
        each-line (v ∷ vs) (x ∷ xs) d k = (k.0 d.0, each-line vs xs d.1 k.1)

    finish-nests : (place : Span) (level depth : ℕ) (t : Tree) (d : Taken) (s : State) → depth ≤ most_round + 1 → AreDeep depth d → Gave (λ c u. Low between few depth (deepest + 2) c) (finish go place level t d s)
    unfolding finish
    finish-nests place level depth t d s room deep =
        gave-if (λ c u. Low between few depth (deepest + 2) c) d.has_expression (after (finish_all go level d.waiting s) (λ xs. give (body_core xs))) _
        (λ e. gave-after (λ xs u. Each (LowLine depth) xs) (λ c u. Low between few depth (deepest + 2) c) (finish_all go level d.waiting s) (λ xs. give (body_core xs)) (lines-nest level depth d.waiting s deep)
        (λ xs u k. body-low depth room xs k))
        (λ e. tt)

    -- The first pass.

    pub splice-nests : (at : BodyAt) (base depth : ℕ) (d : Taken) (forms : List Tree) (s : State) → base ≤ depth → AreDeep base d → Gave (λ e u. AreDeep base e) (splice go at depth d forms s)
    splice-nests at base depth d forms s le deep = gave-gather (go.item at depth) (λ e u. AreDeep base e) (λ e x u k. nests.item at base depth e x u le k) d forms s deep

    pub body-nests : (place : Span) (level depth : ℕ) (t : Tree) (forms : List Tree) (s : State) → depth ≤ most_round + 1 → Gave (λ c u. Low between few depth (deepest + 2) c) (body go (site_at place level depth) t forms s)
    unfolding body fresh_frame
    body-nests place level depth t forms s room =
        let at = lambda_at (as_frame s.names) place level in
        let some = map (stamp (as_frame s.names)) forms in
        gave-within (λ c u. Low between few depth (deepest + 2) c) (λ u. after (fresh_frame u) (body_in go (site_at place level depth) t forms)) s
        (gave-after (λ d u. AreDeep depth d) (λ c u. Low between few depth (deepest + 2) c) (splice go at depth begun some (counted s)) (finish go place level t)
        (splice-nests at depth depth begun some (counted s) (omega arith) tt)
        (λ d u k. finish-nests place level depth t d u room k))
