-- Bodies give good core code, given that expansion does inside forms.
use Rattle.std.proofs.Common.{◌≡◌, ℕ, suc, ◌+◌, true, false, List, [], ◌∷◌, ◌++◌, map, Option, None, Some, refl, sym, ap, subst, arith}
use Rattle.base_data.specs.Act.{after, give}
use Rattle.base_data.specs.Datum as datum
use Rattle.base_data.specs.Elements.{Each}
use Rattle.base_data.specs.declared.atom.Atom.TheVariants as atoms
use Rattle.base_data.specs.declared.library.LibName.{LibName}
use Rattle.base_data.specs.declared.name.Label.{Label}
use Rattle.base_data.specs.declared.span.Span.{Span}
use Rattle.stx_tree.specs.Changes.{stamp}
use Rattle.stx_tree.specs.Tree.{Tree}
use Rattle.core_language.specs.Core.{quoted, procedure}
use Rattle.core_language.specs.CoreView.{cases}
use Rattle.core_language.specs.declared.code.Lambda.{Lambda}
use Rattle.core_language.specs.declared.record.Line.{Line}
use Rattle.core_language.specs.declared.record.Line.TheVariants as line
use Rattle.law_core.specs.Records.{line_core}
use Rattle.law_core.specs.Templates.{Depths}
use Rattle.expand_standing.specs.State.{State, fresh, fresh_frame}
use Rattle.expand_heads.specs.Items.{begun}
use Rattle.expand_heads.specs.declared.taken.Taken.{Taken}
use Rattle.expand_heads.specs.declared.taken.Waiting.{Waiting}
use Rattle.expand_heads.specs.declared.taken.Waits.{Waits}
use Rattle.expand_heads.specs.declared.taken.Waits.TheVariants as waits
use Rattle.expand_forms.specs.Body.{splice, no_value, value_of, finish_as, finish_one, finish_all, body_core, finish, lambda_at, body_in, body}
use Rattle.expand_heads.specs.Depth.{deeper}
use Rattle.expand_forms.specs.Inside.{Inside}
use Rattle.expand_forms.specs.Site.{site_at}
use Rattle.expand_forms.specs.Forms.{procedure_parts}
use Rattle.law_expand.specs.States.{Adds, IsPattern, Later, LaterBut}
use Rattle.law_expand.proofs.Acts.{Gave, gave-after, gave-within, gave-both, gave-if, gave-each}
use Rattle.law_expand.proofs.Fresh.{Made}
use Rattle.law_expand.proofs.Later.{later-self, later-then, sound-grown}
use Rattle.law_expand.proofs.Naming.{as_frame, counted, counted-later, next-made}
use Rattle.law_expand.proofs.Good.{Bindings, InTurn, Good, GoodCase, good-quoted, good-one_armed, good-lambda, good-wider}
use Rattle.law_expand.proofs.LineLabels.{kind_labels, HasValue}
use Rattle.law_expand.proofs.Lines.{GoodLine, line_kind, kinds, good-body}
use Rattle.law_expand.proofs.Meanings.{reach-added}
use Rattle.law_expand.proofs.Items.{wait_kind, waiting_kind, wait_kinds, Takes}
use Rattle.law_expand.proofs.Changes.{moved-line, body-takes}
use Rattle.law_expand.proofs.Expand.{GivesGood, GivesCase, Safe, Starts, starts-later, lifted}

-- where labels came into scope in a new frame, and pattern variables
pub starts-with : (own : LibName) (given : List Label) (vs : Depths) (level : ℕ) (ls labels : List Label) (ds : Depths) (s u : State) → LaterBut own (as_frame s.names) (counted s) u → Adds own false labels ds (counted s) u
    → Each (λ (v : Label × ℕ). (at : ℕ) × IsPattern u v.0 at v.1) ds → Starts own given vs level ls s → Starts own given (ds ++ vs) level (labels ++ ls) u
starts-with own given vs level ls labels ds s u but adds are h =
    let next = starts-later own given vs level ls s (counted s) h (counted-later own s h.0.next) in
    (sound-grown own given (counted s) u but.here but.next but.grows adds.bound next.0, reach-added own given vs level false labels ls ds (counted s) u adds but.grows are next.0 next.1)

pub starts-framed : (own : LibName) (given : List Label) (vs : Depths) (level : ℕ) (ls labels : List Label) (s u : State) → LaterBut own (as_frame s.names) (counted s) u → Adds own false labels [] (counted s) u → Starts own given vs level ls s
    → Starts own given vs level (labels ++ ls) u
starts-framed own given vs level ls labels s u but adds h = starts-with own given vs level ls labels [] s u but adds tt h

module _ (own : LibName) (given : List Label) (go : Inside) (safe : Safe own given go) where
  -- The second pass.

  module _ (level : ℕ) (vs : Depths) (ls : List Label) where
    abbrev S : State → Type 0
    S = Starts own given vs level ls

    -- a line of the kind that waited
    abbrev GivesLine : Waiting → State → Line → State → Type 0
    GivesLine w s x t = Later own s t × (GoodLine own t.bindings vs ls s.names.number t.names.number x × (line_kind x ≡ waiting_kind w))

    pub record GivesLines (ws : List Waiting) (s : State) (xs : List Line) (t : State) : Type 0 where
      pub later : Later own s t
      pub good : InTurn (GoodLine own t.bindings vs ls) s.names.number t.names.number xs
      pub kinds : kinds xs ≡ wait_kinds ws

    no-value-good : (bs : Bindings) (n : ℕ) → Good own bs vs ls n n no_value
    no-value-good bs n =
        good-one_armed own bs vs ls n n n (quoted (datum.atom None (atoms.Bool false))) (quoted (datum.atom None (atoms.Bool false)))
        (good-quoted own bs vs ls n n (datum.atom None (atoms.Bool false)) (omega arith)) (good-quoted own bs vs ls n n (datum.atom None (atoms.Bool false)) (omega arith))

    gives-value : (place : Span) (depth : ℕ) (o : Option Tree) (s : State) → S s → Gave (GivesGood own vs ls s) (value_of go (site_at place level depth) o s)
    gives-value place depth None s h = no-value-good s.bindings s.names.number
    gives-value place depth (Some t) s h = safe.form place level depth t s vs ls h.0 h.1

    -- the procedure of a definition
    number-next : (s : State) (c : Lambda) (t : State) → s.names.library ≡ own → GivesCase own vs ls (counted s) c t → Good own t.bindings vs ls s.names.number t.names.number (procedure (record { 0 = s.names }) (cases (c ∷ [])) true)
    number-next s c t n k =
        let e : s.names.number + 1 ≡ suc s.names.number = omega arith in
        good-lambda own t.bindings vs ls s.names.number t.names.number (record { 0 = s.names }) c
        (subst (λ m. Made own s.names.number m s.names) e (next-made own s n))
        (subst (λ m. GoodCase own t.bindings vs ls m t.names.number c) e k)

    abbrev Kind : Waits → State → Line → State → Type 0
    Kind w s x t = GoodLine own t.bindings vs ls s.names.number t.names.number x × (line_kind x ≡ wait_kind w)

    gives-line : (place : Span) (depth : ℕ) (w : Waits) (s : State) → S s → Gave (Kind w s) (finish_as go (site_at place level depth) w s)
    unfolding finish_as fresh
    gives-line place depth (waits.Variable l value) s h =
        gave-after (GivesGood own vs ls s) (Kind (waits.Variable l value) s) (value_of go (site_at place level (deeper depth)) value s) (λ c. give (line.Define l c)) (gives-value place (deeper depth) value s h) (λ c t k. (k, refl))
    gives-line place depth (waits.Procedure l x ids forms) s h =
        let next = starts-later own given vs level ls s (counted s) h (counted-later own s h.0.next) in
        gave-after (GivesCase own vs ls (counted s)) (Kind (waits.Procedure l x ids forms) s) (go.procedure (site_at place level (deeper depth)) (procedure_parts x ids forms) (counted s))
        (λ c. give (line.Define l (procedure (record { 0 = s.names }) (cases (c ∷ [])) true)))
        (safe.procedure place level (deeper depth) x ids forms (counted s) vs ls next.0 next.1)
        (λ c t k. (number-next s c t h.0.next k, refl))
    gives-line place depth (waits.Expression x) s h =
        gave-after (GivesGood own vs ls s) (Kind (waits.Expression x) s) (go.form (site_at place level depth) x s) (λ c. give (line.Expr c)) (safe.form place level depth x s vs ls h.0 h.1) (λ c t k. (k, refl))

    pub gives-lines : (ws : List Waiting) (s : State) → S s → Gave (GivesLines ws s) (finish_all go level ws s)
    gives-lines ws s h =
        gave-each (finish_one go level) GivesLine (λ xs t ys u. GivesLines xs t ys u) S
        (λ t k. record { later = later-self own t k.0.next; good = omega arith; kinds = refl })
        (λ w t k. gave-both (λ x u. Later own t u) (Kind w.what t) (finish_as go (site_at w.place level w.depth) w.what t) (moved-line own go safe.moves level w.place w.depth w.what t k.0.next) (gives-line w.place w.depth w.what t k))
        (λ w t u x k j. starts-later own given vs level ls t u k j.0)
        (λ w xs t u v x ys k j a. record {
          later = later-then own t u v j.0 a.later;
          good = (u.names.number, (lifted own vs ls t.names.number u.names.number (line_core x) u v a.later j.1.0, a.good));
          kinds = λ i. j.1.1 i ∷ a.kinds i;
        })
        ws s h

  -- A body.

  module _ (place : Span) (level depth : ℕ) (t : Tree) (vs : Depths) (ls : List Label) where
    gives-finished : (d : Taken) (s u : State) → Starts own given vs level ls s → Takes own (as_frame s.names) false (counted s) (counted s) d u → Gave (GivesGood own vs ls s) (finish go place level t d u)
    unfolding finish
    gives-finished d s u h k =
        let labels = kind_labels (wait_kinds d.waiting) in
        gave-if (GivesGood own vs ls s) d.has_expression (after (finish_all go level d.waiting u) (λ xs. give (body_core xs))) _
        (λ some. gave-after (GivesLines level vs (labels ++ ls) d.waiting u) (GivesGood own vs ls s) (finish_all go level d.waiting u) (λ xs. give (body_core xs))
        (gives-lines level vs (labels ++ ls) d.waiting u (starts-framed own given vs level ls labels s u k.later k.took.adds h))
        (λ xs v a. good-wider own v.bindings vs ls (counted s).names.number v.names.number s.names.number v.names.number (body_core xs) (omega arith) (omega arith)
        (good-body own v.bindings vs ls (counted s).names.number u.names.number v.names.number labels xs (ap kind_labels a.kinds) k.took.up k.took.labels (subst HasValue (sym a.kinds) (k.took.value some)) a.good)))
        (λ e. tt)

    pub gives-body : (forms : List Tree) (s : State) → Starts own given vs level ls s → Gave (GivesGood own vs ls s) (body go (site_at place level depth) t forms s)
    unfolding body fresh_frame
    gives-body forms s h =
        gave-within (GivesGood own vs ls s) (λ u. after (fresh_frame u) (body_in go (site_at place level depth) t forms)) s
        (gave-after (Takes own (as_frame s.names) false (counted s) (counted s)) (GivesGood own vs ls s)
        (splice go (lambda_at (as_frame s.names) place level) depth begun (map (stamp (as_frame s.names)) forms) (counted s)) (finish go place level t)
        (body-takes own go safe.moves place level depth (map (stamp (as_frame s.names)) forms) s h.0.next) (λ d u k. gives-finished d s u h k))
