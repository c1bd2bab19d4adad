-- Expansion gives good core code, given that it does inside forms.
use Rattle.std.proofs.Common.{◌≡◌, ℕ, ◌≤◌, List, [], ◌∷◌, Option, None, Some, refl, arith, inl, inr}
use Rattle.base_data.proofs.ElementLemmas.{each-at}
use Rattle.base_data.specs.Act.{after, give}
use Rattle.base_data.specs.Elements.{Each, Among}
use Rattle.base_data.specs.declared.library.LibName.{LibName}
use Rattle.base_data.specs.declared.name.Label.{Label}
use Rattle.base_data.specs.declared.span.Span.{Span}
use Rattle.stx_tree.specs.Tree.{Tree}
use Rattle.core_language.specs.Core.{PlainCore, two_armed, assignment, call, cores}
use Rattle.core_language.specs.declared.code.Lambda.{Lambda}
use Rattle.core_language.specs.declared.binding.Binding.TheVariants as binding
use Rattle.law_core.specs.Templates.{Depths}
use Rattle.core_shapes.specs.declared.shape.FormalIds.{FormalIds}
use Rattle.expand_standing.specs.State.{State}
use Rattle.expand_forms.specs.Body.{sequence_of}
use Rattle.expand_forms.specs.Expression.{in_order, application, alternate, conditional, set, in_sequence}
use Rattle.expand_forms.specs.Inside.{Inside}
use Rattle.expand_forms.specs.Site.{site_at}
use Rattle.expand_forms.specs.Forms.{if_parts, procedure_parts}
use Rattle.law_expand.specs.States.{Sound, Later, ReachOfCode}
use Rattle.law_expand.proofs.Acts.{Gave, gave-after, gave-both, gave-each}
use Rattle.law_expand.proofs.Fresh.{Made, Apart}
use Rattle.law_expand.proofs.Later.{later-self, later-then, sound-later}
use Rattle.law_expand.proofs.Good.{Bindings, IsVariableIn, InTurn, Good, GoodCase, IsFrom, Before, good-one_armed, good-two_armed, good-assignment, good-call, good-wider, good-sequence, good-grown}
use Rattle.law_expand.proofs.Meanings.{reach-later}
use Rattle.law_expand.proofs.Changes.{Moves}
use Rattle.law_expand.proofs.NestingBodies.{Nests}

-- what is given from one state to another is good
abbrev pub GivesGood : LibName → Depths → List Label → State → PlainCore → State → Type 0
GivesGood own vs ls s c t = Good own t.bindings vs ls s.names.number t.names.number c

abbrev pub GivesCase : LibName → Depths → List Label → State → Lambda → State → Type 0
GivesCase own vs ls s c t = GoodCase own t.bindings vs ls s.names.number t.names.number c

-- what is done inside forms gives good core code, whatever the forms are
pub record Safe (own : LibName) (given : List Label) (go : Inside) : Type 0 where
  pub moves : Moves own go
  pub nests : Nests own go
  pub form : (place : Span) (level depth : ℕ) (t : Tree) (s : State) (vs : Depths) (ls : List Label) → Sound own given s → ReachOfCode own given vs level s ls → Gave (GivesGood own vs ls s) (go.form (site_at place level depth) t s)
  pub procedure : (place : Span) (level depth : ℕ) (t : Tree) (ids : FormalIds) (forms : List Tree) (s : State) (vs : Depths) (ls : List Label) → Sound own given s → ReachOfCode own given vs level s ls
      → Gave (GivesCase own vs ls s) (go.procedure (site_at place level depth) (procedure_parts t ids forms) s)

-- what is from earlier than a number isn't made from there
pub apart-later : (own : LibName) (labels : List Label) (m n b : ℕ) (xs ys : List Label) → m ≤ n → Each (Before m) labels → Each (IsFrom own labels m n) xs → Each (λ l. Made own n b l.0) ys → Apart xs ys
apart-later own labels m n b xs ys le before h k l x y = by (each-at (IsFrom own labels m n) xs l h x) (each-at (λ (i : Label). Made own n b i.0) ys l k y)
  where
    by : IsFrom own labels m n l → Made own n b l.0 → ⊥
    by (inl a) made = let z = each-at (Before m) labels l before a in omega (arith, z, le, made.low)
    by (inr made') made = omega (arith, made'.high, made.low)

module _ (own : LibName) (given : List Label) (vs : Depths) (level : ℕ) (ls : List Label) where
  abbrev pub Starts : State → Type 0
  Starts s = Sound own given s × ReachOfCode own given vs level s ls

  pub starts-later : (s t : State) → Starts s → Later own s t → Starts t
  starts-later s t h k = (sound-later own given s t k h.0, reach-later own given vs level s t ls k h.0 h.1)

-- in a later state it is good with more bindings
pub lifted : (own : LibName) (vs : Depths) (ls : List Label) (a b : ℕ) (c : PlainCore) (t u : State) → Later own t u → Good own t.bindings vs ls a b c → Good own u.bindings vs ls a b c
lifted own vs ls a b c t u l h = good-grown own t.bindings u.bindings l.grows.bound vs ls a b c h

module _ (own : LibName) (given : List Label) (go : Inside) (safe : Safe own given go) where
  module _ (place : Span) (level depth : ℕ) (vs : Depths) (ls : List Label) where
    abbrev S : State → Type 0
    S = Starts own given vs level ls

    -- good core code, and a later state
    abbrev pub Gives : State → PlainCore → State → Type 0
    Gives s c t = Later own s t × GivesGood own vs ls s c t

    pub gives : (t : Tree) (s : State) → S s → Gave (Gives s) (go.form (site_at place level depth) t s)
    gives t s h = gave-both (λ c u. Later own s u) (GivesGood own vs ls s) (go.form (site_at place level depth) t s) (safe.moves.form place level depth t s h.0.next) (safe.form place level depth t s vs ls h.0 h.1)

    -- Expressions in order.

    abbrev GivesAll : State → List PlainCore → State → Type 0
    GivesAll s cs t = Later own s t × InTurn (Good own t.bindings vs ls) s.names.number t.names.number cs

    gives-order : (forms : List Tree) (s : State) → S s → Gave (GivesAll s) (in_order go (site_at place level depth) forms s)
    gives-order forms s h = gave-each (go.form (site_at place level depth)) (λ x t c u. Gives t c u) (λ xs t cs u. GivesAll t cs u) S (λ t k. (later-self own t k.0.next, omega arith)) (λ x t k. gives x t k)
        (λ x t u c k j. starts-later own given vs level ls t u k j.0)
        (λ x xs t u v c cs k j a. (later-then own t u v j.0 a.0, (u.names.number, (lifted own vs ls t.names.number u.names.number c u v a.0 j.1, a.1)))) forms s h

    pub gives-application : (operator : Tree) (operands : List Tree) (s : State) → S s → Gave (GivesGood own vs ls s) (application go (site_at place level depth) operator operands s)
    unfolding application
    gives-application operator operands s h =
        gave-after (Gives s) (GivesGood own vs ls s) (go.form (site_at place level depth) operator s) (λ c s'. after (in_order go (site_at place level depth) operands s') (λ cs. give (call c (cores cs)))) (gives operator s h)
        (λ c t j. gave-after (GivesAll t) (GivesGood own vs ls s) (in_order go (site_at place level depth) operands t) (λ cs. give (call c (cores cs))) (gives-order operands t (starts-later own given vs level ls s t h j.0))
        (λ cs u a. good-call own u.bindings vs ls s.names.number t.names.number u.names.number c cs (lifted own vs ls s.names.number t.names.number c t u a.0 j.1) a.1))

    gives-alternate : (s t u : State) (c d : PlainCore) (o : Option Tree) → Later own t u → GivesGood own vs ls s c t → GivesGood own vs ls t d u → S u → Gave (GivesGood own vs ls s) (alternate go (site_at place level depth) c d o u)
    gives-alternate s t u c d None l j k h = good-one_armed own u.bindings vs ls s.names.number t.names.number u.names.number c d (lifted own vs ls s.names.number t.names.number c t u l j) k
    gives-alternate s t u c d (Some x) l j k h =
        gave-after (Gives u) (GivesGood own vs ls s) (go.form (site_at place level depth) x u) (λ e. give (two_armed c d e)) (gives x u h)
        (λ e v i. good-two_armed own v.bindings vs ls s.names.number t.names.number u.names.number v.names.number c d e
        (lifted own vs ls s.names.number t.names.number c t v (later-then own t u v l i.0) j) (lifted own vs ls t.names.number u.names.number d u v i.0 k) i.1)

    pub gives-conditional : (test consequent : Tree) (other : Option Tree) (s : State) → S s → Gave (GivesGood own vs ls s) (conditional go (site_at place level depth) (if_parts test consequent other) s)
    unfolding conditional
    gives-conditional test consequent other s h =
        gave-after (Gives s) (GivesGood own vs ls s) (go.form (site_at place level depth) test s) (λ c s'. after (go.form (site_at place level depth) consequent s') (λ d. alternate go (site_at place level depth) c d other)) (gives test s h)
        (λ c t j. let h' = starts-later own given vs level ls s t h j.0 in
        gave-after (Gives t) (GivesGood own vs ls s) (go.form (site_at place level depth) consequent t) (λ d. alternate go (site_at place level depth) c d other) (gives consequent t h')
        (λ d u k. gives-alternate s t u c d other k.0 j.1 k.1 (starts-later own given vs level ls t u h' k.0)))

    pub gives-set : (l : Label) (value : Tree) (s : State) → IsVariableIn s.bindings l → Among ls l → S s → Gave (GivesGood own vs ls s) (set go (site_at place level depth) l value s)
    unfolding set
    gives-set l value s v a h =
        gave-after (Gives s) (GivesGood own vs ls s) (go.form (site_at place level depth) value s) (λ c. give (assignment l c)) (gives value s h)
        (λ c t j. good-assignment own t.bindings vs ls s.names.number t.names.number l c (v.0, j.0.grows.bound l (binding.Variable v.0) v.1) a j.1)

    -- a sequence that isn't empty
    sequence-good : (bs : Bindings) (a b : ℕ) (cs : List PlainCore) → (cs ≡ [] → ⊥) → InTurn (Good own bs vs ls) a b cs → Good own bs vs ls a b (sequence_of cs)
    sequence-good bs a b [] some h = absurd (some refl)
    sequence-good bs a b (c ∷ []) some (m, (h, k)) = good-wider own bs vs ls a m a b c (omega arith) k h
    sequence-good bs a b (c ∷ (d ∷ cs)) some h = good-sequence own bs vs ls a b c d cs h

    -- nothing comes of nothing alone
    abbrev GivesSome : List Tree → State → List PlainCore → State → Type 0
    GivesSome forms s cs t = GivesAll s cs t × (cs ≡ [] → forms ≡ [])

    pub gives-sequence : (x : Tree) (xs : List Tree) (s : State) → S s → Gave (GivesGood own vs ls s) (in_sequence go (site_at place level depth) (x ∷ xs) s)
    unfolding in_sequence
    gives-sequence x xs s h =
        gave-after (GivesSome (x ∷ xs) s) (GivesGood own vs ls s) (in_order go (site_at place level depth) (x ∷ xs) s) (λ cs. give (sequence_of cs))
        (gave-each (go.form (site_at place level depth)) (λ y t c u. Gives t c u) GivesSome S (λ t k. ((later-self own t k.0.next, omega arith), (λ e. refl))) (λ y t k. gives y t k) (λ y t u c k j. starts-later own given vs level ls t u k j.0)
        (λ y ys t u v c cs k j a. ((later-then own t u v j.0 a.0.0, (u.names.number, (lifted own vs ls t.names.number u.names.number c u v a.0.0 j.1, a.0.1))), (λ e. cc))) (x ∷ xs) s h)
        (λ cs t a. sequence-good t.bindings s.names.number t.names.number cs (λ e. let bad = a.1 e in cc) a.0.1)
