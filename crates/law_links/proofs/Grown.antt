-- What links an action adds.
use Rattle.std.proofs.Common.{◌≡◌, Bool, true, false, List, [], ◌∷◌, ◌++◌, Option, None, Some, Result, Ok, Err, refl, sym, ap, subst, ◌∙◌, append-nil, append_assoc, if◌then◌else◌, inl, inr}
use Rattle.base_data.proofs.ElementLemmas.{among-first, each-append, each-implied}
use Rattle.base_data.specs.Act.{after, each, gather}
use Rattle.base_data.specs.Elements.{Among, Each}
use Rattle.base_data.specs.declared.fault.Fault.{Fault}
use Rattle.base_data.specs.declared.name.Label.{Label}
use Rattle.base_data.specs.declared.span.Span.{Span}
use Rattle.core_language.specs.Core as core
use Rattle.core_language.specs.Core.{PlainCore}
use Rattle.core_language.specs.declared.link.Link.{Link}
use Rattle.core_language.specs.declared.link.LinkKind.{LinkKind}
use Rattle.core_language.specs.declared.link.LinkKind.TheVariants as kinds
use Rattle.eval_stage.specs.Stage.{PlainStage}
use Rattle.expand_standing.specs.State.{State, Does, staged, noted}
use Rattle.law_references.specs.Noted.{Reference, KeywordExpression, Noted, both}
use Rattle.law_links.specs.Links.{link_to, primitive_label, IsLink, CodeLinked, IsLinked, AreLinked, ExpressionsLinked, NotedLinked}

-- links of identifiers behind those that were there
pub record Grows (s u : State) : Type 0 where
  pub new : List Link
  pub are : u.links ≡ s.links ++ new
  pub all : Each IsLink new

pub grows-same : (s u : State) → u.links ≡ s.links → Grows s u
grows-same s u e = record { new = []; are = e ∙ sym (append-nil s.links); all = tt }

pub grows-then : (s t u : State) → Grows s t → Grows t u → Grows s u
grows-then s t u h k = record {
  new = h.new ++ k.new;
  are = k.are ∙ ap (λ ls. ls ++ k.new) h.are ∙ append_assoc s.links h.new k.new;
  all = each-append IsLink h.new k.new h.all k.all;
}

-- a state with the links of another
pub grows-to : (s t u : State) → u.links ≡ t.links → Grows s t → Grows s u
grows-to s t u e h = record { new = h.new; are = e ∙ h.are; all = h.all }

pub grows-from : (r s u : State) → s.links ≡ r.links → Grows s u → Grows r u
grows-from r s u e h = record { new = h.new; are = h.are ∙ ap (λ ls. ls ++ h.new) e; all = h.all }

-- a link, where the identifier has a span
pub grows-noted : (o : Option Span) (l : Label) (k : LinkKind) (s w : State) → w.links ≡ s.links → ((p : Span) → o ≡ Some p → IsLink (link_to p l k)) → Grows s (noted o l k w)
grows-noted None l k s w e h = grows-same s w e
grows-noted (Some p) l k s w e h = record { new = link_to p l k ∷ []; are = ap (λ ls. ls ++ link_to p l k ∷ []) e; all = (h p refl, tt) }

-- Actions.

abbrev pub Grew : {A : Type 0} → State → Result (A × State) Fault → Type 0
Grew s (Ok p) = Grows s p.1
Grew s (Err f) = Unit {0}

pub grew-from : {A : Type 0} (s t : State) (r : Result (A × State) Fault) → Grows s t → Grew t r → Grew s r
grew-from s t (Ok p) h k = grows-then s t p.1 h k
grew-from s t (Err f) h k = tt

pub grew-after : {A B : Type 0} (s : State) (r : Result (A × State) Fault) (k : A → Does B) → Grew s r → ((a : A) (t : State) → Grew t (k a t)) → Grew s (after r k)
grew-after s (Ok p) k h next = grew-from s p.1 (k p.0 p.1) h (next p.0 p.1)
grew-after s (Err f) k h next = tt

pub grew-if : {A : Type 0} (s : State) (b : Bool) (r q : Result (A × State) Fault) → (b ≡ true → Grew s r) → (b ≡ false → Grew s q) → Grew s (if b then r else q)
grew-if s true r q h k = h refl
grew-if s false r q h k = k refl

pub grew-each : {X Y : Type 0} (step : X → Does Y) → ((x : X) (s : State) → Grew s (step x s)) → (done : List Y) (xs : List X) (s : State) → Grew s (each step done xs s)
unfolding each
grew-each step one done [] s = grows-same s s refl
grew-each step one done (x ∷ xs) s = grew-after s (step x s) (λ a. each step (done ++ a ∷ []) xs) (one x s) (λ a t. grew-each step one (done ++ a ∷ []) xs t)

pub grew-gather : {X D : Type 0} (step : D → X → Does D) → ((d : D) (x : X) (s : State) → Grew s (step d x s)) → (d : D) (xs : List X) (s : State) → Grew s (gather step d xs s)
unfolding gather
grew-gather step one d [] s = grows-same s s refl
grew-gather step one d (x ∷ xs) s = grew-after s (step d x s) (λ e. gather step e xs) (one d x s) (λ e t. grew-gather step one e xs t)

pub grew-staged : {A : Type 0} (s : State) (r : Result (A × PlainStage) Fault) → Grew s (staged s r)
grew-staged s (Ok p) = record { new = []; are = sym (append-nil s.links); all = tt }
grew-staged s (Err f) = tt

-- what was given grew so
pub grew-given : {A : Type 0} (s : State) {r : Result (A × State) Fault} {x : A} {u : State} → r ≡ Ok (x, u) → Grew s r → Grows s u
grew-given {A} s {x = x} {u = u} e h = let k : Grew s (Ok (x, u)) = subst (λ (q : Result (A × State) Fault). Grew s q) e h in k

-- Links that were there are there later.

pub among-last : {A : Type 0} (xs : List A) (x : A) → Among (xs ++ x ∷ []) x
among-last [] x = inl refl
among-last (y ∷ xs) x = inr (among-last xs x)

pub among-later : (s u : State) → Grows s u → (k : Link) → Among s.links k → Among u.links k
among-later s u g k h = subst (λ (ls : List Link). Among ls k) (sym g.are) (among-first s.links g.new k h)

code-later : (s u : State) → Grows s u → (p : Span) (c : PlainCore) → CodeLinked s.links p c → CodeLinked u.links p c
code-later s u g p (core.variable l) h = among-later s u g (link_to p l kinds.Refer) h
code-later s u g p (core.primitive o) h = among-later s u g (link_to p (primitive_label o) (kinds.Prim o)) h
code-later s u g p _ h = tt

pub references-later : (s u : State) → Grows s u → (refs : List Reference) → AreLinked s.links refs → AreLinked u.links refs
references-later s u g refs h = each-implied (IsLinked s.links) (IsLinked u.links) (λ r k. λ p e. code-later s u g p r.code (k p e)) refs h

pub expressions-later : (s u : State) → Grows s u → (es : List KeywordExpression) → ExpressionsLinked s.links es → ExpressionsLinked u.links es
expressions-later s u g es h =
    each-implied (λ (e : KeywordExpression). AreLinked s.links e.references) (λ (e : KeywordExpression). AreLinked u.links e.references) (λ e k. references-later s u g e.references k) es h

-- What came of forms between two states: links were added, and what is noted is linked.
pub record Went (s u : State) (x : Noted) : Type 0 where
  pub grows : Grows s u
  pub linked : NotedLinked u.links x

pub record Kept (s u : State) (es : List KeywordExpression) : Type 0 where
  pub grows : Grows s u
  pub linked : ExpressionsLinked u.links es

pub both-linked : (ls : List Link) (x y : Noted) → NotedLinked ls x → NotedLinked ls y → NotedLinked ls (both x y)
both-linked ls x y h k =
    (each-append (IsLinked ls) x.references y.references h.0 k.0, each-append (λ (e : KeywordExpression). AreLinked ls e.references) x.expressions y.expressions h.1 k.1)

pub linked-later : (s u : State) → Grows s u → (x : Noted) → NotedLinked s.links x → NotedLinked u.links x
linked-later s u g x h = (references-later s u g x.references h.0, expressions-later s u g x.expressions h.1)

pub went-both : (s v u : State) (x y : Noted) → Went s v x → Went v u y → Went s u (both x y)
went-both s v u x y h k = record { grows = grows-then s v u h.grows k.grows; linked = both-linked u.links x y (linked-later v u k.grows x h.linked) k.linked }

pub went-from : (r s u : State) (x : Noted) → Grows r s → Went s u x → Went r u x
went-from r s u x g h = record { grows = grows-then r s u g h.grows; linked = h.linked }

pub went-to : (s t u : State) (x : Noted) → u.links ≡ t.links → Went s t x → Went s u x
went-to s t u x e h = record { grows = grows-to s t u e h.grows; linked = subst (λ (ls : List Link). NotedLinked ls x) (sym e) h.linked }

pub kept-both : (s v u : State) (es fs : List KeywordExpression) → Kept s v es → Kept v u fs → Kept s u (es ++ fs)
kept-both s v u es fs h k =
    record { grows = grows-then s v u h.grows k.grows; linked = each-append (λ (e : KeywordExpression). AreLinked u.links e.references) es fs (expressions-later v u k.grows es h.linked) k.linked }

pub kept-from : (r s u : State) (es : List KeywordExpression) → Grows r s → Kept s u es → Kept r u es
kept-from r s u es g h = record { grows = grows-then r s u g h.grows; linked = h.linked }
