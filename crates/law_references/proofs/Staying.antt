-- References that were taken name what their identifiers stand for in each later state.
use Rattle.std.proofs.Common.{◌≡◌, ◌≤◌, ℕ, zero, suc, true, List, [], ◌∷◌, ◌++◌, Some, Result, Ok, Err, refl, sym, ◌∙◌, arith, inl, inr}
use Rattle.std.specs.Prelude.{◌⊎◌}
use Rattle.base_data.proofs.ElementLemmas.{each-append, each-implied}
use Rattle.base_data.specs.Elements.{Among, Each}
use Rattle.base_data.specs.declared.fault.Fault.{Fault}
use Rattle.base_data.specs.declared.library.LibName.{LibName}
use Rattle.base_data.specs.declared.library.LibName.TheVariants as library
use Rattle.base_data.specs.declared.name.FrameNo.{FrameNo}
use Rattle.base_data.specs.declared.name.Label.{Label}
use Rattle.base_data.specs.declared.name.Mark.{Mark}
use Rattle.stx_tree.specs.Context.{LeafContext}
use Rattle.stx_tree.specs.Tree.{Tree, atom, leaf, pair, vector}
use Rattle.stx_tree.specs.declared.stamp.Stamp.{Stamp}
use Rattle.stx_scope.specs.Stands.{stands}
use Rattle.core_language.specs.Core.{PlainCore}
use Rattle.core_language.specs.declared.record.CompiledLibrary.{CompiledLibrary}
use Rattle.core_shapes.specs.Lists.{is_leaf}
use Rattle.expand_standing.specs.InScope.{cut}
use Rattle.expand_standing.specs.State.{State}
use Rattle.expand_forms.specs.Expression.{inside}
use Rattle.law_expand.specs.Named.{RefersTo}
use Rattle.law_expand.specs.States.{IsOld, Later}
use Rattle.law_expand.specs.Trees.{StampsAre, LeavesAre}
use Rattle.law_expand.proofs.Acts.{Gave}
use Rattle.law_expand.proofs.Later.{later-self, later-then}
use Rattle.law_expand.proofs.Named.{leaf-stays}
use Rattle.law_expand.specs.Kept.{IsKeptWith}
use Rattle.law_expand.proofs.SpentOnStage.{Tells}
use Rattle.law_fresh.specs.Leaves.{TreeHolds}
use Rattle.law_fresh.proofs.Wider.{tree_wider}
use Rattle.law_fresh_expansion.specs.Events.{HasKnownEvents}
use Rattle.law_fresh_expansion.specs.Known.{IsKnown, IsKnownFrame, HasKnown, IsNewAmong}
use Rattle.law_fresh_expansion.specs.Living.{Lives}
use Rattle.law_fresh_expansion.specs.Made.{IsMade, StampedByMade}
use Rattle.law_fresh_expansion.specs.States.{FreshStateHolds}
use Rattle.law_fresh_expansion.proofs.Having.{history-marks}
use Rattle.law_fresh_expansion.proofs.Making.{are-made}
use Rattle.law_fresh_expansion.proofs.Once.{as-history, lives-once}
use Rattle.law_fresh_expansion.proofs.Standing as standing
use Rattle.law_references.specs.Noted.{Reference, KeywordExpression, Noted, nothing, of_keywords, both, named, IsExpression}
use Rattle.law_references.specs.Namings.{Naming, namings}
use Rattle.law_references.specs.Whole.{IsOnlyVariable, KeepsOnly}
use Rattle.law_references.proofs.Templating.{named-joined}

-- known identifiers have stamps of frames that were made
module _ (own : LibName) (s : State) where
  stamps-old : (ts : List Stamp) → Each (λ (t : Stamp). IsMade own s.names.number t.frame) ts → StampsAre (IsOld own s) ts
  stamps-old [] h = tt
  stamps-old (t ∷ ts) h = (h.0, stamps-old ts h.1)

  leaves-old : (t : Tree) → TreeHolds (StampedByMade own s.names.number) t → LeavesAre (IsOld own s) t
  leaves-old (atom p a) h = tt
  leaves-old (leaf p x c) h = stamps-old c.stamps h
  leaves-old (pair p a d) h = (leaves-old a h.0, leaves-old d h.1)
  leaves-old (vector p d) h = leaves-old d h

-- what was given is what is told
pub gave-is : {A : Type 0} (r : Result (A × State) Fault) → Gave (λ a u. r ≡ Ok (a, u)) r
gave-is (Ok p) = refl
gave-is (Err e) = tt

module _ (libs : List LibName) (own : LibName) (core : Among libs library.Core) (new : IsNewAmong libs own) where
  abbrev pub K : ℕ → Mark → Type 0
  K n m = IsKnown libs own n m

  abbrev pub J : ℕ → FrameNo → Type 0
  J n f = IsKnownFrame libs own n f

  abbrev pub P : ℕ → LeafContext → Type 0
  P n c = HasKnownEvents libs own n c

  pub lives : Lives own K J P
  lives = lives-once libs own new core

  abbrev pub T : ℕ → Tree → Type 0
  T n t = TreeHolds (P n) t

  -- An identifier stands for what it stood for.

  known-at : (n : ℕ) (c : LeafContext) → P n c → HasKnown libs own n c
  known-at n c h = history-marks (K n) (J n) c (as-history (K n) (J n) c h)

  pub stays : (n : ℕ) (s u : State) → n ≤ s.names.number → Later own s u → (t : Tree) → T n t → stands u.frames t ≡ stands s.frames t
  stays n s u le l t h =
      let m = s.names.number in
      leaf-stays s.frames u.frames (IsOld own s) l.same t
      (leaves-old own s t (are-made libs own m t new (tree_wider (P n) (HasKnown libs own m) (λ c k. known-at m c (lives.rises.later n m c le k)) t h)))

  -- a reference that was taken, in a later state
  pub record Kept (u : State) (r : Reference) : Type 0 where
    pub leafy : is_leaf r.leaf ≡ true
    pub known : T r.state.names.number r.leaf
    pub code : RefersTo r.state (Some r.label) r.code ⊎ IsOnlyVariable r.state r.label r.code
    pub stood : stands r.state.frames r.leaf ≡ Some r.label
    pub before : r.state.names.number ≤ u.names.number
    pub now : stands u.frames r.leaf ≡ Some r.label

  kept-later : (s u : State) → Later own s u → (r : Reference) → Kept s r → Kept u r
  kept-later s u l r h = record {
    leafy = h.leafy;
    known = h.known;
    code = h.code;
    stood = h.stood;
    before = let le = h.before in let up = l.up in omega (arith, le, up);
    now = stays r.state.names.number s u h.before l r.leaf h.known ∙ h.now;
  }

  pub all-later : (s u : State) → Later own s u → (refs : List Reference) → Each (Kept s) refs → Each (Kept u) refs
  all-later s u l refs h = each-implied (Kept s) (Kept u) (λ r k. kept-later s u l r k) refs h

  kept-cut : (n : ℕ) (u : State) (r : Reference) → Kept u r → Kept (cut n u) r
  kept-cut n u r h = record { leafy = h.leafy; known = h.known; code = h.code; stood = h.stood; before = h.before; now = h.now }

  pub all-cut : (n : ℕ) (u : State) (refs : List Reference) → Each (Kept u) refs → Each (Kept (cut n u)) refs
  all-cut n u refs h = each-implied (Kept u) (Kept (cut n u)) (λ r k. kept-cut n u r k) refs h

  -- an expression of a keyword, whose references name what their identifiers stood for to its end
  abbrev pub KeptExpression : KeywordExpression → Type 0
  KeptExpression e = (namings e.code ≡ named e.references) × Each (Kept e.state) e.references

  -- What comes of a form, with what is noted of it that is related to it so, and whose references name these labels.
  pub record Made (R : Noted → Type 0) (m : List Naming) (s u : State) : Type 0 where
    pub noted : Noted
    pub is : R noted
    pub all : m ≡ named noted.references
    pub kept : Each (Kept u) noted.references
    pub expressions : Each KeptExpression noted.expressions
    pub told : KeepsOnly noted.expressions s u

  pub made-none : (R : Noted → Type 0) (m : List Naming) (s u : State) → R nothing → m ≡ [] → Tells s.keywords u.keywords → Made R m s u
  made-none R m s u h e k = record { noted = nothing; is = h; all = e; kept = tt; expressions = tt; told = λ l c x. inl (k l c x) }

  pub made-so : (R V : Noted → Type 0) (m n : List Naming) (s u : State) → Made R m s u → ((x : Noted) → R x → V x) → n ≡ m → Made V n s u
  made-so R V m n s u h f e = record { noted = h.noted; is = f h.noted h.is; all = e ∙ h.all; kept = h.kept; expressions = h.expressions; told = h.told }

  -- from an earlier state, and to a later one
  pub made-from : (R V : Noted → Type 0) (m n : List Naming) (s v u : State) → Tells s.keywords v.keywords → Made R m v u → ((x : Noted) → R x → V x) → n ≡ m → Made V n s u
  made-from R V m n s v u k h f e = record {
    noted = h.noted;
    is = f h.noted h.is;
    all = e ∙ h.all;
    kept = h.kept;
    expressions = h.expressions;
    told = λ l c x. by l c (h.told l c x);
  }
    where
      by : (l : Label) (c : PlainCore) → IsKeptWith v.keywords l c ⊎ IsExpression h.noted.expressions l c → IsKeptWith s.keywords l c ⊎ IsExpression h.noted.expressions l c
      by l c (inl x) = inl (k l c x)
      by l c (inr x) = inr x

  pub made-later : (R : Noted → Type 0) (m : List Naming) (s v u : State) → Later own v u → Tells v.keywords u.keywords → Made R m s v → Made R m s u
  made-later R m s v u l k h = record { noted = h.noted; is = h.is; all = h.all; kept = all-later v u l h.noted.references h.kept; expressions = h.expressions; told = λ x c e. h.told x c (k x c e) }

  -- expressions that come to be kept, and others behind them
  pub only-joined : (es others : List KeywordExpression) (s v u : State) → KeepsOnly es s v → KeepsOnly others v u → KeepsOnly (es ++ others) s u
  only-joined es others s v u h k l c x = by l c (k l c x)
    where
      first : (xs : List KeywordExpression) (l : Label) (c : PlainCore) → IsExpression xs l c → IsExpression (xs ++ others) l c
      first [] l c a = absurd a
      first (y ∷ xs) l c (inl e) = inl e
      first (y ∷ xs) l c (inr a) = inr (first xs l c a)

      last : (xs : List KeywordExpression) (l : Label) (c : PlainCore) → IsExpression others l c → IsExpression (xs ++ others) l c
      last [] l c a = a
      last (y ∷ xs) l c a = inr (last xs l c a)

      before : (l : Label) (c : PlainCore) → IsKeptWith s.keywords l c ⊎ IsExpression es l c → IsKeptWith s.keywords l c ⊎ IsExpression (es ++ others) l c
      before l c (inl e) = inl e
      before l c (inr a) = inr (first es l c a)

      by : (l : Label) (c : PlainCore) → IsKeptWith v.keywords l c ⊎ IsExpression others l c → IsKeptWith s.keywords l c ⊎ IsExpression (es ++ others) l c
      by l c (inl e) = before l c (h l c e)
      by l c (inr a) = inr (last es l c a)

  -- what came before, and what came after it
  pub made-joined : (R Q V : Noted → Type 0) (m n : List Naming) (s v u : State) → Later own v u → Made R m s v → Made Q n v u → ((x y : Noted) → R x → Q y → V (both x y)) → Made V (m ++ n) s u
  made-joined R Q V m n s v u l a b f = record {
    noted = both a.noted b.noted;
    is = f a.noted b.noted a.is b.is;
    all = (λ i. a.all i ++ b.all i) ∙ sym (named-joined a.noted.references b.noted.references);
    kept = each-append (Kept u) a.noted.references b.noted.references (all-later v u l a.noted.references a.kept) b.kept;
    expressions = each-append KeptExpression a.noted.expressions b.noted.expressions a.expressions b.expressions;
    told = only-joined a.noted.expressions b.noted.expressions s v u a.told b.told;
  }

  pub made-cut : (R V : Noted → Type 0) (m : List Naming) (n : ℕ) (s u : State) → Made R m s u → ((x : Noted) → R x → V x) → Made V m s (cut n u)
  made-cut R V m n s u h f = record { noted = h.noted; is = f h.noted h.is; all = h.all; kept = all-cut n u h.noted.references h.kept; expressions = h.expressions; told = h.told }

  -- What comes of keywords, whose expressions are related to them so.
  pub record Bound (R : List KeywordExpression → Type 0) (s u : State) : Type 0 where
    pub expressions : List KeywordExpression
    pub is : R expressions
    pub kept : Each KeptExpression expressions
    pub told : KeepsOnly expressions s u

  pub bound-none : (R : List KeywordExpression → Type 0) (s u : State) → R [] → Tells s.keywords u.keywords → Bound R s u
  bound-none R s u h k = record { expressions = []; is = h; kept = tt; told = λ l c x. inl (k l c x) }

  pub bound-from : (R V : List KeywordExpression → Type 0) (s v u : State) → Tells s.keywords v.keywords → Bound R v u → ((es : List KeywordExpression) → R es → V es) → Bound V s u
  bound-from R V s v u k h f = record { expressions = h.expressions; is = f h.expressions h.is; kept = h.kept; told = λ l c x. by l c (h.told l c x) }
    where
      by : (l : Label) (c : PlainCore) → IsKeptWith v.keywords l c ⊎ IsExpression h.expressions l c → IsKeptWith s.keywords l c ⊎ IsExpression h.expressions l c
      by l c (inl x) = inl (k l c x)
      by l c (inr x) = inr x

  pub bound-joined : (R Q V : List KeywordExpression → Type 0) (s v u : State) → Bound R s v → Bound Q v u → ((es others : List KeywordExpression) → R es → Q others → V (es ++ others)) → Bound V s u
  bound-joined R Q V s v u a b f = record {
    expressions = a.expressions ++ b.expressions;
    is = f a.expressions b.expressions a.is b.is;
    kept = each-append KeptExpression a.expressions b.expressions a.kept b.kept;
    told = only-joined a.expressions b.expressions s v u a.told b.told;
  }

  -- keywords, and what comes of forms behind them
  pub bound-made : (R : List KeywordExpression → Type 0) (Q V : Noted → Type 0) (m n : List Naming) (s v u : State) → Bound R s v → Made Q m v u → ((es : List KeywordExpression) (x : Noted) → R es → Q x → V (both (of_keywords es) x)) → n ≡ m → Made V n s u
  bound-made R Q V m n s v u a b f e = record {
    noted = both (of_keywords a.expressions) b.noted;
    is = f a.expressions b.noted a.is b.is;
    all = e ∙ b.all;
    kept = b.kept;
    expressions = each-append KeptExpression a.expressions b.noted.expressions a.kept b.expressions;
    told = only-joined a.expressions b.noted.expressions s v u a.told b.told;
  }

  -- a step from a state to a later one
  pub record Went (s u : State) : Type 0 where
    pub from : FreshStateHolds own K P s.names.number u
    pub later : Later own s u

  module _ (first : ℕ) where
    abbrev pub F : State → Type 0
    F s = FreshStateHolds own K P first s

    pub went-self : (s : State) → F s → Went s s
    went-self s h = record { from = standing.state-self own K J P lives first s h; later = later-self own s h.stage.library }

    pub went-then : (s v u : State) → Went s v → Went v u → Went s u
    went-then s v u a b = record { from = standing.from-then own K J P lives first s v u a.from b.from; later = later-then own s v u a.later b.later }

    pub goes : (s u : State) → F s → Went s u → F u
    goes s u h w = standing.state-then own K J P lives first s u h w.from

    -- by three accounts of one action
    pub gave-went : {A : Type 0} (W : ℕ → A → Type 0) (M : A → State → Type 0) (s : State) (r : Result (A × State) Fault) → standing.Gave own K J P lives first W s r → Gave (λ a u. Later own s u) r → Gave M r
        → Gave (λ a u. Went s u × (W u.names.number a × M a u)) r
    gave-went W M s (Ok p) h l k = (record { from = h.0; later = l }, (h.1, k))
    gave-went W M s (Err e) h l k = tt

    -- by the account of what may be met alone
    pub gave-from : {A : Type 0} (W : ℕ → A → Type 0) (s : State) (r : Result (A × State) Fault) → standing.Gave own K J P lives first W s r → Gave (λ a u. (FreshStateHolds own K P s.names.number u × W u.names.number a) × (r ≡ Ok (a, u))) r
    gave-from W s (Ok p) h = (h, refl)
    gave-from W s (Err e) h = tt

    -- with what is told of it besides
    pub gave-and : {A : Type 0} (W : ℕ → A → Type 0) (M : A → State → Type 0) (s : State) (r : Result (A × State) Fault) → standing.Gave own K J P lives first W s r → Gave M r
        → Gave (λ a u. (FreshStateHolds own K P s.names.number u × W u.names.number a) × M a u) r
    gave-and W M s (Ok p) h k = (h, k)
    gave-and W M s (Err e) h k = tt
