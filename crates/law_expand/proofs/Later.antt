-- From states to later ones.
use Rattle.std.proofs.Common.{◌≡◌, ◌≤◌, ◌<◌, ℕ, Bool, true, false, List, [], ◌∷◌, ◌++◌, length, Option, None, Some, append-nil, refl, sym, ◌∙◌, ap, subst, arith, inl, inr, if◌then◌else◌}
use Rattle.std.specs.Prelude.{◌⊎◌, take}
use Rattle.std.proofs.Math.Seq.{take-append_seam}
use Rattle.base_data.specs.Elements.{Each, Among}
use Rattle.base_data.specs.Named.{Named}
use Rattle.base_data.specs.Same.{same_name_cases}
use Rattle.base_data.specs.declared.library.LibName.{LibName}
use Rattle.base_data.specs.declared.name.FrameNo.{FrameNo}
use Rattle.base_data.specs.declared.name.Label.{Label}
use Rattle.base_data.specs.declared.op.Op.{Op}
use Rattle.core_language.specs.Bindings.{bound_to}
use Rattle.core_language.specs.Core.{PlainCore}
use Rattle.core_language.specs.Labels.{same_label}
use Rattle.core_language.specs.declared.binding.Binding.{Binding}
use Rattle.core_language.specs.declared.binding.Binding.TheVariants as binding
use Rattle.core_language.specs.declared.binding.VarInfo.{VarInfo}
use Rattle.core_language.specs.declared.link.Link.{Link}
use Rattle.law_core.specs.Templates.{Depths}
use Rattle.eval_stage.specs.Stage.{expression_in, keyword_at}
use Rattle.expand_standing.specs.InScope.{cut}
use Rattle.expand_standing.specs.State.{State}
use Rattle.law_expand.specs.States.{IsOwn, IsForeign, Sound, IsOld, IsAdded, IsPrimitive, IsBound, IsTop, IsKept, IsMacro, Keeps, Grows, Adds, Later, LaterBut}
use Rattle.law_expand.proofs.Grows.{grows-same, grows-self, grows-then}
use Rattle.law_expand.proofs.Scope.{adds-later}

pub old-later : (own : LibName) (s t : State) (f : FrameNo) → s.names.number ≤ t.names.number → IsOld own s f → IsOld own t f
old-later own s t f up h o = let k = h o in omega (arith, k, up)

-- Keywords that are kept.

module _ (own : LibName) where
  -- where what is kept and what is bound are the same
  pub keeps-same : (s t : State) → t.bindings ≡ s.bindings → t.keywords ≡ s.keywords → Keeps own s t
  keeps-same s t b k = record {
    kept = λ l lt h. (h.0, ap (λ ks. expression_in (keyword_at ks l)) k ∙ h.1);
    keywords = λ l level e o h. inl (ap (λ bs. bound_to bs l) (sym b) ∙ h);
  }

  pub keeps-self : (s : State) → Keeps own s s
  keeps-self s = keeps-same s s refl refl

  pub keeps-then : (s t u : State) → s.names.number ≤ t.names.number → t.names.number ≤ u.names.number → Keeps own s t → Keeps own t u → Keeps own s u
  keeps-then s t u up more h k = record {
    kept = λ l lt x. k.kept l (omega (arith, lt, up)) (h.kept l lt x);
    keywords = λ l level e o x. by l level e o (k.keywords l level e o x);
  }
    where
      old : (l : Label) (level : ℕ) (e : Option PlainCore) → IsMacro s l level e ⊎ (IsKept t l × (l.0.number < t.names.number)) → IsMacro s l level e ⊎ (IsKept u l × (l.0.number < u.names.number))
      old l level e (inl x) = inl x
      old l level e (inr p) = let lt = p.1 in inr (k.kept l lt p.0, omega (arith, lt, more))

      by : (l : Label) (level : ℕ) (e : Option PlainCore) → IsOwn own l.0 → IsMacro t l level e ⊎ (IsKept u l × (l.0.number < u.names.number)) → IsMacro s l level e ⊎ (IsKept u l × (l.0.number < u.names.number))
      by l level e o (inl x) = old l level e (h.keywords l level e o x)
      by l level e o (inr p) = inr p

module _ (own : LibName) where
  pub later-self : (s : State) → s.names.library ≡ own → Later own s s
  later-self s n = record { here = refl; next = n; up = omega arith; same = λ f o. refl; grows = grows-self own s; scope = refl; tops = λ l v o b. b; keeps = keeps-self own s }

  -- links are no part of what a later state keeps
  pub later-links : (s : State) (ls : List Link) → s.names.library ≡ own → Later own s (record s { links = ls })
  later-links s ls n =
      record { here = refl; next = n; up = omega arith; same = λ f o. refl; grows = grows-same own s (record s { links = ls }) refl refl refl (omega arith); scope = refl; tops = λ l v o b. b; keeps = keeps-same own s (record s { links = ls }) refl refl }

  pub later-then : (s t u : State) → Later own s t → Later own t u → Later own s u
  later-then s t u h k = record {
    here = k.here ∙ h.here;
    next = k.next;
    up = omega (arith, h.up, k.up);
    same = λ f o. k.same f (old-later own s t f h.up o) ∙ h.same f o;
    grows = grows-then own s t u h.grows k.grows;
    scope = k.scope ∙ h.scope;
    tops = λ l v o b. h.tops l v o (k.tops l v o b);
    keeps = keeps-then own s t u h.up k.up h.keeps k.keeps;
  }

  pub but-self : (g : FrameNo) (s : State) → s.names.library ≡ own → LaterBut own g s s
  but-self g s n = record { here = refl; next = n; up = omega arith; same = λ f o d. refl; grows = grows-self own s }

  pub but-then : (g : FrameNo) (s t u : State) → LaterBut own g s t → LaterBut own g t u → LaterBut own g s u
  but-then g s t u h k = record {
    here = k.here ∙ h.here;
    next = k.next;
    up = omega (arith, h.up, k.up);
    same = λ f o d. k.same f (old-later own s t f h.up o) d ∙ h.same f o d;
    grows = grows-then own s t u h.grows k.grows;
  }

  pub but-later : (g : FrameNo) (s t : State) → Later own s t → LaterBut own g s t
  but-later g s t h = record { here = h.here; next = h.next; up = h.up; same = λ f o d. h.same f o; grows = h.grows }

  -- where a new frame alone has more, nothing came into scope, and keywords that came are kept in the end
  pub later-framed : (g : FrameNo) (s t u v : State) → Later own s t → LaterBut own g t u → Adds own false [] [] t u → IsOwn own g.0 → s.names.number ≤ g.0.number → Later own u v → Keeps own t v → Later own s v
  later-framed g s t u v h k a of new j keeps = record {
    here = j.here ∙ k.here ∙ h.here;
    next = j.next;
    up = omega (arith, h.up, k.up, j.up);
    same = λ f o.
        j.same f (old-later own t u f k.up (old-later own s t f h.up o))
        ∙ k.same f (old-later own s t f h.up o) (λ e. let low = o (subst (λ (x : FrameNo). IsOwn own x.0) (sym e) of) in let is = ap (λ (x : FrameNo). x.0.number) e in omega (arith, low, is, new))
        ∙ h.same f o;
    grows = grows-then own s t v h.grows (grows-then own t u v k.grows j.grows);
    scope = j.scope ∙ a.scope ∙ ap (λ ms. t.scope ++ ms) (nothing a.more a.new) ∙ append-nil t.scope ∙ h.scope;
    tops = λ l w o b. h.tops l w o (old l w (a.tops l w o (j.tops l w o b)));
    keeps = keeps-then own s t v h.up (omega (arith, k.up, j.up)) h.keeps keeps;
  }
    where
      nothing : (ms : List Label) → Each (Among []) ms → ms ≡ []
      nothing [] e = refl
      nothing (m ∷ ms) e = elim e.0 [ ]

      old : (l : Label) (w : VarInfo) → IsTop t l w ⊎ ((false ≡ true) × ((w.level ≡ 0) × Among [] l)) → IsTop t l w
      old l w (inl b) = b
      old l w (inr p) = elim p.1.1 [ ]

  -- Where a new frame alone has more, and local variables came into scope: these are out of scope when all that came goes.
  pub later-within : (g : FrameNo) (ls : List Label) (ds : Depths) (s t u v : State) → Later own s t → LaterBut own g t u → Adds own false ls ds t u → Keeps own t u → IsOwn own g.0 → s.names.number ≤ g.0.number → Later own u v
      → Later own s (cut (length s.scope) v)
  later-within g ls ds s t u v h k a c of new j = record {
    here = j.here ∙ k.here ∙ h.here;
    next = j.next;
    up = omega (arith, h.up, k.up, j.up);
    same = λ f o.
        j.same f (old-later own t u f k.up (old-later own s t f h.up o))
        ∙ k.same f (old-later own s t f h.up o) (λ e. let low = o (subst (λ (x : FrameNo). IsOwn own x.0) (sym e) of) in let is = ap (λ (x : FrameNo). x.0.number) e in omega (arith, low, is, new))
        ∙ h.same f o;
    grows = grows-then own s u (cut (length s.scope) v) (grows-then own s t u h.grows k.grows) (grows-then own u v (cut (length s.scope) v) j.grows (grows-same own v (cut (length s.scope) v) refl refl refl (omega arith)));
    scope = ap (take (length s.scope)) (j.scope ∙ a.scope ∙ ap (λ ms. ms ++ a.more) h.scope) ∙ take-append_seam s.scope a.more;
    tops = λ l w o b. h.tops l w o (old l w (a.tops l w o (j.tops l w o b)));
    keeps = keeps-then own s v (cut (length s.scope) v) (omega (arith, h.up, k.up, j.up)) (omega arith)
        (keeps-then own s t v h.up (omega (arith, k.up, j.up)) h.keeps (keeps-then own t u v k.up j.up c j.keeps)) (keeps-same own v (cut (length s.scope) v) refl refl);
  }
    where
      old : (l : Label) (w : VarInfo) → IsTop t l w ⊎ ((false ≡ true) × ((w.level ≡ 0) × Among ls l)) → IsTop t l w
      old l w (inl b) = b
      old l w (inr p) = let bad = p.0 in absurd (cc)

  -- what comes is bound to variables of the library, so a sound state stays sound
  pub sound-grown : (given : List Label) (s t : State) → t.library ≡ s.library → t.names.library ≡ own → Grows own s t → (Each (IsBound s) s.scope → Each (IsBound t) t.scope) → Sound own given s → Sound own given t
  sound-grown given s t here next grows bound h = record {
    here = here ∙ h.here;
    next = next;
    defined = λ l v foreign b top. defined l v foreign top (grows.bindings l (binding.Variable v) b);
    primitives = λ l o b. primitives l o (grows.bindings l (binding.Primitive o) b);
    in_scope = bound h.in_scope;
    numbered = grows.numbered h.numbered;
  }
    where
      defined : (l : Label) (v : VarInfo) → IsForeign own l.0 → v.top ≡ true → (bound_to s.bindings l ≡ Some (binding.Variable v)) ⊎ (IsOwn own l.0 × IsAdded (binding.Variable v)) → Among given l
      defined l v foreign top (inl b) = h.defined l v foreign b top
      defined l v foreign top (inr p) = absurd (foreign p.0)

      primitives : (l : Label) (o : Op) → (bound_to s.bindings l ≡ Some (binding.Primitive o)) ⊎ (IsOwn own l.0 × IsAdded (binding.Primitive o)) → IsPrimitive o
      primitives l o (inl b) = h.primitives l o b
      primitives l o (inr p) = elim p.1 [ ]

  pub sound-later : (given : List Label) (s t : State) → Later own s t → Sound own given s → Sound own given t
  sound-later given s t h k = sound-grown given s t h.here h.next h.grows (adds-later own false s t h).bound k

-- Bindings.

-- what a label is bound to behind one more
pub bound-more : (bs : List (Label × Binding)) (l m : Label) (b x : Binding) → bound_to (bs ++ (l, b) ∷ []) m ≡ Some x → (bound_to bs m ≡ Some x) ⊎ ((m ≡ l) × (b ≡ x))
bound-more [] l m b x h = by (same_label m l) refl h
  where
    by : (t : Bool) → same_label m l ≡ t → (if t then Some b else None) ≡ Some x → (bound_to [] m ≡ Some x) ⊎ ((m ≡ l) × (b ≡ x))
    by true e k = inr (ap (λ (n : Named). let y : Label = record { 0 = n } in y) ((same_name_cases m.0 l.0).0 e), cc)
    by false e k = absurd (cc)
bound-more (p ∷ bs) l m b x h = by (same_label m p.0) (bound-more bs l m b x) h
  where
    by : (t : Bool) → (bound_to (bs ++ (l, b) ∷ []) m ≡ Some x → (bound_to bs m ≡ Some x) ⊎ ((m ≡ l) × (b ≡ x)))
        → (if t then Some p.1 else bound_to (bs ++ (l, b) ∷ []) m) ≡ Some x → ((if t then Some p.1 else bound_to bs m) ≡ Some x) ⊎ ((m ≡ l) × (b ≡ x))
    by true later k = inl k
    by false later k = later k

-- what a label is bound to stays so behind one more
pub bound-kept : (bs : List (Label × Binding)) (l m : Label) (b x : Binding) → bound_to bs m ≡ Some x → bound_to (bs ++ (l, b) ∷ []) m ≡ Some x
bound-kept [] l m b x h = absurd (cc)
bound-kept (p ∷ bs) l m b x h = by (same_label m p.0) (bound-kept bs l m b x) h
  where
    by : (t : Bool) → (bound_to bs m ≡ Some x → bound_to (bs ++ (l, b) ∷ []) m ≡ Some x) → (if t then Some p.1 else bound_to bs m) ≡ Some x → (if t then Some p.1 else bound_to (bs ++ (l, b) ∷ []) m) ≡ Some x
    by true later k = k
    by false later k = later k

-- behind its binding a label is bound
pub bound-last : (bs : List (Label × Binding)) (l : Label) (b : Binding) → (x : Binding) × (bound_to (bs ++ (l, b) ∷ []) l ≡ Some x)
bound-last [] l b = (b, ap (λ t. if t then Some b else None) ((same_name_cases l.0 l.0).1 refl))
bound-last (p ∷ bs) l b = by (same_label l p.0) (bound-last bs l b)
  where
    by : (t : Bool) → (x : Binding) × (bound_to (bs ++ (l, b) ∷ []) l ≡ Some x) → (x : Binding) × ((if t then Some p.1 else bound_to (bs ++ (l, b) ∷ []) l) ≡ Some x)
    by true later = (p.1, refl)
    by false later = later

-- where one label more is bound, to no keyword
pub keeps-more : (own : LibName) (s t : State) (l : Label) (b : Binding) → t.bindings ≡ s.bindings ++ (l, b) ∷ [] → ((level : ℕ) (e : Option PlainCore) → b ≡ binding.Macro level e → ⊥) → t.keywords ≡ s.keywords → Keeps own s t
keeps-more own s t l b bs other k = record {
  kept = λ m lt h. (h.0, ap (λ ks. expression_in (keyword_at ks m)) k ∙ h.1);
  keywords = λ m level e o h. inl (by m level e (bound-more s.bindings l m b (binding.Macro level e) (ap (λ xs. bound_to xs m) (sym bs) ∙ h)));
}
  where
    by : (m : Label) (level : ℕ) (e : Option PlainCore) → IsMacro s m level e ⊎ ((m ≡ l) × (b ≡ binding.Macro level e)) → IsMacro s m level e
    by m level e (inl x) = x
    by m level e (inr p) = absurd (other level e p.1)
