-- What comes into scope.
use Rattle.std.proofs.Common.{◌≡◌, Bool, true, false, List, [], ◌∷◌, ◌++◌, refl, sym, ◌∙◌, ap, subst, inl, inr, append-nil, append_assoc, if◌then◌else◌}
use Rattle.std.specs.Prelude.{◌⊎◌, ℕ, Some}
use Rattle.base_data.proofs.ElementLemmas.{each-at, each-append, among-first, among-second}
use Rattle.base_data.specs.Elements.{Each, Among}
use Rattle.base_data.specs.declared.library.LibName.{LibName}
use Rattle.base_data.specs.declared.name.Label.{Label}
use Rattle.core_language.specs.Labels.{has_label}
use Rattle.core_language.specs.Bindings.{bound_to}
use Rattle.core_language.specs.declared.binding.Binding.{Binding}
use Rattle.core_language.specs.declared.binding.VarInfo.{VarInfo}
use Rattle.law_core.specs.Templates.{Depths}
use Rattle.expand_standing.specs.InScope.{with_local}
use Rattle.expand_standing.specs.State.{State}
use Rattle.law_expand.specs.States.{IsOwn, IsTop, IsBound, IsPattern, IsNumbered, Adds, Later}
use Rattle.law_expand.proofs.Fresh.{each-map}

-- labels behind others, which are among these
pub record Behind (ls xs ys : List Label) : Type 0 where
  pub more : List Label
  pub is : ys ≡ xs ++ more
  pub new : Each (Among ls) more

-- the label of a binder, but for those of the top
pub binder-behind : (top : Bool) (l : Label) (xs : List Label) → Behind (l ∷ []) xs (with_local top l xs)
binder-behind true l xs = record { more = []; is = sym (append-nil xs); new = tt }
binder-behind false l xs = by (has_label xs l)
  where
    by : (b : Bool) → Behind (l ∷ []) xs (if b then xs else xs ++ l ∷ [])
    by true = record { more = []; is = sym (append-nil xs); new = tt }
    by false = record { more = l ∷ []; is = refl; new = (inl refl, tt) }

module _ (own : LibName) (top : Bool) where
  pub adds-self : (s : State) → Adds own top [] [] s s
  adds-self s = record { more = []; scope = sym (append-nil s.scope); new = tt; tops = λ l v o b. inl b; bound = λ h. h; numbered = λ h. h; patterns = λ h n l level depth a p. inl (a, p) }

  pub adds-then : (ls ms : List Label) (ds es : Depths) (s t u : State) → Adds own top ls ds s t → Adds own top ms es t u → Adds own top (ls ++ ms) (ds ++ es) s u
  adds-then ls ms ds es s t u h k = record {
    more = h.more ++ k.more;
    scope = k.scope ∙ ap (λ xs. xs ++ k.more) h.scope ∙ append_assoc s.scope h.more k.more;
    new = each-append (Among (ls ++ ms)) h.more k.more (each-map (Among ls) (Among (ls ++ ms)) h.more h.new (among-first ls ms)) (each-map (Among ms) (Among (ls ++ ms)) k.more k.new (among-second ls ms));
    tops = λ l v o b. by l v o (k.tops l v o b);
    bound = λ b. k.bound (h.bound b);
    numbered = λ n. k.numbered (h.numbered n);
    patterns = λ b n l level depth a p. by_pattern b n l level depth (k.patterns (h.bound b) (h.numbered n) l level depth a p);
  }
    where
      before : (l : Label) (v : VarInfo) → IsTop s l v ⊎ ((top ≡ true) × ((v.level ≡ 0) × Among ls l)) → IsTop s l v ⊎ ((top ≡ true) × ((v.level ≡ 0) × Among (ls ++ ms) l))
      before l v (inl b) = inl b
      before l v (inr p) = inr (p.0, (p.1.0, among-first ls ms l p.1.1))

      by : (l : Label) (v : VarInfo) → IsOwn own l.0 → IsTop t l v ⊎ ((top ≡ true) × ((v.level ≡ 0) × Among ms l)) → IsTop s l v ⊎ ((top ≡ true) × ((v.level ≡ 0) × Among (ls ++ ms) l))
      by l v o (inl b) = before l v (h.tops l v o b)
      by l v o (inr p) = inr (p.0, (p.1.0, among-second ls ms l p.1.1))

      first : (l : Label) (level depth : ℕ) → (Among s.scope l × IsPattern s l level depth) ⊎ Among ds (l, depth) → (Among s.scope l × IsPattern s l level depth) ⊎ Among (ds ++ es) (l, depth)
      first l level depth (inl b) = inl b
      first l level depth (inr a) = inr (among-first ds es (l, depth) a)

      by_pattern : Each (IsBound s) s.scope → IsNumbered own s → (l : Label) (level depth : ℕ) → (Among t.scope l × IsPattern t l level depth) ⊎ Among es (l, depth) → (Among s.scope l × IsPattern s l level depth) ⊎ Among (ds ++ es) (l, depth)
      by_pattern b n l level depth (inl p) = first l level depth (h.patterns b n l level depth p.0 p.1)
      by_pattern b n l level depth (inr a) = inr (among-second ds es (l, depth) a)

  -- where the scope is the same, and bindings grow
  pub adds-same : (s t : State) → t.scope ≡ s.scope → ((l : Label) (b : Binding) → bound_to s.bindings l ≡ Some b → bound_to t.bindings l ≡ Some b)
      → ((l : Label) (v : VarInfo) → IsOwn own l.0 → IsTop t l v → IsTop s l v) → (IsNumbered own s → IsNumbered own t) → Adds own top [] [] s t
  adds-same s t scope bound tops numbered = record {
    more = [];
    scope = scope ∙ sym (append-nil s.scope);
    new = tt;
    tops = λ l v o b. inl (tops l v o b);
    bound = λ h. subst (Each (IsBound t)) (sym scope) (each-map (IsBound s) (IsBound t) s.scope h (λ l b. (b.0, bound l b.0 b.1)));
    numbered = numbered;
    patterns = λ h n l level depth a p. inl (in-scope l a, before h l level depth (in-scope l a) p);
  }
    where
      in-scope : (l : Label) → Among t.scope l → Among s.scope l
      in-scope l a = subst (λ (xs : List Label). Among xs l) scope a

      before : Each (IsBound s) s.scope → (l : Label) (level depth : ℕ) → Among s.scope l → IsPattern t l level depth → IsPattern s l level depth
      before h l level depth a p = let b = each-at (IsBound s) s.scope l h a in b.1 ∙ sym (bound l b.0 b.1) ∙ p

  pub adds-later : (s t : State) → Later own s t → Adds own top [] [] s t
  adds-later s t h = adds-same s t h.scope h.grows.bound h.tops h.grows.numbered
