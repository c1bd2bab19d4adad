-- Values one after another, compared with those that are wanted.
use Rattle.std.proofs.Common.{◌≡◌, ℕ, zero, suc, ◌+◌, ◌<◌, ◌≤◌, Bool, true, false, ◌&&◌, List, [], ◌∷◌, length, get_or, drop, Option, Some, None, refl, sym, ap, subst, ◌∙◌, add-one, drop-cons}
use Rattle.std.proofs.lemmas.List.{drop_all}
use Rattle.std.specs.Prelude.{if◌then◌else◌}
use Rattle.base_bytes.specs.Codec.{◌>>=◌, some_get}
use Rattle.core_cache.specs.Fitting.{behind}

pub tested : (t : Bool) (rest : List ℕ) {A : Type 0} (f : List ℕ → Option A) → (if t then f rest else None) ≡ ((if t then Some rest else None) >>= f)
tested true rest f = refl
tested false rest f = refl

none_after : (f : List ℕ → Option (List ℕ)) → ((rest : List ℕ) → f rest ≡ None) → (r : Option (List ℕ)) → (r >>= f) ≡ None
none_after f none None = refl
none_after f none (Some rest) = none rest

module _ {A W : Type 0} (get : List ℕ → Option (A × List ℕ)) (same : A → W → Bool) (all : List W → List A → Bool)
    (next : (w : W) (ws : List W) (x : A) (xs : List A) → all (w ∷ ws) (x ∷ xs) ≡ (same x w && all ws xs)) where
  later : (x : A) (w : W) (ws : List W) (r : Option (List A × List ℕ)) (t : Bool) → same x w ≡ t
      → behind (all (w ∷ ws)) (r >>= λ xs. Some (x ∷ xs.0, xs.1)) ≡ (if t then behind (all ws) r else None)
  later x w ws None true e = refl
  later x w ws None false e = refl
  later x w ws (Some xs) true e = rw (next w ws x xs.0, e) refl
  later x w ws (Some xs) false e = rw (next w ws x xs.0, e) refl

  first : (w : W) (ws : List W) (n : ℕ) (r : Option (A × List ℕ))
      → behind (all (w ∷ ws)) (r >>= λ x. some_get get n x.1 >>= λ xs. Some (x.0 ∷ xs.0, xs.1)) ≡ (behind (λ x. same x w) r >>= λ rest. behind (all ws) (some_get get n rest))
  first w ws n None = refl
  first w ws n (Some x) = later x.0 w ws (some_get get n x.1) (same x.0 w) refl ∙ tested (same x.0 w) x.1 (λ rest. behind (all ws) (some_get get n rest))

  step : (w : W) (ws : List W) (n : ℕ) (bytes : List ℕ)
      → behind (all (w ∷ ws)) (some_get get (suc n) bytes) ≡ (behind (λ x. same x w) (get bytes) >>= λ rest. behind (all ws) (some_get get n rest))
  unfolding some_get
  step w ws n bytes = first w ws n (get bytes)

  pub turns : (w : W) (ws : List W) (bytes rest : List ℕ) (total : Option (List ℕ)) → Some rest ≡ behind (λ x. same x w) (get bytes)
      → behind (all (w ∷ ws)) (some_get get (suc (length ws)) bytes) ≡ total → behind (all ws) (some_get get (length ws) rest) ≡ total
  turns w ws bytes rest total h so_far =
      let one : (behind (λ x. same x w) (get bytes) >>= λ rest. behind (all ws) (some_get get (length ws) rest)) ≡ behind (all ws) (some_get get (length ws) rest)
      = ap (λ (r : Option (List ℕ)). r >>= λ rest. behind (all ws) (some_get get (length ws) rest)) (sym h) in
      sym (step w ws (length ws) bytes ∙ one) ∙ so_far

  pub ends : (w : W) (ws : List W) (bytes : List ℕ) (total : Option (List ℕ)) → None ≡ behind (λ x. same x w) (get bytes)
      → behind (all (w ∷ ws)) (some_get get (suc (length ws)) bytes) ≡ total → None ≡ total
  ends w ws bytes total h so_far =
      let one : (behind (λ x. same x w) (get bytes) >>= λ rest. behind (all ws) (some_get get (length ws) rest)) ≡ None
      = ap (λ (r : Option (List ℕ)). r >>= λ rest. behind (all ws) (some_get get (length ws) rest)) (sym h) in
      sym (step w ws (length ws) bytes ∙ one) ∙ so_far

  last : all [] [] ≡ true → (bytes : List ℕ) → Some bytes ≡ behind (all []) (some_get get 0 bytes)
  unfolding some_get
  last none bytes = rw none refl

  left_at : (items : List W) (i : ℕ) (item other : W) → i < length items → item ≡ get_or items i other → drop i items ≡ item ∷ drop (i + 1) items
  left_at items i item other h e = rw add-one (drop-cons items i other h ∙ ap (λ (w : W). w ∷ drop (suc i) items) (sym e))

  pub turns_at : (items : List W) (i : ℕ) (item other : W) (bytes rest : List ℕ) (total : Option (List ℕ)) → i < length items → item ≡ get_or items i other
      → Some rest ≡ behind (λ x. same x item) (get bytes) → behind (all (drop i items)) (some_get get (length (drop i items)) bytes) ≡ total
      → behind (all (drop (i + 1) items)) (some_get get (length (drop (i + 1) items)) rest) ≡ total
  turns_at items i item other bytes rest total h e there so_far =
      turns item (drop (i + 1) items) bytes rest total there
      (subst (λ (ws : List W). behind (all ws) (some_get get (length ws) bytes) ≡ total) (left_at items i item other h e) so_far)

  pub ends_at : (items : List W) (i : ℕ) (item other : W) (bytes : List ℕ) (total : Option (List ℕ)) → i < length items → item ≡ get_or items i other
      → None ≡ behind (λ x. same x item) (get bytes) → behind (all (drop i items)) (some_get get (length (drop i items)) bytes) ≡ total → None ≡ total
  ends_at items i item other bytes total h e there so_far =
      ends item (drop (i + 1) items) bytes total there
      (subst (λ (ws : List W). behind (all ws) (some_get get (length ws) bytes) ≡ total) (left_at items i item other h e) so_far)

  pub done_at : all [] [] ≡ true → (items : List W) (i : ℕ) (bytes : List ℕ) (total : Option (List ℕ)) → length items ≤ i
      → behind (all (drop i items)) (some_get get (length (drop i items)) bytes) ≡ total → Some bytes ≡ total
  done_at none items i bytes total h so_far =
      last none bytes ∙ subst (λ (ws : List W). behind (all ws) (some_get get (length ws) bytes) ≡ total) (drop_all i items h) so_far

  module _ (fewer : (w : W) (ws : List W) → all (w ∷ ws) [] ≡ false) (more : (x : A) (xs : List A) → all [] (x ∷ xs) ≡ false) where
    further : (x : A) (r : Option (List A × List ℕ)) → behind (all []) (r >>= λ xs. Some (x ∷ xs.0, xs.1)) ≡ None
    further x None = refl
    further x (Some xs) = rw (more x xs.0) refl

    left : (n : ℕ) (r : Option (A × List ℕ)) → behind (all []) (r >>= λ x. some_get get n x.1 >>= λ xs. Some (x.0 ∷ xs.0, xs.1)) ≡ None
    left n None = refl
    left n (Some x) = further x.0 (some_get get n x.1)

    -- another count of values is not the wanted one
    pub unlike : (ws : List W) (n : ℕ) (bytes : List ℕ) → (n ≡ length ws → ⊥) → behind (all ws) (some_get get n bytes) ≡ None
    unfolding some_get
    unlike [] zero bytes h = absurd (h refl)
    unlike [] (suc n) bytes h = left n (get bytes)
    unlike (w ∷ ws) zero bytes h = rw (fewer w ws) refl
    unlike (w ∷ ws) (suc n) bytes h = step w ws n bytes ∙ none_after (λ rest. behind (all ws) (some_get get n rest)) (λ rest. unlike ws n rest (λ e. h (ap suc e))) (behind (λ x. same x w) (get bytes))
