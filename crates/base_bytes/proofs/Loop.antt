-- The loop over a count of values: what is read so far, with what the rest gives, is the whole.
use Rattle.std.proofs.Common.{◌≡◌, ℕ, suc, ◌+◌, ◌-◌, ◌<◌, ◌≤◌, List, [], ◌∷◌, ◌++◌, Option, Some, None, refl, sym, ap, ◌∙◌, append_assoc, arith}
use Rattle.std.proofs.lemmas.List.{append-nil}
use Rattle.std.specs.Prelude.{map}
use Rattle.base_bytes.specs.Codec.{◌>>=◌, some_get}

abbrev pub with_front : {A : Type 0} → List A → Option (List A × List ℕ) → Option (List A × List ℕ)
with_front front r = r >>= λ x. Some (front ++ x.0, x.1)

module _ {A : Type 0} (get : List ℕ → Option (A × List ℕ)) where
  pub begins : (n : ℕ) (bytes : List ℕ) → with_front [] (some_get get (n - 0) bytes) ≡ some_get get n bytes
  begins n bytes =
      let same : n - 0 ≡ n = omega arith in
      rw same (go (some_get get n bytes))
    where
      go : (r : Option (List A × List ℕ)) → with_front [] r ≡ r
      go None = refl
      go (Some x) = refl

  regroup : (front : List A) (x : A) (r : Option (List A × List ℕ)) → with_front front (r >>= λ xs. Some (x ∷ xs.0, xs.1)) ≡ with_front (front ++ x ∷ []) r
  regroup front x None = refl
  regroup front x (Some y) = ap (λ (ns : List A). Some (ns, y.1)) (sym (append_assoc front (x ∷ []) y.0))

  pub turns : (front : List A) (count i : ℕ) (bytes after : List ℕ) (x : A) (total : Option (List A × List ℕ)) → i < count → Some (x, after) ≡ get bytes
      → with_front front (some_get get (count - i) bytes) ≡ total → with_front (front ++ x ∷ []) (some_get get (count - (i + 1)) after) ≡ total
  unfolding some_get
  turns front count i bytes after x total lt h so_far =
      let k : count - i ≡ suc (count - (i + 1)) = omega arith in
      let one : with_front front (some_get get (count - i) bytes) ≡ with_front (front ++ x ∷ []) (some_get get (count - (i + 1)) after) = rw (k, ← h) (regroup front x (some_get get (count - (i + 1)) after)) in
      sym one ∙ so_far

  pub ends : (front : List A) (count i : ℕ) (bytes : List ℕ) (total : Option (List A × List ℕ)) → i < count → None ≡ get bytes
      → with_front front (some_get get (count - i) bytes) ≡ total → None ≡ total
  unfolding some_get
  ends front count i bytes total lt h so_far =
      let k : count - i ≡ suc (count - (i + 1)) = omega arith in
      let one : with_front front (some_get get (count - i) bytes) ≡ None = rw (k, ← h) refl in
      sym one ∙ so_far

  pub is_done : (front : List A) (count i : ℕ) (bytes : List ℕ) (total : Option (List A × List ℕ)) → count ≤ i
      → with_front front (some_get get (count - i) bytes) ≡ total → Some (front, bytes) ≡ total
  unfolding some_get
  is_done front count i bytes total le so_far =
      let k : count - i ≡ 0 = omega arith in
      let one : with_front front (some_get get (count - i) bytes) ≡ Some (front, bytes) = rw k (ap (λ (ns : List A). Some (ns, bytes)) (append-nil front)) in
      sym one ∙ so_far

-- with values that stand for others
module _ {X A : Type 0} (f : X → A) (get : List ℕ → Option (A × List ℕ)) where
  map_more : (xs : List X) (y : X) → map f (xs ++ y ∷ []) ≡ map f xs ++ f y ∷ []
  map_more [] y = refl
  map_more (x ∷ xs) y = ap (λ (zs : List A). f x ∷ zs) (map_more xs y)

  pub turns_as : (front : List X) (count i : ℕ) (bytes after : List ℕ) (x : X) (total : Option (List A × List ℕ)) → i < count → Some (f x, after) ≡ get bytes
      → with_front (map f front) (some_get get (count - i) bytes) ≡ total → with_front (map f (front ++ x ∷ [])) (some_get get (count - (i + 1)) after) ≡ total
  turns_as front count i bytes after x total lt h so_far = rw (map_more front x) (turns get (map f front) count i bytes after (f x) total lt h so_far)
