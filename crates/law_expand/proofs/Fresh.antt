-- Names that a library makes, from one number to another, each once.
use Rattle.std.proofs.Common.{◌≡◌, ℕ, ◌≤◌, ◌<◌, List, [], ◌∷◌, ◌++◌, refl, arith, inl, inr}
use Rattle.std.specs.Prelude.{◌⊎◌}
use Rattle.base_data.proofs.ElementLemmas.{each-at, each-append, among-parts}
use Rattle.base_data.specs.Elements.{Each, Among, Once}
use Rattle.base_data.specs.Named.{Named}
use Rattle.base_data.specs.declared.library.LibName.{LibName}
use Rattle.base_data.specs.declared.name.CodeNo.{CodeNo}
use Rattle.base_data.specs.declared.name.Label.{Label}

pub record Made (own : LibName) (a b : ℕ) (n : Named) : Type 0 where
  pub library : n.library ≡ own
  pub low : a ≤ n.number
  pub high : n.number < b

pub record Fresh (A : Type 0) (name : A → Named) (own : LibName) (a b : ℕ) (xs : List A) : Type 0 where
  pub made : Each (λ x. Made own a b (name x)) xs
  pub once : Once xs

abbrev pub label_name : Label → Named
label_name l = l.0

abbrev pub code_name : CodeNo → Named
code_name n = n.0

abbrev pub FreshLabels : LibName → ℕ → ℕ → List Label → Type 0
FreshLabels own a b ls = Fresh Label label_name own a b ls

abbrev pub FreshCodes : LibName → ℕ → ℕ → List CodeNo → Type 0
FreshCodes own a b ns = Fresh CodeNo code_name own a b ns

-- no member of the first is one of the second
abbrev pub Apart : {A : Type 0} → List A → List A → Type 0
Apart {A} xs ys = (x : A) → Among xs x → Among ys x → ⊥

pub each-map : {A : Type 0} (P Q : A → Type 0) (xs : List A) → Each P xs → ((x : A) → P x → Q x) → Each Q xs
each-map P Q [] h k = tt
each-map P Q (x ∷ xs) h k = (k x h.0, each-map P Q xs h.1 k)

pub once-append : {A : Type 0} (xs ys : List A) → Once xs → Once ys → Apart xs ys → Once (xs ++ ys)
once-append [] ys h k apart = k
once-append (x ∷ xs) ys h k apart = (not (among-parts xs ys x), once-append xs ys h.1 k (λ y a b. apart y (inr a) b))
  where
    not : (Among (xs ++ ys) x → Among xs x ⊎ Among ys x) → Among (xs ++ ys) x → ⊥
    not split a = by (split a) where
      by : Among xs x ⊎ Among ys x → ⊥
      by (inl b) = h.0 b
      by (inr b) = apart x (inl refl) b

module _ {A : Type 0} (name : A → Named) (own : LibName) where
  pub fresh-none : (a b : ℕ) → Fresh A name own a b []
  fresh-none a b = record { made = tt; once = tt }

  pub fresh-one : (a b : ℕ) (x : A) → Made own a b (name x) → Fresh A name own a b (x ∷ [])
  fresh-one a b x h = record { made = (h, tt); once = ((λ n. n), tt) }

  pub fresh-wider : (a b c d : ℕ) (xs : List A) → c ≤ a → b ≤ d → Fresh A name own a b xs → Fresh A name own c d xs
  fresh-wider a b c d xs low high h = record {
    made = each-map (λ x. Made own a b (name x)) (λ x. Made own c d (name x)) xs h.made (λ x m. record { library = m.library; low = omega (arith, m.low); high = omega (arith, m.high) });
    once = h.once;
  }

  -- what was made before and what was made later
  pub made-apart : (a b c d : ℕ) (xs ys : List A) → b ≤ c → Each (λ x. Made own a b (name x)) xs → Each (λ x. Made own c d (name x)) ys → Apart xs ys
  made-apart a b c d xs ys le h k x p q =
      let m = each-at (λ x. Made own a b (name x)) xs x h p in
      let n = each-at (λ x. Made own c d (name x)) ys x k q in
      omega (arith, m.high, n.low)

  pub fresh-append : (a b c : ℕ) (xs ys : List A) → a ≤ b → b ≤ c → Fresh A name own a b xs → Fresh A name own b c ys → Fresh A name own a c (xs ++ ys)
  fresh-append a b c xs ys le le' h k =
      let x = fresh-wider a b a c xs (omega arith) le' h in
      let y = fresh-wider b c a c ys le (omega arith) k in
      record {
        made = each-append (λ x. Made own a c (name x)) xs ys x.made y.made;
        once = once-append xs ys h.once k.once (made-apart a b b c xs ys (omega arith) h.made k.made);
      }
