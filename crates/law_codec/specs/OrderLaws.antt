-- Names have the order of their spellings, byte by byte.
use Rattle.std.proofs.Common.{◌≡◌, ℕ, zero, suc, ◌+◌, ◌*◌, ◌/◌, ◌%◌, ◌^◌, ◌<◌, Bool, true, ltb}
use Rattle.std.proofs.Common.{List, [], ◌∷◌, ◌++◌, length, refl, sym, ap, ◌∙◌, append_assoc, arith, ◌⊎◌, inl, inr}
use Rattle.std.specs.Prelude.{◌&&◌}
use Rattle.std.specs.Int.{byte_at}
use Rattle.std.specs.List.{flat_map, list_all}
use Rattle.std.specs.Ordering.{nat_cmp, on, then_cmp, ordering_then}
use Rattle.std.specs.Cmp.Lexicographic.{slice_cmp}
use Rattle.std.specs.declared.cmp.Ordering.{Ordering}
use Rattle.std.specs.declared.cmp.Ordering.TheVariants.{Less, Equal, Greater}
use Rattle.std.proofs.lemmas.Bool.{cases_lt, ltb-true}
use Rattle.std.proofs.lemmas.Bool.Decides.{nat_tests}
use Rattle.std.proofs.lemmas.List.{append-nil}
use Rattle.base_data.specs.NameOrder.{library_cmp, name_cmp}
use Rattle.base_data.specs.Named.{Named}
use Rattle.base_data.specs.declared.library.LibName.{LibName}
use Rattle.base_data.specs.declared.library.LibName.TheVariants as n
use Rattle.base_bytes.specs.Codec.{Codec, u64, blob, text, ◌then◌, listed}
use Rattle.base_bytes.specs.Laws.{both}
use Rattle.base_bytes.specs.Names.{library, name}

-- the spellings of two values, with anything behind them, compare as the values do, and where these are the same as what is behind
pub record InOrder {A : Type 0} (cmp : A → A → Ordering) (c : Codec A) : Type 0 where
  pub spelt : (x y : A) (r s : List ℕ) → c.fits x ≡ true → c.fits y ≡ true → slice_cmp nat_cmp (c.put x ++ r) (c.put y ++ s)
      ≡ ordering_then (cmp x y) (slice_cmp nat_cmp r s)

then_assoc : (a b c : Ordering) → ordering_then (ordering_then a b) c ≡ ordering_then a (ordering_then b c)
then_assoc Less b c = refl
then_assoc Equal b c = refl
then_assoc Greater b c = refl

then_equal : (a : Ordering) → ordering_then a Equal ≡ a
then_equal Less = refl
then_equal Equal = refl
then_equal Greater = refl

-- ---- numbers

less : (a b : ℕ) → a < b → nat_cmp a b ≡ Less
less a b h = grind (arith, nat_tests)

same : (a b : ℕ) → a ≡ b → nat_cmp a b ≡ Equal
same a b h = grind (arith, nat_tests)

greater : (a b : ℕ) → b < a → nat_cmp a b ≡ Greater
greater a b h = grind (arith, nat_tests)

pub data Compared (a b : ℕ) : Type 0 where
  is_less : a < b → Compared a b
  is_same : a ≡ b → Compared a b
  is_greater : b < a → Compared a b

compared : (a b : ℕ) → Compared a b
compared a b = elim (cases_lt a b) [
  | inl lt ↦ is_less lt
  | inr le ↦ elim (cases_lt b a) [ inl gt ↦ is_greater gt | inr ge ↦ is_same (omega arith) ]
]

-- numbers compare by all but their lowest digit, and then by it
digit : (x y a b c d : ℕ) (o : Ordering) → x ≡ 256 * a + c → y ≡ 256 * b + d → c < 256 → d < 256 → ordering_then (nat_cmp x y) o
    ≡ ordering_then (nat_cmp a b) (ordering_then (nat_cmp c d) o)
digit x y a b c d o e f p q = by (compared a b) (compared c d)
  where
    by : Compared a b → Compared c d → ordering_then (nat_cmp x y) o ≡ ordering_then (nat_cmp a b) (ordering_then (nat_cmp c d) o)
    by (is_less h) k = rw (less x y (omega arith), less a b h) refl
    by (is_greater h) k = rw (greater x y (omega arith), greater a b h) refl
    by (is_same h) (is_less k) = rw (less x y (omega arith), same a b h, less c d k) refl
    by (is_same h) (is_same k) = rw (same x y (omega arith), same a b h, same c d k) refl
    by (is_same h) (is_greater k) = rw (greater x y (omega arith), same a b h, greater c d k) refl

u64-in_order : InOrder nat_cmp u64
unfolding u64
u64-in_order = record {
  spelt = λ x y r s p q.
      let lx : x < 2 ^ 64 = ltb-true _ _ p in
      let ly : y < 2 ^ 64 = ltb-true _ _ q in
      let o0 = slice_cmp nat_cmp r s in
      let o1 = ordering_then (nat_cmp (byte_at 0 x) (byte_at 0 y)) o0 in
      let o2 = ordering_then (nat_cmp (byte_at 1 x) (byte_at 1 y)) o1 in
      let o3 = ordering_then (nat_cmp (byte_at 2 x) (byte_at 2 y)) o2 in
      let o4 = ordering_then (nat_cmp (byte_at 3 x) (byte_at 3 y)) o3 in
      let o5 = ordering_then (nat_cmp (byte_at 4 x) (byte_at 4 y)) o4 in
      let o6 = ordering_then (nat_cmp (byte_at 5 x) (byte_at 5 y)) o5 in
      let o7 = ordering_then (nat_cmp (byte_at 6 x) (byte_at 6 y)) o6 in
      sym (digit x y (x / 256) (y / 256) (byte_at 0 x) (byte_at 0 y) o0 (omega arith) (omega arith) (omega arith) (omega arith)
      ∙ digit (x / 256) (y / 256) (x / 256 ^ 2) (y / 256 ^ 2) (byte_at 1 x) (byte_at 1 y) o1 (omega arith) (omega arith) (omega arith) (omega arith)
      ∙ digit (x / 256 ^ 2) (y / 256 ^ 2) (x / 256 ^ 3) (y / 256 ^ 3) (byte_at 2 x) (byte_at 2 y) o2 (omega arith) (omega arith) (omega arith) (omega arith)
      ∙ digit (x / 256 ^ 3) (y / 256 ^ 3) (x / 256 ^ 4) (y / 256 ^ 4) (byte_at 3 x) (byte_at 3 y) o3 (omega arith) (omega arith) (omega arith) (omega arith)
      ∙ digit (x / 256 ^ 4) (y / 256 ^ 4) (x / 256 ^ 5) (y / 256 ^ 5) (byte_at 4 x) (byte_at 4 y) o4 (omega arith) (omega arith) (omega arith) (omega arith)
      ∙ digit (x / 256 ^ 5) (y / 256 ^ 5) (x / 256 ^ 6) (y / 256 ^ 6) (byte_at 5 x) (byte_at 5 y) o5 (omega arith) (omega arith) (omega arith) (omega arith)
      ∙ digit (x / 256 ^ 6) (y / 256 ^ 6) (byte_at 7 x) (byte_at 7 y) (byte_at 6 x) (byte_at 6 y) o6 (omega arith) (omega arith) (omega arith) (omega arith));
}

-- ---- parts and lists

then-in_order : {A B : Type 0} {R : A → A → Ordering} {S : B → B → Ordering} {c : Codec A} {d : Codec B} → InOrder R c → InOrder S d
    → InOrder (then_cmp (on (λ p. p.0) R) (on (λ p. p.1) S)) (c then d)
then-in_order {A} {B} {R} {S} {c} {d} l m = record {
  spelt = λ x y r s p q.
      let f = both (c.fits x.0) (d.fits x.1) p in
      let g = both (c.fits y.0) (d.fits y.1) q in
      (λ i. slice_cmp nat_cmp (append_assoc (c.put x.0) (d.put x.1) r i) (append_assoc (c.put y.0) (d.put y.1) s i))
      ∙ l.spelt x.0 y.0 (d.put x.1 ++ r) (d.put y.1 ++ s) f.0 g.0
      ∙ ap (ordering_then (R x.0 y.0)) (m.spelt x.1 y.1 r s f.1 g.1)
      ∙ sym (then_assoc (R x.0 y.0) (S x.1 y.1) (slice_cmp nat_cmp r s));
}

-- what is as long compares element by element, with what is behind it
module _ {A : Type 0} (R : A → A → Ordering) (put : A → List ℕ) (fits : A → Bool)
    (spelt : (x y : A) (r s : List ℕ) → fits x ≡ true → fits y ≡ true
    → slice_cmp nat_cmp (put x ++ r) (put y ++ s) ≡ ordering_then (R x y) (slice_cmp nat_cmp r s)) where
  elements : (xs ys : List A) (r s : List ℕ) → length xs ≡ length ys → list_all fits xs ≡ true → list_all fits ys ≡ true
      → slice_cmp nat_cmp (flat_map put xs ++ r) (flat_map put ys ++ s) ≡ ordering_then (slice_cmp R xs ys) (slice_cmp nat_cmp r s)
  elements [] [] r s l p q = refl
  elements [] (y ∷ ys) r s l p q = absurd (omega arith)
  elements (x ∷ xs) [] r s l p q = absurd (omega arith)
  elements (x ∷ xs) (y ∷ ys) r s l p q =
      let f = both (fits x) (list_all fits xs) p in
      let g = both (fits y) (list_all fits ys) q in
      (λ i. slice_cmp nat_cmp (append_assoc (put x) (flat_map put xs) r i) (append_assoc (put y) (flat_map put ys) s i))
      ∙ spelt x y (flat_map put xs ++ r) (flat_map put ys ++ s) f.0 g.0
      ∙ ap (ordering_then (R x y)) (elements xs ys r s (omega arith) f.1 g.1)
      ∙ sym (then_assoc (R x y) (slice_cmp R xs ys) (slice_cmp nat_cmp r s))

-- lengths, and then lists that are as long
by_length : (m n : ℕ) (o rest whole : Ordering) → (m ≡ n → whole ≡ ordering_then o rest) → ordering_then (nat_cmp m n) whole
    ≡ ordering_then (ordering_then (nat_cmp m n) o) rest
by_length m n o rest whole f = by (compared m n)
  where
    by : Compared m n → ordering_then (nat_cmp m n) whole ≡ ordering_then (ordering_then (nat_cmp m n) o) rest
    by (is_less h) = rw (less m n h) refl
    by (is_greater h) = rw (greater m n h) refl
    by (is_same h) = rw (same m n h) (f h)

listed-in_order : {A : Type 0} {R : A → A → Ordering} {c : Codec A} → InOrder R c → InOrder (then_cmp (on length nat_cmp) (slice_cmp R)) (listed c)
listed-in_order {A} {R} {c} l = record {
  spelt = λ xs ys r s p q.
      let f = both (u64.fits (length xs)) (list_all c.fits xs) p in
      let g = both (u64.fits (length ys)) (list_all c.fits ys) q in
      (λ i. slice_cmp nat_cmp (append_assoc (u64.put (length xs)) (flat_map c.put xs) r i) (append_assoc (u64.put (length ys)) (flat_map c.put ys) s i))
      ∙ u64-in_order.spelt (length xs) (length ys) (flat_map c.put xs ++ r) (flat_map c.put ys ++ s) f.0 g.0
      ∙ by_length (length xs) (length ys) (slice_cmp R xs ys) (slice_cmp nat_cmp r s) (slice_cmp nat_cmp (flat_map c.put xs ++ r) (flat_map c.put ys ++ s))
      (λ e. elements R c.put c.fits l.spelt xs ys r s e f.1 g.1);
}

bytes : (xs ys r s : List ℕ) → length xs ≡ length ys → slice_cmp nat_cmp (xs ++ r) (ys ++ s) ≡ ordering_then (slice_cmp nat_cmp xs ys) (slice_cmp nat_cmp r s)
bytes [] [] r s l = refl
bytes [] (y ∷ ys) r s l = absurd (omega arith)
bytes (x ∷ xs) [] r s l = absurd (omega arith)
bytes (x ∷ xs) (y ∷ ys) r s l =
    ap (ordering_then (nat_cmp x y)) (bytes xs ys r s (omega arith))
    ∙ sym (then_assoc (nat_cmp x y) (slice_cmp nat_cmp xs ys) (slice_cmp nat_cmp r s))

text-in_order : InOrder (then_cmp (on length nat_cmp) (slice_cmp nat_cmp)) text
unfolding text blob
text-in_order = record {
  spelt = λ xs ys r s p q.
      let f = (both _ _ p).0 in
      let g = (both _ _ q).0 in
      (λ i. slice_cmp nat_cmp (append_assoc (u64.put (length xs)) xs r i) (append_assoc (u64.put (length ys)) ys s i))
      ∙ u64-in_order.spelt (length xs) (length ys) (xs ++ r) (ys ++ s) f g
      ∙ by_length (length xs) (length ys) (slice_cmp nat_cmp xs ys) (slice_cmp nat_cmp r s) (slice_cmp nat_cmp (xs ++ r) (ys ++ s)) (λ e. bytes xs ys r s e);
}

-- ---- names

library-in_order : InOrder library_cmp library
unfolding library
library-in_order = record { spelt = by }
  where
    by : (x y : LibName) (r s : List ℕ) → library.fits x ≡ true → library.fits y ≡ true → slice_cmp nat_cmp (library.put x ++ r) (library.put y ++ s)
        ≡ ordering_then (library_cmp x y) (slice_cmp nat_cmp r s)
    by n.Core n.Core r s p q = refl
    by n.Core n.Derived r s p q = refl
    by n.Core n.Prelude r s p q = refl
    by n.Core n.Program r s p q = refl
    by n.Core (n.User b) r s p q = refl
    by n.Derived n.Core r s p q = refl
    by n.Derived n.Derived r s p q = refl
    by n.Derived n.Prelude r s p q = refl
    by n.Derived n.Program r s p q = refl
    by n.Derived (n.User b) r s p q = refl
    by n.Prelude n.Core r s p q = refl
    by n.Prelude n.Derived r s p q = refl
    by n.Prelude n.Prelude r s p q = refl
    by n.Prelude n.Program r s p q = refl
    by n.Prelude (n.User b) r s p q = refl
    by n.Program n.Core r s p q = refl
    by n.Program n.Derived r s p q = refl
    by n.Program n.Prelude r s p q = refl
    by n.Program n.Program r s p q = refl
    by n.Program (n.User b) r s p q = refl
    by (n.User a) n.Core r s p q = refl
    by (n.User a) n.Derived r s p q = refl
    by (n.User a) n.Prelude r s p q = refl
    by (n.User a) n.Program r s p q = refl
    by (n.User a) (n.User b) r s p q = (listed-in_order text-in_order).spelt a b r s p q

name-in_order : InOrder name_cmp name
unfolding name
name-in_order = record { spelt = λ x y r s p q. (then-in_order library-in_order u64-in_order).spelt (x.library, x.number) (y.library, y.number) r s p q }

-- names that have spellings compare as these do, byte by byte
abbrev pub NamesRiseAsSpelled : Type 0
NamesRiseAsSpelled = (a b : Named) → name.fits a ≡ true → name.fits b ≡ true → name_cmp a b ≡ slice_cmp nat_cmp (name.put a) (name.put b)

pub names_rise : NamesRiseAsSpelled
names_rise a b p q =
    sym (then_equal (name_cmp a b)) ∙ sym (name-in_order.spelt a b [] [] p q)
    ∙ (λ i. slice_cmp nat_cmp (append-nil (name.put a) i) (append-nil (name.put b) i))
