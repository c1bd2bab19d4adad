-- One step of each scan over a source, and what lies behind a place in it.
use Rattle.std.proofs.Common.{◌≡◌, ℕ, zero, suc, ◌+◌, ◌-◌, ◌<◌, ◌≤◌, true, false, List, [], ◌∷◌, length, drop, refl, ap, sym, subst, ◌∙◌, inl, inr, arith, cond, nat_le, nat_lt}
use Rattle.std.specs.Prelude.{◌==◌, ◌&&◌, Option, Some, None}
use Rattle.std.proofs.lemmas.Bool.Decides.{nat_tests}
use Rattle.std.proofs.lemmas.Bool.{cases_lt}
use Rattle.bstr.specs.Utf8.{decoded}
use Rattle.base_data.specs.Place.{Piece, moved, place_from, line_end, char_size, size_of}
use Rattle.law_places.proofs.Endings.{longest-endings}
use Rattle.base_data.proofs.Chars.{decoded-some, decoded-fits}
use Rattle.law_places.specs.Lines.{longest, endings, ends_from, starts_from, last_of, ends_up_to, begun_between}

-- the size of a character is some, and fits
size_of-some : (c : Option ℕ) (n : ℕ) → 0 < n → 0 < size_of c n
size_of-some None n h = omega arith
size_of-some (Some c) n h = h

size_of-fits : (c : Option ℕ) (n m : ℕ) → 0 < m → n ≤ m → size_of c n ≤ m
size_of-fits None n m h f = omega arith
size_of-fits (Some c) n m h f = f

pub char_size-some : (bytes : List ℕ) → 0 < length bytes → 0 < char_size bytes
char_size-some bytes h = size_of-some (decoded bytes).char (decoded bytes).size (decoded-some bytes h)

pub char_size-fits : (bytes : List ℕ) → 0 < length bytes → char_size bytes ≤ length bytes
char_size-fits bytes h = size_of-fits (decoded bytes).char (decoded bytes).size (length bytes) h (decoded-fits bytes h)

-- the scan for line ends, at one and at none
chosen-yes : {A : Type 0} (n : ℕ) (x y : A) → 0 < n → cond (nat_lt 0 n) x y ≡ x
chosen-yes n x y h = let e : nat_lt 0 n ≡ true = grind (arith, nat_tests) in rw e

chosen-no : {A : Type 0} (n : ℕ) (x y : A) → n ≡ 0 → cond (nat_lt 0 n) x y ≡ y
chosen-no n x y h = let e : nat_lt 0 n ≡ false = grind (arith, nat_tests) in rw e

pub ends-line : (k p : ℕ) (bytes : List ℕ) → 0 < length bytes → 0 < line_end bytes
    → ends_from (suc k) p bytes ≡ (p + line_end bytes) ∷ ends_from k (p + line_end bytes) (drop (line_end bytes) bytes)
unfolding ends_from
ends-line k p [] some h = absurd (omega arith)
ends-line k p (b ∷ rest) some h =
    let same : longest (b ∷ rest) endings ≡ line_end (b ∷ rest) = longest-endings (b ∷ rest) in
    subst (λ (n : ℕ). ends_from (suc k) p (b ∷ rest) ≡ (p + n) ∷ ends_from k (p + n) (drop n (b ∷ rest))) same
    (chosen-yes (longest (b ∷ rest) endings) _ _ (subst (λ (n : ℕ). 0 < n) (sym same) h))

pub ends-char : (k p : ℕ) (bytes : List ℕ) → 0 < length bytes → line_end bytes ≡ 0
    → ends_from (suc k) p bytes ≡ ends_from k (p + char_size bytes) (drop (char_size bytes) bytes)
unfolding ends_from
ends-char k p [] some h = absurd (omega arith)
ends-char k p (b ∷ rest) some h = chosen-no (longest (b ∷ rest) endings) _ _ (longest-endings (b ∷ rest) ∙ h)

-- the scan for characters
pub starts-char : (k p : ℕ) (bytes : List ℕ) → 0 < length bytes
    → starts_from (suc k) p bytes ≡ p ∷ starts_from k (p + char_size bytes) (drop (char_size bytes) bytes)
unfolding starts_from
starts-char k p [] some = absurd (omega arith)
starts-char k p (b ∷ rest) some = refl

-- the loop's step, at a line end within the offset and elsewhere
pub place-line : (k : ℕ) (bytes : List ℕ) (left : ℕ) (at : ℕ × ℕ) → 0 < line_end bytes → line_end bytes ≤ left
    → place_from (suc k) bytes left at ≡ place_from k (drop (line_end bytes) bytes) (left - line_end bytes) (at.0 + 1, 1)
unfolding place_from
place-line k bytes left at some fits =
    let not_done : left == 0 ≡ false = not_none left (omega arith) in
    rw not_done (ap (λ (r : Piece). place_from k (drop r.size bytes) (left - r.size) (moved at r.ends)) (piece-line (line_end bytes) (char_size bytes) left some fits))
  where
    not_none : (n : ℕ) → 0 < n → n == 0 ≡ false
    not_none n h = grind (arith, nat_tests)

    piece-line : (n s left : ℕ) → 0 < n → n ≤ left
        → ◌≡◌ {A = Piece} (cond (nat_lt 0 n && nat_le n left) (record { ends = true; size = n }) (record { ends = false; size = s })) (record { ends = true; size = n })
    piece-line n s left some fits = let e : nat_lt 0 n && nat_le n left ≡ true = grind (arith, nat_tests) in rw e

pub place-char : (k : ℕ) (bytes : List ℕ) (left : ℕ) (at : ℕ × ℕ) → 0 < left → (0 < line_end bytes → left < line_end bytes)
    → place_from (suc k) bytes left at ≡ place_from k (drop (char_size bytes) bytes) (left - char_size bytes) (at.0, at.1 + 1)
unfolding place_from
place-char k bytes left at some none =
    let not_done : left == 0 ≡ false = not_none left some in
    rw not_done (ap (λ (r : Piece). place_from k (drop r.size bytes) (left - r.size) (moved at r.ends)) (piece-char (line_end bytes) (char_size bytes) left none))
  where
    not_none : (n : ℕ) → 0 < n → n == 0 ≡ false
    not_none n h = grind (arith, nat_tests)

    piece-char : (n s left : ℕ) → (0 < n → left < n)
        → ◌≡◌ {A = Piece} (cond (nat_lt 0 n && nat_le n left) (record { ends = true; size = n }) (record { ends = false; size = s })) (record { ends = false; size = s })
    piece-char n s left none = let e : nat_lt 0 n && nat_le n left ≡ false = grind (arith, nat_tests) in rw e

pub place-done : (k : ℕ) (bytes : List ℕ) (at : ℕ × ℕ) → place_from k bytes 0 at ≡ at
unfolding place_from
place-done zero bytes at = refl
place-done (suc k) bytes at = refl

-- what holds of both outcomes of the test for a line end
tested : {A : Type 0} (P : A → Type 0) (n : ℕ) (x y : A) → (0 < n → P x) → (n ≡ 0 → P y) → P (cond (nat_lt 0 n) x y)
tested P n x y f g =
    elim (cases_lt 0 n) [ inl h ↦ subst P (sym (chosen-yes n x y h)) (f h) | inr h ↦ let e : n ≡ 0 = omega arith in subst P (sym (chosen-no n x y e)) (g e) ]

-- each number is above the bound
abbrev pub Above : ℕ → List ℕ → Type 0
Above b [] = Unit {0}
Above b (x ∷ xs) = (b < x) × Above b xs

-- every line end of bytes that begin at p ends behind p
pub ends-above : (k p b : ℕ) (bytes : List ℕ) → b ≤ p → Above b (ends_from k p bytes)
unfolding ends_from
ends-above zero p b bytes h = tt
ends-above (suc k) p b [] h = tt
ends-above (suc k) p b (c ∷ rest) h =
    let size : ℕ = longest (c ∷ rest) endings in
    tested (Above b) size _ _
    (λ some. (omega arith, ends-above k (p + size) b (drop size (c ∷ rest)) (omega arith)))
    (λ none. ends-above k (p + char_size (c ∷ rest)) b (drop (char_size (c ∷ rest)) (c ∷ rest)) (omega arith))

-- none of them is at or before an offset that is not behind p
pub none-up_to : (offset b : ℕ) (ends : List ℕ) → offset ≤ b → Above b ends → ends_up_to offset ends ≡ []
none-up_to offset b [] h above = refl
none-up_to offset b (e ∷ ends) h (here, more) =
    let t : nat_le e offset ≡ false = grind (arith, nat_tests) in rw t (none-up_to offset b ends h more)

pub up_to-above : (offset b : ℕ) (ends : List ℕ) → Above b ends → Above b (ends_up_to offset ends)
up_to-above offset b [] above = tt
up_to-above offset b (e ∷ ends) (here, more) =
    elim (cases_lt offset e) [
      | inl h ↦ let t : nat_le e offset ≡ false = grind (arith, nat_tests) in rw t (up_to-above offset b ends more)
      | inr h ↦ let t : nat_le e offset ≡ true = grind (arith, nat_tests) in rw t (here, up_to-above offset b ends more)
    ]

pub up_to-here : (offset e : ℕ) (ends : List ℕ) → e ≤ offset → ends_up_to offset (e ∷ ends) ≡ e ∷ ends_up_to offset ends
up_to-here offset e ends h = let t : nat_le e offset ≡ true = grind (arith, nat_tests) in rw t

-- the last number is above the bound too
pub last-above : (b other : ℕ) (ends : List ℕ) → b < other → Above b ends → b < last_of other ends
last-above b other [] h above = h
last-above b other (e ∷ ends) h (here, more) = last-above b e ends here more

-- no character of bytes that begin at p begins before p
pub none-begun : (k p start offset : ℕ) (bytes : List ℕ) → offset ≤ p → begun_between start offset (starts_from k p bytes) ≡ []
unfolding starts_from
none-begun zero p start offset bytes h = refl
none-begun (suc k) p start offset [] h = refl
none-begun (suc k) p start offset (b ∷ rest) h =
    let t : nat_le start p && nat_lt p offset ≡ false = grind (arith, nat_tests) in
    rw t (none-begun k (p + char_size (b ∷ rest)) start offset (drop (char_size (b ∷ rest)) (b ∷ rest)) (omega arith))

pub begun-before : (p start offset : ℕ) (starts : List ℕ) → p < start → begun_between start offset (p ∷ starts) ≡ begun_between start offset starts
begun-before p start offset starts h = let t : nat_le start p && nat_lt p offset ≡ false = grind (arith, nat_tests) in rw t

pub begun-here : (p start offset : ℕ) (starts : List ℕ) → start ≤ p → p < offset → begun_between start offset (p ∷ starts) ≡ p ∷ begun_between start offset starts
begun-here p start offset starts h l = let t : nat_le start p && nat_lt p offset ≡ true = grind (arith, nat_tests) in rw t
