-- The size of the line end that comes is that of the longest one that comes.
use Rattle.std.proofs.Common.{◌≡◌, ℕ, List, [], ◌∷◌, false, refl, inl, inr, arith}
use Rattle.std.specs.Prelude.{◌==◌, ◌⊎◌}
use Rattle.std.proofs.lemmas.Bool.{cases_lt}
use Rattle.std.proofs.lemmas.Bool.Decides.{nat_tests}
use Rattle.base_data.specs.Place.{line_end}
use Rattle.law_places.specs.Lines.{longest, endings}

-- two numbers are equal, or a test tells them apart from either side
record Apart (a b : ℕ) : Type 0 where
  here : a == b ≡ false
  there : b == a ≡ false

decide : (a b : ℕ) → (a ≡ b) ⊎ Apart a b
decide a b =
    elim (cases_lt a b) [
      | inl h ↦ inr (record { here = grind (arith, nat_tests); there = grind (arith, nat_tests) })
      | inr h ↦ elim (cases_lt b a) [
        | inl g ↦ inr (record { here = grind (arith, nat_tests); there = grind (arith, nat_tests) })
        | inr g ↦ inl (omega arith)
      ]
    ]

-- behind a return, behind a return and 0xC2, behind 0xC2, and behind 0xE2 and 0x80
return_next : (rest : List ℕ) → longest (0x0D ∷ 0xC2 ∷ rest) endings ≡ line_end (0x0D ∷ 0xC2 ∷ rest)
unfolding longest
return_next [] = refl
return_next (d ∷ rest) = elim (decide d 0x85) [ inl e ↦ rw e refl | inr n ↦ rw (n.here, n.there) refl ]

at_return : (rest : List ℕ) → longest (0x0D ∷ rest) endings ≡ line_end (0x0D ∷ rest)
unfolding longest
at_return [] = refl
at_return (c ∷ rest) =
    elim (decide c 0x0A) [
      | inl e ↦ rw e refl
      | inr n ↦ elim (decide c 0xC2) [ inl e ↦ rw e (return_next rest) | inr m ↦ rw (n.here, n.there, m.here, m.there) refl ]
    ]

at_next : (rest : List ℕ) → longest (0xC2 ∷ rest) endings ≡ line_end (0xC2 ∷ rest)
unfolding longest
at_next [] = refl
at_next (c ∷ rest) = elim (decide c 0x85) [ inl e ↦ rw e refl | inr n ↦ rw (n.here, n.there) refl ]

separator_last : (rest : List ℕ) → longest (0xE2 ∷ 0x80 ∷ rest) endings ≡ line_end (0xE2 ∷ 0x80 ∷ rest)
unfolding longest
separator_last [] = refl
separator_last (d ∷ rest) = elim (decide d 0xA8) [ inl e ↦ rw e refl | inr n ↦ rw (n.here, n.there) refl ]

at_separator : (rest : List ℕ) → longest (0xE2 ∷ rest) endings ≡ line_end (0xE2 ∷ rest)
unfolding longest
at_separator [] = refl
at_separator (c ∷ rest) = elim (decide c 0x80) [ inl e ↦ rw e (separator_last rest) | inr n ↦ rw (n.here, n.there) refl ]

pub longest-endings : (bytes : List ℕ) → longest bytes endings ≡ line_end bytes
unfolding longest
longest-endings [] = refl
longest-endings (b ∷ rest) =
    elim (decide b 0x0A) [
      | inl e ↦ rw e refl
      | inr n ↦ elim (decide b 0x0D) [
        | inl e ↦ rw e (at_return rest)
        | inr m ↦ elim (decide b 0xC2) [
          | inl e ↦ rw e (at_next rest)
          | inr o ↦ elim (decide b 0xE2) [
            | inl e ↦ rw e (at_separator rest)
            | inr q ↦ rw (n.here, n.there, m.here, m.there, o.here, o.there, q.here, q.there) refl
          ]
        ]
      ]
    ]
