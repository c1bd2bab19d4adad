-- The bytes that are escaped are what is written out.
use Rattle.std.proofs.Common.{◌≡◌, ℕ, zero, suc, ◌<◌, ◌≤◌, Bool, true, false, refl, sym, ap, ◌∙◌, arith}
use Rattle.std.specs.Prelude.{◌==◌, ◌&&◌, not, nat_lt}
use Rattle.std.proofs.lemmas.Bool.{eqb-true}
use Rattle.std.proofs.lemmas.Bool.Decides.{nat_tests}
use Rattle.percent_encoding.specs.AsciiSet.{should_percent_encode}
use Rattle.load_file_names.specs.declared.file.TheConstants.{ESCAPED}
use Rattle.law_tables.specs.Kept.{is_kept, OthersAreEscaped}

abbrev same : Bool → Bool → Bool
same true b = b
same false b = not b

same_is : (a b : Bool) → same a b ≡ true → a ≡ b
same_is true true h = refl
same_is true false h = absurd (cc)
same_is false true h = absurd (cc)
same_is false false h = refl

-- a byte is as it is written
abbrev holds : ℕ → Bool
holds b = same (should_percent_encode ESCAPED b) (not (is_kept b))

-- so are all below one
abbrev all_hold : ℕ → Bool
all_hold zero = true
all_hold (suc n) = holds n && all_hold n

both : (a b : Bool) → (a && b) ≡ true → (a ≡ true) × (b ≡ true)
both true true h = (refl, refl)
both true false h = absurd (cc)
both false b h = absurd (cc)

one_holds : (n b : ℕ) → b < n → all_hold n ≡ true → holds b ≡ true
one_holds zero b h all = absurd (omega arith)
one_holds (suc n) b h all = by (b == n) refl (λ less. one_holds n b less parts.1)
  where
    parts : (holds n ≡ true) × (all_hold n ≡ true)
    parts = both (holds n) (all_hold n) all

    by : (t : Bool) → (b == n) ≡ t → (b < n → holds b ≡ true) → holds b ≡ true
    by true e further = ap holds (eqb-true b n e) ∙ parts.0
    by false e further = further (grind (arith, nat_tests))

ascii_hold : all_hold 128 ≡ true
unfolding should_percent_encode
ascii_hold = refl

-- a byte past ASCII is escaped
high : (b : ℕ) → 128 ≤ b → should_percent_encode ESCAPED b ≡ true
unfolding should_percent_encode
high b h = grind (arith, nat_tests)

high_kept : (b : ℕ) → 128 ≤ b → is_kept b ≡ false
high_kept b h = grind (arith, nat_tests)

pub others_escaped : OthersAreEscaped
others_escaped b = by (nat_lt b 128) refl
  where
    by : (t : Bool) → nat_lt b 128 ≡ t → should_percent_encode ESCAPED b ≡ not (is_kept b)
    by true e = same_is (should_percent_encode ESCAPED b) (not (is_kept b)) (one_holds 128 b (grind (arith, nat_tests)) ascii_hold)
    by false e =
        let past : 128 ≤ b = grind (arith, nat_tests) in
        high b past ∙ sym (ap not (high_kept b past))
