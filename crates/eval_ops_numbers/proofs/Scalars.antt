-- Which integers are the scalar values of characters.
use Rattle.std.proofs.Common.{◌≡◌, ℕ, ◌≤◌, Bool, true, false, Option, None, Some, refl, ap, sym, ◌∙◌, arith}
use Rattle.std.specs.Prelude.{ℤ, pos, negsuc, ◌<ℤ◌, ◌≤ℤ◌, nat_lt, nat_le, ◌&&◌, ◌||◌, cond, if◌then◌else◌}
use Rattle.std.specs.Char.{IsScalar}
use Rattle.std.proofs.lemmas.Bool.Decides.{nat_tests}
use Rattle.std.proofs.lemmas.Int.{ints}
use Rattle.base_data.specs.declared.atom.Atom.TheVariants as a
use Rattle.eval_value.specs.declared.value.Value.TheVariants as value
use Rattle.eval_prims.specs.declared.made.PrimResult.{PrimResult}
use Rattle.eval_prims.specs.declared.made.PrimResult.TheVariants as made
use Rattle.eval_prims.specs.Characters.{is_scalar, character_of}

either : (b c : Bool) → b || c ≡ cond b true c
either true c = refl
either false c = refl

neither : (b c d : Bool) → b ≡ false → d ≡ false → b || (c && d) ≡ false
neither true c d h k = absurd (cc)
neither false true d h k = k
neither false false d h k = refl

not_true : (b : Bool) → ¬ (b ≡ true) → b ≡ false
not_true true h = absurd (h refl)
not_true false h = refl

taken : (b : Bool) (x : Option PrimResult) → b ≡ true → (if b then x else None) ≡ x
taken true x h = refl
taken false x h = absurd (cc)

refused : (b : Bool) (x : Option PrimResult) → b ≡ false → (if b then x else None) ≡ None
refused true x h = absurd (cc)
refused false x h = refl

scalar_test : (n : ℕ) → is_scalar n ≡ cond (nat_lt n 55296) true (nat_le 57344 n && nat_lt n 1114112)
scalar_test n = either (nat_lt n 55296) (nat_le 57344 n && nat_lt n 1114112)

pub negative_none : (z : ℤ) → z <ℤ pos 0 → character_of z ≡ None
negative_none (pos n) h = absurd (omega (arith, ints))
negative_none (negsuc n) h = refl

pub past_none : (z : ℤ) → pos 1114112 ≤ℤ z → character_of z ≡ None
past_none (pos n) h =
    let past : 1114112 ≤ n = omega (arith, ints) in
    let low : nat_lt n 55296 ≡ false = grind (arith, nat_tests) in
    let high : nat_lt n 1114112 ≡ false = grind (arith, nat_tests) in
    refused (is_scalar n) (Some (made.Value (value.Atom (a.Char n)))) (neither (nat_lt n 55296) (nat_le 57344 n) (nat_lt n 1114112) low high)
past_none (negsuc n) h = refl

pub character_from : (z : ℤ) (n : ℕ) → pos n ≡ z → IsScalar n → character_of z ≡ Some (made.Value (value.Atom (a.Char n)))
character_from z n e h = ap character_of (sym e) ∙ taken (is_scalar n) (Some (made.Value (value.Atom (a.Char n)))) (scalar_test n ∙ h)

pub no_character : (z : ℤ) (n : ℕ) → pos n ≡ z → ¬ (IsScalar n) → character_of z ≡ None
no_character z n e h =
    ap character_of (sym e) ∙ refused (is_scalar n) (Some (made.Value (value.Atom (a.Char n)))) (not_true (is_scalar n) (λ t. h (sym (scalar_test n) ∙ t)))
