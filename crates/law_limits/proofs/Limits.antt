-- The limits of trees are such a law.
use Rattle.std.proofs.Common.{◌≡◌, ℕ, ◌+◌, ◌≤◌, max, Bool, true, false, Option, Result, Ok, Err, refl, sym, subst, arith, if◌then◌else◌}
use Rattle.std.proofs.Math.Nat.{le-max_left, le-max_right}
use Rattle.std.specs.Prelude.{nat_le, ◌&&◌}
use Rattle.std.proofs.lemmas.Bool.Decides.{nat_tests}
use Rattle.base_data.specs.declared.fault.Bare.{Bare}
use Rattle.base_data.specs.declared.span.Span.{Span}
use Rattle.stx_tree.specs.Measures.{joint, size, height, max_height, max_size, Fits, fits, too_deep, within}
use Rattle.stx_tree.specs.Tree.{Tree, atom, leaf, pair, vector, spanned, unspanned}
use Rattle.stx_tree.proofs.MeasureLaws.{height-unspanned, size-unspanned, changed_fits}
use Rattle.law_limits.specs.Lawful.{IsLawful}
use Rattle.law_limits.specs.Limits.{UsesStayWithin}
use Rattle.law_limits.proofs.Stages.{GaveStage, Done, used-holds, finish-holds}

first-fits : (s : Option Span) (t u : Tree) → Fits (pair s t u) → Fits t
first-fits s t u h =
    let high = h.0 in
    let large = h.1 in
    let most = le-max_left (height t + 1) (height u + joint u) in
    (omega (arith, high, most), omega (arith, large))

rest-fits : (s : Option Span) (t u : Tree) → Fits (pair s t u) → Fits u
rest-fits s t u h =
    let high = h.0 in
    let large = h.1 in
    let most = le-max_right (height t + 1) (height u + joint u) in
    (omega (arith, high, most), omega (arith, large))

spanned-fits : (s : Option Span) (t : Tree) → Fits t → Fits (spanned s t)
spanned-fits s (atom r a) h = h
spanned-fits s (leaf r x c) h = h
spanned-fits s (pair r a d) h = h
spanned-fits s (vector r d) h = h

unspanned-fits : (t : Tree) → Fits t → Fits (unspanned t)
unspanned-fits t h = (subst (λ n. n ≤ max_height) (sym (height-unspanned t)) h.0, subst (λ n. n ≤ max_size) (sym (size-unspanned t)) h.1)

within-fits : (t u : Tree) → within t ≡ Ok u → Fits u
unfolding within
within-fits t u e = by (nat_le (height t) max_height) (nat_le (size t) max_size) refl refl e
  where
    fit : nat_le (height t) max_height ≡ true → nat_le (size t) max_size ≡ true → Fits t
    fit h k = (grind (arith, nat_tests), grind (arith, nat_tests))

    by : (b c : Bool) → nat_le (height t) max_height ≡ b → nat_le (size t) max_size ≡ c → (if b && c then Ok t else Err too_deep) ≡ Ok u → Fits u
    by true true h k is = let same : t ≡ u = cc in subst Fits same (fit h k)
    by true false h k is = absurd (cc)
    by false c h k is = absurd (cc)

pub fits-lawful : IsLawful Fits
fits-lawful = record {
  atoms = λ s x. (omega arith, omega arith);
  leaves = λ s x c. (omega arith, omega arith);
  first = first-fits;
  rest = rest-fits;
  elements = λ s t h. h;
  spanned = spanned-fits;
  unspanned = unspanned-fits;
  changed = changed_fits;
  within = within-fits;
}

pub uses-stay : UsesStayWithin
uses-stay = record {
  uses = λ place rs t l e f g h u stage records expression tree is. let k = subst (GaveStage Fits fits-lawful Fits) is (used-holds Fits fits-lawful place rs t l e f g stage records expression tree) in (k.1, k.0);
  definitions = λ place rs l c g h stage records code is. (subst (GaveStage Fits fits-lawful (Done Fits fits-lawful)) is (finish-holds Fits fits-lawful place rs l c g stage records code)).0;
}
