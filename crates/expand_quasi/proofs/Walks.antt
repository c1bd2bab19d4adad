-- Walking over the parts of plans, and over patterns.
use Rattle.std.proofs.Common.{◌≡◌, ℕ, suc, ◌+◌, ◌<◌, List, [], ◌∷◌, ◌++◌, length, get_or, drop, sym, ap, ◌∙◌, arith, add-one, drop-cons, reverse}
use Rattle.base_data.specs.declared.op.Op.{Op}
use Rattle.core_language.specs.Core.{PlainCore}
use Rattle.core_language.specs.Pattern.{PlainPattern}
use Rattle.core_quasi.specs.Plan.{PlainQuasi, quasis, maker_op}
use Rattle.core_quasi.specs.declared.maker.Maker.{Maker}
use Rattle.stx_tree.specs.Tree.{Tree}
use Rattle.expand_quasi.specs.Filled.{op_of, call_of, called, filled, all_filled}
use Rattle.expand_quasi.specs.Inserted.{listed, pattern_under}
use Rattle.expand_quasi.specs.Parts.{quasi_parts, all_quasi_parts}
use Rattle.expand_quasi.specs.declared.parts.PartForm.{PartForm}

next_drop : (qs : List PlainQuasi) (i : ℕ) (q : PlainQuasi) → i < length qs → q ≡ get_or qs i q → drop i qs ≡ q ∷ drop (i + 1) qs
next_drop qs i q h e = rw add-one (drop-cons qs i q h ∙ ap (λ x. x ∷ drop (suc i) qs) (sym e))

-- the parts of one more
pub parts_on : (t : Tree) (depth : ℕ) (qs : List PlainQuasi) (i : ℕ) (q : PlainQuasi) (done new total : List PartForm) → i < length qs → q ≡ get_or qs i q → new ≡ quasi_parts t depth done q
    → all_quasi_parts t depth done (quasis (drop i qs)) ≡ total → all_quasi_parts t depth new (quasis (drop (i + 1) qs)) ≡ total
parts_on t depth qs i q done new total h e is so_far =
    ap (λ ps. all_quasi_parts t depth ps (quasis (drop (i + 1) qs))) is
    ∙ ap (λ rs. all_quasi_parts t depth done (quasis rs)) (sym (next_drop qs i q h e)) ∙ so_far

-- the code of one more
pub filled_on : (qs : List PlainQuasi) (i : ℕ) (q : PlainQuasi) (c : PlainCore) (done cs rest : List PlainCore) (total : List PlainCore × List PlainCore) → i < length qs → q ≡ get_or qs i q → (c, rest) ≡ filled q cs
    → all_filled done (quasis (drop i qs)) cs ≡ total → all_filled (done ++ c ∷ []) (quasis (drop (i + 1) qs)) rest ≡ total
filled_on qs i q c done cs rest total h e is so_far =
    ap (λ (p : PlainCore × List PlainCore). all_filled (done ++ p.0 ∷ []) (quasis (drop (i + 1) qs)) p.1) is
    ∙ ap (λ rs. all_filled done (quasis rs) cs) (sym (next_drop qs i q h e)) ∙ so_far

-- under one ellipsis more
pub under_on : (m n : ℕ) (p total : PlainPattern) → m ≡ n + 1 → pattern_under m p ≡ total → pattern_under n (listed p) ≡ total
under_on m n p total e so_far = let f : suc n ≡ m = omega (arith, e) in ap (λ k. pattern_under k p) f ∙ so_far

pub under_none : (n : ℕ) (p total : PlainPattern) → n ≡ 0 → pattern_under n p ≡ total → p ≡ total
under_none n p total e so_far = ap (λ k. pattern_under k p) (sym e) ∙ so_far

-- the procedure of a maker
pub op_is : (o : Op) (m : Maker) → o.0 ≡ maker_op m → o ≡ op_of m
op_is o m e = λ i. record { 0 = e i }

-- the code of a call, from that of its parts
pub call_filled : (o : Op) (m : Maker) (c : PlainCore) (cs rest : List PlainCore) (p : List PlainCore × List PlainCore) → o.0 ≡ maker_op m → (cs, rest) ≡ p → c ≡ call_of o cs → (c, rest) ≡ called m p
call_filled o m c cs rest p e h is = ap (λ x. (x, rest)) is ∙ ap (λ x. (call_of x cs, rest)) (op_is o m e) ∙ ap (called m) h

-- the code alone
pub first_code : (q : PlainQuasi) (ds cs rest : List PlainCore) (c : PlainCore) → ds ≡ cs → (c, rest) ≡ filled q ds → c ≡ (filled q cs).0
first_code q ds cs rest c e h = ap (λ (p : PlainCore × List PlainCore). p.0) h ∙ ap (λ xs. (filled q xs).0) e
