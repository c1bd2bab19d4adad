-- What the code of a plan of `quasiquote` names, its parts name, and these are the expressions in it.
use Rattle.std.proofs.Common.{◌≡◌, ◌≤◌, ◌+◌, ℕ, Bool, true, false, List, [], ◌∷◌, ◌++◌, map, length, refl, sym, ap, ◌∙◌, subst, arith, append-nil, append_assoc, length-append, true≢false, if◌then◌else◌}
use Rattle.std.specs.Prelude.{nat_lt}
use Rattle.base_data.specs.Elements.{Each}
use Rattle.stx_tree.specs.Tree.{Tree}
use Rattle.core_language.specs.Core.{PlainCore, cores}
use Rattle.law_references.specs.Namings.{namings, all_namings}
use Rattle.law_references.specs.Parts.{expressions_in, all_expressions, inserted_expressions, expressions_of}
use Rattle.core_quasi.specs.Plan as quasi
use Rattle.core_quasi.specs.Plan.{PlainQuasi, PlainQuasis, constant, expression, none, more}
use Rattle.expand_quasi.specs.Filled.{next_code, filled, all_filled}
use Rattle.core_quasi.specs.declared.quasi_syntax.Insert.{Insert}
use Rattle.expand_quasi.specs.Form.{parts_of}
use Rattle.expand_quasi.specs.Parts.{part, with_made, quasi_parts, all_quasi_parts, insert_part, inserts_parts}
use Rattle.expand_quasi.specs.declared.form.QuasiForm.{QuasiForm}
use Rattle.expand_quasi.specs.declared.form.QuasiForm.TheVariants as quasi_forms
use Rattle.expand_quasi.specs.declared.parts.PartForm.{PartForm}
use Rattle.expand_heads.specs.Depth.{deeper, most_round}

-- how many expressions there are in a plan
abbrev mutual
  count : PlainQuasi → ℕ
  count (constant t) = 0
  count (expression t) = 1
  count (quasi.call m qs) = counts qs

  counts : PlainQuasis → ℕ
  counts none = 0
  counts (more q qs) = count q + counts qs

-- No part is too deep where expansion gives something.

abbrev pub IsLow : PartForm → Type 0
IsLow p = nat_lt most_round p.depth ≡ false

each-first : (ps qs : List PartForm) → Each IsLow (ps ++ qs) → Each IsLow ps
each-first [] qs h = tt
each-first (p ∷ ps) qs h = (h.0, each-first ps qs h.1)

each-last : (ps : List PartForm) (p : PartForm) → Each IsLow (ps ++ p ∷ []) → IsLow p
each-last [] p h = h.0
each-last (q ∷ ps) p h = each-last ps p h.1

pub made-low : (t : Tree) (d : ℕ) (done : List PartForm) → Each IsLow (with_made t d done) → with_made t d done ≡ done
made-low t d done h = by (nat_lt most_round d) refl h
  where
    by : (b : Bool) → nat_lt most_round d ≡ b → Each IsLow (if b then done ++ part t d ∷ [] else done) → (if b then done ++ part t d ∷ [] else done) ≡ done
    by true e k = absurd (true≢false (sym e ∙ each-last done (part t d) k))
    by false e k = refl

record Counted (done parts : List PartForm) (n : ℕ) : Type 0 where
  low : Each IsLow done
  all : length parts ≡ length done + n

made-counted : (t : Tree) (d : ℕ) (done : List PartForm) → Each IsLow (with_made t d done) → Counted done (with_made t d done) 0
made-counted t d done h = let e = made-low t d done h in record { low = subst (Each IsLow) e h; all = ap length e ∙ (omega arith) }

mutual
  quasi-counted : (t : Tree) (d : ℕ) (done : List PartForm) (q : PlainQuasi) → Each IsLow (quasi_parts t d done q) → Counted done (quasi_parts t d done q) (count q)
  quasi-counted t d done (constant c) h = made-counted t d done h
  quasi-counted t d done (expression e) h = record { low = each-first done (part e d ∷ []) h; all = length-append done (part e d ∷ []) }
  quasi-counted t d done (quasi.call m qs) h =
      let inner = all-counted t (deeper d) (with_made t (deeper d) done) qs h in
      let outer = made-counted t (deeper d) done inner.low in
      record { low = outer.low; all = let x = inner.all in let y = outer.all in omega (arith, x, y) }

  all-counted : (t : Tree) (d : ℕ) (done : List PartForm) (qs : PlainQuasis) → Each IsLow (all_quasi_parts t d done qs) → Counted done (all_quasi_parts t d done qs) (counts qs)
  all-counted t d done none h = record { low = h; all = omega arith }
  all-counted t d done (more q qs) h =
      let others = all-counted t d (quasi_parts t d done q) qs h in
      let one = quasi-counted t d done q others.low in
      record { low = one.low; all = let x = others.all in let y = one.all in omega (arith, x, y) }

-- So the parts are the expressions in the form.

abbrev pub forms_of : List PartForm → List Tree
forms_of ps = map (λ (p : PartForm). p.form) ps

forms-joined : (ps qs : List PartForm) → forms_of (ps ++ qs) ≡ forms_of ps ++ forms_of qs
forms-joined [] qs = refl
forms-joined (p ∷ ps) qs = ap (λ ts. p.form ∷ ts) (forms-joined ps qs)

mutual
  quasi-forms : (t : Tree) (d : ℕ) (done : List PartForm) (q : PlainQuasi) → Each IsLow (quasi_parts t d done q) → forms_of (quasi_parts t d done q) ≡ forms_of done ++ expressions_in q
  quasi-forms t d done (constant c) h = ap forms_of (made-low t d done h) ∙ sym (append-nil (forms_of done))
  quasi-forms t d done (expression e) h = forms-joined done (part e d ∷ [])
  quasi-forms t d done (quasi.call m qs) h =
      all-forms t (deeper d) (with_made t (deeper d) done) qs h
      ∙ ap (λ ps. forms_of ps ++ all_expressions qs) (made-low t (deeper d) done (all-counted t (deeper d) (with_made t (deeper d) done) qs h).low)

  all-forms : (t : Tree) (d : ℕ) (done : List PartForm) (qs : PlainQuasis) → Each IsLow (all_quasi_parts t d done qs) → forms_of (all_quasi_parts t d done qs) ≡ forms_of done ++ all_expressions qs
  all-forms t d done none h = sym (append-nil (forms_of done))
  all-forms t d done (more q qs) h =
      all-forms t d (quasi_parts t d done q) qs h
      ∙ ap (λ ts. ts ++ all_expressions qs) (quasi-forms t d done q (all-counted t d (quasi_parts t d done q) qs h).low)
      ∙ append_assoc (forms_of done) (expressions_in q) (all_expressions qs)

inserts-forms : (d : ℕ) (is : List Insert) → forms_of (map (insert_part d) is) ≡ inserted_expressions is
inserts-forms d [] = refl
inserts-forms d (i ∷ is) = ap (λ ts. i.expression ∷ ts) (inserts-forms d is)

pub parts-are : (t : Tree) (d : ℕ) (q : QuasiForm) → Each IsLow (parts_of t d q) → forms_of (parts_of t d q) ≡ expressions_of q
parts-are t d (quasi_forms.Quote q) h = quasi-forms t d [] q h
parts-are t d (quasi_forms.Syntax q) h = by q.inserts h
  where
    by : (is : List Insert) → Each IsLow (inserts_parts t d is) → forms_of (inserts_parts t d is) ≡ inserted_expressions is
    by [] k = ap forms_of (made-low t d [] k)
    by (i ∷ is) k =
        let e = deeper (deeper d) in
        let those : List PartForm = map (insert_part e) (i ∷ is) in
        ap (λ ps. forms_of (ps ++ those)) (made-low t e [] (each-first (with_made t e []) those k)) ∙ inserts-forms e (i ∷ is)

-- The code takes the codes in order, and all of them.

cores-joined : (cs ds : List PlainCore) → all_namings (cores (cs ++ ds)) ≡ all_namings (cores cs) ++ all_namings (cores ds)
cores-joined [] ds = refl
cores-joined (c ∷ cs) ds = ap (λ ls. namings c ++ ls) (cores-joined cs ds) ∙ sym (append_assoc (namings c) (all_namings (cores cs)) (all_namings (cores ds)))

next-said : (t : Tree) (cs : List PlainCore) → namings (next_code t cs).0 ++ all_namings (cores (next_code t cs).1) ≡ all_namings (cores cs)
next-said t [] = refl
next-said t (c ∷ cs) = refl

next-left : (t : Tree) (cs : List PlainCore) → 1 ≤ length cs → length (next_code t cs).1 + 1 ≡ length cs
next-left t [] le = omega (arith, le)
next-left t (c ∷ cs) le = omega arith

mutual
  filled-said : (q : PlainQuasi) (cs : List PlainCore) → namings (filled q cs).0 ++ all_namings (cores (filled q cs).1) ≡ all_namings (cores cs)
  filled-said (constant t) cs = refl
  filled-said (expression t) cs = next-said t cs
  filled-said (quasi.call m qs) cs = all-said [] qs cs

  all-said : (done : List PlainCore) (qs : PlainQuasis) (cs : List PlainCore) → all_namings (cores (all_filled done qs cs).0) ++ all_namings (cores (all_filled done qs cs).1) ≡ all_namings (cores done) ++ all_namings (cores cs)
  all-said done none cs = refl
  all-said done (more q qs) cs =
      let p = filled q cs in
      all-said (done ++ p.0 ∷ []) qs p.1
      ∙ ap (λ ls. ls ++ all_namings (cores p.1)) (cores-joined done (p.0 ∷ []))
      ∙ append_assoc (all_namings (cores done)) (namings p.0 ++ []) (all_namings (cores p.1))
      ∙ ap (λ ls. all_namings (cores done) ++ ls) (ap (λ ls. ls ++ all_namings (cores p.1)) (append-nil (namings p.0)) ∙ filled-said q cs)

mutual
  filled-left : (q : PlainQuasi) (cs : List PlainCore) → count q ≤ length cs → length (filled q cs).1 + count q ≡ length cs
  filled-left (constant t) cs le = omega arith
  filled-left (expression t) cs le = next-left t cs le
  filled-left (quasi.call m qs) cs le = all-left [] qs cs le

  all-left : (done : List PlainCore) (qs : PlainQuasis) (cs : List PlainCore) → counts qs ≤ length cs → length (all_filled done qs cs).1 + counts qs ≡ length cs
  all-left done none cs le = omega arith
  all-left done (more q qs) cs le =
      let one = filled-left q cs (omega (arith, le)) in
      let others = all-left (done ++ (filled q cs).0 ∷ []) qs (filled q cs).1 (omega (arith, le, one)) in
      omega (arith, one, others)

pub no-cores : (cs : List PlainCore) → length cs ≡ 0 → cs ≡ []
no-cores [] e = refl
no-cores (c ∷ cs) e = absurd (omega (arith, e))

pub quote-said : (t : Tree) (d : ℕ) (q : PlainQuasi) (cs : List PlainCore) → Each IsLow (quasi_parts t d [] q) → length cs ≡ length (quasi_parts t d [] q) → namings (filled q cs).0 ≡ all_namings (cores cs)
quote-said t d q cs h e =
    let total = (quasi-counted t d [] q h).all in
    let left = filled-left q cs (omega (arith, e, total)) in
    let none-left : (filled q cs).1 ≡ [] = no-cores (filled q cs).1 (omega (arith, e, total, left)) in
    sym (append-nil (namings (filled q cs).0)) ∙ ap (λ ds. namings (filled q cs).0 ++ all_namings (cores ds)) (sym none-left) ∙ filled-said q cs
