-- The parts of a plan are its expressions.
use Rattle.std.proofs.Common.{◌≡◌, ℕ, ◌+◌, ◌≤◌, Bool, List, [], ◌∷◌, ◌++◌, refl, ap, sym, ◌∙◌, arith, append_assoc}
use Rattle.std.specs.Prelude.{if◌then◌else◌}
use Rattle.std.proofs.lemmas.Bool.{le-ltb}
use Rattle.std.proofs.lemmas.List.{append-nil}
use Rattle.stx_tree.specs.Tree.{Tree}
use Rattle.expand_heads.specs.Depth.{deeper, most_round}
use Rattle.core_quasi.specs.Plan.{PlainQuasi, PlainQuasis, constant, expression, call, none, more}
use Rattle.core_quasi.specs.declared.maker.Maker.{Maker}
use Rattle.core_quasi.specs.declared.maker.Maker.TheVariants as maker
use Rattle.expand_quasi.specs.Parts.{part, with_made, quasi_parts, all_quasi_parts}
use Rattle.expand_quasi.specs.declared.parts.PartForm.{PartForm}
use Rattle.law_quasi_code.specs.Wants.{Want, is_before, wants_as, all_wants, append_wants, wants, expressions, forms_of, nesting, all_nesting}

forms_joined : (ps qs : List PartForm) → forms_of (ps ++ qs) ≡ forms_of ps ++ forms_of qs
forms_joined [] qs = refl
forms_joined (p ∷ ps) qs = ap (λ ts. p.form ∷ ts) (forms_joined ps qs)

expressions_joined : (xs ys : List Want) → expressions (xs ++ ys) ≡ expressions xs ++ expressions ys
expressions_joined [] ys = refl
expressions_joined (x ∷ xs) ys = ap (λ ts. x.expression ∷ ts) (expressions_joined xs ys)

-- how they are put in makes no difference for what they are
either : (b : Bool) (q : PlainQuasi) → expressions (wants_as b q) ≡ expressions (wants q)
either b (constant t) = refl
either b (expression e) = refl
either b (call maker.List qs) = refl
either b (call maker.ConsStar qs) = refl
either b (call maker.Append qs) = refl
either b (call maker.ListToVector qs) = refl

appended : (qs : PlainQuasis) → expressions (append_wants qs) ≡ expressions (all_wants qs)
appended none = refl
appended (more q qs) =
    expressions_joined (wants_as (is_before qs) q) (append_wants qs) ∙ (λ i. either (is_before qs) q i ++ appended qs i) ∙ sym (expressions_joined (wants q) (all_wants qs))

of_call : (m : Maker) (qs : PlainQuasis) → expressions (wants (call m qs)) ≡ expressions (all_wants qs)
of_call maker.List qs = refl
of_call maker.ConsStar qs = refl
of_call maker.Append qs = appended qs
of_call maker.ListToVector qs = refl

module _ (form : Tree) where
  made_is : (depth : ℕ) (done : List PartForm) → depth ≤ most_round → with_made form depth done ≡ done
  made_is depth done h = ap (λ b. if b then done ++ part form depth ∷ [] else done) (le-ltb most_round depth h)

  deeper_is : (depth : ℕ) → depth ≤ most_round → deeper depth ≡ depth + 1
  deeper_is depth h = ap (λ b. if b then depth else depth + 1) (le-ltb most_round depth h)

  mutual
    pub parts_are : (q : PlainQuasi) (depth : ℕ) (done : List PartForm) → depth + nesting q ≤ most_round → forms_of (quasi_parts form depth done q) ≡ forms_of done ++ expressions (wants q)
    parts_are (constant t) depth done h = ap forms_of (made_is depth done (omega (arith, h))) ∙ sym (append-nil (forms_of done))
    parts_are (expression e) depth done h = forms_joined done (part e depth ∷ [])
    parts_are (call m qs) depth done h =
        ap (λ d. forms_of (all_quasi_parts form d (with_made form d done) qs)) (deeper_is depth (omega (arith, h)))
        ∙ ap (λ ps. forms_of (all_quasi_parts form (depth + 1) ps qs)) (made_is (depth + 1) done (omega (arith, h)))
        ∙ all_are qs (depth + 1) done (omega (arith, h))
        ∙ ap (λ ts. forms_of done ++ ts) (sym (of_call m qs))

    all_are : (qs : PlainQuasis) (depth : ℕ) (done : List PartForm) → depth + all_nesting qs ≤ most_round → forms_of (all_quasi_parts form depth done qs) ≡ forms_of done ++ expressions (all_wants qs)
    all_are none depth done h = sym (append-nil (forms_of done))
    all_are (more q qs) depth done h =
        all_are qs depth (quasi_parts form depth done q) (omega (arith, h))
        ∙ ap (λ ts. ts ++ expressions (all_wants qs)) (parts_are q depth done (omega (arith, h)))
        ∙ append_assoc (forms_of done) (expressions (wants q)) (expressions (all_wants qs))
        ∙ ap (λ ts. forms_of done ++ ts) (sym (expressions_joined (wants q) (all_wants qs)))
