-- Only a form of `set!` has the shape of one, and no identifier has the shape of a `syntax` form.
use Rattle.std.proofs.Common.{◌≡◌, Bool, true, false, List, [], ◌∷◌, Option, None, Some, Ok, refl, sym, ap, ◌∙◌, subst, inl, inr, if◌then◌else◌}
use Rattle.std.specs.Prelude.{◌⊎◌}
use Rattle.base_data.specs.declared.span.Span.{Span}
use Rattle.stx_tree.specs.Tree.{Tree, atom, leaf, pair, vector}
use Rattle.core_language.specs.declared.core_form.CoreForm.{CoreForm}
use Rattle.core_language.specs.declared.core_form.CoreForm.TheVariants as form
use Rattle.core_shapes.specs.Forms.{formals, bindings, lambda_case, pattern_case, quote_shape, operand_shape, lambda_shape, case_lambda_shape, if_shape, set_shape, letrec_shape, let_syntax_shape, define_variable, procedure_of, define_procedure, define_shape, define_syntax_shape, syntax_case_shape, shaped, by_operands, shape_of, or_bad, shape}
use Rattle.core_shapes.specs.Lists.{is_leaf, split_first, proper_elements, if_some, all_of}
use Rattle.core_shapes.specs.declared.lists.Split.{Split}
use Rattle.core_shapes.specs.declared.shape.Shape.{Shape}
use Rattle.core_shapes.specs.declared.shape.Shape.TheVariants as shapes

abbrev IsNoSet : Option Shape → Type 0
IsNoSet None = Unit {0}
IsNoSet (Some (shapes.Set id value)) = ⊥
IsNoSet (Some x) = Unit {0}

no-set-then : {A : Type 0} (o : Option A) (k : A → Option Shape) → ((x : A) → IsNoSet (k x)) → IsNoSet (if_some o k)
no-set-then None k h = tt
no-set-then (Some x) k h = h x

no-set-if : (b : Bool) (o p : Option Shape) → IsNoSet o → IsNoSet p → IsNoSet (if b then o else p)
no-set-if true o p h k = h
no-set-if false o p h k = k

no-quote : (xs : List Tree) → IsNoSet (quote_shape xs)
unfolding quote_shape
no-quote [] = tt
no-quote (d ∷ []) = tt
no-quote (d ∷ (x ∷ xs)) = tt

no-operand : (xs : List Tree) → IsNoSet (operand_shape xs)
unfolding operand_shape
no-operand [] = tt
no-operand (d ∷ []) = tt
no-operand (d ∷ (x ∷ xs)) = tt

no-lambda : (xs : List Tree) → IsNoSet (lambda_shape xs)
unfolding lambda_shape
no-lambda [] = tt
no-lambda (ids ∷ body) = no-set-then (formals ids) (λ f. Some (shapes.Lambda f body)) (λ f. tt)

no-case-lambda : (xs : List Tree) → IsNoSet (case_lambda_shape xs)
unfolding case_lambda_shape
no-case-lambda xs = no-set-then (all_of lambda_case [] xs) (λ cs. Some (shapes.CaseLambda cs)) (λ cs. tt)

no-if : (xs : List Tree) → IsNoSet (if_shape xs)
unfolding if_shape
no-if [] = tt
no-if (c ∷ []) = tt
no-if (c ∷ (t ∷ [])) = tt
no-if (c ∷ (t ∷ (f ∷ []))) = tt
no-if (c ∷ (t ∷ (f ∷ (x ∷ xs)))) = tt

no-letrec : (xs : List Tree) → IsNoSet (letrec_shape xs)
unfolding letrec_shape
no-letrec [] = tt
no-letrec (specs ∷ body) = no-set-then (bindings specs) (λ bs. Some (shapes.Letrec bs body)) (λ bs. tt)

no-let-syntax : (xs : List Tree) → IsNoSet (let_syntax_shape xs)
unfolding let_syntax_shape
no-let-syntax [] = tt
no-let-syntax (specs ∷ body) = no-set-then (bindings specs) (λ bs. Some (shapes.LetSyntax bs body)) (λ bs. tt)

no-define-variable : (id : Tree) (xs : List Tree) → IsNoSet (define_variable id xs)
unfolding define_variable
no-define-variable id [] = tt
no-define-variable id (v ∷ []) = tt
no-define-variable id (v ∷ (x ∷ xs)) = tt

no-define-procedure : (target : Tree) (body : List Tree) → IsNoSet (define_procedure target body)
unfolding define_procedure
no-define-procedure target body =
    no-set-then (split_first target) (procedure_of body)
    (λ (x : Split). no-set-if (is_leaf x.first) (if_some (formals x.rest) (λ f. Some (shapes.DefineProcedure x.first f body))) None (no-set-then (formals x.rest) (λ f. Some (shapes.DefineProcedure x.first f body)) (λ f. tt)) tt)

no-define : (xs : List Tree) → IsNoSet (define_shape xs)
unfolding define_shape
no-define [] = tt
no-define (target ∷ others) = no-set-if (is_leaf target) (define_variable target others) (define_procedure target others) (no-define-variable target others) (no-define-procedure target others)

no-define-syntax : (xs : List Tree) → IsNoSet (define_syntax_shape xs)
unfolding define_syntax_shape
no-define-syntax [] = tt
no-define-syntax (id ∷ []) = tt
no-define-syntax (id ∷ (v ∷ [])) = no-set-if (is_leaf id) (Some (shapes.DefineSyntax id v)) None tt tt
no-define-syntax (id ∷ (v ∷ (x ∷ xs))) = tt

no-syntax-case : (xs : List Tree) → IsNoSet (syntax_case_shape xs)
unfolding syntax_case_shape
no-syntax-case [] = tt
no-syntax-case (subject ∷ []) = tt
no-syntax-case (subject ∷ (literals ∷ clauses)) =
    no-set-then (proper_elements literals) (λ ls. if_some (all_of pattern_case [] clauses) (λ cs. Some (shapes.SyntaxCase subject ls cs)))
    (λ ls. no-set-then (all_of pattern_case [] clauses) (λ cs. Some (shapes.SyntaxCase subject ls cs)) (λ cs. tt))

shaped-so : (f : CoreForm) (xs : List Tree) → IsNoSet (shaped f xs) ⊎ (shaped f xs ≡ shaped form.Set xs)
unfolding shaped
shaped-so form.Quote xs = inl (no-quote xs)
shaped-so form.Lambda xs = inl (no-lambda xs)
shaped-so form.CaseLambda xs = inl (no-case-lambda xs)
shaped-so form.If xs = inl (no-if xs)
shaped-so form.Set xs = inr refl
shaped-so form.Begin xs = inl tt
shaped-so form.Letrec xs = inl (no-letrec xs)
shaped-so form.LetrecStar xs = inl (no-letrec xs)
shaped-so form.Define xs = inl (no-define xs)
shaped-so form.DefineSyntax xs = inl (no-define-syntax xs)
shaped-so form.LetSyntax xs = inl (no-let-syntax xs)
shaped-so form.LetrecSyntax xs = inl (no-let-syntax xs)
shaped-so form.Quasiquote xs = inl (no-operand xs)
shaped-so form.Syntax xs = inl (no-operand xs)
shaped-so form.Quasisyntax xs = inl (no-operand xs)
shaped-so form.SyntaxCase xs = inl (no-syntax-case xs)
shaped-so _ xs = inl tt

pub set-only : (f : CoreForm) (t : Tree) (place : Span) (id value : Tree) → shape f t place ≡ Ok (shapes.Set id value) → shape form.Set t place ≡ Ok (shapes.Set id value)
unfolding shape shape_of
set-only f t place id value e = by (proper_elements t) e
  where
    one : (o p : Option Shape) → IsNoSet o ⊎ (o ≡ p) → or_bad t place o ≡ Ok (shapes.Set id value) → or_bad t place p ≡ Ok (shapes.Set id value)
    one o p (inr same) e = ap (or_bad t place) (sym same) ∙ e
    one None p (inl h) e = absurd (cc)
    one (Some x) p (inl h) e = absurd (subst IsNoSet (let same : Some x ≡ Some (shapes.Set id value) = cc in same) h)

    by : (o : Option (List Tree)) → or_bad t place (if_some o (by_operands f)) ≡ Ok (shapes.Set id value) → or_bad t place (if_some o (by_operands form.Set)) ≡ Ok (shapes.Set id value)
    by None e = absurd (cc)
    by (Some []) e = absurd (cc)
    by (Some (head ∷ xs)) e = one (shaped f xs) (shaped form.Set xs) (shaped-so f xs) e

-- a `syntax` form is a list
pub syntax-compound : (t : Tree) (place : Span) (x : Shape) → shape form.Syntax t place ≡ Ok x → is_leaf t ≡ false
unfolding shape shape_of
syntax-compound (atom p a) place x e = refl
syntax-compound (leaf p y k) place x e = absurd (cc)
syntax-compound (pair p a d) place x e = refl
syntax-compound (vector p d) place x e = refl
