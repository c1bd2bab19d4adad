-- What is written by a case of the grammar has its shape.
use Rattle.std.proofs.Common.{◌≡◌, true, List, [], ◌∷◌, ◌++◌, Option, None, Some, refl, ap, sym, ◌∙◌, append-nil, append_assoc, if◌then◌else◌}
use Rattle.stx_tree.specs.Tree.{Tree}
use Rattle.core_language.specs.declared.core_form.CoreForm.{CoreForm}
use Rattle.core_shapes.specs.Forms.{formals, formals_before, binding, binding_of, bindings, lambda_case, lambda_case_of, pattern_case, pattern_case_of, quote_shape, operand_shape, lambda_shape, case_lambda_shape, if_shape, set_shape, letrec_shape, let_syntax_shape, define_variable, define_procedure, define_shape, define_syntax_shape, syntax_case_shape, shaped, by_operands, shape_of, or_bad, shape}
use Rattle.core_shapes.specs.Lists.{is_leaf, is_nil, elements, tail_of, proper_elements, all_ids, if_some, all_of}
use Rattle.core_shapes.specs.declared.shape.FormalIds.{FormalIds}
use Rattle.core_shapes.specs.declared.shape.BindingSpec.{BindingSpec}
use Rattle.core_shapes.specs.declared.shape.LambdaCase.{LambdaCase}
use Rattle.core_shapes.specs.declared.shape.PatternCase.{PatternCase}
use Rattle.core_shapes.specs.declared.shape.Shape.{Shape}
use Rattle.core_shapes.specs.declared.shape.Shape.TheVariants as shapes
use Rattle.law_shapes.specs.Grammar.{IsId, IsList, AreWritten, IsFormalsForm, AreFormals, IsBinding, AreBindings, IsLambdaCase, IsPatternCase, IsForm, HasShape}
use Rattle.law_shapes.specs.Grammar as g
use Rattle.law_shapes.specs.Laws.{WrittenHaveShapes, OneShape}

pub is-id : (t : Tree) → IsId t → is_leaf t ≡ true
is-id _ g.id = refl

-- Lists.

pub list-ends : {xs : List Tree} {t : Tree} → IsList xs t → is_nil (tail_of t) ≡ true
list-ends g.end = refl
list-ends (g.next h) = list-ends h

pub list-elements : {xs : List Tree} {t : Tree} → IsList xs t → elements t ≡ xs
list-elements g.end = refl
list-elements (g.next {x = x} h) = ap (λ ys. x ∷ ys) (list-elements h)

pub list-is : (xs : List Tree) (t : Tree) → IsList xs t → proper_elements t ≡ Some xs
list-is xs t h = ap (λ b. if b then Some (elements t) else None) (list-ends h) ∙ ap Some (list-elements h)

pub all-are : {Y : Type 0} (P : Y → Tree → Type 0) (f : Tree → Option Y) → ((y : Y) (t : Tree) → P y t → f t ≡ Some y) → (done ys : List Y) (ts : List Tree) → AreWritten P ys ts → all_of f done ts ≡ Some (done ++ ys)
unfolding all_of
all-are P f one done [] [] h = ap Some (sym (append-nil done))
all-are P f one done [] (t ∷ ts) h = elim h [ ]
all-are P f one done (y ∷ ys) [] h = elim h [ ]
all-are P f one done (y ∷ ys) (t ∷ ts) h =
    ap (λ o. if_some o (λ z. all_of f (done ++ z ∷ []) ts)) (one y t h.0) ∙ all-are P f one (done ++ y ∷ []) ys ts h.1 ∙ ap Some (append_assoc done (y ∷ []) ys)

-- The parts of forms.

formals-ids : {xs : List Tree} {o : Option Tree} {t : Tree} → IsFormalsForm xs o t → all_ids (elements t) ≡ true
formals-ids g.no_more = refl
formals-ids (g.all_others g.id) = refl
formals-ids (g.one {rest = rest} g.id h) = formals-ids h

formals-elements : {xs : List Tree} {o : Option Tree} {t : Tree} → IsFormalsForm xs o t → elements t ≡ xs
formals-elements g.no_more = refl
formals-elements (g.all_others g.id) = refl
formals-elements (g.one {x = x} i h) = ap (λ ys. x ∷ ys) (formals-elements h)

formals-tail : {xs : List Tree} {o : Option Tree} {t : Tree} → IsFormalsForm xs o t → (ids : List Tree) → formals_before ids (tail_of t) ≡ Some (record { required = ids; rest = o })
unfolding formals_before
formals-tail g.no_more ids = refl
formals-tail (g.all_others g.id) ids = refl
formals-tail (g.one i h) ids = formals-tail h ids

formals-are : (ids : FormalIds) (t : Tree) → AreFormals ids t → formals t ≡ Some ids
unfolding formals
formals-are ids t h =
    ap (λ b. if b then formals_before (elements t) (tail_of t) else None) (formals-ids h)
    ∙ formals-tail h (elements t) ∙ ap (λ xs. Some (record { required = xs; rest = ids.rest })) (formals-elements h)

binding-is : (b : BindingSpec) (t : Tree) → IsBinding b t → binding t ≡ Some b
unfolding binding
binding-is b t h =
    ap (λ o. if_some o binding_of) (list-is (b.id ∷ (b.init ∷ [])) t h.1) ∙ ap (λ c. if c then Some (record { id = b.id; init = b.init }) else None) (is-id b.id h.0)

bindings-are : (bs : List BindingSpec) (t : Tree) → AreBindings bs t → bindings t ≡ Some bs
unfolding bindings
bindings-are bs t (g.bindings {xs = xs} h k) = ap (λ o. if_some o (all_of binding [])) (list-is xs t h) ∙ all-are IsBinding binding binding-is [] bs xs k

case-is : (c : LambdaCase) (t : Tree) → IsLambdaCase c t → lambda_case t ≡ Some c
unfolding lambda_case
case-is c t (g.lambda_case {ids = ids} h k) =
    ap (λ o. if_some o lambda_case_of) (list-is (ids ∷ c.body) t k) ∙ ap (λ o. if_some o (λ f. Some (record { formals = f; body = c.body }))) (formals-are c.formals ids h)

pattern-is : (c : PatternCase) (t : Tree) → IsPatternCase c t → pattern_case t ≡ Some c
unfolding pattern_case
pattern-is _ t (g.plain {p = p} {o = o} h) = ap (λ x. if_some x pattern_case_of) (list-is (p ∷ (o ∷ [])) t h)
pattern-is _ t (g.fendered {p = p} {f = f} {o = o} h) = ap (λ x. if_some x pattern_case_of) (list-is (p ∷ (f ∷ (o ∷ []))) t h)

-- Forms.

letrec-is : (bs : List BindingSpec) (t : Tree) (body : List Tree) → AreBindings bs t → letrec_shape (t ∷ body) ≡ Some (shapes.Letrec bs body)
unfolding letrec_shape
letrec-is bs t body h = ap (λ o. if_some o (λ ks. Some (shapes.Letrec ks body))) (bindings-are bs t h)

let-syntax-is : (bs : List BindingSpec) (t : Tree) (body : List Tree) → AreBindings bs t → let_syntax_shape (t ∷ body) ≡ Some (shapes.LetSyntax bs body)
unfolding let_syntax_shape
let-syntax-is bs t body h = ap (λ o. if_some o (λ ks. Some (shapes.LetSyntax ks body))) (bindings-are bs t h)

form-is : (which : CoreForm) (s : Shape) (xs : List Tree) → IsForm which s xs → shaped which xs ≡ Some s
unfolding shaped quote_shape operand_shape lambda_shape case_lambda_shape if_shape set_shape define_shape define_variable define_procedure define_syntax_shape syntax_case_shape
form-is _ _ _ g.quote = refl
form-is _ _ _ (g.lambda {ids = ids} {t = t} {body = body} h) = ap (λ o. if_some o (λ f. Some (shapes.Lambda f body))) (formals-are ids t h)
form-is _ _ _ (g.case_lambda {cs = cs} {ts = ts} h) = ap (λ o. if_some o (λ ks. Some (shapes.CaseLambda ks))) (all-are IsLambdaCase lambda_case case-is [] cs ts h)
form-is _ _ _ g.one_armed = refl
form-is _ _ _ g.two_armed = refl
form-is _ _ _ (g.set g.id) = refl
form-is _ _ _ g.begin = refl
form-is _ _ _ (g.letrec {bs = bs} {t = t} {body = body} h) = letrec-is bs t body h
form-is _ _ _ (g.letrec_star {bs = bs} {t = t} {body = body} h) = letrec-is bs t body h
form-is _ _ _ (g.define_empty g.id) = refl
form-is _ _ _ (g.define g.id) = refl
form-is _ _ _ (g.define_procedure {x = x} {rest = rest} {ids = ids} {body = body} g.id h) = ap (λ o. if_some o (λ f. Some (shapes.DefineProcedure x f body))) (formals-are ids rest h)
form-is _ _ _ (g.define_syntax g.id) = refl
form-is _ _ _ (g.let_syntax {bs = bs} {t = t} {body = body} h) = let-syntax-is bs t body h
form-is _ _ _ (g.letrec_syntax {bs = bs} {t = t} {body = body} h) = let-syntax-is bs t body h
form-is _ _ _ g.quasiquote = refl
form-is _ _ _ g.syntax_of = refl
form-is _ _ _ g.quasisyntax = refl
form-is _ _ _ (g.syntax_case {subject = subject} {t = t} {literals = literals} {ts = ts} {cs = cs} h k) =
    ap (λ o. if_some o (λ ls. if_some (all_of pattern_case [] ts) (λ ks. Some (shapes.SyntaxCase subject ls ks)))) (list-is literals t h)
    ∙ ap (λ o. if_some o (λ ks. Some (shapes.SyntaxCase subject literals ks))) (all-are IsPatternCase pattern_case pattern-is [] cs ts k)

shape-of-is : (which : CoreForm) (t : Tree) (s : Shape) → HasShape which s t → shape_of which t ≡ Some s
unfolding shape_of
shape-of-is which t s (g.headed {head = head} {operands = operands} h k) = ap (λ o. if_some o (by_operands which)) (list-is (head ∷ operands) t h) ∙ form-is which s operands k

pub written-have-shapes : WrittenHaveShapes
unfolding shape
written-have-shapes which t place s h = ap (or_bad t place) (shape-of-is which t s h)

some-is : {A : Type 0} (x y : A) → Some x ≡ Some y → x ≡ y
some-is x y e = cc

pub one-shape : OneShape
one-shape which t s r h k = some-is s r (sym (shape-of-is which t s h) ∙ shape-of-is which t r k)
