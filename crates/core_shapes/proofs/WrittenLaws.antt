-- The parts of a form, put back together, are the form.
use Rattle.std.proofs.Common.{◌≡◌, Bool, true, false, List, [], ◌∷◌, ◌++◌, map, Option, None, Some, Ok, refl, ap, sym, ◌∙◌, append_assoc}
use Rattle.std.specs.Prelude.{if◌then◌else◌}
use Rattle.base_data.specs.declared.atom.Atom.{Atom}
use Rattle.base_data.specs.declared.atom.Atom.TheVariants as atoms
use Rattle.base_data.specs.declared.span.Span.{Span}
use Rattle.stx_tree.specs.Tree.{Tree, atom, leaf, pair, vector, nil, chain, unspanned}
use Rattle.core_language.specs.declared.core_form.CoreForm.{CoreForm}
use Rattle.core_language.specs.declared.core_form.CoreForm.TheVariants as form
use Rattle.core_shapes.specs.declared.shape.FormalIds.{FormalIds}
use Rattle.core_shapes.specs.declared.shape.BindingSpec.{BindingSpec}
use Rattle.core_shapes.specs.declared.shape.LambdaCase.{LambdaCase}
use Rattle.core_shapes.specs.declared.shape.PatternCase.{PatternCase}
use Rattle.core_shapes.specs.declared.shape.Shape.{Shape}
use Rattle.core_shapes.specs.declared.shape.Shape.TheVariants as shapes
use Rattle.core_shapes.specs.Lists.{is_leaf, is_nil, is_nil_atom, elements, tail_of, proper_elements, all_ids, if_some, all_of}
use Rattle.core_shapes.specs.Forms.{formals, formals_before, binding, binding_of, bindings, lambda_case, lambda_case_of, pattern_case, pattern_case_of, quote_shape, operand_shape, lambda_shape, case_lambda_shape, if_shape, set_shape, letrec_shape, let_syntax_shape, define_variable, define_procedure, define_shape, define_syntax_shape, syntax_case_shape, shaped, by_operands, shape_of, or_bad, shape}
use Rattle.core_shapes.specs.Written.{list, formals_written, binding_written, lambda_case_written, pattern_case_written, written, head_of, form_written}

-- Lists.

chain_unspanned : (xs : List Tree) (t : Tree) → unspanned (chain xs t) ≡ chain (map unspanned xs) (unspanned t)
chain_unspanned [] t = refl
chain_unspanned (x ∷ xs) t = ap (pair None (unspanned x)) (chain_unspanned xs t)

lists_alike : (xs ys : List Tree) (t u : Tree) → map unspanned xs ≡ map unspanned ys → unspanned t ≡ unspanned u → unspanned (chain xs t) ≡ unspanned (chain ys u)
lists_alike xs ys t u e f =
    chain_unspanned xs t ∙ ap (λ zs. chain zs (unspanned t)) e ∙ ap (chain (map unspanned ys)) f ∙ sym (chain_unspanned ys u)

chain_back : (t : Tree) → unspanned (chain (elements t) (tail_of t)) ≡ unspanned t
chain_back (atom s a) = refl
chain_back (leaf s x c) = refl
chain_back (pair s a d) = ap (pair None (unspanned a)) (chain_back d)
chain_back (vector s d) = refl

pub nil_atom : (a : Atom) → is_nil_atom a ≡ true → a ≡ atoms.Nil
nil_atom atoms.Nil h = refl
nil_atom _ h = absurd (cc)

nil_back : (t : Tree) → is_nil t ≡ true → nil ≡ unspanned t
nil_back (atom s a) h = ap (atom None) (sym (nil_atom a h))
nil_back (leaf s x c) h = absurd (cc)
nil_back (pair s a d) h = absurd (cc)
nil_back (vector s d) h = absurd (cc)

proper_back : (t : Tree) (xs : List Tree) → proper_elements t ≡ Some xs → unspanned (list xs) ≡ unspanned t
proper_back t xs = go (is_nil (tail_of t)) refl
  where
    go : (b : Bool) → is_nil (tail_of t) ≡ b → (if b then Some (elements t) else None) ≡ Some xs → unspanned (list xs) ≡ unspanned t
    go false e h = absurd (cc)
    go true e h =
        let is : elements t ≡ xs = cc in
        ap (λ ys. unspanned (list ys)) (sym is) ∙ lists_alike (elements t) (elements t) nil (tail_of t) refl (nil_back (tail_of t) e) ∙ chain_back t

-- what comes of a value that is there comes of one
module _ {A B : Type 0} (f : A → Option B) (b : B) (P : Type 0) where
  from_some : (o : Option A) → if_some o f ≡ Some b → ((a : A) → o ≡ Some a → f a ≡ Some b → P) → P
  from_some None h k = absurd (cc)
  from_some (Some a) h k = k a refl h

map_joined : {A : Type 0} (f : A → Tree) (xs ys : List A) → map f (xs ++ ys) ≡ map f xs ++ map f ys
map_joined f [] ys = refl
map_joined f (x ∷ xs) ys = ap (λ zs. f x ∷ zs) (map_joined f xs ys)

no_more : (zs : List Tree) → zs ++ [] ≡ zs
no_more [] = refl
no_more (z ∷ zs) = ap (λ vs. z ∷ vs) (no_more zs)

module _ {Y : Type 0} (f : Tree → Option Y) (w : Y → Tree) (back : (t : Tree) (y : Y) → f t ≡ Some y → unspanned (w y) ≡ unspanned t) where
  all_back : (done : List Y) (ts : List Tree) (ys : List Y) → all_of f done ts ≡ Some ys → map unspanned (map w ys) ≡ map unspanned (map w done) ++ map unspanned ts
  unfolding all_of
  all_back done [] ys h =
      let is : done ≡ ys = cc in
      ap (λ zs. map unspanned (map w zs)) (sym is) ∙ sym (no_more (map unspanned (map w done)))
  all_back done (t ∷ ts) ys h = go (f t) refl (λ y. all_back (done ++ y ∷ []) ts ys) h
    where
      go : (o : Option Y) → f t ≡ o
          → ((y : Y) → all_of f (done ++ y ∷ []) ts ≡ Some ys → map unspanned (map w ys) ≡ map unspanned (map w (done ++ y ∷ [])) ++ map unspanned ts)
          → if_some o (λ y. all_of f (done ++ y ∷ []) ts) ≡ Some ys → map unspanned (map w ys) ≡ map unspanned (map w done) ++ (unspanned t ∷ map unspanned ts)
      go None e rest k = absurd (cc)
      go (Some y) e rest k =
          rest y k
          ∙ ap (λ zs. map unspanned zs ++ map unspanned ts) (map_joined w done (y ∷ []))
          ∙ ap (λ zs. zs ++ map unspanned ts) (map_joined unspanned (map w done) (w y ∷ []))
          ∙ append_assoc (map unspanned (map w done)) (unspanned (w y) ∷ []) (map unspanned ts)
          ∙ ap (λ z. map unspanned (map w done) ++ (z ∷ map unspanned ts)) (back t y e)

-- The parts of forms.

formals_back : (t : Tree) (f : FormalIds) → formals t ≡ Some f → unspanned (formals_written f) ≡ unspanned t
unfolding formals formals_before
formals_back t f = go (all_ids (elements t))
  where
    with_nil : (b : Bool) → is_leaf (tail_of t) ≡ b → (if b then Some (record { required = elements t; rest = Some (tail_of t) }) else None) ≡ Some f → unspanned (formals_written f) ≡ unspanned t
    with_nil false e h = absurd (cc)
    with_nil true e h =
        let is : record { required = elements t; rest = Some (tail_of t) } ≡ f = cc in
        ap (λ (g : FormalIds). unspanned (formals_written g)) (sym is) ∙ chain_back t

    before : (b : Bool) → is_nil (tail_of t) ≡ b
        → (if b then Some (record { required = elements t; rest = None }) else if is_leaf (tail_of t) then Some (record { required = elements t; rest = Some (tail_of t) }) else None) ≡ Some f
        → unspanned (formals_written f) ≡ unspanned t
    before false e h = with_nil (is_leaf (tail_of t)) refl h
    before true e h =
        let is : record { required = elements t; rest = None } ≡ f = cc in
        ap (λ (g : FormalIds). unspanned (formals_written g)) (sym is) ∙ lists_alike (elements t) (elements t) nil (tail_of t) refl (nil_back (tail_of t) e) ∙ chain_back t

    go : (b : Bool) → (if b then formals_before (elements t) (tail_of t) else None) ≡ Some f → unspanned (formals_written f) ≡ unspanned t
    go false h = absurd (cc)
    go true h = before (is_nil (tail_of t)) refl h

binding_back : (t : Tree) (b : BindingSpec) → binding t ≡ Some b → unspanned (binding_written b) ≡ unspanned t
unfolding binding
binding_back t b h = from_some binding_of b (unspanned (binding_written b) ≡ unspanned t) (proper_elements t) h by_elements
  where
    by_id : (id init : Tree) → proper_elements t ≡ Some (id ∷ (init ∷ [])) → (c : Bool) → is_leaf id ≡ c → (if c then Some (record { id = id; init = init }) else None) ≡ Some b
        → unspanned (binding_written b) ≡ unspanned t
    by_id id init e false given k = absurd (cc)
    by_id id init e true given k =
        let is : record { id = id; init = init } ≡ b = cc in
        ap (λ (c : BindingSpec). unspanned (binding_written c)) (sym is) ∙ proper_back t (id ∷ (init ∷ [])) e

    by_elements : (xs : List Tree) → proper_elements t ≡ Some xs → binding_of xs ≡ Some b → unspanned (binding_written b) ≡ unspanned t
    by_elements [] e k = absurd (cc)
    by_elements (_ ∷ []) e k = absurd (cc)
    by_elements (id ∷ (init ∷ [])) e k = by_id id init e (is_leaf id) refl k
    by_elements (_ ∷ (_ ∷ (_ ∷ _))) e k = absurd (cc)

bindings_back : (t : Tree) (bs : List BindingSpec) → bindings t ≡ Some bs → unspanned (list (map binding_written bs)) ≡ unspanned t
unfolding bindings
bindings_back t bs h = from_some (all_of binding []) bs (unspanned (list (map binding_written bs)) ≡ unspanned t) (proper_elements t) h
    (λ xs e k. lists_alike (map binding_written bs) xs nil nil (all_back binding binding_written binding_back [] xs bs k) refl ∙ proper_back t xs e)

lambda_case_back : (t : Tree) (c : LambdaCase) → lambda_case t ≡ Some c → unspanned (lambda_case_written c) ≡ unspanned t
unfolding lambda_case
lambda_case_back t c h = from_some lambda_case_of c (unspanned (lambda_case_written c) ≡ unspanned t) (proper_elements t) h by_elements
  where
    by_elements : (xs : List Tree) → proper_elements t ≡ Some xs → lambda_case_of xs ≡ Some c → unspanned (lambda_case_written c) ≡ unspanned t
    by_elements [] e k = absurd (cc)
    by_elements (ids ∷ body) e k = from_some (λ f. Some (record { formals = f; body = body })) c (unspanned (lambda_case_written c) ≡ unspanned t) (formals ids) k
        (λ f given last.
        let is : record { formals = f; body = body } ≡ c = cc in
        ap (λ (d : LambdaCase). unspanned (lambda_case_written d)) (sym is)
        ∙ ap (λ z. pair None z (unspanned (list body))) (formals_back ids f given) ∙ proper_back t (ids ∷ body) e)

pattern_case_back : (t : Tree) (c : PatternCase) → pattern_case t ≡ Some c → unspanned (pattern_case_written c) ≡ unspanned t
unfolding pattern_case
pattern_case_back t c h = from_some pattern_case_of c (unspanned (pattern_case_written c) ≡ unspanned t) (proper_elements t) h by_elements
  where
    by_elements : (xs : List Tree) → proper_elements t ≡ Some xs → pattern_case_of xs ≡ Some c → unspanned (pattern_case_written c) ≡ unspanned t
    by_elements [] e k = absurd (cc)
    by_elements (_ ∷ []) e k = absurd (cc)
    by_elements (p ∷ (o ∷ [])) e k =
        let is : record { pattern = p; fender = None; output = o } ≡ c = cc in
        ap (λ (d : PatternCase). unspanned (pattern_case_written d)) (sym is) ∙ proper_back t (p ∷ (o ∷ [])) e
    by_elements (p ∷ (f ∷ (o ∷ []))) e k =
        let is : record { pattern = p; fender = Some f; output = o } ≡ c = cc in
        ap (λ (d : PatternCase). unspanned (pattern_case_written d)) (sym is) ∙ proper_back t (p ∷ (f ∷ (o ∷ []))) e
    by_elements (_ ∷ (_ ∷ (_ ∷ (_ ∷ _)))) e k = absurd (cc)

-- The operands.

abbrev Back : Shape → List Tree → Type 0
Back s xs = map unspanned (written s) ≡ map unspanned xs

is_written : (r s : Shape) (xs : List Tree) → r ≡ s → Back r xs → Back s xs
is_written r s xs e h = ap (λ x. map unspanned (written x)) (sym e) ∙ h

quote_back : (xs : List Tree) (s : Shape) → quote_shape xs ≡ Some s → Back s xs
unfolding quote_shape
quote_back [] s h = absurd (cc)
quote_back (x ∷ []) s h = is_written (shapes.Quote x) s (x ∷ []) (cc) refl
quote_back (_ ∷ (_ ∷ _)) s h = absurd (cc)

operand_back : (xs : List Tree) (s : Shape) → operand_shape xs ≡ Some s → Back s xs
unfolding operand_shape
operand_back [] s h = absurd (cc)
operand_back (x ∷ []) s h = is_written (shapes.Operand x) s (x ∷ []) (cc) refl
operand_back (_ ∷ (_ ∷ _)) s h = absurd (cc)

lambda_back : (xs : List Tree) (s : Shape) → lambda_shape xs ≡ Some s → Back s xs
unfolding lambda_shape
lambda_back [] s h = absurd (cc)
lambda_back (ids ∷ body) s h = from_some (λ f. Some (shapes.Lambda f body)) s (Back s (ids ∷ body)) (formals ids) h
    (λ f e k. is_written (shapes.Lambda f body) s (ids ∷ body) (cc) (ap (λ z. z ∷ map unspanned body) (formals_back ids f e)))

case_lambda_back : (xs : List Tree) (s : Shape) → case_lambda_shape xs ≡ Some s → Back s xs
unfolding case_lambda_shape
case_lambda_back xs s h = from_some (λ cs. Some (shapes.CaseLambda cs)) s (Back s xs) (all_of lambda_case [] xs) h
    (λ cs e k. is_written (shapes.CaseLambda cs) s xs (cc) (all_back lambda_case lambda_case_written lambda_case_back [] xs cs e))

if_back : (xs : List Tree) (s : Shape) → if_shape xs ≡ Some s → Back s xs
unfolding if_shape
if_back [] s h = absurd (cc)
if_back (_ ∷ []) s h = absurd (cc)
if_back (c ∷ (t ∷ [])) s h = is_written (shapes.If c t None) s (c ∷ (t ∷ [])) (cc) refl
if_back (c ∷ (t ∷ (f ∷ []))) s h = is_written (shapes.If c t (Some f)) s (c ∷ (t ∷ (f ∷ []))) (cc) refl
if_back (_ ∷ (_ ∷ (_ ∷ (_ ∷ _)))) s h = absurd (cc)

set_back : (xs : List Tree) (s : Shape) → set_shape xs ≡ Some s → Back s xs
unfolding set_shape
set_back [] s h = absurd (cc)
set_back (_ ∷ []) s h = absurd (cc)
set_back (id ∷ (value ∷ [])) s h = go (is_leaf id) h
  where
    go : (b : Bool) → (if b then Some (shapes.Set id value) else None) ≡ Some s → Back s (id ∷ (value ∷ []))
    go false k = absurd (cc)
    go true k = is_written (shapes.Set id value) s (id ∷ (value ∷ [])) (cc) refl
set_back (_ ∷ (_ ∷ (_ ∷ _))) s h = absurd (cc)

letrec_back : (xs : List Tree) (s : Shape) → letrec_shape xs ≡ Some s → Back s xs
unfolding letrec_shape
letrec_back [] s h = absurd (cc)
letrec_back (specs ∷ body) s h = from_some (λ bs. Some (shapes.Letrec bs body)) s (Back s (specs ∷ body)) (bindings specs) h
    (λ bs e k. is_written (shapes.Letrec bs body) s (specs ∷ body) (cc) (ap (λ z. z ∷ map unspanned body) (bindings_back specs bs e)))

let_syntax_back : (xs : List Tree) (s : Shape) → let_syntax_shape xs ≡ Some s → Back s xs
unfolding let_syntax_shape
let_syntax_back [] s h = absurd (cc)
let_syntax_back (specs ∷ body) s h = from_some (λ bs. Some (shapes.LetSyntax bs body)) s (Back s (specs ∷ body)) (bindings specs) h
    (λ bs e k. is_written (shapes.LetSyntax bs body) s (specs ∷ body) (cc) (ap (λ z. z ∷ map unspanned body) (bindings_back specs bs e)))

define_variable_back : (id : Tree) (xs : List Tree) (s : Shape) → define_variable id xs ≡ Some s → Back s (id ∷ xs)
unfolding define_variable
define_variable_back id [] s h = is_written (shapes.Define id None) s (id ∷ []) (cc) refl
define_variable_back id (value ∷ []) s h = is_written (shapes.Define id (Some value)) s (id ∷ (value ∷ [])) (cc) refl
define_variable_back id (_ ∷ (_ ∷ _)) s h = absurd (cc)

define_procedure_back : (target : Tree) (body : List Tree) (s : Shape) → define_procedure target body ≡ Some s → Back s (target ∷ body)
unfolding define_procedure
define_procedure_back (atom r a) body s h = absurd (cc)
define_procedure_back (leaf r x c) body s h = absurd (cc)
define_procedure_back (pair r id ids) body s h = go (is_leaf id) h
  where
    go : (b : Bool) → (if b then if_some (formals ids) (λ f. Some (shapes.DefineProcedure id f body)) else None) ≡ Some s → Back s (pair r id ids ∷ body)
    go false k = absurd (cc)
    go true k = from_some (λ f. Some (shapes.DefineProcedure id f body)) s (Back s (pair r id ids ∷ body)) (formals ids) k
        (λ f e last. is_written (shapes.DefineProcedure id f body) s (pair r id ids ∷ body) (cc)
        (ap (λ z. pair None (unspanned id) z ∷ map unspanned body) (formals_back ids f e)))
define_procedure_back (vector r d) body s h = absurd (cc)

define_back : (xs : List Tree) (s : Shape) → define_shape xs ≡ Some s → Back s xs
unfolding define_shape
define_back [] s h = absurd (cc)
define_back (target ∷ others) s h = go (is_leaf target) h
  where
    go : (b : Bool) → (if b then define_variable target others else define_procedure target others) ≡ Some s → Back s (target ∷ others)
    go false k = define_procedure_back target others s k
    go true k = define_variable_back target others s k

define_syntax_back : (xs : List Tree) (s : Shape) → define_syntax_shape xs ≡ Some s → Back s xs
unfolding define_syntax_shape
define_syntax_back [] s h = absurd (cc)
define_syntax_back (_ ∷ []) s h = absurd (cc)
define_syntax_back (id ∷ (value ∷ [])) s h = go (is_leaf id) h
  where
    go : (b : Bool) → (if b then Some (shapes.DefineSyntax id value) else None) ≡ Some s → Back s (id ∷ (value ∷ []))
    go false k = absurd (cc)
    go true k = is_written (shapes.DefineSyntax id value) s (id ∷ (value ∷ [])) (cc) refl
define_syntax_back (_ ∷ (_ ∷ (_ ∷ _))) s h = absurd (cc)

syntax_case_back : (xs : List Tree) (s : Shape) → syntax_case_shape xs ≡ Some s → Back s xs
unfolding syntax_case_shape
syntax_case_back [] s h = absurd (cc)
syntax_case_back (_ ∷ []) s h = absurd (cc)
syntax_case_back (subject ∷ (literals ∷ clauses)) s h =
    from_some (λ ls. if_some (all_of pattern_case [] clauses) (λ cs. Some (shapes.SyntaxCase subject ls cs))) s (Back s (subject ∷ (literals ∷ clauses))) (proper_elements literals) h
    (λ ls e k. from_some (λ cs. Some (shapes.SyntaxCase subject ls cs)) s (Back s (subject ∷ (literals ∷ clauses))) (all_of pattern_case [] clauses) k
    (λ cs given last. is_written (shapes.SyntaxCase subject ls cs) s (subject ∷ (literals ∷ clauses)) (cc)
    (ap (λ z. unspanned subject ∷ (z ∷ map unspanned (map pattern_case_written cs))) (proper_back literals ls e)
    ∙ ap (λ zs. unspanned subject ∷ (unspanned literals ∷ zs)) (all_back pattern_case pattern_case_written pattern_case_back [] clauses cs given))))

operands_back : (f : CoreForm) (xs : List Tree) (s : Shape) → shaped f xs ≡ Some s → Back s xs
unfolding shaped
operands_back form.Quote xs s h = quote_back xs s h
operands_back form.Lambda xs s h = lambda_back xs s h
operands_back form.CaseLambda xs s h = case_lambda_back xs s h
operands_back form.If xs s h = if_back xs s h
operands_back form.Set xs s h = set_back xs s h
operands_back form.Begin xs s h = is_written (shapes.Begin xs) s xs (cc) refl
operands_back form.Letrec xs s h = letrec_back xs s h
operands_back form.LetrecStar xs s h = letrec_back xs s h
operands_back form.Define xs s h = define_back xs s h
operands_back form.DefineSyntax xs s h = define_syntax_back xs s h
operands_back form.LetSyntax xs s h = let_syntax_back xs s h
operands_back form.LetrecSyntax xs s h = let_syntax_back xs s h
operands_back form.Quasiquote xs s h = operand_back xs s h
operands_back form.Syntax xs s h = operand_back xs s h
operands_back form.Quasisyntax xs s h = operand_back xs s h
operands_back form.SyntaxCase xs s h = syntax_case_back xs s h
operands_back _ xs s h = absurd (cc)

head_is : (t : Tree) (head : Tree) (xs : List Tree) → proper_elements t ≡ Some (head ∷ xs) → head_of t ≡ head
head_is t head xs = go (is_nil (tail_of t))
  where
    first : (u : Tree) → elements u ≡ head ∷ xs → head_of u ≡ head
    first (atom s a) h = absurd (cc)
    first (leaf s x c) h = absurd (cc)
    first (pair s a d) h = cc
    first (vector s d) h = absurd (cc)

    go : (b : Bool) → (if b then Some (elements t) else None) ≡ Some (head ∷ xs) → head_of t ≡ head
    go false h = absurd (cc)
    go true h = first t (cc)

-- the parts put back behind the head are the form, spans apart
pub form_back : (f : CoreForm) (t : Tree) (place : Span) (s : Shape) → shape f t place ≡ Ok s → unspanned (form_written (head_of t) s) ≡ unspanned t
unfolding shape shape_of
form_back f t place s h = by_shape (shape_of f t) refl h
  where
    by_parts : (xs : List Tree) → proper_elements t ≡ Some xs → by_operands f xs ≡ Some s → unspanned (form_written (head_of t) s) ≡ unspanned t
    by_parts [] e k = absurd (cc)
    by_parts (head ∷ operands) e k =
        ap (λ z. unspanned (form_written z s)) (head_is t head operands e)
        ∙ lists_alike (head ∷ written s) (head ∷ operands) nil nil (ap (λ zs. unspanned head ∷ zs) (operands_back f operands s k)) refl
        ∙ proper_back t (head ∷ operands) e

    by_shape : (o : Option Shape) → shape_of f t ≡ o → or_bad t place o ≡ Ok s → unspanned (form_written (head_of t) s) ≡ unspanned t
    by_shape None e k = absurd (cc)
    by_shape (Some r) e k =
        let is : r ≡ s = cc in
        let given : if_some (proper_elements t) (by_operands f) ≡ Some s = e ∙ ap Some is in
        from_some (by_operands f) s (unspanned (form_written (head_of t) s) ≡ unspanned t) (proper_elements t) given by_parts
