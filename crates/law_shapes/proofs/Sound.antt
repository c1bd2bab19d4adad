-- What has a shape is written by its case.
use Rattle.std.proofs.Common.{◌≡◌, ℕ, Bool, true, false, List, [], ◌∷◌, ◌++◌, Option, None, Some, Ok, Err, refl, ap, sym, ◌∙◌, subst, append-nil, append_assoc, if◌then◌else◌}
use Rattle.base_data.specs.declared.atom.Atom.{Atom}
use Rattle.base_data.specs.declared.atom.Atom.TheVariants as atoms
use Rattle.base_data.specs.declared.fault.FaultKind.TheVariants as kind
use Rattle.base_data.specs.declared.span.Span.{Span}
use Rattle.stx_tree.specs.Context.{LeafContext}
use Rattle.stx_tree.specs.Tree.{Tree, atom, leaf, pair, vector}
use Rattle.core_language.specs.declared.core_form.CoreForm.{CoreForm}
use Rattle.core_language.specs.declared.core_form.CoreForm.TheVariants as form
use Rattle.core_shapes.specs.At.{fault_at}
use Rattle.core_shapes.specs.Forms.{formals, formals_before, binding, binding_of, bindings, lambda_case, lambda_case_of, pattern_case, pattern_case_of, quote_shape, operand_shape, lambda_shape, case_lambda_shape, if_shape, set_shape, letrec_shape, let_syntax_shape, define_variable, define_procedure, define_shape, define_syntax_shape, syntax_case_shape, shaped, by_operands, shape_of, or_bad, shape}
use Rattle.core_shapes.specs.Lists.{is_leaf, is_nil, is_nil_atom, elements, tail_of, proper_elements, all_ids, if_some, all_of}
use Rattle.core_shapes.specs.declared.shape.FormalIds.{FormalIds}
use Rattle.core_shapes.specs.declared.shape.BindingSpec.{BindingSpec}
use Rattle.core_shapes.specs.declared.shape.LambdaCase.{LambdaCase}
use Rattle.core_shapes.specs.declared.shape.PatternCase.{PatternCase}
use Rattle.core_shapes.specs.declared.shape.Shape.{Shape}
use Rattle.core_shapes.specs.declared.shape.Shape.TheVariants as shapes
use Rattle.law_shapes.specs.Grammar.{IsId, IsList, AreWritten, IsFormalsForm, AreFormals, IsBinding, AreBindings, IsLambdaCase, IsPatternCase, IsForm, HasShape}
use Rattle.law_shapes.specs.Grammar as g
use Rattle.law_shapes.specs.Laws.{ShapesAreWritten, OthersAreBad}

-- Tests and options.

-- a test that leads to something is met
pub met : {A : Type 0} (b : Bool) (o : Option A) (x : A) (P : Type 0) → (if b then o else None) ≡ Some x → (b ≡ true → o ≡ Some x → P) → P
met true o x P e k = k refl e
met false o x P e k = absurd (cc)

-- what comes of a value that is there comes of one
pub from : {A B : Type 0} (f : A → Option B) (o : Option A) (b : B) (P : Type 0) → if_some o f ≡ Some b → ((a : A) → o ≡ Some a → f a ≡ Some b → P) → P
from f None b P h k = absurd (cc)
from f (Some a) b P h k = k a refl h

pub some-is : {A : Type 0} (x y : A) → Some x ≡ Some y → x ≡ y
some-is x y e = cc

pub an-id : (t : Tree) → is_leaf t ≡ true → IsId t
an-id (atom s a) h = absurd (cc)
an-id (leaf s x c) h = g.id
an-id (pair s a d) h = absurd (cc)
an-id (vector s d) h = absurd (cc)

-- Lists.

the-end : (s : Option Span) (a : Atom) → is_nil_atom a ≡ true → IsList [] (atom s a)
the-end s atoms.Nil h = g.end
the-end s _ h = absurd (cc)

pub a-list : (t : Tree) → is_nil (tail_of t) ≡ true → IsList (elements t) t
a-list (atom s a) h = the-end s a h
a-list (leaf s x c) h = absurd (cc)
a-list (pair s a d) h = g.next (a-list d h)
a-list (vector s d) h = absurd (cc)

pub proper : (t : Tree) (xs : List Tree) → proper_elements t ≡ Some xs → IsList xs t
proper t xs h = met (is_nil (tail_of t)) (Some (elements t)) xs (IsList xs t) h (λ b e. subst (λ (ys : List Tree). IsList ys t) (some-is (elements t) xs e) (a-list t b))

-- those that are done, and then these
module _ {Y : Type 0} (P : Y → Tree → Type 0) (f : Tree → Option Y) (one : (t : Tree) (y : Y) → f t ≡ Some y → P y t) where
  record Behind (done : List Y) (ts : List Tree) (zs : List Y) : Type 0 where
    pub others : List Y
    pub is : zs ≡ done ++ others
    pub written : AreWritten P others ts

  all-behind : (done : List Y) (ts : List Tree) (zs : List Y) → all_of f done ts ≡ Some zs → Behind done ts zs
  unfolding all_of
  all-behind done [] zs h = record { others = []; is = sym (some-is done zs h) ∙ sym (append-nil done); written = tt }
  all-behind done (t ∷ ts) zs h = from (λ y. all_of f (done ++ y ∷ []) ts) (f t) zs (Behind done (t ∷ ts) zs) h (λ y e k. onward y e (all-behind (done ++ y ∷ []) ts zs k))
    where
      onward : (y : Y) → f t ≡ Some y → Behind (done ++ y ∷ []) ts zs → Behind done (t ∷ ts) zs
      onward y e b = record { others = y ∷ b.others; is = b.is ∙ append_assoc done (y ∷ []) b.others; written = (one t y e, b.written) }

  pub all-written : (ts : List Tree) (zs : List Y) → all_of f [] ts ≡ Some zs → AreWritten P zs ts
  all-written ts zs h = let b = all-behind [] ts zs h in subst (λ (ys : List Y). AreWritten P ys ts) (sym b.is) b.written

-- The parts of forms.

no-more : (s : Option Span) (a : Atom) (ids : List Tree) (f : FormalIds) → formals_before ids (atom s a) ≡ Some f → IsFormalsForm [] f.rest (atom s a) × (ids ≡ f.required)
unfolding formals_before
no-more s atoms.Nil ids f h =
    let e : record { required = ids; rest = None } ≡ f = some-is _ _ h in
    (subst (λ (o : Option Tree). IsFormalsForm [] o (atom s atoms.Nil)) (ap (λ (k : FormalIds). k.rest) e) g.no_more, ap (λ (k : FormalIds). k.required) e)
no-more s _ ids f h = absurd (cc)

others : (s : Option Span) (x : List ℕ) (c : LeafContext) (ids : List Tree) (f : FormalIds) → formals_before ids (leaf s x c) ≡ Some f → IsFormalsForm [] f.rest (leaf s x c) × (ids ≡ f.required)
unfolding formals_before
others s x c ids f h =
    let e : record { required = ids; rest = Some (leaf s x c) } ≡ f = some-is _ _ h in
    (subst (λ (o : Option Tree). IsFormalsForm [] o (leaf s x c)) (ap (λ (k : FormalIds). k.rest) e) (g.all_others g.id), ap (λ (k : FormalIds). k.required) e)

no-formals : (s : Option Span) (d : Tree) (ids : List Tree) (f : FormalIds) → formals_before ids (vector s d) ≡ Some f → ⊥
unfolding formals_before
no-formals s d ids f h = absurd (cc)

-- the identifiers from here, and what stands behind them
formals-from : (t : Tree) (ids : List Tree) (f : FormalIds) → all_ids (elements t) ≡ true → formals_before ids (tail_of t) ≡ Some f → IsFormalsForm (elements t) f.rest t × (ids ≡ f.required)
formals-from (atom s a) ids f b h = no-more s a ids f h
formals-from (leaf s x c) ids f b h = others s x c ids f h
formals-from (pair s a d) ids f b h = by (is_leaf a) refl b (λ k. formals-from d ids f k h)
  where
    by : (c : Bool) → is_leaf a ≡ c → (if c then all_ids (elements d) else false) ≡ true → (all_ids (elements d) ≡ true → IsFormalsForm (elements d) f.rest d × (ids ≡ f.required))
        → IsFormalsForm (a ∷ elements d) f.rest (pair s a d) × (ids ≡ f.required)
    by true e k rest = let r = rest k in (g.one (an-id a e) r.0, r.1)
    by false e k rest = absurd (cc)
formals-from (vector s d) ids f b h = absurd (no-formals s d ids f h)

are-formals : (t : Tree) (f : FormalIds) → formals t ≡ Some f → AreFormals f t
unfolding formals
are-formals t f h = met (all_ids (elements t)) (formals_before (elements t) (tail_of t)) f (AreFormals f t) h
    (λ b e. let r = formals-from t (elements t) f b e in subst (λ (xs : List Tree). IsFormalsForm xs f.rest t) r.1 r.0)

a-binding : (t : Tree) (b : BindingSpec) → binding t ≡ Some b → IsBinding b t
unfolding binding
a-binding t b h = from binding_of (proper_elements t) b (IsBinding b t) h (λ xs e k. by xs (proper t xs e) k)
  where
    by : (xs : List Tree) → IsList xs t → binding_of xs ≡ Some b → IsBinding b t
    by [] l k = absurd (cc)
    by (x ∷ []) l k = absurd (cc)
    by (x ∷ (y ∷ [])) l k = met (is_leaf x) (Some (record { id = x; init = y })) b (IsBinding b t) k
        (λ c e. subst (λ (d : BindingSpec). IsBinding d t) (some-is (record { id = x; init = y }) b e) (an-id x c, l))
    by (x ∷ (y ∷ (z ∷ zs))) l k = absurd (cc)

are-bindings : (t : Tree) (bs : List BindingSpec) → bindings t ≡ Some bs → AreBindings bs t
unfolding bindings
are-bindings t bs h = from (all_of binding []) (proper_elements t) bs (AreBindings bs t) h (λ xs e k. g.bindings (proper t xs e) (all-written IsBinding binding a-binding xs bs k))

a-case : (t : Tree) (c : LambdaCase) → lambda_case t ≡ Some c → IsLambdaCase c t
unfolding lambda_case
a-case t c h = from lambda_case_of (proper_elements t) c (IsLambdaCase c t) h (λ xs e k. by xs (proper t xs e) k)
  where
    by : (xs : List Tree) → IsList xs t → lambda_case_of xs ≡ Some c → IsLambdaCase c t
    by [] l k = absurd (cc)
    by (ids ∷ body) l k = from (λ f. Some (record { formals = f; body = body })) (formals ids) c (IsLambdaCase c t) k
        (λ f e last. subst (λ (d : LambdaCase). IsLambdaCase d t) (some-is (record { formals = f; body = body }) c last) (g.lambda_case (are-formals ids f e) l))

a-pattern : (t : Tree) (c : PatternCase) → pattern_case t ≡ Some c → IsPatternCase c t
unfolding pattern_case
a-pattern t c h = from pattern_case_of (proper_elements t) c (IsPatternCase c t) h (λ xs e k. by xs (proper t xs e) k)
  where
    by : (xs : List Tree) → IsList xs t → pattern_case_of xs ≡ Some c → IsPatternCase c t
    by [] l k = absurd (cc)
    by (x ∷ []) l k = absurd (cc)
    by (p ∷ (o ∷ [])) l k = subst (λ (d : PatternCase). IsPatternCase d t) (some-is (record { pattern = p; fender = None; output = o }) c k) (g.plain l)
    by (p ∷ (f ∷ (o ∷ []))) l k = subst (λ (d : PatternCase). IsPatternCase d t) (some-is (record { pattern = p; fender = Some f; output = o }) c k) (g.fendered l)
    by (p ∷ (f ∷ (o ∷ (x ∷ xs)))) l k = absurd (cc)

-- Forms.

told : (which : CoreForm) (xs : List Tree) (r s : Shape) → Some r ≡ Some s → IsForm which r xs → IsForm which s xs
told which xs r s e h = subst (λ (x : Shape). IsForm which x xs) (some-is r s e) h

operand : (which : CoreForm) (xs : List Tree) (s : Shape) → ((x : Tree) → IsForm which (shapes.Operand x) (x ∷ [])) → operand_shape xs ≡ Some s → IsForm which s xs
unfolding operand_shape
operand which [] s one h = absurd (cc)
operand which (x ∷ []) s one h = told which (x ∷ []) (shapes.Operand x) s h (one x)
operand which (x ∷ (y ∷ ys)) s one h = absurd (cc)

a-quote : (xs : List Tree) (s : Shape) → quote_shape xs ≡ Some s → IsForm form.Quote s xs
unfolding quote_shape
a-quote [] s h = absurd (cc)
a-quote (x ∷ []) s h = told form.Quote (x ∷ []) (shapes.Quote x) s h g.quote
a-quote (x ∷ (y ∷ ys)) s h = absurd (cc)

a-lambda : (xs : List Tree) (s : Shape) → lambda_shape xs ≡ Some s → IsForm form.Lambda s xs
unfolding lambda_shape
a-lambda [] s h = absurd (cc)
a-lambda (ids ∷ body) s h = from (λ f. Some (shapes.Lambda f body)) (formals ids) s (IsForm form.Lambda s (ids ∷ body)) h
    (λ f e k. told form.Lambda (ids ∷ body) (shapes.Lambda f body) s k (g.lambda (are-formals ids f e)))

a-case-lambda : (xs : List Tree) (s : Shape) → case_lambda_shape xs ≡ Some s → IsForm form.CaseLambda s xs
unfolding case_lambda_shape
a-case-lambda xs s h = from (λ cs. Some (shapes.CaseLambda cs)) (all_of lambda_case [] xs) s (IsForm form.CaseLambda s xs) h
    (λ cs e k. told form.CaseLambda xs (shapes.CaseLambda cs) s k (g.case_lambda (all-written IsLambdaCase lambda_case a-case xs cs e)))

an-if : (xs : List Tree) (s : Shape) → if_shape xs ≡ Some s → IsForm form.If s xs
unfolding if_shape
an-if [] s h = absurd (cc)
an-if (c ∷ []) s h = absurd (cc)
an-if (c ∷ (t ∷ [])) s h = told form.If (c ∷ (t ∷ [])) (shapes.If c t None) s h g.one_armed
an-if (c ∷ (t ∷ (f ∷ []))) s h = told form.If (c ∷ (t ∷ (f ∷ []))) (shapes.If c t (Some f)) s h g.two_armed
an-if (c ∷ (t ∷ (f ∷ (x ∷ xs)))) s h = absurd (cc)

a-set : (xs : List Tree) (s : Shape) → set_shape xs ≡ Some s → IsForm form.Set s xs
unfolding set_shape
a-set [] s h = absurd (cc)
a-set (x ∷ []) s h = absurd (cc)
a-set (x ∷ (y ∷ [])) s h = met (is_leaf x) (Some (shapes.Set x y)) s (IsForm form.Set s (x ∷ (y ∷ []))) h (λ c e. told form.Set (x ∷ (y ∷ [])) (shapes.Set x y) s e (g.set (an-id x c)))
a-set (x ∷ (y ∷ (z ∷ zs))) s h = absurd (cc)

some-letrec : (which : CoreForm) (xs : List Tree) (s : Shape) → ((bs : List BindingSpec) (t : Tree) (body : List Tree) → AreBindings bs t → IsForm which (shapes.Letrec bs body) (t ∷ body)) → letrec_shape xs ≡ Some s → IsForm which s xs
unfolding letrec_shape
some-letrec which [] s one h = absurd (cc)
some-letrec which (t ∷ body) s one h = from (λ bs. Some (shapes.Letrec bs body)) (bindings t) s (IsForm which s (t ∷ body)) h
    (λ bs e k. told which (t ∷ body) (shapes.Letrec bs body) s k (one bs t body (are-bindings t bs e)))

some-let-syntax : (which : CoreForm) (xs : List Tree) (s : Shape) → ((bs : List BindingSpec) (t : Tree) (body : List Tree) → AreBindings bs t → IsForm which (shapes.LetSyntax bs body) (t ∷ body)) → let_syntax_shape xs ≡ Some s → IsForm which s xs
unfolding let_syntax_shape
some-let-syntax which [] s one h = absurd (cc)
some-let-syntax which (t ∷ body) s one h = from (λ bs. Some (shapes.LetSyntax bs body)) (bindings t) s (IsForm which s (t ∷ body)) h
    (λ bs e k. told which (t ∷ body) (shapes.LetSyntax bs body) s k (one bs t body (are-bindings t bs e)))

a-variable : (x : Tree) (xs : List Tree) (s : Shape) → is_leaf x ≡ true → define_variable x xs ≡ Some s → IsForm form.Define s (x ∷ xs)
unfolding define_variable
a-variable x [] s c h = told form.Define (x ∷ []) (shapes.Define x None) s h (g.define_empty (an-id x c))
a-variable x (y ∷ []) s c h = told form.Define (x ∷ (y ∷ [])) (shapes.Define x (Some y)) s h (g.define (an-id x c))
a-variable x (y ∷ (z ∷ zs)) s c h = absurd (cc)

a-procedure : (target : Tree) (body : List Tree) (s : Shape) → define_procedure target body ≡ Some s → IsForm form.Define s (target ∷ body)
unfolding define_procedure
a-procedure (atom r a) body s h = absurd (cc)
a-procedure (leaf r x c) body s h = absurd (cc)
a-procedure (pair r x d) body s h = met (is_leaf x) (if_some (formals d) (λ f. Some (shapes.DefineProcedure x f body))) s (IsForm form.Define s (pair r x d ∷ body)) h
    (λ c e. from (λ f. Some (shapes.DefineProcedure x f body)) (formals d) s (IsForm form.Define s (pair r x d ∷ body)) e
    (λ f given k. told form.Define (pair r x d ∷ body) (shapes.DefineProcedure x f body) s k (g.define_procedure (an-id x c) (are-formals d f given))))
a-procedure (vector r d) body s h = absurd (cc)

a-define : (xs : List Tree) (s : Shape) → define_shape xs ≡ Some s → IsForm form.Define s xs
unfolding define_shape
a-define [] s h = absurd (cc)
a-define (x ∷ xs) s h = by (is_leaf x) refl h
  where
    by : (c : Bool) → is_leaf x ≡ c → (if c then define_variable x xs else define_procedure x xs) ≡ Some s → IsForm form.Define s (x ∷ xs)
    by true e k = a-variable x xs s e k
    by false e k = a-procedure x xs s k

a-define-syntax : (xs : List Tree) (s : Shape) → define_syntax_shape xs ≡ Some s → IsForm form.DefineSyntax s xs
unfolding define_syntax_shape
a-define-syntax [] s h = absurd (cc)
a-define-syntax (x ∷ []) s h = absurd (cc)
a-define-syntax (x ∷ (y ∷ [])) s h = met (is_leaf x) (Some (shapes.DefineSyntax x y)) s (IsForm form.DefineSyntax s (x ∷ (y ∷ []))) h
    (λ c e. told form.DefineSyntax (x ∷ (y ∷ [])) (shapes.DefineSyntax x y) s e (g.define_syntax (an-id x c)))
a-define-syntax (x ∷ (y ∷ (z ∷ zs))) s h = absurd (cc)

a-syntax-case : (xs : List Tree) (s : Shape) → syntax_case_shape xs ≡ Some s → IsForm form.SyntaxCase s xs
unfolding syntax_case_shape
a-syntax-case [] s h = absurd (cc)
a-syntax-case (x ∷ []) s h = absurd (cc)
a-syntax-case (x ∷ (t ∷ ts)) s h =
    from (λ ls. if_some (all_of pattern_case [] ts) (λ cs. Some (shapes.SyntaxCase x ls cs))) (proper_elements t) s (IsForm form.SyntaxCase s (x ∷ (t ∷ ts))) h
    (λ ls e k. from (λ cs. Some (shapes.SyntaxCase x ls cs)) (all_of pattern_case [] ts) s (IsForm form.SyntaxCase s (x ∷ (t ∷ ts))) k
    (λ cs given last. told form.SyntaxCase (x ∷ (t ∷ ts)) (shapes.SyntaxCase x ls cs) s last (g.syntax_case (proper t ls e) (all-written IsPatternCase pattern_case a-pattern ts cs given))))

a-form : (which : CoreForm) (xs : List Tree) (s : Shape) → shaped which xs ≡ Some s → IsForm which s xs
unfolding shaped
a-form form.Quote xs s h = a-quote xs s h
a-form form.Lambda xs s h = a-lambda xs s h
a-form form.CaseLambda xs s h = a-case-lambda xs s h
a-form form.If xs s h = an-if xs s h
a-form form.Set xs s h = a-set xs s h
a-form form.Begin xs s h = told form.Begin xs (shapes.Begin xs) s h g.begin
a-form form.Letrec xs s h = some-letrec form.Letrec xs s (λ bs t body k. g.letrec k) h
a-form form.LetrecStar xs s h = some-letrec form.LetrecStar xs s (λ bs t body k. g.letrec_star k) h
a-form form.Define xs s h = a-define xs s h
a-form form.DefineSyntax xs s h = a-define-syntax xs s h
a-form form.LetSyntax xs s h = some-let-syntax form.LetSyntax xs s (λ bs t body k. g.let_syntax k) h
a-form form.LetrecSyntax xs s h = some-let-syntax form.LetrecSyntax xs s (λ bs t body k. g.letrec_syntax k) h
a-form form.Quasiquote xs s h = operand form.Quasiquote xs s (λ x. g.quasiquote) h
a-form form.Syntax xs s h = operand form.Syntax xs s (λ x. g.syntax_of) h
a-form form.Quasisyntax xs s h = operand form.Quasisyntax xs s (λ x. g.quasisyntax) h
a-form form.SyntaxCase xs s h = a-syntax-case xs s h
a-form _ xs s h = absurd (cc)

by-shape : (which : CoreForm) (t : Tree) (s : Shape) → shape_of which t ≡ Some s → HasShape which s t
unfolding shape_of
by-shape which t s h = from (by_operands which) (proper_elements t) s (HasShape which s t) h (λ xs e k. by xs (proper t xs e) k)
  where
    by : (xs : List Tree) → IsList xs t → by_operands which xs ≡ Some s → HasShape which s t
    by [] l k = absurd (cc)
    by (head ∷ operands) l k = g.headed l (a-form which operands s k)

pub shapes-are-written : ShapesAreWritten
unfolding shape
shapes-are-written which t place s h = by (shape_of which t) refl h
  where
    by : (o : Option Shape) → shape_of which t ≡ o → or_bad t place o ≡ Ok s → HasShape which s t
    by None e k = absurd (cc)
    by (Some r) e k = by-shape which t s (e ∙ ap Some (cc))

pub others-are-bad : OthersAreBad
unfolding shape
others-are-bad which t place none = by (shape_of which t) refl
  where
    by : (o : Option Shape) → shape_of which t ≡ o → or_bad t place o ≡ Err (fault_at kind.BadForm t place [])
    by None e = refl
    by (Some s) e = elim (none s (by-shape which t s e)) [ ]
