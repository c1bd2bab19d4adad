-- The parts of a form that a shape gives are kept where the form is.
use Rattle.std.proofs.Common.{Bool, true, false, List, [], ◌∷◌, ◌++◌, Option, None, Some, Result, Ok, Err, if◌then◌else◌}
use Rattle.base_data.proofs.ElementLemmas.{each-and}
use Rattle.base_data.specs.Elements.{Each}
use Rattle.base_data.specs.Gives.{◌>>=◌}
use Rattle.base_data.specs.declared.span.Span.{Span}
use Rattle.stx_tree.specs.Tree.{Tree, atom, leaf, pair, vector}
use Rattle.core_language.specs.declared.core_form.CoreForm.{CoreForm}
use Rattle.core_language.specs.declared.core_form.CoreForm.TheVariants as form
use Rattle.core_shapes.specs.Forms.{formals_before, formals, binding_of, binding, bindings, lambda_case_of, lambda_case, pattern_case_of, pattern_case, quote_shape, operand_shape, lambda_shape, case_lambda_shape, if_shape, set_shape, letrec_shape, let_syntax_shape, define_variable, procedure_of, define_procedure, define_shape, define_syntax_shape, syntax_case_shape, shaped, by_operands, shape_of, or_bad, shape}
use Rattle.core_shapes.specs.Lists.{is_leaf, is_nil, split_first, elements, tail_of, proper_elements, all_ids, if_some, all_of}
use Rattle.core_shapes.specs.declared.shape.BindingSpec.{BindingSpec}
use Rattle.core_shapes.specs.declared.shape.FormalIds.{FormalIds}
use Rattle.core_shapes.specs.declared.shape.LambdaCase.{LambdaCase}
use Rattle.core_shapes.specs.declared.shape.PatternCase.{PatternCase}
use Rattle.core_shapes.specs.declared.shape.Shape.{Shape}
use Rattle.core_shapes.specs.declared.shape.Shape.TheVariants as shapes
use Rattle.core_shapes.specs.declared.lists.Split.{Split}
use Rattle.law_invariants.specs.Invariant.{OptionHolds}
use Rattle.law_invariants.proofs.Matches.{elements_of_tree}
use Rattle.law_invariants.proofs.Trees.{OkHolds}
use Rattle.law_invariants.specs.Invariant.{Invariant}
use Rattle.law_invariants.specs.Closed.{IsClosed}

-- where there is a value, this holds of it
pub then-holds : {A B E : Type 0} (P : A → Type 0) (Q : B → Type 0) (r : Result A E) (k : A → Result B E) → OkHolds P r → ((a : A) → P a → OkHolds Q (k a)) → OkHolds Q (r >>= k)
then-holds P Q (Ok x) k h next = next x h
then-holds P Q (Err e) k h next = tt

pub ok-if : {A E : Type 0} (P : A → Type 0) (b : Bool) (r q : Result A E) → OkHolds P r → OkHolds P q → OkHolds P (if b then r else q)
ok-if P true r q h k = h
ok-if P false r q h k = k

-- What may not be there.

pub some-holds : {X Y : Type 0} (A : X → Type 0) (B : Y → Type 0) (o : Option X) (f : X → Option Y) → OptionHolds A o → ((x : X) → A x → OptionHolds B (f x)) → OptionHolds B (if_some o f)
some-holds A B None f h k = tt
some-holds A B (Some x) f h k = k x h

pub if-holds : {Y : Type 0} (B : Y → Type 0) (b : Bool) (o r : Option Y) → OptionHolds B o → OptionHolds B r → OptionHolds B (if b then o else r)
if-holds B true o r h k = h
if-holds B false o r h k = k

pub all-of-holds : {X Y : Type 0} (A : X → Type 0) (B : Y → Type 0) (f : X → Option Y) → ((x : X) → A x → OptionHolds B (f x)) → (done : List Y) (xs : List X) → Each B done → Each A xs → OptionHolds (Each B) (all_of f done xs)
unfolding all_of
all-of-holds A B f k done [] h g = h
all-of-holds {X} {Y} A B f k done (x ∷ xs) h g =
    some-holds B (Each B) (f x) (λ y. all_of f (done ++ y ∷ []) xs) (k x g.0) (λ y j. all-of-holds A B f k (done ++ y ∷ []) xs (each-and B done y h j) g.1)

module _ (I : Invariant) (parts : IsClosed I) where
  abbrev pub T : Tree → Type 0
  T t = I.trees t

  abbrev pub Ts : List Tree → Type 0
  Ts ts = Each T ts

  abbrev pub FormalsHold : FormalIds → Type 0
  FormalsHold f = Ts f.required × OptionHolds T f.rest

  abbrev pub SpecHolds : BindingSpec → Type 0
  SpecHolds b = T b.id × T b.init

  abbrev pub LambdaHolds : LambdaCase → Type 0
  LambdaHolds c = FormalsHold c.formals × Ts c.body

  abbrev pub PatternCaseHolds : PatternCase → Type 0
  PatternCaseHolds c = T c.pattern × (OptionHolds T c.fender × T c.output)

  abbrev pub ShapeHolds : Shape → Type 0
  ShapeHolds (shapes.Quote datum) = T datum
  ShapeHolds (shapes.Lambda ids forms) = FormalsHold ids × Ts forms
  ShapeHolds (shapes.CaseLambda cs) = Each LambdaHolds cs
  ShapeHolds (shapes.If test consequent other) = T test × (T consequent × OptionHolds T other)
  ShapeHolds (shapes.Set id value) = T id × T value
  ShapeHolds (shapes.Begin forms) = Ts forms
  ShapeHolds (shapes.Letrec bs forms) = Each SpecHolds bs × Ts forms
  ShapeHolds (shapes.Define id value) = T id × OptionHolds T value
  ShapeHolds (shapes.DefineProcedure id ids forms) = T id × (FormalsHold ids × Ts forms)
  ShapeHolds (shapes.DefineSyntax id value) = T id × T value
  ShapeHolds (shapes.LetSyntax bs forms) = Each SpecHolds bs × Ts forms
  ShapeHolds (shapes.Operand operand) = T operand
  ShapeHolds (shapes.SyntaxCase subject literals cs) = T subject × (Ts literals × Each PatternCaseHolds cs)

  pub tail-holds : (t : Tree) → T t → T (tail_of t)
  tail-holds (atom s a) h = h
  tail-holds (leaf s x c) h = h
  tail-holds (pair s a d) h = tail-holds d (parts.rest s a d h)
  tail-holds (vector s d) h = h

  pub elements-hold : (t : Tree) → T t → Ts (elements t)
  elements-hold t h = elements_of_tree I parts t h

  pub proper-holds : (t : Tree) → T t → OptionHolds Ts (proper_elements t)
  proper-holds t h = if-holds Ts (is_nil (tail_of t)) (Some (elements t)) None (elements-hold t h) tt

  before-holds : (ids : List Tree) (t : Tree) → Ts ids → T t → OptionHolds FormalsHold (formals_before ids t)
  unfolding formals_before
  before-holds ids t h k = if-holds FormalsHold (is_nil t) (Some (record { required = ids; rest = None })) _ (h, tt) (if-holds FormalsHold (is_leaf t) (Some (record { required = ids; rest = Some t })) None (h, k) tt)

  formals-hold : (t : Tree) → T t → OptionHolds FormalsHold (formals t)
  unfolding formals
  formals-hold t h = if-holds FormalsHold (all_ids (elements t)) (formals_before (elements t) (tail_of t)) None (before-holds (elements t) (tail_of t) (elements-hold t h) (tail-holds t h)) tt

  spec-of : (ts : List Tree) → Ts ts → OptionHolds SpecHolds (binding_of ts)
  spec-of [] h = tt
  spec-of (id ∷ []) h = tt
  spec-of (id ∷ (init ∷ [])) h = if-holds SpecHolds (is_leaf id) (Some (record { id = id; init = init })) None (h.0, h.1.0) tt
  spec-of (id ∷ (init ∷ (x ∷ ts))) h = tt

  spec-holds : (t : Tree) → T t → OptionHolds SpecHolds (binding t)
  unfolding binding
  spec-holds t h = some-holds Ts SpecHolds (proper_elements t) binding_of (proper-holds t h) spec-of

  specs-hold : (t : Tree) → T t → OptionHolds (Each SpecHolds) (bindings t)
  unfolding bindings
  specs-hold t h = some-holds Ts (Each SpecHolds) (proper_elements t) (all_of binding []) (proper-holds t h) (λ ts k. all-of-holds T SpecHolds binding spec-holds [] ts tt k)

  case-of : (ts : List Tree) → Ts ts → OptionHolds LambdaHolds (lambda_case_of ts)
  case-of [] h = tt
  case-of (ids ∷ body) h = some-holds FormalsHold LambdaHolds (formals ids) (λ f. Some (record { formals = f; body = body })) (formals-hold ids h.0) (λ f k. (k, h.1))

  case-holds : (t : Tree) → T t → OptionHolds LambdaHolds (lambda_case t)
  unfolding lambda_case
  case-holds t h = some-holds Ts LambdaHolds (proper_elements t) lambda_case_of (proper-holds t h) case-of

  pattern-of : (ts : List Tree) → Ts ts → OptionHolds PatternCaseHolds (pattern_case_of ts)
  pattern-of [] h = tt
  pattern-of (p ∷ []) h = tt
  pattern-of (p ∷ (o ∷ [])) h = (h.0, (tt, h.1.0))
  pattern-of (p ∷ (f ∷ (o ∷ []))) h = (h.0, (h.1.0, h.1.1.0))
  pattern-of (p ∷ (f ∷ (o ∷ (x ∷ ts)))) h = tt

  pattern-holds : (t : Tree) → T t → OptionHolds PatternCaseHolds (pattern_case t)
  unfolding pattern_case
  pattern-holds t h = some-holds Ts PatternCaseHolds (proper_elements t) pattern_case_of (proper-holds t h) pattern-of

  -- By operands.

  quote-holds : (ts : List Tree) → Ts ts → OptionHolds ShapeHolds (quote_shape ts)
  unfolding quote_shape
  quote-holds [] h = tt
  quote-holds (x ∷ []) h = h.0
  quote-holds (x ∷ (y ∷ ts)) h = tt

  operand-holds : (ts : List Tree) → Ts ts → OptionHolds ShapeHolds (operand_shape ts)
  unfolding operand_shape
  operand-holds [] h = tt
  operand-holds (x ∷ []) h = h.0
  operand-holds (x ∷ (y ∷ ts)) h = tt

  lambda-holds : (ts : List Tree) → Ts ts → OptionHolds ShapeHolds (lambda_shape ts)
  unfolding lambda_shape
  lambda-holds [] h = tt
  lambda-holds (ids ∷ body) h = some-holds FormalsHold ShapeHolds (formals ids) (λ f. Some (shapes.Lambda f body)) (formals-hold ids h.0) (λ f k. (k, h.1))

  case-lambda-holds : (ts : List Tree) → Ts ts → OptionHolds ShapeHolds (case_lambda_shape ts)
  unfolding case_lambda_shape
  case-lambda-holds ts h = some-holds (Each LambdaHolds) ShapeHolds (all_of lambda_case [] ts) (λ cs. Some (shapes.CaseLambda cs)) (all-of-holds T LambdaHolds lambda_case case-holds [] ts tt h) (λ cs k. k)

  if-shape-holds : (ts : List Tree) → Ts ts → OptionHolds ShapeHolds (if_shape ts)
  unfolding if_shape
  if-shape-holds [] h = tt
  if-shape-holds (a ∷ []) h = tt
  if-shape-holds (a ∷ (b ∷ [])) h = (h.0, (h.1.0, tt))
  if-shape-holds (a ∷ (b ∷ (c ∷ []))) h = (h.0, (h.1.0, h.1.1.0))
  if-shape-holds (a ∷ (b ∷ (c ∷ (d ∷ ts)))) h = tt

  set-holds : (ts : List Tree) → Ts ts → OptionHolds ShapeHolds (set_shape ts)
  unfolding set_shape
  set-holds [] h = tt
  set-holds (a ∷ []) h = tt
  set-holds (a ∷ (b ∷ [])) h = if-holds ShapeHolds (is_leaf a) (Some (shapes.Set a b)) None (h.0, h.1.0) tt
  set-holds (a ∷ (b ∷ (c ∷ ts))) h = tt

  letrec-holds : (ts : List Tree) → Ts ts → OptionHolds ShapeHolds (letrec_shape ts)
  unfolding letrec_shape
  letrec-holds [] h = tt
  letrec-holds (specs ∷ body) h = some-holds (Each SpecHolds) ShapeHolds (bindings specs) (λ bs. Some (shapes.Letrec bs body)) (specs-hold specs h.0) (λ bs k. (k, h.1))

  let-syntax-holds : (ts : List Tree) → Ts ts → OptionHolds ShapeHolds (let_syntax_shape ts)
  unfolding let_syntax_shape
  let-syntax-holds [] h = tt
  let-syntax-holds (specs ∷ body) h = some-holds (Each SpecHolds) ShapeHolds (bindings specs) (λ bs. Some (shapes.LetSyntax bs body)) (specs-hold specs h.0) (λ bs k. (k, h.1))

  define-variable-holds : (id : Tree) (ts : List Tree) → T id → Ts ts → OptionHolds ShapeHolds (define_variable id ts)
  unfolding define_variable
  define-variable-holds id [] h k = (h, tt)
  define-variable-holds id (v ∷ []) h k = (h, k.0)
  define-variable-holds id (v ∷ (w ∷ ts)) h k = tt

  abbrev SplitHolds : Split → Type 0
  SplitHolds x = T x.first × T x.rest

  split-holds : (t : Tree) → T t → OptionHolds SplitHolds (split_first t)
  split-holds (atom s a) h = tt
  split-holds (leaf s x c) h = tt
  split-holds (pair s a d) h = (parts.first s a d h, parts.rest s a d h)
  split-holds (vector s d) h = tt

  procedure-holds : (body : List Tree) (x : Split) → Ts body → SplitHolds x → OptionHolds ShapeHolds (procedure_of body x)
  procedure-holds body x h k =
      if-holds ShapeHolds (is_leaf x.first) (if_some (formals x.rest) (λ f. Some (shapes.DefineProcedure x.first f body))) None
      (some-holds FormalsHold ShapeHolds (formals x.rest) (λ f. Some (shapes.DefineProcedure x.first f body)) (formals-hold x.rest k.1) (λ f j. (k.0, (j, h)))) tt

  define-procedure-holds : (t : Tree) (body : List Tree) → T t → Ts body → OptionHolds ShapeHolds (define_procedure t body)
  unfolding define_procedure
  define-procedure-holds t body h k = some-holds SplitHolds ShapeHolds (split_first t) (procedure_of body) (split-holds t h) (λ x j. procedure-holds body x k j)

  define-holds : (ts : List Tree) → Ts ts → OptionHolds ShapeHolds (define_shape ts)
  unfolding define_shape
  define-holds [] h = tt
  define-holds (t ∷ ts) h = if-holds ShapeHolds (is_leaf t) (define_variable t ts) (define_procedure t ts) (define-variable-holds t ts h.0 h.1) (define-procedure-holds t ts h.0 h.1)

  define-syntax-holds : (ts : List Tree) → Ts ts → OptionHolds ShapeHolds (define_syntax_shape ts)
  unfolding define_syntax_shape
  define-syntax-holds [] h = tt
  define-syntax-holds (a ∷ []) h = tt
  define-syntax-holds (a ∷ (b ∷ [])) h = if-holds ShapeHolds (is_leaf a) (Some (shapes.DefineSyntax a b)) None (h.0, h.1.0) tt
  define-syntax-holds (a ∷ (b ∷ (c ∷ ts))) h = tt

  syntax-case-holds : (ts : List Tree) → Ts ts → OptionHolds ShapeHolds (syntax_case_shape ts)
  unfolding syntax_case_shape
  syntax-case-holds [] h = tt
  syntax-case-holds (a ∷ []) h = tt
  syntax-case-holds (a ∷ (ls ∷ cs)) h =
      some-holds Ts ShapeHolds (proper_elements ls) (λ xs. if_some (all_of pattern_case [] cs) (λ ys. Some (shapes.SyntaxCase a xs ys))) (proper-holds ls h.1.0)
      (λ xs k. some-holds (Each PatternCaseHolds) ShapeHolds (all_of pattern_case [] cs) (λ ys. Some (shapes.SyntaxCase a xs ys)) (all-of-holds T PatternCaseHolds pattern_case pattern-holds [] cs tt h.1.1) (λ ys j. (h.0, (k, j))))

  shaped-holds : (which : CoreForm) (ts : List Tree) → Ts ts → OptionHolds ShapeHolds (shaped which ts)
  unfolding shaped
  shaped-holds form.Quote ts h = quote-holds ts h
  shaped-holds form.Lambda ts h = lambda-holds ts h
  shaped-holds form.CaseLambda ts h = case-lambda-holds ts h
  shaped-holds form.If ts h = if-shape-holds ts h
  shaped-holds form.Set ts h = set-holds ts h
  shaped-holds form.Begin ts h = h
  shaped-holds form.Letrec ts h = letrec-holds ts h
  shaped-holds form.LetrecStar ts h = letrec-holds ts h
  shaped-holds form.Define ts h = define-holds ts h
  shaped-holds form.DefineSyntax ts h = define-syntax-holds ts h
  shaped-holds form.LetSyntax ts h = let-syntax-holds ts h
  shaped-holds form.LetrecSyntax ts h = let-syntax-holds ts h
  shaped-holds form.Quasiquote ts h = operand-holds ts h
  shaped-holds form.Syntax ts h = operand-holds ts h
  shaped-holds form.Quasisyntax ts h = operand-holds ts h
  shaped-holds form.SyntaxCase ts h = syntax-case-holds ts h
  shaped-holds _ ts h = tt

  by-operands-holds : (which : CoreForm) (ts : List Tree) → Ts ts → OptionHolds ShapeHolds (by_operands which ts)
  by-operands-holds which [] h = tt
  by-operands-holds which (x ∷ ts) h = shaped-holds which ts h.1

  shape-of-holds : (which : CoreForm) (t : Tree) → T t → OptionHolds ShapeHolds (shape_of which t)
  unfolding shape_of
  shape-of-holds which t h = some-holds Ts ShapeHolds (proper_elements t) (by_operands which) (proper-holds t h) (by-operands-holds which)

  or-bad-holds : (t : Tree) (place : Span) (o : Option Shape) → OptionHolds ShapeHolds o → OkHolds ShapeHolds (or_bad t place o)
  or-bad-holds t place None h = tt
  or-bad-holds t place (Some x) h = h

  pub shape-holds : (which : CoreForm) (t : Tree) (place : Span) → T t → OkHolds ShapeHolds (shape which t place)
  unfolding shape
  shape-holds which t place h = or-bad-holds t place (shape_of which t) (shape-of-holds which t h)
