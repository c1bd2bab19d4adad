-- The shapes of the core forms (R6RS 11.2 to 11.4, 11.18 and 11.19; libraries 4 and 12.4).
use Rattle.std.specs.Prelude.{List, [], ◌∷◌, Option, None, Some, Result, Ok, Err, if◌then◌else◌}
use Rattle.base_data.specs.declared.fault.Fault.{Fault}
use Rattle.base_data.specs.declared.fault.FaultKind.TheVariants as kind
use Rattle.base_data.specs.declared.span.Span.{Span}
use Rattle.stx_tree.specs.Tree.{Tree}
use Rattle.core_language.specs.declared.core_form.CoreForm.{CoreForm}
use Rattle.core_language.specs.declared.core_form.CoreForm.TheVariants as form
use Rattle.core_shapes.specs.declared.lists.Split.{Split}
use Rattle.core_shapes.specs.declared.shape.FormalIds.{FormalIds}
use Rattle.core_shapes.specs.declared.shape.BindingSpec.{BindingSpec}
use Rattle.core_shapes.specs.declared.shape.LambdaCase.{LambdaCase}
use Rattle.core_shapes.specs.declared.shape.PatternCase.{PatternCase}
use Rattle.core_shapes.specs.declared.shape.Shape.{Shape}
use Rattle.core_shapes.specs.declared.shape.Shape.TheVariants as shapes
use Rattle.core_shapes.specs.At.{fault_at}
use Rattle.core_shapes.specs.Lists.{is_leaf, is_nil, split_first, elements, tail_of, proper_elements, all_ids, if_some, all_of}

unfoldable pub formals_before : List Tree → Tree → Option FormalIds
formals_before ids tail = if is_nil tail then Some (record { required = ids; rest = None })
    else if is_leaf tail then Some (record { required = ids; rest = Some tail }) else None

-- `(id ...)`, `(id ... . id)` or `id`
unfoldable pub formals : Tree → Option FormalIds
formals t = if all_ids (elements t) then formals_before (elements t) (tail_of t) else None

abbrev pub binding_of : List Tree → Option BindingSpec
binding_of (id ∷ (init ∷ [])) = if is_leaf id then Some (record { id = id; init = init }) else None
binding_of _ = None

-- `(id init)`
unfoldable pub binding : Tree → Option BindingSpec
binding t = if_some (proper_elements t) binding_of

-- `((id init) ...)`
unfoldable pub bindings : Tree → Option (List BindingSpec)
bindings t = if_some (proper_elements t) (all_of binding [])

abbrev pub lambda_case_of : List Tree → Option LambdaCase
lambda_case_of [] = None
lambda_case_of (ids ∷ body) = if_some (formals ids) (λ f. Some (record { formals = f; body = body }))

-- `(formals form ...)`
unfoldable pub lambda_case : Tree → Option LambdaCase
lambda_case t = if_some (proper_elements t) lambda_case_of

abbrev pub pattern_case_of : List Tree → Option PatternCase
pattern_case_of (p ∷ (o ∷ [])) = Some (record { pattern = p; fender = None; output = o })
pattern_case_of (p ∷ (f ∷ (o ∷ []))) = Some (record { pattern = p; fender = Some f; output = o })
pattern_case_of _ = None

-- `(pattern output)` or `(pattern fender output)`
unfoldable pub pattern_case : Tree → Option PatternCase
pattern_case t = if_some (proper_elements t) pattern_case_of

-- Each of these is told by its operands alone.

unfoldable pub quote_shape : List Tree → Option Shape
quote_shape (datum ∷ []) = Some (shapes.Quote datum)
quote_shape _ = None

unfoldable pub operand_shape : List Tree → Option Shape
operand_shape (operand ∷ []) = Some (shapes.Operand operand)
operand_shape _ = None

unfoldable pub lambda_shape : List Tree → Option Shape
lambda_shape [] = None
lambda_shape (ids ∷ body) = if_some (formals ids) (λ f. Some (shapes.Lambda f body))

unfoldable pub case_lambda_shape : List Tree → Option Shape
case_lambda_shape cases = if_some (all_of lambda_case [] cases) (λ cs. Some (shapes.CaseLambda cs))

unfoldable pub if_shape : List Tree → Option Shape
if_shape (c ∷ (t ∷ [])) = Some (shapes.If c t None)
if_shape (c ∷ (t ∷ (f ∷ []))) = Some (shapes.If c t (Some f))
if_shape _ = None

unfoldable pub set_shape : List Tree → Option Shape
set_shape (target ∷ (value ∷ [])) = if is_leaf target then Some (shapes.Set target value) else None
set_shape _ = None

unfoldable pub letrec_shape : List Tree → Option Shape
letrec_shape [] = None
letrec_shape (specs ∷ body) = if_some (bindings specs) (λ bs. Some (shapes.Letrec bs body))

unfoldable pub let_syntax_shape : List Tree → Option Shape
let_syntax_shape [] = None
let_syntax_shape (specs ∷ body) = if_some (bindings specs) (λ bs. Some (shapes.LetSyntax bs body))

-- `(define id)` or `(define id value)`
unfoldable pub define_variable : Tree → List Tree → Option Shape
define_variable id [] = Some (shapes.Define id None)
define_variable id (value ∷ []) = Some (shapes.Define id (Some value))
define_variable id _ = None

abbrev pub procedure_of : List Tree → Split → Option Shape
procedure_of body target = if is_leaf target.first
    then if_some (formals target.rest) (λ f. Some (shapes.DefineProcedure target.first f body)) else None

-- `(define (id . formals) form ...)`
unfoldable pub define_procedure : Tree → List Tree → Option Shape
define_procedure target body = if_some (split_first target) (procedure_of body)

unfoldable pub define_shape : List Tree → Option Shape
define_shape [] = None
define_shape (target ∷ others) = if is_leaf target then define_variable target others else define_procedure target others

unfoldable pub define_syntax_shape : List Tree → Option Shape
define_syntax_shape (id ∷ (value ∷ [])) = if is_leaf id then Some (shapes.DefineSyntax id value) else None
define_syntax_shape _ = None

-- what a literal may be the patterns say
unfoldable pub syntax_case_shape : List Tree → Option Shape
syntax_case_shape (subject ∷ (literals ∷ clauses)) = if_some (proper_elements literals)
    (λ ls. if_some (all_of pattern_case [] clauses) (λ cs. Some (shapes.SyntaxCase subject ls cs)))
syntax_case_shape _ = None

-- the shape of a form of this keyword, from its operands
unfoldable pub shaped : CoreForm → List Tree → Option Shape
shaped form.Quote xs = quote_shape xs
shaped form.Lambda xs = lambda_shape xs
shaped form.CaseLambda xs = case_lambda_shape xs
shaped form.If xs = if_shape xs
shaped form.Set xs = set_shape xs
shaped form.Begin xs = Some (shapes.Begin xs)
shaped form.Letrec xs = letrec_shape xs
shaped form.LetrecStar xs = letrec_shape xs
shaped form.Define xs = define_shape xs
shaped form.DefineSyntax xs = define_syntax_shape xs
shaped form.LetSyntax xs = let_syntax_shape xs
shaped form.LetrecSyntax xs = let_syntax_shape xs
shaped form.Quasiquote xs = operand_shape xs
shaped form.Syntax xs = operand_shape xs
shaped form.Quasisyntax xs = operand_shape xs
shaped form.SyntaxCase xs = syntax_case_shape xs
shaped _ xs = None

abbrev pub by_operands : CoreForm → List Tree → Option Shape
by_operands which [] = None
by_operands which (head ∷ operands) = shaped which operands

-- the head is the keyword; the operands are a list that ends in the empty list
unfoldable pub shape_of : CoreForm → Tree → Option Shape
shape_of which t = if_some (proper_elements t) (by_operands which)

abbrev pub or_bad : Tree → Span → Option Shape → Result Shape Fault
or_bad t place None = Err (fault_at kind.BadForm t place [])
or_bad t place (Some s) = Ok s

-- the parts of a form of this keyword; a form without a shape is at fault
unfoldable pub shape : CoreForm → Tree → Span → Result Shape Fault
shape which t place = or_bad t place (shape_of which t)
