-- The grammar of the core forms: how their parts are written (R6RS 11.2 to 11.4, 11.18 and 11.19; libraries 4 and 12.4).
use Rattle.std.specs.Prelude.{List, [], ◌∷◌, map, Option, None, Some}
use Rattle.stx_tree.specs.Tree.{Tree, atom, leaf, pair, vector, nil, chain}
use Rattle.core_shapes.specs.declared.shape.FormalIds.{FormalIds}
use Rattle.core_shapes.specs.declared.shape.BindingSpec.{BindingSpec}
use Rattle.core_shapes.specs.declared.shape.LambdaCase.{LambdaCase}
use Rattle.core_shapes.specs.declared.shape.PatternCase.{PatternCase}
use Rattle.core_shapes.specs.declared.shape.Shape.{Shape}
use Rattle.core_shapes.specs.declared.shape.Shape.TheVariants as shapes

abbrev pub list : List Tree → Tree
list xs = chain xs nil

abbrev pub last_of : Option Tree → Tree
last_of None = nil
last_of (Some id) = id

abbrev pub optional : Option Tree → List Tree → List Tree
optional None xs = xs
optional (Some x) xs = x ∷ xs

-- `(id ...)`, `(id ... . id)` or `id`
abbrev pub formals_written : FormalIds → Tree
formals_written f = chain f.required (last_of f.rest)

-- `(id init)`
abbrev pub binding_written : BindingSpec → Tree
binding_written b = list (b.id ∷ (b.init ∷ []))

-- `(formals form ...)`
abbrev pub lambda_case_written : LambdaCase → Tree
lambda_case_written c = list (formals_written c.formals ∷ c.body)

-- `(pattern output)` or `(pattern fender output)`
abbrev pub pattern_case_written : PatternCase → Tree
pattern_case_written c = list (c.pattern ∷ optional c.fender (c.output ∷ []))

-- the operands of a form of this shape, without spans of their lists
abbrev pub written : Shape → List Tree
written (shapes.Quote datum) = datum ∷ []
written (shapes.Lambda ids body) = formals_written ids ∷ body
written (shapes.CaseLambda cs) = map lambda_case_written cs
written (shapes.If test consequent other) = test ∷ (consequent ∷ optional other [])
written (shapes.Set id value) = id ∷ (value ∷ [])
written (shapes.Begin forms) = forms
written (shapes.Letrec bs body) = list (map binding_written bs) ∷ body
written (shapes.Define id value) = id ∷ optional value []
written (shapes.DefineProcedure id ids body) = pair None id (formals_written ids) ∷ body
written (shapes.DefineSyntax id value) = id ∷ (value ∷ [])
written (shapes.LetSyntax bs body) = list (map binding_written bs) ∷ body
written (shapes.Operand operand) = operand ∷ []
written (shapes.SyntaxCase subject literals cs) = subject ∷ (list literals ∷ map pattern_case_written cs)

-- the head of a form; what is no list counts as its own head
abbrev pub head_of : Tree → Tree
head_of (atom s a) = atom s a
head_of (leaf s x c) = leaf s x c
head_of (pair s a d) = a
head_of (vector s d) = vector s d

-- a form of this shape behind a head
abbrev pub form_written : Tree → Shape → Tree
form_written head s = list (head ∷ written s)
