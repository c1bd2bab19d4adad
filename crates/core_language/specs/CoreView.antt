-- What core code in memory stands for.
use Rattle.std.specs.Prelude.{Bool, List, [], ◌∷◌, Option, Some, None}
use Rattle.std.specs.declared.boxed.Box.{Box}
use Rattle.std.specs.declared.alloc.Global.{Global}
use Rattle.core_language.specs.Core.{PlainCore, quoted, variable, primitive, one_armed, two_armed, assignment, sequence, procedure_of, letrec, call, instance, matching, cores}
use Rattle.core_language.specs.Core.{PlainInits, no_init, init, PlainCases, no_case, case, PlainClauses, no_clause, clause, fended, PlainCode}
use Rattle.base_data.specs.declared.name.CodeNo.{CodeNo}
use Rattle.core_language.specs.Pattern.{PlainPattern}
use Rattle.core_language.specs.declared.code.Init.{Init}
use Rattle.core_language.specs.declared.code.Lambda.{Lambda}
use Rattle.core_language.specs.declared.code.Clause.{Clause}
use Rattle.core_language.specs.declared.code.CoreNode.{CoreNode}
use Rattle.core_language.specs.declared.code.CoreNode.TheVariants as node

abbrev pub inits : List Init → PlainInits
inits [] = no_init
inits (i ∷ is) = init i.label i.value (inits is)

abbrev pub cases : List Lambda → PlainCases
cases [] = no_case
cases (l ∷ ls) = case l.formals l.body (cases ls)

abbrev pub clause_on : PlainPattern → Option PlainCore → PlainCore → PlainClauses → PlainClauses
clause_on p None c cs = clause p c cs
clause_on p (Some f) c cs = fended p f c cs

abbrev pub clauses : List Clause → PlainClauses
clauses [] = no_clause
clauses (c ∷ cs) = clause_on c.pattern c.fender c.output (clauses cs)

abbrev pub if_of : PlainCore → PlainCore → Option (Box PlainCore Global) → PlainCore
if_of c d None = one_armed c d
if_of c d (Some e) = two_armed c d e.value

abbrev pub seen : CoreNode → PlainCore
seen (node.Quote d) = quoted d
seen (node.Ref l) = variable l
seen (node.Prim o) = primitive o
seen (node.If c d e) = if_of c.value d.value e
seen (node.Set l c) = assignment l c.value
seen (node.Seq cs) = sequence (cores cs.items)
seen (node.Lambda c) = procedure_of c.value
seen (node.Letrec o is c) = letrec o (inits is.items) c.value
seen (node.App c cs) = call c.value (cores cs.items)
seen (node.Syntax t s) = instance t s
seen (node.SyntaxCase c cs s) = matching c.value (clauses cs.items) s

abbrev pub seen_code : CodeNo → List Lambda → Bool → PlainCode
seen_code n ls p = record { number = n; cases = cases ls; plain = p }
