-- A part of core code is smaller than it.
use Rattle.std.specs.Prelude.{◌+◌, ◌≤◌, max, List, [], ◌∷◌, Option, Some, None}
use Rattle.std.proofs.Common.{arith}
use denote.Param.Weighed.{most}
use Rattle.core_language.specs.Core.{PlainCore, core_size, cores_size, inits_size, cases_size, clauses_size, cores}
use Rattle.core_language.specs.CoreView.{seen, inits, cases, clauses}
use Rattle.core_language.specs.declared.code.Init.{Init}
use Rattle.core_language.specs.declared.code.Lambda.{Lambda}
use Rattle.core_language.specs.declared.code.Clause.{Clause}
use Rattle.core_language.specs.declared.code.CoreNode.{CoreNode}
use Rattle.core_language.specs.declared.code.CoreNode.TheVariants as node
use Rattle.core_language.specs.declared.code.Code.TheDeep.{deep-CoreNode, deep-Init, deep-Lambda, deep-Clause}

pub cores_fall : (cs : List PlainCore) → most (λ c. core_size c + 1) cs ≤ cores_size (cores cs)
cores_fall [] = omega arith
cores_fall (c ∷ cs) = omega (arith, cores_fall cs)

pub inits_fall : (is : List Init) → most deep-Init is ≤ inits_size (inits is)
inits_fall [] = omega arith
inits_fall (i ∷ is) = omega (arith, inits_fall is)

pub cases_fall : (ls : List Lambda) → most deep-Lambda ls ≤ cases_size (cases ls)
cases_fall [] = omega arith
cases_fall (l ∷ ls) = omega (arith, cases_fall ls)

clause_falls : (c : Clause) (cs : List Clause) → most deep-Clause cs ≤ clauses_size (clauses cs) → most deep-Clause (c ∷ cs) ≤ clauses_size (clauses (c ∷ cs))
clause_falls c cs h = go c.fender
  where
    go : (f : Option PlainCore) → most deep-Clause (record c { fender = f } ∷ cs) ≤ clauses_size (clauses (record c { fender = f } ∷ cs))
    go None = omega (arith, h)
    go (Some f) = omega (arith, h)

pub clauses_fall : (cs : List Clause) → most deep-Clause cs ≤ clauses_size (clauses cs)
clauses_fall [] = omega arith
clauses_fall (c ∷ cs) = clause_falls c cs (clauses_fall cs)

pub seen_falls : (n : CoreNode) → max (deep-CoreNode n) 0 ≤ core_size (seen n)
seen_falls (node.Quote d) = omega arith
seen_falls (node.Ref l) = omega arith
seen_falls (node.Prim o) = omega arith
seen_falls (node.If c d None) = omega arith
seen_falls (node.If c d (Some e)) = omega arith
seen_falls (node.Set l c) = omega arith
seen_falls (node.Seq cs) = omega (arith, cores_fall cs.items)
seen_falls (node.Lambda c) = omega arith
seen_falls (node.Letrec o is c) = omega (arith, inits_fall is.items)
seen_falls (node.App c cs) = omega (arith, cores_fall cs.items)
seen_falls (node.Syntax t s) = omega arith
seen_falls (node.SyntaxCase c cs s) = omega (arith, clauses_fall cs.items)
