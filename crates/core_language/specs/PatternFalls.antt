-- A part of a pattern is smaller than it.
use Rattle.std.specs.Prelude.{◌+◌, ◌≤◌, max, List, [], ◌∷◌, Option, Some, None}
use Rattle.std.proofs.Common.{arith}
use denote.Param.Weighed.{most}
use Rattle.core_language.specs.Pattern.{PlainPattern, PlainPatterns, none, patterns, patterns_on, pattern_size, patterns_size, dots}
use Rattle.core_language.specs.PatternView.{seen, elements_of}
use Rattle.core_language.specs.declared.pattern.Elements.{Elements}
use Rattle.core_language.specs.declared.pattern.Repeated.{Repeated}
use Rattle.core_language.specs.declared.pattern.PatternNode.{PatternNode}
use Rattle.core_language.specs.declared.pattern.PatternNode.TheVariants as node
use Rattle.core_language.specs.declared.pattern.Pattern.TheDeep.{deep-PatternNode, deep-Elements}

pub most_below : (ps : List PlainPattern) (q : PlainPatterns) → most (λ p. pattern_size p + 1) ps ≤ patterns_size (patterns_on ps q)
most_below [] q = omega arith
most_below (p ∷ ps) q = omega (arith, most_below ps q)

pub rest_below : (ps : List PlainPattern) (q : PlainPatterns) → patterns_size q ≤ patterns_size (patterns_on ps q)
rest_below [] q = omega arith
rest_below (p ∷ ps) q = omega (arith, rest_below ps q)

pub elements_fall : (e : Elements) → deep-Elements e ≤ patterns_size (elements_of e)
elements_fall e = go e.repeated
  where
    go : (r : Option Repeated) → deep-Elements (record e { repeated = r }) ≤ patterns_size (elements_of (record e { repeated = r }))
    go None = omega (arith, most_below e.before.items none)
    go (Some r) = omega (
      arith,
      most_below e.before.items (dots r.pattern.value (patterns r.after.items)),
      rest_below e.before.items
          (dots r.pattern.value (patterns r.after.items)),
      most_below r.after.items none,
    )

pub seen_falls : (n : PatternNode) → max (deep-PatternNode n) 0 ≤ pattern_size (seen n)
seen_falls node.Any = omega arith
seen_falls (node.Variable l) = omega arith
seen_falls (node.Literal t) = omega arith
seen_falls (node.Atom a) = omega arith
seen_falls (node.List elements tail) = omega (arith, elements_fall elements)
seen_falls (node.Vector elements) = omega (arith, elements_fall elements)
