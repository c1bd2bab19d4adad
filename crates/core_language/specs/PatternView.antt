-- What a pattern in memory stands for.
use Rattle.std.specs.Prelude.{Option, Some, None}
use Rattle.core_language.specs.Pattern.{PlainPattern, any, variable, literal, atom, list, vector, PlainPatterns, none, dots, patterns, patterns_on}
use Rattle.core_language.specs.declared.pattern.Elements.{Elements}
use Rattle.core_language.specs.declared.pattern.Repeated.{Repeated}
use Rattle.core_language.specs.declared.pattern.PatternNode.{PatternNode}
use Rattle.core_language.specs.declared.pattern.PatternNode.TheVariants as node

abbrev pub repeated_on : Option Repeated → PlainPatterns
repeated_on None = none
repeated_on (Some r) = dots r.pattern.value (patterns r.after.items)

abbrev pub elements_of : Elements → PlainPatterns
elements_of e = patterns_on e.before.items (repeated_on e.repeated)

abbrev pub seen : PatternNode → PlainPattern
seen node.Any = any
seen (node.Variable l) = variable l
seen (node.Literal t) = literal t
seen (node.Atom a) = atom a
seen (node.List elements tail) = list (elements_of elements) tail.value
seen (node.Vector elements) = vector (elements_of elements)
