-- What a datum in memory stands for.
use Rattle.std.specs.Prelude.{Bool, true, false, ◌&&◌, List, [], ◌∷◌, Option}
use Rattle.base_data.specs.Datum.{PlainDatum, atom, symbol, vector, listed, chain, is_tail, nil}
use Rattle.base_data.specs.declared.span.Span.{Span}
use Rattle.base_data.specs.declared.datum.Node.{Node}
use Rattle.base_data.specs.declared.datum.Node.TheVariants as node

abbrev pub seen : Option Span → Node → PlainDatum
seen s (node.Atom a) = atom s a
seen s (node.Symbol x) = symbol s x
seen s (node.List items tail) = listed s items.items tail.value
seen s (node.Vector items) = vector s (chain items.items nil)

abbrev pub is_some_list : List PlainDatum → Bool
is_some_list [] = false
is_some_list (d ∷ ds) = true

-- a list has one or more elements, and a tail that is no list
abbrev pub is_proper : Node → Bool
is_proper (node.Atom a) = true
is_proper (node.Symbol x) = true
is_proper (node.List items tail) = is_some_list items.items && is_tail tail.value
is_proper (node.Vector items) = true
