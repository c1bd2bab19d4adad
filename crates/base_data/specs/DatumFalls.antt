-- A part of a datum is smaller than it.
use Rattle.std.specs.Prelude.{◌≡◌, ◌+◌, ◌≤◌, List, [], ◌∷◌, max, Option, IsTrue, ◌&&◌, refl}
use Rattle.std.proofs.Common.{arith}
use denote.Param.Weighed.{most}
use Rattle.base_data.specs.Datum.{PlainDatum, atom, symbol, pair, vector, datum_size, spanned, chain, is_tail, nil}
use Rattle.base_data.specs.DatumView.{seen, is_proper, is_some_list}
use Rattle.base_data.specs.declared.datum.Node.{Node}
use Rattle.base_data.specs.declared.datum.Node.TheVariants as node
use Rattle.base_data.specs.declared.span.Span.{Span}
use Rattle.base_data.specs.declared.datum.Datum.TheDeep.{deep-Node}

pub most_below : (ds : List PlainDatum) (t : PlainDatum) → most (λ d. datum_size d + 1) ds ≤ datum_size (chain ds t)
most_below [] t = omega arith
most_below (d ∷ ds) t = omega (arith, most_below ds t)

pub tail_below : (d : PlainDatum) (ds : List PlainDatum) (t : PlainDatum) → datum_size t + 1 ≤ datum_size (chain (d ∷ ds) t)
tail_below d [] t = omega arith
tail_below d (e ∷ ds) t = omega (arith, tail_below e ds t)

pub size-spanned : (s : Option Span) (d : PlainDatum) → datum_size (spanned s d) ≡ datum_size d
size-spanned s (atom r a) = refl
size-spanned s (symbol r x) = refl
size-spanned s (pair r d e) = refl
size-spanned s (vector r d) = refl

behind : (ds : List PlainDatum) (t : PlainDatum) → IsTrue (is_some_list ds && is_tail t) → datum_size t + 1 ≤ datum_size (chain ds t)
behind [] t h = absurd (cc)
behind (d ∷ ds) t h = tail_below d ds t

pub seen_falls : (s : Option Span) (n : Node) → IsTrue (is_proper n) → max (deep-Node n) 0 ≤ datum_size (seen s n)
seen_falls s (node.Atom a) h = omega arith
seen_falls s (node.Symbol x) h = omega arith
seen_falls s (node.List items tail) h = omega (arith, most_below items.items tail.value, behind items.items tail.value h, size-spanned s (chain items.items tail.value))
seen_falls s (node.Vector items) h = omega (arith, most_below items.items nil)
