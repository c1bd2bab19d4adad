-- The trees of data whose symbols all get one context.
use Rattle.std.specs.Prelude.{Option, None}
use Rattle.base_data.specs.declared.span.Span.{Span}
use Rattle.base_data.specs.Datum.{PlainDatum, unspanned}
use Rattle.stx_tree.specs.Context.{LeafContext}
use Rattle.stx_tree.specs.Tree.{Tree}
use Rattle.stx_tree.specs.Leaves.{tree_of}
use Rattle.stx_object.specs.declared.leaves.Sample.{Sample}
use Rattle.stx_object.specs.declared.leaves.Spans.{Spans}
use Rattle.stx_object.specs.declared.leaves.Spans.TheVariants as spans

-- the context of a new leaf
abbrev pub sample_context : Sample → LeafContext
sample_context s = s.base

-- whether the spans of the data are kept
abbrev pub span_by : Spans → Option Span → Option Span
span_by spans.Keep s = s
span_by spans.Leave s = None

abbrev pub datum_by : Spans → PlainDatum → PlainDatum
datum_by spans.Keep d = d
datum_by spans.Leave d = unspanned d

abbrev pub grown_tree : Spans → Sample → PlainDatum → Tree
grown_tree b s d = tree_of (sample_context s) (datum_by b d)
