-- What of a tree, a constant, a pattern and a template has a spelling, its names, spans, numbers and lengths aside.
use Rattle.std.specs.Prelude.{◌≡◌, ◌≤◌, true}
use Rattle.std.specs.Str.{IsUtf8}
use Rattle.base_data.specs.Datum.{PlainDatum}
use Rattle.core_codec.specs.Code.{has_one_dots}
use Rattle.stx_tree.specs.Leaves.{strip}
use Rattle.stx_tree.specs.Measures.{max_height, Fits}
use Rattle.stx_tree.specs.Tree.{Tree}
use Rattle.core_language.specs.Pattern as pattern
use Rattle.core_language.specs.Pattern.{PlainPattern, PlainPatterns}
use Rattle.core_language.specs.declared.record.CompiledLibrary.{CompiledLibrary}
use Rattle.law_core.specs.WellMade.{IsLeaf}
use Rattle.law_invariants.specs.Invariant.{Invariant}
use Rattle.law_invariant_expansion.specs.Records.{RecordHolds}
use Rattle.law_levels.specs.Levels.{pattern_levels, template_levels}
use Rattle.law_readable.specs.Readable.{ReadableAtom, ReadableTree}
use Rattle.law_round.specs.Readable.{IsName}
use Rattle.law_spellings.specs.Rests.{HasPlainRests}

-- within the limits of a tree, of texts and atoms that can be written, and with spans at no rest of a list
abbrev pub SpelledTree : Tree → Type 0
SpelledTree t = Fits t × (ReadableTree t × HasPlainRests t)

-- the datum of such a tree
abbrev pub SpelledDatum : PlainDatum → Type 0
SpelledDatum d = (t : Tree) × (SpelledTree t × (strip t ≡ d))

-- Literals are identifiers, and of some patterns one has an ellipsis at most.
abbrev mutual
  pub SpelledPattern : PlainPattern → Type 0
  SpelledPattern pattern.any = Unit {0}
  SpelledPattern (pattern.variable l) = Unit {0}
  SpelledPattern (pattern.literal t) = IsLeaf t × SpelledTree t
  SpelledPattern (pattern.atom a) = ReadableAtom a
  SpelledPattern (pattern.list ps q) = ((has_one_dots ps ≡ true) × EachSpelled ps) × SpelledPattern q
  SpelledPattern (pattern.vector ps) = (has_one_dots ps ≡ true) × EachSpelled ps

  pub EachSpelled : PlainPatterns → Type 0
  EachSpelled pattern.none = Unit {0}
  EachSpelled (pattern.more p ps) = SpelledPattern p × EachSpelled ps
  EachSpelled (pattern.dots p ps) = SpelledPattern p × EachSpelled ps

abbrev pub SpelledPatterns : PlainPatterns → Type 0
SpelledPatterns ps = (has_one_dots ps ≡ true) × EachSpelled ps

-- The invariant: so it is of all atoms, symbols, strings, trees and constants; and a pattern or a template has no more levels than a tree.
abbrev pub spelled : Invariant
spelled = record {
  atoms = ReadableAtom;
  symbols = IsName;
  texts = IsUtf8;
  trees = SpelledTree;
  constants = SpelledDatum;
  clauses = λ p A. ((pattern_levels p ≤ max_height) × SpelledPattern p) × A;
  templates = λ x A. (template_levels x ≤ max_height) × A;
}

abbrev pub SpelledRecord : CompiledLibrary → Type 0
SpelledRecord = RecordHolds spelled
