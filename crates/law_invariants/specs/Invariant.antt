-- An invariant of what programs are made of: what is asked of every atom, symbol, string, tree and constant, of every clause and of every
-- template.
use Rattle.std.specs.Prelude.{ℕ, List, Option, None, Some}
use Rattle.base_data.specs.Datum as datum
use Rattle.base_data.specs.Datum.{PlainDatum}
use Rattle.base_data.specs.declared.atom.Atom.{Atom}
use Rattle.stx_tree.specs.Tree.{Tree}
use Rattle.core_language.specs.Pattern.{PlainPattern}
use Rattle.core_language.specs.Template.{PlainTemplate}

-- of what may not be there
abbrev pub OptionHolds : {A : Type 0} → (A → Type 0) → Option A → Type 0
OptionHolds P None = Unit {0}
OptionHolds P (Some x) = P x

-- A tree is a syntax object or the constant of a template, a constant the datum of a `quote`; symbols and strings are their UTF-8 text. What
-- is asked of a clause of `syntax-case` may speak of its pattern, beside what is asked of its code; and what is asked of a `syntax` form may
-- speak of its template, beside what is asked of the trees there.
pub record Invariant : Type 1 where
  pub atoms : Atom → Type 0
  pub symbols : List ℕ → Type 0
  pub texts : List ℕ → Type 0
  pub trees : Tree → Type 0
  pub constants : PlainDatum → Type 0
  pub clauses : PlainPattern → Type 0 → Type 0
  pub templates : PlainTemplate → Type 0 → Type 0

-- what it asks of a datum's atoms and symbols
abbrev pub DatumHolds : Invariant → PlainDatum → Type 0
DatumHolds I (datum.atom s x) = I.atoms x
DatumHolds I (datum.symbol s x) = I.symbols x
DatumHolds I (datum.pair s d e) = DatumHolds I d × DatumHolds I e
DatumHolds I (datum.vector s d) = DatumHolds I d
