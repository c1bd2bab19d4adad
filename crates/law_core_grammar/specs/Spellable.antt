-- Which core code has a spelling that can be read.
use Rattle.std.specs.Prelude.{ℕ, List, [], ◌∷◌}
use Rattle.std.specs.List.{flat_map}
use Rattle.base_data.specs.Datum.{PlainDatum}
use Rattle.base_data.specs.Elements.{Each}
use Rattle.base_data.specs.declared.name.Label.{Label}
use Rattle.core_language.specs.Core.{PlainCore, quoted}
use Rattle.core_language.specs.References.{binders, mentions}
use Rattle.core_language.specs.declared.record.Line.{Line}
use Rattle.law_core.specs.Parts.{parts, ops}
use Rattle.law_core.specs.Records.{line_core, line_labels}
use Rattle.law_core.specs.WellMade.{HasForm}
use Rattle.core_output.specs.CoreText.{VariableNames}
use Rattle.law_core_grammar.specs.Names.{IsCalled, IsPrimitive}
use Rattle.law_round.specs.Readable.{IsReadable}

abbrev pub HasName : VariableNames → Label → Type 0
HasName names l = (x : List ℕ) × IsCalled names l x

-- what it binds and mentions has names, each expression in it is of its form, and its primitives are no keywords
pub record IsSpellable (names : VariableNames) (c : PlainCore) : Type 0 where
  pub bound : Each (HasName names) (binders c)
  pub mentioned : Each (HasName names) (mentions c)
  pub forms : Each HasForm (parts c)
  pub primitives : Each IsPrimitive (ops c)

-- the variable that it defines has a name too
pub record IsLineSpellable (names : VariableNames) (l : Line) : Type 0 where
  pub defined : Each (HasName names) (line_labels l)
  pub code : IsSpellable names (line_core l)

-- where some number of forms may be nested
abbrev pub CanBeRead : PlainDatum → Type 0
CanBeRead d = (n : ℕ) × IsReadable n d

abbrev pub own_constant : PlainCore → List PlainDatum
own_constant (quoted d) = d ∷ []
own_constant _ = []

-- the constants in core code
abbrev pub constants : PlainCore → List PlainDatum
constants c = flat_map own_constant (parts c)
