-- What closed core code mentions and doesn't bind is given.
use Rattle.std.specs.Prelude.{List}
use Rattle.base_data.specs.Elements.{Each, Among}
use Rattle.base_data.specs.declared.name.Label.{Label}
use Rattle.core_language.specs.Core.{PlainCore}
use Rattle.core_language.specs.References.{references}
use Rattle.law_core.specs.Scope.{Closed}

abbrev pub ReferencesAreGiven : Type 0
ReferencesAreGiven = (ls : List Label) (c : PlainCore) → Closed ls c → Each (Among ls) (references c)
