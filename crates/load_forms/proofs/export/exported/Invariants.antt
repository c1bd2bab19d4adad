use Rattle.std.proofs.Common.{◌≡◌, [], drop}
use Rattle.load_import.specs.Turns.{turns}
use Rattle.load_forms.specs.Export.{add_export}
use Rattle.load_forms.proofs.export.exported.Given as goal

abbrev pub invariant-loop-export : goal.invariant-loop-export
invariant-loop-export l = turns add_export l.names (drop l.export-index l.exports) ≡ turns add_export [] l.exports
