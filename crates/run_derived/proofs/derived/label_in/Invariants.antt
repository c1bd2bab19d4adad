use Rattle.std.proofs.Common.{◌≡◌, drop}
use Rattle.load_import.specs.Names.{label_named}
use Rattle.run_derived.proofs.derived.label_in.Given as goal

abbrev pub invariant-loop-exported : goal.invariant-loop-exported
invariant-loop-exported l = label_named l.name (drop l.exported-index l.derived.exports) ≡ label_named l.name l.derived.exports
