use Rattle.std.proofs.Common.{◌≡◌, ◌++◌, take, true}
use Rattle.std.specs.List.{flat_map, list_all}
use Rattle.base_bytes.specs.Codec.{◌then◌}
use Rattle.base_bytes.specs.Names.{label}
use Rattle.core_codec.specs.Records as spell
use Rattle.core_record_bytes.proofs.bindings.put_all.Given as goal

abbrev pub invariant-loop-row : goal.invariant-loop-row
invariant-loop-row l = (l.out.items ≡ l.initial.out.items ++ flat_map (label then spell.binding).put (take l.row-index l.bindings)) × (list_all (label then spell.binding).fits (take l.row-index l.bindings) ≡ true)
