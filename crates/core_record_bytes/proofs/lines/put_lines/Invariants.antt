use Rattle.std.proofs.Common.{◌≡◌, ◌++◌, take, true}
use Rattle.std.specs.List.{flat_map, list_all}
use Rattle.core_codec.specs.Records as spell
use Rattle.core_record_bytes.proofs.lines.put_lines.Given as goal

abbrev pub invariant-loop-line : goal.invariant-loop-line
invariant-loop-line l = (l.out.items ≡ l.initial.out.items ++ flat_map (spell.line).put (take l.line-index l.lines)) × (list_all (spell.line).fits (take l.line-index l.lines) ≡ true)
