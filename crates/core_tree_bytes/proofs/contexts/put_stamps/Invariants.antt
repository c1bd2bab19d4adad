use Rattle.std.proofs.Common.{◌≡◌, ◌++◌, take, true}
use Rattle.std.specs.List.{flat_map, list_all}
use Rattle.core_codec.specs.Contexts as spell
use Rattle.core_tree_bytes.proofs.contexts.put_stamps.Given as goal

abbrev pub invariant-loop-stamp : goal.invariant-loop-stamp
invariant-loop-stamp l = (l.out.items ≡ l.initial.out.items ++ flat_map (spell.stamp).put (take l.stamp-index l.stamps)) × (list_all (spell.stamp).fits (take l.stamp-index l.stamps) ≡ true)
