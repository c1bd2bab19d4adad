use Rattle.std.proofs.Common.{◌≡◌, ◌++◌, take, true}
use Rattle.std.specs.List.{flat_map, list_all}
use Rattle.core_cache.specs.Entry as spell
use Rattle.core_cache.proofs.entry.put_sources.Given as goal

abbrev pub invariant-loop-source : goal.invariant-loop-source
invariant-loop-source l = (l.out.items ≡ l.initial.out.items ++ flat_map (spell.source).put (take l.source-index l.sources)) × (list_all (spell.source).fits (take l.source-index l.sources) ≡ true)
