use Rattle.std.proofs.Common.{◌≡◌, ◌++◌, take}
use Rattle.std.specs.List.{flat_map, list_all}
use Rattle.std.specs.Prelude.{true}
use Rattle.base_bytes.proofs.spelled.put_all.Given as goal

abbrev pub invariant-loop-item : goal.invariant-loop-item
invariant-loop-item g l = (l.out.items ≡ l.initial.out.items ++ flat_map g.T.Spelled.codec.put (take l.item-index l.items)) × (list_all g.T.Spelled.codec.fits (take l.item-index l.items) ≡ true)
