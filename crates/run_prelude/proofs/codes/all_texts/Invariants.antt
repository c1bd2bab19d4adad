use Rattle.std.proofs.Common.{◌≡◌, [], drop, map, false}
use Rattle.base_data.specs.Act.{each}
use Rattle.run_prelude.specs.Prelude.{text_code}
use Rattle.run_prelude.proofs.codes.all_texts.Given as goal

abbrev pub invariant-loop-op : goal.invariant-loop-op
invariant-loop-op g l = (each text_code (map (λ c. c.value) l.codes) (map (λ o. o.0) (drop l.op-index l.ops)) l.expander.state ≡ each text_code [] (map (λ o. o.0) l.ops) l.fn.expander.state) × (l.expander.failed ≡ false)
