use Rattle.run_reuse.proofs.Sealed.{sealed_fits}
use Rattle.run_reuse.proofs.entry.record_sealed.Goals as goal

pub returns : goal.returns
returns c = sealed_fits c.args.roots.now c.args.sources.now c.args.chosen.now c.args.bytes.now c.sealed_record.result c.sealed_record.ensures
