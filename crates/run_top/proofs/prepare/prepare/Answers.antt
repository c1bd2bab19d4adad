use Rattle.run_top.proofs.FuelLemmas.{job_spends}
use Rattle.run_top.proofs.prepare.prepare.Goals as goal

pub returns-clause-fuel : goal.returns-clause-fuel
returns-clause-fuel g c =
    job_spends c.of_job.result (g.F.Files.told c.args.files.now) c.args.job.now c.args.tally.now.fuel c.prelude.new.tally.fuel c.of_job.new.tally.fuel c.in_ok-prelude.ensures.fuel c.of_job.ensures.fuel
