use Rattle.std.proofs.Common.{◌∙◌}
use Rattle.load_import.specs.declared.sources.ImportSource.{ImportSource}
use Rattle.load_import.proofs.SourceLemmas.{put_enough, whole_enough}
use Rattle.load_import.proofs.sources.add_source.Goals as goal

pub returns-clause-enough : goal.returns-clause-enough
returns-clause-enough c = λ all h.
    let put : ImportSource = record { exports = c.args.exports; fresh = c.in_ok-fresh.fresh } in
    put_enough c.args.library put c.args.sources.now.entries c.insert.new.self.entries c.in_ok-insert.ensures.updates.0 all h (whole_enough all put (c.in_ok-fresh.ensures ∙ c.names.ensures))
