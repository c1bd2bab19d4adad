use Rattle.std.proofs.Common.{sym}
use Rattle.load_import.proofs.SourceLemmas.{kept_names, kept_enough}
use Rattle.load_import.proofs.sources.keep_fresh.Goals as goal

pub returns-clause-names : goal.returns-clause-names
returns-clause-names c =
    kept_names c.args.library.now c.in-Some.source.now c.args.fresh c.args.sources.now.entries _ (sym c.in-Some.ensures.value) (c.get_mut.follows.holds (record { exports = c.in-Some.source.now.exports; fresh = c.args.fresh })).0

pub returns-clause-enough : goal.returns-clause-enough
returns-clause-enough c = λ all h enough.
    kept_enough c.args.library.now c.in-Some.source.now c.args.fresh c.args.sources.now.entries _ (sym c.in-Some.ensures.value) (c.get_mut.follows.holds (record { exports = c.in-Some.source.now.exports; fresh = c.args.fresh })).0
    all h (enough c.in-Some.source.now (sym c.in-Some.ensures.value))
