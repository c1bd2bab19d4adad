use Rattle.run_derived.specs.Names.{names_from}
use Rattle.run_derived.proofs.NameLemmas.{names_on, names_done}
use Rattle.run_derived.proofs.names.names_of.Goals as goal

pub loop-number-preserved : goal.loop-number-preserved
loop-number-preserved c = names_on c.args.definitions.now c.loop-number.number c.args.count c.loop-number.names c.push_name.new.names (names_from c.args.definitions.now 0 c.args.count) c.loop-number-test.true c.in_ok-push_name.ensures c.loop-number.invariant

pub returns : goal.returns
returns c = names_done c.args.definitions.now c.loop-number.number c.args.count c.loop-number.names (names_from c.args.definitions.now 0 c.args.count) c.loop-number-test.false c.loop-number.invariant
