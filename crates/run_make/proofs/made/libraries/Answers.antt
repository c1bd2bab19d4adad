use Rattle.run_make.specs.Made.{libraries, paths_of}
use Rattle.run_make.proofs.Counting.{libraries_on, libraries_done}
use Rattle.run_make.proofs.made.libraries.Goals as goal

pub loop-number-preserved : goal.loop-number-preserved
loop-number-preserved c = libraries_on c.loop-number.number c.args.count (paths_of c.loop-number.files.items) (paths_of c.add_library.new.files.items) (libraries 0 c.args.count) c.loop-number-test.true c.in_ok-add_library.ensures c.loop-number.invariant

pub returns : goal.returns
returns c = libraries_done c.loop-number.number c.args.count (paths_of c.loop-number.files.items) (libraries 0 c.args.count) c.loop-number-test.false c.loop-number.invariant
