use Rattle.base_data.proofs.Chars.{decoded-some, decoded-fits}
use Rattle.run_xref.proofs.marks.char_size.Goals as goal

pub returns-in-Some-clause-some : goal.returns-in-Some-clause-some
returns-in-Some-clause-some c = rw c.decode-found.ensures.size (decoded-some c.args.bytes.now c.requires)

pub returns-in-Some-clause-fits : goal.returns-in-Some-clause-fits
returns-in-Some-clause-fits c = rw c.decode-found.ensures.size (decoded-fits c.args.bytes.now c.requires)
