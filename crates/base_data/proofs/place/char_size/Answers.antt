use Rattle.base_data.proofs.Chars.{decoded-some, decoded-fits}
use Rattle.base_data.proofs.place.char_size.Goals as goal

pub returns-in-Some-clause-some : goal.returns-in-Some-clause-some
returns-in-Some-clause-some c = λ h. rw c.decode-found.ensures.size (decoded-some c.args.bytes.now h)

pub returns-in-Some-clause-fits : goal.returns-in-Some-clause-fits
returns-in-Some-clause-fits c = λ h. rw c.decode-found.ensures.size (decoded-fits c.args.bytes.now h)
