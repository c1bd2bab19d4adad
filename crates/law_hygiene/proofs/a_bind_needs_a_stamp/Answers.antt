use Rattle.law_hygiene.proofs.Adding.{elsewhere, other_symbol, label, there}
use Rattle.law_hygiene.proofs.a_bind_needs_a_stamp.Goals as goal

pub returns : goal.returns
returns c = record { elsewhere = elsewhere; other_symbol = other_symbol; label = label; there = there }
