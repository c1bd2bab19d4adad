use Rattle.std.proofs.Common.{length}
use Rattle.base_data.proofs.map.+number.Given as goal

abbrev pub decreases-number : goal.decreases-number
decreases-number l = length l.bytes.now
