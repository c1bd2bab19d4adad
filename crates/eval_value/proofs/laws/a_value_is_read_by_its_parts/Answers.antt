use Rattle.eval_value.proofs.Readings.{unrolled}
use Rattle.eval_value.proofs.laws.a_value_is_read_by_its_parts.Goals as goal

pub returns : goal.returns
returns c = unrolled
