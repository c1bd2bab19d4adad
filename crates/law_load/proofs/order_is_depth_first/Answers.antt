use Rattle.law_load.proofs.OrderLemmas.{in_order, the_order}
use Rattle.law_load.proofs.order_is_depth_first.Goals as goal

pub returns : goal.returns
returns c = record { follows = in_order; only = the_order }
