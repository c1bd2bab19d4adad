use Rattle.std.proofs.Common.{sym, ◌∙◌}
use Rattle.eval_pattern.proofs.Sizes.{rest_smaller}
use Rattle.eval_pattern.proofs.front.tree_front.Goals as goal

pub more-smaller : goal.more-smaller
more-smaller c = rest_smaller c.more.rest c.in-Some.split (sym c.in_ok-split.ensures ∙ c.in-Some.is)
