use Rattle.std.proofs.Common.{◌∙◌}
use Rattle.core_language.proofs.MemberLemmas.{any_by_label}
use Rattle.core_language.proofs.labels.is_among.Goals as goal

pub returns : goal.returns
returns c = c.contains.ensures.value ∙ any_by_label c.args.labels.now c.args.label.now
