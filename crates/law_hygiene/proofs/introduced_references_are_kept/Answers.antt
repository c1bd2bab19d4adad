use Rattle.law_hygiene.proofs.Using.{brought_in, as_before, in_one_frame}
use Rattle.law_hygiene.proofs.introduced_references_are_kept.Goals as goal

pub returns : goal.returns
returns c = record { own_or_as_before = λ m f xs t h d fs. brought_in m f t h xs d fs; as_before = as_before; in_one_frame = in_one_frame }
