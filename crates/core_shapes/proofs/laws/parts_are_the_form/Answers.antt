use Rattle.core_shapes.proofs.WrittenLaws.{form_back}
use Rattle.core_shapes.proofs.laws.parts_are_the_form.Goals as goal

pub returns : goal.returns
returns c = form_back
