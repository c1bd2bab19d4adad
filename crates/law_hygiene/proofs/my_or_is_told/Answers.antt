use Rattle.std.specs.Prelude.{refl}
use Rattle.law_hygiene.proofs.my_or_is_told.Goals as goal

pub returns : goal.returns
returns c = record { came_in = refl; introduced = refl; kept = refl; mixed_up = refl }
