use Rattle.std.specs.Prelude.{refl}
use Rattle.law_hygiene.proofs.Using.{binder_of-entered, binder_of-left, binder_of-left_in_a_body}
use Rattle.law_hygiene.proofs.only_frames_bind.Goals as goal

pub returns : goal.returns
returns c = record { entered = binder_of-entered; left = binder_of-left; stamped = λ fs f s x d. refl; left_in_a_body = binder_of-left_in_a_body }
