use Rattle.stx_frames.proofs.ApartLaws.{given_are_adopted}
use Rattle.stx_frames.proofs.laws.given_frames_are_adopted.Goals as goal

pub returns : goal.returns
returns c = given_are_adopted
