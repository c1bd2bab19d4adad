use Rattle.stx_tree.specs.Leaves.{stamps_of}
use Rattle.stx_frames.proofs.FrameLaws.{label_by-other}
use Rattle.stx_scope.specs.Stands.{symbol_of}
use Rattle.stx_scope.proofs.laws.a_bind_stays_in_its_frame.Goals as goal

pub returns : goal.returns
returns c = λ fs f r t h. label_by-other fs f r (symbol_of t) (stamps_of t) h
