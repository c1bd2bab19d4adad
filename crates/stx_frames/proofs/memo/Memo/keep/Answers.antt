use Rattle.std.proofs.Common.{inl, inr, ⊎_elim}
use Rattle.stx_frames.proofs.memo.Memo.keep.Goals as goal

pub returns : goal.returns
returns c = λ k h. ⊎_elim (λ x. inl (c.make_room.ensures k x)) (λ x. inr x) (c.put.ensures k h)
