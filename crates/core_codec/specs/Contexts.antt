-- The codecs of stamps, contexts and rows of frames.
use Rattle.base_bytes.specs.Codec.{Codec, text, mapped, ◌then◌, listed}
use Rattle.base_bytes.specs.Names.{label, mark, frame}
use Rattle.stx_tree.specs.Context.{LeafContext}
use Rattle.stx_tree.specs.declared.frame_row.FrameRow.{FrameRow}
use Rattle.stx_tree.specs.declared.stamp.Stamp.{Stamp}

unfoldable pub stamp : Codec Stamp
stamp = mapped (λ s. (s.frame, s.marks)) (λ p. record { frame = p.0; marks = p.1 }) (frame then listed mark)

unfoldable pub context : Codec LeafContext
context = mapped (λ c. (c.marks, c.stamps)) (λ p. record { marks = p.0; stamps = p.1 }) (listed mark then listed stamp)

unfoldable pub frame_row : Codec FrameRow
frame_row = mapped
    (λ r. (r.frame, (r.symbol, (r.marks, r.label))))
    (λ p. record { frame = p.0; symbol = p.1.0; marks = p.1.1.0; label = p.1.1.1 })
    (frame then text then listed mark then label)
