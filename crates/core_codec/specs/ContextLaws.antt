-- The codecs of stamps, contexts and rows of frames are lawful.
use Rattle.std.proofs.Common.{refl}
use Rattle.base_bytes.specs.Laws.{Lawful, mapped-lawful, then-lawful, text-lawful, listed-lawful}
use Rattle.base_bytes.specs.NameLaws.{label-lawful, mark-lawful, frame-lawful}
use Rattle.core_codec.specs.Contexts.{stamp, context, frame_row}

pub stamp-lawful : Lawful stamp
unfolding stamp
stamp-lawful = mapped-lawful _ _ (λ p e. refl) (λ s. refl) (then-lawful frame-lawful (listed-lawful mark-lawful))

pub context-lawful : Lawful context
unfolding context
context-lawful = mapped-lawful _ _ (λ p e. refl) (λ s. refl) (then-lawful (listed-lawful mark-lawful) (listed-lawful stamp-lawful))

pub frame_row-lawful : Lawful frame_row
unfolding frame_row
frame_row-lawful = mapped-lawful _ _ (λ p e. refl) (λ s. refl)
    (then-lawful frame-lawful (then-lawful text-lawful (then-lawful (listed-lawful mark-lawful) label-lawful)))
