-- What a read of files answers.
use Rattle.base_outside.specs.Contents.{Reading, bytes, longer, absent}
use Rattle.base_outside.specs.declared.files.FileAnswer.{FileAnswer}
use Rattle.base_outside.specs.declared.files.FileAnswer.TheVariants as answers

-- an answer, as what reading a path gives
abbrev pub file_reading : FileAnswer → Reading
file_reading (answers.Bytes held) = bytes held.items
file_reading answers.Longer = longer
file_reading answers.Absent = absent
