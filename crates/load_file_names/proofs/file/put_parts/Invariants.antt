use Rattle.std.proofs.Common.{◌≡◌, ◌++◌, drop}
use Rattle.std.specs.String.{string_bytes}
use Rattle.load_file_names.specs.File.{below}
use Rattle.load_file_names.proofs.file.put_parts.Given as goal

abbrev pub invariant-loop-part : goal.invariant-loop-part
invariant-loop-part l = string_bytes l.text ++ below (drop l.part-index l.parts) ≡ string_bytes l.initial.text ++ below l.parts
