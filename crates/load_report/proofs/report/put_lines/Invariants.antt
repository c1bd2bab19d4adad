use Rattle.std.proofs.Common.{◌≡◌, ◌++◌, drop}
use Rattle.std.specs.String.{string_bytes}
use Rattle.load_report.specs.Report.{report_text}
use Rattle.load_report.proofs.report.put_lines.Given as goal

abbrev pub invariant-loop-told : goal.invariant-loop-told
invariant-loop-told l = string_bytes l.out ++ report_text (drop l.told-index l.libraries) ≡ string_bytes l.initial.out ++ report_text l.libraries
