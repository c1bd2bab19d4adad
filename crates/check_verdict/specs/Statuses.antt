-- The exit status of a check, as a number.
use Rattle.std.specs.Prelude.{ℕ}
use Rattle.check_verdict.specs.declared.status.CheckStatus.{CheckStatus}
use Rattle.check_verdict.specs.declared.status.CheckStatus.TheVariants as status

abbrev pub status_number : CheckStatus → ℕ
status_number status.Yes = 0
status_number status.No = 1
status_number status.Usage = 2
status_number status.ReadFault = 3
status_number status.WriteFault = 4
status_number status.Memory = 5
