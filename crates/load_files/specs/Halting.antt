-- Why loading stops.
use Rattle.base_data.specs.declared.fault.Stop.{Stop}
use Rattle.base_data.specs.declared.fault.Stop.TheVariants as stop
use Rattle.base_outside.specs.declared.causes.OutsideError.{OutsideError}
use Rattle.base_outside.specs.declared.causes.OutsideError.TheVariants as outside
use Rattle.load_files.specs.declared.halt.LoadHalt.{LoadHalt}
use Rattle.load_files.specs.declared.halt.LoadHalt.TheVariants as halt

abbrev pub halt_of_stop : Stop → LoadHalt
halt_of_stop (stop.Fault f) = halt.Fault f
halt_of_stop stop.Memory = halt.Memory

abbrev pub halt_of_outside : OutsideError → LoadHalt
halt_of_outside outside.Failed = halt.Read
halt_of_outside outside.Memory = halt.Memory
