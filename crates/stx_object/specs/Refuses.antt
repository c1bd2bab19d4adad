-- Why a call makes no tree.
use Rattle.std.specs.Prelude.{◌≡◌}
use Rattle.base_data.specs.declared.fault.BareStop.{BareStop}
use Rattle.base_data.specs.declared.fault.BareStop.TheVariants as stop
use Rattle.stx_tree.specs.Measures.{too_deep}

-- want of memory, or the fault of a tree that is not within the limits
abbrev pub Refuses : BareStop → Type 0 → Type 0
Refuses (stop.Fault f) P = (f ≡ too_deep) × (P → ⊥)
Refuses stop.Memory P = Unit {0}
