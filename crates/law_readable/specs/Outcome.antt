-- Settings, states and outcomes of an evaluation in which all can be written and read back.
use Rattle.eval_code.specs.Setting.{PlainSetting}
use Rattle.eval_code.specs.State.{WorldState, Outcome}
use Rattle.law_invariants.specs.Outcome.{SettingHolds}
use Rattle.law_invariants.specs.Steady.{SteadyState, SteadyOutcome}
use Rattle.law_readable.specs.Readable.{readable}

-- what an evaluation reads
abbrev pub ReadableSetting : PlainSetting → Type 0
ReadableSetting = SettingHolds readable

abbrev pub ReadableState : WorldState → Type 0
ReadableState = SteadyState readable

-- a value and the cells then
abbrev pub ReadableOutcome : Outcome → Type 0
ReadableOutcome = SteadyOutcome readable
