-- A version in memory: what it holds, and its calls, of which those with listed numbers fail.
use Rattle.std.specs.Prelude.{◌≡◌, ◌↔◌, ℕ, ◌==◌, Bool, IsTrue, if◌then◌else◌, List, Result, Err}
use Rattle.std.specs.List.{list_any}
use Rattle.base_outside.specs.Causes.{raised}
use Rattle.base_outside.specs.Contents.{Paths}
use Rattle.base_outside.specs.declared.causes.OutsideError.{OutsideError}
use Rattle.base_outside.specs.declared.causes.OutsideError.TheVariants.{Failed}

-- the numbers of the calls that fail, the number of the next call, and how many have failed
pub record CallRecord : Type 0 where
  pub fails : List ℕ
  pub next : ℕ
  pub faults : ℕ

-- the record before the first call
abbrev pub uncalled : List ℕ → CallRecord
uncalled fails = record { fails = fails; next = 0; faults = 0 }

-- the next call is listed
abbrev pub fails_now : CallRecord → Bool
fails_now calls = list_any (λ number. number == calls.next) calls.fails

-- the record after the next call
abbrev pub called : CallRecord → CallRecord
called calls = record {
  fails = calls.fails;
  next = raised calls.next;
  faults = if fails_now calls then raised calls.faults else calls.faults;
}

-- a failure that is no call of its own is counted
abbrev pub faulted : CallRecord → CallRecord
faulted calls = record { fails = calls.fails; next = calls.next; faults = raised calls.faults }

-- a call fails exactly where it is listed, and it is counted
pub record CountsCall {T : Type 0} (before : CallRecord) (result : Result T OutsideError) (after : CallRecord) : Type 0 where
  pub listed : (result ≡ Err Failed) ↔ IsTrue (fails_now before)
  pub counted : after ≡ called before

-- a finite map in memory, and its calls
pub record KeptMap : Type 0 where
  pub contents : Paths
  pub calls : CallRecord
