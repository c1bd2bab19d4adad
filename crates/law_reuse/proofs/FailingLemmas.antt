-- At most as many libraries are overlooked, or not kept, as calls of the store have failed.
use Rattle.std.proofs.Common.{◌≡◌, ℕ, ◌≤◌, ◌+◌, ◌-◌, ◌^◌, min, Bool, true, false, List, Option, Some, None, Result, refl, arith}
use Rattle.std.specs.Prelude.{is_some, nat_le, if◌then◌else◌}
use Rattle.base_data.specs.declared.fault.Fault.{Fault}
use Rattle.core_language.specs.declared.record.CompiledLibrary.{CompiledLibrary}
use Rattle.eval_code.specs.Codes.{Codes}
use Rattle.load_files.specs.declared.found.Found.{Found}
use Rattle.base_outside.specs.Causes.{Rose, raised}
use Rattle.run_reuse.specs.Entries.{CacheInputs}
use Rattle.run_reuse.specs.Turns.{StoreChange, changed, TurnState, stored, Misses, Quiet, ReuseTurn, reused, expanded, IsPut, put, too_long, unspelled, failed, ReuseTurns, done, next}
use Rattle.law_reuse.specs.Failing.{unput, overlooked, unkept, all_overlooked, all_unkept, AtMostRisen, FailuresAreCounted}

-- a count that can't but have risen has risen
rose_or : (a b : ℕ) → (Quiet a b → ⊥) → Rose a b
rose_or a b never = by (nat_le (raised a) b) refl
  where
    by : (x : Bool) → nat_le (raised a) b ≡ x → Rose a b
    by true e = grind (arith, e)
    by false e = absurd (never (λ rose. let no : nat_le (raised a) b ≡ true = grind (arith, rose) in absurd (cc)))

together : (a b c m n : ℕ) → min (a + m) (2 ^ 64 - 1) ≤ b → min (b + n) (2 ^ 64 - 1) ≤ c → min (a + (m + n)) (2 ^ 64 - 1) ≤ c
together a b c m n h k = omega (arith, h, k)

sorted : (a b c m n p q : ℕ) → min (a + (m + n)) (2 ^ 64 - 1) ≤ b → min (b + (p + q)) (2 ^ 64 - 1) ≤ c → min (a + (m + p + (n + q))) (2 ^ 64 - 1) ≤ c
sorted a b c m n p q h k = omega (arith, h, k)

first_of : (a b m n : ℕ) → min (a + (m + n)) (2 ^ 64 - 1) ≤ b → min (a + m) (2 ^ 64 - 1) ≤ b
first_of a b m n h = omega (arith, h)

second_of : (a b m n : ℕ) → min (a + (m + n)) (2 ^ 64 - 1) ≤ b → min (a + n) (2 ^ 64 - 1) ≤ b
second_of a b m n h = omega (arith, h)

none_more : (a b : ℕ) → a ≤ b → min (a + 0) (2 ^ 64 - 1) ≤ b
none_more a b h = omega (arith, h)

one_more : (a b : ℕ) → Rose a b → min (a + 1) (2 ^ 64 - 1) ≤ b
one_more a b h = omega (arith, h)

module _ (k : CacheInputs) (prelude : Result Codes Fault) where
  get_counted : (s : TurnState) (f : Found) (asked : ℕ) → s.faults ≤ asked → Misses k prelude s f asked → AtMostRisen s.faults (if is_some (stored k prelude s f) then 1 else 0) asked
  get_counted s f asked later misses = by (stored k prelude s f) refl
    where
      by : (o : Option CompiledLibrary) → stored k prelude s f ≡ o → AtMostRisen s.faults (if is_some o then 1 else 0) asked
      by None e = none_more s.faults asked later
      by (Some x) e = one_more s.faults asked (rose_or s.faults asked (λ quiet. let no = misses quiet in absurd (cc)))

  put_counted : (place : List ℕ) (change : StoreChange) (o : Option (List ℕ)) → change.faults_before ≤ change.faults_after → (p : IsPut place change o) → AtMostRisen change.faults_before (unput p) change.faults_after
  put_counted place change (Some piece) later (put short sets) = none_more change.faults_before change.faults_after later
  put_counted place change (Some piece) later (too_long long same) = none_more change.faults_before change.faults_after later
  put_counted place change None later (unspelled same) = none_more change.faults_before change.faults_after later
  put_counted place change (Some piece) later (failed rose others) = one_more change.faults_before change.faults_after rose

  -- a get that failed, and a put
  one_turn : (s t : TurnState) (f : Found) (turn : ReuseTurn k prelude s f t) → AtMostRisen s.faults (overlooked k prelude turn + unkept k prelude turn) t.faults
  one_turn s t f (reused r faults later found) = none_more s.faults faults later
  one_turn s t f (expanded r asked faults left later further misses made kept) =
      together s.faults asked faults (if is_some (stored k prelude s f) then 1 else 0) (unput kept) (get_counted s f asked later misses) (put_counted _ (changed s.store asked left faults) _ further kept)

  risen : (s last : TurnState) (fs : List Found) (turns : ReuseTurns k prelude s fs last) → AtMostRisen s.faults (all_overlooked k prelude turns + all_unkept k prelude turns) last.faults
  risen s last fs done = none_more s.faults s.faults (omega arith)
  risen s last fs (next {t = t} {f = f} {fs = rest} turn turns) =
      sorted s.faults t.faults last.faults (overlooked k prelude turn) (unkept k prelude turn) (all_overlooked k prelude turns) (all_unkept k prelude turns) (one_turn s t f turn) (risen t last rest turns)

  pub counted : (s last : TurnState) (fs : List Found) (turns : ReuseTurns k prelude s fs last) → FailuresAreCounted k prelude s last fs turns
  counted s last fs turns = record {
    overlooked = first_of s.faults last.faults (all_overlooked k prelude turns) (all_unkept k prelude turns) (risen s last fs turns);
    unkept = second_of s.faults last.faults (all_overlooked k prelude turns) (all_unkept k prelude turns) (risen s last fs turns);
    together = risen s last fs turns;
  }
