-- What a store answers, and what that is for a library.
use Rattle.std.proofs.Common.{◌≡◌, ℕ, Bool, true, false, List, length, Option, Some, None, Result, Ok, Err, refl, sym, ap, ◌∙◌}
use Rattle.std.specs.Prelude.{nat_lt, if◌then◌else◌, IfSome, IfOk}
use Rattle.base_data.specs.declared.memory.Memory.{Memory}
use Rattle.core_language.specs.declared.record.CompiledLibrary.{CompiledLibrary}
use Rattle.load_files.specs.declared.found.Found.{Found}
use Rattle.base_outside.specs.Causes.{Rose}
use Rattle.base_outside.specs.Contents.{Paths, at_path, bytes, longer, absent, read_of}
use Rattle.run_reuse.specs.Entries.{CacheInputs, entry_limit, entry_in, if_fits, if_short, if_suits}
use Rattle.run_reuse.specs.Turns.{Asked}
use Rattle.run_reuse.proofs.Told.{if_told, if_any}

record WasFound (r : Option (List ℕ)) (max : ℕ) (held : List ℕ) : Type 0 where
  pub is : r ≡ Some held
  pub short : nat_lt max (length held) ≡ false

was_found : (r : Option (List ℕ)) (max : ℕ) (held : List ℕ) → bytes held ≡ read_of r max → WasFound r max held
was_found None max held h = absurd (cc)
was_found (Some x) max held h = by (nat_lt max (length x)) refl h
  where
    by : (b : Bool) → nat_lt max (length x) ≡ b → bytes held ≡ (if b then longer else bytes x) → WasFound (Some x) max held
    by true e g = absurd (cc)
    by false e g = let same : held ≡ x = cc in record { is = ap (λ y. Some y) (sym same); short = ap (λ y. nat_lt max (length y)) same ∙ e }

module _ (k : CacheInputs) (records : List CompiledLibrary) (f : Found) where
  -- the record in what is held
  abbrev in_held : List ℕ → Option CompiledLibrary
  in_held held = if_suits records f (if_fits k f (entry_in held))

  pub found_is : (r : Option (List ℕ)) (held : List ℕ) → bytes held ≡ read_of r entry_limit → if_suits records f (if_fits k f (entry_in held)) ≡ if_short k records f r
  found_is r held h =
      let w = was_found r entry_limit held h in
      sym (ap (if_short k records f) w.is ∙ ap (λ b. if b then None else in_held held) w.short)

  pub longer_is : (r : Option (List ℕ)) → longer ≡ read_of r entry_limit → if_short k records f r ≡ None
  longer_is None h = absurd (cc)
  longer_is (Some x) h = by (nat_lt entry_limit (length x)) h
    where
      by : (b : Bool) → longer ≡ (if b then longer else bytes x) → (if b then None else in_held x) ≡ None
      by true g = refl
      by false g = absurd (cc)

  pub absent_is : (r : Option (List ℕ)) → absent ≡ read_of r entry_limit → if_short k records f r ≡ None
  absent_is None h = refl
  absent_is (Some x) h = by (nat_lt entry_limit (length x)) h
    where
      by : (b : Bool) → absent ≡ (if b then longer else bytes x) → (if b then None else in_held x) ≡ None
      by true g = refl
      by false g = absurd (cc)

pub asked_of : (o stored : Option CompiledLibrary) (before after : ℕ) → o ≡ stored → Asked (Ok o) before after stored
asked_of None stored before after e = λ q. sym e
asked_of (Some r) stored before after e = sym e

-- what a call for the entry in a place answers
module _ (told : Option Paths) (k : CacheInputs) (records : List CompiledLibrary) (f : Found) (place : List ℕ) (before after : ℕ) where
  abbrev stored_at : Paths → Option CompiledLibrary
  stored_at x = if_short k records f (at_path x place)

  pub asked_found : (held : List ℕ) (result : Result (Option CompiledLibrary) Memory) → IfSome told (λ x. bytes held ≡ read_of (at_path x place) entry_limit)
      → IfOk result (λ o. o ≡ if_suits records f (if_fits k f (entry_in held))) → IfSome told (λ x. Asked result before after (stored_at x))
  asked_found held (Ok o) h is =
      if_told told (λ x. bytes held ≡ read_of (at_path x place) entry_limit) (λ x. Asked (Ok o) before after (stored_at x))
      (λ x e. asked_of o (stored_at x) before after (is ∙ found_is k records f (at_path x place) held e)) h
  asked_found held (Err memory) h is = if_told told (λ x. bytes held ≡ read_of (at_path x place) entry_limit) (λ x. Asked (Err memory) before after (stored_at x)) (λ x e. tt) h

  pub asked_longer : IfSome told (λ x. longer ≡ read_of (at_path x place) entry_limit) → IfSome told (λ x. Asked (Ok None) before after (stored_at x))
  asked_longer h =
      if_told told (λ x. longer ≡ read_of (at_path x place) entry_limit) (λ x. Asked (Ok None) before after (stored_at x)) (λ x e quiet. longer_is k records f (at_path x place) e) h

  pub asked_absent : IfSome told (λ x. absent ≡ read_of (at_path x place) entry_limit) → IfSome told (λ x. Asked (Ok None) before after (stored_at x))
  asked_absent h =
      if_told told (λ x. absent ≡ read_of (at_path x place) entry_limit) (λ x. Asked (Ok None) before after (stored_at x)) (λ x e quiet. absent_is k records f (at_path x place) e) h

  pub asked_failed : Rose before after → IfSome told (λ x. Asked (Ok None) before after (stored_at x))
  asked_failed rose = if_any told (λ x. Asked (Ok None) before after (stored_at x)) (λ x quiet. absurd (quiet rose))

  pub asked_lost : (memory : Memory) → IfSome told (λ x. Asked (Err memory) before after (stored_at x))
  asked_lost memory = if_any told (λ x. Asked (Err memory) before after (stored_at x)) (λ x. tt)
