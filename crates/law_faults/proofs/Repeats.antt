-- One step after another is refused exactly behind the parts that it goes over.
use Rattle.std.proofs.Common.{◌≡◌, ℕ, zero, suc, ◌+◌, ◌-◌, ◌<◌, Bool, true, false, cond, List, length, drop, Result, Ok, Err, ◌⊎◌, inl, inr, refl, sym, ap, ◌∙◌, arith, length-drop}
use Rattle.std.specs.Prelude.{◌==◌, ◌↔◌}
use Rattle.std.proofs.lemmas.Bool.Decides.{nat_tests}
use Rattle.base_data.specs.Gives.{◌>>=◌}
use Rattle.base_data.specs.declared.fault.Fault.{Fault}
use Rattle.read_lexer.specs.Repeat.{repeat, repeated}
use Rattle.law_faults.specs.Behind.{BadBehind}
use Rattle.law_faults.specs.Behind as behind
use Rattle.law_faults.proofs.Tests.{Explains}

differ : (at n : ℕ) → 0 < n → (at + n) == at ≡ false
differ at n h = grind (arith, nat_tests)

itself : (at : ℕ) → at == at ≡ true
itself at = grind (arith, nat_tests)

further_by : (at n : ℕ) → at + n - at ≡ n
further_by at n = omega arith

ok_not : (to : ℕ) (f : Fault) → ◌≡◌ {A = Result ℕ Fault} (Ok to) (Err f) → ⊥
ok_not to f e = cc

module _ (step : List ℕ → ℕ → Result ℕ Fault) (Part : List ℕ → ℕ → Type 0) (Bad : ℕ → List ℕ → Fault → Type 0)
    (sound : (bytes : List ℕ) (at to : ℕ) → step bytes at ≡ Ok to → (to ≡ at) ⊎ ((n : ℕ) × (to ≡ at + n) × Part bytes n))
    (complete : (bytes : List ℕ) (at n : ℕ) → Part bytes n → step bytes at ≡ Ok (at + n))
    (some : (bytes : List ℕ) (n : ℕ) → Part bytes n → (0 < n) × (0 < length bytes))
    (explained : (bytes : List ℕ) (at : ℕ) → Explains (Bad at bytes) (step bytes at))
    (refused : (at : ℕ) (bytes : List ℕ) (f : Fault) → Bad at bytes f → step bytes at ≡ Err f) where
  after_part : (k : ℕ) (bytes : List ℕ) (at mid : ℕ) (f : Fault) → length bytes < suc k
      → ((rest : List ℕ) (here : ℕ) → length rest < k → repeated step k rest here ≡ Err f → BadBehind Part Bad here rest f)
      → (mid ≡ at) ⊎ ((n : ℕ) × (mid ≡ at + n) × Part bytes n)
      → cond (mid == at) (Ok at) (repeated step k (drop (mid - at) bytes) mid) ≡ Err f → BadBehind Part Bad at bytes f
  after_part k bytes at mid f enough further (inl same) given = absurd (ok_not at f (rw (same, itself at) at given))
  after_part k bytes at mid f enough further (inr (n, same, part)) given =
      let left = some bytes n part in
      let e = rw (same, differ at n left.0, further_by at n) at given in
      behind.more at n bytes f part (further (drop n bytes) (at + n) (omega (arith, left.0, left.1, length-drop n bytes)) e)

  at_step : (k : ℕ) (bytes : List ℕ) (at : ℕ) (f : Fault) (r : Result ℕ Fault) → length bytes < suc k
      → ((rest : List ℕ) (here : ℕ) → length rest < k → repeated step k rest here ≡ Err f → BadBehind Part Bad here rest f)
      → step bytes at ≡ r → (r >>= λ mid. cond (mid == at) (Ok at) (repeated step k (drop (mid - at) bytes) mid)) ≡ Err f → BadBehind Part Bad at bytes f
  at_step k bytes at f (Err g) enough further is given = behind.here at bytes f ((explained bytes at).gives f (is ∙ given))
  at_step k bytes at f (Ok mid) enough further is given = after_part k bytes at mid f enough further (sound bytes at mid is) given

  within : (k : ℕ) (bytes : List ℕ) (at : ℕ) (f : Fault) → length bytes < k → repeated step k bytes at ≡ Err f → BadBehind Part Bad at bytes f
  unfolding repeated
  within zero bytes at f enough given = absurd (omega arith)
  within (suc k) bytes at f enough given = at_step k bytes at f (step bytes at) enough (λ rest here fewer e. within k rest here f fewer e) refl given

  stops_here : (bytes : List ℕ) (k at : ℕ) (f : Fault) → length bytes < k → Bad at bytes f → repeated step k bytes at ≡ Err f
  unfolding repeated
  stops_here bytes zero at f enough bad = absurd (omega arith)
  stops_here bytes (suc k) at f enough bad = rw (refused at bytes f bad) refl

  stops_later : (bytes : List ℕ) (size k at : ℕ) (f : Fault) → length bytes < k → Part bytes size
      → ((j : ℕ) → length (drop size bytes) < j → repeated step j (drop size bytes) (at + size) ≡ Err f) → repeated step k bytes at ≡ Err f
  unfolding repeated
  stops_later bytes size zero at f enough part further = absurd (omega arith)
  stops_later bytes size (suc k) at f enough part further =
      let left = some bytes size part in
      rw (complete bytes at size part, differ at size left.0, further_by at size) (further k (omega (arith, left.0, left.1, length-drop size bytes)))

  stops : (at : ℕ) (bytes : List ℕ) (f : Fault) → BadBehind Part Bad at bytes f → (k : ℕ) → length bytes < k → repeated step k bytes at ≡ Err f
  stops _ _ _ (behind.here at bytes f bad) k enough = stops_here bytes k at f enough bad
  stops _ _ _ (behind.more at size bytes f part rest) k enough = stops_later bytes size k at f enough part (λ j fewer. stops (at + size) (drop size bytes) f rest j fewer)

  -- repeating the step is refused exactly behind some parts
  pub stops_are : (bytes : List ℕ) (at : ℕ) (f : Fault) → (repeat step bytes at ≡ Err f) ↔ BadBehind Part Bad at bytes f
  stops_are bytes at f = (λ e. within (suc (length bytes)) bytes at f (omega arith) e, λ b. stops at bytes f b (suc (length bytes)) (omega arith))
