-- One step after another goes over exactly a row.
use Rattle.std.proofs.Common.{◌≡◌, ℕ, zero, suc, ◌+◌, ◌-◌, ◌<◌, Bool, true, false, cond, List, length, drop, Result, Ok, Err, ◌⊎◌, inl, inr, refl, sym, ap, ◌∙◌, arith, length-drop}
use Rattle.std.specs.Prelude.{◌==◌, ◌↔◌}
use Rattle.std.proofs.lemmas.Bool.Decides.{nat_tests}
use Rattle.base_data.specs.Gives.{◌>>=◌}
use Rattle.base_data.specs.declared.fault.Fault.{Fault}
use Rattle.read_lexer.specs.Repeat.{repeat, repeated}
use Rattle.read_lexer.specs.Row.{PartRow}

differ : (at n : ℕ) → 0 < n → (at + n) == at ≡ false
differ at n h = grind (arith, nat_tests)

itself : (at : ℕ) → at == at ≡ true
itself at = grind (arith, nat_tests)

behind : (at n : ℕ) → at + n - at ≡ n
behind at n = omega arith

module _ (ends : List ℕ → Bool) (Part : List ℕ → ℕ → Type 0) where
  -- a step stays where the row ends, or goes over one part
  abbrev pub StepsOver : List ℕ → ℕ → ℕ → Type 0
  StepsOver bytes at to = ((to ≡ at) × (ends bytes ≡ true)) ⊎ ((n : ℕ) × (to ≡ at + n) × Part bytes n)

module _ (step : List ℕ → ℕ → Result ℕ Fault) (ends : List ℕ → Bool) (Part : List ℕ → ℕ → Type 0)
    (sound : (bytes : List ℕ) (at to : ℕ) → step bytes at ≡ Ok to → StepsOver ends Part bytes at to)
    (complete : (bytes : List ℕ) (at n : ℕ) → Part bytes n → step bytes at ≡ Ok (at + n))
    (stays : (bytes : List ℕ) (at : ℕ) → ends bytes ≡ true → step bytes at ≡ Ok at)
    (some : (bytes : List ℕ) (n : ℕ) → Part bytes n → (0 < n) × (0 < length bytes)) where
  abbrev RowTo : List ℕ → ℕ → ℕ → Type 0
  RowTo bytes at to = (n : ℕ) × (to ≡ at + n) × PartRow ends Part bytes n

  row_mid : (k : ℕ) (bytes : List ℕ) (at mid to : ℕ) → length bytes < suc k
      → ((rest : List ℕ) (here : ℕ) → length rest < k → repeated step k rest here ≡ Ok to → RowTo rest here to)
      → StepsOver ends Part bytes at mid → cond (mid == at) (Ok at) (repeated step k (drop (mid - at) bytes) mid) ≡ Ok to → RowTo bytes at to
  row_mid k bytes at mid to enough further (inl (same, none)) given =
      let e = rw (same, itself at) at given in
      (0, (grind arith), PartRow.none bytes none)
  row_mid k bytes at mid to enough further (inr (n, same, part)) given =
      let left = some bytes n part in
      let e = rw (same, differ at n left.0, behind at n) at given in
      let r = further (drop n bytes) (at + n) (omega (arith, left.0, left.1, length-drop n bytes)) e in
      (n + r.0, omega (arith, r.1), PartRow.more bytes n r.0 part r.2)

  row_step : (k : ℕ) (bytes : List ℕ) (at to : ℕ) (r : Result ℕ Fault) → length bytes < suc k
      → ((rest : List ℕ) (here : ℕ) → length rest < k → repeated step k rest here ≡ Ok to → RowTo rest here to)
      → step bytes at ≡ r → (r >>= λ mid. cond (mid == at) (Ok at) (repeated step k (drop (mid - at) bytes) mid)) ≡ Ok to → RowTo bytes at to
  row_step k bytes at to (Err f) enough further is given = absurd (cc)
  row_step k bytes at to (Ok mid) enough further is given = row_mid k bytes at mid to enough further (sound bytes at mid is) given

  row_sound : (k : ℕ) (bytes : List ℕ) (at to : ℕ) → length bytes < k → repeated step k bytes at ≡ Ok to → RowTo bytes at to
  unfolding repeated
  row_sound zero bytes at to enough given = absurd (omega arith)
  row_sound (suc k) bytes at to enough given = row_step k bytes at to (step bytes at) enough (λ rest here fewer e. row_sound k rest here to fewer e) refl given

  row_here : (bytes : List ℕ) (k at : ℕ) → ends bytes ≡ true → repeated step k bytes at ≡ Ok at
  unfolding repeated
  row_here bytes zero at none = refl
  row_here bytes (suc k) at none = rw (stays bytes at none, itself at) refl

  row_further : (bytes : List ℕ) (size k at n : ℕ) → length bytes < k → Part bytes size
      → ((j : ℕ) → length (drop size bytes) < j → repeated step j (drop size bytes) (at + size) ≡ Ok (at + size + n))
      → repeated step k bytes at ≡ Ok (at + (size + n))
  unfolding repeated
  row_further bytes size zero at n enough part further = absurd (omega arith)
  row_further bytes size (suc k) at n enough part further =
      let left = some bytes size part in
      rw (complete bytes at size part, differ at size left.0, behind at size)
      (further k (omega (arith, left.0, left.1, length-drop size bytes)) ∙ ap Ok (omega arith))

  row_complete : (bytes : List ℕ) (n : ℕ) → PartRow ends Part bytes n → (k at : ℕ) → length bytes < k → repeated step k bytes at ≡ Ok (at + n)
  row_complete _ _ (PartRow.none bytes none) k at enough = row_here bytes k at none ∙ ap Ok (omega arith)
  row_complete _ _ (PartRow.more bytes size n part rest) k at enough =
      row_further bytes size k at n enough part (λ j fewer. row_complete (drop size bytes) n rest j (at + size) fewer)

  -- repeating the step goes over exactly a row of parts
  pub row_is : (bytes : List ℕ) (at to : ℕ) → (repeat step bytes at ≡ Ok to) ↔ ((n : ℕ) × (to ≡ at + n) × PartRow ends Part bytes n)
  row_is bytes at to = (
    λ e. row_sound (suc (length bytes)) bytes at to (omega arith) e,
    λ g. row_complete bytes g.0 g.2 (suc (length bytes)) at (omega arith) ∙ ap Ok (sym g.1),
  )
