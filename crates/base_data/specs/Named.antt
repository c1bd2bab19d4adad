-- A name as it is meant: a library and a number.
use Rattle.std.specs.Prelude.{ℕ, refl}
use Rattle.std.specs.Coded.{Coded, code_by, coded×, coded_ℕ}
use Rattle.base_data.specs.declared.library.LibName.{LibName}
use Rattle.base_data.specs.contracts.library.LibName as library

pub record Named : Type 0 where
  pub library : LibName
  pub number : ℕ

abbrev pub named_code : Coded Named
named_code = code_by (LibName × ℕ) (coded× library.the_row.coded coded_ℕ) (λ n. (n.library, n.number)) (λ p. record { library = p.0; number = p.1 }) (λ _. refl)
