-- A generated name is read as it is, whatever its symbol is.
use Rattle.std.proofs.Common.{ℕ, List, refl, sym, subst}
use Rattle.base_data.specs.declared.library.LibName.{LibName}
use Rattle.core_naming.specs.Generated.{generated_name}
use Rattle.law_names.proofs.AnyName.{rest_of_name, any_rest}
use Rattle.law_names.proofs.Reading.{read_itself}
use Rattle.law_names.proofs.Telling.{name_is}
use Rattle.law_run.specs.Names.{IsWrittenName}

pub name_written : (l : LibName) (x : List ℕ) (n : ℕ) → IsWrittenName (generated_name l x n)
name_written l x n = subst IsWrittenName (sym (name_is l x n)) (record { rest = rest_of_name l x n; begins = refl; read = λ file nesting. read_itself file nesting (rest_of_name l x n) (any_rest l x n) })
