-- What a run has come to, one library after another.
use Rattle.std.specs.Coded.{Coded, code_by, coded_bool, coded_list, coded×}
use Rattle.std.specs.Prelude.{Bool, List, [], ◌∷◌, ◌++◌, refl}
use Rattle.core_language.specs.contracts.record.CompiledLibrary as of_record
use Rattle.core_language.specs.declared.record.CompiledLibrary.{CompiledLibrary}

-- the records so far, that of the derived library first, and which of the others were reused
pub record ReuseProgress : Type 0 where
  pub records : List CompiledLibrary
  pub reused : List Bool

abbrev pub progress_code : Coded ReuseProgress
progress_code =
    code_by (List CompiledLibrary × List Bool) (coded× (coded_list of_record.the_row.coded) (coded_list coded_bool))
    (λ p. (p.records, p.reused)) (λ q. record { records = q.0; reused = q.1 }) (λ _. refl)

abbrev pub begun : CompiledLibrary → ReuseProgress
begun derived = record { records = derived ∷ []; reused = [] }

abbrev pub with_record : ReuseProgress → CompiledLibrary → Bool → ReuseProgress
with_record p r reused = record { records = p.records ++ r ∷ []; reused = p.reused ++ reused ∷ [] }
