-- The law, for tests.
use Rattle.law_invariants.specs.Laws.{Tests, passing}
use Rattle.law_invariants.proofs.Families.{steady}
use Rattle.law_invariant_expansion.specs.Kept.{IsKeptByExpansion}
use Rattle.law_invariant_expansion.specs.Laws.{AreKeptByForms, ExpansionKeeps}
use Rattle.law_invariant_expansion.proofs.Recorded.{records-stay}

kept : (t : Tests) → AreKeptByForms t → IsKeptByExpansion (passing t)
kept t k = record { built = k.built; steady = steady t k.evaluation; insert = k.insert; ellipsis = k.ellipsis; records = k.records; clauses = λ p A m h. h; inserts = λ vs A d h. h; templates = λ c t x A h e k. k }

pub keeps : ExpansionKeeps
keeps t own records imports body codes r k = records-stay (passing t) (kept t k) own records imports body codes r
