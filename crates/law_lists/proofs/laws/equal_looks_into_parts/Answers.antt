use Rattle.law_lists.proofs.EqualLemmas.{is_equality, only_equality}
use Rattle.law_lists.proofs.laws.equal_looks_into_parts.Goals as goal

pub returns : goal.returns
returns c = record { is = is_equality; only = λ cells other x y w e f g. only_equality cells w other e x y f g }
