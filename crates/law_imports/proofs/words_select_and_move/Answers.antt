use Rattle.std.specs.Prelude.{[]}
use Rattle.load_import.specs.Names.{renamed}
use Rattle.law_imports.proofs.AlgebraLemmas.{value-only, value-except, value-prefixed, has-joined}
use Rattle.law_imports.proofs.words_select_and_move.Goals as goal

pub returns : goal.returns
returns c = record { only = value-only; except = value-except; prefix = value-prefixed; rename = λ span rs names r h. has-joined span [] (renamed rs names) r h }
