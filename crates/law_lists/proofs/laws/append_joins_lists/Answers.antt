use Rattle.law_lists.proofs.RunLemmas.{appended, appended_nothing}
use Rattle.law_lists.proofs.laws.append_joins_lists.Goals as goal

pub returns : goal.returns
returns c = record { lists = λ cells xss args last w r. appended cells w last r; nothing = appended_nothing }
