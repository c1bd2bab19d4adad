use Rattle.law_run.proofs.KeptTransformers.{whole-have, uses-find, missing-is-stuck, forms-stay-whole, bodies-stay-whole}
use Rattle.law_run.proofs.memory.kept_transformers_have_cells.Goals as goal

pub returns : goal.returns
returns c = record { states = whole-have; uses = uses-find; missing = missing-is-stuck; forms = forms-stay-whole; bodies = bodies-stay-whole }
