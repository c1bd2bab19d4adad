use Rattle.law_load.proofs.LoadLemmas.{loads_all, loads_until}
use Rattle.law_load.proofs.only_imports_are_needed.Goals as goal

pub returns : goal.returns
returns c = record {
  libraries = λ files roots path program s h. let w = loads_all files roots path program s h in λ place file library at. (w.sound.stand place file library at).only;
  program = λ files roots path program s h. let w = loads_all files roots path program s h in w.stands.only;
  stopped = λ files roots path s f h. let w = loads_until files roots path s f h in λ place file library at. (w.stand place file library at).only;
}
