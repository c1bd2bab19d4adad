use Rattle.law_load.proofs.LoadLemmas.{loads_all, loads_until}
use Rattle.law_load.proofs.needs_are_closed.Goals as goal

pub returns : goal.returns
returns c = record {
  libraries = λ files roots path program s h. let w = loads_all files roots path program s h in λ place file library at. (w.sound.stand place file library at).closed;
  program = λ files roots path program s h. let w = loads_all files roots path program s h in w.stands.closed;
  stopped = λ files roots path s f h. let w = loads_until files roots path s f h in λ place file library at. (w.stand place file library at).closed;
}
