use Rattle.law_load.proofs.LoadLemmas.{loads_all, loads_until}
use Rattle.law_load.proofs.each_library_once.Goals as goal

pub returns : goal.returns
returns c = record {
  libraries = λ files roots path program s h. let w = loads_all files roots path program s h in w.sound.once;
  program = λ files roots path program s h. let w = loads_all files roots path program s h in w.place;
  stopped = λ files roots path s f h. let w = loads_until files roots path s f h in w.once;
}
