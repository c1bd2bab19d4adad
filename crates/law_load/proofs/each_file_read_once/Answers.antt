use Rattle.law_load.proofs.ReadingLemmas.{reads_all, reads_so_far}
use Rattle.law_load.proofs.each_file_read_once.Goals as goal

pub returns : goal.returns
returns c = record {
  held = λ files roots path program s h. (reads_all files roots path program s h).as_held;
  once = λ files roots path program s h. (reads_all files roots path program s h).once;
  held_until = λ files roots path s f h. (reads_so_far files roots path s f h).as_held;
  once_until = λ files roots path s f h. (reads_so_far files roots path s f h).once;
}
