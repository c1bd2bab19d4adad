use Rattle.law_load.proofs.LoadLemmas.{loads_all, loads_until}
use Rattle.law_local.specs.Local.{group_of}
use Rattle.law_local.proofs.Local.{reuse_right, are_loaded}
use Rattle.law_local.proofs.Groups.{groups_all, groups_until, all_as_held}
use Rattle.law_local.proofs.reuse_is_right.Goals as goal

pub returns : goal.returns
returns c = record {
  loaded = λ base files roots path program s h. reuse_right base files roots (group_of files roots) s.done (are_loaded s (loads_all files roots path program s h).sound) (groups_all files roots path program s h) (all_as_held files roots s.done);
  stopped = λ base files roots path s f h. reuse_right base files roots (group_of files roots) s.done (are_loaded s (loads_until files roots path s f h)) (groups_until files roots path s f h) (all_as_held files roots s.done);
}
