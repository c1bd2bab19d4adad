use Rattle.std.proofs.Common.{lit<, map, ◌≡◌, List, ℕ}
use Rattle.std.proofs.lemmas.Result.{IfOk-at_ok}
use Rattle.std.proofs.lemmas.Iterator.Consumers.{map_from_collect}
use Rattle.std.proofs.lemmas.Iterator.Splits.{YieldsList-from_str_split}
use Rattle.run_command.specs.Roots as asks
use Rattle.run_command.proofs.roots.directories.Goals as goal

pub returns : goal.returns
returns c = IfOk-at_ok (λ v. map (λ s. s.now) v.items ≡ asks.directories c.args.word.now) c.in_ok-names.was (map_from_collect c.collect.result c.collect.ensures.ran (YieldsList-from_str_split 58 c.args.word.now (lit< tt) c.split.ensures.text c.split.ensures.has_more c.split.ensures.pattern))
