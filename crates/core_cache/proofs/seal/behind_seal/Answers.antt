use Rattle.std.proofs.Common.{arith, sym, drop}
use Rattle.std.proofs.lemmas.List.{drop_all}
use Rattle.core_cache.proofs.seal.behind_seal.Goals as goal

pub returns-then-bytes-lt40 : goal.returns-then-bytes-lt40
returns-then-bytes-lt40 c = sym (drop_all 40 c.args.bytes.now (omega (arith)))
