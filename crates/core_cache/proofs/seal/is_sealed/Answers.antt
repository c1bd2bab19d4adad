use Rattle.core_cache.proofs.Sealed.{sealed_so}
use Rattle.core_cache.proofs.seal.is_sealed.Goals as goal

pub returns : goal.returns
returns c = sealed_so c.args.bytes.now c.in-Some._body.now (rw c.in-Some.is at c.unseal.ensures.found)
