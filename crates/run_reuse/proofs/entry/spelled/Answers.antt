use Rattle.core_cache.specs.Entry.{encode, has_spelling}
use Rattle.run_reuse.proofs.Sealed.{no_spelling, sealed_spelling}
use Rattle.run_reuse.proofs.entry.spelled.Goals as goal

pub returns-in_ok-sealed-in-Some : goal.returns-in_ok-sealed-in-Some
returns-in_ok-sealed-in-Some c =
    sealed_spelling (has_spelling c.args.entry.now) (encode c.args.entry.now) c.in-Some.body.items c.deref.result.now c.in_ok-sealed-in-Some.sealed.items (rw c.in-Some.is at c.in_ok-body.ensures) c.deref.ensures.value
    c.in_ok-sealed-in-Some.ensures

pub returns-in-None : goal.returns-in-None
returns-in-None c = no_spelling (has_spelling c.args.entry.now) (encode c.args.entry.now) (rw c.in-None.is at c.in_ok-body.ensures)
