use Rattle.base_bytes.proofs.Known.{got_again}
use Rattle.base_bytes.proofs.libraries.kept_at.Goals as goal

pub returns-in-Some : goal.returns-in-Some
returns-in-Some c =
    rw c.in_ok-library.ensures.cases
    (got_again c.one.inside.named.value c.one.inside.spelling.items c.as_slice.result.now c.args.bytes.now c.in-Some.rest.now c.one.invariant c.as_slice.ensures.value c.in-Some.ensures.cases.0 c.in-Some.ensures.cases.1)
