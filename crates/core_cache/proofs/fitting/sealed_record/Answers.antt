use Rattle.std.proofs.Common.{◌≡◌, List, ℕ, Option, Some, None, drop, sym, ap, ◌∙◌}
use Rattle.core_cache.specs.Fitting.{front}
use Rattle.core_cache.proofs.Sealed.{no_front, taken}
use Rattle.core_cache.proofs.fitting.sealed_record.Goals as goal

pub returns-in_default : goal.returns-in_default
returns-in_default c =
    let there : None ≡ front c.args.roots.now c.args.sources.now c.args.chosen.now c.behind_seal-body.result.now = rw c.in_default.is at c.behind_front.ensures in
    no_front c.args.roots.now c.args.sources.now c.args.chosen.now c.args.bytes.now (there ∙ ap (front c.args.roots.now c.args.sources.now c.args.chosen.now) c.behind_seal-body.ensures)

pub returns-then-is_sealed : goal.returns-then-is_sealed
returns-then-is_sealed c =
    let there : Some c.in-Some.rest.now ≡ front c.args.roots.now c.args.sources.now c.args.chosen.now c.behind_seal-body.result.now = rw c.in-Some.is at c.behind_front.ensures in
    taken c.args.roots.now c.args.sources.now c.args.chosen.now c.args.bytes.now c.in-Some.rest.now c.decode_beside.result
    (there ∙ ap (front c.args.roots.now c.args.sources.now c.args.chosen.now) c.behind_seal-body.ensures) (sym c.if-is_sealed.true ∙ c.is_sealed.ensures) c.decode_beside.ensures
