use Rattle.std.proofs.Common.{◌+◌, ◌*◌, get_or, drop, arith, sym, ◌∙◌}
use Rattle.read_spelling.specs.Numbers.{digit_value}
use Rattle.read_spelling.proofs.Values.{value-grows, value-next, value-done}
use Rattle.read_spelling.proofs.numbers.magnitude.Goals as goal

pub returns-in_default : goal.returns-in_default
returns-in_default c =
    let i = c.loop-b.b-index in
    let digits = c.args.digits.now in
    let next = value-next c.args.base c.loop-b.n i digits c.loop-b-test.true in
    let more = value-grows c.args.base (c.loop-b.n * c.args.base + digit_value (get_or digits i 0)) (drop (i + 1) digits) c.requires in
    let whole = next ∙ c.loop-b.invariant in
    λ h. c.in_default.ensures (omega (arith, whole, more, h))

pub returns-in_default-checked_add : goal.returns-in_default-checked_add
returns-in_default-checked_add c =
    let i = c.loop-b.b-index in
    let digits = c.args.digits.now in
    let next = value-next c.args.base c.loop-b.n i digits c.loop-b-test.true in
    let more = value-grows c.args.base (c.loop-b.n * c.args.base + digit_value (get_or digits i 0)) (drop (i + 1) digits) c.requires in
    let whole = next ∙ c.loop-b.invariant in
    λ h. c.in_default-checked_add.ensures (omega (arith, whole, more, h, c.in-Some.ensures.1, c.digit_value.ensures.gives))

pub loop-b-preserved : goal.loop-b-preserved
loop-b-preserved c =
    let i = c.loop-b.b-index in
    let digits = c.args.digits.now in
    let next = value-next c.args.base c.loop-b.n i digits c.loop-b-test.true in
    rw (c.in-Some-checked_add.ensures.1, c.in-Some.ensures.1, c.digit_value.ensures.gives) (next ∙ c.loop-b.invariant)

pub returns-then-n : goal.returns-then-n
returns-then-n c =
    let done = value-done c.args.base c.loop-b.n c.loop-b.b-index c.args.digits.now c.loop-b-test.false in
    let same = sym done ∙ c.loop-b.invariant in
    (omega (arith, same), same)

pub returns-else-n : goal.returns-else-n
returns-else-n c =
    let done = value-done c.args.base c.loop-b.n c.loop-b.b-index c.args.digits.now c.loop-b-test.false in
    let same = sym done ∙ c.loop-b.invariant in
    λ h. omega (arith, same, h)
