use Rattle.core_codec.specs.Code as spell
use Rattle.core_pattern_bytes.proofs.Puts.{elements_puts}
use Rattle.core_pattern_bytes.proofs.patterns.+pattern_put.Goals as goal

pub put_elements-returns : goal.put_elements-returns
put_elements-returns t c =
    elements_puts (spell.pattern c.args.room) c.args.elements.now c.args.out.now.items c.put_patterns.new.out.items c.put_repeated.new.out.items
    (rw (c.deref.ensures.value, c.if-not-branch.false) at c.in_ok-put_patterns.ensures) (rw c.if-not-branch-2.false at c.in_ok-put_repeated.ensures)
