use Rattle.std.proofs.Common.{◌≡◌, true, false, Some, ap, sym}
use Rattle.base_data.specs.Datum.{is_nil}
use Rattle.base_data.proofs.Parts.{proper-ended, proper-open}
use Rattle.base_data.proofs.datum.Datum.as_list.Goals as goal

pub returns-then-is_nil : goal.returns-then-is_nil
returns-then-is_nil c =
    let ended : is_nil c.in-List.tail.value ≡ true = cc in
    let proper = rw c.in-List.is at c.self.invariant in
    rw (← c.self.view_is, c.in-List.is, proper-ended c.self.inside.span c.in-List.items.items c.in-List.tail.value proper ended) (ap Some c.as_slice.ensures.value)

pub returns-else-is_nil : goal.returns-else-is_nil
returns-else-is_nil c =
    let open_end : is_nil c.in-List.tail.value ≡ false = cc in
    let proper = rw c.in-List.is at c.self.invariant in
    rw (← c.self.view_is, c.in-List.is) (sym (proper-open c.self.inside.span c.in-List.items.items c.in-List.tail.value proper open_end))
