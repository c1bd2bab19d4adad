use Rattle.std.proofs.Common.{refl, sym, ◌∙◌, length}
use Rattle.std.proofs.lemmas.Result.{IfOk-weaker}
use Rattle.std.specs.List.{list_all}
use Rattle.std.specs.Prelude.{map}
use Rattle.base_bytes.specs.Codec.{u32, u64, ◌then◌}
use Rattle.core_codec.specs.Code as spell
use Rattle.core_pattern_bytes.proofs.Puts.{item_fails, list_fails, items_puts}
use Rattle.core_pattern_bytes.specs.Seen.{item_part}
use Rattle.core_pattern_bytes.proofs.templates.+template_put.Goals as goal

pub put_all-returns-then-not-branch : goal.put_all-returns-then-not-branch
put_all-returns-then-not-branch t c =
    let fits = (spell.template c.args.room then u32).fits in
    let none = item_fails item_part fits c.args.list.now c.loop-item.item-index c.item-item.result c.loop-item-test.true c.item-item.is (sym c.in_ok-put_item.ensures.0 ∙ c.if-not-branch.true) in
    (list_fails (u64.fits (length (map item_part c.args.list.now))) (list_all fits (map item_part c.args.list.now)) none, refl)

pub put_items-returns : goal.put_items-returns
put_items-returns t c =
    IfOk-weaker c.put_all.result _ _
    (λ b h. items_puts (spell.template c.args.room) c.args.list.now c.args.out.now.items c.put_all.new.out.items b h) c.put_all.ensures
