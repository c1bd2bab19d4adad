use Rattle.std.proofs.Common.{◌≡◌, ◌∙◌, sym, ap, false}
use Rattle.std.specs.Prelude.{is_some}
use Rattle.std.specs.Map.{lookup}
use Rattle.base_data.specs.Same.{same_library}
use Rattle.expand_follows.proofs.Tables.{adds_row, is_some_copied, library_decides}
use Rattle.expand_follows.proofs.earlier.put_name.Goals as goal

pub returns : goal.returns
returns c =
    let none : is_some (lookup (same_library c.args.name.now) c.args.names.now.entries) ≡ false =
    ap is_some (sym c.get.ensures.value) ∙ sym (is_some_copied c.get.result) ∙ sym c.is_some.ensures ∙ c.if-is_some.false in
    adds_row same_library library_decides c.args.place c.args.names.now.entries _ c.args.name.now c.in_ok-name.name none c.in_ok-name.ensures c.in_ok-insert.ensures.entries
