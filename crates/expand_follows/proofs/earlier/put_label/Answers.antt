use Rattle.std.proofs.Common.{◌≡◌, ◌∙◌, sym, ap, false}
use Rattle.std.specs.Prelude.{is_some}
use Rattle.std.specs.Map.{lookup}
use Rattle.core_language.specs.Labels.{same_label}
use Rattle.law_core.proofs.Decisions.{label_decides}
use Rattle.expand_follows.proofs.Tables.{adds_row, is_some_copied}
use Rattle.expand_follows.proofs.earlier.put_label.Goals as goal

pub returns : goal.returns
returns c =
    let none : is_some (lookup (same_label c.args.label.now) c.args.labels.now.entries) ≡ false =
    ap is_some (sym c.get.ensures.value) ∙ sym (is_some_copied c.get.result) ∙ sym c.is_some.ensures ∙ c.if-is_some.false in
    adds_row same_label label_decides c.args.place c.args.labels.now.entries _ c.args.label.now c.in_ok-label.label none c.in_ok-label.ensures c.in_ok-insert.ensures.entries
