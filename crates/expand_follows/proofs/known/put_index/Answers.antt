use Rattle.std.proofs.Common.{◌≡◌, ◌∙◌, sym, ap, false}
use Rattle.std.specs.Prelude.{is_some}
use Rattle.std.specs.Map.{lookup}
use Rattle.core_language.specs.Labels.{same_label}
use Rattle.expand_follows.proofs.Indices.{index_row}
use Rattle.expand_follows.proofs.Tables.{is_some_copied}
use Rattle.expand_follows.proofs.known.put_index.Goals as goal

pub returns : goal.returns
returns c =
    let none : is_some (lookup (same_label c.args.label.now) c.args.indices.now.entries) ≡ false =
    ap is_some (sym c.get.ensures.value) ∙ sym (is_some_copied c.get.result) ∙ sym c.is_some.ensures ∙ c.if-is_some.false in
    index_row c.args.indices.now.entries _ c.args.label.now c.in_ok-label.label c.args.binding.now _ none c.in_ok-label.ensures c.index_of_binding-index.ensures c.in_ok-insert.ensures.entries
