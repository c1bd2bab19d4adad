use Rattle.std.proofs.Common.{◌≡◌, ◌∙◌, ap, sym}
use Rattle.std.proofs.lemmas.List.{drop_all}
use Rattle.load_import.specs.Table.{put_all}
use Rattle.load_import.proofs.NameLemmas.{asked_for, among-table}
use Rattle.load_import.proofs.names.id_table.Goals as goal

pub returns : goal.returns
returns c = among-table c.args.ids.now c.loop-id.table (ap (λ d. put_all c.loop-id.table (asked_for d)) (sym (drop_all c.loop-id.id-index c.args.ids.now c.loop-id-test.false)) ∙ c.loop-id.invariant)
