use Rattle.std.proofs.Common.{◌≡◌, ◌∙◌, ap, sym}
use Rattle.std.proofs.lemmas.List.{drop_all}
use Rattle.load_import.specs.Names.{put_each}
use Rattle.load_import.proofs.NameLemmas.{has-table}
use Rattle.load_import.proofs.names.name_table.Goals as goal

pub returns : goal.returns
returns c = has-table c.args.names.now c.loop-row.table (ap (λ d. put_each c.loop-row.table d) (sym (drop_all c.loop-row.row-index c.args.names.now c.loop-row-test.false)) ∙ c.loop-row.invariant)
