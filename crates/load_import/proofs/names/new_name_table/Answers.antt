use Rattle.std.proofs.Common.{◌≡◌, ◌∙◌, ap, sym}
use Rattle.std.proofs.lemmas.List.{drop_all}
use Rattle.load_import.specs.Names.{pairs_of}
use Rattle.load_import.specs.Table.{put_all}
use Rattle.load_import.proofs.NameLemmas.{renaming-table}
use Rattle.load_import.proofs.names.new_name_table.Goals as goal

pub returns : goal.returns
returns c = renaming-table c.args.renamings.now c.loop-renaming.table (ap (λ d. put_all c.loop-renaming.table (pairs_of d)) (sym (drop_all c.loop-renaming.renaming-index c.args.renamings.now c.loop-renaming-test.false)) ∙ c.loop-renaming.invariant)
