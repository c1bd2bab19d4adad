use Rattle.std.proofs.Common.{◌≡◌, sym, ap, ◌∙◌, true, false}
use Rattle.std.specs.Prelude.{is_some}
use Rattle.load_import.specs.Table.{value_of}
use Rattle.load_import.proofs.TableLemmas.{put_new, is_some-copied}
use Rattle.load_import.proofs.table.NameTable.put_first.Goals as goal

pub returns-in-Ok-clause-ok : goal.returns-in-Ok-clause-ok
returns-in-Ok-clause-ok g c =
    let none : is_some (value_of c.args.name c.args.self.now) ≡ false =
    ap is_some (sym c.get.ensures) ∙ sym (is_some-copied c.get.result) ∙ sym c.if-is_some.ensures in
    c.in-Ok.ensures.entries ∙ put_new c.self.inside.rows c.args.self.now c.args.name c.args.value c.self.view_is none
