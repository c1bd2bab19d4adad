use Rattle.std.proofs.Common.{◌≡◌, sym, ap, ◌∙◌, ◌∷◌, ◌++◌, []}
use Rattle.std.specs.Prelude.{None}
use Rattle.indexmap.proofs.CallerLemmas.{insert_entry-new}
use Rattle.load_import.specs.Table.{same_text, value_of}
use Rattle.load_import.proofs.table.NameTable.put_new.Goals as goal

pub returns-in-Ok-clause-ok : goal.returns-in-Ok-clause-ok
returns-in-Ok-clause-ok g c =
    let none : value_of c.args.name c.self.inside.rows.entries ≡ None = ap (value_of c.args.name) c.self.view_is ∙ c.requires in
    c.in-Ok.ensures.entries ∙ insert_entry-new same_text c.self.inside.rows c.args.name c.args.value none ∙ ap (λ es. es ++ (c.args.name, c.args.value) ∷ []) c.self.view_is
