use Rattle.std.proofs.Common.{◌≡◌, ◌∙◌, sym, ap, ◌∷◌, ◌++◌, []}
use Rattle.load_import.proofs.NameLemmas.{join_over}
use Rattle.load_import.proofs.names.join_one.Goals as goal

pub returns-in-Some-clause-names : goal.returns-in-Some-clause-names
returns-in-Some-clause-names c = join_over c.args.span.now c.args.all.now c.args.row.now c.in-Some.label.now c.join_again.result (sym c.in-Some.ensures) c.join_again.ensures

pub returns-clause-front : goal.returns-clause-front
returns-clause-front c = (c.in_ok-share.field-0 ∷ [], c.in_ok-put_new.ensures.ok)
