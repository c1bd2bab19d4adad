use Rattle.std.proofs.Common.{◌≡◌, sym, ap, ◌∙◌, false}
use Rattle.std.specs.Prelude.{is_some}
use Rattle.load_import.proofs.TableLemmas.{is_some-copied}
use Rattle.run_xref.specs.Binders.{bound_at}
use Rattle.run_xref.proofs.Binding.{put_new}
use Rattle.run_xref.proofs.binders.put_place.Goals as goal

pub returns : goal.returns
returns c =
    let none : is_some (bound_at c.args.binders.now.entries c.args.label) ≡ false =
    ap is_some (sym c.get.ensures.value) ∙ sym (is_some-copied c.get.result) ∙ sym c.is_some.ensures ∙ c.if-is_some.false in
    c.in_ok-insert.ensures.entries ∙ put_new c.args.binders.now c.args.label c.args.at none
