use Rattle.std.proofs.Common.{◌≡◌, sym, ap, ◌∙◌, false}
use Rattle.std.specs.Prelude.{is_some}
use Rattle.load_import.proofs.TableLemmas.{is_some-copied}
use Rattle.run_library.specs.Records.{place_in}
use Rattle.run_library.proofs.FirstLemmas.{put_new}
use Rattle.run_library.proofs.records.put_place.Goals as goal

pub returns-clause-ok : goal.returns-clause-ok
returns-clause-ok c =
    let none : is_some (place_in c.args.name c.args.places.now.entries) ≡ false =
    ap is_some (sym c.get.ensures.value) ∙ sym (is_some-copied c.get.result) ∙ sym c.is_some.ensures ∙ c.if-is_some.false in
    c.in_ok-insert.ensures.entries ∙ put_new c.args.places.now c.args.name c.args.place none
