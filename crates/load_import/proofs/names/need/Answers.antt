use Rattle.std.proofs.Common.{◌≡◌, ◌∙◌, ap, sym, subst}
use Rattle.std.specs.Prelude.{Ok}
use Rattle.base_data.specs.Gives.{Gives}
use Rattle.load_import.proofs.NameLemmas.{need_same}
use Rattle.load_import.proofs.names.need.Goals as goal

pub returns : goal.returns
returns c = subst (Gives (λ u. u) c.need_in.result) (need_same _ c.args.names.now c.args.ids.now (Ok tt) c.in_ok-table.ensures) c.need_in.ensures
