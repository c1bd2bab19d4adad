use Rattle.stx_frames.proofs.BinderLemmas.{get-found, get-none}
use Rattle.stx_frames.proofs.binders.BinderIndex.get.Goals as goal

pub returns-in-Some : goal.returns-in-Some
returns-in-Some c = get-found c.few.result c.args.symbol.now c.self.inside.rows.entries c.args.self.now c.in-Some.binders.now c.in-Some.ensures.value c.self.view_is c.few.ensures

pub returns-in-None : goal.returns-in-None
returns-in-None c = get-none c.as_slice.result.now c.args.symbol.now c.self.inside.rows.entries c.args.self.now c.in-None.ensures.value c.self.view_is
