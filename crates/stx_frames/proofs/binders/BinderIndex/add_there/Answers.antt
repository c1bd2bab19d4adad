use Rattle.stx_frames.proofs.BinderLemmas.{noted-set_value, covers-set_value}
use Rattle.stx_frames.proofs.binders.BinderIndex.add_there.Goals as goal

pub returns-clause-there : goal.returns-clause-there
returns-clause-there c =
    noted-set_value c.add.result c.args.frame.now c.args.symbol.now c.self.inside.rows.entries _ c.in-Some.binders.now c.add.new.self
    c.in-Some.ensures.value (c.get_mut.follows.holds c.add.new.self).0 c.add.ensures.there

pub returns-clause-kept : goal.returns-clause-kept
returns-clause-kept c =
    covers-set_value c.args.symbol.now c.self.inside.rows.entries c.args.self.now _ c.in-Some.binders.now c.add.new.self
    c.in-Some.ensures.value c.self.view_is (c.get_mut.follows.holds c.add.new.self).0 c.add.ensures.kept
