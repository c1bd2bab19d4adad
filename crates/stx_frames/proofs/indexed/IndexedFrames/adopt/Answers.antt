use Rattle.stx_frames.specs.Scope.{adopted}
use Rattle.stx_frames.proofs.BinderLemmas.{indexed-covers, indexed-after, indexed-adopted}
use Rattle.stx_frames.proofs.indexed.IndexedFrames.adopt.Goals as goal

pub invariant_of-self : goal.invariant_of-self
invariant_of-self c = indexed-covers c.self.inside.index c.add_rows.new.self c.self.inside.frames c.add_rows.ensures.kept c.self.invariant

pub invariant_of-self-2 : goal.invariant_of-self-2
invariant_of-self-2 c =
    let fs = c.self.inside.frames in
    let index = c.add_rows.new.self in
    let before = indexed-covers c.self.inside.index index fs c.add_rows.ensures.kept c.self.invariant in
    indexed-after c.adopt.result index fs c.adopt.new.self (adopted fs c.args.rows.now) c.adopt.ensures.ok c.adopt.ensures.err (indexed-adopted index c.args.rows.now fs before c.in-Ok.ensures.there) before
