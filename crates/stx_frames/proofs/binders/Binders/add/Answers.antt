use Rattle.stx_frames.proofs.BinderLemmas.{pushed-there, pushed-kept}
use Rattle.stx_frames.proofs.binders.Binders.add.Goals as goal

pub returns-clause-there : goal.returns-clause-there
returns-clause-there c =
    let b = c.args.self.now in
    pushed-there c.push.result c.args.frame.now c.in_ok-frame.frame b.many b.frames c.push.new.self c.in_ok-frame.ensures c.push.ensures.ok

pub returns-clause-kept : goal.returns-clause-kept
returns-clause-kept c =
    let b = c.args.self.now in
    pushed-kept c.push.result c.in_ok-frame.frame b.many b.frames c.push.new.self c.push.ensures.ok c.push.ensures.err
