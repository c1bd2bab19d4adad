use Rattle.std.proofs.lemmas.Result.{err_from_is_err_and}
use Rattle.stx_object.specs.Leaves.{grown_tree}
use Rattle.stx_object.proofs.GivesLemmas.{gives_tree, gives_stop}
use Rattle.stx_object.proofs.syn.grown.Goals as goal

pub returns-in_err-kept : goal.returns-in_err-kept
returns-in_err-kept c =
    let p = err_from_is_err_and c.from_residual.result c.from_residual.ensures.1 in
    rw (p.1, p.2) (gives_stop c.in_err-kept.field-0.0 (grown_tree c.args.spans c.args.sample.now c.args.datum.now) c.in_err-kept.ensures.refused)

pub returns : goal.returns
returns c = gives_tree (grown_tree c.args.spans c.args.sample.now c.args.datum.now) c.in_ok-kept.kept c.in_ok-kept.ensures.tree c.within.ensures
