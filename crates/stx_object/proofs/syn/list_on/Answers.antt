use Rattle.std.proofs.lemmas.Result.{err_from_is_err_and}
use Rattle.stx_tree.specs.Tree.{chain}
use Rattle.stx_object.proofs.GivesLemmas.{gives_tree, gives_stop}
use Rattle.stx_object.proofs.syn.list_on.Goals as goal

pub returns-in_err-kept : goal.returns-in_err-kept
returns-in_err-kept c =
    let p = err_from_is_err_and c.from_residual.result c.from_residual.ensures.1 in
    rw (p.1, p.2) (gives_stop c.in_err-kept.field-0.0 (chain c.args.items.items c.args.rest) c.in_err-kept.ensures.refused)

pub returns : goal.returns
returns c = gives_tree (chain c.args.items.items c.args.rest) c.in_ok-kept.kept c.in_ok-kept.ensures.tree c.within.ensures
