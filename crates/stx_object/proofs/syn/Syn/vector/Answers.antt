use Rattle.std.proofs.Common.{None, ◌∙◌, ap, refl, sym, subst}
use Rattle.std.proofs.lemmas.Result.{err_from_is_err_and}
use Rattle.stx_tree.specs.Tree.{vector, vector_of, chain}
use Rattle.stx_object.specs.Kept.{IsElements}
use Rattle.stx_object.proofs.ListLemmas.{chain_elements}
use Rattle.stx_object.proofs.GivesLemmas.{gives_tree, gives_stop}
use Rattle.stx_object.proofs.syn.Syn.vector.Goals as goal

pub into_vector-requires : goal.into_vector-requires
into_vector-requires c =
    let end : IsElements c.in_ok-end.end = subst IsElements (sym c.in_ok-end.ensures) refl in
    subst IsElements (sym c.in_ok-list.ensures.tree) (chain_elements c.args.items.items c.in_ok-end.end end)

pub returns-in_err-list : goal.returns-in_err-list
returns-in_err-list c =
    let p = err_from_is_err_and c.from_residual-in_err-list.result c.from_residual-in_err-list.ensures.1 in
    let refused = rw c.in_ok-end.ensures at c.in_err-list.ensures.refused in
    rw (p.1, p.2) (gives_stop c.in_err-list.field-0.0 (vector_of c.args.items.items) refused)

pub returns : goal.returns
returns c =
    let xs = c.args.items.items in
    gives_tree (vector_of xs) c.in_ok-kept.kept
    (c.in_ok-kept.ensures ∙ ap (vector None) (c.in_ok-list.ensures.tree ∙ ap (chain xs) c.in_ok-end.ensures)) c.within.ensures
