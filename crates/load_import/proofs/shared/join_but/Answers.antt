use Rattle.std.proofs.Common.{◌∙◌, sym, ap, subst}
use Rattle.std.proofs.lemmas.Result.{err_from_is_err_and}
use Rattle.base_data.specs.Gives.{Stops}
use Rattle.load_import.specs.Names.{joined}
use Rattle.load_import.specs.Shared.{IsEnough}
use Rattle.load_import.proofs.SharedLemmas.{but_by, but_none, but_leaves, joined_front, empty_is}
use Rattle.load_import.proofs.shared.join_but.Goals as goal

pub returns-then-is_empty-clause-names : goal.returns-then-is_empty-clause-names
returns-then-is_empty-clause-names c = but_none c.args.all.now c.args.source.now.exports c.as_slice-fresh.result.now (subst (IsEnough c.args.all.now c.args.source.now.exports) (sym c.as_slice-fresh.ensures) c.requires) c.args.span.now c.args.ids.now (empty_is c.as_slice-fresh.result.now c.if-is_empty.ensures)

pub returns-in_err-join_names-clause-names : goal.returns-in_err-join_names-clause-names
returns-in_err-join_names-clause-names c =
    let p = err_from_is_err_and c.from_residual-in_err-join_names.result c.from_residual-in_err-join_names.ensures.1 in
    rw (p.1, p.2) (subst (Stops c.in_err-join_names.field-0.0) (ap (joined c.args.span.now c.args.all.now) (c.as_slice.ensures ∙ c.in_ok-more.ensures) ∙ sym (but_by c.args.all.now c.args.source.now.exports c.as_slice-fresh.result.now (subst (IsEnough c.args.all.now c.args.source.now.exports) (sym c.as_slice-fresh.ensures) c.requires) c.args.span.now c.args.ids.now)) c.in_err-join_names.ensures.names)

pub returns-clause-names : goal.returns-clause-names
returns-clause-names c =
    but_by c.args.all.now c.args.source.now.exports c.as_slice-fresh.result.now (subst (IsEnough c.args.all.now c.args.source.now.exports) (sym c.as_slice-fresh.ensures) c.requires) c.args.span.now c.args.ids.now ∙ sym (ap (joined c.args.span.now c.args.all.now) (c.as_slice.ensures ∙ c.in_ok-more.ensures)) ∙ c.in_ok-join_names.ensures.names

pub returns-clause-front : goal.returns-clause-front
returns-clause-front c = joined_front c.args.span.now c.as_slice.result.now c.args.all.now _ c.in_ok-join_names.ensures.names

pub returns-clause-fresh : goal.returns-clause-fresh
returns-clause-fresh c =
    subst (λ f. IsEnough c.join_names.new.all c.args.source.now.exports f) (sym c.in_ok-rest.ensures)
    (but_leaves c.args.all.now c.args.source.now.exports c.as_slice-fresh.result.now (subst (IsEnough c.args.all.now c.args.source.now.exports) (sym c.as_slice-fresh.ensures) c.requires) c.args.span.now c.args.ids.now _ (sym (ap (joined c.args.span.now c.args.all.now) (c.as_slice.ensures ∙ c.in_ok-more.ensures)) ∙ c.in_ok-join_names.ensures.names))
