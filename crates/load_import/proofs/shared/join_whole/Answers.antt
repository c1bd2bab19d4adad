use Rattle.std.proofs.Common.{◌∙◌, sym, subst}
use Rattle.std.proofs.lemmas.Result.{err_from_is_err_and}
use Rattle.base_data.specs.Gives.{Stops}
use Rattle.load_import.specs.Shared.{IsEnough}
use Rattle.load_import.proofs.SharedLemmas.{whole_by, whole_none, whole_leaves, joined_front, empty_is}
use Rattle.load_import.proofs.shared.join_whole.Goals as goal

pub returns-then-is_empty-clause-names : goal.returns-then-is_empty-clause-names
returns-then-is_empty-clause-names c = whole_none c.args.all.now c.args.source.now.exports c.as_slice-fresh.result.now (subst (IsEnough c.args.all.now c.args.source.now.exports) (sym c.as_slice-fresh.ensures) c.requires) c.args.span.now (empty_is c.as_slice-fresh.result.now c.if-is_empty.ensures)

pub returns-in_err-join_names-clause-names : goal.returns-in_err-join_names-clause-names
returns-in_err-join_names-clause-names c =
    let p = err_from_is_err_and c.from_residual.result c.from_residual.ensures.1 in
    rw (p.1, p.2) (subst (Stops c.in_err-join_names.field-0.0) (sym (whole_by c.args.all.now c.args.source.now.exports c.as_slice-fresh.result.now (subst (IsEnough c.args.all.now c.args.source.now.exports) (sym c.as_slice-fresh.ensures) c.requires) c.args.span.now)) c.in_err-join_names.ensures.names)

pub returns-clause-names : goal.returns-clause-names
returns-clause-names c = whole_by c.args.all.now c.args.source.now.exports c.as_slice-fresh.result.now (subst (IsEnough c.args.all.now c.args.source.now.exports) (sym c.as_slice-fresh.ensures) c.requires) c.args.span.now ∙ c.in_ok-join_names.ensures.names

pub returns-clause-front : goal.returns-clause-front
returns-clause-front c = joined_front c.args.span.now c.as_slice-fresh.result.now c.args.all.now _ c.in_ok-join_names.ensures.names

pub returns-clause-fresh : goal.returns-clause-fresh
returns-clause-fresh c =
    subst (IsEnough c.join_names.new.all c.args.source.now.exports) (sym c.new.ensures) (whole_leaves c.args.all.now c.args.source.now.exports c.as_slice-fresh.result.now (subst (IsEnough c.args.all.now c.args.source.now.exports) (sym c.as_slice-fresh.ensures) c.requires) c.args.span.now _ c.in_ok-join_names.ensures.names)
