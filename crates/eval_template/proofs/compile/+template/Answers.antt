use Rattle.std.proofs.Common.{◌≡◌, ◌∷◌, ◌∙◌, Ok, Some, drop, ap, sym, arith}
use Rattle.std.proofs.lemmas.Result.{err_from_is_err_and}
use Rattle.stx_object.specs.Opens.{Opens}
use Rattle.stx_object.specs.declared.syn.OpenedTree.TheVariants as opened
use Rattle.eval_pattern.proofs.Sizes.{first_smaller, rest_within}
use Rattle.eval_template.specs.Compile.{TemplateScope, seen, escaped_form, first_label, forms_walked}
use Rattle.eval_template.proofs.Labels.{dots_within, behind_within}
use Rattle.eval_template.proofs.Levels.{made_leaf, made_vector, escaped_gives, escaped_stops}
use Rattle.eval_template.proofs.Walks.{forms_on, forms_stop}
use Rattle.eval_template.proofs.compile.+template.Goals as goal

pub elements-item-requires : goal.elements-item-requires
elements-item-requires t c =
    let e : c.loop-form.left.now ≡ c.in-Some.form.now ∷ c.in-Some.behind.now = c.in-Some.ensures.cases.0 in
    let below = first_smaller c.loop-form.left.now c.in-Some.form.now c.in-Some.behind.now e in
    (omega (arith, below, c.loop-form.invariant.smaller), c.loop-form.invariant.label ∙ ap (first_label c.args.context.now.frames.now) e)

pub list_template-returns-in-Some : goal.list_template-returns-in-Some
list_template-returns-in-Some t c =
    let context : TemplateScope = seen c.args.context.now in
    let found : Some c.in-Some.inner.now ≡ escaped_form c.in_ok-first.first c.args.escaped c.as_slice-2.result.now c.in_ok-ends.ends = rw c.in-Some.is at c.escaped_form.ensures in
    escaped_gives context c.args.escaped c.args.under c.args.form.now c.requires c.in-Some.inner.now c.in_ok-first.first c.as_slice-2.result.now c.in_ok-parts.parts.tail c.in_ok-ends.ends c.in_ok-made.made
    (c.in_ok-first.ensures ∙ ap (first_label c.args.context.now.frames.now) (c.as_slice.ensures ∙ sym c.as_slice-2.ensures)) (c.as_slice-2.ensures ∙ c.in_ok-parts.ensures.0) c.in_ok-parts.ensures.1 c.in_ok-ends.ensures found c.in_ok-made.ensures
    ∙ ap Ok (sym c.unescaped.ensures)

pub list_template-returns-in_err-made : goal.list_template-returns-in_err-made
list_template-returns-in_err-made t c =
    let context : TemplateScope = seen c.args.context.now in
    let p = err_from_is_err_and c.from_residual-in_err-made.result c.from_residual-in_err-made.ensures.1 in
    let found : Some c.in-Some.inner.now ≡ escaped_form c.in_ok-first.first c.args.escaped c.as_slice-2.result.now c.in_ok-ends.ends = rw c.in-Some.is at c.escaped_form.ensures in
    rw (p.1, p.2)
    (escaped_stops context c.args.escaped c.args.under c.args.form.now c.requires c.in-Some.inner.now c.in_ok-first.first c.as_slice-2.result.now c.in_ok-parts.parts.tail c.in_ok-ends.ends c.in_err-made.field-0.0
    (c.in_ok-first.ensures ∙ ap (first_label c.args.context.now.frames.now) (c.as_slice.ensures ∙ sym c.as_slice-2.ensures)) (c.as_slice-2.ensures ∙ c.in_ok-parts.ensures.0) c.in_ok-parts.ensures.1 c.in_ok-ends.ensures found c.in_err-made.ensures)

pub template-returns-in-Symbol : goal.template-returns-in-Symbol
template-returns-in-Symbol t c =
    let context : TemplateScope = seen c.args.context.now in
    let o : Opens (opened.Symbol c.in-Symbol.symbol) c.args.form.now = rw c.in-Symbol.is at c.in_ok-open.ensures in
    rw (made_leaf context c.args.escaped c.args.under c.in-Symbol.symbol c.args.form.now o) c.leaf_made.ensures

pub template-returns-in-Vector : goal.template-returns-in-Vector
template-returns-in-Vector t c =
    let context : TemplateScope = seen c.args.context.now in
    let o : Opens (opened.Vector c.in-Vector.forms) c.args.form.now = rw c.in-Vector.is at c.in_ok-open.ensures in
    rw (made_vector context c.args.escaped c.args.under c.in-Vector.forms c.args.form.now o, ← c.deref.ensures.value) c.vector_template.ensures

pub elements-split_at-requires : goal.elements-split_at-requires
elements-split_at-requires t c = omega (arith, c.in_ok-count.ensures.count, dots_within c.args.context.now.frames.now c.args.escaped c.in-Some.behind.now)

pub elements-returns-in_err-made : goal.elements-returns-in_err-made
elements-returns-in_err-made t c =
    let context : TemplateScope = seen c.args.context.now in
    let e : c.loop-form.left.now ≡ c.in-Some.form.now ∷ c.in-Some.behind.now = c.in-Some.ensures.cases.0 in
    let p = err_from_is_err_and c.from_residual-in_err-made.result c.from_residual-in_err-made.ensures.1 in
    rw (p.1, p.2)
    (forms_stop context c.args.escaped c.args.under c.loop-form.items c.loop-form.left.now c.in-Some.form.now c.in-Some.behind.now c.split_at.result.0.now c.split_at.result.1.now c.in_ok-count.field-0.count
    (forms_walked context c.args.escaped c.args.under c.args.forms.now) e c.in_ok-count.ensures.count c.split_at.ensures.front c.split_at.ensures.front_len c.split_at.ensures.back c.in_err-made.field-0.0 c.in_err-made.ensures c.loop-form.invariant.gives)

pub elements-loop-form-preserved : goal.elements-loop-form-preserved
elements-loop-form-preserved t c =
    let context : TemplateScope = seen c.args.context.now in
    let e : c.loop-form.left.now ≡ c.in-Some.form.now ∷ c.in-Some.behind.now = c.in-Some.ensures.cases.0 in
    let rest = rest_within c.loop-form.left.now c.in-Some.form.now c.in-Some.behind.now e in
    record {
      gives = rw c.in_ok-push.ensures.ok
          (forms_on context c.args.escaped c.args.under c.loop-form.items c.loop-form.left.now c.in-Some.form.now c.in-Some.behind.now c.split_at.result.0.now c.split_at.result.1.now c.in_ok-count.field-0.count
          (forms_walked context c.args.escaped c.args.under c.args.forms.now) e c.in_ok-count.ensures.count c.split_at.ensures.front c.split_at.ensures.front_len c.split_at.ensures.back c.in_ok-made.made c.in_ok-made.ensures c.loop-form.invariant.gives);
      label = c.in_ok-count.ensures.next ∙ ap (λ n. first_label c.args.context.now.frames.now (drop n c.in-Some.behind.now)) (sym c.in_ok-count.ensures.count) ∙ ap (first_label c.args.context.now.frames.now) (sym c.split_at.ensures.back);
      smaller = rw c.split_at.ensures.back (omega (arith, behind_within c.in_ok-count.field-0.count c.in-Some.behind.now, rest, c.loop-form.invariant.smaller));
    }
