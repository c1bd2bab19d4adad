use Rattle.std.proofs.Common.{◌≡◌, ◌≤◌, ◌∷◌, length, ap, arith}
use Rattle.std.proofs.lemmas.Result.{err_from_is_err_and}
use Rattle.stx_tree.specs.Tree.{chain, nil}
use Rattle.stx_tree.specs.Measures.{size}
use Rattle.stx_object.specs.Opens.{Opens}
use Rattle.stx_object.specs.declared.syn.OpenedTree.TheVariants as opened
use Rattle.eval_pattern.specs.Compile.{seen}
use Rattle.eval_pattern.proofs.Levels.{pattern_pair, pattern_vector}
use Rattle.eval_pattern.proofs.Sizes.{elements_within, tail_smaller, first_smaller, rest_within, behind_fewer, behind_within}
use Rattle.eval_pattern.proofs.Walks.{pattern_stop, part_stop, forms_on}
use Rattle.eval_pattern.proofs.compile.+pattern.Goals as goal

pub add_elements-pattern-requires : goal.add_elements-pattern-requires
add_elements-pattern-requires t c =
    let e : c.loop-form.left.now ≡ c.in-Some.form.now ∷ c.in-Some.behind.now = c.in-Some.ensures.cases.0 in
    let below = first_smaller c.loop-form.left.now c.in-Some.form.now c.in-Some.behind.now e in
    omega (arith, below, c.loop-form.invariant.smaller)

pub add_elements-returns-in_err-pattern : goal.add_elements-returns-in_err-pattern
add_elements-returns-in_err-pattern t c =
    let e : c.loop-form.left.now ≡ c.in-Some.form.now ∷ c.in-Some.behind.now = c.in-Some.ensures.cases.0 in
    let p = err_from_is_err_and c.from_residual-in_err-pattern.result c.from_residual-in_err-pattern.ensures.1 in
    rw (p.1, p.2)
    (pattern_stop (seen c.args.context.now) c.args.elements.now.depth c.loop-form.parts c.in-Some.form.now c.loop-form.left.now c.in-Some.behind.now _ c.in_ok-inner.inner (c.loop-form.variables, c.loop-form.names) _ e c.in_ok-ellipsis.ensures c.in_ok-inner.ensures
    c.loop-form.invariant.gives c.in_err-pattern.field-0.0 c.in_err-pattern.ensures)

pub add_elements-returns-in_err-add_part : goal.add_elements-returns-in_err-add_part
add_elements-returns-in_err-add_part t c =
    let e : c.loop-form.left.now ≡ c.in-Some.form.now ∷ c.in-Some.behind.now = c.in-Some.ensures.cases.0 in
    let p = err_from_is_err_and c.from_residual-in_err-add_part.result c.from_residual-in_err-add_part.ensures.1 in
    rw (p.1, p.2)
    (part_stop (seen c.args.context.now) c.args.elements.now.depth c.loop-form.parts c.in-Some.form.now c.loop-form.left.now c.in-Some.behind.now _ c.in_ok-inner.inner (c.loop-form.variables, c.loop-form.names) _ e c.in_ok-ellipsis.ensures c.in_ok-inner.ensures
    c.loop-form.invariant.gives c.in_ok-pattern.pattern (c.pattern.new.variables, c.pattern.new.names) c.in_ok-pattern.ensures c.in_err-add_part.field-0.0 c.in_err-add_part.ensures)

pub add_elements-loop-form-preserved : goal.add_elements-loop-form-preserved
add_elements-loop-form-preserved t c =
    let e : c.loop-form.left.now ≡ c.in-Some.form.now ∷ c.in-Some.behind.now = c.in-Some.ensures.cases.0 in
    let rest = rest_within c.loop-form.left.now c.in-Some.form.now c.in-Some.behind.now e in
    let within : size (chain c.behind_ellipsis-left.result.now nil) ≤ size (chain c.in-Some.behind.now nil) = rw c.behind_ellipsis-left.ensures (behind_within _ c.in-Some.behind.now) in
    record {
      gives = rw c.behind_ellipsis-left.ensures
          (forms_on (seen c.args.context.now) c.args.elements.now.depth c.loop-form.parts c.in-Some.form.now c.loop-form.left.now c.in-Some.behind.now _ c.in_ok-inner.inner (c.loop-form.variables, c.loop-form.names) _ e c.in_ok-ellipsis.ensures c.in_ok-inner.ensures
          c.loop-form.invariant.gives c.in_ok-pattern.pattern (c.pattern.new.variables, c.pattern.new.names) c.in_ok-pattern.ensures c.add_part.new.parts c.in_ok-add_part.ensures);
      smaller = omega (arith, within, rest, c.loop-form.invariant.smaller);
    }

pub add_elements-loop-form-smaller : goal.add_elements-loop-form-smaller
add_elements-loop-form-smaller t c =
    let e : c.loop-form.left.now ≡ c.in-Some.form.now ∷ c.in-Some.behind.now = c.in-Some.ensures.cases.0 in
    let longer = ap length e in
    let fewer : length c.behind_ellipsis-left.result.now ≤ length c.in-Some.behind.now = rw c.behind_ellipsis-left.ensures (behind_fewer _ c.in-Some.behind.now) in
    omega (arith, longer, fewer)

pub list_pattern-elements-requires : goal.list_pattern-elements-requires
list_pattern-elements-requires t c = rw (c.as_slice.ensures, c.in_ok-parts.ensures.0) (grind (arith, elements_within))

pub list_pattern-pattern-requires : goal.list_pattern-pattern-requires
list_pattern-pattern-requires t c = rw c.in_ok-parts.ensures.1 (grind (arith, tail_smaller))

pub pattern-returns-in-Pair : goal.pattern-returns-in-Pair
pattern-returns-in-Pair t c =
    let o : Opens (opened.Pair c.in-Pair.field-0 c.in-Pair.field-1) c.args.form.now = rw c.in-Pair.is at c.in_ok-atom.ensures in
    rw (pattern_pair (seen c.args.context.now) c.args.depth (c.args.variables.now, c.args.names.now) c.in-Pair.field-0 c.in-Pair.field-1 c.args.form.now o) c.list_pattern.ensures

pub pattern-returns : goal.pattern-returns
pattern-returns t c =
    let o : Opens (opened.Vector c.in-Vector.forms) c.args.form.now = rw c.in-Vector.is at c.in_ok-atom.ensures in
    rw (pattern_vector (seen c.args.context.now) c.args.depth (c.args.variables.now, c.args.names.now) c.in-Vector.forms c.args.form.now o, ← c.deref.ensures.value) c.vector_pattern.ensures
