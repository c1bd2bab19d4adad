use Rattle.std.proofs.Common.{◌≡◌, ◌∙◌, sym, ap, length, arith}
use Rattle.std.specs.Prelude.{◌-◌}
use Rattle.stx_object.specs.Opens.{Opens}
use Rattle.stx_object.specs.declared.syn.OpenedTree.TheVariants as opened
use Rattle.core_shapes.specs.Lists.{elements}
use Rattle.core_quasi.specs.Words.{word_of}
use Rattle.core_quasi.specs.QuasiSyntax.{seen, escapes}
use Rattle.core_quasi.specs.declared.word.QuasiWord.{QuasiWord}
use Rattle.core_quasi.specs.declared.word.Family.TheVariants as family
use Rattle.core_quasi.proofs.InsertLevels.{made_vector, found_flat, found_split}
use Rattle.core_quasi.proofs.Sizes.{tree_size, some_size, list_within, vector_within, some_list, split_size, split_long, last_some}
use Rattle.core_quasi.proofs.quasi_syntax.+quasi_syntax.Goals as goal

pub syntax_at-vector_at-requires : goal.syntax_at-vector_at-requires
syntax_at-vector_at-requires t c =
    let o : Opens (opened.Vector c.in-Vector.forms) c.args.form.now = rw c.in-Vector.is at c.in_ok-open.ensures in
    rw c.deref.ensures.value (omega (arith, vector_within c.in-Vector.forms c.args.form.now o))

pub syntax_at-returns : goal.syntax_at-returns
syntax_at-returns t c =
    let o : Opens (opened.Vector c.in-Vector.forms) c.args.form.now = rw c.in-Vector.is at c.in_ok-open.ensures in
    rw (made_vector (seen c.args.context.now) c.args.level c.args.inserts.now c.in-Vector.forms c.args.form.now o, ← c.deref.ensures.value) c.vector_at.ensures

pub split_list-open_list-requires : goal.split_list-open_list-requires
split_list-open_list-requires t c = omega (arith, tree_size c.args.last.now.tail.now)

pub flat_list-open_list-requires : goal.flat_list-open_list-requires
flat_list-open_list-requires t c = omega (arith, tree_size c.args.list.now.tail.now)

pub flat_list-syntax_at-requires : goal.flat_list-syntax_at-requires
flat_list-syntax_at-requires t c = omega (arith, some_size c.args.list.now.elements.now c.requires)

pub list_at-flat_list-requires : goal.list_at-flat_list-requires
list_at-flat_list-requires t c =
    let are : c.as_slice-forms.result.now ≡ elements c.args.form.now = c.as_slice-forms.ensures ∙ c.in_ok-parts.ensures.0 in (
      omega (arith, list_within c.args.form.now c.as_slice-forms.result.now c.in_ok-parts.parts.tail are c.in_ok-parts.ensures.1),
      some_list c.args.form.now c.as_slice-forms.result.now c.requires are,
    )

pub list_at-returns : goal.list_at-returns
list_at-returns t c =
    let are : c.as_slice-forms.result.now ≡ elements c.args.form.now = c.as_slice-forms.ensures ∙ c.in_ok-parts.ensures.0 in
    rw (found_flat (seen c.args.context.now) c.args.level c.args.inserts.now c.args.form.now c.requires c.as_slice-forms.result.now c.in_ok-parts.parts.tail c.in_ok-ends.ends
    are c.in_ok-parts.ensures.1 c.in_ok-ends.ensures
    (c.if-escapes.ensures ∙ ap (λ (x : QuasiWord). escapes x c.in_ok-ends.ends c.as_slice-forms.result.now) c.in_ok-head.ensures) (sym c.if-branch.false ∙ c.in_ok-splits.ensures))
    c.flat_list.ensures

pub list_at-split_list-requires : goal.list_at-split_list-requires
list_at-split_list-requires t c =
    let ts = c.as_slice-forms.result.now in
    let are : c.as_slice-forms.result.now ≡ elements c.args.form.now = c.as_slice-forms.ensures ∙ c.in_ok-parts.ensures.0 in
    let long = split_long (word_of family.Syntax c.args.context.now.frames.now) c.in_ok-ends.ends ts (sym c.if-branch.true ∙ c.in_ok-splits.ensures) in
    rw (c.split_at.ensures.front, c.split_at.ensures.back)
    (omega (arith, list_within c.args.form.now ts c.in_ok-parts.parts.tail are c.in_ok-parts.ensures.1, split_size (length ts - 2) ts), last_some ts long)

pub list_at-returns-then-branch : goal.list_at-returns-then-branch
list_at-returns-then-branch t c =
    let are : c.as_slice-forms.result.now ≡ elements c.args.form.now = c.as_slice-forms.ensures ∙ c.in_ok-parts.ensures.0 in
    rw (
      found_split (seen c.args.context.now) c.args.level c.args.inserts.now c.args.form.now c.requires c.as_slice-forms.result.now c.in_ok-parts.parts.tail c.in_ok-ends.ends
          are c.in_ok-parts.ensures.1 c.in_ok-ends.ensures c.in_ok-rest.rest
          (c.if-escapes.ensures ∙ ap (λ (x : QuasiWord). escapes x c.in_ok-ends.ends c.as_slice-forms.result.now) c.in_ok-head.ensures) (sym c.if-branch.true ∙ c.in_ok-splits.ensures) c.in_ok-rest.ensures,
      ← c.split_at.ensures.front,
      ← c.split_at.ensures.back,
    )
    c.split_list.ensures
