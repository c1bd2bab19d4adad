use Rattle.std.proofs.Common.{refl, ◌≡◌, ◌-◌, ◌<◌, ◌∙◌, ap, sym, subst, arith, suc, drop, map, length, None}
use Rattle.std.proofs.lemmas.Result.{IfOk-weaker, IfErr-weaker, err_from_is_err_and}
use Rattle.base_data.specs.Datum.{PlainDatum}
use Rattle.base_data.specs.Datum as datum
use Rattle.base_data.specs.DatumView.{seen}
use Rattle.stx_tree.specs.Tree.{pair, chain, nil}
use Rattle.stx_tree.specs.Measures.{Fits}
use Rattle.stx_tree.proofs.MeasureLaws.{chain_fits}
use Rattle.stx_object.specs.Kept.{IsRest, IsElements}
use Rattle.stx_object.proofs.ListLemmas.{chain_elements}
use Rattle.stx_object.specs.Leaves.{grown_tree}
use Rattle.stx_object.proofs.GivesLemmas.{refuses_more}
use Rattle.stx_object.proofs.GrownLemmas.{datum_size-some, end_smaller, element_smaller, part_smaller, list_node, vector_node, bare_fits, vector_fits, datum_fits, more_fits, grown_rest}
use Rattle.stx_object.proofs.leaves.+from_datum.Goals as goal

pub from_datum-returns-in-List-clause-tree : goal.from_datum-returns-in-List-clause-tree
from_datum-returns-in-List-clause-tree t c =
    let same = list_node c.args.growth.now.spans c.args.growth.now.sample.now c.datum.inside.span c.in_ok-span.span c.in-List.items.items c.deref.result.now c.in-List.tail.value c.deref-in-List.result.now c.args.datum.now
    c.deref.ensures.value c.deref-in-List.ensures c.in_ok-span.ensures (rw c.in-List.is at c.datum.invariant) (ap (seen c.datum.inside.span) (sym c.in-List.is) ∙ c.datum.view_is) in
    IfOk-weaker c.from_list.result _ _ (λ k h. h ∙ sym same) c.from_list.ensures.tree

pub from_datum-returns-in-List-clause-refused : goal.from_datum-returns-in-List-clause-refused
from_datum-returns-in-List-clause-refused t c =
    let f = grown_tree c.args.growth.now.spans c.args.growth.now.sample.now in
    let list = chain (map f c.deref.result.now) (f c.deref-in-List.result.now) in
    let same = list_node c.args.growth.now.spans c.args.growth.now.sample.now c.datum.inside.span c.in_ok-span.span c.in-List.items.items c.deref.result.now c.in-List.tail.value c.deref-in-List.result.now c.args.datum.now
    c.deref.ensures.value c.deref-in-List.ensures c.in_ok-span.ensures (rw c.in-List.is at c.datum.invariant) (ap (seen c.datum.inside.span) (sym c.in-List.is) ∙ c.datum.view_is) in
    IfErr-weaker c.from_list.result _ _
    (λ e h. refuses_more e (Fits list) (Fits (f c.args.datum.now)) (λ fits. bare_fits c.in_ok-span.span list (f c.args.datum.now) same fits) h)
    c.from_list.ensures.refused

pub from_datum-returns-in-Vector-clause-tree : goal.from_datum-returns-in-Vector-clause-tree
from_datum-returns-in-Vector-clause-tree t c =
    let same = vector_node c.args.growth.now.spans c.args.growth.now.sample.now c.datum.inside.span c.in_ok-span.span c.in-Vector.items.items c.deref-in-Vector.result.now c.args.datum.now
    c.deref-in-Vector.ensures.value c.in_ok-span.ensures (ap (seen c.datum.inside.span) (sym c.in-Vector.is) ∙ c.datum.view_is) in
    IfOk-weaker c.from_vector.result _ _ (λ k h. h ∙ sym same) c.from_vector.ensures.tree

pub from_datum-returns-in-Vector-clause-refused : goal.from_datum-returns-in-Vector-clause-refused
from_datum-returns-in-Vector-clause-refused t c =
    let f = grown_tree c.args.growth.now.spans c.args.growth.now.sample.now in
    let list = chain (map f c.deref-in-Vector.result.now) nil in
    let same = vector_node c.args.growth.now.spans c.args.growth.now.sample.now c.datum.inside.span c.in_ok-span.span c.in-Vector.items.items c.deref-in-Vector.result.now c.args.datum.now
    c.deref-in-Vector.ensures.value c.in_ok-span.ensures (ap (seen c.datum.inside.span) (sym c.in-Vector.is) ∙ c.datum.view_is) in
    IfErr-weaker c.from_vector.result _ _
    (λ e h. refuses_more e (Fits list) (Fits (f c.args.datum.now)) (λ fits. vector_fits c.in_ok-span.span list (f c.args.datum.now) same fits) h)
    c.from_vector.ensures.refused

pub from_list-from_end-requires : goal.from_list-from_end-requires
from_list-from_end-requires t c =
    let small = end_smaller c.args.items.now c.args.tail.now c.requires.some in
    (grind (arith, small), c.requires.tail)

pub from_list-returns-in_err-end-clause-refused : goal.from_list-returns-in_err-end-clause-refused
from_list-returns-in_err-end-clause-refused t c =
    let p = err_from_is_err_and c.from_residual.result c.from_residual.ensures.1 in
    let f = grown_tree c.args.growth.now.spans c.args.growth.now.sample.now in
    let end = f c.args.tail.now in
    let whole = chain (map f c.args.items.now) end in
    rw (p.1, p.2) (refuses_more c.in_err-end.field-0.0 (Fits end) (Fits whole) (λ h. chain_fits (map f c.args.items.now) end h) c.in_err-end.ensures.refused)

pub from_end-returns-clause-rest : goal.from_end-returns-clause-rest
from_end-returns-clause-rest t c =
    IfOk-weaker c.from_datum.result _ _ (λ k h. subst IsRest (sym h) (grown_rest c.args.growth.now.spans c.args.growth.now.sample.now c.args.tail.now c.requires)) c.from_datum.ensures.tree

pub data_before-from_datum-requires : goal.data_before-from_datum-requires
data_before-from_datum-requires t c =
    let at = c.loop-at.at - 1 in
    let l : at < length c.args.items.now = omega (arith, c.loop-at.invariant.within, c.loop-at-test.true) in
    let small = element_smaller c.args.items.now at c.index-items-at.result l in
    (rw c.index-items-at.is (grind (arith, small)), tt)

pub data_before-returns-in_err-tree-clause-refused : goal.data_before-returns-in_err-tree-clause-refused
data_before-returns-in_err-tree-clause-refused t c =
    let p = err_from_is_err_and c.from_residual.result c.from_residual.ensures.1 in
    let f = grown_tree c.args.growth.now.spans c.args.growth.now.sample.now in
    let ds = c.args.items.now in
    let at = c.loop-at.at - 1 in
    let l : at < length ds = omega (arith, c.loop-at.invariant.within, c.loop-at-test.true) in
    rw (p.1, p.2) (refuses_more c.in_err-tree.field-0.0 (Fits (f c.index-items-at.result)) (Fits (chain (map f ds) c.args.rest))
    (λ h. datum_fits f ds at c.index-items-at.result c.args.rest l c.index-items-at.is h) c.in_err-tree.ensures.refused)

pub data_before-returns-in-Err-clause-refused : goal.data_before-returns-in-Err-clause-refused
data_before-returns-in-Err-clause-refused t c =
    let f = grown_tree c.args.growth.now.spans c.args.growth.now.sample.now in
    let ds = c.args.items.now in
    let at = c.loop-at.at - 1 in
    let l : at < length ds = omega (arith, c.loop-at.invariant.within, c.loop-at-test.true) in
    let next : suc at ≡ c.loop-at.at = omega (arith, c.loop-at-test.true) in
    let more : c.loop-at.list ≡ chain (map f (drop (suc at) ds)) c.args.rest = rw next c.loop-at.invariant.list in
    refuses_more c.in-Err.stop (Fits (pair None c.in_ok-tree.tree c.loop-at.list)) (Fits (chain (map f ds) c.args.rest))
    (λ h. more_fits f ds at c.index-items-at.result c.in_ok-tree.tree c.loop-at.list c.args.rest l c.index-items-at.is c.in_ok-tree.ensures.tree more h) c.in-Err.ensures.refused

pub from_list-data_before-requires : goal.from_list-data_before-requires
from_list-data_before-requires t c =
    let small = part_smaller (length c.args.items.now - 1) c.args.items.now c.args.tail.now c.requires.some in
    (grind (arith, small), c.in_ok-end.ensures.rest)

pub from_vector-data_before-requires : goal.from_vector-data_before-requires
from_vector-data_before-requires t c = (omega (arith, datum_size-some (datum.chain c.args.items.now datum.nil)), subst IsRest (sym c.in_ok-end.ensures) refl)

pub from_vector-into_vector-requires : goal.from_vector-into_vector-requires
from_vector-into_vector-requires t c =
    let f = grown_tree c.args.growth.now.spans c.args.growth.now.sample.now in
    let end : IsElements c.in_ok-end.end = subst IsElements (sym c.in_ok-end.ensures) refl in
    subst IsElements (sym c.in_ok-list.ensures.tree) (chain_elements (map f c.args.items.now) c.in_ok-end.end end)
