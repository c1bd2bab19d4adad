use Rattle.std.proofs.Common.{◌∙◌, Some, ap, sym, subst}
use Rattle.stx_tree.specs.Tree.{chain}
use Rattle.stx_object.specs.Kept.{IsElements, Parts}
use Rattle.stx_object.proofs.ListLemmas.{changed_elements, parts_none, elements_pair, elements_rest, elements_end, first_more}
use Rattle.stx_object.proofs.kept.Kept.elements.Goals as goal

pub loop-left-init : goal.loop-left-init
loop-left-init c = record {
  list = ap (λ xs. chain xs c.in_ok-left.left) c.new-elements.ensures.items ∙ c.in_ok-left.ensures;
  elements = subst IsElements (sym c.in_ok-left.ensures) (changed_elements c.args.wrap.now c.args.self.now c.requires);
}

pub loop-left-preserved : goal.loop-left-preserved
loop-left-preserved c =
    let t = c.loop-left.left in
    let x = c.in-Some.item in
    let y = c.in-Some.others in
    let p : Parts (Some (x, y)) t = subst (λ o. Parts o t) c.in-Some.is c.in_ok-item.ensures in
    record {
      list = ap (λ xs. chain xs y) c.in_ok-push.ensures.items ∙ first_more c.loop-left.elements.items x y ∙ ap (chain c.loop-left.elements.items) (sym (elements_pair t x y p.0 c.loop-left.invariant.elements)) ∙ c.loop-left.invariant.list;
      elements = elements_rest t x y p.0 c.loop-left.invariant.elements;
    }

pub returns-in_default : goal.returns-in_default
returns-in_default c =
    let t = c.loop-left.left in
    let e = elements_end t (parts_none c.in_ok-item.field-0 t c.in_ok-item.ensures c.in_default.not-Some) c.loop-left.invariant.elements in
    ap (chain c.loop-left.elements.items) (sym e) ∙ c.loop-left.invariant.list
