use Rattle.std.proofs.Common.{◌≡◌, refl, sym, ap, subst, ◌∙◌, ◌++◌, ◌∷◌, [], None}
use Rattle.stx_tree.specs.Tree.{Tree, chain, pair}
use Rattle.stx_tree.specs.Measures.{Fits}
use Rattle.stx_object.specs.Kept.{IsRest}
use Rattle.stx_object.proofs.ListLemmas.{last_fits, last_more}
use Rattle.stx_object.proofs.GivesLemmas.{refuses_more}
use Rattle.stx_object.proofs.syn.all_before.Goals as goal

pub returns-in-Err-clause-refused : goal.returns-in-Err-clause-refused
returns-in-Err-clause-refused c =
    let l = c.loop-item in
    let zs = c.pop.new.self.items in
    let x : Tree = c.item.inside.kept in
    let is : l.items.items ≡ zs ++ (x ∷ []) = c.in-Some.ensures.items ∙ ap (λ (t : Tree). zs ++ (t ∷ [])) (sym c.item.view_is) in
    let all = chain c.args.items.items c.args.rest in
    refuses_more c.in-Err.stop (Fits (pair None x l.list)) (Fits all) (λ h. last_fits l.items.items zs x l.list all is l.invariant.list h) c.in-Err.ensures.refused

pub loop-item-preserved : goal.loop-item-preserved
loop-item-preserved c =
    let l = c.loop-item in
    let zs = c.pop.new.self.items in
    let x : Tree = c.item.inside.kept in
    let is : l.items.items ≡ zs ++ (x ∷ []) = c.in-Some.ensures.items ∙ ap (λ (t : Tree). zs ++ (t ∷ [])) (sym c.item.view_is) in
    let all = chain c.args.items.items c.args.rest in
    record {
      list = last_more l.items.items zs x l.list c.in-Ok.longer all is l.invariant.list c.in-Ok.ensures.tree;
      rest = subst IsRest (sym c.in-Ok.ensures.tree) refl;
    }
