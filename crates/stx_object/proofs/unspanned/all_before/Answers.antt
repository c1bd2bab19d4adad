use Rattle.std.proofs.Common.{refl, sym, subst}
use Rattle.stx_tree.specs.Tree.{chain}
use Rattle.stx_object.specs.Kept.{IsRest}
use Rattle.stx_object.proofs.ListLemmas.{last_fits, last_more}
use Rattle.stx_object.proofs.unspanned.all_before.Goals as goal

pub before_part-requires-clause-fits : goal.before_part-requires-clause-fits
before_part-requires-clause-fits c =
    let l = c.loop-item in
    last_fits l.items.items c.pop.new.self.items c.in-Some.item l.list (chain c.args.items.items c.args.rest) c.in-Some.ensures.items l.invariant.list c.requires.fits

pub loop-item-preserved : goal.loop-item-preserved
loop-item-preserved c =
    let l = c.loop-item in
    record {
      list = last_more l.items.items c.pop.new.self.items c.in-Some.item l.list c.in_ok-list.list (chain c.args.items.items c.args.rest) c.in-Some.ensures.items l.invariant.list c.in_ok-list.ensures;
      rest = subst IsRest (sym c.in_ok-list.ensures) refl;
    }
