use Rattle.std.proofs.Common.{ap, ◌∙◌}
use Rattle.stx_frames.specs.Binders.{may_be}
use Rattle.stx_frames.proofs.BinderLemmas.{covers-more, noted-more, first_entry, is_among-one}
use Rattle.stx_frames.proofs.binders.BinderIndex.add_first.Goals as goal

pub returns-in-Ok-clause-there : goal.returns-in-Ok-clause-there
returns-in-Ok-clause-there c =
    let m = c.self.inside.rows in
    let s = c.in_ok-symbol.symbol in
    let b = c.in_ok-binders.binders in
    let f = c.args.frame.now in
    let p = first_entry m s c.args.symbol.now b c.args.self.now c.insert.new.self.entries c.in_ok-symbol.ensures c.self.view_is c.requires c.in-Ok.ensures.entries in
    noted-more f s c.args.symbol.now b m.entries c.insert.new.self.entries c.in_ok-symbol.ensures p.0 p.1
    (ap (may_be f) c.in_ok-binders.ensures ∙ is_among-one f)

pub returns-in-Ok-clause-kept : goal.returns-in-Ok-clause-kept
returns-in-Ok-clause-kept c =
    let m = c.self.inside.rows in
    let s = c.in_ok-symbol.symbol in
    let b = c.in_ok-binders.binders in
    let p = first_entry m s c.args.symbol.now b c.args.self.now c.insert.new.self.entries c.in_ok-symbol.ensures c.self.view_is c.requires c.in-Ok.ensures.entries in
    covers-more s b m.entries c.args.self.now c.insert.new.self.entries c.self.view_is p.1
