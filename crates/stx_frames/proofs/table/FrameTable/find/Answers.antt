use Rattle.std.proofs.Common.{sym, ap, ◌∙◌, List}
use Rattle.base_data.specs.declared.name.Label.{Label}
use Rattle.stx_frames.specs.declared.key.Key.{Key}
use Rattle.stx_frames.specs.Rows.{Row, label_in, rows_of}
use Rattle.stx_frames.proofs.TableLemmas.{lookup-rows, found_first, found_later}
use Rattle.stx_frames.proofs.table.FrameTable.find.Goals as goal

pub returns-in-Some : goal.returns-in-Some
returns-in-Some c =
    let k = c.args.key.now in
    let there = c.in-Some.ensures ∙ ap (λ (es : List (Key × Label)). label_in (rows_of es) k.symbol k.marks) c.deref.ensures.value in
    sym (found_first k.symbol k.marks c.self.inside.first.items c.self.inside.later.entries c.in-Some.label.now (sym there))
    ∙ ap (λ (rs : List Row). label_in rs k.symbol k.marks) c.self.view_is

pub returns-in-None : goal.returns-in-None
returns-in-None c =
    let k = c.args.key.now in
    let none = c.in-None.ensures ∙ ap (λ (es : List (Key × Label)). label_in (rows_of es) k.symbol k.marks) c.deref.ensures.value in
    c.get.ensures.value ∙ lookup-rows k c.self.inside.later.entries
    ∙ sym (found_later k.symbol k.marks c.self.inside.first.items c.self.inside.later.entries (sym none))
    ∙ ap (λ (rs : List Row). label_in rs k.symbol k.marks) c.self.view_is
