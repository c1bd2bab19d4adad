use Rattle.std.proofs.Common.{◌≡◌, sym, ap, ◌∙◌, ◌∷◌, ◌++◌, [], false, List}
use Rattle.std.specs.Prelude.{is_some, Ok}
use Rattle.base_data.specs.declared.name.Label.{Label}
use Rattle.stx_frames.specs.declared.key.Key.{Key}
use Rattle.stx_frames.specs.Rows.{Row, row_of, rows_of, label_in}
use Rattle.stx_frames.proofs.TableLemmas.{rows_of-later, is_some-copied, put_new}
use Rattle.stx_frames.proofs.table.FrameTable.put.Goals as goal

pub returns-in-Ok-insert-clause-row : goal.returns-in-Ok-insert-clause-row
returns-in-Ok-insert-clause-row c =
    let k = c.args.key in
    let r = row_of (k, c.args.label) in
    let none : is_some (label_in c.args.self.now k.symbol k.marks) ≡ false =
    ap is_some (sym c.find.ensures) ∙ sym (is_some-copied c.find.result) ∙ sym c.if-is_some.ensures in
    let there = ap (λ (rs : List Row). is_some (label_in rs k.symbol k.marks)) c.self.view_is ∙ none in
    put_new c.args.self.now r none
    ∙ ap Ok (sym (ap (λ (es : List (Key × Label)). rows_of (c.self.inside.first.items ++ es)) c.in-Ok-insert.ensures.entries
    ∙ rows_of-later c.self.inside.first.items c.self.inside.later k c.args.label there ∙ ap (λ (rs : List Row). rs ++ r ∷ []) c.self.view_is))
