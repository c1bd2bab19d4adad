use Rattle.std.proofs.Common.{ap, ◌∙◌, reverse}
use Rattle.stx_tree.specs.SameMarks.{same_marks}
use Rattle.stx_tree.proofs.MarkLaws.{same_marks-reverse}
use Rattle.stx_tree.proofs.marks.MarksPartialEq.eq.Goals as goal

pub returns : goal.returns
returns c =
    c.eq.ensures
    ∙ ap (λ ms. same_marks ms c.as_slice-2.result.now) c.as_slice.ensures
    ∙ ap (same_marks c.self.inside.slots.items) c.as_slice-2.ensures
    ∙ same_marks-reverse c.self.inside.slots.items c.other.inside.slots.items
    ∙ ap (λ ms. same_marks ms (reverse c.other.inside.slots.items)) c.self.view_is
    ∙ ap (same_marks c.args.self.now) c.other.view_is
