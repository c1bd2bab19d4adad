-- Lists of marks are the same where they are the same from their other end.
use Rattle.std.proofs.Common.{◌≡◌, List, reverse, ap, sym, ◌∙◌}
use Rattle.std.proofs.lemmas.List.{reverse-reverse}
use Rattle.std.proofs.lemmas.Bool.Decides.{same_from_decides}
use Rattle.base_data.specs.declared.name.Mark.{Mark}
use Rattle.stx_tree.specs.SameMarks.{same_marks, same_marks_decides}

pub same_marks-reverse : (ms ns : List Mark) → same_marks ms ns ≡ same_marks (reverse ms) (reverse ns)
same_marks-reverse ms ns =
    same_from_decides (same_marks ms ns) (same_marks (reverse ms) (reverse ns))
    (same_marks_decides ms ns) (
      λ h. sym (reverse-reverse ms) ∙ ap reverse ((same_marks_decides (reverse ms) (reverse ns)).0 h) ∙ reverse-reverse ns,
      λ e. (same_marks_decides (reverse ms) (reverse ns)).1 (ap reverse e),
    )
