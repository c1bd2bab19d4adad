-- The last change of a list, and the next one.
use Rattle.std.proofs.Common.{◌≡◌, List, [], ◌∷◌, ◌++◌, Option, sym, ◌∙◌, ap}
use Rattle.base_data.specs.declared.name.Mark.{Mark}
use Rattle.base_data.specs.declared.name.FrameNo.{FrameNo}
use Rattle.stx_tree.specs.Context.{LeafContext, act, acts}
use Rattle.stx_tree.specs.declared.change.Change.{Change}
use Rattle.stx_tree.specs.declared.change.Change.TheVariants.{Enter, Leave}
use Rattle.stx_tree.proofs.ContextLaws.{acts-more, left-entered}

-- the enter at the end goes with a leave of its mark
pub acts-cancelled : (old new : List Change) (m : Mark) (f : Option FrameNo) (c : LeafContext) → old ≡ new ++ Enter m ∷ [] → acts new c ≡ act (Leave m f) (acts old c)
acts-cancelled old new m f c e = sym (left-entered m f (acts new c)) ∙ ap (act (Leave m f)) (sym (acts-more new (Enter m) c) ∙ ap (λ xs. acts xs c) (sym e))
