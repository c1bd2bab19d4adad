-- How changes of a context go together.
use Rattle.std.proofs.Common.{◌≡◌, Bool, true, false, cond, List, [], ◌∷◌, ◌++◌, Option, None, Some, refl, ap, ◌∙◌}
use Rattle.base_data.specs.Same.{same_name_cases}
use Rattle.base_data.specs.declared.name.Mark.{Mark}
use Rattle.base_data.specs.declared.name.FrameNo.{FrameNo}
use Rattle.stx_tree.specs.Marks.{same_mark, is_first, unless_first}
use Rattle.stx_tree.specs.Remarks.{remark, remarks}
use Rattle.stx_tree.specs.Context.{LeafContext, entered, framed, left, unmarked, act, acts}
use Rattle.stx_tree.specs.declared.change.Change.{Change}
use Rattle.stx_tree.specs.declared.change.Change.TheVariants.{Enter, Leave, Stamp}

pub same_mark-refl : (m : Mark) → same_mark m m ≡ true
same_mark-refl m = (same_name_cases m.0 m.0).1 refl

pub acts-append : (xs ys : List Change) (c : LeafContext) → acts (xs ++ ys) c ≡ acts ys (acts xs c)
acts-append [] ys c = refl
acts-append (x ∷ xs) ys c = acts-append xs ys (act x c)

pub acts-more : (xs : List Change) (x : Change) (c : LeafContext) → acts (xs ++ x ∷ []) c ≡ act x (acts xs c)
acts-more xs x c = acts-append xs (x ∷ []) c

-- a leave right after an enter of its own mark takes it back
pub left-entered : (m : Mark) (f : Option FrameNo) (c : LeafContext) → left m f (entered m c) ≡ c
left-entered m f c = ap (λ b. cond b c (framed f (entered m (entered m c)))) (same_mark-refl m)

pub marks-framed : (f : Option FrameNo) (c : LeafContext) → (framed f c).marks ≡ c.marks
marks-framed None c = refl
marks-framed (Some f) c = refl

marks-left : (m : Mark) (f : Option FrameNo) (c : LeafContext) → (left m f c).marks ≡ unless_first m c.marks
marks-left m f c = go (is_first m c.marks)
  where
    go : (b : Bool) → (cond b (unmarked c) (framed f (entered m c))).marks ≡ cond b (unmarked c).marks (entered m c).marks
    go true = refl
    go false = marks-framed f (entered m c)

marks-act : (x : Change) (c : LeafContext) → (act x c).marks ≡ remark x c.marks
marks-act (Enter m) c = refl
marks-act (Leave m f) c = marks-left m f c
marks-act (Stamp f) c = refl

-- the marks change on their own
pub marks-acts : (xs : List Change) (c : LeafContext) → (acts xs c).marks ≡ remarks xs c.marks
marks-acts [] c = refl
marks-acts (x ∷ xs) c = marks-acts xs (act x c) ∙ ap (remarks xs) (marks-act x c)
