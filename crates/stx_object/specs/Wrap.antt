-- The changes that a wrap holds back from the leaves.
use Rattle.std.specs.Prelude.{◌≡◌, List, [], ◌∷◌, ◌++◌, Option, None, Some}
use Rattle.std.specs.declared.rc.Rc.{Rc}
use Rattle.stx_tree.specs.Context.{blank, acts}
use Rattle.stx_tree.specs.declared.change.Change.{Change}
use Rattle.stx_object.specs.declared.wrap.ChangeLink.{ChangeLink}

-- the first one first
abbrev pub pending : {A : Type 0} → Option (Rc ChangeLink A) → List Change
pending None = []
pending (Some l) = l.value.before ++ l.value.change ∷ []

-- what is kept is what the changes make of a leaf without marks and stamps
abbrev pub IsMade : {A : Type 0} → Option (Rc ChangeLink A) → Type 0
IsMade None = Unit {0}
IsMade (Some l) = l.value.made ≡ acts (l.value.before ++ l.value.change ∷ []) blank
