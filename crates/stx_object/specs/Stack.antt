-- The elements of a stack.
use Rattle.std.specs.Prelude.{List, [], ◌∷◌, Option, None, Some}
use Rattle.std.specs.declared.rc.Rc.{Rc}
use Rattle.stx_object.specs.declared.stack.StackLevel.{StackLevel}

abbrev pub items_of : {T A : Type 0} → Option (Rc (StackLevel T) A) → List T
items_of None = []
items_of (Some l) = l.value.item ∷ l.value.below
