-- The elements below the first are fewer.
use Rattle.std.specs.Prelude.{◌≤◌, length, None, Some}
use Rattle.std.proofs.Common.{arith}
use Rattle.stx_object.specs.declared.stack.StackLevel.{StackLevel}
use Rattle.stx_object.specs.declared.stack.Stack.TheDeep.{deep-StackLevel}
use Rattle.stx_object.specs.declared.stack.Stack.TheShapes.{weighed-Stack-top}
use Rattle.stx_object.specs.Stack.{items_of}

pub items_fall : {T : Type 0} (o : _) → (weighed-Stack-top T).weight (StackLevel T) (deep-StackLevel T) o ≤ length (items_of o)
items_fall None = omega arith
items_fall (Some l) = omega arith
