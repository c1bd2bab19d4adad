-- Forms, and what was taken of a body so far, which can be read.
use Rattle.std.specs.Prelude.{List}
use Rattle.stx_tree.specs.Tree.{Tree}
use Rattle.core_shapes.specs.declared.shape.FormalIds.{FormalIds}
use Rattle.expand_heads.specs.declared.taken.Taken.{Taken}
use Rattle.law_invariant_expansion.specs.Forms as forms
use Rattle.law_readable.specs.Readable.{readable}

abbrev pub ReadableTrees : List Tree → Type 0
ReadableTrees = forms.TreesHold readable

abbrev pub ReadableFormals : FormalIds → Type 0
ReadableFormals = forms.FormalsHold readable

-- the forms that wait for the second pass over a body
abbrev pub ReadableTaken : Taken → Type 0
ReadableTaken = forms.TakenHolds readable
