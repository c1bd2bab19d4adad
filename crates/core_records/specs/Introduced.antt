-- The identifiers that record forms introduce, and what is built of them.
use Rattle.std.specs.Prelude.{ℕ, Bool, List, [], ◌∷◌, codes, None, Result}
use Rattle.base_data.specs.declared.atom.Atom.TheVariants as atoms
use Rattle.base_data.specs.declared.fault.Bare.{Bare}
use Rattle.base_data.specs.declared.library.LibName.TheVariants as library
use Rattle.base_data.specs.declared.name.FrameNo.{FrameNo}
use Rattle.stx_tree.specs.Context.{blank}
use Rattle.stx_tree.specs.Measures.{within}
use Rattle.stx_tree.specs.Tree.{Tree, atom, leaf, list_of, vector_of}
use Rattle.stx_tree.specs.declared.stamp.Stamp.{Stamp}

-- the frame in which the names of the implementation stand for themselves
abbrev pub core_frame : FrameNo
core_frame = record { 0 = record { library = library.Core; number = 0 } }

abbrev pub core_stamp : Stamp
core_stamp = record { frame = core_frame; marks = [] }

-- an identifier that stands for a name of the implementation, whatever is imported
abbrev pub introduced : List ℕ → Tree
introduced x = leaf None x (record { marks = []; stamps = core_stamp ∷ [] })

-- an identifier of the definitions alone
abbrev pub plain : List ℕ → Tree
plain x = leaf None x blank

abbrev pub boolean : Bool → Tree
boolean b = atom None (atoms.Bool b)

-- a tree within the limits of trees
abbrev pub Made : Type 0
Made = Result Tree Bare

abbrev pub list_made : List Tree → Made
list_made ts = within (list_of ts None)

abbrev pub list_of_two : Tree → Tree → Made
list_of_two t u = list_made (t ∷ (u ∷ []))

abbrev pub list_of_three : Tree → Tree → Tree → Made
list_of_three t u v = list_made (t ∷ (u ∷ (v ∷ [])))

abbrev pub vector_made : List Tree → Made
vector_made ts = within (vector_of ts)

abbrev pub quoted : Tree → Made
quoted t = list_of_two (introduced (codes "quote")) t
