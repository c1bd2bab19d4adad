-- A use of my-or, (lambda (t) (my-or #f t)), with its template (let ((t a)) (if t t b)).
use Rattle.std.specs.Prelude.{◌≡◌, ℕ, List, [], ◌∷◌, None, Some}
use Rattle.base_data.specs.declared.library.LibName.TheVariants as library
use Rattle.base_data.specs.declared.name.FrameNo.{FrameNo}
use Rattle.base_data.specs.declared.name.Label.{Label}
use Rattle.base_data.specs.declared.name.Mark.{Mark}
use Rattle.stx_tree.specs.Changes.{enter, leave, stamp}
use Rattle.stx_tree.specs.Context.{blank}
use Rattle.stx_tree.specs.Tree.{Tree, leaf}
use Rattle.stx_frames.specs.Scope.{Scope, with_row}
use Rattle.stx_scope.specs.Stands.{stands, row_for}

abbrev use_mark : Mark
use_mark = record { 0 = record { library = library.Program; number = 0 } }

abbrev frame : ℕ → FrameNo
frame n = record { 0 = record { library = library.Program; number = n } }

abbrev label : ℕ → Label
label n = record { 0 = record { library = library.Program; number = n } }

-- t, and if
abbrev named : List ℕ → Tree
named x = leaf None x blank

abbrev t_name : List ℕ
t_name = 116 ∷ []

abbrev if_name : List ℕ
if_name = 105 ∷ 102 ∷ []

-- the frame 0 is that of the program, with `if`; 1 is that of the `lambda`, and 2 that of the `let`
abbrev program_t : Tree
program_t = stamp (frame 1) (stamp (frame 0) (named t_name))

abbrev template_t : Tree
template_t = stamp (frame 0) (named t_name)

abbrev template_if : Tree
template_if = stamp (frame 0) (named if_name)

-- left with the mark, and under the `let`
abbrev out : Tree → Tree
out t = stamp (frame 2) (leave use_mark None t)

abbrev scope : Scope
scope = with_row (with_row (with_row [] (frame 0) (row_for (named if_name) (label 0))) (frame 1) (row_for (named t_name) (label 1)))
    (frame 2) (row_for (leave use_mark None template_t) (label 2))

pub record MyOr : Type 0 where
  -- the `t` of the `lambda` goes in and comes out as that of the `lambda`
  pub came_in : stands scope (out (enter use_mark program_t)) ≡ Some (label 1)
  -- the `t` of the template is that of the `let`
  pub introduced : stands scope (out template_t) ≡ Some (label 2)
  -- and its `if` is that of the program
  pub kept : stands scope (out template_if) ≡ Some (label 0)
  -- without the mark the `let` would capture the `t` of the `lambda`
  pub mixed_up : stands scope (stamp (frame 2) (leave use_mark None program_t)) ≡ Some (label 2)
