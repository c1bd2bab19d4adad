-- What marks under other names change: nothing but these names. Each statement is of one renaming of marks, one to one.
use Rattle.std.specs.Prelude.{◌≡◌, List, map, option_map, Result, Ok, Err, []}
use Rattle.base_data.specs.declared.fault.Bare.{Bare}
use Rattle.base_data.specs.declared.name.FrameNo.{FrameNo}
use Rattle.base_data.specs.declared.name.Mark.{Mark}
use Rattle.stx_tree.specs.Changes.{changed}
use Rattle.stx_tree.specs.Renaming.{renamed, renamed_change}
use Rattle.stx_tree.specs.Tree.{Tree}
use Rattle.stx_tree.specs.declared.change.Change.{Change}
use Rattle.stx_frames.specs.Renaming.{renamed_row, renamed_scope}
use Rattle.stx_frames.specs.Rows.{Row}
use Rattle.stx_frames.specs.Scope.{Scope, with_row, bound}
use Rattle.stx_scope.specs.Same.{same_binder, same_binding}
use Rattle.stx_scope.specs.Stands.{stands}
use Rattle.core_language.specs.Pattern.{PlainPattern}
use Rattle.core_language.specs.Template.{PlainTemplate}
use Rattle.eval_value.specs.declared.cell.Cell.{Cell}
use Rattle.eval_value.specs.declared.value.Value.{Value}
use Rattle.eval_pattern.specs.Matched.{matched}
use Rattle.eval_pattern.specs.declared.columns.PatternBinds.{PatternBinds}
use Rattle.eval_template.specs.Binds.{Binds, Absent}
use Rattle.eval_template.specs.Instance.{instance}
use Rattle.law_matches.specs.Renaming.{renamed_value, renamed_cell, renamed_pattern, renamed_found}
use Rattle.law_matches.specs.Renaming as binds
use Rattle.law_templates.specs.Renaming.{renamed_template, renamed_absent, renamed_made}
use Rattle.law_hygiene.specs.Binder.{binder_of}

-- the frames with their marks under other names, or the same fault
abbrev pub renamed_frames : (Mark → Mark) → Result Scope Bare → Result Scope Bare
renamed_frames r (Ok fs) = Ok (renamed_scope r fs)
renamed_frames r (Err f) = Err f

-- To enter, to leave and to stamp.
abbrev pub TreesAlike : (Mark → Mark) → Type 0
TreesAlike r = (xs : List Change) (t : Tree) → renamed r (changed xs t) ≡ changed (map (renamed_change r) xs) (renamed r t)

-- To bind, and to refuse a second binder.
pub record FramesAlike (r : Mark → Mark) : Type 0 where
  pub rows : (fs : Scope) (f : FrameNo) (row : Row) → renamed_scope r (with_row fs f row) ≡ with_row (renamed_scope r fs) f (renamed_row r row)
  pub bound : (fs : Scope) (f : FrameNo) (row : Row) → renamed_frames r (bound fs f row) ≡ bound (renamed_scope r fs) f (renamed_row r row)

-- What a leaf stands for, what captures it, and which leaves are the same.
pub record LeavesAlike (r : Mark → Mark) : Type 0 where
  pub stands : (fs : Scope) (t : Tree) → stands (renamed_scope r fs) (renamed r t) ≡ stands fs t
  pub binder : (fs : Scope) (t : Tree) → binder_of (renamed_scope r fs) (renamed r t) ≡ option_map (renamed_row r) (binder_of fs t)
  pub same_binding : (fs : Scope) (t u : Tree) → same_binding (renamed_scope r fs) (renamed r t) (renamed r u) ≡ same_binding fs t u
  pub same_binder : (t u : Tree) → same_binder (renamed r t) (renamed r u) ≡ same_binder t u

-- What a pattern takes of a value.
abbrev pub MatchesAlike : (Mark → Mark) → Type 0
MatchesAlike r = (fs : Scope) (cells : List Cell) (p : PlainPattern) (v : Value) (s : PatternBinds) →
    matched (renamed_scope r fs) (map (renamed_cell r) cells) (renamed_pattern r p) (renamed_value r v) (renamed_found r s)
    ≡ option_map (renamed_found r) (matched fs cells p v s)

-- What a template makes of binds.
abbrev pub InstancesAlike : (Mark → Mark) → Type 0
InstancesAlike r = (a : Absent) (bs : Binds) (t : PlainTemplate) (cells : List Cell) →
    instance (renamed_absent r a) (map (binds.renamed_row r) bs) (renamed_template r t) [] (map (renamed_cell r) cells)
    ≡ renamed_made r (renamed_value r) (instance a bs t [] cells)

-- All of them.
pub record MarksAreNames (r : Mark → Mark) : Type 0 where
  pub trees : TreesAlike r
  pub frames : FramesAlike r
  pub leaves : LeavesAlike r
  pub matches : MatchesAlike r
  pub instances : InstancesAlike r
