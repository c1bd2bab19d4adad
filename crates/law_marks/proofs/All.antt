-- All that marks under other names leave alike.
use Rattle.std.specs.Prelude.{[]}
use Rattle.base_data.specs.declared.name.Mark.{Mark}
use Rattle.stx_tree.specs.Renaming.{IsOneToOne}
use Rattle.stx_tree.proofs.RenamingLaws.{renamed-changed}
use Rattle.stx_scope.proofs.SameLaws.{stands-renamed, same_binding-renamed, same_binder-renamed}
use Rattle.law_matches.proofs.Renamed.{same}
use Rattle.law_templates.proofs.Renamed.{instance-renamed}
use Rattle.law_marks.specs.Alike.{LeavesAlike, MarksAreNames}
use Rattle.law_marks.proofs.Framed.{binder-renamed, frames-alike}

pub leaves-alike : (r : Mark → Mark) → IsOneToOne r → LeavesAlike r
leaves-alike r one = record {
  stands = stands-renamed r one;
  binder = binder-renamed r one;
  same_binding = same_binding-renamed r one;
  same_binder = same_binder-renamed r one;
}

pub marks-are-names : (r : Mark → Mark) → IsOneToOne r → MarksAreNames r
marks-are-names r one = record {
  trees = renamed-changed r one;
  frames = frames-alike r one;
  leaves = leaves-alike r one;
  matches = λ fs cells p v s. same r one fs cells p v s;
  instances = λ a bs t cells. instance-renamed r a bs t [] cells;
}
