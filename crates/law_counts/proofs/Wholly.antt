-- Uses are counted over the expansion of a library.
use Rattle.std.proofs.Common.{◌≡◌, ◌+◌, ℕ, List, [], Option, None, Some, refl, arith}
use Rattle.base_data.specs.Act.{after, give}
use Rattle.base_data.specs.declared.imported_name.ImportedName.{ImportedName}
use Rattle.base_data.specs.declared.library.LibName.{LibName}
use Rattle.base_data.specs.declared.name.Label.{Label}
use Rattle.stx_tree.specs.Changes.{stamp}
use Rattle.stx_tree.specs.Tree.{Tree}
use Rattle.stx_scope.specs.Stands.{stands}
use Rattle.core_language.specs.declared.record.CompiledLibrary.{CompiledLibrary}
use Rattle.eval_code.specs.Codes.{Codes}
use Rattle.expand_standing.specs.Own.{export_labels}
use Rattle.expand_standing.specs.Start.{started}
use Rattle.expand_standing.specs.State.{State}
use Rattle.expand_forms.specs.Top.{stands_for, export, all_exports, exports}
use Rattle.expand_forms.specs.declared.top.TopAt.{TopAt}
use Rattle.law_references.specs.Records.{RunIsRight}
use Rattle.law_uses.proofs.Counted.{uses-counted}
use Rattle.law_counts.specs.Counted.{UsesAreCountedInWhole}
use Rattle.law_counts.specs.Made.{items_made, lines_made}
use Rattle.law_counts.proofs.Settling.{settled-by, item-by}
use Rattle.law_counts.proofs.Standing.{Keeps, keeps-after, keeps-each, keeps-given}
use Rattle.law_counts.proofs.Walking.{count-made, count-items_made, count-lines_made}

export-keeps : (at : TopAt) (e : List ℕ × Tree) (s : State) → Keeps s (export at e s)
unfolding export
export-keeps at e s = by (stands s.frames (stamp at.frame e.1))
  where
    by : (o : Option Label) → Keeps s (stands_for at.place e.0 (stamp at.frame e.1) o s)
    by None = tt
    by (Some l) = refl

exports-keep : (at : TopAt) (es : List (List ℕ × Tree)) (s : State) → Keeps s (exports at es s)
unfolding exports
exports-keep at es s =
    keeps-after s (all_exports at es s) (λ ls t. after (export_labels ls t) (λ _. give ls)) (keeps-each (export at) (λ e t. export-keeps at e t) [] es s) (λ ls t. refl)

record-counted : (libs : List LibName) (own : LibName) (records : List CompiledLibrary) (imports : List ImportedName) (codes : Codes) (at : TopAt) (es : List (List ℕ × Tree)) (fs : List Tree) (r : CompiledLibrary)
    (h : RunIsRight libs own records (started own records imports codes) at es fs r) → (items_made h.taking + lines_made h.ends) + h.last.uses_left ≡ 1000000
record-counted libs own records imports codes at es fs r h =
    let begins = uses-counted.starts own records imports codes in
    let first = count-items_made records h.taking in
    let between = keeps-given h.first h.looks (exports-keep at es h.first) in
    let second = count-lines_made records h.ends in
    omega (arith, begins, first, between, second)

pub counted-in-whole : UsesAreCountedInWhole
counted-in-whole = record {
  settled = λ rs level place t s v d e. settled-by rs level place t s v d e;
  items = λ rs depth at done end t s v d e. item-by rs depth at done end t s v d e;
  forms = λ rs place level t s u c x h. count-made rs h;
  first = λ rs at depth done end ts s u es h. count-items_made rs h;
  second = λ rs level ws s u xs h. count-lines_made rs h;
  libraries = record-counted;
}
