use Rattle.std.proofs.Common.{◌∙◌, ◌+◌, ◌++◌, ℕ, List, map, drop, sym, ap}
use Rattle.load_import.specs.declared.set.NameAt.{NameAt}
use Rattle.run_library.specs.Library.{export_tree}
use Rattle.run_library.proofs.ExportLemmas.{tree_on}
use Rattle.run_library.proofs.library.export_trees.Goals as goal

pub loop-place-preserved : goal.loop-place-preserved
loop-place-preserved c =
    let row : List ℕ × NameAt = (c.in-Some.external.now, c.in-Some.internal.now) in
    ap (λ r. r ++ map export_tree (drop (c.loop-place.place + 1) c.args.exports.now)) c.in_ok-push.ensures.ok
    ∙ tree_on c.args.exports.now c.loop-place.place c.loop-place.trees (map export_tree c.args.exports.now) row c.in_ok-share.field-0 c.in_ok-tree.tree (sym c.in-Some.ensures) c.in_ok-share.ensures c.in_ok-tree.ensures c.loop-place.invariant
