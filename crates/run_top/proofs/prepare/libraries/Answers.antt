use Rattle.std.proofs.Common.{◌≡◌, ◌∙◌, ◌+◌, ◌++◌, ℕ, List, map, drop, sym, ap}
use Rattle.load_files.specs.declared.found.Found.{Found}
use Rattle.load_report.specs.declared.report.Fate.TheVariants.{Expanded}
use Rattle.load_report.specs.declared.report.Told.{Told}
use Rattle.run_top.specs.Whole.{told}
use Rattle.run_top.proofs.ToldLemmas.{told_on}
use Rattle.run_top.proofs.prepare.libraries.Goals as goal

pub loop-place-preserved : goal.loop-place-preserved
loop-place-preserved c =
    let rows = c.args.loading.now.done in
    let row : List ℕ × Found = (c.in-Some.field-0-0.now, c.in-Some.found.now) in
    let one : Told = record { fate = Expanded; library = c.in_ok-library.library } in
    ap (λ all. all ++ map told (drop (c.loop-place.place + 1) rows)) c.in_ok-push.ensures.ok
    ∙ told_on rows c.loop-place.place c.loop-place.all (map told rows) row one (sym c.in-Some.ensures) (ap (λ l. record { fate = Expanded; library = l }) c.in_ok-library.ensures) c.loop-place.invariant
