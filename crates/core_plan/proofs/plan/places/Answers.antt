use Rattle.std.proofs.Common.{arith, ◌≡◌, ◌+◌, ◌-◌, ◌<◌, drop, length, ap, ◌∙◌, Bor}
use Rattle.base_data.specs.declared.library.LibName.{LibName}
use Rattle.core_plan.specs.Places.{place_from, place_in}
use Rattle.core_plan.proofs.PlaceLemmas.{place_put}
use Rattle.core_plan.proofs.plan.places.Goals as goal

pub loop-left-preserved : goal.loop-left-preserved
loop-left-preserved c =
    let back : c.loop-left.left ≡ c.loop-left.left - 1 + 1 = omega arith in
    let there : c.loop-left.left - 1 < length c.args.records.now = omega arith in
    record {
      within = omega arith;
      kept = λ name.
          let q : Bor LibName = record { ref_ptr = c.args.records.ref_ptr; now = name } in
          c.in_ok-insert.ensures.updates.0 q
          ∙ place_put c.args.records.now (c.loop-left.left - 1) c.index-records-left.result name (place_in c.loop-left.places.entries name) there
          (c.loop-left.invariant.kept name ∙ ap (λ n. place_from n name (drop n c.args.records.now)) back);
    }
