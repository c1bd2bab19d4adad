use Rattle.std.proofs.Common.{◌≡◌, ◌+◌, ◌-◌, ◌<◌, drop, get_or, length, sym, ap, ◌∙◌, arith}
use Rattle.eval_stage.specs.Libraries.{needed_records, is_marked, with_refs_if, wanted}
use Rattle.eval_stage.proofs.Records.{wanted_here, wanted_end}
use Rattle.eval_stage.proofs.libraries.LibraryList.add_wanted.Goals as goal

pub loop-place-init : goal.loop-place-init
loop-place-init c = record {
  within = omega arith;
  so_far = sym (wanted_end c.args.self.now c.args.earlier.now.needs.now c.args.earlier.now.records.now (length c.args.earlier.now.records.now) (omega arith));
}

pub loop-place-preserved : goal.loop-place-preserved
loop-place-preserved c =
    let ms = c.args.earlier.now.needs.now in
    let rs = c.args.earlier.now.records.now in
    let place = c.loop-place.place - 1 in
    let r = c.index-earlier-place.result in
    let back : c.loop-place.place ≡ c.loop-place.place - 1 + 1 = omega arith in
    let there : c.loop-place.place - 1 < length c.args.earlier.now.records.now = omega arith in
    record {
      within = omega arith;
      so_far = c.in_ok-add_refs_if.ensures
          ∙ ap (λ m. with_refs_if m (get_or rs place r) c.loop-place.self) c.is_marked-needed.ensures
          ∙ ap (with_refs_if (is_marked ms place) (get_or rs place r)) (c.loop-place.invariant.so_far ∙ ap (λ n. wanted (needed_records (drop n ms) (drop n rs)) c.args.self.now) back)
          ∙ sym (wanted_here c.args.self.now ms rs place r there);
    }
