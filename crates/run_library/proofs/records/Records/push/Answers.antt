use Rattle.std.proofs.Common.{◌≡◌, length, take, refl, ap, sym, ◌∙◌}
use Rattle.run_library.specs.Records.{first_place, place_in}
use Rattle.run_library.proofs.FirstLemmas.{pushed, taken_back}
use Rattle.run_library.proofs.records.Records.push.Goals as goal

pub invariant_of-self-in-Ok : goal.invariant_of-self-in-Ok
invariant_of-self-in-Ok c =
    pushed c.self.inside.places.entries c.put_place.new.places.entries c.self.inside.list c.push.new.self c.args.last c.args.last c.in_ok-name.name (length c.as_slice-place.result.now)
    c.self.invariant c.in_ok-put_place.ensures.ok c.in_ok-name.ensures (ap length c.as_slice-place.ensures) refl c.in-Ok.ensures.ok

pub invariant_of-self-in-Err : goal.invariant_of-self-in-Err
invariant_of-self-in-Err c =
    let rows = c.self.inside.places.entries in
    let count : c.len-count.result ≡ length rows = c.len-count.ensures.len in
    let back : c.truncate.new.self.entries ≡ rows =
    c.truncate.ensures.entries ∙ ap (λ n. take n c.put_place.new.places.entries) count ∙ ap (take (length rows)) c.in_ok-put_place.ensures.ok
    ∙ taken_back rows c.in_ok-name.name (length c.as_slice-place.result.now) in
    λ q. ap (place_in q) back ∙ c.self.invariant q ∙ sym (ap (first_place q) c.in-Err.ensures.err)
