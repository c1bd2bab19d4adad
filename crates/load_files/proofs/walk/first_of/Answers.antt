use Rattle.std.proofs.Common.{◌≡◌, Bool, List, ap, ◌∙◌}
use Rattle.load_files.specs.Found.{no_needs}
use Rattle.load_files.specs.declared.found.Open.{Open}
use Rattle.load_files.proofs.walk.first_of.Goals as goal

pub returns : goal.returns
unfolding no_needs
returns c =
    let marks : c.from_vec-needs.result ≡ no_needs = c.from_vec-needs.ensures ∙ c.in_ok-vec.ensures.items_if_clones_equal (λ y e. e) in
    ap (λ (needs : List Bool). let o : Open = record { opened = c.args.opened; room = c.args.room; next = 0; needs = needs } in o) marks
