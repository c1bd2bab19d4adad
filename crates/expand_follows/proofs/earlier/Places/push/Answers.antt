use Rattle.std.proofs.Common.{List, [], ◌∷◌, map, length, sym, ap, ◌∙◌}
use Rattle.std.specs.List.{flat_map}
use Rattle.base_data.specs.Same.{same_library}
use Rattle.core_language.specs.declared.record.Line.{Line}
use Rattle.law_core.specs.Records.{line_labels}
use Rattle.expand_follows.specs.Earlier.{adds, adds_labels}
use Rattle.expand_follows.proofs.Tables.{places_more}
use Rattle.expand_follows.proofs.earlier.Places.push.Goals as goal

pub returns : goal.returns
returns c = λ records are at.
    let was = c.args.self.now in
    places_more was _ records c.args.one.now are
    (ap (λ p. adds same_library was.names.entries (c.args.one.now.name ∷ []) p) (sym at) ∙ c.in_ok-put_name.ensures)
    (ap (λ bs. adds_labels was.bound.entries (map (λ b. b.0) bs) (length records)) (sym c.as_slice.ensures) ∙ ap (λ p. adds_labels was.bound.entries (map (λ b. b.0) c.as_slice.result.now) p) (sym at) ∙ c.in_ok-put_bound.ensures)
    (ap (λ (ls : List Line). adds_labels was.defined.entries (flat_map line_labels ls) (length records)) (sym c.as_slice-2.ensures) ∙ ap (λ p. adds_labels was.defined.entries (flat_map line_labels c.as_slice-2.result.now) p) (sym at) ∙ c.in_ok-put_defined.ensures)
