use Rattle.std.proofs.Common.{List, ap, ◌∙◌}
use Rattle.std.specs.List.{flat_map}
use Rattle.core_language.specs.Labels.{same_label}
use Rattle.law_core.specs.Records.{defined}
use Rattle.core_language.specs.declared.record.CompiledLibrary.{CompiledLibrary}
use Rattle.law_core.specs.Words.{among}
use Rattle.expand_follows.specs.Earlier.{is_needed}
use Rattle.expand_follows.proofs.Tables.{defined_needed}
use Rattle.expand_follows.proofs.earlier.NeededEarlier.has_defined.Goals as goal

pub returns : goal.returns
returns c =
    c.is_needed.ensures ∙ ap (is_needed c.self.inside.marks.now) c.get.ensures.value
    ∙ defined_needed c.self.inside.places.now c.self.inside.records.now c.self.invariant c.self.inside.marks.now c.args.label.now
    ∙ ap (λ (rs : List CompiledLibrary). among same_label (flat_map defined rs) c.args.label.now) c.self.view_is
