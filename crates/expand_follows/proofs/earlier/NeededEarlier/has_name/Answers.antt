use Rattle.std.proofs.Common.{List, ap, ◌∙◌}
use Rattle.base_data.specs.Same.{same_library}
use Rattle.law_core.specs.Follows.{names_of}
use Rattle.core_language.specs.declared.record.CompiledLibrary.{CompiledLibrary}
use Rattle.law_core.specs.Words.{among}
use Rattle.expand_follows.specs.Earlier.{is_needed}
use Rattle.expand_follows.proofs.Tables.{name_needed}
use Rattle.expand_follows.proofs.earlier.NeededEarlier.has_name.Goals as goal

pub returns : goal.returns
returns c =
    c.is_needed.ensures ∙ ap (is_needed c.self.inside.marks.now) c.get.ensures.value
    ∙ name_needed c.self.inside.places.now c.self.inside.records.now c.self.invariant c.self.inside.marks.now c.args.name.now
    ∙ ap (λ (rs : List CompiledLibrary). among same_library (names_of rs) c.args.name.now) c.self.view_is
