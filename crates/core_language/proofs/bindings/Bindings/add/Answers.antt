use Rattle.std.proofs.Common.{ap, ◌∙◌, ◌∷◌, ◌++◌, [], List}
use Rattle.indexmap.proofs.CallerLemmas.{insert_entry-new}
use Rattle.base_data.specs.declared.name.Label.{Label}
use Rattle.core_language.specs.declared.binding.Binding.{Binding}
use Rattle.core_language.specs.Labels.{same_label}
use Rattle.core_language.specs.Bindings.{bound_to}
use Rattle.core_language.proofs.bindings.Bindings.add.Goals as goal

pub returns-in-Ok-clause-ok : goal.returns-in-Ok-clause-ok
returns-in-Ok-clause-ok c =
    let l = c.args.label in
    c.in-Ok.ensures.entries
    ∙ insert_entry-new same_label c.self.inside.rows l c.args.binding (ap (λ (es : List (Label × Binding)). bound_to es l) c.self.view_is ∙ c.requires)
    ∙ ap (λ (es : List (Label × Binding)). es ++ (l, c.args.binding) ∷ []) c.self.view_is
