use Rattle.std.proofs.Common.{◌≡◌, Bool, List, map, ap, ◌∙◌, subst}
use Rattle.std.specs.Prelude.{IfOk}
use Rattle.base_data.specs.declared.name.Label.{Label}
use Rattle.core_language.specs.Labels.{same_label}
use Rattle.core_language.specs.declared.binding.Binding.{Binding}
use Rattle.law_core.specs.Words.{once}
use Rattle.expand_follows.proofs.names.bindings_once.Goals as goal

pub returns : goal.returns
returns c =
    subst (λ (labels : List Label). IfOk c.once.result (λ (b : Bool). b ≡ once same_label labels))
    (c.into_vec.ensures ∙ c.in_ok-labels.ensures ∙ ap (map (λ (b : Label × Binding). b.0)) c.as_slice.ensures) c.once.ensures
