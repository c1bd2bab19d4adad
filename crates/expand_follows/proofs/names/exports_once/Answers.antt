use Rattle.std.proofs.Common.{◌≡◌, ℕ, Bool, List, map, ap, ◌∙◌, subst}
use Rattle.std.specs.Prelude.{IfOk}
use Rattle.base_data.specs.declared.imported_name.ImportedName.{ImportedName}
use Rattle.law_core.specs.Records.{same_text}
use Rattle.law_core.specs.Words.{once}
use Rattle.expand_follows.proofs.names.exports_once.Goals as goal

pub returns : goal.returns
returns c =
    subst (λ (names : List (List ℕ)). IfOk c.once.result (λ (b : Bool). b ≡ once same_text names))
    (c.into_vec.ensures ∙ c.in_ok-names.ensures ∙ ap (map (λ (e : ImportedName). e.name)) c.as_slice.ensures) c.once.ensures
