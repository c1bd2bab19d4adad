-- Sets of pattern variables, and things that come one after another.
use Rattle.std.specs.Prelude.{ℕ, Bool, true, not, ◌&&◌, List, [], ◌∷◌, ◌++◌, Option, None, Some, if◌then◌else◌}
use Rattle.std.specs.List.{list_any}
use Rattle.base_data.specs.declared.name.Label.{Label}
use Rattle.core_language.specs.Core.{PlainCore}
use Rattle.law_core.specs.Templates.{Depths, same_depth, templates_suit}

-- pattern variables with their depths, each once, in the order of coming
abbrev pub has_depth_of : Depths → Label × ℕ → Bool
has_depth_of vs v = list_any (same_depth v) vs

abbrev pub with_depth : Depths → Label × ℕ → Depths
with_depth vs v = if has_depth_of vs v then vs else vs ++ v ∷ []

abbrev pub with_depths : Depths → Depths → Depths
with_depths vs [] = vs
with_depths vs (w ∷ ws) = with_depths (with_depth vs w) ws

abbrev pub output_suits : Depths → Option PlainCore → PlainCore → Bool
output_suits vs None c = templates_suit vs c
output_suits vs (Some f) c = templates_suit vs f && templates_suit vs c

-- things that come one after another: each is new
abbrev pub once_behind : {A : Type 0} → (A → A → Bool) → List A → List A → Bool
once_behind same seen [] = true
once_behind same seen (x ∷ xs) = not (list_any (same x) seen) && once_behind same (seen ++ x ∷ []) xs
