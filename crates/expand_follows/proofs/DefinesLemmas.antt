-- The variables of the top.
use Rattle.std.proofs.Common.{◌≡◌, Bool, true, false, List, [], ◌∷◌, refl, sym, ap, ◌∙◌}
use Rattle.std.specs.Prelude.{◌&&◌, if◌then◌else◌}
use Rattle.base_data.specs.declared.name.Label.{Label}
use Rattle.core_language.specs.Labels.{has_label, same_label}
use Rattle.core_language.specs.declared.binding.Binding.{Binding}
use Rattle.core_language.specs.declared.binding.Binding.TheVariants as binding
use Rattle.law_core.specs.Follows.{top_label}
use Rattle.law_core.specs.Words.{among, each}
use Rattle.core_well_made.proofs.Sets.{has_is_among}
use Rattle.expand_follows.specs.Pieces.{is_top}

pub top_label_is : (l : Label) (b : Binding) → top_label (l, b) ≡ (if is_top b then l ∷ [] else [])
top_label_is l (binding.Variable v) = refl
top_label_is l (binding.PatternVariable level depth) = refl
top_label_is l (binding.Macro level expression) = refl
top_label_is l (binding.Core form) = refl
top_label_is l (binding.Primitive o) = refl

and_true : (b : Bool) → b ≡ (b && true)
and_true true = refl
and_true false = refl

-- a label alone
pub one_among : (ls : List Label) (l : Label) → has_label ls l ≡ each (among same_label ls) (l ∷ [])
one_among ls l = has_is_among ls l ∙ and_true (among same_label ls l)

pub top_among : (ls : List Label) (l : Label) (b : Binding) → is_top b ≡ true → has_label ls l ≡ each (among same_label ls) (top_label (l, b))
top_among ls l b h = one_among ls l ∙ ap (each (among same_label ls)) (sym (top_label_is l b ∙ ap (λ c. if c then l ∷ [] else []) h))
