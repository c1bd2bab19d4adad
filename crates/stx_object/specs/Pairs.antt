-- A list that becomes longer by one element.
use Rattle.std.specs.Prelude.{◌≡◌, ℕ, ◌+◌, ◌≤◌, max, Option, None, Some}
use Rattle.stx_tree.specs.Tree.{Tree}
use Rattle.stx_tree.specs.Measures.{Fits, max_height, max_size}
use Rattle.stx_object.specs.KeptView.{IsExtent}
use Rattle.stx_object.specs.Lengths.{IsOneMore}
use Rattle.stx_object.specs.declared.kept.HeightAndSize.{HeightAndSize}

-- the extent of a tree within the limits, or none where it passes them
abbrev pub Extends : Option HeightAndSize → Tree → Type 0
Extends None t = ¬ Fits t
Extends (Some e) t = IsExtent e t × Fits t

-- the height of a list with one more element before a rest
abbrev pub grown_height : HeightAndSize → HeightAndSize → ℕ → ℕ
grown_height element rest joint = max (element.height + 1) (rest.height + joint)

abbrev pub grown_size : HeightAndSize → HeightAndSize → ℕ → ℕ
grown_size element rest joint = element.size + (rest.size + joint)

abbrev pub Grows : Option HeightAndSize → (height size rest : ℕ) → Type 0
Grows None h n k = ¬ ((h ≤ max_height) × (n ≤ max_size))
Grows (Some e) h n k = (e.height ≡ h) × (e.size ≡ n) × (h ≤ max_height) × (n ≤ max_size) × IsOneMore e.counted k
