-- The parts of lists in the templates of `quasiquote` and `quasisyntax`.
use Rattle.std.specs.Prelude.{ℕ, zero, suc, ◌-◌, nat_le, Bool, true, false, List, [], ◌∷◌, length, slice_get, Option, None, Some, if◌then◌else◌}
use Rattle.base_data.specs.declared.fault.Bare.{Bare}
use Rattle.base_data.specs.declared.fault.FaultKind.TheVariants as kind
use Rattle.stx_tree.specs.Tree.{Tree, atom, leaf, pair, vector}
use Rattle.core_shapes.specs.Lists.{proper_elements, if_some}
use Rattle.core_quasi.specs.Words.{WordOf, head_word, counts}
use Rattle.core_quasi.specs.declared.word.QuasiWord.{QuasiWord}
use Rattle.core_quasi.specs.declared.word.QuasiWord.TheVariants as word
use Rattle.core_quasi.specs.declared.parts.QuasiTaken.{QuasiTaken}
use Rattle.core_quasi.specs.declared.parts.QuasiTaken.TheVariants as taken

-- a template that the report has no meaning for; it stands at the whole form
abbrev pub bad : Bare
bad = record { kind = kind.BadForm; words = [] }

-- the list behind so many elements
abbrev pub rest_at : ℕ → Tree → Tree
rest_at zero t = t
rest_at (suc n) (atom s a) = atom s a
rest_at (suc n) (leaf s x c) = leaf s x c
rest_at (suc n) (pair s a d) = rest_at n d
rest_at (suc n) (vector s d) = vector s d

abbrev pub counts_at : WordOf → Option Tree → Bool
counts_at w None = false
counts_at w (Some t) = counts (w t)

-- Whether the last two elements of a list are its tail: `(1 . ,x)` is the list `(1 unquote x)`. The first element is no tail.
abbrev pub splits : WordOf → Bool → List Tree → Bool
splits w ends ts = if ends then (if nat_le 3 (length ts) then counts_at w (slice_get ts (length ts - 2)) else false) else false

abbrev pub behind_head : List Tree → Option (List Tree)
behind_head [] = None
behind_head (head ∷ operands) = Some operands

-- the operands of a form
abbrev pub operands : Tree → Option (List Tree)
operands t = if_some (proper_elements t) behind_head

abbrev pub taken_by : QuasiWord → Option (List Tree) → QuasiTaken
taken_by word.Lower (Some es) = taken.Each es
taken_by word.Splice (Some es) = taken.Spliced es
taken_by _ _ = taken.Kept

-- what an element of a list or vector at a level gives: expressions, or a part of its own
abbrev pub taken_at : WordOf → ℕ → Tree → QuasiTaken
taken_at w zero t = taken_by (head_word w t) (operands t)
taken_at w (suc n) t = taken.Kept

-- the word of the first of these
abbrev pub first_word : WordOf → List Tree → QuasiWord
first_word w [] = word.Plain
first_word w (t ∷ ts) = w t

-- the only operand behind a head, of a list that ends
abbrev pub operand_of : Bool → List Tree → Option Tree
operand_of true (head ∷ (e ∷ [])) = Some e
operand_of ends ts = None
