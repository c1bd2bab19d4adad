-- Which templates of `quasiquote` and `quasisyntax` the report has a meaning for (R6RS 11.17; libraries 12.8).
use Rattle.std.specs.Prelude.{ℕ, zero, Bool, true, false, ◌&&◌, ◌||◌, is_some, if◌then◌else◌}
use Rattle.stx_tree.specs.Tree.{Tree, atom, leaf, pair, vector}
use Rattle.core_shapes.specs.Lists.{is_nil, tail_of}
use Rattle.core_quasi.specs.Words.{WordOf}
use Rattle.core_quasi.specs.declared.word.QuasiWord.{QuasiWord}
use Rattle.core_quasi.specs.declared.word.QuasiWord.TheVariants as word
use Rattle.law_quasi.specs.Filled.{AtLevels, level_behind, only, is_tail}

-- Where an ellipsis escapes a template of `quasisyntax`, the list stays as it is. In a template of `quasiquote` none does.
abbrev pub none_stays : QuasiWord → Bool
none_stays x = false

abbrev pub ellipsis_stays : QuasiWord → Bool
ellipsis_stays word.Escape = true
ellipsis_stays x = false

-- whether `(word e ...)` stands for its operands: it must end in the empty list
abbrev pub stands_for_operands : QuasiWord → Bool → Bool
stands_for_operands word.Lower ends = ends
stands_for_operands word.Splice ends = ends
stands_for_operands word.Raise ends = false
stands_for_operands word.Escape ends = false
stands_for_operands word.Plain ends = false

module _ (w : WordOf) where
  -- An element of a list or vector, which is itself well formed or not: at level 0 `(unquote e ...)` and `(unquote-splicing e ...)` stand for
  -- their operands, however many.
  abbrev pub element_formed : ℕ → Tree → Bool → Bool
  element_formed zero (pair s h d) formed = stands_for_operands (w h) (is_nil (tail_of d)) || formed
  element_formed n t formed = formed

  -- A list of a head and a rest, by the word of its head: at level 0 `(unquote e)` has one operand, and nothing else stands there behind
  -- `unquote` or `unquote-splicing`.
  abbrev pub list_formed : ℕ → Tree → Tree → AtLevels Bool → QuasiWord → Bool
  list_formed zero a d formed word.Lower = is_some (only d)
  list_formed zero a d formed word.Splice = false
  list_formed n a d formed x = element_formed (level_behind x n) a (formed.first (level_behind x n)) && formed.rest n (level_behind x n)

abbrev mutual
  -- a template at a level
  pub is_formed : (QuasiWord → Bool) → WordOf → Tree → ℕ → Bool
  is_formed stays w (atom s a) n = true
  is_formed stays w (leaf s x c) n = true
  is_formed stays w (pair s a d) n =
      (stays (w a) && is_some (only d)) || list_formed w n a d (record { first = is_formed stays w a; rest = rest_is_formed stays w d }) (w a)
  is_formed stays w (vector s d) n = items_are_formed stays w d n

  -- the rest of a list at the first of these levels, whose elements are at the second: `(1 . (unquote x))` is read as `(1 unquote x)`
  pub rest_is_formed : (QuasiWord → Bool) → WordOf → Tree → ℕ → ℕ → Bool
  rest_is_formed stays w (atom s a) n m = true
  rest_is_formed stays w (leaf s x c) n m = true
  rest_is_formed stays w (pair s a d) n m =
      if is_tail w a d then list_formed w n a d (record { first = is_formed stays w a; rest = rest_is_formed stays w d }) (w a)
      else element_formed w m a (is_formed stays w a m) && rest_is_formed stays w d n m
  rest_is_formed stays w (vector s d) n m = items_are_formed stays w d n

  -- the elements of a vector
  pub items_are_formed : (QuasiWord → Bool) → WordOf → Tree → ℕ → Bool
  items_are_formed stays w (atom s a) n = true
  items_are_formed stays w (leaf s x c) n = true
  items_are_formed stays w (pair s a d) n = element_formed w n a (is_formed stays w a n) && items_are_formed stays w d n
  items_are_formed stays w (vector s d) n = true
