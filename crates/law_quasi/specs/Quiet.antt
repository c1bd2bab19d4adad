-- Templates in which nothing is unquoted.
use Rattle.std.specs.Prelude.{Bool, true, false, ◌&&◌}
use Rattle.stx_tree.specs.Tree.{Tree, atom, leaf, pair, vector}
use Rattle.core_quasi.specs.Words.{WordOf}
use Rattle.core_quasi.specs.declared.word.QuasiWord.{QuasiWord}
use Rattle.core_quasi.specs.declared.word.QuasiWord.TheVariants as word

abbrev pub is_quiet_word : QuasiWord → Bool
is_quiet_word word.Raise = true
is_quiet_word word.Lower = false
is_quiet_word word.Splice = false
is_quiet_word word.Escape = true
is_quiet_word word.Plain = true

-- no element of a list has the word of `unquote` or `unquote-splicing`
abbrev pub is_quiet : WordOf → Tree → Bool
is_quiet w (atom s a) = true
is_quiet w (leaf s x c) = true
is_quiet w (pair s a d) = is_quiet_word (w a) && (is_quiet w a && is_quiet w d)
is_quiet w (vector s d) = is_quiet w d
