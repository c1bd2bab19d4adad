-- What the heads of lists do in the templates of `quasiquote` and `quasisyntax`.
use Rattle.std.specs.Prelude.{ℕ, zero, suc, ◌-◌, Bool, true, false, nat_eq, Option, None, Some, if◌then◌else◌}
use Rattle.base_data.specs.Same.{same_library}
use Rattle.base_data.specs.declared.library.LibName.TheVariants as library
use Rattle.base_data.specs.declared.name.Label.{Label}
use Rattle.stx_tree.specs.Tree.{Tree, atom, leaf, pair, vector}
use Rattle.stx_frames.specs.Scope.{Scope}
use Rattle.stx_scope.specs.Stands.{stands}
use Rattle.core_language.specs.CoreForm.{number}
use Rattle.core_language.specs.declared.core_form.CoreForm.{CoreForm}
use Rattle.core_language.specs.declared.core_form.CoreForm.TheVariants as form
use Rattle.core_shapes.specs.Lists.{is_leaf}
use Rattle.core_quasi.specs.declared.word.Family.{Family}
use Rattle.core_quasi.specs.declared.word.Family.TheVariants as family
use Rattle.core_quasi.specs.declared.word.Reach.{Reach}
use Rattle.core_quasi.specs.declared.word.Reach.TheVariants as reached
use Rattle.core_quasi.specs.declared.word.QuasiWord.{QuasiWord}
use Rattle.core_quasi.specs.declared.word.QuasiWord.TheVariants as word

-- whether a keyword has this number
abbrev pub is_number : CoreForm → ℕ → Bool
is_number f n = nat_eq n (number f)

abbrev pub quote_word : ℕ → QuasiWord
quote_word n =
    if is_number form.Quasiquote n then word.Raise
    else if is_number form.Unquote n then word.Lower
    else if is_number form.UnquoteSplicing n then word.Splice
    else word.Plain

abbrev pub syntax_word : ℕ → QuasiWord
syntax_word n =
    if is_number form.Quasisyntax n then word.Raise
    else if is_number form.Unsyntax n then word.Lower
    else if is_number form.UnsyntaxSplicing n then word.Splice
    else if is_number form.Ellipsis n then word.Escape
    else word.Plain

abbrev pub numbered : Family → ℕ → QuasiWord
numbered family.Quote n = quote_word n
numbered family.Syntax n = syntax_word n

abbrev pub labelled : Family → Option Label → QuasiWord
labelled f None = word.Plain
labelled f (Some l) = if same_library l.0.library library.Core then numbered f l.0.number else word.Plain

-- an identifier is known by what it stands for, and never by its symbol
abbrev pub word_of : Family → Scope → Tree → QuasiWord
word_of f fs t = if is_leaf t then labelled f (stands fs t) else word.Plain

-- which words forms have
abbrev pub WordOf : Type 0
WordOf = Tree → QuasiWord

-- the word of the first element of a list
abbrev pub head_word : WordOf → Tree → QuasiWord
head_word w (atom s a) = word.Plain
head_word w (leaf s x c) = word.Plain
head_word w (pair s a d) = w a
head_word w (vector s d) = word.Plain

-- the level of the elements of a list, from its own
abbrev pub inner : QuasiWord → ℕ → ℕ
inner word.Raise n = suc n
inner word.Lower n = n - 1
inner word.Splice n = n - 1
inner word.Escape n = n
inner word.Plain n = n

-- what is reached behind a head: at level 0 behind `unquote` the operand; `unquote-splicing` stands there for elements alone
abbrev pub reach : QuasiWord → ℕ → Reach
reach word.Lower zero = reached.Operand
reach word.Splice zero = reached.Refused
reach _ _ = reached.Elements

-- whether a list with this head counts in levels
abbrev pub counts : QuasiWord → Bool
counts word.Raise = true
counts word.Lower = true
counts word.Splice = true
counts word.Escape = false
counts word.Plain = false
