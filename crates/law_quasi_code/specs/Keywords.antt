-- Which keyword makes which word (R6RS 11.17; libraries 12.8).
use Rattle.std.specs.Prelude.{◌≡◌, true, Some}
use Rattle.base_data.specs.declared.library.LibName.TheVariants as library
use Rattle.base_data.specs.declared.name.Label.{Label}
use Rattle.stx_tree.specs.Tree.{Tree}
use Rattle.stx_frames.specs.Scope.{Scope}
use Rattle.stx_scope.specs.Stands.{stands}
use Rattle.core_language.specs.CoreForm.{number}
use Rattle.core_language.specs.declared.core_form.CoreForm.{CoreForm}
use Rattle.core_language.specs.declared.core_form.CoreForm.TheVariants as form
use Rattle.core_shapes.specs.Lists.{is_leaf}
use Rattle.core_quasi.specs.Words.{word_of}
use Rattle.core_quasi.specs.declared.word.Family.{Family}
use Rattle.core_quasi.specs.declared.word.Family.TheVariants as family
use Rattle.core_quasi.specs.declared.word.QuasiWord.{QuasiWord}
use Rattle.core_quasi.specs.declared.word.QuasiWord.TheVariants as word

-- the label of a keyword that expansion itself knows
abbrev pub keyword : CoreForm → Label
keyword f = record { 0 = record { library = library.Core; number = number f } }

-- an identifier whose binding is that of the keyword, whatever its symbol
pub record NamesKeyword (fs : Scope) (f : CoreForm) (t : Tree) : Type 0 where
  pub identifier : is_leaf t ≡ true
  pub bound : stands fs t ≡ Some (keyword f)

-- `quasiquote` begins a level, `unquote` and `unquote-splicing` end one; likewise for syntax, where an ellipsis escapes
pub data IsQuasiWord : Family → CoreForm → QuasiWord → Type 0 where
  quasiquote : IsQuasiWord family.Quote form.Quasiquote word.Raise
  unquote : IsQuasiWord family.Quote form.Unquote word.Lower
  unquote_splicing : IsQuasiWord family.Quote form.UnquoteSplicing word.Splice
  quasisyntax : IsQuasiWord family.Syntax form.Quasisyntax word.Raise
  unsyntax : IsQuasiWord family.Syntax form.Unsyntax word.Lower
  unsyntax_splicing : IsQuasiWord family.Syntax form.UnsyntaxSplicing word.Splice
  ellipsis : IsQuasiWord family.Syntax form.Ellipsis word.Escape

-- a keyword that makes this word, and names which the identifier does
pub record HasKeyword (fs : Scope) (f : Family) (t : Tree) (x : QuasiWord) : Type 0 where
  pub form : CoreForm
  pub is : IsQuasiWord f form x
  pub names : NamesKeyword fs form t

-- An identifier has a word exactly where it names the keyword that makes it.
abbrev pub KeywordsMakeWords : Type 0
KeywordsMakeWords = (f : Family) (fs : Scope) (t : Tree) (c : CoreForm) (x : QuasiWord) → IsQuasiWord f c x → NamesKeyword fs c t → word_of f fs t ≡ x

abbrev pub WordsAreOfKeywords : Type 0
WordsAreOfKeywords = (f : Family) (fs : Scope) (t : Tree) (x : QuasiWord) → word_of f fs t ≡ x → (x ≡ word.Plain → ⊥) → HasKeyword fs f t x
