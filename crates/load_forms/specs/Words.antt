-- The words of library forms.
use Rattle.std.specs.Prelude.{ℕ, Bool, false, List, Option, Some, None, if◌then◌else◌, codes}
use Rattle.std.specs.Str.{bytes_eq}
use Rattle.base_data.specs.Datum.{PlainDatum, symbol_text}
use Rattle.load_forms.specs.declared.words.SetWord.{SetWord}
use Rattle.load_forms.specs.declared.words.SetWord.TheVariants as set
use Rattle.load_forms.specs.declared.words.StepWord.TheVariants as step
use Rattle.load_forms.specs.declared.words.Connective.{Connective}
use Rattle.load_forms.specs.declared.words.Connective.TheVariants as connective

abbrev pub is_text : List ℕ → Option (List ℕ) → Bool
is_text word None = false
is_text word (Some text) = bytes_eq text word

-- whether a datum is this symbol
abbrev pub is_word : List ℕ → PlainDatum → Bool
is_word word d = is_text word (symbol_text d)

-- the word that an import set begins with, where it begins with one
abbrev pub set_word : PlainDatum → Option SetWord
set_word d = if is_word (codes "library") d then Some set.Library
    else if is_word (codes "for") d then Some set.For
    else if is_word (codes "only") d then Some (set.Step step.Only)
    else if is_word (codes "except") d then Some (set.Step step.Except)
    else if is_word (codes "prefix") d then Some (set.Step step.Prefix)
    else if is_word (codes "rename") d then Some (set.Step step.Rename)
    else None

-- the word that a version reference, or a part of one, begins with
abbrev pub connective_of : PlainDatum → Option Connective
connective_of d = if is_word (codes "and") d then Some connective.And
    else if is_word (codes "or") d then Some connective.Or
    else if is_word (codes "not") d then Some connective.Not
    else None
