-- A table of files has for each path the bytes of the first source with that path that was there.
use Rattle.std.proofs.Common.{◌≡◌, ◌∙◌, sym, ap, true≢false, ℕ, cond, refl, arith}
use Rattle.std.specs.Prelude.{Bool, true, false, List, [], ◌∷◌, ◌++◌, Option, None, Some, is_some, min}
use Rattle.std.specs.Option.{option_map}
use Rattle.base_data.specs.Place.{place, place_from}
use Rattle.base_data.specs.Same.{texts_decides}
use Rattle.load_import.proofs.TableLemmas.{or_else, value-append}
use Rattle.load_import.specs.Table.{same_text, value_of, put_first}
use Rattle.load_files.specs.declared.found.Source.{Source}
use Rattle.run_xref.specs.Text.{held_at, or_held, or_none, place_in, lines_at}
use Rattle.run_xref.specs.declared.marks.MarkedSource.{MarkedSource}

abbrev pub Rows : Type 0
Rows = List (List ℕ × MarkedSource)

abbrev pub bytes_of : MarkedSource → List ℕ
bytes_of l = l.source.now

or_nothing : (o : Option (List ℕ)) → or_held o None ≡ o
or_nothing None = refl
or_nothing (Some bytes) = refl

or_assoc : (a b c : Option (List ℕ)) → or_held (or_held a b) c ≡ or_held a (or_held b c)
or_assoc None b c = refl
or_assoc (Some bytes) b c = refl

-- the bytes of a file that is found, or else of a later one
or_bytes : (a b : Option MarkedSource) → option_map bytes_of (or_else a b) ≡ or_held (option_map bytes_of a) (option_map bytes_of b)
or_bytes None b = refl
or_bytes (Some l) b = refl

kept_some : (o : Option MarkedSource) (later : Option (List ℕ)) → is_some o ≡ true → option_map bytes_of o ≡ or_held (option_map bytes_of o) later
kept_some None later h = absurd (true≢false (sym h))
kept_some (Some l) later h = refl

pub text_is : (a b : List ℕ) → same_text a b ≡ true → a ≡ b
text_is a b h = (texts_decides a b).0 h

same_turned : (a b : List ℕ) → same_text a b ≡ same_text b a
same_turned a b = by (same_text a b) (same_text b a) refl refl
  where
    by : (x y : Bool) → same_text a b ≡ x → same_text b a ≡ y → x ≡ y
    by true true h k = refl
    by false false h k = refl
    by true false h k = absurd (true≢false (sym ((texts_decides b a).1 (sym (text_is a b h))) ∙ k))
    by false true h k = absurd (true≢false (sym ((texts_decides a b).1 (sym (text_is b a k))) ∙ h))

module _ (rows : Rows) (source : Source) (lines : MarkedSource) (path : List ℕ) where
  -- the source's path is that of a file already
  there : is_some (value_of source.path rows) ≡ true → lines_at rows path ≡ or_held (lines_at rows path) (held_at path source)
  there h = by (same_text source.path path) refl
    where
      by : (b : Bool) → same_text source.path path ≡ b → lines_at rows path ≡ or_held (lines_at rows path) (cond b source.held None)
      by false e = sym (or_nothing (lines_at rows path))
      by true e = kept_some (value_of path rows) source.held (ap (λ p. is_some (value_of p rows)) (sym (text_is source.path path e)) ∙ h)

  one : source.held ≡ Some (bytes_of lines) → lines_at ((source.path, lines) ∷ []) path ≡ held_at path source
  one e = ap (λ b. option_map bytes_of (cond {A = Option MarkedSource} b (Some lines) None)) (same_turned path source.path) ∙ by (same_text source.path path)
    where
      by : (b : Bool) → option_map bytes_of (cond {A = Option MarkedSource} b (Some lines) None) ≡ cond b source.held None
      by true = sym e
      by false = refl

  pub put_held : source.held ≡ Some (bytes_of lines) → lines_at (put_first rows (source.path, lines)) path ≡ or_held (lines_at rows path) (held_at path source)
  put_held e = by (is_some (value_of source.path rows)) refl
    where
      by : (b : Bool) → is_some (value_of source.path rows) ≡ b
          → lines_at (cond {A = Rows} b rows (rows ++ (source.path, lines) ∷ [])) path ≡ or_held (lines_at rows path) (held_at path source)
      by true h = there h
      by false h =
          ap (option_map bytes_of) (value-append path rows ((source.path, lines) ∷ []))
          ∙ or_bytes (value_of path rows) (value_of path ((source.path, lines) ∷ []))
          ∙ ap (or_held (lines_at rows path)) (one e)

-- a source that wasn't there adds nothing
pub put_none : (rows : Rows) (source : Source) (path : List ℕ) → source.held ≡ None → lines_at rows path ≡ or_held (lines_at rows path) (held_at path source)
put_none rows source path e = sym (ap (or_held (lines_at rows path)) (by (same_text source.path path)) ∙ or_nothing (lines_at rows path))
  where
    by : (b : Bool) → cond b source.held None ≡ None
    by true = e
    by false = refl

-- one source more
pub next_held : (rows more : Rows) (source : Source) (rest all : Option (List ℕ)) (path : List ℕ)
    → lines_at more path ≡ or_held (lines_at rows path) (held_at path source) → or_held (lines_at rows path) (or_held (held_at path source) rest) ≡ all → or_held (lines_at more path) rest ≡ all
next_held rows more source rest all path e h = ap (λ o. or_held o rest) e ∙ or_assoc (lines_at rows path) (held_at path source) rest ∙ h

pub all_held : (o all : Option (List ℕ)) → or_held o None ≡ all → o ≡ all
all_held o all h = sym (or_nothing o) ∙ h

-- ---- the place in a file that isn't there

min-zero : (n : ℕ) → min n 0 ≡ 0
min-zero n = omega arith

pub place-none : (rows : Rows) (path : List ℕ) (offset : ℕ) → value_of path rows ≡ None → (1, 1) ≡ place_in (or_none (lines_at rows path)) offset
unfolding place_from
place-none rows path offset h = sym (ap (λ o. place_in (or_none (option_map bytes_of o)) offset) h ∙ ap (place []) (min-zero offset))
