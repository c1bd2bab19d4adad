-- Which data can be read where so many forms may be nested.
use Rattle.std.specs.Prelude.{ℕ, zero, suc, ◌^◌, ◌<◌, List, length, ℤ, pos, negsuc, All, IsTrue}
use Rattle.std.specs.Char.{IsScalar}
use Rattle.std.specs.Str.{IsUtf8}
use Rattle.base_data.specs.Datum.{PlainDatum, atom, symbol, pair, vector}
use Rattle.base_data.specs.declared.atom.Atom.{Atom}
use Rattle.base_data.specs.declared.atom.Atom.TheVariants as a
use Rattle.read_spelling.specs.Numbers.{is_spelt}

-- a form may be nested there, and this holds where it is
abbrev pub inside : ℕ → (ℕ → Type 0) → Type 0
inside zero P = ⊥
inside (suc n) P = P n

-- 128 bits hold the integer
abbrev pub Fits : ℤ → Type 0
Fits (pos n) = n < 2 ^ 127
Fits (negsuc n) = n < 2 ^ 127

-- the empty list is a form, which is nested
abbrev pub IsReadableAtom : ℕ → Atom → Type 0
IsReadableAtom n a.Nil = inside n (λ _. Unit {0})
IsReadableAtom n (a.Bool b) = Unit {0}
IsReadableAtom n (a.Int z) = Fits z
IsReadableAtom n (a.Spelt text) = IsTrue (is_spelt text)
IsReadableAtom n (a.Char c) = IsScalar c
IsReadableAtom n (a.Str text) = IsUtf8 text
IsReadableAtom n (a.Bytes bytes) = All (λ b. b < 256) bytes

-- one or more characters
abbrev pub IsName : List ℕ → Type 0
IsName text = IsUtf8 text × (0 < length text)

abbrev mutual
  pub IsReadable : ℕ → PlainDatum → Type 0
  IsReadable n (atom s a) = IsReadableAtom n a
  IsReadable n (symbol s x) = IsName x
  IsReadable n (pair s d e) = inside n (λ m. IsReadable m d × IsRest m e)
  IsReadable n (vector s d) = inside n (λ m. AreElements m d)

  -- what stands in a list behind an element: further elements and the tail, where an empty one takes no form of its own
  pub IsRest : ℕ → PlainDatum → Type 0
  IsRest n (atom s a) = IsReadableAtom 1 a
  IsRest n (symbol s x) = IsName x
  IsRest n (pair s d e) = IsReadable n d × IsRest n e
  IsRest n (vector s d) = inside n (λ m. AreElements m d)

  -- the elements of a vector, which are a list with an empty tail
  pub AreElements : ℕ → PlainDatum → Type 0
  AreElements n (atom s a.Nil) = Unit {0}
  AreElements n (atom s (a.Bool b)) = ⊥
  AreElements n (atom s (a.Int z)) = ⊥
  AreElements n (atom s (a.Spelt text)) = ⊥
  AreElements n (atom s (a.Char c)) = ⊥
  AreElements n (atom s (a.Str text)) = ⊥
  AreElements n (atom s (a.Bytes bytes)) = ⊥
  AreElements n (symbol s x) = ⊥
  AreElements n (pair s d e) = IsReadable n d × AreElements n e
  AreElements n (vector s d) = ⊥
