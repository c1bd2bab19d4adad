-- The data that complete forms are.
use Rattle.std.specs.Prelude.{ℕ, List, [], ◌∷◌, Option, Some, None, ℤ, pos, negsuc, nat_lt, if◌then◌else◌, codes}
use Rattle.base_data.specs.declared.span.Span.{Span}
use Rattle.base_data.specs.declared.atom.Atom.TheVariants as a
use Rattle.base_data.specs.Datum.{PlainDatum, atom, symbol, pair, vector, nil, listed}
use Rattle.read_lexer.specs.declared.token.Abbreviation.{Abbreviation}
use Rattle.read_lexer.specs.declared.token.Abbreviation.TheVariants as abbreviation
use Rattle.read_machine.specs.Extent.{span_at}
use Rattle.read_machine.specs.declared.extent.Extent.{Extent}

-- what a list ends with, where this datum stands in the place of its tail: a list loses its span, and the empty list too
abbrev pub as_tail : PlainDatum → PlainDatum
as_tail (atom s a.Nil) = nil
as_tail (atom s (a.Bool b)) = atom s (a.Bool b)
as_tail (atom s (a.Int z)) = atom s (a.Int z)
as_tail (atom s (a.Spelt x)) = atom s (a.Spelt x)
as_tail (atom s (a.Char c)) = atom s (a.Char c)
as_tail (atom s (a.Str x)) = atom s (a.Str x)
as_tail (atom s (a.Bytes b)) = atom s (a.Bytes b)
as_tail (symbol s x) = symbol s x
as_tail (pair s d e) = pair None d e
as_tail (vector s d) = vector s d

-- a list with a tail, which is joined on where it is a list; without elements the tail, with this span
abbrev pub joined : Option Span → List PlainDatum → PlainDatum → PlainDatum
joined s ds t = listed s ds (as_tail t)

-- the symbol that an abbreviation stands for
abbrev pub keyword_of : Abbreviation → List ℕ
keyword_of abbreviation.Quote = codes "quote"
keyword_of abbreviation.Quasiquote = codes "quasiquote"
keyword_of abbreviation.Unquote = codes "unquote"
keyword_of abbreviation.UnquoteSplicing = codes "unquote-splicing"
keyword_of abbreviation.Syntax = codes "syntax"
keyword_of abbreviation.Quasisyntax = codes "quasisyntax"
keyword_of abbreviation.Unsyntax = codes "unsyntax"
keyword_of abbreviation.UnsyntaxSplicing = codes "unsyntax-splicing"

-- the list that an abbreviation with its datum is: the symbol stands at the prefix, the list at the whole
abbrev pub abbreviated : List ℕ → Abbreviation → Extent → PlainDatum → Extent → PlainDatum
abbreviated file k prefix d all = listed (span_at file all) (symbol (span_at file prefix) (keyword_of k) ∷ d ∷ []) nil

abbrev pub byte_of_int : ℤ → Option ℕ
byte_of_int (pos n) = if nat_lt n 256 then Some n else None
byte_of_int (negsuc n) = None

-- the byte that a datum is in a bytevector
abbrev pub byte_of : PlainDatum → Option ℕ
byte_of (atom s a.Nil) = None
byte_of (atom s (a.Bool b)) = None
byte_of (atom s (a.Int z)) = byte_of_int z
byte_of (atom s (a.Spelt x)) = None
byte_of (atom s (a.Char c)) = None
byte_of (atom s (a.Str x)) = None
byte_of (atom s (a.Bytes b)) = None
byte_of (symbol s x) = None
byte_of (pair s d e) = None
byte_of (vector s d) = None
