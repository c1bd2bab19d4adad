-- Names of libraries (R6RS 7.1).
use Rattle.std.specs.Prelude.{ℕ, List, [], ◌∷◌, Option, Some, None, is_some, if◌then◌else◌, ℤ, pos, negsuc, nat_lt}
use Rattle.base_data.specs.declared.atom.Atom.{Atom}
use Rattle.base_data.specs.declared.atom.Atom.TheVariants as a
use Rattle.base_data.specs.declared.library.LibName.TheVariants as library
use Rattle.base_data.specs.Datum.{PlainDatum, atom_of, symbol_text, proper_elements}
use Rattle.load_forms.specs.All.{given, all_of}
use Rattle.load_forms.specs.declared.name.VersionedName.{VersionedName}

abbrev pub leading_by : Option (List ℕ) → List (List ℕ) → List (List ℕ)
leading_by None texts = []
leading_by (Some text) texts = text ∷ texts

-- the identifiers at the front of a list
abbrev pub leading : List PlainDatum → List (List ℕ)
leading [] = []
leading (d ∷ ds) = leading_by (symbol_text d) (leading ds)

-- what stands behind them
abbrev pub behind : List PlainDatum → List PlainDatum
behind [] = []
behind (d ∷ ds) = if is_some (symbol_text d) then behind ds else d ∷ ds

abbrev pub int_of_atom : Atom → Option ℤ
int_of_atom (a.Int z) = Some z
int_of_atom _ = None

-- the integer that a datum is
abbrev pub int_of : PlainDatum → Option ℤ
int_of d = given (atom_of d) int_of_atom

-- a number of a version is from 0 to 2^64 - 1
abbrev pub number_of_int : ℤ → Option ℕ
number_of_int (pos n) = if nat_lt n 18446744073709551616 then Some n else None
number_of_int (negsuc n) = None

abbrev pub number : PlainDatum → Option ℕ
number d = given (int_of d) number_of_int

-- a version is a list of numbers
abbrev pub version : PlainDatum → Option (List ℕ)
version d = given (proper_elements d) (λ ds. all_of number [] ds)

-- without one it is the empty version
abbrev pub version_in : List PlainDatum → Option (List ℕ)
version_in [] = Some []
version_in (d ∷ []) = version d
version_in (d ∷ e ∷ ds) = None

abbrev pub named_by : List (List ℕ) → Option (List ℕ) → Option VersionedName
named_by [] v = None
named_by (p ∷ ps) None = None
named_by (p ∷ ps) (Some v) = Some (record { name = library.User (p ∷ ps); version = v })

-- one or more identifiers, and then a version or none
abbrev pub named : PlainDatum → Option VersionedName
named d = given (proper_elements d) (λ ds. named_by (leading ds) (version_in (behind ds)))
