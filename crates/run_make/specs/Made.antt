-- The files of `--make N`: N libraries and a program that imports them all.
use Rattle.std.specs.Prelude.{ℕ, zero, suc, ◌+◌, ◌-◌, ◌==◌, List, [], ◌∷◌, ◌++◌, map, if◌then◌else◌, codes, decimal, Vec, String, string_bytes}
use Rattle.std.specs.Global.{Global}

-- In a pattern the letter I (73) stands for a number, the letter J (74) for the number before it, and every other byte for itself.
abbrev pub filled_byte : ℕ → ℕ → List ℕ
filled_byte number byte = if byte == 73 then decimal number else if byte == 74 then decimal (number - 1) else byte ∷ []

abbrev pub filled : ℕ → List ℕ → List ℕ
filled number [] = []
filled number (byte ∷ bytes) = filled_byte number byte ++ filled number bytes

-- a pattern for so many numbers, from one on
unfoldable pub each : List ℕ → ℕ → ℕ → List ℕ
each pattern number zero = []
each pattern number (suc count) = filled number pattern ++ each pattern (number + 1) count

-- a library: each but the first imports the one before it
abbrev pub library_pattern : ℕ → List ℕ
library_pattern number =
    if number == 0
    then codes "(library (make gI) (export vI mI) (import (rnrs)) (define vI 0) (define-syntax mI (syntax-rules () ((_ a ...) (list vI a ...)))))\n"
    else codes "(library (make gI) (export vI mI) (import (rnrs) (make gJ)) (define vI (+ vJ I)) (define-syntax mI (syntax-rules () ((_ a ...) (list vI a ...)))))\n"

abbrev pub library_path : ℕ → List ℕ
library_path number = codes "./make/g" ++ decimal number ++ codes ".sls"

abbrev pub library_file : ℕ → List ℕ × List ℕ
library_file number = (library_path number, filled number (library_pattern number))

-- so many libraries, from a number on
unfoldable pub libraries : ℕ → ℕ → List (List ℕ × List ℕ)
libraries number zero = []
libraries number (suc count) = library_file number ∷ libraries (number + 1) count

-- the program: its imports on one line, and then a line for each library
abbrev pub program_path : List ℕ
program_path = codes "./made.sps"

abbrev pub program_text : ℕ → List ℕ
program_text count = codes "(import (rnrs)" ++ each (codes " (make gI)") 0 count ++ codes ")\n" ++ each (codes "(mI I)\n") 0 count

abbrev pub made_files : ℕ → List (List ℕ × List ℕ)
made_files count = libraries 0 count ++ (program_path, program_text count) ∷ []

-- a list of pairs in memory, as paths and bytes
abbrev pub paths_of : List (String Global × Vec ℕ Global) → List (List ℕ × List ℕ)
paths_of pairs = map (λ pair. (string_bytes pair.0, pair.1.items)) pairs
