-- Different libraries stand in different files, and no part of a name goes to another folder.
use Rattle.std.specs.Prelude.{◌≡◌, ◌≢◌, ◌<◌, ℕ, List}
use Rattle.std.specs.List.{All}
use Rattle.percent_encoding.specs.Percent.{percent_encode, percent_decode}
use Rattle.base_data.specs.declared.library.LibName.TheVariants as library
use Rattle.load_file_names.specs.File.{file_of}
use Rattle.load_file_names.specs.declared.file.TheConstants.{ESCAPED}

-- a part of a name as it stands in a path
abbrev pub in_path : List ℕ → List ℕ
in_path part = percent_encode ESCAPED part

-- the bytes of a symbol
abbrev pub AreBytes : List ℕ → Type 0
AreBytes part = All (λ b. b < 256) part

-- No part has a slash in it.
abbrev pub PartsHaveNoSlash : Type 0
PartsHaveNoSlash = (part : List ℕ) → All (λ b. b ≢ 47) (in_path part)

-- No part has a dot in it, so that none is `.` or `..`.
abbrev pub PartsHaveNoDot : Type 0
PartsHaveNoDot = (part : List ℕ) → All (λ b. b ≢ 46) (in_path part)

-- A part comes back by decoding.
abbrev pub PartsComeBack : Type 0
PartsComeBack = (part : List ℕ) → AreBytes part → percent_decode (in_path part) ≡ part

-- Libraries with one file have one name.
abbrev pub FilesTellLibraries : Type 0
FilesTellLibraries = (ps qs : List (List ℕ)) → All AreBytes ps → All AreBytes qs → file_of (library.User ps) ≡ file_of (library.User qs) → ps ≡ qs
