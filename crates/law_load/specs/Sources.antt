-- What was read where loading ends or stops.
use Rattle.std.specs.Prelude.{◌≡◌, ◌≤◌, ℕ, true, List, ◌++◌, length, Some, is_some, slice_get}
use Rattle.base_outside.specs.Contents.{Paths, at_path}
use Rattle.load_files.specs.declared.found.Source.{Source}

-- each path stands with what the files hold there
abbrev pub AreAsHeld : Paths → List Source → Type 0
AreAsHeld files sources = (i : ℕ) (a : Source) → slice_get sources i ≡ Some a → at_path files a.path ≡ a.held

-- A path where a file is stands once. One where none is may stand twice: two roots may give one path.
abbrev pub AreFoundOnce : List Source → Type 0
AreFoundOnce sources = (i j : ℕ) (a b : Source) → slice_get sources i ≡ Some a → slice_get sources j ≡ Some b → a.path ≡ b.path → is_some a.held ≡ true → i ≡ j

-- But for the last: a file that is read again has another name than the one asked for, or is the program.
pub record AreFoundOnceButLast (sources : List Source) : Type 0 where
  pub first : List Source
  pub last : List Source
  pub parts : sources ≡ first ++ last
  pub at_most_one : length last ≤ 1
  pub once : AreFoundOnce first
