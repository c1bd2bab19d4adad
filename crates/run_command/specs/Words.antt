-- What the words ask for.
use Rattle.std.specs.Prelude.{ℕ, Bool, true, false, List, [], ◌∷◌, Option, Some, None, is_some, codes, ◌&&◌, ◌||◌, if◌then◌else◌, unwrap_or}
use Rattle.std.specs.Str.{bytes_eq}
use Rattle.clap.specs.Words.{Kinds, Text, matches_of, fault_of}
use Rattle.run_command.specs.declared.job.Kind.{Kind}
use Rattle.run_command.specs.declared.job.Kind.TheVariants.{Core, Xref}
use Rattle.run_command.specs.declared.words.Words.{Words}
use Rattle.run_command.specs.declared.words.Words.TheVariants.{Expand, Make, Usage}
use Rattle.run_command.specs.Command.{command}
use Rattle.run_command.specs.Given.{Values, given_of}
use Rattle.run_command.specs.Number.{number_of}
use Rattle.run_command.specs.Roots.{roots_of}

abbrev pub kind_of : Text → Option Kind
kind_of word = if bytes_eq word (codes "core") then Some Core else if bytes_eq word (codes "xref") then Some Xref else None

abbrev pub is_xref : Kind → Bool
is_xref Core = false
is_xref Xref = true

-- stored libraries keep no places, so the map of places takes no `--cache`
abbrev pub sorted : Text → Values → List Text → Option Kind → Words
sorted program g roots None = Usage
sorted program g roots (Some kind) = if is_xref kind && is_some g.cache then Usage
    else Expand (record { roots = roots; cache = g.cache; report = g.report; kind = kind; program = program })

-- without `--write` it is the core text
abbrev pub rooted : Text → Values → Option (List Text) → Words
rooted program g None = Usage
rooted program g (Some roots) = sorted program g roots (kind_of (unwrap_or g.write (codes "core")))

-- `--make` stands alone
abbrev pub has_other : Values → Bool
has_other g = is_some g.root || is_some g.cache || is_some g.write || g.report

abbrev pub made : Option ℕ → Words
made None = Usage
made (Some n) = Make n

-- a program or a number, and not both; without `--root` there is the one directory `.`
abbrev pub chosen : Values → Option Text → Option Text → Words
chosen g None None = Usage
chosen g (Some program) (Some text) = Usage
chosen g None (Some text) = if has_other g then Usage else made (number_of text)
chosen g (Some program) None = rooted program g (roots_of (unwrap_or g.root (codes ".")))

abbrev pub asked : Values → Words
asked g = chosen g g.program g.make

abbrev pub is_any : Kinds → Bool
is_any [] = false
is_any (k ∷ ks) = true

-- `clap` refuses the words by this command, for another cause than memory
unfoldable pub refuses : List Text → Bool
refuses words = is_any (fault_of command words)

unfoldable pub asked_by : List Text → Words
asked_by words = if refuses words then Usage else asked (given_of (matches_of command words))
