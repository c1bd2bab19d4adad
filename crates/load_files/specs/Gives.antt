-- What a call of loading answers, against what its definition gives: want of memory and failed reads are free.
use Rattle.std.specs.Prelude.{◌≡◌, List, reverse, Result, Ok, Err}
use Rattle.load_files.specs.Load.{Loads}
use Rattle.load_files.specs.declared.found.Found.{Found}
use Rattle.load_files.specs.declared.found.Loading.{Loading}
use Rattle.load_files.specs.declared.found.Open.{Open}
use Rattle.load_files.specs.declared.halt.LoadHalt.{LoadHalt}
use Rattle.load_files.specs.declared.halt.LoadHalt.TheVariants as halt
use Rattle.load_files.specs.declared.walk.Turn.{Turn}
use Rattle.load_files.specs.declared.walk.Turn.TheVariants as turn

abbrev pub Halts : {A : Type 0} → LoadHalt → Loading → Loads A → Type 0
Halts (halt.Fault f) new given = given ≡ Err (new, f)
Halts halt.Read new given = Unit {0}
Halts halt.Memory new given = Unit {0}

-- what a call answers and leaves is the definition's
abbrev pub LoadsAfter : {A : Type 0} → Result A LoadHalt → Loading → Loads (A × Loading) → Type 0
LoadsAfter (Ok x) new given = given ≡ Ok (x, new)
LoadsAfter (Err h) new given = Halts h new given

-- what open files come to: the innermost, and those that it was opened in, innermost first
abbrev pub WalkMeaning : Type 0
WalkMeaning = Open → List Open → Loading → Loads (Found × Loading)

-- a turn leaves the meaning as it is
abbrev pub Turns : WalkMeaning → Result Turn LoadHalt → List Open → Loading → Loads (Found × Loading) → Type 0
Turns means (Ok (turn.On o)) stack new given = given ≡ means o (reverse stack) new
Turns means (Ok (turn.Done found)) stack new given = given ≡ Ok (found, new)
Turns means (Err h) stack new given = Halts h new given
