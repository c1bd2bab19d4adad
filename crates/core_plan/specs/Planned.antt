-- The plan as a function: references are followed as long as any wait.
use Rattle.std.specs.Prelude.{ℕ, zero, suc, ◌+◌, ◌*◌, Bool, List, [], ◌∷◌, length, reverse}
use Rattle.core_language.specs.declared.record.CompiledLibrary.{CompiledLibrary}
use Rattle.core_plan.specs.Work.{Work, no_marks, reach_each, follow, marked_from}

abbrev pub followed_by : (Work → Work) → List CompiledLibrary → List Bool → List ℕ → Work
followed_by go_on records marks [] = record { marks = marks; waiting = [] }
followed_by go_on records marks (p ∷ ps) = go_on (follow records p (record { marks = marks; waiting = reverse ps }))

-- what waits is followed, the last first, so many times at most
unfoldable pub followed : ℕ → List CompiledLibrary → Work → Work
followed zero records w = w
followed (suc n) records w = followed_by (followed n records) records w.marks (reverse w.waiting)

abbrev pub begun : List CompiledLibrary → CompiledLibrary → Work
begun records program = reach_each records program.refs (record { marks = no_marks records; waiting = [] })

-- the places of the libraries that a program needs when it runs: as many times are enough, since no record waits twice
unfoldable pub plan_of : List CompiledLibrary → CompiledLibrary → List ℕ
plan_of records program = marked_from 0 (followed (2 * length records + length (begun records program).waiting) records (begun records program)).marks
