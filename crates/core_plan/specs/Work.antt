-- The work list: which records are reached so far, and those whose references wait.
use Rattle.std.specs.Prelude.{ℕ, suc, Bool, true, false, List, [], ◌∷◌, ◌++◌, Option, Some, None, if◌then◌else◌, length, replicate, slice_get, slice_set}
use Rattle.base_data.specs.declared.library.LibName.{LibName}
use Rattle.core_language.specs.declared.record.CompiledLibrary.{CompiledLibrary}
use Rattle.core_plan.specs.Places.{place_of}
use Rattle.core_plan.specs.declared.plan.PlanProgress.{PlanProgress}

pub record Work : Type 0 where
  pub marks : List Bool
  pub waiting : List ℕ

abbrev pub work_of : PlanProgress → Work
work_of p = record { marks = p.marks.items; waiting = p.waiting.items }

abbrev pub no_marks : List CompiledLibrary → List Bool
no_marks records = replicate (length records) false

abbrev pub marked_now : Work → ℕ → Option Bool → Work
marked_now w place None = w
marked_now w place (Some true) = w
marked_now w place (Some false) = record { marks = slice_set w.marks place true; waiting = w.waiting ++ place ∷ [] }

-- a record that is reached for the first time is marked, and its references wait
unfoldable pub reach : ℕ → Work → Work
reach place w = marked_now w place (slice_get w.marks place)

abbrev pub reach_there : Option ℕ → Work → Work
reach_there None w = w
reach_there (Some place) w = reach place w

-- the records of these libraries, one after another
unfoldable pub reach_each : List CompiledLibrary → List LibName → Work → Work
reach_each records [] w = w
reach_each records (name ∷ names) w = reach_each records names (reach_there (place_of records name) w)

abbrev pub follow_record : List CompiledLibrary → Option CompiledLibrary → Work → Work
follow_record records None w = w
follow_record records (Some r) w = reach_each records r.refs w

-- what the record at a place refers to
unfoldable pub follow : List CompiledLibrary → ℕ → Work → Work
follow records place w = follow_record records (slice_get records place) w

-- the places of the marks from this one on
unfoldable pub marked_from : ℕ → List Bool → List ℕ
marked_from i [] = []
marked_from i (m ∷ ms) = if m then i ∷ marked_from (suc i) ms else marked_from (suc i) ms
