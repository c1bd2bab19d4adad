-- What is known of the lines so far, and of a line up to a place in it; and steps from one place to a later one.
use Rattle.std.specs.Prelude.{◌≡◌, ℕ, Bool, true, false, List, [], take, length, Option, None, Some, Result, Ok, Err, if◌then◌else◌}
use Rattle.check_verdict.specs.declared.survey.WalkHalt.{WalkHalt}
use Rattle.check_verdict.specs.declared.survey.WalkHalt.TheVariants as halt
use Rattle.check_verdict.specs.declared.survey.Survey.{Survey}
use Rattle.check_verdict.specs.Names.{with_name}
use Rattle.check_grammar.specs.Forms.{has}

-- before the first line
abbrev pub nothing_known : Survey
nothing_known = record { scope = []; bound = []; second = None; defined = []; free = [] }

-- from a place to a later one, unless what stands between is refused
abbrev pub Step : Type 0
Step = Survey → Option Survey

abbrev pub refused : Step
refused s = None

abbrev pub on : Option Survey → Step → Option Survey
on None f = None
on (Some s) f = f s

-- a name is in scope from here
abbrev pub entered : Survey → List ℕ → Survey
entered s x = record s { scope = with_name s.scope x }

abbrev pub or_first : Option (List ℕ) → List ℕ → Option (List ℕ)
or_first None x = Some x
or_first (Some y) x = Some y

-- the first name that has a second binder, where these names have one
abbrev pub second_by : List (List ℕ) → Option (List ℕ) → List ℕ → Option (List ℕ)
second_by bound second x = if has bound x then or_first second x else second

-- a name has a binder here
abbrev pub bound_by : Survey → List ℕ → Survey
bound_by s x = record s { bound = with_name s.bound x; second = second_by s.bound s.second x }

-- the names that are free, with one that is mentioned where these are in scope
abbrev pub free_with : List (List ℕ) → List (List ℕ) → List ℕ → List (List ℕ)
free_with scope free x = if has scope x then free else with_name free x

-- a variable is mentioned here
abbrev pub mentioned : Survey → List ℕ → Survey
mentioned s x = record s { free = free_with s.scope s.free x }

-- a line defines a name
abbrev pub defined_by : Survey → List ℕ → Survey
defined_by s x = bound_by (record s { defined = with_name s.defined x }) x

-- so many names stay in scope
abbrev pub left : ℕ → Option Survey → Option Survey
left n None = None
left n (Some s) = Some (record s { scope = take n s.scope })

-- what one step lets into scope is in scope for the other alone
abbrev pub scoped : Step → Step → Step
scoped f g s = left (length s.scope) (on (f s) g)

-- a call took this step, was refused where there is none, or lacked memory
abbrev pub Takes : Result Unit WalkHalt → Survey → Option Survey → Type 0
Takes (Ok done) after given = given ≡ Some after
Takes (Err halt.Refused) after given = given ≡ None
Takes (Err halt.Memory) after given = Unit {0}

-- a constant is walked past where it evaluates to itself
abbrev pub IsConstant : Result Unit WalkHalt → Bool → Type 0
IsConstant (Ok done) b = b ≡ true
IsConstant (Err halt.Refused) b = b ≡ false
IsConstant (Err halt.Memory) b = ⊥
