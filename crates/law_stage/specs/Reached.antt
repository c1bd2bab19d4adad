-- Which libraries are evaluated before an expression.
use Rattle.std.specs.Prelude.{◌≡◌, ◌&&◌, not, true, false, List, [], ◌∷◌, ◌++◌, Ok, if◌then◌else◌}
use Rattle.base_data.specs.Elements.{Among}
use Rattle.base_data.specs.declared.library.LibName.{LibName}
use Rattle.base_data.specs.declared.span.Span.{Span}
use Rattle.core_language.specs.Core.{PlainCore}
use Rattle.core_language.specs.declared.record.CompiledLibrary.{CompiledLibrary}
use Rattle.eval_stage.specs.Libraries.{has_library, has_all, libraries_of, wanted}
use Rattle.eval_stage.specs.Running.{need}
use Rattle.eval_stage.specs.Stage.{PlainStage}

-- a chain of references leads there from one of these libraries
pub data ReachedFrom (rs : List CompiledLibrary) (ks : List LibName) : LibName → Type 0 where
  mentioned : (k : LibName) → has_library ks k ≡ true → ReachedFrom rs ks k
  further : (r : CompiledLibrary) (k : LibName) → Among rs r → ReachedFrom rs ks r.name → has_library r.refs k ≡ true → ReachedFrom rs ks k

-- no record refers to itself or to one behind it
abbrev pub RefersBack : List CompiledLibrary → Type 0
RefersBack [] = Unit {0}
RefersBack (r ∷ rs) = ((q : CompiledLibrary) → Among (r ∷ rs) q → has_library r.refs q.name ≡ false) × RefersBack rs

-- The wanted libraries are those that chains of references reach.
abbrev pub WantedAreReached : Type 0
WantedAreReached = (rs : List CompiledLibrary) (ks : List LibName) (k : LibName) → has_library (wanted rs ks) k ≡ true → ReachedFrom rs ks k

abbrev pub ReachedAreWanted : Type 0
ReachedAreWanted = (rs : List CompiledLibrary) (ks : List LibName) (k : LibName) → RefersBack rs → ReachedFrom rs ks k → has_library (wanted rs ks) k ≡ true

abbrev pub names_of : List CompiledLibrary → List LibName
names_of [] = []
names_of (r ∷ rs) = r.name ∷ names_of rs

-- no two records have one name
abbrev pub HaveOwnNames : List CompiledLibrary → Type 0
HaveOwnNames [] = Unit {0}
HaveOwnNames (r ∷ rs) = (has_library (names_of rs) r.name ≡ false) × HaveOwnNames rs

-- those that are wanted and weren't evaluated
abbrev pub lacking : List LibName → List LibName → List LibName → List LibName
lacking done ks [] = []
lacking done ks (m ∷ ms) = if has_library ks m && not (has_library done m) then m ∷ lacking done ks ms else lacking done ks ms

abbrev pub evaluated_for : List LibName → List CompiledLibrary → List LibName → List LibName
evaluated_for done rs ks = if has_all done ks then done else done ++ lacking done (wanted rs ks) (names_of rs)

-- Behind those that were evaluated come the wanted ones that weren't, in the order of loading.
abbrev pub EvaluatedInOrder : Type 0
EvaluatedInOrder = (place : Span) (rs : List CompiledLibrary) (c : PlainCore) (s t : PlainStage) → HaveOwnNames rs → need place rs c s ≡ Ok (tt, t)
    → t.evaluated ≡ evaluated_for s.evaluated rs (libraries_of c)

-- With a library those records were evaluated that it refers to.
abbrev pub IsClosed : List CompiledLibrary → List LibName → Type 0
IsClosed rs ks = (r : CompiledLibrary) → Among rs r → has_library ks r.name ≡ true → (k : LibName) → has_library r.refs k ≡ true
    → has_library (names_of rs) k ≡ true
    → has_library ks k ≡ true

-- This stays so; and each record to which a chain of references leads was evaluated then.
abbrev pub StaysClosed : Type 0
StaysClosed = (place : Span) (rs : List CompiledLibrary) (c : PlainCore) (s t : PlainStage) → HaveOwnNames rs → RefersBack rs → IsClosed rs s.evaluated
    → need place rs c s ≡ Ok (tt, t) → IsClosed rs t.evaluated

abbrev pub ReachedAreEvaluated : Type 0
ReachedAreEvaluated = (place : Span) (rs : List CompiledLibrary) (c : PlainCore) (s t : PlainStage) (k : LibName) → HaveOwnNames rs
    → RefersBack rs → IsClosed rs s.evaluated
    → need place rs c s ≡ Ok (tt, t) → ReachedFrom rs (libraries_of c) k → has_library (names_of rs) k ≡ true → has_library t.evaluated k ≡ true
