-- The text of a run, and what holds of it.
use Rattle.std.specs.Prelude.{List, [], ◌∷◌, ◌++◌}
use Rattle.std.specs.List.{flat_map}
use Rattle.base_data.specs.Elements.{Once}
use Rattle.core_language.specs.declared.record.CompiledLibrary.{CompiledLibrary}
use Rattle.law_core.specs.Records.{AreClosed, run_binders}
use Rattle.core_plan.specs.Planned.{plan_of}
use Rattle.expand_standing.specs.Start.{records_at}
use Rattle.law_text.specs.Indices.{named_variables}
use Rattle.law_text.specs.Standing.{AreStanding}

-- the records that a program needs when it runs, and its own
abbrev pub text_of : List CompiledLibrary → CompiledLibrary → List CompiledLibrary
text_of rs p = records_at rs (plan_of rs p) ++ p ∷ []

-- Each line is closed under what the lines of these define, no label has two binders, and no two variables share library
-- and index.
pub record IsClosedOnce (text : List CompiledLibrary) : Type 0 where
  pub closed : AreClosed text
  pub bound_once : Once (flat_map run_binders text)
  pub named_once : Once (flat_map named_variables text)

abbrev pub TextIsClosedOnce : Type 0
TextIsClosedOnce = (rs : List CompiledLibrary) (p : CompiledLibrary) → AreStanding rs p → IsClosedOnce (text_of rs p)
