-- What records that follow one another keep to, in the words of the laws that stand on records.
use Rattle.std.specs.Prelude.{List, []}
use Rattle.std.specs.List.{flat_map}
use Rattle.base_data.specs.Elements.{Among, Each, Once}
use Rattle.core_language.specs.declared.record.CompiledLibrary.{CompiledLibrary}
use Rattle.law_core.specs.Following.{AllFollow}
use Rattle.law_core.specs.Follows.{Follows}
use Rattle.law_expand.specs.Indices.{bound_index}
use Rattle.law_expand.specs.Serves.{AllServe}
use Rattle.law_stuck.specs.Behind.{IsBehind, AllBehind}
use Rattle.law_text.specs.Standing.{IsStanding}
use Rattle.law_run.specs.Expansion.{IsOnceOver}
use Rattle.law_run.specs.Fitting.{Fits, AllFit}
use Rattle.law_run.specs.Known.{MentionsTheKnown}
use Rattle.law_run.specs.Once.{NameOnce}

-- a follower alone: evaluation can stand on it, it can be put beside the others in the tables of a run, and what it binds and what its frames
-- give stands once
pub record KeepsTo (earlier : List CompiledLibrary) (r : CompiledLibrary) : Type 0 where
  pub behind : IsBehind earlier r
  pub fits : Fits earlier r
  pub once_over : IsOnceOver r

abbrev pub FollowersKeepTo : Type 0
FollowersKeepTo = (earlier : List CompiledLibrary) (r : CompiledLibrary) → Follows r earlier → KeepsTo earlier r

-- followers of one another: so does each of them behind those before it, each serves those behind it, and all of them name once what they
-- name and mention only what they bind and define
pub record KeepTogether (rs : List CompiledLibrary) : Type 0 where
  pub behind : AllBehind [] rs
  pub fit : AllFit [] rs
  pub serve : AllServe [] rs
  pub name_once : NameOnce rs
  pub mention : Each (MentionsTheKnown rs) rs

abbrev pub FollowersKeepTogether : Type 0
FollowersKeepTogether = (rs : List CompiledLibrary) → AllFollow [] rs → KeepTogether rs

-- A follower stands among the records of a text, where no two of the variables that it binds have one index. Of those alone that its lines
-- define or bind a follower says so much.
abbrev pub FollowersStand : Type 0
FollowersStand = (rs earlier : List CompiledLibrary) (r : CompiledLibrary)
    → Each (Among rs) earlier → Follows r earlier → Once (flat_map bound_index r.bindings) → IsStanding rs r
