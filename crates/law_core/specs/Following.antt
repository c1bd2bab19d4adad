-- Records that follow one another.
use Rattle.std.specs.Prelude.{List, [], ◌∷◌, ◌++◌}
use Rattle.core_language.specs.declared.record.CompiledLibrary.{CompiledLibrary}
use Rattle.law_core.specs.Records.{AreClosed}
use Rattle.law_core.specs.Follows.{Follows}

-- behind some records, each of these follows those before it
abbrev pub AllFollow : List CompiledLibrary → List CompiledLibrary → Type 0
AllFollow earlier [] = Unit {0}
AllFollow earlier (r ∷ rs) = Follows r earlier × AllFollow (earlier ++ r ∷ []) rs

abbrev pub FollowersAreClosed : Type 0
FollowersAreClosed = (rs : List CompiledLibrary) → AllFollow [] rs → AreClosed rs
