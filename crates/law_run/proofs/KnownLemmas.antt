-- Records that follow one another mention only what is known.
use Rattle.std.proofs.Common.{List, [], ◌∷◌, ◌++◌, refl, inl, inr}
use Rattle.std.specs.List.{flat_map}
use Rattle.base_data.proofs.ElementLemmas.{each-at}
use Rattle.base_data.specs.Elements.{Each, Among}
use Rattle.core_language.specs.declared.record.CompiledLibrary.{CompiledLibrary}
use Rattle.law_core.specs.Following.{AllFollow}
use Rattle.law_core.specs.Follows.{names_of, export_labels, row_labels, keywords, IsKnown, Suits, Follows}
use Rattle.law_core.specs.Records.{defined, LinesClosed}
use Rattle.law_core.specs.Scope.{Closed}
use Rattle.law_core.proofs.FollowingLemmas.{closed_more, followers_closed}
use Rattle.law_expand.specs.Behind.{IsKnownBefore}
use Rattle.law_expand.proofs.Fresh.{each-map}
use Rattle.law_run.specs.Known.{MentionsTheKnown}
use Rattle.law_run.specs.Following.{RunsMentionTheKnown}
use Rattle.law_run.proofs.FollowLemmas.{records_follow_in_runs}
use Rattle.law_run.proofs.ImportsFollow.{known_among, one_more}
use Rattle.law_run.proofs.WiderLemmas.{AreAmong, all_wider, names_wider}

module _ (all : List CompiledLibrary) (closed : Each (LinesClosed (flat_map defined all)) all) where
  -- one of them, behind some of them
  one_mentions : (earlier : List CompiledLibrary) (r : CompiledLibrary) → AreAmong earlier all → Among all r → Follows r earlier → MentionsTheKnown all r
  one_mentions earlier r w here h = record {
    exports = each-map (IsKnown r earlier) (IsKnownBefore all) (export_labels r) h.labels.exports (known_among all earlier r w here);
    rows = each-map (IsKnown r earlier) (IsKnownBefore all) (row_labels r) h.labels.rows (known_among all earlier r w here);
    lines = each-at (LinesClosed (flat_map defined all)) all r closed here;
    keywords = each-map (Suits (flat_map defined earlier)) (Closed (flat_map defined all)) (keywords r) h.code.transformers
        (λ c k. closed_more (flat_map defined earlier) (flat_map defined all) c (λ l a. all_wider defined earlier all l w a) k.1);
    references = each-map (Among (names_of earlier)) (Among (names_of all)) r.refs h.references.known (λ n a. names_wider earlier all n w a);
  }

  all_mention : (earlier rs : List CompiledLibrary) → AreAmong earlier all → AreAmong rs all → AllFollow earlier rs → Each (MentionsTheKnown all) rs
  all_mention earlier [] before these h = tt
  all_mention earlier (r ∷ rs) before these h = (
    one_mentions earlier r before (these r (inl refl)) h.0,
    all_mention (earlier ++ r ∷ []) rs (one_more all earlier r before (these r (inl refl))) (λ q a. these q (inr a)) h.1,
  )

pub followers_mention : (rs : List CompiledLibrary) → AllFollow [] rs → Each (MentionsTheKnown rs) rs
followers_mention rs h = all_mention rs (followers_closed rs h) [] rs (λ q a. elim a [ ]) (λ q a. a) h

pub runs_mention_the_known : RunsMentionTheKnown
runs_mention_the_known prelude files roots path found s records program run =
    followers_mention (records ++ program ∷ []) (records_follow_in_runs prelude files roots path found s records program run).all
