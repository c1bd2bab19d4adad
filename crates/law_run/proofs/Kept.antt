-- What followers keep to.
use Rattle.std.proofs.Common.{List, [], ◌∷◌, ◌++◌, inl, inr}
use Rattle.std.specs.List.{flat_map}
use Rattle.base_data.proofs.ElementLemmas.{each-append, each-first, once-first}
use Rattle.base_data.specs.Elements.{Each}
use Rattle.base_data.specs.declared.name.Label.{Label}
use Rattle.core_language.specs.References.{binders}
use Rattle.core_language.specs.declared.record.CompiledLibrary.{CompiledLibrary}
use Rattle.law_core.specs.Following.{AllFollow}
use Rattle.law_core.specs.Follows.{keywords, line_cores, IsOwn, Suits, Follows}
use Rattle.law_core.specs.Records.{defined, line_core, run_binders, LinesClosed}
use Rattle.law_core.specs.Scope.{Closed}
use Rattle.law_core.specs.Templates.{TemplatesSuit}
use Rattle.law_core.specs.WellMade.{IsWellMade}
use Rattle.law_expand.proofs.Fresh.{each-map}
use Rattle.law_expand.proofs.Serving.{followers-serve}
use Rattle.law_stuck.specs.Behind.{IsOfTexts, IsBehind, AllBehind}
use Rattle.law_run.specs.Fitting.{Fits, AllFit}
use Rattle.law_run.proofs.KnownLemmas.{followers_mention}
use Rattle.law_run.proofs.OnceLemmas.{followers_name_once}
use Rattle.law_run.specs.Followers.{KeepsTo, FollowersKeepTo, FollowersKeepTogether, FollowersStand}
use Rattle.law_run.proofs.Parts.{each-of-map}
use Rattle.law_run.proofs.References.{refs-are, referred, known}
use Rattle.law_run.proofs.FollowerRows.{rows-bound}

module _ (earlier : List CompiledLibrary) (r : CompiledLibrary) (h : Follows r earlier) where
  abbrev given : List Label
  given = flat_map defined earlier ++ defined r

  abbrev before : List Label
  before = flat_map defined earlier

  closed : LinesClosed given r
  closed = each-of-map (Closed given) line_core r.run (each-map (Suits given) (Closed given) (line_cores r) h.code.lines (λ c s. s.1))

  behind : IsBehind earlier r
  behind = record {
    new = h.named.new;
    no_text = no_text;
    bindings_here = h.own.own_bindings;
    lines = closed;
    transformers = each-map (Suits before) (Closed before) (keywords r) h.code.transformers (λ c s. s.1);
    well_made = each-append (IsWellMade []) (line_cores r) (keywords r)
        (each-map (Suits given) (IsWellMade []) (line_cores r) h.code.lines (λ c s. s.0)) (each-map (Suits before) (IsWellMade []) (keywords r) h.code.transformers (λ c s. s.0));
    bound_here = h.own.own_binders;
    numbered_once = h.own.codes_once;
    numbered_here = h.own.own_codes;
    referred = referred earlier r h;
    known = known earlier r h;
  }
    where
      no_text : IsOfTexts r.name → ⊥
      no_text (inl e) = h.named.no_core e
      no_text (inr e) = h.named.no_prelude e

  fits : Fits earlier r
  fits = record {
    name = h.named.new;
    own_rows = h.own.own_frames;
    rows = rows-bound r.frames h.own.rows_once;
    own_labels = h.own.own_bindings;
    labels = h.own.bindings_once;
  }

  pub keeps-to : KeepsTo earlier r
  keeps-to = record { behind = behind; fits = fits; once_over = record { rows = rows-bound r.frames h.own.rows_once; labels = h.own.bindings_once } }

  suited : Each (TemplatesSuit []) (line_cores r)
  suited = each-map (Suits given) (TemplatesSuit []) (line_cores r) h.code.lines (λ c s. s.0.templates)

  bound-here : Each (λ (l : Label). IsOwn r l.0) (run_binders r)
  bound-here = each-first (λ (l : Label). IsOwn r l.0) (run_binders r) (flat_map binders (keywords r)) h.own.own_binders

pub followers-keep-to : FollowersKeepTo
followers-keep-to earlier r h = keeps-to earlier r h

pub followers-stand : FollowersStand
followers-stand rs earlier r loaded h indexed = record {
  earlier = earlier;
  loaded = loaded;
  closed = closed earlier r h;
  suited = suited earlier r h;
  bound_once = once-first (run_binders r) (flat_map binders (keywords r)) h.own.binders_once;
  bound_here = bound-here earlier r h;
  indexed_once = indexed;
  named_here = h.own.own_bindings;
  referred = refs-are earlier r h;
}

-- ---- one after another

all-behind : (earlier rs : List CompiledLibrary) → AllFollow earlier rs → AllBehind earlier rs
all-behind earlier [] h = tt
all-behind earlier (r ∷ rs) h = ((keeps-to earlier r h.0).behind, all-behind (earlier ++ r ∷ []) rs h.1)

all-fit : (earlier rs : List CompiledLibrary) → AllFollow earlier rs → AllFit earlier rs
all-fit earlier [] h = tt
all-fit earlier (r ∷ rs) h = ((keeps-to earlier r h.0).fits, all-fit (earlier ++ r ∷ []) rs h.1)

pub followers-keep-together : FollowersKeepTogether
followers-keep-together rs h = record {
  behind = all-behind [] rs h;
  fit = all-fit [] rs h;
  serve = followers-serve rs h;
  name_once = followers_name_once rs h;
  mention = followers_mention rs h;
}
