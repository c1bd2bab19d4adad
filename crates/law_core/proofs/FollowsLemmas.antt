-- Whether a record follows earlier ones is told by a test.
use Rattle.std.proofs.Common.{◌≡◌, ℕ, List, [], ◌++◌, Option, None, Some, refl}
use Rattle.std.specs.Prelude.{not, nat_lt, map, is_some}
use Rattle.std.specs.List.{flat_map}
use Rattle.std.specs.Bool.{Decides}
use Rattle.std.specs.Cmp.Lexicographic.{pointwise, pointwise_decides}
use Rattle.std.proofs.lemmas.Bool.Decides.{Decides-and, Decides-or, Decides-not, Decides-like, Decides-ltb}
use Rattle.base_data.specs.Elements.{Each, Among, Once}
use Rattle.base_data.specs.Named.{Named}
use Rattle.load_builtin.specs.Exports.{derived_place}
use Rattle.base_data.specs.Op.{name_count}
use Rattle.base_data.specs.Same.{same_library, same_library_decides}
use Rattle.base_data.specs.declared.library.LibName.{LibName}
use Rattle.base_data.specs.declared.library.LibName.TheVariants as library
use Rattle.base_data.specs.declared.name.Label.{Label}
use Rattle.core_language.specs.Core.{PlainCore}
use Rattle.core_language.specs.Labels.{same_label}
use Rattle.core_language.specs.declared.binding.Binding.{Binding}
use Rattle.core_language.specs.declared.binding.Binding.TheVariants as binding
use Rattle.core_language.specs.declared.record.CompiledLibrary.{CompiledLibrary}
use Rattle.law_core.specs.Words.{each, among, once}
use Rattle.law_core.specs.Scope.{closed}
use Rattle.law_core.specs.WellMade.{is_well_made, same_code}
use Rattle.law_core.specs.Records.{defined, same_text}
use Rattle.law_core.specs.Follows.{names_of, export_names, export_labels, bound_labels, keywords, line_cores, all_binders, all_numbers, key_of, same_key, row_labels, tops, indices, IsThere, is_there, same_index, run_references}
use Rattle.law_core.specs.Follows.{HasNewName, has_new_name, IsOwn, is_own, NamesItsOwn, names_its_own, IsRecorded, is_recorded, BindsWhatItDefines, binds_what_it_defines, IsGiven, is_given, IsKnown, is_known}
use Rattle.law_core.specs.Follows.{KnowsItsLabels, knows_its_labels, Suits, suits, HasGoodCode, has_good_code, RefersToEarlier, refers_to_earlier, Follows, follows}
use Rattle.law_core.specs.Decided.{FollowsIsDecided}
use Rattle.law_core.proofs.Decisions.{each_decides, among_decides, once_decides, true_decides, false_decides, label_decides, code_decides, text_decides, key_decides, index_decides}
use Rattle.law_core.proofs.ScopeLemmas.{given_decides, closed_decides}
use Rattle.law_core.proofs.WellMadeLemmas.{well_made_decides}

none_decides : (o : Option ℕ) → Decides (not (is_some o)) (o ≡ None)
none_decides None = (λ _. refl, λ _. refl)
none_decides (Some n) = (λ e. absurd (cc), λ e. absurd (cc))

library_among : (ls : List LibName) (l : LibName) → Decides (among same_library ls l) (Among ls l)
library_among ls l = among_decides same_library same_library_decides ls l

recorded_decides : (b : Label × Binding) → Decides (is_recorded b) (IsRecorded b)
recorded_decides (l, binding.Variable v) = true_decides
recorded_decides (l, binding.PatternVariable level depth) = true_decides
recorded_decides (l, binding.Macro level None) = false_decides
recorded_decides (l, binding.Macro level (Some c)) = true_decides
recorded_decides (l, binding.Core form) = false_decides
recorded_decides (l, binding.Primitive o) = false_decides

there_decides : (n : Option ℕ) → Decides (is_there n) (IsThere n)
there_decides None = false_decides
there_decides (Some n) = true_decides

suits_decides : (ls : List Label) (c : PlainCore) → Decides (suits ls c) (Suits ls c)
suits_decides ls c = Decides-and (is_well_made [] c) (closed ls c) (well_made_decides [] c) (closed_decides ls c)

module _ (r : CompiledLibrary) where
  own_decides : (n : Named) → Decides (is_own r n) (IsOwn r n)
  own_decides n = same_library_decides n.library r.name

  abbrev Own : Type 0
  Own = Each (λ l. IsOwn r l.0) (bound_labels r) × (Each (λ l. IsOwn r l.0) (all_binders r) × (Each (λ n. IsOwn r n.0) (all_numbers r)
      × (Each (λ f. IsOwn r f.frame.0) r.frames × (Once (bound_labels r) × (Once (all_binders r) × (Once (all_numbers r) × Once (map key_of r.frames)))))))

  own_all : Decides (names_its_own r) Own
  own_all =
      Decides-and (each (λ l. is_own r l.0) (bound_labels r)) _ (each_decides (λ l. is_own r l.0) (λ l. IsOwn r l.0) (λ l. own_decides l.0) (bound_labels r))
      (Decides-and (each (λ l. is_own r l.0) (all_binders r)) _ (each_decides (λ l. is_own r l.0) (λ l. IsOwn r l.0) (λ l. own_decides l.0) (all_binders r))
      (Decides-and (each (λ n. is_own r n.0) (all_numbers r)) _ (each_decides (λ n. is_own r n.0) (λ n. IsOwn r n.0) (λ n. own_decides n.0) (all_numbers r))
      (Decides-and (each (λ f. is_own r f.frame.0) r.frames) _ (each_decides (λ f. is_own r f.frame.0) (λ f. IsOwn r f.frame.0) (λ f. own_decides f.frame.0) r.frames)
      (Decides-and (once same_label (bound_labels r)) _ (once_decides same_label label_decides (bound_labels r))
      (Decides-and (once same_label (all_binders r)) _ (once_decides same_label label_decides (all_binders r))
      (Decides-and (once same_code (all_numbers r)) _ (once_decides same_code code_decides (all_numbers r))
      (once_decides same_key key_decides (map key_of r.frames))))))))

  own_into : Own → NamesItsOwn r
  own_into p = record {
    own_bindings = p.0;
    own_binders = p.1.0;
    own_codes = p.1.1.0;
    own_frames = p.1.1.1.0;
    bindings_once = p.1.1.1.1.0;
    binders_once = p.1.1.1.1.1.0;
    codes_once = p.1.1.1.1.1.1.0;
    rows_once = p.1.1.1.1.1.1.1;
  }

  own_out : NamesItsOwn r → Own
  own_out n = (n.own_bindings, (n.own_binders, (n.own_codes, (n.own_frames, (n.bindings_once, (n.binders_once, (n.codes_once, n.rows_once)))))))

  abbrev Binds : Type 0
  Binds = Each IsRecorded r.bindings × (Each (Among (defined r)) (tops r) × Each (Among (tops r)) (defined r))

  binds_all : Decides (binds_what_it_defines r) Binds
  binds_all =
      Decides-and (each is_recorded r.bindings) _ (each_decides is_recorded IsRecorded recorded_decides r.bindings)
      (Decides-and (each (among same_label (defined r)) (tops r)) _ (each_decides (among same_label (defined r)) (Among (defined r)) (given_decides (defined r)) (tops r))
      (each_decides (among same_label (tops r)) (Among (tops r)) (given_decides (tops r)) (defined r)))

  binds_into : Binds → BindsWhatItDefines r
  binds_into p = record { kinds = p.0; tops_defined = p.1.0; defined_top = p.1.1 }

  binds_out : BindsWhatItDefines r → Binds
  binds_out b = (b.kinds, (b.tops_defined, b.defined_top))

module _ (r : CompiledLibrary) (earlier : List CompiledLibrary) where
  abbrev New : Type 0
  New = (Among (names_of earlier) r.name → ⊥) × ((r.name ≡ library.Core → ⊥) × ((r.name ≡ library.Prelude → ⊥) × Once (export_names r)))

  new_all : Decides (has_new_name r earlier) New
  new_all =
      Decides-and (not (among same_library (names_of earlier) r.name)) _ (Decides-not (among same_library (names_of earlier) r.name) (library_among (names_of earlier) r.name))
      (Decides-and (not (same_library r.name library.Core)) _ (Decides-not (same_library r.name library.Core) (same_library_decides r.name library.Core))
      (Decides-and (not (same_library r.name library.Prelude)) _ (Decides-not (same_library r.name library.Prelude) (same_library_decides r.name library.Prelude))
      (once_decides same_text text_decides (export_names r))))

  new_into : New → HasNewName r earlier
  new_into p = record { new = p.0; no_core = p.1.0; no_prelude = p.1.1.0; exports_once = p.1.1.1 }

  new_out : HasNewName r earlier → New
  new_out n = (n.new, (n.no_core, (n.no_prelude, n.exports_once)))

  given_is : (l : Label) → Decides (is_given l) (IsGiven l)
  given_is l =
      Decides-and (same_library l.0.library library.Core) _ (same_library_decides l.0.library library.Core)
      (Decides-and (nat_lt l.0.number name_count) _ (Decides-ltb l.0.number name_count) (none_decides (derived_place l.0.number)))

  known_decides : (l : Label) → Decides (is_known r earlier l) (IsKnown r earlier l)
  known_decides l = Decides-or (among same_label (bound_labels r ++ flat_map bound_labels earlier) l) (is_given l) (given_decides (bound_labels r ++ flat_map bound_labels earlier) l) (given_is l)

  abbrev Knows : Type 0
  Knows = Each (IsKnown r earlier) (export_labels r) × Each (IsKnown r earlier) (row_labels r)

  knows_all : Decides (knows_its_labels r earlier) Knows
  knows_all =
      Decides-and (each (is_known r earlier) (export_labels r)) _ (each_decides (is_known r earlier) (IsKnown r earlier) known_decides (export_labels r))
      (each_decides (is_known r earlier) (IsKnown r earlier) known_decides (row_labels r))

  knows_into : Knows → KnowsItsLabels r earlier
  knows_into p = record { exports = p.0; rows = p.1 }

  knows_out : KnowsItsLabels r earlier → Knows
  knows_out k = (k.exports, k.rows)

  abbrev visible : List Label
  visible = flat_map defined earlier ++ defined r

  abbrev before : List Label
  before = flat_map defined earlier

  abbrev Good : Type 0
  Good = Each (Suits visible) (line_cores r) × (Each IsThere (indices r) × (Once (indices r) × Each (Suits before) (keywords r)))

  good_all : Decides (has_good_code r earlier) Good
  good_all =
      Decides-and (each (suits visible) (line_cores r)) _ (each_decides (suits visible) (Suits visible) (suits_decides visible) (line_cores r))
      (Decides-and (each is_there (indices r)) _ (each_decides is_there IsThere there_decides (indices r))
      (Decides-and (once same_index (indices r)) _ (once_decides same_index index_decides (indices r))
      (each_decides (suits before) (Suits before) (suits_decides before) (keywords r))))

  good_into : Good → HasGoodCode r earlier
  good_into p = record { lines = p.0; indexed = p.1.0; indexed_once = p.1.1.0; transformers = p.1.1.1 }

  good_out : HasGoodCode r earlier → Good
  good_out g = (g.lines, (g.indexed, (g.indexed_once, g.transformers)))

  abbrev Refers : Type 0
  Refers = (r.refs ≡ run_references r) × Each (Among (names_of earlier)) r.refs

  refers_all : Decides (refers_to_earlier r earlier) Refers
  refers_all =
      Decides-and (pointwise same_library r.refs (run_references r)) _ (pointwise_decides same_library_decides r.refs (run_references r))
      (each_decides (among same_library (names_of earlier)) (Among (names_of earlier)) (library_among (names_of earlier)) r.refs)

  refers_into : Refers → RefersToEarlier r earlier
  refers_into p = record { references = p.0; known = p.1 }

  refers_out : RefersToEarlier r earlier → Refers
  refers_out e = (e.references, e.known)

  abbrev All : Type 0
  All = HasNewName r earlier × (NamesItsOwn r × (BindsWhatItDefines r × (KnowsItsLabels r earlier × (HasGoodCode r earlier × RefersToEarlier r earlier))))

  all_decided : Decides (follows r earlier) All
  all_decided =
      Decides-and (has_new_name r earlier) _ (Decides-like (has_new_name r earlier) new_into new_out new_all)
      (Decides-and (names_its_own r) _ (Decides-like (names_its_own r) (own_into r) (own_out r) (own_all r))
      (Decides-and (binds_what_it_defines r) _ (Decides-like (binds_what_it_defines r) (binds_into r) (binds_out r) (binds_all r))
      (Decides-and (knows_its_labels r earlier) _ (Decides-like (knows_its_labels r earlier) knows_into knows_out knows_all)
      (Decides-and (has_good_code r earlier) _ (Decides-like (has_good_code r earlier) good_into good_out good_all)
      (Decides-like (refers_to_earlier r earlier) refers_into refers_out refers_all)))))

  into : All → Follows r earlier
  into p = record { named = p.0; own = p.1.0; bindings = p.1.1.0; labels = p.1.1.1.0; code = p.1.1.1.1.0; references = p.1.1.1.1.1 }

  out : Follows r earlier → All
  out f = (f.named, (f.own, (f.bindings, (f.labels, (f.code, f.references)))))

  decided : Decides (follows r earlier) (Follows r earlier)
  decided = Decides-like (follows r earlier) into out all_decided

pub follows_decides : FollowsIsDecided
follows_decides r earlier = decided r earlier
