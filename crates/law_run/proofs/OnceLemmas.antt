-- Records that follow one another name all that they make once.
use Rattle.std.proofs.Common.{◌≡◌, List, [], ◌∷◌, ◌++◌, refl, subst, inl, inr}
use Rattle.std.specs.Prelude.{◌⊎◌, map}
use Rattle.std.specs.List.{flat_map}
use Rattle.base_data.proofs.ElementLemmas.{each-at, among-parts}
use Rattle.base_data.specs.Elements.{Each, Among, Once}
use Rattle.base_data.specs.declared.library.LibName.{LibName}
use Rattle.base_data.specs.declared.name.CodeNo.{CodeNo}
use Rattle.base_data.specs.declared.name.Label.{Label}
use Rattle.core_language.specs.declared.record.CompiledLibrary.{CompiledLibrary}
use Rattle.law_core.specs.Following.{AllFollow}
use Rattle.law_core.specs.Follows.{names_of, Key, key_of, export_names, bound_labels, all_binders, all_numbers, Follows}
use Rattle.law_expand.proofs.Fresh.{once-append}
use Rattle.law_run.proofs.NameLemmas.{names_first, names_second}
use Rattle.stx_tree.specs.declared.frame_row.FrameRow.{FrameRow}
use Rattle.law_run.specs.Once.{row_keys, NameOnce}
use Rattle.law_run.specs.Following.{RunsNameOnce}
use Rattle.law_run.proofs.FollowLemmas.{records_follow_in_runs}

-- ---- each name once

names_new : (earlier rs : List CompiledLibrary) → AllFollow earlier rs → (n : LibName) → Among (names_of earlier) n → Among (names_of rs) n → ⊥
names_new earlier [] h n a b = elim b [ ]
names_new earlier (r ∷ rs) h n a (inl e) = h.0.named.new (subst (Among (names_of earlier)) e a)
names_new earlier (r ∷ rs) h n a (inr b) = names_new (earlier ++ r ∷ []) rs h.1 n (names_first earlier (r ∷ []) n a) b

names_once : (earlier rs : List CompiledLibrary) → AllFollow earlier rs → Once (names_of rs)
names_once earlier [] h = tt
names_once earlier (r ∷ rs) h = ((λ a. names_new (earlier ++ r ∷ []) rs h.1 r.name (names_second earlier (r ∷ []) r.name (inl refl)) a), names_once (earlier ++ r ∷ []) rs h.1)

-- what holds of each record that follows others
each_follower : (P : CompiledLibrary → Type 0) → ((r : CompiledLibrary) (before : List CompiledLibrary) → Follows r before → P r) → (earlier rs : List CompiledLibrary) → AllFollow earlier rs → Each P rs
each_follower P one earlier [] h = tt
each_follower P one earlier (r ∷ rs) h = (one r earlier h.0, each_follower P one (earlier ++ r ∷ []) rs h.1)

-- ---- what each has is its own, and stands in it once

module _ {A : Type 0} (of : CompiledLibrary → List A) (library : A → LibName) where
  abbrev AreOwn : CompiledLibrary → Type 0
  AreOwn r = Each (λ (x : A). library x ≡ r.name) (of r)

  abbrev AreOnce : CompiledLibrary → Type 0
  AreOnce r = Once (of r)

  library_named : (rs : List CompiledLibrary) → Each AreOwn rs → (x : A) → Among (flat_map of rs) x → Among (names_of rs) (library x)
  library_named [] own x a = elim a [ ]
  library_named (r ∷ rs) own x a = by (among-parts (of r) (flat_map of rs) x a) (library_named rs own.1 x)
    where
      by : Among (of r) x ⊎ Among (flat_map of rs) x → (Among (flat_map of rs) x → Among (names_of rs) (library x)) → Among (names_of (r ∷ rs)) (library x)
      by (inl b) rest = inl (each-at (λ (y : A). library y ≡ r.name) (of r) x own.0 b)
      by (inr b) rest = inr (rest b)

  all_once : (rs : List CompiledLibrary) → Once (names_of rs) → Each AreOwn rs → Each AreOnce rs → Once (flat_map of rs)
  all_once [] names own once = tt
  all_once (r ∷ rs) names own once =
      once-append (of r) (flat_map of rs) once.0 (all_once rs names.1 own.1 once.1)
      (λ x a b. names.0 (subst (Among (names_of rs)) (each-at (λ (y : A). library y ≡ r.name) (of r) x own.0 a) (library_named rs own.1 x b)))

abbrev label_library : Label → LibName
label_library l = l.0.library

abbrev code_library : CodeNo → LibName
code_library n = n.0.library

abbrev key_library : Key → LibName
key_library k = k.0.0.library

keys_own : (r : CompiledLibrary) (rows : List FrameRow) → Each (λ (f : FrameRow). f.frame.0.library ≡ r.name) rows → Each (λ (k : Key). key_library k ≡ r.name) (map key_of rows)
keys_own r [] h = tt
keys_own r (f ∷ rows) h = (h.0, keys_own r rows h.1)

pub followers_name_once : (rs : List CompiledLibrary) → AllFollow [] rs → NameOnce rs
followers_name_once rs h =
    let names = names_once [] rs h in
    record {
      bindings = all_once bound_labels label_library rs names (each_follower (AreOwn bound_labels label_library) (λ r b f. f.own.own_bindings) [] rs h) (each_follower (AreOnce bound_labels label_library) (λ r b f. f.own.bindings_once) [] rs h);
      binders = all_once all_binders label_library rs names (each_follower (AreOwn all_binders label_library) (λ r b f. f.own.own_binders) [] rs h) (each_follower (AreOnce all_binders label_library) (λ r b f. f.own.binders_once) [] rs h);
      codes = all_once all_numbers code_library rs names (each_follower (AreOwn all_numbers code_library) (λ r b f. f.own.own_codes) [] rs h) (each_follower (AreOnce all_numbers code_library) (λ r b f. f.own.codes_once) [] rs h);
      rows = all_once row_keys key_library rs names (each_follower (AreOwn row_keys key_library) (λ r b f. keys_own r r.frames f.own.own_frames) [] rs h) (each_follower (AreOnce row_keys key_library) (λ r b f. f.own.rows_once) [] rs h);
      exports = each_follower (λ (r : CompiledLibrary). Once (export_names r)) (λ r b f. f.named.exports_once) [] rs h;
    }

pub runs_name_once : RunsNameOnce
runs_name_once prelude files roots path found s records program run =
    followers_name_once (records ++ program ∷ []) (records_follow_in_runs prelude files roots path found s records program run).all
