-- The sources of a library and of all that it needs are laid out as an entry's are.
use Rattle.std.proofs.Common.{◌≡◌, ℕ, zero, suc, ◌<◌, true, false, List, [], ◌∷◌, ◌++◌, length, Result, Ok, Option, Some, None, refl, sym, ap, subst, ◌∙◌, inl, inr, arith}
use Rattle.std.specs.Prelude.{◌⊎◌, map, is_some, slice_get}
use Rattle.base_data.specs.declared.fault.Fault.{Fault}
use Rattle.load_builtin.specs.Exports.{exports}
use Rattle.core_language.specs.declared.record.CompiledLibrary.{CompiledLibrary}
use Rattle.load_file_names.specs.File.{file_of}
use Rattle.load_forms.specs.declared.set.Import.{Import}
use Rattle.load_files.specs.Found.{needed, absent_at, held_at}
use Rattle.load_files.specs.declared.found.Found.{Found}
use Rattle.load_files.specs.declared.found.Opened.{Opened}
use Rattle.load_files.specs.declared.found.Source.{Source}
use Rattle.law_load.specs.Laws.{Libraries, IsAt, Needs}
use Rattle.law_load.specs.Sources.{AreAsHeld}
use Rattle.law_load.proofs.RowLemmas.{at_first, at_end, at_parts}
use Rattle.base_outside.specs.Contents.{Paths, at_path}
use Rattle.law_local.specs.Entry.{IsGroup, Groups, sources_in, Refers, Reaches, refers, further, IsEarlier, IsLaidOut}
use Rattle.law_local.specs.Local.{HaveGroups, group_at, sources_at, all_sources, entry_of, AreLoaded}
use Rattle.law_local.specs.Recorded.{library_at}
use Rattle.law_local.proofs.Rising.{Among, Rising, rising_once, rising_from, rising_end, mark_from, mark_among, lower_first, among_get, get_among, among_cases, among_first}
use Rattle.law_local.proofs.Sources.{sources_end}

pub record AllAsHeld (files : Paths) (group : Found → List Source) (loaded : Libraries) : Type 0 where
  pub held : (place : ℕ) (file : List ℕ) (f : Found) → IsAt loaded place file f → AreAsHeld files (group f)

module _ (group : Found → List Source) (loaded : Libraries) where
  abbrev pub group_here : Option (List ℕ × Found) → Groups → Groups
  group_here None gs = gs
  group_here (Some row) gs = (group row.1, row.1.opened) ∷ gs

  abbrev pub groups_at : List ℕ → Groups
  groups_at [] = []
  groups_at (p ∷ ps) = group_here (slice_get loaded p) (groups_at ps)

  pub sources_are : (ps : List ℕ) → sources_in (groups_at ps) ≡ sources_at group loaded ps
  sources_are [] = refl
  sources_are (p ∷ ps) = by (slice_get loaded p) (sources_are ps)
    where
      by : (o : Option (List ℕ × Found)) → sources_in (groups_at ps) ≡ sources_at group loaded ps → sources_in (group_here o (groups_at ps)) ≡ group_at group o ++ sources_at group loaded ps
      by None h = h
      by (Some row) h = ap (λ (ss : List Source). group row.1 ++ ss) h

abbrev AreThere : Libraries → List ℕ → Type 0
AreThere loaded ps = (q : ℕ) → Among ps q → (row : List ℕ × Found) × (slice_get loaded q ≡ Some row)

-- the group of a place
record IsGroupAt (group : Found → List Source) (loaded : Libraries) (ps : List ℕ) (i : ℕ) (g : List Source × Opened) : Type 0 where
  pub place : ℕ
  pub among : slice_get ps i ≡ Some place
  pub file : List ℕ
  pub library : Found
  pub there : IsAt loaded place file library
  pub is : ◌≡◌ {A = List Source × Opened} (group library, library.opened) g

module _ (group : Found → List Source) (loaded : Libraries) where
  group_first : (p : ℕ) (ps : List ℕ) (row : List ℕ × Found) → slice_get loaded p ≡ Some row → groups_at group loaded (p ∷ ps) ≡ (group row.1, row.1.opened) ∷ groups_at group loaded ps
  group_first p ps row h = ap (λ o. group_here group loaded o (groups_at group loaded ps)) h

  pub many_groups : (ps : List ℕ) → AreThere loaded ps → length (groups_at group loaded ps) ≡ length ps
  many_groups [] there = refl
  many_groups (p ∷ ps) there =
      let x = there p (inl refl) in
      ap length (group_first p ps x.0 x.1) ∙ ap suc (many_groups ps (λ q a. there q (inr a)))

  group_get : (ps : List ℕ) → AreThere loaded ps → (i : ℕ) (g : List Source × Opened) → slice_get (groups_at group loaded ps) i ≡ Some g → IsGroupAt group loaded ps i g
  group_get [] there i g h = absurd (cc)
  group_get (p ∷ ps) there zero g h =
      let x = there p (inl refl) in
      let at : slice_get ((group x.0.1, x.0.1.opened) ∷ groups_at group loaded ps) zero ≡ Some g = ap (λ (gs : Groups). slice_get gs zero) (sym (group_first p ps x.0 x.1)) ∙ h in
      let same : ◌≡◌ {A = List Source × Opened} (group x.0.1, x.0.1.opened) g = cc in
      record { place = p; among = refl; file = x.0.0; library = x.0.1; there = x.1; is = same }
  group_get (p ∷ ps) there (suc i) g h =
      let x = there p (inl refl) in
      let at : slice_get (groups_at group loaded ps) i ≡ Some g = ap (λ (gs : Groups). slice_get gs (suc i)) (sym (group_first p ps x.0 x.1)) ∙ h in
      let y = group_get ps (λ q a. there q (inr a)) i g at in
      record { place = y.place; among = y.among; file = y.file; library = y.library; there = y.there; is = y.is }

  group_put : (ps : List ℕ) → AreThere loaded ps → (i p : ℕ) (file : List ℕ) (l : Found) → slice_get ps i ≡ Some p → IsAt loaded p file l → slice_get (groups_at group loaded ps) i ≡ Some (group l, l.opened)
  group_put [] there i p file l h at = absurd (cc)
  group_put (q ∷ ps) there zero p file l h at =
      let same : q ≡ p = cc in
      ap (λ (gs : Groups). slice_get gs zero) (group_first q ps (file, l) (ap (slice_get loaded) same ∙ at))
  group_put (q ∷ ps) there (suc i) p file l h at =
      let x = there q (inl refl) in
      ap (λ (gs : Groups). slice_get gs (suc i)) (group_first q ps x.0 x.1) ∙ group_put ps (λ r a. there r (inr a)) i p file l h at

module _ (files : Paths) (roots : List (List ℕ)) (group : Found → List Source) (loaded : Libraries) (are : AreLoaded loaded) (groups : HaveGroups roots group loaded) (held : AllAsHeld files group loaded) where
  -- the bytes that were read are there
  bytes_there : (p : ℕ) (file : List ℕ) (l : Found) → (at : IsAt loaded p file l) → at_path files l.opened.path ≡ Some (groups p file l at).bytes
  bytes_there p file l at =
      let g = groups p file l at in
      let first : List Source = map (λ (r : List ℕ). absent_at (r ++ file_of l.opened.form.name)) g.before in
      held.held p file l at (length first) (held_at l.opened.path g.bytes) (ap (λ (ss : List Source). slice_get ss (length first)) g.parts ∙ at_end first (held_at l.opened.path g.bytes))

  -- two libraries of one path stand at one place
  one_path : (p q : ℕ) (file name : List ℕ) (l m : Found) → IsAt loaded p file l → IsAt loaded q name m → l.opened.path ≡ m.opened.path → p ≡ q
  one_path p q file name l m at to e =
      let g = groups p file l at in
      let h = groups q name m to in
      let both : ◌≡◌ {A = Option (List ℕ)} (Some g.bytes) (Some h.bytes) = sym (bytes_there p file l at) ∙ ap (at_path files) e ∙ bytes_there q name m to in
      let bytes : g.bytes ≡ h.bytes = cc in
      let opened : ◌≡◌ {A = Result Opened Fault} (Ok l.opened) (Ok m.opened) = sym g.read ∙ ap (λ (path : List ℕ). library_at path g.bytes) e ∙ ap (library_at m.opened.path) bytes ∙ h.read in
      let same : l.opened ≡ m.opened = cc in
      let files_same : file ≡ name = are.once.named p file l at ∙ ap (λ (o : Opened). file_of o.form.name) same ∙ sym (are.once.named q name m to) in
      are.once.once p q name l m (subst (λ n. IsAt loaded p n l) files_same at) to

  all_held : (ps : List ℕ) → AreAsHeld files (sources_at group loaded ps)
  all_held [] i a h = absurd (cc)
  all_held (p ∷ ps) i a h = by (slice_get loaded p) refl (all_held ps) (at_parts (group_at group (slice_get loaded p)) (sources_at group loaded ps) i a h)
    where
      own : (o : Option (List ℕ × Found)) → slice_get loaded p ≡ o → (j : ℕ) → slice_get (group_at group o) j ≡ Some a → at_path files a.path ≡ a.held
      own None e j at = absurd (cc)
      own (Some row) e j at = held.held p row.0 row.1 e j a at

      by : (o : Option (List ℕ × Found)) → slice_get loaded p ≡ o → AreAsHeld files (sources_at group loaded ps)
          → (slice_get (group_at group (slice_get loaded p)) i ≡ Some a) ⊎ ((j : ℕ) × (slice_get (sources_at group loaded ps) j ≡ Some a)) → at_path files a.path ≡ a.held
      by o e rest (inl first) = own o e i (ap (λ x. slice_get (group_at group x) i) (sym e) ∙ first)
      by o e rest (inr later) = rest later.0 a later.1

  module _ (ps : List ℕ) (rising : Rising ps) (there : AreThere loaded ps)
      (closed : (p : ℕ) (file : List ℕ) (l : Found) → Among ps p → IsAt loaded p file l → (q : ℕ) → Needs l q → Among ps q) where
    gs : Groups
    gs = groups_at group loaded ps

    pub each_read : (i : ℕ) (g : List Source × Opened) → slice_get (groups_at group loaded ps) i ≡ Some g → IsGroup roots g.0 g.1
    each_read i g h =
        let x = group_get group loaded ps there i g h in
        subst (λ (y : List Source × Opened). IsGroup roots y.0 y.1) x.is (groups x.place x.file x.library x.there)

    pub each_apart : (i j : ℕ) (g h : List Source × Opened) → slice_get (groups_at group loaded ps) i ≡ Some g → slice_get (groups_at group loaded ps) j ≡ Some h → g.1.path ≡ h.1.path → i ≡ j
    each_apart i j g h at to e =
        let x = group_get group loaded ps there i g at in
        let y = group_get group loaded ps there j h to in
        let paths : x.library.opened.path ≡ y.library.opened.path = ap (λ (z : List Source × Opened). z.1.path) x.is ∙ e ∙ ap (λ (z : List Source × Opened). z.1.path) (sym y.is) in
        let places : x.place ≡ y.place = one_path x.place y.place x.file y.file x.library y.library x.there y.there paths in
        rising_once ps i j x.place rising x.among (y.among ∙ ap Some (sym places))

    pub none_absent : (i j : ℕ) (g : List Source × Opened) (a : Source) → slice_get (groups_at group loaded ps) i ≡ Some g → slice_get (sources_at group loaded ps) j ≡ Some a → a.path ≡ g.1.path → is_some a.held ≡ true
    none_absent i j g a at to e =
        let x = group_get group loaded ps there i g at in
        let path : a.path ≡ x.library.opened.path = e ∙ ap (λ (z : List Source × Opened). z.1.path) (sym x.is) in
        ap is_some (sym (all_held ps j a to) ∙ ap (at_path files) path ∙ bytes_there x.place x.file x.library x.there)

    -- the library of an import, which is needed
    record IsImportedFrom (l : Found) (import : Import) (b : ℕ) : Type 0 where
      pub file : List ℕ
      pub library : Found
      pub there_at : IsAt loaded b file library
      pub index : ℕ
      pub among : slice_get ps index ≡ Some b
      pub named : file_of library.opened.form.name ≡ file_of import.set.library

    pub each_earlier : (i n : ℕ) (g : List Source × Opened) (import : Import) → slice_get (groups_at group loaded ps) i ≡ Some g → slice_get g.1.form.imports n ≡ Some import
        → is_some (exports import.set.library) ≡ false → IsEarlier (groups_at group loaded ps) i import
    each_earlier i n g import at among not_given =
        let x = group_get group loaded ps there i g at in
        let own : slice_get x.library.opened.form.imports n ≡ Some import = ap (λ (z : List Source × Opened). slice_get z.1.form.imports n) x.is ∙ among in
        let y = (are.after x.place x.file x.library x.there n import own).loaded_before not_given in
        let j = among_get ps y.place (closed x.place x.file x.library (get_among ps i x.place x.among) x.there y.place y.needed) in
        let less = y.before in
        let place = are.once.in_order x.place x.file x.library x.there in
        record {
          place = j.0;
          library = (group y.library, y.library.opened);
          before = lower_first ps j.0 i y.place x.place rising j.1 x.among (omega (arith, less, place));
          there = group_put group loaded ps there j.0 y.place (file_of import.set.library) y.library j.1 y.there;
          named = sym (are.once.named y.place (file_of import.set.library) y.library y.there);
        }

    -- what is needed is reached
    reach_below : (bound : ℕ) (p : ℕ) (file : List ℕ) (l : Found) (i : ℕ) → p < bound → IsAt loaded p file l → slice_get ps i ≡ Some p
        → (q j : ℕ) → Needs l q → slice_get ps j ≡ Some q → Reaches (groups_at group loaded ps) i j
    reach_below zero p file l i less at among q j need to = absurd (omega (arith, less))
    reach_below (suc bound) p file l i less at among q j need to = by x.brings.brought (λ m b_less k b_at b_need. reach_below bound b (file_of x.import.set.library) m k b_less b_at b_need q j)
      where
        x : Rattle.law_load.specs.Laws.IsBrought loaded l.opened.form.imports q
        x = are.only p file l at q need

        b : ℕ
        b = x.brings.from

        y : Rattle.law_load.specs.Laws.IsLoadedBefore loaded x.import.set l
        y = (are.after p file l at x.n x.import x.among).loaded_before x.brings.not_given

        same : y.place ≡ b
        same = are.once.once y.place b (file_of x.import.set.library) y.library x.brings.library y.there x.brings.there

        k : (k : ℕ) × (slice_get ps k ≡ Some b)
        k = among_get ps b (closed p file l (get_among ps i p among) at b (subst (Needs l) same y.needed))

        b_below : b < bound
        b_below =
            let first = y.before in
            let place = are.once.in_order p file l at in
            omega (arith, first, place, same, less)

        refer : Refers (groups_at group loaded ps) i k.0
        refer = record {
          from = (group l, l.opened);
          there = group_put group loaded ps there i p file l among at;
          n = x.n;
          import = x.import;
          among = x.among;
          not_given = x.brings.not_given;
          to = (group x.brings.library, x.brings.library.opened);
          there_too = group_put group loaded ps there k.0 b (file_of x.import.set.library) x.brings.library k.1 x.brings.there;
          named = sym (are.once.named b (file_of x.import.set.library) x.brings.library x.brings.there);
        }

        by : (q ≡ b) ⊎ Needs x.brings.library q
            → ((m : Found) → b < bound → (n : ℕ) → IsAt loaded b (file_of x.import.set.library) m → slice_get ps n ≡ Some b → Needs m q → slice_get ps j ≡ Some q → Reaches (groups_at group loaded ps) n j)
            → Reaches (groups_at group loaded ps) i j
        by (inl e) rest = subst (λ n. Reaches (groups_at group loaded ps) i n) (rising_once ps k.0 j b rising k.1 (to ∙ ap Some e)) (refers refer)
        by (inr m) rest = further refer (rest x.brings.library b_below k.0 x.brings.there k.1 m to)

    pub reach : (p : ℕ) (file : List ℕ) (l : Found) (i : ℕ) → IsAt loaded p file l → slice_get ps i ≡ Some p → (q j : ℕ) → Needs l q → slice_get ps j ≡ Some q → Reaches (groups_at group loaded ps) i j
    reach p file l i at among q j need to = reach_below (suc p) p file l i (omega arith) at among q j need to

  -- ---- a library and what it needs

  module _ (p : ℕ) (file : List ℕ) (f : Found) (at : IsAt loaded p file f) where
    need_of : (q : ℕ) → Among (needed f) q → Needs f q
    need_of q a =
        let k = mark_from zero f.needs q a in
        let is = k.is in
        let same : k.place ≡ q = omega (arith, is) in
        subst (Needs f) same k.marked

    need_in : (q : ℕ) → Needs f q → Among (needed f ++ p ∷ []) q
    need_in q need = among_first (needed f) (p ∷ []) q (mark_among zero f.needs q q (omega arith) need)

    lower : (q : ℕ) → Among (needed f) q → q < p
    lower q a =
        let b = (are.closed p file f at q (need_of q a)).before in
        let place = are.once.in_order p file f at in
        omega (arith, b, place)

    all_rise : Rising (needed f ++ p ∷ [])
    all_rise = rising_end (needed f) p (rising_from zero f.needs) lower

    row_of_need : (q : ℕ) → Among (needed f) q → (row : List ℕ × Found) × (slice_get loaded q ≡ Some row)
    row_of_need q a = let n = are.closed p file f at q (need_of q a) in ((n.file, n.library), n.there)

    all_there : AreThere loaded (needed f ++ p ∷ [])
    all_there q a = elim (among_cases (needed f) p [] q a) [
      | inl old ↦ row_of_need q old
      | inr new ↦ elim new [
        | inl e ↦ ((file, f), ap (slice_get loaded) e ∙ at)
        | inr none ↦ elim none [ ]
      ]
    ]

    one_library : (q : ℕ) (name other : List ℕ) (l m : Found) → IsAt loaded q name l → IsAt loaded q other m → l ≡ m
    one_library q name other l m h k =
        let e : ◌≡◌ {A = Option (List ℕ × Found)} (Some (name, l)) (Some (other, m)) = sym h ∙ k in
        let rows : ◌≡◌ {A = List ℕ × Found} (name, l) (other, m) = cc in
        ap (λ (r : List ℕ × Found). r.1) rows

    all_closed : (q : ℕ) (name : List ℕ) (l : Found) → Among (needed f ++ p ∷ []) q → IsAt loaded q name l → (b : ℕ) → Needs l b → Among (needed f ++ p ∷ []) b
    all_closed q name l a there b need = elim (among_cases (needed f) p [] q a) [
      | inl old ↦
          let n = are.closed p file f at q (need_of q old) in
          need_in b (n.also b (subst (λ (z : Found). Needs z b) (one_library q name n.file l n.library there n.there) need))
      | inr new ↦ elim new [
        | inl e ↦ need_in b (subst (λ (z : Found). Needs z b) (one_library q name file l f there (ap (slice_get loaded) e ∙ at)) need)
        | inr none ↦ elim none [ ]
      ]
    ]

    sources_same : all_sources group loaded f ≡ sources_at group loaded (needed f ++ p ∷ [])
    sources_same = sym (sources_end group loaded (needed f) p file f at)

    reaches_all : (i : ℕ) → i < length (needed f) → Reaches (groups_at group loaded (needed f ++ p ∷ [])) (length (needed f)) i
    reaches_all i less =
        let x = get_at (needed f) i less in
        reach (needed f ++ p ∷ []) all_rise all_there all_closed p file f (length (needed f)) at (at_end (needed f) p) x.0 i (need_of x.0 (get_among (needed f) i x.0 x.1)) (at_first (needed f) (p ∷ []) i x.0 x.1)
      where
        get_at : (qs : List ℕ) (j : ℕ) → j < length qs → (q : ℕ) × (slice_get qs j ≡ Some q)
        get_at [] j h = absurd (omega arith)
        get_at (q ∷ qs) zero h = (q, refl)
        get_at (q ∷ qs) (suc j) h = get_at qs j (omega (arith, h))

    pub laid_out : (r : CompiledLibrary) → IsLaidOut (entry_of group roots loaded f r)
    laid_out r = record {
      groups = groups_at group loaded (needed f ++ p ∷ []);
      parts = sources_same ∙ sym (sources_are group loaded (needed f ++ p ∷ []));
      read = each_read (needed f ++ p ∷ []) all_rise all_there all_closed;
      apart = each_apart (needed f ++ p ∷ []) all_rise all_there all_closed;
      never_absent = λ i j g a h k e. none_absent (needed f ++ p ∷ []) all_rise all_there all_closed i j g a h (ap (λ (ss : List Source). slice_get ss j) (sym sources_same) ∙ k) e;
      earlier = each_earlier (needed f ++ p ∷ []) all_rise all_there all_closed;
      last = length (needed f);
      many = many_groups group loaded (needed f ++ p ∷ []) all_there ∙ one_more (needed f);
      reaches = reaches_all;
    }
      where
        one_more : (qs : List ℕ) → length (qs ++ p ∷ []) ≡ suc (length qs)
        one_more [] = refl
        one_more (q ∷ qs) = ap suc (one_more qs)
