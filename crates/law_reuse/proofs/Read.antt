-- What a run finds in its store is what the law of sources and records finds there.
use Rattle.std.proofs.Common.{◌≡◌, ℕ, Bool, true, false, List, [], ◌∷◌, length, map, Option, Some, None, refl, sym, ap, subst, ◌∙◌, arith}
use Rattle.std.specs.Prelude.{◌&&◌, nat_eq, nat_le, nat_lt, slice_get, if◌then◌else◌}
use Rattle.std.specs.Option.{option_map}
use Rattle.std.specs.Cmp.Lexicographic.{pointwise}
use Rattle.base_data.specs.Same.{same_library, texts_decides}
use Rattle.core_cache.specs.Entry.{encode, has_spelling}
use Rattle.core_cache.specs.EntryLaws.{decodes}
use Rattle.core_cache.specs.Fits as cached
use Rattle.core_cache.specs.FitsLaws.{fits_exactly}
use Rattle.core_cache.specs.Seal.{sealed}
use Rattle.core_cache.specs.declared.entry.Entry.{Entry}
use Rattle.core_language.specs.declared.record.CompiledLibrary.{CompiledLibrary}
use Rattle.law_core.specs.Follows.{follows}
use Rattle.load_files.specs.declared.found.Found.{Found}
use Rattle.load_files.specs.declared.found.Source.{Source}
use Rattle.law_load.specs.Laws.{Libraries}
use Rattle.law_local.specs.Behind.{RunBase, behind}
use Rattle.law_local.specs.Entry as entries
use Rattle.law_local.specs.Local.{all_sources, entry_of}
use Rattle.law_local.specs.Reuse as law
use Rattle.law_local.proofs.BehindLemmas.{with_first}
use Rattle.base_outside.specs.Contents.{Paths, at_path}
use Rattle.run_reuse.specs.Entries.{CacheInputs, entry_limit, entry_in, decoded, place_of, earlier, suits, if_suits, if_fits, if_short, made, spelled}
use Rattle.run_reuse.specs.Groups.{chosen, or_skip, picked}
use Rattle.law_reuse.proofs.Unsealed.{unsealed_body}
use Rattle.law_reuse.specs.Sound.{as_entry, IsSound, IsHonest}

-- an entry back
abbrev from_entry : entries.ExpandedEntry → Entry
from_entry e = record { path = e.path; roots = e.roots; sources = e.sources; stored = e.stored }

abbrev read_entry : List ℕ → Option entries.ExpandedEntry
read_entry held = option_map as_entry (entry_in held)

-- a run's store, as the law has it
abbrev pub cache_of : CacheInputs → law.CacheModel
cache_of k = record {
  entry_in = read_entry;
  spelled = λ e. sealed (encode (from_entry e));
  has_spelling = λ e. has_spelling (from_entry e);
  place = place_of k;
  follows = follows;
}

-- ---- honest stores

pub some_entry : (o : Option Entry) (d : entries.ExpandedEntry) → option_map as_entry o ≡ Some d → (e : Entry) × (o ≡ Some e) × (as_entry e ≡ d)
some_entry None d h = absurd (cc)
some_entry (Some e) d h = let same : as_entry e ≡ d = cc in (e, refl, same)

pub honest_there : (base : RunBase) (k : CacheInputs) (store : Paths) → IsHonest base.prelude store → entries.HonestStore base.prelude (cache_of k).entry_in store
honest_there base k store honest place held d at spells =
    let e = some_entry (entry_in held) d spells in
    subst (entries.IsSoundEntry base.prelude) e.2 (honest place held e.0 at e.1)

pub honest_here : (base : RunBase) (k : CacheInputs) (store : Paths) → entries.HonestStore base.prelude (cache_of k).entry_in store → IsHonest base.prelude store
honest_here base k store honest place held e at spells = honest place held (as_entry e) at (ap (option_map as_entry) spells)

-- ---- what is spelled is read back

pub read_back : (k : CacheInputs) (e d : entries.ExpandedEntry) → (cache_of k).has_spelling e ≡ true → (cache_of k).entry_in ((cache_of k).spelled e) ≡ Some d → d ≡ e
read_back k e d spelling reads =
    let own = ap decoded (unsealed_body (sealed (encode (from_entry e))) (encode (from_entry e)) refl) ∙ decodes (from_entry e) spelling in
    let both : ◌≡◌ {A = Option entries.ExpandedEntry} (Some d) (Some e) = sym reads ∙ ap (option_map as_entry) own in
    cc

-- ---- what fits

not_longer : (most n : ℕ) → nat_lt most n ≡ false → nat_le n most ≡ true
not_longer most n h = grind (arith, h)

pub picked_there : (sources kept : List Source) (places : List ℕ) → map (λ (s : Source). Option.Some s) kept ≡ map (slice_get sources) places → kept ≡ picked sources places
picked_there sources [] [] h = refl
picked_there sources [] (p ∷ places) h = absurd (cc)
picked_there sources (s ∷ kept) [] h = absurd (cc)
picked_there sources (s ∷ kept) (p ∷ places) h =
    let first : ◌≡◌ {A = Option Source} (Some s) (slice_get sources p) = cc in
    let rest : map (λ (x : Source). Option.Some x) kept ≡ map (slice_get sources) places = cc in
    ap (λ ss. s ∷ ss) (picked_there sources kept places rest) ∙ ap (λ o. or_skip o (picked sources places)) first

join : (a b : Bool) → a ≡ true → b ≡ true → (a && b) ≡ true
join true b h k = k
join false b h k = h

held_same : (a : Option (List ℕ)) → law.same_held a a ≡ true
held_same None = refl
held_same (Some a) = (texts_decides a a).1 refl

source_same : (a : Source) → law.same_source a a ≡ true
source_same a = join (cached.same_text a.path a.path) (law.same_held a.held a.held) ((texts_decides a.path a.path).1 refl) (held_same a.held)

each_same : {A : Type 0} (same : A → A → Bool) → ((a : A) → same a a ≡ true) → (xs : List A) → pointwise same xs xs ≡ true
each_same same is [] = refl
each_same same is (x ∷ xs) = join (same x x) (pointwise same xs xs) (is x) (each_same same is xs)

law_fits : (roots : List (List ℕ)) (sources : List Source) (e : entries.ExpandedEntry) → e.roots ≡ roots → e.sources ≡ sources → law.fits roots sources e ≡ true
unfolding law.fits
law_fits roots sources e r s =
    join (pointwise cached.same_text e.roots roots) (pointwise law.same_source e.sources sources)
    (subst (λ rs. pointwise cached.same_text e.roots rs ≡ true) r (each_same cached.same_text (λ a. (texts_decides a a).1 refl) e.roots))
    (subst (λ ss. pointwise law.same_source e.sources ss ≡ true) s (each_same law.same_source source_same e.sources))

law_suits : (k : CacheInputs) (rs : List CompiledLibrary) (f : Found) (r : CompiledLibrary) (others : List CompiledLibrary) → earlier rs f ≡ others → suits rs f r ≡ true → law.suits (cache_of k) others f r ≡ true
unfolding law.suits
law_suits k rs f r others same h =
    subst (λ (os : List CompiledLibrary). (same_library r.name f.opened.form.name && (pointwise nat_eq r.version f.opened.form.version && (cached.same_text r.path f.opened.path && follows r os))) ≡ true) same h

module _ (base : RunBase) (k : CacheInputs) (group : Found → List Source) (loaded : Libraries) where
  -- what the run picks for a library are its sources
  abbrev pub Picks : Found → Type 0
  Picks f = picked k.sources (chosen k.groups f) ≡ all_sources group loaded f

  pub made_is : (f : Found) (r : CompiledLibrary) → Picks f → as_entry (made k f r) ≡ entry_of group k.roots loaded f r
  made_is f r picks = λ i. record { path = f.opened.path; roots = k.roots; sources = picks i; stored = r }

  module _ (others : List CompiledLibrary) (f : Found) (picks : Picks f) where
    abbrev records : List CompiledLibrary
    records = base.derived ∷ others

    behind_is : earlier records f ≡ behind base others f
    behind_is = with_first base.derived others f.needs

    by_fit : (e : Entry) (b : Bool) (r : CompiledLibrary) → cached.fits e k.roots k.sources (chosen k.groups f) ≡ b → if_suits records f (if b then Some e.stored else None) ≡ Some r
        → (law.fits k.roots (all_sources group loaded f) (as_entry e) ≡ true) × (law.suits (cache_of k) (behind base others f) f e.stored ≡ true) × (e.stored ≡ r)
    by_fit e false r fit h = absurd (cc)
    by_fit e true r fit h = by (suits records f e.stored) refl h
      where
        is : (e.roots ≡ k.roots) × (map (λ (s : Source). Option.Some s) e.sources ≡ map (slice_get k.sources) (chosen k.groups f))
        is = (fits_exactly e k.roots k.sources (chosen k.groups f)).0 fit

        by : (b : Bool) → suits records f e.stored ≡ b → (if b then Some e.stored else None) ≡ Some r
            → (law.fits k.roots (all_sources group loaded f) (as_entry e) ≡ true) × (law.suits (cache_of k) (behind base others f) f e.stored ≡ true) × (e.stored ≡ r)
        by true suit h =
            let same : e.stored ≡ r = cc in
            (law_fits k.roots (all_sources group loaded f) (as_entry e) is.0 (picked_there k.sources e.sources (chosen k.groups f) is.1 ∙ picks), law_suits k records f e.stored (behind base others f) behind_is suit, same)
        by false suit h = absurd (cc)

    pub stored_there : (store : Paths) (r : CompiledLibrary) → if_short k records f (at_path store (place_of k f)) ≡ Some r → law.stored_for base (cache_of k) k.roots group loaded others store f ≡ Some r
    stored_there store r h = by (at_path store (place_of k f)) refl h
      where
        by_entry : (held : List ℕ) (o : Option Entry) → entry_in held ≡ o → if_suits records f (if_fits k f o) ≡ Some r → law.if_right base (cache_of k) k.roots group loaded others f (option_map as_entry o) ≡ Some r
        by_entry held None is h = absurd (cc)
        by_entry held (Some e) is h =
            let x = by_fit e (cached.fits e k.roots k.sources (chosen k.groups f)) r refl h in
            ap (λ b. if b then Some e.stored else None) (join (law.fits k.roots (all_sources group loaded f) (as_entry e)) (law.suits (cache_of k) (behind base others f) f e.stored) x.0 x.1)
            ∙ ap (λ (y : CompiledLibrary). Some y) x.2

        by_length : (held : List ℕ) (b : Bool) → nat_lt entry_limit (length held) ≡ b → (if b then None else if_suits records f (if_fits k f (entry_in held))) ≡ Some r
            → law.if_short base (cache_of k) k.roots group loaded others f (Some held) ≡ Some r
        by_length held true long h = absurd (cc)
        by_length held false short h =
            let within : nat_le (length held) law.entry_limit ≡ true = not_longer entry_limit (length held) short in
            ap (λ b. if b then law.if_right base (cache_of k) k.roots group loaded others f (read_entry held) else None) within ∙ by_entry held (entry_in held) refl h

        by : (o : Option (List ℕ)) → at_path store (place_of k f) ≡ o → if_short k records f o ≡ Some r → law.if_short base (cache_of k) k.roots group loaded others f o ≡ Some r
        by None at h = absurd (cc)
        by (Some held) at h = by_length held (nat_lt entry_limit (length held)) refl h
