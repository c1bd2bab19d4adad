-- What a store has for a library is the record of an entry that fits and suits.
use Rattle.std.proofs.Common.{◌≡◌, ℕ, ◌≤◌, Bool, true, false, List, length, Option, Some, None, Result, refl, ap, ◌∙◌, arith}
use Rattle.std.specs.Prelude.{nat_lt, if◌then◌else◌}
use Rattle.base_data.specs.declared.fault.Fault.{Fault}
use Rattle.core_cache.specs.Fits.{fits}
use Rattle.core_cache.specs.declared.entry.Entry.{Entry}
use Rattle.core_language.specs.declared.record.CompiledLibrary.{CompiledLibrary}
use Rattle.eval_code.specs.Codes.{Codes}
use Rattle.load_files.specs.declared.found.Found.{Found}
use Rattle.base_outside.specs.Contents.{Paths, at_path}
use Rattle.run_reuse.specs.Entries.{CacheInputs, entry_limit, entry_in, if_short, if_suits, if_fits, place_of, suits}
use Rattle.run_reuse.specs.Groups.{chosen}
use Rattle.run_reuse.specs.Turns.{stored}
use Rattle.law_reuse.specs.Due.{HoldsFitting, StoredExactly}

not_long : (most n : ℕ) → n ≤ most → nat_lt most n ≡ false
not_long most n h = grind (arith, h)

within : (most n : ℕ) → nat_lt most n ≡ false → n ≤ most
within most n h = grind (arith, h)

module _ (k : CacheInputs) where
  -- the entry of a record that the store has
  pub record IsFrom (records : List CompiledLibrary) (store : Paths) (f : Found) (r : CompiledLibrary) : Type 0 where
    pub entry : Entry
    pub holds : HoldsFitting k store f entry
    pub suit : suits records f entry.stored ≡ true
    pub is : entry.stored ≡ r

  pub from_entry : (records : List CompiledLibrary) (store : Paths) (f : Found) (r : CompiledLibrary) → if_short k records f (at_path store (place_of k f)) ≡ Some r → IsFrom records store f r
  from_entry records store f r h = by (at_path store (place_of k f)) refl h
    where
      by_suit : (e : Entry) (b : Bool) → HoldsFitting k store f e → suits records f e.stored ≡ b → (if b then Some e.stored else None) ≡ Some r → IsFrom records store f r
      by_suit e true holds suit h = let same : e.stored ≡ r = cc in record { entry = e; holds = holds; suit = suit; is = same }
      by_suit e false holds suit h = absurd (cc)

      by_fit : (held : List ℕ) (e : Entry) (b : Bool) → at_path store (place_of k f) ≡ Some held → length held ≤ entry_limit → entry_in held ≡ Some e → fits e k.roots k.sources (chosen k.groups f) ≡ b
          → if_suits records f (if b then Some e.stored else None) ≡ Some r → IsFrom records store f r
      by_fit held e true at short spells fit h = by_suit e (suits records f e.stored) (record { held = held; there = at; short = short; is = spells; fit = fit }) refl h
      by_fit held e false at short spells fit h = absurd (cc)

      by_entry : (held : List ℕ) (o : Option Entry) → at_path store (place_of k f) ≡ Some held → length held ≤ entry_limit → entry_in held ≡ o → if_suits records f (if_fits k f o) ≡ Some r → IsFrom records store f r
      by_entry held None at short spells h = absurd (cc)
      by_entry held (Some e) at short spells h = by_fit held e (fits e k.roots k.sources (chosen k.groups f)) at short spells refl h

      by_length : (held : List ℕ) (b : Bool) → at_path store (place_of k f) ≡ Some held → nat_lt entry_limit (length held) ≡ b → (if b then None else if_suits records f (if_fits k f (entry_in held))) ≡ Some r
          → IsFrom records store f r
      by_length held true at long h = absurd (cc)
      by_length held false at short h = by_entry held (entry_in held) at (within entry_limit (length held) short) refl h

      by : (o : Option (List ℕ)) → at_path store (place_of k f) ≡ o → if_short k records f o ≡ Some r → IsFrom records store f r
      by None at h = absurd (cc)
      by (Some held) at h = by_length held (nat_lt entry_limit (length held)) at refl h

  pub has_entry : (records : List CompiledLibrary) (store : Paths) (f : Found) (e : Entry) → HoldsFitting k store f e → suits records f e.stored ≡ true → if_short k records f (at_path store (place_of k f)) ≡ Some e.stored
  has_entry records store f e x suit =
      ap (if_short k records f) x.there
      ∙ ap (λ b. if b then None else if_suits records f (if_fits k f (entry_in x.held))) (not_long entry_limit (length x.held) x.short)
      ∙ ap (λ (o : Option Entry). if_suits records f (if_fits k f o)) x.is
      ∙ ap (λ b. if_suits records f (if b then Some e.stored else None)) x.fit
      ∙ ap (λ b. if b then Some e.stored else None) suit

module _ (k : CacheInputs) (prelude : Result Codes Fault) where
  pub stored_exactly : StoredExactly k prelude
  stored_exactly = record {
    only = λ now f r h. let x = from_entry k now.progress.records now.store f r h in (x.entry, x.holds, x.suit, x.is);
    each = λ now f e x suit. has_entry k now.progress.records now.store f e x suit;
  }
