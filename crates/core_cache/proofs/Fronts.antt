-- The record of an entry that fits is what the bytes behind its sources spell.
use Rattle.std.proofs.Common.{◌≡◌, ℕ, Bool, true, false, ◌&&◌, List, length, Option, Some, None, refl, ◌∙◌}
use Rattle.std.specs.Prelude.{◌==◌, if◌then◌else◌}
use Rattle.std.specs.Cmp.Lexicographic.{pointwise}
use Rattle.base_bytes.specs.Codec.{Codec, ◌>>=◌, ◌then◌, text, listed, ended, all_of}
use Rattle.core_cache.specs.Entry.{source, entry, decode}
use Rattle.core_cache.specs.Fits.{same_text, are_at, fits}
use Rattle.core_cache.specs.Fitting.{behind, stored_in, fitting_record, front}
use Rattle.core_cache.proofs.Behind.{tested}
use Rattle.core_cache.specs.declared.entry.Entry.{Entry}
use Rattle.core_codec.specs.Records.{lib_record}
use Rattle.core_language.specs.declared.record.CompiledLibrary.{CompiledLibrary}
use Rattle.load_files.specs.declared.found.Source.{Source}

abbrev nothing : {A : Type 0} → Option A
nothing = None

none_either : {A : Type 0} (t : Bool) → nothing {A = A} ≡ (if t then None else None)
none_either true = refl
none_either false = refl

-- a value that was read, behind another
abbrev with : {A B : Type 0} → A → Option (B × List ℕ) → Option ((A × B) × List ℕ)
with a r = r >>= λ b. Some ((a, b.0), b.1)

-- four values one after another, of which the second and the third pass a test
module _ {X Y Z W : Type 0} (a : Codec X) (b : Codec Y) (c : Codec Z) (d : Codec W) (p : Y → Bool) (q : Z → Bool) where
  abbrev kept : Option (X × (Y × (Z × W))) → Option W
  kept None = None
  kept (Some v) = if p v.1.0 && q v.1.1.0 then Some v.1.1.1 else None

  whole : (x : X) (y : Y) (z : Z) (w : W) (t : Bool) → kept (if t then Some (x, (y, (z, w))) else None) ≡ (if p y && q z then (if t then Some w else None) else None)
  whole x y z w true = refl
  whole x y z w false = none_either (p y && q z)

  fourth : (x : X) (y : Y) (z : Z) (r : Option (W × List ℕ))
      → kept (with x (with y (with z r)) >>= ended) ≡ (if p y && q z then (r >>= ended) else None)
  fourth x y z None = none_either (p y && q z)
  fourth x y z (Some w) = whole x y z w.0 (length w.1 == 0)

  both_tested : (s t : Bool) (rest : List ℕ) → (if s && t then all_of d rest else None) ≡ (if s then ((if t then Some rest else None) >>= all_of d) else None)
  both_tested true true rest = refl
  both_tested true false rest = refl
  both_tested false t rest = refl

  third : (x : X) (y : Y) (r : Option (Z × List ℕ))
      → kept (with x (with y (r >>= λ z. with z.0 (d.get z.1))) >>= ended) ≡ (if p y then (behind q r >>= all_of d) else None)
  third x y None = none_either (p y)
  third x y (Some z) = fourth x y z.0 (d.get z.1) ∙ both_tested (p y) (q z.0) z.1

  second : (x : X) (r : Option (Y × List ℕ))
      → kept (with x (r >>= λ y. with y.0 (c.get y.1 >>= λ z. with z.0 (d.get z.1))) >>= ended) ≡ ((behind p r >>= λ rest. behind q (c.get rest)) >>= all_of d)
  second x None = refl
  second x (Some y) = third x y.0 (c.get y.1) ∙ passes (p y.0)
    where
      passes : (t : Bool) → (if t then (behind q (c.get y.1) >>= all_of d) else None) ≡ (((if t then Some y.1 else None) >>= λ rest. behind q (c.get rest)) >>= all_of d)
      passes true = refl
      passes false = refl

  read : (bytes : List ℕ) → kept (all_of (a then b then c then d) bytes) ≡ ((a.get bytes >>= λ x. behind p (b.get x.1) >>= λ rest. behind q (c.get rest)) >>= all_of d)
  read bytes = go (a.get bytes)
    where
      go : (r : Option (X × List ℕ))
          → kept ((r >>= λ x. with x.0 (b.get x.1 >>= λ y. with y.0 (c.get y.1 >>= λ z. with z.0 (d.get z.1)))) >>= ended)
          ≡ ((r >>= λ x. behind p (b.get x.1) >>= λ rest. behind q (c.get rest)) >>= all_of d)
      go None = refl
      go (Some x) = second x.0 (b.get x.1)

abbrev Fields : Type 0
Fields = List ℕ × (List (List ℕ) × (List Source × CompiledLibrary))

abbrev entry_of : Fields → Entry
entry_of p = record { path = p.0; roots = p.1.0; sources = p.1.1.0; stored = p.1.1.1 }

abbrev in_fields : List (List ℕ) → List Source → List ℕ → Option Fields → Option CompiledLibrary
in_fields roots sources chosen = kept text (listed text) (listed source) lib_record (λ texts. pointwise same_text texts roots) (are_at sources chosen)

of_fields : (roots : List (List ℕ)) (sources : List Source) (chosen : List ℕ) (r : Option (Fields × List ℕ))
    → stored_in roots sources chosen ((r >>= λ x. Some (entry_of x.0, x.1)) >>= ended) ≡ in_fields roots sources chosen (r >>= ended)
unfolding fits
of_fields roots sources chosen None = refl
of_fields roots sources chosen (Some x) = go (length x.1 == 0)
  where
    go : (t : Bool) → stored_in roots sources chosen (if t then Some (entry_of x.0) else None) ≡ in_fields roots sources chosen (if t then Some x.0 else None)
    go true = refl
    go false = refl

pub reads_so : (roots : List (List ℕ)) (sources : List Source) (chosen bytes : List ℕ)
    → fitting_record roots sources chosen bytes ≡ (front roots sources chosen bytes >>= all_of lib_record)
unfolding entry
reads_so roots sources chosen bytes =
    of_fields roots sources chosen ((text then listed text then listed source then lib_record).get bytes)
    ∙ read text (listed text) (listed source) lib_record (λ texts. pointwise same_text texts roots) (are_at sources chosen) bytes
