-- How values are spelled as bytes, and read from them: a codec for each type, made of those of its parts.
use Rattle.std.specs.Prelude.{ℕ, ℤ, pos, negsuc, zero, suc, ◌+◌, ◌*◌, ◌/◌, ◌%◌, ◌^◌, Bool, true, false, ◌==◌, ◌&&◌, nat_lt, List, [], ◌∷◌, ◌++◌, length, take, drop, Option, Some, None, if◌then◌else◌, ◌⊎◌}
use Rattle.std.proofs.Common.{inl, inr}
use Rattle.std.specs.Int.{Width, w16, w32, w64, w128, byte_len, to_be_bytes, from_be_bytes, cast_signed, cast_unsigned}
use Rattle.std.specs.List.{flat_map, list_all}
use Rattle.std.specs.Str.{is_utf8}
use lib.Utf8.{scalar}

-- the spelling of a value; the value that the bytes begin with, and the bytes after it; which values have a spelling
pub record Codec (A : Type 0) : Type 0 where
  pub put : A → List ℕ
  pub get : List ℕ → Option (A × List ℕ)
  pub fits : A → Bool

infixl 10 ◌>>=◌
abbrev pub ◌>>=◌ : {A B : Type 0} → Option A → (A → Option B) → Option B
None >>= f = None
(Some x) >>= f = f x

abbrev pub never : {A : Type 0} → Codec A
never = record { put = λ x. []; get = λ bytes. None; fits = λ x. false }

abbrev pub unit : Codec (Unit {0})
unit = record { put = λ x. []; get = λ bytes. Some (tt, bytes); fits = λ x. true }

abbrev pub byte_get : List ℕ → Option (ℕ × List ℕ)
byte_get [] = None
byte_get (b ∷ bytes) = Some (b, bytes)

abbrev pub byte : Codec ℕ
byte = record { put = λ b. b ∷ []; get = byte_get; fits = λ b. true }

abbrev pub number : Width → ℕ → Codec ℕ
number w limit = record {
  put = to_be_bytes w;
  get = λ bytes. if nat_lt (length bytes) (byte_len w) then None else Some (from_be_bytes w (take (byte_len w) bytes), drop (byte_len w) bytes);
  fits = λ n. nat_lt n limit;
}

unfoldable pub u16 : Codec ℕ
u16 = number w16 (2 ^ 16)

unfoldable pub u32 : Codec ℕ
u32 = number w32 (2 ^ 32)

unfoldable pub u64 : Codec ℕ
u64 = number w64 (2 ^ 64)

-- those values alone that pass the test
abbrev pub passed : {A : Type 0} → (A → Bool) → A × List ℕ → Option (A × List ℕ)
passed p x = if p x.0 then Some x else None

abbrev pub checked : {A : Type 0} → (A → Bool) → Codec A → Codec A
checked p c = record { put = c.put; get = λ bytes. c.get bytes >>= passed p; fits = λ x. c.fits x && p x }

-- a value spelled as another
abbrev pub mapped : {A B : Type 0} → (B → A) → (A → B) → Codec A → Codec B
mapped to from c = record {
  put = λ y. c.put (to y);
  get = λ bytes. c.get bytes >>= λ x. Some (from x.0, x.1);
  fits = λ y. c.fits (to y);
}

-- a value spelled as another, which not every value of that type is
abbrev pub found : {A B : Type 0} → (B → A) → (A → Option B) → Codec A → Codec B
found to find c = record {
  put = λ y. c.put (to y);
  get = λ bytes. c.get bytes >>= λ x. find x.0 >>= λ y. Some (y, x.1);
  fits = λ y. c.fits (to y);
}

-- A value that is seen as another. Some values are no one's sight: those that don't pass the test have no spelling.
abbrev pub seen_as : {A B : Type 0} → (B → A) → (A → B) → (B → Bool) → Codec A → Codec B
seen_as to from well c = record {
  put = λ y. c.put (to y);
  get = λ bytes. c.get bytes >>= λ x. Some (from x.0, x.1);
  fits = λ y. c.fits (to y) && well y;
}

infixr 6 ◌then◌
abbrev pub ◌then◌ : {A B : Type 0} → Codec A → Codec B → Codec (A × B)
c then d = record {
  put = λ x. c.put x.0 ++ d.put x.1;
  get = λ bytes. c.get bytes >>= λ x. d.get x.1 >>= λ y. Some ((x.0, y.0), y.1);
  fits = λ x. c.fits x.0 && d.fits x.1;
}

abbrev pub number_of : Bool → ℕ
number_of b = if b then 1 else 0

unfoldable pub bool : Codec Bool
bool = mapped number_of (λ n. n == 1) (checked (λ n. nat_lt n 2) byte)

-- the length, and that many bytes
unfoldable pub blob : Codec (List ℕ)
blob = record {
  put = λ t. u64.put (length t) ++ t;
  get = λ bytes. u64.get bytes >>= λ n. if nat_lt (length n.1) n.0 then None else Some (take n.0 n.1, drop n.0 n.1);
  fits = λ t. u64.fits (length t);
}

unfoldable pub text : Codec (List ℕ)
text = checked is_utf8 blob

abbrev pub is_char : ℕ → Bool
is_char n = scalar n

unfoldable pub char : Codec ℕ
char = checked is_char u32

-- 0, or 1 and the value
abbrev pub optional_put : {A : Type 0} → (A → List ℕ) → Option A → List ℕ
optional_put put None = 0 ∷ []
optional_put put (Some x) = 1 ∷ put x

abbrev pub optional_get : {A : Type 0} → (List ℕ → Option (A × List ℕ)) → List ℕ → Option (Option A × List ℕ)
optional_get get [] = None
optional_get get (t ∷ bytes) = if t == 0 then Some (None, bytes) else if t == 1 then (get bytes >>= λ x. Some (Some x.0, x.1)) else None

abbrev pub optional_fits : {A : Type 0} → (A → Bool) → Option A → Bool
optional_fits fits None = true
optional_fits fits (Some x) = fits x

abbrev pub optional : {A : Type 0} → Codec A → Codec (Option A)
optional c = record { put = optional_put c.put; get = optional_get c.get; fits = optional_fits c.fits }

-- so many values, one after another
unfoldable pub some_get : {A : Type 0} → (List ℕ → Option (A × List ℕ)) → ℕ → List ℕ → Option (List A × List ℕ)
some_get get zero bytes = Some ([], bytes)
some_get get (suc n) bytes = get bytes >>= λ x. some_get get n x.1 >>= λ xs. Some (x.0 ∷ xs.0, xs.1)

abbrev pub listed : {A : Type 0} → Codec A → Codec (List A)
listed c = record {
  put = λ xs. u64.put (length xs) ++ flat_map c.put xs;
  get = λ bytes. u64.get bytes >>= λ n. some_get c.get n.0 n.1;
  fits = λ xs. u64.fits (length xs) && list_all c.fits xs;
}

-- a choice by a tag; its cases are numbered from k
pub record Cases (A : Type 0) : Type 0 where
  pub put : ℕ → A → List ℕ
  pub get : ℕ → ℕ → List ℕ → Option (A × List ℕ)
  pub fits : A → Bool

abbrev pub last : {A : Type 0} → Codec A → Cases A
last c = record { put = λ k x. k ∷ c.put x; get = λ k t bytes. if t == k then c.get bytes else None; fits = c.fits }

abbrev pub either_put : {A B : Type 0} → Codec A → Cases B → ℕ → A ⊎ B → List ℕ
either_put c d k (inl x) = k ∷ c.put x
either_put c d k (inr y) = d.put (suc k) y

abbrev pub either_fits : {A B : Type 0} → Codec A → Cases B → A ⊎ B → Bool
either_fits c d (inl x) = c.fits x
either_fits c d (inr y) = d.fits y

infixr 5 ◌or◌
abbrev pub ◌or◌ : {A B : Type 0} → Codec A → Cases B → Cases (A ⊎ B)
c or d = record {
  put = either_put c d;
  get = λ k t bytes. if t == k then (c.get bytes >>= λ x. Some (inl x.0, x.1)) else (d.get (suc k) t bytes >>= λ y. Some (inr y.0, y.1));
  fits = either_fits c d;
}

abbrev pub tagged_get : {A : Type 0} → Cases A → List ℕ → Option (A × List ℕ)
tagged_get d [] = None
tagged_get d (t ∷ bytes) = d.get 0 t bytes

abbrev pub tagged : {A : Type 0} → Cases A → Codec A
tagged d = record { put = d.put 0; get = tagged_get d; fits = d.fits }

-- the value that all of the bytes spell
abbrev pub ended : {A : Type 0} → A × List ℕ → Option A
ended x = if length x.1 == 0 then Some x.0 else None

abbrev pub all_of : {A : Type 0} → Codec A → List ℕ → Option A
all_of c bytes = c.get bytes >>= ended

-- a signed number of 128 bits as two numbers of 64
unfoldable pub halves : ℤ → ℕ × ℕ
halves z = (cast_unsigned w128 z / 2 ^ 64, cast_unsigned w128 z % 2 ^ 64)

unfoldable pub joined : ℕ × ℕ → ℤ
joined p = cast_signed w128 (p.0 * 2 ^ 64 + p.1)

abbrev pub is_int : ℤ → Bool
is_int (pos n) = nat_lt n (2 ^ 127)
is_int (negsuc n) = nat_lt n (2 ^ 127)

unfoldable pub int : Codec ℤ
int = record (mapped halves joined (u64 then u64)) { fits = is_int }
