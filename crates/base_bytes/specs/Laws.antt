-- What is read is spelled so, and what is spelled so is read.
use Rattle.std.proofs.Common.{◌≡◌, ℕ, ℤ, pos, negsuc, zero, suc, ◌+◌, ◌-◌, ◌*◌, ◌/◌, ◌%◌, ◌^◌, ◌<◌, ◌≤◌, Bool, true, false, cond, ltb, ◌&&◌, List, [], ◌∷◌, ◌++◌, length, get_or, take, drop, Option, Some, None, refl, sym, ap, subst, ◌∙◌, append_assoc, arith, ◌⊎◌, inl, inr}
use Rattle.std.specs.Prelude.{◌==◌, nat_lt, IfSome}
use Rattle.std.specs.Int.{Width, w16, w32, w64, w128, byte_len, from_be_bytes, to_be_bytes, cast_signed, cast_unsigned}
use Rattle.std.proofs.lemmas.Int.{ints, to_z-of_z, of_z-to_z}
use mir.Val.{SFits}
use Rattle.std.specs.List.{flat_map, list_all}
use Rattle.std.proofs.lemmas.Bool.{cases_lt, ltb-false, le-ltb, ltb-true, lt-ltb, eqb-true}
use Rattle.std.proofs.lemmas.Bool.Decides.{nat_tests}
use Rattle.std.proofs.lemmas.List.{append-nil, nil_from_length, take_at, drop_at, take-append-drop, length-append, length-take, get_or-drop, get_or-take, get_or_past}
use Rattle.std.proofs.lemmas.List.Concat.{flat_map-cons}
use Rattle.std.proofs.lemmas.Nat.{be_bytes_2, from_be_bytes-to_be_bytes_2, be_bytes_4, be_bytes_8, from_be_bytes-to_be_bytes_4, from_be_bytes-to_be_bytes_8}
use Rattle.base_bytes.specs.Codec.{Codec, Cases, ◌>>=◌, never, unit, byte, byte_get, number, u16, u32, u64, passed, checked, mapped, found, seen_as, ◌then◌, bool, number_of, blob, text, is_char, char, halves, joined, is_int, int, optional, optional_get, optional_put, optional_fits, some_get, listed, last, either_put, either_fits, ◌or◌, tagged, tagged_get, ended, all_of}

abbrev pub IsBytes : List ℕ → Type 0
IsBytes bytes = (i : ℕ) → get_or bytes i 0 < 256

pub IsBytes-drop : (n : ℕ) (bytes : List ℕ) → IsBytes bytes → IsBytes (drop n bytes)
IsBytes-drop n bytes h i = rw get_or-drop (h (n + i))

IsBytes-take : (n : ℕ) (bytes : List ℕ) → IsBytes bytes → IsBytes (take n bytes)
IsBytes-take n bytes h i =
    elim (cases_lt i n) [
      | inl lt ↦ rw (get_or-take n bytes i 0 lt) (h i)
      | inr le ↦ rw (get_or_past (take n bytes) i 0 (omega (arith, length-take n bytes))) (omega arith)
    ]

-- what a reader took from the front
pub record Takes (bytes text rest : List ℕ) : Type 0 where
  pub parts : bytes ≡ text ++ rest
  pub rest_fits : IsBytes rest

pub Takes-then : (a x b y c : List ℕ) → Takes a x b → Takes b y c → Takes a (x ++ y) c
Takes-then a x b y c p q = record { parts = p.parts ∙ ap (λ (t : List ℕ). x ++ t) q.parts ∙ sym (append_assoc x y c); rest_fits = q.rest_fits }

pub record Lawful {A : Type 0} (c : Codec A) : Type 0 where
  pub takes : (bytes : List ℕ) (x : A) (rest : List ℕ) → IsBytes bytes → c.get bytes ≡ Some (x, rest) → Takes bytes (c.put x) rest × (c.fits x ≡ true)
  pub again : (x : A) (rest : List ℕ) → c.fits x ≡ true → c.get (c.put x ++ rest) ≡ Some (x, rest)

-- the value of a step that did not fail
pub bind_some : {A B : Type 0} (r : Option A) (f : A → Option B) (y : B) → (r >>= f) ≡ Some y → (x : A) × (r ≡ Some x) × (f x ≡ Some y)
bind_some (Some x) f y e = (x, refl, e)
bind_some None f y e = absurd cc

abbrev done : {A : Type 0} → A → Option A
done x = Some x

pub some_is : {A : Type 0} (x y : A) → done x ≡ done y → x ≡ y
some_is x y e = cc

-- a test that passed, and one that did not
pub when : {A : Type 0} (b : Bool) (r : Option A) (y : A) → cond b r None ≡ Some y → (b ≡ true) × (r ≡ Some y)
when true r y e = (refl, e)
when false r y e = absurd cc

pub unless : {A : Type 0} (b : Bool) (r : Option A) (y : A) → cond b None r ≡ Some y → (b ≡ false) × (r ≡ Some y)
unless true r y e = absurd cc
unless false r y e = (refl, e)

pub chosen : {A : Type 0} (b : Bool) (x y z : A) → cond b x y ≡ z → ((b ≡ true) × (x ≡ z)) ⊎ ((b ≡ false) × (y ≡ z))
chosen true x y z e = inl (refl, e)
chosen false x y z e = inr (refl, e)

pub both : (a b : Bool) → (a && b) ≡ true → (a ≡ true) × (b ≡ true)
both true b e = (refl, e)
both false b e = absurd cc

pub join : (a b : Bool) → a ≡ true → b ≡ true → (a && b) ≡ true
join a b p q = rw (p, q) refl

-- ---- parts

pub never-lawful : {A : Type 0} → Lawful (never {A = A})
never-lawful = record { takes = λ bytes x rest fits e. absurd cc; again = λ x rest e. absurd cc }

pub unit-lawful : Lawful unit
unit-lawful = record {
  takes = λ bytes x rest fits e. let same : bytes ≡ rest = ap (λ (p : Unit {0} × List ℕ). p.1) (some_is (tt, bytes) (x, rest) e) in (record { parts = same; rest_fits = subst IsBytes same fits }, refl);
  again = λ x rest e. refl;
}

byte_takes : (bytes : List ℕ) (x : ℕ) (rest : List ℕ) → IsBytes bytes → byte_get bytes ≡ Some (x, rest) → Takes bytes (x ∷ []) rest × (true ≡ true)
byte_takes [] x rest fits e = absurd cc
byte_takes (b ∷ bytes) x rest fits e =
    let one : b ≡ x = ap (λ (p : ℕ × List ℕ). p.0) (some_is (b, bytes) (x, rest) e) in
    let same : bytes ≡ rest = ap (λ (p : ℕ × List ℕ). p.1) (some_is (b, bytes) (x, rest) e) in
    (record { parts = ap (λ (n : ℕ). n ∷ bytes) one ∙ ap (λ (ns : List ℕ). x ∷ ns) same; rest_fits = subst IsBytes same (λ i. fits (suc i)) }, refl)

pub byte-lawful : Lawful byte
byte-lawful = record { takes = byte_takes; again = λ x rest e. refl }

pub record IsWide (w : Width) (limit : ℕ) : Type 0 where
  pub len : (n : ℕ) → length (to_be_bytes w n) ≡ byte_len w
  pub back : (bytes : List ℕ) → length bytes ≡ byte_len w → IsBytes bytes → to_be_bytes w (from_be_bytes w bytes) ≡ bytes
  pub again : (n : ℕ) → n < limit → from_be_bytes w (to_be_bytes w n) ≡ n
  pub below : (bytes : List ℕ) → IsBytes bytes → from_be_bytes w bytes < limit

wide16 : IsWide w16 (2 ^ 16)
wide16 = record {
  len = λ n. refl;
  back = λ bytes len fits. be_bytes_2 bytes _ len fits refl;
  again = λ n lt. from_be_bytes-to_be_bytes_2 n lt;
  below = λ bytes fits. omega (arith, fits 0, fits 1);
}

wide32 : IsWide w32 (2 ^ 32)
wide32 = record {
  len = λ n. refl;
  back = λ bytes len fits. be_bytes_4 bytes _ len fits refl;
  again = λ n lt. from_be_bytes-to_be_bytes_4 n lt;
  below = λ bytes fits. omega (arith, fits 0, fits 1, fits 2, fits 3);
}

wide64 : IsWide w64 (2 ^ 64)
wide64 = record {
  len = λ n. refl;
  back = λ bytes len fits. be_bytes_8 bytes _ len fits refl;
  again = λ n lt. from_be_bytes-to_be_bytes_8 n lt;
  below = λ bytes fits. omega (arith, fits 0, fits 1, fits 2, fits 3, fits 4, fits 5, fits 6, fits 7);
}

number_takes : (w : Width) (limit : ℕ) (wide : IsWide w limit) (bytes : List ℕ) (n : ℕ) (rest : List ℕ) → IsBytes bytes
    → (number w limit).get bytes ≡ Some (n, rest) → Takes bytes (to_be_bytes w n) rest × (nat_lt n limit ≡ true)
number_takes w limit wide bytes n rest fits e =
    let g = unless (ltb (length bytes) (byte_len w)) (Some (from_be_bytes w (take (byte_len w) bytes), drop (byte_len w) bytes)) (n, rest) e in
    let long : byte_len w ≤ length bytes = ltb-false _ _ g.0 in
    let pair = some_is (from_be_bytes w (take (byte_len w) bytes), drop (byte_len w) bytes) (n, rest) g.1 in
    let n-is : from_be_bytes w (take (byte_len w) bytes) ≡ n = ap (λ (p : ℕ × List ℕ). p.0) pair in
    let rest-is : drop (byte_len w) bytes ≡ rest = ap (λ (p : ℕ × List ℕ). p.1) pair in
    let front : to_be_bytes w n ≡ take (byte_len w) bytes = rw (← n-is) (wide.back (take (byte_len w) bytes) (omega (arith, length-take (byte_len w) bytes)) (IsBytes-take (byte_len w) bytes fits)) in
    (record { parts = rw (front, ← rest-is) (sym (take-append-drop (byte_len w) bytes)); rest_fits = rw (← rest-is) (IsBytes-drop (byte_len w) bytes fits) }, lt-ltb _ _ (rw (← n-is) (wide.below (take (byte_len w) bytes) (IsBytes-take (byte_len w) bytes fits))))

number_again : (w : Width) (limit : ℕ) (wide : IsWide w limit) (n : ℕ) (rest : List ℕ) → nat_lt n limit ≡ true
    → (number w limit).get (to_be_bytes w n ++ rest) ≡ Some (n, rest)
number_again w limit wide n rest lt =
    let len = wide.len n in
    let long : ltb (length (to_be_bytes w n ++ rest)) (byte_len w) ≡ false = le-ltb _ _ (omega (arith, length-append (to_be_bytes w n) rest)) in
    rw (long, take_at (to_be_bytes w n) rest (byte_len w) len, drop_at (to_be_bytes w n) rest (byte_len w) len, wide.again n (ltb-true _ _ lt)) refl

pub number-lawful : (w : Width) (limit : ℕ) → IsWide w limit → Lawful (number w limit)
number-lawful w limit wide = record { takes = number_takes w limit wide; again = number_again w limit wide }

pub u16-lawful : Lawful u16
unfolding u16
u16-lawful = number-lawful w16 (2 ^ 16) wide16

pub u32-lawful : Lawful u32
unfolding u32
u32-lawful = number-lawful w32 (2 ^ 32) wide32

pub u64-lawful : Lawful u64
unfolding u64
u64-lawful = number-lawful w64 (2 ^ 64) wide64

-- ---- forms

pub checked-lawful : {A : Type 0} (p : A → Bool) {c : Codec A} → Lawful c → Lawful (checked p c)
checked-lawful {A} p {c} l = record {
  takes = λ bytes x rest fits e.
      let a = bind_some (c.get bytes) (passed p) (x, rest) e in
      let w = when (p a.0.0) (Some a.0) (x, rest) a.2 in
      let same = some_is a.0 (x, rest) w.1 in
      let t = l.takes bytes a.0.0 a.0.1 fits a.1 in
      subst (λ (y : A × List ℕ). Takes bytes (c.put y.0) y.1 × ((c.fits y.0 && p y.0) ≡ true)) same (t.0, join _ _ t.1 w.0);
  again = λ x rest e.
      let f = both _ _ e in
      rw (l.again x rest f.0) (rw f.1 refl);
}

pub mapped-lawful : {A B : Type 0} (to : B → A) (from : A → B) {c : Codec A} → ((x : A) → c.fits x ≡ true → to (from x) ≡ x)
    → ((y : B) → from (to y) ≡ y) → Lawful c → Lawful (mapped to from c)
mapped-lawful {A} {B} to from {c} there back l = record {
  takes = λ bytes y rest fits e.
      let a = bind_some (c.get bytes) (λ x. Some (from x.0, x.1)) (y, rest) e in
      let same = some_is (from a.0.0, a.0.1) (y, rest) a.2 in
      let t = l.takes bytes a.0.0 a.0.1 fits a.1 in
      subst (λ (z : B × List ℕ). Takes bytes (c.put (to z.0)) z.1 × (c.fits (to z.0) ≡ true)) same (rw (there a.0.0 t.1) t);
  again = λ y rest e. rw (l.again (to y) rest e) (rw (back y) refl);
}

pub found-lawful : {A B : Type 0} (to : B → A) (find : A → Option B) {c : Codec A} → ((x : A) (y : B) → find x ≡ Some y → to y ≡ x)
    → ((y : B) → find (to y) ≡ Some y) → Lawful c → Lawful (found to find c)
found-lawful {A} {B} to find {c} there back l = record {
  takes = λ bytes y rest fits e.
      let a = bind_some (c.get bytes) (λ x. find x.0 >>= λ z. Some (z, x.1)) (y, rest) e in
      let b = bind_some (find a.0.0) (λ z. Some (z, a.0.1)) (y, rest) a.2 in
      let made : B × List ℕ = (b.0, a.0.1) in
      let same = some_is made (y, rest) b.2 in
      let t = l.takes bytes a.0.0 a.0.1 fits a.1 in
      subst (λ (z : B × List ℕ). Takes bytes (c.put (to z.0)) z.1 × (c.fits (to z.0) ≡ true)) same (rw (there a.0.0 b.0 b.1) t);
  again = λ y rest e. rw (l.again (to y) rest e) (rw (back y) refl);
}

pub seen_as-lawful : {A B : Type 0} (to : B → A) (from : A → B) (well : B → Bool) {c : Codec A}
    → ((x : A) → c.fits x ≡ true → (to (from x) ≡ x) × (well (from x) ≡ true)) → ((y : B) → well y ≡ true → from (to y) ≡ y) → Lawful c
    → Lawful (seen_as to from well c)
seen_as-lawful {A} {B} to from well {c} there back l = record {
  takes = λ bytes y rest fits e.
      let a = bind_some (c.get bytes) (λ x. Some (from x.0, x.1)) (y, rest) e in
      let same = some_is (from a.0.0, a.0.1) (y, rest) a.2 in
      let t = l.takes bytes a.0.0 a.0.1 fits a.1 in
      let w = there a.0.0 t.1 in
      subst (λ (z : B × List ℕ). Takes bytes (c.put (to z.0)) z.1 × ((c.fits (to z.0) && well z.0) ≡ true)) same (rw w.0 (t.0, join _ _ t.1 w.1));
  again = λ y rest e.
      let f = both _ _ e in
      rw (l.again (to y) rest f.0) (rw (back y f.1) refl);
}

pub then-lawful : {A B : Type 0} {c : Codec A} {d : Codec B} → Lawful c → Lawful d → Lawful (c then d)
then-lawful {A} {B} {c} {d} l m = record {
  takes = λ bytes x rest fits e.
      let a = bind_some (c.get bytes) (λ x. d.get x.1 >>= λ y. Some ((x.0, y.0), y.1)) (x, rest) e in
      let b = bind_some (d.get a.0.1) (λ y. Some ((a.0.0, y.0), y.1)) (x, rest) a.2 in
      let made : (A × B) × List ℕ = ((a.0.0, b.0.0), b.0.1) in
      let same = some_is made (x, rest) b.2 in
      let t = l.takes bytes a.0.0 a.0.1 fits a.1 in
      let u = m.takes a.0.1 b.0.0 b.0.1 t.0.rest_fits b.1 in
      subst (λ (z : (A × B) × List ℕ). Takes bytes (c.put z.0.0 ++ d.put z.0.1) z.1 × ((c.fits z.0.0 && d.fits z.0.1) ≡ true)) same (Takes-then bytes (c.put a.0.0) a.0.1 (d.put b.0.0) b.0.1 t.0 u.0, join _ _ t.1 u.1);
  again = λ x rest e.
      let f = both _ _ e in
      rw (append_assoc (c.put x.0) (d.put x.1) rest, l.again x.0 (d.put x.1 ++ rest) f.0) (rw (m.again x.1 rest f.1) refl);
}

small_number : (n : ℕ) → nat_lt n 2 ≡ true → number_of (n == 1) ≡ n
small_number zero e = refl
small_number (suc zero) e = refl
small_number (suc (suc n)) e = let below : suc (suc n) < 2 = ltb-true _ _ e in absurd (omega arith)

small_back : (b : Bool) → (number_of b == 1) ≡ b
small_back true = refl
small_back false = refl

pub bool-lawful : Lawful bool
unfolding bool
bool-lawful = mapped-lawful number_of (λ n. n == 1) (λ n e. small_number n (both true _ e).1) small_back (checked-lawful (λ n. nat_lt n 2) byte-lawful)

blob_takes : (bytes t rest : List ℕ) → IsBytes bytes → blob.get bytes ≡ Some (t, rest) → Takes bytes (blob.put t) rest × (blob.fits t ≡ true)
unfolding blob
blob_takes bytes t rest fits e =
    let b = bind_some (u64.get bytes) (λ n. cond (ltb (length n.1) n.0) None (Some (take n.0 n.1, drop n.0 n.1))) (t, rest) e in
    let n = b.0 in
    let first = u64-lawful.takes bytes n.0 n.1 fits b.1 in
    let g = unless (ltb (length n.1) n.0) (Some (take n.0 n.1, drop n.0 n.1)) (t, rest) b.2 in
    let long : n.0 ≤ length n.1 = ltb-false _ _ g.0 in
    let len : length (take n.0 n.1) ≡ n.0 = omega (arith, length-take n.0 n.1) in
    let second : Takes n.1 (take n.0 n.1) (drop n.0 n.1) = record { parts = sym (take-append-drop n.0 n.1); rest_fits = IsBytes-drop n.0 n.1 first.0.rest_fits } in
    let whole = Takes-then bytes (u64.put n.0) n.1 (take n.0 n.1) (drop n.0 n.1) first.0 second in
    let same = some_is (take n.0 n.1, drop n.0 n.1) (t, rest) g.1 in
    subst (λ (p : List ℕ × List ℕ). Takes bytes (u64.put (length p.0) ++ p.0) p.1 × (u64.fits (length p.0) ≡ true)) same (rw len (whole, first.1))

blob_again : (t rest : List ℕ) → blob.fits t ≡ true → blob.get (blob.put t ++ rest) ≡ Some (t, rest)
unfolding blob
blob_again t rest e =
    let long : ltb (length (t ++ rest)) (length t) ≡ false = le-ltb _ _ (omega (arith, length-append t rest)) in
    rw (append_assoc (u64.put (length t)) t rest, u64-lawful.again (length t) (t ++ rest) e) (rw (long, take_at t rest (length t) refl, drop_at t rest (length t) refl) refl)

pub blob-lawful : Lawful blob
blob-lawful = record { takes = blob_takes; again = blob_again }

pub text-lawful : Lawful text
unfolding text
text-lawful = checked-lawful _ blob-lawful

pub char-lawful : Lawful char
unfolding char
char-lawful = checked-lawful is_char u32-lawful

module _ {A : Type 0} {c : Codec A} (l : Lawful c) where
  optional_takes : (bytes : List ℕ) (o : Option A) (rest : List ℕ) → IsBytes bytes → optional_get c.get bytes ≡ Some (o, rest)
      → Takes bytes (optional_put c.put o) rest × (optional_fits c.fits o ≡ true)
  optional_takes [] o rest fits e = absurd cc
  optional_takes (t ∷ bytes) o rest fits e =
      let more : IsBytes bytes = λ i. fits (suc i) in
      elim (chosen (t == 0) (Some (None, bytes)) (cond (t == 1) (c.get bytes >>= λ x. Some (Some x.0, x.1)) None) (Some (o, rest)) e) [
        | inl h ↦
            let none : Option A × List ℕ = (None, bytes) in
            let zeros : t ≡ 0 = eqb-true _ _ h.0 in
            subst (λ (y : Option A × List ℕ). Takes (t ∷ bytes) (optional_put c.put y.0) y.1 × (optional_fits c.fits y.0 ≡ true)) (some_is none (o, rest) h.1) (record { parts = ap (λ (n : ℕ). n ∷ bytes) zeros; rest_fits = more }, refl)
        | inr h ↦
            let w = when (t == 1) (c.get bytes >>= λ x. Some (Some x.0, x.1)) (o, rest) h.1 in
            let a = bind_some (c.get bytes) (λ x. Some (Some x.0, x.1)) (o, rest) w.1 in
            let made : Option A × List ℕ = (Some a.0.0, a.0.1) in
            let ones : t ≡ 1 = eqb-true _ _ w.0 in
            let u = l.takes bytes a.0.0 a.0.1 more a.1 in
            subst (λ (y : Option A × List ℕ). Takes (t ∷ bytes) (optional_put c.put y.0) y.1 × (optional_fits c.fits y.0 ≡ true)) (some_is made (o, rest) a.2) (record { parts = ap (λ (n : ℕ). n ∷ bytes) ones ∙ ap (λ (ns : List ℕ). 1 ∷ ns) u.0.parts; rest_fits = u.0.rest_fits }, u.1)
      ]

  optional_again : (o : Option A) (rest : List ℕ) → optional_fits c.fits o ≡ true → optional_get c.get (optional_put c.put o ++ rest) ≡ Some (o, rest)
  optional_again None rest e = refl
  optional_again (Some x) rest e = rw (l.again x rest e) refl

  pub optional-lawful : Lawful (optional c)
  optional-lawful = record { takes = optional_takes; again = optional_again }

  some_take : (n : ℕ) (bytes : List ℕ) (xs : List A) (rest : List ℕ) → IsBytes bytes → some_get c.get n bytes ≡ Some (xs, rest)
      → Takes bytes (flat_map c.put xs) rest × (list_all c.fits xs ≡ true) × (length xs ≡ n)
  unfolding some_get
  some_take zero bytes xs rest fits e =
      let made : List A × List ℕ = ([], bytes) in
      subst (λ (y : List A × List ℕ). Takes bytes (flat_map c.put y.0) y.1 × (list_all c.fits y.0 ≡ true) × (length y.0 ≡ 0)) (some_is made (xs, rest) e) (record { parts = refl; rest_fits = fits }, refl, refl)
  some_take (suc n) bytes xs rest fits e =
      let a = bind_some (c.get bytes) (λ x. some_get c.get n x.1 >>= λ ys. Some (x.0 ∷ ys.0, ys.1)) (xs, rest) e in
      let b = bind_some (some_get c.get n a.0.1) (λ ys. Some (a.0.0 ∷ ys.0, ys.1)) (xs, rest) a.2 in
      let made : List A × List ℕ = (a.0.0 ∷ b.0.0, b.0.1) in
      let t = l.takes bytes a.0.0 a.0.1 fits a.1 in
      let u = some_take n a.0.1 b.0.0 b.0.1 t.0.rest_fits b.1 in
      let whole = Takes-then bytes (c.put a.0.0) a.0.1 (flat_map c.put b.0.0) b.0.1 t.0 u.0 in
      subst (λ (y : List A × List ℕ). Takes bytes (flat_map c.put y.0) y.1 × (list_all c.fits y.0 ≡ true) × (length y.0 ≡ suc n)) (some_is made (xs, rest) b.2) (rw flat_map-cons whole, join _ _ t.1 u.1, ap suc u.2)

  some_again : (xs : List A) (rest : List ℕ) → list_all c.fits xs ≡ true → some_get c.get (length xs) (flat_map c.put xs ++ rest) ≡ Some (xs, rest)
  unfolding some_get
  some_again [] rest e = refl
  some_again (x ∷ xs) rest e =
      let f = both _ _ e in
      let regrouped : flat_map c.put (x ∷ xs) ++ rest ≡ c.put x ++ (flat_map c.put xs ++ rest) = ap (λ (y : List ℕ). y ++ rest) (flat_map-cons c.put x xs) ∙ append_assoc (c.put x) (flat_map c.put xs) rest in
      ap (some_get c.get (suc (length xs))) regrouped ∙ rw (l.again x (flat_map c.put xs ++ rest) f.0) (rw (some_again xs rest f.1) refl)

  pub listed-lawful : Lawful (listed c)
  listed-lawful = record {
    takes = λ bytes xs rest fits e.
        let a = bind_some (u64.get bytes) (λ n. some_get c.get n.0 n.1) (xs, rest) e in
        let t = u64-lawful.takes bytes a.0.0 a.0.1 fits a.1 in
        let u = some_take a.0.0 a.0.1 xs rest t.0.rest_fits a.2 in
        rw u.2 (Takes-then bytes (u64.put a.0.0) a.0.1 (flat_map c.put xs) rest t.0 u.0, join _ _ t.1 u.1);
    again = λ xs rest e.
        let f = both _ _ e in
        rw (append_assoc (u64.put (length xs)) (flat_map c.put xs) rest, u64-lawful.again (length xs) (flat_map c.put xs ++ rest) f.0) (some_again xs rest f.1);
  }

-- ---- choices

-- the tag and what stands behind it
pub record Again {A : Type 0} (d : Cases A) (k : ℕ) (x : A) (rest : List ℕ) : Type 0 where
  pub tag : ℕ
  pub bytes : List ℕ
  pub parts : d.put k x ++ rest ≡ tag ∷ bytes
  pub above : k ≤ tag
  pub read : d.get k tag bytes ≡ Some (x, rest)

pub record LawfulCases {A : Type 0} (d : Cases A) : Type 0 where
  pub takes : (k t : ℕ) (bytes : List ℕ) (x : A) (rest : List ℕ) → IsBytes bytes → d.get k t bytes ≡ Some (x, rest)
      → Takes (t ∷ bytes) (d.put k x) rest × (d.fits x ≡ true)
  pub again : (k : ℕ) (x : A) (rest : List ℕ) → d.fits x ≡ true → Again d k x rest

same_tag : (k : ℕ) → (k == k) ≡ true
same_tag k = grind (arith, nat_tests)

other_tag : (k t : ℕ) → suc k ≤ t → (t == k) ≡ false
other_tag k t h = grind (arith, nat_tests)

behind : (k t : ℕ) (bytes word rest : List ℕ) → t ≡ k → Takes bytes word rest → Takes (t ∷ bytes) (k ∷ word) rest
behind k t bytes word rest e p = record { parts = ap (λ (n : ℕ). n ∷ bytes) e ∙ ap (λ (ns : List ℕ). k ∷ ns) p.parts; rest_fits = p.rest_fits }

pub last-lawful : {A : Type 0} {c : Codec A} → Lawful c → LawfulCases (last c)
last-lawful {A} {c} l = record {
  takes = λ k t bytes x rest fits e.
      let w = when (t == k) (c.get bytes) (x, rest) e in
      let u = l.takes bytes x rest fits w.1 in
      (behind k t bytes (c.put x) rest (eqb-true _ _ w.0) u.0, u.1);
  again = λ k x rest e. record { tag = k; bytes = c.put x ++ rest; parts = refl; above = omega arith; read = rw (same_tag k) (l.again x rest e) };
}

module _ {A B : Type 0} {c : Codec A} {d : Cases B} (l : Lawful c) (m : LawfulCases d) where
  either_again : (k : ℕ) (x : A ⊎ B) (rest : List ℕ) → either_fits c d x ≡ true → Again (c or d) k x rest
  either_again k (inl x) rest e = record { tag = k; bytes = c.put x ++ rest; parts = refl; above = omega arith; read = rw (same_tag k) (rw (l.again x rest e) refl) }
  either_again k (inr y) rest e =
      let a = m.again (suc k) y rest e in
      record { tag = a.tag; bytes = a.bytes; parts = a.parts; above = omega (arith, a.above); read = rw (other_tag k a.tag a.above) (rw a.read refl) }

  pub or-lawful : LawfulCases (c or d)
  or-lawful = record {
    takes = λ k t bytes x rest fits e.
        elim (chosen (t == k) (c.get bytes >>= λ y. Some (inl y.0, y.1)) (d.get (suc k) t bytes >>= λ y. Some (inr y.0, y.1)) (Some (x, rest)) e) [
          | inl h ↦
              let a = bind_some (c.get bytes) (λ y. Some (inl y.0, y.1)) (x, rest) h.1 in
              let made : (A ⊎ B) × List ℕ = (inl a.0.0, a.0.1) in
              let u = l.takes bytes a.0.0 a.0.1 fits a.1 in
              subst (λ (y : (A ⊎ B) × List ℕ). Takes (t ∷ bytes) (either_put c d k y.0) y.1 × (either_fits c d y.0 ≡ true)) (some_is made (x, rest) a.2) (behind k t bytes (c.put a.0.0) a.0.1 (eqb-true _ _ h.0) u.0, u.1)
          | inr h ↦
              let a = bind_some (d.get (suc k) t bytes) (λ y. Some (inr y.0, y.1)) (x, rest) h.1 in
              let made : (A ⊎ B) × List ℕ = (inr a.0.0, a.0.1) in
              let u = m.takes (suc k) t bytes a.0.0 a.0.1 fits a.1 in
              subst (λ (y : (A ⊎ B) × List ℕ). Takes (t ∷ bytes) (either_put c d k y.0) y.1 × (either_fits c d y.0 ≡ true)) (some_is made (x, rest) a.2) u
        ];
    again = either_again;
  }

tagged_takes : {A : Type 0} {d : Cases A} → LawfulCases d → (bytes : List ℕ) (x : A) (rest : List ℕ) → IsBytes bytes
    → tagged_get d bytes ≡ Some (x, rest) → Takes bytes (d.put 0 x) rest × (d.fits x ≡ true)
tagged_takes m [] x rest fits e = absurd cc
tagged_takes m (t ∷ bytes) x rest fits e = m.takes 0 t bytes x rest (λ i. fits (suc i)) e

pub tagged-lawful : {A : Type 0} {d : Cases A} → LawfulCases d → Lawful (tagged d)
tagged-lawful {A} {d} m = record {
  takes = tagged_takes m;
  again = λ x rest e. let a = m.again 0 x rest e in rw a.parts a.read;
}

-- ---- all of the bytes

pub all_takes : {A : Type 0} {c : Codec A} → Lawful c → (bytes : List ℕ) (x : A) → IsBytes bytes → all_of c bytes ≡ Some x
    → (bytes ≡ c.put x) × (c.fits x ≡ true)
all_takes {A} {c} l bytes x fits e =
    let a = bind_some (c.get bytes) ended x e in
    let w = when (length a.0.1 == 0) (Some a.0.0) x a.2 in
    let t = l.takes bytes a.0.0 a.0.1 fits a.1 in
    let nothing : a.0.1 ≡ [] = nil_from_length a.0.1 (eqb-true _ _ w.0) in
    let whole : bytes ≡ c.put a.0.0 = t.0.parts ∙ ap (λ (r : List ℕ). c.put a.0.0 ++ r) nothing ∙ append-nil (c.put a.0.0) in
    subst (λ (y : A). (bytes ≡ c.put y) × (c.fits y ≡ true)) (some_is a.0.0 x w.1) (whole, t.1)

pub all_again : {A : Type 0} {c : Codec A} → Lawful c → (x : A) → c.fits x ≡ true → all_of c (c.put x) ≡ Some x
all_again {A} {c} l x e =
    let read : c.get (c.put x) ≡ Some (x, []) = ap c.get (sym (append-nil (c.put x))) ∙ l.again x [] e in
    rw read refl

pub is_found : {A : Type 0} {c : Codec A} → Lawful c → (bytes : List ℕ) (o : Option A) → IsBytes bytes → o ≡ all_of c bytes
    → IfSome o (λ x. (bytes ≡ c.put x) × (c.fits x ≡ true))
is_found l bytes None fits e = tt
is_found l bytes (Some x) fits e = all_takes l bytes x fits (sym e)

-- ---- signed numbers

int_fits : (n : ℕ) → n < 2 ^ 128 → is_int (cast_signed w128 n) ≡ true
int_fits n lt = go (ltb n (2 ^ 127)) refl
  where
    go : (b : Bool) → ltb n (2 ^ 127) ≡ b → is_int (cond b (pos n) (negsuc (2 ^ 128 - suc n))) ≡ true
    go true e = e
    go false e = let above : 2 ^ 127 ≤ n = ltb-false _ _ e in lt-ltb _ _ (omega arith)

int_is : (z : ℤ) → is_int z ≡ true → SFits w128 z
int_is (pos n) e = let h : n < 2 ^ 127 = ltb-true _ _ e in omega (arith, ints)
int_is (negsuc n) e = let h : n < 2 ^ 127 = ltb-true _ _ e in omega (arith, ints)

int_there : (p : ℕ × ℕ) → (u64 then u64).fits p ≡ true → (halves (joined p) ≡ p) × (is_int (joined p) ≡ true)
unfolding u64 halves joined
int_there (a, b) e =
    let f = both _ _ e in
    let x : a < 2 ^ 64 = ltb-true _ _ f.0 in
    let y : b < 2 ^ 64 = ltb-true _ _ f.1 in
    let small : a * 2 ^ 64 + b < 2 ^ 128 = omega arith in
    let high : (a * 2 ^ 64 + b) / 2 ^ 64 ≡ a = omega arith in
    let low : (a * 2 ^ 64 + b) % 2 ^ 64 ≡ b = omega arith in
    (rw (of_z-to_z w128 (a * 2 ^ 64 + b) small) (λ i. (high i, low i)), int_fits (a * 2 ^ 64 + b) small)

int_back : (z : ℤ) → is_int z ≡ true → joined (halves z) ≡ z
unfolding halves joined
int_back z e =
    let whole : cast_unsigned w128 z / 2 ^ 64 * 2 ^ 64 + cast_unsigned w128 z % 2 ^ 64 ≡ cast_unsigned w128 z = omega arith in
    ap (cast_signed w128) whole ∙ to_z-of_z w128 z (int_is z e)

halves_fit : (z : ℤ) → is_int z ≡ true → (u64 then u64).fits (halves z) ≡ true
unfolding u64 halves
halves_fit z e =
    let small : cast_unsigned w128 z < 2 ^ 128 = of_z_below z e in
    let n = cast_unsigned w128 z in
    let high : n / 2 ^ 64 < 2 ^ 64 = omega arith in
    let low : n % 2 ^ 64 < 2 ^ 64 = omega arith in
    join _ _ (lt-ltb _ _ high) (lt-ltb _ _ low)
  where
    of_z_below : (y : ℤ) → is_int y ≡ true → cast_unsigned w128 y < 2 ^ 128
    of_z_below (pos n) h = let k : n < 2 ^ 127 = ltb-true _ _ h in omega arith
    of_z_below (negsuc n) h = let k : n < 2 ^ 127 = ltb-true _ _ h in omega arith

pub int-lawful : Lawful int
unfolding int
int-lawful = record {
  takes = λ bytes z rest fits e.
      let a = bind_some ((u64 then u64).get bytes) (λ x. Some (joined x.0, x.1)) (z, rest) e in
      let l = then-lawful u64-lawful u64-lawful in
      let t = l.takes bytes a.0.0 a.0.1 fits a.1 in
      let there = int_there a.0.0 t.1 in
      subst (λ (y : ℤ × List ℕ). Takes bytes ((u64 then u64).put (halves y.0)) y.1 × (is_int y.0 ≡ true)) (some_is (joined a.0.0, a.0.1) (z, rest) a.2) (rw there.0 t.0, there.1);
  again = λ z rest e.
      let l = then-lawful u64-lawful u64-lawful in
      rw (l.again (halves z) rest (halves_fit z e)) (rw (int_back z e) refl);
}
