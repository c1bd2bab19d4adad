-- The parts of a sealed body.
use Rattle.std.proofs.Common.{◌≡◌, ℕ, ◌+◌, ◌≤◌, List, ◌++◌, length, take, drop, codes, refl, arith, length-append}
use Rattle.std.proofs.lemmas.List.{take_at, drop_at}
use Rattle.std.specs.Prelude.{Bool, true, not}
use Rattle.std.specs.Str.{bytes_eq}
use Rattle.std.proofs.lemmas.Slice.Eq.{bytes_eq-Decides}
use Rattle.sha2.specs.Sha256.{sha256}
use Rattle.sha2.proofs.Facts256.{length-sha256}
use Rattle.core_cache.specs.Seal.{sealed}

pub record Parts (bytes body : List ℕ) : Type 0 where
  pub header : take 8 bytes ≡ codes "SXENTRY4"
  pub digest : take 32 (drop 8 bytes) ≡ sha256 body
  pub rest : drop 32 (drop 8 bytes) ≡ body
  pub long : 40 ≤ length bytes

pub parts : (bytes body : List ℕ) → bytes ≡ sealed body → Parts bytes body
parts bytes body e =
    let len : length (sha256 body) ≡ 32 = length-sha256 body in
    let back : drop 8 bytes ≡ sha256 body ++ body = rw e refl in
    record {
      header = rw e refl;
      digest = rw back (take_at (sha256 body) body 32 len);
      rest = rw back (drop_at (sha256 body) body 32 len);
      long = rw e (omega (arith, len, length-append (sha256 body) body));
    }

pub differs : (x y : List ℕ) (t : Bool) → t ≡ not (bytes_eq x y) → t ≡ true → x ≡ y → ⊥
differs x y t is wrong same =
    let equal : bytes_eq x y ≡ true = (bytes_eq-Decides x y).1 same in
    cc
