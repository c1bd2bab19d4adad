-- What holds of contents where they are told.
use Rattle.std.proofs.Common.{ℕ, ◌≤◌, Option, Some, None, arith}
use Rattle.std.specs.Prelude.{IfSome}
use Rattle.base_outside.specs.Causes.{Rose}
use Rattle.base_outside.specs.Contents.{Paths}
use Rattle.base_outside.specs.Store.{WhereTold}
use Rattle.run_reuse.specs.Turns.{Quiet}

-- ---- one call, and then another

pub told_same : (a : Option Paths) (R : Paths → Paths → Type 0) → ((x : Paths) → R x x) → WhereTold a a R
told_same None R f = tt
told_same (Some x) R f = f x

pub told_by : (a b : Option Paths) (R S : Paths → Paths → Type 0) → ((x y : Paths) → R x y → S x y) → WhereTold a b R → WhereTold a b S
told_by None b R S f h = tt
told_by (Some x) None R S f h = h
told_by (Some x) (Some y) R S f h = f x y h

pub told_then : (a b c : Option Paths) (R S T : Paths → Paths → Type 0) → ((x y z : Paths) → R x y → S y z → T x z) → WhereTold a b R → WhereTold b c S → WhereTold a c T
told_then None b c R S T f h g = tt
told_then (Some x) None c R S T f h g = absurd h
told_then (Some x) (Some y) None R S T f h g = g
told_then (Some x) (Some y) (Some z) R S T f h g = f x y z h g

-- a call that leaves all as it was tells something of it, and then another
pub told_where : (a c : Option Paths) (P : Paths → Type 0) (S T : Paths → Paths → Type 0) → ((x z : Paths) → P x → S x z → T x z) → IfSome a P → WhereTold a c S → WhereTold a c T
told_where None c P S T f p h = tt
told_where (Some x) None P S T f p h = h
told_where (Some x) (Some z) P S T f p h = f x z p h

pub told_here : (a : Option Paths) (P : Paths → Type 0) (T : Paths → Paths → Type 0) → ((x : Paths) → P x → T x x) → IfSome a P → WhereTold a a T
told_here None P T f p = tt
told_here (Some x) P T f p = f x p

pub if_told : (a : Option Paths) (P Q : Paths → Type 0) → ((x : Paths) → P x → Q x) → IfSome a P → IfSome a Q
if_told None P Q f p = tt
if_told (Some x) P Q f p = f x p

pub if_any : (a : Option Paths) (P : Paths → Type 0) → ((x : Paths) → P x) → IfSome a P
if_any None P f = tt
if_any (Some x) P f = f x

-- ---- counts of faults

pub rose_later : (a b c : ℕ) → b ≤ c → Rose a b → Rose a c
rose_later a b c h r = omega (arith, h, r)

pub quiet_first : (a b c : ℕ) → b ≤ c → Quiet a c → Quiet a b
quiet_first a b c h q = λ r. q (rose_later a b c h r)
