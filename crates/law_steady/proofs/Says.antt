-- Results whose fault, where there is one, isn't that of cells that don't fit.
use Rattle.std.proofs.Common.{Bool, true, false, Result, Ok, Err, if◌then◌else◌}
use Rattle.base_data.specs.Act.{after}
use Rattle.base_data.specs.Gives.{◌>>=◌}
use Rattle.base_data.specs.declared.fault.Fault.{Fault}
use Rattle.law_stuck.specs.Kinds.{NotStuck}

abbrev pub Says : {A : Type 0} → Result A Fault → Type 0
Says (Ok x) = Unit {0}
Says (Err f) = NotStuck f.kind

pub says-if : {A : Type 0} (b : Bool) (x y : Result A Fault) → Says x → Says y → Says (if b then x else y)
says-if true x y h k = h
says-if false x y h k = k

pub says-then : {A B : Type 0} (r : Result A Fault) (go : A → Result B Fault) → Says r → ((x : A) → Says (go x)) → Says (r >>= go)
says-then (Ok x) go h k = k x
says-then (Err f) go h k = h

pub says-after : {S A B : Type 0} (r : Result (A × S) Fault) (go : A → S → Result (B × S) Fault) → Says r → ((x : A) (s : S) → Says (go x s)) → Says (after r go)
says-after (Ok x) go h k = k x.0 x.1
says-after (Err f) go h k = h
