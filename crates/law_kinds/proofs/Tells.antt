-- Results whose fault, where there is one, is of some kinds.
use Rattle.std.proofs.Common.{Bool, true, false, List, [], ◌∷◌, Result, Ok, Err, if◌then◌else◌}
use Rattle.base_data.specs.Gives.{◌>>=◌}
use Rattle.base_data.specs.declared.fault.Fault.{Fault}
use Rattle.base_data.specs.declared.fault.FaultKind.{FaultKind}
use Rattle.load_import.specs.Turns.{turns}
use Rattle.law_kinds.specs.Kinds.{Tells}

pub tells-if : {A : Type 0} (P : FaultKind → Type 0) (b : Bool) (x y : Result A Fault) → Tells P x → Tells P y → Tells P (if b then x else y)
tells-if P true x y h k = h
tells-if P false x y h k = k

pub tells-then : {A B : Type 0} (P : FaultKind → Type 0) (r : Result A Fault) (go : A → Result B Fault) → Tells P r → ((x : A) → Tells P (go x)) → Tells P (r >>= go)
tells-then P (Ok x) go h k = k x
tells-then P (Err f) go h k = h

-- more kinds
pub tells-less : {A : Type 0} (P Q : FaultKind → Type 0) → ((k : FaultKind) → P k → Q k) → (r : Result A Fault) → Tells P r → Tells Q r
tells-less P Q more (Ok x) h = tt
tells-less P Q more (Err f) h = more f.kind h

-- one step after another
pub tells-turns : {S X : Type 0} (P : FaultKind → Type 0) (step : S → X → Result S Fault) → ((s : S) (x : X) → Tells P (step s x)) → (s : S) (xs : List X) → Tells P (turns step s xs)
tells-turns P step one s [] = tt
tells-turns P step one s (x ∷ xs) = tells-then P (step s x) (λ t. turns step t xs) (one s x) (λ t. tells-turns P step one t xs)
