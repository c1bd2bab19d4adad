-- When what was kept may be taken.
use Rattle.std.specs.Prelude.{◌≡◌, ◌≤◌, ℕ, Bool, true, false, ◌&&◌, nat_eq, List, [], ◌∷◌, length, is_some, if◌then◌else◌}
use Rattle.stx_tree.specs.declared.stamp.Stamp.{Stamp}
use Rattle.stx_frames.specs.Kept.{KeptAnswer, Has}
use Rattle.stx_frames.specs.Scope.{Scope, rows_at, label_at, label_by}

-- the sizes of the frames of the stamps before the first that gives a label
abbrev pub sizes_before : Scope → List ℕ → List Stamp → List ℕ
sizes_before fs s [] = []
sizes_before fs s (t ∷ ts) = if is_some (label_at fs t.frame s t.marks) then [] else length (rows_at t.frame fs) ∷ sizes_before fs s ts

-- whether the frames of the first stamps have these sizes
abbrev pub same_sizes : Scope → List Stamp → List ℕ → Bool
same_sizes fs ts [] = true
same_sizes fs [] (n ∷ ns) = false
same_sizes fs (t ∷ ts) (n ∷ ns) = nat_eq (length (rows_at t.frame fs)) n && same_sizes fs ts ns

-- no frame of the first stamps is smaller
abbrev pub AreBelow : Scope → List Stamp → List ℕ → Type 0
AreBelow fs ts [] = Unit {0}
AreBelow fs [] (n ∷ ns) = ⊥
AreBelow fs (t ∷ ts) (n ∷ ns) = (n ≤ length (rows_at t.frame fs)) × AreBelow fs ts ns

-- what the stamps find, and what that depends on
pub record Answers (fs : Scope) (k : KeptAnswer) : Type 0 where
  pub label : k.label ≡ label_by fs k.symbol k.stamps
  pub sizes : k.sizes ≡ sizes_before fs k.symbol k.stamps

-- no frame is smaller than it was, and where none has grown the answer still holds
pub record IsRight (fs : Scope) (k : KeptAnswer) : Type 0 where
  pub below : AreBelow fs k.stamps k.sizes
  pub right : same_sizes fs k.stamps k.sizes ≡ true → Answers fs k

pub record AllRight (fs : Scope) (ks : List KeptAnswer) : Type 0 where
  pub each : (k : KeptAnswer) → Has k ks → IsRight fs k
