-- Heads that were kept, and a binder after them.
use Rattle.std.specs.Prelude.{◌≡◌, ◌≢◌, List, [], ◌∷◌, ◌++◌, Some}
use Rattle.base_data.specs.declared.name.FrameNo.{FrameNo}
use Rattle.base_data.specs.declared.name.Label.{Label}
use Rattle.stx_frames.specs.Rows.{Row}
use Rattle.stx_frames.specs.Scope.{with_row}
use Rattle.stx_scope.specs.Stands.{symbol_of}
use Rattle.core_language.specs.declared.binding.Binding.{Binding}
use Rattle.expand_standing.specs.State.{State}
use Rattle.expand_heads.specs.declared.taken.KeptHead.{KeptHead}

-- a binder in a frame, and what its label is bound to
abbrev pub with_binder : State → FrameNo → Row → Binding → State
with_binder s f r b = record s { frames = with_row s.frames f r; bindings = s.bindings ++ (r.label, b) ∷ [] }

-- each head is kept with its own symbol
abbrev pub AreNamed : List KeptHead → Type 0
AreNamed [] = Unit {0}
AreNamed (k ∷ ks) = (k.symbol ≡ symbol_of k.leaf) × AreNamed ks

-- no head is kept with this label
abbrev pub AreOthers : Label → List KeptHead → Type 0
AreOthers l [] = Unit {0}
AreOthers l (k ∷ ks) = (k.label ≢ Some l) × AreOthers l ks
