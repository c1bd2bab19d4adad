-- The parts of a body's core code.
use Rattle.std.proofs.Common.{◌≡◌, ◌<◌, List, [], ◌∷◌, ◌++◌, length, refl, ap, ◌∙◌, arith, true}
use Rattle.core_language.specs.Core.{PlainCore, sequence, letrec, cores}
use Rattle.core_language.specs.CoreView.{inits}
use Rattle.core_language.specs.declared.code.Init.{Init}
use Rattle.expand_forms.specs.Body.{sequence_of, with_inits}

-- a sequence of one is that one
pub only_one : (cs ds : List PlainCore) (c : PlainCore) → length cs ≡ 1 → cs ≡ ds ++ c ∷ [] → sequence_of cs ≡ c
only_one cs [] c h e = ap sequence_of e
only_one cs (d ∷ []) c h e = let n = ap length e in absurd (omega (arith, n, h))
only_one cs (d ∷ (d' ∷ ds)) c h e = let n = ap length e in absurd (omega (arith, n, h))

pub not_one : (cs : List PlainCore) → (length cs ≡ 1 → ⊥) → sequence_of cs ≡ sequence (cores cs)
not_one [] h = refl
not_one (c ∷ []) h = absurd (h refl)
not_one (c ∷ (d ∷ cs)) h = refl

pub no_inits : (is : List Init) (c : PlainCore) → length is ≡ 0 → with_inits is c ≡ c
no_inits [] c h = refl
no_inits (i ∷ is) c h = absurd (omega (arith, h))

pub some_inits : (is : List Init) (c : PlainCore) → (length is ≡ 0 → ⊥) → with_inits is c ≡ letrec true (inits is) c
some_inits [] c h = absurd (h refl)
some_inits (i ∷ is) c h = refl
