-- What is no leaf stands for nothing; and the ellipses at the front of forms.
use Rattle.std.proofs.Common.{◌≡◌, ℕ, zero, suc, ◌+◌, ◌<◌, ◌≤◌, Bool, true, false, List, [], ◌∷◌, drop, length, take, None, refl, ap, sym, ◌∙◌, arith}
use Rattle.std.specs.Prelude.{if◌then◌else◌}
use Rattle.stx_tree.specs.Tree.{Tree, atom, leaf, pair, vector, chain, nil}
use Rattle.stx_tree.specs.Measures.{height, size}
use Rattle.stx_tree.proofs.MeasureLaws.{size-some}
use Rattle.stx_frames.specs.Scope.{Scope}
use Rattle.stx_scope.specs.Stands.{stands}
use Rattle.eval_template.specs.Compile.{is_special, dot_count, first_label}

pub high_stands : (fs : Scope) (t : Tree) → 1 < height t → stands fs t ≡ None
high_stands fs (atom s a) h = absurd (omega arith)
high_stands fs (leaf s x c) h = absurd (omega arith)
high_stands fs (pair s a d) h = refl
high_stands fs (vector s d) h = refl

-- no more forms are ellipses than there are
pub dots_within : (fs : Scope) (escaped : Bool) (ts : List Tree) → dot_count fs escaped ts ≤ length ts
dots_within fs escaped [] = omega arith
dots_within fs escaped (t ∷ ts) = go (dots_within fs escaped ts) (is_special escaped (stands fs t))
  where
    go : dot_count fs escaped ts ≤ length ts → (b : Bool) → (if b then suc (dot_count fs escaped ts) else 0) ≤ length (t ∷ ts)
    go h true = omega (arith, h)
    go h false = omega arith

-- forms behind others are smaller than both together
pub behind_within : (n : ℕ) (ts : List Tree) → size (chain (drop n ts) nil) ≤ size (chain ts nil)
behind_within zero ts = omega arith
behind_within (suc n) [] = omega arith
behind_within (suc n) (t ∷ ts) = omega (arith, behind_within n ts)
