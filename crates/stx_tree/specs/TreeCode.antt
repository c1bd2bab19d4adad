-- How the logic tells two trees apart: as the steps that build one on a stack.
use Rattle.std.specs.Prelude.{◌≡◌, ℕ, List, [], ◌∷◌, Option, refl, ◌⊎◌}
use Rattle.std.proofs.Common.{◌∙◌, ap, inl, inr}
use Rattle.std.specs.Coded.{Coded, code_by, coded×, coded⊎, coded_ℕ, coded_list, coded_option}
use Rattle.base_data.specs.declared.atom.Atom.{Atom}
use Rattle.base_data.specs.declared.span.Span.{Span}
use Rattle.base_data.specs.contracts.atom.Atom as atoms
use Rattle.base_data.specs.contracts.span.Span as spans
use Rattle.stx_tree.specs.Context.{LeafContext}
use Rattle.stx_tree.specs.ContextCode.{context_code}
use Rattle.stx_tree.specs.Tree.{Tree, atom, leaf, pair, vector, nil}

abbrev coded_span : Coded (Option Span)
coded_span = coded_option spans.the_row.coded

-- puts an atom or a leaf on the stack, joins the two topmost, or makes a vector of the topmost
pub data TreeStep : Type 0 where
  push_atom : Option Span → Atom → TreeStep
  push_leaf : Option Span → List ℕ → LeafContext → TreeStep
  join : Option Span → TreeStep
  close : Option Span → TreeStep

abbrev Parts : Type 0
Parts = (Option Span × Atom) ⊎ ((Option Span × (List ℕ × LeafContext)) ⊎ (Option Span ⊎ Option Span))

abbrev to_parts : TreeStep → Parts
to_parts (push_atom s a) = inl (s, a)
to_parts (push_leaf s x c) = inr (inl (s, (x, c)))
to_parts (join s) = inr (inr (inl s))
to_parts (close s) = inr (inr (inr s))

abbrev of_parts : Parts → TreeStep
of_parts (inl p) = push_atom p.0 p.1
of_parts (inr (inl p)) = push_leaf p.0 p.1.0 p.1.1
of_parts (inr (inr (inl s))) = join s
of_parts (inr (inr (inr s))) = close s

pub of_parts-to_parts : (x : TreeStep) → of_parts (to_parts x) ≡ x
of_parts-to_parts (push_atom s a) = refl
of_parts-to_parts (push_leaf s x c) = refl
of_parts-to_parts (join s) = refl
of_parts-to_parts (close s) = refl

abbrev coded_step : Coded TreeStep
coded_step =
    code_by Parts
    (coded⊎ (coded× coded_span atoms.the_row.coded) (coded⊎ (coded× coded_span (coded× (coded_list coded_ℕ) context_code)) (coded⊎ coded_span coded_span)))
    to_parts of_parts of_parts-to_parts

-- the steps that put t on the stack, and then the others
abbrev steps : Tree → List TreeStep → List TreeStep
steps (atom s a) r = push_atom s a ∷ r
steps (leaf s x c) r = push_leaf s x c ∷ r
steps (pair s a d) r = steps a (steps d (join s ∷ r))
steps (vector s d) r = steps d (close s ∷ r)

abbrev step : TreeStep → List Tree → List Tree
step (push_atom s a) st = atom s a ∷ st
step (push_leaf s x c) st = leaf s x c ∷ st
step (join s) (d ∷ (a ∷ st)) = pair s a d ∷ st
step (join s) _ = []
step (close s) (d ∷ st) = vector s d ∷ st
step (close s) _ = []

abbrev build : List TreeStep → List Tree → List Tree
build [] st = st
build (x ∷ xs) st = build xs (step x st)

abbrev top : List Tree → Tree
top [] = nil
top (t ∷ st) = t

pub build-steps : (t : Tree) (r : List TreeStep) (st : List Tree) → build (steps t r) st ≡ build r (t ∷ st)
build-steps (atom s a) r st = refl
build-steps (leaf s x c) r st = refl
build-steps (pair s a d) r st = build-steps a (steps d (join s ∷ r)) st ∙ build-steps d (join s ∷ r) (a ∷ st)
build-steps (vector s d) r st = build-steps d (close s ∷ r) st

abbrev pub tree_code : Coded Tree
tree_code = code_by (List TreeStep) (coded_list coded_step) (λ t. steps t []) (λ xs. top (build xs [])) (λ t. ap top (build-steps t [] []))
