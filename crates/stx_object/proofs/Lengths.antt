-- Lists that end in Nil, and how many elements they have.
use Rattle.std.proofs.Common.{◌≡◌, ◌+◌, ◌-◌, ◌≤◌, ℕ, zero, suc, max, List, [], ◌∷◌, length, map, Option, None, Some, true, refl, sym, ap, ◌∙◌, subst, arith}
use Rattle.base_data.specs.declared.atom.Atom.{Atom}
use Rattle.base_data.specs.declared.atom.Atom.TheVariants.{Nil, Bool as Boolean, Int, Spelt, Char, Str, Bytes}
use Rattle.base_data.specs.declared.span.Span.{Span}
use Rattle.stx_tree.specs.Changes.{changed}
use Rattle.stx_tree.specs.Tree.{Tree, atom, leaf, pair, vector, chain, nil, rest_of, spanned, is_list}
use Rattle.stx_tree.specs.Measures.{size, height, joint, max_height, max_size}
use Rattle.stx_tree.specs.declared.change.Change.{Change}
use Rattle.stx_tree.proofs.TreeLaws.{changed-chain}
use Rattle.stx_object.specs.Kept.{IsRest}
use Rattle.stx_object.specs.KeptView.{IsExtent}
use Rattle.stx_object.specs.Lengths.{HasElements, IsCounted, IsOneMore}
use Rattle.stx_object.specs.Pairs.{Extends, Grows, grown_height, grown_size}
use Rattle.stx_object.specs.declared.kept.HeightAndSize.{HeightAndSize}

length_map : (f : Tree → Tree) (xs : List Tree) → length (map f xs) ≡ length xs
length_map f [] = refl
length_map f (x ∷ xs) = ap suc (length_map f xs)

rest_changed : (ws : List Change) (t : Tree) → rest_of (changed ws t) ≡ changed ws (rest_of t)
rest_changed ws (atom s Nil) = refl
rest_changed ws (atom s (Boolean _)) = refl
rest_changed ws (atom s (Int _)) = refl
rest_changed ws (atom s (Spelt _)) = refl
rest_changed ws (atom s (Char _)) = refl
rest_changed ws (atom s (Str _)) = refl
rest_changed ws (atom s (Bytes _)) = refl
rest_changed ws (leaf s x c) = refl
rest_changed ws (pair s a d) = refl
rest_changed ws (vector s d) = refl

list_spanned : (s : Option Span) (t : Tree) (xs : List Tree) → rest_of t ≡ chain xs nil → rest_of (spanned s t) ≡ chain xs nil
list_spanned s (atom r Nil) xs h = h
list_spanned s (atom r (Boolean _)) [] h = absurd (let g : ⊥ = cc in g)
list_spanned s (atom r (Boolean _)) (x ∷ xs) h = absurd (let g : ⊥ = cc in g)
list_spanned s (atom r (Int _)) [] h = absurd (let g : ⊥ = cc in g)
list_spanned s (atom r (Int _)) (x ∷ xs) h = absurd (let g : ⊥ = cc in g)
list_spanned s (atom r (Spelt _)) [] h = absurd (let g : ⊥ = cc in g)
list_spanned s (atom r (Spelt _)) (x ∷ xs) h = absurd (let g : ⊥ = cc in g)
list_spanned s (atom r (Char _)) [] h = absurd (let g : ⊥ = cc in g)
list_spanned s (atom r (Char _)) (x ∷ xs) h = absurd (let g : ⊥ = cc in g)
list_spanned s (atom r (Str _)) [] h = absurd (let g : ⊥ = cc in g)
list_spanned s (atom r (Str _)) (x ∷ xs) h = absurd (let g : ⊥ = cc in g)
list_spanned s (atom r (Bytes _)) [] h = absurd (let g : ⊥ = cc in g)
list_spanned s (atom r (Bytes _)) (x ∷ xs) h = absurd (let g : ⊥ = cc in g)
list_spanned s (leaf r x c) [] h = absurd (let g : ⊥ = cc in g)
list_spanned s (leaf r x c) (y ∷ xs) h = absurd (let g : ⊥ = cc in g)
list_spanned s (pair r a d) xs h = h
list_spanned s (vector r d) [] h = absurd (let g : ⊥ = cc in g)
list_spanned s (vector r d) (x ∷ xs) h = absurd (let g : ⊥ = cc in g)

elements_seen : (ws : List Change) (s : Option Span) (t : Tree) (n : ℕ) → HasElements n t → HasElements n (changed ws (spanned s t))
elements_seen ws s t n h = (
  map (changed ws) h.0,
  length_map (changed ws) h.0 ∙ h.1,
  rest_changed ws (spanned s t) ∙ ap (changed ws) (list_spanned s t h.0 h.2) ∙ changed-chain ws h.0 nil,
)

pub counted_seen : (ws : List Change) (s : Option Span) (t : Tree) (count : ℕ) → IsCounted count t → IsCounted count (changed ws (spanned s t))
counted_seen ws s t count h n e = elements_seen ws s t n (h n e)

pub counted_on : (rest more : ℕ) → 1 ≤ rest → more ≡ rest + 1 → IsOneMore more rest
counted_on zero more some is n e = absurd (omega (arith, some))
counted_on (suc m) more some is n e = (m, refl, omega (arith, is, e))

pub counted_off : (rest more : ℕ) → more ≡ 0 → IsOneMore more rest
counted_off rest more none n e = absurd (let g : zero ≡ suc n = sym none ∙ e in let f : ⊥ = cc in f)

pub elements_counted : (count n : ℕ) (t : Tree) → IsCounted count t → 1 ≤ count → n ≡ count - 1 → HasElements n t
elements_counted count n t h some is = h n (omega (arith, some, is))

-- one more element before a rest
counted_more : (a d : Tree) (count rest : ℕ) → IsRest d → IsOneMore count rest → IsCounted rest d → IsCounted count (pair None a d)
counted_more a d count rest is more h n e =
    let m = more n e in
    let behind = h m.0 m.1 in
    (a ∷ behind.0, ap suc behind.1 ∙ sym m.2, ap (pair None a) (sym is ∙ behind.2))

module _ (a d : Tree) (element rest : HeightAndSize) (j : ℕ) (is : IsRest d) (same : j ≡ joint d) (of_element : IsExtent element a) (of_rest : IsExtent rest d) where
  height_on : grown_height element rest j ≡ height (pair None a d)
  height_on = λ i. max (of_element.0 i + 1) (of_rest.0 i + same i)

  size_on : grown_size element rest j ≡ size (pair None a d)
  size_on = λ i. of_element.1 i + (of_rest.1 i + same i)

  pub extends_on : (o : Option HeightAndSize) → Grows o (grown_height element rest j) (grown_size element rest j) rest.counted → Extends o (pair None a d)
  extends_on None h = λ fits. h (subst (λ n. n ≤ max_height) (sym height_on) fits.0, subst (λ n. n ≤ max_size) (sym size_on) fits.1)
  extends_on (Some e) h = (
    (h.0 ∙ height_on, h.1 ∙ size_on, counted_more a d e.counted rest.counted is h.4 of_rest.2),
    (subst (λ n. n ≤ max_height) height_on h.2, subst (λ n. n ≤ max_size) size_on h.3),
  )

pub counted_none : (t : Tree) (count : ℕ) → count ≡ 0 → IsCounted count t
counted_none t count h n e = absurd (let g : zero ≡ suc n = sym h ∙ e in let f : ⊥ = cc in f)

pub counted_atom : (a : Atom) (count : ℕ) → is_list (atom None a) ≡ true → count ≡ 1 → IsCounted count (atom None a)
counted_atom Nil count h is n e = ([], (let g : 1 ≡ suc n = sym is ∙ e in omega (arith, g)), refl)
counted_atom (Boolean _) count h is n e = absurd (cc)
counted_atom (Int _) count h is n e = absurd (cc)
counted_atom (Spelt _) count h is n e = absurd (cc)
counted_atom (Char _) count h is n e = absurd (cc)
counted_atom (Str _) count h is n e = absurd (cc)
counted_atom (Bytes _) count h is n e = absurd (cc)
