-- Rests of lists, and lists whose elements are put before them.
use Rattle.std.proofs.Common.{◌≡◌, ◌<◌, ◌≤◌, List, [], ◌∷◌, ◌++◌, Option, None, Some, true, false, refl, sym, ap, ◌∙◌, subst, arith}
use Rattle.base_data.specs.declared.atom.Atom.TheVariants.{Nil, Bool as Boolean, Int, Spelt, Char, Str, Bytes}
use Rattle.base_data.specs.declared.span.Span.{Span}
use Rattle.stx_tree.specs.Tree.{Tree, atom, leaf, pair, vector, nil, chain, spanned, unspanned, span_of, is_list, is_pair, rest_of}
use Rattle.stx_tree.specs.Changes.{changed}
use Rattle.stx_tree.specs.declared.change.Change.{Change}
use Rattle.stx_tree.specs.Measures.{Fits}
use Rattle.stx_tree.proofs.TreeLaws.{chain-append}
use Rattle.stx_tree.proofs.MeasureLaws.{chain_fits, height-unspanned, size-unspanned}
use Rattle.stx_object.specs.Kept.{weight, IsRest, IsElements, Parts}

-- as a rest it is as it was
pub list_rest : (t : Tree) → is_list t ≡ true → spanned None t ≡ rest_of t
list_rest (atom s Nil) h = refl
list_rest (atom s (Boolean _)) h = absurd (cc)
list_rest (atom s (Int _)) h = absurd (cc)
list_rest (atom s (Spelt _)) h = absurd (cc)
list_rest (atom s (Char _)) h = absurd (cc)
list_rest (atom s (Str _)) h = absurd (cc)
list_rest (atom s (Bytes _)) h = absurd (cc)
list_rest (leaf s x c) h = absurd (cc)
list_rest (pair s a d) h = refl
list_rest (vector s d) h = absurd (cc)

pub other_rest : (t : Tree) → is_list t ≡ false → t ≡ rest_of t
other_rest (atom s Nil) h = absurd (cc)
other_rest (atom s (Boolean _)) h = refl
other_rest (atom s (Int _)) h = refl
other_rest (atom s (Spelt _)) h = refl
other_rest (atom s (Char _)) h = refl
other_rest (atom s (Str _)) h = refl
other_rest (atom s (Bytes _)) h = refl
other_rest (leaf s x c) h = refl
other_rest (pair s a d) h = absurd (cc)
other_rest (vector s d) h = refl

pub rest_rest : (t : Tree) → IsRest (rest_of t)
rest_rest (atom s Nil) = refl
rest_rest (atom s (Boolean _)) = refl
rest_rest (atom s (Int _)) = refl
rest_rest (atom s (Spelt _)) = refl
rest_rest (atom s (Char _)) = refl
rest_rest (atom s (Str _)) = refl
rest_rest (atom s (Bytes _)) = refl
rest_rest (leaf s x c) = refl
rest_rest (pair s a d) = refl
rest_rest (vector s d) = refl

pub unspanned_rest : (t : Tree) → IsRest (unspanned t)
unspanned_rest (atom s Nil) = refl
unspanned_rest (atom s (Boolean _)) = refl
unspanned_rest (atom s (Int _)) = refl
unspanned_rest (atom s (Spelt _)) = refl
unspanned_rest (atom s (Char _)) = refl
unspanned_rest (atom s (Str _)) = refl
unspanned_rest (atom s (Bytes _)) = refl
unspanned_rest (leaf s x c) = refl
unspanned_rest (pair s a d) = refl
unspanned_rest (vector s d) = refl

pub changed_rest : (ws : List Change) (t : Tree) → IsRest t → IsRest (changed ws t)
changed_rest ws (atom s Nil) h = h
changed_rest ws (atom s (Boolean _)) h = refl
changed_rest ws (atom s (Int _)) h = refl
changed_rest ws (atom s (Spelt _)) h = refl
changed_rest ws (atom s (Char _)) h = refl
changed_rest ws (atom s (Str _)) h = refl
changed_rest ws (atom s (Bytes _)) h = refl
changed_rest ws (leaf s x c) h = refl
changed_rest ws (pair None a d) h = refl
changed_rest ws (pair (Some s) a d) h = absurd (cc)
changed_rest ws (vector s d) h = refl

pub changed_elements : (ws : List Change) (t : Tree) → IsElements t → IsElements (changed ws t)
changed_elements ws (atom s a) h = h
changed_elements ws (leaf s x c) h = h
changed_elements ws (pair s a d) h = (h.0, changed_elements ws d h.1)
changed_elements ws (vector s d) h = h

pub unspanned_elements : (t : Tree) → IsElements t → IsElements (unspanned t)
unspanned_elements (atom s a) h = h2 s a h
  where
    h2 : (s : Option Span) (a : _) → atom s a ≡ nil → atom None a ≡ nil
    h2 s a e = ap unspanned e
unspanned_elements (leaf s x c) h = h
unspanned_elements (pair s a d) h = (refl, unspanned_elements d h.1)
unspanned_elements (vector s d) h = h

pub chain_rest : (xs : List Tree) (t : Tree) → IsRest t → IsRest (chain xs t)
chain_rest [] t h = h
chain_rest (x ∷ xs) t h = refl

pub chain_elements : (xs : List Tree) (t : Tree) → IsElements t → IsElements (chain xs t)
chain_elements [] t h = h
chain_elements (x ∷ xs) t h = (refl, chain_elements xs t h)

-- the last of them before those that are there already
pub chain_last : (ys zs : List Tree) (x t : Tree) → ys ≡ zs ++ x ∷ [] → chain ys t ≡ chain zs (pair None x t)
chain_last ys zs x t e = ap (λ xs. chain xs t) e ∙ chain-append zs (x ∷ []) t

pub last_fits : (ys zs : List Tree) (x t all : Tree) → ys ≡ zs ++ x ∷ [] → chain ys t ≡ all → Fits all → Fits (pair None x t)
last_fits ys zs x t all e h fits = chain_fits zs (pair None x t) (subst Fits (sym h ∙ chain_last ys zs x t e) fits)

pub last_more : (ys zs : List Tree) (x t u all : Tree) → ys ≡ zs ++ x ∷ [] → chain ys t ≡ all → u ≡ pair None x t → chain zs u ≡ all
last_more ys zs x t u all e h p = ap (chain zs) p ∙ sym (chain_last ys zs x t e) ∙ h

-- the first element goes behind those before it
pub first_more : (xs : List Tree) (x t : Tree) → chain (xs ++ x ∷ []) t ≡ chain xs (pair None x t)
first_more xs x t = chain-append xs (x ∷ []) t

pub unspanned_fits : (t : Tree) → Fits t → Fits (unspanned t)
unspanned_fits t h = (rw (height-unspanned t) h.0, rw (size-unspanned t) h.1)

-- a list that is a rest has no span
pub rest_pair : (t x y : Tree) → t ≡ pair (span_of t) x y → IsRest t → t ≡ pair None x y
rest_pair t x y e h = e ∙ sym (subst IsRest e h)

pub elements_pair : (t x y : Tree) → t ≡ pair (span_of t) x y → IsElements t → t ≡ pair None x y
elements_pair t x y e h = let g : IsElements (pair (span_of t) x y) = subst IsElements e h in e ∙ ap (λ s. pair s x y) g.0

pub elements_rest : (t x y : Tree) → t ≡ pair (span_of t) x y → IsElements t → IsElements y
elements_rest t x y e h = let g : IsElements (pair (span_of t) x y) = subst IsElements e h in g.1

pub elements_end : (t : Tree) → is_pair t ≡ false → IsElements t → t ≡ nil
elements_end (atom s a) p h = h
elements_end (leaf s x c) p h = absurd h
elements_end (pair s a d) p h = absurd (cc)
elements_end (vector s d) p h = absurd h

pub weight-some : (t : Tree) → 1 ≤ weight t
weight-some (atom s a) = omega arith
weight-some (leaf s x c) = omega arith
weight-some (pair s a d) = omega arith
weight-some (vector s d) = omega arith

pub first_less : (t x y : Tree) (s : Option Span) → t ≡ pair s x y → weight x < weight t
first_less t x y s e = omega (arith, ap weight e)

pub rest_less : (t x y : Tree) (s : Option Span) → t ≡ pair s x y → weight y < weight t
rest_less t x y s e = omega (arith, ap weight e)

pub parts_none : (o : Option (Tree × Tree)) (t : Tree) → Parts o t → ((q : Tree × Tree) → o ≡ Some q → ⊥) → is_pair t ≡ false
parts_none None t p n = p
parts_none (Some q) t p n = absurd (n q refl)
