-- Sizes and heights are those of lists, and changes and spans leave them.
use Rattle.std.proofs.Common.{◌≡◌, ℕ, ◌+◌, ◌≤◌, Bool, true, false, cond, List, [], ◌∷◌, ◌++◌, Option, None, Result, Ok, Err, refl, ap, ◌∙◌, map, arith}
use Rattle.std.specs.Prelude.{nat_le, sum_by, ◌&&◌}
use Rattle.std.proofs.lemmas.List.{append-nil}
use Rattle.std.proofs.lemmas.List.Sums.{sum_by-cons}
use Rattle.std.proofs.lemmas.Bool.Decides.{nat_tests}
use Rattle.base_data.specs.declared.span.Span.{Span}
use Rattle.base_data.specs.declared.fault.Bare.{Bare}
use Rattle.base_data.specs.declared.atom.Atom.TheVariants.{Nil, Bool as Boolean, Int, Spelt, Char, Str, Bytes}
use Rattle.stx_tree.specs.Tree.{Tree, atom, leaf, pair, vector, nil, chain, spanned, unspanned, is_pair}
use Rattle.stx_tree.specs.Measures.{joint, size, height, tail_part, greatest, Fits, within, too_deep, max_height, max_size}
use Rattle.stx_tree.specs.Changes.{changed}
use Rattle.stx_tree.specs.declared.change.Change.{Change}
use Rattle.stx_tree.proofs.TreeLaws.{is_list-changed, is_list-unspanned}

pub size-changed : (xs : List Change) (t : Tree) → size (changed xs t) ≡ size t
size-changed xs (atom s a) = refl
size-changed xs (leaf s x c) = refl
size-changed xs (pair s a d) = let ea = size-changed xs a in let ed = size-changed xs d in let er = is_list-changed xs d in cc
size-changed xs (vector s d) = size-changed xs d

pub height-changed : (xs : List Change) (t : Tree) → height (changed xs t) ≡ height t
height-changed xs (atom s a) = refl
height-changed xs (leaf s x c) = refl
height-changed xs (pair s a d) = let ea = height-changed xs a in let ed = height-changed xs d in let er = is_list-changed xs d in cc
height-changed xs (vector s d) = height-changed xs d

pub size-spanned : (s : Option Span) (t : Tree) → size (spanned s t) ≡ size t
size-spanned s (atom _ a) = refl
size-spanned s (leaf _ x c) = refl
size-spanned s (pair _ a d) = refl
size-spanned s (vector _ d) = refl

pub height-spanned : (s : Option Span) (t : Tree) → height (spanned s t) ≡ height t
height-spanned s (atom _ a) = refl
height-spanned s (leaf _ x c) = refl
height-spanned s (pair _ a d) = refl
height-spanned s (vector _ d) = refl

pub size-unspanned : (t : Tree) → size (unspanned t) ≡ size t
size-unspanned (atom s a) = refl
size-unspanned (leaf s x c) = refl
size-unspanned (pair s a d) = let ea = size-unspanned a in let ed = size-unspanned d in let er = is_list-unspanned d in cc
size-unspanned (vector s d) = size-unspanned d

pub height-unspanned : (t : Tree) → height (unspanned t) ≡ height t
height-unspanned (atom s a) = refl
height-unspanned (leaf s x c) = refl
height-unspanned (pair s a d) = let ea = height-unspanned a in let ed = height-unspanned d in let er = is_list-unspanned d in cc
height-unspanned (vector s d) = height-unspanned d

pub size-some : (t : Tree) → 1 ≤ size t
size-some (atom s a) = omega arith
size-some (leaf s x c) = omega arith
size-some (pair s a d) = omega (arith, size-some a)
size-some (vector s d) = size-some d

pub height-some : (t : Tree) → 1 ≤ height t
height-some (atom s a) = omega arith
height-some (leaf s x c) = omega arith
height-some (pair s a d) = omega (arith, height-some a)
height-some (vector s d) = height-some d

-- a tail that is no pair counts as a part, and Nil not
size-tail : (t : Tree) → is_pair t ≡ false → size t + joint t ≡ 1 + sum_by size (tail_part t)
size-tail (atom s Nil) h = refl
size-tail (atom s (Boolean _)) h = refl
size-tail (atom s (Int _)) h = refl
size-tail (atom s (Spelt _)) h = refl
size-tail (atom s (Char _)) h = refl
size-tail (atom s (Str _)) h = refl
size-tail (atom s (Bytes _)) h = refl
size-tail (leaf s x c) h = refl
size-tail (pair s a d) h = cc
size-tail (vector s d) h = omega arith

height-tail : (t : Tree) → is_pair t ≡ false → height t + joint t ≡ 1 + greatest (map height (tail_part t))
height-tail (atom s Nil) h = refl
height-tail (atom s (Boolean _)) h = refl
height-tail (atom s (Int _)) h = refl
height-tail (atom s (Spelt _)) h = refl
height-tail (atom s (Char _)) h = refl
height-tail (atom s (Str _)) h = refl
height-tail (atom s (Bytes _)) h = refl
height-tail (leaf s x c) h = refl
height-tail (pair s a d) h = cc
height-tail (vector s d) h = omega arith

-- the size of a list is 1 and the sizes of its parts
pub size-chain : (x : Tree) (xs : List Tree) (t : Tree) → is_pair t ≡ false → size (chain (x ∷ xs) t) ≡ 1 + sum_by size ((x ∷ xs) ++ tail_part t)
size-chain x [] t h = omega (arith, size-tail t h, sum_by-cons size x (tail_part t))
size-chain x (y ∷ ys) t h = omega (arith, size-chain y ys t h, sum_by-cons size x ((y ∷ ys) ++ tail_part t))

-- the height of a list is 1 more than the greatest of its parts
pub height-chain : (x : Tree) (xs : List Tree) (t : Tree) → is_pair t ≡ false → height (chain (x ∷ xs) t) ≡ 1 + greatest (map height ((x ∷ xs) ++ tail_part t))
height-chain x [] t h = omega (arith, height-tail t h)
height-chain x (y ∷ ys) t h = omega (arith, height-chain y ys t h)

pub size-vector : (s : Option Span) (xs : List Tree) → size (vector s (chain xs nil)) ≡ 1 + sum_by size xs
size-vector s [] = refl
size-vector s (x ∷ xs) = size-chain x xs nil refl ∙ ap (λ ys. 1 + sum_by size ys) (append-nil (x ∷ xs))

pub height-vector : (s : Option Span) (xs : List Tree) → height (vector s (chain xs nil)) ≡ 1 + greatest (map height xs)
height-vector s [] = refl
height-vector s (x ∷ xs) = height-chain x xs nil refl ∙ ap (λ ys. 1 + greatest (map height ys)) (append-nil (x ∷ xs))

-- the parts of a tree within the limits are within them
pub pair_fits : (s : Option Span) (a d : Tree) → Fits (pair s a d) → Fits a × Fits d
pair_fits s a d h = ((omega (arith, h.0), omega (arith, h.1)), (omega (arith, h.0), omega (arith, h.1)))

pub chain_fits : (xs : List Tree) (t : Tree) → Fits (chain xs t) → Fits t
chain_fits [] t h = h
chain_fits (x ∷ xs) t h = chain_fits xs t (pair_fits None x (chain xs t) h).1

pub changed_fits : (xs : List Change) (t : Tree) → Fits t → Fits (changed xs t)
changed_fits xs t h = (rw (height-changed xs t) h.0, rw (size-changed xs t) h.1)

both : (a b : Bool) → a ≡ true → b ≡ true → a && b ≡ true
both a b p q = rw (p, q) refl

neither : (h n : ℕ) (a b : Bool) → nat_le h max_height ≡ a → nat_le n max_size ≡ b → ((h ≤ max_height) × (n ≤ max_size) → ⊥) → a && b ≡ false
neither h n true true p q f = absurd (f (grind (arith, nat_tests), grind (arith, nat_tests)))
neither h n true false p q f = refl
neither h n false b p q f = refl

pub within-fits : (t : Tree) → Fits t → within t ≡ Ok t
unfolding within
within-fits t h =
    ap (λ b. cond {A = Result Tree Bare} b (Ok t) (Err too_deep))
    (both (nat_le (height t) max_height) (nat_le (size t) max_size) (grind (arith, nat_tests, h.0)) (grind (arith, nat_tests, h.1)))

pub within-past : (t : Tree) → (Fits t → ⊥) → within t ≡ Err too_deep
unfolding within
within-past t h =
    ap (λ b. cond {A = Result Tree Bare} b (Ok t) (Err too_deep))
    (neither (height t) (size t) (nat_le (height t) max_height) (nat_le (size t) max_size) refl refl h)
