-- The parts of a form are lower than the form.
use Rattle.std.proofs.Common.{◌≡◌, ◌≤◌, ℕ, ◌+◌, max, false, List, ◌∷◌, arith}
use Rattle.stx_tree.specs.Measures.{joint, height}
use Rattle.stx_tree.specs.Tree.{Tree, atom, leaf, pair, vector, is_pair}
use Rattle.base_data.specs.Elements.{Each}
use Rattle.law_patterns.specs.Patterns as p
use Rattle.law_patterns.specs.Patterns.{IsChain}
use Rattle.law_shapes.specs.Grammar as g
use Rattle.law_shapes.specs.Grammar.{IsList}

pub least : (a b n : ℕ) → a ≤ n → b ≤ n → max a b ≤ n
least a b n h k = omega (arith, h, k)

pub left : (a b n : ℕ) → max a b ≤ n → a ≤ n
left a b n h = omega (arith, h)

pub right : (a b n : ℕ) → max a b ≤ n → b ≤ n
right a b n h = omega (arith, h)

pub itself : (n : ℕ) → n ≤ n
itself n = omega arith

pub through : (a b c : ℕ) → a ≤ b → b ≤ c → a ≤ c
through a b c h k = omega (arith, h, k)

-- of a pair

first-low : (n : ℕ) (x d : Tree) → max (height x + 1) (height d + joint d) ≤ n → height x + 1 ≤ n
first-low n x d h = left (height x + 1) (height d + joint d) n h

rest-low : (n : ℕ) (x d : Tree) → max (height x + 1) (height d + joint d) ≤ n → height d + joint d ≤ n
rest-low n x d h = right (height x + 1) (height d + joint d) n h

drop-joint : (a b n : ℕ) → a + b ≤ n → a ≤ n
drop-joint a b n h = omega (arith, h)

pub height-some : (t : Tree) → 1 ≤ height t
height-some (atom s a) = omega arith
height-some (leaf s x c) = omega arith
height-some (pair s a d) = let h = first-low (height (pair s a d)) a d (itself (height (pair s a d))) in more (height a) (height (pair s a d)) h
  where
    more : (a n : ℕ) → a + 1 ≤ n → 1 ≤ n
    more a n h = omega (arith, h)
height-some (vector s d) = height-some d

-- with one more it is no higher than that
abbrev pub Below : ℕ → Tree → Type 0
Below n t = height t + 1 ≤ n

pub chain-low : {xs : List Tree} {r t : Tree} (n : ℕ) → height t ≤ n → IsChain xs r t → Each (Below n) xs
chain-low n h (p.chain_ends e) = tt
chain-low n h (p.chain_next {x = x} {rest = rest} c) =
    (first-low n x rest h, chain-low n (drop-joint (height rest) (joint rest) n (rest-low n x rest h)) c)

pub list-low : {xs : List Tree} {t : Tree} (n : ℕ) → height t ≤ n → IsList xs t → Each (Below n) xs
list-low n h g.end = tt
list-low n h (g.next {x = x} {rest = rest} l) =
    (first-low n x rest h, list-low n (drop-joint (height rest) (joint rest) n (rest-low n x rest h)) l)

-- the end of a chain

pub chain-stops : {xs : List Tree} {r t : Tree} → IsChain xs r t → is_pair r ≡ false
chain-stops (p.chain_ends e) = e
chain-stops (p.chain_next c) = chain-stops c

chain-end : {xs : List Tree} {r t : Tree} → IsChain xs r t → height r + joint r ≤ height t + joint t
chain-end (p.chain_ends {r = r} e) = itself (height r + joint r)
chain-end {r = r} {t = t} (p.chain_next {x = x} {rest = rest} c) =
    through (height r + joint r) (height rest + joint rest) (height t + 0) (chain-end c) (padded (height t) (rest-low (height t) x rest (itself (height t))))
  where
    padded : (n : ℕ) → height rest + joint rest ≤ n → height rest + joint rest ≤ n + 0
    padded n h = omega (arith, h)

some-more : (a n : ℕ) → 1 ≤ a → a + 1 ≤ n → 2 ≤ n
some-more a n h k = omega (arith, h, k)

one-more : (k a n : ℕ) → k ≤ a → a + 1 ≤ n → k + 1 ≤ n
one-more k a n h j = omega (arith, h, j)

-- what stands for it has one level more at most, where the form has an element
pub end-low : {r t x : Tree} {xs : List Tree} (k : ℕ) → IsChain (x ∷ xs) r t → k ≤ height r → k + 1 ≤ height t
end-low {r} {t} k (p.chain_next {x = x} {rest = rest} c) h =
    by r (chain-stops c) h (through (height r + joint r) (height rest + joint rest) (height t) (chain-end c) (rest-low (height t) x rest (itself (height t))))
  where
    two : 2 ≤ height t
    two = some-more (height x) (height t) (height-some x) (first-low (height t) x rest (itself (height t)))

    small : k ≤ 1 → k + 1 ≤ height t
    small h = let low = two in omega (arith, h, low)

    by : (r : Tree) → is_pair r ≡ false → k ≤ height r → height r + joint r ≤ height t → k + 1 ≤ height t
    by (atom s a) e h j = small h
    by (leaf s y c) e h j = small h
    by (pair s a d) e h j = absurd (cc)
    by (vector s d) e h j = one-more k (height d) (height t) h j
