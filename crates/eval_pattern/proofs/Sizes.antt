-- Parts are smaller than what they are part of.
use Rattle.std.proofs.Common.{◌≡◌, ℕ, zero, suc, ◌<◌, ◌≤◌, List, [], ◌∷◌, length, get_or, Option, None, Some, refl, arith}
use Rattle.std.specs.Prelude.{true}
use Rattle.core_language.specs.Pattern.{PlainPattern, PlainPatterns, none, more, dots, patterns, patterns_on, pattern_size, patterns_size}
use Rattle.stx_tree.specs.Tree.{Tree, atom, leaf, pair, vector, chain, nil, is_pair}
use Rattle.stx_tree.specs.Measures.{size, joint}
use Rattle.stx_tree.proofs.MeasureLaws.{size-some}
use Rattle.core_shapes.specs.Lists.{split_first, elements, tail_of}
use Rattle.core_shapes.specs.declared.lists.Split.{Split}
use Rattle.eval_pattern.specs.Compile.{behind_ellipsis}

pub some_patterns : (q : PlainPatterns) → 0 < patterns_size q
some_patterns none = omega arith
some_patterns (more p q) = omega arith
some_patterns (dots p q) = omega arith

pub before_below : (ps : List PlainPattern) (q : PlainPatterns) → patterns_size (patterns ps) ≤ patterns_size (patterns_on ps q)
before_below [] q = omega (arith, some_patterns q)
before_below (p ∷ ps) q = omega (arith, before_below ps q)

pub rest_below : (ps : List PlainPattern) (q : PlainPatterns) → patterns_size q ≤ patterns_size (patterns_on ps q)
rest_below [] q = omega arith
rest_below (p ∷ ps) q = omega (arith, rest_below ps q)

pub pattern_smaller : (ps : List PlainPattern) (i : ℕ) (d : PlainPattern) → i < length ps → pattern_size (get_or ps i d) < patterns_size (patterns ps)
pattern_smaller [] i d h = absurd (omega arith)
pattern_smaller (p ∷ ps) zero d h = omega (arith, some_patterns (patterns ps))
pattern_smaller (p ∷ ps) (suc i) d h = omega (arith, pattern_smaller ps i d (omega arith))

pub rest_smaller : (t : Tree) (p : Split) → split_first t ≡ Some p → size p.rest < size t
rest_smaller (atom s a) p h = absurd (cc)
rest_smaller (leaf s x c) p h = absurd (cc)
rest_smaller (pair s a d) p h = let e : record { first = a; rest = d } ≡ p = cc in rw (← e) (omega (arith, size-some a))
rest_smaller (vector s d) p h = absurd (cc)

joint_chain : (ts : List Tree) → joint (chain ts nil) ≡ 0
joint_chain [] = refl
joint_chain (t ∷ ts) = refl

pub elements_within : (t : Tree) → size (chain (elements t) nil) ≤ size t
elements_within (atom s a) = omega arith
elements_within (leaf s x c) = omega arith
elements_within (pair s a d) = omega (arith, elements_within d, joint_chain (elements d))
elements_within (vector s d) = omega (arith, size-some d)

pub tail_within : (t : Tree) → size (tail_of t) ≤ size t
tail_within (atom s a) = omega arith
tail_within (leaf s x c) = omega arith
tail_within (pair s a d) = omega (arith, tail_within d)
tail_within (vector s d) = omega arith

pub tail_smaller : (t : Tree) → is_pair t ≡ true → size (tail_of t) < size t
tail_smaller (atom s a) h = absurd (cc)
tail_smaller (leaf s x c) h = absurd (cc)
tail_smaller (pair s a d) h = omega (arith, size-some a, tail_within d)
tail_smaller (vector s d) h = absurd (cc)

-- the first form and the further ones of a list of forms
pub first_smaller : (left : List Tree) (t : Tree) (ts : List Tree) → left ≡ t ∷ ts → size t < size (chain left nil)
first_smaller left t ts e = rw e (omega (arith, size-some (chain ts nil)))

pub rest_within : (left : List Tree) (t : Tree) (ts : List Tree) → left ≡ t ∷ ts → size (chain ts nil) ≤ size (chain left nil)
rest_within left t ts e = rw e (omega arith)

-- forms behind an ellipsis are no more than all
pub behind_fewer : (e : Option Tree) (ts : List Tree) → length (behind_ellipsis e ts) ≤ length ts
behind_fewer None ts = omega arith
behind_fewer (Some e) [] = omega arith
behind_fewer (Some e) (t ∷ ts) = omega arith

pub behind_within : (e : Option Tree) (ts : List Tree) → size (chain (behind_ellipsis e ts) nil) ≤ size (chain ts nil)
behind_within None ts = omega arith
behind_within (Some e) [] = omega arith
behind_within (Some e) (t ∷ ts) = omega arith
