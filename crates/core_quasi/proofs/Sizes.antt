-- Parts are smaller than what they are part of.
use Rattle.std.proofs.Common.{◌≡◌, ℕ, zero, suc, ◌+◌, ◌<◌, ◌≤◌, List, [], ◌∷◌, length, length-drop, take, drop, refl, arith, Vec}
use Rattle.std.specs.Prelude.{Bool, true, false, ◌-◌}
use Rattle.std.specs.declared.alloc.Global.{Global}
use Rattle.stx_object.specs.Opens.{Opens}
use Rattle.stx_object.specs.declared.syn.OpenedTree.TheVariants as opened
use Rattle.stx_tree.specs.Tree.{Tree, atom, leaf, pair, vector, chain, nil, is_pair}
use Rattle.stx_tree.specs.Measures.{size, joint}
use Rattle.stx_tree.proofs.MeasureLaws.{size-some}
use Rattle.core_shapes.specs.Lists.{elements, tail_of}
use Rattle.core_quasi.specs.Words.{WordOf}
use Rattle.core_quasi.specs.Parts.{splits}

-- the sum of the sizes
abbrev pub forms_size : List Tree → ℕ
forms_size [] = 0
forms_size (t ∷ ts) = size t + forms_size ts

joint_chain : (ts : List Tree) → joint (chain ts nil) ≡ 0
joint_chain [] = refl
joint_chain (t ∷ ts) = refl

pub parts_within : (t : Tree) → forms_size (elements t) + size (tail_of t) ≤ size t
parts_within (atom s a) = omega arith
parts_within (leaf s x c) = omega arith
parts_within (pair s a d) = omega (arith, parts_within d)
parts_within (vector s d) = omega arith

pub chain_size : (ts : List Tree) → size (chain ts nil) ≡ forms_size ts + 1
chain_size [] = refl
chain_size (t ∷ ts) = omega (arith, chain_size ts, joint_chain ts)

pub split_size : (n : ℕ) (ts : List Tree) → forms_size (take n ts) + forms_size (drop n ts) ≡ forms_size ts
split_size zero ts = omega arith
split_size (suc n) [] = omega arith
split_size (suc n) (t ∷ ts) = omega (arith, split_size n ts)

pub some_elements : (t : Tree) → is_pair t ≡ true → 0 < length (elements t)
some_elements (atom s a) h = absurd (cc)
some_elements (leaf s x c) h = absurd (cc)
some_elements (pair s a d) h = omega arith
some_elements (vector s d) h = absurd (cc)

pub list_within : (t : Tree) (ts : List Tree) (tail : Tree) → ts ≡ elements t → tail ≡ tail_of t → forms_size ts + size tail ≤ size t
list_within t ts tail are last = rw (are, last) (parts_within t)

pub vector_within : (v : Vec Tree Global) (t : Tree) → Opens (opened.Vector v) t → forms_size v.items < size t
vector_within v (atom s a) h = absurd h
vector_within v (leaf s x c) h = absurd h
vector_within v (pair s a d) h = absurd h
vector_within v (vector s d) h = rw (← h) (omega (arith, chain_size v.items))

pub some_list : (t : Tree) (ts : List Tree) → is_pair t ≡ true → ts ≡ elements t → 0 < length ts
some_list t ts h are = rw are (some_elements t h)

pub some_size : (ts : List Tree) → 0 < length ts → 0 < forms_size ts
some_size [] h = absurd (omega (arith, h))
some_size (t ∷ ts) h = omega (arith, size-some t)

pub tree_size : (t : Tree) → 0 < size t
tree_size t = size-some t

pub first_size : (left : List Tree) (t : Tree) (ts : List Tree) → left ≡ t ∷ ts → forms_size left ≡ size t + forms_size ts
first_size left t ts e = rw e refl

-- a list that is split has three elements at least
pub split_long : (w : WordOf) (ends : Bool) (ts : List Tree) → true ≡ splits w ends ts → 3 ≤ length ts
split_long w false ts h = absurd (cc)
split_long w true [] h = absurd (cc)
split_long w true (x ∷ []) h = absurd (cc)
split_long w true (x ∷ (y ∷ [])) h = absurd (cc)
split_long w true (x ∷ (y ∷ (z ∷ zs))) h = omega arith

pub last_some : (ts : List Tree) → 3 ≤ length ts → 0 < length (drop (length ts - 2) ts)
last_some ts h = omega (arith, length-drop (length ts - 2) ts, h)
