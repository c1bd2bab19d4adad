-- How changes of a tree go together, and with spans and chains.
use Rattle.std.proofs.Common.{◌≡◌, List, [], ◌∷◌, ◌++◌, Option, None, refl, ap, sym, ◌∙◌, map, true}
use Rattle.base_data.specs.declared.name.Mark.{Mark}
use Rattle.base_data.specs.declared.name.FrameNo.{FrameNo}
use Rattle.base_data.specs.declared.span.Span.{Span}
use Rattle.base_data.specs.declared.atom.Atom.TheVariants.{Nil, Bool as Boolean, Int, Spelt, Char, Str, Bytes}
use Rattle.stx_tree.specs.Context.{LeafContext, acts}
use Rattle.stx_tree.specs.Tree.{Tree, atom, leaf, pair, vector, chain, spanned, unspanned, is_list}
use Rattle.stx_tree.specs.Changes.{changed, enter, leave}
use Rattle.stx_tree.specs.declared.change.Change.{Change}
use Rattle.stx_tree.specs.declared.change.Change.TheVariants.{Enter, Leave}
use Rattle.stx_tree.proofs.ContextLaws.{acts-append, left-entered}

pub changed-none : (t : Tree) → changed [] t ≡ t
changed-none (atom s a) = refl
changed-none (leaf s x c) = refl
changed-none (pair s a d) = let ea = changed-none a in let ed = changed-none d in cc
changed-none (vector s d) = ap (vector s) (changed-none d)

pub changed-append : (xs ys : List Change) (t : Tree) → changed (xs ++ ys) t ≡ changed ys (changed xs t)
changed-append xs ys (atom s a) = refl
changed-append xs ys (leaf s x c) = ap (leaf s x) (acts-append xs ys c)
changed-append xs ys (pair s a d) = let ea = changed-append xs ys a in let ed = changed-append xs ys d in cc
changed-append xs ys (vector s d) = ap (vector s) (changed-append xs ys d)

-- changes that do the same to each context do the same to each tree
pub changed-by : (xs ys : List Change) → ((c : LeafContext) → acts xs c ≡ acts ys c) → (t : Tree) → changed xs t ≡ changed ys t
changed-by xs ys h (atom s a) = refl
changed-by xs ys h (leaf s x c) = ap (leaf s x) (h c)
changed-by xs ys h (pair s a d) = let ea = changed-by xs ys h a in let ed = changed-by xs ys h d in cc
changed-by xs ys h (vector s d) = ap (vector s) (changed-by xs ys h d)

pub leave-enter : (m : Mark) (f : Option FrameNo) (t : Tree) → leave m f (enter m t) ≡ t
leave-enter m f t =
    sym (changed-append (Enter m ∷ []) (Leave m f ∷ []) t)
    ∙ changed-by (Enter m ∷ (Leave m f ∷ [])) [] (left-entered m f) t ∙ changed-none t

pub changed-spanned : (xs : List Change) (s : Option Span) (t : Tree) → changed xs (spanned s t) ≡ spanned s (changed xs t)
changed-spanned xs s (atom _ a) = refl
changed-spanned xs s (leaf _ x c) = refl
changed-spanned xs s (pair _ a d) = refl
changed-spanned xs s (vector _ d) = refl

pub changed-unspanned : (xs : List Change) (t : Tree) → changed xs (unspanned t) ≡ unspanned (changed xs t)
changed-unspanned xs (atom s a) = refl
changed-unspanned xs (leaf s x c) = refl
changed-unspanned xs (pair s a d) = let ea = changed-unspanned xs a in let ed = changed-unspanned xs d in cc
changed-unspanned xs (vector s d) = ap (vector None) (changed-unspanned xs d)

pub spanned-spanned : (r s : Option Span) (t : Tree) → spanned r (spanned s t) ≡ spanned r t
spanned-spanned r s (atom _ a) = refl
spanned-spanned r s (leaf _ x c) = refl
spanned-spanned r s (pair _ a d) = refl
spanned-spanned r s (vector _ d) = refl

pub unspanned-spanned : (s : Option Span) (t : Tree) → unspanned (spanned s t) ≡ unspanned t
unspanned-spanned s (atom _ a) = refl
unspanned-spanned s (leaf _ x c) = refl
unspanned-spanned s (pair _ a d) = refl
unspanned-spanned s (vector _ d) = refl

pub changed-chain : (cs : List Change) (xs : List Tree) (t : Tree) → changed cs (chain xs t) ≡ chain (map (changed cs) xs) (changed cs t)
changed-chain cs [] t = refl
changed-chain cs (x ∷ xs) t = ap (pair None (changed cs x)) (changed-chain cs xs t)

pub unspanned-chain : (xs : List Tree) (t : Tree) → unspanned (chain xs t) ≡ chain (map unspanned xs) (unspanned t)
unspanned-chain [] t = refl
unspanned-chain (x ∷ xs) t = ap (pair None (unspanned x)) (unspanned-chain xs t)

pub chain-append : (xs ys : List Tree) (t : Tree) → chain (xs ++ ys) t ≡ chain xs (chain ys t)
chain-append [] ys t = refl
chain-append (x ∷ xs) ys t = ap (pair None x) (chain-append xs ys t)

pub is_list-changed : (xs : List Change) (t : Tree) → is_list (changed xs t) ≡ is_list t
is_list-changed xs (atom s a) = refl
is_list-changed xs (leaf s x c) = refl
is_list-changed xs (pair s a d) = refl
is_list-changed xs (vector s d) = refl

pub is_list-spanned : (s : Option Span) (t : Tree) → is_list (spanned s t) ≡ is_list t
is_list-spanned s (atom _ Nil) = refl
is_list-spanned s (atom _ (Boolean _)) = refl
is_list-spanned s (atom _ (Int _)) = refl
is_list-spanned s (atom _ (Spelt _)) = refl
is_list-spanned s (atom _ (Char _)) = refl
is_list-spanned s (atom _ (Str _)) = refl
is_list-spanned s (atom _ (Bytes _)) = refl
is_list-spanned s (leaf _ x c) = refl
is_list-spanned s (pair _ a d) = refl
is_list-spanned s (vector _ d) = refl

pub is_list-unspanned : (t : Tree) → is_list (unspanned t) ≡ is_list t
is_list-unspanned (atom _ Nil) = refl
is_list-unspanned (atom _ (Boolean _)) = refl
is_list-unspanned (atom _ (Int _)) = refl
is_list-unspanned (atom _ (Spelt _)) = refl
is_list-unspanned (atom _ (Char _)) = refl
is_list-unspanned (atom _ (Str _)) = refl
is_list-unspanned (atom _ (Bytes _)) = refl
is_list-unspanned (leaf _ x c) = refl
is_list-unspanned (pair _ a d) = refl
is_list-unspanned (vector _ d) = refl

-- a chain that ends in a list is one
pub is_list-chain : (xs : List Tree) (t : Tree) → is_list t ≡ true → is_list (chain xs t) ≡ true
is_list-chain [] t h = h
is_list-chain (x ∷ xs) t h = refl
