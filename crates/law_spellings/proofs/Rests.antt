-- Trees that are made have no spans at rests, where their parts have none.
use Rattle.std.proofs.Common.{◌≡◌, true, List, [], ◌∷◌, Option, None, Some, refl, ◌∙◌}
use Rattle.base_data.specs.Datum as datum
use Rattle.base_data.specs.declared.atom.Atom.{Atom}
use Rattle.base_data.specs.declared.atom.Atom.TheVariants as a
use Rattle.base_data.specs.declared.span.Span.{Span}
use Rattle.core_codec.specs.Trees.{is_datum_rest, are_datum_elements, is_tail, is_rest, are_elements}
use Rattle.base_data.specs.Elements.{Each}
use Rattle.stx_tree.specs.Changes.{changed}
use Rattle.stx_tree.specs.Leaves.{strip}
use Rattle.stx_tree.specs.Tree.{Tree, atom, leaf, pair, vector, nil, chain, spanned, unspanned, rest_of, list_of, vector_of}
use Rattle.stx_tree.specs.declared.change.Change.{Change}
use Rattle.law_spellings.specs.Rests.{HasPlainRests}

-- Lists that are made.

-- a tree as a rest
rest-atom : (s : Option Span) (x : Atom) → HasPlainRests (rest_of (atom s x)) × (is_rest (rest_of (atom s x)) ≡ true)
rest-atom s a.Nil = (tt, refl)
rest-atom None (a.Bool b) = (tt, refl)
rest-atom None (a.Int z) = (tt, refl)
rest-atom None (a.Spelt x) = (tt, refl)
rest-atom None (a.Char c) = (tt, refl)
rest-atom None (a.Str x) = (tt, refl)
rest-atom None (a.Bytes x) = (tt, refl)
rest-atom (Some s) (a.Bool b) = (tt, refl)
rest-atom (Some s) (a.Int z) = (tt, refl)
rest-atom (Some s) (a.Spelt x) = (tt, refl)
rest-atom (Some s) (a.Char c) = (tt, refl)
rest-atom (Some s) (a.Str x) = (tt, refl)
rest-atom (Some s) (a.Bytes x) = (tt, refl)

pub rest-plain : (t : Tree) → HasPlainRests t → HasPlainRests (rest_of t) × (is_rest (rest_of t) ≡ true)
rest-plain (atom s x) h = rest-atom s x
rest-plain (leaf s x c) h = (tt, refl)
rest-plain (pair s x d) h = (h, h.0)
rest-plain (vector s d) h = (h, refl)

chain-plain : (ts : List Tree) (t : Tree) → Each HasPlainRests ts → HasPlainRests t → is_rest t ≡ true → HasPlainRests (chain ts t) × (is_rest (chain ts t) ≡ true)
chain-plain [] t h k e = (k, e)
chain-plain (x ∷ ts) t h k e =
    let c = chain-plain ts t h.1 k e in
    ((c.1, (h.0, c.0)), c.1)

chain-elements : (ts : List Tree) → are_elements (chain ts nil) ≡ true
chain-elements [] = refl
chain-elements (x ∷ ts) = chain-elements ts

pub list-plain : (ts : List Tree) (t : Tree) → Each HasPlainRests ts → HasPlainRests t → HasPlainRests (list_of ts (Some t))
list-plain [] t h k = k
list-plain (x ∷ ts) t h k =
    let r = rest-plain t k in
    (chain-plain (x ∷ ts) (rest_of t) h r.0 r.1).0

pub vector-plain : (ts : List Tree) → Each HasPlainRests ts → HasPlainRests (vector_of ts)
vector-plain ts h = (chain-elements ts, (chain-plain ts nil h tt refl).0)

-- Trees with other spans.

pub spanned-plain : (s : Option Span) (t : Tree) → HasPlainRests t → HasPlainRests (spanned s t)
spanned-plain s (atom r x) h = tt
spanned-plain s (leaf r x c) h = tt
spanned-plain s (pair r x d) h = h
spanned-plain s (vector r d) h = h

unspanned-rest : (t : Tree) → is_rest t ≡ true → is_rest (unspanned t) ≡ true
unspanned-rest (atom s x) e = refl
unspanned-rest (leaf s x c) e = refl
unspanned-rest (pair None x d) e = unspanned-rest d e
unspanned-rest (pair (Some s) x d) e = absurd (cc)
unspanned-rest (vector s d) e = refl

elements-nil : (s : Option Span) (x : Atom) → are_elements (atom s x) ≡ true → are_elements (atom None x) ≡ true
elements-nil None x e = e
elements-nil (Some s) x e = absurd (cc)

unspanned-elements : (t : Tree) → are_elements t ≡ true → are_elements (unspanned t) ≡ true
unspanned-elements (atom s x) e = elements-nil s x e
unspanned-elements (leaf s x c) e = absurd (cc)
unspanned-elements (pair None x d) e = unspanned-elements d e
unspanned-elements (pair (Some s) x d) e = absurd (cc)
unspanned-elements (vector s d) e = absurd (cc)

pub unspanned-plain : (t : Tree) → HasPlainRests t → HasPlainRests (unspanned t)
unspanned-plain (atom s x) h = tt
unspanned-plain (leaf s x c) h = tt
unspanned-plain (pair s x d) h = (unspanned-rest d h.0, (unspanned-plain x h.1.0, unspanned-plain d h.1.1))
unspanned-plain (vector s d) h = (unspanned-elements d h.0, unspanned-plain d h.1)

-- Trees with other marks and stamps.

changed-rest : (cs : List Change) (t : Tree) → is_rest (changed cs t) ≡ is_rest t
changed-rest cs (atom s x) = refl
changed-rest cs (leaf s x c) = refl
changed-rest cs (pair None x d) = changed-rest cs d
changed-rest cs (pair (Some s) x d) = refl
changed-rest cs (vector s d) = refl

changed-elements : (cs : List Change) (t : Tree) → are_elements (changed cs t) ≡ are_elements t
changed-elements cs (atom s x) = refl
changed-elements cs (leaf s x c) = refl
changed-elements cs (pair None x d) = changed-elements cs d
changed-elements cs (pair (Some s) x d) = refl
changed-elements cs (vector s d) = refl

pub changed-plain : (cs : List Change) (t : Tree) → HasPlainRests t → HasPlainRests (changed cs t)
changed-plain cs (atom s x) h = tt
changed-plain cs (leaf s x c) h = tt
changed-plain cs (pair s x d) h = (changed-rest cs d ∙ h.0, (changed-plain cs x h.1.0, changed-plain cs d h.1.1))
changed-plain cs (vector s d) h = (changed-elements cs d ∙ h.0, changed-plain cs d h.1)

-- The datum of a tree.

strip-atom : (s : Option Span) (x : Atom) → datum.is_tail (datum.atom s x) ≡ is_tail (atom s x)
strip-atom None x = refl
strip-atom (Some s) a.Nil = refl
strip-atom (Some s) (a.Bool b) = refl
strip-atom (Some s) (a.Int z) = refl
strip-atom (Some s) (a.Spelt x) = refl
strip-atom (Some s) (a.Char c) = refl
strip-atom (Some s) (a.Str x) = refl
strip-atom (Some s) (a.Bytes x) = refl

pub strip-rest : (t : Tree) → is_datum_rest (strip t) ≡ is_rest t
strip-rest (atom s x) = strip-atom s x
strip-rest (leaf s x c) = refl
strip-rest (pair None x d) = strip-rest d
strip-rest (pair (Some s) x d) = refl
strip-rest (vector s d) = refl

strip-nil : (s : Option Span) (x : Atom) → are_datum_elements (datum.atom s x) ≡ are_elements (atom s x)
strip-nil None a.Nil = refl
strip-nil None (a.Bool b) = refl
strip-nil None (a.Int z) = refl
strip-nil None (a.Spelt x) = refl
strip-nil None (a.Char c) = refl
strip-nil None (a.Str x) = refl
strip-nil None (a.Bytes x) = refl
strip-nil (Some s) x = refl

pub strip-elements : (t : Tree) → are_datum_elements (strip t) ≡ are_elements t
strip-elements (atom s x) = strip-nil s x
strip-elements (leaf s x c) = refl
strip-elements (pair None x d) = strip-elements d
strip-elements (pair (Some s) x d) = refl
strip-elements (vector s d) = refl
