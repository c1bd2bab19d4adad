-- A tree that is spelled has its spelling, where its numbers fit; and so has its datum.
use Rattle.std.proofs.Common.{◌≡◌, ◌≤◌, ◌<◌, ◌+◌, ◌^◌, ℕ, zero, suc, ℤ, pos, negsuc, max, Bool, true, false, List, [], ◌∷◌, length, Option, None, Some, refl, sym, subst, ◌∙◌, ap, arith}
use Rattle.std.specs.Prelude.{◌&&◌, nat_le}
use Rattle.std.specs.List.{list_all}
use Rattle.std.specs.Str.{IsUtf8, is_utf8}
use Rattle.std.proofs.lemmas.Bool.{le-leb, lt-ltb}
use Rattle.std.proofs.lemmas.Str.{is_utf8-from_IsUtf8}
use Rattle.base_data.specs.Datum as datum
use Rattle.base_data.specs.Datum.{PlainDatum}
use Rattle.base_data.specs.declared.atom.Atom.{Atom}
use Rattle.base_data.specs.declared.atom.Atom.TheVariants as a
use Rattle.base_data.specs.declared.span.Span.{Span}
use Rattle.base_bytes.specs.Codec.{u32, u64, bool, blob, text, char, is_char, int, optional, listed}
use Rattle.base_bytes.specs.Names.{span, atom}
use Rattle.core_codec.specs.Contexts.{context}
use Rattle.core_codec.specs.Trees.{is_datum_rest, are_datum_elements, datum_node_codec, datum_level, elements, tail_of, is_tail, is_rest, are_elements, tree_node_codec, tree_level, tree}
use Rattle.core_codec.specs.Trees as codecs
use Rattle.base_data.specs.Elements.{Each}
use Rattle.law_patterns.specs.Patterns as p
use Rattle.law_patterns.specs.Patterns.{IsChain}
use Rattle.law_readable.specs.Readable.{ReadableAtom}
use Rattle.law_readable.proofs.Texts.{spelt_text}
use Rattle.law_round.specs.Readable.{Fits as IntFits}
use Rattle.law_round.proofs.Chars.{scalar_small}
use Rattle.stx_tree.specs.Leaves.{strip}
use Rattle.stx_tree.specs.Measures.{joint, size, height, max_height, max_size, Fits, fits}
use Rattle.stx_tree.specs.Tree as tree_of
use Rattle.stx_tree.specs.Tree.{Tree, leaf, pair, vector}
use Rattle.law_spellings.specs.Numbers.{IsShort, AtomFits, TreeFits, DatumFits}
use Rattle.law_spellings.specs.Spelled.{SpelledTree, SpelledDatum}
use Rattle.law_spellings.proofs.Heights.{itself, through, height-some, chain-low, end-low}
use Rattle.law_spellings.proofs.Kept.{first-spelled, rest-spelled, elements-spelled}
use Rattle.law_spellings.proofs.Rests.{strip-rest, strip-elements}

pub both-true : (a b : Bool) → a ≡ true → b ≡ true → (a && b) ≡ true
both-true a b h k = λ i. h i && k i

-- what holds of each element
pub all-fit : {A : Type 0} (Q : A → Type 0) (test : A → Bool) → ((x : A) → Q x → test x ≡ true) → (xs : List A) → Each Q xs → list_all test xs ≡ true
all-fit Q test h [] k = refl
all-fit Q test h (x ∷ xs) k = both-true (test x) (list_all test xs) (h x k.0) (all-fit Q test h xs k.1)

-- Texts and atoms.

pub text-fits : (x : List ℕ) → IsShort x → IsUtf8 x → text.fits x ≡ true
unfolding text blob
text-fits x short h = both-true (u64.fits (length x)) (is_utf8 x) short (is_utf8-from_IsUtf8 x h)

int-fits : (z : ℤ) → IntFits z → int.fits z ≡ true
unfolding int
int-fits (pos n) h = lt-ltb n (2 ^ 127) h
int-fits (negsuc n) h = lt-ltb n (2 ^ 127) h

few-fit : (n : ℕ) → n < 4294967296 → u32.fits n ≡ true
unfolding u32
few-fit n h = lt-ltb n 4294967296 h

pub many-fit : (n : ℕ) → n < 18446744073709551616 → u64.fits n ≡ true
unfolding u64
many-fit n h = lt-ltb n 18446744073709551616 h

pub bool-fits : (b : Bool) → bool.fits b ≡ true
unfolding bool
bool-fits true = refl
bool-fits false = refl

char-fits : (c : ℕ) → ReadableAtom (a.Char c) → char.fits c ≡ true
unfolding char
char-fits c h = both-true (u32.fits c) (is_char c) (few-fit c (let small = scalar_small c h in omega (arith, small))) h

bytes-fit : (x : List ℕ) → IsShort x → blob.fits x ≡ true
unfolding blob
bytes-fit x h = h

pub atom-fits : (x : Atom) → ReadableAtom x → AtomFits x → atom.fits x ≡ true
unfolding atom
atom-fits a.Nil h k = refl
atom-fits (a.Bool b) h k = bool-fits b
atom-fits (a.Int z) h k = int-fits z h
atom-fits (a.Spelt x) h k = text-fits x k (spelt_text x h)
atom-fits (a.Char c) h k = char-fits c h
atom-fits (a.Str x) h k = text-fits x k h
atom-fits (a.Bytes x) h k = bytes-fit x k

-- Within the limits of a tree.

limits-fit : (t : Tree) → Fits t → fits t ≡ true
limits-fit t h = both-true (nat_le (height t) max_height) (nat_le (size t) max_size) (le-leb (height t) max_height h.0) (le-leb (size t) max_size h.1)

size-some : (t : Tree) → 1 ≤ size t
size-some (tree_of.atom s x) = omega arith
size-some (leaf s x c) = omega arith
size-some (pair s x d) = let h = size-some x in omega (arith, h)
size-some (vector s d) = size-some d

elements-size : (t : Tree) → length (elements t) ≤ size t
elements-size (tree_of.atom s x) = omega arith
elements-size (leaf s x c) = omega arith
elements-size (pair s x d) = let h = size-some x in let k = elements-size d in omega (arith, h, k)
elements-size (vector s d) = omega arith

few-elements : (t : Tree) → Fits t → u64.fits (length (elements t)) ≡ true
few-elements t h = many-fit (length (elements t)) (let k = elements-size t in let j = h.1 in omega (arith, k, j))

-- The elements of a list, and its tail.

chain-is : (t : Tree) → IsChain (elements t) (tail_of t) t
chain-is (tree_of.atom s x) = p.chain_ends refl
chain-is (leaf s x c) = p.chain_ends refl
chain-is (pair s x d) = p.chain_next (chain-is d)
chain-is (vector s d) = p.chain_ends refl

rest-tail : (t : Tree) → is_rest t ≡ true → is_tail (tail_of t) ≡ true
rest-tail (tree_of.atom s x) e = e
rest-tail (leaf s x c) e = refl
rest-tail (pair None x d) e = rest-tail d e
rest-tail (pair (Some s) x d) e = absurd (cc)
rest-tail (vector s d) e = refl

lower : (a n : ℕ) → a + 1 ≤ suc n → a ≤ n
lower a n h = omega (arith, h)

first-height : (s : Option Span) (n : ℕ) (x d : Tree) → height (pair s x d) ≤ suc n → height x ≤ n
first-height s n x d h = lower (height x) n (chain-low (suc n) h (p.chain_next {span = s} {x = x} (chain-is d))).0

rest-height : (s : Option Span) (n : ℕ) (x d : Tree) → height (pair s x d) ≤ n → height d ≤ n
rest-height s n x d h = by (height x + 1) (height d) (joint d) h
  where
    by : (a b c : ℕ) → max a (b + c) ≤ n → b ≤ n
    by a b c h = omega (arith, h)

end-height : (s : Option Span) (n : ℕ) (x d : Tree) → height (pair s x d) ≤ suc n → height (tail_of d) ≤ n
end-height s n x d h =
    lower (height (tail_of d)) n (through (height (tail_of d) + 1) (height (pair s x d)) (suc n) (end-low (height (tail_of d)) (p.chain_next {span = s} {x = x} (chain-is d)) (itself (height (tail_of d)))) h)

-- ---- trees

-- a part of a tree, with room for it
abbrev Part : ℕ → Tree → Type 0
Part n t = (height t ≤ n) × (SpelledTree t × TreeFits t)

parts-of : (n : ℕ) (t : Tree) → height t ≤ suc n → SpelledTree t → TreeFits t → Each (Part n) (elements t)
parts-of n (tree_of.atom s x) h k j = tt
parts-of n (leaf s x c) h k j = tt
parts-of n (pair s x d) h k j =
    ((first-height s n x d h, (first-spelled s x d k, j.1.0)), parts-of n d (rest-height s (suc n) x d h) (rest-spelled s x d k) j.1.1)
parts-of n (vector s d) h k j = tt

tail-spelled : (t : Tree) → SpelledTree t → TreeFits t → SpelledTree (tail_of t) × TreeFits (tail_of t)
tail-spelled (tree_of.atom s x) k j = (k, j)
tail-spelled (leaf s x c) k j = (k, j)
tail-spelled (pair s x d) k j = tail-spelled d (rest-spelled s x d k) j.1.1
tail-spelled (vector s d) k j = (k, j)

pub tree-fits : (room : ℕ) (t : Tree) → height t ≤ room → SpelledTree t → TreeFits t → (tree room).fits t ≡ true
unfolding tree tree_level tree_node_codec
tree-fits zero t h k j = absurd (let some = height-some t in omega (arith, h, some))
tree-fits (suc n) (tree_of.atom s x) h k j =
    both-true (((optional span).fits s && atom.fits x) && true) (fits (tree_of.atom s x))
    (both-true ((optional span).fits s && atom.fits x) true (both-true ((optional span).fits s) (atom.fits x) j.0 (atom-fits x k.1.0 j.1)) refl) (limits-fit (tree_of.atom s x) k.0)
tree-fits (suc n) (leaf s x c) h k j =
    both-true (((optional span).fits s && (text.fits x && context.fits c)) && true) (fits (leaf s x c))
    (both-true ((optional span).fits s && (text.fits x && context.fits c)) true
    (both-true ((optional span).fits s) (text.fits x && context.fits c) j.0 (both-true (text.fits x) (context.fits c) (text-fits x j.1.0 k.1.0.0) j.1.1)) refl)
    (limits-fit (leaf s x c) k.0)
tree-fits (suc n) (pair s x d) h k j =
    let part = tree n in
    let tail = tail-spelled d (rest-spelled s x d k) j.1.1 in
    let items : (listed part).fits (x ∷ elements d) ≡ true = both-true (u64.fits (length (x ∷ elements d))) (list_all part.fits (x ∷ elements d))
    (few-elements (pair s x d) k.0) (all-fit (Part n) part.fits (λ t q. tree-fits n t q.0 q.1.0 q.1.1) (x ∷ elements d) (parts-of n (pair s x d) h k j)) in
    let last : part.fits (tail_of d) ≡ true = tree-fits n (tail_of d) (end-height s n x d h) tail.0 tail.1 in
    let node = both-true ((listed part).fits (x ∷ elements d) && part.fits (tail_of d)) (is_tail (tail_of d)) (both-true ((listed part).fits (x ∷ elements d)) (part.fits (tail_of d)) items last) (rest-tail d k.1.1.0) in
    both-true (((optional span).fits s && (((listed part).fits (x ∷ elements d) && part.fits (tail_of d)) && is_tail (tail_of d))) && is_rest d) (fits (pair s x d))
    (both-true ((optional span).fits s && (((listed part).fits (x ∷ elements d) && part.fits (tail_of d)) && is_tail (tail_of d))) (is_rest d)
    (both-true ((optional span).fits s) (((listed part).fits (x ∷ elements d) && part.fits (tail_of d)) && is_tail (tail_of d)) j.0 node) k.1.1.0) (limits-fit (pair s x d) k.0)
tree-fits (suc n) (vector s d) h k j =
    let part = tree n in
    let items : (listed part).fits (elements d) ≡ true = both-true (u64.fits (length (elements d))) (list_all part.fits (elements d))
    (few-elements d (elements-spelled s d k).0) (all-fit (Part n) part.fits (λ t q. tree-fits n t q.0 q.1.0 q.1.1) (elements d) (parts-of n d h (elements-spelled s d k) j.1)) in
    both-true (((optional span).fits s && (listed part).fits (elements d)) && are_elements d) (fits (vector s d))
    (both-true ((optional span).fits s && (listed part).fits (elements d)) (are_elements d) (both-true ((optional span).fits s) ((listed part).fits (elements d)) j.0 items) k.1.1.0)
    (limits-fit (vector s d) k.0)

-- ---- data

-- the datum of such a part
abbrev DatumPart : ℕ → PlainDatum → Type 0
DatumPart n d = (t : Tree) × ((height t ≤ n) × ((SpelledTree t × DatumFits (strip t)) × (strip t ≡ d)))

data-of : (n : ℕ) (t : Tree) → height t ≤ suc n → SpelledTree t → DatumFits (strip t) → Each (DatumPart n) (datum.elements (strip t))
data-of n (tree_of.atom s x) h k j = tt
data-of n (leaf s x c) h k j = tt
data-of n (pair s x d) h k j =
    ((x, (first-height s n x d h, ((first-spelled s x d k, j.1.0), refl))), data-of n d (rest-height s (suc n) x d h) (rest-spelled s x d k) j.1.1)
data-of n (vector s d) h k j = tt

datum-tail : (t : Tree) → datum.tail_of (strip t) ≡ strip (tail_of t)
datum-tail (tree_of.atom s x) = refl
datum-tail (leaf s x c) = refl
datum-tail (pair s x d) = datum-tail d
datum-tail (vector s d) = refl

datum-length : (t : Tree) → length (datum.elements (strip t)) ≡ length (elements t)
datum-length (tree_of.atom s x) = refl
datum-length (leaf s x c) = refl
datum-length (pair s x d) = ap suc (datum-length d)
datum-length (vector s d) = refl

tail-datum : (t : Tree) → SpelledTree t → DatumFits (strip t) → SpelledTree (tail_of t) × DatumFits (strip (tail_of t))
tail-datum (tree_of.atom s x) k j = (k, j)
tail-datum (leaf s x c) k j = (k, j)
tail-datum (pair s x d) k j = tail-datum d (rest-spelled s x d k) j.1.1
tail-datum (vector s d) k j = (k, j)

datum-rest-tail : (d : PlainDatum) → is_datum_rest d ≡ true → datum.is_tail (datum.tail_of d) ≡ true
datum-rest-tail (datum.atom s x) e = e
datum-rest-tail (datum.symbol s x) e = refl
datum-rest-tail (datum.pair None x d) e = datum-rest-tail d e
datum-rest-tail (datum.pair (Some s) x d) e = absurd (cc)
datum-rest-tail (datum.vector s d) e = refl

few-data : (t : Tree) → Fits t → u64.fits (length (datum.elements (strip t))) ≡ true
few-data t h = subst (λ n. u64.fits n ≡ true) (sym (datum-length t)) (few-elements t h)

stripped-fits : (room : ℕ) (t : Tree) → height t ≤ room → SpelledTree t → DatumFits (strip t) → (codecs.datum room).fits (strip t) ≡ true
unfolding codecs.datum datum_level datum_node_codec
stripped-fits zero t h k j = absurd (let some = height-some t in omega (arith, h, some))
stripped-fits (suc n) (tree_of.atom s x) h k j = both-true ((optional span).fits s && atom.fits x) true (both-true ((optional span).fits s) (atom.fits x) j.0 (atom-fits x k.1.0 j.1)) refl
stripped-fits (suc n) (leaf s x c) h k j = both-true ((optional span).fits s && text.fits x) true (both-true ((optional span).fits s) (text.fits x) j.0 (text-fits x j.1 k.1.0.0)) refl
stripped-fits (suc n) (pair s x d) h k j =
    let part = codecs.datum n in
    let xs = strip x ∷ datum.elements (strip d) in
    let end = datum.tail_of (strip d) in
    let tail = tail-datum d (rest-spelled s x d k) j.1.1 in
    let rest : is_datum_rest (strip d) ≡ true = strip-rest d ∙ k.1.1.0 in
    let items : (listed part).fits xs ≡ true = both-true (u64.fits (length xs)) (list_all part.fits xs) (few-data (pair s x d) k.0)
    (all-fit (DatumPart n) part.fits (λ e q. subst (λ (e : PlainDatum). (codecs.datum n).fits e ≡ true) q.1.1.1 (stripped-fits n q.0 q.1.0 q.1.1.0.0 q.1.1.0.1)) xs (data-of n (pair s x d) h k j)) in
    let last : part.fits end ≡ true = subst (λ (e : PlainDatum). (codecs.datum n).fits e ≡ true) (sym (datum-tail d)) (stripped-fits n (tail_of d) (end-height s n x d h) tail.0 tail.1) in
    let node = both-true ((listed part).fits xs && part.fits end) (datum.is_tail end) (both-true ((listed part).fits xs) (part.fits end) items last) (datum-rest-tail (strip d) rest) in
    both-true ((optional span).fits s && (((listed part).fits xs && part.fits end) && datum.is_tail end)) (is_datum_rest (strip d))
    (both-true ((optional span).fits s) (((listed part).fits xs && part.fits end) && datum.is_tail end) j.0 node) rest
stripped-fits (suc n) (vector s d) h k j =
    let part = codecs.datum n in
    let xs = datum.elements (strip d) in
    let inner = elements-spelled s d k in
    let items : (listed part).fits xs ≡ true = both-true (u64.fits (length xs)) (list_all part.fits xs) (few-data d inner.0)
    (all-fit (DatumPart n) part.fits (λ e q. subst (λ (e : PlainDatum). (codecs.datum n).fits e ≡ true) q.1.1.1 (stripped-fits n q.0 q.1.0 q.1.1.0.0 q.1.1.0.1)) xs (data-of n d h inner j.1)) in
    both-true ((optional span).fits s && (listed part).fits xs) (are_datum_elements (strip d)) (both-true ((optional span).fits s) ((listed part).fits xs) j.0 items) (strip-elements d ∙ k.1.1.0)

pub datum-fits : (d : PlainDatum) → SpelledDatum d → DatumFits d → (codecs.datum 1000).fits d ≡ true
datum-fits d (t, h) k =
    subst (λ (e : PlainDatum). (codecs.datum 1000).fits e ≡ true) h.1 (stripped-fits 1000 t h.0.0.0 h.0 (subst DatumFits (sym h.1) k))

pub whole-tree-fits : (t : Tree) → SpelledTree t → TreeFits t → (tree 1000).fits t ≡ true
whole-tree-fits t h k = tree-fits 1000 t h.0.0 h k
