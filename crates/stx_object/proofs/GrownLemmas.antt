-- Trees that grow from data.
use Rattle.std.proofs.Common.{◌≡◌, ℕ, zero, suc, ◌+◌, ◌<◌, ◌≤◌, List, [], ◌∷◌, Option, None, Some, map, take, drop, length, get_or, true, refl, sym, ap, ◌∙◌, subst, arith, drop-cons}
use Rattle.std.specs.Prelude.{IsTrue, ◌&&◌}
use Rattle.base_data.specs.declared.atom.Atom.TheVariants.{Nil, Bool as Boolean, Int, Spelt, Char, Str, Bytes}
use Rattle.base_data.specs.declared.span.Span.{Span}
use Rattle.base_data.specs.Datum.{PlainDatum, datum_size, listed}
use Rattle.base_data.specs.Datum as datum
use Rattle.base_data.specs.DatumView.{is_some_list}
use Rattle.stx_tree.specs.Context.{LeafContext}
use Rattle.stx_tree.specs.Tree.{Tree, pair, vector, nil, chain, spanned}
use Rattle.stx_tree.specs.Measures.{Fits}
use Rattle.stx_tree.specs.Leaves.{tree_of}
use Rattle.stx_tree.proofs.MeasureLaws.{pair_fits, height-spanned, size-spanned}
use Rattle.stx_object.specs.Kept.{IsRest}
use Rattle.stx_object.specs.Leaves.{sample_context, span_by, grown_tree}
use Rattle.stx_object.specs.declared.leaves.Sample.{Sample}
use Rattle.stx_object.specs.declared.leaves.Spans.{Spans}
use Rattle.stx_object.specs.declared.leaves.Spans.TheVariants as spans

pub datum_size-some : (d : PlainDatum) → 1 ≤ datum_size d
datum_size-some (datum.atom s a) = omega arith
datum_size-some (datum.symbol s x) = omega arith
datum_size-some (datum.pair s d e) = omega arith
datum_size-some (datum.vector s d) = omega arith

pub end_smaller : (ds : List PlainDatum) (t : PlainDatum) → 0 < length ds → datum_size t + 1 ≤ datum_size (datum.chain ds t)
end_smaller [] t l = absurd (omega arith)
end_smaller (d ∷ []) t l = omega arith
end_smaller (d ∷ (e ∷ es)) t l = omega (arith, end_smaller (e ∷ es) t (omega arith))

pub elements_smaller : (ds : List PlainDatum) (t : PlainDatum) → datum_size (datum.chain ds datum.nil) ≤ datum_size (datum.chain ds t)
elements_smaller [] t = datum_size-some t
elements_smaller (d ∷ ds) t = omega (arith, elements_smaller ds t)

pub element_smaller : (ds : List PlainDatum) (k : ℕ) (d : PlainDatum) → k < length ds → datum_size (get_or ds k d) + 2 ≤ datum_size (datum.chain ds datum.nil)
element_smaller [] k d l = absurd (omega arith)
element_smaller (e ∷ es) zero d l = omega (arith, datum_size-some (datum.chain es datum.nil))
element_smaller (e ∷ es) (suc k) d l = omega (arith, element_smaller es k d (omega arith))

tree_of-spanned : (c : LeafContext) (s : Option Span) (d : PlainDatum) → tree_of c (datum.spanned s d) ≡ spanned s (tree_of c d)
tree_of-spanned c s (datum.atom _ a) = refl
tree_of-spanned c s (datum.symbol _ x) = refl
tree_of-spanned c s (datum.pair _ d e) = refl
tree_of-spanned c s (datum.vector _ d) = refl

unspanned-spanned : (s : Option Span) (d : PlainDatum) → datum.unspanned (datum.spanned s d) ≡ datum.unspanned d
unspanned-spanned s (datum.atom _ a) = refl
unspanned-spanned s (datum.symbol _ x) = refl
unspanned-spanned s (datum.pair _ d e) = refl
unspanned-spanned s (datum.vector _ d) = refl

grown-chain : (b : Spans) (s : Sample) (ds : List PlainDatum) (t : PlainDatum) → grown_tree b s (datum.chain ds t) ≡ chain (map (grown_tree b s) ds) (grown_tree b s t)
grown-chain spans.Keep s [] t = refl
grown-chain spans.Keep s (d ∷ ds) t = ap (pair None (grown_tree spans.Keep s d)) (grown-chain spans.Keep s ds t)
grown-chain spans.Leave s [] t = refl
grown-chain spans.Leave s (d ∷ ds) t = ap (pair None (grown_tree spans.Leave s d)) (grown-chain spans.Leave s ds t)

bare_some : (xs : List Tree) (t : Tree) → 0 < length xs → chain xs t ≡ spanned None (chain xs t)
bare_some [] t l = absurd (omega arith)
bare_some (x ∷ xs) t l = refl

some_data : (b : Spans) (s : Sample) (ds : List PlainDatum) → is_some_list ds ≡ true → 0 < length (map (grown_tree b s) ds)
some_data b s [] h = absurd (cc)
some_data b s (d ∷ ds) h = omega arith

pub grown-list : (b : Spans) (s : Sample) (p : Option Span) (ds : List PlainDatum) (t : PlainDatum) → is_some_list ds ≡ true
    → grown_tree b s (listed p ds t) ≡ spanned (span_by b p) (chain (map (grown_tree b s) ds) (grown_tree b s t))
grown-list spans.Keep s p ds t h =
    tree_of-spanned (sample_context s) p (datum.chain ds t) ∙ ap (spanned p) (grown-chain spans.Keep s ds t)
grown-list spans.Leave s p ds t h =
    ap (tree_of (sample_context s)) (unspanned-spanned p (datum.chain ds t)) ∙ grown-chain spans.Leave s ds t
    ∙ bare_some (map (grown_tree spans.Leave s) ds) (grown_tree spans.Leave s t) (some_data spans.Leave s ds h)

pub grown-vector : (b : Spans) (s : Sample) (p : Option Span) (ds : List PlainDatum) → grown_tree b s (datum.vector p (datum.chain ds datum.nil)) ≡ vector (span_by b p) (chain (map (grown_tree b s) ds) nil)
grown-vector spans.Keep s p ds = ap (vector p) (grown-chain spans.Keep s ds datum.nil)
grown-vector spans.Leave s p ds = ap (vector None) (grown-chain spans.Leave s ds datum.nil)

pub some_proper : (ds : List PlainDatum) (t : PlainDatum) → IsTrue (is_some_list ds && datum.is_tail t) → is_some_list ds ≡ true
some_proper [] t h = cc
some_proper (d ∷ ds) t h = refl

-- a root's span is of no weight
pub bare_fits : (s : Option Span) (t u : Tree) → u ≡ spanned s t → Fits u → Fits t
bare_fits s t u e h =
    let g : Fits (spanned s t) = subst Fits e h in
    (rw (← height-spanned s t) g.0, rw (← size-spanned s t) g.1)

pub vector_fits : (s : Option Span) (t u : Tree) → u ≡ vector s t → Fits u → Fits t
vector_fits s t u e h = subst Fits e h

element_fits : (f : PlainDatum → Tree) (ds : List PlainDatum) (k : ℕ) (d : PlainDatum) (t : Tree) → k < length ds → Fits (chain (map f ds) t) → Fits (f (get_or ds k d))
element_fits f [] k d t l h = absurd (omega arith)
element_fits f (e ∷ es) zero d t l h = (pair_fits None (f e) (chain (map f es) t) h).0
element_fits f (e ∷ es) (suc k) d t l h = element_fits f es k d t (omega arith) (pair_fits None (f e) (chain (map f es) t) h).1

pub datum_fits : (f : PlainDatum → Tree) (ds : List PlainDatum) (k : ℕ) (d : PlainDatum) (t : Tree) → k < length ds → d ≡ get_or ds k d → Fits (chain (map f ds) t) → Fits (f d)
datum_fits f ds k d t l e h = subst (λ x. Fits (f x)) (sym e) (element_fits f ds k d t l h)

pub later_data : (f : PlainDatum → Tree) (ds : List PlainDatum) (k : ℕ) (t : Tree) → Fits (chain (map f ds) t) → Fits (chain (map f (drop k ds)) t)
later_data f [] zero t h = h
later_data f [] (suc k) t h = h
later_data f (e ∷ es) zero t h = h
later_data f (e ∷ es) (suc k) t h = later_data f es k t (pair_fits None (f e) (chain (map f es) t) h).1

pub later_smaller : (ds : List PlainDatum) (t : PlainDatum) → 0 < length ds → datum_size (datum.chain (drop 1 ds) datum.nil) + 2 ≤ datum_size (datum.chain ds t)
later_smaller [] t l = absurd (omega arith)
later_smaller (d ∷ ds) t l = omega (arith, elements_smaller ds t, datum_size-some d)

take_smaller : (n : ℕ) (ds : List PlainDatum) → datum_size (datum.chain (take n ds) datum.nil) ≤ datum_size (datum.chain ds datum.nil)
take_smaller zero ds = datum_size-some (datum.chain ds datum.nil)
take_smaller (suc n) [] = omega arith
take_smaller (suc n) (d ∷ ds) = omega (arith, take_smaller n ds)

pub part_smaller : (n : ℕ) (ds : List PlainDatum) (t : PlainDatum) → 0 < length ds → datum_size (datum.chain (take n (drop 1 ds)) datum.nil) + 2 ≤ datum_size (datum.chain ds t)
part_smaller n ds t l = omega (arith, take_smaller n (drop 1 ds), later_smaller ds t l)

tail_rest : (c : LeafContext) (d : PlainDatum) → datum.is_tail d ≡ true → IsRest (tree_of c d)
tail_rest c (datum.atom None Nil) h = refl
tail_rest c (datum.atom (Some s) Nil) h = absurd (cc)
tail_rest c (datum.atom s (Boolean _)) h = refl
tail_rest c (datum.atom s (Int _)) h = refl
tail_rest c (datum.atom s (Spelt _)) h = refl
tail_rest c (datum.atom s (Char _)) h = refl
tail_rest c (datum.atom s (Str _)) h = refl
tail_rest c (datum.atom s (Bytes _)) h = refl
tail_rest c (datum.symbol s x) h = refl
tail_rest c (datum.pair s d e) h = absurd (cc)
tail_rest c (datum.vector s d) h = refl

bare_rest : (c : LeafContext) (d : PlainDatum) → datum.is_tail d ≡ true → IsRest (tree_of c (datum.unspanned d))
bare_rest c (datum.atom s Nil) h = refl
bare_rest c (datum.atom s (Boolean _)) h = refl
bare_rest c (datum.atom s (Int _)) h = refl
bare_rest c (datum.atom s (Spelt _)) h = refl
bare_rest c (datum.atom s (Char _)) h = refl
bare_rest c (datum.atom s (Str _)) h = refl
bare_rest c (datum.atom s (Bytes _)) h = refl
bare_rest c (datum.symbol s x) h = refl
bare_rest c (datum.pair s d e) h = absurd (cc)
bare_rest c (datum.vector s d) h = refl

-- one more element from the end
pub grown_more : (f : PlainDatum → Tree) (ds : List PlainDatum) (k : ℕ) (d : PlainDatum) (x u t : Tree) → k < length ds → d ≡ get_or ds k d → x ≡ f d
    → u ≡ chain (map f (drop (suc k) ds)) t → pair None x u ≡ chain (map f (drop k ds)) t
grown_more f ds k d x u t l e g h =
    ap (λ y. pair None y u) (g ∙ ap f e) ∙ ap (pair None (f (get_or ds k d))) h ∙ ap (λ ys. chain (map f ys) t) (sym (drop-cons ds k d l))

pub more_fits : (f : PlainDatum → Tree) (ds : List PlainDatum) (k : ℕ) (d : PlainDatum) (x u t : Tree) → k < length ds → d ≡ get_or ds k d → x ≡ f d
    → u ≡ chain (map f (drop (suc k) ds)) t → Fits (chain (map f ds) t) → Fits (pair None x u)
more_fits f ds k d x u t l e g h fits = subst Fits (sym (grown_more f ds k d x u t l e g h)) (later_data f ds k t fits)

-- what ends a datum is no list with a span
pub grown_rest : (b : Spans) (s : Sample) (d : PlainDatum) → datum.is_tail d ≡ true → IsRest (grown_tree b s d)
grown_rest spans.Keep s d h = tail_rest (sample_context s) d h
grown_rest spans.Leave s d h = bare_rest (sample_context s) d h

pub list_node : (b : Spans) (s : Sample) (p q : Option Span) (ds es : List PlainDatum) (t u d : PlainDatum) → es ≡ ds → u ≡ t → q ≡ span_by b p → IsTrue (is_some_list ds && datum.is_tail t) → listed p ds t ≡ d
    → grown_tree b s d ≡ spanned q (chain (map (grown_tree b s) es) (grown_tree b s u))
list_node b s p q ds es t u d e f g h i =
    let grown = grown_tree b s in
    ap grown (sym i) ∙ grown-list b s p ds t (some_proper ds t h) ∙ ap (λ r. spanned r (chain (map grown ds) (grown t))) (sym g)
    ∙ ap (λ xs. spanned q (chain (map grown xs) (grown t))) (sym e) ∙ ap (λ v. spanned q (chain (map grown es) (grown v))) (sym f)

pub vector_node : (b : Spans) (s : Sample) (p q : Option Span) (ds es : List PlainDatum) (d : PlainDatum) → es ≡ ds → q ≡ span_by b p → datum.vector p (datum.chain ds datum.nil) ≡ d
    → grown_tree b s d ≡ vector q (chain (map (grown_tree b s) es) nil)
vector_node b s p q ds es d e g i =
    let grown = grown_tree b s in
    ap grown (sym i) ∙ grown-vector b s p ds ∙ ap (λ r. vector r (chain (map grown ds) nil)) (sym g) ∙ ap (λ xs. vector q (chain (map grown xs) nil)) (sym e)

-- the empty list behind the last element
pub nil_end : (b : Spans) (s : Sample) (t : PlainDatum) → IsTrue (datum.is_tail t) → datum.is_nil t ≡ true → nil ≡ grown_tree b s t
nil_end spans.Keep s (datum.atom None Nil) h n = refl
nil_end spans.Leave s (datum.atom None Nil) h n = refl
nil_end b s (datum.atom (Some p) Nil) h n = absurd (cc)
nil_end b s (datum.atom p (Boolean x)) h n = absurd (cc)
nil_end b s (datum.atom p (Int x)) h n = absurd (cc)
nil_end b s (datum.atom p (Spelt x)) h n = absurd (cc)
nil_end b s (datum.atom p (Char x)) h n = absurd (cc)
nil_end b s (datum.atom p (Str x)) h n = absurd (cc)
nil_end b s (datum.atom p (Bytes x)) h n = absurd (cc)
nil_end b s (datum.symbol p x) h n = absurd (cc)
nil_end b s (datum.pair p d e) h n = absurd (cc)
nil_end b s (datum.vector p d) h n = absurd (cc)
