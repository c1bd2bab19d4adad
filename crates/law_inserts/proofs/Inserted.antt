-- What a template of `quasisyntax` comes to is what its cases say.
use Rattle.std.proofs.Common.{◌≡◌, ℕ, zero, suc, ◌-◌, Bool, true, false, List, [], ◌∷◌, ◌++◌, length, take, drop, map, Option, None, Some, Result, Ok, Err, refl, ap, sym, ◌∙◌, subst, arith, append-nil, append_assoc, if◌then◌else◌}
use Rattle.std.specs.Prelude.{◌||◌, ◌&&◌, is_some}
use Rattle.base_data.specs.Elements.{Each}
use Rattle.base_data.specs.Gives.{◌>>=◌}
use Rattle.base_data.specs.declared.fault.Bare.{Bare}
use Rattle.base_data.specs.declared.span.Span.{Span}
use Rattle.stx_tree.specs.Measures.{fits, within, too_deep}
use Rattle.stx_tree.specs.Tree.{Tree, atom, leaf, pair, vector, nil, chain, span_of, spanned, unspanned, is_list, rest_of, list_of, vector_of}
use Rattle.stx_tree.proofs.TreeLaws.{unspanned-spanned, chain-append}
use Rattle.core_shapes.specs.Lists.{is_nil, elements, tail_of, if_some}
use Rattle.law_shapes.specs.Grammar.{IsList}
use Rattle.law_shapes.specs.Grammar as g
use Rattle.law_shapes.proofs.Sound.{some-is, a-list}
use Rattle.law_shapes.proofs.Complete.{list-elements, list-ends}
use Rattle.core_quasi.specs.Words.{inner, reach, counts}
use Rattle.core_quasi.specs.Parts.{rest_at, splits, taken_by, behind_head, first_word, operand_of}
use Rattle.core_quasi.specs.Quasi.{at_form}
use Rattle.core_quasi.specs.QuasiSyntax.{Looked, Inserts, then_insert, insert_leaf, insert, leaves, spliced, no_trees, with_part, unchanged, rebuilt, list_joined, vector_joined, joined, ElementInserts, step_by, step, walked, operand_or_bad, begun_by, Tail, finished, flat, split_tail, escapes, list_made, vector_made, syntax_at, tail_made, element, answer}
use Rattle.core_quasi.specs.declared.quasi_syntax.Insert.{Insert}
use Rattle.core_quasi.specs.declared.quasi_syntax.QuasiPart.{QuasiPart}
use Rattle.core_quasi.specs.declared.quasi_syntax.QuasiSyntax.{QuasiSyntax}
use Rattle.core_quasi.specs.declared.quasi_syntax.QuasiRow.{QuasiRow}
use Rattle.core_quasi.specs.declared.word.Reach.{Reach}
use Rattle.core_quasi.specs.declared.word.Reach.TheVariants as reached
use Rattle.core_quasi.specs.declared.word.QuasiWord.{QuasiWord}
use Rattle.core_quasi.specs.declared.word.QuasiWord.TheVariants as word
use Rattle.core_quasi.proofs.InsertLevels.{elements_are, tail_is, forms_are}
use Rattle.law_quasi.specs.Filled.{level_behind, only}
use Rattle.law_quasi.specs.Filled as report
use Rattle.law_quasi.proofs.Puts.{map_joined}
use Rattle.law_quasi.proofs.Same.{tail_words}
use Rattle.law_quasi.proofs.Tails.{has_tail, cut, IsTail, cut_is, tail_no_tail, cut_length, splits_is, elements_at, tail_at}
use Rattle.law_quasi.proofs.Walked.{is_tail}
use Rattle.law_inserts.specs.Inserted.{one_insert, all_inserts, leaves_of, splices_of, levels, IsPlainHead, IsInserted, IsRest, AreVectorElements, IsElement, IsKeptElement, HoldsLists, InsertsAreTold}
use Rattle.law_inserts.specs.Inserted as r

-- Trees without spans.

chain-is : (ts : List Tree) (t : Tree) → unspanned (chain ts t) ≡ chain (map unspanned ts) (unspanned t)
chain-is [] t = refl
chain-is (x ∷ xs) t = ap (pair None (unspanned x)) (chain-is xs t)

rest-is : (t : Tree) → unspanned (rest_of t) ≡ unspanned t
rest-is t = by (is_list t)
  where
    by : (b : Bool) → unspanned (if b then spanned None t else t) ≡ unspanned t
    by true = unspanned-spanned None t
    by false = refl

list-is : (ts : List Tree) (t : Tree) → unspanned (list_of ts (Some t)) ≡ chain (map unspanned ts) (unspanned t)
list-is [] t = refl
list-is (x ∷ xs) t = chain-is (x ∷ xs) (rest_of t) ∙ ap (chain (map unspanned (x ∷ xs))) (rest-is t)

list-without : {xs : List Tree} {t : Tree} → IsList xs t → unspanned t ≡ chain (map unspanned xs) nil
list-without g.end = refl
list-without (g.next {x = x} l) = ap (pair None (unspanned x)) (list-without l)

parts-without : (k : ℕ) (d : Tree) → unspanned d ≡ chain (map unspanned (take k (elements d))) (unspanned (rest_at k d))
parts-without zero d = refl
parts-without (suc k) (atom s a) = refl
parts-without (suc k) (leaf s x c) = refl
parts-without (suc k) (pair s a d) = ap (pair None (unspanned a)) (parts-without k d)
parts-without (suc k) (vector s d) = refl

all-without : (d : Tree) → unspanned d ≡ chain (map unspanned (elements d)) (unspanned (tail_of d))
all-without (atom s a) = refl
all-without (leaf s x c) = refl
all-without (pair s a d) = ap (pair None (unspanned a)) (all-without d)
all-without (vector s d) = refl

-- Lists.

operand-list : (t : Tree) (b : Bool) (xs : List Tree) (a e : Tree) → is_nil (tail_of t) ≡ b → elements t ≡ a ∷ xs → operand_of b (a ∷ xs) ≡ Some e → IsList (a ∷ (e ∷ [])) t
operand-list t true [] a e n k h = absurd (cc)
operand-list t true (y ∷ []) a e n k h = subst (λ z. IsList (a ∷ (z ∷ [])) t) (some-is y e h) (subst (λ ys. IsList ys t) k (a-list t n))
operand-list t true (y ∷ (z ∷ zs)) a e n k h = absurd (cc)
operand-list t false xs a e n k h = absurd (cc)

neither : (a b : Bool) → (a || b) ≡ false → (a ≡ false) × (b ≡ false)
neither true b h = absurd (cc)
neither false b h = (refl, h)

neither-if : (a b : Bool) → (if a then true else b) ≡ false → (a ≡ false) × (b ≡ false)
neither-if true b h = absurd (cc)
neither-if false b h = (refl, h)

each-take : (P : Tree → Type 0) (k : ℕ) (ts : List Tree) → Each P ts → Each P (take k ts)
each-take P zero ts h = tt
each-take P (suc k) [] h = tt
each-take P (suc k) (t ∷ ts) h = (h.0, each-take P k ts h.1)

each-drop : (P : Tree → Type 0) (k : ℕ) (ts : List Tree) → Each P ts → Each P (drop k ts)
each-drop P zero ts h = h
each-drop P (suc k) [] h = tt
each-drop P (suc k) (t ∷ ts) h = each-drop P k ts h.1

-- Words and levels.

inner-is : (x : QuasiWord) (n : ℕ) → inner x n ≡ level_behind x n
inner-is word.Raise n = refl
inner-is word.Lower zero = refl
inner-is word.Lower (suc n) = omega arith
inner-is word.Splice zero = refl
inner-is word.Splice (suc n) = omega arith
inner-is word.Escape n = refl
inner-is word.Plain n = refl

plain-head : (x : QuasiWord) (n : ℕ) → reach x n ≡ reached.Elements → IsPlainHead n x
plain-head word.Raise zero h = ((λ e. absurd (cc)), (λ e. absurd (cc)))
plain-head word.Lower zero h = absurd (cc)
plain-head word.Splice zero h = absurd (cc)
plain-head word.Escape zero h = ((λ e. absurd (cc)), (λ e. absurd (cc)))
plain-head word.Plain zero h = ((λ e. absurd (cc)), (λ e. absurd (cc)))
plain-head x (suc n) h = tt

operand-head : (x : QuasiWord) (n : ℕ) → reach x n ≡ reached.Operand → (x ≡ word.Lower) × (n ≡ 0)
operand-head word.Raise zero h = absurd (cc)
operand-head word.Lower zero h = (refl, refl)
operand-head word.Splice zero h = absurd (cc)
operand-head word.Escape zero h = absurd (cc)
operand-head word.Plain zero h = absurd (cc)
operand-head word.Raise (suc n) h = absurd (cc)
operand-head word.Lower (suc n) h = absurd (cc)
operand-head word.Splice (suc n) h = absurd (cc)
operand-head word.Escape (suc n) h = absurd (cc)
operand-head word.Plain (suc n) h = absurd (cc)

-- Inserts.

leaves-are : (ts es : List Tree) (is : List Insert) → map unspanned (leaves ts es is).0 ≡ map unspanned ts ++ leaves_of es is
leaves-are ts [] is = sym (append-nil (map unspanned ts))
leaves-are ts (e ∷ es) is =
    leaves-are (ts ++ insert_leaf (length is) ∷ []) es (is ++ insert 0 e is ∷ [])
    ∙ ap (λ us. us ++ leaves_of es (one_insert 0 e is)) (map_joined unspanned ts (insert_leaf (length is) ∷ []))
    ∙ append_assoc (map unspanned ts) (insert_leaf (length is) ∷ []) (leaves_of es (one_insert 0 e is))

leaves-inserts : (ts es : List Tree) (is : List Insert) → (leaves ts es is).1 ≡ all_inserts 0 es is
leaves-inserts ts [] is = refl
leaves-inserts ts (e ∷ es) is = leaves-inserts (ts ++ insert_leaf (length is) ∷ []) es (is ++ insert 0 e is ∷ [])

splices-are : (dots : Tree) (ts es : List Tree) (is : List Insert) → map unspanned (spliced dots ts es is).0 ≡ map unspanned ts ++ splices_of (unspanned dots) es is
splices-are dots ts [] is = sym (append-nil (map unspanned ts))
splices-are dots ts (e ∷ es) is =
    let l = insert_leaf (length is) in
    splices-are dots ((ts ++ l ∷ []) ++ dots ∷ []) es (is ++ insert 1 e is ∷ [])
    ∙ ap (λ us. us ++ splices_of (unspanned dots) es (one_insert 1 e is)) (map_joined unspanned (ts ++ l ∷ []) (dots ∷ []) ∙ ap (λ us. us ++ unspanned dots ∷ []) (map_joined unspanned ts (l ∷ [])))
    ∙ append_assoc (map unspanned ts ++ l ∷ []) (unspanned dots ∷ []) (splices_of (unspanned dots) es (one_insert 1 e is))
    ∙ append_assoc (map unspanned ts) (l ∷ []) (unspanned dots ∷ splices_of (unspanned dots) es (one_insert 1 e is))

splices-inserts : (dots : Tree) (ts es : List Tree) (is : List Insert) → (spliced dots ts es is).1 ≡ all_inserts 1 es is
splices-inserts dots ts [] is = refl
splices-inserts dots ts (e ∷ es) is = splices-inserts dots ((ts ++ insert_leaf (length is) ∷ []) ++ dots ∷ []) es (is ++ insert 1 e is ∷ [])

-- what is given with the inserts so far
abbrev Tells : {A : Type 0} → (A → List Insert → Type 0) → Result (A × List Insert) Bare → Type 0
Tells P (Ok p) = P p.0 p.1
Tells P (Err f) = Unit {0}

then-tells : {A B : Type 0} (P : A → List Insert → Type 0) (Q : B → List Insert → Type 0) (x : Result (A × List Insert) Bare) (k : A → Inserts B) → Tells P x → ((a : A) (is : List Insert) → P a is → Tells Q (k a is)) → Tells Q (then_insert x k)
then-tells P Q (Ok p) k h next = next p.0 p.1 h
then-tells P Q (Err f) k h next = tt

weaker : {A : Type 0} (P Q : A → List Insert → Type 0) (x : Result (A × List Insert) Bare) → Tells P x → ((a : A) (is : List Insert) → P a is → Q a is) → Tells Q x
weaker P Q (Ok p) h k = k p.0 p.1 h
weaker P Q (Err f) h k = tt

within-tells : (Q : QuasiPart → List Insert → Type 0) (t u : Tree) (is : List Insert) → Q (record { changed = true; tree = spanned (span_of t) u }) is → Tells Q (joined (rebuilt t (within u)) is)
unfolding within
within-tells Q t u is h = by (fits u)
  where
    by : (b : Bool) → Tells Q (joined (rebuilt t (if b then Ok u else Err too_deep)) is)
    by true = h
    by false = tt

module _ (w : Looked) where
  take-are : (k : ℕ) (ts : List Tree) → take k (map (element w) ts) ≡ map (element w) (take k ts)
  take-are zero ts = refl
  take-are (suc k) [] = refl
  take-are (suc k) (t ∷ ts) = ap (λ (xs : List ElementInserts). element w t ∷ xs) (take-are k ts)

  drop-are : (k : ℕ) (ts : List Tree) → drop k (map (element w) ts) ≡ map (element w) (drop k ts)
  drop-are zero ts = refl
  drop-are (suc k) [] = refl
  drop-are (suc k) (t ∷ ts) = drop-are k ts

  length-are : (ts : List Tree) → length (map (element w) ts) ≡ length ts
  length-are [] = refl
  length-are (t ∷ ts) = ap suc (length-are ts)

  record Comes (n : ℕ) (is : List Insert) (t : Tree) (p : QuasiPart) (js : List Insert) : Type 0 where
    pub is_so : IsInserted w n is t (unspanned p.tree) js
    pub kept : p.changed ≡ false → p.tree ≡ t

  abbrev Told : Tree → Type 0
  Told t = (n : ℕ) (is : List Insert) → Tells (Comes n is t) (syntax_at w t n is)

  -- Elements.

  record Step (m : ℕ) (is : List Insert) (t : Tree) (row : QuasiRow) (q : QuasiRow) (js : List Insert) : Type 0 where
    pub us : List Tree
    pub is_so : IsElement w m is t us js
    pub trees : map unspanned q.trees ≡ map unspanned row.trees ++ us
    pub kept : q.changed ≡ false → (row.changed ≡ false) × (q.trees ≡ row.trees ++ t ∷ [])

  kept-told : (m : ℕ) (is : List Insert) (t : Tree) (row : QuasiRow) → Told t → IsKeptElement w m t → Tells (Step m is t row) (then_insert (syntax_at w t m is) (λ p js. Ok (with_part row p, js)))
  kept-told m is t row told k = then-tells (Comes m is t) (Step m is t row) (syntax_at w t m is) (λ p js. Ok (with_part row p, js)) (told m is)
      (λ p js c. record {
        us = unspanned p.tree ∷ [];
        is_so = r.itself k c.is_so;
        trees = map_joined unspanned row.trees (p.tree ∷ []);
        kept = λ h. let b = neither row.changed p.changed h in (b.0, ap (λ u. row.trees ++ u ∷ []) (c.kept b.1));
      })

  module _ (s : Option Span) (h d : Tree) (is : List Insert) (row : QuasiRow) (told : Told (pair s h d)) where
    no-form : ((es : List Tree) → IsList es d → IsPlainHead 0 (w.words h)) → IsKeptElement w 0 (pair s h d)
    no-form k = r.no_form (λ x es l. by x es l)
      where
        by : (x : Tree) (es : List Tree) → IsList (x ∷ es) (pair s h d) → IsPlainHead 0 (w.words x)
        by _ es (g.next l) = k es l

    other : (x : QuasiWord) → w.words h ≡ x → IsPlainHead 0 x → IsKeptElement w 0 (pair s h d)
    other x e k = no-form (λ es l. ((λ i. k.0 (sym e ∙ i)), (λ i. k.1 (sym e ∙ i))))

    improper : is_nil (tail_of d) ≡ false → IsKeptElement w 0 (pair s h d)
    improper e = no-form (λ es l. let f = sym e ∙ list-ends l in absurd (cc))

    form-told : (x : QuasiWord) (b : Bool) → w.words h ≡ x → is_nil (tail_of d) ≡ b
        → Tells (Step 0 is (pair s h d) row) (step_by w 0 (element w (pair s h d)) row (taken_by x (if_some (if b then Some (h ∷ elements d) else None) behind_head)) is)
    form-told word.Lower true e n = record {
      us = leaves_of (elements d) is;
      is_so = subst (λ js. IsElement w 0 is (pair s h d) (leaves_of (elements d) is) js) (sym (leaves-inserts row.trees (elements d) is)) (r.each e (g.next (a-list d n)));
      trees = leaves-are row.trees (elements d) is;
      kept = λ h. absurd (cc);
    }
    form-told word.Splice true e n = record {
      us = splices_of (unspanned w.dots) (elements d) is;
      is_so = subst (λ js. IsElement w 0 is (pair s h d) (splices_of (unspanned w.dots) (elements d) is) js) (sym (splices-inserts w.dots row.trees (elements d) is)) (r.spliced e (g.next (a-list d n)));
      trees = splices-are w.dots row.trees (elements d) is;
      kept = λ h. absurd (cc);
    }
    form-told word.Lower false e n = kept-told 0 is (pair s h d) row told (improper n)
    form-told word.Splice false e n = kept-told 0 is (pair s h d) row told (improper n)
    form-told word.Raise b e n = kept-told 0 is (pair s h d) row told (other word.Raise e ((λ i. absurd (cc)), (λ i. absurd (cc))))
    form-told word.Escape b e n = kept-told 0 is (pair s h d) row told (other word.Escape e ((λ i. absurd (cc)), (λ i. absurd (cc))))
    form-told word.Plain b e n = kept-told 0 is (pair s h d) row told (other word.Plain e ((λ i. absurd (cc)), (λ i. absurd (cc))))

  element-told : (m : ℕ) (t : Tree) (is : List Insert) (row : QuasiRow) → Told t → Tells (Step m is t row) (step w m row (element w t) is)
  element-told (suc m) t is row told = kept-told (suc m) is t row told r.further_in
  element-told zero (atom s a) is row told = kept-told 0 is (atom s a) row told (r.no_form (λ h es l. elim l [ ]))
  element-told zero (leaf s x c) is row told = kept-told 0 is (leaf s x c) row told (r.no_form (λ h es l. elim l [ ]))
  element-told zero (pair s h d) is row told = form-told s h d is row told (w.words h) (is_nil (tail_of d)) refl refl
  element-told zero (vector s d) is row told = kept-told 0 is (vector s d) row told (r.no_form (λ h es l. elim l [ ]))

  data Elements (m : ℕ) : List Insert → List Tree → List Tree → List Insert → Type 0 where
    no_more : {is : List Insert} → Elements m is [] [] is
    one_more : {is js ks : List Insert} {t : Tree} {ts us vs : List Tree} → IsElement w m is t us js → Elements m js ts vs ks → Elements m is (t ∷ ts) (us ++ vs) ks

  record Rows (m : ℕ) (is : List Insert) (ts : List Tree) (row : QuasiRow) (q : QuasiRow) (js : List Insert) : Type 0 where
    pub us : List Tree
    pub are : Elements m is ts us js
    pub trees : map unspanned q.trees ≡ map unspanned row.trees ++ us
    pub kept : q.changed ≡ false → (row.changed ≡ false) × (q.trees ≡ row.trees ++ ts)

  walk-told : (ts : List Tree) → Each Told ts → (m : ℕ) (row : QuasiRow) (is : List Insert) → Tells (Rows m is ts row) (walked w m row (map (element w) ts) is)
  walk-told [] h m row is = record { us = []; are = no_more; trees = sym (append-nil (map unspanned row.trees)); kept = λ k. (k, sym (append-nil row.trees)) }
  walk-told (t ∷ ts) h m row is =
      then-tells (Step m is t row) (Rows m is (t ∷ ts) row) (step w m row (element w t) is) (λ q js. walked w m q (map (element w) ts) js) (element-told m t is row h.0)
      (λ q js a. weaker (Rows m js ts q) (Rows m is (t ∷ ts) row) (walked w m q (map (element w) ts) js) (walk-told ts h.1 m q js)
      (λ x ks b. record {
        us = a.us ++ b.us;
        are = one_more a.is_so b.are;
        trees = b.trees ∙ ap (λ v. v ++ b.us) a.trees ∙ append_assoc (map unspanned row.trees) a.us b.us;
        kept = λ k. let i = b.kept k in let j = a.kept i.0 in (j.0, i.1 ∙ ap (λ v. v ++ ts) j.1 ∙ append_assoc row.trees (t ∷ []) ts);
      }))

  -- Lists.

  tail-same : (a d : Tree) → report.is_tail w.words a d ≡ is_tail w.words a d
  tail-same a d = ap (λ b. b && is_some (only d)) (tail_words (w.words a))

  one-more-rest : {n m : ℕ} {is js ks : List Insert} (s : Option Span) (a d u : Tree) {us : List Tree} (vs : List Tree) → is_tail w.words a d ≡ false → IsElement w m is a us js → IsRest w (levels n m) js d (chain vs u) ks → IsRest w (levels n m) is (pair s a d) (chain (us ++ vs) u) ks
  one-more-rest {n} {m} {is} {js} {ks} s a d u {us} vs e i rest = subst (λ x. IsRest w (levels n m) is (pair s a d) x ks) (sym (chain-append us vs u)) (r.another (tail-same a d ∙ e) i rest)

  rest-flat : (d : Tree) {n m : ℕ} {is mid js : List Insert} {us : List Tree} {u : Tree} → has_tail w.words d ≡ false → Elements m is (elements d) us mid → IsInserted w n mid (tail_of d) u js → IsRest w (levels n m) is d (chain us u) js
  rest-flat (atom s a) h no_more i = r.an_end refl i
  rest-flat (leaf s x c) h no_more i = r.an_end refl i
  rest-flat (vector s d) h no_more i = r.an_end refl i
  rest-flat (pair s a d) {u = u} h (one_more {vs = vs} e es) i = let b = neither-if (is_tail w.words a d) (has_tail w.words d) h in one-more-rest s a d u vs b.0 e (rest-flat d b.1 es i)

  rest-split : (d : Tree) {n m : ℕ} {is mid js : List Insert} {us : List Tree} {u : Tree} → has_tail w.words d ≡ true → Elements m is (take (cut w.words d) (elements d)) us mid → IsInserted w n mid (rest_at (cut w.words d) d) u js → IsRest w (levels n m) is d (chain us u) js
  rest-split (atom s a) h es i = absurd (cc)
  rest-split (leaf s x c) h es i = absurd (cc)
  rest-split (vector s d) h es i = absurd (cc)
  rest-split (pair s a d) {n} {m} {is} {mid} {js} {us} {u} h es i = by (is_tail w.words a d) is mid us refl h es i (λ is us k es i. rest-split d k es i)
    where
      by : (b : Bool) (is mid : List Insert) (us : List Tree) → is_tail w.words a d ≡ b → (if b then true else has_tail w.words d) ≡ true → Elements m is (take (if b then 0 else suc (cut w.words d)) (a ∷ elements d)) us mid → IsInserted w n mid (rest_at (if b then 0 else suc (cut w.words d)) (pair s a d)) u js
          → ((is : List Insert) (us : List Tree) → has_tail w.words d ≡ true → Elements m is (take (cut w.words d) (elements d)) us mid → IsInserted w n mid (rest_at (cut w.words d) d) u js → IsRest w (levels n m) is d (chain us u) js)
          → IsRest w (levels n m) is (pair s a d) (chain us u) js
      by true is _ _ e k no_more i rest = r.a_tail (tail-same a d ∙ e) i
      by false is mid _ e k (one_more {js = js} {us = us} {vs = vs} x xs) i rest = one-more-rest s a d u vs e x (rest js vs k xs i)

  -- what the first element and the rest give
  whole-list : {n : ℕ} {is mid ks : List Insert} (s : Option Span) (a d u : Tree) (ts us : List Tree) → IsPlainHead n (w.words a) → ((e : Tree) → w.words a ≡ word.Escape → IsList (e ∷ []) d → ⊥)
      → Elements (level_behind (w.words a) n) is (a ∷ ts) us mid → ((js : List Insert) (vs : List Tree) → Elements (level_behind (w.words a) n) js ts vs mid → IsRest w (levels n (level_behind (w.words a) n)) js d (chain vs u) ks)
      → IsInserted w n is (pair s a d) (chain us u) ks
  whole-list {n} {is} {mid} {ks} s a d u ts _ head esc (one_more {js = js} {us = us} {vs = vs} e es) rest =
      subst (λ x. IsInserted w n is (pair s a d) x ks) (sym (chain-append us vs u)) (r.a_list head esc e (rest js vs es))

  module _ (n : ℕ) (t rest : Tree) (a : Tree) (ts : List Tree) (form : unspanned t ≡ chain (map unspanned (a ∷ ts)) (unspanned rest)) where
    abbrev level : ℕ
    level = level_behind (w.words a) n

    abbrev Whole : Type 0
    Whole = (is mid js : List Insert) (us : List Tree) (u : Tree) → IsPlainHead n (w.words a) → Elements level is (a ∷ ts) us mid → IsInserted w n mid rest u js → IsInserted w n is t (chain us u) js

    join-told : (is mid js : List Insert) (q : QuasiRow) (p : QuasiPart) → Whole → IsPlainHead n (w.words a) → Rows level is (a ∷ ts) no_trees q mid → Comes n mid rest p js → Tells (Comes n is t) (joined (list_joined t q p) js)
    join-told is mid js q p whole head rows c = by (q.changed || p.changed) refl
      where
        by : (b : Bool) → (q.changed || p.changed) ≡ b → Tells (Comes n is t) (joined (if b then rebuilt t (within (list_of q.trees (Some p.tree))) else Ok (unchanged t)) js)
        by true e = within-tells (Comes n is t) t (list_of q.trees (Some p.tree)) js (record {
          is_so = subst (λ x. IsInserted w n is t x js) (sym (unspanned-spanned (span_of t) (list_of q.trees (Some p.tree)) ∙ list-is q.trees p.tree ∙ ap (λ v. chain v (unspanned p.tree)) rows.trees)) (whole is mid js rows.us (unspanned p.tree) head rows.are c.is_so);
          kept = λ h. absurd (cc);
        })
        by false e = let b = neither q.changed p.changed e in record {
          is_so = subst (λ x. IsInserted w n is t x js) (sym (form ∙ ap (λ v. chain (map unspanned v) (unspanned rest)) (sym (rows.kept b.0).1) ∙ ap (λ v. chain v (unspanned rest)) rows.trees ∙ ap (λ v. chain rows.us (unspanned v)) (sym (c.kept b.1))))
              (whole is mid js rows.us (unspanned p.tree) head rows.are c.is_so);
          kept = λ h. refl;
        }

    list-told : (tail : Tail) → Each Told (a ∷ ts) → ((is : List Insert) → Tells (Comes n is rest) (tail.made n is)) → Whole → ((e : Tree) → operand_of tail.ends (a ∷ ts) ≡ Some e → IsList (a ∷ (e ∷ [])) t) → (is : List Insert)
        → Tells (Comes n is t) (flat w t (map (element w) (a ∷ ts)) tail n is)
    list-told tail all last whole operand is =
        subst (λ us. Tells (Comes n is t) (then_insert (begun_by (operand_of tail.ends us) (walked w (inner (first_word w.words us) n) no_trees (map (element w) (a ∷ ts))) (reach (first_word w.words us) n) is) (finished t tail n))) (sym (forms_are w (a ∷ ts)))
        (by (reach (w.words a) n) refl)
      where
        one : (o : Option Tree) → operand_of tail.ends (a ∷ ts) ≡ o → reach (w.words a) n ≡ reached.Operand → Tells (Comes n is t) (then_insert (operand_or_bad o is) (finished t tail n))
        one None e k = tt
        one (Some x) e k = let h = operand-head (w.words a) n k in record {
          is_so = subst (λ m. IsInserted w m is t (insert_leaf (length is)) (one_insert 0 x is)) (sym h.1) (r.an_insert h.0 (operand x e));
          kept = λ h. absurd (cc);
        }

        row-told : Tells (Rows level is (a ∷ ts) no_trees) (walked w (inner (w.words a) n) no_trees (map (element w) (a ∷ ts)) is)
        row-told = subst (λ m. Tells (Rows level is (a ∷ ts) no_trees) (walked w m no_trees (map (element w) (a ∷ ts)) is)) (sym (inner-is (w.words a) n)) (walk-told (a ∷ ts) all level no_trees is)

        many : reach (w.words a) n ≡ reached.Elements → (x : Result (QuasiRow × List Insert) Bare) → Tells (Rows level is (a ∷ ts) no_trees) x → Tells (Comes n is t) (then_insert (begun_by (operand_of tail.ends (a ∷ ts)) (λ js. x) reached.Elements is) (finished t tail n))
        many k (Err f) h = tt
        many k (Ok q) h = then-tells (Comes n q.1 rest) (Comes n is t) (tail.made n q.1) (λ p. joined (list_joined t q.0 p)) (last q.1) (λ p js c. join-told is q.1 js q.0 p whole (plain-head (w.words a) n k) h c)

        by : (x : Reach) → reach (w.words a) n ≡ x → Tells (Comes n is t) (then_insert (begun_by (operand_of tail.ends (a ∷ ts)) (walked w (inner (w.words a) n) no_trees (map (element w) (a ∷ ts))) x is) (finished t tail n))
        by reached.Operand k = one (operand_of tail.ends (a ∷ ts)) refl k
        by reached.Refused k = tt
        by reached.Elements k = many k (walked w (inner (w.words a) n) no_trees (map (element w) (a ∷ ts)) is) row-told

  -- a list that is not split
  flat-told : (s : Option Span) (a d : Tree) → ((e : Tree) → w.words a ≡ word.Escape → IsList (e ∷ []) d → ⊥) → has_tail w.words d ≡ false → Each Told (a ∷ elements d) → (tail : Tail) → tail.ends ≡ is_nil (tail_of d) → (n : ℕ) → ((is : List Insert) → Tells (Comes n is (tail_of d)) (tail.made n is)) → (is : List Insert)
      → Tells (Comes n is (pair s a d)) (flat w (pair s a d) (map (element w) (a ∷ elements d)) tail n is)
  flat-told s a d esc h all tail ends n last is =
      list-told n (pair s a d) (tail_of d) a (elements d) (ap (pair None (unspanned a)) (all-without d)) tail all last
      (λ is mid js us u head es i. whole-list s a d u (elements d) us head esc es (λ ks vs xs. rest-flat d h xs i))
      (λ e k. operand-list (pair s a d) (is_nil (tail_of d)) (elements d) a e refl refl (ap (λ b. operand_of b (a ∷ elements d)) (sym ends) ∙ k)) is

  counted : (x : QuasiWord) (b : Bool) → (counts x && b) ≡ true → x ≡ word.Escape → ⊥
  counted word.Raise b h e = absurd (cc)
  counted word.Lower b h e = absurd (cc)
  counted word.Splice b h e = absurd (cc)
  counted word.Escape b h e = absurd (cc)
  counted word.Plain b h e = absurd (cc)

  -- the tail of a list that is split
  tail-told : (d : Tree) → IsTail w.words d → Each Told (elements d) → (tail : Tail) → tail.ends ≡ is_nil (tail_of d) → (n : ℕ) → ((is : List Insert) → Tells (Comes n is (tail_of d)) (tail.made n is)) → (is : List Insert)
      → Tells (Comes n is d) (flat w d (map (element w) (elements d)) tail n is)
  tail-told (atom s a) h all tail ends n last is = absurd h
  tail-told (leaf s x c) h all tail ends n last is = absurd h
  tail-told (vector s d) h all tail ends n last is = absurd h
  tail-told (pair s a d) h all tail ends n last is = flat-told s a d (λ e k l. counted (w.words a) (is_some (only d)) h k) (tail_no_tail w.words a d h) all tail ends n last is

  split-told : (s : Option Span) (a d : Tree) → ((e : Tree) → w.words a ≡ word.Escape → IsList (e ∷ []) d → ⊥) → has_tail w.words d ≡ true → Each Told (a ∷ elements d) → (tail : Tail) → tail.ends ≡ is_nil (tail_of d) → (n : ℕ) → ((is : List Insert) → Tells (Comes n is (tail_of d)) (tail.made n is)) → (is : List Insert)
      → Tells (Comes n is (pair s a d)) (flat w (pair s a d) (map (element w) (a ∷ take (cut w.words d) (elements d))) (record { ends = false; made = flat w (rest_at (cut w.words d) d) (map (element w) (drop (cut w.words d) (elements d))) tail }) n is)
  split-told s a d esc h all tail ends n last is =
      list-told n (pair s a d) (rest_at (cut w.words d) d) a (take (cut w.words d) (elements d)) (ap (pair None (unspanned a)) (parts-without (cut w.words d) d))
      (record { ends = false; made = flat w (rest_at (cut w.words d) d) (map (element w) (drop (cut w.words d) (elements d))) tail }) (all.0, each-take Told (cut w.words d) (elements d) all.1)
      (λ is. subst (λ ys. Tells (Comes n is (rest_at (cut w.words d) d)) (flat w (rest_at (cut w.words d) d) (map (element w) ys) tail n is)) (sym (elements_at (cut w.words d) d))
      (tail-told (rest_at (cut w.words d) d) (cut_is w.words d h) (subst (Each Told) (elements_at (cut w.words d) d) (each-drop Told (cut w.words d) (elements d) all.1)) tail (ends ∙ ap is_nil (tail_at (cut w.words d) d)) n
      (λ is. subst (λ y. Tells (Comes n is y) (tail.made n is)) (tail_at (cut w.words d) d) (last is)) is))
      (λ is mid js us u head es i. whole-list s a d u (take (cut w.words d) (elements d)) us head esc es (λ ks vs xs. rest-split d h xs i))
      (λ e k. absurd (cc)) is

  escape-list : (x : QuasiWord) (t : Tree) (b : Bool) (a : Tree) (ts : List Tree) → is_nil (tail_of t) ≡ b → elements t ≡ a ∷ ts → escapes x b (a ∷ ts) ≡ true → (e : Tree) × ((x ≡ word.Escape) × IsList (a ∷ (e ∷ [])) t)
  escape-list word.Raise t b a ts n k h = absurd (cc)
  escape-list word.Lower t b a ts n k h = absurd (cc)
  escape-list word.Splice t b a ts n k h = absurd (cc)
  escape-list word.Plain t b a ts n k h = absurd (cc)
  escape-list word.Escape t false a ts n k h = absurd (cc)
  escape-list word.Escape t true a [] n k h = absurd (cc)
  escape-list word.Escape t true a (y ∷ (z ∷ zs)) n k h = absurd (cc)
  escape-list word.Escape t true a (y ∷ []) n k h = (y, (refl, subst (λ ys. IsList ys t) k (a-list t n)))

  module _ (s : Option Span) (a d : Tree) (all : Each Told (a ∷ elements d)) (last : (n : ℕ) (is : List Insert) → Tells (Comes n is (tail_of d)) (syntax_at w (tail_of d) n is)) where
    abbrev the-list : Tree
    the-list = pair s a d

    abbrev the-tail : Tail
    the-tail = record { ends = is_nil (tail_of d); made = syntax_at w (tail_of d) }

    not-escaped : escapes (w.words a) (is_nil (tail_of d)) (a ∷ elements d) ≡ false → (e : Tree) → w.words a ≡ word.Escape → IsList (e ∷ []) d → ⊥
    not-escaped h e k l = let f : false ≡ true = sym h ∙ (λ i. escapes (k i) (list-ends l i) (a ∷ list-elements l i)) in absurd (cc)

    pair-told : (n : ℕ) (is : List Insert) → Tells (Comes n is the-list) (list_made w the-list (map (element w) (a ∷ elements d)) the-tail n is)
    pair-told n is =
        subst (λ us. Tells (Comes n is the-list) (if escapes (first_word w.words us) (is_nil (tail_of d)) us then Ok (unchanged the-list, is)
        else if splits w.words (is_nil (tail_of d)) us then flat w the-list (take (length (map (element w) (a ∷ elements d)) - 2) (map (element w) (a ∷ elements d))) (split_tail w the-list (map (element w) (a ∷ elements d)) the-tail) n is
        else flat w the-list (map (element w) (a ∷ elements d)) the-tail n is)) (sym (forms_are w (a ∷ elements d)))
        (by (escapes (w.words a) (is_nil (tail_of d)) (a ∷ elements d)) (splits w.words (is_nil (tail_of d)) (a ∷ elements d)) refl refl)
      where
        by : (b c : Bool) → escapes (w.words a) (is_nil (tail_of d)) (a ∷ elements d) ≡ b → splits w.words (is_nil (tail_of d)) (a ∷ elements d) ≡ c
            → Tells (Comes n is the-list) (if b then Ok (unchanged the-list, is)
            else if c then flat w the-list (take (length (map (element w) (a ∷ elements d)) - 2) (map (element w) (a ∷ elements d))) (split_tail w the-list (map (element w) (a ∷ elements d)) the-tail) n is
            else flat w the-list (map (element w) (a ∷ elements d)) the-tail n is)
        by true c e f = let l = escape-list (w.words a) the-list (is_nil (tail_of d)) a (elements d) refl refl e in record { is_so = r.an_escape l.1.0 l.1.1; kept = λ h. refl }
        by false false e f = flat-told s a d (not-escaped e) (sym (splits_is w.words a d) ∙ f) all the-tail refl n (last n) is
        by false true e f =
            let h : has_tail w.words d ≡ true = sym (splits_is w.words a d) ∙ f in
            let k : length (map (element w) (a ∷ elements d)) - 2 ≡ suc (cut w.words d) = (let l = length-are (a ∷ elements d) in let m = cut_length w.words d h in omega (arith, l, m)) in
            subst (λ i. Tells (Comes n is the-list) (flat w the-list (take i (map (element w) (a ∷ elements d))) (record { ends = false; made = flat w (rest_at i the-list) (drop i (map (element w) (a ∷ elements d))) the-tail }) n is)) (sym k)
            (subst (λ (xs : List ElementInserts). Tells (Comes n is the-list) (flat w the-list (element w a ∷ xs) (record { ends = false; made = flat w (rest_at (cut w.words d) d) (drop (cut w.words d) (map (element w) (elements d))) the-tail }) n is)) (sym (take-are (cut w.words d) (elements d)))
            (subst (λ (xs : List ElementInserts). Tells (Comes n is the-list) (flat w the-list (map (element w) (a ∷ take (cut w.words d) (elements d))) (record { ends = false; made = flat w (rest_at (cut w.words d) d) xs the-tail }) n is)) (sym (drop-are (cut w.words d) (elements d)))
            (split-told s a d (not-escaped e) h all the-tail refl n (last n) is)))

  -- Vectors.

  items-are : {n : ℕ} {is js : List Insert} {ts us : List Tree} {d : Tree} → IsList ts d → Elements n is ts us js → AreVectorElements w n is d (chain us nil) js
  items-are g.end no_more = r.no_item
  items-are {n} {is} {js} (g.next {span = s} {x = x} {rest = d} l) (one_more {us = us} {vs = vs} e es) = subst (λ u. AreVectorElements w n is (pair s x d) u js) (sym (chain-append us vs nil)) (r.an_item e (items-are l es))

  vector-told : (s : Option Span) (d : Tree) → IsList (elements d) d → Each Told (elements d) → (n : ℕ) (is : List Insert) → Tells (Comes n is (vector s d)) (vector_made w (vector s d) (map (element w) (elements d)) n is)
  vector-told s d l all n is =
      then-tells (Rows n is (elements d) no_trees) (Comes n is (vector s d)) (walked w n no_trees (map (element w) (elements d)) is) (λ q. joined (vector_joined (vector s d) q)) (walk-told (elements d) all n no_trees is)
      (λ q js rows. by js q rows q.changed refl)
    where
      by : (js : List Insert) (q : QuasiRow) → Rows n is (elements d) no_trees q js → (b : Bool) → q.changed ≡ b → Tells (Comes n is (vector s d)) (joined (if b then rebuilt (vector s d) (within (vector_of q.trees)) else Ok (unchanged (vector s d))) js)
      by js q rows true e = within-tells (Comes n is (vector s d)) (vector s d) (vector_of q.trees) js (record {
        is_so = subst (λ x. IsInserted w n is (vector s d) (vector None x) js) (sym (chain-is q.trees nil ∙ ap (λ v. chain v nil) rows.trees)) (r.a_vector (items-are l rows.are));
        kept = λ h. absurd (cc);
      })
      by js q rows false e = record {
        is_so = subst (λ x. IsInserted w n is (vector s d) (vector None x) js) (sym (list-without l ∙ ap (λ v. chain (map unspanned v) nil) (sym (rows.kept e).1) ∙ ap (λ v. chain v nil) rows.trees)) (r.a_vector (items-are l rows.are));
        kept = λ h. refl;
      }

  -- Forms.

  atom-told : (t : Tree) (n : ℕ) (is : List Insert) → IsInserted w n is t (unspanned t) is → Comes n is t (unchanged t) is
  atom-told t n is i = record { is_so = i; kept = λ h. refl }

  mutual
    told : (t : Tree) → HoldsLists t → Told t
    told (atom s a) h n is = atom-told (atom s a) n is r.a_datum
    told (leaf s x c) h n is = atom-told (leaf s x c) n is r.an_identifier
    told (pair s a d) h n is =
        subst (λ (xs : List ElementInserts). Tells (Comes n is (pair s a d)) (list_made w (pair s a d) ((a, syntax_at w a) ∷ xs) (record { ends = is_nil (tail_of d); made = tail_made w d }) n is)) (sym (elements_are w d))
        (subst (λ (go : ℕ → Inserts QuasiPart). Tells (Comes n is (pair s a d)) (list_made w (pair s a d) (map (element w) (a ∷ elements d)) (record { ends = is_nil (tail_of d); made = go }) n is)) (sym (tail_is w d))
        (pair-told s a d (told a h.0, all-told d h.1) (tail-told-of d h.1) n is))
    told (vector s d) h n is = subst (λ (xs : List ElementInserts). Tells (Comes n is (vector s d)) (vector_made w (vector s d) xs n is)) (sym (elements_are w d)) (vector-told s d h.0 (all-told d h.1) n is)

    all-told : (t : Tree) → HoldsLists t → Each Told (elements t)
    all-told (atom s a) h = tt
    all-told (leaf s x c) h = tt
    all-told (pair s a d) h = (told a h.0, all-told d h.1)
    all-told (vector s d) h = tt

    tail-told-of : (t : Tree) → HoldsLists t → Told (tail_of t)
    tail-told-of (atom s a) h n is = atom-told (atom s a) n is r.a_datum
    tail-told-of (leaf s x c) h n is = atom-told (leaf s x c) n is r.an_identifier
    tail-told-of (pair s a d) h n is = tail-told-of d h.1 n is
    tail-told-of (vector s d) h n is = subst (λ (xs : List ElementInserts). Tells (Comes n is (vector s d)) (vector_made w (vector s d) xs n is)) (sym (elements_are w d)) (vector-told s d h.0 (all-told d h.1) n is)

pub inserts-are-told : InsertsAreTold
inserts-are-told w t form place q h e = by (syntax_at w t 0 []) (told w t h 0 []) e
  where
    by : (x : Result (QuasiPart × List Insert) Bare) → Tells (Comes w 0 [] t) x → (at_form form place x >>= λ p. Ok (answer p)) ≡ Ok q → IsInserted w 0 [] t (unspanned q.template) q.inserts
    by (Ok p) k i = let same : answer p ≡ q = cc in subst (λ (z : QuasiSyntax). IsInserted w 0 [] t (unspanned z.template) z.inserts) same k.is_so
    by (Err f) k i = absurd (cc)
