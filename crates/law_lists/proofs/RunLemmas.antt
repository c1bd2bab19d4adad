-- In whole cells the bound of a walk along a list doesn't show.
use Rattle.std.proofs.Common.{◌≡◌, ℕ, zero, suc, ◌+◌, ◌-◌, ◌≤◌, Bool, true, false, List, [], ◌∷◌, ◌++◌, length, reverse, take, slice_get, Option, None, Some, refl, sym, ap, subst, ◌∙◌, arith, append_assoc, length-append, pos}
use Rattle.std.specs.Prelude.{nat_lt, if◌then◌else◌}
use Rattle.std.proofs.lemmas.Bool.{lt-ltb}
use Rattle.std.proofs.lemmas.List.{append-nil}
use Rattle.std.proofs.Math.Seq.{take-append_seam}
use Rattle.base_data.specs.declared.atom.Atom.{Atom}
use Rattle.base_data.specs.declared.atom.Atom.TheVariants as a
use Rattle.base_data.specs.declared.op.names.TheConstants as names
use Rattle.base_region.proofs.Laws.{slice_get-added}
use Rattle.eval_value.specs.Cells.{pair_in, pair_at, IsBelow, WholeCells}
use Rattle.eval_value.specs.FromDatum.{pairs_stored}
use Rattle.eval_value.specs.declared.cell.Cell.{Cell}
use Rattle.eval_value.specs.declared.cell.Cell.TheVariants as cell
use Rattle.eval_value.specs.declared.value.Value.{Value}
use Rattle.eval_value.specs.declared.value.Value.TheVariants as value
use Rattle.eval_prims.specs.declared.made.PrimResult.TheVariants as made
use Rattle.eval_prims.specs.Answers.{said, given}
use Rattle.eval_prims.specs.Chains.{Chain, pair_of, is_nil, linked, chain_on, chain_to, chain, list_elements, then_tail, tail_after}
use Rattle.eval_prims.specs.Each.{if_some, before_last, last_of}
use Rattle.eval_prims.specs.Strings.{natural, index_below}
use Rattle.eval_prims.specs.Lists.{nil, of_elements, list_made, elements_joined, last_or_nil, appended_made, tail_made, indexed_made}
use Rattle.law_lists.specs.Runs.{Runs, here, next, IsList, AreLists, no_lists, one_list, joined}
use Rattle.law_lists.proofs.Parts.{below_more, pair_within, pair_lies}

-- ---- chains

atom_is_nil : (b : Atom) → is_nil (value.Atom b) ≡ true → value.Atom b ≡ nil
atom_is_nil a.Nil h = refl
atom_is_nil (a.Bool x) h = absurd (cc)
atom_is_nil (a.Int x) h = absurd (cc)
atom_is_nil (a.Spelt x) h = absurd (cc)
atom_is_nil (a.Char x) h = absurd (cc)
atom_is_nil (a.Str x) h = absurd (cc)
atom_is_nil (a.Bytes x) h = absurd (cc)

nil_is : (x : Value) → is_nil x ≡ true → x ≡ nil
nil_is (value.Atom b) h = atom_is_nil b h
nil_is value.Unspecified h = absurd (cc)
nil_is (value.Symbol s) h = absurd (cc)
nil_is (value.Pair p) h = absurd (cc)
nil_is (value.Vector p) h = absurd (cc)
nil_is (value.Str p) h = absurd (cc)
nil_is (value.Closure c p) h = absurd (cc)
nil_is (value.Prim o) h = absurd (cc)
nil_is (value.Syn t) h = absurd (cc)
nil_is (value.Transformer p) h = absurd (cc)

module _ (cells : List Cell) where
  chain_runs : (n : ℕ) (x : Value) → Runs cells (chain_to n cells x).elements (chain_to n cells x).end x
  unfolding chain_to
  chain_runs zero x = here
  chain_runs (suc n) x = by (chain_runs n) (pair_of cells x) refl
    where
      by : ((y : Value) → Runs cells (chain_to n cells y).elements (chain_to n cells y).end y) → (o : Option (Value × Value)) → pair_of cells x ≡ o
          → Runs cells (chain_on (chain_to n cells) x o).elements (chain_on (chain_to n cells) x o).end x
      by again None e = here
      by again (Some p) e = next e (again p.1)

  whole_chain : (x : Value) → Runs cells (chain cells x).elements (chain cells x).end x
  unfolding chain
  whole_chain x = chain_runs (length cells) x

  pub elements_run : (xs : List Value) (x : Value) → list_elements cells x ≡ Some xs → IsList cells xs x
  elements_run xs x h = by (is_nil (chain cells x).end) refl h
    where
      by : (t : Bool) → is_nil (chain cells x).end ≡ t → (if t then Some (chain cells x).elements else None) ≡ Some xs → IsList cells xs x
      by true e k =
          let same : (chain cells x).elements ≡ xs = cc in
          let ends : Runs cells (chain cells x).elements nil x = subst (λ (y : Value). Runs cells (chain cells x).elements y x) (nil_is (chain cells x).end e) (whole_chain x) in
          subst (λ (ys : List Value). Runs cells ys nil x) same ends
      by false e k = absurd (cc)

  pub chain_is : (n : ℕ) {xs : List Value} {rest x : Value} → Runs cells xs rest x → pair_of cells rest ≡ None → length xs ≤ n → chain_to n cells x ≡ record { elements = xs; end = rest }
  unfolding chain_to
  chain_is zero here e l = refl
  chain_is (suc n) {x = x} here e l = ap (chain_on (chain_to n cells) x) e
  chain_is zero (next f r) e l = absurd (omega (arith, l))
  chain_is (suc n) {x = x} (next {y = y} {d = d} f r) e l = ap (chain_on (chain_to n cells) x) f ∙ ap (linked y) (chain_is n r e (omega (arith, l)))

  module _ (w : WholeCells cells) where
    rest_below : (n : ℕ) (x y d : Value) → pair_of cells x ≡ Some (y, d) → IsBelow (suc n) x → IsBelow n d
    rest_below n (value.Pair p) y d e b = below_more p.0 n d (omega (arith, b)) (pair_lies cells w p.0 y d e).1.below
    rest_below n value.Unspecified y d e b = absurd (cc)
    rest_below n (value.Atom x) y d e b = absurd (cc)
    rest_below n (value.Symbol s) y d e b = absurd (cc)
    rest_below n (value.Vector p) y d e b = absurd (cc)
    rest_below n (value.Str p) y d e b = absurd (cc)
    rest_below n (value.Closure c p) y d e b = absurd (cc)
    rest_below n (value.Prim o) y d e b = absurd (cc)
    rest_below n (value.Syn t) y d e b = absurd (cc)
    rest_below n (value.Transformer p) y d e b = absurd (cc)

    none_below : (x y d : Value) → pair_of cells x ≡ Some (y, d) → IsBelow 0 x → ⊥
    none_below (value.Pair p) y d e b = omega (arith, b)
    none_below value.Unspecified y d e b = cc
    none_below (value.Atom x) y d e b = cc
    none_below (value.Symbol s) y d e b = cc
    none_below (value.Vector p) y d e b = cc
    none_below (value.Str p) y d e b = cc
    none_below (value.Closure c p) y d e b = cc
    none_below (value.Prim o) y d e b = cc
    none_below (value.Syn t) y d e b = cc
    none_below (value.Transformer p) y d e b = cc

    pair_below : (x y d : Value) → pair_of cells x ≡ Some (y, d) → IsBelow (length cells) x
    pair_below (value.Pair p) y d e = pair_within cells p.0 y d e
    pair_below value.Unspecified y d e = tt
    pair_below (value.Atom x) y d e = tt
    pair_below (value.Symbol s) y d e = tt
    pair_below (value.Vector p) y d e = absurd (cc)
    pair_below (value.Str p) y d e = absurd (cc)
    pair_below (value.Closure c p) y d e = absurd (cc)
    pair_below (value.Prim o) y d e = tt
    pair_below (value.Syn t) y d e = tt
    pair_below (value.Transformer p) y d e = absurd (cc)

    short_below : (n : ℕ) {xs : List Value} {rest x : Value} → Runs cells xs rest x → IsBelow n x → length xs ≤ n
    short_below n here b = omega arith
    short_below zero (next {y = y} {d = d} {x = x} f r) b = absurd (none_below x y d f b)
    short_below (suc n) (next {y = y} {d = d} {x = x} f r) b = let l = short_below n r (rest_below n x y d f b) in omega (arith, l)

    -- no run has more pairs than there are cells
    pub short : {xs : List Value} {rest x : Value} → Runs cells xs rest x → length xs ≤ length cells
    short here = omega arith
    short (next {y = y} {d = d} {x = x} f r) = short_below (length cells) (next f r) (pair_below x y d f)

    pub run_chain : {xs : List Value} {rest x : Value} → Runs cells xs rest x → pair_of cells rest ≡ None → chain cells x ≡ record { elements = xs; end = rest }
    unfolding chain
    run_chain r e = chain_is (length cells) r e (short r)

    pub run_elements : {xs : List Value} {x : Value} → IsList cells xs x → list_elements cells x ≡ Some xs
    run_elements r = ap (λ (c : Chain). if is_nil c.end then Some c.elements else None) (run_chain r refl)

    -- ---- what is asked of a list

    pub list_length : {xs : List Value} {x : Value} → IsList cells xs x → list_made names.LENGTH (x ∷ []) cells ≡ natural (length xs)
    unfolding list_made
    list_length r = ap (λ o. if_some o (of_elements names.LENGTH)) (run_elements r)

    pub list_reversed : {xs : List Value} {x : Value} → IsList cells xs x → list_made names.REVERSE (x ∷ []) cells ≡ Some (made.List (reverse xs) nil)
    unfolding list_made
    list_reversed r = ap (λ o. if_some o (of_elements names.REVERSE)) (run_elements r)

    pub is_list : {xs : List Value} {x : Value} → IsList cells xs x → list_made names.IS_LIST (x ∷ []) cells ≡ said true
    unfolding list_made
    is_list r = ap (λ (c : Chain). said (is_nil c.end)) (run_chain r refl)

    -- ---- append

    lists_joined : (done : List Value) {xss : List (List Value)} {args : List Value} → AreLists cells xss args → elements_joined cells done args ≡ Some (done ++ joined xss)
    unfolding elements_joined
    lists_joined done no_lists = ap Some (sym (append-nil done))
    lists_joined done (one_list {xs = xs} {xss = xss} {rest = rest} r rs) =
        ap (λ o. if_some o (λ ys. elements_joined cells (done ++ ys) rest)) (run_elements r) ∙ lists_joined (done ++ xs) rs ∙ ap Some (append_assoc done xs (joined xss))

    before_added : (args : List Value) (x : Value) → before_last (args ++ x ∷ []) ≡ args
    before_added args x =
        let e : length (args ++ x ∷ []) - 1 ≡ length args = omega (arith, length-append args (x ∷ [])) in
        ap (λ n. take n (args ++ x ∷ [])) e ∙ take-append_seam args (x ∷ [])

    last_added : (args : List Value) (x : Value) → last_of (args ++ x ∷ []) ≡ Some x
    last_added args x =
        let e : length (args ++ x ∷ []) - 1 ≡ length args = omega (arith, length-append args (x ∷ [])) in
        ap (λ n. slice_get (args ++ x ∷ []) n) e ∙ slice_get-added args x

    pub appended : {xss : List (List Value)} {args : List Value} (last : Value) → AreLists cells xss args → appended_made (args ++ last ∷ []) cells ≡ Some (made.List (joined xss) last)
    unfolding appended_made
    appended {xss = xss} {args = args} last r =
        ap (λ xs. if_some (elements_joined cells [] xs) (λ ys. Some (made.List ys (last_or_nil (last_of (args ++ last ∷ [])))))) (before_added args last)
        ∙ ap (λ o. if_some o (λ ys. Some (made.List ys (last_or_nil (last_of (args ++ last ∷ [])))))) (lists_joined [] r)
        ∙ ap (λ o. Some (made.List (joined xss) (last_or_nil o))) (last_added args last)

    -- ---- list-tail and list-ref

    tail_is : {xs : List Value} {rest x : Value} → Runs cells xs rest x → tail_after (length xs) cells x ≡ Some rest
    unfolding tail_after
    tail_is here = refl
    tail_is (next {ys = ys} f r) = ap (then_tail (tail_after (length ys) cells)) f ∙ tail_is r

    index_is : (n : ℕ) → n ≤ length cells → index_below (length cells + 1) (value.Atom (a.Int (pos n))) ≡ Some n
    index_is n l =
        let e : nat_lt n (length cells + 1) ≡ true = lt-ltb n (length cells + 1) (omega (arith, l)) in
        ap (λ t. if t then Some n else None) e

    tail_of : (op : ℕ) {xs : List Value} {rest x : Value} → Runs cells xs rest x → indexed_made op (x ∷ value.Atom (a.Int (pos (length xs))) ∷ []) cells ≡ tail_made op cells rest
    unfolding indexed_made
    tail_of op {xs = xs} {x = x} r =
        ap (λ o. if_some o (λ n. if_some (tail_after n cells x) (tail_made op cells))) (index_is (length xs) (short r)) ∙ ap (λ o. if_some o (tail_made op cells)) (tail_is r)

    pub list_tail : {xs : List Value} {rest x : Value} → Runs cells xs rest x → indexed_made names.LIST_TAIL (x ∷ value.Atom (a.Int (pos (length xs))) ∷ []) cells ≡ Some (made.Value rest)
    list_tail r = tail_of names.LIST_TAIL r

    pub list_ref : {xs : List Value} {rest x y d : Value} → Runs cells xs rest x → pair_of cells rest ≡ Some (y, d) → indexed_made names.LIST_REF (x ∷ value.Atom (a.Int (pos (length xs))) ∷ []) cells ≡ Some (made.Value y)
    list_ref r e = tail_of names.LIST_REF r ∙ ap (λ o. given (if_some o (λ p. Some p.0))) e

  pub said_list : (x : Value) → list_made names.IS_LIST (x ∷ []) cells ≡ said true → (xs : List Value) × IsList cells xs x
  unfolding list_made
  said_list x h =
      let same : is_nil (chain cells x).end ≡ true = cc in
      ((chain cells x).elements, elements_run (chain cells x).elements x (ap (λ c. if c then Some (chain cells x).elements else None) same))

  pub appended_nothing : appended_made [] cells ≡ Some (made.List [] nil)
  unfolding appended_made elements_joined
  appended_nothing = refl

-- ---- what is made

-- the cells that were there are there still
abbrev pub Stay : List Cell → List Cell → Type 0
Stay old new = (n : ℕ) (c : Cell) → slice_get old n ≡ Some c → slice_get new n ≡ Some c

pub stay_added : (cells : List Cell) (c : Cell) → Stay cells (cells ++ c ∷ [])
stay_added [] c n d h = absurd (cc)
stay_added (b ∷ bs) c zero d h = h
stay_added (b ∷ bs) c (suc n) d h = stay_added bs c n d h

pub stay_then : (x y z : List Cell) → Stay x y → Stay y z → Stay x z
stay_then x y z h k n c e = k n c (h n c e)

pub pair_still : (old new : List Cell) → Stay old new → (x y d : Value) → pair_of old x ≡ Some (y, d) → pair_of new x ≡ Some (y, d)
pair_still old new s (value.Pair p) y d e = by (slice_get old p.0) refl e
  where
    by : (o : Option Cell) → slice_get old p.0 ≡ o → pair_in o ≡ Some (y, d) → pair_at new p.0 ≡ Some (y, d)
    by None f g = absurd (cc)
    by (Some c) f g = ap pair_in (s p.0 c f) ∙ g
pair_still old new s value.Unspecified y d e = absurd (cc)
pair_still old new s (value.Atom x) y d e = absurd (cc)
pair_still old new s (value.Symbol x) y d e = absurd (cc)
pair_still old new s (value.Vector p) y d e = absurd (cc)
pair_still old new s (value.Str p) y d e = absurd (cc)
pair_still old new s (value.Closure c p) y d e = absurd (cc)
pair_still old new s (value.Prim o) y d e = absurd (cc)
pair_still old new s (value.Syn t) y d e = absurd (cc)
pair_still old new s (value.Transformer p) y d e = absurd (cc)

pub runs_still : (old new : List Cell) → Stay old new → {xs : List Value} {rest x : Value} → Runs old xs rest x → Runs new xs rest x
runs_still old new s here = here
runs_still old new s (next {y = y} {d = d} {x = x} f r) = next (pair_still old new s x y d f) (runs_still old new s r)

pub stored_stay : (xs : List Value) (rest : Value) (cells : List Cell) → Stay cells (pairs_stored xs (rest, cells)).1
stored_stay [] rest cells = λ n c h. h
stored_stay (x ∷ xs) rest cells =
    let s = pairs_stored xs (rest, cells) in
    stay_then cells s.1 (s.1 ++ cell.Pair x s.0 ∷ []) (stored_stay xs rest cells) (stay_added s.1 (cell.Pair x s.0))

pub stored_runs : (xs : List Value) (rest : Value) (cells : List Cell) → Runs (pairs_stored xs (rest, cells)).1 xs rest (pairs_stored xs (rest, cells)).0
stored_runs [] rest cells = here
stored_runs (x ∷ xs) rest cells =
    let s = pairs_stored xs (rest, cells) in
    next (ap pair_in (slice_get-added s.1 (cell.Pair x s.0))) (runs_still s.1 (s.1 ++ cell.Pair x s.0 ∷ []) (stay_added s.1 (cell.Pair x s.0)) (stored_runs xs rest cells))

pub runs_stored : (xs : List Value) (rest : Value) (cells : List Cell) {ys : List Value} {end y : Value} → Runs cells ys end y → Runs (pairs_stored xs (rest, cells)).1 ys end y
runs_stored xs rest cells r = runs_still cells (pairs_stored xs (rest, cells)).1 (stored_stay xs rest cells) r
