-- What one level of a template tells of what it comes to.
use Rattle.std.proofs.Common.{◌≡◌, ℕ, length, Bool, true, false, List, [], ◌∷◌, map, take, drop, Ok, refl, Vec, ap, sym, ◌∙◌}
use Rattle.std.proofs.lemmas.List.{length-map, take-map, drop-map}
use Rattle.std.specs.Prelude.{Result, ◌-◌, if◌then◌else◌}
use Rattle.std.specs.declared.alloc.Global.{Global}
use Rattle.base_data.specs.Gives.{◌>>=◌}
use Rattle.base_data.specs.declared.atom.Atom.{Atom}
use Rattle.base_data.specs.declared.fault.Bare.{Bare}
use Rattle.stx_tree.specs.Tree.{Tree, atom, leaf, pair, vector, chain, nil, is_pair}
use Rattle.stx_object.specs.Opens.{Opens}
use Rattle.stx_object.specs.declared.syn.OpenedTree.TheVariants as opened
use Rattle.core_shapes.specs.Lists.{is_nil, elements, tail_of}
use Rattle.core_quasi.specs.Words.{WordOf, inner, reach}
use Rattle.core_quasi.specs.Parts.{rest_at, splits, first_word, operand_of}
use Rattle.core_quasi.specs.Plan.{PlainQuasi, constant}
use Rattle.core_quasi.specs.Quasi.{ElementPlan, Tail, forms, no_pieces, walked, begun_by, begins, finished, flat, list_made, vector_made, quasi_at, elements_made, tail_made, element, tail_element, forms_begun, flat_list, last_list, split_list, vector_at}

pub elements_chain : (ts : List Tree) → elements (chain ts nil) ≡ ts
elements_chain [] = refl
elements_chain (t ∷ ts) = ap (λ us. t ∷ us) (elements_chain ts)

module _ (w : WordOf) where
  pub elements_are : (t : Tree) → elements_made w t ≡ map (element w) (elements t)
  elements_are (atom s a) = refl
  elements_are (leaf s x c) = refl
  elements_are (pair s a d) = ap (λ (xs : List ElementPlan). (a, quasi_at w a) ∷ xs) (elements_are d)
  elements_are (vector s d) = refl

  pub tail_is : (t : Tree) → tail_made w t ≡ quasi_at w (tail_of t)
  tail_is (atom s a) = refl
  tail_is (leaf s x c) = refl
  tail_is (pair s a d) = tail_is d
  tail_is (vector s d) = refl

  pub forms_are : (ts : List Tree) → forms (map (element w) ts) ≡ ts
  forms_are [] = refl
  forms_are (t ∷ ts) = ap (λ us. t ∷ us) (forms_are ts)

  begins_are : (ts : List Tree) (ends : Bool) (n : ℕ) → begins w (map (element w) ts) ends n ≡ forms_begun w ts ends n
  begins_are ts ends n =
      ap (λ us. begun_by (operand_of ends us) (walked w (inner (first_word w us) n) no_pieces (map (element w) ts)) (reach (first_word w us) n)) (forms_are ts)

  flat_is : (t : Tree) (ts : List Tree) (tail : Tail) (n : ℕ) → flat w t (map (element w) ts) tail n ≡ (forms_begun w ts tail.ends n >>= finished t tail n)
  flat_is t ts tail n = ap (λ r. r >>= finished t tail n) (begins_are ts tail.ends n)

  module _ (n : ℕ) where
    pub made_atom : (e : Atom) (t : Tree) → Opens (opened.Atom e) t → quasi_at w t n ≡ Ok (constant t)
    made_atom e (atom p b) h = refl
    made_atom e (leaf p y c) h = absurd h
    made_atom e (pair p a d) h = absurd h
    made_atom e (vector p d) h = absurd h

    pub made_leaf : (x : List ℕ) (t : Tree) → Opens (opened.Symbol x) t → quasi_at w t n ≡ Ok (constant t)
    made_leaf x (atom p b) h = absurd h
    made_leaf x (leaf p y c) h = refl
    made_leaf x (pair p a d) h = absurd h
    made_leaf x (vector p d) h = absurd h

    pub made_vector : (v : Vec Tree Global) (t : Tree) → Opens (opened.Vector v) t → quasi_at w t n ≡ vector_at w t v.items n
    made_vector v (atom p b) h = absurd h
    made_vector v (leaf p y c) h = absurd h
    made_vector v (pair p a d) h = absurd h
    made_vector v (vector p d) h =
        let same : elements_made w d ≡ map (element w) v.items = elements_are d ∙ ap (map (element w)) (ap elements (sym h) ∙ elements_chain v.items) in
        ap (λ (xs : List ElementPlan). vector_made w (vector p d) xs n) same

  abbrev on_list : Tree → List Tree → Tree → ℕ → Bool → Result PlainQuasi Bare
  on_list t ts tail n b = if b then split_list w t (take (length ts - 2) ts) (last_list w (rest_at (length ts - 2) t) (drop (length ts - 2) ts) tail) n else flat_list w t ts tail n

  flat_on : (t : Tree) (ts : List Tree) (tail : Tree) → flat w t (map (element w) ts) (tail_element w tail) ≡ flat_list w t ts tail
  flat_on t ts tail = λ i n. flat_is t ts (tail_element w tail) n i

  split_on : (t : Tree) (ts : List Tree) (tail : Tree) (n k : ℕ) → flat w t (take k (map (element w) ts)) (record { ends = false; made = flat w (rest_at k t) (drop k (map (element w) ts)) (tail_element w tail) }) n
      ≡ split_list w t (take k ts) (last_list w (rest_at k t) (drop k ts) tail) n
  split_on t ts tail n k =
      (λ i. flat w t (take-map (element w) k ts i) (record { ends = false; made = flat w (rest_at k t) (drop-map (element w) k ts i) (tail_element w tail) }) n)
      ∙ (λ i. flat w t (map (element w) (take k ts)) (record { ends = false; made = flat_on (rest_at k t) (drop k ts) tail i }) n)
      ∙ flat_is t (take k ts) (record { ends = false; made = flat_list w (rest_at k t) (drop k ts) tail }) n

  by_split : (t : Tree) (ts : List Tree) (tail : Tree) (n k : ℕ) → k ≡ length ts → (b : Bool)
      → (if b then flat w t (take (k - 2) (map (element w) ts)) (record { ends = false; made = flat w (rest_at (k - 2) t) (drop (k - 2) (map (element w) ts)) (tail_element w tail) }) n
      else flat w t (map (element w) ts) (tail_element w tail) n) ≡ on_list t ts tail n b
  by_split t ts tail n k e true =
      split_on t ts tail n (k - 2) ∙ ap (λ m. split_list w t (take (m - 2) ts) (last_list w (rest_at (m - 2) t) (drop (m - 2) ts) tail) n) e
  by_split t ts tail n k e false = flat_is t ts (tail_element w tail) n

  list_is : (t : Tree) (ts : List Tree) (tail : Tree) (n : ℕ) → list_made w t (map (element w) ts) (tail_element w tail) n ≡ on_list t ts tail n (splits w (is_nil tail) ts)
  list_is t ts tail n =
      by_split t ts tail n (length (map (element w) ts)) (length-map ts (element w)) (splits w (is_nil tail) (forms (map (element w) ts)))
      ∙ ap (λ us. on_list t ts tail n (splits w (is_nil tail) us)) (forms_are ts)

  made_list : (n : ℕ) (t : Tree) → is_pair t ≡ true → quasi_at w t n ≡ on_list t (elements t) (tail_of t) n (splits w (is_nil (tail_of t)) (elements t))
  made_list n (atom p b) h = absurd (cc)
  made_list n (leaf p y c) h = absurd (cc)
  made_list n (pair p a d) h =
      (λ i. list_made w (pair p a d) ((a, quasi_at w a) ∷ elements_are d i) (record { ends = is_nil (tail_of d); made = tail_is d i }) n)
      ∙ list_is (pair p a d) (a ∷ elements d) (tail_of d) n
  made_list n (vector p d) h = absurd (cc)

  module _ (n : ℕ) (t : Tree) (h : is_pair t ≡ true) where
    pub list_split : splits w (is_nil (tail_of t)) (elements t) ≡ true
        → quasi_at w t n ≡ split_list w t (take (length (elements t) - 2) (elements t)) (last_list w (rest_at (length (elements t) - 2) t) (drop (length (elements t) - 2) (elements t)) (tail_of t)) n
    list_split e = made_list n t h ∙ ap (on_list t (elements t) (tail_of t) n) e

    pub list_flat : splits w (is_nil (tail_of t)) (elements t) ≡ false → quasi_at w t n ≡ flat_list w t (elements t) (tail_of t) n
    list_flat e = made_list n t h ∙ ap (on_list t (elements t) (tail_of t) n) e

  -- from the parts as they were found
  module _ (n : ℕ) (t : Tree) (h : is_pair t ≡ true) (ts : List Tree) (tail : Tree) (ends : Bool) (are : ts ≡ elements t) (last : tail ≡ tail_of t) (ended : ends ≡ is_nil tail) where
    splits_are : (b : Bool) → b ≡ splits w ends ts → splits w (is_nil (tail_of t)) (elements t) ≡ b
    splits_are b e = (λ i. splits w ((ap is_nil (sym last) ∙ sym ended) i) (sym are i)) ∙ sym e

    pub found_flat : false ≡ splits w ends ts → quasi_at w t n ≡ flat_list w t ts tail n
    found_flat e = list_flat n t h (splits_are false e) ∙ (λ i. flat_list w t (sym are i) (sym last i) n)

    pub found_split : (rest : Tree) → true ≡ splits w ends ts → rest ≡ rest_at (length ts - 2) t
        → quasi_at w t n ≡ split_list w t (take (length ts - 2) ts) (last_list w rest (drop (length ts - 2) ts) tail) n
    found_split rest e behind =
        list_split n t h (splits_are true e)
        ∙ (λ i. split_list w t (take (length (sym are i) - 2) (sym are i)) (last_list w (rest_at (length (sym are i) - 2) t) (drop (length (sym are i) - 2) (sym are i)) (sym last i)) n)
        ∙ ap (λ r. split_list w t (take (length ts - 2) ts) (last_list w r (drop (length ts - 2) ts) tail) n) (sym behind)
