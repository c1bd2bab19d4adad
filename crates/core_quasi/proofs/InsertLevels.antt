-- What one level of a template of `quasisyntax` tells of what it comes to.
use Rattle.std.proofs.Common.{◌≡◌, ℕ, length, Bool, true, false, List, [], ◌∷◌, map, take, drop, Ok, refl, Vec, ap, sym, ◌∙◌}
use Rattle.std.proofs.lemmas.List.{length-map, take-map, drop-map}
use Rattle.std.specs.Prelude.{Result, ◌-◌, if◌then◌else◌}
use Rattle.std.specs.declared.alloc.Global.{Global}
use Rattle.base_data.specs.declared.atom.Atom.{Atom}
use Rattle.base_data.specs.declared.fault.Bare.{Bare}
use Rattle.stx_tree.specs.Tree.{Tree, atom, leaf, pair, vector, is_pair}
use Rattle.stx_object.specs.Opens.{Opens}
use Rattle.stx_object.specs.declared.syn.OpenedTree.TheVariants as opened
use Rattle.core_shapes.specs.Lists.{is_nil, elements, tail_of}
use Rattle.core_quasi.proofs.Levels.{elements_chain}
use Rattle.core_quasi.specs.Words.{inner, reach}
use Rattle.core_quasi.specs.Parts.{rest_at, splits, first_word, operand_of}
use Rattle.core_quasi.specs.QuasiSyntax.{Looked, then_insert, ElementInserts, Tail, forms, no_trees, unchanged, walked, begun_by, begins, finished, flat, escapes, list_made, vector_made, syntax_at, elements_made, tail_made, element, tail_element, forms_begun, flat_list, last_list, split_list, vector_at}
use Rattle.core_quasi.specs.declared.quasi_syntax.Insert.{Insert}
use Rattle.core_quasi.specs.declared.quasi_syntax.QuasiPart.{QuasiPart}

module _ (w : Looked) where
  pub elements_are : (t : Tree) → elements_made w t ≡ map (element w) (elements t)
  elements_are (atom s a) = refl
  elements_are (leaf s x c) = refl
  elements_are (pair s a d) = ap (λ (xs : List ElementInserts). (a, syntax_at w a) ∷ xs) (elements_are d)
  elements_are (vector s d) = refl

  pub tail_is : (t : Tree) → tail_made w t ≡ syntax_at w (tail_of t)
  tail_is (atom s a) = refl
  tail_is (leaf s x c) = refl
  tail_is (pair s a d) = tail_is d
  tail_is (vector s d) = refl

  pub forms_are : (ts : List Tree) → forms (map (element w) ts) ≡ ts
  forms_are [] = refl
  forms_are (t ∷ ts) = ap (λ us. t ∷ us) (forms_are ts)

  begins_are : (ts : List Tree) (ends : Bool) (n : ℕ) (is : List Insert) → begins w (map (element w) ts) ends n is ≡ forms_begun w ts ends n is
  begins_are ts ends n is =
      ap (λ us. begun_by (operand_of ends us) (walked w (inner (first_word w.words us) n) no_trees (map (element w) ts)) (reach (first_word w.words us) n) is) (forms_are ts)

  flat_is : (t : Tree) (ts : List Tree) (tail : Tail) (n : ℕ) (is : List Insert)
      → flat w t (map (element w) ts) tail n is ≡ then_insert (forms_begun w ts tail.ends n is) (finished t tail n)
  flat_is t ts tail n is = ap (λ r. then_insert r (finished t tail n)) (begins_are ts tail.ends n is)

  module _ (n : ℕ) (is : List Insert) where
    pub made_atom : (e : Atom) (t : Tree) → Opens (opened.Atom e) t → syntax_at w t n is ≡ Ok (unchanged t, is)
    made_atom e (atom p b) h = refl
    made_atom e (leaf p y c) h = absurd h
    made_atom e (pair p a d) h = absurd h
    made_atom e (vector p d) h = absurd h

    pub made_leaf : (x : List ℕ) (t : Tree) → Opens (opened.Symbol x) t → syntax_at w t n is ≡ Ok (unchanged t, is)
    made_leaf x (atom p b) h = absurd h
    made_leaf x (leaf p y c) h = refl
    made_leaf x (pair p a d) h = absurd h
    made_leaf x (vector p d) h = absurd h

    pub made_vector : (v : Vec Tree Global) (t : Tree) → Opens (opened.Vector v) t → syntax_at w t n is ≡ vector_at w t v.items n is
    made_vector v (atom p b) h = absurd h
    made_vector v (leaf p y c) h = absurd h
    made_vector v (pair p a d) h = absurd h
    made_vector v (vector p d) h =
        let same : elements_made w d ≡ map (element w) v.items = elements_are d ∙ ap (map (element w)) (ap elements (sym h) ∙ elements_chain v.items) in
        ap (λ (xs : List ElementInserts). vector_made w (vector p d) xs n is) same

  abbrev on_split : Tree → List Tree → Tree → ℕ → List Insert → Bool → Result (QuasiPart × List Insert) Bare
  on_split t ts tail n is b =
      if b then split_list w t (take (length ts - 2) ts) (last_list w (rest_at (length ts - 2) t) (drop (length ts - 2) ts) tail) n is else flat_list w t ts tail n is

  abbrev on_list : Tree → List Tree → Tree → ℕ → List Insert → Bool → Bool → Result (QuasiPart × List Insert) Bare
  on_list t ts tail n is e b = if e then Ok (unchanged t, is) else on_split t ts tail n is b

  flat_on : (t : Tree) (ts : List Tree) (tail : Tree) → flat w t (map (element w) ts) (tail_element w tail) ≡ flat_list w t ts tail
  flat_on t ts tail = λ i n is. flat_is t ts (tail_element w tail) n is i

  split_on : (t : Tree) (ts : List Tree) (tail : Tree) (n k : ℕ) (is : List Insert)
      → flat w t (take k (map (element w) ts)) (record { ends = false; made = flat w (rest_at k t) (drop k (map (element w) ts)) (tail_element w tail) }) n is
      ≡ split_list w t (take k ts) (last_list w (rest_at k t) (drop k ts) tail) n is
  split_on t ts tail n k is =
      (λ i. flat w t (take-map (element w) k ts i) (record { ends = false; made = flat w (rest_at k t) (drop-map (element w) k ts i) (tail_element w tail) }) n is)
      ∙ (λ i. flat w t (map (element w) (take k ts)) (record { ends = false; made = flat_on (rest_at k t) (drop k ts) tail i }) n is)
      ∙ flat_is t (take k ts) (record { ends = false; made = flat_list w (rest_at k t) (drop k ts) tail }) n is

  by_split : (t : Tree) (ts : List Tree) (tail : Tree) (n k : ℕ) (is : List Insert) → k ≡ length ts → (e b : Bool)
      → (if e then Ok (unchanged t, is) else if b then flat w t (take (k - 2) (map (element w) ts)) (record { ends = false; made = flat w (rest_at (k - 2) t) (drop (k - 2) (map (element w) ts)) (tail_element w tail) }) n is
      else flat w t (map (element w) ts) (tail_element w tail) n is) ≡ on_list t ts tail n is e b
  by_split t ts tail n k is h true b = refl
  by_split t ts tail n k is h false true =
      split_on t ts tail n (k - 2) is ∙ ap (λ m. split_list w t (take (m - 2) ts) (last_list w (rest_at (m - 2) t) (drop (m - 2) ts) tail) n is) h
  by_split t ts tail n k is h false false = flat_is t ts (tail_element w tail) n is

  list_is : (t : Tree) (ts : List Tree) (tail : Tree) (n : ℕ) (is : List Insert) → list_made w t (map (element w) ts) (tail_element w tail) n is
      ≡ on_list t ts tail n is (escapes (first_word w.words ts) (is_nil tail) ts) (splits w.words (is_nil tail) ts)
  list_is t ts tail n is =
      by_split t ts tail n (length (map (element w) ts)) is (length-map ts (element w))
      (escapes (first_word w.words (forms (map (element w) ts))) (is_nil tail) (forms (map (element w) ts))) (splits w.words (is_nil tail) (forms (map (element w) ts)))
      ∙ ap (λ us. on_list t ts tail n is (escapes (first_word w.words us) (is_nil tail) us) (splits w.words (is_nil tail) us)) (forms_are ts)

  made_list : (n : ℕ) (is : List Insert) (t : Tree) → is_pair t ≡ true → syntax_at w t n is
      ≡ on_list t (elements t) (tail_of t) n is (escapes (first_word w.words (elements t)) (is_nil (tail_of t)) (elements t)) (splits w.words (is_nil (tail_of t)) (elements t))
  made_list n is (atom p b) h = absurd (cc)
  made_list n is (leaf p y c) h = absurd (cc)
  made_list n is (pair p a d) h =
      (λ i. list_made w (pair p a d) ((a, syntax_at w a) ∷ elements_are d i) (record { ends = is_nil (tail_of d); made = tail_is d i }) n is)
      ∙ list_is (pair p a d) (a ∷ elements d) (tail_of d) n is
  made_list n is (vector p d) h = absurd (cc)

  module _ (n : ℕ) (is : List Insert) (t : Tree) (h : is_pair t ≡ true) where
    pub list_escaped : escapes (first_word w.words (elements t)) (is_nil (tail_of t)) (elements t) ≡ true → syntax_at w t n is ≡ Ok (unchanged t, is)
    list_escaped e = made_list n is t h ∙ ap (λ b. on_list t (elements t) (tail_of t) n is b (splits w.words (is_nil (tail_of t)) (elements t))) e

    module _ (e : escapes (first_word w.words (elements t)) (is_nil (tail_of t)) (elements t) ≡ false) where
      not_escaped : (b : Bool) → splits w.words (is_nil (tail_of t)) (elements t) ≡ b → syntax_at w t n is ≡ on_split t (elements t) (tail_of t) n is b
      not_escaped b k = made_list n is t h ∙ (λ i. on_list t (elements t) (tail_of t) n is (e i) (k i))

      pub list_split : splits w.words (is_nil (tail_of t)) (elements t) ≡ true
          → syntax_at w t n is ≡ split_list w t (take (length (elements t) - 2) (elements t)) (last_list w (rest_at (length (elements t) - 2) t) (drop (length (elements t) - 2) (elements t)) (tail_of t)) n is
      list_split k = not_escaped true k

      pub list_flat : splits w.words (is_nil (tail_of t)) (elements t) ≡ false → syntax_at w t n is ≡ flat_list w t (elements t) (tail_of t) n is
      list_flat k = not_escaped false k

  -- from the parts as they were found
  module _ (n : ℕ) (is : List Insert) (t : Tree) (h : is_pair t ≡ true) (ts : List Tree) (tail : Tree) (ends : Bool) (are : ts ≡ elements t) (last : tail ≡ tail_of t) (ended : ends ≡ is_nil tail) where
    nils_are : is_nil (tail_of t) ≡ ends
    nils_are = ap is_nil (sym last) ∙ sym ended

    escapes_are : (b : Bool) → b ≡ escapes (first_word w.words ts) ends ts → escapes (first_word w.words (elements t)) (is_nil (tail_of t)) (elements t) ≡ b
    escapes_are b e = (λ i. escapes (first_word w.words (sym are i)) (nils_are i) (sym are i)) ∙ sym e

    splits_are : (b : Bool) → b ≡ splits w.words ends ts → splits w.words (is_nil (tail_of t)) (elements t) ≡ b
    splits_are b e = (λ i. splits w.words (nils_are i) (sym are i)) ∙ sym e

    pub found_escaped : true ≡ escapes (first_word w.words ts) ends ts → syntax_at w t n is ≡ Ok (unchanged t, is)
    found_escaped e = list_escaped n is t h (escapes_are true e)

    pub found_flat : false ≡ escapes (first_word w.words ts) ends ts → false ≡ splits w.words ends ts → syntax_at w t n is ≡ flat_list w t ts tail n is
    found_flat k e = list_flat n is t h (escapes_are false k) (splits_are false e) ∙ (λ i. flat_list w t (sym are i) (sym last i) n is)

    pub found_split : (rest : Tree) → false ≡ escapes (first_word w.words ts) ends ts → true ≡ splits w.words ends ts → rest ≡ rest_at (length ts - 2) t
        → syntax_at w t n is ≡ split_list w t (take (length ts - 2) ts) (last_list w rest (drop (length ts - 2) ts) tail) n is
    found_split rest k e behind =
        list_split n is t h (escapes_are false k) (splits_are true e)
        ∙ (λ i. split_list w t (take (length (sym are i) - 2) (sym are i)) (last_list w (rest_at (length (sym are i) - 2) t) (drop (length (sym are i) - 2) (sym are i)) (sym last i)) n is)
        ∙ ap (λ r. split_list w t (take (length ts - 2) ts) (last_list w r (drop (length ts - 2) ts) tail) n is) (sym behind)
