-- Walking along a list.
use Rattle.std.proofs.Common.{◌≡◌, ℕ, suc, ◌+◌, ◌<◌, ◌≤◌, length, get_or, drop, List, [], ◌∷◌, ◌++◌, Option, None, Some, refl, ap, sym, ◌∙◌, add-one, drop-cons}
use Rattle.std.proofs.lemmas.List.{drop_all}
use Rattle.stx_tree.specs.Tree.{Tree, atom, leaf, pair, vector}
use Rattle.core_shapes.specs.Lists.{split_first, elements, tail_of, if_some, all_of}
use Rattle.core_shapes.specs.declared.lists.Split.{Split}

pub elements_on : (t : Tree) (p : Split) → split_first t ≡ Some p → elements t ≡ p.first ∷ elements p.rest
elements_on (atom s a) p h = absurd (cc)
elements_on (leaf s x c) p h = absurd (cc)
elements_on (pair s a d) p h = let e : record { first = a; rest = d } ≡ p = cc in ap (λ (q : Split). q.first ∷ elements q.rest) e
elements_on (vector s d) p h = absurd (cc)

pub tail_on : (t : Tree) (p : Split) → split_first t ≡ Some p → tail_of t ≡ tail_of p.rest
tail_on (atom s a) p h = absurd (cc)
tail_on (leaf s x c) p h = absurd (cc)
tail_on (pair s a d) p h = let e : record { first = a; rest = d } ≡ p = cc in ap (λ (q : Split). tail_of q.rest) e
tail_on (vector s d) p h = absurd (cc)

pub elements_end : (t : Tree) → split_first t ≡ None → elements t ≡ []
elements_end (atom s a) h = refl
elements_end (leaf s x c) h = refl
elements_end (pair s a d) h = absurd (cc)
elements_end (vector s d) h = refl

pub tail_end : (t : Tree) → split_first t ≡ None → tail_of t ≡ t
tail_end (atom s a) h = refl
tail_end (leaf s x c) h = refl
tail_end (pair s a d) h = absurd (cc)
tail_end (vector s d) h = refl

module _ {X Y : Type 0} (f : X → Option Y) (done : List Y) (items : List X) (i : ℕ) where
  all_here : (item : X) → i < length items → item ≡ get_or items i item
      → all_of f done (drop i items) ≡ if_some (f item) (λ y. all_of f (done ++ y ∷ []) (drop (i + 1) items))
  unfolding all_of
  all_here item h e =
      let cons : drop i items ≡ item ∷ drop (i + 1) items = rw add-one (drop-cons items i item h ∙ ap (λ x. x ∷ drop (suc i) items) (sym e)) in
      rw cons refl

  -- an element gives something: the rest goes on from there
  pub all_on : (item : X) (total : Option (List Y)) (y : Y) → i < length items → item ≡ get_or items i item
      → f item ≡ Some y → all_of f done (drop i items) ≡ total → all_of f (done ++ y ∷ []) (drop (i + 1) items) ≡ total
  all_on item total y h e given so_far =
      sym (all_here item h e ∙ ap (λ r. if_some r (λ z. all_of f (done ++ z ∷ []) (drop (i + 1) items))) given) ∙ so_far

  -- an element gives nothing: so do all
  pub all_none : (item : X) (total : Option (List Y)) → i < length items → item ≡ get_or items i item
      → f item ≡ None → all_of f done (drop i items) ≡ total → total ≡ None
  all_none item total h e given so_far =
      sym so_far ∙ all_here item h e ∙ ap (λ r. if_some r (λ z. all_of f (done ++ z ∷ []) (drop (i + 1) items))) given

  -- no element is left
  pub all_done : (total : Option (List Y)) → length items ≤ i → all_of f done (drop i items) ≡ total → total ≡ Some done
  unfolding all_of
  all_done total h so_far =
      let none : drop i items ≡ [] = drop_all i items h in
      sym so_far ∙ rw none refl
