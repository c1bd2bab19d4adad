-- What the pieces of a list put before a rest.
use Rattle.std.proofs.Common.{◌≡◌, Bool, true, false, List, [], ◌∷◌, ◌++◌, map, None, refl, ap, sym, ◌∙◌, append_assoc}
use Rattle.std.specs.Prelude.{if◌then◌else◌}
use Rattle.stx_tree.specs.Tree.{Tree, atom, leaf, pair, vector, nil, chain}
use Rattle.stx_tree.proofs.TreeLaws.{chain-append}
use Rattle.core_shapes.specs.Lists.{is_nil, elements}
use Rattle.core_shapes.proofs.WrittenLaws.{nil_atom}
use Rattle.core_quasi.specs.Plan.{PlainQuasi, constant, expression, call, quasis}
use Rattle.core_quasi.specs.Quasi.{closed, expressions, with_each, with_splices, is_constant, with_item, is_end, made_of}
use Rattle.core_quasi.specs.declared.maker.Maker.TheVariants as maker
use Rattle.core_quasi.specs.declared.quasi.Pieces.{Pieces}
use Rattle.core_quasi.proofs.Levels.{elements_chain}
use Rattle.law_quasi.specs.Makes.{FilledBy, plain, cons_on, cons_star, append_on, append, makes, values}
use Rattle.law_quasi.specs.Filled.{spliced}

-- Lists.

pub map_joined : {A B : Type 0} (g : A → B) (xs ys : List A) → map g (xs ++ ys) ≡ map g xs ++ map g ys
map_joined g [] ys = refl
map_joined g (x ∷ xs) ys = ap (λ zs. g x ∷ zs) (map_joined g xs ys)

pub nil_is : (t : Tree) → is_nil t ≡ true → plain t ≡ nil
nil_is (atom s a) h = ap (atom None) (nil_atom a h)
nil_is (leaf s x c) h = absurd (cc)
nil_is (pair s a d) h = absurd (cc)
nil_is (vector s d) h = absurd (cc)

-- the elements of each before a rest
abbrev pub all_put : List Tree → Tree → Tree
all_put [] r = r
all_put (v ∷ vs) r = chain (elements v) (all_put vs r)

pub put_joined : (vs us : List Tree) (r : Tree) → all_put (vs ++ us) r ≡ all_put vs (all_put us r)
put_joined [] us r = refl
put_joined (v ∷ vs) us r = ap (chain (elements v)) (put_joined vs us r)

append_on_is : (v : Tree) (vs : List Tree) (u : Tree) → append_on v (vs ++ u ∷ []) ≡ chain (elements v) (all_put vs u)
append_on_is v [] u = refl
append_on_is v (x ∷ xs) u = ap (chain (elements v)) (append_on_is x xs u)

pub append_is : (vs : List Tree) (u : Tree) → append (vs ++ u ∷ []) ≡ all_put vs u
append_is [] u = refl
append_is (v ∷ vs) u = append_on_is v vs u

cons_on_is : (v : Tree) (vs : List Tree) (u : Tree) → cons_on v (vs ++ u ∷ []) ≡ pair None v (chain vs u)
cons_on_is v [] u = refl
cons_on_is v (x ∷ xs) u = ap (pair None v) (cons_on_is x xs u)

pub cons_is : (vs : List Tree) (u : Tree) → cons_star (vs ++ u ∷ []) ≡ chain vs u
cons_is [] u = refl
cons_is (v ∷ vs) u = cons_on_is v vs u

pub not_constant : (parts run : List PlainQuasi) (tail : PlainQuasi) → is_constant (made_of parts run tail) ≡ false
not_constant [] run tail = go (is_end tail)
  where
    go : (b : Bool) → is_constant (if b then call maker.List (quasis run) else call maker.ConsStar (quasis (run ++ tail ∷ []))) ≡ false
    go true = refl
    go false = refl
not_constant (q ∷ qs) run tail = refl

pub not_fixed : (p : Pieces) (es : List Tree) → (with_splices p es).fixed ≡ false
not_fixed p [] = refl
not_fixed p (e ∷ es) = refl

module _ (f : FilledBy) where
  pub values_are : (qs : List PlainQuasi) → values f (quasis qs) ≡ map (makes f) qs
  values_are [] = refl
  values_are (q ∷ qs) = ap (λ vs. makes f q ∷ vs) (values_are qs)

  abbrev pub puts : Pieces → Tree → Tree
  puts p r = all_put (map (makes f) p.parts) (chain (map (makes f) p.run) r)

  closed_put : (run : List PlainQuasi) (r : Tree) → all_put (map (makes f) (closed run)) r ≡ chain (map (makes f) run) r
  closed_put [] r = refl
  closed_put (q ∷ qs) r = ap (λ vs. chain vs r) (elements_chain (values f (quasis (q ∷ qs))) ∙ values_are (q ∷ qs))

  expressions_made : (es : List Tree) → map (makes f) (expressions es) ≡ map f es
  expressions_made [] = refl
  expressions_made (e ∷ es) = ap (λ vs. f e ∷ vs) (expressions_made es)

  expressions_put : (es : List Tree) (r : Tree) → all_put (map (makes f) (expressions es)) r ≡ spliced f es r
  expressions_put [] r = refl
  expressions_put (e ∷ es) r = ap (chain (elements (f e))) (expressions_put es r)

  pub each_put : (p : Pieces) (es : List Tree) (r : Tree) → puts (with_each p es) r ≡ puts p (chain (map f es) r)
  each_put p es r =
      ap (all_put (map (makes f) p.parts))
      (ap (λ vs. chain vs r) (map_joined (makes f) p.run (expressions es))
      ∙ chain-append (map (makes f) p.run) (map (makes f) (expressions es)) r
      ∙ ap (λ vs. chain (map (makes f) p.run) (chain vs r)) (expressions_made es))

  pub splices_put : (p : Pieces) (es : List Tree) (r : Tree) → puts (with_splices p es) r ≡ puts p (spliced f es r)
  splices_put p [] r = refl
  splices_put p (e ∷ es) r =
      ap (λ vs. all_put vs r) (map_joined (makes f) p.parts (closed p.run ++ expressions (e ∷ es)) ∙ ap (λ vs. map (makes f) p.parts ++ vs) (map_joined (makes f) (closed p.run) (expressions (e ∷ es))))
      ∙ put_joined (map (makes f) p.parts) (map (makes f) (closed p.run) ++ map (makes f) (expressions (e ∷ es))) r
      ∙ ap (all_put (map (makes f) p.parts))
      (put_joined (map (makes f) (closed p.run)) (map (makes f) (expressions (e ∷ es))) r
      ∙ closed_put p.run (all_put (map (makes f) (expressions (e ∷ es))) r)
      ∙ ap (chain (map (makes f) p.run)) (expressions_put (e ∷ es) r))

  pub item_put : (p : Pieces) (q : PlainQuasi) (r : Tree) → puts (with_item p q) r ≡ puts p (pair None (makes f q) r)
  item_put p q r =
      ap (all_put (map (makes f) p.parts))
      (ap (λ vs. chain vs r) (map_joined (makes f) p.run (q ∷ [])) ∙ chain-append (map (makes f) p.run) (makes f q ∷ []) r)

  end_made : (q : PlainQuasi) → is_end q ≡ true → makes f q ≡ nil
  end_made (constant t) h = nil_is t h
  end_made (expression e) h = absurd (cc)
  end_made (call m qs) h = absurd (cc)

  -- the call that makes a list of pieces before a tail
  pub made : (parts run : List PlainQuasi) (tail : PlainQuasi) → makes f (made_of parts run tail) ≡ all_put (map (makes f) parts) (chain (map (makes f) run) (makes f tail))
  made [] run tail = go (is_end tail) refl
    where
      go : (b : Bool) → is_end tail ≡ b
          → makes f (if b then call maker.List (quasis run) else call maker.ConsStar (quasis (run ++ tail ∷ []))) ≡ chain (map (makes f) run) (makes f tail)
      go true e = ap (λ vs. chain vs nil) (values_are run) ∙ ap (chain (map (makes f) run)) (sym (end_made tail e))
      go false e = ap cons_star (values_are (run ++ tail ∷ []) ∙ map_joined (makes f) run (tail ∷ [])) ∙ cons_is (map (makes f) run) (makes f tail)
  made (q ∷ qs) run tail =
      ap append
      (values_are ((q ∷ qs) ++ (closed run ++ tail ∷ []))
      ∙ map_joined (makes f) (q ∷ qs) (closed run ++ tail ∷ [])
      ∙ ap (λ vs. map (makes f) (q ∷ qs) ++ vs) (map_joined (makes f) (closed run) (tail ∷ []))
      ∙ sym (append_assoc (map (makes f) (q ∷ qs)) (map (makes f) (closed run)) (makes f tail ∷ [])))
      ∙ append_is (map (makes f) (q ∷ qs) ++ map (makes f) (closed run)) (makes f tail)
      ∙ put_joined (map (makes f) (q ∷ qs)) (map (makes f) (closed run)) (makes f tail)
      ∙ ap (all_put (map (makes f) (q ∷ qs))) (closed_put run (makes f tail))
