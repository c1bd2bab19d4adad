-- The one length of a list of lengths, part after part.
use Rattle.std.proofs.Common.{◌≡◌, ℕ, suc, ◌+◌, ◌<◌, Bool, true, false, List, [], ◌∷◌, ◌++◌, Option, None, Some, Ok, Err, length, get_or, drop, drop-cons, refl, ap, sym, ◌∙◌, add-one}
use Rattle.std.specs.Prelude.{nat_eq, if◌then◌else◌}
use Rattle.base_data.specs.Gives.{◌>>=◌}
use Rattle.base_data.specs.declared.fault.Bare.{Bare}
use Rattle.core_language.specs.Template.{more}
use Rattle.core_language.specs.TemplateView.{items}
use Rattle.core_language.specs.declared.template.TemplateItem.{TemplateItem}
use Rattle.eval_template.specs.Binds.{Binds, unbound}
use Rattle.eval_template.specs.Lengths.{lengths, items_lengths, differing, agree}

agree-append : (m : Option ℕ) (xs ys : List ℕ) → agree m (xs ++ ys) ≡ (agree m xs >>= λ n. agree n ys)
agree-append m [] ys = refl
agree-append None (x ∷ xs) ys = agree-append (Some x) xs ys
agree-append (Some m) (x ∷ xs) ys = go (agree-append (Some m) xs ys) (nat_eq m x)
  where
    go : agree (Some m) (xs ++ ys) ≡ (agree (Some m) xs >>= λ n. agree n ys) → (b : Bool)
        → (if b then agree (Some m) (xs ++ ys) else Err (differing m x)) ≡ ((if b then agree (Some m) xs else Err (differing m x)) >>= λ n. agree n ys)
    go ih true = ih
    go ih false = refl

pub agree_on : (m n : Option ℕ) (xs ys : List ℕ) → agree m xs ≡ Ok n → agree m (xs ++ ys) ≡ agree n ys
agree_on m n xs ys e = agree-append m xs ys ∙ ap (λ r. r >>= λ n. agree n ys) e

pub agree_stops : (m : Option ℕ) (f : Bare) (xs ys : List ℕ) → agree m xs ≡ Err f → agree m (xs ++ ys) ≡ Err f
agree_stops m f xs ys e = agree-append m xs ys ∙ ap (λ r. r >>= λ n. agree n ys) e

module _ (is : List TemplateItem) (i : ℕ) (x : TemplateItem) (h : i < length is) (e : x ≡ get_or is i x) where
  pub items_here : items (drop i is) ≡ more x.template x.ellipses (items (drop (i + 1) is))
  items_here =
      let cons : drop i is ≡ x ∷ drop (i + 1) is = rw add-one (drop-cons is i x h ∙ ap (λ y. y ∷ drop (suc i) is) (sym e)) in
      ap items cons

  module _ (binds : Binds) (turns : List ℕ) (inside : ℕ) (m : Option ℕ) where
    pub agreed_here : (n : Option ℕ) → agree m (lengths unbound binds turns (inside + x.ellipses) x.template) ≡ Ok n
        → agree m (items_lengths unbound binds turns inside (items (drop i is))) ≡ agree n (items_lengths unbound binds turns inside (items (drop (i + 1) is)))
    agreed_here n g =
        ap (λ js. agree m (items_lengths unbound binds turns inside js)) items_here
        ∙ agree_on m n (lengths unbound binds turns (inside + x.ellipses) x.template) (items_lengths unbound binds turns inside (items (drop (i + 1) is))) g

    pub agreed_stops : (f : Bare) → agree m (lengths unbound binds turns (inside + x.ellipses) x.template) ≡ Err f
        → agree m (items_lengths unbound binds turns inside (items (drop i is))) ≡ Err f
    agreed_stops f g =
        ap (λ js. agree m (items_lengths unbound binds turns inside js)) items_here
        ∙ agree_stops m f (lengths unbound binds turns (inside + x.ellipses) x.template) (items_lengths unbound binds turns inside (items (drop (i + 1) is))) g
