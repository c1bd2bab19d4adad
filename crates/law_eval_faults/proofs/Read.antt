-- An output is read exactly where all that it holds is syntax, but for fuel and the limits of trees.
use Rattle.std.proofs.Common.{◌≡◌, ◌-◌, ℕ, zero, suc, List, [], ◌∷◌, ◌++◌, Option, Some, None, Bool, true, false, Ok, Err, refl, sym, ap, ◌∙◌, subst, length, inl, inr, if◌then◌else◌}
use Rattle.std.specs.Prelude.{◌⊎◌, nat_le}
use Rattle.std.specs.Str.{chars}
use Rattle.base_data.specs.Gives.{◌>>=◌}
use Rattle.base_data.specs.declared.fault.Bare.{Bare}
use Rattle.base_region.specs.declared.region.Place.{Place}
use Rattle.stx_tree.specs.Measures.{within, fits, too_deep}
use Rattle.stx_tree.specs.Tree.{Tree, pair, vector_of, rest_of}
use Rattle.eval_value.specs.Cells.{pair_at, vector_at, string_at}
use Rattle.eval_value.specs.ToSyntax.{fuel_spent, Reading, spend, leaving, pair_before, elements_read, shown, pair_shown, vector_shown, string_shown, level, read_to, to_syntax}
use Rattle.eval_value.specs.declared.cell.Cell.{Cell}
use Rattle.eval_value.specs.declared.value.Value.{Value}
use Rattle.eval_value.specs.declared.value.Value.TheVariants as value
use Rattle.law_eval_faults.specs.Outputs.{IsNoSyntax, Holds, SomeHolds, IsUnread, OutputsAreRead}
use Rattle.law_eval_faults.specs.Outputs as o

module _ (cells : List Cell) where
  -- nothing of this is without syntax
  abbrev Clean : (Value → Type 0) → Type 0
  Clean H = (y : Value) (f : Bare) → H y → IsNoSyntax cells y f → ⊥

  -- something is, or there is a limit
  abbrev Unread : (Value → Type 0) → Bare → Type 0
  Unread H f = ((y : Value) × (H y × IsNoSyntax cells y f)) ⊎ ((f ≡ fuel_spent) ⊎ (f ≡ too_deep))

  abbrev Well : {A : Type 0} → (Value → Type 0) → Reading A → Type 0
  Well H (Ok p) = Clean H
  Well H (Err f) = Unread H f

  more-unread : (G H : Value → Type 0) → ((y : Value) → G y → H y) → (f : Bare) → Unread G f → Unread H f
  more-unread G H k f u = elim u [
    | inl p ↦ inl (p.0, (k p.0 p.1.0, p.1.1))
    | inr e ↦ inr e
  ]

  well-spend : {A : Type 0} (H : Value → Type 0) (cost : ℕ) (next : ℕ → Reading A) (fuel : ℕ) → ((left : ℕ) → Well H (next left)) → Well H (spend cost next fuel)
  unfolding spend
  well-spend H cost next fuel h = by (nat_le cost fuel)
    where
      by : (b : Bool) → Well H (if b then next (fuel - cost) else Err fuel_spent)
      by true = h (fuel - cost)
      by false = inr (inl refl)

  well-then : {A B : Type 0} (G H : Value → Type 0) → ((y : Value) → G y → H y) → (q : Reading A) (go : A × ℕ → Reading B) → Well G q → ((p : A × ℕ) → Clean G → Well H (go p)) → Well H (q >>= go)
  well-then G H k (Ok p) go h rest = rest p h
  well-then G H k (Err f) go h rest = more-unread G H k f h

  well-within : (H : Value → Type 0) (t : Tree) (left : ℕ) → Clean H → Well H (leaving left (within t))
  unfolding within
  well-within H t left h = by (fits t)
    where
      by : (b : Bool) → Well H (leaving left (if b then Ok t else Err too_deep))
      by true = h
      by false = inr (inr refl)

  abbrev Of : Value → Value → Type 0
  Of x y = Holds cells y x

  abbrev OfAll : List Value → Value → Type 0
  OfAll xs y = SomeHolds cells y xs

  -- what has no parts, and is syntax
  abbrev IsPlain : Value → Type 0
  IsPlain (value.Atom x) = Unit {0}
  IsPlain (value.Syn t) = Unit {0}
  IsPlain _ = ⊥

  plain-is-syntax : (x : Value) → IsPlain x → (f : Bare) → IsNoSyntax cells x f → ⊥
  plain-is-syntax _ h _ (o.a_symbol) = h
  plain-is-syntax _ h _ (o.unspecified) = h
  plain-is-syntax _ h _ (o.a_procedure) = h
  plain-is-syntax _ h _ (o.a_primitive) = h
  plain-is-syntax _ h _ (o.a_transformer) = h
  plain-is-syntax _ h _ (o.no_pair e) = h
  plain-is-syntax _ h _ (o.no_vector e) = h
  plain-is-syntax _ h _ (o.no_string e) = h

  plain-clean : (x : Value) → IsPlain x → Clean (Of x)
  plain-clean x h y f (o.itself) n = plain-is-syntax x h f n
  plain-clean _ h y f (o.in_car e k) n = h
  plain-clean _ h y f (o.in_cdr e k) n = h
  plain-clean _ h y f (o.in_vector e k) n = h

  text-clean : (p : Place) (s : List ℕ) → string_at cells p.0 ≡ Some s → Clean (Of (value.Str p))
  text-clean p s e y f h n = by (value.Str p) refl y h n
    where
      no-string : (x : Value) (g : Bare) → x ≡ value.Str p → IsNoSyntax cells x g → ⊥
      no-string _ _ same (o.a_symbol) = let z : ⊥ = cc in z
      no-string _ _ same (o.unspecified) = let z : ⊥ = cc in z
      no-string _ _ same (o.a_procedure) = let z : ⊥ = cc in z
      no-string _ _ same (o.a_primitive) = let z : ⊥ = cc in z
      no-string _ _ same (o.a_transformer) = let z : ⊥ = cc in z
      no-string _ _ same (o.no_pair k) = let z : ⊥ = cc in z
      no-string _ _ same (o.no_vector k) = let z : ⊥ = cc in z
      no-string _ _ same (o.no_string {p = q} k) = let same-place : q ≡ p = cc in let z : None ≡ Some s = sym k ∙ ap (λ (r : Place). string_at cells r.0) same-place ∙ e in let w : ⊥ = cc in w

      by : (x : Value) → x ≡ value.Str p → (y : Value) → Holds cells y x → IsNoSyntax cells y f → ⊥
      by x same _ (o.itself) n = no-string x f same n
      by _ same y (o.in_car k h) n = let z : ⊥ = cc in z
      by _ same y (o.in_cdr k h) n = let z : ⊥ = cc in z
      by _ same y (o.in_vector k h) n = let z : ⊥ = cc in z

  pair-clean : (p : Place) (a d : Value) → pair_at cells p.0 ≡ Some (a, d) → Clean (Of a) → Clean (Of d) → Clean (Of (value.Pair p))
  pair-clean p a d e car cdr y f h n = by (value.Pair p) refl y h n
    where
      no-pair : (x : Value) (g : Bare) → x ≡ value.Pair p → IsNoSyntax cells x g → ⊥
      no-pair _ _ same (o.a_symbol) = let z : ⊥ = cc in z
      no-pair _ _ same (o.unspecified) = let z : ⊥ = cc in z
      no-pair _ _ same (o.a_procedure) = let z : ⊥ = cc in z
      no-pair _ _ same (o.a_primitive) = let z : ⊥ = cc in z
      no-pair _ _ same (o.a_transformer) = let z : ⊥ = cc in z
      no-pair _ _ same (o.no_pair {p = q} k) = let same-place : q ≡ p = cc in let z : ◌≡◌ {A = Option (Value × Value)} None (Some (a, d)) = sym k ∙ ap (λ (r : Place). pair_at cells r.0) same-place ∙ e in let w : ⊥ = cc in w
      no-pair _ _ same (o.no_vector k) = let z : ⊥ = cc in z
      no-pair _ _ same (o.no_string k) = let z : ⊥ = cc in z

      parts : (q : Place) (x b : Value) → value.Pair q ≡ value.Pair p → ◌≡◌ {A = Option (Value × Value)} (pair_at cells q.0) (Some (x, b)) → ◌≡◌ {A = Value × Value} (x, b) (a, d)
      parts q x b same k =
          let same-place : q ≡ p = cc in
          let z : ◌≡◌ {A = Option (Value × Value)} (Some (x, b)) (Some (a, d)) = sym k ∙ ap (λ (r : Place). pair_at cells r.0) same-place ∙ e in cc

      by : (x : Value) → x ≡ value.Pair p → (y : Value) → Holds cells y x → IsNoSyntax cells y f → ⊥
      by x same _ (o.itself) n = no-pair x f same n
      by _ same y (o.in_car {p = q} {x = x} {d = b} k h) n = car y f (subst (λ z. Holds cells y z) (ap (λ (c : Value × Value). c.0) (parts q x b same k)) h) n
      by _ same y (o.in_cdr {p = q} {x = x} {d = b} k h) n = cdr y f (subst (λ z. Holds cells y z) (ap (λ (c : Value × Value). c.1) (parts q x b same k)) h) n
      by _ same y (o.in_vector k h) n = let z : ⊥ = cc in z

  vector-clean : (p : Place) (xs : List Value) → vector_at cells p.0 ≡ Some xs → Clean (OfAll xs) → Clean (Of (value.Vector p))
  vector-clean p xs e all y f h n = by (value.Vector p) refl y h n
    where
      no-vector : (x : Value) (g : Bare) → x ≡ value.Vector p → IsNoSyntax cells x g → ⊥
      no-vector _ _ same (o.a_symbol) = let z : ⊥ = cc in z
      no-vector _ _ same (o.unspecified) = let z : ⊥ = cc in z
      no-vector _ _ same (o.a_procedure) = let z : ⊥ = cc in z
      no-vector _ _ same (o.a_primitive) = let z : ⊥ = cc in z
      no-vector _ _ same (o.a_transformer) = let z : ⊥ = cc in z
      no-vector _ _ same (o.no_pair k) = let z : ⊥ = cc in z
      no-vector _ _ same (o.no_vector {p = q} k) = let same-place : q ≡ p = cc in let z : None ≡ Some xs = sym k ∙ ap (λ (r : Place). vector_at cells r.0) same-place ∙ e in let w : ⊥ = cc in w
      no-vector _ _ same (o.no_string k) = let z : ⊥ = cc in z

      elements : (q : Place) (zs : List Value) → value.Vector q ≡ value.Vector p → vector_at cells q.0 ≡ Some zs → zs ≡ xs
      elements q zs same k =
          let same-place : q ≡ p = cc in
          let z : ◌≡◌ {A = Option (List Value)} (Some zs) (Some xs) = sym k ∙ ap (λ (r : Place). vector_at cells r.0) same-place ∙ e in cc

      by : (x : Value) → x ≡ value.Vector p → (y : Value) → Holds cells y x → IsNoSyntax cells y f → ⊥
      by x same _ (o.itself) n = no-vector x f same n
      by _ same y (o.in_car k h) n = let z : ⊥ = cc in z
      by _ same y (o.in_cdr k h) n = let z : ⊥ = cc in z
      by _ same y (o.in_vector {p = q} {xs = zs} k h) n = all y f (subst (λ c. SomeHolds cells y c) (elements q zs same k) h) n

  none-clean : Clean (OfAll [])
  none-clean y f h n = by [] refl h
    where
      by : (xs : List Value) → xs ≡ [] → SomeHolds cells y xs → ⊥
      by _ e (o.first_holds h) = let z : ⊥ = cc in z
      by _ e (o.others_hold h) = let z : ⊥ = cc in z

  more-clean : (x : Value) (xs : List Value) → Clean (Of x) → Clean (OfAll xs) → Clean (OfAll (x ∷ xs))
  more-clean x xs c cs y f h n = by (x ∷ xs) refl h
    where
      by : (zs : List Value) → zs ≡ x ∷ xs → SomeHolds cells y zs → ⊥
      by _ e (o.first_holds {x = z} {xs = zs} h) = c y f (subst (λ v. Holds cells y v) (let same : z ≡ x = cc in same) h) n
      by _ e (o.others_hold {x = z} {xs = zs} h) = cs y f (subst (λ v. SomeHolds cells y v) (let same : zs ≡ xs = cc in same) h) n

  module _ (read : Value → ℕ → Reading Tree) (well : (x : Value) (fuel : ℕ) → Well (Of x) (read x fuel)) where
    well-elements : (done : List Tree) (xs : List Value) (fuel : ℕ) → Well (OfAll xs) (elements_read read done xs fuel)
    unfolding elements_read
    well-elements done [] fuel = none-clean
    well-elements done (x ∷ xs) fuel =
        well-spend (OfAll (x ∷ xs)) 1 (λ left. read x left >>= λ p. elements_read read (done ++ p.0 ∷ []) xs p.1) fuel
        (λ left. well-then (Of x) (OfAll (x ∷ xs)) (λ y h. o.first_holds h) (read x left) (λ p. elements_read read (done ++ p.0 ∷ []) xs p.1) (well x left)
        (λ p c. rest c (elements_read read (done ++ p.0 ∷ []) xs p.1) (well-elements (done ++ p.0 ∷ []) xs p.1)))
      where
        rest : Clean (Of x) → (q : Reading (List Tree)) → Well (OfAll xs) q → Well (OfAll (x ∷ xs)) q
        rest c (Ok p) cs = more-clean x xs c cs
        rest c (Err f) u = more-unread (OfAll xs) (OfAll (x ∷ xs)) (λ y h. o.others_hold h) f u

    well-pair : (p : Place) (q : Option (Value × Value)) → pair_at cells p.0 ≡ q → (fuel : ℕ) → Well (Of (value.Pair p)) (level read (pair_shown q) fuel)
    unfolding level
    well-pair p None e fuel = inl (value.Pair p, (o.itself, o.no_pair e))
    well-pair p (Some (x, d)) e fuel =
        well-spend (Of (value.Pair p)) 1 (λ left. read x left >>= λ q. pair_before q.0 (read d q.1)) fuel
        (λ left. well-then (Of x) (Of (value.Pair p)) (λ y h. o.in_car e h) (read x left) (λ q. pair_before q.0 (read d q.1)) (well x left)
        (λ q c. well-then (Of d) (Of (value.Pair p)) (λ y h. o.in_cdr e h) (read d q.1) (λ z. leaving z.1 (within (pair None q.0 (rest_of z.0)))) (well d q.1)
        (λ z k. well-within (Of (value.Pair p)) (pair None q.0 (rest_of z.0)) z.1 (pair-clean p x d e c k))))

    well-vector : (p : Place) (q : Option (List Value)) → vector_at cells p.0 ≡ q → (fuel : ℕ) → Well (Of (value.Vector p)) (level read (vector_shown q) fuel)
    unfolding level
    well-vector p None e fuel = inl (value.Vector p, (o.itself, o.no_vector e))
    well-vector p (Some xs) e fuel =
        well-then (OfAll xs) (Of (value.Vector p)) (λ y h. o.in_vector e h) (elements_read read [] xs fuel) (λ z. leaving z.1 (within (vector_of z.0))) (well-elements [] xs fuel)
        (λ z c. well-within (Of (value.Vector p)) (vector_of z.0) z.1 (vector-clean p xs e c))

    well-string : (p : Place) (q : Option (List ℕ)) → string_at cells p.0 ≡ q → (fuel : ℕ) → Well (Of (value.Str p)) (level read (string_shown q) fuel)
    unfolding level
    well-string p None e fuel = inl (value.Str p, (o.itself, o.no_string e))
    well-string p (Some s) e fuel = well-spend (Of (value.Str p)) (length (chars s)) _ fuel (λ left. text-clean p s e)

    well-level : (x : Value) (fuel : ℕ) → Well (Of x) (level read (shown cells x) fuel)
    unfolding level
    well-level value.Unspecified fuel = inl (value.Unspecified, (o.itself, o.unspecified))
    well-level (value.Atom x) fuel = plain-clean (value.Atom x) tt
    well-level (value.Symbol s) fuel = inl (value.Symbol s, (o.itself, o.a_symbol))
    well-level (value.Pair p) fuel = well-pair p (pair_at cells p.0) refl fuel
    well-level (value.Vector p) fuel = well-vector p (vector_at cells p.0) refl fuel
    well-level (value.Str p) fuel = well-string p (string_at cells p.0) refl fuel
    well-level (value.Closure code p) fuel = inl (value.Closure code p, (o.itself, o.a_procedure))
    well-level (value.Prim op) fuel = inl (value.Prim op, (o.itself, o.a_primitive))
    well-level (value.Syn t) fuel = plain-clean (value.Syn t) tt
    well-level (value.Transformer p) fuel = inl (value.Transformer p, (o.itself, o.a_transformer))

  well-to : (levels : ℕ) (x : Value) (fuel : ℕ) → Well (Of x) (read_to levels cells x fuel)
  unfolding read_to
  well-to zero x fuel = inr (inl refl)
  well-to (suc levels) x fuel = well-level (read_to levels cells) (well-to levels) x fuel

  well-read : (x : Value) (fuel : ℕ) → Well (Of x) (to_syntax cells x fuel)
  unfolding to_syntax
  well-read x fuel = well-to (suc fuel) x fuel

  is-unread : (x : Value) (f : Bare) → Unread (Of x) f → IsUnread cells x f
  is-unread x f u = elim u [
    | inl p ↦ o.no_syntax p.1.0 p.1.1
    | inr v ↦ elim v [
      | inl e ↦ subst (λ g. IsUnread cells x g) (sym e) o.no_fuel
      | inr e ↦ subst (λ g. IsUnread cells x g) (sym e) o.no_room
    ]
  ]

pub outputs-are-read : OutputsAreRead
outputs-are-read = record {
  refused = λ cells x fuel f h. is-unread cells x f (subst (λ q. Well cells (Of cells x) q) h (well-read cells x fuel));
  read = λ cells x y fuel left t f h. subst (λ q. Well cells (Of cells x) q) h (well-read cells x fuel) y f;
}
