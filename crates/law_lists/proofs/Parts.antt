-- In whole cells the parts of a value lie below it.
use Rattle.std.proofs.Common.{◌≡◌, ℕ, suc, ◌<◌, ◌≤◌, List, [], ◌∷◌, length, Option, None, Some, refl, subst, ap, arith, slice_get}
use Rattle.base_data.specs.Elements.{Each}
use Rattle.eval_value.specs.Cells.{pair_in, pair_at, vector_in, vector_at, is_found, IsBelow, Lies, WholeCells}
use Rattle.eval_value.specs.declared.cell.Cell.{Cell}
use Rattle.eval_value.specs.declared.cell.Cell.TheVariants as cell
use Rattle.eval_value.specs.declared.value.Value.{Value}
use Rattle.eval_value.specs.declared.value.Value.TheVariants as value
use Rattle.eval_value.proofs.Wholes.{found_below}
use Rattle.eval_prims.specs.Parts.{parts_in, parts_of}

pub below_more : (m n : ℕ) (x : Value) → m ≤ n → IsBelow m x → IsBelow n x
below_more m n value.Unspecified h b = tt
below_more m n (value.Atom a) h b = tt
below_more m n (value.Symbol s) h b = tt
below_more m n (value.Pair p) h b = omega (arith, h, b)
below_more m n (value.Vector p) h b = omega (arith, h, b)
below_more m n (value.Str p) h b = omega (arith, h, b)
below_more m n (value.Closure c p) h b = omega (arith, h, b)
below_more m n (value.Prim o) h b = tt
below_more m n (value.Syn t) h b = tt
below_more m n (value.Transformer p) h b = omega (arith, h, b)

pub pair_within : (cells : List Cell) (n : ℕ) (x d : Value) → pair_at cells n ≡ Some (x, d) → n < length cells
pair_within cells n x d e = found_below (λ o. is_found (pair_in o)) refl cells n (ap is_found e)

pub vector_within : (cells : List Cell) (n : ℕ) (xs : List Value) → vector_at cells n ≡ Some xs → n < length cells
vector_within cells n xs e = found_below (λ o. is_found (vector_in o)) refl cells n (ap is_found e)

no_parts_at : (cells : List Cell) (n : ℕ) → n < 0 → ⊥
no_parts_at cells n h = omega (arith, h)

-- what is below every place has no parts
pub no_parts : (cells : List Cell) (x : Value) → IsBelow 0 x → parts_of cells x ≡ []
no_parts cells value.Unspecified b = refl
no_parts cells (value.Atom a) b = refl
no_parts cells (value.Symbol s) b = refl
no_parts cells (value.Pair p) b = absurd (no_parts_at cells p.0 b)
no_parts cells (value.Vector p) b = absurd (no_parts_at cells p.0 b)
no_parts cells (value.Str p) b = refl
no_parts cells (value.Closure c p) b = refl
no_parts cells (value.Prim o) b = refl
no_parts cells (value.Syn t) b = refl
no_parts cells (value.Transformer p) b = refl

-- what each of some values is
pub each_so : (P Q : Value → Type 0) → ((x : Value) → P x → Q x) → (xs : List Value) → Each P xs → Each Q xs
each_so P Q k [] h = tt
each_so P Q k (x ∷ xs) h = (k x h.0, each_so P Q k xs h.1)

module _ (cells : List Cell) (w : WholeCells cells) where
  pub pair_lies : (n : ℕ) (x d : Value) → pair_at cells n ≡ Some (x, d) → Lies cells n x × Lies cells n d
  pair_lies n x d e = go (slice_get cells n) refl e
    where
      go : (c : Option Cell) → slice_get cells n ≡ c → pair_in c ≡ Some (x, d) → Lies cells n x × Lies cells n d
      go (Some (cell.Pair a b)) f g =
          let is : (a, b) ≡ (x, d) = cc in
          subst (λ (q : Value × Value). Lies cells n q.0 × Lies cells n q.1) is (w.lies n (cell.Pair a b) f)
      go (Some (cell.Vector xs)) f g = absurd (cc)
      go (Some (cell.Str s)) f g = absurd (cc)
      go (Some (cell.Scope xs q)) f g = absurd (cc)
      go (Some (cell.Binds xs q)) f g = absurd (cc)
      go (Some (cell.Transformer y)) f g = absurd (cc)
      go None f g = absurd (cc)

  pub elements_lie : (n : ℕ) (xs : List Value) → vector_at cells n ≡ Some xs → Each (Lies cells n) xs
  elements_lie n xs e = go (slice_get cells n) refl e
    where
      go : (c : Option Cell) → slice_get cells n ≡ c → vector_in c ≡ Some xs → Each (Lies cells n) xs
      go (Some (cell.Vector ys)) f g =
          let is : ys ≡ xs = cc in
          subst (λ (zs : List Value). Each (Lies cells n) zs) is (w.lies n (cell.Vector ys) f)
      go (Some (cell.Pair a b)) f g = absurd (cc)
      go (Some (cell.Str s)) f g = absurd (cc)
      go (Some (cell.Scope zs q)) f g = absurd (cc)
      go (Some (cell.Binds zs q)) f g = absurd (cc)
      go (Some (cell.Transformer y)) f g = absurd (cc)
      go None f g = absurd (cc)

  pub parts_below : (n : ℕ) (x : Value) → IsBelow (suc n) x → Each (IsBelow n) (parts_of cells x)
  parts_below n value.Unspecified b = tt
  parts_below n (value.Atom a) b = tt
  parts_below n (value.Symbol s) b = tt
  parts_below n (value.Pair p) b = by (pair_at cells p.0) refl
    where
      by : (o : Option (Value × Value)) → pair_at cells p.0 ≡ o → Each (IsBelow n) (parts_in o None)
      by None e = tt
      by (Some (x, d)) e = let l = pair_lies p.0 x d e in (below_more p.0 n x (omega (arith, b)) l.0.below, (below_more p.0 n d (omega (arith, b)) l.1.below, tt))
  parts_below n (value.Vector p) b = by (vector_at cells p.0) refl
    where
      by : (o : Option (List Value)) → vector_at cells p.0 ≡ o → Each (IsBelow n) (parts_in None o)
      by None e = tt
      by (Some xs) e = each_so (Lies cells p.0) (IsBelow n) (λ x l. below_more p.0 n x (omega (arith, b)) l.below) xs (elements_lie p.0 xs e)
  parts_below n (value.Str p) b = tt
  parts_below n (value.Closure c p) b = tt
  parts_below n (value.Prim o) b = tt
  parts_below n (value.Syn t) b = tt
  parts_below n (value.Transformer p) b = tt
