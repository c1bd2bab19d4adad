-- What a call of `apply` gives: what the call that it stands for gives.
use Rattle.std.proofs.Common.{◌≡◌, ◌<◌, ◌+◌, ◌-◌, ℕ, zero, suc, List, [], ◌∷◌, ◌++◌, Option, Some, None, length, length-append, refl, ap, sym, ◌∙◌, inl, inr, arith}
use Rattle.base_data.specs.declared.op.names.TheConstants as names
use Rattle.eval_value.specs.declared.value.Value.{Value}
use Rattle.eval_value.specs.declared.value.Value.TheVariants as value
use Rattle.eval_prims.specs.Chains.{list_elements}
use Rattle.eval_code.specs.Meaning.{eval_of, first_called, applied}
use Rattle.eval_code.specs.Setting.{PlainSetting}
use Rattle.eval_code.specs.Spread.{CallBy, apply_args, parted, with_elements, with_front, on_parts, spread_once, spread_on, spread_to, spread}
use Rattle.eval_code.specs.State.{WorldState}
use Rattle.eval_code.proofs.Paid.{within_or_past, charged_paid, charged_short}
use Rattle.eval_code.proofs.Spreading.{parted_last, args_shorter}
use Rattle.law_given.specs.Calls.{CallEnd, ended, call_to, call_of, CallEnds, Calls}
use Rattle.law_given.proofs.Giving.{gives-same}
use Rattle.law_eval.proofs.Carried.{front_shorter}

module _ (s : WorldState) where
  -- two ways to go on are the same where there is so much fuel and so many values
  abbrev SameBelow : ℕ → ℕ → CallBy → CallBy → Type 0
  SameBelow i j g h = (ws : List Value) (m : ℕ) → m + length ws < i → m + length ws < j → g ws m ≡ h ws m

  module _ (i j : ℕ) (g h : CallBy) (same : SameBelow i j g h) where
    same-elements : (front : List Value) (n : ℕ) (o : Option (List Value)) → n + length front < i → n + length front < j → with_elements front s g n o ≡ with_elements front s h n o
    same-elements front n None k l = refl
    same-elements front n (Some xs) k l = elim (within_or_past (length xs) n) [
      | inl p ↦ charged_paid s (g (front ++ xs)) (length xs) n p
          ∙ same (front ++ xs) (n - length xs) (omega (arith, p, k, length-append front xs)) (omega (arith, p, l, length-append front xs))
          ∙ sym (charged_paid s (h (front ++ xs)) (length xs) n p)
      | inr p ↦ charged_short s (g (front ++ xs)) (length xs) n p ∙ sym (charged_short s (h (front ++ xs)) (length xs) n p)
    ]

    same-front : (front : List Value) (last : Value) (n : ℕ) → n + length front < i → n + length front < j → with_front front last s g n ≡ with_front front last s h n
    same-front [] last n k l = refl
    same-front (x ∷ xs) last n k l = same-elements (x ∷ xs) n (list_elements s.cells last) k l

    same-parts : (args : List Value) (n : ℕ) (o : Option (List Value × Value)) → parted args ≡ o → n + length args < suc i → n + length args < suc j → on_parts s g n o ≡ on_parts s h n o
    same-parts args n None e k l = refl
    same-parts args n (Some p) e k l = let shorter = front_shorter args p e in same-front p.0 p.1 n (omega (arith, k, shorter)) (omega (arith, l, shorter))

    same-once : (args : List Value) (n : ℕ) → n + length args < suc i → n + length args < suc j → spread_once args s g n ≡ spread_once args s h n
    unfolding spread_once
    same-once args n k l = same-parts args n (parted args) refl k l

    same-on : (go : CallBy) (vs : List Value) (n : ℕ) (o : Option (List Value)) → apply_args vs ≡ o → n + length vs < suc i → n + length vs < suc j → spread_on s g (go vs) n o ≡ spread_on s h (go vs) n o
    same-on go vs n None e k l = refl
    same-on go vs n (Some args) e k l = let shorter = args_shorter vs args e in same-once args n (omega (arith, k, shorter)) (omega (arith, l, shorter))

  -- turns that are enough are as good as others
  pub turns-same : (i j : ℕ) (go : CallBy) → SameBelow i j (spread_to i s go) (spread_to j s go)
  turns-same zero j go vs n k l = absurd (omega (arith, k))
  turns-same (suc i) zero go vs n k l = absurd (omega (arith, l))
  turns-same (suc i) (suc j) go vs n k l = same-on i j (spread_to i s go) (spread_to j s go) (turns-same i j go) go vs n (apply_args vs) refl k l

module _ (w : PlainSetting) (f : Value) (front xs : List Value) (l : Value) (s : WorldState) where
  -- with so much fuel beside the cost of the elements
  pub applies : (n m : ℕ) → n ≡ m + length xs → list_elements s.cells l ≡ Some xs → call_of w (call_to (value.Prim (record { 0 = names.APPLY })) (f ∷ (front ++ l ∷ []))) s n ≡ call_of w (call_to f (front ++ xs)) s m
  unfolding applied spread spread_once
  applies n m e has =
      let again : CallBy = spread_to (n + suc (suc (length (front ++ l ∷ [])))) s (first_called w (eval_of w) s) in
      let left : n - length xs ≡ m = omega (arith, e) in
      ap (on_parts s again n) (parted_last (f ∷ front) l) ∙ ap (with_elements (f ∷ front) s again n) has
      ∙ charged_paid s (again (f ∷ (front ++ xs))) (length xs) n (omega (arith, e)) ∙ ap (again (f ∷ (front ++ xs))) left
      ∙ turns-same s (n + suc (suc (length (front ++ l ∷ [])))) (suc (m + suc (length (front ++ xs)))) (first_called w (eval_of w) s) (f ∷ (front ++ xs)) m
      (omega (arith, e, length-append front (l ∷ []), length-append front xs)) (omega arith)

  pub apply-ends : (r : CallEnd) (t : WorldState) → list_elements s.cells l ≡ Some xs → CallEnds w (call_to f (front ++ xs)) s r t → CallEnds w (call_to (value.Prim (record { 0 = names.APPLY })) (f ∷ (front ++ l ∷ []))) s r t
  apply-ends r t has h = (h.0 + length xs, by)
    where
      by : (left : ℕ) → call_of w (call_to (value.Prim (record { 0 = names.APPLY })) (f ∷ (front ++ l ∷ []))) s (left + (h.0 + length xs)) ≡ ended r t left
      by left = applies (left + (h.0 + length xs)) (left + h.0) (omega arith) has ∙ h.1 left

  -- where the last argument has no elements, the call itself
  pub apply-none : list_elements s.cells l ≡ Some xs → xs ≡ [] → (v : Value) (t : WorldState) → Calls w (call_to (value.Prim (record { 0 = names.APPLY })) (f ∷ (front ++ l ∷ []))) s v t → Calls w (call_to f (front ++ xs)) s v t
  apply-none has empty v t h =
      let none : length xs ≡ 0 = ap (λ (ys : List Value). length ys) empty in
      gives-same (call_of w (call_to (value.Prim (record { 0 = names.APPLY })) (f ∷ (front ++ l ∷ []))) s) (call_of w (call_to f (front ++ xs)) s) v t (λ n. sym (applies n n (omega (arith, none)) has)) h
