-- What the four procedures of plans answer.
use Rattle.std.proofs.Common.{◌≡◌, ◌≤◌, ◌-◌, true, List, [], ◌∷◌, ◌++◌, length, take, slice_get, Some, Ok, Err, ap, ◌∙◌, arith, length-append}
use Rattle.std.proofs.Math.Seq.{take-append_seam}
use Rattle.std.proofs.lemmas.Bool.{le-leb}
use Rattle.std.specs.Prelude.{◌&&◌, if◌then◌else◌}
use Rattle.base_data.specs.declared.op.names.TheConstants as names
use Rattle.stx_frames.specs.Scope.{Scope}
use Rattle.base_region.proofs.Laws.{slice_get-added}
use Rattle.eval_value.specs.declared.value.Value.{Value}
use Rattle.eval_value.specs.declared.cell.Cell.{Cell}
use Rattle.eval_prims.specs.Answers.{wrong_count, or_refused}
use Rattle.eval_prims.specs.Chains.{list_elements}
use Rattle.eval_prims.specs.Delta.{delta, row_answer}
use Rattle.eval_prims.specs.Each.{if_some, before_last, last_of}
use Rattle.eval_prims.specs.Lists.{nil, ended_by, of_elements, gathered_made, list_made, elements_joined, last_or_nil, appended_made}
use Rattle.eval_prims.specs.Primitives.{primitive_of}
use Rattle.eval_prims.specs.declared.made.PrimResult.TheVariants as made

before_added : (args : List Value) (x : Value) → before_last (args ++ x ∷ []) ≡ args
before_added args x =
    let e : length (args ++ x ∷ []) - 1 ≡ length args = omega (arith, length-append args (x ∷ [])) in
    ap (λ n. take n (args ++ x ∷ [])) e ∙ take-append_seam args (x ∷ [])

last_added : (args : List Value) (x : Value) → last_of (args ++ x ∷ []) ≡ Some x
last_added args x =
    let e : length (args ++ x ∷ []) - 1 ≡ length args = omega (arith, length-append args (x ∷ [])) in
    ap (λ n. slice_get (args ++ x ∷ []) n) e ∙ slice_get-added args x

module _ (cells : List Cell) (frames : Scope) where
  pub list_answer : (xs : List Value) → delta names.LIST xs cells frames ≡ Ok (made.List xs nil)
  unfolding delta row_answer gathered_made primitive_of
  list_answer xs = ap (λ b. if b && true then or_refused names.LIST (Some (made.List xs nil)) else Err (wrong_count (length xs))) (le-leb 0 (length xs) (omega arith))

  star_row : (xs : List Value) → 1 ≤ length xs → delta names.CONS_STAR xs cells frames ≡ or_refused names.CONS_STAR (ended_by (before_last xs) (last_of xs))
  unfolding delta row_answer gathered_made primitive_of
  star_row xs h = ap (λ b. if b && true then or_refused names.CONS_STAR (ended_by (before_last xs) (last_of xs)) else Err (wrong_count (length xs))) (le-leb 1 (length xs) h)

  pub star_answer : (xs : List Value) (y : Value) → delta names.CONS_STAR (xs ++ y ∷ []) cells frames ≡ Ok (made.List xs y)
  star_answer xs y =
      star_row (xs ++ y ∷ []) (omega (arith, length-append xs (y ∷ [])))
      ∙ (λ i. or_refused names.CONS_STAR (ended_by (before_added xs y i) (last_added xs y i)))

  append_row : (xs : List Value) → delta names.APPEND xs cells frames ≡ or_refused names.APPEND (appended_made xs cells)
  unfolding delta row_answer primitive_of
  append_row xs = ap (λ b. if b && true then or_refused names.APPEND (appended_made xs cells) else Err (wrong_count (length xs))) (le-leb 0 (length xs) (omega arith))

  append_made : (xs ys : List Value) (y : Value) → elements_joined cells [] xs ≡ Some ys → appended_made (xs ++ y ∷ []) cells ≡ Some (made.List ys y)
  unfolding appended_made
  append_made xs ys y e =
      ap (λ zs. if_some (elements_joined cells [] zs) (λ us. Some (made.List us (last_or_nil (last_of (xs ++ y ∷ [])))))) (before_added xs y)
      ∙ ap (λ o. if_some o (λ us. Some (made.List us (last_or_nil (last_of (xs ++ y ∷ [])))))) e
      ∙ ap (λ o. Some (made.List ys (last_or_nil o))) (last_added xs y)

  pub append_answer : (xs ys : List Value) (y : Value) → elements_joined cells [] xs ≡ Some ys → delta names.APPEND (xs ++ y ∷ []) cells frames ≡ Ok (made.List ys y)
  append_answer xs ys y e = append_row (xs ++ y ∷ []) ∙ ap (or_refused names.APPEND) (append_made xs ys y e)

  pub vector_answer : (x : Value) (xs : List Value) → list_elements cells x ≡ Some xs → delta names.LIST_TO_VECTOR (x ∷ []) cells frames ≡ Ok (made.Vector xs)
  unfolding delta row_answer list_made primitive_of
  vector_answer x xs e = ap (λ o. or_refused names.LIST_TO_VECTOR (if_some o (of_elements names.LIST_TO_VECTOR))) e
