-- What is given of lists, where each call gives a value.
use Rattle.std.proofs.Common.{List, ◌∷◌, Ok}
use Rattle.base_data.specs.declared.op.names.TheConstants as names
use Rattle.eval_value.specs.declared.value.Value.{Value}
use Rattle.eval_code.specs.Setting.{PlainSetting}
use Rattle.eval_code.specs.State.{WorldState}
use Rattle.law_given.specs.Calls.{call_to, CallEnds, Calls}
use Rattle.law_given.specs.Given.{built_in}
use Rattle.law_given.proofs.Knows.{Knows}
use Rattle.law_given_lists.specs.RowCalls.{ForAllByRows, ForAllGives, ExistsByRows, ExistsGives, FoldLeftByRows, FoldLeftGives, FoldRightByRows, FoldRightGives}
use Rattle.law_given_lists.specs.Rows.{InRows}
use Rattle.law_given_lists.proofs.ExistsRows.{exists-ended}
use Rattle.law_given_lists.proofs.FoldLeftRows.{fold-left-ended}
use Rattle.law_given_lists.proofs.FoldRightRows.{fold-right-ended}
use Rattle.law_given_lists.proofs.ForAllRows.{for-all-ended}
use Rattle.law_given_lists.proofs.Values.{from-ends, for-all-ends, for-all-values, exists-ends, exists-values, left-ends, left-values, right-ends, right-values}

module _ (w : PlainSetting) (knows : Knows w.codes) (f l : Value) (more : List Value) (rows : List (List Value)) (s : WorldState) (r : InRows s.cells rows (l ∷ more)) where
  pub for-all-gives : ForAllGives w f rows s → (v : Value) × (t : WorldState) × Calls w (call_to (built_in names.FOR_ALL) (f ∷ l ∷ more)) s v t × ForAllByRows w f rows s (Ok v) t
  for-all-gives give =
      from-ends (λ e t. CallEnds w (call_to (built_in names.FOR_ALL) (f ∷ l ∷ more)) s e t) (ForAllByRows w f rows s) (λ e t d. for-all-values w f rows s e t give d)
      (for-all-ended w knows f l more rows s r (for-all-ends w f rows s give))

  pub exists-gives : ExistsGives w f rows s → (v : Value) × (t : WorldState) × Calls w (call_to (built_in names.EXISTS) (f ∷ l ∷ more)) s v t × ExistsByRows w f rows s (Ok v) t
  exists-gives give =
      from-ends (λ e t. CallEnds w (call_to (built_in names.EXISTS) (f ∷ l ∷ more)) s e t) (ExistsByRows w f rows s) (λ e t d. exists-values w f rows s e t give d)
      (exists-ended w knows f l more rows s r (exists-ends w f rows s give))

module _ (w : PlainSetting) (knows : Knows w.codes) (f z l : Value) (more : List Value) (rows : List (List Value)) (s : WorldState) (r : InRows s.cells rows (l ∷ more)) where
  pub left-gives : FoldLeftGives w f z rows s → (v : Value) × (t : WorldState) × Calls w (call_to (built_in names.FOLD_LEFT) (f ∷ z ∷ l ∷ more)) s v t × FoldLeftByRows w f z rows s (Ok v) t
  left-gives give =
      from-ends (λ e t. CallEnds w (call_to (built_in names.FOLD_LEFT) (f ∷ z ∷ l ∷ more)) s e t) (FoldLeftByRows w f z rows s) (λ e t d. left-values w f z rows s e t give d)
      (fold-left-ended w knows f z l more rows s r (left-ends w f z rows s give))

  pub right-gives : FoldRightGives w f z rows s → (v : Value) × (t : WorldState) × Calls w (call_to (built_in names.FOLD_RIGHT) (f ∷ z ∷ l ∷ more)) s v t × FoldRightByRows w f z rows s (Ok v) t
  right-gives give =
      from-ends (λ e t. CallEnds w (call_to (built_in names.FOLD_RIGHT) (f ∷ z ∷ l ∷ more)) s e t) (FoldRightByRows w f z rows s) (λ e t d. right-values w f z rows s e t give d)
      (fold-right-ended w knows f z l more rows s r (right-ends w f z rows s give))
