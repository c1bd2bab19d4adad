-- Where the variable of a call or of a `letrec` is found, and that it stays there.
use Rattle.std.proofs.Common.{◌≡◌, ◌≤◌, ◌<◌, ℕ, zero, suc, List, [], ◌∷◌, ◌++◌, Option, Some, None, length, refl, ap, sym, ◌∙◌, arith, slice_get, slice_set}
use Rattle.std.specs.Map.{lookup}
use Rattle.base_data.specs.declared.name.Label.{Label}
use Rattle.stx_frames.specs.Scope.{or_else}
use Rattle.base_region.specs.declared.region.Place.{Place}
use Rattle.base_region.proofs.Laws.{slice_get-added, slice_get-released}
use Rattle.core_language.specs.Core.{variable}
use Rattle.core_language.specs.Labels.{same_label}
use Rattle.eval_value.specs.FromDatum.{Keeps}
use Rattle.eval_value.specs.declared.value.Value.{Value}
use Rattle.eval_value.specs.declared.cell.Cell.{Cell}
use Rattle.eval_value.specs.declared.cell.Cell.TheVariants as cell
use Rattle.eval_code.specs.Meaning.{variable_read, variable_value}
use Rattle.eval_code.specs.Setting.{PlainSetting}
use Rattle.eval_code.specs.State.{WorldState, done}
use Rattle.eval_code.specs.Variables.{Entries, entry_in, here_or_up, found, cell_with, assigned_in, assigned}
use Rattle.law_eval.specs.Kept.{LaterWorld}
use Rattle.law_lists.proofs.RunLemmas.{Stay}
use Rattle.law_given.proofs.Giving.{gives-same, gives-done, Evaluates, evaluates-step}

pub get-below : {T : Type 0} (xs : List T) (n : ℕ) (x : T) → slice_get xs n ≡ Some x → n < length xs
get-below [] n x e = absurd (cc)
get-below (y ∷ ys) zero x e = omega arith
get-below (y ∷ ys) (suc n) x e = let h = get-below ys n x e in omega (arith, h)

pub keeps-stay : (old new : List Cell) → Keeps old new → Stay old new
keeps-stay old new k n c e = sym (slice_get-released new (length old) n (get-below old n c e)) ∙ ap (λ xs. slice_get xs n) k ∙ e

pub later-stay : (s t : WorldState) → LaterWorld s t → Stay s.cells t.cells
later-stay s t h = keeps-stay s.cells t.cells h.cells

-- so many cells are looked into
pub data Looks (cells : List Cell) (l : Label) (v : Value) : ℕ → Place → Type 0 where
  in_cell : {es : Entries} {parent : Option Place} {p : Place} → slice_get cells p.0 ≡ Some (cell.Scope es parent) → lookup (same_label l) es ≡ Some (Some v) → Looks cells l v 1 p
  in_parent : {es : Entries} {p q : Place} {n : ℕ} → slice_get cells p.0 ≡ Some (cell.Scope es (Some q)) → lookup (same_label l) es ≡ None → Looks cells l v n q → Looks cells l v (suc n) p

pub looks-still : (old new : List Cell) → Stay old new → {l : Label} {v : Value} {n : ℕ} {p : Place} → Looks old l v n p → Looks new l v n p
looks-still old new k (in_cell {p = p} e f) = in_cell (k p.0 _ e) f
looks-still old new k (in_parent {p = p} e f r) = in_parent (k p.0 _ e) f (looks-still old new k r)

module _ (globals : List (Label × Value)) (cells : List Cell) where
  looks-found : (m : ℕ) {l : Label} {v : Value} {n : ℕ} {p : Place} → Looks cells l v n p → n ≤ m → found m globals cells l (Some p) ≡ Some (Some v)
  looks-found zero (in_cell e f) h = absurd (omega (arith, h))
  looks-found zero (in_parent e f r) h = absurd (omega (arith, h))
  looks-found (suc m) {l = l} (in_cell {es = es} {parent = parent} e f) h =
      ap (λ c. here_or_up (entry_in l) (found m globals cells l) c) e ∙ ap (λ o. or_else o (found m globals cells l parent)) f
  looks-found (suc m) {l = l} (in_parent {es = es} {q = q} e f r) h =
      ap (λ c. here_or_up (entry_in l) (found m globals cells l) c) e ∙ ap (λ o. or_else o (found m globals cells l (Some q))) f ∙ looks-found m r (omega (arith, h))

module _ (w : PlainSetting) where
  value-read : (l : Label) (p : Place) (s : WorldState) (v : Value) (n : ℕ) → Looks s.cells l v n p → n ≤ suc (length s.cells) → (m : ℕ) → variable_value w l p s m ≡ done v s m
  unfolding variable_value
  value-read l p s v n r h m = ap (variable_read w l s m) (looks-found w.globals s.cells (suc (length s.cells)) r h)

  pub variable-is : (l : Label) (p : Place) (s : WorldState) (v : Value) (n : ℕ) → Looks s.cells l v n p → n ≤ suc (length s.cells) → Evaluates w (variable l) p s v s
  variable-is l p s v n r h =
      evaluates-step w (variable l) p s v s (gives-same (λ m. done v s m) (λ m. variable_value w l p s m) v s (value-read l p s v n r h) (gives-done v s))

-- A variable of the last cell gets its value.

pub set-last : (cells : List Cell) (c d : Cell) → slice_set (cells ++ c ∷ []) (length cells) d ≡ cells ++ d ∷ []
set-last [] c d = refl
set-last (x ∷ xs) c d = ap (λ ys. x ∷ ys) (set-last xs c d)

pub assigned-last : (cells : List Cell) (c : Cell) (l : Label) (v : Value) → assigned (cells ++ c ∷ []) (record { 0 = length cells }) l v ≡ cells ++ cell_with l v c ∷ []
assigned-last cells c l v =
    ap (assigned_in (cells ++ c ∷ []) (record { 0 = length cells }) l v) (slice_get-added cells c) ∙ set-last cells c (cell_with l v c)
