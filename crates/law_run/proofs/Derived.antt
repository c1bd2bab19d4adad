-- The derived library imports each name of the implementation once.
use Rattle.std.proofs.Common.{◌≡◌, ◌≤◌, ◌<◌, ℕ, zero, suc, ◌+◌, Bool, true, false, List, [], ◌∷◌, ◌++◌, length, get_or, Option, Some, refl, ◌∙◌, ap, cond, arith, if◌then◌else◌}
use Rattle.std.specs.Prelude.{nat_eq, is_some}
use Rattle.std.specs.Cmp.Lexicographic.{pointwise}
use Rattle.base_data.proofs.ElementLemmas.{each-append}
use Rattle.base_data.specs.Elements.{Each}
use Rattle.base_data.specs.Op.{name_count, op_text}
use Rattle.base_data.specs.OpNames.{op_names}
use Rattle.base_data.specs.declared.imported_name.ImportedName.{ImportedName}
use Rattle.load_builtin.specs.Exports.{derived}
use Rattle.run_derived.specs.Names.{is_defined, core_name, name_at, names_from, names}
use Rattle.load_import.specs.Names.{Labelled, label_named}
use Rattle.law_imports.specs.Algebra.{IsOnce}

-- whether no text of a table is one behind it
abbrev none_like : List ℕ → List (List ℕ) → Bool
none_like t [] = true
none_like t (u ∷ us) = if pointwise nat_eq t u then false else none_like t us

abbrev texts_once : List (List ℕ) → Bool
texts_once [] = true
texts_once (t ∷ ts) = if none_like t ts then texts_once ts else false

table-once : texts_once op_names ≡ true
table-once = refl

none-at : (t : List ℕ) (ts : List (List ℕ)) (k : ℕ) → none_like t ts ≡ true → k < length ts → pointwise nat_eq t (get_or ts k []) ≡ false
none-at t [] k h less = absurd (omega (arith, less))
none-at t (u ∷ us) k h less = by k less (pointwise nat_eq t u) refl h (λ j l e. none-at t us j e l)
  where
    by : (k : ℕ) → k < length (u ∷ us) → (b : Bool) → pointwise nat_eq t u ≡ b → (if b then false else none_like t us) ≡ true → ((j : ℕ) → j < length us → none_like t us ≡ true → pointwise nat_eq t (get_or us j []) ≡ false)
        → pointwise nat_eq t (get_or (u ∷ us) k []) ≡ false
    by k l true is e rest = absurd (cc)
    by zero l false is e rest = is
    by (suc j) l false is e rest = rest j (omega (arith, l)) e

apart-at : (ts : List (List ℕ)) (n k : ℕ) → texts_once ts ≡ true → n < k → k < length ts → pointwise nat_eq (get_or ts n []) (get_or ts k []) ≡ false
apart-at [] n k h lt less = absurd (omega (arith, less))
apart-at (t ∷ ts) n zero h lt less = absurd (omega (arith, lt))
apart-at (t ∷ ts) zero (suc k) h lt less = by (none_like t ts) refl h
  where
    by : (b : Bool) → none_like t ts ≡ b → (if b then texts_once ts else false) ≡ true → pointwise nat_eq t (get_or ts k []) ≡ false
    by true is e = none-at t ts k is (omega (arith, less))
    by false is e = absurd (cc)
apart-at (t ∷ ts) (suc n) (suc k) h lt less = by (none_like t ts) h (λ e. apart-at ts n k e (omega (arith, lt)) (omega (arith, less)))
  where
    by : (b : Bool) → (if b then texts_once ts else false) ≡ true → (texts_once ts ≡ true → pointwise nat_eq (get_or ts n []) (get_or ts k []) ≡ false) → pointwise nat_eq (get_or ts n []) (get_or ts k []) ≡ false
    by true e rest = rest e
    by false e rest = absurd (cc)

how-many : length op_names ≡ name_count
how-many = refl

names-apart : (n k : ℕ) → n < k → k < name_count → pointwise nat_eq (op_text n) (op_text k) ≡ false
names-apart n k lt less = apart-at op_names n k table-once lt (let e = how-many in omega (arith, less, e))

none-found : (n : List ℕ) (es : Labelled) → Each (λ (e : ImportedName). pointwise nat_eq n e.name ≡ false) es → is_some (label_named n es) ≡ false
none-found n [] h = refl
none-found n (e ∷ es) h = ap (λ b. is_some (cond b (Some e.label) (label_named n es))) h.0 ∙ none-found n es h.1

module _ (ds : List (Option ℕ)) where
  abbrev Other : ℕ → ImportedName → Type 0
  Other n e = pointwise nat_eq (op_text n) e.name ≡ false

  later : (n m count : ℕ) → n < m → m + count ≤ name_count → Each (Other n) (names_from ds m count)
  unfolding names_from
  later n m zero lt le = tt
  later n m (suc count) lt le = each-append (Other n) (name_at ds m) (names_from ds (m + 1) count) (by (is_defined m ds)) (later n (m + 1) count (omega (arith, lt)) (omega (arith, le)))
    where
      by : (b : Bool) → Each (Other n) (if b then [] else core_name m ∷ [])
      by true = tt
      by false = (names-apart n m lt (omega (arith, le)), tt)

  names-once : (n count : ℕ) → n + count ≤ name_count → IsOnce (names_from ds n count)
  unfolding names_from
  names-once n zero le = tt
  names-once n (suc count) le = by (is_defined n ds) (names-once (n + 1) count (omega (arith, le)))
    where
      by : (b : Bool) → IsOnce (names_from ds (n + 1) count) → IsOnce ((if b then [] else core_name n ∷ []) ++ names_from ds (n + 1) count)
      by true rest = rest
      by false rest = (none-found (op_text n) (names_from ds (n + 1) count) (later n (n + 1) count (omega arith) (omega (arith, le))), rest)

pub derived-names-once : IsOnce names
derived-names-once = names-once derived 0 name_count (omega arith)
