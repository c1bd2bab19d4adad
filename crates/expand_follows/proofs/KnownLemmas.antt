-- A table of a record's own labels tells which labels it knows.
use Rattle.std.proofs.Common.{◌≡◌, ℕ, Bool, true, false, cond, List, [], ◌∷◌, ◌++◌, map, Option, Some, None, refl, sym, ap, ◌∙◌}
use Rattle.std.specs.Prelude.{◌&&◌, ◌||◌, is_some, if◌then◌else◌}
use Rattle.std.specs.List.{flat_map}
use Rattle.std.specs.Map.{lookup}
use Rattle.base_data.specs.declared.name.Label.{Label}
use Rattle.core_language.specs.Labels.{same_label}
use Rattle.core_language.specs.declared.binding.Binding.{Binding}
use Rattle.core_language.specs.declared.record.CompiledLibrary.{CompiledLibrary}
use Rattle.law_core.specs.Follows.{bound_labels, export_labels, is_given, is_known, knows_its_labels, row_labels}
use Rattle.law_core.specs.Words.{among, each}
use Rattle.law_core.proofs.Decisions.{label_decides}
use Rattle.core_well_made.proofs.Sets.{among_joined}
use Rattle.expand_follows.specs.Pieces.{index_of_binding, known_by, with_index, with_indices}

or_nothing : (b : Bool) → (b || false) ≡ b
or_nothing true = refl
or_nothing false = refl

or_turn : (a b : Bool) → (a || b) ≡ (b || a)
or_turn true true = refl
or_turn true false = refl
or_turn false true = refl
or_turn false false = refl

or_assoc : (a b c : Bool) → ((a || b) || c) ≡ (a || (b || c))
or_assoc true b c = refl
or_assoc false b c = refl

module _ (l : Label) where
  some_more : (rows : List (Label × Option ℕ)) (b : Label × Binding) → is_some (lookup (same_label l) (with_index rows b)) ≡ (is_some (lookup (same_label l) rows) || same_label l b.0)
  some_more rows b = by (is_some (lookup (same_label b.0) rows)) refl
    where
      last : (xs : List (Label × Option ℕ)) (i : Option ℕ) → is_some (lookup (same_label l) (xs ++ (b.0, i) ∷ [])) ≡ (is_some (lookup (same_label l) xs) || same_label l b.0)
      last [] i = by_same (same_label l b.0)
        where
          by_same : (c : Bool) → is_some (cond c (Some i) None) ≡ (false || c)
          by_same true = refl
          by_same false = refl
      last (x ∷ xs) i = by_same (same_label l x.0) (last xs i)
        where
          by_same : (c : Bool) → is_some (lookup (same_label l) (xs ++ (b.0, i) ∷ [])) ≡ (is_some (lookup (same_label l) xs) || same_label l b.0)
              → is_some (cond c (Some x.1) (lookup (same_label l) (xs ++ (b.0, i) ∷ []))) ≡ (is_some (cond c (Some x.1) (lookup (same_label l) xs)) || same_label l b.0)
          by_same true h = refl
          by_same false h = h

      there : (c : Bool) → same_label l b.0 ≡ c → is_some (lookup (same_label b.0) rows) ≡ true → is_some (lookup (same_label l) rows) ≡ (is_some (lookup (same_label l) rows) || c)
      there false e h = sym (or_nothing (is_some (lookup (same_label l) rows)))
      there true e h = let is = ap (λ k. is_some (lookup (same_label k) rows)) ((label_decides l b.0).0 e) ∙ h in is ∙ sym (ap (λ c. c || true) is)

      by : (c : Bool) → is_some (lookup (same_label b.0) rows) ≡ c → is_some (lookup (same_label l) (if c then rows else rows ++ (b.0, index_of_binding b.1) ∷ [])) ≡ (is_some (lookup (same_label l) rows) || same_label l b.0)
      by true h = there (same_label l b.0) refl h
      by false h = last rows (index_of_binding b.1)

  some_all : (bs : List (Label × Binding)) (rows : List (Label × Option ℕ))
      → is_some (lookup (same_label l) (with_indices rows bs)) ≡ (is_some (lookup (same_label l) rows) || among same_label (map (λ b. b.0) bs) l)
  some_all [] rows = sym (or_nothing (is_some (lookup (same_label l) rows)))
  some_all (b ∷ bs) rows =
      some_all bs (with_index rows b) ∙ ap (λ c. c || among same_label (map (λ x. x.0) bs) l) (some_more rows b)
      ∙ or_assoc (is_some (lookup (same_label l) rows)) (same_label l b.0) (among same_label (map (λ x. x.0) bs) l)

pub known_is : (r : CompiledLibrary) (earlier : List CompiledLibrary) (l : Label) → known_by (with_indices [] r.bindings) (flat_map bound_labels earlier) l ≡ is_known r earlier l
known_is r earlier l =
    or_turn (is_given l) (is_some (lookup (same_label l) (with_indices [] r.bindings)) || among same_label (flat_map bound_labels earlier) l)
    ∙ ap (λ c. c || is_given l) (ap (λ c. c || among same_label (flat_map bound_labels earlier) l) (some_all l r.bindings []) ∙ sym (among_joined (bound_labels r) (flat_map bound_labels earlier) l))

pub each_known : (own : List (Label × Option ℕ)) (r : CompiledLibrary) (earlier : List CompiledLibrary) → own ≡ with_indices [] r.bindings → (ls : List Label)
    → each (known_by own (flat_map bound_labels earlier)) ls ≡ each (is_known r earlier) ls
each_known own r earlier is ls = ap (λ rows. each (known_by rows (flat_map bound_labels earlier)) ls) is ∙ (λ i. each (λ l. known_is r earlier l i) ls)

-- where the exports are known, the rows decide
pub rows_decide : (r : CompiledLibrary) (earlier : List CompiledLibrary) → true ≡ each (is_known r earlier) (export_labels r)
    → (known : Bool) → known ≡ each (is_known r earlier) (row_labels r) → known ≡ knows_its_labels r earlier
rows_decide r earlier exported known is = is ∙ ap (λ c. c && each (is_known r earlier) (row_labels r)) exported
