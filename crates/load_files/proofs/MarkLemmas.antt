-- Marks that are put together one after another.
use Rattle.std.proofs.Common.{◌≡◌, ℕ, ◌+◌, ◌<◌, ◌≤◌, Bool, false, List, [], ◌∷◌, ◌++◌, length, get_or, drop, sym, ap, ◌∙◌, add-one, drop-cons, append_assoc}
use Rattle.std.specs.Prelude.{◌||◌}
use Rattle.std.proofs.lemmas.List.{drop_all, append-nil}
use Rattle.load_files.specs.Found.{is_needed_by, marks_with}
use Rattle.load_files.specs.declared.found.Found.{Found}

module _ (needs : List Bool) (place : ℕ) (found : Found) (more whole : List Bool) where
  here : place < length needs → marks_with place (drop place needs) found ≡ (get_or needs place false || is_needed_by found place) ∷ marks_with (place + 1) (drop (place + 1) needs) found
  unfolding marks_with
  here h = rw add-one (ap (λ ms. marks_with place ms found) (drop-cons needs place false h))

  pub marks_on : (e : Bool) (new : List Bool) → place < length needs → e ≡ (get_or needs place false || is_needed_by found place) → new ≡ more ++ e ∷ []
      → more ++ marks_with place (drop place needs) found ≡ whole → new ++ marks_with (place + 1) (drop (place + 1) needs) found ≡ whole
  marks_on e new h is grown so_far =
      ap (λ ms. ms ++ marks_with (place + 1) (drop (place + 1) needs) found) grown
      ∙ append_assoc more (e ∷ []) (marks_with (place + 1) (drop (place + 1) needs) found)
      ∙ ap (λ b. more ++ b ∷ marks_with (place + 1) (drop (place + 1) needs) found) is
      ∙ ap (λ ms. more ++ ms) (sym (here h)) ∙ so_far

  pub marks_end : length needs ≤ place → more ++ marks_with place (drop place needs) found ≡ whole → more ≡ whole
  unfolding marks_with
  marks_end h so_far = sym (append-nil more) ∙ ap (λ ms. more ++ marks_with place ms found) (sym (drop_all place needs h)) ∙ so_far
