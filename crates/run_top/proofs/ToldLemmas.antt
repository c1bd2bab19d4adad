-- What is told of the libraries so far, with those that are left, is all.
use Rattle.std.proofs.Common.{◌≡◌, ℕ, suc, ◌+◌, ◌<◌, ◌≤◌, Bool, List, [], ◌∷◌, ◌++◌, length, get_or, map, drop, sym, ap, ◌∙◌, append_assoc, append-nil, add-one, drop-cons}
use Rattle.std.specs.Prelude.{Some, slice_get}
use Rattle.std.proofs.lemmas.List.{drop_all}
use Rattle.load_import.proofs.TurnLemmas.{got}
use Rattle.load_files.specs.declared.found.Found.{Found}
use Rattle.load_report.specs.declared.report.Told.{Told}
use Rattle.run_top.specs.Cached.{fate_at, told_from}
use Rattle.run_top.specs.Whole.{told}

module _ (rows : List (List ℕ × Found)) (i : ℕ) (done whole : List Told) where
  pub told_on : (row : List ℕ × Found) (t : Told) → slice_get rows i ≡ Some row → t ≡ told row
      → done ++ map told (drop i rows) ≡ whole → (done ++ t ∷ []) ++ map told (drop (i + 1) rows) ≡ whole
  told_on row t here is so_far =
      append_assoc done (t ∷ []) (map told (drop (i + 1) rows)) ∙ ap (λ e. done ++ e ∷ map told (drop (i + 1) rows)) is
      ∙ sym (ap (λ rs. done ++ map told rs) (got rows i row here)) ∙ so_far

-- the same of libraries each of which is told as it was come by
module _ (flags : List Bool) (libraries : List Told) (i : ℕ) (done whole : List Told) (so_far : done ++ told_from flags i (drop i libraries) ≡ whole) where
  pub fated_on : (t new : Told) → i < length libraries → t ≡ get_or libraries i t → new ≡ record { fate = fate_at (slice_get flags i); library = t.library }
      → (done ++ new ∷ []) ++ told_from flags (i + 1) (drop (i + 1) libraries) ≡ whole
  fated_on t new there here is =
      let left : drop i libraries ≡ t ∷ drop (suc i) libraries = drop-cons libraries i t there ∙ ap (λ x. x ∷ drop (suc i) libraries) (sym here) in
      rw add-one (append_assoc done (new ∷ []) (told_from flags (suc i) (drop (suc i) libraries))
      ∙ ap (λ n. done ++ n ∷ told_from flags (suc i) (drop (suc i) libraries)) is ∙ sym (ap (λ ts. done ++ told_from flags i ts) left) ∙ so_far)

  pub fated_all : length libraries ≤ i → done ≡ whole
  fated_all h = sym (append-nil done) ∙ ap (λ ts. done ++ told_from flags i ts) (sym (drop_all i libraries h)) ∙ so_far
