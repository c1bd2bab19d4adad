-- Looking for a file takes the steps of its definition, root by root.
use Rattle.std.proofs.Common.{◌≡◌, ℕ, ◌+◌, ◌<◌, ◌≤◌, List, [], ◌∷◌, ◌++◌, length, get_or, drop, sym, ap, ◌∙◌}
use Rattle.std.proofs.lemmas.List.{drop_all}
use Rattle.load_import.proofs.TurnLemmas.{cons_at}
use Rattle.base_outside.specs.Contents.{Paths, at_path, Reading, bytes, longer, absent, read_of}
use Rattle.load_files.specs.Found.{absent_at}
use Rattle.load_files.specs.Load.{sought_at, look_for}
use Rattle.load_files.specs.declared.found.Source.{Source}
use Rattle.load_files.specs.declared.search.Sought.{Sought}
use Rattle.load_files.specs.declared.search.Sought.TheVariants as sought

module _ (files : Paths) (max : ℕ) (file : List ℕ) (roots : List (List ℕ)) (i : ℕ) (sources : List Source) (whole : List Source × Sought) (root path : List ℕ) where
  here : (reading : Reading) → i < length roots → root ≡ get_or roots i root → path ≡ root ++ file → reading ≡ read_of (at_path files path) max
      → look_for files max file sources (drop i roots) ≡ sought_at (root ++ file) sources (look_for files max file (sources ++ absent_at (root ++ file) ∷ []) (drop (i + 1) roots)) reading
  unfolding look_for
  here reading h e is read =
      ap (look_for files max file sources) (cons_at roots i root h e)
      ∙ ap (sought_at (root ++ file) sources (look_for files max file (sources ++ absent_at (root ++ file) ∷ []) (drop (i + 1) roots))) (ap (λ p. read_of (at_path files p) max) (sym is) ∙ sym read)

  pub found_bytes : (reading : Reading) (held : List ℕ) → i < length roots → root ≡ get_or roots i root → path ≡ root ++ file → reading ≡ read_of (at_path files path) max → bytes held ≡ reading
      → look_for files max file sources (drop i roots) ≡ whole → whole ≡ (sources, sought.Bytes path held)
  found_bytes reading held h e is read got so_far =
      sym so_far ∙ here reading h e is read
      ∙ ap (sought_at (root ++ file) sources (look_for files max file (sources ++ absent_at (root ++ file) ∷ []) (drop (i + 1) roots))) (sym got)
      ∙ ap (λ p. pair sources (sought.Bytes p held)) (sym is)
    where
      pair : List Source → Sought → List Source × Sought
      pair ss s = (ss, s)

  pub found_longer : (reading : Reading) → i < length roots → root ≡ get_or roots i root → path ≡ root ++ file → reading ≡ read_of (at_path files path) max → longer ≡ reading
      → look_for files max file sources (drop i roots) ≡ whole → whole ≡ (sources, sought.Longer path)
  found_longer reading h e is read got so_far =
      sym so_far ∙ here reading h e is read
      ∙ ap (sought_at (root ++ file) sources (look_for files max file (sources ++ absent_at (root ++ file) ∷ []) (drop (i + 1) roots))) (sym got)
      ∙ ap (λ p. pair sources (sought.Longer p)) (sym is)
    where
      pair : List Source → Sought → List Source × Sought
      pair ss s = (ss, s)

  pub not_found : (reading : Reading) (more : List Source) → i < length roots → root ≡ get_or roots i root → path ≡ root ++ file → reading ≡ read_of (at_path files path) max → absent ≡ reading
      → more ≡ sources ++ absent_at path ∷ []
      → look_for files max file sources (drop i roots) ≡ whole → look_for files max file more (drop (i + 1) roots) ≡ whole
  not_found reading more h e is read got grown so_far =
      ap (λ ss. look_for files max file ss (drop (i + 1) roots)) (grown ∙ ap (λ p. sources ++ absent_at p ∷ []) is)
      ∙ ap (sought_at (root ++ file) sources (look_for files max file (sources ++ absent_at (root ++ file) ∷ []) (drop (i + 1) roots))) got
      ∙ sym (here reading h e is read) ∙ so_far

pub found_nowhere : (files : Paths) (max : ℕ) (file : List ℕ) (roots : List (List ℕ)) (i : ℕ) (sources : List Source) (whole : List Source × Sought)
    → length roots ≤ i → look_for files max file sources (drop i roots) ≡ whole → whole ≡ (sources, sought.Nowhere)
unfolding look_for
found_nowhere files max file roots i sources whole h so_far = sym so_far ∙ ap (look_for files max file sources) (drop_all i roots h)
