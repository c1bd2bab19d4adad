-- The sources of libraries at some places.
use Rattle.std.proofs.Common.{◌≡◌, ℕ, List, [], ◌∷◌, ◌++◌, sym, ap, ◌∙◌, append_assoc, append-nil}
use Rattle.std.specs.Prelude.{slice_get}
use Rattle.load_files.specs.declared.found.Found.{Found}
use Rattle.load_files.specs.declared.found.Source.{Source}
use Rattle.law_load.specs.Laws.{Libraries, IsAt}
use Rattle.law_local.specs.Local.{group_at, sources_at}

pub sources_end : (group : Found → List Source) (loaded : Libraries) (qs : List ℕ) (p : ℕ) (file : List ℕ) (f : Found) → IsAt loaded p file f
    → sources_at group loaded (qs ++ p ∷ []) ≡ sources_at group loaded qs ++ group f
sources_end group loaded [] p file f at = ap (λ o. group_at group o ++ []) at ∙ append-nil (group f)
sources_end group loaded (q ∷ qs) p file f at =
    ap (λ (ss : List Source). group_at group (slice_get loaded q) ++ ss) (sources_end group loaded qs p file f at)
    ∙ sym (append_assoc (group_at group (slice_get loaded q)) (sources_at group loaded qs) (group f))
