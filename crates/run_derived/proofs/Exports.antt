-- What definitions export, one after another.
use Rattle.std.proofs.Common.{◌≡◌, ℕ, suc, ◌+◌, ◌<◌, List, [], ◌∷◌, ◌++◌, length, get_or, drop, Option, sym, ap, ◌∙◌, append_assoc, add-one, drop-cons}
use Rattle.std.specs.List.{flat_map}
use Rattle.stx_tree.specs.Tree.{Tree}
use Rattle.run_derived.specs.Names.{export_at}

-- what one more exports
pub exports_on : (ds : List (Option ℕ)) (i : ℕ) (d : Option ℕ) (es new total : List (List ℕ × Tree)) → i < length ds → d ≡ get_or ds i d → new ≡ es ++ export_at d → es ++ flat_map export_at (drop i ds) ≡ total
    → new ++ flat_map export_at (drop (i + 1) ds) ≡ total
exports_on ds i d es new total h e is so_far =
    let cons : drop i ds ≡ d ∷ drop (i + 1) ds = rw add-one (drop-cons ds i d h ∙ ap (λ x. x ∷ drop (suc i) ds) (sym e)) in
    ap (λ xs. xs ++ flat_map export_at (drop (i + 1) ds)) is ∙ append_assoc es (export_at d) (flat_map export_at (drop (i + 1) ds))
    ∙ ap (λ xs. es ++ flat_map export_at xs) (sym cons) ∙ so_far
