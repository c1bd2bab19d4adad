use Rattle.std.proofs.Common.{◌≡◌, ◌∙◌, ◌+◌, ◌∷◌, [], ◌++◌, sym, ap, drop, ℕ, List}
use Rattle.base_data.specs.declared.imported_name.ImportedName.{ImportedName}
use Rattle.base_data.specs.declared.name.Label.{Label}
use Rattle.load_import.proofs.NameLemmas.{row_on}
use Rattle.load_import.proofs.names.rows.Goals as goal

abbrev row_of : List ℕ → Label → ImportedName
row_of name label = record { name = name; label = label }

same_row : (a b : List ℕ) (l m : Label) → a ≡ b → l ≡ m → row_of a l ≡ row_of b m
same_row a b l m e f = ap (λ x. row_of x l) e ∙ ap (row_of b) f

pub loop-place-preserved : goal.loop-place-preserved
loop-place-preserved c =
    let row : ImportedName = row_of c.in-Some.name.now c.in-Some.label.now in
    let on = row_on c.args.names.now c.loop-place.place row c.loop-place.rows (sym c.in-Some.ensures) c.loop-place.invariant in
    let same = same_row c.in_ok-name.name c.in-Some.name.now c.in_ok-label.label c.in-Some.label.now c.in_ok-name.ensures c.in_ok-label.ensures in
    ap (λ r. r ++ drop (c.loop-place.place + 1) c.args.names.now) (c.in_ok-push.ensures.ok ∙ ap (λ e. c.loop-place.rows ++ e ∷ []) same) ∙ on
