-- Rows in order, each once.
use Rattle.std.specs.Prelude.{Bool, List, [], ◌∷◌}
use Rattle.std.specs.List.{list_any}
use Rattle.std.specs.declared.cmp.Ordering.{Ordering}
use Rattle.std.specs.declared.cmp.Ordering.TheVariants.{Less, Equal, Greater}
use Rattle.std.specs.Ordering.{eq_by_cmp}
use Rattle.run_xref.specs.contracts.rows.LinkRowOrd.TheImpl as row_order
use Rattle.run_xref.specs.declared.rows.LinkRow.{LinkRow}

-- by file, `from` and `to` of the identifier, then by the target
abbrev pub row_cmp : LinkRow → LinkRow → Ordering
row_cmp = row_order.cmp-value.it

-- a row, how it compares with the next one, the rows from that on, and those with it behind that
abbrev pub put_by : LinkRow → Ordering → List LinkRow → List LinkRow → List LinkRow
put_by r Less here further = r ∷ here
put_by r Equal here further = here
put_by r Greater here further = further

-- a row among rows in order, where it isn't there
abbrev pub put : LinkRow → List LinkRow → List LinkRow
put r [] = r ∷ []
put r (q ∷ qs) = put_by r (row_cmp r q) (q ∷ qs) (q ∷ put r qs)

unfoldable pub ranked : List LinkRow → List LinkRow
ranked [] = []
ranked (r ∷ rs) = put r (ranked rs)

abbrev pub same_row : LinkRow → LinkRow → Bool
same_row = eq_by_cmp row_cmp

abbrev pub among : LinkRow → List LinkRow → Bool
among r rows = list_any (same_row r) rows
