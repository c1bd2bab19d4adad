-- How the logic tells two contexts of leaves apart.
use Rattle.std.specs.Prelude.{List, refl}
use Rattle.std.specs.Coded.{Coded, code_by, coded×, coded_list}
use Rattle.base_data.specs.declared.name.Mark.{Mark}
use Rattle.base_data.specs.contracts.name.Mark as marks
use Rattle.stx_tree.specs.declared.stamp.Stamp.{Stamp}
use Rattle.stx_tree.specs.contracts.stamp.Stamp as stamps
use Rattle.stx_tree.specs.Context.{LeafContext}

abbrev pub context_code : Coded LeafContext
context_code =
    code_by (List Mark × List Stamp) (coded× (coded_list marks.the_row.coded) (coded_list stamps.the_row.coded))
    (λ c. (c.marks, c.stamps)) (λ p. record { marks = p.0; stamps = p.1 }) (λ _. refl)
