-- The rows of one frame, in the order of binding.
use Rattle.std.specs.Prelude.{ℕ, Bool, ◌&&◌, nat_eq, List, [], ◌∷◌, ◌++◌, Option, None, Some, is_some, Result, Ok, Err, map, if◌then◌else◌, refl}
use Rattle.std.specs.Coded.{Coded, code_by, coded×, coded_ℕ, coded_list}
use Rattle.std.specs.Cmp.Lexicographic.{pointwise}
use Rattle.base_data.specs.declared.fault.Bare.{Bare}
use Rattle.base_data.specs.declared.fault.FaultKind.TheVariants as kind
use Rattle.base_data.specs.declared.name.Label.{Label}
use Rattle.base_data.specs.declared.name.Mark.{Mark}
use Rattle.base_data.specs.contracts.name.Label as labels
use Rattle.base_data.specs.contracts.name.Mark as marks
use Rattle.stx_tree.specs.SameMarks.{same_marks}
use Rattle.stx_frames.specs.declared.key.Key.{Key}

-- a leaf of this symbol that was stamped under these marks has the label
pub record Row : Type 0 where
  pub symbol : List ℕ
  pub marks : List Mark
  pub label : Label

abbrev pub row_code : Coded Row
row_code =
    code_by (List ℕ × (List Mark × Label)) (coded× (coded_list coded_ℕ) (coded× (coded_list marks.the_row.coded) labels.the_row.coded))
    (λ r. (r.symbol, (r.marks, r.label))) (λ p. record { symbol = p.0; marks = p.1.0; label = p.1.1 }) (λ _. refl)

abbrev pub row_of : Key × Label → Row
row_of e = record { symbol = e.0.symbol; marks = e.0.marks; label = e.1 }

abbrev pub rows_of : List (Key × Label) → List Row
rows_of es = map row_of es

-- whether a row is of this symbol and these marks
abbrev pub is_of : List ℕ → List Mark → Row → Bool
is_of s ms r = pointwise nat_eq s r.symbol && same_marks ms r.marks

-- the label that the rows give for a symbol and marks
abbrev pub label_in : List Row → List ℕ → List Mark → Option Label
label_in [] s ms = None
label_in (r ∷ rs) s ms = if is_of s ms r then Some r.label else label_in rs s ms

-- a frame has one row for a symbol and marks
abbrev pub second_binder : List ℕ → Bare
second_binder s = record { kind = kind.Duplicate; words = s ∷ [] }

-- the row at the end, where none is of its symbol and marks
abbrev pub put_row : List Row → Row → Result (List Row) Bare
put_row rs r = if is_some (label_in rs r.symbol r.marks) then Err (second_binder r.symbol) else Ok (rs ++ r ∷ [])
