-- When two lists of marks are the same.
use Rattle.std.specs.Prelude.{◌≡◌, Bool, List, reverse, IsTrue}
use Rattle.std.proofs.Common.{ap}
use Rattle.std.specs.Bool.{Decides}
use Rattle.std.specs.Hash as fed
use Rattle.std.specs.Cmp.{IsEquivalence, IsPartialEquivalence, partial_equiv_from_equiv, decided}
use Rattle.std.specs.Cmp.Lexicographic.{pointwise, pointwise_decides}
use Rattle.base_data.specs.Named.{Named}
use Rattle.base_data.specs.Same.{same_name_cases}
use Rattle.base_data.specs.declared.name.Mark.{Mark}
use Rattle.stx_tree.specs.Marks.{same_mark}

mark_by : (m n : Mark) → m.0 ≡ n.0 → m ≡ n
mark_by m n e = ap (λ (k : Named). let x : Mark = record { 0 = k } in x) e

pub same_mark_decides : (m n : Mark) → Decides (same_mark m n) (m ≡ n)
same_mark_decides m n = (λ h. mark_by m n ((same_name_cases m.0 n.0).0 h), λ e. (same_name_cases m.0 n.0).1 (ap (λ (x : Mark). x.0) e))

pub same_mark_equiv : IsEquivalence same_mark
same_mark_equiv = decided same_mark same_mark_decides

pub same_mark_per : IsPartialEquivalence same_mark
same_mark_per = partial_equiv_from_equiv same_mark_equiv

abbrev pub mark_fed : Mark → fed.HashWrites
mark_fed m = fed.u64 m.0.number

-- the same marks feed a hasher the same
pub mark_alike : (m n : Mark) → IsTrue (same_mark m n) → mark_fed m ≡ mark_fed n
mark_alike m n h = ap mark_fed ((same_mark_decides m n).0 h)

abbrev pub same_marks : List Mark → List Mark → Bool
same_marks ms ns = pointwise same_mark ms ns

pub same_marks_decides : (ms ns : List Mark) → Decides (same_marks ms ns) (ms ≡ ns)
same_marks_decides = pointwise_decides same_mark_decides

pub same_marks_equiv : IsEquivalence same_marks
same_marks_equiv = decided same_marks same_marks_decides

pub same_marks_per : IsPartialEquivalence same_marks
same_marks_per = partial_equiv_from_equiv same_marks_equiv

-- the oldest first
abbrev pub marks_fed : List Mark → fed.HashWrites
marks_fed ms = fed.slice mark_fed (reverse ms)

pub marks_alike : (ms ns : List Mark) → IsTrue (same_marks ms ns) → marks_fed ms ≡ marks_fed ns
marks_alike ms ns h = ap marks_fed ((same_marks_decides ms ns).0 h)
