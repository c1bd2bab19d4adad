-- Writers that tell their bytes, written to piece by piece.
use Rattle.std.proofs.Common.{◌≡◌, ℕ, ◌+◌, List, [], ◌++◌, take, drop, Option, Some, None, ap, ◌∙◌, append_assoc}
use Rattle.std.proofs.Math.Seq.{take-add}
use Rattle.std.specs.Io.KnownBytes.{Appends, Keeps}
use Rattle.std.proofs.lemmas.List.{append-nil}
use Rattle.base_outside.specs.Sink.{Gains}

pub gains_appended : (before now : Option (List ℕ)) (piece : List ℕ) → Appends before now piece → Gains before now piece
gains_appended None now piece appended = tt
gains_appended (Some before) None piece appended = elim appended [ ]
gains_appended (Some before) (Some now) piece appended = ap Some appended

pub gains_nothing : (before now : Option (List ℕ)) → Keeps before now → Gains before now []
gains_nothing None now kept = tt
gains_nothing (Some before) None kept = elim kept [ ]
gains_nothing (Some before) (Some now) kept = ap Some (rw append-nil kept)

-- what gained a part, and then bytes behind it, gained the longer part
pub gains_more : (before so_far now : Option (List ℕ)) (piece : List ℕ) (taken more : ℕ)
    → Gains before so_far (take taken piece) → Gains so_far now (take more (drop taken piece)) → Gains before now (take (taken + more) piece)
gains_more None so_far now piece taken more gained later = tt
gains_more (Some before) None now piece taken more gained later = cc
gains_more (Some before) (Some held) now piece taken more gained later =
    let first : held ≡ before ++ take taken piece = cc in
    rw (take-add taken more piece, ← append_assoc, ← first) later

-- a flush changes nothing
pub gains_kept : (before so_far now : Option (List ℕ)) (part : List ℕ) → Gains before so_far part → Keeps so_far now → Gains before now part
gains_kept None so_far now part gained kept = tt
gains_kept (Some before) None now part gained kept = cc
gains_kept (Some before) (Some held) None part gained kept = elim kept [ ]
gains_kept (Some before) (Some held) (Some now) part gained kept = ap Some kept ∙ gained
