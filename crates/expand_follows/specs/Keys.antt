-- The keys of rows: when two are the same, and what they feed a hasher.
use Rattle.std.specs.Prelude.{◌≡◌, ℕ, Bool, ◌&&◌, ◌++◌, List, IsTrue}
use Rattle.std.proofs.Common.{◌∙◌, ap}
use Rattle.std.specs.Bool.{Decides}
use Rattle.std.specs.Coded.{Coded, coded×, coded_ℕ, coded_list}
use Rattle.std.specs.Hash as fed
use Rattle.std.specs.Cmp.{IsEquivalence, IsPartialEquivalence, partial_equiv_from_equiv, decided, first_so, second_so}
use Rattle.base_data.specs.Head.{symbol_fed}
use Rattle.base_data.specs.Named.{Named}
use Rattle.base_data.specs.Same.{same_name, same_name_cases, texts_decides}
use Rattle.base_data.specs.contracts.name.FrameNo as frames
use Rattle.base_data.specs.contracts.name.Mark as marks
use Rattle.base_data.specs.declared.name.FrameNo.{FrameNo}
use Rattle.law_core.specs.Follows.{Key, same_key}
use Rattle.law_core.specs.Records.{same_text}
use Rattle.stx_tree.specs.SameMarks.{same_marks, same_marks_decides}

abbrev pub key_code : Coded Key
key_code = coded× frames.the_row.coded (coded× (coded_list coded_ℕ) (coded_list marks.the_row.coded))

frame_by : (f g : FrameNo) → f.0 ≡ g.0 → f ≡ g
frame_by f g e = ap (λ (k : Named). let x : FrameNo = record { 0 = k } in x) e

same_key_decides : (a b : Key) → Decides (same_key a b) (a ≡ b)
same_key_decides a b = (
  (λ h. let f = (same_name_cases a.0.0 b.0.0).0 (first_so (same_name a.0.0 b.0.0) (same_text a.1.0 b.1.0 && same_marks a.1.1 b.1.1) h) in
      let rest = second_so (same_name a.0.0 b.0.0) (same_text a.1.0 b.1.0 && same_marks a.1.1 b.1.1) h in
      let s = (texts_decides a.1.0 b.1.0).0 (first_so (same_text a.1.0 b.1.0) (same_marks a.1.1 b.1.1) rest) in
      let m = (same_marks_decides a.1.1 b.1.1).0 (second_so (same_text a.1.0 b.1.0) (same_marks a.1.1 b.1.1) rest) in
      let g = frame_by a.0 b.0 f in
      λ i. (g i, (s i, m i))),
  (λ e. let f = (same_name_cases a.0.0 b.0.0).1 (ap (λ (k : Key). k.0.0) e) in
      let s = (texts_decides a.1.0 b.1.0).1 (ap (λ (k : Key). k.1.0) e) in
      let m = (same_marks_decides a.1.1 b.1.1).1 (ap (λ (k : Key). k.1.1) e) in
      λ i. f i && (s i && m i)),
)

pub same_key_equiv : IsEquivalence same_key
same_key_equiv = decided same_key same_key_decides

pub same_key_per : IsPartialEquivalence same_key
same_key_per = partial_equiv_from_equiv same_key_equiv

-- its symbol, and the number of its frame: what tells most keys apart
abbrev pub key_fed : Key → fed.HashWrites
key_fed k = symbol_fed k.1.0 ++ fed.u64 k.0.0.number

-- the same keys feed a hasher the same
pub key_alike : (a b : Key) → IsTrue (same_key a b) → key_fed a ≡ key_fed b
key_alike a b h = ap key_fed ((same_key_decides a b).0 h)
