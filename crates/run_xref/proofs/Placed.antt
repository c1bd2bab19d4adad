-- Counting on from a mark comes to the same place.
use Rattle.std.proofs.Common.{◌≡◌, ℕ, zero, suc, ◌+◌, ◌-◌, ◌<◌, ◌≤◌, Bool, true, false, List, [], ◌∷◌, ◌++◌, length, drop, cond, refl, sym, ap, subst, ◌∙◌, arith, nat_le, nat_lt, length-drop, drop-drop}
use Rattle.std.specs.Prelude.{◌==◌, ◌&&◌, ◌/◌, Option, Some, None, slice_get}
use Rattle.std.proofs.lemmas.Bool.Decides.{nat_tests}
use Rattle.std.proofs.lemmas.Option.{none-some, same_Some}
use Rattle.base_data.specs.Place.{Piece, place, place_from, piece, moved, line_end, char_size, size_of}
use Rattle.bstr.specs.Utf8.{decoded}
use Rattle.base_data.proofs.Chars.{decoded-some}
use Rattle.base_data.proofs.Places.{turn}
use Rattle.run_xref.specs.Marks.{Leads, IsPlaced, ArePlaced, first_mark, next_mark, kept, or_first, mark_before}
use Rattle.run_xref.specs.declared.marks.SourceMark.{SourceMark}

-- ---- pieces

size_of-some : (c : Option ℕ) (n : ℕ) → 0 < n → 0 < size_of c n
size_of-some None n h = omega arith
size_of-some (Some c) n h = h

pub char_size-some : (bytes : List ℕ) → 0 < length bytes → 0 < char_size bytes
char_size-some bytes h = size_of-some (decoded bytes).char (decoded bytes).size (decoded-some bytes h)

abbrev line_piece : ℕ → Piece
line_piece n = record { ends = true; size = n }

abbrev char_piece : ℕ → Piece
char_piece n = record { ends = false; size = n }

chosen-some : (b : Bool) (n c : ℕ) → (b ≡ true → 0 < n) → 0 < c → 0 < (cond b (line_piece n) (char_piece c)).size
chosen-some true n c h k = h refl
chosen-some false n c h k = k

line_some : (n left : ℕ) → nat_lt 0 n && nat_le n left ≡ true → 0 < n
line_some n left h = grind (arith, nat_tests)

piece-some : (bytes : List ℕ) (left : ℕ) → 0 < length bytes → 0 < (piece bytes left).size
piece-some bytes left h = chosen-some (nat_lt 0 (line_end bytes) && nat_le (line_end bytes) left) (line_end bytes) (char_size bytes) (line_some (line_end bytes) left) (char_size-some bytes h)

chosen-same : (b : Bool) (n c m k : ℕ) → nat_lt 0 n && nat_le n k ≡ b → (cond b (line_piece n) (char_piece c)).size ≤ m → m ≤ k
    → cond (nat_lt 0 n && nat_le n m) (line_piece n) (char_piece c) ≡ cond b (line_piece n) (char_piece c)
chosen-same true n c m k e fits below =
    let t : nat_lt 0 n && nat_le n m ≡ true = grind (arith, nat_tests) in ap (λ b. cond {A = Piece} b (line_piece n) (char_piece c)) t
chosen-same false n c m k e fits below =
    let t : nat_lt 0 n && nat_le n m ≡ false = grind (arith, nat_tests) in ap (λ b. cond {A = Piece} b (line_piece n) (char_piece c)) t

-- a piece that fits is the same whatever comes behind it
piece-same : (bytes : List ℕ) (m k : ℕ) → (piece bytes k).size ≤ m → m ≤ k → piece bytes m ≡ piece bytes k
piece-same bytes m k fits below = chosen-same (nat_lt 0 (line_end bytes) && nat_le (line_end bytes) k) (line_end bytes) (char_size bytes) m k refl fits below

-- ---- steps that are left over

done : (k : ℕ) (bytes : List ℕ) (at : ℕ × ℕ) → place_from k bytes 0 at ≡ at
unfolding place_from
done zero bytes at = refl
done (suc k) bytes at = refl

any : (k j : ℕ) (bytes : List ℕ) (left : ℕ) (at : ℕ × ℕ) → left ≤ length bytes → left ≤ k → left ≤ j → place_from k bytes left at ≡ place_from j bytes left at
unfolding place_from
any zero j bytes left at fits h g = let none : left ≡ 0 = omega arith in sym (ap (λ n. place_from j bytes n at) none ∙ done j bytes at)
any (suc k) zero bytes left at fits h g = let none : left ≡ 0 = omega arith in ap (λ n. place_from (suc k) bytes n at) none ∙ done (suc k) bytes at
any (suc k) (suc j) bytes left at fits h g = by (left == 0) refl (any k j (drop (piece bytes left).size bytes) (left - (piece bytes left).size) (moved at (piece bytes left).ends))
  where
    by : (b : Bool) → left == 0 ≡ b
        → (left - (piece bytes left).size ≤ length (drop (piece bytes left).size bytes) → left - (piece bytes left).size ≤ k → left - (piece bytes left).size ≤ j
        → place_from k (drop (piece bytes left).size bytes) (left - (piece bytes left).size) (moved at (piece bytes left).ends) ≡ place_from j (drop (piece bytes left).size bytes) (left - (piece bytes left).size) (moved at (piece bytes left).ends))
        → cond b at (place_from k (drop (piece bytes left).size bytes) (left - (piece bytes left).size) (moved at (piece bytes left).ends))
        ≡ cond b at (place_from j (drop (piece bytes left).size bytes) (left - (piece bytes left).size) (moved at (piece bytes left).ends))
    by true e on = refl
    by false e on =
        let pos : 0 < left = grind (arith, nat_tests) in
        let some : 0 < (piece bytes left).size = piece-some bytes left (omega arith) in
        let cut : length (drop (piece bytes left).size bytes) ≡ length bytes - (piece bytes left).size = length-drop (piece bytes left).size bytes in
        on (omega arith) (omega arith) (omega arith)

-- ---- from mark to mark

behind : (m : SourceMark) (size : ℕ) (ends : Bool) → (next_mark m size ends).before ≡ m.before + size
behind m size true = refl
behind m size false = refl

counted : (m : SourceMark) (size : ℕ) (ends : Bool) → ((next_mark m size ends).line, (next_mark m size ends).column) ≡ moved (m.line, m.column) ends
counted m size true = refl
counted m size false = refl

pub leads_on : (source : List ℕ) (offset : ℕ) (m : SourceMark) (size : ℕ) (ends : Bool) → m.before < offset → offset ≤ length source
    → ends ≡ (piece (drop m.before source) (offset - m.before)).ends → size ≡ (piece (drop m.before source) (offset - m.before)).size
    → Leads source offset m → Leads source offset (next_mark m size ends)
leads_on source offset m size ends below within is_ends is_size leads =
    let rest = drop m.before source in
    let left = offset - m.before in
    let cut : length rest ≡ length source - m.before = length-drop m.before source in
    let some : 0 < (piece rest left).size = piece-some rest left (omega arith) in
    let pos : 0 < size = subst (λ n. 0 < n) (sym is_size) some in
    let next = turn rest (drop size rest) left (left - size) size ends (m.line, m.column) (moved (m.line, m.column) ends) (place source offset) (omega arith) pos is_ends is_size refl refl refl (left, omega arith, leads) in
    let shorter : length (drop size rest) ≡ length rest - size = length-drop size rest in
    let same = any (left - size) next.0 (drop size rest) (left - size) (moved (m.line, m.column) ends) (omega arith) (omega arith) next.1 in
    let before = behind m size ends in
    let less : offset - (m.before + size) ≡ left - size = omega arith in
    let lead : place_from (offset - (m.before + size)) (drop (m.before + size) source) (offset - (m.before + size)) (moved (m.line, m.column) ends) ≡ place source offset =
    ap (λ n. place_from n (drop (m.before + size) source) n (moved (m.line, m.column) ends)) less
    ∙ ap (λ bytes. place_from (left - size) bytes (left - size) (moved (m.line, m.column) ends)) (sym (drop-drop size m.before source))
    ∙ same ∙ next.2 in
    ap (λ n. place_from (offset - n) (drop n source) (offset - n) ((next_mark m size ends).line, (next_mark m size ends).column)) before
    ∙ ap (λ at. place_from (offset - (m.before + size)) (drop (m.before + size) source) (offset - (m.before + size)) at) (counted m size ends)
    ∙ lead

-- behind a piece that is whole, every further place is counted
pub placed_on : (source : List ℕ) (m : SourceMark) (size : ℕ) (ends : Bool) → m.before < length source
    → ends ≡ (piece (drop m.before source) (length (drop m.before source))).ends → size ≡ (piece (drop m.before source) (length (drop m.before source))).size
    → IsPlaced source m → IsPlaced source (next_mark m size ends)
placed_on source m size ends within is_ends is_size placed = λ offset far below.
    let rest = drop m.before source in
    let before = behind m size ends in
    let cut : length rest ≡ length source - m.before = length-drop m.before source in
    let some : 0 < (piece rest (length rest)).size = piece-some rest (length rest) (omega arith) in
    let beyond : m.before + size ≤ offset = subst (λ n. n ≤ offset) before far in
    let fits : (piece rest (length rest)).size ≤ offset - m.before = subst (λ n. n ≤ offset - m.before) is_size (omega arith) in
    let same : piece rest (offset - m.before) ≡ piece rest (length rest) = piece-same rest (offset - m.before) (length rest) fits (omega arith) in
    let pos : 0 < size = subst (λ n. 0 < n) (sym is_size) some in
    leads_on source offset m size ends (omega arith) below
    (is_ends ∙ ap (λ (p : Piece). p.ends) (sym same)) (is_size ∙ ap (λ (p : Piece). p.size) (sym same))
    (placed offset (omega arith) below)

no_less : (n : ℕ) → n - 0 ≡ n
no_less n = omega arith

pub first_placed : (source : List ℕ) → IsPlaced source first_mark
first_placed source = λ offset far below. ap (λ n. place_from n source n (1, 1)) (no_less offset)

-- the place is counted
pub arrives : (source : List ℕ) (offset : ℕ) (m : SourceMark) → offset ≤ m.before → Leads source offset m → (m.line, m.column) ≡ place source offset
arrives source offset m past leads =
    let none : offset - m.before ≡ 0 = omega arith in
    sym (ap (λ n. place_from n (drop m.before source) n (m.line, m.column)) none ∙ done 0 (drop m.before source) (m.line, m.column)) ∙ leads

-- ---- many marks

at_end : (ms : List SourceMark) (m x : SourceMark) (k : ℕ) → slice_get (ms ++ m ∷ []) k ≡ Some x → (P : SourceMark → Type 0) → ((j : ℕ) → slice_get ms j ≡ Some x → P x) → P m → P x
at_end [] m x zero at P old new = subst P (same_Some m x at) new
at_end [] m x (suc k) at P old new = absurd (none-some x at)
at_end (n ∷ ms) m x zero at P old new = old 0 at
at_end (n ∷ ms) m x (suc k) at P old new = at_end ms m x k at P (λ j. old (suc j)) new

pub one_more : (source : List ℕ) (marks : List SourceMark) (m : SourceMark) (next : ℕ) → ArePlaced source marks → m.before ≤ length source → IsPlaced source m → ArePlaced source (kept marks m next)
one_more source marks m next all within placed = by (nat_le (length marks) (next / 64))
  where
    by : (b : Bool) → ArePlaced source (cond b (marks ++ m ∷ []) marks)
    by true = λ k x at. at_end marks m x k at (λ y. (y.before ≤ length source) × IsPlaced source y) (λ j old. all j x old) (within, placed)
    by false = all

pub none_placed : (source : List ℕ) → ArePlaced source []
none_placed source = λ k m at. absurd (none-some m at)

abbrev IsBefore : List ℕ → ℕ → SourceMark → Type 0
IsBefore source offset m = (m.before ≤ length source) × (offset ≤ length source) × Leads source offset m

pub found_before : (source : List ℕ) (marks : List SourceMark) (offset : ℕ) → offset ≤ length source → ArePlaced source marks → IsBefore source offset (mark_before marks offset)
found_before source marks offset within all = by (slice_get marks (offset / 64)) refl
  where
    first : IsBefore source offset first_mark
    first = (omega arith, within, first_placed source offset (omega arith) within)

    test : (m : SourceMark) (b : Bool) → nat_le m.before offset ≡ b → (m.before ≤ length source) × IsPlaced source m → IsBefore source offset (cond b m first_mark)
    test m true e p = let below : m.before ≤ offset = grind (arith, nat_tests) in (p.0, within, p.1 offset below within)
    test m false e p = first

    by : (o : Option SourceMark) → slice_get marks (offset / 64) ≡ o → IsBefore source offset (or_first o offset)
    by None at = first
    by (Some m) at = test m (nat_le m.before offset) refl (all (offset / 64) m at)

-- ---- the turns of the loops

pub turns_over : (source rest after : List ℕ) (marks more : List SourceMark) (m next : SourceMark) (size : ℕ) (ends : Bool) → rest ≡ drop m.before source → m.before ≤ length source → IsPlaced source m → ArePlaced source marks
    → ends ≡ (piece rest (length rest)).ends → size ≡ (piece rest (length rest)).size → 0 < size → size ≤ length rest → next ≡ next_mark m size ends → more ≡ kept marks m next.before → after ≡ drop size rest
    → (after ≡ drop next.before source) × (next.before ≤ length source) × IsPlaced source next × ArePlaced source more
turns_over source rest after marks more m next size ends is_rest within placed all is_ends is_size pos fits is_next is_more is_after =
    let before : next.before ≡ m.before + size = ap (λ (x : SourceMark). x.before) is_next ∙ behind m size ends in
    let cut : length rest ≡ length source - m.before = ap length is_rest ∙ length-drop m.before source in
    let below : m.before < length source = omega (arith, cut, pos, fits) in
    let reached : next.before ≤ length source = subst (λ n. n ≤ length source) (sym before) (omega (arith, cut, fits, within)) in (
      is_after ∙ ap (drop size) is_rest ∙ drop-drop size m.before source ∙ ap (λ n. drop n source) (sym before),
      reached,
      subst (IsPlaced source) (sym is_next) (placed_on source m size ends below (is_ends ∙ ap (λ bytes. (piece bytes (length bytes)).ends) is_rest) (is_size ∙ ap (λ bytes. (piece bytes (length bytes)).size) is_rest) placed),
      subst (ArePlaced source) (sym is_more) (one_more source marks m next.before all within placed),
    )

pub walks_on : (source rest : List ℕ) (offset : ℕ) (m next : SourceMark) (size : ℕ) (ends : Bool) → rest ≡ drop m.before source → m.before < offset → offset ≤ length source
    → ends ≡ (piece rest (offset - m.before)).ends → size ≡ (piece rest (offset - m.before)).size → size ≤ length rest → next ≡ next_mark m size ends → Leads source offset m
    → (next.before ≤ length source) × Leads source offset next
walks_on source rest offset m next size ends is_rest below within is_ends is_size fits is_next leads =
    let before : next.before ≡ m.before + size = ap (λ (x : SourceMark). x.before) is_next ∙ behind m size ends in
    let cut : length rest ≡ length source - m.before = ap length is_rest ∙ length-drop m.before source in (
      subst (λ n. n ≤ length source) (sym before) (omega (arith, cut, fits, below, within)),
      subst (Leads source offset) (sym is_next) (leads_on source offset m size ends below within (is_ends ∙ ap (λ bytes. (piece bytes (offset - m.before)).ends) is_rest) (is_size ∙ ap (λ bytes. (piece bytes (offset - m.before)).size) is_rest) leads),
    )
