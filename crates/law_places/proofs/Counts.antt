-- The loop over a source gives the counted line and column.
use Rattle.std.proofs.Common.{◌≡◌, ℕ, zero, suc, ◌+◌, ◌-◌, ◌<◌, ◌≤◌, List, [], ◌∷◌, length, drop, refl, ap, sym, subst, ◌∙◌, inl, inr, arith, length-drop, drop-drop}
use Rattle.std.proofs.lemmas.Bool.{cases_lt}
use Rattle.base_data.specs.Place.{place_from, place, line_end, char_size}
use Rattle.law_places.specs.Lines.{ends_from, starts_from, line_ends, characters, last_of, ends_up_to, begun_between, line, line_start, column}
use Rattle.law_places.proofs.Scans.{char_size-some, char_size-fits, ends-line, ends-char, starts-char, place-line, place-char, place-done, Above, ends-above, none-up_to, up_to-above, up_to-here, last-above, none-begun, begun-before, begun-here}
use Rattle.law_places.proofs.Shapes.{Shape, whole, return, shape, line_end-some}

-- what the column begins with: as it is, or anew at a line end
abbrev base : ℕ → List ℕ → ℕ
base column [] = column
base column (e ∷ ends) = 1

base-one : (ends : List ℕ) → base 1 ends ≡ 1
base-one [] = refl
base-one (e ∷ ends) = refl

-- the place of the offset, from a place in a line that starts at start, by the line ends and the characters behind it
abbrev told : ℕ × ℕ → ℕ → ℕ → List ℕ → List ℕ → ℕ × ℕ
told at start offset ends starts = (at.0 + length ends, base at.1 ends + length (begun_between (last_of start ends) offset starts))

-- the loop stands at p, before the end of the bytes, and each of the numbers of steps is enough
record Stands (k p start offset ke kc : ℕ) (bytes : List ℕ) : Type 0 where
  steps : offset - p ≤ k
  within : offset - p ≤ length bytes
  ends : length bytes ≤ ke
  starts : length bytes ≤ kc
  begun : start ≤ p

abbrev Counted : ℕ → ℕ → Type 0
Counted k offset = (p start ke kc : ℕ) (bytes : List ℕ) (at : ℕ × ℕ) → Stands k p start offset ke kc bytes
    → place_from k bytes (offset - p) at ≡ told at start offset (ends_up_to offset (ends_from ke p bytes)) (starts_from kc p bytes)

-- nothing is left
reached : (k p start offset ke kc : ℕ) (bytes : List ℕ) (at : ℕ × ℕ) → offset ≤ p
    → place_from k bytes (offset - p) at ≡ told at start offset (ends_up_to offset (ends_from ke p bytes)) (starts_from kc p bytes)
reached k p start offset ke kc bytes at h =
    let none : offset - p ≡ 0 = omega arith in
    let no_ends : ends_up_to offset (ends_from ke p bytes) ≡ [] = none-up_to offset p (ends_from ke p bytes) h (ends-above ke p p bytes (omega arith)) in
    let no_starts : begun_between start offset (starts_from kc p bytes) ≡ [] = none-begun kc p start offset bytes h in
    let same : told at start offset (ends_up_to offset (ends_from ke p bytes)) (starts_from kc p bytes) ≡ told at start offset [] (starts_from kc p bytes) =
    ap (λ (ends : List ℕ). told at start offset ends (starts_from kc p bytes)) no_ends in
    let empty : told at start offset [] (starts_from kc p bytes) ≡ at = empty_told at (begun_between start offset (starts_from kc p bytes)) no_starts in
    rw none (place-done k bytes at) ∙ sym (same ∙ empty)
  where
    empty_told : (at : ℕ × ℕ) (starts : List ℕ) → starts ≡ [] → ◌≡◌ {A = ℕ × ℕ} (at.0 + 0, at.1 + length starts) at
    empty_told (l, c) starts e = let lines : l + 0 ≡ l = omega arith in let columns : c + 0 ≡ c = omega arith in rw (e, lines, columns)

-- a character counts in the line that goes on, and not where a line end lies behind it
told-char : (at : ℕ × ℕ) (p start offset : ℕ) (ends starts : List ℕ) → start ≤ p → p < offset → Above p ends
    → told (at.0, at.1 + 1) start offset ends starts ≡ told at start offset ends (p ∷ starts)
told-char at p start offset [] starts h l above = rw (begun-here p start offset starts h l) (ap (λ (c : ℕ). (at.0 + 0, c)) (omega arith))
told-char at p start offset (e ∷ ends) starts h l (here, more) = rw (begun-before p (last_of e ends) offset starts (last-above p e ends here more)) refl

-- where a line end begins that ends behind the offset, nothing ends at or before it
above-over : (k p offset : ℕ) (bytes : List ℕ) → 0 < line_end bytes → offset < p + line_end bytes → Above offset (ends_from k p bytes)
unfolding ends_from
above-over zero p offset bytes h over = tt
above-over (suc k) p offset bytes h over =
    subst (Above offset) (sym (ends-line k p bytes (line_end-some bytes h) h)) (over, ends-above k (p + line_end bytes) offset (drop (line_end bytes) bytes) (omega arith))

-- such a line end counts as characters, and behind the first of these nothing ends at or before the offset either
above-behind : (k p offset : ℕ) (bytes : List ℕ) → p < offset → offset - p ≤ length bytes → 0 < line_end bytes → offset - p < line_end bytes
    → Above offset (ends_from k (p + char_size bytes) (drop (char_size bytes) bytes))
above-behind k p offset bytes here within h over = go (line_end bytes) (char_size bytes) (shape bytes h) refl over
  where
    go : (n s : ℕ) → Shape bytes n → char_size bytes ≡ s → offset - p < n → Above offset (ends_from k (p + s) (drop s bytes))
    go n s (whole e) f over = ends-above k (p + s) offset (drop s bytes) (omega arith)
    go n s (return r some e one same more) f over =
        let i : 1 ≡ s = sym one ∙ f in
        subst (λ (s : ℕ). Above offset (ends_from k (p + s) (drop s bytes))) i
        (above-over k (p + 1) offset (drop 1 bytes) (rw more (omega arith)) (rw more (omega arith)))

-- the line ends at or before the offset are the same behind a character
ends-behind : (k p offset : ℕ) (bytes : List ℕ) → p < offset → offset - p ≤ length bytes → (0 < line_end bytes → offset - p < line_end bytes)
    → ends_up_to offset (ends_from (suc k) p bytes) ≡ ends_up_to offset (ends_from k (p + char_size bytes) (drop (char_size bytes) bytes))
ends-behind k p offset bytes here within none =
    elim (cases_lt 0 (line_end bytes)) [
      | inl h ↦
          none-up_to offset offset (ends_from (suc k) p bytes) (omega arith) (above-over (suc k) p offset bytes h (omega (arith, none h)))
          ∙ sym (none-up_to offset offset (ends_from k (p + char_size bytes) (drop (char_size bytes) bytes)) (omega arith) (above-behind k p offset bytes here within h (none h)))
      | inr h ↦ let e : line_end bytes ≡ 0 = omega arith in ap (ends_up_to offset) (ends-char k p bytes (omega arith) e)
    ]

-- the loop stands behind a piece
stands-behind : (k p start next offset ke kc kd size : ℕ) (bytes : List ℕ) → Stands (suc k) p start offset (suc ke) kc bytes
    → 0 < size → size ≤ length bytes → next ≤ p + size → length (drop size bytes) ≤ kd → Stands k (p + size) next offset ke kd (drop size bytes)
stands-behind k p start next offset ke kc kd size bytes st some fits n d =
    let left : length (drop size bytes) ≡ length bytes - size = length-drop size bytes in
    record { steps = omega arith; within = omega arith; ends = omega arith; starts = d; begun = n }

counted-char : (k p start offset ke kc : ℕ) (bytes : List ℕ) (at : ℕ × ℕ) → Counted k offset → Stands (suc k) p start offset (suc ke) (suc kc) bytes
    → p < offset → (0 < line_end bytes → offset - p < line_end bytes)
    → place_from (suc k) bytes (offset - p) at ≡ told at start offset (ends_up_to offset (ends_from (suc ke) p bytes)) (starts_from (suc kc) p bytes)
counted-char k p start offset ke kc bytes at next st here none =
    let size : ℕ = char_size bytes in
    let pos : 0 < length bytes = omega arith in
    let some : 0 < size = char_size-some bytes pos in
    let fits : size ≤ length bytes = char_size-fits bytes pos in
    let left : offset - p - size ≡ offset - (p + size) = omega arith in
    let dropped : length (drop size bytes) ≡ length bytes - size = length-drop size bytes in
    let stands : Stands k (p + size) start offset ke kc (drop size bytes) = stands-behind k p start start offset ke (suc kc) kc size bytes st some fits (omega arith) (omega arith) in
    let ends : List ℕ = ends_up_to offset (ends_from ke (p + size) (drop size bytes)) in
    let starts : List ℕ = starts_from kc (p + size) (drop size bytes) in
    let above : Above p ends = up_to-above offset p _ (ends-above ke (p + size) p (drop size bytes) (omega arith)) in
    place-char k bytes (offset - p) at (omega arith) none
    ∙ ap (λ (l : ℕ). place_from k (drop size bytes) l (at.0, at.1 + 1)) left
    ∙ next (p + size) start ke kc (drop size bytes) (at.0, at.1 + 1) stands
    ∙ told-char at p start offset ends starts (omega arith) here above
    ∙ sym (ap (λ (es : List ℕ). told at start offset es (p ∷ starts)) (ends-behind ke p offset bytes here (omega arith) none))
    ∙ sym (ap (λ (ss : List ℕ). told at start offset (ends_up_to offset (ends_from (suc ke) p bytes)) ss) (starts-char kc p bytes pos))

-- the characters that begin behind a line end are those that the scan from its end finds
record Behind (kc p size start offset : ℕ) (bytes : List ℕ) (kd : ℕ) : Type 0 where
  enough : length (drop size bytes) ≤ kd
  same : begun_between start offset (starts_from (suc kc) p bytes) ≡ begun_between start offset (starts_from kd (p + size) (drop size bytes))

behind-char : (kc p start offset : ℕ) (bytes : List ℕ) → 0 < length bytes → length bytes ≤ suc kc → p < start → Behind kc p (char_size bytes) start offset bytes kc
behind-char kc p start offset bytes pos enough h =
    let some : 0 < char_size bytes = char_size-some bytes pos in
    let left : length (drop (char_size bytes) bytes) ≡ length bytes - char_size bytes = length-drop (char_size bytes) bytes in
    record {
      enough = omega arith;
      same = ap (begun_between start offset) (starts-char kc p bytes pos) ∙ begun-before p start offset (starts_from kc (p + char_size bytes) (drop (char_size bytes) bytes)) h;
    }

-- two characters, of which the first is one byte
behind-two : (kc p r start offset : ℕ) (bytes : List ℕ) → Behind (suc kc) p 1 start offset bytes (suc kc) → Behind kc (p + 1) r start offset (drop 1 bytes) kc
    → Behind (suc kc) p (suc r) start offset bytes kc
behind-two kc p r start offset bytes first second =
    let n : 1 + r ≡ suc r = omega arith in
    let d : drop r (drop 1 bytes) ≡ drop (suc r) bytes = drop-drop r 1 bytes ∙ ap (λ (i : ℕ). drop i bytes) n in
    let q : p + 1 + r ≡ p + suc r = omega arith in
    record {
      enough = subst (λ (bs : List ℕ). length bs ≤ kc) d second.enough;
      same = first.same ∙ second.same
          ∙ ap (λ (i : ℕ). begun_between start offset (starts_from kc i (drop r (drop 1 bytes)))) q
          ∙ ap (λ (bs : List ℕ). begun_between start offset (starts_from kc (p + suc r) bs)) d;
    }

behind-line : (kc p start offset size : ℕ) (bytes : List ℕ) → Shape bytes size → size ≤ length bytes → length bytes ≤ suc kc → 0 < size → p + size ≤ start
    → (kd : ℕ) × Behind kc p size start offset bytes kd
behind-line kc p start offset size bytes (whole e) fits enough some h =
    (kc, subst (λ (s : ℕ). Behind kc p s start offset bytes kc) e (behind-char kc p start offset bytes (omega arith) enough (omega arith)))
behind-line zero p start offset size bytes (return r more e one same line) fits enough some h = absurd (omega arith)
behind-line (suc kc) p start offset size bytes (return r more e one same line) fits enough some h =
    let left : length (drop 1 bytes) ≡ length bytes - 1 = length-drop 1 bytes in
    let first : Behind (suc kc) p 1 start offset bytes (suc kc) =
    subst (λ (s : ℕ). Behind (suc kc) p s start offset bytes (suc kc)) one (behind-char (suc kc) p start offset bytes (omega arith) enough (omega arith)) in
    let second : Behind kc (p + 1) r start offset (drop 1 bytes) kc =
    subst (λ (s : ℕ). Behind kc (p + 1) s start offset (drop 1 bytes) kc) same (behind-char kc (p + 1) start offset (drop 1 bytes) (omega arith) (omega arith) (omega arith)) in
    (kc, subst (λ (s : ℕ). Behind (suc kc) p s start offset bytes kc) (sym e) (behind-two kc p r start offset bytes first second))

-- a line end counts as a line, and the column begins anew behind it
told-line : (at : ℕ × ℕ) (start offset e : ℕ) (ends starts behind : List ℕ) → begun_between (last_of e ends) offset starts ≡ begun_between (last_of e ends) offset behind
    → told (at.0 + 1, 1) e offset ends behind ≡ told at start offset (e ∷ ends) starts
told-line (l, c) start offset e ends starts behind same =
    let lines : l + 1 + length ends ≡ l + suc (length ends) = omega arith in
    let columns : base 1 ends + length (begun_between (last_of e ends) offset behind) ≡ 1 + length (begun_between (last_of e ends) offset starts) =
    ap (λ (b : ℕ). b + length (begun_between (last_of e ends) offset behind)) (base-one ends)
    ∙ ap (λ (ss : List ℕ). 1 + length ss) (sym same) in
    ap (λ (i : ℕ). (i, base 1 ends + length (begun_between (last_of e ends) offset behind))) lines
    ∙ ap (λ (i : ℕ). (l + suc (length ends), i)) columns

counted-line : (k p start offset ke kc : ℕ) (bytes : List ℕ) (at : ℕ × ℕ) → Counted k offset → Stands (suc k) p start offset (suc ke) (suc kc) bytes
    → 0 < line_end bytes → line_end bytes ≤ offset - p
    → place_from (suc k) bytes (offset - p) at ≡ told at start offset (ends_up_to offset (ends_from (suc ke) p bytes)) (starts_from (suc kc) p bytes)
counted-line k p start offset ke kc bytes at next st some fits =
    let (kd, b) = behind-line kc p (last_of e ends) offset size bytes (shape bytes some) (omega arith) (omega arith) some from in
    go kd b
  where
    size : ℕ
    size = line_end bytes

    e : ℕ
    e = p + size

    ends : List ℕ
    ends = ends_up_to offset (ends_from ke e (drop size bytes))

    from : e ≤ last_of e ends
    from =
        let above : Above (e - 1) ends = up_to-above offset (e - 1) _ (ends-above ke e (e - 1) (drop size bytes) (omega arith)) in
        let last : e - 1 < last_of e ends = last-above (e - 1) e ends (omega arith) above in
        omega arith

    all : ends_up_to offset (ends_from (suc ke) p bytes) ≡ e ∷ ends
    all = ap (ends_up_to offset) (ends-line ke p bytes (line_end-some bytes some) some) ∙ up_to-here offset e _ (omega arith)

    go : (kd : ℕ) → Behind kc p size (last_of e ends) offset bytes kd
        → place_from (suc k) bytes (offset - p) at ≡ told at start offset (ends_up_to offset (ends_from (suc ke) p bytes)) (starts_from (suc kc) p bytes)
    go kd b =
        let left : offset - p - size ≡ offset - e = omega arith in
        let stands : Stands k e e offset ke kd (drop size bytes) = stands-behind k p start e offset ke (suc kc) kd size bytes st some (omega arith) (omega arith) b.enough in
        place-line k bytes (offset - p) at some fits
        ∙ ap (λ (l : ℕ). place_from k (drop size bytes) l (at.0 + 1, 1)) left
        ∙ next e e ke kd (drop size bytes) (at.0 + 1, 1) stands
        ∙ told-line at start offset e ends (starts_from (suc kc) p bytes) (starts_from kd e (drop size bytes)) b.same
        ∙ sym (ap (λ (es : List ℕ). told at start offset es (starts_from (suc kc) p bytes)) all)

counted-on : (k p start offset ke kc : ℕ) (bytes : List ℕ) (at : ℕ × ℕ) → Counted k offset → Stands (suc k) p start offset ke kc bytes → p < offset
    → place_from (suc k) bytes (offset - p) at ≡ told at start offset (ends_up_to offset (ends_from ke p bytes)) (starts_from kc p bytes)
counted-on k p start offset zero kc bytes at next st here = absurd (omega arith)
counted-on k p start offset (suc ke) zero bytes at next st here = absurd (omega arith)
counted-on k p start offset (suc ke) (suc kc) bytes at next st here =
    elim (cases_lt 0 (line_end bytes)) [
      | inl some ↦ elim (cases_lt (offset - p) (line_end bytes)) [
        | inl over ↦ counted-char k p start offset ke kc bytes at next st here (λ _. over)
        | inr fits ↦ counted-line k p start offset ke kc bytes at next st some fits
      ]
      | inr none ↦ counted-char k p start offset ke kc bytes at next st here (λ some. absurd (omega arith))
    ]

counted : (k offset : ℕ) → Counted k offset
counted zero offset p start ke kc bytes at st = reached zero p start offset ke kc bytes at (omega arith)
counted (suc k) offset p start ke kc bytes at st =
    elim (cases_lt p offset) [
      | inl here ↦ counted-on k p start offset ke kc bytes at (counted k offset) st here
      | inr past ↦ reached (suc k) p start offset ke kc bytes at past
    ]

pub place_counted : (source : List ℕ) (offset : ℕ) → offset ≤ length source → place source offset ≡ (line source offset, column source offset)
place_counted source offset h =
    let whole : offset - 0 ≡ offset = omega arith in
    let stands : Stands offset 0 0 offset (length source) (length source) source =
    record { steps = omega arith; within = omega arith; ends = omega arith; starts = omega arith; begun = omega arith } in
    ap (λ (l : ℕ). place_from offset source l (1, 1)) (sym whole)
    ∙ counted offset offset 0 0 (length source) (length source) source (1, 1) stands
    ∙ ap (λ (b : ℕ). (line source offset, b + length (begun_between (line_start source offset) offset (characters source)))) (base-one (ends_up_to offset (line_ends source)))
