-- Block comments: what the definition refuses, and why.
use Rattle.std.proofs.Common.{◌≡◌, ℕ, zero, suc, ◌+◌, ◌-◌, ◌<◌, Bool, true, false, cond, List, [], ◌∷◌, ◌++◌, length, take, slice_index, Option, Some, None, Result, Ok, Err, refl, sym, ap, ◌∙◌, subst, arith, length-append}
use Rattle.std.specs.Prelude.{◌==◌, ◌&&◌, is_none}
use Rattle.std.proofs.lemmas.Bool.{eqb-true}
use Rattle.std.proofs.lemmas.Bool.Decides.{nat_tests}
use Rattle.bstr.specs.Utf8.{Decoded}
use Rattle.base_data.specs.declared.fault.Fault.{Fault}
use Rattle.base_data.specs.declared.fault.FaultKind.TheVariants as kind
use Rattle.base_data.proofs.Chars.{branch}
use Rattle.read_lexer.specs.Between.{opens, closes, is_next}
use Rattle.read_lexer.specs.Faults.{fault_at}
use Rattle.read_lexer.specs.Gap.{comment_from, innermost, is_char}
use Rattle.read_lexer.proofs.BetweenLemmas.{left, right, some_of, opens_alone}
use Rattle.law_faults.specs.Behind.{no_character}
use Rattle.law_faults.specs.Gaps.{BadBlock}
use Rattle.law_faults.proofs.Small.{Small}
use Rattle.law_faults.proofs.Tests.{Explains, refuses, accepts, no_char}

-- the openings, outermost first
abbrev pub outer : List ℕ → List ℕ
outer [] = []
outer (o ∷ os) = outer os ++ o ∷ []

taken : (xs ys : List ℕ) → take (length xs) (xs ++ ys) ≡ xs
taken [] ys = refl
taken (x ∷ xs) ys = ap (λ (zs : List ℕ). x ∷ zs) (taken xs ys)

indexed : (xs : List ℕ) (o : ℕ) → slice_index (xs ++ o ∷ []) (length xs) ≡ o
indexed [] o = refl
indexed (x ∷ xs) o = indexed xs o

less : (xs : List ℕ) (o : ℕ) → length (xs ++ o ∷ []) - 1 ≡ length xs
less xs o = omega (arith, length-append xs (o ∷ []))

front : (xs : List ℕ) (o : ℕ) → take (length (xs ++ o ∷ []) - 1) (xs ++ o ∷ []) ≡ xs
front xs o = ap (λ (k : ℕ). take k (xs ++ o ∷ [])) (less xs o) ∙ taken xs (o ∷ [])

last_is : (xs : List ℕ) (o : ℕ) → innermost (xs ++ o ∷ []) ≡ o
last_is xs o = ap (λ (k : ℕ). slice_index (xs ++ o ∷ []) k) (less xs o) ∙ indexed xs o

not_one : (n d : ℕ) → n ≡ suc (suc d) → n == 1 ≡ false
not_one n d h = grind (arith, nat_tests)

many : (xs : List ℕ) (a b : ℕ) → length ((xs ++ a ∷ []) ++ b ∷ []) == 1 ≡ false
many xs a b = not_one (length ((xs ++ a ∷ []) ++ b ∷ [])) (length xs) (omega (arith, length-append xs (a ∷ []), length-append (xs ++ a ∷ []) (b ∷ [])))

no_second : (t : Bool) → (t && false) ≡ false
no_second true = refl
no_second false = refl

char_of : (c : ℕ) (char : Option ℕ) → is_char c char ≡ true → char ≡ Some c
char_of c None h = absurd (cc)
char_of c (Some d) h = ap Some (sym (eqb-true c d h))

no_pair : (a b : ℕ) (p q : Decoded) → is_none q.char ≡ true → (is_char a p.char && is_char b q.char) ≡ false
no_pair a b p q none =
    let nothing : q.char ≡ None = no_char q.char none in
    rw nothing (no_second (is_char a p.char))

module _ (file : List ℕ) where
  abbrev Why : List ℕ → ℕ → List Decoded → Result ℕ Fault → Type 0
  Why os at text r = Explains (BadBlock file os at text) r

  abbrev Explained : List Decoded → Type 0
  Explained text = (o : ℕ) (os : List ℕ) (at : ℕ) → Small text → Why (o ∷ os) at text (comment_from file (outer (o ∷ os)) None at text)

  close_explained : (o : ℕ) (os : List ℕ) (at : ℕ) (p q : Decoded) (rest : List Decoded) → closes (p ∷ q ∷ rest) ≡ true → Small rest → Explained rest
      → Why (o ∷ os) at (p ∷ q ∷ rest) (cond (length (outer (o ∷ os)) == 1) (Ok (at + p.size + q.size))
      (comment_from file (take (length (outer (o ∷ os)) - 1) (outer (o ∷ os))) None (at + p.size + q.size) rest))
  close_explained o [] at p q rest pair small further = accepts (BadBlock file (o ∷ []) at (p ∷ q ∷ rest)) (at + p.size + q.size)
  close_explained o (b ∷ bs) at p q rest pair small further =
      rw (many (outer bs) b o, front (outer (b ∷ bs)) o)
      (record { gives = λ f e. BadBlock.close o (b ∷ bs) at p q rest f pair ((further b bs (at + p.size + q.size) small).gives f e) })

  open_explained : (o : ℕ) (os : List ℕ) (at : ℕ) (p q : Decoded) (rest : List Decoded) → opens (p ∷ q ∷ rest) ≡ true → p.size ≡ 1 → Small rest → Explained rest
      → Why (o ∷ os) at (p ∷ q ∷ rest) (comment_from file (outer (o ∷ os) ++ (at + p.size - 1) ∷ []) None (at + p.size + q.size) rest)
  open_explained o os at p q rest pair one small further =
      let here : at + p.size - 1 ≡ at = omega (arith, one) in
      rw here (record { gives = λ f e. BadBlock.opening o os at p q rest f pair ((further at (o ∷ os) (at + p.size + q.size) small).gives f e) })

  second_explained : (o : ℕ) (os : List ℕ) (at : ℕ) (p q : Decoded) (rest : List Decoded) → is_none p.char ≡ false → Small (p ∷ q ∷ rest) → Explained rest → Explained (q ∷ rest)
      → Why (o ∷ os) at (p ∷ q ∷ rest) (comment_from file (outer (o ∷ os)) p.char (at + p.size) (q ∷ rest))
  second_explained o os at p q rest some small further further_q =
      let P : Result ℕ Fault → Type 0 = Why (o ∷ os) at (p ∷ q ∷ rest) in
      branch P (is_none q.char)
      (λ none. refuses (BadBlock file (o ∷ os) at (p ∷ q ∷ rest)) (no_character file (at + p.size))
      (BadBlock.char o os at p (q ∷ rest) (no_character file (at + p.size)) some (no_pair 0x7C 0x23 p q none) (no_pair 0x23 0x7C p q none) (BadBlock.no_char o os (at + p.size) q rest (no_char q.char none))))
      (λ some_q. branch P (closes (p ∷ q ∷ rest)) (λ c. close_explained o os at p q rest c small.1.1 further) (λ no_close.
      branch P (opens (p ∷ q ∷ rest))
      (λ opened. open_explained o os at p q rest opened (small.0 0x23 (char_of 0x23 p.char (left (is_char 0x23 p.char) (is_char 0x7C q.char) opened)) (omega arith)) small.1.1 further)
      (λ no_open. record { gives = λ f e. BadBlock.char o os at p (q ∷ rest) f some no_close no_open ((further_q o os (at + p.size) small.1).gives f (rw some_q e)) })))

  end_explained : (o : ℕ) (os : List ℕ) (at : ℕ) (char : Option ℕ) → Why (o ∷ os) at [] (comment_from file (outer (o ∷ os)) char at [])
  end_explained o os at char = rw (last_is (outer os) o) (refuses (BadBlock file (o ∷ os) at []) (fault_at file kind.Unclosed o (o + 2)) (BadBlock.source_end o os at))

  last_explained : (o : ℕ) (os : List ℕ) (at : ℕ) (p : Decoded) → Why (o ∷ os) at (p ∷ []) (comment_from file (outer (o ∷ os)) None at (p ∷ []))
  last_explained o os at p =
      branch (Why (o ∷ os) at (p ∷ [])) (is_none p.char)
      (λ none. refuses (BadBlock file (o ∷ os) at (p ∷ [])) (no_character file at) (BadBlock.no_char o os at p [] (no_char p.char none)))
      (λ some. record { gives = λ f e. BadBlock.char o os at p [] f some (no_second (is_char 0x7C p.char)) (no_second (is_char 0x23 p.char)) ((end_explained o os (at + p.size) p.char).gives f e) })

  pair_explained : (o : ℕ) (os : List ℕ) (at : ℕ) (p q : Decoded) (rest : List Decoded) → Small (p ∷ q ∷ rest) → Explained rest → Explained (q ∷ rest)
      → Why (o ∷ os) at (p ∷ q ∷ rest) (comment_from file (outer (o ∷ os)) None at (p ∷ q ∷ rest))
  pair_explained o os at p q rest small further further_q =
      branch (Why (o ∷ os) at (p ∷ q ∷ rest)) (is_none p.char)
      (λ none. refuses (BadBlock file (o ∷ os) at (p ∷ q ∷ rest)) (no_character file at) (BadBlock.no_char o os at p (q ∷ rest) (no_char p.char none)))
      (λ some. second_explained o os at p q rest some small further further_q)

  -- what the definition refuses is a block comment that can't go on
  pub block_explained : (text : List Decoded) → Explained text
  block_explained [] o os at small = end_explained o os at None
  block_explained (p ∷ []) o os at small = last_explained o os at p
  block_explained (p ∷ q ∷ rest) o os at small = pair_explained o os at p q rest small (block_explained rest) (block_explained (q ∷ rest))

  some_open : (os : List ℕ) (at : ℕ) (text : List Decoded) (f : Fault) → BadBlock file os at text f → 0 < length os
  some_open _ _ _ _ (BadBlock.source_end o os at) = omega arith
  some_open _ _ _ _ (BadBlock.no_char o os at p rest none) = omega arith
  some_open _ _ _ _ (BadBlock.close o os at p q rest f pair more) = omega arith
  some_open _ _ _ _ (BadBlock.opening o os at p q rest f pair more) = omega arith
  some_open _ _ _ _ (BadBlock.char o os at p rest f some c n more) = omega arith

  close_refused : (o : ℕ) (os : List ℕ) (at : ℕ) (p q : Decoded) (rest : List Decoded) (f : Fault) → closes (p ∷ q ∷ rest) ≡ true → 0 < length os
      → comment_from file (outer os) None (at + p.size + q.size) rest ≡ Err f → comment_from file (outer (o ∷ os)) None at (p ∷ q ∷ rest) ≡ Err f
  close_refused o [] at p q rest f pair some further = absurd (omega arith)
  close_refused o (b ∷ bs) at p q rest f pair some further =
      let p_some = some_of 0x7C p.char (left (is_char 0x7C p.char) (is_char 0x23 q.char) pair) in
      let q_some = some_of 0x23 q.char (right (is_char 0x7C p.char) (is_char 0x23 q.char) pair) in
      rw (p_some, q_some, pair, many (outer bs) b o, front (outer (b ∷ bs)) o) further

  open_refused : (o : ℕ) (os : List ℕ) (at : ℕ) (p q : Decoded) (rest : List Decoded) (f : Fault) → opens (p ∷ q ∷ rest) ≡ true → p.size ≡ 1
      → comment_from file (outer (at ∷ o ∷ os)) None (at + p.size + q.size) rest ≡ Err f → comment_from file (outer (o ∷ os)) None at (p ∷ q ∷ rest) ≡ Err f
  open_refused o os at p q rest f pair one further =
      let p_some = some_of 0x23 p.char (left (is_char 0x23 p.char) (is_char 0x7C q.char) pair) in
      let q_some = some_of 0x7C q.char (right (is_char 0x23 p.char) (is_char 0x7C q.char) pair) in
      let here : at + p.size - 1 ≡ at = omega (arith, one) in
      rw (p_some, q_some, opens_alone p q rest pair, pair, here) further

  char_refused : (o : ℕ) (os : List ℕ) (at : ℕ) (p : Decoded) (rest : List Decoded) (f : Fault) → is_none p.char ≡ false → closes (p ∷ rest) ≡ false → opens (p ∷ rest) ≡ false
      → comment_from file (outer (o ∷ os)) None (at + p.size) rest ≡ Err f → comment_from file (outer (o ∷ os)) None at (p ∷ rest) ≡ Err f
  char_refused o os at p [] f some c n further = rw some further
  char_refused o os at p (q ∷ rest) f some c n further = rw (some, c, n) further

  end_refused : (o : ℕ) (os : List ℕ) (at : ℕ) → comment_from file (outer (o ∷ os)) None at [] ≡ Err (fault_at file kind.Unclosed o (o + 2))
  end_refused o os at = rw (last_is (outer os) o) refl

  byte_refused : (os : List ℕ) (at : ℕ) (p : Decoded) (rest : List Decoded) → p.char ≡ None → comment_from file (outer os) None at (p ∷ rest) ≡ Err (no_character file at)
  byte_refused os at p rest none = rw none refl

  -- a block comment that can't go on is refused
  pub block_refused : (os : List ℕ) (at : ℕ) (text : List Decoded) (f : Fault) → BadBlock file os at text f → Small text → comment_from file (outer os) None at text ≡ Err f
  block_refused _ _ _ _ (BadBlock.source_end o os at) small = end_refused o os at
  block_refused _ _ _ _ (BadBlock.no_char o os at p rest none) small = byte_refused (o ∷ os) at p rest none
  block_refused _ _ _ _ (BadBlock.close o os at p q rest f pair more) small =
      close_refused o os at p q rest f pair (some_open os (at + p.size + q.size) rest f more) (block_refused os (at + p.size + q.size) rest f more small.1.1)
  block_refused _ _ _ _ (BadBlock.opening o os at p q rest f pair more) small =
      let one = small.0 0x23 (char_of 0x23 p.char (left (is_char 0x23 p.char) (is_char 0x7C q.char) pair)) (omega arith) in
      open_refused o os at p q rest f pair one (block_refused (at ∷ o ∷ os) (at + p.size + q.size) rest f more small.1.1)
  block_refused _ _ _ _ (BadBlock.char o os at p rest f some c n more) small = char_refused o os at p rest f some c n (block_refused (o ∷ os) (at + p.size) rest f more small.1)
