-- The definitions of gaps give exactly the relation.
use Rattle.std.proofs.Common.{◌≡◌, ℕ, zero, suc, ◌+◌, ◌-◌, ◌<◌, Bool, true, false, cond, List, [], ◌∷◌, ◌++◌, length, take, drop, slice_index, Option, Some, None, Ok, ◌⊎◌, inl, inr, refl, sym, ap, ◌∙◌, subst, arith, length-take, length-append}
use Rattle.std.proofs.lemmas.Bool.{eqb-true}
use Rattle.std.proofs.lemmas.Bool.Decides.{nat_tests}
use Rattle.std.specs.Prelude.{◌==◌, ◌&&◌, is_none, not}
use Rattle.std.specs.Prelude.{nat_lt, nat_eq, codes}
use Rattle.std.specs.List.{starts_with}
use Rattle.bstr.specs.Utf8.{Decoded, decoded}
use Rattle.bstr.proofs.lemmas.PieceLemmas.{pieces-step, pieces-nil}
use Rattle.base_data.proofs.Chars.{decoded-some}
use Rattle.read_lexer.specs.Gap.{rest_of_line, comment_from, atmosphere_end, is_char}
use Rattle.read_lexer.specs.Between.{ends_comment, CommentLine, BlockComment, Atmosphere, GapsAre, no_gap, whitespace_first, opens, closes}
use Rattle.read_lexer.specs.declared.gap.Until.TheVariants as until
use Rattle.read_lexer.proofs.RowLemmas.{StepsOver, row_is}
use Rattle.read_spelling.specs.Source.{characters, piece}
use Rattle.read_spelling.specs.Whitespace.{is_whitespace, is_delimited, whitespace_end}

abbrev LineTo : ℕ → ℕ → List Decoded → Type 0
LineTo at to text = (n : ℕ) × (to ≡ at + n) × CommentLine text n

line_test : (file : List ℕ) (c size : ℕ) (ps : List Decoded) (at to : ℕ) (t : Bool) → ends_comment c ≡ t
    → (rest_of_line file until.LineOrParagraphEnd (at + size) ps ≡ Ok to → LineTo (at + size) to ps)
    → cond t (Ok at) (rest_of_line file until.LineOrParagraphEnd (at + size) ps) ≡ Ok to → LineTo at to (piece (Some c) size ∷ ps)
line_test file c size ps at to true ends further e = (0, grind arith, CommentLine.line_end c size ps ends)
line_test file c size ps at to false ends further e =
    let r = further e in
    (size + r.0, omega (arith, r.1), CommentLine.char c size r.0 ps ends r.2)

line_char : (file : List ℕ) (char : Option ℕ) (size : ℕ) (ps : List Decoded) (at to : ℕ)
    → (rest_of_line file until.LineOrParagraphEnd (at + size) ps ≡ Ok to → LineTo (at + size) to ps)
    → rest_of_line file until.LineOrParagraphEnd at (piece char size ∷ ps) ≡ Ok to → LineTo at to (piece char size ∷ ps)
line_char file None size ps at to further e = absurd (cc)
line_char file (Some c) size ps at to further e = line_test file c size ps at to (ends_comment c) refl further e

-- a line comment's text goes up to where the definition says
pub line_sound : (file : List ℕ) (text : List Decoded) (at to : ℕ) → rest_of_line file until.LineOrParagraphEnd at text ≡ Ok to → LineTo at to text
line_sound file [] at to e = (0, grind arith, CommentLine.source_end)
line_sound file (p ∷ ps) at to e = line_char file p.char p.size ps at to (line_sound file ps (at + p.size) to) e

pub line_complete : (file : List ℕ) (text : List Decoded) (at n : ℕ) → CommentLine text n → rest_of_line file until.LineOrParagraphEnd at text ≡ Ok (at + n)
line_complete file _ at _ CommentLine.source_end = grind arith
line_complete file _ at _ (CommentLine.line_end c size rest ends) = rw ends (grind arith)
line_complete file _ at _ (CommentLine.char c size n rest goes more) = rw goes (line_complete file rest (at + size) n more ∙ ap Ok (omega arith))

abbrev BlockTo : ℕ → ℕ → ℕ → List Decoded → Type 0
BlockTo depth at to text = (n : ℕ) × (to ≡ at + n) × BlockComment depth text n

module _ (file : List ℕ) where
  abbrev Sound : List Decoded → Type 0
  Sound text = (os : List ℕ) (depth at to : ℕ) → length os ≡ suc depth → comment_from file os None at text ≡ Ok to → BlockTo (suc depth) at to text

  block_close : (os : List ℕ) (depth at to : ℕ) (p q : Decoded) (rest : List Decoded) (t : Bool) → length os ≡ suc depth → closes (p ∷ q ∷ rest) ≡ true
      → length os == 1 ≡ t → Sound rest
      → cond t (Ok (at + p.size + q.size)) (comment_from file (take (length os - 1) os) None (at + p.size + q.size) rest) ≡ Ok to
      → BlockTo (suc depth) at to (p ∷ q ∷ rest)
  block_close os zero at to p q rest true len pair one further e = (p.size + q.size + 0, grind arith, BlockComment.close 0 0 p q rest pair (BlockComment.closed rest))
  block_close os (suc d) at to p q rest true len pair one further e = absurd (omega (arith, eqb-true (length os) 1 one))
  block_close os zero at to p q rest false len pair one further e = absurd (grind (arith, nat_tests))
  block_close os (suc d) at to p q rest false len pair one further e =
      let r = further (take (length os - 1) os) d (at + p.size + q.size) to (omega (arith, length-take (length os - 1) os)) e in
      (p.size + q.size + r.0, omega (arith, r.1), BlockComment.close (suc d) r.0 p q rest pair r.2)

  block_open : (os : List ℕ) (depth at to o : ℕ) (p q : Decoded) (rest : List Decoded) → length os ≡ suc depth → opens (p ∷ q ∷ rest) ≡ true → Sound rest
      → comment_from file (os ++ o ∷ []) None (at + p.size + q.size) rest ≡ Ok to → BlockTo (suc depth) at to (p ∷ q ∷ rest)
  block_open os depth at to o p q rest len pair further e =
      let r = further (os ++ o ∷ []) (suc depth) (at + p.size + q.size) to (omega (arith, length-append os (o ∷ []))) e in
      (p.size + q.size + r.0, omega (arith, r.1), BlockComment.opening depth r.0 p q rest pair r.2)

  block_char : (os : List ℕ) (depth at to : ℕ) (p : Decoded) (rest : List Decoded) → length os ≡ suc depth → is_none p.char ≡ false
      → closes (p ∷ rest) ≡ false → opens (p ∷ rest) ≡ false → Sound rest
      → comment_from file os None (at + p.size) rest ≡ Ok to → BlockTo (suc depth) at to (p ∷ rest)
  block_char os depth at to p rest len some no_close no_open further e =
      let r = further os depth (at + p.size) to len e in
      (p.size + r.0, omega (arith, r.1), BlockComment.char depth r.0 p rest some no_close no_open r.2)

  -- the second character, whose place in the definition is behind the first
  block_second : (os : List ℕ) (depth at to : ℕ) (p q : Decoded) (rest : List Decoded) (tc to_ : Bool) → length os ≡ suc depth → is_none p.char ≡ false → is_none q.char ≡ false
      → closes (p ∷ q ∷ rest) ≡ tc → opens (p ∷ q ∷ rest) ≡ to_ → Sound rest → Sound (q ∷ rest)
      → cond tc (cond (length os == 1) (Ok (at + p.size + q.size)) (comment_from file (take (length os - 1) os) None (at + p.size + q.size) rest))
      (cond to_ (comment_from file (os ++ (at + p.size - 1) ∷ []) None (at + p.size + q.size) rest) (comment_from file os q.char (at + p.size + q.size) rest)) ≡ Ok to
      → BlockTo (suc depth) at to (p ∷ q ∷ rest)
  block_second os depth at to p q rest true to_ len some some_q pair pair_o further further_q e = block_close os depth at to p q rest (length os == 1) len pair refl further e
  block_second os depth at to p q rest false true len some some_q pair pair_o further further_q e = block_open os depth at to (at + p.size - 1) p q rest len pair_o further e
  block_second os depth at to p q rest false false len some some_q pair pair_o further further_q e =
      block_char os depth at to p (q ∷ rest) len some pair pair_o further_q (rw some_q e)

  block_some : (os : List ℕ) (depth at to : ℕ) (p q : Decoded) (rest : List Decoded) (tq : Bool) → length os ≡ suc depth → is_none p.char ≡ false → is_none q.char ≡ tq
      → Sound rest → Sound (q ∷ rest) → comment_from file os p.char (at + p.size) (q ∷ rest) ≡ Ok to → BlockTo (suc depth) at to (p ∷ q ∷ rest)
  block_some os depth at to p q rest true len some e_q further further_q e = absurd (let f = rw e_q at e in cc)
  block_some os depth at to p q rest false len some e_q further further_q e =
      block_second os depth at to p q rest (closes (p ∷ q ∷ rest)) (opens (p ∷ q ∷ rest)) len some e_q refl refl further further_q (rw e_q at e)

  block_first : (os : List ℕ) (depth at to : ℕ) (p q : Decoded) (rest : List Decoded) (tp : Bool) → length os ≡ suc depth → is_none p.char ≡ tp
      → Sound rest → Sound (q ∷ rest) → comment_from file os None at (p ∷ q ∷ rest) ≡ Ok to → BlockTo (suc depth) at to (p ∷ q ∷ rest)
  block_first os depth at to p q rest true len e_p further further_q e = absurd (let f = rw e_p at e in cc)
  block_first os depth at to p q rest false len e_p further further_q e =
      block_some os depth at to p q rest (is_none q.char) len e_p refl further further_q (rw e_p at e)

  block_last : (os : List ℕ) (depth at to : ℕ) (p : Decoded) (tp : Bool) → is_none p.char ≡ tp → comment_from file os None at (p ∷ []) ≡ Ok to → BlockTo (suc depth) at to (p ∷ [])
  block_last os depth at to p true e_p e = absurd (let f = rw e_p at e in cc)
  block_last os depth at to p false e_p e = absurd (let f = rw e_p at e in cc)

  -- a block comment's text goes up to where the definition says
  pub block_sound : (text : List Decoded) → Sound text
  block_sound [] os depth at to len e = absurd (cc)
  block_sound (p ∷ []) os depth at to len e = block_last os depth at to p (is_none p.char) refl e
  block_sound (p ∷ q ∷ rest) os depth at to len e =
      block_first os depth at to p q rest (is_none p.char) len refl (block_sound rest) (block_sound (q ∷ rest)) e

pub some_of : (c : ℕ) (char : Option ℕ) → is_char c char ≡ true → is_none char ≡ false
some_of c None h = absurd (cc)
some_of c (Some d) h = refl

pub left : (a b : Bool) → (a && b) ≡ true → a ≡ true
left true b h = refl
left false b h = h

pub right : (a b : Bool) → (a && b) ≡ true → b ≡ true
right true b h = h
right false b h = absurd (cc)

pub other_char : (c d : ℕ) (char : Option ℕ) → (c ≡ d → ⊥) → is_char c char ≡ true → is_char d char ≡ false
other_char c d None differ h = refl
other_char c d (Some e) differ h = grind (arith, nat_tests)

not_both : (a b : Bool) → a ≡ false → (a && b) ≡ false
not_both a b h = rw h refl

-- a `#|` is no `|#`
pub opens_alone : (p q : Decoded) (rest : List Decoded) → opens (p ∷ q ∷ rest) ≡ true → closes (p ∷ q ∷ rest) ≡ false
opens_alone p q rest h =
    not_both (is_char 0x7C p.char) (is_char 0x23 q.char) (other_char 0x23 0x7C p.char (λ e. cc) (left (is_char 0x23 p.char) (is_char 0x7C q.char) h))

nothing_open : (depth n : ℕ) (text : List Decoded) → depth ≡ 0 → BlockComment depth text n → n ≡ 0
nothing_open _ _ text none (BlockComment.closed _) = refl
nothing_open _ _ _ none (BlockComment.close depth n p q rest pair more) = absurd (omega arith)
nothing_open _ _ _ none (BlockComment.opening depth n p q rest pair more) = absurd (omega arith)
nothing_open _ _ _ none (BlockComment.char depth n p rest some c o more) = absurd (omega arith)

module _ (file : List ℕ) where
  abbrev Complete : ℕ → List Decoded → ℕ → Type 0
  Complete depth text n = (os : List ℕ) (at : ℕ) → length os ≡ depth → 0 < depth → comment_from file os None at text ≡ Ok (at + n)

  close_complete : (depth n : ℕ) (p q : Decoded) (rest : List Decoded) (os : List ℕ) (at : ℕ) → closes (p ∷ q ∷ rest) ≡ true → BlockComment depth rest n → Complete depth rest n
      → length os ≡ suc depth → comment_from file os None at (p ∷ q ∷ rest) ≡ Ok (at + (p.size + q.size + n))
  close_complete zero n p q rest os at pair more further len =
      let p_some = some_of 0x7C p.char (left (is_char 0x7C p.char) (is_char 0x23 q.char) pair) in
      let q_some = some_of 0x23 q.char (right (is_char 0x7C p.char) (is_char 0x23 q.char) pair) in
      let one : length os == 1 ≡ true = grind (arith, nat_tests) in
      let none = nothing_open 0 n rest refl more in
      rw (p_some, q_some, pair, one) (ap Ok (omega (arith, none)))
  close_complete (suc d) n p q rest os at pair more further len =
      let p_some = some_of 0x7C p.char (left (is_char 0x7C p.char) (is_char 0x23 q.char) pair) in
      let q_some = some_of 0x23 q.char (right (is_char 0x7C p.char) (is_char 0x23 q.char) pair) in
      let many : length os == 1 ≡ false = grind (arith, nat_tests) in
      rw (p_some, q_some, pair, many)
      (further (take (length os - 1) os) (at + p.size + q.size) (omega (arith, length-take (length os - 1) os)) (omega arith) ∙ ap Ok (omega arith))

  open_complete : (depth n : ℕ) (p q : Decoded) (rest : List Decoded) (os : List ℕ) (at : ℕ) → opens (p ∷ q ∷ rest) ≡ true → Complete (suc (suc depth)) rest n
      → length os ≡ suc depth → comment_from file os None at (p ∷ q ∷ rest) ≡ Ok (at + (p.size + q.size + n))
  open_complete depth n p q rest os at pair further len =
      let p_some = some_of 0x23 p.char (left (is_char 0x23 p.char) (is_char 0x7C q.char) pair) in
      let q_some = some_of 0x7C q.char (right (is_char 0x23 p.char) (is_char 0x7C q.char) pair) in
      let o = at + p.size - 1 in
      rw (p_some, q_some, opens_alone p q rest pair, pair)
      (further (os ++ o ∷ []) (at + p.size + q.size) (omega (arith, length-append os (o ∷ []))) (omega arith) ∙ ap Ok (omega arith))

  char_complete : (depth n : ℕ) (p : Decoded) (rest : List Decoded) (os : List ℕ) (at : ℕ) → is_none p.char ≡ false → closes (p ∷ rest) ≡ false → opens (p ∷ rest) ≡ false
      → Complete (suc depth) rest n → length os ≡ suc depth → comment_from file os None at (p ∷ rest) ≡ Ok (at + (p.size + n))
  char_complete depth n p [] os at some c o further len = absurd (let f = further os at len (omega arith) in cc)
  char_complete depth n p (q ∷ rest) os at some c o further len =
      rw (some, c, o) (further os (at + p.size) len (omega arith) ∙ ap Ok (omega arith))

  pub block_complete : (depth n : ℕ) (text : List Decoded) → BlockComment depth text n → Complete depth text n
  block_complete _ _ text (BlockComment.closed _) os at len some = absurd (omega arith)
  block_complete _ _ _ (BlockComment.close depth n p q rest pair more) os at len some = close_complete depth n p q rest os at pair more (block_complete depth n rest more) len
  block_complete _ _ _ (BlockComment.opening depth n p q rest pair more) os at len some = open_complete depth n p q rest os at pair (block_complete (suc (suc depth)) n rest more) len
  block_complete _ _ _ (BlockComment.char depth n p rest some_p c o more) os at len some = char_complete depth n p rest os at some_p c o (block_complete (suc depth) n rest more) len

-- the first character, by its first byte
pub some_bytes : (bytes : List ℕ) (p : Decoded) (ps : List Decoded) → characters bytes ≡ p ∷ ps → 0 < length bytes
unfolding characters
some_bytes [] p ps e = absurd (let f = sym pieces-nil ∙ e in cc)
some_bytes (b ∷ bs) p ps e = omega arith

pub first_char : (bytes : List ℕ) (p : Decoded) (ps : List Decoded) → characters bytes ≡ p ∷ ps → p ≡ decoded bytes
unfolding characters
first_char bytes p ps e = let f = sym e ∙ pieces-step bytes (some_bytes bytes p ps e) in cc

pub first_some : (bytes : List ℕ) (c size : ℕ) (ps : List Decoded) → characters bytes ≡ piece (Some c) size ∷ ps → 0 < size
first_some bytes c size ps e =
    let same : piece (Some c) size ≡ decoded bytes = first_char bytes (piece (Some c) size) ps e in
    subst (λ (d : Decoded). 0 < d.size) (sym same) (decoded-some bytes (some_bytes bytes (piece (Some c) size) ps e))

suc_some : (n : ℕ) → suc n == 0 ≡ false
suc_some n = grind (arith, nat_tests)

pub ascii_decoded : (b : ℕ) (bs : List ℕ) → nat_lt b 0x80 ≡ true → decoded (b ∷ bs) ≡ piece (Some b) 1
ascii_decoded b bs h = rw (suc_some (length bs), h) refl

first_of : (bytes : List ℕ) (c size b : ℕ) → piece (Some c) size ≡ decoded bytes → 0 < length bytes → slice_index bytes 0 ≡ b → nat_lt b 0x80 ≡ true → c ≡ b
first_of [] c size b e some h small = absurd (omega arith)
first_of (a ∷ bs) c size b e some h small =
    let f : Some c ≡ Some a = ap (λ (d : Decoded). d.char) (e ∙ ascii_decoded a bs (rw h small)) in
    cc

-- an ASCII byte is its character
pub first_ascii : (bytes : List ℕ) (c size b : ℕ) (ps : List Decoded) → characters bytes ≡ piece (Some c) size ∷ ps → slice_index bytes 0 ≡ b → nat_lt b 0x80 ≡ true → c ≡ b
first_ascii bytes c size b ps e h small =
    first_of bytes c size b (first_char bytes (piece (Some c) size) ps e) (some_bytes bytes (piece (Some c) size) ps e) h small

pub starts_block : (bytes : List ℕ) → starts_with nat_eq bytes (codes "#|") ≡ true → (slice_index bytes 0 ≡ 0x23) × (slice_index bytes 1 ≡ 0x7C)
starts_block [] h = absurd (cc)
starts_block (b ∷ []) h = absurd (grind (arith, nat_tests))
starts_block (b ∷ c ∷ cs) h = (grind (arith, nat_tests), grind (arith, nat_tests))

pub starts_mark : (bytes : List ℕ) → starts_with nat_eq bytes (codes "#!r6rs") ≡ true → (slice_index bytes 0 ≡ 0x23) × (slice_index bytes 1 ≡ 0x21)
starts_mark [] h = absurd (cc)
starts_mark (b ∷ []) h = absurd (grind (arith, nat_tests))
starts_mark (b ∷ c ∷ cs) h = (grind (arith, nat_tests), grind (arith, nat_tests))

pub not_equal : (a b : ℕ) → (a ≡ b → ⊥) → a == b ≡ false
not_equal a b h = grind (arith, nat_tests)

pub equal : (a b : ℕ) → a ≡ b → a == b ≡ true
equal a b h = grind (arith, nat_tests)

not_true : (t : Bool) → (t ≡ true → ⊥) → t ≡ false
not_true true h = absurd (h refl)
not_true false h = refl

-- what the definition answers at a whitespace character or a comment
abbrev Steps : List ℕ → List ℕ → ℕ → ℕ → Type 0
Steps file bytes at n = atmosphere_end file bytes at ≡ Ok (at + n)

whitespace_steps : (file bytes : List ℕ) (at c size : ℕ) (rest : List Decoded) → characters bytes ≡ piece (Some c) size ∷ rest → is_whitespace c ≡ true → Steps file bytes at size
unfolding atmosphere_end
whitespace_steps file bytes at c size rest e white =
    let no_line = not_equal (slice_index bytes 0) 0x3B (λ h. let same = first_ascii bytes c size 0x3B rest e h refl in cc (sym white, ap is_whitespace same)) in
    let no_block = not_true (starts_with nat_eq bytes (codes "#|")) (λ h. let same = first_ascii bytes c size 0x23 rest e (starts_block bytes h).0 refl in cc (sym white, ap is_whitespace same)) in
    let no_mark = not_true (starts_with nat_eq bytes (codes "#!r6rs")) (λ h. let same = first_ascii bytes c size 0x23 rest e (starts_mark bytes h).0 refl in cc (sym white, ap is_whitespace same)) in
    rw (no_line, no_block, no_mark, e, white) refl

line_steps : (file bytes : List ℕ) (at n : ℕ) → slice_index bytes 0 ≡ 0x3B → CommentLine (characters (drop 1 bytes)) n → Steps file bytes at (1 + n)
unfolding atmosphere_end
line_steps file bytes at n h line = rw (equal (slice_index bytes 0) 0x3B h) (line_complete file (characters (drop 1 bytes)) (at + 1) n line ∙ ap Ok (omega arith))

block_steps : (file bytes : List ℕ) (at n : ℕ) → starts_with nat_eq bytes (codes "#|") ≡ true → BlockComment 1 (characters (drop 2 bytes)) n → Steps file bytes at (2 + n)
unfolding atmosphere_end
block_steps file bytes at n h block =
    let no_line = not_equal (slice_index bytes 0) 0x3B (λ e. omega (arith, (starts_block bytes h).0)) in
    rw (no_line, h) (block_complete file 1 n (characters (drop 2 bytes)) block (at ∷ []) (at + 2) refl (omega arith) ∙ ap Ok (omega arith))

mark_steps : (file bytes : List ℕ) (at : ℕ) → starts_with nat_eq bytes (codes "#!r6rs") ≡ true → is_delimited (characters (drop 6 bytes)) ≡ true → Steps file bytes at 6
unfolding atmosphere_end
mark_steps file bytes at h delimited =
    let no_line = not_equal (slice_index bytes 0) 0x3B (λ e. omega (arith, (starts_mark bytes h).0)) in
    let no_block = not_true (starts_with nat_eq bytes (codes "#|")) (λ e. omega (arith, (starts_mark bytes h).1, (starts_block bytes e).1)) in
    rw (no_line, no_block, h, delimited) refl

-- an atmosphere is what the definition steps over
atmosphere_complete : (file bytes : List ℕ) (at n : ℕ) → Atmosphere bytes n → Steps file bytes at n
atmosphere_complete file _ at _ (Atmosphere.whitespace bytes c size rest e white) = whitespace_steps file bytes at c size rest e white
atmosphere_complete file _ at _ (Atmosphere.line_comment bytes n h line) = line_steps file bytes at n h line
atmosphere_complete file _ at _ (Atmosphere.block_comment bytes n h block) = block_steps file bytes at n h block
atmosphere_complete file _ at _ (Atmosphere.report_mark bytes h delimited) = mark_steps file bytes at h delimited

pub by_first : (bytes : List ℕ) (b : ℕ) → 0 < b → slice_index bytes 0 ≡ b → 0 < length bytes
by_first [] b some h = absurd (omega arith)
by_first (a ∷ bs) b some h = omega arith

-- it takes some bytes
pub atmosphere_some : (bytes : List ℕ) (n : ℕ) → Atmosphere bytes n → (0 < n) × (0 < length bytes)
atmosphere_some _ _ (Atmosphere.whitespace bytes c size rest e white) = (first_some bytes c size rest e, some_bytes bytes (piece (Some c) size) rest e)
atmosphere_some _ _ (Atmosphere.line_comment bytes n h line) = (omega arith, by_first bytes 0x3B (omega arith) h)
atmosphere_some _ _ (Atmosphere.block_comment bytes n h block) = (omega arith, by_first bytes 0x23 (omega arith) (starts_block bytes h).0)
atmosphere_some _ _ (Atmosphere.report_mark bytes h delimited) = (omega arith, by_first bytes 0x23 (omega arith) (starts_mark bytes h).0)

abbrev SomeAtmosphere : List ℕ → ℕ → ℕ → Type 0
SomeAtmosphere bytes at to = (n : ℕ) × (to ≡ at + n) × Atmosphere bytes n

abbrev Whitespace : List ℕ → List Decoded → ℕ → ℕ → Type 0
Whitespace bytes text at to = ((to ≡ at) × (whitespace_first text ≡ false)) ⊎ SomeAtmosphere bytes at to

whitespace_test : (bytes : List ℕ) (c size : ℕ) (ps : List Decoded) (at to : ℕ) (t : Bool) → characters bytes ≡ piece (Some c) size ∷ ps → is_whitespace c ≡ t
    → cond t (at + size) at ≡ to → Whitespace bytes (piece (Some c) size ∷ ps) at to
whitespace_test bytes c size ps at to true e white given = inr (size, (cc), Atmosphere.whitespace bytes c size ps e white)
whitespace_test bytes c size ps at to false e white given = inl ((cc), white)

whitespace_char : (bytes : List ℕ) (char : Option ℕ) (size : ℕ) (ps : List Decoded) (at to : ℕ) → characters bytes ≡ piece char size ∷ ps
    → whitespace_end at (piece char size ∷ ps) ≡ to → Whitespace bytes (piece char size ∷ ps) at to
whitespace_char bytes None size ps at to e given = inl ((cc), refl)
whitespace_char bytes (Some c) size ps at to e given = whitespace_test bytes c size ps at to (is_whitespace c) e refl given

whitespace_sound : (bytes : List ℕ) (text : List Decoded) (at to : ℕ) → characters bytes ≡ text → whitespace_end at text ≡ to → Whitespace bytes text at to
whitespace_sound bytes [] at to e given = inl ((cc), refl)
whitespace_sound bytes (p ∷ ps) at to e given = whitespace_char bytes p.char p.size ps at to e given

abbrev Stepped : List ℕ → ℕ → ℕ → Type 0
Stepped = StepsOver no_gap Atmosphere

no_whitespace : (bytes : List ℕ) (at to : ℕ) → slice_index bytes 0 == 0x3B ≡ false → starts_with nat_eq bytes (codes "#|") ≡ false
    → (starts_with nat_eq bytes (codes "#!r6rs") && is_delimited (characters (drop 6 bytes))) ≡ false → Whitespace bytes (characters bytes) at to → Stepped bytes at to
no_whitespace bytes at to a b c (inl (same, none)) = inl (same, rw (a, b, c, none) refl)
no_whitespace bytes at to a b c (inr some) = inr some

step_sound : (file bytes : List ℕ) (at to : ℕ) (a b c : Bool) → slice_index bytes 0 == 0x3B ≡ a → starts_with nat_eq bytes (codes "#|") ≡ b
    → (starts_with nat_eq bytes (codes "#!r6rs") && is_delimited (characters (drop 6 bytes))) ≡ c
    → cond a (rest_of_line file until.LineOrParagraphEnd (at + 1) (characters (drop 1 bytes)))
    (cond b (comment_from file (at ∷ []) None (at + 2) (characters (drop 2 bytes))) (cond c (Ok (at + 6)) (Ok (whitespace_end at (characters bytes))))) ≡ Ok to
    → Stepped bytes at to
step_sound file bytes at to true b c is_a is_b is_c given =
    let r = line_sound file (characters (drop 1 bytes)) (at + 1) to given in
    inr (1 + r.0, omega (arith, r.1), Atmosphere.line_comment bytes r.0 (eqb-true (slice_index bytes 0) 0x3B is_a) r.2)
step_sound file bytes at to false true c is_a is_b is_c given =
    let r = block_sound file (characters (drop 2 bytes)) (at ∷ []) 0 (at + 2) to refl given in
    inr (2 + r.0, omega (arith, r.1), Atmosphere.block_comment bytes r.0 is_b r.2)
step_sound file bytes at to false false true is_a is_b is_c given =
    let starts = starts_with nat_eq bytes (codes "#!r6rs") in
    let delimited = is_delimited (characters (drop 6 bytes)) in
    inr (6, (cc), Atmosphere.report_mark bytes (left starts delimited is_c) (right starts delimited is_c))
step_sound file bytes at to false false false is_a is_b is_c given =
    let same : whitespace_end at (characters bytes) ≡ to = cc in
    no_whitespace bytes at to is_a is_b is_c (whitespace_sound bytes (characters bytes) at to refl same)

-- the definition steps over an atmosphere, or stays where none comes
atmosphere_sound : (file bytes : List ℕ) (at to : ℕ) → atmosphere_end file bytes at ≡ Ok to → Stepped bytes at to
unfolding atmosphere_end
atmosphere_sound file bytes at to given =
    step_sound file bytes at to (slice_index bytes 0 == 0x3B) (starts_with nat_eq bytes (codes "#|"))
    (starts_with nat_eq bytes (codes "#!r6rs") && is_delimited (characters (drop 6 bytes))) refl refl refl given

four : (a b c d : Bool) → (not a && not b && not c && not d) ≡ true → (a ≡ false) × (b ≡ false) × (c ≡ false) × (d ≡ false)
four true b c d h = absurd (cc)
four false true c d h = absurd (cc)
four false false true d h = absurd (cc)
four false false false true h = absurd (cc)
four false false false false h = (refl, refl, refl, refl)

whitespace_stays : (text : List Decoded) (at : ℕ) → whitespace_first text ≡ false → whitespace_end at text ≡ at
whitespace_stays [] at h = refl
whitespace_stays (p ∷ ps) at h = rw h refl

no_gap_stays : (file bytes : List ℕ) (at : ℕ) → no_gap bytes ≡ true → atmosphere_end file bytes at ≡ Ok at
unfolding atmosphere_end
no_gap_stays file bytes at h =
    let f = four (slice_index bytes 0 == 0x3B) (starts_with nat_eq bytes (codes "#|"))
    (starts_with nat_eq bytes (codes "#!r6rs") && is_delimited (characters (drop 6 bytes))) (whitespace_first (characters bytes)) h in
    rw (f.0, f.1, f.2) (ap Ok (whitespace_stays (characters bytes) at f.3))

-- between tokens stand exactly whitespace and comments
pub gaps_are : GapsAre
gaps_are file bytes at to = row_is (atmosphere_end file) no_gap Atmosphere (atmosphere_sound file) (atmosphere_complete file) (no_gap_stays file) atmosphere_some bytes at to
