-- Symbols as tokens.
use Rattle.std.proofs.Common.{◌≡◌, ℕ, zero, suc, ◌+◌, ◌-◌, ◌<◌, ◌≤◌, Bool, true, false, List, [], ◌∷◌, ◌++◌, length, drop, take, arith, refl, sym, ap, ◌∙◌, subst, append_assoc, length-append, take-append-drop, Option, Some, None, Result, Ok, inl, inr}
use Rattle.std.specs.Prelude.{◌==◌, ◌&&◌, ◌||◌, nat_lt, nat_eq, slice_index, codes, option_and_then, ◌⊎◌}
use lib.Utf8.{scalar}
use Rattle.std.specs.Char.{IsScalar, encode_utf8}
use Rattle.std.specs.Cmp.Lexicographic.{pointwise, same_text}
use Rattle.std.specs.List.{flat_map, starts_with}
use Rattle.std.specs.Str.{IsUtf8, chars, encode_utf8_all, all_scalars}
use Rattle.std.proofs.Math.Seq.{drop-append_seam}
use Rattle.std.proofs.lemmas.Bool.Decides.{nat_tests}
use Rattle.std.proofs.lemmas.List.{append-nil}
use Rattle.std.proofs.lemmas.Str.{encode_ascii, encodes-chars, scalars-chars}
use Rattle.base_data.specs.Hex.{hex}
use Rattle.base_data.proofs.Chars.{branch}
use Rattle.read_spelling.specs.Escapes.{escape}
use Rattle.read_spelling.specs.Identifiers.{identifier, is_peculiar, is_initial, is_later, is_of, letter_here, name_from, name}
use Rattle.read_spelling.specs.declared.escapes.Letter.{Letter}
use Rattle.read_spelling.specs.declared.identifiers.Class.{Class}
use Rattle.read_spelling.specs.declared.identifiers.Class.TheVariants as class
use Rattle.read_lexer.specs.Tokens.{bare, is_dot}
use Rattle.read_lexer.specs.declared.token.Token.TheVariants as t
use Rattle.read_printer.specs.Escapes.{escape_text}
use Rattle.read_printer.specs.Symbols.{symbol_text, name_text, initial_text, subsequent_text, subsequents_text, is_initial as stands_first, is_subsequent as stands_later, is_peculiar as is_odd}
use Rattle.law_round.specs.Readable.{IsName}
use Rattle.law_round.proofs.Ascii.{characters-ascii, ends}
use Rattle.law_round.proofs.Bare.{plain, opens, Runs, runs_plain, runs_end, runs_escape, bare_reads}
use Rattle.law_round.proofs.Chars.{hex_spell}
use Rattle.law_round.proofs.Digits.{Spell}
use Rattle.law_round.proofs.Escapes.{escaped, escape_gives}
use Rattle.law_round.proofs.Ints.{usual, and_false}
use Rattle.law_round.proofs.Lexing.{Reads}

first_is : (c : ℕ) → stands_first c ≡ true → (c < 0x80) × (is_initial c ≡ true)
first_is c h = (grind (arith, nat_tests), grind (arith, nat_tests))

later_is : (c : ℕ) → stands_later c ≡ true → (c < 0x80) × ((is_initial c || is_later c) ≡ true)
later_is c h = (grind (arith, nat_tests), grind (arith, nat_tests))

first_plain : (c : ℕ) → stands_first c ≡ true → (plain c ≡ true) × (opens c ≡ true) × (c == 0x5C ≡ false)
first_plain c h = (grind (arith, nat_tests), grind (arith, nat_tests), grind (arith, nat_tests))

later_plain : (c : ℕ) → stands_later c ≡ true → (plain c ≡ true) × (c == 0x5C ≡ false)
later_plain c h = (grind (arith, nat_tests), grind (arith, nat_tests))

-- these bytes are a letter of an identifier, which stands for this character, whatever follows
record IsLetter (w : List ℕ) (k : Class) (c : ℕ) : Type 0 where
  some : 0 < length w
  here : (rest : List ℕ) → letter_here k (w ++ rest) ≡ Some (record { char = c; size = length w })
  runs : (file rest : List ℕ) (from at end : ℕ) → Runs file from rest (at + length w) end → Runs file from (w ++ rest) at end

plain_letter : (k : Class) (c : ℕ) → c < 0x80 → is_of k c ≡ true → plain c ≡ true → c == 0x5C ≡ false → IsLetter (encode_utf8 c) k c
unfolding letter_here
plain_letter k c small is h b =
    let itself : encode_utf8 c ≡ c ∷ [] = encode_ascii c (omega arith) in
    let one : IsLetter (c ∷ []) k c = record {
      some = omega arith;
      here = λ rest. rw (b, characters-ascii c rest small, is) refl;
      runs = λ file rest from at end others. runs_plain file from c rest at end h others;
    } in
    rw itself one

escape_letter : (k : Class) (c : ℕ) (ds : List ℕ) → IsScalar c → Spell 16 c ds → IsLetter (0x5C ∷ 0x78 ∷ (ds ++ 0x3B ∷ [])) k c
unfolding letter_here
escape_letter k c ds h spell =
    let text = λ (rest : List ℕ). ap (λ b. 0x5C ∷ 0x78 ∷ b) (append_assoc ds (0x3B ∷ []) rest) in
    let size : length (0x5C ∷ 0x78 ∷ (ds ++ 0x3B ∷ [])) ≡ 3 + length ds = omega (arith, length-append ds (0x3B ∷ [])) in
    record {
      some = omega arith;
      here = λ rest. rw (text rest, size) (escape_gives c ds rest h spell);
      runs = λ file rest from at end others.
          runs_escape file from (0x5C ∷ 0x78 ∷ (ds ++ 0x3B ∷ [])) rest at end (record { char = c; size = 3 + length ds }) (omega arith) refl (ap escape (text rest) ∙ escape_gives c ds rest h spell) (sym size) others;
    }

later_letter : (c : ℕ) → IsScalar c → IsLetter (subsequent_text c) class.Subsequent c
later_letter c h =
    branch (λ w. IsLetter w class.Subsequent c) (stands_later c)
    (λ e. let p = later_is c e in let q = later_plain c e in plain_letter class.Subsequent c p.0 p.1 q.0 q.1)
    (λ _. escape_letter class.Subsequent c (hex c) h (hex_spell c h))

first_letter : (c : ℕ) → IsScalar c → IsLetter (initial_text c) class.Initial c
first_letter c h =
    branch (λ w. IsLetter w class.Initial c) (stands_first c)
    (λ e. let p = first_is c e in let q = first_plain c e in plain_letter class.Initial c p.0 p.1 q.0 q.2)
    (λ _. escape_letter class.Initial c (hex c) h (hex_spell c h))

left : (x y : Bool) → (x && y) ≡ true → x ≡ true
left true y p = refl
left false y p = p

right : (x y : Bool) → (x && y) ≡ true → y ≡ true
right true y p = p
right false y p = absurd (cc)

runs_later : (cs : List ℕ) → all_scalars cs ≡ true → (file rest : List ℕ) (from at end : ℕ) → ends rest ≡ true → end ≡ at + length (subsequents_text cs) → Runs file from (subsequents_text cs ++ rest) at end
runs_later [] h file rest from at end e is = let here : end ≡ at = omega arith in rw here (runs_end file from rest at e)
runs_later (c ∷ cs) h file rest from at end e is =
    let w : List ℕ = subsequent_text c in
    let one = later_letter c (left (scalar c) (all_scalars cs) h) in
    rw (append_assoc w (subsequents_text cs) rest)
    (one.runs file (subsequents_text cs ++ rest) from at end (runs_later cs (right (scalar c) (all_scalars cs) h) file rest from (at + length w) end e (omega (arith, length-append w (subsequents_text cs)))))

some_left : (n : ℕ) → 0 < n → n == 0 ≡ false
some_left n h = grind (arith, nat_tests)

-- from here a name goes on to this one
record Named (k : Class) (out bytes total : List ℕ) : Type 0 where
  same : (n : ℕ) → length bytes < n → name_from n k out bytes ≡ Some total

named_end : (k : Class) (out : List ℕ) → Named k out [] out
unfolding name_from
named_end k out = record { same = turn } where
  turn : (n : ℕ) → 0 < n → name_from n k out [] ≡ Some out
  turn zero h = absurd (omega arith)
  turn (suc n) h = refl

named_on : (w : List ℕ) (k : Class) (c : ℕ) (out rest total : List ℕ) → IsLetter w k c → Named class.Subsequent (out ++ encode_utf8 c) rest total → Named k out (w ++ rest) total
unfolding name_from
named_on w k c out rest total one others = record { same = turn } where
  turn : (n : ℕ) → length (w ++ rest) < n → name_from n k out (w ++ rest) ≡ Some total
  turn zero h = absurd (omega arith)
  turn (suc n) h =
      let pos : 0 < length (w ++ rest) = omega (arith, one.some, length-append w rest) in
      rw (some_left (length (w ++ rest)) pos, one.here rest, drop-append_seam w rest, others.same n (omega (arith, one.some, length-append w rest))) refl

named_later : (cs : List ℕ) → all_scalars cs ≡ true → (out : List ℕ) → Named class.Subsequent out (subsequents_text cs) (out ++ encode_utf8_all cs)
named_later [] h out = rw (append-nil out) (named_end class.Subsequent out)
named_later (c ∷ cs) h out =
    let others = named_later cs (right (scalar c) (all_scalars cs) h) (out ++ encode_utf8 c) in
    rw (← append_assoc out (encode_utf8 c) (encode_utf8_all cs))
    (named_on (subsequent_text c) class.Subsequent c out (subsequents_text cs) ((out ++ encode_utf8 c) ++ encode_utf8_all cs) (later_letter c (left (scalar c) (all_scalars cs) h)) others)

bare_name : (file text x : List ℕ) (from to : ℕ) → is_dot text ≡ false → identifier text ≡ Some x → bare file text from to ≡ Ok (t.Symbol x)
bare_name file text x from to no_dot is = rw (no_dot, is) refl

name_is : (k : Class) (w total x : List ℕ) → Named k [] w total → total ≡ x → name k w ≡ Some x
name_is k w total x h e = h.same (suc (length w)) (omega arith) ∙ ap Some e

usual_name : (w x : List ℕ) → is_peculiar w ≡ false → name class.Initial w ≡ Some x → identifier w ≡ Some x
usual_name w x odd is = rw odd is

odd_name : (w x : List ℕ) → is_peculiar w ≡ true → name class.Subsequent w ≡ Some x → identifier w ≡ Some x
odd_name w x odd is = rw odd is

first_other : (c : ℕ) → stands_first c ≡ true → (c == 0x2B ≡ false) × (c == 0x2D ≡ false) × (c == 0x2E ≡ false)
first_other c h = (grind (arith, nat_tests), grind (arith, nat_tests), grind (arith, nat_tests))

-- an identifier that isn't peculiar
usual_reads : (b : ℕ) (bs rest x : List ℕ) → opens b ≡ true → b == 0x2B ≡ false → b == 0x2D ≡ false → b == 0x2E ≡ false → Named class.Initial [] (b ∷ bs) x
    → ((file : List ℕ) (at : ℕ) → Runs file at ((b ∷ bs) ++ rest) at (at + length (b ∷ bs))) → Reads (b ∷ bs) rest (t.Symbol x)
usual_reads b bs rest x h plus minus dot named runs =
    let odd : is_peculiar (b ∷ bs) ≡ false = usual (length (b ∷ bs) == 1) (length (b ∷ bs) == 3) (b == 0x2B) (b == 0x2D) (b == 0x2E) (slice_index (b ∷ bs) 1 == 0x2E) (slice_index (b ∷ bs) 2 == 0x2E) (slice_index (b ∷ bs) 1 == 0x3E) plus minus dot in
    bare_reads b bs rest (t.Symbol x) h runs
    (λ file from to. bare_name file (b ∷ bs) x from to (and_false (length (b ∷ bs) == 1) (b == 0x2E) dot) (usual_name (b ∷ bs) x odd (name_is class.Initial (b ∷ bs) x x named refl)))

module _ (c : ℕ) (cs rest : List ℕ) (h : IsScalar c) (all : all_scalars cs ≡ true) (e : ends rest ≡ true) where
  abbrev others : List ℕ
  others = subsequents_text cs

  abbrev whole : List ℕ
  whole = encode_utf8_all (c ∷ cs)

  named : (w : List ℕ) → IsLetter w class.Initial c → Named class.Initial [] (w ++ others) whole
  named w one = named_on w class.Initial c [] others whole one (named_later cs all (encode_utf8 c))

  runs : (w : List ℕ) → IsLetter w class.Initial c → (file : List ℕ) (at : ℕ) → Runs file at ((w ++ others) ++ rest) at (at + length (w ++ others))
  runs w one file at =
      rw (append_assoc w others rest) (one.runs file (others ++ rest) at at (at + length (w ++ others)) (runs_later cs all file rest at (at + length w) (at + length (w ++ others)) e (omega (arith, length-append w others))))

  plain_first : stands_first c ≡ true → IsLetter (encode_utf8 c) class.Initial c → Reads (encode_utf8 c ++ others) rest (t.Symbol whole)
  plain_first s one =
      let p = first_is c s in let q = first_plain c s in let r = first_other c s in
      let itself : encode_utf8 c ≡ c ∷ [] = encode_ascii c (omega (arith, p.0)) in
      let there = subst (λ (w : List ℕ). IsLetter w class.Initial c) itself one in
      let read : Reads ((c ∷ []) ++ others) rest (t.Symbol whole) = usual_reads c others rest whole q.1 r.0 r.1 r.2 (named (c ∷ []) there) (runs (c ∷ []) there) in
      subst (λ (w : List ℕ). Reads (w ++ others) rest (t.Symbol whole)) (sym itself) read

  escape_first : IsLetter (escape_text c) class.Initial c → Reads (escape_text c ++ others) rest (t.Symbol whole)
  escape_first one = usual_reads 0x5C (0x78 ∷ ((hex c ++ 0x3B ∷ []) ++ others)) rest whole refl refl refl refl (named (escape_text c) one) (runs (escape_text c) one)

  -- the first letter, and the others
  name_reads : Reads (name_text (c ∷ cs)) rest (t.Symbol whole)
  name_reads =
      branch (λ w. IsLetter w class.Initial c → Reads (w ++ others) rest (t.Symbol whole)) (stands_first c) plain_first (λ _. escape_first) (first_letter c h)

-- a peculiar identifier
odd_reads : (x rest : List ℕ) (b : ℕ) (bs : List ℕ) → IsUtf8 x → ends rest ≡ true → subsequents_text (chars x) ≡ b ∷ bs → opens b ≡ true → is_dot (b ∷ bs) ≡ false → is_peculiar (b ∷ bs) ≡ true
    → Reads (subsequents_text (chars x)) rest (t.Symbol x)
odd_reads x rest b bs u e is h no_dot odd =
    let all = scalars-chars x u in
    let named : Named class.Subsequent [] (b ∷ bs) (encode_utf8_all (chars x)) = rw is at (named_later (chars x) all []) in
    let runs = λ (file : List ℕ) (at : ℕ). rw is at (runs_later (chars x) all file rest at at (at + length (subsequents_text (chars x))) e refl) in
    rw is
    (bare_reads b bs rest (t.Symbol x) h runs
    (λ file from to. bare_name file (b ∷ bs) x from to no_dot (odd_name (b ∷ bs) x odd (name_is class.Subsequent (b ∷ bs) (encode_utf8_all (chars x)) x named (encodes-chars x u)))))

plus_text : subsequents_text (chars (0x2B ∷ [])) ≡ 0x2B ∷ []
unfolding chars encode_utf8
plus_text = refl

minus_text : subsequents_text (chars (0x2D ∷ [])) ≡ 0x2D ∷ []
unfolding chars encode_utf8
minus_text = refl

dots_text : subsequents_text (chars (0x2E ∷ 0x2E ∷ 0x2E ∷ [])) ≡ 0x2E ∷ 0x2E ∷ 0x2E ∷ []
unfolding chars encode_utf8
dots_text = refl

arrow_chars : (ys : List ℕ) → chars (0x2D ∷ 0x3E ∷ ys) ≡ 0x2D ∷ 0x3E ∷ chars ys
unfolding chars
arrow_chars [] = refl
arrow_chars (y ∷ ys) = refl

arrow_text : (ys : List ℕ) → subsequents_text (chars (0x2D ∷ 0x3E ∷ ys)) ≡ 0x2D ∷ 0x3E ∷ subsequents_text (chars ys)
unfolding encode_utf8
arrow_text ys = rw (arrow_chars ys) refl

IsOdd : List ℕ → Type 0
IsOdd x = (x ≡ 0x2B ∷ []) ⊎ ((x ≡ 0x2D ∷ []) ⊎ ((x ≡ 0x2E ∷ 0x2E ∷ 0x2E ∷ []) ⊎ ((ys : List ℕ) × (x ≡ 0x2D ∷ 0x3E ∷ ys))))

odd_by : (x : List ℕ) (p m d a : Bool) → (p ≡ true → x ≡ 0x2B ∷ []) → (m ≡ true → x ≡ 0x2D ∷ []) → (d ≡ true → x ≡ 0x2E ∷ 0x2E ∷ 0x2E ∷ []) → (a ≡ true → (ys : List ℕ) × (x ≡ 0x2D ∷ 0x3E ∷ ys))
    → (p || m || d || a) ≡ true → IsOdd x
unfolding IsOdd
odd_by x true m d a f g h k e = inl (f refl)
odd_by x false true d a f g h k e = inr (inl (g refl))
odd_by x false false true a f g h k e = inr (inr (inl (h refl)))
odd_by x false false false true f g h k e = inr (inr (inr (k refl)))
odd_by x false false false false f g h k e = absurd (cc)

arrow_is : (x : List ℕ) → starts_with nat_eq x (codes "->") ≡ true → (ys : List ℕ) × (x ≡ 0x2D ∷ 0x3E ∷ ys)
arrow_is x h = (drop 2 x, sym (take-append-drop 2 x) ∙ ap (λ front. front ++ drop 2 x) (sym (same_text (codes "->") (take 2 x) (sym h))))

odd_is : (x : List ℕ) → is_odd x ≡ true → IsOdd x
odd_is x h =
    odd_by x (pointwise nat_eq x (codes "+")) (pointwise nat_eq x (codes "-")) (pointwise nat_eq x (codes "...")) (starts_with nat_eq x (codes "->"))
    (λ e. same_text x (codes "+") (sym e)) (λ e. same_text x (codes "-") (sym e)) (λ e. same_text x (codes "...") (sym e)) (arrow_is x) h

or_true : (p q : Bool) → (p || q || true) ≡ true
or_true true q = refl
or_true false true = refl
or_true false false = refl

odd_symbol : (x rest : List ℕ) → IsUtf8 x → ends rest ≡ true → IsOdd x → Reads (subsequents_text (chars x)) rest (t.Symbol x)
unfolding IsOdd
odd_symbol x rest u e (inl is) = rw is (odd_reads (0x2B ∷ []) rest 0x2B [] (rw is at u) e plus_text refl refl refl)
odd_symbol x rest u e (inr (inl is)) = rw is (odd_reads (0x2D ∷ []) rest 0x2D [] (rw is at u) e minus_text refl refl refl)
odd_symbol x rest u e (inr (inr (inl is))) = rw is (odd_reads (0x2E ∷ 0x2E ∷ 0x2E ∷ []) rest 0x2E (0x2E ∷ 0x2E ∷ []) (rw is at u) e dots_text refl refl refl)
odd_symbol x rest u e (inr (inr (inr (ys, is)))) =
    let w : List ℕ = 0x2D ∷ 0x3E ∷ subsequents_text (chars ys) in
    let odd : is_peculiar w ≡ true = or_true (length w == 1 && true) (length w == 3 && false && false && slice_index w 2 == 0x2E) in
    rw is (odd_reads (0x2D ∷ 0x3E ∷ ys) rest 0x2D (0x3E ∷ subsequents_text (chars ys)) (rw is at u) e (arrow_text ys) refl (and_false (length w == 1) false refl) odd)

named_reads : (x : List ℕ) (cs rest : List ℕ) → cs ≡ chars x → IsUtf8 x → 0 < length x → ends rest ≡ true → Reads (name_text cs) rest (t.Symbol x)
named_reads x [] rest is u some e = absurd (omega (arith, some, ap length (sym (encodes-chars x u) ∙ ap encode_utf8_all (sym is))))
named_reads x (c ∷ cs) rest is u some e =
    let all : all_scalars (c ∷ cs) ≡ true = ap all_scalars is ∙ scalars-chars x u in
    let same : encode_utf8_all (c ∷ cs) ≡ x = ap encode_utf8_all is ∙ encodes-chars x u in
    subst (λ (y : List ℕ). Reads (name_text (c ∷ cs)) rest (t.Symbol y)) same (name_reads c cs rest (left (scalar c) (all_scalars cs) all) (right (scalar c) (all_scalars cs) all) e)

pub symbol_reads : (x rest : List ℕ) → IsName x → ends rest ≡ true → Reads (symbol_text x) rest (t.Symbol x)
symbol_reads x rest h e =
    branch (λ w. Reads w rest (t.Symbol x)) (is_odd x) (λ odd. odd_symbol x rest h.0 e (odd_is x odd)) (λ _. named_reads x (chars x) rest refl h.0 h.1 e)
