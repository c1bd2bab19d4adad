-- The text of a datum is read as that datum, but for its spans.
use Rattle.std.proofs.Common.{◌≡◌, ℕ, zero, suc, ◌+◌, ◌<◌, ◌≤◌, Bool, true, false, List, [], ◌∷◌, ◌++◌, length, drop, arith, refl, sym, ap, ◌∙◌, append_assoc, length-append, drop-drop, subst, Option, Some, None, Result, Ok, Err, All, pos}
use Rattle.std.proofs.lemmas.List.{append-nil, drop_all}
use Rattle.std.proofs.lemmas.List.Elements.{All-head, All-tail}
use Rattle.std.proofs.Math.Seq.{drop-append_seam}
use Rattle.std.specs.Prelude.{decimal, codes}
use Rattle.base_data.specs.declared.span.Span.{Span}
use Rattle.base_data.specs.declared.atom.Atom.{Atom}
use Rattle.base_data.specs.declared.atom.Atom.TheVariants as a
use Rattle.base_data.specs.Datum.{PlainDatum, atom, symbol, pair, vector, chain, listed, nil, unspanned}
use Rattle.read_lexer.specs.declared.token.Bracket.TheVariants as bracket
use Rattle.read_lexer.specs.declared.token.Lexeme.{Lexeme}
use Rattle.read_lexer.specs.declared.token.Token.{Token}
use Rattle.read_lexer.specs.declared.token.Token.TheVariants as t
use Rattle.read_machine.specs.declared.extent.Extent.{Extent}
use Rattle.read_machine.specs.Extent.{span_at, through}
use Rattle.read_machine.specs.Form.{as_tail}
use Rattle.read_reader.specs.Grammar.{lexeme, IsDatum, IsNext, AreItems, AreBytes, constant, name, list, dotted, elements, bytes, here, no_items, item, no_bytes, byte}
use Rattle.read_lexer.specs.Start.{start_of}
use Rattle.read_reader.specs.Lexemes.{lexed}
use Rattle.read_reader.specs.Read.{data_of}
use Rattle.read_reader.proofs.Complete.{reads_all}
use Rattle.read_printer.specs.DatumText.{datum_text, rest_text, elements_text, atom_text, atom_rest, dotted_text, bytes_text, further_bytes}
use Rattle.read_printer.specs.Symbols.{symbol_text}
use Rattle.law_round.specs.Readable.{inside, IsReadable, IsReadableAtom, IsRest, AreElements, IsName}
use Rattle.law_round.specs.ReadBack.{ReadableAreReadBack}
use Rattle.law_round.proofs.Ascii.{ends, no_start, no_start_hash}
use Rattle.law_round.proofs.Lexing.{Reads, Lexes, alone, lex_end, lex_token, lex_space}
use Rattle.law_round.proofs.Signs.{open_reads, close_reads, vector_reads, bytes_reads, true_reads, false_reads, dot_reads}
use Rattle.law_round.proofs.Ints.{int_reads}
use Rattle.law_round.proofs.Spelts.{spelt_reads}
use Rattle.law_round.proofs.Chars.{char_reads}
use Rattle.law_round.proofs.Strings.{string_reads}
use Rattle.law_round.proofs.Symbols.{symbol_reads}

-- a form is nested there
inside_one : (n : ℕ) (P : ℕ → Type 0) → inside n P → (m : ℕ) × (n ≡ suc m) × P m
inside_one zero P h = elim h [ ]
inside_one (suc m) P h = (m, refl, h)

-- no list, and so the same in the place of a tail
abbrev solid : PlainDatum → Bool
solid (atom s a.Nil) = false
solid (atom s (a.Bool b)) = true
solid (atom s (a.Int z)) = true
solid (atom s (a.Spelt x)) = true
solid (atom s (a.Char c)) = true
solid (atom s (a.Str x)) = true
solid (atom s (a.Bytes ns)) = true
solid (symbol s x) = true
solid (pair s d e) = false
solid (vector s d) = true

solid-unspanned : (d : PlainDatum) → solid (unspanned d) ≡ solid d
solid-unspanned (atom s a.Nil) = refl
solid-unspanned (atom s (a.Bool b)) = refl
solid-unspanned (atom s (a.Int z)) = refl
solid-unspanned (atom s (a.Spelt x)) = refl
solid-unspanned (atom s (a.Char c)) = refl
solid-unspanned (atom s (a.Str x)) = refl
solid-unspanned (atom s (a.Bytes ns)) = refl
solid-unspanned (symbol s x) = refl
solid-unspanned (pair s d e) = refl
solid-unspanned (vector s d) = refl

solid_tail : (d : PlainDatum) → solid d ≡ true → as_tail d ≡ d
solid_tail (atom s a.Nil) h = absurd (cc)
solid_tail (atom s (a.Bool b)) h = refl
solid_tail (atom s (a.Int z)) h = refl
solid_tail (atom s (a.Spelt x)) h = refl
solid_tail (atom s (a.Char c)) h = refl
solid_tail (atom s (a.Str x)) h = refl
solid_tail (atom s (a.Bytes ns)) h = refl
solid_tail (symbol s x) h = refl
solid_tail (pair s d e) h = absurd (cc)
solid_tail (vector s d) h = refl

-- the same tail, where the datum is no list
tail_is : (e d : PlainDatum) → unspanned e ≡ unspanned d → solid d ≡ true → as_tail e ≡ e
tail_is e d same h = solid_tail e (sym (solid-unspanned e) ∙ ap solid same ∙ solid-unspanned d ∙ h)

-- behind an element comes a space or the close
rest_ends : (e : PlainDatum) (rest : List ℕ) → ends rest ≡ true → ends (rest_text e ++ rest) ≡ true
rest_ends (atom s a.Nil) rest h = h
rest_ends (atom s (a.Bool b)) rest h = refl
rest_ends (atom s (a.Int z)) rest h = refl
rest_ends (atom s (a.Spelt x)) rest h = refl
rest_ends (atom s (a.Char c)) rest h = refl
rest_ends (atom s (a.Str x)) rest h = refl
rest_ends (atom s (a.Bytes ns)) rest h = refl
rest_ends (symbol s x) rest h = refl
rest_ends (pair s d e) rest h = refl
rest_ends (vector s d) rest h = refl

bytes_end : (ns rest : List ℕ) → ends rest ≡ true → ends (further_bytes ns ++ rest) ≡ true
bytes_end [] rest h = h
bytes_end (n ∷ ns) rest h = refl

abbrev at_from : ℕ → ℕ → Extent
at_from from to = record { from = from; to = to }

module _ (file source : List ℕ) where
  -- what stands behind some bytes
  pub behind : (w rest : List ℕ) (at : ℕ) → drop at source ≡ w ++ rest → drop (at + length w) source ≡ rest
  behind w rest at is = sym (drop-drop (length w) at source) ∙ ap (λ b. drop (length w) b) is ∙ drop-append_seam w rest

  word : (w rest : List ℕ) (at end : ℕ) (k : Token) (ls : List Lexeme) → Reads w rest k → end ≡ at + length w → drop at source ≡ w ++ rest
      → Lexes file source end ls → Lexes file source at (lexeme k (at_from at end) ∷ ls)
  word w rest at end k ls reads so is others = rw so (lex_token file source w rest at k ls is reads (rw so at others))

  -- a datum like this is spelt from an offset on, up to these lexemes
  pub record Spelled (n : ℕ) (d : PlainDatum) (at : ℕ) (ls : List Lexeme) : Type 0 where
    pub us : List Lexeme
    pub e : PlainDatum
    pub x : Extent
    pub lexes : Lexes file source at (us ++ ls)
    pub is : IsDatum file n us e x
    pub same : unspanned e ≡ unspanned d

  -- elements like those of this list, which has an empty tail
  record AreSpelled (n : ℕ) (d : PlainDatum) (at : ℕ) (ls : List Lexeme) : Type 0 where
    us : List Lexeme
    es : List PlainDatum
    lexes : Lexes file source at (us ++ ls)
    are : AreItems file n us es
    same : unspanned (chain es nil) ≡ unspanned d

  -- the elements of a list, and its tail
  data IsRestOf (n : ℕ) (us : List Lexeme) (es : List PlainDatum) (last : PlainDatum) : Type 0 where
    ended : last ≡ nil → AreItems file n us es → IsRestOf n us es last
    tailed : (vs ms : List Lexeme) (dot x : Extent) → us ≡ vs ++ (lexeme t.Dot dot ∷ ms) → AreItems file n vs es → IsDatum file n ms last x → as_tail last ≡ last
        → IsRestOf n us es last

  record RestSpelled (n : ℕ) (d : PlainDatum) (at : ℕ) (ls : List Lexeme) : Type 0 where
    us : List Lexeme
    es : List PlainDatum
    last : PlainDatum
    lexes : Lexes file source at (us ++ ls)
    rest : IsRestOf n us es last
    same : unspanned (chain es last) ≡ unspanned d

  -- a datum that is one token
  one_token : (n : ℕ) (d e : PlainDatum) (w rest : List ℕ) (at end : ℕ) (k : Token) (ls : List Lexeme) → Reads w rest k → end ≡ at + length w → drop at source ≡ w ++ rest → Lexes file source end ls
      → IsDatum file n (lexeme k (at_from at end) ∷ []) e (at_from at end) → unspanned e ≡ unspanned d → Spelled n d at ls
  one_token n d e w rest at end k ls reads so is others datum same =
      record { us = lexeme k (at_from at end) ∷ []; e = e; x = at_from at end; lexes = word w rest at end k ls reads so is others; is = datum; same = same }

  spell_atom : (n : ℕ) (s : Option Span) (c : Atom) (w rest : List ℕ) (at end : ℕ) (ls : List Lexeme) → Reads w rest (t.Atom c) → end ≡ at + length w → drop at source ≡ w ++ rest → Lexes file source end ls
      → Spelled n (atom s c) at ls
  spell_atom n s c w rest at end ls reads so is others =
      one_token n (atom s c) (atom (span_at file (at_from at end)) c) w rest at end (t.Atom c) ls reads so is others (constant c (at_from at end)) refl

  spell_symbol : (n : ℕ) (s : Option Span) (x rest : List ℕ) (at end : ℕ) (ls : List Lexeme) → IsName x → ends rest ≡ true → end ≡ at + length (symbol_text x) → drop at source ≡ symbol_text x ++ rest → Lexes file source end ls
      → Spelled n (symbol s x) at ls
  spell_symbol n s x rest at end ls h e so is others =
      one_token n (symbol s x) (symbol (span_at file (at_from at end)) x) (symbol_text x) rest at end (t.Symbol x) ls (symbol_reads x rest h e) so is others (name x (at_from at end)) refl

  -- the empty list
  spell_nil : (n m : ℕ) (s : Option Span) (rest : List ℕ) (at end : ℕ) (ls : List Lexeme) → n ≡ suc m → end ≡ at + 2 → drop at source ≡ 0x28 ∷ 0x29 ∷ rest → Lexes file source end ls
      → Spelled n (atom s a.Nil) at ls
  spell_nil n m s rest at end ls is_one so is others =
      let closes = word (0x29 ∷ []) rest (at + 1) end (t.Close bracket.Round) ls (close_reads rest) (omega arith) (behind (0x28 ∷ []) (0x29 ∷ rest) at is) others in
      record {
        us = lexeme (t.Open bracket.Round) (at_from at (at + 1)) ∷ lexeme (t.Close bracket.Round) (at_from (at + 1) end) ∷ [];
        e = listed (span_at file (through (at_from at (at + 1)) (at_from (at + 1) end))) [] nil;
        x = through (at_from at (at + 1)) (at_from (at + 1) end);
        lexes = word (0x28 ∷ []) (0x29 ∷ rest) at (at + 1) (t.Open bracket.Round) (lexeme (t.Close bracket.Round) (at_from (at + 1) end) ∷ ls) (open_reads (0x29 ∷ rest)) refl is closes;
        is = rw is_one (list bracket.Round (at_from at (at + 1)) (at_from (at + 1) end) no_items);
        same = refl;
      }

  -- the bytes of a bytevector
  record BytesSpelled (n : ℕ) (ns : List ℕ) (at : ℕ) (ls : List Lexeme) : Type 0 where
    us : List Lexeme
    lexes : Lexes file source at (us ++ ls)
    are : AreBytes file n us ns

  one_byte : (n m : ℕ) (ns rest : List ℕ) (at end : ℕ) (ls : List Lexeme) → m < 256 → ends rest ≡ true → end ≡ at + length (decimal m) → drop at source ≡ decimal m ++ rest
      → BytesSpelled n ns end ls → BytesSpelled n (m ∷ ns) at ls
  one_byte n m ns rest at end ls small e so is others = record {
    us = lexeme (t.Atom (a.Int (pos m))) (at_from at end) ∷ others.us;
    lexes = word (decimal m) rest at end (t.Atom (a.Int (pos m))) (others.us ++ ls) (int_reads (pos m) rest (omega arith) e) so is others.lexes;
    are = byte m (at_from at end) small others.are;
  }

  spell_further_bytes : (n : ℕ) (ns rest : List ℕ) (at end : ℕ) (ls : List Lexeme) → All (λ b. b < 256) ns → ends rest ≡ true → end ≡ at + length (further_bytes ns) → drop at source ≡ further_bytes ns ++ rest
      → Lexes file source end ls → BytesSpelled n ns at ls
  spell_further_bytes n [] rest at end ls small e so is others = let here : end ≡ at = omega arith in record { us = []; lexes = rw here at others; are = no_bytes }
  spell_further_bytes n (m ∷ ns) rest at end ls small e so is others =
      let next : ℕ = at + 1 + length (decimal m) in
      let text : drop at source ≡ (0x20 ∷ []) ++ (decimal m ++ (further_bytes ns ++ rest)) = is ∙ ap (λ b. 0x20 ∷ b) (append_assoc (decimal m) (further_bytes ns) rest) in
      let first : drop (at + 1) source ≡ decimal m ++ (further_bytes ns ++ rest) = behind (0x20 ∷ []) (decimal m ++ (further_bytes ns ++ rest)) at text in
      let second : drop next source ≡ further_bytes ns ++ rest = behind (decimal m) (further_bytes ns ++ rest) (at + 1) first in
      let there : end ≡ next + length (further_bytes ns) = omega (arith, length-append (decimal m) (further_bytes ns)) in
      let further = spell_further_bytes n ns rest next end ls (All-tail (λ b. b < 256) m ns small) e there second others in
      let one = one_byte n m ns (further_bytes ns ++ rest) (at + 1) next ls (All-head (λ b. b < 256) m ns small) (bytes_end ns rest e) refl first further in
      record { us = one.us; lexes = lex_space file source (decimal m ++ (further_bytes ns ++ rest)) at (one.us ++ ls) text first one.lexes; are = one.are }

  spell_bytes_text : (n : ℕ) (ns rest : List ℕ) (at end : ℕ) (ls : List Lexeme) → All (λ b. b < 256) ns → ends rest ≡ true → end ≡ at + length (bytes_text ns) → drop at source ≡ bytes_text ns ++ rest
      → Lexes file source end ls → BytesSpelled n ns at ls
  spell_bytes_text n [] rest at end ls small e so is others = let here : end ≡ at = omega arith in record { us = []; lexes = rw here at others; are = no_bytes }
  spell_bytes_text n (m ∷ ns) rest at end ls small e so is others =
      let next : ℕ = at + length (decimal m) in
      let first : drop at source ≡ decimal m ++ (further_bytes ns ++ rest) = is ∙ append_assoc (decimal m) (further_bytes ns) rest in
      let second : drop next source ≡ further_bytes ns ++ rest = behind (decimal m) (further_bytes ns ++ rest) at first in
      let there : end ≡ next + length (further_bytes ns) = omega (arith, length-append (decimal m) (further_bytes ns)) in
      let further = spell_further_bytes n ns rest next end ls (All-tail (λ b. b < 256) m ns small) e there second others in
      one_byte n m ns (further_bytes ns ++ rest) at next ls (All-head (λ b. b < 256) m ns small) (bytes_end ns rest e) refl first further

  spell_bytes : (n : ℕ) (s : Option Span) (ns rest : List ℕ) (at end : ℕ) (ls : List Lexeme) → All (λ b. b < 256) ns → end ≡ at + length (atom_text (a.Bytes ns)) → drop at source ≡ atom_text (a.Bytes ns) ++ rest
      → Lexes file source end ls → Spelled n (atom s (a.Bytes ns)) at ls
  spell_bytes n s ns rest at end ls small so is others =
      let last : ℕ = at + 5 + length (bytes_text ns) in
      let there : end ≡ last + 1 = omega (arith, length-append (bytes_text ns) (0x29 ∷ [])) in
      let sign : List ℕ = 0x23 ∷ 0x76 ∷ 0x75 ∷ 0x38 ∷ 0x28 ∷ [] in
      let text : drop at source ≡ sign ++ (bytes_text ns ++ (0x29 ∷ rest)) = is ∙ ap (λ b. sign ++ b) (append_assoc (bytes_text ns) (0x29 ∷ []) rest) in
      let first : drop (at + 5) source ≡ bytes_text ns ++ (0x29 ∷ rest) = behind sign (bytes_text ns ++ (0x29 ∷ rest)) at text in
      let second : drop last source ≡ 0x29 ∷ rest = behind (bytes_text ns) (0x29 ∷ rest) (at + 5) first in
      let close : Lexeme = lexeme (t.Close bracket.Round) (at_from last end) in
      let closes = word (0x29 ∷ []) rest last end (t.Close bracket.Round) ls (close_reads rest) there second others in
      let inner = spell_bytes_text n ns (0x29 ∷ rest) (at + 5) last (close ∷ ls) small refl refl first closes in
      record {
        us = lexeme t.OpenBytes (at_from at (at + 5)) ∷ inner.us ++ close ∷ [];
        e = atom (span_at file (through (at_from at (at + 5)) (at_from last end))) (a.Bytes ns);
        x = through (at_from at (at + 5)) (at_from last end);
        lexes = rw (append_assoc inner.us (close ∷ []) ls) (word sign (bytes_text ns ++ (0x29 ∷ rest)) at (at + 5) t.OpenBytes (inner.us ++ (close ∷ ls)) (bytes_reads (bytes_text ns ++ (0x29 ∷ rest))) refl text inner.lexes);
        is = bytes (at_from at (at + 5)) (at_from last end) inner.are;
        same = refl;
      }

  spell_any : (n : ℕ) (s : Option Span) (c : Atom) (rest : List ℕ) (at end : ℕ) (ls : List Lexeme) → IsReadableAtom n c → ends rest ≡ true → end ≡ at + length (atom_text c) → drop at source ≡ atom_text c ++ rest
      → Lexes file source end ls → Spelled n (atom s c) at ls
  spell_any n s a.Nil rest at end ls h e so is others = let p = inside_one n (λ _. Unit {0}) h in spell_nil n p.0 s rest at end ls p.1 so is others
  spell_any n s (a.Bool true) rest at end ls h e so is others = spell_atom n s (a.Bool true) (0x23 ∷ 0x74 ∷ []) rest at end ls (true_reads rest e) so is others
  spell_any n s (a.Bool false) rest at end ls h e so is others = spell_atom n s (a.Bool false) (0x23 ∷ 0x66 ∷ []) rest at end ls (false_reads rest e) so is others
  spell_any n s (a.Int z) rest at end ls h e so is others = spell_atom n s (a.Int z) (atom_text (a.Int z)) rest at end ls (int_reads z rest h e) so is others
  spell_any n s (a.Spelt x) rest at end ls h e so is others = spell_atom n s (a.Spelt x) x rest at end ls (spelt_reads x rest h e) so is others
  spell_any n s (a.Char c) rest at end ls h e so is others = spell_atom n s (a.Char c) (atom_text (a.Char c)) rest at end ls (char_reads c rest h e) so is others
  spell_any n s (a.Str x) rest at end ls h e so is others = spell_atom n s (a.Str x) (atom_text (a.Str x)) rest at end ls (string_reads x rest h) so is others
  spell_any n s (a.Bytes ns) rest at end ls h e so is others = spell_bytes n s ns rest at end ls h so is others

  -- one more element
  add_item : {n : ℕ} {vs us : List Lexeme} {d last : PlainDatum} {es : List PlainDatum} {x : Extent} → IsDatum file n vs d x → IsRestOf n us es last → IsRestOf n (vs ++ us) (d ∷ es) last
  add_item one (ended is items) = ended is (item one items)
  add_item {n} {vs} {us} one (tailed ws ms dot x same items datum stays) =
      tailed (vs ++ ws) ms dot x (ap (λ z. vs ++ z) same ∙ sym (append_assoc vs ws (lexeme t.Dot dot ∷ ms))) (item one items) datum stays

  -- a list is closed behind its tail
  closed : {n : ℕ} {us : List Lexeme} {d last : PlainDatum} {es : List PlainDatum} (x y : Extent) → IsRestOf n us (d ∷ es) last
      → IsDatum file (suc n) (lexeme (t.Open bracket.Round) x ∷ us ++ lexeme (t.Close bracket.Round) y ∷ []) (listed (span_at file (through x y)) (d ∷ es) last) (through x y)
  closed x y (ended is items) = rw is (list bracket.Round x y items)
  closed {n} {us} {d} {last} {es} x y (tailed vs ms dot z same items datum stays) =
      let whole = dotted bracket.Round x y dot items (here datum) no_items in
      let regrouped : (vs ++ (lexeme t.Dot dot ∷ ms)) ++ [] ≡ us = append-nil (vs ++ (lexeme t.Dot dot ∷ ms)) ∙ sym same in
      rw (regrouped, stays) at whole

  join_pair : (n m : ℕ) (s : Option Span) (d e : PlainDatum) (inner : List ℕ) (at next last end : ℕ) (ls : List Lexeme) → n ≡ suc m
      → drop at source ≡ 0x28 ∷ inner
      → (tail : RestSpelled m e next (lexeme (t.Close bracket.Round) (at_from last end) ∷ ls))
      → (head : Spelled m d (at + 1) (tail.us ++ (lexeme (t.Close bracket.Round) (at_from last end) ∷ ls)))
      → Spelled n (pair s d e) at ls
  join_pair n m s d e inner at next last end ls is_one text tail head =
      let open_at : Extent = at_from at (at + 1) in
      let close : Lexeme = lexeme (t.Close bracket.Round) (at_from last end) in
      let tokens : ((head.us ++ tail.us) ++ close ∷ []) ++ ls ≡ head.us ++ (tail.us ++ (close ∷ ls)) = simp append_assoc in
      record {
        us = lexeme (t.Open bracket.Round) open_at ∷ (head.us ++ tail.us) ++ close ∷ [];
        e = listed (span_at file (through open_at (at_from last end))) (head.e ∷ tail.es) tail.last;
        x = through open_at (at_from last end);
        lexes = rw tokens (word (0x28 ∷ []) inner at (at + 1) (t.Open bracket.Round) (head.us ++ (tail.us ++ (close ∷ ls))) (open_reads inner) refl text head.lexes);
        is = rw is_one (closed open_at (at_from last end) (add_item head.is tail.rest));
        same = λ i. pair None (head.same i) (tail.same i);
      }

  join_vector : (n m : ℕ) (s : Option Span) (d : PlainDatum) (inner : List ℕ) (at last end : ℕ) (ls : List Lexeme) → n ≡ suc m
      → drop at source ≡ 0x23 ∷ 0x28 ∷ inner
      → (items : AreSpelled m d (at + 2) (lexeme (t.Close bracket.Round) (at_from last end) ∷ ls))
      → Spelled n (vector s d) at ls
  join_vector n m s d inner at last end ls is_one text items =
      let open_at : Extent = at_from at (at + 2) in
      let close : Lexeme = lexeme (t.Close bracket.Round) (at_from last end) in
      record {
        us = lexeme t.OpenVector open_at ∷ items.us ++ close ∷ [];
        e = vector (span_at file (through open_at (at_from last end))) (chain items.es nil);
        x = through open_at (at_from last end);
        lexes = rw (append_assoc items.us (close ∷ []) ls) (word (0x23 ∷ 0x28 ∷ []) inner at (at + 2) t.OpenVector (items.us ++ (close ∷ ls)) (vector_reads inner) refl text items.lexes);
        is = rw is_one (elements open_at (at_from last end) items.are);
        same = λ i. vector None (items.same i);
      }

  -- a tail behind its dot
  dot_before : (n : ℕ) (d : PlainDatum) (w : List ℕ) (at : ℕ) (ls : List Lexeme) → solid d ≡ true → drop at source ≡ 0x20 ∷ 0x2E ∷ 0x20 ∷ w → Spelled n d (at + 3) ls → RestSpelled n d at ls
  dot_before n d w at ls h is tail =
      let first : drop (at + 1) source ≡ 0x2E ∷ 0x20 ∷ w = behind (0x20 ∷ []) (0x2E ∷ 0x20 ∷ w) at is in
      let second : drop (at + 1 + 1) source ≡ 0x20 ∷ w = behind (0x2E ∷ []) (0x20 ∷ w) (at + 1) first in
      let third : drop (at + 1 + 1 + 1) source ≡ w = behind (0x20 ∷ []) w (at + 1 + 1) second in
      let there : at + 3 ≡ at + 1 + 1 + 1 = omega arith in
      let dot : Extent = at_from (at + 1) (at + 1 + 1) in
      let behind_dot = lex_space file source w (at + 1 + 1) (tail.us ++ ls) second third (rw there at tail.lexes) in
      let dot_there = word (0x2E ∷ []) (0x20 ∷ w) (at + 1) (at + 1 + 1) t.Dot (tail.us ++ ls) (dot_reads (0x20 ∷ w) refl) refl first behind_dot in
      record {
        us = lexeme t.Dot dot ∷ tail.us;
        es = [];
        last = tail.e;
        lexes = lex_space file source (0x2E ∷ 0x20 ∷ w) at (lexeme t.Dot dot ∷ (tail.us ++ ls)) is first dot_there;
        rest = tailed [] tail.us dot tail.x refl no_items tail.is (tail_is tail.e d tail.same h);
        same = tail.same;
      }

  rest_atom : (n : ℕ) (s : Option Span) (c : Atom) (rest : List ℕ) (at end : ℕ) (ls : List Lexeme) → IsReadableAtom n c → solid (atom s c) ≡ true → ends rest ≡ true
      → end ≡ at + length (dotted_text (atom_text c)) → drop at source ≡ dotted_text (atom_text c) ++ rest → Lexes file source end ls → RestSpelled n (atom s c) at ls
  rest_atom n s c rest at end ls h is_solid e so is others =
      let there : end ≡ at + 3 + length (atom_text c) = omega arith in
      dot_before n (atom s c) (atom_text c ++ rest) at ls is_solid is
      (spell_any n s c rest (at + 3) end ls h e there (behind (0x20 ∷ 0x2E ∷ 0x20 ∷ []) (atom_text c ++ rest) at is) others)

  -- one more element behind a space
  join_further : (n : ℕ) (s : Option Span) (d e : PlainDatum) (inner : List ℕ) (at next : ℕ) (ls : List Lexeme) → drop at source ≡ 0x20 ∷ inner → drop (at + 1) source ≡ inner
      → (tail : RestSpelled n e next ls) → (head : Spelled n d (at + 1) (tail.us ++ ls)) → RestSpelled n (pair s d e) at ls
  join_further n s d e inner at next ls text first tail head = record {
    us = head.us ++ tail.us;
    es = head.e ∷ tail.es;
    last = tail.last;
    lexes = rw (append_assoc head.us tail.us ls) (lex_space file source inner at (head.us ++ (tail.us ++ ls)) text first head.lexes);
    rest = add_item head.is tail.rest;
    same = λ i. pair None (head.same i) (tail.same i);
  }

  join_item : (n : ℕ) (s : Option Span) (d e : PlainDatum) (at next : ℕ) (ls : List Lexeme)
      → (tail : AreSpelled n e next ls) → (head : Spelled n d at (tail.us ++ ls)) → AreSpelled n (pair s d e) at ls
  join_item n s d e at next ls tail head = record {
    us = head.us ++ tail.us;
    es = head.e ∷ tail.es;
    lexes = rw (append_assoc head.us tail.us ls) head.lexes;
    are = item head.is tail.are;
    same = λ i. pair None (head.same i) (tail.same i);
  }

  spaced : (n : ℕ) (d : PlainDatum) (inner : List ℕ) (at : ℕ) (ls : List Lexeme) → drop at source ≡ 0x20 ∷ inner → drop (at + 1) source ≡ inner → AreSpelled n d (at + 1) ls → AreSpelled n d at ls
  spaced n d inner at ls text first items = record { us = items.us; es = items.es; lexes = lex_space file source inner at (items.us ++ ls) text first items.lexes; are = items.are; same = items.same }

  abbrev vector_end : ℕ → PlainDatum → ℕ
  vector_end at d = at + 2 + length (elements_text d)

  abbrev closing : ℕ → ℕ → Lexeme
  closing last end = lexeme (t.Close bracket.Round) (at_from last end)

  -- a vector whose elements are spelt behind its opening
  spell_vector : (n m : ℕ) (s : Option Span) (d : PlainDatum) (rest : List ℕ) (at end : ℕ) (ls : List Lexeme) → n ≡ suc m → end ≡ at + length (datum_text (vector s d))
      → drop at source ≡ datum_text (vector s d) ++ rest → Lexes file source end ls
      → (drop (at + 2) source ≡ elements_text d ++ (0x29 ∷ rest) → Lexes file source (vector_end at d) (closing (vector_end at d) end ∷ ls) → AreSpelled m d (at + 2) (closing (vector_end at d) end ∷ ls))
      → Spelled n (vector s d) at ls
  spell_vector n m s d rest at end ls is_one so is others items =
      let last : ℕ = vector_end at d in
      let behind_open : List ℕ = elements_text d ++ (0x29 ∷ rest) in
      let text : drop at source ≡ 0x23 ∷ 0x28 ∷ behind_open = is ∙ ap (λ b. 0x23 ∷ 0x28 ∷ b) (append_assoc (elements_text d) (0x29 ∷ []) rest) in
      let there : end ≡ last + 1 = omega (arith, length-append (elements_text d) (0x29 ∷ [])) in
      let first : drop (at + 2) source ≡ behind_open = behind (0x23 ∷ 0x28 ∷ []) behind_open at text in
      let second : drop last source ≡ 0x29 ∷ rest = behind (elements_text d) (0x29 ∷ rest) (at + 2) first in
      let closes = word (0x29 ∷ []) rest last end (t.Close bracket.Round) ls (close_reads rest) there second others in
      join_vector n m s d behind_open at last end ls is_one text (items first closes)

  mutual
    pub spell : (n : ℕ) (d : PlainDatum) → IsReadable n d → (rest : List ℕ) → ends rest ≡ true → (at end : ℕ) (ls : List Lexeme) → end ≡ at + length (datum_text d) → drop at source ≡ datum_text d ++ rest
        → Lexes file source end ls → Spelled n d at ls
    spell n (atom s c) h rest e at end ls so is others = spell_any n s c rest at end ls h e so is others
    spell n (symbol s x) h rest e at end ls so is others = spell_symbol n s x rest at end ls h e so is others
    spell n (pair s d f) h rest e at end ls so is others =
        let p = inside_one n (λ m. IsReadable m d × IsRest m f) h in
        let next : ℕ = at + 1 + length (datum_text d) in
        let last : ℕ = next + length (rest_text f) in
        let behind_open : List ℕ = datum_text d ++ (rest_text f ++ (0x29 ∷ rest)) in
        let text : drop at source ≡ 0x28 ∷ behind_open = is ∙ ap (λ b. 0x28 ∷ b) (append_assoc (datum_text d ++ rest_text f) (0x29 ∷ []) rest ∙ append_assoc (datum_text d) (rest_text f) (0x29 ∷ rest)) in
        let there : end ≡ last + 1 = omega (arith, length-append (datum_text d ++ rest_text f) (0x29 ∷ []), length-append (datum_text d) (rest_text f)) in
        let first : drop (at + 1) source ≡ behind_open = behind (0x28 ∷ []) behind_open at text in
        let second : drop next source ≡ rest_text f ++ (0x29 ∷ rest) = behind (datum_text d) (rest_text f ++ (0x29 ∷ rest)) (at + 1) first in
        let third : drop last source ≡ 0x29 ∷ rest = behind (rest_text f) (0x29 ∷ rest) next second in
        let close : Lexeme = lexeme (t.Close bracket.Round) (at_from last end) in
        let closes = word (0x29 ∷ []) rest last end (t.Close bracket.Round) ls (close_reads rest) there third others in
        let tail = spell_rest p.0 f p.2.1 (0x29 ∷ rest) refl next last (close ∷ ls) refl second closes in
        let head = spell p.0 d p.2.0 (rest_text f ++ (0x29 ∷ rest)) (rest_ends f (0x29 ∷ rest) refl) (at + 1) next (tail.us ++ (close ∷ ls)) refl first tail.lexes in
        join_pair n p.0 s d f behind_open at next last end ls p.1 text tail head
    spell n (vector s d) h rest e at end ls so is others =
        let p = inside_one n (λ m. AreElements m d) h in
        spell_vector n p.0 s d rest at end ls p.1 so is others (λ first closes. spell_elements p.0 d p.2 (0x29 ∷ rest) refl (at + 2) (vector_end at d) (closing (vector_end at d) end ∷ ls) refl first closes)

    spell_elements : (n : ℕ) (d : PlainDatum) → AreElements n d → (rest : List ℕ) → ends rest ≡ true → (at end : ℕ) (ls : List Lexeme) → end ≡ at + length (elements_text d) → drop at source ≡ elements_text d ++ rest
        → Lexes file source end ls → AreSpelled n d at ls
    spell_elements n (atom s a.Nil) h rest e at end ls so is others = let here : end ≡ at = omega arith in record { us = []; es = []; lexes = rw here at others; are = no_items; same = refl }
    spell_elements n (pair s d f) h rest e at end ls so is others =
        let next : ℕ = at + length (datum_text d) in
        let first : drop at source ≡ datum_text d ++ (rest_text f ++ rest) = is ∙ append_assoc (datum_text d) (rest_text f) rest in
        let second : drop next source ≡ rest_text f ++ rest = behind (datum_text d) (rest_text f ++ rest) at first in
        let there : end ≡ next + length (rest_text f) = omega (arith, length-append (datum_text d) (rest_text f)) in
        let tail = spell_further n f h.1 rest e next end ls there second others in
        let head = spell n d h.0 (rest_text f ++ rest) (rest_ends f rest e) at next (tail.us ++ ls) refl first tail.lexes in
        join_item n s d f at next ls tail head
    spell_elements n (atom s (a.Bool _)) h rest e at end ls so is others = elim h [ ]
    spell_elements n (atom s (a.Int _)) h rest e at end ls so is others = elim h [ ]
    spell_elements n (atom s (a.Spelt _)) h rest e at end ls so is others = elim h [ ]
    spell_elements n (atom s (a.Char _)) h rest e at end ls so is others = elim h [ ]
    spell_elements n (atom s (a.Str _)) h rest e at end ls so is others = elim h [ ]
    spell_elements n (atom s (a.Bytes _)) h rest e at end ls so is others = elim h [ ]
    spell_elements n (symbol s x) h rest e at end ls so is others = elim h [ ]
    spell_elements n (vector s d) h rest e at end ls so is others = elim h [ ]

    spell_further : (n : ℕ) (f : PlainDatum) → AreElements n f → (rest : List ℕ) → ends rest ≡ true → (at end : ℕ) (ls : List Lexeme) → end ≡ at + length (rest_text f) → drop at source ≡ rest_text f ++ rest
        → Lexes file source end ls → AreSpelled n f at ls
    spell_further n (atom s a.Nil) h rest e at end ls so is others = let here : end ≡ at = omega arith in record { us = []; es = []; lexes = rw here at others; are = no_items; same = refl }
    spell_further n (pair s d f) h rest e at end ls so is others =
        let next : ℕ = at + 1 + length (datum_text d) in
        let inner : List ℕ = datum_text d ++ (rest_text f ++ rest) in
        let text : drop at source ≡ 0x20 ∷ inner = is ∙ ap (λ b. 0x20 ∷ b) (append_assoc (datum_text d) (rest_text f) rest) in
        let first : drop (at + 1) source ≡ inner = behind (0x20 ∷ []) inner at text in
        let second : drop next source ≡ rest_text f ++ rest = behind (datum_text d) (rest_text f ++ rest) (at + 1) first in
        let there : end ≡ next + length (rest_text f) = omega (arith, length-append (datum_text d) (rest_text f)) in
        let tail = spell_further n f h.1 rest e next end ls there second others in
        let head = spell n d h.0 (rest_text f ++ rest) (rest_ends f rest e) (at + 1) next (tail.us ++ ls) refl first tail.lexes in
        spaced n (pair s d f) inner at ls text first (join_item n s d f (at + 1) next ls tail head)
    spell_further n (atom s (a.Bool _)) h rest e at end ls so is others = elim h [ ]
    spell_further n (atom s (a.Int _)) h rest e at end ls so is others = elim h [ ]
    spell_further n (atom s (a.Spelt _)) h rest e at end ls so is others = elim h [ ]
    spell_further n (atom s (a.Char _)) h rest e at end ls so is others = elim h [ ]
    spell_further n (atom s (a.Str _)) h rest e at end ls so is others = elim h [ ]
    spell_further n (atom s (a.Bytes _)) h rest e at end ls so is others = elim h [ ]
    spell_further n (symbol s x) h rest e at end ls so is others = elim h [ ]
    spell_further n (vector s d) h rest e at end ls so is others = elim h [ ]

    spell_rest : (n : ℕ) (f : PlainDatum) → IsRest n f → (rest : List ℕ) → ends rest ≡ true → (at end : ℕ) (ls : List Lexeme) → end ≡ at + length (rest_text f) → drop at source ≡ rest_text f ++ rest
        → Lexes file source end ls → RestSpelled n f at ls
    spell_rest n (atom s a.Nil) h rest e at end ls so is others =
        let here : end ≡ at = omega arith in record { us = []; es = []; last = nil; lexes = rw here at others; rest = ended refl no_items; same = refl }
    spell_rest n (atom s (a.Bool b)) h rest e at end ls so is others = rest_atom n s (a.Bool b) rest at end ls h refl e so is others
    spell_rest n (atom s (a.Int z)) h rest e at end ls so is others = rest_atom n s (a.Int z) rest at end ls h refl e so is others
    spell_rest n (atom s (a.Spelt x)) h rest e at end ls so is others = rest_atom n s (a.Spelt x) rest at end ls h refl e so is others
    spell_rest n (atom s (a.Char c)) h rest e at end ls so is others = rest_atom n s (a.Char c) rest at end ls h refl e so is others
    spell_rest n (atom s (a.Str x)) h rest e at end ls so is others = rest_atom n s (a.Str x) rest at end ls h refl e so is others
    spell_rest n (atom s (a.Bytes ns)) h rest e at end ls so is others = rest_atom n s (a.Bytes ns) rest at end ls h refl e so is others
    spell_rest n (symbol s x) h rest e at end ls so is others =
        let there : end ≡ at + 3 + length (symbol_text x) = omega arith in
        dot_before n (symbol s x) (symbol_text x ++ rest) at ls refl is
        (spell_symbol n s x rest (at + 3) end ls h e there (behind (0x20 ∷ 0x2E ∷ 0x20 ∷ []) (symbol_text x ++ rest) at is) others)
    spell_rest n (pair s d f) h rest e at end ls so is others =
        let next : ℕ = at + 1 + length (datum_text d) in
        let inner : List ℕ = datum_text d ++ (rest_text f ++ rest) in
        let text : drop at source ≡ 0x20 ∷ inner = is ∙ ap (λ b. 0x20 ∷ b) (append_assoc (datum_text d) (rest_text f) rest) in
        let first : drop (at + 1) source ≡ inner = behind (0x20 ∷ []) inner at text in
        let second : drop next source ≡ rest_text f ++ rest = behind (datum_text d) (rest_text f ++ rest) (at + 1) first in
        let there : end ≡ next + length (rest_text f) = omega (arith, length-append (datum_text d) (rest_text f)) in
        let tail = spell_rest n f h.1 rest e next end ls there second others in
        let head = spell n d h.0 (rest_text f ++ rest) (rest_ends f rest e) (at + 1) next (tail.us ++ ls) refl first tail.lexes in
        join_further n s d f inner at next ls text first tail head
    spell_rest n (vector s d) h rest e at end ls so is others =
        let p = inside_one n (λ m. AreElements m d) h in
        let there : end ≡ at + 3 + length (datum_text (vector s d)) = omega arith in
        dot_before n (vector s d) (datum_text (vector s d) ++ rest) at ls refl is
        (spell_vector n p.0 s d rest (at + 3) end ls p.1 there (behind (0x20 ∷ 0x2E ∷ 0x20 ∷ []) (datum_text (vector s d) ++ rest) at is) others
        (λ first closes. spell_elements p.0 d p.2 (0x29 ∷ rest) refl (at + 3 + 2) (vector_end (at + 3) d) (closing (vector_end (at + 3) d) end ∷ ls) refl first closes))

-- nothing of the text is skipped
atom_starts : (n : ℕ) (c : Atom) → IsReadableAtom n c → (file rest : List ℕ) → ends rest ≡ true → start_of file (atom_text c ++ rest) ≡ Ok 0
atom_starts n a.Nil h file rest e = (open_reads (0x29 ∷ rest)).starts file
atom_starts n (a.Bool true) h file rest e = (true_reads rest e).starts file
atom_starts n (a.Bool false) h file rest e = (false_reads rest e).starts file
atom_starts n (a.Int z) h file rest e = (int_reads z rest h e).starts file
atom_starts n (a.Spelt x) h file rest e = (spelt_reads x rest h e).starts file
atom_starts n (a.Char c) h file rest e = (char_reads c rest h e).starts file
atom_starts n (a.Str x) h file rest e = (string_reads x rest h).starts file
atom_starts n (a.Bytes ns) h file rest e = no_start_hash 0x76 (0x75 ∷ 0x38 ∷ 0x28 ∷ ((bytes_text ns ++ 0x29 ∷ []) ++ rest)) refl file

pub starts : (n : ℕ) (d : PlainDatum) → IsReadable n d → (file rest : List ℕ) → ends rest ≡ true → start_of file (datum_text d ++ rest) ≡ Ok 0
starts n (atom s c) h file rest e = atom_starts n c h file rest e
starts n (symbol s x) h file rest e = (symbol_reads x rest h e).starts file
starts n (pair s d f) h file rest e = no_start 0x28 (((datum_text d ++ rest_text f) ++ 0x29 ∷ []) ++ rest) refl file
starts n (vector s d) h file rest e = no_start_hash 0x28 ((elements_text d ++ 0x29 ∷ []) ++ rest) refl file

pub lexed_is : (file source : List ℕ) (ls : List Lexeme) → start_of file source ≡ Ok 0 → Lexes file source 0 ls → lexed file source ≡ alone ls
unfolding lexed
lexed_is file source ls start others = rw start (others.same (suc (length source)) (omega arith))

pub read_is : (file source : List ℕ) (nesting : ℕ) (ls : List Lexeme) (ds : List PlainDatum) → lexed file source ≡ alone ls → AreItems file nesting ls ds → data_of file source nesting ≡ Ok ds
unfolding data_of
read_is file source nesting ls ds is items = rw is (reads_all file nesting items)

pub read_back : ReadableAreReadBack
read_back file nesting d h =
    let source : List ℕ = datum_text d in
    let end : ℕ = length source in
    let text : drop 0 source ≡ source ++ [] = sym (append-nil source) in
    let r = spell file source nesting d h [] refl 0 end [] (omega arith) text (lex_end file source end refl (drop_all end source (omega arith))) in
    let start : start_of file source ≡ Ok 0 = rw (append-nil source) at (starts nesting d h file [] refl) in
    record {
      datum = r.e;
      read = read_is file source nesting (r.us ++ []) (r.e ∷ []) (lexed_is file source (r.us ++ []) start r.lexes) (item r.is no_items);
      same = r.same;
    }
