-- What is read is readable.
use Rattle.std.proofs.Common.{◌≡◌, ℕ, zero, suc, ◌+◌, ◌<◌, ◌≤◌, Bool, true, false, List, [], ◌∷◌, ◌++◌, length, arith, refl, sym, ap, ◌∙◌, subst, Option, Some, None, Result, Ok, All}
use Rattle.std.proofs.lemmas.List.Elements.{All-nil, All-cons, All-weaker}
use Rattle.std.specs.Char.{encode_utf8}
use Rattle.std.specs.Str.{IsUtf8}
use Rattle.base_data.specs.declared.span.Span.{Span}
use Rattle.base_data.specs.declared.atom.Atom.{Atom}
use Rattle.base_data.specs.declared.atom.Atom.TheVariants as a
use Rattle.base_data.specs.Datum.{PlainDatum, atom, symbol, pair, vector, chain, listed, nil}
use Rattle.read_lexer.specs.declared.token.Abbreviation.{Abbreviation}
use Rattle.read_lexer.specs.declared.token.Abbreviation.TheVariants as abbreviated
use Rattle.read_lexer.specs.declared.token.Bracket.TheVariants as bracket
use Rattle.read_lexer.specs.declared.token.Lexeme.{Lexeme}
use Rattle.read_lexer.specs.declared.token.Token.TheVariants as t
use Rattle.read_machine.specs.declared.extent.Extent.{Extent}
use Rattle.read_machine.specs.Form.{as_tail, keyword_of}
use Rattle.read_reader.specs.Grammar.{lexeme, IsDatum, IsNext, AreItems, AreBytes, constant, name, list, dotted, elements, bytes, abbreviation, here, past, no_items, item, skipped, no_bytes, byte, skipped_there}
use Rattle.read_reader.specs.Lexemes.{lexed}
use Rattle.read_reader.specs.Read.{data_of}
use Rattle.read_reader.proofs.Sound.{read_soundly}
use Rattle.law_round.specs.Readable.{inside, IsReadable, IsReadableAtom, IsRest, AreElements, IsName}
use Rattle.law_round.specs.ReadBack.{IsReadBack, OnlyReadableAreRead, ReadAreReadBack}
use Rattle.law_round.proofs.Round.{read_back}
use Rattle.law_round.proofs.Tokens.{AreGood, lexed_good}

-- where more forms may be nested, what is inside one still holds
inside_more : (P : ℕ → Type 0) (m n : ℕ) → m ≤ n → ((i j : ℕ) → i ≤ j → P i → P j) → inside m P → inside n P
inside_more P zero n h more p = elim p [ ]
inside_more P (suc m) zero h more p = absurd (omega arith)
inside_more P (suc m) (suc n) h more p = more m n (omega arith) p

atom_more : (m n : ℕ) (c : Atom) → m ≤ n → IsReadableAtom m c → IsReadableAtom n c
atom_more m n a.Nil h p = inside_more (λ _. Unit {0}) m n h (λ i j _ _. tt) p
atom_more m n (a.Bool b) h p = p
atom_more m n (a.Int z) h p = p
atom_more m n (a.Spelt x) h p = p
atom_more m n (a.Char c) h p = p
atom_more m n (a.Str x) h p = p
atom_more m n (a.Bytes ns) h p = p

mutual
  pub more : (d : PlainDatum) (m n : ℕ) → m ≤ n → IsReadable m d → IsReadable n d
  more (atom s c) m n h p = atom_more m n c h p
  more (symbol s x) m n h p = p
  more (pair s d e) m n h p = inside_more (λ i. IsReadable i d × IsRest i e) m n h (λ i j le q. (more d i j le q.0, rest_more e i j le q.1)) p
  more (vector s d) m n h p = inside_more (λ i. AreElements i d) m n h (λ i j le q. elements_more d i j le q) p

  pub rest_more : (d : PlainDatum) (m n : ℕ) → m ≤ n → IsRest m d → IsRest n d
  rest_more (atom s c) m n h p = p
  rest_more (symbol s x) m n h p = p
  rest_more (pair s d e) m n h p = (more d m n h p.0, rest_more e m n h p.1)
  rest_more (vector s d) m n h p = inside_more (λ i. AreElements i d) m n h (λ i j le q. elements_more d i j le q) p

  pub elements_more : (d : PlainDatum) (m n : ℕ) → m ≤ n → AreElements m d → AreElements n d
  elements_more (atom s a.Nil) m n h p = p
  elements_more (atom s (a.Bool b)) m n h p = p
  elements_more (atom s (a.Int z)) m n h p = p
  elements_more (atom s (a.Spelt x)) m n h p = p
  elements_more (atom s (a.Char c)) m n h p = p
  elements_more (atom s (a.Str x)) m n h p = p
  elements_more (atom s (a.Bytes ns)) m n h p = p
  elements_more (symbol s x) m n h p = p
  elements_more (pair s d e) m n h p = (more d m n h p.0, elements_more e m n h p.1)
  elements_more (vector s d) m n h p = p

abbrev AreReadable : ℕ → List PlainDatum → Type 0
AreReadable n [] = Unit {0}
AreReadable n (d ∷ ds) = IsReadable n d × AreReadable n ds

rest_of : (n : ℕ) (ds : List PlainDatum) (t : PlainDatum) → AreReadable n ds → IsRest n t → IsRest n (chain ds t)
rest_of n [] t h p = p
rest_of n (d ∷ ds) t h p = (h.0, rest_of n ds t h.1 p)

elements_of : (n : ℕ) (ds : List PlainDatum) → AreReadable n ds → AreElements n (chain ds nil)
elements_of n [] h = tt
elements_of n (d ∷ ds) h = (h.0, elements_of n ds h.1)

list_of : (n : ℕ) (s : Option Span) (ds : List PlainDatum) → AreReadable n ds → IsReadable (suc n) (listed s ds nil)
list_of n s [] h = tt
list_of n s (d ∷ ds) h = (h.0, rest_of n ds nil h.1 tt)

-- a form is nested there
pair_parts : (n : ℕ) (d e : PlainDatum) → inside n (λ m. IsReadable m d × IsRest m e) → IsReadable n d × IsRest n e
pair_parts zero d e p = elim p [ ]
pair_parts (suc m) d e p = (more d m (suc m) (omega arith) p.0, rest_more e m (suc m) (omega arith) p.1)

-- in the place of a tail
tail_of : (n : ℕ) (e : PlainDatum) → IsReadable n e → IsRest n (as_tail e)
tail_of n (atom s a.Nil) p = tt
tail_of n (atom s (a.Bool b)) p = p
tail_of n (atom s (a.Int z)) p = p
tail_of n (atom s (a.Spelt x)) p = p
tail_of n (atom s (a.Char c)) p = p
tail_of n (atom s (a.Str x)) p = p
tail_of n (atom s (a.Bytes ns)) p = p
tail_of n (symbol s x) p = p
tail_of n (pair s d e) p = pair_parts n d e p
tail_of n (vector s d) p = p

keyword_good : (k : Abbreviation) → IsName (keyword_of k)
unfolding encode_utf8
keyword_good abbreviated.Quote = ((keyword_of abbreviated.Quote, (refl, refl)), omega arith)
keyword_good abbreviated.Quasiquote = ((keyword_of abbreviated.Quasiquote, (refl, refl)), omega arith)
keyword_good abbreviated.Unquote = ((keyword_of abbreviated.Unquote, (refl, refl)), omega arith)
keyword_good abbreviated.UnquoteSplicing = ((keyword_of abbreviated.UnquoteSplicing, (refl, refl)), omega arith)
keyword_good abbreviated.Syntax = ((keyword_of abbreviated.Syntax, (refl, refl)), omega arith)
keyword_good abbreviated.Quasisyntax = ((keyword_of abbreviated.Quasisyntax, (refl, refl)), omega arith)
keyword_good abbreviated.Unsyntax = ((keyword_of abbreviated.Unsyntax, (refl, refl)), omega arith)
keyword_good abbreviated.UnsyntaxSplicing = ((keyword_of abbreviated.UnsyntaxSplicing, (refl, refl)), omega arith)

good_left : (ls ms : List Lexeme) → AreGood (ls ++ ms) → AreGood ls
good_left [] ms h = tt
good_left (l ∷ ls) ms h = (h.0, good_left ls ms h.1)

good_right : (ls ms : List Lexeme) → AreGood (ls ++ ms) → AreGood ms
good_right [] ms h = h
good_right (l ∷ ls) ms h = good_right ls ms h.1

module _ (file : List ℕ) where
  bytes_small : {n : ℕ} {ls : List Lexeme} {ns : List ℕ} → AreBytes file n ls ns → All (λ b. b < 256) ns
  bytes_small no_bytes = All-nil (λ b. b < 256)
  bytes_small (byte {ns = ns} m x small others) = All-cons (λ b. b < 256) m ns small (bytes_small others)
  bytes_small (skipped_there skip one others) = bytes_small others

  mutual
    datum_readable : {n : ℕ} {ls : List Lexeme} {d : PlainDatum} {x : Extent} → IsDatum file n ls d x → AreGood ls → IsReadable n d
    datum_readable (constant {n} c x) h = atom_more 0 n c (omega arith) h.0
    datum_readable (name w x) h = h.0
    datum_readable (list {n} {ls} {ds} b x y items) h = list_of n _ ds (items_readable items (good_left ls (lexeme (t.Close b) y ∷ []) h.1))
    datum_readable (dotted {n} {ls} {ms} {us} {d} {e} {ds} {z} b x y dot items last skips) h =
        let third = good_left ((ls ++ lexeme t.Dot dot ∷ ms) ++ us) (lexeme (t.Close b) y ∷ []) h.1 in
        let second = good_left (ls ++ lexeme t.Dot dot ∷ ms) us third in
        let first = items_readable items (good_left ls (lexeme t.Dot dot ∷ ms) second) in
        let end = next_readable last ((good_right ls (lexeme t.Dot dot ∷ ms) second).1) in
        (first.0, rest_of n ds (as_tail e) first.1 (tail_of n e end))
    datum_readable (elements {n} {ls} {ds} x y items) h = elements_of n ds (items_readable items (good_left ls (lexeme (t.Close bracket.Round) y ∷ []) h.1))
    datum_readable (bytes x y items) h = bytes_small items
    datum_readable (abbreviation {n} {ls} {d} {y} k x next) h = (keyword_good k, (next_readable next h.1, tt))

    next_readable : {n : ℕ} {ls : List Lexeme} {d : PlainDatum} {x : Extent} → IsNext file n ls d x → AreGood ls → IsReadable n d
    next_readable (here one) h = datum_readable one h
    next_readable (past {ls = ls} {ms = ms} skip one next) h = next_readable next (good_right ls ms h.1)

    items_readable : {n : ℕ} {ls : List Lexeme} {ds : List PlainDatum} → AreItems file n ls ds → AreGood ls → AreReadable n ds
    items_readable no_items h = tt
    items_readable (item {ls = ls} {ms = ms} one others) h = (datum_readable one (good_left ls ms h), items_readable others (good_right ls ms h))
    items_readable (skipped {ls = ls} {ms = ms} skip one others) h = items_readable others (good_right ls ms h.1)

all_of : (n : ℕ) (ds : List PlainDatum) → AreReadable n ds → All (IsReadable n) ds
all_of n [] h = All-nil (IsReadable n)
all_of n (d ∷ ds) h = All-cons (IsReadable n) d ds h.0 (all_of n ds h.1)

-- the data of any source
pub read_readable : OnlyReadableAreRead
unfolding data_of
read_readable file source nesting ds e =
    let p = read_soundly file nesting (lexed file source).lexemes (lexed file source).fault ds e in
    all_of nesting ds (items_readable file p.1 (lexed_good file source))

-- what is read is read back
pub read_is_read_back : ReadAreReadBack
read_is_read_back file source other nesting ds e =
    All-weaker (IsReadable nesting) (IsReadBack other nesting) (λ d h. read_back other nesting d h) ds (read_readable file source nesting ds e)
