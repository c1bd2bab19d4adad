-- Which lexemes spell which data, by cases (R6RS 4.3). The number is how many more forms may be nested.
use Rattle.std.specs.Prelude.{ℕ, suc, ◌<◌, List, [], ◌∷◌, ◌++◌, pos}
use Rattle.base_data.specs.declared.atom.Atom.{Atom}
use Rattle.base_data.specs.declared.atom.Atom.TheVariants as a
use Rattle.base_data.specs.Datum.{PlainDatum, atom, symbol, vector, chain, listed, nil}
use Rattle.read_lexer.specs.declared.token.Abbreviation.{Abbreviation}
use Rattle.read_lexer.specs.declared.token.Bracket.{Bracket}
use Rattle.read_lexer.specs.declared.token.Bracket.TheVariants as bracket
use Rattle.read_lexer.specs.declared.token.Token.{Token}
use Rattle.read_lexer.specs.declared.token.Token.TheVariants as t
use Rattle.read_lexer.specs.declared.token.Lexeme.{Lexeme}
use Rattle.read_machine.specs.declared.extent.Extent.{Extent}
use Rattle.read_machine.specs.Extent.{span_at, through}
use Rattle.read_machine.specs.Form.{joined, abbreviated}

-- a token that stands here
abbrev pub lexeme : Token → Extent → Lexeme
lexeme t x = record { token = t; from = x.from; to = x.to }

module _ (file : List ℕ) where
  mutual
    -- these lexemes are this datum, which stands here
    pub data IsDatum : ℕ → List Lexeme → PlainDatum → Extent → Type 0 where
      constant : {n : ℕ} (c : Atom) (x : Extent) → IsDatum n (lexeme (t.Atom c) x ∷ []) (atom (span_at file x) c) x
      name : {n : ℕ} (w : List ℕ) (x : Extent) → IsDatum n (lexeme (t.Symbol w) x ∷ []) (symbol (span_at file x) w) x
      list : {n : ℕ} {ls : List Lexeme} {ds : List PlainDatum} (b : Bracket) (x y : Extent) → AreItems n ls ds
          → IsDatum (suc n) (lexeme (t.Open b) x ∷ ls ++ lexeme (t.Close b) y ∷ []) (listed (span_at file (through x y)) ds nil) (through x y)
      dotted : {n : ℕ} {ls ms us : List Lexeme} {d e : PlainDatum} {ds : List PlainDatum} {z : Extent} (b : Bracket) (x y dot : Extent)
          → AreItems n ls (d ∷ ds) → IsNext n ms e z → AreItems n us []
          → IsDatum (suc n) (lexeme (t.Open b) x ∷ ls ++ lexeme t.Dot dot ∷ ms ++ us ++ lexeme (t.Close b) y ∷ [])
          (joined (span_at file (through x y)) (d ∷ ds) e) (through x y)
      elements : {n : ℕ} {ls : List Lexeme} {ds : List PlainDatum} (x y : Extent) → AreItems n ls ds
          → IsDatum (suc n) (lexeme t.OpenVector x ∷ ls ++ lexeme (t.Close bracket.Round) y ∷ [])
          (vector (span_at file (through x y)) (chain ds nil)) (through x y)
      bytes : {n : ℕ} {ls : List Lexeme} {ns : List ℕ} (x y : Extent) → AreBytes n ls ns
          → IsDatum n (lexeme t.OpenBytes x ∷ ls ++ lexeme (t.Close bracket.Round) y ∷ []) (atom (span_at file (through x y)) (a.Bytes ns)) (through x y)
      abbreviation : {n : ℕ} {ls : List Lexeme} {d : PlainDatum} {y : Extent} (k : Abbreviation) (x : Extent) → IsNext n ls d y
          → IsDatum (suc n) (lexeme (t.Abbreviation k) x ∷ ls) (abbreviated file k x d (through x y)) (through x y)

    -- a datum, and before it data that are comments
    pub data IsNext : ℕ → List Lexeme → PlainDatum → Extent → Type 0 where
      here : {n : ℕ} {ls : List Lexeme} {d : PlainDatum} {x : Extent} → IsDatum n ls d x → IsNext n ls d x
      past : {n : ℕ} {ls ms : List Lexeme} {d e : PlainDatum} {x z : Extent} (skip : Extent) → IsNext n ls e z → IsNext (suc n) ms d x
          → IsNext (suc n) (lexeme t.SkipDatum skip ∷ ls ++ ms) d x

    -- data in order, and between them data that are comments
    pub data AreItems : ℕ → List Lexeme → List PlainDatum → Type 0 where
      no_items : {n : ℕ} → AreItems n [] []
      item : {n : ℕ} {ls ms : List Lexeme} {d : PlainDatum} {x : Extent} {ds : List PlainDatum} → IsDatum n ls d x → AreItems n ms ds
          → AreItems n (ls ++ ms) (d ∷ ds)
      skipped : {n : ℕ} {ls ms : List Lexeme} {e : PlainDatum} {z : Extent} {ds : List PlainDatum} (skip : Extent) → IsNext n ls e z → AreItems (suc n) ms ds
          → AreItems (suc n) (lexeme t.SkipDatum skip ∷ ls ++ ms) ds

    -- bytes in order, and between them data that are comments
    pub data AreBytes : ℕ → List Lexeme → List ℕ → Type 0 where
      no_bytes : {n : ℕ} → AreBytes n [] []
      byte : {n : ℕ} {ls : List Lexeme} {ns : List ℕ} (m : ℕ) (x : Extent) → m < 256 → AreBytes n ls ns
          → AreBytes n (lexeme (t.Atom (a.Int (pos m))) x ∷ ls) (m ∷ ns)
      skipped_there : {n : ℕ} {ls ms : List Lexeme} {e : PlainDatum} {z : Extent} {ns : List ℕ} (skip : Extent) → IsNext n ls e z → AreBytes (suc n) ms ns
          → AreBytes (suc n) (lexeme t.SkipDatum skip ∷ ls ++ ms) ns
