-- The texts of data, each on a line of its own, are read as these data.
use Rattle.std.proofs.Common.{◌≡◌, ℕ, suc, ◌+◌, ◌≤◌, List, [], ◌∷◌, ◌++◌, length, drop, map, arith, refl, sym, ap, ◌∙◌, subst, append_assoc, length-append, Option, Some, None, Result, Ok, Err, All}
use Rattle.std.proofs.lemmas.List.Elements.{All-head, All-tail}
use Rattle.base_data.specs.Datum.{PlainDatum, unspanned}
use Rattle.base_data.specs.declared.fault.Fault.{Fault}
use Rattle.read_lexer.specs.Start.{start_of}
use Rattle.read_lexer.specs.Tokens.{next_lexeme}
use Rattle.read_lexer.specs.declared.token.Lexeme.{Lexeme}
use Rattle.read_printer.specs.DatumText.{datum_text}
use Rattle.read_reader.specs.Grammar.{AreItems, no_items, item}
use Rattle.read_reader.specs.Lexemes.{Lexed, Follow, none, one, lexed_on, lexed_from}
use Rattle.law_round.specs.Readable.{IsReadable}
use Rattle.law_round.specs.Lines.{lines_text, AreReadBack, LinesAreReadBack}
use Rattle.law_round.proofs.Lexing.{Lexes, alone, lex_end, lex_newline}
use Rattle.law_round.proofs.Round.{behind, spell, starts, lexed_is, read_is}

module _ (file source : List ℕ) (nesting : ℕ) where
  -- lexemes from an offset to the end that are data like these
  record AreSpelled (ds : List PlainDatum) (at : ℕ) : Type 0 where
    us : List Lexeme
    es : List PlainDatum
    lexes : Lexes file source at us
    are : AreItems file nesting us es
    same : map unspanned es ≡ map unspanned ds

  spell_lines : (ds : List PlainDatum) → All (IsReadable nesting) ds → (at : ℕ) → length source ≡ at + length (lines_text ds) → drop at source ≡ lines_text ds → AreSpelled ds at
  spell_lines [] h at so is = record { us = []; es = []; lexes = lex_end file source at (omega arith) is; are = no_items; same = refl }
  spell_lines (d ∷ ds) h at so is =
      let rest : List ℕ = lines_text ds in
      let next : ℕ = at + length (datum_text d) in
      let first : drop at source ≡ datum_text d ++ (0x0A ∷ rest) = is ∙ append_assoc (datum_text d) (0x0A ∷ []) rest in
      let second : drop next source ≡ 0x0A ∷ rest = behind file source (datum_text d) (0x0A ∷ rest) at first in
      let third : drop (next + 1) source ≡ rest = behind file source (0x0A ∷ []) rest next second in
      let there : length source ≡ next + 1 + length rest = omega (arith, length-append (datum_text d ++ (0x0A ∷ [])) rest, length-append (datum_text d) (0x0A ∷ [])) in
      let others = spell_lines ds (All-tail (IsReadable nesting) d ds h) (next + 1) there third in
      let one = spell file source nesting d (All-head (IsReadable nesting) d ds h) (0x0A ∷ rest) refl at next others.us refl first (lex_newline file source rest next others.us second third others.lexes) in
      record { us = one.us ++ others.us; es = one.e ∷ others.es; lexes = one.lexes; are = item one.is others.are; same = λ i. one.same i ∷ others.same i }

-- lexemes that follow one another to the end
pub record Followed (next : ℕ → Result (Option Lexeme) Fault) (at : ℕ) (ls : List Lexeme) : Type 0 where
  pub end : ℕ
  pub follow : Follow next at ls end
  pub ends : next end ≡ Ok None

pub list_parts : {A : Type 0} (x y : A) (xs ys : List A) → x ∷ xs ≡ y ∷ ys → (x ≡ y) × (xs ≡ ys)
list_parts x y xs ys e = (cc, cc)

pub some_lexemes : (l : Lexeme) (ls : List Lexeme) → l ∷ ls ≡ [] → ⊥
some_lexemes l ls e = cc

pub some_fault : (f : Fault) → ◌≡◌ {A = Option Fault} (Some f) None → ⊥
some_fault f e = cc

pub ends_there : (r : Result (Option Lexeme) Fault) (others : ℕ → Lexed) → lexed_on r others ≡ alone [] → r ≡ Ok None
ends_there (Ok None) others e = refl
ends_there (Ok (Some l)) others e = absurd (some_lexemes l (others l.to).lexemes (ap (λ (x : Lexed). x.lexemes) e))
ends_there (Err f) others e = absurd (some_fault f (ap (λ (x : Lexed). x.fault) e))

pub goes_on : (l : Lexeme) (ls : List Lexeme) (r : Result (Option Lexeme) Fault) (others : ℕ → Lexed) → lexed_on r others ≡ alone (l ∷ ls) → (r ≡ Ok (Some l)) × (others l.to ≡ alone ls)
goes_on l ls (Ok None) others e = absurd (some_lexemes l ls (sym (ap (λ (x : Lexed). x.lexemes) e)))
goes_on l ls (Ok (Some m)) others e =
    let p = list_parts m l (others m.to).lexemes ls (ap (λ (x : Lexed). x.lexemes) e) in
    let none_wrong : (others m.to).fault ≡ None = ap (λ (x : Lexed). x.fault) e in
    let rest : others m.to ≡ alone ls = λ i. record { lexemes = p.1 i; fault = none_wrong i } in
    (ap (λ (x : Lexeme). Ok (Some x)) p.0, subst (λ (x : Lexeme). others x.to ≡ alone ls) p.0 rest)
goes_on l ls (Err f) others e = absurd (some_fault f (ap (λ (x : Lexed). x.fault) e))

module _ (next : ℕ → Result (Option Lexeme) Fault) where
  pub turn_is : (k at : ℕ) → lexed_from next (suc k) at ≡ lexed_on (next at) (λ to. lexed_from next k to)
  unfolding lexed_from
  turn_is k at = refl

  -- where so many turns or more give these lexemes
  pub follow_on : (ls : List Lexeme) (at n : ℕ) → ((k : ℕ) → n ≤ k → lexed_from next k at ≡ alone ls) → Followed next at ls
  follow_on [] at n same = record { end = at; follow = none; ends = ends_there (next at) (λ to. lexed_from next n to) (sym (turn_is n at) ∙ same (suc n) (omega arith)) }
  follow_on (l ∷ ls) at n same =
      let first = goes_on l ls (next at) (λ to. lexed_from next n to) (sym (turn_is n at) ∙ same (suc n) (omega arith)) in
      let others = follow_on ls l.to n (λ k h. (goes_on l ls (next at) (λ to. lexed_from next k to) (sym (turn_is k at) ∙ same (suc k) (omega (arith, h)))).1) in
      record { end = others.end; follow = one l first.0 others.follow; ends = others.ends }

start_is : (file : List ℕ) (nesting : ℕ) (ds : List PlainDatum) → All (IsReadable nesting) ds → start_of file (lines_text ds) ≡ Ok 0
start_is file nesting [] h = refl
start_is file nesting (d ∷ ds) h = rw (append_assoc (datum_text d) (0x0A ∷ []) (lines_text ds)) (starts nesting d (All-head (IsReadable nesting) d ds h) file (0x0A ∷ lines_text ds) refl)

pub lines_back : LinesAreReadBack
lines_back file nesting ds h =
    let source : List ℕ = lines_text ds in
    let r = spell_lines file source nesting ds h 0 (omega arith) refl in
    let f = follow_on (next_lexeme file source) r.us 0 (length source + 1) (λ k h. r.lexes.same k (omega (arith, h))) in
    record {
      found = r.es;
      read = read_is file source nesting r.us r.es (lexed_is file source r.us (start_is file nesting ds h) r.lexes) r.are;
      spelt = record { start = 0; end = f.end; lexemes = r.us; begins = start_is file nesting ds h; tokens = f.follow; ends = f.ends; items = r.are };
      same = r.same;
    }
