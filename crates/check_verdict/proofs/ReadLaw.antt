-- What a source is read as is what its bytes spell.
use Rattle.std.proofs.Common.{◌≡◌, ℕ, zero, suc, ◌+◌, ◌-◌, ◌≤◌, ◌<◌, true, List, [], ◌∷◌, ◌++◌, drop, length, arith, refl, sym, ap, ◌∙◌, Option, Some, None, Result, Ok, Err, inl, inr}
use Rattle.std.proofs.lemmas.Bool.{cases_lt}
use Rattle.std.proofs.lemmas.List.{drop_all}
use Rattle.bstr.proofs.lemmas.PieceLemmas.{pieces-nil}
use Rattle.base_data.specs.Datum.{PlainDatum}
use Rattle.base_data.specs.declared.fault.Fault.{Fault}
use Rattle.read_lexer.proofs.TokenLemmas.{lexemes_are, ends_are}
use Rattle.read_lexer.specs.Between.{Gap, no_gap}
use Rattle.read_lexer.specs.Grammar.{IsToken, IsCharacter}
use Rattle.read_lexer.specs.Row.{PartRow}
use Rattle.read_lexer.specs.Start.{start_of}
use Rattle.read_lexer.specs.Tokens.{next_lexeme}
use Rattle.read_lexer.specs.declared.token.Lexeme.{Lexeme}
use Rattle.read_lexer.specs.declared.token.Token.{Token}
use Rattle.read_machine.specs.Step.{state}
use Rattle.read_reader.proofs.Complete.{reads_all}
use Rattle.read_reader.proofs.Sound.{read_soundly}
use Rattle.read_reader.specs.Grammar.{AreItems}
use Rattle.read_reader.specs.Lexemes.{Lexed, Follow, none, one, nothing_more, preceded, lexed_on, lexed_from, lexed_behind, lexed}
use Rattle.read_reader.specs.Read.{run_over, data_of}
use Rattle.read_reader.specs.Spells.{Spells}
use Rattle.read_spelling.specs.Source.{characters}

-- a token takes some bytes
character_size : (bytes : List ℕ) (n c : ℕ) → IsCharacter bytes n c → 0 < n
character_size bytes _ _ (IsCharacter.one _ c size ps e r d) = omega arith
character_size bytes _ _ (IsCharacter.long _ c size n d ps e r s t u) = omega arith

token_size : (bytes : List ℕ) (n : ℕ) (t : Token) → IsToken bytes n t → 0 < n
token_size _ _ _ (IsToken.sign bytes t h) = omega arith
token_size _ _ _ (IsToken.unquote bytes a b) = omega arith
token_size _ _ _ (IsToken.unquote_splicing bytes a b) = omega arith
token_size _ _ _ (IsToken.string bytes text n a e) = omega arith
token_size _ _ _ (IsToken.hash_sign bytes t a h) = omega arith
token_size _ _ _ (IsToken.unsyntax bytes a b c) = omega arith
token_size _ _ _ (IsToken.unsyntax_splicing bytes a b c) = omega arith
token_size _ _ _ (IsToken.character bytes n c a b is) = character_size bytes n c is
token_size _ _ _ (IsToken.open_bytes bytes h) = omega arith
token_size _ _ _ (IsToken.yes bytes a b d) = omega arith
token_size _ _ _ (IsToken.no bytes a b d) = omega arith
token_size _ _ _ (IsToken.marked bytes n z a m run some is e) = omega arith
token_size _ _ _ (IsToken.bare bytes n t s run some is) = some

characters-nil : characters [] ≡ []
unfolding characters
characters-nil = pieces-nil

module _ (file bytes : List ℕ) where
  abbrev next : ℕ → Result (Option Lexeme) Fault
  next = next_lexeme file bytes

  -- a lexeme lies behind the offset, and begins within the bytes
  record Forward (at : ℕ) (l : Lexeme) : Type 0 where
    goes : at < l.to
    inside : at < length bytes

  not_both : (r : Result (Option Lexeme) Fault) (l : Lexeme) → r ≡ Ok None → r ≡ Ok (Some l) → ⊥
  not_both r l e f = cc

  forward : (at : ℕ) (l : Lexeme) → next at ≡ Ok (Some l) → Forward at l
  forward at l e =
      let p = (lexemes_are file bytes at l).0 e in
      record { goes = omega (arith, p.1, p.4, token_size (drop l.from bytes) p.3 l.token p.5); inside = begun p.0 p.1 p.2 }
    where
      begun : (n : ℕ) → l.from ≡ at + n → Gap (drop at bytes) n → at < length bytes
      begun n from gap = elim (cases_lt at (length bytes)) [
        | inl h ↦ h
        | inr h ↦ absurd (not_both (next at) l ((ends_are file bytes at).1 (n, gap, omega (arith, h))) e)
      ]

  -- behind all bytes there is none
  past : (at : ℕ) → length bytes ≤ at → next at ≡ Ok None
  past at h = (ends_are file bytes at).1 (0, rw (drop_all at bytes h) (PartRow.none [] nothing), omega (arith, h)) where
    nothing : no_gap [] ≡ true
    nothing = rw characters-nil refl

  -- the lexemes that are found in enough turns, where none of the bytes is at fault
  record Found (at : ℕ) (r : Lexed) : Type 0 where
    end : ℕ
    follow : Follow next at r.lexemes end
    ends : next end ≡ Ok None

  found_on : (turns at : ℕ) (r : Result (Option Lexeme) Fault) → next at ≡ r
      → ((l : Lexeme) → next at ≡ Ok (Some l) → (lexed_from next turns l.to).fault ≡ None → Found l.to (lexed_from next turns l.to))
      → (lexed_on r (λ to. lexed_from next turns to)).fault ≡ None → Found at (lexed_on r (λ to. lexed_from next turns to))
  found_on turns at (Ok None) e go h = record { end = at; follow = none; ends = e }
  found_on turns at (Ok (Some l)) e go h = let f = go l e h in record { end = f.end; follow = one l e f.follow; ends = f.ends }
  found_on turns at (Err d) e go h = absurd (cc)

  found : (turns at : ℕ) → length bytes < at + turns → (lexed_from next turns at).fault ≡ None → Found at (lexed_from next turns at)
  unfolding lexed_from
  found zero at h e = record { end = at; follow = none; ends = past at (omega (arith, h)) }
  found (suc turns) at h e = found_on turns at (next at) refl (λ l f g. found turns l.to (omega (arith, h, (forward at l f).goes)) g) e

  -- lexemes that follow one another up to the end are found
  taken : (turns : ℕ) {at end : ℕ} {ls : List Lexeme} → Follow next at ls end → next end ≡ Ok None → length bytes < at + turns → lexed_from next turns at ≡ record { lexemes = ls; fault = None }
  unfolding lexed_from
  taken zero none e h = refl
  taken zero {at} (one l here others) e h = absurd (omega (arith, h, (forward at l here).inside))
  taken (suc turns) none e h = ap (λ r. lexed_on r (λ to. lexed_from next turns to)) e
  taken (suc turns) {at} (one l here others) e h = ap (λ r. lexed_on r (λ to. lexed_from next turns to)) here ∙ ap (preceded l) (taken turns others e (omega (arith, h, (forward at l here).goes)))

  pub spelled : (nesting : ℕ) (ds : List PlainDatum) → data_of file bytes nesting ≡ Ok ds → Spells file bytes nesting ds
  unfolding data_of lexed
  spelled nesting ds e = from_start (start_of file bytes) refl e where
    not_some : (f : Fault) → Some f ≡ None → ⊥
    not_some f g = cc

    from_start : (r : Result ℕ Fault) → start_of file bytes ≡ r → run_over file nesting (state [] []) (lexed_behind next (suc (length bytes)) r) ≡ Ok ds → Spells file bytes nesting ds
    from_start (Err f) s g = absurd (not_some f (read_soundly file nesting [] (Some f) ds g).0)
    from_start (Ok at) s g =
        let r = lexed_from next (suc (length bytes)) at in
        let p = read_soundly file nesting r.lexemes r.fault ds g in
        let f = found (suc (length bytes)) at (omega arith) p.0 in
        record { start = at; end = f.end; lexemes = r.lexemes; begins = s; tokens = f.follow; ends = f.ends; items = p.1 }

  pub is_read : (nesting : ℕ) (ds : List PlainDatum) → Spells file bytes nesting ds → data_of file bytes nesting ≡ Ok ds
  unfolding data_of lexed
  is_read nesting ds s =
      ap (λ r. run_over file nesting (state [] []) (lexed_behind next (suc (length bytes)) r)) s.begins
      ∙ ap (λ r. run_over file nesting (state [] []) r) (taken (suc (length bytes)) s.tokens s.ends (omega arith)) ∙ reads_all file nesting s.items
