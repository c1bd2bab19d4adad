-- A token out of place is refused, and with the fault that it is.
use Rattle.std.proofs.Common.{◌≡◌, ℕ, suc, ◌-◌, Bool, true, false, not, List, [], ◌∷◌, ◌++◌, refl, sym, ap, ◌∙◌, append_assoc, Option, Some, None, Ok, Err, IsTrue}
use Rattle.std.proofs.lemmas.List.{append-nil}
use Rattle.std.specs.Prelude.{◌==◌, ◌||◌}
use Rattle.base_data.specs.declared.fault.Fault.{Fault}
use Rattle.base_data.specs.declared.fault.FaultKind.TheVariants as fault
use Rattle.base_data.specs.Datum.{PlainDatum, atom}
use Rattle.base_data.specs.Gives.{◌>>=◌}
use Rattle.read_lexer.specs.declared.token.Bracket.{Bracket}
use Rattle.read_lexer.specs.declared.token.Bracket.TheVariants as bracket
use Rattle.read_lexer.specs.declared.token.Lexeme.{Lexeme}
use Rattle.read_lexer.specs.declared.token.Token.{Token}
use Rattle.read_lexer.specs.declared.token.Token.TheVariants as t
use Rattle.read_machine.specs.declared.extent.Extent.{Extent}
use Rattle.read_machine.specs.declared.extent.Misplaced.{Misplaced}
use Rattle.read_machine.specs.declared.partial.OpenTail.TheVariants as tail
use Rattle.read_machine.specs.declared.partial.OpenParts.{OpenParts}
use Rattle.read_machine.specs.declared.partial.OpenParts.TheVariants as parts
use Rattle.read_machine.specs.declared.partial.Partial.{Partial}
use Rattle.read_machine.specs.declared.partial.ReaderState.{ReaderState}
use Rattle.read_machine.specs.Extent.{span_at, fault_at, through}
use Rattle.read_machine.specs.Form.{byte_of}
use Rattle.read_machine.specs.Partial.{room_in, misplaced}
use Rattle.read_machine.specs.Step.{state, step, ended as form_ended, same_bracket, nested, dotted as dots, unless}
use Rattle.read_reader.specs.Read.{run}
use Rattle.read_reader.specs.Grammar.{lexeme}
use Rattle.read_reader.specs.Partial.{partial, ComesTo, at_top}
use Rattle.read_reader.specs.FirstFault.{CanGoOn, IsFaultAt, is_stray, has_no_dot, begins_datum, is_dot, is_close, counts, close_of_nothing, close_of_another, dot_at_top, dot_in_another, nothing_behind_dot, much_behind_dot, no_byte, too_nested}
use Rattle.read_reader.proofs.Sound.{bind_ok, Holds, holds_none, stepped}
use Rattle.read_reader.proofs.Complete.{reads_all, come_read}
use Rattle.read_reader.proofs.GoesOn.{can_go_on}
use Rattle.read_reader.proofs.Room.{roomier, held_roomier, misplaced-roomier}

not_true : (b : Bool) → not b ≡ true → b ≡ false
not_true true h = cc
not_true false h = refl

module _ (file : List ℕ) (nesting : ℕ) where
  -- lexemes that can go on lead to a state
  pub record Leads (seen : List Lexeme) : Type 0 where
    pub there : ReaderState
    pub holds : Holds file nesting seen there
    pub same : (rest : List Lexeme) (g : Option Fault) → run file nesting (state [] []) (seen ++ rest) g ≡ run file nesting there rest g

  leads_on : (seen ls others : List Lexeme) (ds : List PlainDatum) → Leads seen → run file nesting (state [] []) ((seen ++ ls) ++ others) None ≡ Ok ds → Leads (seen ++ ls)
  unfolding run
  leads_on seen [] others ds so e = rw (append-nil seen) so
  leads_on seen (l ∷ ls) others ds so e =
      let here : run file nesting so.there (l ∷ (ls ++ others)) None ≡ Ok ds = sym (so.same (l ∷ (ls ++ others)) None) ∙ rw (append_assoc seen (l ∷ ls) others) at e in
      let next = bind_ok (step file nesting so.there l) (λ u. run file nesting u (ls ++ others) None) ds here in
      let after : Leads (seen ++ l ∷ []) = record {
        there = next.0;
        holds = stepped file nesting so.there next.0 l so.holds next.1;
        same = λ rest g. rw (append_assoc seen (l ∷ []) rest) (so.same (l ∷ rest) g ∙ ap (λ r. r >>= λ u. run file nesting u rest g) next.1);
      } in
      rw append_assoc at (leads_on (seen ++ l ∷ []) ls others ds after (rw (append_assoc seen (l ∷ []) ls) e))

  pub leads : (ls : List Lexeme) → CanGoOn file nesting ls → Leads ls
  leads ls goes = leads_on [] ls goes.others goes.data_there (record { there = state [] []; holds = holds_none file nesting; same = λ rest g. refl }) (reads_all file nesting goes.items)

  -- where a token can't follow, the machine refuses it
  refused : (s : ReaderState) (ls : List Lexeme) (l : Lexeme) → Holds file nesting ls s → (CanGoOn file nesting (ls ++ l ∷ []) → ⊥) → (next : ReaderState) → step file nesting s l ≡ Ok next → ⊥
  refused s ls l h never next e = never (can_go_on file nesting (ls ++ l ∷ []) next (stepped file nesting s next l h e))

  stray : (p : OpenParts) (b : Bracket) (at all : Extent) → is_stray b p ≡ true → form_ended file p b at all ≡ Err (fault_at file fault.StrayClose at)
  stray (parts.List c ds tail.Absent) b at all h = rw (not_true (same_bracket b c) h) refl
  stray (parts.List c ds (tail.Dotted dot)) b at all h = cc
  stray (parts.List c ds (tail.Given dot e)) b at all h = rw (not_true (same_bracket b c) h) refl
  stray (parts.Vector ds) b at all h = rw (not_true (same_bracket b bracket.Round) h) refl
  stray (parts.Bytes ns) b at all h = rw (not_true (same_bracket b bracket.Round) h) refl
  stray (parts.Abbreviation k) b at all h = refl
  stray parts.Skipped b at all h = refl

  no_dot : (p : OpenParts) (x y : Extent) (n : ℕ) (fs : List Partial) (ds : List PlainDatum) → has_no_dot p ≡ true → dots file (partial x n p ∷ fs) ds y ≡ Err (fault_at file fault.BadDot y)
  no_dot (parts.List b [] tail.Absent) x y n fs ds h = refl
  no_dot (parts.List b (d ∷ es) tail.Absent) x y n fs ds h = cc
  no_dot (parts.List b es (tail.Dotted dot)) x y n fs ds h = cc
  no_dot (parts.List b es (tail.Given dot e)) x y n fs ds h = cc
  no_dot (parts.Vector es) x y n fs ds h = refl
  no_dot (parts.Bytes ns) x y n fs ds h = refl
  no_dot (parts.Abbreviation k) x y n fs ds h = refl
  no_dot parts.Skipped x y n fs ds h = refl

  nothing : (b : Bracket) (es : List PlainDatum) (dot x y : Extent) (n : ℕ) (fs : List Partial) (ds : List PlainDatum) (k : Token) → IsTrue (is_close k || is_dot k)
      → step file nesting (state (partial x n (parts.List b es (tail.Dotted dot)) ∷ fs) ds) (lexeme k y) ≡ Err (fault_at file fault.BadDot dot)
  nothing b es dot x y n fs ds (t.Open c) h = cc
  nothing b es dot x y n fs ds (t.Close c) h = refl
  nothing b es dot x y n fs ds t.OpenVector h = cc
  nothing b es dot x y n fs ds t.OpenBytes h = cc
  nothing b es dot x y n fs ds (t.Abbreviation j) h = cc
  nothing b es dot x y n fs ds t.SkipDatum h = cc
  nothing b es dot x y n fs ds t.Dot h = refl
  nothing b es dot x y n fs ds (t.Atom c) h = cc
  nothing b es dot x y n fs ds (t.Symbol w) h = cc

  much : (b : Bracket) (es : List PlainDatum) (e : PlainDatum) (dot x y : Extent) (n : ℕ) (fs : List Partial) (ds : List PlainDatum) (k : Token) → IsTrue (begins_datum k || is_dot k)
      → step file nesting (state (partial x n (parts.List b es (tail.Given dot e)) ∷ fs) ds) (lexeme k y) ≡ Err (fault_at file fault.BadDot dot)
  much b es e dot x y n fs ds (t.Open c) h = refl
  much b es e dot x y n fs ds (t.Close c) h = cc
  much b es e dot x y n fs ds t.OpenVector h = refl
  much b es e dot x y n fs ds t.OpenBytes h = refl
  much b es e dot x y n fs ds (t.Abbreviation j) h = refl
  much b es e dot x y n fs ds t.SkipDatum h = cc
  much b es e dot x y n fs ds t.Dot h = refl
  much b es e dot x y n fs ds (t.Atom c) h = refl
  much b es e dot x y n fs ds (t.Symbol w) h = refl

  no_number : (ns : List ℕ) (x y : Extent) (n : ℕ) (fs : List Partial) (ds : List PlainDatum) (k : Token) → IsTrue (begins_datum k)
      → ((next : ReaderState) → step file nesting (state (partial x n (parts.Bytes ns) ∷ fs) ds) (lexeme k y) ≡ Ok next → ⊥)
      → step file nesting (state (partial x n (parts.Bytes ns) ∷ fs) ds) (lexeme k y) ≡ Err (fault_at file fault.BadNumber y)
  no_number ns x y n fs ds (t.Open c) h never = refl
  no_number ns x y n fs ds (t.Close c) h never = cc
  no_number ns x y n fs ds t.OpenVector h never = refl
  no_number ns x y n fs ds t.OpenBytes h never = refl
  no_number ns x y n fs ds (t.Abbreviation j) h never = refl
  no_number ns x y n fs ds t.SkipDatum h never = cc
  no_number ns x y n fs ds t.Dot h never = cc
  no_number ns x y n fs ds (t.Atom c) h never = tested (byte_of (atom (span_at file y) c)) refl where
    tested : (o : Option ℕ) → byte_of (atom (span_at file y) c) ≡ o → step file nesting (state (partial x n (parts.Bytes ns) ∷ fs) ds) (lexeme (t.Atom c) y) ≡ Err (fault_at file fault.BadNumber y)
    tested (Some m) is = absurd (never (state (partial x n (parts.Bytes (ns ++ m ∷ [])) ∷ fs) ds) (rw is refl))
    tested None is = rw is refl
  no_number ns x y n fs ds (t.Symbol w) h never = refl

  -- with more room the token can follow
  roomy_step : (s : ReaderState) (ls : List Lexeme) (l : Lexeme) → Holds file nesting ls s → CanGoOn file (suc nesting) (ls ++ l ∷ [])
      → (next : ReaderState) × (step file (suc nesting) (state (roomier s.stack) s.done) l ≡ Ok next)
  unfolding run
  roomy_step s ls l h goes =
      let whole = rw (append_assoc ls (l ∷ []) goes.others) at (reads_all file (suc nesting) goes.items) in
      let here : run file (suc nesting) (state (roomier s.stack) s.done) (l ∷ goes.others) None ≡ Ok goes.data_there = sym (come_read file (suc nesting) (held_roomier file nesting h.1) (l ∷ goes.others) None) ∙ whole in
      let next = bind_ok (step file (suc nesting) (state (roomier s.stack) s.done) l) (λ u. run file (suc nesting) u goes.others None) goes.data_there here in
      (next.0, next.1)

  no_room : (s : ReaderState) (p : OpenParts) (y : Extent) → ((next : ReaderState) → nested file nesting s p y ≡ Ok next → ⊥) → nested file nesting s p y ≡ Err (fault_at file fault.TooNested y)
  no_room s p y never = tested (room_in nesting s.stack == 0) refl where
    tested : (full : Bool) → room_in nesting s.stack == 0 ≡ full → nested file nesting s p y ≡ Err (fault_at file fault.TooNested y)
    tested true is = rw is refl
    tested false is = absurd (never (state (partial y (room_in nesting s.stack - 1) p ∷ s.stack) s.done) (rw is refl))

  no_room_for_form : (s : ReaderState) (p : OpenParts) (y : Extent) → ((next : ReaderState) → unless file (misplaced s.stack y) (nested file nesting s p y) ≡ Ok next → ⊥)
      → (next : ReaderState) → unless file (misplaced (roomier s.stack) y) (nested file (suc nesting) (state (roomier s.stack) s.done) p y) ≡ Ok next
      → unless file (misplaced s.stack y) (nested file nesting s p y) ≡ Err (fault_at file fault.TooNested y)
  no_room_for_form s p y never next roomy = tested (misplaced s.stack y) refl where
    tested : (w : Option Misplaced) → misplaced s.stack y ≡ w → unless file (misplaced s.stack y) (nested file nesting s p y) ≡ Err (fault_at file fault.TooNested y)
    tested None is = rw is (no_room s p y (λ u e. never u (rw is e)))
    tested (Some w) is = let wrong_there = rw (misplaced-roomier s.stack y ∙ is) at roomy in cc

  full : (s : ReaderState) (ls : List Lexeme) (k : Token) (y : Extent) → Holds file nesting ls s → IsTrue (counts k) → CanGoOn file (suc nesting) (ls ++ lexeme k y ∷ [])
      → ((next : ReaderState) → step file nesting s (lexeme k y) ≡ Ok next → ⊥) → step file nesting s (lexeme k y) ≡ Err (fault_at file fault.TooNested y)
  full s ls (t.Open c) y h counted goes never = let r = roomy_step s ls (lexeme (t.Open c) y) h goes in no_room_for_form s (parts.List c [] tail.Absent) y never r.0 r.1
  full s ls (t.Close c) y h counted goes never = cc
  full s ls t.OpenVector y h counted goes never = let r = roomy_step s ls (lexeme t.OpenVector y) h goes in no_room_for_form s (parts.Vector []) y never r.0 r.1
  full s ls t.OpenBytes y h counted goes never = cc
  full s ls (t.Abbreviation j) y h counted goes never = let r = roomy_step s ls (lexeme (t.Abbreviation j) y) h goes in no_room_for_form s (parts.Abbreviation j) y never r.0 r.1
  full s ls t.SkipDatum y h counted goes never = no_room s parts.Skipped y never
  full s ls t.Dot y h counted goes never = cc
  full s ls (t.Atom c) y h counted goes never = cc
  full s ls (t.Symbol w) y h counted goes never = cc

  module _ (ls ms : List Lexeme) (k : Token) (y : Extent) (g : Option Fault) (f : Fault) where
    abbrev pub Found : Type 0
    Found = run file nesting (state [] []) (ls ++ (lexeme k y ∷ ms)) g ≡ Err f

    by_state : {n : ℕ} {fs : List Partial} {found : List PlainDatum} → ComesTo file nesting n ls fs found → step file nesting (state fs found) (lexeme k y) ≡ Err f → Found
    unfolding run
    by_state come e = come_read file nesting come (lexeme k y ∷ ms) g ∙ ap (λ r. r >>= λ u. run file nesting u ms g) e

  pub by_token : (ls ms : List Lexeme) (k : Token) (y : Extent) (g : Option Fault) (f : Fault) → CanGoOn file nesting ls → (CanGoOn file nesting (ls ++ lexeme k y ∷ []) → ⊥)
      → IsFaultAt file nesting ls k y f → Found ls ms k y g f
  by_token ls ms k y g f goes never (close_of_nothing b z items) = by_state ls ms k y g f (at_top refl items) refl
  by_token ls ms k y g f goes never (close_of_another {p} {x} b z inside h) = by_state ls ms k y g f inside.come (rw (stray p b z (through x z) h) refl)
  by_token ls ms k y g f goes never (dot_at_top z items) = by_state ls ms k y g f (at_top refl items) refl
  by_token ls ms k y g f goes never (dot_in_another {p} {x} z inside h) = by_state ls ms k y g f inside.come (no_dot p x z inside.room inside.round inside.before h)
  by_token ls ms k y g f goes never (nothing_behind_dot {b} {ds} {dot} {x} j z inside h) =
      by_state ls ms k y g f inside.come (nothing b ds dot x z inside.room inside.round inside.before j h)
  by_token ls ms k y g f goes never (much_behind_dot {b} {ds} {e} {dot} {x} j z inside h) =
      by_state ls ms k y g f inside.come (much b ds e dot x z inside.room inside.round inside.before j h)
  by_token ls ms k y g f goes never (no_byte {ns} {x} j z inside h) =
      by_state ls ms k y g f inside.come (no_number ns x z inside.room inside.round inside.before j h
      (refused (state (partial x inside.room (parts.Bytes ns) ∷ inside.round) inside.before) ls (lexeme j z) (inside.room, inside.come) never))
  by_token ls ms k y g f goes never (too_nested j z counted roomy) =
      let so = leads ls goes in
      by_state ls ms k y g f so.holds.1 (full so.there ls j z so.holds counted roomy (refused so.there ls (lexeme j z) so.holds never))
