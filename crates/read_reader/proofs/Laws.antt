-- What is read of a source, in the words of the grammar.
use Rattle.std.proofs.Common.{◌≡◌, ℕ, zero, suc, ◌+◌, ◌-◌, ◌≤◌, List, [], ◌∷◌, ◌++◌, length, arith, refl, sym, ap, ◌∙◌, append_assoc, zero-add, Option, Some, None, Result, Ok, Err}
use Rattle.std.proofs.lemmas.List.{append-nil}
use Rattle.std.specs.Prelude.{IfOk}
use Rattle.base_data.specs.declared.fault.Fault.{Fault}
use Rattle.base_data.specs.declared.fault.FaultKind.TheVariants as fault
use Rattle.base_data.specs.declared.fault.Stop.{Stop}
use Rattle.base_data.specs.declared.fault.Stop.TheVariants as stop
use Rattle.base_data.specs.Datum.{PlainDatum}
use Rattle.base_data.specs.Gives.{Gives}
use Rattle.read_lexer.specs.Start.{start_of}
use Rattle.read_lexer.specs.Tokens.{next_lexeme}
use Rattle.read_lexer.specs.declared.token.Lexeme.{Lexeme}
use Rattle.read_machine.specs.Step.{state}
use Rattle.read_machine.specs.Extent.{fault_at}
use Rattle.read_reader.specs.Lexemes.{Lexed, Follow, none, one, preceded, lexed_on, lexed_from, lexed_behind}
use Rattle.read_reader.specs.Read.{run, run_over}
use Rattle.read_reader.specs.Grammar.{lexeme}
use Rattle.read_reader.specs.Spells.{Spells}
use Rattle.read_reader.specs.FirstFault.{IsFaultOf, OnFault, bad_start, no_token, out_of_place, unclosed}
use Rattle.read_reader.proofs.Complete.{reads_all, come_read}
use Rattle.read_reader.proofs.Refused.{leads, by_token}

-- the lexemes of a source that are known, and then the others
abbrev joined : List Lexeme → Lexed → Lexed
joined ls r = record { lexemes = ls ++ r.lexemes; fault = r.fault }

follow_lexed : {next : ℕ → Result (Option Lexeme) Fault} {start at : ℕ} {ls : List Lexeme} → Follow next start ls at → (k n : ℕ) → n ≡ length ls + k
    → lexed_from next n start ≡ joined ls (lexed_from next k at)
unfolding lexed_from
follow_lexed {next} {start} none k n e = ap (λ i. lexed_from next i start) (e ∙ zero-add k)
follow_lexed (one l here others) k zero e = absurd (omega arith)
follow_lexed {next} (one {ls = ls} l here others) k (suc n) e =
    let fewer : n ≡ length ls + k = omega arith in
    rw here (ap (preceded l) (follow_lexed others k n fewer))

module _ (file bytes : List ℕ) (nesting : ℕ) where
  -- what comes of these lexemes
  abbrev of : Lexed → Result (List PlainDatum) Fault
  of r = run_over file nesting (state [] []) r

  -- what comes of the source where so many turns are taken over it
  abbrev over : ℕ → Result (List PlainDatum) Fault
  over turns = of (lexed_behind (next_lexeme file bytes) turns (start_of file bytes))

  -- with enough turns it is this
  record Eventually (answer : Result (List PlainDatum) Fault) : Type 0 where
    turns : ℕ
    same : (n : ℕ) → turns ≤ n → over n ≡ answer

  same_answer : {a b : Result (List PlainDatum) Fault} → Eventually a → Eventually b → a ≡ b
  same_answer p q = sym (p.same (p.turns + q.turns) (omega arith)) ∙ q.same (p.turns + q.turns) (omega arith)

  begun : (n : ℕ) (found : Result ℕ Fault) → start_of file bytes ≡ found → over n ≡ of (lexed_behind (next_lexeme file bytes) n found)
  begun n found e = ap (λ r. of (lexed_behind (next_lexeme file bytes) n r)) e

  -- whatever follows these lexemes
  whatever : {start at : ℕ} {ls : List Lexeme} (answer : Result (List PlainDatum) Fault) → start_of file bytes ≡ Ok start → Follow (next_lexeme file bytes) start ls at
      → ((r : Lexed) → of (joined ls r) ≡ answer) → Eventually answer
  whatever {start} {at} {ls} answer begins follow right = record {
    turns = length ls;
    same = λ n enough. begun n (Ok start) begins ∙ ap of (follow_lexed follow (n - length ls) n (omega arith)) ∙ right (lexed_from (next_lexeme file bytes) (n - length ls) at);
  }

  -- behind these lexemes the next turn gives this
  next_gives : {start at : ℕ} {ls : List Lexeme} (found : Result (Option Lexeme) Fault) (answer : Result (List PlainDatum) Fault) → start_of file bytes ≡ Ok start
      → Follow (next_lexeme file bytes) start ls at → next_lexeme file bytes at ≡ found
      → ((others : ℕ → Lexed) → of (joined ls (lexed_on found others)) ≡ answer) → Eventually answer
  unfolding lexed_from
  next_gives {start} {at} {ls} found answer begins follow e right = record {
    turns = suc (length ls);
    same = λ n enough. begun n (Ok start) begins ∙ at_turn (n - suc (length ls)) n (omega arith);
  } where
    at_turn : (k n : ℕ) → n ≡ length ls + suc k → of (lexed_from (next_lexeme file bytes) n start) ≡ answer
    at_turn k n is =
        ap of (follow_lexed follow (suc k) n is)
        ∙ ap (λ r. of (joined ls (lexed_on r (λ to. lexed_from (next_lexeme file bytes) k to)))) e
        ∙ right (λ to. lexed_from (next_lexeme file bytes) k to)

  spelled_so : (ds : List PlainDatum) → Spells file bytes nesting ds → Eventually (Ok ds)
  spelled_so ds s = next_gives (Ok None) (Ok ds) s.begins s.tokens s.ends (λ others. rw (append-nil s.lexemes) (reads_all file nesting s.items))

  faulted_so : (f : Fault) → IsFaultOf file bytes nesting f → Eventually (Err f)
  unfolding run
  faulted_so f (bad_start d e) = record { turns = 0; same = λ n enough. begun n (Err d) e }
  faulted_so f (no_token {ls} d start at begins follow goes e) =
      let so = leads file nesting ls goes in
      next_gives (Err d) (Err d) begins follow e (λ others. rw (append-nil ls) (rw (append-nil ls) at (so.same [] (Some d))))
  faulted_so f (out_of_place ls k y start at begins follow goes never bad) =
      whatever (Err f) begins follow (λ r. rw (append_assoc ls (lexeme k y ∷ []) r.lexemes) (by_token file nesting ls r.lexemes k y r.fault f goes never bad))
  faulted_so f (unclosed {ls} {p} {x} start at begins follow goes e inside) =
      next_gives (Ok None) (Err (fault_at file fault.Unclosed x)) begins follow e
      (λ others. rw (append-nil ls) (rw (append-nil ls) at (come_read file nesting inside.come [] None)))

  -- an answer that is right is the only one
  agrees : {X : Type 0} (view : X → List PlainDatum) (r : Result X Stop) (answer : Result (List PlainDatum) Fault) → IfOk r (λ x. Spells file bytes nesting (view x)) → OnFault r (IsFaultOf file bytes nesting)
      → Eventually answer → Gives view r answer
  agrees view (Ok x) answer spelled faulted so = same_answer so (spelled_so (view x) spelled)
  agrees view (Err (stop.Fault f)) answer spelled faulted so = same_answer so (faulted_so f faulted)
  agrees view (Err stop.Memory) answer spelled faulted so = tt

  -- what is spelt is read
  pub is_read : {X : Type 0} (view : X → List PlainDatum) (r : Result X Stop) → IfOk r (λ x. Spells file bytes nesting (view x)) → OnFault r (IsFaultOf file bytes nesting)
      → (ds : List PlainDatum) → Spells file bytes nesting ds → Gives view r (Ok ds)
  is_read view r spelled faulted ds s = agrees view r (Ok ds) spelled faulted (spelled_so ds s)

  -- what is at fault is refused so
  pub is_refused : {X : Type 0} (view : X → List PlainDatum) (r : Result X Stop) → IfOk r (λ x. Spells file bytes nesting (view x)) → OnFault r (IsFaultOf file bytes nesting)
      → (f : Fault) → IsFaultOf file bytes nesting f → Gives view r (Err f)
  is_refused view r spelled faulted f first = agrees view r (Err f) spelled faulted (faulted_so f first)

  ok_same : (r : Result (List PlainDatum) Fault) (ds es : List PlainDatum) → r ≡ Ok ds → r ≡ Ok es → ds ≡ es
  ok_same r ds es p q = cc

  -- a source spells one list of data at most
  pub spelled_once : (ds es : List PlainDatum) → Spells file bytes nesting ds → Spells file bytes nesting es → ds ≡ es
  spelled_once ds es s u = ok_same (Ok ds) ds es refl (same_answer (spelled_so ds s) (spelled_so es u))
