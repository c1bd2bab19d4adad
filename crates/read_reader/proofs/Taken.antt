-- What the machine has taken of a source, and what is found where it stops.
use Rattle.std.proofs.Common.{◌≡◌, ℕ, List, [], ◌∷◌, ◌++◌, refl, ap, ◌∙◌, subst, append_assoc, Option, Some, None, Result, Ok, Err}
use Rattle.std.specs.Prelude.{IfOk}
use Rattle.base_data.specs.declared.fault.Fault.{Fault}
use Rattle.base_data.specs.declared.fault.FaultKind.TheVariants as fault
use Rattle.base_data.specs.declared.fault.Stop.{Stop}
use Rattle.base_data.specs.declared.fault.Stop.TheVariants as stop
use Rattle.base_data.specs.Datum.{PlainDatum}
use Rattle.base_data.specs.Gives.{◌>>=◌, Gives, Stops}
use Rattle.read_lexer.specs.Start.{start_of}
use Rattle.read_lexer.specs.Tokens.{next_lexeme}
use Rattle.read_lexer.specs.declared.token.Lexeme.{Lexeme}
use Rattle.read_machine.specs.declared.partial.Partial.{Partial}
use Rattle.read_machine.specs.declared.partial.ReaderState.{ReaderState}
use Rattle.read_machine.specs.Extent.{fault_at}
use Rattle.read_machine.specs.Step.{state, step, finish, extent_of}
use Rattle.read_reader.specs.Lexemes.{Follow, none, one}
use Rattle.read_reader.specs.Read.{run}
use Rattle.read_reader.specs.Spells.{Spells}
use Rattle.read_reader.specs.Partial.{ComesTo, at_top, within}
use Rattle.read_reader.specs.FirstFault.{CanGoOn, IsFaultOf, IfFault, OnFault, no_token, out_of_place, unclosed}
use Rattle.read_reader.proofs.Sound.{Holds, holds_none, stepped, are_items}
use Rattle.read_reader.proofs.Complete.{reads_all}
use Rattle.read_reader.proofs.GoesOn.{can_go_on}
use Rattle.read_reader.proofs.Stuck.{stuck}

ok_or_not : (r : Result (List PlainDatum) Fault) (ds : List PlainDatum) (f : Fault) → r ≡ Ok ds → r ≡ Err f → ⊥
ok_or_not r ds f p q = cc

follow_snoc : {next : ℕ → Result (Option Lexeme) Fault} {start at : ℕ} {ls : List Lexeme} (l : Lexeme) → Follow next start ls at → next at ≡ Ok (Some l) → Follow next start (ls ++ l ∷ []) l.to
follow_snoc l none e = one l e none
follow_snoc l (one m here others) e = one m here (follow_snoc l others e)

module _ (file : List ℕ) (nesting : ℕ) where
  -- these lexemes lead to this state
  abbrev Reaches : List Lexeme → ReaderState → Type 0
  Reaches seen s = (ms : List Lexeme) (g : Option Fault) → run file nesting (state [] []) (seen ++ ms) g ≡ run file nesting s ms g

  reaches_on : (seen : List Lexeme) (s next : ReaderState) (l : Lexeme) → Reaches seen s → step file nesting s l ≡ Ok next → Reaches (seen ++ l ∷ []) next
  unfolding run
  reaches_on seen s next l so e ms g = rw (append_assoc seen (l ∷ []) ms) (so (l ∷ ms) g ∙ ap (λ r. r >>= λ u. run file nesting u ms g) e)

  -- no data begin with these lexemes and the token that is refused
  dead : (seen : List Lexeme) (s : ReaderState) (l : Lexeme) (f : Fault) → Reaches seen s → step file nesting s l ≡ Err f → CanGoOn file nesting (seen ++ l ∷ []) → ⊥
  unfolding run
  dead seen s l f so e c =
      let whole = rw (append_assoc seen (l ∷ []) c.others) at (reads_all file nesting c.items) in
      ok_or_not (run file nesting (state [] []) (seen ++ (l ∷ c.others)) None) c.data_there f whole
      (so (l ∷ c.others) None ∙ ap (λ r. r >>= λ u. run file nesting u c.others None) e)

  -- the lexemes from the start up to here are taken, and have led to this state
  pub record Taken (next : ℕ → Result (Option Lexeme) Fault) (start : ℕ) (s : ReaderState) (at : ℕ) : Type 0 where
    pub seen : List Lexeme
    pub follow : Follow next start seen at
    pub holds : Holds file nesting seen s
    pub same : (ms : List Lexeme) (g : Option Fault) → run file nesting (state [] []) (seen ++ ms) g ≡ run file nesting s ms g

  pub taken_none : (next : ℕ → Result (Option Lexeme) Fault) (start : ℕ) → Taken next start (state [] []) start
  taken_none next start = record { seen = []; follow = none; holds = holds_none file nesting; same = λ ms g. refl }

  pub taken_on : {next : ℕ → Result (Option Lexeme) Fault} {start at : ℕ} {s : ReaderState} (after : ReaderState) (l : Lexeme) → Taken next start s at → next at ≡ Ok (Some l) → step file nesting s l ≡ Ok after
      → Taken next start after l.to
  taken_on {s = s} after l so e goes = record {
    seen = so.seen ++ l ∷ [];
    follow = follow_snoc l so.follow e;
    holds = stepped file nesting s after l so.holds goes;
    same = reaches_on so.seen s after l so.same goes;
  }

module _ (file bytes : List ℕ) (nesting start at : ℕ) (s : ReaderState) (begins : start_of file bytes ≡ Ok start) (so : Taken file nesting (next_lexeme file bytes) start s at) where
  -- bytes here are no token
  pub bad_token : (f : Fault) → next_lexeme file bytes at ≡ Err f → IsFaultOf file bytes nesting f
  bad_token f e = no_token f start at begins so.follow (can_go_on file nesting so.seen s so.holds) e

  -- the token here is refused
  pub refused_token : (l : Lexeme) (f : Fault) → next_lexeme file bytes at ≡ Ok (Some l) → step file nesting s l ≡ Err f → IsFaultOf file bytes nesting f
  refused_token l f e sticks =
      out_of_place so.seen l.token (extent_of l) start l.to begins (follow_snoc l so.follow e) (can_go_on file nesting so.seen s so.holds)
      (dead file nesting so.seen s l f so.same sticks) (stuck file nesting s l f so.holds sticks)

  -- the source ends here
  pub spells : (ds : List PlainDatum) → next_lexeme file bytes at ≡ Ok None → finish file s.stack s.done ≡ Ok ds → Spells file bytes nesting ds
  spells ds e whole = record {
    start = start;
    end = at;
    lexemes = so.seen;
    begins = begins;
    tokens = so.follow;
    ends = e;
    items = are_items file nesting s.stack s.done ds so.holds.1 whole;
  }

  pub too_early : (f : Fault) → next_lexeme file bytes at ≡ Ok None → finish file s.stack s.done ≡ Err f → IsFaultOf file bytes nesting f
  too_early f e open_there = by_state so.follow so.holds.1 (can_go_on file nesting so.seen s so.holds) open_there where
    by_state : {n : ℕ} {seen : List Lexeme} {fs : List Partial} {found : List PlainDatum} → Follow (next_lexeme file bytes) start seen at → ComesTo file nesting n seen fs found → CanGoOn file nesting seen
        → finish file fs found ≡ Err f → IsFaultOf file bytes nesting f
    by_state follow (at_top r items) goes h = cc
    by_state follow (within {n} {fs = fs} {found = found} x come fits inside) goes h =
        let same : fault_at file fault.Unclosed x ≡ f = cc in
        subst (λ (z : Fault). IsFaultOf file bytes nesting z) same
        (unclosed start at begins follow goes e (record { room = n; round = fs; before = found; come = within x come fits inside }))

  pub ends_right : {X : Type 0} (view : X → List PlainDatum) (r : Result X Stop) → next_lexeme file bytes at ≡ Ok None → Gives view r (finish file s.stack s.done)
      → IfOk r (λ x. Spells file bytes nesting (view x)) × OnFault r (IsFaultOf file bytes nesting)
  ends_right view (Ok x) e g = (spells (view x) e g, tt)
  ends_right view (Err (stop.Fault f)) e g = (tt, too_early f e g)
  ends_right view (Err stop.Memory) e g = (tt, tt)

-- a stop that is passed on
pub on_fault : {A : Type 0} (e : Stop) (given : Result A Fault) (P : Fault → Type 0) → ((f : Fault) → given ≡ Err f → P f) → Stops e given → IfFault e P
on_fault (stop.Fault f) given P so h = so f h
on_fault stop.Memory given P so h = tt
