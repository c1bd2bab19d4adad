-- What is at fault by the lexer's calls is at fault by its bytes, and the other way round.
use Rattle.std.proofs.Common.{◌≡◌, ℕ, ◌+◌, ◌≤◌, List, [], ◌∷◌, ◌++◌, drop, length, Option, Some, None, Result, Ok, Err, refl, sym}
use Rattle.base_data.specs.Datum.{PlainDatum}
use Rattle.base_data.specs.declared.fault.Fault.{Fault}
use Rattle.base_data.specs.declared.fault.Stop.{Stop}
use Rattle.base_data.specs.declared.fault.Stop.TheVariants as stop
use Rattle.law_faults.specs.Laws.{StartsAre, StartFaultsAre, FaultsAre}
use Rattle.read_lexer.specs.Grammar.{LexemesAre, EndsAre}
use Rattle.read_lexer.specs.Tokens.{next_lexeme}
use Rattle.read_lexer.specs.declared.token.Lexeme.{Lexeme}
use Rattle.read_reader.specs.FirstFault.{IsFaultOf, bad_start, no_token, out_of_place, unclosed, OnFault}
use Rattle.read_reader.specs.Lexemes as lexemes
use Rattle.read_reader.specs.Lexemes.{Follow}
use Rattle.read_reader.proofs.Laws.{is_read, is_refused}
use Rattle.law_grammar.specs.Fails.{Lead, Fails, at_start, at_bytes, at_token, at_end, FailuresAre, OneFailure, ReadsOrFails}
use Rattle.law_grammar.specs.Fails as leads
use Rattle.law_grammar.specs.Reads.{SpellingsAre}

module _ (lexemes_are : LexemesAre) (ends_are : EndsAre) (faults_are : FaultsAre) (starts_are : StartsAre) (start_faults_are : StartFaultsAre) (file bytes : List ℕ) where
  to_lead : {at to : ℕ} {ls : List Lexeme} → Follow (next_lexeme file bytes) at ls to → Lead bytes at ls to
  to_lead (lexemes.none {at}) = leads.none at
  to_lead (lexemes.one {at} {to} {ls} l next others) =
      let p = (lexemes_are file bytes at l).0 next in
      leads.one at to p.0 p.3 l ls p.1 p.2 p.4 p.5 (to_lead others)

  to_follow : {at to : ℕ} {ls : List Lexeme} → Lead bytes at ls to → Follow (next_lexeme file bytes) at ls to
  to_follow (leads.none at) = lexemes.none
  to_follow (leads.one at to n size l ls from gap ends token others) = lexemes.one l ((lexemes_are file bytes at l).1 (n, from, gap, size, ends, token)) (to_follow others)

  fails : {nesting : ℕ} {f : Fault} → IsFaultOf file bytes nesting f → Fails file bytes nesting f
  fails (bad_start f e) = at_start f ((start_faults_are file bytes f).0 e)
  fails (no_token f start at begins follow goes e) = at_bytes f start at ((starts_are file bytes start).0 begins) (to_lead follow) goes ((faults_are file bytes at f).0 e)
  fails (out_of_place ls k y start at begins follow goes never bad) = at_token ls k y start at ((starts_are file bytes start).0 begins) (to_lead follow) goes never bad
  fails (unclosed start at begins follow goes e inside) =
      let end = (ends_are file bytes at).0 e in
      at_end start at end.0 ((starts_are file bytes start).0 begins) (to_lead follow) goes end.1 end.2 inside

  is_fault : {nesting : ℕ} {f : Fault} → Fails file bytes nesting f → IsFaultOf file bytes nesting f
  is_fault (at_start f bad) = bad_start f ((start_faults_are file bytes f).1 bad)
  is_fault (at_bytes f start at begins lead goes wrong) = no_token f start at ((starts_are file bytes start).1 begins) (to_follow lead) goes ((faults_are file bytes at f).1 wrong)
  is_fault (at_token ls k y start at begins lead goes never bad) = out_of_place ls k y start at ((starts_are file bytes start).1 begins) (to_follow lead) goes never bad
  is_fault (at_end start at n begins lead goes gap ends inside) = unclosed start at ((starts_are file bytes start).1 begins) (to_follow lead) goes ((ends_are file bytes at).1 (n, gap, ends)) inside

pub failures_are : LexemesAre → EndsAre → FaultsAre → StartsAre → StartFaultsAre → FailuresAre
failures_are lexemes_are ends_are faults_are starts_are start_faults_are file bytes nesting f =
    (fails lexemes_are ends_are faults_are starts_are start_faults_are file bytes, is_fault lexemes_are ends_are faults_are starts_are start_faults_are file bytes)

-- a call that is refused with a fault
abbrev call : Fault → Result (List PlainDatum) Stop
call f = Err (stop.Fault f)

err_same : (f g : Fault) → ◌≡◌ {A = Result (List PlainDatum) Fault} (Err f) (Err g) → f ≡ g
err_same f g e = cc

not_both : (ds : List PlainDatum) (f : Fault) → ◌≡◌ {A = Result (List PlainDatum) Fault} (Ok ds) (Err f) → ⊥
not_both ds f e = cc

pub one_failure : FailuresAre → OneFailure
one_failure failures_are file bytes nesting f g p q =
    let law = failures_are file bytes nesting in
    err_same f g (sym (is_refused file bytes nesting (λ ds. ds) (call f) tt ((law f).1 p) g ((law g).1 q)))

pub reads_or_fails : SpellingsAre → FailuresAre → ReadsOrFails
reads_or_fails spellings_are failures_are file bytes nesting ds f r p =
    not_both ds f (is_read file bytes nesting (λ ds. ds) (call f) tt ((failures_are file bytes nesting f).1 p) ds ((spellings_are file bytes nesting ds).1 r))

-- the fault that a call stops with
pub on_fault : FailuresAre → (file bytes : List ℕ) (nesting : ℕ) {X : Type 0} (r : Result X Stop) → OnFault r (IsFaultOf file bytes nesting) → OnFault r (Fails file bytes nesting)
on_fault failures_are file bytes nesting (Ok x) p = tt
on_fault failures_are file bytes nesting (Err (stop.Fault f)) p = (failures_are file bytes nesting f).0 p
on_fault failures_are file bytes nesting (Err stop.Memory) p = tt
