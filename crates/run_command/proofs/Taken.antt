-- Words that `clap` takes.
use Rattle.std.proofs.Common.{◌≡◌, ◌∙◌, ℕ, true, false, List, [], refl, sym, ap, ap₂}
use Rattle.std.specs.Prelude.{not}
use Rattle.clap.specs.Words.{App, HasMatchesOf, Text, fault_of, found_of, is_simple, is_simple_and_free, matches_of, rows_of}
use Rattle.std.proofs.Common.{◌⊎◌, inl, inr, ◌∷◌}
use Rattle.clap.specs.Words.{HasKind, IsAmong, Kinds, kind_of}
use Rattle.clap.specs.declared.error.Error.{Error}
use Rattle.clap.specs.declared.error.kind.ErrorKind.{ErrorKind}
use Rattle.clap.specs.declared.error.kind.ErrorKind.TheVariants.{OutOfMemory}
use Rattle.clap.specs.declared.parser.matches.ArgMatches.{ArgMatches}
use Rattle.clap.proofs.OnLiterals.{clap_on_literals}
use Rattle.run_command.specs.Command.{command}
use Rattle.run_command.specs.Words.{is_any, asked, asked_by, refuses}
use Rattle.run_command.specs.Given.{given_of}
use Rattle.run_command.specs.declared.words.Words.TheVariants.{Usage}

pub simple : is_simple command ≡ true
unfolding clap_on_literals
simple = refl

pub free : is_simple_and_free command ≡ true
unfolding clap_on_literals
free = refl

pub taken : (a : App) (words ws : List Text) (m : ArgMatches) → a ≡ command → ws ≡ words → HasMatchesOf a ws m → (is_simple_and_free a ≡ true → fault_of a ws ≡ [])
    → asked (given_of (rows_of (found_of m))) ≡ asked_by words
unfolding asked_by refuses
taken a words ws m is same matches kinds =
    let none : fault_of command words ≡ [] = sym (ap₂ fault_of is same) ∙ kinds (ap is_simple_and_free is ∙ free) in
    let passes : refuses words ≡ false = ap is_any none in
    let rows : rows_of (found_of m) ≡ matches_of command words = (matches (ap is_simple is ∙ simple)).0 ∙ ap₂ matches_of is same in
    rw (rows, passes) refl

pub refused : (a : App) (words : List Text) (kinds : Kinds) (k : ErrorKind) → a ≡ command → kinds ≡ fault_of a words → (k ≡ OutOfMemory → ⊥) → (k ≡ OutOfMemory) ⊎ IsAmong k kinds → Usage ≡ asked_by words
unfolding asked_by refuses
refused a words [] k is same other (inl e) = absurd (other e)
refused a words [] k is same other (inr h) = absurd h
refused a words (x ∷ xs) k is same other h =
    let some : refuses words ≡ true = ap is_any (sym (same ∙ ap (λ b. fault_of b words) is)) in
    rw some refl

pub refused_by : (a : App) (words : List Text) (e : Error) → a ≡ command → (kind_of e ≡ OutOfMemory → ⊥) → (is_simple_and_free a ≡ true → HasKind (fault_of a words) e) → Usage ≡ asked_by words
refused_by a words e is other fails = refused a words (fault_of a words) (kind_of e) is refl other (fails (ap is_simple_and_free is ∙ free))
