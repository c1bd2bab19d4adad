-- A token that changes no list which stands apart is taken by the whole state.
use Rattle.std.proofs.Common.{◌≡◌, ℕ, Bool, false, List, Result, Ok, subst}
use Rattle.base_data.specs.Gives.{Gives}
use Rattle.base_data.specs.declared.fault.Fault.{Fault}
use Rattle.base_data.specs.declared.fault.Stop.{Stop}
use Rattle.check_line_reader.specs.Progress.{Tries}
use Rattle.read_lexer.specs.Tokens.{lexeme}
use Rattle.read_lexer.specs.declared.token.Lexeme.{Lexeme}
use Rattle.read_lexer.specs.declared.token.Token.{Token}
use Rattle.read_machine.specs.Step.{step, step_by}
use Rattle.read_machine.specs.declared.extent.Extent.{Extent}
use Rattle.read_machine.specs.declared.partial.ReaderState.{ReaderState}

pub unchanged : (given : Result ReaderState Fault) (before after : ReaderState) (tried : Bool) → tried ≡ false → Tries (Ok tried) given before after → after ≡ before
unchanged given before after tried not-taken told = subst (λ (t : Bool). Tries (Ok t) given before after) not-taken told

pub turned : {X : Type 0} (file : List ℕ) (nesting : ℕ) (before middle after : ReaderState) (token : Token) (at : Extent) (read : Lexeme) (answer : Result X Stop)
    → middle ≡ before → read ≡ lexeme token at.from at.to → Gives (λ (x : X). after) answer (step file nesting middle read)
    → Gives (λ (x : X). after) answer (step_by file nesting before token at)
turned {X} file nesting before middle after token at read answer stays is-read gives =
    subst (λ (s : ReaderState). Gives (λ (x : X). after) answer (step_by file nesting s token at)) stays
    (subst (λ (l : Lexeme). Gives (λ (x : X). after) answer (step file nesting middle l)) is-read gives)
