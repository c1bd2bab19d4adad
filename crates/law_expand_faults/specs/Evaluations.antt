-- Where evaluations for an expansion are at fault: at what asked for them.
use Rattle.std.specs.Prelude.{◌≡◌, ℕ, Err}
use Rattle.base_data.specs.declared.fault.Bare.{Bare}
use Rattle.base_data.specs.declared.fault.Fault.{Fault}
use Rattle.base_data.specs.declared.span.Span.{Span}
use Rattle.stx_tree.specs.Tree.{Tree}
use Rattle.core_language.specs.Core.{PlainCore}
use Rattle.core_language.specs.declared.record.CompiledLibrary.{CompiledLibrary}
use Rattle.eval_value.specs.ToSyntax.{to_syntax}
use Rattle.eval_value.specs.declared.value.Value.{Value}
use Rattle.eval_code.specs.State as eval
use Rattle.eval_stage.specs.Running.{outcome_of, evaluate, outcome_of_call, call, outcome_of_lines, evaluate_library}
use Rattle.eval_stage.specs.Stage.{PlainStage}
use Rattle.eval_stage.specs.Uses.{read_answer, transform}

-- the same kind and words, at a place
pub record IsPutAt (place : Span) (b : Bare) (f : Fault) : Type 0 where
  pub kind : f.kind ≡ b.kind
  pub span : f.span ≡ place
  pub words : f.words ≡ b.words

-- The fault of an expression, of a call, of a library's lines and of an output stands at the form that asked for it. Whatever the use of a keyword comes
-- to, once its transformer is there, it stands at the use.
pub record EvaluationsAreTold : Type 0 where
  pub expressions : (place : Span) (c : PlainCore) (s : PlainStage) (t : eval.WorldState) (left : ℕ) (b : Bare) (f : Fault)
      → outcome_of c s ≡ eval.faulted b t left → IsPutAt place b f → evaluate place c s ≡ Err f
  pub calls : (place : Span) (v x : Value) (s : PlainStage) (t : eval.WorldState) (left : ℕ) (b : Bare) (f : Fault)
      → outcome_of_call v x s ≡ eval.faulted b t left → IsPutAt place b f → call place v x s ≡ Err f
  pub libraries : (place : Span) (r : CompiledLibrary) (s : PlainStage) (t : eval.WorldState) (left : ℕ) (b : Bare) (f : Fault)
      → outcome_of_lines r.run s ≡ eval.faulted b t left → IsPutAt place b f → evaluate_library place r s ≡ Err f
  pub outputs : (place : Span) (v : Value) (fuel : ℕ) (s : PlainStage) (b : Bare) (f : Fault) → to_syntax s.cells v fuel ≡ Err b
      → IsPutAt place b f → read_answer place (v, fuel) s ≡ Err f
  pub uses : (place : Span) (v : Value) (form : Tree) (s : PlainStage) (f : Fault) → transform place v form s ≡ Err f → f.span ≡ place
