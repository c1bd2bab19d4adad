-- Evaluations for an expansion are at fault where they were asked for.
use Rattle.std.proofs.Common.{◌≡◌, ℕ, Option, None, Some, Result, Ok, Err, refl, sym, ap, ◌∙◌}
use Rattle.base_data.specs.Act.{after}
use Rattle.base_data.specs.declared.fault.Bare.{Bare}
use Rattle.base_data.specs.declared.fault.Fault.{Fault}
use Rattle.base_data.specs.declared.span.Span.{Span}
use Rattle.stx_tree.specs.Tree.{Tree}
use Rattle.core_language.specs.Core.{PlainCore}
use Rattle.core_language.specs.declared.record.CompiledLibrary.{CompiledLibrary}
use Rattle.eval_value.specs.ToSyntax.{Reading, to_syntax}
use Rattle.eval_value.specs.declared.value.Value.{Value}
use Rattle.eval_value.specs.declared.value.Value.TheVariants as value
use Rattle.eval_code.specs.State as eval
use Rattle.eval_stage.specs.Running.{with_codes_of, outcome_of, evaluate, outcome_of_call, call, ended_at, outcome_of_lines, library_ended, evaluate_library}
use Rattle.eval_stage.specs.Stage.{PlainStage, fault_at}
use Rattle.eval_stage.specs.Uses.{procedure_in, call_procedure, tree_at, read_answer, transform}
use Rattle.law_expand_faults.specs.Evaluations.{IsPutAt, EvaluationsAreTold}

put-at : (place : Span) (b : Bare) (f : Fault) → IsPutAt place b f → f ≡ fault_at place b
put-at place b f p =
    let k : f.kind ≡ b.kind = p.kind in
    let at : f.span ≡ place = p.span in
    let ws : f.words ≡ b.words = p.words in
    λ i. record { kind = k i; span = at i; words = ws i }

told-expression : (place : Span) (c : PlainCore) (s : PlainStage) (t : eval.WorldState) (left : ℕ) (b : Bare) (f : Fault) → outcome_of c s ≡ eval.faulted b t left → IsPutAt place b f → evaluate place c s ≡ Err f
unfolding evaluate
told-expression place c s t left b f e p = ap (λ o. ended_at place (with_codes_of c s) o) e ∙ ap Err (sym (put-at place b f p))

told-call : (place : Span) (v x : Value) (s : PlainStage) (t : eval.WorldState) (left : ℕ) (b : Bare) (f : Fault) → outcome_of_call v x s ≡ eval.faulted b t left → IsPutAt place b f → call place v x s ≡ Err f
unfolding call
told-call place v x s t left b f e p = ap (λ o. ended_at place s o) e ∙ ap Err (sym (put-at place b f p))

told-library : (place : Span) (r : CompiledLibrary) (s : PlainStage) (t : eval.WorldState) (left : ℕ) (b : Bare) (f : Fault) → outcome_of_lines r.run s ≡ eval.faulted b t left → IsPutAt place b f → evaluate_library place r s ≡ Err f
unfolding evaluate_library
told-library place r s t left b f e p = ap (λ o. library_ended place r s o) e ∙ ap Err (sym (put-at place b f p))

told-output : (place : Span) (v : Value) (fuel : ℕ) (s : PlainStage) (b : Bare) (f : Fault) → to_syntax s.cells v fuel ≡ Err b → IsPutAt place b f → read_answer place (v, fuel) s ≡ Err f
unfolding read_answer
told-output place v fuel s b f e p = ap (λ r. tree_at place s r) e ∙ ap Err (sym (put-at place b f p))

-- A fault stands at a place.

abbrev At : {A : Type 0} → Span → Result A Fault → Type 0
At place (Ok x) = Unit {0}
At place (Err f) = f.span ≡ place

at-ended : (place : Span) (s : PlainStage) (o : eval.Outcome) → At place (ended_at place s o)
at-ended place s (eval.done v new left) = tt
at-ended place s (eval.faulted b new left) = refl
at-ended place s eval.unfit = refl

at-call : (place : Span) (v x : Value) (s : PlainStage) → At place (call place v x s)
unfolding call
at-call place v x s = at-ended place s (outcome_of_call v x s)

at-procedure : (place : Span) (t : Tree) (o : Option Value) (s : PlainStage) → At place (call_procedure place t o s)
at-procedure place t None s = refl
at-procedure place t (Some v) s = at-call place v (value.Syn t) s

at-tree : (place : Span) (s : PlainStage) (r : Reading Tree) → At place (tree_at place s r)
at-tree place s (Ok p) = tt
at-tree place s (Err b) = refl

at-answer : (place : Span) (a : Value × ℕ) (s : PlainStage) → At place (read_answer place a s)
unfolding read_answer
at-answer place a s = at-tree place s (to_syntax s.cells a.0 a.1)

at-after : (place : Span) (r : Result ((Value × ℕ) × PlainStage) Fault) → At place r → At place (after r (read_answer place))
at-after place (Ok x) h = at-answer place x.0 x.1
at-after place (Err f) h = h

at-use : (place : Span) (v : Value) (t : Tree) (s : PlainStage) → At place (transform place v t s)
unfolding transform
at-use place v t s = at-after place (call_procedure place t (procedure_in s.cells v) s) (at-procedure place t (procedure_in s.cells v) s)

use-at : (place : Span) (r : Result (Tree × PlainStage) Fault) → At place r → (f : Fault) → r ≡ Err f → f.span ≡ place
use-at place (Ok x) h f e = absurd (cc)
use-at place (Err g) h f e = (let same : f ≡ g = cc in ap (λ (x : Fault). x.span) same) ∙ h

pub evaluations-are-told : EvaluationsAreTold
evaluations-are-told = record {
  expressions = λ place c s t left b f e p. told-expression place c s t left b f e p;
  calls = λ place v x s t left b f e p. told-call place v x s t left b f e p;
  libraries = λ place r s t left b f e p. told-library place r s t left b f e p;
  outputs = λ place v fuel s b f e p. told-output place v fuel s b f e p;
  uses = λ place v form s f e. use-at place (transform place v form s) (at-use place v form s) f e;
}
