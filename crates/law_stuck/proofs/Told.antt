-- No evaluation ends with the fault of cells that don't fit, whatever the world.
use Rattle.std.proofs.Common.{◌-◌, ◌+◌, ℕ, zero, suc, List, [], ◌∷◌, ◌++◌, Option, Some, None, Bool, true, false, Result, Ok, Err, length, nat_lt, if◌then◌else◌}
use Rattle.base_data.specs.Datum.{PlainDatum}
use Rattle.base_data.specs.declared.fault.Bare.{Bare}
use Rattle.base_data.specs.declared.name.CodeNo.{CodeNo}
use Rattle.base_data.specs.declared.name.Label.{Label}
use Rattle.base_data.specs.declared.op.Op.{Op}
use Rattle.base_region.specs.declared.region.Place.{Place}
use Rattle.core_language.specs.Core.{PlainCore, quoted, variable, primitive, one_armed, two_armed, assignment, sequence, procedure, letrec, call, instance, matching}
use Rattle.core_language.specs.Core.{PlainCores, none, more, PlainInits, no_init, init, PlainClauses, no_clause, clause, fended, PlainCode}
use Rattle.core_language.specs.Template.{PlainTemplate}
use Rattle.core_language.specs.declared.formals.Formals.{Formals}
use Rattle.core_language.specs.declared.record.Line.{Line}
use Rattle.core_language.specs.declared.record.Line.TheVariants as line
use Rattle.eval_value.specs.FromDatum.{stored}
use Rattle.eval_value.specs.ToSyntax.{fuel_spent}
use Rattle.eval_value.specs.declared.value.Value.{Value}
use Rattle.eval_value.specs.declared.value.Value.TheVariants as value
use Rattle.eval_value.specs.declared.cell.Cell.{Cell}
use Rattle.eval_pattern.specs.declared.columns.PatternBinds.{PatternBinds}
use Rattle.eval_prims.specs.Answers.{PrimAnswer}
use Rattle.eval_prims.specs.Chains.{list_elements}
use Rattle.eval_prims.specs.Cost.{cost}
use Rattle.eval_prims.specs.Delta.{delta}
use Rattle.eval_code.specs.Codes.{code_at}
use Rattle.eval_code.specs.Instances.{Binds, match_of, instance_of, cost_of, instance_made, instance_paid, instance_with, instanced, gathered}
use Rattle.eval_code.specs.Lines.{lines_from}
use Rattle.eval_code.specs.Procedures.{first_case, has_text, text_number, text_body, truth_of}
use Rattle.eval_code.specs.Quoted.{datum_cost}
use Rattle.eval_code.specs.Setting.{PlainSetting}
use Rattle.eval_code.specs.Spread.{CallBy, apply_args, parted, with_elements, with_front, on_parts, spread_once, spread_on, spread_to, spread}
use Rattle.eval_code.specs.State.{WorldState, Outcome, done, faulted, unfit, Go, then_do, charged, made, store}
use Rattle.eval_code.specs.Variables.{found, assigned, all_assigned}
use Rattle.eval_code.specs.Meaning.{PlainLetrec, Evaluator, answer_made, primitive_called, variable_read, variable_value, quoted_value, by_case, by_code, procedure_called, text_value_called, by_text, op_called, value_called, first_called, applied, operands, in_sequence, one_arm, two_arms, in_turn, at_once, by_letrec, fender_passed, output_given, fender_asked, on_match, tried, expressed, unrolled, evaluates, eval_of}
use Rattle.eval_code.specs.Trying.{clause_before}
use Rattle.law_stuck.specs.Kinds.{TellsOther, EvaluationsTellOther}
use Rattle.law_stuck.proofs.Refusals.{Tells, tells-delta, tells-instance, tells-measure}
use Rattle.eval_template.specs.Binds.{unbound}

told-then : (o : Outcome) (g : Go) → TellsOther o → ((v : Value) (s : WorldState) (n : ℕ) → TellsOther (g v s n)) → TellsOther (then_do o g)
told-then (done v s n) g h k = k v s n
told-then (faulted f s n) g h k = h
told-then unfit g h k = tt

told-if : (t : Bool) (o p : Outcome) → TellsOther o → TellsOther p → TellsOther (if t then o else p)
told-if true o p h k = h
told-if false o p h k = k

told-charged : (cost : ℕ) (s : WorldState) (n : ℕ) (g : ℕ → Outcome) → ((m : ℕ) → TellsOther (g m)) → TellsOther (charged cost s n g)
told-charged cost s n g k = told-if (nat_lt n cost) (faulted fuel_spent s n) (g (n - cost)) tt (k (n - cost))

-- What evaluates nothing.

told-answer : (s : WorldState) (n : ℕ) (a : PrimAnswer) → Tells a → TellsOther (answer_made s n a)
told-answer s n (Ok m) h = tt
told-answer s n (Err f) h = h

told-primitive : (w : PlainSetting) (op : ℕ) (args : List Value) (s : WorldState) (n : ℕ) → TellsOther (primitive_called w op args s n)
unfolding primitive_called
told-primitive w op args s n = told-charged (cost op args s.cells) s n _ (λ m. told-answer s m (delta op args s.cells w.frames) (tells-delta op args s.cells w.frames))

told-read : (w : PlainSetting) (l : Label) (s : WorldState) (n : ℕ) (o : Option (Option Value)) → TellsOther (variable_read w l s n o)
told-read w l s n None = tt
told-read w l s n (Some None) = tt
told-read w l s n (Some (Some v)) = tt

told-variable : (w : PlainSetting) (l : Label) (scope : Place) (s : WorldState) (n : ℕ) → TellsOther (variable_value w l scope s n)
unfolding variable_value
told-variable w l scope s n = told-read w l s n (found (suc (length s.cells)) w.globals s.cells l (Some scope))

told-quoted : (d : PlainDatum) (s : WorldState) (n : ℕ) → TellsOther (quoted_value d s n)
unfolding quoted_value
told-quoted d s n = told-charged (datum_cost d) s n (made s.names (stored d s.cells)) (λ m. tt)

told-made : (s : WorldState) (r : Result (Value × List Cell) Bare) (n : ℕ) → Tells r → TellsOther (instance_made s r n)
told-made s (Ok p) n h = tt
told-made s (Err f) n h = h

told-paid : (s : WorldState) (n : ℕ) (r : Result (Value × List Cell) Bare) (c : Result ℕ Bare) → Tells r → Tells c → TellsOther (instance_paid s n r c)
told-paid s n r (Ok cost) h k = told-charged cost s n _ (λ m. told-made s r m h)
told-paid s n r (Err f) h k = k

told-instance_with : (t : PlainTemplate) (s : WorldState) (n : ℕ) (o : Option Binds) → TellsOther (instance_with t s n o)
told-instance_with t s n None = tt
told-instance_with t s n (Some bs) = told-paid s n (instance_of bs t s.cells) (cost_of bs t) (tells-instance unbound bs t [] s.cells) (tells-measure unbound bs t [])

told-instanced : (t : PlainTemplate) (scope : Place) (s : WorldState) (n : ℕ) → TellsOther (instanced t scope s n)
unfolding instanced
told-instanced t scope s n = told-instance_with t s n (gathered s.cells scope t [])

-- `apply`

abbrev Calls : CallBy → Type 0
Calls g = (vs : List Value) (n : ℕ) → TellsOther (g vs n)

module _ (s : WorldState) where
  told-with_elements : (front : List Value) (g : CallBy) → Calls g → (n : ℕ) (o : Option (List Value)) → TellsOther (with_elements front s g n o)
  told-with_elements front g k n None = tt
  told-with_elements front g k n (Some xs) = told-charged (length xs) s n _ (λ m. k (front ++ xs) m)

  told-with_front : (front : List Value) (last : Value) (g : CallBy) → Calls g → (n : ℕ) → TellsOther (with_front front last s g n)
  told-with_front [] last g k n = tt
  told-with_front (x ∷ xs) last g k n = told-with_elements (x ∷ xs) g k n (list_elements s.cells last)

  told-on_parts : (g : CallBy) → Calls g → (n : ℕ) (o : Option (List Value × Value)) → TellsOther (on_parts s g n o)
  told-on_parts g k n None = tt
  told-on_parts g k n (Some p) = told-with_front p.0 p.1 g k n

  told-spread_once : (args : List Value) (g : CallBy) → Calls g → (n : ℕ) → TellsOther (spread_once args s g n)
  unfolding spread_once
  told-spread_once args g k n = told-on_parts g k n (parted args)

  told-spread_on : (g h : CallBy) → Calls g → Calls h → (vs : List Value) (n : ℕ) (o : Option (List Value)) → TellsOther (spread_on s g (h vs) n o)
  told-spread_on g h k l vs n None = l vs n
  told-spread_on g h k l vs n (Some args) = told-spread_once args g k n

  told-spread_to : (turns : ℕ) (g : CallBy) → Calls g → Calls (spread_to turns s g)
  told-spread_to zero g k vs n = tt
  told-spread_to (suc turns) g k vs n = told-spread_on (spread_to turns s g) g (told-spread_to turns g k) k vs n (apply_args vs)

  told-spread : (g : CallBy) → Calls g → Calls (spread s g)
  unfolding spread
  told-spread g k vs n = told-spread_to (suc (n + length vs)) g k vs n

abbrev Evaluates : Evaluator → Type 0
Evaluates E = (c : PlainCore) (scope : Place) (s : WorldState) (n : ℕ) → TellsOther (E c scope s n)

abbrev Goes : Go → Type 0
Goes g = (v : Value) (s : WorldState) (n : ℕ) → TellsOther (g v s n)

abbrev Nexts : (Place → WorldState → ℕ → Outcome) → Type 0
Nexts g = (scope : Place) (s : WorldState) (n : ℕ) → TellsOther (g scope s n)

module _ (w : PlainSetting) (E : Evaluator) (all : Evaluates E) where
  told-by_case : (parent : Place) (args : List Value) (s : WorldState) (n : ℕ) (x : Option (Formals × PlainCore)) → TellsOther (by_case w E parent args s n x)
  told-by_case parent args s n None = tt
  told-by_case parent args s n (Some x) = all _ _ _ n

  told-by_code : (parent : Place) (args : List Value) (s : WorldState) (n : ℕ) (x : Option PlainCode) → TellsOther (by_code w E parent args s n x)
  told-by_code parent args s n None = tt
  told-by_code parent args s n (Some code) = told-by_case parent args s n (first_case code.cases (length args))

  told-procedure : (number : CodeNo) (parent : Place) (args : List Value) (s : WorldState) (n : ℕ) → TellsOther (procedure_called w E number parent args s n)
  unfolding procedure_called
  told-procedure number parent args s n = told-by_code parent args s n (code_at w.codes number)

  told-text_value : (args : List Value) → Goes (text_value_called w E args)
  told-text_value args (value.Closure number parent) s n = told-procedure number parent args s n
  told-text_value args value.Unspecified s n = tt
  told-text_value args (value.Atom x) s n = tt
  told-text_value args (value.Symbol x) s n = tt
  told-text_value args (value.Pair p) s n = tt
  told-text_value args (value.Vector p) s n = tt
  told-text_value args (value.Str p) s n = tt
  told-text_value args (value.Prim op) s n = tt
  told-text_value args (value.Syn t) s n = tt
  told-text_value args (value.Transformer p) s n = tt

  told-by_text : (args : List Value) (s : WorldState) (n : ℕ) (x : Option PlainCore) → TellsOther (by_text w E args s n x)
  told-by_text args s n None = tt
  told-by_text args s n (Some body) = told-then _ _ (all body _ _ n) (told-text_value args)

  told-op : (op : Op) (args : List Value) (s : WorldState) (n : ℕ) → TellsOther (op_called w E op args s n)
  unfolding op_called
  told-op op args s n = told-if (has_text op.0) _ _ (told-by_text args s n (text_body (code_at w.codes (text_number op.0)))) (told-primitive w op.0 args s n)

  told-value : (f : Value) (args : List Value) (s : WorldState) (n : ℕ) → TellsOther (value_called w E f args s n)
  told-value (value.Closure number parent) args s n = told-procedure number parent args s n
  told-value (value.Prim op) args s n = told-op op args s n
  told-value value.Unspecified args s n = tt
  told-value (value.Atom x) args s n = tt
  told-value (value.Symbol x) args s n = tt
  told-value (value.Pair p) args s n = tt
  told-value (value.Vector p) args s n = tt
  told-value (value.Str p) args s n = tt
  told-value (value.Syn t) args s n = tt
  told-value (value.Transformer p) args s n = tt

  told-first : (s : WorldState) → Calls (first_called w E s)
  unfolding first_called
  told-first s [] n = tt
  told-first s (f ∷ args) n = told-value f args s n

  pub told-applied : (vs : List Value) (s : WorldState) (n : ℕ) → TellsOther (applied w E vs s n)
  unfolding applied
  told-applied vs s n = told-spread s (first_called w E s) (told-first s) vs n

  told-operands : (cs : PlainCores) (scope : Place) (vs : List Value) (s : WorldState) (n : ℕ) → TellsOther (operands w E cs scope vs s n)
  told-operands none scope vs s n = told-applied vs s n
  told-operands (more c cs) scope vs s n = told-then _ _ (all c scope s n) (λ v s n. told-operands cs scope (vs ++ v ∷ []) s n)

  told-in_sequence : (cs : PlainCores) (scope : Place) (s : WorldState) (n : ℕ) → TellsOther (in_sequence w E cs scope s n)
  told-in_sequence none scope s n = tt
  told-in_sequence (more c none) scope s n = all c scope s n
  told-in_sequence (more c (more d cs)) scope s n = told-then _ _ (all c scope s n) (λ v s n. told-in_sequence (more d cs) scope s n)

  told-one_arm : (c : PlainCore) (scope : Place) → Goes (one_arm w E c scope)
  told-one_arm c scope v s n = told-if (truth_of v) _ _ (all c scope s n) tt

  told-two_arms : (c d : PlainCore) (scope : Place) → Goes (two_arms w E c d scope)
  told-two_arms c d scope v s n = told-if (truth_of v) _ _ (all c scope s n) (all d scope s n)

  told-in_turn : (is : PlainInits) (body : PlainCore) (scope : Place) (s : WorldState) (n : ℕ) → TellsOther (in_turn w E is body scope s n)
  told-in_turn no_init body scope s n = all body scope s n
  told-in_turn (init l c is) body scope s n = told-then _ _ (all c scope s n) (λ v s n. told-in_turn is body scope (store (assigned s.cells scope l v) s.names) n)

  told-at_once : (is : PlainInits) (l : PlainLetrec) (vs : List Value) (s : WorldState) (n : ℕ) → TellsOther (at_once w E is l vs s n)
  told-at_once no_init l vs s n = all l.body l.scope (store (all_assigned s.cells l.scope l.variables vs) s.names) n
  told-at_once (init x c is) l vs s n = told-then _ _ (all c l.scope s n) (λ v s n. told-at_once is l (vs ++ v ∷ []) s n)

  told-by_letrec : (in_order : Bool) (l : PlainLetrec) (s : WorldState) (n : ℕ) → TellsOther (by_letrec w E in_order l s n)
  told-by_letrec true l s n = told-in_turn l.variables l.body l.scope s n
  told-by_letrec false l s n = told-at_once l.variables l [] s n

  told-fender_passed : (g : Place → WorldState → ℕ → Outcome) → Nexts g → (output : PlainCore) (scope inner : Place) → Goes (fender_passed w E (record { output = output; others = g scope; scope = scope }) inner)
  told-fender_passed g k output scope inner v s n = told-if (truth_of v) _ _ (all output inner s n) (k scope s n)

  told-on_match : (g : Place → WorldState → ℕ → Outcome) → Nexts g → (take : PatternBinds → WorldState → ℕ → Outcome) → ((f : PatternBinds) (s : WorldState) (n : ℕ) → TellsOther (take f s n))
      → (scope : Place) (s : WorldState) (n : ℕ) (o : Option PatternBinds) → TellsOther (on_match w E (g scope) take s n o)
  told-on_match g k take l scope s n None = k scope s n
  told-on_match g k take l scope s n (Some f) = told-charged f.taken s n _ (λ m. l f s m)

  told-tried : (cs : PlainClauses) (v : Value) → Nexts (tried w E cs v)
  unfolding tried
  told-tried no_clause v scope s n = tt
  told-tried (clause p output cs) v scope s n =
      told-charged 1 s n _ (λ m. told-on_match (tried w E cs v) (told-tried cs v) (output_given w E output scope) (λ f s n. all output _ _ n) scope s m (match_of w.frames s.cells p v))
  told-tried (fended p fender output cs) v scope s n =
      told-charged 1 s n _ (λ m. told-on_match (tried w E cs v) (told-tried cs v) (fender_asked w E fender (clause_before w E output cs v scope))
      (λ f s n. told-then _ _ (all fender _ _ n) (told-fender_passed (tried w E cs v) (told-tried cs v) output scope _)) scope s m (match_of w.frames s.cells p v))

  told-expressed : (c : PlainCore) (scope : Place) (s : WorldState) (n : ℕ) → TellsOther (expressed w E c scope s n)
  told-expressed (quoted d) scope s n = told-quoted d s n
  told-expressed (variable l) scope s n = told-variable w l scope s n
  told-expressed (primitive op) scope s n = tt
  told-expressed (one_armed c d) scope s n = told-then _ _ (all c scope s n) (told-one_arm d scope)
  told-expressed (two_armed c d e) scope s n = told-then _ _ (all c scope s n) (told-two_arms d e scope)
  told-expressed (assignment l c) scope s n = tt
  told-expressed (sequence cs) scope s n = told-in_sequence cs scope s n
  told-expressed (procedure number cs plain) scope s n = tt
  told-expressed (letrec in_order is c) scope s n = told-by_letrec in_order _ _ n
  told-expressed (call c cs) scope s n = told-then _ _ (all c scope s n) (λ f s n. told-operands cs scope (f ∷ []) s n)
  told-expressed (instance t sp) scope s n = told-instanced t scope s n
  told-expressed (matching c cs sp) scope s n = told-then _ _ (all c scope s n) (λ v s n. told-tried cs v scope s n)

  told-unrolled : (c : PlainCore) (scope : Place) (s : WorldState) (n : ℕ) → TellsOther (unrolled w E c scope s n)
  told-unrolled c scope s zero = tt
  told-unrolled c scope s (suc n) = told-expressed c scope s n

module _ (w : PlainSetting) where
  told-evaluates : (depth : ℕ) → Evaluates (evaluates w depth)
  unfolding evaluates
  told-evaluates zero c scope s n = tt
  told-evaluates (suc depth) c scope s n = told-unrolled w (evaluates w depth) (told-evaluates depth) c scope s n

  pub told-eval : Evaluates (eval_of w)
  unfolding eval_of
  told-eval c scope s n = told-evaluates n c scope s n

  pub told-lines : (ls : List Line) (scope : Place) (s : WorldState) (n : ℕ) → TellsOther (lines_from (eval_of w) ls scope s n)
  told-lines [] scope s n = tt
  told-lines (line.Define l c ∷ ls) scope s n = told-then _ _ (told-eval c scope s n) (λ v s n. told-lines ls scope (store (assigned s.cells scope l v) s.names) n)
  told-lines (line.Expr c ∷ ls) scope s n = told-then _ _ (told-eval c scope s n) (λ v s n. told-lines ls scope s n)

pub evaluations_tell : EvaluationsTellOther
evaluations_tell = record {
  expressions = λ w c scope s n. told-eval w c scope s n;
  calls = λ w vs s n. told-applied w (eval_of w) (told-eval w) vs s n;
  libraries = λ w ls scope s n. told-lines w ls scope s n;
}
