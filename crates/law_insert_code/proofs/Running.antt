-- Evaluating the match of the values of inserts.
use Rattle.std.proofs.Common.{◌≡◌, true, List, [], ◌∷◌, ◌++◌, length, Some, Ok, Err, refl, sym, ap, subst, arith, append_assoc, if◌then◌else◌}
use Rattle.std.proofs.lemmas.Bool.{le-leb}
use Rattle.std.proofs.lemmas.List.{append-nil}
use Rattle.std.specs.Prelude.{◌&&◌}
use Rattle.base_data.specs.Elements.{Each}
use Rattle.base_data.specs.declared.op.names.TheConstants as names
use Rattle.base_data.specs.declared.span.Span.{Span}
use Rattle.base_region.specs.declared.region.Place.{Place}
use Rattle.stx_frames.specs.Scope.{Scope}
use Rattle.core_language.specs.Core.{PlainCore, primitive, instance, cores, clause, no_clause}
use Rattle.core_language.specs.Pattern.{PlainPattern}
use Rattle.core_language.specs.Template.{PlainTemplate}
use Rattle.eval_value.specs.Cells.{FitsIn, WholeCells}
use Rattle.eval_value.specs.FromDatum.{pairs_stored}
use Rattle.eval_value.specs.declared.value.Value.{Value}
use Rattle.eval_value.specs.declared.value.Value.TheVariants as value
use Rattle.eval_value.specs.declared.cell.Cell.{Cell}
use Rattle.eval_prims.specs.Answers.{wrong_count, or_refused}
use Rattle.eval_prims.specs.Delta.{delta, row_answer}
use Rattle.eval_prims.specs.Lists.{nil, gathered_made}
use Rattle.eval_prims.specs.Primitives.{primitive_of}
use Rattle.eval_prims.specs.declared.made.PrimResult.TheVariants as made
use Rattle.eval_prims.proofs.Performed.{pairs_good}
use Rattle.eval_pattern.specs.Matched.{matched, nothing}
use Rattle.eval_pattern.specs.declared.columns.PatternBinds.{PatternBinds}
use Rattle.eval_pattern.specs.declared.compile.PatternVariable.{PatternVariable}
use Rattle.law_matches.specs.Matches.{MatchBinds}
use Rattle.law_matches.proofs.Complete.{with, matched_is}
use Rattle.law_lists.proofs.RunLemmas.{stored_runs, stored_stay}
use Rattle.eval_code.specs.Instances as instances
use Rattle.eval_code.specs.Meaning.{eval_of, applied, tried, on_match, output_given}
use Rattle.eval_code.specs.Procedures.{has_text}
use Rattle.eval_code.specs.Setting.{PlainSetting}
use Rattle.eval_code.specs.State.{WorldState, charged, next_place}
use Rattle.law_given.specs.Calls.{CallEnd, Ends, Gives, call_to, Calls}
use Rattle.law_given.proofs.Calling.{plain-called}
use Rattle.law_given.proofs.Giving.{ends-same, ends-then, ends-charged, ends-step, Evaluates, Operands, operand, primitive-is, call-is}
use Rattle.expand_quasi.specs.Filled.{call_of}
use Rattle.expand_quasi.specs.Inserted.{list_op, inserts_pattern, match_of}
use Rattle.law_insert_code.specs.Inserted.{GiveInTurn, no_code, one_code, AreBoundTo, with_list, with_binds}
use Rattle.law_insert_code.proofs.Matching.{begun, all_still, inserts_take}

list_answer : (cells : List Cell) (frames : Scope) (xs : List Value) → delta names.LIST xs cells frames ≡ Ok (made.List xs nil)
unfolding delta row_answer gathered_made primitive_of
list_answer cells frames xs = ap (λ b. if b && true then or_refused names.LIST (Some (made.List xs nil)) else Err (wrong_count (length xs))) (le-leb 0 (length xs) (omega arith))

module _ (w : PlainSetting) (scope : Place) where
  list_called : (vs : List Value) (t : WorldState) → Calls w (call_to (value.Prim list_op) vs) t (pairs_stored vs (nil, t.cells)).0 (with_list vs t)
  unfolding has_text
  list_called vs t = plain-called w list_op vs t (made.List vs nil) refl refl refl (list_answer t.cells w.frames vs)

  -- the codes as operands, behind those that are done
  operands_given : (cs : List PlainCore) (s t u : WorldState) (vs done : List Value) (v : Value) → GiveInTurn w scope cs s vs t
      → Gives (applied w (eval_of w) (done ++ vs) t) v u → Operands w (cores cs) scope done s v u
  operands_given cs s t u vs done v no_code h = subst (λ (us : List Value). Gives (applied w (eval_of w) us t) v u) (append-nil done) h
  operands_given cs s t u vs done v (one_code {c = c} {cs = ds} {t = m} {v = x} {vs = xs} g k) h =
      operand w c (cores ds) scope done s m u x v g
      (operands_given ds m t u xs (done ++ x ∷ []) v k (subst (λ (us : List Value). Gives (applied w (eval_of w) us t) v u) (sym (append_assoc done (x ∷ []) xs)) h))

  list_given : (cs : List PlainCore) (s t : WorldState) (vs : List Value) → GiveInTurn w scope cs s vs t
      → Evaluates w (call_of list_op cs) scope s (pairs_stored vs (nil, t.cells)).0 (with_list vs t)
  list_given cs s t vs g =
      call-is w (primitive list_op) (cores cs) scope s s (with_list vs t) (value.Prim list_op) (pairs_stored vs (nil, t.cells)).0 (primitive-is w list_op scope s)
      (operands_given cs s t (with_list vs t) vs (value.Prim list_op ∷ []) (pairs_stored vs (nil, t.cells)).0 g (list_called vs t))

  -- the one clause, where it matches
  clause_ends : (p : PlainPattern) (c : PlainCore) (v : Value) (t u : WorldState) (f : PatternBinds) (r : CallEnd) → instances.match_of w.frames t.cells p v ≡ Some f
      → Ends (eval_of w c (next_place t) (with_binds f.binds scope t)) r u → Ends (tried w (eval_of w) (clause p c no_clause) v scope t) r u
  unfolding tried
  clause_ends p c v t u f r e h =
      let other = tried w (eval_of w) no_clause v scope in
      let take = output_given w (eval_of w) c scope in
      ends-charged 1 t (λ m. on_match w (eval_of w) other take t m (instances.match_of w.frames t.cells p v)) r u
      (ends-same (λ m. charged f.taken t m (take f t)) (λ m. on_match w (eval_of w) other take t m (instances.match_of w.frames t.cells p v)) r u
      (λ m. ap (on_match w (eval_of w) other take t m) e)
      (ends-charged f.taken t (take f t) r u h))

  pub code-ends : (xs : List PatternVariable) (x : PlainTemplate) (span : Span) (cs : List PlainCore) (s t : WorldState) (vs : List Value) (bs : MatchBinds)
      → GiveInTurn w scope cs s vs t → WholeCells t.cells → Each (FitsIn t.cells) vs → AreBoundTo t.cells xs vs bs
      → (r : CallEnd) (u : WorldState) → Ends (eval_of w (instance x span) (next_place (with_list vs t)) (with_binds bs scope (with_list vs t))) r u
      → Ends (eval_of w (match_of xs x span cs) scope s) r u
  code-ends xs x span cs s t vs bs g whole fit bound r u h =
      let p = pairs_stored vs (nil, t.cells) in
      let good = pairs_good vs nil t.cells whole fit tt in
      let took = inserts_take w.frames p.1 xs vs bs p.0 (all_still t.cells p.1 (stored_stay vs nil t.cells) bound) (begun p.1 (stored_runs vs nil t.cells)) in
      let found : matched w.frames p.1 (inserts_pattern xs) p.0 (nothing 0) ≡ Some (with (nothing 0) bs took.count) =
      matched_is w.frames p.1 good.0 (nothing 0) good.1 took.matches in
      ends-step w (match_of xs x span cs) scope s r u
      (ends-then (eval_of w (call_of list_op cs) scope s) (λ v. tried w (eval_of w) (clause (inserts_pattern xs) (instance x span) no_clause) v scope) p.0 (with_list vs t) r u
      (list_given cs s t vs g)
      (clause_ends (inserts_pattern xs) (instance x span) p.0 (with_list vs t) u (with (nothing 0) bs took.count) r found h))
