-- A call leaves the cells that were there, and what a use adds is dropped.
use Rattle.std.proofs.Common.{◌≡◌, ◌≤◌, ◌+◌, ℕ, true, List, [], ◌∷◌, length, refl, sym, ap, ◌∙◌, subst, arith}
use Rattle.std.specs.Prelude.{Option, Some, None, Result, Ok, Err}
use Rattle.base_data.specs.Act.{after, give}
use Rattle.base_data.specs.Gives.{◌>>=◌}
use Rattle.base_data.specs.declared.fault.Fault.{Fault}
use Rattle.base_data.specs.declared.name.FrameNo.{FrameNo}
use Rattle.base_data.specs.declared.name.Label.{Label}
use Rattle.base_data.specs.declared.name.Mark.{Mark}
use Rattle.base_data.specs.declared.span.Span.{Span}
use Rattle.stx_tree.specs.Changes.{enter, leave}
use Rattle.stx_tree.specs.Tree.{Tree}
use Rattle.core_language.specs.Core.{PlainCore}
use Rattle.core_language.specs.declared.record.CompiledLibrary.{CompiledLibrary}
use Rattle.eval_value.specs.FromDatum.{Keeps}
use Rattle.eval_value.specs.ToSyntax.{Reading, to_syntax}
use Rattle.eval_value.specs.declared.value.Value.{Value}
use Rattle.eval_value.specs.declared.value.Value.TheVariants as value
use Rattle.eval_value.proofs.Stored.{keeps_refl}
use Rattle.eval_code.specs.State.{Outcome, done, faulted, unfit}
use Rattle.law_eval.specs.Kept.{EndsLater}
use Rattle.law_eval.proofs.Keeping.{keeps-call}
use Rattle.eval_stage.specs.Libraries.{has_library}
use Rattle.eval_stage.specs.Running.{state_on, ended_at, outcome_of_call, call}
use Rattle.eval_stage.specs.Stage.{PlainStage, fresh_mark, keyword_at}
use Rattle.eval_stage.specs.Transformers.{value_in, value_or, keyword_value}
use Rattle.eval_stage.specs.Uses.{procedure_in, call_procedure, tree_at, read_answer, transform, cut, transform_and_cut, transform_marked, used}
use Rattle.eval_stage.specs.declared.keyword.Keyword.TheVariants as keyword
use Rattle.law_stage.specs.Grows.{StageGrowth, By, GrowsBy}
use Rattle.law_stage.specs.Uses.{OnlyCounts, CalledOn}
use Rattle.law_stage.proofs.Growing.{by_after, grows_then, value_grows}

-- A call has run: it adds cells, and changes nothing else but the counts.
record Ran (s t : PlainStage) : Type 0 where
  pub same : t ≡ record s { cells = t.cells; names = t.names; spent = t.spent }
  pub cells : Keeps s.cells t.cells
  pub library : t.names.library ≡ s.names.library
  pub names : s.names.number ≤ t.names.number
  pub spent : s.spent ≤ t.spent

ran_ended : (place : Span) (s : PlainStage) (o : Outcome) → EndsLater (state_on s) o → By Ran s (ended_at place s o)
ran_ended place s (done v t n) h = record { same = refl; cells = h.cells; library = h.library; names = h.names; spent = omega arith }
ran_ended place s (faulted f t n) h = tt
ran_ended place s unfit h = tt

ran_call : (place : Span) (t : Tree) (o : Option Value) (s : PlainStage) → By Ran s (call_procedure place t o s)
unfolding call
ran_call place t None s = tt
ran_call place t (Some f) s = ran_ended place s (outcome_of_call f (value.Syn t) s) (keeps-call _ (f ∷ value.Syn t ∷ []) (state_on s) _)

ran_tree : (place : Span) (s t : PlainStage) (x : Reading Tree) → Ran s t → By Ran s (tree_at place t x)
ran_tree place s t (Ok p) h = h
ran_tree place s t (Err f) h = tt

ran_read : (place : Span) (s : PlainStage) (r : Result ((Value × ℕ) × PlainStage) Fault) → By Ran s r → By Ran s (after r (read_answer place))
unfolding read_answer
ran_read place s (Ok p) h = ran_tree place s p.1 (to_syntax p.1.cells p.0.0 p.0.1) h
ran_read place s (Err f) h = tt

ran_transform : (place : Span) (v : Value) (t : Tree) (s : PlainStage) → By Ran s (transform place v t s)
unfolding transform
ran_transform place v t s = ran_read place s (call_procedure place t (procedure_in s.cells v) s) (ran_call place t (procedure_in s.cells v) s)

-- Names were taken and fuel was spent, and that is all.
record Counted (s t : PlainStage) : Type 0 where
  pub only : OnlyCounts s t
  pub library : t.names.library ≡ s.names.library
  pub names : s.names.number ≤ t.names.number
  pub spent : s.spent ≤ t.spent

counted_cut : (s new : PlainStage) → Ran s new → Counted s (cut (length s.cells) new)
counted_cut s new h = record {
  only = ap (cut (length s.cells)) h.same ∙ ap (λ c. record s { cells = c; names = new.names; spent = new.spent }) h.cells;
  library = h.library;
  names = h.names;
  spent = h.spent;
}

counted_dropped : (s : PlainStage) (r : Result (Tree × PlainStage) Fault) → By Ran s r → By Counted s (after r (λ u new. give u (cut (length s.cells) new)))
counted_dropped s (Ok p) h = counted_cut s p.1 h
counted_dropped s (Err f) h = tt

counted_transform : (place : Span) (v : Value) (t : Tree) (s : PlainStage) → By Counted s (transform_and_cut place v t s)
unfolding transform_and_cut
counted_transform place v t s = counted_dropped s (transform place v t s) (ran_transform place v t s)

counted_left : (s : PlainStage) (f : Tree → Tree) (r : Result (Tree × PlainStage) Fault) → By Counted s r → By Counted s (after r (λ t. give (f t)))
counted_left s f (Ok p) h = h
counted_left s f (Err e) h = tt

counted_marked : (place : Span) (v : Value) (form : Tree) (frame : Option FrameNo) (m : Mark) (s : PlainStage) → By Counted s (transform_marked place v form frame m s)
unfolding transform_marked
counted_marked place v form frame m s = counted_left s (leave m frame) (transform_and_cut place v (enter m form) s) (counted_transform place v (enter m form) s)

grows_counted : (s t : PlainStage) → Counted s t → StageGrowth s t
grows_counted s t h = record {
  cells = subst (λ c. Keeps s.cells c) (sym (ap (λ (x : PlainStage). x.cells) h.only)) (keeps_refl s.cells);
  frames = ap (λ (x : PlainStage). x.frames) h.only;
  library = h.library;
  names = h.names;
  evaluated = λ k e. subst (λ ks. has_library ks k ≡ true) (sym (ap (λ (x : PlainStage). x.evaluated) h.only)) e;
  kept = λ l e v x. subst (λ ks. keyword_at ks l ≡ Some (keyword.Kept e v)) (sym (ap (λ (x : PlainStage). x.keywords) h.only)) x;
  spent = h.spent;
}

by_counted : (s : PlainStage) (r : Result (Tree × PlainStage) Fault) → By Counted s r → GrowsBy s r
by_counted s (Ok p) h = grows_counted s p.1 h
by_counted s (Err f) h = tt

grows_fresh : (s : PlainStage) → GrowsBy s (fresh_mark s)
grows_fresh s = record {
  cells = keeps_refl s.cells;
  frames = refl;
  library = refl;
  names = omega arith;
  evaluated = λ k e. e;
  kept = λ l e v x. x;
  spent = omega arith;
}

pub use_grows : (place : Span) (rs : List CompiledLibrary) (form : Tree) (l : Label) (e : Option PlainCore) (frame : Option FrameNo) (s : PlainStage)
    → GrowsBy s (used place rs form l e frame s)
unfolding used
use_grows place rs form l e frame s =
    by_after StageGrowth grows_then s (keyword_value place rs l e s) (λ v t. after (fresh_mark t) (transform_marked place v form frame)) (value_grows place rs l e s)
    (λ v t. by_after StageGrowth grows_then t (fresh_mark t) (transform_marked place v form frame) (grows_fresh t) (λ m u. by_counted u _ (counted_marked place v form frame m u)))

-- the transformer was called on a stage
counts : (place : Span) (v : Value) (form : Tree) (frame : Option FrameNo) (s new : PlainStage) (t : Tree)
    → after (fresh_mark s) (transform_marked place v form frame) ≡ Ok (t, new) → OnlyCounts s new
counts place v form frame s new t h =
    let m : Mark = record { 0 = s.names } in
    let u : PlainStage = record s { names = record { library = s.names.library; number = s.names.number + 1 } } in
    let c : By Counted u (Ok (t, new)) = subst (λ r. By Counted u r) h (counted_marked place v form frame m u) in
    c.only

module _ (place : Span) (rs : List CompiledLibrary) (form : Tree) (l : Label) (e : Option PlainCore) (frame : Option FrameNo) (s new : PlainStage) (t : Tree) where
  called_on : (r : Result (Value × PlainStage) Fault) → keyword_value place rs l e s ≡ r → after r (λ v u. after (fresh_mark u) (transform_marked place v form frame)) ≡ Ok (t, new)
      → CalledOn place rs l e s new
  called_on (Ok p) asked h = record { value = p.0; before = p.1; asked = asked; counts = counts place p.0 form frame p.1 new t h }
  called_on (Err f) asked h = absurd (cc)

  pub uses_drop : used place rs form l e frame s ≡ Ok (t, new) → CalledOn place rs l e s new
  unfolding used
  uses_drop h = called_on (keyword_value place rs l e s) refl h

  value_kept : (x : Option PlainCore) (v : Value) → keyword_at s.keywords l ≡ Some (keyword.Kept x v) → keyword_value place rs l e s ≡ Ok (v, s)
  unfolding keyword_value
  value_kept x v h = ap (λ k. value_in k >>= λ o. value_or place rs l e o s) h

  pub kept_counts : (x : Option PlainCore) (v : Value) → keyword_at s.keywords l ≡ Some (keyword.Kept x v) → used place rs form l e frame s ≡ Ok (t, new) → OnlyCounts s new
  unfolding used
  kept_counts x v h k =
      counts place v form frame s new t (sym (ap (λ r. after r (λ v u. after (fresh_mark u) (transform_marked place v form frame))) (value_kept x v h)) ∙ k)
