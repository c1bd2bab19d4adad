-- What a stage says of keywords while they are used: no expression comes to be kept but that of the keyword whose transformer is evaluated.
use Rattle.std.proofs.Common.{◌≡◌, ℕ, Bool, true, false, List, [], ◌∷◌, length, ◌+◌, Option, None, Some, Result, Ok, Err, refl, sym, ◌∙◌, ap, inl, inr, if◌then◌else◌}
use Rattle.std.specs.Prelude.{◌⊎◌}
use Rattle.indexmap.specs.IndexMap.{insert_entry}
use Rattle.base_data.specs.Act.{after, give}
use Rattle.base_data.specs.Gives.{◌>>=◌}
use Rattle.base_data.specs.declared.fault.Fault.{Fault}
use Rattle.base_data.specs.declared.library.LibName.{LibName}
use Rattle.base_data.specs.declared.name.FrameNo.{FrameNo}
use Rattle.base_data.specs.declared.name.Label.{Label}
use Rattle.base_data.specs.declared.name.Mark.{Mark}
use Rattle.base_data.specs.declared.span.Span.{Span}
use Rattle.stx_tree.specs.Changes.{enter, leave}
use Rattle.stx_tree.specs.Tree.{Tree}
use Rattle.core_language.specs.Bindings.{bound_to}
use Rattle.core_language.specs.Core.{PlainCore}
use Rattle.core_language.specs.Labels.{same_label}
use Rattle.core_language.specs.declared.core_form.CoreForm.{CoreForm}
use Rattle.core_language.specs.declared.record.CompiledLibrary.{CompiledLibrary}
use Rattle.law_core.proofs.Decisions.{label_decides}
use Rattle.eval_value.specs.ToSyntax.{Reading, to_syntax}
use Rattle.eval_value.specs.declared.value.Value.{Value}
use Rattle.eval_value.specs.declared.value.Value.TheVariants as value
use Rattle.eval_code.specs.State.{Outcome, done, faulted, unfit}
use Rattle.eval_stage.specs.Libraries.{has_library, has_all, libraries_of, wanted}
use Rattle.eval_stage.specs.Running.{ended_at, with_codes_of, outcome_of, evaluate, outcome_of_call, call, outcome_of_lines, library_ended, evaluate_library, evaluate_wanted, evaluate_all, need}
use Rattle.eval_stage.specs.Stage.{PlainStage, fresh_mark, keyword_at, with_keyword, expression_in}
use Rattle.eval_stage.specs.Transformers.{is_transformer, transformer_only, transformer, value_in, import_keyword, value_or, keyword_value, is_variable, is_variable_transformer, evaluate_transformer}
use Rattle.eval_stage.specs.Uses.{procedure_in, call_procedure, tree_at, read_answer, transform, cut, transform_and_cut, transform_marked, used}
use Rattle.eval_stage.specs.declared.keyword.Keyword.{Keyword}
use Rattle.eval_stage.specs.declared.keyword.Keyword.TheVariants as keyword
use Rattle.expand_standing.specs.State.{State, fresh, stage_of, staged}
use Rattle.expand_standing.specs.Uses as standing
use Rattle.core_records.specs.Forms.{record_forms}
use Rattle.core_records.specs.Names.{record_uid}
use Rattle.expand_standing.specs.RecordUses.{at_state, defines_type, count_record_type, record_tree, record_marked, use_record}
use Rattle.expand_standing.specs.Uses.{use_keyword, asks_variable, macro_expression}
use Rattle.expand_heads.specs.declared.plan.KeywordUse.{KeywordUse}
use Rattle.expand_heads.specs.declared.plan.KeywordUse.TheVariants as keyword_use
use Rattle.expand_forms.specs.ExpandUses.{used_form, next_form}
use Rattle.core_shapes.specs.At.{place_of}
use Rattle.law_expand.proofs.Acts.{Gave, gave-after}
use Rattle.law_expand.proofs.Kept.{found-same, found-other}
use Rattle.law_expand.specs.Kept.{IsKeptWith}

-- all that is kept now was kept before
abbrev pub Tells : List (Label × Keyword) → List (Label × Keyword) → Type 0
Tells ks js = (k : Label) (c : PlainCore) → IsKeptWith js k c → IsKeptWith ks k c

-- or it is the expression of this keyword
abbrev pub TellsBut : Label → PlainCore → List (Label × Keyword) → List (Label × Keyword) → Type 0
TellsBut l d ks js = (k : Label) (c : PlainCore) → IsKeptWith js k c → IsKeptWith ks k c ⊎ ((k ≡ l) × (c ≡ d))

abbrev EndsTold : {A : Type 0} → PlainStage → Result (A × PlainStage) Fault → Type 0
EndsTold s (Ok p) = Tells s.keywords p.1.keywords
EndsTold s (Err f) = Unit {0}

then-told : {A B : Type 0} (s : PlainStage) (r : Result (A × PlainStage) Fault) (k : A → PlainStage → Result (B × PlainStage) Fault) → EndsTold s r → ((a : A) (t : PlainStage) → EndsTold t (k a t)) → EndsTold s (after r k)
then-told {A} {B} s (Ok p) k h next = by (k p.0 p.1) (next p.0 p.1)
  where
    by : (q : Result (B × PlainStage) Fault) → EndsTold p.1 q → EndsTold s q
    by (Ok q) g = λ l c e. h l c (g l c e)
    by (Err f) g = tt
then-told s (Err f) k h next = tt

if-told : {A : Type 0} (s : PlainStage) (b : Bool) (x y : Result (A × PlainStage) Fault) → EndsTold s x → EndsTold s y → EndsTold s (if b then x else y)
if-told s true x y h k = h
if-told s false x y h k = k

-- Evaluations.

ended-told : (place : Span) (s : PlainStage) (o : Outcome) → EndsTold s (ended_at place s o)
ended-told place s (done v t n) = λ k c e. e
ended-told place s (faulted f t n) = tt
ended-told place s unfit = tt

evaluate-told : (place : Span) (c : PlainCore) (s : PlainStage) → EndsTold s (evaluate place c s)
unfolding evaluate
evaluate-told place c s = by (outcome_of c s)
  where
    by : (o : Outcome) → EndsTold s (ended_at place (with_codes_of c s) o)
    by (done v t n) = λ k d e. e
    by (faulted f t n) = tt
    by unfit = tt

library-told : (place : Span) (r : CompiledLibrary) (s : PlainStage) → EndsTold s (evaluate_library place r s)
unfolding evaluate_library
library-told place r s = by (outcome_of_lines r.run s)
  where
    by : (o : Outcome) → EndsTold s (library_ended place r s o)
    by (done v t n) = λ k c e. e
    by (faulted f t n) = tt
    by unfit = tt

wanted-told : (place : Span) (ks : List LibName) (r : CompiledLibrary) (s : PlainStage) → EndsTold s (evaluate_wanted place ks r s)
unfolding evaluate_wanted
wanted-told place ks r s = if-told s (has_library ks r.name) _ _ (if-told s (has_library s.evaluated r.name) _ _ (λ k c e. e) (library-told place r s)) (λ k c e. e)

all-told : (place : Span) (ks : List LibName) (rs : List CompiledLibrary) (s : PlainStage) → EndsTold s (evaluate_all place ks rs s)
unfolding evaluate_all
all-told place ks [] s = λ k c e. e
all-told place ks (r ∷ rs) s = then-told s (evaluate_wanted place ks r s) (λ _. evaluate_all place ks rs) (wanted-told place ks r s) (λ _ t. all-told place ks rs t)

need-told : (place : Span) (rs : List CompiledLibrary) (c : PlainCore) (s : PlainStage) → EndsTold s (need place rs c s)
unfolding need
need-told place rs c s = if-told s (has_all s.evaluated (libraries_of c)) _ _ (λ k d e. e) (all-told place (wanted rs (libraries_of c)) rs s)

only-told : (place : Span) (v : Value) (s : PlainStage) → EndsTold s (transformer_only place v s)
only-told place v s = if-told s (is_transformer v) _ _ (λ k c e. e) tt

transformer-told : (place : Span) (rs : List CompiledLibrary) (c : PlainCore) (s : PlainStage) → EndsTold s (transformer place rs c s)
unfolding transformer
transformer-told place rs c s =
    then-told s (need place rs c s) (λ _ t. after (evaluate place c t) (λ p. transformer_only place p.0)) (need-told place rs c s)
    (λ _ t. then-told t (evaluate place c t) (λ p. transformer_only place p.0) (evaluate-told place c t) (λ p u. only-told place p.0 u))

-- Keywords.

-- what is put down of one
pub put-told : (ks : List (Label × Keyword)) (l : Label) (k : Keyword) (m : Label) (c : PlainCore) → IsKeptWith (insert_entry same_label ks l k) m c → IsKeptWith ks m c ⊎ ((m ≡ l) × (expression_in (Some k) ≡ Some c))
put-told ks l k m c e = by (same_label m l) refl
  where
    by : (b : Bool) → same_label m l ≡ b → IsKeptWith ks m c ⊎ ((m ≡ l) × (expression_in (Some k) ≡ Some c))
    by true is =
        let same = (label_decides m l).0 is in
        inr (same, sym (ap expression_in (found-same ks l k)) ∙ ap (λ (x : Label). expression_in (keyword_at (insert_entry same_label ks l k) x)) (sym same) ∙ e)
    by false is = inl (sym (ap expression_in (found-other ks l m k (λ same. let yes = (label_decides m l).1 same in absurd (cc)))) ∙ e)

kept-told : (l : Label) (s : PlainStage) (r : Result (Value × PlainStage) Fault) → EndsTold s r → EndsTold s (after r (λ v t. give v (with_keyword l (keyword.Kept None v) t)))
kept-told l s (Ok p) h = λ k c e. by k c (put-told p.1.keywords l (keyword.Kept None p.0) k c e)
  where
    by : (k : Label) (c : PlainCore) → IsKeptWith p.1.keywords k c ⊎ ((k ≡ l) × (None ≡ Some c)) → IsKeptWith s.keywords k c
    by k c (inl x) = h k c x
    by k c (inr x) = let bad = x.1 in absurd (cc)
kept-told l s (Err f) h = tt

import-told : (place : Span) (rs : List CompiledLibrary) (l : Label) (e : Option PlainCore) (s : PlainStage) → EndsTold s (import_keyword place rs l e s)
unfolding import_keyword
import-told place rs l None s = tt
import-told place rs l (Some c) s = kept-told l s (transformer place rs c s) (transformer-told place rs c s)

value-told : (place : Span) (rs : List CompiledLibrary) (l : Label) (e : Option PlainCore) (s : PlainStage) → EndsTold s (keyword_value place rs l e s)
unfolding keyword_value
value-told place rs l e s = by (keyword_at s.keywords l)
  where
    by : (o : Option Keyword) → EndsTold s (value_in o >>= λ x. value_or place rs l e x s)
    by None = import-told place rs l e s
    by (Some (keyword.Waiting at)) = tt
    by (Some (keyword.Kept x v)) = λ k c e. e

asks-told : (place : Span) (rs : List CompiledLibrary) (l : Label) (e : Option PlainCore) (s : PlainStage) → EndsTold s (is_variable_transformer place rs l e s)
unfolding is_variable_transformer
asks-told place rs l e s = then-told s (keyword_value place rs l e s) (λ v. give (is_variable v)) (value-told place rs l e s) (λ v t k c x. x)

-- Uses.

call-told : (place : Span) (t : Tree) (o : Option Value) (s : PlainStage) → EndsTold s (call_procedure place t o s)
unfolding call
call-told place t None s = tt
call-told place t (Some f) s = ended-told place s (outcome_of_call f (value.Syn t) s)

tree-told : (place : Span) (s : PlainStage) (x : Reading Tree) → EndsTold s (tree_at place s x)
tree-told place s (Ok p) = λ k c e. e
tree-told place s (Err f) = tt

read-told : (place : Span) (a : Value × ℕ) (s : PlainStage) → EndsTold s (read_answer place a s)
unfolding read_answer
read-told place a s = tree-told place s (to_syntax s.cells a.0 a.1)

transform-told : (place : Span) (v : Value) (t : Tree) (s : PlainStage) → EndsTold s (transform place v t s)
unfolding transform
transform-told place v t s = then-told s (call_procedure place t (procedure_in s.cells v) s) (read_answer place) (call-told place t (procedure_in s.cells v) s) (λ a u. read-told place a u)

cut-told : (place : Span) (v : Value) (t : Tree) (s : PlainStage) → EndsTold s (transform_and_cut place v t s)
unfolding transform_and_cut
cut-told place v t s = then-told s (transform place v t s) (λ u new. give u (cut (length s.cells) new)) (transform-told place v t s) (λ u new k c e. e)

marked-told : (place : Span) (v : Value) (form : Tree) (frame : Option FrameNo) (m : Mark) (s : PlainStage) → EndsTold s (transform_marked place v form frame m s)
unfolding transform_marked
marked-told place v form frame m s = then-told s (transform_and_cut place v (enter m form) s) (λ t. give (leave m frame t)) (cut-told place v (enter m form) s) (λ t u k c e. e)

used-told : (place : Span) (rs : List CompiledLibrary) (form : Tree) (l : Label) (e : Option PlainCore) (frame : Option FrameNo) (s : PlainStage) → EndsTold s (used place rs form l e frame s)
unfolding used
used-told place rs form l e frame s =
    then-told s (keyword_value place rs l e s) (λ v t. after (fresh_mark t) (transform_marked place v form frame)) (value-told place rs l e s)
    (λ v t. then-told t (fresh_mark t) (transform_marked place v form frame) (λ k c x. x) (λ m u. marked-told place v form frame m u))

-- The same in an expansion.

on-stage : {A : Type 0} (s : State) (r : Result (A × PlainStage) Fault) → EndsTold (stage_of s) r → Gave (λ a u. Tells s.keywords u.keywords) (staged s r)
on-stage s (Ok p) h = h
on-stage s (Err f) h = tt

pub use-told : (rs : List CompiledLibrary) (place : Span) (t : Tree) (l : Label) (frame : Option FrameNo) (s : State) → Gave (λ a u. Tells s.keywords u.keywords) (use_keyword rs place t l frame s)
unfolding use_keyword
use-told rs place t l frame s = on-stage s (used place rs t l (macro_expression (bound_to s.bindings l)) frame (stage_of s)) (used-told place rs t l (macro_expression (bound_to s.bindings l)) frame (stage_of s))

tree-kept : (place : Span) (t : Tree) (f : CoreForm) (count : ℕ) (s : State) → Gave (λ a u. Tells s.keywords u.keywords) (record_tree place t f count s)
unfolding record_tree
tree-kept place t f count s = by (record_forms s.frames t f place (record_uid s.library t count))
  where
    by : (r : Result Tree Fault) → Gave (λ a u. Tells s.keywords u.keywords) (at_state s r)
    by (Ok u) = λ k c e. e
    by (Err e) = tt

marked-kept : (place : Span) (t : Tree) (f : CoreForm) (frame : Option FrameNo) (m : Mark) (s : State) → Gave (λ a u. Tells s.keywords u.keywords) (record_marked place t f frame m s)
unfolding record_marked count_record_type
marked-kept place t f frame m s = by (defines_type f)
  where
    by : (b : Bool) → Gave (λ a u. Tells s.keywords u.keywords) (after (record_tree place (enter m t) f s.record_types (if b then record s { record_types = s.record_types + 1 } else s)) (λ u. give (leave m frame u)))
    by true = gave-after (λ a u. Tells s.keywords u.keywords) (λ a u. Tells s.keywords u.keywords) (record_tree place (enter m t) f s.record_types (record s { record_types = s.record_types + 1 })) (λ u. give (leave m frame u))
        (tree-kept place (enter m t) f s.record_types (record s { record_types = s.record_types + 1 })) (λ a u k. k)
    by false = gave-after (λ a u. Tells s.keywords u.keywords) (λ a u. Tells s.keywords u.keywords) (record_tree place (enter m t) f s.record_types s) (λ u. give (leave m frame u))
        (tree-kept place (enter m t) f s.record_types s) (λ a u k. k)

record-kept : (place : Span) (t : Tree) (f : CoreForm) (frame : Option FrameNo) (s : State) → Gave (λ a u. Tells s.keywords u.keywords) (use_record place t f frame s)
unfolding use_record fresh
record-kept place t f frame s =
    let m : Mark = record { 0 = s.names } in
    marked-kept place t f frame m (record s { names = record { library = s.names.library; number = s.names.number + 1 } })

form-told : (rs : List CompiledLibrary) (place : Span) (t : Tree) (k : KeywordUse) (frame : Option FrameNo) (s : State) → Gave (λ a u. Tells s.keywords u.keywords) (used_form rs place t k frame s)
form-told rs place t (keyword_use.Macro l) frame s = use-told rs place t l frame s
form-told rs place t (keyword_use.Record f) frame s = record-kept place t f frame s

pub next-told : (rs : List CompiledLibrary) (left : ℕ) (place : Span) (t : Tree) (k : KeywordUse) (frame : Option FrameNo) (s : State) → Gave (λ a u. Tells s.keywords u.keywords) (next_form rs left place t k frame s)
unfolding next_form
next-told rs left place t k frame s = form-told rs (place_of t place) t k frame (record s { uses_left = left })

pub variable-told : (rs : List CompiledLibrary) (place : Span) (l : Label) (s : State) → Gave (λ a u. Tells s.keywords u.keywords) (asks_variable rs place l s)
unfolding asks_variable
variable-told rs place l s = on-stage s (is_variable_transformer place rs l (macro_expression (bound_to s.bindings l)) (stage_of s)) (asks-told place rs l (macro_expression (bound_to s.bindings l)) (stage_of s))

-- a keyword whose transformer is evaluated
pub finish-told : (rs : List CompiledLibrary) (place : Span) (l : Label) (c : PlainCore) (s : State) → Gave (λ a u. TellsBut l c s.keywords u.keywords) (standing.evaluate_transformer rs place l c s)
unfolding standing.evaluate_transformer evaluate_transformer
finish-told rs place l c s = by (transformer place rs c (stage_of s)) (transformer-told place rs c (stage_of s))
  where
    by : (r : Result (Value × PlainStage) Fault) → EndsTold (stage_of s) r → Gave (λ a u. TellsBut l c s.keywords u.keywords) (staged s (after r (λ v t. give (tt {0}) (with_keyword l (keyword.Kept (Some c) v) t))))
    by (Err f) h = tt
    by (Ok p) h = λ k d e. one k d (put-told p.1.keywords l (keyword.Kept (Some c) p.0) k d e)
      where
        one : (k : Label) (d : PlainCore) → IsKeptWith p.1.keywords k d ⊎ ((k ≡ l) × (Some c ≡ Some d)) → IsKeptWith s.keywords k d ⊎ ((k ≡ l) × (d ≡ c))
        one k d (inl x) = inl (h k d x)
        one k d (inr x) = let is = x.1 in inr (x.0, cc)
