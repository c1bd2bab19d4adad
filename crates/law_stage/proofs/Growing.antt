-- Evaluations on a stage forget nothing.
use Rattle.std.proofs.Common.{◌≡◌, ℕ, Bool, true, false, List, [], ◌∷◌, ◌++◌, refl, sym, ap, ◌∙◌, subst, arith}
use Rattle.std.specs.Prelude.{Option, Some, None, Result, Ok, Err, cond, if◌then◌else◌, ◌||◌}
use Rattle.std.proofs.lemmas.List.Folds.{list_any-append}
use Rattle.indexmap.specs.IndexMap.{insert_entry}
use Rattle.base_data.specs.Act.{after, give}
use Rattle.base_data.specs.Gives.{◌>>=◌}
use Rattle.base_data.specs.Same.{same_library}
use Rattle.base_data.specs.declared.fault.Fault.{Fault}
use Rattle.base_data.specs.declared.library.LibName.{LibName}
use Rattle.base_data.specs.declared.name.Label.{Label}
use Rattle.base_data.specs.declared.span.Span.{Span}
use Rattle.core_language.specs.Core.{PlainCore}
use Rattle.core_language.specs.Labels.{same_label}
use Rattle.core_language.specs.declared.record.CompiledLibrary.{CompiledLibrary}
use Rattle.eval_value.specs.declared.value.Value.{Value}
use Rattle.eval_value.proofs.Stored.{keeps_refl, keeps_then}
use Rattle.eval_code.specs.State.{WorldState, Outcome, done, faulted, unfit}
use Rattle.law_eval.specs.Kept.{LaterWorld, EndsLater}
use Rattle.law_eval.proofs.Keeping.{keeps-defined, keeps-alone}
use Rattle.eval_stage.specs.Libraries.{has_library, with_library, has_all, libraries_of, wanted}
use Rattle.eval_stage.specs.Running.{state_on, left_by, ended_at, with_codes_of, outcome_of, evaluate, outcome_of_lines, library_ended, evaluate_library, evaluate_wanted, evaluate_all, need}
use Rattle.eval_stage.specs.Stage.{PlainStage, keyword_at, with_keyword}
use Rattle.eval_stage.specs.Transformers.{is_transformer, transformer_only, transformer, begin_keyword, evaluate_transformer, value_in, import_keyword, value_or, keyword_value, is_variable, is_variable_transformer}
use Rattle.eval_stage.specs.declared.keyword.Keyword.{Keyword}
use Rattle.eval_stage.specs.declared.keyword.Keyword.TheVariants as keyword
use Rattle.law_stage.specs.Grows.{StageGrowth, By, GrowsBy, IsNotKept}

-- What holds from one stage to the next.

module _ (R : PlainStage → PlainStage → Type 0) (later : (r s t : PlainStage) → R r s → R s t → R r t) where
  pub by_from : {A : Type 0} (s t : PlainStage) (r : Result (A × PlainStage) Fault) → R s t → By R t r → By R s r
  by_from s t (Ok p) h k = later s t p.1 h k
  by_from s t (Err f) h k = tt

  pub by_after : {A B : Type 0} (s : PlainStage) (r : Result (A × PlainStage) Fault) (k : A → PlainStage → Result (B × PlainStage) Fault)
      → By R s r → ((a : A) (t : PlainStage) → By R t (k a t)) → By R s (after r k)
  by_after s (Ok p) k h g = by_from s p.1 (k p.0 p.1) h (g p.0 p.1)
  by_after s (Err f) k h g = tt

pub by_if : {A : Type 0} (R : PlainStage → PlainStage → Type 0) (s : PlainStage) (b : Bool) (x y : Result (A × PlainStage) Fault) → By R s x → By R s y → By R s (if b then x else y)
by_if R s true x y h k = h
by_if R s false x y h k = k

pub grows_refl : (s : PlainStage) → StageGrowth s s
grows_refl s = record { cells = keeps_refl s.cells; frames = refl; library = refl; names = omega arith; evaluated = λ k h. h; kept = λ l e v h. h; spent = omega arith }

pub grows_then : (r s t : PlainStage) → StageGrowth r s → StageGrowth s t → StageGrowth r t
grows_then r s t h k = record {
  cells = keeps_then r.cells s.cells t.cells h.cells k.cells;
  frames = k.frames ∙ h.frames;
  library = k.library ∙ h.library;
  names = omega (arith, h.names, k.names);
  evaluated = λ x e. k.evaluated x (h.evaluated x e);
  kept = λ l e v x. k.kept l e v (h.kept l e v x);
  spent = omega (arith, h.spent, k.spent);
}

-- It grows, and nothing is put down of keywords.
pub record Stays (s t : PlainStage) : Type 0 where
  pub grows : StageGrowth s t
  pub keywords : t.keywords ≡ s.keywords

pub stays_refl : (s : PlainStage) → Stays s s
stays_refl s = record { grows = grows_refl s; keywords = refl }

pub stays_then : (r s t : PlainStage) → Stays r s → Stays s t → Stays r t
stays_then r s t h k = record { grows = grows_then r s t h.grows k.grows; keywords = k.keywords ∙ h.keywords }

-- Evaluations.

stays_left : (s : PlainStage) (t : WorldState) (n : ℕ) → LaterWorld (state_on s) t → Stays s (left_by s t n)
stays_left s t n h = record {
  grows = record { cells = h.cells; frames = refl; library = h.library; names = h.names; evaluated = λ k e. e; kept = λ l e v x. x; spent = omega arith };
  keywords = refl;
}

pub stays_ended : (place : Span) (s : PlainStage) (o : Outcome) → EndsLater (state_on s) o → By Stays s (ended_at place s o)
stays_ended place s (done v t n) h = stays_left s t n h
stays_ended place s (faulted f t n) h = tt
stays_ended place s unfit h = tt

stays_codes : (c : PlainCore) (s : PlainStage) → Stays s (with_codes_of c s)
stays_codes c s = record {
  grows = record { cells = keeps_refl s.cells; frames = refl; library = refl; names = omega arith; evaluated = λ k e. e; kept = λ l e v x. x; spent = omega arith };
  keywords = refl;
}

stays_evaluate : (place : Span) (c : PlainCore) (s : PlainStage) → By Stays s (evaluate place c s)
unfolding evaluate
stays_evaluate place c s =
    by_from Stays stays_then s (with_codes_of c s) (ended_at place (with_codes_of c s) (outcome_of c s)) (stays_codes c s)
    (stays_ended place (with_codes_of c s) (outcome_of c s) (keeps-alone _ c (state_on s) _))

-- Libraries.

pub has_more : (ks ms : List LibName) (k : LibName) → has_library ks k ≡ true → has_library (ks ++ ms) k ≡ true
has_more ks ms k h = list_any-append (same_library k) ks ms ∙ ap (λ b. b || has_library ms k) h

pub has_with : (ks : List LibName) (m k : LibName) → has_library ks k ≡ true → has_library (with_library ks m) k ≡ true
has_with ks m k h = go (has_library ks m)
  where
    go : (b : Bool) → has_library (if b then ks else ks ++ m ∷ []) k ≡ true
    go true = h
    go false = has_more ks (m ∷ []) k h

stays_library_ended : (place : Span) (r : CompiledLibrary) (s : PlainStage) (o : Outcome) → EndsLater (state_on s) o → By Stays s (library_ended place r s o)
stays_library_ended place r s (done v t n) h = record {
  grows = record {
    cells = h.cells;
    frames = refl;
    library = h.library;
    names = h.names;
    evaluated = λ k e. has_with s.evaluated r.name k e;
    kept = λ l e v x. x;
    spent = omega arith;
  };
  keywords = refl;
}
stays_library_ended place r s (faulted f t n) h = tt
stays_library_ended place r s unfit h = tt

stays_library : (place : Span) (r : CompiledLibrary) (s : PlainStage) → By Stays s (evaluate_library place r s)
unfolding evaluate_library
stays_library place r s = stays_library_ended place r s (outcome_of_lines r.run s) (keeps-defined _ r.run (state_on s) _)

stays_wanted : (place : Span) (ks : List LibName) (r : CompiledLibrary) (s : PlainStage) → By Stays s (evaluate_wanted place ks r s)
unfolding evaluate_wanted
stays_wanted place ks r s =
    by_if Stays s (has_library ks r.name) _ _ (by_if Stays s (has_library s.evaluated r.name) _ _ (stays_refl s) (stays_library place r s)) (stays_refl s)

stays_all : (place : Span) (ks : List LibName) (rs : List CompiledLibrary) (s : PlainStage) → By Stays s (evaluate_all place ks rs s)
unfolding evaluate_all
stays_all place ks [] s = stays_refl s
stays_all place ks (r ∷ rs) s = by_after Stays stays_then s (evaluate_wanted place ks r s) (λ _. evaluate_all place ks rs) (stays_wanted place ks r s) (λ _ t. stays_all place ks rs t)

stays_need : (place : Span) (rs : List CompiledLibrary) (c : PlainCore) (s : PlainStage) → By Stays s (need place rs c s)
unfolding need
stays_need place rs c s = by_if Stays s (has_all s.evaluated (libraries_of c)) _ _ (stays_refl s) (stays_all place (wanted rs (libraries_of c)) rs s)

-- Transformers.

stays_only : (place : Span) (v : Value) (s : PlainStage) → By Stays s (transformer_only place v s)
stays_only place v s = by_if Stays s (is_transformer v) _ _ (stays_refl s) tt

pub stays_transformer : (place : Span) (rs : List CompiledLibrary) (c : PlainCore) (s : PlainStage) → By Stays s (transformer place rs c s)
unfolding transformer
stays_transformer place rs c s =
    by_after Stays stays_then s (need place rs c s) (λ _ t. after (evaluate place c t) (λ p. transformer_only place p.0)) (stays_need place rs c s)
    (λ _ t. by_after Stays stays_then t (evaluate place c t) (λ p. transformer_only place p.0) (stays_evaluate place c t) (λ p u. stays_only place p.0 u))

-- What is put down of a keyword whose transformer isn't kept changes nothing of the kept ones.
kept_stays : (ks : List (Label × Keyword)) (l m : Label) (k : Keyword) (e : Option PlainCore) (v : Value) → IsNotKept (keyword_at ks l)
    → keyword_at ks m ≡ Some (keyword.Kept e v) → keyword_at (insert_entry same_label ks l k) m ≡ Some (keyword.Kept e v)
kept_stays [] l m k e v n h = absurd (cc)
kept_stays (x ∷ xs) l m k e v n h = go (same_label l x.0) (kept_stays xs l m k e v) n
  where
    here : (b : Bool) → IsNotKept (Some x.1) → cond b (Some x.1) (keyword_at xs m) ≡ Some (keyword.Kept e v) → cond b (Some k) (keyword_at xs m) ≡ Some (keyword.Kept e v)
    here true not_kept p = absurd (subst IsNotKept p not_kept)
    here false not_kept p = p

    behind : (b : Bool) → (keyword_at xs m ≡ Some (keyword.Kept e v) → keyword_at (insert_entry same_label xs l k) m ≡ Some (keyword.Kept e v))
        → cond b (Some x.1) (keyword_at xs m) ≡ Some (keyword.Kept e v) → cond b (Some x.1) (keyword_at (insert_entry same_label xs l k) m) ≡ Some (keyword.Kept e v)
    behind true rest p = p
    behind false rest p = rest p

    go : (a : Bool) → (IsNotKept (keyword_at xs l) → keyword_at xs m ≡ Some (keyword.Kept e v) → keyword_at (insert_entry same_label xs l k) m ≡ Some (keyword.Kept e v))
        → IsNotKept (cond a (Some x.1) (keyword_at xs l)) → keyword_at (if a then (x.0, k) ∷ xs else x ∷ insert_entry same_label xs l k) m ≡ Some (keyword.Kept e v)
    go true rest not_kept = here (same_label m x.0) not_kept h
    go false rest not_kept = behind (same_label m x.0) (rest not_kept) h

grows_put : (l : Label) (k : Keyword) (s : PlainStage) → IsNotKept (keyword_at s.keywords l) → StageGrowth s (with_keyword l k s)
grows_put l k s n = record {
  cells = keeps_refl s.cells;
  frames = refl;
  library = refl;
  names = omega arith;
  evaluated = λ x e. e;
  kept = λ m e v h. kept_stays s.keywords l m k e v n h;
  spent = omega arith;
}

grows_kept : {B : Type 0} (l : Label) (k : Value → Keyword) (b : Value → B) (s : PlainStage) (r : Result (Value × PlainStage) Fault) → By Stays s r → IsNotKept (keyword_at s.keywords l)
    → GrowsBy s (after r (λ v t. give (b v) (with_keyword l (k v) t)))
grows_kept l k b s (Ok p) h n =
    grows_then s p.1 (with_keyword l (k p.0) p.1) h.grows (grows_put l (k p.0) p.1 (subst (λ ks. IsNotKept (keyword_at ks l)) (sym h.keywords) n))
grows_kept l k b s (Err f) h n = tt

pub begin_grows : (l : Label) (place : Span) (s : PlainStage) → IsNotKept (keyword_at s.keywords l) → GrowsBy s (begin_keyword l place s)
unfolding begin_keyword
begin_grows l place s n = grows_put l (keyword.Waiting place) s n

pub finish_grows : (place : Span) (rs : List CompiledLibrary) (l : Label) (c : PlainCore) (s : PlainStage) → IsNotKept (keyword_at s.keywords l) → GrowsBy s (evaluate_transformer place rs l c s)
unfolding evaluate_transformer
finish_grows place rs l c s n = grows_kept l (λ v. keyword.Kept (Some c) v) (λ v. tt) s (transformer place rs c s) (stays_transformer place rs c s) n

import_grows : (place : Span) (rs : List CompiledLibrary) (l : Label) (e : Option PlainCore) (s : PlainStage) → IsNotKept (keyword_at s.keywords l) → GrowsBy s (import_keyword place rs l e s)
unfolding import_keyword
import_grows place rs l None s n = tt
import_grows place rs l (Some c) s n = grows_kept l (λ v. keyword.Kept None v) (λ v. v) s (transformer place rs c s) (stays_transformer place rs c s) n

pub value_grows : (place : Span) (rs : List CompiledLibrary) (l : Label) (e : Option PlainCore) (s : PlainStage) → GrowsBy s (keyword_value place rs l e s)
unfolding keyword_value
value_grows place rs l e s = go (keyword_at s.keywords l) (λ n. import_grows place rs l e s n)
  where
    go : (o : Option Keyword) → (IsNotKept o → GrowsBy s (import_keyword place rs l e s)) → GrowsBy s (value_in o >>= λ x. value_or place rs l e x s)
    go None imports = imports tt
    go (Some (keyword.Waiting at)) imports = tt
    go (Some (keyword.Kept x v)) imports = grows_refl s

pub variable_grows : (place : Span) (rs : List CompiledLibrary) (l : Label) (e : Option PlainCore) (s : PlainStage) → GrowsBy s (is_variable_transformer place rs l e s)
unfolding is_variable_transformer
variable_grows place rs l e s =
    by_after StageGrowth grows_then s (keyword_value place rs l e s) (λ v. give (is_variable v)) (value_grows place rs l e s) (λ v t. grows_refl t)
