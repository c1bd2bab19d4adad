-- Which keywords are kept after an action of the stage: those that were, and at most the one that it is about.
use Rattle.std.proofs.Common.{◌≡◌, List, Option, Some, None, Result, Ok, Err, refl, sym, ap, subst, ◌∙◌, inl, inr}
use Rattle.std.specs.Prelude.{◌⊎◌}
use Rattle.base_data.specs.Act.{after, give}
use Rattle.base_data.specs.Gives.{◌>>=◌}
use Rattle.base_data.specs.declared.fault.Fault.{Fault}
use Rattle.base_data.specs.declared.name.FrameNo.{FrameNo}
use Rattle.base_data.specs.declared.name.Label.{Label}
use Rattle.base_data.specs.declared.span.Span.{Span}
use Rattle.stx_tree.specs.Tree.{Tree}
use Rattle.core_language.specs.Core.{PlainCore}
use Rattle.core_language.specs.declared.record.CompiledLibrary.{CompiledLibrary}
use Rattle.eval_value.specs.declared.value.Value.{Value}
use Rattle.eval_stage.specs.Stage.{PlainStage, keyword_at, with_keyword}
use Rattle.eval_stage.specs.Transformers.{transformer, begin_keyword, evaluate_transformer, value_in, import_keyword, value_or, keyword_value, is_variable, is_variable_transformer}
use Rattle.eval_stage.specs.Uses.{used}
use Rattle.eval_stage.specs.declared.keyword.Keyword.{Keyword}
use Rattle.eval_stage.specs.declared.keyword.Keyword.TheVariants as keyword
use Rattle.law_stage.specs.Grows.{By}
use Rattle.law_stage.proofs.Calling.{uses_drop}
use Rattle.law_stage.proofs.Growing.{Stays, stays_transformer}
use Rattle.law_stuck.proofs.Known.{put, put_same, put_other, label_cases}

abbrev pub KeptFrom : (Label → Type 0) → PlainStage → PlainStage → Type 0
KeptFrom P s t = (m : Label) (e : Option PlainCore) (v : Value) → keyword_at t.keywords m ≡ Some (keyword.Kept e v) → (keyword_at s.keywords m ≡ Some (keyword.Kept e v)) ⊎ P m

-- this label
abbrev pub Is : Label → Label → Type 0
Is l m = m ≡ l

-- this label, where there is an expression
abbrev pub IsWith : Label → Option PlainCore → Label → Type 0
IsWith l None m = ⊥
IsWith l (Some c) m = m ≡ l

kept_put : (l : Label) (k : Keyword) (s t : PlainStage) → t.keywords ≡ s.keywords → KeptFrom (Is l) s (with_keyword l k t)
kept_put l k s t same m e v h = by (label_cases m l)
  where
    by : (m ≡ l) ⊎ (m ≡ l → ⊥) → (keyword_at s.keywords m ≡ Some (keyword.Kept e v)) ⊎ (m ≡ l)
    by (inl is) = inr is
    by (inr other) = inl (ap (λ ks. keyword_at ks m) (sym same) ∙ sym (put_other t.keywords l m k other) ∙ h)

-- a keyword that begins isn't kept
pub begin_keeps : (l : Label) (place : Span) (s : PlainStage) → By (KeptFrom (λ m. ⊥)) s (begin_keyword l place s)
unfolding begin_keyword
begin_keeps l place s m e v h = by (label_cases m l)
  where
    by : (m ≡ l) ⊎ (m ≡ l → ⊥) → (keyword_at s.keywords m ≡ Some (keyword.Kept e v)) ⊎ ⊥
    by (inl is) =
        let bad : Some (keyword.Waiting place) ≡ Some (keyword.Kept e v) = sym (put_same s.keywords l (keyword.Waiting place)) ∙ ap (keyword_at (put s.keywords l (keyword.Waiting place))) (sym is) ∙ h in
        absurd (cc)
    by (inr other) = inl (sym (put_other s.keywords l m (keyword.Waiting place) other) ∙ h)

pub finish_keeps : (place : Span) (rs : List CompiledLibrary) (l : Label) (c : PlainCore) (s : PlainStage) → By (KeptFrom (Is l)) s (evaluate_transformer place rs l c s)
unfolding evaluate_transformer
finish_keeps place rs l c s = by (transformer place rs c s) (stays_transformer place rs c s)
  where
    by : (r : Result (Value × PlainStage) Fault) → By Stays s r → By (KeptFrom (Is l)) s (after r (λ v t. give (tt {0}) (with_keyword l (keyword.Kept (Some c) v) t)))
    by (Ok p) h = kept_put l (keyword.Kept (Some c) p.0) s p.1 h.keywords
    by (Err f) h = tt

import_keeps : (place : Span) (rs : List CompiledLibrary) (l : Label) (e : Option PlainCore) (s : PlainStage) → By (KeptFrom (IsWith l e)) s (import_keyword place rs l e s)
unfolding import_keyword
import_keeps place rs l None s = tt
import_keeps place rs l (Some c) s = by (transformer place rs c s) (stays_transformer place rs c s)
  where
    by : (r : Result (Value × PlainStage) Fault) → By Stays s r → By (KeptFrom (Is l)) s (after r (λ v t. give v (with_keyword l (keyword.Kept None v) t)))
    by (Ok p) h = kept_put l (keyword.Kept None p.0) s p.1 h.keywords
    by (Err f) h = tt

pub value_keeps : (place : Span) (rs : List CompiledLibrary) (l : Label) (e : Option PlainCore) (s : PlainStage) → By (KeptFrom (IsWith l e)) s (keyword_value place rs l e s)
unfolding keyword_value
value_keeps place rs l e s = by (keyword_at s.keywords l)
  where
    by : (o : Option Keyword) → By (KeptFrom (IsWith l e)) s (value_in o >>= λ x. value_or place rs l e x s)
    by None = import_keeps place rs l e s
    by (Some (keyword.Waiting at)) = tt
    by (Some (keyword.Kept x v)) = λ m f w k. inl k

pub asks_keep : (place : Span) (rs : List CompiledLibrary) (l : Label) (e : Option PlainCore) (s : PlainStage) → By (KeptFrom (IsWith l e)) s (is_variable_transformer place rs l e s)
unfolding is_variable_transformer
asks_keep place rs l e s = by (keyword_value place rs l e s) (value_keeps place rs l e s)
  where
    by : (r : Result (Value × PlainStage) Fault) → By (KeptFrom (IsWith l e)) s r → By (KeptFrom (IsWith l e)) s (after r (λ v. give (is_variable v)))
    by (Ok p) h = h
    by (Err f) h = tt

pub use_keeps : (place : Span) (rs : List CompiledLibrary) (form : Tree) (l : Label) (e : Option PlainCore) (frame : Option FrameNo) (s : PlainStage) → By (KeptFrom (IsWith l e)) s (used place rs form l e frame s)
use_keeps place rs form l e frame s = by (used place rs form l e frame s) refl
  where
    by : (r : Result (Tree × PlainStage) Fault) → used place rs form l e frame s ≡ r → By (KeptFrom (IsWith l e)) s r
    by (Err f) is = tt
    by (Ok p) is =
        let c = uses_drop place rs form l e frame s p.1 p.0 is in
        let asked : By (KeptFrom (IsWith l e)) s (Ok (c.value, c.before)) = subst (By (KeptFrom (IsWith l e)) s) c.asked (value_keeps place rs l e s) in
        λ m f v h. asked m f v (ap (λ (x : PlainStage). keyword_at x.keywords m) (sym c.counts) ∙ h)
