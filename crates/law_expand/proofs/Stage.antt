-- What the stage keeps.
use Rattle.std.proofs.Common.{◌≡◌, Bool, true, false, Option, Some, None, Result, Ok, Err, refl, ap, ◌∙◌}
use Rattle.base_data.specs.Act.{after, give}
use Rattle.base_data.specs.declared.fault.Fault.{Fault}
use Rattle.base_data.specs.declared.name.Label.{Label}
use Rattle.core_language.specs.Core.{PlainCore}
use Rattle.core_language.specs.Labels.{same_label}
use Rattle.law_core.proofs.Decisions.{label_decides}
use Rattle.eval_value.specs.declared.value.Value.{Value}
use Rattle.eval_stage.specs.Stage.{PlainStage, keyword_at, with_keyword, expression_in, expression_of}
use Rattle.eval_stage.specs.Transformers.{transformer, evaluate_transformer}
use Rattle.eval_stage.specs.declared.keyword.Keyword.{Keyword}
use Rattle.eval_stage.specs.declared.keyword.Keyword.TheVariants as keyword
use Rattle.law_stage.specs.Grows.{StageGrowth, By, GrowsBy}
use Rattle.law_stage.proofs.Growing.{Stays, stays_transformer, variable_grows}
use Rattle.law_stage.proofs.Calling.{use_grows}
use Rattle.law_expand.specs.Stages.{IsKeptOn, StageLater, EndsLater, EndsKept, StageGrows}
use Rattle.law_expand.proofs.Kept.{found-same, found-other}

-- an expression is that of a keyword that is kept
kept : (s t : PlainStage) → StageGrowth s t → (l : Label) → IsKeptOn l s → IsKeptOn l t
kept s t h l k = by (keyword_at s.keywords l) refl k.1
  where
    by : (o : Option Keyword) → keyword_at s.keywords l ≡ o → expression_in o ≡ Some k.0 → IsKeptOn l t
    by None e x = absurd (cc)
    by (Some (keyword.Waiting place)) e x = absurd (cc)
    by (Some (keyword.Kept c v)) e x = (k.0, ap expression_in (h.kept l c v e) ∙ x)

grown : (s t : PlainStage) → StageGrowth s t → StageLater s t
grown s t h = record { frames = h.frames; library = h.library; up = h.names; kept = kept s t h }

ends : {A : Type 0} (s : PlainStage) (r : Result (A × PlainStage) Fault) → GrowsBy s r → EndsLater s r
ends s (Ok p) h = grown s p.1 h
ends s (Err f) h = tt

-- What is put down of a keyword with its expression.

here : (l : Label) (c : PlainCore) (v : Value) (t : PlainStage) → expression_of l (with_keyword l (keyword.Kept (Some c) v) t) ≡ Some c
here l c v t = ap expression_in (found-same t.keywords l (keyword.Kept (Some c) v))

still : (l m : Label) (c : PlainCore) (v : Value) (t : PlainStage) → IsKeptOn m t → IsKeptOn m (with_keyword l (keyword.Kept (Some c) v) t)
still l m c v t k = by (same_label m l) refl
  where
    by : (b : Bool) → same_label m l ≡ b → IsKeptOn m (with_keyword l (keyword.Kept (Some c) v) t)
    by true e = (c, ap (λ (x : Label). expression_of x (with_keyword l (keyword.Kept (Some c) v) t)) ((label_decides m l).0 e) ∙ here l c v t)
    by false e = (k.0, ap expression_in (found-other t.keywords l m (keyword.Kept (Some c) v) (λ i. let is = (label_decides m l).1 i in absurd (cc))) ∙ k.1)

finished : (l : Label) (c : PlainCore) (s : PlainStage) (r : Result (Value × PlainStage) Fault) → By Stays s r → EndsLater s (after r (λ v t. give (tt {0}) (with_keyword l (keyword.Kept (Some c) v) t)))
finished l c s (Ok p) h = record { frames = h.grows.frames; library = h.grows.library; up = h.grows.names; kept = λ m k. still l m c p.0 p.1 (kept s p.1 h.grows m k) }
finished l c s (Err f) h = tt

keeps : (l : Label) (c : PlainCore) (r : Result (Value × PlainStage) Fault) → EndsKept l (after r (λ v t. give (tt {0}) (with_keyword l (keyword.Kept (Some c) v) t)))
keeps l c (Ok p) = (c, here l c p.0 p.1)
keeps l c (Err f) = tt

pub stage-grows : StageGrows
unfolding evaluate_transformer
stage-grows = record {
  uses = λ place rs t l e frame s. ends s _ (use_grows place rs t l e frame s);
  asks = λ place rs l e s. ends s _ (variable_grows place rs l e s);
  finishes = λ place rs l c s. finished l c s (transformer place rs c s) (stays_transformer place rs c s);
  keeps = λ place rs l c s. keeps l c (transformer place rs c s);
}
