-- Keywords whose uses a transformer expands (R6RS 9 and libraries report 12), on the stage of an expansion.
use Rattle.std.specs.Prelude.{ℕ, List, [], ◌∷◌, ◌++◌, Option, None, Some, Bool, Ok, if◌then◌else◌}
use Rattle.base_data.specs.Act.{after, give, each}
use Rattle.base_data.specs.Named.{Named}
use Rattle.base_data.specs.declared.fault.FaultKind.TheVariants as kind
use Rattle.base_data.specs.declared.name.FrameNo.{FrameNo}
use Rattle.base_data.specs.declared.name.Label.{Label}
use Rattle.base_data.specs.declared.span.Span.{Span}
use Rattle.stx_tree.specs.Tree.{Tree}
use Rattle.core_language.specs.Bindings.{bound_to}
use Rattle.core_language.specs.Core.{PlainCore}
use Rattle.core_language.specs.declared.binding.Binding.{Binding}
use Rattle.core_language.specs.declared.binding.Binding.TheVariants as binding
use Rattle.core_language.specs.declared.record.CompiledLibrary.{CompiledLibrary}
use Rattle.core_shapes.specs.At.{place_of}
use Rattle.core_shapes.specs.Lists.{is_leaf}
use Rattle.core_shapes.specs.declared.shape.BindingSpec.{BindingSpec}
use Rattle.eval_stage.specs.Transformers as stage
use Rattle.eval_stage.specs.Uses.{used}
use Rattle.expand_standing.specs.Binders.{put_row}
use Rattle.expand_standing.specs.State.{Does, on_stage, fresh, fault_form}
use Rattle.expand_standing.specs.declared.binders.BoundSpec.{BoundSpec}

-- the expression of a keyword's record; an own keyword's stands on the stage
abbrev pub macro_expression : Option Binding → Option PlainCore
macro_expression (Some (binding.Macro level e)) = e
macro_expression _ = None

-- what comes of a use, at a place, with the frame of a body where it stands in one
unfoldable pub use_keyword : List CompiledLibrary → Span → Tree → Label → Option FrameNo → Does Tree
use_keyword rs place t l frame s = on_stage (used place rs t l (macro_expression (bound_to s.bindings l)) frame) s

-- whether assignments to a keyword are uses of it
unfoldable pub asks_variable : List CompiledLibrary → Span → Label → Does Bool
asks_variable rs place l s = on_stage (stage.is_variable_transformer place rs l (macro_expression (bound_to s.bindings l))) s

-- Definitions.

abbrev pub put_keyword : Label → ℕ → Does (Unit {0})
put_keyword l level s = Ok (tt, record s { bindings = s.bindings ++ (l, binding.Macro level None) ∷ [] })

-- until its expression was evaluated, the keyword waits for it
abbrev pub bind_keyword_as : FrameNo → Span → ℕ → BindingSpec → Named → Does BoundSpec
bind_keyword_as frame place level b n s =
    after (put_row b.id place frame (record { 0 = n }) s) (λ _ t.
    after (put_keyword (record { 0 = n }) level t) (λ _ u.
    after (on_stage (stage.begin_keyword (record { 0 = n }) (place_of b.init place)) u) (λ _. give (record { label = record { 0 = n }; init = b.init }))))

-- binds an identifier in a frame to a new keyword; a second binder of one identifier is at fault
unfoldable pub bind_keyword : FrameNo → Span → ℕ → BindingSpec → Does BoundSpec
bind_keyword frame place level b s = if is_leaf b.id then after (fresh s) (bind_keyword_as frame place level b) else fault_form kind.BadForm b.id place s

abbrev pub bind_keywords : FrameNo → Span → ℕ → List BindingSpec → Does (List BoundSpec)
bind_keywords frame place level = each (bind_keyword frame place level) []

-- the expression of a keyword, which stands at a place, is evaluated; what it gives is kept
unfoldable pub evaluate_transformer : List CompiledLibrary → Span → Label → PlainCore → Does (Unit {0})
evaluate_transformer rs place l c = on_stage (stage.evaluate_transformer place rs l c)
