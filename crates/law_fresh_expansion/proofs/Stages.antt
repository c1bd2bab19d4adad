-- What is done on a stage, uses among it, keeps that all on it may be met.
use Rattle.std.proofs.Common.{◌≡◌, ◌≤◌, ◌+◌, ℕ, Bool, List, Option, Result, arith}
use Rattle.base_data.specs.Named.{Named}
use Rattle.base_data.specs.declared.fault.Fault.{Fault}
use Rattle.base_data.specs.declared.library.LibName.{LibName}
use Rattle.base_data.specs.declared.name.FrameNo.{FrameNo}
use Rattle.base_data.specs.declared.name.Label.{Label}
use Rattle.base_data.specs.declared.name.Mark.{Mark}
use Rattle.base_data.specs.declared.span.Span.{Span}
use Rattle.stx_tree.specs.Context.{LeafContext}
use Rattle.stx_tree.specs.Tree.{Tree}
use Rattle.core_language.specs.Core.{PlainCore}
use Rattle.core_language.specs.declared.record.CompiledLibrary.{CompiledLibrary}
use Rattle.eval_value.specs.declared.value.Value.{Value}
use Rattle.eval_stage.specs.Stage.{PlainStage, name_after}
use Rattle.eval_stage.specs.Transformers.{begin_keyword, evaluate_transformer, keyword_value, is_variable_transformer}
use Rattle.eval_stage.specs.Uses.{used}
use Rattle.law_invariants.specs.Invariant.{Invariant}
use Rattle.law_invariants.proofs.Stages as stages
use Rattle.law_invariants.proofs.Stages.{Runs, IsUsed}
use Rattle.law_fresh.specs.Leaves.{OptionHolds, TreeHolds, ValueHolds, CoreHolds, leaves}
use Rattle.law_fresh.proofs.Closed.{leaves-rise}
use Rattle.law_fresh.proofs.Wider.{leaves_wider}
use Rattle.law_fresh_expansion.specs.Living.{Lives}
use Rattle.law_fresh_expansion.specs.States.{ExpressionHolds, RecordsHold, StageHolds}
use Rattle.law_fresh_expansion.proofs.Changing.{In, in-rises, there-in, out-of, enter-holds, leave-holds}

module _ (own : LibName) (K : ℕ → Mark → Type 0) (J : ℕ → FrameNo → Type 0) (P : ℕ → LeafContext → Type 0) (lives : Lives own K J P) where
  abbrev I : ℕ → Invariant
  I n = leaves (P n)

  abbrev Inner : ℕ → ℕ → Invariant
  Inner m n = leaves (In own K J P lives m n)

  pub running : Runs own K I
  running = record { rises = leaves-rise own 0 P lives.rises; known = lives.known }

  -- while the transformer of a use runs, there is on the stage what may be met in it
  in-use : IsUsed own K J I Inner
  in-use = record {
    runs = running;
    inside = λ m. record { rises = leaves-rise own 0 (In own K J P lives m) (in-rises own K J P lives m); known = lives.known };
    there = λ m. leaves_wider (P m) (In own K J P lives m (m + 1)) (there-in own K J P lives m (m + 1) (omega arith));
    after = λ m n lt. leaves_wider (In own K J P lives m n) (P n) (out-of own K J P lives m n lt);
    frames = lives.frames;
    entered = λ m t h. enter-holds own K J P lives m (m + 1) t (omega arith) h;
    left = λ m n f t lt j h. leave-holds own K J P lives m n f t lt j h;
  }

  abbrev G : ℕ → PlainStage → Type 0
  G m g = StageHolds own K P m g

  abbrev pub GaveStage : {A : Type 0} → (ℕ → A → Type 0) → ℕ → Result (A × PlainStage) Fault → Type 0
  GaveStage W m r = stages.GaveStage own K I running W m r

  abbrev pub Done : ℕ → Unit {0} → Type 0
  Done n x = Unit {0}

  abbrev pub Told : ℕ → Bool → Type 0
  Told n b = Unit {0}

  abbrev pub IsValue : ℕ → Value → Type 0
  IsValue n v = ValueHolds (P n) v

  abbrev pub IsTree : ℕ → Tree → Type 0
  IsTree n t = TreeHolds (P n) t

  abbrev Rs : ℕ → List CompiledLibrary → Type 0
  Rs n rs = RecordsHold (P n) rs

  pub stage-less : (m n : ℕ) (g : PlainStage) → m ≤ n → G n g → G m g
  stage-less m n g le h = stages.stage-less own K I running m n g le h

  pub stage-self : (m : ℕ) (g : PlainStage) → G m g → G g.names.number g
  stage-self m g h = stages.stage-self own K I running m g h

  pub renamed-stage : (m : ℕ) (g : PlainStage) (n : Named) → G m g → n.library ≡ own → g.names.number ≤ n.number → G m (record g { names = n })
  renamed-stage m g n h e le = stages.renamed-stage own K I running m g n h e le

  pub next-holds : (m : ℕ) (g : PlainStage) → G m g → G m (record g { names = name_after g.names })
  next-holds m g h = stages.next-holds own K I running m g h

  pub value-holds : (place : Span) (rs : List CompiledLibrary) (l : Label) (e : Option PlainCore) (m : ℕ) (g : PlainStage) → G m g → Rs g.names.number rs → ExpressionHolds (P g.names.number) e → GaveStage IsValue m (keyword_value place rs l e g)
  value-holds place rs l e m g h k j = stages.value-holds own K I running place rs l e m g h k j

  pub asks-holds : (place : Span) (rs : List CompiledLibrary) (l : Label) (e : Option PlainCore) (m : ℕ) (g : PlainStage) → G m g → Rs g.names.number rs → ExpressionHolds (P g.names.number) e → GaveStage Told m (is_variable_transformer place rs l e g)
  asks-holds place rs l e m g h k j = stages.asks-holds own K I running place rs l e m g h k j

  pub begin-holds : (l : Label) (place : Span) (m : ℕ) (g : PlainStage) → G m g → GaveStage Done m (begin_keyword l place g)
  begin-holds l place m g h = stages.begin-holds own K I running l place m g h

  pub finish-holds : (place : Span) (rs : List CompiledLibrary) (l : Label) (c : PlainCore) (m : ℕ) (g : PlainStage) → G m g → Rs g.names.number rs → CoreHolds (P g.names.number) c → GaveStage Done m (evaluate_transformer place rs l c g)
  finish-holds place rs l c m g h k j = stages.finish-holds own K I running place rs l c m g h k j

  pub used-holds : (place : Span) (rs : List CompiledLibrary) (t : Tree) (l : Label) (e : Option PlainCore) (f : Option FrameNo) (m : ℕ) (g : PlainStage) → G m g → Rs g.names.number rs → ExpressionHolds (P g.names.number) e → IsTree g.names.number t → OptionHolds (J g.names.number) f
      → GaveStage IsTree m (used place rs t l e f g)
  used-holds place rs t l e f m g h k j i q = stages.used-holds own K J I Inner in-use place rs t l e f m g h k j i q
