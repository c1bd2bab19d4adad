-- An invariant that is the same whatever names were taken is kept by evaluations, on stages and by uses.
use Rattle.std.proofs.Common.{ℕ, Bool, List, [], ◌∷◌, Option, None, Some, Result, Ok, Err, refl, arith}
use Rattle.base_data.specs.Elements.{Each}
use Rattle.base_data.specs.declared.fault.Fault.{Fault}
use Rattle.base_data.specs.declared.library.LibName.{LibName}
use Rattle.base_data.specs.declared.name.FrameNo.{FrameNo}
use Rattle.base_data.specs.declared.name.Label.{Label}
use Rattle.base_data.specs.declared.name.Mark.{Mark}
use Rattle.base_data.specs.declared.span.Span.{Span}
use Rattle.base_region.specs.declared.region.Place.{Place}
use Rattle.stx_tree.specs.Tree.{Tree}
use Rattle.stx_tree.specs.declared.change.Change.TheVariants as change
use Rattle.stx_frames.specs.Rows.{Row}
use Rattle.stx_frames.specs.Scope.{Scope}
use Rattle.core_language.specs.Core.{PlainCore}
use Rattle.core_language.specs.declared.record.CompiledLibrary.{CompiledLibrary}
use Rattle.core_language.specs.declared.record.Line.{Line}
use Rattle.eval_value.specs.declared.value.Value.{Value}
use Rattle.eval_code.specs.Lines.{lines_from}
use Rattle.eval_code.specs.Meaning.{eval_of, applied}
use Rattle.eval_code.specs.Setting.{PlainSetting}
use Rattle.eval_code.specs.State.{WorldState, Outcome, done, faulted, unfit}
use Rattle.eval_stage.specs.Stage.{PlainStage}
use Rattle.eval_stage.specs.Transformers.{begin_keyword, evaluate_transformer, is_variable_transformer}
use Rattle.eval_stage.specs.Uses.{used}
use Rattle.law_invariants.specs.Closed.{Wider, Rises}
use Rattle.law_invariants.specs.Holds.{ValuesHold, CoreHolds, LinesHold}
use Rattle.law_invariants.specs.Invariant.{Invariant, OptionHolds}
use Rattle.law_invariants.specs.Outcome.{SettingHolds, StateHolds, OutcomeHolds}
use Rattle.law_invariants.specs.Stages.{RowsHold, mark_of, ExpressionHolds, RecordsHold, StageHolds}
use Rattle.law_invariants.specs.Steady.{IsSteady, SteadyState, SteadyOutcome, SteadyStage}
use Rattle.law_invariants.proofs.Eachs.{each_all}
use Rattle.law_invariants.proofs.Meaning as meaning
use Rattle.law_invariants.proofs.Stages as stages
use Rattle.law_invariants.proofs.Stages.{Runs, IsUsed}

-- what may be any mark, or any frame
abbrev AnyMark : ℕ → Mark → Type 0
AnyMark n m = Unit {0}

abbrev AnyFrame : ℕ → FrameNo → Type 0
AnyFrame n f = Unit {0}

any-rows : (n : ℕ) (fs : Scope) → RowsHold (AnyMark n) fs
any-rows n fs = each_all (λ (e : FrameNo × List Row). Each (λ (r : Row). Each (AnyMark n) r.marks) e.1) (λ e. each_all (λ (r : Row). Each (AnyMark n) r.marks) (λ r. each_all (AnyMark n) (λ m. tt) r.marks) e.1) fs

any-frame : (n : ℕ) (o : Option FrameNo) → OptionHolds (AnyFrame n) o
any-frame n None = tt
any-frame n (Some f) = tt

module _ (I : Invariant) (steady : IsSteady I) where
  abbrev Same : ℕ → Invariant
  Same n = I

  same : Wider I I
  same = record { atoms = λ x h. h; symbols = λ s h. h; texts = λ s h. h; trees = λ t h. h; constants = λ d h. h; clauses = steady.clauses; templates = steady.templates }

  pub rises : (own : LibName) (first : ℕ) → Rises own first Same
  rises own first = record { closed = λ n. steady.closed; later = λ m n le. same; temporaries = λ m n low lt. steady.temporaries (record { library = own; number = m }); code = λ n. steady.code; template = λ n. steady.template }

  -- Evaluations.

  begun : (s : WorldState) → SteadyState I s → StateHolds s.names.library Same s.names.number s
  begun s h = record { up = omega arith; library = refl; cells = h }

  ended : (own : LibName) (m : ℕ) (o : Outcome) → OutcomeHolds own Same m o → SteadyOutcome I o
  ended own m (done v s n) h = (h.0.cells, h.1)
  ended own m (faulted f s n) h = h.cells
  ended own m unfit h = tt

  module _ (w : PlainSetting) (setting : SettingHolds I w) where
    pub holds-eval : (c : PlainCore) (scope : Place) (s : WorldState) (n : ℕ) → CoreHolds I c → SteadyState I s → SteadyOutcome I (eval_of w c scope s n)
    holds-eval c scope s n k h =
        ended s.names.library s.names.number (eval_of w c scope s n)
        (meaning.holds-eval s.names.library s.names.number Same (rises s.names.library s.names.number) w setting c scope s n k (begun s h))

    pub holds-call : (vs : List Value) (s : WorldState) (n : ℕ) → SteadyState I s → ValuesHold I vs → SteadyOutcome I (applied w (eval_of w) vs s n)
    holds-call vs s n h k =
        ended s.names.library s.names.number (applied w (eval_of w) vs s n)
        (meaning.holds-call s.names.library s.names.number Same (rises s.names.library s.names.number) w setting vs s n (begun s h) k)

    pub holds-lines : (ls : List Line) (scope : Place) (s : WorldState) (n : ℕ) → LinesHold I ls → SteadyState I s → SteadyOutcome I (lines_from (eval_of w) ls scope s n)
    holds-lines ls scope s n k h =
        ended s.names.library s.names.number (lines_from (eval_of w) ls scope s n)
        (meaning.holds-lines s.names.library s.names.number Same (rises s.names.library s.names.number) w setting ls scope s n k (begun s h))

  -- Stages.

  runs : (own : LibName) → Runs own AnyMark Same
  runs own = record { rises = rises own 0; known = λ m n x le h. tt }

  is-used : (own : LibName) → IsUsed own AnyMark AnyFrame Same (λ m. Same)
  is-used own = record {
    runs = runs own;
    inside = λ m. runs own;
    there = λ m. same;
    after = λ m n lt. same;
    frames = λ m n f le h. tt;
    entered = λ m t h. steady.changed (change.Enter (mark_of own m) ∷ []) t h;
    left = λ m n f t lt j h. steady.changed (change.Leave (mark_of own m) f ∷ []) t h;
  }

  on-stage : (g : PlainStage) → SteadyStage I g → StageHolds g.names.library AnyMark Same g.names.number g
  on-stage g h = record { up = omega arith; library = refl; frames = any-rows g.names.number g.frames; cells = h.cells; codes = h.codes; globals = h.globals; keywords = h.keywords }

  -- Where it gives a value and a stage, the invariant holds of all on the stage, and this holds of the value.
  abbrev pub GaveStage : {A : Type 0} → (A → Type 0) → Result (A × PlainStage) Fault → Type 0
  GaveStage W (Ok p) = SteadyStage I p.1 × W p.0
  GaveStage W (Err f) = Unit {0}

  gave : {A : Type 0} (W : A → Type 0) (own : LibName) (m : ℕ) (r : Result (A × PlainStage) Fault) → stages.GaveStage own AnyMark Same (runs own) (λ n. W) m r → GaveStage W r
  gave W own m (Ok p) h = (record { cells = h.0.cells; codes = h.0.codes; globals = h.0.globals; keywords = h.0.keywords }, h.1)
  gave W own m (Err f) h = tt

  abbrev pub Done : Unit {0} → Type 0
  Done x = Unit {0}

  abbrev pub Told : Bool → Type 0
  Told x = Unit {0}

  pub begin-holds : (l : Label) (place : Span) (g : PlainStage) → SteadyStage I g → GaveStage Done (begin_keyword l place g)
  begin-holds l place g h =
      gave Done g.names.library g.names.number (begin_keyword l place g) (stages.begin-holds g.names.library AnyMark Same (runs g.names.library) l place g.names.number g (on-stage g h))

  pub finish-holds : (place : Span) (rs : List CompiledLibrary) (l : Label) (c : PlainCore) (g : PlainStage) → SteadyStage I g → RecordsHold I rs → CoreHolds I c → GaveStage Done (evaluate_transformer place rs l c g)
  finish-holds place rs l c g h k j =
      gave Done g.names.library g.names.number (evaluate_transformer place rs l c g) (stages.finish-holds g.names.library AnyMark Same (runs g.names.library) place rs l c g.names.number g (on-stage g h) k j)

  pub asks-holds : (place : Span) (rs : List CompiledLibrary) (l : Label) (e : Option PlainCore) (g : PlainStage) → SteadyStage I g → RecordsHold I rs → ExpressionHolds I e → GaveStage Told (is_variable_transformer place rs l e g)
  asks-holds place rs l e g h k j =
      gave Told g.names.library g.names.number (is_variable_transformer place rs l e g) (stages.asks-holds g.names.library AnyMark Same (runs g.names.library) place rs l e g.names.number g (on-stage g h) k j)

  pub used-holds : (place : Span) (rs : List CompiledLibrary) (t : Tree) (l : Label) (e : Option PlainCore) (f : Option FrameNo) (g : PlainStage) → SteadyStage I g → RecordsHold I rs → ExpressionHolds I e → I.trees t
      → GaveStage I.trees (used place rs t l e f g)
  used-holds place rs t l e f g h k j i =
      gave I.trees g.names.library g.names.number (used place rs t l e f g)
      (stages.used-holds g.names.library AnyMark AnyFrame Same (λ m. Same) (is-used g.names.library) place rs t l e f g.names.number g (on-stage g h) k j i (any-frame g.names.number f))
