-- What is evaluated on a stage, uses among it, keeps an invariant of all on it.
use Rattle.std.proofs.Common.{◌≡◌, ◌≤◌, ◌<◌, ◌+◌, ℕ, Bool, true, false, List, [], ◌∷◌, length, Option, None, Some, Result, Ok, Err, arith, slice_get, sym, subst, if◌then◌else◌}
use Rattle.base_data.proofs.ElementLemmas.{each-and, each-implied, each-taken}
use Rattle.base_data.specs.Act.{after, give}
use Rattle.base_data.specs.Elements.{Each}
use Rattle.base_data.specs.Gives.{◌>>=◌}
use Rattle.base_data.specs.Named.{Named}
use Rattle.base_data.specs.declared.fault.Fault.{Fault}
use Rattle.base_data.specs.declared.library.LibName.{LibName}
use Rattle.base_data.specs.declared.name.FrameNo.{FrameNo}
use Rattle.base_data.specs.declared.name.Label.{Label}
use Rattle.base_data.specs.declared.name.Mark.{Mark}
use Rattle.base_data.specs.declared.span.Span.{Span}
use Rattle.stx_tree.specs.Changes.{enter, leave}
use Rattle.stx_frames.specs.Rows.{Row}
use Rattle.stx_frames.specs.Scope.{Scope}
use Rattle.stx_tree.specs.Tree.{Tree}
use Rattle.core_language.specs.Core.{PlainCore}
use Rattle.core_language.specs.Labels.{same_label}
use Rattle.core_language.specs.declared.record.CompiledLibrary.{CompiledLibrary}
use Rattle.eval_value.specs.Cells.{transformer_in}
use Rattle.eval_value.specs.ToSyntax.{Reading, to_syntax}
use Rattle.eval_value.specs.declared.value.Value.{Value}
use Rattle.eval_value.specs.declared.value.Value.TheVariants as value
use Rattle.eval_value.specs.declared.cell.Cell.{Cell}
use Rattle.eval_value.specs.declared.cell.Cell.TheVariants as cell
use Rattle.eval_code.specs.Codes.{Codes, with_codes}
use Rattle.eval_code.specs.Lines.{with_lines, defined}
use Rattle.eval_code.specs.State as run
use Rattle.eval_code.specs.State.{Outcome, done, faulted, unfit, next_place, with_cell}
use Rattle.eval_code.specs.Variables.{Entries}
use Rattle.eval_stage.specs.Libraries.{has_library, has_all, wanted, libraries_of}
use Rattle.eval_stage.specs.Running.{setting_on, state_on, left_by, ended_at, with_codes_of, outcome_of, evaluate, outcome_of_call, outcome_of_lines, left_by_library, library_ended, evaluate_library, evaluate_wanted, evaluate_all, need}
use Rattle.eval_stage.specs.Running as running
use Rattle.eval_stage.specs.Stage.{PlainStage, Does, name_after, fresh_mark, keyword_at, with_keyword}
use Rattle.eval_stage.specs.Transformers.{is_variable, is_transformer, transformer_only, transformer, begin_keyword, evaluate_transformer, value_in, import_keyword, value_or, keyword_value, is_variable_transformer}
use Rattle.eval_stage.specs.Uses.{procedure_in, call_procedure, tree_at, read_answer, transform, cut, transform_and_cut, transform_marked, used}
use Rattle.eval_stage.specs.declared.keyword.Keyword.{Keyword}
use Rattle.eval_stage.specs.declared.keyword.Keyword.TheVariants as keyword
use Rattle.eval_stage.specs.Fuel.{most_fuel}
use Rattle.law_invariants.specs.Holds.{ValueHolds, CellHolds, CellsHold, CoreHolds, CodesHold, LinesHold}
use Rattle.law_invariants.specs.Outcome.{SettingHolds, StateHolds, OutcomeHolds}
use Rattle.law_invariants.specs.Closed.{Wider, Rises}
use Rattle.law_invariants.specs.Invariant.{Invariant, OptionHolds}
use Rattle.law_invariants.proofs.Eachs.{each_at}
use Rattle.law_invariants.proofs.Meaning.{holds-eval, holds-call, holds-lines}
use Rattle.law_invariants.proofs.Read.{ReadHolds, read-holds}
use Rattle.law_invariants.proofs.Variables.{looked_up, EntriesHold}
use Rattle.law_invariants.proofs.Wider.{value_wider, cells_wider, core_wider, codes_wider, globals_wider, lines_wider}
use Rattle.law_invariants.specs.Stages.{RowsHold, mark_of, ExpressionHolds, KeywordHolds, KeywordsHold, RecordsHold, StageHolds}
use Rattle.law_invariants.proofs.Codes.{inserted-holds, codes-hold, line-codes, values-in, unset-defined}

row-wider : (K L : Mark → Type 0) → ((m : Mark) → K m → L m) → (rs : List Row) → Each (λ (r : Row). Each K r.marks) rs → Each (λ (r : Row). Each L r.marks) rs
row-wider K L k rs h = each-implied (λ (r : Row). Each K r.marks) (λ (r : Row). Each L r.marks) (λ r j. each-implied K L k r.marks j) rs h

pub rows-wider : (K L : Mark → Type 0) → ((m : Mark) → K m → L m) → (fs : Scope) → RowsHold K fs → RowsHold L fs
rows-wider K L k fs h = each-implied (λ (e : FrameNo × List Row). Each (λ (r : Row). Each K r.marks) e.1) (λ (e : FrameNo × List Row). Each (λ (r : Row). Each L r.marks) e.1) (λ e j. row-wider K L k e.1 j) fs h

pub expression-wider : (I Q : Invariant) → Wider I Q → (e : Option PlainCore) → ExpressionHolds I e → ExpressionHolds Q e
expression-wider I Q k None h = tt
expression-wider I Q k (Some c) h = core_wider I Q k c h

keyword-wider : (I Q : Invariant) → Wider I Q → (x : Keyword) → KeywordHolds I x → KeywordHolds Q x
keyword-wider I Q k (keyword.Waiting place) h = tt
keyword-wider I Q k (keyword.Kept e v) h = (expression-wider I Q k e h.0, value_wider I Q k v h.1)

pub keywords-wider : (I Q : Invariant) → Wider I Q → (ks : List (Label × Keyword)) → KeywordsHold I ks → KeywordsHold Q ks
keywords-wider I Q k ks h = each-implied (λ (x : Label × Keyword). KeywordHolds I x.1) (λ (x : Label × Keyword). KeywordHolds Q x.1) (λ x j. keyword-wider I Q k x.1 j) ks h

pub records-wider : (I Q : Invariant) → Wider I Q → (rs : List CompiledLibrary) → RecordsHold I rs → RecordsHold Q rs
records-wider I Q k rs h = each-implied (λ (r : CompiledLibrary). LinesHold I r.run) (λ (r : CompiledLibrary). LinesHold Q r.run) (λ r j. lines_wider I Q k r.run j) rs h

-- what is asked of an invariant on a stage: that it rises with the names, and of marks of rows that they stay known
pub record Runs (own : LibName) (K : ℕ → Mark → Type 0) (I : ℕ → Invariant) : Type 1 where
  pub rises : Rises own 0 I
  pub known : (m n : ℕ) (x : Mark) → m ≤ n → K m x → K n x

module _ (own : LibName) (K : ℕ → Mark → Type 0) (I : ℕ → Invariant) (alive : Runs own K I) where
  later : (m n : ℕ) → m ≤ n → Wider (I m) (I n)
  later m n le = alive.rises.later m n le

  abbrev pub G : ℕ → PlainStage → Type 0
  G m g = StageHolds own K I m g

  pub stage-less : (m n : ℕ) (g : PlainStage) → m ≤ n → G n g → G m g
  stage-less m n g le h = record { up = omega (arith, le, h.up); library = h.library; frames = h.frames; cells = h.cells; codes = h.codes; globals = h.globals; keywords = h.keywords }

  pub stage-self : (m : ℕ) (g : PlainStage) → G m g → G g.names.number g
  stage-self m g h = record { up = omega arith; library = h.library; frames = h.frames; cells = h.cells; codes = h.codes; globals = h.globals; keywords = h.keywords }

  -- Where it gives a value and a stage, all on the stage may be met, names rise, and this holds of the value then.
  abbrev pub GaveStage : {A : Type 0} → (ℕ → A → Type 0) → ℕ → Result (A × PlainStage) Fault → Type 0
  GaveStage W m (Ok p) = G m p.1 × W p.1.names.number p.0
  GaveStage W m (Err f) = Unit {0}

  pub stage-after : {A B : Type 0} (W : ℕ → A → Type 0) (V : ℕ → B → Type 0) (m : ℕ) (r : Result (A × PlainStage) Fault) (k : A → Does B)
      → GaveStage W m r → ((a : A) (g : PlainStage) → G m g → W g.names.number a → GaveStage V g.names.number (k a g)) → GaveStage V m (after r k)
  stage-after {A} {B} W V m (Ok p) k h next = less (k p.0 p.1) (next p.0 p.1 h.0 h.1)
    where
      less : (r : Result (B × PlainStage) Fault) → GaveStage V p.1.names.number r → GaveStage V m r
      less (Ok q) j = (stage-less m p.1.names.number q.1 h.0.up j.0, j.1)
      less (Err f) j = tt
  stage-after W V m (Err f) k h next = tt

  stage-if : {A : Type 0} (W : ℕ → A → Type 0) (m : ℕ) (b : Bool) (r q : Result (A × PlainStage) Fault) → GaveStage W m r → GaveStage W m q → GaveStage W m (if b then r else q)
  stage-if W m true r q h k = h
  stage-if W m false r q h k = k

  -- Evaluations.

  abbrev pub Done : ℕ → Unit {0} → Type 0
  Done n x = Unit {0}

  abbrev pub IsValue : ℕ → Value → Type 0
  IsValue n v = ValueHolds (I n) v

  abbrev pub WithFuel : ℕ → Value × ℕ → Type 0
  WithFuel n p = ValueHolds (I n) p.0

  abbrev pub IsTree : ℕ → Tree → Type 0
  IsTree n t = (I n).trees t

  -- what an evaluation leaves
  left-holds : (m : ℕ) (g : PlainStage) (new : run.WorldState) (left : ℕ) → G m g → StateHolds own I g.names.number new → G m (left_by g new left)
  left-holds m g new left h k = record {
    up = omega (arith, h.up, k.up);
    library = k.library;
    frames = rows-wider (K g.names.number) (K new.names.number) (λ x j. alive.known g.names.number new.names.number x k.up j) g.frames h.frames;
    cells = k.cells;
    codes = codes_wider (I g.names.number) (I new.names.number) (later g.names.number new.names.number k.up) g.codes h.codes;
    globals = globals_wider (I g.names.number) (I new.names.number) (later g.names.number new.names.number k.up) g.globals h.globals;
    keywords = keywords-wider (I g.names.number) (I new.names.number) (later g.names.number new.names.number k.up) g.keywords h.keywords;
  }

  ended-holds : (place : Span) (m : ℕ) (g : PlainStage) (o : Outcome) → G m g → OutcomeHolds own I g.names.number o → GaveStage WithFuel m (ended_at place g o)
  ended-holds place m g (done v new left) h k = (left-holds m g new left h k.0, k.1)
  ended-holds place m g (faulted f new left) h k = tt
  ended-holds place m g unfit h k = tt

  rises-from : (n : ℕ) → Rises own n I
  rises-from n = record { closed = alive.rises.closed; later = alive.rises.later; temporaries = λ a b low lt. alive.rises.temporaries a b (omega arith) lt; code = alive.rises.code; template = alive.rises.template }

  setting-holds : (m : ℕ) (codes : Codes) (g : PlainStage) → G m g → CodesHold (I g.names.number) codes → SettingHolds (I g.names.number) (setting_on codes g)
  setting-holds m codes g h k = record { codes = k; globals = h.globals }

  state-holds : (m : ℕ) (g : PlainStage) → G m g → StateHolds own I g.names.number (state_on g)
  state-holds m g h = record { up = omega arith; library = h.library; cells = h.cells }

  -- with one more cell of variables
  scope-holds : (m : ℕ) (g : PlainStage) (es : Entries) → G m g → EntriesHold (I g.names.number) es → StateHolds own I g.names.number (with_cell (cell.Scope es None) (state_on g))
  scope-holds m g es h k = record { up = omega arith; library = h.library; cells = each-and (CellHolds (I g.names.number)) g.cells (cell.Scope es None) h.cells k }

  codes-of-holds : (c : PlainCore) (m : ℕ) (g : PlainStage) → G m g → CoreHolds (I g.names.number) c → G m (with_codes_of c g)
  codes-of-holds c m g h k = record { up = h.up; library = h.library; frames = h.frames; cells = h.cells; codes = codes-hold (I g.names.number) (alive.rises.code g.names.number) c g.codes h.codes k; globals = h.globals; keywords = h.keywords }

  evaluate-holds : (place : Span) (c : PlainCore) (m : ℕ) (g : PlainStage) → G m g → CoreHolds (I g.names.number) c → GaveStage WithFuel m (evaluate place c g)
  unfolding evaluate
  evaluate-holds place c m g h k =
      ended-holds place m (with_codes_of c g) (outcome_of c g) (codes-of-holds c m g h k)
      (holds-eval own g.names.number I (rises-from g.names.number) (setting_on (with_codes c g.codes) g) (setting-holds m (with_codes c g.codes) g h (codes-hold (I g.names.number) (alive.rises.code g.names.number) c g.codes h.codes k))
      c (next_place (state_on g)) (with_cell (cell.Scope [] None) (state_on g)) most_fuel k (scope-holds m g [] h tt))

  call-holds : (place : Span) (f x : Value) (m : ℕ) (g : PlainStage) → G m g → ValueHolds (I g.names.number) f → ValueHolds (I g.names.number) x → GaveStage WithFuel m (running.call place f x g)
  unfolding running.call
  call-holds place f x m g h k j =
      ended-holds place m g (outcome_of_call f x g) h
      (holds-call own g.names.number I (rises-from g.names.number) (setting_on g.codes g) (setting-holds m g.codes g h h.codes) (f ∷ x ∷ []) (state_on g) most_fuel (state-holds m g h) (k, (j, tt)))

  -- Libraries.

  library-left : (r : CompiledLibrary) (m : ℕ) (g : PlainStage) (new : run.WorldState) (left : ℕ) → G m g → LinesHold (I g.names.number) r.run → StateHolds own I g.names.number new → G m (left_by_library r g new left)
  library-left r m g new left h k j =
      let up : Wider (I g.names.number) (I new.names.number) = later g.names.number new.names.number j.up in
      record {
        up = omega (arith, h.up, j.up);
        library = j.library;
        frames = rows-wider (K g.names.number) (K new.names.number) (λ x i. alive.known g.names.number new.names.number x j.up i) g.frames h.frames;
        cells = j.cells;
        codes = line-codes (I new.names.number) (alive.rises.code new.names.number) r.run g.codes (codes_wider (I g.names.number) (I new.names.number) up g.codes h.codes) (lines_wider (I g.names.number) (I new.names.number) up r.run k);
        globals = values-in (I new.names.number) (alive.rises.code new.names.number) (slice_get new.cells (length g.cells)) g.globals (globals_wider (I g.names.number) (I new.names.number) up g.globals h.globals) (each_at (CellHolds (I new.names.number)) new.cells (length g.cells) j.cells);
        keywords = keywords-wider (I g.names.number) (I new.names.number) up g.keywords h.keywords;
      }

  library-ends : (place : Span) (r : CompiledLibrary) (m : ℕ) (g : PlainStage) (o : Outcome) → G m g → LinesHold (I g.names.number) r.run → OutcomeHolds own I g.names.number o → GaveStage Done m (library_ended place r g o)
  library-ends place r m g (done v new left) h k j = (library-left r m g new left h k j.0, tt)
  library-ends place r m g (faulted f new left) h k j = tt
  library-ends place r m g unfit h k j = tt

  library-holds : (place : Span) (r : CompiledLibrary) (m : ℕ) (g : PlainStage) → G m g → LinesHold (I g.names.number) r.run → GaveStage Done m (evaluate_library place r g)
  unfolding evaluate_library
  library-holds place r m g h k =
      library-ends place r m g (outcome_of_lines r.run g) h k
      (holds-lines own g.names.number I (rises-from g.names.number) (setting_on (with_lines r.run g.codes) g) (setting-holds m (with_lines r.run g.codes) g h (line-codes (I g.names.number) (alive.rises.code g.names.number) r.run g.codes h.codes k))
      r.run (next_place (state_on g)) (with_cell (cell.Scope (defined r.run) None) (state_on g)) most_fuel k (scope-holds m g (defined r.run) h (unset-defined (I g.names.number) (alive.rises.code g.names.number) r.run)))

  abbrev pub Rs : ℕ → List CompiledLibrary → Type 0
  Rs n rs = RecordsHold (I n) rs

  wanted-holds : (place : Span) (ks : List LibName) (r : CompiledLibrary) (m : ℕ) (g : PlainStage) → G m g → LinesHold (I g.names.number) r.run → GaveStage Done m (evaluate_wanted place ks r g)
  unfolding evaluate_wanted
  wanted-holds place ks r m g h k =
      stage-if Done m (has_library ks r.name) _ (give tt g) (stage-if Done m (has_library g.evaluated r.name) (give tt g) (evaluate_library place r g) (h, tt) (library-holds place r m g h k)) (h, tt)

  all-hold : (place : Span) (ks : List LibName) (rs : List CompiledLibrary) (m : ℕ) (g : PlainStage) → G m g → Rs g.names.number rs → GaveStage Done m (evaluate_all place ks rs g)
  unfolding evaluate_all
  all-hold place ks [] m g h k = (h, tt)
  all-hold place ks (r ∷ rs) m g h k =
      let here = stage-self m g h in
      stage-less-gave m g (after (evaluate_wanted place ks r g) (λ _. evaluate_all place ks rs)) h
      (stage-after Done Done g.names.number (evaluate_wanted place ks r g) (λ _. evaluate_all place ks rs) (wanted-holds place ks r g.names.number g here k.0)
      (λ x t j i. all-hold place ks rs t.names.number t (stage-self g.names.number t j) (records-wider (I g.names.number) (I t.names.number) (later g.names.number t.names.number j.up) rs k.1)))
    where
      stage-less-gave : (m : ℕ) (g : PlainStage) (r : Result (Unit {0} × PlainStage) Fault) → G m g → GaveStage Done g.names.number r → GaveStage Done m r
      stage-less-gave m g (Ok p) h j = (stage-less m g.names.number p.1 h.up j.0, tt)
      stage-less-gave m g (Err f) h j = tt

  need-holds : (place : Span) (rs : List CompiledLibrary) (c : PlainCore) (m : ℕ) (g : PlainStage) → G m g → Rs g.names.number rs → GaveStage Done m (need place rs c g)
  unfolding need
  need-holds place rs c m g h k = stage-if Done m (has_all g.evaluated (libraries_of c)) (give tt g) _ (h, tt) (all-hold place (wanted rs (libraries_of c)) rs m g h k)

  -- Transformers.

  only-holds : (place : Span) (v : Value) (m : ℕ) (g : PlainStage) → G m g → IsValue g.names.number v → GaveStage IsValue m (transformer_only place v g)
  only-holds place v m g h k = stage-if IsValue m (is_transformer v) (give v g) _ (h, k) tt

  transformer-holds : (place : Span) (rs : List CompiledLibrary) (c : PlainCore) (m : ℕ) (g : PlainStage) → G m g → Rs g.names.number rs → CoreHolds (I g.names.number) c → GaveStage IsValue m (transformer place rs c g)
  unfolding transformer
  transformer-holds place rs c m g h k j =
      less (after (need place rs c g) (λ _ t. after (evaluate place c t) (λ p. transformer_only place p.0)))
      (stage-after Done IsValue g.names.number (need place rs c g) (λ _ t. after (evaluate place c t) (λ p. transformer_only place p.0)) (need-holds place rs c g.names.number g (stage-self m g h) k)
      (λ x t i y. stage-after WithFuel IsValue t.names.number (evaluate place c t) (λ p. transformer_only place p.0)
      (evaluate-holds place c t.names.number t (stage-self g.names.number t i) (core_wider (I g.names.number) (I t.names.number) (later g.names.number t.names.number i.up) c j))
      (λ p u a b. only-holds place p.0 u.names.number u (stage-self t.names.number u a) b)))
    where
      less : (r : Result (Value × PlainStage) Fault) → GaveStage IsValue g.names.number r → GaveStage IsValue m r
      less (Ok p) i = (stage-less m g.names.number p.1 h.up i.0, i.1)
      less (Err f) i = tt

  keyword-put : (l : Label) (x : Keyword) (m : ℕ) (g : PlainStage) → G m g → KeywordHolds (I g.names.number) x → G m (with_keyword l x g)
  keyword-put l x m g h k = record {
    up = h.up;
    library = h.library;
    frames = h.frames;
    cells = h.cells;
    codes = h.codes;
    globals = h.globals;
    keywords = inserted-holds (KeywordHolds (I g.names.number)) same_label g.keywords l x h.keywords k;
  }

  pub begin-holds : (l : Label) (place : Span) (m : ℕ) (g : PlainStage) → G m g → GaveStage Done m (begin_keyword l place g)
  unfolding begin_keyword
  begin-holds l place m g h = (keyword-put l (keyword.Waiting place) m g h tt, tt)

  -- from a stage on, a later one holds from an earlier name on
  pub gave-less : {A : Type 0} (W : ℕ → A → Type 0) (m : ℕ) (g : PlainStage) (r : Result (A × PlainStage) Fault) → G m g → GaveStage W g.names.number r → GaveStage W m r
  gave-less W m g (Ok p) h k = (stage-less m g.names.number p.1 h.up k.0, k.1)
  gave-less W m g (Err f) h k = tt

  pub finish-holds : (place : Span) (rs : List CompiledLibrary) (l : Label) (c : PlainCore) (m : ℕ) (g : PlainStage) → G m g → Rs g.names.number rs → CoreHolds (I g.names.number) c → GaveStage Done m (evaluate_transformer place rs l c g)
  unfolding evaluate_transformer
  finish-holds place rs l c m g h k j =
      gave-less Done m g (after (transformer place rs c g) (λ v t. give tt (with_keyword l (keyword.Kept (Some c) v) t))) h
      (stage-after IsValue Done g.names.number (transformer place rs c g) (λ v t. give tt (with_keyword l (keyword.Kept (Some c) v) t)) (transformer-holds place rs c g.names.number g (stage-self m g h) k j)
      (λ v t i x. (keyword-put l (keyword.Kept (Some c) v) t.names.number t (stage-self g.names.number t i) (core_wider (I g.names.number) (I t.names.number) (later g.names.number t.names.number i.up) c j, x), tt)))

  import-holds : (place : Span) (rs : List CompiledLibrary) (l : Label) (e : Option PlainCore) (m : ℕ) (g : PlainStage) → G m g → Rs g.names.number rs → ExpressionHolds (I g.names.number) e → GaveStage IsValue m (import_keyword place rs l e g)
  unfolding import_keyword
  import-holds place rs l None m g h k j = tt
  import-holds place rs l (Some c) m g h k j =
      gave-less IsValue m g (after (transformer place rs c g) (λ v t. give v (with_keyword l (keyword.Kept None v) t))) h
      (stage-after IsValue IsValue g.names.number (transformer place rs c g) (λ v t. give v (with_keyword l (keyword.Kept None v) t)) (transformer-holds place rs c g.names.number g (stage-self m g h) k j)
      (λ v t i x. (keyword-put l (keyword.Kept None v) t.names.number t (stage-self g.names.number t i) (tt, x), x)))

  value-or-holds : (place : Span) (rs : List CompiledLibrary) (l : Label) (e : Option PlainCore) (o : Option Value) (m : ℕ) (g : PlainStage) → G m g → Rs g.names.number rs → ExpressionHolds (I g.names.number) e → OptionHolds (ValueHolds (I g.names.number)) o
      → GaveStage IsValue m (value_or place rs l e o g)
  value-or-holds place rs l e None m g h k j i = import-holds place rs l e m g h k j
  value-or-holds place rs l e (Some v) m g h k j i = (h, i)

  pub value-holds : (place : Span) (rs : List CompiledLibrary) (l : Label) (e : Option PlainCore) (m : ℕ) (g : PlainStage) → G m g → Rs g.names.number rs → ExpressionHolds (I g.names.number) e → GaveStage IsValue m (keyword_value place rs l e g)
  unfolding keyword_value
  value-holds place rs l e m g h k j = by (keyword_at g.keywords l) (looked_up (KeywordHolds (I g.names.number)) (same_label l) g.keywords h.keywords)
    where
      by : (o : Option Keyword) → OptionHolds (KeywordHolds (I g.names.number)) o → GaveStage IsValue m (value_in o >>= λ x. value_or place rs l e x g)
      by None i = value-or-holds place rs l e None m g h k j tt
      by (Some (keyword.Waiting at)) i = tt
      by (Some (keyword.Kept d v)) i = value-or-holds place rs l e (Some v) m g h k j i.1

  abbrev pub Told : ℕ → Bool → Type 0
  Told n b = Unit {0}

  pub asks-holds : (place : Span) (rs : List CompiledLibrary) (l : Label) (e : Option PlainCore) (m : ℕ) (g : PlainStage) → G m g → Rs g.names.number rs → ExpressionHolds (I g.names.number) e → GaveStage Told m (is_variable_transformer place rs l e g)
  unfolding is_variable_transformer
  asks-holds place rs l e m g h k j =
      gave-less Told m g (after (keyword_value place rs l e g) (λ v. give (is_variable v))) h
      (stage-after IsValue Told g.names.number (keyword_value place rs l e g) (λ v. give (is_variable v)) (value-holds place rs l e g.names.number g (stage-self m g h) k j) (λ v t i x. (stage-self g.names.number t i, tt)))

  -- Uses.

  procedure-in-holds : (n : ℕ) (cells : List Cell) (v : Value) → CellsHold (I n) cells → ValueHolds (I n) v → OptionHolds (ValueHolds (I n)) (procedure_in cells v)
  procedure-in-holds n cells (value.Transformer place) h k = by (slice_get cells place.0) (each_at (CellHolds (I n)) cells place.0 h)
    where
      by : (o : Option Cell) → OptionHolds (CellHolds (I n)) o → OptionHolds (ValueHolds (I n)) (transformer_in o)
      by None j = tt
      by (Some (cell.Transformer x)) j = j
      by (Some (cell.Pair x y)) j = tt
      by (Some (cell.Vector xs)) j = tt
      by (Some (cell.Str text)) j = tt
      by (Some (cell.Scope es p)) j = tt
      by (Some (cell.Binds bs p)) j = tt
  procedure-in-holds n cells value.Unspecified h k = k
  procedure-in-holds n cells (value.Atom x) h k = k
  procedure-in-holds n cells (value.Symbol x) h k = k
  procedure-in-holds n cells (value.Pair p) h k = k
  procedure-in-holds n cells (value.Vector p) h k = k
  procedure-in-holds n cells (value.Str p) h k = k
  procedure-in-holds n cells (value.Closure c p) h k = k
  procedure-in-holds n cells (value.Prim op) h k = k
  procedure-in-holds n cells (value.Syn t) h k = k

  called-holds : (place : Span) (t : Tree) (o : Option Value) (m : ℕ) (g : PlainStage) → G m g → IsTree g.names.number t → OptionHolds (ValueHolds (I g.names.number)) o → GaveStage WithFuel m (call_procedure place t o g)
  called-holds place t None m g h k j = tt
  called-holds place t (Some f) m g h k j = call-holds place f (value.Syn t) m g h j k

  tree-at-holds : (place : Span) (m : ℕ) (g : PlainStage) (r : Reading Tree) → G m g → ReadHolds (I g.names.number) r → GaveStage IsTree m (tree_at place g r)
  tree-at-holds place m g (Ok p) h k = (h, k)
  tree-at-holds place m g (Err f) h k = tt

  read-answer-holds : (place : Span) (x : Value × ℕ) (m : ℕ) (g : PlainStage) → G m g → WithFuel g.names.number x → GaveStage IsTree m (read_answer place x g)
  unfolding read_answer
  read-answer-holds place x m g h k = tree-at-holds place m g (to_syntax g.cells x.0 x.1) h (read-holds (I g.names.number) (alive.rises.closed g.names.number) g.cells h.cells x.0 x.1 k)

  transform-holds : (place : Span) (v : Value) (t : Tree) (m : ℕ) (g : PlainStage) → G m g → IsValue g.names.number v → IsTree g.names.number t → GaveStage IsTree m (transform place v t g)
  unfolding transform
  transform-holds place v t m g h k j =
      gave-less IsTree m g (after (call_procedure place t (procedure_in g.cells v) g) (read_answer place)) h
      (stage-after WithFuel IsTree g.names.number (call_procedure place t (procedure_in g.cells v) g) (read_answer place)
      (called-holds place t (procedure_in g.cells v) g.names.number g (stage-self m g h) j (procedure-in-holds g.names.number g.cells v h.cells k))
      (λ x u i y. read-answer-holds place x u.names.number u (stage-self g.names.number u i) y))

  cut-holds : (count m : ℕ) (g : PlainStage) → G m g → G m (cut count g)
  cut-holds count m g h = record { up = h.up; library = h.library; frames = h.frames; cells = each-taken (CellHolds (I g.names.number)) count g.cells h.cells; codes = h.codes; globals = h.globals; keywords = h.keywords }

  pub transformed-holds : (place : Span) (v : Value) (t : Tree) (m : ℕ) (g : PlainStage) → G m g → IsValue g.names.number v → IsTree g.names.number t → GaveStage IsTree m (transform_and_cut place v t g)
  unfolding transform_and_cut
  transformed-holds place v t m g h k j =
      gave-less IsTree m g (after (transform place v t g) (λ u new. give u (cut (length g.cells) new))) h
      (stage-after IsTree IsTree g.names.number (transform place v t g) (λ u new. give u (cut (length g.cells) new)) (transform-holds place v t g.names.number g (stage-self m g h) k j)
      (λ u new i x. (cut-holds (length g.cells) new.names.number new (stage-self g.names.number new i), x)))

  -- with names taken
  pub renamed-stage : (m : ℕ) (g : PlainStage) (n : Named) → G m g → n.library ≡ own → g.names.number ≤ n.number → G m (record g { names = n })
  renamed-stage m g n h e le = record {
    up = omega (arith, h.up, le);
    library = e;
    frames = rows-wider (K g.names.number) (K n.number) (λ x i. alive.known g.names.number n.number x le i) g.frames h.frames;
    cells = cells_wider (I g.names.number) (I n.number) (later g.names.number n.number le) g.cells h.cells;
    codes = codes_wider (I g.names.number) (I n.number) (later g.names.number n.number le) g.codes h.codes;
    globals = globals_wider (I g.names.number) (I n.number) (later g.names.number n.number le) g.globals h.globals;
    keywords = keywords-wider (I g.names.number) (I n.number) (later g.names.number n.number le) g.keywords h.keywords;
  }

  pub next-holds : (m : ℕ) (g : PlainStage) → G m g → G m (record g { names = name_after g.names })
  next-holds m g h = renamed-stage m g (name_after g.names) h h.library (omega arith)

-- What is asked where a keyword is used: while its transformer runs an inner invariant holds, which may speak of the mark of the use. What held
-- before holds inside, and what holds inside holds after it; a tree is entered with the mark, and left with it.
pub record IsUsed (own : LibName) (K : ℕ → Mark → Type 0) (J : ℕ → FrameNo → Type 0) (I : ℕ → Invariant) (inner : ℕ → ℕ → Invariant) : Type 1 where
  pub runs : Runs own K I
  pub inside : (m : ℕ) → Runs own K (inner m)
  pub there : (m : ℕ) → Wider (I m) (inner m (m + 1))
  pub after : (m n : ℕ) → m < n → Wider (inner m n) (I n)
  pub frames : (m n : ℕ) (f : FrameNo) → m ≤ n → J m f → J n f
  pub entered : (m : ℕ) (t : Tree) → (I m).trees t → (inner m (m + 1)).trees (enter (mark_of own m) t)
  pub left : (m n : ℕ) (f : Option FrameNo) (t : Tree) → m < n → OptionHolds (J n) f → (inner m n).trees t → (I n).trees (leave (mark_of own m) f t)

module _ (own : LibName) (K : ℕ → Mark → Type 0) (J : ℕ → FrameNo → Type 0) (I : ℕ → Invariant) (inner : ℕ → ℕ → Invariant) (is : IsUsed own K J I inner) where
  begins-in : (low : ℕ) (g : PlainStage) → G own K I is.runs low g → G own K (inner g.names.number) (is.inside g.names.number) (g.names.number + 1) (record g { names = name_after g.names })
  begins-in low g h =
      let n = g.names.number in
      let there : Wider (I n) (inner n (n + 1)) = is.there n in
      record {
        up = omega arith;
        library = h.library;
        frames = rows-wider (K n) (K (n + 1)) (λ x i. is.runs.known n (n + 1) x (omega arith) i) g.frames h.frames;
        cells = cells_wider (I n) (inner n (n + 1)) there g.cells h.cells;
        codes = codes_wider (I n) (inner n (n + 1)) there g.codes h.codes;
        globals = globals_wider (I n) (inner n (n + 1)) there g.globals h.globals;
        keywords = keywords-wider (I n) (inner n (n + 1)) there g.keywords h.keywords;
      }

  ends-in : (m low : ℕ) (g : PlainStage) → m < low → G own K (inner m) (is.inside m) low g → G own K I is.runs low g
  ends-in m low g lt h =
      let n = g.names.number in
      let up = h.up in
      let out : Wider (inner m n) (I n) = is.after m n (omega (arith, lt, up)) in
      record {
        up = h.up;
        library = h.library;
        frames = h.frames;
        cells = cells_wider (inner m n) (I n) out g.cells h.cells;
        codes = codes_wider (inner m n) (I n) out g.codes h.codes;
        globals = globals_wider (inner m n) (I n) out g.globals h.globals;
        keywords = keywords-wider (inner m n) (I n) out g.keywords h.keywords;
      }

  abbrev T : ℕ → Tree → Type 0
  T n t = (I n).trees t

  frame-up : (m n : ℕ) (f : Option FrameNo) → m ≤ n → OptionHolds (J m) f → OptionHolds (J n) f
  frame-up m n None le h = tt
  frame-up m n (Some f) le h = is.frames m n f le h

  left-in : (m : ℕ) (f : Option FrameNo) (r : Result (Tree × PlainStage) Fault) → OptionHolds (J (m + 1)) f → GaveStage own K (inner m) (is.inside m) (λ n t. (inner m n).trees t) (m + 1) r
      → GaveStage own K I is.runs T (m + 1) (after r (λ u. give (leave (mark_of own m) f u)))
  left-in m f (Ok p) j h =
      let up = h.0.up in
      (ends-in m (m + 1) p.1 (omega arith) h.0, is.left m p.1.names.number f p.0 (omega (arith, up)) (frame-up (m + 1) p.1.names.number f up j) h.1)
  left-in m f (Err e) j h = tt

  marked-holds : (place : Span) (v : Value) (t : Tree) (f : Option FrameNo) (low : ℕ) (g : PlainStage) → G own K I is.runs low g → ValueHolds (I g.names.number) v → T g.names.number t → OptionHolds (J (g.names.number + 1)) f
      → GaveStage own K I is.runs T (g.names.number + 1) (transform_marked place v t f (mark_of own g.names.number) (record g { names = name_after g.names }))
  unfolding transform_marked
  marked-holds place v t f low g h k i q =
      let m = g.names.number in
      let next : PlainStage = record g { names = name_after g.names } in
      left-in m f (transform_and_cut place v (enter (mark_of own m) t) next) q
      (transformed-holds own K (inner m) (is.inside m) place v (enter (mark_of own m) t) (m + 1) next (begins-in low g h) (value_wider (I m) (inner m (m + 1)) (is.there m) v k) (is.entered m t i))

  -- the next name is one of the library
  marked-next : (place : Span) (v : Value) (t : Tree) (f : Option FrameNo) (low : ℕ) (g : PlainStage) → G own K I is.runs low g → ValueHolds (I g.names.number) v → T g.names.number t → OptionHolds (J (g.names.number + 1)) f
      → GaveStage own K I is.runs T (g.names.number + 1) (transform_marked place v t f (record { 0 = g.names }) (record g { names = name_after g.names }))
  marked-next place v t f low g h k i q =
      subst (λ (l : LibName). GaveStage own K I is.runs T (g.names.number + 1) (transform_marked place v t f (record { 0 = record { library = l; number = g.names.number } }) (record g { names = name_after g.names })))
      (sym h.library) (marked-holds place v t f low g h k i q)

  pub used-holds : (place : Span) (rs : List CompiledLibrary) (t : Tree) (l : Label) (e : Option PlainCore) (f : Option FrameNo) (m : ℕ) (g : PlainStage) → G own K I is.runs m g → RecordsHold (I g.names.number) rs → ExpressionHolds (I g.names.number) e → T g.names.number t → OptionHolds (J g.names.number) f
      → GaveStage own K I is.runs T m (used place rs t l e f g)
  unfolding used
  used-holds place rs t l e f m g h k j i q =
      gave-less own K I is.runs T m g (after (keyword_value place rs l e g) (λ v u. after (fresh_mark u) (transform_marked place v t f))) h
      (stage-after own K I is.runs (IsValue own K I is.runs) T g.names.number (keyword_value place rs l e g) (λ v u. after (fresh_mark u) (transform_marked place v t f)) (value-holds own K I is.runs place rs l e g.names.number g (stage-self own K I is.runs m g h) k j)
      (λ v u a b.
      let n = u.names.number in
      less n (transform_marked place v t f (record { 0 = u.names }) (record u { names = name_after u.names }))
      (marked-next place v t f g.names.number u a b ((is.runs.rises.later g.names.number n a.up).trees t i) (let up = a.up in frame-up g.names.number (n + 1) f (omega (arith, up)) q))))
    where
      less : (n : ℕ) (r : Result (Tree × PlainStage) Fault) → GaveStage own K I is.runs T (n + 1) r → GaveStage own K I is.runs T n r
      less n (Ok p) x = (stage-less own K I is.runs n (n + 1) p.1 (omega arith) x.0, x.1)
      less n (Err e) x = tt
