-- Where a form stands, and from which state to which its expansion leads.
use Rattle.std.specs.Prelude.{ℕ, List}
use Rattle.base_data.specs.declared.span.Span.{Span}
use Rattle.expand_standing.specs.State.{State}
use Rattle.expand_heads.specs.declared.taken.Taken.{Taken}
use Rattle.law_references.specs.Noted.{KeywordExpression}

-- the place of a form without a span, and its level (R6RS 7.2), which is 0 at run time
pub record FormPlace : Type 0 where
  pub place : Span
  pub level : ℕ

abbrev pub placed : Span → ℕ → FormPlace
placed place level = record { place = place; level = level }

-- the state before an expansion, the state that it leaves, and what is noted of it
pub record StateChange (A : Type 0) : Type 0 where
  pub before : State
  pub after : State
  pub noted : A

abbrev pub between : {A : Type 0} → State → State → A → StateChange A
between s u x = record { before = s; after = u; noted = x }

-- Of the first pass over a body: what was taken of it before some forms, and the state then; what is taken and the state behind them; and the
-- expressions of the keywords that they bind.
pub record BodyChange : Type 0 where
  pub done : Taken
  pub before : State
  pub end : Taken
  pub after : State
  pub expressions : List KeywordExpression

abbrev pub body_change : Taken → State → Taken → State → List KeywordExpression → BodyChange
body_change done s end u es = record { done = done; before = s; end = end; after = u; expressions = es }
