-- Where a form stands.
use Rattle.std.specs.Prelude.{ℕ, ◌+◌, refl}
use Rattle.std.specs.Coded.{Coded, code_by, coded×, coded_ℕ}
use Rattle.base_data.specs.contracts.span.Span as spans
use Rattle.base_data.specs.declared.span.Span.{Span}
use Rattle.expand_heads.specs.Depth.{deeper}
use Rattle.expand_heads.specs.declared.taken.BodyAt.{BodyAt}
use Rattle.expand_heads.specs.declared.taken.Waiting.{Waiting}

-- the place of a form without a span; its level (R6RS 7.2), which is 0 at run time; the number of core forms and applications round it
pub record Site : Type 0 where
  pub place : Span
  pub level : ℕ
  pub depth : ℕ

abbrev pub site_code : Coded Site
site_code = code_by (Span × (ℕ × ℕ)) (coded× spans.the_row.coded (coded× coded_ℕ coded_ℕ)) (λ s. (s.place, (s.level, s.depth)))
    (λ p. record { place = p.0; level = p.1.0; depth = p.1.1 }) (λ _. refl)

abbrev pub site_at : Span → ℕ → ℕ → Site
site_at place level depth = record { place = place; level = level; depth = depth }

-- what lies in a form is one deeper
abbrev pub one_deeper : Site → Site
one_deeper site = record site { depth = deeper site.depth }

-- the expression of a keyword is one level up
abbrev pub one_up : Site → Site
one_up site = record site { level = site.level + 1 }

-- what comes of a use has the place of the use
abbrev pub at_place : Span → Site → Site
at_place place site = record site { place = place }

-- what has its own depth
abbrev pub at_depth : ℕ → Site → Site
at_depth depth site = record site { depth = depth }

-- a form of a body
abbrev pub site_in : BodyAt → ℕ → Site
site_in at depth = site_at at.place at.level depth

-- a form that has waited, in a body of this level
abbrev pub site_of : ℕ → Waiting → Site
site_of level w = site_at w.place level w.depth

-- a form that no form stands round
abbrev pub outermost : Span → ℕ → Site
outermost place level = site_at place level 0
