-- How many levels code has, and that nothing higher than its room has a spelling.
use Rattle.std.proofs.Common.{◌≡◌}
use Rattle.std.specs.Prelude.{ℕ, suc, ◌≤◌, max, true}
use Rattle.base_bytes.specs.Codec.{Codec}
use Rattle.core_codec.specs.Code.{pattern, template, core}
use Rattle.core_language.specs.Core as c
use Rattle.core_language.specs.Core.{PlainCore, PlainCores, PlainInits, PlainCases, PlainClauses}
use Rattle.core_language.specs.Pattern as p
use Rattle.core_language.specs.Pattern.{PlainPattern, PlainPatterns}
use Rattle.core_language.specs.Template as m
use Rattle.core_language.specs.Template.{PlainTemplate, PlainItems}

-- Levels: a list or vector has one more than the highest of its parts, and all else has one.

abbrev mutual
  pub pattern_levels : PlainPattern → ℕ
  pattern_levels p.any = 1
  pattern_levels (p.variable l) = 1
  pattern_levels (p.literal t) = 1
  pattern_levels (p.atom a) = 1
  pattern_levels (p.list xs x) = suc (max (patterns_levels xs) (pattern_levels x))
  pattern_levels (p.vector xs) = suc (patterns_levels xs)

  -- the highest of some patterns
  pub patterns_levels : PlainPatterns → ℕ
  patterns_levels p.none = 0
  patterns_levels (p.more x xs) = max (pattern_levels x) (patterns_levels xs)
  patterns_levels (p.dots x xs) = max (pattern_levels x) (patterns_levels xs)

abbrev mutual
  pub template_levels : PlainTemplate → ℕ
  template_levels (m.variable l depth) = 1
  template_levels (m.constant t) = 1
  template_levels (m.list xs x) = suc (max (items_levels xs) (template_levels x))
  template_levels (m.vector xs) = suc (items_levels xs)

  -- the highest of some items
  pub items_levels : PlainItems → ℕ
  items_levels m.none = 0
  items_levels (m.more x ellipses xs) = max (template_levels x) (items_levels xs)

-- Core code has one level more than the highest of the core expressions in it. Those of a template, a pattern or a constant are no core
-- expressions.
abbrev mutual
  pub core_levels : PlainCore → ℕ
  core_levels (c.quoted d) = 1
  core_levels (c.variable l) = 1
  core_levels (c.primitive o) = 1
  core_levels (c.one_armed x y) = suc (max (core_levels x) (core_levels y))
  core_levels (c.two_armed x y z) = suc (max (core_levels x) (max (core_levels y) (core_levels z)))
  core_levels (c.assignment l x) = suc (core_levels x)
  core_levels (c.sequence xs) = suc (cores_levels xs)
  core_levels (c.procedure n xs plain) = suc (cases_levels xs)
  core_levels (c.letrec star is x) = suc (max (inits_levels is) (core_levels x))
  core_levels (c.call x xs) = suc (max (core_levels x) (cores_levels xs))
  core_levels (c.instance t s) = 1
  core_levels (c.matching x xs s) = suc (max (core_levels x) (clauses_levels xs))

  pub cores_levels : PlainCores → ℕ
  cores_levels c.none = 0
  cores_levels (c.more x xs) = max (core_levels x) (cores_levels xs)

  pub inits_levels : PlainInits → ℕ
  inits_levels c.no_init = 0
  inits_levels (c.init l x is) = max (core_levels x) (inits_levels is)

  pub cases_levels : PlainCases → ℕ
  cases_levels c.no_case = 0
  cases_levels (c.case f x xs) = max (core_levels x) (cases_levels xs)

  pub clauses_levels : PlainClauses → ℕ
  clauses_levels c.no_clause = 0
  clauses_levels (c.clause q x xs) = max (core_levels x) (clauses_levels xs)
  clauses_levels (c.fended q f x xs) = max (core_levels f) (max (core_levels x) (clauses_levels xs))

-- What has a spelling is no higher than its room. And where a room is enough, no larger one makes a difference.
pub record IsBounded (A : Type 0) (levels : A → ℕ) (codec : ℕ → Codec A) : Type 0 where
  pub within : (room : ℕ) (x : A) → (codec room).fits x ≡ true → levels x ≤ room
  pub enough : (room other : ℕ) (x : A) → levels x ≤ room → room ≤ other → (codec room).fits x ≡ (codec other).fits x

abbrev pub PatternsAreBounded : Type 0
PatternsAreBounded = IsBounded PlainPattern pattern_levels pattern

abbrev pub TemplatesAreBounded : Type 0
TemplatesAreBounded = IsBounded PlainTemplate template_levels template

abbrev pub CoreIsBounded : Type 0
CoreIsBounded = IsBounded PlainCore core_levels core
