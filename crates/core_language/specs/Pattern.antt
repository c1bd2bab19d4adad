-- Patterns as plain data (libraries report 12.4).
use Rattle.std.specs.Prelude.{ℕ, ◌+◌, suc, List, [], ◌∷◌}
use Rattle.base_data.specs.declared.atom.Atom.{Atom}
use Rattle.base_data.specs.declared.name.Label.{Label}
use Rattle.stx_tree.specs.Tree.{Tree}

mutual
  pub data PlainPattern : Type 0 where
    any : PlainPattern
    variable : Label → PlainPattern
    literal : Tree → PlainPattern
    atom : Atom → PlainPattern
    list : PlainPatterns → PlainPattern → PlainPattern
    vector : PlainPatterns → PlainPattern

  -- the patterns of elements; that of an ellipsis takes all elements but those that the patterns after it take
  pub data PlainPatterns : Type 0 where
    none : PlainPatterns
    more : PlainPattern → PlainPatterns → PlainPatterns
    dots : PlainPattern → PlainPatterns → PlainPatterns

-- these patterns, and then further ones
abbrev pub patterns_on : List PlainPattern → PlainPatterns → PlainPatterns
patterns_on [] q = q
patterns_on (p ∷ ps) q = more p (patterns_on ps q)

abbrev pub patterns : List PlainPattern → PlainPatterns
patterns ps = patterns_on ps none

-- more than any part's
abbrev mutual
  pub pattern_size : PlainPattern → ℕ
  pattern_size any = 1
  pattern_size (variable l) = 1
  pattern_size (literal t) = 1
  pattern_size (atom a) = 1
  pattern_size (list ps t) = suc (patterns_size ps + pattern_size t)
  pattern_size (vector ps) = suc (patterns_size ps)

  pub patterns_size : PlainPatterns → ℕ
  patterns_size none = 1
  patterns_size (more p ps) = suc (pattern_size p + patterns_size ps)
  patterns_size (dots p ps) = suc (pattern_size p + patterns_size ps)
