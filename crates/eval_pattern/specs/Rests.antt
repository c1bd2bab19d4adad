-- Lists whose last elements a variable under an ellipsis takes as one tree.
use Rattle.std.specs.Prelude.{◌≡◌, ◌+◌, List, [], ◌∷◌, ◌++◌, map, length, Option, Some, None}
use Rattle.base_data.specs.declared.atom.Atom.TheVariants.{Nil}
use Rattle.base_data.specs.declared.name.Label.{Label}
use Rattle.stx_object.specs.Lengths.{HasElements}
use Rattle.stx_tree.specs.Tree.{Tree, chain, nil, rest_of}
use Rattle.core_language.specs.Pattern as pattern
use Rattle.core_language.specs.Pattern.{PlainPattern, PlainPatterns, patterns_on}
use Rattle.eval_value.specs.Bind.{PlainBind, one, many, turns}
use Rattle.eval_value.specs.declared.value.Value.{Value}
use Rattle.eval_value.specs.declared.value.Value.TheVariants as value
use Rattle.eval_pattern.specs.declared.columns.PatternBinds.{PatternBinds}
use Rattle.eval_pattern.specs.declared.rest.RestBinds.{RestBinds}
use Rattle.eval_pattern.specs.declared.rest.RestMatch.{RestMatch}
use Rattle.eval_pattern.specs.declared.rest.RestMatch.TheVariants as told
use Rattle.eval_pattern.specs.declared.rest.RestPattern.{RestPattern}

-- a variable under an ellipsis, behind all other patterns
abbrev pub ending : Label → PlainPatterns
ending l = pattern.dots (pattern.variable l) pattern.none

abbrev pub rest_pattern : List PlainPattern → Label → PlainPattern
rest_pattern ps l = pattern.list (patterns_on ps (ending l)) (pattern.atom Nil)

abbrev pub IsRestPattern : RestPattern → PlainPattern → Type 0
IsRestPattern r p = p ≡ rest_pattern r.before.now r.label.now

-- what a variable under an ellipsis is bound to that took these trees
abbrev pub all_of : List Tree → PlainBind
all_of xs = many (turns (map (λ x. one (value.Syn x)) xs))

-- a list of these trees, the span at its root aside
abbrev pub IsList : Tree → List Tree → Type 0
IsList t xs = rest_of t ≡ chain xs nil

abbrev pub with_all : RestBinds → List Tree → PatternBinds
with_all r xs = record { binds = r.found.binds ++ (r.label.now, all_of xs) ∷ []; taken = r.found.taken + length xs }

abbrev pub IsTree : Value → Type 0
IsTree v = (t : Tree) × (v ≡ value.Syn t)

-- the variable takes a rest that is a list
abbrev pub Takes : RestMatch → PatternBinds → Label → Value → Type 0
Takes told.Untold found l v = Unit {0}
Takes told.Refused found l v = ⊥
Takes (told.Taken r) found l v = (r.found ≡ found) × (r.label.now ≡ l) × (v ≡ value.Syn r.rest) × HasElements r.count r.rest

abbrev pub Tells : RestMatch → Option PatternBinds → Type 0
Tells told.Untold given = Unit {0}
Tells told.Refused given = given ≡ None
Tells (told.Taken r) given = (xs : List Tree) × (length xs ≡ r.count) × IsList r.rest xs × (given ≡ Some (with_all r xs))
