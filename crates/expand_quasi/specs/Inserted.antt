-- The code of a `quasisyntax` form (libraries report 12.8).
use Rattle.std.specs.Prelude.{ℕ, zero, suc, List, [], ◌∷◌, codes, map, None}
use Rattle.base_data.specs.Act.{after, give, each}
use Rattle.base_data.specs.declared.atom.Atom.TheVariants as atoms
use Rattle.base_data.specs.declared.library.LibName.TheVariants as library
use Rattle.base_data.specs.declared.name.FrameNo.{FrameNo}
use Rattle.base_data.specs.declared.name.Label.{Label}
use Rattle.base_data.specs.declared.name.Name.{Name}
use Rattle.base_data.specs.declared.op.Op.{Op}
use Rattle.base_data.specs.declared.span.Span.{Span}
use Rattle.base_data.specs.declared.op.names.TheConstants as names
use Rattle.stx_tree.specs.Changes.{stamp}
use Rattle.stx_tree.specs.Tree.{Tree, leaf}
use Rattle.core_language.specs.Core.{PlainCore, instance, matching}
use Rattle.core_language.specs.CoreForm.{number}
use Rattle.core_language.specs.CoreView.{clauses}
use Rattle.core_language.specs.Pattern.{PlainPattern}
use Rattle.core_language.specs.Pattern as pattern
use Rattle.core_language.specs.Template.{PlainTemplate}
use Rattle.core_language.specs.declared.code.Clause.{Clause}
use Rattle.core_language.specs.declared.core_form.CoreForm.TheVariants as core_forms
use Rattle.eval_pattern.specs.declared.compile.PatternVariable.{PatternVariable}
use Rattle.core_quasi.specs.QuasiSyntax.{core_mark}
use Rattle.core_quasi.specs.declared.quasi_syntax.Insert.{Insert}
use Rattle.core_quasi.specs.declared.quasi_syntax.QuasiSyntax.{QuasiSyntax}
use Rattle.core_shapes.specs.At.{place_of}
use Rattle.expand_standing.specs.Binders.{put_row}
use Rattle.expand_standing.specs.InScope.{within}
use Rattle.expand_standing.specs.Patterns.{bind_pattern, template_of}
use Rattle.expand_standing.specs.State.{Does, fresh, fresh_frame}
use Rattle.expand_quasi.specs.Filled.{call_of}

-- the identifier that stands for the ellipsis behind splices: no leaf of a program has its mark
abbrev pub dots : Tree
dots = leaf None (codes "...") (record { marks = core_mark 0 ∷ []; stamps = [] })

abbrev pub ellipsis : Label
ellipsis = record { 0 = record { library = library.Core; number = number core_forms.Ellipsis } }

-- Each insert is a pattern variable, whose label is the next name.

abbrev pub variable_of : Insert → Name → PatternVariable
variable_of i n = record { id = i.leaf; label = record { 0 = n }; depth = i.depth }

abbrev pub insert_variable : Insert → Does PatternVariable
insert_variable i s = after (fresh s) (λ n. give (variable_of i n))

abbrev pub insert_variables : List Insert → Does (List PatternVariable)
insert_variables is = each insert_variable [] is

-- Patterns.

abbrev pub nothing_behind : PlainPattern
nothing_behind = pattern.atom atoms.Nil

-- lists whose elements the pattern takes
abbrev pub listed : PlainPattern → PlainPattern
listed p = pattern.list (pattern.dots p pattern.none) nothing_behind

-- under so many ellipses
abbrev pub pattern_under : ℕ → PlainPattern → PlainPattern
pattern_under zero p = p
pattern_under (suc n) p = pattern_under n (listed p)

-- a variable; that of a splice stands under an ellipsis
abbrev pub insert_pattern : PatternVariable → PlainPattern
insert_pattern v = pattern_under v.depth (pattern.variable v.label)

abbrev pub inserts_pattern : List PatternVariable → PlainPattern
inserts_pattern vs = pattern.list (pattern.patterns (map insert_pattern vs)) nothing_behind

-- The code.

-- the number of `list` in the table of names
abbrev pub list_op : Op
list_op = record { 0 = names.LIST }

abbrev pub only_clause : PlainPattern → PlainTemplate → Span → Clause
only_clause p x span = record { pattern = p; fender = None; output = instance x span }

-- the match of the list of these values against the inserts
abbrev pub match_of : List PatternVariable → PlainTemplate → Span → List PlainCore → PlainCore
match_of vs x span cs = matching (call_of list_op cs) (clauses (only_clause (inserts_pattern vs) x span ∷ [])) span

-- the inserts in a frame, and the ellipsis behind them
abbrev pub bind_inserts : FrameNo → Span → ℕ → List PatternVariable → Does (Unit {0})
bind_inserts frame place level vs s = after (bind_pattern frame place level vs s) (λ _. put_row dots place frame ellipsis)

-- The form stands at one place and level.
module _ (place : Span) (level : ℕ) where
  abbrev pub inserted_in : Tree → QuasiSyntax → List PlainCore → FrameNo → Does PlainCore
  inserted_in t q cs frame s =
      after (insert_variables q.inserts s) (λ vs s'.
      after (bind_inserts frame place level vs s') (λ _ s''.
      after (template_of place level (stamp frame q.template) s'') (λ x. give (match_of vs x (place_of t place) cs))))

  -- with inserts, whose expressions have these codes: the variables have a frame, in which the template stands
  unfoldable pub inserted : Tree → QuasiSyntax → List PlainCore → Does PlainCore
  inserted t q cs = within (λ s. after (fresh_frame s) (inserted_in t q cs))

  abbrev pub plain_instance : Tree → QuasiSyntax → Does PlainCore
  plain_instance t q s = after (template_of place level q.template s) (λ x. give (instance x (place_of t place)))

  abbrev pub syntax_code : Tree → QuasiSyntax → List PlainCore → List Insert → Does PlainCore
  syntax_code t q cs [] = plain_instance t q
  syntax_code t q cs (i ∷ is) = inserted t q cs

-- how many nodes of syntax objects the code of a form with these inserts makes: its template is put in a frame once, where there are any
abbrev pub stamps_of : List Insert → ℕ
stamps_of [] = 0
stamps_of (i ∷ is) = 1
