-- The pattern of a form (libraries report 12.4), its variables taken from left to right. What is at fault first is the fault.
use Rattle.std.specs.Prelude.{ℕ, ◌+◌, Bool, true, false, List, [], ◌∷◌, ◌++◌, map, Option, None, Some, Result, Ok, Err, if◌then◌else◌}
use Rattle.base_data.specs.Act.{Act, give, after}
use Rattle.base_data.specs.Gives.{◌>>=◌}
use Rattle.base_data.specs.Named.{Named}
use Rattle.base_data.specs.declared.fault.Fault.{Fault}
use Rattle.base_data.specs.declared.fault.FaultKind.TheVariants as kind
use Rattle.base_data.specs.declared.name.Label.{Label}
use Rattle.base_data.specs.declared.span.Span.{Span}
use Rattle.stx_tree.specs.Tree as tree
use Rattle.stx_tree.specs.Tree.{Tree}
use Rattle.stx_frames.specs.Scope.{Scope}
use Rattle.stx_scope.specs.Same.{same_binder}
use Rattle.stx_scope.specs.Stands.{stands}
use Rattle.core_language.specs.Pattern.{PlainPattern, any, variable, literal, atom, list, vector, PlainPatterns, none, dots, patterns, patterns_on}
use Rattle.core_language.specs.declared.core_form.CoreForm.TheVariants as form
use Rattle.core_shapes.specs.At.{fault_at}
use Rattle.core_shapes.specs.Lists.{is_leaf, elements, tail_of}
use Rattle.eval_pattern.specs.Keywords.{is_form, is_ellipsis}
use Rattle.eval_pattern.specs.declared.compile.Compiled.{Compiled}
use Rattle.eval_pattern.specs.declared.compile.PatternContext.{PatternContext}
use Rattle.eval_pattern.specs.declared.compile.PatternParts.{PatternParts}
use Rattle.eval_pattern.specs.declared.compile.PatternVariable.{PatternVariable}

-- what is known round a pattern: frames, the literals, and the place round it
pub record PatternScope : Type 0 where
  pub frames : Scope
  pub literals : List Tree
  pub place : Span

abbrev pub seen : PatternContext → PatternScope
seen c = record { frames = c.frames.now; literals = c.literals.now; place = c.place.now }

-- the variables so far, and the names that are free
abbrev pub TakenVariables : Type 0
TakenVariables = List PatternVariable × Named

abbrev pub bad : Span → Tree → Fault
bad place t = fault_at kind.BadPattern t place []

-- Literals.

abbrev pub is_no_keyword : Option Label → Bool
is_no_keyword o = if is_form form.Ellipsis o then false else (if is_form form.Underscore o then false else true)

-- an identifier, but neither the ellipsis nor the underscore
abbrev pub may_be_literal : Scope → Tree → Bool
may_be_literal fs t = if is_leaf t then is_no_keyword (stands fs t) else false

abbrev pub literals_checked : Scope → Span → List Tree → Result (Unit {0}) Fault
literals_checked fs place [] = Ok tt
literals_checked fs place (t ∷ ts) = if may_be_literal fs t then literals_checked fs place ts else Err (bad place t)

-- one of the literals has the same binder
abbrev pub is_literal : List Tree → Tree → Bool
is_literal [] t = false
is_literal (l ∷ ls) t = if same_binder l t then true else is_literal ls t

-- Identifiers.

abbrev pub is_known : List PatternVariable → Tree → Bool
is_known [] t = false
is_known (v ∷ vs) t = if same_binder v.id t then true else is_known vs t

abbrev pub following : Named → Named
following n = record { library = n.library; number = n.number + 1 }

abbrev pub named : Named → Tree → ℕ → PatternVariable
named n t depth = record { id = t; label = record { 0 = n }; depth = depth }

-- a variable that comes again is the fault at its second place
abbrev pub new_variable : Span → Tree → ℕ → Act TakenVariables PlainPattern
new_variable place t depth s =
    if is_known s.0 t then Err (bad place t)
    else Ok (variable (record { 0 = s.1 }), (s.0 ++ named s.1 t depth ∷ [], following s.1))

-- an ellipsis behind an element never comes here
abbrev pub leaf_pattern : PatternScope → Tree → ℕ → Act TakenVariables PlainPattern
leaf_pattern c t depth s =
    if is_form form.Ellipsis (stands c.frames t) then Err (bad c.place t) else
    (if is_form form.Underscore (stands c.frames t) then Ok (any, s) else
    (if is_literal c.literals t then Ok (literal t, s) else new_variable c.place t depth s))

-- Elements.

abbrev pub no_parts : PatternParts
no_parts = record { before = []; repeated = None; after = [] }

abbrev pub with_part : Option PlainPattern → PatternParts → PlainPattern → PatternParts
with_part None parts p = record parts { before = parts.before ++ p ∷ [] }
with_part (Some r) parts p = record parts { after = parts.after ++ p ∷ [] }

abbrev pub dots_of : Option PlainPattern → List PlainPattern → PlainPatterns
dots_of None after = none
dots_of (Some p) after = dots p (patterns after)

abbrev pub parts_of : PatternParts → PlainPatterns
parts_of parts = patterns_on parts.before (dots_of parts.repeated parts.after)

-- a second ellipsis is the fault
abbrev pub with_repeated : Span → Tree → Option PlainPattern → PatternParts → PlainPattern → Result PatternParts Fault
with_repeated place e None parts p = Ok (record parts { repeated = Some p })
with_repeated place e (Some r) parts p = Err (bad place e)

-- a form with its pattern, by the number of ellipses round it
abbrev pub ElementPattern : Type 0
ElementPattern = Tree × (ℕ → Act TakenVariables PlainPattern)

-- the ellipsis that these begin with
abbrev pub next_ellipsis : Scope → List ElementPattern → Option Tree
next_ellipsis fs [] = None
next_ellipsis fs (x ∷ xs) = if is_ellipsis fs x.0 then Some x.0 else None

-- whether the next element is an ellipsis that was taken with the one before it, and the parts so far
abbrev pub WalkedPatterns : Type 0
WalkedPatterns = Bool × PatternParts

abbrev pub repeated_part : Span → Tree → PatternParts → PlainPattern → Act TakenVariables WalkedPatterns
repeated_part place e parts p s = with_repeated place e parts.repeated parts p >>= λ more. Ok ((true, more), s)

-- The elements of one list or vector, round which so many ellipses stand.
module _ (c : PatternScope) (depth : ℕ) where
  -- an element: with an ellipsis behind it, there is one more round its variables
  abbrev pub element : ElementPattern → Option Tree → PatternParts → Act TakenVariables WalkedPatterns
  element x None parts s = after (x.1 depth s) (λ p s. Ok ((false, with_part parts.repeated parts p), s))
  element x (Some e) parts s = after (x.1 (depth + 1) s) (repeated_part c.place e parts)

  abbrev pub step : Bool → ElementPattern → Option Tree → PatternParts → Act TakenVariables WalkedPatterns
  step true x e parts s = Ok ((false, parts), s)
  step false x e parts s = element x e parts s

  abbrev pub walked : Bool → PatternParts → List ElementPattern → Act TakenVariables PatternParts
  walked skips parts [] s = Ok (parts, s)
  walked skips parts (x ∷ xs) s = after (step skips x (next_ellipsis c.frames xs) parts s) (λ w. walked w.0 w.1 xs)

-- the same by what is known of the forms: how many ellipses stand round an element, where one stands behind it; the forms behind
-- that; and the parts with the element's own
abbrev pub inner_depth : ℕ → Option Tree → ℕ
inner_depth depth None = depth
inner_depth depth (Some e) = depth + 1

abbrev pub behind_ellipsis : Option Tree → List Tree → List Tree
behind_ellipsis None ts = ts
behind_ellipsis (Some e) [] = []
behind_ellipsis (Some e) (t ∷ ts) = ts

abbrev pub added : Span → Option Tree → PatternParts → PlainPattern → Result PatternParts Fault
added place None parts p = Ok (with_part parts.repeated parts p)
added place (Some e) parts p = with_repeated place e parts.repeated parts p

abbrev pub list_with : Act TakenVariables PatternParts → Act TakenVariables PlainPattern → Act TakenVariables PlainPattern
list_with elements tail s = after (elements s) (λ parts s. after (tail s) (λ p s. Ok (list (parts_of parts) p, s)))

abbrev pub vector_with : Act TakenVariables PatternParts → Act TakenVariables PlainPattern
vector_with elements s = after (elements s) (λ parts s. Ok (vector (parts_of parts), s))

-- Forms.

abbrev mutual
  pub pattern : PatternScope → Tree → ℕ → Act TakenVariables PlainPattern
  pattern c (tree.atom s a) depth = give (atom a)
  pattern c (tree.leaf s x k) depth = leaf_pattern c (tree.leaf s x k) depth
  pattern c (tree.pair s a d) depth = list_with (walked c depth false no_parts ((a, pattern c a) ∷ element_patterns c d)) (tail_pattern c d depth)
  pattern c (tree.vector s d) depth = vector_with (walked c depth false no_parts (element_patterns c d))

  -- the elements of a list, each with its pattern
  pub element_patterns : PatternScope → Tree → List ElementPattern
  element_patterns c (tree.atom s a) = []
  element_patterns c (tree.leaf s x k) = []
  element_patterns c (tree.pair s a d) = (a, pattern c a) ∷ element_patterns c d
  element_patterns c (tree.vector s d) = []

  -- the pattern of what ends a list
  pub tail_pattern : PatternScope → Tree → ℕ → Act TakenVariables PlainPattern
  tail_pattern c (tree.atom s a) depth = give (atom a)
  tail_pattern c (tree.leaf s x k) depth = leaf_pattern c (tree.leaf s x k) depth
  tail_pattern c (tree.pair s a d) depth = tail_pattern c d depth
  tail_pattern c (tree.vector s d) depth = vector_with (walked c depth false no_parts (element_patterns c d))

abbrev pub with_pattern : PatternScope → Tree → ElementPattern
with_pattern c t = (t, pattern c t)

-- the parts of the patterns of forms
abbrev pub forms_walked : PatternScope → ℕ → List Tree → Act TakenVariables PatternParts
forms_walked c depth ts = walked c depth false no_parts (map (with_pattern c) ts)

abbrev pub list_pattern : PatternScope → Tree → ℕ → Act TakenVariables PlainPattern
list_pattern c t depth = list_with (forms_walked c depth (elements t)) (pattern c (tail_of t) depth)

abbrev pub vector_pattern : PatternScope → List Tree → ℕ → Act TakenVariables PlainPattern
vector_pattern c ts depth = vector_with (forms_walked c depth ts)

abbrev pub with_variables : Result (PlainPattern × TakenVariables) Fault → Result (Compiled × Named) Fault
with_variables (Ok r) = Ok (record { pattern = r.0; variables = r.1.0 }, r.1.1)
with_variables (Err f) = Err f

-- the literals are looked at first
abbrev pub compiled : PatternScope → Tree → Act Named Compiled
compiled c t names = literals_checked c.frames c.place c.literals >>= λ _. with_variables (pattern c t 0 ([], names))
