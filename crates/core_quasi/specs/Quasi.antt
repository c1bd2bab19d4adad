-- What `(quasiquote TEMPLATE)` comes to (R6RS 11.17). A part that holds no unquote of its level is a constant.
use Rattle.std.specs.Prelude.{◌≡◌, ℕ, ◌-◌, Bool, true, false, ◌&&◌, List, [], ◌∷◌, ◌++◌, length, take, drop, map, Option, None, Some, Result, Ok, Err, if◌then◌else◌}
use Rattle.base_data.specs.Gives.{◌>>=◌}
use Rattle.base_data.specs.declared.fault.Bare.{Bare}
use Rattle.base_data.specs.declared.fault.BareStop.{BareStop}
use Rattle.base_data.specs.declared.fault.BareStop.TheVariants as bare_stop
use Rattle.base_data.specs.declared.fault.Fault.{Fault}
use Rattle.base_data.specs.declared.fault.Stop.{Stop}
use Rattle.base_data.specs.declared.fault.Stop.TheVariants as stop
use Rattle.base_data.specs.declared.span.Span.{Span}
use Rattle.stx_tree.specs.Tree.{Tree, atom, leaf, pair, vector, nil}
use Rattle.core_shapes.specs.At.{place_of}
use Rattle.core_shapes.specs.Lists.{is_nil, tail_of}
use Rattle.core_quasi.specs.Words.{WordOf, inner, reach}
use Rattle.core_quasi.specs.Parts.{bad, rest_at, splits, taken_at, first_word, operand_of}
use Rattle.core_quasi.specs.Plan.{PlainQuasi, constant, expression, call, quasis}
use Rattle.core_quasi.specs.declared.maker.Maker.TheVariants as maker
use Rattle.core_quasi.specs.declared.parts.QuasiTaken.{QuasiTaken}
use Rattle.core_quasi.specs.declared.parts.QuasiTaken.TheVariants as taken
use Rattle.core_quasi.specs.declared.quasi.Pieces.{Pieces}
use Rattle.core_quasi.specs.declared.quasi.Begun.{Begun}
use Rattle.core_quasi.specs.declared.quasi.Begun.TheVariants as begun
use Rattle.core_quasi.specs.declared.word.Reach.{Reach}
use Rattle.core_quasi.specs.declared.word.Reach.TheVariants as reached

-- What elements give.

-- nothing yet
abbrev pub no_pieces : Pieces
no_pieces = record { fixed = true; parts = []; run = [] }

-- the items since the last splice as one part
abbrev pub closed : List PlainQuasi → List PlainQuasi
closed [] = []
closed (q ∷ qs) = call maker.List (quasis (q ∷ qs)) ∷ []

abbrev pub expressions : List Tree → List PlainQuasi
expressions es = map expression es

abbrev pub with_each : Pieces → List Tree → Pieces
with_each p es = record { fixed = false; parts = p.parts; run = p.run ++ expressions es }

-- each splice ends the run of items before it; no splice ends none
abbrev pub with_splices : Pieces → List Tree → Pieces
with_splices p [] = record p { fixed = false }
with_splices p (e ∷ es) = record { fixed = false; parts = p.parts ++ (closed p.run ++ expressions (e ∷ es)); run = [] }

abbrev pub is_constant : PlainQuasi → Bool
is_constant (constant t) = true
is_constant (expression e) = false
is_constant (call m qs) = false

abbrev pub with_item : Pieces → PlainQuasi → Pieces
with_item p q = record { fixed = p.fixed && is_constant q; parts = p.parts; run = p.run ++ q ∷ [] }

-- What lists and vectors come to.

abbrev pub is_end : PlainQuasi → Bool
is_end (constant t) = is_nil t
is_end (expression e) = false
is_end (call m qs) = false

abbrev pub without_splices : List PlainQuasi → PlainQuasi → PlainQuasi
without_splices run tail = if is_end tail then call maker.List (quasis run) else call maker.ConsStar (quasis (run ++ tail ∷ []))

-- a list of these parts and items, before a tail
abbrev pub made_of : List PlainQuasi → List PlainQuasi → PlainQuasi → PlainQuasi
made_of [] run tail = without_splices run tail
made_of (q ∷ qs) run tail = call maker.Append (quasis ((q ∷ qs) ++ (closed run ++ tail ∷ [])))

-- a list of constants is a constant, as it stands
abbrev pub list_joined : Tree → Pieces → PlainQuasi → PlainQuasi
list_joined t p tail = if p.fixed && is_constant tail then constant t else made_of p.parts p.run tail

abbrev pub vector_joined : Tree → Pieces → PlainQuasi
vector_joined t p = if p.fixed then constant t else call maker.ListToVector (quasis (made_of p.parts p.run (constant nil) ∷ []))

-- Forms.

-- a form with what it comes to at each level
abbrev pub ElementPlan : Type 0
ElementPlan = Tree × (ℕ → Result PlainQuasi Bare)

abbrev pub forms : List ElementPlan → List Tree
forms [] = []
forms (x ∷ xs) = x.0 ∷ forms xs

abbrev pub step_by : ℕ → ElementPlan → Pieces → QuasiTaken → Result Pieces Bare
step_by n x p (taken.Each es) = Ok (with_each p es)
step_by n x p (taken.Spliced es) = Ok (with_splices p es)
step_by n x p taken.Kept = x.1 n >>= λ q. Ok (with_item p q)

abbrev pub step : WordOf → ℕ → Pieces → ElementPlan → Result Pieces Bare
step w n p x = step_by n x p (taken_at w n x.0)

-- the elements of a list or vector, behind those so far
abbrev pub walked : WordOf → ℕ → Pieces → List ElementPlan → Result Pieces Bare
walked w n p [] = Ok p
walked w n p (x ∷ xs) = step w n p x >>= λ q. walked w n q xs

abbrev pub operand_or_bad : Option Tree → Result Begun Bare
operand_or_bad None = Err bad
operand_or_bad (Some e) = Ok (begun.Whole e)

-- A list by what its head reaches: at level 0 `(unquote e)` is e, and nothing else may stand behind `unquote` or
-- `unquote-splicing`.
abbrev pub begun_by : Option Tree → Result Pieces Bare → Reach → Result Begun Bare
begun_by operand pieces reached.Operand = operand_or_bad operand
begun_by operand pieces reached.Refused = Err bad
begun_by operand pieces reached.Elements = pieces >>= λ p. Ok (begun.Parts p)

abbrev pub begins : WordOf → List ElementPlan → Bool → ℕ → Result Begun Bare
begins w xs ends n =
    begun_by (operand_of ends (forms xs)) (walked w (inner (first_word w (forms xs)) n) no_pieces xs) (reach (first_word w (forms xs)) n)

-- what ends a list: whether that is Nil, and what it comes to at each level
pub record Tail : Type 0 where
  pub ends : Bool
  pub made : ℕ → Result PlainQuasi Bare

abbrev pub finished : Tree → Tail → ℕ → Begun → Result PlainQuasi Bare
finished t tail n (begun.Whole e) = Ok (expression e)
finished t tail n (begun.Parts p) = tail.made n >>= λ q. Ok (list_joined t p q)

-- the elements and the tail of a list, as they are
abbrev pub flat : WordOf → Tree → List ElementPlan → Tail → ℕ → Result PlainQuasi Bare
flat w t xs tail n = begins w xs tail.ends n >>= finished t tail n

-- the tail that the last two elements are
abbrev pub split_tail : WordOf → Tree → List ElementPlan → Tail → Tail
split_tail w t xs tail = record { ends = false; made = flat w (rest_at (length xs - 2) t) (drop (length xs - 2) xs) tail }

-- a list is split first
abbrev pub list_made : WordOf → Tree → List ElementPlan → Tail → ℕ → Result PlainQuasi Bare
list_made w t xs tail n =
    if splits w tail.ends (forms xs) then flat w t (take (length xs - 2) xs) (split_tail w t xs tail) n else flat w t xs tail n

abbrev pub vector_made : WordOf → Tree → List ElementPlan → ℕ → Result PlainQuasi Bare
vector_made w t xs n = walked w n no_pieces xs >>= λ p. Ok (vector_joined t p)

abbrev mutual
  -- what a template comes to at a level
  pub quasi_at : WordOf → Tree → ℕ → Result PlainQuasi Bare
  quasi_at w (atom s a) n = Ok (constant (atom s a))
  quasi_at w (leaf s x c) n = Ok (constant (leaf s x c))
  quasi_at w (pair s a d) n = list_made w (pair s a d) ((a, quasi_at w a) ∷ elements_made w d) (record { ends = is_nil (tail_of d); made = tail_made w d }) n
  quasi_at w (vector s d) n = vector_made w (vector s d) (elements_made w d) n

  -- the elements of a list, each with what it comes to
  pub elements_made : WordOf → Tree → List ElementPlan
  elements_made w (atom s a) = []
  elements_made w (leaf s x c) = []
  elements_made w (pair s a d) = (a, quasi_at w a) ∷ elements_made w d
  elements_made w (vector s d) = []

  -- what the end of a list comes to
  pub tail_made : WordOf → Tree → ℕ → Result PlainQuasi Bare
  tail_made w (atom s a) n = Ok (constant (atom s a))
  tail_made w (leaf s x c) n = Ok (constant (leaf s x c))
  tail_made w (pair s a d) n = tail_made w d n
  tail_made w (vector s d) n = vector_made w (vector s d) (elements_made w d) n

abbrev pub element : WordOf → Tree → ElementPlan
element w t = (t, quasi_at w t)

abbrev pub tail_element : WordOf → Tree → Tail
tail_element w t = record { ends = is_nil t; made = quasi_at w t }

abbrev pub forms_walked : WordOf → ℕ → List Tree → Result Pieces Bare
forms_walked w n ts = walked w n no_pieces (map (element w) ts)

abbrev pub forms_begun : WordOf → List Tree → Bool → ℕ → Result Begun Bare
forms_begun w ts ends n = begun_by (operand_of ends ts) (forms_walked w (inner (first_word w ts) n) ts) (reach (first_word w ts) n)

abbrev pub flat_list : WordOf → Tree → List Tree → Tree → ℕ → Result PlainQuasi Bare
flat_list w t ts tail n = forms_begun w ts (is_nil tail) n >>= finished t (tail_element w tail) n

-- the tail that a list of the last elements is, which ends with this tail itself
abbrev pub last_list : WordOf → Tree → List Tree → Tree → Tail
last_list w t ts tail = record { ends = false; made = flat_list w t ts tail }

-- these elements before the list of the last two
abbrev pub split_list : WordOf → Tree → List Tree → Tail → ℕ → Result PlainQuasi Bare
split_list w t front last n = forms_begun w front false n >>= finished t last n

abbrev pub vector_at : WordOf → Tree → List Tree → ℕ → Result PlainQuasi Bare
vector_at w t ts n = forms_walked w n ts >>= λ p. Ok (vector_joined t p)

abbrev pub fault_of : Tree → Span → Bare → Fault
fault_of form place f = record { kind = f.kind; span = place_of form place; words = f.words }

-- a fault of a template is at the form that it is the template of
abbrev pub at_form : {A : Type 0} → Tree → Span → Result A Bare → Result A Fault
at_form form place (Ok x) = Ok x
at_form form place (Err f) = Err (fault_of form place f)

abbrev pub StopsAt : Tree → Span → Stop → BareStop → Type 0
StopsAt form place (stop.Fault f) (bare_stop.Fault g) = fault_of form place g ≡ f
StopsAt form place (stop.Fault f) bare_stop.Memory = ⊥
StopsAt form place stop.Memory s = Unit {0}

-- what a form with this template comes to
abbrev pub quasi : WordOf → Tree → Tree → Span → Result PlainQuasi Fault
quasi w template form place = at_form form place (quasi_at w template 0)
