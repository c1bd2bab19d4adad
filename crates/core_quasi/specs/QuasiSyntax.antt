-- What `(quasisyntax TEMPLATE)` comes to (R6RS libraries 12.8): a template of `syntax`, whose expressions are inserts.
use Rattle.std.specs.Prelude.{ℕ, ◌-◌, Bool, true, false, ◌||◌, List, [], ◌∷◌, ◌++◌, length, take, drop, map, Option, None, Some, Result, Ok, Err, if◌then◌else◌}
use Rattle.base_data.specs.Gives.{◌>>=◌}
use Rattle.base_data.specs.declared.fault.Bare.{Bare}
use Rattle.base_data.specs.declared.fault.Fault.{Fault}
use Rattle.base_data.specs.declared.library.LibName.TheVariants as library
use Rattle.base_data.specs.declared.name.Mark.{Mark}
use Rattle.base_data.specs.declared.span.Span.{Span}
use Rattle.stx_tree.specs.Tree.{Tree, atom, leaf, pair, vector, span_of, spanned, list_of, vector_of}
use Rattle.stx_tree.specs.Measures.{within}
use Rattle.core_shapes.specs.Lists.{is_nil, tail_of}
use Rattle.core_quasi.specs.Words.{WordOf, word_of, inner, reach}
use Rattle.core_quasi.specs.Parts.{bad, rest_at, splits, taken_at, first_word, operand_of}
use Rattle.core_quasi.specs.Quasi.{at_form}
use Rattle.core_quasi.specs.declared.parts.QuasiTaken.{QuasiTaken}
use Rattle.core_quasi.specs.declared.parts.QuasiTaken.TheVariants as taken
use Rattle.core_quasi.specs.declared.quasi_syntax.Begun.{Begun}
use Rattle.core_quasi.specs.declared.quasi_syntax.Begun.TheVariants as begun
use Rattle.core_quasi.specs.declared.quasi_syntax.Insert.{Insert}
use Rattle.core_quasi.specs.declared.quasi_syntax.QuasiPart.{QuasiPart}
use Rattle.core_quasi.specs.declared.quasi_syntax.QuasiContext.{QuasiContext}
use Rattle.core_quasi.specs.declared.quasi_syntax.QuasiSyntax.{QuasiSyntax}
use Rattle.core_quasi.specs.declared.quasi_syntax.QuasiRow.{QuasiRow}
use Rattle.core_quasi.specs.declared.word.Family.TheVariants as family
use Rattle.core_quasi.specs.declared.word.Reach.{Reach}
use Rattle.core_quasi.specs.declared.word.Reach.TheVariants as reached
use Rattle.core_quasi.specs.declared.word.QuasiWord.{QuasiWord}
use Rattle.core_quasi.specs.declared.word.QuasiWord.TheVariants as word

-- what is looked for, and the leaf that stands behind each leaf of a splice, an ellipsis
pub record Looked : Type 0 where
  pub words : WordOf
  pub dots : Tree

abbrev pub seen : QuasiContext → Looked
seen c = record { words = word_of family.Syntax c.frames.now; dots = c.dots.now }

-- adds inserts and gives something, or there is a fault
abbrev pub Inserts : Type 0 → Type 0
Inserts A = List Insert → Result (A × List Insert) Bare

abbrev pub then_insert : {A B : Type 0} → Result (A × List Insert) Bare → (A → Inserts B) → Result (B × List Insert) Bare
then_insert r k = r >>= λ p. k p.0 p.1

-- Inserts.

abbrev pub core_mark : ℕ → Mark
core_mark k = record { 0 = record { library = library.Core; number = k } }

-- the leaf of the insert with this number: `v` with a mark that no other leaf has
abbrev pub insert_leaf : ℕ → Tree
insert_leaf k = leaf None (118 ∷ []) (record { marks = core_mark k ∷ []; stamps = [] })

abbrev pub insert : ℕ → Tree → List Insert → Insert
insert depth e inserts = record { leaf = insert_leaf (length inserts); expression = e; depth = depth }

-- What elements give.

abbrev pub no_trees : QuasiRow
no_trees = record { changed = false; trees = [] }

abbrev pub changed_row : List Tree → QuasiRow
changed_row ts = record { changed = true; trees = ts }

-- behind the trees a leaf for each expression
abbrev pub leaves : List Tree → List Tree → List Insert → List Tree × List Insert
leaves ts [] inserts = (ts, inserts)
leaves ts (e ∷ es) inserts = leaves (ts ++ insert_leaf (length inserts) ∷ []) es (inserts ++ insert 0 e inserts ∷ [])

-- behind the trees a leaf and an ellipsis for each expression
abbrev pub spliced : Tree → List Tree → List Tree → List Insert → List Tree × List Insert
spliced dots ts [] inserts = (ts, inserts)
spliced dots ts (e ∷ es) inserts = spliced dots ((ts ++ insert_leaf (length inserts) ∷ []) ++ dots ∷ []) es (inserts ++ insert 1 e inserts ∷ [])

abbrev pub as_row : List Tree × List Insert → QuasiRow × List Insert
as_row p = (changed_row p.0, p.1)

abbrev pub with_part : QuasiRow → QuasiPart → QuasiRow
with_part r p = record { changed = r.changed || p.changed; trees = r.trees ++ p.tree ∷ [] }

-- What lists and vectors come to.

abbrev pub unchanged : Tree → QuasiPart
unchanged t = record { changed = false; tree = t }

-- a list with other parts, within the limits of trees, at the place of the list
abbrev pub rebuilt : Tree → Result Tree Bare → Result QuasiPart Bare
rebuilt t r = r >>= λ u. Ok (record { changed = true; tree = spanned (span_of t) u })

abbrev pub list_joined : Tree → QuasiRow → QuasiPart → Result QuasiPart Bare
list_joined t r tail = if r.changed || tail.changed then rebuilt t (within (list_of r.trees (Some tail.tree))) else Ok (unchanged t)

abbrev pub vector_joined : Tree → QuasiRow → Result QuasiPart Bare
vector_joined t r = if r.changed then rebuilt t (within (vector_of r.trees)) else Ok (unchanged t)

abbrev pub joined : {A : Type 0} → Result A Bare → Inserts A
joined r inserts = r >>= λ x. Ok (x, inserts)

-- Forms.

-- a form with what it comes to at each level
abbrev pub ElementInserts : Type 0
ElementInserts = Tree × (ℕ → Inserts QuasiPart)

abbrev pub forms : List ElementInserts → List Tree
forms [] = []
forms (x ∷ xs) = x.0 ∷ forms xs

abbrev pub step_by : Looked → ℕ → ElementInserts → QuasiRow → QuasiTaken → Inserts QuasiRow
step_by w n x r (taken.Each es) inserts = Ok (as_row (leaves r.trees es inserts))
step_by w n x r (taken.Spliced es) inserts = Ok (as_row (spliced w.dots r.trees es inserts))
step_by w n x r taken.Kept inserts = then_insert (x.1 n inserts) (λ p inserts. Ok (with_part r p, inserts))

abbrev pub step : Looked → ℕ → QuasiRow → ElementInserts → Inserts QuasiRow
step w n r x inserts = step_by w n x r (taken_at w.words n x.0) inserts

-- the elements of a list or vector, behind those so far
abbrev pub walked : Looked → ℕ → QuasiRow → List ElementInserts → Inserts QuasiRow
walked w n r [] inserts = Ok (r, inserts)
walked w n r (x ∷ xs) inserts = then_insert (step w n r x inserts) (λ q inserts. walked w n q xs inserts)

abbrev pub leaf_part : Tree → QuasiPart
leaf_part t = record { changed = true; tree = t }

abbrev pub operand_or_bad : Option Tree → Inserts Begun
operand_or_bad None inserts = Err bad
operand_or_bad (Some e) inserts = Ok (begun.Whole (leaf_part (insert_leaf (length inserts))), inserts ++ insert 0 e inserts ∷ [])

-- A list by what its head reaches: at level 0 `(unsyntax e)` is an insert, and nothing else may stand behind `unsyntax` or
-- `unsyntax-splicing`.
abbrev pub begun_by : Option Tree → Inserts QuasiRow → Reach → Inserts Begun
begun_by operand row reached.Operand inserts = operand_or_bad operand inserts
begun_by operand row reached.Refused inserts = Err bad
begun_by operand row reached.Elements inserts = then_insert (row inserts) (λ r inserts. Ok (begun.Trees r, inserts))

abbrev pub begins : Looked → List ElementInserts → Bool → ℕ → Inserts Begun
begins w xs ends n =
    begun_by (operand_of ends (forms xs)) (walked w (inner (first_word w.words (forms xs)) n) no_trees xs) (reach (first_word w.words (forms xs)) n)

-- what ends a list: whether that is Nil, and what it comes to at each level
pub record Tail : Type 0 where
  pub ends : Bool
  pub made : ℕ → Inserts QuasiPart

abbrev pub finished : Tree → Tail → ℕ → Begun → Inserts QuasiPart
finished t tail n (begun.Whole p) inserts = Ok (p, inserts)
finished t tail n (begun.Trees r) inserts = then_insert (tail.made n inserts) (λ q. joined (list_joined t r q))

-- the elements and the tail of a list, as they are
abbrev pub flat : Looked → Tree → List ElementInserts → Tail → ℕ → Inserts QuasiPart
flat w t xs tail n inserts = then_insert (begins w xs tail.ends n inserts) (finished t tail n)

-- the tail that the last two elements are
abbrev pub split_tail : Looked → Tree → List ElementInserts → Tail → Tail
split_tail w t xs tail = record { ends = false; made = flat w (rest_at (length xs - 2) t) (drop (length xs - 2) xs) tail }

-- whether a list is an ellipsis and the template that it escapes
abbrev pub escapes : QuasiWord → Bool → List Tree → Bool
escapes word.Escape true (head ∷ (t ∷ [])) = true
escapes head ends ts = false

-- a list is split first; what an ellipsis escapes stays as it is
abbrev pub list_made : Looked → Tree → List ElementInserts → Tail → ℕ → Inserts QuasiPart
list_made w t xs tail n inserts =
    if escapes (first_word w.words (forms xs)) tail.ends (forms xs) then Ok (unchanged t, inserts)
    else if splits w.words tail.ends (forms xs) then flat w t (take (length xs - 2) xs) (split_tail w t xs tail) n inserts
    else flat w t xs tail n inserts

abbrev pub vector_made : Looked → Tree → List ElementInserts → ℕ → Inserts QuasiPart
vector_made w t xs n inserts = then_insert (walked w n no_trees xs inserts) (λ r. joined (vector_joined t r))

abbrev mutual
  -- what a template comes to at a level
  pub syntax_at : Looked → Tree → ℕ → Inserts QuasiPart
  syntax_at w (atom s a) n inserts = Ok (unchanged (atom s a), inserts)
  syntax_at w (leaf s x c) n inserts = Ok (unchanged (leaf s x c), inserts)
  syntax_at w (pair s a d) n inserts =
      list_made w (pair s a d) ((a, syntax_at w a) ∷ elements_made w d) (record { ends = is_nil (tail_of d); made = tail_made w d }) n inserts
  syntax_at w (vector s d) n inserts = vector_made w (vector s d) (elements_made w d) n inserts

  -- the elements of a list, each with what it comes to
  pub elements_made : Looked → Tree → List ElementInserts
  elements_made w (atom s a) = []
  elements_made w (leaf s x c) = []
  elements_made w (pair s a d) = (a, syntax_at w a) ∷ elements_made w d
  elements_made w (vector s d) = []

  -- what the end of a list comes to
  pub tail_made : Looked → Tree → ℕ → Inserts QuasiPart
  tail_made w (atom s a) n inserts = Ok (unchanged (atom s a), inserts)
  tail_made w (leaf s x c) n inserts = Ok (unchanged (leaf s x c), inserts)
  tail_made w (pair s a d) n inserts = tail_made w d n inserts
  tail_made w (vector s d) n inserts = vector_made w (vector s d) (elements_made w d) n inserts

abbrev pub element : Looked → Tree → ElementInserts
element w t = (t, syntax_at w t)

abbrev pub tail_element : Looked → Tree → Tail
tail_element w t = record { ends = is_nil t; made = syntax_at w t }

abbrev pub forms_walked : Looked → ℕ → List Tree → Inserts QuasiRow
forms_walked w n ts = walked w n no_trees (map (element w) ts)

abbrev pub forms_begun : Looked → List Tree → Bool → ℕ → Inserts Begun
forms_begun w ts ends n = begun_by (operand_of ends ts) (forms_walked w (inner (first_word w.words ts) n) ts) (reach (first_word w.words ts) n)

abbrev pub flat_list : Looked → Tree → List Tree → Tree → ℕ → Inserts QuasiPart
flat_list w t ts tail n inserts = then_insert (forms_begun w ts (is_nil tail) n inserts) (finished t (tail_element w tail) n)

-- the tail that a list of the last elements is, which ends with this tail itself
abbrev pub last_list : Looked → Tree → List Tree → Tree → Tail
last_list w t ts tail = record { ends = false; made = flat_list w t ts tail }

-- these elements before the list of the last two
abbrev pub split_list : Looked → Tree → List Tree → Tail → ℕ → Inserts QuasiPart
split_list w t front last n inserts = then_insert (forms_begun w front false n inserts) (finished t last n)

abbrev pub vector_at : Looked → Tree → List Tree → ℕ → Inserts QuasiPart
vector_at w t ts n inserts = then_insert (forms_walked w n ts inserts) (λ r. joined (vector_joined t r))

abbrev pub answer : QuasiPart × List Insert → QuasiSyntax
answer p = record { template = p.0.tree; inserts = p.1 }

-- what a form with this template comes to
abbrev pub quasi_syntax : Looked → Tree → Tree → Span → Result QuasiSyntax Fault
quasi_syntax w template form place = at_form form place (syntax_at w template 0 []) >>= λ p. Ok (answer p)
