-- The names of a record type, its fields and its procedures (libraries report 6.2).
use Rattle.std.specs.Prelude.{ℕ, List, [], ◌∷◌, ◌++◌, codes, Option, None, Some, if◌then◌else◌}
use Rattle.base_data.specs.declared.library.LibName.{LibName}
use Rattle.core_naming.specs.Decimal.{number_text}
use Rattle.core_naming.specs.Generated.{library_text, name_part}
use Rattle.stx_scope.specs.Stands.{symbol_of}
use Rattle.core_shapes.specs.Lists.{is_leaf, proper_elements, if_some}
use Rattle.stx_tree.specs.Leaves.{marks_of, stamps_of}
use Rattle.stx_tree.specs.Tree.{Tree, leaf}
use Rattle.core_records.specs.declared.names.RecordNames.{RecordNames}

-- the identifier with this symbol that stands where the given one stands
abbrev pub like : Tree → List ℕ → Tree
like id x = leaf None x (record { marks = marks_of id; stamps = stamps_of id })

-- Names that aren't given.

abbrev pub constructor_symbol : List ℕ → List ℕ
constructor_symbol x = codes "make-" ++ x

abbrev pub predicate_symbol : List ℕ → List ℕ
predicate_symbol x = x ++ codes "?"

abbrev pub accessor_symbol : List ℕ → List ℕ → List ℕ
accessor_symbol x f = (x ++ codes "-") ++ f

abbrev pub mutator_symbol : List ℕ → List ℕ → List ℕ
mutator_symbol x f = ((x ++ codes "-") ++ f) ++ codes "-set!"

abbrev pub made_accessor : Tree → Tree → Tree
made_accessor name field = like name (accessor_symbol (symbol_of name) (symbol_of field))

abbrev pub made_mutator : Tree → Tree → Tree
made_mutator name field = like name (mutator_symbol (symbol_of name) (symbol_of field))

-- What stands behind `define-record-type`: a name alone, or the names of the record type, its constructor and its predicate.

abbrev pub made_names : Tree → RecordNames
made_names id = record { name = id; constructor = like id (constructor_symbol (symbol_of id)); predicate = like id (predicate_symbol (symbol_of id)) }

abbrev pub given_names : List Tree → Option RecordNames
given_names (name ∷ (make ∷ (test ∷ []))) =
    if is_leaf name then (if is_leaf make then (if is_leaf test then Some
    (record { name = name; constructor = make; predicate = test }) else None) else None) else None
given_names _ = None

unfoldable pub names_of : Tree → Option RecordNames
names_of t = if is_leaf t then Some (made_names t) else if_some (proper_elements t) given_names

-- The name that a record type has in all programs where its form asks for one: the library, the record's name, and the number of the
-- form among those of the library. A form without a name has the empty one there.

abbrev pub first_symbol : List Tree → List ℕ
first_symbol [] = []
first_symbol (t ∷ ts) = symbol_of t

abbrev pub symbol_in : Option (List Tree) → List ℕ
symbol_in None = []
symbol_in (Some ts) = first_symbol ts

abbrev pub spec_symbol : Tree → List ℕ
spec_symbol t = if is_leaf t then symbol_of t else symbol_in (proper_elements t)

abbrev pub second_symbol : List Tree → List ℕ
second_symbol (head ∷ (spec ∷ clauses)) = spec_symbol spec
second_symbol _ = []

abbrev pub symbol_behind : Option (List Tree) → List ℕ
symbol_behind None = []
symbol_behind (Some ts) = second_symbol ts

unfoldable pub record_symbol : Tree → List ℕ
record_symbol t = symbol_behind (proper_elements t)

unfoldable pub record_uid : LibName → Tree → ℕ → List ℕ
record_uid own t n = library_text own ++ codes "/" ++ name_part (record_symbol t) ++ codes "/" ++ number_text n
