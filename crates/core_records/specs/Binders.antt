-- What the definitions of a record type bind, read off the form that they are in (R6RS 11.2).
use Rattle.std.specs.Prelude.{List, [], ◌∷◌, Option, None, Some, drop}
use Rattle.std.specs.List.{flat_map}
use Rattle.stx_tree.specs.Tree.{Tree}
use Rattle.core_shapes.specs.Lists.{elements}
use Rattle.core_records.specs.Definitions.{or_no_fields}
use Rattle.core_records.specs.declared.clause.Clauses.{Clauses}
use Rattle.core_records.specs.declared.clause.Field.{Field}
use Rattle.core_records.specs.declared.names.RecordNames.{RecordNames}

abbrev pub second_of : List Tree → List Tree
second_of (head ∷ (id ∷ others)) = id ∷ []
second_of _ = []

-- what a definition binds
abbrev pub binder_of : Tree → List Tree
binder_of t = second_of (elements t)

-- what definitions behind `begin` bind, in order
abbrev pub binders : Tree → List Tree
binders t = flat_map binder_of (drop 1 (elements t))

abbrev pub if_there : Option Tree → List Tree
if_there None = []
if_there (Some t) = t ∷ []

abbrev pub field_names : Field → List Tree
field_names f = f.accessor ∷ if_there f.mutator

-- the names that a form gives or that it makes, in order: record type, constructor, predicate, and for each field accessor and mutator
abbrev pub type_names : RecordNames → Clauses → List Tree
type_names names cs = names.name ∷ (names.constructor ∷ (names.predicate ∷ flat_map field_names (or_no_fields cs.fields)))
