-- The names of variables are names in core text.
use Rattle.check_grammar.specs.Names.{IsName}
use Rattle.law_names.specs.Variable.{NamedVariable, IsVariable}
use Rattle.law_names.specs.Variable as variables

-- that of a variable of the program or of a library, whose symbol is UTF-8
abbrev pub VariablesAreNamed : Type 0
VariablesAreNamed = (v : NamedVariable) → IsVariable v → IsName (variables.name_of v)
