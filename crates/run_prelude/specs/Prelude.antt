-- The codes of the procedures that are given as texts in Scheme: what a call of one means during expansion.
use Rattle.std.specs.Prelude.{ℕ, List, [], ◌∷◌, ◌++◌, filter, map, codes, Bool, true, Option, None, Some, Result, Ok, Err}
use Rattle.base_data.specs.Act.{after, give, each}
use Rattle.base_data.specs.Datum.{PlainDatum}
use Rattle.base_data.specs.Gives.{◌>>=◌}
use Rattle.base_data.specs.Op.{op_text}
use Rattle.base_data.specs.Same.{same_library}
use Rattle.base_data.specs.declared.fault.Bare.{Bare}
use Rattle.base_data.specs.declared.fault.Fault.{Fault}
use Rattle.base_data.specs.declared.fault.FaultKind.TheVariants as kind
use Rattle.base_data.specs.declared.imported_name.ImportedName.{ImportedName}
use Rattle.base_data.specs.declared.library.LibName.{LibName}
use Rattle.base_data.specs.declared.library.LibName.TheVariants as library
use Rattle.base_data.specs.declared.name.CodeNo.{CodeNo}
use Rattle.base_data.specs.declared.span.Span.{Span}
use Rattle.base_data.specs.declared.op.names.TheConstants as ops
use Rattle.load_builtin.specs.Exports.{exports}
use Rattle.load_builtin.specs.Prelude.{prelude_text}
use Rattle.core_language.specs.Core.{PlainCore, PlainCode, no_case, case}
use Rattle.core_language.specs.declared.formals.Formals.{Formals}
use Rattle.eval_code.specs.Codes.{Codes, with_procedure}
use Rattle.expand_forms.specs.Expanding.{expression, ready}
use Rattle.expand_forms.specs.Site.{outermost}
use Rattle.run_prelude.specs.declared.prelude.Prelude.{Prelude}
use Rattle.run_prelude.specs.declared.prelude.Prelude.TheVariants as preludes
use Rattle.run_prelude.specs.Spent.{spent_behind}
use Rattle.read_reader.specs.Read.{data_of, file_nesting}
use Rattle.expand_standing.specs.Start.{first_frame}
use Rattle.expand_standing.specs.State.{State, Does}
use Rattle.stx_tree.specs.Changes.{stamp}
use Rattle.stx_tree.specs.Context.{blank}
use Rattle.stx_tree.specs.Leaves.{tree_of}
use Rattle.stx_tree.specs.Measures.{within}
use Rattle.stx_tree.specs.Tree.{Tree}

-- these procedures: `map for-each for-all exists filter remp find memp fold-left fold-right`
abbrev pub procedures : List ℕ
procedures = ops.MAP ∷ ops.FOR_EACH ∷ ops.FOR_ALL ∷ ops.EXISTS ∷ ops.FILTER ∷ ops.REMP ∷ ops.FIND ∷ ops.MEMP ∷ ops.FOLD_LEFT ∷ ops.FOLD_RIGHT ∷ []

-- The names of `(rnrs)`, but those that the derived library defines.

abbrev pub is_core : ImportedName → Bool
is_core e = same_library e.label.0.library library.Core

abbrev pub core_names : Option (List ImportedName) → List ImportedName
core_names None = []
core_names (Some es) = filter is_core es

unfoldable pub names_of : LibName → List ImportedName
names_of l = core_names (exports l)

abbrev pub names : List ImportedName
names = names_of (library.User (codes "rnrs" ∷ []))

-- One text.

abbrev pub path_of : ℕ → List ℕ
path_of n = codes "(prelude " ++ op_text n ++ codes ")"

abbrev pub text_place : ℕ → Span
text_place n = record { file = path_of n; from = 0; to = 0 }

abbrev pub text_of : Option (List ℕ) → List ℕ
text_of None = []
text_of (Some text) = text

abbrev pub at_place : Span → Result Tree Bare → Result Tree Fault
at_place place (Ok t) = Ok t
at_place place (Err b) = Err (record { kind = b.kind; span = place; words = b.words })

abbrev pub first_tree : Span → List PlainDatum → Result Tree Fault
first_tree place [] = Err (record { kind = kind.NoExpression; span = place; words = [] })
first_tree place (d ∷ ds) = at_place place (within (tree_of blank d))

abbrev pub tree_in : ℕ → Result Tree Fault
tree_in n = data_of (path_of n) (text_of (prelude_text n)) file_nesting >>= first_tree (text_place n)

-- a procedure without arguments, whose body is the text
abbrev pub procedure_of : ℕ → PlainCore → PlainCode
procedure_of n c = record {
  number = record { 0 = record { library = library.Core; number = n } };
  cases = case (record { required = []; rest = None }) c no_case;
  plain = true;
}

abbrev pub expanded : ℕ → Result Tree Fault → Does PlainCode
expanded n (Err f) s = Err f
expanded n (Ok t) s = after (expression [] (outermost (text_place n) 0) (stamp (first_frame library.Prelude) t) s) (λ c. give (procedure_of n c))

unfoldable pub text_code : ℕ → Does PlainCode
text_code n s = expanded n (tree_in n) s

abbrev pub without_state : Result (List PlainCode × State) Fault → Result (List PlainCode) Fault
without_state (Ok p) = Ok p.0
without_state (Err f) = Err f

-- all of them, expanded one after the other in a library of their own
unfoldable pub prelude_codes : Result (List PlainCode) Fault
prelude_codes = without_state (each text_code [] procedures (ready library.Prelude [] names []).state)

-- the fuel that their expansion spends
unfoldable pub prelude_spent : ℕ
prelude_spent = spent_behind (each text_code [] procedures (ready library.Prelude [] names []).state) (λ p. p.1.spent)

-- The table that they make, with the codes inside them.
abbrev pub filled : Codes → List PlainCode → Codes
filled table [] = table
filled table (c ∷ cs) = filled (with_procedure c table) cs

-- what a run keeps of them: the table, or the fault of a text
abbrev pub kept : Prelude → Result Codes Fault
kept (preludes.Codes cs) = Ok (filled [] (map (λ c. c.value) cs))
kept (preludes.Fault f) = Err f

-- the table of all texts
abbrev pub prelude_table : Result Codes Fault
prelude_table = prelude_codes >>= λ cs. Ok (filled [] cs)
