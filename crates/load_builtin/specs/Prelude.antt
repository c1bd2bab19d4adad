-- Which procedures have a text, and which.
use Rattle.std.specs.Prelude.{ℕ, List, Option, Some, None, ◌==◌, if◌then◌else◌}
use Rattle.base_data.specs.declared.op.names.TheConstants as names
use Rattle.load_builtin.specs.declared.prelude.TheConstants.{MAP, FOR_EACH, FOR_ALL, EXISTS, FILTER, REMP, FIND, MEMP, FOLD_LEFT, FOLD_RIGHT}

-- the text of an op, by its number
abbrev pub prelude_text : ℕ → Option (List ℕ)
prelude_text n =
    if n == names.FOR_EACH then Some FOR_EACH.now else
    if n == names.MAP then Some MAP.now else
    if n == names.FIND then Some FIND.now else
    if n == names.FOR_ALL then Some FOR_ALL.now else
    if n == names.EXISTS then Some EXISTS.now else
    if n == names.FILTER then Some FILTER.now else
    if n == names.FOLD_LEFT then Some FOLD_LEFT.now else
    if n == names.FOLD_RIGHT then Some FOLD_RIGHT.now else
    if n == names.REMP then Some REMP.now else
    if n == names.MEMP then Some MEMP.now else
    None
