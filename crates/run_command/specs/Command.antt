-- The one command, as `clap` reads it.
use Rattle.std.specs.Prelude.{true, Some, codes}
use Rattle.clap.specs.Words.{App, Rule, Text, new_app, new_rule, with_rule}
use Rattle.clap.specs.declared.builder.action.ArgAction.TheVariants.{Set, SetTrue}

-- a long option with one value, any text
abbrev pub option : Text → Rule
option name = record (new_rule name) { long = Some name; action = Some Set }

abbrev pub flag : Text → Rule
flag name = record (new_rule name) { long = Some name; action = Some SetTrue }

abbrev pub positional : Text → Rule
positional name = record (new_rule name) { action = Some Set }

-- no program's name stands before the words, and there is no help flag
abbrev pub bare : App
bare = record (new_app (codes "scheme-expand")) { top = record (new_app (codes "scheme-expand")).top { no_binary_name = true; disable_help_flag = true } }

abbrev pub command : App
command = with_rule (with_rule (with_rule (with_rule (with_rule (with_rule bare (option (codes "root"))) (option (codes "cache")))
    (option (codes "write"))) (option (codes "make"))) (flag (codes "report"))) (positional (codes "program"))
