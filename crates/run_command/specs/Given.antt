-- The values that the words give.
use Rattle.std.specs.Prelude.{Bool, false, List, Option, option_map, codes}
use Rattle.std.specs.Option.{option_map_or}
use Rattle.std.specs.Str.{bytes_eq}
use Rattle.clap.specs.Words.{Row, Text, first_of}
use Rattle.run_command.specs.declared.command.WordValues.{WordValues}

-- the values as texts
pub record Values : Type 0 where
  pub root : Option Text
  pub cache : Option Text
  pub write : Option Text
  pub make : Option Text
  pub report : Bool
  pub program : Option Text

-- whether the value that was found for a flag says that it is there
abbrev pub is_on : Option Text → Bool
is_on o = option_map_or (λ t. bytes_eq t (codes "true")) o false

-- what `clap` found, by the names of its arguments
abbrev pub given_of : List Row → Values
given_of rows = record {
  root = first_of (codes "root") rows;
  cache = first_of (codes "cache") rows;
  write = first_of (codes "write") rows;
  make = first_of (codes "make") rows;
  report = is_on (first_of (codes "report") rows);
  program = first_of (codes "program") rows;
}

abbrev pub seen : WordValues → Values
seen g = record {
  root = option_map (λ s. s.now) g.root;
  cache = option_map (λ s. s.now) g.cache;
  write = option_map (λ s. s.now) g.write;
  make = option_map (λ s. s.now) g.make;
  report = g.report;
  program = option_map (λ s. s.now) g.program;
}
