-- Patterns on a stage (libraries report 12.4): their variables take its names.
use Rattle.std.specs.Prelude.{List, Result, Ok, Err}
use Rattle.base_data.specs.Named.{Named}
use Rattle.base_data.specs.declared.fault.Fault.{Fault}
use Rattle.base_data.specs.declared.span.Span.{Span}
use Rattle.stx_tree.specs.Tree.{Tree}
use Rattle.eval_pattern.specs.Compile.{compiled, literals_checked}
use Rattle.eval_pattern.specs.declared.compile.Compiled.{Compiled}
use Rattle.eval_stage.specs.Stage.{PlainStage, Does}

abbrev pub named : {A : Type 0} → PlainStage → Result (A × Named) Fault → Result (A × PlainStage) Fault
named s (Ok p) = Ok (p.0, record s { names = p.1 })
named s (Err f) = Err f

-- the pattern of a form; the next names are the labels of its variables
unfoldable pub pattern_of : List Tree → Span → Tree → Does Compiled
pattern_of literals place t s = named s (compiled (record { frames = s.frames; literals = literals; place = place }) t s.names)

abbrev pub unchanged : {A : Type 0} → PlainStage → Result A Fault → Result (A × PlainStage) Fault
unchanged s (Ok x) = Ok (x, s)
unchanged s (Err f) = Err f

-- whether each literal is an identifier that may be one
unfoldable pub check_literals : Span → List Tree → Does (Unit {0})
check_literals place literals s = unchanged s (literals_checked s.frames place literals)
