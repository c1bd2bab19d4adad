-- What the tokens of a line have come to, where the innermost list stands apart.
use Rattle.std.specs.Prelude.{◌≡◌, ◌-◌, Bool, true, false, List, [], ◌∷◌, ◌++◌, Option, None, Some, Result, Ok, Err}
use Rattle.base_data.specs.Datum.{PlainDatum}
use Rattle.base_data.specs.declared.fault.Fault.{Fault}
use Rattle.base_data.specs.declared.memory.Memory.{Memory}
use Rattle.check_line_reader.specs.declared.progress.OpenList.{OpenList}
use Rattle.check_line_reader.specs.declared.progress.LineProgress.{LineProgress}
use Rattle.read_lexer.specs.declared.token.Bracket.{Bracket}
use Rattle.read_machine.specs.declared.extent.Extent.{Extent}
use Rattle.read_machine.specs.declared.partial.OpenParts.TheVariants as parts
use Rattle.read_machine.specs.declared.partial.Partial.{Partial}
use Rattle.read_machine.specs.declared.partial.ReaderState.{ReaderState}
use Rattle.read_machine.specs.declared.partial.OpenTail.TheVariants as tail
use Rattle.read_machine.specs.Step.{state}

-- the form that a list is
abbrev pub as_form : OpenList → Partial
as_form l = record { opening = l.opening; room = l.room; parts = parts.List l.bracket l.items tail.Absent }

-- a list with what is around it
abbrev pub held : ReaderState → OpenList → ReaderState
held s l = state (as_form l ∷ s.stack) s.done

abbrev pub with_list : ReaderState → Option OpenList → ReaderState
with_list s None = s
with_list s (Some l) = held s l

-- all of it
abbrev pub whole : LineProgress → ReaderState
whole p = with_list p.around p.list

-- with one more element
abbrev pub with_element : OpenList → PlainDatum → OpenList
with_element l d = record l { items = l.items ++ d ∷ [] }

-- a list that is opened inside another
abbrev pub opened_in : OpenList → Bracket → Extent → OpenList
opened_in l b at = record { opening = at; room = l.room - 1; bracket = b; items = [] }

-- such a list whose form this is, or the form itself
abbrev pub IsForm : Result OpenList Partial → Partial → Type 0
IsForm (Ok l) f = f ≡ as_form l
IsForm (Err g) f = f ≡ g

-- a step was taken, or nothing changed, as the answer tells
abbrev pub Tries : Result Bool Memory → Result ReaderState Fault → ReaderState → ReaderState → Type 0
Tries (Ok true) given before after = given ≡ Ok after
Tries (Ok false) given before after = after ≡ before
Tries (Err lack) given before after = Unit {0}
