-- What is open, innermost first.
use Rattle.std.specs.Prelude.{◌≡◌, ℕ, List, [], ◌∷◌, Option, Some, None}
use Rattle.base_data.specs.declared.fault.FaultKind.{FaultKind}
use Rattle.base_data.specs.declared.fault.FaultKind.TheVariants as fault
use Rattle.base_data.specs.Datum.{PlainDatum}
use Rattle.read_lexer.specs.declared.token.Bracket.{Bracket}
use Rattle.read_lexer.specs.declared.token.Abbreviation.{Abbreviation}
use Rattle.read_machine.specs.declared.extent.Extent.{Extent}
use Rattle.read_machine.specs.declared.extent.Misplaced.{Misplaced}
use Rattle.read_machine.specs.declared.partial.OpenTail.{OpenTail}
use Rattle.read_machine.specs.declared.partial.OpenTail.TheVariants as tail
use Rattle.read_machine.specs.declared.partial.OpenParts.{OpenParts}
use Rattle.read_machine.specs.declared.partial.OpenParts.TheVariants as parts
use Rattle.read_machine.specs.declared.partial.Partial.{Partial}

-- what comes of each kind of open form
pub record PartsCases (A : Type 0) : Type 0 where
  pub list : Bracket → List PlainDatum → OpenTail → A
  pub vector : List PlainDatum → A
  pub bytes : List ℕ → A
  pub abbreviation : Abbreviation → A
  pub skipped : A

-- by what is open
abbrev pub on_parts : {A : Type 0} → OpenParts → PartsCases A → A
on_parts (parts.List b ds t) cases = cases.list b ds t
on_parts (parts.Vector ds) cases = cases.vector ds
on_parts (parts.Bytes ns) cases = cases.bytes ns
on_parts (parts.Abbreviation a) cases = cases.abbreviation a
on_parts parts.Skipped cases = cases.skipped

-- how many more forms may be opened, where so many may be at the top
abbrev pub room_in : ℕ → List Partial → ℕ
room_in nesting [] = nesting
room_in nesting (f ∷ fs) = f.room

abbrev pub wrong : FaultKind → Extent → Option Misplaced
wrong kind at = Some (record { kind = kind; at = at })

abbrev pub misplaced_by : OpenTail → Option Misplaced
misplaced_by tail.Absent = None
misplaced_by (tail.Dotted dot) = None
misplaced_by (tail.Given dot e) = wrong fault.BadDot dot

abbrev pub misplaced_in : OpenParts → Extent → Option Misplaced
misplaced_in (parts.List b ds tail) at = misplaced_by tail
misplaced_in (parts.Vector ds) at = None
misplaced_in (parts.Bytes ns) at = wrong fault.BadNumber at
misplaced_in (parts.Abbreviation k) at = None
misplaced_in parts.Skipped at = None

-- what is wrong where a form other than a comment begins here: in a bytevector stands no form, and behind a dot stands one
abbrev pub misplaced : List Partial → Extent → Option Misplaced
misplaced [] at = None
misplaced (f ∷ fs) at = misplaced_in f.parts at

-- the innermost of what is open
abbrev pub IsFirst : Partial → List Partial → Type 0
IsFirst f fs = (rest : List Partial) × (fs ≡ f ∷ rest)
