use Rattle.law_records.proofs.Records.{record-types-are-defined, definitions-are-stood-for, other-record-types-are-bad, descriptors-are-written}
use Rattle.law_records.proofs.laws.record_forms_are_those_of_the_report.Goals as goal

pub returns : goal.returns
returns c = record { written = record-types-are-defined; found = definitions-are-stood-for; others = other-record-types-are-bad; descriptors = descriptors-are-written }
