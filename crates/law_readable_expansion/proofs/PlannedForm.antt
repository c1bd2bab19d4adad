-- What is done inside forms keeps that all can be read, however deep they nest.
use Rattle.std.proofs.Common.{ℕ, List}
use Rattle.core_language.specs.declared.record.CompiledLibrary.{CompiledLibrary}
use Rattle.expand_forms.specs.Expression.{inside}
use Rattle.expand_forms.specs.Inside.{Inside}
use Rattle.law_invariant_expansion.proofs.Forms as forms
use Rattle.law_invariant_expansion.proofs.PlannedForm as settled
use Rattle.law_readable.specs.Readable.{readable}
use Rattle.law_readable.specs.Stages.{ReadableRecords}
use Rattle.law_readable_expansion.proofs.Kept.{readable-kept}

abbrev pub Keeps : Inside → Type 0
Keeps = forms.Keeps readable readable-kept

pub inside-keeps : (records : List CompiledLibrary) (room : ℕ) → ReadableRecords records → Keeps (inside records room)
inside-keeps records room h = settled.inside-keeps readable readable-kept records room h
