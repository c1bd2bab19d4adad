-- What is done inside forms keeps such a law, however deep they nest.
use Rattle.std.proofs.Common.{ℕ, List}
use Rattle.stx_tree.specs.Tree.{Tree}
use Rattle.core_language.specs.declared.record.CompiledLibrary.{CompiledLibrary}
use Rattle.expand_forms.specs.Expression.{inside}
use Rattle.law_invariant_expansion.proofs.Forms.{Keeps}
use Rattle.law_invariant_expansion.proofs.PlannedForm as settled
use Rattle.law_limits.specs.Holds.{trees}
use Rattle.law_limits.specs.Lawful.{IsLawful}
use Rattle.law_limits.specs.Stages.{RecordsHold}
use Rattle.law_limit_expansion.proofs.Kept.{trees-kept}

pub inside-keeps : (T : Tree → Type 0) (lawful : IsLawful T) (records : List CompiledLibrary) (room : ℕ) → RecordsHold T records → Keeps (trees T) (trees-kept T lawful) (inside records room)
inside-keeps T lawful records room h = settled.inside-keeps (trees T) (trees-kept T lawful) records room h
