-- The lines of a run, record by record.
use Rattle.std.proofs.Common.{ℕ, List, [], ◌∷◌, ◌++◌, Option, None, Some}
use Rattle.std.specs.Prelude.{slice_get}
use Rattle.base_data.proofs.ElementLemmas.{each-append}
use Rattle.base_data.specs.Elements.{Each}
use Rattle.core_language.specs.declared.record.CompiledLibrary.{CompiledLibrary}
use Rattle.core_language.specs.declared.record.Line.{Line}
use Rattle.law_core_grammar.specs.Lines.{record_lines, all_lines}
use Rattle.core_plan.specs.Planned.{plan_of}
use Rattle.expand_standing.specs.Start.{or_skip, records_at}
use Rattle.law_text.specs.Text.{text_of}

module _ (P : Line → Type 0) (records : List CompiledLibrary) (program : CompiledLibrary) where
  abbrev OfLines : CompiledLibrary → Type 0
  OfLines r = Each P r.run

  planned-lines : (ps : List ℕ) → Each OfLines (records_at records ps ++ program ∷ []) → Each P (all_lines records ps program)
  planned-lines [] h = h.0
  planned-lines (p ∷ ps) h = by (slice_get records p) h (λ k. planned-lines ps k)
    where
      by : (o : Option CompiledLibrary) → Each OfLines (or_skip o (records_at records ps) ++ program ∷ []) → (Each OfLines (records_at records ps ++ program ∷ []) → Each P (all_lines records ps program))
          → Each P (record_lines o ++ all_lines records ps program)
      by None k rest = rest k
      by (Some r) k rest = each-append P r.run (all_lines records ps program) k.0 (rest k.1)

  -- what holds of the lines of each record of the text holds of its lines
  pub text-lines : Each OfLines (text_of records program) → Each P (all_lines records (plan_of records program) program)
  text-lines h = planned-lines (plan_of records program) h
