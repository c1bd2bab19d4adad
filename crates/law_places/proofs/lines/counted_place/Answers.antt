use Rattle.std.proofs.Common.{ℕ, ap, ◌∙◌}
use Rattle.law_places.proofs.Counts.{place_counted}
use Rattle.law_places.proofs.lines.counted_place.Goals as goal

pub returns-clause-line : goal.returns-clause-line
returns-clause-line c = ap (λ (at : ℕ × ℕ). at.0) (c.line_and_column.ensures ∙ place_counted c.args.source.now c.args.offset c.requires)

pub returns-clause-column : goal.returns-clause-column
returns-clause-column c = ap (λ (at : ℕ × ℕ). at.1) (c.line_and_column.ensures ∙ place_counted c.args.source.now c.args.offset c.requires)
