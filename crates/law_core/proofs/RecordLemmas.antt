-- Whether records are closed and bound once is told by tests.
use Rattle.std.proofs.Common.{List}
use Rattle.std.specs.List.{flat_map}
use Rattle.std.specs.Bool.{Decides}
use Rattle.std.proofs.lemmas.Bool.Decides.{Decides-and}
use Rattle.base_data.specs.declared.name.Label.{Label}
use Rattle.core_language.specs.Labels.{same_label}
use Rattle.core_language.specs.declared.record.CompiledLibrary.{CompiledLibrary}
use Rattle.law_core.specs.Words.{once}
use Rattle.law_core.specs.Scope.{Closed, closed}
use Rattle.law_core.specs.Records.{line_core, defined, run_binders, LinesClosed, lines_closed, record_names, same_text}
use Rattle.law_core.specs.Decided.{RecordsClosedIsDecided, BoundOnceIsDecided}
use Rattle.law_core.proofs.Decisions.{each_decides, once_decides, label_decides, text_decides}
use Rattle.law_core.proofs.ScopeLemmas.{closed_decides}

lines_decide : (ls : List Label) (r : CompiledLibrary) → Decides (lines_closed ls r) (LinesClosed ls r)
lines_decide ls r = each_decides (λ l. closed ls (line_core l)) (λ l. Closed ls (line_core l)) (λ l. closed_decides ls (line_core l)) r.run

pub records_decide : RecordsClosedIsDecided
records_decide rs = each_decides (lines_closed (flat_map defined rs)) (LinesClosed (flat_map defined rs)) (lines_decide (flat_map defined rs)) rs

pub bound_once_decides : BoundOnceIsDecided
bound_once_decides rs =
    Decides-and (once same_label (flat_map run_binders rs)) (once same_text (flat_map record_names rs))
    (once_decides same_label label_decides (flat_map run_binders rs)) (once_decides same_text text_decides (flat_map record_names rs))
