use Rattle.std.proofs.lemmas.Result.{err_from_is_err_and}
use Rattle.run_prelude.specs.Prelude.{kept}
use Rattle.run_reuse.proofs.SpendLemmas.{program_spent}
use Rattle.run_reuse.proofs.TextLemmas.{text_done, text_stops}
use Rattle.run_reuse.proofs.texts.program_text.Goals as goal

pub returns-in_err-text-clause-text : goal.returns-in_err-text-clause-text
returns-in_err-text-clause-text g c =
    let p = err_from_is_err_and c.from_residual.result c.from_residual.ensures.1 in
    rw (p.1, p.2) (text_stops c.args.turning.now.cache.now (kept c.args.turning.now.implementation.now.prelude) c.in_err-text.field-0.0 c.args.found c.args.turned c.into_parts-records.result.0 c.into_parts-records.ensures.records c.in_err-text.ensures.text)

pub returns-clause-text : goal.returns-clause-text
returns-clause-text g c =
    text_done c.args.turning.now.cache.now (kept c.args.turning.now.implementation.now.prelude) (record { text = c.in_ok-text.text; reused = c.into_parts-records.result.1 }) c.args.found c.args.turned c.into_parts-records.result.0 c.into_parts-records.ensures.records c.into_parts-records.ensures.reused c.in_ok-text.ensures.text

pub returns-clause-fuel : goal.returns-clause-fuel
returns-clause-fuel g c = program_spent (kept c.args.turning.now.implementation.now.prelude) c.args.found c.args.turned c.into_parts-records.result.0 c.args.tally.now.fuel c.text_after.new.tally.fuel c.into_parts-records.ensures.records c.in_ok-text.ensures.fuel
