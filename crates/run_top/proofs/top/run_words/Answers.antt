use Rattle.std.proofs.Common.{◌≡◌, sym, ◌∙◌}
use Rattle.run_top.proofs.FuelLemmas.{made_spends, usage_spends, written_spends}
use Rattle.run_top.specs.Words.{texts}
use Rattle.run_top.proofs.CachedLemmas.{kept_by_words, still_kept}
use Rattle.run_top.proofs.Sinks.{asked_of, by_made, ended}
use Rattle.run_top.proofs.WordsLemmas.{cached_is_core}
use Rattle.run_top.proofs.top.run_words.Goals as goal
use Rattle.run_command.specs.declared.words.Words.TheVariants.{Expand, Make}

pub returns-in-Ok-Expand-clause-headline : goal.returns-in-Ok-Expand-clause-headline
returns-in-Ok-Expand-clause-headline g c =
    ended _ _ (texts c.args.words.now) _ _ _ _ c.prepared-prepared.result c.write.result
    (asked_of _ _ (texts c.args.words.now) (Expand c.in-Ok-Expand.job) c.prepared-prepared.result (sym c.in-Ok-Expand.ensures ∙ c.in-Ok-Expand.field-0-is) c.prepared-prepared.ensures.gives)
    c.prepared-prepared.ensures.read
    c.write.ensures

pub returns-in-Ok-Make-clause-headline : goal.returns-in-Ok-Make-clause-headline
returns-in-Ok-Make-clause-headline g c =
    ended _ _ (texts c.args.words.now) _ _ _ _ c.prepare_made-prepared.result c.write-in-Ok-Make.result
    (asked_of _ _ (texts c.args.words.now) (Make c.in-Ok-Make.count) c.prepare_made-prepared.result (sym c.in-Ok-Make.ensures ∙ c.in-Ok-Make.field-0-is) (by_made c.in-Ok-Make.count c.prepare_made-prepared.result c.prepare_made-prepared.ensures.gives))
    (λ is. absurd (c.prepare_made-prepared.ensures.unread is))
    c.write-in-Ok-Make.ensures

pub prepared-prepared-requires : goal.prepared-prepared-requires
prepared-prepared-requires g c = λ dir is. cached_is_core c.in-Ok-Expand.job dir is (texts c.args.words.now) (sym c.in-Ok-Expand.ensures ∙ c.in-Ok-Expand.field-0-is)

pub returns-in-Ok-Expand-clause-store : goal.returns-in-Ok-Expand-clause-store
returns-in-Ok-Expand-clause-store g c =
    let was = c.args.outside.now.inputs.store in
    let is = c.prepared-prepared.new.inputs.store in
    kept_by_words (g.F.Files.told c.args.outside.now.inputs.files)
    (record { before = g.S.Store.told was; after = g.S.Store.told is; faults_before = g.S.Store.faults was; faults_after = g.S.Store.faults is })
    (is ≡ was) (texts c.args.words.now) c.in-Ok-Expand.job (sym c.in-Ok-Expand.ensures ∙ c.in-Ok-Expand.field-0-is) c.prepared-prepared.ensures.store

pub returns-in-Err-clause-store : goal.returns-in-Err-clause-store
returns-in-Err-clause-store g c =
    still_kept (g.F.Files.told c.args.outside.now.inputs.files) (g.S.Store.told c.args.outside.now.inputs.store) (g.S.Store.faults c.args.outside.now.inputs.store) _ c.args.outside.now.inputs.store (texts c.args.words.now)

pub returns-in-Ok-Expand-clause-fuel : goal.returns-in-Ok-Expand-clause-fuel
returns-in-Ok-Expand-clause-fuel g c =
    written_spends _ _ (texts c.args.words.now) _ _ _ _ _ _ (Expand c.in-Ok-Expand.job) c.prepared-prepared.result c.write.result (sym c.in-Ok-Expand.ensures ∙ c.in-Ok-Expand.field-0-is) c.prepared-prepared.ensures.fuel c.write.ensures

pub returns-in-Ok-Make-clause-fuel : goal.returns-in-Ok-Make-clause-fuel
returns-in-Ok-Make-clause-fuel g c =
    written_spends _ _ (texts c.args.words.now) _ _ _ _ _ _ (Make c.in-Ok-Make.count) c.prepare_made-prepared.result c.write-in-Ok-Make.result (sym c.in-Ok-Make.ensures ∙ c.in-Ok-Make.field-0-is)
    (made_spends c.in-Ok-Make.count _ _ c.prepare_made-prepared.result c.prepare_made-prepared.ensures.fuel) c.write-in-Ok-Make.ensures

pub returns-in-Ok-Usage-clause-fuel : goal.returns-in-Ok-Usage-clause-fuel
returns-in-Ok-Usage-clause-fuel g c = usage_spends _ _ (texts c.args.words.now) _ _ _ _ _ _ c.complain.result c.complain.ensures
