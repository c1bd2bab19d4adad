use Rattle.std.proofs.lemmas.Result.{err_from_is_err_and}
use Rattle.run_library.specs.Records.{needed_records}
use Rattle.run_library.proofs.SourceLemmas.{import_stops, import_gives, listed_same, on_ok}
use Rattle.run_library.proofs.imports.import_into.Goals as goal

pub join_source-requires : goal.join_source-requires
join_source-requires c = c.in_ok-list_source.ensures.enough c.args.names.now c.requires.enough

pub returns-in_err-list_source-clause-names : goal.returns-in_err-list_source-clause-names
returns-in_err-list_source-clause-names c =
    let p = err_from_is_err_and c.from_residual.result c.from_residual.ensures.1 in
    rw (p.1, p.2) (import_stops c.in_err-list_source.field-0.0 (needed_records c.args.needed.now.records.now c.args.needed.now.marks.now) c.args.names.now c.args.import.now c.in_err-list_source.ensures.stop)

pub returns-clause-names : goal.returns-clause-names
returns-clause-names c =
    import_gives (needed_records c.args.needed.now.records.now c.args.needed.now.marks.now) _ c.args.names.now _ c.args.import.now c.join_source.result c.in_ok-list_source.ensures.listed c.in_ok-list_source.ensures.there c.join_source.ensures.given

pub returns-clause-listed : goal.returns-clause-listed
returns-clause-listed c =
    on_ok c.join_source.result (λ h. listed_same (needed_records c.args.needed.now.records.now c.args.needed.now.marks.now) _ _ h c.in_ok-list_source.ensures.listed) c.join_source.ensures.names
