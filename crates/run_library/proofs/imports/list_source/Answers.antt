use Rattle.std.proofs.Common.{◌∙◌, [], sym, ap}
use Rattle.load_import.specs.Names.{joined}
use Rattle.run_library.specs.Imports.{exported}
use Rattle.run_library.specs.Records.{needed_records}
use Rattle.run_library.proofs.SourceLemmas.{names_there, listed_more, there_now}
use Rattle.run_library.proofs.imports.list_source.Goals as goal

pub returns-then-has_source-clause-there : goal.returns-then-has_source-clause-there
returns-then-has_source-clause-there c = names_there c.args.import.now.set.library c.args.sources.now.entries (sym c.has_source.ensures ∙ c.if-has_source.true)

pub returns-clause-listed : goal.returns-clause-listed
returns-clause-listed c =
    let records = needed_records c.args.needed.now.records.now c.args.needed.now.marks.now in
    let span = c.args.import.now.span in
    listed_more records c.in_ok-name.name c.in_ok-exports.exports span c.args.sources.now.entries _ c.in_ok-add_source.ensures.names
    (ap (λ l. joined span [] (exported records l)) c.in_ok-name.ensures ∙ c.in_ok-exports.ensures) c.requires

pub returns-clause-there : goal.returns-clause-there
returns-clause-there c = there_now c.in_ok-name.name c.args.import.now.set.library c.in_ok-exports.exports c.args.sources.now.entries _ c.in_ok-add_source.ensures.names c.in_ok-name.ensures
