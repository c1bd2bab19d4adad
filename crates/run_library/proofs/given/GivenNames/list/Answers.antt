use Rattle.std.proofs.Common.{[], Ok, sym, ap, ◌∙◌}
use Rattle.std.specs.Prelude.{option_map}
use Rattle.load_import.specs.Names.{joined}
use Rattle.run_library.specs.Given.{given_of}
use Rattle.run_library.specs.Imports.{given_names}
use Rattle.run_library.proofs.GivenLemmas.{given_same, given_more}
use Rattle.run_library.proofs.given.GivenNames.list.Goals as goal

pub invariant_of-self : goal.invariant_of-self
invariant_of-self c = given_same c.self.inside.derived c.self.inside.listed.entries c.add_source.new.sources.entries c.in_err-add_source.ensures.err c.self.invariant

pub invariant_of-self-2 : goal.invariant_of-self-2
invariant_of-self-2 c =
    let d = option_map (λ r. r.now) c.args.derived in
    let span = c.args.span.now in
    given_more d c.self.inside.derived c.in_ok-name.name c.in_ok-kept.kept span c.self.inside.listed.entries c.add_source.new.sources.entries
    (c.self.view_is ∙ c.requires) c.in_ok-add_source.ensures.names
    (ap (λ l. joined span [] (given_names d (given_of l))) c.in_ok-name.ensures
    ∙ ap (λ ns. joined span [] (given_names d ns)) (sym c.in_ok-names.ensures)
    ∙ ap (joined span []) (sym c.in_ok-names-2.ensures)
    ∙ ap (joined span []) (sym c.as_slice.ensures)
    ∙ c.in_ok-exports.ensures ∙ ap Ok (sym c.in_ok-kept.ensures))
    c.self.invariant
