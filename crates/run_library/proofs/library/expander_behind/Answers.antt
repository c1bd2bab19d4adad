use Rattle.std.proofs.Common.{List, Ok, ap, subst, sym, ◌∙◌}
use Rattle.base_data.specs.Gives.{Gives}
use Rattle.core_language.specs.declared.record.CompiledLibrary.{CompiledLibrary}
use Rattle.eval_code.specs.Codes.{seen}
use Rattle.expand_forms.specs.Expanding.{Expanding, ready}
use Rattle.expand_standing.specs.Ready.{needed_records}
use Rattle.run_library.proofs.PlaceLemmas.{at_marks}
use Rattle.run_library.proofs.library.expander_behind.Goals as goal

pub returns-clause-given : goal.returns-clause-given
returns-clause-given g c =
    subst (λ (rs : List CompiledLibrary). Gives (λ (e : Expanding). e) c.new.result (Ok (ready c.args.name rs c.args.names.now (seen c.args.supplies.codes.entries))))
    (ap (needed_records c.args.needed.now.marks.now) c.ready-ready.ensures ∙ sym (at_marks c.args.needed.now.marks.now c.args.needed.now.records.now)) c.new.ensures
