use Rattle.std.proofs.Common.{List, Option, IfSome, ap, subst, ◌∙◌}
use Rattle.core_language.specs.declared.record.CompiledLibrary.{CompiledLibrary}
use Rattle.expand_standing.specs.Ready.{AreReady, needed_records}
use Rattle.expand_standing.specs.Start.{bindings_of}
use Rattle.expand_standing.specs.declared.ready.Tables.{Tables}
use Rattle.expand_standing.proofs.Starts.{bindings-ready}
use Rattle.expand_standing.proofs.ready.ReadyRecords.bindings.Goals as goal

pub returns : goal.returns
returns c =
    let ms = c.args.needs.value in
    let rs = c.self.inside.records.items in
    let ready = subst (λ (o : Option Tables). IfSome o (λ t. AreReady rs t.frames.value t.bindings.value)) c.in-Some.is c.self.invariant in
    c.over.ensures.bindings ∙ bindings-ready ms rs c.in_ok-shared.shared.value (c.in_ok-shared.ensures.cases ∙ ready.1)
    ∙ ap (λ (xs : List CompiledLibrary). bindings_of (needed_records ms xs)) c.self.view_is
