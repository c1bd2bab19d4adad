use Rattle.std.proofs.Common.{subst}
use Rattle.load_import.specs.Shared.{IsEnoughIf}
use Rattle.load_import.proofs.SourceLemmas.{sources_more}
use Rattle.load_import.proofs.sources.join_source.Goals as goal

pub returns-in_ok-keep_fresh-in-Some-clause-enough : goal.returns-in_ok-keep_fresh-in-Some-clause-enough
returns-in_ok-keep_fresh-in-Some-clause-enough c =
    let front = c.in_ok-fresh.ensures.front in
    let new = c.join_from.new.all in
    c.in_ok-keep_fresh-in-Some.ensures.enough new (sources_more c.args.all.now new front.0 c.args.sources.now.entries front.1 c.requires)
    (λ s at. subst (IsEnoughIf new s.exports) c.in-Some.is (c.in_ok-fresh.ensures.fresh s at))

pub returns-in-None-clause-enough : goal.returns-in-None-clause-enough
returns-in-None-clause-enough c =
    let front = c.in_ok-fresh.ensures.front in
    sources_more c.args.all.now c.join_from.new.all front.0 c.args.sources.now.entries front.1 c.requires
