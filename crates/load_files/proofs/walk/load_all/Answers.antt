use Rattle.std.proofs.Common.{[], ap, ◌∙◌, subst}
use Rattle.load_files.specs.Found.{most_libraries}
use Rattle.load_files.specs.Gives.{LoadsAfter}
use Rattle.load_files.specs.Stack.{meaning}
use Rattle.load_files.proofs.WalkLemmas.{first_alone}
use Rattle.load_files.proofs.walk.load_all.Goals as goal

pub returns-clause-given : goal.returns-clause-given
returns-clause-given g c = λ fs h.
    subst (λ y. LoadsAfter c.walk.result c.walk.new.loading y)
    (ap (λ o. meaning fs c.args.search.now.roots.now o [] c.args.loading.now) c.in_ok-first.ensures ∙ first_alone fs c.args.search.now.roots.now most_libraries c.args.opened c.args.loading.now)
    (c.walk.ensures.given fs h)
