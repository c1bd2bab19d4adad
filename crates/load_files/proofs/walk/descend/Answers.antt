use Rattle.load_files.proofs.WalkLemmas.{descends}
use Rattle.load_files.proofs.walk.descend.Goals as goal

pub returns-clause-given : goal.returns-clause-given
returns-clause-given g c = λ fs h.
    descends fs c.args.search.now.roots.now c.args.at.now c.in_ok-first_of.field-0 c.args.loading.now c.open_file.new.loading c.in-Some.import.now c.in_ok-opened.opened
    c.in-Some.ensures c.if-at-eq0.false (c.in_ok-opened.ensures.given fs h) (c.in_ok-first_of.ensures)
