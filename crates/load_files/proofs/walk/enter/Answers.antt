use Rattle.std.proofs.Common.{[], ◌∷◌, reverse, sym, ap, ◌∙◌}
use Rattle.std.proofs.lemmas.List.{reverse-append}
use Rattle.load_files.specs.Stack.{descended, meaning}
use Rattle.load_files.proofs.HaltLemmas.{halts_on}
use Rattle.load_files.proofs.WalkLemmas.{turn_new, turn_new_stops}
use Rattle.load_files.proofs.walk.enter.Goals as goal

pub returns-in-Ok-push-clause-given : goal.returns-in-Ok-push-clause-given
returns-in-Ok-push-clause-given g c = λ fs h.
    turn_new fs c.args.search.now.roots.now c.args.at c.in-Ok.inner (reverse c.args.stack.now.items) c.args.loading.now c.descend.new.loading c.requires (c.in-Ok.ensures.given fs h)
    ∙ ap (λ os. meaning fs c.args.search.now.roots.now c.in-Ok.inner os c.descend.new.loading)
    (sym (ap reverse c.in-Ok-push.ensures.items ∙ reverse-append c.args.stack.now.items (c.args.at ∷ [])))

pub returns-in-Err-clause-given : goal.returns-in-Err-clause-given
returns-in-Err-clause-given g c = λ fs h.
    halts_on c.in-Err.halt c.descend.new.loading (descended fs c.args.search.now.roots.now c.args.at c.args.loading.now)
    (meaning fs c.args.search.now.roots.now c.args.at (reverse c.args.stack.now.items) c.args.loading.now)
    (λ f e. turn_new_stops fs c.args.search.now.roots.now c.args.at (reverse c.args.stack.now.items) c.args.loading.now c.descend.new.loading f c.requires e)
    (c.in-Err.ensures.given fs h)
