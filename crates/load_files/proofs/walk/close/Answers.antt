use Rattle.std.proofs.Common.{◌≡◌, ◌-◌, [], ◌∷◌, ◌++◌, reverse, take, ap, sym, ◌∙◌}
use Rattle.std.proofs.lemmas.List.{reverse-append}
use Rattle.load_files.specs.Found.{found_of}
use Rattle.load_files.specs.Stack.{returned, unwind}
use Rattle.load_files.proofs.HaltLemmas.{halts_on}
use Rattle.load_files.specs.declared.found.Found.{Found}
use Rattle.load_files.proofs.WalkLemmas.{unwound_on, unwound_stops, unwound_none}
use Rattle.load_files.proofs.walk.close.Goals as goal

pub returns-in_default-clause-given : goal.returns-in_default-clause-given
returns-in_default-clause-given c = λ fs roots.
    let none : c.args.stack.now.items ≡ [] =
    c.in_default.ensures.items
    ∙ ap (λ os. os ++ []) (c.in_default.ensures.rest ∙ ap (λ n. take (n - 1) c.args.stack.now.items) c.in_default.ensures.cases.0) in
    ap (λ (f : Found). unwind fs roots (reverse c.args.stack.now.items) (f, c.args.loading.now)) (sym c.found_of-found.ensures)
    ∙ unwound_none fs roots c.args.stack.now.items (c.found_of-found.result, c.args.loading.now) none

pub returns-in-Ok-clause-given : goal.returns-in-Ok-clause-given
returns-in-Ok-clause-given c = λ fs roots.
    ap (λ (f : Found). unwind fs roots (reverse c.args.stack.now.items) (f, c.args.loading.now)) (sym c.found_of-found.ensures)
    ∙ ap (λ os. unwind fs roots os (c.found_of-found.result, c.args.loading.now)) (ap reverse c.in-Some.ensures.items ∙ reverse-append c.pop.new.self.items (c.in-Some.outer ∷ []))
    ∙ unwound_on fs roots c.in-Some.outer c.in-Ok.outer (reverse c.pop.new.self.items) c.found_of-found.result c.args.loading.now c.back_in.new.loading c.in-Ok.ensures.given

pub returns-in-Err-clause-given : goal.returns-in-Err-clause-given
returns-in-Err-clause-given c = λ fs roots.
    halts_on c.in-Err.halt c.back_in.new.loading (returned c.in-Some.outer c.found_of-found.result c.args.loading.now)
    (unwind fs roots (reverse c.args.stack.now.items) (found_of c.args.at.opened c.args.at.needs c.args.loading.now, c.args.loading.now))
    (λ f e.
    ap (λ (f : Found). unwind fs roots (reverse c.args.stack.now.items) (f, c.args.loading.now)) (sym c.found_of-found.ensures)
    ∙ ap (λ os. unwind fs roots os (c.found_of-found.result, c.args.loading.now)) (ap reverse c.in-Some.ensures.items ∙ reverse-append c.pop.new.self.items (c.in-Some.outer ∷ []))
    ∙ unwound_stops fs roots c.in-Some.outer (reverse c.pop.new.self.items) c.found_of-found.result c.args.loading.now c.back_in.new.loading f e)
    c.in-Err.ensures.given
