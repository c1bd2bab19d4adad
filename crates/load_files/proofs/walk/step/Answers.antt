use Rattle.std.proofs.Common.{◌≡◌, ◌+◌, reverse, Ok, Some, None, sym, subst}
use Rattle.load_files.specs.Gives.{Turns}
use Rattle.load_files.specs.Stack.{known_next, next_of, meaning}
use Rattle.load_files.specs.declared.refer.Known.TheVariants as known
use Rattle.load_files.proofs.HaltLemmas.{halts_at, turns_on}
use Rattle.load_files.proofs.WalkLemmas.{turn_builtin, turn_joined, turn_loaded, turn_fault, turn_end}
use Rattle.load_files.proofs.walk.step.Goals as goal

pub returns-in-Err-clause-given : goal.returns-in-Err-clause-given
returns-in-Err-clause-given g c = λ fs h.
    halts_at c.in-Err.stop c.from.result c.args.loading.now (known_next c.args.at c.args.loading.now)
    (meaning fs c.args.search.now.roots.now c.args.at (reverse c.args.stack.now.items) c.args.loading.now)
    (λ f e. turn_fault fs c.args.search.now.roots.now c.args.at (reverse c.args.stack.now.items) c.args.loading.now f e)
    c.from.ensures c.in-Err.ensures

pub returns-in-Ok-None-clause-given : goal.returns-in-Ok-None-clause-given
returns-in-Ok-None-clause-given g c = λ fs h.
    let seen : known_next c.args.at c.args.loading.now ≡ Ok None = cc (c.in-Ok-None.ensures, c.in-Ok-None.field-0-is) in
    subst (λ y. Turns (meaning fs c.args.search.now.roots.now) c.close.result c.close.new.stack.items c.close.new.loading y)
    (sym (turn_end fs c.args.search.now.roots.now c.args.at (reverse c.args.stack.now.items) c.args.loading.now seen))
    (c.close.ensures.given fs c.args.search.now.roots.now)

pub returns-in-Ok-Some-Builtin-clause-given : goal.returns-in-Ok-Some-Builtin-clause-given
returns-in-Ok-Some-Builtin-clause-given g c = λ fs h.
    let seen : known_next c.args.at c.args.loading.now ≡ Ok (Some known.Builtin) = cc (c.in-Ok-Some-Builtin.ensures, c.in-Ok-Some-Builtin.field-0-is, c.in-Ok-Some-Builtin.field-0-0-is) in
    turns_on fs c.args.search.now.roots.now c.passed.result (next_of c.args.at c.args.at.needs (c.args.at.next + 1)) c.args.stack.now.items c.args.loading.now
    (meaning fs c.args.search.now.roots.now c.args.at (reverse c.args.stack.now.items) c.args.loading.now) c.passed.ensures.given c.passed.ensures.err
    (turn_builtin fs c.args.search.now.roots.now c.args.at (reverse c.args.stack.now.items) c.args.loading.now seen)

pub returns-in-Ok-Some-Joined-clause-given : goal.returns-in-Ok-Some-Joined-clause-given
returns-in-Ok-Some-Joined-clause-given g c = λ fs h.
    let seen : known_next c.args.at c.args.loading.now ≡ Ok (Some known.Joined) = cc (c.in-Ok-Some-Joined.ensures, c.in-Ok-Some-Joined.field-0-is, c.in-Ok-Some-Joined.field-0-0-is) in
    turns_on fs c.args.search.now.roots.now c.passed-in-Ok-Some-Joined.result (next_of c.args.at c.args.at.needs (c.args.at.next + 1)) c.args.stack.now.items c.args.loading.now
    (meaning fs c.args.search.now.roots.now c.args.at (reverse c.args.stack.now.items) c.args.loading.now) c.passed-in-Ok-Some-Joined.ensures.given c.passed-in-Ok-Some-Joined.ensures.err
    (turn_joined fs c.args.search.now.roots.now c.args.at (reverse c.args.stack.now.items) c.args.loading.now seen)

pub returns-in-Ok-Some-Loaded-clause-given : goal.returns-in-Ok-Some-Loaded-clause-given
returns-in-Ok-Some-Loaded-clause-given g c = λ fs h.
    let needs = c.in-Ok-Some-Loaded.needs in
    let seen : known_next c.args.at c.args.loading.now ≡ Ok (Some (known.Loaded c.in-Ok-Some-Loaded.needs)) = cc (c.in-Ok-Some-Loaded.ensures, c.in-Ok-Some-Loaded.field-0-is, c.in-Ok-Some-Loaded.field-0-0-is) in
    turns_on fs c.args.search.now.roots.now c.passed_with.result (next_of c.args.at needs (c.args.at.next + 1)) c.args.stack.now.items c.args.loading.now
    (meaning fs c.args.search.now.roots.now c.args.at (reverse c.args.stack.now.items) c.args.loading.now) (rw c.in-Ok-Some-Loaded.field-0-0-is at c.passed_with.ensures.given) c.passed_with.ensures.err
    (turn_loaded fs c.args.search.now.roots.now c.args.at (reverse c.args.stack.now.items) c.args.loading.now needs seen)
