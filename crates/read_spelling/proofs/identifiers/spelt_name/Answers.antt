use Rattle.std.proofs.Common.{◌≡◌, ◌<◌, length, Some, arith, sym, ap, ◌∙◌}
use Rattle.std.proofs.lemmas.Bool.Decides.{nat_tests}
use Rattle.read_spelling.proofs.NameTurns.{name_turn, name_none, name_done}
use Rattle.read_spelling.proofs.identifiers.spelt_name.Goals as goal

pub returns-in_default : goal.returns-in_default
returns-in_default c =
    let some : 0 < length c.loop-rest.rest.now = grind (arith, nat_tests) in
    sym (name_none c.loop-rest.class _ c.loop-rest.rest.now _ some (sym c.in_default.ensures.gives) c.loop-rest.invariant)

pub loop-rest-preserved : goal.loop-rest-preserved
loop-rest-preserved c =
    let some : 0 < length c.loop-rest.rest.now = grind (arith, nat_tests) in
    let size = c.in-Some.ensures.size in
    name_turn c.loop-rest.class _ _ c.loop-rest.rest.now _ c.in-Some.letter _ some size.0 size.1 (sym c.in-Some.ensures.gives) c.split_at.ensures.back
    c.in_ok-push.ensures.bytes c.loop-rest.invariant

pub returns : goal.returns
returns c =
    let none : length c.loop-rest.rest.now ≡ 0 = grind (arith, nat_tests) in
    sym (name_done c.loop-rest.class _ c.loop-rest.rest.now _ none c.loop-rest.invariant ∙ ap Some (sym c.in_ok-from_string.ensures))
