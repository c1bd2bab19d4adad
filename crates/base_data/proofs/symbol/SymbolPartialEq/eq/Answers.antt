use Rattle.std.proofs.Common.{◌≡◌, ◌/◌, ◌^◌, ◌<◌, true, nat_eq, arith}
use Rattle.std.specs.Cmp.Lexicographic.{pointwise}
use Rattle.std.specs.Rc.{rc_str_bytes}
use Rattle.base_data.proofs.Heads.{short_agree}
use Rattle.base_data.proofs.symbol.SymbolPartialEq.eq.Goals as goal

pub returns-then-self-lt8 : goal.returns-then-self-lt8
returns-then-self-lt8 c =
    let same : c.self.inside.head ≡ c.other.inside.head = omega (arith, c.if-self-other.false) in
    let agree : true ≡ pointwise nat_eq (rc_str_bytes c.self.inside.text) (rc_str_bytes c.other.inside.text) =
    short_agree c.self.inside.text.text.value c.other.inside.text.text.value c.self.inside.head c.other.inside.head c.self.invariant c.other.invariant same c.if-self-lt8.true in
    let one = c.self.view_is in
    let other = c.other.view_is in
    cc
