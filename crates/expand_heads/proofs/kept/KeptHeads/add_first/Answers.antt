use Rattle.std.proofs.Common.{◌≡◌, List, [], ◌∷◌, ◌++◌, ◌∙◌, ap}
use Rattle.expand_heads.specs.declared.taken.KeptHead.{KeptHead}
use Rattle.expand_heads.proofs.Heads.{head_first}
use Rattle.expand_heads.proofs.kept.KeptHeads.add_first.Goals as goal

pub returns-in-Ok : goal.returns-in-Ok
returns-in-Ok c =
    let one : c.push.new.self ≡ c.args.head ∷ [] = c.in_ok-push.ensures.ok ∙ ap (λ (ks : List KeptHead). ks ++ c.args.head ∷ []) c.new-heads.ensures in
    head_first c.self.inside.heads c.args.self.now c.insert.new.self.entries c.in_ok-symbol.symbol c.push.new.self c.args.head c.requires c.self.view_is c.in_ok-symbol.ensures one c.in-Ok.ensures.entries
