use Rattle.std.proofs.Common.{[], sym, subst}
use Rattle.law_matches.specs.Matches.{IsRight}
use Rattle.law_matches.proofs.Sound.{rightly}
use Rattle.law_templates.specs.Repeating.{Distinct}
use Rattle.law_templates.proofs.Columns.{labels_are}
use Rattle.law_templates.proofs.Comes.{comes, own}
use Rattle.law_templates.proofs.laws.a_repeated_pattern_gives_back_what_it_took.Goals as goal

pub returns : goal.returns
returns c = λ absent fs cells w p v h f e t r once.
    let m = subst (IsRight fs cells p v) e (rightly fs cells w p v h) in
    comes fs cells absent f.binds [] cells r m (own f.binds (subst Distinct (sym (labels_are m)) once))
