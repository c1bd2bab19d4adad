use Rattle.std.proofs.Common.{◌≡◌, ◌∷◌, ◌<◌, ℕ, List, [], length, arith, refl, ap, ◌∙◌}
use Rattle.std.proofs.lemmas.Bool.Decides.{nat_tests}
use Rattle.bstr.specs.Utf8.{pieces}
use Rattle.bstr.proofs.lemmas.PieceLemmas.{pieces-step, pieces-nil}
use Rattle.base_data.proofs.Chars.{decoded-some, decoded-fits}
use Rattle.read_spelling.specs.Source.{characters}
use Rattle.read_spelling.proofs.source.front.Goals as goal

none_left : (bytes : List ℕ) → length bytes ≡ 0 → bytes ≡ []
none_left [] h = refl
none_left (b ∷ bs) h = absurd (omega arith)

pub returns-then-is_empty-clause-first : goal.returns-then-is_empty-clause-first
unfolding characters
returns-then-is_empty-clause-first c =
    let empty : length c.args.bytes.now ≡ 0 = grind (arith, nat_tests) in
    ap pieces (none_left c.args.bytes.now empty) ∙ pieces-nil

pub returns-clause-first : goal.returns-clause-first
unfolding characters
returns-clause-first c =
    let some : 0 < length c.args.bytes.now = grind (arith, nat_tests) in
    rw (c.decode-char.ensures.char, c.decode-char.ensures.size) (pieces-step c.args.bytes.now some)

pub returns-clause-size : goal.returns-clause-size
returns-clause-size c =
    let some : 0 < length c.args.bytes.now = grind (arith, nat_tests) in
    rw c.decode-char.ensures.size (decoded-some c.args.bytes.now some, decoded-fits c.args.bytes.now some)
