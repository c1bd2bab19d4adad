use Rattle.std.proofs.Common.{◌≡◌, ◌++◌, sym, ap, ◌∙◌, arith}
use Rattle.std.proofs.lemmas.Grind.{common_steps}
use Rattle.std.specs.Prelude.{encode_utf8}
use Rattle.std.proofs.lemmas.Str.{chars_past_char}
use Rattle.read_printer.proofs.symbols.put_name.Goals as goal

pub returns : goal.returns
returns c =
    let splits : c.args.text.now ≡ encode_utf8 c.in-Some.first ++ c.as_str.result.now =
    sym c.chars-rest.ensures.rest ∙ c.in-Some.ensures.steps.0 ∙ ap (λ rest. encode_utf8 c.in-Some.first ++ rest) (sym c.as_str.ensures) in
    rw (chars_past_char c.args.text.now c.as_str.result.now c.in-Some.first c.utf8.text splits) (grind (arith, common_steps))
