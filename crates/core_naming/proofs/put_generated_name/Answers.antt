use Rattle.std.proofs.Common.{◌≡◌, ℕ, List, ◌++◌, refl, sym, ap, ◌∙◌, arith, append_assoc}
use Rattle.std.specs.Prelude.{codes, decimal}
use Rattle.std.specs.String.{string_bytes}
use Rattle.core_naming.specs.Decimal.{number_text}
use Rattle.core_naming.specs.Generated.{library_text, name_part}
use Rattle.core_naming.proofs.Decimal.{number_decimal}
use Rattle.core_naming.proofs.put_generated_name.Goals as goal

joined : (out lib part number : List ℕ) → out ++ codes "%" ++ lib ++ codes "/" ++ part ++ (codes "/" ++ number) ≡ out ++ (codes "%" ++ lib ++ codes "/" ++ part ++ codes "/" ++ number)
joined out lib part number = simp (append_assoc)

pub returns : goal.returns
returns c =
    let out = string_bytes c.args.out.now in
    let lib = library_text c.args.library.now in
    let part = name_part c.args.symbol.now in
    let same : decimal c.args.number ≡ number_text c.args.number = sym (number_decimal c.args.number (omega (arith, c.ranges.number.fits))) in
    let wrote : string_bytes c.write.new.self ≡ out ++ codes "%" ++ lib ++ codes "/" ++ part ++ (codes "/" ++ decimal c.args.number) =
    rw (c.in_ok-write.ensures.bytes, c.in_ok-put_name_part.ensures, c.in_ok-push_str-2.ensures.bytes, c.in_ok-put_library.ensures, c.in_ok-push_str.ensures.bytes) refl in
    wrote ∙ ap (λ (number : List ℕ). out ++ codes "%" ++ lib ++ codes "/" ++ part ++ (codes "/" ++ number)) same ∙ joined out lib part (number_text c.args.number)
