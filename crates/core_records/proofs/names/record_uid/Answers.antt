use Rattle.std.proofs.Common.{◌≡◌, ℕ, List, ◌++◌, refl, sym, ap, ◌∙◌, arith, append_assoc}
use Rattle.std.specs.Prelude.{codes, decimal}
use Rattle.std.specs.String.{string_bytes}
use Rattle.std.proofs.lemmas.Result.{IfOk-weaker}
use Rattle.core_naming.specs.Decimal.{number_text}
use Rattle.core_naming.specs.Generated.{library_text, name_part}
use Rattle.core_naming.proofs.Decimal.{number_decimal}
use Rattle.core_records.specs.Names.{record_symbol, record_uid}
use Rattle.core_records.proofs.names.record_uid.Goals as goal

pub returns : goal.returns
unfolding record_uid
returns c =
    let lib = library_text c.args.library.now in
    let part = name_part (record_symbol c.args.form.now) in
    let same : decimal c.args.number ≡ number_text c.args.number = sym (number_decimal c.args.number (omega (arith, c.ranges.number.fits))) in
    let wrote : string_bytes c.write.new.self ≡ lib ++ codes "/" ++ part ++ (codes "/" ++ decimal c.args.number) =
    rw (c.in_ok-write.ensures.bytes, c.in_ok-put_name_part.ensures, c.as_str.ensures, c.in_ok-name.ensures, c.in_ok-push_str.ensures.bytes, c.in_ok-put_library.ensures, c.new-text.ensures.bytes) refl in
    let whole : string_bytes c.write.new.self ≡ lib ++ codes "/" ++ part ++ codes "/" ++ number_text c.args.number =
    wrote ∙ sym (append_assoc (lib ++ codes "/" ++ part) (codes "/") (decimal c.args.number)) ∙ ap (λ (number : List ℕ). lib ++ codes "/" ++ part ++ codes "/" ++ number) same in
    IfOk-weaker c.from_string.result (λ s. s ≡ string_bytes c.write.new.self) (λ s. s ≡ record_uid c.args.library.now c.args.form.now c.args.number) (λ s is. is ∙ whole) c.from_string.ensures
