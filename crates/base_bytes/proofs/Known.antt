-- A name that was read is got again.
use Rattle.std.proofs.Common.{◌≡◌, ℕ, true, List, [], ◌++◌, length, take, drop, Some, ap, sym, ◌∙◌}
use Rattle.std.proofs.lemmas.List.{take-append-drop}
use Rattle.std.specs.Cmp.{unsigned_Decides}
use Rattle.std.specs.Cmp.Lexicographic.{pointwise, pointwise_decides}
use Rattle.std.specs.Prelude.{nat_eq}
use Rattle.base_data.specs.declared.library.LibName.{LibName}
use Rattle.base_bytes.specs.NameLaws.{library-lawful}
use Rattle.base_bytes.specs.Names.{library}
use Rattle.base_bytes.specs.Puts.{Puts}

pub got_again : (name : LibName) (spelling front bytes rest : List ℕ) → Puts library name [] spelling → front ≡ spelling → pointwise nat_eq (take (length front) bytes) front ≡ true
    → rest ≡ drop (length front) bytes → library.get bytes ≡ Some (name, rest)
got_again name spelling front bytes rest p same h r =
    let begun : take (length front) bytes ≡ front = (pointwise_decides unsigned_Decides (take (length front) bytes) front).0 h in
    let whole : bytes ≡ front ++ rest = sym (take-append-drop (length front) bytes) ∙ (λ i. begun i ++ sym r i) in
    let spelt : bytes ≡ library.put name ++ rest = whole ∙ ap (λ (s : List ℕ). s ++ rest) (same ∙ p.0) in
    ap library.get spelt ∙ library-lawful.again name rest p.1
