-- The codecs of names, spans and atoms.
use Rattle.std.specs.Prelude.{ℕ, ℤ, ◌⊎◌, Bool, List, nat_lt}
use Rattle.std.proofs.Common.{inl, inr}
use Rattle.base_data.specs.Named.{Named}
use Rattle.base_data.specs.Op.{name_count}
use Rattle.base_data.specs.declared.atom.Atom.{Atom}
use Rattle.base_data.specs.declared.atom.Atom.TheVariants as a
use Rattle.base_data.specs.declared.imported_name.ImportedName.{ImportedName}
use Rattle.base_data.specs.declared.library.LibName.{LibName}
use Rattle.base_data.specs.declared.library.LibName.TheVariants as n
use Rattle.base_data.specs.declared.name.CodeNo.{CodeNo}
use Rattle.base_data.specs.declared.name.FrameNo.{FrameNo}
use Rattle.base_data.specs.declared.name.Label.{Label}
use Rattle.base_data.specs.declared.name.Mark.{Mark}
use Rattle.base_data.specs.declared.op.Op.{Op}
use Rattle.base_data.specs.declared.span.Span.{Span}
use Rattle.base_bytes.specs.Codec.{Codec, checked, int, unit, u16, u32, u64, bool, blob, text, char, mapped, ◌then◌, listed, tagged, last, ◌or◌}

unfoldable pub span : Codec Span
span = mapped (λ s. (s.file, (s.from, s.to))) (λ p. record { file = p.0; from = p.1.0; to = p.1.1 }) (text then u32 then u32)

abbrev pub NameCases : Type 0
NameCases = Unit {0} ⊎ (Unit {0} ⊎ (Unit {0} ⊎ (Unit {0} ⊎ List (List ℕ))))

abbrev pub name_to : LibName → NameCases
name_to n.Core = inl tt
name_to n.Derived = inr (inl tt)
name_to n.Prelude = inr (inr (inl tt))
name_to n.Program = inr (inr (inr (inl tt)))
name_to (n.User parts) = inr (inr (inr (inr parts)))

abbrev pub name_from : NameCases → LibName
name_from (inl u) = n.Core
name_from (inr (inl u)) = n.Derived
name_from (inr (inr (inl u))) = n.Prelude
name_from (inr (inr (inr (inl u)))) = n.Program
name_from (inr (inr (inr (inr parts)))) = n.User parts

unfoldable pub library : Codec LibName
library = mapped name_to name_from (tagged (unit or unit or unit or unit or last (listed text)))

unfoldable pub name : Codec Named
name = mapped (λ m. (m.library, m.number)) (λ p. record { library = p.0; number = p.1 }) (library then u64)

unfoldable pub label : Codec Label
label = mapped (λ l. l.0) (λ m. record { 0 = m }) name

unfoldable pub imported_name : Codec ImportedName
imported_name = mapped (λ n. (n.name, n.label)) (λ p. record { name = p.0; label = p.1 }) (text then label)

unfoldable pub mark : Codec Mark
mark = mapped (λ l. l.0) (λ m. record { 0 = m }) name

unfoldable pub frame : Codec FrameNo
frame = mapped (λ l. l.0) (λ m. record { 0 = m }) name

unfoldable pub code_number : Codec CodeNo
code_number = mapped (λ l. l.0) (λ m. record { 0 = m }) name

unfoldable pub op : Codec Op
op = mapped (λ o. o.0) (λ m. record { 0 = m }) (checked (λ m. nat_lt m name_count) u16)

abbrev pub AtomCases : Type 0
AtomCases = Unit {0} ⊎ (Bool ⊎ (ℤ ⊎ (List ℕ ⊎ (ℕ ⊎ (List ℕ ⊎ List ℕ)))))

abbrev pub atom_to : Atom → AtomCases
atom_to a.Nil = inl tt
atom_to (a.Bool b) = inr (inl b)
atom_to (a.Int z) = inr (inr (inl z))
atom_to (a.Spelt x) = inr (inr (inr (inl x)))
atom_to (a.Char c) = inr (inr (inr (inr (inl c))))
atom_to (a.Str s) = inr (inr (inr (inr (inr (inl s)))))
atom_to (a.Bytes s) = inr (inr (inr (inr (inr (inr s)))))

abbrev pub atom_from : AtomCases → Atom
atom_from (inl u) = a.Nil
atom_from (inr (inl b)) = a.Bool b
atom_from (inr (inr (inl z))) = a.Int z
atom_from (inr (inr (inr (inl x)))) = a.Spelt x
atom_from (inr (inr (inr (inr (inl c))))) = a.Char c
atom_from (inr (inr (inr (inr (inr (inl s)))))) = a.Str s
atom_from (inr (inr (inr (inr (inr (inr s)))))) = a.Bytes s

unfoldable pub atom : Codec Atom
atom = mapped atom_to atom_from (tagged (unit or bool or int or text or char or text or last blob))
