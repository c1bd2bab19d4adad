-- The codecs of names, spans and atoms are lawful.
use Rattle.std.proofs.Common.{◌≡◌, refl, inl, inr}
use Rattle.base_data.specs.declared.atom.Atom.{Atom}
use Rattle.base_data.specs.declared.atom.Atom.TheVariants as a
use Rattle.base_data.specs.declared.library.LibName.{LibName}
use Rattle.base_data.specs.declared.library.LibName.TheVariants as n
use Rattle.base_bytes.specs.Laws.{Lawful, mapped-lawful, then-lawful, text-lawful, u16-lawful, u32-lawful, u64-lawful, bool-lawful, int-lawful, blob-lawful, char-lawful, unit-lawful, tagged-lawful, or-lawful, last-lawful, listed-lawful, checked-lawful}
use Rattle.base_bytes.specs.Names.{span, NameCases, name_to, name_from, library, name, label, imported_name, mark, frame, code_number, op, AtomCases, atom_to, atom_from, atom}

pub span-lawful : Lawful span
unfolding span
span-lawful = mapped-lawful _ _ (λ p e. refl) (λ s. refl) (then-lawful text-lawful (then-lawful u32-lawful u32-lawful))

name_there : (c : NameCases) → name_to (name_from c) ≡ c
name_there (inl u) = refl
name_there (inr (inl u)) = refl
name_there (inr (inr (inl u))) = refl
name_there (inr (inr (inr (inl u)))) = refl
name_there (inr (inr (inr (inr parts)))) = refl

name_back : (m : LibName) → name_from (name_to m) ≡ m
name_back n.Core = refl
name_back n.Derived = refl
name_back n.Prelude = refl
name_back n.Program = refl
name_back (n.User parts) = refl

pub library-lawful : Lawful library
unfolding library
library-lawful = mapped-lawful _ _ (λ p e. name_there p) name_back
    (tagged-lawful (or-lawful unit-lawful (or-lawful unit-lawful
    (or-lawful unit-lawful (or-lawful unit-lawful (last-lawful (listed-lawful text-lawful)))))))

pub name-lawful : Lawful name
unfolding name
name-lawful = mapped-lawful _ _ (λ p e. refl) (λ s. refl) (then-lawful library-lawful u64-lawful)

pub label-lawful : Lawful label
unfolding label
label-lawful = mapped-lawful _ _ (λ p e. refl) (λ s. refl) name-lawful

pub imported_name-lawful : Lawful imported_name
unfolding imported_name
imported_name-lawful = mapped-lawful _ _ (λ p e. refl) (λ s. refl) (then-lawful text-lawful label-lawful)

pub mark-lawful : Lawful mark
unfolding mark
mark-lawful = mapped-lawful _ _ (λ p e. refl) (λ s. refl) name-lawful

pub frame-lawful : Lawful frame
unfolding frame
frame-lawful = mapped-lawful _ _ (λ p e. refl) (λ s. refl) name-lawful

pub code_number-lawful : Lawful code_number
unfolding code_number
code_number-lawful = mapped-lawful _ _ (λ p e. refl) (λ s. refl) name-lawful

pub op-lawful : Lawful op
unfolding op
op-lawful = mapped-lawful _ _ (λ p e. refl) (λ s. refl) (checked-lawful _ u16-lawful)

atom_there : (c : AtomCases) → atom_to (atom_from c) ≡ c
atom_there (inl u) = refl
atom_there (inr (inl b)) = refl
atom_there (inr (inr (inl z))) = refl
atom_there (inr (inr (inr (inl x)))) = refl
atom_there (inr (inr (inr (inr (inl x))))) = refl
atom_there (inr (inr (inr (inr (inr (inl x)))))) = refl
atom_there (inr (inr (inr (inr (inr (inr x)))))) = refl

atom_back : (c : Atom) → atom_from (atom_to c) ≡ c
atom_back a.Nil = refl
atom_back (a.Bool b) = refl
atom_back (a.Int z) = refl
atom_back (a.Spelt x) = refl
atom_back (a.Char c) = refl
atom_back (a.Str s) = refl
atom_back (a.Bytes s) = refl

pub atom-lawful : Lawful atom
unfolding atom
atom-lawful = mapped-lawful _ _ (λ p e. atom_there p) atom_back
    (tagged-lawful (or-lawful unit-lawful (or-lawful bool-lawful
    (or-lawful int-lawful (or-lawful text-lawful (or-lawful char-lawful (or-lawful text-lawful (last-lawful blob-lawful))))))))
