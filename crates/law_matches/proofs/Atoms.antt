-- When two atoms are the same.
use Rattle.std.proofs.Common.{◌≡◌, refl, ap}
use Rattle.std.specs.Bool.{Decides}
use Rattle.std.specs.Cmp.{booleans_Decides, signed_Decides, unsigned_Decides}
use Rattle.base_data.specs.declared.atom.Atom.{Atom}
use Rattle.base_data.specs.declared.atom.Atom.TheVariants as a
use Rattle.base_data.specs.Same.{texts_decides}
use Rattle.eval_pattern.specs.Values.{same_atom}

pub same_atom_cases : (x y : Atom) → Decides (same_atom x y) (x ≡ y)
same_atom_cases a.Nil a.Nil = (λ h. refl, λ h. refl)
same_atom_cases (a.Bool x) (a.Bool y) = (λ h. ap a.Bool ((booleans_Decides x y).0 h), λ h. (booleans_Decides x y).1 (cc))
same_atom_cases (a.Int x) (a.Int y) = (λ h. ap a.Int ((signed_Decides x y).0 h), λ h. (signed_Decides x y).1 (cc))
same_atom_cases (a.Spelt x) (a.Spelt y) = (λ h. ap a.Spelt ((texts_decides x y).0 h), λ h. (texts_decides x y).1 (cc))
same_atom_cases (a.Char x) (a.Char y) = (λ h. ap a.Char ((unsigned_Decides x y).0 h), λ h. (unsigned_Decides x y).1 (cc))
same_atom_cases (a.Str x) (a.Str y) = (λ h. ap a.Str ((texts_decides x y).0 h), λ h. (texts_decides x y).1 (cc))
same_atom_cases (a.Bytes x) (a.Bytes y) = (λ h. ap a.Bytes ((texts_decides x y).0 h), λ h. (texts_decides x y).1 (cc))
same_atom_cases _ _ = (λ h. cc, λ h. cc)
