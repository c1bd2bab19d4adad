-- When two values are the same.
use Rattle.std.proofs.Common.{◌≡◌, ℕ, ◌==◌, ◌&&◌, true, false, refl, ap, ◌∙◌}
use Rattle.std.specs.Bool.{Decides}
use Rattle.std.specs.Cmp.{booleans_Decides, signed_Decides, unsigned_Decides, first_so, second_so}
use Rattle.base_data.specs.declared.atom.Atom.{Atom}
use Rattle.base_data.specs.declared.atom.Atom.TheVariants as a
use Rattle.base_data.specs.Same.{texts_decides, same_name, same_name_cases}
use Rattle.base_region.specs.declared.region.Place.{Place}
use Rattle.eval_value.specs.declared.value.Value.{Value}
use Rattle.eval_value.specs.declared.value.Value.TheVariants as value
use Rattle.eval_prims.specs.Identity.{same_atom, same}
use Rattle.law_lists.specs.Equals.{is_syntax_object}

atom_cases : (x y : Atom) → Decides (same_atom x y) (x ≡ y)
atom_cases a.Nil a.Nil = (λ h. refl, λ h. refl)
atom_cases (a.Bool x) (a.Bool y) = (λ h. ap a.Bool ((booleans_Decides x y).0 h), λ h. (booleans_Decides x y).1 (cc))
atom_cases (a.Int x) (a.Int y) = (λ h. ap a.Int ((signed_Decides x y).0 h), λ h. (signed_Decides x y).1 (cc))
atom_cases (a.Spelt x) (a.Spelt y) = (λ h. ap a.Spelt ((texts_decides x y).0 h), λ h. (texts_decides x y).1 (cc))
atom_cases (a.Char x) (a.Char y) = (λ h. ap a.Char ((unsigned_Decides x y).0 h), λ h. (unsigned_Decides x y).1 (cc))
atom_cases (a.Str x) (a.Str y) = (λ h. ap a.Str ((texts_decides x y).0 h), λ h. (texts_decides x y).1 (cc))
atom_cases (a.Bytes x) (a.Bytes y) = (λ h. ap a.Bytes ((texts_decides x y).0 h), λ h. (texts_decides x y).1 (cc))
atom_cases _ _ = (λ h. cc, λ h. cc)

pub atom_itself : (x : Atom) → same_atom x x ≡ true
atom_itself x = (atom_cases x x).1 refl

place_is : (p q : Place) → (p.0 == q.0) ≡ true → p ≡ q
place_is p q h = let n = (unsigned_Decides p.0 q.0).0 h in λ i. record { 0 = n i }

place_itself : (n : ℕ) → (n == n) ≡ true
place_itself n = (unsigned_Decides n n).1 refl

pub same_is : (x y : Value) → same x y ≡ true → x ≡ y
unfolding same
same_is value.Unspecified value.Unspecified h = refl
same_is (value.Atom x) (value.Atom y) h = ap value.Atom ((atom_cases x y).0 h)
same_is (value.Symbol x) (value.Symbol y) h = ap value.Symbol ((texts_decides x y).0 h)
same_is (value.Pair p) (value.Pair q) h = ap value.Pair (place_is p q h)
same_is (value.Vector p) (value.Vector q) h = ap value.Vector (place_is p q h)
same_is (value.Str p) (value.Str q) h = ap value.Str (place_is p q h)
same_is (value.Closure c p) (value.Closure d q) h =
    let n = (same_name_cases c.0 d.0).0 (first_so (same_name c.0 d.0) (p.0 == q.0) h) in
    let place = place_is p q (second_so (same_name c.0 d.0) (p.0 == q.0) h) in
    λ i. value.Closure (record { 0 = n i }) (place i)
same_is (value.Prim x) (value.Prim y) h = let n = (unsigned_Decides x.0 y.0).0 h in λ i. value.Prim (record { 0 = n i })
same_is (value.Transformer p) (value.Transformer q) h = ap value.Transformer (place_is p q h)
same_is _ _ h = absurd (cc)

pub same_itself : (x : Value) → is_syntax_object x ≡ false → same x x ≡ true
unfolding same
same_itself value.Unspecified h = refl
same_itself (value.Atom x) h = atom_itself x
same_itself (value.Symbol x) h = (texts_decides x x).1 refl
same_itself (value.Pair p) h = place_itself p.0
same_itself (value.Vector p) h = place_itself p.0
same_itself (value.Str p) h = place_itself p.0
same_itself (value.Closure c p) h = ap (λ t. t && (p.0 == p.0)) ((same_name_cases c.0 c.0).1 refl) ∙ place_itself p.0
same_itself (value.Prim x) h = place_itself x.0
same_itself (value.Syn t) h = absurd (cc)
same_itself (value.Transformer p) h = place_itself p.0

pub same_syntax : (x y : Value) → is_syntax_object x ≡ true → same x y ≡ false
unfolding same
same_syntax (value.Syn t) y h = refl
same_syntax _ y h = absurd (cc)
