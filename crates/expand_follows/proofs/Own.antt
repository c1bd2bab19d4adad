-- What a record names is its own, and each stands once.
use Rattle.std.proofs.Common.{◌≡◌, Bool, true, false, refl}
use Rattle.std.specs.Prelude.{◌&&◌}
use Rattle.core_language.specs.declared.record.CompiledLibrary.{CompiledLibrary}
use Rattle.law_core.specs.Follows.{all_binders, all_numbers, bound_labels, is_own, names_its_own}
use Rattle.law_core.specs.Words.{each}
use Rattle.expand_follows.specs.Pieces.{all_own, all_once}

and_eight : (a b c d e : Bool) → ((a && (b && (c && d))) && e) ≡ (a && (b && (c && (d && e))))
and_eight true true true d e = refl
and_eight true true false d e = refl
and_eight true false c d e = refl
and_eight false b c d e = refl

pub names_its_own_by : (r : CompiledLibrary) → (all_own r && all_once r) ≡ names_its_own r
names_its_own_by r = and_eight (each (λ l. is_own r l.0) (bound_labels r)) (each (λ l. is_own r l.0) (all_binders r)) (each (λ n. is_own r n.0) (all_numbers r)) (each (λ f. is_own r f.frame.0) r.frames) (all_once r)
