-- The codes of the parts of a plan, one after another.
use Rattle.std.proofs.Common.{◌≡◌, List, [], ◌∷◌, ◌++◌, sym, ◌∙◌, append_assoc}
use Rattle.std.proofs.lemmas.List.{append-nil}
use Rattle.core_language.specs.Core.{PlainCore}
use Rattle.core_quasi.specs.Plan.{PlainQuasis, none, more}
use Rattle.expand_quasi.specs.Filled.{Filling, filled, all_filled}

abbrev pub codes_of : PlainQuasis → List PlainCore → Filling (List PlainCore)
codes_of none cs = ([], cs)
codes_of (more q qs) cs = ((filled q cs).0 ∷ (codes_of qs (filled q cs).1).0, (codes_of qs (filled q cs).1).1)

behind : (done : List PlainCore) (qs : PlainQuasis) (cs : List PlainCore) → all_filled done qs cs ≡ (done ++ (codes_of qs cs).0, (codes_of qs cs).1)
behind done none cs = λ i. (sym (append-nil done) i, cs)
behind done (more q qs) cs =
    behind (done ++ (filled q cs).0 ∷ []) qs (filled q cs).1
    ∙ (λ i. (append_assoc done ((filled q cs).0 ∷ []) (codes_of qs (filled q cs).1).0 i, (codes_of qs (filled q cs).1).1))

pub codes_are : (qs : PlainQuasis) (cs : List PlainCore) → all_filled [] qs cs ≡ codes_of qs cs
codes_are qs cs = behind [] qs cs
