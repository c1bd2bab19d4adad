-- Where the fault of a form stands.
use Rattle.std.proofs.Common.{refl, ap}
use Rattle.core_shapes.specs.At.{span_or}
use Rattle.law_shapes.specs.Places.{FaultsArePlaced}

pub faults-are-placed : FaultsArePlaced
faults-are-placed given form place words = record { at_form = λ span e. ap (span_or place) e; round = λ e. ap (span_or place) e; same_kind = refl; same_words = refl }
