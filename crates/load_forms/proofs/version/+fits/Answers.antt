use Rattle.std.proofs.Common.{◌≡◌, ◌∷◌, Option, Some, None, List, ℕ, Bool, sym, ap, ◌∙◌, arith}
use Rattle.std.proofs.lemmas.Grind.{common_steps}
use Rattle.std.proofs.lemmas.List.{nil_from_length}
use Rattle.base_data.specs.Datum.{PlainDatum, chain, nil, proper_elements}
use Rattle.load_forms.specs.Version.{all_fit, first_fit, fits, joined, otherwise, wants}
use Rattle.load_forms.specs.Words.{connective_of}
use Rattle.load_forms.specs.declared.words.Connective.{Connective}
use Rattle.load_forms.proofs.ListLemmas.{item_below, rest_below}
use Rattle.load_forms.proofs.VersionLemmas.{fits_open, fits_nil, fits_cons}
use Rattle.load_forms.proofs.version.+fits.Goals as goal

-- by the head of a list
by_none : (v : List ℕ) (d x : PlainDatum) (xs ds : List PlainDatum) (r : Option Bool) → Some ds ≡ proper_elements d → ds ≡ x ∷ xs → connective_of x ≡ None → r ≡ first_fit v (chain ds nil) → r ≡ fits v d
by_none v d x xs ds r parts is which given =
    given ∙ ap (λ es. first_fit v (chain es nil)) is
    ∙ ap (λ o. otherwise o (first_fit v (chain (x ∷ xs) nil)) (λ w. joined (chain xs nil) (all_fit (wants w) v (chain xs nil)) w)) (sym which)
    ∙ sym (fits_cons v d x xs (sym parts ∙ ap Some is))

by_some : (v : List ℕ) (d x : PlainDatum) (xs ds : List PlainDatum) (r t : Option Bool) (b : Bool) (w : Connective) → Some ds ≡ proper_elements d → ds ≡ x ∷ xs → connective_of x ≡ Some w
    → b ≡ wants w → t ≡ all_fit b v (chain xs nil) → r ≡ joined (chain xs nil) t w → r ≡ fits v d
by_some v d x xs ds r t b w parts is which wanted answer given =
    given ∙ ap (λ a. joined (chain xs nil) a w) (answer ∙ ap (λ c. all_fit c v (chain xs nil)) wanted)
    ∙ ap (λ o. otherwise o (first_fit v (chain (x ∷ xs) nil)) (λ w. joined (chain xs nil) (all_fit (wants w) v (chain xs nil)) w)) (sym which)
    ∙ sym (fits_cons v d x xs (sym parts ∙ ap Some is))

pub all_fit-fits-requires : goal.all_fit-fits-requires
all_fit-fits-requires t c = rw c.reference-item.is (grind (arith, item_below))

pub fits-returns-in_err-items : goal.fits-returns-in_err-items
fits-returns-in_err-items t c =
    let is = fits_open c.args.version.now c.args.reference.now (sym c.in_err-items.ensures) in
    grind (arith, common_steps)

pub fits-returns-in_default : goal.fits-returns-in_default
fits-returns-in_default t c =
    sym (fits_nil c.args.version.now c.args.reference.now (sym c.in_ok-items.ensures ∙ ap Some (nil_from_length c.in_ok-items.items.now c.in_default.ensures.cases)))

pub fits-all_fit-answer-requires : goal.fits-all_fit-answer-requires
fits-all_fit-answer-requires t c =
    let below = rest_below c.args.reference.now c.in-Some.head.now c.in-Some.parts.now (sym c.in_ok-items.ensures ∙ ap Some c.in-Some.ensures.cases.0) in
    grind arith

pub fits-returns-in-None : goal.fits-returns-in-None
fits-returns-in-None t c =
    by_none c.args.version.now c.args.reference.now c.in-Some.head.now c.in-Some.parts.now c.in_ok-items.items.now c.first_fit.result
    c.in_ok-items.ensures c.in-Some.ensures.cases.0 (cc) c.first_fit.ensures

pub fits-returns-in-Some-connective_of : goal.fits-returns-in-Some-connective_of
fits-returns-in-Some-connective_of t c =
    by_some c.args.version.now c.args.reference.now c.in-Some.head.now c.in-Some.parts.now c.in_ok-items.items.now c.joined.result c.all_fit-answer.result c.wants.result c.in-Some-connective_of.which
    c.in_ok-items.ensures c.in-Some.ensures.cases.0 (cc) c.wants.ensures c.all_fit-answer.ensures c.joined.ensures
