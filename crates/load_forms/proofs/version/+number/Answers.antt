use Rattle.std.proofs.Common.{◌≡◌, ◌∷◌, Option, Some, None, List, ℕ, Bool, sym, ap, ◌∙◌, arith}
use Rattle.std.proofs.lemmas.Grind.{common_steps}
use Rattle.std.proofs.lemmas.List.{nil_from_length}
use Rattle.base_data.specs.Datum.{PlainDatum, chain, nil, proper_elements}
use Rattle.load_forms.specs.Name.{number}
use Rattle.load_forms.specs.Version.{all_numbers, compared, number_fits, joined, otherwise, wants}
use Rattle.load_forms.specs.Words.{connective_of}
use Rattle.load_forms.specs.declared.words.Connective.{Connective}
use Rattle.load_forms.proofs.ListLemmas.{item_below, rest_below}
use Rattle.load_forms.proofs.VersionLemmas.{number_fits_open, number_fits_nil, number_fits_cons}
use Rattle.load_forms.proofs.version.+number.Goals as goal

-- by the head of a list
by_none : (n : ℕ) (d x : PlainDatum) (xs ds : List PlainDatum) (r : Option Bool) → Some ds ≡ proper_elements d → ds ≡ x ∷ xs → connective_of x ≡ None → r ≡ compared n x (chain xs nil) → r ≡ number_fits n d
by_none n d x xs ds r parts is which given =
    given
    ∙ ap (λ o. otherwise o (compared n x (chain xs nil)) (λ w. joined (chain xs nil) (all_numbers (wants w) n (chain xs nil)) w)) (sym which)
    ∙ sym (number_fits_cons n d x xs (sym parts ∙ ap Some is))

by_some : (n : ℕ) (d x : PlainDatum) (xs ds : List PlainDatum) (r t : Option Bool) (b : Bool) (w : Connective) → Some ds ≡ proper_elements d → ds ≡ x ∷ xs → connective_of x ≡ Some w
    → b ≡ wants w → t ≡ all_numbers b n (chain xs nil) → r ≡ joined (chain xs nil) t w → r ≡ number_fits n d
by_some n d x xs ds r t b w parts is which wanted answer given =
    given ∙ ap (λ a. joined (chain xs nil) a w) (answer ∙ ap (λ c. all_numbers c n (chain xs nil)) wanted)
    ∙ ap (λ o. otherwise o (compared n x (chain xs nil)) (λ w. joined (chain xs nil) (all_numbers (wants w) n (chain xs nil)) w)) (sym which)
    ∙ sym (number_fits_cons n d x xs (sym parts ∙ ap Some is))

pub all_numbers-number_fits-requires : goal.all_numbers-number_fits-requires
all_numbers-number_fits-requires t c = rw c.part-item.is (grind (arith, item_below))

pub number_fits-returns-in_err-items : goal.number_fits-returns-in_err-items
number_fits-returns-in_err-items t c =
    let none : number c.args.part.now ≡ None = cc in
    let is = number_fits_open c.args.n c.args.part.now none (sym c.in_err-items.ensures) in
    grind (arith, common_steps)

pub number_fits-returns-in_err-head : goal.number_fits-returns-in_err-head
number_fits-returns-in_err-head t c =
    let none : number c.args.part.now ≡ None = cc in
    let is = number_fits_nil c.args.n c.args.part.now none (sym c.in_ok-items.ensures ∙ ap Some (nil_from_length c.in_ok-items.items.now c.in_err-head.ensures.cases)) in
    grind (arith, common_steps)

pub number_fits-all_numbers-answer-requires : goal.number_fits-all_numbers-answer-requires
number_fits-all_numbers-answer-requires t c =
    let below = rest_below c.args.part.now c.in_ok-head.head.now c.in_ok-head.parts.now (sym c.in_ok-items.ensures ∙ ap Some c.in_ok-head.ensures.cases.0) in
    grind arith

pub number_fits-returns-in-None : goal.number_fits-returns-in-None
number_fits-returns-in-None t c =
    by_none c.args.n c.args.part.now c.in_ok-head.head.now c.in_ok-head.parts.now c.in_ok-items.items.now c.compared.result
    c.in_ok-items.ensures c.in_ok-head.ensures.cases.0 (cc) c.compared.ensures

pub number_fits-returns-in-Some-connective_of : goal.number_fits-returns-in-Some-connective_of
number_fits-returns-in-Some-connective_of t c =
    by_some c.args.n c.args.part.now c.in_ok-head.head.now c.in_ok-head.parts.now c.in_ok-items.items.now c.joined.result c.all_numbers-answer.result c.wants.result c.in-Some-connective_of.which
    c.in_ok-items.ensures c.in_ok-head.ensures.cases.0 (cc) c.wants.ensures c.all_numbers-answer.ensures c.joined.ensures
