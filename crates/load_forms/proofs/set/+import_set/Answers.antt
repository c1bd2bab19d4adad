use Rattle.std.proofs.Common.{◌≡◌, ◌∷◌, Option, Some, None, List, ℕ, sym, ap, ◌∙◌, arith}
use Rattle.std.proofs.lemmas.List.{nil_from_length}
use Rattle.base_data.specs.Datum.{PlainDatum, chain, nil, proper_elements}
use Rattle.load_forms.specs.Set.{import_set, inner_set, worded}
use Rattle.load_forms.specs.Words.{set_word}
use Rattle.load_forms.specs.declared.words.SetWord.{SetWord}
use Rattle.load_forms.specs.declared.words.SetWord.TheVariants as set
use Rattle.load_forms.proofs.ListLemmas.{rest_below}
use Rattle.load_forms.proofs.SetLemmas.{import_set_open, import_set_nil, import_set_cons}
use Rattle.load_forms.proofs.set.+import_set.Goals as goal

-- by the word at the front
by_word : (file : List ℕ) (d x : PlainDatum) (xs ds : List PlainDatum) (w : Option SetWord) → Some ds ≡ proper_elements d → ds ≡ x ∷ xs → set_word x ≡ w
    → import_set file d ≡ worded file d xs (inner_set file (chain xs nil)) w
by_word file d x xs ds w parts is word = import_set_cons file d x xs (sym parts ∙ ap Some is) ∙ ap (worded file d xs (inner_set file (chain xs nil))) word

pub import_set-returns-in_default : goal.import_set-returns-in_default
import_set-returns-in_default t c =
    let open_end : proper_elements c.args.datum.now ≡ None = sym c.in_default.ensures in
    sym (import_set_open c.args.file.now c.args.datum.now open_end)

pub import_set-returns-in_default-split_first : goal.import_set-returns-in_default-split_first
import_set-returns-in_default-split_first t c =
    sym (import_set_nil c.args.file.now c.args.datum.now (sym c.in-Some.ensures ∙ ap Some (nil_from_length c.in-Some.items.now c.in_default-split_first.ensures.cases)))

pub import_set-stepped-requires : goal.import_set-stepped-requires
import_set-stepped-requires t c =
    let below = rest_below c.args.datum.now c.in-Some-split_first.head.now c.in-Some-split_first.others.now (sym c.in-Some.ensures ∙ ap Some c.in-Some-split_first.ensures.cases.0) in
    grind arith

pub import_set-returns-in-Some-For : goal.import_set-returns-in-Some-For
import_set-returns-in-Some-For t c =
    sym (by_word c.args.file.now c.args.datum.now c.in-Some-split_first.head.now c.in-Some-split_first.others.now c.in-Some.items.now (Some set.For)
    c.in-Some.ensures c.in-Some-split_first.ensures.cases.0 (cc))

pub import_set-returns-in-Some-Library : goal.import_set-returns-in-Some-Library
import_set-returns-in-Some-Library t c =
    let is = by_word c.args.file.now c.args.datum.now c.in-Some-split_first.head.now c.in-Some-split_first.others.now c.in-Some.items.now (Some set.Library)
    c.in-Some.ensures c.in-Some-split_first.ensures.cases.0 (cc) in
    rw is c.only_reference.ensures

pub import_set-returns-in-Some-Step : goal.import_set-returns-in-Some-Step
import_set-returns-in-Some-Step t c =
    let is = by_word c.args.file.now c.args.datum.now c.in-Some-split_first.head.now c.in-Some-split_first.others.now c.in-Some.items.now (Some (set.Step c.in-Some-Step.word))
    c.in-Some.ensures c.in-Some-split_first.ensures.cases.0 (cc) in
    rw is c.stepped.ensures
