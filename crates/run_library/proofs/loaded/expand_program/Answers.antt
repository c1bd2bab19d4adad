use Rattle.std.proofs.Common.{◌≡◌, ℕ, ◌+◌, ◌∷◌, true, ap, subst, ◌∙◌}
use Rattle.std.specs.Prelude.{OnOk}
use Rattle.std.proofs.lemmas.Result.{err_from_is_err_and}
use Rattle.base_data.specs.Gives.{Gives}
use Rattle.expand_forms.specs.declared.top.Linked.{Linked}
use Rattle.load_forms.specs.Form.{program_body}
use Rattle.run_prelude.specs.Prelude.{kept}
use Rattle.run_library.proofs.BodyLemmas.{read_given, read_spent, read_stops}
use Rattle.run_library.proofs.loaded.expand_program.Goals as goal

pub returns-in_err-unexpanded-clause-linked : goal.returns-in_err-unexpanded-clause-linked
returns-in_err-unexpanded-clause-linked g c =
    let p = err_from_is_err_and c.from_residual-in_err-unexpanded.result c.from_residual-in_err-unexpanded.ensures.1 in
    let opened = c.args.found.opened in
    rw (p.1, p.2) (read_stops (kept c.args.implementation.now.prelude) c.args.records.now opened.path opened.form c.args.found.needs (program_body opened.«data») c.program_body-data.result.now c.as_slice-2.result.now c.in_err-unexpanded.field-0.0
    (c.as_slice-2.ensures ∙ c.in_ok-marks.ensures ∙ ap (λ ns. true ∷ ns) c.as_slice.ensures) (c.program_body-data.ensures ∙ ap program_body c.as_slice-3.ensures) c.in_err-unexpanded.ensures)

pub returns-clause-linked : goal.returns-clause-linked
returns-clause-linked g c =
    let opened = c.args.found.opened in
    let again = c.as_slice-2.result.now in
    subst (Gives (λ (l : Linked). l) c.expand_body.result)
    (read_given (kept c.args.implementation.now.prelude) c.args.records.now opened.path opened.form c.args.found.needs (program_body opened.«data») c.program_body-data.result.now c.as_slice-2.result.now again c.in_ok-unexpanded.unexpanded
    (c.as_slice-2.ensures ∙ c.in_ok-marks.ensures ∙ ap (λ ns. true ∷ ns) c.as_slice.ensures) (c.as_slice-2.ensures ∙ c.in_ok-marks.ensures ∙ ap (λ ns. true ∷ ns) c.as_slice.ensures)
    (c.program_body-data.ensures ∙ ap program_body c.as_slice-3.ensures) c.in_ok-unexpanded.ensures)
    c.expand_body.ensures.linked

pub returns-clause-fuel : goal.returns-clause-fuel
returns-clause-fuel g c =
    let opened = c.args.found.opened in
    let again = c.as_slice-2.result.now in
    subst (λ (n : ℕ). OnOk c.expand_body.result (c.expand_body.new.tally.fuel ≡ c.args.tally.now.fuel + n))
    (read_spent (kept c.args.implementation.now.prelude) c.args.records.now opened.path opened.form c.args.found.needs (program_body opened.«data») c.program_body-data.result.now c.as_slice-2.result.now again c.in_ok-unexpanded.unexpanded
    (c.as_slice-2.ensures ∙ c.in_ok-marks.ensures ∙ ap (λ ns. true ∷ ns) c.as_slice.ensures) (c.as_slice-2.ensures ∙ c.in_ok-marks.ensures ∙ ap (λ ns. true ∷ ns) c.as_slice.ensures)
    (c.program_body-data.ensures ∙ ap program_body c.as_slice-3.ensures) c.in_ok-unexpanded.ensures)
    c.expand_body.ensures.fuel
