use Rattle.std.proofs.Common.{◌≡◌, ◌∙◌, ap, subst, map}
use Rattle.std.specs.Prelude.{IfOk}
use Rattle.run_xref.specs.Binders.{BinderPlaces, row_by}
use Rattle.run_xref.specs.Map.{binding_map, ranked_pairs, rows_among}
use Rattle.run_xref.specs.Ranked.{ranked}
use Rattle.run_xref.specs.Rows.{FileNames, pair_at}
use Rattle.run_xref.proofs.Binding.{all_rows}
use Rattle.run_xref.proofs.map.binding_map.Goals as goal

pub returns : goal.returns
unfolding binding_map
returns c =
    let links = c.args.links.now in
    let files = c.in_ok-files.files in
    let rows : c.in_ok-rows_of.field-0 ≡ rows_among files links links =
    c.in_ok-rows_of.ensures ∙ ap (λ (bs : BinderPlaces). map (row_by files bs) links) c.in_ok-binders.ensures ∙ all_rows files links links in
    let same = c.as_slice.ensures ∙ c.ranked-rows.ensures ∙ ap ranked rows in
    subst (λ x. IfOk c.pairs_at.result (λ pairs. pairs ≡ x)) (ap (map (pair_at files)) same ∙ ap (λ (fs : FileNames). ranked_pairs fs (rows_among fs links links)) c.in_ok-files.ensures) c.pairs_at.ensures
