use Rattle.std.proofs.Common.{◌∙◌, sym, ap}
use Rattle.std.proofs.lemmas.List.Filters.{dedup_is}
use Rattle.std.proofs.lemmas.List.Kept.{IsStrictlySortedBy-dedup}
use Rattle.std.proofs.lemmas.List.Sorted.{list_any-IsPermutation}
use Rattle.run_xref.specs.Ranked.{same_row, among, ranked}
use Rattle.run_xref.specs.contracts.rows.LinkRowOrd.TheImpl.Laws as row_laws
use Rattle.run_xref.proofs.Ranking.{ranked_rises, among_ranked, among_dedup, rising_is}
use Rattle.run_xref.proofs.ranked.ranked.Goals as goal

pub returns : goal.returns
returns c =
    let is = c.from_vec.ensures ∙ dedup_is _ _ _ c.dedup.ensures.filtered in
    is ∙ rising_is _ (ranked c.args.rows)
    (IsStrictlySortedBy-dedup row_laws.total-law row_laws.matches_eq-law _ c.sort_unstable.ensures.sorted)
    (ranked_rises c.args.rows)
    (λ r. among_dedup r _ ∙ sym (list_any-IsPermutation (same_row r) _ _ c.sort_unstable.ensures.permutation) ∙ ap (among r) c.into_vec-list.ensures ∙ sym (among_ranked r c.args.rows))
