use Rattle.std.proofs.Common.{◌∙◌, sym, ap}
use Rattle.std.specs.Prelude.{nat_eq}
use Rattle.std.proofs.lemmas.List.Filters.{dedup_is}
use Rattle.std.proofs.lemmas.List.Sorted.{list_any-IsPermutation}
use Rattle.std.proofs.lemmas.Map.Keys.{IsStrictlyIncreasing-dedup}
use Rattle.load_import.specs.Shared.{among}
use Rattle.load_import.proofs.FoundLemmas.{among_dedup}
use Rattle.load_import.proofs.found.in_order.Goals as goal

pub returns : goal.returns
returns c =
    let is = c.from_vec.ensures ∙ dedup_is _ _ _ c.dedup.ensures.filtered in
    record {
      rises = rw is (IsStrictlyIncreasing-dedup _ c.sort_unstable.ensures.sorted);
      same = λ n. ap (among n) is ∙ among_dedup n _ ∙ sym (list_any-IsPermutation (λ m. nat_eq m n) _ _ c.sort_unstable.ensures.permutation) ∙ ap (among n) c.into_vec-list.ensures;
    }
