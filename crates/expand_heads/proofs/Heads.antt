-- Heads by symbol, as a map in memory has them.
use Rattle.std.proofs.Common.{◌≡◌, ℕ, Bool, true, false, List, [], ◌∷◌, ◌++◌, Option, None, Some, refl, sym, ap, ◌∙◌, true≢false}
use Rattle.std.specs.Prelude.{nat_eq, is_some, if◌then◌else◌}
use Rattle.std.specs.Cmp.Lexicographic.{pointwise}
use Rattle.std.specs.Map.{set_value}
use Rattle.indexmap.specs.IndexMap.{IndexMap, insert_entry}
use Rattle.indexmap.proofs.CallerLemmas.{insert_entry-new}
use Rattle.expand_heads.specs.declared.taken.KeptHead.{KeptHead}
use Rattle.expand_heads.specs.Kept.{Heads, found, or_none, with_head}

abbrev same : List ℕ → List ℕ → Bool
same a b = pointwise nat_eq a b

none_if : (o : Option (List KeptHead)) → is_some o ≡ false → o ≡ None
none_if None h = refl
none_if (Some x) h = absurd (true≢false h)

-- a symbol that has none
pub head_first : {S : Type 0} (m : IndexMap (List ℕ) (List KeptHead) S) (hs gs : Heads) (x : List ℕ) (new : List KeptHead) (k : KeptHead) → is_some (found k.symbol hs) ≡ false → m.entries ≡ hs
    → x ≡ k.symbol → new ≡ k ∷ [] → gs ≡ insert_entry same m.entries x new → gs ≡ with_head hs k
head_first m hs gs x new k h view name one made =
    let absent : found x m.entries ≡ None = ap (λ y. found y m.entries) name ∙ ap (found k.symbol) view ∙ none_if (found k.symbol hs) h in
    let given : with_head hs k ≡ hs ++ (k.symbol, k ∷ []) ∷ [] =
    ap (λ b. if b then set_value (same k.symbol) hs (or_none (found k.symbol hs) ++ k ∷ []) else hs ++ (k.symbol, k ∷ []) ∷ []) h in
    made ∙ insert_entry-new same m x new absent ∙ (λ i. view i ++ (name i, one i) ∷ []) ∙ sym given
