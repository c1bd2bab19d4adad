-- What a memo has kept.
use Rattle.std.specs.Prelude.{◌≡◌, ℕ, ◌<◌, ◌⊎◌, List, [], ◌∷◌, length, get_or, Option, refl}
use Rattle.std.specs.Coded.{Coded, code_by, coded×, coded_ℕ, coded_list, coded_option}
use Rattle.base_data.specs.declared.name.Label.{Label}
use Rattle.base_data.specs.contracts.name.Label as labels
use Rattle.stx_tree.specs.declared.stamp.Stamp.{Stamp}
use Rattle.stx_tree.specs.contracts.stamp.Stamp as stamps
use Rattle.stx_frames.specs.declared.memo.Asked.{Asked}
use Rattle.stx_frames.specs.declared.memo.Answer.{Answer}

-- a question, and its answer with the sizes that it depends on
pub record KeptAnswer : Type 0 where
  pub symbol : List ℕ
  pub stamps : List Stamp
  pub label : Option Label
  pub sizes : List ℕ

abbrev pub kept_code : Coded KeptAnswer
kept_code =
    code_by (List ℕ × (List Stamp × (Option Label × List ℕ)))
    (coded× (coded_list coded_ℕ) (coded× (coded_list stamps.the_row.coded) (coded× (coded_option labels.the_row.coded) (coded_list coded_ℕ))))
    (λ k. (k.symbol, (k.stamps, (k.label, k.sizes)))) (λ p. record { symbol = p.0; stamps = p.1.0; label = p.1.1.0; sizes = p.1.1.1 }) (λ _. refl)

abbrev pub kept : List ℕ → List Stamp → Answer → KeptAnswer
kept s ts a = record { symbol = s; stamps = ts; label = a.label; sizes = a.sizes }

-- the stamps that were asked, from their number in the table
abbrev pub kept_at : List (List Stamp) → Asked × Answer → KeptAnswer
kept_at tss e = kept e.0.symbol (get_or tss e.0.stamps []) e.1

abbrev pub kept_of : List (List Stamp) → List (Asked × Answer) → List KeptAnswer
kept_of tss [] = []
kept_of tss (e ∷ es) = kept_at tss e ∷ kept_of tss es

-- each number is one of the table
abbrev pub AreNumbered : List (List Stamp) → List (Asked × Answer) → Type 0
AreNumbered tss [] = Unit {0}
AreNumbered tss (e ∷ es) = (e.0.stamps < length tss) × AreNumbered tss es

abbrev pub Has : KeptAnswer → List KeptAnswer → Type 0
Has k [] = ⊥
Has k (x ∷ xs) = (k ≡ x) ⊎ Has k xs
