-- Codes of other numbers leave those of the texts where they are.
use Rattle.std.proofs.Common.{◌≡◌, [], ◌∷◌, Some, None, Bool, true, false, cond, refl, ap, sym, subst, ◌∙◌, if◌then◌else◌}
use Rattle.std.specs.Map.{lookup}
use Rattle.indexmap.specs.IndexMap.{insert_entry}
use Rattle.base_data.specs.Same.{same_name_cases}
use Rattle.base_data.specs.declared.name.CodeNo.{CodeNo}
use Rattle.core_language.specs.Core.{PlainCode}
use Rattle.eval_code.specs.Codes.{Codes, same_code, code_at, with_code}
use Rattle.law_given.specs.Texts.{written_table, Includes}

same_number : (a b : CodeNo) → same_code a b ≡ true → a ≡ b
same_number a b h = let p = (same_name_cases a.0 b.0).0 h in λ i. record { 0 = p i }

module _ (number k : CodeNo) (v : PlainCode) (apart : same_code number k ≡ false) where
  abbrev Left : Codes → Codes → Type 0
  Left new old = lookup (same_code number) new ≡ lookup (same_code number) old

  -- behind a code that is left, or in place of one with the same number
  one-left : (e : CodeNo × PlainCode) (es : Codes) → Left (insert_entry same_code es k v) es → (b : Bool) → same_code k e.0 ≡ b
      → Left (if b then (e.0, v) ∷ es else e ∷ insert_entry same_code es k v) (e ∷ es)
  one-left e es again true h =
      let other : same_code number e.0 ≡ false = subst (λ (n : CodeNo). same_code number n ≡ false) (same_number k e.0 h) apart in
      ap (λ b. cond b (Some v) (lookup (same_code number) es)) other ∙ sym (ap (λ b. cond b (Some e.1) (lookup (same_code number) es)) other)
  one-left e es again false h = ap (λ o. cond (same_code number e.0) (Some e.1) o) again

  left : (cs : Codes) → Left (insert_entry same_code cs k v) cs
  left [] = ap (λ b. cond b (Some v) None) apart
  left (e ∷ es) = one-left e es (left es) (same_code k e.0) refl

pub codes-stay : (cs : Codes) (c : PlainCode) → code_at written_table c.number ≡ None → Includes cs written_table → Includes (with_code c cs) written_table
codes-stay cs c none has number x found = by (same_code number c.number) refl
  where
    by : (b : Bool) → same_code number c.number ≡ b → code_at (with_code c cs) number ≡ Some x
    by false h = left number c.number c h cs ∙ has number x found
    by true h =
        let same : None ≡ Some x = sym none ∙ ap (code_at written_table) (sym (same_number number c.number h)) ∙ found in
        absurd (cc)
