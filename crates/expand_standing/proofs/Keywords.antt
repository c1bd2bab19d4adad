-- A number that is no keyword's is that of no core form.
use Rattle.std.proofs.Common.{◌≡◌, ℕ, Bool, true, false, List, [], ◌∷◌, Option, None, Some, refl, sym, ap, ◌∙◌, cond}
use Rattle.std.proofs.lemmas.Bool.{eqb-true}
use Rattle.std.specs.Prelude.{◌==◌, ◌&&◌}
use Rattle.base_data.specs.Op.{is_keyword}
use Rattle.core_language.specs.CoreForm.{number, first_numbered, at_number}
use Rattle.core_language.specs.declared.core_form.CoreForm.{CoreForm}
use Rattle.core_language.specs.declared.core_form.TheConstants.{CORE_FORMS}

abbrev are_keywords : List CoreForm → Bool
are_keywords [] = true
are_keywords (f ∷ fs) = is_keyword (number f) && are_keywords fs

first-of : (a b : Bool) → (a && b) ≡ true → a ≡ true
first-of true b h = refl
first-of false b h = h

rest-of : (a b : Bool) → (a && b) ≡ true → b ≡ true
rest-of true b h = h
rest-of false b h = absurd (cc)

none_among : (fs : List CoreForm) (n : ℕ) → are_keywords fs ≡ true → is_keyword n ≡ false → first_numbered fs n ≡ None
none_among [] n h k = refl
none_among (f ∷ fs) n h k = by (number f == n) refl (none_among fs n (rest-of (is_keyword (number f)) (are_keywords fs) h) k) where
  by : (b : Bool) → number f == n ≡ b → first_numbered fs n ≡ None → cond b (Some f) (first_numbered fs n) ≡ None
  by true e rest = let both : true ≡ false = sym (first-of (is_keyword (number f)) (are_keywords fs) h) ∙ ap is_keyword (eqb-true (number f) n e) ∙ k in absurd (cc)
  by false e rest = rest

pub no_form : (n : ℕ) → is_keyword n ≡ false → at_number n ≡ None
no_form n k = none_among CORE_FORMS n refl k
