-- The names of variables begin with a percent sign; those of primitives don't, and are no words of core text.
use Rattle.std.proofs.Common.{◌≡◌, ℕ, zero, suc, ◌+◌, ◌<◌, Bool, true, false, List, [], ◌∷◌, length, arith, refl, sym, ap, ◌∙◌, subst, Option, Some, None, get_or}
use Rattle.std.specs.Prelude.{◌==◌, ◌&&◌, ◌||◌, not, codes, unwrap_or, if◌then◌else◌}
use Rattle.std.specs.Cmp.Lexicographic.{pointwise}
use Rattle.std.specs.List.{list_all, list_any}
use Rattle.std.specs.Map.{lookup}
use Rattle.std.proofs.lemmas.Bool.{and_parts}
use Rattle.std.proofs.lemmas.Bool.Decides.{nat_tests}
use Rattle.base_data.specs.Op.{name_count, is_keyword, op_text, op_named}
use Rattle.base_data.specs.OpNames.{op_names}
use Rattle.base_data.specs.declared.name.Label.{Label}
use Rattle.core_language.specs.Labels.{same_label}
use Rattle.core_output.specs.CoreText.{VariableNames, name_of}
use Rattle.law_names.proofs.AnyName.{rest_of_name, any_rest}
use Rattle.law_names.proofs.Telling.{name_is}
use Rattle.read_printer.specs.Symbols.{symbol_text, is_subsequent}
use Rattle.law_core_grammar.specs.Names.{IsCalled, IsPrimitive, IsGenerated, AreGenerated}
use Rattle.law_core_grammar.proofs.Plain.{is_plain_name, plain_text}

-- the keywords of core expressions, and that of definitions
abbrev pub keywords : List (List ℕ)
keywords = codes "quote" ∷ codes "if" ∷ codes "set!" ∷ codes "begin" ∷ codes "lambda" ∷ codes "case-lambda" ∷ codes "letrec" ∷ codes "letrec*" ∷ []

abbrev pub is_core_keyword : List ℕ → Bool
is_core_keyword x = list_any (λ w. pointwise ◌==◌ x w) keywords

abbrev pub is_define : List ℕ → Bool
is_define x = pointwise ◌==◌ x (codes "define")

abbrev pub is_generated : List ℕ → Bool
is_generated [] = false
is_generated (b ∷ bs) = b == 0x25

-- what is told of a table of names that begins at a place
abbrev is_found : ℕ → Option ℕ → Bool
is_found n None = false
is_found n (Some m) = m == n

abbrev is_good : ℕ → List ℕ → Bool
is_good n x = is_keyword n || (is_plain_name x && (not (is_core_keyword x) && (not (is_generated x) && (not (is_define x) && is_found n (op_named x)))))

abbrev are_good : ℕ → List (List ℕ) → Bool
are_good n [] = true
are_good n (x ∷ xs) = is_good n x && are_good (n + 1) xs

table : are_good 0 op_names ≡ true
table = refl

good_at : (xs : List (List ℕ)) (k n : ℕ) → are_good k xs ≡ true → n < length xs → is_good (k + n) (get_or xs n []) ≡ true
good_at [] k n h l = absurd (omega arith)
good_at (x ∷ xs) k zero h l =
    let here : k + zero ≡ k = omega arith in
    rw here ((and_parts (is_good k x) (are_good (k + 1) xs) h).0)
good_at (x ∷ xs) k (suc n) h l =
    let there : k + suc n ≡ k + 1 + n = omega arith in
    rw there (good_at xs (k + 1) n ((and_parts (is_good k x) (are_good (k + 1) xs) h).1) (omega arith))

-- what is told of the name of a primitive
pub record IsFree (o : ℕ) : Type 0 where
  pub plain : is_plain_name (op_text o) ≡ true
  pub free : is_core_keyword (op_text o) ≡ false
  pub apart : is_generated (op_text o) ≡ false
  pub undefined : is_define (op_text o) ≡ false
  pub found : op_named (op_text o) ≡ Some o

or_right : (p q : Bool) → (p || q) ≡ true → p ≡ false → q ≡ true
or_right true q h e = absurd (cc)
or_right false q h e = h

denied : (p : Bool) → not p ≡ true → p ≡ false
denied true h = absurd (cc)
denied false h = refl

found_is : (n : ℕ) (o : Option ℕ) → is_found n o ≡ true → o ≡ Some n
found_is n None h = absurd (cc)
found_is n (Some m) h = let same : m ≡ n = grind (arith, nat_tests) in ap Some same

none_more : (o : ℕ) → 0 + o ≡ o
none_more o = omega arith

pub primitive_free : (o : ℕ) → IsPrimitive o → IsFree o
primitive_free o h =
    let x : List ℕ = op_text o in
    let count : length op_names ≡ name_count = refl in
    let good : is_good o x ≡ true = subst (λ (n : ℕ). is_good n x ≡ true) (none_more o) (good_at op_names 0 o table (omega (arith, h.0, count))) in
    let parts = or_right (is_keyword o) (is_plain_name x && (not (is_core_keyword x) && (not (is_generated x) && (not (is_define x) && is_found o (op_named x))))) good h.1 in
    let first = and_parts (is_plain_name x) (not (is_core_keyword x) && (not (is_generated x) && (not (is_define x) && is_found o (op_named x)))) parts in
    let second = and_parts (not (is_core_keyword x)) (not (is_generated x) && (not (is_define x) && is_found o (op_named x))) first.1 in
    let third = and_parts (not (is_generated x)) ((not (is_define x) && is_found o (op_named x))) second.1 in
    let fourth = and_parts (not (is_define x)) (is_found o (op_named x)) third.1 in
    record { plain = first.0; free = denied (is_core_keyword x) second.0; apart = denied (is_generated x) third.0; undefined = denied (is_define x) fourth.0; found = found_is o (op_named x) fourth.1 }

-- a generated name: a percent sign, and what may stand behind it
pub record IsPercented (x : List ℕ) : Type 0 where
  pub bytes : List ℕ
  pub same : x ≡ 0x25 ∷ bytes
  pub good : list_all is_subsequent bytes ≡ true

percented : (x : List ℕ) → IsGenerated x → IsPercented x
percented x h = record { bytes = rest_of_name h.of.library h.of.symbol h.of.number; same = h.same ∙ name_is h.of.library h.of.symbol h.of.number; good = any_rest h.of.library h.of.symbol h.of.number }

percent_plain : (bs : List ℕ) → list_all is_subsequent bs ≡ true → is_plain_name (0x25 ∷ bs) ≡ true
percent_plain bs h = rw h refl

pub generated_plain : (x : List ℕ) → IsPercented x → is_plain_name x ≡ true
generated_plain x h = ap is_plain_name h.same ∙ percent_plain h.bytes h.good

pub generated_free : (x : List ℕ) → IsPercented x → is_core_keyword x ≡ false
generated_free x h = ap is_core_keyword h.same

pub generated_undefined : (x : List ℕ) → IsPercented x → is_define x ≡ false
generated_undefined x h = ap is_define h.same

pub generated_is : (x : List ℕ) → IsPercented x → is_generated x ≡ true
generated_is x h = ap is_generated h.same

by_row : (P : List ℕ → Type 0) (b : Bool) (y : List ℕ) (others : Option (List ℕ)) (x : List ℕ) → P y → (others ≡ Some x → P x) → (if b then Some y else others) ≡ Some x → P x
by_row P true y others x p q e = subst P (some_same y x e) p where
  some_same : (y x : List ℕ) → ◌≡◌ {A = Option (List ℕ)} (Some y) (Some x) → y ≡ x
  some_same y x e = cc
by_row P false y others x p q e = q e

named_is : (names : VariableNames) → AreGenerated names → (l : Label) (x : List ℕ) → IsCalled names l x → IsGenerated x
named_is [] h l x e = absurd (cc)
named_is (r ∷ rs) h l x e = by_row IsGenerated (same_label l r.0) r.1 (lookup (same_label l) rs) x h.0 (λ f. named_is rs h.1 l x f) e

pub called_percented : (names : VariableNames) → AreGenerated names → (l : Label) (x : List ℕ) → IsCalled names l x → IsPercented x
called_percented names h l x e = percented x (named_is names h l x e)

pub called_is : (names : VariableNames) (l : Label) (x : List ℕ) → IsCalled names l x → name_of names l ≡ x
called_is names l x e = ap (λ o. unwrap_or o []) e

pub called_text : (names : VariableNames) → AreGenerated names → (l : Label) (x : List ℕ) → IsCalled names l x → name_of names l ≡ symbol_text x
called_text names h l x e = called_is names l x e ∙ sym (plain_text x (generated_plain x (called_percented names h l x e)))
