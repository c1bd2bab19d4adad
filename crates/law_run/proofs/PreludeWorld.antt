-- A world with the codes of the texts, as they are written out, is whole.
use Rattle.std.proofs.Common.{◌≡◌, ◌==◌, ℕ, Bool, true, false, List, [], ◌∷◌, map, refl, sym, subst, inl, inr}
use Rattle.std.specs.Prelude.{IsTrue, ◌||◌}
use Rattle.std.specs.Bool.{Decides}
use Rattle.std.specs.List.{flat_map}
use Rattle.std.proofs.lemmas.Bool.Decides.{Decides-or}
use Rattle.std.specs.Cmp.{unsigned_Decides}
use Rattle.base_data.proofs.ElementLemmas.{each-at}
use Rattle.base_data.specs.Elements.{Each}
use Rattle.base_data.specs.Same.{same_library, same_library_decides}
use Rattle.base_data.specs.declared.library.LibName.TheVariants as library
use Rattle.base_data.specs.declared.name.CodeNo.{CodeNo}
use Rattle.base_data.specs.declared.op.names.TheConstants as names
use Rattle.core_language.specs.Core.{PlainCore, PlainCode}
use Rattle.law_core.specs.Parts.{code_numbers}
use Rattle.law_core.specs.Scope.{Closed, closed}
use Rattle.law_core.specs.WellMade.{IsWellMade, is_well_made, same_code}
use Rattle.law_core.proofs.Decisions.{code_decides, once_decides, each_decides}
use Rattle.law_core.proofs.ScopeLemmas.{closed_decides}
use Rattle.law_core.proofs.WellMadeLemmas.{well_made_decides}
use Rattle.eval_code.specs.Codes.{code_at}
use Rattle.eval_code.specs.Procedures.{has_text}
use Rattle.law_given.specs.Codes.{map_text, for_each_text, for_all_text, exists_text, filter_text, remp_text, find_text, memp_text, fold_left_text, fold_right_text}
use Rattle.law_given.specs.Texts.{written_table}
use Rattle.eval_value.specs.Cells.{is_found}
use Rattle.law_whole.specs.Beginning.{text_code, HasText}
use Rattle.law_whole.specs.WholeWorld.{WholeWorld}
use Rattle.law_whole.proofs.Beginnings.{first_worlds_whole, by_test}
use Rattle.law_stuck.specs.Behind.{IsOfTexts}
use Rattle.law_steady.specs.Libraries.{AreTexts}
use Rattle.law_steady.proofs.Libraries.{found_there}

-- the texts, each as the procedure whose body it is
abbrev texts : List PlainCore
texts =
    text_code names.MAP map_text ∷ text_code names.FOR_EACH for_each_text ∷ text_code names.FOR_ALL for_all_text ∷ text_code names.EXISTS exists_text ∷ text_code names.FILTER filter_text ∷
    text_code names.REMP remp_text ∷ text_code names.FIND find_text ∷ text_code names.MEMP memp_text ∷ text_code names.FOLD_LEFT fold_left_text ∷ text_code names.FOLD_RIGHT fold_right_text ∷ []

-- ---- the op of a text is one of ten

no-more : (X : Type 0) → false ≡ true → X
no-more X e = absurd (cc)

is-op : (op k : ℕ) → (op == k) ≡ true → HasText texts k → HasText texts op
is-op op k e a = subst (HasText texts) (sym ((unsigned_Decides op k).0 e)) a

has-body : (op : ℕ) → has_text op ≡ true → HasText texts op
unfolding has_text
has-body op h =
    by_test (op == names.FOR_EACH) _ _ (HasText texts op) (λ e. is-op op names.FOR_EACH e (record { body = for_each_text; among = inr (inl refl); gives = tt })) (λ h.
    by_test (op == names.MAP) _ _ (HasText texts op) (λ e. is-op op names.MAP e (record { body = map_text; among = inl refl; gives = tt })) (λ h.
    by_test (op == names.FIND) _ _ (HasText texts op) (λ e. is-op op names.FIND e (record { body = find_text; among = inr (inr (inr (inr (inr (inr (inl refl)))))); gives = refl })) (λ h.
    by_test (op == names.FOR_ALL) _ _ (HasText texts op) (λ e. is-op op names.FOR_ALL e (record { body = for_all_text; among = inr (inr (inl refl)); gives = tt })) (λ h.
    by_test (op == names.EXISTS) _ _ (HasText texts op) (λ e. is-op op names.EXISTS e (record { body = exists_text; among = inr (inr (inr (inl refl))); gives = tt })) (λ h.
    by_test (op == names.FILTER) _ _ (HasText texts op) (λ e. is-op op names.FILTER e (record { body = filter_text; among = inr (inr (inr (inr (inl refl)))); gives = refl })) (λ h.
    by_test (op == names.FOLD_LEFT) _ _ (HasText texts op) (λ e. is-op op names.FOLD_LEFT e (record { body = fold_left_text; among = inr (inr (inr (inr (inr (inr (inr (inr (inl refl)))))))); gives = tt })) (λ h.
    by_test (op == names.FOLD_RIGHT) _ _ (HasText texts op) (λ e. is-op op names.FOLD_RIGHT e (record { body = fold_right_text; among = inr (inr (inr (inr (inr (inr (inr (inr (inr (inl refl))))))))); gives = tt })) (λ h.
    by_test (op == names.REMP) _ _ (HasText texts op) (λ e. is-op op names.REMP e (record { body = remp_text; among = inr (inr (inr (inr (inr (inl refl))))); gives = tt })) (λ h.
    by_test (op == names.MEMP) _ _ (HasText texts op) (λ e. is-op op names.MEMP e (record { body = memp_text; among = inr (inr (inr (inr (inr (inr (inr (inl refl))))))); gives = refl })) (λ h.
    no-more (HasText texts op) h) h) h) h) h) h) h) h) h) h) h

-- ---- each is closed and well made, and no two codes have one number

all-closed : Each (Closed []) texts
all-closed = (each_decides (closed []) (Closed []) (closed_decides []) texts).0 refl

all-made : Each (IsWellMade []) texts
all-made = (each_decides (is_well_made []) (IsWellMade []) (well_made_decides []) texts).0 refl

texts-whole : WholeWorld (record { codes = written_table; globals = []; frames = [] }) []
texts-whole = first_worlds_whole texts [] has-body all-closed all-made ((once_decides same_code code_decides (flat_map code_numbers texts)).0 refl)

-- ---- names

abbrev is_text : CodeNo → Bool
is_text n = same_library n.0.library library.Core || same_library n.0.library library.Prelude

text-decides : (n : CodeNo) → Decides (is_text n) (IsOfTexts n.0.library)
text-decides n =
    Decides-or (same_library n.0.library library.Core) (same_library n.0.library library.Prelude) (same_library_decides n.0.library library.Core) (same_library_decides n.0.library library.Prelude)

all-named : Each (λ (n : CodeNo). IsOfTexts n.0.library) (map (λ (e : CodeNo × PlainCode). e.0) written_table)
all-named = (each_decides is_text (λ (n : CodeNo). IsOfTexts n.0.library) text-decides (map (λ (e : CodeNo × PlainCode). e.0) written_table)).0 refl

texts-named : (n : CodeNo) → IsTrue (is_found (code_at written_table n)) → IsOfTexts n.0.library
texts-named n h =
    each-at (λ (m : CodeNo). IsOfTexts m.0.library) (map (λ (e : CodeNo × PlainCode). e.0) written_table) n all-named (found_there written_table n h)

pub written-texts : AreTexts written_table
written-texts = record { whole = texts-whole; named = texts-named }
