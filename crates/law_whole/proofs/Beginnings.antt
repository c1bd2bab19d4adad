-- First worlds are whole, one of them exists, and broken worlds are not whole.
use Rattle.std.proofs.Common.{◌≡◌, ◌==◌, ℕ, Bool, true, false, List, [], ◌∷◌, ◌++◌, Option, None, Some, cond, map, refl, ap, sym, subst, ◌∙◌, slice_get, inl, inr}
use Rattle.std.specs.Prelude.{IsTrue, is_some}
use Rattle.std.specs.List.{flat_map}
use Rattle.std.specs.Cmp.{unsigned_Decides}
use Rattle.std.proofs.lemmas.Grind.{flat_map-append}
use Rattle.base_data.proofs.ElementLemmas.{among-map, each-at, each-flat}
use Rattle.base_data.specs.Elements.{Each, Among, Once}
use Rattle.base_data.specs.declared.library.LibName.{LibName}
use Rattle.base_data.specs.declared.library.LibName.TheVariants as library
use Rattle.base_data.specs.declared.name.CodeNo.{CodeNo}
use Rattle.base_data.specs.declared.op.names.TheConstants as names
use Rattle.core_language.specs.Core.{PlainCore}
use Rattle.law_core.specs.Parts.{parts, own_number, code_numbers}
use Rattle.law_core.specs.Scope.{Closed}
use Rattle.law_core.specs.WellMade.{IsWellMade}
use Rattle.law_core.proofs.Decisions.{code_decides, once_decides}
use Rattle.eval_value.specs.Cells.{has_variables, is_found, pair_in}
use Rattle.eval_value.specs.declared.cell.Cell.{Cell}
use Rattle.eval_code.specs.Codes.{Codes, same_code, code_at, with_codes}
use Rattle.eval_code.specs.Procedures.{has_text, text_number, text_body}
use Rattle.eval_code.specs.Setting.{PlainSetting}
use Rattle.law_whole.specs.Beginning.{codes_in, first_world, text_code, HasText, FirstWorldsAreWhole, lambda_number, lambda_of, example_text, ops_with_text, OneIsWhole, BrokenAreNotWhole}
use Rattle.law_whole.specs.Ready.{Ready, FoundFrom, BoundFrom}
use Rattle.law_whole.specs.WholeWorld.{CodeReady, TextReady}
use Rattle.law_whole.proofs.Numbered.{CodeStands, added, then_added, codes_added, all_stand}
use Rattle.law_whole.proofs.Records.{well_made_ready}
use Rattle.law_whole.proofs.Steady.{ready_map}

codes_in_added : (cs : List PlainCore) (old : Codes) → codes_in cs old ≡ added (flat_map parts cs) old
codes_in_added [] old = refl
codes_in_added (c ∷ cs) old = then_added (codes_in cs) (parts c) (flat_map parts cs) old (with_codes c old) (codes_added c old) (codes_in_added cs)

numbers_in : (cs : List PlainCore) → flat_map own_number (flat_map parts cs) ≡ flat_map code_numbers cs
numbers_in [] = refl
numbers_in (c ∷ cs) = flat_map-append own_number (parts c) (flat_map parts cs) ∙ ap (λ ns. code_numbers c ++ ns) (numbers_in cs)

no_cell : (n : ℕ) (c : Cell) → slice_get [] n ≡ Some c → ⊥
no_cell n c e = cc

pub first_worlds_whole : FirstWorldsAreWhole
first_worlds_whole cs frames texts closed made once = record {
  whole = record { lies = λ n c e. absurd (no_cell n c e) };
  values = λ n c e. absurd (no_cell n c e);
  globals = tt;
  texts = λ op e. text_there op (texts op e);
}
  where
    w : PlainSetting
    w = first_world cs frames

    stand : Each (λ c. Each (CodeStands w.codes) (parts c)) cs
    stand = each-flat (CodeStands w.codes) parts cs
        (subst (λ old. Each (CodeStands old) (flat_map parts cs)) (sym (codes_in_added cs [])) (all_stand (flat_map parts cs) [] (subst Once (sym (numbers_in cs)) once)))

    ready : (c : PlainCore) → Among cs c → Ready w (FoundFrom w [] None) (BoundFrom [] None) c
    ready c a =
        well_made_ready w (FoundFrom w [] None) (BoundFrom [] None) [] c (λ l b. absurd b) (each-at (Closed []) cs c closed a) (each-at (IsWellMade []) cs c made a)
        (each-at (λ d. Each (CodeStands w.codes) (parts d)) cs c stand a)

    text_there : (op : ℕ) → HasText cs op → TextReady w [] (text_body (code_at w.codes (text_number op)))
    text_there op t =
        let r = ready (text_code op t.body) t.among in
        subst (λ o. TextReady w [] (text_body o)) (sym r.0) (
          t.gives,
          ready_map w w (λ number code k. k) _ (FoundFrom w [] None) (BoundFrom [] None) (BoundFrom [] None)
              (λ l h. elim h [ inl k ↦ absurd (cc) | inr k ↦ k ]) (λ l d h. h) t.body r.1.0,
        )

-- The example.

pub by_test : (t : Bool) (x : List ℕ) (r : Option (List ℕ)) (X : Type 0) → (t ≡ true → X) → (is_some r ≡ true → X) → is_some (cond t (Some x) r) ≡ true → X
by_test true x r X k j h = k refl
by_test false x r X k j h = j h

no_more : (X : Type 0) → false ≡ true → X
no_more X e = absurd (cc)

is_op : (op k : ℕ) → (op == k) ≡ true → Among ops_with_text k → Among ops_with_text op
is_op op k e a = subst (Among ops_with_text) (sym ((unsigned_Decides op k).0 e)) a

op_of_text : (op : ℕ) → has_text op ≡ true → Among ops_with_text op
unfolding has_text
op_of_text op h =
    by_test (op == names.FOR_EACH) _ _ (Among ops_with_text op) (λ e. is_op op names.FOR_EACH e (inl refl)) (λ h.
    by_test (op == names.MAP) _ _ (Among ops_with_text op) (λ e. is_op op names.MAP e (inr (inl refl))) (λ h.
    by_test (op == names.FIND) _ _ (Among ops_with_text op) (λ e. is_op op names.FIND e (inr (inr (inl refl)))) (λ h.
    by_test (op == names.FOR_ALL) _ _ (Among ops_with_text op) (λ e. is_op op names.FOR_ALL e (inr (inr (inr (inl refl))))) (λ h.
    by_test (op == names.EXISTS) _ _ (Among ops_with_text op) (λ e. is_op op names.EXISTS e (inr (inr (inr (inr (inl refl)))))) (λ h.
    by_test (op == names.FILTER) _ _ (Among ops_with_text op) (λ e. is_op op names.FILTER e (inr (inr (inr (inr (inr (inl refl))))))) (λ h.
    by_test (op == names.FOLD_LEFT) _ _ (Among ops_with_text op) (λ e. is_op op names.FOLD_LEFT e (inr (inr (inr (inr (inr (inr (inl refl)))))))) (λ h.
    by_test (op == names.FOLD_RIGHT) _ _ (Among ops_with_text op) (λ e. is_op op names.FOLD_RIGHT e (inr (inr (inr (inr (inr (inr (inr (inl refl))))))))) (λ h.
    by_test (op == names.REMP) _ _ (Among ops_with_text op) (λ e. is_op op names.REMP e (inr (inr (inr (inr (inr (inr (inr (inr (inl refl)))))))))) (λ h.
    by_test (op == names.MEMP) _ _ (Among ops_with_text op) (λ e. is_op op names.MEMP e (inr (inr (inr (inr (inr (inr (inr (inr (inr (inl refl))))))))))) (λ h.
    no_more (Among ops_with_text op) h) h) h) h) h) h) h) h) h) h) h

abbrev library_of : CodeNo → LibName
library_of n = n.0.library

abbrev is_core : LibName → Bool
is_core library.Core = true
is_core _ = false

apart : (op : ℕ) (number : CodeNo) → is_core (library_of number) ≡ false → text_number op ≡ number → ⊥
apart op number h e = let k : true ≡ false = ap (λ m. is_core (library_of m)) e ∙ h in cc

examples_closed : (ops : List ℕ) → Each (Closed []) (map example_text ops)
examples_closed [] = tt
examples_closed (op ∷ ops) = (((tt, tt), tt), examples_closed ops)

examples_made : (ops : List ℕ) → Each (IsWellMade []) (map example_text ops)
examples_made [] = tt
examples_made (op ∷ ops) = (
  record {
    forms = (refl, (refl, (tt, tt)));
    leaves = tt;
    named_ops = tt;
    bound_once = tt;
    numbered_once = ((λ a. elim a [ inl e ↦ apart op (lambda_number op) refl e | inr b ↦ absurd b ]), ((λ a. absurd a), tt));
    unmentioned = tt;
    templates = ((tt, tt), tt);
  },
  examples_made ops,
)

pub one_is_whole : OneIsWhole
one_is_whole =
    first_worlds_whole (map example_text ops_with_text) []
    (λ op h. record { body = lambda_of op; among = among-map example_text ops_with_text op (op_of_text op h); gives = tt })
    (examples_closed ops_with_text) (examples_made ops_with_text)
    ((once_decides same_code code_decides (flat_map code_numbers (map example_text ops_with_text))).0 refl)

-- Broken worlds.

no_variables : false ≡ true → ⊥
no_variables e = cc

pub broken_not_whole : BrokenAreNotWhole
broken_not_whole w cells = record {
  no_code = λ n l number place es parent e h world. subst (CodeReady w cells place) h ((world.values n _ e).0.ready);
  no_parent = λ n es place e h world. no_variables (subst (λ o. IsTrue (has_variables o)) h (world.whole.lies n _ e).1.1);
  no_pair = λ n place x e h world. no_variables (subst (λ o. IsTrue (is_found (pair_in o))) h (world.whole.lies n _ e).0.fits);
  no_text = λ op t h world. subst (λ o. TextReady w cells (text_body o)) h (world.texts op t);
}
