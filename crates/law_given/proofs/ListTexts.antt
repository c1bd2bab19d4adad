-- `filter`, `find` and `memp`, by their texts.
use Rattle.std.proofs.Common.{List, [], ◌∷◌, refl}
use Rattle.base_data.specs.declared.op.names.TheConstants as names
use Rattle.eval_value.specs.declared.value.Value.{Value}
use Rattle.eval_value.specs.declared.value.Value.TheVariants as value
use Rattle.eval_code.specs.Procedures.{has_text}
use Rattle.eval_code.specs.Setting.{PlainSetting}
use Rattle.eval_code.specs.State.{WorldState}
use Rattle.law_eval.specs.Kept.{LaterWorld}
use Rattle.law_lists.specs.Runs.{IsList}
use Rattle.law_given.specs.Calls.{call_to}
use Rattle.law_given.specs.Codes.{code_no, filter_loop, find_loop, memp_loop}
use Rattle.law_given.specs.Given.{Filters, Finds, first_or_false, FindsTail}
use Rattle.law_given.specs.InTurn.{AllGive, SearchGives, chosen}
use Rattle.law_given.proofs.Later.{list-later, in-turn-from, all-give-later, search-from, search-gives-later}
use Rattle.law_given.proofs.Knows.{Knows}
use Rattle.law_given.proofs.LoopText.{home_place, ready, ready-home, ready-later, loop-by}
use Rattle.law_given.proofs.FilterLoop.{filter-loop}
use Rattle.law_given.proofs.FindLoop.{find-loop}
use Rattle.law_given.proofs.MempLoop.{memp-loop}

module _ (w : PlainSetting) (knows : Knows w.codes) (f l : Value) (xs : List Value) (s : WorldState) (r : IsList s.cells xs l) where
  pub filter-given : AllGive w f xs s → Filters w (call_to (value.Prim (record { 0 = names.FILTER })) (f ∷ l ∷ [])) f chosen xs s
  unfolding has_text
  filter-given give = record {
    value = m.value;
    state = m.state;
    called = loop-by w s 60 61 names.FILTER (63 ∷ 64 ∷ []) filter_loop refl refl refl (f ∷ l ∷ []) m.value m.state knows.filter_text refl m.called;
    answers = m.answers;
    in_turn = in-turn-from w f xs m.answers s at m.state behind m.in_turn;
    list = m.list;
  }
    where
      at : WorldState
      at = ready w s 60 61

      behind : LaterWorld s at
      behind = ready-later w s 60 61

      m : Filters w (call_to (value.Closure (code_no 61) (home_place w s 60 61)) (f ∷ l ∷ [])) f chosen xs at
      m = filter-loop w knows.filter_loop f (home_place w s 60 61) xs l at (ready-home w s 60 61) (list-later s at behind xs l r) (all-give-later w f xs s at behind give)

  pub find-given : SearchGives w f xs s → Finds w (call_to (value.Prim (record { 0 = names.FIND })) (f ∷ l ∷ [])) f xs s
  unfolding has_text
  find-given give = record {
    state = m.state;
    rest = m.rest;
    search = search-from w f xs m.rest s at m.state behind m.search;
    called = loop-by w s 77 78 names.FIND (80 ∷ 81 ∷ []) find_loop refl refl refl (f ∷ l ∷ []) (first_or_false m.rest) m.state knows.find_text refl m.called;
  }
    where
      at : WorldState
      at = ready w s 77 78

      behind : LaterWorld s at
      behind = ready-later w s 77 78

      m : Finds w (call_to (value.Closure (code_no 78) (home_place w s 77 78)) (f ∷ l ∷ [])) f xs at
      m = find-loop w knows.find_loop f (home_place w s 77 78) xs l at (ready-home w s 77 78) (list-later s at behind xs l r) (search-gives-later w f xs s at behind give)

  pub memp-given : SearchGives w f xs s → FindsTail w (call_to (value.Prim (record { 0 = names.MEMP })) (f ∷ l ∷ [])) f l xs s
  unfolding has_text
  memp-given give = record {
    value = m.value;
    state = m.state;
    called = loop-by w s 85 86 names.MEMP (88 ∷ 89 ∷ []) memp_loop refl refl refl (f ∷ l ∷ []) m.value m.state knows.memp_text refl m.called;
    rest = m.rest;
    search = search-from w f xs m.rest s at m.state behind m.search;
    tail = m.tail;
  }
    where
      at : WorldState
      at = ready w s 85 86

      behind : LaterWorld s at
      behind = ready-later w s 85 86

      m : FindsTail w (call_to (value.Closure (code_no 86) (home_place w s 85 86)) (f ∷ l ∷ [])) f l xs at
      m = memp-loop w knows.memp_loop f (home_place w s 85 86) xs l at (ready-home w s 85 86) (list-later s at behind xs l r) (search-gives-later w f xs s at behind give)
