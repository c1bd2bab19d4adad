-- `map` of a procedure whose answers a function says.
use Rattle.std.proofs.Common.{List, [], ◌∷◌, subst}
use Rattle.base_data.specs.declared.op.names.TheConstants as names
use Rattle.eval_value.specs.declared.value.Value.{Value}
use Rattle.eval_code.specs.Setting.{PlainSetting}
use Rattle.eval_code.specs.State.{WorldState}
use Rattle.law_lists.specs.Runs.{IsList}
use Rattle.law_given.specs.Calls.{call_to}
use Rattle.law_given.specs.Given.{built_in, Maps, MapsBy}
use Rattle.law_given.specs.InTurn.{AllGiveBy}
use Rattle.law_given.proofs.Knows.{Knows}
use Rattle.law_given.proofs.MapText.{map-given}
use Rattle.law_given.proofs.Unique.{by-all, by-answers}

pub map-by : (w : PlainSetting) (knows : Knows w.codes) (f l : Value) (g : Value → Value) (xs : List Value) (s : WorldState) → IsList s.cells xs l → AllGiveBy w f g xs s
    → MapsBy w (call_to (built_in names.MAP) (f ∷ l ∷ [])) g xs s
map-by w knows f l g xs s r give = record {
  value = m.value;
  state = m.state;
  called = m.called;
  list = subst (λ ys. IsList m.state.cells ys m.value) (by-answers w f g xs m.answers s m.state give m.in_turn) m.list;
}
  where
    m : Maps w (call_to (built_in names.MAP) (f ∷ l ∷ [])) f xs s
    m = map-given w s knows f l xs r (by-all w f g xs s give)
