use Rattle.law_given.specs.Calls.{call_to, call_of}
use Rattle.law_given.proofs.Enough.{some-fuel}
use Rattle.law_given.proofs.Unique.{gives-one-value, gives-one-state}
use Rattle.law_given.proofs.laws.some_fuel_is_enough.Goals as goal

pub returns : goal.returns
returns c = record {
  enough = some-fuel;
  one = λ w f args s v x t u g h. (gives-one-value (call_of w (call_to f args) s) v x t u g h, gives-one-state (call_of w (call_to f args) s) v x t u g h);
}
