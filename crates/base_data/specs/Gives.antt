-- What a call answers, against what its definition gives: only want of memory is free.
use Rattle.std.specs.Prelude.{◌≡◌, Result, Ok, Err}
use Rattle.base_data.specs.declared.fault.Fault.{Fault}
use Rattle.base_data.specs.declared.fault.Bare.{Bare}
use Rattle.base_data.specs.declared.fault.Stop.{Stop}
use Rattle.base_data.specs.declared.fault.Stop.TheVariants as stop
use Rattle.base_data.specs.declared.fault.BareStop.{BareStop}
use Rattle.base_data.specs.declared.fault.BareStop.TheVariants as bare_stop

-- one definition after another: the first fault is the fault of both
infixl 10 ◌>>=◌
abbrev pub ◌>>=◌ : {A B F : Type 0} → Result A F → (A → Result B F) → Result B F
(Ok x) >>= f = f x
(Err e) >>= f = Err e

-- a stop is the definition's fault, or want of memory
abbrev pub Stops : {A : Type 0} → Stop → Result A Fault → Type 0
Stops (stop.Fault f) given = given ≡ Err f
Stops stop.Memory given = Unit {0}

-- a stop is this fault, or want of memory
abbrev pub StopsWith : Stop → Fault → Type 0
StopsWith (stop.Fault f) fault = fault ≡ f
StopsWith stop.Memory fault = Unit {0}

abbrev pub Gives : {X A : Type 0} → (X → A) → Result X Stop → Result A Fault → Type 0
Gives view (Ok x) given = given ≡ Ok (view x)
Gives view (Err e) given = Stops e given

abbrev pub BareStops : {A : Type 0} → BareStop → Result A Bare → Type 0
BareStops (bare_stop.Fault f) given = given ≡ Err f
BareStops bare_stop.Memory given = Unit {0}

abbrev pub BareGives : {X A : Type 0} → (X → A) → Result X BareStop → Result A Bare → Type 0
BareGives view (Ok x) given = given ≡ Ok (view x)
BareGives view (Err e) given = BareStops e given

-- what a call answers, where the definition's answer is known: its own, or where memory ran out the definition's
abbrev pub answer_of : {X A : Type 0} → (X → A) → Result X Stop → Result A Fault → Result A Fault
answer_of view (Ok x) given = Ok (view x)
answer_of view (Err (stop.Fault f)) given = Err f
answer_of view (Err stop.Memory) given = given
