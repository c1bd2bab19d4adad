-- What stops one part stops the whole.
use Rattle.std.proofs.Common.{◌≡◌, ℕ, List, reverse, Result, Ok, Err, IfOk, OnErr, sym, subst}
use Rattle.base_data.specs.Gives.{Stops}
use Rattle.base_data.specs.declared.fault.Fault.{Fault}
use Rattle.base_data.specs.declared.fault.Stop.{Stop}
use Rattle.base_data.specs.declared.fault.Stop.TheVariants as stops
use Rattle.base_outside.specs.Contents.{Paths}
use Rattle.load_files.specs.Halting.{halt_of_stop}
use Rattle.load_files.specs.Load.{Loads}
use Rattle.load_files.specs.Gives.{Halts, Turns}
use Rattle.load_files.specs.Stack.{meaning}
use Rattle.load_files.specs.declared.found.Found.{Found}
use Rattle.load_files.specs.declared.found.Loading.{Loading}
use Rattle.load_files.specs.declared.found.Open.{Open}
use Rattle.load_files.specs.declared.halt.LoadHalt.{LoadHalt}
use Rattle.load_files.specs.declared.halt.LoadHalt.TheVariants as halt
use Rattle.load_files.specs.declared.walk.Turn.{Turn}
use Rattle.load_files.specs.declared.walk.Turn.TheVariants as turn

pub halts_on : {A B : Type 0} (h : LoadHalt) (t : Loading) (x : Loads A) (y : Loads B) → ((f : Fault) → x ≡ Err (t, f) → y ≡ Err (t, f)) → Halts h t x → Halts h t y
halts_on (halt.Fault f) t x y k e = k f e
halts_on halt.Read t x y k e = tt
halts_on halt.Memory t x y k e = tt

-- a stop before anything is changed
pub halts_at : {A B : Type 0} (s : Stop) (h : LoadHalt) (t : Loading) (x : Result A Fault) (y : Loads B) → ((f : Fault) → x ≡ Err f → y ≡ Err (t, f)) → h ≡ halt_of_stop s → Stops s x → Halts h t y
halts_at (stops.Fault f) h t x y k e given = subst (λ j. Halts j t y) (sym e) (k f given)
halts_at stops.Memory h t x y k e given = subst (λ j. Halts j t y) (sym e) tt

-- a turn that goes on in a file, unless memory runs out
pub turns_on : (files : Paths) (roots : List (List ℕ)) (r : Result Turn LoadHalt) (o : Open) (stack : List Open) (s : Loading) (given : Loads (Found × Loading))
    → IfOk r (λ t. t ≡ turn.On o) → OnErr r (r ≡ Err halt.Memory) → given ≡ meaning files roots o (reverse stack) s → Turns (meaning files roots) r stack s given
turns_on files roots (Ok t) o stack s given is err e = subst (λ u. Turns (meaning files roots) (Ok u) stack s given) (sym is) e
turns_on files roots (Err h) o stack s given is err e =
    let memory : h ≡ halt.Memory = cc in
    subst (λ j. Halts j s given) (sym memory) tt
