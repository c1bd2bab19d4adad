-- The turns of libraries, one after another.
use Rattle.std.proofs.Common.{◌≡◌, ℕ, Option, List, [], ◌∷◌, Result, Ok, Err, sym, subst}
use Rattle.base_data.specs.declared.fault.Fault.{Fault}
use Rattle.base_data.specs.declared.fault.Stop.{Stop}
use Rattle.base_data.specs.declared.fault.Stop.TheVariants as stops
use Rattle.eval_code.specs.Codes.{Codes}
use Rattle.load_files.specs.declared.found.Found.{Found}
use Rattle.base_outside.specs.Contents.{Paths}
use Rattle.base_outside.specs.Store.{WhereTold}
use Rattle.run_reuse.specs.Entries.{CacheInputs}
use Rattle.run_reuse.specs.Progress.{ReuseProgress}
use Rattle.run_reuse.specs.Turns.{TurnState, state, ReuseTurn, ReuseTurns, TurnsStop, IsAtFault, Breaks, BreaksOff, TakesTurn, TakeTurns}
use Rattle.run_reuse.specs.Turns as turns
use Rattle.run_reuse.proofs.Told.{told_same, told_then, told_by}

-- what the rest of the libraries comes to, all of them come to
abbrev pub GoesOn : CacheInputs → Result Codes Fault → TurnState → List Found → TurnState → List Found → Type 0
GoesOn k prelude first all s left =
    ((last : TurnState) → ReuseTurns k prelude s left last → ReuseTurns k prelude first all last)
    × ((fault : Fault) (store : Paths) (faults : ℕ) → TurnsStop k prelude fault store faults s left → TurnsStop k prelude fault store faults first all)
    × ((store : Paths) (faults : ℕ) → BreaksOff k prelude store faults s left → BreaksOff k prelude store faults first all)

module _ (k : CacheInputs) (prelude : Result Codes Fault) where
  pub at_first : (s : TurnState) (all left : List Found) → left ≡ all → GoesOn k prelude s all s left
  at_first s all left is = subst (λ fs. GoesOn k prelude s all s fs) (sym is) ((λ last t. t), (λ fault store faults t. t), λ store faults t. t)

  pub goes_on : (first s t : TurnState) (all left others : List Found) (f : Found) → left ≡ f ∷ others → ReuseTurn k prelude s f t → GoesOn k prelude first all s left → GoesOn k prelude first all t others
  goes_on first s t all left others f is turn g =
      let h = subst (λ fs. GoesOn k prelude first all s fs) is g in
      ((λ last ts. h.0 last (turns.next turn ts)), (λ fault store faults ts. h.1 fault store faults (turns.later turn ts)), λ store faults ts. h.2 store faults (turns.behind turn ts))

  pub comes_to : (first s : TurnState) (all left : List Found) → left ≡ [] → GoesOn k prelude first all s left → ReuseTurns k prelude first all s
  comes_to first s all left is g = (subst (λ fs. GoesOn k prelude first all s fs) is g).0 s turns.done

  pub stops_at : (first s : TurnState) (all left others : List Found) (f : Found) (fault : Fault) (store : Paths) (faults : ℕ) → left ≡ f ∷ others
      → IsAtFault k prelude s f fault store faults → GoesOn k prelude first all s left → TurnsStop k prelude fault store faults first all
  stops_at first s all left others f fault store faults is at g = (subst (λ fs. GoesOn k prelude first all s fs) is g).1 fault store faults (turns.here at)

  pub breaks_at : (first s : TurnState) (all left others : List Found) (f : Found) (store : Paths) (faults : ℕ) → left ≡ f ∷ others
      → Breaks k prelude s f store faults → GoesOn k prelude first all s left → BreaksOff k prelude store faults first all
  breaks_at first s all left others f store faults is at g = (subst (λ fs. GoesOn k prelude first all s fs) is g).2 store faults (turns.within at)

  pub stops_by : (first s : TurnState) (all left others : List Found) (f : Found) (stop : Stop) (store : Paths) (faults : ℕ) → left ≡ f ∷ others
      → TakesTurn k prelude (Err stop) s f store faults → GoesOn k prelude first all s left → TakeTurns k prelude (Err stop) first all store faults
  stops_by first s all left others f stops.Memory store faults is at g = breaks_at first s all left others f store faults is at g
  stops_by first s all left others f (stops.Fault fault) store faults is at g = stops_at first s all left others f fault store faults is at g

  -- ---- the loop over the libraries

  pub loop_first : (told : Option Paths) (p : ReuseProgress) (faults : ℕ) (all left : List Found) → left ≡ all
      → WhereTold told told (λ x y. GoesOn k prelude (state p x faults) all (state p y faults) left)
  loop_first told p faults all left is = told_same told (λ x y. GoesOn k prelude (state p x faults) all (state p y faults) left) (λ x. at_first (state p x faults) all left is)

  module _ (told middle : Option Paths) (p q : ReuseProgress) (fa fb : ℕ) (all left : List Found) (so_far : WhereTold told middle (λ x y. GoesOn k prelude (state p x fa) all (state q y fb) left)) where
    pub loop_end : left ≡ [] → WhereTold told middle (λ x y. ReuseTurns k prelude (state p x fa) all (state q y fb))
    loop_end is =
        told_by told middle (λ x y. GoesOn k prelude (state p x fa) all (state q y fb) left) (λ x y. ReuseTurns k prelude (state p x fa) all (state q y fb))
        (λ x y g. comes_to (state p x fa) (state q y fb) all left is g) so_far

    module _ (after : Option Paths) (f : Found) (others : List Found) (fc : ℕ) (is : left ≡ f ∷ others) where
      pub loop_on : (r : ReuseProgress) → WhereTold middle after (λ y z. TakesTurn k prelude (Ok r) (state q y fb) f z fc)
          → WhereTold told after (λ x z. GoesOn k prelude (state p x fa) all (state r z fc) others)
      loop_on r turn =
          told_then told middle after (λ x y. GoesOn k prelude (state p x fa) all (state q y fb) left) (λ y z. TakesTurn k prelude (Ok r) (state q y fb) f z fc)
          (λ x z. GoesOn k prelude (state p x fa) all (state r z fc) others)
          (λ x y z g t. goes_on (state p x fa) (state q y fb) (state r z fc) all left others f is t g) so_far turn

      pub loop_stops : (stop : Stop) → WhereTold middle after (λ y z. TakesTurn k prelude (Err stop) (state q y fb) f z fc)
          → WhereTold told after (λ x z. TakeTurns k prelude (Err stop) (state p x fa) all z fc)
      loop_stops stop turn =
          told_then told middle after (λ x y. GoesOn k prelude (state p x fa) all (state q y fb) left) (λ y z. TakesTurn k prelude (Err stop) (state q y fb) f z fc)
          (λ x z. TakeTurns k prelude (Err stop) (state p x fa) all z fc)
          (λ x y z g t. stops_by (state p x fa) (state q y fb) all left others f stop z fc is t g) so_far turn
