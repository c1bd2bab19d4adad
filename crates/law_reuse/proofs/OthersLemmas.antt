-- A run leaves every place as it was but those of its libraries.
use Rattle.std.proofs.Common.{◌≡◌, ℕ, List, Option, Some, None, Result, refl, sym, ap, ◌∙◌}
use Rattle.base_data.specs.declared.fault.Fault.{Fault}
use Rattle.eval_code.specs.Codes.{Codes}
use Rattle.load_files.specs.declared.found.Found.{Found}
use Rattle.base_outside.specs.Contents.{Paths, at_path}
use Rattle.run_reuse.specs.Entries.{CacheInputs, place_of}
use Rattle.run_reuse.specs.Texts.{Text, Writes, took, stopped, unready, Leaves, untouched, turned}
use Rattle.run_reuse.specs.Turns.{StoreChange, changed, TurnState, ReuseTurn, reused, expanded, IsPut, put, too_long, unspelled, failed, Breaks, nothing_put, entry_put, ReuseTurns, done, next, TurnsStop, here, later, BreaksOff, between, within, behind}
use Rattle.run_reuse.specs.declared.texts.Came.{Came}
use Rattle.law_reuse.specs.Others.{IsElsewhere, OthersAreKept, LeavesOthers}

module _ (k : CacheInputs) (prelude : Result Codes Fault) (place : List ℕ) where
  put_leaves : (at : List ℕ) (change : StoreChange) (o : Option (List ℕ)) → (at ≡ place → ⊥) → IsPut at change o → at_path change.after place ≡ at_path change.before place
  put_leaves at change (Some piece) other (put short sets) = sets.others place (λ same. other (sym same))
  put_leaves at change (Some piece) other (too_long long same) = ap (λ (x : Paths). at_path x place) same
  put_leaves at change None other (unspelled same) = ap (λ (x : Paths). at_path x place) same
  put_leaves at change (Some piece) other (failed rose others) = others place (λ same. other (sym same))

  turn_leaves : (s t : TurnState) (f : Found) → (place_of k f ≡ place → ⊥) → ReuseTurn k prelude s f t → at_path t.store place ≡ at_path s.store place
  turn_leaves s t f other (reused r faults more found) = refl
  turn_leaves s t f other (expanded r asked faults left more further misses made_here kept) = put_leaves (place_of k f) (changed s.store asked left faults) _ other kept

  pub turns_leave : (s last : TurnState) (fs : List Found) → IsElsewhere k place fs → ReuseTurns k prelude s fs last → at_path last.store place ≡ at_path s.store place
  turns_leave s last fs other done = refl
  turns_leave s last fs other (next {t = t} {f = f} {fs = rest} turn ts) = turns_leave t last rest other.1 ts ∙ turn_leaves s t f other.0 turn

  pub stops_leave : (fault : Fault) (store : Paths) (faults : ℕ) (s : TurnState) (fs : List Found) → IsElsewhere k place fs → TurnsStop k prelude fault store faults s fs → at_path store place ≡ at_path s.store place
  stops_leave fault store faults s fs other (here at) = ap (λ (x : Paths). at_path x place) at.same
  stops_leave fault store faults s fs other (later {t = t} {f = f} {fs = rest} turn ts) = stops_leave fault store faults t rest other.1 ts ∙ turn_leaves s t f other.0 turn

  break_leaves : (s : TurnState) (f : Found) (store : Paths) (faults : ℕ) → (place_of k f ≡ place → ⊥) → Breaks k prelude s f store faults → at_path store place ≡ at_path s.store place
  break_leaves s f store faults other (nothing_put same more) = ap (λ (x : Paths). at_path x place) same
  break_leaves s f store faults other (entry_put r asked more further made_here kept) = put_leaves (place_of k f) (changed s.store asked store faults) _ other kept

  breaks_leave : (store : Paths) (faults : ℕ) (s : TurnState) (fs : List Found) → IsElsewhere k place fs → BreaksOff k prelude store faults s fs → at_path store place ≡ at_path s.store place
  breaks_leave store faults s fs other (between same more) = ap (λ (x : Paths). at_path x place) same
  breaks_leave store faults s fs other (within {f = f} b) = break_leaves s f store faults other.0 b
  breaks_leave store faults s fs other (behind {t = t} {f = f} {fs = rest} turn b) = breaks_leave store faults t rest other.1 b ∙ turn_leaves s t f other.0 turn

module _ (k : CacheInputs) (prelude : Result Codes Fault) where
  writes_others : (c : Came) (fs : List Found) (change : StoreChange) (made : Result Text Fault) → Writes k prelude c fs change made → OthersAreKept k fs change.before change.after
  writes_others c fs change made (took derived p is turns) place other = turns_leave k prelude place _ _ fs other turns
  writes_others c fs change made (stopped derived fault is stops) place other = stops_leave k prelude place fault change.after change.faults_after _ fs other stops
  writes_others c fs change made (unready fault is same) place other = ap (λ (x : Paths). at_path x place) same

  leaves_others : (fs : List Found) (change : StoreChange) → Leaves k prelude fs change → OthersAreKept k fs change.before change.after
  leaves_others fs change (untouched same) place other = ap (λ (x : Paths). at_path x place) same
  leaves_others fs change (turned derived is b) place other = breaks_leave k prelude place change.after change.faults_after _ fs other b

  pub others_left : LeavesOthers k prelude
  others_left = record { writes = writes_others; leaves = leaves_others }
