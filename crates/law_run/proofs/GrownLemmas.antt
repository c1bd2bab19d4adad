-- Stores that runs have written are honest.
use Rattle.std.proofs.Common.{◌≡◌, ℕ, Bool, true, false, List, Option, Some, None, refl, sym, ap, subst, ◌∙◌}
use Rattle.std.specs.Prelude.{nat_eq}
use Rattle.std.specs.Cmp.Lexicographic.{pointwise}
use Rattle.base_data.specs.Same.{texts_decides}
use Rattle.load_files.specs.Load.{load}
use Rattle.load_files.specs.declared.found.Loading.{Loading}
use Rattle.base_outside.specs.Contents.{Paths, at_path}
use Rattle.base_outside.specs.Store.{KeepsOthers}
use Rattle.run_prelude.specs.Prelude.{prelude_table}
use Rattle.run_reuse.specs.Texts.{found_in}
use Rattle.run_reuse.specs.Turns.{StoreChange, Quiet, changed}
use Rattle.law_reuse.specs.Sound.{IsSound, IsHonest, IsHonestAt}
use Rattle.law_reuse.proofs.OthersLemmas.{others_left}
use Rattle.law_reuse.proofs.QuietLemmas.{writes_quiet, leaves_quiet}
use Rattle.run_top.specs.Cached.{LeavesOf, as_it_was, by_turns, LeavesOfHonestly, SameText, kept_of, came_of}
use Rattle.run_top.specs.Headline.{SaysCached, SaysAsked, SaysJob, Storage}
use Rattle.run_top.specs.Whole.{loading_of, of_words}
use Rattle.run_command.specs.declared.job.Job.{Job}
use Rattle.run_command.specs.declared.words.Words.{Words}
use Rattle.run_command.specs.declared.words.Words.TheVariants.{Expand}
use Rattle.law_run.specs.Grown.{Grown, empty, by_run, damaged}
use Rattle.law_run.specs.Said.{RunsSayTheSame, QuietRunsAreHonest, CallsSayTheSame, IsNoPlaceOf, RunsLeaveOthers}

-- what happens to one place alone
damage_honest : (place : List ℕ) (before after : Paths) → IsHonest prelude_table before → KeepsOthers place before after → IsHonestAt prelude_table after place → IsHonest prelude_table after
damage_honest place before after honest others here other held e at reads = by (pointwise nat_eq other place) refl
  where
    by : (b : Bool) → pointwise nat_eq other place ≡ b → IsSound prelude_table e
    by true same = here held e (subst (λ (p : List ℕ). at_path after p ≡ Some held) ((texts_decides other place).0 same) at) reads
    by false apart = honest other held e (sym (others other (λ is. let yes = (texts_decides other place).1 is in absurd (cc))) ∙ at) reads

pub grown_honest : (store : Paths) → Grown store → IsHonest prelude_table store
grown_honest store empty = λ place held e at reads. let none : ◌≡◌ {A = Option (List ℕ)} None (Some held) = at in absurd (cc)
grown_honest store (by_run files job dir change grown left seals) = left.honest (grown_honest change.before grown) seals
grown_honest store (damaged {before = before} place grown others here) = damage_honest place before store (grown_honest before grown) others here

pub say_the_same : RunsSayTheSame
say_the_same = record {
  honest = grown_honest;
  same = λ files job dir change outcome grown says seals. says.same (grown_honest change.before grown) seals;
}

leaves_of_quiet : (job : Job) (dir : List ℕ) (s : Loading) (change : StoreChange) (l : LeavesOf job dir s change) → Quiet change.faults_before change.faults_after → LeavesOfHonestly l
leaves_of_quiet job dir s change (as_it_was same) quiet = tt
leaves_of_quiet job dir s change (by_turns groups are leaves) quiet = leaves_quiet (kept_of job dir s groups) prelude_table (found_in s.done) change leaves quiet

pub quiet_honest : QuietRunsAreHonest
quiet_honest = record {
  says = λ files job dir change outcome says quiet.
      writes_quiet (kept_of job dir (loading_of (load files job.roots job.program)) says.comes.groups) prelude_table (came_of (load files job.roots job.program)) (found_in (loading_of (load files job.roots job.program)).done)
      change says.comes.made says.comes.writes quiet;
  leaves = λ files job dir change left quiet. leaves_of_quiet job dir (loading_of (load files job.roots job.program)) change left.leaves quiet;
}

pub calls_same : CallsSayTheSame
calls_same files before after fa fb words job dir outcome asked cache grown quiet said =
    subst (λ (w : Words). SameText outcome (of_words files w)) (sym asked) (says.same (grown_honest before grown) (quiet_honest.says files job dir (changed before fa after fb) outcome says quiet))
  where
    storage : Storage
    storage = record { before = Some before; after = Some after; faults_before = fa; faults_after = fb }

    of_words_said : SaysAsked (Some files) storage (Expand job) outcome
    of_words_said = subst (λ (w : Words). SaysAsked (Some files) storage w outcome) asked said

    says : SaysCached files job dir (changed before fa after fb) outcome
    says = subst (λ (c : Option (List ℕ)). SaysJob (Some files) storage job c outcome) cache of_words_said

pub leave_others : RunsLeaveOthers
leave_others files job dir change place elsewhere l = by l elsewhere
  where
    s : Loading
    s = loading_of (load files job.roots job.program)

    by : LeavesOf job dir s change → IsNoPlaceOf job dir s place → at_path change.after place ≡ at_path change.before place
    by (as_it_was same) none = ap (λ (x : Paths). at_path x place) same
    by (by_turns groups are leaves) none = (others_left (kept_of job dir s groups) prelude_table).leaves (found_in s.done) change leaves place (none groups are)
