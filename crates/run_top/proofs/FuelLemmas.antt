-- From the fuel of turns to what a run spends.
use Rattle.std.proofs.Common.{◌≡◌, ℕ, ◌+◌, List, Result, Ok, Err, Option, Some, None, refl, sym, subst, ◌∙◌, arith}
use Rattle.std.specs.Prelude.{IfOk, IfSome, OnOk, string_bytes}
use Rattle.base_data.specs.declared.fault.Fault.{Fault}
use Rattle.base_data.specs.declared.fault.Stop.{Stop}
use Rattle.eval_code.specs.Codes.{Codes}
use Rattle.load_files.specs.Load.{load}
use Rattle.load_files.specs.declared.found.Found.{Found}
use Rattle.load_files.specs.declared.found.Source.{Source}
use Rattle.run_make.specs.Made.{made_files}
use Rattle.base_outside.specs.Contents.{Paths}
use Rattle.base_outside.specs.Store.{WhereTold}
use Rattle.run_prelude.specs.Prelude.{prelude_table, prelude_spent}
use Rattle.load_report.specs.declared.report.Told.{Told}
use Rattle.run_reuse.specs.Entries.{CacheInputs}
use Rattle.run_reuse.specs.Fuel.{WritesSpending}
use Rattle.run_reuse.specs.Groups.{AreGroups, groups_from}
use Rattle.run_reuse.specs.Texts.{found_in}
use Rattle.run_reuse.specs.Turns.{StoreChange, changed}
use Rattle.run_reuse.proofs.Told.{told_by}
use Rattle.run_reuse.specs.declared.groups.Group.{Group}
use Rattle.run_reuse.specs.declared.texts.WrittenProgram.{WrittenProgram}
use Rattle.run_command.specs.declared.job.Job.{Job}
use Rattle.run_command.specs.declared.words.Words.{Words}
use Rattle.run_top.specs.Cached.{kept_of, PreparesText}
use Rattle.run_top.specs.Fuel.{SpentText, job_spent, loads_spent, ComesSpending, SpendsCached, SpendsJob, SpendsAsked, SpendsIfDone}
use Rattle.run_top.specs.Headline.{Sunk, Storage, OutsideChange, Complains, said, no_line}
use Rattle.run_top.specs.Prepared.{Writes}
use Rattle.run_top.specs.Whole.{done, libraries, made_job}
use Rattle.run_top.specs.Words.{words_asked, usage_line}
use Rattle.run_top.specs.declared.cached.LoadedJob.{LoadedJob}
use Rattle.run_top.specs.declared.prepare.Prepared.{Prepared}
use Rattle.run_top.specs.declared.prepare.Unfinished.{Unfinished}
use Rattle.run_top.specs.declared.prepare.Unfinished.TheVariants as unfinished
use Rattle.run_top.specs.declared.status.Status.{Status}
use Rattle.run_top.specs.declared.status.Status.TheVariants as status

-- ---- from the text to what is prepared

module _ (job : Job) (dir : List ℕ) (loaded : LoadedJob) (groups : List Group) (are : AreGroups (groups_from 0 0 loaded.loading.sources) loaded.loading.begun loaded.loading.done groups) (fa fb f0 f1 : ℕ) where
  abbrev Spent-for : Prepared → SpentText
  Spent-for made = record { text = string_bytes made.text; report = string_bytes made.report; fuel_before = f0; fuel_after = f1 }

  text_spending : (change : StoreChange) (made : Prepared) (w : WrittenProgram) → PreparesText (Ok made) job.report (libraries loaded.loading) loaded.loading.sources (Ok w)
      → WritesSpending (kept_of job dir loaded.loading groups) prelude_table loaded.came (found_in loaded.loading.done) change (Ok (string_bytes w.text, w.reused)) f0 f1
      → ComesSpending job dir loaded change (Spent-for made)
  text_spending change made w h k = record {
    comes = record { groups = groups; are = are; made = Ok (string_bytes w.text, w.reused); writes = k.writes; is = λ i. done (h.0 i) (h.1 i) };
    rose = k.rose;
  }

  -- over a store whose contents may be told
  pub where_spent : (held left : Option Paths) (k : CacheInputs) (prelude : Result Codes Fault) (fs : List Found) (libs : List Told) (sources : List Source)
      → prelude ≡ prelude_table → k ≡ kept_of job dir loaded.loading groups → fs ≡ found_in loaded.loading.done → libs ≡ libraries loaded.loading → sources ≡ loaded.loading.sources
      → (result : Result Prepared Unfinished) (w : Result WrittenProgram Stop) → PreparesText result job.report libs sources w
      → IfOk w (λ (x : WrittenProgram). WhereTold held left (λ before after. WritesSpending k prelude loaded.came fs (changed before fa after fb) (Ok (string_bytes x.text, x.reused)) f0 f1))
      → IfOk result (λ (made : Prepared). WhereTold held left (λ before after. ComesSpending job dir loaded (changed before fa after fb) (Spent-for made)))
  where_spent held left k prelude fs libs sources is k_is fs_is libs_is sources_is (Ok made) (Ok w) text h =
      told_by held left _ _ (λ before after x. text_spending (changed before fa after fb) made w own x) all
    where
      own : PreparesText (Ok made) job.report (libraries loaded.loading) loaded.loading.sources (Ok w)
      own = subst (λ (ss : List Source). PreparesText (Ok made) job.report (libraries loaded.loading) ss (Ok w)) sources_is (subst (λ (ts : List Told). PreparesText (Ok made) job.report ts sources (Ok w)) libs_is text)

      over : WhereTold held left (λ before after. WritesSpending k prelude_table loaded.came fs (changed before fa after fb) (Ok (string_bytes w.text, w.reused)) f0 f1)
      over = subst (λ (p : Result Codes Fault). WhereTold held left (λ before after. WritesSpending k p loaded.came fs (changed before fa after fb) (Ok (string_bytes w.text, w.reused)) f0 f1)) is h

      all : WhereTold held left (λ before after. WritesSpending (kept_of job dir loaded.loading groups) prelude_table loaded.came (found_in loaded.loading.done) (changed before fa after fb) (Ok (string_bytes w.text, w.reused)) f0 f1)
      all = subst (λ (gs : List Found). WhereTold held left (λ before after. WritesSpending (kept_of job dir loaded.loading groups) prelude_table loaded.came gs (changed before fa after fb) (Ok (string_bytes w.text, w.reused)) f0 f1)) fs_is
          (subst (λ (x : CacheInputs). WhereTold held left (λ before after. WritesSpending x prelude_table loaded.came fs (changed before fa after fb) (Ok (string_bytes w.text, w.reused)) f0 f1)) k_is over)
  where_spent held left k prelude fs libs sources is k_is fs_is libs_is sources_is (Ok made) (Err x) text h = absurd text
  where_spent held left k prelude fs libs sources is k_is fs_is libs_is sources_is (Err x) w text h = tt

-- ---- what is prepared of a job

-- behind the texts of procedures
pub job_spends : {X E : Type 0} (result : Result X E) (told : Option Paths) (job : Job) (before middle after : ℕ) → middle ≡ before + prelude_spent
    → IfSome told (λ files. OnOk result (after ≡ middle + loads_spent prelude_table (load files job.roots job.program))) → IfSome told (λ files. OnOk result (after ≡ before + job_spent files job))
unfolding job_spent
job_spends result None job before middle after first h = tt
job_spends (Ok x) (Some files) job before middle after first h = let r : after ≡ middle + loads_spent prelude_table (load files job.roots job.program) = h in omega (arith, first, r)
job_spends (Err e) (Some files) job before middle after first h = tt

module _ (told : Option Paths) (store : Storage) (job : Job) (f0 f1 : ℕ) where
  abbrev Spent-by : Prepared → SpentText
  Spent-by made = record { text = string_bytes made.text; report = string_bytes made.report; fuel_before = f0; fuel_after = f1 }

  by_cache : (dir : List ℕ) (made : Prepared) (t : Option Paths)
      → IfSome t (λ files. IfOk (let r : Result Prepared Unfinished = Ok made in r) (λ (m : Prepared). WhereTold store.before store.after (λ before after. SpendsCached files job dir (changed before store.faults_before after store.faults_after) (Spent-by m))))
      → SpendsJob t store job (Some dir) (Spent-by made)
  by_cache dir made None h = tt
  by_cache dir made (Some files) h = h

  -- with its cache
  pub cached_spends : (dir : List ℕ) → job.cache ≡ Some dir → (result : Result Prepared Unfinished)
      → IfSome told (λ files. IfOk result (λ (m : Prepared). WhereTold store.before store.after (λ before after. SpendsCached files job dir (changed before store.faults_before after store.faults_after) (Spent-by m))))
      → IfOk result (λ (made : Prepared). SpendsJob told store job job.cache (Spent-by made))
  cached_spends dir cached (Ok made) h = subst (λ (o : Option (List ℕ)). SpendsJob told store job o (Spent-by made)) (sym cached) (by_cache dir made told h)
  cached_spends dir cached (Err x) h = tt

  by_files : (made : Prepared) (t : Option Paths) → IfSome t (λ files. OnOk (let r : Result Prepared Unfinished = Ok made in r) (f1 ≡ f0 + job_spent files job))
      → SpendsJob t store job None (Spent-by made)
  by_files made None h = tt
  by_files made (Some files) h = h

  -- without one
  pub plain_spends : job.cache ≡ None → (result : Result Prepared Unfinished) → IfSome told (λ files. OnOk result (f1 ≡ f0 + job_spent files job))
      → IfOk result (λ (made : Prepared). SpendsJob told store job job.cache (Spent-by made))
  plain_spends plain (Ok made) h = subst (λ (o : Option (List ℕ)). SpendsJob told store job o (Spent-by made)) (sym plain) (by_files made told h)
  plain_spends plain (Err x) h = tt

-- ---- what a run spends

module _ (told : Option Paths) (store : Storage) (words : List (List ℕ)) (fb fa : ℕ) (out err : Sunk) (f0 f1 : ℕ) where
  abbrev Outside : OutsideChange
  Outside = record { files = record { told = told; faults_before = fb; faults_after = fa }; store = store; out = out; err = err }

  abbrev Spent-on : Prepared → SpentText
  Spent-on made = record { text = string_bytes made.text; report = string_bytes made.report; fuel_before = f0; fuel_after = f1 }

  abbrev Spent : Status → Type 0
  Spent s = SpendsIfDone Outside words f0 f1 s

  -- where a line is written that isn't a text, the run isn't done
  no_text : (line : List ℕ) (want s : Status) → (want ≡ status.Done → ⊥) → Complains out err line want s → s ≡ status.Done → ⊥
  no_text line want s other (said a b) is = other is
  no_text line want s other (no_line a b) is = absurd (cc)

  unless_done : (s : Status) → (s ≡ status.Done → ⊥) → Spent s
  unless_done status.Done other = absurd (other refl)
  unless_done status.Fault other = tt
  unless_done status.Usage other = tt
  unless_done status.ReadFault other = tt
  unless_done status.WriteFault other = tt
  unless_done status.Memory other = tt

  line_done : (line : List ℕ) (want s : Status) → (want ≡ status.Done → ⊥) → Complains out err line want s → Spent s
  line_done line want s other h = unless_done s (no_text line want s other h)

  pub usage_spends : (s : Status) → Complains out err usage_line status.Usage s → Spent s
  usage_spends s h = line_done usage_line status.Usage s (λ e. absurd (cc)) h

  text_done : (asked : Words) (made : Prepared) (s : Status) → words_asked words ≡ asked → SpendsAsked told store asked (Spent-on made) → Writes (Ok made) out err s → Spent s
  text_done asked made status.Done is h w = record {
    text = string_bytes made.text;
    report = string_bytes made.report;
    wrote = w;
    spends = subst (λ (x : Words). SpendsAsked told store x (Spent-on made)) (sym is) h;
  }
  text_done asked made status.Fault is h w = tt
  text_done asked made status.Usage is h w = tt
  text_done asked made status.ReadFault is h w = tt
  text_done asked made status.WriteFault is h w = tt
  text_done asked made status.Memory is h w = tt

  -- what was prepared for the words, and then written
  pub written_spends : (asked : Words) (prepared : Result Prepared Unfinished) (s : Status) → words_asked words ≡ asked
      → IfOk prepared (λ (made : Prepared). SpendsAsked told store asked (Spent-on made)) → Writes prepared out err s → Spent s
  written_spends asked (Ok made) s is h w = text_done asked made s is h w
  written_spends asked (Err (unfinished.Line line)) s is h w = line_done (string_bytes line) status.Fault s (λ e. absurd (cc)) w
  written_spends asked (Err unfinished.Read) s is h w = unless_done s (λ e. let no : status.ReadFault ≡ status.Done = sym w.0 ∙ e in absurd (cc))
  written_spends asked (Err unfinished.Memory) s is h w = unless_done s (λ e. let no : status.Memory ≡ status.Done = sym w.0 ∙ e in absurd (cc))

-- what was made in memory
pub made_spends : (count f0 f1 : ℕ) (result : Result Prepared Unfinished) → OnOk result (f1 ≡ f0 + job_spent (made_files count) made_job) → IfOk result (λ (made : Prepared). f1 ≡ f0 + job_spent (made_files count) made_job)
made_spends count f0 f1 (Ok made) h = h
made_spends count f0 f1 (Err x) h = tt
