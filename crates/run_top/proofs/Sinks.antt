-- From what sinks and parts promise to what a run promises.
use Rattle.std.proofs.Common.{◌≡◌, ℕ, ◌<◌, List, length, take, Option, Some, None, Result, Ok, Err, refl, ap, sym, subst, ◌∙◌, inl, inr}
use Rattle.std.specs.Prelude.{◌⊎◌, IfSome, string_bytes}
use Rattle.base_outside.specs.Contents.{Paths}
use Rattle.base_outside.specs.Causes.{Rose}
use Rattle.base_outside.specs.Sink.{Gains}
use Rattle.run_top.specs.declared.status.Status.{Status}
use Rattle.run_top.specs.declared.status.Status.TheVariants as status
use Rattle.run_top.specs.declared.prepare.Prepared.{Prepared}
use Rattle.run_top.specs.declared.prepare.Unfinished.{Unfinished}
use Rattle.run_top.specs.declared.prepare.Unfinished.TheVariants as unfinished
use Rattle.run_top.specs.Words.{words_asked, usage_line}
use Rattle.run_top.specs.Whole.{RunOutcome, usage, done, fault, of_job, of_made}
use Rattle.run_command.specs.declared.words.Words.{Words}
use Rattle.run_command.specs.declared.words.Words.TheVariants.{Expand, Make, Usage}
use Rattle.run_command.specs.declared.job.Job.{Job}
use Rattle.run_top.specs.Prepared.{Prepares, PreparesBy, Writes}
use Rattle.run_top.specs.Headline.{Sunk, Storage, OutsideChange, AskedOnce, Broke, SaysJob, SaysAsked, Says, Reports, reported, unreported, Finishes, written, broken, Complains, said, no_line, Headline, wrote_text, wrote_fault, wrong_words, read_fault, no_memory, CompleteJob, CompleteAsked, Complete, status_of}

pub broke : (s : Sunk) (piece : List ℕ) (taken : ℕ) → taken < length piece → Gains s.before s.after (take taken piece) → Rose s.faults_before s.faults_after → AskedOnce s → Broke s piece
broke s piece taken short gains rose asked = record { taken = taken; short = short; part = gains; rose = rose; asked = asked }

-- ---- what the definition gives

-- what is the definition's for a job without a cache, where the files are told
pub by_files : (told : Option Paths) (job : Job) (prepared : Result Prepared Unfinished) → IfSome told (λ files. Prepares prepared (of_job files job)) → PreparesBy (λ outcome. IfSome told (λ files. of_job files job ≡ outcome)) prepared
by_files told job (Ok made) h = h
by_files told job (Err (unfinished.Line line)) h = h
by_files told job (Err unfinished.Read) h = tt
by_files told job (Err unfinished.Memory) h = tt

pub by_made : (count : ℕ) (prepared : Result Prepared Unfinished) → Prepares prepared (of_made count) → PreparesBy (λ outcome. of_made count ≡ outcome) prepared
by_made count (Ok made) h = h
by_made count (Err (unfinished.Line line)) h = h
by_made count (Err unfinished.Read) h = tt
by_made count (Err unfinished.Memory) h = tt

-- what holds of what was asked holds of the words
pub asked_of : (told : Option Paths) (store : Storage) (words : List (List ℕ)) (asked : Words) (prepared : Result Prepared Unfinished) → words_asked words ≡ asked → PreparesBy (SaysAsked told store asked) prepared → PreparesBy (Says told store words) prepared
asked_of told store words asked prepared is given = subst (λ (w : Words). PreparesBy (SaysAsked told store w) prepared) (sym is) given

module _ (told : Option Paths) (store : Storage) (words : List (List ℕ)) (fb fa : ℕ) (out err : Sunk) where
  abbrev Outside : OutsideChange
  Outside = record { files = record { told = told; faults_before = fb; faults_after = fa }; store = store; out = out; err = err }

  -- what was prepared for the words, and then written, ends a run as the headline says
  pub ended : (prepared : Result Prepared Unfinished) (s : Status) → PreparesBy (Says told store words) prepared → (prepared ≡ Err unfinished.Read → Rose fb fa)
      → Writes prepared out err s → Headline Outside words s
  ended (Ok made) s gives read w = wrote_text (string_bytes made.text) (string_bytes made.report) gives w
  ended (Err (unfinished.Line line)) s gives read w = wrote_fault (string_bytes line) gives w
  ended (Err unfinished.Read) s gives read w = read_fault w.0 (read refl) w.1.0 w.1.1
  ended (Err unfinished.Memory) s gives read w = no_memory w.0 w.1.0 w.1.1

  -- ---- a status is excused, or it is that of what the definition gives

  abbrev A-count-rose : Type 0
  A-count-rose = Rose fb fa ⊎ (Rose out.faults_before out.faults_after ⊎ Rose err.faults_before err.faults_after)

  abbrev Unexcused : Status → Type 0
  Unexcused s = ¬ A-count-rose → ¬ (s ≡ status.Memory) → ⊥

  -- words are refused only where they are refused
  abbrev IsOf : RunOutcome → Type 0
  IsOf (done text report) = Unit {0}
  IsOf (fault line) = Unit {0}
  IsOf usage = words_asked words ≡ Usage

  -- the outcome, and its status
  record Given (s : Status) : Type 0 where
    pub outcome : RunOutcome
    pub says : Says told store words outcome
    pub of : IsOf outcome
    pub is : s ≡ status_of outcome

  abbrev Judged : Status → Type 0
  Judged s = Unexcused s ⊎ Given s

  by_report : (s : Status) (text report : List ℕ) → Says told store words (done text report) → Reports err report s → Judged s
  by_report s text report given (reported b) = inr (record { outcome = done text report; says = given; of = tt; is = refl })
  by_report s text report given (unreported b) = inl (λ p m. p (inr (inr b.rose)))

  by_text : (s : Status) (text report : List ℕ) → Says told store words (done text report) → Finishes out err text report s → Judged s
  by_text s text report given (written a b) = by_report s text report given b
  by_text s text report given (broken a b) = inl (λ p m. p (inr (inl a.rose)))

  by_line : (s want : Status) (line : List ℕ) (o : RunOutcome) → Says told store words o → IsOf o → want ≡ status_of o → Complains out err line want s → Judged s
  by_line s want line o given of e (said a b) = inr (record { outcome = o; says = given; of = of; is = e })
  by_line s want line o given of e (no_line a b) = inl (λ p m. p (inr (inr b.rose)))

  judged : (s : Status) → Headline Outside words s → Judged s
  judged s (wrote_text text report given h) = by_text s text report given h
  judged s (wrote_fault line given h) = by_line s status.Fault line (fault line) given tt refl h
  judged s (wrong_words none h) = by_line s status.Usage usage_line usage (subst (λ (w : Words). SaysAsked told store w usage) (sym none) refl) none refl h
  judged s (read_fault e rose a b) = inl (λ p m. p (inl rose))
  judged s (no_memory e a b) = inl (λ p m. m e)

  -- ---- completeness follows from the headline

  abbrev Done-by : Status → Type 0 → Type 0
  Done-by s P = ¬ A-count-rose → ¬ (s ≡ status.Memory) → P

  unless : (s : Status) (P : Type 0) → Unexcused s → Done-by s P
  unless s P never p m = absurd (never p m)

  in_files : (s : Status) (o : RunOutcome) (job : Job) (t : Option Paths) → IfSome t (λ files. of_job files job ≡ o) → s ≡ status_of o → IfSome t (λ files. Done-by s (s ≡ status_of (of_job files job)))
  in_files s o job None h e = tt
  in_files s o job (Some files) h e = λ p m. e ∙ ap status_of (sym h)

  all_files : (s : Status) (job : Job) (t : Option Paths) → Unexcused s → IfSome t (λ files. Done-by s (s ≡ status_of (of_job files job)))
  all_files s job None never = tt
  all_files s job (Some files) never = unless s (s ≡ status_of (of_job files job)) never

  done_or_fault : (job : Job) (s : Status) (o : RunOutcome) → words_asked words ≡ Expand job → IsOf o → s ≡ status_of o → (s ≡ status.Done) ⊎ (s ≡ status.Fault)
  done_or_fault job s (done text report) is of e = inl e
  done_or_fault job s (fault line) is of e = inr e
  done_or_fault job s usage is of e = let no = sym is ∙ of in absurd (cc)

  abbrev CompleteFor : Words → Status → Type 0
  CompleteFor asked s = CompleteAsked told asked A-count-rose s

  abbrev CompleteFrom : Job → Option (List ℕ) → Status → Type 0
  CompleteFrom job cache s = CompleteJob told job cache A-count-rose s

  job_excused : (job : Job) (cache : Option (List ℕ)) (s : Status) → Unexcused s → CompleteFrom job cache s
  job_excused job None s never = all_files s job told never
  job_excused job (Some dir) s never = unless s ((s ≡ status.Done) ⊎ (s ≡ status.Fault)) never

  job_given : (job : Job) (cache : Option (List ℕ)) (s : Status) (o : RunOutcome) → words_asked words ≡ Expand job → SaysJob told store job cache o → IsOf o → s ≡ status_of o → CompleteFrom job cache s
  job_given job None s o is says of e = in_files s o job told says e
  job_given job (Some dir) s o is says of e = λ p m. done_or_fault job s o is of e

  complete_asked : (asked : Words) (s : Status) → words_asked words ≡ asked → Judged s → CompleteFor asked s
  complete_asked (Expand job) s is (inl never) = job_excused job job.cache s never
  complete_asked (Expand job) s is (inr g) = job_given job job.cache s g.outcome is (subst (λ (w : Words). SaysAsked told store w g.outcome) is g.says) g.of g.is
  complete_asked (Make count) s is (inl never) = unless s (s ≡ status_of (of_made count)) never
  complete_asked (Make count) s is (inr g) = λ p m. g.is ∙ ap status_of (sym (subst (λ (w : Words). SaysAsked told store w g.outcome) is g.says))
  complete_asked Usage s is (inl never) = unless s (s ≡ status.Usage) never
  complete_asked Usage s is (inr g) = λ p m. g.is ∙ ap status_of (sym (subst (λ (w : Words). SaysAsked told store w g.outcome) is g.says))

  pub complete : (s : Status) → Headline Outside words s → Complete told words A-count-rose s
  complete s h = complete_asked (words_asked words) s refl (judged s h)
