-- No run gets stuck, where loading ends and where it stops.
use Rattle.std.proofs.Common.{◌≡◌, ℕ, zero, ◌+◌, List, [], ◌∷◌, Result, Ok, Err, refl, sym, ap, subst, arith}
use Rattle.std.specs.Prelude.{slice_get}
use Rattle.base_data.specs.Gives.{◌>>=◌}
use Rattle.base_data.specs.declared.fault.Fault.{Fault}
use Rattle.core_language.specs.declared.record.CompiledLibrary.{CompiledLibrary}
use Rattle.run_derived.specs.Derived.{derived_record}
use Rattle.eval_code.specs.Codes.{Codes}
use Rattle.load_forms.specs.Form.{program_body}
use Rattle.load_import.specs.Turns.{turns}
use Rattle.run_library.specs.Loaded.{expand_found, expand_next, all_records, planned_text, text_behind, links_behind, fault_behind}
use Rattle.load_files.specs.Load.{Loads, load}
use Rattle.load_files.specs.declared.found.Found.{Found}
use Rattle.load_files.specs.declared.found.Loading.{Loading}
use Rattle.law_load.specs.Laws.{NeedsAreClosed}
use Rattle.law_load.proofs.LoadLemmas.{loads_all, loads_until}
use Rattle.law_load.proofs.ReferLemmas.{IsSound}
use Rattle.base_outside.specs.Contents.{Paths}
use Rattle.core_plan.specs.Planned.{plan_of}
use Rattle.run_prelude.specs.Prelude.{prelude_table}
use Rattle.run_make.specs.Made.{made_files}
use Rattle.run_top.specs.Whole.{RunOutcome, usage, done, fault, source_of, loading_of, outcome_of, map_behind, text_behind_by, text_by, of_job, made_job, summed, of_made, of_words}
use Rattle.run_top.specs.Words.{words_asked}
use Rattle.law_run.proofs.LinkedRuns.{run_recorded, links-told}
use Rattle.law_run.proofs.UserLemmas.{program_name}
use Rattle.run_command.specs.declared.job.Job.{Job}
use Rattle.run_command.specs.declared.job.Kind.{Kind}
use Rattle.run_command.specs.declared.job.Kind.TheVariants.{Core, Xref}
use Rattle.run_command.specs.declared.words.Words.{Words}
use Rattle.run_command.specs.declared.words.Words.TheVariants.{Expand, Make, Usage}
use Rattle.law_kinds.specs.Kinds.{IsOfLoading, Tells}
use Rattle.law_kinds.specs.Laws.{LoadTells}
use Rattle.law_kinds.proofs.Loading.{loading-tells}
use Rattle.law_run.specs.Stuck.{IsOther, TellsOther, AskedTellsOther, RunsNeverStuck, WholeNeverStuck}
use Rattle.law_prelude_code.proofs.Table.{table-is-written}
use Rattle.law_run.proofs.PreludeWorld.{written-texts}
use Rattle.law_run.proofs.NamedFiles.{AllUsers, users-all, users-until}
use Rattle.law_run.proofs.OtherFaults.{AreRead, other-loading}
use Rattle.law_run.proofs.OtherText.{text-other}
use Rattle.law_run.proofs.PartBehind.{program-new}
use Rattle.law_run.proofs.PartRows.{Told, told-then, no-text-program, IsFirst, first-told, IsItsRecord, found-told, AreMade, rows-told}

abbrev Any : {A : Type 0} → A → Type 0
Any x = Unit {0}

tells : {A : Type 0} (r : Result A Fault) → Told Any r → Tells IsOther r
tells (Ok x) h = tt
tells (Err f) h = h

as-told : {A : Type 0} (r : Result A Fault) → Tells IsOther r → Told Any r
as-told (Ok x) h = tt
as-told (Err f) h = h

module _ (prelude : Result Codes Fault) (read : AreRead prelude) where
  -- the records of the libraries that were loaded, and what comes of them
  records-told : {X : Type 0} (s : Loading) → IsSound s → AllUsers s.done → (go : List CompiledLibrary → Result X Fault)
      → ((d : CompiledLibrary) (first : IsFirst d) (sound : IsSound s) (users : AllUsers s.done) (records : List CompiledLibrary) → AreMade prelude read s sound users d first records → Told Any (go records))
      → Told Any (all_records prelude s.done >>= go)
  records-told s sound users go next = by (derived_record prelude) (first-told prelude read)
    where
      by : (x : Result CompiledLibrary Fault) → Told IsFirst x → Told Any ((x >>= (λ d. turns (expand_next prelude) (d ∷ []) s.done)) >>= go)
      by (Err f) h = h
      by (Ok d) h =
          told-then (AreMade prelude read s sound users d h) Any (turns (expand_next prelude) (d ∷ []) s.done) go
          (rows-told prelude read s sound users d h s.done [] (λ p. let e : p ≡ zero + p = omega arith in ap (slice_get s.done) e) (λ i file f r at there. absurd (cc)))
          (λ records m. next d h sound users records m)

  module _ (files : Paths) (roots : List (List ℕ)) (path : List ℕ) where
    -- where loading ends: what comes of the records and the program's is told
    ends : {X : Type 0} (found : Found) (s : Loading) → load files roots path ≡ Ok (found, s) → (last : List CompiledLibrary → CompiledLibrary → Result X Fault)
        → ((records : List CompiledLibrary) (program : CompiledLibrary) → Told Any (last records program))
        → Told Any (all_records prelude s.done >>= (λ records. expand_found prelude records found (program_body found.opened.«data») >>= (λ program. last records program)))
    ends found s h last told =
        let l = loads_all files roots path found s h in
        records-told s l.sound (users-all files roots path found s h) (λ records. expand_found prelude records found (program_body found.opened.«data») >>= (λ program. last records program))
        (λ d first sound users records m. program d first sound users records m)
      where
        closed : NeedsAreClosed s.done found
        closed = (loads_all files roots path found s h).stands.closed

        program : (d : CompiledLibrary) (first : IsFirst d) (sound : IsSound s) (users : AllUsers s.done) (records : List CompiledLibrary) → AreMade prelude read s sound users d first records
            → Told Any (expand_found prelude records found (program_body found.opened.«data») >>= (λ program. last records program))
        program d first sound users records m =
            let is = program_name files roots path found s h in
            told-then (λ r. Unit {0}) Any (expand_found prelude records found (program_body found.opened.«data»)) (λ program. last records program)
            (subst (λ (rs : List CompiledLibrary). Told (λ r. Unit {0}) (expand_found prelude rs found (program_body found.opened.«data»))) (sym m.parts)
            (any (IsItsRecord s sound users d first m.others found) (expand_found prelude (d ∷ m.others) found (program_body found.opened.«data»))
            (found-told prelude read s sound users d first m.others m.made found closed (program-new s sound users d first.stands first.behind m.others m.made found closed found.opened.form.name is)
            (no-text-program found.opened.form.name is) (program_body found.opened.«data»))))
            (λ r g. told records r)
          where
            any : (P : CompiledLibrary → Type 0) (x : Result CompiledLibrary Fault) → Told P x → Told (λ r. Unit {0}) x
            any P (Ok r) k = tt
            any P (Err f) k = k

    text-told : (found : Found) (s : Loading) → load files roots path ≡ Ok (found, s) → Told Any (text_behind prelude s.done found)
    unfolding text_behind
    text-told found s h = ends found s h planned_text (λ records r. as-told (planned_text records r) (text-other records (plan_of records r) r))

    map-told : (found : Found) (s : Loading) → load files roots path ≡ Ok (found, s) → Told Any (map_behind prelude s.done found s.sources)
    map-told found s h =
        told-then (λ links. Unit {0}) Any (links_behind prelude s.done found) _
        (links-told prelude s.done found (ends found s h (λ records program. Ok tt) (λ records program. tt))) (λ links k. tt)

    by-kind : (kind : Kind) (found : Found) (s : Loading) → load files roots path ≡ Ok (found, s) → Told Any (text_behind_by kind prelude s.done found s.sources)
    by-kind Core found s h = text-told found s h
    by-kind Xref found s h = map-told found s h

    -- where it stops
    stops : (s : Loading) (f : Fault) → load files roots path ≡ Err (s, f) → Told Any (fault_behind prelude s.done f)
    unfolding fault_behind
    stops s f h =
        records-told s (loads_until files roots path s f h) (users-until files roots path s f h) (λ records. Err f)
        (λ d first sound users records m. other-loading f.kind (subst (λ (r : Loads (Found × Loading)). LoadTells IsOfLoading r) h (loading-tells files roots path)))

    any-run : (kind : Kind) → Told Any (text_by kind prelude (load files roots path))
    any-run kind = by (load files roots path) refl
      where
        by : (x : Loads (Found × Loading)) → load files roots path ≡ x → Told Any (text_by kind prelude x)
        by (Ok l) h = by-kind kind l.0 l.1 h
        by (Err e) h = stops e.0 e.1 h

-- the texts of the prelude come to the codes that are written out
pub texts-read : AreRead prelude_table
texts-read = subst AreRead (sym table-is-written) written-texts

pub runs-never-stuck : RunsNeverStuck
runs-never-stuck kind files roots path = tells (text_by kind prelude_table (load files roots path)) (any-run prelude_table texts-read files roots path kind)

-- ---- the whole

module _ (files : Paths) (job : Job) where
  outcome-other : (s : Loading) (r : Result (List ℕ) Fault) → text_by job.kind prelude_table (load files job.roots job.program) ≡ r → Tells IsOther r → TellsOther files job (outcome_of job.report s r)
  outcome-other s (Ok text) e h = tt
  outcome-other s (Err f) e h = record { told = f; gives = e; other = h; source = source_of s.sources f.span.file; is = refl }

  job-other : TellsOther files job (of_job files job)
  unfolding of_job
  job-other =
      let loaded = load files job.roots job.program in
      outcome-other (loading_of loaded) (text_by job.kind prelude_table loaded) refl (runs-never-stuck job.kind files job.roots job.program)

-- the line of a fault is kept where a text is summed up
summed-other : (files : Paths) (job : Job) (count : ℕ) (o : RunOutcome) → TellsOther files job o → TellsOther files job (summed count o)
summed-other files job count usage h = tt
summed-other files job count (done text report) h = tt
summed-other files job count (fault line) h = h

made-other : (count : ℕ) → TellsOther (made_files count) made_job (of_made count)
unfolding of_made
made-other count = summed-other (made_files count) made_job count (of_job (made_files count) made_job) (job-other (made_files count) made_job)

pub whole-never-stuck : WholeNeverStuck
whole-never-stuck files words = by (words_asked words)
  where
    by : (asked : Words) → AskedTellsOther files asked (of_words files asked)
    by (Expand job) = job-other files job
    by (Make count) = made-other count
    by Usage = refl
