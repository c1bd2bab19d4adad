-- A run that gathers links has the records of one that doesn't, and ends at the same faults.
use Rattle.std.proofs.Common.{◌≡◌, ℕ, List, [], ◌∷◌, ◌++◌, Result, Ok, Err, refl, sym, ap, subst, ◌∙◌}
use Rattle.base_data.specs.Gives.{◌>>=◌}
use Rattle.base_data.specs.declared.fault.Fault.{Fault}
use Rattle.core_language.specs.declared.link.Link.{Link}
use Rattle.core_language.specs.declared.record.CompiledLibrary.{CompiledLibrary}
use Rattle.run_derived.specs.Derived.{derived_record}
use Rattle.eval_code.specs.Codes.{Codes}
use Rattle.expand_forms.specs.declared.top.Linked.{Linked}
use Rattle.load_forms.specs.Form.{library_body, program_body}
use Rattle.load_import.specs.Turns.{turns}
use Rattle.run_library.proofs.LinkLemmas.{found_alone}
use Rattle.run_library.specs.Library.{unlinked}
use Rattle.run_library.specs.Loaded.{expand_found, expand_next, all_records, planned_text, text_behind, fault_behind, link_found, link_next, with_linked, all_linked, links_behind}
use Rattle.run_library.specs.declared.loaded.Gathered.{Gathered}
use Rattle.load_files.specs.declared.found.Found.{Found}
use Rattle.load_files.specs.Load.{Loads}
use Rattle.load_files.specs.declared.found.Loading.{Loading}
use Rattle.load_files.specs.declared.found.Source.{Source}
use Rattle.run_top.specs.Whole.{map_behind, text_by}
use Rattle.law_run.proofs.PartRows.{Told}
use Rattle.law_run.specs.Mapped.{MapFaultsAreFaults, TextsHaveMaps}
use Rattle.run_command.specs.declared.job.Kind.TheVariants.{Core, Xref}
use Rattle.run_xref.specs.Map.{binding_map}
use Rattle.run_xref.specs.Text.{xref_text}

-- the records without the links
abbrev pub recorded : Result Gathered Fault → Result (List CompiledLibrary) Fault
recorded (Ok all) = Ok all.records
recorded (Err f) = Err f

next-recorded : (all : Gathered) (l : Result Linked Fault) → recorded (l >>= (λ x. Ok (with_linked all x))) ≡ (unlinked l >>= (λ r. Ok (all.records ++ r ∷ [])))
next-recorded all (Ok l) = refl
next-recorded all (Err f) = refl

then-recorded : (r : Result Gathered Fault) (f : Gathered → Result Gathered Fault) (g : List CompiledLibrary → Result (List CompiledLibrary) Fault)
    → ((all : Gathered) → recorded (f all) ≡ g all.records) → recorded (r >>= f) ≡ (recorded r >>= g)
then-recorded (Ok all) f g h = h all
then-recorded (Err e) f g h = refl

module _ (prelude : Result Codes Fault) where
  next-alone : (all : Gathered) (row : List ℕ × Found) → recorded (link_next prelude all row) ≡ expand_next prelude all.records row
  next-alone all row =
      next-recorded all (link_found prelude all.records row.1 (library_body row.1.opened.«data»))
      ∙ ap (λ r. r >>= (λ (x : CompiledLibrary). Ok (all.records ++ x ∷ []))) (found_alone prelude all.records row.1 (library_body row.1.opened.«data»))

  rows-alone : (rows : List (List ℕ × Found)) (all : Gathered) → recorded (turns (link_next prelude) all rows) ≡ turns (expand_next prelude) all.records rows
  rows-alone [] all = refl
  rows-alone (row ∷ rows) all =
      then-recorded (link_next prelude all row) (λ more. turns (link_next prelude) more rows) (λ records. turns (expand_next prelude) records rows) (λ more. rows-alone rows more)
      ∙ ap (λ r. r >>= (λ records. turns (expand_next prelude) records rows)) (next-alone all row)

  pub all-alone : (rows : List (List ℕ × Found)) → recorded (all_linked prelude rows) ≡ all_records prelude rows
  all-alone rows = by (derived_record prelude)
    where
      by : (d : Result CompiledLibrary Fault)
          → recorded ((d >>= (λ r. Ok (let g : Gathered = record { records = r ∷ []; links = [] } in g))) >>= (λ all. turns (link_next prelude) all rows)) ≡ (d >>= (λ r. turns (expand_next prelude) (r ∷ []) rows))
      by (Ok r) = rows-alone rows (record { records = r ∷ []; links = [] })
      by (Err f) = refl

  -- the records of a program and of all that it imports, or the first fault
  abbrev pub run_recorded : List (List ℕ × Found) → Found → Result (Unit {0}) Fault
  run_recorded rows found = all_records prelude rows >>= (λ records. expand_found prelude records found (program_body found.opened.«data») >>= (λ program. Ok tt))

  -- where these are told, so are the links
  pub links-told : (rows : List (List ℕ × Found)) (found : Found) → Told (λ u. Unit {0}) (run_recorded rows found) → Told (λ links. Unit {0}) (links_behind prelude rows found)
  unfolding links_behind
  links-told rows found h = all (all_linked prelude rows) (all-alone rows)
    where
      body : Gathered → Result Linked Fault
      body g = link_found prelude g.records found (program_body found.opened.«data»)

      last : (g : Gathered) (l : Result Linked Fault) → unlinked l ≡ expand_found prelude g.records found (program_body found.opened.«data»)
          → Told (λ (u : Unit {0}). Unit {0}) (expand_found prelude g.records found (program_body found.opened.«data») >>= (λ program. Ok tt))
          → Told (λ links. Unit {0}) (l >>= (λ x. Ok (g.links ++ x.links)))
      last g (Ok l) e k = tt
      last g (Err f) e k = subst (λ (r : Result CompiledLibrary Fault). Told (λ (u : Unit {0}). Unit {0}) (r >>= (λ program. Ok tt))) (sym e) k

      all : (g : Result Gathered Fault) → recorded g ≡ all_records prelude rows → Told (λ links. Unit {0}) (g >>= (λ x. body x >>= (λ l. Ok (x.links ++ l.links))))
      all (Ok g) e =
          last g (body g) (found_alone prelude g.records found (program_body found.opened.«data»))
          (subst (λ (r : Result (List CompiledLibrary) Fault). Told (λ (u : Unit {0}). Unit {0}) (r >>= (λ records. expand_found prelude records found (program_body found.opened.«data») >>= (λ program. Ok tt)))) (sym e) h)
      all (Err f) e =
          subst (λ (r : Result (List CompiledLibrary) Fault). Told (λ (u : Unit {0}). Unit {0}) (r >>= (λ records. expand_found prelude records found (program_body found.opened.«data») >>= (λ program. Ok tt)))) (sym e) h

-- ---- the faults of maps and of texts

err-is : {A : Type 0} (e f : Fault) → ◌≡◌ {A = Result A Fault} (Err e) (Err f) → e ≡ f
err-is {A} e f h = ap fault_or h
  where
    fault_or : Result A Fault → Fault
    fault_or (Ok x) = e
    fault_or (Err g) = g

ok-err : {A : Type 0} (x : A) (f : Fault) → ◌≡◌ {A = Result A Fault} (Ok x) (Err f) → ⊥
ok-err x f h = cc

module _ (prelude : Result Codes Fault) (rows : List (List ℕ × Found)) (found : Found) where
  -- what comes behind records: the text, and the links
  abbrev text-of : List CompiledLibrary → Result (List ℕ) Fault
  text-of records = expand_found prelude records found (program_body found.opened.«data») >>= (λ program. planned_text records program)

  abbrev linked-of : Gathered → Result Linked Fault
  linked-of g = link_found prelude g.records found (program_body found.opened.«data»)

  abbrev links-of : Gathered → Result (List Link) Fault
  links-of g = linked-of g >>= (λ l. Ok (g.links ++ l.links))

  links-fault : (f : Fault) → links_behind prelude rows found ≡ Err f → text_behind prelude rows found ≡ Err f
  unfolding links_behind text_behind
  links-fault f h = all (all_linked prelude rows) (all-alone prelude rows) h
    where
      last : (g : Gathered) (l : Result Linked Fault) → unlinked l ≡ expand_found prelude g.records found (program_body found.opened.«data»)
          → (l >>= (λ x. Ok (g.links ++ x.links))) ≡ Err f → text-of g.records ≡ Err f
      last g (Ok l) e k = absurd (ok-err (g.links ++ l.links) f k)
      last g (Err told) e k = ap (λ r. r >>= (λ program. planned_text g.records program)) (sym e) ∙ ap Err (err-is told f k)

      all : (g : Result Gathered Fault) → recorded g ≡ all_records prelude rows → (g >>= links-of) ≡ Err f → (all_records prelude rows >>= text-of) ≡ Err f
      all (Ok g) e k = ap (λ r. r >>= text-of) (sym e) ∙ last g (linked-of g) (found_alone prelude g.records found (program_body found.opened.«data»)) k
      all (Err told) e k = ap (λ r. r >>= text-of) (sym e) ∙ ap Err (err-is told f k)

  text-links : (text : List ℕ) → text_behind prelude rows found ≡ Ok text → (links : List Link) × (links_behind prelude rows found ≡ Ok links)
  unfolding links_behind text_behind
  text-links text h = all (all_linked prelude rows) (all-alone prelude rows)
    where
      last : (g : Gathered) (l : Result Linked Fault) → unlinked l ≡ expand_found prelude g.records found (program_body found.opened.«data»)
          → text-of g.records ≡ Ok text → (links : List Link) × ((l >>= (λ x. Ok (g.links ++ x.links))) ≡ Ok links)
      last g (Ok l) e k = (g.links ++ l.links, refl)
      last g (Err told) e k = absurd (ok-err text told (sym k ∙ ap (λ r. r >>= (λ program. planned_text g.records program)) (sym e)))

      all : (g : Result Gathered Fault) → recorded g ≡ all_records prelude rows → (links : List Link) × ((g >>= links-of) ≡ Ok links)
      all (Ok g) e = last g (linked-of g) (found_alone prelude g.records found (program_body found.opened.«data»)) (ap (λ r. r >>= text-of) e ∙ h)
      all (Err told) e = absurd (ok-err text told (sym h ∙ ap (λ r. r >>= text-of) (sym e)))

  map-fault : (sources : List Source) (f : Fault) → map_behind prelude rows found sources ≡ Err f → text_behind prelude rows found ≡ Err f
  map-fault sources f h = by (links_behind prelude rows found) refl h
    where
      by : (r : Result (List Link) Fault) → links_behind prelude rows found ≡ r → (r >>= (λ links. Ok (xref_text sources (binding_map links)))) ≡ Err f → text_behind prelude rows found ≡ Err f
      by (Ok links) e k = absurd (ok-err (xref_text sources (binding_map links)) f k)
      by (Err told) e k = links-fault f (e ∙ ap Err (err-is told f k))

  text-map : (sources : List Source) (text : List ℕ) → text_behind prelude rows found ≡ Ok text → (written : List ℕ) × (map_behind prelude rows found sources ≡ Ok written)
  text-map sources text h =
      let l = text-links text h in
      (xref_text sources (binding_map l.0), ap (λ r. r >>= (λ links. Ok (xref_text sources (binding_map links)))) l.1)

pub map-faults-are-faults : MapFaultsAreFaults
map-faults-are-faults prelude (Ok l) f h = map-fault prelude l.1.done l.0 l.1.sources f h
map-faults-are-faults prelude (Err e) f h = h

pub texts-have-maps : TextsHaveMaps
unfolding fault_behind
texts-have-maps prelude (Ok l) text h = text-map prelude l.1.done l.0 l.1.sources text h
texts-have-maps prelude (Err e) text h = (text, h)
