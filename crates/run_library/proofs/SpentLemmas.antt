-- The fuel of libraries, one after another.
use Rattle.std.proofs.Common.{◌≡◌, ℕ, ◌+◌, List, [], ◌∷◌, ◌++◌, map, Result, Ok, Err, refl, sym, ap, subst, ◌∙◌, arith}
use Rattle.std.specs.Prelude.{OnOk}
use Rattle.base_data.specs.Gives.{◌>>=◌}
use Rattle.base_data.specs.declared.fault.Fault.{Fault}
use Rattle.core_language.specs.declared.record.CompiledLibrary.{CompiledLibrary}
use Rattle.run_derived.specs.Derived.{derived_record, derived_spent}
use Rattle.eval_code.specs.Codes.{Codes}
use Rattle.expand_forms.specs.declared.top.Linked.{Linked}
use Rattle.load_forms.specs.Form.{library_body, program_body}
use Rattle.load_import.specs.Turns.{turns}
use Rattle.load_files.specs.declared.found.Found.{Found}
use Rattle.run_prelude.specs.Spent.{spent_behind}
use Rattle.run_prelude.proofs.SpentLemmas.{spent_both, spent_both_by}
use Rattle.run_library.proofs.LinkLemmas.{found_alone}
use Rattle.run_library.specs.Library.{unlinked}
use Rattle.run_library.specs.Loaded.{expand_next, all_records, link_found, link_next, with_linked, derived_linked, all_linked, found_spent, each_spent, all_spent, program_spent}
use Rattle.run_library.specs.declared.loaded.Gathered.{Gathered}

module _ (prelude : Result Codes Fault) where
  -- what the first library spends, and those behind it
  first_spent : (records more : List CompiledLibrary) (f : Found) (fs : List Found) → expand_next prelude records ([], f) ≡ Ok more
      → each_spent prelude records (f ∷ fs) ≡ found_spent prelude records f (library_body f.opened.«data») + each_spent prelude more fs
  unfolding each_spent
  first_spent records more f fs given = ap (λ r. found_spent prelude records f (library_body f.opened.«data») + spent_behind r (λ rs. each_spent prelude rs fs)) given

  none_spent : (records : List CompiledLibrary) → each_spent prelude records [] ≡ 0
  unfolding each_spent
  none_spent records = refl

  -- one library further on
  pub spent_on : (records more : List CompiledLibrary) (f : Found) (left others : List Found) (start before after : ℕ) → left ≡ f ∷ others → expand_next prelude records ([], f) ≡ Ok more
      → after ≡ before + found_spent prelude records f (library_body f.opened.«data») → before + each_spent prelude records left ≡ start → after + each_spent prelude more others ≡ start
  spent_on records more f left others start before after first given rose so_far =
      let e = ap (each_spent prelude records) first ∙ first_spent records more f others given in omega (arith, e, rose, so_far)

  -- no library is left
  pub spent_end : (records : List CompiledLibrary) (left : List Found) (before whole after : ℕ) → left ≡ [] → after + each_spent prelude records left ≡ before + whole → after ≡ before + whole
  spent_end records left before whole after none so_far = let e = ap (each_spent prelude records) none ∙ none_spent records in omega (arith, e, so_far)

  -- with links the records are the same
  next_of : (all more : Gathered) (r : Result Linked Fault) (q : Result CompiledLibrary Fault) → unlinked r ≡ q → (r >>= (λ l. Ok (with_linked all l))) ≡ Ok more
      → (q >>= (λ one. let rs : Result (List CompiledLibrary) Fault = Ok (all.records ++ one ∷ []) in rs)) ≡ Ok more.records
  next_of all more (Ok l) q same h =
      ap (λ (s : Result CompiledLibrary Fault). s >>= (λ one. let rs : Result (List CompiledLibrary) Fault = Ok (all.records ++ one ∷ []) in rs)) (sym same)
      ∙ (let e : with_linked all l ≡ more = cc in ap (λ (g : Gathered). let rs : Result (List CompiledLibrary) Fault = Ok g.records in rs) e)
  next_of all more (Err f) q same h = absurd (cc)

  pub next_records : (all more : Gathered) (f : Found) → link_next prelude all ([], f) ≡ Ok more → expand_next prelude all.records ([], f) ≡ Ok more.records
  next_records all more f h = next_of all more (link_found prelude all.records f (library_body f.opened.«data»)) _ (found_alone prelude all.records f (library_body f.opened.«data»)) h

  then_next : (all last : Gathered) (row : List ℕ × Found) (rows : List (List ℕ × Found)) (r : Result Gathered Fault) → link_next prelude all row ≡ r
      → ((more : Gathered) → turns (link_next prelude) more rows ≡ Ok last → turns (expand_next prelude) more.records rows ≡ Ok last.records)
      → (r >>= (λ more. turns (link_next prelude) more rows)) ≡ Ok last → turns (expand_next prelude) all.records (row ∷ rows) ≡ Ok last.records
  then_next all last row rows (Ok more) is others e = ap (λ s. s >>= (λ rs. turns (expand_next prelude) rs rows)) (next_records all more row.1 is) ∙ others more e
  then_next all last row rows (Err f) is others e = absurd (cc)

  pub all_next : (all last : Gathered) (rows : List (List ℕ × Found)) → turns (link_next prelude) all rows ≡ Ok last → turns (expand_next prelude) all.records rows ≡ Ok last.records
  all_next all last [] h = let e : all ≡ last = cc in ap (λ (g : Gathered). let rs : Result (List CompiledLibrary) Fault = Ok g.records in rs) e
  all_next all last (row ∷ rows) h = then_next all last row rows (link_next prelude all row) refl (λ more e. all_next more last rows e) h

  -- ---- behind the derived library

  pub all_behind : {X E : Type 0} (result : Result X E) (derived : CompiledLibrary) (records : List CompiledLibrary) (fs : List Found) (before middle after : ℕ) → derived_record prelude ≡ Ok derived → records ≡ derived ∷ []
      → middle ≡ before + derived_spent prelude → OnOk result (after ≡ middle + each_spent prelude records fs) → OnOk result (after ≡ before + all_spent prelude fs)
  all_behind result derived records fs before middle after given is first rest =
      spent_both_by (derived_record prelude) derived (λ d. each_spent prelude (d ∷ []) fs) given result before middle after (derived_spent prelude) first
      (subst (λ (rs : List CompiledLibrary). OnOk result (after ≡ middle + each_spent prelude rs fs)) is rest)

  -- what was gathered of the derived library
  alone : (r : Result CompiledLibrary Fault) (all : Gathered) → (r >>= (λ d. let g : Result Gathered Fault = Ok (record { records = d ∷ []; links = [] }) in g)) ≡ Ok all
      → (fs : List Found) → spent_behind r (λ d. each_spent prelude (d ∷ []) fs) ≡ each_spent prelude all.records fs
  alone (Ok d) all h fs = let e : ◌≡◌ {A = Gathered} (record { records = d ∷ []; links = [] }) all = cc in ap (λ (g : Gathered). each_spent prelude g.records fs) e
  alone (Err f) all h fs = absurd (cc)

  pub all_linked_behind : {X E : Type 0} (result : Result X E) (all : Gathered) (fs : List Found) (before middle after : ℕ) → derived_linked prelude ≡ Ok all
      → middle ≡ before + derived_spent prelude → OnOk result (after ≡ middle + each_spent prelude all.records fs) → OnOk result (after ≡ before + all_spent prelude fs)
  all_linked_behind (Ok x) all fs before middle after given first rest = let e = alone (derived_record prelude) all given fs in let r : after ≡ middle + each_spent prelude all.records fs = rest in omega (arith, e, first, r)
  all_linked_behind (Err x) all fs before middle after given first rest = tt

  gathered : (r : Result CompiledLibrary Fault) (last : Gathered) (rows : List (List ℕ × Found)) → derived_record prelude ≡ r
      → ((r >>= (λ d. let g : Result Gathered Fault = Ok (record { records = d ∷ []; links = [] }) in g)) >>= (λ all. turns (link_next prelude) all rows)) ≡ Ok last → all_records prelude rows ≡ Ok last.records
  gathered (Ok d) last rows is h = ap (λ s. s >>= (λ x. turns (expand_next prelude) (x ∷ []) rows)) is ∙ all_next (record { records = d ∷ []; links = [] }) last rows h
  gathered (Err f) last rows is h = absurd (cc)

  pub all_gathered : (last : Gathered) (rows : List (List ℕ × Found)) → all_linked prelude rows ≡ Ok last → all_records prelude rows ≡ Ok last.records
  all_gathered last rows h = gathered (derived_record prelude) last rows refl h

  -- and a program behind all of them
  pub program_behind : (rows : List (List ℕ × Found)) (found : Found) (records : List CompiledLibrary) (before middle after : ℕ) → all_records prelude rows ≡ Ok records
      → middle ≡ before + all_spent prelude (map (λ (row : List ℕ × Found). row.1) rows) → after ≡ middle + found_spent prelude records found (program_body found.opened.«data») → after ≡ before + program_spent prelude rows found
  unfolding program_spent
  program_behind rows found records before middle after given first rest =
      spent_both (all_records prelude rows) records (λ rs. found_spent prelude rs found (program_body found.opened.«data»)) given before middle after (all_spent prelude (map (λ (row : List ℕ × Found). row.1) rows)) first rest
