-- An expansion with its links gives the record of one without them.
use Rattle.std.proofs.Common.{◌≡◌, ℕ, List, [], ◌∷◌, ◌++◌, map, Result, Ok, Err, refl, sym, ap, ◌∙◌}
use Rattle.base_data.specs.Datum.{PlainDatum}
use Rattle.base_data.specs.Gives.{Stops, ◌>>=◌}
use Rattle.base_data.specs.declared.fault.Fault.{Fault}
use Rattle.base_data.specs.declared.fault.Stop.{Stop}
use Rattle.base_data.specs.declared.fault.Stop.TheVariants as stops
use Rattle.core_language.specs.declared.record.CompiledLibrary.{CompiledLibrary}
use Rattle.eval_code.specs.Codes.{Codes}
use Rattle.expand_forms.specs.Expanding.{Expanding, library_record, library_linked}
use Rattle.expand_forms.specs.Top.{record_in, linked_in}
use Rattle.expand_forms.specs.declared.top.Linked.{Linked}
use Rattle.load_forms.specs.Form.{library_body, program_body}
use Rattle.load_forms.specs.declared.form.LibraryForm.{LibraryForm}
use Rattle.load_import.specs.Names.{Labelled}
use Rattle.load_import.specs.Turns.{turns}
use Rattle.load_files.specs.declared.found.Found.{Found}
use Rattle.expand_standing.specs.State.{State}
use Rattle.stx_tree.specs.Tree.{Tree}
use Rattle.run_library.specs.Imports.{form_names}
use Rattle.run_library.specs.Library.{trees_at, export_tree, expander_of, expand_library, link_library, unlinked}
use Rattle.run_library.specs.Loaded.{expand_found, expand_next, link_found, link_next, with_linked}
use Rattle.run_library.specs.declared.loaded.Gathered.{Gathered}

-- what a library adds, whose name doesn't matter
abbrev pub next_linked : Result Codes Fault → Gathered → Found → Result Gathered Fault
next_linked prelude all found = link_next prelude all ([], found)

values_alone : (prelude : Result Codes Fault) (all : Gathered) (rows : List (List ℕ × Found))
    → turns (next_linked prelude) all (map (λ (e : List ℕ × Found). e.1) rows) ≡ turns (link_next prelude) all rows
values_alone prelude all [] = refl
values_alone prelude all (row ∷ rows) = λ i. link_next prelude all row >>= (λ more. values_alone prelude more rows i)

-- the libraries of a table, without their names, give what the table gives
pub by_value : (prelude : Result Codes Fault) (all : Gathered) (rows : List (List ℕ × Found)) (found : List Found) → found ≡ map (λ (e : List ℕ × Found). e.1) rows
    → turns (next_linked prelude) all found ≡ turns (link_next prelude) all rows
by_value prelude all rows found is = ap (turns (next_linked prelude) all) is ∙ values_alone prelude all rows

-- ---- without links

record_alone : (t : Result (CompiledLibrary × State) Fault) → unlinked (linked_in t) ≡ record_in t
record_alone (Ok p) = refl
record_alone (Err f) = refl

module _ {A : Type 0} (f : A → Result Linked Fault) (g : A → Result CompiledLibrary Fault) (same : (a : A) → unlinked (f a) ≡ g a) where
  then_alone : (r : Result A Fault) → unlinked (r >>= f) ≡ (r >>= g)
  then_alone (Ok a) = same a
  then_alone (Err e) = refl

pub library_alone : (prelude : Result Codes Fault) (records : List CompiledLibrary) (path : List ℕ) (form : LibraryForm) (body : List PlainDatum)
    → unlinked (link_library prelude records path form body) ≡ expand_library prelude records path form body
unfolding link_library expand_library
library_alone prelude records path form body =
    then_alone {A = Labelled} _ _ (λ names.
    then_alone {A = List Tree} _ _ (λ forms.
    then_alone {A = Expanding} _ _ (λ e. record_alone _) (expander_of prelude form.name records names)) (trees_at form.name_span [] body)) (form_names records form.imports)

pub found_alone : (prelude : Result Codes Fault) (records : List CompiledLibrary) (found : Found) (body : List PlainDatum)
    → unlinked (link_found prelude records found body) ≡ expand_found prelude records found body
found_alone prelude records found body = library_alone prelude _ found.opened.path found.opened.form body

-- what a library gives without its links
module _ (prelude : Result Codes Fault) (records : List CompiledLibrary) (found : Found) (body : List PlainDatum) where
  pub record_given : (l : Linked) (r : CompiledLibrary) → link_found prelude records found body ≡ Ok l → r ≡ l.library → expand_found prelude records found body ≡ Ok r
  record_given l r given is = sym (found_alone prelude records found body) ∙ ap unlinked given ∙ ap Ok (sym is)

  pub record_stops : (stop : Stop) → Stops stop (link_found prelude records found body) → Stops stop (expand_found prelude records found body)
  record_stops stops.Memory given = tt
  record_stops (stops.Fault f) given = sym (found_alone prelude records found body) ∙ ap unlinked given
