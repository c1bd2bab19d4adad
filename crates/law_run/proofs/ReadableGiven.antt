-- The codes of texts, and the record of the derived library, can be written and read back: they are made of texts that are read.
use Rattle.std.proofs.Common.{◌≡◌, ℕ, List, [], ◌∷◌, ◌++◌, Result, Ok, Err, refl, subst}
use Rattle.base_data.proofs.ElementLemmas.{each-and}
use Rattle.base_data.specs.Act.{give, each}
use Rattle.base_data.specs.Datum.{PlainDatum}
use Rattle.base_data.specs.Elements.{Each}
use Rattle.base_data.specs.Gives.{◌>>=◌}
use Rattle.base_data.specs.declared.fault.Bare.{Bare}
use Rattle.base_data.specs.declared.fault.Fault.{Fault}
use Rattle.base_data.specs.declared.library.LibName.TheVariants as library
use Rattle.base_data.specs.declared.span.Span.{Span}
use Rattle.load_builtin.specs.Prelude.{prelude_text}
use Rattle.load_builtin.specs.declared.derived.TheConstants.{DERIVED_SOURCE}
use Rattle.core_language.specs.Core.{PlainCode}
use Rattle.core_language.specs.declared.record.CompiledLibrary.{CompiledLibrary}
use Rattle.expand_forms.specs.Expression.{full_room}
use Rattle.run_derived.specs.Derived.{forms_of, record_of, derived_record, derived_body}
use Rattle.run_derived.specs.Derived as of_derived
use Rattle.run_derived.specs.Names as derived_names
use Rattle.eval_code.specs.Codes.{Codes, with_procedure, with_code}
use Rattle.expand_forms.specs.Expanding.{ready, expression}
use Rattle.expand_forms.specs.Site.{outermost}
use Rattle.base_data.proofs.ElementLemmas.{each-and}
use Rattle.law_fresh.proofs.Trees.{OkHolds}
use Rattle.run_prelude.specs.Prelude.{procedures, names, path_of, text_place, text_of, at_place, first_tree, tree_in, procedure_of, expanded, text_code, without_state, prelude_codes, filled}
use Rattle.read_reader.specs.Read.{data_of, file_nesting}
use Rattle.law_readable.specs.Readable.{ReadableDatum, ReadableTree, ReadableCode, ReadableCodes}
use Rattle.law_readable.proofs.Codes.{one-code, case-codes}
use Rattle.law_readable.proofs.Stages.{changed-holds}
use Rattle.law_readable_expansion.specs.Records.{ReadableRecord}
use Rattle.law_readable_expansion.proofs.Recorded.{started-holds, records-stay}
use Rattle.law_readable_expansion.proofs.PlannedForm.{inside-keeps}
use Rattle.law_readable_expansion.proofs.Shapes.{then-holds}
use Rattle.law_readable_expansion.proofs.Standing.{C, F, Gave, gave-after, gave-each}
use Rattle.expand_standing.specs.Start.{first_frame}
use Rattle.expand_standing.specs.State.{State}
use Rattle.stx_tree.specs.Changes.{stamp}
use Rattle.stx_tree.specs.Context.{blank}
use Rattle.stx_tree.specs.Leaves.{tree_of}
use Rattle.stx_tree.specs.Measures.{within}
use Rattle.stx_tree.specs.Tree.{Tree}
use Rattle.stx_tree.specs.declared.change.Change.TheVariants as change
use Rattle.law_run.specs.Readable.{IsReadablePrelude, PreludeIsReadable}
use Rattle.law_run.proofs.ReadableData.{Ds, text-data, limited-holds}

-- a tree at a place
placed-holds : (place : Span) (d : PlainDatum) → ReadableDatum d → OkHolds ReadableTree (at_place place (within (tree_of blank d)))
placed-holds place d h = by (within (tree_of blank d)) (limited-holds d h)
  where
    by : (r : Result Tree Bare) → OkHolds ReadableTree r → OkHolds ReadableTree (at_place place r)
    by (Ok t) k = k
    by (Err f) k = tt

-- The codes of texts.

first-holds : (place : Span) (ds : List PlainDatum) → Ds ds → OkHolds ReadableTree (first_tree place ds)
first-holds place [] h = tt
first-holds place (d ∷ ds) h = placed-holds place d h.0

tree-in-holds : (n : ℕ) → OkHolds ReadableTree (tree_in n)
tree-in-holds n = then-holds Ds ReadableTree (data_of (path_of n) (text_of (prelude_text n)) file_nesting) (first_tree (text_place n)) (text-data (path_of n) (text_of (prelude_text n))) (first-holds (text_place n))

expanded-holds : (n : ℕ) (r : Result Tree Fault) (s : State) → F s → OkHolds ReadableTree r → Gave ReadableCode (expanded n r s)
expanded-holds n (Err f) s h k = tt
expanded-holds n (Ok t) s h k =
    gave-after C ReadableCode (expression [] (outermost (text_place n) 0) (stamp (first_frame library.Prelude) t) s) (λ c. give (procedure_of n c))
    ((inside-keeps [] full_room tt).form (text_place n) 0 0 (stamp (first_frame library.Prelude) t) s h (changed-holds (change.Stamp (first_frame library.Prelude) ∷ []) t k)) (λ c u i y. (i, (y, tt)))

code-holds : (n : ℕ) (s : State) → F s → Gave ReadableCode (text_code n s)
unfolding text_code
code-holds n s h = expanded-holds n (tree_in n) s h (tree-in-holds n)

abbrev Any : ℕ → Type 0
Any n = Unit {0}

all-any : (ns : List ℕ) → Each Any ns
all-any [] = tt
all-any (n ∷ ns) = (tt, all-any ns)

codes-hold : OkHolds (Each ReadableCode) prelude_codes
unfolding prelude_codes
codes-hold =
    by (each text_code [] procedures (ready library.Prelude [] names []).state)
    (gave-each Any ReadableCode text_code (λ n s h k. code-holds n s h) [] procedures (ready library.Prelude [] names []).state (started-holds library.Prelude [] names [] tt tt) tt (all-any procedures))
  where
    by : (r : Result (List PlainCode × State) Fault) → Gave (λ cs. Each ReadableCode cs) r → OkHolds (Each ReadableCode) (without_state r)
    by (Ok p) h = h.1
    by (Err f) h = tt

filled-holds : (table : Codes) (cs : List PlainCode) → ReadableCodes table → Each ReadableCode cs → ReadableCodes (filled table cs)
filled-holds table [] h k = h
filled-holds table (c ∷ cs) h k = filled-holds (with_procedure c table) cs (case-codes c.cases (with_code c table) (one-code c table h k.0) k.0) k.1

pub prelude-readable : PreludeIsReadable
prelude-readable table e = by prelude_codes codes-hold e
  where
    by : (r : Result (List PlainCode) Fault) → OkHolds (Each ReadableCode) r → (r >>= λ cs. Ok (filled [] cs)) ≡ Ok table → ReadableCodes table
    by (Ok cs) h k = let same : filled [] cs ≡ table = cc in subst ReadableCodes same (filled-holds [] cs tt h)
    by (Err f) h k = absurd (cc)

-- The derived library.

trees-hold : (done : List Tree) (ds : List PlainDatum) → Each ReadableTree done → Ds ds → OkHolds (Each ReadableTree) (of_derived.trees done ds)
trees-hold done [] h k = h
trees-hold done (d ∷ ds) h k =
    then-holds ReadableTree (Each ReadableTree) (of_derived.tree_at d) (λ t. of_derived.trees (done ++ t ∷ []) ds) (placed-holds derived_names.start d k.0) (λ t j. trees-hold (done ++ t ∷ []) ds (each-and ReadableTree done t h j) k.1)

forms-hold : (text : List ℕ) → OkHolds (Each ReadableTree) (forms_of text)
unfolding forms_of
forms-hold text = then-holds Ds (Each ReadableTree) (data_of derived_names.path text file_nesting) (of_derived.trees []) (text-data derived_names.path text) (λ ds k. trees-hold [] ds tt k)

module _ (d : CompiledLibrary) (prelude : Result Codes Fault) (given : IsReadablePrelude prelude) where
  from-forms : (table : Codes) (forms : List Tree) → ReadableCodes table → Each ReadableTree forms → record_of table forms ≡ Ok d → ReadableRecord d
  unfolding record_of
  from-forms table forms k read h = records-stay library.Derived [] derived_names.names (derived_body forms) table d tt k read h

  pub derived-readable : derived_record prelude ≡ Ok d → ReadableRecord d
  unfolding derived_record
  derived-readable h = by-forms (forms_of DERIVED_SOURCE.now) (forms-hold DERIVED_SOURCE.now) h
    where
      by-codes : (forms : List Tree) → Each ReadableTree forms → (x : Result Codes Fault) → prelude ≡ x → (x >>= (λ table. record_of table forms)) ≡ Ok d → ReadableRecord d
      by-codes forms read (Ok table) e h = from-forms table forms (given table e) read h
      by-codes forms read (Err f) e h = absurd (cc)

      by-forms : (x : Result (List Tree) Fault) → OkHolds (Each ReadableTree) x → (x >>= (λ forms. prelude >>= (λ table. record_of table forms))) ≡ Ok d → ReadableRecord d
      by-forms (Ok forms) read h = by-codes forms read prelude refl h
      by-forms (Err f) read h = absurd (cc)
