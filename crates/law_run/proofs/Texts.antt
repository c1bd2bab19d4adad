-- Trees, the codes of texts and the record of the derived library are within the limits: each tree that is read is.
use Rattle.std.proofs.Common.{◌≡◌, ◌≤◌, ℕ, List, [], ◌∷◌, ◌++◌, Result, Ok, Err, refl, subst, arith}
use Rattle.base_data.proofs.ElementLemmas.{each-and}
use Rattle.base_data.specs.Act.{give, each}
use Rattle.base_data.specs.Datum.{PlainDatum}
use Rattle.base_data.specs.Elements.{Each}
use Rattle.base_data.specs.Gives.{◌>>=◌}
use Rattle.base_data.specs.declared.fault.Bare.{Bare}
use Rattle.base_data.specs.declared.fault.Fault.{Fault}
use Rattle.base_data.specs.declared.library.LibName.TheVariants as library
use Rattle.base_data.specs.declared.span.Span.{Span}
use Rattle.load_builtin.specs.Prelude.{prelude_text}
use Rattle.load_builtin.specs.declared.derived.TheConstants.{DERIVED_SOURCE}
use Rattle.core_language.specs.Core.{PlainCode}
use Rattle.core_language.specs.declared.record.CompiledLibrary.{CompiledLibrary}
use Rattle.law_core.specs.Records.{line_core}
use Rattle.base_data.specs.Elements as elements
use Rattle.run_derived.specs.Derived.{forms_of, record_of, derived_record, derived_body}
use Rattle.run_derived.specs.Derived as of_derived
use Rattle.run_derived.specs.Names as derived_names
use Rattle.eval_code.specs.Codes.{Codes, with_procedure, with_code}
use Rattle.expand_forms.specs.Expanding.{ready, expression}
use Rattle.expand_forms.specs.Expression.{full_room}
use Rattle.expand_forms.specs.Site.{outermost}
use Rattle.base_data.proofs.ElementLemmas.{each-and}
use Rattle.law_fresh.proofs.Trees.{OkHolds}
use Rattle.run_library.specs.Library.{placed, tree_at, trees_at}
use Rattle.law_limit_expansion.proofs.Recorded.{started-holds, records-stay}
use Rattle.law_limit_expansion.proofs.PlannedForm.{inside-keeps}
use Rattle.law_limit_expansion.proofs.Shapes.{then-holds}
use Rattle.law_limit_expansion.proofs.Standing.{C, Gave, gave-after, gave-each}
use Rattle.law_limit_expansion.specs.Records.{RecordHolds}
use Rattle.law_limit_expansion.specs.States.{HoldsIn}
use Rattle.law_limits.proofs.Codes.{one-code, case-codes}
use Rattle.law_limits.proofs.Limits.{fits-lawful}
use Rattle.law_limits.proofs.Trees.{within_holds}
use Rattle.law_limits.specs.Holds.{CodeHolds, CodesHold}
use Rattle.law_nesting.proofs.Records.{lines-nest-all}
use Rattle.law_nesting.specs.Heights.{in_text, height_with}
use Rattle.law_nesting.specs.Nesting.{IsAtMostText, deepest}
use Rattle.run_prelude.specs.Prelude.{procedures, names, path_of, text_place, text_of, at_place, first_tree, tree_in, procedure_of, expanded, text_code, without_state, prelude_codes, filled}
use Rattle.read_reader.specs.Read.{data_of, file_nesting}
use Rattle.law_run.specs.Limits.{PreludeStaysWithin}
use Rattle.expand_standing.specs.Start.{first_frame}
use Rattle.expand_standing.specs.State.{State}
use Rattle.stx_tree.specs.Changes.{stamp}
use Rattle.stx_tree.specs.Context.{blank}
use Rattle.stx_tree.specs.Leaves.{tree_of}
use Rattle.stx_tree.specs.Measures.{Fits, within}
use Rattle.stx_tree.specs.Tree.{Tree}
use Rattle.stx_tree.specs.declared.change.Change.TheVariants as change

-- Trees.

limited : (t : Tree) → OkHolds Fits (within t)
limited t = within_holds Fits fits-lawful t

placed-fits : (place : Span) (d : PlainDatum) → OkHolds Fits (at_place place (within (tree_of blank d)))
placed-fits place d = by (within (tree_of blank d)) (limited (tree_of blank d))
  where
    by : (r : Result Tree Bare) → OkHolds Fits r → OkHolds Fits (at_place place r)
    by (Ok t) k = k
    by (Err f) k = tt

tree-at-fits : (place : Span) (d : PlainDatum) → OkHolds Fits (tree_at place d)
tree-at-fits place d = by (within (tree_of blank d)) (limited (tree_of blank d))
  where
    by : (r : Result Tree Bare) → OkHolds Fits r → OkHolds Fits (placed place d r)
    by (Ok t) k = k
    by (Err f) k = tt

pub trees-fit : (place : Span) (done : List Tree) (ds : List PlainDatum) → Each Fits done → OkHolds (Each Fits) (trees_at place done ds)
trees-fit place done [] h = h
trees-fit place done (d ∷ ds) h =
    then-holds Fits fits-lawful Fits (Each Fits) (tree_at place d) (λ t. trees_at place (done ++ t ∷ []) ds) (tree-at-fits place d) (λ t j. trees-fit place (done ++ t ∷ []) ds (each-and Fits done t h j))

-- What stands in a record that expansion gives.

-- its trees are within the limits, and its lines nest no deeper than such lines do
pub record IsShallow (r : CompiledLibrary) : Type 0 where
  pub within : RecordHolds Fits r
  pub nests : elements.Each (λ l. height_with in_text (line_core l) ≤ deepest) r.run

pub at-most-text : IsAtMostText in_text
at-most-text = record { init = omega arith; case = omega arith }

-- The codes of texts.

first-fits : (place : Span) (ds : List PlainDatum) → OkHolds Fits (first_tree place ds)
first-fits place [] = tt
first-fits place (d ∷ ds) = placed-fits place d

abbrev AnyData : List PlainDatum → Type 0
AnyData ds = Unit {0}

any-data : (r : Result (List PlainDatum) Fault) → OkHolds AnyData r
any-data (Ok ds) = tt
any-data (Err f) = tt

tree-in-fits : (n : ℕ) → OkHolds Fits (tree_in n)
tree-in-fits n =
    let file = data_of (path_of n) (text_of (prelude_text n)) file_nesting in
    then-holds Fits fits-lawful AnyData Fits file (first_tree (text_place n)) (any-data file) (λ ds k. first-fits (text_place n) ds)

expanded-fits : (n : ℕ) (r : Result Tree Fault) (s : State) → HoldsIn Fits s → OkHolds Fits r → Gave Fits fits-lawful (CodeHolds Fits) (expanded n r s)
expanded-fits n (Err f) s h k = tt
expanded-fits n (Ok t) s h k =
    gave-after Fits fits-lawful (C Fits fits-lawful) (CodeHolds Fits) (expression [] (outermost (text_place n) 0) (stamp (first_frame library.Prelude) t) s) (λ c. give (procedure_of n c))
    ((inside-keeps Fits fits-lawful [] full_room tt).form (text_place n) 0 0 (stamp (first_frame library.Prelude) t) s h (fits-lawful.changed (change.Stamp (first_frame library.Prelude) ∷ []) t k)) (λ c u i y. (i, (y, tt)))

code-fits : (n : ℕ) (s : State) → HoldsIn Fits s → Gave Fits fits-lawful (CodeHolds Fits) (text_code n s)
unfolding text_code
code-fits n s h = expanded-fits n (tree_in n) s h (tree-in-fits n)

abbrev Any : ℕ → Type 0
Any n = Unit {0}

all-any : (ns : List ℕ) → Each Any ns
all-any [] = tt
all-any (n ∷ ns) = (tt, all-any ns)

codes-fit : OkHolds (Each (CodeHolds Fits)) prelude_codes
unfolding prelude_codes
codes-fit =
    by (each text_code [] procedures (ready library.Prelude [] names []).state)
    (gave-each Fits fits-lawful Any (CodeHolds Fits) text_code (λ n s h k. code-fits n s h) [] procedures (ready library.Prelude [] names []).state (started-holds Fits fits-lawful library.Prelude [] names [] tt tt) tt (all-any procedures))
  where
    by : (r : Result (List PlainCode × State) Fault) → Gave Fits fits-lawful (λ cs. Each (CodeHolds Fits) cs) r → OkHolds (Each (CodeHolds Fits)) (without_state r)
    by (Ok p) h = h.1
    by (Err f) h = tt

filled-fits : (table : Codes) (cs : List PlainCode) → CodesHold Fits table → Each (CodeHolds Fits) cs → CodesHold Fits (filled table cs)
filled-fits table [] h k = h
filled-fits table (c ∷ cs) h k =
    filled-fits (with_procedure c table) cs (case-codes Fits fits-lawful c.cases (with_code c table) (one-code Fits fits-lawful c table h k.0) k.0) k.1

pub prelude-fits : PreludeStaysWithin
prelude-fits table e = by prelude_codes codes-fit e
  where
    by : (r : Result (List PlainCode) Fault) → OkHolds (Each (CodeHolds Fits)) r → (r >>= λ cs. Ok (filled [] cs)) ≡ Ok table → CodesHold Fits table
    by (Ok cs) h k = let same : filled [] cs ≡ table = cc in subst (CodesHold Fits) same (filled-fits [] cs tt h)
    by (Err f) h k = absurd (cc)

-- The derived library.

derived-trees-fit : (done : List Tree) (ds : List PlainDatum) → Each Fits done → OkHolds (Each Fits) (of_derived.trees done ds)
derived-trees-fit done [] h = h
derived-trees-fit done (d ∷ ds) h =
    then-holds Fits fits-lawful Fits (Each Fits) (of_derived.tree_at d) (λ t. of_derived.trees (done ++ t ∷ []) ds) (placed-fits derived_names.start d) (λ t j. derived-trees-fit (done ++ t ∷ []) ds (each-and Fits done t h j))

forms-fit : (text : List ℕ) → OkHolds (Each Fits) (forms_of text)
unfolding forms_of
forms-fit text =
    let file = data_of derived_names.path text file_nesting in
    then-holds Fits fits-lawful AnyData (Each Fits) file (of_derived.trees []) (any-data file) (λ ds k. derived-trees-fit [] ds tt)

module _ (d : CompiledLibrary) (prelude : Result Codes Fault) (given : (table : Codes) → prelude ≡ Ok table → CodesHold Fits table) where
  from-forms : (table : Codes) (forms : List Tree) → CodesHold Fits table → Each Fits forms → record_of table forms ≡ Ok d → IsShallow d
  unfolding record_of
  from-forms table forms k fit h = record {
    within = records-stay Fits fits-lawful library.Derived [] derived_names.names (derived_body forms) table d tt k fit h;
    nests = lines-nest-all in_text at-most-text library.Derived [] derived_names.names (derived_body forms) table d h;
  }

  pub derived-shallow : derived_record prelude ≡ Ok d → IsShallow d
  unfolding derived_record
  derived-shallow h = by-forms (forms_of DERIVED_SOURCE.now) (forms-fit DERIVED_SOURCE.now) h
    where
      by-codes : (forms : List Tree) → Each Fits forms → (x : Result Codes Fault) → prelude ≡ x → (x >>= (λ table. record_of table forms)) ≡ Ok d → IsShallow d
      by-codes forms fit (Ok table) e h = from-forms table forms (given table e) fit h
      by-codes forms fit (Err f) e h = absurd (cc)

      by-forms : (x : Result (List Tree) Fault) → OkHolds (Each Fits) x → (x >>= (λ forms. prelude >>= (λ table. record_of table forms))) ≡ Ok d → IsShallow d
      by-forms (Ok forms) fit h = by-codes forms fit prelude refl h
      by-forms (Err f) fit h = absurd (cc)
