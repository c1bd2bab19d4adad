-- Before a run, no leaf has a mark: the forms of files have none, and the codes of the texts have no leaves.
use Rattle.std.proofs.Common.{◌≡◌, ℕ, true, List, [], ◌∷◌, ◌++◌, map, Option, Some, None, Result, Ok, Err, refl, subst}
use Rattle.std.specs.Prelude.{is_some}
use Rattle.base_data.proofs.ElementLemmas.{each-and, each-append}
use Rattle.base_data.specs.Datum.{PlainDatum, atom, symbol, pair, vector}
use Rattle.base_data.specs.Elements.{Each}
use Rattle.base_data.specs.declared.fault.Bare.{Bare}
use Rattle.base_data.specs.declared.fault.Fault.{Fault}
use Rattle.base_data.specs.declared.span.Span.{Span}
use Rattle.core_language.specs.Core.{PlainCore, quoted, variable, primitive, one_armed, two_armed, assignment, sequence, procedure, letrec, call, instance, matching}
use Rattle.core_language.specs.Core.{PlainCores, none, more, PlainInits, no_init, init, PlainCases, no_case, case}
use Rattle.run_derived.specs.Derived.{forms_of}
use Rattle.run_derived.specs.Derived as of_derived
use Rattle.run_derived.specs.Names as derived_names
use Rattle.eval_code.specs.Codes.{Codes}
use Rattle.load_import.specs.declared.set.NameAt.{NameAt}
use Rattle.law_fresh_expansion.specs.RecordMarks.{WasRead}
use Rattle.law_fresh.specs.Leaves.{CoreHolds, CoresHold, InitsHold, CasesHold, CodesHold}
use Rattle.law_fresh.proofs.Trees.{OkHolds, within_holds}
use Rattle.law_given.specs.Texts.{written_table}
use Rattle.run_library.specs.Library.{export_tree, placed, tree_at, trees_at}
use Rattle.run_prelude.specs.Prelude.{at_place, prelude_table}
use Rattle.law_prelude_code.proofs.Table.{table-is-written}
use Rattle.law_readable_expansion.proofs.Shapes.{then-holds}
use Rattle.read_reader.specs.Read.{data_of, file_nesting}
use Rattle.stx_tree.specs.Context.{blank}
use Rattle.stx_tree.specs.Leaves.{tree_of}
use Rattle.stx_tree.specs.Measures.{within}
use Rattle.stx_tree.specs.Tree.{Tree}
use Rattle.law_run.specs.Hygienic.{IsNoLeaf, CodesHaveNoLeaves, FormsWereRead}

-- Codes.

abbrev both : {A B : Type 0} → Option A → Option B → Option (A × B)
both (Some x) (Some y) = Some (x, y)
both (Some x) None = None
both None o = None

-- whether there are none, where code has neither templates nor patterns
abbrev mutual
  core-without : (c : PlainCore) → Option (CoreHolds IsNoLeaf c)
  core-without (quoted d) = Some tt
  core-without (variable l) = Some tt
  core-without (primitive o) = Some tt
  core-without (one_armed c d) = both (core-without c) (core-without d)
  core-without (two_armed c d e) = both (core-without c) (both (core-without d) (core-without e))
  core-without (assignment l c) = core-without c
  core-without (sequence cs) = cores-without cs
  core-without (procedure n cs p) = cases-without cs
  core-without (letrec o is c) = both (inits-without is) (core-without c)
  core-without (call c cs) = both (core-without c) (cores-without cs)
  core-without (instance t s) = None
  core-without (matching c cs s) = None

  cores-without : (cs : PlainCores) → Option (CoresHold IsNoLeaf cs)
  cores-without none = Some tt
  cores-without (more c cs) = both (core-without c) (cores-without cs)

  inits-without : (is : PlainInits) → Option (InitsHold IsNoLeaf is)
  inits-without no_init = Some tt
  inits-without (init l c is) = both (core-without c) (inits-without is)

  cases-without : (cs : PlainCases) → Option (CasesHold IsNoLeaf cs)
  cases-without no_case = Some tt
  cases-without (case f c cs) = both (core-without c) (cases-without cs)

abbrev table-without : (cs : Codes) → Option (CodesHold IsNoLeaf cs)
table-without [] = Some tt
table-without (c ∷ cs) = both (cases-without c.1.cases) (table-without cs)

there : {A : Type 0} (o : Option A) → is_some o ≡ true → A
there (Some x) h = x
there None h = absurd (cc)

no-leaves : CodesHold IsNoLeaf written_table
no-leaves = there (table-without written_table) refl

one-answer : {A : Type 0} (r : Result A Fault) (x y : A) → r ≡ Ok x → r ≡ Ok y → x ≡ y
one-answer r x y e h = cc

pub codes-without : CodesHaveNoLeaves
codes-without table e = subst (CodesHold IsNoLeaf) (one-answer prelude_table written_table table table-is-written e) no-leaves

-- Forms.

datum-read : (d : PlainDatum) → WasRead (tree_of blank d)
datum-read (atom s x) = tt
datum-read (symbol s x) = refl
datum-read (pair s d e) = (datum-read d, datum-read e)
datum-read (vector s d) = datum-read d

limited-read : (d : PlainDatum) → OkHolds WasRead (within (tree_of blank d))
limited-read d = within_holds (λ c. c ≡ blank) (tree_of blank d) (datum-read d)

tree-at-read : (place : Span) (d : PlainDatum) → OkHolds WasRead (tree_at place d)
tree-at-read place d = by (within (tree_of blank d)) (limited-read d)
  where
    by : (r : Result Tree Bare) → OkHolds WasRead r → OkHolds WasRead (placed place d r)
    by (Ok t) k = k
    by (Err f) k = tt

trees-read : (place : Span) (done : List Tree) (ds : List PlainDatum) → Each WasRead done → OkHolds (Each WasRead) (trees_at place done ds)
trees-read place done [] h = h
trees-read place done (d ∷ ds) h =
    then-holds WasRead (Each WasRead) (tree_at place d) (λ t. trees_at place (done ++ t ∷ []) ds) (tree-at-read place d) (λ t j. trees-read place (done ++ t ∷ []) ds (each-and WasRead done t h j))

pub ok-holds : {A : Type 0} (P : A → Type 0) (r : Result A Fault) (x : A) → OkHolds P r → r ≡ Ok x → P x
ok-holds P (Ok y) x h e = let same : y ≡ x = cc in subst P same h
ok-holds P (Err f) x h e = absurd (cc)

pub forms-read : FormsWereRead
forms-read place body forms e = ok-holds (Each WasRead) (trees_at place [] body) forms (trees-read place [] body tt) e

-- Those of the derived library.

placed-read : (place : Span) (d : PlainDatum) → OkHolds WasRead (at_place place (within (tree_of blank d)))
placed-read place d = by (within (tree_of blank d)) (limited-read d)
  where
    by : (r : Result Tree Bare) → OkHolds WasRead r → OkHolds WasRead (at_place place r)
    by (Ok t) k = k
    by (Err f) k = tt

derived-trees : (done : List Tree) (ds : List PlainDatum) → Each WasRead done → OkHolds (Each WasRead) (of_derived.trees done ds)
derived-trees done [] h = h
derived-trees done (d ∷ ds) h =
    then-holds WasRead (Each WasRead) (of_derived.tree_at d) (λ t. of_derived.trees (done ++ t ∷ []) ds) (placed-read derived_names.start d) (λ t j. derived-trees (done ++ t ∷ []) ds (each-and WasRead done t h j))

abbrev Any : List PlainDatum → Type 0
Any ds = Unit {0}

any-data : (r : Result (List PlainDatum) Fault) → OkHolds Any r
any-data (Ok ds) = tt
any-data (Err f) = tt

pub derived-read : (text : List ℕ) → OkHolds (Each WasRead) (forms_of text)
unfolding forms_of
derived-read text = then-holds Any (Each WasRead) (data_of derived_names.path text file_nesting) (of_derived.trees []) (any-data (data_of derived_names.path text file_nesting)) (λ ds k. derived-trees [] ds tt)

-- The identifiers that are exported.

abbrev pub ExportsWereRead : List (List ℕ × Tree) → Type 0
ExportsWereRead es = Each (λ (e : List ℕ × Tree). WasRead e.1) es

pub exports-read : (es : List (List ℕ × NameAt)) → ExportsWereRead (map export_tree es)
exports-read [] = tt
exports-read (e ∷ es) = (refl, exports-read es)

export-at-read : (o : Option ℕ) → ExportsWereRead (derived_names.export_at o)
export-at-read None = tt
export-at-read (Some n) = (refl, tt)

pub derived-exports-read : (ds : List (Option ℕ)) → ExportsWereRead (derived_names.exports_of ds)
unfolding derived_names.exports_of
derived-exports-read [] = tt
derived-exports-read (d ∷ ds) = each-append (λ (e : List ℕ × Tree). WasRead e.1) (derived_names.export_at d) (derived_names.exports_of ds) (export-at-read d) (derived-exports-read ds)
