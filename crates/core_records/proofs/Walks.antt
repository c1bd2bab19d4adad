-- Walking along the clauses of a form and the fields of a record type.
use Rattle.std.proofs.Common.{◌≡◌, ℕ, suc, ◌+◌, ◌<◌, ◌≤◌, length, get_or, drop, List, [], ◌∷◌, ◌++◌, Ok, ap, sym, ◌∙◌, add-one, drop-cons}
use Rattle.std.proofs.lemmas.List.{drop_all}
use Rattle.std.specs.Prelude.{Result}
use Rattle.base_data.specs.Gives.{Stops, BareStops, ◌>>=◌}
use Rattle.base_data.specs.declared.fault.Bare.{Bare}
use Rattle.base_data.specs.declared.fault.BareStop.{BareStop}
use Rattle.base_data.specs.declared.fault.BareStop.TheVariants as bare_stops
use Rattle.base_data.specs.declared.fault.Fault.{Fault}
use Rattle.base_data.specs.declared.fault.Stop.{Stop}
use Rattle.base_data.specs.declared.fault.Stop.TheVariants as stops
use Rattle.base_data.specs.declared.span.Span.{Span}
use Rattle.stx_tree.specs.Tree.{Tree}
use Rattle.stx_frames.specs.Scope.{Scope}
use Rattle.core_records.specs.Clauses.{next_clause, all_clauses}
use Rattle.core_records.specs.Definitions.{field_entry, field_entries, with_field, with_fields}
use Rattle.core_records.specs.declared.clause.Clauses.{Clauses}
use Rattle.core_records.specs.declared.clause.Field.{Field}

-- what is left of a list has its next element in front
next_of : {X : Type 0} (items : List X) (i : ℕ) (item : X) → i < length items → item ≡ get_or items i item → drop i items ≡ item ∷ drop (i + 1) items
next_of items i item h e = rw add-one (drop-cons items i item h ∙ ap (λ x. x ∷ drop (suc i) items) (sym e))

module _ (fs : Scope) (name : Tree) (place : Span) (cs : Clauses) (items : List Tree) (i : ℕ) (item : Tree) (total : Result Clauses Fault) where
  clauses_here : i < length items → item ≡ get_or items i item
      → all_clauses fs name place cs (drop i items) ≡ (next_clause fs name place cs item >>= λ ds. all_clauses fs name place ds (drop (i + 1) items))
  clauses_here h e = ap (λ ts. all_clauses fs name place cs ts) (next_of items i item h e)

  -- a clause is taken: the rest goes on from there
  pub clauses_on : (ds : Clauses) → i < length items → item ≡ get_or items i item → next_clause fs name place cs item ≡ Ok ds
      → all_clauses fs name place cs (drop i items) ≡ total → all_clauses fs name place ds (drop (i + 1) items) ≡ total
  clauses_on ds h e given so_far = sym (clauses_here h e ∙ ap (λ r. r >>= λ ds. all_clauses fs name place ds (drop (i + 1) items)) given) ∙ so_far

  -- a clause is at fault: so is the whole
  pub clauses_stop : (stop : Stop) → i < length items → item ≡ get_or items i item → Stops stop (next_clause fs name place cs item)
      → all_clauses fs name place cs (drop i items) ≡ total → Stops stop total
  clauses_stop stops.Memory h e given so_far = tt
  clauses_stop (stops.Fault f) h e given so_far = sym so_far ∙ clauses_here h e ∙ ap (λ r. r >>= λ ds. all_clauses fs name place ds (drop (i + 1) items)) given

-- no clause is left
pub clauses_done : (fs : Scope) (name : Tree) (place : Span) (cs : Clauses) (items : List Tree) (i : ℕ) (total : Result Clauses Fault)
    → length items ≤ i → all_clauses fs name place cs (drop i items) ≡ total → total ≡ Ok cs
clauses_done fs name place cs items i total h so_far =
    let none : drop i items ≡ [] = drop_all i items h in
    sym so_far ∙ ap (λ ts. all_clauses fs name place cs ts) none

module _ (done : List Tree) (items : List Field) (i : ℕ) (item : Field) (total : Result (List Tree) Bare) where
  entries_here : i < length items → item ≡ get_or items i item
      → field_entries done (drop i items) ≡ (field_entry item >>= λ t. field_entries (done ++ t ∷ []) (drop (i + 1) items))
  entries_here h e = ap (λ ts. field_entries done ts) (next_of items i item h e)

  -- a field has its entry: the rest goes on from there
  pub entries_on : (t : Tree) → i < length items → item ≡ get_or items i item → field_entry item ≡ Ok t
      → field_entries done (drop i items) ≡ total → field_entries (done ++ t ∷ []) (drop (i + 1) items) ≡ total
  entries_on t h e given so_far = sym (entries_here h e ∙ ap (λ r. r >>= λ t. field_entries (done ++ t ∷ []) (drop (i + 1) items)) given) ∙ so_far

  -- an entry is at fault: so is the whole
  pub entries_stop : (stop : BareStop) → i < length items → item ≡ get_or items i item → BareStops stop (field_entry item)
      → field_entries done (drop i items) ≡ total → BareStops stop total
  entries_stop bare_stops.Memory h e given so_far = tt
  entries_stop (bare_stops.Fault f) h e given so_far = sym so_far ∙ entries_here h e ∙ ap (λ r. r >>= λ t. field_entries (done ++ t ∷ []) (drop (i + 1) items)) given

-- no field is left
pub entries_done : (done : List Tree) (items : List Field) (i : ℕ) (total : Result (List Tree) Bare)
    → length items ≤ i → field_entries done (drop i items) ≡ total → total ≡ Ok done
entries_done done items i total h so_far =
    let none : drop i items ≡ [] = drop_all i items h in
    sym so_far ∙ ap (λ ts. field_entries done ts) none

module _ (k : ℕ) (done : List Tree) (items : List Field) (i : ℕ) (item : Field) (total : Result (List Tree) Bare) where
  fields_here : i < length items → item ≡ get_or items i item
      → with_fields k done (drop i items) ≡ (with_field k done item >>= λ ts. with_fields (k + 1) ts (drop (i + 1) items))
  fields_here h e = ap (λ xs. with_fields k done xs) (next_of items i item h e)

  -- a field has its definitions: the rest goes on from there
  pub fields_on : (ts : List Tree) → i < length items → item ≡ get_or items i item → with_field k done item ≡ Ok ts
      → with_fields k done (drop i items) ≡ total → with_fields (k + 1) ts (drop (i + 1) items) ≡ total
  fields_on ts h e given so_far = sym (fields_here h e ∙ ap (λ r. r >>= λ ts. with_fields (k + 1) ts (drop (i + 1) items)) given) ∙ so_far

  -- a definition is at fault: so is the whole
  pub fields_stop : (stop : BareStop) → i < length items → item ≡ get_or items i item → BareStops stop (with_field k done item)
      → with_fields k done (drop i items) ≡ total → BareStops stop total
  fields_stop bare_stops.Memory h e given so_far = tt
  fields_stop (bare_stops.Fault f) h e given so_far = sym so_far ∙ fields_here h e ∙ ap (λ r. r >>= λ ts. with_fields (k + 1) ts (drop (i + 1) items)) given

-- no field is left
pub fields_done : (k : ℕ) (done : List Tree) (items : List Field) (i : ℕ) (total : Result (List Tree) Bare)
    → length items ≤ i → with_fields k done (drop i items) ≡ total → total ≡ Ok done
fields_done k done items i total h so_far =
    let none : drop i items ≡ [] = drop_all i items h in
    sym so_far ∙ ap (λ xs. with_fields k done xs) none
