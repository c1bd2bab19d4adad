-- What is written by a case of the grammar of record forms stands for its definitions, and nothing else does.
use Rattle.std.proofs.Common.{◌≡◌, ℕ, Bool, true, false, List, [], ◌∷◌, Option, None, Some, Result, Ok, Err, refl, ap, sym, ◌∙◌, subst, inl, inr, if◌then◌else◌}
use Rattle.std.specs.Prelude.{◌⊎◌}
use Rattle.base_data.specs.Gives.{◌>>=◌}
use Rattle.base_data.specs.declared.fault.Fault.{Fault}
use Rattle.base_data.specs.declared.fault.FaultKind.TheVariants as kind
use Rattle.base_data.specs.declared.span.Span.{Span}
use Rattle.stx_tree.specs.Measures.{fits, within, too_deep}
use Rattle.stx_tree.specs.Tree.{Tree}
use Rattle.stx_frames.specs.Scope.{Scope}
use Rattle.core_language.specs.declared.core_form.CoreForm.TheVariants as form
use Rattle.core_shapes.specs.At.{fault_at}
use Rattle.core_shapes.specs.Lists.{is_leaf, is_nil, elements, tail_of, proper_elements, if_some}
use Rattle.core_shapes.specs.Written.{list}
use Rattle.core_records.specs.Clauses.{no_clauses, or_bad, all_clauses}
use Rattle.core_records.specs.Definitions.{type_word, constructor_word, definitions}
use Rattle.core_records.specs.Forms.{at_form, only_id, descriptor_form, definitions_for, named_form, defining_form, record_forms}
use Rattle.core_records.specs.Introduced.{list_of_two}
use Rattle.core_records.specs.Names.{names_of}
use Rattle.core_records.specs.declared.clause.Clauses.{Clauses}
use Rattle.core_records.specs.declared.names.RecordNames.{RecordNames}
use Rattle.law_shapes.specs.Grammar.{IsList}
use Rattle.law_shapes.specs.Records.{AreNames, IsIn}
use Rattle.law_records.specs.RecordTypes.{word, defining, in_place_of, StandsFor, record_type, RecordTypesAreDefined, DefinitionsAreStoodFor, IsBad, OtherRecordTypesAreBad, IsDescriptor, DescriptorsAreWritten}
use Rattle.law_shapes.proofs.Complete.{is-id, list-is}
use Rattle.law_shapes.proofs.Sound.{met, some-is, an-id, proper}
use Rattle.law_shapes.proofs.RecordForms.{names-are, some-names, Reads, clauses-are, AreRead, IsBadClause, read-or-bad}
use Rattle.law_records.proofs.RecordTrees.{description, definitions-are}
use Rattle.law_records.proofs.RecordSlots.{are-clauses, clauses-are-read, describes, describe-one}

in-place : (t : Tree) (place : Span) (u : Tree) → at_form t place (within u) ≡ in_place_of t place u
unfolding within
in-place t place u = by (fits u)
  where
    by : (b : Bool) → at_form t place (if b then Ok u else Err too_deep) ≡ (if b then Ok u else Err (fault_at kind.TooDeep t place []))
    by true = refl
    by false = refl

module _ (fs : Scope) (t : Tree) (place : Span) (own : List ℕ) where
  -- a form whose clauses are read comes to what they describe
  comes-to : (head spec : Tree) (ts : List Tree) (names : RecordNames) (cs : Clauses) → proper_elements t ≡ Some (head ∷ (spec ∷ ts)) → names_of spec ≡ Some names → all_clauses fs names.name place no_clauses ts ≡ Ok cs
      → record_forms fs t form.DefineRecordType place own ≡ in_place_of t place (defining names (description own cs))
  unfolding record_forms named_form definitions_for
  comes-to head spec ts names cs e n k =
      ap (defining_form fs t place own) e
      ∙ ap (λ o. or_bad t place o >>= (λ ns. definitions_for fs t place own ns ts)) n
      ∙ ap (λ x. x >>= (λ ds. at_form t place (definitions own names ds))) k
      ∙ ap (at_form t place) (definitions-are own names cs)
      ∙ in-place t place (defining names (description own cs))

  stands : (head spec : Tree) (ts : List Tree) (names : RecordNames) (cs : Clauses) → IsList (head ∷ (spec ∷ ts)) t → AreNames names spec → Reads fs names.name no_clauses ts cs → StandsFor fs own t (defining names (description own cs))
  stands head spec ts names cs l n h = record_type l n (are-clauses fs names.name no_clauses ts cs h) (describes fs names.name own ts cs h)

  -- A form stands for its definitions and comes to them, or it is at fault.
  record Defined : Type 0 where
    pub tree : Tree
    pub stands : StandsFor fs own t tree
    pub comes : record_forms fs t form.DefineRecordType place own ≡ in_place_of t place tree

  here : record_forms fs t form.DefineRecordType place own ≡ Err (fault_at kind.BadForm t place []) → Defined ⊎ IsBad fs t place own
  here e = inr (record { bad = t; here = inl refl; is = e })

  proper-are : (xs : List Tree) → proper_elements t ≡ Some xs → elements t ≡ xs
  proper-are xs h = met (is_nil (tail_of t)) (Some (elements t)) xs (elements t ≡ xs) h (λ b e. some-is (elements t) xs e)

  by-clauses : (head spec : Tree) (ts : List Tree) (names : RecordNames) → proper_elements t ≡ Some (head ∷ (spec ∷ ts)) → names_of spec ≡ Some names → AreRead fs names.name place no_clauses ts ⊎ IsBadClause fs names.name place no_clauses ts → Defined ⊎ IsBad fs t place own
  unfolding record_forms named_form definitions_for
  by-clauses head spec ts names e n (inl a) = inl (record {
    tree = defining names (description own a.es);
    stands = stands head spec ts names a.es (proper t (head ∷ (spec ∷ ts)) e) (some-names spec names n) a.are;
    comes = comes-to head spec ts names a.es e n (clauses-are fs names.name place no_clauses a.es ts a.are);
  })
  by-clauses head spec ts names e n (inr b) = inr (record {
    bad = b.bad;
    here = inr (subst (IsIn b.bad) (sym (proper-are (head ∷ (spec ∷ ts)) e)) (inr (inr b.among)));
    is = ap (defining_form fs t place own) e ∙ ap (λ o. or_bad t place o >>= (λ ns. definitions_for fs t place own ns ts)) n ∙ ap (λ x. x >>= (λ ds. at_form t place (definitions own names ds))) b.is;
  })

  by-names : (head spec : Tree) (ts : List Tree) → proper_elements t ≡ Some (head ∷ (spec ∷ ts)) → (o : Option RecordNames) → names_of spec ≡ o → Defined ⊎ IsBad fs t place own
  unfolding record_forms named_form
  by-names head spec ts e None n = here (ap (defining_form fs t place own) e ∙ ap (λ o. or_bad t place o >>= (λ ns. definitions_for fs t place own ns ts)) n)
  by-names head spec ts e (Some names) n = by-clauses head spec ts names e n (read-or-bad fs names.name place no_clauses ts)

  by-elements : (o : Option (List Tree)) → proper_elements t ≡ o → Defined ⊎ IsBad fs t place own
  unfolding record_forms
  by-elements None e = here (ap (defining_form fs t place own) e)
  by-elements (Some []) e = here (ap (defining_form fs t place own) e)
  by-elements (Some (x ∷ [])) e = here (ap (defining_form fs t place own) e)
  by-elements (Some (head ∷ (spec ∷ ts))) e = by-names head spec ts e (names_of spec) refl

  defined-or-bad : Defined ⊎ IsBad fs t place own
  defined-or-bad = by-elements (proper_elements t) refl

pub record-types-are-defined : RecordTypesAreDefined
record-types-are-defined fs t place own u (record_type {head = head} {spec = spec} {ts = ts} {names = names} {d = d} l n k h) =
    let read = clauses-are-read fs names.name ts k in
    comes-to fs t place own head spec ts names read.0 (list-is (head ∷ (spec ∷ ts)) t l) (names-are names spec n) (clauses-are fs names.name place no_clauses read.0 ts read.1)
    ∙ ap (λ e. in_place_of t place (defining names e)) (describe-one fs names.name own ts read.0 read.1 d h)

pub definitions-are-stood-for : DefinitionsAreStoodFor
definitions-are-stood-for fs t place own u h = by (defined-or-bad fs t place own)
  where
    it : (x : Tree) (b : Bool) → (if b then Ok x else Err (fault_at kind.TooDeep t place [])) ≡ Ok u → x ≡ u
    it x true e = cc
    it x false e = absurd (cc)

    by : Defined fs t place own ⊎ IsBad fs t place own → StandsFor fs own t u
    by (inl d) = subst (StandsFor fs own t) (it d.tree (fits d.tree) (sym d.comes ∙ h)) d.stands
    by (inr b) = absurd (let e = sym b.is ∙ h in cc)

pub other-record-types-are-bad : OtherRecordTypesAreBad
other-record-types-are-bad fs t place own none = by (defined-or-bad fs t place own)
  where
    by : Defined fs t place own ⊎ IsBad fs t place own → IsBad fs t place own
    by (inl d) = absurd (none d.tree d.stands)
    by (inr b) = b

-- Descriptors.

descriptor-is : (t : Tree) (place : Span) (word x : Tree) → IsDescriptor x t → descriptor_form t place word ≡ at_form t place (list_of_two x word)
unfolding descriptor_form
descriptor-is t place word x h =
    ap (λ o. or_bad t place (if_some o only_id) >>= (λ y. at_form t place (list_of_two y word))) (list-is (h.0 ∷ (x ∷ [])) t h.1.1)
    ∙ ap (λ b. or_bad t place (if b then Some x else None) >>= (λ y. at_form t place (list_of_two y word))) (is-id x h.1.0)

no-descriptor : (t : Tree) (place : Span) (word : Tree) → ((x : Tree) → IsDescriptor x t → ⊥) → descriptor_form t place word ≡ Err (fault_at kind.BadForm t place [])
unfolding descriptor_form
no-descriptor t place word none = by (proper_elements t) refl
  where
    from_id : Option Tree → Result Tree Fault
    from_id o = or_bad t place o >>= (λ y. at_form t place (list_of_two y word))

    by_leaf : (head x : Tree) → proper_elements t ≡ Some (head ∷ (x ∷ [])) → (b : Bool) → is_leaf x ≡ b → from_id (if_some (proper_elements t) only_id) ≡ Err (fault_at kind.BadForm t place [])
    by_leaf head x e true is = absurd (none x (head, (an-id x is, proper t (head ∷ (x ∷ [])) e)))
    by_leaf head x e false is = ap (λ o. from_id (if_some o only_id)) e ∙ ap (λ b. from_id (if b then Some x else None)) is

    by : (o : Option (List Tree)) → proper_elements t ≡ o → from_id (if_some (proper_elements t) only_id) ≡ Err (fault_at kind.BadForm t place [])
    by None e = ap (λ o. from_id (if_some o only_id)) e
    by (Some []) e = ap (λ o. from_id (if_some o only_id)) e
    by (Some (x ∷ [])) e = ap (λ o. from_id (if_some o only_id)) e
    by (Some (head ∷ (x ∷ []))) e = by_leaf head x e (is_leaf x) refl
    by (Some (head ∷ (x ∷ (y ∷ ys)))) e = ap (λ o. from_id (if_some o only_id)) e

pub descriptors-are-written : DescriptorsAreWritten
unfolding record_forms
descriptors-are-written = record {
  types = λ fs t place own x h. descriptor-is t place type_word x h ∙ in-place t place (list (x ∷ (type_word ∷ [])));
  constructors = λ fs t place own x h. descriptor-is t place constructor_word x h ∙ in-place t place (list (x ∷ (constructor_word ∷ [])));
  other_types = λ fs t place own none. no-descriptor t place type_word none;
  other_constructors = λ fs t place own none. no-descriptor t place constructor_word none;
}
