-- What record forms stand for is within the limits, whatever their parts.
use Rattle.std.proofs.Common.{ℕ, List, [], ◌∷◌, Option, None, Some, Result, Ok, Err}
use Rattle.base_data.specs.Gives.{◌>>=◌}
use Rattle.base_data.specs.declared.span.Span.{Span}
use Rattle.stx_tree.specs.Tree.{Tree, list_of}
use Rattle.stx_frames.specs.Scope.{Scope}
use Rattle.core_language.specs.declared.core_form.CoreForm.{CoreForm}
use Rattle.core_language.specs.declared.core_form.CoreForm.TheVariants as form
use Rattle.core_shapes.specs.Lists.{proper_elements, if_some}
use Rattle.core_records.specs.Clauses.{no_clauses, or_bad, all_clauses}
use Rattle.core_records.specs.Definitions.{type_word, constructor_word, or_no_fields, first_definitions, with_fields, definitions}
use Rattle.core_records.specs.Forms.{at_form, only_id, descriptor_form, definitions_for, named_form, defining_form, record_forms}
use Rattle.core_records.specs.Introduced.{Made, list_made, list_of_two}
use Rattle.core_records.specs.Names.{names_of}
use Rattle.core_records.specs.declared.clause.Clauses.{Clauses}
use Rattle.core_records.specs.declared.names.RecordNames.{RecordNames}
use Rattle.law_fresh.proofs.Trees.{OkHolds}
use Rattle.law_limits.proofs.Trees.{within_holds}
use Rattle.law_limits.specs.Lawful.{IsLawful}

module _ (T : Tree → Type 0) (lawful : IsLawful T) where
  -- whatever comes first
  then-always : {A E : Type 0} (r : Result A E) (k : A → Result Tree E) → ((x : A) → OkHolds T (k x)) → OkHolds T (r >>= k)
  then-always (Ok x) k h = h x
  then-always (Err e) k h = tt

  list-good : (ts : List Tree) → OkHolds T (list_made ts)
  list-good ts = within_holds T lawful (list_of ts None)

  definitions-good : (own : List ℕ) (names : RecordNames) (cs : Clauses) → OkHolds T (definitions own names cs)
  unfolding definitions
  definitions-good own names cs = then-always (first_definitions own names cs >>= (λ ts. with_fields 0 ts (or_no_fields cs.fields))) list_made list-good

  at-form-holds : (t : Tree) (place : Span) (m : Made) → OkHolds T m → OkHolds T (at_form t place m)
  at-form-holds t place (Ok u) h = h
  at-form-holds t place (Err b) h = tt

  descriptor-holds : (t : Tree) (place : Span) (word : Tree) → OkHolds T (descriptor_form t place word)
  unfolding descriptor_form
  descriptor-holds t place word =
      then-always (or_bad t place (if_some (proper_elements t) only_id)) (λ id. at_form t place (list_of_two id word)) (λ id. at-form-holds t place (list_of_two id word) (list-good (id ∷ (word ∷ []))))

  definitions-for-holds : (fs : Scope) (t : Tree) (place : Span) (own : List ℕ) (names : RecordNames) (ts : List Tree) → OkHolds T (definitions_for fs t place own names ts)
  unfolding definitions_for
  definitions-for-holds fs t place own names ts =
      then-always (all_clauses fs names.name place no_clauses ts) (λ cs. at_form t place (definitions own names cs)) (λ cs. at-form-holds t place (definitions own names cs) (definitions-good own names cs))

  named-holds : (fs : Scope) (t : Tree) (place : Span) (own : List ℕ) (spec : Tree) (ts : List Tree) → OkHolds T (named_form fs t place own spec ts)
  unfolding named_form
  named-holds fs t place own spec ts = then-always (or_bad t place (names_of spec)) (λ names. definitions_for fs t place own names ts) (λ names. definitions-for-holds fs t place own names ts)

  defining-holds : (fs : Scope) (t : Tree) (place : Span) (own : List ℕ) (o : Option (List Tree)) → OkHolds T (defining_form fs t place own o)
  defining-holds fs t place own None = tt
  defining-holds fs t place own (Some []) = tt
  defining-holds fs t place own (Some (a ∷ [])) = tt
  defining-holds fs t place own (Some (a ∷ (spec ∷ ts))) = named-holds fs t place own spec ts

  pub record-holds : (fs : Scope) (t : Tree) (f : CoreForm) (place : Span) (own : List ℕ) → OkHolds T (record_forms fs t f place own)
  unfolding record_forms
  record-holds fs t form.DefineRecordType place own = defining-holds fs t place own (proper_elements t)
  record-holds fs t form.RecordTypeDescriptor place own = descriptor-holds t place type_word
  record-holds fs t form.RecordConstructorDescriptor place own = descriptor-holds t place constructor_word
  record-holds fs t _ place own = tt
