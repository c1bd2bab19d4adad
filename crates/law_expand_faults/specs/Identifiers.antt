-- Identifiers that are at fault as expressions, as keywords, and as targets of assignments (R6RS 5.2, 7.1, 9 and 11.4.6).
use Rattle.std.specs.Prelude.{◌≡◌, ℕ, true, false, List, [], ◌∷◌, Option, Ok, Err}
use Rattle.base_data.specs.declared.fault.Fault.{Fault}
use Rattle.base_data.specs.declared.fault.FaultKind.TheVariants as kind
use Rattle.base_data.specs.declared.name.Label.{Label}
use Rattle.base_data.specs.declared.op.Op.{Op}
use Rattle.base_data.specs.declared.span.Span.{Span}
use Rattle.stx_tree.specs.Context.{LeafContext}
use Rattle.stx_tree.specs.Tree.{Tree, leaf, pair}
use Rattle.stx_scope.specs.Stands.{symbol_of}
use Rattle.core_language.specs.declared.core_form.CoreForm.{CoreForm}
use Rattle.core_language.specs.declared.core_form.CoreForm.TheVariants as core_forms
use Rattle.core_language.specs.declared.record.CompiledLibrary.{CompiledLibrary}
use Rattle.core_shapes.specs.At.{place_of}
use Rattle.core_shapes.specs.Forms.{shape}
use Rattle.core_shapes.specs.Lists.{is_leaf}
use Rattle.core_shapes.specs.declared.shape.Shape.TheVariants as shapes
use Rattle.expand_standing.specs.State.{State}
use Rattle.expand_standing.specs.Standing.{standing_of}
use Rattle.expand_standing.specs.Uses.{asks_variable}
use Rattle.expand_standing.specs.declared.standing.Standing.TheVariants as standing
use Rattle.expand_standing.specs.declared.standing.Variable.{Variable}
use Rattle.expand_forms.specs.ExpandUses.{step}
use Rattle.law_expand_faults.specs.Told.{TellsFault}

pub data IsAmongForms (l : Label) : List Label → Type 0 where
  first_label : {ls : List Label} → IsAmongForms l (l ∷ ls)
  later_label : {m : Label} {ls : List Label} → IsAmongForms l ls → IsAmongForms l (m ∷ ls)

-- A variable of the library can be used at its own level: one of the top everywhere, another from its binder to the end of the form that binds it.
-- One of another library can be used at every level, where that defines it at its top.
pub data IsVisible (s : State) (level : ℕ) (v : Variable) : Type 0 where
  of_the_top : v.own ≡ true → v.level ≡ level → v.top ≡ true → IsVisible s level v
  of_a_form_round : v.own ≡ true → v.level ≡ level → IsAmongForms v.label s.scope → IsVisible s level v
  of_another_library : v.own ≡ false → v.top ≡ true → IsVisible s level v

-- An identifier as an expression: it stands for nothing; or for a pattern variable or a keyword of the core, neither of which is an expression; or
-- for a variable that can't be used here; or for one that another library assigns.
pub data IsBadReference (s : State) (place : Span) (level : ℕ) (id : Tree) (f : Fault) : Type 0 where
  unbound : standing_of s id ≡ standing.Nothing → TellsFault kind.Unbound id place (symbol_of id ∷ []) f → IsBadReference s place level id f
  pattern_variable : standing_of s id ≡ standing.PatternVariable → TellsFault kind.KeywordMisuse id place (symbol_of id ∷ []) f
      → IsBadReference s place level id f
  keyword : {k : CoreForm} → standing_of s id ≡ standing.Core k → TellsFault kind.KeywordMisuse id place (symbol_of id ∷ []) f
      → IsBadReference s place level id f
  out_of_context : {v : Variable} → standing_of s id ≡ standing.Variable v → (IsVisible s level v → ⊥)
      → TellsFault kind.OutOfContext id place (symbol_of id ∷ []) f → IsBadReference s place level id f
  assigned_elsewhere : {v : Variable} → standing_of s id ≡ standing.Variable v → v.own ≡ false → v.top ≡ true → v.assigned ≡ true
      → TellsFault kind.AssignedElsewhere id place (symbol_of id ∷ []) f
      → IsBadReference s place level id f

module _ (s : State) (place : Span) (level : ℕ) where
  -- The target of an assignment. A fault names the identifier. It stands at the assignment, but where the identifier itself can't be used here.
  pub data IsBadTarget (form id : Tree) (f : Fault) : Type 0 where
    unbound_target : standing_of s id ≡ standing.Nothing → TellsFault kind.Unbound form place (symbol_of id ∷ []) f → IsBadTarget form id f
    pattern_target : standing_of s id ≡ standing.PatternVariable → TellsFault kind.KeywordMisuse id place (symbol_of id ∷ []) f
        → IsBadTarget form id f
    keyword_target : {k : CoreForm} → standing_of s id ≡ standing.Core k → TellsFault kind.KeywordMisuse form place (symbol_of id ∷ []) f
        → IsBadTarget form id f
    primitive_target : {op : Op} → standing_of s id ≡ standing.Primitive op → TellsFault kind.AssignedImport form place (symbol_of id ∷ []) f
        → IsBadTarget form id f
    target_out_of_context : {v : Variable} → standing_of s id ≡ standing.Variable v → (IsVisible s level v → ⊥)
        → TellsFault kind.OutOfContext id place (symbol_of id ∷ []) f → IsBadTarget form id f
    exported_target : {v : Variable} → standing_of s id ≡ standing.Variable v → IsVisible s level v → IsAmongForms v.label s.exports
        → TellsFault kind.AssignedExport form place (symbol_of id ∷ []) f → IsBadTarget form id f
    imported_target : {v : Variable} → standing_of s id ≡ standing.Variable v → v.own ≡ false → v.top ≡ true → (IsAmongForms v.label s.exports → ⊥)
        → TellsFault kind.AssignedImport form place (symbol_of id ∷ []) f
        → IsBadTarget form id f

-- `(set! id value)`: the head stands for the keyword, and the form has its shape
pub data IsAssignment (s : State) (place : Span) (id value : Tree) : Tree → Type 0 where
  a_set : {span : Option Span} {head rest : Tree} → is_leaf head ≡ true → standing_of s head ≡ standing.Core core_forms.Set
      → shape core_forms.Set (pair span head rest) place ≡ Ok (shapes.Set id value)
      → IsAssignment s place id value (pair span head rest)

module _ (rs : List CompiledLibrary) (s : State) (place : Span) (level : ℕ) where
  -- An assignment to a keyword is a use of it, where that is a variable transformer; to look at it can be at fault, too.
  pub data IsBadAssignment (form id : Tree) (f : Fault) : Type 0 where
    bad_target : IsBadTarget s place level form id f → IsBadAssignment form id f
    bad_keyword : {l : Label} → standing_of s id ≡ standing.Keyword l → asks_variable rs (place_of form place) l s ≡ Err f
        → IsBadAssignment form id f
    no_variable_transformer : {l : Label} {t : State} → standing_of s id ≡ standing.Keyword l
        → asks_variable rs (place_of form place) l s ≡ Ok (false, t) → TellsFault kind.KeywordMisuse form place (symbol_of id ∷ []) f
        → IsBadAssignment form id f

-- the keywords that stand only within other forms (R6RS 11.4.5, 11.17 and 11.19, libraries 6.2, 12.4 and 12.8)
pub data IsAuxiliary : CoreForm → Type 0 where
  else_ : IsAuxiliary core_forms.Else
  arrow : IsAuxiliary core_forms.Arrow
  ellipsis : IsAuxiliary core_forms.Ellipsis
  underscore : IsAuxiliary core_forms.Underscore
  unquote : IsAuxiliary core_forms.Unquote
  unquote_splicing : IsAuxiliary core_forms.UnquoteSplicing
  unsyntax : IsAuxiliary core_forms.Unsyntax
  unsyntax_splicing : IsAuxiliary core_forms.UnsyntaxSplicing
  fields : IsAuxiliary core_forms.Fields
  mutable : IsAuxiliary core_forms.Mutable
  immutable : IsAuxiliary core_forms.Immutable
  parent : IsAuxiliary core_forms.Parent
  protocol : IsAuxiliary core_forms.Protocol
  sealed : IsAuxiliary core_forms.Sealed
  opaque : IsAuxiliary core_forms.Opaque
  nongenerative : IsAuxiliary core_forms.Nongenerative
  parent_rtd : IsAuxiliary core_forms.ParentRtd

-- An expression that is an identifier, and an assignment, is at fault exactly so before anything in it is expanded; and so is a form that an auxiliary
-- keyword heads, at that keyword.
pub record IdentifiersAreTold : Type 0 where
  pub references : (rs : List CompiledLibrary) (place : Span) (level : ℕ) (span : Option Span) (x : List ℕ) (c : LeafContext) (s : State)
      (f : Fault) → IsBadReference s place level (leaf span x c) f → step rs place level (leaf span x c) s ≡ Err f
  pub references_only : (rs : List CompiledLibrary) (place : Span) (level : ℕ) (span : Option Span) (x : List ℕ) (c : LeafContext)
      (s : State) (f : Fault) → step rs place level (leaf span x c) s ≡ Err f → IsBadReference s place level (leaf span x c) f
  pub assignments : (rs : List CompiledLibrary) (place : Span) (level : ℕ) (form id value : Tree) (s : State) (f : Fault)
      → IsAssignment s place id value form → IsBadAssignment rs s place level form id f → step rs place level form s ≡ Err f
  pub assignments_only : (rs : List CompiledLibrary) (place : Span) (level : ℕ) (form id value : Tree) (s : State) (f : Fault)
      → IsAssignment s place id value form → step rs place level form s ≡ Err f → IsBadAssignment rs s place level form id f
  pub auxiliaries : (rs : List CompiledLibrary) (place : Span) (level : ℕ) (span : Option Span) (head rest : Tree) (k : CoreForm)
      (s : State) (f : Fault) → is_leaf head ≡ true → standing_of s head ≡ standing.Core k → IsAuxiliary k
      → TellsFault kind.KeywordMisuse head place (symbol_of head ∷ []) f → step rs place level (pair span head rest) s ≡ Err f
