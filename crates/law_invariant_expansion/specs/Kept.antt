-- When expansion keeps an invariant that is the same whatever names were taken.
use Rattle.std.specs.Prelude.{◌≡◌, ◌≤◌, ℕ, List, Option, Ok}
use Rattle.base_data.specs.Named.{Named}
use Rattle.base_data.specs.declared.library.LibName.{LibName}
use Rattle.base_data.specs.declared.span.Span.{Span}
use Rattle.stx_tree.specs.Context.{LeafContext}
use Rattle.stx_tree.specs.Leaves.{strip}
use Rattle.stx_tree.specs.Tree.{Tree, leaf, spanned, unspanned}
use Rattle.stx_frames.specs.Scope.{Scope}
use Rattle.core_language.specs.Pattern.{PlainPattern}
use Rattle.core_language.specs.Template.{PlainTemplate}
use Rattle.core_language.specs.declared.core_form.CoreForm.{CoreForm}
use Rattle.core_quasi.specs.QuasiSyntax.{insert_leaf}
use Rattle.core_records.specs.Forms.{record_forms}
use Rattle.core_records.specs.Names.{record_uid}
use Rattle.eval_pattern.specs.Compile.{PatternScope, compiled as compiled_pattern}
use Rattle.eval_pattern.specs.declared.compile.Compiled.{Compiled}
use Rattle.eval_pattern.specs.declared.compile.PatternVariable.{PatternVariable}
use Rattle.eval_template.specs.Compile.{TemplateScope, compiled as compiled_template}
use Rattle.base_data.specs.Elements.{Each}
use Rattle.expand_quasi.specs.Inserted.{dots, inserts_pattern}
use Rattle.law_invariants.specs.Closed.{IsClosed}
use Rattle.law_invariants.specs.Invariant.{Invariant}
use Rattle.law_invariants.specs.Steady.{IsSteady}
use Rattle.law_invariants.proofs.Trees.{OkHolds}

-- Forms keep it: it holds of trees with other spans, and of the datum and the symbol of each tree of which it holds.
pub record IsBuilt (I : Invariant) : Type 0 where
  pub closed : IsClosed I
  pub spanned : (s : Option Span) (t : Tree) → I.trees t → I.trees (spanned s t)
  pub unspanned : (t : Tree) → I.trees t → I.trees (unspanned t)
  pub constants : (t : Tree) → I.trees t → I.constants (strip t)
  pub symbols : (s : Option Span) (x : List ℕ) (c : LeafContext) → I.trees (leaf s x c) → I.symbols x

-- a pattern that such a form stands for
pub record PatternIsKept (I : Invariant) (p : PlainPattern) : Type 0 where
  pub scope : PatternScope
  pub form : Tree
  pub names : Named
  pub compiled : Compiled × Named
  pub holds : I.trees form
  pub made : compiled_pattern scope form names ≡ Ok compiled
  pub is : compiled.0.pattern ≡ p

-- So do evaluations and record forms; it holds of the identifiers that quasi forms make. Of a clause it asks nothing but what holds of the pattern
-- of each such form and of the inserts of quasi forms, each of them under one ellipsis at most; and of a template nothing but what holds of that
-- of each such form.
pub record IsKeptByExpansion (I : Invariant) : Type 1 where
  pub built : IsBuilt I
  pub steady : IsSteady I
  pub insert : (k : ℕ) → I.trees (insert_leaf k)
  pub ellipsis : I.trees dots
  pub records : (fs : Scope) (t : Tree) (f : CoreForm) (place : Span) (own : LibName) (count : ℕ) → I.trees t
      → OkHolds I.trees (record_forms fs t f place (record_uid own t count))
  pub clauses : (p : PlainPattern) (A : Type 0) → PatternIsKept I p → A → I.clauses p A
  pub inserts : (vs : List PatternVariable) (A : Type 0) → Each (λ (v : PatternVariable). v.depth ≤ 1) vs → A → I.clauses (inserts_pattern vs) A
  pub templates : (c : TemplateScope) (t : Tree) (x : PlainTemplate) (A : Type 0) → I.trees t → compiled_template c t ≡ Ok x → A → I.templates x A
