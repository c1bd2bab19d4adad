-- How many levels patterns and templates have.
use Rattle.std.specs.Prelude.{◌≡◌, ◌≤◌, ℕ, zero, suc, List, [], None, Ok}
use Rattle.base_data.specs.Named.{Named}
use Rattle.base_data.specs.declared.atom.Atom.TheVariants.{Nil}
use Rattle.base_data.specs.declared.library.LibName.{LibName}
use Rattle.base_data.specs.declared.span.Span.{Span}
use Rattle.base_data.specs.declared.imported_name.ImportedName.{ImportedName}
use Rattle.stx_tree.specs.Measures.{max_height, height}
use Rattle.stx_tree.specs.Tree.{Tree, atom, pair, nil}
use Rattle.stx_frames.specs.Scope.{Scope}
use Rattle.core_language.specs.Core.{PlainCore, quoted, variable, primitive, one_armed, two_armed, assignment, sequence, procedure, letrec, call}
use Rattle.core_language.specs.Core.{instance, matching}
use Rattle.core_language.specs.Template.{PlainTemplate}
use Rattle.core_language.specs.declared.record.CompiledLibrary.{CompiledLibrary}
use Rattle.eval_code.specs.Codes.{Codes}
use Rattle.eval_pattern.specs.Compile.{PatternScope, compiled as compiled_pattern}
use Rattle.eval_pattern.specs.declared.compile.Compiled.{Compiled}
use Rattle.eval_template.specs.Compile.{TemplateScope, compiled as compiled_template}
use Rattle.expand_forms.specs.Expanding.{ready, library_record}
use Rattle.expand_forms.specs.declared.top.LibraryBody.{LibraryBody}
use Rattle.law_compiled.specs.Templates.{HoldsLists}
use Rattle.law_core.specs.Follows.{all_cores}
use Rattle.law_core.specs.Parts.{parts, clause_patterns}
use Rattle.base_data.specs.Elements.{Each}
use Rattle.law_invariants.specs.Holds.{CodesHold}
use Rattle.law_levels.specs.Levels.{pattern_levels, template_levels}
use Rattle.law_spellings.specs.Spelled.{SpelledTree, SpelledRecord, spelled}

-- so many lists in one another, round an empty one
abbrev pub nest : ℕ → Tree
nest zero = atom None Nil
nest (suc n) = pair None (nest n) nil

-- A pattern has no more levels than its form is high, and a template no more than its form. No lower bound would hold: the pattern of `((()))` has
-- three levels, and so on.
pub record AreNoHigher : Type 0 where
  pub patterns : (c : PatternScope) (t : Tree) (n : Named) (r : Compiled × Named) → compiled_pattern c t n ≡ Ok r → pattern_levels r.0.pattern ≤ height t
  pub reached : (fs : Scope) (place : Span) (n : ℕ) (names : Named)
      → (r : Compiled × Named) × ((compiled_pattern (record { frames = fs; literals = []; place = place }) (nest n) names ≡ Ok r)
      × ((pattern_levels r.0.pattern ≡ suc n) × (height (nest n) ≡ suc n)))
  pub templates : (c : TemplateScope) (t : Tree) (x : PlainTemplate) → HoldsLists t → compiled_template c t ≡ Ok x → template_levels x ≤ height t

-- the patterns and the template of a core expression alone
abbrev pub HasLevels : ℕ → PlainCore → Type 0
HasLevels n (quoted d) = Unit {0}
HasLevels n (variable l) = Unit {0}
HasLevels n (primitive o) = Unit {0}
HasLevels n (one_armed c d) = Unit {0}
HasLevels n (two_armed c d e) = Unit {0}
HasLevels n (assignment l c) = Unit {0}
HasLevels n (sequence cs) = Unit {0}
HasLevels n (procedure k cs p) = Unit {0}
HasLevels n (letrec o is c) = Unit {0}
HasLevels n (call c cs) = Unit {0}
HasLevels n (instance x s) = template_levels x ≤ n
HasLevels n (matching c cs s) = Each (λ p. pattern_levels p ≤ n) (clause_patterns cs)

-- So each pattern and each template in a record, in its lines and in the expressions of its keywords, has at most 1,000 levels.
abbrev pub LevelsStayWithin : Type 0
LevelsStayWithin = (own : LibName) (records : List CompiledLibrary) (imports : List ImportedName) (body : LibraryBody) (codes : Codes) (r : CompiledLibrary)
    → Each SpelledRecord records → CodesHold spelled codes → Each SpelledTree body.forms
    → library_record (ready own records imports codes) records body ≡ Ok r
    → Each (λ c. Each (HasLevels max_height) (parts c)) (all_cores r)
