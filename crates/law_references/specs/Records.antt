-- The references of a library's record.
use Rattle.std.specs.Prelude.{◌≡◌, ℕ, List, [], ◌∷◌, ◌++◌, map, Some, Ok}
use Rattle.base_data.specs.Elements.{Each}
use Rattle.base_data.specs.declared.imported_name.ImportedName.{ImportedName}
use Rattle.base_data.specs.declared.library.LibName.{LibName}
use Rattle.base_data.specs.declared.name.FrameNo.{FrameNo}
use Rattle.base_data.specs.declared.name.Label.{Label}
use Rattle.stx_tree.specs.Changes.{stamp}
use Rattle.stx_tree.specs.Tree.{Tree}
use Rattle.stx_frames.specs.Listed.{rows_in}
use Rattle.stx_scope.specs.Stands.{stands}
use Rattle.core_language.specs.References.{mentions}
use Rattle.core_language.specs.declared.binding.Binding.{Binding}
use Rattle.core_language.specs.declared.binding.Binding.TheVariants as binding
use Rattle.core_language.specs.declared.record.CompiledLibrary.{CompiledLibrary}
use Rattle.core_language.specs.declared.record.Line.{Line}
use Rattle.core_language.specs.declared.record.Line.TheVariants as line
use Rattle.eval_code.specs.Codes.{Codes}
use Rattle.expand_standing.specs.Start.{started, first_frame}
use Rattle.expand_standing.specs.State.{State}
use Rattle.expand_heads.specs.Items.{begun}
use Rattle.expand_heads.specs.declared.taken.Taken.{Taken}
use Rattle.expand_forms.specs.Expanding.{ready, library_record}
use Rattle.expand_forms.specs.Expression.{inside, full_room}
use Rattle.expand_forms.specs.Top as top
use Rattle.expand_forms.specs.declared.top.LibraryBody.{LibraryBody}
use Rattle.expand_forms.specs.declared.top.TopAt.{TopAt}
use Rattle.expand_forms.specs.Top.{top_at}
use Rattle.law_fresh.specs.Leaves.{CodesHold}
use Rattle.law_fresh_expansion.specs.Events.{HasEvents}
use Rattle.law_fresh_expansion.specs.Known.{libraries_of, IsNewAmong}
use Rattle.law_fresh_expansion.specs.RecordMarks.{HasOnly, RecordHasOnly, WasRead}
use Rattle.law_references.specs.Changes.{body_change}
use Rattle.law_references.specs.Expands.{Take, Finish}
use Rattle.law_references.specs.Namings.{Naming, namings}
use Rattle.law_references.specs.Noted.{KeywordExpression, NotedLine, lines, of_lines, mentioned, named, IsExpression}
use Rattle.law_references.specs.Whole.{IsCaptured, IsRightReference, IsRightExpression}

abbrev pub line_mentions : Line → List Label
line_mentions (line.Define l c) = mentions c
line_mentions (line.Expr c) = mentions c

abbrev pub line_namings : Line → List Naming
line_namings (line.Define l c) = namings c
line_namings (line.Expr c) = namings c

-- a line, and its references in a state
pub record IsRightLine (libs : List LibName) (own : LibName) (u : State) (x : NotedLine) : Type 0 where
  pub all : line_namings x.line ≡ named x.noted.references
  pub mentions : line_mentions x.line ≡ mentioned x.noted.references
  pub right : Each (IsRightReference libs own u) x.noted.references

-- where a binding has the expression of a keyword, that is one of these
abbrev pub IsBoundTo : List KeywordExpression → Label → Binding → Type 0
IsBoundTo es l (binding.Macro level (Some c)) = IsExpression es l c
IsBoundTo es l _ = Unit {0}

module _ (libs : List LibName) (own : LibName) where
  -- An export has the name that its clause gives it, and the label that the identifier of the clause stood for behind the first pass over the body and
  -- stands for at the end. It was read, so no binder that a use introduced captures it.
  pub record IsRightExport (first last : State) (f : FrameNo) (e : List ℕ × Tree) (x : ImportedName) : Type 0 where
    pub name : x.name ≡ e.0
    pub stood : stands first.frames (stamp f e.1) ≡ Some x.label
    pub captured : IsCaptured libs own first.names.number last (stamp f e.1) x.label
    pub unmarked : captured.row.marks ≡ []

  -- so it is of each, in the order of the clauses
  abbrev pub AreRightExports : State → State → FrameNo → List (List ℕ × Tree) → List ImportedName → Type 0
  AreRightExports first last f [] [] = Unit {0}
  AreRightExports first last f (e ∷ es) (x ∷ xs) = IsRightExport first last f e x × AreRightExports first last f es xs
  AreRightExports first last f [] (x ∷ xs) = ⊥
  AreRightExports first last f (e ∷ es) [] = ⊥

module _ (libs : List LibName) (own : LibName) (records : List CompiledLibrary) where
  -- The lines of a record are those of what the first pass took, and their references are right in the last state, whose rows the record has. Its keywords
  -- have the expressions that were expanded in the first pass and in the second, and the references of these are right, each to the end of its expression. Its
  -- exports are what their identifiers stand for.
  pub record RunIsRight (start : State) (at : TopAt) (exports : List (List ℕ × Tree)) (forms : List Tree) (r : CompiledLibrary) : Type 0 where
    pub taken : Taken
    pub first : State
    pub bound : List KeywordExpression
    pub exported : List ImportedName
    pub between : State
    pub told : List NotedLine
    pub last : State
    pub takes : top.first_pass (inside records full_room) at forms start ≡ Ok (taken, first)
    pub taking : Take records (top.body_at at start.library) 0 (map (stamp at.frame) forms) (body_change begun start taken first bound)
    pub looks : top.exports at exports first ≡ Ok (exported, between)
    pub ends : Finish records 0 taken.waiting between told last
    pub run : lines told ≡ r.run
    pub frames : r.frames ≡ rows_in last.library last.frames
    pub right : Each (IsRightLine libs own last) told
    pub expressions : Each (IsRightExpression libs own) (bound ++ of_lines told)
    pub keywords : Each (λ (b : Label × Binding). IsBoundTo (bound ++ of_lines told) b.0 b.1) r.bindings
    pub exports_are : r.exports ≡ exported
    pub exports_right : AreRightExports libs own first last at.frame exports exported

-- So it is of the record of each library with a new name, behind records and codes of texts whose leaves have histories.
abbrev pub RecordsAreHygienic : Type 0
RecordsAreHygienic = (own : LibName) (records : List CompiledLibrary) (imports : List ImportedName) (body : LibraryBody) (codes : Codes) (r : CompiledLibrary)
    → IsNewAmong (libraries_of records) own → Each (RecordHasOnly HasEvents (libraries_of records)) records
    → CodesHold (HasOnly HasEvents (libraries_of records)) codes → Each WasRead body.forms → Each (λ (e : List ℕ × Tree). WasRead e.1) body.exports
    → library_record (ready own records imports codes) records body ≡ Ok r
    → RunIsRight (libraries_of records) own records (started own records imports codes)
    (top_at (first_frame own) body) body.exports body.forms r
