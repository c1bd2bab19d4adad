-- The links of a library.
use Rattle.std.specs.Prelude.{◌≡◌, ℕ, Bool, List, ◌∷◌, [], ◌++◌, map, Some, Ok}
use Rattle.base_data.specs.Elements.{Each}
use Rattle.base_data.specs.declared.imported_name.ImportedName.{ImportedName}
use Rattle.base_data.specs.declared.library.LibName.{LibName}
use Rattle.base_data.specs.declared.name.FrameNo.{FrameNo}
use Rattle.base_data.specs.declared.name.Label.{Label}
use Rattle.base_data.specs.declared.span.Span.{Span}
use Rattle.stx_tree.specs.Changes.{stamp}
use Rattle.stx_tree.specs.Tree.{Tree, span_of}
use Rattle.core_language.specs.declared.record.CompiledLibrary.{CompiledLibrary}
use Rattle.core_language.specs.declared.link.LinkKind.TheVariants as kinds
use Rattle.eval_code.specs.Codes.{Codes}
use Rattle.expand_standing.specs.Binders.{bind_variable}
use Rattle.expand_standing.specs.Start.{started, first_frame}
use Rattle.expand_standing.specs.State.{State}
use Rattle.expand_heads.specs.Items.{begun}
use Rattle.expand_heads.specs.declared.taken.Taken.{Taken}
use Rattle.expand_forms.specs.Expanding.{ready, library_linked}
use Rattle.expand_forms.specs.Top as top
use Rattle.expand_forms.specs.declared.top.LibraryBody.{LibraryBody}
use Rattle.expand_forms.specs.declared.top.Linked.{Linked}
use Rattle.expand_forms.specs.declared.top.TopAt.{TopAt}
use Rattle.expand_forms.specs.Top.{top_at}
use Rattle.law_fresh.specs.Leaves.{CodesHold}
use Rattle.law_fresh_expansion.specs.Events.{HasEvents}
use Rattle.law_fresh_expansion.specs.Known.{libraries_of, IsNewAmong}
use Rattle.law_fresh_expansion.specs.RecordMarks.{HasOnly, RecordHasOnly, WasRead}
use Rattle.law_references.specs.Changes.{body_change}
use Rattle.law_references.specs.Expands.{Take, Finish}
use Rattle.law_references.specs.Noted.{KeywordExpression, NotedLine, lines, of_lines}
use Rattle.law_links.specs.Links.{link_to, IsLink, AreLinked, ExpressionsLinked}

-- A binder with a span is linked to its label, and nothing else is.
abbrev pub BindersAreLinked : Type 0
BindersAreLinked = (f : FrameNo) (place : Span) (level : ℕ) (top : Bool) (id : Tree) (s u : State) (l : Label) (p : Span)
    → bind_variable f place level top id s ≡ Ok (l, u) → span_of id ≡ Some p → u.links ≡ s.links ++ link_to p l kinds.Bind ∷ []

module _ (records : List CompiledLibrary) where
  -- The links of a library are those of identifiers, and those of the references in its lines and in the expressions of its keywords are among them. The lines
  -- are those of the record.
  pub record RunIsLinked (start : State) (at : TopAt) (exports : List (List ℕ × Tree)) (forms : List Tree) (l : Linked) : Type 0 where
    pub taken : Taken
    pub first : State
    pub bound : List KeywordExpression
    pub exported : List ImportedName
    pub between : State
    pub told : List NotedLine
    pub last : State
    pub taking : Take records (top.body_at at start.library) 0 (map (stamp at.frame) forms) (body_change begun start taken first bound)
    pub looks : top.exports at exports first ≡ Ok (exported, between)
    pub ends : Finish records 0 taken.waiting between told last
    pub run : lines told ≡ l.library.run
    pub are : Each IsLink l.links
    pub lines_linked : Each (λ (x : NotedLine). AreLinked l.links x.noted.references) told
    pub expressions_linked : ExpressionsLinked l.links (bound ++ of_lines told)

-- So it is of each library with a new name, behind records and codes of texts whose leaves have histories.
abbrev pub LinksAreOfIdentifiers : Type 0
LinksAreOfIdentifiers = (own : LibName) (records : List CompiledLibrary) (imports : List ImportedName) (body : LibraryBody) (codes : Codes) (l : Linked)
    → IsNewAmong (libraries_of records) own → Each (RecordHasOnly HasEvents (libraries_of records)) records
    → CodesHold (HasOnly HasEvents (libraries_of records)) codes → Each WasRead body.forms → Each (λ (e : List ℕ × Tree). WasRead e.1) body.exports
    → library_linked (ready own records imports codes) records body ≡ Ok l
    → RunIsLinked records (started own records imports codes) (top_at (first_frame own) body) body.exports body.forms l
