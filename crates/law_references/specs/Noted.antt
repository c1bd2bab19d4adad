-- What is noted of an expansion: the identifiers that became references, and the expressions of keywords.
use Rattle.std.specs.Prelude.{◌≡◌, ◌⊎◌, List, [], ◌∷◌, ◌++◌}
use Rattle.base_data.specs.declared.name.Label.{Label}
use Rattle.stx_tree.specs.Tree.{Tree}
use Rattle.core_language.specs.Core.{PlainCore}
use Rattle.core_language.specs.References.{mentions}
use Rattle.core_language.specs.declared.record.Line.{Line}
use Rattle.core_language.specs.declared.record.Line.TheVariants as line
use Rattle.expand_standing.specs.State.{State}
use Rattle.law_references.specs.Namings.{Naming, namings}

-- An identifier that became a reference, the target of an assignment, or a pattern variable of a template: what it was, the state then, the label that it
-- stood for, and the reference, or the template that has no more than the variable.
pub record Reference : Type 0 where
  pub leaf : Tree
  pub state : State
  pub label : Label
  pub code : PlainCore

-- The expression of a keyword: the label of the keyword, the code that was kept, the references in it, and the state in which its expansion ended.
pub record KeywordExpression : Type 0 where
  pub keyword : Label
  pub code : PlainCore
  pub references : List Reference
  pub state : State

-- of a form: the references of its code and the pattern variables of its templates, in the order of their places, and the expressions of the keywords that were bound in it
pub record Noted : Type 0 where
  pub references : List Reference
  pub expressions : List KeywordExpression

abbrev pub nothing : Noted
nothing = record { references = []; expressions = [] }

abbrev pub only : Reference → Noted
only r = record { references = r ∷ []; expressions = [] }

abbrev pub of_references : List Reference → Noted
of_references refs = record { references = refs; expressions = [] }

abbrev pub of_keywords : List KeywordExpression → Noted
of_keywords es = record { references = []; expressions = es }

-- of what comes first, and of what comes behind it
abbrev pub both : Noted → Noted → Noted
both x y = record { references = x.references ++ y.references; expressions = x.expressions ++ y.expressions }

-- a line of a body, and what is noted of it
pub record NotedLine : Type 0 where
  pub line : Line
  pub noted : Noted

abbrev pub lines : List NotedLine → List Line
lines [] = []
lines (x ∷ xs) = x.line ∷ lines xs

abbrev pub if_definition : Line → List Reference → List Reference
if_definition (line.Define l c) refs = refs
if_definition (line.Expr c) refs = []

abbrev pub if_expression : Line → List Reference → List Reference
if_expression (line.Define l c) refs = []
if_expression (line.Expr c) refs = refs

-- the references of the definitions come first, those of the expressions behind them
abbrev pub of_definitions : List NotedLine → List Reference
of_definitions [] = []
of_definitions (x ∷ xs) = if_definition x.line x.noted.references ++ of_definitions xs

abbrev pub of_expressions : List NotedLine → List Reference
of_expressions [] = []
of_expressions (x ∷ xs) = if_expression x.line x.noted.references ++ of_expressions xs

-- the keywords that were bound in these lines
abbrev pub of_lines : List NotedLine → List KeywordExpression
of_lines [] = []
of_lines (x ∷ xs) = x.noted.expressions ++ of_lines xs

-- what a body comes to, whose first pass bound keywords with these expressions
abbrev pub of_body : List KeywordExpression → List NotedLine → Noted
of_body es xs = record { references = of_definitions xs ++ of_expressions xs; expressions = es ++ of_lines xs }

-- the labels of variables that these refer to or assign
abbrev pub mentioned : List Reference → List Label
mentioned [] = []
mentioned (r ∷ rs) = mentions r.code ++ mentioned rs

-- what these name
abbrev pub named : List Reference → List Naming
named [] = []
named (r ∷ rs) = namings r.code ++ named rs

-- the code is that of one of these expressions, which is the keyword's
abbrev pub IsExpression : List KeywordExpression → Label → PlainCore → Type 0
IsExpression [] l c = ⊥
IsExpression (e ∷ es) l c = ((l ≡ e.keyword) × (c ≡ e.code)) ⊎ IsExpression es l c
