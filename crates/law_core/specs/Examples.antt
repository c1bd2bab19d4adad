-- Small examples, of what each test takes and of what it refuses.
use Rattle.std.specs.Prelude.{◌≡◌, ℕ, Bool, true, false, List, [], ◌∷◌, Option, None, Some, codes, pos}
use Rattle.base_data.specs.Op.{name_count}
use Rattle.base_data.specs.Datum as datum
use Rattle.base_data.specs.declared.atom.Atom.TheVariants as a
use Rattle.base_data.specs.declared.imported_name.ImportedName.{ImportedName}
use Rattle.base_data.specs.declared.library.LibName.{LibName}
use Rattle.base_data.specs.declared.library.LibName.TheVariants as library
use Rattle.base_data.specs.declared.name.CodeNo.{CodeNo}
use Rattle.base_data.specs.declared.name.Label.{Label}
use Rattle.base_data.specs.declared.op.Op.{Op}
use Rattle.base_data.specs.declared.span.Span.{Span}
use Rattle.base_data.specs.declared.op.names.TheConstants as names
use Rattle.stx_tree.specs.Context.{blank}
use Rattle.stx_tree.specs.Tree as tree
use Rattle.core_language.specs.Core.{PlainCore, quoted, variable, primitive, assignment, sequence, procedure, letrec, instance, matching}
use Rattle.core_language.specs.Core.{none, more, no_init, init, PlainCases, no_case, case, no_clause, clause, fended}
use Rattle.core_language.specs.Pattern as pattern
use Rattle.core_language.specs.Pattern.{PlainPattern}
use Rattle.core_language.specs.Template as template
use Rattle.core_language.specs.Template.{PlainTemplate}
use Rattle.core_language.specs.declared.binding.Binding.{Binding}
use Rattle.core_language.specs.declared.binding.Binding.TheVariants as binding
use Rattle.core_language.specs.declared.record.CompiledLibrary.{CompiledLibrary}
use Rattle.core_language.specs.declared.record.Line.{Line}
use Rattle.core_language.specs.declared.record.Line.TheVariants as line
use Rattle.law_core.specs.Scope.{closed}
use Rattle.law_core.specs.WellMade.{is_well_made}
use Rattle.law_core.specs.Records.{are_closed, are_bound_once}
use Rattle.law_core.specs.Follows.{follows}

-- labels and code numbers of a library
abbrev label_of : LibName → ℕ → Label
label_of l n = record { 0 = record { library = l; number = n } }

abbrev x : Label
x = label_of library.Program 0

abbrev y : Label
y = label_of library.Program 1

abbrev code_number : ℕ → CodeNo
code_number n = record { 0 = record { library = library.Program; number = n } }

abbrev here : Span
here = record { file = codes "p.sps"; from = 0; to = 1 }

abbrev one : PlainCore
one = quoted (datum.atom None (a.Int (pos 1)))

abbrev op : ℕ → PlainCore
op n = let o : Op = record { 0 = n } in primitive o

abbrev both : PlainCore → PlainCore → PlainCore
both c d = sequence (more c (more d none))

-- a case with one formal
abbrev taking : Label → PlainCore → PlainCases → PlainCases
taking l c cs = case (record { required = l ∷ []; rest = None }) c cs

-- a `lambda` with one formal, by the number of its code
abbrev lambda : ℕ → Label → PlainCore → PlainCore
lambda n l c = procedure (code_number n) (taking l c no_case) true

-- a `syntax-case` of 1 with one clause
abbrev match_one : PlainPattern → PlainCore → PlainCore
match_one p c = matching one (clause p c no_clause) here

abbrev syntax : PlainTemplate → PlainCore
syntax t = instance t here

-- (x ...)
abbrev repeated : Label → PlainPattern
repeated l = pattern.list (pattern.dots (pattern.variable l) pattern.none) (pattern.atom a.Nil)

-- a list of one item with so many ellipses behind it
abbrev item : PlainTemplate → ℕ → PlainTemplate
item t n = template.list (template.more t n template.none) (template.constant tree.nil)

pub record ClosedExamples : Type 0 where
  -- (lambda (x) x)
  pub formal : closed [] (lambda 0 x (variable x)) ≡ true
  -- (begin (lambda (x) x) x)
  pub outside : closed [] (both (lambda 0 x (variable x)) (variable x)) ≡ false
  pub given : closed (x ∷ []) (both (lambda 0 x (variable x)) (variable x)) ≡ true
  -- (letrec ((x x)) x)
  pub recursive : closed [] (letrec false (init x (variable x) no_init) (variable x)) ≡ true
  -- (begin (letrec ((x 1)) 1) (set! x 1))
  pub assigned : closed [] (both (letrec false (init x one no_init) one) (assignment x one)) ≡ false
  -- the formal of one case is not that of another
  pub cases : closed [] (procedure (code_number 0) (taking x one (taking y (variable x) no_case)) false) ≡ false
  -- a pattern variable stands in the fender and the output of its clause
  pub clauses : closed [] (matching one (fended (pattern.variable x) (syntax (template.variable x 0)) (syntax (template.variable x 0)) no_clause) here) ≡ true
  pub matched : closed [] (matching (syntax (template.variable x 0)) (clause (pattern.variable x) one no_clause) here) ≡ false

pub record WellMadeExamples : Type 0 where
  pub formal : is_well_made [] (lambda 0 x (variable x)) ≡ true
  -- a `begin` of one part, and a `lambda` of two cases
  pub short : is_well_made [] (sequence (more one none)) ≡ false
  pub two_cases : is_well_made [] (procedure (code_number 0) (taking x one (taking y one no_case)) true) ≡ false
  pub case_lambda : is_well_made [] (procedure (code_number 0) (taking x one (taking y one no_case)) false) ≡ true
  -- the last op, and one past it
  pub last_op : is_well_made [] (op names.PARENT_RTD) ≡ true
  pub past_ops : is_well_made [] (op name_count) ≡ false
  -- one label of two binders, and one number of two codes
  pub bound_twice : is_well_made [] (both (lambda 0 x one) (lambda 1 x one)) ≡ false
  pub numbered_twice : is_well_made [] (both (lambda 0 x one) (lambda 0 y one)) ≡ false
  pub apart : is_well_made [] (both (lambda 0 x one) (lambda 1 y one)) ≡ true
  -- a literal that is a leaf, and one that is none
  pub literal : is_well_made [] (match_one (pattern.literal (tree.leaf None (codes "x") blank)) one) ≡ true
  pub no_literal : is_well_made [] (match_one (pattern.literal tree.nil) one) ≡ false
  -- a pattern variable stands in a template, and not where a variable does
  pub instanced : is_well_made [] (match_one (pattern.variable x) (syntax (template.variable x 0))) ≡ true
  pub referenced : is_well_made [] (match_one (pattern.variable x) (variable x)) ≡ false
  -- one of depth 1 under one ellipsis, under none, under two, and with another depth
  pub once_repeated : is_well_made [] (match_one (repeated x) (syntax (item (template.variable x 1) 1))) ≡ true
  pub not_repeated : is_well_made [] (match_one (repeated x) (syntax (template.variable x 1))) ≡ false
  pub twice_repeated : is_well_made [] (match_one (repeated x) (syntax (item (template.variable x 1) 2))) ≡ false
  pub other_depth : is_well_made [] (match_one (repeated x) (syntax (item (template.variable x 0) 1))) ≡ false
  -- a variable of depth 0 may stand under an ellipsis that another one feeds
  pub fed_by_another : is_well_made ((x, 1) ∷ (y, 0) ∷ [])
      (syntax (item (template.list (template.more (template.variable x 1) 0 template.none) (template.variable y 0)) 1)) ≡ true
  pub given : is_well_made ((x, 0) ∷ []) (syntax (template.variable x 0)) ≡ true
  pub not_given : is_well_made [] (syntax (template.variable x 0)) ≡ false

-- a variable of level 0
abbrev variable_row : Label → List ℕ → Option ℕ → Bool → Label × Binding
variable_row l symbol index top = (l, binding.Variable (record { symbol = symbol; index = index; level = 0; top = top; assigned = false }))

abbrev keyword_row : Label → Option PlainCore → Label × Binding
keyword_row l expression = (l, binding.Macro 0 expression)

abbrev export_row : List ℕ → Label → ImportedName
export_row name label = record { name = name; label = label }

abbrev recorded : LibName → List ImportedName → List (Label × Binding) → List Line → List LibName → CompiledLibrary
recorded l exports bindings run refs = record {
  path = codes "p.sps";
  name = l;
  version = [];
  exports = exports;
  bindings = bindings;
  frames = [];
  run = run;
  refs = refs;
}

-- (define x 1)
abbrev defines_x : CompiledLibrary
defines_x = recorded library.Program [] (variable_row x (codes "x") (Some 0) true ∷ []) (line.Define x one ∷ []) []

-- two definitions, by their labels and indices
abbrev defines_two : Label → ℕ → CompiledLibrary
defines_two l n = recorded library.Program [] (variable_row x (codes "x") (Some 0) true ∷ variable_row l (codes "x") (Some n) true ∷ [])
    (line.Define x one ∷ line.Define l one ∷ []) []

pub record RecordExamples : Type 0 where
  -- what a later record defines is seen too
  pub closed_later : are_closed (recorded library.Program [] [] (line.Expr (variable x) ∷ []) [] ∷ defines_x ∷ []) ≡ true
  pub not_closed : are_closed (recorded library.Program [] [] (line.Expr (variable y) ∷ []) [] ∷ defines_x ∷ []) ≡ false
  pub bound_once : are_bound_once (defines_two y 1 ∷ []) ≡ true
  -- one label twice
  pub bound_twice : are_bound_once (defines_two x 1 ∷ []) ≡ false
  -- two labels with one symbol and one index
  pub named_twice : are_bound_once (defines_two y 0 ∷ []) ≡ false

-- a library with one variable
abbrev util : LibName
util = library.User (codes "util" ∷ [])

abbrev z : Label
z = label_of util 0

abbrev defines_z : CompiledLibrary
defines_z = recorded util (export_row (codes "z") z ∷ []) (variable_row z (codes "z") (Some 0) true ∷ []) (line.Define z one ∷ []) []

-- a program whose line mentions that variable
abbrev mentions_z : List LibName → CompiledLibrary
mentions_z refs = recorded library.Program [] [] (line.Expr (variable z) ∷ []) refs

pub record FollowsExamples : Type 0 where
  pub first : follows defines_x [] ≡ true
  -- not behind itself
  pub itself : follows defines_x (defines_x ∷ []) ≡ false
  pub core : follows (recorded library.Core [] [] [] []) [] ≡ false
  -- a variable of another library
  pub not_own : follows (recorded library.Prelude [] (variable_row x (codes "x") (Some 0) true ∷ []) (line.Define x one ∷ []) []) [] ≡ false
  pub no_index : follows (recorded library.Program [] (variable_row x (codes "x") None true ∷ []) (line.Define x one ∷ []) []) [] ≡ false
  pub not_top : follows (recorded library.Program [] (variable_row x (codes "x") (Some 0) false ∷ []) (line.Define x one ∷ []) []) [] ≡ false
  pub one_index_twice : follows (defines_two y 0) [] ≡ false
  pub two_indices : follows (defines_two y 1) [] ≡ true
  -- a keyword with and without its expression, and one that mentions a variable of its own library
  pub keyword : follows (recorded library.Program [] (keyword_row x (Some one) ∷ []) [] []) [] ≡ true
  pub no_keyword : follows (recorded library.Program [] (keyword_row x None ∷ []) [] []) [] ≡ false
  pub late_keyword : follows (recorded library.Program []
      (variable_row x (codes "x") (Some 0) true ∷ keyword_row y (Some (variable x)) ∷ []) (line.Define x one ∷ []) []) [] ≡ false
  -- an export of its own, of an earlier record, of a name that is given, and of none
  pub exported : follows defines_z [] ≡ true
  pub reexported : follows (recorded library.Program (export_row (codes "z") z ∷ []) [] [] []) (defines_z ∷ []) ≡ true
  pub given_export : follows (recorded library.Program (export_row (codes "car") (label_of library.Core names.PARENT_RTD) ∷ []) [] [] []) [] ≡ true
  pub derived_export : follows (recorded library.Program (export_row (codes "let") (label_of library.Core names.LET) ∷ []) [] [] []) [] ≡ false
  pub unknown_export : follows (recorded library.Program (export_row (codes "z") z ∷ []) [] [] []) [] ≡ false
  pub exported_twice : follows (recorded library.Program (export_row (codes "z") z ∷ export_row (codes "z") z ∷ []) [] [] []) (defines_z ∷ []) ≡ false
  -- the libraries that it mentions
  pub referring : follows (mentions_z (util ∷ [])) (defines_z ∷ []) ≡ true
  pub not_referring : follows (mentions_z []) (defines_z ∷ []) ≡ false
  pub referring_twice : follows (mentions_z (util ∷ util ∷ [])) (defines_z ∷ []) ≡ false
  pub not_earlier : follows (mentions_z (util ∷ [])) [] ≡ false
