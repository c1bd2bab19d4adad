-- The keywords that expansion itself knows, by place and by their number in the table of names.
use Rattle.std.specs.Prelude.{ℕ, List, [], ◌∷◌, Option, Some, None, slice_get, ◌==◌, if◌then◌else◌}
use Rattle.base_data.specs.declared.op.names.TheConstants as names
use Rattle.core_language.specs.declared.core_form.CoreForm.{CoreForm}
use Rattle.core_language.specs.declared.core_form.CoreForm.TheVariants as form
use Rattle.core_language.specs.declared.core_form.TheConstants.{CORE_FORMS}

abbrev pub place : CoreForm → ℕ
place form.Quote = 0
place form.Lambda = 1
place form.CaseLambda = 2
place form.If = 3
place form.Set = 4
place form.Begin = 5
place form.Letrec = 6
place form.LetrecStar = 7
place form.Define = 8
place form.DefineSyntax = 9
place form.LetSyntax = 10
place form.LetrecSyntax = 11
place form.Quasiquote = 12
place form.Syntax = 13
place form.Quasisyntax = 14
place form.SyntaxCase = 15
place form.Else = 16
place form.Arrow = 17
place form.Ellipsis = 18
place form.Underscore = 19
place form.Unquote = 20
place form.UnquoteSplicing = 21
place form.Unsyntax = 22
place form.UnsyntaxSplicing = 23
place form.DefineRecordType = 24
place form.RecordTypeDescriptor = 25
place form.RecordConstructorDescriptor = 26
place form.Fields = 27
place form.Mutable = 28
place form.Immutable = 29
place form.Parent = 30
place form.Protocol = 31
place form.Sealed = 32
place form.Opaque = 33
place form.Nongenerative = 34
place form.ParentRtd = 35

abbrev pub number : CoreForm → ℕ
number form.Quote = names.QUOTE
number form.Lambda = names.LAMBDA
number form.CaseLambda = names.CASE_LAMBDA
number form.If = names.IF
number form.Set = names.SET_BANG
number form.Begin = names.BEGIN
number form.Letrec = names.LETREC
number form.LetrecStar = names.LETREC_STAR
number form.Define = names.DEFINE
number form.DefineSyntax = names.DEFINE_SYNTAX
number form.LetSyntax = names.LET_SYNTAX
number form.LetrecSyntax = names.LETREC_SYNTAX
number form.Quasiquote = names.QUASIQUOTE
number form.Syntax = names.SYNTAX
number form.Quasisyntax = names.QUASISYNTAX
number form.SyntaxCase = names.SYNTAX_CASE
number form.Else = names.ELSE
number form.Arrow = names.ARROW
number form.Ellipsis = names.ELLIPSIS
number form.Underscore = names.UNDERSCORE
number form.Unquote = names.UNQUOTE
number form.UnquoteSplicing = names.UNQUOTE_SPLICING
number form.Unsyntax = names.UNSYNTAX
number form.UnsyntaxSplicing = names.UNSYNTAX_SPLICING
number form.DefineRecordType = names.DEFINE_RECORD_TYPE
number form.RecordTypeDescriptor = names.RECORD_TYPE_DESCRIPTOR
number form.RecordConstructorDescriptor = names.RECORD_CONSTRUCTOR_DESCRIPTOR
number form.Fields = names.FIELDS
number form.Mutable = names.MUTABLE
number form.Immutable = names.IMMUTABLE
number form.Parent = names.PARENT
number form.Protocol = names.PROTOCOL
number form.Sealed = names.SEALED
number form.Opaque = names.OPAQUE
number form.Nongenerative = names.NONGENERATIVE
number form.ParentRtd = names.PARENT_RTD

abbrev pub at_place : ℕ → Option CoreForm
at_place n = slice_get CORE_FORMS n

-- the first with a number
abbrev pub first_numbered : List CoreForm → ℕ → Option CoreForm
first_numbered [] n = None
first_numbered (f ∷ fs) n = if number f == n then Some f else first_numbered fs n

abbrev pub at_number : ℕ → Option CoreForm
at_number n = first_numbered CORE_FORMS n
