-- The keywords that expansion itself knows, written out: the core forms, their auxiliary keywords, and those of records
-- (R6RS 11 and libraries 6.2, 12.4 and 12.6).
use Rattle.std.specs.Prelude.{◌≡◌, ℕ, List, [], ◌∷◌, map, codes, Some}
use Rattle.base_data.specs.Op.{op_text}
use Rattle.core_language.specs.CoreForm.{place, number, at_place, at_number}
use Rattle.core_language.specs.declared.core_form.CoreForm.{CoreForm}
use Rattle.core_language.specs.declared.core_form.CoreForm.TheVariants as form
use Rattle.core_language.specs.declared.core_form.TheConstants.{CORE_FORMS}

-- each with its report name, in order
abbrev pub forms : List (CoreForm × List ℕ)
forms =
    (form.Quote, codes "quote") ∷
    (form.Lambda, codes "lambda") ∷
    (form.CaseLambda, codes "case-lambda") ∷
    (form.If, codes "if") ∷
    (form.Set, codes "set!") ∷
    (form.Begin, codes "begin") ∷
    (form.Letrec, codes "letrec") ∷
    (form.LetrecStar, codes "letrec*") ∷
    (form.Define, codes "define") ∷
    (form.DefineSyntax, codes "define-syntax") ∷
    (form.LetSyntax, codes "let-syntax") ∷
    (form.LetrecSyntax, codes "letrec-syntax") ∷
    (form.Quasiquote, codes "quasiquote") ∷
    (form.Syntax, codes "syntax") ∷
    (form.Quasisyntax, codes "quasisyntax") ∷
    (form.SyntaxCase, codes "syntax-case") ∷
    (form.Else, codes "else") ∷
    (form.Arrow, codes "=>") ∷
    (form.Ellipsis, codes "...") ∷
    (form.Underscore, codes "_") ∷
    (form.Unquote, codes "unquote") ∷
    (form.UnquoteSplicing, codes "unquote-splicing") ∷
    (form.Unsyntax, codes "unsyntax") ∷
    (form.UnsyntaxSplicing, codes "unsyntax-splicing") ∷
    (form.DefineRecordType, codes "define-record-type") ∷
    (form.RecordTypeDescriptor, codes "record-type-descriptor") ∷
    (form.RecordConstructorDescriptor, codes "record-constructor-descriptor") ∷
    (form.Fields, codes "fields") ∷
    (form.Mutable, codes "mutable") ∷
    (form.Immutable, codes "immutable") ∷
    (form.Parent, codes "parent") ∷
    (form.Protocol, codes "protocol") ∷
    (form.Sealed, codes "sealed") ∷
    (form.Opaque, codes "opaque") ∷
    (form.Nongenerative, codes "nongenerative") ∷
    (form.ParentRtd, codes "parent-rtd") ∷
    []

-- The table has these, in this order, and the number of each is that of its report name.
abbrev pub FormsAreWritten : Type 0
FormsAreWritten = map (λ f. (f, op_text (number f))) CORE_FORMS ≡ forms

-- The table gives each back for its place, and for its number.
abbrev pub FormsAreFound : Type 0
FormsAreFound = (f : CoreForm) → (at_place (place f) ≡ Some f) × (at_number (number f) ≡ Some f)
