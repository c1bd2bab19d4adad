-- The table of keywords is what is written out.
use Rattle.std.proofs.Common.{refl}
use Rattle.core_language.specs.declared.core_form.CoreForm.TheVariants as form
use Rattle.law_tables.specs.CoreForms.{FormsAreWritten, FormsAreFound}

pub written : FormsAreWritten
written = refl

pub found : FormsAreFound
found form.Quote = (refl, refl)
found form.Lambda = (refl, refl)
found form.CaseLambda = (refl, refl)
found form.If = (refl, refl)
found form.Set = (refl, refl)
found form.Begin = (refl, refl)
found form.Letrec = (refl, refl)
found form.LetrecStar = (refl, refl)
found form.Define = (refl, refl)
found form.DefineSyntax = (refl, refl)
found form.LetSyntax = (refl, refl)
found form.LetrecSyntax = (refl, refl)
found form.Quasiquote = (refl, refl)
found form.Syntax = (refl, refl)
found form.Quasisyntax = (refl, refl)
found form.SyntaxCase = (refl, refl)
found form.Else = (refl, refl)
found form.Arrow = (refl, refl)
found form.Ellipsis = (refl, refl)
found form.Underscore = (refl, refl)
found form.Unquote = (refl, refl)
found form.UnquoteSplicing = (refl, refl)
found form.Unsyntax = (refl, refl)
found form.UnsyntaxSplicing = (refl, refl)
found form.DefineRecordType = (refl, refl)
found form.RecordTypeDescriptor = (refl, refl)
found form.RecordConstructorDescriptor = (refl, refl)
found form.Fields = (refl, refl)
found form.Mutable = (refl, refl)
found form.Immutable = (refl, refl)
found form.Parent = (refl, refl)
found form.Protocol = (refl, refl)
found form.Sealed = (refl, refl)
found form.Opaque = (refl, refl)
found form.Nongenerative = (refl, refl)
found form.ParentRtd = (refl, refl)
