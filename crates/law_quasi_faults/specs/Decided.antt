-- A template that is well formed comes to something, and any other is BadForm, at the form whose template it is.
use Rattle.std.specs.Prelude.{◌≡◌, ◌⊎◌, Bool, true, false, [], Result, Ok, Err}
use Rattle.base_data.specs.declared.fault.Fault.{Fault}
use Rattle.base_data.specs.declared.fault.FaultKind.TheVariants as kind
use Rattle.base_data.specs.declared.span.Span.{Span}
use Rattle.stx_tree.specs.Tree.{Tree}
use Rattle.core_shapes.specs.At.{fault_at}
use Rattle.core_quasi.specs.Words.{WordOf}
use Rattle.core_quasi.specs.Quasi.{quasi}
use Rattle.core_quasi.specs.QuasiSyntax.{Looked, quasi_syntax}
use Rattle.law_quasi_faults.specs.Formed.{none_stays, ellipsis_stays, is_formed}

-- what a `quasiquote` form comes to, where its template is well formed or not
abbrev pub QuoteIs : {A : Type 0} → Bool → Fault → Result A Fault → Type 0
QuoteIs formed bad (Ok q) = formed ≡ true
QuoteIs formed bad (Err f) = (formed ≡ false) × (f ≡ bad)

abbrev pub QuotesAreDecided : Type 0
QuotesAreDecided = (w : WordOf) (t form : Tree) (place : Span)
    → QuoteIs (is_formed none_stays w t 0) (fault_at kind.BadForm form place []) (quasi w t form place)

-- A `quasisyntax` form may besides pass a limit of trees, where expressions are taken out of it.
abbrev pub SyntaxIs : {A : Type 0} → Bool → Fault → Fault → Result A Fault → Type 0
SyntaxIs formed bad deep (Ok q) = formed ≡ true
SyntaxIs formed bad deep (Err f) = ((formed ≡ false) × (f ≡ bad)) ⊎ (f ≡ deep)

abbrev pub SyntaxesAreDecided : Type 0
SyntaxesAreDecided = (w : Looked) (t form : Tree) (place : Span)
    → SyntaxIs (is_formed ellipsis_stays w.words t 0) (fault_at kind.BadForm form place []) (fault_at kind.TooDeep form place []) (quasi_syntax w t form place)
