-- A `quasiquote` or `quasisyntax` form (R6RS 11.17; libraries report 12.8): what it comes to, what is to be expanded of it, and its code.
use Rattle.std.specs.Prelude.{ℕ, List, [], Result, Ok, Err}
use Rattle.base_data.specs.Act.{give}
use Rattle.base_data.specs.declared.fault.Fault.{Fault}
use Rattle.base_data.specs.declared.span.Span.{Span}
use Rattle.stx_tree.specs.Tree.{Tree}
use Rattle.core_language.specs.Core.{PlainCore}
use Rattle.core_quasi.specs.Plan.{PlainQuasi}
use Rattle.core_quasi.specs.Quasi.{quasi}
use Rattle.core_quasi.specs.QuasiSyntax.{quasi_syntax}
use Rattle.core_quasi.specs.Words.{word_of}
use Rattle.core_quasi.specs.declared.quasi_syntax.QuasiSyntax.{QuasiSyntax}
use Rattle.core_quasi.specs.declared.word.Family.{Family}
use Rattle.core_quasi.specs.declared.word.Family.TheVariants as family
use Rattle.expand_standing.specs.State.{Does}
use Rattle.expand_quasi.specs.Filled.{filled}
use Rattle.expand_quasi.specs.Inserted.{dots, syntax_code, stamps_of}
use Rattle.expand_quasi.specs.Parts.{quasi_parts, inserts_parts}
use Rattle.expand_quasi.specs.declared.form.QuasiForm.{QuasiForm}
use Rattle.expand_quasi.specs.declared.form.QuasiForm.TheVariants as forms
use Rattle.expand_quasi.specs.declared.parts.PartForm.{PartForm}

abbrev pub quote_by : Result PlainQuasi Fault → Does QuasiForm
quote_by (Err f) s = Err f
quote_by (Ok q) s = give (forms.Quote q) s

abbrev pub syntax_by : Result QuasiSyntax Fault → Does QuasiForm
syntax_by (Err f) s = Err f
syntax_by (Ok q) s = give (forms.Syntax q) s

-- what the form t with this template comes to
abbrev pub form_of : Span → Tree → Family → Tree → Does QuasiForm
form_of place t family.Quote template s = quote_by (quasi (word_of family.Quote s.frames) template t place) s
form_of place t family.Syntax template s = syntax_by (quasi_syntax (record { words = word_of family.Syntax s.frames; dots = dots }) template t place) s

-- what is to be expanded of the form t, at a depth
abbrev pub parts_of : Tree → ℕ → QuasiForm → List PartForm
parts_of t depth (forms.Quote q) = quasi_parts t depth [] q
parts_of t depth (forms.Syntax q) = inserts_parts t depth q.inserts

-- the code of the form t, whose parts have these codes
abbrev pub code_of : Span → ℕ → Tree → QuasiForm → List PlainCore → Does PlainCore
code_of place level t (forms.Quote q) cs = give (filled q cs).0
code_of place level t (forms.Syntax q) cs = syntax_code place level t q cs q.inserts

-- how many nodes of syntax objects its code makes
abbrev pub nodes_of : QuasiForm → ℕ
nodes_of (forms.Quote q) = 0
nodes_of (forms.Syntax q) = stamps_of q.inserts
