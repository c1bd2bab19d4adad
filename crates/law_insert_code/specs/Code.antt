-- Which code a `quasisyntax` form has (R6RS libraries 12.8).
use Rattle.std.specs.Prelude.{◌≡◌, ℕ, List, [], ◌∷◌, Ok}
use Rattle.base_data.specs.declared.span.Span.{Span}
use Rattle.stx_tree.specs.Tree.{Tree}
use Rattle.core_language.specs.Core.{PlainCore, instance}
use Rattle.core_language.specs.Template.{PlainTemplate}
use Rattle.eval_pattern.specs.declared.compile.PatternVariable.{PatternVariable}
use Rattle.core_shapes.specs.At.{place_of}
use Rattle.core_quasi.specs.declared.quasi_syntax.Insert.{Insert}
use Rattle.core_quasi.specs.declared.quasi_syntax.QuasiSyntax.{QuasiSyntax}
use Rattle.expand_standing.specs.State.{State}
use Rattle.expand_quasi.specs.Form.{code_of}
use Rattle.expand_quasi.specs.Inserted.{match_of}
use Rattle.expand_quasi.specs.declared.form.QuasiForm.TheVariants as forms

-- a variable for each insert, of its depth
pub data AreVariables : List Insert → List PatternVariable → Type 0 where
  no_more : AreVariables [] []
  one_more : {i : Insert} {is : List Insert} {x : PatternVariable} {xs : List PatternVariable}
      → x.depth ≡ i.depth → AreVariables is xs → AreVariables (i ∷ is) (x ∷ xs)

pub data IsSyntaxCode (span : Span) (cs : List PlainCore) : List Insert → PlainCore → Type 0 where
  a_template : {x : PlainTemplate} → IsSyntaxCode span cs [] (instance x span)
  a_match : {i : Insert} {is : List Insert} {xs : List PatternVariable} {x : PlainTemplate}
      → AreVariables (i ∷ is) xs → IsSyntaxCode span cs (i ∷ is) (match_of xs x span cs)

abbrev pub FormsHaveSuchCode : Type 0
FormsHaveSuchCode = (place : Span) (level : ℕ) (t : Tree) (q : QuasiSyntax) (cs : List PlainCore) (s u : State) (c : PlainCore)
    → code_of place level t (forms.Syntax q) cs s ≡ Ok (c, u) → IsSyntaxCode (place_of t place) cs q.inserts c
