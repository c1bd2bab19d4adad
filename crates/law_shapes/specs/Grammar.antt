-- How the forms of the core keywords are written, by cases (R6RS 11.2 to 11.4 and 11.17 to 11.19; libraries report 4 and 12.4).
use Rattle.std.specs.Prelude.{ℕ, List, [], ◌∷◌, Option, None, Some}
use Rattle.base_data.specs.declared.atom.Atom.TheVariants.{Nil}
use Rattle.base_data.specs.declared.span.Span.{Span}
use Rattle.stx_tree.specs.Context.{LeafContext}
use Rattle.stx_tree.specs.Tree.{Tree, atom, leaf, pair}
use Rattle.core_language.specs.declared.core_form.CoreForm.{CoreForm}
use Rattle.core_language.specs.declared.core_form.CoreForm.TheVariants as form
use Rattle.core_shapes.specs.declared.shape.FormalIds.{FormalIds}
use Rattle.core_shapes.specs.declared.shape.BindingSpec.{BindingSpec}
use Rattle.core_shapes.specs.declared.shape.LambdaCase.{LambdaCase}
use Rattle.core_shapes.specs.declared.shape.PatternCase.{PatternCase}
use Rattle.core_shapes.specs.declared.shape.Shape.{Shape}
use Rattle.core_shapes.specs.declared.shape.Shape.TheVariants as shapes

-- an identifier
pub data IsId : Tree → Type 0 where
  id : {span : Option Span} {x : List ℕ} {c : LeafContext} → IsId (leaf span x c)

-- `(form ...)`: a list of these, which ends in the empty list
pub data IsList : List Tree → Tree → Type 0 where
  end : {span : Option Span} → IsList [] (atom span Nil)
  next : {span : Option Span} {x rest : Tree} {xs : List Tree} → IsList xs rest → IsList (x ∷ xs) (pair span x rest)

-- each of these is written as one of those, in order
abbrev pub AreWritten : {A : Type 0} → (A → Tree → Type 0) → List A → List Tree → Type 0
AreWritten P [] [] = Unit {0}
AreWritten P [] (t ∷ ts) = ⊥
AreWritten P (y ∷ ys) [] = ⊥
AreWritten P (y ∷ ys) (t ∷ ts) = P y t × AreWritten P ys ts

-- `(id ...)`, `(id ... . id)` or `id`
pub data IsFormalsForm : List Tree → Option Tree → Tree → Type 0 where
  no_more : {span : Option Span} → IsFormalsForm [] None (atom span Nil)
  all_others : {x : Tree} → IsId x → IsFormalsForm [] (Some x) x
  one : {span : Option Span} {x rest : Tree} {xs : List Tree} {others : Option Tree} → IsId x → IsFormalsForm xs others rest
      → IsFormalsForm (x ∷ xs) others (pair span x rest)

abbrev pub AreFormals : FormalIds → Tree → Type 0
AreFormals ids t = IsFormalsForm ids.required ids.rest t

-- `(id init)`
abbrev pub IsBinding : BindingSpec → Tree → Type 0
IsBinding b t = IsId b.id × IsList (b.id ∷ b.init ∷ []) t

-- `((id init) ...)`
pub data AreBindings (bs : List BindingSpec) (t : Tree) : Type 0 where
  bindings : {xs : List Tree} → IsList xs t → AreWritten IsBinding bs xs → AreBindings bs t

-- `(formals form ...)`
pub data IsLambdaCase (c : LambdaCase) (t : Tree) : Type 0 where
  lambda_case : {ids : Tree} → AreFormals c.formals ids → IsList (ids ∷ c.body) t → IsLambdaCase c t

-- `(pattern output)` or `(pattern fender output)`
pub data IsPatternCase : PatternCase → Tree → Type 0 where
  plain : {p o t : Tree} → IsList (p ∷ o ∷ []) t → IsPatternCase (record { pattern = p; fender = None; output = o }) t
  fendered : {p f o t : Tree} → IsList (p ∷ f ∷ o ∷ []) t → IsPatternCase (record { pattern = p; fender = Some f; output = o }) t

-- A form of a keyword, by what stands behind the keyword.
pub data IsForm : CoreForm → Shape → List Tree → Type 0 where
  -- `(quote datum)`
  quote : {datum : Tree} → IsForm form.Quote (shapes.Quote datum) (datum ∷ [])
  -- `(lambda formals form ...)`
  lambda : {ids : FormalIds} {t : Tree} {body : List Tree} → AreFormals ids t → IsForm form.Lambda (shapes.Lambda ids body) (t ∷ body)
  -- `(case-lambda (formals form ...) ...)`
  case_lambda : {cs : List LambdaCase} {ts : List Tree} → AreWritten IsLambdaCase cs ts → IsForm form.CaseLambda (shapes.CaseLambda cs) ts
  -- `(if test consequent)`
  one_armed : {test consequent : Tree} → IsForm form.If (shapes.If test consequent None) (test ∷ consequent ∷ [])
  -- `(if test consequent alternate)`
  two_armed : {test consequent alternate : Tree} → IsForm form.If (shapes.If test consequent (Some alternate)) (test ∷ consequent ∷ alternate ∷ [])
  -- `(set! id value)`
  set : {x value : Tree} → IsId x → IsForm form.Set (shapes.Set x value) (x ∷ value ∷ [])
  -- `(begin form ...)`
  begin : {ts : List Tree} → IsForm form.Begin (shapes.Begin ts) ts
  -- `(letrec ((id init) ...) form ...)`
  letrec : {bs : List BindingSpec} {t : Tree} {body : List Tree} → AreBindings bs t → IsForm form.Letrec (shapes.Letrec bs body) (t ∷ body)
  -- `(letrec* ((id init) ...) form ...)`
  letrec_star : {bs : List BindingSpec} {t : Tree} {body : List Tree} → AreBindings bs t → IsForm form.LetrecStar (shapes.Letrec bs body) (t ∷ body)
  -- `(define id)`
  define_empty : {x : Tree} → IsId x → IsForm form.Define (shapes.Define x None) (x ∷ [])
  -- `(define id value)`
  define : {x value : Tree} → IsId x → IsForm form.Define (shapes.Define x (Some value)) (x ∷ value ∷ [])
  -- `(define (id . formals) form ...)`
  define_procedure : {span : Option Span} {x rest : Tree} {ids : FormalIds} {body : List Tree} → IsId x → AreFormals ids rest
      → IsForm form.Define (shapes.DefineProcedure x ids body) (pair span x rest ∷ body)
  -- `(define-syntax id expression)`
  define_syntax : {x value : Tree} → IsId x → IsForm form.DefineSyntax (shapes.DefineSyntax x value) (x ∷ value ∷ [])
  -- `(let-syntax ((id expression) ...) form ...)`
  let_syntax : {bs : List BindingSpec} {t : Tree} {body : List Tree} → AreBindings bs t → IsForm form.LetSyntax (shapes.LetSyntax bs body) (t ∷ body)
  -- `(letrec-syntax ((id expression) ...) form ...)`
  letrec_syntax : {bs : List BindingSpec} {t : Tree} {body : List Tree} → AreBindings bs t → IsForm form.LetrecSyntax (shapes.LetSyntax bs body) (t ∷ body)
  -- `(quasiquote template)`
  quasiquote : {template : Tree} → IsForm form.Quasiquote (shapes.Operand template) (template ∷ [])
  -- `(syntax template)`
  syntax_of : {template : Tree} → IsForm form.Syntax (shapes.Operand template) (template ∷ [])
  -- `(quasisyntax template)`
  quasisyntax : {template : Tree} → IsForm form.Quasisyntax (shapes.Operand template) (template ∷ [])
  -- `(syntax-case subject (literal ...) clause ...)`
  syntax_case : {subject t : Tree} {literals ts : List Tree} {cs : List PatternCase} → IsList literals t → AreWritten IsPatternCase cs ts
      → IsForm form.SyntaxCase (shapes.SyntaxCase subject literals cs) (subject ∷ t ∷ ts)

-- a form of a keyword, behind a head that stands for the keyword
pub data HasShape (which : CoreForm) (s : Shape) (t : Tree) : Type 0 where
  headed : {head : Tree} {operands : List Tree} → IsList (head ∷ operands) t → IsForm which s operands → HasShape which s t
