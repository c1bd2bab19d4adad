-- Which data are expressions of core text, by cases (R6RS 9.1 and 11), with the names that each binds in their order, and
-- those that it mentions outside the scope of a binder in it.
use Rattle.std.specs.Prelude.{◌≡◌, ℕ, suc, ℤ, Bool, true, not, List, [], ◌∷◌, ◌++◌, filter, Option, codes}
use Rattle.std.specs.List.{list_any}
use Rattle.std.specs.Str.{bytes_eq}
use Rattle.base_data.specs.Datum.{PlainDatum, atom, symbol, pair, vector}
use Rattle.base_data.specs.declared.atom.Atom.{Atom}
use Rattle.base_data.specs.declared.atom.Atom.TheVariants as a
use Rattle.base_data.specs.declared.span.Span.{Span}
use Rattle.check_grammar.specs.Names.{IsName}
use Rattle.check_grammar.specs.Primitives.{is_primitive}

-- a name is one of these
abbrev pub has : List (List ℕ) → List ℕ → Bool
has xs x = list_any (bytes_eq x) xs

-- but for these names
abbrev pub without : List (List ℕ) → List (List ℕ) → List (List ℕ)
without xs ys = filter (λ y. not (has xs y)) ys

-- booleans, numbers, characters, strings and bytevectors evaluate to themselves
pub data IsItself : Atom → Type 0 where
  boolean : (b : Bool) → IsItself (a.Bool b)
  integer : (z : ℤ) → IsItself (a.Int z)
  number : (text : List ℕ) → IsItself (a.Spelt text)
  character : (c : ℕ) → IsItself (a.Char c)
  text : (text : List ℕ) → IsItself (a.Str text)
  bytes : (ns : List ℕ) → IsItself (a.Bytes ns)

-- what is quoted: the empty list, symbols, lists and vectors
pub data IsQuoted : PlainDatum → Type 0 where
  nothing : {s : Option Span} → IsQuoted (atom s a.Nil)
  name : {s : Option Span} {x : List ℕ} → IsQuoted (symbol s x)
  list : {s : Option Span} {d e : PlainDatum} → IsQuoted (pair s d e)
  elements : {s : Option Span} {d : PlainDatum} → IsQuoted (vector s d)

-- (x ...), (x ... . r) or r
pub data IsFormals : PlainDatum → List (List ℕ) → Type 0 where
  no_rest : {s : Option Span} → IsFormals (atom s a.Nil) []
  rest : {s : Option Span} {x : List ℕ} → IsName x → IsFormals (symbol s x) (x ∷ [])
  required : {s t : Option Span} {x : List ℕ} {d : PlainDatum} {xs : List (List ℕ)} → IsName x → IsFormals d xs → IsFormals (pair s (symbol t x) d) (x ∷ xs)

-- a list of one datum, and of two
pub data Is1 : PlainDatum → PlainDatum → Type 0 where
  single : {s t : Option Span} {d : PlainDatum} → Is1 (pair s d (atom t a.Nil)) d

pub data Is2 : PlainDatum → PlainDatum → PlainDatum → Type 0 where
  double : {s : Option Span} {d e f : PlainDatum} → Is1 e f → Is2 (pair s d e) d f

-- the keywords of letrec and letrec*
pub data IsLetrec : List ℕ → Type 0 where
  plain : IsLetrec (codes "letrec")
  ordered : IsLetrec (codes "letrec*")

mutual
  pub data IsExpression : PlainDatum → List (List ℕ) → List (List ℕ) → Type 0 where
    -- a constant that evaluates to itself, and (quote d) of any other
    constant : {s : Option Span} {c : Atom} → IsItself c → IsExpression (atom s c) [] []
    quotation : {s t : Option Span} {d e : PlainDatum} → Is1 e d → IsQuoted d → IsExpression (pair s (symbol t (codes "quote")) e) [] []
    -- a variable, and a primitive
    reference : {s : Option Span} {x : List ℕ} → IsName x → IsExpression (symbol s x) [] (x ∷ [])
    primitive : {s : Option Span} {x : List ℕ} → is_primitive x ≡ true → IsExpression (symbol s x) [] []
    -- (if t c) and (if t c a)
    one_armed : {s t : Option Span} {e : PlainDatum} {bs fs : List (List ℕ)} → AreExpressions 2 e bs fs → IsExpression (pair s (symbol t (codes "if")) e) bs fs
    two_armed : {s t : Option Span} {e : PlainDatum} {bs fs : List (List ℕ)} → AreExpressions 3 e bs fs → IsExpression (pair s (symbol t (codes "if")) e) bs fs
    -- (set! x e)
    assignment : {s t u v : Option Span} {x : List ℕ} {d e : PlainDatum} {bs fs : List (List ℕ)} → IsName x → Is1 e d → IsExpression d bs fs
        → IsExpression (pair s (symbol t (codes "set!")) (pair u (symbol v x) e)) bs (x ∷ fs)
    -- (begin e e ...), of one or more
    sequence : {s t : Option Span} {e : PlainDatum} {n : ℕ} {bs fs : List (List ℕ)} → AreExpressions (suc n) e bs fs
        → IsExpression (pair s (symbol t (codes "begin")) e) bs fs
    -- (lambda formals e)
    lambda : {s t : Option Span} {e f d : PlainDatum} {xs bs fs : List (List ℕ)} → Is2 e f d → IsFormals f xs → IsExpression d bs fs
        → IsExpression (pair s (symbol t (codes "lambda")) e) (xs ++ bs) (without xs fs)
    -- (case-lambda (formals e) ...)
    case_lambda : {s t : Option Span} {e : PlainDatum} {bs fs : List (List ℕ)} → AreCases e bs fs
        → IsExpression (pair s (symbol t (codes "case-lambda")) e) bs fs
    -- (letrec ((x e) ...) e), or letrec*
    letrec : {s t : Option Span} {k : List ℕ} {e i d : PlainDatum} {xs bs fs cs gs : List (List ℕ)} → IsLetrec k → Is2 e i d
        → AreInits i xs bs fs → IsExpression d cs gs
        → IsExpression (pair s (symbol t k) e) (bs ++ cs) (without xs (fs ++ gs))
    -- (operator operand ...)
    application : {s : Option Span} {d e : PlainDatum} {n : ℕ} {bs fs cs gs : List (List ℕ)} → IsExpression d bs fs
        → AreExpressions n e cs gs → IsExpression (pair s d e) (bs ++ cs) (fs ++ gs)

  -- so many expressions, in a list
  pub data AreExpressions : ℕ → PlainDatum → List (List ℕ) → List (List ℕ) → Type 0 where
    no_more : {s : Option Span} → AreExpressions 0 (atom s a.Nil) [] []
    more : {s : Option Span} {n : ℕ} {d e : PlainDatum} {bs fs cs gs : List (List ℕ)} → IsExpression d bs fs → AreExpressions n e cs gs
        → AreExpressions (suc n) (pair s d e) (bs ++ cs) (fs ++ gs)

  -- the names that are bound, and then all binders and what is free
  pub data AreInits : PlainDatum → List (List ℕ) → List (List ℕ) → List (List ℕ) → Type 0 where
    no_init : {s : Option Span} → AreInits (atom s a.Nil) [] [] []
    init : {s t u : Option Span} {x : List ℕ} {e d r : PlainDatum} {xs bs fs cs gs : List (List ℕ)} → IsName x → Is1 e d
        → IsExpression d bs fs → AreInits r xs cs gs
        → AreInits (pair s (pair t (symbol u x) e) r) (x ∷ xs) (x ∷ bs ++ cs) (fs ++ gs)

  pub data AreCases : PlainDatum → List (List ℕ) → List (List ℕ) → Type 0 where
    no_case : {s : Option Span} → AreCases (atom s a.Nil) [] []
    case : {s : Option Span} {c f d r : PlainDatum} {xs bs fs cs gs : List (List ℕ)} → Is2 c f d → IsFormals f xs → IsExpression d bs fs → AreCases r cs gs
        → AreCases (pair s c r) (xs ++ bs ++ cs) (without xs fs ++ gs)
