-- The walk over a form: it goes on where the form is one of core text, and keeps the names on its way.
use Rattle.std.specs.Prelude.{ℕ, Bool, true, false, ◌==◌, ◌||◌, ◌&&◌, nat_le, length, List, Option, None, Some, if◌then◌else◌, codes}
use Rattle.std.specs.Str.{bytes_eq}
use Rattle.base_data.specs.Datum.{PlainDatum, atom, symbol, pair, vector, symbol_text, elements, first_of, is_nil}
use Rattle.base_data.specs.declared.atom.Atom.{Atom}
use Rattle.base_data.specs.declared.atom.Atom.TheVariants as a
use Rattle.check_verdict.specs.declared.form.Form.{Form}
use Rattle.check_verdict.specs.declared.form.Form.TheVariants as form
use Rattle.check_verdict.specs.declared.survey.Survey.{Survey}
use Rattle.check_verdict.specs.Survey.{Step, refused, on, entered, bound_by, mentioned, defined_by, scoped}
use Rattle.check_grammar.specs.Primitives.{is_primitive}
use Rattle.check_grammar.specs.Scan.{is_name}

abbrev pub form_named : List ℕ → Form
form_named x = if bytes_eq x (codes "quote") then form.Quote else if bytes_eq x (codes "if") then form.If
    else if bytes_eq x (codes "set!") then form.Assignment else if bytes_eq x (codes "begin") then form.Sequence
    else if bytes_eq x (codes "lambda") then form.Lambda else if bytes_eq x (codes "case-lambda") then form.CaseLambda
    else if bytes_eq x (codes "letrec") then form.Letrec else if bytes_eq x (codes "letrec*") then form.Letrec else form.Application

abbrev pub form_by : Option (List ℕ) → Form
form_by None = form.Application
form_by (Some x) = form_named x

-- the form that a list with this head is
abbrev pub form_of : PlainDatum → Form
form_of d = form_by (symbol_text d)

abbrev pub if_name : Option (List ℕ) → Option (List ℕ)
if_name None = None
if_name (Some x) = if is_name x then Some x else None

-- the name that a datum is
abbrev pub name_in : PlainDatum → Option (List ℕ)
name_in d = if_name (symbol_text d)

abbrev pub with_name_in : Option (List ℕ) → (List ℕ → Option Survey) → Option Survey
with_name_in None f = None
with_name_in (Some x) f = f x

abbrev pub variable : List ℕ → Step
variable x s = if is_name x then Some (mentioned s x) else if is_primitive x then Some s else None

abbrev pub is_itself : Atom → Bool
is_itself a.Nil = false
is_itself (a.Bool b) = true
is_itself (a.Int z) = true
is_itself (a.Spelt x) = true
is_itself (a.Char c) = true
is_itself (a.Str x) = true
is_itself (a.Bytes ns) = true

abbrev pub is_quoted : PlainDatum → Bool
is_quoted (atom t c) = is_nil (atom t c)
is_quoted (symbol t x) = true
is_quoted (pair t d e) = true
is_quoted (vector t d) = true

-- a list of one datum that is quoted
abbrev pub is_quotation : PlainDatum → Bool
is_quotation (atom t c) = false
is_quotation (symbol t x) = false
is_quotation (pair t d e) = is_nil e && is_quoted d
is_quotation (vector t d) = false

-- a formal is bound, and in scope from here
abbrev pub formal : Survey → List ℕ → Survey
formal s x = bound_by (entered s x) x

abbrev pub formals : PlainDatum → Step
formals (atom t c) s = if is_nil (atom t c) then Some s else None
formals (symbol t x) s = with_name_in (name_in (symbol t x)) (λ y. Some (formal s y))
formals (pair t d e) s = with_name_in (name_in d) (λ x. formals e (formal s x))
formals (vector t d) s = None

-- the end of formals: nothing, or the name of the rest
abbrev pub last_formal : PlainDatum → Step
last_formal d s = if is_nil d then Some s else with_name_in (name_in d) (λ x. Some (formal s x))

abbrev pub name_by : Option PlainDatum → Option (List ℕ)
name_by None = None
name_by (Some d) = name_in d

-- the name that a pair of a name and an expression begins with
abbrev pub init_name : PlainDatum → Option (List ℕ)
init_name d = name_by (first_of d)

-- the names of such pairs are in scope from here
abbrev pub init_names : PlainDatum → Step
init_names (atom t c) s = if is_nil (atom t c) then Some s else None
init_names (symbol t x) s = None
init_names (pair t d e) s = with_name_in (init_name d) (λ x. init_names e (entered s x))
init_names (vector t d) s = None

-- as many data as `if` takes, and as a sequence has: one or more
abbrev pub is_armed : PlainDatum → Bool
is_armed e = length (elements e) == 2 || length (elements e) == 3

abbrev pub is_row : PlainDatum → Bool
is_row e = nat_le 1 (length (elements e))

-- what may stand behind the head of a form
pub record Operands : Type 0 where
  pub armed : Bool
  pub row : Bool
  pub quoted : Bool
  pub operator : Step
  pub all : Step
  pub assigned : Step
  pub procedure : Step
  pub cases : Step
  pub recursive : Step

abbrev pub by_form : Form → Operands → Step
by_form form.Quote o s = if o.quoted then Some s else None
by_form form.If o s = if o.armed then o.all s else None
by_form form.Assignment o s = o.assigned s
by_form form.Sequence o s = if o.row then o.all s else None
by_form form.Lambda o s = o.procedure s
by_form form.CaseLambda o s = o.cases s
by_form form.Letrec o s = o.recursive s
by_form form.Application o s = on (o.operator s) o.all

abbrev mutual
  pub expression : PlainDatum → Step
  expression (atom t c) s = if is_itself c then Some s else None
  expression (symbol t x) s = variable x s
  expression (pair t d e) s = by_form (form_of d)
      (record {
        armed = is_armed e;
        row = is_row e;
        quoted = is_quotation e;
        operator = expression d;
        all = expressions e;
        assigned = assigned e;
        procedure = procedure e;
        cases = cases e;
        recursive = recursive e;
      }) s
  expression (vector t d) s = None

  -- each expression of a list
  pub expressions : PlainDatum → Step
  expressions (atom t c) s = if is_nil (atom t c) then Some s else None
  expressions (symbol t x) s = None
  expressions (pair t d e) s = on (expression d s) (expressions e)
  expressions (vector t d) s = None

  -- the one expression of a list
  pub one : PlainDatum → Step
  one (atom t c) s = None
  one (symbol t x) s = None
  one (pair t d e) s = if is_nil e then expression d s else None
  one (vector t d) s = None

  -- x e, where x is mentioned
  pub assigned : PlainDatum → Step
  assigned (atom t c) s = None
  assigned (symbol t x) s = None
  assigned (pair t d e) s = with_name_in (name_in d) (λ x. one e (mentioned s x))
  assigned (vector t d) s = None

  -- x e, where x is bound
  pub init : PlainDatum → Step
  init (atom t c) s = None
  init (symbol t x) s = None
  init (pair t d e) s = with_name_in (name_in d) (λ x. one e (bound_by s x))
  init (vector t d) s = None

  -- formals e
  pub procedure : PlainDatum → Step
  procedure (atom t c) s = None
  procedure (symbol t x) s = None
  procedure (pair t d e) s = scoped (formals d) (one e) s
  procedure (vector t d) s = None

  pub cases : PlainDatum → Step
  cases (atom t c) s = if is_nil (atom t c) then Some s else None
  cases (symbol t x) s = None
  cases (pair t d e) s = on (procedure d s) (cases e)
  cases (vector t d) s = None

  pub inits : PlainDatum → Step
  inits (atom t c) s = if is_nil (atom t c) then Some s else None
  inits (symbol t x) s = None
  inits (pair t d e) s = on (init d s) (inits e)
  inits (vector t d) s = None

  -- ((x e) ...) e
  pub recursive : PlainDatum → Step
  recursive (atom t c) s = None
  recursive (symbol t x) s = None
  recursive (pair t d e) s = scoped (init_names d) (λ r. on (inits d r) (one e)) s
  recursive (vector t d) s = None

-- x e, where x is defined
abbrev pub definition : PlainDatum → Step
definition (atom t c) s = None
definition (symbol t x) s = None
definition (pair t d e) s = with_name_in (name_in d) (λ x. one e (defined_by s x))
definition (vector t d) s = None

abbrev pub is_define : Option (List ℕ) → Bool
is_define None = false
is_define (Some x) = bytes_eq x (codes "define")

abbrev pub line_form : PlainDatum → Step
line_form (atom t c) s = expression (atom t c) s
line_form (symbol t x) s = expression (symbol t x) s
line_form (pair t d e) s = if is_define (symbol_text d) then definition e s else expression (pair t d e) s
line_form (vector t d) s = None
