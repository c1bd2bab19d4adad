-- The walk over a form doesn't see spans.
use Rattle.std.proofs.Common.{◌≡◌, ℕ, suc, List, length, Option, None, refl, ap, ◌∙◌, cond}
use Rattle.std.specs.Prelude.{◌==◌, ◌||◌, ◌&&◌, nat_le}
use Rattle.base_data.specs.Datum.{PlainDatum, atom, symbol, pair, vector, unspanned, is_nil, elements, symbol_text}
use Rattle.check_verdict.specs.Survey.{Step, on, left, bound_by, entered, mentioned, defined_by}
use Rattle.check_verdict.specs.Walk.{Operands, is_armed, is_row, is_quotation, is_quoted, by_form, form_by, form_of, name_in, with_name_in, init_name, formal, formals, init_names, expression, expressions, one, assigned, init, procedure, cases, inits, recursive, definition, is_define, line_form}
use Rattle.check_verdict.specs.declared.survey.Survey.{Survey}
use Rattle.check_verdict.proofs.Same.{on_alike, name_alike, forms_alike}

bare_symbol : (d : PlainDatum) → symbol_text (unspanned d) ≡ symbol_text d
bare_symbol (atom t c) = refl
bare_symbol (symbol t x) = refl
bare_symbol (pair t d e) = refl
bare_symbol (vector t d) = refl

bare_nil : (d : PlainDatum) → is_nil (unspanned d) ≡ is_nil d
bare_nil (atom t c) = refl
bare_nil (symbol t x) = refl
bare_nil (pair t d e) = refl
bare_nil (vector t d) = refl

bare_length : (d : PlainDatum) → length (elements (unspanned d)) ≡ length (elements d)
bare_length (atom t c) = refl
bare_length (symbol t x) = refl
bare_length (pair t d e) = λ i. suc (bare_length e i)
bare_length (vector t d) = refl

bare_quoted : (d : PlainDatum) → is_quoted (unspanned d) ≡ is_quoted d
bare_quoted (atom t c) = refl
bare_quoted (symbol t x) = refl
bare_quoted (pair t d e) = refl
bare_quoted (vector t d) = refl

bare_quotation : (d : PlainDatum) → is_quotation (unspanned d) ≡ is_quotation d
bare_quotation (atom t c) = refl
bare_quotation (symbol t x) = refl
bare_quotation (pair t d e) = λ i. bare_nil e i && bare_quoted d i
bare_quotation (vector t d) = refl

bare_name : (d : PlainDatum) → name_in (unspanned d) ≡ name_in d
bare_name (atom t c) = refl
bare_name (symbol t x) = refl
bare_name (pair t d e) = refl
bare_name (vector t d) = refl

bare_first : (d : PlainDatum) → init_name (unspanned d) ≡ init_name d
bare_first (atom t c) = refl
bare_first (symbol t x) = refl
bare_first (pair t d e) = bare_name d
bare_first (vector t d) = refl

named_both : {o p : Option (List ℕ)} → o ≡ p → (f g : List ℕ → Option Survey) → ((x : List ℕ) → f x ≡ g x) → with_name_in o f ≡ with_name_in p g
named_both {p = p} e f g h = ap (λ (q : Option (List ℕ)). with_name_in q f) e ∙ name_alike p f g h

on_both_steps : {o p : Option Survey} → o ≡ p → (f g : Step) → ((s : Survey) → f s ≡ g s) → on o f ≡ on p g
on_both_steps {p = p} e f g h = ap (λ (q : Option Survey). on q f) e ∙ on_alike p f g h

bare_formals : (d : PlainDatum) (s : Survey) → formals (unspanned d) s ≡ formals d s
bare_formals (atom t c) s = refl
bare_formals (symbol t x) s = refl
bare_formals (pair t d e) s = named_both (bare_name d) (λ x. formals (unspanned e) (formal s x)) (λ x. formals e (formal s x)) (λ x. bare_formals e (formal s x))
bare_formals (vector t d) s = refl

bare_init_names : (d : PlainDatum) (s : Survey) → init_names (unspanned d) s ≡ init_names d s
bare_init_names (atom t c) s = refl
bare_init_names (symbol t x) s = refl
bare_init_names (pair t d e) s = named_both (bare_first d) (λ x. init_names (unspanned e) (entered s x)) (λ x. init_names e (entered s x)) (λ x. bare_init_names e (entered s x))
bare_init_names (vector t d) s = refl

abbrev operands : PlainDatum → PlainDatum → Operands
operands d e = record { armed = is_armed e; row = is_row e; quoted = is_quotation e; operator = expression d; all = expressions e; assigned = assigned e; procedure = procedure e; cases = cases e; recursive = recursive e }

mutual
  pub bare_expression : (d : PlainDatum) (s : Survey) → expression (unspanned d) s ≡ expression d s
  bare_expression (atom t c) s = refl
  bare_expression (symbol t x) s = refl
  bare_expression (pair t d e) s =
      ap (λ (x : Option (List ℕ)). by_form (form_by x) (operands (unspanned d) (unspanned e)) s) (bare_symbol d)
      ∙ forms_alike (form_of d) (operands (unspanned d) (unspanned e)) (operands d e) s (ap (λ n. n == 2 || n == 3) (bare_length e)) (ap (λ n. nat_le 1 n) (bare_length e)) (bare_quotation e) (λ i r. bare_expression d r i)
      (bare_expressions e) (bare_assigned e) (bare_procedure e) (bare_cases e) (bare_recursive e)
  bare_expression (vector t d) s = refl

  bare_expressions : (d : PlainDatum) (s : Survey) → expressions (unspanned d) s ≡ expressions d s
  bare_expressions (atom t c) s = refl
  bare_expressions (symbol t x) s = refl
  bare_expressions (pair t d e) s = on_both_steps (bare_expression d s) (expressions (unspanned e)) (expressions e) (bare_expressions e)
  bare_expressions (vector t d) s = refl

  bare_one : (d : PlainDatum) (s : Survey) → one (unspanned d) s ≡ one d s
  bare_one (atom t c) s = refl
  bare_one (symbol t x) s = refl
  bare_one (pair t d e) s = λ i. cond (bare_nil e i) (bare_expression d s i) None
  bare_one (vector t d) s = refl

  bare_assigned : (d : PlainDatum) (s : Survey) → assigned (unspanned d) s ≡ assigned d s
  bare_assigned (atom t c) s = refl
  bare_assigned (symbol t x) s = refl
  bare_assigned (pair t d e) s = named_both (bare_name d) (λ x. one (unspanned e) (mentioned s x)) (λ x. one e (mentioned s x)) (λ x. bare_one e (mentioned s x))
  bare_assigned (vector t d) s = refl

  bare_init : (d : PlainDatum) (s : Survey) → init (unspanned d) s ≡ init d s
  bare_init (atom t c) s = refl
  bare_init (symbol t x) s = refl
  bare_init (pair t d e) s = named_both (bare_name d) (λ x. one (unspanned e) (bound_by s x)) (λ x. one e (bound_by s x)) (λ x. bare_one e (bound_by s x))
  bare_init (vector t d) s = refl

  bare_procedure : (d : PlainDatum) (s : Survey) → procedure (unspanned d) s ≡ procedure d s
  bare_procedure (atom t c) s = refl
  bare_procedure (symbol t x) s = refl
  bare_procedure (pair t d e) s = ap (left (length s.scope)) (on_both_steps (bare_formals d s) (one (unspanned e)) (one e) (bare_one e))
  bare_procedure (vector t d) s = refl

  bare_cases : (d : PlainDatum) (s : Survey) → cases (unspanned d) s ≡ cases d s
  bare_cases (atom t c) s = refl
  bare_cases (symbol t x) s = refl
  bare_cases (pair t d e) s = on_both_steps (bare_procedure d s) (cases (unspanned e)) (cases e) (bare_cases e)
  bare_cases (vector t d) s = refl

  bare_inits : (d : PlainDatum) (s : Survey) → inits (unspanned d) s ≡ inits d s
  bare_inits (atom t c) s = refl
  bare_inits (symbol t x) s = refl
  bare_inits (pair t d e) s = on_both_steps (bare_init d s) (inits (unspanned e)) (inits e) (bare_inits e)
  bare_inits (vector t d) s = refl

  bare_recursive : (d : PlainDatum) (s : Survey) → recursive (unspanned d) s ≡ recursive d s
  bare_recursive (atom t c) s = refl
  bare_recursive (symbol t x) s = refl
  bare_recursive (pair t d e) s =
      ap (left (length s.scope))
      (on_both_steps (bare_init_names d s) (λ r. on (inits (unspanned d) r) (one (unspanned e))) (λ r. on (inits d r) (one e)) (λ r. on_both_steps (bare_inits d r) (one (unspanned e)) (one e) (bare_one e)))
  bare_recursive (vector t d) s = refl

bare_definition : (d : PlainDatum) (s : Survey) → definition (unspanned d) s ≡ definition d s
bare_definition (atom t c) s = refl
bare_definition (symbol t x) s = refl
bare_definition (pair t d e) s = named_both (bare_name d) (λ x. one (unspanned e) (defined_by s x)) (λ x. one e (defined_by s x)) (λ x. bare_one e (defined_by s x))
bare_definition (vector t d) s = refl

pub bare_line : (d : PlainDatum) (s : Survey) → line_form (unspanned d) s ≡ line_form d s
bare_line (atom t c) s = refl
bare_line (symbol t x) s = refl
bare_line (pair t d e) s = λ i. cond (is_define (bare_symbol d i)) (bare_definition e s i) (bare_expression (pair t d e) s i)
bare_line (vector t d) s = refl
