-- Lists that differ in the spans of their pairs alone are walked alike, and what is no list is refused.
use Rattle.std.proofs.Common.{◌≡◌, ℕ, ◌+◌, ◌≤◌, ◌<◌, zero, suc, Bool, true, false, List, [], ◌∷◌, length, drop, get_or, Option, Some, None, arith, refl, sym, ap, ◌∙◌, cond}
use Rattle.std.specs.Prelude.{IsTrue, ◌==◌, ◌||◌, nat_le, if◌then◌else◌}
use Rattle.base_data.specs.Datum.{PlainDatum, atom, symbol, pair, vector, chain, nil, is_nil, elements, tail_of, proper_elements, symbol_text, atom_of, spanned, is_tail, datum_size}
use Rattle.base_data.specs.declared.atom.Atom.{Atom}
use Rattle.base_data.specs.declared.atom.Atom.TheVariants as a
use Rattle.base_data.specs.declared.span.Span.{Span}
use Rattle.check_verdict.specs.declared.form.Form.{Form}
use Rattle.check_verdict.specs.declared.form.Form.TheVariants as form
use Rattle.check_verdict.specs.declared.survey.Survey.{Survey}
use Rattle.check_verdict.specs.Survey.{Step, on, left, scoped, bound_by, entered, mentioned, defined_by}
use Rattle.check_verdict.specs.Walk.{Operands, is_armed, is_row, by_form, form_of, name_in, with_name_in, init_name, variable, is_itself, is_quotation, is_quoted, formals, last_formal, init_names, expression, expressions, one, assigned, init, procedure, cases, inits, recursive, line_form, definition, is_define}

-- the same list, but for spans of its pairs and of the empty list at its end
pub data Same : PlainDatum → PlainDatum → Type 0 where
  ends : {s t : Option Span} → Same (atom s a.Nil) (atom t a.Nil)
  goes : {s t : Option Span} {d e f : PlainDatum} → Same e f → Same (pair s d e) (pair t d f)

-- a list that ends in the empty list is that of its elements
proper : (d : PlainDatum) → is_nil (tail_of d) ≡ true → Same d (chain (elements d) nil)
proper (atom s a.Nil) h = ends
proper (atom s (a.Bool b)) h = absurd (cc)
proper (atom s (a.Int z)) h = absurd (cc)
proper (atom s (a.Spelt x)) h = absurd (cc)
proper (atom s (a.Char c)) h = absurd (cc)
proper (atom s (a.Str x)) h = absurd (cc)
proper (atom s (a.Bytes ns)) h = absurd (cc)
proper (symbol s x) h = absurd (cc)
proper (pair s d e) h = goes (proper e h)
proper (vector s d) h = absurd (cc)

if_some : {A : Type 0} (t : Bool) (x y : A) → cond t (Some x) None ≡ Some y → (t ≡ true) × (x ≡ y)
if_some true x y e = (refl, some e) where
  some : {A : Type 0} {x y : A} → Some x ≡ Some y → x ≡ y
  some e = cc
if_some false x y e = absurd (cc)

if_none : {A : Type 0} (t : Bool) (x : A) → cond t (Some x) None ≡ None → t ≡ false
if_none true x e = absurd (cc)
if_none false x e = refl

pub listed : (d : PlainDatum) (xs : List PlainDatum) → proper_elements d ≡ Some xs → Same d (chain xs nil)
listed d xs e = let both = if_some (is_nil (tail_of d)) (elements d) xs e in rw (← both.1) (proper d both.0)

pub unlisted : (d : PlainDatum) → proper_elements d ≡ None → is_nil (tail_of d) ≡ false
unlisted d e = if_none (is_nil (tail_of d)) (elements d) e

-- what the walk does with the one it does with the other

same_quotation : {d e : PlainDatum} → Same d e → is_quotation d ≡ is_quotation e
same_quotation ends = refl
same_quotation (goes ends) = refl
same_quotation (goes (goes r)) = refl

same_length : {d e : PlainDatum} → Same d e → length (elements d) ≡ length (elements e)
same_length ends = refl
same_length (goes r) = ap suc (same_length r)

pub on_alike : (o : Option Survey) (f g : Step) → ((s : Survey) → f s ≡ g s) → on o f ≡ on o g
on_alike None f g h = refl
on_alike (Some s) f g h = h s

same_expressions : {d e : PlainDatum} → Same d e → (s : Survey) → expressions d s ≡ expressions e s
same_expressions ends s = refl
same_expressions (goes {d = d} r) s = on_alike (expression d s) _ _ (same_expressions r)

pub name_alike : (o : Option (List ℕ)) (f g : List ℕ → Option Survey) → ((x : List ℕ) → f x ≡ g x) → with_name_in o f ≡ with_name_in o g
name_alike None f g h = refl
name_alike (Some x) f g h = h x

same_one : {d e : PlainDatum} → Same d e → (s : Survey) → one d s ≡ one e s
same_one ends s = refl
same_one (goes ends) s = refl
same_one (goes (goes r)) s = refl

same_assigned : {d e : PlainDatum} → Same d e → (s : Survey) → assigned d s ≡ assigned e s
same_assigned ends s = refl
same_assigned (goes {d = d} r) s = name_alike (name_in d) _ _ (λ x. same_one r (mentioned s x))

pub same_init : {d e : PlainDatum} → Same d e → (s : Survey) → init d s ≡ init e s
same_init ends s = refl
same_init (goes {d = d} r) s = name_alike (name_in d) _ _ (λ x. same_one r (bound_by s x))

scoped_alike : (f g h : Step) (s : Survey) → ((s : Survey) → g s ≡ h s) → scoped f g s ≡ scoped f h s
scoped_alike f g h s same = ap (left (length s.scope)) (on_alike (f s) g h same)

pub same_procedure : {d e : PlainDatum} → Same d e → (s : Survey) → procedure d s ≡ procedure e s
same_procedure ends s = refl
same_procedure (goes {d = d} r) s = scoped_alike (formals d) _ _ s (same_one r)

same_cases : {d e : PlainDatum} → Same d e → (s : Survey) → cases d s ≡ cases e s
same_cases ends s = refl
same_cases (goes {d = d} r) s = on_alike (procedure d s) _ _ (same_cases r)

pub same_init_names : {d e : PlainDatum} → Same d e → (s : Survey) → init_names d s ≡ init_names e s
same_init_names ends s = refl
same_init_names (goes {d = d} r) s = name_alike (init_name d) _ _ (λ x. same_init_names r (entered s x))

pub same_inits : {d e : PlainDatum} → Same d e → (s : Survey) → inits d s ≡ inits e s
same_inits ends s = refl
same_inits (goes {d = d} r) s = on_alike (init d s) _ _ (same_inits r)

same_recursive : {d e : PlainDatum} → Same d e → (s : Survey) → recursive d s ≡ recursive e s
same_recursive ends s = refl
same_recursive (goes {d = d} r) s = scoped_alike (init_names d) _ _ s (λ t. on_alike (inits d t) _ _ (same_one r))

-- the operands of a form
abbrev operands : PlainDatum → PlainDatum → Operands
operands d e = record { armed = is_armed e; row = is_row e; quoted = is_quotation e; operator = expression d; all = expressions e; assigned = assigned e; procedure = procedure e; cases = cases e; recursive = recursive e }

pub forms_alike : (k : Form) (o p : Operands) (s : Survey) → o.armed ≡ p.armed → o.row ≡ p.row → o.quoted ≡ p.quoted → o.operator ≡ p.operator → ((s : Survey) → o.all s ≡ p.all s) → ((s : Survey) → o.assigned s ≡ p.assigned s)
    → ((s : Survey) → o.procedure s ≡ p.procedure s) → ((s : Survey) → o.cases s ≡ p.cases s) → ((s : Survey) → o.recursive s ≡ p.recursive s) → by_form k o s ≡ by_form k p s
forms_alike form.Quote o p s m n q f g h i j k = rw q refl
forms_alike form.If o p s m n q f g h i j k = rw (m, g s) refl
forms_alike form.Assignment o p s m n q f g h i j k = h s
forms_alike form.Sequence o p s m n q f g h i j k = rw (n, g s) refl
forms_alike form.Lambda o p s m n q f g h i j k = i s
forms_alike form.CaseLambda o p s m n q f g h i j k = j s
forms_alike form.Letrec o p s m n q f g h i j k = k s
forms_alike form.Application o p s m n q f g h i j k = ap (λ (r : Step). on (r s) o.all) f ∙ on_alike (p.operator s) o.all p.all g

pub same_expression : {d e : PlainDatum} → Same d e → (s : Survey) → expression d s ≡ expression e s
same_expression ends s = refl
same_expression (goes {d = d} {e = e} {f = f} r) s =
    forms_alike (form_of d) (operands d e) (operands d f) s (ap (λ n. n == 2 || n == 3) (same_length r)) (ap (λ n. nat_le 1 n) (same_length r)) (same_quotation r) refl (same_expressions r) (same_assigned r) (same_procedure r) (same_cases r) (same_recursive r)

-- what is no list is refused

nil_false : (b : Bool) (s : Survey) → b ≡ false → cond b (Some s) None ≡ None
nil_false true s e = absurd (cc)
nil_false false s e = refl

on_none : (o : Option Survey) (f : Step) → ((s : Survey) → f s ≡ None) → on o f ≡ None
on_none None f h = refl
on_none (Some s) f h = h s

name_none : (o : Option (List ℕ)) (f : List ℕ → Option Survey) → ((x : List ℕ) → f x ≡ None) → with_name_in o f ≡ None
name_none None f h = refl
name_none (Some x) f h = h x

no_quotation : (d : PlainDatum) → is_nil (tail_of d) ≡ false → is_quotation d ≡ false
no_quotation (atom t c) h = refl
no_quotation (symbol t x) h = refl
no_quotation (pair t d (atom u c)) h = rw h refl
no_quotation (pair t d (symbol u x)) h = refl
no_quotation (pair t d (pair u e f)) h = refl
no_quotation (pair t d (vector u e)) h = refl
no_quotation (vector t d) h = refl

no_expressions : (d : PlainDatum) → is_nil (tail_of d) ≡ false → (s : Survey) → expressions d s ≡ None
no_expressions (atom t c) h s = nil_false _ s h
no_expressions (symbol t x) h s = refl
no_expressions (pair t d e) h s = on_none (expression d s) (expressions e) (no_expressions e h)
no_expressions (vector t d) h s = refl

no_one : (d : PlainDatum) → is_nil (tail_of d) ≡ false → (s : Survey) → one d s ≡ None
no_one (atom t c) h s = refl
no_one (symbol t x) h s = refl
no_one (pair t d (atom u c)) h s = rw h refl
no_one (pair t d (symbol u x)) h s = refl
no_one (pair t d (pair u e f)) h s = refl
no_one (pair t d (vector u e)) h s = refl
no_one (vector t d) h s = refl

no_assigned : (d : PlainDatum) → is_nil (tail_of d) ≡ false → (s : Survey) → assigned d s ≡ None
no_assigned (atom t c) h s = refl
no_assigned (symbol t x) h s = refl
no_assigned (pair t d e) h s = name_none (name_in d) _ (λ x. no_one e h (mentioned s x))
no_assigned (vector t d) h s = refl

pub no_init : (d : PlainDatum) → is_nil (tail_of d) ≡ false → (s : Survey) → init d s ≡ None
no_init (atom t c) h s = refl
no_init (symbol t x) h s = refl
no_init (pair t d e) h s = name_none (name_in d) _ (λ x. no_one e h (bound_by s x))
no_init (vector t d) h s = refl

scoped_none : (f g : Step) (s : Survey) → ((s : Survey) → g s ≡ None) → scoped f g s ≡ None
scoped_none f g s h = ap (left (length s.scope)) (on_none (f s) g h)

pub no_procedure : (d : PlainDatum) → is_nil (tail_of d) ≡ false → (s : Survey) → procedure d s ≡ None
no_procedure (atom t c) h s = refl
no_procedure (symbol t x) h s = refl
no_procedure (pair t d e) h s = scoped_none (formals d) (one e) s (no_one e h)
no_procedure (vector t d) h s = refl

no_cases : (d : PlainDatum) → is_nil (tail_of d) ≡ false → (s : Survey) → cases d s ≡ None
no_cases (atom t c) h s = nil_false _ s h
no_cases (symbol t x) h s = refl
no_cases (pair t d e) h s = on_none (procedure d s) (cases e) (no_cases e h)
no_cases (vector t d) h s = refl

pub no_init_names : (d : PlainDatum) → is_nil (tail_of d) ≡ false → (s : Survey) → init_names d s ≡ None
no_init_names (atom t c) h s = nil_false _ s h
no_init_names (symbol t x) h s = refl
no_init_names (pair t d e) h s = name_none (init_name d) _ (λ x. no_init_names e h (entered s x))
no_init_names (vector t d) h s = refl

pub no_inits : (d : PlainDatum) → is_nil (tail_of d) ≡ false → (s : Survey) → inits d s ≡ None
no_inits (atom t c) h s = nil_false _ s h
no_inits (symbol t x) h s = refl
no_inits (pair t d e) h s = on_none (init d s) (inits e) (no_inits e h)
no_inits (vector t d) h s = refl

no_recursive : (d : PlainDatum) → is_nil (tail_of d) ≡ false → (s : Survey) → recursive d s ≡ None
no_recursive (atom t c) h s = refl
no_recursive (symbol t x) h s = refl
no_recursive (pair t d e) h s = scoped_none (init_names d) (λ t. on (inits d t) (one e)) s (λ t. on_none (inits d t) (one e) (no_one e h))
no_recursive (vector t d) h s = refl

either : (b : Bool) (o : Option Survey) → o ≡ None → cond b o None ≡ None
either true o e = e
either false o e = refl

no_form : (k : Form) (o : Operands) (s : Survey) → o.quoted ≡ false → ((s : Survey) → o.all s ≡ None) → ((s : Survey) → o.assigned s ≡ None)
    → ((s : Survey) → o.procedure s ≡ None) → ((s : Survey) → o.cases s ≡ None) → ((s : Survey) → o.recursive s ≡ None) → by_form k o s ≡ None
no_form form.Quote o s q g h i j k = rw q refl
no_form form.If o s q g h i j k = either _ (o.all s) (g s)
no_form form.Assignment o s q g h i j k = h s
no_form form.Sequence o s q g h i j k = either _ (o.all s) (g s)
no_form form.Lambda o s q g h i j k = i s
no_form form.CaseLambda o s q g h i j k = j s
no_form form.Letrec o s q g h i j k = k s
no_form form.Application o s q g h i j k = on_none (o.operator s) o.all g

no_pair : (s : Option Span) (d e : PlainDatum) → is_nil (tail_of e) ≡ false → (r : Survey) → expression (pair s d e) r ≡ None
no_pair s d e h r = no_form (form_of d) (operands d e) r (no_quotation e h) (no_expressions e h) (no_assigned e h) (no_procedure e h) (no_cases e h) (no_recursive e h)

-- an expression by what it is

pub by_symbol : (d : PlainDatum) (x : List ℕ) → symbol_text d ≡ Some x → (s : Survey) → expression d s ≡ variable x s
by_symbol (atom t c) x e s = absurd (cc)
by_symbol (symbol t y) x e s = ap (λ (w : List ℕ). variable w s) (some e) where
  some : {x y : List ℕ} → Some x ≡ Some y → x ≡ y
  some e = cc
by_symbol (pair t d f) x e s = absurd (cc)
by_symbol (vector t d) x e s = absurd (cc)

pub by_list : (d : PlainDatum) (xs : List PlainDatum) → proper_elements d ≡ Some xs → (s : Survey) → expression d s ≡ expression (chain xs nil) s
by_list d xs e s = same_expression (listed d xs e) s

abbrev itself : Option Atom → Survey → Option Survey
itself None s = None
itself (Some c) s = if is_itself c then Some s else None

pub by_atom : (d : PlainDatum) → symbol_text d ≡ None → proper_elements d ≡ None → (s : Survey) → expression d s ≡ itself (atom_of d) s
by_atom (atom t c) h e s = refl
by_atom (symbol t x) h e s = absurd (cc)
by_atom (pair t d f) h e s = no_pair t d f (unlisted (pair t d f) e) s
by_atom (vector t d) h e s = refl

pub by_no_atom : (d : PlainDatum) → symbol_text d ≡ None → proper_elements d ≡ None → atom_of d ≡ None → (s : Survey) → expression d s ≡ None
by_no_atom d h e f s = by_atom d h e s ∙ ap (λ (c : Option Atom). itself c s) f

-- sizes

size_some : (d : PlainDatum) → 1 ≤ datum_size d
size_some (atom s c) = omega arith
size_some (symbol s x) = omega arith
size_some (pair s d e) = omega arith
size_some (vector s d) = omega arith

same_size : {d e : PlainDatum} → Same d e → datum_size d ≡ datum_size e
same_size ends = refl
same_size (goes {d = d} r) = ap (λ n. suc (datum_size d + n)) (same_size r)

pub listed_size : (d : PlainDatum) (xs : List PlainDatum) → proper_elements d ≡ Some xs → datum_size (chain xs nil) ≤ datum_size d
listed_size d xs e = omega (arith, same_size (listed d xs e))

-- an element is smaller than all elements together
pub item_below : (ds : List PlainDatum) (i : ℕ) (d : PlainDatum) → i < length ds → datum_size (get_or ds i d) < datum_size (chain ds nil)
item_below [] i d h = absurd (omega arith)
item_below (e ∷ es) zero d h = omega (arith, size_some (chain es nil))
item_below (e ∷ es) (suc i) d h = omega (arith, item_below es i d (omega arith))

-- lines

same_definition : {d e : PlainDatum} → Same d e → (s : Survey) → definition d s ≡ definition e s
same_definition ends s = refl
same_definition (goes {d = d} r) s = name_alike (name_in d) _ _ (λ x. same_one r (defined_by s x))

on_both : (b : Bool) {o p q r : Option Survey} → o ≡ p → q ≡ r → cond b o q ≡ cond b p r
on_both true f g = f
on_both false f g = g

pub same_line : {d e : PlainDatum} → Same d e → (s : Survey) → line_form d s ≡ line_form e s
same_line ends s = refl
same_line (goes {s = u} {t = v} {d = d} {e = e} {f = f} r) s = on_both (is_define (symbol_text d)) (same_definition r s) (same_expression (goes {s = u} {t = v} {d = d} r) s)

no_definition : (d : PlainDatum) → is_nil (tail_of d) ≡ false → (s : Survey) → definition d s ≡ None
no_definition (atom t c) h s = refl
no_definition (symbol t x) h s = refl
no_definition (pair t d e) h s = name_none (name_in d) _ (λ x. no_one e h (defined_by s x))
no_definition (vector t d) h s = refl

-- what is no list defines nothing
pub by_no_list : (d : PlainDatum) → proper_elements d ≡ None → (s : Survey) → line_form d s ≡ expression d s
by_no_list (atom t c) e s = refl
by_no_list (symbol t x) e s = refl
by_no_list (pair t d f) e s =
    let h = unlisted (pair t d f) e in
    either (is_define (symbol_text d)) (no_definition f h s) (no_pair t d f h s)
  where
    either : (b : Bool) → definition f s ≡ None → expression (pair t d f) s ≡ None → cond b (definition f s) (expression (pair t d f) s) ≡ expression (pair t d f) s
    either true p q = p ∙ sym q
    either false p q = refl
by_no_list (vector t d) e s = refl

-- how many data stand in memory

pub chain_length : (xs : List PlainDatum) → length (elements (chain xs nil)) ≡ length xs
chain_length [] = refl
chain_length (x ∷ xs) = ap suc (chain_length xs)

pub long_quotation : (xs : List PlainDatum) → 2 ≤ length xs → is_quotation (chain xs nil) ≡ false
long_quotation [] h = absurd (omega arith)
long_quotation (x ∷ []) h = absurd (omega arith)
long_quotation (x ∷ y ∷ xs) h = refl

pub long_one : (xs : List PlainDatum) → 2 ≤ length xs → (s : Survey) → one (chain xs nil) s ≡ None
long_one [] h s = refl
long_one (x ∷ []) h s = absurd (omega arith)
long_one (x ∷ y ∷ xs) h s = refl

-- formals in memory

same_formals : (s : Option Span) (d : PlainDatum) (r : Survey) → formals (spanned s d) r ≡ formals d r
same_formals s (atom t c) r = refl
same_formals s (symbol t x) r = refl
same_formals s (pair t d e) r = refl
same_formals s (vector t d) r = refl

pub tail_formals : (d : PlainDatum) → IsTrue (is_tail d) → (s : Survey) → formals d s ≡ last_formal d s
tail_formals (atom t a.Nil) h s = refl
tail_formals (atom t (a.Bool b)) h s = refl
tail_formals (atom t (a.Int z)) h s = refl
tail_formals (atom t (a.Spelt x)) h s = refl
tail_formals (atom t (a.Char c)) h s = refl
tail_formals (atom t (a.Str x)) h s = refl
tail_formals (atom t (a.Bytes ns)) h s = refl
tail_formals (symbol t x) h s = refl
tail_formals (pair t d e) h s = absurd (cc)
tail_formals (vector t d) h s = refl

pub listed_formals : (s : Option Span) (ds : List PlainDatum) (t d : PlainDatum) → spanned s (chain ds t) ≡ d → (r : Survey) → formals d r ≡ formals (chain ds t) r
listed_formals s ds t d e r = rw (← e) (same_formals s (chain ds t) r)
