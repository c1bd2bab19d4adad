-- The walk goes over exactly the forms of the grammar, and leaves behind what their names tell.
use Rattle.std.proofs.Common.{◌≡◌, ℕ, zero, suc, ◌+◌, ◌≤◌, Bool, true, false, List, [], ◌∷◌, ◌++◌, length, take, Option, Some, None, refl, sym, ap, subst, ◌∙◌, cond, arith, append_assoc}
use Rattle.std.proofs.lemmas.Bool.{eqb-true}
use Rattle.std.proofs.lemmas.Bool.Decides.{nat_tests}
use Rattle.std.specs.Prelude.{◌||◌, ◌&&◌, ◌==◌, nat_le, codes, if◌then◌else◌}
use Rattle.std.specs.Cmp.Lexicographic.{pointwise, bytes_decides}
use Rattle.std.specs.List.{list_any}
use Rattle.std.specs.Str.{bytes_eq}
use Rattle.base_data.specs.Datum.{PlainDatum, atom, symbol, pair, vector, is_nil, elements, symbol_text}
use Rattle.base_data.specs.Op.{op_named, place_from}
use Rattle.base_data.specs.OpNames.{op_names}
use Rattle.base_data.specs.declared.atom.Atom.{Atom}
use Rattle.base_data.specs.declared.atom.Atom.TheVariants as a
use Rattle.base_data.specs.declared.span.Span.{Span}
use Rattle.check_verdict.specs.declared.form.Form.{Form}
use Rattle.check_verdict.specs.declared.form.Form.TheVariants as form
use Rattle.check_verdict.specs.declared.survey.Survey.{Survey}
use Rattle.check_verdict.specs.Survey.{Step, on, left, scoped, bound_by, entered, mentioned, defined_by}
use Rattle.check_verdict.specs.Walk.{Operands, is_armed, is_row, by_form, form_of, form_named, name_in, if_name, with_name_in, name_by, init_name, variable, is_itself, is_quotation, is_quoted, formal, formals, init_names, expression, expressions, one, assigned, init, procedure, cases, inits, recursive, line_form, definition, is_define}
use Rattle.check_verdict.proofs.Effects.{branch, with_names, second_of, free_of, after, taken, scoping, after_append, names_append, second_append, free_without, kept}
use Rattle.check_grammar.specs.Forms as f
use Rattle.check_grammar.specs.Forms.{IsItself, IsQuoted, IsFormals, Is1, Is2, IsLetrec, IsExpression, AreExpressions, AreInits, AreCases, without}
use Rattle.check_grammar.specs.Lines as lines
use Rattle.check_grammar.specs.Lines.{IsLineForm}
use Rattle.check_grammar.specs.Names.{IsName, NamesAreScanned}
use Rattle.check_grammar.specs.Primitives.{is_primitive, is_value}
use Rattle.check_grammar.specs.Scan.{is_name, is_end, scanned}
use Rattle.check_grammar.specs.declared.names.NamePlace.{NamePlace}
use Rattle.check_grammar.specs.declared.names.NamePlace.TheVariants.{Nowhere}

abbrev Words : Type 0
Words = List (List ℕ)

some_is : {A : Type 0} {x y : A} → Some x ≡ Some y → x ≡ y
some_is e = cc

none_some : {A : Type 0} {x : A} {B : Type 0} → None ≡ Some x → B
none_some e = absurd (cc)

same_text : (x y : List ℕ) → bytes_eq x y ≡ true → x ≡ y
same_text x y h = (bytes_decides x y).0 h

-- behind a refusal comes nothing
record Went (o : Option Survey) (f : Step) (r : Survey) : Type 0 where
  mid : Survey
  first : o ≡ Some mid
  second : f mid ≡ Some r

went : (o : Option Survey) (f : Step) (r : Survey) → on o f ≡ Some r → Went o f r
went None f r e = none_some e
went (Some s) f r e = record { mid = s; first = refl; second = e }

record Named (o : Option (List ℕ)) (f : List ℕ → Option Survey) (r : Survey) : Type 0 where
  name : List ℕ
  is : o ≡ Some name
  goes : f name ≡ Some r

named : (o : Option (List ℕ)) (f : List ℕ → Option Survey) (r : Survey) → with_name_in o f ≡ Some r → Named o f r
named None f r e = none_some e
named (Some x) f r e = record { name = x; is = refl; goes = e }

-- the end of a list
nil_is : (t : Option Span) (c : Atom) → is_nil (atom t c) ≡ true → c ≡ a.Nil
nil_is t a.Nil h = refl
nil_is t (a.Bool b) h = absurd (cc)
nil_is t (a.Int z) h = absurd (cc)
nil_is t (a.Spelt x) h = absurd (cc)
nil_is t (a.Char c) h = absurd (cc)
nil_is t (a.Str x) h = absurd (cc)
nil_is t (a.Bytes ns) h = absurd (cc)

record Stayed (b : Bool) (s r : Survey) : Type 0 where
  holds : b ≡ true
  same : r ≡ s

stayed : (b : Bool) (s r : Survey) → cond b (Some s) None ≡ Some r → Stayed b s r
stayed true s r e = record { holds = refl; same = sym (some_is e) }
stayed false s r e = none_some e

if_so : (b : Bool) (s : Survey) → b ≡ true → cond b (Some s) None ≡ Some s
if_so true s h = refl
if_so false s h = absurd (cc)

record Tested (b : Bool) (o : Option Survey) (r : Survey) : Type 0 where
  holds : b ≡ true
  goes : o ≡ Some r

tested : (b : Bool) (o : Option Survey) (r : Survey) → cond b o None ≡ Some r → Tested b o r
tested true o r e = record { holds = refl; goes = e }
tested false o r e = none_some e

-- constants
itself : (c : Atom) → is_itself c ≡ true → IsItself c
itself a.Nil h = absurd (cc)
itself (a.Bool b) h = f.boolean b
itself (a.Int z) h = f.integer z
itself (a.Spelt x) h = f.number x
itself (a.Char c) h = f.character c
itself (a.Str x) h = f.text x
itself (a.Bytes ns) h = f.bytes ns

is_so : {c : Atom} → IsItself c → is_itself c ≡ true
is_so (f.boolean b) = refl
is_so (f.integer z) = refl
is_so (f.number x) = refl
is_so (f.character c) = refl
is_so (f.text x) = refl
is_so (f.bytes ns) = refl

quoted : (d : PlainDatum) → is_quoted d ≡ true → IsQuoted d
quoted (atom t c) h = rw (nil_is t c h) f.nothing
quoted (symbol t x) h = f.name
quoted (pair t d e) h = f.list
quoted (vector t d) h = f.elements

quoted_so : {d : PlainDatum} → IsQuoted d → is_quoted d ≡ true
quoted_so f.nothing = refl
quoted_so f.name = refl
quoted_so f.list = refl
quoted_so f.elements = refl

-- the head of a form

data Head : Form → PlainDatum → Type 0 where
  quote : {t : Option Span} → Head form.Quote (symbol t (codes "quote"))
  conditional : {t : Option Span} → Head form.If (symbol t (codes "if"))
  assignment : {t : Option Span} → Head form.Assignment (symbol t (codes "set!"))
  sequence : {t : Option Span} → Head form.Sequence (symbol t (codes "begin"))
  lambda : {t : Option Span} → Head form.Lambda (symbol t (codes "lambda"))
  case_lambda : {t : Option Span} → Head form.CaseLambda (symbol t (codes "case-lambda"))
  letrec : {t : Option Span} {k : List ℕ} → IsLetrec k → Head form.Letrec (symbol t k)
  application : {d : PlainDatum} → Head form.Application d

head_named : (t : Option Span) (x : List ℕ) → Head (form_named x) (symbol t x)
head_named t x =
    let P : Form → Type 0 = λ k. Head k (symbol t x) in
    branch P (bytes_eq x (codes "quote")) (λ h. rw (same_text x _ h) quote)
    (λ _. branch P (bytes_eq x (codes "if")) (λ h. rw (same_text x _ h) conditional)
    (λ _. branch P (bytes_eq x (codes "set!")) (λ h. rw (same_text x _ h) assignment)
    (λ _. branch P (bytes_eq x (codes "begin")) (λ h. rw (same_text x _ h) sequence)
    (λ _. branch P (bytes_eq x (codes "lambda")) (λ h. rw (same_text x _ h) lambda)
    (λ _. branch P (bytes_eq x (codes "case-lambda")) (λ h. rw (same_text x _ h) case_lambda)
    (λ _. branch P (bytes_eq x (codes "letrec")) (λ h. rw (same_text x _ h) (letrec f.plain))
    (λ _. branch P (bytes_eq x (codes "letrec*")) (λ h. rw (same_text x _ h) (letrec f.ordered)) (λ _. application))))))))

head_of : (d : PlainDatum) → Head (form_of d) d
head_of (atom t c) = application
head_of (symbol t x) = head_named t x
head_of (pair t d e) = application
head_of (vector t d) = application

-- the operands of a form
abbrev operands : PlainDatum → PlainDatum → Operands
operands d e = record { armed = is_armed e; row = is_row e; quoted = is_quotation e; operator = expression d; all = expressions e; assigned = assigned e; procedure = procedure e; cases = cases e; recursive = recursive e }

-- behind a line that defines these names
abbrev pub after_line : Survey → Words → Words → Words → Survey
after_line s ds bs fs = record { scope = s.scope; bound = with_names s.bound bs; second = second_of s.bound s.second bs; defined = with_names s.defined ds; free = free_of s.scope s.free fs }

record Quotation (g : PlainDatum) : Type 0 where
  d : PlainDatum
  alone : Is1 g d
  is : IsQuoted d

and_left : (b c : Bool) → (b && c) ≡ true → b ≡ true
and_left true c h = refl
and_left false c h = absurd (cc)

and_right : (b c : Bool) → (b && c) ≡ true → c ≡ true
and_right true c h = h
and_right false c h = absurd (cc)

last_is : (t : Option Span) (d e : PlainDatum) → is_nil e ≡ true → Is1 (pair t d e) d
last_is t d (atom u c) h = rw (nil_is u c h) f.single
last_is t d (symbol u x) h = absurd (cc)
last_is t d (pair u e g) h = absurd (cc)
last_is t d (vector u e) h = absurd (cc)

quotation_is : (g : PlainDatum) → is_quotation g ≡ true → Quotation g
quotation_is (atom t c) h = absurd (cc)
quotation_is (symbol t x) h = absurd (cc)
quotation_is (pair t d e) h = record { d = d; alone = last_is t d e (and_left (is_nil e) (is_quoted d) h); is = quoted d (and_right (is_nil e) (is_quoted d) h) }
quotation_is (vector t d) h = absurd (cc)

module _ (scan : NamesAreScanned) where
  -- names

  if_named : (o : Option (List ℕ)) (x : List ℕ) → if_name o ≡ Some x → (o ≡ Some x) × IsName x
  if_named None x e = none_some e
  if_named (Some y) x e = by (is_name y) refl e where
    by : (b : Bool) → is_name y ≡ b → cond b (Some y) None ≡ Some x → (Some y ≡ Some x) × IsName x
    by true h g = let same : y ≡ x = some_is g in (g, rw (← same) ((scan y).0 h))
    by false h g = none_some g

  record IsNamed (d : PlainDatum) (x : List ℕ) : Type 0 where
    span : Option Span
    is : d ≡ symbol span x
    name : IsName x

  name_is : (d : PlainDatum) (x : List ℕ) → name_in d ≡ Some x → IsNamed d x
  name_is (atom t c) x e = none_some e
  name_is (symbol t y) x e = let p = if_named (Some y) x e in record { span = t; is = ap (symbol t) (some_is p.0); name = p.1 }
  name_is (pair t d g) x e = none_some e
  name_is (vector t d) x e = none_some e

  name_so : (t : Option Span) (x : List ℕ) → IsName x → name_in (symbol t x) ≡ Some x
  name_so t x n = rw ((scan x).1 n) refl

  -- what is a name or a primitive is no keyword of a form
  abbrev is_either : List ℕ → Bool
  is_either x = is_name x || is_primitive x

  no_form : (x : List ℕ) → is_either x ≡ true → form_named x ≡ form.Application
  unfolding scanned
  no_form x h =
      let P : Form → Type 0 = λ k. k ≡ form.Application in
      branch P (bytes_eq x (codes "quote")) (λ e. absurd (one (rw (same_text x _ e) at h)))
      (λ _. branch P (bytes_eq x (codes "if")) (λ e. absurd (two (rw (same_text x _ e) at h)))
      (λ _. branch P (bytes_eq x (codes "set!")) (λ e. absurd (three (rw (same_text x _ e) at h)))
      (λ _. branch P (bytes_eq x (codes "begin")) (λ e. absurd (four (rw (same_text x _ e) at h)))
      (λ _. branch P (bytes_eq x (codes "lambda")) (λ e. absurd (five (rw (same_text x _ e) at h)))
      (λ _. branch P (bytes_eq x (codes "case-lambda")) (λ e. absurd (six (rw (same_text x _ e) at h)))
      (λ _. branch P (bytes_eq x (codes "letrec")) (λ e. absurd (seven (rw (same_text x _ e) at h)))
      (λ _. branch P (bytes_eq x (codes "letrec*")) (λ e. absurd (eight (rw (same_text x _ e) at h))) (λ _. refl))))))))
    where
      one : is_either (codes "quote") ≡ true → ⊥
      one g = cc

      two : is_either (codes "if") ≡ true → ⊥
      two g = cc

      three : is_either (codes "set!") ≡ true → ⊥
      three g = cc

      four : is_either (codes "begin") ≡ true → ⊥
      four g = cc

      five : is_either (codes "lambda") ≡ true → ⊥
      five g = cc

      six : is_either (codes "case-lambda") ≡ true → ⊥
      six g = cc

      seven : is_either (codes "letrec") ≡ true → ⊥
      seven g = cc

      eight : is_either (codes "letrec*") ≡ true → ⊥
      eight g = cc

  other_of : (b c : Bool) → b ≡ false → (b || c) ≡ true → c ≡ true
  other_of true c e h = absurd (cc)
  other_of false c e h = h

  or_first : (b c : Bool) → (b || c) ≡ false → b ≡ false
  or_first true c h = absurd (cc)
  or_first false c h = refl

  or_second : (b c : Bool) → (b || c) ≡ false → c ≡ false
  or_second true c h = absurd (cc)
  or_second false c h = h

  nowhere : (xs : List ℕ) → is_end (scanned Nowhere xs) ≡ true → ⊥
  unfolding scanned
  nowhere [] h = cc
  nowhere (x ∷ xs) h = nowhere xs h

  or_left : (b c : Bool) → b ≡ true → (b || c) ≡ true
  or_left true c h = refl
  or_left false c h = absurd (cc)

  or_right : (b c : Bool) → c ≡ true → (b || c) ≡ true
  or_right true c h = refl
  or_right false c h = h

  -- no primitive begins with a percent sign, as names do
  abbrev begins : List ℕ → Bool
  begins [] = false
  begins (b ∷ bs) = b == 0x25

  name_begins : (x : List ℕ) → is_name x ≡ true → begins x ≡ true
  unfolding scanned
  name_begins [] h = absurd (cc)
  name_begins (b ∷ bs) h = branch (λ (p : NamePlace). is_end (scanned p bs) ≡ true → (b == 0x25) ≡ true) (b == 0x25) (λ e _. e) (λ _ g. absurd (nowhere bs g)) h

  among : (k : ℕ) (x : List ℕ) (ys : List (List ℕ)) (o : ℕ) → list_any begins ys ≡ false → place_from k x ys ≡ Some o → begins x ≡ false
  among k x [] o h e = none_some e
  among k x (y ∷ ys) o h e =
      branch (λ (p : Option ℕ). p ≡ Some o → begins x ≡ false) (pointwise ◌==◌ y x)
      (λ q _. rw (← same_text y x q) (or_first (begins y) (list_any begins ys) h)) (λ _ g. among (k + 1) x ys o (or_second (begins y) (list_any begins ys) h) g) e

  no_name : (x : List ℕ) → is_primitive x ≡ true → is_name x ≡ false
  no_name x p = by (is_name x) refl where
    known : (o : Option ℕ) → is_value o ≡ true → op_named x ≡ o → begins x ≡ false
    known None v e = absurd (cc)
    known (Some n) v e = among 0 x op_names n refl e

    by : (b : Bool) → is_name x ≡ b → b ≡ false
    by true h = absurd (apart (name_begins x h) (known (op_named x) p refl)) where
      apart : begins x ≡ true → begins x ≡ false → ⊥
      apart g k = cc
    by false h = refl

  head_free : {d : PlainDatum} {bs fs : Words} → IsExpression d bs fs → form_of d ≡ form.Application
  head_free (f.constant i) = refl
  head_free (f.quotation i q) = refl
  head_free (f.reference {x = x} n) = no_form x (or_left (is_name x) (is_primitive x) ((scan x).1 n))
  head_free (f.primitive {x = x} p) = no_form x (or_right (is_name x) (is_primitive x) p)
  head_free (f.one_armed r) = refl
  head_free (f.two_armed r) = refl
  head_free (f.assignment n i r) = refl
  head_free (f.sequence r) = refl
  head_free (f.lambda i m r) = refl
  head_free (f.case_lambda r) = refl
  head_free (f.letrec k i m r) = refl
  head_free (f.application r q) = refl

  -- what the grammar has is walked

  count_is : {n : ℕ} {e : PlainDatum} {bs fs : Words} → AreExpressions n e bs fs → length (elements e) ≡ n
  count_is f.no_more = refl
  count_is (f.more r q) = ap suc (count_is q)

  formals_so : {d : PlainDatum} {xs : Words} → IsFormals d xs → (s : Survey) → formals d s ≡ Some (taken s xs)
  formals_so f.no_rest s = refl
  formals_so (f.rest {s = t} {x = x} n) s = ap (λ (o : Option (List ℕ)). with_name_in o (λ y. Some (formal s y))) (name_so t x n)
  formals_so (f.required {t = t} {x = x} {d = d} n r) s = ap (λ (o : Option (List ℕ)). with_name_in o (λ y. formals d (formal s y))) (name_so t x n) ∙ formals_so r (formal s x)

  names_so : {i : PlainDatum} {xs bs fs : Words} → AreInits i xs bs fs → (s : Survey) → init_names i s ≡ Some (scoping s xs)
  names_so f.no_init s = refl
  names_so (f.init {u = u} {x = x} {r = r} n i e q) s = ap (λ (o : Option (List ℕ)). with_name_in o (λ y. init_names r (entered s y))) (name_so u x n) ∙ names_so q (entered s x)

  one_or_more : (n : ℕ) → nat_le 1 (suc n) ≡ true
  one_or_more n = grind (arith, nat_tests)

  -- behind a scope
  lambda_after : (s : Survey) (xs bs fs : Words) → left (length s.scope) (Some (after (taken s xs) bs fs)) ≡ Some (after s (xs ++ bs) (without xs fs))
  lambda_after s xs bs fs = rw (kept s.scope xs, names_append s.bound xs bs, second_append s.bound s.second xs bs, free_without s.scope xs s.free fs) refl

  letrec_after : (s : Survey) (xs bs fs : Words) → left (length s.scope) (Some (after (scoping s xs) bs fs)) ≡ Some (after s bs (without xs fs))
  letrec_after s xs bs fs = rw (kept s.scope xs, free_without s.scope xs s.free fs) refl

  -- a scope over an expression that is walked
  case_is : {c g d : PlainDatum} {xs : Words} (bs fs : Words) → Is2 c g d → IsFormals g xs → ((s : Survey) → expression d s ≡ Some (after s bs fs)) → (s : Survey) → procedure c s ≡ Some (after s (xs ++ bs) (without xs fs))
  case_is {xs = xs} bs fs (f.double {e = e} f.single) m go s =
      ap (λ (o : Option Survey). left (length s.scope) (on o (one e))) (formals_so m s) ∙ ap (left (length s.scope)) (go (taken s xs)) ∙ lambda_after s xs bs fs

  letrec_is : {e i d : PlainDatum} {xs bs fs : Words} (cs gs : Words) → Is2 e i d → AreInits i xs bs fs → ((s : Survey) → inits i s ≡ Some (after s bs fs)) → ((s : Survey) → expression d s ≡ Some (after s cs gs)) → (s : Survey)
      → recursive e s ≡ Some (after s (bs ++ cs) (without xs (fs ++ gs)))
  letrec_is {xs = xs} {bs = bs} {fs = fs} cs gs (f.double {d = i} {e = e} f.single) m inner go s =
      ap (λ (o : Option Survey). left (length s.scope) (on o (λ t. on (inits i t) (one e)))) (names_so m s)
      ∙ ap (λ (o : Option Survey). left (length s.scope) (on o (one e))) (inner (scoping s xs))
      ∙ ap (left (length s.scope)) (go (after (scoping s xs) bs fs))
      ∙ ap (λ (t : Survey). left (length s.scope) (Some t)) (after_append (scoping s xs) bs cs fs gs) ∙ letrec_after s xs (bs ++ cs) (fs ++ gs)

  mutual
    complete : {d : PlainDatum} {bs fs : Words} → IsExpression d bs fs → (s : Survey) → expression d s ≡ Some (after s bs fs)
    complete (f.constant i) s = if_so _ s (is_so i)
    complete (f.quotation f.single q) s = if_so _ s (quoted_so q)
    complete (f.reference {x = x} n) s = ap (λ (b : Bool). cond b (Some (mentioned s x)) (cond (is_primitive x) (Some s) None)) ((scan x).1 n)
    complete (f.primitive {x = x} p) s = ap (λ (b : Bool). cond b (Some (mentioned s x)) (cond (is_primitive x) (Some s) None)) (no_name x p) ∙ if_so _ s p
    complete (f.one_armed {e = e} r) s = ap (λ (n : ℕ). cond (n == 2 || n == 3) (expressions e s) None) (count_is r) ∙ complete_all r s
    complete (f.two_armed {e = e} r) s = ap (λ (n : ℕ). cond (n == 2 || n == 3) (expressions e s) None) (count_is r) ∙ complete_all r s
    complete (f.assignment {v = v} {x = x} {e = e} n f.single r) s = ap (λ (o : Option (List ℕ)). with_name_in o (λ y. one e (mentioned s y))) (name_so v x n) ∙ complete r (mentioned s x)
    complete (f.sequence {e = e} {n = n} r) s =
        ap (λ (m : ℕ). cond (nat_le 1 m) (expressions e s) None) (count_is r) ∙ ap (λ (b : Bool). cond b (expressions e s) None) (one_or_more n) ∙ complete_all r s
    complete (f.lambda {bs = bs} {fs = fs} i m r) s = case_is bs fs i m (complete r) s
    complete (f.case_lambda r) s = complete_cases r s
    complete (f.letrec {cs = cs} {gs = gs} f.plain i m r) s = letrec_is cs gs i m (complete_inits m) (complete r) s
    complete (f.letrec {cs = cs} {gs = gs} f.ordered i m r) s = letrec_is cs gs i m (complete_inits m) (complete r) s
    complete (f.application {d = d} {e = e} {bs = bs} {fs = fs} {cs = cs} {gs = gs} r q) s =
        ap (λ (k : Form). by_form k (operands d e) s) (head_free r) ∙ ap (λ (o : Option Survey). on o (expressions e)) (complete r s)
        ∙ complete_all q (after s bs fs) ∙ ap Some (after_append s bs cs fs gs)

    complete_all : {n : ℕ} {e : PlainDatum} {bs fs : Words} → AreExpressions n e bs fs → (s : Survey) → expressions e s ≡ Some (after s bs fs)
    complete_all f.no_more s = refl
    complete_all (f.more {e = e} {bs = bs} {fs = fs} {cs = cs} {gs = gs} r q) s =
        ap (λ (o : Option Survey). on o (expressions e)) (complete r s) ∙ complete_all q (after s bs fs) ∙ ap Some (after_append s bs cs fs gs)

    complete_cases : {e : PlainDatum} {bs fs : Words} → AreCases e bs fs → (s : Survey) → cases e s ≡ Some (after s bs fs)
    complete_cases f.no_case s = refl
    complete_cases (f.case {r = r} {xs = xs} {bs = bs} {fs = fs} {cs = cs} {gs = gs} i m x q) s =
        ap (λ (o : Option Survey). on o (cases r)) (case_is bs fs i m (complete x) s) ∙ complete_cases q (after s (xs ++ bs) (without xs fs))
        ∙ ap Some (after_append s (xs ++ bs) cs (without xs fs) gs)

    complete_inits : {i : PlainDatum} {xs bs fs : Words} → AreInits i xs bs fs → (s : Survey) → inits i s ≡ Some (after s bs fs)
    complete_inits f.no_init s = refl
    complete_inits (f.init {u = u} {x = x} {e = e} {r = r} {bs = bs} {fs = fs} {cs = cs} {gs = gs} n f.single x' q) s =
        ap (λ (o : Option Survey). on o (inits r))
        (ap (λ (o : Option (List ℕ)). with_name_in o (λ y. one e (bound_by s y))) (name_so u x n) ∙ complete x' (bound_by s x))
        ∙ complete_inits q (after s (x ∷ bs) fs) ∙ ap Some (after_append s (x ∷ bs) cs fs gs)

  -- an application isn't of `define`, which is no expression
  define_either : is_either (codes "define") ≡ true → ⊥
  unfolding scanned
  define_either g = cc

  no_define : {t : Option Span} {d e : PlainDatum} {bs fs : Words} → IsExpression (pair t d e) bs fs → is_define (symbol_text d) ≡ false
  no_define (f.quotation i q) = refl
  no_define (f.one_armed r) = refl
  no_define (f.two_armed r) = refl
  no_define (f.assignment n i r) = refl
  no_define (f.sequence r) = refl
  no_define (f.lambda i m r) = refl
  no_define (f.case_lambda r) = refl
  no_define (f.letrec f.plain i m r) = refl
  no_define (f.letrec f.ordered i m r) = refl
  no_define (f.application r q) = head r where
    not_so : (x : List ℕ) → is_either x ≡ true → bytes_eq x (codes "define") ≡ false
    not_so x h = by (bytes_eq x (codes "define")) refl where
      by : (b : Bool) → bytes_eq x (codes "define") ≡ b → b ≡ false
      by true e = absurd (define_either (rw (same_text x _ e) at h))
      by false e = refl

    head : {d : PlainDatum} {bs fs : Words} → IsExpression d bs fs → is_define (symbol_text d) ≡ false
    head (f.constant i) = refl
    head (f.quotation i q) = refl
    head (f.reference {x = x} n) = not_so x (or_left (is_name x) (is_primitive x) ((scan x).1 n))
    head (f.primitive {x = x} p) = not_so x (or_right (is_name x) (is_primitive x) p)
    head (f.one_armed r) = refl
    head (f.two_armed r) = refl
    head (f.assignment n i r) = refl
    head (f.sequence r) = refl
    head (f.lambda i m r) = refl
    head (f.case_lambda r) = refl
    head (f.letrec k i m r) = refl
    head (f.application r q) = refl

  pub complete_line : {d : PlainDatum} {ds bs fs : Words} → IsLineForm d ds bs fs → (s : Survey) → line_form d s ≡ Some (after_line s ds bs fs)
  complete_line (lines.definition {v = v} {x = x} {e = e} n f.single r) s =
      ap (λ (o : Option (List ℕ)). with_name_in o (λ y. one e (defined_by s y))) (name_so v x n) ∙ complete r (defined_by s x)
  complete_line (lines.expression {d = d} r) s = line_is d r s where
    line_is : (d : PlainDatum) {bs fs : Words} → IsExpression d bs fs → (s : Survey) → line_form d s ≡ Some (after s bs fs)
    line_is (atom t c) r s = complete r s
    line_is (symbol t x) r s = complete r s
    line_is (pair t d e) r s = ap (λ (b : Bool). cond b (definition e s) (expression (pair t d e) s)) (no_define r) ∙ complete r s
    line_is (vector t d) r s = complete r s

  -- what is walked is in the grammar

  record Walked (d : PlainDatum) (s r : Survey) : Type 0 where
    bs : Words
    fs : Words
    is : IsExpression d bs fs
    same : r ≡ after s bs fs

  record WalkedAll (e : PlainDatum) (s r : Survey) : Type 0 where
    bs : Words
    fs : Words
    are : AreExpressions (length (elements e)) e bs fs
    same : r ≡ after s bs fs

  record WalkedOne (e : PlainDatum) (s r : Survey) : Type 0 where
    d : PlainDatum
    alone : Is1 e d
    walked : Walked d s r

  -- a name, and behind it one expression
  record WalkedNamed (g : PlainDatum) (step : Survey → List ℕ → Survey) (s r : Survey) : Type 0 where
    x : List ℕ
    u : Option Span
    v : Option Span
    e : PlainDatum
    is : g ≡ pair u (symbol v x) e
    name : IsName x
    one : WalkedOne e (step s x) r

  record WalkedCase (c : PlainDatum) (s r : Survey) : Type 0 where
    g : PlainDatum
    d : PlainDatum
    xs : Words
    bs : Words
    fs : Words
    two : Is2 c g d
    formals : IsFormals g xs
    is : IsExpression d bs fs
    same : r ≡ after s (xs ++ bs) (without xs fs)

  record WalkedCases (e : PlainDatum) (s r : Survey) : Type 0 where
    bs : Words
    fs : Words
    are : AreCases e bs fs
    same : r ≡ after s bs fs

  record WalkedInits (i : PlainDatum) (s r : Survey) : Type 0 where
    xs : Words
    bs : Words
    fs : Words
    are : AreInits i xs bs fs
    same : r ≡ after s bs fs

  record WalkedLetrec (e : PlainDatum) (s r : Survey) : Type 0 where
    i : PlainDatum
    d : PlainDatum
    xs : Words
    bs : Words
    fs : Words
    cs : Words
    gs : Words
    two : Is2 e i d
    inits : AreInits i xs bs fs
    is : IsExpression d cs gs
    same : r ≡ after s (bs ++ cs) (without xs (fs ++ gs))

  record WalkedFormals (d : PlainDatum) (s r : Survey) : Type 0 where
    xs : Words
    are : IsFormals d xs
    same : r ≡ taken s xs

  formals_sound : (d : PlainDatum) (s r : Survey) → formals d s ≡ Some r → WalkedFormals d s r
  formals_sound (atom t c) s r e = let p = stayed (is_nil (atom t c)) s r e in record { xs = []; are = rw (nil_is t c p.holds) f.no_rest; same = p.same }
  formals_sound (symbol t x) s r e =
      let p = named (name_in (symbol t x)) (λ y. Some (formal s y)) r e in
      let q = name_is (symbol t x) p.name p.is in
      record { xs = p.name ∷ []; are = subst (λ (n : PlainDatum). IsFormals n (p.name ∷ [])) (sym q.is) (f.rest q.name); same = sym (some_is p.goes) }
  formals_sound (pair t d g) s r e =
      let p = named (name_in d) (λ y. formals g (formal s y)) r e in
      let q = name_is d p.name p.is in
      let w = formals_sound g (formal s p.name) r p.goes in
      record { xs = p.name ∷ w.xs; are = subst (λ (n : PlainDatum). IsFormals (pair t n g) (p.name ∷ w.xs)) (sym q.is) (f.required q.name w.are); same = w.same }
  formals_sound (vector t d) s r e = none_some e

  variable_sound : (t : Option Span) (x : List ℕ) (s r : Survey) → variable x s ≡ Some r → Walked (symbol t x) s r
  variable_sound t x s r e =
      branch (λ (o : Option Survey). o ≡ Some r → Walked (symbol t x) s r) (is_name x)
      (λ h k. record { bs = []; fs = x ∷ []; is = f.reference ((scan x).0 h); same = sym (some_is k) })
      (λ _ k. let p = stayed (is_primitive x) s r k in record { bs = []; fs = []; is = f.primitive p.holds; same = p.same }) e

  record Inner (n : ℕ) (o : Option Survey) (r : Survey) : Type 0 where
    inner : Survey
    goes : o ≡ Some inner
    same : left n (Some inner) ≡ Some r

  scope_left : (n : ℕ) (o : Option Survey) (r : Survey) → left n o ≡ Some r → Inner n o r
  scope_left n None r e = none_some e
  scope_left n (Some s) r e = record { inner = s; goes = refl; same = e }

  -- the form of a list by its head
  module _ (t : Option Span) (g : PlainDatum) (s r : Survey)
      (all : (s r : Survey) → expressions g s ≡ Some r → WalkedAll g s r) (assigns : assigned g s ≡ Some r → WalkedNamed g mentioned s r)
      (case : procedure g s ≡ Some r → WalkedCase g s r) (cases' : cases g s ≡ Some r → WalkedCases g s r) (letrec' : recursive g s ≡ Some r → WalkedLetrec g s r) where
    form_sound : (k : Form) (d : PlainDatum) → Head k d → ((r : Survey) → expression d s ≡ Some r → Walked d s r) → by_form k (operands d g) s ≡ Some r → Walked (pair t d g) s r
    form_sound form.Quote _ quote head e = let p = stayed (is_quotation g) s r e in let q = quotation_is g p.holds in record { bs = []; fs = []; is = f.quotation q.alone q.is; same = p.same }
    form_sound form.If _ (conditional {t = u}) head e =
        let p = tested (is_armed g) (expressions g s) r e in
        let w = all s r p.goes in
        record { bs = w.bs; fs = w.fs; is = armed (length (elements g)) w.are p.holds; same = w.same }
      where
        armed : (n : ℕ) {bs fs : Words} → AreExpressions n g bs fs → (n == 2 || n == 3) ≡ true → IsExpression (pair t (symbol u (codes "if")) g) bs fs
        armed n {bs} {fs} a h = by (n == 2) refl where
          by : (b : Bool) → n == 2 ≡ b → IsExpression (pair t (symbol u (codes "if")) g) bs fs
          by true e = f.one_armed (subst (λ (m : ℕ). AreExpressions m g bs fs) (eqb-true n 2 e) a)
          by false e = f.two_armed (subst (λ (m : ℕ). AreExpressions m g bs fs) (eqb-true n 3 (other_of (n == 2) (n == 3) e h)) a)
    form_sound form.Assignment _ (assignment {t = u}) head e =
        let p = assigns e in
        record {
          bs = p.one.walked.bs;
          fs = p.x ∷ p.one.walked.fs;
          is = subst (λ (z : PlainDatum). IsExpression (pair t (symbol u (codes "set!")) z) p.one.walked.bs (p.x ∷ p.one.walked.fs)) (sym p.is) (f.assignment p.name p.one.alone p.one.walked.is);
          same = p.one.walked.same;
        }
    form_sound form.Sequence _ (sequence {t = u}) head e =
        let p = tested (is_row g) (expressions g s) r e in
        let w = all s r p.goes in
        record { bs = w.bs; fs = w.fs; is = row (length (elements g)) w.are p.holds; same = w.same }
      where
        row : (n : ℕ) {bs fs : Words} → AreExpressions n g bs fs → nat_le 1 n ≡ true → IsExpression (pair t (symbol u (codes "begin")) g) bs fs
        row zero a h = absurd (cc)
        row (suc n) a h = f.sequence a
    form_sound form.Lambda _ lambda head e = let w = case e in record { bs = w.xs ++ w.bs; fs = without w.xs w.fs; is = f.lambda w.two w.formals w.is; same = w.same }
    form_sound form.CaseLambda _ case_lambda head e = let w = cases' e in record { bs = w.bs; fs = w.fs; is = f.case_lambda w.are; same = w.same }
    form_sound form.Letrec _ (letrec k) head e = let w = letrec' e in record { bs = w.bs ++ w.cs; fs = without w.xs (w.fs ++ w.gs); is = f.letrec k w.two w.inits w.is; same = w.same }
    form_sound form.Application d application head e =
        let p = went (expression d s) (expressions g) r e in
        let v = head p.mid p.first in
        let w = all p.mid r p.second in
        record { bs = v.bs ++ w.bs; fs = v.fs ++ w.fs; is = f.application v.is w.are; same = w.same ∙ ap (λ (q : Survey). after q w.bs w.fs) v.same ∙ after_append s v.bs w.bs v.fs w.fs }

  mutual
    sound : (d : PlainDatum) (s r : Survey) → expression d s ≡ Some r → Walked d s r
    sound (atom t c) s r e = let p = stayed (is_itself c) s r e in record { bs = []; fs = []; is = f.constant (itself c p.holds); same = p.same }
    sound (symbol t x) s r e = variable_sound t x s r e
    sound (pair t d g) s r e =
        form_sound t g s r (sound_all g) (sound_assigned g s r) (sound_case g s r) (sound_cases g s r) (sound_letrec g s r) (form_of d) d (head_of d) (sound d s) e
    sound (vector t d) s r e = none_some e

    sound_all : (g : PlainDatum) (s r : Survey) → expressions g s ≡ Some r → WalkedAll g s r
    sound_all (atom t c) s r e = let p = stayed (is_nil (atom t c)) s r e in record { bs = []; fs = []; are = rw (nil_is t c p.holds) f.no_more; same = p.same }
    sound_all (symbol t x) s r e = none_some e
    sound_all (pair t d g) s r e =
        let p = went (expression d s) (expressions g) r e in
        let v = sound d s p.mid p.first in
        let w = sound_all g p.mid r p.second in
        record { bs = v.bs ++ w.bs; fs = v.fs ++ w.fs; are = f.more v.is w.are; same = w.same ∙ ap (λ (q : Survey). after q w.bs w.fs) v.same ∙ after_append s v.bs w.bs v.fs w.fs }
    sound_all (vector t d) s r e = none_some e

    sound_one : (g : PlainDatum) (s r : Survey) → one g s ≡ Some r → WalkedOne g s r
    sound_one (atom t c) s r e = none_some e
    sound_one (symbol t x) s r e = none_some e
    sound_one (pair t d g) s r e = let p = tested (is_nil g) (expression d s) r e in record { d = d; alone = last_is t d g p.holds; walked = sound d s r p.goes }
    sound_one (vector t d) s r e = none_some e

    sound_assigned : (g : PlainDatum) (s r : Survey) → assigned g s ≡ Some r → WalkedNamed g mentioned s r
    sound_assigned (atom t c) s r e = none_some e
    sound_assigned (symbol t x) s r e = none_some e
    sound_assigned (pair t d g) s r e =
        let p = named (name_in d) (λ x. one g (mentioned s x)) r e in
        let q = name_is d p.name p.is in
        record { x = p.name; u = t; v = q.span; e = g; is = ap (λ (n : PlainDatum). pair t n g) q.is; name = q.name; one = sound_one g (mentioned s p.name) r p.goes }
    sound_assigned (vector t d) s r e = none_some e

    sound_init : (g : PlainDatum) (s r : Survey) → init g s ≡ Some r → WalkedNamed g bound_by s r
    sound_init (atom t c) s r e = none_some e
    sound_init (symbol t x) s r e = none_some e
    sound_init (pair t d g) s r e =
        let p = named (name_in d) (λ x. one g (bound_by s x)) r e in
        let q = name_is d p.name p.is in
        record { x = p.name; u = t; v = q.span; e = g; is = ap (λ (n : PlainDatum). pair t n g) q.is; name = q.name; one = sound_one g (bound_by s p.name) r p.goes }
    sound_init (vector t d) s r e = none_some e

    sound_case : (c : PlainDatum) (s r : Survey) → procedure c s ≡ Some r → WalkedCase c s r
    sound_case (atom t c) s r e = none_some e
    sound_case (symbol t x) s r e = none_some e
    sound_case (pair t d g) s r e =
        let p = scope_left (length s.scope) (on (formals d s) (one g)) r e in
        let q = went (formals d s) (one g) p.inner p.goes in
        let m = formals_sound d s q.mid q.first in
        let w = sound_one g q.mid p.inner q.second in
        record {
          g = d;
          d = w.d;
          xs = m.xs;
          bs = w.walked.bs;
          fs = w.walked.fs;
          two = f.double w.alone;
          formals = m.are;
          is = w.walked.is;
          same = some_is (sym p.same ∙ ap (λ (z : Survey). left (length s.scope) (Some z)) (w.walked.same ∙ ap (λ (z : Survey). after z w.walked.bs w.walked.fs) m.same) ∙ lambda_after s m.xs w.walked.bs w.walked.fs);
        }
    sound_case (vector t d) s r e = none_some e

    sound_cases : (g : PlainDatum) (s r : Survey) → cases g s ≡ Some r → WalkedCases g s r
    sound_cases (atom t c) s r e = let p = stayed (is_nil (atom t c)) s r e in record { bs = []; fs = []; are = rw (nil_is t c p.holds) f.no_case; same = p.same }
    sound_cases (symbol t x) s r e = none_some e
    sound_cases (pair t d g) s r e =
        let p = went (procedure d s) (cases g) r e in
        let v = sound_case d s p.mid p.first in
        let w = sound_cases g p.mid r p.second in
        record {
          bs = v.xs ++ v.bs ++ w.bs;
          fs = without v.xs v.fs ++ w.fs;
          are = f.case v.two v.formals v.is w.are;
          same = w.same ∙ ap (λ (q : Survey). after q w.bs w.fs) v.same ∙ after_append s (v.xs ++ v.bs) w.bs (without v.xs v.fs) w.fs;
        }
    sound_cases (vector t d) s r e = none_some e

    sound_inits : (g : PlainDatum) (s r : Survey) → inits g s ≡ Some r → WalkedInits g s r
    sound_inits (atom t c) s r e = let p = stayed (is_nil (atom t c)) s r e in record { xs = []; bs = []; fs = []; are = rw (nil_is t c p.holds) f.no_init; same = p.same }
    sound_inits (symbol t x) s r e = none_some e
    sound_inits (pair t d g) s r e =
        let p = went (init d s) (inits g) r e in
        let v = sound_init d s p.mid p.first in
        let w = sound_inits g p.mid r p.second in
        record {
          xs = v.x ∷ w.xs;
          bs = v.x ∷ v.one.walked.bs ++ w.bs;
          fs = v.one.walked.fs ++ w.fs;
          are = subst (λ (z : PlainDatum). AreInits (pair t z g) (v.x ∷ w.xs) (v.x ∷ v.one.walked.bs ++ w.bs) (v.one.walked.fs ++ w.fs)) (sym v.is) (f.init v.name v.one.alone v.one.walked.is w.are);
          same = w.same ∙ ap (λ (q : Survey). after q w.bs w.fs) v.one.walked.same ∙ after_append s (v.x ∷ v.one.walked.bs) w.bs v.one.walked.fs w.fs;
        }
    sound_inits (vector t d) s r e = none_some e

    sound_letrec : (g : PlainDatum) (s r : Survey) → recursive g s ≡ Some r → WalkedLetrec g s r
    sound_letrec (atom t c) s r e = none_some e
    sound_letrec (symbol t x) s r e = none_some e
    sound_letrec (pair t d g) s r e =
        let p = scope_left (length s.scope) (on (init_names d s) (λ z. on (inits d z) (one g))) r e in
        let q = went (init_names d s) (λ z. on (inits d z) (one g)) p.inner p.goes in
        let k = went (inits d q.mid) (one g) p.inner q.second in
        let m = sound_inits d q.mid k.mid k.first in
        let w = sound_one g k.mid p.inner k.second in
        let scope : q.mid ≡ scoping s m.xs = some_is (sym q.first ∙ names_so m.are s) in
        record {
          i = d;
          d = w.d;
          xs = m.xs;
          bs = m.bs;
          fs = m.fs;
          cs = w.walked.bs;
          gs = w.walked.fs;
          two = f.double w.alone;
          inits = m.are;
          is = w.walked.is;
          same = some_is (sym p.same
              ∙ ap (λ (z : Survey). left (length s.scope) (Some z))
              (w.walked.same ∙ ap (λ (z : Survey). after z w.walked.bs w.walked.fs) (m.same ∙ ap (λ (z : Survey). after z m.bs m.fs) scope) ∙ after_append (scoping s m.xs) m.bs w.walked.bs m.fs w.walked.fs)
              ∙ letrec_after s m.xs (m.bs ++ w.walked.bs) (m.fs ++ w.walked.fs));
        }
    sound_letrec (vector t d) s r e = none_some e

  pub record WalkedLine (d : PlainDatum) (s r : Survey) : Type 0 where
    pub ds : Words
    pub bs : Words
    pub fs : Words
    pub is : IsLineForm d ds bs fs
    pub same : r ≡ after_line s ds bs fs

  by_expression : (d : PlainDatum) (s r : Survey) → Walked d s r → WalkedLine d s r
  by_expression d s r w = record { ds = []; bs = w.bs; fs = w.fs; is = lines.expression w.is; same = w.same }

  define_is : (d : PlainDatum) → is_define (symbol_text d) ≡ true → (t : Option Span) × (d ≡ symbol t (codes "define"))
  define_is (atom t c) h = absurd (cc)
  define_is (symbol t x) h = (t, ap (symbol t) (same_text x _ h))
  define_is (pair t d e) h = absurd (cc)
  define_is (vector t d) h = absurd (cc)

  sound_definition : (t : Option Span) (d g : PlainDatum) (s r : Survey) → is_define (symbol_text d) ≡ true → definition g s ≡ Some r → WalkedLine (pair t d g) s r
  sound_definition t d (atom u c) s r h e = none_some e
  sound_definition t d (symbol u x) s r h e = none_some e
  sound_definition t d (pair u n g) s r h e =
      let p = named (name_in n) (λ x. one g (defined_by s x)) r e in
      let q = name_is n p.name p.is in
      let w = sound_one g (defined_by s p.name) r p.goes in
      let k = define_is d h in
      record {
        ds = p.name ∷ [];
        bs = p.name ∷ w.walked.bs;
        fs = w.walked.fs;
        is = subst (λ (z : PlainDatum). IsLineForm (pair t z (pair u n g)) (p.name ∷ []) (p.name ∷ w.walked.bs) w.walked.fs) (sym k.1)
            (subst (λ (z : PlainDatum). IsLineForm (pair t (symbol k.0 (codes "define")) (pair u z g)) (p.name ∷ []) (p.name ∷ w.walked.bs) w.walked.fs) (sym q.is) (lines.definition q.name w.alone w.walked.is));
        same = w.walked.same;
      }
  sound_definition t d (vector u e') s r h e = none_some e

  pub sound_line : (d : PlainDatum) (s r : Survey) → line_form d s ≡ Some r → WalkedLine d s r
  sound_line (atom t c) s r e = by_expression (atom t c) s r (sound (atom t c) s r e)
  sound_line (symbol t x) s r e = by_expression (symbol t x) s r (sound (symbol t x) s r e)
  sound_line (pair t d g) s r e =
      branch (λ (o : Option Survey). o ≡ Some r → WalkedLine (pair t d g) s r) (is_define (symbol_text d)) (λ h k. sound_definition t d g s r h k)
      (λ _ k. by_expression (pair t d g) s r (sound (pair t d g) s r k)) e
  sound_line (vector t d) s r e = none_some e
