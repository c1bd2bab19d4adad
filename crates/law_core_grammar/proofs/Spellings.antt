-- The spelling of core code: it is one, and there is no other.
use Rattle.std.proofs.Common.{◌≡◌, ℕ, Bool, true, false, List, [], ◌∷◌, ◌++◌, arith, refl, sym, ap, ◌∙◌, Option, Some, None, Ok, Err}
use Rattle.std.specs.Prelude.{codes, if◌then◌else◌}
use Rattle.base_data.proofs.ElementLemmas.{each-first, each-last, each-flat}
use Rattle.base_data.specs.Elements.{Each}
use Rattle.base_data.specs.Gives.{◌>>=◌}
use Rattle.base_data.specs.Datum.{PlainDatum, nil, unspanned}
use Rattle.base_data.specs.Op.{op_text}
use Rattle.base_data.specs.declared.fault.Fault.{Fault}
use Rattle.base_data.specs.declared.name.CodeNo.{CodeNo}
use Rattle.base_data.specs.declared.name.Label.{Label}
use Rattle.core_language.specs.Core as core
use Rattle.core_language.specs.Core.{PlainCore, PlainCores, PlainInits, PlainCases}
use Rattle.core_language.specs.References.{rest_labels, formals_labels, binders, all_binders, init_binders, case_binders, mentions, all_mentions, init_mentions, case_mentions}
use Rattle.core_language.specs.declared.record.Line.TheVariants as line
use Rattle.law_core.specs.Parts.{parts, all_parts, init_parts, case_parts, own_op, case_count}
use Rattle.law_core.specs.WellMade.{HasForm}
use Rattle.core_output.specs.CoreText.{VariableNames, name_of}
use Rattle.core_output.specs.Syntax.{Checked, written, checked, all_checked, inits_checked, cases_checked}
use Rattle.law_core_grammar.specs.Names.{IsCalled, IsPrimitive}
use Rattle.law_core_grammar.specs.Spells.{word, before, form, one, two, three, is_itself, letrec_keyword, SpellsFormals, no_rest, rest, required}
use Rattle.law_core_grammar.specs.Spells as s
use Rattle.law_core_grammar.specs.Spells.{SpellsCode, SpellsAllCode, SpellsInits, SpellsCases}
use Rattle.law_core_grammar.specs.Lines.{definition, expression}
use Rattle.law_core_grammar.specs.Spellable.{HasName, IsSpellable}
use Rattle.law_core_grammar.specs.Laws.{OneSpelling, CodeIsSpelled, LinesAreSpelled}
use Rattle.law_core_grammar.proofs.Called.{called_is}

module _ (names : VariableNames) where
  abbrev formals_spelling : List Label → Option Label → PlainDatum
  formals_spelling [] None = nil
  formals_spelling [] (Some l) = word (name_of names l)
  formals_spelling (l ∷ ls) r = before (word (name_of names l)) (formals_spelling ls r)

  abbrev mutual
    spelling : PlainCore → PlainDatum
    spelling (core.quoted d) = if is_itself d then unspanned d else form (codes "quote") (one (unspanned d))
    spelling (core.variable l) = word (name_of names l)
    spelling (core.primitive o) = word (op_text o.0)
    spelling (core.one_armed t c) = form (codes "if") (two (spelling t) (spelling c))
    spelling (core.two_armed t c e) = form (codes "if") (three (spelling t) (spelling c) (spelling e))
    spelling (core.assignment l c) = form (codes "set!") (two (word (name_of names l)) (spelling c))
    spelling (core.sequence cs) = form (codes "begin") (all_spelling cs)
    spelling (core.procedure n cs true) = form (codes "lambda") (lambda_spelling cs)
    spelling (core.procedure n cs false) = form (codes "case-lambda") (cases_spelling cs)
    spelling (core.letrec ordered is c) = form (letrec_keyword ordered) (two (inits_spelling is) (spelling c))
    spelling (core.call c cs) = before (spelling c) (all_spelling cs)
    spelling (core.instance t s) = nil
    spelling (core.matching c cs s) = nil

    all_spelling : PlainCores → PlainDatum
    all_spelling core.none = nil
    all_spelling (core.more c cs) = before (spelling c) (all_spelling cs)

    inits_spelling : PlainInits → PlainDatum
    inits_spelling core.no_init = nil
    inits_spelling (core.init l c is) = before (two (word (name_of names l)) (spelling c)) (inits_spelling is)

    cases_spelling : PlainCases → PlainDatum
    cases_spelling core.no_case = nil
    cases_spelling (core.case f c cs) = before (two (formals_spelling f.required f.rest) (spelling c)) (cases_spelling cs)

    -- the parts of a `lambda`, which has one case
    lambda_spelling : PlainCases → PlainDatum
    lambda_spelling core.no_case = nil
    lambda_spelling (core.case f c cs) = two (formals_spelling f.required f.rest) (spelling c)

  called_word : (l : Label) (x : List ℕ) → IsCalled names l x → word x ≡ word (name_of names l)
  called_word l x h = ap word (sym (called_is names l x h))

  formals_only : {ls : List Label} {r : Option Label} {e : PlainDatum} → SpellsFormals names ls r e → e ≡ formals_spelling ls r
  formals_only no_rest = refl
  formals_only (rest {l} {x} h) = called_word l x h
  formals_only (required {l} {x} h others) = λ i. before (called_word l x h i) (formals_only others i)

  either_true : (b : Bool) (d e : PlainDatum) → b ≡ true → d ≡ (if b then d else e)
  either_true true d e h = refl
  either_true false d e h = absurd (cc)

  either_false : (b : Bool) (d e : PlainDatum) → b ≡ false → e ≡ (if b then d else e)
  either_false true d e h = absurd (cc)
  either_false false d e h = refl

  mutual
    only : {c : PlainCore} {d : PlainDatum} → SpellsCode names c d → d ≡ spelling c
    only (s.constant d h) = either_true (is_itself d) (unspanned d) (form (codes "quote") (one (unspanned d))) h
    only (s.quotation d h) = either_false (is_itself d) (unspanned d) (form (codes "quote") (one (unspanned d))) h
    only (s.reference {l} {x} h) = called_word l x h
    only (s.primitive o h) = refl
    only (s.one_armed p q) = λ i. form (codes "if") (two (only p i) (only q i))
    only (s.two_armed p q r) = λ i. form (codes "if") (three (only p i) (only q i) (only r i))
    only (s.assignment {l} {x} h p) = λ i. form (codes "set!") (two (called_word l x h i) (only p i))
    only (s.sequence p ps) = λ i. form (codes "begin") (before (only p i) (all_only ps i))
    only (s.lambda n fs p) = λ i. form (codes "lambda") (two (formals_only fs i) (only p i))
    only (s.case_lambda n ps) = λ i. form (codes "case-lambda") (cases_only ps i)
    only (s.letrec ordered ps p) = λ i. form (letrec_keyword ordered) (two (inits_only ps i) (only p i))
    only (s.application p ps) = λ i. before (only p i) (all_only ps i)

    all_only : {cs : PlainCores} {e : PlainDatum} → SpellsAllCode names cs e → e ≡ all_spelling cs
    all_only s.no_more = refl
    all_only (s.more p ps) = λ i. before (only p i) (all_only ps i)

    inits_only : {is : PlainInits} {e : PlainDatum} → SpellsInits names is e → e ≡ inits_spelling is
    inits_only s.no_init = refl
    inits_only (s.init {l} {x} h p ps) = λ i. before (two (called_word l x h i) (only p i)) (inits_only ps i)

    cases_only : {cs : PlainCases} {e : PlainDatum} → SpellsCases names cs e → e ≡ cases_spelling cs
    cases_only s.no_case = refl
    cases_only (s.case fs p ps) = λ i. before (two (formals_only fs i) (only p i)) (cases_only ps i)

pub one_spelling : OneSpelling
one_spelling names c d e p q = only names p ∙ sym (only names q)

bind_ok : (r q : Checked) → (r >>= λ _. q) ≡ written → (r ≡ written) × (q ≡ written)
bind_ok (Ok u) q h = (refl, h)
bind_ok (Err f) q h = absurd (cc)

module _ (names : VariableNames) where
  abbrev Own : PlainCore → Type 0
  Own c = Each IsPrimitive (own_op c)

  -- what is asked of some parts of code
  record Asked (bound mentioned : List Label) (ps : List PlainCore) (r : Checked) : Type 0 where
    binds : Each (HasName names) bound
    says : Each (HasName names) mentioned
    formed : Each HasForm ps
    named : Each Own ps
    clean : r ≡ written

  asked_left : (bs cs ms ns : List Label) (ps qs : List PlainCore) (j k : Checked) → Asked (bs ++ cs) (ms ++ ns) (ps ++ qs) (j >>= λ _. k) → Asked bs ms ps j
  asked_left bs cs ms ns ps qs j k h =
      record { binds = each-first (HasName names) bs cs h.binds; says = each-first (HasName names) ms ns h.says; formed = each-first HasForm ps qs h.formed; named = each-first Own ps qs h.named; clean = (bind_ok j k h.clean).0 }

  asked_right : (bs cs ms ns : List Label) (ps qs : List PlainCore) (j k : Checked) → Asked (bs ++ cs) (ms ++ ns) (ps ++ qs) (j >>= λ _. k) → Asked cs ns qs k
  asked_right bs cs ms ns ps qs j k h =
      record { binds = each-last (HasName names) bs cs h.binds; says = each-last (HasName names) ms ns h.says; formed = each-last HasForm ps qs h.formed; named = each-last Own ps qs h.named; clean = (bind_ok j k h.clean).1 }

  -- without the first part
  asked_inside : (bs ms : List Label) (p : PlainCore) (ps : List PlainCore) (k : Checked) → Asked bs ms (p ∷ ps) k → Asked bs ms ps k
  asked_inside bs ms p ps k h = record { binds = h.binds; says = h.says; formed = h.formed.1; named = h.named.1; clean = h.clean }

  called : (l : Label) → HasName names l → IsCalled names l (name_of names l)
  called l h = h.1 ∙ ap Some (sym (called_is names l h.0 h.1))

  spells_formals : (ls : List Label) (r : Option Label) → Each (HasName names) (ls ++ rest_labels r) → SpellsFormals names ls r (formals_spelling names ls r)
  spells_formals [] None h = no_rest
  spells_formals [] (Some l) h = rest (called l h.0)
  spells_formals (l ∷ ls) r h = required (called l h.0) (spells_formals ls r h.1)

  abbrev AskedCore : PlainCore → Type 0
  AskedCore c = Asked (binders c) (mentions c) (parts c) (checked c)

  constant_is : (d : PlainDatum) (b : Bool) → is_itself d ≡ b → SpellsCode names (core.quoted d) (if b then unspanned d else form (codes "quote") (one (unspanned d)))
  constant_is d true h = s.constant d h
  constant_is d false h = s.quotation d h

  first_of : (c : PlainCore) (cs : PlainCores) → Asked (all_binders (core.more c cs)) (all_mentions (core.more c cs)) (all_parts (core.more c cs)) (all_checked (core.more c cs)) → AskedCore c
  first_of c cs h = asked_left (binders c) (all_binders cs) (mentions c) (all_mentions cs) (parts c) (all_parts cs) (checked c) (all_checked cs) h

  others_of : (c : PlainCore) (cs : PlainCores) → Asked (all_binders (core.more c cs)) (all_mentions (core.more c cs)) (all_parts (core.more c cs)) (all_checked (core.more c cs))
      → Asked (all_binders cs) (all_mentions cs) (all_parts cs) (all_checked cs)
  others_of c cs h = asked_right (binders c) (all_binders cs) (mentions c) (all_mentions cs) (parts c) (all_parts cs) (checked c) (all_checked cs) h

  not_written : {p : Fault} → ◌≡◌ {A = Checked} (Err p) written → ⊥
  not_written e = cc

  -- without the first bound labels
  asked_behind : (fs bs ms : List Label) (ps : List PlainCore) (k : Checked) → Asked (fs ++ bs) ms ps k → Asked bs ms ps k
  asked_behind fs bs ms ps k h = record { binds = each-last (HasName names) fs bs h.binds; says = h.says; formed = h.formed; named = h.named; clean = h.clean }

  mutual
    spells : (c : PlainCore) → AskedCore c → SpellsCode names c (spelling names c)
    spells (core.quoted d) h = constant_is d (is_itself d) refl
    spells (core.variable l) h = s.reference (called l h.says.0)
    spells (core.primitive o) h = s.primitive o h.named.0.0
    spells (core.one_armed t c) h =
        let k = asked_inside (binders t ++ binders c) (mentions t ++ mentions c) (core.one_armed t c) (parts t ++ parts c) (checked (core.one_armed t c)) h in
        s.one_armed
        (spells t (asked_left (binders t) (binders c) (mentions t) (mentions c) (parts t) (parts c) (checked t) (checked c) k))
        (spells c (asked_right (binders t) (binders c) (mentions t) (mentions c) (parts t) (parts c) (checked t) (checked c) k))
    spells (core.two_armed t c e) h =
        let k = asked_inside (binders t ++ (binders c ++ binders e)) (mentions t ++ (mentions c ++ mentions e)) (core.two_armed t c e) (parts t ++ (parts c ++ parts e)) (checked (core.two_armed t c e)) h in
        let j = asked_right (binders t) (binders c ++ binders e) (mentions t) (mentions c ++ mentions e) (parts t) (parts c ++ parts e) (checked t) (checked c >>= λ _. checked e) k in
        s.two_armed
        (spells t (asked_left (binders t) (binders c ++ binders e) (mentions t) (mentions c ++ mentions e) (parts t) (parts c ++ parts e) (checked t) (checked c >>= λ _. checked e) k))
        (spells c (asked_left (binders c) (binders e) (mentions c) (mentions e) (parts c) (parts e) (checked c) (checked e) j))
        (spells e (asked_right (binders c) (binders e) (mentions c) (mentions e) (parts c) (parts e) (checked c) (checked e) j))
    spells (core.assignment l c) h =
        s.assignment (called l h.says.0) (spells c (record { binds = h.binds; says = h.says.1; formed = h.formed.1; named = h.named.1; clean = h.clean }))
    spells (core.sequence core.none) h = absurd (omega (arith, h.formed.0))
    spells (core.sequence (core.more c cs)) h =
        let k = asked_inside (all_binders (core.more c cs)) (all_mentions (core.more c cs)) (core.sequence (core.more c cs)) (all_parts (core.more c cs)) (all_checked (core.more c cs)) h in
        s.sequence (spells c (first_of c cs k)) (spells_all cs (others_of c cs k))
    spells (core.procedure n cs true) h = spells_lambda n cs h.formed.0 (record { binds = h.binds; says = h.says; formed = h.formed.1; named = h.named.1; clean = h.clean })
    spells (core.procedure n cs false) h = s.case_lambda n (spells_cases cs (record { binds = h.binds; says = h.says; formed = h.formed.1; named = h.named.1; clean = h.clean }))
    spells (core.letrec ordered is c) h =
        let k = asked_inside (init_binders is ++ binders c) (init_mentions is ++ mentions c) (core.letrec ordered is c) (init_parts is ++ parts c) (checked (core.letrec ordered is c)) h in
        s.letrec ordered
        (spells_inits is (asked_left (init_binders is) (binders c) (init_mentions is) (mentions c) (init_parts is) (parts c) (inits_checked is) (checked c) k))
        (spells c (asked_right (init_binders is) (binders c) (init_mentions is) (mentions c) (init_parts is) (parts c) (inits_checked is) (checked c) k))
    spells (core.call c cs) h =
        let k = asked_inside (binders c ++ all_binders cs) (mentions c ++ all_mentions cs) (core.call c cs) (parts c ++ all_parts cs) (checked (core.call c cs)) h in
        s.application (spells c (first_of c cs k)) (spells_all cs (others_of c cs k))
    spells (core.instance t p) h = absurd (not_written h.clean)
    spells (core.matching c cs p) h = absurd (not_written h.clean)

    spells_all : (cs : PlainCores) → Asked (all_binders cs) (all_mentions cs) (all_parts cs) (all_checked cs) → SpellsAllCode names cs (all_spelling names cs)
    spells_all core.none h = s.no_more
    spells_all (core.more c cs) h = s.more (spells c (first_of c cs h)) (spells_all cs (others_of c cs h))

    spells_inits : (is : PlainInits) → Asked (init_binders is) (init_mentions is) (init_parts is) (inits_checked is) → SpellsInits names is (inits_spelling names is)
    spells_inits core.no_init h = s.no_init
    spells_inits (core.init l c is) h =
        let k = asked_behind (l ∷ []) (binders c ++ init_binders is) (mentions c ++ init_mentions is) (parts c ++ init_parts is) (checked c >>= λ _. inits_checked is) h in
        s.init (called l h.binds.0)
        (spells c (asked_left (binders c) (init_binders is) (mentions c) (init_mentions is) (parts c) (init_parts is) (checked c) (inits_checked is) k))
        (spells_inits is (asked_right (binders c) (init_binders is) (mentions c) (init_mentions is) (parts c) (init_parts is) (checked c) (inits_checked is) k))

    spells_cases : (cs : PlainCases) → Asked (case_binders cs) (case_mentions cs) (case_parts cs) (cases_checked cs) → SpellsCases names cs (cases_spelling names cs)
    spells_cases core.no_case h = s.no_case
    spells_cases (core.case f c cs) h =
        let k = asked_behind (formals_labels f) (binders c ++ case_binders cs) (mentions c ++ case_mentions cs) (parts c ++ case_parts cs) (checked c >>= λ _. cases_checked cs) h in
        s.case (spells_formals f.required f.rest (each-first (HasName names) (formals_labels f) (binders c ++ case_binders cs) h.binds))
        (spells c (asked_left (binders c) (case_binders cs) (mentions c) (case_mentions cs) (parts c) (case_parts cs) (checked c) (cases_checked cs) k))
        (spells_cases cs (asked_right (binders c) (case_binders cs) (mentions c) (case_mentions cs) (parts c) (case_parts cs) (checked c) (cases_checked cs) k))

    -- the one case of a `lambda`
    spells_lambda : (n : CodeNo) (cs : PlainCases) → case_count cs ≡ 1 → Asked (case_binders cs) (case_mentions cs) (case_parts cs) (cases_checked cs)
        → SpellsCode names (core.procedure n cs true) (spelling names (core.procedure n cs true))
    spells_lambda n core.no_case e h = absurd (omega (arith, e))
    spells_lambda n (core.case f c core.no_case) e h =
        let k = asked_behind (formals_labels f) (binders c ++ []) (mentions c ++ []) (parts c ++ []) (checked c >>= λ _. written) h in
        s.lambda n (spells_formals f.required f.rest (each-first (HasName names) (formals_labels f) (binders c ++ []) h.binds))
        (spells c (asked_left (binders c) [] (mentions c) [] (parts c) [] (checked c) written k))
    spells_lambda n (core.case f c (core.case g d cs)) e h = absurd (omega (arith, e))

  asked_of : (c : PlainCore) → checked c ≡ written → IsSpellable names c → AskedCore c
  asked_of c k h = record { binds = h.bound; says = h.mentioned; formed = h.forms; named = each-flat IsPrimitive own_op (parts c) h.primitives; clean = k }

pub code_is_spelled : CodeIsSpelled
code_is_spelled names c k h = (spelling names c, spells names c (asked_of names c k h))

pub lines_are_spelled : LinesAreSpelled
lines_are_spelled names (line.Define l c) k h =
    (form (codes "define") (two (word (name_of names l)) (spelling names c)), definition (called names l h.defined.0) (spells names c (asked_of names c k h.code)))
lines_are_spelled names (line.Expr c) k h = (spelling names c, expression (spells names c (asked_of names c k h.code)))
