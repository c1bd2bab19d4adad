-- Core code from the datum that spells it.
use Rattle.std.proofs.Common.{◌≡◌, ℕ, Bool, true, false, List, [], ◌∷◌, map, refl, sym, ap, ◌∙◌, Option, Some, None}
use Rattle.std.specs.Prelude.{◌==◌, nat_eq, codes, if◌then◌else◌, option_map}
use Rattle.std.specs.Cmp.Lexicographic.{pointwise}
use Rattle.std.specs.Map.{lookup}
use Rattle.base_data.specs.Datum as datum
use Rattle.base_data.specs.Datum.{PlainDatum, nil, unspanned}
use Rattle.base_data.specs.Op.{op_text, op_named}
use Rattle.base_data.specs.Same.{texts_decides}
use Rattle.base_data.specs.declared.name.Label.{Label}
use Rattle.base_data.specs.declared.op.Op.{Op}
use Rattle.core_language.specs.Core as core
use Rattle.core_language.specs.Core.{PlainCore, PlainCores, PlainInits, PlainCases}
use Rattle.core_language.specs.Labels.{same_label}
use Rattle.core_language.specs.declared.formals.Formals.{Formals}
use Rattle.core_language.specs.declared.record.Line.{Line}
use Rattle.core_language.specs.declared.record.Line.TheVariants as line
use Rattle.law_core.proofs.Decisions.{label_decides}
use Rattle.core_output.specs.CoreText.{VariableNames, name_of}
use Rattle.law_core_grammar.specs.Names.{IsCalled, AreGenerated, TellApart}
use Rattle.law_core_grammar.specs.Spells.{word, before, form, one, two, is_itself, SpellsFormals, no_rest, rest, required}
use Rattle.law_core_grammar.specs.Spells as s
use Rattle.law_core_grammar.specs.Spells.{SpellsCode, SpellsAllCode, SpellsInits, SpellsCases}
use Rattle.law_core_grammar.specs.Lines.{SpellsLine, definition, expression}
use Rattle.law_core_grammar.specs.SameCode.{any_number, told_formals, told, all_told, inits_told, cases_told, line_told, label_called}
use Rattle.law_core_grammar.specs.Laws.{OneCodeByNames, OneLineByNames, OneCode, OneLine}
use Rattle.law_core_grammar.proofs.Called.{is_core_keyword, is_define, is_generated, IsFree, primitive_free, generated_free, generated_undefined, generated_is, called_percented, called_is}

-- what no datum that spells code comes to
abbrev stray : PlainCore
stray = core.sequence core.none

-- the text of a symbol, and nothing of any other datum
abbrev symbol_name : PlainDatum → List ℕ
symbol_name (datum.atom s x) = []
symbol_name (datum.symbol s x) = x
symbol_name (datum.pair s d e) = []
symbol_name (datum.vector s d) = []

abbrev first : PlainDatum → PlainDatum
first (datum.atom s x) = nil
first (datum.symbol s x) = nil
first (datum.pair s d e) = d
first (datum.vector s d) = nil

abbrev head_core : PlainCores → PlainCore
head_core core.none = stray
head_core (core.more c cs) = c

abbrev second_core : PlainCores → PlainCore
second_core core.none = stray
second_core (core.more c cs) = head_core cs

abbrev two_or_three : PlainCore → PlainCore → PlainCores → PlainCore
two_or_three t c core.none = core.one_armed t c
two_or_three t c (core.more e cs) = core.two_armed t c e

abbrev if_behind : PlainCore → PlainCores → PlainCore
if_behind t core.none = stray
if_behind t (core.more c cs) = two_or_three t c cs

abbrev if_code : PlainCores → PlainCore
if_code core.none = stray
if_code (core.more t cs) = if_behind t cs

abbrev op_of : Option ℕ → Op
op_of None = record { 0 = 0 }
op_of (Some n) = record { 0 = n }

abbrev is_word : List ℕ → List ℕ → Bool
is_word x w = pointwise ◌==◌ x w

by_true : {A : Type 0} (b : Bool) (x y : A) → b ≡ true → (if b then x else y) ≡ x
by_true true x y h = refl
by_true false x y h = absurd (cc)

by_false : {A : Type 0} (b : Bool) (x y : A) → b ≡ false → (if b then x else y) ≡ y
by_false true x y h = absurd (cc)
by_false false x y h = refl

-- where these labels have names
module _ (label : List ℕ → Label) where
  abbrev name_code : List ℕ → PlainCore
  name_code x = if is_generated x then core.variable (label x) else core.primitive (op_of (op_named x))

  abbrev labels_of : PlainDatum → List Label
  labels_of (datum.atom s x) = []
  labels_of (datum.symbol s x) = []
  labels_of (datum.pair s d e) = label (symbol_name d) ∷ labels_of e
  labels_of (datum.vector s d) = []

  abbrev rest_label : PlainDatum → Option Label
  rest_label (datum.atom s x) = None
  rest_label (datum.symbol s x) = Some (label x)
  rest_label (datum.pair s d e) = rest_label e
  rest_label (datum.vector s d) = None

  abbrev formals_code : PlainDatum → Formals
  formals_code d = record { required = labels_of d; rest = rest_label d }

  -- the form of a keyword, from its parts as expressions, as cases, and as data
  abbrev form_code : List ℕ → PlainCores → PlainCases → PlainInits → PlainDatum → PlainCore
  form_code w cs cases inits parts = if is_word w (codes "quote") then core.quoted (first parts)
      else if is_word w (codes "if") then if_code cs
      else if is_word w (codes "set!") then core.assignment (label (symbol_name (first parts))) (second_core cs)
      else if is_word w (codes "begin") then core.sequence cs
      else if is_word w (codes "lambda") then core.procedure any_number (core.case (formals_code (first parts)) (second_core cs) core.no_case) true
      else if is_word w (codes "case-lambda") then core.procedure any_number cases false
      else core.letrec (is_word w (codes "letrec*")) inits (second_core cs)

  abbrev list_code : List ℕ → PlainCore → PlainCores → PlainCases → PlainInits → PlainDatum → PlainCore
  list_code w c cs cases inits parts = if is_core_keyword w then form_code w cs cases inits parts else core.call c cs

  abbrev mutual
    core_of : PlainDatum → PlainCore
    core_of (datum.atom s x) = core.quoted (datum.atom s x)
    core_of (datum.symbol s x) = name_code x
    core_of (datum.pair s d e) = list_code (symbol_name d) (core_of d) (all_of e) (cases_of e) (first_inits e) e
    core_of (datum.vector s d) = stray

    all_of : PlainDatum → PlainCores
    all_of (datum.atom s x) = core.none
    all_of (datum.symbol s x) = core.none
    all_of (datum.pair s d e) = core.more (core_of d) (all_of e)
    all_of (datum.vector s d) = core.none

    cases_of : PlainDatum → PlainCases
    cases_of (datum.atom s x) = core.no_case
    cases_of (datum.symbol s x) = core.no_case
    cases_of (datum.pair s d e) = core.case (formals_code (first d)) (second_core (all_of d)) (cases_of e)
    cases_of (datum.vector s d) = core.no_case

    inits_of : PlainDatum → PlainInits
    inits_of (datum.atom s x) = core.no_init
    inits_of (datum.symbol s x) = core.no_init
    inits_of (datum.pair s d e) = core.init (label (symbol_name (first d))) (second_core (all_of d)) (inits_of e)
    inits_of (datum.vector s d) = core.no_init

    first_inits : PlainDatum → PlainInits
    first_inits (datum.atom s x) = core.no_init
    first_inits (datum.symbol s x) = core.no_init
    first_inits (datum.pair s d e) = inits_of d
    first_inits (datum.vector s d) = core.no_init

  abbrev is_definition : PlainDatum → Bool
  is_definition (datum.atom s x) = false
  is_definition (datum.symbol s x) = false
  is_definition (datum.pair s d e) = is_define (symbol_name d)
  is_definition (datum.vector s d) = false

  abbrev parts_of : PlainDatum → PlainDatum
  parts_of (datum.atom s x) = nil
  parts_of (datum.symbol s x) = nil
  parts_of (datum.pair s d e) = e
  parts_of (datum.vector s d) = nil

  abbrev line_of : PlainDatum → Line
  line_of d = if is_definition d then line.Define (label (symbol_name (first (parts_of d)))) (second_core (all_of (parts_of d))) else line.Expr (core_of d)

  variable_is : (x : List ℕ) → is_generated x ≡ true → name_code x ≡ core.variable (label x)
  variable_is x h = by_true (is_generated x) (core.variable (label x)) (core.primitive (op_of (op_named x))) h

  primitive_is : (o : Op) → IsFree o.0 → name_code (op_text o.0) ≡ core.primitive o
  primitive_is o h =
      by_false (is_generated (op_text o.0)) (core.variable (label (op_text o.0))) (core.primitive (op_of (op_named (op_text o.0)))) h.apart
      ∙ ap (λ (m : Option ℕ). core.primitive (op_of m)) h.found

  call_is : (w : List ℕ) (c : PlainCore) (cs : PlainCores) (cases : PlainCases) (inits : PlainInits) (parts : PlainDatum) → is_core_keyword w ≡ false → list_code w c cs cases inits parts ≡ core.call c cs
  call_is w c cs cases inits parts h = by_false (is_core_keyword w) (form_code w cs cases inits parts) (core.call c cs) h

  expression_is : (d : PlainDatum) → is_definition d ≡ false → line_of d ≡ line.Expr (core_of d)
  expression_is d h = by_false (is_definition d) (line.Define (label (symbol_name (first (parts_of d)))) (second_core (all_of (parts_of d)))) (line.Expr (core_of d)) h

  module _ (put : Label → Label) (names : VariableNames) (good : AreGenerated names) (right : (l : Label) (x : List ℕ) → IsCalled names l x → label x ≡ put l) where
    labels_are : {ls : List Label} {r : Option Label} {d : PlainDatum} → SpellsFormals names ls r d → labels_of d ≡ map put ls
    labels_are no_rest = refl
    labels_are (rest h) = refl
    labels_are (required {l} {x} h others) = λ i. right l x h i ∷ labels_are others i

    rest_is : {ls : List Label} {r : Option Label} {d : PlainDatum} → SpellsFormals names ls r d → rest_label d ≡ option_map put r
    rest_is no_rest = refl
    rest_is (rest {l} {x} h) = ap Some (right l x h)
    rest_is (required h others) = rest_is others

    formals_are : {f : Formals} {d : PlainDatum} → SpellsFormals names f.required f.rest d → formals_code d ≡ told_formals put f
    formals_are fs = λ i. record { required = labels_are fs i; rest = rest_is fs i }

    itself_free : (d : PlainDatum) → is_itself d ≡ true → symbol_name (unspanned d) ≡ []
    itself_free (datum.atom s x) h = refl
    itself_free (datum.symbol s x) h = absurd (cc)
    itself_free (datum.pair s d e) h = absurd (cc)
    itself_free (datum.vector s d) h = absurd (cc)

    itself_code : (d : PlainDatum) → is_itself d ≡ true → core_of (unspanned d) ≡ core.quoted (unspanned d)
    itself_code (datum.atom s x) h = refl
    itself_code (datum.symbol s x) h = absurd (cc)
    itself_code (datum.pair s d e) h = absurd (cc)
    itself_code (datum.vector s d) h = absurd (cc)

    -- an operator is no keyword
    head_free : {c : PlainCore} {d : PlainDatum} → SpellsCode names c d → is_core_keyword (symbol_name d) ≡ false
    head_free (s.constant d h) = ap is_core_keyword (itself_free d h)
    head_free (s.quotation d h) = refl
    head_free (s.reference {l} {x} h) = generated_free x (called_percented names good l x h)
    head_free (s.primitive o h) = (primitive_free o.0 h).free
    head_free (s.one_armed p q) = refl
    head_free (s.two_armed p q r) = refl
    head_free (s.assignment h p) = refl
    head_free (s.sequence p ps) = refl
    head_free (s.lambda n fs p) = refl
    head_free (s.case_lambda n ps) = refl
    head_free (s.letrec ordered ps p) = refl
    head_free (s.application p ps) = refl

    head_undefined : {c : PlainCore} {d : PlainDatum} → SpellsCode names c d → is_define (symbol_name d) ≡ false
    head_undefined (s.constant d h) = ap is_define (itself_free d h)
    head_undefined (s.quotation d h) = refl
    head_undefined (s.reference {l} {x} h) = generated_undefined x (called_percented names good l x h)
    head_undefined (s.primitive o h) = (primitive_free o.0 h).undefined
    head_undefined (s.one_armed p q) = refl
    head_undefined (s.two_armed p q r) = refl
    head_undefined (s.assignment h p) = refl
    head_undefined (s.sequence p ps) = refl
    head_undefined (s.lambda n fs p) = refl
    head_undefined (s.case_lambda n ps) = refl
    head_undefined (s.letrec ordered ps p) = refl
    head_undefined (s.application p ps) = refl

    itself_undefined : (d : PlainDatum) → is_itself d ≡ true → is_definition (unspanned d) ≡ false
    itself_undefined (datum.atom s x) h = refl
    itself_undefined (datum.symbol s x) h = absurd (cc)
    itself_undefined (datum.pair s d e) h = absurd (cc)
    itself_undefined (datum.vector s d) h = absurd (cc)

    -- an expression is no definition
    undefined : {c : PlainCore} {d : PlainDatum} → SpellsCode names c d → is_definition d ≡ false
    undefined (s.constant d h) = itself_undefined d h
    undefined (s.quotation d h) = refl
    undefined (s.reference h) = refl
    undefined (s.primitive o h) = refl
    undefined (s.one_armed p q) = refl
    undefined (s.two_armed p q r) = refl
    undefined (s.assignment h p) = refl
    undefined (s.sequence p ps) = refl
    undefined (s.lambda n fs p) = refl
    undefined (s.case_lambda n ps) = refl
    undefined (s.letrec true ps p) = refl
    undefined (s.letrec false ps p) = refl
    undefined (s.application p ps) = head_undefined p

    mutual
      core_is : {c : PlainCore} {d : PlainDatum} → SpellsCode names c d → core_of d ≡ told put c
      core_is (s.constant d h) = itself_code d h
      core_is (s.quotation d h) = refl
      core_is (s.reference {l} {x} h) = variable_is x (generated_is x (called_percented names good l x h)) ∙ ap core.variable (right l x h)
      core_is (s.primitive o h) = primitive_is o (primitive_free o.0 h)
      core_is (s.one_armed p q) = λ i. core.one_armed (core_is p i) (core_is q i)
      core_is (s.two_armed p q r) = λ i. core.two_armed (core_is p i) (core_is q i) (core_is r i)
      core_is (s.assignment {l} {x} h p) = λ i. core.assignment (right l x h i) (core_is p i)
      core_is (s.sequence p ps) = λ i. core.sequence (core.more (core_is p i) (all_are ps i))
      core_is (s.lambda {f} n fs p) = λ i. core.procedure any_number (core.case (formals_are {f = f} fs i) (core_is p i) core.no_case) true
      core_is (s.case_lambda n ps) = λ i. core.procedure any_number (cases_are ps i) false
      core_is (s.letrec true ps p) = λ i. core.letrec true (inits_are ps i) (core_is p i)
      core_is (s.letrec false ps p) = λ i. core.letrec false (inits_are ps i) (core_is p i)
      core_is (s.application {c} {cs} {d} {e} p ps) =
          call_is (symbol_name d) (core_of d) (all_of e) (cases_of e) (first_inits e) e (head_free p) ∙ (λ i. core.call (core_is p i) (all_are ps i))

      all_are : {cs : PlainCores} {e : PlainDatum} → SpellsAllCode names cs e → all_of e ≡ all_told put cs
      all_are s.no_more = refl
      all_are (s.more p ps) = λ i. core.more (core_is p i) (all_are ps i)

      cases_are : {cs : PlainCases} {e : PlainDatum} → SpellsCases names cs e → cases_of e ≡ cases_told put cs
      cases_are s.no_case = refl
      cases_are (s.case {f} fs p ps) = λ i. core.case (formals_are {f = f} fs i) (core_is p i) (cases_are ps i)

      inits_are : {is : PlainInits} {e : PlainDatum} → SpellsInits names is e → inits_of e ≡ inits_told put is
      inits_are s.no_init = refl
      inits_are (s.init {l} {x} h p ps) = λ i. core.init (right l x h i) (core_is p i) (inits_are ps i)

    line_is : {l : Line} {d : PlainDatum} → SpellsLine names l d → line_of d ≡ line_told put l
    line_is (definition {l} {x} h p) = λ i. line.Define (right l x h i) (core_is p i)
    line_is (expression {c} {d} p) = expression_is d (undefined p) ∙ ap line.Expr (core_is p)

-- each label by its name
by_name : (names : VariableNames) (l : Label) (x : List ℕ) → IsCalled names l x → label_called x ≡ label_called (name_of names l)
by_name names l x h = ap label_called (sym (called_is names l x h))

pub one_code_by_names : OneCodeByNames
one_code_by_names names others c e d good fine p q =
    sym (core_is label_called (λ l. label_called (name_of names l)) names good (by_name names) p)
    ∙ core_is label_called (λ l. label_called (name_of others l)) others fine (by_name others) q

pub one_line_by_names : OneLineByNames
one_line_by_names names others k l d good fine p q =
    sym (line_is label_called (λ l. label_called (name_of names l)) names good (by_name names) p)
    ∙ line_is label_called (λ l. label_called (name_of others l)) others fine (by_name others) q

-- the label of a name
abbrev is_text : List ℕ → Option (List ℕ) → Bool
is_text x None = false
is_text x (Some y) = pointwise nat_eq y x

abbrev is_called : VariableNames → Label → List ℕ → Bool
is_called names l x = is_text x (lookup (same_label l) names)

abbrev label_among : VariableNames → VariableNames → List ℕ → Label
label_among names [] x = label_called x
label_among names (r ∷ rs) x = if is_called names r.0 x then r.0 else label_among names rs x

is_text_is : (x : List ℕ) (o : Option (List ℕ)) → is_text x o ≡ true → o ≡ Some x
is_text_is x None h = absurd (cc)
is_text_is x (Some y) h = ap Some ((texts_decides y x).0 h)

text_is : (x : List ℕ) (o : Option (List ℕ)) → o ≡ Some x → is_text x o ≡ true
text_is x o h = ap (is_text x) h ∙ (texts_decides x x).1 refl

clash : (b : Bool) → b ≡ true → b ≡ false → ⊥
clash true h k = cc
clash false h k = cc

module _ (names : VariableNames) (apart : TellApart names) where
  label_is : (l : Label) (x : List ℕ) → IsCalled names l x → (rows : VariableNames) (y : List ℕ) → lookup (same_label l) rows ≡ Some y → label_among names rows x ≡ l
  label_is l x h [] y e = absurd (cc)
  label_is l x h (r ∷ rs) y e = by_test (is_called names r.0 x) refl (λ f. label_is l x h rs y f) where
    behind : (b : Bool) → same_label l r.0 ≡ b → is_called names r.0 x ≡ false → (if b then Some r.1 else lookup (same_label l) rs) ≡ Some y → lookup (same_label l) rs ≡ Some y
    behind true same never f =
        let here : is_called names r.0 x ≡ true = ap (λ (k : Label). is_called names k x) (sym ((label_decides l r.0).0 same)) ∙ text_is x (lookup (same_label l) names) h in
        absurd (clash (is_called names r.0 x) here never)
    behind false same never f = f

    by_test : (b : Bool) → is_called names r.0 x ≡ b → (lookup (same_label l) rs ≡ Some y → label_among names rs x ≡ l) → (if b then r.0 else label_among names rs x) ≡ l
    by_test true t others = apart r.0 l x (is_text_is x (lookup (same_label r.0) names) t) h
    by_test false t others = others (behind (same_label l r.0) refl t e)

  label_found : (l : Label) (x : List ℕ) → IsCalled names l x → label_among names names x ≡ l
  label_found l x h = label_is l x h names x h

pub one_code : OneCode
one_code names c e d good apart p q =
    sym (core_is (label_among names names) (λ l. l) names good (label_found names apart) p) ∙ core_is (label_among names names) (λ l. l) names good (label_found names apart) q

pub one_line : OneLine
one_line names k l d good apart p q =
    sym (line_is (label_among names names) (λ m. m) names good (label_found names apart) p) ∙ line_is (label_among names names) (λ m. m) names good (label_found names apart) q
