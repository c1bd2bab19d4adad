-- What spells core code is an expression of the checker's grammar, with the names that the code binds.
use Rattle.std.proofs.Common.{◌≡◌, ℕ, suc, Bool, true, false, List, [], ◌∷◌, ◌++◌, Option, append_assoc, refl, sym, ap, subst, ◌∙◌, cond, inl, inr}
use Rattle.std.proofs.lemmas.List.{append-nil, map-append}
use Rattle.std.specs.Prelude.{◌||◌, not, codes}
use Rattle.std.specs.Cmp.Lexicographic.{bytes_decides}
use Rattle.std.specs.Str.{bytes_eq}
use Rattle.base_data.proofs.ElementLemmas.{each-at, each-append}
use Rattle.base_data.specs.Datum as datum
use Rattle.base_data.specs.Datum.{PlainDatum, unspanned}
use Rattle.base_data.specs.Elements.{Each, Among}
use Rattle.base_data.specs.Op.{op_text}
use Rattle.base_data.specs.declared.atom.Atom.TheVariants as a
use Rattle.base_data.specs.declared.name.Label.{Label}
use Rattle.check_verdict.specs.Judged.{Within}
use Rattle.check_grammar.specs.Forms as f
use Rattle.check_grammar.specs.Forms.{has, without, IsQuoted, IsFormals, IsLetrec, IsExpression, AreExpressions, AreInits, AreCases}
use Rattle.check_grammar.specs.Lines as lines
use Rattle.check_grammar.specs.Lines.{IsLineForm}
use Rattle.check_grammar.specs.Names.{IsName}
use Rattle.check_grammar.specs.Primitives.{is_primitive, is_value}
use Rattle.core_language.specs.Core.{PlainCore, PlainCores, PlainInits, PlainCases}
use Rattle.core_language.specs.References.{rest_labels, formals_labels, binders, all_binders, init_binders, case_binders}
use Rattle.core_language.specs.declared.record.Line.{Line}
use Rattle.law_core_grammar.specs.Lines as sl
use Rattle.law_core_grammar.specs.Lines.{SpellsLine}
use Rattle.law_core_grammar.specs.Names.{IsCalled, IsPrimitive}
use Rattle.law_core_grammar.specs.Spells as s
use Rattle.law_core_grammar.specs.Spells.{is_itself, letrec_keyword, SpellsFormals, SpellsCode, SpellsAllCode, SpellsInits, SpellsCases}
use Rattle.law_core_grammar.proofs.Called.{called_is, primitive_free}
use Rattle.law_core.specs.Parts.{init_labels}
use Rattle.law_core.specs.Records.{line_core, line_labels, line_binders}
use Rattle.core_output.specs.CoreText.{VariableNames, name_of}
use Rattle.law_run.specs.Names.{names_for, NamesClosed, AllNamesClosed, InitNamesClosed, CaseNamesClosed}

abbrev Words : Type 0
Words = List (List ℕ)

-- names among others

among_has : (ns : Words) (x : List ℕ) → Among ns x → has ns x ≡ true
among_has [] x h = absurd (h)
among_has (n ∷ ns) x h = elim h [
  | inl e ↦ ap (λ (b : Bool). b || has ns x) ((bytes_decides x n).1 e)
  | inr r ↦ right (bytes_eq x n) (has ns x) (among_has ns x r)
] where
  right : (b c : Bool) → c ≡ true → (b || c) ≡ true
  right true c h = refl
  right false c h = h

has_append : (xs ys : Words) (x : List ℕ) → has (xs ++ ys) x ≡ (has xs x || has ys x)
has_append [] ys x = refl
has_append (y ∷ xs) ys x = by (bytes_eq x y) (has_append xs ys x) where
  by : (b : Bool) → has (xs ++ ys) x ≡ (has xs x || has ys x) → (b || has (xs ++ ys) x) ≡ ((b || has xs x) || has ys x)
  by true e = refl
  by false e = e

pub within_append : (ns xs ys : Words) → Within ns xs → Within ns ys → Within ns (xs ++ ys)
within_append ns _ ys Within.no_name w = w
within_append ns _ ys (Within.name h v) w = Within.name h (within_append ns _ ys v w)

-- but for those in scope, free names are within the others
within_without : (xs ns fs : Words) → Within (xs ++ ns) fs → Within ns (without xs fs)
within_without xs ns _ Within.no_name = Within.no_name
within_without xs ns _ (Within.name {x = y} {xs = fs} h w) = by (has xs y) refl (within_without xs ns fs w) where
  right_of : (b c : Bool) → b ≡ false → (b || c) ≡ true → c ≡ true
  right_of true c e g = absurd (cc)
  right_of false c e g = g

  by : (b : Bool) → has xs y ≡ b → Within ns (without xs fs) → Within ns (cond (not b) (y ∷ without xs fs) (without xs fs))
  by true e go = go
  by false e go = Within.name (right_of (has xs y) (has ns y) e (sym (has_append xs ns y) ∙ h)) go

-- constants

constant_is : (d : PlainDatum) → is_itself d ≡ true → IsExpression (unspanned d) [] []
constant_is (datum.atom t a.Nil) h = absurd (cc)
constant_is (datum.atom t (a.Bool b)) h = f.constant (f.boolean b)
constant_is (datum.atom t (a.Int z)) h = f.constant (f.integer z)
constant_is (datum.atom t (a.Spelt x)) h = f.constant (f.number x)
constant_is (datum.atom t (a.Char c)) h = f.constant (f.character c)
constant_is (datum.atom t (a.Str x)) h = f.constant (f.text x)
constant_is (datum.atom t (a.Bytes ns)) h = f.constant (f.bytes ns)
constant_is (datum.symbol t x) h = absurd (cc)
constant_is (datum.pair t d e) h = absurd (cc)
constant_is (datum.vector t d) h = absurd (cc)

quoted_is : (d : PlainDatum) → is_itself d ≡ false → IsQuoted (unspanned d)
quoted_is (datum.atom t a.Nil) h = f.nothing
quoted_is (datum.atom t (a.Bool b)) h = absurd (cc)
quoted_is (datum.atom t (a.Int z)) h = absurd (cc)
quoted_is (datum.atom t (a.Spelt x)) h = absurd (cc)
quoted_is (datum.atom t (a.Char c)) h = absurd (cc)
quoted_is (datum.atom t (a.Str x)) h = absurd (cc)
quoted_is (datum.atom t (a.Bytes ns)) h = absurd (cc)
quoted_is (datum.symbol t x) h = f.name
quoted_is (datum.pair t d e) h = f.list
quoted_is (datum.vector t d) h = f.elements

primitive_is : (o : ℕ) → IsPrimitive o → is_primitive (op_text o) ≡ true
primitive_is o h = ap is_value (primitive_free o h).found ∙ ap not h.1

letrec_is : (ordered : Bool) → IsLetrec (letrec_keyword ordered)
letrec_is true = f.ordered
letrec_is false = f.plain

module _ (names : VariableNames) where
  -- what such a variable is called is a name
  abbrev pub IsGood : Label → Type 0
  IsGood l = (x : List ℕ) → IsCalled names l x → IsName x

  abbrev AllGood : List Label → Type 0
  AllGood ls = Each IsGood ls

  good_left : (ks ls : List Label) → AllGood (ks ++ ls) → AllGood ks
  good_left [] ls h = tt
  good_left (k ∷ ks) ls h = (h.0, good_left ks ls h.1)

  good_right : (ks ls : List Label) → AllGood (ks ++ ls) → AllGood ls
  good_right [] ls h = h
  good_right (k ∷ ks) ls h = good_right ks ls h.1

  abbrev N : List Label → Words
  N ls = names_for names ls

  named_append : (ks ls : List Label) → N (ks ++ ls) ≡ N ks ++ N ls
  named_append ks ls = map-append (name_of names) ks ls

  -- with the names that the code binds, in the scope of these
  record Formed (ns : Words) (c : PlainCore) (d : PlainDatum) : Type 0 where
    fs : Words
    is : IsExpression d (N (binders c)) fs
    within : Within ns fs

  record FormedAll (ns : Words) (cs : PlainCores) (d : PlainDatum) : Type 0 where
    n : ℕ
    fs : Words
    are : AreExpressions n d (N (all_binders cs)) fs
    within : Within ns fs

  record FormedInits (ns : Words) (is : PlainInits) (d : PlainDatum) : Type 0 where
    fs : Words
    are : AreInits d (N (init_labels is)) (N (init_binders is)) fs
    within : Within ns fs

  record FormedCases (ns : Words) (cs : PlainCases) (d : PlainDatum) : Type 0 where
    fs : Words
    are : AreCases d (N (case_binders cs)) fs
    within : Within ns fs

  mentioned : (ns : Words) (l : Label) (x : List ℕ) → IsCalled names l x → Among ns (name_of names l) → has ns x ≡ true
  mentioned ns l x k h = among_has ns x (subst (λ (y : List ℕ). Among ns y) (called_is names l x k) h)

  -- what is mentioned is one of the names in whose scope it is
  mention_named : (ns : Words) (l : Label) (x : List ℕ) → IsCalled names l x → Among ns (name_of names l) → Each IsName ns → IsName x
  mention_named ns l x k h all = subst IsName (called_is names l x k) (each-at IsName ns (name_of names l) all h)

  pub binder_named : (l : Label) (x : List ℕ) → IsCalled names l x → IsGood l → IsName (name_of names l)
  binder_named l x k g = subst IsName (sym (called_is names l x k)) (g x k)

  called_bound : (ls : List Label) (l : Label) (x : List ℕ) → IsCalled names l x → x ∷ N ls ≡ N (l ∷ ls)
  called_bound ls l x k = ap (λ (y : List ℕ). y ∷ N ls) (sym (called_is names l x k))

  formals_are : {ls : List Label} {r : Option Label} {d : PlainDatum} → SpellsFormals names ls r d → AllGood (ls ++ rest_labels r) → IsFormals d (N (ls ++ rest_labels r))
  formals_are s.no_rest g = f.no_rest
  formals_are (s.rest {l = l} {x = x} k) g = subst (λ (xs : Words). IsFormals (s.word x) xs) (called_bound [] l x k) (f.rest (g.0 x k))
  formals_are (s.required {l = l} {x = x} {ls = ls} {r = r} {e = e} k h) g =
      subst (λ (xs : Words). IsFormals (s.before (s.word x) e) xs) (called_bound (ls ++ rest_labels r) l x k) (f.required (g.0 x k) (formals_are h g.1))

  formals_named : {ls : List Label} {r : Option Label} {d : PlainDatum} → SpellsFormals names ls r d → AllGood (ls ++ rest_labels r) → Each IsName (N (ls ++ rest_labels r))
  formals_named s.no_rest g = tt
  formals_named (s.rest {l = l} {x = x} k) g = (binder_named l x k g.0, tt)
  formals_named (s.required {l = l} {x = x} k h) g = (binder_named l x k g.0, formals_named h g.1)

  inits_named : {is : PlainInits} {d : PlainDatum} → SpellsInits names is d → AllGood (init_binders is) → Each IsName (N (init_labels is))
  inits_named s.no_init g = tt
  inits_named (s.init {l = l} {x = x} {c = c} {is = is} h p q) g = (binder_named l x h g.0, inits_named q (good_right (binders c) (init_binders is) g.1))

  both_named : (xs ns : Words) → Each IsName xs → Each IsName ns → Each IsName (xs ++ ns)
  both_named xs ns h k = each-append IsName xs ns h k

  bound_as : {d : PlainDatum} {bs cs fs : Words} → bs ≡ cs → IsExpression d bs fs → IsExpression d cs fs
  bound_as {d} {fs = fs} e i = subst (λ (b : Words). IsExpression d b fs) e i

  all_as : {n : ℕ} {d : PlainDatum} {bs cs fs : Words} → bs ≡ cs → AreExpressions n d bs fs → AreExpressions n d cs fs
  all_as {n} {d} {fs = fs} e i = subst (λ (b : Words). AreExpressions n d b fs) e i

  mutual
    formed : {c : PlainCore} {d : PlainDatum} → SpellsCode names c d → (ns : Words) → NamesClosed names ns c → Each IsName ns → AllGood (binders c) → Formed ns c d
    formed (s.constant d h) ns k a g = record { fs = []; is = constant_is d h; within = Within.no_name }
    formed (s.quotation d h) ns k a g = record { fs = []; is = f.quotation f.single (quoted_is d h); within = Within.no_name }
    formed (s.reference {l = l} {x = x} h) ns k a g = record { fs = x ∷ []; is = f.reference (mention_named ns l x h k a); within = Within.name (mentioned ns l x h k) Within.no_name }
    formed (s.primitive o h) ns k a g = record { fs = []; is = f.primitive (primitive_is o.0 h); within = Within.no_name }
    formed (s.one_armed {t = t} {c = c} p q) ns k a g =
        let x = formed p ns k.0 a (good_left (binders t) (binders c) g) in
        let y = formed q ns k.1 a (good_right (binders t) (binders c) g) in
        let same : N (binders t) ++ (N (binders c) ++ []) ≡ N (binders t ++ binders c) = ap (λ (l : Words). N (binders t) ++ l) (append-nil (N (binders c))) ∙ sym (named_append (binders t) (binders c)) in
        record { fs = x.fs ++ (y.fs ++ []); is = bound_as same (f.one_armed (f.more x.is (f.more y.is f.no_more))); within = within_append ns x.fs (y.fs ++ []) x.within (within_append ns y.fs [] y.within Within.no_name) }
    formed (s.two_armed {t = t} {c = c} {a = o} p q r) ns k a g =
        let later = good_right (binders t) (binders c ++ binders o) g in
        let x = formed p ns k.0 a (good_left (binders t) (binders c ++ binders o) g) in
        let y = formed q ns k.1.0 a (good_left (binders c) (binders o) later) in
        let z = formed r ns k.1.1 a (good_right (binders c) (binders o) later) in
        let same : N (binders t) ++ (N (binders c) ++ (N (binders o) ++ [])) ≡ N (binders t ++ (binders c ++ binders o)) =
        ap (λ (l : Words). N (binders t) ++ (N (binders c) ++ l)) (append-nil (N (binders o))) ∙ ap (λ (l : Words). N (binders t) ++ l) (sym (named_append (binders c) (binders o))) ∙ sym (named_append (binders t) (binders c ++ binders o)) in
        record {
          fs = x.fs ++ (y.fs ++ (z.fs ++ []));
          is = bound_as same (f.two_armed (f.more x.is (f.more y.is (f.more z.is f.no_more))));
          within = within_append ns x.fs (y.fs ++ (z.fs ++ [])) x.within (within_append ns y.fs (z.fs ++ []) y.within (within_append ns z.fs [] z.within Within.no_name));
        }
    formed (s.assignment {l = l} {x = x} h p) ns k a g =
        let e = formed p ns k.1 a g in
        record { fs = x ∷ e.fs; is = f.assignment (mention_named ns l x h k.0 a) f.single e.is; within = Within.name (mentioned ns l x h k.0) e.within }
    formed (s.sequence {c = c} {cs = cs} p q) ns k a g =
        let x = formed p ns k.0 a (good_left (binders c) (all_binders cs) g) in
        let y = formed_all q ns k.1 a (good_right (binders c) (all_binders cs) g) in
        record { fs = x.fs ++ y.fs; is = bound_as (sym (named_append (binders c) (all_binders cs))) (f.sequence (f.more x.is y.are)); within = within_append ns x.fs y.fs x.within y.within }
    formed (s.lambda {f = o} {c = c} n m p) ns k a g =
        let ls = formals_labels o in
        let formals = good_left ls (binders c ++ []) g in
        let body = good_left (binders c) [] (good_right ls (binders c ++ []) g) in
        let e = formed p (N ls ++ ns) k.0 (both_named (N ls) ns (formals_named m formals) a) body in
        let same : N ls ++ N (binders c) ≡ N (ls ++ (binders c ++ [])) = sym (named_append ls (binders c)) ∙ ap (λ (l : List Label). N (ls ++ l)) (sym (append-nil (binders c))) in
        record { fs = without (N ls) e.fs; is = bound_as same (f.lambda (f.double f.single) (formals_are m formals) e.is); within = within_without (N ls) ns e.fs e.within }
    formed (s.case_lambda n p) ns k a g = let e = formed_cases p ns k a g in record { fs = e.fs; is = f.case_lambda e.are; within = e.within }
    formed (s.letrec {is = is} {c = c} ordered p q) ns k a g =
        let xs = N (init_labels is) in
        let inits = good_left (init_binders is) (binders c) g in
        let all = both_named xs ns (inits_named p inits) a in
        let x = formed_inits p (xs ++ ns) k.0 all inits in
        let y = formed q (xs ++ ns) k.1 all (good_right (init_binders is) (binders c) g) in
        record {
          fs = without xs (x.fs ++ y.fs);
          is = bound_as (sym (named_append (init_binders is) (binders c))) (f.letrec (letrec_is ordered) (f.double f.single) x.are y.is);
          within = within_without xs ns (x.fs ++ y.fs) (within_append (xs ++ ns) x.fs y.fs x.within y.within);
        }
    formed (s.application {c = c} {cs = cs} p q) ns k a g =
        let x = formed p ns k.0 a (good_left (binders c) (all_binders cs) g) in
        let y = formed_all q ns k.1 a (good_right (binders c) (all_binders cs) g) in
        record { fs = x.fs ++ y.fs; is = bound_as (sym (named_append (binders c) (all_binders cs))) (f.application x.is y.are); within = within_append ns x.fs y.fs x.within y.within }

    formed_all : {cs : PlainCores} {d : PlainDatum} → SpellsAllCode names cs d → (ns : Words) → AllNamesClosed names ns cs → Each IsName ns → AllGood (all_binders cs) → FormedAll ns cs d
    formed_all s.no_more ns k a g = record { n = 0; fs = []; are = f.no_more; within = Within.no_name }
    formed_all (s.more {c = c} {cs = cs} p q) ns k a g =
        let x = formed p ns k.0 a (good_left (binders c) (all_binders cs) g) in
        let y = formed_all q ns k.1 a (good_right (binders c) (all_binders cs) g) in
        record { n = suc y.n; fs = x.fs ++ y.fs; are = all_as (sym (named_append (binders c) (all_binders cs))) (f.more x.is y.are); within = within_append ns x.fs y.fs x.within y.within }

    formed_inits : {is : PlainInits} {d : PlainDatum} → SpellsInits names is d → (ns : Words) → InitNamesClosed names ns is → Each IsName ns → AllGood (init_binders is) → FormedInits ns is d
    formed_inits s.no_init ns k a g = record { fs = []; are = f.no_init; within = Within.no_name }
    formed_inits (s.init {l = l} {x = x} {c = c} {is = is} {d = d} {e = e} h p q) ns k a g =
        let y = formed p ns k.0 a (good_left (binders c) (init_binders is) g.1) in
        let z = formed_inits q ns k.1 a (good_right (binders c) (init_binders is) g.1) in
        let bound : x ∷ (N (binders c) ++ N (init_binders is)) ≡ N (l ∷ (binders c ++ init_binders is)) =
        ap (λ (b : Words). x ∷ b) (sym (named_append (binders c) (init_binders is))) ∙ called_bound (binders c ++ init_binders is) l x h in
        record {
          fs = y.fs ++ z.fs;
          are = subst (λ (b : Words). AreInits (s.before (s.two (s.word x) d) e) (N (l ∷ init_labels is)) b (y.fs ++ z.fs)) bound
              (subst (λ (b : Words). AreInits (s.before (s.two (s.word x) d) e) b (x ∷ (N (binders c) ++ N (init_binders is))) (y.fs ++ z.fs)) (called_bound (init_labels is) l x h) (f.init (g.0 x h) f.single y.is z.are));
          within = within_append ns y.fs z.fs y.within z.within;
        }

    formed_cases : {cs : PlainCases} {d : PlainDatum} → SpellsCases names cs d → (ns : Words) → CaseNamesClosed names ns cs → Each IsName ns → AllGood (case_binders cs) → FormedCases ns cs d
    formed_cases s.no_case ns k a g = record { fs = []; are = f.no_case; within = Within.no_name }
    formed_cases (s.case {f = o} {c = c} {cs = cs} {d = d} {e = e} {g = r} m p q) ns k a g =
        let ls = formals_labels o in
        let xs = N ls in
        let formals = good_left ls (binders c ++ case_binders cs) g in
        let later = good_right ls (binders c ++ case_binders cs) g in
        let y = formed p (xs ++ ns) k.0 (both_named xs ns (formals_named m formals) a) (good_left (binders c) (case_binders cs) later) in
        let z = formed_cases q ns k.1 a (good_right (binders c) (case_binders cs) later) in
        let bound : (xs ++ N (binders c)) ++ N (case_binders cs) ≡ N (ls ++ (binders c ++ case_binders cs)) =
        append_assoc xs (N (binders c)) (N (case_binders cs)) ∙ ap (λ (b : Words). xs ++ b) (sym (named_append (binders c) (case_binders cs))) ∙ sym (named_append ls (binders c ++ case_binders cs)) in
        record {
          fs = without xs y.fs ++ z.fs;
          are = subst (λ (b : Words). AreCases (s.before (s.two d e) r) b (without xs y.fs ++ z.fs)) bound (f.case (f.double f.single) (formals_are m formals) y.is z.are);
          within = within_append ns (without xs y.fs) z.fs (within_without xs ns y.fs y.within) z.within;
        }

  -- a line

  pub record FormedLine (ns : Words) (l : Line) (d : PlainDatum) : Type 0 where
    pub fs : Words
    pub is : IsLineForm d (N (line_labels l)) (N (line_binders l)) fs
    pub within : Within ns fs

  pub formed_line : {l : Line} {d : PlainDatum} → SpellsLine names l d → (ns : Words) → NamesClosed names ns (line_core l) → Each IsName ns → AllGood (line_binders l) → FormedLine ns l d
  formed_line (sl.definition {l = l} {x = x} {c = c} {d = d} h p) ns k a g =
      let e = formed p ns k a g.1 in
      record {
        fs = e.fs;
        is = subst (λ (b : Words). IsLineForm (s.form (codes "define") (s.two (s.word x) d)) (N (l ∷ [])) b e.fs) (called_bound (binders c) l x h)
            (subst (λ (b : Words). IsLineForm (s.form (codes "define") (s.two (s.word x) d)) b (x ∷ N (binders c)) e.fs) (called_bound [] l x h) (lines.definition (g.0 x h) f.single e.is));
        within = e.within;
      }
  formed_line (sl.expression {c = c} p) ns k a g = let e = formed p ns k a g in record { fs = e.fs; is = lines.expression e.is; within = e.within }
