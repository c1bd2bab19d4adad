-- What is closed under some labels is closed under those of them that it mentions.
use Rattle.std.proofs.Common.{ℕ, suc, ◌+◌, List, ◌++◌, refl, ap, inl, inr}
use Rattle.std.specs.Prelude.{◌⊎◌}
use Rattle.base_data.proofs.ElementLemmas.{each-append, among-first, among-second, among-parts}
use Rattle.base_data.specs.Elements.{Each, Among}
use Rattle.base_data.specs.declared.name.Label.{Label}
use Rattle.core_language.specs.Core.{PlainCore, quoted, variable, primitive, one_armed, two_armed, assignment, sequence, procedure, letrec, call, instance, matching}
use Rattle.core_language.specs.Core.{PlainCores, none, more, PlainInits, no_init, init, PlainCases, no_case, case, PlainClauses, no_clause, clause, fended}
use Rattle.core_language.specs.Pattern as pattern
use Rattle.core_language.specs.Pattern.{PlainPattern, PlainPatterns}
use Rattle.core_language.specs.References.{variables, all_variables, formals_labels, mentions, all_mentions, init_mentions, case_mentions, clause_mentions}
use Rattle.core_language.specs.Template as template
use Rattle.core_language.specs.Template.{PlainTemplate, PlainItems}
use Rattle.law_core.specs.Parts.{init_labels}
use Rattle.law_core.specs.Scope.{template_labels, item_labels, Closed, AllClosed, InitsClosed, CasesClosed, ClausesClosed}
use Rattle.law_core.specs.Templates.{Depths, depths, all_depths, Suits, ItemsSuit, TemplatesSuit, AllSuit, InitsSuit, CasesSuit, ClausesSuit}

-- ---- pattern variables, and the templates that they suit

-- all of these pattern variables are among the labels
abbrev pub Covers : Depths → List Label → Type 0
Covers vs ms = (v : Label × ℕ) → Among vs v → Among ms v.0

joined : (us vs : Depths) (ls ms : List Label) → Covers us ls → Covers vs ms → Covers (us ++ vs) (ls ++ ms)
joined us vs ls ms g h v a = by (among-parts us vs v a)
  where
    by : Among us v ⊎ Among vs v → Among (ls ++ ms) v.0
    by (inl b) = among-first ls ms v.0 (g v b)
    by (inr b) = among-second ls ms v.0 (h v b)

mutual
  pattern-covers : (n : ℕ) (p : PlainPattern) → Covers (depths n p) (variables p)
  pattern-covers n pattern.any v a = elim a [ ]
  pattern-covers n (pattern.variable l) v (inl e) = inl (ap (λ (w : Label × ℕ). w.0) e)
  pattern-covers n (pattern.variable l) v (inr a) = elim a [ ]
  pattern-covers n (pattern.literal t) v a = elim a [ ]
  pattern-covers n (pattern.atom x) v a = elim a [ ]
  pattern-covers n (pattern.list ps t) v a = joined (all_depths n ps) (depths n t) (all_variables ps) (variables t) (patterns-cover n ps) (pattern-covers n t) v a
  pattern-covers n (pattern.vector ps) v a = patterns-cover n ps v a

  patterns-cover : (n : ℕ) (ps : PlainPatterns) → Covers (all_depths n ps) (all_variables ps)
  patterns-cover n pattern.none v a = elim a [ ]
  patterns-cover n (pattern.more p ps) v a = joined (depths n p) (all_depths n ps) (variables p) (all_variables ps) (pattern-covers n p) (patterns-cover n ps) v a
  patterns-cover n (pattern.dots p ps) v a = joined (depths (suc n) p) (all_depths n ps) (variables p) (all_variables ps) (pattern-covers (suc n) p) (patterns-cover n ps) v a

mutual
  template-given : (vs : Depths) (ms : List Label) (n : ℕ) (t : PlainTemplate) → Covers vs ms → Suits vs n t → Each (Among ms) (template_labels t)
  template-given vs ms n (template.variable l d) g s = (g (l, d) s.0, tt)
  template-given vs ms n (template.constant t) g s = tt
  template-given vs ms n (template.list is t) g s =
      each-append (Among ms) (item_labels is) (template_labels t) (items-given vs ms n is g s.0) (template-given vs ms n t g s.1)
  template-given vs ms n (template.vector is) g s = items-given vs ms n is g s

  items-given : (vs : Depths) (ms : List Label) (n : ℕ) (is : PlainItems) → Covers vs ms → ItemsSuit vs n is → Each (Among ms) (item_labels is)
  items-given vs ms n template.none g s = tt
  items-given vs ms n (template.more t e is) g s =
      each-append (Among ms) (template_labels t) (item_labels is) (template-given vs ms (n + e) t g s.1.0) (items-given vs ms n is g s.1.1)

-- ---- labels of which others have what is mentioned

abbrev pub Keeps : List Label → List Label → List Label → Type 0
Keeps ls ms seen = (l : Label) → Among seen l → Among ls l → Among ms l

left : (ls ms xs ys : List Label) → Keeps ls ms (xs ++ ys) → Keeps ls ms xs
left ls ms xs ys k l a = k l (among-first xs ys l a)

right : (ls ms xs ys : List Label) → Keeps ls ms (xs ++ ys) → Keeps ls ms ys
right ls ms xs ys k l a = k l (among-second xs ys l a)

-- what is bound is kept
under : (bs ls ms seen : List Label) → Keeps ls ms seen → Keeps (bs ++ ls) (bs ++ ms) seen
under bs ls ms seen k l a b = by (among-parts bs ls l b)
  where
    by : Among bs l ⊎ Among ls l → Among (bs ++ ms) l
    by (inl c) = among-first bs ms l c
    by (inr c) = among-second bs ms l (k l a c)

covers-under : (bs : List Label) (vs : Depths) (ms : List Label) → Covers vs ms → Covers vs (bs ++ ms)
covers-under bs vs ms g v a = among-second bs ms v.0 (g v a)

clause-covers : (p : PlainPattern) (vs : Depths) (ms : List Label) → Covers vs ms → Covers (depths 0 p ++ vs) (variables p ++ ms)
clause-covers p vs ms g = joined (depths 0 p) vs (variables p) ms (pattern-covers 0 p) g

mutual
  pub kept-closed : (ls ms : List Label) (vs : Depths) (c : PlainCore) → Keeps ls ms (mentions c) → Covers vs ms → TemplatesSuit vs c → Closed ls c → Closed ms c
  kept-closed ls ms vs (quoted d) k g s h = tt
  kept-closed ls ms vs (variable l) k g s h = k l (inl refl) h
  kept-closed ls ms vs (primitive o) k g s h = tt
  kept-closed ls ms vs (one_armed c d) k g s h =
      (kept-closed ls ms vs c (left ls ms (mentions c) (mentions d) k) g s.0 h.0, kept-closed ls ms vs d (right ls ms (mentions c) (mentions d) k) g s.1 h.1)
  kept-closed ls ms vs (two_armed c d e) k g s h =
      let rest = right ls ms (mentions c) (mentions d ++ mentions e) k in (
        kept-closed ls ms vs c (left ls ms (mentions c) (mentions d ++ mentions e) k) g s.0 h.0,
        (kept-closed ls ms vs d (left ls ms (mentions d) (mentions e) rest) g s.1.0 h.1.0, kept-closed ls ms vs e (right ls ms (mentions d) (mentions e) rest) g s.1.1 h.1.1),
      )
  kept-closed ls ms vs (assignment l c) k g s h = (k l (inl refl) h.0, kept-closed ls ms vs c (λ m a. k m (inr a)) g s h.1)
  kept-closed ls ms vs (sequence cs) k g s h = all-kept ls ms vs cs k g s h
  kept-closed ls ms vs (procedure n cs p) k g s h = cases-kept ls ms vs cs k g s h
  kept-closed ls ms vs (letrec o is c) k g s h =
      let bs : List Label = init_labels is in
      let inner = under bs ls ms (init_mentions is ++ mentions c) k in
      let given = covers-under bs vs ms g in (
        inits-kept (bs ++ ls) (bs ++ ms) vs is (left (bs ++ ls) (bs ++ ms) (init_mentions is) (mentions c) inner) given s.0 h.0,
        kept-closed (bs ++ ls) (bs ++ ms) vs c (right (bs ++ ls) (bs ++ ms) (init_mentions is) (mentions c) inner) given s.1 h.1,
      )
  kept-closed ls ms vs (call c cs) k g s h =
      (kept-closed ls ms vs c (left ls ms (mentions c) (all_mentions cs) k) g s.0 h.0, all-kept ls ms vs cs (right ls ms (mentions c) (all_mentions cs) k) g s.1 h.1)
  kept-closed ls ms vs (instance t p) k g s h = template-given vs ms 0 t g s
  kept-closed ls ms vs (matching c cs p) k g s h =
      (kept-closed ls ms vs c (left ls ms (mentions c) (clause_mentions cs) k) g s.0 h.0, clauses-kept ls ms vs cs (right ls ms (mentions c) (clause_mentions cs) k) g s.1 h.1)

  all-kept : (ls ms : List Label) (vs : Depths) (cs : PlainCores) → Keeps ls ms (all_mentions cs) → Covers vs ms → AllSuit vs cs → AllClosed ls cs → AllClosed ms cs
  all-kept ls ms vs none k g s h = tt
  all-kept ls ms vs (more c cs) k g s h =
      (kept-closed ls ms vs c (left ls ms (mentions c) (all_mentions cs) k) g s.0 h.0, all-kept ls ms vs cs (right ls ms (mentions c) (all_mentions cs) k) g s.1 h.1)

  inits-kept : (ls ms : List Label) (vs : Depths) (is : PlainInits) → Keeps ls ms (init_mentions is) → Covers vs ms → InitsSuit vs is → InitsClosed ls is → InitsClosed ms is
  inits-kept ls ms vs no_init k g s h = tt
  inits-kept ls ms vs (init l c is) k g s h =
      (kept-closed ls ms vs c (left ls ms (mentions c) (init_mentions is) k) g s.0 h.0, inits-kept ls ms vs is (right ls ms (mentions c) (init_mentions is) k) g s.1 h.1)

  cases-kept : (ls ms : List Label) (vs : Depths) (cs : PlainCases) → Keeps ls ms (case_mentions cs) → Covers vs ms → CasesSuit vs cs → CasesClosed ls cs → CasesClosed ms cs
  cases-kept ls ms vs no_case k g s h = tt
  cases-kept ls ms vs (case f c cs) k g s h =
      let bs : List Label = formals_labels f in (
        kept-closed (bs ++ ls) (bs ++ ms) vs c (under bs ls ms (mentions c) (left ls ms (mentions c) (case_mentions cs) k)) (covers-under bs vs ms g) s.0 h.0,
        cases-kept ls ms vs cs (right ls ms (mentions c) (case_mentions cs) k) g s.1 h.1,
      )

  clauses-kept : (ls ms : List Label) (vs : Depths) (cs : PlainClauses) → Keeps ls ms (clause_mentions cs) → Covers vs ms → ClausesSuit vs cs → ClausesClosed ls cs → ClausesClosed ms cs
  clauses-kept ls ms vs no_clause k g s h = tt
  clauses-kept ls ms vs (clause p c cs) k g s h =
      let bs : List Label = variables p in (
        kept-closed (bs ++ ls) (bs ++ ms) (depths 0 p ++ vs) c (under bs ls ms (mentions c) (left ls ms (mentions c) (clause_mentions cs) k)) (clause-covers p vs ms g) s.0 h.0,
        clauses-kept ls ms vs cs (right ls ms (mentions c) (clause_mentions cs) k) g s.1 h.1,
      )
  clauses-kept ls ms vs (fended p f c cs) k g s h =
      let bs : List Label = variables p in
      let given = clause-covers p vs ms g in
      let rest = right ls ms (mentions f) (mentions c ++ clause_mentions cs) k in (
        kept-closed (bs ++ ls) (bs ++ ms) (depths 0 p ++ vs) f (under bs ls ms (mentions f) (left ls ms (mentions f) (mentions c ++ clause_mentions cs) k)) given s.0 h.0,
        (
          kept-closed (bs ++ ls) (bs ++ ms) (depths 0 p ++ vs) c (under bs ls ms (mentions c) (left ls ms (mentions c) (clause_mentions cs) rest)) given s.1.0 h.1.0,
          clauses-kept ls ms vs cs (right ls ms (mentions c) (clause_mentions cs) rest) g s.1.1 h.1.1,
        ),
      )
