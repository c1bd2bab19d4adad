-- Core code that is closed and well made is ready where it finds what it is closed under.
use Rattle.std.proofs.Common.{◌≡◌, ◌≤◌, ℕ, suc, Bool, true, false, List, [], ◌∷◌, ◌++◌, ◌+◌, Some, cond, refl, ap, sym, subst, ◌∙◌, arith, inl, inr}
use Rattle.std.specs.Prelude.{◌⊎◌}
use Rattle.std.specs.Map.{lookup}
use Rattle.base_data.proofs.ElementLemmas.{each-at, each-of, each-first, each-last, among-first, among-second, among-parts, once-first, once-second}
use Rattle.base_data.specs.Elements.{Each, Among, Once}
use Rattle.base_data.specs.declared.name.Label.{Label}
use Rattle.core_language.specs.Core.{PlainCore, quoted, variable, primitive, one_armed, two_armed, assignment, sequence, procedure, letrec, call, instance, matching}
use Rattle.core_language.specs.Core.{PlainCores, none, more, PlainInits, no_init, init, PlainCases, no_case, case, PlainClauses, no_clause, clause, fended}
use Rattle.core_language.specs.Labels.{same_label}
use Rattle.core_language.specs.Pattern as pattern
use Rattle.core_language.specs.Pattern.{PlainPattern, PlainPatterns}
use Rattle.core_language.specs.References.{variables, all_variables, formals_labels, binders, all_binders, init_binders, case_binders, clause_binders}
use Rattle.core_language.specs.References.{mentions, all_mentions, init_mentions, case_mentions, clause_mentions}
use Rattle.core_language.specs.Template as template
use Rattle.core_language.specs.Template.{PlainTemplate, PlainItems}
use Rattle.law_core.specs.Parts.{parts, all_parts, init_parts, case_parts, clause_parts, core_count, init_labels, clause_patterns, own_patterns}
use Rattle.law_core.specs.Scope.{Closed, AllClosed, InitsClosed, CasesClosed, ClausesClosed}
use Rattle.law_core.specs.Templates.{Depths, depths, all_depths, Suits, ItemsSuit, TemplatesSuit, AllSuit, InitsSuit, CasesSuit, ClausesSuit}
use Rattle.law_core.specs.WellMade.{HasForm, given_labels}
use Rattle.law_core.proofs.Decisions.{label_decides}
use Rattle.eval_code.specs.Setting.{PlainSetting}
use Rattle.law_whole.specs.Ready.{Variables, PatternVariables, Besides, OrThisDepth, BesidesPattern, FindsAll, FindsItems, Ready, SequenceReady, AllReady, InitsReady, CasesReady, ClausesReady}
use Rattle.law_whole.proofs.Among.{no_truth, one_of, once_apart}
use Rattle.law_whole.proofs.Numbered.{CodeStands}

-- The labels of pattern variables with their depths.

labels_both : (ds es : Depths) → given_labels (ds ++ es) ≡ given_labels ds ++ given_labels es
labels_both [] es = refl
labels_both (d ∷ ds) es = ap (λ ls. d.0 ∷ ls) (labels_both ds es)

both_labels : (ds es : Depths) (xs ys : List Label) → given_labels ds ≡ xs → given_labels es ≡ ys → given_labels (ds ++ es) ≡ xs ++ ys
both_labels ds es xs ys h k = labels_both ds es ∙ ap (λ ls. ls ++ given_labels es) h ∙ ap (λ ls. xs ++ ls) k

mutual
  pattern_labels : (n : ℕ) (p : PlainPattern) → given_labels (depths n p) ≡ variables p
  pattern_labels n pattern.any = refl
  pattern_labels n (pattern.variable l) = refl
  pattern_labels n (pattern.literal t) = refl
  pattern_labels n (pattern.atom a) = refl
  pattern_labels n (pattern.list ps t) = both_labels (all_depths n ps) (depths n t) (all_variables ps) (variables t) (all_labels n ps) (pattern_labels n t)
  pattern_labels n (pattern.vector ps) = all_labels n ps

  all_labels : (n : ℕ) (ps : PlainPatterns) → given_labels (all_depths n ps) ≡ all_variables ps
  all_labels n pattern.none = refl
  all_labels n (pattern.more p ps) = both_labels (depths n p) (all_depths n ps) (variables p) (all_variables ps) (pattern_labels n p) (all_labels n ps)
  all_labels n (pattern.dots p ps) = both_labels (depths (suc n) p) (all_depths n ps) (variables p) (all_variables ps) (pattern_labels (suc n) p) (all_labels n ps)

label_among : (ds : Depths) (l : Label) (d : ℕ) → Among ds (l, d) → Among (given_labels ds) l
label_among [] l d a = absurd a
label_among (e ∷ ds) l d (inl h) = inl (ap (λ (x : Label × ℕ). x.0) h)
label_among (e ∷ ds) l d (inr a) = inr (label_among ds l d a)

-- What is found.

-- the label of a variable is found, where it is none of the pattern variables
abbrev pub Finds : List Label → Variables → List Label → Type 0
Finds qs F ls = (l : Label) → Among ls l → (Among qs l → ⊥) → F l

finds_besides : (qs : List Label) (F : Variables) (ms ls : List Label) → Finds qs F ls → Finds qs (Besides ms F) (ms ++ ls)
finds_besides qs F ms ls f l a q = elim (among-parts ms ls l a) [ inl b ↦ inl (one_of ms l b) | inr b ↦ inr (f l b q) ]

-- those of a pattern are none that a variable may be
finds_pattern : (qs : List Label) (F : Variables) (ms ls : List Label) → Each (Among qs) ms → Finds qs F ls → Finds qs F (ms ++ ls)
finds_pattern qs F ms ls h f l a q = elim (among-parts ms ls l a) [ inl b ↦ absurd (q (each-at (Among qs) ms l h b)) | inr b ↦ f l b q ]

abbrev pub Binds : PatternVariables → Depths → Type 0
Binds G vs = (l : Label) (d : ℕ) → Among vs (l, d) → G l d

binds_pattern : (G : PatternVariables) (ds vs : Depths) → Binds G vs → Once (given_labels ds) → Each (λ l. Among (given_labels vs) l → ⊥) (given_labels ds)
    → Binds (BesidesPattern ds G) (ds ++ vs)
binds_pattern G [] vs b once apart l d a = b l d a
binds_pattern G (e ∷ ds) vs b once apart l d a = by_own (same_label l e.0) refl (binds_pattern G ds vs b once.1 apart.1 l d) a
  where
    rest : Among (ds ++ vs) (l, d) → Among (given_labels ds) l ⊎ Among (given_labels vs) l
    rest h = elim (among-parts ds vs (l, d) h) [ inl k ↦ inl (label_among ds l d k) | inr k ↦ inr (label_among vs l d k) ]

    not_again : l ≡ e.0 → Among (given_labels ds) l ⊎ Among (given_labels vs) l → ⊥
    not_again h (inl k) = once.0 (subst (Among (given_labels ds)) h k)
    not_again h (inr k) = apart.0 (subst (Among (given_labels vs)) h k)

    by_own : (t : Bool) → same_label l e.0 ≡ t → (Among (ds ++ vs) (l, d) → OrThisDepth d (G l d) (lookup (same_label l) ds)) → Among ((e ∷ ds) ++ vs) (l, d)
        → OrThisDepth d (G l d) (cond t (Some e.1) (lookup (same_label l) ds))
    by_own true h again (inl k) = sym (ap (λ (x : Label × ℕ). x.1) k)
    by_own true h again (inr k) = absurd (not_again ((label_decides l e.0).0 h) (rest k))
    by_own false h again (inl k) = absurd (no_truth (sym h ∙ (label_decides l e.0).1 (ap (λ (x : Label × ℕ). x.0) k)))
    by_own false h again (inr k) = again k

-- Templates.

mutual
  suits_finds : (G : PatternVariables) (vs : Depths) → Binds G vs → (n : ℕ) (t : PlainTemplate) → Suits vs n t → FindsAll G t
  suits_finds G vs b n (template.variable l d) h = b l d h.0
  suits_finds G vs b n (template.constant t) h = tt
  suits_finds G vs b n (template.list is t) h = (items_find G vs b n is h.0, suits_finds G vs b n t h.1)
  suits_finds G vs b n (template.vector is) h = items_find G vs b n is h

  items_find : (G : PatternVariables) (vs : Depths) → Binds G vs → (n : ℕ) (is : PlainItems) → ItemsSuit vs n is → FindsItems G is
  items_find G vs b n template.none h = tt
  items_find G vs b n (template.more t e is) h = (suits_finds G vs b (n + e) t h.1.0, items_find G vs b n is h.1.1)

module _ (v : PlainSetting) (qs : List Label) where
  -- an expression has its form, its code stands at its number, and its pattern variables are among these
  abbrev pub PartSound : PlainCore → Type 0
  PartSound e = HasForm e × (CodeStands v.codes e × Each (λ p. Each (Among qs) (variables p)) (own_patterns e))

  -- what is asked of parts, of the labels that they mention and of those that they bind, inside of pattern variables
  pub record Sound (outer : List Label) (ps : List PlainCore) (ms bs : List Label) : Type 0 where
    pub parts : Each PartSound ps
    pub unmentioned : Each (λ l. Among qs l → ⊥) ms
    pub once : Once bs
    pub apart : Each (λ l. Among outer l → ⊥) bs

  first : (outer : List Label) (ps : List PlainCore) (ms bs : List Label) (ps' : List PlainCore) (ms' bs' : List Label) → Sound outer (ps ++ ps') (ms ++ ms') (bs ++ bs') → Sound outer ps ms bs
  first outer ps ms bs ps' ms' bs' s = record {
    parts = each-first PartSound ps ps' s.parts;
    unmentioned = each-first (λ l. Among qs l → ⊥) ms ms' s.unmentioned;
    once = once-first bs bs' s.once;
    apart = each-first (λ l. Among outer l → ⊥) bs bs' s.apart;
  }

  second : (outer : List Label) (ps : List PlainCore) (ms bs : List Label) (ps' : List PlainCore) (ms' bs' : List Label) → Sound outer (ps ++ ps') (ms ++ ms') (bs ++ bs') → Sound outer ps' ms' bs'
  second outer ps ms bs ps' ms' bs' s = record {
    parts = each-last PartSound ps ps' s.parts;
    unmentioned = each-last (λ l. Among qs l → ⊥) ms ms' s.unmentioned;
    once = once-second bs bs' s.once;
    apart = each-last (λ l. Among outer l → ⊥) bs bs' s.apart;
  }

  inner : (outer : List Label) (e : PlainCore) (ps : List PlainCore) (ms bs : List Label) → Sound outer (e ∷ ps) ms bs → Sound outer ps ms bs
  inner outer e ps ms bs s = record { parts = s.parts.1; unmentioned = s.unmentioned; once = s.once; apart = s.apart }

  -- inside of further ones, which what stands there doesn't bind
  within : (outer round : List Label) (ps : List PlainCore) (ms bs : List Label) → ((l : Label) → Among bs l → Among round l → ⊥) → Sound outer ps ms bs → Sound (round ++ outer) ps ms bs
  within outer round ps ms bs h s = record {
    parts = s.parts;
    unmentioned = s.unmentioned;
    once = s.once;
    apart = each-of (λ l. Among (round ++ outer) l → ⊥) bs
        (λ l a b. elim (among-parts round outer l b) [ inl k ↦ h l a k | inr k ↦ each-at (λ m. Among outer m → ⊥) bs l s.apart a k ]);
  }

  -- in a clause, with the labels of its pattern
  in_clause : (p : PlainPattern) (vs : Depths) (ps : List PlainCore) (ms bs : List Label) → ((l : Label) → Among bs l → Among (variables p) l → ⊥) → Sound (given_labels vs) ps ms bs
      → Sound (given_labels (depths 0 p ++ vs)) ps ms bs
  in_clause p vs ps ms bs h s =
      subst (λ ls. Sound ls ps ms bs) (sym (both_labels (depths 0 p) vs (variables p) (given_labels vs) (pattern_labels 0 p) refl)) (within (given_labels vs) (variables p) ps ms bs h s)

  clause_binds : (G : PatternVariables) (p : PlainPattern) (vs : Depths) (bs : List Label) → Binds G vs → Once (variables p ++ bs) → Each (λ l. Among (given_labels vs) l → ⊥) (variables p ++ bs)
      → Binds (BesidesPattern (depths 0 p) G) (depths 0 p ++ vs)
  clause_binds G p vs bs b once apart =
      binds_pattern G (depths 0 p) vs b (subst Once (sym (pattern_labels 0 p)) (once-first (variables p) bs once))
      (subst (Each (λ l. Among (given_labels vs) l → ⊥)) (sym (pattern_labels 0 p)) (each-first (λ l. Among (given_labels vs) l → ⊥) (variables p) bs apart))

  mutual
    pub made_ready : (F : Variables) (G : PatternVariables) (ls : List Label) (vs : Depths) → Finds qs F ls → Binds G vs → (c : PlainCore) → Closed ls c → TemplatesSuit vs c
        → Sound (given_labels vs) (parts c) (mentions c) (binders c) → Ready v F G c
    made_ready F G ls vs f b (quoted d) h t s = tt
    made_ready F G ls vs f b (variable l) h t s = f l h s.unmentioned.0
    made_ready F G ls vs f b (primitive o) h t s = tt
    made_ready F G ls vs f b (one_armed c d) h t s =
        let outer = given_labels vs in
        let both = inner outer (one_armed c d) (parts c ++ parts d) (mentions c ++ mentions d) (binders c ++ binders d) s in (
          made_ready F G ls vs f b c h.0 t.0 (first outer (parts c) (mentions c) (binders c) (parts d) (mentions d) (binders d) both),
          made_ready F G ls vs f b d h.1 t.1 (second outer (parts c) (mentions c) (binders c) (parts d) (mentions d) (binders d) both),
        )
    made_ready F G ls vs f b (two_armed c d e) h t s =
        let outer = given_labels vs in
        let all = inner outer (two_armed c d e) (parts c ++ (parts d ++ parts e)) (mentions c ++ (mentions d ++ mentions e)) (binders c ++ (binders d ++ binders e)) s in
        let both = second outer (parts c) (mentions c) (binders c) (parts d ++ parts e) (mentions d ++ mentions e) (binders d ++ binders e) all in (
          made_ready F G ls vs f b c h.0 t.0 (first outer (parts c) (mentions c) (binders c) (parts d ++ parts e) (mentions d ++ mentions e) (binders d ++ binders e) all),
          (
            made_ready F G ls vs f b d h.1.0 t.1.0 (first outer (parts d) (mentions d) (binders d) (parts e) (mentions e) (binders e) both),
            made_ready F G ls vs f b e h.1.1 t.1.1 (second outer (parts d) (mentions d) (binders d) (parts e) (mentions e) (binders e) both),
          ),
        )
    made_ready F G ls vs f b (assignment l c) h t s = tt
    made_ready F G ls vs f b (sequence cs) h t s =
        sequence_made F G ls vs f b cs s.parts.0.0 h t (inner (given_labels vs) (sequence cs) (all_parts cs) (all_mentions cs) (all_binders cs) s)
    made_ready F G ls vs f b (procedure number cs plain) h t s =
        (s.parts.0.1.0, cases_made F G ls vs f b cs h t (inner (given_labels vs) (procedure number cs plain) (case_parts cs) (case_mentions cs) (case_binders cs) s))
    made_ready F G ls vs f b (letrec o is c) h t s =
        let outer = given_labels vs in
        let both = inner outer (letrec o is c) (init_parts is ++ parts c) (init_mentions is ++ mentions c) (init_binders is ++ binders c) s in
        let H = Besides (init_labels is) F in
        let k = finds_besides qs F (init_labels is) ls f in (
          inits_made H G (init_labels is ++ ls) vs k b is h.0 t.0 (first outer (init_parts is) (init_mentions is) (init_binders is) (parts c) (mentions c) (binders c) both),
          made_ready H G (init_labels is ++ ls) vs k b c h.1 t.1 (second outer (init_parts is) (init_mentions is) (init_binders is) (parts c) (mentions c) (binders c) both),
        )
    made_ready F G ls vs f b (call c cs) h t s =
        let outer = given_labels vs in
        let both = inner outer (call c cs) (parts c ++ all_parts cs) (mentions c ++ all_mentions cs) (binders c ++ all_binders cs) s in (
          made_ready F G ls vs f b c h.0 t.0 (first outer (parts c) (mentions c) (binders c) (all_parts cs) (all_mentions cs) (all_binders cs) both),
          all_made F G ls vs f b cs h.1 t.1 (second outer (parts c) (mentions c) (binders c) (all_parts cs) (all_mentions cs) (all_binders cs) both),
        )
    made_ready F G ls vs f b (instance t sp) h k s = suits_finds G vs b 0 t k
    made_ready F G ls vs f b (matching c cs sp) h t s =
        let outer = given_labels vs in
        let both = inner outer (matching c cs sp) (parts c ++ clause_parts cs) (mentions c ++ clause_mentions cs) (binders c ++ clause_binders cs) s in (
          made_ready F G ls vs f b c h.0 t.0 (first outer (parts c) (mentions c) (binders c) (clause_parts cs) (clause_mentions cs) (clause_binders cs) both),
          clauses_made F G ls vs f b cs s.parts.0.1.1 h.1 t.1 (second outer (parts c) (mentions c) (binders c) (clause_parts cs) (clause_mentions cs) (clause_binders cs) both),
        )

    sequence_made : (F : Variables) (G : PatternVariables) (ls : List Label) (vs : Depths) → Finds qs F ls → Binds G vs → (cs : PlainCores) → 2 ≤ core_count cs → AllClosed ls cs → AllSuit vs cs
        → Sound (given_labels vs) (all_parts cs) (all_mentions cs) (all_binders cs) → SequenceReady v F G cs
    sequence_made F G ls vs f b none two h t s = absurd (omega (arith, two))
    sequence_made F G ls vs f b (more c cs) two h t s =
        let outer = given_labels vs in (
          made_ready F G ls vs f b c h.0 t.0 (first outer (parts c) (mentions c) (binders c) (all_parts cs) (all_mentions cs) (all_binders cs) s),
          all_made F G ls vs f b cs h.1 t.1 (second outer (parts c) (mentions c) (binders c) (all_parts cs) (all_mentions cs) (all_binders cs) s),
        )

    all_made : (F : Variables) (G : PatternVariables) (ls : List Label) (vs : Depths) → Finds qs F ls → Binds G vs → (cs : PlainCores) → AllClosed ls cs → AllSuit vs cs
        → Sound (given_labels vs) (all_parts cs) (all_mentions cs) (all_binders cs) → AllReady v F G cs
    all_made F G ls vs f b none h t s = tt
    all_made F G ls vs f b (more c cs) h t s =
        let outer = given_labels vs in (
          made_ready F G ls vs f b c h.0 t.0 (first outer (parts c) (mentions c) (binders c) (all_parts cs) (all_mentions cs) (all_binders cs) s),
          all_made F G ls vs f b cs h.1 t.1 (second outer (parts c) (mentions c) (binders c) (all_parts cs) (all_mentions cs) (all_binders cs) s),
        )

    inits_made : (F : Variables) (G : PatternVariables) (ls : List Label) (vs : Depths) → Finds qs F ls → Binds G vs → (is : PlainInits) → InitsClosed ls is → InitsSuit vs is
        → Sound (given_labels vs) (init_parts is) (init_mentions is) (init_binders is) → InitsReady v F G is
    inits_made F G ls vs f b no_init h t s = tt
    inits_made F G ls vs f b (init l c is) h t s =
        let outer = given_labels vs in
        let both = second outer [] [] (l ∷ []) (parts c ++ init_parts is) (mentions c ++ init_mentions is) (binders c ++ init_binders is) s in (
          made_ready F G ls vs f b c h.0 t.0 (first outer (parts c) (mentions c) (binders c) (init_parts is) (init_mentions is) (init_binders is) both),
          inits_made F G ls vs f b is h.1 t.1 (second outer (parts c) (mentions c) (binders c) (init_parts is) (init_mentions is) (init_binders is) both),
        )

    cases_made : (F : Variables) (G : PatternVariables) (ls : List Label) (vs : Depths) → Finds qs F ls → Binds G vs → (cs : PlainCases) → CasesClosed ls cs → CasesSuit vs cs
        → Sound (given_labels vs) (case_parts cs) (case_mentions cs) (case_binders cs) → CasesReady v F G cs
    cases_made F G ls vs f b no_case h t s = tt
    cases_made F G ls vs f b (case fs c cs) h t s =
        let outer = given_labels vs in
        let both = second outer [] [] (formals_labels fs) (parts c ++ case_parts cs) (mentions c ++ case_mentions cs) (binders c ++ case_binders cs) s in (
          made_ready (Besides (formals_labels fs) F) G (formals_labels fs ++ ls) vs (finds_besides qs F (formals_labels fs) ls f) b c h.0 t.0
              (first outer (parts c) (mentions c) (binders c) (case_parts cs) (case_mentions cs) (case_binders cs) both),
          cases_made F G ls vs f b cs h.1 t.1 (second outer (parts c) (mentions c) (binders c) (case_parts cs) (case_mentions cs) (case_binders cs) both),
        )

    clauses_made : (F : Variables) (G : PatternVariables) (ls : List Label) (vs : Depths) → Finds qs F ls → Binds G vs → (cs : PlainClauses) → Each (λ p. Each (Among qs) (variables p)) (clause_patterns cs)
        → ClausesClosed ls cs → ClausesSuit vs cs → Sound (given_labels vs) (clause_parts cs) (clause_mentions cs) (clause_binders cs) → ClausesReady v F G cs
    clauses_made F G ls vs f b no_clause q h t s = tt
    clauses_made F G ls vs f b (clause p c cs) q h t s =
        let outer = given_labels vs in
        let bs = binders c ++ clause_binders cs in
        let both = second outer [] [] (variables p) (parts c ++ clause_parts cs) (mentions c ++ clause_mentions cs) bs s in
        let here = first outer (parts c) (mentions c) (binders c) (clause_parts cs) (clause_mentions cs) (clause_binders cs) both in (
          made_ready F (BesidesPattern (depths 0 p) G) (variables p ++ ls) (depths 0 p ++ vs) (finds_pattern qs F (variables p) ls q.0 f) (clause_binds G p vs bs b s.once s.apart) c h.0 t.0
              (in_clause p vs (parts c) (mentions c) (binders c) (λ l a k. once_apart (variables p) bs l s.once k (among-first (binders c) (clause_binders cs) l a)) here),
          clauses_made F G ls vs f b cs q.1 h.1 t.1 (second outer (parts c) (mentions c) (binders c) (clause_parts cs) (clause_mentions cs) (clause_binders cs) both),
        )
    clauses_made F G ls vs f b (fended p d c cs) q h t s =
        let outer = given_labels vs in
        let rest = binders c ++ clause_binders cs in
        let bs = binders d ++ rest in
        let all = second outer [] [] (variables p) (parts d ++ (parts c ++ clause_parts cs)) (mentions d ++ (mentions c ++ clause_mentions cs)) bs s in
        let fender = first outer (parts d) (mentions d) (binders d) (parts c ++ clause_parts cs) (mentions c ++ clause_mentions cs) rest all in
        let both = second outer (parts d) (mentions d) (binders d) (parts c ++ clause_parts cs) (mentions c ++ clause_mentions cs) rest all in
        let output = first outer (parts c) (mentions c) (binders c) (clause_parts cs) (clause_mentions cs) (clause_binders cs) both in
        let finds = finds_pattern qs F (variables p) ls q.0 f in
        let binds = clause_binds G p vs bs b s.once s.apart in (
          made_ready F (BesidesPattern (depths 0 p) G) (variables p ++ ls) (depths 0 p ++ vs) finds binds d h.0 t.0
              (in_clause p vs (parts d) (mentions d) (binders d) (λ l a k. once_apart (variables p) bs l s.once k (among-first (binders d) rest l a)) fender),
          (
            made_ready F (BesidesPattern (depths 0 p) G) (variables p ++ ls) (depths 0 p ++ vs) finds binds c h.1.0 t.1.0
                (in_clause p vs (parts c) (mentions c) (binders c)
                (λ l a k. once_apart (variables p) bs l s.once k (among-second (binders d) rest l (among-first (binders c) (clause_binders cs) l a))) output),
            clauses_made F G ls vs f b cs q.1 h.1.1 t.1.1 (second outer (parts c) (mentions c) (binders c) (clause_parts cs) (clause_mentions cs) (clause_binders cs) both),
          ),
        )
