-- Procedures, `letrec` and `syntax-case` spare the names of keywords, given that what is done inside forms does; so all forms do.
use Rattle.std.proofs.Common.{◌≡◌, ℕ, Bool, true, false, List, [], ◌∷◌, ◌++◌, map, Option, None, Some, refl, sym, ◌∙◌, subst}
use Rattle.base_data.specs.Act.{after, give}
use Rattle.base_data.specs.Elements.{Each}
use Rattle.base_data.specs.Named.{Named}
use Rattle.base_data.specs.declared.library.LibName.{LibName}
use Rattle.base_data.specs.declared.name.CodeNo.{CodeNo}
use Rattle.base_data.specs.declared.name.FrameNo.{FrameNo}
use Rattle.base_data.specs.declared.name.Label.{Label}
use Rattle.base_data.specs.declared.span.Span.{Span}
use Rattle.stx_tree.specs.Changes.{stamp}
use Rattle.stx_tree.specs.Tree.{Tree}
use Rattle.core_language.specs.Core.{PlainCore, procedure, letrec, matching}
use Rattle.core_language.specs.CoreView.{inits, cases, clauses}
use Rattle.core_language.specs.References.{variables, formals_labels, binders, init_binders, clause_binders}
use Rattle.core_language.specs.declared.code.Clause.{Clause}
use Rattle.core_language.specs.declared.code.Init.{Init}
use Rattle.core_language.specs.declared.code.Lambda.{Lambda}
use Rattle.law_core.specs.Parts.{parts, init_parts, clause_parts}
use Rattle.eval_pattern.specs.declared.compile.Compiled.{Compiled}
use Rattle.core_shapes.specs.declared.shape.BindingSpec.{BindingSpec}
use Rattle.core_shapes.specs.declared.shape.FormalIds.{FormalIds}
use Rattle.core_shapes.specs.declared.shape.LambdaCase.{LambdaCase}
use Rattle.core_shapes.specs.declared.shape.PatternCase.{PatternCase}
use Rattle.eval_stage.specs.declared.keyword.Keyword.{Keyword}
use Rattle.expand_standing.specs.Binders.{bind_formals, bind_specs}
use Rattle.expand_standing.specs.Patterns.{pattern_of, check_literals, bind_pattern}
use Rattle.expand_standing.specs.State.{State, fresh, fresh_frame}
use Rattle.expand_standing.specs.declared.binders.BoundSpec.{BoundSpec}
use Rattle.expand_heads.specs.declared.plan.HeadPlan.{HeadPlan}
use Rattle.expand_heads.specs.declared.plan.HeadPlan.TheVariants as head_plans
use Rattle.expand_heads.specs.declared.plan.Plan.{Plan}
use Rattle.expand_heads.specs.declared.plan.Plan.TheVariants as plans
use Rattle.expand_forms.specs.Body.{body}
use Rattle.expand_forms.specs.Expression.{case_in, lambda_case, lambda, one_case, all_cases, case_lambda, one_init, all_inits, letrec_in, letrec_form, in_sequence, fender, clause_in, pattern_clause, all_clauses, syntax_case, keywords_form, perform}
use Rattle.expand_heads.specs.Depth.{deeper}
use Rattle.expand_forms.specs.Inside.{Inside}
use Rattle.expand_forms.specs.Keywords.{with_keywords}
use Rattle.expand_forms.specs.Site.{site_at}
use Rattle.expand_forms.specs.Forms.{let_syntax_parts, letrec_parts, procedure_parts, syntax_case_parts}
use Rattle.law_expand.specs.States.{Later}
use Rattle.law_expand.proofs.Acts.{Gave, gave-after, gave-less, gave-both, gave-each}
use Rattle.law_expand.proofs.Binding.{BindsAll, spec_label, binds-formals, binds-specs}
use Rattle.law_expand.proofs.Changes.{BindsPattern, pattern-bound, pattern-adds}
use Rattle.law_expand.proofs.Compiled.{variable_label}
use Rattle.law_expand.proofs.Compiled as compiled
use Rattle.law_expand.proofs.Fresh.{FreshLabels}
use Rattle.law_expand.proofs.Good.{label_of}
use Rattle.law_expand.proofs.Naming.{as_frame, counted}
use Rattle.law_expand.proofs.Uses.{Patterned, pattern-later, literals-later}
use Rattle.law_expand.specs.Kept.{IsKeptWith, IsGoodState}
use Rattle.law_expand.proofs.Spent.{Tracks, AreUnspent, Away, away-append, away-round, away-later, AwayCase, AwayInit, AwayFender, AwayClause, inits-away, clauses-away, unspent-later, unspent-all, labels-away, Onward, counted-unspent, bound-unspent}
use Rattle.law_expand.proofs.SpentOnStage.{Tells}
use Rattle.law_expand.proofs.SpentBinding.{Same, formals-same, specs-same, pattern-same, literals-same, bind-pattern-same, onward-self, onward-then, onward-later, onward-but, onward-counted}
use Rattle.law_expand.proofs.Spares.{Spares, Gives, goes, goes-each, goes-within, C, core-lift, N, spares-application, spares-conditional, spares-set, spares-sequence, spares-keywords}
use Rattle.law_expand.proofs.SparesBodies.{procedure-away, spares-body}
use Rattle.law_expand.proofs.SparesQuasi.{spares-quasi}

module _ (own : LibName) (given : List Label) where
  abbrev B : State → Type 0
  B = IsGoodState own given

  abbrev O : State → State → Type 0
  O = Onward own given

  pub same-told : (s u : State) → u.keywords ≡ s.keywords → Tells s.keywords u.keywords
  same-told s u same k c e = subst (λ (ks : List (Label × Keyword)). IsKeptWith ks k c) same e

  -- labels that were bound
  all-bound : (f : FrameNo) (s u : State) (ls : List Label) → BindsAll own f s ls u → u.keywords ≡ s.keywords → B s → O s u × AreUnspent own u ls
  all-bound f s u ls h same b = (onward-but own given f false ls [] s u h.later h.adds (same-told s u same) b, bound-unspent own given s u ls same b.kept h.labels)

  case-lift : (t u : State) (c : Lambda) → Tracks own t u → AwayCase own t c → AwayCase own u c
  case-lift t u c k h = away-later own t u (formals_labels c.formals ++ binders c.body) (parts c.body) k h

  module _ (go : Inside) (spares : Spares own given go) where
    module _ (place : Span) (level depth : ℕ) (t : Tree) where
      case-away : (u : State) (ls : List Label) (c : PlainCore) → AreUnspent own u ls → C own given u c → Away own u (ls ++ binders c) (parts c)
      case-away u ls c h k = away-append own u ls (binders c) [] (parts c) (labels-away own u ls h) k

      pub spares-case : (ids : FormalIds) (forms : List Tree) (s : State) → B s → Gave (Gives own given (AwayCase own) s) (lambda_case go (site_at place level depth) (procedure_parts t ids forms) s)
      unfolding lambda_case fresh_frame
      spares-case ids forms s b =
          let f = as_frame s.names in
          let z = counted s in
          let start = onward-counted own given s b in
          goes-within own given (AwayCase own) case-lift (λ u. after (fresh_frame u) (case_in go (site_at place level depth) (procedure_parts t ids forms))) s
          (gave-less (Gives own given (AwayCase own) z) (Gives own given (AwayCase own) s) (case_in go (site_at place level depth) (procedure_parts t ids forms) f z)
          (gave-after (λ x u. BindsAll own f z (formals_labels x) u × Same z x u) (Gives own given (AwayCase own) z) (bind_formals f place level ids z) (λ x u. after (body go (site_at place level depth) t (map (stamp f) forms) u) (λ c. give (record { formals = x; body = c })))
          (gave-both (λ x u. BindsAll own f z (formals_labels x) u) (Same z) (bind_formals f place level ids z) (binds-formals own f place level ids z b.sound.next) (formals-same f place level ids z))
          (λ x u k. let o = all-bound f z u (formals_labels x) k.0 k.1 start.0 in
          gave-less (Gives own given (AwayCase own) u) (Gives own given (AwayCase own) z) (after (body go (site_at place level depth) t (map (stamp f) forms) u) (λ c. give (record { formals = x; body = c })))
          (goes own given (C own given) (AwayCase own) u (body go (site_at place level depth) t (map (stamp f) forms) u) (λ c. give (record { formals = x; body = c })) (spares-body own given go spares place level depth t (map (stamp f) forms) u o.0.0)
          (λ c v j w. (onward-self own given v j.0, case-away v (formals_labels x) c (unspent-all own u v (formals_labels x) j.1 o.1) w)))
          (λ c v j. (onward-then own given z u v o.0 j.0, j.1))))
          (λ c u j. (onward-then own given s z u start j.0, j.1)))

      pub spares-lambda : (ids : FormalIds) (forms : List Tree) (s : State) → B s → Gave (Gives own given (C own given) s) (lambda go (site_at place level depth) (procedure_parts t ids forms) s)
      unfolding lambda fresh
      spares-lambda ids forms s b =
          let z = counted s in
          let start = onward-counted own given s b in
          let n : CodeNo = record { 0 = s.names } in
          gave-less (Gives own given (C own given) z) (Gives own given (C own given) s) (after (lambda_case go (site_at place level depth) (procedure_parts t ids forms) z) (λ c. give (procedure n (cases (c ∷ [])) true)))
          (goes own given (AwayCase own) (C own given) z (lambda_case go (site_at place level depth) (procedure_parts t ids forms) z) (λ c. give (procedure n (cases (c ∷ [])) true)) (spares-case ids forms z start.0)
          (λ c u o x. (onward-self own given u o.0, procedure-away own given u n (c ∷ []) true (unspent-later own z u s.names o.1 (counted-unspent own given s b.kept)) (x, tt))))
          (λ c u j. (onward-then own given s z u start j.0, j.1))

      pub spares-case_lambda : (cs : List LambdaCase) (s : State) → B s → Gave (Gives own given (C own given) s) (case_lambda go (site_at place level depth) t cs s)
      unfolding case_lambda fresh
      spares-case_lambda cs s b =
          let z = counted s in
          let start = onward-counted own given s b in
          let n : CodeNo = record { 0 = s.names } in
          gave-less (Gives own given (C own given) z) (Gives own given (C own given) s) (after (all_cases go (site_at place level depth) t cs z) (λ xs. give (procedure n (cases xs) false)))
          (goes own given (λ u xs. Each (AwayCase own u) xs) (C own given) z (all_cases go (site_at place level depth) t cs z) (λ xs. give (procedure n (cases xs) false))
          (goes-each own given (one_case go (site_at place level depth) t) (AwayCase own) case-lift (λ c u k. spares-case c.formals c.body u k) cs z start.0)
          (λ xs u o x. (onward-self own given u o.0, procedure-away own given u n xs false (unspent-later own z u s.names o.1 (counted-unspent own given s b.kept)) x)))
          (λ c u j. (onward-then own given s z u start j.0, j.1))

      -- `letrec`.

      abbrev Values : State → List Init → Type 0
      Values u is = Each (λ (i : Init). C own given u i.value) is

      values-lift : (u v : State) (is : List Init) → Tracks own u v → Values u is → Values v is
      values-lift u v [] k h = tt
      values-lift u v (i ∷ is) k h = (core-lift own given u v i.value k h.0, values-lift u v is k h.1)

      inits-both : (u : State) (is : List Init) → Values u is → AreUnspent own u (map label_of is) → Each (AwayInit own u) is
      inits-both u [] h k = tt
      inits-both u (i ∷ is) h k = ((k.0, h.0), inits-both u is h.1 k.1)

      spares-init : (f : FrameNo) (b : BoundSpec) (s : State) → B s → Gave (Gives own given (λ u (i : Init). C own given u i.value × (i.label ≡ b.label)) s) (one_init go (site_at place level depth) f b s)
      unfolding one_init
      spares-init f b s h =
          goes own given (C own given) (λ u (i : Init). C own given u i.value × (i.label ≡ b.label)) s (go.form (site_at place level depth) (stamp f b.init) s) (λ c. give (record { label = b.label; value = c })) (spares.form place level depth (stamp f b.init) s h)
          (λ c u o x. (onward-self own given u o.0, (x, refl)))

      spares-inits : (f : FrameNo) (bs : List BoundSpec) (s : State) → B s → Gave (Gives own given (λ u is. Values u is × (map label_of is ≡ map spec_label bs)) s) (all_inits go (site_at place level depth) f bs s)
      spares-inits f bs s h =
          gave-each (one_init go (site_at place level depth) f) (λ b u i v. Gives own given (λ w (j : Init). C own given w j.value × (j.label ≡ b.label)) u i v)
          (λ xs u is v. Gives own given (λ w js. Values w js × (map label_of js ≡ map spec_label xs)) u is v) B (λ u k. (onward-self own given u k, (tt, refl))) (λ b u k. spares-init f b u k) (λ b u v i k j. j.0.0)
          (λ b xs u v w i is k j a. (onward-then own given u v w j.0 a.0, ((core-lift own given v w i.value a.0.1 j.1.0, a.1.0), (λ p. j.1.1 p ∷ a.1.1 p)))) bs s h

      letrec-away : (u : State) (star : Bool) (is : List Init) (c : PlainCore) → Each (AwayInit own u) is → C own given u c → C own given u (letrec star (inits is) c)
      letrec-away u star is c h k = away-round own u (init_binders (inits is) ++ binders c) (letrec star (inits is) c) (init_parts (inits is) ++ parts c) refl (away-append own u (init_binders (inits is)) (binders c) (init_parts (inits is)) (parts c) (inits-away own u is h) k)

      pub spares-letrec : (star : Bool) (bs : List BindingSpec) (forms : List Tree) (s : State) → B s → Gave (Gives own given (C own given) s) (letrec_form go (site_at place level depth) (letrec_parts t star bs forms) s)
      unfolding letrec_form fresh_frame
      spares-letrec star bs forms s b =
          let f = as_frame s.names in
          let z = counted s in
          let start = onward-counted own given s b in
          goes-within own given (C own given) (core-lift own given) (λ u. after (fresh_frame u) (letrec_in go (site_at place level depth) (letrec_parts t star bs forms))) s
          (gave-less (Gives own given (C own given) z) (Gives own given (C own given) s) (letrec_in go (site_at place level depth) (letrec_parts t star bs forms) f z)
          (gave-after (λ xs u. BindsAll own f z (map spec_label xs) u × Same z xs u) (Gives own given (C own given) z) (bind_specs f place level bs z) _
          (gave-both (λ xs u. BindsAll own f z (map spec_label xs) u) (Same z) (bind_specs f place level bs z) (binds-specs own f place level bs z b.sound.next) (specs-same f place level bs z))
          (λ xs u k. let o = all-bound f z u (map spec_label xs) k.0 k.1 start.0 in
          gave-less (Gives own given (C own given) u) (Gives own given (C own given) z) (after (all_inits go (site_at place level depth) f xs u) (λ is v. after (body go (site_at place level depth) t (map (stamp f) forms) v) (λ c. give (letrec star (inits is) c))))
          (goes own given (λ v is. Values v is × (map label_of is ≡ map spec_label xs)) (C own given) u (all_inits go (site_at place level depth) f xs u) (λ is v. after (body go (site_at place level depth) t (map (stamp f) forms) v) (λ c. give (letrec star (inits is) c))) (spares-inits f xs u o.0.0)
          (λ is v j x. goes own given (C own given) (C own given) v (body go (site_at place level depth) t (map (stamp f) forms) v) (λ c. give (letrec star (inits is) c)) (spares-body own given go spares place level depth t (map (stamp f) forms) v j.0)
          (λ c w i y. (onward-self own given w i.0, letrec-away w star is c (inits-both w is (values-lift v w is i.1 x.0) (subst (AreUnspent own w) (sym x.1) (unspent-all own v w (map spec_label xs) i.1 (unspent-all own u v (map spec_label xs) j.1 o.1)))) y))))
          (λ c v j. (onward-then own given z u v o.0 j.0, j.1))))
          (λ c u j. (onward-then own given s z u start j.0, j.1)))

    -- `syntax-case`.

    module _ (place : Span) (level depth : ℕ) (literals : List Tree) where
      fender-lift : (u v : State) (o : Option PlainCore) → Tracks own u v → AwayFender own u o → AwayFender own v o
      fender-lift u v None k h = tt
      fender-lift u v (Some c) k h = core-lift own given u v c k h

      clause-lift : (u v : State) (c : Clause) → Tracks own u v → AwayClause own u c → AwayClause own v c
      clause-lift u v c k h = (unspent-all own u v (variables c.pattern) k h.0, (fender-lift u v c.fender k h.1.0, core-lift own given u v c.output k h.1.1))

      spares-fender : (f : FrameNo) (o : Option Tree) (s : State) → B s → Gave (Gives own given (AwayFender own) s) (fender go (site_at place level depth) f o s)
      spares-fender f None s b = (onward-self own given s b, tt)
      spares-fender f (Some t) s b = goes own given (C own given) (AwayFender own) s (go.form (site_at place level depth) (stamp f t) s) (λ c. give (Some c)) (spares.form place level depth (stamp f t) s b) (λ c u o x. (onward-self own given u o.0, x))

      spares-clause : (c : PatternCase) (s : State) → B s → Gave (Gives own given (AwayClause own) s) (pattern_clause go (site_at place level depth) literals c s)
      unfolding pattern_clause fresh_frame
      spares-clause c s b =
          let f = as_frame s.names in
          let z = counted s in
          let start = onward-counted own given s b in
          goes-within own given (AwayClause own) clause-lift (λ u. after (fresh_frame u) (clause_in go (site_at place level depth) literals c)) s
          (gave-less (Gives own given (AwayClause own) z) (Gives own given (AwayClause own) s) (clause_in go (site_at place level depth) literals c f z)
          (gave-after (λ p t. Patterned own z p t × Same z p t) (Gives own given (AwayClause own) z) (pattern_of literals place c.pattern z) _
          (gave-both (Patterned own z) (Same z) (pattern_of literals place c.pattern z) (pattern-later own literals place c.pattern z b.sound.next) (pattern-same literals place c.pattern z))
          (λ p t h.
          gave-after (λ x u. BindsPattern own go spares.safe.moves place level depth literals f z p u × Same t x u) (Gives own given (AwayClause own) z) (bind_pattern f place level p.variables t) _
          (gave-both (λ x u. BindsPattern own go spares.safe.moves place level depth literals f z p u) (Same t) (bind_pattern f place level p.variables t) (pattern-bound own go spares.safe.moves place level depth literals f p z t h.0) (bind-pattern-same f place level p.variables t))
          (λ x u k.
          let adds = pattern-adds own go spares.safe.moves place level depth literals f p z u k.0 in
          let same = k.1 ∙ h.1 in
          let o = onward-but own given f false (map variable_label p.variables) (map compiled.variable_depth p.variables) z u adds.0 adds.1.0 (same-told z u same) start.0 in
          let made = pattern-unspent p z u k.0 same start.0 in
          gave-less (Gives own given (AwayClause own) u) (Gives own given (AwayClause own) z)
          (after (fender go (site_at place level depth) f c.fender u) (λ e w. after (go.form (site_at place level depth) (stamp f c.output) w) (λ y. give (record { pattern = p.pattern; fender = e; output = y }))))
          (goes own given (AwayFender own) (AwayClause own) u (fender go (site_at place level depth) f c.fender u) (λ e w. after (go.form (site_at place level depth) (stamp f c.output) w) (λ y. give (record { pattern = p.pattern; fender = e; output = y }))) (spares-fender f c.fender u o.0)
          (λ e v i a. goes own given (C own given) (AwayClause own) v (go.form (site_at place level depth) (stamp f c.output) v) (λ y. give (record { pattern = p.pattern; fender = e; output = y })) (spares.form place level depth (stamp f c.output) v i.0)
          (λ y w g d. (onward-self own given w g.0, (unspent-all own v w (variables p.pattern) g.1 (unspent-all own u v (variables p.pattern) i.1 made), (fender-lift v w e g.1 a, d))))))
          (λ d v i. (onward-then own given z u v o i.0, i.1)))))
          (λ d u j. (onward-then own given s z u start j.0, j.1)))
        where
          -- the variables of the pattern are new
          pattern-unspent : (p : Compiled) (z u : State) → BindsPattern own go spares.safe.moves place level depth literals (as_frame s.names) z p u → u.keywords ≡ z.keywords → B z → AreUnspent own u (variables p.pattern)
          pattern-unspent p z u k same b =
              subst (AreUnspent own u) (sym k.patterned.compiles.labels)
              (bound-unspent own given z u (map variable_label p.variables) same b.kept
              (subst (λ (n : Named). FreshLabels own z.names.number n.number (map variable_label p.variables)) (sym k.binds.names) k.patterned.compiles.fresh))

      spares-clauses : (cs : List PatternCase) (s : State) → B s → Gave (Gives own given (λ u xs. Each (AwayClause own u) xs) s) (all_clauses go (site_at place level depth) literals cs s)
      spares-clauses cs s b = goes-each own given (pattern_clause go (site_at place level depth) literals) (AwayClause own) clause-lift spares-clause cs s b

      matching-away : (u : State) (c : PlainCore) (xs : List Clause) (span : Span) → C own given u c → Each (AwayClause own u) xs → C own given u (matching c (clauses xs) span)
      matching-away u c xs span h k = away-round own u (binders c ++ clause_binders (clauses xs)) (matching c (clauses xs) span) (parts c ++ clause_parts (clauses xs)) refl (away-append own u (binders c) (clause_binders (clauses xs)) (parts c) (clause_parts (clauses xs)) h (clauses-away own u xs k))

      pub spares-syntax_case : (subject : Tree) (cs : List PatternCase) (span : Span) (s : State) → B s → Gave (Gives own given (C own given) s) (syntax_case go (site_at place level depth) (syntax_case_parts subject literals cs span) s)
      unfolding syntax_case
      spares-syntax_case subject cs span s b =
          goes own given (C own given) (C own given) s (go.form (site_at place level depth) subject s) _ (spares.form place level depth subject s b)
          (λ c t o x.
          gave-after (λ y u. Later own t u × Same t y u) (Gives own given (C own given) t) (check_literals place literals t) (λ _ u. after (all_clauses go (site_at place level depth) literals cs u) (λ xs. give (matching c (clauses xs) span)))
          (gave-both (λ y u. Later own t u) (Same t) (check_literals place literals t) (literals-later own literals place t o.0.sound.next) (literals-same literals place t))
          (λ y u k. let j = onward-later own given t u k.0 (same-told t u k.1) o.0 in
          gave-less (Gives own given (C own given) u) (Gives own given (C own given) t) (after (all_clauses go (site_at place level depth) literals cs u) (λ xs. give (matching c (clauses xs) span)))
          (goes own given (λ v xs. Each (AwayClause own v) xs) (C own given) u (all_clauses go (site_at place level depth) literals cs u) (λ xs. give (matching c (clauses xs) span)) (spares-clauses cs u j.0)
          (λ xs v i w. (onward-self own given v i.0, matching-away v c xs span (core-lift own given u v c i.1 (core-lift own given t u c j.1 x)) w)))
          (λ d v i. (onward-then own given t u v j i.0, i.1))))

    spares-keywords_form : (place : Span) (level depth : ℕ) (recursive : Bool) (bs : List BindingSpec) (forms : List Tree) (s : State) → B s → Gave (Gives own given (C own given) s) (keywords_form go (site_at place level depth) (let_syntax_parts recursive bs forms) s)
    unfolding keywords_form
    spares-keywords_form place level depth recursive bs forms s b =
        goes own given (N own given go spares) (C own given) s (with_keywords go (site_at place level depth) (let_syntax_parts recursive bs forms) s) (in_sequence go (site_at place level depth)) (spares-keywords own given go spares place level depth recursive bs forms s b)
        (λ xs u o w. spares-sequence own given go spares place level depth xs u o.0)

    -- Plans.

    abbrev pub PlanAway : State → Plan → Type 0
    PlanAway u (plans.Done c) = C own given u c
    PlanAway u (plans.Call operator operands) = Unit {0}
    PlanAway u (plans.Conditional test consequent other) = Unit {0}
    PlanAway u (plans.Assignment l value) = Unit {0}
    PlanAway u (plans.Sequence forms) = Unit {0}
    PlanAway u (plans.Lambda ids forms) = Unit {0}
    PlanAway u (plans.CaseLambda cs) = Unit {0}
    PlanAway u (plans.Letrec star bs forms) = Unit {0}
    PlanAway u (plans.Matching subject literals cs span) = Unit {0}
    PlanAway u (plans.Keywords recursive bs forms) = Unit {0}
    PlanAway u (plans.Quasi which template) = Unit {0}

    abbrev pub HeadAway : State → HeadPlan → Type 0
    HeadAway u (head_plans.Plan p) = PlanAway u p
    HeadAway u (head_plans.Use l) = Unit {0}
    HeadAway u (head_plans.SetUse l id) = Unit {0}

    pub spares-perform : (place : Span) (level depth : ℕ) (t : Tree) (p : Plan) (s : State) → B s → PlanAway s p → Gave (Gives own given (C own given) s) (perform go (site_at place level depth) t p s)
    unfolding perform
    spares-perform place level depth t (plans.Done c) s b k = (onward-self own given s b, k)
    spares-perform place level depth t (plans.Call operator operands) s b k = spares-application own given go spares place level (deeper depth) operator operands s b
    spares-perform place level depth t (plans.Conditional test consequent other) s b k = spares-conditional own given go spares place level (deeper depth) test consequent other s b
    spares-perform place level depth t (plans.Assignment l value) s b k = spares-set own given go spares place level (deeper depth) l value s b
    spares-perform place level depth t (plans.Sequence forms) s b k = spares-sequence own given go spares place level (deeper depth) forms s b
    spares-perform place level depth t (plans.Lambda ids forms) s b k = spares-lambda place level (deeper depth) t ids forms s b
    spares-perform place level depth t (plans.CaseLambda cs) s b k = spares-case_lambda place level (deeper depth) t cs s b
    spares-perform place level depth t (plans.Letrec star bs forms) s b k = spares-letrec place level (deeper depth) t star bs forms s b
    spares-perform place level depth t (plans.Matching subject literals cs span) s b k = spares-syntax_case place level (deeper depth) literals subject cs span s b
    spares-perform place level depth t (plans.Keywords recursive bs forms) s b k = spares-keywords_form place level (deeper depth) recursive bs forms s b
    spares-perform place level depth t (plans.Quasi which template) s b k = spares-quasi own given place level t go spares (deeper depth) which template s b
