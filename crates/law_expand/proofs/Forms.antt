-- Procedures and `letrec` give good core code, given that expansion does inside forms; so all forms give it.
use Rattle.std.proofs.Common.{◌≡◌, ℕ, zero, suc, ◌+◌, ◌≤◌, Bool, true, false, List, [], ◌∷◌, ◌++◌, map, Option, None, Some, refl, sym, ◌∙◌, ap, subst, arith}
use Rattle.std.specs.Prelude.{nat_lt}
use Rattle.std.specs.List.{flat_map}
use Rattle.base_data.specs.Act.{after, give}
use Rattle.base_data.specs.Elements.{Each}
use Rattle.base_data.specs.Named.{Named}
use Rattle.base_data.specs.declared.library.LibName.{LibName}
use Rattle.base_data.specs.declared.name.FrameNo.{FrameNo}
use Rattle.base_data.specs.declared.name.Label.{Label}
use Rattle.base_data.specs.declared.span.Span.{Span}
use Rattle.stx_tree.specs.Changes.{stamp}
use Rattle.stx_tree.specs.Tree.{Tree}
use Rattle.core_language.specs.Core.{PlainCore, no_clause, procedure, letrec, matching}
use Rattle.core_language.specs.CoreView.{inits, cases, clause_on, clauses}
use Rattle.core_language.specs.References.{binders, variables, formals_labels, init_binders}
use Rattle.core_language.specs.declared.binding.Binding.TheVariants as binding
use Rattle.core_language.specs.declared.code.Clause.{Clause}
use Rattle.core_language.specs.declared.code.Init.{Init}
use Rattle.core_language.specs.declared.record.CompiledLibrary.{CompiledLibrary}
use Rattle.core_language.specs.declared.code.Lambda.{Lambda}
use Rattle.core_language.specs.declared.formals.Formals.{Formals}
use Rattle.law_core.specs.Templates.{Depths, depths}
use Rattle.law_core.specs.Parts.{parts, init_parts, init_labels, own_number}
use Rattle.core_shapes.specs.declared.shape.BindingSpec.{BindingSpec}
use Rattle.core_shapes.specs.declared.shape.FormalIds.{FormalIds}
use Rattle.core_shapes.specs.declared.shape.LambdaCase.{LambdaCase}
use Rattle.core_shapes.specs.declared.shape.PatternCase.{PatternCase}
use Rattle.eval_pattern.specs.declared.compile.Compiled.{Compiled}
use Rattle.eval_pattern.specs.declared.compile.PatternVariable.{PatternVariable}
use Rattle.expand_standing.specs.Binders.{bind_formals, bind_specs}
use Rattle.expand_standing.specs.Patterns.{pattern_of, check_literals, bind_pattern}
use Rattle.expand_standing.specs.State.{State, fresh, fresh_frame}
use Rattle.expand_standing.specs.declared.binders.BoundSpec.{BoundSpec}
use Rattle.expand_heads.specs.declared.plan.Plan.{Plan}
use Rattle.expand_heads.specs.declared.plan.Plan.TheVariants as plans
use Rattle.expand_forms.specs.Body.{body}
use Rattle.expand_forms.specs.Expression.{case_in, lambda_case, lambda, one_case, all_cases, case_lambda, one_init, all_inits, letrec_in, letrec_form, in_sequence, fender, clause_in, pattern_clause, all_clauses, syntax_case, keywords_form, perform, perform_settled, form_at, inside}
use Rattle.expand_heads.specs.Depth.{deeper, most_round}
use Rattle.expand_forms.specs.Inside.{Inside}
use Rattle.expand_forms.specs.Keywords.{with_keywords}
use Rattle.expand_forms.specs.ExpandUses.{expand_uses}
use Rattle.expand_forms.specs.Site.{site_at}
use Rattle.expand_forms.specs.Forms.{let_syntax_parts, letrec_parts, procedure_parts, syntax_case_parts}
use Rattle.law_expand.specs.States.{IsPattern, Later}
use Rattle.law_expand.proofs.Acts.{Gave, gave-after, gave-within, gave-less, gave-both, gave-if, gave-each}
use Rattle.law_expand.proofs.Fresh.{Made, FreshLabels, label_name, code_name, each-map, fresh-wider, fresh-append, made-apart}
use Rattle.law_expand.proofs.Later.{later-self, later-then}
use Rattle.law_expand.proofs.NestingForms.{inside-nests}
use Rattle.law_expand.proofs.Naming.{as_frame, counted, counted-later, next-made}
use Rattle.law_expand.proofs.Good.{Bindings, IsPatternIn, InTurn, Good, GoodCase, GoodInit, GoodInits, GoodClauses, GoodClause, GoodFender, Before, label_of, good-lambda, good-case_lambda, good-wider, inner-wider, inits-wider, good-inits, good-letrec, good-clause, good-clauses, good-matching, case-grown, clauses-grown, clauses-sooner}
use Rattle.law_expand.proofs.Meanings.{Planned}
use Rattle.law_expand.proofs.SettledPlans.{SettlesTo, expand_uses-planned}
use Rattle.law_expand.proofs.Uses.{Patterned, pattern-later, literals-later}
use Rattle.law_expand.proofs.BindingKeywords.{pattern-are}
use Rattle.law_expand.proofs.Compiled.{variable_label, variable_depth}
use Rattle.law_expand.proofs.Changes.{BindsPattern, moved-body, moved-case, moved-init, moved-clause, pattern-bound, pattern-adds, keywords-some, inside-moves}
use Rattle.law_expand.proofs.Expand.{GivesGood, GivesCase, Safe, Starts, starts-later, lifted, apart-later, Gives, gives, gives-application, gives-conditional, gives-set, gives-sequence}
use Rattle.law_expand.proofs.Bodies.{starts-with, starts-framed, gives-body}
use Rattle.law_expand.proofs.Binding.{BindsAll, spec_label, binds-formals, binds-specs}
use Rattle.law_expand.proofs.QuasiGood.{gives-quasi}

module _ (own : LibName) (given : List Label) (go : Inside) (safe : Safe own given go) where
  module _ (place : Span) (level depth : ℕ) (t : Tree) (vs : Depths) (ls : List Label) where
    abbrev S : State → Type 0
    S = Starts own given vs level ls

    abbrev pub counted-starts : (s : State) → S s → S (counted s)
    counted-starts s h = starts-later own given vs level ls s (counted s) h (counted-later own s h.0.next)

    -- A case of a procedure.

    abbrev With : Formals → State → State → Type 0
    With x s u = BindsAll own (as_frame s.names) (counted s) (formals_labels x) u

    case-good : (s u v : State) (x : Formals) (c : PlainCore) → With x s u → u.names.number ≤ v.names.number → GivesGood own vs (formals_labels x ++ ls) u c v → GivesCase own vs ls s (record { formals = x; body = c }) v
    case-good s u v x c b le k =
        let up : s.names.number ≤ u.names.number = let low = b.later.up in omega (arith, low) in
        record {
          closed = k.closed;
          suits = k.suits;
          binders = fresh-append label_name own s.names.number u.names.number v.names.number (formals_labels x) (binders c) up le
              (fresh-wider label_name own (counted s).names.number u.names.number s.names.number u.names.number (formals_labels x) (omega arith) (omega arith) b.labels) k.binders;
          inner = inner-wider own v.bindings vs ls u.names.number v.names.number s.names.number v.names.number (parts c) up (omega arith) k.inner;
        }

    pub gives-case : (ids : FormalIds) (forms : List Tree) (s : State) → S s → Gave (GivesCase own vs ls s) (lambda_case go (site_at place level depth) (procedure_parts t ids forms) s)
    unfolding lambda_case fresh_frame
    gives-case ids forms s h =
        let f = as_frame s.names in
        gave-within (GivesCase own vs ls s) (λ u. after (fresh_frame u) (case_in go (site_at place level depth) (procedure_parts t ids forms))) s
        (gave-after (λ x u. With x s u) (GivesCase own vs ls s) (bind_formals f place level ids (counted s)) (λ x u. after (body go (site_at place level depth) t (map (stamp f) forms) u) (λ c. give (record { formals = x; body = c })))
        (binds-formals own f place level ids (counted s) h.0.next)
        (λ x u b.
        gave-after (GivesGood own vs (formals_labels x ++ ls) u) (GivesCase own vs ls s) (body go (site_at place level depth) t (map (stamp f) forms) u) (λ c. give (record { formals = x; body = c }))
        (gives-body own given go safe place level depth t vs (formals_labels x ++ ls) (map (stamp f) forms) u (starts-framed own given vs level ls (formals_labels x) s u b.later b.adds h))
        (λ c v k. case-good s u v x c b k.inner.up k)))

    next-code : (s : State) → s.names.library ≡ own → Made own s.names.number (suc s.names.number) s.names
    next-code s n = let e : s.names.number + 1 ≡ suc s.names.number = omega arith in subst (λ m. Made own s.names.number m s.names) e (next-made own s n)

    pub gives-lambda : (ids : FormalIds) (forms : List Tree) (s : State) → S s → Gave (GivesGood own vs ls s) (lambda go (site_at place level depth) (procedure_parts t ids forms) s)
    unfolding lambda fresh
    gives-lambda ids forms s h =
        gave-after (GivesCase own vs ls (counted s)) (GivesGood own vs ls s) (lambda_case go (site_at place level depth) (procedure_parts t ids forms) (counted s)) (λ c. give (procedure (record { 0 = s.names }) (cases (c ∷ [])) true))
        (gives-case ids forms (counted s) (counted-starts s h))
        (λ c u k. let e : s.names.number + 1 ≡ suc s.names.number = omega arith in
        good-lambda own u.bindings vs ls s.names.number u.names.number (record { 0 = s.names }) c (next-code s h.0.next) (subst (λ n. GoodCase own u.bindings vs ls n u.names.number c) e k))

    abbrev GivesCases : State → List Lambda → State → Type 0
    GivesCases s xs u = Later own s u × InTurn (GoodCase own u.bindings vs ls) s.names.number u.names.number xs

    gives-cases : (cs : List LambdaCase) (s : State) → S s → Gave (GivesCases s) (all_cases go (site_at place level depth) t cs s)
    gives-cases cs s h =
        gave-each (one_case go (site_at place level depth) t) (λ c u x v. Later own u v × GivesCase own vs ls u x v) (λ xs u ys v. GivesCases u ys v) S (λ u k. (later-self own u k.0.next, omega arith))
        (λ c u k. gave-both (λ x v. Later own u v) (GivesCase own vs ls u) (one_case go (site_at place level depth) t c u) (moved-case own go safe.moves place level depth t c.formals c.body u k.0.next) (gives-case c.formals c.body u k))
        (λ c u v x k j. starts-later own given vs level ls u v k j.0)
        (λ c xs u v w x ys k j a. (later-then own u v w j.0 a.0, (v.names.number, (case-grown own v.bindings w.bindings a.0.grows.bound vs ls u.names.number v.names.number x j.1, a.1))))
        cs s h

    pub gives-case_lambda : (cs : List LambdaCase) (s : State) → S s → Gave (GivesGood own vs ls s) (case_lambda go (site_at place level depth) t cs s)
    unfolding case_lambda fresh
    gives-case_lambda cs s h =
        gave-after (GivesCases (counted s)) (GivesGood own vs ls s) (all_cases go (site_at place level depth) t cs (counted s)) (λ xs. give (procedure (record { 0 = s.names }) (cases xs) false)) (gives-cases cs (counted s) (counted-starts s h))
        (λ xs u k. let e : s.names.number + 1 ≡ suc s.names.number = omega arith in
        good-case_lambda own u.bindings vs ls s.names.number u.names.number (record { 0 = s.names }) xs (next-code s h.0.next) (subst (λ n. InTurn (GoodCase own u.bindings vs ls) n u.names.number xs) e k.1))

  -- `letrec`, whose variables stand in a new frame.

  module _ (place : Span) (level depth : ℕ) (t : Tree) (star : Bool) (vs : Depths) (ls : List Label) where
    module _ (f : FrameNo) (wide : List Label) where
      -- the value of a variable
      abbrev IsInit : BoundSpec → State → Init → State → Type 0
      IsInit b s i u = GoodInit own u.bindings vs wide s.names.number u.names.number i × (i.label ≡ b.label)

      pub record GivesInits (bs : List BoundSpec) (s : State) (is : List Init) (u : State) : Type 0 where
        pub later : Later own s u
        pub good : InTurn (GoodInit own u.bindings vs wide) s.names.number u.names.number is
        pub labels : map label_of is ≡ map spec_label bs

      gives-init : (b : BoundSpec) (s : State) → Starts own given vs level wide s → Gave (IsInit b s) (one_init go (site_at place level depth) f b s)
      unfolding one_init
      gives-init b s h =
          gave-after (GivesGood own vs wide s) (IsInit b s) (go.form (site_at place level depth) (stamp f b.init) s) (λ c. give (record { label = b.label; value = c })) (safe.form place level depth (stamp f b.init) s vs wide h.0 h.1)
          (λ c u k. (k, refl))

      pub gives-inits : (bs : List BoundSpec) (s : State) → Starts own given vs level wide s → Gave (GivesInits bs s) (all_inits go (site_at place level depth) f bs s)
      gives-inits bs s h =
          gave-each (one_init go (site_at place level depth) f) (λ b u i v. Later own u v × IsInit b u i v) (λ xs u ys v. GivesInits xs u ys v) (Starts own given vs level wide)
          (λ u k. record { later = later-self own u k.0.next; good = omega arith; labels = refl })
          (λ b u k. gave-both (λ i v. Later own u v) (IsInit b u) (one_init go (site_at place level depth) f b u) (moved-init own go safe.moves place level depth t f b u k.0.next) (gives-init b u k))
          (λ b u v x k j. starts-later own given vs level wide u v k j.0)
          (λ b xs u v w x ys k j a. record { later = later-then own u v w j.0 a.later; good = (v.names.number, (lifted own vs wide u.names.number v.names.number x.value v w a.later j.1.0, a.good)); labels = λ i. j.1.1 i ∷ a.labels i })
          bs s h

    inits-labels : (is : List Init) → init_labels (inits is) ≡ map label_of is
    inits-labels [] = refl
    inits-labels (i ∷ is) = ap (λ xs. i.label ∷ xs) (inits-labels is)

    letrec-good : (bs : Bindings) (a m n b : ℕ) (labels : List Label) (is : List Init) (c : PlainCore) → map label_of is ≡ labels → a ≤ m → FreshLabels own a m labels
        → InTurn (GoodInit own bs vs (labels ++ ls)) m n is → m ≤ n → Good own bs vs (labels ++ ls) n b c → Good own bs vs ls a b (letrec star (inits is) c)
    letrec-good bs a m n b labels is c e le fresh h up k =
        let mine : FreshLabels own a m (map label_of is) = subst (FreshLabels own a m) (sym e) fresh in
        let before = each-map (λ l. Made own a m l.0) (Before m) (map label_of is) mine.made (λ l x. x.high) in
        let all = good-inits own bs vs (labels ++ ls) m m n is (omega arith) before mine.once h in
        let rest = k.inner.up in
        good-letrec own bs vs ls a m b star labels (inits is) c (inits-labels is ∙ e) le fresh
        (subst (λ (xs : List Label). GoodInits own bs vs (labels ++ ls) xs m b (inits is)) e (inits-wider own bs vs (labels ++ ls) (map label_of is) m n m b (inits is) (omega arith) rest all))
        (good-wider own bs vs (labels ++ ls) n b m b c up (omega arith) k)
        (apart-later own (map label_of is) m n b (init_binders (inits is)) (binders c) up before all.from k.binders.made)
        (made-apart code_name own m n n b (flat_map own_number (init_parts (inits is))) (flat_map own_number (parts c)) (omega arith) all.inner.codes.made k.inner.codes.made)

    inits-lifted : (wide : List Label) (a b : ℕ) (is : List Init) (v w : State) → Later own v w → InTurn (GoodInit own v.bindings vs wide) a b is → InTurn (GoodInit own w.bindings vs wide) a b is
    inits-lifted wide a b [] v w l h = h
    inits-lifted wide a b (i ∷ is) v w l (m, (h, k)) = (m, (lifted own vs wide a m i.value v w l h, inits-lifted wide m b is v w l k))

    pub gives-letrec : (bs : List BindingSpec) (forms : List Tree) (s : State) → Starts own given vs level ls s → Gave (GivesGood own vs ls s) (letrec_form go (site_at place level depth) (letrec_parts t star bs forms) s)
    unfolding letrec_form fresh_frame
    gives-letrec bs forms s h =
        let f = as_frame s.names in
        gave-within (GivesGood own vs ls s) (λ u. after (fresh_frame u) (letrec_in go (site_at place level depth) (letrec_parts t star bs forms))) s
        (gave-after (λ xs u. BindsAll own f (counted s) (map spec_label xs) u) (GivesGood own vs ls s) (bind_specs f place level bs (counted s))
        (λ xs u. after (all_inits go (site_at place level depth) f xs u) (λ is v. after (body go (site_at place level depth) t (map (stamp f) forms) v) (λ c. give (letrec star (inits is) c))))
        (binds-specs own f place level bs (counted s) h.0.next)
        (λ xs u b.
        let labels = map spec_label xs in
        let seen = starts-framed own given vs level ls labels s u b.later b.adds h in
        gave-after (GivesInits f (labels ++ ls) xs u) (GivesGood own vs ls s) (all_inits go (site_at place level depth) f xs u) (λ is v. after (body go (site_at place level depth) t (map (stamp f) forms) v) (λ c. give (letrec star (inits is) c)))
        (gives-inits f (labels ++ ls) xs u seen)
        (λ is v k.
        gave-after (Gives own given go safe place level depth vs (labels ++ ls) v) (GivesGood own vs ls s) (body go (site_at place level depth) t (map (stamp f) forms) v) (λ c. give (letrec star (inits is) c))
        (gave-both (λ c w. Later own v w) (GivesGood own vs (labels ++ ls) v) (body go (site_at place level depth) t (map (stamp f) forms) v) (moved-body own go safe.moves place level depth t (map (stamp f) forms) v k.later.next)
        (gives-body own given go safe place level depth t vs (labels ++ ls) (map (stamp f) forms) v (starts-later own given vs level (labels ++ ls) u v seen k.later)))
        (λ c w j. good-wider own w.bindings vs ls (counted s).names.number w.names.number s.names.number w.names.number (letrec star (inits is) c) (omega arith) (omega arith)
        (letrec-good w.bindings (counted s).names.number u.names.number v.names.number w.names.number labels is c k.labels b.later.up b.labels (inits-lifted (labels ++ ls) u.names.number v.names.number is v w j.0 k.good) k.later.up j.1)))))

  -- `syntax-case`.

  module _ (place : Span) (level depth : ℕ) (literals : List Tree) (vs : Depths) (ls : List Label) where
    abbrev IsClause : State → Clause → State → Type 0
    IsClause s c u = GoodClause own u.bindings vs ls s.names.number u.names.number c

    -- the variables of a pattern are pattern variables
    bound-patterns : (f : FrameNo) (p : Compiled) (t u : State) (ws : List PatternVariable) → Each (λ (v : PatternVariable). IsPattern u v.label level v.depth) ws → Each (λ (v : Label × ℕ). (at : ℕ) × IsPattern u v.0 at v.1) (map variable_depth ws)
    bound-patterns f p t u [] h = tt
    bound-patterns f p t u (w ∷ ws) h = ((level, h.0), bound-patterns f p t u ws h.1)

    bound-labels : (u : State) (ws : List PatternVariable) → Each (λ (v : PatternVariable). IsPattern u v.label level v.depth) ws → Each (IsPatternIn u.bindings) (map variable_label ws)
    bound-labels u [] h = tt
    bound-labels u (w ∷ ws) h = ((level, (w.depth, h.0)), bound-labels u ws h.1)

    fender-given : (f : FrameNo) (wide : Depths) (seen : List Label) (o : Option Tree) (s : State) → Starts own given wide level seen s
        → Gave (λ x u. Later own s u × GoodFender own u.bindings wide seen s.names.number u.names.number x) (fender go (site_at place level depth) f o s)
    fender-given f wide seen None s h = (later-self own s h.0.next, omega arith)
    fender-given f wide seen (Some t) s h =
        gave-after (Gives own given go safe place level depth wide seen s) (λ x u. Later own s u × GoodFender own u.bindings wide seen s.names.number u.names.number x) (go.form (site_at place level depth) (stamp f t) s) (λ c. give (Some c))
        (gives own given go safe place level depth wide seen (stamp f t) s h) (λ c u k. k)

    fender-lifted : (wide : Depths) (seen : List Label) (a b : ℕ) (x : Option PlainCore) (t u : State) → Later own t u → GoodFender own t.bindings wide seen a b x → GoodFender own u.bindings wide seen a b x
    fender-lifted wide seen a b None t u l h = h
    fender-lifted wide seen a b (Some c) t u l h = lifted own wide seen a b c t u l h

    gives-clause : (c : PatternCase) (s : State) → Starts own given vs level ls s → Gave (IsClause s) (pattern_clause go (site_at place level depth) literals c s)
    unfolding pattern_clause fresh_frame
    gives-clause c s h =
        let f = as_frame s.names in
        gave-within (IsClause s) (λ u. after (fresh_frame u) (clause_in go (site_at place level depth) literals c)) s
        (gave-after (Patterned own (counted s)) (IsClause s) (pattern_of literals place c.pattern (counted s)) _ (pattern-later own literals place c.pattern (counted s) h.0.next)
        (λ p t j.
        gave-after (λ x u. BindsPattern own go safe.moves place level depth literals f (counted s) p u) (IsClause s) (bind_pattern f place level p.variables t) _ (pattern-bound own go safe.moves place level depth literals f p (counted s) t j)
        (λ x u b.
        let adds = pattern-adds own go safe.moves place level depth literals f p (counted s) u b in
        let next = starts-later own given vs level ls s (counted s) h (counted-later own s h.0.next) in
        let are = pattern-are own f level p (counted s) b.compiled u b.patterned b.binds next.0.numbered in
        let labels = map variable_label p.variables in
        let ds = map variable_depth p.variables in
        let seen = starts-with own given vs level ls labels ds s u adds.0 adds.1.0 (bound-patterns f p t u p.variables are) h in
        gave-after (λ x v. Later own u v × GoodFender own v.bindings (ds ++ vs) (labels ++ ls) u.names.number v.names.number x) (IsClause s) (fender go (site_at place level depth) f c.fender u) _ (fender-given f (ds ++ vs) (labels ++ ls) c.fender u seen)
        (λ e v k.
        gave-after (Gives own given go safe place level depth (ds ++ vs) (labels ++ ls) v) (IsClause s) (go.form (site_at place level depth) (stamp f c.output) v) (λ o. give (record { pattern = p.pattern; fender = e; output = o }))
        (gives own given go safe place level depth (ds ++ vs) (labels ++ ls) (stamp f c.output) v (starts-later own given (ds ++ vs) level (labels ++ ls) u v seen k.0))
        (λ o w i. clause-made s p e o u v w b adds.0.up are k.0 i.0 (fender-lifted (ds ++ vs) (labels ++ ls) u.names.number v.names.number e v w i.0 k.1) i.1)))))
      where
        clause-made : (s : State) (p : Compiled) (e : Option PlainCore) (o : PlainCore) (u v w : State) → BindsPattern own go safe.moves place level depth literals (as_frame s.names) (counted s) p u → (counted s).names.number ≤ u.names.number
            → Each (λ (v : PatternVariable). IsPattern u v.label level v.depth) p.variables → Later own u v → Later own v w
            → GoodFender own w.bindings (map variable_depth p.variables ++ vs) (map variable_label p.variables ++ ls) u.names.number v.names.number e
            → Good own w.bindings (map variable_depth p.variables ++ vs) (map variable_label p.variables ++ ls) v.names.number w.names.number o
            → GoodClauses own w.bindings vs ls s.names.number w.names.number (clause_on p.pattern e o no_clause)
        clause-made s p e o u v w b up are l i j k =
            let c = b.patterned.compiles in
            let d : map variable_depth p.variables ≡ depths 0 p.pattern = sym c.depths in
            let x : map variable_label p.variables ≡ variables p.pattern = sym c.labels in
            let fresh = fresh-wider label_name own (counted s).names.number b.compiled.names.number s.names.number u.names.number (map variable_label p.variables) (omega arith) (let z = ap (λ (n : Named). n.number) b.binds.names in omega (arith, z)) c.fresh in
            good-clause own w.bindings vs ls s.names.number u.names.number v.names.number w.names.number p.pattern e o (omega (arith, up))
            (subst (FreshLabels own s.names.number u.names.number) x fresh)
            (record { leaves = c.leaves; bound = subst (Each (IsPatternIn w.bindings)) x (each-map (IsPatternIn u.bindings) (IsPatternIn w.bindings) (map variable_label p.variables) (bound-labels u p.variables are) (λ m y. (y.0, (y.1.0, i.grows.bound m (binding.PatternVariable y.0 y.1.0) (l.grows.bound m (binding.PatternVariable y.0 y.1.0) y.1.1))))) })
            (subst (λ es. GoodFender own w.bindings (es ++ vs) (variables p.pattern ++ ls) u.names.number v.names.number e) d (subst (λ ms. GoodFender own w.bindings (map variable_depth p.variables ++ vs) (ms ++ ls) u.names.number v.names.number e) x j))
            (subst (λ es. Good own w.bindings (es ++ vs) (variables p.pattern ++ ls) v.names.number w.names.number o) d (subst (λ ms. Good own w.bindings (map variable_depth p.variables ++ vs) (ms ++ ls) v.names.number w.names.number o) x k))

    abbrev GivesClauses : State → List Clause → State → Type 0
    GivesClauses s xs u = Later own s u × InTurn (GoodClause own u.bindings vs ls) s.names.number u.names.number xs

    gives-clauses : (cs : List PatternCase) (s : State) → Starts own given vs level ls s → Gave (GivesClauses s) (all_clauses go (site_at place level depth) literals cs s)
    gives-clauses cs s h =
        gave-each (pattern_clause go (site_at place level depth) literals) (λ c u x v. Later own u v × IsClause u x v) (λ xs u ys v. GivesClauses u ys v) (Starts own given vs level ls) (λ u k. (later-self own u k.0.next, omega arith))
        (λ c u k. gave-both (λ x v. Later own u v) (IsClause u) (pattern_clause go (site_at place level depth) literals c u) (moved-clause own go safe.moves place level depth literals c u k.0.next) (gives-clause c u k))
        (λ c u v x k j. starts-later own given vs level ls u v k j.0)
        (λ c xs u v w x ys k j a. (later-then own u v w j.0 a.0, (v.names.number, (clauses-grown own v.bindings w.bindings a.0.grows.bound vs ls u.names.number v.names.number (clause_on x.pattern x.fender x.output no_clause) j.1, a.1))))
        cs s h

    pub gives-syntax_case : (subject : Tree) (cs : List PatternCase) (span : Span) (s : State) → Starts own given vs level ls s → Gave (GivesGood own vs ls s) (syntax_case go (site_at place level depth) (syntax_case_parts subject literals cs span) s)
    unfolding syntax_case
    gives-syntax_case subject cs span s h =
        gave-after (Gives own given go safe place level depth vs ls s) (GivesGood own vs ls s) (go.form (site_at place level depth) subject s) _ (gives own given go safe place level depth vs ls subject s h)
        (λ c t j. let h' = starts-later own given vs level ls s t h j.0 in
        gave-after (λ x u. Later own t u) (GivesGood own vs ls s) (check_literals place literals t) (λ _ u. after (all_clauses go (site_at place level depth) literals cs u) (λ xs. give (matching c (clauses xs) span))) (literals-later own literals place t h'.0.next)
        (λ x u k.
        gave-after (GivesClauses u) (GivesGood own vs ls s) (all_clauses go (site_at place level depth) literals cs u) (λ xs. give (matching c (clauses xs) span)) (gives-clauses cs u (starts-later own given vs level ls t u h' k))
        (λ xs v a. good-matching own v.bindings vs ls s.names.number t.names.number v.names.number c (clauses xs) span (lifted own vs ls s.names.number t.names.number c t v (later-then own t u v k a.0) j.1)
        (clauses-sooner own v.bindings vs ls t.names.number u.names.number v.names.number (clauses xs) k.up (good-clauses own v.bindings vs ls u.names.number v.names.number xs a.1)))))

  -- A form.

  module _ (level : ℕ) (vs : Depths) (ls : List Label) where
    -- forms behind keywords
    nothing-given : (place : Span) (depth : ℕ) (forms : List Tree) (s : State) → (forms ≡ [] → ⊥) → Starts own given vs level ls s → Gave (GivesGood own vs ls s) (in_sequence go (site_at place level depth) forms s)
    nothing-given place depth [] s some h = absurd (some refl)
    nothing-given place depth (x ∷ xs) s some h = gives-sequence own given go safe place level depth vs ls x xs s h

    gives-keywords : (place : Span) (depth : ℕ) (recursive : Bool) (bs : List BindingSpec) (x : Tree) (xs : List Tree) (s : State) → Starts own given vs level ls s → Gave (GivesGood own vs ls s) (keywords_form go (site_at place level depth) (let_syntax_parts recursive bs (x ∷ xs)) s)
    unfolding keywords_form
    gives-keywords place depth recursive bs x xs s h =
        gave-after (λ ys u. Later own s u × (ys ≡ [] → ⊥)) (GivesGood own vs ls s) (with_keywords go (site_at place level depth) (let_syntax_parts recursive bs (x ∷ xs)) s) (in_sequence go (site_at place level depth)) (keywords-some own go safe.moves place level depth recursive bs x xs s h.0.next)
        (λ ys u k. gave-less (GivesGood own vs ls u) (GivesGood own vs ls s) (in_sequence go (site_at place level depth) ys u) (nothing-given place depth ys u k.1 (starts-later own given vs level ls s u h k.0))
        (λ c v j. good-wider own v.bindings vs ls u.names.number v.names.number s.names.number v.names.number c k.0.up (omega arith) j))

    performs : (place : Span) (depth : ℕ) (t : Tree) (p : Plan) (s : State) → Starts own given vs level ls s → Planned own s.bindings vs ls s.names.number p → Gave (GivesGood own vs ls s) (perform go (site_at place level depth) t p s)
    unfolding perform
    performs place depth t (plans.Done c) s h k = k
    performs place depth t (plans.Call operator operands) s h k = gives-application own given go safe place level (deeper depth) vs ls operator operands s h
    performs place depth t (plans.Conditional test consequent other) s h k = gives-conditional own given go safe place level (deeper depth) vs ls test consequent other s h
    performs place depth t (plans.Assignment l value) s h k = gives-set own given go safe place level (deeper depth) vs ls l value s k.0 k.1 h
    performs place depth t (plans.Sequence []) s h k = elim k [ ]
    performs place depth t (plans.Sequence (x ∷ xs)) s h k = gives-sequence own given go safe place level (deeper depth) vs ls x xs s h
    performs place depth t (plans.Lambda ids forms) s h k = gives-lambda place level (deeper depth) t vs ls ids forms s h
    performs place depth t (plans.CaseLambda cs) s h k = gives-case_lambda place level (deeper depth) t vs ls cs s h
    performs place depth t (plans.Letrec star bs forms) s h k = gives-letrec place level (deeper depth) t star vs ls bs forms s h
    performs place depth t (plans.Matching subject literals cs span) s h k = gives-syntax_case place level (deeper depth) literals vs ls subject cs span s h
    performs place depth t (plans.Keywords recursive bs []) s h k = elim k [ ]
    performs place depth t (plans.Keywords recursive bs (x ∷ xs)) s h k = gives-keywords place (deeper depth) recursive bs x xs s h
    performs place depth t (plans.Quasi which template) s h k = gives-quasi own given place level t vs ls go safe (deeper depth) which template s h

    pub gives-form : (place : Span) (depth : ℕ) (t : Tree) (s : State) → Starts own given vs level ls s → Gave (GivesGood own vs ls s) (form_at go (site_at place level depth) t s)
    unfolding form_at
    gives-form place depth t s h =
        gave-if (GivesGood own vs ls s) (nat_lt most_round depth) _ (after (expand_uses go.earlier place level t s) (perform_settled go level depth)) (λ e. tt)
        (λ e. gave-after (SettlesTo own given go.earlier vs level ls s) (GivesGood own vs ls s) (expand_uses go.earlier place level t s) (perform_settled go level depth)
        (expand_uses-planned own given go.earlier vs level ls s.uses_left place t s h)
        (λ d u k. gave-less (GivesGood own vs ls u) (GivesGood own vs ls s) (perform_settled go level depth d u) (performs d.place depth d.form d.plan u (starts-later own given vs level ls s u h k.0) k.1)
        (λ c v j. good-wider own v.bindings vs ls u.names.number v.names.number s.names.number v.names.number c k.0.up (omega arith) j)))

-- So it is inside forms, however deep they may nest.
pub inside-safe : (own : LibName) (given : List Label) (rs : List CompiledLibrary) (room : ℕ) → Safe own given (inside rs room)
unfolding inside
inside-safe own given rs zero = record { moves = inside-moves own rs zero; nests = inside-nests own rs zero; form = λ place level depth t s vs ls h k. tt; procedure = λ place level depth t ids forms s vs ls h k. tt }
inside-safe own given rs (suc room) =
    let safe = inside-safe own given rs room in
    record {
      moves = inside-moves own rs (suc room);
      nests = inside-nests own rs (suc room);
      form = λ place level depth t s vs ls h k. gives-form own given (inside rs room) safe level vs ls place depth t s (h, k);
      procedure = λ place level depth t ids forms s vs ls h k. gives-case own given (inside rs room) safe place level depth t vs ls ids forms s (h, k);
    }
