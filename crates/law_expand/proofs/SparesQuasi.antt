-- `quasiquote` and `quasisyntax` forms spare the names of keywords, given that what is done inside forms does.
use Rattle.std.proofs.Common.{◌≡◌, ℕ, false, List, [], ◌∷◌, ◌++◌, map, refl, sym, ◌∙◌, ap, subst}
use Rattle.base_data.proofs.ElementLemmas.{each-append}
use Rattle.base_data.specs.Act.{after, give}
use Rattle.base_data.specs.Elements.{Each}
use Rattle.base_data.specs.declared.library.LibName.{LibName}
use Rattle.base_data.specs.declared.name.FrameNo.{FrameNo}
use Rattle.base_data.specs.declared.name.Label.{Label}
use Rattle.base_data.specs.declared.op.Op.{Op}
use Rattle.base_data.specs.declared.span.Span.{Span}
use Rattle.stx_tree.specs.Changes.{stamp}
use Rattle.stx_tree.specs.Leaves.{strip}
use Rattle.stx_tree.specs.Tree.{Tree}
use Rattle.core_language.specs.Core.{PlainCore, quoted, primitive, call, cores, instance, matching}
use Rattle.core_language.specs.CoreView.{clauses}
use Rattle.core_language.specs.References.{all_binders, clause_binders}
use Rattle.core_language.specs.Template.{PlainTemplate}
use Rattle.core_language.specs.declared.code.Clause.{Clause}
use Rattle.law_core.specs.Parts.{all_parts, clause_parts}
use Rattle.eval_pattern.specs.declared.compile.PatternVariable.{PatternVariable}
use Rattle.core_quasi.specs.Plan.{PlainQuasi, PlainQuasis, constant, expression, none, more}
use Rattle.core_quasi.specs.Plan as quasi
use Rattle.core_quasi.specs.declared.quasi_syntax.Insert.{Insert}
use Rattle.core_quasi.specs.declared.quasi_syntax.QuasiSyntax.{QuasiSyntax}
use Rattle.core_quasi.specs.declared.word.Family.{Family}
use Rattle.expand_quasi.specs.Filled.{op_of, call_of, next_code, filled, all_filled}
use Rattle.expand_quasi.specs.Form.{form_of, parts_of, code_of}
use Rattle.expand_quasi.specs.Inserted.{dots, ellipsis, insert_variables, inserts_pattern, list_op, only_clause, match_of, bind_inserts, inserted_in, inserted, plain_instance, syntax_code}
use Rattle.expand_quasi.specs.declared.form.QuasiForm.{QuasiForm}
use Rattle.expand_quasi.specs.declared.form.QuasiForm.TheVariants as forms
use Rattle.core_shapes.specs.At.{place_of}
use Rattle.eval_stage.specs.declared.keyword.Keyword.{Keyword}
use Rattle.expand_standing.specs.Binders.{put_row}
use Rattle.expand_standing.specs.Patterns.{bind_pattern, template_of}
use Rattle.expand_standing.specs.State.{State, fresh_frame}
use Rattle.expand_forms.specs.Inside.{Inside}
use Rattle.expand_forms.specs.Quasi.{part_core, parts_in_order, quasi_made, quasi_form}
use Rattle.expand_forms.specs.Site.{site_at}
use Rattle.expand_forms.specs.Forms.{template_parts}
use Rattle.law_expand.proofs.Acts.{Gave, gave-after, gave-less, gave-both}
use Rattle.law_expand.proofs.Compiled.{variable_label, variable_depth}
use Rattle.law_expand.proofs.Fresh.{each-map}
use Rattle.law_expand.proofs.InsertPatterns.{inserts-variables}
use Rattle.law_expand.proofs.Inserts.{with_dots, IsNewThere, dots-put, Labelled, labelled, labelled-patterned, BindsInserts, inserts-bound, inserts-add, inserts-made}
use Rattle.law_expand.proofs.Naming.{as_frame, counted}
use Rattle.law_expand.proofs.Plans.{IsTemplate, template-is}
use Rattle.law_expand.proofs.QuasiLater.{form-same}
use Rattle.law_expand.proofs.Spares.{Spares, Gives, goes, goes-each, goes-within, C, core-lift}
use Rattle.law_expand.specs.Kept.{IsKeptWith, IsGoodState}
use Rattle.law_expand.proofs.Spent.{Tracks, AreUnspent, AwayClause, away-append, away-round, all-away, clauses-away, bound-unspent}
use Rattle.law_expand.proofs.SpentBinding.{Same, bind-pattern-same, onward-self, onward-then, onward-but, onward-counted}
use Rattle.law_expand.proofs.SpentOnStage.{Tells}

pub inserts-same : (f : FrameNo) (place : Span) (level : ℕ) (vs : List PatternVariable) (s : State) → Gave (Same s) (bind_inserts f place level vs s)
inserts-same f place level vs s =
    gave-after (Same s) (Same s) (bind_pattern f place level vs s) (λ _. put_row dots place f ellipsis) (bind-pattern-same f place level vs s)
    (λ x u e. gave-less (λ y v. (v ≡ with_dots f u) × IsNewThere f u) (Same s) (put_row dots place f ellipsis u) (dots-put f place u) (λ y v k. ap (λ (z : State). z.keywords) k.0 ∙ e))

pub same-told : (s u : State) → u.keywords ≡ s.keywords → Tells s.keywords u.keywords
same-told s u same k c e = subst (λ (ks : List (Label × Keyword)). IsKeptWith ks k c) same e

module _ (own : LibName) (given : List Label) where
  abbrev B : State → Type 0
  B = IsGoodState own given

  abbrev D : State → PlainCore → Type 0
  D = C own given

  -- what has no binder and no code
  quoted-away : (u : State) (t : Tree) → D u (quoted (strip t))
  quoted-away u t = record { labels = tt; codes = (tt, tt) }

  instance-away : (u : State) (x : PlainTemplate) (span : Span) → D u (instance x span)
  instance-away u x span = record { labels = tt; codes = (tt, tt) }

  call-away : (u : State) (o : Op) (cs : List PlainCore) → Each (D u) cs → D u (call_of o cs)
  call-away u o cs h =
      away-round own u ([] ++ all_binders (cores cs)) (call (primitive o) (cores cs)) ((primitive o ∷ []) ++ all_parts (cores cs)) refl
      (away-append own u [] (all_binders (cores cs)) (primitive o ∷ []) (all_parts (cores cs)) (record { labels = tt; codes = (tt, tt) }) (all-away own u cs h))

  -- Plans.

  next-away : (u : State) (t : Tree) (cs : List PlainCore) → Each (D u) cs → D u (next_code t cs).0 × Each (D u) (next_code t cs).1
  next-away u t [] h = (quoted-away u t, tt)
  next-away u t (c ∷ cs) h = h

  mutual
    filled-away : (u : State) (q : PlainQuasi) (cs : List PlainCore) → Each (D u) cs → D u (filled q cs).0 × Each (D u) (filled q cs).1
    filled-away u (constant t) cs h = (quoted-away u t, h)
    filled-away u (expression t) cs h = next-away u t cs h
    filled-away u (quasi.call m qs) cs h = let k = all-filled u qs [] cs tt h in (call-away u (op_of m) (all_filled [] qs cs).0 k.0, k.1)

    all-filled : (u : State) (qs : PlainQuasis) (done cs : List PlainCore) → Each (D u) done → Each (D u) cs → Each (D u) (all_filled done qs cs).0 × Each (D u) (all_filled done qs cs).1
    all-filled u none done cs d h = (d, h)
    all-filled u (more q qs) done cs d h =
        let k = filled-away u q cs h in
        all-filled u qs (done ++ (filled q cs).0 ∷ []) (filled q cs).1 (each-append (D u) done ((filled q cs).0 ∷ []) d (k.0, tt)) k.1

  -- Inserts.

  match-away : (u : State) (vs : List PatternVariable) (x : PlainTemplate) (span : Span) (cs : List PlainCore) → AreUnspent own u (map variable_label vs) → Each (D u) cs → D u (match_of vs x span cs)
  match-away u vs x span cs new h =
      let xs : List Clause = only_clause (inserts_pattern vs) x span ∷ [] in
      let away : AwayClause own u (only_clause (inserts_pattern vs) x span) = (subst (AreUnspent own u) (sym (inserts-variables vs)) new, (tt, instance-away u x span)) in
      away-round own u (([] ++ all_binders (cores cs)) ++ clause_binders (clauses xs)) (matching (call_of list_op cs) (clauses xs) span)
      ((call_of list_op cs ∷ ((primitive list_op ∷ []) ++ all_parts (cores cs))) ++ clause_parts (clauses xs)) refl
      (away-append own u ([] ++ all_binders (cores cs)) (clause_binders (clauses xs)) (call_of list_op cs ∷ ((primitive list_op ∷ []) ++ all_parts (cores cs))) (clause_parts (clauses xs))
      (call-away u list_op cs h) (clauses-away own u xs (away, tt)))

  cores-lift : (t u : State) (cs : List PlainCore) → Tracks own t u → Each (D t) cs → Each (D u) cs
  cores-lift t u cs k h = each-map (D t) (D u) cs h (λ c x. core-lift own given t u c k x)

  module _ (place : Span) (level : ℕ) (t : Tree) where
    spares-inserted : (q : QuasiSyntax) (cs : List PlainCore) (s : State) → B s → Each (D s) cs → Gave (Gives own given D s) (inserted place level t q cs s)
    unfolding inserted fresh_frame
    spares-inserted q cs s b had =
        let f = as_frame s.names in
        let z = counted s in
        let start = onward-counted own given s b in
        goes-within own given D (core-lift own given) (λ u. after (fresh_frame u) (inserted_in place level t q cs)) s
        (gave-less (Gives own given D z) (Gives own given D s) (inserted_in place level t q cs f z)
        (gave-after (Labelled own z) (Gives own given D z) (insert_variables q.inserts z) _ (labelled own q.inserts z b.sound.next)
        (λ vs u h.
        gave-after (λ x v. BindsInserts own f level z vs v × Same u x v) (Gives own given D z) (bind_inserts f place level vs u) _
        (gave-both (λ x v. BindsInserts own f level z vs v) (Same u) (bind_inserts f place level vs u) (inserts-bound own f place level vs z u (labelled-patterned own z vs u h)) (inserts-same f place level vs u))
        (λ x v k.
        let adds = inserts-add own f level vs z v k.0 in
        let same = k.1 ∙ h.keywords in
        let o = onward-but own given f false (map variable_label vs) (map variable_depth vs) z v adds.0 adds.1.0 (same-told z v same) start.0 in
        let new = bound-unspent own given z v (map variable_label vs) same start.0.kept (inserts-made own f level vs z v k.0) in
        gave-after (IsTemplate place level (stamp f q.template) v) (Gives own given D z) (template_of place level (stamp f q.template) v) (λ y. give (match_of vs y (place_of t place) cs)) (template-is place level (stamp f q.template) v)
        (λ y w i. subst (λ (x : State). Gives own given D z (match_of vs y (place_of t place) cs) x) (sym i.same)
        (o, match-away v vs y (place_of t place) cs new (cores-lift s v cs (onward-then own given s z v start o).1 had))))))
        (λ c u j. (onward-then own given s z u start j.0, j.1)))

    spares-plain : (q : QuasiSyntax) (s : State) → B s → Gave (Gives own given D s) (plain_instance place level t q s)
    spares-plain q s b = gave-after (IsTemplate place level q.template s) (Gives own given D s) (template_of place level q.template s) (λ x. give (instance x (place_of t place))) (template-is place level q.template s)
        (λ y w i. subst (λ (x : State). Gives own given D s (instance y (place_of t place)) x) (sym i.same) (onward-self own given s b, instance-away s y (place_of t place)))

    spares-code : (q : QuasiForm) (cs : List PlainCore) (s : State) → B s → Each (D s) cs → Gave (Gives own given D s) (code_of place level t q cs s)
    spares-code (forms.Quote q) cs s b had = (onward-self own given s b, (filled-away s q cs had).0)
    spares-code (forms.Syntax q) cs s b had = by q.inserts
      where
        by : (is : List Insert) → Gave (Gives own given D s) (syntax_code place level t q cs is s)
        by [] = spares-plain q s b
        by (i ∷ is) = spares-inserted q cs s b had

    module _ (go : Inside) (spares : Spares own given go) where
      pub spares-quasi : (depth : ℕ) (which : Family) (template : Tree) (s : State) → B s → Gave (Gives own given D s) (quasi_form go (site_at place level depth) (template_parts t which template) s)
      unfolding quasi_form
      spares-quasi depth which template s b =
          gave-after (λ q u. u ≡ s) (Gives own given D s) (form_of place t which template s) (quasi_made go (site_at place level depth) t) (form-same place t which template s)
          (λ q u e. subst (λ (v : State). Gave (Gives own given D s) (quasi_made go (site_at place level depth) t q v)) (sym e)
          (goes own given (λ v cs. Each (D v) cs) D s (parts_in_order go place level (parts_of t depth q) s) (code_of place level t q)
          (goes-each own given (part_core go place level) D (core-lift own given) (λ p v k. spares.form place level p.depth p.form v k) (parts_of t depth q) s b)
          (λ cs v o x. spares-code q cs v o.0 x)))
