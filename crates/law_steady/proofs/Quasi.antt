-- `quasiquote` and `quasisyntax` forms are expanded safely, given that what is done inside forms is safe.
use Rattle.std.proofs.Common.{◌≡◌, ℕ, false, List, [], ◌∷◌, Result, Ok, Err, refl, sym, subst}
use Rattle.base_data.specs.Act.{after, give}
use Rattle.base_data.specs.declared.fault.Fault.{Fault}
use Rattle.base_data.specs.declared.library.LibName.{LibName}
use Rattle.base_data.specs.declared.name.CodeNo.{CodeNo}
use Rattle.base_data.specs.declared.name.FrameNo.{FrameNo}
use Rattle.base_data.specs.declared.span.Span.{Span}
use Rattle.stx_tree.specs.Changes.{stamp}
use Rattle.stx_tree.specs.Tree.{Tree}
use Rattle.core_language.specs.Core.{PlainCore, instance}
use Rattle.core_language.specs.Template.{PlainTemplate}
use Rattle.core_language.specs.declared.record.CompiledLibrary.{CompiledLibrary}
use Rattle.stx_frames.specs.Scope.{with_row}
use Rattle.stx_scope.specs.Stands.{row_for}
use Rattle.eval_pattern.specs.declared.compile.PatternVariable.{PatternVariable}
use Rattle.core_quasi.specs.Plan.{PlainQuasi}
use Rattle.core_quasi.specs.Quasi.{quasi}
use Rattle.core_quasi.specs.QuasiSyntax.{quasi_syntax}
use Rattle.core_quasi.specs.Words.{word_of}
use Rattle.core_quasi.specs.declared.quasi_syntax.Insert.{Insert}
use Rattle.core_quasi.specs.declared.quasi_syntax.QuasiSyntax.{QuasiSyntax}
use Rattle.core_quasi.specs.declared.word.Family.{Family}
use Rattle.core_quasi.specs.declared.word.Family.TheVariants as family
use Rattle.expand_quasi.specs.Filled.{filled}
use Rattle.expand_quasi.specs.Form.{quote_by, syntax_by, form_of, parts_of, code_of}
use Rattle.expand_quasi.specs.Inserted.{dots, ellipsis, insert_variable, insert_variables, match_of, bind_inserts, inserted_in, inserted, plain_instance, syntax_code}
use Rattle.expand_quasi.specs.declared.form.QuasiForm.{QuasiForm}
use Rattle.expand_quasi.specs.declared.form.QuasiForm.TheVariants as forms
use Rattle.core_shapes.specs.At.{place_of}
use Rattle.expand_standing.specs.Binders.{put_row}
use Rattle.expand_standing.specs.Patterns.{bind_pattern, template_of}
use Rattle.expand_standing.specs.State.{State, Does, fresh, fresh_frame}
use Rattle.expand_forms.specs.Inside.{Inside}
use Rattle.expand_forms.specs.Quasi.{part_core, parts_in_order, quasi_made, quasi_form}
use Rattle.expand_forms.specs.Site.{site_at}
use Rattle.expand_forms.specs.Forms.{template_parts}
use Rattle.law_expand.proofs.Inserts.{Labelled, labelled, labelled-patterned, BindsInserts, inserts-bound, inserts-add}
use Rattle.law_expand.proofs.Naming.{as_frame, counted}
use Rattle.law_stuck.specs.Uses.{Around}
use Rattle.law_steady.proofs.Binders.{L, light, light-each, row-light, bind-pattern-light, template-same}
use Rattle.law_steady.proofs.Bodies.{runs, gives, each-runs, within-runs}
use Rattle.law_steady.proofs.Keywords.{Holds}
use Rattle.law_steady.proofs.QuasisSay.{says-quote, says-syntax}
use Rattle.law_steady.proofs.Says.{Says}
use Rattle.law_steady.proofs.Sure.{Sure, sure-after, sure-less, sure-with}
use Rattle.law_steady.proofs.Safe.{Safe, safe-frames, safe-counted, Light, light-then, B, Goes, goes-self, goes-then, goes-but, goes-counted}

module _ (own : LibName) (texts : List CodeNo) (rs : List CompiledLibrary) (x : Around own texts rs) (inner : Inside) (holds : Holds own texts rs inner) where
  abbrev S : State → Type 0
  S = Safe own texts rs

  abbrev R : {A : Type 0} → State → A → State → Type 0
  R s a u = Goes own texts rs s u

  abbrev Do : {A : Type 0} → Does A → Type 0
  Do m = (s : State) → B own texts rs s → S s → Sure (R s) (m s)

  template-runs : (place : Span) (level : ℕ) (t : Tree) → Do (template_of place level t)
  template-runs place level t s b h = sure-less (λ (z : PlainTemplate) u. u ≡ s) (R s) (template_of place level t s) (template-same own texts rs place level t s) (λ z u e. subst (λ (v : State). Goes own texts rs s v) (sym e) (goes-self own texts rs s b h))

  -- Inserts.

  insert-light : (i : Insert) (s : State) → S s → Sure (L own texts rs s) (insert_variable i s)
  unfolding fresh
  insert-light i s h = record { safe = safe-counted own texts rs s h; keywords = refl }

  inserts-light : (f : FrameNo) (place : Span) (level : ℕ) (vs : List PatternVariable) (s : State) → S s → Sure (L own texts rs s) (bind_inserts f place level vs s)
  inserts-light f place level vs s h =
      light own texts rs s (bind_pattern f place level vs s) (λ _. put_row dots place f ellipsis) (bind-pattern-light own texts rs f place level vs s h)
      (λ a u k. sure-less (λ (z : Unit {0}) v. v ≡ record u { frames = with_row u.frames f (row_for dots ellipsis) }) (L own texts rs u) (put_row dots place f ellipsis u) (row-light own texts rs dots place f ellipsis u k)
      (λ z v e. subst (λ (w : State). Light own texts rs u w) (sym e) (record { safe = safe-frames own texts rs (with_row u.frames f (row_for dots ellipsis)) u k; keywords = refl })))

  module _ (place : Span) (level : ℕ) (t : Tree) where
    inserted-framed : (q : QuasiSyntax) (cs : List PlainCore) → Do (λ s. after (fresh_frame s) (inserted_in place level t q cs))
    unfolding fresh_frame
    inserted-framed q cs s b h =
        let f = as_frame s.names in
        let z = counted s in
        let start = goes-counted own texts rs s b h in
        sure-less (R z) (R s) (inserted_in place level t q cs f z)
        (sure-after (λ vs u. Light own texts rs z u × Labelled own z vs u) (R z) (insert_variables q.inserts z) _
        (sure-with (λ vs u. Light own texts rs z u) (Labelled own z) (insert_variables q.inserts z) (light-each own texts rs insert_variable (λ i v k. insert-light i v k) q.inserts z start.safe) (labelled own q.inserts z b.sound.next))
        (λ vs u k. sure-after (λ (a : Unit {0}) v. Light own texts rs u v × BindsInserts own f level z vs v) (R z) (bind_inserts f place level vs u) _
        (sure-with (λ (a : Unit {0}) v. Light own texts rs u v) (λ a v. BindsInserts own f level z vs v) (bind_inserts f place level vs u) (inserts-light f place level vs u k.0.safe)
        (inserts-bound own f place level vs z u (labelled-patterned own z vs u k.1)))
        (λ a v j.
        let adds = inserts-add own f level vs z v j.1 in
        let g = goes-but own texts rs f false _ _ z v start.onward.0 (light-then own texts rs z u v k.0 j.0) adds.0 adds.1.0 in
        sure-less (R v) (R z) (after (template_of place level (stamp f q.template) v) (λ y. give (match_of vs y (place_of t place) cs)))
        (runs own texts rs x inner holds (template_of place level (stamp f q.template)) (λ y. give (match_of vs y (place_of t place) cs)) (template-runs place level (stamp f q.template)) (λ y. gives own texts rs x inner holds (match_of vs y (place_of t place) cs)) v g.onward.0 g.safe)
        (λ y w i. goes-then own texts rs z v w g i))))
        (λ c u g. goes-then own texts rs s z u start g)

    inserted-runs : (q : QuasiSyntax) (cs : List PlainCore) → Do (inserted place level t q cs)
    unfolding inserted
    inserted-runs q cs = within-runs own texts rs x inner holds (λ s. after (fresh_frame s) (inserted_in place level t q cs)) (inserted-framed q cs)

    plain-runs : (q : QuasiSyntax) → Do (plain_instance place level t q)
    plain-runs q = runs own texts rs x inner holds (template_of place level q.template) (λ y. give (instance y (place_of t place))) (template-runs place level q.template) (λ y. gives own texts rs x inner holds (instance y (place_of t place)))

    code-runs : (q : QuasiForm) (cs : List PlainCore) → Do (code_of place level t q cs)
    code-runs (forms.Quote q) cs = gives own texts rs x inner holds (filled q cs).0
    code-runs (forms.Syntax q) cs = by q.inserts
      where
        by : (is : List Insert) → Do (syntax_code place level t q cs is)
        by [] = plain-runs q
        by (i ∷ is) = inserted-runs q cs

    form-of-runs : (which : Family) (template : Tree) → Do (form_of place t which template)
    form-of-runs family.Quote template s b h = by (quasi (word_of family.Quote s.frames) template t place) (says-quote (word_of family.Quote s.frames) template t place)
      where
        by : (r : Result PlainQuasi Fault) → Says r → Sure (R s) (quote_by r s)
        by (Ok q) k = goes-self own texts rs s b h
        by (Err e) k = k
    form-of-runs family.Syntax template s b h =
        by (quasi_syntax (record { words = word_of family.Syntax s.frames; dots = dots }) template t place) (says-syntax (record { words = word_of family.Syntax s.frames; dots = dots }) template t place)
      where
        by : (r : Result QuasiSyntax Fault) → Says r → Sure (R s) (syntax_by r s)
        by (Ok q) k = goes-self own texts rs s b h
        by (Err e) k = k

    pub quasi-runs : (depth : ℕ) (which : Family) (template : Tree) → Do (quasi_form inner (site_at place level depth) (template_parts t which template))
    unfolding quasi_form
    quasi-runs depth which template =
        runs own texts rs x inner holds (form_of place t which template) (quasi_made inner (site_at place level depth) t) (form-of-runs which template)
        (λ q. runs own texts rs x inner holds (parts_in_order inner place level (parts_of t depth q)) (code_of place level t q)
        (each-runs own texts rs x inner holds (part_core inner place level) (λ p s b h. holds.form place level p.depth p.form s b h) (parts_of t depth q)) (λ cs. code-runs q cs))
