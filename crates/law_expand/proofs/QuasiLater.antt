-- The code of a `quasiquote` or `quasisyntax` form is made in a later state.
use Rattle.std.proofs.Common.{◌≡◌, ℕ, List, [], ◌∷◌, map, Result, Ok, Err, refl, sym, subst}
use Rattle.base_data.specs.Act.{after, give}
use Rattle.base_data.specs.declared.fault.Fault.{Fault}
use Rattle.base_data.specs.declared.library.LibName.{LibName}
use Rattle.base_data.specs.declared.span.Span.{Span}
use Rattle.stx_tree.specs.Changes.{stamp}
use Rattle.stx_tree.specs.Tree.{Tree}
use Rattle.core_language.specs.Core.{PlainCore, instance}
use Rattle.core_quasi.specs.Plan.{PlainQuasi}
use Rattle.core_quasi.specs.Quasi.{quasi}
use Rattle.core_quasi.specs.QuasiSyntax.{quasi_syntax}
use Rattle.core_quasi.specs.Words.{word_of}
use Rattle.core_quasi.specs.declared.quasi_syntax.Insert.{Insert}
use Rattle.core_quasi.specs.declared.quasi_syntax.QuasiSyntax.{QuasiSyntax}
use Rattle.core_quasi.specs.declared.word.Family.{Family}
use Rattle.core_quasi.specs.declared.word.Family.TheVariants as family
use Rattle.expand_quasi.specs.Form.{quote_by, syntax_by, form_of, code_of}
use Rattle.expand_quasi.specs.Inserted.{dots, insert_variables, bind_inserts, match_of, inserted_in, inserted, plain_instance, syntax_code}
use Rattle.expand_quasi.specs.declared.form.QuasiForm.{QuasiForm}
use Rattle.expand_quasi.specs.declared.form.QuasiForm.TheVariants as forms
use Rattle.core_shapes.specs.At.{place_of}
use Rattle.expand_standing.specs.Patterns.{template_of}
use Rattle.expand_standing.specs.State.{State, fresh_frame}
use Rattle.law_expand.specs.States.{Later}
use Rattle.law_expand.proofs.Acts.{Gave, gave-after, gave-less, gave-within}
use Rattle.law_expand.proofs.Compiled.{variable_label, variable_depth}
use Rattle.law_expand.proofs.Inserts.{Labelled, labelled, labelled-patterned, BindsInserts, inserts-bound, inserts-add}
use Rattle.law_expand.proofs.Later.{later-self}
use Rattle.law_expand.proofs.Moved.{Names, Moved, Leaving, framed}
use Rattle.law_expand.proofs.Naming.{as_frame, counted}
use Rattle.law_expand.proofs.Plans.{IsTemplate, template-is}

-- what a form comes to is told by the state as it is
pub form-same : (place : Span) (t : Tree) (which : Family) (template : Tree) (s : State) → Gave (λ q u. u ≡ s) (form_of place t which template s)
form-same place t family.Quote template s = by (quasi (word_of family.Quote s.frames) template t place)
  where
    by : (r : Result PlainQuasi Fault) → Gave (λ q u. u ≡ s) (quote_by r s)
    by (Err f) = tt
    by (Ok q) = refl
form-same place t family.Syntax template s = by (quasi_syntax (record { words = word_of family.Syntax s.frames; dots = dots }) template t place)
  where
    by : (r : Result QuasiSyntax Fault) → Gave (λ q u. u ≡ s) (syntax_by r s)
    by (Err f) = tt
    by (Ok q) = refl

module _ (own : LibName) (place : Span) (level : ℕ) (t : Tree) where
  moved-inserted : (q : QuasiSyntax) (cs : List PlainCore) (s : State) → Names own s → Gave (Moved own s) (inserted place level t q cs s)
  unfolding inserted fresh_frame
  moved-inserted q cs s n =
      let f = as_frame s.names in
      gave-within (Moved own s) (λ u. after (fresh_frame u) (inserted_in place level t q cs)) s
      (gave-after (Labelled own (counted s)) (Leaving own s) (insert_variables q.inserts (counted s)) _ (labelled own q.inserts (counted s) n)
      (λ vs u h. framed own (λ x. map variable_label vs) (λ x. map variable_depth vs) s (bind_inserts f place level vs u) _ n
      (gave-less (λ x v. BindsInserts own f level (counted s) vs v) _ (bind_inserts f place level vs u) (inserts-bound own f place level vs (counted s) u (labelled-patterned own (counted s) vs u h))
      (λ x v b. inserts-add own f level vs (counted s) v b))
      (λ x v m. gave-after (IsTemplate place level (stamp f q.template) v) (Moved own v) (template_of place level (stamp f q.template) v) (λ y. give (match_of vs y (place_of t place) cs)) (template-is place level (stamp f q.template) v)
      (λ y w k. subst (Later own v) (sym k.same) (later-self own v m)))))

  moved-plain : (q : QuasiSyntax) (s : State) → Names own s → Gave (Moved own s) (plain_instance place level t q s)
  moved-plain q s n = gave-after (IsTemplate place level q.template s) (Moved own s) (template_of place level q.template s) (λ x. give (instance x (place_of t place))) (template-is place level q.template s)
      (λ y w k. subst (Later own s) (sym k.same) (later-self own s n))

  pub moved-code : (q : QuasiForm) (cs : List PlainCore) (s : State) → Names own s → Gave (Moved own s) (code_of place level t q cs s)
  moved-code (forms.Quote q) cs s n = later-self own s n
  moved-code (forms.Syntax q) cs s n = by q.inserts
    where
      by : (is : List Insert) → Gave (Moved own s) (syntax_code place level t q cs is s)
      by [] = moved-plain q s n
      by (i ∷ is) = moved-inserted q cs s n
