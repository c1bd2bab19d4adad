-- The code of a form, by its inserts.
use Rattle.std.proofs.Common.{◌≡◌, ℕ, List, [], ◌∷◌, ◌++◌, length, Result, Ok, Err, refl, sym, ap, subst, ◌∙◌, append_assoc}
use Rattle.std.proofs.lemmas.List.{append-nil}
use Rattle.base_data.specs.Act.{Act, after, give, each}
use Rattle.base_data.specs.declared.fault.Fault.{Fault}
use Rattle.base_data.specs.declared.name.FrameNo.{FrameNo}
use Rattle.base_data.specs.declared.span.Span.{Span}
use Rattle.stx_tree.specs.Changes.{stamp}
use Rattle.stx_tree.specs.Tree.{Tree}
use Rattle.core_language.specs.Core.{PlainCore, instance}
use Rattle.core_language.specs.Template.{PlainTemplate}
use Rattle.eval_pattern.specs.declared.compile.PatternVariable.{PatternVariable}
use Rattle.core_shapes.specs.At.{place_of}
use Rattle.core_quasi.specs.declared.quasi_syntax.Insert.{Insert}
use Rattle.core_quasi.specs.declared.quasi_syntax.QuasiSyntax.{QuasiSyntax}
use Rattle.expand_standing.specs.InScope.{leaving}
use Rattle.expand_standing.specs.Patterns.{template_of}
use Rattle.expand_standing.specs.State.{State, fresh, fresh_frame}
use Rattle.expand_quasi.specs.Inserted.{syntax_code, inserted, inserted_in, bind_inserts, insert_variable, insert_variables, variable_of, match_of}
use Rattle.law_insert_code.specs.Code.{AreVariables, no_more, one_more, IsSyntaxCode, a_template, a_match}

-- an action that was done, and what came of it
record Passed {S A B : Type 0} (r : Result (A × S) Fault) (k : A → Act S B) (b : B) (u : S) : Type 0 where
  value : A
  state : S
  first : r ≡ Ok (value, state)
  then : k value state ≡ Ok (b, u)

passed : {S A B : Type 0} (r : Result (A × S) Fault) (k : A → Act S B) (b : B) (u : S) → after r k ≡ Ok (b, u) → Passed r k b u
passed (Ok p) k b u e = record { value = p.0; state = p.1; first = refl; then = e }
passed (Err f) k b u e = absurd (cc)

abbrev Same : {S A : Type 0} → Result (A × S) Fault → Result (A × S) Fault → Type 0
Same r q = r ≡ q

value_same : {S A : Type 0} (x y : A) (s t : S) → Same (Ok (x, s)) (Ok (y, t)) → x ≡ y
value_same {S} {A} x y s t e = let f : (x, s) ≡ (y, t) = cc in ap (λ (p : A × S). p.0) f

-- a variable for each, behind those that are done
record Listed (is : List Insert) (done all : List PatternVariable) : Type 0 where
  own : List PatternVariable
  are : all ≡ done ++ own
  each_is : AreVariables is own

listed : (is : List Insert) (done all : List PatternVariable) (s u : State) → each insert_variable done is s ≡ Ok (all, u) → Listed is done all
unfolding each
listed [] done all s u e = record { own = []; are = sym (value_same done all s u e) ∙ sym (append-nil done); each_is = no_more }
listed (i ∷ is) done all s u e =
    let p = passed (insert_variable i s) (λ x. each insert_variable (done ++ x ∷ []) is) all u e in
    let q = passed (fresh s) (λ n. give (variable_of i n)) p.value p.state p.first in
    let rest = listed is (done ++ p.value ∷ []) all p.state u p.then in
    let same : variable_of i q.value ≡ p.value = value_same (variable_of i q.value) p.value q.state p.state q.then in
    record {
      own = p.value ∷ rest.own;
      are = rest.are ∙ append_assoc done (p.value ∷ []) rest.own;
      each_is = one_more (sym (ap (λ (x : PatternVariable). x.depth) same)) rest.each_is;
    }

variables_are : (is : List Insert) (xs : List PatternVariable) (s u : State) → insert_variables is s ≡ Ok (xs, u) → AreVariables is xs
variables_are is xs s u e = let l = listed is [] xs s u e in subst (λ (ys : List PatternVariable). AreVariables is ys) (sym l.are) l.each_is

module _ (place : Span) (level : ℕ) (t : Tree) (q : QuasiSyntax) (cs : List PlainCore) where
  -- the match of the inserts, in their frame
  record IsMatch (c : PlainCore) : Type 0 where
    variables : List PatternVariable
    template : PlainTemplate
    are : AreVariables q.inserts variables
    is : c ≡ match_of variables template (place_of t place) cs

  in_frame : (frame : FrameNo) (c : PlainCore) (s u : State) → inserted_in place level t q cs frame s ≡ Ok (c, u) → IsMatch c
  in_frame frame c s u e =
      let a = passed (insert_variables q.inserts s) (λ vs s'.
      after (bind_inserts frame place level vs s') (λ _ s''.
      after (template_of place level (stamp frame q.template) s'') (λ x. give (match_of vs x (place_of t place) cs)))) c u e in
      let b = passed (bind_inserts frame place level a.value a.state) (λ _ s''.
      after (template_of place level (stamp frame q.template) s'') (λ x. give (match_of a.value x (place_of t place) cs))) c u a.then in
      let d = passed (template_of place level (stamp frame q.template) b.state) (λ x. give (match_of a.value x (place_of t place) cs)) c u b.then in
      record {
        variables = a.value;
        template = d.value;
        are = variables_are q.inserts a.value s a.state a.first;
        is = sym (value_same (match_of a.value d.value (place_of t place) cs) c d.state u d.then);
      }

  inserted_is : (c : PlainCore) (s u : State) → inserted place level t q cs s ≡ Ok (c, u) → IsMatch c
  unfolding inserted
  inserted_is c s u e =
      let a = passed (after (fresh_frame s) (inserted_in place level t q cs)) (leaving (length s.scope)) c u e in
      let b = passed (fresh_frame s) (inserted_in place level t q cs) a.value a.state a.first in
      let m = in_frame b.value a.value b.state a.state b.then in
      record { variables = m.variables; template = m.template; are = m.are; is = sym (value_same a.value c _ u a.then) ∙ m.is }

  by_inserts : (is : List Insert) → q.inserts ≡ is → (c : PlainCore) (s u : State) → syntax_code place level t q cs is s ≡ Ok (c, u) → IsSyntaxCode (place_of t place) cs is c
  by_inserts [] same c s u e =
      let a = passed (template_of place level q.template s) (λ x. give (instance x (place_of t place))) c u e in
      subst (λ (d : PlainCore). IsSyntaxCode (place_of t place) cs [] d) (value_same (instance a.value (place_of t place)) c a.state u a.then) a_template
  by_inserts (i ∷ is) same c s u e =
      let m = inserted_is c s u e in
      let are : AreVariables (i ∷ is) m.variables = subst (λ (js : List Insert). AreVariables js m.variables) same m.are in
      subst (λ (d : PlainCore). IsSyntaxCode (place_of t place) cs (i ∷ is) d) (sym m.is) (a_match are)

  pub code_is : (c : PlainCore) (s u : State) → syntax_code place level t q cs q.inserts s ≡ Ok (c, u) → IsSyntaxCode (place_of t place) cs q.inserts c
  code_is c s u e = by_inserts q.inserts refl c s u e
