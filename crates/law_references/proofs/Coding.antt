-- What the code of a quasi form names: what its parts name, and then the pattern variables of its template.
use Rattle.std.proofs.Common.{◌≡◌, ◌≤◌, ◌+◌, ℕ, true, List, [], ◌∷◌, ◌++◌, length, Some, refl, sym, ap, ◌∙◌, subst, arith, append-nil, inr}
use Rattle.base_data.proofs.ElementLemmas.{each-append}
use Rattle.base_data.specs.Act.{after, give}
use Rattle.base_data.specs.Elements.{Among, Each}
use Rattle.base_data.specs.declared.library.LibName.{LibName}
use Rattle.base_data.specs.declared.library.LibName.TheVariants as library
use Rattle.base_data.specs.declared.name.FrameNo.{FrameNo}
use Rattle.base_data.specs.declared.name.Label.{Label}
use Rattle.base_data.specs.declared.span.Span.{Span}
use Rattle.stx_tree.specs.Changes.{stamp}
use Rattle.stx_tree.specs.Context.{LeafContext}
use Rattle.stx_tree.specs.Tree.{Tree, atom, leaf, pair, vector}
use Rattle.stx_scope.specs.Stands.{stands}
use Rattle.core_language.specs.Bindings.{bound_to}
use Rattle.core_language.specs.Core.{PlainCore, instance, cores}
use Rattle.core_language.specs.declared.binding.Binding.TheVariants as binding
use Rattle.core_language.specs.Template.{PlainTemplate}
use Rattle.eval_pattern.specs.declared.compile.PatternVariable.{PatternVariable}
use Rattle.core_quasi.specs.declared.quasi_syntax.Insert.{Insert}
use Rattle.core_quasi.specs.declared.quasi_syntax.QuasiSyntax.{QuasiSyntax}
use Rattle.expand_quasi.specs.Form.{parts_of, code_of}
use Rattle.expand_quasi.specs.Inserted.{dots, ellipsis, insert_variable, insert_variables, match_of, bind_inserts, inserted_in, inserted, syntax_code}
use Rattle.expand_quasi.specs.Parts.{inserts_parts}
use Rattle.expand_quasi.specs.declared.form.QuasiForm.{QuasiForm}
use Rattle.expand_quasi.specs.declared.form.QuasiForm.TheVariants as forms
use Rattle.stx_scope.specs.Stands.{row_for}
use Rattle.stx_frames.specs.Scope.{Scope, bound}
use Rattle.base_data.specs.declared.fault.Bare.{Bare}
use Rattle.std.specs.Prelude.{Result, Ok, Err}
use Rattle.core_shapes.specs.At.{place_of}
use Rattle.core_shapes.specs.Lists.{is_leaf}
use Rattle.expand_standing.specs.Binders.{row_put, put_row}
use Rattle.expand_standing.specs.InScope.{cut}
use Rattle.expand_standing.specs.Patterns.{put_pattern_variable, bind_pattern_variable, bind_next, bind_pattern, template_of}
use Rattle.expand_standing.specs.State.{State, fresh, fresh_frame}
use Rattle.law_expand.proofs.Acts.{Gave, gave-both, gave-after, gave-less, gave-within, gave-each, gave-gather}
use Rattle.law_fresh.specs.Leaves.{TreeHolds}
use Rattle.law_fresh_expansion.specs.Events.{HasKnownEvents}
use Rattle.law_fresh_expansion.specs.Known.{IsNewAmong}
use Rattle.law_fresh_expansion.specs.States.{FreshStateHolds}
use Rattle.law_fresh_expansion.proofs.Changing.{stamp-holds}
use Rattle.law_fresh_expansion.proofs.Standing as standing
use Rattle.law_references.specs.Changes.{between, placed}
use Rattle.law_references.specs.Expands.{counted, QuasiCodes, quotes, has_no_insert, has_inserts}
use Rattle.law_references.specs.Namings.{template_namings, namings, all_namings}
use Rattle.law_references.specs.Noted.{Reference, of_references, named}
use Rattle.law_references.specs.Templates.{leaves, AreSome, taken, passed, leaves_of, IsPatternVariable, IsTemplateOf}
use Rattle.law_references.proofs.Filling.{IsLow, made-low, no-cores, quote-said}
use Rattle.law_references.proofs.Staying.{K, J, P, lives, Kept, gave-is}
use Rattle.law_references.proofs.Templating.{TemplateNames, template-of-names}

-- Leaves of a tree.

abbrev AllAre : (Tree → Type 0) → Tree → Type 0
AllAre Q t = Each Q (leaves t)

leaves-known : (Q : LeafContext → Type 0) (t : Tree) → TreeHolds Q t → AllAre (λ x. (is_leaf x ≡ true) × TreeHolds Q x) t
leaves-known Q (atom p a) h = tt
leaves-known Q (leaf p y c) h = ((refl, h), tt)
leaves-known Q (pair p a d) h = each-append (λ x. (is_leaf x ≡ true) × TreeHolds Q x) (leaves a) (leaves d) (leaves-known Q a h.0) (leaves-known Q d h.1)
leaves-known Q (vector p d) h = leaves-known Q d h

some-known : (Q : Tree → Type 0) (refs : List Reference) (ls : List Tree) → AreSome (leaves_of refs) ls → Each Q ls → Each (λ (r : Reference). Q r.leaf) refs
some-known Q [] ls h k = tt
some-known Q (r ∷ refs) [] h k = elim h [ ]
some-known Q (r ∷ refs) (l ∷ ls) (taken h) k = (k.0, some-known Q refs ls h k.1)
some-known Q (r ∷ refs) (l ∷ ls) (passed h) k = some-known Q (r ∷ refs) ls h k.1

-- the template of a quasi form
abbrev pub QuasiTemplateHolds : (LeafContext → Type 0) → QuasiForm → Type 0
QuasiTemplateHolds Q (forms.Quote q) = Unit {0}
QuasiTemplateHolds Q (forms.Syntax q) = TreeHolds Q q.template

-- Names that are taken for inserts.

abbrev Rises : {A : Type 0} → State → A → State → Type 0
Rises s a u = s.names.number ≤ u.names.number

inserts-rise : (is : List Insert) (s : State) → Gave (Rises s) (insert_variables is s)
unfolding fresh
inserts-rise is s = gave-each insert_variable (λ i t v u. Rises t v u) (λ js t vs u. Rises t vs u) (λ t. Unit {0}) (λ t k. omega arith) (λ i t k. omega arith) (λ i t u v k e. tt) (λ i js t u w v vs k e a. omega (arith, e, a)) is s tt

put-rises : (id : Tree) (place : Span) (f : FrameNo) (l : Label) (s : State) → Gave (Rises s) (put_row id place f l s)
put-rises id place f l s = by (bound s.frames f (row_for id l))
  where
    by : (r : Result Scope Bare) → Gave (Rises s) (row_put id place s r)
    by (Err e) = tt
    by (Ok fs) = omega arith

variable-rises : (f : FrameNo) (place : Span) (level : ℕ) (v : PatternVariable) (s : State) → Gave (Rises s) (bind_pattern_variable f place level v s)
unfolding bind_pattern_variable
variable-rises f place level v s = gave-after (Rises s) (Rises s) (put_row v.id place f v.label s) (λ _. put_pattern_variable v.label level v.depth) (put-rises v.id place f v.label s) (λ x u k. k)

bind-rises : (f : FrameNo) (place : Span) (level : ℕ) (vs : List PatternVariable) (s : State) → Gave (Rises s) (bind_inserts f place level vs s)
bind-rises f place level vs s =
    gave-after (Rises s) (Rises s) (bind_pattern f place level vs s) (λ _. put_row dots place f ellipsis)
    (gave-gather (bind_next f place level) (λ d u. s.names.number ≤ u.names.number) (λ d v t e. gave-less (Rises t) (λ x u. s.names.number ≤ u.names.number) (bind_pattern_variable f place level v t) (variable-rises f place level v t) (λ x u k. omega (arith, k, e))) tt vs s (omega arith))
    (λ x u k. gave-less (Rises u) (Rises s) (put_row dots place f ellipsis u) (put-rises dots place f ellipsis u) (λ y v j. omega (arith, k, j)))

module _ (libs : List LibName) (own : LibName) (core : Among libs library.Core) (new : IsNewAmong libs own) where
  abbrev Q : ℕ → LeafContext → Type 0
  Q n c = HasKnownEvents libs own n c

  -- the pattern variables of a template are taken
  pub template-kept : (s u : State) (place : Span) (level : ℕ) (t : Tree) (x : PlainTemplate) (refs : List Reference) → TreeHolds (Q s.names.number) t → s.names.number ≤ u.names.number → u.frames ≡ s.frames → IsTemplateOf s (placed place level) t x refs → Each (Kept libs own core new u) refs
  template-kept s u place level t x refs g up same h = all refs h.variables (some-known Known refs (leaves t) h.places (leaves-known (Q s.names.number) t g))
    where
      Known : Tree → Type 0
      Known y = (is_leaf y ≡ true) × TreeHolds (Q s.names.number) y

      one : (r : Reference) → IsPatternVariable s place level r → Known r.leaf → Kept libs own core new u r
      one r k there = record {
        leafy = there.0;
        known = subst (λ (v : State). TreeHolds (Q v.names.number) r.leaf) (sym k.state) there.1;
        code = inr (level, (k.depth, (place, (subst (λ (v : State). bound_to v.bindings r.label ≡ Some (binding.PatternVariable level k.depth)) (sym k.state) k.bound, k.code))));
        stood = subst (λ (v : State). stands v.frames r.leaf ≡ Some r.label) (sym k.state) k.stood;
        before = subst (λ (v : State). v.names.number ≤ u.names.number) (sym k.state) up;
        now = ap (λ (fs : Scope). stands fs r.leaf) same ∙ k.stood;
      }

      all : (rs : List Reference) → Each (IsPatternVariable s place level) rs → Each (λ (r : Reference). Known r.leaf) rs → Each (Kept libs own core new u) rs
      all [] v k = tt
      all (r ∷ rs) v k = (one r v.0 k.0, all rs v.1 k.1)

  -- what the code of a quasi form is, and the pattern variables in it
  pub record Coded (place : Span) (level : ℕ) (t : Tree) (q : QuasiForm) (cs : List PlainCore) (s : State) (c : PlainCore) (u : State) : Type 0 where
    pub references : List Reference
    pub is : QuasiCodes (placed place level) t q cs c (between s u (of_references references))
    pub all : namings c ≡ all_namings (cores cs) ++ named references
    pub kept : Each (Kept libs own core new u) references

  module _ (place : Span) (level : ℕ) (t : Tree) (first : ℕ) where
    abbrev F : State → Type 0
    F s = FreshStateHolds own (K libs own core new) (P libs own core new) first s

    match-named : (vs : List PatternVariable) (x : PlainTemplate) (span : Span) (cs : List PlainCore) (refs : List Reference) → template_namings x ≡ named refs → namings (match_of vs x span cs) ≡ all_namings (cores cs) ++ named refs
    match-named vs x span cs refs e = ap (λ ns. all_namings (cores cs) ++ ns) (append-nil (template_namings x) ∙ e)

    inserted-coded : (q : QuasiSyntax) (cs : List PlainCore) (s : State) → (q.inserts ≡ [] → ⊥) → F s → TreeHolds (Q s.names.number) q.template → Gave (Coded place level t (forms.Syntax q) cs s) (inserted place level t q cs s)
    unfolding inserted fresh_frame
    inserted-coded q cs s some h g =
        let f : FrameNo = record { 0 = s.names } in
        let z = counted s in
        let alive = lives libs own core new in
        let made = insert_variables q.inserts z in
        let So : PlainCore → State → Type 0 = λ c u. Coded place level t (forms.Syntax q) cs s c (cut (length s.scope) u) in
        gave-within (Coded place level t (forms.Syntax q) cs s) (λ v. after (fresh_frame v) (inserted_in place level t q cs)) s
        (gave-after (λ vs v. Rises z vs v × (made ≡ Ok (vs, v))) So made _ (gave-both (Rises z) (λ vs v. made ≡ Ok (vs, v)) made (inserts-rise q.inserts z) (gave-is made))
        (λ vs v a.
        let there = bind_inserts f place level vs v in
        gave-after (λ e w. Rises v e w × (there ≡ Ok (e, w))) So there _ (gave-both (Rises v) (λ e w. there ≡ Ok (e, w)) there (bind-rises f place level vs v) (gave-is there))
        (λ e w b.
        let operand = stamp f q.template in
        let up : s.names.number + 1 ≤ w.names.number = let i = a.0 in let j = b.0 in omega (arith, i, j) in
        let known : TreeHolds (Q w.names.number) operand =
        stamp-holds own (K libs own core new) (J libs own core new) (P libs own core new) alive w.names.number f q.template
        (alive.frames (s.names.number + 1) w.names.number f up (standing.frame-made own (K libs own core new) (J libs own core new) (P libs own core new) alive first s h))
        (standing.tree-up own (K libs own core new) (J libs own core new) (P libs own core new) alive first s.names.number w.names.number (omega (arith, up)) q.template g) in
        let template = template_of place level operand w in
        gave-after (λ x y. (template ≡ Ok (x, y)) × TemplateNames place level operand w x y) So template (λ x. give (match_of vs x (place_of t place) cs))
        (gave-both (λ x y. template ≡ Ok (x, y)) (TemplateNames place level operand w) template (gave-is template) (template-of-names place level operand w))
        (λ x y k. subst (λ (y : State). So (match_of vs x (place_of t place) cs) y) (sym k.1.0) (record {
          references = k.1.1.0;
          is = has_inserts some a.1 b.1 (subst (λ (y : State). template ≡ Ok (x, y)) k.1.0 k.0) k.1.1.1;
          all = match-named vs x (place_of t place) cs k.1.1.0 k.1.1.1.all;
          kept = template-kept w (cut (length s.scope) w) place level operand x k.1.1.0 known (omega arith) refl k.1.1.1;
        })))))

    plain-coded : (d : ℕ) (q : QuasiSyntax) (cs : List PlainCore) (s : State) → q.inserts ≡ [] → TreeHolds (Q s.names.number) q.template → length cs ≡ 0
        → Gave (Coded place level t (forms.Syntax q) cs s) (after (template_of place level q.template s) (λ x. give (instance x (place_of t place))))
    plain-coded d q cs s none g e =
        let template = template_of place level q.template s in
        let So : PlainCore → State → Type 0 = Coded place level t (forms.Syntax q) cs s in
        gave-after (λ x y. (template ≡ Ok (x, y)) × TemplateNames place level q.template s x y) So template (λ x. give (instance x (place_of t place)))
        (gave-both (λ x y. template ≡ Ok (x, y)) (TemplateNames place level q.template s) template (gave-is template) (template-of-names place level q.template s))
        (λ x y k. subst (λ (y : State). So (instance x (place_of t place)) y) (sym k.1.0) (record {
          references = k.1.1.0;
          is = has_no_insert none (subst (λ (y : State). template ≡ Ok (x, y)) k.1.0 k.0) k.1.1.1;
          all = k.1.1.1.all ∙ ap (λ (ds : List PlainCore). all_namings (cores ds) ++ named k.1.1.0) (sym (no-cores cs e));
          kept = template-kept s s place level q.template x k.1.1.0 g (omega arith) refl k.1.1.1;
        }))

    pub code-coded : (d : ℕ) (q : QuasiForm) (cs : List PlainCore) (s : State) → F s → QuasiTemplateHolds (Q s.names.number) q → Each IsLow (parts_of t d q) → length cs ≡ length (parts_of t d q) → Gave (Coded place level t q cs s) (code_of place level t q cs s)
    code-coded d (forms.Quote q) cs s h g low e = record { references = []; is = quotes; all = quote-said t d q cs low e ∙ sym (append-nil (all_namings (cores cs))); kept = tt }
    code-coded d (forms.Syntax q) cs s h g low e = by q.inserts refl low e
      where
        by : (is : List Insert) → q.inserts ≡ is → Each IsLow (inserts_parts t d is) → length cs ≡ length (inserts_parts t d is) → Gave (Coded place level t (forms.Syntax q) cs s) (syntax_code place level t q cs is s)
        by [] is k l = plain-coded d q cs s is g (l ∙ ap length (made-low t d [] k))
        by (i ∷ is) same k l = inserted-coded q cs s (λ none. let bad = sym none ∙ same in absurd (cc)) h g
