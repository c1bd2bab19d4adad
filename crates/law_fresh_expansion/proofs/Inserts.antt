-- `quasiquote` and `quasisyntax` forms keep that all in the state of an expansion may be met, given that what is done inside them does.
use Rattle.std.proofs.Common.{◌≤◌, ◌+◌, ℕ, zero, suc, Bool, true, false, List, [], ◌∷◌, ◌++◌, map, Result, Ok, Err, arith, if◌then◌else◌}
use Rattle.base_data.proofs.ElementLemmas.{each-and, each-implied}
use Rattle.base_data.specs.Act.{after, give}
use Rattle.base_data.specs.Elements.{Each}
use Rattle.base_data.specs.declared.fault.Fault.{Fault}
use Rattle.base_data.specs.declared.library.LibName.{LibName}
use Rattle.base_data.specs.declared.name.FrameNo.{FrameNo}
use Rattle.base_data.specs.declared.name.Mark.{Mark}
use Rattle.base_data.specs.declared.span.Span.{Span}
use Rattle.stx_tree.specs.Changes.{stamp}
use Rattle.stx_tree.specs.Context.{LeafContext}
use Rattle.stx_tree.specs.Tree.{Tree}
use Rattle.core_language.specs.Core.{PlainCore, cores, instance}
use Rattle.core_language.specs.Pattern.{PlainPattern, patterns}
use Rattle.core_language.specs.Pattern as pattern
use Rattle.core_language.specs.Template.{PlainTemplate}
use Rattle.eval_pattern.specs.declared.compile.PatternVariable.{PatternVariable}
use Rattle.core_quasi.specs.Plan.{PlainQuasi, PlainQuasis, constant, expression, none, more}
use Rattle.core_quasi.specs.Plan as quasi_plan
use Rattle.core_quasi.specs.Quasi.{quasi}
use Rattle.core_quasi.specs.QuasiSyntax.{core_mark, quasi_syntax}
use Rattle.core_quasi.specs.Words.{word_of}
use Rattle.core_quasi.specs.declared.quasi_syntax.Insert.{Insert}
use Rattle.core_quasi.specs.declared.quasi_syntax.QuasiSyntax.{QuasiSyntax}
use Rattle.core_quasi.specs.declared.word.Family.{Family}
use Rattle.core_quasi.specs.declared.word.Family.TheVariants as family
use Rattle.expand_quasi.specs.Filled.{next_code, filled, all_filled}
use Rattle.expand_quasi.specs.Form.{quote_by, syntax_by, form_of, parts_of, code_of}
use Rattle.expand_quasi.specs.Inserted.{dots, ellipsis, insert_variable, insert_variables, listed, pattern_under, insert_pattern, match_of, bind_inserts, inserted_in, inserted, syntax_code}
use Rattle.expand_quasi.specs.Parts.{part, with_made, quasi_parts, all_quasi_parts, insert_part, inserts_parts}
use Rattle.expand_quasi.specs.declared.form.QuasiForm.{QuasiForm}
use Rattle.expand_quasi.specs.declared.form.QuasiForm.TheVariants as forms
use Rattle.expand_quasi.specs.declared.parts.PartForm.{PartForm}
use Rattle.std.specs.Prelude.{nat_lt}
use Rattle.core_shapes.specs.At.{place_of}
use Rattle.expand_standing.specs.Binders.{put_row}
use Rattle.expand_standing.specs.Patterns.{bind_pattern, template_of}
use Rattle.expand_standing.specs.State.{State, fresh, fresh_frame}
use Rattle.expand_heads.specs.Depth.{deeper, most_round}
use Rattle.expand_forms.specs.Inside.{Inside}
use Rattle.expand_forms.specs.Quasi.{part_core, parts_in_order, quasi_made, quasi_form}
use Rattle.expand_forms.specs.Site.{site_at}
use Rattle.expand_forms.specs.Forms.{template_parts}
use Rattle.law_fresh.specs.Leaves.{CoresHold, TemplateHolds, PatternHolds, PatternsHold}
use Rattle.law_fresh.proofs.Trees.{OkHolds}
use Rattle.law_fresh_expansion.specs.Living.{Lives}
use Rattle.law_fresh_expansion.proofs.Changing.{stamp-holds}
use Rattle.law_fresh_expansion.proofs.Forms.{KeepsFresh}
use Rattle.law_fresh_expansion.proofs.Quasi.{QuasiHolds, QuasisHold, quasi-holds}
use Rattle.law_fresh_expansion.proofs.QuasiSyntax.{quasi-syntax-holds}
use Rattle.law_fresh_expansion.proofs.Standing.{F, T, C, up, tree-up, core-up, state-self, state-then, Gave, gave-from, gave-after, gave-each, gave-within, counted-holds, frame-made, VariableAt, put-row-holds, template-holds, bind-pattern-holds}

module _ (own : LibName) (K : ℕ → Mark → Type 0) (J : ℕ → FrameNo → Type 0) (P : ℕ → LeafContext → Type 0) (lives : Lives own K J P) (first : ℕ) where
  abbrev Any : {A : Type 0} → ℕ → A → Type 0
  Any n x = Unit {0}

  abbrev Cs : ℕ → List PlainCore → Type 0
  Cs n cs = Each ((C own K J P lives first) n) cs

  of-core : (n k : ℕ) → P n (record { marks = core_mark k ∷ []; stamps = [] })
  of-core n k = (up own K J P lives first) 0 n (omega arith) _ (lives.core k)

  abbrev InsertAt : ℕ → Insert → Type 0
  InsertAt n i = (T own K J P lives first) n i.leaf × (T own K J P lives first) n i.expression

  -- what a form comes to
  abbrev pub FormAt : ℕ → QuasiForm → Type 0
  FormAt n (forms.Quote q) = QuasiHolds (P n) q
  FormAt n (forms.Syntax q) = (T own K J P lives first) n q.template × Each (InsertAt n) q.inserts

  pub form-of-holds : (place : Span) (t : Tree) (which : Family) (template : Tree) (s : State) → (F own K J P lives first) s → (T own K J P lives first) s.names.number template → (Gave own K J P lives first) FormAt s (form_of place t which template s)
  form-of-holds place t family.Quote template s h k = by (quasi (word_of family.Quote s.frames) template t place) (quasi-holds (P s.names.number) (word_of family.Quote s.frames) template t place k)
    where
      by : (r : Result PlainQuasi Fault) → OkHolds (QuasiHolds (P s.names.number)) r → (Gave own K J P lives first) FormAt s (quote_by r s)
      by (Err f) j = tt
      by (Ok q) j = ((state-self own K J P lives first) s h, j)
  form-of-holds place t family.Syntax template s h k =
      by (quasi_syntax (record { words = word_of family.Syntax s.frames; dots = dots }) template t place)
      (quasi-syntax-holds (P s.names.number) (of-core s.names.number) (record { words = word_of family.Syntax s.frames; dots = dots }) (of-core s.names.number 0) template t place k)
    where
      by : (r : Result QuasiSyntax Fault) → OkHolds (λ (q : QuasiSyntax). (T own K J P lives first) s.names.number q.template × Each (InsertAt s.names.number) q.inserts) r → (Gave own K J P lives first) FormAt s (syntax_by r s)
      by (Err f) j = tt
      by (Ok q) j = ((state-self own K J P lives first) s h, j)

  -- Parts.

  abbrev pub PartAt : ℕ → PartForm → Type 0
  PartAt n p = (T own K J P lives first) n p.form

  pub part-up : (m n : ℕ) → m ≤ n → (p : PartForm) → PartAt m p → PartAt n p
  part-up m n le p h = (tree-up own K J P lives first) m n le p.form h

  with-made-holds : (n : ℕ) (t : Tree) (depth : ℕ) (done : List PartForm) → (T own K J P lives first) n t → Each (PartAt n) done → Each (PartAt n) (with_made t depth done)
  with-made-holds n t depth done h k = by (nat_lt most_round depth)
    where
      by : (b : Bool) → Each (PartAt n) (if b then done ++ part t depth ∷ [] else done)
      by true = each-and (PartAt n) done (part t depth) k h
      by false = k

  mutual
    quasi-parts-hold : (n : ℕ) (t : Tree) (depth : ℕ) (done : List PartForm) (q : PlainQuasi) → (T own K J P lives first) n t → Each (PartAt n) done → QuasiHolds (P n) q → Each (PartAt n) (quasi_parts t depth done q)
    quasi-parts-hold n t depth done (constant c) h k j = with-made-holds n t depth done h k
    quasi-parts-hold n t depth done (expression e) h k j = each-and (PartAt n) done (part e depth) k j
    quasi-parts-hold n t depth done (quasi_plan.call m qs) h k j = all-parts-hold n t (deeper depth) (with_made t (deeper depth) done) qs h (with-made-holds n t (deeper depth) done h k) j

    all-parts-hold : (n : ℕ) (t : Tree) (depth : ℕ) (done : List PartForm) (qs : PlainQuasis) → (T own K J P lives first) n t → Each (PartAt n) done → QuasisHold (P n) qs → Each (PartAt n) (all_quasi_parts t depth done qs)
    all-parts-hold n t depth done none h k j = k
    all-parts-hold n t depth done (more q qs) h k j = all-parts-hold n t depth (quasi_parts t depth done q) qs h (quasi-parts-hold n t depth done q h k j.0) j.1

  insert-parts-hold : (n depth : ℕ) (is : List Insert) → Each (InsertAt n) is → Each (PartAt n) (map (insert_part depth) is)
  insert-parts-hold n depth [] h = tt
  insert-parts-hold n depth (i ∷ is) h = (h.0.1, insert-parts-hold n depth is h.1)

  inserts-parts-hold : (n : ℕ) (t : Tree) (depth : ℕ) (is : List Insert) → (T own K J P lives first) n t → Each (InsertAt n) is → Each (PartAt n) (inserts_parts t depth is)
  inserts-parts-hold n t depth [] h k = with-made-holds n t depth [] h tt
  inserts-parts-hold n t depth (i ∷ is) h k = by (nat_lt most_round (deeper (deeper depth)))
    where
      by : (b : Bool) → Each (PartAt n) ((if b then [] ++ part t (deeper (deeper depth)) ∷ [] else []) ++ map (insert_part (deeper (deeper depth))) (i ∷ is))
      by true = (h, insert-parts-hold n (deeper (deeper depth)) (i ∷ is) k)
      by false = insert-parts-hold n (deeper (deeper depth)) (i ∷ is) k

  pub parts-of-hold : (n : ℕ) (t : Tree) (depth : ℕ) (q : QuasiForm) → (T own K J P lives first) n t → FormAt n q → Each (PartAt n) (parts_of t depth q)
  parts-of-hold n t depth (forms.Quote q) h k = quasi-parts-hold n t depth [] q h tt k
  parts-of-hold n t depth (forms.Syntax q) h k = inserts-parts-hold n t depth q.inserts h k.1

  -- Code.

  cores-hold : (n : ℕ) (cs : List PlainCore) → Cs n cs → CoresHold (P n) (cores cs)
  cores-hold n [] h = tt
  cores-hold n (c ∷ cs) h = (h.0, cores-hold n cs h.1)

  abbrev FilledAt : ℕ → PlainCore × List PlainCore → Type 0
  FilledAt n p = (C own K J P lives first) n p.0 × Cs n p.1

  next-code-holds : (n : ℕ) (t : Tree) (cs : List PlainCore) → Cs n cs → FilledAt n (next_code t cs)
  next-code-holds n t [] h = (tt, tt)
  next-code-holds n t (c ∷ cs) h = h

  mutual
    filled-holds : (n : ℕ) (q : PlainQuasi) (cs : List PlainCore) → Cs n cs → FilledAt n (filled q cs)
    filled-holds n (constant t) cs h = (tt, h)
    filled-holds n (expression t) cs h = next-code-holds n t cs h
    filled-holds n (quasi_plan.call m qs) cs h = let p = all-filled-hold n [] qs cs tt h in ((tt, cores-hold n (all_filled [] qs cs).0 p.0), p.1)

    all-filled-hold : (n : ℕ) (done : List PlainCore) (qs : PlainQuasis) (cs : List PlainCore) → Cs n done → Cs n cs → Cs n (all_filled done qs cs).0 × Cs n (all_filled done qs cs).1
    all-filled-hold n done none cs h k = (h, k)
    all-filled-hold n done (more q qs) cs h k =
        let p = filled-holds n q cs k in
        all-filled-hold n (done ++ (filled q cs).0 ∷ []) qs (filled q cs).1 (each-and ((C own K J P lives first) n) done (filled q cs).0 h p.0) p.1

  -- Inserts.

  insert-variable-holds : (i : Insert) (s : State) → (F own K J P lives first) s → InsertAt s.names.number i → (Gave own K J P lives first) (VariableAt own K J P lives first) s (insert_variable i s)
  unfolding fresh
  insert-variable-holds i s h k =
      let u : State = record s { names = record { library = s.names.library; number = s.names.number + 1 } } in
      ((counted-holds own K J P lives first) s h, (tree-up own K J P lives first) s.names.number (s.names.number + 1) (omega arith) i.leaf k.0)

  insert-up : (m n : ℕ) → m ≤ n → (i : Insert) → InsertAt m i → InsertAt n i
  insert-up m n le i h = ((tree-up own K J P lives first) m n le i.leaf h.0, (tree-up own K J P lives first) m n le i.expression h.1)

  insert-variables-hold : (is : List Insert) (s : State) → (F own K J P lives first) s → Each (InsertAt s.names.number) is → (Gave own K J P lives first) (λ n vs. Each ((VariableAt own K J P lives first) n) vs) s (insert_variables is s)
  insert-variables-hold is s h k = (gave-each own K J P lives first) InsertAt (VariableAt own K J P lives first) insert-up (λ m n le v j. (tree-up own K J P lives first) m n le v.id j) insert_variable (λ i t j y. insert-variable-holds i t j y) [] is s h tt k

  mutual
    quasi-up : (m n : ℕ) → m ≤ n → (q : PlainQuasi) → QuasiHolds (P m) q → QuasiHolds (P n) q
    quasi-up m n le (constant c) h = (tree-up own K J P lives first) m n le c h
    quasi-up m n le (expression e) h = (tree-up own K J P lives first) m n le e h
    quasi-up m n le (quasi_plan.call k qs) h = quasis-up m n le qs h

    quasis-up : (m n : ℕ) → m ≤ n → (qs : PlainQuasis) → QuasisHold (P m) qs → QuasisHold (P n) qs
    quasis-up m n le none h = tt
    quasis-up m n le (more q qs) h = (quasi-up m n le q h.0, quasis-up m n le qs h.1)

  form-at-up : (m n : ℕ) → m ≤ n → (q : QuasiForm) → FormAt m q → FormAt n q
  form-at-up m n le (forms.Quote q) h = quasi-up m n le q h
  form-at-up m n le (forms.Syntax q) h = ((tree-up own K J P lives first) m n le q.template h.0, each-implied (InsertAt m) (InsertAt n) (insert-up m n le) q.inserts h.1)

  -- the pattern has no literals
  under-holds : (n d : ℕ) (p : PlainPattern) → PatternHolds (P n) p → PatternHolds (P n) (pattern_under d p)
  under-holds n zero p h = h
  under-holds n (suc d) p h = under-holds n d (listed p) ((h, tt), tt)

  patterns-hold : (n : ℕ) (vs : List PatternVariable) → PatternsHold (P n) (patterns (map insert_pattern vs))
  patterns-hold n [] = tt
  patterns-hold n (v ∷ vs) = (under-holds n v.depth (pattern.variable v.label) tt, patterns-hold n vs)

  match-holds : (n : ℕ) (vs : List PatternVariable) (x : PlainTemplate) (span : Span) (cs : List PlainCore) → TemplateHolds (P n) x → Cs n cs → (C own K J P lives first) n (match_of vs x span cs)
  match-holds n vs x span cs h k = ((tt, cores-hold n cs k), ((patterns-hold n vs, tt), (h, tt)))

  module _ (place : Span) (level : ℕ) (t : Tree) where
    bind-inserts-hold : (f : FrameNo) (vs : List PatternVariable) (s : State) → (F own K J P lives first) s → Each ((VariableAt own K J P lives first) s.names.number) vs → (Gave own K J P lives first) Any s (bind_inserts f place level vs s)
    bind-inserts-hold f vs s h k =
        (gave-after own K J P lives first) Any Any s (bind_pattern f place level vs s) (λ _. put_row dots place f ellipsis) ((bind-pattern-holds own K J P lives first) f place level vs s h k)
        (λ x u i y. (put-row-holds own K J P lives first) dots place f ellipsis u ((state-then own K J P lives first) s u h i) (of-core u.names.number 0))

    inserted-in-holds : (q : QuasiSyntax) (cs : List PlainCore) (f : FrameNo) (s : State) → (F own K J P lives first) s → J s.names.number f → (T own K J P lives first) s.names.number q.template → Each (InsertAt s.names.number) q.inserts → Cs s.names.number cs → (Gave own K J P lives first) (C own K J P lives first) s (inserted_in place level t q cs f s)
    inserted-in-holds q cs f s h r k g j =
        (gave-after own K J P lives first) (λ n vs. Each ((VariableAt own K J P lives first) n) vs) (C own K J P lives first) s (insert_variables q.inserts s) _ (insert-variables-hold q.inserts s h g)
        (λ vs u i y. let hu = (state-then own K J P lives first) s u h i in
        (gave-after own K J P lives first) Any (C own K J P lives first) u (bind_inserts f place level vs u) _ (bind-inserts-hold f vs u hu y)
        (λ x v a b. let hv = (state-then own K J P lives first) u v hu a in
        (gave-after own K J P lives first) (λ n x. TemplateHolds (P n) x) (C own K J P lives first) v (template_of place level (stamp f q.template) v) (λ x. give (match_of vs x (place_of t place) cs))
        ((template-holds own K J P lives first) place level (stamp f q.template) v hv (stamp-holds own K J P lives v.names.number f q.template (lives.frames s.names.number v.names.number f (omega (arith, i.stage.up, a.stage.up)) r) ((tree-up own K J P lives first) s.names.number v.names.number (omega (arith, i.stage.up, a.stage.up)) q.template k)))
        (λ x w c d. ((state-self own K J P lives first) w ((state-then own K J P lives first) v w hv c), match-holds w.names.number vs x (place_of t place) cs d (each-implied ((C own K J P lives first) s.names.number) ((C own K J P lives first) w.names.number) ((core-up own K J P lives first) s.names.number w.names.number (omega (arith, i.stage.up, a.stage.up, c.stage.up))) cs j)))))

    inserted-holds : (q : QuasiSyntax) (cs : List PlainCore) (s : State) → (F own K J P lives first) s → (T own K J P lives first) s.names.number q.template → Each (InsertAt s.names.number) q.inserts → Cs s.names.number cs → (Gave own K J P lives first) (C own K J P lives first) s (inserted place level t q cs s)
    unfolding inserted fresh_frame
    inserted-holds q cs s h k g j =
        let f : FrameNo = record { 0 = s.names } in
        let u : State = record s { names = record { library = s.names.library; number = s.names.number + 1 } } in
        let i = (counted-holds own K J P lives first) s h in
        (gave-within own K J P lives first) (C own K J P lives first) (λ v. after (fresh_frame v) (inserted_in place level t q cs)) s
        ((gave-from own K J P lives first) (C own K J P lives first) s u (inserted_in place level t q cs f u) i
        (inserted-in-holds q cs f u ((state-then own K J P lives first) s u h i) ((frame-made own K J P lives first) s h) ((tree-up own K J P lives first) s.names.number (s.names.number + 1) (omega arith) q.template k)
        (each-implied (InsertAt s.names.number) (InsertAt (s.names.number + 1)) (insert-up s.names.number (s.names.number + 1) (omega arith)) q.inserts g)
        (each-implied ((C own K J P lives first) s.names.number) ((C own K J P lives first) (s.names.number + 1)) ((core-up own K J P lives first) s.names.number (s.names.number + 1) (omega arith)) cs j)))

    code-holds : (q : QuasiForm) (cs : List PlainCore) (s : State) → (F own K J P lives first) s → FormAt s.names.number q → Cs s.names.number cs → (Gave own K J P lives first) (C own K J P lives first) s (code_of place level t q cs s)
    code-holds (forms.Quote q) cs s h k j = ((state-self own K J P lives first) s h, (filled-holds s.names.number q cs j).0)
    code-holds (forms.Syntax q) cs s h k j = by q.inserts
      where
        by : (is : List Insert) → (Gave own K J P lives first) (C own K J P lives first) s (syntax_code place level t q cs is s)
        by [] = (gave-after own K J P lives first) (λ n x. TemplateHolds (P n) x) (C own K J P lives first) s (template_of place level q.template s) (λ x. give (instance x (place_of t place))) ((template-holds own K J P lives first) place level q.template s h k.0) (λ x u i y. ((state-self own K J P lives first) u ((state-then own K J P lives first) s u h i), y))
        by (i ∷ is) = inserted-holds q cs s h k.0 k.1 j

    module _ (go : Inside) (keeps : (KeepsFresh own K J P lives first) go) where
      pub quasi-form-holds : (depth : ℕ) (which : Family) (template : Tree) (s : State) → (F own K J P lives first) s → (T own K J P lives first) s.names.number t → (T own K J P lives first) s.names.number template → (Gave own K J P lives first) (C own K J P lives first) s (quasi_form go (site_at place level depth) (template_parts t which template) s)
      unfolding quasi_form
      quasi-form-holds depth which template s h k g =
          (gave-after own K J P lives first) FormAt (C own K J P lives first) s (form_of place t which template s) (quasi_made go (site_at place level depth) t) (form-of-holds place t which template s h g)
          (λ q u i y. let hu = (state-then own K J P lives first) s u h i in
          (gave-after own K J P lives first) Cs (C own K J P lives first) u (parts_in_order go place level (parts_of t depth q) u) (code_of place level t q)
          ((gave-each own K J P lives first) PartAt (C own K J P lives first) part-up (core-up own K J P lives first) (part_core go place level) (λ p v j z. keeps.form place level p.depth p.form v j z) [] (parts_of t depth q) u hu tt (parts-of-hold u.names.number t depth q ((tree-up own K J P lives first) s.names.number u.names.number i.stage.up t k) y))
          (λ cs v j z. code-holds q cs v ((state-then own K J P lives first) u v hu j) (form-at-up u.names.number v.names.number j.stage.up q y) z))
