-- Quasi forms keep an invariant, whatever keeps it inside.
use Rattle.std.proofs.Common.{◌+◌, ℕ, Bool, true, false, List, [], ◌∷◌, ◌++◌, map, Result, Ok, Err, if◌then◌else◌}
use Rattle.base_data.proofs.ElementLemmas.{each-and}
use Rattle.base_data.specs.Act.{after, give}
use Rattle.base_data.specs.Elements.{Each}
use Rattle.base_data.specs.declared.fault.Fault.{Fault}
use Rattle.base_data.specs.declared.name.FrameNo.{FrameNo}
use Rattle.base_data.specs.declared.span.Span.{Span}
use Rattle.stx_tree.specs.Changes.{stamp}
use Rattle.stx_tree.specs.Tree.{Tree}
use Rattle.stx_tree.specs.declared.change.Change.TheVariants as change
use Rattle.core_language.specs.Core.{PlainCore, cores, instance}
use Rattle.core_language.specs.Template.{PlainTemplate}
use Rattle.eval_pattern.specs.declared.compile.PatternVariable.{PatternVariable}
use Rattle.core_quasi.specs.Plan.{PlainQuasi, PlainQuasis, constant, expression, none, more}
use Rattle.core_quasi.specs.Plan as quasi_plan
use Rattle.core_quasi.specs.Quasi.{quasi}
use Rattle.core_quasi.specs.QuasiSyntax.{quasi_syntax}
use Rattle.core_quasi.specs.Words.{word_of}
use Rattle.core_quasi.specs.declared.quasi_syntax.Insert.{Insert}
use Rattle.core_quasi.specs.declared.quasi_syntax.QuasiSyntax.{QuasiSyntax}
use Rattle.core_quasi.specs.declared.word.Family.{Family}
use Rattle.core_quasi.specs.declared.word.Family.TheVariants as family
use Rattle.expand_quasi.specs.Filled.{next_code, filled, all_filled}
use Rattle.expand_quasi.specs.Form.{quote_by, syntax_by, form_of, parts_of, code_of}
use Rattle.expand_quasi.specs.Inserted.{dots, ellipsis, insert_variable, insert_variables, match_of, bind_inserts, inserted_in, inserted, syntax_code}
use Rattle.expand_quasi.specs.Parts.{part, with_made, quasi_parts, all_quasi_parts, insert_part, inserts_parts}
use Rattle.expand_quasi.specs.declared.form.QuasiForm.{QuasiForm}
use Rattle.expand_quasi.specs.declared.form.QuasiForm.TheVariants as forms
use Rattle.expand_quasi.specs.declared.parts.PartForm.{PartForm}
use Rattle.std.specs.Prelude.{nat_lt, ◌≤◌}
use Rattle.core_shapes.specs.At.{place_of}
use Rattle.expand_standing.specs.Binders.{put_row}
use Rattle.expand_standing.specs.Patterns.{bind_pattern, template_of}
use Rattle.expand_standing.specs.State.{State, fresh, fresh_frame}
use Rattle.expand_heads.specs.Depth.{deeper, most_round}
use Rattle.expand_forms.specs.Inside.{Inside}
use Rattle.expand_forms.specs.Quasi.{part_core, parts_in_order, quasi_made, quasi_form}
use Rattle.expand_forms.specs.Site.{site_at}
use Rattle.expand_forms.specs.Forms.{template_parts}
use Rattle.law_invariants.specs.Holds.{CoresHold}
use Rattle.base_data.proofs.ElementLemmas.{each-and}
use Rattle.law_invariants.proofs.Trees.{OkHolds}
use Rattle.law_invariant_expansion.proofs.Forms.{Keeps}
use Rattle.law_invariant_expansion.proofs.Quasi.{QuasiHolds, QuasisHold, quasi-holds}
use Rattle.law_invariant_expansion.proofs.QuasiSyntax.{quasi-syntax-holds}
use Rattle.law_invariant_expansion.proofs.Standing.{F, C, Gave, gave-after, gave-each, gave-within, counted-holds, put-row-holds, TemplateAt, template-holds, bind-pattern-holds}
use Rattle.law_invariants.specs.Invariant.{Invariant}
use Rattle.law_invariant_expansion.specs.Kept.{IsKeptByExpansion}

module _ (I : Invariant) (kept : IsKeptByExpansion I) where
  abbrev Any : {A : Type 0} → A → Type 0
  Any x = Unit {0}

  abbrev Cs : List PlainCore → Type 0
  Cs cs = Each (C I kept) cs

  abbrev InsertAt : Insert → Type 0
  InsertAt i = I.trees i.leaf × (I.trees i.expression × (i.depth ≤ 1))

  -- under one ellipsis at most
  abbrev VariableAt : PatternVariable → Type 0
  VariableAt v = v.depth ≤ 1

  -- what a form comes to
  abbrev pub FormAt : QuasiForm → Type 0
  FormAt (forms.Quote q) = QuasiHolds I kept.built.closed q
  FormAt (forms.Syntax q) = I.trees q.template × Each InsertAt q.inserts

  -- the ellipsis behind splices has a name
  name-of-dots : I.trees dots
  name-of-dots = kept.ellipsis

  form-of-holds : (place : Span) (t : Tree) (which : Family) (template : Tree) (s : State) → F I kept s → I.trees template → Gave I kept FormAt (form_of place t which template s)
  form-of-holds place t family.Quote template s h k = by (quasi (word_of family.Quote s.frames) template t place) (quasi-holds I kept.built.closed (word_of family.Quote s.frames) template t place k)
    where
      by : (r : Result PlainQuasi Fault) → OkHolds (QuasiHolds I kept.built.closed) r → Gave I kept FormAt (quote_by r s)
      by (Err f) j = tt
      by (Ok q) j = (h, j)
  form-of-holds place t family.Syntax template s h k =
      by (quasi_syntax (record { words = word_of family.Syntax s.frames; dots = dots }) template t place)
      (quasi-syntax-holds I kept.built kept.insert (record { words = word_of family.Syntax s.frames; dots = dots }) name-of-dots template t place k)
    where
      by : (r : Result QuasiSyntax Fault) → OkHolds (λ (q : QuasiSyntax). I.trees q.template × Each InsertAt q.inserts) r → Gave I kept FormAt (syntax_by r s)
      by (Err f) j = tt
      by (Ok q) j = (h, j)

  -- Parts.

  abbrev PartAt : PartForm → Type 0
  PartAt p = I.trees p.form

  with-made-holds : (t : Tree) (depth : ℕ) (done : List PartForm) → I.trees t → Each PartAt done → Each PartAt (with_made t depth done)
  with-made-holds t depth done h k = by (nat_lt most_round depth)
    where
      by : (b : Bool) → Each PartAt (if b then done ++ part t depth ∷ [] else done)
      by true = each-and PartAt done (part t depth) k h
      by false = k

  mutual
    quasi-parts-hold : (t : Tree) (depth : ℕ) (done : List PartForm) (q : PlainQuasi) → I.trees t → Each PartAt done → QuasiHolds I kept.built.closed q → Each PartAt (quasi_parts t depth done q)
    quasi-parts-hold t depth done (constant c) h k j = with-made-holds t depth done h k
    quasi-parts-hold t depth done (expression e) h k j = each-and PartAt done (part e depth) k j
    quasi-parts-hold t depth done (quasi_plan.call m qs) h k j = all-parts-hold t (deeper depth) (with_made t (deeper depth) done) qs h (with-made-holds t (deeper depth) done h k) j

    all-parts-hold : (t : Tree) (depth : ℕ) (done : List PartForm) (qs : PlainQuasis) → I.trees t → Each PartAt done → QuasisHold I kept.built.closed qs → Each PartAt (all_quasi_parts t depth done qs)
    all-parts-hold t depth done none h k j = k
    all-parts-hold t depth done (more q qs) h k j = all-parts-hold t depth (quasi_parts t depth done q) qs h (quasi-parts-hold t depth done q h k j.0) j.1

  insert-parts-hold : (depth : ℕ) (is : List Insert) → Each InsertAt is → Each PartAt (map (insert_part depth) is)
  insert-parts-hold depth [] h = tt
  insert-parts-hold depth (i ∷ is) h = (h.0.1.0, insert-parts-hold depth is h.1)

  inserts-parts-hold : (t : Tree) (depth : ℕ) (is : List Insert) → I.trees t → Each InsertAt is → Each PartAt (inserts_parts t depth is)
  inserts-parts-hold t depth [] h k = with-made-holds t depth [] h tt
  inserts-parts-hold t depth (i ∷ is) h k = by (nat_lt most_round (deeper (deeper depth)))
    where
      by : (b : Bool) → Each PartAt ((if b then [] ++ part t (deeper (deeper depth)) ∷ [] else []) ++ map (insert_part (deeper (deeper depth))) (i ∷ is))
      by true = (h, insert-parts-hold (deeper (deeper depth)) (i ∷ is) k)
      by false = insert-parts-hold (deeper (deeper depth)) (i ∷ is) k

  parts-of-hold : (t : Tree) (depth : ℕ) (q : QuasiForm) → I.trees t → FormAt q → Each PartAt (parts_of t depth q)
  parts-of-hold t depth (forms.Quote q) h k = quasi-parts-hold t depth [] q h tt k
  parts-of-hold t depth (forms.Syntax q) h k = inserts-parts-hold t depth q.inserts h k.1

  -- Code.

  cores-hold : (cs : List PlainCore) → Cs cs → CoresHold I (cores cs)
  cores-hold [] h = tt
  cores-hold (c ∷ cs) h = (h.0, cores-hold cs h.1)

  abbrev FilledAt : PlainCore × List PlainCore → Type 0
  FilledAt p = C I kept p.0 × Cs p.1

  next-code-holds : (t : Tree) (cs : List PlainCore) → I.trees t → Cs cs → FilledAt (next_code t cs)
  next-code-holds t [] k h = (kept.built.constants t k, tt)
  next-code-holds t (c ∷ cs) k h = h

  mutual
    filled-holds : (q : PlainQuasi) (cs : List PlainCore) → QuasiHolds I kept.built.closed q → Cs cs → FilledAt (filled q cs)
    filled-holds (constant t) cs k h = (kept.built.constants t k, h)
    filled-holds (expression t) cs k h = next-code-holds t cs k h
    filled-holds (quasi_plan.call m qs) cs k h = let p = all-filled-hold [] qs cs k tt h in ((tt, cores-hold (all_filled [] qs cs).0 p.0), p.1)

    all-filled-hold : (done : List PlainCore) (qs : PlainQuasis) (cs : List PlainCore) → QuasisHold I kept.built.closed qs → Cs done → Cs cs → Cs (all_filled done qs cs).0 × Cs (all_filled done qs cs).1
    all-filled-hold done none cs j h k = (h, k)
    all-filled-hold done (more q qs) cs j h k =
        let p = filled-holds q cs j.0 k in
        all-filled-hold (done ++ (filled q cs).0 ∷ []) qs (filled q cs).1 j.1 (each-and (C I kept) done (filled q cs).0 h p.0) p.1

  -- Inserts.

  insert-variable-holds : (i : Insert) (s : State) → F I kept s → InsertAt i → Gave I kept VariableAt (insert_variable i s)
  unfolding fresh
  insert-variable-holds i s h k = (counted-holds I kept s h, k.1.1)

  insert-variables-hold : (is : List Insert) (s : State) → F I kept s → Each InsertAt is → Gave I kept (λ vs. Each VariableAt vs) (insert_variables is s)
  insert-variables-hold is s h k = gave-each I kept InsertAt VariableAt insert_variable (λ i t j y. insert-variable-holds i t j y) [] is s h tt k

  match-holds : (vs : List PatternVariable) (x : PlainTemplate) (span : Span) (cs : List PlainCore) → Each VariableAt vs → TemplateAt I kept x → Cs cs → C I kept (match_of vs x span cs)
  match-holds vs x span cs few h k = ((tt, cores-hold cs k), kept.inserts vs (TemplateAt I kept x × Unit {0}) few (h, tt))

  module _ (place : Span) (level : ℕ) (t : Tree) where
    bind-inserts-hold : (f : FrameNo) (vs : List PatternVariable) (s : State) → F I kept s → Gave I kept Any (bind_inserts f place level vs s)
    bind-inserts-hold f vs s h =
        gave-after I kept Any Any (bind_pattern f place level vs s) (λ _. put_row dots place f ellipsis) (bind-pattern-holds I kept f place level vs s h) (λ x u i y. put-row-holds I kept dots place f ellipsis u i)

    inserted-in-holds : (q : QuasiSyntax) (cs : List PlainCore) (f : FrameNo) (s : State) → F I kept s → I.trees q.template → Each InsertAt q.inserts → Cs cs → Gave I kept (C I kept) (inserted_in place level t q cs f s)
    inserted-in-holds q cs f s h k g j =
        gave-after I kept (λ vs. Each VariableAt vs) (C I kept) (insert_variables q.inserts s) _ (insert-variables-hold q.inserts s h g)
        (λ vs u i y. let hu = i in
        gave-after I kept Any (C I kept) (bind_inserts f place level vs u) _ (bind-inserts-hold f vs u hu)
        (λ x v a b. let hv = a in
        gave-after I kept (TemplateAt I kept) (C I kept) (template_of place level (stamp f q.template) v) (λ x. give (match_of vs x (place_of t place) cs))
        (template-holds I kept place level (stamp f q.template) v hv (kept.steady.changed (change.Stamp f ∷ []) q.template k))
        (λ x w c d. (c, match-holds vs x (place_of t place) cs y d j))))

    inserted-holds : (q : QuasiSyntax) (cs : List PlainCore) (s : State) → F I kept s → I.trees q.template → Each InsertAt q.inserts → Cs cs → Gave I kept (C I kept) (inserted place level t q cs s)
    unfolding inserted fresh_frame
    inserted-holds q cs s h k g j =
        let f : FrameNo = record { 0 = s.names } in
        let u : State = record s { names = record { library = s.names.library; number = s.names.number + 1 } } in
        let i = counted-holds I kept s h in
        gave-within I kept (C I kept) (λ v. after (fresh_frame v) (inserted_in place level t q cs)) s
        (inserted-in-holds q cs f u i k g j)

    code-holds : (q : QuasiForm) (cs : List PlainCore) (s : State) → F I kept s → FormAt q → Cs cs → Gave I kept (C I kept) (code_of place level t q cs s)
    code-holds (forms.Quote q) cs s h k j = (h, (filled-holds q cs k j).0)
    code-holds (forms.Syntax q) cs s h k j = by q.inserts
      where
        by : (is : List Insert) → Gave I kept (C I kept) (syntax_code place level t q cs is s)
        by [] = gave-after I kept (TemplateAt I kept) (C I kept) (template_of place level q.template s) (λ x. give (instance x (place_of t place))) (template-holds I kept place level q.template s h k.0) (λ x u i y. (i, y))
        by (i ∷ is) = inserted-holds q cs s h k.0 k.1 j

    module _ (go : Inside) (keeps : Keeps I kept go) where
      pub quasi-form-holds : (depth : ℕ) (which : Family) (template : Tree) (s : State) → F I kept s → I.trees t → I.trees template → Gave I kept (C I kept) (quasi_form go (site_at place level depth) (template_parts t which template) s)
      unfolding quasi_form
      quasi-form-holds depth which template s h k g =
          gave-after I kept FormAt (C I kept) (form_of place t which template s) (quasi_made go (site_at place level depth) t) (form-of-holds place t which template s h g)
          (λ q u i y. let hu = i in
          gave-after I kept Cs (C I kept) (parts_in_order go place level (parts_of t depth q) u) (code_of place level t q)
          (gave-each I kept PartAt (C I kept) (part_core go place level) (λ p v j z. keeps.form place level p.depth p.form v j z) [] (parts_of t depth q) u hu tt (parts-of-hold t depth q k y))
          (λ cs v j z. code-holds q cs v j y z))
