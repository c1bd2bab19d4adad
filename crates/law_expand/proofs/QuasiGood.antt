-- `quasiquote` and `quasisyntax` forms give good core code, given that expansion does inside forms.
use Rattle.std.proofs.Common.{◌≡◌, ℕ, ◌≤◌, List, [], ◌∷◌, ◌++◌, map, None, refl, sym, subst, arith}
use Rattle.base_data.specs.Act.{after, give}
use Rattle.base_data.specs.Elements.{Each}
use Rattle.base_data.specs.declared.library.LibName.{LibName}
use Rattle.base_data.specs.declared.name.Label.{Label}
use Rattle.base_data.specs.declared.op.Op.{Op}
use Rattle.base_data.specs.declared.span.Span.{Span}
use Rattle.stx_tree.specs.Changes.{stamp}
use Rattle.stx_tree.specs.Leaves.{strip}
use Rattle.stx_tree.specs.Tree.{Tree}
use Rattle.core_language.specs.Core.{PlainCore, no_clause, primitive, instance}
use Rattle.core_language.specs.CoreView.{clause_on}
use Rattle.core_language.specs.References.{variables}
use Rattle.core_language.specs.Template.{PlainTemplate}
use Rattle.law_core.specs.Templates.{Depths, depths}
use Rattle.law_core.specs.WellMade.{IsLeaf}
use Rattle.eval_pattern.specs.declared.compile.PatternVariable.{PatternVariable}
use Rattle.core_quasi.specs.Plan.{PlainQuasi, PlainQuasis, constant, expression, none, more}
use Rattle.core_quasi.specs.Plan as quasi
use Rattle.core_quasi.specs.declared.maker.Maker.{Maker}
use Rattle.core_quasi.specs.declared.maker.Maker.TheVariants as maker
use Rattle.core_quasi.specs.declared.quasi_syntax.Insert.{Insert}
use Rattle.core_quasi.specs.declared.quasi_syntax.QuasiSyntax.{QuasiSyntax}
use Rattle.core_quasi.specs.declared.word.Family.{Family}
use Rattle.expand_quasi.specs.Filled.{op_of, call_of, next_code, filled, all_filled}
use Rattle.expand_quasi.specs.Form.{form_of, parts_of, code_of}
use Rattle.expand_quasi.specs.Inserted.{insert_variables, inserts_pattern, list_op, match_of, bind_inserts, inserted_in, inserted, plain_instance, syntax_code}
use Rattle.expand_quasi.specs.declared.form.QuasiForm.{QuasiForm}
use Rattle.expand_quasi.specs.declared.form.QuasiForm.TheVariants as forms
use Rattle.expand_quasi.specs.declared.parts.PartForm.{PartForm}
use Rattle.core_shapes.specs.At.{place_of}
use Rattle.expand_standing.specs.Patterns.{template_of}
use Rattle.expand_standing.specs.State.{State, fresh_frame}
use Rattle.expand_forms.specs.Inside.{Inside}
use Rattle.expand_forms.specs.Quasi.{part_core, parts_in_order, quasi_made, quasi_form}
use Rattle.expand_forms.specs.Site.{site_at}
use Rattle.expand_forms.specs.Forms.{template_parts}
use Rattle.law_expand.specs.States.{IsPattern, IsPrimitive, Later}
use Rattle.law_expand.proofs.Acts.{Gave, gave-after, gave-within, gave-each}
use Rattle.law_expand.proofs.Bodies.{starts-with}
use Rattle.law_expand.proofs.Compiled.{variable_label, variable_depth}
use Rattle.law_expand.proofs.Expand.{GivesGood, Safe, Starts, starts-later, lifted, Gives, gives}
use Rattle.law_expand.proofs.Fresh.{FreshLabels, label_name, fresh-wider}
use Rattle.law_expand.proofs.Good.{Bindings, Extends, IsPatternIn, InTurn, Good, GoodClauses, good-quoted, good-primitive, good-call, good-instance, good-wider, good-grown, good-clause, good-matching}
use Rattle.law_expand.proofs.Inserts.{Labelled, labelled, labelled-patterned, BindsInserts, inserts-bound, inserts-add, inserts-are, inserts-made}
use Rattle.law_expand.proofs.InsertPatterns.{inserts-variables, inserts-literals, inserts-depths}
use Rattle.law_expand.proofs.Later.{later-self, later-then}
use Rattle.law_expand.proofs.Meanings.{template-suits}
use Rattle.law_expand.proofs.Naming.{as_frame, counted, counted-later}
use Rattle.law_expand.proofs.Plans.{IsTemplate, template-is}
use Rattle.law_expand.proofs.QuasiLater.{form-same}

maker-primitive : (m : Maker) → IsPrimitive (op_of m)
maker-primitive maker.List = (omega arith, refl)
maker-primitive maker.ConsStar = (omega arith, refl)
maker-primitive maker.Append = (omega arith, refl)
maker-primitive maker.ListToVector = (omega arith, refl)

-- Plans.

module _ (own : LibName) (bs : Bindings) (vs : Depths) (ls : List Label) where
  abbrev pub Turn : ℕ → ℕ → List PlainCore → Type 0
  Turn a b cs = InTurn (Good own bs vs ls) a b cs

  turn-up : (a b : ℕ) (cs : List PlainCore) → Turn a b cs → a ≤ b
  turn-up a b [] h = h
  turn-up a b (c ∷ cs) (m, (h, k)) = let x = h.inner.up in let y = turn-up m b cs k in omega (arith, x, y)

  turn-last : (a m b : ℕ) (cs : List PlainCore) (c : PlainCore) → Turn a m cs → Good own bs vs ls m b c → Turn a b (cs ++ c ∷ [])
  turn-last a m b [] c h k = (b, (good-wider own bs vs ls m b a b c h (omega arith) k, omega arith))
  turn-last a m b (x ∷ xs) c (n, (h, j)) k = (n, (h, turn-last n m b xs c j k))

  -- code that is made of the first of these, and those that are left
  abbrev Filled : ℕ → ℕ → PlainCore × List PlainCore → Type 0
  Filled a b p = (m : ℕ) × (Good own bs vs ls a m p.0 × Turn m b p.1)

  next-good : (t : Tree) (a b : ℕ) (cs : List PlainCore) → Turn a b cs → Filled a b (next_code t cs)
  next-good t a b [] h = (b, (good-quoted own bs vs ls a b (strip t) h, omega arith))
  next-good t a b (c ∷ cs) h = h

  call-good : (o : Op) (a b : ℕ) (cs : List PlainCore) → IsPrimitive o → Turn a b cs → Good own bs vs ls a b (call_of o cs)
  call-good o a b cs k h = good-call own bs vs ls a a b (primitive o) cs (good-primitive own bs vs ls a a o (omega arith) k) h

  mutual
    filled-good : (q : PlainQuasi) (a b : ℕ) (cs : List PlainCore) → Turn a b cs → Filled a b (filled q cs)
    filled-good (constant t) a b cs h = (a, (good-quoted own bs vs ls a a (strip t) (omega arith), h))
    filled-good (expression t) a b cs h = next-good t a b cs h
    filled-good (quasi.call m qs) a b cs h =
        let k = all-good qs [] a a b cs (omega arith) h in
        (k.0, (call-good (op_of m) a k.0 (all_filled [] qs cs).0 (maker-primitive m) k.1.0, k.1.1))

    all-good : (qs : PlainQuasis) (done : List PlainCore) (a n b : ℕ) (cs : List PlainCore) → Turn a n done → Turn n b cs → (m : ℕ) × (Turn a m (all_filled done qs cs).0 × Turn m b (all_filled done qs cs).1)
    all-good none done a n b cs d h = (n, (d, h))
    all-good (more q qs) done a n b cs d h =
        let k = filled-good q n b cs h in
        all-good qs (done ++ (filled q cs).0 ∷ []) a k.0 b (filled q cs).1 (turn-last a n k.0 done (filled q cs).0 d k.1.0) k.1.1

  pub plan-good : (q : PlainQuasi) (a b : ℕ) (cs : List PlainCore) → Turn a b cs → Good own bs vs ls a b (filled q cs).0
  plan-good q a b cs h =
      let k = filled-good q a b cs h in
      good-wider own bs vs ls a k.0 a b (filled q cs).0 (omega arith) (turn-up k.0 b (filled q cs).1 k.1.1) k.1.0

turn-grown : (own : LibName) (bs ds : Bindings) (ext : Extends bs ds) (vs : Depths) (ls : List Label) (a b : ℕ) (cs : List PlainCore) → InTurn (Good own bs vs ls) a b cs → InTurn (Good own ds vs ls) a b cs
turn-grown own bs ds ext vs ls a b [] h = h
turn-grown own bs ds ext vs ls a b (c ∷ cs) (m, (h, k)) = (m, (good-grown own bs ds ext vs ls a m c h, turn-grown own bs ds ext vs ls m b cs k))

-- Inserts.

bound-depths : (level : ℕ) (u : State) (ws : List PatternVariable) → Each (λ (w : PatternVariable). IsPattern u w.label level w.depth) ws → Each (λ (v : Label × ℕ). (at : ℕ) × IsPattern u v.0 at v.1) (map variable_depth ws)
bound-depths level u [] h = tt
bound-depths level u (w ∷ ws) h = ((level, h.0), bound-depths level u ws h.1)

bound-labels : (level : ℕ) (u : State) (ws : List PatternVariable) → Each (λ (w : PatternVariable). IsPattern u w.label level w.depth) ws → Each (IsPatternIn u.bindings) (map variable_label ws)
bound-labels level u [] h = tt
bound-labels level u (w ∷ ws) h = ((level, (w.depth, h.0)), bound-labels level u ws h.1)

-- the match, where the inserts were bound and its output is good
match-good : (own : LibName) (bs : Bindings) (vs : Depths) (ls : List Label) (a m b : ℕ) (ws : List PatternVariable) (x : PlainTemplate) (span : Span) (cs : List PlainCore) → m ≤ b → InTurn (Good own bs vs ls) a m cs
    → FreshLabels own m b (map variable_label ws) → Each (IsPatternIn bs) (map variable_label ws) → Good own bs (map variable_depth ws ++ vs) (map variable_label ws ++ ls) b b (instance x span) → Good own bs vs ls a b (match_of ws x span cs)
match-good own bs vs ls a m b ws x span cs le h made bound output =
    let p = inserts_pattern ws in
    let labels : map variable_label ws ≡ variables p = sym (inserts-variables ws) in
    let ds : map variable_depth ws ≡ depths 0 p = sym (inserts-depths ws) in
    let clause : GoodClauses own bs vs ls m b (clause_on p None (instance x span) no_clause) =
    good-clause own bs vs ls m b b b p None (instance x span) le (subst (FreshLabels own m b) labels made)
    (record { leaves = subst (Each IsLeaf) (sym (inserts-literals ws)) tt; bound = subst (Each (IsPatternIn bs)) labels bound })
    (omega arith)
    (subst (λ es. Good own bs (es ++ vs) (variables p ++ ls) b b (instance x span)) ds (subst (λ ns. Good own bs (map variable_depth ws ++ vs) (ns ++ ls) b b (instance x span)) labels output)) in
    good-matching own bs vs ls a m b (call_of list_op cs) (clause_on p None (instance x span) no_clause) span (call-good own bs vs ls list_op a m cs (omega arith, refl) h) clause

module _ (own : LibName) (given : List Label) (place : Span) (level : ℕ) (t : Tree) (vs : Depths) (ls : List Label) where
  abbrev S : State → Type 0
  S = Starts own given vs level ls

  -- made from this number on
  abbrev From : ℕ → PlainCore → State → Type 0
  From a c u = Good own u.bindings vs ls a u.names.number c

  abbrev Had : ℕ → List PlainCore → State → Type 0
  Had a cs u = InTurn (Good own u.bindings vs ls) a u.names.number cs

  gives-inserted : (q : QuasiSyntax) (cs : List PlainCore) (a : ℕ) (s : State) → S s → Had a cs s → Gave (From a) (inserted place level t q cs s)
  unfolding inserted fresh_frame
  gives-inserted q cs a s h had =
      let f = as_frame s.names in
      let next = starts-later own given vs level ls s (counted s) h (counted-later own s h.0.next) in
      gave-within (From a) (λ u. after (fresh_frame u) (inserted_in place level t q cs)) s
      (gave-after (Labelled own (counted s)) (From a) (insert_variables q.inserts (counted s)) _ (labelled own q.inserts (counted s) h.0.next)
      (λ ws u k.
      gave-after (λ x v. BindsInserts own f level (counted s) ws v) (From a) (bind_inserts f place level ws u) _ (inserts-bound own f place level ws (counted s) u (labelled-patterned own (counted s) ws u k))
      (λ x v b.
      let adds = inserts-add own f level ws (counted s) v b in
      let are = inserts-are own f level ws (counted s) v b next.0.numbered in
      let seen = starts-with own given vs level ls (map variable_label ws) (map variable_depth ws) s v adds.0 adds.1.0 (bound-depths level v ws are) h in
      gave-after (IsTemplate place level (stamp f q.template) v) (From a) (template_of place level (stamp f q.template) v) (λ y. give (match_of ws y (place_of t place) cs)) (template-is place level (stamp f q.template) v)
      (λ y w i.
      let suits = template-suits own given (map variable_depth ws ++ vs) level (map variable_label ws ++ ls) v seen.0 seen.1 place (stamp f q.template) y w i in
      let n = v.names.number in
      let low : s.names.number ≤ n = let up = adds.0.up in omega (arith, up) in
      subst (λ (z : State). From a (match_of ws y (place_of t place) cs) z) (sym i.same)
      (match-good own v.bindings vs ls a s.names.number n ws y (place_of t place) cs low (turn-grown own s.bindings v.bindings adds.0.grows.bound vs ls a s.names.number cs had)
      (fresh-wider label_name own (counted s).names.number n s.names.number n (map variable_label ws) (omega arith) (omega arith) (inserts-made own f level ws (counted s) v b)) (bound-labels level v ws are)
      (good-instance own v.bindings (map variable_depth ws ++ vs) (map variable_label ws ++ ls) n n y (place_of t place) (omega arith) suits.1 suits.0))))))

  gives-plain : (q : QuasiSyntax) (cs : List PlainCore) (a : ℕ) (s : State) → S s → Had a cs s → Gave (From a) (plain_instance place level t q s)
  gives-plain q cs a s h had =
      gave-after (IsTemplate place level q.template s) (From a) (template_of place level q.template s) (λ y. give (instance y (place_of t place))) (template-is place level q.template s)
      (λ y w i.
      let suits = template-suits own given vs level ls s h.0 h.1 place q.template y w i in
      subst (λ (z : State). From a (instance y (place_of t place)) z) (sym i.same)
      (good-instance own s.bindings vs ls a s.names.number y (place_of t place) (turn-up own s.bindings vs ls a s.names.number cs had) suits.1 suits.0))

  -- the code of a form, whose parts have these codes
  gives-code : (q : QuasiForm) (cs : List PlainCore) (a : ℕ) (s : State) → S s → Had a cs s → Gave (From a) (code_of place level t q cs s)
  gives-code (forms.Quote q) cs a s h had = plan-good own s.bindings vs ls q a s.names.number cs had
  gives-code (forms.Syntax q) cs a s h had = by q.inserts
    where
      by : (is : List Insert) → Gave (From a) (syntax_code place level t q cs is s)
      by [] = gives-plain q cs a s h had
      by (i ∷ is) = gives-inserted q cs a s h had

  module _ (go : Inside) (safe : Safe own given go) where
    abbrev GivesAll : State → List PlainCore → State → Type 0
    GivesAll s cs u = Later own s u × Had s.names.number cs u

    gives-parts : (ps : List PartForm) (s : State) → S s → Gave (GivesAll s) (parts_in_order go place level ps s)
    gives-parts ps s h = gave-each (part_core go place level) (λ p u c v. Gives own given go safe place level p.depth vs ls u c v) (λ qs u cs v. GivesAll u cs v) S (λ u k. (later-self own u k.0.next, omega arith))
        (λ p u k. gives own given go safe place level p.depth vs ls p.form u k)
        (λ p u v c k j. starts-later own given vs level ls u v k j.0)
        (λ p qs u v w c cs k j a. (later-then own u v w j.0 a.0, (v.names.number, (lifted own vs ls u.names.number v.names.number c v w a.0 j.1, a.1)))) ps s h

    pub gives-quasi : (depth : ℕ) (which : Family) (template : Tree) (s : State) → S s → Gave (GivesGood own vs ls s) (quasi_form go (site_at place level depth) (template_parts t which template) s)
    unfolding quasi_form
    gives-quasi depth which template s h =
        gave-after (λ q u. u ≡ s) (GivesGood own vs ls s) (form_of place t which template s) (quasi_made go (site_at place level depth) t) (form-same place t which template s)
        (λ q u e. subst (λ (v : State). Gave (GivesGood own vs ls s) (quasi_made go (site_at place level depth) t q v)) (sym e)
        (gave-after (GivesAll s) (GivesGood own vs ls s) (parts_in_order go place level (parts_of t depth q) s) (code_of place level t q) (gives-parts (parts_of t depth q) s h)
        (λ cs v k. gives-code q cs s.names.number v (starts-later own given vs level ls s v h k.0) k.1)))
