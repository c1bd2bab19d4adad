-- `quasiquote` and `quasisyntax` forms nest as deep as they may: the forms that they make count in the depth.
use Rattle.std.proofs.Common.{◌≡◌, ℕ, ◌+◌, ◌≤◌, Bool, true, false, List, [], ◌∷◌, ◌++◌, map, refl, sym, ◌∙◌, ap, subst, arith, append-nil, append_assoc, if◌then◌else◌}
use Rattle.std.specs.Prelude.{nat_lt}
use Rattle.base_data.proofs.ElementLemmas.{each-append}
use Rattle.base_data.specs.Act.{after, give}
use Rattle.base_data.specs.Elements.{Each}
use Rattle.base_data.specs.declared.library.LibName.{LibName}
use Rattle.base_data.specs.declared.op.Op.{Op}
use Rattle.base_data.specs.declared.span.Span.{Span}
use Rattle.stx_tree.specs.Changes.{stamp}
use Rattle.stx_tree.specs.Leaves.{strip}
use Rattle.stx_tree.specs.Tree.{Tree}
use Rattle.core_language.specs.Core.{PlainCore, primitive, instance}
use Rattle.core_language.specs.Template.{PlainTemplate}
use Rattle.eval_pattern.specs.declared.compile.PatternVariable.{PatternVariable}
use Rattle.core_quasi.specs.Plan.{PlainQuasi, PlainQuasis, constant, expression, none, more}
use Rattle.core_quasi.specs.Plan as quasi
use Rattle.core_quasi.specs.declared.quasi_syntax.Insert.{Insert}
use Rattle.core_quasi.specs.declared.quasi_syntax.QuasiSyntax.{QuasiSyntax}
use Rattle.core_quasi.specs.declared.word.Family.{Family}
use Rattle.expand_quasi.specs.Filled.{op_of, call_of, next_code, filled, all_filled}
use Rattle.expand_quasi.specs.Form.{form_of, parts_of, code_of}
use Rattle.expand_quasi.specs.Inserted.{insert_variables, inserts_pattern, list_op, only_clause, match_of, bind_inserts, inserted_in, inserted, plain_instance, syntax_code}
use Rattle.expand_quasi.specs.Parts.{part, with_made, quasi_parts, all_quasi_parts, insert_part, inserts_parts}
use Rattle.expand_quasi.specs.declared.form.QuasiForm.{QuasiForm}
use Rattle.expand_quasi.specs.declared.form.QuasiForm.TheVariants as forms
use Rattle.expand_quasi.specs.declared.parts.PartForm.{PartForm}
use Rattle.core_shapes.specs.At.{place_of}
use Rattle.expand_standing.specs.Patterns.{template_of}
use Rattle.expand_standing.specs.State.{State, fresh_frame}
use Rattle.expand_heads.specs.Depth.{deeper, most_round}
use Rattle.expand_forms.specs.Inside.{Inside}
use Rattle.expand_forms.specs.Quasi.{part_core, parts_in_order, quasi_made, quasi_form}
use Rattle.expand_forms.specs.Site.{site_at}
use Rattle.expand_forms.specs.Forms.{template_parts}
use Rattle.law_expand.specs.States.{Later}
use Rattle.law_expand.specs.Shallow.{deepest}
use Rattle.law_expand.proofs.Acts.{Gave, gave-after, gave-any, gave-both, gave-within}
use Rattle.law_expand.proofs.Good.{Bindings}
use Rattle.law_expand.proofs.Inserts.{Labelled, labelled, labelled-patterned, BindsInserts, inserts-bound, inserts-add}
use Rattle.law_expand.proofs.Naming.{as_frame, counted}
use Rattle.law_expand.proofs.Nesting.{not-deep, too-deep, deeper-next, deeper-up, some-height, Within, within-at, within-grown, all-grown, quoted-within, call-within, matching-within, alone-within}
use Rattle.law_expand.proofs.NestingBinding.{Here, here-later, Pairs, gave-pairs, nothing-asked}
use Rattle.law_expand.proofs.NestingBodies.{Nests}
use Rattle.law_expand.proofs.Plans.{IsTemplate, template-is}
use Rattle.law_expand.proofs.QuasiLater.{form-same}

-- Parts and their codes.

-- the code of a part
abbrev pub PartWithin : Bindings → ℕ → PartForm → PlainCore → Type 0
PartWithin bs level p c = Within bs level p.depth deepest c

-- the first codes are those of these parts
abbrev pub Codes : Bindings → ℕ → List PartForm → List PlainCore → Type 0
Codes bs level [] cs = Unit {0}
Codes bs level (p ∷ ps) [] = ⊥
Codes bs level (p ∷ ps) (c ∷ cs) = PartWithin bs level p c × Codes bs level ps cs

-- a part that has a code isn't too deep
part-room : (bs : Bindings) (level depth : ℕ) (c : PlainCore) → Within bs level depth deepest c → depth ≤ most_round
part-room bs level depth c h = let low = h.low in let some = some-height c in omega (arith, low, some)

-- what is made is a part where it is too deep
made-parts : (t : Tree) (depth : ℕ) (done : List PartForm) → with_made t depth done ≡ done ++ with_made t depth []
made-parts t depth done = by (nat_lt most_round depth)
  where
    by : (b : Bool) → (if b then done ++ part t depth ∷ [] else done) ≡ done ++ (if b then [] ++ part t depth ∷ [] else [])
    by true = refl
    by false = sym (append-nil done)

made-room : (bs : Bindings) (level : ℕ) (t : Tree) (depth : ℕ) (rest : List PartForm) (cs : List PlainCore) → Codes bs level (with_made t depth [] ++ rest) cs → (depth ≤ most_round) × Codes bs level rest cs
made-room bs level t depth rest cs h = by (nat_lt most_round depth) refl cs h
  where
    by : (b : Bool) → nat_lt most_round depth ≡ b → (ds : List PlainCore) → Codes bs level ((if b then [] ++ part t depth ∷ [] else []) ++ rest) ds → (depth ≤ most_round) × Codes bs level rest ds
    by true e [] k = elim k [ ]
    by true e (d ∷ ds) k = absurd (too-deep depth e (part-room bs level depth d k.0))
    by false e ds k = (not-deep depth e, k)

mutual
  more-parts : (t : Tree) (depth : ℕ) (done : List PartForm) (q : PlainQuasi) → quasi_parts t depth done q ≡ done ++ quasi_parts t depth [] q
  more-parts t depth done (constant c) = made-parts t depth done
  more-parts t depth done (expression e) = refl
  more-parts t depth done (quasi.call m qs) =
      more-all t (deeper depth) (with_made t (deeper depth) done) qs
      ∙ ap (λ ps. ps ++ all_quasi_parts t (deeper depth) [] qs) (made-parts t (deeper depth) done)
      ∙ append_assoc done (with_made t (deeper depth) []) (all_quasi_parts t (deeper depth) [] qs)
      ∙ ap (λ ps. done ++ ps) (sym (more-all t (deeper depth) (with_made t (deeper depth) []) qs))

  pub more-all : (t : Tree) (depth : ℕ) (done : List PartForm) (qs : PlainQuasis) → all_quasi_parts t depth done qs ≡ done ++ all_quasi_parts t depth [] qs
  more-all t depth done none = sym (append-nil done)
  more-all t depth done (more q qs) =
      more-all t depth (quasi_parts t depth done q) qs
      ∙ ap (λ ps. ps ++ all_quasi_parts t depth [] qs) (more-parts t depth done q)
      ∙ append_assoc done (quasi_parts t depth [] q) (all_quasi_parts t depth [] qs)
      ∙ ap (λ ps. done ++ ps) (sym (more-all t depth (quasi_parts t depth [] q) qs))

-- The code of a plan.

module _ (bs : Bindings) (level : ℕ) (t : Tree) where
  -- the code that comes, and the codes of the parts behind
  abbrev Comes : ℕ → List PartForm → PlainCore × List PlainCore → Type 0
  Comes depth rest p = Within bs level depth deepest p.0 × Codes bs level rest p.1

  abbrev AllCome : ℕ → List PartForm → List PlainCore × List PlainCore → Type 0
  AllCome depth rest p = Each (Within bs level depth deepest) p.0 × Codes bs level rest p.1

  next-nests : (x : Tree) (depth : ℕ) (rest : List PartForm) (cs : List PlainCore) → Codes bs level (part x depth ∷ rest) cs → Comes depth rest (next_code x cs)
  next-nests x depth rest [] h = elim h [ ]
  next-nests x depth rest (c ∷ cs) h = h

  calls : (o : Op) (depth : ℕ) (cs : List PlainCore) → deeper depth ≤ most_round → Each (Within bs level (deeper depth) deepest) cs → Within bs level depth deepest (call_of o cs)
  calls o depth cs room h =
      let up = deeper-up depth in
      let next = deeper-next depth (omega (arith, up, room)) in
      within-at bs level (deeper depth) (deepest + 1) depth deepest (call_of o cs) (omega (arith, next))
      (call-within bs level (deeper depth) deepest (deepest + 1) (omega arith) (omega (arith, room)) (primitive o) cs (alone-within bs level (deeper depth) deepest (primitive o) tt (omega (arith, room))) h)

  mutual
    filled-nests : (q : PlainQuasi) (depth : ℕ) (rest : List PartForm) (cs : List PlainCore) → Codes bs level (quasi_parts t depth [] q ++ rest) cs → Comes depth rest (filled q cs)
    filled-nests (constant c) depth rest cs h =
        let k = made-room bs level t depth rest cs h in
        (quoted-within bs level depth deepest (strip c) (let room = k.0 in omega (arith, room)), k.1)
    filled-nests (expression e) depth rest cs h = next-nests e depth rest cs h
    filled-nests (quasi.call m qs) depth rest cs h =
        let inner = all_quasi_parts t (deeper depth) [] qs in
        let k = made-room bs level t (deeper depth) (inner ++ rest) cs
        (subst (λ (ps : List PartForm). Codes bs level ps cs) (ap (λ ps. ps ++ rest) (more-all t (deeper depth) (with_made t (deeper depth) []) qs) ∙ append_assoc (with_made t (deeper depth) []) inner rest) h) in
        let j = all-nest qs (deeper depth) [] rest cs k.1 tt in
        (calls (op_of m) depth (all_filled [] qs cs).0 k.0 j.0, j.1)

    all-nest : (qs : PlainQuasis) (depth : ℕ) (done : List PlainCore) (rest : List PartForm) (cs : List PlainCore) → Codes bs level (all_quasi_parts t depth [] qs ++ rest) cs → Each (Within bs level depth deepest) done
        → AllCome depth rest (all_filled done qs cs)
    all-nest none depth done rest cs h k = (k, h)
    all-nest (more q qs) depth done rest cs h k =
        let inner = all_quasi_parts t depth [] qs in
        let j = filled-nests q depth (inner ++ rest) cs
        (subst (λ (ps : List PartForm). Codes bs level ps cs) (ap (λ ps. ps ++ rest) (more-all t depth (quasi_parts t depth [] q) qs) ∙ append_assoc (quasi_parts t depth [] q) inner rest) h) in
        all-nest qs depth (done ++ (filled q cs).0 ∷ []) rest (filled q cs).1 j.1 (each-append (Within bs level depth deepest) done ((filled q cs).0 ∷ []) k (j.0, tt))

pairs-codes : (bs : Bindings) (level : ℕ) (ps : List PartForm) (cs : List PlainCore) → Pairs (PartWithin bs level) ps cs → Codes bs level ps cs
pairs-codes bs level [] cs h = tt
pairs-codes bs level (p ∷ ps) [] h = elim h [ ]
pairs-codes bs level (p ∷ ps) (c ∷ cs) h = (h.0, pairs-codes bs level ps cs h.1)

-- the inserts stand two deeper than the form
inserts-each : (bs : Bindings) (level depth : ℕ) (is : List Insert) (cs : List PlainCore) → Pairs (PartWithin bs level) (map (insert_part depth) is) cs → Each (Within bs level depth deepest) cs
inserts-each bs level depth [] [] h = tt
inserts-each bs level depth [] (c ∷ cs) h = elim h [ ]
inserts-each bs level depth (i ∷ is) [] h = tt
inserts-each bs level depth (i ∷ is) (c ∷ cs) h = (h.0, inserts-each bs level depth is cs h.1)

module _ (own : LibName) (go : Inside) (nests : Nests own go) (place : Span) (level : ℕ) (t : Tree) where
  abbrev Had : List PartForm → State → List PlainCore → Type 0
  Had ps s cs = Pairs (PartWithin s.bindings level) ps cs

  parts-nest : (ps : List PartForm) (s : State) → Here own s → Gave (λ cs u. Later own s u × Had ps u cs) (parts_in_order go place level ps s)
  parts-nest ps s h =
      gave-pairs own (part_core go place level) (λ p. Unit {0}) (λ bs. PartWithin bs level) (λ bs cs ext p c k. within-grown bs cs ext level p.depth deepest c k)
      (λ p u q k. gave-both (λ c v. Later own u v) (λ c v. Within v.bindings level p.depth deepest c) (go.form (site_at place level p.depth) p.form u) (nests.moves.form place level p.depth p.form u k.0) (nests.form place level p.depth p.form u k))
      ps s (nothing-asked ps) h

  -- the code of the match
  match-within : (bs : Bindings) (depth : ℕ) (vs : List PatternVariable) (x : PlainTemplate) (span : Span) (cs : List PlainCore) → depth + 2 ≤ most_round → Each (Within bs level (depth + 2) deepest) cs → Within bs level depth deepest (match_of vs x span cs)
  match-within bs depth vs x span cs room h =
      within-at bs level (depth + 2) (deepest + 2) depth deepest (match_of vs x span cs) (omega arith)
      (matching-within bs level (depth + 2) (deepest + 1) (deepest + 2) (omega arith) (omega (arith, room)) (call_of list_op cs) (only_clause (inserts_pattern vs) x span ∷ []) span
      (call-within bs level (depth + 2) deepest (deepest + 1) (omega arith) (omega (arith, room)) (primitive list_op) cs (alone-within bs level (depth + 2) deepest (primitive list_op) tt (omega (arith, room))) h)
      (record { fender = tt; output = alone-within bs level (depth + 2) (deepest + 1) (instance x span) tt (omega (arith, room)) }, tt))

  inserted-nests : (q : QuasiSyntax) (depth : ℕ) (cs : List PlainCore) (s : State) → Here own s → depth + 2 ≤ most_round → Each (Within s.bindings level (depth + 2) deepest) cs → Gave (λ c u. Within u.bindings level depth deepest c) (inserted place level t q cs s)
  unfolding inserted fresh_frame
  inserted-nests q depth cs s h room k =
      let f = as_frame s.names in
      gave-within (λ c u. Within u.bindings level depth deepest c) (λ u. after (fresh_frame u) (inserted_in place level t q cs)) s
      (gave-after (Labelled own (counted s)) (λ c u. Within u.bindings level depth deepest c) (insert_variables q.inserts (counted s)) _ (labelled own q.inserts (counted s) h.0)
      (λ vs u j. gave-after (λ x v. BindsInserts own f level (counted s) vs v) (λ c v. Within v.bindings level depth deepest c) (bind_inserts f place level vs u) _ (inserts-bound own f place level vs (counted s) u (labelled-patterned own (counted s) vs u j))
      (λ x v b. let adds = inserts-add own f level vs (counted s) v b in
      gave-after (IsTemplate place level (stamp f q.template) v) (λ c w. Within w.bindings level depth deepest c) (template_of place level (stamp f q.template) v) (λ y. give (match_of vs y (place_of t place) cs)) (template-is place level (stamp f q.template) v)
      (λ y w i. subst (λ (z : State). Within z.bindings level depth deepest (match_of vs y (place_of t place) cs)) (sym i.same)
      (match-within v.bindings depth vs y (place_of t place) cs room (all-grown s.bindings v.bindings adds.0.grows.bound level (depth + 2) deepest cs k))))))

  plain-nests : (q : QuasiSyntax) (depth : ℕ) (s : State) → depth ≤ most_round → Gave (λ c u. Within u.bindings level depth deepest c) (plain_instance place level t q s)
  plain-nests q depth s room =
      gave-after (λ x u. Unit {0}) (λ c u. Within u.bindings level depth deepest c) (template_of place level q.template s) (λ y. give (instance y (place_of t place))) (gave-any (λ x u. Unit {0}) (template_of place level q.template s) (λ x u. tt))
      (λ y u k. alone-within u.bindings level depth deepest (instance y (place_of t place)) tt (omega (arith, room)))

  syntax-nests : (q : QuasiSyntax) (is : List Insert) (depth : ℕ) (cs : List PlainCore) (s : State) → Here own s → Had (inserts_parts t depth is) s cs → Gave (λ c u. Within u.bindings level depth deepest c) (syntax_code place level t q cs is s)
  syntax-nests q [] depth cs s h k = plain-nests q depth s (made-room s.bindings level t depth [] cs (subst (λ (ps : List PartForm). Codes s.bindings level ps cs) (sym (append-nil (with_made t depth []))) (pairs-codes s.bindings level (with_made t depth []) cs k))).0
  syntax-nests q (i ∷ is) depth cs s h k =
      let two = deeper (deeper depth) in
      let some = map (insert_part two) (i ∷ is) in
      let room = (made-room s.bindings level t two some cs (pairs-codes s.bindings level (with_made t two [] ++ some) cs k)).0 in
      let one : deeper depth ≤ most_round = let up = deeper-up (deeper depth) in omega (arith, up, room) in
      let first = deeper-next (deeper depth) one in
      let second = deeper-next depth (let up = deeper-up depth in omega (arith, up, one)) in
      let is_two : two ≡ depth + 2 = omega (arith, first, second) in
      inserted-nests q depth cs s h (omega (arith, room, is_two)) (subst (λ d. Each (Within s.bindings level d deepest) cs) is_two (inserts-each s.bindings level two (i ∷ is) cs (unmade two some (nat_lt most_round two) refl room k)))
    where
      unmade : (two : ℕ) (some : List PartForm) (b : Bool) → nat_lt most_round two ≡ b → two ≤ most_round → Had ((if b then [] ++ part t two ∷ [] else []) ++ some) s cs → Had some s cs
      unmade two some true e room h = absurd (too-deep two e room)
      unmade two some false e room h = h

  code-nests : (q : QuasiForm) (depth : ℕ) (cs : List PlainCore) (s : State) → Here own s → Had (parts_of t depth q) s cs → Gave (λ c u. Within u.bindings level depth deepest c) (code_of place level t q cs s)
  code-nests (forms.Quote q) depth cs s h k =
      (filled-nests s.bindings level t q depth [] cs (subst (λ (ps : List PartForm). Codes s.bindings level ps cs) (sym (append-nil (quasi_parts t depth [] q))) (pairs-codes s.bindings level (quasi_parts t depth [] q) cs k))).0
  code-nests (forms.Syntax q) depth cs s h k = syntax-nests q q.inserts depth cs s h k

  pub quasi-nests : (depth : ℕ) (which : Family) (template : Tree) (s : State) → Here own s → Gave (λ c u. Within u.bindings level depth deepest c) (quasi_form go (site_at place level depth) (template_parts t which template) s)
  unfolding quasi_form
  quasi-nests depth which template s h =
      gave-after (λ q u. u ≡ s) (λ c u. Within u.bindings level depth deepest c) (form_of place t which template s) (quasi_made go (site_at place level depth) t) (form-same place t which template s)
      (λ q u e. subst (λ (v : State). Gave (λ c w. Within w.bindings level depth deepest c) (quasi_made go (site_at place level depth) t q v)) (sym e)
      (gave-after (λ cs v. Later own s v × Had (parts_of t depth q) v cs) (λ c v. Within v.bindings level depth deepest c) (parts_in_order go place level (parts_of t depth q) s) (code_of place level t q) (parts-nest (parts_of t depth q) s h)
      (λ cs v k. code-nests q depth cs v (here-later own s v h k.0) k.1)))
