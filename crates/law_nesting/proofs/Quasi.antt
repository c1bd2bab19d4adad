-- `quasiquote` and `quasisyntax` forms nest as deep as they may: the forms that they make count in the depth.
use Rattle.std.proofs.Common.{◌≡◌, ℕ, ◌+◌, ◌*◌, ◌≤◌, Bool, true, false, List, [], ◌∷◌, ◌++◌, map, refl, sym, ◌∙◌, ap, subst, arith, append-nil, append_assoc, if◌then◌else◌}
use Rattle.std.specs.Prelude.{nat_lt}
use Rattle.base_data.proofs.ElementLemmas.{each-append}
use Rattle.base_data.specs.Act.{after, give}
use Rattle.base_data.specs.Elements.{Each}
use Rattle.base_data.specs.declared.op.Op.{Op}
use Rattle.base_data.specs.declared.span.Span.{Span}
use Rattle.stx_tree.specs.Changes.{stamp}
use Rattle.stx_tree.specs.Leaves.{strip}
use Rattle.stx_tree.specs.Tree.{Tree}
use Rattle.core_language.specs.Core.{PlainCore, primitive, instance}
use Rattle.core_language.specs.Template.{PlainTemplate}
use Rattle.eval_pattern.specs.declared.compile.PatternVariable.{PatternVariable}
use Rattle.core_quasi.specs.Plan.{PlainQuasi, PlainQuasis, constant, expression, none, more}
use Rattle.core_quasi.specs.Plan as quasi
use Rattle.core_quasi.specs.declared.quasi_syntax.Insert.{Insert}
use Rattle.core_quasi.specs.declared.quasi_syntax.QuasiSyntax.{QuasiSyntax}
use Rattle.core_quasi.specs.declared.word.Family.{Family}
use Rattle.expand_quasi.specs.Filled.{op_of, call_of, next_code, filled, all_filled}
use Rattle.expand_quasi.specs.Form.{form_of, parts_of, code_of}
use Rattle.expand_quasi.specs.Inserted.{insert_variables, inserts_pattern, list_op, only_clause, match_of, bind_inserts, inserted_in, inserted, plain_instance, syntax_code}
use Rattle.expand_quasi.specs.Parts.{part, with_made, quasi_parts, all_quasi_parts, insert_part, inserts_parts}
use Rattle.expand_quasi.specs.declared.form.QuasiForm.{QuasiForm}
use Rattle.expand_quasi.specs.declared.form.QuasiForm.TheVariants as forms
use Rattle.expand_quasi.specs.declared.parts.PartForm.{PartForm}
use Rattle.core_shapes.specs.At.{place_of}
use Rattle.expand_standing.specs.Patterns.{template_of}
use Rattle.expand_standing.specs.State.{State, fresh_frame}
use Rattle.expand_heads.specs.Depth.{deeper, most_round}
use Rattle.expand_forms.specs.Inside.{Inside}
use Rattle.expand_forms.specs.Quasi.{part_core, parts_in_order, quasi_made, quasi_form}
use Rattle.expand_forms.specs.Site.{site_at}
use Rattle.expand_forms.specs.Forms.{template_parts}
use Rattle.law_expand.proofs.Acts.{Gave, gave-after, gave-any, gave-less, gave-within}
use Rattle.law_expand.proofs.Naming.{as_frame, counted}
use Rattle.law_expand.proofs.Nesting.{not-deep, too-deep, deeper-next, deeper-up}
use Rattle.law_expand.proofs.NestingBinding.{Pairs}
use Rattle.law_expand.proofs.NestingQuasi.{more-all}
use Rattle.law_nesting.specs.Heights.{Between, height_with}
use Rattle.law_nesting.specs.Nesting.{deepest, IsAtMostText}
use Rattle.law_nesting.proofs.Bodies.{Nests, gave-all}
use Rattle.law_nesting.proofs.Heights.{Low, some-height, low-at, call-low, matching-low}

module _ (between : Between) (few : IsAtMostText between) where
  -- the code of a part, and the first codes where they are those of these parts
  abbrev LowPart : PartForm → PlainCore → Type 0
  LowPart p c = Low between few p.depth deepest c

  abbrev Codes : List PartForm → List PlainCore → Type 0
  Codes [] cs = Unit {0}
  Codes (p ∷ ps) [] = ⊥
  Codes (p ∷ ps) (c ∷ cs) = LowPart p c × Codes ps cs

  -- a part that has a code isn't too deep
  part-room : (depth : ℕ) (c : PlainCore) → Low between few depth deepest c → depth ≤ most_round
  part-room depth c low = let some = some-height between few c in omega (arith, low, some)

  made-room : (t : Tree) (depth : ℕ) (rest : List PartForm) (cs : List PlainCore) → Codes (with_made t depth [] ++ rest) cs → (depth ≤ most_round) × Codes rest cs
  made-room t depth rest cs h = by (nat_lt most_round depth) refl cs h
    where
      by : (b : Bool) → nat_lt most_round depth ≡ b → (ds : List PlainCore) → Codes ((if b then [] ++ part t depth ∷ [] else []) ++ rest) ds → (depth ≤ most_round) × Codes rest ds
      by true e [] k = elim k [ ]
      by true e (d ∷ ds) k = absurd (too-deep depth e (part-room depth d k.0))
      by false e ds k = (not-deep depth e, k)

  -- The code of a plan.

  module _ (t : Tree) where
    -- the code that comes, and the codes of the parts behind
    abbrev Comes : ℕ → List PartForm → PlainCore × List PlainCore → Type 0
    Comes depth rest p = Low between few depth deepest p.0 × Codes rest p.1

    abbrev AllCome : ℕ → List PartForm → List PlainCore × List PlainCore → Type 0
    AllCome depth rest p = Each (Low between few depth deepest) p.0 × Codes rest p.1

    next-nests : (x : Tree) (depth : ℕ) (rest : List PartForm) (cs : List PlainCore) → Codes (part x depth ∷ rest) cs → Comes depth rest (next_code x cs)
    next-nests x depth rest [] h = elim h [ ]
    next-nests x depth rest (c ∷ cs) h = h

    calls : (o : Op) (depth : ℕ) (cs : List PlainCore) → deeper depth ≤ most_round → Each (Low between few (deeper depth) deepest) cs → Low between few depth deepest (call_of o cs)
    calls o depth cs room h =
        let up = deeper-up depth in
        let next = deeper-next depth (omega (arith, up, room)) in
        low-at between few (deeper depth) (deepest + 1) depth deepest (call_of o cs) (omega (arith, next))
        (call-low between few (deeper depth) deepest (deepest + 1) (omega arith) (omega (arith, room)) (primitive o) cs (omega (arith, room)) h)

    mutual
      filled-nests : (q : PlainQuasi) (depth : ℕ) (rest : List PartForm) (cs : List PlainCore) → Codes (quasi_parts t depth [] q ++ rest) cs → Comes depth rest (filled q cs)
      filled-nests (constant c) depth rest cs h = let k = made-room t depth rest cs h in (let room = k.0 in omega (arith, room), k.1)
      filled-nests (expression e) depth rest cs h = next-nests e depth rest cs h
      filled-nests (quasi.call m qs) depth rest cs h =
          let inner = all_quasi_parts t (deeper depth) [] qs in
          let k = made-room t (deeper depth) (inner ++ rest) cs
          (subst (λ (ps : List PartForm). Codes ps cs) (ap (λ ps. ps ++ rest) (more-all t (deeper depth) (with_made t (deeper depth) []) qs) ∙ append_assoc (with_made t (deeper depth) []) inner rest) h) in
          let j = all-nest qs (deeper depth) [] rest cs k.1 tt in
          (calls (op_of m) depth (all_filled [] qs cs).0 k.0 j.0, j.1)

      all-nest : (qs : PlainQuasis) (depth : ℕ) (done : List PlainCore) (rest : List PartForm) (cs : List PlainCore) → Codes (all_quasi_parts t depth [] qs ++ rest) cs → Each (Low between few depth deepest) done
          → AllCome depth rest (all_filled done qs cs)
      all-nest none depth done rest cs h k = (k, h)
      all-nest (more q qs) depth done rest cs h k =
          let inner = all_quasi_parts t depth [] qs in
          let j = filled-nests q depth (inner ++ rest) cs
          (subst (λ (ps : List PartForm). Codes ps cs) (ap (λ ps. ps ++ rest) (more-all t depth (quasi_parts t depth [] q) qs) ∙ append_assoc (quasi_parts t depth [] q) inner rest) h) in
          all-nest qs depth (done ++ (filled q cs).0 ∷ []) rest (filled q cs).1 j.1 (each-append (Low between few depth deepest) done ((filled q cs).0 ∷ []) k (j.0, tt))

  pairs-codes : (ps : List PartForm) (cs : List PlainCore) → Pairs LowPart ps cs → Codes ps cs
  pairs-codes [] cs h = tt
  pairs-codes (p ∷ ps) [] h = elim h [ ]
  pairs-codes (p ∷ ps) (c ∷ cs) h = (h.0, pairs-codes ps cs h.1)

  -- the inserts stand two deeper than the form
  inserts-each : (depth : ℕ) (is : List Insert) (cs : List PlainCore) → Pairs LowPart (map (insert_part depth) is) cs → Each (Low between few depth deepest) cs
  inserts-each depth [] [] h = tt
  inserts-each depth [] (c ∷ cs) h = elim h [ ]
  inserts-each depth (i ∷ is) [] h = tt
  inserts-each depth (i ∷ is) (c ∷ cs) h = (h.0, inserts-each depth is cs h.1)

  module _ (go : Inside) (nests : Nests between few go) (place : Span) (level : ℕ) (t : Tree) where
    parts-nest : (ps : List PartForm) (s : State) → Gave (λ cs u. Pairs LowPart ps cs) (parts_in_order go place level ps s)
    parts-nest ps s = gave-all (part_core go place level) LowPart (λ p u. nests.form place level p.depth p.form u) ps s

    -- the code of the match
    match-low : (depth : ℕ) (vs : List PatternVariable) (x : PlainTemplate) (span : Span) (cs : List PlainCore) → depth + 2 ≤ most_round → Each (Low between few (depth + 2) deepest) cs → Low between few depth deepest (match_of vs x span cs)
    match-low depth vs x span cs room h =
        low-at between few (depth + 2) (deepest + 2) depth deepest (match_of vs x span cs) (omega arith)
        (matching-low between few (depth + 2) (deepest + 1) (deepest + 2) (omega arith) (omega (arith, room)) (call_of list_op cs) (only_clause (inserts_pattern vs) x span ∷ []) span
        (call-low between few (depth + 2) deepest (deepest + 1) (omega arith) (omega (arith, room)) (primitive list_op) cs (omega (arith, room)) h)
        (record { fender = tt; output = omega (arith, room) }, tt))

    inserted-nests : (q : QuasiSyntax) (depth : ℕ) (cs : List PlainCore) (s : State) → depth + 2 ≤ most_round → Each (Low between few (depth + 2) deepest) cs → Gave (λ c u. Low between few depth deepest c) (inserted place level t q cs s)
    unfolding inserted fresh_frame
    inserted-nests q depth cs s room k =
        let f = as_frame s.names in
        gave-within (λ c u. Low between few depth deepest c) (λ u. after (fresh_frame u) (inserted_in place level t q cs)) s
        (gave-after (λ vs u. Unit {0}) (λ c u. Low between few depth deepest c) (insert_variables q.inserts (counted s)) _ (gave-any (λ vs u. Unit {0}) (insert_variables q.inserts (counted s)) (λ vs u. tt))
        (λ vs u j. gave-after (λ x v. Unit {0}) (λ c v. Low between few depth deepest c) (bind_inserts f place level vs u) _ (gave-any (λ x v. Unit {0}) (bind_inserts f place level vs u) (λ x v. tt))
        (λ x v b. gave-after (λ y w. Unit {0}) (λ c w. Low between few depth deepest c) (template_of place level (stamp f q.template) v) (λ y. give (match_of vs y (place_of t place) cs)) (gave-any (λ y w. Unit {0}) (template_of place level (stamp f q.template) v) (λ y w. tt))
        (λ y w i. match-low depth vs y (place_of t place) cs room k))))

    plain-nests : (q : QuasiSyntax) (depth : ℕ) (s : State) → depth ≤ most_round → Gave (λ c u. Low between few depth deepest c) (plain_instance place level t q s)
    plain-nests q depth s room =
        gave-after (λ x u. Unit {0}) (λ c u. Low between few depth deepest c) (template_of place level q.template s) (λ y. give (instance y (place_of t place))) (gave-any (λ x u. Unit {0}) (template_of place level q.template s) (λ x u. tt))
        (λ y u k. omega (arith, room))

    syntax-nests : (q : QuasiSyntax) (is : List Insert) (depth : ℕ) (cs : List PlainCore) (s : State) → Pairs LowPart (inserts_parts t depth is) cs → Gave (λ c u. Low between few depth deepest c) (syntax_code place level t q cs is s)
    syntax-nests q [] depth cs s k = plain-nests q depth s (made-room t depth [] cs (subst (λ (ps : List PartForm). Codes ps cs) (sym (append-nil (with_made t depth []))) (pairs-codes (with_made t depth []) cs k))).0
    syntax-nests q (i ∷ is) depth cs s k =
        let two = deeper (deeper depth) in
        let some = map (insert_part two) (i ∷ is) in
        let room = (made-room t two some cs (pairs-codes (with_made t two [] ++ some) cs k)).0 in
        let one : deeper depth ≤ most_round = let up = deeper-up (deeper depth) in omega (arith, up, room) in
        let first = deeper-next (deeper depth) one in
        let second = deeper-next depth (let up = deeper-up depth in omega (arith, up, one)) in
        let is_two : two ≡ depth + 2 = omega (arith, first, second) in
        inserted-nests q depth cs s (omega (arith, room, is_two)) (subst (λ d. Each (Low between few d deepest) cs) is_two (inserts-each two (i ∷ is) cs (unmade two some (nat_lt most_round two) refl room k)))
      where
        unmade : (two : ℕ) (some : List PartForm) (b : Bool) → nat_lt most_round two ≡ b → two ≤ most_round → Pairs LowPart ((if b then [] ++ part t two ∷ [] else []) ++ some) cs → Pairs LowPart some cs
        unmade two some true e room h = absurd (too-deep two e room)
        unmade two some false e room h = h

    code-nests : (q : QuasiForm) (depth : ℕ) (cs : List PlainCore) (s : State) → Pairs LowPart (parts_of t depth q) cs → Gave (λ c u. Low between few depth deepest c) (code_of place level t q cs s)
    code-nests (forms.Quote q) depth cs s k =
        (filled-nests t q depth [] cs (subst (λ (ps : List PartForm). Codes ps cs) (sym (append-nil (quasi_parts t depth [] q))) (pairs-codes (quasi_parts t depth [] q) cs k))).0
    code-nests (forms.Syntax q) depth cs s k = syntax-nests q q.inserts depth cs s k

    pub quasi-nests : (depth : ℕ) (which : Family) (template : Tree) (s : State) → Gave (λ c u. Low between few depth deepest c) (quasi_form go (site_at place level depth) (template_parts t which template) s)
    unfolding quasi_form
    quasi-nests depth which template s =
        gave-after (λ q u. Unit {0}) (λ c u. Low between few depth deepest c) (form_of place t which template s) (quasi_made go (site_at place level depth) t) (gave-any (λ q u. Unit {0}) (form_of place t which template s) (λ q u. tt))
        (λ q u e. gave-after (λ cs v. Pairs LowPart (parts_of t depth q) cs) (λ c v. Low between few depth deepest c) (parts_in_order go place level (parts_of t depth q) u) (code_of place level t q) (parts-nest (parts_of t depth q) u)
        (λ cs v k. code-nests q depth cs v k))
