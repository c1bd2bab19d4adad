-- What closed core code mentions and doesn't bind is given.
use Rattle.std.proofs.Common.{◌≡◌, Bool, true, false, List, [], ◌∷◌, ◌++◌, cond, refl, sym, ap, ◌∙◌, inl, inr}
use Rattle.std.specs.Prelude.{◌||◌, ◌⊎◌, not}
use Rattle.base_data.specs.Elements.{Each, Among}
use Rattle.base_data.specs.declared.name.Label.{Label}
use Rattle.core_language.specs.Core.{PlainCore, quoted, variable, primitive, one_armed, two_armed, assignment, sequence, procedure, letrec, call, instance, matching}
use Rattle.core_language.specs.Core.{PlainCores, none, more, PlainInits, no_init, init, PlainCases, no_case, case, PlainClauses, no_clause, clause, fended}
use Rattle.core_language.specs.Labels.{same_label, has_label, with_label, with_labels, without}
use Rattle.core_language.specs.References.{variables, formals_labels, binders, all_binders, init_binders, case_binders, clause_binders}
use Rattle.core_language.specs.References.{mentions, all_mentions, init_mentions, case_mentions, clause_mentions}
use Rattle.law_core.specs.Parts.{init_labels}
use Rattle.law_core.specs.Scope.{Closed, AllClosed, InitsClosed, CasesClosed, ClausesClosed}
use Rattle.law_core.specs.Given.{ReferencesAreGiven}
use Rattle.law_core.proofs.Decisions.{label_decides}

-- all of the first are among the second
abbrev pub Within : List Label → List Label → Type 0
Within xs ys = (l : Label) → Among xs l → Among ys l

pub among_left : (xs ys : List Label) → Within xs (xs ++ ys)
among_left (x ∷ xs) ys l (inl e) = inl e
among_left (x ∷ xs) ys l (inr a) = inr (among_left xs ys l a)
among_left [] ys l a = elim a [ ]

pub among_right : (xs ys : List Label) → Within ys (xs ++ ys)
among_right [] ys l a = a
among_right (x ∷ xs) ys l a = inr (among_right xs ys l a)

among_parts : (xs ys : List Label) (l : Label) → Among (xs ++ ys) l → Among xs l ⊎ Among ys l
among_parts [] ys l a = inr a
among_parts (x ∷ xs) ys l (inl e) = inl (inl e)
among_parts (x ∷ xs) ys l (inr a) = later (among_parts xs ys l a) where
  later : Among xs l ⊎ Among ys l → Among (x ∷ xs) l ⊎ Among ys l
  later (inl b) = inl (inr b)
  later (inr b) = inr b

left : (xs ys B : List Label) → Within (xs ++ ys) B → Within xs B
left xs ys B w l a = w l (among_left xs ys l a)

right : (xs ys B : List Label) → Within (xs ++ ys) B → Within ys B
right xs ys B w l a = w l (among_right xs ys l a)

pub joined : (xs ys B : List Label) → Within xs B → Within ys B → Within (xs ++ ys) B
joined xs ys B u w l a = by (among_parts xs ys l a) where
  by : Among xs l ⊎ Among ys l → Among B l
  by (inl b) = u l b
  by (inr b) = w l b

each_append : (P : Label → Type 0) (xs ys : List Label) → Each P xs → Each P ys → Each P (xs ++ ys)
each_append P [] ys h k = k
each_append P (x ∷ xs) ys h k = (h.0, each_append P xs ys h.1 k)

-- the variables of a letrec are among what it binds
inits_bound : (is : PlainInits) → Within (init_labels is) (init_binders is)
inits_bound no_init l a = a
inits_bound (init m c is) l (inl e) = inl e
inits_bound (init m c is) l (inr a) = inr (among_right (binders c) (init_binders is) l (inits_bound is l a))

-- where what core code binds and what is given are among some labels, so is what it mentions
module _ (B : List Label) where
  mutual
    mentions_within : (ls : List Label) (c : PlainCore) → Within ls B → Within (binders c) B → Closed ls c → Each (Among B) (mentions c)
    mentions_within ls (quoted d) g w h = tt
    mentions_within ls (variable l) g w h = (g l h, tt)
    mentions_within ls (primitive o) g w h = tt
    mentions_within ls (one_armed c d) g w h =
        each_append (Among B) (mentions c) (mentions d) (mentions_within ls c g (left (binders c) (binders d) B w) h.0) (mentions_within ls d g (right (binders c) (binders d) B w) h.1)
    mentions_within ls (two_armed c d e) g w h =
        let v = right (binders c) (binders d ++ binders e) B w in
        each_append (Among B) (mentions c) (mentions d ++ mentions e) (mentions_within ls c g (left (binders c) (binders d ++ binders e) B w) h.0)
        (each_append (Among B) (mentions d) (mentions e) (mentions_within ls d g (left (binders d) (binders e) B v) h.1.0) (mentions_within ls e g (right (binders d) (binders e) B v) h.1.1))
    mentions_within ls (assignment l c) g w h = (g l h.0, mentions_within ls c g w h.1)
    mentions_within ls (sequence cs) g w h = all_within ls cs g w h
    mentions_within ls (procedure n cs p) g w h = cases_within ls cs g w h
    mentions_within ls (letrec o is c) g w h =
        let here = left (init_binders is) (binders c) B w in
        let there = joined (init_labels is) ls B (λ l a. here l (inits_bound is l a)) g in
        each_append (Among B) (init_mentions is) (mentions c) (inits_within (init_labels is ++ ls) is there here h.0)
        (mentions_within (init_labels is ++ ls) c there (right (init_binders is) (binders c) B w) h.1)
    mentions_within ls (call c cs) g w h =
        each_append (Among B) (mentions c) (all_mentions cs) (mentions_within ls c g (left (binders c) (all_binders cs) B w) h.0) (all_within ls cs g (right (binders c) (all_binders cs) B w) h.1)
    mentions_within ls (instance t s) g w h = tt
    mentions_within ls (matching c cs s) g w h =
        each_append (Among B) (mentions c) (clause_mentions cs) (mentions_within ls c g (left (binders c) (clause_binders cs) B w) h.0)
        (clauses_within ls cs g (right (binders c) (clause_binders cs) B w) h.1)

    all_within : (ls : List Label) (cs : PlainCores) → Within ls B → Within (all_binders cs) B → AllClosed ls cs → Each (Among B) (all_mentions cs)
    all_within ls none g w h = tt
    all_within ls (more c cs) g w h =
        each_append (Among B) (mentions c) (all_mentions cs) (mentions_within ls c g (left (binders c) (all_binders cs) B w) h.0) (all_within ls cs g (right (binders c) (all_binders cs) B w) h.1)

    inits_within : (ls : List Label) (is : PlainInits) → Within ls B → Within (init_binders is) B → InitsClosed ls is → Each (Among B) (init_mentions is)
    inits_within ls no_init g w h = tt
    inits_within ls (init l c is) g w h =
        let v : Within (binders c ++ init_binders is) B = λ m a. w m (inr a) in
        each_append (Among B) (mentions c) (init_mentions is) (mentions_within ls c g (left (binders c) (init_binders is) B v) h.0) (inits_within ls is g (right (binders c) (init_binders is) B v) h.1)

    cases_within : (ls : List Label) (cs : PlainCases) → Within ls B → Within (case_binders cs) B → CasesClosed ls cs → Each (Among B) (case_mentions cs)
    cases_within ls no_case g w h = tt
    cases_within ls (case f c cs) g w h =
        let v = right (formals_labels f) (binders c ++ case_binders cs) B w in
        let there = joined (formals_labels f) ls B (left (formals_labels f) (binders c ++ case_binders cs) B w) g in
        each_append (Among B) (mentions c) (case_mentions cs) (mentions_within (formals_labels f ++ ls) c there (left (binders c) (case_binders cs) B v) h.0)
        (cases_within ls cs g (right (binders c) (case_binders cs) B v) h.1)

    clauses_within : (ls : List Label) (cs : PlainClauses) → Within ls B → Within (clause_binders cs) B → ClausesClosed ls cs → Each (Among B) (clause_mentions cs)
    clauses_within ls no_clause g w h = tt
    clauses_within ls (clause p c cs) g w h =
        let v = right (variables p) (binders c ++ clause_binders cs) B w in
        let there = joined (variables p) ls B (left (variables p) (binders c ++ clause_binders cs) B w) g in
        each_append (Among B) (mentions c) (clause_mentions cs) (mentions_within (variables p ++ ls) c there (left (binders c) (clause_binders cs) B v) h.0)
        (clauses_within ls cs g (right (binders c) (clause_binders cs) B v) h.1)
    clauses_within ls (fended p f c cs) g w h =
        let v = right (variables p) (binders f ++ (binders c ++ clause_binders cs)) B w in
        let u = right (binders f) (binders c ++ clause_binders cs) B v in
        let there = joined (variables p) ls B (left (variables p) (binders f ++ (binders c ++ clause_binders cs)) B w) g in
        each_append (Among B) (mentions f) (mentions c ++ clause_mentions cs) (mentions_within (variables p ++ ls) f there (left (binders f) (binders c ++ clause_binders cs) B v) h.0)
        (each_append (Among B) (mentions c) (clause_mentions cs) (mentions_within (variables p ++ ls) c there (left (binders c) (clause_binders cs) B u) h.1.0)
        (clauses_within ls cs g (right (binders c) (clause_binders cs) B u) h.1.1))

-- labels that come but once
each_with : (P : Label → Type 0) (ls : List Label) (m : Label) → Each P ls → P m → Each P (with_label ls m)
each_with P ls m h k = by (has_label ls m) where
  by : (b : Bool) → Each P (cond b ls (ls ++ m ∷ []))
  by true = h
  by false = each_append P ls (m ∷ []) h (k, tt)

each_with_all : (P : Label → Type 0) (ls ms : List Label) → Each P ls → Each P ms → Each P (with_labels ls ms)
each_with_all P ls [] h k = h
each_with_all P ls (m ∷ ms) h k = each_with_all P (with_label ls m) ms (each_with P ls m h k.0) k.1

-- what is among labels is found there
found : (ls : List Label) (l : Label) → Among ls l → has_label ls l ≡ true
found [] l a = elim a [ ]
found (m ∷ ms) l (inl e) = ap (λ b. b || has_label ms l) ((label_decides l m).1 e)
found (m ∷ ms) l (inr a) = ap (λ b. same_label l m || b) (found ms l a) ∙ or_true (same_label l m) where
  or_true : (b : Bool) → (b || true) ≡ true
  or_true true = refl
  or_true false = refl

not_found : (bs ls : List Label) (l : Label) → has_label bs l ≡ false → Among (bs ++ ls) l → Among ls l
not_found bs ls l e a = by (among_parts bs ls l a) where
  by : Among bs l ⊎ Among ls l → Among ls l
  by (inl b) = let both : true ≡ false = sym (found bs l b) ∙ e in absurd (cc)
  by (inr b) = b

each_without : (bs ls ms : List Label) → Each (Among (bs ++ ls)) ms → Each (Among ls) (without bs ms)
each_without bs ls [] h = tt
each_without bs ls (m ∷ ms) h = by (has_label bs m) refl (each_without bs ls ms h.1) where
  by : (b : Bool) → has_label bs m ≡ b → Each (Among ls) (without bs ms) → Each (Among ls) (cond (not b) (m ∷ without bs ms) (without bs ms))
  by true e others = others
  by false e others = (not_found bs ls m e h.0, others)

pub references_given : ReferencesAreGiven
references_given ls c h =
    let all = mentions_within (binders c ++ ls) ls c (among_right (binders c) ls) (among_left (binders c) ls) h in
    each_without (binders c) ls (with_labels [] (mentions c)) (each_with_all (Among (binders c ++ ls)) [] (mentions c) tt all)
