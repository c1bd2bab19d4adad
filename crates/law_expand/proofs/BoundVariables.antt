-- The variables that core code binds are among its binders, and none comes twice where no binder does.
use Rattle.std.proofs.Common.{List, [], ◌∷◌, ◌++◌, sym, ◌∙◌, ap, subst, inl, inr, append_assoc}
use Rattle.std.specs.Prelude.{◌⊎◌}
use Rattle.std.specs.List.{flat_map}
use Rattle.std.proofs.lemmas.Grind.{flat_map-append}
use Rattle.base_data.proofs.ElementLemmas.{once-first, once-second, among-first, among-second, among-parts}
use Rattle.base_data.specs.Elements.{Among, Once}
use Rattle.base_data.specs.declared.name.Label.{Label}
use Rattle.core_language.specs.Core.{PlainCore, quoted, variable, primitive, one_armed, two_armed, assignment, sequence, procedure, letrec, call, instance, matching}
use Rattle.core_language.specs.Core.{PlainCores, none, more, PlainInits, no_init, init, PlainCases, no_case, case, PlainClauses, no_clause, clause, fended}
use Rattle.core_language.specs.References.{variables, formals_labels, binders, all_binders, init_binders, case_binders, clause_binders}
use Rattle.law_core.specs.Parts.{parts, all_parts, init_parts, case_parts, clause_parts, init_labels, case_labels, own_variables, bound_variables}
use Rattle.law_expand.proofs.Fresh.{Apart, once-append}

-- Parts of lists.

pub once-apart : {A : Type 0} (xs ys : List A) → Once (xs ++ ys) → Apart xs ys
once-apart [] ys h x a b = elim a [ ]
once-apart (y ∷ xs) ys h x (inl e) b = h.0 (among-second xs ys y (subst (Among ys) e b))
once-apart (y ∷ xs) ys h x (inr a) b = once-apart xs ys h.1 x a b

-- some labels are among others, and come once where those do
pub record IsWithin (ls ms : List Label) : Type 0 where
  pub among : (l : Label) → Among ls l → Among ms l
  pub once : Once ms → Once ls

within-none : (ms : List Label) → IsWithin [] ms
within-none ms = record { among = λ l a. elim a [ ]; once = λ h. tt }

within-both : (ls ms xs ys : List Label) → IsWithin ls xs → IsWithin ms ys → IsWithin (ls ++ ms) (xs ++ ys)
within-both ls ms xs ys h k = record {
  among = λ l a. by l (among-parts ls ms l a);
  once = λ o. once-append ls ms (h.once (once-first xs ys o)) (k.once (once-second xs ys o)) (λ l a b. once-apart xs ys o l (h.among l a) (k.among l b));
}
  where
    by : (l : Label) → Among ls l ⊎ Among ms l → Among (xs ++ ys) l
    by l (inl a) = among-first xs ys l (h.among l a)
    by l (inr a) = among-second xs ys l (k.among l a)

-- behind labels that bind nothing here
within-behind : (ls xs ys : List Label) → IsWithin ls ys → IsWithin ls (xs ++ ys)
within-behind ls xs ys h = record { among = λ l a. among-second xs ys l (h.among l a); once = λ o. h.once (once-second xs ys o) }

-- what each of these parts binds
abbrev pub of_parts : List PlainCore → List Label
of_parts ps = flat_map own_variables ps

parts-both : (ps qs : List PlainCore) (xs ys : List Label) → IsWithin (of_parts ps) xs → IsWithin (of_parts qs) ys → IsWithin (of_parts (ps ++ qs)) (xs ++ ys)
parts-both ps qs xs ys h k = subst (λ (ls : List Label). IsWithin ls (xs ++ ys)) (sym (flat_map-append own_variables ps qs)) (within-both (of_parts ps) (of_parts qs) xs ys h k)

-- labels and what parts bind, of what comes first and of what comes behind
turned : (ls ms xs ys gs hs : List Label) → IsWithin (ls ++ xs) gs → IsWithin (ms ++ ys) hs → IsWithin ((ls ++ ms) ++ (xs ++ ys)) (gs ++ hs)
turned ls ms xs ys gs hs h k = record {
  among = λ l a. by l (among-parts (ls ++ ms) (xs ++ ys) l a);
  once = λ o.
      let p = h.once (once-first gs hs o) in
      let q = k.once (once-second gs hs o) in
      let apart = once-apart gs hs o in
      once-append (ls ++ ms) (xs ++ ys)
      (once-append ls ms (once-first ls xs p) (once-first ms ys q) (λ l a b. apart l (h.among l (among-first ls xs l a)) (k.among l (among-first ms ys l b))))
      (once-append xs ys (once-second ls xs p) (once-second ms ys q) (λ l a b. apart l (h.among l (among-second ls xs l a)) (k.among l (among-second ms ys l b))))
      (λ l a b. cross o l (among-parts ls ms l a) (among-parts xs ys l b));
}
  where
    labels : (l : Label) → Among ls l ⊎ Among ms l → Among (gs ++ hs) l
    labels l (inl a) = among-first gs hs l (h.among l (among-first ls xs l a))
    labels l (inr a) = among-second gs hs l (k.among l (among-first ms ys l a))

    others : (l : Label) → Among xs l ⊎ Among ys l → Among (gs ++ hs) l
    others l (inl a) = among-first gs hs l (h.among l (among-second ls xs l a))
    others l (inr a) = among-second gs hs l (k.among l (among-second ms ys l a))

    by : (l : Label) → Among (ls ++ ms) l ⊎ Among (xs ++ ys) l → Among (gs ++ hs) l
    by l (inl a) = labels l (among-parts ls ms l a)
    by l (inr a) = others l (among-parts xs ys l a)

    cross : Once (gs ++ hs) → (l : Label) → Among ls l ⊎ Among ms l → Among xs l ⊎ Among ys l → ⊥
    cross o l (inl a) (inl b) = once-apart ls xs (h.once (once-first gs hs o)) l a b
    cross o l (inl a) (inr b) = once-apart gs hs o l (h.among l (among-first ls xs l a)) (k.among l (among-second ms ys l b))
    cross o l (inr a) (inl b) = once-apart gs hs o l (h.among l (among-second ls xs l b)) (k.among l (among-first ms ys l a))
    cross o l (inr a) (inr b) = once-apart ms ys (k.once (once-second gs hs o)) l a b

same : (ls : List Label) → IsWithin ls ls
same ls = record { among = λ l a. a; once = λ o. o }

mutual
  pub variables-within : (c : PlainCore) → IsWithin (bound_variables c) (binders c)
  variables-within (quoted d) = within-none []
  variables-within (variable l) = within-none []
  variables-within (primitive o) = within-none []
  variables-within (one_armed c d) = parts-both (parts c) (parts d) (binders c) (binders d) (variables-within c) (variables-within d)
  variables-within (two_armed c d e) =
      parts-both (parts c) (parts d ++ parts e) (binders c) (binders d ++ binders e) (variables-within c) (parts-both (parts d) (parts e) (binders d) (binders e) (variables-within d) (variables-within e))
  variables-within (assignment l c) = variables-within c
  variables-within (sequence cs) = all-within cs
  variables-within (procedure n cs p) = cases-within cs
  variables-within (letrec o is c) =
      subst (λ (ls : List Label). IsWithin ls (init_binders is ++ binders c)) (append_assoc (init_labels is) (of_parts (init_parts is)) (of_parts (parts c)) ∙ ap (λ ls. init_labels is ++ ls) (sym (flat_map-append own_variables (init_parts is) (parts c))))
      (within-both (init_labels is ++ of_parts (init_parts is)) (of_parts (parts c)) (init_binders is) (binders c) (inits-within is) (variables-within c))
  variables-within (call c cs) = parts-both (parts c) (all_parts cs) (binders c) (all_binders cs) (variables-within c) (all-within cs)
  variables-within (instance t s) = within-none []
  variables-within (matching c cs s) = parts-both (parts c) (clause_parts cs) (binders c) (clause_binders cs) (variables-within c) (clauses-within cs)

  all-within : (cs : PlainCores) → IsWithin (of_parts (all_parts cs)) (all_binders cs)
  all-within none = within-none []
  all-within (more c cs) = parts-both (parts c) (all_parts cs) (binders c) (all_binders cs) (variables-within c) (all-within cs)

  inits-within : (is : PlainInits) → IsWithin (init_labels is ++ of_parts (init_parts is)) (init_binders is)
  inits-within no_init = within-none []
  inits-within (init l c is) =
      subst (λ (ls : List Label). IsWithin (l ∷ (init_labels is ++ ls)) (l ∷ (binders c ++ init_binders is))) (sym (flat_map-append own_variables (parts c) (init_parts is)))
      (turned (l ∷ []) (init_labels is) (of_parts (parts c)) (of_parts (init_parts is)) (l ∷ binders c) (init_binders is) (within-both (l ∷ []) (of_parts (parts c)) (l ∷ []) (binders c) (same (l ∷ [])) (variables-within c)) (inits-within is))

  cases-within : (cs : PlainCases) → IsWithin (case_labels cs ++ of_parts (case_parts cs)) (case_binders cs)
  cases-within no_case = within-none []
  cases-within (case f c cs) =
      subst (λ (ls : List Label). IsWithin ((formals_labels f ++ case_labels cs) ++ ls) (formals_labels f ++ (binders c ++ case_binders cs))) (sym (flat_map-append own_variables (parts c) (case_parts cs)))
      (subst (λ (ls : List Label). IsWithin ((formals_labels f ++ case_labels cs) ++ (of_parts (parts c) ++ of_parts (case_parts cs))) ls) (append_assoc (formals_labels f) (binders c) (case_binders cs))
      (turned (formals_labels f) (case_labels cs) (of_parts (parts c)) (of_parts (case_parts cs)) (formals_labels f ++ binders c) (case_binders cs)
      (within-both (formals_labels f) (of_parts (parts c)) (formals_labels f) (binders c) (same (formals_labels f)) (variables-within c)) (cases-within cs)))

  clauses-within : (cs : PlainClauses) → IsWithin (of_parts (clause_parts cs)) (clause_binders cs)
  clauses-within no_clause = within-none []
  clauses-within (clause p c cs) =
      within-behind (of_parts (parts c ++ clause_parts cs)) (variables p) (binders c ++ clause_binders cs) (parts-both (parts c) (clause_parts cs) (binders c) (clause_binders cs) (variables-within c) (clauses-within cs))
  clauses-within (fended p f c cs) =
      within-behind (of_parts (parts f ++ (parts c ++ clause_parts cs))) (variables p) (binders f ++ (binders c ++ clause_binders cs))
      (parts-both (parts f) (parts c ++ clause_parts cs) (binders f) (binders c ++ clause_binders cs) (variables-within f) (parts-both (parts c) (clause_parts cs) (binders c) (clause_binders cs) (variables-within c) (clauses-within cs)))

pub once-within : (ls ms xs ys : List Label) → IsWithin ls xs → IsWithin ms ys → IsWithin (ls ++ ms) (xs ++ ys)
once-within = within-both

pub same-within : (ls : List Label) → IsWithin ls ls
same-within ls = same ls
