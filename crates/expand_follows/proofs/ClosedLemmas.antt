-- Code that is closed under labels is so under the same labels in another order.
use Rattle.std.proofs.Common.{◌≡◌, Bool, true, false, List, [], ◌∷◌, ◌++◌, refl, sym, ap, ◌∙◌}
use Rattle.std.specs.Prelude.{◌&&◌, ◌||◌, Option, None, Some}
use Rattle.base_data.specs.declared.name.Label.{Label}
use Rattle.core_language.specs.Core.{PlainCore, quoted, variable, primitive, one_armed, two_armed, assignment, sequence, procedure, letrec, call, instance, matching}
use Rattle.core_language.specs.Core.{PlainCores, none, more, PlainInits, no_init, init, PlainCases, no_case, case, PlainClauses, no_clause, clause, fended}
use Rattle.core_language.specs.CoreView.{clauses}
use Rattle.core_language.specs.Labels.{same_label, with_labels}
use Rattle.core_language.specs.References.{variables, formals_labels}
use Rattle.core_language.specs.declared.code.Clause.{Clause}
use Rattle.law_core.specs.Parts.{init_labels}
use Rattle.law_core.specs.Scope.{closed, all_closed, inits_closed, cases_closed, clauses_closed, template_labels}
use Rattle.law_core.specs.Words.{among, each}
use Rattle.core_well_made.proofs.Sets.{among_joined, among_with, and_both}
use Rattle.expand_follows.specs.Scope.{SameAmong, output_closed}

or_three : (a b c : Bool) → ((a || b) || c) ≡ (b || (a || c))
or_three true true c = refl
or_three true false c = refl
or_three false true c = refl
or_three false false c = refl

-- what comes into scope
inside : (ks fs ts : List Label) → SameAmong (with_labels ks fs ++ ts) (fs ++ (ks ++ ts))
inside ks fs ts l =
    among_joined (with_labels ks fs) ts l ∙ ap (λ b. b || among same_label ts l) (among_with ks fs l)
    ∙ or_three (among same_label ks l) (among same_label fs l) (among same_label ts l)
    ∙ ap (λ b. among same_label fs l || b) (sym (among_joined ks ts l)) ∙ sym (among_joined fs (ks ++ ts) l)

behind : (xs ls ms : List Label) → SameAmong ls ms → SameAmong (xs ++ ls) (xs ++ ms)
behind xs ls ms h l = among_joined xs ls l ∙ ap (λ b. among same_label xs l || b) (h l) ∙ sym (among_joined xs ms l)

each_same : (ls ms xs : List Label) → SameAmong ls ms → each (among same_label ls) xs ≡ each (among same_label ms) xs
each_same ls ms xs h = λ i. each (λ l. h l i) xs

-- ---- closed code

mutual
  pub same_closed : (ls ms : List Label) → SameAmong ls ms → (c : PlainCore) → closed ls c ≡ closed ms c
  same_closed ls ms h (quoted d) = refl
  same_closed ls ms h (variable l) = h l
  same_closed ls ms h (primitive o) = refl
  same_closed ls ms h (one_armed c d) = and_both (same_closed ls ms h c) (same_closed ls ms h d)
  same_closed ls ms h (two_armed c d e) = and_both (same_closed ls ms h c) (and_both (same_closed ls ms h d) (same_closed ls ms h e))
  same_closed ls ms h (assignment l c) = and_both (h l) (same_closed ls ms h c)
  same_closed ls ms h (sequence cs) = all_same ls ms h cs
  same_closed ls ms h (procedure n cs p) = cases_same ls ms h cs
  same_closed ls ms h (letrec o is c) =
      and_both (inits_same (init_labels is ++ ls) (init_labels is ++ ms) (behind (init_labels is) ls ms h) is)
      (same_closed (init_labels is ++ ls) (init_labels is ++ ms) (behind (init_labels is) ls ms h) c)
  same_closed ls ms h (call c cs) = and_both (same_closed ls ms h c) (all_same ls ms h cs)
  same_closed ls ms h (instance t s) = each_same ls ms (template_labels t) h
  same_closed ls ms h (matching c cs s) = and_both (same_closed ls ms h c) (clauses_same ls ms h cs)

  all_same : (ls ms : List Label) → SameAmong ls ms → (cs : PlainCores) → all_closed ls cs ≡ all_closed ms cs
  all_same ls ms h none = refl
  all_same ls ms h (more c cs) = and_both (same_closed ls ms h c) (all_same ls ms h cs)

  inits_same : (ls ms : List Label) → SameAmong ls ms → (is : PlainInits) → inits_closed ls is ≡ inits_closed ms is
  inits_same ls ms h no_init = refl
  inits_same ls ms h (init l c is) = and_both (same_closed ls ms h c) (inits_same ls ms h is)

  cases_same : (ls ms : List Label) → SameAmong ls ms → (cs : PlainCases) → cases_closed ls cs ≡ cases_closed ms cs
  cases_same ls ms h no_case = refl
  cases_same ls ms h (case f c cs) =
      and_both (same_closed (formals_labels f ++ ls) (formals_labels f ++ ms) (behind (formals_labels f) ls ms h) c) (cases_same ls ms h cs)

  clauses_same : (ls ms : List Label) → SameAmong ls ms → (cs : PlainClauses) → clauses_closed ls cs ≡ clauses_closed ms cs
  clauses_same ls ms h no_clause = refl
  clauses_same ls ms h (clause p c cs) =
      and_both (same_closed (variables p ++ ls) (variables p ++ ms) (behind (variables p) ls ms h) c) (clauses_same ls ms h cs)
  clauses_same ls ms h (fended p f c cs) =
      and_both (same_closed (variables p ++ ls) (variables p ++ ms) (behind (variables p) ls ms h) f)
      (and_both (same_closed (variables p ++ ls) (variables p ++ ms) (behind (variables p) ls ms h) c) (clauses_same ls ms h cs))

pub closed_inside : (ks fs ts : List Label) (c : PlainCore) → closed (with_labels ks fs ++ ts) c ≡ closed (fs ++ (ks ++ ts)) c
closed_inside ks fs ts c = same_closed (with_labels ks fs ++ ts) (fs ++ (ks ++ ts)) (inside ks fs ts) c

pub inits_closed_inside : (ks fs ts : List Label) (is : PlainInits) → inits_closed (with_labels ks fs ++ ts) is ≡ inits_closed (fs ++ (ks ++ ts)) is
inits_closed_inside ks fs ts is = inits_same (with_labels ks fs ++ ts) (fs ++ (ks ++ ts)) (inside ks fs ts) is

-- a clause alone
pub output_closed_inside : (ks ts : List Label) (c : Clause)
    → output_closed (with_labels ks (variables c.pattern) ++ ts) c.fender c.output ≡ clauses_closed (ks ++ ts) (clauses (c ∷ []))
output_closed_inside ks ts c = go c.fender
  where
    one : (d : PlainCore) → closed (with_labels ks (variables c.pattern) ++ ts) d ≡ closed (variables c.pattern ++ (ks ++ ts)) d
    one d = closed_inside ks (variables c.pattern) ts d

    and_none : (b : Bool) → b ≡ (b && true)
    and_none true = refl
    and_none false = refl

    go : (f : Option PlainCore) → output_closed (with_labels ks (variables c.pattern) ++ ts) f c.output ≡ clauses_closed (ks ++ ts) (clauses (record c { fender = f } ∷ []))
    go None = one c.output ∙ and_none (closed (variables c.pattern ++ (ks ++ ts)) c.output)
    go (Some f) = and_both (one f) (one c.output ∙ and_none (closed (variables c.pattern ++ (ks ++ ts)) c.output))

-- a clause, and then the others
pub clauses_closed_more : (ls : List Label) (c : Clause) (cs : List Clause)
    → clauses_closed ls (clauses (c ∷ cs)) ≡ (clauses_closed ls (clauses (c ∷ [])) && clauses_closed ls (clauses cs))
clauses_closed_more ls c cs = go c.fender
  where
    go : (f : Option PlainCore) → clauses_closed ls (clauses (record c { fender = f } ∷ cs)) ≡ (clauses_closed ls (clauses (record c { fender = f } ∷ [])) && clauses_closed ls (clauses cs))
    go None = by (closed (variables c.pattern ++ ls) c.output)
      where
        by : (b : Bool) → (b && clauses_closed ls (clauses cs)) ≡ ((b && true) && clauses_closed ls (clauses cs))
        by true = refl
        by false = refl
    go (Some f) = by (closed (variables c.pattern ++ ls) f) (closed (variables c.pattern ++ ls) c.output)
      where
        by : (a b : Bool) → (a && (b && clauses_closed ls (clauses cs))) ≡ ((a && (b && true)) && clauses_closed ls (clauses cs))
        by true true = refl
        by true false = refl
        by false b = refl
