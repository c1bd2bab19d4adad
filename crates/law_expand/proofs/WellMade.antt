-- Good core code is well made.
use Rattle.std.proofs.Common.{◌≡◌, ℕ, ◌<◌, true, false, List, [], ◌∷◌, ◌++◌, sym, ◌∙◌, inl, inr}
use Rattle.std.specs.Prelude.{◌⊎◌}
use Rattle.std.specs.List.{flat_map}
use Rattle.base_data.proofs.ElementLemmas.{each-at, each-append, among-parts}
use Rattle.base_data.specs.Elements.{Each, Among}
use Rattle.base_data.specs.Op.{name_count, is_keyword}
use Rattle.base_data.specs.declared.library.LibName.{LibName}
use Rattle.base_data.specs.declared.name.Label.{Label}
use Rattle.core_language.specs.Core.{PlainCore, quoted, variable, primitive, one_armed, two_armed, assignment, sequence, procedure, letrec, call, instance, matching}
use Rattle.core_language.specs.Core.{PlainCores, none, more, PlainInits, no_init, init, PlainCases, no_case, case, PlainClauses, no_clause, clause, fended}
use Rattle.core_language.specs.Pattern.{PlainPattern}
use Rattle.core_language.specs.References.{mentions, all_mentions, init_mentions, case_mentions, clause_mentions, variables}
use Rattle.law_core.specs.Parts.{parts, all_parts, init_parts, case_parts, clause_parts, literals, ops, own_op, own_patterns, patterns, pattern_variables}
use Rattle.law_core.specs.Templates.{Depths}
use Rattle.law_core.specs.WellMade.{IsLeaf, HasForm, IsWellMade, given_labels}
use Rattle.law_expand.proofs.Fresh.{each-map}
use Rattle.law_expand.proofs.Good.{Bindings, IsVariableIn, IsPatternIn, PatternFits, IsBasic, Good}

module _ (bs : Bindings) where
  basic-form : (c : PlainCore) → IsBasic bs c → HasForm c
  basic-form (quoted d) h = tt
  basic-form (variable l) h = tt
  basic-form (primitive o) h = tt
  basic-form (one_armed c d) h = tt
  basic-form (two_armed c d e) h = tt
  basic-form (assignment l c) h = tt
  basic-form (sequence cs) h = h
  basic-form (procedure n cs true) h = h
  basic-form (procedure n cs false) h = tt
  basic-form (letrec o is c) h = tt
  basic-form (call c cs) h = tt
  basic-form (instance t s) h = tt
  basic-form (matching c cs s) h = tt

  basic-ops : (ps : List PlainCore) → Each (IsBasic bs) ps → Each (λ o. o < name_count) (flat_map own_op ps)
  basic-ops [] h = tt
  basic-ops (p ∷ ps) h = each-append (λ o. o < name_count) (own_op p) (flat_map own_op ps) (one p h.0) (basic-ops ps h.1)
    where
      one : (c : PlainCore) → IsBasic bs c → Each (λ o. o < name_count) (own_op c)
      one (primitive o) k = (k.0, tt)
      one _ k = tt

  no-keyword : (ps : List PlainCore) → Each (IsBasic bs) ps → Each (λ o. is_keyword o ≡ false) (flat_map own_op ps)
  no-keyword [] h = tt
  no-keyword (p ∷ ps) h = each-append (λ o. is_keyword o ≡ false) (own_op p) (flat_map own_op ps) (one p h.0) (no-keyword ps h.1)
    where
      one : (c : PlainCore) → IsBasic bs c → Each (λ o. is_keyword o ≡ false) (own_op c)
      one (primitive o) k = (k.1, tt)
      one _ k = tt

  basic-patterns : (ps : List PlainCore) → Each (IsBasic bs) ps → Each (PatternFits bs) (flat_map own_patterns ps)
  basic-patterns [] h = tt
  basic-patterns (p ∷ ps) h = each-append (PatternFits bs) (own_patterns p) (flat_map own_patterns ps) (one p h.0) (basic-patterns ps h.1)
    where
      one : (c : PlainCore) → IsBasic bs c → Each (PatternFits bs) (own_patterns c)
      one (matching c cs s) k = k
      one _ k = tt

  all-leaves : (ps : List PlainPattern) → Each (PatternFits bs) ps → Each IsLeaf (flat_map literals ps)
  all-leaves [] h = tt
  all-leaves (p ∷ ps) h = each-append IsLeaf (literals p) (flat_map literals ps) h.0.leaves (all-leaves ps h.1)

  all-bound : (ps : List PlainPattern) → Each (PatternFits bs) ps → Each (IsPatternIn bs) (flat_map variables ps)
  all-bound [] h = tt
  all-bound (p ∷ ps) h = each-append (IsPatternIn bs) (variables p) (flat_map variables ps) h.0.bound (all-bound ps h.1)

  first-parts : (xs ys : List PlainCore) → Each (IsBasic bs) (xs ++ ys) → Each (IsBasic bs) xs
  first-parts [] ys h = tt
  first-parts (x ∷ xs) ys h = (h.0, first-parts xs ys h.1)

  second-parts : (xs ys : List PlainCore) → Each (IsBasic bs) (xs ++ ys) → Each (IsBasic bs) ys
  second-parts [] ys h = h
  second-parts (x ∷ xs) ys h = second-parts xs ys h.1

  -- what is mentioned is a variable
  abbrev Mentioned : List Label → Type 0
  Mentioned ls = Each (IsVariableIn bs) ls

  join : (ls ms : List Label) → Mentioned ls → Mentioned ms → Mentioned (ls ++ ms)
  join ls ms h k = each-append (IsVariableIn bs) ls ms h k

  mutual
    mentioned : (c : PlainCore) → Each (IsBasic bs) (parts c) → Mentioned (mentions c)
    mentioned (quoted d) h = tt
    mentioned (variable l) h = (h.0, tt)
    mentioned (primitive o) h = tt
    mentioned (one_armed c d) h = join (mentions c) (mentions d) (mentioned c (first-parts (parts c) (parts d) h.1)) (mentioned d (second-parts (parts c) (parts d) h.1))
    mentioned (two_armed c d e) h =
        let k = second-parts (parts c) (parts d ++ parts e) h.1 in
        join (mentions c) (mentions d ++ mentions e) (mentioned c (first-parts (parts c) (parts d ++ parts e) h.1))
        (join (mentions d) (mentions e) (mentioned d (first-parts (parts d) (parts e) k)) (mentioned e (second-parts (parts d) (parts e) k)))
    mentioned (assignment l c) h = (h.0, mentioned c h.1)
    mentioned (sequence cs) h = mentioned-all cs h.1
    mentioned (procedure n cs p) h = mentioned-cases cs h.1
    mentioned (letrec o is c) h = join (init_mentions is) (mentions c) (mentioned-inits is (first-parts (init_parts is) (parts c) h.1)) (mentioned c (second-parts (init_parts is) (parts c) h.1))
    mentioned (call c cs) h = join (mentions c) (all_mentions cs) (mentioned c (first-parts (parts c) (all_parts cs) h.1)) (mentioned-all cs (second-parts (parts c) (all_parts cs) h.1))
    mentioned (instance t s) h = tt
    mentioned (matching c cs s) h = join (mentions c) (clause_mentions cs) (mentioned c (first-parts (parts c) (clause_parts cs) h.1)) (mentioned-clauses cs (second-parts (parts c) (clause_parts cs) h.1))

    mentioned-all : (cs : PlainCores) → Each (IsBasic bs) (all_parts cs) → Mentioned (all_mentions cs)
    mentioned-all none h = tt
    mentioned-all (more c cs) h = join (mentions c) (all_mentions cs) (mentioned c (first-parts (parts c) (all_parts cs) h)) (mentioned-all cs (second-parts (parts c) (all_parts cs) h))

    mentioned-inits : (is : PlainInits) → Each (IsBasic bs) (init_parts is) → Mentioned (init_mentions is)
    mentioned-inits no_init h = tt
    mentioned-inits (init l c is) h = join (mentions c) (init_mentions is) (mentioned c (first-parts (parts c) (init_parts is) h)) (mentioned-inits is (second-parts (parts c) (init_parts is) h))

    mentioned-cases : (cs : PlainCases) → Each (IsBasic bs) (case_parts cs) → Mentioned (case_mentions cs)
    mentioned-cases no_case h = tt
    mentioned-cases (case f c cs) h = join (mentions c) (case_mentions cs) (mentioned c (first-parts (parts c) (case_parts cs) h)) (mentioned-cases cs (second-parts (parts c) (case_parts cs) h))

    mentioned-clauses : (cs : PlainClauses) → Each (IsBasic bs) (clause_parts cs) → Mentioned (clause_mentions cs)
    mentioned-clauses no_clause h = tt
    mentioned-clauses (clause p c cs) h = join (mentions c) (clause_mentions cs) (mentioned c (first-parts (parts c) (clause_parts cs) h)) (mentioned-clauses cs (second-parts (parts c) (clause_parts cs) h))
    mentioned-clauses (fended p f c cs) h =
        let k = second-parts (parts f) (parts c ++ clause_parts cs) h in
        join (mentions f) (mentions c ++ clause_mentions cs) (mentioned f (first-parts (parts f) (parts c ++ clause_parts cs) h))
        (join (mentions c) (clause_mentions cs) (mentioned c (first-parts (parts c) (clause_parts cs) k)) (mentioned-clauses cs (second-parts (parts c) (clause_parts cs) k)))

  -- no label is bound both ways
  not-both : (l : Label) → IsVariableIn bs l → IsPatternIn bs l → ⊥
  not-both l (v, e) (level, (depth, d)) = let bad = sym e ∙ d in absurd (cc)

-- no primitive in it is a keyword
pub good-primitives : (own : LibName) (bs : Bindings) (vs : Depths) (ls : List Label) (a b : ℕ) (c : PlainCore) → Good own bs vs ls a b c → Each (λ o. is_keyword o ≡ false) (ops c)
good-primitives own bs vs ls a b c h = no-keyword bs (parts c) h.inner.basic

-- under pattern variables that are bound
pub good-well-made : (own : LibName) (bs : Bindings) (vs : Depths) (ls : List Label) (a b : ℕ) (c : PlainCore) → Each (λ (v : Label × ℕ). IsPatternIn bs v.0) vs → Good own bs vs ls a b c → IsWellMade vs c
good-well-made own bs vs ls a b c given h =
    let basic = h.inner.basic in
    let fit = basic-patterns bs (parts c) basic in
    record {
      forms = each-map (IsBasic bs) HasForm (parts c) basic (basic-form bs);
      leaves = all-leaves bs (patterns c) fit;
      named_ops = basic-ops bs (parts c) basic;
      bound_once = h.binders.once;
      numbered_once = h.inner.codes.once;
      unmentioned = each-map (IsVariableIn bs) (λ l. Among (pattern_variables c ++ given_labels vs) l → ⊥) (mentions c) (mentioned bs c basic) (λ l x a. not-both bs l x (by l (among-parts (pattern_variables c) (given_labels vs) l a)));
      templates = h.suits;
    }
  where
    labels : (ws : Depths) → Each (λ (v : Label × ℕ). IsPatternIn bs v.0) ws → Each (IsPatternIn bs) (given_labels ws)
    labels [] k = tt
    labels (w ∷ ws) k = (k.0, labels ws k.1)

    by : (l : Label) → Among (pattern_variables c) l ⊎ Among (given_labels vs) l → IsPatternIn bs l
    by l (inl a) = each-at (IsPatternIn bs) (pattern_variables c) l (all-bound bs (patterns c) (basic-patterns bs (parts c) h.inner.basic)) a
    by l (inr a) = each-at (IsPatternIn bs) (given_labels vs) l (labels vs given) a
