-- The pattern of the inserts of a `quasisyntax` form: its variables are theirs, each with its depth.
use Rattle.std.proofs.Common.{◌≡◌, ℕ, zero, suc, ◌+◌, List, [], ◌∷◌, ◌++◌, map, refl, ◌∙◌, ap, arith, append-nil}
use Rattle.core_language.specs.Pattern.{PlainPattern, variable, patterns}
use Rattle.core_language.specs.References.{variables, all_variables}
use Rattle.law_core.specs.Parts.{literals, all_literals}
use Rattle.law_core.specs.Templates.{depths, all_depths}
use Rattle.eval_pattern.specs.declared.compile.PatternVariable.{PatternVariable}
use Rattle.expand_quasi.specs.Inserted.{listed, pattern_under, insert_pattern, inserts_pattern}
use Rattle.law_expand.proofs.Compiled.{variable_label, variable_depth}

two-nils : {A : Type 0} (xs : List A) → (xs ++ []) ++ [] ≡ xs
two-nils xs = append-nil (xs ++ []) ∙ append-nil xs

variables-under : (n : ℕ) (p : PlainPattern) → variables (pattern_under n p) ≡ variables p
variables-under zero p = refl
variables-under (suc n) p = variables-under n (listed p) ∙ two-nils (variables p)

literals-under : (n : ℕ) (p : PlainPattern) → literals (pattern_under n p) ≡ literals p
literals-under zero p = refl
literals-under (suc n) p = literals-under n (listed p) ∙ two-nils (literals p)

depths-under : (n k : ℕ) (p : PlainPattern) → depths k (pattern_under n p) ≡ depths (n + k) p
depths-under zero k p = let e : k ≡ zero + k = omega arith in ap (λ m. depths m p) e
depths-under (suc n) k p =
    let e : suc (n + k) ≡ suc n + k = omega arith in
    depths-under n k (listed p) ∙ two-nils (depths (suc (n + k)) p) ∙ ap (λ m. depths m p) e

insert-depth : (v : PatternVariable) → depths 0 (insert_pattern v) ≡ variable_depth v ∷ []
insert-depth v = let e : v.depth + 0 ≡ v.depth = omega arith in depths-under v.depth 0 (variable v.label) ∙ ap (λ m. (v.label, m) ∷ []) e

all-variables : (vs : List PatternVariable) → all_variables (patterns (map insert_pattern vs)) ≡ map variable_label vs
all-variables [] = refl
all-variables (v ∷ vs) = λ i. variables-under v.depth (variable v.label) i ++ all-variables vs i

all-literals : (vs : List PatternVariable) → all_literals (patterns (map insert_pattern vs)) ≡ []
all-literals [] = refl
all-literals (v ∷ vs) = λ i. literals-under v.depth (variable v.label) i ++ all-literals vs i

all-depths : (vs : List PatternVariable) → all_depths 0 (patterns (map insert_pattern vs)) ≡ map variable_depth vs
all-depths [] = refl
all-depths (v ∷ vs) = λ i. insert-depth v i ++ all-depths vs i

pub inserts-variables : (vs : List PatternVariable) → variables (inserts_pattern vs) ≡ map variable_label vs
inserts-variables vs = append-nil (all_variables (patterns (map insert_pattern vs))) ∙ all-variables vs

pub inserts-literals : (vs : List PatternVariable) → literals (inserts_pattern vs) ≡ []
inserts-literals vs = append-nil (all_literals (patterns (map insert_pattern vs))) ∙ all-literals vs

pub inserts-depths : (vs : List PatternVariable) → depths 0 (inserts_pattern vs) ≡ map variable_depth vs
inserts-depths vs = append-nil (all_depths 0 (patterns (map insert_pattern vs))) ∙ all-depths vs
