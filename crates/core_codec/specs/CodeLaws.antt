-- The codecs of patterns, templates and core code are lawful.
use Rattle.std.proofs.Common.{◌≡◌, ℕ, zero, suc, true, List, [], ◌∷◌, Some, None, refl, ap, inl, inr}
use Rattle.base_bytes.specs.Codec.{Codec, checked, ◌then◌, optional, listed}
use Rattle.base_bytes.specs.Laws.{Lawful, never-lawful, checked-lawful, seen_as-lawful, mapped-lawful, then-lawful, unit-lawful, bool-lawful, u32-lawful, tagged-lawful, or-lawful, last-lawful, listed-lawful, optional-lawful, both}
use Rattle.base_data.specs.declared.name.Label.{Label}
use Rattle.base_bytes.specs.NameLaws.{span-lawful, label-lawful, code_number-lawful, op-lawful, atom-lawful}
use Rattle.core_codec.specs.TreeLaws.{datum-lawful, tree-lawful}
use Rattle.core_codec.specs.Code.{formals, SplitPatterns, split, plain_patterns, has_no_dots, has_one_dots, joined, is_split, is_leaf, elements, PatternCases, pattern_to, pattern_from, pattern_level, pattern, item_list, items_of, items, TemplateCases, template_to, template_from, template_level, template, core_list, init_list, inits_of, case_list, cases_of, ClauseParts, clause_list, clauses_of, core_parts, inits, cases, clauses, CoreCases, core_to, core_from, are_two, is_procedure, core_level, core}
use Rattle.core_language.specs.Core as c
use Rattle.core_language.specs.Core.{PlainCore, PlainCores, PlainInits, PlainCases, PlainClauses, cores}
use Rattle.core_language.specs.Pattern as p
use Rattle.core_language.specs.Pattern.{PlainPattern, PlainPatterns, patterns, patterns_on}
use Rattle.core_language.specs.Template as m
use Rattle.core_language.specs.Template.{PlainTemplate, PlainItems}
use Rattle.core_language.specs.declared.formals.Formals.{Formals}

pub formals-lawful : Lawful formals
unfolding formals
formals-lawful = mapped-lawful _ _ (λ q e. refl) (λ s. refl) (then-lawful (listed-lawful label-lawful) (optional-lawful label-lawful))

-- ---- patterns

plain_there : (xs : List PlainPattern) → (plain_patterns (patterns xs) ≡ xs) × (has_no_dots (patterns xs) ≡ true)
plain_there [] = (refl, refl)
plain_there (x ∷ xs) = let r = plain_there xs in (ap (λ (ys : List PlainPattern). x ∷ ys) r.0, r.1)

plain_back : (xs : PlainPatterns) → has_no_dots xs ≡ true → patterns (plain_patterns xs) ≡ xs
plain_back p.none h = refl
plain_back (p.more x xs) h = ap (λ (ys : PlainPatterns). p.more x ys) (plain_back xs h)
plain_back (p.dots x xs) h = absurd (cc)

split_there : (q : SplitPatterns) → is_split q.1 ≡ true → (split (joined q) ≡ q) × (has_one_dots (joined q) ≡ true)
split_there ([], (None, [])) h = (refl, refl)
split_there ([], (None, y ∷ ys)) h = absurd (cc)
split_there ([], (Some x, ys)) h = let r = plain_there ys in (λ i. ([], (Some x, r.0 i)), r.1)
split_there (x ∷ xs, y) h = let r = split_there (xs, y) h in (λ i. (x ∷ (r.0 i).0, (r.0 i).1), r.1)

split_back : (xs : PlainPatterns) → has_one_dots xs ≡ true → joined (split xs) ≡ xs
split_back p.none h = refl
split_back (p.more x xs) h = ap (λ (ys : PlainPatterns). p.more x ys) (split_back xs h)
split_back (p.dots x xs) h = ap (λ (ys : PlainPatterns). p.dots x ys) (plain_back xs h)

elements-lawful : {part : Codec PlainPattern} → Lawful part → Lawful (elements part)
unfolding elements
elements-lawful {part} l = seen_as-lawful split joined has_one_dots
    (λ q e. split_there q (both ((optional part then listed part).fits q.1) (is_split q.1)
    (both ((listed part).fits q.0) ((checked is_split (optional part then listed part)).fits q.1) e).1).1) split_back
    (then-lawful (listed-lawful l) (checked-lawful is_split (then-lawful (optional-lawful l) (listed-lawful l))))

pattern_there : (q : PatternCases) → pattern_to (pattern_from q) ≡ q
pattern_there (inl u) = refl
pattern_there (inr (inl x)) = refl
pattern_there (inr (inr (inl x))) = refl
pattern_there (inr (inr (inr (inl x)))) = refl
pattern_there (inr (inr (inr (inr (inl x))))) = refl
pattern_there (inr (inr (inr (inr (inr x))))) = refl

pattern_back : (x : PlainPattern) → pattern_from (pattern_to x) ≡ x
pattern_back p.any = refl
pattern_back (p.variable l) = refl
pattern_back (p.literal x) = refl
pattern_back (p.atom a) = refl
pattern_back (p.list xs x) = refl
pattern_back (p.vector xs) = refl

pub pattern_level-lawful : {part : Codec PlainPattern} → Lawful part → Lawful (pattern_level part)
unfolding pattern_level
pattern_level-lawful l = mapped-lawful pattern_to pattern_from (λ q e. pattern_there q) pattern_back
    (tagged-lawful (or-lawful unit-lawful (or-lawful label-lawful
    (or-lawful (checked-lawful is_leaf (tree-lawful 1000))
    (or-lawful atom-lawful (or-lawful (then-lawful (elements-lawful l) l) (last-lawful (elements-lawful l))))))))

pub pattern-lawful : (room : ℕ) → Lawful (pattern room)
unfolding pattern
pattern-lawful zero = never-lawful
pattern-lawful (suc room) = pattern_level-lawful (pattern-lawful room)

-- ---- templates

items_there : (xs : List (PlainTemplate × ℕ)) → item_list (items_of xs) ≡ xs
items_there [] = refl
items_there (x ∷ xs) = ap (λ (ys : List (PlainTemplate × ℕ)). x ∷ ys) (items_there xs)

items_back : (xs : PlainItems) → items_of (item_list xs) ≡ xs
items_back m.none = refl
items_back (m.more x e xs) = ap (λ (ys : PlainItems). m.more x e ys) (items_back xs)

items-lawful : {part : Codec PlainTemplate} → Lawful part → Lawful (items part)
unfolding items
items-lawful l = mapped-lawful item_list items_of (λ xs e. items_there xs) items_back (listed-lawful (then-lawful l u32-lawful))

template_there : (q : TemplateCases) → template_to (template_from q) ≡ q
template_there (inl x) = refl
template_there (inr (inl x)) = refl
template_there (inr (inr (inl x))) = refl
template_there (inr (inr (inr x))) = refl

template_back : (x : PlainTemplate) → template_from (template_to x) ≡ x
template_back (m.variable l d) = refl
template_back (m.constant x) = refl
template_back (m.list xs x) = refl
template_back (m.vector xs) = refl

pub template_level-lawful : {part : Codec PlainTemplate} → Lawful part → Lawful (template_level part)
unfolding template_level
template_level-lawful l = mapped-lawful template_to template_from (λ q e. template_there q) template_back
    (tagged-lawful (or-lawful (then-lawful label-lawful u32-lawful)
    (or-lawful (tree-lawful 1000) (or-lawful (then-lawful (items-lawful l) l) (last-lawful (items-lawful l))))))

pub template-lawful : (room : ℕ) → Lawful (template room)
unfolding template
template-lawful zero = never-lawful
template-lawful (suc room) = template_level-lawful (template-lawful room)

-- ---- core code

cores_there : (xs : List PlainCore) → core_list (cores xs) ≡ xs
cores_there [] = refl
cores_there (x ∷ xs) = ap (λ (ys : List PlainCore). x ∷ ys) (cores_there xs)

cores_back : (xs : PlainCores) → cores (core_list xs) ≡ xs
cores_back c.none = refl
cores_back (c.more x xs) = ap (λ (ys : PlainCores). c.more x ys) (cores_back xs)

inits_there : (xs : List (Label × PlainCore)) → init_list (inits_of xs) ≡ xs
inits_there [] = refl
inits_there (x ∷ xs) = ap (λ (ys : List (Label × PlainCore)). x ∷ ys) (inits_there xs)

inits_back : (xs : PlainInits) → inits_of (init_list xs) ≡ xs
inits_back c.no_init = refl
inits_back (c.init l x xs) = ap (λ (ys : PlainInits). c.init l x ys) (inits_back xs)

cases_there : (xs : List (Formals × PlainCore)) → case_list (cases_of xs) ≡ xs
cases_there [] = refl
cases_there (x ∷ xs) = ap (λ (ys : List (Formals × PlainCore)). x ∷ ys) (cases_there xs)

cases_back : (xs : PlainCases) → cases_of (case_list xs) ≡ xs
cases_back c.no_case = refl
cases_back (c.case f x xs) = ap (λ (ys : PlainCases). c.case f x ys) (cases_back xs)

clauses_there : (xs : List ClauseParts) → clause_list (clauses_of xs) ≡ xs
clauses_there [] = refl
clauses_there ((q, (None, x)) ∷ xs) = ap (λ (ys : List ClauseParts). (q, (None, x)) ∷ ys) (clauses_there xs)
clauses_there ((q, (Some f, x)) ∷ xs) = ap (λ (ys : List ClauseParts). (q, (Some f, x)) ∷ ys) (clauses_there xs)

clauses_back : (xs : PlainClauses) → clauses_of (clause_list xs) ≡ xs
clauses_back c.no_clause = refl
clauses_back (c.clause q x xs) = ap (λ (ys : PlainClauses). c.clause q x ys) (clauses_back xs)
clauses_back (c.fended q f x xs) = ap (λ (ys : PlainClauses). c.fended q f x ys) (clauses_back xs)

core_there : (q : CoreCases) → core_to (core_from q) ≡ q
core_there (inl d) = refl
core_there (inr (inl l)) = refl
core_there (inr (inr (inl o))) = refl
core_there (inr (inr (inr (inl (x, (y, None)))))) = refl
core_there (inr (inr (inr (inl (x, (y, Some z)))))) = refl
core_there (inr (inr (inr (inr (inl q))))) = refl
core_there (inr (inr (inr (inr (inr (inl xs)))))) = refl
core_there (inr (inr (inr (inr (inr (inr (inl q))))))) = refl
core_there (inr (inr (inr (inr (inr (inr (inr (inl q)))))))) = refl
core_there (inr (inr (inr (inr (inr (inr (inr (inr (inl q))))))))) = refl
core_there (inr (inr (inr (inr (inr (inr (inr (inr (inr (inl q)))))))))) = refl
core_there (inr (inr (inr (inr (inr (inr (inr (inr (inr (inr q)))))))))) = refl

core_back : (x : PlainCore) → core_from (core_to x) ≡ x
core_back (c.quoted d) = refl
core_back (c.variable l) = refl
core_back (c.primitive o) = refl
core_back (c.one_armed x y) = refl
core_back (c.two_armed x y z) = refl
core_back (c.assignment l x) = refl
core_back (c.sequence xs) = refl
core_back (c.procedure n xs plain) = refl
core_back (c.letrec star is x) = refl
core_back (c.call x xs) = refl
core_back (c.instance x s) = refl
core_back (c.matching x xs s) = refl

module _ {part : Codec PlainCore} (l : Lawful part) where
  core_parts-lawful : Lawful (core_parts part)
  unfolding core_parts
  core_parts-lawful = mapped-lawful core_list cores (λ xs e. cores_there xs) cores_back (listed-lawful l)

  inits-lawful : Lawful (inits part)
  unfolding inits
  inits-lawful = mapped-lawful init_list inits_of (λ xs e. inits_there xs) inits_back (listed-lawful (then-lawful label-lawful l))

  cases-lawful : Lawful (cases part)
  unfolding cases
  cases-lawful = mapped-lawful case_list cases_of (λ xs e. cases_there xs) cases_back (listed-lawful (then-lawful formals-lawful l))

  clauses-lawful : Lawful (clauses part)
  unfolding clauses
  clauses-lawful = mapped-lawful clause_list clauses_of (λ xs e. clauses_there xs) clauses_back
      (listed-lawful (then-lawful (pattern-lawful 2000) (then-lawful (optional-lawful l) l)))

  pub core_level-lawful : Lawful (core_level part)
  unfolding core_level
  core_level-lawful = mapped-lawful core_to core_from (λ q e. core_there q) core_back (tagged-lawful
      (or-lawful (datum-lawful 1000) (or-lawful label-lawful
      (or-lawful op-lawful (or-lawful (then-lawful l (then-lawful l (optional-lawful l))) (or-lawful (then-lawful label-lawful l)
      (or-lawful (checked-lawful are_two core_parts-lawful)
      (or-lawful (checked-lawful is_procedure (then-lawful code_number-lawful (then-lawful cases-lawful bool-lawful)))
      (or-lawful (then-lawful bool-lawful (then-lawful inits-lawful l))
      (or-lawful (then-lawful l core_parts-lawful) (or-lawful (then-lawful (template-lawful 2000) span-lawful)
      (last-lawful (then-lawful l (then-lawful clauses-lawful span-lawful))))))))))))))

pub core-lawful : (room : ℕ) → Lawful (core room)
unfolding core
core-lawful zero = never-lawful
core-lawful (suc room) = core_level-lawful (core-lawful room)
