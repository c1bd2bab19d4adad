-- Lists that are put together piece by piece.
use Rattle.std.proofs.Common.{◌≡◌, ℕ, suc, ◌+◌, ◌<◌, Bool, true, false, List, [], ◌∷◌, ◌++◌, length, get_or, drop, refl, sym, ap, ◌∙◌, append_assoc, add-one, drop-cons}
use Rattle.std.specs.Prelude.{◌&&◌, Option, None, Some}
use Rattle.std.specs.List.{flat_map}
use Rattle.core_language.specs.Core.{PlainCore, cores}
use Rattle.core_language.specs.CoreView.{cases, clauses}
use Rattle.core_language.specs.Pattern.{PlainPattern, PlainPatterns, patterns, patterns_on}
use Rattle.core_language.specs.References.{variables}
use Rattle.core_language.specs.declared.code.Clause.{Clause}
use Rattle.core_language.specs.declared.code.Lambda.{Lambda}
use Rattle.law_core.specs.Parts.{parts, clause_parts, clause_patterns, core_count, case_count, literals, all_literals}
use Rattle.law_core.specs.Templates.{depths, all_depths}
use Rattle.law_core.specs.WellMade.{is_leaf}
use Rattle.law_core.specs.Words.{each}
use Rattle.core_well_made.specs.Parts.{clause_variables, have_leaves, noted, noted_all}
use Rattle.core_well_made.specs.declared.parts.NotedParts.{NotedParts}

module _ {A : Type 0} where
  pub joined : (ls xs ys : List A) → ls ++ (xs ++ ys) ≡ (ls ++ xs) ++ ys
  joined ls xs ys = sym (append_assoc ls xs ys)

  -- an item's piece is put at the end: the rest goes on from there
  module _ {T : Type 0} (f : List T → List A) (g : T → List A) (split : (x : T) (xs : List T) → f (x ∷ xs) ≡ g x ++ f xs) where
    pub joined_on : (items : List T) (i : ℕ) (item : T) (b new total : List A) → i < length items → item ≡ get_or items i item
        → new ≡ b ++ g item → b ++ f (drop i items) ≡ total → new ++ f (drop (i + 1) items) ≡ total
    joined_on items i item b new total h e is so_far =
        let cons : drop i items ≡ item ∷ drop (i + 1) items = rw add-one (drop-cons items i item h ∙ ap (λ x. x ∷ drop (suc i) items) (sym e)) in
        ap (λ ls. ls ++ f (drop (i + 1) items)) is ∙ append_assoc b (g item) (f (drop (i + 1) items))
        ∙ ap (λ ls. b ++ ls) (sym (split item (drop (i + 1) items)) ∙ ap f (sym cons)) ∙ so_far

-- ---- items, one after another

module _ {A T : Type 0} (f : List T → List A) (g : T → List A) (split : (x : T) (xs : List T) → f (x ∷ xs) ≡ g x ++ f xs) where
  -- what is left has an item's piece first
  pub left_on : (items : List T) (i : ℕ) (item : T) → i < length items → item ≡ get_or items i item → f (drop i items) ≡ g item ++ f (drop (i + 1) items)
  left_on items i item h e =
      let cons : drop i items ≡ item ∷ drop (i + 1) items = rw add-one (drop-cons items i item h ∙ ap (λ x. x ∷ drop (suc i) items) (sym e)) in
      ap f cons ∙ split item (drop (i + 1) items)

-- ---- what holds of each

and_parts : (a b c : Bool) → (a && (b && c)) ≡ ((a && b) && c)
and_parts true b c = refl
and_parts false b c = refl

pub each_joined : {A : Type 0} (p : A → Bool) (xs ys : List A) → each p (xs ++ ys) ≡ (each p xs && each p ys)
each_joined p [] ys = refl
each_joined p (x ∷ xs) ys = ap (λ b. p x && b) (each_joined p xs ys) ∙ and_parts (p x) (each p xs) (each p ys)

module _ {A T : Type 0} (p : A → Bool) (f : List T → List A) (g : T → List A) (split : (x : T) (xs : List T) → f (x ∷ xs) ≡ g x ++ f xs) where
  -- an item's piece holds: the rest decides
  pub each_on : (items : List T) (i : ℕ) (item : T) (total : Bool) → i < length items → item ≡ get_or items i item
      → each p (g item) ≡ true → each p (f (drop i items)) ≡ total → each p (f (drop (i + 1) items)) ≡ total
  each_on items i item total h e holds so_far =
      let rest = each p (f (drop (i + 1) items)) in
      sym (ap (λ b. b && rest) holds) ∙ sym (each_joined p (g item) (f (drop (i + 1) items))) ∙ sym (ap (each p) (left_on f g split items i item h e)) ∙ so_far

  -- it doesn't: nothing else matters
  pub each_off : (items : List T) (i : ℕ) (item : T) (total : Bool) → i < length items → item ≡ get_or items i item
      → each p (g item) ≡ false → each p (f (drop i items)) ≡ total → false ≡ total
  each_off items i item total h e fails so_far =
      let rest = each p (f (drop (i + 1) items)) in
      sym (ap (λ b. b && rest) fails) ∙ sym (each_joined p (g item) (f (drop (i + 1) items))) ∙ sym (ap (each p) (left_on f g split items i item h e)) ∙ so_far

pub literals_on : (ps : List PlainPattern) (q : PlainPatterns) → all_literals (patterns_on ps q) ≡ all_literals (patterns ps) ++ all_literals q
literals_on [] q = refl
literals_on (p ∷ ps) q = ap (λ ls. literals p ++ ls) (literals_on ps q) ∙ sym (append_assoc (literals p) (all_literals (patterns ps)) (all_literals q))

pub depths_on : (n : ℕ) (ps : List PlainPattern) (q : PlainPatterns) → all_depths n (patterns_on ps q) ≡ all_depths n (patterns ps) ++ all_depths n q
depths_on n [] q = refl
depths_on n (p ∷ ps) q = ap (λ ls. depths n p ++ ls) (depths_on n ps q) ∙ sym (append_assoc (depths n p) (all_depths n (patterns ps)) (all_depths n q))

-- ---- how many there are

pub core_count_is : (cs : List PlainCore) → core_count (cores cs) ≡ length cs
core_count_is [] = refl
core_count_is (c ∷ cs) = ap suc (core_count_is cs)

pub case_count_is : (ls : List Lambda) → case_count (cases ls) ≡ length ls
case_count_is [] = refl
case_count_is (l ∷ ls) = ap suc (case_count_is ls)

-- ---- clauses, each with or without a fender

pub clause_variables_more : (c : Clause) (cs : List Clause) → clause_variables (clauses (c ∷ cs)) ≡ variables c.pattern ++ clause_variables (clauses cs)
clause_variables_more c cs = go c.fender
  where
    go : (f : Option PlainCore) → clause_variables (clauses (record c { fender = f } ∷ cs)) ≡ variables c.pattern ++ clause_variables (clauses cs)
    go None = refl
    go (Some f) = refl

pub have_leaves_more : (c : Clause) (cs : List Clause) → have_leaves (clauses (c ∷ cs)) ≡ (each is_leaf (literals c.pattern) && have_leaves (clauses cs))
have_leaves_more c cs = go c.fender
  where
    go : (f : Option PlainCore) → have_leaves (clauses (record c { fender = f } ∷ cs)) ≡ (each is_leaf (literals c.pattern) && have_leaves (clauses cs))
    go None = each_joined is_leaf (literals c.pattern) (flat_map literals (clause_patterns (clauses cs)))
    go (Some f) = each_joined is_leaf (literals c.pattern) (flat_map literals (clause_patterns (clauses cs)))

pub clause_parts_more : (c : Clause) (cs : List Clause) → clause_parts (clauses (c ∷ cs)) ≡ clause_parts (clauses (c ∷ [])) ++ clause_parts (clauses cs)
clause_parts_more c cs = go c.fender
  where
    rest : List PlainCore
    rest = clause_parts (clauses cs)

    go : (f : Option PlainCore) → clause_parts (clauses (record c { fender = f } ∷ cs)) ≡ clause_parts (clauses (record c { fender = f } ∷ [])) ++ rest
    go None = sym (append_assoc (parts c.output) [] rest)
    go (Some f) = sym (append_assoc (parts f) (parts c.output ++ []) rest ∙ ap (λ ls. parts f ++ ls) (append_assoc (parts c.output) [] rest))

-- ---- what is noted of expressions

pub noted_joined : (all : NotedParts) (xs ys : List PlainCore) → noted_all all (xs ++ ys) ≡ noted_all (noted_all all xs) ys
noted_joined all [] ys = refl
noted_joined all (x ∷ xs) ys = noted_joined (noted all x) xs ys

module _ {T : Type 0} (f : List T → List PlainCore) (g : T → List PlainCore) (split : (x : T) (xs : List T) → f (x ∷ xs) ≡ g x ++ f xs) where
  pub noted_on : (items : List T) (i : ℕ) (item : T) (b new total : NotedParts) → i < length items → item ≡ get_or items i item
      → new ≡ noted_all b (g item) → noted_all b (f (drop i items)) ≡ total → noted_all new (f (drop (i + 1) items)) ≡ total
  noted_on items i item b new total h e is so_far =
      let cons : drop i items ≡ item ∷ drop (i + 1) items = rw add-one (drop-cons items i item h ∙ ap (λ x. x ∷ drop (suc i) items) (sym e)) in
      ap (λ ps. noted_all ps (f (drop (i + 1) items))) is ∙ sym (noted_joined b (g item) (f (drop (i + 1) items)))
      ∙ ap (noted_all b) (sym (split item (drop (i + 1) items)) ∙ ap f (sym cons)) ∙ so_far
