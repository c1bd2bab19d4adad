-- Core code that is spelled and well made has its spelling, where its numbers fit.
use Rattle.std.proofs.Common.{◌≡◌, ◌≤◌, ◌<◌, ◌+◌, ℕ, zero, suc, max, Bool, true, false, List, [], ◌∷◌, ◌++◌, length, Option, None, Some, refl, sym, subst, ◌∙◌, ap, arith}
use Rattle.std.specs.Prelude.{◌&&◌, ◌||◌, not, nat_lt, nat_eq}
use Rattle.std.specs.List.{list_all, flat_map}
use Rattle.std.proofs.lemmas.Bool.{le-leb, lt-ltb, eq-eqb}
use Rattle.base_data.specs.Op.{name_count}
use Rattle.base_data.specs.declared.name.CodeNo.{CodeNo}
use Rattle.base_data.specs.declared.op.Op.{Op}
use Rattle.base_bytes.specs.Codec.{Codec, u16, u32, u64, ◌then◌, optional, listed, bool}
use Rattle.base_bytes.specs.Names.{span, label, code_number, op}
use Rattle.core_codec.specs.Code.{formals, split, plain_patterns, has_one_dots, is_split, pattern_level, item_list, items, template_level, template, core_list, init_list, case_list, clause_list, core_parts, are_two, core_level, core}
use Rattle.core_codec.specs.Code as codecs
use Rattle.core_codec.specs.Trees.{tree}
use Rattle.core_language.specs.Core as c
use Rattle.core_language.specs.Core.{PlainCore, PlainCores, PlainInits, PlainCases, PlainClauses}
use Rattle.core_language.specs.Height.{height, highest, highest_init, highest_case, highest_clause}
use Rattle.core_language.specs.Pattern as pattern
use Rattle.core_language.specs.Pattern.{PlainPattern, PlainPatterns}
use Rattle.core_language.specs.Template as template_of
use Rattle.core_language.specs.Template.{PlainTemplate, PlainItems}
use Rattle.base_data.specs.Elements.{Each}
use Rattle.law_core.specs.Parts.{parts, all_parts, init_parts, case_parts, clause_parts, core_count, case_count, own_op}
use Rattle.law_core.specs.WellMade.{IsLeaf, HasForm}
use Rattle.law_invariants.specs.Holds.{TemplateHolds, ItemsHold, CoreHolds, CoresHold, InitsHold, CasesHold, ClausesHold}
use Rattle.law_invariants.specs.Invariant.{OptionHolds}
use Rattle.law_levels.specs.Levels.{pattern_levels, patterns_levels, template_levels, items_levels}
use Rattle.stx_tree.specs.Measures.{max_height}
use Rattle.stx_tree.specs.Tree as tree_of
use Rattle.stx_tree.specs.Tree.{Tree}
use Rattle.law_spellings.specs.Numbers.{PatternFits, PatternsFit, EachPatternFits, TemplateFits, ItemsFit, CoreFits, CoresFit, InitsFit, CasesFit, ClausesFit}
use Rattle.law_spellings.specs.Spelled.{SpelledPattern, SpelledPatterns, EachSpelled, spelled}
use Rattle.law_spellings.proofs.Heights.{left, right, through}
use Rattle.law_spellings.proofs.SpelledTrees.{both-true, all-fit, bool-fits, atom-fits, datum-fits, whole-tree-fits}

down : (a n : ℕ) → suc a ≤ suc n → a ≤ n
down a n h = omega (arith, h)

none-fits : (a : ℕ) → suc a ≤ 0 → ⊥
none-fits a h = omega (arith, h)

one-less : (a n : ℕ) → 1 + a ≤ suc n → a ≤ n
one-less a n h = omega (arith, h)

no-room : (a : ℕ) → 1 + a ≤ 0 → ⊥
no-room a h = omega (arith, h)

-- ---- patterns

abbrev PatternPart : ℕ → PlainPattern → Type 0
PatternPart n q = (pattern_levels q ≤ n) × (SpelledPattern q × PatternFits q)

plain-parts : (n : ℕ) (ps : PlainPatterns) → patterns_levels ps ≤ n → EachSpelled ps → EachPatternFits ps → Each (PatternPart n) (plain_patterns ps)
plain-parts n pattern.none le h k = tt
plain-parts n (pattern.more q ps) le h k = ((left (pattern_levels q) (patterns_levels ps) n le, (h.0, k.0)), plain-parts n ps (right (pattern_levels q) (patterns_levels ps) n le) h.1 k.1)
plain-parts n (pattern.dots q ps) le h k = ((left (pattern_levels q) (patterns_levels ps) n le, (h.0, k.0)), plain-parts n ps (right (pattern_levels q) (patterns_levels ps) n le) h.1 k.1)

-- those before an ellipsis, the one before it, and those after it
record SplitParts (n : ℕ) (ps : PlainPatterns) : Type 0 where
  before : Each (PatternPart n) (split ps).0
  at : OptionHolds (PatternPart n) (split ps).1.0
  behind : Each (PatternPart n) (split ps).1.1
  is : is_split (split ps).1 ≡ true

split-parts : (n : ℕ) (ps : PlainPatterns) → patterns_levels ps ≤ n → EachSpelled ps → EachPatternFits ps → SplitParts n ps
split-parts n pattern.none le h k = record { before = tt; at = tt; behind = tt; is = refl }
split-parts n (pattern.more q ps) le h k =
    let rest = split-parts n ps (right (pattern_levels q) (patterns_levels ps) n le) h.1 k.1 in
    record { before = ((left (pattern_levels q) (patterns_levels ps) n le, (h.0, k.0)), rest.before); at = rest.at; behind = rest.behind; is = rest.is }
split-parts n (pattern.dots q ps) le h k =
    record { before = tt; at = (left (pattern_levels q) (patterns_levels ps) n le, (h.0, k.0)); behind = plain-parts n ps (right (pattern_levels q) (patterns_levels ps) n le) h.1 k.1; is = refl }

optional-fits : {A : Type 0} (Q : A → Type 0) (k : Codec A) → ((x : A) → Q x → k.fits x ≡ true) → (o : Option A) → OptionHolds Q o → (optional k).fits o ≡ true
optional-fits Q k h None j = refl
optional-fits Q k h (Some x) j = h x j

elements-fit : (n : ℕ) (part : Codec PlainPattern) → ((q : PlainPattern) → PatternPart n q → part.fits q ≡ true) → (ps : PlainPatterns) → patterns_levels ps ≤ n → SpelledPatterns ps → PatternsFit ps
    → (codecs.elements part).fits ps ≡ true
unfolding codecs.elements
elements-fit n part each ps le h k =
    let s = split-parts n ps le h.1 k.1 in
    let before = both-true (u64.fits (length (split ps).0)) (list_all part.fits (split ps).0) k.0.0 (all-fit (PatternPart n) part.fits each (split ps).0 s.before) in
    let at = optional-fits (PatternPart n) part each (split ps).1.0 s.at in
    let behind = both-true (u64.fits (length (split ps).1.1)) (list_all part.fits (split ps).1.1) k.0.1 (all-fit (PatternPart n) part.fits each (split ps).1.1 s.behind) in
    let others = both-true ((optional part).fits (split ps).1.0 && (listed part).fits (split ps).1.1) (is_split (split ps).1) (both-true ((optional part).fits (split ps).1.0) ((listed part).fits (split ps).1.1) at behind) s.is in
    both-true ((listed part).fits (split ps).0 && (((optional part).fits (split ps).1.0 && (listed part).fits (split ps).1.1) && is_split (split ps).1)) (has_one_dots ps)
    (both-true ((listed part).fits (split ps).0) (((optional part).fits (split ps).1.0 && (listed part).fits (split ps).1.1) && is_split (split ps).1) before others) h.0

leaf-is : (t : Tree) → IsLeaf t → codecs.is_leaf t ≡ true
leaf-is (tree_of.atom s x) h = absurd (h)
leaf-is (tree_of.leaf s x k) h = refl
leaf-is (tree_of.pair s x d) h = absurd (h)
leaf-is (tree_of.vector s d) h = absurd (h)

pub pattern-fits : (room : ℕ) (q : PlainPattern) → pattern_levels q ≤ room → SpelledPattern q → PatternFits q → (codecs.pattern room).fits q ≡ true
unfolding codecs.pattern pattern_level
pattern-fits zero pattern.any le h k = absurd (none-fits 0 le)
pattern-fits zero (pattern.variable l) le h k = absurd (none-fits 0 le)
pattern-fits zero (pattern.literal t) le h k = absurd (none-fits 0 le)
pattern-fits zero (pattern.atom x) le h k = absurd (none-fits 0 le)
pattern-fits zero (pattern.list ps q) le h k = absurd (none-fits (max (patterns_levels ps) (pattern_levels q)) le)
pattern-fits zero (pattern.vector ps) le h k = absurd (none-fits (patterns_levels ps) le)
pattern-fits (suc n) pattern.any le h k = refl
pattern-fits (suc n) (pattern.variable l) le h k = k
pattern-fits (suc n) (pattern.literal t) le h k = both-true ((tree 1000).fits t) (codecs.is_leaf t) (whole-tree-fits t h.1 k) (leaf-is t h.0)
pattern-fits (suc n) (pattern.atom x) le h k = atom-fits x h k
pattern-fits (suc n) (pattern.list ps q) le h k =
    let low = down (max (patterns_levels ps) (pattern_levels q)) n le in
    both-true ((codecs.elements (codecs.pattern n)).fits ps) ((codecs.pattern n).fits q)
    (elements-fit n (codecs.pattern n) (λ r j. pattern-fits n r j.0 j.1.0 j.1.1) ps (left (patterns_levels ps) (pattern_levels q) n low) h.0 k.0)
    (pattern-fits n q (right (patterns_levels ps) (pattern_levels q) n low) h.1 k.1)
pattern-fits (suc n) (pattern.vector ps) le h k = elements-fit n (codecs.pattern n) (λ r j. pattern-fits n r j.0 j.1.0 j.1.1) ps (down (patterns_levels ps) n le) h k

-- ---- templates

mutual
  unfolding template template_level items

  pub template-fits : (room : ℕ) (x : PlainTemplate) → template_levels x ≤ room → TemplateHolds spelled x → TemplateFits x → (template room).fits x ≡ true
  template-fits zero (template_of.variable l d) le h k = absurd (none-fits 0 le)
  template-fits zero (template_of.constant t) le h k = absurd (none-fits 0 le)
  template-fits zero (template_of.list is x) le h k = absurd (none-fits (max (items_levels is) (template_levels x)) le)
  template-fits zero (template_of.vector is) le h k = absurd (none-fits (items_levels is) le)
  template-fits (suc n) (template_of.variable l d) le h k = both-true (label.fits l) (u32.fits d) k.0 k.1
  template-fits (suc n) (template_of.constant t) le h k = whole-tree-fits t h k
  template-fits (suc n) (template_of.list is x) le h k =
      let low = down (max (items_levels is) (template_levels x)) n le in
      both-true (u64.fits (length (item_list is)) && list_all (template n then u32).fits (item_list is)) ((template n).fits x)
      (both-true (u64.fits (length (item_list is))) (list_all (template n then u32).fits (item_list is)) k.0.0 (items-fit n is (left (items_levels is) (template_levels x) n low) h.0 k.0.1))
      (template-fits n x (right (items_levels is) (template_levels x) n low) h.1 k.1)
  template-fits (suc n) (template_of.vector is) le h k =
      both-true (u64.fits (length (item_list is))) (list_all (template n then u32).fits (item_list is)) k.0 (items-fit n is (down (items_levels is) n le) h k.1)

  items-fit : (n : ℕ) (is : PlainItems) → items_levels is ≤ n → ItemsHold spelled is → ItemsFit is → list_all (template n then u32).fits (item_list is) ≡ true
  items-fit n template_of.none le h k = refl
  items-fit n (template_of.more x e is) le h k =
      both-true ((template n).fits x && u32.fits e) (list_all (template n then u32).fits (item_list is))
      (both-true ((template n).fits x) (u32.fits e) (template-fits n x (left (template_levels x) (items_levels is) n le) h.0 k.0.0) k.0.1) (items-fit n is (right (template_levels x) (items_levels is) n le) h.1 k.1)

-- ---- core code

-- of an expression alone: its form, and its op
abbrev pub Own : PlainCore → Type 0
Own x = HasForm x × Each (λ (o : ℕ). o < name_count) (own_op x)

abbrev pub AllOwn : List PlainCore → Type 0
AllOwn xs = Each Own xs

pub before : {A : Type 0} (P : A → Type 0) (xs ys : List A) → Each P (xs ++ ys) → Each P xs
before P [] ys h = tt
before P (x ∷ xs) ys h = (h.0, before P xs ys h.1)

pub behind : {A : Type 0} (P : A → Type 0) (xs ys : List A) → Each P (xs ++ ys) → Each P ys
behind P [] ys h = h
behind P (x ∷ xs) ys h = behind P xs ys h.1

pub own-of : (xs : List PlainCore) → Each HasForm xs → Each (λ (o : ℕ). o < name_count) (flat_map own_op xs) → AllOwn xs
own-of [] h k = tt
own-of (x ∷ xs) h k = ((h.0, before (λ (o : ℕ). o < name_count) (own_op x) (flat_map own_op xs) k), own-of xs h.1 (behind (λ (o : ℕ). o < name_count) (own_op x) (flat_map own_op xs) k))

count-is : (xs : PlainCores) → core_count xs ≡ length (core_list xs)
count-is c.none = refl
count-is (c.more x xs) = ap suc (count-is xs)

two-are : (xs : PlainCores) → 2 ≤ core_count xs → are_two xs ≡ true
two-are xs h = le-leb 2 (length (core_list xs)) (subst (λ n. 2 ≤ n) (count-is xs) h)

cases-are : (xs : PlainCases) → case_count xs ≡ length (case_list xs)
cases-are c.no_case = refl
cases-are (c.case f x xs) = ap suc (cases-are xs)

one-is : (xs : PlainCases) (plain : Bool) (n : CodeNo) → HasForm (c.procedure n xs plain) → (not plain || nat_eq (length (case_list xs)) 1) ≡ true
one-is xs false n h = refl
one-is xs true n h = eq-eqb (length (case_list xs)) 1 (sym (cases-are xs) ∙ h)

op-fits : (o : Op) → o.0 < name_count → op.fits o ≡ true
unfolding op u16
op-fits o h = both-true (nat_lt o.0 65536) (nat_lt o.0 name_count) (lt-ltb o.0 65536 (omega (arith, h))) (lt-ltb o.0 name_count h)

abbrev H : PlainCore → Type 0
H = CoreHolds spelled

mutual
  unfolding core core_level core_parts codecs.inits codecs.cases codecs.clauses

  pub core-fits : (room : ℕ) (x : PlainCore) → height x ≤ room → H x → AllOwn (parts x) → CoreFits x → (core room).fits x ≡ true
  core-fits zero (c.quoted d) le h o k = absurd (no-room 0 le)
  core-fits zero (c.variable l) le h o k = absurd (no-room 0 le)
  core-fits zero (c.primitive p) le h o k = absurd (no-room 0 le)
  core-fits zero (c.one_armed x y) le h o k = absurd (no-room (max (height x) (height y)) le)
  core-fits zero (c.two_armed x y z) le h o k = absurd (no-room (max (height x) (max (height y) (height z))) le)
  core-fits zero (c.assignment l x) le h o k = absurd (no-room (height x) le)
  core-fits zero (c.sequence xs) le h o k = absurd (no-room (highest xs) le)
  core-fits zero (c.procedure n xs plain) le h o k = absurd (no-room (highest_case xs) le)
  core-fits zero (c.letrec star is x) le h o k = absurd (no-room (max (highest_init is) (height x)) le)
  core-fits zero (c.call x xs) le h o k = absurd (no-room (max (height x) (highest xs)) le)
  core-fits zero (c.instance x s) le h o k = absurd (no-room 0 le)
  core-fits zero (c.matching x xs s) le h o k = absurd (no-room (max (height x) (highest_clause xs)) le)
  core-fits (suc n) (c.quoted d) le h o k = datum-fits d h k
  core-fits (suc n) (c.variable l) le h o k = k
  core-fits (suc n) (c.primitive p) le h o k = op-fits p o.0.1.0
  core-fits (suc n) (c.one_armed x y) le h o k =
      let low = one-less (max (height x) (height y)) n le in
      both-true ((core n).fits x) ((core n).fits y && true) (core-fits n x (left (height x) (height y) n low) h.0 (before Own (parts x) (parts y) o.1) k.0)
      (both-true ((core n).fits y) true (core-fits n y (right (height x) (height y) n low) h.1 (behind Own (parts x) (parts y) o.1) k.1) refl)
  core-fits (suc n) (c.two_armed x y z) le h o k =
      let low = one-less (max (height x) (max (height y) (height z))) n le in
      let others = right (height x) (max (height y) (height z)) n low in
      let own = behind Own (parts x) (parts y ++ parts z) o.1 in
      both-true ((core n).fits x) ((core n).fits y && (core n).fits z) (core-fits n x (left (height x) (max (height y) (height z)) n low) h.0 (before Own (parts x) (parts y ++ parts z) o.1) k.0)
      (both-true ((core n).fits y) ((core n).fits z) (core-fits n y (left (height y) (height z) n others) h.1.0 (before Own (parts y) (parts z) own) k.1.0)
      (core-fits n z (right (height y) (height z) n others) h.1.1 (behind Own (parts y) (parts z) own) k.1.1))
  core-fits (suc n) (c.assignment l x) le h o k = both-true (label.fits l) ((core n).fits x) k.0 (core-fits n x (one-less (height x) n le) h o.1 k.1)
  core-fits (suc n) (c.sequence xs) le h o k =
      both-true (u64.fits (length (core_list xs)) && list_all (core n).fits (core_list xs)) (are_two xs)
      (both-true (u64.fits (length (core_list xs))) (list_all (core n).fits (core_list xs)) k.0 (cores-fit n xs (one-less (highest xs) n le) h o.1 k.1)) (two-are xs o.0.0)
  core-fits (suc n) (c.procedure m xs plain) le h o k =
      let list = (u64.fits (length (case_list xs)) && list_all (formals then core n).fits (case_list xs)) in
      both-true (code_number.fits m && (list && bool.fits plain)) (not plain || nat_eq (length (case_list xs)) 1)
      (both-true (code_number.fits m) (list && bool.fits plain) k.0
      (both-true list (bool.fits plain) (both-true (u64.fits (length (case_list xs))) (list_all (formals then core n).fits (case_list xs)) k.1.0 (cases-fit n xs (one-less (highest_case xs) n le) h o.1 k.1.1)) (bool-fits plain)))
      (one-is xs plain m o.0.0)
  core-fits (suc n) (c.letrec star is x) le h o k =
      let low = one-less (max (highest_init is) (height x)) n le in
      let list = (u64.fits (length (init_list is)) && list_all (label then core n).fits (init_list is)) in
      both-true (bool.fits star) (list && (core n).fits x) (bool-fits star)
      (both-true list ((core n).fits x)
      (both-true (u64.fits (length (init_list is))) (list_all (label then core n).fits (init_list is)) k.0.0 (inits-fit n is (left (highest_init is) (height x) n low) h.0 (before Own (init_parts is) (parts x) o.1) k.0.1))
      (core-fits n x (right (highest_init is) (height x) n low) h.1 (behind Own (init_parts is) (parts x) o.1) k.1))
  core-fits (suc n) (c.call x xs) le h o k =
      let low = one-less (max (height x) (highest xs)) n le in
      both-true ((core n).fits x) (u64.fits (length (core_list xs)) && list_all (core n).fits (core_list xs))
      (core-fits n x (left (height x) (highest xs) n low) h.0 (before Own (parts x) (all_parts xs) o.1) k.0)
      (both-true (u64.fits (length (core_list xs))) (list_all (core n).fits (core_list xs)) k.1.0 (cores-fit n xs (right (height x) (highest xs) n low) h.1 (behind Own (parts x) (all_parts xs) o.1) k.1.1))
  core-fits (suc n) (c.instance x s) le h o k =
      both-true ((template 2000).fits x) (span.fits s) (template-fits 2000 x (through (template_levels x) max_height 2000 h.0 (omega arith)) h.1 k.0) k.1
  core-fits (suc n) (c.matching x xs s) le h o k =
      let low = one-less (max (height x) (highest_clause xs)) n le in
      let list = (u64.fits (length (clause_list xs)) && list_all (codecs.pattern 2000 then (optional (core n) then core n)).fits (clause_list xs)) in
      both-true ((core n).fits x) (list && span.fits s) (core-fits n x (left (height x) (highest_clause xs) n low) h.0 (before Own (parts x) (clause_parts xs) o.1) k.0)
      (both-true list (span.fits s)
      (both-true (u64.fits (length (clause_list xs))) (list_all (codecs.pattern 2000 then (optional (core n) then core n)).fits (clause_list xs)) k.1.0.0
      (clauses-fit n xs (right (height x) (highest_clause xs) n low) h.1 (behind Own (parts x) (clause_parts xs) o.1) k.1.0.1)) k.1.1)

  cores-fit : (n : ℕ) (xs : PlainCores) → highest xs ≤ n → CoresHold spelled xs → AllOwn (all_parts xs) → CoresFit xs → list_all (core n).fits (core_list xs) ≡ true
  cores-fit n c.none le h o k = refl
  cores-fit n (c.more x xs) le h o k =
      both-true ((core n).fits x) (list_all (core n).fits (core_list xs)) (core-fits n x (left (height x) (highest xs) n le) h.0 (before Own (parts x) (all_parts xs) o) k.0)
      (cores-fit n xs (right (height x) (highest xs) n le) h.1 (behind Own (parts x) (all_parts xs) o) k.1)

  inits-fit : (n : ℕ) (is : PlainInits) → highest_init is ≤ n → InitsHold spelled is → AllOwn (init_parts is) → InitsFit is → list_all (label then core n).fits (init_list is) ≡ true
  inits-fit n c.no_init le h o k = refl
  inits-fit n (c.init l x is) le h o k =
      both-true (label.fits l && (core n).fits x) (list_all (label then core n).fits (init_list is))
      (both-true (label.fits l) ((core n).fits x) k.0.0 (core-fits n x (left (height x) (highest_init is) n le) h.0 (before Own (parts x) (init_parts is) o) k.0.1))
      (inits-fit n is (right (height x) (highest_init is) n le) h.1 (behind Own (parts x) (init_parts is) o) k.1)

  cases-fit : (n : ℕ) (xs : PlainCases) → highest_case xs ≤ n → CasesHold spelled xs → AllOwn (case_parts xs) → CasesFit xs → list_all (formals then core n).fits (case_list xs) ≡ true
  cases-fit n c.no_case le h o k = refl
  cases-fit n (c.case f x xs) le h o k =
      both-true (formals.fits f && (core n).fits x) (list_all (formals then core n).fits (case_list xs))
      (both-true (formals.fits f) ((core n).fits x) k.0.0 (core-fits n x (left (height x) (highest_case xs) n le) h.0 (before Own (parts x) (case_parts xs) o) k.0.1))
      (cases-fit n xs (right (height x) (highest_case xs) n le) h.1 (behind Own (parts x) (case_parts xs) o) k.1)

  clauses-fit : (n : ℕ) (xs : PlainClauses) → highest_clause xs ≤ n → ClausesHold spelled xs → AllOwn (clause_parts xs) → ClausesFit xs
      → list_all (codecs.pattern 2000 then (optional (core n) then core n)).fits (clause_list xs) ≡ true
  clauses-fit n c.no_clause le h o k = refl
  clauses-fit n (c.clause q x xs) le h o k =
      let rest = list_all (codecs.pattern 2000 then (optional (core n) then core n)).fits (clause_list xs) in
      both-true ((codecs.pattern 2000).fits q && (true && (core n).fits x)) rest
      (both-true ((codecs.pattern 2000).fits q) (true && (core n).fits x) (pattern-fits 2000 q (through (pattern_levels q) max_height 2000 h.0.0 (omega arith)) h.0.1 k.0.0)
      (core-fits n x (left (height x) (highest_clause xs) n le) h.1.0 (before Own (parts x) (clause_parts xs) o) k.0.1))
      (clauses-fit n xs (right (height x) (highest_clause xs) n le) h.1.1 (behind Own (parts x) (clause_parts xs) o) k.1)
  clauses-fit n (c.fended q f x xs) le h o k =
      let rest = list_all (codecs.pattern 2000 then (optional (core n) then core n)).fits (clause_list xs) in
      let others = right (height f) (max (height x) (highest_clause xs)) n le in
      let own = behind Own (parts f) (parts x ++ clause_parts xs) o in
      both-true ((codecs.pattern 2000).fits q && ((core n).fits f && (core n).fits x)) rest
      (both-true ((codecs.pattern 2000).fits q) ((core n).fits f && (core n).fits x) (pattern-fits 2000 q (through (pattern_levels q) max_height 2000 h.0.0 (omega arith)) h.0.1 k.0.0)
      (both-true ((core n).fits f) ((core n).fits x) (core-fits n f (left (height f) (max (height x) (highest_clause xs)) n le) h.1.0 (before Own (parts f) (parts x ++ clause_parts xs) o) k.0.1.0)
      (core-fits n x (left (height x) (highest_clause xs) n others) h.1.1.0 (before Own (parts x) (clause_parts xs) own) k.0.1.1)))
      (clauses-fit n xs (right (height x) (highest_clause xs) n others) h.1.1.1 (behind Own (parts x) (clause_parts xs) own) k.1)
