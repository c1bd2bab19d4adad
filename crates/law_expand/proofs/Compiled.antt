-- What the pattern of a form is: its variables are new, each with its depth, and its literals are identifiers.
use Rattle.std.proofs.Common.{◌≡◌, ℕ, suc, ◌+◌, ◌≤◌, Bool, true, false, List, [], ◌∷◌, ◌++◌, map, Option, None, Some, Result, Ok, Err, refl, sym, ◌∙◌, ap, subst, arith, append-nil, append_assoc, if◌then◌else◌}
use Rattle.base_data.proofs.ElementLemmas.{each-append}
use Rattle.base_data.specs.Act.{after}
use Rattle.base_data.specs.Elements.{Each}
use Rattle.base_data.specs.Gives.{◌>>=◌}
use Rattle.base_data.specs.Named.{Named}
use Rattle.base_data.specs.declared.fault.Fault.{Fault}
use Rattle.base_data.specs.declared.library.LibName.{LibName}
use Rattle.base_data.specs.declared.name.Label.{Label}
use Rattle.stx_tree.specs.Tree as tree
use Rattle.stx_tree.specs.Tree.{Tree}
use Rattle.stx_scope.specs.Stands.{stands}
use Rattle.core_language.specs.Pattern.{PlainPattern, list, vector, PlainPatterns, none, more, dots, patterns, patterns_on}
use Rattle.core_language.specs.References.{variables, all_variables}
use Rattle.core_language.specs.declared.core_form.CoreForm.TheVariants as form
use Rattle.law_core.specs.Parts.{literals, all_literals}
use Rattle.law_core.specs.Templates.{Depths, depths, all_depths}
use Rattle.law_core.specs.WellMade.{IsLeaf}
use Rattle.eval_pattern.specs.Compile.{PatternScope, TakenVariables, ElementPattern, WalkedPatterns, is_known, is_literal, named, new_variable, leaf_pattern, no_parts, with_part, dots_of, parts_of, with_repeated, next_ellipsis, repeated_part, element, step, walked, list_with, vector_with, pattern, element_patterns, tail_pattern, literals_checked, with_variables, compiled}
use Rattle.eval_pattern.specs.Keywords.{is_form}
use Rattle.eval_pattern.specs.declared.compile.Compiled.{Compiled}
use Rattle.eval_pattern.specs.declared.compile.PatternVariable.{PatternVariable}
use Rattle.law_expand.proofs.Fresh.{FreshLabels, label_name, fresh-none, fresh-one, fresh-append}

-- the type of the parts so far, which its crate keeps to itself
abbrev pub Given : {A B : Type 0} → (A → B) → Type 0
Given {A} {B} f = A

abbrev pub PatternParts : Type 0
PatternParts = Given parts_of

abbrev pub variable_label : PatternVariable → Label
variable_label v = v.label

abbrev pub variable_depth : PatternVariable → Label × ℕ
variable_depth v = (v.label, v.depth)

-- what was taken with some labels, their depths, and literals
pub record Takes (own : LibName) (s : TakenVariables) (ds : Depths) (ls : List Label) (ts : List Tree) (u : TakenVariables) : Type 0 where
  pub news : List PatternVariable
  pub is : u.0 ≡ s.0 ++ news
  pub library : u.1.library ≡ own
  pub up : s.1.number ≤ u.1.number
  pub fresh : FreshLabels own s.1.number u.1.number (map variable_label news)
  pub depths : ds ≡ map variable_depth news
  pub labels : ls ≡ map variable_label news
  pub leaves : Each IsLeaf ts

-- where there is a value, this holds of it
abbrev pub GaveBy : {A S : Type 0} → (A → S → Type 0) → Result (A × S) Fault → Type 0
GaveBy P (Ok x) = P x.0 x.1
GaveBy P (Err e) = Unit {0}

by-after : {A B S : Type 0} (P : A → S → Type 0) (Q : B → S → Type 0) (r : Result (A × S) Fault) (k : A → S → Result (B × S) Fault) → GaveBy P r → ((a : A) (t : S) → P a t → GaveBy Q (k a t)) → GaveBy Q (after r k)
by-after P Q (Ok x) k h next = next x.0 x.1 h
by-after P Q (Err e) k h next = tt

by-if : {A S : Type 0} (P : A → S → Type 0) (b : Bool) (r q : Result (A × S) Fault) → GaveBy P r → GaveBy P q → GaveBy P (if b then r else q)
by-if P true r q h k = h
by-if P false r q h k = k

map-append : {A B : Type 0} (g : A → B) (xs ys : List A) → map g (xs ++ ys) ≡ map g xs ++ map g ys
map-append g [] ys = refl
map-append g (x ∷ xs) ys = ap (λ zs. g x ∷ zs) (map-append g xs ys)

-- What adds up over elements adds up as they are taken.
module _ {X : Type 0} (h d : PlainPattern → List X) (H : PlainPatterns → List X) (is-none : H none ≡ []) (is-more : (p : PlainPattern) (q : PlainPatterns) → H (more p q) ≡ h p ++ H q)
    (is-dots : (p : PlainPattern) (q : PlainPatterns) → H (dots p q) ≡ d p ++ H q) where
  on-more : (ps : List PlainPattern) (p : PlainPattern) → H (patterns (ps ++ p ∷ [])) ≡ H (patterns ps) ++ h p
  on-more [] p = is-more p none ∙ ap (λ xs. h p ++ xs) is-none ∙ append-nil (h p) ∙ ap (λ xs. xs ++ h p) (sym is-none)
  on-more (x ∷ ps) p = is-more x (patterns (ps ++ p ∷ [])) ∙ ap (λ xs. h x ++ xs) (on-more ps p) ∙ sym (append_assoc (h x) (H (patterns ps)) (h p)) ∙ ap (λ xs. xs ++ h p) (sym (is-more x (patterns ps)))

  -- behind others
  on-behind : (ps : List PlainPattern) (q r : PlainPatterns) (xs : List X) → H r ≡ H q ++ xs → H (patterns_on ps r) ≡ H (patterns_on ps q) ++ xs
  on-behind [] q r xs e = e
  on-behind (p ∷ ps) q r xs e = is-more p (patterns_on ps r) ∙ ap (λ ys. h p ++ ys) (on-behind ps q r xs e) ∙ sym (append_assoc (h p) (H (patterns_on ps q)) xs) ∙ ap (λ ys. ys ++ xs) (sym (is-more p (patterns_on ps q)))

  pub part-more : (parts : PatternParts) (p : PlainPattern) → (parts.repeated ≡ None → parts.after ≡ []) → H (parts_of (with_part parts.repeated parts p)) ≡ H (parts_of parts) ++ h p
  part-more parts p alone = by parts.repeated refl
    where
      by : (o : Option PlainPattern) → parts.repeated ≡ o → H (parts_of (with_part o parts p)) ≡ H (parts_of parts) ++ h p
      by None e =
          ap (λ o. H (patterns_on (parts.before ++ p ∷ []) (dots_of o parts.after))) e ∙ on-more parts.before p
          ∙ ap (λ o. H (patterns_on parts.before (dots_of o parts.after)) ++ h p) (sym e)
      by (Some r) e =
          ap (λ o. H (patterns_on parts.before (dots_of o (parts.after ++ p ∷ [])))) e
          ∙ on-behind parts.before (dots r (patterns parts.after)) (dots r (patterns (parts.after ++ p ∷ []))) (h p)
          (is-dots r (patterns (parts.after ++ p ∷ [])) ∙ ap (λ xs. d r ++ xs) (on-more parts.after p) ∙ sym (append_assoc (d r) (H (patterns parts.after)) (h p)) ∙ ap (λ xs. xs ++ h p) (sym (is-dots r (patterns parts.after))))
          ∙ ap (λ o. H (patterns_on parts.before (dots_of o parts.after)) ++ h p) (sym e)

  pub part-dots : (parts : PatternParts) (p : PlainPattern) → parts.repeated ≡ None → parts.after ≡ [] → H (parts_of (record parts { repeated = Some p })) ≡ H (parts_of parts) ++ d p
  part-dots parts p e behind =
      ap (λ qs. H (patterns_on parts.before (dots p (patterns qs)))) behind
      ∙ on-behind parts.before none (dots p none) (d p) (is-dots p none ∙ ap (λ xs. d p ++ xs) is-none ∙ append-nil (d p) ∙ ap (λ xs. xs ++ d p) (sym is-none))
      ∙ ap (λ o. H (patterns_on parts.before (dots_of o parts.after)) ++ d p) (sym e)

module _ (own : LibName) where
  pub takes-none : (s : TakenVariables) → s.1.library ≡ own → Takes own s [] [] [] s
  takes-none s n = record { news = []; is = sym (append-nil s.0); library = n; up = omega arith; fresh = fresh-none label_name own s.1.number s.1.number; depths = refl; labels = refl; leaves = tt }

  pub takes-then : (s t u : TakenVariables) (ds es : Depths) (ls ms : List Label) (xs ys : List Tree) → Takes own s ds ls xs t → Takes own t es ms ys u → Takes own s (ds ++ es) (ls ++ ms) (xs ++ ys) u
  takes-then s t u ds es ls ms xs ys h k = record {
    news = h.news ++ k.news;
    is = k.is ∙ ap (λ zs. zs ++ k.news) h.is ∙ append_assoc s.0 h.news k.news;
    library = k.library;
    up = omega (arith, h.up, k.up);
    fresh = subst (FreshLabels own s.1.number u.1.number) (sym (map-append variable_label h.news k.news)) (fresh-append label_name own s.1.number t.1.number u.1.number (map variable_label h.news) (map variable_label k.news) h.up k.up h.fresh k.fresh);
    depths = (λ i. h.depths i ++ k.depths i) ∙ sym (map-append variable_depth h.news k.news);
    labels = (λ i. h.labels i ++ k.labels i) ∙ sym (map-append variable_label h.news k.news);
    leaves = each-append IsLeaf xs ys h.leaves k.leaves;
  }

  takes-by : (s u : TakenVariables) (ds es : Depths) (ls ms : List Label) (xs ys : List Tree) → es ≡ ds → ms ≡ ls → ys ≡ xs → Takes own s ds ls xs u → Takes own s es ms ys u
  takes-by s u ds es ls ms xs ys d l x h = record { news = h.news; is = h.is; library = h.library; up = h.up; fresh = h.fresh; depths = d ∙ h.depths; labels = l ∙ h.labels; leaves = subst (Each IsLeaf) (sym x) h.leaves }

  abbrev pub IsOf : ℕ → TakenVariables → PlainPattern → TakenVariables → Type 0
  IsOf depth s p u = Takes own s (depths depth p) (variables p) (literals p) u

  pub record HasParts (depth : ℕ) (s : TakenVariables) (parts : PatternParts) (u : TakenVariables) : Type 0 where
    pub takes : Takes own s (all_depths depth (parts_of parts)) (all_variables (parts_of parts)) (all_literals (parts_of parts)) u
    pub alone : parts.repeated ≡ None → parts.after ≡ []

  abbrev PartsGiven : ℕ → TakenVariables → WalkedPatterns → TakenVariables → Type 0
  PartsGiven depth start w v = HasParts depth start w.1 v

  abbrev IsElement : ElementPattern → Type 0
  IsElement x = (depth : ℕ) (s : TakenVariables) → s.1.library ≡ own → GaveBy (IsOf depth s) (x.1 depth s)

  parts-none : (depth : ℕ) (s : TakenVariables) → s.1.library ≡ own → HasParts depth s no_parts s
  parts-none depth s n = record { takes = takes-none s n; alone = λ e. refl }

  module _ (c : PatternScope) where
    variable-takes : (t : Tree) (depth : ℕ) (s : TakenVariables) → s.1.library ≡ own → GaveBy (IsOf depth s) (new_variable c.place t depth s)
    variable-takes t depth s n = by-if (IsOf depth s) (is_known s.0 t) _ _ tt (record {
      news = named s.1 t depth ∷ [];
      is = refl;
      library = n;
      up = omega arith;
      fresh = fresh-one label_name own s.1.number (s.1.number + 1) (record { 0 = s.1 }) (record { library = n; low = omega arith; high = omega arith });
      depths = refl;
      labels = refl;
      leaves = tt;
    })

    leaf-takes : (t : Tree) (depth : ℕ) (s : TakenVariables) → IsLeaf t → s.1.library ≡ own → GaveBy (IsOf depth s) (leaf_pattern c t depth s)
    leaf-takes t depth s leaf n =
        by-if (IsOf depth s) (is_form form.Ellipsis (stands c.frames t)) _ _ tt
        (by-if (IsOf depth s) (is_form form.Underscore (stands c.frames t)) _ _ (takes-none s n)
        (by-if (IsOf depth s) (is_literal c.literals t) _ _
        (record { news = []; is = sym (append-nil s.0); library = n; up = omega arith; fresh = fresh-none label_name own s.1.number s.1.number; depths = refl; labels = refl; leaves = (leaf, tt) })
        (variable-takes t depth s n)))

    -- Elements.

    part-takes : (depth : ℕ) (start : TakenVariables) (parts : PatternParts) (s : TakenVariables) (p : PlainPattern) (u : TakenVariables) → HasParts depth start parts s → IsOf depth s p u → HasParts depth start (with_part parts.repeated parts p) u
    part-takes depth start parts s p u h k = record {
      takes = takes-by start u (all_depths depth (parts_of parts) ++ depths depth p) (all_depths depth (parts_of q)) (all_variables (parts_of parts) ++ variables p) (all_variables (parts_of q)) (all_literals (parts_of parts) ++ literals p) (all_literals (parts_of q))
          (part-more (depths depth) (depths (suc depth)) (all_depths depth) refl (λ x y. refl) (λ x y. refl) parts p h.alone)
          (part-more variables variables all_variables refl (λ x y. refl) (λ x y. refl) parts p h.alone)
          (part-more literals literals all_literals refl (λ x y. refl) (λ x y. refl) parts p h.alone)
          (takes-then start s u (all_depths depth (parts_of parts)) (depths depth p) (all_variables (parts_of parts)) (variables p) (all_literals (parts_of parts)) (literals p) h.takes k);
      alone = by parts.repeated refl h.alone;
    }
      where
        q : PatternParts
        q = with_part parts.repeated parts p

        by : (o : Option PlainPattern) → parts.repeated ≡ o → (parts.repeated ≡ None → parts.after ≡ []) → (with_part o parts p).repeated ≡ None → (with_part o parts p).after ≡ []
        by None is a e = a e
        by (Some r) is a e = absurd (cc)

    repeated-takes : (depth : ℕ) (start : TakenVariables) (parts : PatternParts) (s : TakenVariables) (e : Tree) (p : PlainPattern) (u : TakenVariables) → HasParts depth start parts s → IsOf (suc depth) s p u
        → GaveBy (PartsGiven depth start) (repeated_part c.place e parts p u)
    repeated-takes depth start parts s e p u h k = by parts.repeated refl
      where
        q : PatternParts
        q = record parts { repeated = Some p }

        by : (o : Option PlainPattern) → parts.repeated ≡ o → GaveBy (PartsGiven depth start) (with_repeated c.place e o parts p >>= λ m. Ok ((true, m), u))
        by (Some r) is = tt
        by None is = record {
          takes = takes-by start u (all_depths depth (parts_of parts) ++ depths (suc depth) p) (all_depths depth (parts_of q)) (all_variables (parts_of parts) ++ variables p) (all_variables (parts_of q)) (all_literals (parts_of parts) ++ literals p) (all_literals (parts_of q))
              (part-dots (depths depth) (depths (suc depth)) (all_depths depth) refl (λ x y. refl) (λ x y. refl) parts p is (h.alone is))
              (part-dots variables variables all_variables refl (λ x y. refl) (λ x y. refl) parts p is (h.alone is))
              (part-dots literals literals all_literals refl (λ x y. refl) (λ x y. refl) parts p is (h.alone is))
              (takes-then start s u (all_depths depth (parts_of parts)) (depths (suc depth) p) (all_variables (parts_of parts)) (variables p) (all_literals (parts_of parts)) (literals p) h.takes k);
          alone = λ bad. absurd (cc);
        }

    element-takes : (depth : ℕ) (x : ElementPattern) (e : Option Tree) (start : TakenVariables) (parts : PatternParts) (s : TakenVariables) → IsElement x → HasParts depth start parts s → GaveBy (PartsGiven depth start) (element c depth x e parts s)
    element-takes depth x None start parts s one h =
        by-after (IsOf depth s) (PartsGiven depth start) (x.1 depth s) (λ p s. Ok ((false, with_part parts.repeated parts p), s)) (one depth s h.takes.library) (λ p u k. part-takes depth start parts s p u h k)
    element-takes depth x (Some e) start parts s one h =
        by-after (IsOf (suc depth) s) (PartsGiven depth start) (x.1 (depth + 1) s) (repeated_part c.place e parts)
        (let is : depth + 1 ≡ suc depth = omega arith in subst (λ n. GaveBy (IsOf n s) (x.1 (depth + 1) s)) is (one (depth + 1) s h.takes.library))
        (λ p u k. repeated-takes depth start parts s e p u h k)

    step-takes : (depth : ℕ) (skips : Bool) (x : ElementPattern) (e : Option Tree) (start : TakenVariables) (parts : PatternParts) (s : TakenVariables) → IsElement x → HasParts depth start parts s → GaveBy (PartsGiven depth start) (step c depth skips x e parts s)
    step-takes depth true x e start parts s one h = h
    step-takes depth false x e start parts s one h = element-takes depth x e start parts s one h

    walked-takes : (depth : ℕ) (skips : Bool) (start : TakenVariables) (parts : PatternParts) (xs : List ElementPattern) (s : TakenVariables) → Each IsElement xs → HasParts depth start parts s → GaveBy (HasParts depth start) (walked c depth skips parts xs s)
    walked-takes depth skips start parts [] s all h = h
    walked-takes depth skips start parts (x ∷ xs) s all h =
        by-after (PartsGiven depth start) (HasParts depth start) (step c depth skips x (next_ellipsis c.frames xs) parts s) (λ w. walked c depth w.0 w.1 xs) (step-takes depth skips x (next_ellipsis c.frames xs) start parts s all.0 h)
        (λ w v k. walked-takes depth w.0 start w.1 xs v all.1 k)

    vector-takes : (depth : ℕ) (xs : List ElementPattern) (s : TakenVariables) → Each IsElement xs → s.1.library ≡ own → GaveBy (IsOf depth s) (vector_with (walked c depth false no_parts xs) s)
    vector-takes depth xs s all n =
        by-after (HasParts depth s) (IsOf depth s) (walked c depth false no_parts xs s) (λ parts s. Ok (vector (parts_of parts), s)) (walked-takes depth false s no_parts xs s all (parts-none depth s n)) (λ parts u k. k.takes)

    list-takes : (depth : ℕ) (xs : List ElementPattern) (tail : TakenVariables → Result (PlainPattern × TakenVariables) Fault) (s : TakenVariables) → Each IsElement xs → ((u : TakenVariables) → u.1.library ≡ own → GaveBy (IsOf depth u) (tail u)) → s.1.library ≡ own
        → GaveBy (IsOf depth s) (list_with (walked c depth false no_parts xs) tail s)
    list-takes depth xs tail s all last n =
        by-after (HasParts depth s) (IsOf depth s) (walked c depth false no_parts xs s) (λ parts s. after (tail s) (λ p s. Ok (list (parts_of parts) p, s))) (walked-takes depth false s no_parts xs s all (parts-none depth s n))
        (λ parts u k. by-after (IsOf depth u) (IsOf depth s) (tail u) (λ p s. Ok (list (parts_of parts) p, s)) (last u k.takes.library)
        (λ p v j. takes-then s u v (all_depths depth (parts_of parts)) (depths depth p) (all_variables (parts_of parts)) (variables p) (all_literals (parts_of parts)) (literals p) k.takes j))

    mutual
      pattern-takes : (t : Tree) (depth : ℕ) (s : TakenVariables) → s.1.library ≡ own → GaveBy (IsOf depth s) (pattern c t depth s)
      pattern-takes (tree.atom r a) depth s n = takes-none s n
      pattern-takes (tree.leaf r x k) depth s n = leaf-takes (tree.leaf r x k) depth s tt n
      pattern-takes (tree.pair r a d) depth s n =
          list-takes depth ((a, pattern c a) ∷ element_patterns c d) (tail_pattern c d depth) s ((λ e u m. pattern-takes a e u m), elements-take d) (λ u m. tail-takes d depth u m) n
      pattern-takes (tree.vector r d) depth s n = vector-takes depth (element_patterns c d) s (elements-take d) n

      elements-take : (t : Tree) → Each IsElement (element_patterns c t)
      elements-take (tree.atom r a) = tt
      elements-take (tree.leaf r x k) = tt
      elements-take (tree.pair r a d) = ((λ e u m. pattern-takes a e u m), elements-take d)
      elements-take (tree.vector r d) = tt

      tail-takes : (t : Tree) (depth : ℕ) (s : TakenVariables) → s.1.library ≡ own → GaveBy (IsOf depth s) (tail_pattern c t depth s)
      tail-takes (tree.atom r a) depth s n = takes-none s n
      tail-takes (tree.leaf r x k) depth s n = leaf-takes (tree.leaf r x k) depth s tt n
      tail-takes (tree.pair r a d) depth s n = tail-takes d depth s n
      tail-takes (tree.vector r d) depth s n = vector-takes depth (element_patterns c d) s (elements-take d) n

-- a pattern with its variables
pub record Compiles (own : LibName) (old : Named) (c : Compiled) (new : Named) : Type 0 where
  pub library : new.library ≡ own
  pub up : old.number ≤ new.number
  pub fresh : FreshLabels own old.number new.number (map variable_label c.variables)
  pub depths : depths 0 c.pattern ≡ map variable_depth c.variables
  pub labels : variables c.pattern ≡ map variable_label c.variables
  pub leaves : Each IsLeaf (literals c.pattern)

pub compiles : (own : LibName) (c : PatternScope) (t : Tree) (names : Named) → names.library ≡ own → GaveBy (Compiles own names) (compiled c t names)
compiles own c t names n = checked (literals_checked c.frames c.place c.literals)
  where
    of : (r : Result (PlainPattern × TakenVariables) Fault) → GaveBy (IsOf own 0 ([], names)) r → GaveBy (Compiles own names) (with_variables r)
    of (Err e) h = tt
    of (Ok p) h = record {
      library = h.library;
      up = h.up;
      fresh = subst (λ vs. FreshLabels own names.number p.1.1.number (map variable_label vs)) (sym h.is) h.fresh;
      depths = h.depths ∙ ap (map variable_depth) (sym h.is);
      labels = h.labels ∙ ap (map variable_label) (sym h.is);
      leaves = h.leaves;
    }

    checked : (r : Result (Unit {0}) Fault) → GaveBy (Compiles own names) (r >>= λ _. with_variables (pattern c t 0 ([], names)))
    checked (Err e) = tt
    checked (Ok x) = of (pattern c t 0 ([], names)) (pattern-takes own c t 0 ([], names) n)
