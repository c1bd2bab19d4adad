-- What is among labels doesn't depend on how often or in which order they stand.
use Rattle.std.proofs.Common.{◌≡◌, ℕ, ◌+◌, Bool, true, false, List, [], ◌∷◌, ◌++◌, length, take, refl, sym, ap, ◌∙◌, append_assoc, append-nil}
use Rattle.std.specs.Prelude.{◌&&◌, ◌||◌, not, Option, None, Some, if◌then◌else◌}
use Rattle.std.specs.List.{list_any}
use Rattle.base_data.specs.declared.name.Label.{Label}
use Rattle.core_language.specs.Core.{PlainCore, quoted, variable, primitive, one_armed, two_armed, assignment, sequence, procedure, letrec, call, instance, matching}
use Rattle.core_language.specs.Core.{PlainCores, none, more, PlainInits, no_init, init, PlainCases, no_case, case, PlainClauses, no_clause, clause, fended}
use Rattle.core_language.specs.CoreView.{clauses}
use Rattle.core_language.specs.Labels.{same_label, has_label, with_label, with_labels}
use Rattle.core_language.specs.Template as template
use Rattle.core_language.specs.Template.{PlainTemplate, PlainItems}
use Rattle.core_language.specs.TemplateView.{items}
use Rattle.core_language.specs.declared.code.Clause.{Clause}
use Rattle.core_language.specs.declared.template.TemplateItem.{TemplateItem}
use Rattle.law_core.specs.Templates.{Depths, same_depth, depths, has_depths, suits, items_suit, templates_suit, all_suit, inits_suit, cases_suit, clauses_suit}
use Rattle.law_core.specs.Words.{among, each}
use Rattle.law_core.proofs.Decisions.{label_decides, depth_decides}
use Rattle.core_well_made.specs.Sets.{output_suits, has_depth_of, with_depth, with_depths}

module _ {A : Type 0} (same : A → A → Bool) where
  or_parts : (a b c : Bool) → (a || (b || c)) ≡ ((a || b) || c)
  or_parts true b c = refl
  or_parts false b c = refl

  pub joined_among : (xs ys : List A) (x : A) → among same (xs ++ ys) x ≡ (among same xs x || among same ys x)
  joined_among [] ys x = refl
  joined_among (y ∷ xs) ys x = ap (λ b. same x y || b) (joined_among xs ys x) ∙ or_parts (same x y) (among same xs x) (among same ys x)

  pub any_is_among : (xs : List A) (x : A) → list_any (same x) xs ≡ among same xs x
  any_is_among [] x = refl
  any_is_among (y ∷ xs) x = ap (λ b. same x y || b) (any_is_among xs x)

pub among_joined : (xs ys : List Label) (l : Label) → among same_label (xs ++ ys) l ≡ (among same_label xs l || among same_label ys l)
among_joined = joined_among same_label

pub has_is_among : (ls : List Label) (l : Label) → has_label ls l ≡ among same_label ls l
has_is_among = any_is_among same_label

pub deep_is_among : (vs : Depths) (v : Label × ℕ) → has_depth_of vs v ≡ among same_depth vs v
deep_is_among = any_is_among same_depth

-- ---- the first labels stay

take_all : {A : Type 0} (xs ys : List A) → take (length xs) (xs ++ ys) ≡ xs
take_all [] ys = refl
take_all (x ∷ xs) ys = ap (λ zs. x ∷ zs) (take_all xs ys)

-- what was added to a list
record IsLonger {A : Type 0} (xs ys : List A) : Type 0 where
  pub more : List A
  pub is : ys ≡ xs ++ more

longer_still : {A : Type 0} (xs ys zs : List A) → IsLonger xs ys → IsLonger ys zs → IsLonger xs zs
longer_still xs ys zs a b = record { more = a.more ++ b.more; is = b.is ∙ ap (λ ws. ws ++ b.more) a.is ∙ append_assoc xs a.more b.more }

kept_by : {A : Type 0} (xs ys : List A) → IsLonger xs ys → take (length xs) ys ≡ xs
kept_by xs ys l = ap (take (length xs)) l.is ∙ take_all xs l.more

label_longer : (ls : List Label) (l : Label) → IsLonger ls (with_label ls l)
label_longer ls l = by (has_label ls l)
  where
    by : (b : Bool) → IsLonger ls (if b then ls else ls ++ l ∷ [])
    by true = record { more = []; is = sym (append-nil ls) }
    by false = record { more = l ∷ []; is = refl }

labels_longer : (ls ms : List Label) → IsLonger ls (with_labels ls ms)
labels_longer ls [] = record { more = []; is = sym (append-nil ls) }
labels_longer ls (m ∷ ms) = longer_still ls (with_label ls m) (with_labels (with_label ls m) ms) (label_longer ls m) (labels_longer (with_label ls m) ms)

pub with_labels_kept : (ls ms : List Label) → take (length ls) (with_labels ls ms) ≡ ls
with_labels_kept ls ms = kept_by ls (with_labels ls ms) (labels_longer ls ms)

depth_longer : (vs : Depths) (v : Label × ℕ) → IsLonger vs (with_depth vs v)
depth_longer vs v = by (has_depth_of vs v)
  where
    by : (b : Bool) → IsLonger vs (if b then vs else vs ++ v ∷ [])
    by true = record { more = []; is = sym (append-nil vs) }
    by false = record { more = v ∷ []; is = refl }

depths_longer : (vs ws : Depths) → IsLonger vs (with_depths vs ws)
depths_longer vs [] = record { more = []; is = sym (append-nil vs) }
depths_longer vs (w ∷ ws) = longer_still vs (with_depth vs w) (with_depths (with_depth vs w) ws) (depth_longer vs w) (depths_longer (with_depth vs w) ws)

pub with_depths_kept : (vs ws : Depths) → take (length vs) (with_depths vs ws) ≡ vs
with_depths_kept vs ws = kept_by vs (with_depths vs ws) (depths_longer vs ws)

-- ---- each once, or as often as they come

module _ {A : Type 0} (same : A → A → Bool) (equal : (x y : A) → same x y ≡ true → x ≡ y) where
  or_swap : (a b c : Bool) → (a || (b || c)) ≡ (b || (a || c))
  or_swap true true c = refl
  or_swap true false c = refl
  or_swap false b c = refl

  or_none : (b : Bool) → (b || false) ≡ b
  or_none true = refl
  or_none false = refl

  -- what is there already adds nothing
  pub there_already : (xs : List A) (y x : A) → among same xs y ≡ true → (same x y || among same xs x) ≡ among same xs x
  there_already xs y x h = by (same x y) refl
    where
      by : (b : Bool) → same x y ≡ b → (b || among same xs x) ≡ among same xs x
      by false e = refl
      by true e = sym (ap (among same xs) (equal x y e) ∙ h)

  pub put_last : (xs : List A) (y x : A) → among same (xs ++ y ∷ []) x ≡ (same x y || among same xs x)
  put_last [] y x = refl
  put_last (z ∷ xs) y x = ap (λ b. same x z || b) (put_last xs y x) ∙ or_swap (same x z) (same x y) (among same xs x)

  pub once_more : (xs : List A) (y x : A) → among same (if among same xs y then xs else xs ++ y ∷ []) x ≡ (same x y || among same xs x)
  once_more xs y x = by (among same xs y) refl
    where
      by : (b : Bool) → among same xs y ≡ b → among same (if b then xs else xs ++ y ∷ []) x ≡ (same x y || among same xs x)
      by true h = sym (there_already xs y x h)
      by false h = put_last xs y x

  or_turned : (a b c : Bool) → ((a || b) || c) ≡ (b || (a || c))
  or_turned true true c = refl
  or_turned true false c = refl
  or_turned false true c = refl
  or_turned false false c = refl

  abbrev pub with_once : List A → A → List A
  with_once xs y = if list_any (same y) xs then xs else xs ++ y ∷ []

  pub once_last : (xs : List A) (y x : A) → among same (with_once xs y) x ≡ (same x y || among same xs x)
  once_last xs y x = ap (λ b. among same (if b then xs else xs ++ y ∷ []) x) (any_is_among same xs y) ∙ once_more xs y x

  abbrev pub with_once_all : List A → List A → List A
  with_once_all xs [] = xs
  with_once_all xs (y ∷ ys) = with_once_all (with_once xs y) ys

  pub once_all : (xs ys : List A) (x : A) → among same (with_once_all xs ys) x ≡ (among same xs x || among same ys x)
  once_all xs [] x = sym (or_none (among same xs x))
  once_all xs (y ∷ ys) x =
      once_all (with_once xs y) ys x ∙ ap (λ b. b || among same ys x) (once_last xs y x) ∙ or_turned (same x y) (among same xs x) (among same ys x)

label_equal : (l m : Label) → same_label l m ≡ true → l ≡ m
label_equal l m h = (label_decides l m).0 h

labels_are : (ls ms : List Label) → with_labels ls ms ≡ with_once_all same_label label_equal ls ms
labels_are ls [] = refl
labels_are ls (m ∷ ms) = labels_are (with_label ls m) ms

pub among_with : (ls ms : List Label) (l : Label) → among same_label (with_labels ls ms) l ≡ (among same_label ls l || among same_label ms l)
among_with ls ms l = ap (λ (ks : List Label). among same_label ks l) (labels_are ls ms) ∙ once_all same_label label_equal ls ms l

depth_equal : (v w : Label × ℕ) → same_depth v w ≡ true → v ≡ w
depth_equal v w h = (depth_decides v w).0 h

depths_are : (vs ws : Depths) → with_depths vs ws ≡ with_once_all same_depth depth_equal vs ws
depths_are vs [] = refl
depths_are vs (w ∷ ws) = depths_are (with_depth vs w) ws

pub among_with_depths : (vs ws : Depths) (v : Label × ℕ) → among same_depth (with_depths vs ws) v ≡ (among same_depth vs v || among same_depth ws v)
among_with_depths vs ws v = ap (λ (ks : Depths). among same_depth ks v) (depths_are vs ws) ∙ once_all same_depth depth_equal vs ws v

or_swapped : (a b : Bool) → (a || b) ≡ (b || a)
or_swapped true true = refl
or_swapped true false = refl
or_swapped false true = refl
or_swapped false false = refl

pub and_both : {a b c d : Bool} → a ≡ b → c ≡ d → (a && c) ≡ (b && d)
and_both e f = λ i. e i && f i

-- ---- templates

abbrev SameDepths : Depths → Depths → Type 0
SameDepths vs ws = (v : Label × ℕ) → among same_depth vs v ≡ among same_depth ws v

inside_depths : (ks fs : Depths) → SameDepths (with_depths ks fs) (fs ++ ks)
inside_depths ks fs v =
    among_with_depths ks fs v ∙ or_swapped (among same_depth ks v) (among same_depth fs v) ∙ sym (joined_among same_depth fs ks v)

behind_depths : (xs vs ws : Depths) → SameDepths vs ws → SameDepths (xs ++ vs) (xs ++ ws)
behind_depths xs vs ws h v = joined_among same_depth xs vs v ∙ ap (λ b. among same_depth xs v || b) (h v) ∙ sym (joined_among same_depth xs ws v)

mutual
  same_suits : (vs ws : Depths) → SameDepths vs ws → (n : ℕ) (t : PlainTemplate) → suits vs n t ≡ suits ws n t
  same_suits vs ws h n (template.variable l d) = and_both (h (l, d)) refl
  same_suits vs ws h n (template.constant t) = refl
  same_suits vs ws h n (template.list is t) = and_both (same_items_suit vs ws h n is) (same_suits vs ws h n t)
  same_suits vs ws h n (template.vector is) = same_items_suit vs ws h n is

  same_items_suit : (vs ws : Depths) → SameDepths vs ws → (n : ℕ) (is : PlainItems) → items_suit vs n is ≡ items_suit ws n is
  same_items_suit vs ws h n template.none = refl
  same_items_suit vs ws h n (template.more t e is) = and_both refl (and_both (same_suits vs ws h (n + e) t) (same_items_suit vs ws h n is))

-- an item, and then the others
pub items_suit_more : (vs : Depths) (n : ℕ) (x : TemplateItem) (xs : List TemplateItem) → items_suit vs n (items (x ∷ xs)) ≡ (items_suit vs n (items (x ∷ [])) && items_suit vs n (items xs))
items_suit_more vs n x xs = by (has_depths x.ellipses x.template) (suits vs (n + x.ellipses) x.template)
  where
    by : (a b : Bool) → (a && (b && items_suit vs n (items xs))) ≡ ((a && (b && true)) && items_suit vs n (items xs))
    by true true = refl
    by true false = refl
    by false b = refl

mutual
  same_templates : (vs ws : Depths) → SameDepths vs ws → (c : PlainCore) → templates_suit vs c ≡ templates_suit ws c
  same_templates vs ws h (quoted d) = refl
  same_templates vs ws h (variable l) = refl
  same_templates vs ws h (primitive o) = refl
  same_templates vs ws h (one_armed c d) = and_both (same_templates vs ws h c) (same_templates vs ws h d)
  same_templates vs ws h (two_armed c d e) = and_both (same_templates vs ws h c) (and_both (same_templates vs ws h d) (same_templates vs ws h e))
  same_templates vs ws h (assignment l c) = same_templates vs ws h c
  same_templates vs ws h (sequence cs) = same_all vs ws h cs
  same_templates vs ws h (procedure n cs p) = same_cases vs ws h cs
  same_templates vs ws h (letrec o is c) = and_both (same_inits vs ws h is) (same_templates vs ws h c)
  same_templates vs ws h (call c cs) = and_both (same_templates vs ws h c) (same_all vs ws h cs)
  same_templates vs ws h (instance t s) = same_suits vs ws h 0 t
  same_templates vs ws h (matching c cs s) = and_both (same_templates vs ws h c) (same_clauses vs ws h cs)

  same_all : (vs ws : Depths) → SameDepths vs ws → (cs : PlainCores) → all_suit vs cs ≡ all_suit ws cs
  same_all vs ws h none = refl
  same_all vs ws h (more c cs) = and_both (same_templates vs ws h c) (same_all vs ws h cs)

  same_inits : (vs ws : Depths) → SameDepths vs ws → (is : PlainInits) → inits_suit vs is ≡ inits_suit ws is
  same_inits vs ws h no_init = refl
  same_inits vs ws h (init l c is) = and_both (same_templates vs ws h c) (same_inits vs ws h is)

  same_cases : (vs ws : Depths) → SameDepths vs ws → (cs : PlainCases) → cases_suit vs cs ≡ cases_suit ws cs
  same_cases vs ws h no_case = refl
  same_cases vs ws h (case f c cs) = and_both (same_templates vs ws h c) (same_cases vs ws h cs)

  same_clauses : (vs ws : Depths) → SameDepths vs ws → (cs : PlainClauses) → clauses_suit vs cs ≡ clauses_suit ws cs
  same_clauses vs ws h no_clause = refl
  same_clauses vs ws h (clause p c cs) =
      and_both (same_templates (depths 0 p ++ vs) (depths 0 p ++ ws) (behind_depths (depths 0 p) vs ws h) c) (same_clauses vs ws h cs)
  same_clauses vs ws h (fended p f c cs) =
      and_both (same_templates (depths 0 p ++ vs) (depths 0 p ++ ws) (behind_depths (depths 0 p) vs ws h) f)
      (and_both (same_templates (depths 0 p ++ vs) (depths 0 p ++ ws) (behind_depths (depths 0 p) vs ws h) c) (same_clauses vs ws h cs))

pub output_suits_inside : (ks : Depths) (c : Clause) → output_suits (with_depths ks (depths 0 c.pattern)) c.fender c.output ≡ clauses_suit ks (clauses (c ∷ []))
output_suits_inside ks c = go c.fender
  where
    one : (d : PlainCore) → templates_suit (with_depths ks (depths 0 c.pattern)) d ≡ templates_suit (depths 0 c.pattern ++ ks) d
    one d = same_templates (with_depths ks (depths 0 c.pattern)) (depths 0 c.pattern ++ ks) (inside_depths ks (depths 0 c.pattern)) d

    and_none : (b : Bool) → b ≡ (b && true)
    and_none true = refl
    and_none false = refl

    go : (f : Option PlainCore) → output_suits (with_depths ks (depths 0 c.pattern)) f c.output ≡ clauses_suit ks (clauses (record c { fender = f } ∷ []))
    go None = one c.output ∙ and_none (templates_suit (depths 0 c.pattern ++ ks) c.output)
    go (Some f) = and_both (one f) (one c.output ∙ and_none (templates_suit (depths 0 c.pattern ++ ks) c.output))

pub clauses_suit_more : (vs : Depths) (c : Clause) (cs : List Clause)
    → clauses_suit vs (clauses (c ∷ cs)) ≡ (clauses_suit vs (clauses (c ∷ [])) && clauses_suit vs (clauses cs))
clauses_suit_more vs c cs = go c.fender
  where
    go : (f : Option PlainCore) → clauses_suit vs (clauses (record c { fender = f } ∷ cs)) ≡ (clauses_suit vs (clauses (record c { fender = f } ∷ [])) && clauses_suit vs (clauses cs))
    go None = by (templates_suit (depths 0 c.pattern ++ vs) c.output)
      where
        by : (b : Bool) → (b && clauses_suit vs (clauses cs)) ≡ ((b && true) && clauses_suit vs (clauses cs))
        by true = refl
        by false = refl
    go (Some f) = by (templates_suit (depths 0 c.pattern ++ vs) f) (templates_suit (depths 0 c.pattern ++ vs) c.output)
      where
        by : (a b : Bool) → (a && (b && clauses_suit vs (clauses cs))) ≡ ((a && (b && true)) && clauses_suit vs (clauses cs))
        by true true = refl
        by true false = refl
        by false b = refl

-- ---- each is among labels, or none

pub each_among_with : (ms ls : List Label) → each (among same_label (with_labels [] ms)) ls ≡ each (among same_label ms) ls
each_among_with ms ls = λ i. each (λ l. among_with [] ms l i) ls

pub none_among_with : (ms ls : List Label) → each (λ l. not (among same_label (with_labels [] ms) l)) ls ≡ each (λ l. not (among same_label ms l)) ls
none_among_with ms ls = λ i. each (λ l. not (among_with [] ms l i)) ls
