-- Plans of templates: what `append` and `list->vector` are called on are new lists, and spliced expressions.
use Rattle.std.proofs.Common.{◌≡◌, ℕ, zero, suc, ◌-◌, Bool, true, false, List, [], ◌∷◌, ◌++◌, length, take, drop, Option, None, Some, Result, Ok, Err, refl, subst, append_assoc}
use Rattle.std.specs.Prelude.{◌&&◌, if◌then◌else◌}
use Rattle.base_data.specs.Gives.{◌>>=◌}
use Rattle.base_data.specs.declared.fault.Bare.{Bare}
use Rattle.stx_tree.specs.Tree.{Tree, atom, leaf, pair, vector, nil}
use Rattle.core_shapes.specs.Lists.{is_nil, tail_of}
use Rattle.core_quasi.specs.Words.{WordOf, inner, reach}
use Rattle.core_quasi.specs.Parts.{taken_at, rest_at, splits, first_word, operand_of}
use Rattle.core_quasi.specs.Plan.{PlainQuasi, PlainQuasis, constant, expression, call, none, more, quasis}
use Rattle.core_quasi.specs.Quasi.{no_pieces, closed, expressions, with_each, with_splices, is_constant, with_item, is_end, without_splices, made_of, list_joined, vector_joined, ElementPlan, forms, step_by, step, walked, operand_or_bad, begun_by, begins, Tail, finished, flat, split_tail, list_made, vector_made, quasi_at, elements_made, tail_made}
use Rattle.core_quasi.specs.declared.maker.Maker.TheVariants as maker
use Rattle.core_quasi.specs.declared.parts.QuasiTaken.{QuasiTaken}
use Rattle.core_quasi.specs.declared.parts.QuasiTaken.TheVariants as taken
use Rattle.core_quasi.specs.declared.quasi.Begun.{Begun}
use Rattle.core_quasi.specs.declared.quasi.Begun.TheVariants as begun
use Rattle.core_quasi.specs.declared.quasi.Pieces.{Pieces}
use Rattle.core_quasi.specs.declared.word.Reach.{Reach}
use Rattle.core_quasi.specs.declared.word.Reach.TheVariants as reached
use Rattle.law_quasi_code.specs.Wants.{is_before}

-- What is asked of plans.

abbrev pub IsSome : PlainQuasis → Type 0
IsSome none = ⊥
IsSome (more q qs) = Unit {0}

-- the last of these is the empty list
abbrev pub NilLast : Bool → PlainQuasi → Type 0 → Type 0
NilLast true q rest = rest
NilLast false q rest = q ≡ constant nil

abbrev pub EndsInNil : PlainQuasis → Type 0
EndsInNil none = ⊥
EndsInNil (more q qs) = NilLast (is_before qs) q (EndsInNil qs)

abbrev mutual
  pub IsPlan : PlainQuasi → Type 0
  IsPlan (constant t) = Unit {0}
  IsPlan (expression e) = Unit {0}
  IsPlan (call maker.List qs) = ArePlans qs
  IsPlan (call maker.ConsStar qs) = IsSome qs × ArePlans qs
  IsPlan (call maker.Append qs) = IsSome qs × AreJoined qs
  IsPlan (call maker.ListToVector qs) = AreListed qs

  pub ArePlans : PlainQuasis → Type 0
  ArePlans none = Unit {0}
  ArePlans (more q qs) = IsPlan q × ArePlans qs

  -- an argument of `append`: any but the last is an expression or a list of new elements
  pub IsArgument : Bool → PlainQuasi → Type 0
  IsArgument true (constant t) = ⊥
  IsArgument true (expression e) = Unit {0}
  IsArgument true (call maker.List qs) = ArePlans qs
  IsArgument true (call maker.ConsStar qs) = ⊥
  IsArgument true (call maker.Append qs) = ⊥
  IsArgument true (call maker.ListToVector qs) = ⊥
  IsArgument false (constant t) = Unit {0}
  IsArgument false (expression e) = Unit {0}
  IsArgument false (call maker.List qs) = ArePlans qs
  IsArgument false (call maker.ConsStar qs) = IsSome qs × ArePlans qs
  IsArgument false (call maker.Append qs) = IsSome qs × AreJoined qs
  IsArgument false (call maker.ListToVector qs) = AreListed qs

  pub AreJoined : PlainQuasis → Type 0
  AreJoined none = Unit {0}
  AreJoined (more q qs) = IsArgument (is_before qs) q × AreJoined qs

  -- the argument of `list->vector`: a list of new elements, or what `append` makes before the empty list
  pub IsWhole : PlainQuasi → Type 0
  IsWhole (constant t) = ⊥
  IsWhole (expression e) = ⊥
  IsWhole (call maker.List qs) = ArePlans qs
  IsWhole (call maker.ConsStar qs) = ⊥
  IsWhole (call maker.Append qs) = IsSome qs × AreJoined qs × EndsInNil qs
  IsWhole (call maker.ListToVector qs) = ⊥

  pub AreListed : PlainQuasis → Type 0
  AreListed none = ⊥
  AreListed (more q none) = IsWhole q
  AreListed (more q (more r qs)) = ⊥

pub argument_plan : (q : PlainQuasi) → IsArgument false q → IsPlan q
argument_plan (constant t) h = tt
argument_plan (expression e) h = tt
argument_plan (call maker.List qs) h = h
argument_plan (call maker.ConsStar qs) h = h
argument_plan (call maker.Append qs) h = h
argument_plan (call maker.ListToVector qs) h = h

plan_argument : (q : PlainQuasi) → IsPlan q → IsArgument false q
plan_argument (constant t) h = tt
plan_argument (expression e) h = tt
plan_argument (call maker.List qs) h = h
plan_argument (call maker.ConsStar qs) h = h
plan_argument (call maker.Append qs) h = h
plan_argument (call maker.ListToVector qs) h = h

-- Lists of plans.

abbrev Plans : List PlainQuasi → Type 0
Plans [] = Unit {0}
Plans (q ∷ qs) = IsPlan q × Plans qs

abbrev Fronts : List PlainQuasi → Type 0
Fronts [] = Unit {0}
Fronts (q ∷ qs) = IsArgument true q × Fronts qs

plans_are : (qs : List PlainQuasi) → Plans qs → ArePlans (quasis qs)
plans_are [] h = tt
plans_are (q ∷ qs) h = (h.0, plans_are qs h.1)

plans_both : (ps qs : List PlainQuasi) → Plans ps → Plans qs → Plans (ps ++ qs)
plans_both [] qs h k = k
plans_both (p ∷ ps) qs h k = (h.0, plans_both ps qs h.1 k)

fronts_both : (ps qs : List PlainQuasi) → Fronts ps → Fronts qs → Fronts (ps ++ qs)
fronts_both [] qs h k = k
fronts_both (p ∷ ps) qs h k = (h.0, fronts_both ps qs h.1 k)

closed_front : (qs : List PlainQuasi) → Plans qs → Fronts (closed qs)
closed_front [] h = tt
closed_front (q ∷ qs) h = (plans_are (q ∷ qs) h, tt)

expressions_plan : (es : List Tree) → Plans (expressions es)
expressions_plan [] = tt
expressions_plan (e ∷ es) = (tt, expressions_plan es)

expressions_front : (es : List Tree) → Fronts (expressions es)
expressions_front [] = tt
expressions_front (e ∷ es) = (tt, expressions_front es)

some_joined : (qs : List PlainQuasi) (tail : PlainQuasi) → IsSome (quasis (qs ++ tail ∷ []))
some_joined [] tail = tt
some_joined (q ∷ qs) tail = tt

joined_are : (qs : List PlainQuasi) (tail : PlainQuasi) → Fronts qs → IsPlan tail → AreJoined (quasis (qs ++ tail ∷ []))
joined_are [] tail h k = (plan_argument tail k, tt)
joined_are (q ∷ []) tail h k = (h.0, (plan_argument tail k, tt))
joined_are (q ∷ r ∷ qs) tail h k = (h.0, joined_are (r ∷ qs) tail h.1 k)

nil_last : (qs : List PlainQuasi) → EndsInNil (quasis (qs ++ constant nil ∷ []))
nil_last [] = refl
nil_last (q ∷ []) = refl
nil_last (q ∷ r ∷ qs) = nil_last (r ∷ qs)

either : {A : Type 0} (P : A → Type 0) (b : Bool) (x y : A) → P x → P y → P (if b then x else y)
either P true x y h k = h
either P false x y h k = k

-- Pieces and what is made of them.

abbrev Well : Pieces → Type 0
Well p = Fronts p.parts × Plans p.run

each_well : (p : Pieces) (es : List Tree) → Well p → Well (with_each p es)
each_well p es h = (h.0, plans_both p.run (expressions es) h.1 (expressions_plan es))

splices_well : (p : Pieces) (es : List Tree) → Well p → Well (with_splices p es)
splices_well p [] h = h
splices_well p (e ∷ es) h =
    (fronts_both p.parts (closed p.run ++ expressions (e ∷ es)) h.0 (fronts_both (closed p.run) (expressions (e ∷ es)) (closed_front p.run h.1) (expressions_front (e ∷ es))), tt)

item_well : (p : Pieces) (q : PlainQuasi) → Well p → IsPlan q → Well (with_item p q)
item_well p q h k = (h.0, plans_both p.run (q ∷ []) h.1 (k, tt))

without_plan : (run : List PlainQuasi) (tail : PlainQuasi) → Plans run → IsPlan tail → IsPlan (without_splices run tail)
without_plan run tail h k =
    either IsPlan (is_end tail) (call maker.List (quasis run)) (call maker.ConsStar (quasis (run ++ tail ∷ []))) (plans_are run h)
    (some_joined run tail, plans_are (run ++ tail ∷ []) (plans_both run (tail ∷ []) h (k, tt)))

regrouped : (ps qs : List PlainQuasi) (tail : PlainQuasi) → (ps ++ qs) ++ tail ∷ [] ≡ ps ++ (qs ++ tail ∷ [])
regrouped ps qs tail = append_assoc ps qs (tail ∷ [])

append_parts : (q : PlainQuasi) (qs run : List PlainQuasi) → Fronts (q ∷ qs) → Plans run → Fronts ((q ∷ qs) ++ closed run)
append_parts q qs run h k = fronts_both (q ∷ qs) (closed run) h (closed_front run k)

made_plan : (parts run : List PlainQuasi) (tail : PlainQuasi) → Fronts parts → Plans run → IsPlan tail → IsPlan (made_of parts run tail)
made_plan [] run tail g h k = without_plan run tail h k
made_plan (q ∷ qs) run tail g h k =
    subst (λ (ps : List PlainQuasi). IsSome (quasis ps) × AreJoined (quasis ps)) (regrouped (q ∷ qs) (closed run) tail)
    (some_joined ((q ∷ qs) ++ closed run) tail, joined_are ((q ∷ qs) ++ closed run) tail (append_parts q qs run g h) k)

made_whole : (parts run : List PlainQuasi) → Fronts parts → Plans run → IsWhole (made_of parts run (constant nil))
made_whole [] run g h = plans_are run h
made_whole (q ∷ qs) run g h =
    subst (λ (ps : List PlainQuasi). IsSome (quasis ps) × AreJoined (quasis ps) × EndsInNil (quasis ps)) (regrouped (q ∷ qs) (closed run) (constant nil))
    (some_joined ((q ∷ qs) ++ closed run) (constant nil), joined_are ((q ∷ qs) ++ closed run) (constant nil) (append_parts q qs run g h) tt, nil_last ((q ∷ qs) ++ closed run))

list_plan : (t : Tree) (p : Pieces) (tail : PlainQuasi) → Well p → IsPlan tail → IsPlan (list_joined t p tail)
list_plan t p tail h k = either IsPlan (p.fixed && is_constant tail) (constant t) (made_of p.parts p.run tail) tt (made_plan p.parts p.run tail h.0 h.1 k)

vector_plan : (t : Tree) (p : Pieces) → Well p → IsPlan (vector_joined t p)
vector_plan t p h = either IsPlan p.fixed (constant t) (call maker.ListToVector (quasis (made_of p.parts p.run (constant nil) ∷ []))) tt (made_whole p.parts p.run h.0 h.1)

-- Forms.

abbrev OkIs : {A : Type 0} → (A → Type 0) → Result A Bare → Type 0
OkIs P (Ok x) = P x
OkIs P (Err e) = Unit {0}

then_is : {A B : Type 0} (P : A → Type 0) (Q : B → Type 0) (r : Result A Bare) (k : A → Result B Bare) → OkIs P r → ((x : A) → P x → OkIs Q (k x)) → OkIs Q (r >>= k)
then_is P Q (Ok x) k h next = next x h
then_is P Q (Err e) k h next = tt

abbrev AllMade : List ElementPlan → Type 0
AllMade [] = Unit {0}
AllMade (x ∷ xs) = ((n : ℕ) → OkIs IsPlan (x.1 n)) × AllMade xs

abbrev BegunWell : Begun → Type 0
BegunWell (begun.Whole e) = Unit {0}
BegunWell (begun.Parts p) = Well p

module _ (w : WordOf) where
  step_well : (n : ℕ) (x : ElementPlan) (p : Pieces) (u : QuasiTaken) → ((n : ℕ) → OkIs IsPlan (x.1 n)) → Well p → OkIs Well (step_by n x p u)
  step_well n x p (taken.Each es) h k = each_well p es k
  step_well n x p (taken.Spliced es) h k = splices_well p es k
  step_well n x p taken.Kept h k = then_is IsPlan Well (x.1 n) (λ q. Ok (with_item p q)) (h n) (λ q j. item_well p q k j)

  walk_well : (n : ℕ) (p : Pieces) (xs : List ElementPlan) → Well p → AllMade xs → OkIs Well (walked w n p xs)
  walk_well n p [] h all = h
  walk_well n p (x ∷ xs) h all = then_is Well Well (step w n p x) (λ q. walked w n q xs) (step_well n x p (taken_at w n x.0) all.0 h) (λ q k. walk_well n q xs k all.1)

  operand_well : (o : Option Tree) → OkIs BegunWell (operand_or_bad o)
  operand_well None = tt
  operand_well (Some e) = tt

  begun_well : (o : Option Tree) (r : Result Pieces Bare) (x : Reach) → OkIs Well r → OkIs BegunWell (begun_by o r x)
  begun_well o r reached.Operand h = operand_well o
  begun_well o r reached.Refused h = tt
  begun_well o r reached.Elements h = then_is Well BegunWell r (λ p. Ok (begun.Parts p)) h (λ p k. k)

  begins_well : (xs : List ElementPlan) (ends : Bool) (n : ℕ) → AllMade xs → OkIs BegunWell (begins w xs ends n)
  begins_well xs ends n all =
      begun_well (operand_of ends (forms xs)) (walked w (inner (first_word w (forms xs)) n) no_pieces xs) (reach (first_word w (forms xs)) n)
      (walk_well (inner (first_word w (forms xs)) n) no_pieces xs (tt, tt) all)

  finished_well : (t : Tree) (tail : Tail) (n : ℕ) (b : Begun) → ((n : ℕ) → OkIs IsPlan (tail.made n)) → BegunWell b → OkIs IsPlan (finished t tail n b)
  finished_well t tail n (begun.Whole e) h k = tt
  finished_well t tail n (begun.Parts p) h k = then_is IsPlan IsPlan (tail.made n) (λ q. Ok (list_joined t p q)) (h n) (λ q j. list_plan t p q k j)

  flat_well : (t : Tree) (xs : List ElementPlan) (tail : Tail) (n : ℕ) → AllMade xs → ((n : ℕ) → OkIs IsPlan (tail.made n)) → OkIs IsPlan (flat w t xs tail n)
  flat_well t xs tail n all h = then_is BegunWell IsPlan (begins w xs tail.ends n) (finished t tail n) (begins_well xs tail.ends n all) (λ b k. finished_well t tail n b h k)

  taken_made : (k : ℕ) (xs : List ElementPlan) → AllMade xs → AllMade (take k xs)
  taken_made zero xs h = tt
  taken_made (suc k) [] h = tt
  taken_made (suc k) (x ∷ xs) h = (h.0, taken_made k xs h.1)

  dropped_made : (k : ℕ) (xs : List ElementPlan) → AllMade xs → AllMade (drop k xs)
  dropped_made zero xs h = h
  dropped_made (suc k) [] h = tt
  dropped_made (suc k) (x ∷ xs) h = dropped_made k xs h.1

  list_well : (t : Tree) (xs : List ElementPlan) (tail : Tail) (n : ℕ) → AllMade xs → ((n : ℕ) → OkIs IsPlan (tail.made n)) → OkIs IsPlan (list_made w t xs tail n)
  list_well t xs tail n all h =
      either (OkIs IsPlan) (splits w tail.ends (forms xs)) (flat w t (take (length xs - 2) xs) (split_tail w t xs tail) n) (flat w t xs tail n)
      (flat_well t (take (length xs - 2) xs) (split_tail w t xs tail) n (taken_made (length xs - 2) xs all)
      (λ m. flat_well (rest_at (length xs - 2) t) (drop (length xs - 2) xs) tail m (dropped_made (length xs - 2) xs all) h))
      (flat_well t xs tail n all h)

  vector_well : (t : Tree) (xs : List ElementPlan) (n : ℕ) → AllMade xs → OkIs IsPlan (vector_made w t xs n)
  vector_well t xs n all = then_is Well IsPlan (walked w n no_pieces xs) (λ p. Ok (vector_joined t p)) (walk_well n no_pieces xs (tt, tt) all) (λ p k. vector_plan t p k)

  mutual
    plan_at : (t : Tree) (n : ℕ) → OkIs IsPlan (quasi_at w t n)
    plan_at (atom s a) n = tt
    plan_at (leaf s x c) n = tt
    plan_at (pair s a d) n =
        list_well (pair s a d) ((a, quasi_at w a) ∷ elements_made w d) (record { ends = is_nil (tail_of d); made = tail_made w d }) n (plan_at a, elements_well d) (tail_well d)
    plan_at (vector s d) n = vector_well (vector s d) (elements_made w d) n (elements_well d)

    elements_well : (t : Tree) → AllMade (elements_made w t)
    elements_well (atom s a) = tt
    elements_well (leaf s x c) = tt
    elements_well (pair s a d) = (plan_at a, elements_well d)
    elements_well (vector s d) = tt

    tail_well : (t : Tree) (n : ℕ) → OkIs IsPlan (tail_made w t n)
    tail_well (atom s a) n = tt
    tail_well (leaf s x c) n = tt
    tail_well (pair s a d) n = tail_well d n
    tail_well (vector s d) n = vector_well (vector s d) (elements_made w d) n (elements_well d)

  pub well_made : (t : Tree) (n : ℕ) (q : PlainQuasi) → quasi_at w t n ≡ Ok q → IsPlan q
  well_made t n q e = subst (OkIs IsPlan) e (plan_at t n)
