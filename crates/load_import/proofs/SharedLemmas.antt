-- The names of a library that are still to be joined.
use Rattle.std.proofs.Common.{◌≡◌, ℕ, List, [], ◌∷◌, ◌++◌, Bool, true, false, cond, refl, sym, ap, subst, ◌∙◌, append_assoc, true≢false, length, arith}
use Rattle.std.specs.Prelude.{Option, None, Some, Result, Ok, Err, not, filter, ◌==◌, if◌then◌else◌}
use Rattle.std.specs.List.{find}
use Rattle.std.specs.Cmp.{unsigned_Decides}
use Rattle.std.proofs.lemmas.List.{append-nil}
use Rattle.base_data.specs.Gives.{Stops, Gives, ◌>>=◌}
use Rattle.base_data.specs.Same.{same_name, same_name_cases, texts_decides}
use Rattle.base_data.specs.declared.fault.Fault.{Fault}
use Rattle.base_data.specs.declared.fault.Stop.{Stop}
use Rattle.base_data.specs.declared.fault.Stop.TheVariants as stops
use Rattle.base_data.specs.declared.imported_name.ImportedName.{ImportedName}
use Rattle.base_data.specs.declared.name.Label.{Label}
use Rattle.base_data.specs.declared.span.Span.{Span}
use Rattle.load_import.specs.Names.{Labelled, label_named, same_label, join_by, join_one, joined, conflict, step_names, need, need_by, except, only, is_among, has_name}
use Rattle.load_import.specs.Shared.{IsEnough, steps_joined}
use Rattle.load_import.specs.Table.{same_text}
use Rattle.load_import.specs.Turns.{turns}
use Rattle.load_import.specs.declared.set.NameAt.{NameAt}
use Rattle.load_import.specs.declared.set.ImportStep.{ImportStep}
use Rattle.load_import.specs.declared.set.ImportStep.TheVariants as word
use Rattle.load_import.proofs.ImportedLemmas.{label-append}
use Rattle.load_import.proofs.TableLemmas.{or_else}

abbrev Entry : Type 0
Entry = ImportedName

abbrev has_label : Label → Option Label → Bool
has_label l None = false
has_label l (Some m) = same_label m l

-- a name is there with its label
abbrev is_settled : Labelled → Entry → Bool
is_settled all e = has_label e.label (label_named e.name all)

settled_more : (all more : Labelled) (e : Entry) → is_settled all e ≡ true → is_settled (all ++ more) e ≡ true
settled_more all more e h = ap (has_label e.label) (label-append e.name all more) ∙ by (label_named e.name all) h
  where
    by : (o : Option Label) → has_label e.label o ≡ true → has_label e.label (or_else o (label_named e.name more)) ≡ true
    by None h = absurd (true≢false (sym h))
    by (Some l) h = h

join_settled : (span : Span) (all : Labelled) (e : Entry) → is_settled all e ≡ true → join_one span all e ≡ Ok all
join_settled span all e h = by (label_named e.name all) h
  where
    by : (o : Option Label) → has_label e.label o ≡ true → join_by span all e o ≡ Ok all
    by None h = absurd (true≢false (sym h))
    by (Some l) h = ap (λ b. cond {A = Result Labelled Fault} b (Ok all) (Err (conflict span e.name))) h

same_ok : (a b : Labelled) (r : Result Labelled Fault) → r ≡ Ok a → r ≡ Ok b → a ≡ b
same_ok a b r h k = cc

own_label : (l : Label) → same_label l l ≡ true
own_label l = (same_name_cases l.0 l.0).1 refl

own_text : (a : List ℕ) → same_text a a ≡ true
own_text a = (texts_decides a a).1 refl

-- what a name more leaves: all that was there in front, and the name with its label
join_leaves : (span : Span) (all new : Labelled) (e : Entry) → join_one span all e ≡ Ok new → (tail : Labelled) × (new ≡ all ++ tail) × (is_settled new e ≡ true)
join_leaves span all new e h = by (label_named e.name all) refl h
  where
    Leaves : Type 0
    Leaves = (tail : Labelled) × (new ≡ all ++ tail) × (is_settled new e ≡ true)

    there : (l : Label) → label_named e.name all ≡ Some l → (b : Bool) → same_label l e.label ≡ b → cond {A = Result Labelled Fault} b (Ok all) (Err (conflict span e.name)) ≡ Ok new → Leaves
    there l at true same h =
        let is : new ≡ all = same_ok new all _ h refl in
        ([], is ∙ sym (append-nil all), ap (λ n. is_settled n e) is ∙ ap (has_label e.label) at ∙ same)
    there l at false same h = cc

    by : (o : Option Label) → label_named e.name all ≡ o → join_by span all e o ≡ Ok new → Leaves
    by None at h =
        let is : new ≡ all ++ e ∷ [] = same_ok new (all ++ e ∷ []) _ h refl in
        (e ∷ [], is, ap (λ n. is_settled n e) is ∙ ap (has_label e.label) (label-append e.name all (e ∷ []) ∙ ap (λ o. or_else o (label_named e.name (e ∷ []))) at ∙ ap (λ b. cond b (Some e.label) None) (own_text e.name)) ∙ own_label e.label)
    by (Some l) at h = there l at (same_label l e.label) refl h

abbrev AllSettled : Labelled → Labelled → Type 0
AllSettled all [] = Unit {0}
AllSettled all (e ∷ es) = (is_settled all e ≡ true) × AllSettled all es

all_settled_more : (all more es : Labelled) → AllSettled all es → AllSettled (all ++ more) es
all_settled_more all more [] h = tt
all_settled_more all more (e ∷ es) h = (settled_more all more e h.0, all_settled_more all more es h.1)

-- what names more leave
pub joined_leaves : (span : Span) (es all new : Labelled) → joined span all es ≡ Ok new → (tail : Labelled) × (new ≡ all ++ tail) × AllSettled new es
joined_leaves span [] all new h = ([], same_ok new all _ h refl ∙ sym (append-nil all), tt)
joined_leaves span (e ∷ es) all new h = by (join_one span all e) refl h (joined_leaves span es)
  where
    by : (r : Result Labelled Fault) → join_one span all e ≡ r → (r >>= (λ t. turns (join_one span) t es)) ≡ Ok new
        → ((all new : Labelled) → joined span all es ≡ Ok new → (tail : Labelled) × (new ≡ all ++ tail) × AllSettled new es)
        → (tail : Labelled) × (new ≡ all ++ tail) × AllSettled new (e ∷ es)
    by (Err f) is h on = cc
    by (Ok t) is h on =
        let a = join_leaves span all t e is in
        let b = on t new h in
        (a.0 ++ b.0, b.1 ∙ ap (λ x. x ++ b.0) a.1 ∙ append_assoc all a.0 b.0, (subst (λ n. is_settled n e ≡ true) (sym b.1) (settled_more t b.0 e a.2), b.2))

pub joined_front : (span : Span) (es all new : Labelled) → joined span all es ≡ Ok new → (tail : Labelled) × (new ≡ all ++ tail)
joined_front span es all new h = let a = joined_leaves span es all new h in (a.0, a.1)

pub steps_front : (span : Span) (all names : Labelled) (steps : List ImportStep) (new : Labelled) → steps_joined span all names steps ≡ Ok new → (tail : Labelled) × (new ≡ all ++ tail)
steps_front span all names steps new h = by (turns (step_names span) names steps) h
  where
    by : (r : Result Labelled Fault) → (r >>= joined span all) ≡ Ok new → (tail : Labelled) × (new ≡ all ++ tail)
    by (Ok t) h = joined_front span t all new h
    by (Err f) h = cc

abbrev without : (Entry → Bool) → Labelled → Labelled
without p es = filter (λ e. not (p e)) es

filter-cond : (q : Entry → Bool) (b : Bool) (e : Entry) (es : Labelled) → filter q (cond b (e ∷ es) es) ≡ cond b (cond (q e) (e ∷ filter q es) (filter q es)) (filter q es)
filter-cond q true e es = refl
filter-cond q false e es = refl

-- names that are settled may be left out
joined_without : (span : Span) (p q : Entry → Bool) (es all : Labelled) → AllSettled all (filter p es) → joined span all (filter q es) ≡ joined span all (filter q (without p es))
joined_without span p q [] all h = refl
joined_without span p q (e ∷ es) all h =
    by (p e) (q e) h (joined_without span p q es) ∙ sym (ap (joined span all) (filter-cond q (not (p e)) e (without p es)))
  where
    rest : (all : Labelled) → AllSettled all (filter p es) → ((all : Labelled) → AllSettled all (filter p es) → joined span all (filter q es) ≡ joined span all (filter q (without p es)))
        → (r : Result Labelled Fault) → join_one span all e ≡ r → (r >>= (λ t. joined span t (filter q es))) ≡ (r >>= (λ t. joined span t (filter q (without p es))))
    rest all h on (Err f) is = refl
    rest all h on (Ok t) is =
        let a = join_leaves span all t e is in
        on t (subst (λ n. AllSettled n (filter p es)) (sym a.1) (all_settled_more all a.0 (filter p es) h))

    by : (b c : Bool) → AllSettled all (cond b (e ∷ filter p es) (filter p es)) → ((all : Labelled) → AllSettled all (filter p es) → joined span all (filter q es) ≡ joined span all (filter q (without p es)))
        → joined span all (cond c (e ∷ filter q es) (filter q es)) ≡ joined span all (cond (not b) (cond c (e ∷ filter q (without p es)) (filter q (without p es))) (filter q (without p es)))
    by true true h on = ap (λ r. r >>= (λ t. turns (join_one span) t (filter q es))) (join_settled span all e h.0) ∙ on all h.1
    by true false h on = on all h.1
    by false true h on = rest all h on (join_one span all e) refl
    by false false h on = on all h

module _ (all names fresh : Labelled) (enough : IsEnough all names fresh) where
  pub enough_some : (span : Span) (test : Entry → Bool) → joined span all (filter test names) ≡ joined span all (filter test fresh)
  enough_some span test =
      ap (λ a. joined span a (filter test names)) (sym (append-nil all)) ∙ enough span [] test ∙ ap (λ a. joined span a (filter test fresh)) (append-nil all)

  -- what is enough stays enough as names come
  pub enough_more : (more : Labelled) → IsEnough (all ++ more) names fresh
  enough_more more span others test =
      ap (λ a. joined span a (filter test names)) (append_assoc all more others) ∙ enough span (more ++ others) test
      ∙ sym (ap (λ a. joined span a (filter test fresh)) (append_assoc all more others))

  -- some of them are joined, and the others are enough
  pub enough_without : (span : Span) (p : Entry → Bool) (new : Labelled) → joined span all (filter p fresh) ≡ Ok new → IsEnough new names (without p fresh)
  enough_without span p new h other more test =
      let a = joined_leaves span (filter p fresh) all new h in
      let still : IsEnough new names fresh = subst (λ n. IsEnough n names fresh) (sym a.1) (enough_more a.0) in
      still other more test ∙ joined_without other p test fresh (new ++ more) (all_settled_more new more (filter p fresh) a.2)

pub empty_is : (es : Labelled) → true ≡ (length es == 0) → es ≡ []
empty_is [] h = refl
empty_is (e ∷ es) h = let none : length (e ∷ es) ≡ 0 = (unsigned_Decides (length (e ∷ es)) 0).0 (sym h) in absurd (omega (arith, none))

pub enough_all : (all names : Labelled) → IsEnough all names names
enough_all all names span more test = refl

filter_true : (es : Labelled) → filter (λ e. true) es ≡ es
filter_true [] = refl
filter_true (e ∷ es) = ap (λ x. e ∷ x) (filter_true es)

filter_false : (es : Labelled) → filter (λ e. false) es ≡ []
filter_false [] = refl
filter_false (e ∷ es) = filter_false es

module _ (all names fresh : Labelled) (enough : IsEnough all names fresh) (span : Span) where
  pub whole_by : joined span all names ≡ joined span all fresh
  whole_by = ap (joined span all) (sym (filter_true names)) ∙ enough_some all names fresh enough span (λ e. true) ∙ ap (joined span all) (filter_true fresh)

  pub whole_leaves : (new : Labelled) → joined span all fresh ≡ Ok new → IsEnough new names []
  whole_leaves new h = subst (IsEnough new names) (filter_false fresh) (enough_without all names fresh enough span (λ e. true) new (ap (joined span all) (filter_true fresh) ∙ h))

  pub whole_none : fresh ≡ [] → joined span all names ≡ Ok all
  whole_none e = whole_by ∙ ap (joined span all) e

  pub but_by : (ids : List NameAt) → joined span all (except ids names) ≡ joined span all (except ids fresh)
  but_by ids = enough_some all names fresh enough span (λ e. not (is_among ids e.name))

  pub but_none : (ids : List NameAt) → fresh ≡ [] → joined span all (except ids names) ≡ Ok all
  but_none ids e = but_by ids ∙ ap (λ f. joined span all (except ids f)) e

  filter_twice : (test : Entry → Bool) (es : Labelled) → filter (λ e. not (not (test e))) es ≡ filter test es
  filter_twice test [] = refl
  filter_twice test (e ∷ es) = by (test e) ∙ ap (λ x. cond (test e) (e ∷ x) x) (filter_twice test es)
    where
      by : (b : Bool) → cond (not (not b)) (e ∷ filter (λ e. not (not (test e))) es) (filter (λ e. not (not (test e))) es) ≡ cond b (e ∷ filter (λ e. not (not (test e))) es) (filter (λ e. not (not (test e))) es)
      by true = refl
      by false = refl

  pub but_leaves : (ids : List NameAt) (new : Labelled) → joined span all (except ids fresh) ≡ Ok new → IsEnough new names (only ids fresh)
  but_leaves ids new h =
      subst (IsEnough new names) (filter_twice (λ e. is_among ids e.name) fresh) (enough_without all names fresh enough span (λ e. not (is_among ids e.name)) new h)

-- an `except` alone
pub except_alone : (span : Span) (all names : Labelled) (ids : List NameAt) → steps_joined span all names (word.Except ids ∷ []) ≡ need names ids (joined span all (except ids names))
except_alone span all names ids = by (find (λ id. not (has_name names id.name)) ids)
  where
    by : (o : Option NameAt) → ((need_by o (Ok (except ids names)) >>= (λ t. turns (step_names span) t [])) >>= joined span all) ≡ need_by o (joined span all (except ids names))
    by None = refl
    by (Some id) = refl

-- the first step and the others
bind_first : (r : Result Labelled Fault) (f g : Labelled → Result Labelled Fault) → ((r >>= f) >>= g) ≡ (r >>= (λ t. f t >>= g))
bind_first (Ok t) f g = refl
bind_first (Err e) f g = refl

pub first_stops : (stop : Stop) (span : Span) (all names : Labelled) (step : ImportStep) (steps : List ImportStep) → Stops stop (step_names span names step) → Stops stop (steps_joined span all names (step ∷ steps))
first_stops stops.Memory span all names step steps h = tt
first_stops (stops.Fault e) span all names step steps h = ap (λ r. (r >>= (λ t. turns (step_names span) t steps)) >>= joined span all) h

pub first_gives : (span : Span) (all names left : Labelled) (step : ImportStep) (steps : List ImportStep) → step_names span names step ≡ Ok left → steps_joined span all left steps ≡ steps_joined span all names (step ∷ steps)
first_gives span all names left step steps h = sym (ap (λ r. (r >>= (λ t. turns (step_names span) t steps)) >>= joined span all) h)

-- names that are joined at one place are joined at any
joined_one_at : (span other : Span) (all new : Labelled) (e : Entry) → join_one span all e ≡ Ok new → join_one other all e ≡ Ok new
joined_one_at span other all new e h = by (label_named e.name all) h
  where
    there : (b : Bool) → cond {A = Result Labelled Fault} b (Ok all) (Err (conflict span e.name)) ≡ Ok new → cond {A = Result Labelled Fault} b (Ok all) (Err (conflict other e.name)) ≡ Ok new
    there true h = h
    there false h = cc

    by : (o : Option Label) → join_by span all e o ≡ Ok new → join_by other all e o ≡ Ok new
    by None h = h
    by (Some l) h = there (same_label l e.label) h

pub joined_at : (span other : Span) (es all new : Labelled) → joined span all es ≡ Ok new → joined other all es ≡ Ok new
joined_at span other [] all new h = h
joined_at span other (e ∷ es) all new h = by (join_one span all e) refl h (joined_at span other es)
  where
    by : (r : Result Labelled Fault) → join_one span all e ≡ r → (r >>= (λ t. turns (join_one span) t es)) ≡ Ok new → ((all new : Labelled) → joined span all es ≡ Ok new → joined other all es ≡ Ok new)
        → (join_one other all e >>= (λ t. turns (join_one other) t es)) ≡ Ok new
    by (Err f) is h on = cc
    by (Ok t) is h on = ap (λ r. r >>= (λ t. turns (join_one other) t es)) (joined_one_at span other all t e is) ∙ on t new h
