-- What stays true while references wait.
use Rattle.std.proofs.Common.{◌≡◌, ℕ, zero, suc, ◌+◌, ◌*◌, ◌<◌, ◌≤◌, Bool, true, false, not, cond, List, [], ◌∷◌, ◌++◌, length, get_or, set, replicate, drop, arith, refl, sym, ap, ◌∙◌, subst, inl, inr, get_or-set_same, get_or-set_other}
use Rattle.std.specs.Prelude.{◌⊎◌, Option, Some, None, slice_get}
use Rattle.std.specs.List.{Contains, count_by}
use Rattle.std.proofs.lemmas.Bool.{cases_eq}
use Rattle.std.proofs.lemmas.List.{length-set, length-replicate, length_push, drop_all}
use Rattle.std.proofs.lemmas.List.Elements.{Contains-push, Contains-push_cases, Contains-append_left}
use Rattle.std.proofs.lemmas.List.Sums.{sum_by-set}
use Rattle.std.proofs.lemmas.Option.{slice_get-get_or, get_or_from_slice_get}
use Rattle.base_data.specs.declared.library.LibName.{LibName}
use Rattle.core_language.specs.declared.record.CompiledLibrary.{CompiledLibrary}
use Rattle.core_plan.specs.Places.{place_of}
use Rattle.core_plan.specs.Plan.{Reached, mentioned, further, IsPlan}
use Rattle.core_plan.specs.Work.{Work, no_marks, marked_now, reach, reach_there, reach_each, follow_record, follow, marked_from}
use Rattle.core_plan.proofs.MarkLemmas.{contains_later, contains_cases, cons_at, marks_rise, mark_is_there, there_is_marked}
use Rattle.core_plan.proofs.PlaceLemmas.{place_there}

abbrev pub marked : Work → ℕ → Bool
marked w p = get_or w.marks p false

-- how much is left to do
abbrev pub weight : Work → ℕ
weight w = 2 * count_by not w.marks + length w.waiting

none_marked : (n p : ℕ) → get_or (replicate n false) p false ≡ true → ⊥
none_marked zero p k = cc
none_marked (suc n) zero k = cc
none_marked (suc n) (suc p) k = none_marked n p k

module _ (records : List CompiledLibrary) (program : CompiledLibrary) where
  -- the records of these libraries are marked
  abbrev pub AllMarked : List LibName → Work → Type 0
  AllMarked names w = (name : LibName) (p : ℕ) → Contains names name → place_of records name ≡ Some p → marked w p ≡ true

  -- what is marked is reached, and what waits is marked
  pub record Sound (w : Work) : Type 0 where
    pub sized : length w.marks ≡ length records
    pub found : (p : ℕ) → marked w p ≡ true → Reached records program p
    pub waits : (p : ℕ) → Contains w.waiting p → marked w p ≡ true

  -- the references of what is marked are marked, but of what waits and of the exceptions
  abbrev pub Followed : (ℕ → Type 0) → Work → Type 0
  Followed except w = (p : ℕ) (r : CompiledLibrary) → marked w p ≡ true → slice_get records p ≡ Some r → except p ⊎ (Contains w.waiting p ⊎ AllMarked r.refs w)

  -- what a step adds waits, and nothing is lost
  pub record Grows (v w : Work) : Type 0 where
    pub sound : Sound w
    pub marks_stay : (p : ℕ) → marked v p ≡ true → marked w p ≡ true
    pub added : (p : ℕ) → marked w p ≡ true → (marked v p ≡ true) ⊎ Contains w.waiting p
    pub waits_stay : (p : ℕ) → Contains v.waiting p → Contains w.waiting p
    pub lighter : weight w ≤ weight v

  grows_same : (w : Work) → Sound w → Grows w w
  grows_same w s = record { sound = s; marks_stay = λ p h. h; added = λ p h. inl h; waits_stay = λ p h. h; lighter = omega arith }

  grows_on : (u v w : Work) → Grows u v → Grows v w → Grows u w
  grows_on u v w g h = record {
    sound = h.sound;
    marks_stay = λ p k. h.marks_stay p (g.marks_stay p k);
    added = λ p k. go p (h.added p k);
    waits_stay = λ p k. h.waits_stay p (g.waits_stay p k);
    lighter = omega (arith, g.lighter, h.lighter);
  }
    where
      go : (p : ℕ) → (marked v p ≡ true) ⊎ Contains w.waiting p → (marked u p ≡ true) ⊎ Contains w.waiting p
      go p (inr c) = inr c
      go p (inl m) = before (g.added p m)
        where
          before : (marked u p ≡ true) ⊎ Contains v.waiting p → (marked u p ≡ true) ⊎ Contains w.waiting p
          before (inl k) = inl k
          before (inr c) = inr (h.waits_stay p c)

  -- a record that is reached for the first time
  first_time : (q : ℕ) (w : Work) → Sound w → Reached records program q → q < length w.marks → get_or w.marks q false ≡ false
      → Grows w (record { marks = set w.marks q true; waiting = w.waiting ++ q ∷ [] })
  first_time q w s there l before = record {
    sound = record {
      sized = length-set w.marks q true ∙ s.sized;
      found = λ p k. found p k (cases_eq p q);
      waits = λ p k. waits p (Contains-push_cases w.waiting q p k);
    };
    marks_stay = λ p k. stays p k (cases_eq p q);
    added = λ p k. added p k (cases_eq p q);
    waits_stay = λ p k. Contains-append_left w.waiting (q ∷ []) p k;
    lighter = lighter;
  }
    where
      same : get_or (set w.marks q true) q false ≡ true
      same = get_or-set_same w.marks q true false l

      stays : (p : ℕ) → get_or w.marks p false ≡ true → (p ≡ q) ⊎ (p ≡ q → ⊥) → get_or (set w.marks q true) p false ≡ true
      stays p k (inl e) = ap (λ n. get_or (set w.marks q true) n false) e ∙ same
      stays p k (inr ne) = get_or-set_other w.marks q p true false ne ∙ k

      found : (p : ℕ) → get_or (set w.marks q true) p false ≡ true → (p ≡ q) ⊎ (p ≡ q → ⊥) → Reached records program p
      found p k (inl e) = subst (Reached records program) (sym e) there
      found p k (inr ne) = s.found p (sym (get_or-set_other w.marks q p true false ne) ∙ k)

      waits : (p : ℕ) → Contains w.waiting p ⊎ (q ≡ p) → get_or (set w.marks q true) p false ≡ true
      waits p (inl c) = stays p (s.waits p c) (cases_eq p q)
      waits p (inr e) = ap (λ n. get_or (set w.marks q true) n false) (sym e) ∙ same

      added : (p : ℕ) → get_or (set w.marks q true) p false ≡ true → (p ≡ q) ⊎ (p ≡ q → ⊥) → (get_or w.marks p false ≡ true) ⊎ Contains (w.waiting ++ q ∷ []) p
      added p k (inl e) = inr (subst (Contains (w.waiting ++ q ∷ [])) (sym e) (Contains-push w.waiting q))
      added p k (inr ne) = inl (sym (get_or-set_other w.marks q p true false ne) ∙ k)

      lighter : weight (record { marks = set w.marks q true; waiting = w.waiting ++ q ∷ [] }) ≤ weight w
      lighter =
          let sums = sum_by-set (λ m. cond (not m) 1 0) w.marks q true false l in
          let one : ◌≡◌ {A = ℕ} (cond (not (get_or w.marks q false)) 1 0) 1 = ap (λ m. cond (not m) 1 0) before in
          let more = length_push w.waiting q in
          omega (arith, sums, one, more)

  reach_grows : (q : ℕ) (w : Work) → Sound w → Reached records program q → q < length records → Grows w (reach q w) × (marked (reach q w) q ≡ true)
  unfolding reach
  reach_grows q w s there l = go (slice_get w.marks q) refl
    where
      within : q < length w.marks
      within = omega (arith, s.sized)

      go : (o : Option Bool) → slice_get w.marks q ≡ o → Grows w (marked_now w q o) × (marked (marked_now w q o) q ≡ true)
      go None e = let is = slice_get-get_or w.marks q false within in absurd (cc)
      go (Some true) e = (grows_same w s, get_or_from_slice_get w.marks q true false e)
      go (Some false) e = (first_time q w s there within (get_or_from_slice_get w.marks q false false e), get_or-set_same w.marks q true false within)

  -- chains of references lead to the records of these libraries
  abbrev Leads : List LibName → Type 0
  Leads names = (name : LibName) (p : ℕ) → Contains names name → place_of records name ≡ Some p → Reached records program p

  pub each_grows : (names : List LibName) (w : Work) → Sound w → Leads names → Grows w (reach_each records names w) × AllMarked names (reach_each records names w)
  unfolding reach_each
  each_grows [] w s lead = (grows_same w s, λ name p c e. absurd (let l : c.0 < 0 = c.1 in omega arith))
  each_grows (name ∷ names) w s lead = go (place_of records name) refl (λ v t. each_grows names v t later)
    where
      later : Leads names
      later n p c e = lead n p (contains_later name n names c) e

      Rest : Type 0
      Rest = (v : Work) → Sound v → Grows v (reach_each records names v) × AllMarked names (reach_each records names v)

      none : (v : Work) → place_of records name ≡ None → AllMarked names v → AllMarked (name ∷ names) v
      none v e all n p c is = first (contains_cases name n names c)
        where
          first : (name ≡ n) ⊎ Contains names n → marked v p ≡ true
          first (inl same) = absurd (let there : place_of records name ≡ Some p = ap (place_of records) same ∙ is in cc)
          first (inr later) = all n p later is

      some : (v : Work) (q : ℕ) → place_of records name ≡ Some q → marked v q ≡ true → AllMarked names v → AllMarked (name ∷ names) v
      some v q e m all n p c is = first (contains_cases name n names c)
        where
          first : (name ≡ n) ⊎ Contains names n → marked v p ≡ true
          first (inl same) =
              let there : place_of records name ≡ Some p = ap (place_of records) same ∙ is in
              let at : q ≡ p = cc in
              subst (λ k. marked v k ≡ true) at m
          first (inr later) = all n p later is

      go : (o : Option ℕ) → place_of records name ≡ o → Rest
          → Grows w (reach_each records names (reach_there o w)) × AllMarked (name ∷ names) (reach_each records names (reach_there o w))
      go None e rest = let r = rest w s in (r.0, none (reach_each records names w) e r.1)
      go (Some q) e rest =
          let one = reach_grows q w s (lead name q (0, omega arith, refl) e) (place_there records name q e) in
          let r = rest (reach q w) one.0.sound in (
            grows_on w (reach q w) (reach_each records names (reach q w)) one.0 r.0,
            some (reach_each records names (reach q w)) q e (r.0.marks_stay q one.1) r.1,
          )

  marks_last : (names : List LibName) (v w : Work) → Grows v w → AllMarked names v → AllMarked names w
  marks_last names v w g all name p c e = g.marks_stay p (all name p c e)

  followed_on : (except : ℕ → Type 0) (v w : Work) → Grows v w → Followed except v → Followed except w
  followed_on except v w g f p r m e = go (g.added p m)
    where
      old : except p ⊎ (Contains v.waiting p ⊎ AllMarked r.refs v) → except p ⊎ (Contains w.waiting p ⊎ AllMarked r.refs w)
      old (inl x) = inl x
      old (inr (inl c)) = inr (inl (g.waits_stay p c))
      old (inr (inr all)) = inr (inr (marks_last r.refs v w g all))

      go : (marked v p ≡ true) ⊎ Contains w.waiting p → except p ⊎ (Contains w.waiting p ⊎ AllMarked r.refs w)
      go (inl k) = old (f p r k e)
      go (inr c) = inr (inl c)

  -- what holds each time that a place is taken from those that wait
  pub record Known (w : Work) : Type 0 where
    pub sound : Sound w
    pub followed : Followed (λ p. ⊥) w
    pub begun : AllMarked program.refs w

  start_sound : Sound (record { marks = no_marks records; waiting = [] })
  start_sound = record {
    sized = length-replicate (length records) false;
    found = λ p k. absurd (none_marked (length records) p k);
    waits = λ p c. absurd (let l : c.0 < 0 = c.1 in omega arith);
  }

  start_followed : Followed (λ p. ⊥) (record { marks = no_marks records; waiting = [] })
  start_followed p r m e = absurd (none_marked (length records) p m)

  -- the program's references are looked at
  pub start_known : (w : Work) → w ≡ reach_each records program.refs (record { marks = no_marks records; waiting = [] }) → Known w
  start_known w e =
      let start : Work = record { marks = no_marks records; waiting = [] } in
      let g = each_grows program.refs start start_sound (λ name p c is. mentioned name p c is) in
      subst Known (sym e) (record {
        sound = g.0.sound;
        followed = followed_on (λ p. ⊥) start (reach_each records program.refs start) g.0 start_followed;
        begun = g.1;
      })

  -- a place is taken from those that wait
  taken : (v w : Work) (place : ℕ) → v.marks ≡ w.marks → v.waiting ≡ w.waiting ++ place ∷ [] → Known v → Sound w × (Reached records program place × (Followed (λ p. p ≡ place) w × AllMarked program.refs w))
  taken v w place same e k = (
    record { sized = ap length (sym same) ∙ k.sound.sized; found = λ p m. k.sound.found p (over p m); waits = λ p c. back p (k.sound.waits p (still p c)) },
    (
      k.sound.found place (k.sound.waits place (subst (λ ws. Contains ws place) (sym e) (Contains-push w.waiting place))),
      (
        (λ p r m is. left p r (k.followed p r (over p m) is)),
        λ name p c is. back p (k.begun name p c is),
      ),
    ),
  )
    where
      over : (p : ℕ) → marked w p ≡ true → marked v p ≡ true
      over p m = ap (λ ms. get_or ms p false) same ∙ m

      back : (p : ℕ) → marked v p ≡ true → marked w p ≡ true
      back p m = ap (λ ms. get_or ms p false) (sym same) ∙ m

      still : (p : ℕ) → Contains w.waiting p → Contains v.waiting p
      still p c = subst (λ ws. Contains ws p) (sym e) (Contains-append_left w.waiting (place ∷ []) p c)

      rest : (p : ℕ) (r : CompiledLibrary) → Contains w.waiting p ⊎ (place ≡ p) → (p ≡ place) ⊎ (Contains w.waiting p ⊎ AllMarked r.refs w)
      rest p r (inl c) = inr (inl c)
      rest p r (inr is) = inl (sym is)

      left : (p : ℕ) (r : CompiledLibrary) → ⊥ ⊎ (Contains v.waiting p ⊎ AllMarked r.refs v) → (p ≡ place) ⊎ (Contains w.waiting p ⊎ AllMarked r.refs w)
      left p r (inl never) = absurd never
      left p r (inr (inl c)) = rest p r (Contains-push_cases w.waiting place p (subst (λ ws. Contains ws p) e c))
      left p r (inr (inr all)) = inr (inr (λ name q c is. back q (all name q c is)))

  -- its references are looked at
  follow_grows : (w : Work) (place : ℕ) → Sound w → Reached records program place → Followed (λ p. p ≡ place) w → AllMarked program.refs w
      → Known (follow records place w) × (weight (follow records place w) ≤ weight w)
  unfolding follow
  follow_grows w place s there f begun = go (slice_get records place) refl
    where
      go : (o : Option CompiledLibrary) → slice_get records place ≡ o → Known (follow_record records o w) × (weight (follow_record records o w) ≤ weight w)
      go None e = (record { sound = s; followed = λ p r m is. none p r is (f p r m is); begun = begun }, omega arith)
        where
          none : (p : ℕ) (r : CompiledLibrary) → slice_get records p ≡ Some r → (p ≡ place) ⊎ (Contains w.waiting p ⊎ AllMarked r.refs w) → ⊥ ⊎ (Contains w.waiting p ⊎ AllMarked r.refs w)
          none p r is (inl at) = absurd (let here : slice_get records place ≡ Some r = ap (slice_get records) (sym at) ∙ is in cc)
          none p r is (inr x) = inr x
      go (Some here) e =
          let g = each_grows here.refs w s (λ name p c is. further place here name p there e c is) in (
            record {
              sound = g.0.sound;
              followed = λ p r m is. done p r is g.1 (followed_on (λ p. p ≡ place) w (reach_each records here.refs w) g.0 f p r m is);
              begun = marks_last program.refs w (reach_each records here.refs w) g.0 begun;
            },
            g.0.lighter,
          )
        where
          done : (p : ℕ) (r : CompiledLibrary) → slice_get records p ≡ Some r → AllMarked here.refs (reach_each records here.refs w)
              → (p ≡ place) ⊎ (Contains (reach_each records here.refs w).waiting p ⊎ AllMarked r.refs (reach_each records here.refs w))
              → ⊥ ⊎ (Contains (reach_each records here.refs w).waiting p ⊎ AllMarked r.refs (reach_each records here.refs w))
          done p r is all (inl at) =
              let there : slice_get records place ≡ Some r = ap (slice_get records) (sym at) ∙ is in
              let same : here ≡ r = cc in
              inr (inr (subst (λ (x : CompiledLibrary). AllMarked x.refs (reach_each records here.refs w)) same all))
          done p r is all (inr x) = inr x

  -- one turn of the loop
  pub known_on : (u v w : Work) (place : ℕ) → Known u → u.marks ≡ v.marks → u.waiting ≡ v.waiting ++ place ∷ [] → w ≡ follow records place v → Known w × (weight w < weight u)
  known_on u v w place k same e is =
      let t = taken u v place same e k in
      let g = follow_grows v place t.0 t.1.0 t.1.1.0 t.1.1.1 in
      let shorter = ap length e ∙ length_push v.waiting place in
      let counts = ap (count_by not) same in
      (subst Known (sym is) g.0, subst (λ x. weight x < weight u) (sym is) (omega (arith, g.1, shorter, counts)))

  all_marked : (w : Work) → Known w → w.waiting ≡ [] → (p : ℕ) → Reached records program p → marked w p ≡ true
  all_marked w k none p (mentioned name q c e) = k.begun name q c e
  all_marked w k none p (further from r name q there is c e) = go (k.followed from r (all_marked w k none from there) is)
    where
      go : ⊥ ⊎ (Contains w.waiting from ⊎ AllMarked r.refs w) → marked w q ≡ true
      go (inl never) = absurd never
      go (inr (inl waiting)) = absurd (let x = subst (λ ws. Contains ws from) none waiting in let l : x.0 < 0 = x.1 in omega arith)
      go (inr (inr all)) = all name q c e

  -- where nothing waits, the marks are the plan
  pub known_plan : (w : Work) (plan : List ℕ) → Known w → w.waiting ≡ [] → plan ≡ marked_from 0 w.marks → IsPlan records program plan
  known_plan w plan k none e = subst (IsPlan records program) (sym e) (record {
    rising = marks_rise 0 w.marks;
    exact = λ place. (
      (λ c. let there = there_is_marked 0 w.marks place c in
          let at : there.0 ≡ place = omega (arith, there.1) in
          k.sound.found place (subst (λ n. get_or w.marks n false ≡ true) at there.2)),
      (λ r. let at : 0 + place ≡ place = omega arith in
          subst (Contains (marked_from 0 w.marks)) at (mark_is_there 0 w.marks place (all_marked w k none place r))),
    );
  })

-- the loop over references takes the steps of its definition
module _ (records : List CompiledLibrary) (names : List LibName) (i : ℕ) (w whole : Work) where
  pub each_on : (name : LibName) (place : Option ℕ) → i < length names → name ≡ get_or names i name → place ≡ place_of records name
      → reach_each records (drop i names) w ≡ whole → reach_each records (drop (i + 1) names) (reach_there place w) ≡ whole
  unfolding reach_each
  each_on name place h e is so_far =
      ap (λ p. reach_each records (drop (i + 1) names) (reach_there p w)) is
      ∙ ap (λ ns. reach_each records ns w) (sym (cons_at names i name h e)) ∙ so_far

  pub each_end : length names ≤ i → reach_each records (drop i names) w ≡ whole → w ≡ whole
  unfolding reach_each
  each_end h so_far = ap (λ ns. reach_each records ns w) (sym (drop_all i names h)) ∙ so_far
