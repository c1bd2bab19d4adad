-- The stack of open files takes the steps of the definition.
use Rattle.std.proofs.Common.{◌≡◌, ℕ, zero, suc, ◌+◌, ◌-◌, arith, Bool, List, [], ◌∷◌, drop, reverse, Result, Ok, Err, Option, Some, None, refl, sym, ap, ◌∙◌}
use Rattle.std.specs.Prelude.{slice_get}
use Rattle.base_data.specs.Gives.{◌>>=◌}
use Rattle.base_data.specs.declared.fault.Fault.{Fault}
use Rattle.load_forms.specs.declared.set.Import.{Import}
use Rattle.load_import.proofs.TurnLemmas.{got}
use Rattle.base_outside.specs.Contents.{Paths}
use Rattle.load_files.specs.Found.{found_of}
use Rattle.load_files.specs.Load.{Loads, known_of, settled, open_file, too_many, refer, refer_to, load_new, refer_each, load_file}
use Rattle.load_files.specs.Stack.{left, first_of, next_of, inside, go_on, go_back, unwind, meaning, known_by, known_next, returned_by, returned, descended_in, descended_by, descended}
use Rattle.load_files.specs.declared.found.Opened.{Opened}
use Rattle.load_files.specs.declared.found.Found.{Found}
use Rattle.load_files.specs.declared.found.Loading.{Loading}
use Rattle.load_files.specs.declared.found.Open.{Open}
use Rattle.load_files.specs.declared.refer.Known.{Known}
use Rattle.load_files.specs.declared.refer.Known.TheVariants as known

-- ---- one definition after another

bind_assoc : {A B C F : Type 0} (x : Result A F) (f : A → Result B F) (g : B → Result C F) → ((x >>= f) >>= g) ≡ (x >>= (λ a. f a >>= g))
bind_assoc (Ok a) f g = refl
bind_assoc (Err e) f g = refl

bind_twice : {A B C D F : Type 0} (x : Result A F) (f : A → Result B F) (g : B → Result C F) (h : C → Result D F) → (((x >>= f) >>= g) >>= h) ≡ (x >>= (λ a. (f a >>= g) >>= h))
bind_twice (Ok a) f g h = refl
bind_twice (Err e) f g h = refl

-- ---- the next import

none_left : {X : Type 0} (xs : List X) (i : ℕ) → slice_get xs i ≡ None → drop i xs ≡ []
none_left [] zero h = refl
none_left [] (suc i) h = refl
none_left (x ∷ xs) zero h = absurd (cc)
none_left (x ∷ xs) (suc i) h = none_left xs i h

abbrev rest : Open → List Import
rest o = drop (o.next + 1) o.opened.form.imports

pub seen : (o : Open) (s : Loading) (k : Known) → known_next o s ≡ Ok (Some k) → (i : Import) × (left o ≡ i ∷ rest o) × (slice_get o.opened.form.imports o.next ≡ Some i) × (known_of s o.needs i.set ≡ Ok k)
seen o s k h = go (slice_get o.opened.form.imports o.next) refl h
  where
    Seen : Type 0
    Seen = (i : Import) × (left o ≡ i ∷ rest o) × (slice_get o.opened.form.imports o.next ≡ Some i) × (known_of s o.needs i.set ≡ Ok k)

    by_known : (i : Import) → slice_get o.opened.form.imports o.next ≡ Some i → (r : Result Known Fault) → known_of s o.needs i.set ≡ r → (r >>= (λ k. Ok (Some k))) ≡ Ok (Some k) → Seen
    by_known i is (Ok j) e h = (i, got o.opened.form.imports o.next i is, is, e ∙ (cc))
    by_known i is (Err f) e h = absurd (cc)

    go : (x : Option Import) → slice_get o.opened.form.imports o.next ≡ x → known_by o s x ≡ Ok (Some k) → Seen
    go None is h = absurd (cc)
    go (Some i) is h = by_known i is (known_of s o.needs i.set) refl h

pub none_seen : (o : Open) (s : Loading) → known_next o s ≡ Ok None → left o ≡ []
none_seen o s h = go (slice_get o.opened.form.imports o.next) refl h
  where
    by_known : (i : Import) (r : Result Known Fault) → (r >>= (λ k. Ok (Some k))) ≡ Ok None → left o ≡ []
    by_known i (Ok j) h = absurd (cc)
    by_known i (Err f) h = absurd (cc)

    go : (x : Option Import) → slice_get o.opened.form.imports o.next ≡ x → known_by o s x ≡ Ok None → left o ≡ []
    go None is h = none_left o.opened.form.imports o.next is
    go (Some i) is h = by_known i (known_of s o.needs i.set) h

pub fault_seen : (o : Open) (s : Loading) (f : Fault) → known_next o s ≡ Err f → (i : Import) × (left o ≡ i ∷ rest o) × (known_of s o.needs i.set ≡ Err f)
fault_seen o s f h = go (slice_get o.opened.form.imports o.next) refl h
  where
    Seen : Type 0
    Seen = (i : Import) × (left o ≡ i ∷ rest o) × (known_of s o.needs i.set ≡ Err f)

    by_known : (i : Import) → slice_get o.opened.form.imports o.next ≡ Some i → (r : Result Known Fault) → known_of s o.needs i.set ≡ r → (r >>= (λ k. Ok (Some k))) ≡ Err f → Seen
    by_known i is (Ok j) e h = absurd (cc)
    by_known i is (Err g) e h = let same : g ≡ f = cc in (i, got o.opened.form.imports o.next i is, e ∙ ap (λ (x : Fault). Err x) same)

    go : (x : Option Import) → slice_get o.opened.form.imports o.next ≡ x → known_by o s x ≡ Err f → Seen
    go None is h = absurd (cc)
    go (Some i) is h = by_known i is (known_of s o.needs i.set) refl h

abbrev child : ℕ → Opened × Loading → Loads (Open × Loading)
child room x = Ok (first_of room x.0, x.1)

abbrev moved : Open → List Bool × Loading → Loads (Open × Loading)
moved o n = Ok (next_of o n.0 (o.next + 1), n.1)

module _ (files : Paths) (roots : List (List ℕ)) where
  -- an import is taken, and then those behind it
  on_first : (o : Open) (needs : List Bool) (i : Import) (is : List Import) (s : Loading)
      → go_on files roots o needs (i ∷ is) s ≡ (refer files roots (inside files roots o.room) needs s i.set >>= (λ n. go_on files roots o n.0 is n.1))
  unfolding refer_each
  on_first o needs i is s =
      bind_assoc (refer files roots (inside files roots o.room) needs s i.set) (λ n. refer_each files roots (inside files roots o.room) n.0 n.1 is) (λ n. Ok (found_of o.opened n.0 n.1, n.1))

  on_known : (o : Open) (os : List Open) (s : Loading) (i : Import) (k : Result Known Fault) → left o ≡ i ∷ rest o → known_of s o.needs i.set ≡ k
      → meaning files roots o os s ≡ ((refer_to files roots (inside files roots o.room) o.needs s i.set k >>= (λ n. go_on files roots o n.0 (rest o) n.1)) >>= unwind files roots os)
  unfolding meaning
  on_known o os s i k is e =
      ap (λ is. go_on files roots o o.needs is s >>= unwind files roots os) is
      ∙ ap (λ r. r >>= unwind files roots os) (on_first o o.needs i (rest o) s)
      ∙ ap (λ k. (refer_to files roots (inside files roots o.room) o.needs s i.set k >>= (λ n. go_on files roots o n.0 (rest o) n.1)) >>= unwind files roots os) e

  pub turn_builtin : (o : Open) (os : List Open) (s : Loading) → known_next o s ≡ Ok (Some known.Builtin)
      → meaning files roots o os s ≡ meaning files roots (next_of o o.needs (o.next + 1)) os s
  unfolding meaning
  turn_builtin o os s h = let x = seen o s known.Builtin h in on_known o os s x.0 (Ok known.Builtin) x.1 x.3

  pub turn_joined : (o : Open) (os : List Open) (s : Loading) → known_next o s ≡ Ok (Some known.Joined)
      → meaning files roots o os s ≡ meaning files roots (next_of o o.needs (o.next + 1)) os s
  unfolding meaning
  turn_joined o os s h = let x = seen o s known.Joined h in on_known o os s x.0 (Ok known.Joined) x.1 x.3

  pub turn_loaded : (o : Open) (os : List Open) (s : Loading) (needs : List Bool) → known_next o s ≡ Ok (Some (known.Loaded needs))
      → meaning files roots o os s ≡ meaning files roots (next_of o needs (o.next + 1)) os s
  unfolding meaning
  turn_loaded o os s needs h = let x = seen o s (known.Loaded needs) h in on_known o os s x.0 (Ok (known.Loaded needs)) x.1 x.3

  pub turn_fault : (o : Open) (os : List Open) (s : Loading) (f : Fault) → known_next o s ≡ Err f → meaning files roots o os s ≡ Err (s, f)
  turn_fault o os s f h = let x = fault_seen o s f h in on_known o os s x.0 (Err f) x.1 x.2

  pub turn_end : (o : Open) (os : List Open) (s : Loading) → known_next o s ≡ Ok None → meaning files roots o os s ≡ unwind files roots os (found_of o.opened o.needs s, s)
  unfolding meaning refer_each
  turn_end o os s h = ap (λ is. go_on files roots o o.needs is s >>= unwind files roots os) (none_seen o s h)

  -- ---- a file inside another

  first_means : (room : ℕ) (o : Opened) (os : List Open) (s : Loading) → meaning files roots (first_of room o) os s ≡ (load_file files roots room o s >>= unwind files roots os)
  unfolding meaning load_file
  first_means zero o os s = refl
  first_means (suc room) o os s = refl

  pub first_alone : (room : ℕ) (o : Opened) (s : Loading) → meaning files roots (first_of room o) [] s ≡ load_file files roots room o s
  unfolding unwind
  first_alone room o s = first_means room o [] s ∙ go (load_file files roots room o s)
    where
      go : (r : Loads (Found × Loading)) → (r >>= unwind files roots []) ≡ r
      go (Ok l) = refl
      go (Err e) = refl

  unwound : (o : Open) (os : List Open) (i : Import) → left o ≡ i ∷ rest o → (l : Found × Loading)
      → unwind files roots (o ∷ os) l ≡ ((settled i.set o.needs l.0 l.1 >>= (λ n. go_on files roots o n.0 (rest o) n.1)) >>= unwind files roots os)
  unfolding unwind
  unwound o os i is l = ap (λ is. go_back files roots o is l >>= unwind files roots os) is

  bind_same : {A B F : Type 0} (x : Result A F) (f g : A → Result B F) → ((a : A) → f a ≡ g a) → (x >>= f) ≡ (x >>= g)
  bind_same (Ok a) f g h = h a
  bind_same (Err e) f g h = refl

  opened_on : (o c : Open) (os : List Open) (i : Import) (t : Loading) (room : ℕ) → left o ≡ i ∷ rest o → (y : Loads (Opened × Loading))
      → (y >>= child room) ≡ Ok (c, t)
      → (((y >>= (λ x. load_file files roots room x.0 x.1 >>= (λ l. settled i.set o.needs l.0 l.1))) >>= (λ n. go_on files roots o n.0 (rest o) n.1)) >>= unwind files roots os)
      ≡ meaning files roots c (o ∷ os) t
  opened_on o c os i t room is (Ok x) k =
      let pair : ◌≡◌ {A = Open × Loading} (first_of room x.0, x.1) (c, t) = cc in
      bind_twice (load_file files roots room x.0 x.1) (λ l. settled i.set o.needs l.0 l.1) (λ n. go_on files roots o n.0 (rest o) n.1) (unwind files roots os)
      ∙ bind_same (load_file files roots room x.0 x.1) (λ l. (settled i.set o.needs l.0 l.1 >>= (λ n. go_on files roots o n.0 (rest o) n.1)) >>= unwind files roots os) (unwind files roots (o ∷ os))
      (λ l. sym (unwound o os i is l))
      ∙ sym (first_means room x.0 (o ∷ os) x.1)
      ∙ ap (λ (q : Open × Loading). meaning files roots q.0 (o ∷ os) q.1) pair
  opened_on o c os i t room is (Err e) k = absurd (cc)

  opened_stops : (o : Open) (os : List Open) (i : Import) (t : Loading) (f : Fault) (room : ℕ) → (y : Loads (Opened × Loading))
      → (y >>= child room) ≡ Err (t, f)
      → (((y >>= (λ x. load_file files roots room x.0 x.1 >>= (λ l. settled i.set o.needs l.0 l.1))) >>= (λ n. go_on files roots o n.0 (rest o) n.1)) >>= unwind files roots os)
      ≡ Err (t, f)
  opened_stops o os i t f room (Ok x) k = absurd (cc)
  opened_stops o os i t f room (Err e) k = let same : ◌≡◌ {A = Loading × Fault} e (t, f) = cc in ap (λ (q : Loading × Fault). Err q) same

  new_on : (o c : Open) (os : List Open) (i : Import) (s t : Loading) → left o ≡ i ∷ rest o → (room : ℕ) → descended_in files roots room i.set s ≡ Ok (c, t)
      → ((load_new files roots (inside files roots room) o.needs s i.set >>= (λ n. go_on files roots o n.0 (rest o) n.1)) >>= unwind files roots os) ≡ meaning files roots c (o ∷ os) t
  new_on o c os i s t is zero k = absurd (cc)
  new_on o c os i s t is (suc room) k = opened_on o c os i t room is (open_file files roots i.set s) k

  new_stops : (o : Open) (os : List Open) (i : Import) (s t : Loading) (f : Fault) (room : ℕ) → descended_in files roots room i.set s ≡ Err (t, f)
      → ((load_new files roots (inside files roots room) o.needs s i.set >>= (λ n. go_on files roots o n.0 (rest o) n.1)) >>= unwind files roots os) ≡ Err (t, f)
  new_stops o os i s t f zero k = let same : ◌≡◌ {A = Loading × Fault} (s, too_many i.set) (t, f) = cc in ap (λ (q : Loading × Fault). Err q) same
  new_stops o os i s t f (suc room) k = opened_stops o os i t f room (open_file files roots i.set s) k

  pub turn_new : (o c : Open) (os : List Open) (s t : Loading) → known_next o s ≡ Ok (Some known.New) → descended files roots o s ≡ Ok (c, t)
      → meaning files roots o os s ≡ meaning files roots c (o ∷ os) t
  turn_new o c os s t h d =
      let x = seen o s known.New h in
      on_known o os s x.0 (Ok known.New) x.1 x.3 ∙ new_on o c os x.0 s t x.1 o.room (ap (descended_by files roots o s) (sym x.2) ∙ d)

  pub turn_new_stops : (o : Open) (os : List Open) (s t : Loading) (f : Fault) → known_next o s ≡ Ok (Some known.New) → descended files roots o s ≡ Err (t, f)
      → meaning files roots o os s ≡ Err (t, f)
  turn_new_stops o os s t f h d =
      let x = seen o s known.New h in
      on_known o os s x.0 (Ok known.New) x.1 x.3 ∙ new_stops o os x.0 s t f o.room (ap (descended_by files roots o s) (sym x.2) ∙ d)

  -- ---- back in the file that waited

  pub unwound_on : (o p : Open) (os : List Open) (found : Found) (s t : Loading) → returned o found s ≡ Ok (p, t)
      → unwind files roots (o ∷ os) (found, s) ≡ meaning files roots p os t
  unfolding unwind meaning
  unwound_on o p os found s t h = go (slice_get o.opened.form.imports o.next) refl h
    where
      ends : slice_get o.opened.form.imports o.next ≡ None → unwind files roots (o ∷ os) (found, s) ≡ meaning files roots o os s
      ends is =
          let none = none_left o.opened.form.imports o.next is in
          ap (λ is. go_back files roots o is (found, s) >>= unwind files roots os) none
          ∙ ap (λ is. go_on files roots o o.needs is s >>= unwind files roots os) (sym none)

      goes_on : (i : Import) → left o ≡ i ∷ rest o → (y : Loads (List Bool × Loading)) → settled i.set o.needs found s ≡ y
          → (y >>= moved o) ≡ Ok (p, t) → unwind files roots (o ∷ os) (found, s) ≡ meaning files roots p os t
      goes_on i is (Ok n) e k =
          let pair : ◌≡◌ {A = Open × Loading} (next_of o n.0 (o.next + 1), n.1) (p, t) = cc in
          unwound o os i is (found, s)
          ∙ ap (λ r. (r >>= (λ n. go_on files roots o n.0 (rest o) n.1)) >>= unwind files roots os) e
          ∙ ap (λ (q : Open × Loading). meaning files roots q.0 os q.1) pair
      goes_on i is (Err f) e k = absurd (cc)

      go : (x : Option Import) → slice_get o.opened.form.imports o.next ≡ x → returned_by o found s x ≡ Ok (p, t) → unwind files roots (o ∷ os) (found, s) ≡ meaning files roots p os t
      go None is k =
          let pair : ◌≡◌ {A = Open × Loading} (o, s) (p, t) = cc in
          ends is ∙ ap (λ (q : Open × Loading). meaning files roots q.0 os q.1) pair
      go (Some i) is k = goes_on i (got o.opened.form.imports o.next i is) (settled i.set o.needs found s) refl k

  pub unwound_stops : (o : Open) (os : List Open) (found : Found) (s t : Loading) (f : Fault) → returned o found s ≡ Err (t, f)
      → unwind files roots (o ∷ os) (found, s) ≡ Err (t, f)
  unwound_stops o os found s t f h = go (slice_get o.opened.form.imports o.next) refl h
    where
      stops : (i : Import) → left o ≡ i ∷ rest o → (y : Loads (List Bool × Loading)) → settled i.set o.needs found s ≡ y
          → (y >>= moved o) ≡ Err (t, f) → unwind files roots (o ∷ os) (found, s) ≡ Err (t, f)
      stops i is (Ok n) e k = absurd (cc)
      stops i is (Err g) e k =
          let same : ◌≡◌ {A = Loading × Fault} g (t, f) = cc in
          unwound o os i is (found, s)
          ∙ ap (λ r. (r >>= (λ n. go_on files roots o n.0 (rest o) n.1)) >>= unwind files roots os) e
          ∙ ap (λ (q : Loading × Fault). Err q) same

      go : (x : Option Import) → slice_get o.opened.form.imports o.next ≡ x → returned_by o found s x ≡ Err (t, f) → unwind files roots (o ∷ os) (found, s) ≡ Err (t, f)
      go None is k = absurd (cc)
      go (Some i) is k = stops i (got o.opened.form.imports o.next i is) (settled i.set o.needs found s) refl k

  -- no file waits
  pub unwound_none : (os : List Open) (l : Found × Loading) → os ≡ [] → unwind files roots (reverse os) l ≡ Ok l
  unfolding unwind
  unwound_none os l e = ap (λ ws. unwind files roots (reverse ws) l) e

-- ---- the file of the next import

pub descends : (files : Paths) (roots : List (List ℕ)) (o first : Open) (s new : Loading) (i : Import) (opened : Opened) → Some i ≡ slice_get o.opened.form.imports o.next
    → (o.room ≡ 0 → ⊥) → open_file files roots i.set s ≡ Ok (opened, new) → first ≡ first_of (o.room - 1) opened → descended files roots o s ≡ Ok (first, new)
descends files roots o first s new i opened at some found is = ap (descended_by files roots o s) (sym at) ∙ by o.room some is
  where
    by : (room : ℕ) → (room ≡ 0 → ⊥) → first ≡ first_of (room - 1) opened → descended_in files roots room i.set s ≡ Ok (first, new)
    by zero some here = absurd (some refl)
    by (suc room) some here = ap (λ r. r >>= (λ p. Ok (first_of room p.0, p.1))) found ∙ ap (λ p. Ok (p, new)) (sym (here ∙ ap (λ n. first_of n opened) (omega arith)))
