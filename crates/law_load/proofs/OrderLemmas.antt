-- Libraries are loaded depth first along the imports.
use Rattle.std.proofs.Common.{◌≡◌, ℕ, zero, suc, Bool, true, false, List, [], ◌∷◌, ◌++◌, length, Result, Ok, Err, Option, Some, None, refl, sym, ap, subst, ◌∙◌, true≢false}
use Rattle.std.specs.Prelude.{is_some, slice_get, if◌then◌else◌}
use Rattle.base_data.specs.Gives.{◌>>=◌}
use Rattle.base_data.specs.declared.fault.Fault.{Fault}
use Rattle.base_data.specs.declared.fault.FaultKind.TheVariants as kind
use Rattle.load_builtin.specs.Exports.{exports}
use Rattle.load_file_names.specs.File.{file_of}
use Rattle.load_forms.specs.Version.{version_fits}
use Rattle.load_forms.specs.declared.set.Import.{Import}
use Rattle.load_import.specs.Table.{value_of}
use Rattle.load_import.specs.declared.set.ImportSet.{ImportSet}
use Rattle.base_outside.specs.Contents.{Paths, at_path, Reading, bytes, longer, absent, read_of}
use Rattle.load_files.specs.Found.{nothing_loaded, no_needs, most_libraries, with_needs, with_source, with_done, found_of}
use Rattle.load_files.specs.Load.{Loads, Loader, lifted, about, file_limit, program_in, open_file, known_of, settled, load_new, refer_to, refer, refer_each, load_with, load_file, program_from, load}
use Rattle.load_files.specs.declared.found.Opened.{Opened}
use Rattle.load_files.specs.declared.found.Found.{Found}
use Rattle.load_files.specs.declared.found.Loading.{Loading}
use Rattle.load_files.specs.declared.refer.Known.{Known}
use Rattle.load_files.specs.declared.refer.Known.TheVariants as known
use Rattle.law_load.specs.Laws.{Libraries, IsAt, AreLoadedOnce}
use Rattle.law_load.specs.Orders.{files_of, IsAmong, IsNotAmong, LoadsFollow, no_more, given, again, anew, AreInOrder, IsTheOrder}
use Rattle.law_load.proofs.RowLemmas.{at_first, IsNotIn, row_of, no_row}
use Rattle.law_load.proofs.MarkLemmas.{length-no_needs, no_mark}
use Rattle.law_load.proofs.Invariant.{Stay, nothing_sound}
use Rattle.law_load.proofs.OpenLemmas.{Ends, ends_on, ends_ok, ends_err, Idle, Opens, opens}
use Rattle.law_load.proofs.KnownLemmas.{New, Is, known_is}
use Rattle.law_load.proofs.ReferLemmas.{IsSound, Standing, Referred, IsLoaded, LoadsWell, InsideWell, open_sound, done_is, end_there, refers}
use Rattle.law_load.proofs.LoadLemmas.{ReferredAll, refers_each, loads_file, loads_all}

-- ---- files

files_with : (loaded : Libraries) (file : List ℕ) (f : Found) → files_of (loaded ++ (file, f) ∷ []) ≡ files_of loaded ++ file ∷ []
files_with [] file f = refl
files_with (row ∷ rows) file f = ap (λ xs. row.0 ∷ xs) (files_with rows file f)

file_at : (rows : Libraries) (i : ℕ) (file : List ℕ) (f : Found) → IsAt rows i file f → slice_get (files_of rows) i ≡ Some file
file_at [] i file f h = absurd (cc)
file_at (row ∷ rows) zero file f h =
    let same : ◌≡◌ {A = List ℕ × Found} row (file, f) = cc in
    ap (λ (r : List ℕ × Found). Some r.0) same
file_at (row ∷ rows) (suc i) file f h = file_at rows i file f h

row_at : (rows : Libraries) (i : ℕ) (file : List ℕ) → slice_get (files_of rows) i ≡ Some file → (f : Found) × IsAt rows i file f
row_at [] i file h = absurd (cc)
row_at (row ∷ rows) zero file h =
    let same : row.0 ≡ file = cc in
    (row.1, λ i. Some (same i, row.1))
row_at (row ∷ rows) (suc i) file h = row_at rows i file h

among : (rows : Libraries) (file : List ℕ) (i : ℕ) (f : Found) → IsAt rows i file f → IsAmong (files_of rows) file
among rows file i f h = (i, file_at rows i file f h)

not_among : (rows : Libraries) (file : List ℕ) → IsNotIn rows file → IsNotAmong (files_of rows) file
not_among rows file h n at = let r = row_at rows n file at in no_row file rows n r.0 h r.1

-- ---- where more is loaded

follow_still : (old new : Libraries) → Stay old new → {before after : List (List ℕ)} {is : List Import} → LoadsFollow old before is after → LoadsFollow new before is after
follow_still old new stay no_more = no_more
follow_still old new stay (given e rest) = given e (follow_still old new stay rest)
follow_still old new stay (again e a rest) = again e a (follow_still old new stay rest)
follow_still old new stay (anew {i = i} place library e a at below rest) =
    anew place library e a (stay place (file_of i.set.library) library at) (follow_still old new stay below) (follow_still old new stay rest)

-- ---- no other order

module _ (loaded : Libraries) (once : AreLoadedOnce loaded) where
  one_library : (i j : ℕ) (file : List ℕ) (a b : Found) → IsAt loaded i file a → IsAt loaded j file b → b ≡ a
  one_library i j file a b h k =
      let same : ◌≡◌ {A = Option (List ℕ × Found)} (Some (file, b)) (Some (file, a)) = sym k ∙ ap (slice_get loaded) (sym (once.once i j file a b h k)) ∙ h in
      let rows : ◌≡◌ {A = List ℕ × Found} (file, b) (file, a) = cc in
      ap (λ (row : List ℕ × Found). row.1) rows

  one_order : {before a b : List (List ℕ)} {is : List Import} → LoadsFollow loaded before is a → LoadsFollow loaded before is b → a ≡ b
  one_order no_more no_more = refl
  one_order (given e r) (given f s) = one_order r s
  one_order (given e r) (again f m s) = absurd (true≢false (sym e ∙ f))
  one_order (given e r) (anew place library f m at below s) = absurd (true≢false (sym e ∙ f))
  one_order (again e m r) (given f s) = absurd (true≢false (sym f ∙ e))
  one_order (again e m r) (again f n s) = one_order r s
  one_order (again e m r) (anew place library f n at below s) = absurd (n m.0 m.1)
  one_order (anew place library e m at below r) (given f s) = absurd (true≢false (sym f ∙ e))
  one_order (anew place library e m at below r) (again f n s) = absurd (m n.0 n.1)
  one_order {before = before} {b = b} (anew {below = first} {i = i} {is = is} place library e m at below r) (anew {below = other} too twin f n there under s) =
      let same : twin ≡ library = one_library place too (file_of i.set.library) library twin at there in
      let level : first ≡ other = one_order below (subst (λ (x : Found). LoadsFollow loaded before x.opened.form.imports other) same under) in
      one_order r (subst (λ (d : List (List ℕ)). LoadsFollow loaded (d ++ file_of i.set.library ∷ []) is b) (sym level) s)

-- ---- loading

-- a fault may come at any time
abbrev Stops : Loading → Type 0
Stops s = Unit {0}

ends_both : {A : Type 0} (P Q : A → Type 0) (E F : Loading → Type 0) (x : Loads A) → Ends P E x → Ends Q F x → Ends (λ a. P a × Q a) F x
ends_both P Q E F (Ok a) h k = (h, k)
ends_both P Q E F (Err e) h k = k

-- what is loaded from one state to another is what these imports load
abbrev Followed : Loading → List Import → Loading → Type 0
Followed s is t = LoadsFollow t.done (files_of s.done) is (files_of t.done)

-- an import was followed: the next ones go on from there
abbrev Leads : Loading → Import → Loading → Type 0
Leads s i t = (new : Libraries) (is : List Import) (after : List (List ℕ)) → Stay t.done new → LoadsFollow new (files_of t.done) is after → LoadsFollow new (files_of s.done) (i ∷ is) after

abbrev OrderWell : Loader → Type 0
OrderWell load = (o : Opened) (s : Loading) → IsSound s → Ends (λ (l : Found × Loading). Followed s o.form.imports l.1) Stops (load o s)

abbrev InsideOrder : Option Loader → Type 0
InsideOrder None = Unit {0}
InsideOrder (Some load) = OrderWell load

-- a new library is loaded, with all that it imports
module _ (s : Loading) (i : Import) (sound : IsSound s) (new : New s i.set) (o : Opened) (t : Loading) (opening : Opens s i.set (o, t)) (found : Found) (u : Loading) (loaded : IsLoaded o t (found, u))
    (followed : Followed t o.form.imports u) where
  with_it : (with_done u (file_of i.set.library) found).done ≡ u.done ++ (file_of i.set.library, found) ∷ []
  with_it = done_is s i.set sound new o t opening found u loaded

  stays : Stay u.done (with_done u (file_of i.set.library) found).done
  stays n name a at = ap (λ (d : Libraries). slice_get d n) with_it ∙ at_first u.done ((file_of i.set.library, found) ∷ []) n (name, a) at

  leads_anew : Leads s i (with_done u (file_of i.set.library) found)
  leads_anew later is after stay rest =
      let at = stay (length u.done) (file_of i.set.library) found (end_there s i.set sound new o t opening found u loaded) in
      let own : LoadsFollow later (files_of t.done) o.form.imports (files_of u.done) = follow_still u.done later (λ n name a k. stay n name a (stays n name a k)) followed in
      let from : LoadsFollow later (files_of s.done) o.form.imports (files_of u.done) = subst (λ (d : Libraries). LoadsFollow later (files_of d) o.form.imports (files_of u.done)) opening.done own in
      let below : LoadsFollow later (files_of s.done) found.opened.form.imports (files_of u.done) = subst (λ (x : Opened). LoadsFollow later (files_of s.done) x.form.imports (files_of u.done)) (sym loaded.opened) from in
      let names : files_of (with_done u (file_of i.set.library) found).done ≡ files_of u.done ++ file_of i.set.library ∷ [] = ap files_of with_it ∙ files_with u.done (file_of i.set.library) found in
      anew (length u.done) found new.not_given (not_among s.done (file_of i.set.library) new.not_done) at below (subst (λ (d : List (List ℕ)). LoadsFollow later d is after) names rest)

  pub settles_order : (needs : List Bool) → Ends (λ (n : List Bool × Loading). Leads s i n.1) Stops (settled i.set needs found u)
  unfolding settled
  settles_order needs = by (version_fits found.opened.form.version i.set.version)
    where
      by : (b : Bool) → Ends (λ (n : List Bool × Loading). Leads s i n.1) Stops (lifted (with_done u (file_of i.set.library) found)
          (if b then Ok (with_needs needs found, with_done u (file_of i.set.library) found) else Err (about kind.VersionRefused i.set)))
      by true = leads_anew
      by false = tt

module _ (files : Paths) (roots : List (List ℕ)) where
  module _ (p : Opened) (needs : List Bool) (s : Loading) (i : Import) (sound : IsSound s) where
    orders_new : (inside : Option Loader) → InsideWell inside → InsideOrder inside → New s i.set → Ends (λ (n : List Bool × Loading). Leads s i n.1) Stops (load_new files roots inside needs s i.set)
    orders_new None well order new = tt
    orders_new (Some load) well order new =
        ends_on (Opens s i.set) (λ (n : List Bool × Loading). Leads s i n.1) Stops (open_file files roots i.set s) (λ o. load o.0 o.1 >>= (λ l. settled i.set needs l.0 l.1))
        (ends_err (Opens s i.set) (Idle s) Stops (open_file files roots i.set s) (λ t h. tt) (opens files roots i.set s))
        (λ o opening.
        ends_on (λ (l : Found × Loading). IsLoaded o.0 o.1 l × Followed o.1 o.0.form.imports l.1) (λ (n : List Bool × Loading). Leads s i n.1) Stops (load o.0 o.1) (λ l. settled i.set needs l.0 l.1)
        (ends_both (IsLoaded o.0 o.1) (λ (l : Found × Loading). Followed o.1 o.0.form.imports l.1) IsSound Stops (load o.0 o.1)
        (well o.0 o.1 (open_sound s i.set sound new o.0 o.1 opening)) (order o.0 o.1 (open_sound s i.set sound new o.0 o.1 opening)))
        (λ l h. settles_order s i sound new o.0 o.1 opening l.0 l.1 h.0 h.1 needs))

    orders : (inside : Option Loader) → InsideWell inside → InsideOrder inside → Ends (λ (n : List Bool × Loading). Leads s i n.1) Stops (refer files roots inside needs s i.set)
    orders inside well order = by (known_of s needs i.set) (λ k h. known_is s needs i.set k h)
      where
        -- it is loaded already
        stands : (library : Found) → is_some (exports i.set.library) ≡ false → value_of (file_of i.set.library) s.done ≡ Some library → Leads s i s
        stands library e there =
            let r = row_of (file_of i.set.library) s.done library there in
            λ later is after stay rest. again e (among s.done (file_of i.set.library) r.0 library r.1) rest

        by_known : (k : Known) → Is s needs i.set k → Ends (λ (n : List Bool × Loading). Leads s i n.1) Stops (refer_to files roots inside needs s i.set (Ok k))
        by_known known.Builtin h = λ later is after stay rest. given h.given rest
        by_known known.Joined h = stands h.library h.not_given h.there
        by_known (known.Loaded _) h = stands h.library h.not_given h.there
        by_known known.New h = orders_new inside well order h

        by : (r : Result Known Fault) → ((k : Known) → r ≡ Ok k → Is s needs i.set k) → Ends (λ (n : List Bool × Loading). Leads s i n.1) Stops (refer_to files roots inside needs s i.set r)
        by (Ok k) h = by_known k (h k refl)
        by (Err f) h = tt

  orders_each : (inside : Option Loader) → InsideWell inside → InsideOrder inside → (o : Opened) (needs : List Bool) (s : Loading) (is : List Import) → IsSound s → Standing o s needs
      → Ends (λ (n : List Bool × Loading). Followed s is n.1) Stops (refer_each files roots inside needs s is)
  unfolding refer_each
  orders_each inside well order o needs s [] sound standing = no_more
  orders_each inside well order o needs s (i ∷ is) sound standing =
      ends_on (λ (m : List Bool × Loading). Referred o needs s i.set m × Leads s i m.1) (λ (n : List Bool × Loading). Followed s (i ∷ is) n.1) Stops (refer files roots inside needs s i.set) (λ n. refer_each files roots inside n.0 n.1 is)
      (ends_both (Referred o needs s i.set) (λ (m : List Bool × Loading). Leads s i m.1) IsSound Stops (refer files roots inside needs s i.set)
      (refers files roots o needs s i.set sound standing inside well) (orders o needs s i sound inside well order))
      (λ m r. ends_ok (λ (n : List Bool × Loading). ReferredAll o m.0 m.1 is n × Followed m.1 is n.1) (λ (n : List Bool × Loading). Followed s (i ∷ is) n.1) Stops (refer_each files roots inside m.0 m.1 is)
      (λ n h. r.1 n.1.done is (files_of n.1.done) h.0.grows.stay h.1)
      (ends_both (ReferredAll o m.0 m.1 is) (λ (n : List Bool × Loading). Followed m.1 is n.1) IsSound Stops (refer_each files roots inside m.0 m.1 is)
      (refers_each files roots inside well o m.0 m.1 is r.0.sound r.0.standing) (orders_each inside well order o m.0 m.1 is r.0.sound r.0.standing)))

  orders_with : (inside : Option Loader) → InsideWell inside → InsideOrder inside → OrderWell (load_with files roots inside)
  orders_with inside well order o s sound =
      ends_on (λ (n : List Bool × Loading). Followed s o.form.imports n.1) (λ (l : Found × Loading). Followed s o.form.imports l.1) Stops (refer_each files roots inside no_needs s o.form.imports) (λ n. Ok (found_of o n.0 n.1, n.1))
      (orders_each inside well order o no_needs s o.form.imports sound (record { wide = length-no_needs; closed = λ p h. absurd (no_mark p h) }))
      (λ n h. h)

  orders_file : (room : ℕ) → OrderWell (load_file files roots room)
  unfolding load_file
  orders_file zero = orders_with None tt tt
  orders_file (suc room) = orders_with (Some (load_file files roots room)) (loads_file files roots room) (orders_file room)

-- ---- the program

module _ (files : Paths) (roots : List (List ℕ)) (path : List ℕ) where
  abbrev InOrder : Found × Loading → Type 0
  InOrder l = AreInOrder l.1.done l.0

  orders_program : (r : Reading) → Ends InOrder Stops (program_from files roots path r)
  orders_program absent = tt
  orders_program longer = tt
  orders_program (bytes held) = by (program_in path held)
    where
      by : (r : Result Opened Fault) → Ends InOrder Stops (lifted (with_source nothing_loaded path held) r >>= (λ o. load_file files roots most_libraries o (with_source nothing_loaded path held)))
      by (Ok o) =
          ends_ok (λ (l : Found × Loading). IsLoaded o (with_source nothing_loaded path held) l × Followed (with_source nothing_loaded path held) o.form.imports l.1) InOrder Stops
          (load_file files roots most_libraries o (with_source nothing_loaded path held))
          (λ l h. subst (λ (x : Opened). LoadsFollow l.1.done [] x.form.imports (files_of l.1.done)) (sym h.0.opened) h.1)
          (ends_both (IsLoaded o (with_source nothing_loaded path held)) (λ (l : Found × Loading). Followed (with_source nothing_loaded path held) o.form.imports l.1) IsSound Stops
          (load_file files roots most_libraries o (with_source nothing_loaded path held))
          (loads_file files roots most_libraries o (with_source nothing_loaded path held) nothing_sound)
          (orders_file files roots most_libraries o (with_source nothing_loaded path held) nothing_sound))
      by (Err f) = tt

  orders_all : Ends InOrder Stops (load files roots path)
  unfolding load
  orders_all = orders_program (read_of (at_path files path) file_limit)

  pub in_order : (program : Found) (s : Loading) → load files roots path ≡ Ok (program, s) → AreInOrder s.done program
  in_order program s h = subst (λ (r : Loads (Found × Loading)). Ends InOrder Stops r) h orders_all

  pub the_order : (program : Found) (s : Loading) → load files roots path ≡ Ok (program, s) → IsTheOrder s.done program
  the_order program s h files_there f = one_order s.done (loads_all files roots path program s h).sound.once f (in_order program s h)
