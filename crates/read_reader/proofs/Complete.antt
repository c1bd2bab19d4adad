-- What the grammar has is read.
use Rattle.std.proofs.Common.{◌≡◌, ℕ, suc, ◌<◌, ◌-◌, true, false, List, [], ◌∷◌, ◌++◌, length, arith, refl, sym, ap, ◌∙◌, append_assoc, Option, None, Result, Ok}
use Rattle.std.proofs.lemmas.List.{append-nil}
use Rattle.std.specs.Prelude.{◌==◌, nat_lt}
use Rattle.std.proofs.lemmas.Bool.Decides.{nat_tests}
use Rattle.base_data.specs.declared.fault.Fault.{Fault}
use Rattle.base_data.specs.Datum.{PlainDatum}
use Rattle.base_data.specs.Gives.{◌>>=◌}
use Rattle.read_lexer.specs.declared.token.Bracket.{Bracket}
use Rattle.read_lexer.specs.declared.token.Bracket.TheVariants as bracket
use Rattle.read_lexer.specs.declared.token.Lexeme.{Lexeme}
use Rattle.read_lexer.specs.declared.token.Token.TheVariants as t
use Rattle.read_machine.specs.declared.extent.Extent.{Extent}
use Rattle.read_machine.specs.declared.partial.OpenTail.TheVariants as tail
use Rattle.read_machine.specs.declared.partial.OpenParts.{OpenParts}
use Rattle.read_machine.specs.declared.partial.OpenParts.TheVariants as parts
use Rattle.read_machine.specs.declared.partial.Partial.{Partial}
use Rattle.read_machine.specs.declared.partial.ReaderState.{ReaderState}
use Rattle.read_machine.specs.Partial.{room_in, misplaced}
use Rattle.read_machine.specs.Step.{state, deliver, nested, opened, same_bracket}
use Rattle.read_reader.specs.Read.{run}
use Rattle.read_reader.specs.Partial.{partial, opening_of, room_round, Fits, InsideForm, in_list as open_list, behind_dot, behind_tail, in_vector as open_vector, in_bytes, behind_prefix, behind_skip, ComesTo, at_top, within}
use Rattle.read_reader.proofs.Sound.{room}
use Rattle.read_reader.specs.Grammar.{lexeme, IsDatum, IsNext, AreItems, AreBytes, constant, name, list, dotted, elements, bytes, abbreviation, here, past, no_items, item, skipped, no_bytes, byte, skipped_there}

-- what takes data one after another: the top, an open list before its dot, or an open vector
data Taker : Type 0 where
  top : List PlainDatum → Taker
  in_list : Bracket → Extent → ℕ → List PlainDatum → List Partial → List PlainDatum → Taker
  in_vector : Extent → ℕ → List PlainDatum → List Partial → List PlainDatum → Taker

abbrev at : Taker → ReaderState
at (top found) = state [] found
at (in_list b x n ds fs found) = state (partial x n (parts.List b ds tail.Absent) ∷ fs) found
at (in_vector x n ds fs found) = state (partial x n (parts.Vector ds) ∷ fs) found

abbrev plus : Taker → List PlainDatum → Taker
plus (top found) ds = top (found ++ ds)
plus (in_list b x n xs fs found) ds = in_list b x n (xs ++ ds) fs found
plus (in_vector x n xs fs found) ds = in_vector x n (xs ++ ds) fs found

plus-plus : (k : Taker) (xs ys : List PlainDatum) → plus (plus k xs) ys ≡ plus k (xs ++ ys)
plus-plus (top found) xs ys = ap top (append_assoc found xs ys)
plus-plus (in_list b x n zs fs found) xs ys = ap (λ us. in_list b x n us fs found) (append_assoc zs xs ys)
plus-plus (in_vector x n zs fs found) xs ys = ap (λ us. in_vector x n us fs found) (append_assoc zs xs ys)

plus-none : (k : Taker) → plus k [] ≡ k
plus-none (top found) = ap top (append-nil found)
plus-none (in_list b x n zs fs found) = ap (λ us. in_list b x n us fs found) (append-nil zs)
plus-none (in_vector x n zs fs found) = ap (λ us. in_vector x n us fs found) (append-nil zs)

same-bracket : (b : Bracket) → same_bracket b b ≡ true
same-bracket bracket.Round = refl
same-bracket bracket.Square = refl

some_is : (n : ℕ) → suc n == 0 ≡ false
some_is n = grind (arith, nat_tests)

less_one : (n : ℕ) → suc n - 1 ≡ n
less_one n = omega arith

is_below : (m n : ℕ) → m < n → nat_lt m n ≡ true
is_below m n h = grind (arith, nat_tests)

flat : (ls ms us rest : List Lexeme) (x y : Lexeme) → (ls ++ x ∷ ms ++ us ++ y ∷ []) ++ rest ≡ ls ++ (x ∷ (ms ++ (us ++ (y ∷ rest))))
flat ls ms us rest x y = simp append_assoc

module _ (file : List ℕ) (nesting : ℕ) where
  abbrev room_at : Taker → ℕ
  room_at k = room_in nesting (at k).stack

  room-plus : (k : Taker) (xs : List PlainDatum) → room_at (plus k xs) ≡ room_at k
  room-plus (top found) xs = refl
  room-plus (in_list b x n ds fs found) xs = refl
  room-plus (in_vector x n ds fs found) xs = refl

  placed : (k : Taker) (x : Extent) → misplaced (at k).stack x ≡ None
  placed (top found) x = refl
  placed (in_list b y n ds fs found) x = refl
  placed (in_vector y n ds fs found) x = refl

  delivers : (k : Taker) (d : PlainDatum) (x : Extent) → deliver file (at k).stack (at k).done d x ≡ Ok (at (plus k (d ∷ [])))
  delivers (top found) d x = refl
  delivers (in_list b y n ds fs found) d x = refl
  delivers (in_vector y n ds fs found) d x = refl

  -- a form is opened where there is room
  opens : (s : ReaderState) (p : OpenParts) (x : Extent) (n : ℕ) → room_in nesting s.stack ≡ suc n → nested file nesting s p x ≡ Ok (state (partial x n p ∷ s.stack) s.done)
  opens s p x n e = rw (e, some_is n, less_one n) refl

  opens_form : (s : ReaderState) (p : OpenParts) (x : Extent) (n : ℕ) → room_in nesting s.stack ≡ suc n → misplaced s.stack x ≡ None
      → opened file nesting s p x ≡ Ok (state (partial x n p ∷ s.stack) s.done)
  opens_form s p x n e m = rw m (opens s p x n e)

  module _ (g : Option Fault) where
    -- what is read from a state, and then the rest
    abbrev behind : Result ReaderState Fault → List Lexeme → Result (List PlainDatum) Fault
    behind r ls = r >>= λ s. run file nesting s ls g

    abbrev Takes : List Partial → Type 0
    Takes fs = (y : Extent) → misplaced fs y ≡ None

    mutual
      unfolding run

      reads : {n : ℕ} {ls : List Lexeme} {d : PlainDatum} {x : Extent} → IsDatum file n ls d x → (fs : List Partial) (found : List PlainDatum) (rest : List Lexeme)
          → room_in nesting fs ≡ n → Takes fs → run file nesting (state fs found) (ls ++ rest) g ≡ behind (deliver file fs found d x) rest
      reads (constant c x) fs found rest h fits = refl
      reads (name w x) fs found rest h fits = refl
      reads (list {n} {ls} {ds} b x y items) fs found rest h fits =
          rw (opens_form (state fs found) (parts.List b [] tail.Absent) x n h (fits x), append_assoc ls (lexeme (t.Close b) y ∷ []) rest)
          (reads_items items (in_list b x n [] fs found) (lexeme (t.Close b) y ∷ rest) refl ∙ rw (same-bracket b) refl)
      reads (dotted {n} {ls} {ms} {us} {d} {e} {ds} {z} b x y dot items last skips) fs found rest h fits =
          let f = partial x n (parts.List b (d ∷ ds) (tail.Dotted dot)) in
          let f' = partial x n (parts.List b (d ∷ ds) (tail.Given dot e)) in
          let first = reads_items items (in_list b x n [] fs found) (lexeme t.Dot dot ∷ (ms ++ (us ++ (lexeme (t.Close b) y ∷ rest)))) refl in
          let second = reads_next last (f ∷ fs) found (us ++ (lexeme (t.Close b) y ∷ rest)) refl (λ y. refl) in
          let third = reads_skips skips (f' ∷ fs) found (lexeme (t.Close b) y ∷ rest) refl in
          rw (opens_form (state fs found) (parts.List b [] tail.Absent) x n h (fits x), flat ls ms us rest (lexeme t.Dot dot) (lexeme (t.Close b) y))
          (first ∙ rw (some_is (length ds)) (second ∙ third ∙ rw (same-bracket b) refl))
      reads (elements {n} {ls} {ds} x y items) fs found rest h fits =
          rw (opens_form (state fs found) (parts.Vector []) x n h (fits x), append_assoc ls (lexeme (t.Close bracket.Round) y ∷ []) rest)
          (reads_items items (in_vector x n [] fs found) (lexeme (t.Close bracket.Round) y ∷ rest) refl)
      reads (bytes {n} {ls} {ns} x y items) fs found rest h fits =
          rw (fits x, append_assoc ls (lexeme (t.Close bracket.Round) y ∷ []) rest)
          (reads_bytes items x (room_in nesting fs) [] fs found (lexeme (t.Close bracket.Round) y ∷ rest) h)
      reads (abbreviation {n} {ls} {d} {y} k x next) fs found rest h fits =
          rw (opens_form (state fs found) (parts.Abbreviation k) x n h (fits x))
          (reads_next next (partial x n (parts.Abbreviation k) ∷ fs) found rest refl (λ y. refl))

      reads_next : {n : ℕ} {ls : List Lexeme} {d : PlainDatum} {x : Extent} → IsNext file n ls d x → (fs : List Partial) (found : List PlainDatum) (rest : List Lexeme)
          → room_in nesting fs ≡ n → Takes fs → run file nesting (state fs found) (ls ++ rest) g ≡ behind (deliver file fs found d x) rest
      reads_next (here d) fs found rest h fits = reads d fs found rest h fits
      reads_next (past {n} {ls} {ms} {d} {e} {x} {z} skip one next) fs found rest h fits =
          rw (opens (state fs found) parts.Skipped skip n h, append_assoc ls ms rest)
          (reads_next one (partial skip n parts.Skipped ∷ fs) found (ms ++ rest) refl (λ y. refl) ∙ reads_next next fs found rest h fits)

      reads_skips : {n : ℕ} {ls : List Lexeme} → AreItems file n ls [] → (fs : List Partial) (found : List PlainDatum) (rest : List Lexeme)
          → room_in nesting fs ≡ n → run file nesting (state fs found) (ls ++ rest) g ≡ run file nesting (state fs found) rest g
      reads_skips no_items fs found rest h = refl
      reads_skips (skipped {n} {ls} {ms} {e} {z} {ds} skip one others) fs found rest h =
          rw (opens (state fs found) parts.Skipped skip n h, append_assoc ls ms rest)
          (reads_next one (partial skip n parts.Skipped ∷ fs) found (ms ++ rest) refl (λ y. refl) ∙ reads_skips others fs found rest h)

      reads_items : {n : ℕ} {ls : List Lexeme} {ds : List PlainDatum} → AreItems file n ls ds → (k : Taker) (rest : List Lexeme)
          → room_at k ≡ n → run file nesting (at k) (ls ++ rest) g ≡ run file nesting (at (plus k ds)) rest g
      reads_items no_items k rest h = rw (plus-none k) refl
      reads_items (item {n} {ls} {ms} {d} {x} {ds} one others) k rest h =
          let first = reads one (at k).stack (at k).done (ms ++ rest) h (placed k) in
          let taken : behind (deliver file (at k).stack (at k).done d x) (ms ++ rest) ≡ run file nesting (at (plus k (d ∷ []))) (ms ++ rest) g = rw (delivers k d x) refl in
          let second = reads_items others (plus k (d ∷ [])) rest (room-plus k (d ∷ []) ∙ h) in
          rw (append_assoc ls ms rest) (first ∙ taken ∙ rw plus-plus at second)
      reads_items (skipped {n} {ls} {ms} {e} {z} {ds} skip one others) k rest h =
          rw (opens (at k) parts.Skipped skip n h, append_assoc ls ms rest)
          (reads_next one (partial skip n parts.Skipped ∷ (at k).stack) (at k).done (ms ++ rest) refl (λ y. refl) ∙ reads_items others k rest h)

      reads_bytes : {n : ℕ} {ls : List Lexeme} {ns : List ℕ} → AreBytes file n ls ns → (x : Extent) (r : ℕ) (ms : List ℕ) (fs : List Partial) (found : List PlainDatum) (rest : List Lexeme)
          → r ≡ n → run file nesting (state (partial x r (parts.Bytes ms) ∷ fs) found) (ls ++ rest) g ≡ run file nesting (state (partial x r (parts.Bytes (ms ++ ns)) ∷ fs) found) rest g
      reads_bytes no_bytes x r ms fs found rest h = rw (append-nil ms) refl
      reads_bytes (byte {n} {ls} {ns} m y small others) x r ms fs found rest h =
          rw (is_below m 256 small, ← append_assoc ms (m ∷ []) ns) (reads_bytes others x r (ms ++ m ∷ []) fs found rest h)
      reads_bytes (skipped_there {n} {ls} {ms = us} {e} {z} {ns} skip one others) x r ms fs found rest h =
          rw (opens (state (partial x r (parts.Bytes ms) ∷ fs) found) parts.Skipped skip n h, append_assoc ls us rest)
          (reads_next one (partial skip n parts.Skipped ∷ partial x r (parts.Bytes ms) ∷ fs) found (us ++ rest) refl (λ y. refl) ∙ reads_bytes others x r ms fs found rest h)

  -- the data of a whole source
  pub reads_all : {ls : List Lexeme} {ds : List PlainDatum} → AreItems file nesting ls ds → run file nesting (state [] []) ls None ≡ Ok ds
  unfolding run
  reads_all {ls} {ds} items = rw (append-nil ls) at (reads_items None items (top []) [] refl)

  -- an opening without parts
  abbrev fresh : OpenParts → OpenParts
  fresh (parts.List b ds last) = parts.List b [] tail.Absent
  fresh (parts.Vector ds) = parts.Vector []
  fresh (parts.Bytes ns) = parts.Bytes []
  fresh (parts.Abbreviation k) = parts.Abbreviation k
  fresh parts.Skipped = parts.Skipped

  starts : (p : OpenParts) (x : Extent) (n : ℕ) (fs : List Partial) (found : List PlainDatum) (rest : List Lexeme) (g : Option Fault) → room_in nesting fs ≡ room_round p n → Fits p x fs
      → run file nesting (state fs found) (lexeme (opening_of p) x ∷ rest) g ≡ run file nesting (state (partial x n (fresh p) ∷ fs) found) rest g
  unfolding run
  starts (parts.List b ds last) x n fs found rest g h fits = rw (opens_form (state fs found) (parts.List b [] tail.Absent) x n h fits) refl
  starts (parts.Vector ds) x n fs found rest g h fits = rw (opens_form (state fs found) (parts.Vector []) x n h fits) refl
  starts (parts.Bytes ns) x n fs found rest g h fits = rw (fits, h) refl
  starts (parts.Abbreviation k) x n fs found rest g h fits = rw (opens_form (state fs found) (parts.Abbreviation k) x n h fits) refl
  starts parts.Skipped x n fs found rest g h fits = rw (opens (state fs found) parts.Skipped x n h) refl

  inside_read : {n : ℕ} {ms : List Lexeme} {p : OpenParts} → InsideForm file n ms p → (x : Extent) (fs : List Partial) (found : List PlainDatum) (rest : List Lexeme) (g : Option Fault)
      → run file nesting (state (partial x n (fresh p) ∷ fs) found) (ms ++ rest) g ≡ run file nesting (state (partial x n p ∷ fs) found) rest g
  unfolding run
  inside_read {n} (open_list b items) x fs found rest g = reads_items g items (in_list b x n [] fs found) rest refl
  inside_read {n} (behind_dot {ls = ls} {ms = ms} {d = d} {ds = ds} b dot items skips) x fs found rest g =
      let f = partial x n (parts.List b (d ∷ ds) (tail.Dotted dot)) in
      rw (append_assoc ls (lexeme t.Dot dot ∷ ms) rest)
      (reads_items g items (in_list b x n [] fs found) (lexeme t.Dot dot ∷ (ms ++ rest)) refl ∙ rw (some_is (length ds)) (reads_skips g skips (f ∷ fs) found rest refl))
  inside_read {n} (behind_tail {ls = ls} {ms = ms} {us = us} {d = d} {e = e} {ds = ds} b dot items next skips) x fs found rest g =
      let f = partial x n (parts.List b (d ∷ ds) (tail.Dotted dot)) in
      let f' = partial x n (parts.List b (d ∷ ds) (tail.Given dot e)) in
      let regrouped : (ls ++ (lexeme t.Dot dot ∷ (ms ++ us))) ++ rest ≡ ls ++ (lexeme t.Dot dot ∷ (ms ++ (us ++ rest))) = simp append_assoc in
      rw regrouped
      (reads_items g items (in_list b x n [] fs found) (lexeme t.Dot dot ∷ (ms ++ (us ++ rest))) refl
      ∙ rw (some_is (length ds)) (reads_next g next (f ∷ fs) found (us ++ rest) refl (λ y. refl) ∙ reads_skips g skips (f' ∷ fs) found rest refl))
  inside_read {n} (open_vector items) x fs found rest g = reads_items g items (in_vector x n [] fs found) rest refl
  inside_read {n} (in_bytes items) x fs found rest g = reads_bytes g items x n [] fs found rest refl
  inside_read {n} (behind_prefix k skips) x fs found rest g = reads_skips g skips (partial x n (parts.Abbreviation k) ∷ fs) found rest refl
  inside_read {n} (behind_skip skips) x fs found rest g = reads_skips g skips (partial x n parts.Skipped ∷ fs) found rest refl

  -- the machine comes to what the lexemes have come to
  pub come_read : {n : ℕ} {ls : List Lexeme} {fs : List Partial} {found : List PlainDatum} → ComesTo file nesting n ls fs found → (rest : List Lexeme) (g : Option Fault)
      → run file nesting (state [] []) (ls ++ rest) g ≡ run file nesting (state fs found) rest g
  come_read (at_top e items) rest g = reads_items g items (top []) rest (sym e)
  come_read (within {n} {ls} {ms} {p} {fs} {found} x h fits inside) rest g =
      rw (append_assoc ls (lexeme (opening_of p) x ∷ ms) rest)
      (come_read h (lexeme (opening_of p) x ∷ (ms ++ rest)) g ∙ starts p x n fs found (ms ++ rest) g (room file nesting h) fits ∙ inside_read inside x fs found rest g)
