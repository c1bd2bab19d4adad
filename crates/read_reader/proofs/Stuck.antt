-- A token that the machine refuses stands where none such can.
use Rattle.std.proofs.Common.{◌≡◌, ℕ, suc, Bool, true, false, not, List, [], ◌∷◌, ◌++◌, length, arith, refl, sym, ap, ◌∙◌, subst, Option, Some, None, Result, Ok, Err, IsTrue}
use Rattle.std.specs.Prelude.{◌==◌, ◌||◌, if◌then◌else◌}
use Rattle.std.proofs.lemmas.Bool.Decides.{nat_tests}
use Rattle.base_data.specs.declared.atom.Atom.TheVariants as a
use Rattle.base_data.specs.declared.fault.Fault.{Fault}
use Rattle.base_data.specs.declared.fault.FaultKind.TheVariants as fault
use Rattle.base_data.specs.Datum.{PlainDatum, atom, symbol, vector, chain, nil}
use Rattle.base_data.specs.Gives.{◌>>=◌}
use Rattle.read_lexer.specs.declared.token.Bracket.{Bracket}
use Rattle.read_lexer.specs.declared.token.Bracket.TheVariants as bracket
use Rattle.read_lexer.specs.declared.token.Lexeme.{Lexeme}
use Rattle.read_lexer.specs.declared.token.Token.{Token}
use Rattle.read_lexer.specs.declared.token.Token.TheVariants as t
use Rattle.read_machine.specs.declared.extent.Extent.{Extent}
use Rattle.read_machine.specs.declared.extent.Misplaced.{Misplaced}
use Rattle.read_machine.specs.declared.partial.OpenTail.TheVariants as tail
use Rattle.read_machine.specs.declared.partial.OpenParts.{OpenParts}
use Rattle.read_machine.specs.declared.partial.OpenParts.TheVariants as parts
use Rattle.read_machine.specs.declared.partial.Partial.{Partial}
use Rattle.read_machine.specs.declared.partial.ReaderState.{ReaderState}
use Rattle.read_machine.specs.Extent.{span_at, fault_at, through}
use Rattle.read_machine.specs.Form.{joined, abbreviated, byte_of}
use Rattle.read_machine.specs.Partial.{room_in, misplaced}
use Rattle.read_machine.specs.Step.{state, step, step_by, deliver, closed, same_bracket, nested, opened, opened_bytes, dotted as dots, extent_of, unless}
use Rattle.read_reader.specs.Grammar.{lexeme, AreItems, no_items}
use Rattle.read_reader.specs.Partial.{opening_of, room_round, InsideForm, in_list, behind_dot, behind_tail, in_vector, in_bytes, behind_prefix, behind_skip, partial, Fits, ComesTo, at_top, within}
use Rattle.read_reader.specs.FirstFault.{EndsInside, IsFaultAt, is_stray, begins_datum, counts, is_dot, close_of_nothing, close_of_another, dot_at_top, dot_in_another, nothing_behind_dot, much_behind_dot, no_byte, too_nested}
use Rattle.read_reader.proofs.Sound.{Holds, room}
use Rattle.read_reader.proofs.GoesOn.{delivers, can_go_on}
use Rattle.read_reader.proofs.Room.{roomier, held_roomier, fits_roomier}

or_left : (b c : Bool) → IsTrue b → IsTrue (b || c)
or_left true c h = h
or_left false c h = absurd (cc)

ok_is_no_fault : {A : Type 0} (r : Result A Fault) (x : A) (f : Fault) → r ≡ Ok x → r ≡ Err f → ⊥
ok_is_no_fault r x f p q = cc

not_same : (b : Bool) → b ≡ false → not b ≡ true
not_same b h = rw h refl

is_none : (n : ℕ) → n == 0 ≡ true → n ≡ 0
is_none n h = grind (arith, nat_tests)

some_is : (n : ℕ) → suc n == 0 ≡ false
some_is n = grind (arith, nat_tests)

module _ (file : List ℕ) (nesting : ℕ) where
  abbrev pub At : List Lexeme → Token → Extent → Fault → Type 0
  At ls k y f = IsFaultAt file nesting ls k y f

  -- the innermost form
  abbrev here : {n : ℕ} {ls ms : List Lexeme} {p : OpenParts} {fs : List Partial} {found : List PlainDatum} (x : Extent) → ComesTo file nesting (room_round p n) ls fs found → Fits p x fs → InsideForm file n ms p
      → EndsInside file nesting (ls ++ (lexeme (opening_of p) x ∷ ms)) p x
  here {n} {fs = fs} {found = found} x h fits inside = record { room = n; round = fs; before = found; come = within x h fits inside }

  moved : {ls : List Lexeme} {k : Token} {y : Extent} {e f : Fault} → e ≡ f → At ls k y e → At ls k y f
  moved {ls} {k} {y} e h = subst (λ (z : Fault). At ls k y z) e h

  -- a form may not begin here
  no_form : {n : ℕ} {ls : List Lexeme} {fs : List Partial} {found : List PlainDatum} → ComesTo file nesting n ls fs found → (k : Token) → IsTrue (begins_datum k)
      → (y : Extent) (w : Misplaced) → misplaced fs y ≡ Some w → At ls k y (fault_at file w.kind w.at)
  no_form (at_top r items) k begins y w e = cc
  no_form (within x h fits (in_list b items)) k begins y w e = cc
  no_form (within x h fits (behind_dot b dot items skips)) k begins y w e = cc
  no_form (within {ls = ls} x h fits (behind_tail b dot items next skips)) k begins y w e =
      let same : fault_at file fault.BadDot dot ≡ fault_at file w.kind w.at = cc in
      moved same (much_behind_dot k y (here x h fits (behind_tail b dot items next skips)) (or_left (begins_datum k) (is_dot k) begins))
  no_form (within x h fits (in_vector items)) k begins y w e = cc
  no_form (within {ls = ls} x h fits (in_bytes items)) k begins y w e =
      let same : fault_at file fault.BadNumber y ≡ fault_at file w.kind w.at = cc in
      moved same (no_byte k y (here x h fits (in_bytes items)) begins)
  no_form (within x h fits (behind_prefix j skips)) k begins y w e = cc
  no_form (within x h fits (behind_skip skips)) k begins y w e = cc

  -- a form that counts is refused where there is no room
  no_room : {n : ℕ} {ls : List Lexeme} {found : List PlainDatum} (fs : List Partial) → ComesTo file nesting n ls fs found → (p : OpenParts) (y : Extent) (f : Fault)
      → ((k : ℕ) → InsideForm file k [] p) → ((k : ℕ) → room_round p k ≡ suc k) → Fits p y fs → IsTrue (counts (opening_of p))
      → nested file nesting (state fs found) p y ≡ Err f → At ls (opening_of p) y f
  no_room {n} {ls} {found} fs h p y f fresh grows fits counted e = tested (room_in nesting fs == 0) refl where
    tested : (full : Bool) → room_in nesting fs == 0 ≡ full → At ls (opening_of p) y f
    tested true is =
        let refused = rw is at e in
        let same : fault_at file fault.TooNested y ≡ f = cc in
        let full : n ≡ 0 = sym (room file nesting h) ∙ is_none (room_in nesting fs) is in
        let one : suc n ≡ room_round p 0 = ap suc full ∙ sym (grows 0) in
        let round = subst (λ (k : ℕ). ComesTo file (suc nesting) k ls (roomier fs) found) one (held_roomier file nesting h) in
        moved same (too_nested (opening_of p) y counted
        (can_go_on file (suc nesting) (ls ++ lexeme (opening_of p) y ∷ []) (state (partial y 0 p ∷ roomier fs) found) (0, within y round (fits_roomier p y fs fits) (fresh 0))))
    tested false is = let opened_so = rw is at e in cc

  refused_by : {A : Type 0} {ls : List Lexeme} {k : Token} {y : Extent} {f : Fault} (w : Option Misplaced) (r : Result A Fault) → unless file w r ≡ Err f
      → ((v : Misplaced) → w ≡ Some v → At ls k y (fault_at file v.kind v.at)) → (w ≡ None → r ≡ Err f → At ls k y f) → At ls k y f
  refused_by None r e bad good = good refl e
  refused_by {f = f} (Some v) r e bad good =
      let same : fault_at file v.kind v.at ≡ f = cc in
      moved same (bad v refl)

  -- a datum that is refused
  no_datum : {n : ℕ} {ls : List Lexeme} {fs : List Partial} {found : List PlainDatum} → ComesTo file nesting n ls fs found → (k : Token) → IsTrue (begins_datum k)
      → (d : PlainDatum) (y : Extent) (f : Fault) → deliver file fs found d y ≡ Err f → At ls k y f
  no_datum (at_top r items) k begins d y f e = cc
  no_datum (within x h fits (in_list b items)) k begins d y f e = cc
  no_datum (within x h fits (behind_dot b dot items skips)) k begins d y f e = cc
  no_datum (within {ls = ls} x h fits (behind_tail b dot items next skips)) k begins d y f e =
      let same : fault_at file fault.BadDot dot ≡ f = cc in
      moved same (much_behind_dot k y (here x h fits (behind_tail b dot items next skips)) (or_left (begins_datum k) (is_dot k) begins))
  no_datum (within x h fits (in_vector items)) k begins d y f e = cc
  no_datum (within {ls = ls} {ms = ms} x h fits (in_bytes items)) k begins d y f e = tested (byte_of d) refl where
    tested : (o : Option ℕ) → byte_of d ≡ o → At (ls ++ (lexeme t.OpenBytes x ∷ ms)) k y f
    tested (Some m) is = let put = rw is at e in cc
    tested None is =
        let refused = rw is at e in
        let same : fault_at file fault.BadNumber y ≡ f = cc in
        moved same (no_byte k y (here x h fits (in_bytes items)) begins)
  no_datum (within {fs = fs} {found = found} x h fits (behind_prefix j skips)) k begins d y f e =
      let below = delivers file nesting h x fits (abbreviated file j x d (through x y)) (through x y) in
      absurd (ok_is_no_fault _ below.next f below.same e)
  no_datum (within x h fits (behind_skip skips)) k begins d y f e = cc

  -- a close that is refused, where the form that it ends could be complete
  no_end : {n : ℕ} {ls us : List Lexeme} {p : OpenParts} {fs : List Partial} {found : List PlainDatum} (b c : Bracket) (x y : Extent)
      → ComesTo file nesting n ls fs found → misplaced fs x ≡ None → EndsInside file nesting us p x → is_stray b p ≡ not (same_bracket b c) → (d : PlainDatum) (f : Fault)
      → ((if same_bracket b c then Ok d else Err (fault_at file fault.StrayClose y)) >>= λ e. deliver file fs found e (through x y)) ≡ Err f → At us (t.Close b) y f
  no_end {us = us} {fs = fs} {found = found} b c x y h fits inside stray d f e = tested (same_bracket b c) refl where
    tested : (o : Bool) → same_bracket b c ≡ o → At us (t.Close b) y f
    tested true so =
        let below = delivers file nesting h x fits d (through x y) in
        absurd (ok_is_no_fault _ below.next f below.same (rw so at e))
    tested false so =
        let refused = rw so at e in
        let same : fault_at file fault.StrayClose y ≡ f = cc in
        moved same (close_of_another b y inside (stray ∙ not_same (same_bracket b c) so))

  no_close : {n : ℕ} {ls : List Lexeme} {fs : List Partial} {found : List PlainDatum} → ComesTo file nesting n ls fs found → (b : Bracket) (y : Extent) (f : Fault)
      → closed file fs found b y ≡ Err f → At ls (t.Close b) y f
  no_close {ls = ls} (at_top {ds = ds} r items) b y f e =
      let same : fault_at file fault.StrayClose y ≡ f = cc in
      moved same (close_of_nothing b y (subst (λ (k : ℕ). AreItems file k ls ds) r items))
  no_close (within {ls = ls} x h fits (in_list {ds = ds} c items)) b y f e =
      no_end b c x y h fits (here x h fits (in_list c items)) refl (joined (span_at file (through x y)) ds nil) f e
  no_close (within {ls = ls} x h fits (behind_dot c dot items skips)) b y f e =
      let same : fault_at file fault.BadDot dot ≡ f = cc in
      moved same (nothing_behind_dot (t.Close b) y (here x h fits (behind_dot c dot items skips)) refl)
  no_close (within {ls = ls} x h fits (behind_tail {d = d} {e = last} {ds = ds} c dot items next skips)) b y f e =
      no_end b c x y h fits (here x h fits (behind_tail c dot items next skips)) refl (joined (span_at file (through x y)) (d ∷ ds) last) f e
  no_close (within {ls = ls} x h fits (in_vector {ds = ds} items)) b y f e =
      no_end b bracket.Round x y h fits (here x h fits (in_vector items)) refl (vector (span_at file (through x y)) (chain ds nil)) f e
  no_close (within {ls = ls} x h fits (in_bytes {ns = ns} items)) b y f e =
      no_end b bracket.Round x y h fits (here x h fits (in_bytes items)) refl (atom (span_at file (through x y)) (a.Bytes ns)) f e
  no_close (within {ls = ls} x h fits (behind_prefix j skips)) b y f e =
      let same : fault_at file fault.StrayClose y ≡ f = cc in
      moved same (close_of_another b y (here x h fits (behind_prefix j skips)) refl)
  no_close (within {ls = ls} x h fits (behind_skip skips)) b y f e =
      let same : fault_at file fault.StrayClose y ≡ f = cc in
      moved same (close_of_another b y (here x h fits (behind_skip skips)) refl)

  no_dot : {n : ℕ} {ls : List Lexeme} {fs : List Partial} {found : List PlainDatum} → ComesTo file nesting n ls fs found → (y : Extent) (f : Fault)
      → dots file fs found y ≡ Err f → At ls t.Dot y f
  no_dot {ls = ls} (at_top {ds = ds} r items) y f e =
      let same : fault_at file fault.BadDot y ≡ f = cc in
      moved same (dot_at_top y (subst (λ (k : ℕ). AreItems file k ls ds) r items))
  no_dot (within {ls = ls} x h fits (in_list {ds = []} b items)) y f e =
      let same : fault_at file fault.BadDot y ≡ f = cc in
      moved same (dot_in_another y (here x h fits (in_list b items)) refl)
  no_dot (within x h fits (in_list {ds = d ∷ ds} b items)) y f e = let put = rw (some_is (length ds)) at e in cc
  no_dot (within {ls = ls} x h fits (behind_dot b dot items skips)) y f e =
      let same : fault_at file fault.BadDot dot ≡ f = cc in
      moved same (nothing_behind_dot t.Dot y (here x h fits (behind_dot b dot items skips)) refl)
  no_dot (within {ls = ls} x h fits (behind_tail b dot items next skips)) y f e =
      let same : fault_at file fault.BadDot dot ≡ f = cc in
      moved same (much_behind_dot t.Dot y (here x h fits (behind_tail b dot items next skips)) refl)
  no_dot (within {ls = ls} x h fits (in_vector items)) y f e =
      let same : fault_at file fault.BadDot y ≡ f = cc in
      moved same (dot_in_another y (here x h fits (in_vector items)) refl)
  no_dot (within {ls = ls} x h fits (in_bytes items)) y f e =
      let same : fault_at file fault.BadDot y ≡ f = cc in
      moved same (dot_in_another y (here x h fits (in_bytes items)) refl)
  no_dot (within {ls = ls} x h fits (behind_prefix j skips)) y f e =
      let same : fault_at file fault.BadDot y ≡ f = cc in
      moved same (dot_in_another y (here x h fits (behind_prefix j skips)) refl)
  no_dot (within {ls = ls} x h fits (behind_skip skips)) y f e =
      let same : fault_at file fault.BadDot y ≡ f = cc in
      moved same (dot_in_another y (here x h fits (behind_skip skips)) refl)

  -- a form that counts is refused
  no_opening : {n : ℕ} {ls : List Lexeme} (s : ReaderState) → ComesTo file nesting n ls s.stack s.done → (p : OpenParts) (y : Extent) (f : Fault)
      → ((k : ℕ) → InsideForm file k [] p) → ((k : ℕ) → room_round p k ≡ suc k) → (misplaced s.stack y ≡ None → Fits p y s.stack) → IsTrue (begins_datum (opening_of p)) → IsTrue (counts (opening_of p))
      → opened file nesting s p y ≡ Err f → At ls (opening_of p) y f
  no_opening s h p y f fresh grows fits begins counted e = refused_by (misplaced s.stack y) (nested file nesting s p y) e
      (λ v is. no_form h (opening_of p) begins y v is)
      (λ is stuck. no_room s.stack h p y f fresh grows (fits is) counted stuck)

  -- a bytevector is refused
  no_bytes_there : {n : ℕ} {ls : List Lexeme} (s : ReaderState) → ComesTo file nesting n ls s.stack s.done → (y : Extent) (f : Fault) → opened_bytes file nesting s y ≡ Err f → At ls t.OpenBytes y f
  no_bytes_there s h y f e = refused_by (misplaced s.stack y) (Ok (state (partial y (room_in nesting s.stack) (parts.Bytes []) ∷ s.stack) s.done)) e
      (λ v is. no_form h t.OpenBytes refl y v is)
      (λ is stuck. absurd (cc))

  stuck_by : {ls : List Lexeme} (s : ReaderState) (k : Token) (y : Extent) (f : Fault) → Holds file nesting ls s → step_by file nesting s k y ≡ Err f → At ls k y f
  stuck_by s (t.Open b) y f h e = no_opening s h.1 (parts.List b [] tail.Absent) y f (λ k. in_list b no_items) (λ k. refl) (λ is. is) refl refl e
  stuck_by s (t.Close b) y f h e = no_close h.1 b y f e
  stuck_by s t.OpenVector y f h e = no_opening s h.1 (parts.Vector []) y f (λ k. in_vector no_items) (λ k. refl) (λ is. is) refl refl e
  stuck_by s t.OpenBytes y f h e = no_bytes_there s h.1 y f e
  stuck_by s (t.Abbreviation j) y f h e = no_opening s h.1 (parts.Abbreviation j) y f (λ k. behind_prefix j no_items) (λ k. refl) (λ is. is) refl refl e
  stuck_by s t.SkipDatum y f h e = no_room s.stack h.1 parts.Skipped y f (λ k. behind_skip no_items) (λ k. refl) tt refl e
  stuck_by s t.Dot y f h e = no_dot h.1 y f e
  stuck_by s (t.Atom c) y f h e = no_datum h.1 (t.Atom c) refl (atom (span_at file y) c) y f e
  stuck_by s (t.Symbol x) y f h e = no_datum h.1 (t.Symbol x) refl (symbol (span_at file y) x) y f e

  -- what is wrong with a token that is refused
  pub stuck : {ls : List Lexeme} (s : ReaderState) (l : Lexeme) (f : Fault) → Holds file nesting ls s → step file nesting s l ≡ Err f → At ls l.token (extent_of l) f
  stuck s l f h e = stuck_by s l.token (extent_of l) f h e
