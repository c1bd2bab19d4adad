-- What is read is in the grammar.
use Rattle.std.proofs.Common.{◌≡◌, ℕ, suc, ◌<◌, ◌-◌, Bool, true, false, List, [], ◌∷◌, ◌++◌, length, arith, refl, sym, ap, ◌∙◌, subst, append_assoc, Option, Some, None, Result, Ok, Err, pos, negsuc}
use Rattle.std.proofs.lemmas.List.{append-nil}
use Rattle.std.specs.Prelude.{◌==◌, nat_lt, if◌then◌else◌}
use Rattle.std.proofs.lemmas.Bool.Decides.{nat_tests}
use Rattle.base_data.specs.declared.atom.Atom.TheVariants as a
use Rattle.base_data.specs.declared.fault.Fault.{Fault}
use Rattle.base_data.specs.Datum.{PlainDatum, atom, vector, chain, listed, nil}
use Rattle.base_data.specs.Gives.{◌>>=◌}
use Rattle.read_lexer.specs.declared.token.Bracket.{Bracket}
use Rattle.read_lexer.specs.declared.token.Bracket.TheVariants as bracket
use Rattle.read_lexer.specs.declared.token.Lexeme.{Lexeme}
use Rattle.read_lexer.specs.declared.token.Token.{Token}
use Rattle.read_lexer.specs.declared.token.Token.TheVariants as t
use Rattle.read_machine.specs.declared.extent.Extent.{Extent}
use Rattle.read_machine.specs.declared.extent.Misplaced.{Misplaced}
use Rattle.read_machine.specs.declared.partial.OpenTail.TheVariants as tail
use Rattle.read_machine.specs.declared.partial.OpenParts.{OpenParts}
use Rattle.read_machine.specs.declared.partial.OpenParts.TheVariants as parts
use Rattle.read_machine.specs.declared.partial.Partial.{Partial}
use Rattle.read_machine.specs.declared.partial.ReaderState.{ReaderState}
use Rattle.read_machine.specs.Extent.{span_at, through}
use Rattle.read_machine.specs.Form.{byte_of, joined}
use Rattle.read_machine.specs.Partial.{room_in, misplaced}
use Rattle.read_machine.specs.Step.{state, step, step_by, deliver, closed, same_bracket, nested, opened_bytes, dotted as dots, finish, extent_of, unless}
use Rattle.read_reader.specs.Read.{run, ended}
use Rattle.read_reader.specs.Grammar.{lexeme, IsDatum, IsNext, AreItems, AreBytes, constant, name, list, dotted, elements, bytes, abbreviation, here, past, no_items, item, skipped, no_bytes, byte, skipped_there}
use Rattle.read_reader.specs.Partial.{opening_of, room_round, InsideForm, in_list, behind_dot, behind_tail, in_vector, in_bytes, behind_prefix, behind_skip, partial, Fits, ComesTo, at_top, within}

pub bind_ok : {A B : Type 0} (r : Result A Fault) (f : A → Result B Fault) (y : B) → (r >>= f) ≡ Ok y → (x : A) × (r ≡ Ok x) × (f x ≡ Ok y)
bind_ok (Ok x) f y e = (x, refl, e)
bind_ok (Err d) f y e = cc

byte_is : (m : ℕ) (k : ℕ) → byte_of (atom None (a.Int (pos m))) ≡ Some k → (m < 256) × (m ≡ k)
byte_is m k e = tested (nat_lt m 256) refl where
  tested : (b : Bool) → nat_lt m 256 ≡ b → (m < 256) × (m ≡ k)
  tested true is = (grind (arith, nat_tests), let so = rw is at e in cc)
  tested false is = let so = rw is at e in cc

module _ (file : List ℕ) where
  -- a datum that is a byte is one token
  record IsByte (ms : List Lexeme) (k : ℕ) : Type 0 where
    place : Extent
    small : k < 256
    same : ms ≡ lexeme (t.Atom (a.Int (pos k))) place ∷ []

  byte_token : {n : ℕ} {ms : List Lexeme} {d : PlainDatum} {x : Extent} (k : ℕ) → IsDatum file n ms d x → byte_of d ≡ Some k → IsByte ms k
  byte_token k (constant a.Nil x) e = cc
  byte_token k (constant (a.Bool b) x) e = cc
  byte_token k (constant (a.Int (pos m)) x) e =
      let p = byte_is m k e in
      record { place = x; small = let s = p.0 in let q = p.1 in omega arith; same = ap (λ i. lexeme (t.Atom (a.Int (pos i))) x ∷ []) p.1 }
  byte_token k (constant (a.Int (negsuc m)) x) e = cc
  byte_token k (constant (a.Spelt w) x) e = cc
  byte_token k (constant (a.Char c) x) e = cc
  byte_token k (constant (a.Str w) x) e = cc
  byte_token k (constant (a.Bytes ns) x) e = cc
  byte_token k (name w x) e = cc
  byte_token k (list {ds = []} b x y items) e = cc
  byte_token k (list {ds = d ∷ ds} b x y items) e = cc
  byte_token k (dotted b x y dot items last skips) e = cc
  byte_token k (elements x y items) e = cc
  byte_token k (bytes x y items) e = cc
  byte_token k (abbreviation j x next) e = cc

  -- one more at the end
  items_snoc : {n : ℕ} {ls ms : List Lexeme} {ds : List PlainDatum} {d : PlainDatum} {x : Extent} → AreItems file n ls ds → IsDatum file n ms d x → AreItems file n (ls ++ ms) (ds ++ d ∷ [])
  items_snoc {n} {ls} {ms} {ds} {d} {x} no_items new = rw (append-nil ms) at (item new no_items)
  items_snoc {n} {ls} {ms} {ds} {d} {x} (item {ls = us} {ms = vs} {ds = es} one others) new =
      rw (append_assoc us vs ms) (item one (items_snoc others new))
  items_snoc {n} {ls} {ms} {ds} {d} {x} (skipped {ls = us} {ms = vs} skip one others) new =
      rw (append_assoc us vs ms) (skipped skip one (items_snoc others new))

  bytes_snoc : {n : ℕ} {ls ms : List Lexeme} {ns : List ℕ} {k : ℕ} → AreBytes file n ls ns → IsByte ms k → AreBytes file n (ls ++ ms) (ns ++ k ∷ [])
  bytes_snoc {n} {ls} {ms} {ns} {k} no_bytes new = rw new.same (byte k new.place new.small no_bytes)
  bytes_snoc {n} {ls} {ms} {ns} {k} (byte m x small others) new = byte m x small (bytes_snoc others new)
  bytes_snoc {n} {ls} {ms} {ns} {k} (skipped_there {ls = us} {ms = vs} skip one others) new =
      rw (append_assoc us vs ms) (skipped_there skip one (bytes_snoc others new))

  skip_snoc : {m n : ℕ} {ls ms : List Lexeme} {ds : List PlainDatum} {e : PlainDatum} {z : Extent} (skip : Extent) → m ≡ suc n → AreItems file m ls ds → IsNext file n ms e z
      → AreItems file m (ls ++ (lexeme t.SkipDatum skip ∷ ms)) ds
  skip_snoc {m} {n} {ls} {ms} {ds} {e} {z} skip is no_items new =
      subst (λ (k : ℕ). AreItems file k (lexeme t.SkipDatum skip ∷ ms) []) (sym is)
      (rw (append-nil ms) at (skipped {n = n} skip new no_items))
  skip_snoc {m} {n} {ls} {ms} {ds} {e} {z} skip is (item {ls = us} {ms = vs} one others) new =
      rw (append_assoc us vs (lexeme t.SkipDatum skip ∷ ms)) (item one (skip_snoc skip is others new))
  skip_snoc {m} {n} {ls} {ms} {ds} {e} {z} skip is (skipped {ls = us} {ms = vs} y one others) new =
      rw (append_assoc us vs (lexeme t.SkipDatum skip ∷ ms)) (skipped y one (skip_snoc skip is others new))

  bytes_skip : {m n : ℕ} {ls ms : List Lexeme} {ns : List ℕ} {e : PlainDatum} {z : Extent} (skip : Extent) → m ≡ suc n → AreBytes file m ls ns → IsNext file n ms e z
      → AreBytes file m (ls ++ (lexeme t.SkipDatum skip ∷ ms)) ns
  bytes_skip {m} {n} {ls} {ms} {ns} {e} {z} skip is no_bytes new =
      subst (λ (k : ℕ). AreBytes file k (lexeme t.SkipDatum skip ∷ ms) []) (sym is)
      (rw (append-nil ms) at (skipped_there {n = n} skip new no_bytes))
  bytes_skip {m} {n} {ls} {ms} {ns} {e} {z} skip is (byte k x small others) new = byte k x small (bytes_skip skip is others new)
  bytes_skip {m} {n} {ls} {ms} {ns} {e} {z} skip is (skipped_there {ls = us} {ms = vs} y one others) new =
      rw (append_assoc us vs (lexeme t.SkipDatum skip ∷ ms)) (skipped_there y one (bytes_skip skip is others new))

  next_of : {n : ℕ} {ls ms : List Lexeme} {d : PlainDatum} {x : Extent} → AreItems file n ls [] → IsDatum file n ms d x → IsNext file n (ls ++ ms) d x
  next_of no_items new = here new
  next_of {n} {ls} {ms} {d} {x} (skipped {ls = us} {ms = vs} skip one others) new =
      rw (append_assoc us vs ms) (past skip one (next_of others new))

if_same : (b c : Bracket) (d : PlainDatum) (f : Fault) (k : PlainDatum → Result ReaderState Fault) (s : ReaderState)
    → ((if same_bracket b c then Ok d else Err f) >>= k) ≡ Ok s → (b ≡ c) × (k d ≡ Ok s)
if_same bracket.Round bracket.Round d f k s e = (refl, e)
if_same bracket.Round bracket.Square d f k s e = cc
if_same bracket.Square bracket.Round d f k s e = cc
if_same bracket.Square bracket.Square d f k s e = (refl, e)

whole_room : (r : ℕ) → r == 0 ≡ false → r ≡ suc (r - 1)
whole_room r h = grind (arith, nat_tests)

some_is : (n : ℕ) → suc n == 0 ≡ false
some_is n = grind (arith, nat_tests)

module _ (file : List ℕ) (nesting : ℕ) where
  abbrev Held : ℕ → List Lexeme → List Partial → List PlainDatum → Type 0
  Held n ls fs found = ComesTo file nesting n ls fs found

  pub room : {n : ℕ} {ls : List Lexeme} {fs : List Partial} {found : List PlainDatum} → Held n ls fs found → room_in nesting fs ≡ n
  room (at_top e items) = sym e
  room (within x h fits inside) = refl

  -- a comment at the end
  inside_skip : {m n : ℕ} {ls ms : List Lexeme} {p : OpenParts} {e : PlainDatum} {z : Extent} (skip : Extent) → m ≡ suc n → InsideForm file m ls p → IsNext file n ms e z
      → InsideForm file m (ls ++ (lexeme t.SkipDatum skip ∷ ms)) p
  inside_skip skip is (in_list b items) new = in_list b (skip_snoc file skip is items new)
  inside_skip {m} {n} {ls} {ms} {p} skip is (behind_dot {ls = us} {ms = vs} b dot items skips) new =
      subst (λ (ws : List Lexeme). InsideForm file m ws p) (sym (append_assoc us (lexeme t.Dot dot ∷ vs) (lexeme t.SkipDatum skip ∷ ms))) (behind_dot b dot items (skip_snoc file skip is skips new))
  inside_skip {m} {n} {ls} {ms} {p} skip is (behind_tail b dot items next skips) new =
      subst (λ (zs : List Lexeme). InsideForm file m zs p) (simp append_assoc) (behind_tail b dot items next (skip_snoc file skip is skips new))
  inside_skip skip is (in_vector items) new = in_vector (skip_snoc file skip is items new)
  inside_skip skip is (in_bytes items) new = in_bytes (bytes_skip file skip is items new)
  inside_skip skip is (behind_prefix k skips) new = behind_prefix k (skip_snoc file skip is skips new)
  inside_skip skip is (behind_skip skips) new = behind_skip (skip_snoc file skip is skips new)

  held_skip : {m n : ℕ} {ls ms : List Lexeme} {fs : List Partial} {found : List PlainDatum} {e : PlainDatum} {z : Extent} (skip : Extent) → m ≡ suc n → Held m ls fs found → IsNext file n ms e z
      → Held m (ls ++ (lexeme t.SkipDatum skip ∷ ms)) fs found
  held_skip skip is (at_top r items) new = at_top r (skip_snoc file skip is items new)
  held_skip {m} {n} {ls} {ms} {fs} {found} skip is (within {ls = us} {ms = vs} {p = p} x h fits inside) new =
      subst (λ (ws : List Lexeme). Held m ws fs found) (sym (append_assoc us (lexeme (opening_of p) x ∷ vs) (lexeme t.SkipDatum skip ∷ ms))) (within x h fits (inside_skip skip is inside new))

  -- with some room the lexemes have come to this
  abbrev pub Holds : List Lexeme → ReaderState → Type 0
  Holds ls s = (m : ℕ) × Held m ls s.stack s.done

  holds_at : {ls ms : List Lexeme} {s u : ReaderState} → ms ≡ ls → s ≡ u → Holds ms s → Holds ls u
  holds_at {ls} {ms} {s} {u} e f h = subst (λ (z : ReaderState). Holds ls z) f (subst (λ (zs : List Lexeme). Holds zs s) e h)

  -- a datum that is complete
  delivered : {n : ℕ} {ls ms : List Lexeme} {fs : List Partial} {found : List PlainDatum} {d : PlainDatum} {s : ReaderState} (y : Extent) → Held n ls fs found → IsDatum file n ms d y
      → deliver file fs found d y ≡ Ok s → Holds (ls ++ ms) s
  delivered {n} {ls} {ms} {found = found} {d = d} {s = s} y (at_top r items) new e =
      let same : state [] (found ++ d ∷ []) ≡ s = cc in
      holds_at refl same (n, at_top r (items_snoc file items new))
  delivered {n} {ls} {ms} {found = found} {d = d} {s = s} y (within {ls = us} {ms = vs} {fs = fs} x h fits (in_list {ds = ds} b items)) new e =
      let same : state (partial x n (parts.List b (ds ++ d ∷ []) tail.Absent) ∷ fs) found ≡ s = cc in
      holds_at (sym (append_assoc us (lexeme (t.Open b) x ∷ vs) ms)) same (n, within x h fits (in_list b (items_snoc file items new)))
  delivered {n} {ls} {ms} {found = found} {d = d} {s = s} y (within {ls = us} {fs = fs} x h fits (behind_dot {ls = ls'} {ms = ms'} {d = d'} {ds = ds} b dot items skips)) new e =
      let same : state (partial x n (parts.List b (d' ∷ ds) (tail.Given dot d)) ∷ fs) found ≡ s = cc in
      let regrouped : us ++ (lexeme (t.Open b) x ∷ (ls' ++ (lexeme t.Dot dot ∷ ((ms' ++ ms) ++ [])))) ≡ (us ++ (lexeme (t.Open b) x ∷ (ls' ++ (lexeme t.Dot dot ∷ ms')))) ++ ms = simp (append_assoc, append-nil) in
      holds_at regrouped same (n, within x h fits (behind_tail b dot items (next_of file skips new) no_items))
  delivered y (within x h fits (behind_tail b dot items next skips)) new e = cc
  delivered {n} {ls} {ms} {found = found} {d = d} {s = s} y (within {ls = us} {ms = vs} {fs = fs} x h fits (in_vector {ds = ds} items)) new e =
      let same : state (partial x n (parts.Vector (ds ++ d ∷ [])) ∷ fs) found ≡ s = cc in
      holds_at (sym (append_assoc us (lexeme t.OpenVector x ∷ vs) ms)) same (n, within x h fits (in_vector (items_snoc file items new)))
  delivered {n} {ls} {ms} {found = found} {d = d} {s = s} y (within {ls = us} {ms = vs} {fs = fs} x h fits (in_bytes {ns = ns} items)) new e = tested (byte_of d) refl where
    tested : (o : Option ℕ) → byte_of d ≡ o → Holds ((us ++ (lexeme t.OpenBytes x ∷ vs)) ++ ms) s
    tested (Some k) is =
        let put = rw is at e in
        let same : state (partial x n (parts.Bytes (ns ++ k ∷ [])) ∷ fs) found ≡ s = cc in
        holds_at (sym (append_assoc us (lexeme t.OpenBytes x ∷ vs) ms)) same (n, within x h fits (in_bytes (bytes_snoc file items (byte_token file k new is))))
    tested None is = let put = rw is at e in cc
  delivered {n} {ls} {ms} {d = d} {s = s} y (within {ls = us} {ms = vs} x h fits (behind_prefix k skips)) new e =
      rw (append_assoc us (lexeme (t.Abbreviation k) x ∷ vs) ms) (delivered (through x y) h (abbreviation k x (next_of file skips new)) e)
  delivered {n} {ls} {ms} {found = found} {d = d} {s = s} y (within {ls = us} {ms = vs} {fs = fs} x h fits (behind_skip skips)) new e =
      let same : state fs found ≡ s = cc in
      holds_at (sym (append_assoc us (lexeme t.SkipDatum x ∷ vs) ms)) same (suc n, held_skip x refl h (next_of file skips new))

  closes : {n : ℕ} {ls : List Lexeme} {fs : List Partial} {found : List PlainDatum} {s : ReaderState} (b : Bracket) (y : Extent) → Held n ls fs found
      → closed file fs found b y ≡ Ok s → Holds (ls ++ lexeme (t.Close b) y ∷ []) s
  closes b y (at_top r items) e = cc
  closes {found = found} {s = s} b y (within {ls = us} {ms = vs} {fs = fs} x h fits (in_list {ds = ds} c items)) e =
      let p = if_same b c (listed (span_at file (through x y)) ds nil) _ (λ d. deliver file fs found d (through x y)) s e in
      rw (append_assoc us (lexeme (t.Open c) x ∷ vs) (lexeme (t.Close b) y ∷ []), p.0) (delivered (through x y) h (list c x y items) p.1)
  closes b y (within x h fits (behind_dot c dot items skips)) e = cc
  closes {found = found} {s = s} b y (within {ls = us} {fs = fs} x h fits (behind_tail {ls = ls'} {ms = ms'} {us = ws} {d = d} {e = last} {ds = ds} c dot items next skips)) e =
      let p = if_same b c (joined (span_at file (through x y)) (d ∷ ds) last) _ (λ d. deliver file fs found d (through x y)) s e in
      let regrouped : us ++ (lexeme (t.Open c) x ∷ ls' ++ lexeme t.Dot dot ∷ ms' ++ ws ++ lexeme (t.Close c) y ∷ []) ≡ (us ++ (lexeme (t.Open c) x ∷ (ls' ++ (lexeme t.Dot dot ∷ (ms' ++ ws))))) ++ lexeme (t.Close c) y ∷ [] = simp append_assoc in
      rw p.0 (holds_at regrouped refl (delivered (through x y) h (dotted c x y dot items next skips) p.1))
  closes {found = found} {s = s} b y (within {ls = us} {ms = vs} {fs = fs} x h fits (in_vector {ds = ds} items)) e =
      let p = if_same b bracket.Round (vector (span_at file (through x y)) (chain ds nil)) _ (λ d. deliver file fs found d (through x y)) s e in
      rw (append_assoc us (lexeme t.OpenVector x ∷ vs) (lexeme (t.Close b) y ∷ []), p.0) (delivered (through x y) h (elements x y items) p.1)
  closes {found = found} {s = s} b y (within {ls = us} {ms = vs} {fs = fs} x h fits (in_bytes {ns = ns} items)) e =
      let p = if_same b bracket.Round (atom (span_at file (through x y)) (a.Bytes ns)) _ (λ d. deliver file fs found d (through x y)) s e in
      rw (append_assoc us (lexeme t.OpenBytes x ∷ vs) (lexeme (t.Close b) y ∷ []), p.0) (delivered (through x y) h (bytes x y items) p.1)
  closes b y (within x h fits (behind_prefix k skips)) e = cc
  closes b y (within x h fits (behind_skip skips)) e = cc

  -- a form that counts
  opens : {n : ℕ} {ls : List Lexeme} (fs : List Partial) (found : List PlainDatum) (s : ReaderState) (p : OpenParts) (x : Extent) → Held n ls fs found
      → ((k : ℕ) → InsideForm file k [] p) → ((k : ℕ) → room_round p k ≡ suc k) → Fits p x fs
      → nested file nesting (state fs found) p x ≡ Ok s → Holds (ls ++ lexeme (opening_of p) x ∷ []) s
  opens {n} {ls} fs found s p x h fresh grows fits e = tested (room_in nesting fs == 0) refl where
    tested : (full : Bool) → room_in nesting fs == 0 ≡ full → Holds (ls ++ lexeme (opening_of p) x ∷ []) s
    tested true is = let stuck = rw is at e in cc
    tested false is =
        let so = rw is at e in
        let r : ℕ = room_in nesting fs - 1 in
        let same : state (partial x r p ∷ fs) found ≡ s = cc in
        let whole : n ≡ room_round p r = sym (room h) ∙ whole_room (room_in nesting fs) is ∙ sym (grows r) in
        holds_at refl same (r, within x (subst (λ (k : ℕ). Held k ls fs found) whole h) fits (fresh r))

  unless_ok : {A : Type 0} (w : Option Misplaced) (r : Result A Fault) (s : A) → unless file w r ≡ Ok s → (w ≡ None) × (r ≡ Ok s)
  unless_ok None r s e = (refl, e)
  unless_ok (Some w) r s e = cc

  -- a bytevector
  opens_bytes : {n : ℕ} {ls : List Lexeme} (fs : List Partial) (found : List PlainDatum) (s : ReaderState) (x : Extent) → Held n ls fs found
      → opened_bytes file nesting (state fs found) x ≡ Ok s → Holds (ls ++ lexeme t.OpenBytes x ∷ []) s
  opens_bytes {n} {ls} fs found s x h e =
      let p = unless_ok (misplaced fs x) (Ok (state (partial x (room_in nesting fs) (parts.Bytes []) ∷ fs) found)) s e in
      let same : state (partial x (room_in nesting fs) (parts.Bytes []) ∷ fs) found ≡ s = let q = p.1 in cc in
      holds_at refl same (room_in nesting fs, within x (rw (room h) h) p.0 (in_bytes no_bytes))

  dotting : {n : ℕ} {ls : List Lexeme} {fs : List Partial} {found : List PlainDatum} {s : ReaderState} (y : Extent) → Held n ls fs found
      → dots file fs found y ≡ Ok s → Holds (ls ++ lexeme t.Dot y ∷ []) s
  dotting y (at_top r items) e = cc
  dotting y (within x h fits (in_list {ds = []} b items)) e = cc
  dotting {n} {found = found} {s = s} y (within {ls = us} {ms = vs} {fs = fs} x h fits (in_list {ds = d ∷ ds} b items)) e =
      let so = rw (some_is (length ds)) at e in
      let same : state (partial x n (parts.List b (d ∷ ds) (tail.Dotted y)) ∷ fs) found ≡ s = cc in
      holds_at (sym (append_assoc us (lexeme (t.Open b) x ∷ vs) (lexeme t.Dot y ∷ []))) same (n, within x h fits (behind_dot b y items no_items))
  dotting y (within x h fits (behind_dot b dot items skips)) e = cc
  dotting y (within x h fits (behind_tail b dot items next skips)) e = cc
  dotting y (within x h fits (in_vector items)) e = cc
  dotting y (within x h fits (in_bytes items)) e = cc
  dotting y (within x h fits (behind_prefix k skips)) e = cc
  dotting y (within x h fits (behind_skip skips)) e = cc

  stepped_by : {ls : List Lexeme} (s next : ReaderState) (k : Token) (x : Extent) → Holds ls s → step_by file nesting s k x ≡ Ok next → Holds (ls ++ lexeme k x ∷ []) next
  stepped_by s next (t.Open b) x h e =
      let p = unless_ok (misplaced s.stack x) (nested file nesting s (parts.List b [] tail.Absent) x) next e in
      opens s.stack s.done next (parts.List b [] tail.Absent) x h.1 (λ k. in_list b no_items) (λ k. refl) p.0 p.1
  stepped_by s next (t.Close b) x h e = closes b x h.1 e
  stepped_by s next t.OpenVector x h e =
      let p = unless_ok (misplaced s.stack x) (nested file nesting s (parts.Vector []) x) next e in
      opens s.stack s.done next (parts.Vector []) x h.1 (λ k. in_vector no_items) (λ k. refl) p.0 p.1
  stepped_by s next t.OpenBytes x h e = opens_bytes s.stack s.done next x h.1 e
  stepped_by s next (t.Abbreviation j) x h e =
      let p = unless_ok (misplaced s.stack x) (nested file nesting s (parts.Abbreviation j) x) next e in
      opens s.stack s.done next (parts.Abbreviation j) x h.1 (λ k. behind_prefix j no_items) (λ k. refl) p.0 p.1
  stepped_by s next t.SkipDatum x h e = opens s.stack s.done next parts.Skipped x h.1 (λ k. behind_skip no_items) (λ k. refl) tt e
  stepped_by s next t.Dot x h e = dotting x h.1 e
  stepped_by s next (t.Atom c) x h e = delivered x h.1 (constant c x) e
  stepped_by s next (t.Symbol w) x h e = delivered x h.1 (name w x) e

  -- one token more
  pub stepped : {ls : List Lexeme} (s next : ReaderState) (l : Lexeme) → Holds ls s → step file nesting s l ≡ Ok next → Holds (ls ++ l ∷ []) next
  stepped s next l h e = stepped_by s next l.token (extent_of l) h e

  -- before the first token
  pub holds_none : Holds [] (state [] [])
  holds_none = (nesting, at_top refl no_items)

  pub are_items : {n : ℕ} {seen : List Lexeme} (fs : List Partial) (found ds : List PlainDatum) → Held n seen fs found → finish file fs found ≡ Ok ds → AreItems file nesting seen ds
  are_items {n} {seen} fs found ds (at_top r items) same =
      let is : found ≡ ds = cc in
      subst (λ (k : ℕ). AreItems file k seen ds) r (subst (λ (z : List PlainDatum). AreItems file n seen z) is items)
  are_items fs found ds (within x h fits inside) same = cc

  no_fault : (s : ReaderState) (g : Option Fault) (ds : List PlainDatum) → ended file s g ≡ Ok ds → (g ≡ None) × (finish file s.stack s.done ≡ Ok ds)
  no_fault s None ds e = (refl, e)
  no_fault s (Some f) ds e = cc

  pub ran : (seen ls : List Lexeme) (s : ReaderState) (g : Option Fault) (ds : List PlainDatum) → Holds seen s → run file nesting s ls g ≡ Ok ds → (g ≡ None) × AreItems file nesting (seen ++ ls) ds
  unfolding run
  ran seen [] s g ds h e =
      let p = no_fault s g ds e in
      (p.0, rw (append-nil seen) (are_items s.stack s.done ds h.1 p.1))
  ran seen (l ∷ ls) s g ds h e =
      let next = bind_ok (step file nesting s l) (λ u. run file nesting u ls g) ds e in
      let rest = ran (seen ++ l ∷ []) ls next.0 g ds (stepped s next.0 l h next.1) next.2 in
      (rest.0, rw append_assoc at rest.1)

  -- what is read of these lexemes, they are
  pub read_soundly : (ls : List Lexeme) (g : Option Fault) (ds : List PlainDatum) → run file nesting (state [] []) ls g ≡ Ok ds → (g ≡ None) × AreItems file nesting ls ds
  read_soundly ls g ds e = ran [] ls (state [] []) g ds holds_none e
