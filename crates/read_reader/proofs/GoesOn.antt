-- What the machine has taken can go on to data.
use Rattle.std.proofs.Common.{◌≡◌, ℕ, zero, suc, ◌≤◌, true, List, [], ◌∷◌, ◌++◌, length, arith, refl, ◌∙◌, None, Result, Ok}
use Rattle.base_data.specs.declared.atom.Atom.TheVariants as a
use Rattle.base_data.specs.declared.fault.Fault.{Fault}
use Rattle.base_data.specs.Datum.{PlainDatum, atom, vector, chain, nil}
use Rattle.read_lexer.specs.declared.token.Bracket.{Bracket}
use Rattle.read_lexer.specs.declared.token.Bracket.TheVariants as bracket
use Rattle.read_lexer.specs.declared.token.Lexeme.{Lexeme}
use Rattle.read_lexer.specs.declared.token.Token.TheVariants as t
use Rattle.read_machine.specs.declared.extent.Extent.{Extent}
use Rattle.read_machine.specs.declared.partial.OpenTail.TheVariants as tail
use Rattle.read_machine.specs.declared.partial.OpenParts.TheVariants as parts
use Rattle.read_machine.specs.declared.partial.Partial.{Partial}
use Rattle.read_machine.specs.declared.partial.ReaderState.{ReaderState}
use Rattle.read_machine.specs.Extent.{span_at, through}
use Rattle.read_machine.specs.Form.{joined, abbreviated}
use Rattle.read_machine.specs.Partial.{misplaced}
use Rattle.read_machine.specs.Step.{state, step, deliver, same_bracket}
use Rattle.read_reader.specs.Read.{run}
use Rattle.read_reader.specs.Grammar.{lexeme}
use Rattle.read_reader.specs.Partial.{in_list, behind_dot, behind_tail, in_vector, in_bytes, behind_prefix, behind_skip, partial, ComesTo, at_top, within}
use Rattle.read_reader.specs.FirstFault.{CanGoOn}
use Rattle.read_reader.proofs.Sound.{Holds, stepped, ran}

-- the only place that is needed of a token that might follow
abbrev nowhere : Extent
nowhere = record { from = 0; to = 0 }

same-bracket : (b : Bracket) → same_bracket b b ≡ true
same-bracket bracket.Round = refl
same-bracket bracket.Square = refl

module _ (file : List ℕ) (nesting : ℕ) where
  -- a call that succeeds with a stack that isn't higher
  pub record Shrinks (r : Result ReaderState Fault) (height : ℕ) : Type 0 where
    pub next : ReaderState
    pub same : r ≡ Ok next
    pub lower : length next.stack ≤ height

  -- where a form may begin a datum may end
  pub delivers : {n : ℕ} {ls : List Lexeme} {fs : List Partial} {found : List PlainDatum} → ComesTo file nesting n ls fs found → (x : Extent) → misplaced fs x ≡ None
      → (d : PlainDatum) (y : Extent) → Shrinks (deliver file fs found d y) (length fs)
  delivers {found = found} (at_top r items) x fits d y = record { next = state [] (found ++ d ∷ []); same = refl; lower = omega arith }
  delivers {n} {found = found} (within {fs = fs} z h at_z (in_list {ds = ds} b items)) x fits d y =
      record { next = state (partial z n (parts.List b (ds ++ d ∷ []) tail.Absent) ∷ fs) found; same = refl; lower = omega arith }
  delivers {n} {found = found} (within {fs = fs} z h at_z (behind_dot {d = first} {ds = ds} b dot items skips)) x fits d y =
      record { next = state (partial z n (parts.List b (first ∷ ds) (tail.Given dot d)) ∷ fs) found; same = refl; lower = omega arith }
  delivers (within z h at_z (behind_tail b dot items next skips)) x fits d y = cc
  delivers {n} {found = found} (within {fs = fs} z h at_z (in_vector {ds = ds} items)) x fits d y =
      record { next = state (partial z n (parts.Vector (ds ++ d ∷ [])) ∷ fs) found; same = refl; lower = omega arith }
  delivers (within z h at_z (in_bytes items)) x fits d y = cc
  delivers (within {fs = fs} z h at_z (behind_prefix k skips)) x fits d y =
      let below = delivers h z at_z (abbreviated file k z d (through z y)) (through z y) in
      record { next = below.next; same = below.same; lower = let l = below.lower in omega arith }
  delivers {found = found} (within {fs = fs} z h at_z (behind_skip skips)) x fits d y =
      record { next = state fs found; same = refl; lower = omega arith }

  -- some lexemes lead from this state to data
  pub record Finishes (s : ReaderState) : Type 0 where
    pub others : List Lexeme
    pub data_there : List PlainDatum
    pub same : run file nesting s others None ≡ Ok data_there

  one : (s next : ReaderState) (l : Lexeme) → step file nesting s l ≡ Ok next → Finishes next → Finishes s
  unfolding run
  one s next l e f = record { others = l ∷ f.others; data_there = f.data_there; same = rw e f.same }

  none : (found : List PlainDatum) → Finishes (state [] found)
  unfolding run
  none found = record { others = []; data_there = found; same = refl }

  -- a close
  abbrev close : Bracket → Lexeme
  close b = lexeme (t.Close b) nowhere

  -- a datum
  abbrev any : Lexeme
  any = lexeme (t.Atom a.Nil) nowhere

  module _ (k : ℕ) (goes_on : (next : ReaderState) (seen : List Lexeme) → Holds file nesting seen next → length next.stack ≤ k → Finishes next) where
    by_one : {seen : List Lexeme} (s : ReaderState) (l : Lexeme) → Holds file nesting seen s → Shrinks (step file nesting s l) k → Finishes s
    by_one {seen} s l h r = one s r.next l r.same (goes_on r.next (seen ++ l ∷ []) (stepped file nesting s r.next l h r.same) r.lower)

    lowered : {r : Result ReaderState Fault} (q : Result ReaderState Fault) (i : ℕ) → q ≡ r → i ≤ k → Shrinks r i → Shrinks q k
    lowered q i e le r = record { next = r.next; same = e ∙ r.same; lower = let l = r.lower in omega arith }

    finishes_from : {n : ℕ} {seen : List Lexeme} {fs : List Partial} {found : List PlainDatum} → ComesTo file nesting n seen fs found → length fs ≤ suc k → Finishes (state fs found)
    finishes_from (at_top {ds = ds} r items) le = none ds
    finishes_from {n} {found = found} (within {fs = fs} z h at_z (in_list {ds = ds} b items)) le =
        by_one (state (partial z n (parts.List b ds tail.Absent) ∷ fs) found) (close b) (n, within z h at_z (in_list b items))
        (lowered _ (length fs) (rw (same-bracket b) refl) (omega arith) (delivers h z at_z (joined (span_at file (through z nowhere)) ds nil) (through z nowhere)))
    finishes_from {n} {found = found} (within {fs = fs} z h at_z (behind_dot {d = d} {ds = ds} b dot items skips)) le =
        let s = state (partial z n (parts.List b (d ∷ ds) (tail.Dotted dot)) ∷ fs) found in
        let s' = state (partial z n (parts.List b (d ∷ ds) (tail.Given dot (atom (span_at file nowhere) a.Nil))) ∷ fs) found in
        one s s' any refl
        (by_one s' (close b) (stepped file nesting s s' any (n, within z h at_z (behind_dot b dot items skips)) refl)
        (lowered _ (length fs) (rw (same-bracket b) refl) (omega arith) (delivers h z at_z (joined (span_at file (through z nowhere)) (d ∷ ds) (atom (span_at file nowhere) a.Nil)) (through z nowhere))))
    finishes_from {n} {found = found} (within {fs = fs} z h at_z (behind_tail {d = d} {e = e} {ds = ds} b dot items next skips)) le =
        by_one (state (partial z n (parts.List b (d ∷ ds) (tail.Given dot e)) ∷ fs) found) (close b) (n, within z h at_z (behind_tail b dot items next skips))
        (lowered _ (length fs) (rw (same-bracket b) refl) (omega arith) (delivers h z at_z (joined (span_at file (through z nowhere)) (d ∷ ds) e) (through z nowhere)))
    finishes_from {n} {found = found} (within {fs = fs} z h at_z (in_vector {ds = ds} items)) le =
        by_one (state (partial z n (parts.Vector ds) ∷ fs) found) (close bracket.Round) (n, within z h at_z (in_vector items))
        (lowered _ (length fs) refl (omega arith) (delivers h z at_z (vector (span_at file (through z nowhere)) (chain ds nil)) (through z nowhere)))
    finishes_from {n} {found = found} (within {fs = fs} z h at_z (in_bytes {ns = ns} items)) le =
        by_one (state (partial z n (parts.Bytes ns) ∷ fs) found) (close bracket.Round) (n, within z h at_z (in_bytes items))
        (lowered _ (length fs) refl (omega arith) (delivers h z at_z (atom (span_at file (through z nowhere)) (a.Bytes ns)) (through z nowhere)))
    finishes_from {n} {found = found} (within {fs = fs} z h at_z (behind_prefix j skips)) le =
        by_one (state (partial z n (parts.Abbreviation j) ∷ fs) found) any (n, within z h at_z (behind_prefix j skips))
        (lowered _ (length fs) refl (omega arith) (delivers h z at_z (abbreviated file j z (atom (span_at file nowhere) a.Nil) (through z nowhere)) (through z nowhere)))
    finishes_from {n} {found = found} (within {fs = fs} z h at_z (behind_skip skips)) le =
        by_one (state (partial z n parts.Skipped ∷ fs) found) any (n, within z h at_z (behind_skip skips))
        (record { next = state fs found; same = refl; lower = omega arith })

  only_top : {n : ℕ} {seen : List Lexeme} {fs : List Partial} {found : List PlainDatum} → ComesTo file nesting n seen fs found → length fs ≤ 0 → Finishes (state fs found)
  only_top (at_top {ds = ds} r items) le = none ds
  only_top (within z h at_z inside) le = absurd (omega arith)

  finishes : (k : ℕ) (s : ReaderState) (seen : List Lexeme) → Holds file nesting seen s → length s.stack ≤ k → Finishes s
  finishes zero s seen h le = only_top h.1 le
  finishes (suc k) s seen h le = finishes_from k (λ next seen' h' le'. finishes k next seen' h' le') h.1 le

  -- lexemes that are taken begin some data
  pub can_go_on : (seen : List Lexeme) (s : ReaderState) → Holds file nesting seen s → CanGoOn file nesting seen
  can_go_on seen s h =
      let f = finishes (length s.stack) s seen h (omega arith) in
      record { others = f.others; data_there = f.data_there; items = (ran file nesting seen f.others s None f.data_there h f.same).1 }
