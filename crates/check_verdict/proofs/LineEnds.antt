-- The first line of some bytes, and where it ends.
use Rattle.std.proofs.Common.{◌≡◌, ℕ, zero, suc, ◌+◌, ◌<◌, ◌≤◌, Bool, true, false, List, [], ◌∷◌, length, take, drop, Option, Some, None, refl, sym, ap, subst, ◌∙◌, cond, arith}
use Rattle.std.specs.Prelude.{◌==◌, option_map, slice_index}
use Rattle.memchr.specs.Find.{Nowhere, NoneBefore, Passes, IsFirst, IsFirstByte, is_byte}
use Rattle.check_verdict.specs.Lines.{Lines, ended, unended, line, before, lines_of, line_end}

abbrev is_end : ℕ → Bool
is_end b = b == 0x0A

some_is : {x y : ℕ} → Some x ≡ Some y → x ≡ y
some_is e = cc

none_of : (o : Option ℕ) → option_map suc o ≡ None → o ≡ None
none_of None e = refl
none_of (Some n) e = absurd (cc)

not_nil : (x : ℕ) (xs : List ℕ) → x ∷ xs ≡ [] → ⊥
not_nil x xs e = cc

-- bytes without a line end
pub no_end_left : (xs : List ℕ) → line_end xs ≡ None → (xs ≡ [] → ⊥) → lines_of xs ≡ unended xs
unfolding line_end lines_of
no_end_left [] e n = absurd (n refl)
no_end_left (b ∷ bs) e n = by (is_end b) e (no_end_left bs) where
  behind : (cs : List ℕ) → ((cs ≡ [] → ⊥) → lines_of cs ≡ unended cs) → before b (lines_of cs) ≡ unended (b ∷ cs)
  behind [] go = refl
  behind (c ∷ cs) go = ap (before b) (go (not_nil c cs))

  by : (t : Bool) → cond t (Some 0) (option_map suc (line_end bs)) ≡ None → (line_end bs ≡ None → (bs ≡ [] → ⊥) → lines_of bs ≡ unended bs)
      → cond t (line [] (lines_of bs)) (before b (lines_of bs)) ≡ unended (b ∷ bs)
  by true g go = absurd (cc)
  by false g go = behind bs (go (none_of (line_end bs) g))

-- the bytes up to a line end, and those behind it
pub first_line_is : (xs : List ℕ) (e : ℕ) → line_end xs ≡ Some e → lines_of xs ≡ line (take e xs) (lines_of (drop (suc e) xs))
unfolding line_end lines_of
first_line_is [] e h = absurd (cc)
first_line_is (b ∷ bs) e h = by (is_end b) h (first_line_is bs) where
  further : (o : Option ℕ) → line_end bs ≡ o → option_map suc o ≡ Some e → ((n : ℕ) → line_end bs ≡ Some n → lines_of bs ≡ line (take n bs) (lines_of (drop (suc n) bs)))
      → before b (lines_of bs) ≡ line (take e (b ∷ bs)) (lines_of (drop (suc e) (b ∷ bs)))
  further None m q go = absurd (cc)
  further (Some n) m q go = subst (λ (p : ℕ). before b (lines_of bs) ≡ line (take p (b ∷ bs)) (lines_of (drop (suc p) (b ∷ bs)))) (some_is q) (ap (before b) (go n m))

  by : (t : Bool) → cond t (Some 0) (option_map suc (line_end bs)) ≡ Some e → ((n : ℕ) → line_end bs ≡ Some n → lines_of bs ≡ line (take n bs) (lines_of (drop (suc n) bs)))
      → cond t (line [] (lines_of bs)) (before b (lines_of bs)) ≡ line (take e (b ∷ bs)) (lines_of (drop (suc e) (b ∷ bs)))
  by true g go = subst (λ (p : ℕ). line [] (lines_of bs) ≡ line (take p (b ∷ bs)) (lines_of (drop (suc p) (b ∷ bs)))) (some_is g) refl
  by false g go = further (line_end bs) refl g go

-- a place within the bytes
pub end_within : (xs : List ℕ) (e : ℕ) → line_end xs ≡ Some e → e < length xs
unfolding line_end
end_within [] e h = absurd (cc)
end_within (b ∷ bs) e h = by (is_end b) h (end_within bs) where
  further : (o : Option ℕ) → line_end bs ≡ o → option_map suc o ≡ Some e → ((n : ℕ) → line_end bs ≡ Some n → n < length bs) → e < suc (length bs)
  further None m q go = absurd (cc)
  further (Some n) m q go = omega (arith, some_is q, go n m)

  by : (t : Bool) → cond t (Some 0) (option_map suc (line_end bs)) ≡ Some e → ((n : ℕ) → line_end bs ≡ Some n → n < length bs) → e < suc (length bs)
  by true g go = omega (arith, some_is g)
  by false g go = further (line_end bs) refl g go

-- as the search of a byte finds it

absent : (xs : List ℕ) → ((k : ℕ) → k < length xs → is_end (slice_index xs k) ≡ true → ⊥) → line_end xs ≡ None
unfolding line_end
absent [] h = refl
absent (b ∷ bs) h = by (is_end b) refl (absent bs (λ k l. h (suc k) (omega (arith, l)))) where
  by : (t : Bool) → is_end b ≡ t → line_end bs ≡ None → cond t (Some 0) (option_map suc (line_end bs)) ≡ None
  by true e go = absurd (h 0 (omega arith) e)
  by false e go = ap (option_map suc) go

present : (xs : List ℕ) (k : ℕ) → k < length xs → ((j : ℕ) → j < k → is_end (slice_index xs j) ≡ true → ⊥) → is_end (slice_index xs k) ≡ true → line_end xs ≡ Some k
unfolding line_end
present [] k l h e = absurd (omega (arith, l))
present (b ∷ bs) zero l h e = ap (λ (t : Bool). cond t (Some 0) (option_map suc (line_end bs))) e
present (b ∷ bs) (suc k) l h e = by (is_end b) refl (present bs k (omega (arith, l)) (λ j m. h (suc j) (omega (arith, m))) e) where
  by : (t : Bool) → is_end b ≡ t → line_end bs ≡ Some k → cond t (Some 0) (option_map suc (line_end bs)) ≡ Some (suc k)
  by true f go = absurd (h 0 (omega arith) f)
  by false f go = ap (option_map suc) go

pub found : (xs : List ℕ) (r : Option ℕ) → IsFirstByte (is_byte 0x0A) xs r → r ≡ line_end xs
found xs None h = sym (absent xs (λ k l e. h k (omega arith) l e))
found xs (Some k) h = sym (present xs k h.0.high (λ j l e. h.0.before j (omega arith) l e) h.1)
