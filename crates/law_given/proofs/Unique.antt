-- A call gives one value and leaves one state.
use Rattle.std.proofs.Common.{◌≡◌, ◌+◌, ℕ, Ok, Err, List, [], ◌∷◌, map, refl, ap, ap₂, sym, ◌∙◌, arith}
use Rattle.eval_value.specs.declared.value.Value.{Value}
use Rattle.eval_code.specs.Setting.{PlainSetting}
use Rattle.eval_code.specs.State.{WorldState, Outcome, done, faulted, unfit}
use Rattle.law_eval.specs.Kept.{LaterWorld}
use Rattle.law_eval.specs.Runs.{ByFuel}
use Rattle.law_eval.proofs.Keeping.{later_then}
use Rattle.law_given.specs.Calls.{CallEnd, ended, Ends, Gives, call_to, call_of}
use Rattle.law_given.specs.InTurn.{InTurn, no_call, one_call, AllGive, AllGiveBy}
use Rattle.law_given.proofs.Later.{calls-later}

abbrev pub value_or : Value → Outcome → Value
value_or d (done v s n) = v
value_or d (faulted f s n) = d
value_or d unfit = d

abbrev pub state_or : WorldState → Outcome → WorldState
state_or d (done v s n) = s
state_or d (faulted f s n) = d
state_or d unfit = d

gives-one : (run : ByFuel) (v x : Value) (t u : WorldState) (g : Gives run v t) (h : Gives run x u) → done v t h.0 ≡ done x u g.0
gives-one run v x t u g h = let same : h.0 + g.0 ≡ g.0 + h.0 = omega arith in sym (g.1 h.0) ∙ ap run same ∙ h.1 g.0

pub gives-one-value : (run : ByFuel) (v x : Value) (t u : WorldState) → Gives run v t → Gives run x u → v ≡ x
gives-one-value run v x t u g h = ap (value_or v) (gives-one run v x t u g h)

pub gives-one-state : (run : ByFuel) (v x : Value) (t u : WorldState) → Gives run v t → Gives run x u → t ≡ u
gives-one-state run v x t u g h = ap (state_or t) (gives-one run v x t u g h)

-- likewise of each end

abbrev end_or : CallEnd → Outcome → CallEnd
end_or d (done v s n) = Ok v
end_or d (faulted f s n) = Err f
end_or d unfit = d

abbrev left_state : WorldState → Outcome → WorldState
left_state d (done v s n) = s
left_state d (faulted f s n) = s
left_state d unfit = d

end-of : (r d : CallEnd) (t : WorldState) (n : ℕ) → end_or d (ended r t n) ≡ r
end-of (Ok v) d t n = refl
end-of (Err f) d t n = refl

state-of : (r : CallEnd) (d t : WorldState) (n : ℕ) → left_state d (ended r t n) ≡ t
state-of (Ok v) d t n = refl
state-of (Err f) d t n = refl

ends-one : (run : ByFuel) (r q : CallEnd) (t u : WorldState) (g : Ends run r t) (h : Ends run q u) → ended r t h.0 ≡ ended q u g.0
ends-one run r q t u g h = let same : h.0 + g.0 ≡ g.0 + h.0 = omega arith in sym (g.1 h.0) ∙ ap run same ∙ h.1 g.0

pub ends-one-end : (run : ByFuel) (r q : CallEnd) (t u : WorldState) → Ends run r t → Ends run q u → r ≡ q
ends-one-end run r q t u g h = sym (end-of r r t h.0) ∙ ap (end_or r) (ends-one run r q t u g h) ∙ end-of q r u g.0

pub ends-one-state : (run : ByFuel) (r q : CallEnd) (t u : WorldState) → Ends run r t → Ends run q u → t ≡ u
ends-one-state run r q t u g h = sym (state-of r t t h.0) ∙ ap (left_state t) (ends-one run r q t u g h) ∙ state-of q t u g.0

module _ (w : PlainSetting) (f : Value) (g : Value → Value) where
  pub by-later : (xs : List Value) (s t : WorldState) → LaterWorld s t → AllGiveBy w f g xs s → AllGiveBy w f g xs t
  by-later [] s t k h = tt
  by-later (x ∷ xs) s t k h = (λ u l. h.0 u (later_then s t u k l), by-later xs s t k h.1)

  pub by-all : (xs : List Value) (s : WorldState) → AllGiveBy w f g xs s → AllGive w f xs s
  by-all [] s h = tt
  by-all (x ∷ xs) s h = λ t k.
      let c = h.0 t k in
      (g x, c.0, c.1, by-all xs c.0 (by-later xs s c.0 (later_then s t c.0 k (calls-later w f (x ∷ []) t (g x) c.0 c.1)) h.1))

  -- the answers are what the function says
  pub by-answers : (xs ys : List Value) (s t : WorldState) → AllGiveBy w f g xs s → InTurn w f xs s ys t → ys ≡ map g xs
  by-answers xs ys s t h (no_call k) = refl
  by-answers xs ys s t h (one_call {x = x} {y = y} {xs = xs'} {ys = ys'} {t = r} {u = u} k c i) =
      let one = h.0 r k in
      let same : y ≡ g x = gives-one-value (call_of w (call_to f (x ∷ [])) r) y (g x) u one.0 c one.1 in
      let behind = later_then s r u k (calls-later w f (x ∷ []) r y u c) in
      ap₂ (λ z zs. z ∷ zs) same (by-answers xs' ys' u t (by-later xs' s u behind h.1) i)
