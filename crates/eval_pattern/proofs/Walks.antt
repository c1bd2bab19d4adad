-- Walking along the elements of a list or vector.
use Rattle.std.proofs.Common.{◌≡◌, ℕ, ◌+◌, false, true, List, [], ◌∷◌, map, Option, None, Some, Ok, Err, refl, ap, sym, ◌∙◌}
use Rattle.std.specs.Prelude.{Result}
use Rattle.base_data.specs.Act.{after}
use Rattle.base_data.specs.Gives.{◌>>=◌, Stops}
use Rattle.base_data.specs.declared.fault.Fault.{Fault}
use Rattle.base_data.specs.declared.fault.Stop.{Stop}
use Rattle.base_data.specs.declared.fault.Stop.TheVariants as stops
use Rattle.stx_tree.specs.Tree.{Tree}
use Rattle.core_language.specs.Pattern.{PlainPattern}
use Rattle.eval_pattern.specs.Keywords.{first_ellipsis}
use Rattle.eval_pattern.specs.Compile.{PatternScope, TakenVariables, next_ellipsis, with_part, with_repeated, repeated_part, inner_depth, behind_ellipsis, added, pattern, with_pattern, step, walked, WalkedPatterns}
use Rattle.eval_pattern.specs.declared.compile.PatternParts.{PatternParts}

next_is_first : (c : PatternScope) (ts : List Tree) → next_ellipsis c.frames (map (with_pattern c) ts) ≡ first_ellipsis c.frames ts
next_is_first c [] = refl
next_is_first c (t ∷ ts) = refl

module _ (c : PatternScope) (depth : ℕ) (parts : PatternParts) (t : Tree) where
  -- with the pattern of an element: its part is added, and the forms behind its ellipsis follow
  abbrev on_pattern : Option Tree → List Tree → PlainPattern → TakenVariables → Result (PatternParts × TakenVariables) Fault
  on_pattern e ts p u = added c.place e parts p >>= λ more. walked c depth false more (map (with_pattern c) (behind_ellipsis e ts)) u

  stepped : (e : Option Tree) (ts : List Tree) (s : TakenVariables) → e ≡ first_ellipsis c.frames ts
      → after (step c depth false (with_pattern c t) e parts s) (λ w. walked c depth w.0 w.1 (map (with_pattern c) ts)) ≡ after (pattern c t (inner_depth depth e) s) (on_pattern e ts)
  stepped None ts s h = go (pattern c t depth s)
    where
      go : (r : Result (PlainPattern × TakenVariables) Fault)
          → after {A = WalkedPatterns} (after {B = WalkedPatterns} r (λ p u. Ok ((false, with_part parts.repeated parts p), u))) (λ w. walked c depth w.0 w.1 (map (with_pattern c) ts)) ≡ after r (on_pattern None ts)
      go (Ok q) = refl
      go (Err f) = refl
  stepped (Some e) [] s h = absurd (cc)
  stepped (Some e) (x ∷ xs) s h = go (pattern c t (depth + 1) s)
    where
      also : (r : Result PatternParts Fault) (u : TakenVariables)
          → after {A = WalkedPatterns} (r >>= λ more. Ok ((true, more), u)) (λ w. walked c depth w.0 w.1 (map (with_pattern c) (x ∷ xs))) ≡ (r >>= λ more. walked c depth false more (map (with_pattern c) xs) u)
      also (Ok more) u = refl
      also (Err f) u = refl

      go : (r : Result (PlainPattern × TakenVariables) Fault)
          → after {A = WalkedPatterns} (after {B = WalkedPatterns} r (repeated_part c.place e parts)) (λ w. walked c depth w.0 w.1 (map (with_pattern c) (x ∷ xs))) ≡ after r (on_pattern (Some e) (x ∷ xs))
      go (Ok q) = also (with_repeated c.place e parts.repeated parts q.0) q.1
      go (Err f) = refl

  module _ (left ts : List Tree) (e : Option Tree) (inner : ℕ) (s : TakenVariables) (total : Result (PatternParts × TakenVariables) Fault) (is : left ≡ t ∷ ts) (next : e ≡ first_ellipsis c.frames ts) (deep : inner ≡ inner_depth depth e)
      (so_far : walked c depth false parts (map (with_pattern c) left) s ≡ total) where
    here : total ≡ after (pattern c t inner s) (on_pattern e ts)
    here =
        sym so_far ∙ ap (λ us. walked c depth false parts (map (with_pattern c) us) s) is
        ∙ ap (λ o. after (step c depth false (with_pattern c t) o parts s) (λ w. walked c depth w.0 w.1 (map (with_pattern c) ts))) (next_is_first c ts ∙ sym next)
        ∙ stepped e ts s next ∙ ap (λ n. after (pattern c t n s) (on_pattern e ts)) (sym deep)

    -- an element is at fault: so is the whole
    pub pattern_stop : (stop : Stop) → Stops stop (pattern c t inner s) → Stops stop total
    pattern_stop stops.Memory given = tt
    pattern_stop (stops.Fault f) given = here ∙ ap (λ r. after r (on_pattern e ts)) given

    module _ (p : PlainPattern) (new : TakenVariables) (given : pattern c t inner s ≡ Ok (p, new)) where
      then_part : total ≡ on_pattern e ts p new
      then_part = here ∙ ap (λ r. after r (on_pattern e ts)) given

      -- its ellipsis is at fault
      pub part_stop : (stop : Stop) → Stops stop (added c.place e parts p) → Stops stop total
      part_stop stops.Memory h = tt
      part_stop (stops.Fault f) h = then_part ∙ ap (λ r. r >>= λ more. walked c depth false more (map (with_pattern c) (behind_ellipsis e ts)) new) h

      -- the rest goes on from there
      pub forms_on : (more : PatternParts) → added c.place e parts p ≡ Ok more → walked c depth false more (map (with_pattern c) (behind_ellipsis e ts)) new ≡ total
      forms_on more h = sym (then_part ∙ ap (λ r. r >>= λ more. walked c depth false more (map (with_pattern c) (behind_ellipsis e ts)) new) h)
