-- What primitives and templates are refused for, and what a value that is read as syntax: never for cells that don't fit.
use Rattle.std.proofs.Common.{◌≡◌, ℕ, zero, suc, List, [], ◌∷◌, ◌++◌, Option, Some, None, Bool, true, false, Result, Ok, Err, refl, subst, nat_le, ◌+◌, ◌-◌, if◌then◌else◌}
use Rattle.base_data.specs.Gives.{◌>>=◌}
use Rattle.base_data.specs.declared.fault.Bare.{Bare}
use Rattle.core_language.specs.Template.{PlainTemplate}
use Rattle.stx_frames.specs.Scope.{Scope}
use Rattle.stx_tree.specs.Measures.{within, fits}
use Rattle.stx_tree.specs.Tree.{Tree, pair, rest_of, vector_of}
use Rattle.eval_value.specs.Cells.{pair_at, vector_at, string_at}
use Rattle.eval_value.specs.ToSyntax.{Reading, Shown, fuel_spent, pair_shown, vector_shown, string_shown, shown, spend, leaving, pair_before, elements_read, level, read_to, to_syntax}
use Rattle.eval_value.specs.ToSyntax as shows
use Rattle.eval_value.specs.declared.cell.Cell.{Cell}
use Rattle.eval_value.specs.declared.value.Value.{Value}
use Rattle.eval_value.specs.declared.value.Value.TheVariants as value
use Rattle.eval_prims.specs.Answers.{refused}
use Rattle.eval_prims.specs.Delta.{delta}
use Rattle.eval_template.specs.Binds.{Binds, Absent}
use Rattle.eval_template.specs.Instance as instances
use Rattle.eval_template.specs.Measure as measures
use Rattle.base_data.specs.declared.fault.FaultKind.{FaultKind}
use Rattle.base_data.specs.declared.fault.FaultKind.TheVariants as kind
use Rattle.law_eval.proofs.Faults.{IsOther, Others, others-delta, others-instance, others-measure}
use Rattle.law_stuck.specs.Kinds.{NotStuck}

-- where it is refused, then not for cells that don't fit
abbrev pub Tells : {A : Type 0} → Result A Bare → Type 0
Tells (Ok x) = Unit {0}
Tells (Err f) = NotStuck f.kind

pub tells-if : {A : Type 0} (b : Bool) (x y : Result A Bare) → Tells x → Tells y → Tells (if b then x else y)
tells-if true x y h k = h
tells-if false x y h k = k

pub tells-then : {A B : Type 0} (r : Result A Bare) (go : A → Result B Bare) → Tells r → ((x : A) → Tells (go x)) → Tells (r >>= go)
tells-then (Ok x) go h k = k x
tells-then (Err f) go h k = h

pub tells-within : (t : Tree) → Tells (within t)
unfolding within
tells-within t = tells-if (fits t) _ _ tt tt

-- Primitives and templates are refused for other causes still.

not-stuck : (k : FaultKind) → IsOther k → NotStuck k
not-stuck kind.FuelSpent h = absurd h
not-stuck kind.Stuck h = h
not-stuck _ h = tt

tells-others : {A : Type 0} (r : Result A Bare) → Others r → Tells r
tells-others (Ok x) h = tt
tells-others (Err f) h = not-stuck f.kind h

pub tells-delta : (op : ℕ) (args : List Value) (cells : List Cell) (frames : Scope) → Tells (delta op args cells frames)
tells-delta op args cells frames = tells-others (delta op args cells frames) (others-delta op args cells frames)

pub tells-instance : (absent : Absent) (bs : Binds) (t : PlainTemplate) (turns : List ℕ) (cells : List Cell) → Tells (instances.instance absent bs t turns cells)
tells-instance absent bs t turns cells = tells-others (instances.instance absent bs t turns cells) (others-instance absent bs t turns cells)

pub tells-measure : (absent : Absent) (bs : Binds) (t : PlainTemplate) (turns : List ℕ) → Tells (measures.measure absent bs t turns)
tells-measure absent bs t turns = tells-others (measures.measure absent bs t turns) (others-measure absent bs t turns)

-- Values that are read as syntax.

tells-spend : {A : Type 0} (cost : ℕ) (next : ℕ → Reading A) (fuel : ℕ) → ((left : ℕ) → Tells (next left)) → Tells (spend cost next fuel)
unfolding spend
tells-spend cost next fuel h = tells-if (nat_le cost fuel) (next (fuel - cost)) (Err fuel_spent) (h (fuel - cost)) tt

tells-leaving : {A : Type 0} (fuel : ℕ) (r : Result A Bare) → Tells r → Tells (leaving fuel r)
tells-leaving fuel r h = tells-then r (λ t. Ok (t, fuel)) h (λ t. tt)

module _ (read : Value → ℕ → Reading Tree) (h : (x : Value) (fuel : ℕ) → Tells (read x fuel)) where
  tells-elements : (done : List Tree) (xs : List Value) (fuel : ℕ) → Tells (elements_read read done xs fuel)
  unfolding elements_read
  tells-elements done [] fuel = tt
  tells-elements done (x ∷ xs) fuel =
      tells-spend 1 (λ left. read x left >>= λ p. elements_read read (done ++ p.0 ∷ []) xs p.1) fuel
      (λ left. tells-then (read x left) (λ p. elements_read read (done ++ p.0 ∷ []) xs p.1) (h x left) (λ p. tells-elements (done ++ p.0 ∷ []) xs p.1))

  tells-shown : (s : Shown) (fuel : ℕ) → ((f : Bare) → s ≡ shows.refused f → NotStuck f.kind) → Tells (level read s fuel)
  unfolding level
  tells-shown (shows.tree t) fuel k = tt
  tells-shown (shows.text s) fuel k = tells-spend _ _ fuel (λ left. tt)
  tells-shown (shows.both x y) fuel k =
      tells-spend 1 (λ left. read x left >>= λ p. pair_before p.0 (read y p.1)) fuel
      (λ left. tells-then (read x left) (λ p. pair_before p.0 (read y p.1)) (h x left)
      (λ p. tells-then (read y p.1) (λ q. leaving q.1 (within (pair None p.0 (rest_of q.0)))) (h y p.1) (λ q. tells-leaving q.1 (within (pair None p.0 (rest_of q.0))) (tells-within (pair None p.0 (rest_of q.0))))))
  tells-shown (shows.elements xs) fuel k =
      tells-then (elements_read read [] xs fuel) (λ p. leaving p.1 (within (vector_of p.0))) (tells-elements [] xs fuel) (λ p. tells-leaving p.1 (within (vector_of p.0)) (tells-within (vector_of p.0)))
  tells-shown (shows.refused f) fuel k = k f refl

-- what shows nothing is bad output, or a plain symbol
abbrev Shows : Shown → Type 0
Shows s = (f : Bare) → s ≡ shows.refused f → NotStuck f.kind

shows-refused : (g : Bare) → NotStuck g.kind → Shows (shows.refused g)
shows-refused g h f e = let same : g ≡ f = cc in subst (λ (x : Bare). NotStuck x.kind) same h

shows-pair : (o : Option (Value × Value)) → Shows (pair_shown o)
shows-pair None f e = shows-refused _ tt f e
shows-pair (Some p) f e = absurd (cc)

shows-vector : (o : Option (List Value)) → Shows (vector_shown o)
shows-vector None f e = shows-refused _ tt f e
shows-vector (Some p) f e = absurd (cc)

shows-text : (o : Option (List ℕ)) → Shows (string_shown o)
shows-text None f e = shows-refused _ tt f e
shows-text (Some p) f e = absurd (cc)

shows-value : (cells : List Cell) (x : Value) → Shows (shown cells x)
shows-value cells value.Unspecified f e = shows-refused _ tt f e
shows-value cells (value.Atom x) f e = absurd (cc)
shows-value cells (value.Symbol s) f e = shows-refused _ tt f e
shows-value cells (value.Pair place) f e = shows-pair (pair_at cells place.0) f e
shows-value cells (value.Vector place) f e = shows-vector (vector_at cells place.0) f e
shows-value cells (value.Str place) f e = shows-text (string_at cells place.0) f e
shows-value cells (value.Closure code place) f e = shows-refused _ tt f e
shows-value cells (value.Prim op) f e = shows-refused _ tt f e
shows-value cells (value.Syn t) f e = absurd (cc)
shows-value cells (value.Transformer place) f e = shows-refused _ tt f e

tells-read : (levels : ℕ) (cells : List Cell) (x : Value) (fuel : ℕ) → Tells (read_to levels cells x fuel)
unfolding read_to
tells-read zero cells x fuel = tt
tells-read (suc levels) cells x fuel = tells-shown (read_to levels cells) (λ y m. tells-read levels cells y m) (shown cells x) fuel (shows-value cells x)

pub tells-reading : (cells : List Cell) (x : Value) (fuel : ℕ) → Tells (to_syntax cells x fuel)
unfolding to_syntax
tells-reading cells x fuel = tells-read (suc fuel) cells x fuel
