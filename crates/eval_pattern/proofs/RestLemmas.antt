-- The rest of a list that a variable under an ellipsis takes is the list of its elements.
use Rattle.std.proofs.Common.{◌≡◌, ℕ, suc, ◌+◌, ◌-◌, ◌<◌, ◌≤◌, Bool, true, false, List, [], ◌∷◌, ◌++◌, length, length-append, map, take, drop, Option, None, Some, refl, sym, ap, ◌∙◌, subst, arith}
use Rattle.std.specs.Prelude.{nat_lt, if◌then◌else◌}
use Rattle.std.proofs.lemmas.Bool.{ltb-true, ltb-false, le-leb}
use Rattle.base_data.specs.declared.atom.Atom.TheVariants.{Nil, Bool as Boolean, Int, Spelt, Char, Str, Bytes}
use Rattle.base_data.specs.declared.name.Label.{Label}
use Rattle.base_data.specs.declared.span.Span.{Span}
use Rattle.stx_tree.specs.Tree.{Tree, atom, leaf, pair, vector, chain, nil, rest_of}
use Rattle.stx_frames.specs.Scope.{Scope}
use Rattle.core_language.specs.Pattern as pattern
use Rattle.core_language.specs.Pattern.{PlainPattern, patterns, patterns_on}
use Rattle.eval_value.specs.Bind.{PlainBind, one}
use Rattle.eval_value.specs.declared.cell.Cell.{Cell}
use Rattle.eval_value.specs.declared.value.Value.{Value}
use Rattle.eval_value.specs.declared.value.Value.TheVariants as value
use Rattle.eval_pattern.specs.Front.{has_room, fronted, tree_front, further, front}
use Rattle.eval_pattern.specs.Matched.{matched, all_matched, repeated, nothing, and_then}
use Rattle.eval_pattern.specs.Rests.{ending, rest_pattern, all_of, IsList, IsTree, Takes, Tells}
use Rattle.eval_pattern.specs.declared.columns.PatternBinds.{PatternBinds}
use Rattle.eval_pattern.specs.declared.columns.Rows.{Rows}
use Rattle.eval_pattern.specs.declared.front.Front.{Front}
use Rattle.eval_pattern.specs.declared.rest.RestMatch.{RestMatch}
use Rattle.eval_pattern.specs.declared.rest.RestMatch.TheVariants as told
use Rattle.eval_pattern.proofs.Chains.{matched_on, matched_short, limit_dots}

either : (P : Front → Type 0) (on off : Front) (b : Bool) → (b ≡ true → P on) → (b ≡ false → P off) → P (if b then on else off)
either P on off true h g = h refl
either P on off false h g = g refl

-- what is behind the first elements has the others
front_on : (o : Option ℕ) (done : List Value) (t : Tree) → tree_front None done t ≡ further None (tree_front o done t).elements (tree_front o done t).rest
front_on o done (atom s a) = refl
front_on o done (leaf s x c) = refl
front_on o done (pair s a d) =
    either (λ (f : Front). tree_front None (done ++ value.Syn a ∷ []) d ≡ further None f.elements f.rest) (tree_front o (done ++ value.Syn a ∷ []) d) (fronted done (value.Syn (pair s a d)))
    (has_room o (length done)) (λ e. front_on o (done ++ value.Syn a ∷ []) d) (λ e. refl)
front_on o done (vector s d) = refl

-- where fewer elements are there than are wanted, no more are there
front_short : (k : ℕ) (done : List Value) (t : Tree) → length (tree_front (Some k) done t).elements < k → tree_front None done t ≡ tree_front (Some k) done t
front_short k done (atom s a) h = refl
front_short k done (leaf s x c) h = refl
front_short k done (pair s a d) h =
    either (λ (f : Front). length f.elements < k → tree_front None (done ++ value.Syn a ∷ []) d ≡ f) (tree_front (Some k) (done ++ value.Syn a ∷ []) d) (fronted done (value.Syn (pair s a d)))
    (nat_lt (length done) k) (λ e less. front_short k (done ++ value.Syn a ∷ []) d less) (λ e less. absurd (omega (arith, less, ltb-false (length done) k e))) h
front_short k done (vector s d) h = refl

-- no more elements are taken than are wanted
front_fits : (k : ℕ) (done : List Value) (t : Tree) → length done ≤ k → length (tree_front (Some k) done t).elements ≤ k
front_fits k done (atom s a) h = h
front_fits k done (leaf s x c) h = h
front_fits k done (pair s a d) h =
    either (λ (f : Front). length f.elements ≤ k) (tree_front (Some k) (done ++ value.Syn a ∷ []) d) (fronted done (value.Syn (pair s a d)))
    (nat_lt (length done) k) (λ e. front_fits k (done ++ value.Syn a ∷ []) d (omega (arith, length-append done (value.Syn a ∷ []), ltb-true (length done) k e))) (λ e. h)
front_fits k done (vector s d) h = h

chain_rest : (xs : List Tree) → rest_of (chain xs nil) ≡ chain xs nil
chain_rest [] = refl
chain_rest (x ∷ xs) = refl

append_nil : (xs : List Value) → xs ++ [] ≡ xs
append_nil [] = refl
append_nil (x ∷ xs) = ap (λ ys. x ∷ ys) (append_nil xs)

append_more : (xs : List Value) (y : Value) (zs : List Value) → (xs ++ y ∷ []) ++ zs ≡ xs ++ y ∷ zs
append_more [] y zs = refl
append_more (x ∷ xs) y zs = ap (λ ys. x ∷ ys) (append_more xs y zs)

abbrev Ends : List Value → Tree → List Tree → Type 0
Ends done t xs = (s : Option Span) × (tree_front None done t ≡ fronted (done ++ map value.Syn xs) (value.Syn (atom s Nil)))

-- a list of these elements is opened to its end
list_front : (xs : List Tree) (done : List Value) (t : Tree) → IsList t xs → Ends done t xs
list_front [] done (atom s Nil) h = (s, ap (λ ys. fronted ys (value.Syn (atom s Nil))) (sym (append_nil done)))
list_front [] done (atom s (Boolean _)) h = absurd (let g : ⊥ = cc in g)
list_front [] done (atom s (Int _)) h = absurd (let g : ⊥ = cc in g)
list_front [] done (atom s (Spelt _)) h = absurd (let g : ⊥ = cc in g)
list_front [] done (atom s (Char _)) h = absurd (let g : ⊥ = cc in g)
list_front [] done (atom s (Str _)) h = absurd (let g : ⊥ = cc in g)
list_front [] done (atom s (Bytes _)) h = absurd (let g : ⊥ = cc in g)
list_front [] done (leaf s x c) h = absurd (let g : ⊥ = cc in g)
list_front [] done (pair s a d) h = absurd (let g : ⊥ = cc in g)
list_front [] done (vector s d) h = absurd (let g : ⊥ = cc in g)
list_front (x ∷ xs) done (atom s Nil) h = absurd (let g : ⊥ = cc in g)
list_front (x ∷ xs) done (atom s (Boolean _)) h = absurd (let g : ⊥ = cc in g)
list_front (x ∷ xs) done (atom s (Int _)) h = absurd (let g : ⊥ = cc in g)
list_front (x ∷ xs) done (atom s (Spelt _)) h = absurd (let g : ⊥ = cc in g)
list_front (x ∷ xs) done (atom s (Char _)) h = absurd (let g : ⊥ = cc in g)
list_front (x ∷ xs) done (atom s (Str _)) h = absurd (let g : ⊥ = cc in g)
list_front (x ∷ xs) done (atom s (Bytes _)) h = absurd (let g : ⊥ = cc in g)
list_front (x ∷ xs) done (leaf s y c) h = absurd (let g : ⊥ = cc in g)
list_front (x ∷ xs) done (pair s a d) h =
    let same : a ≡ x = cc in
    let behind : d ≡ chain xs nil = cc in
    let on = list_front xs (done ++ value.Syn a ∷ []) d (ap rest_of behind ∙ chain_rest xs) in
    (on.0, on.1 ∙ ap (λ ys. fronted ys (value.Syn (atom on.0 Nil))) (append_more done (value.Syn a) (map value.Syn xs) ∙ ap (λ y. done ++ value.Syn y ∷ map value.Syn xs) same))
list_front (x ∷ xs) done (vector s d) h = absurd (let g : ⊥ = cc in g)

-- what is opened further is behind what is there
front_behind : (done : List Value) (t : Tree) → (ys : List Value) × ((tree_front None done t).elements ≡ done ++ ys)
front_behind done (atom s a) = ([], sym (append_nil done))
front_behind done (leaf s x c) = ([], sym (append_nil done))
front_behind done (pair s a d) =
    let on = front_behind (done ++ value.Syn a ∷ []) d in
    (value.Syn a ∷ on.0, on.1 ∙ append_more done (value.Syn a) on.0)
front_behind done (vector s d) = ([], sym (append_nil done))

further_behind : (done : List Value) (v : Value) → (ys : List Value) × ((further None done v).elements ≡ done ++ ys)
further_behind done (value.Syn t) = front_behind done t
further_behind done value.Unspecified = ([], sym (append_nil done))
further_behind done (value.Atom a) = ([], sym (append_nil done))
further_behind done (value.Symbol s) = ([], sym (append_nil done))
further_behind done (value.Pair q) = ([], sym (append_nil done))
further_behind done (value.Vector q) = ([], sym (append_nil done))
further_behind done (value.Str q) = ([], sym (append_nil done))
further_behind done (value.Closure c q) = ([], sym (append_nil done))
further_behind done (value.Prim o) = ([], sym (append_nil done))
further_behind done (value.Transformer q) = ([], sym (append_nil done))

abbrev one_of : Tree → PlainBind
one_of x = one (value.Syn x)

abbrev column : Label → List PlainBind → ℕ → Rows
column l bs n = record { columns = record { label = l; binds = bs } ∷ []; taken = n }

binds_nil : (bs : List PlainBind) → bs ++ [] ≡ bs
binds_nil [] = refl
binds_nil (b ∷ bs) = ap (λ cs. b ∷ cs) (binds_nil bs)

binds_more : (bs : List PlainBind) (b : PlainBind) (cs : List PlainBind) → (bs ++ b ∷ []) ++ cs ≡ bs ++ b ∷ cs
binds_more [] b cs = refl
binds_more (a ∷ bs) b cs = ap (λ ds. a ∷ ds) (binds_more bs b cs)

-- a variable adds each tree to its column
rows_of : (fs : Scope) (l : Label) (xs : List Tree) (bs : List PlainBind) (n : ℕ)
    → repeated (matched fs [] (pattern.variable l)) (column l bs n) (map value.Syn xs) ≡ Some (column l (bs ++ map one_of xs) (n + length xs))
rows_of fs l [] bs n = let sum : n ≡ n + 0 = omega arith in λ i. Some (column l (sym (binds_nil bs) i) (sum i))
rows_of fs l (x ∷ xs) bs n =
    let sum : n + 1 + length xs ≡ n + suc (length xs) = omega arith in
    rows_of fs l xs (bs ++ one_of x ∷ []) (n + 1) ∙ (λ i. Some (column l (binds_more bs (one_of x) (map one_of xs) i) (sum i)))

take_all : (xs : List Value) → take (length xs) xs ≡ xs
take_all [] = refl
take_all (x ∷ xs) = ap (λ ys. x ∷ ys) (take_all xs)

drop_all : (xs : List Value) → drop (length xs) xs ≡ []
drop_all [] = refl
drop_all (x ∷ xs) = drop_all xs

length_map : (xs : List Tree) → length (map value.Syn xs) ≡ length xs
length_map [] = refl
length_map (x ∷ xs) = ap suc (length_map xs)

-- the variable takes all that are left
all_taken : (fs : Scope) (l : Label) (xs : List Tree) (s : PatternBinds)
    → all_matched fs [] (ending l) (map value.Syn xs) s ≡ Some (record { binds = s.binds ++ (l, all_of xs) ∷ []; taken = s.taken + length xs })
all_taken fs l xs s =
    let ys = map value.Syn xs in
    let less : length ys - 0 ≡ length ys = omega arith in
    let some = le-leb 0 (length ys) (omega arith) in
    rw (some, less, take_all ys, rows_of fs l xs [] s.taken, drop_all ys) refl

-- a tree is opened where it stands
value_front : (cells : List Cell) (o : Option ℕ) (v : Value) (t : Tree) → cells ≡ [] → v ≡ value.Syn t → front cells o v ≡ tree_front o [] t
value_front cells o v t none is = ap (λ cs. front cs o v) none ∙ ap (front [] o) is

abbrev and_all : PatternBinds → Label → List Tree → PatternBinds
and_all s l xs = record { binds = s.binds ++ (l, all_of xs) ∷ []; taken = s.taken + length xs }

module _ (fs : Scope) (ps : List PlainPattern) (l : Label) (t : Tree) (f : Front) (is : f ≡ tree_front (Some (length ps)) [] t) where
  abbrev given : Option PatternBinds
  given = matched fs [] (rest_pattern ps l) (value.Syn t) (nothing 0)

  abbrev end : Value → PatternBinds → Option PatternBinds
  end v s = matched fs [] (pattern.atom Nil) v s

  abbrev on_front : Front → Option PatternBinds
  on_front g = and_then (all_matched fs [] (patterns_on ps (ending l)) g.elements (nothing 0)) (end g.rest)

  -- the pattern wants all elements
  opened : given ≡ on_front (tree_front None [] t)
  opened = ap (λ o. on_front (tree_front o [] t)) (limit_dots ps (pattern.variable l) pattern.none)

  -- the whole list is what is behind the first elements, opened further
  opened_on : given ≡ on_front (further None f.elements f.rest)
  opened_on = opened ∙ ap on_front (front_on (Some (length ps)) [] t ∙ ap (λ (g : Front). further None g.elements g.rest) (sym is))

  short_tree : length f.elements < length ps → given ≡ None
  short_tree short =
      let fewer : length (tree_front (Some (length ps)) [] t).elements < length ps = subst (λ (g : Front). length g.elements < length ps) is short in
      opened ∙ ap on_front (front_short (length ps) [] t fewer)
      ∙ ap (λ o. and_then o (end (tree_front (Some (length ps)) [] t).rest)) (matched_short fs [] ps (ending l) (tree_front (Some (length ps)) [] t).elements (nothing 0) fewer)

  enough : ¬ (length f.elements < length ps) → length f.elements ≡ length ps
  enough h =
      let most : length f.elements ≤ length ps = subst (λ (g : Front). length g.elements ≤ length ps) (sym is) (front_fits (length ps) [] t (omega arith)) in
      omega (arith, h, most)

  -- the first elements by the patterns before, the others by the variable
  behind_first : (xs : List Value) → ¬ (length f.elements < length ps)
      → all_matched fs [] (patterns_on ps (ending l)) (f.elements ++ xs) (nothing 0) ≡ and_then (all_matched fs [] (patterns ps) f.elements (nothing 0)) (all_matched fs [] (ending l) xs)
  behind_first xs h = matched_on fs [] ps (ending l) f.elements xs (nothing 0) (enough h)

  refused_tree : ¬ (length f.elements < length ps) → all_matched fs [] (patterns ps) f.elements (nothing 0) ≡ None → given ≡ None
  refused_tree h none =
      let g = further None f.elements f.rest in
      let behind = further_behind f.elements f.rest in
      opened_on ∙ ap (λ xs. and_then (all_matched fs [] (patterns_on ps (ending l)) xs (nothing 0)) (end g.rest)) behind.1
      ∙ ap (λ o. and_then o (end g.rest)) (behind_first behind.0 h ∙ ap (λ o. and_then o (all_matched fs [] (ending l) behind.0)) none)

  taken_tree : (s : PatternBinds) (u : Tree) (xs : List Tree) → ¬ (length f.elements < length ps) → all_matched fs [] (patterns ps) f.elements (nothing 0) ≡ Some s
      → f.rest ≡ value.Syn u → IsList u xs → given ≡ Some (and_all s l xs)
  taken_tree s u xs h some rest list =
      let ends = list_front xs f.elements u list in
      opened_on ∙ ap (λ v. on_front (further None f.elements v)) rest ∙ ap on_front ends.1
      ∙ ap (λ o. and_then o (end (value.Syn (atom ends.0 Nil))))
      (behind_first (map value.Syn xs) h ∙ ap (λ o. and_then o (all_matched fs [] (ending l) (map value.Syn xs))) some ∙ all_taken fs l xs s)

  told_tree : (s : PatternBinds) (m : RestMatch) → ¬ (length f.elements < length ps) → all_matched fs [] (patterns ps) f.elements (nothing 0) ≡ Some s → Takes m s l f.rest → Tells m given
  told_tree s told.Untold h some takes = tt
  told_tree s told.Refused h some takes = absurd takes
  told_tree s (told.Taken r) h some takes =
      let xs = takes.3.0 in (
        xs,
        takes.3.1,
        takes.3.2,
        taken_tree s r.rest xs h some takes.2 takes.3.2 ∙ ap (λ (q : PatternBinds). Some (and_all q l xs)) (sym takes.0) ∙ ap (λ k. Some (and_all r.found k xs)) (sym takes.1),
      )

module _ (fs : Scope) (cells : List Cell) (ps : List PlainPattern) (l : Label) (v : Value) (f : Front) (none : cells ≡ []) (tree : IsTree v) (is : f ≡ front cells (Some (length ps)) v) where
  abbrev here : Option PatternBinds
  here = matched fs [] (rest_pattern ps l) v (nothing 0)

  there : matched fs [] (rest_pattern ps l) (value.Syn tree.0) (nothing 0) ≡ here
  there = ap (λ w. matched fs [] (rest_pattern ps l) w (nothing 0)) (sym tree.1)

  tree_is : f ≡ tree_front (Some (length ps)) [] tree.0
  tree_is = is ∙ value_front cells (Some (length ps)) v tree.0 none tree.1

  of_first : (r : Option PatternBinds) → all_matched fs cells (patterns ps) f.elements (nothing 0) ≡ r → all_matched fs [] (patterns ps) f.elements (nothing 0) ≡ r
  of_first r h = ap (λ cs. all_matched fs cs (patterns ps) f.elements (nothing 0)) (sym none) ∙ h

  pub rest_short : length f.elements < length ps → here ≡ None
  rest_short short = sym there ∙ short_tree fs ps l tree.0 f tree_is short

  pub rest_refused : ¬ (length f.elements < length ps) → all_matched fs cells (patterns ps) f.elements (nothing 0) ≡ None → here ≡ None
  rest_refused h e = sym there ∙ refused_tree fs ps l tree.0 f tree_is h (of_first None e)

  pub rest_told : (s : PatternBinds) (m : RestMatch) → ¬ (length f.elements < length ps) → all_matched fs cells (patterns ps) f.elements (nothing 0) ≡ Some s → Takes m s l f.rest → Tells m here
  rest_told s m h e takes = subst (Tells m) there (told_tree fs ps l tree.0 f tree_is s m h (of_first (Some s) e) takes)
