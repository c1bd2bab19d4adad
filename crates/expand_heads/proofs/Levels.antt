-- What one level of a form tells of its expansion.
use Rattle.std.proofs.Common.{◌≡◌, ℕ, List, refl, Vec, ap, sym}
use Rattle.std.specs.declared.alloc.Global.{Global}
use Rattle.base_data.specs.declared.atom.Atom.{Atom}
use Rattle.base_data.specs.declared.fault.FaultKind.TheVariants as kind
use Rattle.base_data.specs.declared.span.Span.{Span}
use Rattle.stx_tree.specs.Tree.{Tree, atom, leaf, pair, vector}
use Rattle.stx_object.specs.Opens.{Opens}
use Rattle.stx_object.specs.declared.syn.OpenedTree.TheVariants as opened
use Rattle.core_shapes.specs.Lists.{is_nil_atom}
use Rattle.expand_standing.specs.State.{State, fault_form}
use Rattle.expand_heads.specs.Items.{item_plan, alone, wait, leaf_item, list_item}
use Rattle.expand_heads.specs.Plan.{plan_of, constant, reference, list_plan}
use Rattle.expand_heads.specs.declared.taken.BodyAt.{BodyAt}
use Rattle.expand_heads.specs.declared.taken.Taken.{Taken}

pub plan_leaf : (place : Span) (level : ℕ) (x : List ℕ) (t : Tree) (s : State) → Opens (opened.Symbol x) t → plan_of place level t s ≡ reference place level t s
plan_leaf place level x (atom r b) s h = absurd h
plan_leaf place level x (leaf r y c) s h = refl
plan_leaf place level x (pair r a d) s h = absurd h
plan_leaf place level x (vector r d) s h = absurd h

pub plan_atom : (place : Span) (level : ℕ) (e : Atom) (t : Tree) (s : State) → Opens (opened.Atom e) t → plan_of place level t s ≡ constant place t (is_nil_atom e) s
plan_atom place level e (atom r b) s h = ap (λ k. constant place (atom r b) (is_nil_atom k) s) (sym h)
plan_atom place level e (leaf r y c) s h = absurd h
plan_atom place level e (pair r a d) s h = absurd h
plan_atom place level e (vector r d) s h = absurd h

pub plan_pair : (place : Span) (level : ℕ) (x y : Tree) (t : Tree) (s : State) → Opens (opened.Pair x y) t → plan_of place level t s ≡ list_plan place level t x y s
plan_pair place level x y (atom r b) s h = absurd h
plan_pair place level x y (leaf r z c) s h = absurd h
plan_pair place level x y (pair r a d) s h = rw (h.0, h.1) refl
plan_pair place level x y (vector r d) s h = absurd h

pub plan_vector : (place : Span) (level : ℕ) (v : Vec Tree Global) (t : Tree) (s : State) → Opens (opened.Vector v) t → plan_of place level t s ≡ fault_form kind.BadForm t place s
plan_vector place level v (atom r b) s h = absurd h
plan_vector place level v (leaf r y c) s h = absurd h
plan_vector place level v (pair r a d) s h = absurd h
plan_vector place level v (vector r d) s h = refl

pub item_leaf : (at : BodyAt) (depth : ℕ) (done : Taken) (x : List ℕ) (t : Tree) (s : State) → Opens (opened.Symbol x) t → item_plan at depth done t s ≡ leaf_item at depth done t s
item_leaf at depth done x (atom r b) s h = absurd h
item_leaf at depth done x (leaf r y c) s h = refl
item_leaf at depth done x (pair r a d) s h = absurd h
item_leaf at depth done x (vector r d) s h = absurd h

pub item_atom : (at : BodyAt) (depth : ℕ) (done : Taken) (e : Atom) (t : Tree) (s : State) → Opens (opened.Atom e) t → item_plan at depth done t s ≡ alone (wait at depth done t) s
item_atom at depth done e (atom r b) s h = refl
item_atom at depth done e (leaf r y c) s h = absurd h
item_atom at depth done e (pair r a d) s h = absurd h
item_atom at depth done e (vector r d) s h = absurd h

pub item_pair : (at : BodyAt) (depth : ℕ) (done : Taken) (x y : Tree) (t : Tree) (s : State) → Opens (opened.Pair x y) t → item_plan at depth done t s ≡ list_item at depth done t x s
item_pair at depth done x y (atom r b) s h = absurd h
item_pair at depth done x y (leaf r z c) s h = absurd h
item_pair at depth done x y (pair r a d) s h = ap (λ k. list_item at depth done (pair r a d) k s) (sym h.0)
item_pair at depth done x y (vector r d) s h = absurd h

pub item_vector : (at : BodyAt) (depth : ℕ) (done : Taken) (v : Vec Tree Global) (t : Tree) (s : State) → Opens (opened.Vector v) t → item_plan at depth done t s ≡ alone (wait at depth done t) s
item_vector at depth done v (atom r b) s h = absurd h
item_vector at depth done v (leaf r y c) s h = absurd h
item_vector at depth done v (pair r a d) s h = absurd h
item_vector at depth done v (vector r d) s h = refl
