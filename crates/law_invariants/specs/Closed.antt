-- When evaluation keeps an invariant: primitives make of what it holds of only what it holds of.
use Rattle.std.specs.Fmt.{signed_decimal}
use Rattle.std.specs.Prelude.{◌≡◌, ◌≤◌, ◌<◌, ℕ, ℤ, pos, Bool, true, List, [], ◌∷◌, Option, None, Some, Ok, encode_utf8_all}
use Rattle.std.specs.Str.{chars}
use Rattle.base_data.specs.Datum.{PlainDatum}
use Rattle.base_data.specs.Elements.{Each}
use Rattle.base_data.specs.declared.atom.Atom.{Atom}
use Rattle.base_data.specs.declared.atom.Atom.TheVariants as a
use Rattle.base_data.specs.declared.library.LibName.{LibName}
use Rattle.base_data.specs.declared.span.Span.{Span}
use Rattle.stx_tree.specs.Context.{LeafContext}
use Rattle.stx_tree.specs.Leaves.{strip}
use Rattle.stx_tree.specs.Measures.{within}
use Rattle.stx_tree.specs.Tree as tree
use Rattle.stx_tree.specs.Tree.{Tree, rest_of, list_of, vector_of}
use Rattle.core_language.specs.Pattern.{PlainPattern}
use Rattle.core_language.specs.Template.{PlainTemplate}
use Rattle.eval_prims.specs.Characters.{is_scalar}
use Rattle.eval_prims.specs.Numbers.{is_small}
use Rattle.eval_prims.specs.Perform.{temporary}
use Rattle.eval_prims.specs.Strings.{joined}
use Rattle.law_invariants.specs.Invariant.{Invariant, DatumHolds}

pub record IsClosed (I : Invariant) : Type 0 where
  -- atoms that primitives make
  pub nil : I.atoms a.Nil
  pub booleans : (b : Bool) → I.atoms (a.Bool b)
  pub integers : (z : ℤ) → is_small z ≡ true → I.atoms (a.Int z)
  pub characters : (n : ℕ) → is_scalar n ≡ true → I.atoms (a.Char n)
  pub scalar_values : (c : ℕ) → I.atoms (a.Char c) → I.atoms (a.Int (pos c))
  pub strings : (s : List ℕ) → I.texts s → I.atoms (a.Str s)
  -- texts
  pub contents : (s : List ℕ) → I.atoms (a.Str s) → I.texts s
  pub spellings : (s : List ℕ) → I.symbols s → I.texts s
  pub interned : (b : ℕ) (s : List ℕ) → I.texts (b ∷ s) → I.symbols (b ∷ s)
  pub unpacked : (s : List ℕ) → I.texts s → Each (λ (c : ℕ). I.atoms (a.Char c)) (chars s)
  pub packed : (cs : List ℕ) → Each (λ (c : ℕ). I.atoms (a.Char c)) cs → I.texts (encode_utf8_all cs)
  pub appended : (ss : List (List ℕ)) → Each I.texts ss → I.texts (joined [] ss)
  pub decimals : (z : ℤ) → I.texts (signed_decimal z)
  pub numerals : (s : List ℕ) → I.atoms (a.Spelt s) → I.texts s
  -- trees that are made, within the limits of a tree
  pub atom : (x : Atom) → I.atoms x → I.trees (tree.atom None x)
  pub renamed : (s : Option Span) (x y : List ℕ) (c : LeafContext) → I.trees (tree.leaf s x c) → I.symbols y → I.trees (tree.leaf None y c)
  pub pair : (t u w : Tree) → I.trees t → I.trees u → within (tree.pair None t (rest_of u)) ≡ Ok w → I.trees w
  pub list : (ts : List Tree) (t w : Tree) → Each I.trees ts → I.trees t → within (list_of ts (Some t)) ≡ Ok w → I.trees w
  pub vector : (ts : List Tree) (w : Tree) → Each I.trees ts → within (vector_of ts) ≡ Ok w → I.trees w
  -- and their parts
  pub first : (s : Option Span) (t u : Tree) → I.trees (tree.pair s t u) → I.trees t
  pub rest : (s : Option Span) (t u : Tree) → I.trees (tree.pair s t u) → I.trees u
  pub elements : (s : Option Span) (t : Tree) → I.trees (tree.vector s t) → I.trees t
  -- data
  pub stripped : (t : Tree) → I.trees t → DatumHolds I (strip t)
  pub constants : (d : PlainDatum) → I.constants d → DatumHolds I d

-- all that the first holds of the second holds of, too
pub record Wider (I J : Invariant) : Type 1 where
  pub atoms : (x : Atom) → I.atoms x → J.atoms x
  pub symbols : (s : List ℕ) → I.symbols s → J.symbols s
  pub texts : (s : List ℕ) → I.texts s → J.texts s
  pub trees : (t : Tree) → I.trees t → J.trees t
  pub constants : (d : PlainDatum) → I.constants d → J.constants d
  pub clauses : (p : PlainPattern) (A B : Type 0) → (A → B) → I.clauses p A → J.clauses p B
  pub templates : (x : PlainTemplate) (A B : Type 0) → (A → B) → I.templates x A → J.templates x B

-- Such an invariant before each name of a library is taken: what held before holds later, and of temporaries of the names from a first one on.
pub record Rises (own : LibName) (first : ℕ) (I : ℕ → Invariant) : Type 1 where
  pub closed : (n : ℕ) → IsClosed (I n)
  pub later : (m n : ℕ) → m ≤ n → Wider (I m) (I n)
  pub temporaries : (m n : ℕ) → first ≤ m → m < n → (I n).trees (temporary (record { library = own; number = m }))
  pub code : (n : ℕ) (p : PlainPattern) (A : Type 0) → (I n).clauses p A → A
  pub template : (n : ℕ) (x : PlainTemplate) (A : Type 0) → (I n).templates x A → A
