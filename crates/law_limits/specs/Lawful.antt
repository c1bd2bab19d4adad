-- What may hold of every tree that an evaluation or an expansion meets.
use Rattle.std.specs.Prelude.{◌≡◌, ℕ, List, Option, Ok}
use Rattle.base_data.specs.declared.atom.Atom.{Atom}
use Rattle.base_data.specs.declared.span.Span.{Span}
use Rattle.stx_tree.specs.Changes.{changed}
use Rattle.stx_tree.specs.Context.{LeafContext}
use Rattle.stx_tree.specs.Measures.{within}
use Rattle.stx_tree.specs.Tree.{Tree, atom, leaf, pair, vector, spanned, unspanned}
use Rattle.stx_tree.specs.declared.change.Change.{Change}

-- It holds of atoms and identifiers, of the parts of each tree of which it holds, whatever spans, marks and stamps these have, and of all
-- trees within the limits.
pub record IsLawful (T : Tree → Type 0) : Type 0 where
  pub atoms : (s : Option Span) (x : Atom) → T (atom s x)
  pub leaves : (s : Option Span) (x : List ℕ) (c : LeafContext) → T (leaf s x c)
  pub first : (s : Option Span) (t u : Tree) → T (pair s t u) → T t
  pub rest : (s : Option Span) (t u : Tree) → T (pair s t u) → T u
  pub elements : (s : Option Span) (t : Tree) → T (vector s t) → T t
  pub spanned : (s : Option Span) (t : Tree) → T t → T (spanned s t)
  pub unspanned : (t : Tree) → T t → T (unspanned t)
  pub changed : (cs : List Change) (t : Tree) → T t → T (changed cs t)
  pub within : (t u : Tree) → within t ≡ Ok u → T u
