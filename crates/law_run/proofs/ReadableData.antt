-- What a file has can be written and read back: its data, the forms of a library's body, and the trees that stand for them.
use Rattle.std.proofs.Common.{◌≡◌, ℕ, zero, suc, Bool, true, false, List, [], ◌∷◌, ◌++◌, Option, Some, None, Result, Ok, Err, refl, if◌then◌else◌}
use Rattle.std.specs.Prelude.{All, codes}
use Rattle.std.proofs.lemmas.List.Elements.{All-head, All-tail}
use Rattle.base_data.proofs.ElementLemmas.{each-and, each-dropped}
use Rattle.base_data.specs.Datum.{PlainDatum, atom, symbol, pair, vector, elements, tail_of, is_nil, proper_elements}
use Rattle.base_data.specs.Elements.{Each}
use Rattle.base_data.specs.declared.atom.Atom.{Atom}
use Rattle.base_data.specs.declared.atom.Atom.TheVariants as a
use Rattle.base_data.specs.declared.fault.Bare.{Bare}
use Rattle.base_data.specs.declared.fault.Fault.{Fault}
use Rattle.base_data.specs.declared.span.Span.{Span}
use Rattle.load_forms.specs.All.{given}
use Rattle.load_forms.specs.Form.{behind_word, form_of, body_in, library_body, program_body}
use Rattle.load_forms.specs.Words.{is_word}
use Rattle.law_fresh.specs.Leaves.{OptionHolds}
use Rattle.law_fresh.proofs.Trees.{OkHolds}
use Rattle.run_library.specs.Library.{placed, tree_at, trees_at}
use Rattle.read_reader.specs.Read.{data_of, file_nesting}
use Rattle.law_readable.specs.Readable.{ReadableAtom, ReadableDatum, IsProperDatum, ReadableTree, IsProper}
use Rattle.law_readable.proofs.Trees.{within_holds}
use Rattle.law_readable_expansion.proofs.Shapes.{then-holds}
use Rattle.law_round.specs.Readable.{IsReadableAtom, IsReadable, IsRest, AreElements}
use Rattle.law_round.proofs.Reading.{read_readable}
use Rattle.stx_tree.specs.Context.{blank}
use Rattle.stx_tree.specs.Leaves.{tree_of}
use Rattle.stx_tree.specs.Measures.{within}
use Rattle.stx_tree.specs.Tree.{Tree}

-- Data.

read-atom : (n : ℕ) (x : Atom) → IsReadableAtom n x → ReadableAtom x
read-atom n a.Nil h = tt
read-atom n (a.Bool b) h = tt
read-atom n (a.Int z) h = h
read-atom n (a.Spelt text) h = h
read-atom n (a.Char c) h = h
read-atom n (a.Str text) h = h
read-atom n (a.Bytes bytes) h = h

mutual
  read-datum : (n : ℕ) (d : PlainDatum) → IsReadable n d → ReadableDatum d
  read-datum n (atom s x) h = read-atom n x h
  read-datum n (symbol s x) h = h
  read-datum zero (pair s d e) h = elim h [ ]
  read-datum (suc n) (pair s d e) h = (read-datum n d h.0, read-rest n e h.1)
  read-datum zero (vector s d) h = elim h [ ]
  read-datum (suc n) (vector s d) h = read-elements n d h

  read-rest : (n : ℕ) (d : PlainDatum) → IsRest n d → ReadableDatum d
  read-rest n (atom s x) h = read-atom 1 x h
  read-rest n (symbol s x) h = h
  read-rest n (pair s d e) h = (read-datum n d h.0, read-rest n e h.1)
  read-rest zero (vector s d) h = elim h [ ]
  read-rest (suc n) (vector s d) h = read-elements n d h

  read-elements : (n : ℕ) (d : PlainDatum) → AreElements n d → ReadableDatum d × IsProperDatum d
  read-elements n (atom s a.Nil) h = (tt, tt)
  read-elements n (atom s (a.Bool b)) h = elim h [ ]
  read-elements n (atom s (a.Int z)) h = elim h [ ]
  read-elements n (atom s (a.Spelt text)) h = elim h [ ]
  read-elements n (atom s (a.Char c)) h = elim h [ ]
  read-elements n (atom s (a.Str text)) h = elim h [ ]
  read-elements n (atom s (a.Bytes bytes)) h = elim h [ ]
  read-elements n (symbol s x) h = elim h [ ]
  read-elements n (pair s d e) h = let p = read-elements n e h.1 in ((read-datum n d h.0, p.0), p.1)
  read-elements n (vector s d) h = elim h [ ]

abbrev pub Ds : List PlainDatum → Type 0
Ds ds = Each ReadableDatum ds

all-data : (n : ℕ) (ds : List PlainDatum) → All (IsReadable n) ds → Ds ds
all-data n [] h = tt
all-data n (d ∷ ds) h = (read-datum n d (All-head (IsReadable n) d ds h), all-data n ds (All-tail (IsReadable n) d ds h))

-- all that a file has
read-data : (file bytes : List ℕ) (nesting : ℕ) (ds : List PlainDatum) → data_of file bytes nesting ≡ Ok ds → Ds ds
read-data file bytes nesting ds e = all-data nesting ds (read_readable file bytes nesting ds e)

pub text-data : (file text : List ℕ) → OkHolds Ds (data_of file text file_nesting)
text-data file text = by (data_of file text file_nesting) refl
  where
    by : (r : Result (List PlainDatum) Fault) → data_of file text file_nesting ≡ r → OkHolds Ds r
    by (Ok ds) e = read-data file text file_nesting ds e
    by (Err f) e = tt

-- The body of a library or a program.

elements-hold : (d : PlainDatum) → ReadableDatum d → Ds (elements d)
elements-hold (atom s x) h = tt
elements-hold (symbol s x) h = tt
elements-hold (pair s d e) h = (h.0, elements-hold e h.1)
elements-hold (vector s d) h = tt

proper-hold : (d : PlainDatum) → ReadableDatum d → OptionHolds Ds (proper_elements d)
proper-hold d h = by (is_nil (tail_of d))
  where
    by : (b : Bool) → OptionHolds Ds (if b then Some (elements d) else None)
    by true = elements-hold d h
    by false = tt

word-holds : (word : List ℕ) (ds : List PlainDatum) → Ds ds → OptionHolds Ds (behind_word word ds)
word-holds word [] h = tt
word-holds word (d ∷ ds) h = by (is_word word d)
  where
    by : (b : Bool) → OptionHolds Ds (if b then Some ds else None)
    by true = h.1
    by false = tt

form-holds : (word : List ℕ) (d : PlainDatum) → ReadableDatum d → OptionHolds Ds (form_of word d)
form-holds word d h = by (proper_elements d) (proper-hold d h)
  where
    by : (o : Option (List PlainDatum)) → OptionHolds Ds o → OptionHolds Ds (given o (behind_word word))
    by None k = tt
    by (Some ds) k = word-holds word ds k

pub library-body : (ds : List PlainDatum) → Ds ds → Ds (library_body ds)
library-body [] h = tt
library-body (d ∷ ds) h = by (form_of (codes "library") d) (form-holds (codes "library") d h.0)
  where
    by : (o : Option (List PlainDatum)) → OptionHolds Ds o → Ds (body_in o)
    by None k = tt
    by (Some es) k = each-dropped ReadableDatum 3 es k

pub program-body : (ds : List PlainDatum) → Ds ds → Ds (program_body ds)
program-body ds h = each-dropped ReadableDatum 1 ds h

-- Trees.

proper-tree : (d : PlainDatum) → IsProperDatum d → IsProper (tree_of blank d)
proper-tree (atom s x) h = h
proper-tree (symbol s x) h = h
proper-tree (pair s d e) h = proper-tree e h
proper-tree (vector s d) h = h

pub tree-holds : (d : PlainDatum) → ReadableDatum d → ReadableTree (tree_of blank d)
tree-holds (atom s x) h = h
tree-holds (symbol s x) h = h
tree-holds (pair s d e) h = (tree-holds d h.0, tree-holds e h.1)
tree-holds (vector s d) h = (tree-holds d h.0, proper-tree d h.1)

pub limited-holds : (d : PlainDatum) → ReadableDatum d → OkHolds ReadableTree (within (tree_of blank d))
limited-holds d h = within_holds (tree_of blank d) (tree-holds d h)

tree-at-holds : (place : Span) (d : PlainDatum) → ReadableDatum d → OkHolds ReadableTree (tree_at place d)
tree-at-holds place d h = by (within (tree_of blank d)) (limited-holds d h)
  where
    by : (r : Result Tree Bare) → OkHolds ReadableTree r → OkHolds ReadableTree (placed place d r)
    by (Ok t) k = k
    by (Err f) k = tt

pub trees-hold : (place : Span) (done : List Tree) (ds : List PlainDatum) → Each ReadableTree done → Ds ds → OkHolds (Each ReadableTree) (trees_at place done ds)
trees-hold place done [] h k = h
trees-hold place done (d ∷ ds) h k =
    then-holds ReadableTree (Each ReadableTree) (tree_at place d) (λ t. trees_at place (done ++ t ∷ []) ds) (tree-at-holds place d k.0) (λ t j. trees-hold place (done ++ t ∷ []) ds (each-and ReadableTree done t h j) k.1)
