-- Temporaries have marks that nothing has that was there before, each its own.
use Rattle.std.proofs.Common.{◌≡◌, ℕ, zero, suc, ◌+◌, ◌<◌, ◌&&◌, Bool, true, false, List, [], ◌∷◌, length, Option, Some, refl, sym, ap, subst, ◌∙◌, slice_get, arith}
use Rattle.std.specs.Prelude.{◌≢◌, nat_eq}
use Rattle.std.specs.Cmp.Lexicographic.{pointwise}
use Rattle.base_data.specs.Elements.{Each}
use Rattle.base_data.specs.Named.{Named}
use Rattle.base_data.specs.declared.name.Mark.{Mark}
use Rattle.base_data.specs.declared.span.Span.{Span}
use Rattle.stx_tree.specs.Tree.{Tree, spanned}
use Rattle.stx_tree.specs.Tree as tree
use Rattle.stx_tree.specs.Leaves.{marks_of}
use Rattle.stx_tree.specs.SameMarks.{same_marks, same_marks_decides}
use Rattle.stx_scope.specs.Stands.{symbol_of}
use Rattle.stx_scope.specs.Same.{same_binder}
use Rattle.eval_value.specs.Cells.{WholeCells}
use Rattle.eval_value.specs.declared.cell.Cell.{Cell}
use Rattle.eval_value.specs.declared.value.Value.{Value}
use Rattle.eval_value.specs.declared.value.Value.TheVariants as value
use Rattle.eval_prims.specs.Perform.{name_after, temporary, temporaries}
use Rattle.eval_prims.proofs.Temporaries.{name_after_add, name_after_zero}
use Rattle.eval_prims.specs.declared.made.PrimResult.TheVariants as made
use Rattle.eval_prims.specs.Chains.{Chain, chain_to, chain}
use Rattle.eval_prims.specs.Each.{if_some}
use Rattle.eval_prims.specs.Syntax.{elements_from, elements_with, temporaries_made}
use Rattle.eval_prims.specs.Perform.{performed}
use Rattle.law_lists.specs.Older.{IsBefore, IsOlder}
use Rattle.law_lists.specs.Runs.{IsList}
use Rattle.law_lists.proofs.RunLemmas.{run_chain, stored_runs}

mark : Named → Mark
mark name = record { 0 = name }

and_false : (a b : Bool) → b ≡ false → (a && b) ≡ false
and_false true b h = h
and_false false b h = refl

not_so : (b : Bool) → (b ≡ true → ⊥) → b ≡ false
not_so true h = absurd (h refl)
not_so false h = refl

-- other marks, another binder
apart_by_marks : (t u : Tree) → (marks_of t ≡ marks_of u → ⊥) → same_binder t u ≡ false
apart_by_marks t u h =
    and_false (pointwise nat_eq (symbol_of t) (symbol_of u)) (same_marks (marks_of t) (marks_of u))
    (not_so (same_marks (marks_of t) (marks_of u)) (λ e. h ((same_marks_decides (marks_of t) (marks_of u)).0 e)))

pub as_many : (n : ℕ) (name : Named) → length (temporaries n name) ≡ n
as_many zero name = refl
as_many (suc n) name = ap suc (as_many n (name_after 1 name))

next_after : (i : ℕ) (name : Named) → name_after i (name_after 1 name) ≡ name_after (suc i) name
next_after i name = name_after_add 1 i name ∙ ap (λ k. name_after k name) (let e : 1 + i ≡ suc i = omega arith in e)

-- the one at a place
pub temporary_at : (n : ℕ) (name : Named) (i : ℕ) (x : Value) → slice_get (temporaries n name) i ≡ Some x → (x ≡ value.Syn (temporary (name_after i name))) × (i < n)
temporary_at zero name i x h = absurd (cc)
temporary_at (suc n) name zero x h =
    let same : value.Syn (temporary name) ≡ x = cc in
    (sym same ∙ ap (λ m. value.Syn (temporary m)) (sym (name_after_zero name)), omega arith)
temporary_at (suc n) name (suc i) x h =
    let r = temporary_at n (name_after 1 name) i x h in
    let l = r.1 in
    (r.0 ∙ ap (λ m. value.Syn (temporary m)) (next_after i name), omega (arith, l))

tree_is : (n : ℕ) (name : Named) (i : ℕ) (t : Tree) → slice_get (temporaries n name) i ≡ Some (value.Syn t) → t ≡ temporary (name_after i name)
tree_is n name i t h = let e = (temporary_at n name i (value.Syn t) h).0 in cc

marks_at : (n : ℕ) (name : Named) (i : ℕ) (t : Tree) → slice_get (temporaries n name) i ≡ Some (value.Syn t) → marks_of t ≡ mark (name_after i name) ∷ []
unfolding mark
marks_at n name i t h = ap marks_of (tree_is n name i t h)

first_mark : (a b : Mark) → ◌≡◌ {A = List Mark} (a ∷ []) (b ∷ []) → a ≡ b
first_mark a b h = cc

-- no two have one binder
pub no_two : (n : ℕ) (name : Named) (i j : ℕ) (t u : Tree) → slice_get (temporaries n name) i ≡ Some (value.Syn t) → slice_get (temporaries n name) j ≡ Some (value.Syn u) → i ≢ j → same_binder t u ≡ false
unfolding mark
no_two n name i j t u h k apart =
    apart_by_marks t u (λ e.
    let same : mark (name_after i name) ≡ mark (name_after j name) = first_mark (mark (name_after i name)) (mark (name_after j name)) (sym (marks_at n name i t h) ∙ e ∙ marks_at n name j u k) in
    let number : name.number + i ≡ name.number + j = ap (λ (m : Mark). m.0.number) same in
    apart (omega (arith, number)))

-- and none has one with an older leaf
pub none_older : (n : ℕ) (name : Named) (i : ℕ) (t u : Tree) → slice_get (temporaries n name) i ≡ Some (value.Syn t) → IsOlder name u → same_binder t u ≡ false
unfolding mark
none_older n name i t u h older =
    apart_by_marks t u (λ e.
    let all : Each (IsBefore name) (mark (name_after i name) ∷ []) = subst (λ (ms : List Mark). Each (IsBefore name) ms) (sym e ∙ marks_at n name i t h) older in
    let below : name.number + i < name.number = all.0 refl in
    omega (arith, below))

-- all are older than those to come
pub older_than_later : (n : ℕ) (name : Named) (i : ℕ) (t : Tree) → slice_get (temporaries n name) i ≡ Some (value.Syn t) → IsOlder (name_after n name) t
unfolding mark
older_than_later n name i t h =
    let l = (temporary_at n name i (value.Syn t) h).1 in
    subst (λ (ms : List Mark). Each (IsBefore (name_after n name)) ms) (sym (marks_at n name i t h)) ((λ e. omega (arith, l)), tt)

-- ---- how many

pub counted : (cells : List Cell) → WholeCells cells → {xs : List Value} {x : Value} → IsList cells xs x → temporaries_made (x ∷ []) cells ≡ Some (made.Temporaries (length xs))
unfolding temporaries_made
counted cells w r = ap (λ (c : Chain). if_some (elements_with (length c.elements) c.end) (λ n. Some (made.Temporaries n))) (run_chain cells w r refl)

elements_of : (n : ℕ) (ts : List Tree) → elements_from n (tree.chain ts tree.nil) ≡ Some (n + length ts)
unfolding elements_from
elements_of n [] = ap Some (let e : n ≡ n + 0 = omega arith in e)
elements_of n (t ∷ ts) = elements_of (n + 1) ts ∙ ap Some (let e : n + 1 + length ts ≡ n + suc (length ts) = omega arith in e)

elements_at : (s : Option Span) (ts : List Tree) → elements_from 0 (spanned s (tree.chain ts tree.nil)) ≡ Some (length ts)
unfolding elements_from
elements_at s [] = refl
elements_at s (t ∷ ts) = elements_of 1 ts ∙ ap Some (let e : 1 + length ts ≡ suc (length ts) = omega arith in e)

alone : (n : ℕ) (cells : List Cell) (t : Tree) → chain_to n cells (value.Syn t) ≡ record { elements = []; end = value.Syn t }
unfolding chain_to
alone zero cells t = refl
alone (suc n) cells t = refl

pub counted_syntax : (cells : List Cell) (s : Option Span) (ts : List Tree) → temporaries_made (value.Syn (spanned s (tree.chain ts tree.nil)) ∷ []) cells ≡ Some (made.Temporaries (length ts))
unfolding temporaries_made chain
counted_syntax cells s ts =
    ap (λ (c : Chain). if_some (elements_with (length c.elements) c.end) (λ n. Some (made.Temporaries n))) (alone (length cells) cells (spanned s (tree.chain ts tree.nil)))
    ∙ ap (λ o. if_some o (λ n. Some (made.Temporaries n))) (elements_at s ts)

pub listed : (n : ℕ) (name : Named) (cells : List Cell) → IsList (performed (made.Temporaries n) name cells).1 (temporaries n name) (performed (made.Temporaries n) name cells).0
listed n name cells = stored_runs (temporaries n name) _ cells
