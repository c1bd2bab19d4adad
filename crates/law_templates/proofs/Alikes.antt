-- Values that are the same data stay so as cells are added.
use Rattle.std.proofs.Common.{◌≡◌, ℕ, zero, suc, List, [], ◌∷◌, ◌++◌, take, length, slice_get, Option, Some, None, refl, ap, sym, ◌∙◌}
use Rattle.base_data.specs.declared.atom.Atom.{Atom}
use Rattle.base_data.specs.declared.atom.Atom.TheVariants.{Str}
use Rattle.std.specs.Prelude.{option_map}
use Rattle.base_region.proofs.Laws.{slice_get-added}
use Rattle.stx_frames.specs.Scope.{Scope}
use Rattle.eval_value.specs.Cells.{pair_in, vector_in, string_in}
use Rattle.eval_value.specs.FromDatum.{Keeps, pairs_stored, vector_stored}
use Rattle.eval_value.specs.declared.cell.Cell.{Cell}
use Rattle.eval_value.specs.declared.cell.Cell.TheVariants as cell
use Rattle.eval_value.specs.declared.value.Value.{Value}
use Rattle.eval_value.specs.declared.value.Value.TheVariants as value
use Rattle.eval_value.proofs.Stored.{keeps_refl, keeps_added}
use Rattle.eval_pattern.specs.Values.{atom_of, vector_of}
use Rattle.law_matches.specs.Matches.{pair_of, Begins, here, next}
use Rattle.law_templates.specs.Repeating.{Alike, itself, same_leaf, same_atom, same_pair, same_vector, AreAlike, all_alike, next_alike}

pub take_get : (m : ℕ) (cells : List Cell) (n : ℕ) (c : Cell) → slice_get (take m cells) n ≡ Some c → slice_get cells n ≡ Some c
take_get zero cells n c h = absurd (let f : ⊥ = cc in f)
take_get (suc m) [] n c h = absurd (let f : ⊥ = cc in f)
take_get (suc m) (x ∷ cells) zero c h = h
take_get (suc m) (x ∷ cells) (suc n) c h = take_get m cells n c h

module _ (a b : List Cell) (k : Keeps a b) where
  cell_kept : (n : ℕ) (c : Cell) → slice_get a n ≡ Some c → slice_get b n ≡ Some c
  cell_kept n c h = take_get (length a) b n c (ap (λ cells. slice_get cells n) k ∙ h)

  look_kept : {A : Type 0} (look : Option Cell → Option A) (y : A) (n : ℕ) → look None ≡ None → look (slice_get a n) ≡ Some y → look (slice_get b n) ≡ Some y
  look_kept {A} look y n empty e = go (slice_get a n) refl e
    where
      go : (o : Option Cell) → slice_get a n ≡ o → look o ≡ Some y → look (slice_get b n) ≡ Some y
      go None f g = absurd (let h : None ≡ Some y = sym empty ∙ g in let x : ⊥ = cc in x)
      go (Some c) f g = ap look (cell_kept n c f) ∙ g

  pair_kept : (v x d : Value) → pair_of a v ≡ Some (x, d) → pair_of b v ≡ Some (x, d)
  pair_kept (value.Syn t) x d e = e
  pair_kept value.Unspecified x d e = e
  pair_kept (value.Atom s) x d e = e
  pair_kept (value.Symbol s) x d e = e
  pair_kept (value.Pair p) x d e = look_kept pair_in (x, d) p.0 refl e
  pair_kept (value.Vector p) x d e = e
  pair_kept (value.Str p) x d e = e
  pair_kept (value.Closure c p) x d e = e
  pair_kept (value.Prim o) x d e = e
  pair_kept (value.Transformer p) x d e = e

  vector_kept : (v : Value) (xs : List Value) → vector_of a v ≡ Some xs → vector_of b v ≡ Some xs
  vector_kept (value.Syn t) xs e = e
  vector_kept value.Unspecified xs e = e
  vector_kept (value.Atom s) xs e = e
  vector_kept (value.Symbol s) xs e = e
  vector_kept (value.Pair p) xs e = e
  vector_kept (value.Vector p) xs e = look_kept vector_in xs p.0 refl e
  vector_kept (value.Str p) xs e = e
  vector_kept (value.Closure c p) xs e = e
  vector_kept (value.Prim o) xs e = e
  vector_kept (value.Transformer p) xs e = e

  atom_kept : (v : Value) (s : Atom) → atom_of a v ≡ Some s → atom_of b v ≡ Some s
  atom_kept (value.Syn t) s e = e
  atom_kept value.Unspecified s e = e
  atom_kept (value.Atom x) s e = e
  atom_kept (value.Symbol x) s e = e
  atom_kept (value.Pair p) s e = e
  atom_kept (value.Vector p) s e = e
  atom_kept (value.Str p) s e = look_kept (λ o. option_map Str (string_in o)) s p.0 refl e
  atom_kept (value.Closure c p) s e = e
  atom_kept (value.Prim o) s e = e
  atom_kept (value.Transformer p) s e = e

  module _ (fs : Scope) (old : List Cell) where
    mutual
      pub alike_kept : {v w : Value} → Alike fs old a v w → Alike fs old b v w
      alike_kept itself = itself
      alike_kept (same_leaf e) = same_leaf e
      alike_kept (same_atom {a = s} {w = w} e f) = same_atom e (atom_kept w s f)
      alike_kept (same_pair {w = w} {y = y} {e = d} e f h i) = same_pair e (pair_kept w y d f) (alike_kept h) (alike_kept i)
      alike_kept (same_vector {w = w} {ys = ys} e f h) = same_vector e (vector_kept w ys f) (all_kept h)

      pub all_kept : {xs ys : List Value} → AreAlike fs old a xs ys → AreAlike fs old b xs ys
      all_kept all_alike = all_alike
      all_kept (next_alike h i) = next_alike (alike_kept h) (all_kept i)

pub alike_then : {fs : Scope} {old new : List Cell} {xs zs ys ws : List Value} → AreAlike fs old new xs ys → AreAlike fs old new zs ws → AreAlike fs old new (xs ++ zs) (ys ++ ws)
alike_then all_alike k = k
alike_then (next_alike h i) k = next_alike h (alike_then i k)

module _ (fs : Scope) (old cells : List Cell) where
  pub record PairsAlike (v : Value) (p : Value × List Cell) : Type 0 where
    pub kept : Keeps cells p.1
    pub alike : Alike fs old p.1 v p.0

  -- pairs before what is the same data as the rest
  pub pairs_alike : {xs : List Value} {r v : Value} (ys : List Value) (w : Value) → Begins old xs r v → AreAlike fs old cells xs ys → Alike fs old cells r w → PairsAlike v (pairs_stored ys (w, cells))
  pairs_alike ys w here all_alike h = record { kept = keeps_refl cells; alike = h }
  pairs_alike ys w (next {v = v} e b) (next_alike {y = y} {ys = zs} x rest) h =
      let p = pairs_stored zs (w, cells) in
      let c = cell.Pair y p.0 in
      let ih = pairs_alike zs w b rest h in
      let more = keeps_added p.1 p.1 c (keeps_refl p.1) in
      let all = keeps_added cells p.1 c ih.kept in
      record {
        kept = all;
        alike = same_pair e (ap pair_in (slice_get-added p.1 c)) (alike_kept cells (p.1 ++ c ∷ []) all fs old x) (alike_kept p.1 (p.1 ++ c ∷ []) more fs old ih.alike);
      }

  pub vector_alike : (v : Value) (xs ys : List Value) → vector_of old v ≡ Some xs → AreAlike fs old cells xs ys → PairsAlike v (vector_stored (ys, cells))
  vector_alike v xs ys e h =
      let c = cell.Vector ys in
      let all = keeps_added cells cells c (keeps_refl cells) in
      record { kept = all; alike = same_vector e (ap vector_in (slice_get-added cells c)) (all_kept cells (cells ++ c ∷ []) all fs old h) }
