-- What evaluation makes can be read where what it is made of can.
use Rattle.std.proofs.Common.{◌≡◌, refl, arith, ◌||◌, ◌&&◌, ℕ, zero, suc, ℤ, pos, negsuc, List, [], None, Some, Bool, true, false, Result, Ok, nat_le, subst}
use Rattle.std.specs.Char.{IsScalar}
use Rattle.std.specs.Prelude.{codes, cond, nat_lt}
use Rattle.std.specs.Str.{IsAscii}
use Rattle.std.proofs.lemmas.Bool.{ltb-true}
use Rattle.std.proofs.lemmas.Str.{IsUtf8-nil, IsUtf8-from_ascii}
use Rattle.base_data.specs.Datum as datum
use Rattle.base_data.specs.Datum.{PlainDatum}
use Rattle.base_data.specs.declared.fault.Bare.{Bare}
use Rattle.stx_tree.specs.Changes.{changed}
use Rattle.stx_tree.specs.Leaves.{strip}
use Rattle.stx_tree.specs.Measures.{within}
use Rattle.stx_tree.specs.Tree.{Tree, atom, leaf, pair, vector, rest_of, list_of, vector_of}
use Rattle.stx_tree.specs.declared.change.Change.{Change}
use Rattle.eval_prims.specs.Characters as characters
use Rattle.eval_prims.specs.Numbers as numbers
use Rattle.law_round.specs.Readable.{Fits, IsName}
use Rattle.law_round.proofs.Chars.{scalar_small}
use Rattle.law_fresh.proofs.Trees.{OkHolds}
use Rattle.law_invariants.specs.Closed.{IsClosed}
use Rattle.law_invariants.specs.Invariant.{DatumHolds}
use Rattle.law_invariants.specs.Steady.{IsSteady}
use Rattle.law_readable.specs.Readable.{ReadableDatum, ReadableTree, IsProper, readable}
use Rattle.law_readable.proofs.Texts.{chars_scalar, encoded_text, joined_text, signed_text, spelt_text}
use Rattle.law_readable.proofs.Trees.{rest_holds, list_of_holds, vector_of_holds, within_holds, strip_holds}

-- what is tested of a character is that it is a scalar value
same_scalar : (n : ℕ) → characters.is_scalar n ≡ true → IsScalar n
same_scalar n e = by (nat_lt n 55296) (nat_le 57344 n && nat_lt n 1114112) e
  where
    by : (b c : Bool) → (b || c) ≡ true → cond b true c ≡ true
    by true c h = refl
    by false c h = h

-- what is tested of an integer is that it has at most 128 bits
same_small : (z : ℤ) → numbers.is_small z ≡ true → Fits z
same_small (pos n) e = omega (arith, ltb-true, e)
same_small (negsuc n) e = omega (arith, ltb-true, e)

-- as a scalar value has
scalar_fits : (c : ℕ) → IsScalar c → Fits (pos c)
scalar_fits c h = let few = scalar_small c h in omega (arith, few)

-- the symbol of temporaries
temp_name : IsName (codes "temp")
temp_name = (IsUtf8-from_ascii (codes "temp") ascii, omega arith)
  where
    ascii : IsAscii (codes "temp")
    ascii zero = omega arith
    ascii (suc zero) = omega arith
    ascii (suc (suc zero)) = omega arith
    ascii (suc (suc (suc zero))) = omega arith
    ascii (suc (suc (suc (suc i)))) = omega arith

-- Trees that are made within the limits of a tree, and their data.

made : (t u : Tree) → ReadableTree t → within t ≡ Ok u → ReadableTree u
made t u h e = subst (λ (r : Result Tree Bare). OkHolds ReadableTree r) e (within_holds t h)

parts : (d : PlainDatum) → ReadableDatum d → DatumHolds readable d
parts (datum.atom s x) h = h
parts (datum.symbol s x) h = h
parts (datum.pair s d e) h = (parts d h.0, parts e h.1)
parts (datum.vector s d) h = parts d h.0

pub readable-closed : IsClosed readable
readable-closed = record {
  nil = tt;
  booleans = λ b. tt;
  integers = same_small;
  characters = same_scalar;
  scalar_values = scalar_fits;
  strings = λ s h. h;
  contents = λ s h. h;
  spellings = λ s h. h.0;
  interned = λ b s h. (h, omega arith);
  unpacked = chars_scalar;
  packed = encoded_text;
  appended = λ ss h. joined_text [] ss IsUtf8-nil h;
  decimals = signed_text;
  numerals = spelt_text;
  atom = λ x h. h;
  renamed = λ s x y c h k. k;
  pair = λ t u w h k e. made (pair None t (rest_of u)) w (h, rest_holds u k) e;
  list = λ ts t w h k e. made (list_of ts (Some t)) w (list_of_holds ts (Some t) h k) e;
  vector = λ ts w h e. made (vector_of ts) w (vector_of_holds ts h) e;
  first = λ s t u h. h.0;
  rest = λ s t u h. h.1;
  elements = λ s t h. h.0;
  stripped = λ t h. parts (strip t) (strip_holds t h);
  constants = parts;
}

-- Trees that are entered and left.

changed-proper : (xs : List Change) (t : Tree) → IsProper t → IsProper (changed xs t)
changed-proper xs (atom s a) h = h
changed-proper xs (leaf s y c) h = h
changed-proper xs (pair s a d) h = changed-proper xs d h
changed-proper xs (vector s d) h = h

pub changed-holds : (xs : List Change) (t : Tree) → ReadableTree t → ReadableTree (changed xs t)
changed-holds xs (atom s a) h = h
changed-holds xs (leaf s y c) h = h
changed-holds xs (pair s a d) h = (changed-holds xs a h.0, changed-holds xs d h.1)
changed-holds xs (vector s d) h = (changed-holds xs d h.0, changed-proper xs d h.1)

pub readable-steady : IsSteady readable
readable-steady = record { closed = readable-closed; temporaries = λ n. temp_name; changed = changed-holds; code = λ p A h. h; clauses = λ p A B f h. f h; template = λ x A h. h; templates = λ x A B f h. f h }
