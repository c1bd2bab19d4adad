-- Strings by their characters.
use Rattle.std.proofs.Common.{◌≡◌, ℕ, ◌+◌, ◌-◌, ◌<◌, ◌≤◌, true, List, [], ◌∷◌, ◌++◌, length, take, drop, map, slice_get, None, Some, refl, sym, ap, ◌∙◌, arith, append_assoc, pos, chars, encode_utf8_all, encode_utf8}
use Rattle.std.specs.Prelude.{if◌then◌else◌}
use Rattle.std.specs.Str.{all_scalars}
use Rattle.std.proofs.lemmas.Bool.{lt-ltb}
use Rattle.std.proofs.lemmas.List.{append-nil}
use Rattle.std.proofs.lemmas.Option.{slice_get_within}
use Rattle.std.proofs.lemmas.Str.{chars-encodes}
use Rattle.base_data.specs.declared.atom.Atom.TheVariants as a
use Rattle.base_data.specs.Named.{Named}
use Rattle.base_data.specs.declared.op.names.TheConstants as names
use Rattle.base_region.proofs.Laws.{slice_get-added}
use Rattle.eval_value.specs.Cells.{string_in}
use Rattle.eval_value.specs.declared.cell.Cell.{Cell}
use Rattle.eval_value.specs.declared.cell.Cell.TheVariants as cell
use Rattle.eval_value.specs.declared.value.Value.{Value}
use Rattle.eval_value.specs.declared.value.Value.TheVariants as value
use Rattle.eval_prims.specs.declared.made.PrimResult.TheVariants as made
use Rattle.eval_prims.specs.Each.{if_some, all_of}
use Rattle.eval_prims.specs.Strings.{string_of, natural, char_value, char_given, index_below, char_at, part_made, listed, unpacked_made, text_made, joined, between, cut, string_made}
use Rattle.eval_prims.specs.Perform.{performed}
use Rattle.law_lists.specs.Texts.{IsString, spelt, AreStrings, no_strings, one_string, all_chars}

-- the characters of what is written in UTF-8 one text after another
encoded_both : (cs ds : List ℕ) → encode_utf8_all (cs ++ ds) ≡ encode_utf8_all cs ++ encode_utf8_all ds
encoded_both [] ds = refl
encoded_both (c ∷ cs) ds = ap (λ s. encode_utf8 c ++ s) (encoded_both cs ds) ∙ sym (append_assoc (encode_utf8 c) (encode_utf8_all cs) (encode_utf8_all ds))

index_is : (n k : ℕ) → k < n → index_below n (value.Atom (a.Int (pos k))) ≡ Some k
index_is n k l = ap (λ t. if t then Some k else None) (lt-ltb k n l)

module _ (cells : List Cell) where
  text_of : {cs : List ℕ} {x : Value} → IsString cells cs x → string_of cells x ≡ Some (encode_utf8_all cs)
  text_of (spelt s e) = e

  chars_of : {cs : List ℕ} {x : Value} → IsString cells cs x → chars (encode_utf8_all cs) ≡ cs
  chars_of (spelt {cs = cs} s e) = chars-encodes cs s

  pub string_length : {cs : List ℕ} {x : Value} → IsString cells cs x → part_made names.STRING_LENGTH (x ∷ []) cells ≡ natural (length cs)
  unfolding part_made
  string_length r = ap (λ o. if_some o (λ s. natural (length (chars s)))) (text_of r) ∙ ap (λ cs. natural (length cs)) (chars_of r)

  pub string_ref : {cs : List ℕ} {x : Value} (k c : ℕ) → IsString cells cs x → slice_get cs k ≡ Some c → part_made names.STRING_REF (x ∷ value.Atom (a.Int (pos k)) ∷ []) cells ≡ Some (made.Value (char_value c))
  unfolding part_made
  string_ref {cs = cs} k c r e =
      ap (λ o. if_some o (λ s. char_at (chars s) (value.Atom (a.Int (pos k))))) (text_of r) ∙ ap (λ ds. char_at ds (value.Atom (a.Int (pos k)))) (chars_of r)
      ∙ ap (λ o. if_some o (λ i. char_given (slice_get cs i))) (index_is (length cs) k (slice_get_within cs k c e)) ∙ ap char_given e

  texts_of : (done : List (List ℕ)) {css : List (List ℕ)} {args : List Value} → AreStrings cells css args → all_of (string_of cells) done args ≡ Some (done ++ map encode_utf8_all css)
  unfolding all_of
  texts_of done no_strings = ap Some (sym (append-nil done))
  texts_of done (one_string {cs = cs} {css = css} {rest = rest} r rs) =
      ap (λ o. if_some o (λ y. all_of (string_of cells) (done ++ y ∷ []) rest)) (text_of r) ∙ texts_of (done ++ encode_utf8_all cs ∷ []) rs
      ∙ ap Some (append_assoc done (encode_utf8_all cs ∷ []) (map encode_utf8_all css))

  joined_is : (done : List ℕ) (css : List (List ℕ)) → joined done (map encode_utf8_all css) ≡ done ++ encode_utf8_all (all_chars css)
  unfolding joined
  joined_is done [] = sym (append-nil done)
  joined_is done (cs ∷ css) =
      joined_is (done ++ encode_utf8_all cs) css ∙ append_assoc done (encode_utf8_all cs) (encode_utf8_all (all_chars css))
      ∙ ap (λ s. done ++ s) (sym (encoded_both cs (all_chars css)))

  pub strings_appended : {css : List (List ℕ)} {args : List Value} → AreStrings cells css args → string_made names.STRING_APPEND args cells ≡ Some (made.Text (encode_utf8_all (all_chars css)))
  unfolding string_made
  strings_appended {css = css} r = ap (λ o. if_some o (λ ss. text_made (joined [] ss))) (texts_of [] r) ∙ ap text_made (joined_is [] css)

  pub substring_is : {cs : List ℕ} {x : Value} (start end : ℕ) → IsString cells cs x → start ≤ end → end ≤ length cs
      → string_made names.SUBSTRING (x ∷ value.Atom (a.Int (pos start)) ∷ value.Atom (a.Int (pos end)) ∷ []) cells ≡ Some (made.Text (encode_utf8_all (take (end - start) (drop start cs))))
  unfolding string_made
  substring_is {cs = cs} start end r low high =
      ap (λ o. if_some o (λ s. if_some (cut (chars s) (value.Atom (a.Int (pos start))) (value.Atom (a.Int (pos end)))) text_made)) (text_of r)
      ∙ ap (λ ds. if_some (cut ds (value.Atom (a.Int (pos start))) (value.Atom (a.Int (pos end)))) text_made) (chars_of r)
      ∙ ap (λ o. if_some (if_some o (λ e. if_some (index_below (e + 1) (value.Atom (a.Int (pos start)))) (λ b. Some (between cs b e)))) text_made) (index_is (length cs + 1) end (omega (arith, high)))
      ∙ ap (λ o. if_some (if_some o (λ b. Some (between cs b end))) text_made) (index_is (end + 1) start (omega (arith, low)))

  pub string_listed : {cs : List ℕ} {x : Value} → IsString cells cs x → unpacked_made names.STRING_TO_LIST (x ∷ []) cells ≡ Some (made.List (map char_value cs) (value.Atom a.Nil))
  unfolding unpacked_made
  string_listed r = ap (λ o. listed (if_some o (λ s. Some (map char_value (chars s))))) (text_of r) ∙ ap (λ cs. Some (made.List (map char_value cs) (value.Atom a.Nil))) (chars_of r)

  pub text_stored : (cs : List ℕ) (name : Named) → all_scalars cs ≡ true → IsString (performed (made.Text (encode_utf8_all cs)) name cells).1 cs (performed (made.Text (encode_utf8_all cs)) name cells).0
  text_stored cs name s = spelt s (ap string_in (slice_get-added cells (cell.Str (encode_utf8_all cs))))
