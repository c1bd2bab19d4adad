-- The codecs of data and of syntax trees are lawful.
use Rattle.std.proofs.Common.{◌≡◌, ℕ, zero, suc, true, false, List, [], ◌∷◌, Option, Some, None, refl, ap, inl, inr}
use Rattle.base_data.specs.Datum as d
use Rattle.base_data.specs.Datum.{PlainDatum}
use Rattle.base_data.specs.declared.atom.Atom.TheVariants as a
use Rattle.base_data.specs.declared.span.Span.{Span}
use Rattle.base_bytes.specs.Codec.{Codec, checked, ◌then◌, optional, listed}
use Rattle.base_bytes.specs.Laws.{Lawful, never-lawful, checked-lawful, seen_as-lawful, then-lawful, text-lawful, tagged-lawful, or-lawful, last-lawful, listed-lawful, optional-lawful, both}
use Rattle.base_bytes.specs.NameLaws.{span-lawful, atom-lawful}
use Rattle.base_bytes.specs.Names.{span}
use Rattle.core_codec.specs.ContextLaws.{context-lawful}
use Rattle.core_codec.specs.Trees.{DatumCases, datum_to, datum_from, is_datum_rest, are_datum_elements, is_datum, is_datum_list, datum_node_codec, datum_level, datum, TreeCases, elements, tail_of, is_tail, tree_to, tree_from, is_rest, are_elements, is_tree, is_tree_list, tree_node_codec, tree_level, tree}
use Rattle.stx_tree.specs.Measures.{fits}
use Rattle.stx_tree.specs.Tree as t
use Rattle.stx_tree.specs.Tree.{Tree}

-- ---- data

tail_alone : (x : PlainDatum) → d.is_tail x ≡ true → (d.elements x ≡ []) × (d.tail_of x ≡ x) × (is_datum_rest x ≡ true)
tail_alone (d.atom s c) h = (refl, refl, h)
tail_alone (d.symbol s x) h = (refl, refl, refl)
tail_alone (d.pair s x e) h = absurd (cc)
tail_alone (d.vector s e) h = (refl, refl, refl)

pub chain_parts : (xs : List PlainDatum) (x : PlainDatum) → d.is_tail x ≡ true
    → (d.elements (d.chain xs x) ≡ xs) × (d.tail_of (d.chain xs x) ≡ x) × (is_datum_rest (d.chain xs x) ≡ true)
chain_parts [] x h = tail_alone x h
chain_parts (y ∷ ys) x h = let r = chain_parts ys x h in (ap (λ (zs : List PlainDatum). y ∷ zs) r.0, r.1, r.2)

pub vector_parts : (xs : List PlainDatum) → (d.elements (d.chain xs d.nil) ≡ xs) × (are_datum_elements (d.chain xs d.nil) ≡ true)
vector_parts [] = (refl, refl)
vector_parts (y ∷ ys) = let r = vector_parts ys in (ap (λ (zs : List PlainDatum). y ∷ zs) r.0, r.1)

rest_back : (e : PlainDatum) → is_datum_rest e ≡ true → d.chain (d.elements e) (d.tail_of e) ≡ e
rest_back (d.atom s c) h = refl
rest_back (d.symbol s x) h = refl
rest_back (d.pair None x e) h = ap (λ (y : PlainDatum). d.pair None x y) (rest_back e h)
rest_back (d.pair (Some s) x e) h = absurd (cc)
rest_back (d.vector s e) h = refl

vector_back : (e : PlainDatum) → are_datum_elements e ≡ true → d.chain (d.elements e) d.nil ≡ e
vector_back (d.atom None a.Nil) h = refl
vector_back (d.atom None (a.Bool b)) h = absurd (cc)
vector_back (d.atom None (a.Int b)) h = absurd (cc)
vector_back (d.atom None (a.Spelt b)) h = absurd (cc)
vector_back (d.atom None (a.Char b)) h = absurd (cc)
vector_back (d.atom None (a.Str b)) h = absurd (cc)
vector_back (d.atom None (a.Bytes b)) h = absurd (cc)
vector_back (d.atom (Some s) c) h = absurd (cc)
vector_back (d.symbol s x) h = absurd (cc)
vector_back (d.pair None x e) h = ap (λ (y : PlainDatum). d.pair None x y) (vector_back e h)
vector_back (d.pair (Some s) x e) h = absurd (cc)
vector_back (d.vector s e) h = absurd (cc)

module _ {part : Codec PlainDatum} (l : Lawful part) where
  abbrev datum_parts : Codec DatumCases
  datum_parts = optional span then datum_node_codec part

  datum_parts-lawful : Lawful datum_parts
  unfolding datum_node_codec
  datum_parts-lawful = then-lawful (optional-lawful span-lawful)
      (tagged-lawful (or-lawful atom-lawful (or-lawful text-lawful
      (or-lawful (checked-lawful is_datum_list (then-lawful (listed-lawful l) l)) (last-lawful (listed-lawful l))))))

  datum_test : (s : Option Span) (ys : List PlainDatum) (x : PlainDatum) → datum_parts.fits (s, inr (inr (inl (ys, x)))) ≡ true → is_datum_list (ys, x) ≡ true
  unfolding datum_node_codec
  datum_test s ys x h = (both ((listed part then part).fits (ys, x)) (is_datum_list (ys, x))
      (both ((optional span).fits s) ((checked is_datum_list (listed part then part)).fits (ys, x)) h).1).1

  datum_there : (c : DatumCases) → datum_parts.fits c ≡ true → (datum_to (datum_from c) ≡ c) × (is_datum (datum_from c) ≡ true)
  datum_there (s, inl c) h = (refl, refl)
  datum_there (s, inr (inl x)) h = (refl, refl)
  datum_there (s, inr (inr (inl ([], x)))) h = let none : false ≡ true = datum_test s [] x h in absurd (cc)
  datum_there (s, inr (inr (inl (y ∷ ys, x)))) h =
      let tail : d.is_tail x ≡ true = datum_test s (y ∷ ys) x h in
      let r = chain_parts ys x tail in
      (λ i. (s, inr (inr (inl (y ∷ r.0 i, r.1 i)))), r.2)
  datum_there (s, inr (inr (inr xs))) h = let r = vector_parts xs in (λ i. (s, inr (inr (inr (r.0 i)))), r.1)

  datum_back : (x : PlainDatum) → is_datum x ≡ true → datum_from (datum_to x) ≡ x
  datum_back (d.atom s c) h = refl
  datum_back (d.symbol s x) h = refl
  datum_back (d.pair s x e) h = ap (λ (y : PlainDatum). d.pair s x y) (rest_back e h)
  datum_back (d.vector s e) h = ap (λ (y : PlainDatum). d.vector s y) (vector_back e h)

  pub datum_level-lawful : Lawful (datum_level part)
  unfolding datum_level
  datum_level-lawful = seen_as-lawful datum_to datum_from is_datum datum_there datum_back datum_parts-lawful

pub datum-lawful : (room : ℕ) → Lawful (datum room)
unfolding datum
datum-lawful zero = never-lawful
datum-lawful (suc room) = datum_level-lawful (datum-lawful room)

-- ---- trees

pub tree_tail_alone : (x : Tree) → is_tail x ≡ true → (elements x ≡ []) × (tail_of x ≡ x) × (is_rest x ≡ true)
tree_tail_alone (t.atom s c) h = (refl, refl, h)
tree_tail_alone (t.leaf s x c) h = (refl, refl, refl)
tree_tail_alone (t.pair s x e) h = absurd (cc)
tree_tail_alone (t.vector s e) h = (refl, refl, refl)

pub tree_chain_parts : (xs : List Tree) (x : Tree) → is_tail x ≡ true
    → (elements (t.chain xs x) ≡ xs) × (tail_of (t.chain xs x) ≡ x) × (is_rest (t.chain xs x) ≡ true)
tree_chain_parts [] x h = tree_tail_alone x h
tree_chain_parts (y ∷ ys) x h = let r = tree_chain_parts ys x h in (ap (λ (zs : List Tree). y ∷ zs) r.0, r.1, r.2)

pub tree_vector_parts : (xs : List Tree) → (elements (t.chain xs t.nil) ≡ xs) × (are_elements (t.chain xs t.nil) ≡ true)
tree_vector_parts [] = (refl, refl)
tree_vector_parts (y ∷ ys) = let r = tree_vector_parts ys in (ap (λ (zs : List Tree). y ∷ zs) r.0, r.1)

tree_rest_back : (e : Tree) → is_rest e ≡ true → t.chain (elements e) (tail_of e) ≡ e
tree_rest_back (t.atom s c) h = refl
tree_rest_back (t.leaf s x c) h = refl
tree_rest_back (t.pair None x e) h = ap (λ (y : Tree). t.pair None x y) (tree_rest_back e h)
tree_rest_back (t.pair (Some s) x e) h = absurd (cc)
tree_rest_back (t.vector s e) h = refl

tree_vector_back : (e : Tree) → are_elements e ≡ true → t.chain (elements e) t.nil ≡ e
tree_vector_back (t.atom None a.Nil) h = refl
tree_vector_back (t.atom None (a.Bool b)) h = absurd (cc)
tree_vector_back (t.atom None (a.Int b)) h = absurd (cc)
tree_vector_back (t.atom None (a.Spelt b)) h = absurd (cc)
tree_vector_back (t.atom None (a.Char b)) h = absurd (cc)
tree_vector_back (t.atom None (a.Str b)) h = absurd (cc)
tree_vector_back (t.atom None (a.Bytes b)) h = absurd (cc)
tree_vector_back (t.atom (Some s) c) h = absurd (cc)
tree_vector_back (t.leaf s x c) h = absurd (cc)
tree_vector_back (t.pair None x e) h = ap (λ (y : Tree). t.pair None x y) (tree_vector_back e h)
tree_vector_back (t.pair (Some s) x e) h = absurd (cc)
tree_vector_back (t.vector s e) h = absurd (cc)

module _ {part : Codec Tree} (l : Lawful part) where
  abbrev tree_parts : Codec TreeCases
  tree_parts = optional span then tree_node_codec part

  tree_parts-lawful : Lawful tree_parts
  unfolding tree_node_codec
  tree_parts-lawful = then-lawful (optional-lawful span-lawful)
      (tagged-lawful (or-lawful atom-lawful (or-lawful (then-lawful text-lawful context-lawful)
      (or-lawful (checked-lawful is_tree_list (then-lawful (listed-lawful l) l)) (last-lawful (listed-lawful l))))))

  tree_test : (s : Option Span) (ys : List Tree) (x : Tree) → tree_parts.fits (s, inr (inr (inl (ys, x)))) ≡ true → is_tree_list (ys, x) ≡ true
  unfolding tree_node_codec
  tree_test s ys x h = (both ((listed part then part).fits (ys, x)) (is_tree_list (ys, x))
      (both ((optional span).fits s) ((checked is_tree_list (listed part then part)).fits (ys, x)) h).1).1

  tree_there : (c : TreeCases) → tree_parts.fits c ≡ true → (tree_to (tree_from c) ≡ c) × (is_tree (tree_from c) ≡ true)
  tree_there (s, inl c) h = (refl, refl)
  tree_there (s, inr (inl (x, c))) h = (refl, refl)
  tree_there (s, inr (inr (inl ([], x)))) h = let none : false ≡ true = tree_test s [] x h in absurd (cc)
  tree_there (s, inr (inr (inl (y ∷ ys, x)))) h =
      let tail : is_tail x ≡ true = tree_test s (y ∷ ys) x h in
      let r = tree_chain_parts ys x tail in
      (λ i. (s, inr (inr (inl (y ∷ r.0 i, r.1 i)))), r.2)
  tree_there (s, inr (inr (inr xs))) h = let r = tree_vector_parts xs in (λ i. (s, inr (inr (inr (r.0 i)))), r.1)

  tree_back : (x : Tree) → is_tree x ≡ true → tree_from (tree_to x) ≡ x
  tree_back (t.atom s c) h = refl
  tree_back (t.leaf s x c) h = refl
  tree_back (t.pair s x e) h = ap (λ (y : Tree). t.pair s x y) (tree_rest_back e h)
  tree_back (t.vector s e) h = ap (λ (y : Tree). t.vector s y) (tree_vector_back e h)

  pub tree_level-lawful : Lawful (tree_level part)
  unfolding tree_level
  tree_level-lawful = checked-lawful fits (seen_as-lawful tree_to tree_from is_tree tree_there tree_back tree_parts-lawful)

pub tree-lawful : (room : ℕ) → Lawful (tree room)
unfolding tree
tree-lawful zero = never-lawful
tree-lawful (suc room) = tree_level-lawful (tree-lawful room)
