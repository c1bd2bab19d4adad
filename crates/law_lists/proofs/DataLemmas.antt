-- From data to syntax objects and back.
use Rattle.std.proofs.Common.{◌≡◌, ℕ, zero, suc, ◌&&◌, Bool, true, false, List, [], ◌∷◌, ◌++◌, length, slice_get, Option, None, Some, Result, Ok, Err, refl, sym, ap, subst, ◌∙◌, append_assoc}
use Rattle.std.specs.Prelude.{if◌then◌else◌}
use Rattle.std.specs.Cmp.{unsigned_Decides}
use Rattle.std.proofs.lemmas.List.{append-nil}
use Rattle.std.proofs.lemmas.Option.{slice_get_within}
use Rattle.base_data.specs.Gives.{◌>>=◌}
use Rattle.base_data.specs.Named.{Named}
use Rattle.base_data.specs.Same.{texts_decides}
use Rattle.base_data.specs.Datum.{PlainDatum}
use Rattle.base_data.specs.Datum as datum
use Rattle.base_data.specs.declared.atom.Atom.{Atom}
use Rattle.base_data.specs.declared.atom.Atom.TheVariants as a
use Rattle.base_data.specs.declared.fault.Bare.{Bare}
use Rattle.base_data.specs.declared.span.Span.{Span}
use Rattle.base_region.proofs.Laws.{slice_get-added, slice_get-released}
use Rattle.stx_tree.specs.Context.{LeafContext}
use Rattle.stx_tree.specs.Leaves.{tree_of, strip, context_of, datum_like}
use Rattle.stx_tree.specs.Measures.{fits, within, too_deep, max_height}
use Rattle.stx_tree.specs.Tree.{Tree, atom, leaf, pair, vector, is_list, rest_of, list_of, vector_of}
use Rattle.stx_tree.specs.Tree as tree
use Rattle.stx_tree.proofs.LeafLaws.{strip-tree_of}
use Rattle.eval_value.specs.Cells.{pair_in, vector_in, vector_at, string_in, string_at}
use Rattle.eval_value.specs.FromDatum.{Keeps, atom_stored, stored, elements_stored}
use Rattle.eval_value.proofs.Stored.{stored_keeps, elements_keep}
use Rattle.eval_value.specs.declared.cell.Cell.{Cell}
use Rattle.eval_value.specs.declared.cell.Cell.TheVariants as cell
use Rattle.eval_value.specs.declared.value.Value.{Value}
use Rattle.eval_value.specs.declared.value.Value.TheVariants as value
use Rattle.eval_prims.specs.declared.made.PrimResult.TheVariants as made
use Rattle.eval_prims.specs.Answers.{refused}
use Rattle.eval_prims.specs.Chains.{pair_of, chain_on, chain_to, chain}
use Rattle.eval_prims.specs.Each.{all_are}
use Rattle.eval_prims.specs.Copied.{is_syntax_to, is_syntax, datum_to, datum_in}
use Rattle.eval_prims.specs.Data.{datum_answer, text_grown, all_grown, vector_grown, list_grown, level_grown, grown_to, tree_made, tree_by, syntax_answer}
use Rattle.eval_prims.specs.Equality.{same_lengths, same_texts, same_shape, all_equal, equal_to, equal}
use Rattle.eval_prims.specs.Identity.{same}
use Rattle.eval_prims.specs.Parts.{parts_in, parts_of, is_datum}
use Rattle.eval_prims.specs.Perform.{performed}
use Rattle.eval_prims.specs.Syntax.{identifier}
use Rattle.law_lists.specs.Data.{IsDatumValue, of_atom, of_string, of_symbol, of_pair, of_vector, AreData, no_data, one_datum}
use Rattle.law_lists.proofs.RunLemmas.{Stay, stay_added}
use Rattle.law_lists.proofs.SameLemmas.{atom_itself}

-- ---- a datum that is stored

stays : (old new : List Cell) → Keeps old new → Stay old new
stays old new k n c h = sym (slice_get-released new (length old) n (slice_get_within old n c h)) ∙ ap (λ (cs : List Cell). slice_get cs n) k ∙ h

pub read_still : {A : Type 0} (read : Option Cell → Option A) → read None ≡ None → (old new : List Cell) → Stay old new → (n : ℕ) (x : A) → read (slice_get old n) ≡ Some x → read (slice_get new n) ≡ Some x
read_still {A} read e old new s n x h = by (slice_get old n) refl h
  where
    by : (o : Option Cell) → slice_get old n ≡ o → read o ≡ Some x → read (slice_get new n) ≡ Some x
    by None f g =
        let no : ◌≡◌ {A = Option A} None (Some x) = sym e ∙ g in
        absurd (cc)
    by (Some c) f g = ap read (s n c f) ∙ g

module _ (old new : List Cell) (s : Stay old new) where
  mutual
    pub datum_still : {d : PlainDatum} {x : Value} → IsDatumValue old d x → IsDatumValue new d x
    datum_still (of_atom e) = of_atom e
    datum_still (of_string {text = text} {p = p} e) = of_string (read_still string_in refl old new s p.0 text e)
    datum_still of_symbol = of_symbol
    datum_still (of_pair {p = p} {x = x} {y = y} e h k) = of_pair (read_still pair_in refl old new s p.0 (x, y) e) (datum_still h) (datum_still k)
    datum_still (of_vector {p = p} {xs = xs} e h) = of_vector (read_still vector_in refl old new s p.0 xs e) (data_still h)

    pub data_still : {d : PlainDatum} {xs : List Value} → AreData old d xs → AreData new d xs
    data_still no_data = no_data
    data_still (one_datum h k) = one_datum (datum_still h) (data_still k)

atom_is : (s : Option Span) (b : Atom) (cells : List Cell) → IsDatumValue (atom_stored b cells).1 (datum.atom s b) (atom_stored b cells).0
atom_is s a.Nil cells = of_atom refl
atom_is s (a.Bool b) cells = of_atom refl
atom_is s (a.Int z) cells = of_atom refl
atom_is s (a.Spelt text) cells = of_atom refl
atom_is s (a.Char c) cells = of_atom refl
atom_is s (a.Str text) cells = of_string (ap string_in (slice_get-added cells (cell.Str text)))
atom_is s (a.Bytes bytes) cells = of_atom refl

-- what is stored of a datum for which something stands, without its spans, is that datum
mutual
  pub stored_is : {old : List Cell} {d : PlainDatum} {x : Value} (cells : List Cell) → IsDatumValue old d x → IsDatumValue (stored (datum.unspanned d) cells).1 d (stored (datum.unspanned d) cells).0
  stored_is cells (of_atom {s = s} {b = b} e) = atom_is s b cells
  stored_is cells (of_string {s = s} {text = text} e) = atom_is s (a.Str text) cells
  stored_is cells of_symbol = of_symbol
  stored_is cells (of_pair {d = d} {e = e} f h k) =
      let first = stored (datum.unspanned d) cells in
      let rest = stored (datum.unspanned e) first.1 in
      let all = rest.1 ++ cell.Pair first.0 rest.0 ∷ [] in
      of_pair (ap pair_in (slice_get-added rest.1 (cell.Pair first.0 rest.0)))
      (datum_still rest.1 all (stay_added rest.1 (cell.Pair first.0 rest.0)) (datum_still first.1 rest.1 (stays first.1 rest.1 (stored_keeps (datum.unspanned e) first.1)) (stored_is cells h)))
      (datum_still rest.1 all (stay_added rest.1 (cell.Pair first.0 rest.0)) (stored_is first.1 k))
  stored_is cells (of_vector {e = e} f h) =
      let all = elements_stored (datum.unspanned e) cells in
      of_vector (ap vector_in (slice_get-added all.1 (cell.Vector all.0))) (data_still all.1 (all.1 ++ cell.Vector all.0 ∷ []) (stay_added all.1 (cell.Vector all.0)) (elements_are cells h))

  pub elements_are : {old : List Cell} {d : PlainDatum} {xs : List Value} (cells : List Cell) → AreData old d xs → AreData (elements_stored (datum.unspanned d) cells).1 d (elements_stored (datum.unspanned d) cells).0
  elements_are cells no_data = no_data
  elements_are cells (one_datum {d = d} {e = e} h k) =
      let first = stored (datum.unspanned d) cells in
      let rest = elements_stored (datum.unspanned e) first.1 in
      one_datum (datum_still first.1 rest.1 (stays first.1 rest.1 (elements_keep (datum.unspanned e) first.1)) (stored_is cells h)) (elements_are first.1 k)

-- ---- values that stand for one datum are equal

module _ (cells : List Cell) where
  as_long : {d : PlainDatum} {xs ys : List Value} → AreData cells d xs → AreData cells d ys → length xs ≡ length ys
  as_long no_data no_data = refl
  as_long (one_datum h hs) (one_datum k ks) = ap suc (as_long hs ks)

  text_same : (o u : Option (List ℕ)) (s : List ℕ) → o ≡ Some s → u ≡ Some s → same_texts o u ≡ true
  text_same o u s e f = (λ i. same_texts (e i) (f i)) ∙ (texts_decides s s).1 refl

  lengths_same : (o u : Option (List Value)) (xs ys : List Value) → o ≡ Some xs → u ≡ Some ys → length xs ≡ length ys → same_lengths o u ≡ true
  lengths_same o u xs ys e f l = (λ i. same_lengths (e i) (f i)) ∙ (unsigned_Decides (length xs) (length ys)).1 l

  shape_same : {d : PlainDatum} {x y : Value} → IsDatumValue cells d x → IsDatumValue cells d y → same_shape cells x y ≡ true
  unfolding same_shape same
  shape_same (of_atom {b = b} e) (of_atom f) = atom_itself b
  shape_same (of_atom e) (of_string f) = absurd (cc)
  shape_same (of_string e) (of_atom f) = absurd (cc)
  shape_same (of_string {text = text} {p = p} e) (of_string {p = q} f) = text_same (string_at cells p.0) (string_at cells q.0) text e f
  shape_same (of_symbol {name = name}) of_symbol = (texts_decides name name).1 refl
  shape_same (of_pair e h k) (of_pair f i j) = refl
  shape_same (of_vector {p = p} {xs = xs} e h) (of_vector {p = q} {xs = ys} f k) = lengths_same (vector_at cells p.0) (vector_at cells q.0) xs ys e f (as_long h k)

  -- the parts stand for one datum each
  pub data PartsAlike : List Value → List Value → Type 0 where
    no_part : PartsAlike [] []
    one_part : {d : PlainDatum} {x y : Value} {xs ys : List Value} → IsDatumValue cells d x → IsDatumValue cells d y → PartsAlike xs ys → PartsAlike (x ∷ xs) (y ∷ ys)

  elements_alike : {d : PlainDatum} {xs ys : List Value} → AreData cells d xs → AreData cells d ys → PartsAlike xs ys
  elements_alike no_data no_data = no_part
  elements_alike (one_datum h hs) (one_datum k ks) = one_part h k (elements_alike hs ks)

  alike_at : (xs ys : List Value) (us vs : List Value) → xs ≡ us → ys ≡ vs → PartsAlike us vs → PartsAlike xs ys
  alike_at xs ys us vs e f h = subst (λ (zs : List Value). PartsAlike zs ys) (sym e) (subst (λ (zs : List Value). PartsAlike us zs) (sym f) h)

  parts_alike : {d : PlainDatum} {x y : Value} → IsDatumValue cells d x → IsDatumValue cells d y → PartsAlike (parts_of cells x) (parts_of cells y)
  parts_alike (of_atom e) (of_atom f) = no_part
  parts_alike (of_atom e) (of_string f) = no_part
  parts_alike (of_string e) (of_atom f) = no_part
  parts_alike (of_string e) (of_string f) = no_part
  parts_alike of_symbol of_symbol = no_part
  parts_alike (of_pair {p = p} {x = x} {y = y} e h k) (of_pair {p = q} {x = u} {y = v} f i j) =
      alike_at (parts_of cells (value.Pair p)) (parts_of cells (value.Pair q)) (x ∷ y ∷ []) (u ∷ v ∷ []) (ap (λ o. parts_in o None) e) (ap (λ o. parts_in o None) f)
      (one_part h i (one_part k j no_part))
  parts_alike (of_vector {p = p} {xs = xs} e h) (of_vector {p = q} {xs = ys} f k) =
      alike_at (parts_of cells (value.Vector p)) (parts_of cells (value.Vector q)) xs ys (ap (parts_in None) e) (ap (parts_in None) f) (elements_alike h k)

  all_alike : (n : ℕ) → ((d : PlainDatum) (x y : Value) → IsDatumValue cells d x → IsDatumValue cells d y → equal_to n cells x y ≡ true) → {xs ys : List Value} → PartsAlike xs ys → all_equal (equal_to n cells) xs ys ≡ true
  all_alike n again no_part = refl
  all_alike n again (one_part {d = d} {x = x} {y = y} {xs = xs} {ys = ys} h k rest) = ap (λ t. t && all_equal (equal_to n cells) xs ys) (again d x y h k) ∙ all_alike n again rest

  alike_equal : (n : ℕ) (d : PlainDatum) (x y : Value) → IsDatumValue cells d x → IsDatumValue cells d y → equal_to n cells x y ≡ true
  unfolding equal_to
  alike_equal zero d x y h k = shape_same h k
  alike_equal (suc n) d x y h k =
      ap (λ t. t && all_equal (equal_to n cells) (parts_of cells x) (parts_of cells y)) (shape_same h k) ∙ all_alike n (alike_equal n) (parts_alike h k)

  pub one_datum_equal : (d : PlainDatum) (x y : Value) → IsDatumValue cells d x → IsDatumValue cells d y → equal cells x y ≡ true
  unfolding equal
  one_datum_equal d x y h k = alike_equal (length cells) d x y h k

-- ---- a datum that is made a syntax object

if_same : {A : Type 0} (b : Bool) (x : A) → (if b then x else x) ≡ x
if_same true x = refl
if_same false x = refl

-- without spans, what stands at the end of a list is as it stands alone
plain_rest : (c : LeafContext) (d : PlainDatum) → rest_of (tree_of c (datum.unspanned d)) ≡ tree_of c (datum.unspanned d)
plain_rest c (datum.atom s b) = if_same (is_list (atom None b)) (atom None b)
plain_rest c (datum.symbol s x) = refl
plain_rest c (datum.pair s d e) = refl
plain_rest c (datum.vector s d) = refl

within_is : (t u : Tree) → within t ≡ Ok u → t ≡ u
unfolding within
within_is t u h = by (fits t) h
  where
    by : (b : Bool) → (if b then Ok t else Err too_deep) ≡ Ok u → t ≡ u
    by true k = cc
    by false k = absurd (cc)

-- each value becomes its tree
pub data Grew (grow : Value → Result Tree Bare) : List Value → List Tree → Type 0 where
  none_grew : Grew grow [] []
  one_grew : {x : Value} {t : Tree} {xs : List Value} {ts : List Tree} → grow x ≡ Ok t → Grew grow xs ts → Grew grow (x ∷ xs) (t ∷ ts)

pub record GrewTo (grow : Value → Result Tree Bare) (done : List Tree) (xs : List Value) (all : List Tree) : Type 0 where
  pub trees : List Tree
  pub are : all ≡ done ++ trees
  pub grew : Grew grow xs trees

grew_to : (grow : Value → Result Tree Bare) (done : List Tree) (xs : List Value) (ts : List Tree) → all_grown grow done xs ≡ Ok ts → GrewTo grow done xs ts
unfolding all_grown
grew_to grow done [] ts h =
    let same : done ≡ ts = cc in
    record { trees = []; are = sym same ∙ sym (append-nil done); grew = none_grew }
grew_to grow done (x ∷ xs) ts h = by (λ t k. grew_to grow (done ++ t ∷ []) xs ts k) (grow x) refl h
  where
    by : ((t : Tree) → all_grown grow (done ++ t ∷ []) xs ≡ Ok ts → GrewTo grow (done ++ t ∷ []) xs ts) → (r : Result Tree Bare) → grow x ≡ r
        → (r >>= λ t. all_grown grow (done ++ t ∷ []) xs) ≡ Ok ts → GrewTo grow done (x ∷ xs) ts
    by again (Ok t) e k =
        let g = again t k in
        record { trees = t ∷ g.trees; are = g.are ∙ append_assoc done (t ∷ []) g.trees; grew = one_grew e g.grew }
    by again (Err f) e k = absurd (cc)

module _ (cells : List Cell) (id : Tree) where
  abbrev GrowsWell : (Value → Result Tree Bare) → Type 0
  GrowsWell grow = (d : PlainDatum) (x : Value) (t : Tree) → IsDatumValue cells d x → grow x ≡ Ok t → t ≡ datum_like id d

  -- elements of a vector
  elements_grow : (grow : Value → Result Tree Bare) → GrowsWell grow → {e : PlainDatum} {xs : List Value} {ts : List Tree} → AreData cells e xs → Grew grow xs ts → tree.chain ts tree.nil ≡ datum_like id e
  elements_grow grow well no_data none_grew = refl
  elements_grow grow well (one_datum {d = d} {x = x} h hs) (one_grew {t = t} f g) = λ i. pair None (well d x t h f i) (elements_grow grow well hs g i)

  list_more : (us : List Tree) (t : Tree) → (us ≡ [] → rest_of t ≡ t) → tree.chain us (rest_of t) ≡ list_of us (Some t)
  list_more [] t h = h refl
  list_more (u ∷ us) t h = refl

  nothing_grew : (grow : Value → Result Tree Bare) {us : List Tree} → Grew grow [] us → us ≡ []
  nothing_grew grow none_grew = refl

  -- a pair stands for a pair
  pub record PairDatum (d : PlainDatum) (y z : Value) : Type 0 where
    pub span : Option Span
    pub first : PlainDatum
    pub rest : PlainDatum
    pub is : d ≡ datum.pair span first rest
    pub car : IsDatumValue cells first y
    pub cdr : IsDatumValue cells rest z

  pair_datum : {d : PlainDatum} {x : Value} (y z : Value) → IsDatumValue cells d x → pair_of cells x ≡ Some (y, z) → PairDatum d y z
  pair_datum y z (of_pair {s = s} {d = first} {e = rest} {p = p} {x = a} {y = b} f h k) e =
      let both : ◌≡◌ {A = Option (Value × Value)} (Some (a, b)) (Some (y, z)) = sym f ∙ e in
      let same : (a, b) ≡ (y, z) = cc in
      record { span = s; first = first; rest = rest; is = refl; car = subst (λ (q : Value × Value). IsDatumValue cells first q.0) same h; cdr = subst (λ (q : Value × Value). IsDatumValue cells rest q.1) same k }
  pair_datum y z (of_atom f) e = absurd (cc)
  pair_datum y z (of_string f) e = absurd (cc)
  pair_datum y z of_symbol e = absurd (cc)
  pair_datum y z (of_vector f h) e = absurd (cc)

  -- an element before the others
  one_more : (grow : Value → Result Tree Bare) → GrowsWell grow → (t : Tree) (d first rest : PlainDatum) (s : Option Span) (y : Value) (ys : List Value) → d ≡ datum.pair s first rest → IsDatumValue cells first y
      → ((vs : List Tree) → Grew grow ys vs → list_of vs (Some t) ≡ datum_like id rest) → {us : List Tree} → Grew grow (y ∷ ys) us → list_of us (Some t) ≡ datum_like id d
  one_more grow well t d first rest s y ys is h again (one_grew {t = u} {ts = vs} n ns) =
      let tail = again vs ns in
      let plain : vs ≡ [] → rest_of t ≡ t = λ none.
      let alone : t ≡ datum_like id rest = sym (ap (λ (ts : List Tree). list_of ts (Some t)) none) ∙ tail in
      ap rest_of alone ∙ plain_rest (context_of id) rest ∙ sym alone in
      (λ i. pair None (well first y u h n i) ((list_more vs t plain ∙ tail) i)) ∙ ap (datum_like id) (sym is)

  -- the elements of a list and what ends it
  lists_grow : (grow : Value → Result Tree Bare) → GrowsWell grow → (m : ℕ) (d : PlainDatum) (x : Value) (t : Tree) → IsDatumValue cells d x → grow (chain_to m cells x).end ≡ Ok t
      → (us : List Tree) → Grew grow (chain_to m cells x).elements us → list_of us (Some t) ≡ datum_like id d
  unfolding chain_to
  lists_grow grow well zero d x t h e us g = ap (λ (ts : List Tree). list_of ts (Some t)) (nothing_grew grow g) ∙ well d x t h e
  lists_grow grow well (suc m) d x t h e us g = by (λ f y k l. lists_grow grow well m f y t k l) (pair_of cells x) refl e g
    where
      by : ((f : PlainDatum) (y : Value) → IsDatumValue cells f y → grow (chain_to m cells y).end ≡ Ok t → (vs : List Tree) → Grew grow (chain_to m cells y).elements vs → list_of vs (Some t) ≡ datum_like id f)
          → (o : Option (Value × Value)) → pair_of cells x ≡ o → grow (chain_on (chain_to m cells) x o).end ≡ Ok t → Grew grow (chain_on (chain_to m cells) x o).elements us → list_of us (Some t) ≡ datum_like id d
      by again None f l n = ap (λ (ts : List Tree). list_of ts (Some t)) (nothing_grew grow n) ∙ well d x t h l
      by again (Some (y, z)) f l n =
          let p = pair_datum y z h f in
          one_more grow well t d p.first p.rest p.span y (chain_to m cells z).elements p.is p.car (λ vs k. again p.rest z p.cdr l vs k) n

  list_grows : (grow : Value → Result Tree Bare) → GrowsWell grow → (m : ℕ) (d : PlainDatum) (x : Value) (t : Tree) → IsDatumValue cells d x → list_grown grow (chain_to m cells x).elements (chain_to m cells x).end ≡ Ok t → t ≡ datum_like id d
  list_grows grow well m d x t h e = by_elements (all_grown grow [] (chain_to m cells x).elements) refl e
    where
      by_end : (us : List Tree) → Grew grow (chain_to m cells x).elements us → (r : Result Tree Bare) → grow (chain_to m cells x).end ≡ r → (r >>= λ u. within (list_of us (Some u))) ≡ Ok t → t ≡ datum_like id d
      by_end us g (Ok u) f k = sym (within_is (list_of us (Some u)) t k) ∙ lists_grow grow well m d x u h f us g
      by_end us g (Err b) f k = absurd (cc)

      by_elements : (r : Result (List Tree) Bare) → all_grown grow [] (chain_to m cells x).elements ≡ r
          → (r >>= λ us. grow (chain_to m cells x).end >>= λ u. within (list_of us (Some u))) ≡ Ok t → t ≡ datum_like id d
      by_elements (Ok us) f k =
          let g = grew_to grow [] (chain_to m cells x).elements us f in
          by_end us (subst (λ (ts : List Tree). Grew grow (chain_to m cells x).elements ts) (sym g.are) g.grew) (grow (chain_to m cells x).end) refl k
      by_elements (Err b) f k = absurd (cc)

  chain_grows : (grow : Value → Result Tree Bare) → GrowsWell grow → (d : PlainDatum) (x : Value) (t : Tree) → IsDatumValue cells d x → list_grown grow (chain cells x).elements (chain cells x).end ≡ Ok t → t ≡ datum_like id d
  unfolding chain
  chain_grows grow well d x t h e = list_grows grow well (length cells) d x t h e

  vector_grows : (grow : Value → Result Tree Bare) → GrowsWell grow → (e : PlainDatum) (s : Option Span) (xs : List Value) (t : Tree) → AreData cells e xs → vector_grown grow (Some xs) ≡ Ok t → t ≡ datum_like id (datum.vector s e)
  vector_grows grow well e s xs t h k = by (all_grown grow [] xs) refl k
    where
      by : (r : Result (List Tree) Bare) → all_grown grow [] xs ≡ r → (r >>= λ ts. within (vector_of ts)) ≡ Ok t → t ≡ datum_like id (datum.vector s e)
      by (Ok us) f k =
          let g = grew_to grow [] xs us f in
          sym (within_is (vector_of us) t k) ∙ ap (vector None) (elements_grow grow well h (subst (λ (ts : List Tree). Grew grow xs ts) (sym g.are) g.grew))
      by (Err b) f k = absurd (cc)

  grows_at : (n : ℕ) {d : PlainDatum} {x : Value} (t : Tree) → IsDatumValue cells d x → grown_to n id cells x ≡ Ok t → t ≡ datum_like id d
  unfolding grown_to level_grown
  grows_at zero t h e = absurd (cc)
  grows_at (suc n) t (of_atom {s = s} {b = b} f) e =
      let same : atom None b ≡ t = cc in
      sym same
  grows_at (suc n) t (of_string {s = s} {text = text} {p = p} f) e =
      let known : text_grown (Some text) ≡ Ok t = ap text_grown (sym f) ∙ e in
      let same : atom None (a.Str text) ≡ t = cc in
      sym same
  grows_at (suc n) t (of_symbol {s = s} {name = name}) e =
      let same : leaf None name (context_of id) ≡ t = cc in
      sym same
  grows_at (suc n) t (of_pair {s = s} {d = first} {e = rest} {p = p} f h k) e =
      chain_grows (grown_to n id cells) (λ d x u l m. grows_at n u l m) (datum.pair s first rest) (value.Pair p) t (of_pair f h k) e
  grows_at (suc n) t (of_vector {s = s} {e = rest} {p = p} {xs = xs} f h) e =
      vector_grows (grown_to n id cells) (λ d x u l m. grows_at n u l m) rest s xs t h (ap (vector_grown (grown_to n id cells)) (sym f) ∙ e)

  grows : (n : ℕ) → GrowsWell (grown_to n id cells)
  grows n d x t h e = grows_at n t h e

-- ---- the two primitives

made_is : (r : Result Tree Bare) (t : Tree) → tree_made r ≡ Ok (made.Value (value.Syn t)) → r ≡ Ok t
made_is (Ok u) t h = cc
made_is (Err f) t h = absurd (cc)

module _ (op : ℕ) (cells : List Cell) (k x : Value) (id : Tree) (d : PlainDatum) (is : IsDatumValue cells d x) (leaf_is : identifier k ≡ Some id) where
  pub syntax_is : (t : Tree) → syntax_answer op (k ∷ x ∷ []) cells ≡ Ok (made.Value (value.Syn t)) → t ≡ datum_like id d
  unfolding syntax_answer
  syntax_is t h = by (is_datum cells x) (ap (λ o. tree_by op cells x o) (sym leaf_is) ∙ h)
    where
      by : (b : Bool) → (if b then tree_made (grown_to max_height id cells x) else Err (refused op)) ≡ Ok (made.Value (value.Syn t)) → t ≡ datum_like id d
      by true e = grows cells id max_height d x t is (made_is (grown_to max_height id cells x) t e)
      by false e = absurd (cc)

syntax_is_syntax : (n : ℕ) (cells : List Cell) (t : Tree) → is_syntax_to n cells (value.Syn t) ≡ true
unfolding is_syntax_to all_are
syntax_is_syntax zero cells t = refl
syntax_is_syntax (suc n) cells t = refl

datum_of_syntax : (n : ℕ) (cells : List Cell) (t : Tree) → datum_to n cells (value.Syn t) ≡ strip t
unfolding datum_to
datum_of_syntax zero cells t = refl
datum_of_syntax (suc n) cells t = refl

-- a syntax object is always taken
pub syntax_taken : (op : ℕ) (cells : List Cell) (t : Tree) → datum_answer op (value.Syn t ∷ []) cells ≡ Ok (made.Datum (value.Syn t))
unfolding datum_answer is_syntax
syntax_taken op cells t = ap (λ b. if b then Ok (made.Datum (value.Syn t)) else Err (refused op)) (syntax_is_syntax (length cells) cells t)

pub syntax_performed : (cells : List Cell) (t : Tree) (name : Named) → performed (made.Datum (value.Syn t)) name cells ≡ stored (strip t) cells
unfolding datum_in
syntax_performed cells t name = ap (λ d. stored d cells) (datum_of_syntax (length cells) cells t)

pub performed_is : (cells : List Cell) (name : Named) (id t : Tree) (d : PlainDatum) (x : Value) → IsDatumValue cells d x → t ≡ datum_like id d
    → IsDatumValue (performed (made.Datum (value.Syn t)) name cells).1 d (performed (made.Datum (value.Syn t)) name cells).0
performed_is cells name id t d x h e =
    let same : stored (datum.unspanned d) cells ≡ performed (made.Datum (value.Syn t)) name cells = ap (λ u. stored u cells) (sym (strip-tree_of (context_of id) (datum.unspanned d)) ∙ ap strip (sym e)) ∙ sym (syntax_performed cells t name) in
    subst (λ (p : Value × List Cell). IsDatumValue p.1 d p.0) same (stored_is cells h)

pub performed_stays : (cells : List Cell) (name : Named) (t : Tree) → Stay cells (performed (made.Datum (value.Syn t)) name cells).1
performed_stays cells name t = subst (λ (p : Value × List Cell). Stay cells p.1) (sym (syntax_performed cells t name)) (stays cells (stored (strip t) cells).1 (stored_keeps (strip t) cells))

-- there and back
module _ (op : ℕ) (name : Named) (cells : List Cell) (k x : Value) (id t : Tree) (d : PlainDatum) (is : IsDatumValue cells d x) (leaf_is : identifier k ≡ Some id)
    (h : syntax_answer op (k ∷ x ∷ []) cells ≡ Ok (made.Value (value.Syn t))) where
  pub back_again : IsDatumValue (performed (made.Datum (value.Syn t)) name cells).1 d (performed (made.Datum (value.Syn t)) name cells).0
  back_again = performed_is cells name id t d x is (syntax_is op cells k x id d is leaf_is t h)

  pub back_equal : equal (performed (made.Datum (value.Syn t)) name cells).1 x (performed (made.Datum (value.Syn t)) name cells).0 ≡ true
  back_equal =
      one_datum_equal (performed (made.Datum (value.Syn t)) name cells).1 d x (performed (made.Datum (value.Syn t)) name cells).0
      (datum_still cells (performed (made.Datum (value.Syn t)) name cells).1 (performed_stays cells name t) is) back_again
