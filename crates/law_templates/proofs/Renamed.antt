-- Instances with marks under other names.
use Rattle.std.proofs.Common.{◌≡◌, ℕ, zero, suc, ◌+◌, ◌-◌, Bool, true, false, List, [], ◌∷◌, ◌++◌, map, length, slice_get, Option, None, Some, Ok, Err, refl, ap, sym, ◌∙◌}
use Rattle.std.specs.Prelude.{Result, option_map, nat_lt, if◌then◌else◌}
use Rattle.std.proofs.lemmas.List.{map-append, length-map}
use Rattle.std.proofs.lemmas.Option.{slice_get-map}
use Rattle.base_data.specs.Gives.{◌>>=◌}
use Rattle.base_data.specs.Same.{same_name}
use Rattle.base_data.specs.declared.atom.Atom.TheVariants.{Nil}
use Rattle.base_data.specs.declared.fault.Bare.{Bare}
use Rattle.base_data.specs.declared.name.Label.{Label}
use Rattle.base_data.specs.declared.name.Mark.{Mark}
use Rattle.stx_tree.specs.Renaming.{renamed}
use Rattle.stx_tree.specs.Tree.{Tree}
use Rattle.stx_tree.specs.Tree as tree
use Rattle.core_language.specs.Template.{PlainTemplate, variable, constant, list, vector, PlainItems, none, more}
use Rattle.core_shapes.specs.Lists as lists
use Rattle.eval_value.specs.Bind.{PlainBind, one, many, PlainBinds}
use Rattle.eval_value.specs.Bind as bind
use Rattle.eval_value.specs.FromDatum.{pair_stored, pairs_stored, vector_stored}
use Rattle.eval_value.specs.declared.cell.Cell.{Cell}
use Rattle.eval_value.specs.declared.cell.Cell.TheVariants as cell
use Rattle.eval_value.specs.declared.value.Value.{Value}
use Rattle.eval_value.specs.declared.value.Value.TheVariants as value
use Rattle.law_matches.specs.Renaming.{renamed_value, renamed_bind, renamed_binds, renamed_row, renamed_cell}
use Rattle.eval_template.specs.Binds.{Binds, Absent, looked_up, listed, turn_of, through, innermost, reached, count_of, value_of}
use Rattle.eval_template.specs.Lengths.{lengths, items_lengths, agree, or_none}
use Rattle.eval_template.specs.Instance.{Adds, then_add, counts, is_end, ending, instance, parts, item, turned}
use Rattle.law_templates.specs.Renaming.{renamed_template, renamed_items, renamed_absent, renamed_made}

module _ (r : Mark → Mark) where
  abbrev cells_of : List Cell → List Cell
  cells_of cells = map (renamed_cell r) cells

  abbrev values : List Value → List Value
  values xs = map (renamed_value r) xs

  abbrev binds_of : Binds → Binds
  binds_of bs = map (renamed_row r) bs

  looked_up-renamed : (bs : Binds) (l : Label) → looked_up (binds_of bs) l ≡ option_map (renamed_bind r) (looked_up bs l)
  looked_up-renamed [] l = refl
  looked_up-renamed (b ∷ bs) l = go (looked_up-renamed bs l) (same_name b.0.0 l.0)
    where
      go : looked_up (binds_of bs) l ≡ option_map (renamed_bind r) (looked_up bs l) → (c : Bool)
          → (if c then Some (renamed_bind r b.1) else looked_up (binds_of bs) l) ≡ option_map (renamed_bind r) (if c then Some b.1 else looked_up bs l)
      go ih true = refl
      go ih false = ih

  listed-renamed : (bs : PlainBinds) → listed (renamed_binds r bs) ≡ map (renamed_bind r) (listed bs)
  listed-renamed bind.none = refl
  listed-renamed (bind.more b bs) = ap (λ xs. renamed_bind r b ∷ xs) (listed-renamed bs)

  turn_of-renamed : (b : PlainBind) (i : ℕ) → turn_of (renamed_bind r b) i ≡ option_map (renamed_bind r) (turn_of b i)
  turn_of-renamed (one v) i = refl
  turn_of-renamed (many bs) i = ap (λ xs. slice_get xs i) (listed-renamed bs) ∙ slice_get-map (renamed_bind r) (listed bs) i

  through-renamed : (o : Option PlainBind) (is : List ℕ) → through (option_map (renamed_bind r) o) is ≡ option_map (renamed_bind r) (through o is)
  through-renamed None [] = refl
  through-renamed None (i ∷ is) = refl
  through-renamed (Some b) [] = refl
  through-renamed (Some b) (i ∷ is) = ap (λ o. through o is) (turn_of-renamed b i) ∙ through-renamed (turn_of b i) is

  reached-renamed : (bs : Binds) (l : Label) (d : ℕ) (turns : List ℕ) → reached (binds_of bs) l d turns ≡ option_map (renamed_bind r) (reached bs l d turns)
  reached-renamed bs l d turns = ap (λ o. through o (innermost d turns)) (looked_up-renamed bs l) ∙ through-renamed (looked_up bs l) (innermost d turns)

  module _ (a : Absent) where
    value_of-renamed : (o : Option PlainBind) → value_of (renamed_absent r a) (option_map (renamed_bind r) o) ≡ renamed_value r (value_of a o)
    value_of-renamed None = refl
    value_of-renamed (Some (one v)) = refl
    value_of-renamed (Some (many bs)) = refl

    count_of-renamed : (o : Option PlainBind) → count_of (renamed_absent r a) (option_map (renamed_bind r) o) ≡ count_of a o
    count_of-renamed None = refl
    count_of-renamed (Some (one v)) = refl
    count_of-renamed (Some (many bs)) = ap length (listed-renamed bs) ∙ length-map (listed bs) (renamed_bind r)

    module _ (bs : Binds) where
      mutual
        lengths-renamed : (turns : List ℕ) (k : ℕ) (t : PlainTemplate) → lengths (renamed_absent r a) (binds_of bs) turns k (renamed_template r t) ≡ lengths a bs turns k t
        lengths-renamed turns k (variable l d) =
            ap (λ n. if nat_lt k d then n ∷ [] else []) (ap (count_of (renamed_absent r a)) (reached-renamed bs l (d - suc k) turns) ∙ count_of-renamed (reached bs l (d - suc k) turns))
        lengths-renamed turns k (constant t) = refl
        lengths-renamed turns k (list is t) = λ i. items_lengths-renamed turns k is i ++ lengths-renamed turns k t i
        lengths-renamed turns k (vector is) = items_lengths-renamed turns k is

        items_lengths-renamed : (turns : List ℕ) (k : ℕ) (is : PlainItems) → items_lengths (renamed_absent r a) (binds_of bs) turns k (renamed_items r is) ≡ items_lengths a bs turns k is
        items_lengths-renamed turns k none = refl
        items_lengths-renamed turns k (more t e is) = λ i. lengths-renamed turns (k + e) t i ++ items_lengths-renamed turns k is i

  -- Cells.
  pairs-renamed : (xs : List Value) (v : Value) (cells : List Cell)
      → pairs_stored (values xs) (renamed_value r v, cells_of cells) ≡ (renamed_value r (pairs_stored xs (v, cells)).0, cells_of (pairs_stored xs (v, cells)).1)
  pairs-renamed [] v cells = refl
  pairs-renamed (x ∷ xs) v cells = ap (pair_stored (renamed_value r x)) (pairs-renamed xs v cells) ∙ on (pairs_stored xs (v, cells))
    where
      on : (p : Value × List Cell) → pair_stored (renamed_value r x) (renamed_value r p.0, cells_of p.1) ≡ (renamed_value r (pair_stored x p).0, cells_of (pair_stored x p).1)
      on p = λ i. (value.Pair (record { 0 = length-map p.1 (renamed_cell r) i }), sym (map-append (renamed_cell r) p.1 (cell.Pair x p.0 ∷ [])) i)

  vector-renamed : (xs : List Value) (cells : List Cell) → vector_stored (values xs, cells_of cells) ≡ (renamed_value r (vector_stored (xs, cells)).0, cells_of (vector_stored (xs, cells)).1)
  vector-renamed xs cells = λ i. (value.Vector (record { 0 = length-map cells (renamed_cell r) i }), sym (map-append (renamed_cell r) cells (cell.Vector xs ∷ [])) i)

  -- One after another.
  then-renamed : {A B : Type 0} (h : A → A) (g : B → B) (x : Result (A × List Cell) Bare) (k l : A → Adds B) → ((y : A) (cells : List Cell) → l (h y) (cells_of cells) ≡ renamed_made r g (k y cells))
      → then_add (renamed_made r h x) l ≡ renamed_made r g (then_add x k)
  then-renamed h g (Ok p) k l same = same p.0 p.1
  then-renamed h g (Err f) k l same = refl

  abbrev ValueSame : Adds Value → Adds Value → Type 0
  ValueSame x y = (cells : List Cell) → y (cells_of cells) ≡ renamed_made r (renamed_value r) (x cells)

  abbrev PartsSame : (List Value → Adds (List Value)) → (List Value → Adds (List Value)) → Type 0
  PartsSame x y = (done : List Value) (cells : List Cell) → y (values done) (cells_of cells) ≡ renamed_made r values (x done cells)

  turned-renamed : (go to : List ℕ → List Value → Adds (List Value)) (turns : List ℕ) → ((j : ℕ) → PartsSame (go (turns ++ j ∷ [])) (to (turns ++ j ∷ [])))
      → (n i : ℕ) → PartsSame (turned go n i turns) (turned to n i turns)
  turned-renamed go to turns same zero i done cells = refl
  turned-renamed go to turns same (suc n) i done cells =
      ap (λ x. then_add x (turned to n (i + 1) turns)) (same i done cells)
      ∙ then-renamed values values (go (turns ++ i ∷ []) done cells) (turned go n (i + 1) turns) (turned to n (i + 1) turns) (turned-renamed go to turns same n (i + 1))

  item-renamed : (go to : List ℕ → Adds Value) (cs ds : ℕ → List ℕ → List ℕ) → ((turns : List ℕ) → ValueSame (go turns) (to turns)) → ((e : ℕ) (turns : List ℕ) → ds e turns ≡ cs e turns)
      → (e : ℕ) (turns : List ℕ) → PartsSame (item go cs e turns) (item to ds e turns)
  item-renamed go to cs ds same counted zero turns done cells =
      ap (λ x. then_add x (λ v cells. Ok (values done ++ v ∷ [], cells))) (same turns cells)
      ∙ then-renamed (renamed_value r) values (go turns cells) (λ v cells. Ok (done ++ v ∷ [], cells)) (λ v cells. Ok (values done ++ v ∷ [], cells))
      (λ v new. ap (λ xs. Ok (xs, cells_of new)) (sym (map-append (renamed_value r) done (v ∷ []))))
  item-renamed go to cs ds same counted (suc e) turns done cells =
      ap (λ ns. agree None ns >>= λ n. turned (item to ds e) (or_none n) 0 turns (values done) (cells_of cells)) (counted e turns)
      ∙ on (λ n. turned-renamed (item go cs e) (item to ds e) turns (λ j. item-renamed go to cs ds same counted e (turns ++ j ∷ [])) n 0 done cells) (agree None (cs e turns))
    where
      on : ((n : ℕ) → turned (item to ds e) n 0 turns (values done) (cells_of cells) ≡ renamed_made r values (turned (item go cs e) n 0 turns done cells)) → (m : Result (Option ℕ) Bare)
          → (m >>= λ n. turned (item to ds e) (or_none n) 0 turns (values done) (cells_of cells)) ≡ renamed_made r values (m >>= λ n. turned (item go cs e) (or_none n) 0 turns done cells)
      on ih (Ok m) = ih (or_none m)
      on ih (Err f) = refl

  nil-renamed : (t : Tree) → lists.is_nil (renamed r t) ≡ lists.is_nil t
  nil-renamed (tree.atom s a) = refl
  nil-renamed (tree.leaf s x c) = refl
  nil-renamed (tree.pair s a d) = refl
  nil-renamed (tree.vector s d) = refl

  end-renamed : (t : PlainTemplate) → is_end (renamed_template r t) ≡ is_end t
  end-renamed (variable l d) = refl
  end-renamed (constant t) = nil-renamed t
  end-renamed (list is t) = refl
  end-renamed (vector is) = refl

  ending-renamed : (t : PlainTemplate) (x y : Adds Value) → ValueSame x y → ValueSame (ending t x) (ending (renamed_template r t) y)
  ending-renamed t x y same cells = ap (λ b. if b then Ok (value.Atom Nil, cells_of cells) else y (cells_of cells)) (end-renamed t) ∙ go (is_end t)
    where
      go : (b : Bool) → (if b then Ok (value.Atom Nil, cells_of cells) else y (cells_of cells)) ≡ renamed_made r (renamed_value r) (if b then Ok (value.Atom Nil, cells) else x cells)
      go true = refl
      go false = same cells

  module _ (a : Absent) (bs : Binds) where
    mutual
      pub instance-renamed : (t : PlainTemplate) (turns : List ℕ) → ValueSame (instance a bs t turns) (instance (renamed_absent r a) (binds_of bs) (renamed_template r t) turns)
      instance-renamed (variable l d) turns cells =
          ap (λ v. Ok (v, cells_of cells)) (ap (value_of (renamed_absent r a)) (reached-renamed bs l d turns) ∙ value_of-renamed a (reached bs l d turns))
      instance-renamed (constant t) turns cells = refl
      instance-renamed (list is t) turns cells =
          let a' = renamed_absent r a in
          let is' = renamed_items r is in
          let t' = renamed_template r t in
          ap (λ x. then_add x (λ xs cells. then_add (ending t' (instance a' (binds_of bs) t' turns) cells) (λ v cells. Ok (pairs_stored xs (v, cells))))) (parts-renamed is turns [] cells)
          ∙ then-renamed values (renamed_value r) (parts a bs is turns [] cells)
          (λ xs cells. then_add (ending t (instance a bs t turns) cells) (λ v cells. Ok (pairs_stored xs (v, cells))))
          (λ xs cells. then_add (ending t' (instance a' (binds_of bs) t' turns) cells) (λ v cells. Ok (pairs_stored xs (v, cells))))
          (λ xs cells. ap (λ x. then_add x (λ v cells. Ok (pairs_stored (values xs) (v, cells)))) (ending-renamed t (instance a bs t turns) (instance a' (binds_of bs) t' turns) (instance-renamed t turns) cells)
          ∙ then-renamed (renamed_value r) (renamed_value r) (ending t (instance a bs t turns) cells) (λ v cells. Ok (pairs_stored xs (v, cells))) (λ v cells. Ok (pairs_stored (values xs) (v, cells)))
          (λ v cells. ap Ok (pairs-renamed xs v cells)))
      instance-renamed (vector is) turns cells =
          ap (λ x. then_add x (λ xs cells. Ok (vector_stored (xs, cells)))) (parts-renamed is turns [] cells)
          ∙ then-renamed values (renamed_value r) (parts a bs is turns [] cells) (λ xs cells. Ok (vector_stored (xs, cells))) (λ xs cells. Ok (vector_stored (xs, cells))) (λ xs cells. ap Ok (vector-renamed xs cells))

      pub parts-renamed : (is : PlainItems) (turns : List ℕ) → PartsSame (parts a bs is turns) (parts (renamed_absent r a) (binds_of bs) (renamed_items r is) turns)
      parts-renamed none turns done cells = refl
      parts-renamed (more t e is) turns done cells =
          ap (λ x. then_add x (parts (renamed_absent r a) (binds_of bs) (renamed_items r is) turns))
          (item-renamed (instance a bs t) (instance (renamed_absent r a) (binds_of bs) (renamed_template r t)) (counts a bs t) (counts (renamed_absent r a) (binds_of bs) (renamed_template r t))
          (instance-renamed t) (λ k turns. lengths-renamed a bs turns k t) e turns done cells)
          ∙ then-renamed values values (item (instance a bs t) (counts a bs t) e turns done cells) (parts a bs is turns) (parts (renamed_absent r a) (binds_of bs) (renamed_items r is) turns) (parts-renamed is turns)
