-- No primitive and no template is refused for want of fuel, or for cells that don't fit.
use Rattle.std.proofs.Common.{◌≡◌, ℕ, zero, suc, List, [], ◌∷◌, ◌++◌, Option, Some, None, Bool, true, false, Result, Ok, Err, subst, length, ◌+◌, ◌-◌, ◌^◌, if◌then◌else◌}
use Rattle.std.specs.Prelude.{nat_eq, ◌==◌}
use Rattle.base_data.specs.Gives.{◌>>=◌}
use Rattle.base_data.specs.declared.atom.Atom.TheVariants as a
use Rattle.base_data.specs.declared.fault.Bare.{Bare}
use Rattle.base_data.specs.declared.fault.FaultKind.{FaultKind}
use Rattle.base_data.specs.declared.fault.FaultKind.TheVariants as kind
use Rattle.base_data.specs.declared.op.names.TheConstants as names
use Rattle.core_language.specs.Template as template
use Rattle.core_language.specs.Template.{PlainTemplate, PlainItems}
use Rattle.stx_frames.specs.Scope.{Scope}
use Rattle.stx_tree.specs.Measures.{within, fits, max_height}
use Rattle.stx_tree.specs.Tree.{Tree, vector_of, list_of}
use Rattle.eval_value.specs.Cells.{vector_at, string_at}
use Rattle.eval_value.specs.FromDatum.{pairs_stored, vector_stored}
use Rattle.eval_value.specs.ToSyntax.{fuel_spent}
use Rattle.eval_value.specs.declared.cell.Cell.{Cell}
use Rattle.eval_value.specs.declared.value.Value.{Value}
use Rattle.eval_value.specs.declared.value.Value.TheVariants as value
use Rattle.eval_prims.specs.Answers.{refused, or_refused}
use Rattle.eval_prims.specs.Basics.{basic_made}
use Rattle.eval_prims.specs.Chains.{chain}
use Rattle.eval_prims.specs.Characters.{character_made}
use Rattle.eval_prims.specs.Copied.{is_syntax}
use Rattle.eval_prims.specs.Data.{datum_answer, text_grown, all_grown, vector_grown, list_grown, level_grown, grown_to, tree_made, tree_by, syntax_answer}
use Rattle.eval_prims.specs.Delta.{row_answer, answer_by, delta}
use Rattle.eval_prims.specs.Equality.{equal_made}
use Rattle.eval_prims.specs.Lists.{gathered_made, list_made, appended_made, indexed_made}
use Rattle.eval_prims.specs.Numbers.{number_made}
use Rattle.eval_prims.specs.Parts.{is_datum}
use Rattle.eval_prims.specs.Primitives.{primitive_of, takes}
use Rattle.eval_prims.specs.Raised.{raised, word_of, is_who, raised_fault}
use Rattle.eval_prims.specs.Strings.{string_of, part_made, unpacked_made, string_made, digits_made, strings_made}
use Rattle.eval_prims.specs.Syntax.{identifier, identifier_made, temporaries_made}
use Rattle.eval_prims.specs.declared.made.PrimResult.{PrimResult}
use Rattle.eval_prims.specs.declared.made.PrimResult.TheVariants as made
use Rattle.eval_prims.specs.declared.primitive.Primitive.{Primitive}
use Rattle.eval_prims.specs.declared.rows.TheConstants as rows
use Rattle.eval_template.specs.Binds.{Binds, Absent}
use Rattle.eval_template.specs.Instance as instances
use Rattle.eval_template.specs.Lengths.{agree, or_none}
use Rattle.eval_template.specs.Measure as measures

-- neither want of fuel nor cells that don't fit
abbrev pub IsOther : FaultKind → Type 0
IsOther kind.FuelSpent = ⊥
IsOther kind.Stuck = ⊥
IsOther _ = Unit {0}

pub not_spent : (f : Bare) → IsOther f.kind → f ≡ fuel_spent → ⊥
not_spent f h e = subst (λ (g : Bare). IsOther g.kind) e h

-- where it is refused, then for another cause
abbrev pub Others : {A : Type 0} → Result A Bare → Type 0
Others (Ok x) = Unit {0}
Others (Err f) = IsOther f.kind

others-if : {A : Type 0} (b : Bool) (x y : Result A Bare) → Others x → Others y → Others (if b then x else y)
others-if true x y h k = h
others-if false x y h k = k

others-then : {A B : Type 0} (r : Result A Bare) (go : A → Result B Bare) → Others r → ((x : A) → Others (go x)) → Others (r >>= go)
others-then (Ok x) go h k = k x
others-then (Err f) go h k = h

-- Primitives.

others-made : (op : ℕ) (o : Option PrimResult) → Others (or_refused op o)
others-made op None = tt
others-made op (Some m) = tt

others-datum : (op : ℕ) (args : List Value) (cells : List Cell) → Others (datum_answer op args cells)
unfolding datum_answer
others-datum op [] cells = tt
others-datum op (x ∷ []) cells = others-if (is_syntax cells x) (Ok (made.Datum x)) (Err (refused op)) tt tt
others-datum op (x ∷ y ∷ args) cells = tt

others-within : (t : Tree) → Others (within t)
unfolding within
others-within t = others-if (fits t) _ _ tt tt

others-text : (o : Option (List ℕ)) → Others (text_grown o)
others-text None = tt
others-text (Some s) = tt

others-all : (grow : Value → Result Tree Bare) → ((x : Value) → Others (grow x)) → (done : List Tree) (xs : List Value) → Others (all_grown grow done xs)
unfolding all_grown
others-all grow h done [] = tt
others-all grow h done (x ∷ xs) = others-then (grow x) (λ t. all_grown grow (done ++ t ∷ []) xs) (h x) (λ t. others-all grow h (done ++ t ∷ []) xs)

others-vector : (grow : Value → Result Tree Bare) → ((x : Value) → Others (grow x)) → (o : Option (List Value)) → Others (vector_grown grow o)
others-vector grow h None = tt
others-vector grow h (Some xs) = others-then (all_grown grow [] xs) (λ ts. within (vector_of ts)) (others-all grow h [] xs) (λ ts. others-within (vector_of ts))

others-list : (grow : Value → Result Tree Bare) → ((x : Value) → Others (grow x)) → (xs : List Value) (x : Value) → Others (list_grown grow xs x)
others-list grow h xs x =
    others-then (all_grown grow [] xs) (λ ts. grow x >>= λ t. within (list_of ts (Some t))) (others-all grow h [] xs)
    (λ ts. others-then (grow x) (λ t. within (list_of ts (Some t))) (h x) (λ t. others-within (list_of ts (Some t))))

others-level : (grow : Value → Result Tree Bare) → ((x : Value) → Others (grow x)) → (id : Tree) (cells : List Cell) (x : Value) → Others (level_grown grow id cells x)
unfolding level_grown
others-level grow h id cells (value.Atom x) = tt
others-level grow h id cells (value.Symbol s) = tt
others-level grow h id cells (value.Pair p) = others-list grow h (chain cells (value.Pair p)).elements (chain cells (value.Pair p)).end
others-level grow h id cells (value.Vector p) = others-vector grow h (vector_at cells p.0)
others-level grow h id cells (value.Str p) = others-text (string_at cells p.0)
others-level grow h id cells value.Unspecified = tt
others-level grow h id cells (value.Closure c p) = tt
others-level grow h id cells (value.Prim op) = tt
others-level grow h id cells (value.Syn t) = tt
others-level grow h id cells (value.Transformer p) = tt

others-grown : (n : ℕ) (id : Tree) (cells : List Cell) (x : Value) → Others (grown_to n id cells x)
unfolding grown_to
others-grown zero id cells x = tt
others-grown (suc n) id cells x = others-level (grown_to n id cells) (others-grown n id cells) id cells x

others-tree : (r : Result Tree Bare) → Others r → Others (tree_made r)
others-tree (Ok t) h = tt
others-tree (Err f) h = h

others-tree_by : (op : ℕ) (cells : List Cell) (x : Value) (o : Option Tree) → Others (tree_by op cells x o)
others-tree_by op cells x None = tt
others-tree_by op cells x (Some id) =
    others-if (is_datum cells x) (tree_made (grown_to max_height id cells x)) (Err (refused op)) (others-tree (grown_to max_height id cells x) (others-grown max_height id cells x)) tt

others-syntax : (op : ℕ) (args : List Value) (cells : List Cell) → Others (syntax_answer op args cells)
unfolding syntax_answer
others-syntax op [] cells = tt
others-syntax op (k ∷ []) cells = tt
others-syntax op (k ∷ x ∷ []) cells = others-tree_by op cells x (identifier k)
others-syntax op (k ∷ x ∷ y ∷ args) cells = tt

other-if : (b : Bool) (f g : Bare) → IsOther f.kind → IsOther g.kind → IsOther (if b then f else g).kind
other-if true f g h k = h
other-if false f g h k = k

others-raised : (op : ℕ) (args : List Value) (cells : List Cell) → IsOther (raised_fault op args cells).kind
unfolding raised_fault
others-raised op [] cells = tt
others-raised op (x ∷ []) cells = other-if (op == names.RAISE) (raised []) (refused op) tt tt
others-raised op (who ∷ message ∷ rest) cells = other-if (is_who who) (raised (word_of (string_of cells message))) (refused op) tt tt

others-row : (row op : ℕ) (args : List Value) (cells : List Cell) (frames : Scope) → Others (row_answer row op args cells frames)
unfolding row_answer
others-row row op args cells frames =
    others-if (row == rows.BASICS) _ _ (others-made op (basic_made op args cells))
    (others-if (row == rows.NUMBERS) _ _ (others-made op (number_made op args))
    (others-if (row == rows.CHARACTERS) _ _ (others-made op (character_made op args))
    (others-if (row == rows.PARTS) _ _ (others-made op (part_made op args cells))
    (others-if (row == rows.GATHERED) _ _ (others-made op (gathered_made op args))
    (others-if (row == rows.LISTS) _ _ (others-made op (list_made op args cells))
    (others-if (row == rows.APPENDED) _ _ (others-made op (appended_made args cells))
    (others-if (row == rows.INDEXED) _ _ (others-made op (indexed_made op args cells))
    (others-if (row == rows.UNPACKED) _ _ (others-made op (unpacked_made op args cells))
    (others-if (row == rows.STRINGS) _ _ (others-made op (string_made op args cells))
    (others-if (row == rows.NUMBER_STRINGS) _ _ (others-made op (digits_made args))
    (others-if (row == rows.STRING_COMPARISONS) _ _ (others-made op (strings_made op args cells))
    (others-if (row == rows.EQUALITY) _ _ (others-made op (equal_made op args cells))
    (others-if (row == rows.IDENTIFIERS) _ _ (others-made op (identifier_made op args frames))
    (others-if (row == rows.DATA) _ _ (others-datum op args cells)
    (others-if (row == rows.TREES) _ _ (others-syntax op args cells)
    (others-if (row == rows.TEMPORARIES) _ _ (others-made op (temporaries_made args cells)) (others-raised op args cells)))))))))))))))))

others-answer_by : (p : Option Primitive) (op : ℕ) (args : List Value) (cells : List Cell) (frames : Scope) → Others (answer_by p op args cells frames)
others-answer_by None op args cells frames = tt
others-answer_by (Some p) op args cells frames = others-if (takes p (length args)) _ _ (others-row p.row op args cells frames) tt

pub others-delta : (op : ℕ) (args : List Value) (cells : List Cell) (frames : Scope) → Others (delta op args cells frames)
unfolding delta
others-delta op args cells frames = others-answer_by (primitive_of op) op args cells frames

-- Templates.

others-agree : (m : Option ℕ) (ns : List ℕ) → Others (agree m ns)
others-agree m [] = tt
others-agree None (n ∷ ns) = others-agree (Some n) ns
others-agree (Some m) (n ∷ ns) = others-if (nat_eq m n) _ _ (others-agree (Some m) ns) tt

abbrev Stands : {A : Type 0} → (List Cell → Result (A × List Cell) Bare) → Type 0
Stands m = (cells : List Cell) → Others (m cells)

others-add : {A B : Type 0} (r : Result (A × List Cell) Bare) (go : A → List Cell → Result (B × List Cell) Bare)
    → Others r → ((x : A) → Stands (go x)) → Others (instances.then_add r go)
others-add (Ok p) go h k = k p.0 p.1
others-add (Err f) go h k = h

others-turned : (go : List ℕ → List Value → List Cell → Result (List Value × List Cell) Bare) → ((turns : List ℕ) (vs : List Value) → Stands (go turns vs))
    → (n i : ℕ) (turns : List ℕ) (vs : List Value) → Stands (instances.turned go n i turns vs)
others-turned go h zero i turns vs cells = tt
others-turned go h (suc n) i turns vs cells =
    others-add (go (turns ++ i ∷ []) vs cells) (instances.turned go n (i + 1) turns) (h (turns ++ i ∷ []) vs cells) (others-turned go h n (i + 1) turns)

others-item : (go : List ℕ → List Cell → Result (Value × List Cell) Bare) (counts : ℕ → List ℕ → List ℕ) → ((turns : List ℕ) → Stands (go turns))
    → (ellipses : ℕ) (turns : List ℕ) (vs : List Value) → Stands (instances.item go counts ellipses turns vs)
others-item go counts h zero turns vs cells = others-add (go turns cells) (λ v cells. Ok (vs ++ v ∷ [], cells)) (h turns cells) (λ v cells. tt)
others-item go counts h (suc ellipses) turns vs cells =
    others-then (agree None (counts ellipses turns)) (λ n. instances.turned (instances.item go counts ellipses) (or_none n) 0 turns vs cells)
    (others-agree None (counts ellipses turns)) (λ n. others-turned (instances.item go counts ellipses) (others-item go counts h ellipses) (or_none n) 0 turns vs cells)

mutual
  pub others-instance : (absent : Absent) (bs : Binds) (t : PlainTemplate) (turns : List ℕ) → Stands (instances.instance absent bs t turns)
  others-instance absent bs (template.variable l depth) turns cells = tt
  others-instance absent bs (template.constant t) turns cells = tt
  others-instance absent bs (template.list is t) turns cells =
      others-add (instances.parts absent bs is turns [] cells)
      (λ xs cells. instances.then_add (instances.ending t (instances.instance absent bs t turns) cells) (λ v cells. Ok (pairs_stored xs (v, cells)))) (others-parts absent bs is turns [] cells)
      (λ xs cells. others-add (instances.ending t (instances.instance absent bs t turns) cells) (λ v cells. Ok (pairs_stored xs (v, cells)))
      (others-if (instances.is_end t) (Ok (value.Atom a.Nil, cells)) (instances.instance absent bs t turns cells) tt (others-instance absent bs t turns cells)) (λ v cells. tt))
  others-instance absent bs (template.vector is) turns cells =
      others-add (instances.parts absent bs is turns [] cells) (λ xs cells. Ok (vector_stored (xs, cells))) (others-parts absent bs is turns [] cells) (λ xs cells. tt)

  others-parts : (absent : Absent) (bs : Binds) (is : PlainItems) (turns : List ℕ) (vs : List Value) → Stands (instances.parts absent bs is turns vs)
  others-parts absent bs template.none turns vs cells = tt
  others-parts absent bs (template.more t ellipses is) turns vs cells =
      others-add (instances.item (instances.instance absent bs t) (instances.counts absent bs t) ellipses turns vs cells) (instances.parts absent bs is turns)
      (others-item (instances.instance absent bs t) (instances.counts absent bs t) (others-instance absent bs t) ellipses turns vs cells) (others-parts absent bs is turns)

-- Costs of templates.

others-plus : (c d : measures.Cost) → Others c → Others d → Others (measures.plus c d)
others-plus c d h k = others-then c (λ m. d >>= λ n. Ok (m + n)) h (λ m. others-then d (λ n. Ok (m + n)) k (λ n. tt))

others-turns : (go : List ℕ → measures.Cost) → ((turns : List ℕ) → Others (go turns)) → (n i : ℕ) (turns : List ℕ) → Others (measures.turns_cost go n i turns)
others-turns go h zero i turns = tt
others-turns go h (suc n) i turns = others-plus (go (turns ++ i ∷ [])) (measures.turns_cost go n (i + 1) turns) (h (turns ++ i ∷ [])) (others-turns go h n (i + 1) turns)

others-item_cost : (go : List ℕ → measures.Cost) (counts : ℕ → List ℕ → List ℕ) → ((turns : List ℕ) → Others (go turns)) → (ellipses : ℕ) (turns : List ℕ) → Others (measures.item_cost go counts ellipses turns)
others-item_cost go counts h zero turns = others-plus (go turns) (Ok 1) (h turns) tt
others-item_cost go counts h (suc ellipses) turns =
    others-then (agree None (counts ellipses turns)) (λ n. measures.turns_cost (measures.item_cost go counts ellipses) (or_none n) 0 turns)
    (others-agree None (counts ellipses turns)) (λ n. others-turns (measures.item_cost go counts ellipses) (others-item_cost go counts h ellipses) (or_none n) 0 turns)

mutual
  pub others-measure : (absent : Absent) (bs : Binds) (t : PlainTemplate) (turns : List ℕ) → Others (measures.measure absent bs t turns)
  others-measure absent bs (template.variable l depth) turns = tt
  others-measure absent bs (template.constant t) turns = tt
  others-measure absent bs (template.list is t) turns =
      others-plus (measures.items_cost absent bs is turns) (measures.measure absent bs t turns) (others-items_cost absent bs is turns) (others-measure absent bs t turns)
  others-measure absent bs (template.vector is) turns = others-items_cost absent bs is turns

  others-items_cost : (absent : Absent) (bs : Binds) (is : PlainItems) (turns : List ℕ) → Others (measures.items_cost absent bs is turns)
  others-items_cost absent bs template.none turns = tt
  others-items_cost absent bs (template.more t ellipses is) turns =
      others-plus (measures.item_cost (measures.measure absent bs t) (instances.counts absent bs t) ellipses turns) (measures.items_cost absent bs is turns)
      (others-item_cost (measures.measure absent bs t) (instances.counts absent bs t) (others-measure absent bs t) ellipses turns) (others-items_cost absent bs is turns)
