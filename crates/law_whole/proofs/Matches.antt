-- What a pattern takes of a ready value is bound to its depth, and ready.
use Rattle.std.proofs.Common.{◌≡◌, ◌+◌, ◌-◌, ℕ, zero, suc, List, [], ◌∷◌, ◌++◌, Option, Some, None, Bool, true, false, length, take, drop, map, nat_le, refl, ap, sym, subst, ◌∙◌, append-nil, append_assoc, if◌then◌else◌}
use Rattle.base_data.proofs.ElementLemmas.{each-append, each-and, each-taken, each-dropped}
use Rattle.base_data.specs.Elements.{Each}
use Rattle.base_data.specs.declared.name.Label.{Label}
use Rattle.stx_tree.specs.Tree as tree
use Rattle.stx_tree.specs.Tree.{Tree}
use Rattle.stx_frames.specs.Scope.{Scope}
use Rattle.core_language.specs.Pattern.{PlainPattern, any, variable, literal, atom, list, vector, PlainPatterns, none, more, dots}
use Rattle.law_core.specs.Templates.{Depths, depths, all_depths}
use Rattle.core_shapes.specs.Lists.{elements}
use Rattle.eval_value.specs.Bind.{PlainBind, one, turns}
use Rattle.eval_value.specs.declared.value.Value.{Value}
use Rattle.eval_value.specs.declared.value.Value.TheVariants as value
use Rattle.eval_value.specs.declared.cell.Cell.{Cell}
use Rattle.eval_pattern.specs.Columns.{empty_column, empty_columns, all_empty_columns, with_bind, grown, closed}
use Rattle.eval_pattern.specs.Front.{has_room, fronted, on_pair, store_front, tree_front, further, front}
use Rattle.eval_pattern.specs.Matched.{nothing, and_then, kept, count, limit, repeated, no_rows, with_rows, on_elements, matched, all_matched}
use Rattle.eval_pattern.specs.Values.{atom_of, is_atom, is_alike, stored_pair, vector_of}
use Rattle.eval_pattern.specs.declared.columns.Column.{Column}
use Rattle.eval_pattern.specs.declared.columns.PatternBinds.{PatternBinds}
use Rattle.eval_pattern.specs.declared.columns.Rows.{Rows}
use Rattle.eval_pattern.specs.declared.front.Front.{Front}
use Rattle.law_prims.proofs.Taken.{PairOr, ValuesOr, pair_at_holds, vector_at_holds}
use Rattle.eval_code.specs.Instances.{Binds, match_of}
use Rattle.eval_code.specs.Setting.{PlainSetting}
use Rattle.law_whole.specs.PartsReady.{Bound, MatchReady}
use Rattle.law_whole.specs.Ready.{HasDepth, HaveDepth}
use Rattle.law_whole.specs.WholeWorld.{ValueReady, ValuesReady, BindReady, BindsReady, WholeWorld}
use Rattle.law_whole.proofs.Reading.{all_read_ready}

-- Depths under one ellipsis more.

abbrev raised : Depths → Depths
raised [] = []
raised (d ∷ ds) = (d.0, suc d.1) ∷ raised ds

raised_both : (xs ys : Depths) → raised (xs ++ ys) ≡ raised xs ++ raised ys
raised_both [] ys = refl
raised_both (d ∷ xs) ys = ap (λ (ds : Depths). (d.0, suc d.1) ∷ ds) (raised_both xs ys)

both_raised : (a b x y : Depths) → a ≡ raised x → b ≡ raised y → a ++ b ≡ raised (x ++ y)
both_raised a b x y h k = ap (λ (ds : Depths). ds ++ b) h ∙ ap (λ (ds : Depths). raised x ++ ds) k ∙ sym (raised_both x y)

mutual
  depths_raised : (n : ℕ) (p : PlainPattern) → depths (suc n) p ≡ raised (depths n p)
  depths_raised n any = refl
  depths_raised n (variable l) = refl
  depths_raised n (literal t) = refl
  depths_raised n (atom a) = refl
  depths_raised n (list ps t) = both_raised (all_depths (suc n) ps) (depths (suc n) t) (all_depths n ps) (depths n t) (all_raised n ps) (depths_raised n t)
  depths_raised n (vector ps) = all_raised n ps

  all_raised : (n : ℕ) (ps : PlainPatterns) → all_depths (suc n) ps ≡ raised (all_depths n ps)
  all_raised n none = refl
  all_raised n (more p ps) = both_raised (depths (suc n) p) (all_depths (suc n) ps) (depths n p) (all_depths n ps) (depths_raised n p) (all_raised n ps)
  all_raised n (dots p ps) = both_raised (depths (suc (suc n)) p) (all_depths (suc n) ps) (depths (suc n) p) (all_depths n ps) (depths_raised (suc n) p) (all_raised n ps)

-- Binds.

abbrev AreReady : PlainSetting → List Cell → Binds → Type 0
AreReady w cells bs = Each (λ (b : Label × PlainBind). BindReady w cells b.1) bs

bound_both : (ds es : Depths) (xs ys : Binds) → Bound ds xs → Bound es ys → Bound (ds ++ es) (xs ++ ys)
bound_both [] es [] ys h k = k
bound_both [] es (b ∷ xs) ys h k = absurd h
bound_both (d ∷ ds) es [] ys h k = absurd h
bound_both (d ∷ ds) es (b ∷ xs) ys h k = (h.0, (h.1.0, bound_both ds es xs ys h.1.1 k))

-- behind the binds that were there stand those of a pattern
record Took (w : PlainSetting) (cells : List Cell) (ds : Depths) (old after : Binds) : Type 0 where
  new : Binds
  is : old ++ new ≡ after
  bound_to : Bound ds new
  ready : AreReady w cells new

abbrev TookOr : PlainSetting → List Cell → Depths → Binds → Option PatternBinds → Type 0
TookOr w cells ds old None = Unit {0}
TookOr w cells ds old (Some f) = Took w cells ds old f.binds

took_none : (w : PlainSetting) (cells : List Cell) (old : Binds) → Took w cells [] old old
took_none w cells old = record { new = []; is = append-nil old; bound_to = tt; ready = tt }

took_both : (w : PlainSetting) (cells : List Cell) (ds es : Depths) (x y z : Binds) → Took w cells ds x y → Took w cells es y z → Took w cells (ds ++ es) x z
took_both w cells ds es x y z h k = record {
  new = h.new ++ k.new;
  is = sym (append_assoc x h.new k.new) ∙ ap (λ (bs : Binds). bs ++ k.new) h.is ∙ k.is;
  bound_to = bound_both ds es h.new k.new h.bound_to k.bound_to;
  ready = each-append (λ (b : Label × PlainBind). BindReady w cells b.1) h.new k.new h.ready k.ready;
}

took_then : (w : PlainSetting) (cells : List Cell) (ds es : Depths) (old : Binds) (o : Option PatternBinds) (go : PatternBinds → Option PatternBinds) → TookOr w cells ds old o
    → ((f : PatternBinds) → TookOr w cells es f.binds (go f)) → TookOr w cells (ds ++ es) old (and_then o go)
took_then w cells ds es old None go h k = tt
took_then w cells ds es old (Some f) go h k = later (go f) (k f)
  where
    later : (o : Option PatternBinds) → TookOr w cells es f.binds o → TookOr w cells (ds ++ es) old o
    later None j = tt
    later (Some g) j = took_both w cells ds es old f.binds g.binds h j

took_kept : (w : PlainSetting) (cells : List Cell) (b : Bool) (s : PatternBinds) → TookOr w cells [] s.binds (kept b s)
took_kept w cells true s = took_none w cells s.binds
took_kept w cells false s = tt

-- Columns.

abbrev Columns : PlainSetting → List Cell → Depths → List Column → Type 0
Columns w cells [] [] = Unit {0}
Columns w cells [] (c ∷ cols) = ⊥
Columns w cells (d ∷ ds) [] = ⊥
Columns w cells (d ∷ ds) (c ∷ cols) = (d.0 ≡ c.label) × (Each (HasDepth d.1) c.binds × (Each (BindReady w cells) c.binds × Columns w cells ds cols))

columns_both : (w : PlainSetting) (cells : List Cell) (ds es : Depths) (xs ys : List Column) → Columns w cells ds xs → Columns w cells es ys → Columns w cells (ds ++ es) (xs ++ ys)
columns_both w cells [] es [] ys h k = k
columns_both w cells [] es (c ∷ xs) ys h k = absurd h
columns_both w cells (d ∷ ds) es [] ys h k = absurd h
columns_both w cells (d ∷ ds) es (c ∷ xs) ys h k = (h.0, (h.1.0, (h.1.1.0, columns_both w cells ds es xs ys h.1.1.1 k)))

mutual
  empty_good : (w : PlainSetting) (cells : List Cell) (n : ℕ) (p : PlainPattern) (ds : Depths) (cols : List Column) → Columns w cells ds cols → Columns w cells (ds ++ depths n p) (empty_columns p cols)
  empty_good w cells n any ds cols h = subst (λ (es : Depths). Columns w cells es cols) (sym (append-nil ds)) h
  empty_good w cells n (variable l) ds cols h = columns_both w cells ds ((l, n) ∷ []) cols (empty_column l ∷ []) h (refl, (tt, (tt, tt)))
  empty_good w cells n (literal t) ds cols h = subst (λ (es : Depths). Columns w cells es cols) (sym (append-nil ds)) h
  empty_good w cells n (atom a) ds cols h = subst (λ (es : Depths). Columns w cells es cols) (sym (append-nil ds)) h
  empty_good w cells n (list ps t) ds cols h =
      subst (λ (es : Depths). Columns w cells es (empty_columns t (all_empty_columns ps cols))) (append_assoc ds (all_depths n ps) (depths n t))
      (empty_good w cells n t (ds ++ all_depths n ps) (all_empty_columns ps cols) (all_empty_good w cells n ps ds cols h))
  empty_good w cells n (vector ps) ds cols h = all_empty_good w cells n ps ds cols h

  all_empty_good : (w : PlainSetting) (cells : List Cell) (n : ℕ) (ps : PlainPatterns) (ds : Depths) (cols : List Column) → Columns w cells ds cols
      → Columns w cells (ds ++ all_depths n ps) (all_empty_columns ps cols)
  all_empty_good w cells n none ds cols h = subst (λ (es : Depths). Columns w cells es cols) (sym (append-nil ds)) h
  all_empty_good w cells n (more p ps) ds cols h =
      subst (λ (es : Depths). Columns w cells es (all_empty_columns ps (empty_columns p cols))) (append_assoc ds (depths n p) (all_depths n ps))
      (all_empty_good w cells n ps (ds ++ depths n p) (empty_columns p cols) (empty_good w cells n p ds cols h))
  all_empty_good w cells n (dots p ps) ds cols h =
      subst (λ (es : Depths). Columns w cells es (all_empty_columns ps (empty_columns p cols))) (append_assoc ds (depths (suc n) p) (all_depths n ps))
      (all_empty_good w cells n ps (ds ++ depths (suc n) p) (empty_columns p cols) (empty_good w cells (suc n) p ds cols h))

-- something behind each list of a column
grown_good : (w : PlainSetting) (cells : List Cell) (es ds : Depths) (done cols : List Column) (row : Binds) → Columns w cells es done → Columns w cells ds cols → Bound ds row → AreReady w cells row
    → Columns w cells (es ++ ds) (grown done cols row)
grown_good w cells es [] done [] row g h b r = subst (λ (fs : Depths). Columns w cells fs done) (sym (append-nil es)) g
grown_good w cells es [] done (c ∷ cols) row g h b r = absurd h
grown_good w cells es (d ∷ ds) done [] row g h b r = absurd h
grown_good w cells es (d ∷ ds) done (c ∷ cols) [] g h b r = absurd b
grown_good w cells es (d ∷ ds) done (c ∷ cols) (x ∷ row) g h b r =
    subst (λ (fs : Depths). Columns w cells fs (grown (done ++ with_bind c x.1 ∷ []) cols row)) (append_assoc es (d ∷ []) ds)
    (grown_good w cells (es ++ d ∷ []) ds (done ++ with_bind c x.1 ∷ []) cols row
    (columns_both w cells es (d ∷ []) done (with_bind c x.1 ∷ []) g
    (h.0, (each-and (HasDepth d.1) c.binds x.1 h.1.0 b.1.0, (each-and (BindReady w cells) c.binds x.1 h.1.1.0 r.0, tt))))
    h.1.1.1 b.1.1 r.1)

turns_have : (d : ℕ) (bs : List PlainBind) → Each (HasDepth d) bs → HaveDepth d (turns bs)
turns_have d [] h = tt
turns_have d (b ∷ bs) h = (h.0, turns_have d bs h.1)

turns_good : (w : PlainSetting) (cells : List Cell) (bs : List PlainBind) → Each (BindReady w cells) bs → BindsReady w cells (turns bs)
turns_good w cells [] h = tt
turns_good w cells (b ∷ bs) h = (h.0, turns_good w cells bs h.1)

closed_bound : (w : PlainSetting) (cells : List Cell) (ds : Depths) (cols : List Column) → Columns w cells ds cols → Bound (raised ds) (closed cols)
closed_bound w cells [] [] h = tt
closed_bound w cells [] (c ∷ cols) h = absurd h
closed_bound w cells (d ∷ ds) [] h = absurd h
closed_bound w cells (d ∷ ds) (c ∷ cols) h = (h.0, (turns_have d.1 c.binds h.1.0, closed_bound w cells ds cols h.1.1.1))

closed_ready : (w : PlainSetting) (cells : List Cell) (ds : Depths) (cols : List Column) → Columns w cells ds cols → AreReady w cells (closed cols)
closed_ready w cells [] [] h = tt
closed_ready w cells [] (c ∷ cols) h = absurd h
closed_ready w cells (d ∷ ds) [] h = absurd h
closed_ready w cells (d ∷ ds) (c ∷ cols) h = (turns_good w cells c.binds h.1.1.0, closed_ready w cells ds cols h.1.1.1)

abbrev RowsOr : PlainSetting → List Cell → Depths → Option Rows → Type 0
RowsOr w cells ds None = Unit {0}
RowsOr w cells ds (Some rows) = Columns w cells ds rows.columns

repeated_good : (w : PlainSetting) (cells : List Cell) (ds : Depths) (go : Value → PatternBinds → Option PatternBinds) → ((v : Value) (s : PatternBinds) → ValueReady w cells v → TookOr w cells ds s.binds (go v s))
    → (xs : List Value) (rows : Rows) → Columns w cells ds rows.columns → ValuesReady w cells xs → RowsOr w cells ds (repeated go rows xs)
repeated_good w cells ds go goes [] rows h r = h
repeated_good w cells ds go goes (x ∷ xs) rows h r =
    by_row (λ next k. repeated_good w cells ds go goes xs next k r.1) (go x (nothing (rows.taken + 1))) (goes x (nothing (rows.taken + 1)) r.0)
  where
    by_row : ((next : Rows) → Columns w cells ds next.columns → RowsOr w cells ds (repeated go next xs)) → (o : Option PatternBinds) → TookOr w cells ds [] o
        → RowsOr w cells ds (and_then o (λ row. repeated go (record { columns = grown [] rows.columns row.binds; taken = row.taken }) xs))
    by_row again None j = tt
    by_row again (Some row) j =
        again (record { columns = grown [] rows.columns row.binds; taken = row.taken })
        (grown_good w cells [] ds [] rows.columns row.binds tt h (subst (λ (bs : Binds). Bound ds bs) j.is j.bound_to) (subst (λ (bs : Binds). AreReady w cells bs) j.is j.ready))

-- Elements of lists and vectors.

abbrev FrontReady : PlainSetting → List Cell → Front → Type 0
FrontReady w cells f = ValuesReady w cells f.elements × ValueReady w cells f.rest

trees_ready : (w : PlainSetting) (cells : List Cell) (ts : List Tree) → ValuesReady w cells (map value.Syn ts)
trees_ready w cells [] = tt
trees_ready w cells (t ∷ ts) = (record { fits = tt; ready = tt }, trees_ready w cells ts)

module _ (w : PlainSetting) (cells : List Cell) (world : WholeWorld w cells) where
  pair_ready : (v : Value) → PairOr (ValueReady w cells) (stored_pair cells v)
  pair_ready (value.Pair p) = pair_at_holds (ValueReady w cells) cells (all_read_ready w cells world) p.0
  pair_ready value.Unspecified = tt
  pair_ready (value.Atom x) = tt
  pair_ready (value.Symbol x) = tt
  pair_ready (value.Vector p) = tt
  pair_ready (value.Str p) = tt
  pair_ready (value.Closure c p) = tt
  pair_ready (value.Prim op) = tt
  pair_ready (value.Syn t) = tt
  pair_ready (value.Transformer p) = tt

  vector_ready : (v : Value) → ValuesOr (ValueReady w cells) (vector_of cells v)
  vector_ready (value.Vector p) = vector_at_holds (ValueReady w cells) cells (all_read_ready w cells world) p.0
  vector_ready (value.Syn (tree.atom s x)) = tt
  vector_ready (value.Syn (tree.leaf s x c)) = tt
  vector_ready (value.Syn (tree.pair s x d)) = tt
  vector_ready (value.Syn (tree.vector s d)) = trees_ready w cells (elements d)
  vector_ready value.Unspecified = tt
  vector_ready (value.Atom x) = tt
  vector_ready (value.Symbol x) = tt
  vector_ready (value.Pair p) = tt
  vector_ready (value.Str p) = tt
  vector_ready (value.Closure c p) = tt
  vector_ready (value.Prim op) = tt
  vector_ready (value.Transformer p) = tt

  store_front_ready : (left : ℕ) (room : Option ℕ) (done : List Value) (v : Value) → ValuesReady w cells done → ValueReady w cells v → FrontReady w cells (store_front cells left room done v)
  store_front_ready zero room done v r k = (r, k)
  store_front_ready (suc left) room done v r k = by_room (has_room room (length done)) (store_front_ready left room)
    where
      by_pair : ((xs : List Value) (x : Value) → ValuesReady w cells xs → ValueReady w cells x → FrontReady w cells (store_front cells left room xs x)) → (o : Option (Value × Value)) → PairOr (ValueReady w cells) o
          → FrontReady w cells (on_pair o (fronted done v) (λ x rest. store_front cells left room (done ++ x ∷ []) rest))
      by_pair again None p = (r, k)
      by_pair again (Some q) p = again (done ++ q.0 ∷ []) q.1 (each-and (ValueReady w cells) done q.0 r p.0) p.1

      by_room : (t : Bool) → ((xs : List Value) (x : Value) → ValuesReady w cells xs → ValueReady w cells x → FrontReady w cells (store_front cells left room xs x))
          → FrontReady w cells (if t then on_pair (stored_pair cells v) (fronted done v) (λ x rest. store_front cells left room (done ++ x ∷ []) rest) else fronted done v)
      by_room true again = by_pair again (stored_pair cells v) (pair_ready v)
      by_room false again = (r, k)

  tree_front_ready : (room : Option ℕ) (t : Tree) (done : List Value) → ValuesReady w cells done → FrontReady w cells (tree_front room done t)
  tree_front_ready room (tree.atom s x) done r = (r, record { fits = tt; ready = tt })
  tree_front_ready room (tree.leaf s x c) done r = (r, record { fits = tt; ready = tt })
  tree_front_ready room (tree.pair s x d) done r = by_room (has_room room (length done)) (tree_front_ready room d (done ++ value.Syn x ∷ []) (each-and (ValueReady w cells) done (value.Syn x) r (record { fits = tt; ready = tt })))
    where
      by_room : (t : Bool) → FrontReady w cells (tree_front room (done ++ value.Syn x ∷ []) d)
          → FrontReady w cells (if t then tree_front room (done ++ value.Syn x ∷ []) d else fronted done (value.Syn (tree.pair s x d)))
      by_room true k = k
      by_room false k = (r, record { fits = tt; ready = tt })
  tree_front_ready room (tree.vector s d) done r = (r, record { fits = tt; ready = tt })

  further_ready : (room : Option ℕ) (done : List Value) (v : Value) → ValuesReady w cells done → ValueReady w cells v → FrontReady w cells (further room done v)
  further_ready room done (value.Syn t) r k = tree_front_ready room t done r
  further_ready room done value.Unspecified r k = (r, k)
  further_ready room done (value.Atom x) r k = (r, k)
  further_ready room done (value.Symbol x) r k = (r, k)
  further_ready room done (value.Pair p) r k = (r, k)
  further_ready room done (value.Vector p) r k = (r, k)
  further_ready room done (value.Str p) r k = (r, k)
  further_ready room done (value.Closure c p) r k = (r, k)
  further_ready room done (value.Prim op) r k = (r, k)
  further_ready room done (value.Transformer p) r k = (r, k)

  front_ready : (room : Option ℕ) (v : Value) → ValueReady w cells v → FrontReady w cells (front cells room v)
  front_ready room v k =
      let f = store_front cells (length cells) room [] v in
      let h = store_front_ready (length cells) room [] v tt k in
      further_ready room f.elements f.rest h.0 h.1

-- Patterns.

module _ (w : PlainSetting) (cells : List Cell) (world : WholeWorld w cells) (fs : Scope) where
  mutual
    matched_took : (p : PlainPattern) (v : Value) (s : PatternBinds) → ValueReady w cells v → TookOr w cells (depths 0 p) s.binds (matched fs cells p v s)
    matched_took any v s r = took_none w cells s.binds
    matched_took (variable l) v s r = record { new = (l, one v) ∷ []; is = refl; bound_to = (refl, (tt, tt)); ready = (r, tt) }
    matched_took (literal t) v s r = took_kept w cells (is_alike fs t v) s
    matched_took (atom a) v s r = took_kept w cells (is_atom a (atom_of cells v)) s
    matched_took (list ps t) v s r =
        let f = front cells (limit ps) v in
        let h = front_ready w cells world (limit ps) v r in
        took_then w cells (all_depths 0 ps) (depths 0 t) s.binds (all_matched fs cells ps f.elements s) (matched fs cells t f.rest) (all_took ps f.elements s h.0) (λ g. matched_took t f.rest g h.1)
    matched_took (vector ps) v s r = by_elements (vector_of cells v) (vector_ready w cells world v) (λ xs k. all_took ps xs s k)
      where
        by_elements : (o : Option (List Value)) → ValuesOr (ValueReady w cells) o → ((xs : List Value) → ValuesReady w cells xs → TookOr w cells (all_depths 0 ps) s.binds (all_matched fs cells ps xs s))
            → TookOr w cells (all_depths 0 ps) s.binds (on_elements o (λ xs. all_matched fs cells ps xs s))
        by_elements None h k = tt
        by_elements (Some xs) h k = k xs h

    all_took : (ps : PlainPatterns) (xs : List Value) (s : PatternBinds) → ValuesReady w cells xs → TookOr w cells (all_depths 0 ps) s.binds (all_matched fs cells ps xs s)
    all_took none [] s r = took_none w cells s.binds
    all_took none (x ∷ xs) s r = tt
    all_took (more p ps) [] s r = tt
    all_took (more p ps) (x ∷ xs) s r =
        took_then w cells (depths 0 p) (all_depths 0 ps) s.binds (matched fs cells p x s) (all_matched fs cells ps xs) (matched_took p x s r.0) (λ g. all_took ps xs g r.1)
    all_took (dots p ps) xs s r =
        let n = length xs - count ps in
        let rows = repeated_good w cells (depths 0 p) (matched fs cells p) (λ v g k. matched_took p v g k) (take n xs) (no_rows p s.taken) (empty_good w cells 0 p [] [] tt) (each-taken (ValueReady w cells) n xs r) in
        by_room (nat_le (count ps) (length xs)) (by_rows (repeated (matched fs cells p) (no_rows p s.taken) (take n xs)) rows (λ g. all_took ps (drop n xs) g (each-dropped (ValueReady w cells) n xs r)))
      where
        by_rows : (o : Option Rows) → RowsOr w cells (depths 0 p) o → ((g : PatternBinds) → TookOr w cells (all_depths 0 ps) g.binds (all_matched fs cells ps (drop (length xs - count ps) xs) g))
            → TookOr w cells (depths 1 p ++ all_depths 0 ps) s.binds (and_then o (λ rows. all_matched fs cells ps (drop (length xs - count ps) xs) (with_rows s rows)))
        by_rows None h k = tt
        by_rows (Some rows) h k =
            let g = with_rows s rows in
            let first : Took w cells (depths 1 p) s.binds g.binds = record {
              new = closed rows.columns;
              is = refl;
              bound_to = subst (λ (ds : Depths). Bound ds (closed rows.columns)) (sym (depths_raised 0 p)) (closed_bound w cells (depths 0 p) rows.columns h);
              ready = closed_ready w cells (depths 0 p) rows.columns h;
            } in
            took_then w cells (depths 1 p) (all_depths 0 ps) s.binds (Some g) (all_matched fs cells ps (drop (length xs - count ps) xs)) first k

        by_room : (t : Bool) → TookOr w cells (depths 1 p ++ all_depths 0 ps) s.binds
            (and_then (repeated (matched fs cells p) (no_rows p s.taken) (take (length xs - count ps) xs)) (λ rows. all_matched fs cells ps (drop (length xs - count ps) xs) (with_rows s rows)))
            → TookOr w cells (depths 1 p ++ all_depths 0 ps) s.binds
            (if t then and_then (repeated (matched fs cells p) (no_rows p s.taken) (take (length xs - count ps) xs)) (λ rows. all_matched fs cells ps (drop (length xs - count ps) xs) (with_rows s rows)) else None)
        by_room true k = k
        by_room false k = tt

-- the binds of a match from nothing
match_good : (w : PlainSetting) (cells : List Cell) (p : PlainPattern) (f : PatternBinds) (o : Option PatternBinds) → TookOr w cells (depths 0 p) [] o → o ≡ Some f → MatchReady w cells p f
match_good w cells p f None h e = absurd (cc)
match_good w cells p f (Some g) h e =
    let is : g ≡ f = cc in
    subst (λ (x : PatternBinds). MatchReady w cells p x) is
    (record { bound = subst (λ (bs : Binds). Bound (depths 0 p) bs) h.is h.bound_to; ready = subst (λ (bs : Binds). AreReady w cells bs) h.is h.ready })

pub match_ready : (w : PlainSetting) (cells : List Cell) (p : PlainPattern) (v : Value) (f : PatternBinds) → WholeWorld w cells → ValueReady w cells v → match_of w.frames cells p v ≡ Some f → MatchReady w cells p f
match_ready w cells p v f world r e = match_good w cells p f (match_of w.frames cells p v) (matched_took w cells world w.frames p v (nothing 0) r) e
