-- Evaluating the code of a plan.
use Rattle.std.proofs.Common.{Result, Err, ◌≡◌, ℕ, ◌+◌, ◌≤◌, true, false, List, [], ◌∷◌, ◌++◌, length, take, None, Some, Ok, refl, sym, ap, subst, ◌∙◌, arith, append_assoc, length-append, length-take}
use Rattle.std.proofs.lemmas.List.{append-nil}
use Rattle.base_data.specs.declared.fault.Bare.{Bare}
use Rattle.base_data.specs.declared.span.Span.{Span}
use Rattle.base_data.specs.declared.op.Op.{Op}
use Rattle.base_data.specs.declared.op.names.TheConstants as names
use Rattle.base_region.specs.declared.region.Place.{Place}
use Rattle.base_region.proofs.Laws.{slice_get-added}
use Rattle.stx_tree.specs.Leaves.{strip}
use Rattle.stx_tree.specs.Tree.{Tree, pair, nil, chain}
use Rattle.stx_tree.proofs.TreeLaws.{chain-append}
use Rattle.core_shapes.specs.Lists.{elements}
use Rattle.core_language.specs.Core as core
use Rattle.core_language.specs.Core.{PlainCore, quoted, primitive, call, cores}
use Rattle.core_quasi.specs.Plan.{PlainQuasi, PlainQuasis, constant, expression, none, more}
use Rattle.core_quasi.specs.Plan as plan
use Rattle.core_quasi.specs.Quasi.{quasi_at, at_form, quasi}
use Rattle.core_quasi.specs.Words.{WordOf}
use Rattle.core_quasi.specs.declared.maker.Maker.{Maker}
use Rattle.core_quasi.specs.declared.maker.Maker.TheVariants as maker
use Rattle.core_quasi.proofs.Levels.{elements_chain}
use Rattle.eval_value.specs.Cells.{vector_in}
use Rattle.eval_value.specs.FromDatum.{stored, pairs_stored}
use Rattle.eval_value.proofs.Stored.{stored_keeps}
use Rattle.eval_value.specs.declared.value.Value.{Value}
use Rattle.eval_value.specs.declared.value.Value.TheVariants as value
use Rattle.eval_value.specs.declared.cell.Cell.{Cell}
use Rattle.eval_value.specs.declared.cell.Cell.TheVariants as cell
use Rattle.eval_prims.specs.Chains.{list_elements}
use Rattle.eval_prims.specs.Each.{if_some}
use Rattle.eval_prims.specs.Lists.{elements_joined}
use Rattle.eval_prims.specs.Lists as lists
use Rattle.eval_prims.specs.declared.made.PrimResult.TheVariants as made
use Rattle.eval_code.specs.Meaning.{eval_of, applied, quoted_value}
use Rattle.eval_code.specs.Procedures.{has_text}
use Rattle.eval_code.specs.Quoted.{datum_cost}
use Rattle.eval_code.specs.Setting.{PlainSetting}
use Rattle.eval_code.specs.State.{WorldState, done, store}
use Rattle.eval_code.specs.State as states
use Rattle.law_eval.specs.Kept.{LaterWorld, EndsLater}
use Rattle.law_eval.proofs.Keeping.{keeps-eval_of, later_then}
use Rattle.law_lists.specs.Runs.{Runs}
use Rattle.law_lists.proofs.RunLemmas.{runs_still, stored_runs}
use Rattle.law_given.specs.Calls.{Gives, call_to, Calls}
use Rattle.law_given.proofs.Calling.{plain-called}
use Rattle.law_given.proofs.Giving.{gives-done, gives-charged, Evaluates, evaluates-step, primitive-is, Operands, operand, call-is}
use Rattle.law_given.proofs.Later.{later-refl, calls-later}
use Rattle.law_given.proofs.Looking.{later-stay}
use Rattle.law_quasi.proofs.Means.{plan_means}
use Rattle.law_quasi.specs.Filled as template
use Rattle.law_quasi.specs.Makes.{FilledBy, plain, cons_star, append, list_to_vector, makes, values}
use Rattle.expand_quasi.specs.Filled.{op_of, call_of, filled}
use Rattle.law_quasi_code.specs.Shows.{Shows, of_atom, of_vector, ShowsEach, no_more, one_more}
use Rattle.law_quasi_code.specs.Values.{AllGive, GivesShown}
use Rattle.law_quasi_code.specs.Wants.{Want, wants_as, all_wants, append_wants, wants}
use Rattle.law_quasi_code.proofs.Answers.{list_answer, star_answer, append_answer, vector_answer}
use Rattle.law_quasi_code.proofs.Codes.{codes_of, codes_are}
use Rattle.law_quasi_code.proofs.Showing.{Listed, listed_elements, elements_listed, shows_still, each_still, each_both, run_shows, stored_shows}
use Rattle.law_quasi_code.proofs.WellMade.{IsSome, EndsInNil, IsPlan, ArePlans, IsArgument, AreJoined, IsWhole, argument_plan, well_made}

-- Later states.

later-cells : (s t : WorldState) → LaterWorld s t → length s.cells ≤ length t.cells
later-cells s t h =
    let e : length (take (length s.cells) t.cells) ≡ length s.cells = ap (λ (cs : List Cell). length cs) h.cells in
    omega (arith, e, length-take (length s.cells) t.cells)

listed_later : (s t : WorldState) → LaterWorld s t → (xs : List Value) (x : Value) → Listed s.cells xs x → Listed t.cells xs x
listed_later s t h xs x k = record { runs = runs_still s.cells t.cells (later-stay s t h) k.runs; short = omega (arith, k.short, later-cells s t h) }

gives-later : (w : PlainSetting) (c : PlainCore) (scope : Place) (s : WorldState) (v : Value) (t : WorldState) → Evaluates w c scope s v t → LaterWorld s t
gives-later w c scope s v t g = subst (EndsLater s) (g.1 0) (keeps-eval_of w c scope s (0 + g.0))

-- What is made.

nil_shown : (given : List (Tree × Value)) (cells : List Cell) (v : Value) → Shows given cells nil v → v ≡ lists.nil
nil_shown given cells v (of_atom e) = refl

stored_length : (xs : List Value) (rest : Value) (cells : List Cell) → length xs ≤ length (pairs_stored xs (rest, cells)).1
stored_length [] rest cells = omega arith
stored_length (x ∷ xs) rest cells =
    let p = pairs_stored xs (rest, cells) in
    omega (arith, stored_length xs rest cells, length-append p.1 (cell.Pair x p.0 ∷ []))

-- the trees of an `append`, and what their values join to
record Joined (given : List (Tree × Value)) (cells : List Cell) (ts : List Tree) (vs : List Value) : Type 0 where
  fronts : List Value
  last : Value
  joined : List Value
  trees : List Tree
  end : Tree
  are : vs ≡ fronts ++ last ∷ []
  join : (done : List Value) → elements_joined cells done fronts ≡ Some (done ++ joined)
  tree : append ts ≡ chain trees end
  each : ShowsEach given cells (chain trees nil) joined
  ended : Shows given cells end last

module _ (given : List (Tree × Value)) (cells : List Cell) where
  joined_one : (t : Tree) (v : Value) → Shows given cells t v → Joined given cells (t ∷ []) (v ∷ [])
  unfolding elements_joined
  joined_one t v h = record {
    fronts = [];
    last = v;
    joined = [];
    trees = [];
    end = t;
    are = refl;
    join = λ done. ap Some (sym (append-nil done));
    tree = refl;
    each = no_more;
    ended = h;
  }

  -- a list before others
  joined_more : (t u : Tree) (ts : List Tree) (v : Value) (vs xs : List Value) → list_elements cells v ≡ Some xs → ShowsEach given cells (chain (elements t) nil) xs
      → Joined given cells (u ∷ ts) vs → Joined given cells (t ∷ u ∷ ts) (v ∷ vs)
  unfolding elements_joined
  joined_more t u ts v vs xs e h j = record {
    fronts = v ∷ j.fronts;
    last = j.last;
    joined = xs ++ j.joined;
    trees = elements t ++ j.trees;
    end = j.end;
    are = ap (λ zs. v ∷ zs) j.are;
    join = λ done. ap (λ o. if_some o (λ ys. elements_joined cells (done ++ ys) j.fronts)) e ∙ j.join (done ++ xs) ∙ ap Some (append_assoc done xs j.joined);
    tree = ap (chain (elements t)) j.tree ∙ sym (chain-append (elements t) j.trees j.end);
    each = each_both given cells (elements t) j.trees xs j.joined h j.each;
    ended = j.ended;
  }

  -- the last of these, of which `cons*` makes the rest
  record Ended (ts : List Tree) (vs : List Value) : Type 0 where
    fronts : List Value
    last : Value
    trees : List Tree
    end : Tree
    are : vs ≡ fronts ++ last ∷ []
    tree : cons_star ts ≡ chain trees end
    each : ShowsEach given cells (chain trees nil) fronts
    ended : Shows given cells end last

  star_ended : (t : Tree) (ts : List Tree) (v : Value) (vs : List Value) → Shows given cells t v → ShowsEach given cells (chain ts nil) vs → Ended (t ∷ ts) (v ∷ vs)
  star_ended t [] v vs h no_more = record { fronts = []; last = v; trees = []; end = t; are = refl; tree = refl; each = no_more; ended = h }
  star_ended t (u ∷ ts) v vs h (one_more {x = x} {xs = xs} g k) =
      let r = star_ended u ts x xs g k in record {
        fronts = v ∷ r.fronts;
        last = r.last;
        trees = t ∷ r.trees;
        end = r.end;
        are = ap (λ zs. v ∷ zs) r.are;
        tree = ap (pair None t) r.tree;
        each = one_more h r.each;
        ended = r.ended;
      }

module _ (w : PlainSetting) (scope : Place) (given : List (Tree × Value)) (f : FilledBy) where
  abbrev Ready : List Want → List PlainCore → WorldState → Type 0
  Ready xs cs s = AllGive w scope given f xs cs s

  -- an expression gives a value that shows this tree, and the rest can be evaluated
  record Ran (c : PlainCore) (t : Tree) (rest : List Want) (cs : List PlainCore) (s : WorldState) : Type 0 where
    value : Value
    state : WorldState
    evaluated : Evaluates w c scope s value state
    shown : Shows given state.cells t value
    left : Ready rest cs state
    later : LaterWorld s state

  -- likewise, a list
  record RanList (c : PlainCore) (t : Tree) (rest : List Want) (cs : List PlainCore) (s : WorldState) : Type 0 where
    value : Value
    state : WorldState
    evaluated : Evaluates w c scope s value state
    elements_of : List Value
    listed : Listed state.cells elements_of value
    each : ShowsEach given state.cells (chain (elements t) nil) elements_of
    left : Ready rest cs state
    later : LaterWorld s state

  -- operands, before a call of what stands before them
  record RanAll (codes : List PlainCore) (ts : List Tree) (rest : List Want) (cs : List PlainCore) (s : WorldState) : Type 0 where
    values_of : List Value
    state : WorldState
    operands : (vs : List Value) (v : Value) (u : WorldState) → Gives (applied w (eval_of w) (vs ++ values_of) state) v u → Operands w (cores codes) scope vs s v u
    each : ShowsEach given state.cells (chain ts nil) values_of
    left : Ready rest cs state
    later : LaterWorld s state

  record RanJoined (qs : PlainQuasis) (rest : List Want) (cs : List PlainCore) (s : WorldState) : Type 0 where
    values_of : List Value
    state : WorldState
    operands : (vs : List Value) (v : Value) (u : WorldState) → Gives (applied w (eval_of w) (vs ++ values_of) state) v u → Operands w (cores (codes_of qs cs).0) scope vs s v u
    parts : Joined given state.cells (values f qs) values_of
    nil_end : EndsInNil qs → parts.end ≡ nil
    left : Ready rest (codes_of qs cs).1 state
    later : LaterWorld s state

  -- Constants.

  quoted_gives : (t : Tree) (s : WorldState) → Evaluates w (quoted (strip t)) scope s (stored (strip t) s.cells).0 (store (stored (strip t) s.cells).1 s.names)
  unfolding quoted_value
  quoted_gives t s =
      evaluates-step w (quoted (strip t)) scope s v u (gives-charged (datum_cost (strip t)) s (λ n. states.made s.names (stored (strip t) s.cells) n) v u (gives-done v u))
    where
      v : Value
      v = (stored (strip t) s.cells).0

      u : WorldState
      u = store (stored (strip t) s.cells).1 s.names

  stored_later : (t : Tree) (s : WorldState) → LaterWorld s (store (stored (strip t) s.cells).1 s.names)
  stored_later t s = record { cells = stored_keeps (strip t) s.cells; library = refl; names = omega arith }

  ready_later : (xs : List Want) (cs : List PlainCore) (s t : WorldState) → LaterWorld s t → Ready xs cs s → Ready xs cs t
  ready_later [] cs s t h g = tt
  ready_later (x ∷ xs) [] s t h g = g
  ready_later (x ∷ xs) (c ∷ cs) s t h g = λ u k. g u (later_then s t u h k)

  run_constant : (t : Tree) (rest : List Want) (cs : List PlainCore) (s : WorldState) → Ready rest cs s → Ran (quoted (strip t)) (plain t) rest cs s
  run_constant t rest cs s g = record {
    value = (stored (strip t) s.cells).0;
    state = store (stored (strip t) s.cells).1 s.names;
    evaluated = quoted_gives t s;
    shown = stored_shows given t s.cells;
    left = ready_later rest cs s (store (stored (strip t) s.cells).1 s.names) (stored_later t s) g;
    later = stored_later t s;
  }

  -- Calls.

  module _ (rest : List Want) (cs : List PlainCore) (s : WorldState) where
    call_gives : (op : Op) (codes : List PlainCore) (vs : List Value) (t u : WorldState) (v : Value)
        → ((us : List Value) (x : Value) (q : WorldState) → Gives (applied w (eval_of w) (us ++ vs) t) x q → Operands w (cores codes) scope us s x q)
        → Calls w (call_to (value.Prim op) vs) t v u → Evaluates w (call_of op codes) scope s v u
    call_gives op codes vs t u v operands h =
        call-is w (primitive op) (cores codes) scope s s u (value.Prim op) v (primitive-is w op scope s) (operands (value.Prim op ∷ []) v u h)

    -- new pairs of these before a rest
    pairs_called : (op : ℕ) (vs xs : List Value) (end : Value) (t : WorldState) → Calls w (call_to (value.Prim (record { 0 = op })) vs) t (pairs_stored xs (end, t.cells)).0 (store (pairs_stored xs (end, t.cells)).1 t.names)
        → LaterWorld t (store (pairs_stored xs (end, t.cells)).1 t.names)
    pairs_called op vs xs end t h = calls-later w (value.Prim (record { 0 = op })) vs t (pairs_stored xs (end, t.cells)).0 (store (pairs_stored xs (end, t.cells)).1 t.names) h

    list_called : (vs : List Value) (t : WorldState) → Calls w (call_to (value.Prim (op_of maker.List)) vs) t (pairs_stored vs (lists.nil, t.cells)).0 (store (pairs_stored vs (lists.nil, t.cells)).1 t.names)
    unfolding has_text
    list_called vs t = plain-called w (op_of maker.List) vs t (made.List vs lists.nil) refl refl refl (list_answer t.cells w.frames vs)

    star_called : (xs : List Value) (end : Value) (t : WorldState) → Calls w (call_to (value.Prim (op_of maker.ConsStar)) (xs ++ end ∷ [])) t (pairs_stored xs (end, t.cells)).0 (store (pairs_stored xs (end, t.cells)).1 t.names)
    unfolding has_text
    star_called xs end t = plain-called w (op_of maker.ConsStar) (xs ++ end ∷ []) t (made.List xs end) refl refl refl (star_answer t.cells w.frames xs end)

    append_called : (xs ys : List Value) (end : Value) (t : WorldState) → elements_joined t.cells [] xs ≡ Some ys
        → Calls w (call_to (value.Prim (op_of maker.Append)) (xs ++ end ∷ [])) t (pairs_stored ys (end, t.cells)).0 (store (pairs_stored ys (end, t.cells)).1 t.names)
    unfolding has_text
    append_called xs ys end t e = plain-called w (op_of maker.Append) (xs ++ end ∷ []) t (made.List ys end) refl refl refl (append_answer t.cells w.frames xs ys end e)

    vector_called : (x : Value) (xs : List Value) (t : WorldState) → list_elements t.cells x ≡ Some xs
        → Calls w (call_to (value.Prim (op_of maker.ListToVector)) (x ∷ [])) t (value.Vector (record { 0 = length t.cells })) (store (t.cells ++ cell.Vector xs ∷ []) t.names)
    unfolding has_text
    vector_called x xs t e = plain-called w (op_of maker.ListToVector) (x ∷ []) t (made.Vector xs) refl refl refl (vector_answer t.cells w.frames x xs e)

    -- `list`

    list_ran : (codes : List PlainCore) (ts : List Tree) → RanAll codes ts rest cs s → RanList (call_of (op_of maker.List) codes) (chain ts nil) rest cs s
    list_ran codes ts r =
        let h = list_called r.values_of r.state in
        let u = store (pairs_stored r.values_of (lists.nil, r.state.cells)).1 r.state.names in
        let k = pairs_called names.LIST r.values_of r.values_of lists.nil r.state h in
        record {
          value = (pairs_stored r.values_of (lists.nil, r.state.cells)).0;
          state = u;
          evaluated = call_gives (op_of maker.List) codes r.values_of r.state u (pairs_stored r.values_of (lists.nil, r.state.cells)).0 r.operands h;
          elements_of = r.values_of;
          listed = record { runs = stored_runs r.values_of lists.nil r.state.cells; short = stored_length r.values_of lists.nil r.state.cells };
          each = subst (λ (us : List Tree). ShowsEach given u.cells (chain us nil) r.values_of) (sym (elements_chain ts)) (each_still given r.state.cells u.cells (later-stay r.state u k) r.each);
          left = ready_later rest cs r.state u k r.left;
          later = later_then s r.state u r.later k;
        }

    -- a list of new elements shows them
    list_shown : (c : PlainCore) (ts : List Tree) → RanList c (chain ts nil) rest cs s → Ran c (chain ts nil) rest cs s
    list_shown c ts r = record {
      value = r.value;
      state = r.state;
      evaluated = r.evaluated;
      shown = run_shows given r.state.cells ts r.elements_of nil lists.nil r.value
          (subst (λ (us : List Tree). ShowsEach given r.state.cells (chain us nil) r.elements_of) (elements_chain ts) r.each) (of_atom refl) r.listed.runs;
      left = r.left;
      later = r.later;
    }

    -- `cons*`

    star_by : (codes : List PlainCore) (ts : List Tree) (r : RanAll codes ts rest cs s) → Ended given r.state.cells ts r.values_of → Ran (call_of (op_of maker.ConsStar) codes) (cons_star ts) rest cs s
    star_by codes ts r e =
        let p = pairs_stored e.fronts (e.last, r.state.cells) in
        let u = store p.1 r.state.names in
        let h : Calls w (call_to (value.Prim (op_of maker.ConsStar)) r.values_of) r.state p.0 u =
        subst (λ (vs : List Value). Calls w (call_to (value.Prim (op_of maker.ConsStar)) vs) r.state p.0 u) (sym e.are) (star_called e.fronts e.last r.state) in
        let k = pairs_called names.CONS_STAR r.values_of e.fronts e.last r.state h in
        record {
          value = p.0;
          state = u;
          evaluated = call_gives (op_of maker.ConsStar) codes r.values_of r.state u p.0 r.operands h;
          shown = subst (λ (t : Tree). Shows given u.cells t p.0) (sym e.tree)
              (run_shows given u.cells e.trees e.fronts e.end e.last p.0
              (each_still given r.state.cells u.cells (later-stay r.state u k) e.each)
              (shows_still given r.state.cells u.cells (later-stay r.state u k) e.ended) (stored_runs e.fronts e.last r.state.cells));
          left = ready_later rest cs r.state u k r.left;
          later = later_then s r.state u r.later k;
        }

    star_ran : (codes : List PlainCore) (t : Tree) (ts : List Tree) → RanAll codes (t ∷ ts) rest cs s → Ran (call_of (op_of maker.ConsStar) codes) (cons_star (t ∷ ts)) rest cs s
    star_ran codes t ts r = star_by codes (t ∷ ts) r (ended_of r.values_of r.each)
      where
        ended_of : (us : List Value) → ShowsEach given r.state.cells (chain (t ∷ ts) nil) us → Ended given r.state.cells (t ∷ ts) us
        ended_of us (one_more {x = x} {xs = xs} h k) = star_ended given r.state.cells t ts x xs h k

    -- `append`

    module _ (qs : PlainQuasis) (r : RanJoined qs rest cs s) where
      abbrev joined_to : Value × List Cell
      joined_to = pairs_stored r.parts.joined (r.parts.last, r.state.cells)

      abbrev joined_state : WorldState
      joined_state = store joined_to.1 r.state.names

      joined_call : Calls w (call_to (value.Prim (op_of maker.Append)) r.values_of) r.state joined_to.0 joined_state
      joined_call =
          subst (λ (vs : List Value). Calls w (call_to (value.Prim (op_of maker.Append)) vs) r.state joined_to.0 joined_state) (sym r.parts.are)
          (append_called r.parts.fronts r.parts.joined r.parts.last r.state (r.parts.join []))

      joined_later : LaterWorld r.state joined_state
      joined_later = pairs_called names.APPEND r.values_of r.parts.joined r.parts.last r.state joined_call

      joined_given : Evaluates w (call_of (op_of maker.Append) (codes_of qs cs).0) scope s joined_to.0 joined_state
      joined_given = call_gives (op_of maker.Append) (codes_of qs cs).0 r.values_of r.state joined_state joined_to.0 r.operands joined_call

      each_then : ShowsEach given joined_state.cells (chain r.parts.trees nil) r.parts.joined
      each_then = each_still given r.state.cells joined_state.cells (later-stay r.state joined_state joined_later) r.parts.each

      append_ran : Ran (call_of (op_of maker.Append) (codes_of qs cs).0) (append (values f qs)) rest (codes_of qs cs).1 s
      append_ran = record {
        value = joined_to.0;
        state = joined_state;
        evaluated = joined_given;
        shown = subst (λ (t : Tree). Shows given joined_state.cells t joined_to.0) (sym r.parts.tree)
            (run_shows given joined_state.cells r.parts.trees r.parts.joined r.parts.end r.parts.last joined_to.0 each_then
            (shows_still given r.state.cells joined_state.cells (later-stay r.state joined_state joined_later) r.parts.ended) (stored_runs r.parts.joined r.parts.last r.state.cells));
        left = ready_later rest (codes_of qs cs).1 r.state joined_state joined_later r.left;
        later = later_then s r.state joined_state r.later joined_later;
      }

      append_list : EndsInNil qs → RanList (call_of (op_of maker.Append) (codes_of qs cs).0) (append (values f qs)) rest (codes_of qs cs).1 s
      append_list e =
          let tree : append (values f qs) ≡ chain r.parts.trees nil = r.parts.tree ∙ ap (chain r.parts.trees) (r.nil_end e) in
          let last : r.parts.last ≡ lists.nil = nil_shown given r.state.cells r.parts.last (subst (λ (t : Tree). Shows given r.state.cells t r.parts.last) (r.nil_end e) r.parts.ended) in
          record {
            value = joined_to.0;
            state = joined_state;
            evaluated = joined_given;
            elements_of = r.parts.joined;
            listed = record {
              runs = subst (λ (v : Value). Runs joined_state.cells r.parts.joined v joined_to.0) last (stored_runs r.parts.joined r.parts.last r.state.cells);
              short = stored_length r.parts.joined r.parts.last r.state.cells;
            };
            each = subst (λ (us : List Tree). ShowsEach given joined_state.cells (chain us nil) r.parts.joined) (sym (ap elements tree ∙ elements_chain r.parts.trees)) each_then;
            left = ready_later rest (codes_of qs cs).1 r.state joined_state joined_later r.left;
            later = later_then s r.state joined_state r.later joined_later;
          }

    -- `list->vector`

    vector_ran : (c : PlainCore) (t : Tree) (left : List PlainCore) → RanList c t rest left s → Ran (call_of (op_of maker.ListToVector) (c ∷ [])) (list_to_vector (t ∷ [])) rest left s
    vector_ran c t left r =
        let u = store (r.state.cells ++ cell.Vector r.elements_of ∷ []) r.state.names in
        let v = value.Vector (record { 0 = length r.state.cells }) in
        let h = vector_called r.value r.elements_of r.state (listed_elements r.state.cells r.elements_of r.value r.listed) in
        let k = calls-later w (value.Prim (op_of maker.ListToVector)) (r.value ∷ []) r.state v u h in
        record {
          value = v;
          state = u;
          evaluated = call-is w (primitive (op_of maker.ListToVector)) (cores (c ∷ [])) scope s s u (value.Prim (op_of maker.ListToVector)) v (primitive-is w (op_of maker.ListToVector) scope s)
              (operand w c core.none scope (value.Prim (op_of maker.ListToVector) ∷ []) s r.state u r.value v r.evaluated h);
          shown = of_vector (ap vector_in (slice_get-added r.state.cells (cell.Vector r.elements_of))) (each_still given r.state.cells u.cells (later-stay r.state u k) r.each);
          left = ready_later rest left r.state u k r.left;
          later = later_then s r.state u r.later k;
        }

  -- Plans.

  regroup : (xs ys rest : List Want) (cs : List PlainCore) (s : WorldState) → Ready ((xs ++ ys) ++ rest) cs s → Ready (xs ++ (ys ++ rest)) cs s
  regroup xs ys rest cs s g = subst (λ (ws : List Want). Ready ws cs s) (append_assoc xs ys rest) g

  -- the code of a call, by the codes of its parts
  called_is : (P : PlainCore → List PlainCore → Type 0) (m : Maker) (qs : PlainQuasis) (cs : List PlainCore) → P (call_of (op_of m) (codes_of qs cs).0) (codes_of qs cs).1 → P (filled (plan.call m qs) cs).0 (filled (plan.call m qs) cs).1
  called_is P m qs cs h = subst (λ (p : List PlainCore × List PlainCore). P (call_of (op_of m) p.0) p.1) (sym (codes_are qs cs)) h

  none_run : (rest : List Want) (cs : List PlainCore) (s : WorldState) → Ready rest cs s → RanAll [] [] rest cs s
  none_run rest cs s g = record {
    values_of = [];
    state = s;
    operands = λ vs v u h. subst (λ (us : List Value). Gives (applied w (eval_of w) us s) v u) (append-nil vs) h;
    each = no_more;
    left = g;
    later = later-refl s;
  }

  more_run : (c : PlainCore) (t : Tree) (codes : List PlainCore) (ts : List Tree) (ws rest : List Want) (cs ds : List PlainCore) (s : WorldState) (a : Ran c t ws cs s) → RanAll codes ts rest ds a.state → RanAll (c ∷ codes) (t ∷ ts) rest ds s
  more_run c t codes ts ws rest cs ds s a b = record {
    values_of = a.value ∷ b.values_of;
    state = b.state;
    operands = λ vs v u h. operand w c (cores codes) scope vs s a.state u a.value v a.evaluated
        (b.operands (vs ++ a.value ∷ []) v u (subst (λ (us : List Value). Gives (applied w (eval_of w) us b.state) v u) (sym (append_assoc vs (a.value ∷ []) b.values_of)) h));
    each = one_more (shows_still given a.state.cells b.state.cells (later-stay a.state b.state b.later) a.shown) b.each;
    left = b.left;
    later = later_then s a.state b.state a.later b.later;
  }

  last_joined : (q : PlainQuasi) (rest : List Want) (cs : List PlainCore) (s : WorldState) → Ran (filled q cs).0 (makes f q) rest (filled q cs).1 s → RanJoined (more q none) rest cs s
  unfolding joined_one
  last_joined q rest cs s a = record {
    values_of = a.value ∷ [];
    state = a.state;
    operands = λ vs v u h. operand w (filled q cs).0 (cores []) scope vs s a.state u a.value v a.evaluated h;
    parts = joined_one given a.state.cells (makes f q) a.value a.shown;
    nil_end = λ e. ap (makes f) e;
    left = a.left;
    later = a.later;
  }

  more_joined : (q r : PlainQuasi) (qs : PlainQuasis) (ws rest : List Want) (cs : List PlainCore) (s : WorldState) (a : RanList (filled q cs).0 (makes f q) ws (filled q cs).1 s) → RanJoined (more r qs) rest (filled q cs).1 a.state
      → RanJoined (more q (more r qs)) rest cs s
  unfolding joined_more
  more_joined q r qs ws rest cs s a b =
      let now = listed_later a.state b.state b.later a.elements_of a.value a.listed in
      record {
        values_of = a.value ∷ b.values_of;
        state = b.state;
        operands = λ vs v u h. operand w (filled q cs).0 (cores (codes_of (more r qs) (filled q cs).1).0) scope vs s a.state u a.value v a.evaluated
            (b.operands (vs ++ a.value ∷ []) v u (subst (λ (us : List Value). Gives (applied w (eval_of w) us b.state) v u) (sym (append_assoc vs (a.value ∷ []) b.values_of)) h));
        parts = joined_more given b.state.cells (makes f q) (makes f r) (values f qs) a.value b.values_of a.elements_of (listed_elements b.state.cells a.elements_of a.value now)
            (each_still given a.state.cells b.state.cells (later-stay a.state b.state b.later) a.each) b.parts;
        nil_end = b.nil_end;
        left = b.left;
        later = later_then s a.state b.state a.later b.later;
      }

  -- an expression that is spliced
  spliced_run : (e : Tree) (rest : List Want) (cs : List PlainCore) (s : WorldState) → Ready (wants_as true (expression e) ++ rest) cs s → RanList (filled (expression e) cs).0 (f e) rest (filled (expression e) cs).1 s
  spliced_run e rest [] s g = absurd g
  spliced_run e rest (c ∷ cs) s g =
      let r = g s (later-refl s) in record {
        value = r.0;
        state = r.1;
        evaluated = r.2;
        elements_of = r.3.values;
        listed = elements_listed r.1.cells r.3.values r.0 r.3.are;
        each = r.3.shown;
        left = r.4;
        later = gives-later w c scope s r.0 r.1 r.2;
      }

  expression_run : (e : Tree) (rest : List Want) (cs : List PlainCore) (s : WorldState) → Ready (wants_as false (expression e) ++ rest) cs s → Ran (filled (expression e) cs).0 (f e) rest (filled (expression e) cs).1 s
  expression_run e rest [] s g = absurd g
  expression_run e rest (c ∷ cs) s g =
      let r = g s (later-refl s) in record { value = r.0; state = r.1; evaluated = r.2; shown = r.3; left = r.4; later = gives-later w c scope s r.0 r.1 r.2 }

  mutual
    run : (q : PlainQuasi) → IsPlan q → (rest : List Want) (cs : List PlainCore) (s : WorldState) → Ready (wants q ++ rest) cs s → Ran (filled q cs).0 (makes f q) rest (filled q cs).1 s
    run (constant t) p rest cs s g = run_constant t rest cs s g
    run (expression e) p rest cs s g = expression_run e rest cs s g
    run (plan.call maker.List qs) p rest cs s g =
        called_is (λ c ds. Ran c (makes f (plan.call maker.List qs)) rest ds s) maker.List qs cs
        (list_shown rest (codes_of qs cs).1 s _ (values f qs) (list_ran rest (codes_of qs cs).1 s (codes_of qs cs).0 (values f qs) (all-run qs p rest cs s g)))
    run (plan.call maker.ConsStar none) p rest cs s g = absurd p.0
    run (plan.call maker.ConsStar (more q qs)) p rest cs s g =
        called_is (λ c ds. Ran c (makes f (plan.call maker.ConsStar (more q qs))) rest ds s) maker.ConsStar (more q qs) cs
        (star_ran rest (codes_of (more q qs) cs).1 s (codes_of (more q qs) cs).0 (makes f q) (values f qs) (all-run (more q qs) p.1 rest cs s g))
    run (plan.call maker.Append qs) p rest cs s g =
        called_is (λ c ds. Ran c (makes f (plan.call maker.Append qs)) rest ds s) maker.Append qs cs (append_ran rest cs s qs (joined-run qs p.0 p.1 rest cs s g))
    run (plan.call maker.ListToVector none) p rest cs s g = absurd p
    run (plan.call maker.ListToVector (more q none)) p rest cs s g =
        called_is (λ c ds. Ran c (makes f (plan.call maker.ListToVector (more q none))) rest ds s) maker.ListToVector (more q none) cs
        (vector_ran rest cs s (filled q cs).0 (makes f q) (filled q cs).1 (whole-run q p rest cs s (regroup (wants q) [] rest cs s g)))
    run (plan.call maker.ListToVector (more q (more r qs))) p rest cs s g = absurd p

    all-run : (qs : PlainQuasis) → ArePlans qs → (rest : List Want) (cs : List PlainCore) (s : WorldState) → Ready (all_wants qs ++ rest) cs s → RanAll (codes_of qs cs).0 (values f qs) rest (codes_of qs cs).1 s
    all-run none p rest cs s g = none_run rest cs s g
    all-run (more q qs) p rest cs s g =
        let a = run q p.0 (all_wants qs ++ rest) cs s (regroup (wants q) (all_wants qs) rest cs s g) in
        more_run (filled q cs).0 (makes f q) (codes_of qs (filled q cs).1).0 (values f qs) (all_wants qs ++ rest) rest (filled q cs).1 (codes_of qs (filled q cs).1).1 s a (all-run qs p.1 rest (filled q cs).1 a.state a.left)

    joined-run : (qs : PlainQuasis) → IsSome qs → AreJoined qs → (rest : List Want) (cs : List PlainCore) (s : WorldState) → Ready (append_wants qs ++ rest) cs s → RanJoined qs rest cs s
    joined-run none some p rest cs s g = absurd some
    joined-run (more q none) some p rest cs s g = last_joined q rest cs s (run q (argument_plan q p.0) rest cs s (regroup (wants q) [] rest cs s g))
    joined-run (more q (more r qs)) some p rest cs s g =
        let a = front-run q p.0 (append_wants (more r qs) ++ rest) cs s (regroup (wants_as true q) (append_wants (more r qs)) rest cs s g) in
        more_joined q r qs (append_wants (more r qs) ++ rest) rest cs s a (joined-run (more r qs) tt p.1 rest (filled q cs).1 a.state a.left)

    front-run : (q : PlainQuasi) → IsArgument true q → (rest : List Want) (cs : List PlainCore) (s : WorldState) → Ready (wants_as true q ++ rest) cs s → RanList (filled q cs).0 (makes f q) rest (filled q cs).1 s
    front-run (constant t) p rest cs s g = absurd p
    front-run (expression e) p rest cs s g = spliced_run e rest cs s g
    front-run (plan.call maker.List qs) p rest cs s g =
        called_is (λ c ds. RanList c (makes f (plan.call maker.List qs)) rest ds s) maker.List qs cs (list_ran rest (codes_of qs cs).1 s (codes_of qs cs).0 (values f qs) (all-run qs p rest cs s g))
    front-run (plan.call maker.ConsStar qs) p rest cs s g = absurd p
    front-run (plan.call maker.Append qs) p rest cs s g = absurd p
    front-run (plan.call maker.ListToVector qs) p rest cs s g = absurd p

    whole-run : (q : PlainQuasi) → IsWhole q → (rest : List Want) (cs : List PlainCore) (s : WorldState) → Ready (wants q ++ rest) cs s → RanList (filled q cs).0 (makes f q) rest (filled q cs).1 s
    whole-run (constant t) p rest cs s g = absurd p
    whole-run (expression e) p rest cs s g = absurd p
    whole-run (plan.call maker.List qs) p rest cs s g =
        called_is (λ c ds. RanList c (makes f (plan.call maker.List qs)) rest ds s) maker.List qs cs (list_ran rest (codes_of qs cs).1 s (codes_of qs cs).0 (values f qs) (all-run qs p rest cs s g))
    whole-run (plan.call maker.ConsStar qs) p rest cs s g = absurd p
    whole-run (plan.call maker.Append qs) p rest cs s g =
        called_is (λ c ds. RanList c (makes f (plan.call maker.Append qs)) rest ds s) maker.Append qs cs (append_list rest cs s qs (joined-run qs p.0 p.1 rest cs s g) p.2)
    whole-run (plan.call maker.ListToVector qs) p rest cs s g = absurd p

  -- Forms.

  ok_of : {A : Type 0} (form : Tree) (place : Span) (r : Result A Bare) (x : A) → at_form form place r ≡ Ok x → r ≡ Ok x
  ok_of form place (Ok y) x h = let same : y ≡ x = cc in ap Ok same
  ok_of form place (Err e) x h = absurd (cc)

  pub code-gives : (words : WordOf) (t form : Tree) (place : Span) (q : PlainQuasi) (cs : List PlainCore) (s : WorldState)
      → quasi words t form place ≡ Ok q → Ready (wants q) cs s → GivesShown w scope given (filled q cs).0 s (template.filled words f t 0)
  code-gives words t form place q cs s e g =
      let k = ok_of form place (quasi_at words t 0) q e in
      let r = run q (well_made words t 0 q k) [] cs s (subst (λ (ws : List Want). Ready ws cs s) (sym (append-nil (wants q))) g) in
      record { value = r.value; state = r.state; evaluated = r.evaluated; shown = subst (λ (u : Tree). Shows given r.state.cells u r.value) (plan_means words f t 0 q k) r.shown }
