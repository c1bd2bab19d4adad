-- What is made of ready values keeps a whole world whole, and is ready.
use Rattle.std.proofs.Common.{◌≡◌, ℕ, zero, suc, List, [], ◌∷◌, ◌++◌, Ok, Err, length, refl}
use Rattle.base_data.specs.Datum.{PlainDatum, atom, symbol, pair, vector}
use Rattle.base_data.specs.Elements.{Each}
use Rattle.base_data.specs.Named.{Named}
use Rattle.base_data.specs.declared.atom.Atom.{Atom}
use Rattle.base_data.specs.declared.atom.Atom.TheVariants as a
use Rattle.eval_value.specs.Cells.{vector_in, string_in, transformer_in, is_found, FitsIn}
use Rattle.eval_value.specs.FromDatum.{atom_stored, vector_stored, stored, elements_stored}
use Rattle.eval_value.specs.declared.value.Value.{Value}
use Rattle.eval_value.specs.declared.value.Value.TheVariants as value
use Rattle.eval_value.specs.declared.cell.Cell.{Cell}
use Rattle.eval_value.specs.declared.cell.Cell.TheVariants as cell
use Rattle.eval_value.proofs.Wholes.{lies_here, all_lie_here, added_found}
use Rattle.eval_prims.specs.Copied.{datum_in}
use Rattle.eval_prims.specs.Answers.{PrimAnswer}
use Rattle.eval_prims.specs.Cost.{cost}
use Rattle.eval_prims.specs.Delta.{delta}
use Rattle.eval_prims.specs.Perform.{performed, temporaries, name_after}
use Rattle.eval_prims.specs.declared.made.PrimResult.{PrimResult}
use Rattle.eval_prims.specs.declared.made.PrimResult.TheVariants as made_by
use Rattle.law_prims.specs.Holds.{MadeHolds}
use Rattle.law_prims.proofs.Calls.{call_holds}
use Rattle.eval_code.specs.Meaning.{answer_made, primitive_called, quoted_value}
use Rattle.eval_code.specs.Quoted.{datum_cost}
use Rattle.eval_code.specs.Setting.{PlainSetting}
use Rattle.eval_code.specs.State.{WorldState, made}
use Rattle.law_whole.specs.Grows.{WorldGrowth}
use Rattle.law_whole.specs.PartsReady.{EndsWell}
use Rattle.law_whole.specs.WholeWorld.{ValueReady, ValuesReady, WholeWorld}
use Rattle.law_whole.proofs.Growth.{grows_refl, grows_then}
use Rattle.law_whole.proofs.Reading.{all_read_ready}
use Rattle.law_whole.proofs.Steady.{value_still}
use Rattle.law_whole.proofs.Wells.{well_charged}
use Rattle.law_whole.proofs.Worlds.{Stored, grows_added, world_added, pair_good, pairs_good}

pub all_fit : (w : PlainSetting) (cells : List Cell) (xs : List Value) → ValuesReady w cells xs → Each (FitsIn cells) xs
all_fit w cells [] r = tt
all_fit w cells (x ∷ xs) r = (r.0.fits, all_fit w cells xs r.1)

pub vector_good : (w : PlainSetting) (cells : List Cell) (xs : List Value) → WholeWorld w cells → ValuesReady w cells xs → Stored w cells (vector_stored (xs, cells))
vector_good w cells xs world r = record {
  grows = grows_added cells (cell.Vector xs);
  world = world_added w cells (cell.Vector xs) world (all_lie_here cells xs (all_fit w cells xs r)) r;
  ready = record { fits = added_found (λ o. is_found (vector_in o)) cells (cell.Vector xs) refl; ready = tt };
}

string_good : (w : PlainSetting) (cells : List Cell) (text : List ℕ) → WholeWorld w cells → Stored w cells (value.Str (record { 0 = length cells }), cells ++ cell.Str text ∷ [])
string_good w cells text world = record {
  grows = grows_added cells (cell.Str text);
  world = world_added w cells (cell.Str text) world tt tt;
  ready = record { fits = added_found (λ o. is_found (string_in o)) cells (cell.Str text) refl; ready = tt };
}

transformer_good : (w : PlainSetting) (cells : List Cell) (x : Value) → WholeWorld w cells → ValueReady w cells x
    → Stored w cells (value.Transformer (record { 0 = length cells }), cells ++ cell.Transformer x ∷ [])
transformer_good w cells x world r = record {
  grows = grows_added cells (cell.Transformer x);
  world = world_added w cells (cell.Transformer x) world (lies_here cells x r.fits) r;
  ready = record { fits = added_found (λ o. is_found (transformer_in o)) cells (cell.Transformer x) refl; ready = tt };
}

-- a value that needs no cell
pub as_is : (w : PlainSetting) (cells : List Cell) (x : Value) → WholeWorld w cells → ValueReady w cells x → Stored w cells (x, cells)
as_is w cells x world r = record { grows = grows_refl cells; world = world; ready = r }

stored_later : (w : PlainSetting) (x y : List Cell) (p : Value × List Cell) → WorldGrowth x y → Stored w y p → Stored w x p
stored_later w x y p g h = record { grows = grows_then x y p.1 g h.grows; world = h.world; ready = h.ready }

-- Data.

atom_good : (w : PlainSetting) (b : Atom) (cells : List Cell) → WholeWorld w cells → Stored w cells (atom_stored b cells)
atom_good w a.Nil cells world = as_is w cells (value.Atom a.Nil) world (record { fits = tt; ready = tt })
atom_good w (a.Bool b) cells world = as_is w cells (value.Atom (a.Bool b)) world (record { fits = tt; ready = tt })
atom_good w (a.Int z) cells world = as_is w cells (value.Atom (a.Int z)) world (record { fits = tt; ready = tt })
atom_good w (a.Spelt text) cells world = as_is w cells (value.Atom (a.Spelt text)) world (record { fits = tt; ready = tt })
atom_good w (a.Char c) cells world = as_is w cells (value.Atom (a.Char c)) world (record { fits = tt; ready = tt })
atom_good w (a.Str text) cells world = string_good w cells text world
atom_good w (a.Bytes bytes) cells world = as_is w cells (value.Atom (a.Bytes bytes)) world (record { fits = tt; ready = tt })

record AllStored (w : PlainSetting) (old : List Cell) (p : List Value × List Cell) : Type 0 where
  grows : WorldGrowth old p.1
  world : WholeWorld w p.1
  ready : ValuesReady w p.1 p.0

mutual
  stored_good : (w : PlainSetting) (d : PlainDatum) (cells : List Cell) → WholeWorld w cells → Stored w cells (stored d cells)
  stored_good w (atom s b) cells world = atom_good w b cells world
  stored_good w (symbol s x) cells world = as_is w cells (value.Symbol x) world (record { fits = tt; ready = tt })
  stored_good w (pair s d e) cells world =
      let p = stored d cells in
      let q = stored e p.1 in
      let first = stored_good w d cells world in
      let rest = stored_good w e p.1 first.world in
      let last = pair_good w q.1 p.0 q.0 rest.world (value_still w p.1 q.1 rest.grows p.0 first.ready) rest.ready in
      record { grows = grows_then cells p.1 (q.1 ++ cell.Pair p.0 q.0 ∷ []) first.grows (grows_then p.1 q.1 (q.1 ++ cell.Pair p.0 q.0 ∷ []) rest.grows last.grows); world = last.world; ready = last.ready }
  stored_good w (vector s d) cells world =
      let p = elements_stored d cells in
      let all = elements_good w d cells world in
      stored_later w cells p.1 (vector_stored p) all.grows (vector_good w p.1 p.0 all.world all.ready)

  elements_good : (w : PlainSetting) (d : PlainDatum) (cells : List Cell) → WholeWorld w cells → AllStored w cells (elements_stored d cells)
  elements_good w (atom s b) cells world = record { grows = grows_refl cells; world = world; ready = tt }
  elements_good w (symbol s x) cells world = record { grows = grows_refl cells; world = world; ready = tt }
  elements_good w (pair s d e) cells world =
      let p = stored d cells in
      let q = elements_stored e p.1 in
      let first = stored_good w d cells world in
      let rest = elements_good w e p.1 first.world in
      record { grows = grows_then cells p.1 q.1 first.grows rest.grows; world = rest.world; ready = (value_still w p.1 q.1 rest.grows p.0 first.ready, rest.ready) }
  elements_good w (vector s d) cells world = record { grows = grows_refl cells; world = world; ready = tt }

pub well_quoted : (w : PlainSetting) (d : PlainDatum) (s : WorldState) (n : ℕ) → WholeWorld w s.cells → EndsWell w s.cells (quoted_value d s n)
unfolding quoted_value
well_quoted w d s n world =
    let it = stored_good w d s.cells world in
    well_charged w (datum_cost d) s n (made s.names (stored d s.cells)) world (λ m e. (it.grows, (it.world, it.ready)))

-- Primitives.

temporaries_ready : (w : PlainSetting) (cells : List Cell) (n : ℕ) (name : Named) → ValuesReady w cells (temporaries n name)
temporaries_ready w cells zero name = tt
temporaries_ready w cells (suc n) name = (record { fits = tt; ready = tt }, temporaries_ready w cells n (name_after 1 name))

performed_good : (w : PlainSetting) (m : PrimResult) (name : Named) (cells : List Cell) → WholeWorld w cells → MadeHolds (ValueReady w cells) m → Stored w cells (performed m name cells)
performed_good w (made_by.Value x) name cells world r = as_is w cells x world r
performed_good w (made_by.List xs x) name cells world r = pairs_good w xs x cells world r.0 r.1
performed_good w (made_by.Vector xs) name cells world r = vector_good w cells xs world r
performed_good w (made_by.Text text) name cells world r = string_good w cells text world
performed_good w (made_by.Transformer x) name cells world r = transformer_good w cells x world r
performed_good w (made_by.Datum x) name cells world r = stored_good w (datum_in cells x) cells world
performed_good w (made_by.Temporaries n) name cells world r =
    pairs_good w (temporaries n name) (value.Atom a.Nil) cells world (temporaries_ready w cells n name) (record { fits = tt; ready = tt })

pub well_primitive : (w : PlainSetting) (op : ℕ) (args : List Value) (s : WorldState) (n : ℕ) → WholeWorld w s.cells → ValuesReady w s.cells args
    → EndsWell w s.cells (primitive_called w op args s n)
unfolding primitive_called
well_primitive w op args s n world r =
    well_charged w (cost op args s.cells) s n (λ m. answer_made s m (delta op args s.cells w.frames)) world (λ m e. by_answer m (delta op args s.cells w.frames) refl)
  where
    by_answer : (m : ℕ) (a : PrimAnswer) → delta op args s.cells w.frames ≡ a → EndsWell w s.cells (answer_made s m a)
    by_answer m (Ok x) e =
        let it = performed_good w x s.names s.cells world (call_holds (ValueReady w s.cells) op args s.cells w.frames x (all_read_ready w s.cells world) r e) in
        (it.grows, (it.world, it.ready))
    by_answer m (Err f) e = (grows_refl s.cells, world)
