-- Each value that is read from the cells of a whole world is ready.
use Rattle.std.proofs.Common.{List}
use Rattle.eval_value.specs.declared.value.Value.{Value}
use Rattle.eval_value.specs.declared.value.Value.TheVariants as value
use Rattle.eval_value.specs.declared.cell.Cell.{Cell}
use Rattle.eval_value.specs.declared.cell.Cell.TheVariants as cell
use Rattle.law_prims.specs.Holds.{HasNoPlace, PartsHold, HoldsIn}
use Rattle.eval_code.specs.Setting.{PlainSetting}
use Rattle.law_whole.specs.WholeWorld.{ValueReady, CellReady, WholeWorld}

parts_ready : (w : PlainSetting) (cells : List Cell) (c : Cell) → CellReady w cells c → PartsHold (ValueReady w cells) c
parts_ready w cells (cell.Pair x y) r = r
parts_ready w cells (cell.Vector xs) r = r
parts_ready w cells (cell.Str text) r = tt
parts_ready w cells (cell.Scope es parent) r = tt
parts_ready w cells (cell.Binds bs parent) r = tt
parts_ready w cells (cell.Transformer x) r = tt

plain_ready : (w : PlainSetting) (cells : List Cell) (v : Value) → HasNoPlace v → ValueReady w cells v
plain_ready w cells value.Unspecified h = record { fits = tt; ready = tt }
plain_ready w cells (value.Atom b) h = record { fits = tt; ready = tt }
plain_ready w cells (value.Symbol s) h = record { fits = tt; ready = tt }
plain_ready w cells (value.Pair p) h = absurd h
plain_ready w cells (value.Vector p) h = absurd h
plain_ready w cells (value.Str p) h = absurd h
plain_ready w cells (value.Closure number p) h = absurd h
plain_ready w cells (value.Prim op) h = record { fits = tt; ready = tt }
plain_ready w cells (value.Syn t) h = record { fits = tt; ready = tt }
plain_ready w cells (value.Transformer p) h = absurd h

pub all_read_ready : (w : PlainSetting) (cells : List Cell) → WholeWorld w cells → HoldsIn (ValueReady w cells) cells
all_read_ready w cells world = record { plain = plain_ready w cells; parts = λ n c e. parts_ready w cells c (world.values n c e) }
