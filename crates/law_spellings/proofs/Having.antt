-- The record of a library has its spelling.
use Rattle.std.proofs.Common.{◌≡◌, ◌≤◌, ℕ, Bool, true, List, [], ◌∷◌, map, length, None, Some, refl, arith}
use Rattle.std.specs.Prelude.{◌&&◌}
use Rattle.std.specs.List.{list_all, flat_map}
use Rattle.base_data.specs.declared.name.Label.{Label}
use Rattle.base_bytes.specs.Codec.{u32, u64, bool, text, ◌then◌, optional, listed}
use Rattle.base_bytes.specs.Names.{library, label, imported_name}
use Rattle.core_codec.specs.Code.{core}
use Rattle.core_codec.specs.Contexts.{frame_row}
use Rattle.core_codec.specs.Records.{line, variable, binding, bindings_rise, rows_rise, lib_record, has_spelling}
use Rattle.core_language.specs.Core.{PlainCore}
use Rattle.core_language.specs.Height.{height}
use Rattle.core_language.specs.declared.binding.Binding.{Binding}
use Rattle.core_language.specs.declared.binding.Binding.TheVariants as b
use Rattle.core_language.specs.declared.binding.VarInfo.{VarInfo}
use Rattle.core_language.specs.declared.record.CompiledLibrary.{CompiledLibrary}
use Rattle.core_language.specs.declared.record.Line.{Line}
use Rattle.core_language.specs.declared.record.Line.TheVariants as l
use Rattle.base_data.specs.Elements.{Each}
use Rattle.law_core.specs.Follows.{keyword_of, keywords, line_cores, IsRecorded}
use Rattle.law_core.specs.Parts.{parts}
use Rattle.law_core.specs.Records.{line_core}
use Rattle.law_core.specs.WellMade.{IsWellMade}
use Rattle.law_expand.specs.Shallow.{deepest, IsShallow}
use Rattle.law_expand.proofs.GoodKeywords.{keywords-good}
use Rattle.law_expand.proofs.Records.{records-good}
use Rattle.law_expand.proofs.Shallow.{records-shallow}
use Rattle.law_invariants.specs.Holds.{LineHolds, LinesHold}
use Rattle.law_invariant_expansion.specs.States.{BindingHolds, BindingsHold}
use Rattle.law_spellings.specs.Numbers.{Has, IsShort, LineFits, BindingFits, NumbersFit}
use Rattle.law_spellings.specs.Rising.{RecordRises}
use Rattle.law_spellings.specs.Spelled.{SpelledRecord, spelled}
use Rattle.law_spellings.specs.Spellings.{RecordsHaveSpellings}
use Rattle.law_spellings.proofs.Rising.{rise}
use Rattle.law_spellings.proofs.SpelledCode.{AllOwn, before, behind, own-of, core-fits}
use Rattle.law_spellings.proofs.SpelledTrees.{both-true, bool-fits, text-fits}
use Rattle.law_spellings.proofs.Recorded.{stay}

-- the core code of a line, or of a keyword
record IsMade (x : PlainCore) : Type 0 where
  own : AllOwn (parts x)
  low : height x ≤ 8193

low-enough : (n : ℕ) → n ≤ deepest → n ≤ 8193
low-enough n h = omega (arith, h)

made-of : (xs : List PlainCore) → Each (IsWellMade []) xs → Each IsShallow xs → Each IsMade xs
made-of [] h k = tt
made-of (x ∷ xs) h k = (record { own = own-of (parts x) h.0.forms h.0.named_ops; low = low-enough (height x) k.0 }, made-of xs h.1 k.1)

line-fits : (x : Line) → LineHolds spelled x → IsMade (line_core x) → LineFits x → line.fits x ≡ true
unfolding line
line-fits (l.Define x y) h m k = both-true (label.fits x) ((core 8193).fits y) k.0 (core-fits 8193 y m.low h m.own k.1)
line-fits (l.Expr y) h m k = core-fits 8193 y m.low h m.own k

lines-fit : (xs : List Line) → LinesHold spelled xs → Each IsMade (map line_core xs) → Each LineFits xs → list_all line.fits xs ≡ true
lines-fit [] h m k = refl
lines-fit (x ∷ xs) h m k = both-true (line.fits x) (list_all line.fits xs) (line-fits x h.0 m.0 k.0) (lines-fit xs h.1 m.1 k.1)

variable-fits : (v : VarInfo) → BindingHolds spelled (b.Variable v) → IsShort v.symbol → Has (optional u64) v.index → Has u32 v.level → variable.fits v ≡ true
unfolding variable
variable-fits v h short index level =
    both-true (text.fits v.symbol) ((optional u64).fits v.index && (u32.fits v.level && (bool.fits v.top && bool.fits v.assigned))) (text-fits v.symbol short h.0)
    (both-true ((optional u64).fits v.index) (u32.fits v.level && (bool.fits v.top && bool.fits v.assigned)) index
    (both-true (u32.fits v.level) (bool.fits v.top && bool.fits v.assigned) level (both-true (bool.fits v.top) (bool.fits v.assigned) (bool-fits v.top) (bool-fits v.assigned))))

abbrev One : Label × Binding → Bool
One x = label.fits x.0 && binding.fits x.1

binding-fits : (x : Label × Binding) → BindingHolds spelled x.1 → IsRecorded x → Each IsMade (keyword_of x) → BindingFits x → One x ≡ true
unfolding binding
binding-fits (x, b.Variable v) h i m k = both-true (label.fits x) (variable.fits v) k.0 (variable-fits v h k.1.0 k.1.1.0 k.1.1.1)
binding-fits (x, b.PatternVariable level depth) h i m k = both-true (label.fits x) (u32.fits level && u32.fits depth) k.0 (both-true (u32.fits level) (u32.fits depth) k.1.0 k.1.1)
binding-fits (x, b.Macro level None) h i m k = absurd (i)
binding-fits (x, b.Macro level (Some y)) h i m k =
    both-true (label.fits x) (u32.fits level && (core 8193).fits y) k.0 (both-true (u32.fits level) ((core 8193).fits y) k.1.0 (core-fits 8193 y m.0.low h m.0.own k.1.1))
binding-fits (x, b.Core f) h i m k = absurd (i)
binding-fits (x, b.Primitive o) h i m k = absurd (i)

bindings-fit : (bs : List (Label × Binding)) → BindingsHold spelled bs → Each IsRecorded bs → Each IsMade (flat_map keyword_of bs) → Each BindingFits bs → list_all One bs ≡ true
bindings-fit [] h i m k = refl
bindings-fit (x ∷ bs) h i m k =
    both-true (One x) (list_all One bs) (binding-fits x h.0 i.0 (before IsMade (keyword_of x) (flat_map keyword_of bs) m) k.0)
    (bindings-fit bs h.1 i.1 (behind IsMade (keyword_of x) (flat_map keyword_of bs) m) k.1)

record-fits : (r : CompiledLibrary) → SpelledRecord r → RecordRises r → Each IsRecorded r.bindings → Each IsMade (line_cores r) → Each IsMade (keywords r) → NumbersFit r → has_spelling r ≡ true
unfolding lib_record
record-fits r h rises kinds lines defined n =
    let bindings = both-true ((listed (label then binding)).fits r.bindings) (bindings_rise r.bindings) (both-true (u64.fits (length r.bindings)) (list_all One r.bindings) n.bindings.0 (bindings-fit r.bindings h.bindings kinds defined n.bindings.1)) rises.bindings in
    let rows = both-true ((listed frame_row).fits r.frames) (rows_rise r.frames) n.rows rises.rows in
    let run = both-true (u64.fits (length r.run)) (list_all line.fits r.run) n.lines.0 (lines-fit r.run h.run lines n.lines.1) in
    let five = both-true ((listed line).fits r.run) ((listed library).fits r.refs) run n.refs in
    let four = both-true ((listed frame_row).fits r.frames && rows_rise r.frames) ((listed line).fits r.run && (listed library).fits r.refs) rows five in
    let three = both-true ((listed (label then binding)).fits r.bindings && bindings_rise r.bindings) ((((listed frame_row).fits r.frames && rows_rise r.frames)) && ((listed line).fits r.run && (listed library).fits r.refs)) bindings four in
    let two = both-true ((listed imported_name).fits r.exports) (((listed (label then binding)).fits r.bindings && bindings_rise r.bindings) && (((listed frame_row).fits r.frames && rows_rise r.frames) && ((listed line).fits r.run && (listed library).fits r.refs))) n.exports three in
    let one = both-true ((listed u64).fits r.version) ((listed imported_name).fits r.exports && (((listed (label then binding)).fits r.bindings && bindings_rise r.bindings) && (((listed frame_row).fits r.frames && rows_rise r.frames) && ((listed line).fits r.run && (listed library).fits r.refs)))) n.version two in
    both-true (text.fits r.path) (library.fits r.name && ((listed u64).fits r.version && ((listed imported_name).fits r.exports && (((listed (label then binding)).fits r.bindings && bindings_rise r.bindings) && (((listed frame_row).fits r.frames && rows_rise r.frames) && ((listed line).fits r.run && (listed library).fits r.refs)))))) n.path
    (both-true (library.fits r.name) ((listed u64).fits r.version && ((listed imported_name).fits r.exports && (((listed (label then binding)).fits r.bindings && bindings_rise r.bindings) && (((listed frame_row).fits r.frames && rows_rise r.frames) && ((listed line).fits r.run && (listed library).fits r.refs))))) n.name one)

pub have : RecordsHaveSpellings
have own records imports body codes r is behind-these texts read e n =
    let h = stay own records imports body codes r behind-these texts read e in
    let good = records-good own records imports body codes r is e in
    let named = keywords-good own records imports body codes r is e in
    let shallow = records-shallow own records imports body codes r is e in
    record-fits r h (rise own records imports body codes r e) named.kinds
    (made-of (line_cores r) good.0.well_made (before IsShallow (line_cores r) (keywords r) shallow)) (made-of (keywords r) named.well_made (behind IsShallow (line_cores r) (keywords r) shallow)) n
