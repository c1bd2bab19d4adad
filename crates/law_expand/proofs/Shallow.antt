-- The core code of every record that expansion gives isn't deep.
use Rattle.std.proofs.Common.{◌≡◌, List, [], ◌∷◌, map, sym, ap, subst, arith}
use Rattle.std.specs.List.{flat_map}
use Rattle.base_data.proofs.ElementLemmas.{each-append}
use Rattle.base_data.specs.Elements.{Each}
use Rattle.core_language.specs.declared.record.Line.{Line}
use Rattle.law_core.specs.Follows.{keyword_of, keywords, line_cores}
use Rattle.law_core.specs.Records.{defined, line_core}
use Rattle.expand_standing.specs.Own.{own_bindings}
use Rattle.law_expand.specs.Shallow.{deepest, IsShallow, RecordsAreShallow}
use Rattle.law_expand.proofs.Good.{Bindings}
use Rattle.law_expand.proofs.GoodKeywords.{record-ends, keywords-each}
use Rattle.law_expand.proofs.Nesting.{Within}
use Rattle.law_expand.proofs.Records.{record-runs}

lines-shallow : (bs : Bindings) (xs : List Line) → Each (λ x. Within bs 0 0 deepest (line_core x)) xs → Each IsShallow (map line_core xs)
lines-shallow bs [] h = tt
lines-shallow bs (x ∷ xs) h = ((let low = h.0.low in omega (arith, low)), lines-shallow bs xs h.1)

pub records-shallow : RecordsAreShallow
records-shallow own records imports body codes r h e =
    let given = flat_map defined records in
    let runs = record-runs own records imports body codes r h e in
    let ended = record-ends own records imports body codes r h e in
    let v = ended.state in
    let is : flat_map keyword_of (own_bindings v) ≡ keywords r = ap (flat_map keyword_of) (sym ended.ends.bindings) in
    each-append IsShallow (line_cores r) (keywords r) (lines-shallow runs.ended.bindings r.run runs.nests)
    (subst (Each IsShallow) is (keywords-each own given v ended.ends.next ended.ends.kept IsShallow (λ c x. x.shallow)))
