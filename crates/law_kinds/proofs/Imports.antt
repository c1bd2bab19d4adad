-- Import sets are refused for their names.
use Rattle.std.proofs.Common.{List, [], Option, Some, None, Result, Ok}
use Rattle.std.specs.Prelude.{not}
use Rattle.std.specs.List.{find}
use Rattle.base_data.specs.declared.fault.Fault.{Fault}
use Rattle.base_data.specs.declared.imported_name.ImportedName.{ImportedName}
use Rattle.base_data.specs.declared.name.Label.{Label}
use Rattle.base_data.specs.declared.span.Span.{Span}
use Rattle.load_import.specs.Names.{Labelled, label_named, same_label, join_by, join_one, joined, has_name, need_by, need, only, except, renamed, sources, step_names}
use Rattle.load_import.specs.Turns.{turns}
use Rattle.load_import.specs.declared.set.NameAt.{NameAt}
use Rattle.load_import.specs.declared.set.ImportStep.{ImportStep}
use Rattle.load_import.specs.declared.set.ImportStep.TheVariants.{Only, Except, Prefix, Rename}
use Rattle.law_kinds.specs.Kinds.{IsOfImports, Tells}
use Rattle.law_kinds.specs.Laws.{ImportsTell, JoinsTell}
use Rattle.law_kinds.proofs.Tells.{tells-if, tells-then, tells-turns}

join : (span : Span) (names : Labelled) (e : ImportedName) → Tells IsOfImports (join_one span names e)
join span names e = by (label_named e.name names)
  where
    by : (o : Option Label) → Tells IsOfImports (join_by span names e o)
    by None = tt
    by (Some label) = tells-if IsOfImports (same_label label e.label) _ _ tt tt

pub joins-tell : JoinsTell
joins-tell span names more = tells-turns IsOfImports (join_one span) (join span) names more

needs : {A : Type 0} (names : Labelled) (ids : List NameAt) (x : Result A Fault) → Tells IsOfImports x → Tells IsOfImports (need names ids x)
needs names ids x h = by (find (λ id. not (has_name names id.name)) ids)
  where
    by : (o : Option NameAt) → Tells IsOfImports (need_by o x)
    by None = h
    by (Some id) = tt

step : (span : Span) (names : Labelled) (s : ImportStep) → Tells IsOfImports (step_names span names s)
step span names (Only ids) = needs names ids (Ok (only ids names)) tt
step span names (Except ids) = needs names ids (Ok (except ids names)) tt
step span names (Prefix symbol) = tt
step span names (Rename renamings) = needs names (sources renamings) (joined span [] (renamed renamings names)) (joins-tell span [] (renamed renamings names))

pub imports-tell : ImportsTell
imports-tell set span exports =
    tells-then IsOfImports (joined span [] exports) (λ names. turns (step_names span) names set.steps) (joins-tell span [] exports) (λ names. tells-turns IsOfImports (step_names span) (step span) names set.steps)
