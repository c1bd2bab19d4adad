-- Each line of a run has what a spelling asks of it.
use Rattle.std.proofs.Common.{◌≡◌, ℕ, ◌<◌, ◌∙◌, Bool, true, false, List, [], ◌∷◌, ◌++◌, Result, Some, refl, sym, subst}
use Rattle.std.specs.Prelude.{slice_get}
use Rattle.std.specs.List.{flat_map}
use Rattle.base_data.proofs.ElementLemmas.{each-at, each-of, each-append, among-first, among-second, among-map, among-flat}
use Rattle.base_data.specs.Elements.{Each, Among}
use Rattle.base_data.specs.Op.{name_count, is_keyword}
use Rattle.base_data.specs.declared.fault.Fault.{Fault}
use Rattle.base_data.specs.declared.name.Label.{Label}
use Rattle.core_language.specs.Core.{PlainCore}
use Rattle.core_language.specs.Labels.{same_label}
use Rattle.core_language.specs.References.{binders, mentions, references}
use Rattle.core_language.specs.declared.record.CompiledLibrary.{CompiledLibrary}
use Rattle.core_language.specs.declared.record.Line.{Line}
use Rattle.law_core_grammar.specs.Laws.{IsWrittenCoreText, CoreTextIsReadBack, CoreTextTellsItsLines}
use Rattle.law_core_grammar.specs.Names.{IsPrimitive}
use Rattle.law_core_grammar.specs.Spellable.{HasName, IsLineSpellable}
use Rattle.law_core_grammar.proofs.Bound.{names_are_generated}
use Rattle.law_core_grammar.proofs.Whole.{spell_lines, whole_checked}
use Rattle.law_core.specs.Follows.{line_cores}
use Rattle.law_core.specs.Parts.{ops}
use Rattle.law_core.specs.Records.{defined, line_core, line_labels, line_binders, run_binders, LinesClosed}
use Rattle.law_core.specs.Scope.{Closed}
use Rattle.law_core.specs.WellMade.{IsWellMade}
use Rattle.law_core.specs.Words.{among}
use Rattle.law_core.proofs.GivenLemmas.{references_given}
use Rattle.law_core.proofs.ScopeLemmas.{given_decides}
use Rattle.core_output.specs.CoreText.{VariableNames}
use Rattle.eval_code.specs.Codes.{Codes}
use Rattle.law_expand.specs.Good.{IsGood}
use Rattle.load_files.specs.declared.found.Found.{Found}
use Rattle.load_files.specs.declared.found.Loading.{Loading}
use Rattle.base_outside.specs.Contents.{Paths}
use Rattle.core_plan.specs.Planned.{plan_of}
use Rattle.law_run.specs.Run.{run_inputs, AllStand}
use Rattle.law_run.proofs.ClosedLemmas.{each_place, all_standing, runs_are_closed_once}
use Rattle.law_run.proofs.RunLemmas.{all_records_stand}
use Rattle.law_run.proofs.UserLemmas.{user_at}
use Rattle.law_run.specs.Spelled.{run_names, run_lines, GivesText, CanAllBeRead, RunsAreSpelled, RunsAreReadBack, RunsTellTheirLines}
use Rattle.law_run.proofs.SpelledLines.{text-lines}
use Rattle.law_text.specs.Standing.{AreStanding}
use Rattle.law_text.specs.Text.{text_of, IsClosedOnce}
use Rattle.law_text.proofs.Closed.{text-known}
use Rattle.law_expand.proofs.RunReferences.{free-referenced}
use Rattle.law_text.proofs.Words.{flat-among}
use Rattle.law_run.proofs.Written.{HasText, IsSound, all-sound, binder, first-bare, text-checked}
use Rattle.law_local.proofs.Part.{same_place}

-- What expansion promises of the lines of a record.

record IsFine (r : CompiledLibrary) : Type 0 where
  well_made : Each (IsWellMade []) (line_cores r)
  primitives : Each (λ o. is_keyword o ≡ false) (flat_map ops (line_cores r))

fine : (earlier : List CompiledLibrary) (r : CompiledLibrary) → IsGood earlier r → IsFine r
fine earlier r h = record { well_made = h.well_made; primitives = h.primitives }

all-fine : (found : Found) (s : Loading) (records : List CompiledLibrary) (program : CompiledLibrary) → AllStand found s records program → Each IsFine (records ++ program ∷ [])
all-fine found s records program h =
    each-append IsFine records (program ∷ []) (subst (Each IsFine) (sym h.parts) (fine _ h.derived h.first.good, each_place IsFine h.others here)) (fine _ program h.last.good, tt)
  where
    here : (i : ℕ) (r : CompiledLibrary) → slice_get h.others i ≡ Some r → IsFine r
    here i r e = let x = same_place h.others s.done i r h.as_many e in fine _ r (h.each i x.0.0 x.0.1 r x.1 e).good

-- what closed core code mentions, it binds, or it is given
mention-known : (ls : List Label) (c : PlainCore) (l : Label) → Closed ls c → Among (mentions c) l → (P : Label → Type 0) → (Among (binders c) l → P l) → (Among ls l → P l) → P l
mention-known ls c l closed a P bound given = by (among same_label (binders c) l) refl
  where
    by : (b : Bool) → among same_label (binders c) l ≡ b → P l
    by true e = bound ((given_decides (binders c) l).0 e)
    by false e =
        let free : Among (binders c) l → ⊥ = λ d. let k = (given_decides (binders c) l).1 d in let bad : true ≡ false = sym k ∙ e in absurd (cc) in
        given (each-at (Among ls) (references c) l (references_given ls c closed) (free-referenced c l free a))

module _ (records : List CompiledLibrary) (program : CompiledLibrary) (standing : AreStanding records program) (sound : Each IsSound (records ++ program ∷ [])) (checked : Each HasText (text_of records program))
    (once : IsClosedOnce (text_of records program)) (good : Each IsFine (records ++ program ∷ [])) where
  abbrev T : List CompiledLibrary
  T = text_of records program

  abbrev names : VariableNames
  names = run_names records program

  bound-named : (l : Label) → Among (flat_map run_binders T) l → HasName names l
  bound-named l a = let x = binder records program standing sound checked l a in (_, x.called)

  -- what a record defines, it binds
  defined-bound : (xs : List Line) (l : Label) → Among (flat_map line_labels xs) l → Among (flat_map line_binders xs) l
  defined-bound xs l a = let found = flat-among line_labels xs l a in among-flat line_binders xs found.0 l found.1 (among-first (line_labels found.0) (binders (line_core found.0)) l found.2)

  defined-named : (l : Label) → Among (flat_map defined T) l → HasName names l
  defined-named l a = let found = flat-among defined T l a in bound-named l (among-flat run_binders T found.0 l found.1 (defined-bound found.0.run l found.2))

  module _ (r : CompiledLibrary) (there : Among T r) (x : Line) (in-run : Among r.run x) where
    here : IsFine r
    here = each-at IsFine (records ++ program ∷ []) r good (text-known records program standing r there)

    in-cores : Among (line_cores r) (line_core x)
    in-cores = among-map line_core r.run x in-run

    named : (l : Label) → Among (line_binders x) l → HasName names l
    named l a = bound-named l (among-flat run_binders T r l there (among-flat line_binders r.run x l in-run a))

    made : IsWellMade [] (line_core x)
    made = each-at (IsWellMade []) (line_cores r) (line_core x) here.well_made in-cores

    primitive : (o : ℕ) → Among (ops (line_core x)) o → IsPrimitive o
    primitive o a =
        (each-at (λ n. n < name_count) (ops (line_core x)) o made.named_ops a, each-at (λ n. is_keyword n ≡ false) (flat_map ops (line_cores r)) o here.primitives (among-flat ops (line_cores r) (line_core x) o in-cores a))

    closed : Closed (flat_map defined T) (line_core x)
    closed = each-at (λ y. Closed (flat_map defined T) (line_core y)) r.run x (each-at (LinesClosed (flat_map defined T)) T r once.closed there) in-run

    bound : (l : Label) → Among (binders (line_core x)) l → HasName names l
    bound l a = named l (among-second (line_labels x) (binders (line_core x)) l a)

    line-spellable : IsLineSpellable names x
    line-spellable = record {
      defined = each-of (HasName names) (line_labels x) (λ l a. named l (among-first (line_labels x) (binders (line_core x)) l a));
      code = record {
        bound = each-of (HasName names) (binders (line_core x)) bound;
        mentioned = each-of (HasName names) (mentions (line_core x)) (λ l a. mention-known (flat_map defined T) (line_core x) l closed a (HasName names) (bound l) (defined-named l));
        forms = made.forms;
        primitives = each-of IsPrimitive (ops (line_core x)) primitive;
      };
    }

  all-spellable : Each (IsLineSpellable names) (run_lines records program)
  all-spellable = text-lines (IsLineSpellable names) records program
      (each-of (λ r. Each (IsLineSpellable names) r.run) T (λ r a. each-of (IsLineSpellable names) r.run (λ x b. line-spellable r a x b)))

pub runs-spelled : RunsAreSpelled
runs-spelled prelude files roots path found s records program text h =
    let stand = all_records_stand prelude files roots path found s records program h.run in
    let standing = all_standing found s records program stand in
    let sound = all-sound found s records program (user_at files roots path found s h.run.loaded) stand (first-bare prelude found s records program h.run.recorded stand) in
    let spellable = all-spellable records program standing sound (text-checked records program text h.given) (runs_are_closed_once prelude files roots path found s records program h.run) (all-fine found s records program stand) in
    let spelled = spell_lines (run_names records program) (run_lines records program) (whole_checked records (plan_of records program) program text h.given) spellable in
    record { generated = names_are_generated records (plan_of records program) program; spellable = spellable; spellings = spelled.ds; spelled = spelled.spelled }

-- it is core text
pub core-text : (prelude : Result Codes Fault) (files : Paths) (roots : List (List ℕ)) (path : List ℕ) (found : Found) (s : Loading) (records : List CompiledLibrary) (program : CompiledLibrary) (text : List ℕ)
    → GivesText (run_inputs prelude files roots path) found s records program text → CanAllBeRead (run_lines records program) → IsWrittenCoreText records (plan_of records program) program text
core-text prelude files roots path found s records program text h readable =
    let k = runs-spelled prelude files roots path found s records program text h in
    record { given = h.given; generated = k.generated; spellable = k.spellable; readable = readable }

pub runs-back : CoreTextIsReadBack → RunsAreReadBack
runs-back back prelude files roots path found s records program text h readable =
    back records (plan_of records program) program text (core-text prelude files roots path found s records program text h readable)

pub runs-tell : CoreTextTellsItsLines → RunsTellTheirLines
runs-tell tells prelude prelude' files files' roots roots' path path' found found' s s' records records' program program' text h readable k readable' =
    tells records records' (plan_of records program) (plan_of records' program') program program' text
    (core-text prelude files roots path found s records program text h readable) (core-text prelude' files' roots' path' found' s' records' program' text k readable')
