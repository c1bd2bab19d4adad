-- Code that is closed and well made, and records of such code, never get stuck in a whole world.
use Rattle.std.proofs.Common.{◌≡◌, List, [], ◌∷◌, ◌++◌, Option, None, Some, map, refl, ap, sym, subst, ◌∙◌, option_map, inl, inr}
use Rattle.std.specs.Prelude.{IsTrue}
use Rattle.std.specs.List.{flat_map}
use Rattle.std.specs.Map.{lookup}
use Rattle.std.proofs.lemmas.Grind.{flat_map-append}
use Rattle.base_data.proofs.ElementLemmas.{each-at, each-of, each-first, each-last, among-first, among-parts, among-flat}
use Rattle.base_data.specs.Elements.{Each, Among, Once}
use Rattle.base_data.specs.declared.name.Label.{Label}
use Rattle.core_language.specs.Core.{PlainCore}
use Rattle.core_language.specs.Labels.{same_label}
use Rattle.core_language.specs.References.{variables, binders, mentions}
use Rattle.core_language.specs.declared.record.Line.{Line}
use Rattle.law_core.specs.Parts.{parts, own_number, own_patterns, code_numbers, patterns, pattern_variables}
use Rattle.law_core.specs.Scope.{Closed}
use Rattle.law_core.specs.WellMade.{HasForm, IsWellMade}
use Rattle.law_core.specs.Records.{line_core, defined}
use Rattle.eval_value.specs.Cells.{is_found}
use Rattle.eval_value.specs.declared.value.Value.{Value}
use Rattle.eval_value.specs.declared.cell.Cell.{Cell}
use Rattle.eval_prims.specs.declared.world.World.{World}
use Rattle.eval_code.specs.Setting.{PlainSetting}
use Rattle.law_whole.specs.Evaluated.{codes_of, setting_for, setting_for_lines, lines_labels, LinesReady}
use Rattle.law_whole.specs.Extends.{Stay}
use Rattle.law_whole.specs.MadeReady.{AreNew, AreGlobals, WellMadeNeverStuck, RecordsNeverStuck}
use Rattle.law_whole.specs.Ready.{Variables, PatternVariables, Besides, Ready, FoundFrom, BoundFrom}
use Rattle.law_whole.proofs.Among.{one_of}
use Rattle.law_whole.proofs.Evaluations.{evals_never_stuck}
use Rattle.law_whole.proofs.Lines.{libraries_never_stuck}
use Rattle.law_whole.proofs.Numbered.{CodeStands, lines_parts, codes_added, lines_added, all_stand, all_stay}
use Rattle.law_whole.proofs.Prepared.{PartSound, Sound, made_ready}

-- the pattern variables of well made code
abbrev own_variables : PlainCore → List Label
own_variables c = pattern_variables c ++ []

well_made_sound : (v : PlainSetting) (c : PlainCore) → IsWellMade [] c → Each (CodeStands v.codes) (parts c) → Sound v (own_variables c) [] (parts c) (mentions c) (binders c)
well_made_sound v c m stand = record {
  parts = each-of (PartSound v (own_variables c)) (parts c) (λ e a. (
    each-at HasForm (parts c) e m.forms a,
    (
      each-at (CodeStands v.codes) (parts c) e stand a,
      each-of (λ p. Each (Among (own_variables c)) (variables p)) (own_patterns e) (λ p b.
          each-of (Among (own_variables c)) (variables p) (λ l k. among-first (pattern_variables c) [] l (among-flat variables (patterns c) p l (among-flat own_patterns (parts c) e p a b) k))),
    ),
  ));
  unmentioned = m.unmentioned;
  once = m.bound_once;
  apart = each-of (λ l. Among [] l → ⊥) (binders c) (λ l a b. absurd b);
}

-- where it finds what it is closed under, and its codes stand at their numbers
pub well_made_ready : (v : PlainSetting) (F : Variables) (G : PatternVariables) (ls : List Label) (c : PlainCore) → ((l : Label) → Among ls l → F l) → Closed ls c → IsWellMade [] c
    → Each (CodeStands v.codes) (parts c) → Ready v F G c
well_made_ready v F G ls c f h m stand =
    made_ready v (own_variables c) F G ls [] (λ l a q. f l a) (λ l d a. absurd a) c h m.templates (well_made_sound v c m stand)

pub found_global : (o : Option Value) → IsTrue (is_found o) → IsTrue (is_found (option_map (λ v. Some v) o))
found_global None h = absurd (cc)
found_global (Some v) h = refl

globals_found : (w : World) (v : PlainSetting) (cells : List Cell) (ls : List Label) → v.globals ≡ w.globals.entries → AreGlobals w ls → (l : Label) → Among ls l → FoundFrom v cells None l
globals_found w v cells ls e h l a =
    found_global (lookup (same_label l) v.globals)
    (subst (λ gs. IsTrue (is_found (lookup (same_label l) gs))) (sym e) (each-at (λ m. IsTrue (is_found (lookup (same_label m) w.globals.entries))) ls l h a))

pub well_made_never_stuck : WellMadeNeverStuck
well_made_never_stuck w ls c n world globals closed m new =
    let old = codes_of w in
    let v = setting_for w c in
    let all = codes_added c old in
    let cells = w.store.cells.list in
    evals_never_stuck w c None n world tt (subst (Stay old) (sym all) (all_stay (parts c) old new))
    (well_made_ready v (FoundFrom v cells None) (BoundFrom cells None) ls c (globals_found w v cells ls refl globals) closed m
    (subst (λ cs. Each (CodeStands cs) (parts c)) (sym all) (all_stand (parts c) old m.numbered_once)))

-- Records.

pub numbers_of : (ls : List Line) → flat_map own_number (lines_parts ls) ≡ flat_map code_numbers (map line_core ls)
numbers_of [] = refl
numbers_of (l ∷ ls) = flat_map-append own_number (parts (line_core l)) (lines_parts ls) ∙ ap (λ ns. code_numbers (line_core l) ++ ns) (numbers_of ls)

lines_ready : (v : PlainSetting) (F : Variables) (G : PatternVariables) (ms : List Label) (ls : List Line) → ((l : Label) → Among ms l → F l) → Each (λ l. Closed ms (line_core l)) ls
    → Each (IsWellMade []) (map line_core ls) → Each (CodeStands v.codes) (lines_parts ls) → LinesReady v F G ls
lines_ready v F G ms [] f closed made stand = tt
lines_ready v F G ms (l ∷ ls) f closed made stand = (
  well_made_ready v F G ms (line_core l) f closed.0 made.0 (each-first (CodeStands v.codes) (parts (line_core l)) (lines_parts ls) stand),
  lines_ready v F G ms ls f closed.1 made.1 (each-last (CodeStands v.codes) (parts (line_core l)) (lines_parts ls) stand),
)

pub records_never_stuck : RecordsNeverStuck
records_never_stuck w ls r n world globals closed made once new =
    let old = codes_of w in
    let v = setting_for_lines w r.run in
    let all = lines_added r.run old in
    let cells = w.store.cells.list in
    let numbers = numbers_of r.run in
    libraries_never_stuck w r.run n world
    (subst (Stay old) (sym all) (all_stay (lines_parts r.run) old (subst (λ ns. AreNew old ns) (sym numbers) new)))
    (lines_ready v (Besides (lines_labels r.run) (FoundFrom v cells None)) (BoundFrom cells None) (ls ++ defined r) r.run
    (λ l a. elim (among-parts ls (defined r) l a) [ inl b ↦ inr (globals_found w v cells ls refl globals l b) | inr b ↦ inl (one_of (defined r) l b) ]) closed made
    (subst (λ cs. Each (CodeStands cs) (lines_parts r.run)) (sym all) (all_stand (lines_parts r.run) old (subst Once (sym numbers) once))))
