-- The transformers that are kept have their procedures: states stay whole, and a run begins its expansions in such states.
use Rattle.std.proofs.Common.{◌≡◌, ℕ, true, List, [], ◌∷◌, map, length, Option, Some, None, Result, Ok, Err, refl, sym, ap, subst, ◌∙◌, append-nil}
use Rattle.std.specs.Prelude.{IsTrue, slice_get}
use Rattle.std.specs.List.{flat_map}
use Rattle.base_data.specs.Act.{after, give}
use Rattle.base_data.specs.declared.fault.Fault.{Fault}
use Rattle.base_data.specs.declared.imported_name.ImportedName.{ImportedName}
use Rattle.base_data.specs.declared.library.LibName.{LibName}
use Rattle.base_data.specs.declared.library.LibName.TheVariants as library
use Rattle.base_data.specs.declared.name.CodeNo.{CodeNo}
use Rattle.base_data.specs.declared.name.FrameNo.{FrameNo}
use Rattle.base_data.specs.declared.name.Mark.{Mark}
use Rattle.base_data.specs.declared.span.Span.{Span}
use Rattle.stx_tree.specs.Changes.{enter, leave, stamp}
use Rattle.stx_tree.specs.Tree.{Tree}
use Rattle.core_language.specs.Bindings.{bound_to}
use Rattle.core_language.specs.Core.{PlainCore}
use Rattle.core_language.specs.declared.record.CompiledLibrary.{CompiledLibrary}
use Rattle.law_core.specs.Records.{defined}
use Rattle.eval_code.specs.Codes.{Codes}
use Rattle.expand_forms.specs.Body.{splice, finish_all}
use Rattle.expand_forms.specs.Expression.{inside}
use Rattle.expand_forms.specs.Inside.{Inside}
use Rattle.expand_forms.specs.Top.{exports, give_record, body_at, second_pass, first_pass, top}
use Rattle.expand_forms.specs.declared.top.TopAt.{TopAt}
use Rattle.expand_forms.specs.Site.{site_at}
use Rattle.law_expand.proofs.GoodKeywords.{exports-same, started-begins}
use Rattle.law_expand.proofs.Top.{SameScope, AreShown, same-exports}
use Rattle.expand_heads.specs.Items.{begun}
use Rattle.expand_heads.specs.declared.taken.Taken.{Taken}
use Rattle.run_library.specs.Loaded.{all_records}
use Rattle.run_library.specs.Records.{needed_records}
use Rattle.load_files.specs.Load.{load}
use Rattle.load_files.specs.declared.found.Found.{Found}
use Rattle.load_files.specs.declared.found.Loading.{Loading}
use Rattle.law_load.specs.Laws.{IsAt, NeedsAreClosed}
use Rattle.law_load.proofs.LoadLemmas.{loads_all}
use Rattle.law_load.proofs.ReferLemmas.{IsSound}
use Rattle.base_outside.specs.Contents.{Paths}
use Rattle.run_prelude.specs.Prelude.{prelude_table}
use Rattle.eval_stage.specs.Stage.{PlainStage, fresh_mark, name_after, stuck}
use Rattle.eval_stage.specs.Uses.{procedure_in, call_procedure, read_answer, transform, cut, transform_and_cut, transform_marked, used}
use Rattle.expand_standing.specs.Start.{started}
use Rattle.expand_standing.specs.State.{State, stage_of}
use Rattle.expand_standing.specs.Uses.{macro_expression}
use Rattle.law_steady.specs.Libraries.{AreTexts}
use Rattle.law_steady.specs.States.{IsWholeState}
use Rattle.law_steady.proofs.All.{inside-holds}
use Rattle.law_steady.proofs.Bodies.{Takes, splice-goes, lines-run}
use Rattle.law_steady.proofs.Keywords.{Holds}
use Rattle.law_steady.proofs.Libraries.{texts_only, started-safe, exports-light}
use Rattle.law_steady.proofs.OnStage.{imported-by}
use Rattle.law_steady.proofs.Safe.{Safe, Light, B, Goes, G, fresh-same, goes-self, goes-then, go}
use Rattle.law_steady.proofs.Sure.{Sure, sure-after, sure-less, sure-with}
use Rattle.law_stuck.specs.Behind.{IsOfTexts}
use Rattle.law_stuck.specs.Steady.{IsReadyOn, Steady, EndsReady}
use Rattle.law_stuck.specs.Uses.{Around}
use Rattle.law_stuck.proofs.Steps.{transformers_never_stuck}
use Rattle.eval_value.specs.Cells.{FitsIn, is_found, transformer_in}
use Rattle.eval_value.specs.declared.cell.Cell.{Cell}
use Rattle.eval_value.specs.declared.value.Value.{Value}
use Rattle.eval_value.specs.declared.value.Value.TheVariants as value
use Rattle.law_run.specs.Run.{run_inputs}
use Rattle.law_run.specs.Transformers.{HasProcedure, WholeStatesHaveProcedures, UsesFindProcedures, MissingIsStuck, StaysWhole, FormsStayWhole, BodiesStayWhole}
use Rattle.law_run.specs.Transformers.{numbers_in, StartsAreWhole, StartsWhole, PartsStartWhole, ProgramsStartWhole, DerivedStartsWhole}
use Rattle.law_run.proofs.BehindLemmas.{IsNew}
use Rattle.law_run.proofs.NamedFiles.{AllUsers, users-all}
use Rattle.law_run.proofs.OtherFaults.{AreRead}
use Rattle.law_run.proofs.PartBehind.{Behind, all-serve, all-behind, library-new, program-new}
use Rattle.law_run.proofs.PartFits.{at-next, PartsAre, parts-are, IsLoaded, loaded-is}
use Rattle.law_run.proofs.PartRows.{no-text-derived, no-text-program, no-text-user}
use Rattle.law_run.proofs.Unstuck.{texts-read}
use Rattle.law_run.proofs.UserLemmas.{program_name}
use Rattle.law_run.specs.Parts.{IsPartOfRun}
use Rattle.law_local.proofs.BehindLemmas.{with_first}

-- ---- a value that fits has its procedure

is-there : {A : Type 0} (o : Option A) → IsTrue (is_found o) → (x : A) × (o ≡ Some x)
is-there None h = absurd (cc)
is-there (Some x) h = (x, refl)

has-procedure : (cells : List Cell) (v : Value) → FitsIn cells v → HasProcedure cells v
has-procedure cells (value.Transformer place) h = is-there (transformer_in (slice_get cells place.0)) h
has-procedure cells value.Unspecified h = (value.Unspecified, refl)
has-procedure cells (value.Atom x) h = (value.Atom x, refl)
has-procedure cells (value.Symbol x) h = (value.Symbol x, refl)
has-procedure cells (value.Pair place) h = (value.Pair place, refl)
has-procedure cells (value.Vector place) h = (value.Vector place, refl)
has-procedure cells (value.Str place) h = (value.Str place, refl)
has-procedure cells (value.Closure code place) h = (value.Closure code place, refl)
has-procedure cells (value.Prim op) h = (value.Prim op, refl)
has-procedure cells (value.Syn x) h = (value.Syn x, refl)

-- ---- whole states, and states that are safe

module _ (own : LibName) (texts : List CodeNo) (rs : List CompiledLibrary) where
  goes-whole : (s u : State) → Around own texts rs → Goes own texts rs s u → IsWholeState own texts rs u
  goes-whole s u x g = record { around = x; good = g.onward.0; steady = g.safe }

  pub stays : {A : Type 0} (s : State) (r : Result (A × State) Fault) → Around own texts rs → Sure (G own texts rs s) r → StaysWhole own texts rs r
  stays s (Ok p) x g = goes-whole s p.1 x g
  stays s (Err f) x g = g

pub whole-have : WholeStatesHaveProcedures
whole-have own texts rs s h l e v k = has-procedure s.cells v (h.steady.stage.kept l e v k).fits

pub uses-find : UsesFindProcedures
uses-find own texts rs place l s v g h e =
    let m : Option PlainCore = macro_expression (bound_to s.bindings l) in
    let known = imported-by own texts rs h.around s h.steady l in
    let k : Steady own texts rs g × IsReadyOn g v = subst (EndsReady own texts rs) e (transformers_never_stuck own texts place rs l m (stage_of s) (record { around = h.around; steady = h.steady.stage }) known) in
    has-procedure g.cells v k.1.fits

-- ---- a use whose transformer has no procedure is at fault

missing-transform : (place : Span) (v : Value) (t : Tree) (g : PlainStage) → procedure_in g.cells v ≡ None → transform place v t g ≡ Err (stuck place)
unfolding transform
missing-transform place v t g none = ap (λ (o : Option Value). after (call_procedure place t o g) (read_answer place)) none

missing-marked : (place : Span) (v : Value) (form : Tree) (frame : Option FrameNo) (m : Mark) (g : PlainStage) → procedure_in g.cells v ≡ None → transform_marked place v form frame m g ≡ Err (stuck place)
unfolding transform_marked transform_and_cut
missing-marked place v form frame m g none =
    ap (λ (r : Result (Tree × PlainStage) Fault). after (after r (λ u new. give u (cut (length g.cells) new))) (λ t. give (leave m frame t))) (missing-transform place v (enter m form) g none)

pub missing-is-stuck : MissingIsStuck
unfolding used
missing-is-stuck place rs form l e frame s g v k none =
    ap (λ (r : Result (Value × PlainStage) Fault). after r (λ u t. after (fresh_mark t) (transform_marked place u form frame))) k
    ∙ missing-marked place v form frame (record { 0 = g.names }) (record g { names = name_after g.names }) none

-- ---- forms

pub forms-stay-whole : FormsStayWhole
forms-stay-whole own texts rs room place level depth t s h =
    stays own texts rs s ((inside rs room).form (site_at place level depth) t s) h.around
    ((inside-holds own texts rs h.around room).form place level depth t s h.good h.steady)

-- ---- the body of a library or program

module _ (own : LibName) (texts : List CodeNo) (rs : List CompiledLibrary) (x : Around own texts rs) (inner : Inside) (holds : Holds own texts rs inner) where
  lines-go : (at : TopAt) (d : Taken) (s t : State) (ls : List ImportedName) → Goes own texts rs s t → Sure (G own texts rs s) (after (finish_all inner 0 d.waiting t) (λ lines. give_record at ls lines))
  lines-go at d s t ls first =
      sure-less (G own texts rs t) (G own texts rs s) (after (finish_all inner 0 d.waiting t) (λ lines. give_record at ls lines))
      (go own texts rs t (finish_all inner 0 d.waiting t) (λ lines. give_record at ls lines) (lines-run own texts rs x inner holds 0 d.waiting t first.onward.0 first.safe)
      (λ lines u g. goes-self own texts rs u g.onward.0 g.safe))
      (λ r u g. goes-then own texts rs s t u first g)

  finished-goes : (at : TopAt) (es : List (List ℕ × Tree)) (d : Taken) (s : State) → B own texts rs s → Safe own texts rs s → Sure (G own texts rs s) (second_pass inner at es d s)
  unfolding second_pass
  finished-goes at es d s b h =
      sure-after (λ ls t. Light own texts rs s t × (SameScope s t × AreShown s.frames ls)) (G own texts rs s) (exports at es s) (λ ls t. after (finish_all inner 0 d.waiting t) (λ lines. give_record at ls lines))
      (sure-with (λ ls t. Light own texts rs s t) (λ ls t. SameScope s t × AreShown s.frames ls) (exports at es s) (exports-light own texts rs x inner holds at es s h) (same-exports at es s))
      (λ ls t k. lines-go at d s t ls
      (record { onward = exports-same own (flat_map defined rs) inner holds.spares s t k.1.0 b; safe = k.0.safe; fresh = fresh-same own texts rs s t k.0.keywords }))

  pub top-goes : (at : TopAt) (es : List (List ℕ × Tree)) (forms : List Tree) (s : State) → at.frame.0.library ≡ own → B own texts rs s → Safe own texts rs s → Sure (G own texts rs s) (top inner at es forms s)
  unfolding top first_pass
  top-goes at es forms s mine b h =
      sure-after (Takes own texts rs x inner holds s) (G own texts rs s) (splice inner (body_at at s.library) 0 begun (map (stamp at.frame) forms) s) (second_pass inner at es)
      (splice-goes own texts rs x inner holds (body_at at s.library) 0 begun (map (stamp at.frame) forms) s ((λ e. refl), mine) b h tt)
      (λ d t g. sure-less (G own texts rs t) (G own texts rs s) (second_pass inner at es d t) (finished-goes at es d t g.0.onward.0 g.0.safe) (λ r u k. goes-then own texts rs s t u g.0 k))

pub bodies-stay-whole : BodiesStayWhole
bodies-stay-whole own texts rs room at es forms s mine h =
    stays own texts rs s (top (inside rs room) at es forms s) h.around
    (top-goes own texts rs h.around (inside rs room) (inside-holds own texts rs h.around room) at es forms s mine h.good h.steady)

-- ---- where an expansion begins

pub starts-are-whole : StartsAreWhole
starts-are-whole own rs imports codes is_ready behind no_text texts =
    let x : Around own (numbers_in codes) rs = record { new = is_ready.new; no_text = no_text; texts_only = texts_only own rs codes texts; behind = behind } in
    record { around = x; good = started-begins own rs imports codes is_ready; steady = started-safe own rs codes texts imports }

module _ (prelude : Result Codes Fault) (read : AreRead prelude) where
  texts-of : (table : Codes) → prelude ≡ Ok table → AreTexts table
  texts-of table given = subst AreRead given read

  module _ (s : Loading) (sound : IsSound s) (users : AllUsers s.done) (count : ℕ) (records : List CompiledLibrary) (p : PartsAre s sound users count records) where
    -- behind the records that it needs
    needed-start : (f : Found) → NeedsAreClosed s.done f → IsNew (Behind p.derived p.so.others f) f.opened.form.name → (IsOfTexts f.opened.form.name → ⊥)
        → StartsWhole prelude (needed_records records (true ∷ f.needs)) f.opened.form.name
    needed-start f closed new no_text table imports given =
        subst (λ (rs : List CompiledLibrary). IsWholeState f.opened.form.name (numbers_in table) rs (started f.opened.form.name rs imports table)) (sym same)
        (starts-are-whole f.opened.form.name (Behind p.derived p.so.others f) imports table
        (record { new = new; earlier = all-serve s sound users p.derived p.first.stands p.first.behind p.so.others p.so.made f closed })
        (all-behind s sound users p.derived p.first.stands p.first.behind p.so.others p.so.made f closed) no_text (texts-of table given))
      where
        same : needed_records records (true ∷ f.needs) ≡ Behind p.derived p.so.others f
        same = ap (λ (rs : List CompiledLibrary). needed_records rs (true ∷ f.needs)) p.so.parts ∙ with_first p.derived p.so.others f.needs

  part-starts : (files : Paths) (roots : List (List ℕ)) (path : List ℕ) (s : Loading) (first : List (List ℕ × Found)) (file : List ℕ) (f : Found) (left : List (List ℕ × Found)) (records : List CompiledLibrary)
      → IsPartOfRun (run_inputs prelude files roots path) s first ((file, f) ∷ left) records → StartsWhole prelude (needed_records records (true ∷ f.needs)) f.opened.form.name
  part-starts files roots path s first file f left records part =
      let l : IsLoaded s = subst IsLoaded part.loaded (loaded-is files roots path) in
      let p = parts-are s l.sound l.users prelude first ((file, f) ∷ left) records part.parts part.recorded in
      let at : IsAt s.done (length p.so.others) file f = ap (slice_get s.done) p.so.many ∙ ap (λ xs. slice_get xs (length first)) part.parts ∙ at-next first left (file, f) in
      let closed : NeedsAreClosed s.done f = (l.sound.stand (length p.so.others) file f at).closed in
      needed-start s l.sound l.users (length first) records p f closed
      (library-new s l.sound l.users p.derived p.first.stands p.first.behind p.so.others p.so.made f closed (length p.so.others) file at)
      (no-text-user f.opened.form.name (l.users (length p.so.others) file f at))

  program-starts : (files : Paths) (roots : List (List ℕ)) (path : List ℕ) (found : Found) (s : Loading) (records : List CompiledLibrary) → load files roots path ≡ Ok (found, s)
      → all_records prelude s.done ≡ Ok records → StartsWhole prelude (needed_records records (true ∷ found.needs)) found.opened.form.name
  program-starts files roots path found s records h recorded =
      let all = loads_all files roots path found s h in
      let users = users-all files roots path found s h in
      let p = parts-are s all.sound users prelude s.done [] records (sym (append-nil s.done)) recorded in
      let is = program_name files roots path found s h in
      needed-start s all.sound users (length s.done) records p found all.stands.closed
      (program-new s all.sound users p.derived p.first.stands p.first.behind p.so.others p.so.made found all.stands.closed found.opened.form.name is)
      (no-text-program found.opened.form.name is)

  derived-starts : StartsWhole prelude [] library.Derived
  derived-starts table imports given =
      starts-are-whole library.Derived [] imports table (record { new = λ a. elim a [ ]; earlier = tt }) tt no-text-derived (texts-of table given)

-- with the texts of the prelude

pub parts-start-whole : PartsStartWhole
parts-start-whole = part-starts prelude_table texts-read

pub programs-start-whole : ProgramsStartWhole
programs-start-whole = program-starts prelude_table texts-read

pub derived-starts-whole : DerivedStartsWhole
derived-starts-whole = derived-starts prelude_table texts-read
