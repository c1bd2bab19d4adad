-- The record of a library or program is good.
use Rattle.std.proofs.Common.{◌≡◌, ℕ, ◌≤◌, Bool, true, List, [], ◌++◌, map, Some, Result, Ok, Err, refl, sym, ◌∙◌, ap, subst, arith, inl, inr, append-nil}
use Rattle.std.specs.Prelude.{◌⊎◌}
use Rattle.std.specs.List.{flat_map}
use Rattle.base_data.proofs.ElementLemmas.{among-first, among-second, among-parts}
use Rattle.base_data.specs.Act.{after}
use Rattle.base_data.specs.Elements.{Each, Among, Once}
use Rattle.base_data.specs.Named.{Named}
use Rattle.base_data.specs.declared.fault.Fault.{Fault}
use Rattle.base_data.specs.declared.imported_name.ImportedName.{ImportedName}
use Rattle.base_data.specs.declared.library.LibName.{LibName}
use Rattle.base_data.specs.declared.library.LibName.TheVariants as library
use Rattle.base_data.specs.declared.name.Label.{Label}
use Rattle.stx_tree.specs.Changes.{stamp}
use Rattle.stx_tree.specs.Tree.{Tree}
use Rattle.stx_frames.specs.Listed.{rows_in}
use Rattle.stx_frames.specs.Scope.{Scope}
use Rattle.core_language.specs.Bindings.{bound_to}
use Rattle.core_language.specs.declared.binding.Binding.{Binding}
use Rattle.core_language.specs.declared.binding.Binding.TheVariants as binding
use Rattle.core_language.specs.declared.binding.VarInfo.{VarInfo}
use Rattle.core_language.specs.declared.record.CompiledLibrary.{CompiledLibrary}
use Rattle.core_language.specs.declared.record.Line.{Line}
use Rattle.law_core.specs.Parts.{code_numbers}
use Rattle.law_core.specs.Records.{defined, line_core, line_labels, run_binders}
use Rattle.law_core.specs.Follows.{line_cores}
use Rattle.eval_code.specs.Codes.{Codes}
use Rattle.expand_standing.specs.Own.{own_bindings}
use Rattle.expand_standing.specs.Start.{started, first_frame}
use Rattle.expand_standing.specs.State.{State}
use Rattle.expand_heads.specs.Items.{begun, is_top}
use Rattle.expand_heads.specs.declared.taken.Taken.{Taken}
use Rattle.expand_forms.specs.Body.{splice, finish_all}
use Rattle.expand_forms.specs.Expanding.{ready, library_record}
use Rattle.expand_forms.specs.Expression.{inside, full_room}
use Rattle.expand_forms.specs.Inside.{Inside}
use Rattle.expand_forms.specs.Top.{exports, refs_of, give_record, record_in, body_at, kind_of, second_pass, first_pass, top, top_at}
use Rattle.expand_forms.specs.declared.top.LibraryBody.{LibraryBody}
use Rattle.expand_forms.specs.declared.top.TopAt.{TopAt}
use Rattle.law_expand.specs.Good.{RecordsAreGood}
use Rattle.law_expand.specs.Indices.{bound_index}
use Rattle.law_expand.proofs.Indices.{indices-once}
use Rattle.law_expand.specs.Ready.{IsReady}
use Rattle.law_expand.specs.States.{IsOwn, IsForeign, IsTop, Sound, Keeps, Grows, Adds, ReachOfCode, Later}
use Rattle.law_expand.specs.Shallow.{deepest}
use Rattle.law_expand.proofs.Acts.{Gave, gave-after, gave-both, gave-less}
use Rattle.law_expand.proofs.Fresh.{Made, FreshLabels, each-map}
use Rattle.law_expand.proofs.Grows.{grows-same, grows-then}
use Rattle.law_expand.proofs.Shown.{IsShown, shown-later}
use Rattle.law_expand.proofs.Later.{keeps-same, keeps-then, sound-grown}
use Rattle.law_expand.proofs.Scope.{adds-then, adds-same}
use Rattle.law_expand.proofs.Top.{GoodRun, SameScope, AreShown, kinds-defined, lines-closed, lines-well-made, lines-primitives, lines-codes, run-binders, same-exports}
use Rattle.law_expand.proofs.Good.{InTurn}
use Rattle.law_expand.proofs.LineLabels.{kind_labels}
use Rattle.law_expand.proofs.Lines.{GoodLine}
use Rattle.law_expand.proofs.Items.{wait_kinds, Took}
use Rattle.law_expand.proofs.Meanings.{reach-more, reach-added}
use Rattle.law_expand.proofs.Nesting.{IsDefined, Within, defined-grown}
use Rattle.law_expand.proofs.NestingBinding.{Pairs, pairs-each}
use Rattle.law_expand.proofs.NestingBodies.{LineWithin, lines-nest, Splices, first-nests}
use Rattle.law_expand.proofs.NestingItems.{IsDeep}
use Rattle.law_expand.proofs.Expand.{Safe, Starts}
use Rattle.law_expand.proofs.Bodies.{GivesLines, gives-lines}
use Rattle.law_expand.proofs.Forms.{inside-safe}
use Rattle.law_expand.proofs.Started.{started-sound, started-scope, started-foreign, started-indices}

-- the run lines of a record of this library, behind these variables, and the state that its expansion ended in
pub record Runs (own : LibName) (given : List Label) (start : State) (r : CompiledLibrary) : Type 0 where
  pub first : ℕ
  pub middle : ℕ
  pub last : ℕ
  pub name : r.name ≡ own
  pub references : r.refs ≡ refs_of r.name r.run
  pub ended : State
  pub run : GoodRun own ended.bindings (given ++ defined r) first middle last r.run
  pub next : ended.names.library ≡ own
  pub grows : Grows own start ended
  pub keeps : Keeps own start ended
  pub bindings : r.bindings ≡ own_bindings ended
  pub frames : r.frames ≡ rows_in r.name ended.frames
  pub exports : AreShown ended.frames r.exports
  pub tops : (l : Label) (v : VarInfo) → IsOwn own l.0 → IsTop ended l v → Among (defined r) l
  pub nests : Each (λ x. Within ended.bindings 0 0 deepest (line_core x)) r.run
  pub labels : Each (IsDefined ended.bindings 0 true) (defined r)

-- libraries and programs define at the top
always-top : (own : LibName) → is_top (kind_of own) ≡ true
always-top library.Core = refl
always-top library.Derived = refl
always-top library.Prelude = refl
always-top library.Program = refl
always-top (library.User parts) = refl

-- behind a state in which nothing is in scope and no label of the library is bound
module _ (own : LibName) (given : List Label) (go : Inside) (safe : Safe own given go) (start : State) (sound : Sound own given start) (blank : start.scope ≡ [])
    (none : (l : Label) (b : Binding) → bound_to start.bindings l ≡ Some b → IsForeign own l.0) where
  abbrev Top : Bool
  Top = is_top (kind_of start.library)

  record Done (d : Taken) (s : State) : Type 0 where
    pub here : s.library ≡ start.library
    pub next : s.names.library ≡ own
    pub took : Took own Top start d s
    pub grows : Grows own start s
    pub keeps : Keeps own start s
    pub deep : Each (IsDeep 0) d.waiting
    pub labels : Each (IsDefined s.bindings 0 true) (kind_labels (wait_kinds d.waiting))

  abbrev Pairs-at : Taken → State → List Line → Type 0
  Pairs-at d v xs = Pairs (LineWithin v.bindings 0 0) d.waiting xs

  -- the exports leave what was taken
  took-same : (d : Taken) (s t : State) → SameScope s t → Done d s → Done d t
  took-same d s t h k = record {
    here = h.library ∙ k.here;
    next = ap (λ (n : Named). n.library) h.names ∙ k.next;
    took = record {
      labels = subst (λ (n : Named). FreshLabels own start.names.number n.number (kind_labels (wait_kinds d.waiting))) (sym h.names) k.took.labels;
      up = subst (λ (n : Named). start.names.number ≤ n.number) (sym h.names) k.took.up;
      adds = subst (λ (xs : List Label). Adds own Top xs [] start t) (append-nil (kind_labels (wait_kinds d.waiting))) (adds-then own Top (kind_labels (wait_kinds d.waiting)) [] [] [] start s t k.took.adds (adds-same own Top s t h.scope grows.bound tops grows.numbered));
      value = k.took.value;
    };
    grows = grows-then own start s t k.grows grows;
    keeps = keeps-then own start s t k.took.up (let e = ap (λ (n : Named). n.number) h.names in omega (arith, e)) k.keeps (keeps-same own s t h.bindings h.keywords);
    deep = k.deep;
    labels = subst (λ bs. Each (IsDefined bs 0 true) (kind_labels (wait_kinds d.waiting))) (sym h.bindings) k.labels;
  }
    where
      grows : Grows own s t
      grows = grows-same own s t h.frames h.bindings h.index (let e = ap (λ (n : Named). n.number) h.names in omega (arith, e))

      tops : (l : Label) (v : VarInfo) → IsOwn own l.0 → IsTop t l v → IsTop s l v
      tops l v o b = (ap (λ bs. bound_to bs l) (sym h.bindings) ∙ b.0, b.1)

  no-top : (l : Label) (v : VarInfo) → IsOwn own l.0 → IsTop start l v → ⊥
  no-top l v o b = none l (binding.Variable v) b.0 o

  -- nothing was in scope
  blank-reach : ReachOfCode own given [] 0 start given
  blank-reach = record {
    scope = subst (Each (Among given)) (sym blank) tt;
    top = λ l v o b. absurd (no-top l v o b);
    foreign = λ l a. a;
    depths = λ l at depth a p. absurd (subst (λ (xs : List Label). Among xs l) blank a);
    patterns = tt;
  }

  -- the second pass starts with the variables of the top
  starts-top : (labels : List Label) (d : Taken) (s : State) → Done d s → Adds own Top labels [] start s → Starts own given [] 0 (given ++ labels) s
  starts-top labels d s h adds = (
    sound-grown own given start s h.here h.next h.grows adds.bound sound,
    reach-more own given [] 0 s (labels ++ given) (given ++ labels) (λ l a. turned l (among-parts labels given l a))
        (reach-added own given [] 0 Top labels given [] start s adds h.grows tt sound blank-reach),
  )
    where
      turned : (l : Label) → Among labels l ⊎ Among given l → Among (given ++ labels) l
      turned l (inl a) = among-second given labels l a
      turned l (inr a) = among-first given labels l a

  new-top : (labels : List Label) (l : Label) (v : VarInfo) → IsOwn own l.0 → IsTop start l v ⊎ ((Top ≡ true) × ((v.level ≡ 0) × Among labels l)) → Among labels l
  new-top labels l v o (inl b) = absurd (no-top l v o b)
  new-top labels l v o (inr p) = p.1.1

  gives-record : (at : TopAt) (es : List ImportedName) (d : Taken) (t : State) → Done d t → AreShown t.frames es → Gave (λ r v. Runs own given start r) (after (finish_all go 0 d.waiting t) (λ lines. give_record at es lines))
  gives-record at es d t h shown =
      let labels = kind_labels (wait_kinds d.waiting) in
      let took = h.took in
      gave-after (λ xs v. GivesLines own given go safe 0 [] (given ++ labels) d.waiting t xs v × Pairs-at d v xs) (λ r v. Runs own given start r) (finish_all go 0 d.waiting t) (λ lines. give_record at es lines)
      (gave-both (GivesLines own given go safe 0 [] (given ++ labels) d.waiting t) (λ xs v. Pairs-at d v xs) (finish_all go 0 d.waiting t)
      (gives-lines own given go safe 0 [] (given ++ labels) d.waiting t (starts-top labels d t h took.adds))
      (gave-less (λ xs v. Later own t v × Pairs (LineWithin v.bindings 0 0) d.waiting xs) (λ xs v. Pairs-at d v xs) (finish_all go 0 d.waiting t)
      (lines-nest own go safe.nests 0 0 d.waiting t h.deep (h.next, h.grows.numbered sound.numbered)) (λ xs v j. j.1)))
      (λ xs v both. let k = both.0 in
      let is : labels ≡ flat_map line_labels xs = sym (kinds-defined xs ∙ ap kind_labels k.kinds) in
      record {
        first = start.names.number;
        middle = t.names.number;
        last = v.names.number;
        name = k.later.here ∙ h.here ∙ sound.here;
        run = record {
          labels = subst (FreshLabels own start.names.number t.names.number) is took.labels;
          lines = subst (λ (ls : List Label). InTurn (GoodLine own v.bindings [] (given ++ ls)) t.names.number v.names.number xs) is k.good;
        };
        references = refl;
        ended = v;
        next = k.later.next;
        grows = grows-then own start t v h.grows k.later.grows;
        keeps = keeps-then own start t v took.up k.later.up h.keeps k.later.keeps;
        bindings = refl;
        frames = refl;
        exports = each-map (λ (e : ImportedName). IsShown t.frames e.label) (λ (e : ImportedName). IsShown v.frames e.label) es shown (λ e j. shown-later own t v e.label k.later.grows j);
        tops = λ l w o b. subst (λ (ls : List Label). Among ls l) is (new-top labels l w o (took.adds.tops l w o (k.later.tops l w o b)));
        nests = pairs-each (LineWithin v.bindings 0 0) (λ x. Within v.bindings 0 0 deepest (line_core x)) (λ w x j. j.0) d.waiting xs both.1;
        labels = subst (Each (IsDefined v.bindings 0 true)) is (each-map (IsDefined t.bindings 0 true) (IsDefined v.bindings 0 true) labels h.labels (λ l j. defined-grown t.bindings v.bindings k.later.grows.bound 0 true l j));
      })

  gives-finished : (at : TopAt) (es : List (List ℕ × Tree)) (d : Taken) (s : State) → Done d s → Gave (λ r v. Runs own given start r) (second_pass go at es d s)
  unfolding second_pass
  gives-finished at es d s h =
      gave-after (λ ls t. SameScope s t × AreShown s.frames ls) (λ r v. Runs own given start r) (exports at es s) (λ ls t. after (finish_all go 0 d.waiting t) (λ lines. give_record at ls lines)) (same-exports at es s)
      (λ ls t k. gives-record at ls d t (took-same d s t k.0 h) (subst (λ (fs : Scope). AreShown fs ls) (sym k.0.frames) k.1))

  pub gives-top : (at : TopAt) (es : List (List ℕ × Tree)) (forms : List Tree) → Gave (λ r v. Runs own given start r) (top go at es forms start)
  unfolding top first_pass
  gives-top at es forms =
      gave-after Done (λ r v. Runs own given start r) (splice go (body_at at start.library) 0 begun (map (stamp at.frame) forms) start) (second_pass go at es)
      (gave-less (Splices own go safe.nests (body_at at start.library) 0 start start) Done (splice go (body_at at start.library) 0 begun (map (stamp at.frame) forms) start)
      (first-nests own go safe.nests (body_at at start.library) 0 (map (stamp at.frame) forms) start (sound.next, sound.numbered) (λ e. refl))
      (λ d t k. record {
        here = k.takes.later.here;
        next = k.takes.later.next;
        took = k.takes.took;
        grows = k.takes.later.grows;
        keeps = k.takes.keeps;
        deep = k.waiting.deep;
        labels = subst (λ (top : Bool). Each (IsDefined t.bindings 0 top) (kind_labels (wait_kinds d.waiting))) (always-top start.library) k.waiting.labels;
      }))
      (λ d t k. gives-finished at es d t k)

pub in-record : (P : CompiledLibrary → Type 0) (x : Result (CompiledLibrary × State) Fault) (r : CompiledLibrary) → Gave (λ y v. P y) x → record_in x ≡ Ok r → P r
in-record P (Ok p) r h e = let is : p.0 ≡ r = cc in subst P is h
in-record P (Err f) r h e = absurd (cc)

pub record-runs : (own : LibName) (records : List CompiledLibrary) (imports : List ImportedName) (body : LibraryBody) (codes : Codes) (r : CompiledLibrary)
    → IsReady own records → library_record (ready own records imports codes) records body ≡ Ok r → Runs own (flat_map defined records) (started own records imports codes) r
record-runs own records imports body codes r h e =
    let given = flat_map defined records in
    let start = started own records imports codes in
    let at = top_at (first_frame own) body in
    in-record (Runs own given start) (top (inside records full_room) at body.exports body.forms start) r
    (gives-top own given (inside records full_room) (inside-safe own given records full_room) start (started-sound own records imports codes h) (started-scope own records imports codes) (started-foreign own records imports codes h) at body.exports body.forms) e

pub records-good : RecordsAreGood
records-good own records imports body codes r h e =
    let given = flat_map defined records in
    let runs = record-runs own records imports body codes r h e in
    let ls = given ++ defined r in
    let all = run-binders own runs.ended.bindings ls runs.first runs.middle runs.last r.run runs.run in
    let numbers = lines-codes own runs.ended.bindings ls runs.middle runs.last r.run runs.run.lines in (
      record {
        closed = lines-closed own runs.ended.bindings ls runs.middle runs.last r.run runs.run.lines;
        bound_once = all.0;
        bound_here = each-map (λ l. l.0.library ≡ own) (λ l. l.0.library ≡ r.name) (run_binders r) all.1 (λ l k. k ∙ sym runs.name);
        indexed_once = subst (λ bs. Once (flat_map bound_index bs)) (sym runs.bindings)
            (indices-once own runs.ended runs.next (runs.grows.indices (started-indices own records imports codes h)));
        numbered_once = numbers.once;
        numbered_here = each-map (λ n. Made own runs.middle runs.last n.0) (λ n. n.0.library ≡ r.name) (flat_map code_numbers (line_cores r)) numbers.made (λ n k. k.library ∙ sym runs.name);
        well_made = lines-well-made own runs.ended.bindings ls runs.middle runs.last r.run runs.run.lines;
        primitives = lines-primitives own runs.ended.bindings ls runs.middle runs.last r.run runs.run.lines;
        references = runs.references;
      },
      runs.name,
    )
