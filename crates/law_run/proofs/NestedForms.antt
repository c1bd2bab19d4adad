-- What is begun inside a form begins in a whole state, also where the form is at fault later.
use Rattle.std.proofs.Common.{◌≡◌, ℕ, ◌+◌, Bool, true, false, List, [], ◌∷◌, map, Option, Err, refl, sym, ap, subst, ◌∙◌}
use Rattle.std.specs.Prelude.{◌&&◌}
use Rattle.std.specs.List.{flat_map}
use Rattle.base_data.specs.Elements.{Each}
use Rattle.base_data.specs.Same.{same_library, same_library_decides}
use Rattle.base_data.specs.declared.library.LibName.{LibName}
use Rattle.base_data.specs.declared.name.CodeNo.{CodeNo}
use Rattle.base_data.specs.declared.name.Label.{Label}
use Rattle.base_data.specs.declared.span.Span.{Span}
use Rattle.core_language.specs.declared.record.CompiledLibrary.{CompiledLibrary}
use Rattle.law_core.specs.Records.{defined}
use Rattle.expand_forms.specs.Body.{item}
use Rattle.expand_forms.specs.Expression.{form_at, lambda_case, inside}
use Rattle.expand_forms.specs.Inside.{Inside}
use Rattle.expand_forms.specs.Top.{top}
use Rattle.expand_forms.specs.Site.{site_at}
use Rattle.expand_forms.specs.Forms.{procedure_parts}
use Rattle.law_expand.specs.Shallow.{deepest}
use Rattle.law_expand.specs.States.{Later}
use Rattle.law_expand.proofs.Acts.{Gave, gave-if}
use Rattle.law_expand.proofs.Changes.{Moves}
use Rattle.law_expand.proofs.Expand.{GivesGood, GivesCase, Safe as Sounds}
use Rattle.law_expand.proofs.Items.{wait_kind, waiting_kind, Takes}
use Rattle.law_expand.proofs.LineLabels.{kind_labels}
use Rattle.law_expand.proofs.Nesting.{Within, WithinCase}
use Rattle.law_expand.proofs.NestingBodies.{Nests}
use Rattle.law_expand.proofs.NestingItems.{AreWaiting}
use Rattle.law_expand.proofs.Spares.{Spares, taken_labels}
use Rattle.law_expand.proofs.Spent.{Onward, AwayCore, AwayCase, AreUnspent}
use Rattle.expand_heads.specs.Items.{is_top}
use Rattle.expand_heads.specs.declared.taken.BodyAt.{BodyAt}
use Rattle.expand_heads.specs.declared.taken.Waiting.{Waiting}
use Rattle.expand_heads.specs.declared.taken.Waits.{Waits}
use Rattle.expand_heads.specs.declared.taken.Waits.TheVariants as waits
use Rattle.eval_stage.specs.Stage.{stuck}
use Rattle.expand_standing.specs.State.{State, Does}
use Rattle.law_steady.proofs.All.{form-goes, inside-holds}
use Rattle.law_steady.proofs.Bodies.{case-runs}
use Rattle.law_steady.proofs.Items.{item-goes}
use Rattle.law_steady.proofs.Keywords.{Placed, Holds}
use Rattle.law_steady.proofs.Safe.{Safe, B, Goes, G}
use Rattle.law_steady.proofs.Sure.{Sure, sure-less, sure-if}
use Rattle.law_stuck.specs.Uses.{Around}
use Rattle.law_run.specs.Nested.{stuck_unless, with_entry_test, PassesWhole, FormsBeginWhole, ProceduresBeginWhole, BodiesBeginWhole, with_waiting, waiting_labels, IsSpared, ItemsBeginWhole}
use Rattle.law_run.proofs.KeptTransformers.{stays, top-goes}

-- ---- with tests the same is known

gave-unless : {A : Type 0} (P : A → State → Type 0) (test : State → Bool) (place : Span) (m : Does A) (s : State) → Gave P (m s) → Gave P (stuck_unless test place m s)
gave-unless P test place m s h = gave-if P (test s) (m s) (Err (stuck place)) (λ e. h) (λ e. tt)

sure-unless : {A : Type 0} (P : A → State → Type 0) (test : State → Bool) (place : Span) (m : Does A) (s : State) → test s ≡ true → Sure P (m s) → Sure P (stuck_unless test place m s)
sure-unless P test place m s passed h = sure-if P (test s) (m s) (Err (stuck place)) (λ e. h) (λ e. let bad : true ≡ false = sym passed ∙ e in absurd (cc))

both-true : (a b : Bool) → a ≡ true → b ≡ true → (a && b) ≡ true
both-true true true h k = refl
both-true true false h k = absurd (cc)
both-true false b h k = absurd (cc)

module _ (own : LibName) (test : State → Bool) (go : Inside) where
  abbrev with-test : Inside
  with-test = with_entry_test own test go

  -- of a form of a body
  abbrev test-at : BodyAt → State → Bool
  test-at at s = test s && same_library at.frame.0.library own

  moves-with-test : Moves own go → Moves own with-test
  moves-with-test k = record {
    form = λ place level depth t s n. gave-unless (λ c u. Later own s u) test place (go.form (site_at place level depth) t) s (k.form place level depth t s n);
    procedure = λ place level depth t ids forms s n. gave-unless (λ c u. Later own s u) test place (go.procedure (site_at place level depth) (procedure_parts t ids forms)) s (k.procedure place level depth t ids forms s n);
    item = λ at depth d t start s n low w. gave-unless (Takes own at.frame (is_top at.kind) start s) (test-at at) at.place (go.item at depth d t) s (k.item at depth d t start s n low w);
  }

  nests-with-test : Nests own go → Nests own with-test
  nests-with-test k = record {
    moves = moves-with-test k.moves;
    form = λ place level depth t s h. gave-unless (λ c u. Within u.bindings level depth deepest c) test place (go.form (site_at place level depth) t) s (k.form place level depth t s h);
    procedure = λ place level depth t ids forms s le h. gave-unless (λ c u. WithinCase u.bindings level depth (deepest + 2) c) test place (go.procedure (site_at place level depth) (procedure_parts t ids forms)) s (k.procedure place level depth t ids forms s le h);
    item = λ at base depth d t start s le h low w a. gave-unless (λ e u. AreWaiting at base e u.bindings) (test-at at) at.place (go.item at depth d t) s (k.item at base depth d t start s le h low w a);
  }

  module _ (given : List Label) where
    sounds-with-test : Sounds own given go → Sounds own given with-test
    sounds-with-test k = record {
      moves = moves-with-test k.moves;
      nests = nests-with-test k.nests;
      form = λ place level depth t s vs ls h r. gave-unless (GivesGood own vs ls s) test place (go.form (site_at place level depth) t) s (k.form place level depth t s vs ls h r);
      procedure = λ place level depth t ids forms s vs ls h r. gave-unless (GivesCase own vs ls s) test place (go.procedure (site_at place level depth) (procedure_parts t ids forms)) s (k.procedure place level depth t ids forms s vs ls h r);
    }

    spares-with-test : Spares own given go → Spares own given with-test
    spares-with-test k = record {
      safe = sounds-with-test k.safe;
      form = λ place level depth t s b. gave-unless (λ c u. Onward own given s u × AwayCore own u c) test place (go.form (site_at place level depth) t) s (k.form place level depth t s b);
      procedure = λ place level depth t ids forms s b. gave-unless (λ c u. Onward own given s u × AwayCase own u c) test place (go.procedure (site_at place level depth) (procedure_parts t ids forms)) s (k.procedure place level depth t ids forms s b);
      item = λ at depth d t s low b a. gave-unless (λ e u. Onward own given s u × AreUnspent own u (taken_labels e)) (test-at at) at.place (go.item at depth d t) s (k.item at depth d t s low b a);
    }

  module _ (texts : List CodeNo) (rs : List CompiledLibrary) (passes : (s : State) → B own texts rs s → Safe own texts rs s → test s ≡ true) where
    passes-at : (at : BodyAt) (s : State) → Placed own at → B own texts rs s → Safe own texts rs s → test-at at s ≡ true
    passes-at at s low b h = both-true (test s) (same_library at.frame.0.library own) (passes s b h) ((same_library_decides at.frame.0.library own).1 low.1)

    holds-with-test : Holds own texts rs go → Holds own texts rs with-test
    holds-with-test k = record {
      spares = spares-with-test (flat_map defined rs) k.spares;
      earlier = k.earlier;
      form = λ place level depth t s b h. sure-unless (G own texts rs s) test place (go.form (site_at place level depth) t) s (passes s b h) (k.form place level depth t s b h);
      procedure = λ place level depth t ids forms s b h. sure-unless (G own texts rs s) test place (go.procedure (site_at place level depth) (procedure_parts t ids forms)) s (passes s b h) (k.procedure place level depth t ids forms s b h);
      item = λ at depth d t s low b h a.
          sure-unless (λ e u. Goes own texts rs s u × AreUnspent own u (taken_labels e)) (test-at at) at.place (go.item at depth d t) s (passes-at at s low b h) (k.item at depth d t s low b h a);
    }

-- ---- what waits

waits-one : (k : Waits) (ks : List (Option Label)) → kind_labels (wait_kind k ∷ ks) ≡ with_waiting k (kind_labels ks)
waits-one (waits.Variable l init) ks = refl
waits-one (waits.Procedure l t ids forms) ks = refl
waits-one (waits.Expression t) ks = refl

waiting-kinds : (ws : List Waiting) → kind_labels (map waiting_kind ws) ≡ waiting_labels ws
waiting-kinds [] = refl
waiting-kinds (w ∷ ws) = waits-one w.what (map waiting_kind ws) ∙ ap (with_waiting w.what) (waiting-kinds ws)

spared : (own : LibName) (s : State) (ls : List Label) → Each (IsSpared own s) ls → AreUnspent own s ls
spared own s [] h = tt
spared own s (l ∷ ls) h = ((h.0.made, (λ x. h.0.unnamed x.0 x.1.0 x.1.1.0 x.1.1.1.0 x.1.1.1.1)), spared own s ls h.1)

-- ---- the laws

module _ (own : LibName) (texts : List CodeNo) (rs : List CompiledLibrary) (test : State → Bool) (room : ℕ) (passes : PassesWhole own texts rs test) (x : Around own texts rs) where
  with-test-holds : Holds own texts rs (with_entry_test own test (inside rs room))
  with-test-holds = holds-with-test own test (inside rs room) texts rs (λ s b h. passes s (record { around = x; good = b; steady = h })) (inside-holds own texts rs x room)

pub forms-begin-whole : FormsBeginWhole
forms-begin-whole own texts rs place level depth t test room s passes h =
    let x = h.around in
    let go = with_entry_test own test (inside rs room) in
    stays own texts rs s (form_at go (site_at place level depth) t s) x
    (form-goes own texts rs x go (with-test-holds own texts rs test room passes x) place level depth t s h.good h.steady)

pub procedures-begin-whole : ProceduresBeginWhole
procedures-begin-whole own texts rs place level depth t ids forms test room s passes h =
    let x = h.around in
    let go = with_entry_test own test (inside rs room) in
    stays own texts rs s (lambda_case go (site_at place level depth) (procedure_parts t ids forms) s) x
    (case-runs own texts rs x go (with-test-holds own texts rs test room passes x) place level depth t ids forms s h.good h.steady)

pub bodies-begin-whole : BodiesBeginWhole
bodies-begin-whole own texts rs at es forms mine test room s passes h =
    let x = h.around in
    let go = with_entry_test own test (inside rs room) in
    stays own texts rs s (top go at es forms s) x
    (top-goes own texts rs x go (with-test-holds own texts rs test room passes x) at es forms s mine h.good h.steady)

pub items-begin-whole : ItemsBeginWhole
items-begin-whole own texts rs at depth d t test room s mine low free passes h =
    let x = h.around in
    let go = with_entry_test own test (inside rs room) in
    stays own texts rs s (item go at depth d t s) x
    (sure-less (λ e u. Goes own texts rs s u × AreUnspent own u (taken_labels e)) (G own texts rs s) (item go at depth d t s)
    (item-goes own texts rs x go (with-test-holds own texts rs test room passes x) at depth d t s (low, mine) h.good h.steady
    (subst (AreUnspent own s) (sym (waiting-kinds d.waiting)) (spared own s (waiting_labels d.waiting) free)))
    (λ e u g. g.0))
