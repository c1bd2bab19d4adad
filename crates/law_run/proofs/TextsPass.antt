-- What a run writes is accepted.
use Rattle.std.proofs.Common.{◌≡◌, ℕ, suc, Bool, true, false, List, [], ◌∷◌, ◌++◌, Option, Some, None, Result, Ok, Err, refl, sym, ap, subst, inl, inr, ◌∙◌, append_assoc, arith}
use Rattle.std.proofs.lemmas.List.{append-nil, map-append}
use Rattle.std.proofs.lemmas.List.Concat.{flat_map-append}
use Rattle.std.specs.Cmp.Lexicographic.{bytes_decides}
use Rattle.std.specs.List.{flat_map}
use Rattle.std.specs.Prelude.{◌||◌, codes, slice_get}
use Rattle.std.specs.Str.{bytes_eq}
use Rattle.base_data.proofs.ElementLemmas.{each-at, each-of, among-first, among-flat}
use Rattle.base_data.specs.Datum.{PlainDatum}
use Rattle.base_data.specs.Elements.{Each, Among, Once}
use Rattle.base_data.specs.Gives.{◌>>=◌}
use Rattle.base_data.specs.declared.fault.Fault.{Fault}
use Rattle.base_data.specs.declared.name.Label.{Label}
use Rattle.check_verdict.specs.Judged as judged
use Rattle.check_verdict.specs.Judged.{Judged, Within}
use Rattle.check_verdict.specs.declared.verdict.Verdict.TheVariants as verdict
use Rattle.check_grammar.specs.Forms.{has}
use Rattle.check_grammar.specs.Lines as core_lines
use Rattle.check_grammar.specs.Lines.{AreLines, first_line}
use Rattle.check_grammar.specs.Names.{IsName}
use Rattle.check_grammar.specs.Text.{text_of}
use Rattle.law_check.proofs.Alike.{alike}
use Rattle.law_check.proofs.NameWords.{variables_are_named}
use Rattle.law_grammar.specs.Reads.{SpellingsAre}
use Rattle.law_run.proofs.Formed.{within_append, IsGood, binder_named, formed_line}
use Rattle.law_run.proofs.Spelt.{line_is}
use Rattle.law_run.specs.Pass.{TextsPass}
use Rattle.core_language.specs.References.{binders}
use Rattle.core_language.specs.declared.binding.Binding.{Binding}
use Rattle.core_language.specs.declared.binding.Binding.TheVariants as binding
use Rattle.core_language.specs.declared.record.CompiledLibrary.{CompiledLibrary}
use Rattle.core_language.specs.declared.record.Line.{Line}
use Rattle.law_core_grammar.specs.Laws.{LineTextsAreSpellings}
use Rattle.law_core_grammar.specs.Lines.{SpellLines, no_line, further, record_lines, all_lines}
use Rattle.law_core_grammar.specs.Names.{AreGenerated}
use Rattle.law_core_grammar.proofs.Whole.{ok_same, plan_text_is}
use Rattle.law_core.specs.Records.{line_core, line_labels, line_binders, defined, run_binders}
use Rattle.core_output.specs.CoreText.{VariableNames, name_of, line_text, lines_text}
use Rattle.core_output.specs.Syntax.{Checked, lines_checked}
use Rattle.core_output.specs.Whole.{plan_checked, all_names, all_text, core_text}
use Rattle.law_expand.proofs.Behind.{each-mapped}
use Rattle.law_names.specs.Variable.{NamedVariable}
use Rattle.law_names.specs.Variable as variables
use Rattle.core_plan.specs.Planned.{plan_of}
use Rattle.run_prelude.specs.Prelude.{prelude_table}
use Rattle.law_readable_expansion.specs.Records.{ReadableRecord}
use Rattle.law_readable_expansion.specs.States.{ReadableBinding}
use Rattle.read_reader.specs.Read.{most_nesting}
use Rattle.law_round.specs.Readable.{IsReadable}
use Rattle.law_round.specs.Readable as round
use Rattle.law_run.proofs.ClosedLemmas.{all_standing}
use Rattle.law_run.proofs.ReadableRuns.{runs-readable}
use Rattle.law_run.proofs.RunLemmas.{all_records_stand}
use Rattle.law_run.proofs.SpelledLines.{text-lines}
use Rattle.law_run.proofs.UserLemmas.{user_at}
use Rattle.law_run.proofs.Written.{HasText, IsSound, all-sound, binder, first-bare, text-checked}
use Rattle.law_run.specs.Names.{names_for, NamesClosed}
use Rattle.law_run.specs.Spelled.{RunsAreSpelled, run_names, run_lines}
use Rattle.law_run.specs.Written.{RunsAreWrittenOnce}
use Rattle.law_run.specs.Nesting.{IsLow, TextsNest}
use Rattle.expand_standing.specs.Start.{or_skip, records_at}
use Rattle.law_text.proofs.Closed.{text-known}
use Rattle.law_text.proofs.Words.{flat-among}
use Rattle.law_text.specs.Standing.{AreStanding}
use Rattle.law_text.specs.Text as planned
use Rattle.base_data.specs.Elements as elements

abbrev Words : Type 0
Words = List (List ℕ)

-- names that stand once

has_among : (xs : Words) (x : List ℕ) → has xs x ≡ true → Among xs x
has_among [] x h = absurd (cc)
has_among (y ∷ xs) x h = by (bytes_eq x y) refl h (has_among xs x) where
  by : (b : Bool) → bytes_eq x y ≡ b → (b || has xs x) ≡ true → (has xs x ≡ true → Among xs x) → Among (y ∷ xs) x
  by true e g go = inl ((bytes_decides x y).0 e)
  by false e g go = inr (go g)

not_true : (b : Bool) → (b ≡ true → ⊥) → b ≡ false
not_true true h = absurd (h refl)
not_true false h = refl

once : (xs : Words) → Once xs → judged.Once xs
once [] h = judged.Once.no_name
once (x ∷ xs) h = judged.Once.name (not_true (has xs x) (λ k. h.0 (has_among xs x k))) (once xs h.1)

-- the whole text

bind_gives : (r : Checked) (q : Result (List ℕ) Fault) (w : List ℕ) → (r >>= λ _. q) ≡ Ok w → q ≡ Ok w
bind_gives (Ok u) q w h = h
bind_gives (Err f) q w h = absurd (cc)

whole_is : (records : List CompiledLibrary) (plan : List ℕ) (program : CompiledLibrary) (whole : List ℕ) → core_text records plan program ≡ Ok whole
    → whole ≡ first_line ++ lines_text (all_names records plan program) (all_lines records plan program)
whole_is records plan program whole h =
    let names = all_names records plan program in
    let text = all_text names records plan program in
    let p = bind_gives (plan_checked records plan) (lines_checked program.run >>= λ _. Ok text) whole h in
    let q = bind_gives (lines_checked program.run) (Ok text) whole p in
    sym (ok_same text whole q) ∙ ap (λ w. first_line ++ w) (plan_text_is records names plan program)

-- what all lines bind is what the records of the text bind
gathered : (f : Line → List Label) (records : List CompiledLibrary) (ps : List ℕ) (program : CompiledLibrary)
    → flat_map f (all_lines records ps program) ≡ flat_map (λ r. flat_map f r.run) (records_at records ps ++ program ∷ [])
gathered f records [] program = sym (append-nil (flat_map f program.run))
gathered f records (p ∷ ps) program = by (slice_get records p) (gathered f records ps program) where
  by : (o : Option CompiledLibrary) → flat_map f (all_lines records ps program) ≡ flat_map (λ r. flat_map f r.run) (records_at records ps ++ program ∷ [])
      → flat_map f (record_lines o ++ all_lines records ps program) ≡ flat_map (λ r. flat_map f r.run) (or_skip o (records_at records ps) ++ program ∷ [])
  by None go = go
  by (Some r) go = flat_map-append f r.run (all_lines records ps program) ∙ ap (λ w. flat_map f r.run ++ w) go

as_lines : {n : ℕ} {x y : List ℕ} {ds es bs cs fs : Words} → x ≡ y → ds ≡ es → bs ≡ cs → AreLines n x ds bs fs → AreLines n y es cs fs
as_lines {n} {x} {y} {ds} {es} {bs} {cs} {fs} text labels binders are =
    subst (λ (w : List ℕ). AreLines n w es cs fs) text (subst (λ (ks : Words). AreLines n x ks cs fs) labels (subst (λ (ks : Words). AreLines n x ds ks fs) binders are))

module _ (readings : SpellingsAre) (texts : LineTextsAreSpellings) (names : VariableNames) (generated : AreGenerated names) where
  abbrev N : List Label → Words
  N ls = names_for names ls

  abbrev AllGood : Line → Type 0
  AllGood l = Each (IsGood names) (line_binders l)

  -- lines one after another, in the scope of these names
  record Formed (ns : Words) (ls : List Line) : Type 0 where
    n : ℕ
    fs : Words
    are : AreLines n (lines_text names ls) (N (flat_map line_labels ls)) (N (flat_map line_binders ls)) fs
    within : Within ns fs

  append_names : (ks ls : List Label) → N ks ++ N ls ≡ N (ks ++ ls)
  append_names ks ls = sym (map-append (name_of names) ks ls)

  lines_formed : {ls : List Line} {ds : List PlainDatum} → SpellLines names ls ds → Each (IsReadable most_nesting) ds → (ns : Words) → Each IsName ns → Each AllGood ls → Each (λ l. NamesClosed names ns (line_core l)) ls → Formed ns ls
  lines_formed no_line h ns a g c = record { n = 0; fs = []; are = core_lines.no_line; within = Within.no_name }
  lines_formed (further {l = l} {ls = ls} {d = d} p ps) h ns a g c =
      let f = formed_line names p ns c.0 a g.0 in
      let rest = lines_formed ps h.1 ns a g.1 c.1 in
      let text : text_of d ++ (codes "\n" ++ lines_text names ls) ≡ line_text names l ++ lines_text names ls =
      sym (append_assoc (text_of d) (codes "\n") (lines_text names ls)) ∙ ap (λ (w : List ℕ). (w ++ codes "\n") ++ lines_text names ls) (sym (alike d)) ∙ ap (λ (w : List ℕ). w ++ lines_text names ls) (sym (texts names l d generated p)) in
      record {
        n = suc rest.n;
        fs = f.fs ++ rest.fs;
        are = as_lines text (append_names (line_labels l) (flat_map line_labels ls)) (append_names (line_binders l) (flat_map line_binders ls)) (core_lines.line (line_is readings f.is h.0) rest.are);
        within = within_append ns f.fs rest.fs f.within rest.within;
      }

  -- lines that are closed, and bound once
  all_formed : {ls : List Line} {ds : List PlainDatum} → SpellLines names ls ds → Each (IsReadable most_nesting) ds → Each IsName (N (flat_map line_labels ls)) → Each AllGood ls → Each (λ l. NamesClosed names (N (flat_map line_labels ls)) (line_core l)) ls
      → Once (N (flat_map line_binders ls)) → Judged (first_line ++ lines_text names ls) verdict.Yes
  all_formed {ls} p h a g c o = let t = lines_formed p h (N (flat_map line_labels ls)) a g c in judged.yes (core_lines.text t.are) (once (N (flat_map line_binders ls)) o) t.within

-- The names of a run.

cells_at : {A : Type 0} (P : A → Type 0) (xs : List A) (x : A) → elements.Each P xs → Among xs x → P x
cells_at P [] x h a = absurd (a)
cells_at P (y ∷ ys) x h (inl e) = subst P (sym e) h.0
cells_at P (y ∷ ys) x h (inr a) = cells_at P ys x h.1 a

some_same : (v w : List ℕ) → ◌≡◌ {A = Option (List ℕ)} (Some v) (Some w) → v ≡ w
some_same v w e = cc

module _ (records : List CompiledLibrary) (program : CompiledLibrary) (standing : AreStanding records program) (sound : Each IsSound (records ++ program ∷ [])) (checked : Each HasText (planned.text_of records program))
    (readable : Each ReadableRecord (records ++ program ∷ [])) where
  abbrev T : List CompiledLibrary
  T = planned.text_of records program

  abbrev given_names : VariableNames
  given_names = run_names records program

  -- a binder has the name of a variable whose symbol is UTF-8
  binder_good : (l : Label) → Among (flat_map run_binders T) l → IsGood given_names l
  binder_good l a x called =
      let b = binder records program standing sound checked l a in
      let holder = each-at ReadableRecord (records ++ program ∷ []) b.holder readable (text-known records program standing b.holder b.there) in
      let symbol : round.IsName b.indexed.variable.symbol = cells_at (λ (r : Label × Binding). ReadableBinding r.1) b.holder.bindings (l, binding.Variable b.indexed.variable) holder.bindings b.indexed.bound in
      let v : NamedVariable = record { library = l.0.library; symbol = b.indexed.variable.symbol; number = b.indexed.number } in
      subst IsName (some_same (variables.name_of v) x (sym b.called ∙ called)) (variables_are_named v (b.named, symbol.0))

  binder_is_named : (l : Label) → Among (flat_map run_binders T) l → IsName (name_of given_names l)
  binder_is_named l a = let b = binder records program standing sound checked l a in binder_named given_names l _ b.called (binder_good l a)

  -- what a record defines, it binds
  defined_bound : (l : Label) → Among (flat_map defined T) l → Among (flat_map run_binders T) l
  defined_bound l a =
      let r = flat-among defined T l a in
      let x = flat-among line_labels r.0.run l r.2 in
      among-flat run_binders T r.0 l r.1 (among-flat line_binders r.0.run x.0 l x.1 (among-first (line_labels x.0) (binders (line_core x.0)) l x.2))

  defined_named : Each IsName (names_for given_names (flat_map defined T))
  defined_named = each-mapped IsName (name_of given_names) (flat_map defined T) (each-of (λ l. IsName (name_of given_names l)) (flat_map defined T) (λ l a. binder_is_named l (defined_bound l a)))

  lines_good : Each (λ l. Each (IsGood given_names) (line_binders l)) (run_lines records program)
  lines_good = text-lines (λ l. Each (IsGood given_names) (line_binders l)) records program
      (each-of (λ r. Each (λ l. Each (IsGood given_names) (line_binders l)) r.run) T
      (λ r a. each-of (λ l. Each (IsGood given_names) (line_binders l)) r.run
      (λ x b. each-of (IsGood given_names) (line_binders x) (λ l c. binder_good l (among-flat run_binders T r l a (among-flat line_binders r.run x l b c))))))

readable_there : (ds : List PlainDatum) → Each IsLow ds → Each (IsReadable most_nesting) ds
readable_there [] h = tt
readable_there (d ∷ ds) h = (h.0.read most_nesting (omega arith), readable_there ds h.1)

pub texts_pass : SpellingsAre → LineTextsAreSpellings → RunsAreSpelled → RunsAreWrittenOnce → TextsNest → TextsPass
texts_pass readings texts spelled written nest files roots path found s records program text given =
    let prelude = prelude_table in
    let plan = plan_of records program in
    let names = run_names records program in
    let ls = run_lines records program in
    let sp = spelled prelude files roots path found s records program text given in
    let w = written prelude files roots path found s records program text given.run given.given in
    let stand = all_records_stand prelude files roots path found s records program given.run in
    let standing = all_standing found s records program stand in
    let sound = all-sound found s records program (user_at files roots path found s given.run.loaded) stand (first-bare prelude found s records program given.run.recorded stand) in
    let checked = text-checked records program text given.given in
    let readable = runs-readable files roots path found s records program given.run in
    let labels : flat_map line_labels ls ≡ flat_map defined (planned.text_of records program) = gathered line_labels records plan program in
    let binders : flat_map line_binders ls ≡ flat_map run_binders (planned.text_of records program) = gathered line_binders records plan program in
    let closed = text-lines (λ l. NamesClosed names (names_for names (flat_map defined (planned.text_of records program))) (line_core l)) records program w.closed in
    let yes : Judged (first_line ++ lines_text names ls) verdict.Yes =
    all_formed readings texts names sp.generated sp.spelled (readable_there sp.spellings (nest files roots path found s records program text sp.spellings given sp.spelled))
    (subst (λ (xs : List Label). Each IsName (names_for names xs)) (sym labels) (defined_named records program standing sound checked readable))
    (lines_good records program standing sound checked readable)
    (subst (λ (xs : List Label). Each (λ l. NamesClosed names (names_for names xs) (line_core l)) ls) (sym labels) closed)
    (subst (λ (xs : List Label). Once (names_for names xs)) (sym binders) w.bound_once) in
    subst (λ (x : List ℕ). Judged x verdict.Yes) (sym (whole_is records plan program text given.given)) yes
