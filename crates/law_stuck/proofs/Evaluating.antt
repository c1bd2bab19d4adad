-- Expressions and libraries that are evaluated on a steady stage.
use Rattle.std.proofs.Common.{◌≡◌, Bool, true, false, List, [], ◌∷◌, ◌++◌, Option, Some, None, length, map, refl, sym, ap, subst, ◌∙◌, inl, inr}
use Rattle.std.specs.Prelude.{◌⊎◌, IsTrue}
use Rattle.std.specs.List.{flat_map}
use Rattle.std.specs.Map.{lookup}
use Rattle.std.proofs.lemmas.Grind.{flat_map-append}
use Rattle.base_data.proofs.ElementLemmas.{each-at, each-of, each-first, each-last, among-first, among-second, among-parts, among-flat, once-first, once-second}
use Rattle.base_data.specs.Elements.{Each, Among, Once}
use Rattle.base_data.specs.declared.library.LibName.{LibName}
use Rattle.base_data.specs.declared.name.CodeNo.{CodeNo}
use Rattle.base_data.specs.declared.name.Label.{Label}
use Rattle.base_data.specs.declared.span.Span.{Span}
use Rattle.core_language.specs.Core.{PlainCore, PlainCode}
use Rattle.core_language.specs.Labels.{same_label}
use Rattle.core_language.specs.References.{mentions, references}
use Rattle.core_language.specs.declared.binding.Binding.{Binding}
use Rattle.core_language.specs.declared.binding.Binding.TheVariants as binding
use Rattle.core_language.specs.declared.record.CompiledLibrary.{CompiledLibrary}
use Rattle.core_language.specs.declared.record.Line.{Line}
use Rattle.law_core.specs.Words.{among}
use Rattle.law_core.specs.Parts.{parts, own_number, code_numbers}
use Rattle.law_core.specs.Scope.{Closed}
use Rattle.law_core.specs.WellMade.{IsWellMade, same_code}
use Rattle.law_core.specs.Records.{line_core, defined}
use Rattle.law_core.specs.Follows.{names_of, keyword_of, keywords, line_cores, all_numbers, IsOwn}
use Rattle.law_core.proofs.Decisions.{among_decides, code_decides}
use Rattle.eval_value.specs.Cells.{is_found}
use Rattle.eval_code.specs.Codes.{Codes, code_at, with_codes}
use Rattle.eval_code.specs.Lines.{with_lines}
use Rattle.eval_code.specs.Setting.{PlainSetting}
use Rattle.eval_code.specs.State.{Outcome, done, faulted, unfit}
use Rattle.law_eval.specs.Kept.{EndsLater}
use Rattle.law_eval.proofs.Keeping.{keeps-defined, keeps-alone}
use Rattle.law_whole.specs.Evaluated.{lines_labels, LinesReady, AreFound, LibraryEnding}
use Rattle.law_whole.specs.Extends.{Stay}
use Rattle.law_whole.specs.MadeReady.{AreNew}
use Rattle.law_whole.specs.Ready.{Variables, PatternVariables, Besides, Ready, FoundFrom, BoundFrom, ReadyIn}
use Rattle.law_whole.specs.WholeWorld.{WholeEnding}
use Rattle.law_whole.proofs.Among.{one_of, once_apart}
use Rattle.law_whole.proofs.Evaluations.{expressions_never_stuck}
use Rattle.law_whole.proofs.Growth.{grows_kept}
use Rattle.law_whole.proofs.Lines.{lines_never_stuck}
use Rattle.law_whole.proofs.Numbered.{CodeStands, added, lines_parts, codes_added, lines_added, all_passed, all_stand, all_stay}
use Rattle.law_whole.proofs.Records.{well_made_ready, found_global, numbers_of}
use Rattle.law_whole.proofs.Steady.{value_later}
use Rattle.eval_stage.specs.Libraries.{has_library, with_library}
use Rattle.eval_stage.specs.Running.{setting_on, state_on, ended_at, with_codes_of, outcome_of, evaluate, outcome_of_lines, left_by_library, library_ended, evaluate_library}
use Rattle.eval_stage.specs.Stage.{PlainStage, keyword_at}
use Rattle.eval_stage.specs.declared.keyword.Keyword.{Keyword}
use Rattle.eval_stage.specs.declared.keyword.Keyword.TheVariants as keyword
use Rattle.law_stage.proofs.Growing.{has_with}
use Rattle.law_stage.proofs.Sweeping.{with_has}
use Rattle.law_stuck.specs.Behind.{IsOfTexts, IsReferred, IsBehind, AllBehind, IsKeywordOf}
use Rattle.law_stuck.specs.Kinds.{TellsOther}
use Rattle.law_stuck.specs.Steady.{OwnHasCode, HasCode, text, ours, imported, line, world_of, IsReadyOn, Steady, Ends}
use Rattle.law_stuck.proofs.Behind.{one_place, same_record, Stands, stands, name_of, defined_here, keyword_there, DefinedIn, defined_in, Free, line_apart}
use Rattle.law_stuck.proofs.Fewer.{ready_fewer}
use Rattle.law_stuck.proofs.Mentioned.{is_reference, with_cases}
use Rattle.law_stuck.proofs.Told.{told-eval, told-lines}

-- Codes.

is_none : {A : Type 0} (o : Option A) → (IsTrue (is_found o) → ⊥) → o ≡ None
is_none None h = refl
is_none (Some x) h = absurd (h refl)

-- a code that is there after these were added was there, or is one of them
added_from : (es : List PlainCore) (codes : Codes) (n : CodeNo) → IsTrue (is_found (code_at (added es codes) n)) → IsTrue (is_found (code_at codes n)) ⊎ Among (flat_map own_number es) n
added_from es codes n h = by (among same_code (flat_map own_number es) n) refl
  where
    by : (b : Bool) → among same_code (flat_map own_number es) n ≡ b → IsTrue (is_found (code_at codes n)) ⊎ Among (flat_map own_number es) n
    by true e = inr ((among_decides same_code code_decides (flat_map own_number es) n).0 e)
    by false e =
        inl (subst (λ (o : Option PlainCode). IsTrue (is_found o)) (all_passed es n codes (λ a. let yes = (among_decides same_code code_decides (flat_map own_number es) n).1 a in absurd (cc))) h)

pub codes_from : (c : PlainCore) (codes : Codes) (n : CodeNo) → IsTrue (is_found (code_at (with_codes c codes) n)) → IsTrue (is_found (code_at codes n)) ⊎ Among (code_numbers c) n
codes_from c codes n h = added_from (parts c) codes n (subst (λ cs. IsTrue (is_found (code_at cs n))) (codes_added c codes) h)

lines_from : (r : CompiledLibrary) (codes : Codes) (n : CodeNo) → IsTrue (is_found (code_at (with_lines r.run codes) n)) → IsTrue (is_found (code_at codes n)) ⊎ Among (flat_map code_numbers (line_cores r)) n
lines_from r codes n h =
    subst (λ ns. IsTrue (is_found (code_at codes n)) ⊎ Among ns n) (numbers_of r.run) (added_from (lines_parts r.run) codes n (subst (λ cs. IsTrue (is_found (code_at cs n))) (lines_added r.run codes) h))

-- Code that finds what it refers to.

pub free_ready : (v : PlainSetting) (F : Variables) (G : PatternVariables) (given : List Label) (c : PlainCore) → Closed given c → IsWellMade [] c → Each (CodeStands v.codes) (parts c)
    → ((l : Label) → Among (mentions c) l → Among given l → F l) → Ready v F G c
free_ready v F G given c closed made stand f = ready_fewer v (Among given) F G c f (well_made_ready v (Among given) G given c (λ l a. a) closed made stand)

module _ (own : LibName) (texts : List CodeNo) (rs : List CompiledLibrary) where
  -- one more reason, with the codes of more texts
  more_texts : (more : List CodeNo) (ks : List (Label × Keyword)) (es : List LibName) (n : CodeNo) → HasCode own texts rs ks es n → HasCode own (texts ++ more) rs ks es n
  more_texts more ks es n (text a) = text (among-first texts more n a)
  more_texts more ks es n (ours x) = ours x
  more_texts more ks es n (imported x) = imported x
  more_texts more ks es n (line r a e b) = line r a e b

  -- and with one more library evaluated
  more_lines : (k : LibName) (ks : List (Label × Keyword)) (es : List LibName) (n : CodeNo) → HasCode own texts rs ks es n → HasCode own texts rs ks (with_library es k) n
  more_lines k ks es n (text a) = text a
  more_lines k ks es n (ours x) = ours x
  more_lines k ks es n (imported x) = imported x
  more_lines k ks es n (line r a e b) = line r a (has_with es k r.name e) b

  -- what an expression refers to has a value
  abbrev pub Provided : PlainStage → (c : PlainCore) → Free rs c → Type 0
  Provided s c f = (l : Label) → (a : Among f.given l) → Among (references c) l → has_library s.evaluated (f.from l a).definer.name ≡ true

  -- the keywords are as they were
  pub record Went (more : List CodeNo) (s t : PlainStage) : Type 0 where
    pub steady : Steady own (texts ++ more) rs t
    pub keywords : t.keywords ≡ s.keywords
    pub evaluated : (k : LibName) → has_library s.evaluated k ≡ true → has_library t.evaluated k ≡ true

  global_there : (s : PlainStage) → Steady own texts rs s → (r : CompiledLibrary) → Among rs r → has_library s.evaluated r.name ≡ true → (l : Label) → Among (defined r) l → IsTrue (is_found (lookup (same_label l) s.globals))
  global_there s h r a e l b = each-at (λ (m : Label). IsTrue (is_found (lookup (same_label m) s.globals))) (defined r) l (h.defined r a e) b

  module _ (place : Span) (c : PlainCore) (s : PlainStage) (h : Steady own texts rs s) (f : Free rs c) (there : Provided s c f) (new : AreNew s.codes (code_numbers c)) where
    abbrev v : PlainSetting
    v = setting_on (with_codes c s.codes) s

    stay : Stay s.codes (with_codes c s.codes)
    stay = subst (Stay s.codes) (sym (codes_added c s.codes)) (all_stay (parts c) s.codes new)

    ready : ReadyIn v s.cells None c
    ready =
        free_ready v (FoundFrom v s.cells None) (BoundFrom s.cells None) f.given c f.closed f.well_made
        (subst (λ cs. Each (CodeStands cs) (parts c)) (sym (codes_added c s.codes)) (all_stand (parts c) s.codes f.well_made.numbered_once))
        (λ l m a. let d = f.from l a in
        found_global (lookup (same_label l) s.globals) (global_there s h d.definer d.among (there l a (is_reference c l m (f.apart l a))) l d.defines))

    went : (o : Outcome) → WholeEnding v o → EndsLater (state_on s) o → TellsOther o → Ends (λ p t. Went (code_numbers c) s t × IsReadyOn t p.0) (ended_at place (with_codes_of c s) o)
    went (done x t n) w k o = (
      record {
        steady = record {
          whole = w.0;
          kept = λ l e y is. value_later (world_of s) v (record { codes = stay; globals = λ m g. g }) s.cells t.cells (grows_kept s.cells t.cells k.cells) y (h.kept l e y is);
          codes = λ n is. by n (codes_from c s.codes n is);
          defined = h.defined;
        };
        keywords = refl;
        evaluated = λ m e. e;
      },
      w.1,
    )
      where
        by : (n : CodeNo) → IsTrue (is_found (code_at s.codes n)) ⊎ Among (code_numbers c) n → HasCode own (texts ++ code_numbers c) rs s.keywords s.evaluated n
        by n (inl x) = more_texts (code_numbers c) s.keywords s.evaluated n (h.codes n x)
        by n (inr a) = text (among-second texts (code_numbers c) n a)
    went (faulted x t n) w k o = o
    went unfit w k o = absurd w

    -- an expression is evaluated
    pub evaluate_went : Ends (λ p t. Went (code_numbers c) s t × IsReadyOn t p.0) (evaluate place c s)
    unfolding evaluate
    evaluate_went =
        went (outcome_of c s) (expressions_never_stuck (world_of s) (with_codes c s.codes) c None (state_on s) _ h.whole tt stay ready) (keeps-alone _ c (state_on s) _) (told-eval _ c _ _ _)

  -- Libraries.

  module _ (all : AllBehind [] rs) (texts_only : Each (λ (n : CodeNo). IsOfTexts n.0.library) texts) (new_name : Among (names_of rs) own → ⊥) (no_text : IsOfTexts own → ⊥) where
    abbrev pub LineNumbers : CompiledLibrary → List CodeNo
    LineNumbers r = flat_map code_numbers (line_cores r)

    numbers_split : (r : CompiledLibrary) → all_numbers r ≡ LineNumbers r ++ flat_map code_numbers (keywords r)
    numbers_split r = flat_map-append code_numbers (line_cores r) (keywords r)

    once_split : (earlier : List CompiledLibrary) (r : CompiledLibrary) → IsBehind earlier r → Once (LineNumbers r ++ flat_map code_numbers (keywords r))
    once_split earlier r b = subst Once (numbers_split r) b.numbered_once

    -- a code of a record is named by it
    record_code : (r : CompiledLibrary) → Among rs r → (n : CodeNo) → Among (LineNumbers r) n ⊎ Among (flat_map code_numbers (keywords r)) n → n.0.library ≡ r.name
    record_code r a n x = let s = stands [] rs r all a in each-at (λ (m : CodeNo). IsOwn r m.0) (all_numbers r) n s.behind.numbered_here (subst (λ ns. Among ns n) (sym (numbers_split r)) (by x))
      where
        by : Among (LineNumbers r) n ⊎ Among (flat_map code_numbers (keywords r)) n → Among (LineNumbers r ++ flat_map code_numbers (keywords r)) n
        by (inl b) = among-first (LineNumbers r) (flat_map code_numbers (keywords r)) n b
        by (inr b) = among-second (LineNumbers r) (flat_map code_numbers (keywords r)) n b

    keyword_code : (l : Label) (c : PlainCore) (k : IsKeywordOf rs l c) (n : CodeNo) → Among (code_numbers c) n → Among (flat_map code_numbers (keywords k.keeper)) n
    keyword_code l c k n a = among-flat code_numbers (keywords k.keeper) c n (keyword_there k.keeper l k.level c k.bound) a

    -- no text has the name of a record's code
    no_text_of : (r : CompiledLibrary) → Among rs r → (n : CodeNo) → n.0.library ≡ r.name → Among texts n → ⊥
    no_text_of r a n e b = let s = stands [] rs r all a in s.behind.no_text (subst IsOfTexts e (each-at (λ (m : CodeNo). IsOfTexts m.0.library) texts n texts_only b))

    -- the codes of the lines of a library that wasn't evaluated aren't there
    lines_new : (s : PlainStage) → Steady own texts rs s → (r : CompiledLibrary) → Among rs r → has_library s.evaluated r.name ≡ false → AreNew s.codes (LineNumbers r)
    lines_new s h r a not_yet = each-of (λ n. code_at s.codes n ≡ None) (LineNumbers r) (λ n b. is_none (code_at s.codes n) (λ is. by n b (record_code r a n (inl b)) (h.codes n is)))
      where
        by : (n : CodeNo) → Among (LineNumbers r) n → n.0.library ≡ r.name → HasCode own texts rs s.keywords s.evaluated n → ⊥
        by n b e (text x) = no_text_of r a n e x
        by n b e (ours x) = new_name (subst (Among (names_of rs)) (sym e ∙ x.code_here) (name_of rs r a))
        by n b e (imported x) =
            let there = keyword_code x.label x.expression x.imported n x.among in
            let same = same_record [] rs x.imported.keeper r all x.imported.among a (sym (record_code x.imported.keeper x.imported.among n (inr there)) ∙ e) in
            let st = stands [] rs r all a in
            once_apart (LineNumbers r) (flat_map code_numbers (keywords r)) n (once_split st.earlier r st.behind) b (subst (λ (q : CompiledLibrary). Among (flat_map code_numbers (keywords q)) n) same there)
        by n b e (line q x is y) =
            let same = same_record [] rs q r all x a (sym (record_code q x n (inl y)) ∙ e) in
            let again : has_library s.evaluated r.name ≡ true = subst (λ (z : CompiledLibrary). has_library s.evaluated z.name ≡ true) same is in
            absurd (cc)

    -- nor are those of the expression of an imported keyword that isn't kept
    pub keyword_new : (s : PlainStage) → Steady own texts rs s → (l : Label) (c : PlainCore) (k : IsKeywordOf rs l c) → keyword_at s.keywords l ≡ None → AreNew s.codes (code_numbers c)
    keyword_new s h l c k unknown = each-of (λ n. code_at s.codes n ≡ None) (code_numbers c) (λ n b. is_none (code_at s.codes n) (λ is. by n b (record_code k.keeper k.among n (inr (keyword_code l c k n b))) (h.codes n is)))
      where
        numbers : Label × Binding → List CodeNo
        numbers b = flat_map code_numbers (keyword_of b)

        regroup : (bs : List (Label × Binding)) → flat_map code_numbers (flat_map keyword_of bs) ≡ flat_map numbers bs
        regroup [] = refl
        regroup (b ∷ bs) = flat_map-append code_numbers (keyword_of b) (flat_map keyword_of bs) ∙ ap (λ ns. numbers b ++ ns) (regroup bs)

        st : Stands [] rs k.keeper
        st = stands [] rs k.keeper all k.among

        once : Once (flat_map numbers k.keeper.bindings)
        once = subst Once (regroup k.keeper.bindings) (once-second (LineNumbers k.keeper) (flat_map code_numbers (keywords k.keeper)) (once_split st.earlier k.keeper st.behind))

        alone : (d : PlainCore) (n : CodeNo) → Among (code_numbers d) n → Among (code_numbers d ++ []) n
        alone d n a = among-first (code_numbers d) [] n a

        by : (n : CodeNo) → Among (code_numbers c) n → n.0.library ≡ k.keeper.name → HasCode own texts rs s.keywords s.evaluated n → ⊥
        by n b e (text x) = no_text_of k.keeper k.among n e x
        by n b e (ours x) = new_name (subst (Among (names_of rs)) (sym e ∙ x.code_here) (name_of rs k.keeper k.among))
        by n b e (imported x) =
            let same = same_record [] rs x.imported.keeper k.keeper all x.imported.among k.among (sym (record_code x.imported.keeper x.imported.among n (inr (keyword_code x.label x.expression x.imported n x.among))) ∙ e) in
            let row : Among k.keeper.bindings (x.label, binding.Macro x.imported.level (Some x.expression)) = subst (λ (q : CompiledLibrary). Among q.bindings (x.label, binding.Macro x.imported.level (Some x.expression))) same x.imported.bound in
            let one = one_place numbers k.keeper.bindings (l, binding.Macro k.level (Some c)) (x.label, binding.Macro x.imported.level (Some x.expression)) n once k.bound row (alone c n b) (alone x.expression n x.among) in
            let is : l ≡ x.label = ap (λ (p : Label × Binding). p.0) one in
            let bad : None ≡ Some (keyword.Kept None x.value) = sym unknown ∙ ap (keyword_at s.keywords) is ∙ x.kept in
            absurd (cc)
        by n b e (line q x is y) =
            let same = same_record [] rs q k.keeper all x k.among (sym (record_code q x n (inl y)) ∙ e) in
            once_apart (LineNumbers k.keeper) (flat_map code_numbers (keywords k.keeper)) n (once_split st.earlier k.keeper st.behind) (subst (λ (z : CompiledLibrary). Among (LineNumbers z) n) same y) (keyword_code l c k n b)

    -- nor those of an own one that no other has
    pub own_new : (s : PlainStage) → Steady own texts rs s → (c : PlainCore) → Each (λ (n : CodeNo). n.0.library ≡ own) (code_numbers c) → Each (λ n. OwnHasCode own s.keywords n → ⊥) (code_numbers c)
        → AreNew s.codes (code_numbers c)
    own_new s h c here apart =
        each-of (λ n. code_at s.codes n ≡ None) (code_numbers c) (λ n b. is_none (code_at s.codes n) (λ is. by n (each-at (λ (m : CodeNo). m.0.library ≡ own) (code_numbers c) n here b) (each-at (λ m. OwnHasCode own s.keywords m → ⊥) (code_numbers c) n apart b) (h.codes n is)))
      where
        by : (n : CodeNo) → n.0.library ≡ own → (OwnHasCode own s.keywords n → ⊥) → HasCode own texts rs s.keywords s.evaluated n → ⊥
        by n e not_ours (text x) = no_text (subst IsOfTexts e (each-at (λ (m : CodeNo). IsOfTexts m.0.library) texts n texts_only x))
        by n e not_ours (ours x) = not_ours x
        by n e not_ours (imported x) =
            new_name (subst (Among (names_of rs)) (sym (record_code x.imported.keeper x.imported.among n (inr (keyword_code x.label x.expression x.imported n x.among))) ∙ e) (name_of rs x.imported.keeper x.imported.among))
        by n e not_ours (line q x is y) = new_name (subst (Among (names_of rs)) (sym (record_code q x n (inl y)) ∙ e) (name_of rs q x))

    -- A library whose references were evaluated is evaluated.
    module _ (place : Span) (r : CompiledLibrary) (s : PlainStage) (h : Steady own texts rs s) (among : Among rs r) (earlier : List CompiledLibrary) (behind : IsBehind earlier r)
        (inside : (q : CompiledLibrary) → Among earlier q → Among rs q) (not_yet : has_library s.evaluated r.name ≡ false)
        (refs : (q : CompiledLibrary) → Among earlier q → has_library r.refs q.name ≡ true → has_library s.evaluated q.name ≡ true) where
      abbrev u : PlainSetting
      u = setting_on (with_lines r.run s.codes) s

      fresh : AreNew s.codes (flat_map own_number (lines_parts r.run))
      fresh = subst (AreNew s.codes) (sym (numbers_of r.run)) (lines_new s h r among not_yet)

      lines_stay : Stay s.codes (with_lines r.run s.codes)
      lines_stay = subst (Stay s.codes) (sym (lines_added r.run s.codes)) (all_stay (lines_parts r.run) s.codes fresh)

      abbrev given : List Label
      given = flat_map defined earlier ++ defined r

      -- what a line refers to is its own, or has a value
      line_finds : (x : Line) → Among r.run x → (l : Label) → Among (mentions (line_core x)) l → Among given l → Besides (lines_labels r.run) (FoundFrom u s.cells None) l
      line_finds x a l m b = by (among-parts (flat_map defined earlier) (defined r) l b)
        where
          referred : Among (flat_map defined earlier) l → IsReferred r l
          referred d =
              each-at (IsReferred r) (references (line_core x)) l
              (each-at (λ c. Each (IsReferred r) (references c)) (line_cores r) (line_core x) behind.referred (core_of r.run x a))
              (is_reference (line_core x) l m (line_apart rs earlier r all behind inside x a l d))
            where
              core_of : (xs : List Line) (x : Line) → Among xs x → Among (map line_core xs) (line_core x)
              core_of [] x a = absurd a
              core_of (y ∷ xs) x (inl e) = inl (ap line_core e)
              core_of (y ∷ xs) x (inr a) = inr (core_of xs x a)

          value : (d : DefinedIn earlier l) → IsReferred r l → IsTrue (is_found (lookup (same_label l) s.globals))
          value d (inl e) =
              let st = stands [] rs d.definer all (inside d.definer d.among) in
              absurd (behind.new (subst (Among (names_of earlier)) (sym (defined_here st.earlier d.definer st.behind l d.defines) ∙ e) (name_of earlier d.definer d.among)))
          value d (inr e) =
              let st = stands [] rs d.definer all (inside d.definer d.among) in
              global_there s h d.definer (inside d.definer d.among) (refs d.definer d.among (sym (ap (λ k. has_library r.refs k) (defined_here st.earlier d.definer st.behind l d.defines)) ∙ e)) l d.defines

          by : Among (flat_map defined earlier) l ⊎ Among (defined r) l → Besides (lines_labels r.run) (FoundFrom u s.cells None) l
          by (inl d) = inr (found_global (lookup (same_label l) s.globals) (value (defined_in earlier l d) (referred d)))
          by (inr d) = inl (one_of (defined r) l d)

      lines_ready : (xs : List Line) → ((x : Line) → Among xs x → Among r.run x) → Each (λ x. Closed given (line_core x)) xs → Each (IsWellMade []) (map line_core xs) → Each (CodeStands u.codes) (lines_parts xs)
          → LinesReady u (Besides (lines_labels r.run) (FoundFrom u s.cells None)) (BoundFrom s.cells None) xs
      lines_ready [] sub closed made stand = tt
      lines_ready (x ∷ xs) sub closed made stand = (
        free_ready u (Besides (lines_labels r.run) (FoundFrom u s.cells None)) (BoundFrom s.cells None) given (line_core x) closed.0 made.0 (each-first (CodeStands u.codes) (parts (line_core x)) (lines_parts xs) stand)
            (line_finds x (sub x (inl refl))),
        lines_ready xs (λ y a. sub y (inr a)) closed.1 made.1 (each-last (CodeStands u.codes) (parts (line_core x)) (lines_parts xs) stand),
      )

      ran : (o : Outcome) → LibraryEnding u (defined r) (length s.cells) o → EndsLater (state_on s) o → TellsOther o
          → Ends (λ x t. Went [] s t × (has_library t.evaluated r.name ≡ true)) (library_ended place r s o)
      ran (done x t n) w k o = (
        record {
          steady = record {
            whole = w.whole;
            kept = λ l e y is. value_later (world_of s) (world_of (left_by_library r s t n)) (record { codes = lines_stay; globals = w.kept.globals }) s.cells t.cells (grows_kept s.cells t.cells k.cells) y (h.kept l e y is);
            codes = λ n is. more_texts [] s.keywords (with_library s.evaluated r.name) n (by n (lines_from r s.codes n is));
            defined = λ q a e. known q a (with_cases s.evaluated r.name q.name e);
          };
          keywords = refl;
          evaluated = λ m e. has_with s.evaluated r.name m e;
        },
        with_has s.evaluated r.name,
      )
        where
          by : (n : CodeNo) → IsTrue (is_found (code_at s.codes n)) ⊎ Among (LineNumbers r) n → HasCode own texts rs s.keywords (with_library s.evaluated r.name) n
          by n (inl x) = more_lines r.name s.keywords s.evaluated n (h.codes n x)
          by n (inr a) = line r among (with_has s.evaluated r.name) a

          known : (q : CompiledLibrary) → Among rs q → (has_library s.evaluated q.name ≡ true) ⊎ (q.name ≡ r.name) → AreFound (left_by_library r s t n).globals (defined q)
          known q a (inl e) = each-of (λ (l : Label). IsTrue (is_found (lookup (same_label l) (left_by_library r s t n).globals))) (defined q) (λ l b. w.kept.globals l (global_there s h q a e l b))
          known q a (inr e) = subst (λ (z : CompiledLibrary). AreFound (left_by_library r s t n).globals (defined z)) (sym (same_record [] rs q r all a among e)) w.defined
      ran (faulted x t n) w k o = o
      ran unfit w k o = absurd w

      pub library_went : Ends (λ x t. Went [] s t × (has_library t.evaluated r.name ≡ true)) (evaluate_library place r s)
      unfolding evaluate_library
      library_went =
          ran (outcome_of_lines r.run s)
          (lines_never_stuck (world_of s) (with_lines r.run s.codes) r.run (state_on s) _ h.whole lines_stay
          (lines_ready r.run (λ x a. a) behind.lines (each-first (IsWellMade []) (line_cores r) (keywords r) behind.well_made)
          (subst (λ cs. Each (CodeStands cs) (lines_parts r.run)) (sym (lines_added r.run s.codes))
          (all_stand (lines_parts r.run) s.codes (subst Once (sym (numbers_of r.run)) (once-first (LineNumbers r) (flat_map code_numbers (keywords r)) (once_split earlier r behind)))))))
          (keeps-defined _ r.run (state_on s) _) (told-lines _ r.run _ _ _)
