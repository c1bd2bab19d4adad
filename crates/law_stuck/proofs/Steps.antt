-- What is done on a steady stage: libraries on demand, keywords and uses.
use Rattle.std.proofs.Common.{◌≡◌, ℕ, ◌+◌, Bool, true, false, List, [], ◌∷◌, ◌++◌, Option, Some, None, Result, Ok, Err, refl, sym, ap, subst, ◌∙◌, inl, inr, append-nil, slice_get, if◌then◌else◌}
use Rattle.std.specs.Prelude.{◌⊎◌, IsTrue}
use Rattle.base_data.proofs.ElementLemmas.{among-first, among-parts}
use Rattle.base_data.specs.Act.{after, give}
use Rattle.base_data.specs.Elements.{Each, Among}
use Rattle.base_data.specs.Gives.{◌>>=◌}
use Rattle.base_data.specs.declared.fault.Fault.{Fault}
use Rattle.base_data.specs.declared.library.LibName.{LibName}
use Rattle.base_data.specs.declared.name.CodeNo.{CodeNo}
use Rattle.base_data.specs.declared.name.FrameNo.{FrameNo}
use Rattle.base_data.specs.declared.name.Label.{Label}
use Rattle.base_data.specs.declared.name.Mark.{Mark}
use Rattle.base_data.specs.declared.span.Span.{Span}
use Rattle.stx_tree.specs.Changes.{enter}
use Rattle.stx_tree.specs.Tree.{Tree}
use Rattle.core_language.specs.Core.{PlainCore}
use Rattle.core_language.specs.References.{references}
use Rattle.core_language.specs.declared.record.CompiledLibrary.{CompiledLibrary}
use Rattle.law_core.specs.Follows.{names_of}
use Rattle.law_core.specs.Parts.{code_numbers}
use Rattle.eval_value.specs.Cells.{transformer_in, is_found}
use Rattle.eval_value.specs.ToSyntax.{Reading, to_syntax}
use Rattle.eval_value.specs.declared.value.Value.{Value}
use Rattle.eval_value.specs.declared.value.Value.TheVariants as value
use Rattle.eval_value.specs.declared.cell.Cell.{Cell}
use Rattle.eval_value.specs.declared.cell.Cell.TheVariants as cell
use Rattle.eval_code.specs.State.{Outcome, done, faulted, unfit}
use Rattle.law_whole.specs.MadeReady.{AreNew}
use Rattle.law_whole.specs.WholeWorld.{WholeEnding}
use Rattle.law_whole.proofs.Stuck.{applied_never_stuck}
use Rattle.eval_stage.specs.Libraries.{has_library, has_all, libraries_of, wanted}
use Rattle.eval_stage.specs.Running.{state_on, ended_at, outcome_of_call, evaluate, call, evaluate_library, evaluate_wanted, evaluate_all, need}
use Rattle.eval_stage.specs.Stage.{PlainStage, Does, fresh_mark, keyword_at, with_keyword, not_transformer}
use Rattle.eval_stage.specs.Transformers.{is_variable, is_transformer, transformer_only, transformer, begin_keyword, evaluate_transformer, value_in, import_keyword, value_or, keyword_value, is_variable_transformer}
use Rattle.eval_stage.specs.Uses.{procedure_in, call_procedure, tree_at, read_answer, transform, transform_and_cut, transform_marked, used}
use Rattle.eval_stage.specs.declared.keyword.Keyword.{Keyword}
use Rattle.eval_stage.specs.declared.keyword.Keyword.TheVariants as keyword
use Rattle.law_stage.specs.Grows.{IsNotKept}
use Rattle.law_stage.specs.Reached.{mentioned, further, RefersBack}
use Rattle.law_stage.specs.Uses.{OnlyCounts}
use Rattle.law_stage.proofs.Calling.{uses_drop}
use Rattle.law_stage.proofs.Sweeping.{wanted_reached, reached_wanted}
use Rattle.law_stage.proofs.Sweeping.{all_has}
use Rattle.law_stuck.specs.Behind.{IsOfTexts, IsBehind, AllBehind, IsImported, IsKeywordExpression}
use Rattle.law_stuck.specs.Kinds.{TellsOther}
use Rattle.law_stuck.specs.Steady.{OwnHasCode, HasCode, text, ours, imported, line, world_of, IsReadyOn, Steady, Ends, EndsSteady, EndsReady}
use Rattle.law_stuck.specs.Uses.{UsesNeverStuck, TransformersNeverStuck, AsksNeverStuck, BeginsNeverStuck, FinishesNeverStuck}
use Rattle.law_stuck.proofs.Behind.{refers_back, stands, defined_here, Free, expression_free, keyword_free}
use Rattle.law_stuck.proofs.Evaluating.{Provided, Went, evaluate_went, library_went, keyword_new, own_new}
use Rattle.law_stuck.proofs.Known.{put, put_same, put_other, label_cases}
use Rattle.law_stuck.proofs.Mentioned.{library_there}
use Rattle.law_stuck.proofs.Refusals.{Tells, tells-reading}
use Rattle.law_stuck.proofs.Told.{told-applied, told-eval}

-- Actions of a stage.

pub ends-after : {A B : Type 0} (P : A → PlainStage → Type 0) (Q : B → PlainStage → Type 0) (r : Result (A × PlainStage) Fault) (k : A → Does B)
    → Ends P r → ((a : A) (t : PlainStage) → P a t → Ends Q (k a t)) → Ends Q (after r k)
ends-after P Q (Ok x) k h next = next x.0 x.1 h
ends-after P Q (Err f) k h next = h

pub ends-less : {A : Type 0} (P Q : A → PlainStage → Type 0) (r : Result (A × PlainStage) Fault) → Ends P r → ((a : A) (t : PlainStage) → P a t → Q a t) → Ends Q r
ends-less P Q (Ok x) h weaker = weaker x.0 x.1 h
ends-less P Q (Err f) h weaker = h

ends-if : {A : Type 0} (P : A → PlainStage → Type 0) (b : Bool) (r q : Result (A × PlainStage) Fault) → (b ≡ true → Ends P r) → (b ≡ false → Ends P q) → Ends P (if b then r else q)
ends-if P true r q h k = h refl
ends-if P false r q h k = k refl

-- A stage that differs in names and in what was spent is as steady.
pub steady_counts : (own : LibName) (texts : List CodeNo) (rs : List CompiledLibrary) (s t : PlainStage) → OnlyCounts s t → Steady own texts rs s → Steady own texts rs t
steady_counts own texts rs s t e h = subst (Steady own texts rs) (sym e) (record { whole = h.whole; kept = h.kept; codes = h.codes; defined = h.defined })

-- Something is put down of a keyword that wasn't kept.

module _ (own : LibName) (texts : List CodeNo) (rs : List CompiledLibrary) (l : Label) (k : Keyword) where
  module _ (ks : List (Label × Keyword)) (free : IsNotKept (keyword_at ks l)) where
    kept_other : (m : Label) (e : Option PlainCore) (v : Value) → keyword_at ks m ≡ Some (keyword.Kept e v) → keyword_at (put ks l k) m ≡ Some (keyword.Kept e v)
    kept_other m e v h = put_other ks l m k (λ is. subst IsNotKept (ap (keyword_at ks) (sym is) ∙ h) free) ∙ h

    still : (more : List CodeNo) (es : List LibName) (n : CodeNo) → (Among more n → HasCode own texts rs (put ks l k) es n) → HasCode own (texts ++ more) rs ks es n → HasCode own texts rs (put ks l k) es n
    still more es n new (text a) = by (among-parts texts more n a)
      where
        by : Among texts n ⊎ Among more n → HasCode own texts rs (put ks l k) es n
        by (inl b) = text b
        by (inr b) = new b
    still more es n new (ours x) =
        ours (record { label = x.label; expression = x.expression; value = x.value; kept = kept_other x.label (Some x.expression) x.value x.kept; among = x.among; label_here = x.label_here; code_here = x.code_here })
    still more es n new (imported x) =
        imported (record { label = x.label; expression = x.expression; value = x.value; imported = x.imported; kept = kept_other x.label None x.value x.kept; among = x.among })
    still more es n new (line r a e b) = line r a e b

  put_steady : (more : List CodeNo) (t : PlainStage) → Steady own (texts ++ more) rs t → IsNotKept (keyword_at t.keywords l) → ((e : Option PlainCore) (v : Value) → k ≡ keyword.Kept e v → IsReadyOn t v)
      → ((n : CodeNo) → Among more n → HasCode own texts rs (put t.keywords l k) t.evaluated n) → Steady own texts rs (with_keyword l k t)
  put_steady more t h free ready new = record {
    whole = h.whole;
    kept = λ m e v is. by m e v is (label_cases m l);
    codes = λ n is. still t.keywords free more t.evaluated n (new n) (h.codes n is);
    defined = h.defined;
  }
    where
      by : (m : Label) (e : Option PlainCore) (v : Value) → keyword_at (put t.keywords l k) m ≡ Some (keyword.Kept e v) → (m ≡ l) ⊎ (m ≡ l → ⊥) → IsReadyOn t v
      by m e v is (inl same) =
          let both : Some k ≡ Some (keyword.Kept e v) = sym (put_same t.keywords l k) ∙ ap (keyword_at (put t.keywords l k)) (sym same) ∙ is in
          ready e v (cc)
      by m e v is (inr other) = h.kept m e v (sym (put_other t.keywords l m k other) ∙ is)

module _ (own : LibName) (texts : List CodeNo) (rs : List CompiledLibrary) (new_name : Among (names_of rs) own → ⊥) (no_text : IsOfTexts own → ⊥) (texts_only : Each (λ (n : CodeNo). IsOfTexts n.0.library) texts)
    (all : AllBehind [] rs) where
  -- more libraries were evaluated, and that is all
  pub record On (s t : PlainStage) : Type 0 where
    pub steady : Steady own texts rs t
    pub keywords : t.keywords ≡ s.keywords
    pub evaluated : (k : LibName) → has_library s.evaluated k ≡ true → has_library t.evaluated k ≡ true

  on_self : (s : PlainStage) → Steady own texts rs s → On s s
  on_self s h = record { steady = h; keywords = refl; evaluated = λ k e. e }

  on_then : (s t u : PlainStage) → On s t → On t u → On s u
  on_then s t u h k = record { steady = k.steady; keywords = k.keywords ∙ h.keywords; evaluated = λ m e. k.evaluated m (h.evaluated m e) }

  on_went : (s t : PlainStage) → Went own texts rs [] s t → On s t
  on_went s t h = record { steady = subst (λ ts. Steady own ts rs t) (append-nil texts) h.steady; keywords = h.keywords; evaluated = h.evaluated }

  -- Libraries on demand.

  module _ (place : Span) (ks : List LibName) (closed : (r : CompiledLibrary) (k : LibName) → Among rs r → has_library ks r.name ≡ true → has_library r.refs k ≡ true → has_library ks k ≡ true) where
    -- those of these records that are wanted were evaluated
    abbrev Done : List CompiledLibrary → PlainStage → Type 0
    Done qs s = (q : CompiledLibrary) → Among qs q → has_library ks q.name ≡ true → has_library s.evaluated q.name ≡ true

    wanted_on : (earlier : List CompiledLibrary) (r : CompiledLibrary) (s : PlainStage) → Steady own texts rs s → IsBehind earlier r → ((q : CompiledLibrary) → Among earlier q → Among rs q) → Among rs r → Done earlier s
        → Ends (λ x t. On s t × (has_library ks r.name ≡ true → has_library t.evaluated r.name ≡ true)) (evaluate_wanted place ks r s)
    unfolding evaluate_wanted
    wanted_on earlier r s h b inside among had =
        let P : Unit {0} → PlainStage → Type 0 = λ x t. On s t × (has_library ks r.name ≡ true → has_library t.evaluated r.name ≡ true) in
        ends-if P (has_library ks r.name) (if has_library s.evaluated r.name then give tt s else evaluate_library place r s) (give tt s)
        (λ want. ends-if P (has_library s.evaluated r.name) (give tt s) (evaluate_library place r s) (λ e. (on_self s h, (λ w. e)))
        (λ e. ends-less (λ x t. Went own texts rs [] s t × (has_library t.evaluated r.name ≡ true)) P (evaluate_library place r s)
        (library_went own texts rs all texts_only new_name no_text place r s h among earlier b inside e (λ q a i. had q a (closed r q.name among want i)))
        (λ x t k. (on_went s t k.0, (λ w. k.1)))))
        (λ e. (on_self s h, (λ w. let bad = w in absurd (cc))))

    all_on : (before qs : List CompiledLibrary) (s : PlainStage) → Steady own texts rs s → AllBehind before qs → ((q : CompiledLibrary) → Among before q → Among rs q) → ((q : CompiledLibrary) → Among qs q → Among rs q) → Done before s
        → Ends (λ x t. On s t × (Done before t × Done qs t)) (evaluate_all place ks qs s)
    unfolding evaluate_all
    all_on before [] s h b inside sub had = (on_self s h, (had, (λ q a w. absurd a)))
    all_on before (r ∷ qs) s h b inside sub had =
        ends-after (λ x t. On s t × (has_library ks r.name ≡ true → has_library t.evaluated r.name ≡ true)) (λ x t. On s t × (Done before t × Done (r ∷ qs) t)) (evaluate_wanted place ks r s) (λ _. evaluate_all place ks qs)
        (wanted_on before r s h b.0 inside (sub r (inl refl)) had)
        (λ x t k. ends-less (λ y u. On t u × (Done (before ++ r ∷ []) u × Done qs u)) (λ y u. On s u × (Done before u × Done (r ∷ qs) u)) (evaluate_all place ks qs t)
        (all_on (before ++ r ∷ []) qs t k.0.steady b.1 (λ q a. there q (among-parts before (r ∷ []) q a)) (λ q a. sub q (inr a)) (λ q a w. now t k q w (among-parts before (r ∷ []) q a)))
        (λ y u j. (on_then s t u k.0 j.0, ((λ q a w. j.1.0 q (among-first before (r ∷ []) q a) w), (λ q a w. last u j.1.0 j.1.1 q a w)))))
      where
        there : (q : CompiledLibrary) → Among before q ⊎ Among (r ∷ []) q → Among rs q
        there q (inl a) = inside q a
        there q (inr (inl e)) = sub q (inl e)
        there q (inr (inr a)) = absurd a

        now : (t : PlainStage) → On s t × (has_library ks r.name ≡ true → has_library t.evaluated r.name ≡ true) → (q : CompiledLibrary) → has_library ks q.name ≡ true → Among before q ⊎ Among (r ∷ []) q → has_library t.evaluated q.name ≡ true
        now t k q w (inl a) = k.0.evaluated q.name (had q a w)
        now t k q w (inr (inl e)) = subst (λ (z : CompiledLibrary). has_library t.evaluated z.name ≡ true) (sym e) (k.1 (subst (λ (z : CompiledLibrary). has_library ks z.name ≡ true) e w))
        now t k q w (inr (inr a)) = absurd a

        last : (u : PlainStage) → Done (before ++ r ∷ []) u → Done qs u → (q : CompiledLibrary) → Among (r ∷ qs) q → has_library ks q.name ≡ true → has_library u.evaluated q.name ≡ true
        last u d e q (inl is) w = d q (own_last before q is) w
          where
            own_last : (xs : List CompiledLibrary) (q : CompiledLibrary) → q ≡ r → Among (xs ++ r ∷ []) q
            own_last [] q is = inl is
            own_last (x ∷ xs) q is = inr (own_last xs q is)
        last u d e q (inr a) w = e q a w

  module _ (place : Span) where
    need_on : (c : PlainCore) (f : Free rs c) (s : PlainStage) → Steady own texts rs s → Ends (λ x t. On s t × Provided own texts rs t c f) (need place rs c s)
    unfolding need
    need_on c f s h =
        let P : Unit {0} → PlainStage → Type 0 = λ x t. On s t × Provided own texts rs t c f in
        let ks = libraries_of c in
        ends-if P (has_all s.evaluated ks) (give tt s) (evaluate_all place (wanted rs ks) rs s)
        (λ e. (on_self s h, (λ l a r. all_has s.evaluated ks (f.from l a).definer.name e (mentions_library l a r))))
        (λ e. ends-less (λ x t. On s t × (Done place (wanted rs ks) closed [] t × Done place (wanted rs ks) closed rs t)) P (evaluate_all place (wanted rs ks) rs s)
        (all_on place (wanted rs ks) closed [] rs s h all (λ q a. absurd a) (λ q a. a) (λ q a w. absurd a))
        (λ x t k. (k.0, (λ l a r. k.1.1 (f.from l a).definer (f.from l a).among (reached_wanted rs ks (f.from l a).definer.name back (mentioned (f.from l a).definer.name (mentions_library l a r)))))))
      where
        back : RefersBack rs
        back = refers_back [] rs all

        closed : (r : CompiledLibrary) (k : LibName) → Among rs r → has_library (wanted rs (libraries_of c)) r.name ≡ true → has_library r.refs k ≡ true → has_library (wanted rs (libraries_of c)) k ≡ true
        closed r k a w i = reached_wanted rs (libraries_of c) k back (further r k a (wanted_reached rs (libraries_of c) r.name w) i)

        mentions_library : (l : Label) (a : Among f.given l) → Among (references c) l → has_library (libraries_of c) (f.from l a).definer.name ≡ true
        mentions_library l a r =
            let d = f.from l a in
            let st = stands [] rs d.definer all d.among in
            sym (ap (λ k. has_library (libraries_of c) k) (defined_here st.earlier d.definer st.behind l d.defines)) ∙ library_there c l r

    transformer_went : (c : PlainCore) (f : Free rs c) (s : PlainStage) → Steady own texts rs s → ((t : PlainStage) → On s t → AreNew t.codes (code_numbers c))
        → Ends (λ v t. Went own texts rs (code_numbers c) s t × IsReadyOn t v) (transformer place rs c s)
    unfolding transformer
    transformer_went c f s h new =
        let P : Value → PlainStage → Type 0 = λ v t. Went own texts rs (code_numbers c) s t × IsReadyOn t v in
        ends-after (λ x t. On s t × Provided own texts rs t c f) P (need place rs c s) (λ _ t. after (evaluate place c t) (λ p. transformer_only place p.0)) (need_on c f s h)
        (λ x t k. ends-after (λ p u. Went own texts rs (code_numbers c) t u × IsReadyOn u p.0) P (evaluate place c t) (λ p. transformer_only place p.0)
        (evaluate_went own texts rs place c t k.0.steady f k.1 (new t k.0))
        (λ p u m. ends-if P (is_transformer p.0) (give p.0 u) (Err (not_transformer place))
        (λ e. (record { steady = m.0.steady; keywords = m.0.keywords ∙ k.0.keywords; evaluated = λ i j. m.0.evaluated i (k.0.evaluated i j) }, m.1)) (λ e. tt)))

    -- Keywords.

    pub begins : (l : Label) (s : PlainStage) → Steady own texts rs s → IsNotKept (keyword_at s.keywords l) → EndsSteady own texts rs (begin_keyword l place s)
    unfolding begin_keyword
    begins l s h free =
        put_steady own texts rs l (keyword.Waiting place) [] s (subst (λ ts. Steady own ts rs s) (sym (append-nil texts)) h) free (λ e v is. absurd (cc)) (λ n a. absurd a)

    not_kept : (s t : PlainStage) (l : Label) → t.keywords ≡ s.keywords → IsNotKept (keyword_at s.keywords l) → IsNotKept (keyword_at t.keywords l)
    not_kept s t l e h = subst (λ ks. IsNotKept (keyword_at ks l)) (sym e) h

    pub finishes : (l : Label) (c : PlainCore) (s : PlainStage) → Steady own texts rs s → l.0.library ≡ own → IsNotKept (keyword_at s.keywords l) → IsKeywordExpression rs c → Each (λ (n : CodeNo). n.0.library ≡ own) (code_numbers c)
        → Each (λ n. OwnHasCode own s.keywords n → ⊥) (code_numbers c) → EndsSteady own texts rs (evaluate_transformer place rs l c s)
    unfolding evaluate_transformer
    finishes l c s h here free x codes apart =
        ends-after (λ v t. Went own texts rs (code_numbers c) s t × IsReadyOn t v) (λ y t. Steady own texts rs t) (transformer place rs c s) (λ v t. give tt (with_keyword l (keyword.Kept (Some c) v) t))
        (transformer_went c (expression_free rs c x) s h
        (λ t k. own_new own texts rs all texts_only new_name no_text t k.steady c codes (subst (λ ks. Each (λ n. OwnHasCode own ks n → ⊥) (code_numbers c)) (sym k.keywords) apart)))
        (λ v t k. put_steady own texts rs l (keyword.Kept (Some c) v) (code_numbers c) t k.0.steady (not_kept s t l k.0.keywords free) (λ e y is. let same : v ≡ y = cc in subst (IsReadyOn t) same k.1)
        (λ n a. ours (record { label = l; expression = c; value = v; kept = put_same t.keywords l (keyword.Kept (Some c) v); among = a; label_here = here; code_here = each_code n a codes })))
      where
        each_code : (n : CodeNo) → Among (code_numbers c) n → Each (λ (m : CodeNo). m.0.library ≡ own) (code_numbers c) → n.0.library ≡ own
        each_code n a q = by (code_numbers c) a q
          where
            by : (ns : List CodeNo) → Among ns n → Each (λ (m : CodeNo). m.0.library ≡ own) ns → n.0.library ≡ own
            by [] b p = absurd b
            by (m ∷ ns) (inl e) p = ap (λ (i : CodeNo). i.0.library) e ∙ p.0
            by (m ∷ ns) (inr b) p = by ns b p.1

    imports : (l : Label) (e : Option PlainCore) (s : PlainStage) → Steady own texts rs s → IsImported rs l e → keyword_at s.keywords l ≡ None → EndsReady own texts rs (import_keyword place rs l e s)
    unfolding import_keyword
    imports l None s h k unknown = tt
    imports l (Some c) s h k unknown =
        ends-after (λ v t. Went own texts rs (code_numbers c) s t × IsReadyOn t v) (λ v t. Steady own texts rs t × IsReadyOn t v) (transformer place rs c s) (λ v t. give v (with_keyword l (keyword.Kept None v) t))
        (transformer_went c (keyword_free rs l c all k) s h (λ t o. keyword_new own texts rs all texts_only new_name no_text t o.steady l c k (ap (λ ks. keyword_at ks l) o.keywords ∙ unknown)))
        (λ v t w. (
          put_steady own texts rs l (keyword.Kept None v) (code_numbers c) t w.0.steady (subst IsNotKept (sym (ap (λ ks. keyword_at ks l) w.0.keywords ∙ unknown)) tt) (λ e y is. let same : v ≡ y = cc in subst (IsReadyOn t) same w.1)
              (λ n a. imported (record { label = l; expression = c; value = v; imported = k; kept = put_same t.keywords l (keyword.Kept None v); among = a })),
          w.1,
        ))

    pub values : (l : Label) (e : Option PlainCore) (s : PlainStage) → Steady own texts rs s → IsImported rs l e → EndsReady own texts rs (keyword_value place rs l e s)
    unfolding keyword_value
    values l e s h k = by (keyword_at s.keywords l) refl
      where
        by : (o : Option Keyword) → keyword_at s.keywords l ≡ o → EndsReady own texts rs (value_in o >>= λ x. value_or place rs l e x s)
        by None is = imports l e s h k is
        by (Some (keyword.Waiting at)) is = tt
        by (Some (keyword.Kept x v)) is = (h, h.kept l x v is)

    pub asks : (l : Label) (e : Option PlainCore) (s : PlainStage) → Steady own texts rs s → IsImported rs l e → EndsSteady own texts rs (is_variable_transformer place rs l e s)
    unfolding is_variable_transformer
    asks l e s h k = ends-after (λ v t. Steady own texts rs t × IsReadyOn t v) (λ b t. Steady own texts rs t) (keyword_value place rs l e s) (λ v. give (is_variable v)) (values l e s h k) (λ v t w. w.0)

    -- Uses. Of what a call leaves only that it was no fault of cells is told here: its cells are dropped.

    abbrev Fine : {A : Type 0} → A → PlainStage → Type 0
    Fine a t = Unit {0}

    called : (s : PlainStage) (o : Outcome) → WholeEnding (world_of s) o → TellsOther o → Ends Fine (ended_at place s o)
    called s (done v t n) w o = tt
    called s (faulted f t n) w o = o
    called s unfit w o = absurd w

    call_fine : (t : Tree) (s : PlainStage) → Steady own texts rs s → (f : Value) → IsReadyOn s f → Ends Fine (call place f (value.Syn t) s)
    unfolding call
    call_fine t s h f r =
        called s (outcome_of_call f (value.Syn t) s) (applied_never_stuck (world_of s) f (value.Syn t ∷ []) (state_on s) _ h.whole (r, (record { fits = tt; ready = tt }, tt)))
        (told-applied (world_of s) _ (told-eval (world_of s)) _ _ _)

    -- the procedure of a variable transformer lies in its cell
    procedure_fine : (t : Tree) (s : PlainStage) → Steady own texts rs s → (v : Value) → IsReadyOn s v → Ends Fine (call_procedure place t (procedure_in s.cells v) s)
    procedure_fine t s h (value.Transformer p) r = by (slice_get s.cells p.0) refl r.fits
      where
        by : (o : Option Cell) → slice_get s.cells p.0 ≡ o → IsTrue (is_found (transformer_in o)) → Ends Fine (call_procedure place t (transformer_in o) s)
        by None e f = absurd (cc)
        by (Some (cell.Transformer x)) e f = call_fine t s h x (h.whole.values p.0 (cell.Transformer x) e)
        by (Some (cell.Pair x y)) e f = absurd (cc)
        by (Some (cell.Vector xs)) e f = absurd (cc)
        by (Some (cell.Str x)) e f = absurd (cc)
        by (Some (cell.Scope es parent)) e f = absurd (cc)
        by (Some (cell.Binds bs parent)) e f = absurd (cc)
    procedure_fine t s h value.Unspecified r = call_fine t s h value.Unspecified r
    procedure_fine t s h (value.Atom x) r = call_fine t s h (value.Atom x) r
    procedure_fine t s h (value.Symbol x) r = call_fine t s h (value.Symbol x) r
    procedure_fine t s h (value.Pair p) r = call_fine t s h (value.Pair p) r
    procedure_fine t s h (value.Vector p) r = call_fine t s h (value.Vector p) r
    procedure_fine t s h (value.Str p) r = call_fine t s h (value.Str p) r
    procedure_fine t s h (value.Closure code p) r = call_fine t s h (value.Closure code p) r
    procedure_fine t s h (value.Prim op) r = call_fine t s h (value.Prim op) r
    procedure_fine t s h (value.Syn x) r = call_fine t s h (value.Syn x) r

    tree_fine : (s : PlainStage) (x : Reading Tree) → Tells x → Ends Fine (tree_at place s x)
    tree_fine s (Ok p) h = tt
    tree_fine s (Err f) h = h

    read_fine : (a : Value × ℕ) (s : PlainStage) → Ends Fine (read_answer place a s)
    unfolding read_answer
    read_fine a s = tree_fine s (to_syntax s.cells a.0 a.1) (tells-reading s.cells a.0 a.1)

    marked_fine : (v : Value) (form : Tree) (frame : Option FrameNo) (m : Mark) (s : PlainStage) → Steady own texts rs s → IsReadyOn s v → Ends Fine (transform_marked place v form frame m s)
    unfolding transform_marked transform_and_cut transform
    marked_fine v form frame m s h r =
        let t = enter m form in
        ends-after Fine Fine _ _ (ends-after Fine Fine _ _ (ends-after Fine Fine (call_procedure place t (procedure_in s.cells v) s) (read_answer place) (procedure_fine t s h v r) (λ a u k. read_fine a u)) (λ a u k. tt)) (λ a u k. tt)

    used_fine : (form : Tree) (l : Label) (e : Option PlainCore) (frame : Option FrameNo) (s : PlainStage) → Steady own texts rs s → IsImported rs l e → Ends Fine (used place rs form l e frame s)
    unfolding used
    used_fine form l e frame s h k =
        ends-after (λ v t. Steady own texts rs t × IsReadyOn t v) Fine (keyword_value place rs l e s) (λ v t. after (fresh_mark t) (transform_marked place v form frame)) (values l e s h k)
        (λ v t w. marked_fine v form frame (record { 0 = t.names }) (record t { names = record { library = t.names.library; number = t.names.number + 1 } })
        (record { whole = w.0.whole; kept = w.0.kept; codes = w.0.codes; defined = w.0.defined }) w.1)

    pub uses : (form : Tree) (l : Label) (e : Option PlainCore) (frame : Option FrameNo) (s : PlainStage) → Steady own texts rs s → IsImported rs l e → EndsSteady own texts rs (used place rs form l e frame s)
    uses form l e frame s h k = by (used place rs form l e frame s) refl (used_fine form l e frame s h k)
      where
        by : (r : Result (Tree × PlainStage) Fault) → used place rs form l e frame s ≡ r → Ends Fine r → EndsSteady own texts rs r
        by (Err f) is fine = fine
        by (Ok p) is fine =
            let c = uses_drop place rs form l e frame s p.1 p.0 is in
            let asked = subst (EndsReady own texts rs) c.asked (values l e s h k) in
            steady_counts own texts rs c.before p.1 c.counts asked.0

-- The laws.

pub uses_never_stuck : UsesNeverStuck
uses_never_stuck own texts place rs form l e frame s h k = uses own texts rs h.around.new h.around.no_text h.around.texts_only h.around.behind place form l e frame s h.steady k

pub transformers_never_stuck : TransformersNeverStuck
transformers_never_stuck own texts place rs l e s h k = values own texts rs h.around.new h.around.no_text h.around.texts_only h.around.behind place l e s h.steady k

pub asks_never_stuck : AsksNeverStuck
asks_never_stuck own texts place rs l e s h k = asks own texts rs h.around.new h.around.no_text h.around.texts_only h.around.behind place l e s h.steady k

pub begins_never_stuck : BeginsNeverStuck
begins_never_stuck own texts place rs l s h free = begins own texts rs h.around.new h.around.no_text h.around.texts_only h.around.behind place l s h.steady free

pub finishes_never_stuck : FinishesNeverStuck
finishes_never_stuck own texts place rs l c s h here free x codes apart = finishes own texts rs h.around.new h.around.no_text h.around.texts_only h.around.behind place l c s h.steady here free x codes apart
