-- Libraries and programs are expanded safely.
use Rattle.std.proofs.Common.{◌≡◌, ℕ, Bool, true, false, List, [], ◌∷◌, map, Option, Some, None, Result, Ok, Err, cond, refl, sym, inl, inr}
use Rattle.std.specs.Prelude.{◌⊎◌, IsTrue}
use Rattle.std.specs.List.{flat_map}
use Rattle.base_data.proofs.ElementLemmas.{each-of, among-parts}
use Rattle.base_data.specs.Act.{after, give}
use Rattle.base_data.specs.Elements.{Each, Among}
use Rattle.base_data.specs.declared.fault.Fault.{Fault}
use Rattle.base_data.specs.declared.imported_name.ImportedName.{ImportedName}
use Rattle.base_data.specs.declared.library.LibName.{LibName}
use Rattle.base_data.specs.declared.name.CodeNo.{CodeNo}
use Rattle.base_data.specs.declared.name.Label.{Label}
use Rattle.stx_tree.specs.Changes.{stamp}
use Rattle.stx_tree.specs.Tree.{Tree}
use Rattle.stx_scope.specs.Stands.{stands}
use Rattle.core_language.specs.Bindings.{bound_to}
use Rattle.core_language.specs.Core.{PlainCore, PlainCode}
use Rattle.core_language.specs.Labels.{same_label}
use Rattle.core_language.specs.declared.binding.Binding.{Binding}
use Rattle.core_language.specs.declared.binding.Binding.TheVariants as binding
use Rattle.core_language.specs.declared.record.CompiledLibrary.{CompiledLibrary}
use Rattle.law_core.specs.Records.{defined}
use Rattle.law_core.specs.WellMade.{same_code}
use Rattle.law_core.proofs.Decisions.{label_decides, code_decides}
use Rattle.eval_value.specs.Cells.{is_found}
use Rattle.eval_code.specs.Codes.{Codes, code_at}
use Rattle.law_whole.proofs.Evaluations.{with_codes_whole}
use Rattle.expand_standing.specs.Own.{export_labels, labels_with}
use Rattle.expand_standing.specs.Start.{bindings_of, started, first_frame}
use Rattle.expand_standing.specs.State.{State, stage_of}
use Rattle.expand_heads.specs.Items.{begun}
use Rattle.expand_heads.specs.declared.taken.Taken.{Taken}
use Rattle.expand_forms.specs.Body.{splice, finish_all}
use Rattle.expand_forms.specs.Expression.{inside, full_room}
use Rattle.expand_forms.specs.Inside.{Inside}
use Rattle.expand_forms.specs.Top.{stands_for, export, all_exports, exports, give_record, record_in, body_at, second_pass, first_pass, top, top_at}
use Rattle.expand_forms.specs.declared.top.TopAt.{TopAt}
use Rattle.law_expand.proofs.GoodKeywords.{exports-same, started-begins}
use Rattle.law_expand.proofs.Top.{SameScope, AreShown, same-exports}
use Rattle.law_stuck.specs.Behind.{IsOfTexts, IsKeywordOf}
use Rattle.law_stuck.specs.Steady.{text, world_of}
use Rattle.law_stuck.specs.Uses.{Around}
use Rattle.law_steady.specs.Libraries.{AreTexts, IsNotStuck, ExpansionsNeverStuck}
use Rattle.law_steady.proofs.All.{inside-holds}
use Rattle.law_steady.proofs.Binders.{L, light, light-each}
use Rattle.law_steady.proofs.Bodies.{Takes, splice-goes, lines-run}
use Rattle.law_steady.proofs.Keywords.{Holds}
use Rattle.law_steady.proofs.Sure.{Sure, sure-after, sure-with}
use Rattle.law_steady.proofs.Safe.{Safe, safe-rest, Light, light-self, B, G}

-- Texts.

pub found_there : (codes : Codes) (n : CodeNo) → IsTrue (is_found (code_at codes n)) → Among (map (λ (e : CodeNo × PlainCode). e.0) codes) n
found_there [] n h = absurd (cc)
found_there (e ∷ codes) n h = by (same_code n e.0) refl h (found_there codes n)
  where
    by : (b : Bool) → same_code n e.0 ≡ b → IsTrue (is_found (cond b (Some e.1) (code_at codes n))) → (IsTrue (is_found (code_at codes n)) → Among (map (λ (e : CodeNo × PlainCode). e.0) codes) n)
        → Among (map (λ (e : CodeNo × PlainCode). e.0) (e ∷ codes)) n
    by true is k rest = inl ((code_decides n e.0).0 is)
    by false is k rest = inr (rest k)

there_found : (codes : Codes) (n : CodeNo) → Among (map (λ (e : CodeNo × PlainCode). e.0) codes) n → IsTrue (is_found (code_at codes n))
there_found [] n a = absurd a
there_found (e ∷ codes) n a = by (same_code n e.0) refl a (there_found codes n)
  where
    by : (b : Bool) → same_code n e.0 ≡ b → Among (map (λ (e : CodeNo × PlainCode). e.0) (e ∷ codes)) n → (Among (map (λ (e : CodeNo × PlainCode). e.0) codes) n → IsTrue (is_found (code_at codes n)))
        → IsTrue (is_found (cond b (Some e.1) (code_at codes n)))
    by true is k rest = refl
    by false is (inl k) rest = let yes = (code_decides n e.0).1 k in absurd (cc)
    by false is (inr k) rest = rest k

-- What records bind.

bound_there : (bs : List (Label × Binding)) (l : Label) (b : Binding) → bound_to bs l ≡ Some b → Among bs (l, b)
bound_there [] l b h = absurd (cc)
bound_there (e ∷ bs) l b h = by (same_label l e.0) refl h (bound_there bs l b)
  where
    by : (t : Bool) → same_label l e.0 ≡ t → cond t (Some e.1) (bound_to bs l) ≡ Some b → (bound_to bs l ≡ Some b → Among bs (l, b)) → Among (e ∷ bs) (l, b)
    by true is k rest = let same = (label_decides l e.0).0 is in let also : e.1 ≡ b = cc in inl (λ i. (same i, sym also i))
    by false is k rest = inr (rest k)

expand_transformer_in : (rs : List CompiledLibrary) (l : Label) (level : ℕ) (c : PlainCore) → Among (bindings_of rs) (l, binding.Macro level (Some c)) → IsKeywordOf rs l c
expand_transformer_in [] l level c a = absurd a
expand_transformer_in (r ∷ rs) l level c a = by (among-parts r.bindings (bindings_of rs) (l, binding.Macro level (Some c)) a) (expand_transformer_in rs l level c)
  where
    by : Among r.bindings (l, binding.Macro level (Some c)) ⊎ Among (bindings_of rs) (l, binding.Macro level (Some c)) → (Among (bindings_of rs) (l, binding.Macro level (Some c)) → IsKeywordOf rs l c) → IsKeywordOf (r ∷ rs) l c
    by (inl b) rest = record { keeper = r; among = inl refl; level = level; bound = b }
    by (inr b) rest = let k = rest b in record { keeper = k.keeper; among = inr k.among; level = k.level; bound = k.bound }

module _ (own : LibName) (records : List CompiledLibrary) (codes : Codes) (texts : AreTexts codes) where
  abbrev numbers : List CodeNo
  numbers = map (λ (e : CodeNo × PlainCode). e.0) codes

  pub texts_only : Each (λ (n : CodeNo). IsOfTexts n.0.library) numbers
  texts_only = each-of (λ (n : CodeNo). IsOfTexts n.0.library) numbers (λ n a. texts.named n (there_found codes n a))

  pub started-safe : (imports : List ImportedName) → Safe own numbers records (started own records imports codes)
  unfolding started
  started-safe imports = record {
    stage = record {
      whole = with_codes_whole (record { codes = codes; globals = []; frames = [] }) (world_of (stage_of (started own records imports codes))) (record { codes = λ number code k. k; globals = λ l k. k }) refl [] texts.whole;
      kept = λ l e v k. absurd (cc);
      codes = λ n k. text (found_there codes n k);
      defined = λ r a k. absurd (cc);
    };
    imported = λ l level c e. expand_transformer_in records l level c (bound_there (bindings_of records) l (binding.Macro level (Some c)) e);
    made = λ l e v k o. absurd (cc);
  }

module _ (own : LibName) (texts : List CodeNo) (rs : List CompiledLibrary) (x : Around own texts rs) (inner : Inside) (holds : Holds own texts rs inner) where
  -- The exports.

  export-light : (at : TopAt) (e : List ℕ × Tree) (s : State) → Safe own texts rs s → Sure (L own texts rs s) (export at e s)
  unfolding export
  export-light at e s h = by (stands s.frames (stamp at.frame e.1))
    where
      by : (o : Option Label) → Sure (L own texts rs s) (stands_for at.place e.0 (stamp at.frame e.1) o s)
      by None = tt
      by (Some l) = light-self own texts rs s h

  pub exports-light : (at : TopAt) (es : List (List ℕ × Tree)) (s : State) → Safe own texts rs s → Sure (L own texts rs s) (exports at es s)
  unfolding exports
  exports-light at es s h =
      light own texts rs s (all_exports at es s) (λ ls t. after (export_labels ls t) (λ _. give ls)) (light-each own texts rs (export at) (λ e t k. export-light at e t k) es s h)
      (λ ls t k. record { safe = safe-rest own texts rs t (labels_with [] ls) t.assigned t.scope t.uses_left t.record_types k; keywords = refl })

  -- Both passes.

  abbrev Any : {A : Type 0} → A → State → Type 0
  Any a u = Unit {0}

  ends : (at : TopAt) (es : List (List ℕ × Tree)) (d : Taken) (s : State) → B own texts rs s → Safe own texts rs s → Sure Any (second_pass inner at es d s)
  unfolding second_pass
  ends at es d s b h =
      sure-after (λ ls t. Light own texts rs s t × (SameScope s t × AreShown s.frames ls)) Any (exports at es s) (λ ls t. after (finish_all inner 0 d.waiting t) (λ lines. give_record at ls lines))
      (sure-with (λ ls t. Light own texts rs s t) (λ ls t. SameScope s t × AreShown s.frames ls) (exports at es s) (exports-light at es s h) (same-exports at es s))
      (λ ls t k. let o = exports-same own (flat_map defined rs) inner holds.spares s t k.1.0 b in
      sure-after (G own texts rs t) Any (finish_all inner 0 d.waiting t) (λ lines. give_record at ls lines) (lines-run own texts rs x inner holds 0 d.waiting t o.0 k.0.safe) (λ lines u g. tt))

  top-fine : (at : TopAt) (es : List (List ℕ × Tree)) (forms : List Tree) (s : State) → at.frame.0.library ≡ own → B own texts rs s → Safe own texts rs s → Sure Any (top inner at es forms s)
  unfolding top first_pass
  top-fine at es forms s mine b h =
      sure-after (Takes own texts rs x inner holds s) Any (splice inner (body_at at s.library) 0 begun (map (stamp at.frame) forms) s) (second_pass inner at es)
      (splice-goes own texts rs x inner holds (body_at at s.library) 0 begun (map (stamp at.frame) forms) s ((λ e. refl), mine) b h tt)
      (λ d t g. ends at es d t g.0.onward.0 g.0.safe)

pub expansions_never_stuck : ExpansionsNeverStuck
expansions_never_stuck own records imports body codes ready_for behind no_text texts =
    let numbers = map (λ (e : CodeNo × PlainCode). e.0) codes in
    let around : Around own numbers records = record { new = ready_for.new; no_text = no_text; texts_only = texts_only own records codes texts; behind = behind } in
    let at = top_at (first_frame own) body in
    let s = started own records imports codes in
    by (top (inside records full_room) at body.exports body.forms s)
    (top-fine own numbers records around (inside records full_room) (inside-holds own numbers records around full_room) at body.exports body.forms s refl (started-begins own records imports codes ready_for) (started-safe own records codes texts imports))
  where
    by : (r : Result (CompiledLibrary × State) Fault) → Sure (λ a u. Unit {0}) r → IsNotStuck (record_in r)
    by (Ok p) h = tt
    by (Err f) h = h
