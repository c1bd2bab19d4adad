-- A library or program: what its expansion leaves came by binds, and so its rows can be bound again.
use Rattle.std.proofs.Common.{◌≡◌, ℕ, ◌<◌, List, [], map, Option, None, Some, Ok, refl, sym, ◌∙◌, ap, subst, arith}
use Rattle.base_data.specs.Act.{after}
use Rattle.base_data.specs.Elements.{Each, Once}
use Rattle.base_data.specs.declared.imported_name.ImportedName.{ImportedName}
use Rattle.base_data.specs.declared.library.LibName.{LibName}
use Rattle.base_data.specs.declared.library.LibName.TheVariants as library
use Rattle.base_data.specs.declared.name.Label.{Label}
use Rattle.stx_tree.specs.Changes.{stamp}
use Rattle.stx_tree.specs.Tree.{Tree}
use Rattle.stx_frames.specs.Listed.{rows_in}
use Rattle.core_language.specs.Bindings.{bound_to}
use Rattle.core_language.specs.declared.binding.Binding.{Binding}
use Rattle.core_language.specs.declared.record.CompiledLibrary.{CompiledLibrary}
use Rattle.eval_code.specs.Codes.{Codes}
use Rattle.law_imports.specs.Algebra.{IsOnce}
use Rattle.expand_standing.specs.Own.{own_bindings}
use Rattle.expand_standing.specs.Start.{started, first_frame}
use Rattle.expand_standing.specs.State.{State}
use Rattle.expand_heads.specs.Items.{begun}
use Rattle.expand_heads.specs.declared.taken.Taken.{Taken}
use Rattle.expand_forms.specs.Body.{splice, finish_all}
use Rattle.expand_forms.specs.Expanding.{ready, library_record}
use Rattle.expand_forms.specs.Expression.{inside, full_room}
use Rattle.expand_forms.specs.Inside.{Inside}
use Rattle.expand_forms.specs.Top.{give_record, exports, body_at, second_pass, first_pass, top, top_at}
use Rattle.expand_forms.specs.declared.top.LibraryBody.{LibraryBody}
use Rattle.expand_forms.specs.declared.top.TopAt.{TopAt}
use Rattle.expand_forms.specs.Site.{site_at}
use Rattle.law_expand.specs.States.{IsNumbered, Later}
use Rattle.law_expand.proofs.Acts.{Gave, gave-after, told}
use Rattle.law_expand.proofs.Changes.{form-later}
use Rattle.law_expand.proofs.Records.{records-good, in-record}
use Rattle.law_expand.proofs.Started.{started-sound}
use Rattle.law_expand.proofs.Top.{SameScope, AreShown, same-exports}
use Rattle.law_run.specs.Bound.{AreBound, BindsOwn}
use Rattle.law_run.specs.Expansion.{OwnFramesAreBound, NewLabelsAreUnbound, StartsAreNumbered, IsOnceOver, RecordsAreOnceOver}
use Rattle.law_run.proofs.Forms.{Inner, b-splice, b-lines, inside-binds}
use Rattle.law_run.proofs.Labels.{labels-once}
use Rattle.law_run.proofs.Rows.{RowsOnce, binds-once, rows-bound}
use Rattle.law_run.proofs.Starts.{IsApart, ready-apart, once-started}
use Rattle.law_run.proofs.Steps.{Steps, Names, St, stays, steps-then}

pub own-frames : OwnFramesAreBound
own-frames rs room place level depth t s u c e = (told (λ x v. Steps s.names.library s v) ((inside rs room).form (site_at place level depth) t s) c u ((inside-binds s.names.library rs room).form place level depth t s refl) e).binds

pub new-unbound : NewLabelsAreUnbound
new-unbound rs room place level depth t s u c h e = (numbered, by (bound_to u.bindings (record { 0 = u.names })) refl)
  where
    later : Later s.names.library s u
    later = form-later rs room place level depth t s u c e

    numbered : IsNumbered s.names.library u
    numbered = later.grows.numbered h

    less : u.names.number < u.names.number → ⊥
    less lt = omega (arith, lt)

    by : (o : Option Binding) → bound_to u.bindings (record { 0 = u.names }) ≡ o → o ≡ None
    by None is = refl
    by (Some b) is = absurd (less (numbered (record { 0 = u.names }) b later.next is))

pub starts-numbered : StartsAreNumbered
starts-numbered own records imports codes h = (started-sound own records imports codes h).numbered

-- the frames and bindings of a record are those of the state that its expansion ended in
record Ends (own : LibName) (start : State) (r : CompiledLibrary) : Type 0 where
  pub ended : State
  pub binds : BindsOwn own start.frames ended.frames
  pub frames : r.frames ≡ rows_in r.name ended.frames
  pub bindings : r.bindings ≡ own_bindings ended

module _ (own : LibName) (go : Inside) (inner : Inner own go) (at : TopAt) (mine : at.frame.0.library ≡ own) (start : State) where
  ends-record : (es : List ImportedName) (d : Taken) (s : State) → Steps own start s → Gave (λ r v. Ends own start r) (after (finish_all go 0 d.waiting s) (λ lines. give_record at es lines))
  ends-record es d s h = gave-after (St own s) (λ r v. Ends own start r) (finish_all go 0 d.waiting s) (λ lines. give_record at es lines) (b-lines own go inner 0 d.waiting s h.next)
      (λ xs v k. record { ended = v; binds = (steps-then own start s v h k).binds; frames = refl; bindings = refl })

  ends-finished : (es : List (List ℕ × Tree)) (d : Taken) (s : State) → Steps own start s → Gave (λ r v. Ends own start r) (second_pass go at es d s)
  unfolding second_pass
  ends-finished es d s h = gave-after (λ ls t. SameScope s t × AreShown s.frames ls) (λ r v. Ends own start r) (exports at es s) (λ ls t. after (finish_all go 0 d.waiting t) (λ lines. give_record at ls lines)) (same-exports at es s)
      (λ ls t k. ends-record ls d t (steps-then own start s t h (stays own s t (ap (λ n. n.library) k.0.names ∙ h.next) k.0.frames)))

  ends-top : (es : List (List ℕ × Tree)) (forms : List Tree) → Names own start → Gave (λ r v. Ends own start r) (top go at es forms start)
  unfolding top first_pass
  ends-top es forms n = gave-after (St own start) (λ r v. Ends own start r) (splice go (body_at at start.library) 0 begun (map (stamp at.frame) forms) start) (second_pass go at es)
      (b-splice own go inner (body_at at start.library) 0 begun (map (stamp at.frame) forms) start mine n) (λ d t k. ends-finished es d t k)

started-names : (own : LibName) (records : List CompiledLibrary) (imports : List ImportedName) (codes : Codes) → (started own records imports codes).names.library ≡ own
unfolding started
started-names own records imports codes = refl

-- behind records of other libraries
pub once-behind : (own : LibName) (records : List CompiledLibrary) (imports : List ImportedName) (body : LibraryBody) (codes : Codes) (r : CompiledLibrary)
    → Each (IsApart own) records → (own ≡ library.Core → ⊥) → IsOnce imports → library_record (ready own records imports codes) records body ≡ Ok r → r.name ≡ own → IsOnceOver r
once-behind own records imports body codes r h other o e named =
    let start = started own records imports codes in
    let at = top_at (first_frame own) body in
    let ends = in-record (Ends own start) (top (inside records full_room) at body.exports body.forms start) r (ends-top own (inside records full_room) (inside-binds own records full_room) at refl start body.exports body.forms (started-names own records imports codes)) e in
    let once = binds-once own start.frames ends.ended.frames ends.binds (once-started own records h other imports codes o) in
    record {
      rows = subst (AreBound []) (sym ends.frames) (rows-bound r.name ends.ended.frames (subst (λ (l : LibName). RowsOnce l ends.ended.frames) (sym named) once));
      labels = subst (λ bs. Once (map (λ (b : Label × Binding). b.0) bs)) (sym ends.bindings) (labels-once ends.ended);
    }

pub once-over : RecordsAreOnceOver
once-over own records imports body codes r h other o e =
    once-behind own records imports body codes r (ready-apart own [] records h.earlier h.new) other o e
    (records-good own records imports body codes r h e).1
