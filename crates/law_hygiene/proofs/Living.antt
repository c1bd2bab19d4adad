-- The marks of a leaf are those of the uses that introduced it.
use Rattle.std.specs.Prelude.{◌≡◌, ◌⊎◌, ℕ, List, [], ◌∷◌, map, Option, None, Some, refl}
use Rattle.std.proofs.Common.{sym, ◌∙◌, ap, subst, inl, inr}
use Rattle.base_data.specs.Elements.{Among}
use Rattle.base_data.specs.declared.name.FrameNo.{FrameNo}
use Rattle.base_data.specs.declared.name.Label.{Label}
use Rattle.base_data.specs.declared.name.Mark.{Mark}
use Rattle.base_data.specs.declared.span.Span.{Span}
use Rattle.stx_tree.specs.Context.{LeafContext, entered, framed, act, acts}
use Rattle.stx_tree.specs.Tree.{leaf}
use Rattle.stx_tree.specs.declared.stamp.Stamp.{Stamp}
use Rattle.stx_frames.specs.Scope.{Scope}
use Rattle.stx_scope.specs.Stands.{row_for}
use Rattle.law_hygiene.specs.Binder.{Captures}
use Rattle.law_hygiene.specs.History.{Event, stamped, introduced, change_of, uses, IsOnce, after, IsStart}
use Rattle.law_hygiene.proofs.Marking.{lacks_first}
use Rattle.law_hygiene.proofs.Rowing.{by_a_stamp}
use Rattle.law_hygiene.proofs.Using.{left_introduced, marks_introduced}

-- after an event that comes once
pub marks_event : (e : Event) (es : List Event) (c : LeafContext) → IsOnce (e ∷ es) c.marks → (act (change_of e) c).marks ≡ uses (e ∷ []) c.marks
marks_event (stamped f) es c h = refl
marks_event (introduced m f) es c h = marks_introduced m f c (lacks_first m c.marks h.0)

pub uses_event : (e : Event) (es : List Event) (ms : List Mark) → uses (e ∷ es) ms ≡ uses es (uses (e ∷ []) ms)
uses_event (stamped f) es ms = refl
uses_event (introduced m f) es ms = refl

pub once_event : (e : Event) (es : List Event) (ms : List Mark) → IsOnce (e ∷ es) ms → IsOnce es (uses (e ∷ []) ms)
once_event (stamped f) es ms h = h
once_event (introduced m f) es ms h = h.1

once_then : (e : Event) (es : List Event) (c : LeafContext) → IsOnce (e ∷ es) c.marks → IsOnce es (act (change_of e) c).marks
once_then e es c h = subst (IsOnce es) (sym (marks_event e es c h)) (once_event e es c.marks h)

pub marks_after : (es : List Event) (c : LeafContext) → IsOnce es c.marks → (acts (map change_of es) c).marks ≡ uses es c.marks
marks_after [] c h = refl
marks_after (e ∷ es) c h = marks_after es (act (change_of e) c) (once_then e es c h) ∙ ap (uses es) (marks_event e es c h) ∙ sym (uses_event e es c.marks)

-- the marks of a stamp are those of the uses up to some moment
abbrev IsOfMoment : List Event → List Mark → Stamp → Type 0
IsOfMoment es ms t = (early : List Event) × IsStart early es × (t.marks ≡ uses early ms)

stamp_framed : (e : Event) (es : List Event) (f : Option FrameNo) (c : LeafContext) (ms : List Mark) → c.marks ≡ uses (e ∷ []) ms → (t : Stamp) → Among (framed f c).stamps t
    → Among c.stamps t ⊎ IsOfMoment (e ∷ es) ms t
stamp_framed e es None c ms h t a = inl a
stamp_framed e es (Some f) c ms h t (inl k) = inr (e ∷ [], (es, refl), ap (λ (s : Stamp). s.marks) k ∙ h)
stamp_framed e es (Some f) c ms h t (inr a) = inl a

stamp_event : (e : Event) (es : List Event) (c : LeafContext) → IsOnce (e ∷ es) c.marks → (t : Stamp) → Among (act (change_of e) c).stamps t
    → Among c.stamps t ⊎ IsOfMoment (e ∷ es) c.marks t
stamp_event (stamped f) es c h t a = stamp_framed (stamped f) es (Some f) c c.marks refl t a
stamp_event (introduced m f) es c h t a =
    stamp_framed (introduced m f) es f (entered m c) c.marks refl t (subst (λ (d : LeafContext). Among d.stamps t) (left_introduced m f c (lacks_first m c.marks h.0)) a)

stamps_after : (es : List Event) (c : LeafContext) → IsOnce es c.marks → (t : Stamp) → Among (acts (map change_of es) c).stamps t
    → Among c.stamps t ⊎ IsOfMoment es c.marks t
stamps_after [] c h t a = inl a
stamps_after (e ∷ es) c h t a = by (stamps_after es (act (change_of e) c) (once_then e es c h) t a)
  where
    by : Among (act (change_of e) c).stamps t ⊎ IsOfMoment es (act (change_of e) c).marks t → Among c.stamps t ⊎ IsOfMoment (e ∷ es) c.marks t
    by (inl b) = stamp_event e es c h t b
    by (inr b) =
        inr (e ∷ b.0, (b.1.0, ap (λ xs. e ∷ xs) b.1.1), b.2 ∙ ap (uses b.0) (marks_event e es c h) ∙ sym (uses_event e b.0 c.marks))

pub by_same_uses : (fs : Scope) (es bs : List Event) (ms ns : List Mark) (s r : Option Span) (x y : List ℕ) (l : Label) → IsOnce es ms → IsOnce bs ns
    → Captures fs (row_for (leaf r y (after bs ns)) l) (leaf s x (after es ms)) → (y ≡ x) × ((early : List Event) × IsStart early es × (uses early ms ≡ uses bs ns))
by_same_uses fs es bs ms ns s r x y l h k e =
    let row = row_for (leaf r y (after bs ns)) l in
    let found = by_a_stamp fs x (after es ms).stamps row e in
    (found.2.symbol, by found.0 found.2.marks (stamps_after es (record { marks = ms; stamps = [] }) h found.0 found.1))
  where
    by : (t : Stamp) → (after bs ns).marks ≡ t.marks → Among [] t ⊎ IsOfMoment es ms t → (early : List Event) × IsStart early es × (uses early ms ≡ uses bs ns)
    by t i (inl a) = absurd a
    by t i (inr a) = (a.0, a.1, sym a.2 ∙ sym i ∙ marks_after bs (record { marks = ns; stamps = [] }) k)
