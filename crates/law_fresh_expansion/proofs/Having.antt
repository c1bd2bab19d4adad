-- Changes with certain marks and frames leave a leaf that had them alone with them alone; and so it is of its history.
use Rattle.std.proofs.Common.{◌≡◌, Bool, true, false, List, [], ◌∷◌, ◌++◌, Option, None, Some, refl, sym, ap, ◌∙◌, subst, inl, inr, if◌then◌else◌}
use Rattle.base_data.proofs.ElementLemmas.{each-and, each-dropped, each-implied}
use Rattle.base_data.specs.Elements.{Each}
use Rattle.base_data.specs.declared.name.FrameNo.{FrameNo}
use Rattle.base_data.specs.declared.name.Mark.{Mark}
use Rattle.stx_tree.specs.Context.{LeafContext, entered, stamped, framed, unmarked, left, act, acts}
use Rattle.stx_tree.specs.Marks.{is_first}
use Rattle.stx_tree.specs.declared.change.Change.{Change}
use Rattle.stx_tree.specs.declared.change.Change.TheVariants as change
use Rattle.stx_tree.specs.declared.stamp.Stamp.{Stamp}
use Rattle.law_fresh.specs.Leaves.{OptionHolds}
use Rattle.law_fresh_expansion.specs.History.{IsBeginning, HasHistory}
use Rattle.law_fresh_expansion.specs.Known.{HasMarks}
use Rattle.law_fresh_expansion.specs.Living.{IsChangeOf}

acts-more : (xs : List Change) (x : Change) (c : LeafContext) → act x (acts xs c) ≡ acts (xs ++ x ∷ []) c
acts-more [] x c = refl
acts-more (y ∷ xs) x c = acts-more xs x (act y c)

module _ (K : Mark → Type 0) (J : FrameNo → Type 0) where
  entered-has : (m : Mark) (c : LeafContext) → K m → HasMarks K J c → HasMarks K J (entered m c)
  entered-has m c k h = record { marks = (k, h.marks); stamps = h.stamps }

  stamped-has : (f : FrameNo) (c : LeafContext) → J f → HasMarks K J c → HasMarks K J (stamped f c)
  stamped-has f c j h = record { marks = h.marks; stamps = ((j, h.marks), h.stamps) }

  framed-has : (f : Option FrameNo) (c : LeafContext) → OptionHolds J f → HasMarks K J c → HasMarks K J (framed f c)
  framed-has None c j h = h
  framed-has (Some f) c j h = stamped-has f c j h

  left-has : (m : Mark) (f : Option FrameNo) (c : LeafContext) → K m → OptionHolds J f → HasMarks K J c → HasMarks K J (left m f c)
  left-has m f c k j h = by (is_first m c.marks)
    where
      by : (b : Bool) → HasMarks K J (if b then unmarked c else framed f (entered m c))
      by true = record { marks = each-dropped K 1 c.marks h.marks; stamps = h.stamps }
      by false = framed-has f (entered m c) j (entered-has m c k h)

  pub act-has : (x : Change) (c : LeafContext) → IsChangeOf K J x → HasMarks K J c → HasMarks K J (act x c)
  act-has (change.Enter m) c k h = entered-has m c k h
  act-has (change.Leave m f) c k h = left-has m f c k.0 k.1 h
  act-has (change.Stamp f) c k h = stamped-has f c k h

  acts-have : (xs : List Change) (c : LeafContext) → Each (IsChangeOf K J) xs → HasMarks K J c → HasMarks K J (acts xs c)
  acts-have [] c k h = h
  acts-have (x ∷ xs) c k h = acts-have xs (act x c) k.1 (act-has x c k.0 h)

  begins-with : (c : LeafContext) → IsBeginning K c → HasMarks K J c
  begins-with c (inl e) = subst (HasMarks K J) (sym e) (record { marks = tt; stamps = tt })
  begins-with c (inr (m, (k, e))) = subst (HasMarks K J) (sym e) (record { marks = (k, tt); stamps = tt })

  -- what its history had it has
  pub history-marks : (c : LeafContext) → HasHistory K J c → HasMarks K J c
  history-marks c h = subst (HasMarks K J) h.gives (acts-have h.changes h.beginning h.are (begins-with h.beginning h.begins))

  pub beginning-has : (c : LeafContext) → IsBeginning K c → HasHistory K J c
  beginning-has c b = record { beginning = c; begins = b; changes = []; are = tt; gives = refl }

  pub act-follows : (x : Change) (c : LeafContext) → IsChangeOf K J x → HasHistory K J c → HasHistory K J (act x c)
  act-follows x c k h = record {
    beginning = h.beginning;
    begins = h.begins;
    changes = h.changes ++ x ∷ [];
    are = each-and (IsChangeOf K J) h.changes x h.are k;
    gives = sym (acts-more h.changes x h.beginning) ∙ ap (act x) h.gives;
  }

module _ (K K' : Mark → Type 0) (J J' : FrameNo → Type 0) (more : (m : Mark) → K m → K' m) (wide : (f : FrameNo) → J f → J' f) where
  marks-wider : (ms : List Mark) → Each K ms → Each K' ms
  marks-wider ms h = each-implied K K' more ms h

  pub has-wider : (c : LeafContext) → HasMarks K J c → HasMarks K' J' c
  has-wider c h = record {
    marks = marks-wider c.marks h.marks;
    stamps = each-implied (λ (t : Stamp). J t.frame × Each K t.marks) (λ (t : Stamp). J' t.frame × Each K' t.marks) (λ t k. (wide t.frame k.0, marks-wider t.marks k.1)) c.stamps h.stamps;
  }

  option-wider : (o : Option FrameNo) → OptionHolds J o → OptionHolds J' o
  option-wider None h = tt
  option-wider (Some f) h = wide f h

  pub change-wider : (x : Change) → IsChangeOf K J x → IsChangeOf K' J' x
  change-wider (change.Enter m) h = more m h
  change-wider (change.Leave m f) h = (more m h.0, option-wider f h.1)
  change-wider (change.Stamp f) h = wide f h

  pub begins-wider : (c : LeafContext) → IsBeginning K c → IsBeginning K' c
  begins-wider c (inl e) = inl e
  begins-wider c (inr (m, (k, e))) = inr (m, (more m k, e))

  pub history-wider : (c : LeafContext) → HasHistory K J c → HasHistory K' J' c
  history-wider c h = record {
    beginning = h.beginning;
    begins = begins-wider h.beginning h.begins;
    changes = h.changes;
    are = each-implied (IsChangeOf K J) (IsChangeOf K' J') change-wider h.changes h.are;
    gives = h.gives;
  }
