-- Marks under other names behave the same.
use Rattle.std.proofs.Common.{◌≡◌, Bool, true, false, cond, List, [], ◌∷◌, Option, None, Some, refl, ap, sym, ◌∙◌, map}
use Rattle.std.proofs.lemmas.List.{drop-map}
use Rattle.std.proofs.lemmas.Bool.Decides.{same_from_decides}
use Rattle.base_data.specs.declared.name.Mark.{Mark}
use Rattle.base_data.specs.declared.name.FrameNo.{FrameNo}
use Rattle.stx_tree.specs.Marks.{same_mark, is_first}
use Rattle.stx_tree.specs.SameMarks.{same_mark_decides}
use Rattle.stx_tree.specs.Context.{LeafContext, entered, framed, unmarked, left, act, acts}
use Rattle.stx_tree.specs.Tree.{Tree, atom, leaf, pair, vector}
use Rattle.stx_tree.specs.Changes.{changed}
use Rattle.stx_tree.specs.Renaming.{IsOneToOne, renamed_change, renamed_stamp, renamed_context, renamed}
use Rattle.stx_tree.specs.declared.change.Change.{Change}
use Rattle.stx_tree.specs.declared.change.Change.TheVariants.{Enter, Leave, Stamp}

module _ (r : Mark → Mark) (one : IsOneToOne r) where
  same_mark-renamed : (m n : Mark) → same_mark (r m) (r n) ≡ same_mark m n
  same_mark-renamed m n =
      same_from_decides (same_mark (r m) (r n)) (same_mark m n)
      (λ h. one m n ((same_mark_decides (r m) (r n)).0 h), λ e. (same_mark_decides (r m) (r n)).1 (ap r e))
      (same_mark_decides m n)

  is_first-renamed : (m : Mark) (ms : List Mark) → is_first (r m) (map r ms) ≡ is_first m ms
  is_first-renamed m [] = refl
  is_first-renamed m (n ∷ ns) = same_mark-renamed n m

  renamed-unmarked : (c : LeafContext) → renamed_context r (unmarked c) ≡ unmarked (renamed_context r c)
  renamed-unmarked c = ap (λ ms. let x : LeafContext = record { marks = ms; stamps = map (renamed_stamp r) c.stamps } in x) (sym (drop-map r 1 c.marks))

  renamed-framed : (f : Option FrameNo) (c : LeafContext) → renamed_context r (framed f c) ≡ framed f (renamed_context r c)
  renamed-framed None c = refl
  renamed-framed (Some f) c = refl

  renamed-left : (m : Mark) (f : Option FrameNo) (c : LeafContext) → renamed_context r (left m f c) ≡ left (r m) f (renamed_context r c)
  renamed-left m f c = go (is_first m c.marks) ∙ sym (ap (λ b. cond b (unmarked (renamed_context r c)) (framed f (entered (r m) (renamed_context r c)))) (is_first-renamed m c.marks))
    where
      go : (b : Bool) → renamed_context r (cond b (unmarked c) (framed f (entered m c))) ≡ cond b (unmarked (renamed_context r c)) (framed f (entered (r m) (renamed_context r c)))
      go true = renamed-unmarked c
      go false = renamed-framed f (entered m c)

  renamed-act : (x : Change) (c : LeafContext) → renamed_context r (act x c) ≡ act (renamed_change r x) (renamed_context r c)
  renamed-act (Enter m) c = refl
  renamed-act (Leave m f) c = renamed-left m f c
  renamed-act (Stamp f) c = refl

  renamed-acts : (xs : List Change) (c : LeafContext) → renamed_context r (acts xs c) ≡ acts (map (renamed_change r) xs) (renamed_context r c)
  renamed-acts [] c = refl
  renamed-acts (x ∷ xs) c = renamed-acts xs (act x c) ∙ ap (acts (map (renamed_change r) xs)) (renamed-act x c)

  -- to change and then rename is to rename and then change
  pub renamed-changed : (xs : List Change) (t : Tree) → renamed r (changed xs t) ≡ changed (map (renamed_change r) xs) (renamed r t)
  renamed-changed xs (atom s a) = refl
  renamed-changed xs (leaf s x c) = ap (leaf s x) (renamed-acts xs c)
  renamed-changed xs (pair s a d) = let ea = renamed-changed xs a in let ed = renamed-changed xs d in cc
  renamed-changed xs (vector s d) = ap (vector s) (renamed-changed xs d)
