-- The stamps of leaves with known marks and frames name frames that were made.
use Rattle.std.proofs.Common.{ℕ, List, subst, inl, inr}
use Rattle.base_data.proofs.ElementLemmas.{each-implied}
use Rattle.base_data.specs.Elements.{Among, Each}
use Rattle.base_data.specs.declared.library.LibName.{LibName}
use Rattle.base_data.specs.declared.name.FrameNo.{FrameNo}
use Rattle.stx_tree.specs.Context.{LeafContext}
use Rattle.stx_tree.specs.declared.stamp.Stamp.{Stamp}
use Rattle.law_fresh.proofs.Wider.{tree_wider}
use Rattle.law_fresh_expansion.specs.Known.{IsKnown, IsKnownFrame, IsNewAmong, HasKnown}
use Rattle.law_fresh_expansion.specs.Made.{IsMade, StampedByMade, StampsAreMade}

module _ (libs : List LibName) (own : LibName) (n : ℕ) (new : IsNewAmong libs own) where
  frame-made : (f : FrameNo) → IsKnownFrame libs own n f → IsMade own n f
  frame-made f (inl a) = λ e. absurd (new (subst (Among libs) e a))
  frame-made f (inr p) = λ e. p.1

  pub stamps-made : (c : LeafContext) → HasKnown libs own n c → StampedByMade own n c
  stamps-made c h =
      each-implied (λ (t : Stamp). IsKnownFrame libs own n t.frame × Each (IsKnown libs own n) t.marks) (λ (t : Stamp). IsMade own n t.frame) (λ t k. frame-made t.frame k.0) c.stamps h.stamps

pub are-made : StampsAreMade
are-made libs own n t new h = tree_wider (HasKnown libs own n) (StampedByMade own n) (stamps-made libs own n new) t h
