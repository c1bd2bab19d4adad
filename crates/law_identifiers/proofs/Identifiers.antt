-- Known identifiers have stamps of frames that were made, so that what they stand for stays.
use Rattle.std.proofs.Common.{◌≡◌, ◌⊎◌, List, [], ◌∷◌, Option, subst, sym}
use Rattle.base_data.specs.Elements.{Each}
use Rattle.base_data.specs.declared.library.LibName.{LibName}
use Rattle.base_data.specs.declared.name.Label.{Label}
use Rattle.stx_tree.specs.Tree as tree
use Rattle.stx_tree.specs.Tree.{Tree}
use Rattle.stx_tree.specs.declared.stamp.Stamp.{Stamp}
use Rattle.expand_standing.specs.State.{State}
use Rattle.law_fresh.specs.Leaves.{TreeHolds}
use Rattle.law_fresh_expansion.specs.Made.{IsMade, StampedByMade}
use Rattle.law_fresh_expansion.proofs.Making.{are-made}
use Rattle.law_expand.specs.Named.{RefersTo, IsUse}
use Rattle.law_expand.specs.States.{IsOld}
use Rattle.law_expand.specs.Trees.{StampsAre, LeavesAre}
use Rattle.law_expand.proofs.Named.{binders-stay, references-named}
use Rattle.law_identifiers.specs.Identifiers.{IdentifiersStay, ReferencesStay}
use Rattle.expand_forms.specs.ExpandUses.{linked_code}

module _ (own : LibName) (s : State) where
  stamps-old : (ts : List Stamp) → Each (λ (t : Stamp). IsMade own s.names.number t.frame) ts → StampsAre (IsOld own s) ts
  stamps-old [] h = tt
  stamps-old (t ∷ ts) h = (h.0, stamps-old ts h.1)

  leaves-old : (t : Tree) → TreeHolds (StampedByMade own s.names.number) t → LeavesAre (IsOld own s) t
  leaves-old (tree.atom p a) h = tt
  leaves-old (tree.leaf p x c) h = stamps-old c.stamps h
  leaves-old (tree.pair p a d) h = (leaves-old a h.0, leaves-old d h.1)
  leaves-old (tree.vector p d) h = leaves-old d h

pub they-stay : IdentifiersStay
they-stay libs own records room place level depth t s u c new holds e id h =
    binders-stay records room place level depth t s u c e id
    (subst (λ (l : LibName). LeavesAre (IsOld l s) id) (sym holds.stage.library) (leaves-old own s id (are-made libs own s.names.number id new h)))

pub they-refer : ReferencesStay
they-refer libs own records room place level depth t s u c new holds e id h leaf more spot high deep v d f =
    subst (λ (o : Option Label). (RefersTo u o d × (v ≡ linked_code id d u)) ⊎ IsUse u id) (they-stay libs own records room place level depth t s u c new holds e id h) (references-named records more spot high deep id u v d leaf f)
